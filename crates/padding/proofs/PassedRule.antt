-- What the passes over the cells come to, in the machine's own operators, is the rule. Assumes nothing.
use Rattle.std.specs.Prelude.{ℕ, suc, ◌+◌, ◌-◌, ◌≤◌, Bool, true, false, ◌&&◌, List, [], ◌∷◌, ◌≡◌, refl, eqb, ltb, leb, length, drop}
use Rattle.std.proofs.Common.{ap, ◌∙◌, arith, ltb-true, ltb-false, leb-true, leb-false}
use Rattle.std.proofs.Math.Seq.{drop-nil}
use Rattle.definitions.specs.Choice.{pick}
use Rattle.padding.specs.Rule.{last_cell, all_hold, ends_in, unpadded}
use Rattle.padding.proofs.Passes.{before, differs, passed, stays, spared, tested, from_zero, above, in_range}

-- r is kept exactly where those of the cells that are among the last n all hold n
kept : (n i r : ℕ) (cs : List ℕ) → n ≤ 16 → passed n i r cs ≡ pick (all_hold n (drop (16 - n - i) cs)) r 255
unfolding passed all_hold
kept n i r [] h = rw (drop-nil {A = ℕ} (16 - n - i))
kept n i r (c ∷ cs) h = go (ltb i (16 - n)) refl (λ x. kept n (i + 1) x cs h)
  where
    -- the first is one of the last n
    among : 16 - n ≤ i → ((x : ℕ) → passed n (i + 1) x cs ≡ pick (all_hold n (drop (16 - n - (i + 1)) cs)) x 255)
        → (b : Bool) → eqb c n ≡ b → passed n (i + 1) (pick (eqb (pick b 0 1) 0) r 255) cs ≡ pick (b && all_hold n cs) r 255
    among l rest true e = let k : 16 - n - (i + 1) ≡ 0 = omega arith in rest r ∙ ap (λ (x : ℕ). pick (all_hold n (drop x cs)) r 255) k
    among l rest false e = stays n (i + 1) cs

    go : (b : Bool) → ltb i (16 - n) ≡ b → ((x : ℕ) → passed n (i + 1) x cs ≡ pick (all_hold n (drop (16 - n - (i + 1)) cs)) x 255)
        → passed n (i + 1) (pick (eqb (differs n i c) 0) r 255) cs ≡ pick (all_hold n (drop (16 - n - i) (c ∷ cs))) r 255
    go true e rest =
        let l = ltb-true i (16 - n) e in let k : 16 - n - i ≡ suc (16 - n - (i + 1)) = omega arith in rw (k, spared n i c h l) (rest r)
    go false e rest =
        let l = ltb-false i (16 - n) e in let k : 16 - n - i ≡ 0 = omega arith in rw (k, tested n i c h l) (among l rest (eqb c n) refl)

-- by n, which is the last cell
by_last : (n : ℕ) (block : List ℕ) → passed n 0 (before n) block ≡ pick (ends_in n block) (16 - n) 255
by_last n block = go (leb 1 n) (leb n 16) refl refl
  where
    go : (b c : Bool) → leb 1 n ≡ b → leb n 16 ≡ c
        → passed n 0 (before n) block ≡ pick (b && (c && all_hold n (drop (16 - n) block))) (16 - n) 255
    go true true e f = let k = leb-true n 16 f in let z : 16 - n - 0 ≡ 16 - n = omega arith in rw (in_range n (leb-true 1 n e) k)
        (kept n 0 (16 - n) block k ∙ ap (λ (x : ℕ). pick (all_hold n (drop x block)) (16 - n) 255) z)
    go true false e f = rw (above n (leb-false n 16 f)) (stays n 0 block)
    go false c e f = rw (from_zero n (leb-false 1 n e)) (stays n 0 block)

-- what the run comes to is the rule's number
pub passed_rule : (block : List ℕ) → length block ≡ 16 → passed (last_cell block) 0 (before (last_cell block)) block ≡ unpadded block
unfolding unpadded
passed_rule block e = rw e (by_last (last_cell block) block)
