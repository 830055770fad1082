-- The rule's number is the one that the proposition gives a block. Assumes nothing.
use Rattle.std.specs.Prelude.{ℕ, ◌-◌, ◌≤◌, ◌<◌, Bool, true, false, List, ◌++◌, ◌≡◌, refl, length, take, replicate}
use Rattle.std.proofs.Common.{sym, subst, ◌∙◌, arith, length-append, length-take-le}
use Rattle.std.proofs.lemmas.List.{length-replicate}
use Rattle.definitions.specs.Choice.{pick}
use Rattle.statements.specs.Statements.{Iff}
use Rattle.laws.specs.Tests.{false_true}
use Rattle.padding.specs.Rule.{last_cell, is_padded, unpadded, Padded, Unpads, padded, otherwise}
use Rattle.padding.proofs.Padded.{taken_as_padded, whole_block}

-- The rule gives a block this number, and no other.
pub unpadded_exactly : (block : List ℕ) (k : ℕ) → Iff (unpadded block ≡ k) (Unpads block k)
unfolding unpadded
unpadded_exactly block k = (λ e. subst (λ (x : ℕ). Unpads block x) e (number (is_padded block) refl), back k)
  where
    number : (b : Bool) → is_padded block ≡ b → Unpads block (pick b (16 - last_cell block) 255)
    number true e =
        let p = whole_block block e in
        let w = p.whole in
        let l = length-take-le (16 - last_cell block) block (omega arith) in
        subst (λ (x : ℕ). Unpads block x) l (padded (take (16 - last_cell block) block) (last_cell block) p)
    number false e = otherwise (λ content n p. let (t, _) = taken_as_padded block content n p in false_true (sym e ∙ t))

    not_taken : (b : Bool) → is_padded block ≡ b → ((content : List ℕ) (n : ℕ) → Padded block content n → ⊥)
        → pick b (16 - last_cell block) 255 ≡ 255
    not_taken true e f = absurd (f (take (16 - last_cell block) block) (last_cell block) (whole_block block e))
    not_taken false e f = refl

    back : (j : ℕ) → Unpads block j → unpadded block ≡ j
    back j (padded content n p) = let (t, l) = taken_as_padded block content n p in rw t l
    back j (otherwise f) = not_taken (is_padded block) refl f

-- What is padded by the RFC's formula has the number of its content's length.
pub removes : (content : List ℕ) → length content < 16 → unpadded (content ++ replicate (16 - length content) (16 - length content)) ≡ length content
removes content h =
    let n : ℕ = 16 - length content in
    let a = length-append content (replicate n n) in
    let b = length-replicate n n in
    let w : length (content ++ replicate n n) ≡ 16 = omega arith in
    let s : 1 ≤ n = omega arith in
    let (_, back) = unpadded_exactly (content ++ replicate n n) (length content) in
    back (padded content n (record { whole = w; some = s; ends = refl }))
