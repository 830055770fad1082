-- The table of the ends of blocks that reading an image leaves for the passes after. Assumes nothing.
use Rattle.std.specs.Prelude.{◌≡◌, Bool, true, false, List, ℕ, zero, suc, ◌+◌, ◌≤◌, eqb, ltb, length, set, replicate, Option, None, Some}
use Rattle.std.proofs.Math.Path.{refl, ap}
use Rattle.std.proofs.Common.{sym, ◌∙◌, arith, eqb-true, ltb-true, ltb-false, get_or-set_same, get_or-set_other}
use Rattle.std.proofs.lemmas.Bool.{eqb-false}
use Rattle.std.proofs.Math.ListN.{get_or}
use Rattle.std.proofs.Math.Seq.{set_out}
use Rattle.definitions.specs.Choice.{pick}
use Rattle.definitions.specs.Image.{Block}
use Rattle.definitions.specs.Reading.{got, read_block}
use Rattle.laws.specs.Parses.{ok, end_of, got_ok, end_of_lem}
use Rattle.laws.specs.Levels.{Agree, grow_got, grow_block}
use Rattle.laws.specs.Later.{one_block}

-- Each entry that is not 0 is the place after the block that begins there. The blocks are read as those of procedures up to `me`: only the numbers of parameters below it count.
unfoldable pub Sound : List ℕ → List ℕ → ℕ → List ℕ → Type 0
Sound image params me ends =
    (at : ℕ) → (get_or ends at 0 ≡ 0 → ⊥)
    → (l : ℕ) × (f : ℕ) × (b : Block) × (f ≤ me) × (read_block l params f image at ≡ got b (get_or ends at 0))

-- the same of whichever procedures: what passes after reading use
unfoldable pub BlockEnds : List ℕ → List ℕ → List ℕ → Type 0
BlockEnds image params ends =
    (at : ℕ) → (get_or ends at 0 ≡ 0 → ⊥) → (l : ℕ) × (f : ℕ) × (b : Block) × (read_block l params f image at ≡ got b (get_or ends at 0))

pub sound_ends : (image params : List ℕ) (me : ℕ) (ends : List ℕ) → Sound image params me ends → BlockEnds image params ends
unfolding Sound BlockEnds
sound_ends image params me ends s at h = let (l, f, b, le, q) = s at h in (l, f, b, q)

-- an end that does not fit an entry, or has none, is not stored
abbrev pub marked : List ℕ → ℕ → ℕ → List ℕ
marked ends at end = pick (ltb end 65536) (set ends at end) ends

-- an entry of 0 is none
abbrev pub known_end : ℕ → Option ℕ
known_end e = pick (eqb e 0) None (Some e)

zero_at : (n a : ℕ) → ◌≡◌ {A = ℕ} (get_or (replicate n 0) a 0) 0
zero_at zero a = refl
zero_at (suc n) zero = refl
zero_at (suc n) (suc a) = zero_at n a

module _ (image params : List ℕ) (me : ℕ) where
  -- an entry is stored where a block was read
  set_sound : (ends : List ℕ) (at l : ℕ) (b : Block) (n : ℕ) → Sound image params me ends → read_block l params me image at ≡ got b n
      → Sound image params me (set ends at n)
  unfolding Sound
  set_sound ends at l b n s r a f = here (ltb at (length ends)) (eqb a at) refl refl
    where
      other : get_or (set ends at n) a 0 ≡ get_or ends a 0
          → (k : ℕ) × (g : ℕ) × (c : Block) × (g ≤ me) × (read_block k params g image a ≡ got c (get_or (set ends at n) a 0))
      other e = let (k, g, c, le, q) = s a (λ z. f (e ∙ z)) in (k, g, c, le, q ∙ ap (λ z. got c z) (sym e))

      here : (t e : Bool) → ltb at (length ends) ≡ t → eqb a at ≡ e
          → (k : ℕ) × (g : ℕ) × (c : Block) × (g ≤ me) × (read_block k params g image a ≡ got c (get_or (set ends at n) a 0))
      here true true p q =
          let same : a ≡ at = eqb-true a at q in (
            l,
            me,
            b,
            omega arith,
            ap (λ z. read_block l params me image z) same ∙ r
                ∙ ap (λ z. got b z) (sym (ap (λ z. get_or (set ends at n) z 0) same ∙ get_or-set_same ends at n 0 (ltb-true at (length ends) p))),
          )
      here true false p q = other (get_or-set_other ends at a n 0 (eqb-false a at q))
      here false e p q = other (ap (λ z. get_or z a 0) (set_out ends at n (ltb-false at (length ends) p)))

  pub mark_sound : (ends : List ℕ) (at l : ℕ) (b : Block) (n : ℕ) → Sound image params me ends → read_block l params me image at ≡ got b n
      → Sound image params me (marked ends at n)
  mark_sound ends at l b n s r = go (ltb n 65536)
    where
      go : (t : Bool) → Sound image params me (pick t (set ends at n) ends)
      go true = set_sound ends at l b n s r
      go false = s

  -- a table of zeros says nothing
  pub zeros_sound : (n : ℕ) → Sound image params me (replicate n 0)
  unfolding Sound
  zeros_sound n a f = absurd (f (zero_at n a))

-- the entry of a place at which a block reads is its end
pub table_end : (image params ends : List ℕ) (at l f : ℕ) → BlockEnds image params ends → (get_or ends at 0 ≡ 0 → ⊥)
    → ok (read_block l params f image at) ≡ true → get_or ends at 0 ≡ end_of (read_block l params f image at)
unfolding BlockEnds
table_end image params ends at l f s h t =
    let (k, g, c, q) = s at h in
    let (b, n, r) = got_ok (read_block l params f image at) t in
    (one_block k l params g f image at c b (get_or ends at 0) n q r).1 ∙ sym (end_of_lem (read_block l params f image at) b n r)

-- procedures after the blocks' own may be made known
pub later_sound : (image params params' : List ℕ) (me : ℕ) (ends : List ℕ) → Agree me params params' → Sound image params me ends
    → Sound image params' (me + 1) ends
unfolding Sound
later_sound image params params' me ends agree s at h =
    let (l, f, b, le, q) = s at h in
    (l, f, b, omega arith, grow_got (grow_block params params' f (λ g below. agree g (omega arith)) image l l (omega arith) at) q)
