-- A block that is made of its content and its padding passes the rule's test, and one that passes it is made so. Assumes nothing.
use Rattle.std.specs.Prelude.{ℕ, zero, suc, ◌+◌, ◌-◌, ◌≤◌, true, ◌&&◌, List, [], ◌∷◌, ◌++◌, ◌≡◌, refl, eqb, leb, length, get_or, take, drop, replicate}
use Rattle.std.proofs.Common.{sym, ap, ◌∙◌, arith, eqb-true, leb-true, le-leb, eq-eqb, length-append, length-drop, take-append-drop, drop_at, get_or-append-add}
use Rattle.std.proofs.lemmas.List.{length-replicate, get_or-replicate}
use Rattle.laws.specs.Tests.{and_left, and_right}
use Rattle.padding.specs.Rule.{last_cell, all_hold, ends_in, is_padded, Padded}

-- cells that all hold n are so many of n, and these do
all_replicate : (n : ℕ) (cs : List ℕ) → all_hold n cs ≡ true → cs ≡ replicate (length cs) n
unfolding all_hold
all_replicate n [] e = refl
all_replicate n (c ∷ cs) e =
    let h = eqb-true c n (and_left (eqb c n) (all_hold n cs) e) in rw h (ap (λ (x : List ℕ). n ∷ x) (all_replicate n cs (and_right (eqb c n) (all_hold n cs) e)))

replicate_all : (n k : ℕ) → all_hold n (replicate k n) ≡ true
unfolding all_hold
replicate_all n zero = refl
replicate_all n (suc k) = rw (eq-eqb n n refl) (replicate_all n k)

-- what the test for padding of n cells says
parts : (n : ℕ) (block : List ℕ) → ends_in n block ≡ true → (1 ≤ n) × (n ≤ 16) × (all_hold n (drop (16 - n) block) ≡ true)
parts n block e =
    let f = and_right (leb 1 n) (leb n 16 && all_hold n (drop (16 - n) block)) e in (
      leb-true 1 n (and_left (leb 1 n) (leb n 16 && all_hold n (drop (16 - n) block)) e),
      leb-true n 16 (and_left (leb n 16) (all_hold n (drop (16 - n) block)) f),
      and_right (leb n 16) (all_hold n (drop (16 - n) block)) f,
    )

-- a block that passes it is made of its content and its padding
split : (n : ℕ) (block : List ℕ) → length block ≡ 16 → ends_in n block ≡ true → Padded block (take (16 - n) block) n
split n block w e =
    let (some, most, all) = parts n block e in
    let d = length-drop (16 - n) block in
    let k : length (drop (16 - n) block) ≡ n = omega arith in
    record {
      whole = w;
      some = some;
      ends = sym (take-append-drop (16 - n) block)
          ∙ ap (λ (x : List ℕ). take (16 - n) block ++ x) (all_replicate n (drop (16 - n) block) all ∙ ap (λ (x : ℕ). replicate x n) k);
    }

-- the last cell of a padded block is the number of its padding
last_is : (content : List ℕ) (n : ℕ) → 1 ≤ n → length content + n ≡ 16 → last_cell (content ++ replicate n n) ≡ n
last_is content n h e =
    let k : 15 ≡ length content + (n - 1) = omega arith in
    ap (λ (x : ℕ). get_or (content ++ replicate n n) x 0) k ∙ (get_or-append-add content (replicate n n) (n - 1) 0 ∙ get_or-replicate n (n - 1) n 0 (omega arith))

-- a block that is made so passes the test, and its content is as long as the rule says
pub taken_as_padded : (block content : List ℕ) (n : ℕ) → Padded block content n → (is_padded block ≡ true) × (16 - last_cell block ≡ length content)
taken_as_padded block content n p =
    let a = length-append content (replicate n n) in
    let b = length-replicate n n in
    let w = ap (λ (x : List ℕ). length x) (sym p.ends) ∙ p.whole in
    let some = p.some in
    let s : length content + n ≡ 16 = omega arith in
    let l : last_cell block ≡ n = ap (λ (x : List ℕ). last_cell x) p.ends ∙ last_is content n some s in
    let m : n ≤ 16 = omega arith in
    let d : drop (16 - n) block ≡ replicate n n = ap (λ (x : List ℕ). drop (16 - n) x) p.ends ∙ drop_at content (replicate n n) (16 - n) (omega arith) in
    (rw (p.whole, l, le-leb 1 n some, le-leb n 16 m, d) (replicate_all n n), rw l (omega arith))

-- the test, taken apart
pub whole_block : (block : List ℕ) → is_padded block ≡ true → Padded block (take (16 - last_cell block) block) (last_cell block)
whole_block block e =
    split (last_cell block) block (eqb-true (length block) 16 (and_left (eqb (length block) 16) (ends_in (last_cell block) block) e))
    (and_right (eqb (length block) 16) (ends_in (last_cell block) block) e)
