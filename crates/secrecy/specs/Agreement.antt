-- Two lists that agree where they are public: what keeps them so. And document 01's cells, "arrays in order": which place is secret.
-- Assumes nothing.
use Rattle.std.specs.Prelude.{◌≡◌, refl, Bool, true, false, List, [], ◌∷◌, ◌++◌, ℕ, zero, suc, ◌+◌, ◌-◌, ◌≤◌, ◌<◌, eqb, ltb, length, get_or, set, drop, replicate}
use Rattle.std.proofs.Common.{sym, ap, ◌∙◌, true≢false, zero-add, arith, length-set, length-append, length-drop, get_or-set_same, get_or-set_other, get_or-append-add, eqb-true, ltb-true, ltb-false, lt-ltb, le-ltb}
use Rattle.std.proofs.lemmas.List.{length-replicate, get_or-replicate}
use Rattle.std.proofs.Math.ListN.{get_or-append}
use Rattle.std.proofs.Math.Seq.{set_out}
use Rattle.std.proofs.lemmas.Bool.{eqb-false}
use Rattle.definitions.specs.Choice.{pick}
use Rattle.definitions.specs.Image.{array_secret, array_length, cell_count, base_of}

-- both lists have the given length, and at each place that is not secret they hold the same
pub record Agree (size : ℕ) (secret : ℕ → Bool) (xs ys : List ℕ) : Type 0 where
  pub left : length xs ≡ size
  pub right : length ys ≡ size
  pub here : (i : ℕ) → secret i ≡ false → get_or xs i 0 ≡ get_or ys i 0

-- a store of values that agree if the place is public
pub agree_set : {n : ℕ} {s : ℕ → Bool} {xs ys : List ℕ} (x v w : ℕ)
    → Agree n s xs ys → (s x ≡ false → v ≡ w) → Agree n s (set xs x v) (set ys x w)
agree_set {n} {s} {xs} {ys} x v w h e =
    record { left = length-set xs x v ∙ h.left; right = length-set ys x w ∙ h.right; here = λ i g. place i g (eqb i x) refl (ltb x n) refl }
  where
    place : (i : ℕ) → s i ≡ false → (b : Bool) → eqb i x ≡ b → (c : Bool) → ltb x n ≡ c → get_or (set xs x v) i 0 ≡ get_or (set ys x w) i 0
    place i g true p true q =
        let k : i ≡ x = eqb-true i x p in
        let u = ltb-true x n q in
        rw (k, get_or-set_same xs x v 0 (rw h.left u), get_or-set_same ys x w 0 (rw h.right u)) (e (rw k at g))
    place i g true p false q =
        let u = ltb-false x n q in
        rw (set_out xs x v (rw h.left u), set_out ys x w (rw h.right u)) (h.here i g)
    place i g false p c q =
        rw (get_or-set_other xs x i v 0 (eqb-false i x p), get_or-set_other ys x i w 0 (eqb-false i x p)) (h.here i g)

-- the same list behind both
pub agree_append : {n : ℕ} {s : ℕ → Bool} {xs ys : List ℕ} (zs : List ℕ)
    → Agree n s xs ys → Agree (n + length zs) s (xs ++ zs) (ys ++ zs)
agree_append {n} {s} {xs} {ys} zs h =
    record {
      left = length-append xs zs ∙ ap (λ (k : ℕ). k + length zs) h.left;
      right = length-append ys zs ∙ ap (λ (k : ℕ). k + length zs) h.right;
      here = λ i g. place i g (ltb i n) refl;
    }
  where
    place : (i : ℕ) → s i ≡ false → (b : Bool) → ltb i n ≡ b → get_or (xs ++ zs) i 0 ≡ get_or (ys ++ zs) i 0
    place i g true p =
        let u = ltb-true i n p in
        rw (get_or-append xs zs 0 i (rw h.left u), get_or-append ys zs 0 i (rw h.right u)) (h.here i g)
    place i g false p =
        let u = ltb-false i n p in
        let d : ℕ = i - n in
        let a : length xs + d ≡ i = rw h.left (omega arith) in
        let b : length ys + d ≡ i = rw h.right (omega arith) in
        let c : get_or (xs ++ zs) i 0 ≡ get_or zs d 0 = ap (λ (k : ℕ). get_or (xs ++ zs) k 0) (sym a) ∙ get_or-append-add xs zs d 0 in
        let f : get_or (ys ++ zs) i 0 ≡ get_or zs d 0 = ap (λ (k : ℕ). get_or (ys ++ zs) k 0) (sym b) ∙ get_or-append-add ys zs d 0 in c ∙ sym f

-- Whether a place in the lent cells belongs to a secret array. A spare cell belongs to none, and may hold anything.
unfoldable pub cell_secret : List ℕ → ℕ → Bool
cell_secret [] n = true
cell_secret (w ∷ ws) n = pick (ltb n (array_length w)) (array_secret w) (cell_secret ws (n - array_length w))

-- a cell has its array's label
pub layout : (arrays : List ℕ) (a i : ℕ) → i < array_length (get_or arrays a 0)
    → cell_secret arrays (base_of arrays a + i) ≡ array_secret (get_or arrays a 0)
unfolding cell_secret base_of
layout [] a i h = absurd (omega arith)
layout (w ∷ ws) zero i h = rw (zero-add i, lt-ltb i (array_length w) h)
layout (w ∷ ws) (suc a) i h =
    let k : array_length w ≤ array_length w + base_of ws a + i = omega arith in
    let e : array_length w + base_of ws a + i - array_length w ≡ base_of ws a + i = omega arith in
    rw (le-ltb (array_length w + base_of ws a + i) (array_length w) k, e) (layout ws a i h)

-- a public cell is one of the image's own
pub public_own : (arrays : List ℕ) (n : ℕ) → cell_secret arrays n ≡ false → n < cell_count arrays
unfolding cell_secret cell_count
public_own [] n h = absurd (true≢false h)
public_own (w ∷ ws) n h = by_test (ltb n (array_length w)) refl h (λ k. public_own ws (n - array_length w) k)
  where
    by_test : (b : Bool) → ltb n (array_length w) ≡ b → pick b (array_secret w) (cell_secret ws (n - array_length w)) ≡ false
        → (cell_secret ws (n - array_length w) ≡ false → n - array_length w < cell_count ws) → n < array_length w + cell_count ws
    by_test true e f r = omega (arith, ltb-true n (array_length w) e)
    by_test false e f r = omega (arith, ltb-false n (array_length w) e, r f)

-- other labels that say the same
pub agree_labels : {n : ℕ} {s r : ℕ → Bool} {xs ys : List ℕ} → ((i : ℕ) → s i ≡ r i) → Agree n s xs ys → Agree n r xs ys
agree_labels e h = record { left = h.left; right = h.right; here = λ i g. h.here i (e i ∙ g) }

-- one more in front
pub agree_cons : {n : ℕ} {s : ℕ → Bool} {xs ys : List ℕ} (v w : ℕ)
    → (s 0 ≡ false → v ≡ w) → Agree n (λ i. s (suc i)) xs ys → Agree (suc n) s (v ∷ xs) (w ∷ ys)
agree_cons {n} {s} {xs} {ys} v w e h = record { left = ap suc h.left; right = ap suc h.right; here = place }
  where
    place : (i : ℕ) → s i ≡ false → get_or (v ∷ xs) i 0 ≡ get_or (w ∷ ys) i 0
    place zero g = e g
    place (suc i) g = h.here i g

-- the image's own cells set to 0
pub agree_zeroed : (arrays : List ℕ) {n : ℕ} (xs ys : List ℕ) → length xs ≡ n → length ys ≡ n → cell_count arrays ≤ n
    → Agree n (cell_secret arrays) (replicate (cell_count arrays) 0 ++ drop (cell_count arrays) xs) (replicate (cell_count arrays) 0 ++ drop (cell_count arrays) ys)
agree_zeroed arrays {n} xs ys p q k =
    record { left = size xs p; right = size ys q; here = λ i g. zeroes xs i (public_own arrays i g) ∙ sym (zeroes ys i (public_own arrays i g)) }
  where
    size : (zs : List ℕ) → length zs ≡ n → length (replicate (cell_count arrays) 0 ++ drop (cell_count arrays) zs) ≡ n
    size zs e =
        rw (
          length-append (replicate (cell_count arrays) 0) (drop (cell_count arrays) zs),
          length-replicate {A = ℕ} (cell_count arrays) 0,
          length-drop (cell_count arrays) zs,
        ) (omega arith)

    zeroes : (zs : List ℕ) (i : ℕ) → i < cell_count arrays → get_or (replicate (cell_count arrays) 0 ++ drop (cell_count arrays) zs) i 0 ≡ 0
    zeroes zs i u =
        get_or-append (replicate (cell_count arrays) 0) (drop (cell_count arrays) zs) 0 i (rw (length-replicate {A = ℕ} (cell_count arrays) 0) u)
        ∙ get_or-replicate (cell_count arrays) i 0 0 u
