-- Lists that stand one behind the other in a table, each padded with zeros. Assumes nothing.
use Rattle.std.specs.Prelude.{ℕ, zero, suc, ◌+◌, ◌-◌, ◌≤◌, ◌<◌, List, [], ◌∷◌, ◌++◌, map, ◌≡◌, refl, length, get_or, set, take, drop, replicate}
use Rattle.std.proofs.Common.{append_assoc, sym, ap, ◌∙◌, zero-add, suc-add, arith, length-append, take_at, get_or-append-add}
use Rattle.std.proofs.lemmas.List.{length-replicate, set-append_left, set_at}
use Rattle.std.proofs.Math.ListN.{get_or-append}
use Rattle.std.proofs.Math.Seq.{drop-append-add}
use Rattle.tables.specs.Table.{padded}

module _ {A : Type 0} where
  set_add : (xs ys : List A) (i : ℕ) (v : A) → set (xs ++ ys) (length xs + i) v ≡ xs ++ set ys i v
  set_add [] ys i v = rw (zero-add i)
  set_add (x ∷ xs) ys i v = rw (suc-add (length xs) i) (ap (λ (l : List A). x ∷ l) (set_add xs ys i v))

  -- past a segment of known length
  pub set_past : (n : ℕ) (xs ys : List A) (i : ℕ) (v : A) → length xs ≡ n → set (xs ++ ys) (n + i) v ≡ xs ++ set ys i v
  set_past n xs ys i v e = rw (← e) (set_add xs ys i v)

  pub get_d_past : (n : ℕ) (xs ys : List A) (i : ℕ) (d : A) → length xs ≡ n → get_or (xs ++ ys) (n + i) d ≡ get_or ys i d
  get_d_past n xs ys i d e = rw (← e) (get_or-append-add xs ys i d)

  pub drop_past : (n : ℕ) (xs ys : List A) (i : ℕ) → length xs ≡ n → drop (n + i) (xs ++ ys) ≡ drop i ys
  drop_past n xs ys i e = rw (← e) (drop-append-add xs ys i)

pub padded_length : (n : ℕ) (xs : List ℕ) → length xs ≤ n → length (padded n xs) ≡ n
unfolding padded
padded_length n xs h = rw (length-append xs (replicate (n - length xs) 0), length-replicate {A = ℕ} (n - length xs) 0) (omega arith)

-- one element more
pub padded_more : (n : ℕ) (xs : List ℕ) (v : ℕ) → length xs < n → set (padded n xs) (length xs) v ≡ padded n (xs ++ (v ∷ []))
unfolding padded
padded_more n xs v h =
    let l = length-append xs (v ∷ []) in
    let e : n - length xs ≡ suc (n - length (xs ++ (v ∷ []))) = omega arith in
    rw e (set_at xs 0 (replicate (n - length (xs ++ (v ∷ []))) 0) v (length xs) refl
    ∙ sym (append_assoc xs (v ∷ []) (replicate (n - length (xs ++ (v ∷ []))) 0)))

pub padded_at : (n : ℕ) (xs : List ℕ) (i : ℕ) → i < length xs → get_or (padded n xs) i 0 ≡ get_or xs i 0
unfolding padded
padded_at n xs i h = get_or-append xs (replicate (n - length xs) 0) 0 i h

pub padded_take : (n : ℕ) (xs ys : List ℕ) → take (length xs) (padded n xs ++ ys) ≡ xs
unfolding padded
padded_take n xs ys =
    rw (append_assoc xs (replicate (n - length xs) 0) ys) (take_at xs (replicate (n - length xs) 0 ++ ys) (length xs) refl)

-- stored at the end of a segment's list, where other segments follow
pub segment_more : (n : ℕ) (xs ys : List ℕ) (v : ℕ) → length xs < n → set (padded n xs ++ ys) (length xs) v ≡ padded n (xs ++ (v ∷ [])) ++ ys
segment_more n xs ys v h =
    set-append_left (padded n xs) ys (length xs) v (rw (padded_length n xs (omega arith)) h)
    ∙ ap (λ (l : List ℕ). l ++ ys) (padded_more n xs v h)

pub segment_at : (n : ℕ) (xs ys : List ℕ) (i : ℕ) → length xs ≤ n → i < length xs → get_or (padded n xs ++ ys) i 0 ≡ get_or xs i 0
segment_at n xs ys i l h =
    let p = padded_length n xs l in get_or-append (padded n xs) ys 0 i (omega arith) ∙ padded_at n xs i h

-- an element of a mapped list
pub map_at : {A : Type 0} (f : A → ℕ) (xs : List A) (i : ℕ) (d : A) → i < length xs → get_or (map f xs) i 0 ≡ f (get_or xs i d)
map_at f [] i d h = absurd (omega arith)
map_at f (x ∷ xs) zero d h = refl
map_at f (x ∷ xs) (suc i) d h = map_at f xs i d (omega arith)

pub map_length : {A : Type 0} (f : A → ℕ) (xs : List A) → length (map f xs) ≡ length xs
map_length f [] = refl
map_length f (x ∷ xs) = ap suc (map_length f xs)

pub map_more : {A : Type 0} (f : A → ℕ) (xs : List A) (x : A) → map f (xs ++ (x ∷ [])) ≡ map f xs ++ (f x ∷ [])
map_more f [] x = refl
map_more f (y ∷ xs) x = ap (λ (l : List ℕ). f y ∷ l) (map_more f xs x)
