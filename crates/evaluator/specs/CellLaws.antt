-- The table's test and number of a cell are the array words'. Assumes nothing.
use Rattle.std.specs.Prelude.{◌≡◌, Bool, true, false, List, [], ◌∷◌, ℕ, zero, suc, ◌+◌, ◌≤◌, ◌<◌, ltb, length, get_or}
use Rattle.std.proofs.Math.Path.{refl}
use Rattle.std.proofs.Common.{ap, arith, ltb-true, ltb-false}
use Rattle.std.proofs.Math.ListN.{get_or-eq_default}
use Rattle.definitions.specs.Choice.{pick}
use Rattle.definitions.specs.Image.{array_length, base_of, cell_count}
use Rattle.definitions.specs.Running.{Evaluated, value, stop, bind, emit, in_array, index_at}
use Rattle.laws.specs.ImageIn.{image_in}
use Rattle.tables.specs.Table.{arrays_in, base_in, Known}
use Rattle.tables.specs.Looking.{known_arrays, known_base, known_count, few_cells}
use Rattle.tracing.specs.Log.{Log, byte_trace}
use Rattle.evaluator.specs.Cells.{Bases, numbered, cell_read}

base_within : (ws : List ℕ) (a : ℕ) → base_of ws a ≤ cell_count ws
unfolding base_of cell_count
base_within [] a = omega arith
base_within (w ∷ ws) zero = omega arith
base_within (w ∷ ws) (suc a) = let h = base_within ws a in omega arith

pub known_bases : (image table : List ℕ) → Known image table → Bases table
unfolding Bases
known_bases image table k a h =
    let c = known_count image table k in
    let b = known_base image table k a (omega arith) in
    let w = base_within (image_in image).arrays a in
    let m = few_cells image table k in
    omega arith

-- an index below the length is one of an array that is there
pub array_there : (ws : List ℕ) (a i : ℕ) → i < array_length (get_or ws a 0) → a < length ws
array_there ws a i h = go (ltb a (length ws)) refl
  where
    go : (b : Bool) → ltb a (length ws) ≡ b → a < length ws
    go true e = ltb-true a (length ws) e
    go false e =
        let z : get_or ws a 0 ≡ 0 = get_or-eq_default ws 0 (ltb-false a (length ws) e) in
        let l : array_length (get_or ws a 0) ≡ 0 = ap array_length z in
        absurd (omega arith)

-- the table's test and number are the array's
numbered_choice : (i len a b : ℕ) (l : ℕ) (u : Log) → (i < len → a ≡ b)
    → ◌≡◌ {A = Evaluated Log ℕ} (pick (ltb i len) (value (a + i) u) (stop 23 l u))
    (bind (pick (ltb i len) (value i u) (stop 23 l u)) (λ j x. value (b + j) x))
numbered_choice i len a b l u h = go (ltb i len) refl
  where
    go : (t : Bool) → ltb i len ≡ t
        → ◌≡◌ {A = Evaluated Log ℕ} (pick t (value (a + i) u) (stop 23 l u)) (bind (pick t (value i u) (stop 23 l u)) (λ j x. value (b + j) x))
    go true e = rw (h (ltb-true i len e))
    go false e = refl

module _ (image table : List ℕ) (k : Known image table) (a l v : ℕ) (t : Log) where
  pub numbered_is : numbered table a l v t
      ≡ bind (index_at byte_trace (image_in image).arrays a l v t) (λ j u. value (base_of (image_in image).arrays a + j) u)
  unfolding numbered index_at in_array
  numbered_is = go (emit byte_trace 4 l v t)
    where
      go : (x : Evaluated Log ℕ)
          → bind x (λ i u. pick (ltb i (array_length (get_or (arrays_in table) a 0))) (value (base_in table a + i) u) (stop 23 l u))
          ≡ bind (bind x (λ i u. pick (ltb i (array_length (get_or (image_in image).arrays a 0))) (value i u) (stop 23 l u)))
          (λ j u. value (base_of (image_in image).arrays a + j) u)
      go (value i u) =
          rw (known_arrays image table k)
          (numbered_choice i (array_length (get_or (image_in image).arrays a 0)) (base_in table a) (base_of (image_in image).arrays a) l u
          (λ h. known_base image table k a (array_there (image_in image).arrays a i h)))
      go (stop n q u) = refl

  pub cell_is : (cs : List ℕ) → cell_read table cs a l v t
      ≡ bind (index_at byte_trace (image_in image).arrays a l v t) (λ j u. value (get_or cs (base_of (image_in image).arrays a + j) 0) u)
  unfolding cell_read
  cell_is cs = rw numbered_is (go (index_at byte_trace (image_in image).arrays a l v t))
    where
      go : (x : Evaluated Log ℕ)
          → bind (bind x (λ j u. value (base_of (image_in image).arrays a + j) u)) (λ n u. value (get_or cs n 0) u)
          ≡ bind x (λ j u. value (get_or cs (base_of (image_in image).arrays a + j) 0) u)
      go (value i u) = refl
      go (stop n q u) = refl
