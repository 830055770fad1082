-- A procedure as the compiler sees it, and what it keeps at a place of its body: which variables of the compiled frame keep their values
-- there, and where new ones are free. Assumes nothing.
use Rattle.std.specs.Prelude.{◌≡◌, refl, ◌≢◌, Bool, true, false, List, ℕ, ◌+◌, ◌<◌, ◌≤◌, ltb, length, get_or}
use Rattle.std.proofs.Common.{arith, ltb-true, ltb-false}
use Rattle.definitions.specs.Choice.{pick}
use Rattle.definitions.specs.declared.ConstantLoop.{ConstantLoop}
use Rattle.definitions.specs.Image.{type_sort, Expression, Statement, Block, Procedure, procedure_at}
use Rattle.definitions.specs.Sorts.{outside, inside}
use Rattle.definitions.specs.Labels.{secret_in, rc_after, rc_after_block, unbounded}
use Rattle.definitions.specs.Compiling.{renamed, moved, moved_all, act}
use Rattle.preservation.specs.Evaluations.{MayBound}

-- the image's form, procedures and array words; the procedure's parameters, type words and result's type word; the first variable that
-- moves, RV, whether a return is deferred, and the temporary for results of each sort
pub record Layout : Type 0 where
  pub form : ℕ
  pub procedures : List Procedure
  pub arrays : List ℕ
  pub parameters : ℕ
  pub types : List ℕ
  pub result : ℕ
  pub first : ℕ
  pub rv : ℕ
  pub defers : Bool
  pub temporary : ℕ → ℕ

-- the compiler's functions, and the context's, over a layout: the compiled variable of one of the source; an expression, and a list of them;
-- the act; the temporary of a call of f; the rc after a statement and after a block; whether an expression is secret
abbrev pub slot : Layout → ℕ → ℕ
slot L x = renamed L.first x

abbrev pub operand : Layout → Expression → Expression
operand L e = moved L.first e

abbrev pub operands : Layout → List Expression → List Expression
operands L es = moved_all L.first es

abbrev pub act_at : Layout → Bool → ℕ → Bool → Expression
act_at L pc arm rc = act pc arm rc (L.rv + 1)

abbrev pub temporary_at : Layout → ℕ → ℕ
temporary_at L f = L.temporary (type_sort (procedure_at L.procedures f).result)

abbrev pub rc_after_at : Layout → Bool → Bool → Statement → Bool
rc_after_at L pc rc s = rc_after L.types L.arrays pc rc s

abbrev pub rc_after_block_at : Layout → Bool → Bool → Block → Bool
rc_after_block_at L pc rc b = rc_after_block L.types L.arrays pc rc b

abbrev pub secret_at : Layout → Expression → Bool
secret_at L e = secret_in L.types L.arrays e

-- what the fors around a place make of each variable, and the first compiled variable that is not in use there
pub record Scope : Type 0 where
  pub marks : List ℕ
  pub bounds : List ConstantLoop
  pub limit : ℕ

-- variables do not meet by being moved
pub renamed_injective : (first x y : ℕ) → renamed first x ≡ renamed first y → x ≡ y
renamed_injective first x y e = go (ltb x first) refl (ltb y first) refl e
  where
    go : (a : Bool) → ltb x first ≡ a → (b : Bool) → ltb y first ≡ b → pick a x (x + 1) ≡ pick b y (y + 1) → x ≡ y
    go true p true q e = e
    go true p false q e = let p' = ltb-true x first p in let q' = ltb-false y first q in omega arith
    go false p true q e = let p' = ltb-false x first p in let q' = ltb-true y first q in omega arith
    go false p false q e = omega arith

-- a compiled variable in use that is no loop variable outside its fors
abbrev pub InUse : Layout → Scope → ℕ → Type 0
InUse L S y = (y < S.limit) × ((x : ℕ) → x < length L.types → y ≡ slot L x → get_or S.marks x 0 ≢ outside)

-- a compiled variable in use that stands for no variable of the source, nor for RV or LIVE: the guard, or T or E of an if around
abbrev pub Reserved : Layout → ℕ → ℕ → Type 0
Reserved L limit y =
    (y < limit)
    × ((x : ℕ) → x < length L.types → y ≢ slot L x)
    × (L.defers ≡ true → y ≢ L.rv)
    × (L.defers ≡ true → y ≢ L.rv + 1)

-- What holds at a place: pc with its arm's variable, rc, T of the next level, the number of variables of the pairs that the code there takes, and
-- the rc after it.
pub record Allocation (L : Layout) (S : Scope) (pc : Bool) (arm : ℕ) (rc : Bool) (k size : ℕ) (end : Bool) : Type 0 where
  -- the source's variables stand below RV
  pub low : (x : ℕ) → x < length L.types → slot L x < L.rv
  pub few : length L.types ≤ 255
  pub marks_size : length S.marks ≡ 256
  pub bounds_size : length S.bounds ≡ 256
  -- bounds are those of an enclosing for
  pub tied : (x : ℕ) → MayBound (get_or S.bounds x unbounded) → (x < length L.types) × (get_or S.marks x 0 ≡ inside)
  pub base : L.rv ≤ S.limit
  pub returns : L.defers ≡ true → L.rv + 2 ≤ S.limit
  pub armed : pc ≡ true → Reserved L S.limit arm
  pub free : S.limit ≤ k
  pub room : k + size ≤ 255
  -- the temporaries stand after the pairs
  pub above : (sort : ℕ) → k + size ≤ L.temporary sort
  pub begins : rc ≡ true → L.defers ≡ true
  pub ends : end ≡ true → L.defers ≡ true
