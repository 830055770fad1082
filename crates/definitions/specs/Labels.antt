-- Document 01, "Labels": labels, the context, and the faults 9 to 13. Document 02, wish 2: a sum as an index.
-- pc and rc are Bools: true is secret. All faults are listed, in the words' order; the answer is the least (Faults).
use Rattle.std.specs.Prelude.{ℕ, ◌+◌, ◌-◌, Bool, true, false, ◌&&◌, ◌||◌, not, ltb, leb, eqb, get_or, set, replicate}
use mathlib.Core.List.{List, [], ◌∷◌, ◌++◌, flat_map}
use Rattle.definitions.specs.Choice.{pick}
use Rattle.definitions.specs.declared.Fault.{Fault}
use Rattle.definitions.specs.declared.ConstantLoop.{ConstantLoop}
use Rattle.definitions.specs.Operators.{left_public, right_public, adds}
use Rattle.definitions.specs.Image.{Expression, constant, boolean, variable, cell, unary, binary, select, place_of}
use Rattle.definitions.specs.Image.{Statement, assign, store, conditional, loop, return, call, Block, done}
use Rattle.definitions.specs.Image.{sequence, Procedure, Image, guarded, procedure_at, array_secret, array_length}
use Rattle.definitions.specs.Image.{type_secret}
use Rattle.definitions.specs.Faults.{fault_if}

-- a constant: a word of kind 7, or of kind 8 with its raw word
unfoldable pub is_constant : Expression → Bool
is_constant (constant p v) = true
is_constant (boolean p v) = false
is_constant (variable p x) = false
is_constant (cell p a i) = false
is_constant (unary p o e) = false
is_constant (binary p o e f) = false
is_constant (select p c e f) = false

-- a constant's value; 0 for any other expression
unfoldable pub constant_value : Expression → ℕ
constant_value (constant p v) = v
constant_value (boolean p v) = 0
constant_value (variable p x) = 0
constant_value (cell p a i) = 0
constant_value (unary p o e) = 0
constant_value (binary p o e f) = 0
constant_value (select p c e f) = 0

-- over the type words of the variables, and the array words
module _ (types arrays : List ℕ) where
  -- "An expression is secret if an operand, variable or array in it is."
  unfoldable pub secret_in : Expression → Bool
  secret_in (constant p v) = false
  secret_in (boolean p v) = false
  secret_in (variable p x) = type_secret (get_or types x 0)
  secret_in (cell p a i) = array_secret (get_or arrays a 0) || secret_in i
  secret_in (unary p o e) = secret_in e
  secret_in (binary p o e f) = secret_in e || secret_in f
  secret_in (select p c e f) = secret_in c || (secret_in e || secret_in f)

  -- The rc after a statement, by pc and rc before it. "pc is secret .. in the arms of a secret if; both arms start with
  -- the rc before the if .. rc becomes secret after a return met while pc or rc is secret, and after an if or for that
  -- holds such a return".
  unfoldable mutual
    pub rc_after : Bool → Bool → Statement → Bool
    rc_after pc rc (assign x e) = rc
    rc_after pc rc (store a i e) = rc
    rc_after pc rc (conditional c a b) = rc_after_block (pc || secret_in c) rc a || rc_after_block (pc || secret_in c) rc b
    rc_after pc rc (loop x f t b) = rc_after_block pc rc b
    rc_after pc rc (return e) = pc || rc
    rc_after pc rc (call f x es) = rc

    pub rc_after_block : Bool → Bool → Block → Bool
    rc_after_block pc rc done = rc
    rc_after_block pc rc (sequence p s b) = rc_after_block pc (rc_after pc rc s) b

-- a for with constant bounds: the number of its passes, and its upper bound
abbrev pub constant_loop : ℕ → ℕ → ConstantLoop
constant_loop p u = record { passes = p; upper = u }

-- Of each variable, the enclosing for over it with constant bounds; where there is none, more than any length.
abbrev pub unbounded : ConstantLoop
unbounded = constant_loop 0xFFFFFFFF 0xFFFFFFFF

-- "a for passes from up to, not including, to"
abbrev pub loop_of : Expression → Expression → ConstantLoop
loop_of f t = pick (is_constant f && is_constant t)
    (constant_loop (constant_value t - constant_value f) (constant_value t)) unbounded

-- the fors around the variables inside the block of a for over x
abbrev pub bounds_inside : List ConstantLoop → ℕ → Expression → Expression → List ConstantLoop
bounds_inside bounds x f t = set bounds x (loop_of f t)

-- Wish 2: "bounded if the loop has no pass, or if the upper bound minus 1 plus the constant is below the length, in
-- whole numbers". A for with a pass has an upper bound of 1 or more, so that this plus the constant is at most the length.
abbrev pub sum_below : ConstantLoop → ℕ → ℕ → Bool
sum_below for c size = eqb for.passes 0 || leb (for.upper + c) size

-- "the variable of an enclosing constant-bound loop and a constant"
unfoldable pub bounded_sum : List ConstantLoop → ℕ → Expression → Expression → Bool
bounded_sum bounds size (variable p x) c = is_constant c && sum_below (get_or bounds x unbounded) (constant_value c) size
bounded_sum bounds size (constant p v) c = false
bounded_sum bounds size (boolean p v) c = false
bounded_sum bounds size (cell p a i) c = false
bounded_sum bounds size (unary p o e) c = false
bounded_sum bounds size (binary p o e f) c = false
bounded_sum bounds size (select p d e f) c = false

-- "In a secret context an index is a constant below the length, or the variable of an enclosing for with constant
-- bounds whose upper bound is at most the length". By wish 2 it "may also be operator 0 over the variable of an enclosing
-- constant-bound loop and a constant, in either order".
unfoldable pub bounded_index : List ConstantLoop → ℕ → Expression → Bool
bounded_index bounds size (constant p v) = ltb v size
bounded_index bounds size (boolean p v) = false
bounded_index bounds size (variable p x) = leb (get_or bounds x unbounded).upper size
bounded_index bounds size (cell p a i) = false
bounded_index bounds size (unary p o e) = false
bounded_index bounds size (binary p o e f) = adds o && (bounded_sum bounds size e f || bounded_sum bounds size f e)
bounded_index bounds size (select p c e f) = false

module _ (types arrays : List ℕ) where
  -- "10 [operand] secret where public"
  abbrev pub secret_fault : Expression → List Fault
  secret_fault e = fault_if (secret_in types arrays e) 10 (place_of e)

  -- "Indices .. are public", and bounded in a secret context: "11 [operand] unbounded"
  abbrev pub index_faults : List ConstantLoop → Bool → ℕ → Expression → List Fault
  index_faults bounds context a i =
      secret_fault i ++ fault_if (context && not (bounded_index bounds (array_length (get_or arrays a 0)) i)) 11 (place_of i)

  -- "shift counts and both sides of a division are public"; in a secret context "divisors are nonzero constants"
  abbrev pub operator_faults : Bool → ℕ → Expression → Expression → List Fault
  operator_faults context o e f = fault_if (left_public o && secret_in types arrays e) 10 (place_of e)
      ++ (fault_if (right_public o && secret_in types arrays f) 10 (place_of f)
      ++ fault_if (context && (left_public o && eqb (constant_value f) 0)) 11 (place_of f))

  module _ (bounds : List ConstantLoop) (context : Bool) where
    unfoldable pub label_faults : Expression → List Fault
    label_faults (constant p v) = []
    label_faults (boolean p v) = []
    label_faults (variable p x) = []
    label_faults (cell p a i) = label_faults i ++ index_faults bounds context a i
    label_faults (unary p o e) = label_faults e
    label_faults (binary p o e f) = label_faults e ++ (label_faults f ++ operator_faults context o e f)
    label_faults (select p c e f) = label_faults c ++ (label_faults e ++ label_faults f)

    -- "A secret value .. never reaches a public .. parameter (value only)": 9 at the argument. The parameters' type
    -- words are those of the called procedure, from number k on.
    unfoldable pub argument_label_faults : List ℕ → ℕ → List Expression → List Fault
    argument_label_faults callee k [] = []
    argument_label_faults callee k (e ∷ es) = label_faults e
        ++ (fault_if (secret_in types arrays e && not (type_secret (get_or callee k 0))) 9 (place_of e)
        ++ argument_label_faults callee (k + 1) es)

    -- "Indices, loop bounds .. are public"; in a secret context "loop bounds are constants"
    abbrev pub loop_bound_faults : Expression → List Fault
    loop_bound_faults e = label_faults e ++ (secret_fault e ++ fault_if (context && not (is_constant e)) 11 (place_of e))

-- over the image's form, procedures and array words; the type words and the result's type word of the procedure
module _ (form : ℕ) (ps : List Procedure) (arrays types : List ℕ) (result : ℕ) where
  -- The faults of a statement at place p, by the bounds, pc and rc there, and of a block. "The context is secret if pc
  -- or rc is." "a for's bounds use the rc before it", "a for's body is checked with the rc it ends with when begun from
  -- the rc before it".
  unfoldable mutual
    pub statement_label_faults : List ConstantLoop → Bool → Bool → ℕ → Statement → List Fault
    statement_label_faults bounds pc rc p (assign x e) =
        fault_if ((secret_in types arrays e || (pc || rc)) && not (type_secret (get_or types x 0))) 9 p
        ++ label_faults types arrays bounds (pc || rc) e
    statement_label_faults bounds pc rc p (store a i e) =
        fault_if ((secret_in types arrays e || (pc || rc)) && not (array_secret (get_or arrays a 0))) 9 p
        ++ (label_faults types arrays bounds (pc || rc) i
        ++ (index_faults types arrays bounds (pc || rc) a i ++ label_faults types arrays bounds (pc || rc) e))
    statement_label_faults bounds pc rc p (conditional c a b) = fault_if (eqb form 1 && secret_in types arrays c) 13 p
        ++ (label_faults types arrays bounds (pc || rc) c
        ++ (block_label_faults bounds (pc || secret_in types arrays c) rc a
        ++ block_label_faults bounds (pc || secret_in types arrays c) rc b))
    statement_label_faults bounds pc rc p (loop x f t b) = loop_bound_faults types arrays bounds (pc || rc) f
        ++ (loop_bound_faults types arrays bounds (pc || rc) t
        ++ block_label_faults (bounds_inside bounds x f t) pc (rc_after_block types arrays pc rc b) b)
    statement_label_faults bounds pc rc p (return e) =
        fault_if ((secret_in types arrays e || (pc || rc)) && not (type_secret result)) 9 p
        ++ label_faults types arrays bounds (pc || rc) e
    statement_label_faults bounds pc rc p (call f x es) =
        fault_if ((type_secret (procedure_at ps f).result || (pc || rc)) && not (type_secret (get_or types x 0))) 9 p
        ++ (fault_if ((pc || rc) && not (guarded (procedure_at ps f))) 12 p
        ++ argument_label_faults types arrays bounds (pc || rc) (procedure_at ps f).types 0 es)

    pub block_label_faults : List ConstantLoop → Bool → Bool → Block → List Fault
    block_label_faults bounds pc rc done = []
    block_label_faults bounds pc rc (sequence p s b) =
        statement_label_faults bounds pc rc p s ++ block_label_faults bounds pc (rc_after types arrays pc rc s) b

-- "pc is secret in a guarded body". A for, or none, for each number that a variable can have: at most 255 of them.
unfoldable pub procedure_label_faults : Image → Procedure → List Fault
procedure_label_faults image me =
    block_label_faults image.form image.procedures image.arrays me.types me.result
    (replicate 256 unbounded) (guarded me) false me.body

unfoldable pub procedures_label_faults : Image → List Procedure → List Fault
procedures_label_faults image ps = flat_map (λ me. procedure_label_faults image me) ps

unfoldable pub image_label_faults : Image → List Fault
image_label_faults image = procedures_label_faults image image.procedures
