-- Trees that the checker accepts in a public context, as compiled trees are: what the names, sorts and labels of each part have to be.
-- Assumes nothing.
use Rattle.std.specs.Prelude.{ℕ, ◌+◌, ◌<◌, true, false, ◌&&◌, ◌||◌, not, List, [], ◌∷◌, ◌≡◌, ltb, leb, eqb, length, get_or, set}
use Rattle.definitions.specs.Operators.{operator, word_sort, boolean_sort, unary_operand, both, right}
use Rattle.definitions.specs.Image.{array_secret, type_secret, type_sort, Expression, constant, boolean, variable, cell}
use Rattle.definitions.specs.Image.{unary, binary, select, Statement, assign, store, conditional, loop, return, call}
use Rattle.definitions.specs.Image.{Block, done, sequence, Procedure, procedure_at}
use Rattle.definitions.specs.Sorts.{sort_of, sort_in, ordinary, outside, inside}
use Rattle.definitions.specs.Labels.{secret_in}

-- an expression over type words, array words and marks
pub data GoodExpression (types arrays marks : List ℕ) : Expression → Type 0 where
  good_constant : {p v : ℕ} → GoodExpression types arrays marks (constant p v)
  good_boolean : {p v : ℕ} → v < 2 → GoodExpression types arrays marks (boolean p v)
  good_variable : {p x : ℕ} → x < length types → eqb (get_or marks x 0) outside ≡ false → GoodExpression types arrays marks (variable p x)
  good_cell :
      {p a : ℕ} {i : Expression} → a < length arrays → GoodExpression types arrays marks i → sort_in types i ≡ word_sort → secret_in types arrays i ≡ false
      → GoodExpression types arrays marks (cell p a i)
  good_unary : {p o : ℕ} {e : Expression} → o < 3 → GoodExpression types arrays marks e → sort_in types e ≡ unary_operand o → GoodExpression types arrays marks (unary p o e)
  good_binary :
      {p o : ℕ} {e f : Expression} → o < 15 → GoodExpression types arrays marks e → GoodExpression types arrays marks f
      → sort_in types e ≡ (operator o).operands → sort_in types f ≡ (operator o).operands
      → (eqb (operator o).publics both && secret_in types arrays e) ≡ false → (leb right (operator o).publics && secret_in types arrays f) ≡ false
      → GoodExpression types arrays marks (binary p o e f)
  good_select :
      {p : ℕ} {c e f : Expression} → GoodExpression types arrays marks c → GoodExpression types arrays marks e → GoodExpression types arrays marks f
      → sort_in types c ≡ boolean_sort → sort_in types f ≡ sort_in types e → GoodExpression types arrays marks (select p c e f)

-- arguments for the parameters from number k on, of a procedure with the given type words
pub data GoodArguments (types arrays marks callee : List ℕ) : ℕ → List Expression → Type 0 where
  good_none : {k : ℕ} → GoodArguments types arrays marks callee k []
  good_more :
      {k : ℕ} {e : Expression} {es : List Expression} → GoodExpression types arrays marks e → sort_in types e ≡ sort_of callee k
      → (secret_in types arrays e && not (type_secret (get_or callee k 0))) ≡ false → GoodArguments types arrays marks callee (k + 1) es
      → GoodArguments types arrays marks callee k (e ∷ es)

-- A statement or block of the procedure numbered `me`, with the given number of parameters, type words and result's type word.
mutual
  pub data GoodStatement (ps : List Procedure) (me parameters : ℕ) (types : List ℕ) (result : ℕ) (arrays : List ℕ) : List ℕ → Statement → Type 0 where
    good_assign :
        {marks : List ℕ} {x : ℕ} {e : Expression} → x < length types → eqb (get_or marks x 0) ordinary ≡ true → GoodExpression types arrays marks e
        → sort_in types e ≡ sort_of types x → (secret_in types arrays e && not (type_secret (get_or types x 0))) ≡ false
        → GoodStatement ps me parameters types result arrays marks (assign x e)
    good_store :
        {marks : List ℕ} {a : ℕ} {i e : Expression} → a < length arrays → GoodExpression types arrays marks i → GoodExpression types arrays marks e
        → sort_in types i ≡ word_sort → sort_in types e ≡ word_sort → secret_in types arrays i ≡ false
        → (secret_in types arrays e && not (array_secret (get_or arrays a 0))) ≡ false → GoodStatement ps me parameters types result arrays marks (store a i e)
    good_conditional :
        {marks : List ℕ} {c : Expression} {a b : Block} → GoodExpression types arrays marks c → sort_in types c ≡ boolean_sort → secret_in types arrays c ≡ false
        → GoodBlock ps me parameters types result arrays marks a → GoodBlock ps me parameters types result arrays marks b
        → GoodStatement ps me parameters types result arrays marks (conditional c a b)
    good_loop :
        {marks : List ℕ} {x : ℕ} {f t : Expression} {b : Block} → x < length types
        → (ltb x parameters || (type_secret (get_or types x 0) || (eqb (type_sort (get_or types x 0)) boolean_sort || eqb (get_or marks x 0) inside))) ≡ false
        → GoodExpression types arrays marks f → GoodExpression types arrays marks t → sort_in types f ≡ word_sort → sort_in types t ≡ word_sort
        → secret_in types arrays f ≡ false → secret_in types arrays t ≡ false → GoodBlock ps me parameters types result arrays (set marks x inside) b
        → GoodStatement ps me parameters types result arrays marks (loop x f t b)
    good_return :
        {marks : List ℕ} {e : Expression} → GoodExpression types arrays marks e → sort_in types e ≡ type_sort result
        → (secret_in types arrays e && not (type_secret result)) ≡ false → GoodStatement ps me parameters types result arrays marks (return e)
    good_call :
        {marks : List ℕ} {f x : ℕ} {es : List Expression} → f < me → x < length types → eqb (get_or marks x 0) ordinary ≡ true
        → sort_of types x ≡ type_sort (procedure_at ps f).result → (type_secret (procedure_at ps f).result && not (type_secret (get_or types x 0))) ≡ false
        → length es ≡ (procedure_at ps f).parameters → GoodArguments types arrays marks (procedure_at ps f).types 0 es
        → GoodStatement ps me parameters types result arrays marks (call f x es)

  pub data GoodBlock (ps : List Procedure) (me parameters : ℕ) (types : List ℕ) (result : ℕ) (arrays : List ℕ) : List ℕ → Block → Type 0 where
    good_done : {marks : List ℕ} → GoodBlock ps me parameters types result arrays marks done
    good_step :
        {marks : List ℕ} {p : ℕ} {s : Statement} {b : Block} → GoodStatement ps me parameters types result arrays marks s
        → GoodBlock ps me parameters types result arrays marks b → GoodBlock ps me parameters types result arrays marks (sequence p s b)
