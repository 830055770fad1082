-- Document 01, "From source form to compiled form". "Everything keeps its order; in a public context it keeps its
-- words." The compiled tree has no places of its own: its words are those of Encoding.
use Rattle.std.specs.Prelude.{ℕ, ◌+◌, ◌*◌, ◌-◌, max, Bool, true, false, ◌&&◌, ◌||◌, List, [], ◌∷◌, ◌++◌, map, ltb, leb, eqb, length, take, drop, replicate}
use Rattle.definitions.specs.Choice.{pick}
use Rattle.definitions.specs.Operators.{word_sort, boolean_sort}
use Rattle.definitions.specs.declared.Compiled.{Compiled}
use Rattle.definitions.specs.declared.Compiled.TheVariants.{Written, Refused}
use Rattle.definitions.specs.Image.{Expression, constant, boolean, variable, cell, unary, binary, select}
use Rattle.definitions.specs.Image.{Statement, assign, store, conditional, loop, return, call, Block, done}
use Rattle.definitions.specs.Image.{sequence, Procedure, Image, guarded, procedure_at, type_sort}
use Rattle.definitions.specs.Reading.{Parse, got, refused}
use Rattle.definitions.specs.Labels.{secret_in, rc_after, rc_after_block}
use Rattle.definitions.specs.Checking.{admitted}
use Rattle.definitions.specs.Encoding.{image_words}

-- the type word of a secret of a sort
abbrev pub secret_of : ℕ → ℕ
secret_of sort = 0x40000001 + 2 * sort

-- "T, E and LIVE are secret booleans", and so is the guard: their type word
abbrev pub secret_boolean : ℕ
secret_boolean = 0x40000003

-- "its locals move up by one": the variables from `first` on do
abbrev pub renamed : ℕ → ℕ → ℕ
renamed first x = pick (ltb x first) x (x + 1)

unfoldable pub moved : ℕ → Expression → Expression
moved first (constant p v) = constant p v
moved first (boolean p v) = boolean p v
moved first (variable p x) = variable p (renamed first x)
moved first (cell p a i) = cell p a (moved first i)
moved first (unary p o e) = unary p o (moved first e)
moved first (binary p o e f) = binary p o (moved first e) (moved first f)
moved first (select p c e f) = select p (moved first c) (moved first e) (moved first f)

unfoldable pub moved_all : ℕ → List Expression → List Expression
moved_all first es = map (λ e. moved first e) es

-- "Let act be the guard, T or E of the innermost secret arm, and LIVE if rc is secret; "13 arm LIVE" if both."
unfoldable pub act : Bool → ℕ → Bool → ℕ → Expression
act true arm true live = binary 0 13 (variable 0 arm) (variable 0 live)
act true arm false live = variable 0 arm
act false arm rc live = variable 0 live

-- in a secret context "select(act, value, v)", in a public one the value
unfoldable pub masked : Bool → Expression → Expression → Expression → Expression
masked true a e old = select 0 a e old
masked false a e old = e

-- "under an act, T := act and condition"
unfoldable pub under : Bool → Expression → Expression → Expression
under true a e = binary 0 13 a e
under false a e = e

abbrev pub one : Statement → Block
one s = sequence 0 s done

-- the statements of one block and then those of another
unfoldable pub followed_by : Block → Block → Block
followed_by done c = c
followed_by (sequence p s b) c = sequence p s (followed_by b c)

-- Document 02, wish 8: "one T and E pair for each nesting level of secret ifs". Over the image's array words and the type
-- words of the procedure's variables: the nesting levels of secret ifs in a statement and in a block; public ifs and fors
-- are none
module _ (arrays types : List ℕ) where
  unfoldable mutual
    pub statement_nesting : Statement → ℕ
    statement_nesting (assign x e) = 0
    statement_nesting (store a i e) = 0
    statement_nesting (conditional c a b) = pick (secret_in types arrays c) 1 0 + max (block_nesting a) (block_nesting b)
    statement_nesting (loop x f t b) = block_nesting b
    statement_nesting (return e) = 0
    statement_nesting (call f x es) = 0

    pub block_nesting : Block → ℕ
    block_nesting done = 0
    block_nesting (sequence p s b) = max (statement_nesting s) (block_nesting b)

-- Document 02, wish 8: "one word temporary and one boolean temporary, each only if needed": by pc and rc before a
-- statement and before a block, whether a call there in a secret context has a result of the sort
module _ (ps : List Procedure) (arrays types : List ℕ) (sort : ℕ) where
  unfoldable mutual
    pub statement_needs : Bool → Bool → Statement → Bool
    statement_needs pc rc (assign x e) = false
    statement_needs pc rc (store a i e) = false
    statement_needs pc rc (conditional c a b) = block_needs (pc || secret_in types arrays c) rc a
        || block_needs (pc || secret_in types arrays c) rc b
    statement_needs pc rc (loop x f t b) = block_needs pc (rc_after_block types arrays pc rc b) b
    statement_needs pc rc (return e) = false
    statement_needs pc rc (call f x es) = (pc || rc) && eqb (type_sort (procedure_at ps f).result) sort

    pub block_needs : Bool → Bool → Block → Bool
    block_needs pc rc done = false
    block_needs pc rc (sequence p s b) = statement_needs pc rc s || block_needs pc (rc_after types arrays pc rc s) b

-- what compiles an arm: by whether pc is secret in it, its variable, and T of the next level
abbrev pub ArmCode : Type 0
ArmCode = Bool → ℕ → ℕ → Block

-- "Secret if: T := condition, E := not T; under an act, T := act and condition, E := act and not T. The arms follow in
-- line." "An if with a public condition and a for keep their form." T is variable k, E the one after it; both arms begin
-- at the next pair
unfoldable pub compiled_if : Bool → Bool → ℕ → Bool → ℕ → ℕ → Expression → ArmCode → ArmCode → Block
compiled_if true pc arm rc live k c a b = sequence 0 (assign k (under (pc || rc) (act pc arm rc live) c))
    (sequence 0 (assign (k + 1) (under (pc || rc) (act pc arm rc live) (unary 0 0 (variable 0 k))))
    (followed_by (a true k (k + 2)) (b true (k + 1) (k + 2))))
compiled_if false pc arm rc live k c a b = one (conditional c (a pc arm k) (b pc arm k))

-- "Deferred return: RV := select(act, value, RV); LIVE := select(act, false, LIVE)."
unfoldable pub compiled_return : Bool → Expression → ℕ → Expression → Block
compiled_return true a rv e = sequence 0 (assign rv (select 0 a e (variable 0 rv)))
    (one (assign (rv + 1) (select 0 a (boolean 0 0) (variable 0 (rv + 1)))))
compiled_return false a rv e = one (return e)

-- "Call: arguments, act; result to the temporary, then select." Calling a guarded procedure "from a public context adds
-- the argument true".
unfoldable pub compiled_call : Bool → Bool → Expression → ℕ → ℕ → ℕ → List Expression → Block
compiled_call true g a k f x es =
    sequence 0 (call f k (es ++ (a ∷ []))) (one (assign x (select 0 a (variable 0 k) (variable 0 x))))
compiled_call false g a k f x es = one (call f x (es ++ pick g (boolean 0 1 ∷ []) []))

-- over procedures, array words, type words of the procedure's variables, the first that moves, RV, which LIVE follows,
-- and the temporary for results of each sort
module _ (ps : List Procedure) (arrays types : List ℕ) (first rv : ℕ) (temporary : ℕ → ℕ) where
  -- A statement, by pc and its arm's variable, rc, and T of the next level, and a block. "Assign: v := select(act,
  -- value, v). Store: select(act, value, old cell)."
  unfoldable mutual
    pub compiled_statement : Statement → Bool → ℕ → Bool → ℕ → Block
    compiled_statement (assign x e) pc arm rc k = one (assign (renamed first x)
        (masked (pc || rc) (act pc arm rc (rv + 1)) (moved first e) (variable 0 (renamed first x))))
    compiled_statement (store a i e) pc arm rc k = one (store a (moved first i)
        (masked (pc || rc) (act pc arm rc (rv + 1)) (moved first e) (cell 0 a (moved first i))))
    compiled_statement (conditional c a b) pc arm rc k =
        compiled_if (secret_in types arrays c) pc arm rc (rv + 1) k (moved first c)
        (λ q v n. compiled_block a q v rc n) (λ q v n. compiled_block b q v rc n)
    compiled_statement (loop x f t b) pc arm rc k = one (loop (renamed first x) (moved first f) (moved first t)
        (compiled_block b pc arm (rc_after_block types arrays pc rc b) k))
    compiled_statement (return e) pc arm rc k = compiled_return (pc || rc) (act pc arm rc (rv + 1)) rv (moved first e)
    compiled_statement (call f x es) pc arm rc k =
        compiled_call (pc || rc) (guarded (procedure_at ps f)) (act pc arm rc (rv + 1))
        (temporary (type_sort (procedure_at ps f).result)) f (renamed first x) (moved_all first es)

    pub compiled_block : Block → Bool → ℕ → Bool → ℕ → Block
    compiled_block done pc arm rc k = done
    compiled_block (sequence p s b) pc arm rc k = followed_by (compiled_statement s pc arm rc k)
        (compiled_block b pc arm (rc_after types arrays pc rc s) k)

-- whether "any return is deferred": rc becomes secret after just those
abbrev pub defers : List ℕ → Procedure → Bool
defers arrays p = rc_after_block p.types arrays (guarded p) false p.body

-- "A guarded procedure becomes open with one more, last parameter, a secret boolean guard"
abbrev pub guards : Procedure → ℕ
guards p = pick (guarded p) 1 0

-- "New locals follow: RV (result's type) and LIVE if any return is deferred": the number of RV
abbrev pub return_variable : Procedure → ℕ
return_variable p = length p.types + guards p

-- Document 02, wish 8: "After RV and LIVE there shall be one T and E pair for each nesting level of secret ifs, outermost
-- first": the number of T of the outermost level, and how many levels there are
abbrev pub first_pair : List ℕ → Procedure → ℕ
first_pair arrays p = return_variable p + pick (defers arrays p) 2 0

abbrev pub levels : List ℕ → Procedure → ℕ
levels arrays p = block_nesting arrays p.types p.body

-- "T, E and LIVE are secret booleans": the type words of the pairs
abbrev pub pair_types : ℕ → List ℕ
pair_types n = replicate (2 * n) secret_boolean

-- Document 02, wish 8: "then one word temporary and one boolean temporary, each only if needed": whether a procedure
-- needs that of a sort
abbrev pub needed : List Procedure → List ℕ → Procedure → ℕ → Bool
needed ps arrays p sort = block_needs ps arrays p.types sort (guarded p) false p.body

-- "one secret temporary, of the callee's result sort": the type words of the two, by whether each is needed
abbrev pub temporary_types : Bool → Bool → List ℕ
temporary_types word bool = pick word (secret_of word_sort ∷ []) [] ++ pick bool (secret_of boolean_sort ∷ []) []

-- the temporary for results of a sort, where the first of the two stands at k and the word one is needed or not
abbrev pub temporary_from : ℕ → Bool → ℕ → ℕ
temporary_from k word sort = pick (eqb sort word_sort) k (k + pick word 1 0)

-- the first variable that moves: a guarded procedure's first local; no variable of an open one does
abbrev pub first_moved : Procedure → ℕ
first_moved p = pick (guarded p) p.parameters (length p.types)

-- "LIVE := true opens the body, return RV closes it."
unfoldable pub closed : Bool → ℕ → Block → Block
closed true rv b = sequence 0 (assign (rv + 1) (boolean 0 1)) (followed_by b (one (return (variable 0 rv))))
closed false rv b = b

module _ (ps : List Procedure) (arrays : List ℕ) where
  unfoldable pub compiled_types : Procedure → List ℕ
  compiled_types p = take p.parameters p.types
      ++ (pick (guarded p) (secret_boolean ∷ []) [] ++ (drop p.parameters p.types
      ++ (pick (defers arrays p) (p.result ∷ secret_boolean ∷ []) [] ++ (pair_types (levels arrays p)
      ++ temporary_types (needed ps arrays p word_sort) (needed ps arrays p boolean_sort)))))

  abbrev pub temporary_of : Procedure → ℕ → ℕ
  temporary_of p sort = temporary_from (first_pair arrays p + 2 * levels arrays p) (needed ps arrays p word_sort) sort

  unfoldable pub compiled_body : Procedure → Block
  compiled_body p = closed (defers arrays p) (return_variable p)
      (compiled_block ps arrays p.types (first_moved p) (return_variable p) (temporary_of p)
      p.body (guarded p) p.parameters false (first_pair arrays p))

  unfoldable pub compiled_procedure : Procedure → Procedure
  compiled_procedure p = record {
    place = 0;
    mode = 0;
    parameters = p.parameters + guards p;
    result = p.result;
    types = compiled_types p;
    body = compiled_body p;
  }

  unfoldable pub compiled_procedures : List Procedure → List Procedure
  compiled_procedures some = map (λ p. compiled_procedure p) some

unfoldable pub compiled_image : Image → Image
compiled_image image = record {
  form = 1;
  arrays = image.arrays;
  procedures = compiled_procedures image.procedures image.arrays image.procedures;
}

-- "15 result over form 1's limits": 246 locals each, 16,384 words in all; one parameter more than in form 0 is within
unfoldable pub fit_locals : List Procedure → Bool
fit_locals [] = true
fit_locals (p ∷ ps) = leb (length p.types - p.parameters) 246 && fit_locals ps

abbrev pub fits : Image → Bool
fits image = fit_locals image.procedures && leb (length (image_words image)) 16384

-- "14 to 16 come after the image's own checks, in order. Output words past the result stay unchanged."
unfoldable pub written : Image → List ℕ → Compiled × List ℕ
written image out = pick (fits image)
    (pick (leb (length (image_words image)) (length out))
    (Written (length (image_words image)), image_words image ++ drop (length (image_words image)) out) (Refused 16 0, out))
    (Refused 15 0, out)

unfoldable pub compiled_tree : Parse Image → List ℕ → Compiled × List ℕ
compiled_tree (refused n p) out = (Refused n p, out)
compiled_tree (got image n) out = pick (eqb image.form 0) (written (compiled_image image) out) (Refused 14 0, out)

-- The compiler's answer, and what the lent output holds afterwards.
unfoldable pub compiled : Bool → List ℕ → List ℕ → Compiled × List ℕ
compiled whole image out = compiled_tree (admitted whole image) out
