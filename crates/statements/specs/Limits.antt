-- Document 01, "Image words": the limits that an image keeps, said of its tree. What reading refuses with 1 to 5 is words that spell no such tree, or
-- too many of them. Each clause has the paper's words over it; 268435456 is 2 ^ 28, one more than the largest payload.
-- "Level: the body is at 1; a statement, block or operand is one below the word it belongs to." The paper counts levels from 1 up. Here a tree is
-- given how many levels there are for it, its own one among them, and each of its parts is given one fewer; a part that is given none does not fit.
-- Assumes nothing.
use Rattle.std.specs.Prelude.{ℕ, suc, ◌+◌, ◌-◌, ◌≤◌, ◌<◌, true, List, [], ◌∷◌, ◌≡◌, eqb, length}
use Rattle.definitions.specs.Choice.{pick}
use Rattle.definitions.specs.Image.{Expression, constant, boolean, variable, cell, unary, binary, select, Statement}
use Rattle.definitions.specs.Image.{assign, store, conditional, loop, return, call, Block, done, sequence, Procedure}
use Rattle.definitions.specs.Image.{Image, procedure_at, largest_level, array_length, array_word, type_word}

-- ---- Expressions, with the levels that there are for them

pub data FitsExpression : ℕ → Expression → Type 0 where
  -- "7: constant below 2^28. 8 ..: the next word is a raw constant of at least 2^28": a constant may be any word
  fit_constant : {l p v : ℕ} → FitsExpression (suc l) (constant p v)
  -- "9: boolean 0 or 1."
  fit_boolean : {l p v : ℕ} → v < 2 → FitsExpression (suc l) (boolean p v)
  -- "A: variable." Its number is a payload; that there is such a variable is no limit, but rule 6.
  fit_variable : {l p x : ℕ} → x < 268435456 → FitsExpression (suc l) (variable p x)
  -- "B: array, then index."
  fit_cell : {l p a : ℕ} {i : Expression} → a < 268435456 → FitsExpression l i → FitsExpression (suc l) (cell p a i)
  -- "C unary: 0 not, 1 complement, 2 boolean as word."
  fit_unary : {l p o : ℕ} {e : Expression} → o < 3 → FitsExpression l e → FitsExpression (suc l) (unary p o e)
  -- "D binary." There are fifteen binary operators, from 0 to 14.
  fit_binary : {l p o : ℕ} {e f : Expression} → o < 15 → FitsExpression l e → FitsExpression l f → FitsExpression (suc l) (binary p o e f)
  -- "E (payload 0) select: condition, value if true, value if false"
  fit_select :
      {l p : ℕ} {c e f : Expression} → FitsExpression l c → FitsExpression l e → FitsExpression l f → FitsExpression (suc l) (select p c e f)

-- the arguments of a call
pub data FitsAll (l : ℕ) : List Expression → Type 0 where
  fit_none : FitsAll l []
  fit_more : {e : Expression} {es : List Expression} → FitsExpression l e → FitsAll l es → FitsAll l (e ∷ es)

-- ---- Statements and blocks of the procedure numbered `me`; `arity` gives the number of parameters of each procedure

mutual
  -- "6, statement: op × 65536 + q."
  pub data FitsStatement (arity : ℕ → ℕ) (me : ℕ) : ℕ → Statement → Type 0 where
    -- "0 assign variable q: value."
    fit_assign : {l x : ℕ} {e : Expression} → x < 65536 → FitsExpression l e → FitsStatement arity me (suc l) (assign x e)
    -- "1 store in array q: index, value."
    fit_store : {l a : ℕ} {i e : Expression} → a < 65536 → FitsExpression l i → FitsExpression l e → FitsStatement arity me (suc l) (store a i e)
    -- "2 if (q 0): condition, then-block, else-block."
    fit_conditional :
        {l : ℕ} {c : Expression} {a b : Block} → FitsExpression l c → FitsBlock arity me l a → FitsBlock arity me l b
        → FitsStatement arity me (suc l) (conditional c a b)
    -- "3 for, variable q: from, to, block."
    fit_loop :
        {l x : ℕ} {f t : Expression} {b : Block} → x < 65536 → FitsExpression l f → FitsExpression l t → FitsBlock arity me l b
        → FitsStatement arity me (suc l) (loop x f t b)
    -- "4 return (q 0): value."
    fit_return : {l : ℕ} {e : Expression} → FitsExpression l e → FitsStatement arity me (suc l) (return e)
    -- "5 call, q = procedure × 256 + result variable: one value per parameter; only a lower-numbered procedure"
    fit_call :
        {l f x : ℕ} {es : List Expression} → f < me → x < 256 → length es ≡ arity f → FitsAll l es → FitsStatement arity me (suc l) (call f x es)

  -- "5, block: a count, then that many statements."
  pub data FitsBlock (arity : ℕ → ℕ) (me : ℕ) : ℕ → Block → Type 0 where
    fit_block : {l : ℕ} {b : Block} → FitsStatements arity me l b → FitsBlock arity me (suc l) b

  -- the statements of a block, which are one level below its word
  pub data FitsStatements (arity : ℕ → ℕ) (me : ℕ) : ℕ → Block → Type 0 where
    fit_done : {l : ℕ} → FitsStatements arity me l done
    fit_sequence : {l p : ℕ} {s : Statement} {b : Block} → FitsStatement arity me l s → FitsStatements arity me l b → FitsStatements arity me l (sequence p s b)

-- ---- Procedures

-- "4, type: sort × 2 + label; sort 0 word, 1 boolean."
pub data AllTypes : List ℕ → Type 0 where
  no_types : AllTypes []
  more_types : {w : ℕ} {ws : List ℕ} → type_word w ≡ true → AllTypes ws → AllTypes (w ∷ ws)

-- "3 starts a procedure: mode × 65536 + parameters × 256 + locals." The type words are those of the parameters, then of the locals.
pub record FitsProcedure (form : ℕ) (arity : ℕ → ℕ) (me : ℕ) (p : Procedure) : Type 0 where
  -- "Mode 0 open, 1 guarded (form 0 only)."
  pub mode_fits : p.mode + form ≤ 1
  -- "At most 8 parameters and 64 locals in form 0, 9 and 246 in form 1."
  pub few_parameters : p.parameters ≤ 8 + form
  pub parameters_typed : p.parameters ≤ length p.types
  pub few_locals : length p.types - p.parameters ≤ pick (eqb form 0) 64 246
  -- "Result, parameters, locals; then the body, a block."
  pub result_typed : type_word p.result ≡ true
  pub all_typed : AllTypes p.types
  -- Document 02, wish 1: "it becomes 19 for source images and 22 for compiled ones"
  pub body_fits : FitsBlock arity me (largest_level form) p.body

-- the procedures from a number on
pub data FitsProcedures (form : ℕ) (arity : ℕ → ℕ) : ℕ → List Procedure → Type 0 where
  no_procedures : {me : ℕ} → FitsProcedures form arity me []
  more_procedures :
      {me : ℕ} {p : Procedure} {ps : List Procedure} → arity me ≡ p.parameters → FitsProcedure form arity me p → FitsProcedures form arity (me + 1) ps
      → FitsProcedures form arity me (p ∷ ps)

-- the number of parameters of each procedure
abbrev pub arity_of : List Procedure → ℕ → ℕ
arity_of ps f = (procedure_at ps f).parameters

-- ---- Arrays and images

-- "2, one per array: label × 65536 + length. .. Length 1 to 256, all together at most 1,024 cells.": array words, where the arrays before them
-- have the given number of cells
pub data FitsArrays : ℕ → List ℕ → Type 0 where
  no_arrays : {cells : ℕ} → FitsArrays cells []
  more_arrays : {cells w : ℕ} {ws : List ℕ} → array_word cells w ≡ true → FitsArrays (cells + array_length w) ws → FitsArrays cells (w ∷ ws)

-- "1: header, form × 65536 + arrays × 256 + procedures. Form 0 source, 1 compiled; 0 to 16 arrays; 1 to 32 procedures." The largest image is a limit
-- of its words, and stands in Statements (`Admissible`).
pub record FitsImage (i : Image) : Type 0 where
  pub form_fits : i.form < 2
  pub few_arrays : length i.arrays ≤ 16
  pub arrays_fit : FitsArrays 0 i.arrays
  pub some_procedure : 1 ≤ length i.procedures
  pub few_procedures : length i.procedures ≤ 32
  pub procedures_fit : FitsProcedures i.form (arity_of i.procedures) 0 i.procedures
