-- What wish 11 of document 02 speaks of: which procedures one calls, which of their fors comes first, the paths through a procedure, when a bound is
-- answered and when it is turned away, and which procedures have one that is exact. There is no proof here. Assumes nothing.
use Rattle.std.specs.Prelude.{ℕ, zero, suc, ◌+◌, ◌*◌, ◌-◌, ◌≤◌, ◌<◌, true, false, List, ◌≡◌, length}
use Rattle.definitions.specs.Bytes.{words_of}
use Rattle.definitions.specs.Image.{Expression, Statement, assign, store, conditional, loop, return, call, Block, done, sequence}
use Rattle.definitions.specs.Image.{Procedure, Image, procedure_at, cell_count}
use Rattle.definitions.specs.Labels.{constant_value}
use Rattle.definitions.specs.Reading.{got}
use Rattle.definitions.specs.Checking.{admitted}
use Rattle.definitions.specs.StepBounds.{procedure_cost, constant_bounds, straight_body}
use Rattle.definitions.specs.Host.{whole_words}
use Rattle.statements.specs.Statements.{NotReady}

-- ---- Callees

-- a call of procedure g stands in a statement or a block, at any depth
mutual
  pub data CalledBy (g : ℕ) : Statement → Type 0 where
    itself_calls : {f x : ℕ} {es : List Expression} → f ≡ g → CalledBy g (call f x es)
    then_calls : {c : Expression} {a b : Block} → CalledIn g a → CalledBy g (conditional c a b)
    else_calls : {c : Expression} {a b : Block} → CalledIn g b → CalledBy g (conditional c a b)
    for_calls : {x : ℕ} {f t : Expression} {b : Block} → CalledIn g b → CalledBy g (loop x f t b)

  pub data CalledIn (g : ℕ) : Block → Type 0 where
    first_calls : {p : ℕ} {s : Statement} {b : Block} → CalledBy g s → CalledIn g (sequence p s b)
    later_calls : {p : ℕ} {s : Statement} {b : Block} → CalledIn g b → CalledIn g (sequence p s b)

-- procedure f is g, or calls it "directly or through others"
pub data Reaches (ps : List Procedure) : ℕ → ℕ → Type 0 where
  itself : {f : ℕ} → Reaches ps f f
  through : {f g : ℕ} (h : ℕ) → CalledIn h (procedure_at ps f).body → Reaches ps h g → Reaches ps f g

-- ---- Fors whose bounds are not constants

-- such a for stands at place q: in a statement, whose own place is given, or in a block, at any depth
mutual
  pub data VariableForBy (q : ℕ) : ℕ → Statement → Type 0 where
    itself_varies : {p x : ℕ} {f t : Expression} {b : Block} → p ≡ q → constant_bounds f t ≡ false → VariableForBy q p (loop x f t b)
    then_varies : {p : ℕ} {c : Expression} {a b : Block} → VariableForIn q a → VariableForBy q p (conditional c a b)
    else_varies : {p : ℕ} {c : Expression} {a b : Block} → VariableForIn q b → VariableForBy q p (conditional c a b)
    for_varies : {p x : ℕ} {f t : Expression} {b : Block} → VariableForIn q b → VariableForBy q p (loop x f t b)

  pub data VariableForIn (q : ℕ) : Block → Type 0 where
    first_varies : {p : ℕ} {s : Statement} {b : Block} → VariableForBy q p s → VariableForIn q (sequence p s b)
    later_varies : {p : ℕ} {s : Statement} {b : Block} → VariableForIn q b → VariableForIn q (sequence p s b)

-- "the first for whose bounds are not constants, the procedure first, then all callees, direct or not, by number": its place p
pub record FirstVariableFor (ps : List Procedure) (f p : ℕ) : Type 0 where
  -- it stands in the procedure of this number, which is f or a callee
  pub number : ℕ
  pub reached : Reaches ps f number
  pub stands : VariableForIn p (procedure_at ps number).body
  -- "the first for" there
  pub first : (q : ℕ) → VariableForIn q (procedure_at ps number).body → p ≤ q
  -- "the procedure first"
  pub procedure_first : (q : ℕ) → VariableForIn q (procedure_at ps f).body → number ≡ f
  -- "then all callees, direct or not, by number"
  pub callees_by_number : (number ≡ f → ⊥) → (g q : ℕ) → Reaches ps f g → VariableForIn q (procedure_at ps g).body → number ≤ g

-- neither the procedure nor any callee has such a for
abbrev pub ConstantFors : List Procedure → ℕ → Type 0
ConstantFors ps f = (g q : ℕ) → Reaches ps f g → VariableForIn q (procedure_at ps g).body → ⊥

-- ---- Paths

-- A path through a statement, a block or the passes of a for, and how many steps it takes: one for each statement and each pass, "callees included". Of
-- each if it takes one arm, whichever, and no return ends it. A for has no pass where from is not below to.
mutual
  pub data StatementPath (ps : List Procedure) : Statement → ℕ → Type 0 where
    by_assign : {x : ℕ} {e : Expression} → StatementPath ps (assign x e) 1
    by_store : {a : ℕ} {i e : Expression} → StatementPath ps (store a i e) 1
    by_then : {c : Expression} {a b : Block} {n : ℕ} → BlockPath ps a n → StatementPath ps (conditional c a b) (suc n)
    by_else : {c : Expression} {a b : Block} {n : ℕ} → BlockPath ps b n → StatementPath ps (conditional c a b) (suc n)
    by_for :
        {x : ℕ} {f t : Expression} {b : Block} {n : ℕ} → PassesPath ps b (constant_value t - constant_value f) n → StatementPath ps (loop x f t b) (suc n)
    by_return : {e : Expression} → StatementPath ps (return e) 1
    by_call : {f x : ℕ} {es : List Expression} {n : ℕ} → BlockPath ps (procedure_at ps f).body n → StatementPath ps (call f x es) (suc n)

  pub data BlockPath (ps : List Procedure) : Block → ℕ → Type 0 where
    by_end : BlockPath ps done 0
    by_statement :
        {p n m all : ℕ} {s : Statement} {b : Block} → StatementPath ps s n → BlockPath ps b m → n + m ≡ all → BlockPath ps (sequence p s b) all

  -- so many passes over a block
  pub data PassesPath (ps : List Procedure) : Block → ℕ → ℕ → Type 0 where
    by_no_pass : {b : Block} → PassesPath ps b zero 0
    by_pass : {b : Block} {passes n m all : ℕ} → BlockPath ps b n → PassesPath ps b passes m → suc (n + m) ≡ all → PassesPath ps b (suc passes) all

-- so many steps has the longest path through procedure f: there is one that takes them, and none takes more
pub record LongestPath (ps : List Procedure) (f n : ℕ) : Type 0 where
  pub path : BlockPath ps (procedure_at ps f).body n
  pub longest : (m : ℕ) → BlockPath ps (procedure_at ps f).body m → m ≤ n

-- ---- When a bound is answered

-- The image in lent bytes is admitted, and read as the tree, of so many words; enough cells are lent for its arrays, and it has a procedure f.
pub record HasProcedure (image cells : List ℕ) (f : ℕ) (tree : Image) : Type 0 where
  pub words : ℕ
  pub read : admitted (whole_words image) (words_of image) ≡ got tree words
  pub enough : 4 * cell_count tree.arrays ≤ length cells
  pub present : f < length tree.procedures

-- the bound of procedure f: what it costs
abbrev pub step_bound : Image → ℕ → ℕ
step_bound tree f = procedure_cost tree.procedures (suc f) f

-- "Turned away: 32 [the first for whose bounds are not constants, the procedure first, then all callees, direct or not, by number]; 33, a bound above
-- 4,294,967,295, after 32; both after 17", which is given for too few cells and for a missing procedure, as by a call.
pub data NotBounded (image cells : List ℕ) (f : ℕ) : ℕ → ℕ → Type 0 where
  unready_for_bound : (k p : ℕ) → NotReady image cells k p → NotBounded image cells f k p
  no_procedure_lem : (tree : Image) (n : ℕ) → admitted (whole_words image) (words_of image) ≡ got tree n → 4 * cell_count tree.arrays ≤ length cells
      → length tree.procedures ≤ f → NotBounded image cells f 17 0
  variable_for : (tree : Image) → HasProcedure image cells f tree → (p : ℕ) → FirstVariableFor tree.procedures f p → NotBounded image cells f 32 p
  above_limit : (tree : Image) → HasProcedure image cells f tree → ConstantFors tree.procedures f → 4294967295 < step_bound tree f
      → NotBounded image cells f 33 0

-- otherwise every for of the procedure and of those that it calls has constant bounds, and the bound fits a word
pub record Bounded (image cells : List ℕ) (f : ℕ) (tree : Image) : Type 0 where
  pub known : HasProcedure image cells f tree
  pub constants : ConstantFors tree.procedures f
  pub fits : step_bound tree f ≤ 4294967295

-- "Where neither the procedure nor any it calls, directly or through others, has an if, or a return other than as the body's last statement"
abbrev pub Straight : List Procedure → ℕ → Type 0
Straight ps f = (g : ℕ) → Reaches ps f g → straight_body (procedure_at ps g).body ≡ true
