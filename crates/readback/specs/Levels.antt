-- The levels of a compiled tree: at most three more than its source has. Assumes nothing.
use Rattle.std.specs.Prelude.{ℕ, suc, ◌+◌, ◌≤◌, ◌<◌, Bool, true, false, ◌||◌, List, [], ◌∷◌, ◌++◌, length}
use Rattle.std.proofs.Common.{arith}
use Rattle.definitions.specs.Image.{Expression, constant, boolean, variable, cell, unary, binary, select, Statement}
use Rattle.definitions.specs.Image.{assign, store, conditional, loop, return, call, Block, done, sequence, Procedure}
use Rattle.definitions.specs.Image.{guarded, procedure_at, type_sort}
use Rattle.definitions.specs.Labels.{secret_in, rc_after, rc_after_block}
use Rattle.definitions.specs.Compiling.{renamed, moved, moved_all, act, masked, under, followed_by, ArmCode, compiled_if}
use Rattle.definitions.specs.Compiling.{compiled_return, compiled_call, compiled_statement, compiled_block, closed}
use Rattle.statements.specs.Limits.{FitsExpression, fit_constant, fit_boolean, fit_variable, fit_cell, fit_unary, fit_binary}
use Rattle.statements.specs.Limits.{fit_select, FitsAll, fit_none, fit_more, FitsStatement, fit_assign, fit_store}
use Rattle.statements.specs.Limits.{fit_conditional, fit_loop, fit_return, fit_call, FitsBlock, fit_block, FitsStatements}
use Rattle.statements.specs.Limits.{fit_done, fit_sequence, arity_of}
use Rattle.readback.specs.Good.{GoodExpression, good_constant, good_boolean, good_variable, good_cell, good_unary}
use Rattle.readback.specs.Good.{good_binary, good_select, GoodArguments, good_none, good_more, GoodStatement}
use Rattle.readback.specs.Good.{good_assign, good_store, good_conditional, good_loop, good_return, good_call}
use Rattle.readback.specs.Good.{GoodBlock, good_done, good_step}

-- a tree whose words are on the given number of levels
pub data DeepExpression : ℕ → Expression → Type 0 where
  deep_constant : {l p v : ℕ} → DeepExpression (suc l) (constant p v)
  deep_boolean : {l p v : ℕ} → DeepExpression (suc l) (boolean p v)
  deep_variable : {l p x : ℕ} → DeepExpression (suc l) (variable p x)
  deep_cell : {l p a : ℕ} {i : Expression} → DeepExpression l i → DeepExpression (suc l) (cell p a i)
  deep_unary : {l p o : ℕ} {e : Expression} → DeepExpression l e → DeepExpression (suc l) (unary p o e)
  deep_binary : {l p o : ℕ} {e f : Expression} → DeepExpression l e → DeepExpression l f → DeepExpression (suc l) (binary p o e f)
  deep_select : {l p : ℕ} {c e f : Expression} → DeepExpression l c → DeepExpression l e → DeepExpression l f → DeepExpression (suc l) (select p c e f)

pub data DeepAll (l : ℕ) : List Expression → Type 0 where
  deep_none : DeepAll l []
  deep_more : {e : Expression} {es : List Expression} → DeepExpression l e → DeepAll l es → DeepAll l (e ∷ es)

mutual
  pub data DeepStatement : ℕ → Statement → Type 0 where
    deep_assign : {l x : ℕ} {e : Expression} → DeepExpression l e → DeepStatement (suc l) (assign x e)
    deep_store : {l a : ℕ} {i e : Expression} → DeepExpression l i → DeepExpression l e → DeepStatement (suc l) (store a i e)
    deep_conditional : {l : ℕ} {c : Expression} {a b : Block} → DeepExpression l c → DeepBlock l a → DeepBlock l b → DeepStatement (suc l) (conditional c a b)
    deep_loop : {l x : ℕ} {f t : Expression} {b : Block} → DeepExpression l f → DeepExpression l t → DeepBlock l b → DeepStatement (suc l) (loop x f t b)
    deep_return : {l : ℕ} {e : Expression} → DeepExpression l e → DeepStatement (suc l) (return e)
    deep_call : {l f x : ℕ} {es : List Expression} → DeepAll l es → DeepStatement (suc l) (call f x es)

  pub data DeepBlock : ℕ → Block → Type 0 where
    deep_block : {l : ℕ} {b : Block} → DeepStatements l b → DeepBlock (suc l) b

  pub data DeepStatements : ℕ → Block → Type 0 where
    deep_done : {l : ℕ} → DeepStatements l done
    deep_step : {l p : ℕ} {s : Statement} {b : Block} → DeepStatement l s → DeepStatements l b → DeepStatements l (sequence p s b)

-- one level more does no harm
pub raise : {l : ℕ} {e : Expression} → DeepExpression l e → DeepExpression (suc l) e
raise deep_constant = deep_constant
raise deep_boolean = deep_boolean
raise deep_variable = deep_variable
raise (deep_cell i) = deep_cell (raise i)
raise (deep_unary e) = deep_unary (raise e)
raise (deep_binary e f) = deep_binary (raise e) (raise f)
raise (deep_select c e f) = deep_select (raise c) (raise e) (raise f)

pub raise_all : {l : ℕ} {es : List Expression} → DeepAll l es → DeepAll (suc l) es
raise_all deep_none = deep_none
raise_all (deep_more e es) = deep_more (raise e) (raise_all es)

mutual
  pub raise_statement : {l : ℕ} {s : Statement} → DeepStatement l s → DeepStatement (suc l) s
  raise_statement (deep_assign e) = deep_assign (raise e)
  raise_statement (deep_store i e) = deep_store (raise i) (raise e)
  raise_statement (deep_conditional c a b) = deep_conditional (raise c) (raise_block a) (raise_block b)
  raise_statement (deep_loop f t b) = deep_loop (raise f) (raise t) (raise_block b)
  raise_statement (deep_return e) = deep_return (raise e)
  raise_statement (deep_call es) = deep_call (raise_all es)

  pub raise_block : {l : ℕ} {b : Block} → DeepBlock l b → DeepBlock (suc l) b
  raise_block (deep_block b) = deep_block (raise_statements b)

  pub raise_statements : {l : ℕ} {b : Block} → DeepStatements l b → DeepStatements (suc l) b
  raise_statements deep_done = deep_done
  raise_statements (deep_step s b) = deep_step (raise_statement s) (raise_statements b)

-- renumbering keeps the levels
deep_moved : (first : ℕ) {l : ℕ} {e : Expression} → FitsExpression l e → DeepExpression l (moved first e)
unfolding moved
deep_moved first fit_constant = deep_constant
deep_moved first (fit_boolean h) = deep_boolean
deep_moved first (fit_variable h) = deep_variable
deep_moved first (fit_cell h i) = deep_cell (deep_moved first i)
deep_moved first (fit_unary h e) = deep_unary (deep_moved first e)
deep_moved first (fit_binary h e f) = deep_binary (deep_moved first e) (deep_moved first f)
deep_moved first (fit_select c e f) = deep_select (deep_moved first c) (deep_moved first e) (deep_moved first f)

deep_moved_all :
    (first : ℕ) {l : ℕ} {es : List Expression} → FitsAll l es → (extra : List Expression) → DeepAll (suc (suc (suc l))) extra
    → DeepAll (suc (suc (suc l))) (moved_all first es ++ extra)
unfolding moved_all
deep_moved_all first fit_none extra h = h
deep_moved_all first (fit_more e es) extra h = deep_more (raise (raise (raise (deep_moved first e)))) (deep_moved_all first es extra h)

-- the parts that the compiler adds
deep_act : (pc : Bool) (arm : ℕ) (rc : Bool) (live : ℕ) {l : ℕ} → DeepExpression (suc (suc l)) (act pc arm rc live)
unfolding act
deep_act true arm true live = deep_binary deep_variable deep_variable
deep_act true arm false live = deep_variable
deep_act false arm rc live = deep_variable

deep_masked : (b : Bool) (a e old : Expression) {l : ℕ} → DeepExpression l a → DeepExpression l e → DeepExpression l old → DeepExpression (suc l) (masked b a e old)
unfolding masked
deep_masked true a e old x y z = deep_select x y z
deep_masked false a e old x y z = raise y

deep_under : (b : Bool) (a e : Expression) {l : ℕ} → DeepExpression l a → DeepExpression l e → DeepExpression (suc l) (under b a e)
unfolding under
deep_under true a e x y = deep_binary x y
deep_under false a e x y = raise y

deep_followed : {l : ℕ} {a b : Block} → DeepStatements l a → DeepStatements l b → DeepStatements l (followed_by a b)
unfolding followed_by
deep_followed deep_done y = y
deep_followed (deep_step s x) y = deep_step s (deep_followed x y)

deep_return_parts :
    (b : Bool) (a : Expression) (rv : ℕ) (e : Expression) {l : ℕ} → DeepExpression (suc (suc l)) a → DeepExpression (suc (suc l)) e
    → DeepStatements (suc (suc (suc (suc l)))) (compiled_return b a rv e)
unfolding compiled_return
deep_return_parts true a rv e x y = deep_step (deep_assign (deep_select x y deep_variable)) (deep_step (deep_assign (deep_select x deep_boolean deep_variable)) deep_done)
deep_return_parts false a rv e x y = deep_step (deep_return (raise y)) deep_done

deep_call_parts :
    (b g : Bool) (a : Expression) (first k f x : ℕ) {es : List Expression} {l : ℕ} → DeepExpression (suc (suc l)) a → FitsAll l es
    → DeepStatements (suc (suc (suc (suc l)))) (compiled_call b g a k f x (moved_all first es))
unfolding compiled_call
deep_call_parts true g a first k f x {es} y fits =
    deep_step (deep_call (deep_moved_all first fits (a ∷ []) (deep_more (raise y) deep_none))) (deep_step (deep_assign (deep_select y deep_variable deep_variable)) deep_done)
deep_call_parts false true a first k f x {es} y fits = deep_step (deep_call (deep_moved_all first fits (boolean 0 1 ∷ []) (deep_more deep_boolean deep_none))) deep_done
deep_call_parts false false a first k f x {es} y fits = deep_step (deep_call (deep_moved_all first fits [] deep_none)) deep_done

deep_if :
    (s pc : Bool) (arm : ℕ) (rc : Bool) (live k : ℕ) (c : Expression) (ax ay : ArmCode) {l : ℕ} → DeepExpression l c
    → ((q : Bool) (v n : ℕ) → DeepBlock (suc (suc (suc l))) (ax q v n)) → ((q : Bool) (v n : ℕ) → DeepBlock (suc (suc (suc l))) (ay q v n))
    → DeepStatements (suc (suc (suc (suc l)))) (compiled_if s pc arm rc live k c ax ay)
unfolding compiled_if
deep_if true pc arm rc live k c ax ay x fx fy =
    deep_step (deep_assign (deep_under (pc || rc) (act pc arm rc live) c (deep_act pc arm rc live) (raise (raise x))))
    (deep_step (deep_assign (deep_under (pc || rc) (act pc arm rc live) (unary 0 0 (variable 0 k)) (deep_act pc arm rc live) (deep_unary deep_variable)))
    (deep_followed (inline (fx true k (k + 2))) (inline (fy true (k + 1) (k + 2)))))
  where
    inline : {m : ℕ} {b : Block} → DeepBlock m b → DeepStatements (suc m) b
    inline (deep_block b) = raise_statements (raise_statements b)
deep_if false pc arm rc live k c ax ay x fx fy = deep_step (deep_conditional (raise (raise (raise x))) (fx pc arm k) (fy pc arm k)) deep_done

module _ (ps : List Procedure) (arrays types : List ℕ) (first rv : ℕ) (temporary arity : ℕ → ℕ) (me : ℕ) where
  mutual
    unfolding compiled_statement compiled_block

    pub deep_statement :
        {l : ℕ} {s : Statement} → FitsStatement arity me l s → (pc : Bool) (arm : ℕ) (rc : Bool) (k : ℕ)
        → DeepStatements (suc (suc (suc l))) (compiled_statement ps arrays types first rv temporary s pc arm rc k)
    deep_statement (fit_assign {x = x} {e} h f) pc arm rc k =
        deep_step (deep_assign (deep_masked (pc || rc) (act pc arm rc (rv + 1)) (moved first e) (variable 0 (renamed first x)) (deep_act pc arm rc (rv + 1))
        (raise (raise (deep_moved first f))) deep_variable)) deep_done
    deep_statement (fit_store {a = y} {i} {e} h f g) pc arm rc k =
        deep_step (deep_store (raise (raise (raise (deep_moved first f))))
        (deep_masked (pc || rc) (act pc arm rc (rv + 1)) (moved first e) (cell 0 y (moved first i)) (deep_act pc arm rc (rv + 1)) (raise (raise (deep_moved first g)))
        (deep_cell (raise (deep_moved first f))))) deep_done
    deep_statement (fit_conditional {c = c} {a} {b} f g h) pc arm rc k =
        deep_if (secret_in types arrays c) pc arm rc (rv + 1) k (moved first c)
        (λ q v n. compiled_block ps arrays types first rv temporary a q v rc n) (λ q v n. compiled_block ps arrays types first rv temporary b q v rc n)
        (deep_moved first f) (λ q v n. deep_compiled g q v rc n) (λ q v n. deep_compiled h q v rc n)
    deep_statement (fit_loop {x = x} {f} {t} {b} h i j g) pc arm rc k =
        deep_step (deep_loop (raise (raise (raise (deep_moved first i)))) (raise (raise (raise (deep_moved first j))))
        (deep_compiled g pc arm (rc_after_block types arrays pc rc b) k)) deep_done
    deep_statement (fit_return {e = e} f) pc arm rc k =
        deep_return_parts (pc || rc) (act pc arm rc (rv + 1)) rv (moved first e) (deep_act pc arm rc (rv + 1)) (raise (raise (deep_moved first f)))
    deep_statement (fit_call {f = f} {x} {es} low g count fs) pc arm rc k =
        deep_call_parts (pc || rc) (guarded (procedure_at ps f)) (act pc arm rc (rv + 1)) first (temporary (type_sort (procedure_at ps f).result)) f
        (renamed first x) (deep_act pc arm rc (rv + 1)) fs

    pub deep_compiled :
        {l : ℕ} {b : Block} → FitsBlock arity me l b → (pc : Bool) (arm : ℕ) (rc : Bool) (k : ℕ)
        → DeepBlock (suc (suc (suc l))) (compiled_block ps arrays types first rv temporary b pc arm rc k)
    deep_compiled (fit_block f) pc arm rc k = deep_block (deep_statements f pc arm rc k)

    pub deep_statements :
        {l : ℕ} {b : Block} → FitsStatements arity me l b → (pc : Bool) (arm : ℕ) (rc : Bool) (k : ℕ)
        → DeepStatements (suc (suc (suc l))) (compiled_block ps arrays types first rv temporary b pc arm rc k)
    deep_statements fit_done pc arm rc k = deep_done
    deep_statements (fit_sequence {s = s} f g) pc arm rc k =
        deep_followed (deep_statement f pc arm rc k) (deep_statements g pc arm (rc_after types arrays pc rc s) k)

-- the whole body
pub deep_closed : (d : Bool) (rv : ℕ) {l : ℕ} {b : Block} → DeepStatements (suc (suc l)) b → DeepStatements (suc (suc l)) (closed d rv b)
unfolding closed
deep_closed true rv x = deep_step (deep_assign deep_boolean) (deep_followed x (deep_step (deep_return deep_variable) deep_done))
deep_closed false rv x = x

-- A good tree within the levels fits.
good_deep :
    {types arrays marks : List ℕ} → length types < 256 → length arrays ≤ 16 → {l : ℕ} {e : Expression} → GoodExpression types arrays marks e → DeepExpression l e
    → FitsExpression l e
good_deep t a good_constant deep_constant = fit_constant
good_deep t a (good_boolean h) deep_boolean = fit_boolean h
good_deep t a (good_variable {x = x} h m) deep_variable = fit_variable {x = x} (omega arith)
good_deep t a (good_cell {a = y} h g s l) (deep_cell i) = fit_cell {a = y} (omega arith) (good_deep t a g i)
good_deep t a (good_unary h g s) (deep_unary e) = fit_unary h (good_deep t a g e)
good_deep t a (good_binary h g g' s s' l l') (deep_binary e f) = fit_binary h (good_deep t a g e) (good_deep t a g' f)
good_deep t a (good_select g g' g'' s s') (deep_select c e f) = fit_select (good_deep t a g c) (good_deep t a g' e) (good_deep t a g'' f)

good_deep_all :
    {types arrays marks callee : List ℕ} {k : ℕ} → length types < 256 → length arrays ≤ 16 → {l : ℕ} {es : List Expression} → GoodArguments types arrays marks callee k es
    → DeepAll l es → FitsAll l es
good_deep_all t a good_none deep_none = fit_none
good_deep_all t a (good_more g s l gs) (deep_more e es) = fit_more (good_deep t a g e) (good_deep_all t a gs es)

module _ (ps : List Procedure) (me parameters : ℕ) (types : List ℕ) (result : ℕ) (arrays : List ℕ) (t : length types < 256) (a : length arrays ≤ 16) (few : me ≤ 32) where
  mutual
    pub good_deep_statement :
        {marks : List ℕ} {l : ℕ} {s : Statement} → DeepStatement l s → GoodStatement ps me parameters types result arrays marks s → FitsStatement (arity_of ps) me l s
    good_deep_statement (deep_assign {x = x} e) (good_assign h m g s l) = fit_assign {x = x} (omega arith) (good_deep t a g e)
    good_deep_statement (deep_store {a = y} i e) (good_store h g g' s s' l l') = fit_store {a = y} (omega arith) (good_deep t a g i) (good_deep t a g' e)
    good_deep_statement (deep_conditional c b d) (good_conditional g s l x y) = fit_conditional (good_deep t a g c) (good_deep_block b x) (good_deep_block d y)
    good_deep_statement (deep_loop {x = x} f u b) (good_loop h r g g' s s' l l' z) = fit_loop {x = x} (omega arith) (good_deep t a g f) (good_deep t a g' u) (good_deep_block b z)
    good_deep_statement (deep_return e) (good_return g s l) = fit_return (good_deep t a g e)
    good_deep_statement (deep_call {f = f} {x} es) (good_call low h m s l c g) = fit_call {f = f} {x = x} low (omega arith) c (good_deep_all t a g es)

    pub good_deep_block : {marks : List ℕ} {l : ℕ} {b : Block} → DeepBlock l b → GoodBlock ps me parameters types result arrays marks b → FitsBlock (arity_of ps) me l b
    good_deep_block (deep_block b) g = fit_block (good_deep_statements b g)

    pub good_deep_statements :
        {marks : List ℕ} {l : ℕ} {b : Block} → DeepStatements l b → GoodBlock ps me parameters types result arrays marks b → FitsStatements (arity_of ps) me l b
    good_deep_statements deep_done good_done = fit_done
    good_deep_statements (deep_step s b) (good_step g gs) = fit_sequence (good_deep_statement s g) (good_deep_statements b gs)
