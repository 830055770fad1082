-- Document 01, "What demand 3 compares", for statements and blocks of an image of form 1: run over variables and cells that agree where they are
-- public, they take the same steps, leave one trace, come to one stop or to none, and leave variables and cells that agree where they are public.
-- Assumes nothing.
use Rattle.std.specs.Prelude.{◌≡◌, refl, Bool, true, false, ◌||◌, List, [], ℕ, zero, suc, ◌+◌, ◌-◌, eqb, length, set}
use Rattle.std.proofs.Common.{sym, ◌∙◌, zero-add}
use Rattle.std.proofs.Math.Path.{ap}
use Rattle.definitions.specs.Choice.{pick}
use Rattle.definitions.specs.declared.ConstantLoop.{ConstantLoop}
use Rattle.definitions.specs.Arithmetic.{truth}
use Rattle.definitions.specs.Image.{type_secret, base_of, Expression, Statement, assign, store, conditional, loop, return}
use Rattle.definitions.specs.Image.{call, Block, done, sequence, Procedure, procedure_at}
use Rattle.definitions.specs.Labels.{secret_in, rc_after, rc_after_block, bounds_inside, statement_label_faults}
use Rattle.definitions.specs.Labels.{block_label_faults}
use Rattle.definitions.specs.Running.{Trace, Outcome, next, back, Given, gave, Callee, Body, emit, after, passes, taken}
use Rattle.definitions.specs.Running.{received, run_statement, run_block}
use Rattle.secrecy.specs.Rules.{bound_rules, assign_rules, store_rules, conditional_rules, loop_rules}
use Rattle.secrecy.specs.Rules.{return_rules, call_rules, step_rules}
use Rattle.secrecy.specs.Agreement.{Agree, agree_set, agree_labels, cell_secret, layout}
use Rattle.secrecy.specs.Related.{Runs, ons, itself, on_within, on_and_go, on_tick}
use Rattle.secrecy.specs.Expressions.{variable_secret, same_index, same_evaluate, same_arguments}

-- two outcomes of a procedure with the given type words and result type: n variables and m cells
pub data Outcomes (n m : ℕ) (arrays types : List ℕ) (result : ℕ) : Outcome → Outcome → Type 0 where
  nexts : {vs us cs ds : List ℕ} → Agree n (variable_secret types) vs us → Agree m (cell_secret arrays) cs ds
      → Outcomes n m arrays types result (next vs cs) (next us ds)
  backs : {v w : ℕ} {cs ds : List ℕ} → (type_secret result ≡ false → v ≡ w) → Agree m (cell_secret arrays) cs ds
      → Outcomes n m arrays types result (back v cs) (back w ds)

-- two results of a procedure
pub data Results (m : ℕ) (arrays : List ℕ) (result : ℕ) : Given → Given → Type 0 where
  gives : {v w : ℕ} {cs ds : List ℕ} → (type_secret result ≡ false → v ≡ w) → Agree m (cell_secret arrays) cs ds
      → Results m arrays result (gave v cs) (gave w ds)

-- a body that keeps what agrees
abbrev pub Keeps : {T : Type 0} → ℕ → ℕ → List ℕ → List ℕ → ℕ → Body T → Type 0
Keeps {T} n m arrays types result f =
    (z : ℕ) (t : T) (vs us cs ds : List ℕ) → Agree n (variable_secret types) vs us → Agree m (cell_secret arrays) cs ds
    → Runs (Outcomes n m arrays types result) (f z t vs cs) (f z t us ds)

-- so do the procedures that can be called, over arguments that agree where the parameters are public
abbrev pub KeepsCalls : {T : Type 0} → ℕ → List ℕ → List Procedure → Callee T → Type 0
KeepsCalls {T} m arrays ps K =
    (f k : ℕ) (ws xs : List ℕ) (z : ℕ) (t : T) (cs ds : List ℕ)
    → Agree k (variable_secret (procedure_at ps f).types) ws xs → Agree m (cell_secret arrays) cs ds
    → Runs (Results m arrays (procedure_at ps f).result) (K f ws z t cs) (K f xs z t ds)

pub same_after : {T : Type 0} {n m : ℕ} {arrays types : List ℕ} {result : ℕ} (f : Body T) → Keeps n m arrays types result f
    → {o q : Outcome} → Outcomes n m arrays types result o q → (z : ℕ) (t : T)
    → Runs (Outcomes n m arrays types result) (after f o z t) (after f q z t)
same_after f k (nexts {vs} {us} {cs} {ds} a c) z t = k z t vs us cs ds a c
same_after f k (backs e c) z t = ons (backs e c)

pub same_passes : {T : Type 0} {n m : ℕ} {arrays types : List ℕ} {result : ℕ} (budget l x : ℕ) (body : Body T) → Keeps n m arrays types result body
    → (count i : ℕ) → Keeps n m arrays types result (passes budget l x body count i)
unfolding passes
same_passes budget l x body k zero i z t vs us cs ds a c = ons (nexts a c)
same_passes budget l x body k (suc count) i z t vs us cs ds a c =
    on_tick budget l z t λ y u.
    on_and_go (k y u (set vs x i) (set us x i) cs ds (agree_set x i i a (λ _. refl)) c) λ o q w v r.
    same_after (λ w v us ds. passes budget l x body count (i + 1) w v us ds)
    (λ z t vs us cs ds a c. same_passes budget l x body k count (i + 1) z t vs us cs ds a c) r w v

pub same_taken : {T : Type 0} {n m : ℕ} {arrays types : List ℕ} {result : ℕ} (v : ℕ) (f g : Body T)
    → Keeps n m arrays types result f → Keeps n m arrays types result g → Keeps n m arrays types result (taken v f g)
unfolding taken
same_taken {T} {n} {m} {arrays} {types} {result} v f g p q z t vs us cs ds a c = by_test (eqb v 0)
  where
    by_test : (b : Bool) → Runs (Outcomes n m arrays types result) (pick {A = Body T} b g f z t vs cs) (pick {A = Body T} b g f z t us ds)
    by_test true = q z t vs us cs ds a c
    by_test false = p z t vs us cs ds a c

-- a call's result goes to its variable
pub same_received : {T : Type 0} {n m : ℕ} {arrays types : List ℕ} {result : ℕ} (x callee : ℕ) (vs us : List ℕ)
    → Agree n (variable_secret types) vs us → (variable_secret types x ≡ false → type_secret callee ≡ false)
    → {o q : Given} → Results m arrays callee o q → (z : ℕ) (t : T)
    → Runs (Outcomes n m arrays types result) (received x vs o z t) (received x us q z t)
unfolding received
same_received x callee vs us a e (gives {v} {w} r c) z t = ons (nexts (agree_set x v w a (λ g. r (e g))) c)

module _ {T : Type 0} (C : Trace T) (budget form : ℕ) (ps : List Procedure) (arrays : List ℕ) (K : Callee T)
    (n m : ℕ) (types : List ℕ) (result : ℕ) (one : eqb form 1 ≡ true) (hk : KeepsCalls m arrays ps K) where
  -- what is shown of a statement, and of a block
  abbrev SameStatement : Statement → Type 0
  SameStatement s =
      (bounds : List ConstantLoop) (pc rc : Bool) (l : ℕ) → (statement_label_faults form ps arrays types result bounds pc rc l s ≡ [])
      → Keeps n m arrays types result (run_statement C budget arrays K l s)

  abbrev SameBlock : Block → Type 0
  SameBlock b =
      (bounds : List ConstantLoop) (pc rc : Bool) → (block_label_faults form ps arrays types result bounds pc rc b ≡ [])
      → Keeps n m arrays types result (run_block C budget arrays K b)

  same_assign : (x : ℕ) (e : Expression) → SameStatement (assign x e)
  unfolding run_statement
  same_assign x e bounds pc rc l h z t vs us cs ds a c =
      let r = assign_rules form ps arrays types result bounds pc rc l x e h in
      on_within z (same_evaluate C arrays types bounds (pc || rc) a c e r.1 t) λ v w u q.
      ons (nexts (agree_set x v w a (λ g. q (r.0 g))) c)

  same_store : (b : ℕ) (i e : Expression) → SameStatement (store b i e)
  unfolding run_statement
  same_store b i e bounds pc rc l h z t vs us cs ds a c =
      let r = store_rules form ps arrays types result bounds pc rc l b i e h in
      on_within z (same_evaluate C arrays types bounds (pc || rc) a c i r.2 t) λ v w u q.
      rw (q r.1) (on_within z (same_index C arrays b l w u) λ j k x f.
      on_within z (same_evaluate C arrays types bounds (pc || rc) a c e r.3 x) λ y o d p.
      rw f.0 (ons (nexts a (agree_set (base_of arrays b + k) y o c (λ g. p (r.0 (sym (layout arrays b k f.1) ∙ g)))))))

  same_conditional : (e : Expression) (a b : Block) → SameBlock a → SameBlock b → SameStatement (conditional e a b)
  unfolding run_statement
  same_conditional e a b ka kb bounds pc rc l h z t vs us cs ds hv hc =
      let r = conditional_rules form ps arrays types result bounds pc rc l e a b one h in
      on_within z (same_evaluate C arrays types bounds (pc || rc) hv hc e r.1 t) λ v w u q.
      rw (q r.0) (on_within z (itself (emit C 1 l (truth w) u)) λ d f x p.
      rw p (same_taken f (λ y w us ds. run_block C budget arrays K a y w us ds) (λ y w us ds. run_block C budget arrays K b y w us ds)
      (λ z t vs us cs ds hv hc. ka bounds (pc || secret_in types arrays e) rc r.2 z t vs us cs ds hv hc)
      (λ z t vs us cs ds hv hc. kb bounds (pc || secret_in types arrays e) rc r.3 z t vs us cs ds hv hc)
      z x vs us cs ds hv hc))

  same_loop : (x : ℕ) (f g : Expression) (b : Block) → SameBlock b → SameStatement (loop x f g b)
  unfolding run_statement
  same_loop x f g b kb bounds pc rc l h z t vs us cs ds hv hc =
      let r = loop_rules form ps arrays types result bounds pc rc l x f g b h in
      let rf = bound_rules types arrays bounds (pc || rc) f r.0 in
      let rg = bound_rules types arrays bounds (pc || rc) g r.1 in
      on_within z (same_evaluate C arrays types bounds (pc || rc) hv hc f rf.0 t) λ v v' u p.
      on_within z (same_evaluate C arrays types bounds (pc || rc) hv hc g rg.0 u) λ w w' y q.
      rw (p rf.1, q rg.1) (on_within z (itself (emit C 2 l v' y)) λ i i' s _.
      on_within z (itself (emit C 3 l w' s)) λ j j' o _.
      same_passes budget l x (λ n p us ds. run_block C budget arrays K b n p us ds)
      (λ z t vs us cs ds hv hc. kb (bounds_inside bounds x f g) pc (rc_after_block types arrays pc rc b) r.2 z t vs us cs ds hv hc)
      (w' - v') v' z o vs us cs ds hv hc)

  same_return : (e : Expression) → SameStatement (return e)
  unfolding run_statement
  same_return e bounds pc rc l h z t vs us cs ds a c =
      let r = return_rules form ps arrays types result bounds pc rc l e h in
      on_within z (same_evaluate C arrays types bounds (pc || rc) a c e r.1 t) λ v w u q.
      on_within z (itself (emit C 8 l 0 u)) λ d f x _.
      ons (backs (λ g. q (r.0 g)) c)

  same_call : (f x : ℕ) (es : List Expression) → SameStatement (call f x es)
  unfolding run_statement
  same_call f x es bounds pc rc l h z t vs us cs ds a c =
      let r = call_rules form ps arrays types result bounds pc rc l f x es h in
      on_within z (same_arguments C arrays types bounds (pc || rc) a c (procedure_at ps f).types es 0 r.1 t) λ ws xs u q.
      on_within z (itself (emit C 7 l f u)) λ d k y _.
      on_and_go (hk f (length es) ws xs z y cs ds
      (agree_labels (λ i. ap (λ (j : ℕ). variable_secret (procedure_at ps f).types j) (zero-add i)) q) c) λ o p w v g.
      same_received x (procedure_at ps f).result vs us a r.0 g w v

  same_step : (l : ℕ) (s : Statement) (b : Block) → SameStatement s → SameBlock b → SameBlock (sequence l s b)
  unfolding run_block
  same_step l s b ks kb bounds pc rc h z t vs us cs ds a c =
      let r = step_rules form ps arrays types result bounds pc rc l s b h in
      on_tick budget l z t λ y u.
      on_and_go (ks bounds pc rc l r.0 y u vs us cs ds a c) λ o p w v g.
      same_after (λ w v us ds. run_block C budget arrays K b w v us ds)
      (λ z t vs us cs ds a c. kb bounds pc (rc_after types arrays pc rc s) r.1 z t vs us cs ds a c) g w v

  same_done : SameBlock done
  unfolding run_block
  same_done bounds pc rc h z t vs us cs ds a c = ons (nexts a c)

  mutual
    pub same_statement : (s : Statement) → SameStatement s
    same_statement (assign x e) = same_assign x e
    same_statement (store a i e) = same_store a i e
    same_statement (conditional c a b) = same_conditional c a b (same_block a) (same_block b)
    same_statement (loop x f g b) = same_loop x f g b (same_block b)
    same_statement (return e) = same_return e
    same_statement (call f x es) = same_call f x es

    pub same_block : (b : Block) → SameBlock b
    same_block done = same_done
    same_block (sequence l s b) = same_step l s b (same_statement s) (same_block b)
