-- A run over one kind of trace is the image of the run over another, where a function takes the one's traces to the other's
-- and keeps what is asked of a trace: whether it is full, and what an entry adds to one that is not.
-- Assumes nothing.
use Rattle.std.specs.Prelude.{◌≡◌, Bool, ltb, eqb, get_or, set}
use Rattle.std.proofs.Math.Path.{refl}
use Prim.Native.Nat.{ℕ, zero, suc, ◌+◌, ◌-◌, ◌*◌}
use Rattle.std.proofs.Math.Bool.{true, false}
use mathlib.Core.List.{List, [], ◌∷◌}
use Rattle.definitions.specs.Choice.{pick}
use Rattle.definitions.specs.Arithmetic.{truth}
use Rattle.definitions.specs.Operators.{divides, shifts, apply_binary, apply_unary}
use Rattle.definitions.specs.Image.{array_length, base_of, Expression, constant, boolean, variable, cell, unary, binary}
use Rattle.definitions.specs.Image.{select, Statement, assign, store, conditional, loop, return, call, Block, done}
use Rattle.definitions.specs.Image.{sequence, Procedure, procedure_at}
use Rattle.definitions.specs.Running.{Trace, Evaluated, value, stop, Ran, on, halt, bind, within, and_go, emit, in_array}
use Rattle.definitions.specs.Running.{index_at, divided, shifted, operated, evaluate, evaluate_all, Outcome, next, back, Given}
use Rattle.definitions.specs.Running.{gave, Callee, Body, tick, after, passes, taken, received, run_statement, run_block}
use Rattle.definitions.specs.Running.{frame, finish, run_procedure}

-- an evaluation's trace renamed
unfoldable pub map_evaluated : {T U A : Type 0} → (T → U) → Evaluated T A → Evaluated U A
map_evaluated h (value a t) = value a (h t)
map_evaluated h (stop n l t) = stop n l (h t)

-- a run's trace renamed
unfoldable pub map_ran : {T U A : Type 0} → (T → U) → Ran T A → Ran U A
map_ran h (on a z t) = on a z (h t)
map_ran h (halt n l z t) = halt n l z (h t)

module _ {T U : Type 0} (h : T → U) where
  value_same : {A : Type 0} (a : A) (t : T) → value a (h t) ≡ map_evaluated h (value a t)
  unfolding map_evaluated
  value_same a t = refl

  stop_same : (A : Type 0) (n l : ℕ) (t : T) → ◌≡◌ {A = Evaluated U A} (stop n l (h t)) (map_evaluated h (stop n l t))
  unfolding map_evaluated
  stop_same A n l t = refl

  on_same : {A : Type 0} (a : A) (z : ℕ) (t : T) → on a z (h t) ≡ map_ran h (on a z t)
  unfolding map_ran
  on_same a z t = refl

  bind_same : {A B : Type 0} (x : Evaluated T A) (y : Evaluated U A) (f : A → T → Evaluated T B) (g : A → U → Evaluated U B)
      → y ≡ map_evaluated h x → ((a : A) (t : T) → g a (h t) ≡ map_evaluated h (f a t)) → bind y g ≡ map_evaluated h (bind x f)
  unfolding map_evaluated
  bind_same (value a t) y f g e k = rw e (k a t)
  bind_same (stop n l t) y f g e k = rw e

  within_same : {A B : Type 0} (z : ℕ) (x : Evaluated T A) (y : Evaluated U A) (f : A → T → Ran T B) (g : A → U → Ran U B)
      → y ≡ map_evaluated h x → ((a : A) (t : T) → g a (h t) ≡ map_ran h (f a t)) → within z y g ≡ map_ran h (within z x f)
  unfolding map_evaluated map_ran
  within_same z (value a t) y f g e k = rw e (k a t)
  within_same z (stop n l t) y f g e k = rw e

  and_go_same : {A B : Type 0} (x : Ran T A) (y : Ran U A) (f : A → ℕ → T → Ran T B) (g : A → ℕ → U → Ran U B)
      → y ≡ map_ran h x → ((a : A) (z : ℕ) (t : T) → g a z (h t) ≡ map_ran h (f a z t)) → and_go y g ≡ map_ran h (and_go x f)
  unfolding map_ran
  and_go_same (on a z t) y f g e k = rw e (k a z t)
  and_go_same (halt n l z t) y f g e k = rw e

  after_same : (f : Body T) (g : Body U) → ((z : ℕ) (t : T) (vs cs : List ℕ) → g z (h t) vs cs ≡ map_ran h (f z t vs cs))
      → (o : Outcome) (z : ℕ) (t : T) → after g o z (h t) ≡ map_ran h (after f o z t)
  unfolding map_ran
  after_same f g k (next vs cs) z t = k z t vs cs
  after_same f g k (back v cs) z t = refl

  tick_same : {A : Type 0} (budget l z : ℕ) (t : T) (f : ℕ → T → Ran T A) (g : ℕ → U → Ran U A)
      → ((y : ℕ) (u : T) → g y (h u) ≡ map_ran h (f y u)) → tick budget l z (h t) g ≡ map_ran h (tick budget l z t f)
  unfolding tick map_ran
  tick_same budget l z t f g k = go (ltb z budget)
    where
      go : (b : Bool) → pick b (g (z + 1)) (halt 21 l z) (h t) ≡ map_ran h (pick b (f (z + 1)) (halt 21 l z) t)
      go true = k (z + 1) t
      go false = refl

  in_array_same : (arrays : List ℕ) (a l v : ℕ) (t : T) → in_array arrays a l v (h t) ≡ map_evaluated h (in_array arrays a l v t)
  unfolding in_array map_evaluated
  in_array_same arrays a l v t = go (ltb v (array_length (get_or arrays a 0)))
    where
      go : (b : Bool) → pick b (value v (h t)) (stop 23 l (h t)) ≡ map_evaluated h (pick b (value v t) (stop 23 l t))
      go true = refl
      go false = refl

  taken_same : (v : ℕ) (a b : Body T) (c d : Body U)
      → ((z : ℕ) (t : T) (vs cs : List ℕ) → c z (h t) vs cs ≡ map_ran h (a z t vs cs))
      → ((z : ℕ) (t : T) (vs cs : List ℕ) → d z (h t) vs cs ≡ map_ran h (b z t vs cs))
      → (z : ℕ) (t : T) (vs cs : List ℕ) → taken v c d z (h t) vs cs ≡ map_ran h (taken v a b z t vs cs)
  unfolding taken
  taken_same v a b c d p q z t vs cs = go (eqb v 0)
    where
      go : (e : Bool) → pick e d c z (h t) vs cs ≡ map_ran h (pick e b a z t vs cs)
      go true = q z t vs cs
      go false = p z t vs cs

  received_same : (x : ℕ) (vs : List ℕ) (g : Given) (z : ℕ) (t : T) → received x vs g z (h t) ≡ map_ran h (received x vs g z t)
  unfolding received map_ran
  received_same x vs (gave v cs) z t = refl

  finish_same : (o : Outcome) (z : ℕ) (t : T) → finish o z (h t) ≡ map_ran h (finish o z t)
  unfolding finish map_ran
  finish_same (next vs cs) z t = refl
  finish_same (back v cs) z t = refl

  passes_same : (budget l x : ℕ) (f : Body T) (g : Body U)
      → ((z : ℕ) (t : T) (vs cs : List ℕ) → g z (h t) vs cs ≡ map_ran h (f z t vs cs))
      → (n i z : ℕ) (t : T) (vs cs : List ℕ) → passes budget l x g n i z (h t) vs cs ≡ map_ran h (passes budget l x f n i z t vs cs)
  unfolding passes
  passes_same budget l x f g k zero i z t vs cs = on_same (next vs cs) z t
  passes_same budget l x f g k (suc n) i z t vs cs =
      tick_same budget l z t _ _
      (λ y u. and_go_same (f y u (set vs x i) cs) _ _ _ (k y u (set vs x i) cs)
      (after_same (λ w v us ds. passes budget l x f n (i + 1) w v us ds) (λ w v us ds. passes budget l x g n (i + 1) w v us ds) (λ w v us ds. passes_same budget l x f g k n (i + 1) w v us ds)))

module _ {T U : Type 0} (C : Trace T) (D : Trace U) (h : T → U)
    (keeps-full : (t : T) → D.full (h t) ≡ C.full t)
    (keeps-add : (w v : ℕ) (t : T) → C.full t ≡ false → D.add w v (h t) ≡ h (C.add w v t)) where
  emit_same : (kind l v : ℕ) (t : T) → emit D kind l v (h t) ≡ map_evaluated h (emit C kind l v t)
  unfolding emit map_evaluated
  emit_same kind l v t = rw (keeps-full t) (go (C.full t) refl)
    where
      go : (b : Bool) → C.full t ≡ b
          → pick b (stop 22 l (h t)) (value v (D.add (kind * 268435456 + l) v (h t)))
          ≡ map_evaluated h (pick b (stop 22 l t) (value v (C.add (kind * 268435456 + l) v t)))
      go true e = refl
      go false e = rw (keeps-add (kind * 268435456 + l) v t e)

  index_at_same : (arrays : List ℕ) (a l v : ℕ) (t : T) → index_at D arrays a l v (h t) ≡ map_evaluated h (index_at C arrays a l v t)
  unfolding index_at
  index_at_same arrays a l v t = bind_same h _ _ _ _ (emit_same 4 l v t) (λ i u. in_array_same h arrays a l i u)

  divided_same : (p o v w : ℕ) (t : T) → divided D p o v w (h t) ≡ map_evaluated h (divided C p o v w t)
  unfolding divided
  divided_same p o v w t = bind_same h _ _ _ _ (emit_same 5 p v t) (λ a u. bind_same h _ _ _ _ (emit_same 6 p w u) (λ b x. go x (eqb w 0)))
    where
      go : (x : T) (c : Bool) → pick c (stop 24 p (h x)) (value (apply_binary o v w) (h x)) ≡ map_evaluated h (pick c (stop 24 p x) (value (apply_binary o v w) x))
      go x true = stop_same h ℕ 24 p x
      go x false = value_same h (apply_binary o v w) x

  shifted_same : (p o v w : ℕ) (t : T) → shifted D p o v w (h t) ≡ map_evaluated h (shifted C p o v w t)
  unfolding shifted
  shifted_same p o v w t = bind_same h _ _ _ _ (emit_same 9 p w t) (λ a u. value_same h (apply_binary o v w) u)

  operated_same : (p o v w : ℕ) (t : T) → operated D p o v w (h t) ≡ map_evaluated h (operated C p o v w t)
  unfolding operated
  operated_same p o v w t = go (divides o) (shifts o)
    where
      go : (c d : Bool) → pick c (divided D p o v w) (pick d (shifted D p o v w) (value (apply_binary o v w))) (h t)
          ≡ map_evaluated h (pick c (divided C p o v w) (pick d (shifted C p o v w) (value (apply_binary o v w))) t)
      go true d = divided_same p o v w t
      go false true = shifted_same p o v w t
      go false false = value_same h (apply_binary o v w) t

  pub evaluate_same : (arrays : List ℕ) (e : Expression) (vs cs : List ℕ) (t : T)
      → evaluate D arrays e vs cs (h t) ≡ map_evaluated h (evaluate C arrays e vs cs t)
  unfolding evaluate
  evaluate_same arrays (constant p v) vs cs t = value_same h v t
  evaluate_same arrays (boolean p v) vs cs t = value_same h v t
  evaluate_same arrays (variable p x) vs cs t = value_same h (get_or vs x 0) t
  evaluate_same arrays (cell p a i) vs cs t =
      bind_same h _ _ _ _ (evaluate_same arrays i vs cs t) (λ v u. bind_same h _ _ _ _ (index_at_same arrays a p v u) (λ j x. value_same h (get_or cs (base_of arrays a + j) 0) x))
  evaluate_same arrays (unary p o e) vs cs t = bind_same h _ _ _ _ (evaluate_same arrays e vs cs t) (λ v u. value_same h (apply_unary o v) u)
  evaluate_same arrays (binary p o e f) vs cs t =
      bind_same h _ _ _ _ (evaluate_same arrays e vs cs t)
      (λ v u. bind_same h _ _ _ _ (evaluate_same arrays f vs cs u) (λ w x. operated_same p o v w x))
  evaluate_same arrays (select p c e f) vs cs t =
      bind_same h _ _ _ _ (evaluate_same arrays c vs cs t)
      (λ b u. bind_same h _ _ _ _ (evaluate_same arrays e vs cs u) (λ v x. bind_same h _ _ _ _ (evaluate_same arrays f vs cs x) (λ w y. value_same h (pick (eqb b 0) w v) y)))

  pub evaluate_all_same : (arrays : List ℕ) (es : List Expression) (vs cs : List ℕ) (t : T)
      → evaluate_all D arrays es vs cs (h t) ≡ map_evaluated h (evaluate_all C arrays es vs cs t)
  unfolding evaluate_all
  evaluate_all_same arrays [] vs cs t = value_same h [] t
  evaluate_all_same arrays (e ∷ es) vs cs t =
      bind_same h _ _ _ _ (evaluate_same arrays e vs cs t) (λ v u. bind_same h _ _ _ _ (evaluate_all_same arrays es vs cs u) (λ ws x. value_same h (v ∷ ws) x))

  module _ (budget : ℕ) (arrays : List ℕ) (K : Callee T) (L : Callee U)
      (callees : (f : ℕ) (ws : List ℕ) (z : ℕ) (t : T) (cs : List ℕ) → L f ws z (h t) cs ≡ map_ran h (K f ws z t cs)) where
    mutual
      unfolding run_statement run_block

      statement_same : (l : ℕ) (s : Statement) (z : ℕ) (t : T) (vs cs : List ℕ)
          → run_statement D budget arrays L l s z (h t) vs cs ≡ map_ran h (run_statement C budget arrays K l s z t vs cs)
      statement_same l (assign x e) z t vs cs = within_same h z _ _ _ _ (evaluate_same arrays e vs cs t) (λ v u. on_same h (next (set vs x v) cs) z u)
      statement_same l (store a i e) z t vs cs =
          within_same h z _ _ _ _ (evaluate_same arrays i vs cs t)
          (λ v u. within_same h z _ _ _ _ (index_at_same arrays a l v u)
          (λ j x. within_same h z _ _ _ _ (evaluate_same arrays e vs cs x) (λ w y. on_same h (next vs (set cs (base_of arrays a + j) w)) z y)))
      statement_same l (conditional c a b) z t vs cs =
          within_same h z _ _ _ _ (evaluate_same arrays c vs cs t)
          (λ v u. within_same h z _ _ _ _ (emit_same 1 l (truth v) u)
          (λ d x. taken_same h d _ _ _ _ (λ y w us ds. block_same a y w us ds) (λ y w us ds. block_same b y w us ds) z x vs cs))
      statement_same l (loop x f g b) z t vs cs =
          within_same h z _ _ _ _ (evaluate_same arrays f vs cs t)
          (λ v u. within_same h z _ _ _ _ (evaluate_same arrays g vs cs u)
          (λ w y. within_same h z _ _ _ _ (emit_same 2 l v y)
          (λ i q. within_same h z _ _ _ _ (emit_same 3 l w q)
          (λ j r. passes_same h budget l x _ _ (λ n p us ds. block_same b n p us ds) (w - v) v z r vs cs))))
      statement_same l (return e) z t vs cs =
          within_same h z _ _ _ _ (evaluate_same arrays e vs cs t)
          (λ v u. within_same h z _ _ _ _ (emit_same 8 l 0 u) (λ d x. on_same h (back v cs) z x))
      statement_same l (call f x es) z t vs cs =
          within_same h z _ _ _ _ (evaluate_all_same arrays es vs cs t)
          (λ ws u. within_same h z _ _ _ _ (emit_same 7 l f u)
          (λ d y. and_go_same h _ _ _ _ (callees f ws z y cs) (received_same h x vs)))

      pub block_same : (b : Block) (z : ℕ) (t : T) (vs cs : List ℕ)
          → run_block D budget arrays L b z (h t) vs cs ≡ map_ran h (run_block C budget arrays K b z t vs cs)
      block_same done z t vs cs = on_same h (next vs cs) z t
      block_same (sequence l s b) z t vs cs =
          tick_same h budget l z t _ _
          (λ y u. and_go_same h _ _ _ _ (statement_same l s y u vs cs) (after_same h _ _ (λ w v us ds. block_same b w v us ds)))

  pub procedure_same : (budget : ℕ) (arrays : List ℕ) (ps : List Procedure) (n f : ℕ) (ws : List ℕ) (z : ℕ) (t : T) (cs : List ℕ)
      → run_procedure D budget arrays ps n f ws z (h t) cs ≡ map_ran h (run_procedure C budget arrays ps n f ws z t cs)
  unfolding run_procedure
  procedure_same budget arrays ps zero f ws z t cs = on_same h (gave 0 cs) z t
  procedure_same budget arrays ps (suc n) f ws z t cs =
      go (procedure_same budget arrays ps n) (eqb f n)
    where
      go : ((g : ℕ) (xs : List ℕ) (p : ℕ) (q : T) (ds : List ℕ)
          → run_procedure D budget arrays ps n g xs p (h q) ds ≡ map_ran h (run_procedure C budget arrays ps n g xs p q ds))
          → (b : Bool)
          → pick {A = ℕ → U → Ran U Given} b
          (λ y u. and_go (run_block D budget arrays (λ g xs p q ds. run_procedure D budget arrays ps n g xs p q ds) (procedure_at ps n).body y u (frame ws) cs) finish)
          (λ y u. run_procedure D budget arrays ps n f ws y u cs) z (h t)
          ≡ map_ran h (pick {A = ℕ → T → Ran T Given} b
          (λ y u. and_go (run_block C budget arrays (λ g xs p q ds. run_procedure C budget arrays ps n g xs p q ds) (procedure_at ps n).body y u (frame ws) cs) finish)
          (λ y u. run_procedure C budget arrays ps n f ws y u cs) z t)
      go r true = and_go_same h _ _ _ _ (block_same budget arrays _ _ r (procedure_at ps n).body z t (frame ws) cs) (finish_same h)
      go r false = r f ws z t cs
