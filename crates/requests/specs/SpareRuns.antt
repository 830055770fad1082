-- Cells past the image's own play no part in a run: it is the same run, and they stay behind the cells that it leaves.
-- Assumes nothing.
use Rattle.std.specs.Prelude.{◌≡◌, Bool, ltb, eqb, length, get_or, set}
use Rattle.std.proofs.Math.Path.{refl, ap}
use Rattle.std.proofs.Math.Bool.{true, false}
use mathlib.Core.List.{List, [], ◌∷◌, ◌++◌}
use Prim.Native.Nat.{ℕ, zero, suc, ◌+◌, ◌-◌, ◌<◌}
use Rattle.std.proofs.Common.{arith, ltb-true, length-set}
use Rattle.std.proofs.Math.ListN.{get_or-append}
use Rattle.std.proofs.lemmas.List.{set-append_left}
use Rattle.definitions.specs.Choice.{pick}
use Rattle.definitions.specs.Arithmetic.{truth}
use Rattle.definitions.specs.Image.{array_length, cell_count, base_of, Expression, constant, boolean, variable, cell}
use Rattle.definitions.specs.Image.{unary, binary, select, Statement, assign, store, conditional, loop, return, call}
use Rattle.definitions.specs.Image.{Block, done, sequence, Procedure, procedure_at}
use Rattle.definitions.specs.Running.{Trace, Evaluated, value, stop, Ran, on, halt, bind, within, and_go, emit, in_array}
use Rattle.definitions.specs.Running.{index_at, evaluate, evaluate_all, Outcome, next, back, Given, gave, Callee, Body}
use Rattle.definitions.specs.Running.{tick, after, passes, taken, received, run_statement, run_block, frame, finish}
use Rattle.definitions.specs.Running.{run_procedure}
use Rattle.laws.specs.Cells.{cell_among}

-- two runs that take the same steps, record the same and stop alike, and otherwise end with values that R joins
pub data Both {T A : Type 0} (R : A → A → Type 0) : Ran T A → Ran T A → Type 0 where
  both_on : (a b : A) (z : ℕ) (t : T) → R a b → Both R (on a z t) (on b z t)
  both_halt : (n l z : ℕ) (t : T) → Both R (halt n l z t) (halt n l z t)

both_go : {T A B : Type 0} {R : A → A → Type 0} {S : B → B → Type 0} {x y : Ran T A} {f g : A → ℕ → T → Ran T B} → Both R x y
    → ((a b : A) (z : ℕ) (t : T) → R a b → Both S (f a z t) (g b z t)) → Both S (and_go x f) (and_go y g)
both_go (both_on a b z t r) k = k a b z t r
both_go (both_halt n l z t) k = both_halt n l z t

both_within : {T A B : Type 0} {S : B → B → Type 0} (z : ℕ) (x y : Evaluated T A) (f g : A → T → Ran T B) → y ≡ x
    → ((a : A) (t : T) → Both S (f a t) (g a t)) → Both S (within z x f) (within z y g)
both_within z (value a t) y f g e k = rw e (k a t)
both_within z (stop n l t) y f g e k = rw e (both_halt n l z t)

both_tick : {T A : Type 0} {R : A → A → Type 0} (budget l z : ℕ) (t : T) (f g : ℕ → T → Ran T A)
    → ((y : ℕ) (u : T) → Both R (f y u) (g y u)) → Both R (tick budget l z t f) (tick budget l z t g)
unfolding tick
both_tick {T} {A} {R} budget l z t f g k = go (ltb z budget)
  where
    go : (b : Bool) → Both R (pick b (f (z + 1)) (halt 21 l z) t) (pick b (g (z + 1)) (halt 21 l z) t)
    go true = k (z + 1) t
    go false = both_halt 21 l z t

-- what follows an index that was tested knows that it is within the array
bind_index : {T A : Type 0} (C : Trace T) (arrays : List ℕ) (a l v : ℕ) (t : T) (f g : ℕ → T → Evaluated T A)
    → ((j : ℕ) (u : T) → j < array_length (get_or arrays a 0) → g j u ≡ f j u) → bind (index_at C arrays a l v t) g ≡ bind (index_at C arrays a l v t) f
unfolding index_at in_array
bind_index {T} {A} C arrays a l v t f g k = go (emit C 4 l v t)
  where
    tested : (i : ℕ) (u : T) (b : Bool) → ltb i (array_length (get_or arrays a 0)) ≡ b
        → bind (pick b (value i u) (stop 23 l u)) g ≡ bind (pick b (value i u) (stop 23 l u)) f
    tested i u true e = k i u (ltb-true i (array_length (get_or arrays a 0)) e)
    tested i u false e = refl

    go : (x : Evaluated T ℕ)
        → bind (bind x (λ i u. pick (ltb i (array_length (get_or arrays a 0))) (value i u) (stop 23 l u))) g
        ≡ bind (bind x (λ i u. pick (ltb i (array_length (get_or arrays a 0))) (value i u) (stop 23 l u))) f
    go (value i u) = tested i u (ltb i (array_length (get_or arrays a 0))) refl
    go (stop n q u) = refl

within_index : {T A : Type 0} {S : A → A → Type 0} (C : Trace T) (arrays : List ℕ) (a l v z : ℕ) (t : T) (f g : ℕ → T → Ran T A)
    → ((j : ℕ) (u : T) → j < array_length (get_or arrays a 0) → Both S (f j u) (g j u))
    → Both S (within z (index_at C arrays a l v t) f) (within z (index_at C arrays a l v t) g)
unfolding index_at in_array
within_index {T} {A} {S} C arrays a l v z t f g k = go (emit C 4 l v t)
  where
    tested : (i : ℕ) (u : T) (b : Bool) → ltb i (array_length (get_or arrays a 0)) ≡ b
        → Both S (within z (pick b (value i u) (stop 23 l u)) f) (within z (pick b (value i u) (stop 23 l u)) g)
    tested i u true e = k i u (ltb-true i (array_length (get_or arrays a 0)) e)
    tested i u false e = both_halt 23 l z u

    go : (x : Evaluated T ℕ)
        → Both S (within z (bind x (λ i u. pick (ltb i (array_length (get_or arrays a 0))) (value i u) (stop 23 l u))) f)
        (within z (bind x (λ i u. pick (ltb i (array_length (get_or arrays a 0))) (value i u) (stop 23 l u))) g)
    go (value i u) = tested i u (ltb i (array_length (get_or arrays a 0))) refl
    go (stop n q u) = both_halt n q z u

bind_same : {T A B : Type 0} (x y : Evaluated T A) (f g : A → T → Evaluated T B) → y ≡ x → ((a : A) (t : T) → g a t ≡ f a t) → bind y g ≡ bind x f
bind_same (value a t) y f g e k = rw e (k a t)
bind_same (stop n l t) y f g e k = rw e

module _ {T : Type 0} (C : Trace T) (budget : ℕ) (arrays rest : List ℕ) where
  -- as many cells as the arrays have, and the same with the rest behind them
  pub data WideOutcome : Outcome → Outcome → Type 0 where
    wide_next : (vs cs : List ℕ) → length cs ≡ cell_count arrays → WideOutcome (next vs cs) (next vs (cs ++ rest))
    wide_back : (v : ℕ) (cs : List ℕ) → length cs ≡ cell_count arrays → WideOutcome (back v cs) (back v (cs ++ rest))

  pub data WideGiven : Given → Given → Type 0 where
    wide_gave : (v : ℕ) (cs : List ℕ) → length cs ≡ cell_count arrays → WideGiven (gave v cs) (gave v (cs ++ rest))

  evaluate_spare : (e : Expression) (vs cs : List ℕ) (t : T) → length cs ≡ cell_count arrays
      → evaluate C arrays e vs (cs ++ rest) t ≡ evaluate C arrays e vs cs t
  unfolding evaluate
  evaluate_spare (constant p v) vs cs t h = refl
  evaluate_spare (boolean p v) vs cs t h = refl
  evaluate_spare (variable p x) vs cs t h = refl
  evaluate_spare (cell p a i) vs cs t h =
      bind_same _ _ _ _ (evaluate_spare i vs cs t h)
      (λ v u. bind_index C arrays a p v u _ _
      (λ j x q. ap (λ (w : ℕ). value w x)
      (get_or-append cs rest 0 (base_of arrays a + j) (let s = cell_among arrays a j q in omega arith))))
  evaluate_spare (unary p o e) vs cs t h = bind_same _ _ _ _ (evaluate_spare e vs cs t h) (λ v u. refl)
  evaluate_spare (binary p o e f) vs cs t h =
      bind_same _ _ _ _ (evaluate_spare e vs cs t h) (λ v u. bind_same _ _ _ _ (evaluate_spare f vs cs u h) (λ w x. refl))
  evaluate_spare (select p c e f) vs cs t h =
      bind_same _ _ _ _ (evaluate_spare c vs cs t h)
      (λ b u. bind_same _ _ _ _ (evaluate_spare e vs cs u h) (λ v x. bind_same _ _ _ _ (evaluate_spare f vs cs x h) (λ w y. refl)))

  evaluate_all_spare : (es : List Expression) (vs cs : List ℕ) (t : T) → length cs ≡ cell_count arrays
      → evaluate_all C arrays es vs (cs ++ rest) t ≡ evaluate_all C arrays es vs cs t
  unfolding evaluate_all
  evaluate_all_spare [] vs cs t h = refl
  evaluate_all_spare (e ∷ es) vs cs t h =
      bind_same _ _ _ _ (evaluate_spare e vs cs t h) (λ v u. bind_same _ _ _ _ (evaluate_all_spare es vs cs u h) (λ ws x. refl))

  -- a body that is run with the rest behind the cells
  abbrev WideBody : Body T → Type 0
  WideBody f = (z : ℕ) (t : T) (vs cs : List ℕ) → length cs ≡ cell_count arrays → Both WideOutcome (f z t vs cs) (f z t vs (cs ++ rest))

  after_spare : (f : Body T) → WideBody f → (o p : Outcome) (z : ℕ) (t : T) → WideOutcome o p → Both WideOutcome (after f o z t) (after f p z t)
  after_spare f k o p z t (wide_next vs cs h) = k z t vs cs h
  after_spare f k o p z t (wide_back v cs h) = both_on _ _ z t (wide_back v cs h)

  finish_spare : (o p : Outcome) (z : ℕ) (t : T) → WideOutcome o p → Both WideGiven (finish o z t) (finish p z t)
  unfolding finish
  finish_spare o p z t (wide_next vs cs h) = both_on _ _ z t (wide_gave 0 cs h)
  finish_spare o p z t (wide_back v cs h) = both_on _ _ z t (wide_gave v cs h)

  received_spare : (x : ℕ) (vs : List ℕ) (g k : Given) (z : ℕ) (t : T) → WideGiven g k → Both WideOutcome (received x vs g z t) (received x vs k z t)
  unfolding received
  received_spare x vs g k z t (wide_gave v cs h) = both_on _ _ z t (wide_next (set vs x v) cs h)

  taken_spare : (v : ℕ) (a b : Body T) → WideBody a → WideBody b → WideBody (taken v a b)
  unfolding taken
  taken_spare v a b p q z t vs cs h = go (eqb v 0)
    where
      go : (e : Bool) → Both WideOutcome (pick e b a z t vs cs) (pick e b a z t vs (cs ++ rest))
      go true = q z t vs cs h
      go false = p z t vs cs h

  passes_spare : (l x : ℕ) (f : Body T) → WideBody f → (n i : ℕ) → WideBody (passes budget l x f n i)
  unfolding passes
  passes_spare l x f k zero i z t vs cs h = both_on _ _ z t (wide_next vs cs h)
  passes_spare l x f k (suc n) i z t vs cs h =
      both_tick budget l z t _ _
      (λ y u. both_go (k y u (set vs x i) cs h)
      (λ o p w v r. after_spare (λ w v us ds. passes budget l x f n (i + 1) w v us ds) (λ w v us ds g. passes_spare l x f k n (i + 1) w v us ds g) o p w v r))

  stored : (vs cs : List ℕ) (a j w z : ℕ) (t : T) → length cs ≡ cell_count arrays → j < array_length (get_or arrays a 0)
      → Both WideOutcome (on (next vs (set cs (base_of arrays a + j) w)) z t) (on (next vs (set (cs ++ rest) (base_of arrays a + j) w)) z t)
  stored vs cs a j w z t h q =
      let s : base_of arrays a + j < length cs = (let r = cell_among arrays a j q in omega arith) in
      rw (set-append_left cs rest (base_of arrays a + j) w s)
      (both_on _ _ z t (wide_next vs (set cs (base_of arrays a + j) w) (rw (length-set cs (base_of arrays a + j) w) h)))

  abbrev WideCallee : Callee T → Type 0
  WideCallee K = (f : ℕ) (ws : List ℕ) (z : ℕ) (t : T) (cs : List ℕ) → length cs ≡ cell_count arrays → Both WideGiven (K f ws z t cs) (K f ws z t (cs ++ rest))

  module _ (K : Callee T) (callees : WideCallee K) where
    mutual
      unfolding run_statement run_block

      statement_spare : (l : ℕ) (s : Statement) (z : ℕ) (t : T) (vs cs : List ℕ) → length cs ≡ cell_count arrays
          → Both WideOutcome (run_statement C budget arrays K l s z t vs cs) (run_statement C budget arrays K l s z t vs (cs ++ rest))
      statement_spare l (assign x e) z t vs cs h =
          both_within z _ _ _ _ (evaluate_spare e vs cs t h) (λ v u. both_on _ _ z u (wide_next (set vs x v) cs h))
      statement_spare l (store a i e) z t vs cs h =
          both_within z _ _ _ _ (evaluate_spare i vs cs t h)
          (λ v u. within_index C arrays a l v z u _ _
          (λ j x q. both_within z _ _ _ _ (evaluate_spare e vs cs x h) (λ w y. stored vs cs a j w z y h q)))
      statement_spare l (conditional c a b) z t vs cs h =
          both_within z _ _ _ _ (evaluate_spare c vs cs t h)
          (λ v u. both_within z (emit C 1 l (truth v) u) (emit C 1 l (truth v) u) _ _ refl
          (λ d x. taken_spare d _ _ (λ y w us ds g. block_spare a y w us ds g) (λ y w us ds g. block_spare b y w us ds g) z x vs cs h))
      statement_spare l (loop x f g b) z t vs cs h =
          both_within z _ _ _ _ (evaluate_spare f vs cs t h)
          (λ v u. both_within z _ _ _ _ (evaluate_spare g vs cs u h)
          (λ w y. both_within z (emit C 2 l v y) (emit C 2 l v y) _ _ refl
          (λ i q. both_within z (emit C 3 l w q) (emit C 3 l w q) _ _ refl
          (λ j r. passes_spare l x _ (λ n p us ds k. block_spare b n p us ds k) (w - v) v z r vs cs h))))
      statement_spare l (return e) z t vs cs h =
          both_within z _ _ _ _ (evaluate_spare e vs cs t h)
          (λ v u. both_within z (emit C 8 l 0 u) (emit C 8 l 0 u) _ _ refl (λ d x. both_on _ _ z x (wide_back v cs h)))
      statement_spare l (call f x es) z t vs cs h =
          both_within z _ _ _ _ (evaluate_all_spare es vs cs t h)
          (λ ws u. both_within z (emit C 7 l f u) (emit C 7 l f u) _ _ refl
          (λ d y. both_go (callees f ws z y cs h) (λ g k w v r. received_spare x vs g k w v r)))

      block_spare : (b : Block) (z : ℕ) (t : T) (vs cs : List ℕ) → length cs ≡ cell_count arrays
          → Both WideOutcome (run_block C budget arrays K b z t vs cs) (run_block C budget arrays K b z t vs (cs ++ rest))
      block_spare done z t vs cs h = both_on _ _ z t (wide_next vs cs h)
      block_spare (sequence l s b) z t vs cs h =
          both_tick budget l z t _ _
          (λ y u. both_go (statement_spare l s y u vs cs h)
          (λ o p w v r. after_spare (λ w v us ds. run_block C budget arrays K b w v us ds) (λ w v us ds g. block_spare b w v us ds g) o p w v r))

  pub procedure_spare : (ps : List Procedure) (n f : ℕ) (ws : List ℕ) (z : ℕ) (t : T) (cs : List ℕ) → length cs ≡ cell_count arrays
      → Both WideGiven (run_procedure C budget arrays ps n f ws z t cs) (run_procedure C budget arrays ps n f ws z t (cs ++ rest))
  unfolding run_procedure
  procedure_spare ps zero f ws z t cs h = both_on _ _ z t (wide_gave 0 cs h)
  procedure_spare ps (suc n) f ws z t cs h = go (λ g xs p q ds k. procedure_spare ps n g xs p q ds k) (eqb f n)
    where
      go : WideCallee (λ g xs p q ds. run_procedure C budget arrays ps n g xs p q ds) → (b : Bool)
          → Both WideGiven
          (pick {A = ℕ → T → Ran T Given} b
          (λ y u. and_go (run_block C budget arrays (λ g xs p q ds. run_procedure C budget arrays ps n g xs p q ds) (procedure_at ps n).body y u (frame ws) cs) finish)
          (λ y u. run_procedure C budget arrays ps n f ws y u cs) z t)
          (pick {A = ℕ → T → Ran T Given} b
          (λ y u. and_go (run_block C budget arrays (λ g xs p q ds. run_procedure C budget arrays ps n g xs p q ds) (procedure_at ps n).body y u (frame ws) (cs ++ rest)) finish)
          (λ y u. run_procedure C budget arrays ps n f ws y u (cs ++ rest)) z t)
      go r true = both_go (block_spare _ r (procedure_at ps n).body z t (frame ws) cs h) finish_spare
      go r false = r f ws z t cs h
