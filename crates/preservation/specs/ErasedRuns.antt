-- A tree and the same tree without its places run alike to the last sequence, but for the places that stops and trace entries name.
-- Assumes nothing.
use Rattle.std.specs.Prelude.{◌≡◌, Bool, ltb, eqb, length, get_or, set}
use Rattle.std.proofs.Common.{sym, ◌∙◌, ap, length-append}
use Rattle.std.proofs.Math.Bool.{true, false}
use mathlib.Core.List.{List, [], ◌∷◌}
use Prim.Native.Nat.{ℕ, zero, suc, ◌+◌, ◌*◌, ◌-◌}
use Rattle.definitions.specs.Choice.{pick}
use Rattle.definitions.specs.Arithmetic.{truth}
use Rattle.definitions.specs.Operators.{divides, shifts, apply_binary}
use Rattle.definitions.specs.Image.{array_length, Expression, constant, boolean, variable, cell, unary, binary, select}
use Rattle.definitions.specs.Image.{Statement, assign, store, conditional, loop, return, call, Block, done, sequence}
use Rattle.definitions.specs.Image.{Procedure, procedure_at}
use Rattle.definitions.specs.Running.{Trace, trace_words, Evaluated, value, stop, Ran, on, halt, bind, within, and_go}
use Rattle.definitions.specs.Running.{after, emit, in_array, index_at, divided, shifted, operated, evaluate, evaluate_all, Outcome}
use Rattle.definitions.specs.Running.{next, back, Given, gave, Callee, Body, tick, passes, taken, received}
use Rattle.definitions.specs.Running.{run_statement, run_block, frame, finish, run_procedure}
use Rattle.preservation.specs.Relations.{Sim, meet, left, right, fail}
use Rattle.preservation.specs.Erasure.{erased_expression, erased_expressions, erased_statement, erased_block}
use Rattle.preservation.specs.Erasure.{erased_procedure, erased_procedures, erased_at}

-- two kinds of trace that are full at the same time, whatever places their entries name
pub record AlikeTraces {T U : Type 0} (C : Trace T) (D : Trace U) (Q : T → U → Type 0) : Type 0 where
  pub full : (t : T) (u : U) → Q t u → C.full t ≡ D.full u
  pub add : (w w' v : ℕ) (t : T) (u : U) → Q t u → Q (C.add w v t) (D.add w' v u)

-- trace words, as many on both sides
pub same_room : (room : ℕ) → AlikeTraces (trace_words room) (trace_words room) (λ t u. length t ≡ length u)
same_room room =
    record {
      full = λ t u q. ap (λ n. ltb room (n + 2)) q;
      add = λ w w' v t u q. length-append t (w ∷ v ∷ []) ∙ ap (λ n. n + 2) q ∙ sym (length-append u (w' ∷ v ∷ []));
    }

-- the same value, or the same stop but for its place
pub data AlikeValue {T U A : Type 0} (Q : T → U → Type 0) : Evaluated T A → Evaluated U A → Type 0 where
  alike_value : {a : A} {t : T} {u : U} → Q t u → AlikeValue Q (value a t) (value a u)
  alike_stop : {n l k : ℕ} {t : T} {u : U} → Q t u → AlikeValue Q (stop n l t) (stop n k u)

-- the same result, or the same stop but for its place, after the same steps
pub data Alike {T U A : Type 0} (Q : T → U → Type 0) : Ran T A → Ran U A → Type 0 where
  alike_on : {a : A} {z : ℕ} {t : T} {u : U} → Q t u → Alike Q (on a z t) (on a z u)
  alike_halt : {n l k z : ℕ} {t : T} {u : U} → Q t u → Alike Q (halt n l z t) (halt n k z u)

pub alike_turned : {T U A : Type 0} {Q : T → U → Type 0} {x : Ran T A} {y : Ran U A} → Alike Q x y → Alike (λ u t. Q t u) y x
alike_turned (alike_on q) = alike_on q
alike_turned (alike_halt q) = alike_halt q

-- what ends as one of two such runs ends as the other
pub sim_alike : {T U W A B : Type 0} {Q : U → W → Type 0} {R : A → B → Type 0} {x : Ran T A} {y : Ran U B} {w : Ran W B} → Sim R x y → Alike Q y w → Sim R x w
sim_alike (meet r) (alike_on q) = meet r
sim_alike (left s) t = left s
sim_alike (right s) (alike_halt q) = right s
sim_alike fail (alike_halt q) = fail

module _ {T U A B : Type 0} {Q : T → U → Type 0} where
  alike_bind : {x : Evaluated T A} {y : Evaluated U A} {f : A → T → Evaluated T B} {g : A → U → Evaluated U B}
      → AlikeValue Q x y → ((a : A) (t : T) (u : U) → Q t u → AlikeValue Q (f a t) (g a u)) → AlikeValue Q (bind x f) (bind y g)
  alike_bind (alike_value {a} {t} {u} q) k = k a t u q
  alike_bind (alike_stop q) k = alike_stop q

  alike_within : (z : ℕ) {x : Evaluated T A} {y : Evaluated U A} {f : A → T → Ran T B} {g : A → U → Ran U B}
      → AlikeValue Q x y → ((a : A) (t : T) (u : U) → Q t u → Alike Q (f a t) (g a u)) → Alike Q (within z x f) (within z y g)
  alike_within z (alike_value {a} {t} {u} q) k = k a t u q
  alike_within z (alike_stop q) k = alike_halt q

  alike_go : {x : Ran T A} {y : Ran U A} {f : A → ℕ → T → Ran T B} {g : A → ℕ → U → Ran U B}
      → Alike Q x y → ((a : A) (z : ℕ) (t : T) (u : U) → Q t u → Alike Q (f a z t) (g a z u)) → Alike Q (and_go x f) (and_go y g)
  alike_go (alike_on {a} {z} {t} {u} q) k = k a z t u q
  alike_go (alike_halt q) k = alike_halt q

module _ {T U : Type 0} {C : Trace T} {D : Trace U} {Q : T → U → Type 0} (h : AlikeTraces C D Q) where
  alike_emit : (kind l k v : ℕ) (t : T) (u : U) → Q t u → AlikeValue Q (emit C kind l v t) (emit D kind k v u)
  unfolding emit
  alike_emit kind l k v t u q = rw (h.full t u q) (go (D.full u))
    where
      go : (b : Bool) → AlikeValue {A = ℕ} Q (pick b (stop 22 l t) (value v (C.add (kind * 268435456 + l) v t))) (pick b (stop 22 k u) (value v (D.add (kind * 268435456 + k) v u)))
      go true = alike_stop q
      go false = alike_value (h.add (kind * 268435456 + l) (kind * 268435456 + k) v t u q)

  alike_index : (arrays : List ℕ) (a l k v : ℕ) (t : T) (u : U) → Q t u → AlikeValue Q (index_at C arrays a l v t) (index_at D arrays a k v u)
  unfolding index_at in_array
  alike_index arrays a l k v t u q = alike_bind (alike_emit 4 l k v t u q) λ i x y r. go i x y r (ltb i (array_length (get_or arrays a 0)))
    where
      go : (i : ℕ) (x : T) (y : U) → Q x y → (b : Bool) → AlikeValue {A = ℕ} Q (pick b (value i x) (stop 23 l x)) (pick b (value i y) (stop 23 k y))
      go i x y r true = alike_value r
      go i x y r false = alike_stop r

  alike_divided : (p p' o v w : ℕ) (t : T) (u : U) → Q t u → AlikeValue Q (divided C p o v w t) (divided D p' o v w u)
  unfolding divided
  alike_divided p p' o v w t u q = alike_bind (alike_emit 5 p p' v t u q) λ a x y r. alike_bind (alike_emit 6 p p' w x y r) λ b x' y' r'. go x' y' r' (eqb w 0)
    where
      go : (x : T) (y : U) → Q x y → (b : Bool) → AlikeValue {A = ℕ} Q (pick b (stop 24 p x) (value (apply_binary o v w) x)) (pick b (stop 24 p' y) (value (apply_binary o v w) y))
      go x y r true = alike_stop r
      go x y r false = alike_value r

  alike_operated : (p p' o v w : ℕ) (t : T) (u : U) → Q t u → AlikeValue Q (operated C p o v w t) (operated D p' o v w u)
  unfolding operated shifted
  alike_operated p p' o v w t u q = go (divides o) (shifts o)
    where
      go : (b c : Bool) → AlikeValue Q (pick b (divided C p o v w) (pick c (shifted C p o v w) (value (apply_binary o v w))) t)
          (pick b (divided D p' o v w) (pick c (shifted D p' o v w) (value (apply_binary o v w))) u)
      go true c = alike_divided p p' o v w t u q
      go false true = alike_bind (alike_emit 9 p p' w t u q) λ a x y r. alike_value r
      go false false = alike_value q

  alike_evaluate : (arrays : List ℕ) (e : Expression) (vs cs : List ℕ) (t : T) (u : U) → Q t u → AlikeValue Q (evaluate C arrays e vs cs t) (evaluate D arrays (erased_expression e) vs cs u)
  unfolding evaluate erased_expression
  alike_evaluate arrays (constant p v) vs cs t u q = alike_value q
  alike_evaluate arrays (boolean p v) vs cs t u q = alike_value q
  alike_evaluate arrays (variable p x) vs cs t u q = alike_value q
  alike_evaluate arrays (cell p a i) vs cs t u q =
      alike_bind (alike_evaluate arrays i vs cs t u q) λ v t₁ u₁ q₁. alike_bind (alike_index arrays a p 0 v t₁ u₁ q₁) λ j t₂ u₂ q₂. alike_value q₂
  alike_evaluate arrays (unary p o e) vs cs t u q = alike_bind (alike_evaluate arrays e vs cs t u q) λ v t₁ u₁ q₁. alike_value q₁
  alike_evaluate arrays (binary p o e f) vs cs t u q =
      alike_bind (alike_evaluate arrays e vs cs t u q) λ v t₁ u₁ q₁. alike_bind (alike_evaluate arrays f vs cs t₁ u₁ q₁) λ w t₂ u₂ q₂. alike_operated p 0 o v w t₂ u₂ q₂
  alike_evaluate arrays (select p c e f) vs cs t u q =
      alike_bind (alike_evaluate arrays c vs cs t u q) λ b t₁ u₁ q₁. alike_bind (alike_evaluate arrays e vs cs t₁ u₁ q₁) λ v t₂ u₂ q₂.
      alike_bind (alike_evaluate arrays f vs cs t₂ u₂ q₂) λ w t₃ u₃ q₃. alike_value q₃

  alike_evaluate_all : (arrays : List ℕ) (es : List Expression) (vs cs : List ℕ) (t : T) (u : U) → Q t u → AlikeValue Q (evaluate_all C arrays es vs cs t) (evaluate_all D arrays (erased_expressions es) vs cs u)
  unfolding evaluate_all erased_expressions
  alike_evaluate_all arrays [] vs cs t u q = alike_value q
  alike_evaluate_all arrays (e ∷ es) vs cs t u q =
      alike_bind (alike_evaluate arrays e vs cs t u q) λ v t₁ u₁ q₁. alike_bind (alike_evaluate_all arrays es vs cs t₁ u₁ q₁) λ ws t₂ u₂ q₂. alike_value q₂

-- how a block, and how a procedure, is run on both sides
abbrev AlikeBody : {T U : Type 0} → (T → U → Type 0) → Body T → Body U → Type 0
AlikeBody {T} {U} Q f g = (z : ℕ) (t : T) (u : U) (vs cs : List ℕ) → Q t u → Alike Q (f z t vs cs) (g z u vs cs)

abbrev AlikeCallee : {T U : Type 0} → (T → U → Type 0) → Callee T → Callee U → Type 0
AlikeCallee {T} {U} Q J K = (f : ℕ) (ws : List ℕ) (z : ℕ) (t : T) (u : U) (cs : List ℕ) → Q t u → Alike Q (J f ws z t cs) (K f ws z u cs)

module _ {T U : Type 0} {Q : T → U → Type 0} where
  alike_tick : {A : Type 0} (budget l k z : ℕ) (t : T) (u : U) (f : ℕ → T → Ran T A) (g : ℕ → U → Ran U A) → Q t u → ((y : ℕ) → Alike Q (f y t) (g y u)) → Alike Q (tick budget l z t f) (tick budget k z u g)
  unfolding tick
  alike_tick {A} budget l k z t u f g q h = go (ltb z budget)
    where
      go : (b : Bool) → Alike Q (pick b (f (z + 1)) (halt 21 l z) t) (pick b (g (z + 1)) (halt 21 k z) u)
      go true = h (z + 1)
      go false = alike_halt q

  alike_after : (f : Body T) (g : Body U) → AlikeBody Q f g → (o : Outcome) (z : ℕ) (t : T) (u : U) → Q t u → Alike Q (after f o z t) (after g o z u)
  alike_after f g h (next vs cs) z t u q = h z t u vs cs q
  alike_after f g h (back v cs) z t u q = alike_on q

  alike_passes : (budget l k x : ℕ) (f : Body T) (g : Body U) → AlikeBody Q f g → (n i : ℕ) → AlikeBody Q (passes budget l x f n i) (passes budget k x g n i)
  unfolding passes
  alike_passes budget l k x f g h zero i z t u vs cs q = alike_on q
  alike_passes budget l k x f g h (suc n) i z t u vs cs q =
      alike_tick budget l k z t u _ _ q λ y. alike_go (h y t u (set vs x i) cs q) λ o w t₁ u₁ q₁.
      alike_after (λ w v us ds. passes budget l x f n (i + 1) w v us ds) (λ w v us ds. passes budget k x g n (i + 1) w v us ds) (alike_passes budget l k x f g h n (i + 1)) o w t₁ u₁ q₁

  alike_taken : (v : ℕ) (a b : Body T) (c d : Body U) → AlikeBody Q a c → AlikeBody Q b d → AlikeBody Q (taken v a b) (taken v c d)
  unfolding taken
  alike_taken v a b c d p r z t u vs cs q = go (eqb v 0)
    where
      go : (e : Bool) → Alike Q (pick e b a z t vs cs) (pick e d c z u vs cs)
      go true = r z t u vs cs q
      go false = p z t u vs cs q

  alike_received : (x : ℕ) (vs : List ℕ) (g : Given) (z : ℕ) (t : T) (u : U) → Q t u → Alike Q (received x vs g z t) (received x vs g z u)
  unfolding received
  alike_received x vs (gave v cs) z t u q = alike_on q

  alike_finish : (o : Outcome) (z : ℕ) (t : T) (u : U) → Q t u → Alike Q (finish o z t) (finish o z u)
  unfolding finish
  alike_finish (next vs cs) z t u q = alike_on q
  alike_finish (back v cs) z t u q = alike_on q

module _ {T U : Type 0} {C : Trace T} {D : Trace U} {Q : T → U → Type 0} (h : AlikeTraces C D Q) (budget : ℕ) (arrays : List ℕ) where
  module _ (J : Callee T) (K : Callee U) (kt : AlikeCallee Q J K) where
    mutual
      unfolding run_statement run_block erased_statement erased_block

      alike_statement : (s : Statement) (l : ℕ) (z : ℕ) (t : T) (u : U) (vs cs : List ℕ) → Q t u
          → Alike Q (run_statement C budget arrays J l s z t vs cs) (run_statement D budget arrays K 0 (erased_statement s) z u vs cs)
      alike_statement (assign x e) l z t u vs cs q = alike_within z (alike_evaluate h arrays e vs cs t u q) λ v t₁ u₁ q₁. alike_on q₁
      alike_statement (store a i e) l z t u vs cs q =
          alike_within z (alike_evaluate h arrays i vs cs t u q) λ v t₁ u₁ q₁. alike_within z (alike_index h arrays a l 0 v t₁ u₁ q₁) λ j t₂ u₂ q₂.
          alike_within z (alike_evaluate h arrays e vs cs t₂ u₂ q₂) λ w t₃ u₃ q₃. alike_on q₃
      alike_statement (conditional c a b) l z t u vs cs q =
          alike_within z (alike_evaluate h arrays c vs cs t u q) λ v t₁ u₁ q₁. alike_within z (alike_emit h 1 l 0 (truth v) t₁ u₁ q₁) λ d t₂ u₂ q₂.
          alike_taken d (λ y w us ds. run_block C budget arrays J a y w us ds) (λ y w us ds. run_block C budget arrays J b y w us ds)
          (λ y w us ds. run_block D budget arrays K (erased_block a) y w us ds) (λ y w us ds. run_block D budget arrays K (erased_block b) y w us ds)
          (λ y w x us ds r. alike_block a y w x us ds r) (λ y w x us ds r. alike_block b y w x us ds r) z t₂ u₂ vs cs q₂
      alike_statement (loop x f g b) l z t u vs cs q =
          alike_within z (alike_evaluate h arrays f vs cs t u q) λ v t₁ u₁ q₁. alike_within z (alike_evaluate h arrays g vs cs t₁ u₁ q₁) λ w t₂ u₂ q₂.
          alike_within z (alike_emit h 2 l 0 v t₂ u₂ q₂) λ i t₃ u₃ q₃. alike_within z (alike_emit h 3 l 0 w t₃ u₃ q₃) λ j t₄ u₄ q₄.
          alike_passes budget l 0 x (λ n p us ds. run_block C budget arrays J b n p us ds) (λ n p us ds. run_block D budget arrays K (erased_block b) n p us ds)
          (λ y w x us ds r. alike_block b y w x us ds r) (w - v) v z t₄ u₄ vs cs q₄
      alike_statement (return e) l z t u vs cs q =
          alike_within z (alike_evaluate h arrays e vs cs t u q) λ v t₁ u₁ q₁. alike_within z (alike_emit h 8 l 0 0 t₁ u₁ q₁) λ d t₂ u₂ q₂. alike_on q₂
      alike_statement (call f x es) l z t u vs cs q =
          alike_within z (alike_evaluate_all h arrays es vs cs t u q) λ ws t₁ u₁ q₁. alike_within z (alike_emit h 7 l 0 f t₁ u₁ q₁) λ d t₂ u₂ q₂.
          alike_go (kt f ws z t₂ u₂ cs q₂) λ g y t₃ u₃ q₃. alike_received x vs g y t₃ u₃ q₃

      alike_block : (b : Block) (z : ℕ) (t : T) (u : U) (vs cs : List ℕ) → Q t u → Alike Q (run_block C budget arrays J b z t vs cs) (run_block D budget arrays K (erased_block b) z u vs cs)
      alike_block done z t u vs cs q = alike_on q
      alike_block (sequence l s b) z t u vs cs q =
          alike_tick budget l 0 z t u _ _ q λ y. alike_go (alike_statement s l y t u vs cs q) λ o w t₁ u₁ q₁.
          alike_after (λ w v us ds. run_block C budget arrays J b w v us ds) (λ w v us ds. run_block D budget arrays K (erased_block b) w v us ds) (λ y w x us ds r. alike_block b y w x us ds r) o w t₁ u₁ q₁

  -- the first n procedures, and the same without their places
  pub alike_procedure : (ps : List Procedure) (n f : ℕ) (ws : List ℕ) (z : ℕ) (t : T) (u : U) (cs : List ℕ) → Q t u
      → Alike Q (run_procedure C budget arrays ps n f ws z t cs) (run_procedure D budget arrays (erased_procedures ps) n f ws z u cs)
  unfolding run_procedure erased_procedure
  alike_procedure ps zero f ws z t u cs q = alike_on q
  alike_procedure ps (suc n) f ws z t u cs q = go (alike_procedure ps n) (eqb f n)
    where
      go : AlikeCallee Q (λ g xs p q ds. run_procedure C budget arrays ps n g xs p q ds) (λ g xs p q ds. run_procedure D budget arrays (erased_procedures ps) n g xs p q ds) → (b : Bool)
          → Alike Q
          (pick {A = ℕ → T → Ran T Given} b
          (λ y u. and_go (run_block C budget arrays (λ g xs p q ds. run_procedure C budget arrays ps n g xs p q ds) (procedure_at ps n).body y u (frame ws) cs) finish)
          (λ y u. run_procedure C budget arrays ps n f ws y u cs) z t)
          (pick {A = ℕ → U → Ran U Given} b
          (λ y u. and_go (run_block D budget arrays (λ g xs p q ds. run_procedure D budget arrays (erased_procedures ps) n g xs p q ds) (procedure_at (erased_procedures ps) n).body y u (frame ws) cs) finish)
          (λ y u. run_procedure D budget arrays (erased_procedures ps) n f ws y u cs) z u)
      go ih true =
          rw (erased_at ps n)
          (alike_go (alike_block (λ g xs p q ds. run_procedure C budget arrays ps n g xs p q ds) (λ g xs p q ds. run_procedure D budget arrays (erased_procedures ps) n g xs p q ds) ih (procedure_at ps n).body z t u (frame ws) cs q)
          λ o y t₁ u₁ q₁. alike_finish o y t₁ u₁ q₁)
      go ih false = ih f ws z t u cs q
