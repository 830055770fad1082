-- Document 01, "The machine" and "From the machine's state": running a body, its steps, trace entries and stops.
use Rattle.std.specs.Prelude.{ℕ, zero, suc, ◌+◌, ◌*◌, ◌-◌, Bool, List, [], ◌∷◌, ◌++◌, ltb, eqb, length, get_or, set, replicate}
use Rattle.definitions.specs.Choice.{pick}
use Rattle.definitions.specs.Arithmetic.{truth}
use Rattle.definitions.specs.Operators.{divides, shifts, apply_binary, apply_unary}
use Rattle.definitions.specs.Image.{Expression, constant, boolean, variable, cell, unary, binary, select}
use Rattle.definitions.specs.Image.{Statement, assign, store, conditional, loop, return, call, Block, done}
use Rattle.definitions.specs.Image.{sequence, array_length, base_of, Procedure, procedure_at}

-- How a trace is kept, whatever it is: whether it is full ("fewer than two trace words are free for an entry"), and
-- what it is with an entry's two words added.
pub record Trace (T : Type 0) : Type 0 where
  pub full : T → Bool
  pub add : ℕ → ℕ → T → T

-- The trace words recorded, in order, where there is room for the given number.
abbrev pub trace_words : ℕ → Trace (List ℕ)
trace_words room = record { full = λ t. ltb room (length t + 2); add = λ w v t. t ++ (w ∷ v ∷ []) }

-- What an evaluation gives: a value with the trace, or a stop: its number and place, with the trace.
pub data Evaluated (T A : Type 0) : Type 0 where
  value : A → T → Evaluated T A
  stop : ℕ → ℕ → T → Evaluated T A

-- What a run gives: it goes on, or halts with a stop's number and place; each with the steps taken and the trace.
pub data Ran (T A : Type 0) : Type 0 where
  on : A → ℕ → T → Ran T A
  halt : ℕ → ℕ → ℕ → T → Ran T A

abbrev pub bind : {T A B : Type 0} → Evaluated T A → (A → T → Evaluated T B) → Evaluated T B
bind (value a trace) f = f a trace
bind (stop number place t) f = stop number place t

-- an evaluation in a run that has taken the given steps
abbrev pub within : {T A B : Type 0} → ℕ → Evaluated T A → (A → T → Ran T B) → Ran T B
within steps (value a trace) f = f a trace
within steps (stop number place trace) f = halt number place steps trace

abbrev pub and_go : {T A B : Type 0} → Ran T A → (A → ℕ → T → Ran T B) → Ran T B
and_go (on a steps trace) f = f a steps trace
and_go (halt number place steps trace) f = halt number place steps trace

-- "Trace entries are two words, kind × 2^28 + place, then value"; "22 trace full". The value is handed on.
unfoldable pub emit : {T : Type 0} → Trace T → ℕ → ℕ → ℕ → T → Evaluated T ℕ
emit tracing kind place v trace =
    pick (tracing.full trace) (stop 22 place trace) (value v (tracing.add (kind * 268435456 + place) v trace))

-- "23 index beyond the array"
unfoldable pub in_array : {T : Type 0} → List ℕ → ℕ → ℕ → ℕ → T → Evaluated T ℕ
in_array arrays a place index trace =
    pick (ltb index (array_length (get_or arrays a 0))) (value index trace) (stop 23 place trace)

-- "An entry follows its operands and precedes the bounds or zero test"
unfoldable pub index_at : {T : Type 0} → Trace T → List ℕ → ℕ → ℕ → ℕ → T → Evaluated T ℕ
index_at tracing arrays a place index trace =
    bind (emit tracing 4 place index trace) (λ i t₁. in_array arrays a place i t₁)

-- "5 dividend, 6 divisor .. dividend and divisor, follow both operands in that order"; "24 divisor 0"
unfoldable pub divided : {T : Type 0} → Trace T → ℕ → ℕ → ℕ → ℕ → T → Evaluated T ℕ
divided tracing place op v w trace = bind (emit tracing 5 place v trace)
    (λ _ t₁. bind (emit tracing 6 place w t₁)
    (λ _ t₂. pick (eqb w 0) (stop 24 place t₂) (value (apply_binary op v w) t₂)))

-- Document 02, wish 4: "Operators 6, 7 and 8 record an entry of kind 9 holding the count before the modulo, after both
-- operands." The count is the value of the right one; the entry, and a 22 there, stand at the operator's word.
unfoldable pub shifted : {T : Type 0} → Trace T → ℕ → ℕ → ℕ → ℕ → T → Evaluated T ℕ
shifted tracing place op v w trace =
    bind (emit tracing 9 place w trace) (λ _ t₁. value (apply_binary op v w) t₁)

-- an operator on its operands' values; one that neither divides nor shifts leaves no entry
unfoldable pub operated : {T : Type 0} → Trace T → ℕ → ℕ → ℕ → ℕ → T → Evaluated T ℕ
operated tracing place op v w trace = pick (divides op) (divided tracing place op v w)
    (pick (shifts op) (shifted tracing place op v w) (value (apply_binary op v w))) trace

-- over the array words
module _ {T : Type 0} (tracing : Trace T) (arrays : List ℕ) where
  -- "Every operand is evaluated, left to right": an expression over the variables and the cells
  unfoldable pub evaluate : Expression → List ℕ → List ℕ → T → Evaluated T ℕ
  evaluate (constant p v) vars cells trace = value v trace
  evaluate (boolean p v) vars cells trace = value v trace
  evaluate (variable p x) vars cells trace = value (get_or vars x 0) trace
  evaluate (cell p a i) vars cells trace = bind (evaluate i vars cells trace)
      (λ v t₁. bind (index_at tracing arrays a p v t₁) (λ j t₂. value (get_or cells (base_of arrays a + j) 0) t₂))
  evaluate (unary p o e) vars cells trace = bind (evaluate e vars cells trace) (λ v t₁. value (apply_unary o v) t₁)
  evaluate (binary p o e f) vars cells trace = bind (evaluate e vars cells trace)
      (λ v t₁. bind (evaluate f vars cells t₁) (λ w t₂. operated tracing p o v w t₂))
  evaluate (select p c e f) vars cells trace = bind (evaluate c vars cells trace)
      (λ b t₁. bind (evaluate e vars cells t₁)
      (λ v t₂. bind (evaluate f vars cells t₂) (λ w t₃. value (pick (eqb b 0) w v) t₃)))

  unfoldable pub evaluate_all : List Expression → List ℕ → List ℕ → T → Evaluated T (List ℕ)
  evaluate_all [] vars cells trace = value [] trace
  evaluate_all (e ∷ es) vars cells trace = bind (evaluate e vars cells trace)
      (λ v t₁. bind (evaluate_all es vars cells t₁) (λ ws t₂. value (v ∷ ws) t₂))

-- What a statement or block comes to: on to the next, with variables and cells; or back with a return's value and cells.
pub data Outcome : Type 0 where
  next : List ℕ → List ℕ → Outcome
  back : ℕ → List ℕ → Outcome

-- what a procedure gives: its result, and the cells
pub data Given : Type 0 where
  gave : ℕ → List ℕ → Given

-- how a procedure is run: number, arguments, steps, trace, cells
abbrev pub Callee : Type 0 → Type 0
Callee T = ℕ → List ℕ → ℕ → T → List ℕ → Ran T Given

-- how a block is run: steps, trace, variables, cells
abbrev pub Body : Type 0 → Type 0
Body T = ℕ → T → List ℕ → List ℕ → Ran T Outcome

-- "Each statement begun and each loop pass costs one step, never beyond the 32-bit budget"; "21 budget spent"
unfoldable pub tick : {T A : Type 0} → ℕ → ℕ → ℕ → T → (ℕ → T → Ran T A) → Ran T A
tick budget place steps trace f = pick (ltb steps budget) (f (steps + 1)) (halt 21 place steps) trace

-- what follows a statement or pass: nothing after a return
abbrev pub after : {T : Type 0} → Body T → Outcome → ℕ → T → Ran T Outcome
after f (next vars cells) steps trace = f steps trace vars cells
after f (back v cells) steps trace = on (back v cells) steps trace

-- "a for passes from up to, not including, to"; "A pass is run at its for's word." The passes left of a for over x, the
-- next with the variable at i
unfoldable pub passes : {T : Type 0} → ℕ → ℕ → ℕ → Body T → ℕ → ℕ → Body T
passes budget place x body zero i steps trace vars cells = on (next vars cells) steps trace
passes budget place x body (suc left) i steps trace vars cells = tick budget place steps trace
    (λ steps₁ t₁. and_go (body steps₁ t₁ (set vars x i) cells)
    (after (λ z t vs cs. passes budget place x body left (i + 1) z t vs cs)))

-- the arm that is taken
unfoldable pub taken : {T : Type 0} → ℕ → Body T → Body T → Body T
taken v a b steps trace vars cells = pick (eqb v 0) b a steps trace vars cells

-- a call's result goes to its variable
unfoldable pub received : {T : Type 0} → ℕ → List ℕ → Given → ℕ → T → Ran T Outcome
received x vars (gave v cells) steps trace = on (next (set vars x v) cells) steps trace

-- over the budget, the array words and the procedures that can be called
module _ {T : Type 0} (tracing : Trace T) (budget : ℕ) (arrays : List ℕ) (callee : Callee T) where
  -- A statement at its place, its step taken, and a block. "a store tests its index before its value"; entries "1
  -- branch (0 or 1), 2 and 3 loop from and to, 4 index, .. 7 procedure called, 8 return (value 0)"; "from and to ..
  -- follow both operands in that order".
  unfoldable mutual
    pub run_statement : ℕ → Statement → Body T
    run_statement place (assign x e) steps trace vars cells =
        within steps (evaluate tracing arrays e vars cells trace) (λ v t₁. on (next (set vars x v) cells) steps t₁)
    run_statement place (store a i e) steps trace vars cells = within steps (evaluate tracing arrays i vars cells trace)
        (λ v t₁. within steps (index_at tracing arrays a place v t₁)
        (λ j t₂. within steps (evaluate tracing arrays e vars cells t₂)
        (λ w t₃. on (next vars (set cells (base_of arrays a + j) w)) steps t₃)))
    run_statement place (conditional c a b) steps trace vars cells =
        within steps (evaluate tracing arrays c vars cells trace)
        (λ v t₁. within steps (emit tracing 1 place (truth v) t₁)
        (λ d t₂. taken d (λ z t vs cs. run_block a z t vs cs) (λ z t vs cs. run_block b z t vs cs) steps t₂ vars cells))
    run_statement place (loop x f g b) steps trace vars cells = within steps (evaluate tracing arrays f vars cells trace)
        (λ from t₁. within steps (evaluate tracing arrays g vars cells t₁)
        (λ to t₂. within steps (emit tracing 2 place from t₂) (λ _ t₃. within steps (emit tracing 3 place to t₃)
        (λ _ t₄. passes budget place x (λ z t vs cs. run_block b z t vs cs) (to - from) from steps t₄ vars cells))))
    run_statement place (return e) steps trace vars cells = within steps (evaluate tracing arrays e vars cells trace)
        (λ v t₁. within steps (emit tracing 8 place 0 t₁) (λ _ t₂. on (back v cells) steps t₂))
    run_statement place (call f x es) steps trace vars cells =
        within steps (evaluate_all tracing arrays es vars cells trace) (λ ws t₁. within steps (emit tracing 7 place f t₁)
        (λ _ t₂. and_go (callee f ws steps t₂ cells) (received x vars)))

    pub run_block : Block → Body T
    run_block done steps trace vars cells = on (next vars cells) steps trace
    run_block (sequence place s b) steps trace vars cells = tick budget place steps trace
        (λ steps₁ t₁. and_go (run_statement place s steps₁ t₁ vars cells) (after (λ z t vs cs. run_block b z t vs cs)))

-- "Parameters are numbered from 0, then locals, which start as 0 or false": at most 255 variables
unfoldable pub frame : List ℕ → List ℕ
frame arguments = arguments ++ replicate (255 - length arguments) 0

-- "A body that falls off its end answers 0."
unfoldable pub finish : {T : Type 0} → Outcome → ℕ → T → Ran T Given
finish (next vars cells) steps trace = on (gave 0 cells) steps trace
finish (back v cells) steps trace = on (gave v cells) steps trace

module _ {T : Type 0} (tracing : Trace T) (budget : ℕ) (arrays : List ℕ) (ps : List Procedure) where
  -- A run of procedure f, one of the first n: "only a lower-numbered procedure" is called.
  unfoldable pub run_procedure : ℕ → Callee T
  run_procedure zero f arguments steps trace cells = on (gave 0 cells) steps trace
  run_procedure (suc n) f arguments steps trace cells =
      pick {A = ℕ → T → Ran T Given}
      (eqb f n) (λ z t. and_go
      (run_block tracing budget arrays (λ g ws y u cs. run_procedure n g ws y u cs) (procedure_at ps n).body
      z t (frame arguments) cells) finish) (λ z t. run_procedure n f arguments z t cells) steps trace
