-- Document 02, wish 4: what "the example's traces do not move, and answers only where the added entries fill the trace" speaks of. Running and calling
-- as in definitions/specs/Running.antt and Requests.antt, with what an operator does left open, so that the run before the wish can stand beside today's.
use Rattle.std.specs.Prelude.{ℕ, zero, suc, ◌+◌, ◌*◌, ◌-◌, ◌≤◌, ◌<◌, Bool, true, not, ◌&&◌, List, [], ◌∷◌, ◌++◌, ◌≡◌, ltb, eqb, length, get_or, set}
use Rattle.definitions.specs.Choice.{pick}
use Rattle.definitions.specs.Arithmetic.{truth}
use Rattle.definitions.specs.Bytes.{words_of, lent}
use Rattle.definitions.specs.declared.Answer.{Answer}
use Rattle.definitions.specs.declared.Answer.TheVariants.{Done, Stopped, Refused}
use Rattle.definitions.specs.Operators.{divides, shifts, apply_binary, apply_unary}
use Rattle.definitions.specs.Image.{kind_of, payload_of, base_of, Expression, constant, boolean, variable, cell, unary, binary, select}
use Rattle.definitions.specs.Image.{Statement, assign, store, conditional, loop, return, call, Block, done, sequence}
use Rattle.definitions.specs.Image.{Procedure, Image, procedure_at}
use Rattle.definitions.specs.Running.{Trace, trace_words, Evaluated, value, Ran, on, bind, within, and_go, emit, index_at}
use Rattle.definitions.specs.Running.{divided, next, back, Given, gave, Callee, Body, tick, after, passes, taken, received}
use Rattle.definitions.specs.Running.{frame, finish}
use Rattle.definitions.specs.Requests.{ready_to_serve, Called, argument_values, ended, served_call}
use Rattle.definitions.specs.Host.{whole_words}
use Rattle.statements.specs.Statements.{steps_of, recorded_count, recorded_in}

-- what an operator does on its operands' values: its place, the operator, the left and the right value, the trace
abbrev pub Operation : Type 0 → Type 0
Operation T = ℕ → ℕ → ℕ → ℕ → T → Evaluated T ℕ

-- before the wish: "Shift counts leave none."
unfoldable pub former_operated : {T : Type 0} → Trace T → Operation T
former_operated tracing place op v w trace = pick (divides op) (divided tracing place op v w) (value (apply_binary op v w)) trace

-- ---- `evaluate` to `run_procedure`, with what an operator does as it is given

module _ {T : Type 0} (operate : Operation T) (tracing : Trace T) (arrays : List ℕ) where
  unfoldable pub evaluate_by : Expression → List ℕ → List ℕ → T → Evaluated T ℕ
  evaluate_by (constant p v) vars cells trace = value v trace
  evaluate_by (boolean p v) vars cells trace = value v trace
  evaluate_by (variable p x) vars cells trace = value (get_or vars x 0) trace
  evaluate_by (cell p a i) vars cells trace = bind (evaluate_by i vars cells trace)
      (λ v t₁. bind (index_at tracing arrays a p v t₁) (λ j t₂. value (get_or cells (base_of arrays a + j) 0) t₂))
  evaluate_by (unary p o e) vars cells trace = bind (evaluate_by e vars cells trace) (λ v t₁. value (apply_unary o v) t₁)
  evaluate_by (binary p o e f) vars cells trace = bind (evaluate_by e vars cells trace)
      (λ v t₁. bind (evaluate_by f vars cells t₁) (λ w t₂. operate p o v w t₂))
  evaluate_by (select p c e f) vars cells trace = bind (evaluate_by c vars cells trace)
      (λ b t₁. bind (evaluate_by e vars cells t₁)
      (λ v t₂. bind (evaluate_by f vars cells t₂) (λ w t₃. value (pick (eqb b 0) w v) t₃)))

  unfoldable pub evaluate_all_by : List Expression → List ℕ → List ℕ → T → Evaluated T (List ℕ)
  evaluate_all_by [] vars cells trace = value [] trace
  evaluate_all_by (e ∷ es) vars cells trace = bind (evaluate_by e vars cells trace)
      (λ v t₁. bind (evaluate_all_by es vars cells t₁) (λ ws t₂. value (v ∷ ws) t₂))

module _ {T : Type 0} (operate : Operation T) (tracing : Trace T) (budget : ℕ) (arrays : List ℕ) (callee : Callee T) where
  unfoldable mutual
    pub run_statement_by : ℕ → Statement → Body T
    run_statement_by place (assign x e) steps trace vars cells =
        within steps (evaluate_by operate tracing arrays e vars cells trace) (λ v t₁. on (next (set vars x v) cells) steps t₁)
    run_statement_by place (store a i e) steps trace vars cells = within steps (evaluate_by operate tracing arrays i vars cells trace)
        (λ v t₁. within steps (index_at tracing arrays a place v t₁)
        (λ j t₂. within steps (evaluate_by operate tracing arrays e vars cells t₂)
        (λ w t₃. on (next vars (set cells (base_of arrays a + j) w)) steps t₃)))
    run_statement_by place (conditional c a b) steps trace vars cells =
        within steps (evaluate_by operate tracing arrays c vars cells trace)
        (λ v t₁. within steps (emit tracing 1 place (truth v) t₁)
        (λ d t₂. taken d (λ z t vs cs. run_block_by a z t vs cs) (λ z t vs cs. run_block_by b z t vs cs) steps t₂ vars cells))
    run_statement_by place (loop x f g b) steps trace vars cells = within steps (evaluate_by operate tracing arrays f vars cells trace)
        (λ from t₁. within steps (evaluate_by operate tracing arrays g vars cells t₁)
        (λ to t₂. within steps (emit tracing 2 place from t₂) (λ _ t₃. within steps (emit tracing 3 place to t₃)
        (λ _ t₄. passes budget place x (λ z t vs cs. run_block_by b z t vs cs) (to - from) from steps t₄ vars cells))))
    run_statement_by place (return e) steps trace vars cells = within steps (evaluate_by operate tracing arrays e vars cells trace)
        (λ v t₁. within steps (emit tracing 8 place 0 t₁) (λ _ t₂. on (back v cells) steps t₂))
    run_statement_by place (call f x es) steps trace vars cells =
        within steps (evaluate_all_by operate tracing arrays es vars cells trace) (λ ws t₁. within steps (emit tracing 7 place f t₁)
        (λ _ t₂. and_go (callee f ws steps t₂ cells) (received x vars)))

    pub run_block_by : Block → Body T
    run_block_by done steps trace vars cells = on (next vars cells) steps trace
    run_block_by (sequence place s b) steps trace vars cells = tick budget place steps trace
        (λ steps₁ t₁. and_go (run_statement_by place s steps₁ t₁ vars cells) (after (λ z t vs cs. run_block_by b z t vs cs)))

module _ {T : Type 0} (operate : Operation T) (tracing : Trace T) (budget : ℕ) (arrays : List ℕ) (ps : List Procedure) where
  unfoldable pub run_procedure_by : ℕ → Callee T
  run_procedure_by zero f arguments steps trace cells = on (gave 0 cells) steps trace
  run_procedure_by (suc n) f arguments steps trace cells =
      pick {A = ℕ → T → Ran T Given}
      (eqb f n) (λ z t. and_go
      (run_block_by operate tracing budget arrays (λ g ws y u cs. run_procedure_by n g ws y u cs) (procedure_at ps n).body
      z t (frame arguments) cells) finish) (λ z t. run_procedure_by n f arguments z t cells) steps trace

-- ---- `called_on` to `call_bytes`, likewise

-- what an operator does, by how the trace is kept
module _ (operate : Trace (List ℕ) → Operation (List ℕ)) where
  unfoldable pub called_on_by : Image → List ℕ → ℕ → List ℕ → ℕ → ℕ → Called
  called_on_by image cells f arguments budget room = pick (ltb f (length image.procedures))
      (pick (eqb (length arguments) (procedure_at image.procedures f).parameters)
      (ended (procedure_at image.procedures f) cells
      (run_procedure_by (operate (trace_words room)) (trace_words room) budget image.arrays image.procedures (length image.procedures) f
      (argument_values (procedure_at image.procedures f).types arguments) 0 [] cells)) (Refused 18 0, cells, []))
      (Refused 17 0, cells, [])

  unfoldable pub call_bytes_by : List ℕ → List ℕ → ℕ → List ℕ → ℕ → List ℕ → Answer × List ℕ × List ℕ
  call_bytes_by image cells f arguments budget trace =
      let r : Called =
      served_call (ready_to_serve (whole_words image) (words_of image) (length (words_of cells))) (words_of cells)
      (λ m. called_on_by m (words_of cells) f (words_of arguments) budget (length (words_of trace))) in
      (r.0, lent cells r.1, lent trace r.2)

-- a call as it was before the wish
abbrev pub former_call_bytes : List ℕ → List ℕ → ℕ → List ℕ → ℕ → List ℕ → Answer × List ℕ × List ℕ
former_call_bytes = call_bytes_by former_operated

-- ---- What the wish adds

-- a trace without its entries of kind 9
unfoldable pub without_counts : List ℕ → List ℕ
without_counts [] = []
without_counts (w ∷ []) = w ∷ []
without_counts (w ∷ v ∷ t) = pick (eqb (kind_of w) 9) (without_counts t) (w ∷ v ∷ without_counts t)

-- "D binary": whether no word names one of the "Operators 6, 7 and 8". A raw constant that looks like such a word counts as one.
unfoldable pub no_shift : List ℕ → Bool
no_shift [] = true
no_shift (w ∷ ws) = not (eqb (kind_of w) 13 && shifts (payload_of w)) && no_shift ws

-- two answers that are equal but for the number of trace words recorded
pub data SameButWords : Answer → Answer → Type 0 where
  both_done_lem : {v z n m : ℕ} → SameButWords (Done v z n) (Done v z m)
  both_stopped_lem : {k p z n m : ℕ} → SameButWords (Stopped k p z n) (Stopped k p z m)
  both_refused_lem : {k p : ℕ} → SameButWords (Refused k p) (Refused k p)

-- How a call ends, and how it ended before the wish, over the same budget and with room for as many trace words.
pub data Ends (words : List ℕ) (room : ℕ) (now former : Called) : Type 0 where
  -- Result, stop, steps and cells are equal, and the former trace is today's without its entries of kind 9.
  ends_alike : SameButWords now.0 former.0 → now.1 ≡ former.1 → recorded_in former ≡ without_counts (recorded_in now) → Ends words room now former
  -- Or today's call is stopped with 22, and "the added entries fill the trace": without its entries of kind 9 it has room for the one that it has no
  -- room for, at the place of the stop. The former run took no fewer steps; it recorded what today's did, but for entries of kind 9, and that one.
  counts_fill : (p z n : ℕ) → now.0 ≡ Stopped 22 p z n → room < n + 2 → length (without_counts (recorded_in now)) + 2 ≤ room → z ≤ steps_of former.0
      → (kind v : ℕ) (later : List ℕ) → recorded_in former ≡ without_counts (recorded_in now) ++ ((kind * 268435456 + p) ∷ v ∷ later)
      → Ends words room now former
  -- Or it is an entry of kind 9 itself that there is no room for, at the word of a shift; the former run went on without one.
  no_room_for_count : (p z n : ℕ) → now.0 ≡ Stopped 22 p z n → room < n + 2 → kind_of (get_or words p 0) ≡ 13 → shifts (payload_of (get_or words p 0)) ≡ true
      → z ≤ steps_of former.0 → (later : List ℕ) → recorded_in former ≡ without_counts (recorded_in now) ++ later → Ends words room now former

-- the same, and both answers tell how many words are recorded
pub record OnlyEntriesAdded (words : List ℕ) (room : ℕ) (now former : Called) : Type 0 where
  pub words_now : recorded_count now.0 ≡ length (recorded_in now)
  pub words_former : recorded_count former.0 ≡ length (recorded_in former)
  pub ends : Ends words room now former
