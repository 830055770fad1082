-- Requests: the places that load, clear, poke, peek, bound and call answer, by whether the image is ready; of a call also its steps, its trace words and
-- its stops. Assumes nothing.
use Rattle.std.specs.Prelude.{◌≡◌, refl, Bool, ◌&&◌, List, [], ◌∷◌, ◌++◌, ltb, leb, length, get_or}
use Rattle.std.proofs.Common.{◌∙◌, ltb-true, ltb-false, length-set, length-append}
use Rattle.std.proofs.Math.Bool.{true, false}
use Prim.Native.Nat.{ℕ, zero, suc, ◌+◌, ◌*◌, ◌%◌, ◌≤◌, ◌<◌}
use native.Mathlib.Omega.{arith}
use Rattle.std.proofs.Math.Dec.{eqb}
use Rattle.std.proofs.Math.ListN.{set}
use Rattle.definitions.specs.Choice.{pick}
use Rattle.definitions.specs.declared.Answer.{Answer}
use Rattle.definitions.specs.declared.Answer.TheVariants.{Refused}
use Rattle.definitions.specs.Image.{Statement, assign, store, conditional, loop, return, call as callStatement, Block, done, sequence}
use Rattle.definitions.specs.Image.{cell_count, base_of, Procedure, Image, procedure_at}
use Rattle.definitions.specs.Reading.{Parse}
use Rattle.definitions.specs.Checking.{admitted}
use Rattle.definitions.specs.Running.{trace_words, Ran, Given, gave}
use Rattle.definitions.specs.Requests.{Ready, ready, unready, with_cells, ready_to_load, ready_to_serve, Served, served}
use Rattle.definitions.specs.Requests.{carried_out, zeroed, load, clear, has_cell, poke, peek, Called, argument_values}
use Rattle.definitions.specs.Requests.{ended, called_on, served_call, call, bounded, bound_on, bound}
use Rattle.definitions.specs.StepBounds.{constant_bounds, statement_variable_fors, block_variable_fors, procedure_cost, reaches, callees_variable_fors, variable_fors_in, variable_fors}
use Rattle.laws.specs.Trees.{StatementPlaces, in_assign, in_store, in_conditional, in_loop, in_return, in_call}
use Rattle.laws.specs.Trees.{BlockPlaces, in_done, in_sequence, ProceduresPlaces, body_places_lem}
use Rattle.results.specs.WordsNamed.{AnyName, procedures_any}
use Rattle.results.specs.Runs.{Claim, Runs, goes, halts, Gives, procedure_runs}
use Rattle.results.specs.Answers.{Stop, budget_spent_lem, trace_full_lem, beyond_array, divisor_0, Recorded, Calls, ends, stops}
use Rattle.results.specs.Answers.{call_refuses}
use Rattle.results.specs.Images.{Admits, admits, admits_not}
use Rattle.results.specs.Named.{answer_place}

-- an image of n words that a request can work on, or the place of its refusal
data Readies (n : ℕ) : Ready → Type 0 where
  readies : (tree : Image) → ProceduresPlaces (λ p. p < n) tree.procedures → Readies n (ready tree)
  readies_not : (k p : ℕ) → p ≤ n → Readies n (unready k p)

readies_tree : {n : ℕ} {x : Parse Image} (count : ℕ) → Admits n x → Readies n (with_cells x count)
unfolding with_cells
readies_tree count (admits_not k p h) = readies_not k p h
readies_tree {n} count (admits tree m h) = go (leb (cell_count tree.arrays) count)
  where
    go : (b : Bool) → Readies n (pick b (ready tree) (unready 17 0))
    go true = readies tree h
    go false = readies_not 17 0 (omega arith)

-- n is the number of the image's words, or of the first of them that tell its answer
module _ {n : ℕ} (whole : Bool) (image : List ℕ) (a : Admits n (admitted whole image)) (count : ℕ) where
  readies_load : Readies n (ready_to_load whole image count)
  unfolding ready_to_load
  readies_load = readies_tree count a

  readies_serve : Readies n (ready_to_serve whole image count)
  unfolding ready_to_serve
  readies_serve = go (whole && eqb (length image) 0)
    where
      go : (b : Bool) → Readies n (pick b (unready 20 0) (ready_to_load whole image count))
      go true = readies_not 20 0 (omega arith)
      go false = readies_load

-- ---- Load, clear, poke, peek

served_within : {n : ℕ} {x : Ready} (cells : List ℕ) (f : Image → Served) → Readies n x
    → ((tree : Image) → ProceduresPlaces (λ p. p < n) tree.procedures → answer_place (f tree).0 ≤ n)
    → answer_place (served x cells f).0 ≤ n
unfolding served
served_within cells f (readies tree h) k = k tree h
served_within cells f (readies_not i p h) k = h

cell_within : (n v : ℕ) (after cells : List ℕ) (b : Bool) → answer_place (pick {A = Served} b (carried_out v, after) (Refused 17 0, cells)).0 ≤ n
cell_within n v after cells true = omega arith
cell_within n v after cells false = omega arith

-- the fors that a bound names stand in the image
data Each (R : ℕ → Type 0) : List ℕ → Type 0 where
  none : Each R []
  and : {p : ℕ} {ps : List ℕ} → R p → Each R ps → Each R (p ∷ ps)

module _ {R : ℕ → Type 0} where
  each_append : {l m : List ℕ} → Each R l → Each R m → Each R (l ++ m)
  each_append none k = k
  each_append (and r h) k = and r (each_append h k)

  mutual
    unfolding statement_variable_fors block_variable_fors

    statement_fors : (p : ℕ) (s : Statement) → R p → StatementPlaces R s → Each R (statement_variable_fors p s)
    statement_fors p (assign x v) r (in_assign e) = none
    statement_fors p (store y j v) r (in_store i e) = none
    statement_fors p (conditional d v w) r (in_conditional c a b) = each_append (block_fors v a) (block_fors w b)
    statement_fors p (loop x f t v) r (in_loop d e b) = each_append (own (constant_bounds f t)) (block_fors v b)
      where
        own : (k : Bool) → Each R (pick k [] (p ∷ []))
        own true = none
        own false = and r none
    statement_fors p (return v) r (in_return e) = none
    statement_fors p (callStatement f x vs) r (in_call es) = none

    block_fors : (b : Block) → BlockPlaces R b → Each R (block_variable_fors b)
    block_fors done in_done = none
    block_fors (sequence p x y) (in_sequence r s b) = each_append (statement_fors p x r s) (block_fors y b)

  module _ {ps : List Procedure} (h : ProceduresPlaces R ps) where
    callees_fors : (f m : ℕ) → Each R (callees_variable_fors ps f m)
    unfolding callees_variable_fors
    callees_fors f zero = none
    callees_fors f (suc m) = each_append (callees_fors f m) (own (reaches ps (suc f) f m))
      where
        own : (k : Bool) → Each R (pick k (variable_fors_in ps m) [])
        own true = block_fors (procedure_at ps m).body (body_places_lem h m)
        own false = none

    all_fors : (f : ℕ) → Each R (variable_fors ps f)
    all_fors f = each_append (block_fors (procedure_at ps f).body (body_places_lem h f)) (callees_fors f f)

bounded_within : {n : ℕ} {l : List ℕ} → Each (λ p. p < n) l → (cost : ℕ) → answer_place (bounded l cost) ≤ n
unfolding bounded
bounded_within {n} none cost = go (leb cost 4294967295)
  where
    go : (b : Bool) → answer_place (pick b (carried_out cost) (Refused 33 0)) ≤ n
    go true = omega arith
    go false = omega arith
bounded_within (and r h) cost = omega arith

module _ {n : ℕ} (whole : Bool) (image : List ℕ) (a : Admits n (admitted whole image)) (cells : List ℕ) where
  pub bound_within : (f : ℕ) → answer_place (bound whole image cells f).0 ≤ n
  unfolding bound bound_on
  bound_within f =
      served_within cells (λ m. (bound_on m f, cells)) (readies_serve whole image a (length cells))
      (λ tree h. go (ltb f (length tree.procedures)) (bounded (variable_fors tree.procedures f) (procedure_cost tree.procedures (suc f) f))
      (bounded_within (all_fors h f) (procedure_cost tree.procedures (suc f) f)))
    where
      go : (b : Bool) (x : Answer) → answer_place x ≤ n → answer_place (pick b x (Refused 17 0)) ≤ n
      go true x h = h
      go false x h = omega arith

  pub load_within : answer_place (load whole image cells).0 ≤ n
  unfolding load
  load_within = served_within cells (λ i. (carried_out 0, zeroed i cells)) (readies_load whole image a (length cells)) (λ tree h. omega arith)

  pub clear_within : answer_place (clear whole image cells).0 ≤ n
  unfolding clear
  clear_within = served_within cells (λ i. (carried_out 0, zeroed i cells)) (readies_serve whole image a (length cells)) (λ tree h. omega arith)

  pub poke_within : (b i v : ℕ) → answer_place (poke whole image cells b i v).0 ≤ n
  unfolding poke
  poke_within b i v =
      served_within cells (λ m. pick (has_cell m b i) (carried_out 0, set cells (base_of m.arrays b + i) v) (Refused 17 0, cells))
      (readies_serve whole image a (length cells)) (λ tree h. cell_within n 0 (set cells (base_of tree.arrays b + i) v) cells (has_cell tree b i))

  pub peek_within : (b i : ℕ) → answer_place (peek whole image cells b i).0 ≤ n
  unfolding peek
  peek_within b i =
      served_within cells (λ m. pick (has_cell m b i) (carried_out (get_or cells (base_of m.arrays b + i) 0), cells) (Refused 17 0, cells))
      (readies_serve whole image a (length cells))
      (λ tree h. cell_within n (get_or cells (base_of tree.arrays b + i) 0) cells cells (has_cell tree b i))

-- ---- Call

-- whole entries, one more
longer : (room w v : ℕ) (t : List ℕ) → Recorded room t → ltb room (length t + 2) ≡ false → Recorded room (t ++ (w ∷ v ∷ []))
longer room w v t r e =
    let even : length t % 2 ≡ 0 = r.even in
    let d = length-append t (w ∷ v ∷ []) in
    let q = ltb-false room (length t + 2) e in
    record { fits = omega (arith, d); even = omega (arith, d) }

-- what is claimed of a run over the words that a host lends: steps within the budget, whole entries within the trace, cells
-- as many as they were, and one of the four stops at a place below n
abbrev claimed : (n budget room size : ℕ) (arrays : List ℕ) → Claim (trace_words room) budget arrays (λ p. p < n) AnyName
claimed n budget room size arrays =
    record {
      Going = λ z t. (z ≤ budget) × Recorded room t;
      Stops = λ k l z t. Stop budget room k z (length t) × (l < n) × (z ≤ budget) × Recorded room t;
      Cells = λ cs. length cs ≡ size;
      stored = λ cs i v c. length-set cs i v ∙ c;
      stepped = λ z t e g. (let q = ltb-true z budget e in omega arith, g.1);
      spent = λ l z t r e g. (budget_spent_lem z (length t) (let q = ltb-false z budget e in let h = g.0 in omega arith), r, g.0, g.1);
      recorded = λ kind l v z t r e g. (g.0, longer room (kind * 268435456 + l) v t g.1 e);
      filled = λ l z t r e g. (trace_full_lem z (length t) (ltb-true room (length t + 2) e), r, g.0, g.1);
      beyond = λ a l i z t r m e g. (beyond_array z _, r, g.0, g.1);
      divisor = λ l z t r g. (divisor_0 z _, r, g.0, g.1);
    }

run_calls : {n budget room : ℕ} {arrays : List ℕ} (p : Procedure) (cells : List ℕ) {x : Ran (List ℕ) Given}
    → Runs (claimed n budget room (length cells) arrays) (Gives (claimed n budget room (length cells) arrays)) x
    → Calls n cells budget room (ended p cells x)
unfolding ended
run_calls p cells (goes {a = gave v after} g c) = ends _ _ after _ g.0 g.1 c
run_calls p cells (halts s) = stops _ _ _ _ s.0 s.1 s.2 s.3

tree_calls : (n : ℕ) (tree : Image) → ProceduresPlaces (λ p. p < n) tree.procedures → (cells : List ℕ) (f : ℕ) (arguments : List ℕ) (budget room : ℕ)
    → Calls n cells budget room (called_on tree cells f arguments budget room)
unfolding called_on
tree_calls n tree h cells f arguments budget room =
    go (ltb f (length tree.procedures)) (eqb (length arguments) (procedure_at tree.procedures f).parameters)
    (run_calls {arrays = tree.arrays} (procedure_at tree.procedures f) cells
    (procedure_runs (claimed n budget room (length cells) tree.arrays) h (procedures_any tree.procedures) (length tree.procedures) f
    (argument_values (procedure_at tree.procedures f).types arguments) 0 [] cells
    (omega arith, record { fits = omega arith; even = refl }) refl))
  where
    go : (b d : Bool) {x : Called} → Calls n cells budget room x
        → Calls n cells budget room (pick b (pick d x (Refused 18 0, cells, [])) (Refused 17 0, cells, []))
    go true true h = h
    go true false h = call_refuses 18 0 (omega arith)
    go false d h = call_refuses 17 0 (omega arith)

calls_ready : {n budget room : ℕ} {x : Ready} {cells : List ℕ} {f : Image → Called} → Readies n x
    → ((tree : Image) → ProceduresPlaces (λ p. p < n) tree.procedures → Calls n cells budget room (f tree)) → Calls n cells budget room (served_call x cells f)
unfolding served_call
calls_ready (readies tree h) k = k tree h
calls_ready (readies_not i p h) k = call_refuses i p h

pub calls_image : {n : ℕ} (whole : Bool) (image : List ℕ) → Admits n (admitted whole image) → (cells : List ℕ) (f : ℕ) (arguments : List ℕ) (budget room : ℕ)
    → Calls n cells budget room (call whole image cells f arguments budget room)
unfolding call
calls_image {n} whole image a cells f arguments budget room =
    calls_ready (readies_serve whole image a (length cells)) (λ tree h. tree_calls n tree h cells f arguments budget room)

pub calls_within : {n budget room : ℕ} {cells : List ℕ} {x : Called} → Calls n cells budget room x → answer_place x.0 ≤ n
calls_within (ends v z after trace h r c) = omega arith
calls_within (stops k p z trace s l h r) = omega arith
calls_within (call_refuses k p h) = h
