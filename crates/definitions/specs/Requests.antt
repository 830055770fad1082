-- Document 01, "The machine" and "From the image or request": the requests load, poke, peek, clear and call, with the
-- refusals 17, 18 and 20; document 02: preview (wish 7), bound (wish 11). "With every request it lends the image and the
-- cells, arrays in order." Each request gives its answer and what the lent cells, and a call's or preview's lent trace,
-- hold afterwards.
use Rattle.std.specs.Prelude.{ℕ, suc, ◌+◌, Bool, ◌&&◌, List, [], ◌∷◌, ◌++◌, ltb, leb, eqb, length, get_or, set, drop, replicate}
use Rattle.definitions.specs.Choice.{pick}
use Rattle.definitions.specs.Arithmetic.{truth}
use Rattle.definitions.specs.Operators.{boolean_sort}
use Rattle.definitions.specs.declared.Answer.{Answer}
use Rattle.definitions.specs.declared.Answer.TheVariants.{Done, Stopped, Refused}
use Rattle.definitions.specs.Image.{array_length, type_sort, Procedure, Image, procedure_at, cell_count, base_of}
use Rattle.definitions.specs.Reading.{Parse, got, refused}
use Rattle.definitions.specs.Checking.{admitted}
use Rattle.definitions.specs.Running.{trace_words, Ran, on, halt, Given, gave, run_procedure}
use Rattle.definitions.specs.StepBounds.{procedure_cost, variable_fors}

-- An image that a request can work on, or the refusal.
pub data Ready : Type 0 where
  ready : Image → Ready
  unready : ℕ → ℕ → Ready

-- "then a cell slice too short is 17": `count` cells are lent
unfoldable pub with_cells : Parse Image → ℕ → Ready
with_cells (refused n p) count = unready n p
with_cells (got image n) count = pick (leb (cell_count image.arrays) count) (ready image) (unready 17 0)

-- "The image is checked anew and a bad one answers as load does"
unfoldable pub ready_to_load : Bool → List ℕ → ℕ → Ready
ready_to_load whole image count = with_cells (admitted whole image) count

-- "outside load an empty one is 20": no word, and no byte left over
unfoldable pub ready_to_serve : Bool → List ℕ → ℕ → Ready
ready_to_serve whole image count = pick (whole && eqb (length image) 0) (unready 20 0) (ready_to_load whole image count)

-- what a request on words gives: its answer, and the cells afterwards
abbrev pub Served : Type 0
Served = Answer × List ℕ

-- the request on an image that is ready; else the refusal, with the cells unchanged
unfoldable pub served : Ready → List ℕ → (Image → Served) → Served
served (ready image) cells f = f image
served (unready n p) cells f = (Refused n p, cells)

-- the answer of a request that is carried out: a result, no step and no trace word
abbrev pub carried_out : ℕ → Answer
carried_out v = Done v 0 0

-- the image's own cells are 0; spare ones stay
abbrev pub zeroed : Image → List ℕ → List ℕ
zeroed image cells = replicate (cell_count image.arrays) 0 ++ drop (cell_count image.arrays) cells

-- "Load sets cells to 0"
unfoldable pub load : Bool → List ℕ → List ℕ → Served
load whole image cells = served (ready_to_load whole image (length cells)) cells (λ i. (carried_out 0, zeroed i cells))

-- "Clear zeroes cells."
unfoldable pub clear : Bool → List ℕ → List ℕ → Served
clear whole image cells = served (ready_to_serve whole image (length cells)) cells (λ i. (carried_out 0, zeroed i cells))

-- "17 no such procedure, array or cell"
abbrev pub has_cell : Image → ℕ → ℕ → Bool
has_cell image a i = ltb a (length image.arrays) && ltb i (array_length (get_or image.arrays a 0))

unfoldable pub poke : Bool → List ℕ → List ℕ → ℕ → ℕ → ℕ → Served
poke whole image cells a i v = served (ready_to_serve whole image (length cells)) cells
    (λ m. pick (has_cell m a i) (carried_out 0, set cells (base_of m.arrays a + i) v) (Refused 17 0, cells))

unfoldable pub peek : Bool → List ℕ → List ℕ → ℕ → ℕ → Served
peek whole image cells a i = served (ready_to_serve whole image (length cells)) cells
    (λ m. pick (has_cell m a i) (carried_out (get_or cells (base_of m.arrays a + i) 0), cells) (Refused 17 0, cells))

-- what a call gives: its answer, the cells afterwards, and the trace words recorded
abbrev pub Called : Type 0
Called = Answer × List ℕ × List ℕ

-- "Arguments for booleans: 0 false, else true." "A boolean result is answered as 0 or 1." A word stays as it is.
abbrev pub answered : ℕ → ℕ → ℕ
answered type v = pick (eqb (type_sort type) boolean_sort) (truth v) v

-- the arguments, by the parameters' type words
unfoldable pub argument_values : List ℕ → List ℕ → List ℕ
argument_values types [] = []
argument_values [] (v ∷ vs) = v ∷ vs
argument_values (w ∷ ws) (v ∷ vs) = answered w v ∷ argument_values ws vs

-- "A stop answers 0 with the steps and entries so far; cells are as before the call": the stop's number and place stand
-- beside a result of 0 (Host, `layout`).
unfoldable pub ended : Procedure → List ℕ → Ran (List ℕ) Given → Called
ended p cells (on (gave v after) z t) = (Done (answered p.result v) z (length t), after, t)
ended p cells (halt n l z t) = (Stopped n l z (length t), cells, t)

-- "17 no such procedure"; "18 argument count". `room` trace words are lent.
unfoldable pub called_on : Image → List ℕ → ℕ → List ℕ → ℕ → ℕ → Called
called_on image cells f arguments budget room = pick (ltb f (length image.procedures))
    (pick (eqb (length arguments) (procedure_at image.procedures f).parameters)
    (ended (procedure_at image.procedures f) cells
    (run_procedure (trace_words room) budget image.arrays image.procedures (length image.procedures) f
    (argument_values (procedure_at image.procedures f).types arguments) 0 [] cells)) (Refused 18 0, cells, []))
    (Refused 17 0, cells, [])

unfoldable pub served_call : Ready → List ℕ → (Image → Called) → Called
served_call (ready image) cells f = f image
served_call (unready n p) cells f = (Refused n p, cells, [])

unfoldable pub call : Bool → List ℕ → List ℕ → ℕ → List ℕ → ℕ → ℕ → Called
call whole image cells f arguments budget room =
    served_call (ready_to_serve whole image (length cells)) cells (λ m. called_on m cells f arguments budget room)

-- Document 02, wish 7: "A preview takes a call's arguments, budget and trace buffer, gives the same answer, stop, steps
-- and entries, and leaves every cell. It equals making the call on a copy of the machine."
unfoldable pub preview : Bool → List ℕ → List ℕ → ℕ → List ℕ → ℕ → ℕ → Called
preview whole image cells f arguments budget room =
    let r : Called = call whole image cells f arguments budget room in (r.0, cells, r.2)

-- Document 02, wish 11: "32 [the first for whose bounds are not constants ..]; 33, a bound above 4,294,967,295, after
-- 32"; by the places of those fors and the cost
unfoldable pub bounded : List ℕ → ℕ → Answer
bounded [] cost = pick (leb cost 4294967295) (carried_out cost) (Refused 33 0)
bounded (p ∷ places) cost = Refused 32 p

-- "For a procedure of the loaded image, whichever its form, answer a bound from the image alone"; "both after 17"
unfoldable pub bound_on : Image → ℕ → Answer
bound_on image f = pick (ltb f (length image.procedures))
    (bounded (variable_fors image.procedures f) (procedure_cost image.procedures (suc f) f)) (Refused 17 0)

unfoldable pub bound : Bool → List ℕ → List ℕ → ℕ → Served
bound whole image cells f = served (ready_to_serve whole image (length cells)) cells (λ m. (bound_on m f, cells))
