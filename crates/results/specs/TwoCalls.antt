-- What a call tells of its run; and two calls on words that differ only in how they run the procedure that is called: they are refused alike, or the
-- image is admitted and both run it. Assumes nothing.
use Rattle.std.specs.Prelude.{◌≡◌, refl, Bool, ◌&&◌, List, [], ℕ, ◌*◌, ltb, leb, length, drop}
use Rattle.std.proofs.Math.Bool.{true, false}
use Rattle.std.proofs.Math.Dec.{eqb}
use Rattle.std.proofs.Math.Seq.{take-append_seam}
use Rattle.definitions.specs.Choice.{pick}
use Rattle.definitions.specs.Bytes.{words_of, lent}
use Rattle.definitions.specs.declared.Answer.TheVariants.{Refused}
use Rattle.definitions.specs.Image.{cell_count, Procedure, Image, procedure_at}
use Rattle.definitions.specs.Reading.{Parse, got, refused}
use Rattle.definitions.specs.Checking.{admitted}
use Rattle.definitions.specs.Running.{Ran, on, halt, Given, gave}
use Rattle.definitions.specs.Requests.{ready, unready, with_cells, ready_to_load, ready_to_serve, Called, ended, served_call}
use Rattle.statements.specs.Statements.{steps_of, recorded_count, recorded}
use Rattle.laws.specs.WordsOfBytes.{words_first}
use Rattle.results.specs.SideBySide.{steps_taken, trace_left}

-- ---- what a call tells of its run

pub steps_ended : (p : Procedure) (cells : List ℕ) (x : Ran (List ℕ) Given) → steps_of (ended p cells x).0 ≡ steps_taken x
unfolding ended
steps_ended p cells (on (gave v after) z t) = refl
steps_ended p cells (halt k l z t) = refl

pub trace_ended : (p : Procedure) (cells : List ℕ) (x : Ran (List ℕ) Given) → (ended p cells x).2 ≡ trace_left x
unfolding ended
trace_ended p cells (on (gave v after) z t) = refl
trace_ended p cells (halt k l z t) = refl

pub words_ended : (p : Procedure) (cells : List ℕ) (x : Ran (List ℕ) Given) → recorded_count (ended p cells x).0 ≡ length (ended p cells x).2
unfolding ended
words_ended p cells (on (gave v after) z t) = refl
words_ended p cells (halt k l z t) = refl

-- the words recorded stand at the front of the lent trace
pub recorded_lent : (trace : List ℕ) (r : Called) → recorded_count r.0 ≡ length r.2 → recorded r.0 (lent trace r.2) ≡ r.2
unfolding lent
recorded_lent trace r h =
    let rest = drop (4 * length r.2) trace in
    rw (h, words_first r.2 rest) (take-append_seam r.2 (words_of rest))

-- ---- two calls

module _ (P : Called → Called → Type 0) (whole : Bool) (words cells : List ℕ) (f : ℕ) (arguments : List ℕ)
    (refusal : (k p : ℕ) → P (Refused k p, cells, []) (Refused k p, cells, [])) where
  -- a call of an image that is ready, by the run that is given
  abbrev pub called_to : (Image → Ran (List ℕ) Given) → Image → Called
  called_to run tree =
      pick (ltb f (length tree.procedures))
      (pick (eqb (length arguments) (procedure_at tree.procedures f).parameters)
      (ended (procedure_at tree.procedures f) cells (run tree)) (Refused 18 0, cells, []))
      (Refused 17 0, cells, [])

  pub both_called : (x y : Image → Ran (List ℕ) Given)
      → ((tree : Image) (n : ℕ) → admitted whole words ≡ got tree n
      → P (ended (procedure_at tree.procedures f) cells (x tree)) (ended (procedure_at tree.procedures f) cells (y tree)))
      → P (served_call (ready_to_serve whole words (length cells)) cells (called_to x)) (served_call (ready_to_serve whole words (length cells)) cells (called_to y))
  unfolding served_call ready_to_serve ready_to_load with_cells
  both_called x y run = empty (whole && eqb (length words) 0)
    where
      named : (c d : Bool) (x y : Called) → P x y
          → P (pick c (pick d x (Refused 18 0, cells, [])) (Refused 17 0, cells, [])) (pick c (pick d y (Refused 18 0, cells, [])) (Refused 17 0, cells, []))
      named true true x y h = h
      named true false x y h = refusal 18 0
      named false d x y h = refusal 17 0

      enough : (tree : Image) (n : ℕ) → admitted whole words ≡ got tree n → (c : Bool)
          → P (served_call (pick c (ready tree) (unready 17 0)) cells (called_to x)) (served_call (pick c (ready tree) (unready 17 0)) cells (called_to y))
      enough tree n e true =
          named (ltb f (length tree.procedures)) (eqb (length arguments) (procedure_at tree.procedures f).parameters) _ _ (run tree n e)
      enough tree n e false = refusal 17 0

      read : (p : Parse Image) → admitted whole words ≡ p
          → P (served_call (with_cells p (length cells)) cells (called_to x)) (served_call (with_cells p (length cells)) cells (called_to y))
      read (got tree n) e = enough tree n e (leb (cell_count tree.arrays) (length cells))
      read (refused k p) e = refusal k p

      empty : (c : Bool)
          → P (served_call (pick c (unready 20 0) (with_cells (admitted whole words) (length cells))) cells (called_to x))
          (served_call (pick c (unready 20 0) (with_cells (admitted whole words) (length cells))) cells (called_to y))
      empty true = refusal 20 0
      empty false = read (admitted whole words) refl
