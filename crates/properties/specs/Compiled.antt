-- Document 01, "From source form to compiled form": a compiled image and its source, side by side on the machine, over words.
-- "compiled and source runs are compared with that 1": a host passes 1 for the guard of a procedure that is guarded in the source.
-- Assumes nothing.
use Rattle.std.specs.Prelude.{ℕ, Bool, true, false, List, ◌≡◌, refl, leb, length}
use Rattle.std.proofs.Common.{true≢false, sym}
use Rattle.definitions.specs.Choice.{pick}
use Rattle.definitions.specs.Image.{Image, procedure_at, cell_count}
use Rattle.definitions.specs.Checking.{fault_of}
use Rattle.definitions.specs.Encoding.{image_words}
use Rattle.definitions.specs.Compiling.{compiled_image}
use Rattle.definitions.specs.Requests.{ready, unready, Called, called_on, served_call, call}
use Rattle.statements.specs.Statements.{is_refused, EndAlike, with_guard}
use Rattle.laws.specs.Fitting.{locals_fit}
use Rattle.laws.specs.Faultless.{no_fault_of}
use Rattle.readback.specs.Conclusion.{ReadBack}
use Rattle.readback.specs.Ready.{lent_enough, compiled_ready}
use Rattle.readback.specs.Cells.{source_call}
use Rattle.readback.specs.Output.{Wrote}
use Rattle.preservation.specs.Relations.{budget_spent, trace_full}
use Rattle.preservation.specs.Preservation.{SoundSource}
use Rattle.preservation.specs.Calls.{SameCall, both_done, both_stopped, both_refused, source_spent, compiled_spent}
use Rattle.preservation.specs.Calls.{preserved_call}
use Rattle.properties.specs.Bridge.{same_image, well_source}
use Rattle.properties.specs.Refusals.{same_refusal}

end_alike : {x y : Called} → is_refused x.0 ≡ is_refused y.0 → SameCall x y → EndAlike x y
end_alike e both_done = (e, λ a b. (refl, refl))
end_alike e both_stopped = (e, λ a b. (refl, refl))
end_alike e both_refused = (e, λ a b. (refl, refl))
end_alike e (source_spent budget_spent) = (e, λ a b. absurd (true≢false a))
end_alike e (source_spent trace_full) = (e, λ a b. absurd (true≢false a))
end_alike e (compiled_spent budget_spent) = (e, λ a b. absurd (true≢false b))
end_alike e (compiled_spent trace_full) = (e, λ a b. absurd (true≢false b))

-- requests for two trees over the same arrays: enough cells are lent for both or for neither
both_served :
    (i j : Image) → j.arrays ≡ i.arrays → (cells : List ℕ) (f g : Image → Called) → EndAlike (f i) (g j)
    → EndAlike (served_call (lent_enough i (length cells)) cells f) (served_call (lent_enough j (length cells)) cells g)
unfolding served_call lent_enough
both_served i j e cells f g h = go j.arrays e
  where
    cases : (b : Bool) → EndAlike (served_call (pick b (ready i) (unready 17 0)) cells f) (served_call (pick b (ready j) (unready 17 0)) cells g)
    cases true = h
    cases false = (refl, λ a b. (refl, refl))

    go : (arrays : List ℕ) → arrays ≡ i.arrays
        → EndAlike (served_call (pick (leb (cell_count i.arrays) (length cells)) (ready i) (unready 17 0)) cells f)
        (served_call (pick (leb (cell_count arrays) (length cells)) (ready j) (unready 17 0)) cells g)
    go arrays e = rw e (cases (leb (cell_count i.arrays) (length cells)))

-- a call on the compiled words is the call on the tree that is read from them
target_call :
    (source : Image) (r : ReadBack source) (cells : List ℕ) (f : ℕ) (arguments : List ℕ) (budget room : ℕ)
    → call true (image_words (compiled_image source)) cells f arguments budget room
    ≡ served_call (lent_enough r.tree (length cells)) cells (λ m. called_on m cells f arguments budget room)
unfolding call
target_call source r cells f arguments budget room = rw (compiled_ready source r (length cells))

module _ (whole : Bool) (words out : List ℕ) (n : ℕ) (w : Wrote whole words out n) where
  pub no_fault_lem : (fault_of w.source).number ≡ 0
  no_fault_lem = no_fault_of w.source w.sound.no_sort_fault w.sound.no_label_fault

  sound_source : SoundSource w.source
  sound_source =
      record {
        well = well_source w.source w.sound.read w.sound.source_form;
        clean = no_fault_lem;
        fits = locals_fit (compiled_image w.source) w.fitting;
      }

  -- a call of any procedure with any arguments, on equal cells, under any two budgets and with any two lengths of the lent trace
  pub same_calls :
      (r : ReadBack w.source) (cells : List ℕ) (f : ℕ) (arguments : List ℕ) (budget budget' room room' : ℕ)
      → EndAlike (call whole words cells f arguments budget room)
      (call true (image_words (compiled_image w.source)) cells f (with_guard (procedure_at w.source.procedures f) arguments) budget' room')
  same_calls r cells f arguments budget budget' room room' =
      rw (
        source_call whole words w.source w.place w.reading no_fault_lem cells f arguments budget room,
        target_call w.source r cells f (with_guard (procedure_at w.source.procedures f) arguments) budget' room',
      )
      (both_served w.source r.tree r.same_arrays cells (λ m. called_on m cells f arguments budget room)
      (λ m. called_on m cells f (with_guard (procedure_at w.source.procedures f) arguments) budget' room')
      (end_alike (same_refusal w.source r.tree r.like f cells arguments budget budget' room room')
      (preserved_call w.source sound_source r.tree (sym (same_image (compiled_image w.source) r.tree r.like))
      cells f arguments budget budget' room room')))
