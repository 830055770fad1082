-- A call is refused by its procedure and its number of arguments alone, so a compiled image refuses the calls that its source refuses.
-- Assumes nothing.
use Rattle.std.specs.Prelude.{ℕ, ◌+◌, ◌<◌, Bool, true, false, List, [], ◌≡◌, refl, ltb, eqb, length}
use Rattle.std.proofs.Math.Path.{sym, ap}
use Rattle.std.proofs.Common.{◌∙◌, arith, ltb-true, eqb-true, eq-eqb, ne_eqb}
use Rattle.std.proofs.lemmas.Bool.{eqb-false}
use Rattle.definitions.specs.Choice.{pick}
use Rattle.definitions.specs.declared.Answer.TheVariants.{Refused}
use Rattle.definitions.specs.Image.{Procedure, Image, procedure_at}
use Rattle.definitions.specs.Compiling.{guards, compiled_procedure, compiled_image}
use Rattle.definitions.specs.Running.{trace_words, Ran, on, halt, Given, gave, run_procedure}
use Rattle.definitions.specs.Requests.{Called, argument_values, ended, called_on}
use Rattle.readback.specs.Like.{LikeImage}
use Rattle.readback.specs.Accepted.{like_at}
use Rattle.statements.specs.Statements.{is_refused, with_guard}
use Rattle.preservation.specs.Preservation.{compiled_at}
use Rattle.preservation.specs.Calls.{same_count, guard_count}
use Rattle.properties.specs.Bridge.{same_image}

run_answered : (p : Procedure) (cells : List ℕ) (x : Ran (List ℕ) Given) → is_refused (ended p cells x).0 ≡ false
unfolding ended
run_answered p cells (on (gave v after) z t) = refl
run_answered p cells (halt n l z t) = refl

-- by whether there is such a procedure, and whether the number of arguments is right
call_refusal :
    (image : Image) (cells : List ℕ) (f : ℕ) (arguments : List ℕ) (budget room : ℕ)
    → is_refused (called_on image cells f arguments budget room).0
    ≡ pick (ltb f (length image.procedures)) (pick (eqb (length arguments) (procedure_at image.procedures f).parameters) false true) true
unfolding called_on
call_refusal image cells f arguments budget room = go (ltb f (length image.procedures)) (eqb (length arguments) (procedure_at image.procedures f).parameters)
  where
    run : Ran (List ℕ) Given
    run = run_procedure (trace_words room) budget image.arrays image.procedures (length image.procedures) f
        (argument_values (procedure_at image.procedures f).types arguments) 0 [] cells

    given : Bool → Bool → Called
    given a b = pick a (pick b (ended (procedure_at image.procedures f) cells run) (Refused 18 0, cells, [])) (Refused 17 0, cells, [])

    go : (a b : Bool) → is_refused (given a b).0 ≡ pick a (pick b false true) true
    go true true = run_answered (procedure_at image.procedures f) cells run
    go true false = refl
    go false b = refl

-- one more argument for one more parameter
same_test : (a b g c d : ℕ) → c ≡ a + g → d ≡ b + g → eqb a b ≡ eqb c d
same_test a b g c d e h = go (eqb a b) refl
  where
    go : (t : Bool) → eqb a b ≡ t → t ≡ eqb c d
    go true q = let k = eqb-true a b q in sym (eq-eqb c d (omega arith))
    go false q = sym (ne_eqb c d (λ r. eqb-false a b q (omega arith)))

module _ (source target : Image) (like : LikeImage (compiled_image source) target) (f : ℕ) where
  one_more_parameter : f < length source.procedures → (procedure_at target.procedures f).parameters ≡ (procedure_at source.procedures f).parameters + guards (procedure_at source.procedures f)
  unfolding compiled_image compiled_procedure
  one_more_parameter i = sym (like_at like.procedures f).parameters ∙ ap (λ (p : Procedure). p.parameters) (compiled_at source source.procedures f i)

  pub same_refusal :
      (cells arguments : List ℕ) (budget budget' room room' : ℕ)
      → is_refused (called_on source cells f arguments budget room).0
      ≡ is_refused (called_on target cells f (with_guard (procedure_at source.procedures f) arguments) budget' room').0
  same_refusal cells arguments budget budget' room room' =
      call_refusal source cells f arguments budget room ∙ both (ltb f (length source.procedures)) refl
      ∙ sym (call_refusal target cells f (with_guard (procedure_at source.procedures f) arguments) budget' room')
    where
      known : Procedure
      known = procedure_at source.procedures f

      count : length target.procedures ≡ length source.procedures
      count = same_count source target (sym (same_image (compiled_image source) target like))

      either : (b : Bool) → ltb f (length source.procedures) ≡ b
          → pick b (pick (eqb (length arguments) known.parameters) false true) true
          ≡ pick b (pick (eqb (length (with_guard known arguments)) (procedure_at target.procedures f).parameters) false true) true
      either true e =
          ap (λ (t : Bool). pick t false true)
          (same_test (length arguments) known.parameters (guards known) (length (with_guard known arguments)) (procedure_at target.procedures f).parameters
          (guard_count known arguments) (one_more_parameter (ltb-true f (length source.procedures) e)))
      either false e = refl

      both : (b : Bool) → ltb f (length source.procedures) ≡ b
          → pick b (pick (eqb (length arguments) known.parameters) false true) true
          ≡ pick (ltb f (length target.procedures)) (pick (eqb (length (with_guard known arguments)) (procedure_at target.procedures f).parameters) false true) true
      both b e = either b e ∙ ap (λ (t : Bool). pick t (pick (eqb (length (with_guard known arguments)) (procedure_at target.procedures f).parameters) false true) true) (sym (ap (ltb f) count ∙ e))
