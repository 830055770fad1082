-- Document 01, "What demand 3 compares", for a call on words: on two machines with one image in force, of form 1, whose cells agree where they are
-- public, and with arguments that agree where the parameters are, it is answered alike, with the same trace words, and leaves cells that agree
-- where they are public.
-- Assumes nothing.
use Rattle.std.specs.Prelude.{◌≡◌, refl, Bool, ◌&&◌, ℕ, zero, suc, eqb, ltb, length, get_or}
use Rattle.std.proofs.Common.{ap, ◌∙◌, arith}
use Rattle.std.proofs.Math.Bool.{true, false}
use mathlib.Core.List.{List, [], ◌∷◌}
use Rattle.definitions.specs.Choice.{pick}
use Rattle.definitions.specs.declared.Answer.TheVariants.{Refused}
use Rattle.definitions.specs.Bytes.{words_of}
use Rattle.definitions.specs.Image.{type_secret, Procedure, Image, procedure_at}
use Rattle.definitions.specs.Checking.{fault_of}
use Rattle.definitions.specs.Running.{Ran, Given, trace_words, run_procedure}
use Rattle.definitions.specs.Requests.{Ready, ready, unready, ready_to_serve, Called, answered, argument_values, ended}
use Rattle.definitions.specs.Requests.{called_on, served_call, call}
use Rattle.definitions.specs.Host.{whole_words}
use Rattle.statements.specs.Statements.{image_of, secret_argument, SameAnswer, both_done, both_stopped, both_refused}
use Rattle.statements.specs.Statements.{recorded_count}
use Rattle.secrecy.specs.Agreement.{Agree, cell_secret}
use Rattle.secrecy.specs.Related.{Runs, ons, halts}
use Rattle.secrecy.specs.Expressions.{variable_secret}
use Rattle.secrecy.specs.Statements.{Results, gives}
use Rattle.secrecy.specs.Procedures.{same_run}
use Rattle.secrecy.specs.Usable.{usable_serve}

-- two calls on words that are answered alike: also the trace words recorded are the same, as many as the answers say
pub record CalledAlike (secret : Bool) (m : ℕ) (arrays : List ℕ) (x y : Called) : Type 0 where
  pub answers : SameAnswer secret x.0 y.0
  pub agree : Agree m (cell_secret arrays) x.1 y.1
  pub traces : x.2 ≡ y.2
  pub count : recorded_count x.0 ≡ length x.2
  pub count' : recorded_count y.0 ≡ length y.2

length_values : (types xs : List ℕ) → length (argument_values types xs) ≡ length xs
unfolding argument_values
length_values types [] = refl
length_values [] (x ∷ xs) = refl
length_values (w ∷ ws) (x ∷ xs) = ap suc (length_values ws xs)

same_values : (types xs ys : List ℕ) → length xs ≡ length ys → ((i : ℕ) → variable_secret types i ≡ false → get_or xs i 0 ≡ get_or ys i 0)
    → (i : ℕ) → variable_secret types i ≡ false → get_or (argument_values types xs) i 0 ≡ get_or (argument_values types ys) i 0
unfolding argument_values
same_values types [] [] e h i g = refl
same_values types [] (y ∷ ys) e h i g = absurd (omega arith)
same_values types (x ∷ xs) [] e h i g = absurd (omega arith)
same_values [] (x ∷ xs) (y ∷ ys) e h i g = h i g
same_values (w ∷ ws) (x ∷ xs) (y ∷ ys) e h zero g = ap (λ (v : ℕ). answered w v) (h 0 g)
same_values (w ∷ ws) (x ∷ xs) (y ∷ ys) e h (suc i) g = same_values ws xs ys (omega arith) (λ j. h (suc j)) i g

same_ended : {m : ℕ} {arrays : List ℕ} (p : Procedure) {cs ds : List ℕ} {x y : Ran (List ℕ) Given}
    → Agree m (cell_secret arrays) cs ds → Runs (Results m arrays p.result) x y
    → CalledAlike (type_secret p.result) m arrays (ended p cs x) (ended p ds y)
unfolding ended
same_ended p a (ons (gives e c)) =
    record { answers = both_done (λ g. ap (λ (v : ℕ). answered p.result v) (e g)); agree = c; traces = refl; count = refl; count' = refl }
same_ended p a halts = record { answers = both_stopped; agree = a; traces = refl; count = refl; count' = refl }

-- a call that is refused
same_refused : {secret : Bool} {m : ℕ} {arrays cs ds : List ℕ} (n p : ℕ) → Agree m (cell_secret arrays) cs ds
    → CalledAlike secret m arrays (Refused n p, cs, []) (Refused n p, ds, [])
same_refused n p a = record { answers = both_refused; agree = a; traces = refl; count = refl; count' = refl }

-- the procedure that is called, its arguments, and its run
abbrev called_in : Image → ℕ → Procedure
called_in image f = procedure_at image.procedures f

abbrev arguments_in : Image → ℕ → List ℕ → List ℕ
arguments_in image f xs = argument_values (called_in image f).types xs

abbrev run_in : Image → ℕ → ℕ → ℕ → List ℕ → List ℕ → Ran (List ℕ) Given
run_in image f budget room xs cs =
    run_procedure (trace_words room) budget image.arrays image.procedures (length image.procedures) f (arguments_in image f xs) 0 [] cs

-- a call on an image of form 1 with no fault
module _ (image : Image) (m : ℕ) (cs ds : List ℕ) (f : ℕ) (xs ys : List ℕ) (budget room : ℕ) (one : image.form ≡ 1)
    (faultless : (fault_of image).number ≡ 0) (agree : Agree m (cell_secret image.arrays) cs ds) (size : length xs ≡ length ys)
    (public : (k : ℕ) → secret_argument image f k ≡ false → get_or xs k 0 ≡ get_or ys k 0) where
  same_argument_values : Agree (length ys) (variable_secret (called_in image f).types) (arguments_in image f xs) (arguments_in image f ys)
  same_argument_values =
      record {
        left = length_values (called_in image f).types xs ∙ size;
        right = length_values (called_in image f).types ys;
        here = same_values (called_in image f).types xs ys size
            (λ i g. public i (either (ltb i (called_in image f).parameters) (variable_secret (called_in image f).types i) g));
      }
    where
      either : (b c : Bool) → c ≡ false → (b && c) ≡ false
      either true c g = g
      either false c g = refl

  same_called_on : CalledAlike (type_secret (called_in image f).result) m image.arrays (called_on image cs f xs budget room)
      (called_on image ds f ys budget room)
  unfolding called_on
  same_called_on = rw size (by_tests (ltb f (length image.procedures)) (eqb (length ys) (called_in image f).parameters))
    where
      by_tests : (b c : Bool)
          → CalledAlike (type_secret (called_in image f).result) m image.arrays
          (pick b (pick c (ended (called_in image f) cs (run_in image f budget room xs cs)) (Refused 18 0, cs, [])) (Refused 17 0, cs, []))
          (pick b (pick c (ended (called_in image f) ds (run_in image f budget room ys ds)) (Refused 18 0, ds, [])) (Refused 17 0, ds, []))
      by_tests true true =
          same_ended (called_in image f) agree
          (same_run (trace_words room) budget m image one faultless (length image.procedures) f (length ys) (arguments_in image f xs)
          (arguments_in image f ys) 0 [] cs ds same_argument_values agree)
      by_tests true false = same_refused 18 0 agree
      by_tests false c = same_refused 17 0 agree

pub same_call : (bytes : List ℕ) (m : ℕ) (cs ds : List ℕ) (f : ℕ) (xs ys : List ℕ) (budget room : ℕ)
    → (image_of bytes).form ≡ 1 → Agree m (cell_secret (image_of bytes).arrays) cs ds → length xs ≡ length ys
    → ((k : ℕ) → secret_argument (image_of bytes) f k ≡ false → get_or xs k 0 ≡ get_or ys k 0)
    → CalledAlike (type_secret (procedure_at (image_of bytes).procedures f).result) m (image_of bytes).arrays
    (call (whole_words bytes) (words_of bytes) cs f xs budget room) (call (whole_words bytes) (words_of bytes) ds f ys budget room)
unfolding call served_call image_of
same_call bytes m cs ds f xs ys budget room one a e k =
    rw (a.left, a.right) (by_ready (ready_to_serve (whole_words bytes) (words_of bytes) m) refl)
  where
    by_ready : (r : Ready) → ready_to_serve (whole_words bytes) (words_of bytes) m ≡ r
        → CalledAlike (type_secret (procedure_at (image_of bytes).procedures f).result) m (image_of bytes).arrays
        (served_call r cs (λ j. called_on j cs f xs budget room)) (served_call r ds (λ j. called_on j ds f ys budget room))
    by_ready (ready image) q =
        let u = usable_serve bytes m image q in
        rw u.tree (same_called_on (image_of bytes) m cs ds f xs ys budget room one u.faultless a e k)
    by_ready (unready n p) q = same_refused n p a
