-- Each contract from that of the request on bytes and of the answer's layout. Assumes nothing.
use mathlib.Core.Path.{◌≡◌, ap, ◌∙◌}
use mathlib.Core.List.{List}
use Prim.Native.Nat.{ℕ, ◌<◌}
use Rattle.definitions.specs.declared.Answer.{Answer}
use Rattle.definitions.specs.declared.Checked.{Checked}
use Rattle.definitions.specs.declared.Compared.{Compared}
use Rattle.definitions.specs.declared.Compiled.{Compiled}
use Rattle.definitions.specs.Host.{check_bytes, compile_bytes, describe_bytes, compare_bytes, answer_words, checked_words, compiled_words, compared_words}
use Rattle.definitions.specs.Host.{answer_bytes}
use Rattle.results.specs.Named.{answer_place, checked_place, compiled_place}
use Rattle.answers.specs.Places.{check_place, compile_place, describe_place}

-- a request that gives its answer and the cells afterwards
module _ (r : Answer) (after : List ℕ) (x : Answer × List ℕ) (e : (r, after) ≡ x) where
  pub fits : answer_place x.0 < 4294967296 → answer_place r < 4294967296
  fits h = let z : r ≡ x.0 = ap (λ (y : Answer × List ℕ). y.0) e in rw z h

  pub both : (answer answer' : List ℕ) → answer' ≡ answer_bytes answer (answer_words r) → (after ≡ x.1) × (answer' ≡ answer_bytes answer (answer_words x.0))
  both answer answer' h =
      (ap (λ (y : Answer × List ℕ). y.1) e, h ∙ ap (λ (y : Answer × List ℕ). answer_bytes answer (answer_words y.0)) e)

-- a call or a preview, with the trace afterwards
module _ (r : Answer) (after trace : List ℕ) (x : Answer × List ℕ × List ℕ) (e : (r, after, trace) ≡ x) where
  pub call_fits : answer_place x.0 < 4294967296 → answer_place r < 4294967296
  call_fits h = let z : r ≡ x.0 = ap (λ (y : Answer × List ℕ × List ℕ). y.0) e in rw z h

  pub all : (answer answer' : List ℕ) → answer' ≡ answer_bytes answer (answer_words r)
      → (after ≡ x.1) × (trace ≡ x.2) × (answer' ≡ answer_bytes answer (answer_words x.0))
  all answer answer' h = (
    ap (λ (y : Answer × List ℕ × List ℕ). y.1) e,
    ap (λ (y : Answer × List ℕ × List ℕ). y.2) e,
    h ∙ ap (λ (y : Answer × List ℕ × List ℕ). answer_bytes answer (answer_words y.0)) e,
  )

-- the checker's answer
pub check_fits : (image : List ℕ) (r : Checked) → r ≡ check_bytes image → checked_place r < 4294967296
check_fits image r e = rw e (check_place image)

pub check_put : (image : List ℕ) (r : Checked) (answer answer' : List ℕ) → r ≡ check_bytes image → answer' ≡ answer_bytes answer (checked_words r)
    → answer' ≡ answer_bytes answer (checked_words (check_bytes image))
check_put image r answer answer' e h = h ∙ ap (λ (x : Checked). answer_bytes answer (checked_words x)) e

-- the answer of a comparison
pub compare_put : (trace probe : List ℕ) (r : Compared) (answer answer' : List ℕ) → r ≡ compare_bytes trace probe
    → answer' ≡ answer_bytes answer (compared_words r) → answer' ≡ answer_bytes answer (compared_words (compare_bytes trace probe))
compare_put trace probe r answer answer' e h = h ∙ ap (λ (x : Compared). answer_bytes answer (compared_words x)) e

-- the answer of a function that writes words, with the output afterwards
module _ (r : Compiled) (after : List ℕ) (x : Compiled × List ℕ) (e : (r, after) ≡ x) where
  written_fits : compiled_place x.0 < 4294967296 → compiled_place r < 4294967296
  written_fits h = let z : r ≡ x.0 = ap (λ (y : Compiled × List ℕ). y.0) e in rw z h

  pub written_put : (answer answer' : List ℕ) → answer' ≡ answer_bytes answer (compiled_words r)
      → (after ≡ x.1) × (answer' ≡ answer_bytes answer (compiled_words x.0))
  written_put answer answer' h =
      (ap (λ (y : Compiled × List ℕ). y.1) e, h ∙ ap (λ (y : Compiled × List ℕ). answer_bytes answer (compiled_words y.0)) e)

pub compile_fits : (image out after : List ℕ) (r : Compiled) → ◌≡◌ {A = Compiled × List ℕ} (r, after) (compile_bytes image out) → compiled_place r < 4294967296
compile_fits image out after r e = written_fits r after (compile_bytes image out) e (compile_place image out)

pub describe_fits : (image out after : List ℕ) (r : Compiled) → ◌≡◌ {A = Compiled × List ℕ} (r, after) (describe_bytes image out) → compiled_place r < 4294967296
describe_fits image out after r e = written_fits r after (describe_bytes image out) e (describe_place image out)
