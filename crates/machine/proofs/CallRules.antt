-- What a call's parts ask of each other, and what they give together. Assumes nothing.
use mathlib.Core.Path.{◌≡◌, sym, ap, ◌∙◌}
use mathlib.Core.List.{List}
use Prim.Native.Nat.{ℕ, ◌/◌, ◌≤◌, ◌<◌}
use native.Mathlib.Omega.{arith}
use lib.ListN.{length, get_or}
use Rattle.definitions.specs.Bytes.{words_of}
use Rattle.definitions.specs.Running.{frame}
use Rattle.definitions.specs.Requests.{argument_values, called_on}
use Rattle.definitions.specs.declared.Answer.{Answer}
use Rattle.definitions.specs.declared.Answer.TheVariants.{Refused}
use Rattle.laws.specs.ImageIn.{image_in}
use Rattle.tables.specs.Table.{params_in, padded, Known}
use Rattle.tables.specs.Looking.{Listed, procedure_in, known_arity, known_limits, form_small}
use Rattle.reader.specs.Ends.{BlockEnds}
use Rattle.runner.specs.Runs.{Ready, nine}
use Rattle.runner.specs.Callees.{nine_padded}
use Rattle.laws.specs.WordsOfBytes.{length_words_of}
use Rattle.requests.proofs.ArgumentRules.{length_values}
use Rattle.machine.specs.Serving.{ran_on, own_in, Outcome}
use Rattle.machine.proofs.TurnRules.{no_procedure_lem, wrong_count, called_runs, ran_framed}

-- ---- the values

module _ (image table : List ℕ) (f : ℕ) (k : Listed image table f) (arguments : List ℕ) (e : length arguments / 4 ≡ get_or (params_in table) f 0) where
  few : (length arguments / 4 ≤ length (procedure_in image f).types) × (length arguments / 4 ≤ 9)
  few =
      let a = known_arity image table k.known f k.number in
      let (m, most, among, all) = known_limits image table k.known f k.number in
      let form = form_small image table k.known in (omega arith, omega arith)

  -- the type words are those of a procedure of a program, which are this procedure's
  pub arguments_fit : {types image' table' : List ℕ} {f' : ℕ} → types ≡ (procedure_in image' f').types
      → (f' ≡ f) × (image' ≡ image) × (table' ≡ table) → (length arguments / 4 ≤ length types) × (length arguments / 4 ≤ 9)
  arguments_fit t (p, i, q) = rw (t, p, i) few

  pub values_few : length (argument_values (procedure_in image f).types (words_of arguments)) ≤ 9
  values_few =
      let n = length_words_of arguments in let (a, b) = few in rw length_values (omega arith)

pub given : (ws : List ℕ) {values types image image' table table' : List ℕ} {f f' : ℕ} → types ≡ (procedure_in image' f').types
    → (f' ≡ f) × (image' ≡ image) × (table' ≡ table) → values ≡ padded 9 (argument_values types ws)
    → values ≡ padded 9 (argument_values (procedure_in image f).types ws)
given ws t (p, i, q) e = e ∙ ap (λ (ts : List ℕ). padded 9 (argument_values ts ws)) (rw (← p, ← i) t)

-- ---- the run

pub run_given : (image cells cells' : List ℕ) (r : Answer) (before after : List ℕ) (f : ℕ) (ws values : List ℕ) (budget room : ℕ)
    → values ≡ padded 9 ws → length ws ≤ 9
    → Outcome image cells cells' r before after (ran_on (image_in image) (own_in image cells) f (nine values) budget room)
    → Outcome image cells cells' r before after (ran_on (image_in image) (own_in image cells) f ws budget room)
run_given image cells cells' r before after f ws values budget room e h t =
    rw (← (ran_framed (image_in image) (own_in image cells) f (nine values) ws budget room (ap (λ (x : List ℕ). frame (nine x)) e ∙ nine_padded ws h))) t

-- ---- the call

pub call_ready : {image table ends : List ℕ} {f : ℕ} → Known image table → f < length (image_in image).procedures
    → BlockEnds image (params_in table) ends → Ready image table ends f
call_ready known h block_ends = record { listed = record { known = known; number = h }; block_ends = block_ends }

module _ (image : List ℕ) (f : ℕ) (arguments : List ℕ) (budget : ℕ) (cells before : List ℕ) (k : ℕ) where
  abbrev Called : (cells' : List ℕ) → Answer → (after : List ℕ) → Type 0
  Called cells' r after =
      Outcome image cells cells' r before after (called_on (image_in image) (own_in image cells) f (words_of arguments) budget (length (words_of before)))

  pub call_none : length (image_in image).procedures ≤ f → k ≡ 17 → Called cells (Refused k 0) before
  call_none h e = rw e (no_procedure_lem image cells f (words_of arguments) budget (length (words_of before)) before h)

  module _ {table : List ℕ} (known : Known image table) (h : f < length (image_in image).procedures) where
    module _ (n : ℕ) {p : ℕ} (ep : p ≡ get_or (params_in table) f 0) (en : n ≡ p) where
      same_count : n ≡ (procedure_in image f).parameters
      same_count = en ∙ ep ∙ known_arity image table known f h

      pub call_count : (length arguments / 4 ≡ n → ⊥) → k ≡ 18 → Called cells (Refused k 0) before
      call_count g e =
          rw e
          (wrong_count image cells f (words_of arguments) budget (length (words_of before)) before h
          (λ q. g (sym (length_words_of arguments) ∙ q ∙ sym same_count)))

      pub call_ran : length arguments / 4 ≡ n → (cells' : List ℕ) (r : Answer) (after : List ℕ)
          → Outcome image cells cells' r before after
          (ran_on (image_in image) (own_in image cells) f (argument_values (procedure_in image f).types (words_of arguments)) budget (length before / 4))
          → Called cells' r after
      call_ran g cells' r after t =
          rw (
            called_runs (image_in image) (own_in image cells) f (words_of arguments) budget (length (words_of before)) h
                (length_words_of arguments ∙ g ∙ same_count),
            length_words_of before,
          ) t
