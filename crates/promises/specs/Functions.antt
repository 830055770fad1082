-- What a host reads in the slice that it lent for an answer is the definition's answer: seven words, one layout for every function. Assumes nothing.
use Rattle.std.specs.Prelude.{ℕ, ◌+◌, ◌*◌, ◌/◌, ◌%◌, ◌^◌, ◌≤◌, List, ◌++◌, ◌≡◌, drop}
use Rattle.std.proofs.Math.Path.{ap}
use Rattle.std.proofs.Common.{◌∙◌, arith, le-leb}
use Rattle.std.proofs.Math.ListN.{length}
use Rattle.definitions.specs.Bytes.{words_of, lent}
use Rattle.definitions.specs.declared.Answer.{Answer}
use Rattle.definitions.specs.declared.Answer.TheVariants.{Done, Stopped, Refused}
use Rattle.definitions.specs.declared.Checked.{Checked}
use Rattle.definitions.specs.declared.Checked.TheVariants.{Accepted, Refused as CheckRefused}
use Rattle.definitions.specs.declared.Compiled.{Compiled}
use Rattle.definitions.specs.declared.Compiled.TheVariants.{Written, Refused as CompileRefused}
use Rattle.definitions.specs.declared.Compared.{Compared}
use Rattle.definitions.specs.declared.Compared.TheVariants.{Agree, Part}
use Rattle.definitions.specs.Requests.{Called}
use Rattle.definitions.specs.Host.{answer_words, checked_words, compiled_words, compared_words, answer_bytes}
use Rattle.statements.specs.Statements.{answer_of, answer_in, checked_of, checked_in, compiled_of, compiled_in, compared_of, compared_in}
use Rattle.laws.specs.WordsOfBytes.{words_first}

-- a number in two words, the high one first
two_words : (n : ℕ) → n / 2 ^ 32 * 2 ^ 32 + n % 2 ^ 32 ≡ n
two_words n = omega arith

module _ (answer answer' : List ℕ) (room : 28 ≤ length answer) where
  -- the words that were written come first
  written : (words : List ℕ) → answer' ≡ answer_bytes answer words → answer_in answer' ≡ answer_of (words ++ words_of (drop (4 * length words) answer))
  unfolding answer_in answer_bytes lent
  written words e = ap answer_in e ∙ rw (le-leb 28 (length answer) room) (ap answer_of (words_first words (drop (4 * length words) answer)))

  read_as : (x : Answer) → answer' ≡ answer_bytes answer (answer_words x) → answer_in answer' ≡ x
  unfolding answer_words answer_of
  read_as (Done v z n) e = written (answer_words (Done v z n)) e ∙ rw (two_words n)
  read_as (Stopped k p z n) e = written (answer_words (Stopped k p z n)) e ∙ rw (two_words n)
  read_as (Refused k p) e = written (answer_words (Refused k p)) e

  pub check_read : (x : Checked) → answer' ≡ answer_bytes answer (checked_words x) → checked_in answer' ≡ x
  unfolding checked_words answer_of checked_of
  check_read Accepted e = ap checked_of (written (checked_words Accepted) e)
  check_read (CheckRefused k p) e = ap checked_of (written (checked_words (CheckRefused k p)) e)

  compiled_as : (x : Compiled) → answer' ≡ answer_bytes answer (compiled_words x) → compiled_in answer' ≡ x
  unfolding compiled_words answer_of compiled_of
  compiled_as (Written n) e = ap compiled_of (written (compiled_words (Written n)) e) ∙ ap Written (two_words n)
  compiled_as (CompileRefused k p) e = ap compiled_of (written (compiled_words (CompileRefused k p)) e)

  pub compare_read : (x : Compared) → answer' ≡ answer_bytes answer (compared_words x) → compared_in answer' ≡ x
  unfolding compared_words answer_of compared_of
  compare_read (Agree n) e = ap compared_of (written (compared_words (Agree n)) e) ∙ ap Agree (two_words n)
  compare_read (Part n) e = ap compared_of (written (compared_words (Part n)) e) ∙ ap Part (two_words n)

  -- with what the lent slices hold afterwards
  pub compile_read : (x : Compiled × List ℕ) (out' : List ℕ) → out' ≡ x.1 → answer' ≡ answer_bytes answer (compiled_words x.0)
      → ◌≡◌ {A = Compiled × List ℕ} (compiled_in answer', out') x
  compile_read x out' o a = let e : compiled_in answer' ≡ x.0 = compiled_as x.0 a in rw (e, o)

  pub request_read : (x : Answer × List ℕ) (cells' : List ℕ) → cells' ≡ x.1 → answer' ≡ answer_bytes answer (answer_words x.0)
      → ◌≡◌ {A = Answer × List ℕ} (answer_in answer', cells') x
  request_read x cells' c a = let e : answer_in answer' ≡ x.0 = read_as x.0 a in rw (e, c)

  pub call_read : (x : Called) (cells' trace' : List ℕ) → cells' ≡ x.1 → trace' ≡ x.2 → answer' ≡ answer_bytes answer (answer_words x.0)
      → ◌≡◌ {A = Called} (answer_in answer', cells', trace') x
  call_read x cells' trace' c t a = let e : answer_in answer' ≡ x.0 = read_as x.0 a in rw (e, c, t)
