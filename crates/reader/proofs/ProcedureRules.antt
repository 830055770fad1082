-- What `read_types` and `read_procedure` read, step by step. Assumes nothing.
use mathlib.Core.Path.{◌≡◌}
use mathlib.Core.List.{List}
use Prim.Native.Nat.{ℕ, ◌+◌, ◌-◌, ◌<◌}
use Rattle.std.specs.Prelude.{Ok}
use Rattle.definitions.specs.Image.{type_word, procedure_word, parameters_of, locals_of, largest_level}
use Rattle.definitions.specs.Reading.{read_types, read_block, read_procedure}
use Rattle.reader.specs.Answers.{answer, word_at, ensured}
use Rattle.reader.proofs.Steps.{◌>>=◌, answer_last, answer_two, answer_word, one_more}

pub types_none : (n : ℕ) (image : List ℕ) (at : ℕ) → n ≡ 0 → answer (read_types n image at) ≡ Ok at
unfolding read_types answer
types_none n image at e = rw e

pub types_more : (n k : ℕ) (image : List ℕ) (at : ℕ) → k < n
    → answer (read_types (n - k) image at)
    ≡ (word_at image at >>= λ w. ensured (type_word w) 2 at >>= λ _. answer (read_types (n - (k + 1)) image (at + 1)))
unfolding read_types
types_more n k image at h = rw (one_more n k h) (simp (answer_word, answer_last))

pub ruleset types_rules = (types_none, types_more)

pub procedure_rules : (form : ℕ) (params : List ℕ) (me : ℕ) (image : List ℕ) (at : ℕ)
    → answer (read_procedure form params me image at)
    ≡ (word_at image at >>= λ w. ensured (procedure_word form w) 2 at
    >>= λ _. word_at image (at + 1) >>= λ r. ensured (type_word r) 2 (at + 1)
    >>= λ _. answer (read_types (parameters_of w + locals_of w) image (at + 1 + 1))
    >>= λ n. answer (read_block (largest_level form) params me image n))
unfolding read_procedure
procedure_rules form params me image at = simp (answer_word, answer_two)
