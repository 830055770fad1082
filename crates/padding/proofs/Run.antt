-- What the call comes to, on words and on lent bytes. Assumes nothing.
use Rattle.std.specs.Prelude.{ℕ, ◌+◌, ◌*◌, true, ◌≡◌, length, get_or, replicate}
use mathlib.Core.List.{List, []}
use Rattle.std.proofs.Common.{sym, ap, subst, ◌∙◌, arith}
use Rattle.definitions.specs.declared.Answer.TheVariants.{Done}
use Rattle.definitions.specs.Bytes.{words_of, bytes_of}
use Rattle.definitions.specs.Requests.{call, preview}
use Rattle.definitions.specs.Host.{whole_words, call_bytes, preview_bytes}
use Rattle.statements.specs.Statements.{tree_of, Machine, Response, turn}
use Rattle.statements.specs.Statements
use Rattle.laws.specs.WordsOfBytes.{length_words_of, length_bytes_of, words_back}
use Rattle.padding.specs.Rule.{last_cell, unpadded}
use Rattle.padding.specs.Calling.{procedure, budget, trace_length, indices, trace, holding}
use Rattle.padding.proofs.PassedRule.{passed_rule}
use Rattle.padding.proofs.Loaded.{image, compiled_words, whole, words, over_all}
use Rattle.padding.proofs.Computed.{listed, listed_all, came_to, computed}

pub called : (block : List ℕ) → length block ≡ 16 → call true compiled_words block procedure [] budget trace_length
    ≡ (Done (unpadded block) budget trace_length, block, trace)
called block e = subst (λ (x : List ℕ). call true compiled_words x procedure [] budget trace_length ≡ came_to (last_cell block) x) all (computed (λ j. get_or block j 0)) ∙ rw (passed_rule block e)
  where
    all : listed (λ j. get_or block j 0) 0 16 ≡ block
    all =
        ap (λ (n : ℕ). listed (λ j. get_or block j 0) 0 n) (sym e)
        ∙ listed_all block (λ j. get_or block j 0) 0 (λ j. let z : 0 + j ≡ j = omega arith in ap (λ (x : ℕ). get_or block x 0) z)

pub answers : (block room : List ℕ) → length block ≡ 16 → length room ≡ 4 * trace_length
    → turn (holding block) (Statements.call procedure [] budget room)
    ≡ record { answer = Done (unpadded block) budget trace_length; trace = bytes_of trace; after = holding block }
unfolding turn call_bytes words_of trace indices
answers block room e l =
    let enough : length (words_of room) ≡ trace_length = rw (length_words_of, l) in
    let r : call (whole_words image) (words_of image) (words_of (bytes_of block)) procedure [] budget (length (words_of room))
    ≡ (Done (unpadded block) budget trace_length, block, trace) = rw (whole, words, words_back block, enough) (called block e) in
    let cells : length (bytes_of block) ≡ 4 * length block = length_bytes_of block in
    rw (r, over_all room trace l, over_all (bytes_of block) block cells)

-- a preview of the block, whatever the lent trace holds
pub previewed : (b : List ℕ) → length (words_of b) ≡ 16 → (preview_bytes image b procedure [] budget (replicate (4 * trace_length) 0)).0
    ≡ Done (unpadded (words_of b)) budget trace_length
unfolding preview_bytes preview words_of
previewed b e = rw (whole, words, called (words_of b) e)
