-- Document 02, wish 7: a preview is the call on a copy of the machine. Assumes nothing.
use Rattle.std.specs.Prelude.{◌≡◌, ℕ, length}
use Rattle.std.proofs.Math.Path.{refl, ap}
use mathlib.Core.List.{List}
use Rattle.definitions.specs.Bytes.{Bytes, words_of, lent}
use Rattle.definitions.specs.Requests.{Called, call, preview}
use Rattle.definitions.specs.Host.{whole_words, call_bytes, preview_bytes}
use Rattle.statements.specs.Statements.{Machine, turn}
use Rattle.laws.specs.WordsOfBytes.{lent_words_of}
use Rattle.statements.specs.Statements

module _ (image cells : List ℕ) (f : ℕ) (arguments : List ℕ) (budget : ℕ) (trace : List ℕ) where
  -- whatever the cells hold
  pub previewed_answer : (preview_bytes image cells f arguments budget trace).0 ≡ (call_bytes image cells f arguments budget trace).0
  unfolding preview_bytes preview call_bytes
  previewed_answer = refl

  pub previewed_trace : (preview_bytes image cells f arguments budget trace).2 ≡ (call_bytes image cells f arguments budget trace).2
  unfolding preview_bytes preview call_bytes
  previewed_trace = refl

  -- answer and trace are the call's on the same machine; the cells are those before, byte for byte
  pub preview_is_call_on_a_copy : Bytes cells
      → preview_bytes image cells f arguments budget trace
      ≡ ((call_bytes image cells f arguments budget trace).0, cells, (call_bytes image cells f arguments budget trace).2)
  unfolding preview_bytes preview call_bytes
  preview_is_call_on_a_copy bytes =
      let r : Called = call (whole_words image) (words_of image) (words_of cells) f (words_of arguments) budget (length (words_of trace)) in
      ap (λ (after : List ℕ). (r.0, after, lent trace r.2)) (lent_words_of cells bytes)

-- in a list of requests: the next one finds the machine that the preview found
pub preview_turn : (m : Machine) → Bytes m.cells → (f : ℕ) (arguments : List ℕ) (budget : ℕ) (trace : List ℕ)
    → turn m (Statements.preview f arguments budget trace)
    ≡ record {
      answer = (turn m (Statements.call f arguments budget trace)).answer;
      trace = (turn m (Statements.call f arguments budget trace)).trace;
      after = m;
    }
unfolding turn
preview_turn m bytes f arguments budget trace =
    ap (λ (r : Called). record { answer = r.0; trace = r.2; after = record { image = m.image; cells = r.1 } })
    (preview_is_call_on_a_copy m.image m.cells f arguments budget trace bytes)
