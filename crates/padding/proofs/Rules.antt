-- From what a preview of the routine gives to the rule's number. Assumes nothing.
use Prim.Native.Nat.{ℕ, ◌*◌, ◌/◌}
use mathlib.Core.List.{List, []}
use mathlib.Core.Path.{◌≡◌, refl, sym, ap, ◌∙◌}
use borrow.Author.Tests.{ne_eqb}
use lib.ListN.{length, replicate}
use Rattle.definitions.specs.declared.Answer.{Answer}
use Rattle.definitions.specs.declared.Answer.TheVariants.{Done, Stopped, Refused}
use Rattle.definitions.specs.Bytes.{words_of, bytes_of}
use Rattle.definitions.specs.Requests.{Called}
use Rattle.definitions.specs.Host.{preview_bytes}
use Rattle.statements.specs.Statements.{accepted}
use Rattle.laws.specs.Tests.{false_true}
use Rattle.laws.specs.WordsOfBytes.{length_words_of}
use Rattle.padding.specs.Rule.{unpadded}
use Rattle.padding.specs.Calling.{procedure, budget, trace_length}
use Rattle.padding.proofs.CompiledWords.{compiled_words, image_words_lem}
use Rattle.padding.specs.Interface.{AnswersBlock}
use Rattle.padding.proofs.Run.{previewed}

-- cells that are not 16
pub other_length : (b : List ℕ) → (length b / 4 ≡ 16 → ⊥) → AnswersBlock b b 255
unfolding unpadded
other_length b h = let e : length (words_of b) ≡ length b / 4 = length_words_of b in (rw (e, ne_eqb (length b / 4) 16 h), refl)

-- 16 cells: the preview is done, with the rule's number
module _ (i b cells room : List ℕ) (x : Answer) (r : i ≡ bytes_of compiled_words) (l : length b / 4 ≡ 16)
    (e : ◌≡◌ {A = Called} (x, cells, room) (preview_bytes i b procedure [] budget (replicate (4 * trace_length) 0))) where
  result : x ≡ Done (unpadded (words_of b)) budget trace_length
  result =
      ap (λ (y : Called). y.0) e
      ∙ (ap (λ (y : List ℕ). (preview_bytes y b procedure [] budget (replicate (4 * trace_length) 0)).0) (r ∙ sym image_words_lem) ∙ previewed b (length_words_of b ∙ l))

  pub its_number : (v z n : ℕ) → x ≡ Done v z n → AnswersBlock b b v
  its_number v z n d = let h : Done v z n ≡ Done (unpadded (words_of b)) budget trace_length = sym d ∙ result in let w : v ≡ unpadded (words_of b) = cc in (w, refl)

  -- neither of these falls
  pub no_stop : (k p z n : ℕ) → x ≡ Stopped k p z n → AnswersBlock b b 255
  no_stop k p z n d = false_true (ap accepted (sym d ∙ result))

  pub no_refusal : (k p : ℕ) → x ≡ Refused k p → AnswersBlock b b 255
  no_refusal k p d = false_true (ap accepted (sym d ∙ result))
