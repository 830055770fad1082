-- The words that an answer counts: they are the definition's, whatever else the array holds that was compiled into. Assumes nothing.
use Rattle.std.specs.Prelude.{ℕ, ◌≤◌, Bool, true, false, List, ◌++◌, ◌≡◌, refl, leb, eqb, length, take, drop}
use Rattle.std.proofs.Common.{ap, leb-true}
use Rattle.definitions.specs.Choice.{pick}
use Rattle.definitions.specs.declared.Compiled.{Compiled}
use Rattle.definitions.specs.declared.Compiled.TheVariants.{Written, Refused}
use Rattle.definitions.specs.Image.{Image}
use Rattle.definitions.specs.Reading.{Parse, got, refused}
use Rattle.definitions.specs.Checking.{admitted}
use Rattle.definitions.specs.Encoding.{image_words}
use Rattle.definitions.specs.Compiling.{compiled_image, fits, written, compiled_tree, compiled}
use Rattle.laws.specs.Fitting.{words_fit}
use Rattle.writer.specs.Writing.{writes}
use Rattle.writer.specs.Laws.{whole}
use Rattle.compiler.specs.Compile.{answer_on, tree_on, compiled_on}

-- how many words were written
abbrev pub count_of : Compiled → ℕ
count_of (Written n) = n
count_of (Refused k p) = 0

-- the answer, and the words that it counts
abbrev pub kept : Compiled × List ℕ → Compiled × List ℕ
kept z = (z.0, take (count_of z.0) z.1)

-- the answer by its tests, whether the words are within the limits and whether there is room for them
abbrev pub placed : Bool → List ℕ → List ℕ → Compiled × List ℕ
placed f ws out =
    pick f (pick (leb (length ws) (length out)) (Written (length ws), ws ++ drop (length ws) out) (Refused 16 0, out)) (Refused 15 0, out)

placed_kept : (f : Bool) (ws out : List ℕ) → (f ≡ true → length ws ≤ 16384) → kept ((placed f ws out).0, (writes 0 out ws).1) ≡ kept (placed f ws out)
placed_kept false ws out small = refl
placed_kept true ws out small = go (leb (length ws) (length out)) refl
  where
    go : (t : Bool) → leb (length ws) (length out) ≡ t
        → kept ((pick {A = Compiled × List ℕ} t (Written (length ws), ws ++ drop (length ws) out) (Refused 16 0, out)).0, (writes 0 out ws).1)
        ≡ kept (pick t (Written (length ws), ws ++ drop (length ws) out) (Refused 16 0, out))
    go true e = ap (λ (x : List ℕ). kept (Written (length ws), x)) (whole ws out (small refl) (leb-true (length ws) (length out) e))
    go false e = refl

tree_kept : (x : Parse Image) (out : List ℕ) → kept (tree_on x out) ≡ kept (compiled_tree x out)
unfolding tree_on answer_on compiled_tree written
tree_kept (refused n p) out = refl
tree_kept (got image n) out = go (eqb image.form 0)
  where
    go : (s : Bool) → kept (pick s (answer_on image out) (Refused 14 0, out)) ≡ kept (pick s (written (compiled_image image) out) (Refused 14 0, out))
    go true = placed_kept (fits (compiled_image image)) (image_words (compiled_image image)) out (words_fit (compiled_image image))
    go false = refl

pub words_kept : (whole : Bool) (image out : List ℕ) → kept (compiled_on whole image out) ≡ kept (compiled whole image out)
unfolding compiled_on compiled
words_kept whole image out = tree_kept (admitted whole image) out

-- the answers are equal whatever is kept
pub answers_equal : (whole : Bool) (image out : List ℕ) → (compiled_on whole image out).0 ≡ (compiled whole image out).0
answers_equal whole image out = ap (λ (z : Compiled × List ℕ). z.0) (words_kept whole image out)
