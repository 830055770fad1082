-- How many words the compiler or the description wrote: no more than there is room for. Assumes nothing.
use Rattle.std.specs.Prelude.{◌≡◌, refl, Bool, true, false, List, ◌++◌, ℕ, ◌*◌, ◌/◌, ◌≤◌, min, leb, eqb, length, take, drop}
use Rattle.std.proofs.Common.{arith, leb-true}
use Rattle.definitions.specs.Choice.{pick}
use Rattle.definitions.specs.Bytes.{words_of, bytes_of}
use Rattle.definitions.specs.Image.{Image}
use Rattle.definitions.specs.Reading.{Parse, got, refused}
use Rattle.definitions.specs.Checking.{admitted}
use Rattle.definitions.specs.Encoding.{image_words}
use Rattle.definitions.specs.Compiling.{compiled_image, fits, written, compiled_tree, compiled}
use Rattle.definitions.specs.Describing.{description, described_tree}
use Rattle.definitions.specs.Host.{whole_words, compile_bytes}
use Rattle.definitions.specs.declared.Compiled.{Compiled}
use Rattle.definitions.specs.declared.Compiled.TheVariants.{Written, Refused}
use Rattle.laws.specs.WordsOfBytes.{length_words_of}
use Rattle.compiler.specs.Kept.{count_of, placed}

abbrev pub Output : Type 0
Output = Compiled × List ℕ

-- what the lent bytes are once the words that were written have gone into them
abbrev pub handed : List ℕ → Output → Output
handed b r = (r.0, bytes_of (take (count_of r.0) r.1) ++ drop (4 * count_of r.0) b)

-- compiled into the first words of `result`, as many as the lent bytes have room for, and handed over
unfoldable pub attempt : List ℕ → List ℕ → List ℕ → Output
attempt image b result = handed b (compiled (whole_words image) (words_of image) (take (min (length b / 4) (length result)) result))

count_placed : (f : Bool) (ws out : List ℕ) → count_of (placed f ws out).0 ≤ length out
count_placed false ws out = omega arith
count_placed true ws out = go (leb (length ws) (length out)) refl
  where
    go : (t : Bool) → leb (length ws) (length out) ≡ t
        → count_of (pick {A = Output} t (Written (length ws), ws ++ drop (length ws) out) (Refused 16 0, out)).0 ≤ length out
    go true e = leb-true (length ws) (length out) e
    go false e = omega arith

-- no more words are written than there is room for
pub count_within : (x : Parse Image) (out : List ℕ) → count_of (compiled_tree x out).0 ≤ length out
unfolding compiled_tree written
count_within (refused n p) out = omega arith
count_within (got image n) out = go (eqb image.form 0)
  where
    go : (s : Bool) → count_of (pick {A = Output} s (written (compiled_image image) out) (Refused 14 0, out)).0 ≤ length out
    go true = count_placed (fits (compiled_image image)) (image_words (compiled_image image)) out
    go false = omega arith

pub count_described : (x : Parse Image) (out : List ℕ) → count_of (described_tree x out).0 ≤ length out
unfolding described_tree
count_described (refused n p) out = omega arith
count_described (got image n) out = count_placed true (description image) out

-- the same for lent bytes, of the compiler
pub compile_count : (image out : List ℕ) → count_of (compile_bytes image out).0 ≤ length out / 4
unfolding compile_bytes compiled
compile_count image out =
    let h = count_within (admitted (whole_words image) (words_of image)) (words_of out) in
    rw length_words_of at h
