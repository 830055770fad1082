-- Checking, compiling and describing: every place that is answered is that of a word of the image, or the image's end, or 0. Assumes nothing.
use Rattle.std.specs.Prelude.{◌≡◌, refl, Bool, true, false, List, ◌++◌, ℕ, ◌≤◌, ◌<◌, leb, eqb, length, drop}
use Rattle.std.proofs.Common.{true≢false, arith}
use Rattle.definitions.specs.Choice.{pick}
use Rattle.definitions.specs.declared.Fault.{Fault}
use Rattle.definitions.specs.declared.Compiled.{Compiled}
use Rattle.definitions.specs.declared.Compiled.TheVariants.{Written, Refused as CompileRefused}
use Rattle.definitions.specs.Image.{Image}
use Rattle.definitions.specs.Reading.{Parse, got, refused}
use Rattle.definitions.specs.Checking.{fault_of, without_fault, admitted, verdict, checked}
use Rattle.definitions.specs.Compiling.{written, compiled_tree, compiled, compiled_image, fits}
use Rattle.definitions.specs.Encoding.{image_words}
use Rattle.definitions.specs.Describing.{description, described_tree, described}
use Rattle.laws.specs.Trees.{ProceduresPlaces}
use Rattle.laws.specs.Listed.{all_sort_faults, all_label_faults}
use Rattle.laws.specs.Faultless.{fault_all}
use Rattle.laws.specs.Reads.{Reads, reads, refuses, ReadRefusal, no_image_lem, wrong_word, ends_early, spare_word, too_deep}
use Rattle.laws.specs.ReadImages.{ImageWords, reads_image}
use Rattle.results.specs.Named.{checked_place, compiled_place}

-- ---- which images are admitted

-- an image of n words that was admitted, or the place of its refusal
pub data Admits (n : ℕ) : Parse Image → Type 0 where
  admits : (tree : Image) (m : ℕ) → ProceduresPlaces (λ p. p < n) tree.procedures → Admits n (got tree m)
  admits_not : (k p : ℕ) → p ≤ n → Admits n (refused k p)

-- a fault at one of n words, or none
abbrev Placed : ℕ → Fault → Type 0
Placed n f = eqb f.number 0 ≡ false → f.place < n

fault_placed : (n : ℕ) (tree : Image) → ProceduresPlaces (λ p. p < n) tree.procedures → Placed n (fault_of tree)
fault_placed n tree r =
    fault_all {P = Placed n} tree (λ e. absurd (true≢false e)) (all_sort_faults (λ p h e. h) (λ p h e. h) (λ p h e. h) tree r)
    (all_label_faults (λ p h e. h) (λ p h e. h) (λ p h e. h) (λ p h e. h) (λ p h e. h) tree r)

read_within : {n k p : ℕ} → ReadRefusal n k p → p ≤ n
read_within no_image_lem = omega arith
read_within (wrong_word h) = omega arith
read_within ends_early = omega arith
read_within (spare_word h) = omega arith
read_within (too_deep h) = omega arith

admits_read : {whole : Bool} {words : List ℕ} {x : Parse Image} → Reads (length words) (ImageWords whole words) x → Admits (length words) (without_fault x)
unfolding without_fault
admits_read {words = words} (reads {a = tree} {m} r) = go (eqb (fault_of tree).number 0) refl
  where
    go : (b : Bool) → eqb (fault_of tree).number 0 ≡ b
        → Admits (length words) (pick b (got tree m) (refused (fault_of tree).number (fault_of tree).place))
    go true e = admits tree m r.places
    go false e = let h = fault_placed (length words) tree r.places e in admits_not (fault_of tree).number (fault_of tree).place (omega arith)
admits_read (refuses r) = admits_not _ _ (read_within r)

pub admits_image : (whole : Bool) (words : List ℕ) → Admits (length words) (admitted whole words)
unfolding admitted
admits_image whole words = admits_read (reads_image whole words)

-- ---- the checker and the compiler

verdict_within : {n : ℕ} {x : Parse Image} → Admits n x → checked_place (verdict x) ≤ n
unfolding verdict
verdict_within (admits tree m h) = omega arith
verdict_within (admits_not k p h) = h

pub checked_within : {n : ℕ} (whole : Bool) (image : List ℕ) → Admits n (admitted whole image) → checked_place (checked whole image) ≤ n
unfolding checked
checked_within whole image a = verdict_within a

-- 14 to 16 have place 0
tree_within : {n : ℕ} {x : Parse Image} (out : List ℕ) → Admits n x → compiled_place (compiled_tree x out).0 ≤ n
unfolding compiled_tree written
tree_within out (admits_not k p h) = h
tree_within {n} out (admits tree m h) = go (eqb tree.form 0) (fits (compiled_image tree)) (leb (length code) (length out))
  where
    code : List ℕ
    code = image_words (compiled_image tree)

    go : (a b c : Bool) → compiled_place (pick {A = Compiled × List ℕ} a
        (pick b (pick c (Written (length code), code ++ drop (length code) out) (CompileRefused 16 0, out)) (CompileRefused 15 0, out))
        (CompileRefused 14 0, out)).0 ≤ n
    go true true true = omega arith
    go true true false = omega arith
    go true false c = omega arith
    go false b c = omega arith

pub compiled_within : {n : ℕ} (whole : Bool) (image out : List ℕ) → Admits n (admitted whole image) → compiled_place (compiled whole image out).0 ≤ n
unfolding compiled
compiled_within whole image out a = tree_within out a

description_within : {n : ℕ} {x : Parse Image} (out : List ℕ) → Admits n x → compiled_place (described_tree x out).0 ≤ n
unfolding described_tree
description_within out (admits_not k p h) = h
description_within {n} out (admits tree m h) = go (leb (length (description tree)) (length out))
  where
    go : (b : Bool) → compiled_place (pick {A = Compiled × List ℕ} b
        (Written (length (description tree)), description tree ++ drop (length (description tree)) out) (CompileRefused 16 0, out)).0 ≤ n
    go true = omega arith
    go false = omega arith

pub described_within : {n : ℕ} (whole : Bool) (image out : List ℕ) → Admits n (admitted whole image) → compiled_place (described whole image out).0 ≤ n
unfolding described
described_within whole image out a = description_within out a
