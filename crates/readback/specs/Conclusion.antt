-- The words that the compiler writes for an accepted source are accepted, and are read as the compiled tree up to places.
-- Assumes nothing.
use Rattle.std.specs.Prelude.{ℕ, ◌≤◌, Bool, true, ◌≡◌, eqb, length, replicate}
use Rattle.std.proofs.Math.Bool.{false}
use mathlib.Core.List.{List, [], flat_map}
use Rattle.std.proofs.Math.Path.{refl, sym}
use Rattle.std.proofs.Common.{ap, ◌∙◌, eq-eqb}
use Rattle.definitions.specs.Choice.{pick}
use Rattle.definitions.specs.declared.Checked.TheVariants.{Accepted}
use Rattle.definitions.specs.Image.{Block, Procedure, Image, guarded}
use Rattle.definitions.specs.Reading.{Parse, got, read_image}
use Rattle.definitions.specs.Sorts.{ordinary, mark_block, block_sort_faults, procedure_sort_faults, procedures_sort_faults}
use Rattle.definitions.specs.Sorts.{image_sort_faults}
use Rattle.definitions.specs.Labels.{unbounded, block_label_faults, procedure_label_faults, procedures_label_faults}
use Rattle.definitions.specs.Labels.{image_label_faults}
use Rattle.definitions.specs.Checking.{fault_of, without_fault, verdict, checked, admitted}
use Rattle.definitions.specs.Encoding.{image_words}
use Rattle.definitions.specs.Compiling.{compiled_image, fits}
use Rattle.laws.specs.Tests.{nil_both}
use Rattle.laws.specs.Faultless.{faultless, no_fault_of}
use Rattle.laws.specs.Fitting.{locals_fit, words_fit}
use Rattle.laws.specs.ReadImages.{open_image}
use Rattle.readback.specs.Like.{LikeBlock, LikeProcedure, LikeProcedures, like_empty, like_next, LikeImage}
use Rattle.readback.specs.Parses.{Reads, reads, reads_map}
use Rattle.readback.specs.Back.{back_image}
use Rattle.readback.specs.Good.{GoodBlock}
use Rattle.readback.specs.Accepted.{like_marks, good_block_sorts, good_block_labels}
use Rattle.readback.specs.Whole.{GoodProcedure, GoodProcedures, good_empty, good_next, Sound, image_good}
use Rattle.readback.specs.Whole.{image_compiled_fits}

-- A source that was read and has no fault is sound.
pub accepted_source : (whole : Bool) (words : List ℕ) (image : Image) (n : ℕ) → read_image whole words ≡ got image n → image.form ≡ 0 → (fault_of image).number ≡ 0 → Sound image
accepted_source whole words image n e f h =
    let z = faultless image h in record { read = (open_image whole words image n e).fits; source_form = f; no_sort_fault = z.0; no_label_fault = z.1 }

-- A procedure that is like a good one has no fault.
module _ (ps qs : List Procedure) (same : LikeProcedures ps qs) (arrays : List ℕ) where
  like_block_sorts :
      (me parameters : ℕ) (types : List ℕ) (result : ℕ) (b c : Block) → GoodBlock ps me parameters types result arrays (mark_block b (replicate 256 ordinary)) b → LikeBlock b c
      → block_sort_faults qs parameters types result (length arrays) (mark_block c (replicate 256 ordinary)) c ≡ []
  like_block_sorts me parameters types result b c g l = rw (like_marks l (replicate 256 ordinary)) (good_block_sorts ps qs same me parameters types result arrays g l)

  like_procedure_sorts : (me : ℕ) (p q : Procedure) → GoodProcedure ps arrays me p → LikeProcedure p q → procedure_sort_faults qs (length arrays) q ≡ []
  unfolding procedure_sort_faults
  like_procedure_sorts me p q g l = go q.parameters l.parameters q.types l.types q.result l.results
    where
      go : (n : ℕ) → p.parameters ≡ n → (types : List ℕ) → p.types ≡ types → (result : ℕ) → p.result ≡ result
          → block_sort_faults qs n types result (length arrays) (mark_block q.body (replicate 256 ordinary)) q.body ≡ []
      go n e types e' result e'' = rw (sym e, sym e', sym e'') (like_block_sorts me p.parameters p.types p.result p.body q.body g l.bodies)

  like_procedure_labels :
      (me : ℕ) (p q : Procedure) → p.mode ≡ 0 → GoodProcedure ps arrays me p → LikeProcedure p q
      → block_label_faults 1 qs arrays q.types q.result (replicate 256 unbounded) (guarded q) false q.body ≡ []
  like_procedure_labels me p q m g l = go q.types l.types q.result l.results q.mode (sym l.modes ∙ m)
    where
      go : (types : List ℕ) → p.types ≡ types → (result : ℕ) → p.result ≡ result → (mode : ℕ) → mode ≡ 0
          → block_label_faults 1 qs arrays types result (replicate 256 unbounded) (eqb mode 1) false q.body ≡ []
      go types e result e' mode e'' = rw (sym e, sym e', e'') (good_block_labels ps qs same me p.parameters p.types p.result arrays g l.bodies (replicate 256 unbounded))

  like_procedures_sorts : {me : ℕ} {rest rest' : List Procedure} → GoodProcedures ps arrays me rest → LikeProcedures rest rest' → procedures_sort_faults qs (length arrays) rest' ≡ []
  unfolding procedures_sort_faults flat_map
  like_procedures_sorts good_empty like_empty = refl
  like_procedures_sorts (good_next {me} {p} m g gs) (like_next {q = q} l ls) =
      nil_both (procedure_sort_faults qs (length arrays) q) _ (like_procedure_sorts me p q g l) (like_procedures_sorts gs ls)

  like_procedures_labels :
      (image : Image) → image.form ≡ 1 → image.procedures ≡ qs → image.arrays ≡ arrays → {me : ℕ} {rest rest' : List Procedure} → GoodProcedures ps arrays me rest → LikeProcedures rest rest'
      → procedures_label_faults image rest' ≡ []
  unfolding procedures_label_faults flat_map procedure_label_faults
  like_procedures_labels image f e a good_empty like_empty = refl
  like_procedures_labels image f e a (good_next {me} {p} m g gs) (like_next {q = q} l ls) =
      nil_both (procedure_label_faults image q) _ (go image.form f image.procedures e image.arrays a) (like_procedures_labels image f e a gs ls)
    where
      go : (form : ℕ) → form ≡ 1 → (rs : List Procedure) → rs ≡ qs → (bs : List ℕ) → bs ≡ arrays
          → block_label_faults form rs bs q.types q.result (replicate 256 unbounded) (guarded q) false q.body ≡ []
      go form f rs e bs a = rw (f, e, a) (like_procedure_labels me p q m g l)

-- An image that is like the compiled one has no fault.
pub like_compiled_faultless : (image : Image) → Sound image → (j : Image) → LikeImage (compiled_image image) j → (fault_of j).number ≡ 0
unfolding compiled_image image_sort_faults image_label_faults
like_compiled_faultless image s j l = no_fault_of j sorts labels
  where
    sorts : image_sort_faults j ≡ []
    sorts = rw (sym l.arrays) (like_procedures_sorts (compiled_image image).procedures j.procedures l.procedures image.arrays (image_good image s) l.procedures)

    labels : image_label_faults j ≡ []
    labels = like_procedures_labels (compiled_image image).procedures j.procedures l.procedures image.arrays j (sym l.forms) refl (sym l.arrays)
        (image_good image s) l.procedures

compiled_form : (image : Image) → ◌≡◌ {A = ℕ} (compiled_image image).form 1
unfolding compiled_image
compiled_form image = refl

-- The compiled words are read back: the tree is the compiled one up to places, over the same arrays.
pub compiled_reads :
    (image : Image) → Sound image → fits (compiled_image image) ≡ true
    → Reads (LikeImage (compiled_image image)) (length (image_words (compiled_image image))) (read_image true (image_words (compiled_image image)))
compiled_reads image s h =
    back_image (compiled_image image)
    (image_compiled_fits image s (locals_fit (compiled_image image) h))
    (few (compiled_image image).form (length (image_words (compiled_image image))) (compiled_form image) (words_fit (compiled_image image) h))
  where
    few : (form n : ℕ) → form ≡ 1 → n ≤ 16384 → n ≤ pick (eqb form 0) 4096 16384
    few form n e k = rw e k

read_accepted : {n : ℕ} {x : Parse Image} → Reads (λ j. (fault_of j).number ≡ 0) n x → verdict (without_fault x) ≡ Accepted
unfolding verdict without_fault
read_accepted (reads {a = j} e h) = rw (eq-eqb (fault_of j).number 0 h)

-- The checker accepts them.
pub compiled_accepted : (image : Image) → Sound image → fits (compiled_image image) ≡ true → checked true (image_words (compiled_image image)) ≡ Accepted
unfolding checked admitted
compiled_accepted image s h = read_accepted (reads_map (compiled_reads image s h) (λ j l. like_compiled_faultless image s j l))

-- What the compiled words are read as: the tree and what holds of it.
pub record ReadBack (image : Image) : Type 0 where
  -- the tree
  pub tree : Image
  -- it is what the reader gives, up to the last word
  pub reading : read_image true (image_words (compiled_image image)) ≡ got tree (length (image_words (compiled_image image)))
  -- it is the compiled tree up to places
  pub like : LikeImage (compiled_image image) tree
  -- so it is in form 1, over the source's arrays
  pub in_form : tree.form ≡ 1
  pub same_arrays : tree.arrays ≡ image.arrays
  -- and has no fault
  pub faultless : (fault_of tree).number ≡ 0

made :
    (image : Image) → Sound image → {x : Parse Image} → Reads (LikeImage (compiled_image image)) (length (image_words (compiled_image image))) x
    → read_image true (image_words (compiled_image image)) ≡ x → ReadBack image
unfolding compiled_image
made image s (reads {a = j} {n} e l) r =
    record {
      tree = j;
      reading = r ∙ ap (got j) e;
      like = l;
      in_form = sym l.forms;
      same_arrays = sym l.arrays;
      faultless = like_compiled_faultless image s j l;
    }

pub read_back : (image : Image) → Sound image → fits (compiled_image image) ≡ true → ReadBack image
read_back image s h = made image s (compiled_reads image s h) refl
