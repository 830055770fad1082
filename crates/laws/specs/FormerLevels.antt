-- Document 02, wish 1: "Every image within the new limits keeps its answers." Assumes nothing.
use Rattle.std.specs.Prelude.{◌≡◌, refl, Bool, ◌&&◌, eqb, length, get_or, set, replicate}
use Rattle.std.proofs.Common.{ap, ◌∙◌, arith}
use Rattle.std.proofs.Math.Bool.{true, false}
use mathlib.Core.List.{List, ◌∷◌}
use Prim.Native.Nat.{ℕ, zero, suc, ◌+◌, ◌≤◌, ◌<◌}
use Rattle.std.proofs.Math.Dec.{leb}
use Rattle.definitions.specs.Choice.{pick}
use Rattle.definitions.specs.declared.Checked.TheVariants.{Refused}
use Rattle.definitions.specs.Image.{form_of, arrays_of, procedures_of, header_word, largest_image, largest_level, mode_of, parameters_of}
use Rattle.definitions.specs.Image.{locals_of, procedure_word, type_word, array_word, array_length, Procedure, Image}
use Rattle.definitions.specs.Reading.{Parse, got, refused, and_then, on_word, read_block, read_types, read_arrays, read_procedure}
use Rattle.definitions.specs.Reading.{read_procedures, read_rest, read_image}
use Rattle.definitions.specs.Checking.{without_fault, verdict, admitted, checked}
use Rattle.statements.specs.FormerLimits.{read_procedure_by, read_procedures_by, read_rest_by, read_image_by, former_level}
use Rattle.statements.specs.FormerLimits.{former_read_image, From, from_got, from_refused, Kept, same_part, same_refusal, deeper, SameAnswers}
use Rattle.laws.specs.Admitted.{answers_as}
use Rattle.laws.specs.Deeper.{from_then, from_word, from_block, kept_then, kept_after, kept_word}
use Rattle.laws.specs.Deeper.{kept_block}

-- ---- reading by today's largest levels is reading

by_procedure : (form : ℕ) (params : List ℕ) (me : ℕ) (image : List ℕ) (at : ℕ)
    → read_procedure_by largest_level form params me image at ≡ read_procedure form params me image at
unfolding read_procedure_by read_procedure
by_procedure form params me image at = refl

then_same : {A B : Type 0} (x : Parse A) {f g : A → ℕ → Parse B} → ((a : A) (m : ℕ) → f a m ≡ g a m) → and_then x f ≡ and_then x g
then_same (got a m) k = k a m
then_same (refused j p) k = refl

by_procedures : (n form : ℕ) (params : List ℕ) (me : ℕ) (image : List ℕ) (at : ℕ)
    → read_procedures_by largest_level n form params me image at ≡ read_procedures n form params me image at
unfolding read_procedures_by read_procedures
by_procedures zero form params me image at = refl
by_procedures (suc n) form params me image at =
    ap (λ (x : Parse Procedure). and_then x (λ p m. and_then (read_procedures_by largest_level n form (set params me p.parameters) (me + 1) image m) (λ ps o. got (p ∷ ps) o)))
    (by_procedure form params me image at)
    ∙ then_same (read_procedure form params me image at)
    (λ p m. ap (λ (x : Parse (List Procedure)). and_then x (λ ps o. got (p ∷ ps) o)) (by_procedures n form (set params me p.parameters) (me + 1) image m))

-- an image of these arrays and procedures, where it ends with them
abbrev to_the_end : ℕ → List ℕ → List ℕ → List Procedure → ℕ → Parse Image
to_the_end header image ws ps m = pick (eqb m (length image)) (got (record { form = form_of header; arrays = ws; procedures = ps }) m) (refused 4 m)

by_rest : (header : ℕ) (image : List ℕ) → read_rest_by largest_level header image ≡ read_rest header image
unfolding read_rest_by read_rest
by_rest header image =
    then_same (read_arrays (arrays_of header) 0 image 1)
    (λ ws n. ap (λ (x : Parse (List Procedure)). and_then x (to_the_end header image ws))
    (by_procedures (procedures_of header) (form_of header) (replicate 32 0) 0 image n))

pub by_image : (whole : Bool) (image : List ℕ) → read_image_by largest_level whole image ≡ read_image whole image
unfolding read_image_by read_image
by_image whole image = rw (by_rest (get_or image 0 0) image) refl

-- ---- more levels

from_types : (image : List ℕ) (m : ℕ) → m ≤ length image → (n at : ℕ) → m ≤ at → From m (read_types n image at)
unfolding read_types
from_types image m w zero at h = from_got h
from_types image m w (suc n) at h =
    from_word image at type_word (λ t. and_then (read_types n image (at + 1)) (λ ts o. got (t ∷ ts) o)) h w
    (λ g. from_then (from_types image m w n (at + 1) (omega arith)) (λ ts o q. from_got q))

-- parts without levels

kept_types : (image : List ℕ) (n at : ℕ) → Kept image (read_types n image at) (read_types n image at)
unfolding read_types
kept_types image zero at = same_part
kept_types image (suc n) at =
    kept_word image at type_word (λ t. and_then (read_types n image (at + 1)) (λ ts o. got (t ∷ ts) o))
    (λ t. and_then (read_types n image (at + 1)) (λ ts o. got (t ∷ ts) o))
    (λ i g. kept_after (kept_types image n (at + 1)) (λ ts o. same_part))

kept_arrays : (image : List ℕ) (n cells at : ℕ) → Kept image (read_arrays n cells image at) (read_arrays n cells image at)
unfolding read_arrays
kept_arrays image zero cells at = same_part
kept_arrays image (suc n) cells at =
    kept_word image at (λ w. array_word cells w) (λ w. and_then (read_arrays n (cells + array_length w) image (at + 1)) (λ ws o. got (w ∷ ws) o))
    (λ w. and_then (read_arrays n (cells + array_length w) image (at + 1)) (λ ws o. got (w ∷ ws) o))
    (λ i g. kept_after (kept_arrays image n (cells + array_length (get_or image at 0)) (at + 1)) (λ ws o. same_part))

-- what stands after a procedure's result type
abbrev types_and_body : (ℕ → ℕ) → ℕ → List ℕ → ℕ → List ℕ → ℕ → ℕ → ℕ → Parse Procedure
types_and_body largest form params me image at w r =
    and_then (read_types (parameters_of w + locals_of w) image (at + 1 + 1))
    (λ ts n. and_then (read_block (largest form) params me image n)
    (λ b m. got (record { place = at; mode = mode_of w; parameters = parameters_of w; result = r; types = ts; body = b }) m))

module _ (less more : ℕ → ℕ) (grows : (form : ℕ) → less form < more form) (image : List ℕ) where
  from_procedure : (m : ℕ) → m ≤ length image → (form : ℕ) (params : List ℕ) (me at : ℕ) → m ≤ at
      → From m (read_procedure_by more form params me image at)
  unfolding read_procedure_by
  from_procedure m w form params me at h =
      from_word image at (λ x. procedure_word form x) (λ x. on_word image (at + 1) type_word (λ r. types_and_body more form params me image at x r)) h w
      (λ g. from_word image (at + 1) type_word (λ r. types_and_body more form params me image at (get_or image at 0) r) (omega arith) w
      (λ r. from_then (from_types image m w (parameters_of (get_or image at 0) + locals_of (get_or image at 0)) (at + 1 + 1) (omega arith))
      (λ ts n q. from_then (from_block image m w params me (more form) n q) (λ b o s. from_got s))))

  from_procedures : (m : ℕ) → m ≤ length image → (n form : ℕ) (params : List ℕ) (me at : ℕ) → m ≤ at
      → From m (read_procedures_by more n form params me image at)
  unfolding read_procedures_by
  from_procedures m w zero form params me at h = from_got h
  from_procedures m w (suc n) form params me at h =
      from_then (from_procedure m w form params me at h)
      (λ p o q. from_then (from_procedures m w n form (set params me p.parameters) (me + 1) o q) (λ ps z r. from_got r))

  kept_procedure : (form : ℕ) (params : List ℕ) (me at : ℕ) → Kept image (read_procedure_by less form params me image at) (read_procedure_by more form params me image at)
  unfolding read_procedure_by
  kept_procedure form params me at =
      kept_word image at (λ x. procedure_word form x) (λ x. on_word image (at + 1) type_word (λ r. types_and_body less form params me image at x r))
      (λ x. on_word image (at + 1) type_word (λ r. types_and_body more form params me image at x r))
      (λ i g. kept_word image (at + 1) type_word (λ r. types_and_body less form params me image at (get_or image at 0) r)
      (λ r. types_and_body more form params me image at (get_or image at 0) r)
      (λ j r. kept_after (kept_types image (parameters_of (get_or image at 0) + locals_of (get_or image at 0)) (at + 1 + 1))
      (λ ts n. kept_then (kept_block image params me (less form) (more form) (grows form) n) (λ b o. same_part) (λ m w b o q. from_got q))))

  kept_procedures : (n form : ℕ) (params : List ℕ) (me at : ℕ)
      → Kept image (read_procedures_by less n form params me image at) (read_procedures_by more n form params me image at)
  unfolding read_procedures_by
  kept_procedures zero form params me at = same_part
  kept_procedures (suc n) form params me at =
      kept_then (kept_procedure form params me at)
      (λ p o. kept_then (kept_procedures n form (set params me p.parameters) (me + 1) o) (λ ps z. same_part) (λ m w ps z q. from_got q))
      (λ m w p o q. from_then (from_procedures m w n form (set params me p.parameters) (me + 1) o q) (λ ps z r. from_got r))

  kept_rest : (header : ℕ) → Kept image (read_rest_by less header image) (read_rest_by more header image)
  unfolding read_rest_by
  kept_rest header =
      kept_after (kept_arrays image (arrays_of header) 0 1)
      (λ ws n. kept_then (kept_procedures (procedures_of header) (form_of header) (replicate 32 0) 0 n) (λ ps o. ended ws ps o) (λ m w ps o q. last ws ps m o q))
    where
      ended : (ws : List ℕ) (ps : List Procedure) (o : ℕ) → Kept image (to_the_end header image ws ps o) (to_the_end header image ws ps o)
      ended ws ps o = go (eqb o (length image))
        where
          tree : Image
          tree = record { form = form_of header; arrays = ws; procedures = ps }

          go : (b : Bool) → Kept image {A = Image} (pick b (got tree o) (refused 4 o)) (pick b (got tree o) (refused 4 o))
          go true = same_part
          go false = same_refusal {k = 4} (omega arith)

      last : (ws : List ℕ) (ps : List Procedure) (m o : ℕ) → m ≤ o → From m (to_the_end header image ws ps o)
      last ws ps m o h = go (eqb o (length image))
        where
          go : (b : Bool) → From m {A = Image} (pick b (got (record { form = form_of header; arrays = ws; procedures = ps }) o) (refused 4 o))
          go true = from_got h
          go false = from_refused h

  pub kept_image : (whole : Bool) → Kept image (read_image_by less whole image) (read_image_by more whole image)
  unfolding read_image_by
  kept_image whole =
      go (eqb (length image) 0) (header_word (get_or image 0 0)) (whole && leb (length image) (largest_image (form_of (get_or image 0 0))))
    where
      go : (a b c : Bool)
          → Kept image (pick a (refused 1 0) (pick b (pick c (read_rest_by less (get_or image 0 0) image) (refused 1 0)) (refused 2 0)))
          (pick a (refused 1 0) (pick b (pick c (read_rest_by more (get_or image 0 0) image) (refused 1 0)) (refused 2 0)))
      go true b c = same_refusal {k = 1} (omega arith)
      go false true true = kept_rest (get_or image 0 0)
      go false true false = same_refusal {k = 1} (omega arith)
      go false false c = same_refusal {k = 2} (omega arith)

-- reading by more levels than today's
pub with_more : (more : ℕ → ℕ) → ((form : ℕ) → largest_level form < more form) → (whole : Bool) (image : List ℕ)
    → Kept image (read_image whole image) (read_image_by more whole image)
with_more more grows whole image = rw (by_image whole image) at (kept_image largest_level more grows image whole)

fewer_levels : (form : ℕ) → largest_level form < former_level form
fewer_levels form = go (eqb form 0)
  where
    go : (b : Bool) → pick b (largest_level 0) (largest_level 1) < pick b (former_level 0) (former_level 1)
    go true = omega arith
    go false = omega arith

pub limits_keep_answers : (whole : Bool) (image : List ℕ) → Kept image (read_image whole image) (former_read_image whole image)
limits_keep_answers = with_more former_level fewer_levels

-- 5 stands at a word that is one level too deep: with one level more, reading goes on behind it
pub one_level_more : (whole : Bool) (image : List ℕ) (p : ℕ) → read_image whole image ≡ refused 5 p
    → From (suc p) (read_image_by (λ form. largest_level form + 1) whole image)
one_level_more whole image p e = onward (rw e at (with_more (λ form. largest_level form + 1) (λ form. omega arith) whole image))
  where
    onward : {y : Parse Image} → Kept image (refused 5 p) y → From (suc p) y
    onward (same_refusal h) = absurd (omega arith)
    onward (deeper h f) = f

-- an image that is not refused with 5 was read as it is read
same_reading : {image : List ℕ} {x y : Parse Image} → Kept image x y → ((p : ℕ) → x ≡ refused 5 p → ⊥) → x ≡ y
same_reading same_part h = refl
same_reading (same_refusal k) h = refl
same_reading (deeper {p} i f) h = absurd (h p refl)

-- reading is all that an answer takes from the limits
answers_from : (whole : Bool) (image : List ℕ) → read_image whole image ≡ former_read_image whole image → SameAnswers whole image
unfolding admitted
answers_from whole image e = answers_as whole image (without_fault (former_read_image whole image)) (ap without_fault e)

pub same_answers : (whole : Bool) (image : List ℕ) → ((p : ℕ) → checked whole image ≡ Refused 5 p → ⊥) → SameAnswers whole image
unfolding checked admitted without_fault verdict
same_answers whole image h =
    answers_from whole image
    (same_reading (limits_keep_answers whole image) (λ p r. h p (ap (λ (x : Parse Image). verdict (without_fault x)) r)))

-- an image that is read keeps its answers
pub read_keeps : (whole : Bool) (image : List ℕ) (tree : Image) (n : ℕ) → read_image whole image ≡ got tree n → SameAnswers whole image
read_keeps whole image tree n e = answers_from whole image (e ∙ go (rw e at (limits_keep_answers whole image)))
  where
    go : {y : Parse Image} → Kept image (got tree n) y → got tree n ≡ y
    go same_part = refl
