-- An image whose lowest fault has no number breaks no rule at all, and the lowest fault of any other is as P says of each
-- rule's number at every place of the tree. Assumes nothing.
use Rattle.std.specs.Prelude.{◌≡◌, refl, Bool, true, false, List, [], ◌∷◌, eqb}
use Rattle.std.proofs.Common.{arith, eqb-true}
use Rattle.std.proofs.lemmas.Bool.{eqb-false}
use Rattle.definitions.specs.Choice.{pick}
use Rattle.definitions.specs.declared.Fault.{Fault}
use Rattle.definitions.specs.Image.{Image}
use Rattle.definitions.specs.Faults.{no_fault, before, lower, least}
use Rattle.definitions.specs.Sorts.{image_sort_faults}
use Rattle.definitions.specs.Labels.{image_label_faults}
use Rattle.definitions.specs.Checking.{fault_of}
use Rattle.laws.specs.Least.{least_found}
use Rattle.statements.specs.Statements.{here}
use Rattle.laws.specs.Trees.{anywhere_procedures}
use Rattle.laws.specs.Listed.{All, all_none, all_more, all_sort_faults, all_label_faults}

-- ---- the lowest fault of an image

-- the least is as P says of each fault that it is taken from
least_all : {P : Fault → Type 0} (b : Fault) {fs : List Fault} → P b → All P fs → P (least b fs)
unfolding least
least_all b h all_none = h
least_all {P} b h (all_more {f} l x) = least_all (lower b f) (go (before f b)) x
  where
    go : (t : Bool) → P (pick t f b)
    go true = l
    go false = h

pub fault_all : {P : Fault → Type 0} (image : Image) → P no_fault → All P (image_sort_faults image) → All P (image_label_faults image) → P (fault_of image)
unfolding fault_of
fault_all {P} image h x y = go (eqb (least no_fault (image_sort_faults image)).number 0)
  where
    go : (b : Bool) → P (pick b (least no_fault (image_label_faults image)) (least no_fault (image_sort_faults image)))
    go true = least_all no_fault h y
    go false = least_all no_fault h x

-- each fault that is listed has a number, which stands for none where it is 0
abbrev Numbered : Fault → Type 0
Numbered f = f.number ≡ 0 → ⊥

least_none : {fs : List Fault} → All Numbered fs → (least no_fault fs).number ≡ 0 → fs ≡ []
least_none all_none e = refl
least_none (all_more {f} {fs} n x) e = absurd (least_found (f ∷ fs) f here n e)

numbered_sorts : (image : Image) → All Numbered (image_sort_faults image)
numbered_sorts image =
    all_sort_faults (λ p r e. omega arith) (λ p r e. omega arith) (λ p r e. omega arith) image (anywhere_procedures image.procedures)

numbered_labels : (image : Image) → All Numbered (image_label_faults image)
numbered_labels image =
    all_label_faults (λ p r e. omega arith) (λ p r e. omega arith) (λ p r e. omega arith) (λ p r e. omega arith) (λ p r e. omega arith) image
    (anywhere_procedures image.procedures)

pub faultless : (image : Image) → (fault_of image).number ≡ 0 → (image_sort_faults image ≡ []) × (image_label_faults image ≡ [])
unfolding fault_of
faultless image = go (eqb (least no_fault (image_sort_faults image)).number 0) refl
  where
    go : (b : Bool) → eqb (least no_fault (image_sort_faults image)).number 0 ≡ b
        → (pick b (least no_fault (image_label_faults image)) (least no_fault (image_sort_faults image))).number ≡ 0
        → (image_sort_faults image ≡ []) × (image_label_faults image ≡ [])
    go true e h = (least_none (numbered_sorts image) (eqb-true _ 0 e), least_none (numbered_labels image) h)
    go false e h = absurd (eqb-false (least no_fault (image_sort_faults image)).number 0 e h)

-- an image without a fault has none that is lowest
pub no_fault_of : (image : Image) → image_sort_faults image ≡ [] → image_label_faults image ≡ [] → (fault_of image).number ≡ 0
unfolding fault_of least
no_fault_of image s l = rw (s, l)
