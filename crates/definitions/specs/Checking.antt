-- Document 01: which images are admitted, and the checker's answer: reading, then 6 to 8, then 9 to 13, by least fault.
use Rattle.std.specs.Prelude.{Bool, List, ℕ, eqb}
use Rattle.definitions.specs.Choice.{pick}
use Rattle.definitions.specs.declared.Fault.{Fault}
use Rattle.definitions.specs.declared.Checked.{Checked}
use Rattle.definitions.specs.declared.Checked.TheVariants.{Accepted, Refused}
use Rattle.definitions.specs.Image.{Image}
use Rattle.definitions.specs.Reading.{Parse, got, refused, read_image}
use Rattle.definitions.specs.Faults.{no_fault, least}
use Rattle.definitions.specs.Sorts.{image_sort_faults}
use Rattle.definitions.specs.Labels.{image_label_faults}

-- the lowest fault of an image that was read: of 6 to 8, and where there is none of 9 to 13
unfoldable pub fault_of : Image → Fault
fault_of image = pick (eqb (least no_fault (image_sort_faults image)).number 0)
    (least no_fault (image_label_faults image)) (least no_fault (image_sort_faults image))

-- what was read, where it has no fault; else the refusal by its lowest fault
unfoldable pub without_fault : Parse Image → Parse Image
without_fault (refused n p) = refused n p
without_fault (got image n) =
    pick (eqb (fault_of image).number 0) (got image n) (refused (fault_of image).number (fault_of image).place)

-- The image that words spell, where the rules admit it; else document 01's number and place.
unfoldable pub admitted : Bool → List ℕ → Parse Image
admitted whole words = without_fault (read_image whole words)

unfoldable pub verdict : Parse Image → Checked
verdict (got image n) = Accepted
verdict (refused n p) = Refused n p

-- The checker's answer.
unfoldable pub checked : Bool → List ℕ → Checked
checked whole words = verdict (admitted whole words)
