-- Rules for the checker's answer. Assumes nothing.
use Prim.Native.Nat.{ℕ}
use mathlib.Core.Bool.{Bool, true, false}
use mathlib.Core.List.{List}
use mathlib.Core.Path.{◌≡◌, refl, sym, ap, ◌∙◌}
use Rattle.std.specs.Prelude.{Ok, Err, Option, None, Some}
use Rattle.definitions.specs.Choice.{pick}
use Rattle.definitions.specs.Image.{Image}
use Rattle.checker.specs.Found.{some_fault}
use lib.Dec.{eqb}
use Rattle.definitions.specs.declared.Fault.{Fault}
use Rattle.definitions.specs.declared.Checked.{Checked}
use Rattle.definitions.specs.declared.Checked.TheVariants.{Accepted, Refused}
use Rattle.definitions.specs.Reading.{got, refused, read_image}
use Rattle.definitions.specs.Faults.{no_fault, least}
use Rattle.definitions.specs.Sorts.{image_sort_faults}
use Rattle.definitions.specs.Labels.{image_label_faults}
use Rattle.definitions.specs.Checking.{fault_of, without_fault, admitted, verdict, checked}
use Rattle.laws.specs.Parses.{ok}
use Rattle.laws.specs.ImageIn.{image_in, image_read}
use Rattle.tables.specs.Table.{Known}
use Rattle.reader.specs.Answers.{answer}
use Rattle.reader.specs.AnswerLaws.{got_of, refused_of}
use Rattle.reader.specs.Left.{TablesLeft}
use Rattle.checker.specs.Left.{whole_read, known_left}

-- the first of two faults, where there is one
abbrev pub first : Option Fault → Option Fault → Option Fault
first None g = g
first (Some f) g = Some f

pub fault_first : (image : Image)
    → some_fault (fault_of image) ≡ first (some_fault (least no_fault (image_sort_faults image))) (some_fault (least no_fault (image_label_faults image)))
unfolding fault_of
fault_first image = go (least no_fault (image_sort_faults image)) (least no_fault (image_label_faults image))
  where
    go : (s l : Fault) → some_fault (pick (eqb s.number 0) l s) ≡ first (some_fault s) (some_fault l)
    go s l = chosen (eqb s.number 0) refl
      where
        chosen : (b : Bool) → eqb s.number 0 ≡ b → some_fault (pick b l s) ≡ first (pick b None (Some s)) (some_fault l)
        chosen true q = refl
        chosen false q = rw q

-- the verdict by the fault that was found
abbrev pub judged : Option Fault → Checked
judged None = Accepted
judged (Some f) = Refused f.number f.place

pub verdict_judged : (words : List ℕ) → ok (read_image true words) ≡ true → checked true words ≡ judged (some_fault (fault_of (image_in words)))
unfolding checked admitted without_fault verdict
verdict_judged words t = let (n, r) = image_read words t in rw r (go n (fault_of (image_in words)))
  where
    go : (n : ℕ) (f : Fault) → verdict (pick (eqb f.number 0) (got (image_in words) n) (refused f.number f.place)) ≡ judged (some_fault f)
    go n f = chosen (eqb f.number 0)
      where
        chosen : (b : Bool) → verdict (pick b (got (image_in words) n) (refused f.number f.place)) ≡ judged (pick b None (Some f))
        chosen true = refl
        chosen false = refl

module _ (whole : Bool) (words : List ℕ) where
  pub refused_is : (f : Fault) → Err f ≡ answer (read_image whole words) → Refused f.number f.place ≡ checked whole words
  unfolding checked admitted without_fault verdict
  refused_is f e = rw (refused_of (read_image whole words) _ f e refl)

  module _ (next : ℕ) (e : Ok next ≡ answer (read_image whole words)) where
    -- what the passes after reading ask
    pub verdict_asks : (table ends : List ℕ) → TablesLeft (read_image whole words) words table ends → Known words table
    verdict_asks table ends t = let (tree, z) = got_of (read_image whole words) _ next e refl in known_left whole words tree next z table ends t

    pub accepted_is : (a : Checked) → a ≡ checked true words → a ≡ checked whole words
    accepted_is a d =
        let (tree, z) = got_of (read_image whole words) _ next e refl in d ∙ ap (λ b. checked b words) (sym (whole_read whole words tree next z))
