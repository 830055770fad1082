-- How many words the description of an image has: 4, and 2 for each array and 12 for each procedure; at most 420. Assumes nothing.
use Rattle.std.specs.Prelude.{ℕ, zero, suc, ◌+◌, ◌*◌, ◌≤◌, Bool, ◌≡◌, refl, length}
use mathlib.Core.List.{List, [], ◌∷◌, flat_map}
use Rattle.std.proofs.Common.{ap, arith, length-append}
use Rattle.definitions.specs.Image.{Procedure, Image}
use Rattle.definitions.specs.Reading.{got}
use Rattle.definitions.specs.Checking.{admitted}
use Rattle.definitions.specs.Describing.{array_fields, parameter_types, procedure_fields, description}
use Rattle.laws.specs.Admitted.{admitted_read}
use Rattle.laws.specs.ReadImages.{ImageWords, open_image}
use Rattle.laws.specs.ImageIn.{arrays_limit, procedures_limit}

types_length : (p : Procedure) (n k : ℕ) → length (parameter_types p n k) ≡ n
unfolding parameter_types
types_length p zero k = refl
types_length p (suc n) k = ap suc (types_length p n (k + 1))

fields_length : (p : Procedure) → length (procedure_fields p) ≡ 12
unfolding procedure_fields
fields_length p = ap (λ (n : ℕ). suc (suc (suc n))) (types_length p 9 0)

-- lists of one length, one after the other
flat_length : {A : Type 0} (F : A → List ℕ) (n : ℕ) → ((a : A) → length (F a) ≡ n) → (l : List A) → length (flat_map F l) ≡ n * length l
unfolding flat_map
flat_length F n each [] = omega arith
flat_length F n each (a ∷ l) =
    let e = each a in
    let more = flat_length F n each l in
    let both = length-append (F a) (flat_map F l) in
    omega arith

pub description_length : (image : Image) → length (description image) ≡ 4 + 2 * length image.arrays + 12 * length image.procedures
unfolding description
description_length image =
    let a = flat_length array_fields 2 (λ w. refl) image.arrays in
    let p = flat_length procedure_fields 12 fields_length image.procedures in
    let both = length-append (flat_map array_fields image.arrays) (flat_map procedure_fields image.procedures) in
    omega arith

-- an image that is admitted has at most 16 arrays and 32 procedures
pub description_short : (whole : Bool) (words : List ℕ) (tree : Image) (n : ℕ) → admitted whole words ≡ got tree n → length (description tree) ≤ 420
description_short whole words tree n e =
    let w : ImageWords whole words tree n = open_image whole words tree n (admitted_read whole words tree n e).0 in
    let a = arrays_limit w in
    let b = w.arrays.words.count in
    let p = procedures_limit w in
    let q = w.count in
    let l = description_length tree in
    omega arith
