-- Rules for reading a lent image's bytes. Assumes nothing.
use mathlib.Core.Path.{◌≡◌, sym, ◌∙◌}
use mathlib.Core.Bool.{◌&&◌}
use mathlib.Core.List.{List}
use Prim.Native.Nat.{ℕ, ◌/◌, ◌%◌, min}
use native.Mathlib.Omega.{arith}
use lib.Dec.{eqb, leb}
use lib.ListN.{length, take, length-take}
use lib.Seq.{take_all, take-take}
use Rattle.definitions.specs.Bytes.{words_of}
use Rattle.definitions.specs.Host.{whole_words}
use Rattle.laws.specs.WordsOfBytes.{length_words_of}

pub read_all : (image out : List ℕ) (n : ℕ) → take n out ≡ take n (words_of image) → n ≡ min (length image / 4) 16384
    → take n out ≡ take 16384 (words_of image)
read_all image out n e m =
    let size : length (words_of image) ≡ length image / 4 = length_words_of image in
    let most : length (take 16384 (words_of image)) ≡ min 16384 (length (words_of image)) = length-take 16384 (words_of image) in
    e ∙ sym (take-take n 16384 (words_of image) (omega arith)) ∙ take_all n (take 16384 (words_of image)) (omega arith)

pub admitted : (image : List ℕ) → (eqb (length image % 4) 0 && leb (length image / 4) 16384) ≡ (whole_words image && leb (length (words_of image)) 16384)
admitted image = rw (length_words_of image)
