-- What the code's answer says of whether a request can work on a lent image, and what it leaves. Assumes nothing.
use Rattle.std.specs.Prelude.{◌≡◌, refl, List, [], Result, Ok, Err, ℕ, ◌/◌, min, leb, length, take, drop, replicate}
use Rattle.definitions.specs.Choice.{pick}
use Rattle.definitions.specs.Bytes.{words_of}
use Rattle.definitions.specs.Image.{Image, cell_count}
use Rattle.definitions.specs.Reading.{Parse, got, refused, read_image}
use Rattle.definitions.specs.Requests.{ready, unready, Ready as Readiness}
use Rattle.definitions.specs.Host.{whole_words}
use Rattle.tables.specs.Table.{table_of}
use Rattle.reader.specs.Left.{TablesLeft}
use Rattle.definitions.specs.declared.Fault.{Fault}
use Rattle.definitions.specs.Faults.{fault}

-- an accepted image with so many cells, where `count` are lent
unfoldable pub counted_on : ℕ → ℕ → Result ℕ Fault
counted_on cells count = pick (leb cells count) (Ok cells) (Err (fault 17 0))

-- the definition's answer, of an image that is ready the number of its cells
unfoldable pub readied : Readiness → Result ℕ Fault
readied (ready tree) = Ok (cell_count tree.arrays)
readied (unready k p) = Err (fault k p)

pub readied_cells : (x : Readiness) (r : Result ℕ Fault) (n : ℕ) → r ≡ readied x → r ≡ Ok n → (tree : Image) × (x ≡ ready tree) × (n ≡ cell_count tree.arrays)
unfolding readied
readied_cells (ready tree) r n e f = (tree, refl, cc)
readied_cells (unready k p) r n e f = (record { form = 0; arrays = []; procedures = [] }, cc, cc)

pub readied_not : (x : Readiness) (r : Result ℕ Fault) (f : Fault) → r ≡ readied x → r ≡ Err f → x ≡ unready f.number f.place
unfolding readied
readied_not (ready tree) r f e g = cc
readied_not (unready j q) r f e g = let same : fault j q ≡ f = cc in rw (← same) refl

-- the table that reading an image leaves
unfoldable pub table_left : Parse Image → List ℕ
table_left (got tree n) = table_of tree.arrays tree.procedures
table_left (refused k p) = replicate 129 0

-- lent bytes whose words were read to the front of `words`, with the tables that reading leaves
pub record Prepared (r : Result ℕ Fault) (x : Readiness) (image words words' table ends : List ℕ) : Type 0 where
  pub answer : r ≡ readied x
  pub tables : TablesLeft (read_image (whole_words image) (words_of image)) (words_of image) table ends
  pub front : take (min (length image / 4) 16384) words' ≡ take 16384 (words_of image)
  pub behind : drop (min (length image / 4) 16384) words' ≡ drop (min (length image / 4) 16384) words
