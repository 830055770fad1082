-- An image that a request can work on is the one that the lent bytes spell; the checker accepts it, and cells enough are lent.
-- Assumes nothing.
use Rattle.std.specs.Prelude.{◌≡◌, refl, Bool, true, false, ◌&&◌, List, ℕ, ◌≤◌, eqb, leb, length}
use Rattle.std.proofs.Common.{arith, eqb-true, leb-true}
use Rattle.definitions.specs.Choice.{pick}
use Rattle.definitions.specs.declared.Checked.TheVariants.{Accepted}
use Rattle.definitions.specs.Bytes.{words_of}
use Rattle.definitions.specs.Image.{cell_count, Image}
use Rattle.definitions.specs.Reading.{Parse, got, refused, read_image}
use Rattle.definitions.specs.Checking.{fault_of, without_fault, admitted, verdict}
use Rattle.definitions.specs.Requests.{ready, unready, with_cells, ready_to_load, ready_to_serve}
use Rattle.definitions.specs.Host.{whole_words}
use Rattle.statements.specs.Statements.{tree_of}

-- what is known of an image that was read, where a request can work on it with m cells lent
pub record Usable (parse : Parse Image) (m : ℕ) (image : Image) : Type 0 where
  pub tree : image ≡ tree_of parse
  pub accepts : verdict (without_fault parse) ≡ Accepted
  pub faultless : (fault_of (tree_of parse)).number ≡ 0
  pub room : cell_count (tree_of parse).arrays ≤ m

unready_ready : {n p : ℕ} {image : Image} → unready n p ≡ ready image → ⊥
unready_ready e = let z : ◌≡◌ {A = ℕ} 0 1 = cc in absurd (omega arith)

usable_tree : (parse : Parse Image) (m : ℕ) (image : Image) → with_cells (without_fault parse) m ≡ ready image → Usable parse m image
unfolding with_cells without_fault tree_of verdict
usable_tree (refused n p) m image e = absurd (unready_ready e)
usable_tree (got tree n) m image e = by_tests (eqb (fault_of tree).number 0) refl (leb (cell_count tree.arrays) m) refl e
  where
    by_tests : (b : Bool) → eqb (fault_of tree).number 0 ≡ b → (c : Bool) → leb (cell_count tree.arrays) m ≡ c
        → with_cells (pick b (got tree n) (refused (fault_of tree).number (fault_of tree).place)) m ≡ ready image
        → Usable (got tree n) m image
    by_tests true p true q f =
        let r : ready tree ≡ ready image = rw q at f in
        record { tree = cc; accepts = rw p; faultless = eqb-true (fault_of tree).number 0 p; room = leb-true (cell_count tree.arrays) m q }
    by_tests true p false q f = absurd (unready_ready (rw q at f))
    by_tests false p c q f = absurd (unready_ready f)

pub usable_load : (bytes : List ℕ) (m : ℕ) (image : Image) → ready_to_load (whole_words bytes) (words_of bytes) m ≡ ready image
    → Usable (read_image (whole_words bytes) (words_of bytes)) m image
unfolding ready_to_load admitted
usable_load bytes m image e = usable_tree (read_image (whole_words bytes) (words_of bytes)) m image e

pub usable_serve : (bytes : List ℕ) (m : ℕ) (image : Image) → ready_to_serve (whole_words bytes) (words_of bytes) m ≡ ready image
    → Usable (read_image (whole_words bytes) (words_of bytes)) m image
unfolding ready_to_serve
usable_serve bytes m image e = by_test (whole_words bytes && eqb (length (words_of bytes)) 0) e
  where
    by_test : (b : Bool) → pick b (unready 20 0) (ready_to_load (whole_words bytes) (words_of bytes) m) ≡ ready image
        → Usable (read_image (whole_words bytes) (words_of bytes)) m image
    by_test true f = absurd (unready_ready f)
    by_test false f = usable_load bytes m image f
