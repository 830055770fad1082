-- The table that reading an image leaves is what the passes after ask for. Assumes nothing.
use Rattle.std.specs.Prelude.{ℕ, Bool, true, List, ◌≡◌}
use Rattle.std.proofs.Common.{sym, ap, ◌∙◌}
use Rattle.definitions.specs.Image.{Image}
use Rattle.definitions.specs.Reading.{Parse, got, read_image}
use Rattle.definitions.specs.Checking.{fault_of, checked}
use Rattle.definitions.specs.declared.Checked.{Checked}
use Rattle.definitions.specs.declared.Checked.TheVariants.{Accepted}
use Rattle.laws.specs.Parses.{ok_of}
use Rattle.laws.specs.ReadImages.{open_image}
use Rattle.laws.specs.Admitted.{admitted_read, accepted_admitted}
use Rattle.laws.specs.ImageIn.{image_in, image_in_lem}
use Rattle.tables.specs.Table.{table_of, params_in, Known}
use Rattle.reader.specs.Ends.{BlockEnds}
use Rattle.reader.specs.Left.{Tables, TablesLeft}

tables_left : (x : Parse Image) (tree : Image) (n : ℕ) (image table ends : List ℕ) → x ≡ got tree n → TablesLeft x image table ends
    → Tables image tree table ends
unfolding TablesLeft
tables_left x tree n image table ends e t = rw e at t

module _ (whole : Bool) (image : List ℕ) (tree : Image) (n : ℕ) (e : read_image whole image ≡ got tree n) where
  pub whole_read : whole ≡ true
  whole_read = (open_image whole image tree n e).is_whole

  read_true : read_image true image ≡ got tree n
  read_true = ap (λ b. read_image b image) (sym whole_read) ∙ e

  pub known_filled : (table : List ℕ) → table ≡ table_of tree.arrays tree.procedures → Known image table
  known_filled table f =
      record {
        read = ok_of (read_image true image) tree n read_true;
        filled = f ∙ ap (λ (z : Image). table_of z.arrays z.procedures) (sym (image_in_lem image tree n read_true));
      }

  pub read_tree : image_in image ≡ tree
  read_tree = image_in_lem image tree n read_true

  module _ (table ends : List ℕ) (t : TablesLeft (read_image whole image) image table ends) where
    pub known_left : Known image table
    known_left = known_filled table (tables_left (read_image whole image) tree n image table ends e t).filled

    pub ends_left : BlockEnds image (params_in table) ends
    ends_left = (tables_left (read_image whole image) tree n image table ends e t).block_ends

-- what is known of an image that the checker accepted, with the tables that it left
pub record Passed (whole : Bool) (image table ends : List ℕ) : Type 0 where
  pub is_whole : whole ≡ true
  pub known : Known image table
  pub clean : (fault_of (image_in image)).number ≡ 0
  pub block_ends : BlockEnds image (params_in table) ends

pub passes : (whole : Bool) (image table ends : List ℕ) (c : Checked) → c ≡ checked whole image → c ≡ Accepted
    → TablesLeft (read_image whole image) image table ends → Passed whole image table ends
passes whole image table ends c q e t =
    let (tree, n, a) = accepted_admitted whole image (sym q ∙ e) in
    let (r, f) = admitted_read whole image tree n a in
    record {
      is_whole = whole_read whole image tree n r;
      known = known_left whole image tree n r table ends t;
      clean = rw (read_tree whole image tree n r) f;
      block_ends = ends_left whole image tree n r table ends t;
    }
