-- What is known of an image that is ready: its table, and its cells among those that are lent. Assumes nothing.
use mathlib.Core.Path.{◌≡◌, ap, ◌∙◌}
use mathlib.Core.List.{List}
use Prim.Native.Nat.{ℕ, ◌*◌, ◌/◌, ◌≤◌}
use native.Mathlib.Omega.{arith}
use lib.ListN.{length}
use Rattle.definitions.specs.Bytes.{words_of}
use Rattle.definitions.specs.Image.{Image, cell_count}
use Rattle.definitions.specs.Reading.{got, read_image}
use Rattle.definitions.specs.Requests.{ready, ready_to_load, ready_to_serve, Ready as Readiness}
use Rattle.definitions.specs.Host.{whole_words}
use Rattle.laws.specs.ImageIn.{image_in}
use Rattle.laws.specs.WordsOfBytes.{length_words_of}
use Rattle.tables.specs.Table.{arrays_in, Known}
use Rattle.tables.specs.Looking.{known_arrays, few_cells}
use Rattle.requests.specs.Cells.{Fits, known_fits}
use Rattle.laws.specs.Ready.{ready_read, serve_read}
use Rattle.checker.specs.Left.{known_filled, read_tree}
use Rattle.std.proofs.Common.{Result, Ok}
use Rattle.definitions.specs.declared.Fault.{Fault}
use Rattle.ready.specs.Prepared.{readied, readied_cells, table_left}

-- `x` is the definition's answer for the number of lent cells, `own` the number of the image's own
pub record Own (image cells table : List ℕ) (x : ℕ → Readiness) (own : ℕ) : Type 0 where
  pub tree : Image
  pub end : ℕ
  pub read : read_image (whole_words image) (words_of image) ≡ got tree end
  pub is_ready : x (length (words_of cells)) ≡ ready tree
  pub all : own ≡ cell_count tree.arrays
  pub enough : 4 * own ≤ length cells
  pub few : own ≤ 1024
  pub known : Known (words_of image) table
  pub spelled : image_in (words_of image) ≡ tree
  pub fits : Fits table own
  pub arrays : arrays_in table ≡ tree.arrays

module _ (image cells table : List ℕ) (x : ℕ → Readiness) (own : ℕ) where
  owns : (tree : Image) (n : ℕ) → read_image (whole_words image) (words_of image) ≡ got tree n → cell_count tree.arrays ≤ length cells / 4
      → own ≡ cell_count tree.arrays → x (length cells / 4) ≡ ready tree → Known (words_of image) table → Own image cells table x own
  owns tree n read enough all e known =
      let same = read_tree (whole_words image) (words_of image) tree n read in
      record {
        tree = tree;
        end = n;
        read = read;
        is_ready = ap x (length_words_of cells) ∙ e;
        all = all;
        enough = omega (arith, all, enough);
        few = (let l : cell_count tree.arrays ≤ 1024 = rw same at (few_cells (words_of image) table known) in omega (arith, all));
        known = known;
        spelled = same;
        fits = known_fits (words_of image) table own known (rw same all);
        arrays = known_arrays (words_of image) table known ∙ ap (λ (i : Image). i.arrays) same;
      }

  with_table : (tree : Image) (n : ℕ) → read_image (whole_words image) (words_of image) ≡ got tree n
      → table ≡ table_left (read_image (whole_words image) (words_of image)) → Known (words_of image) table
  unfolding table_left
  with_table tree n read t = known_filled (whole_words image) (words_of image) tree n read table (rw read at t)

module _ (image cells table : List ℕ) (r : Result ℕ Fault) (own : ℕ) (f : r ≡ Ok own) where
  pub load_own : r ≡ readied (ready_to_load (whole_words image) (words_of image) (length cells / 4))
      → table ≡ table_left (read_image (whole_words image) (words_of image)) → Own image cells table (ready_to_load (whole_words image) (words_of image)) own
  load_own e t =
      let (tree, q, c) = readied_cells (ready_to_load (whole_words image) (words_of image) (length cells / 4)) r own e f in
      let (n, read, enough) = ready_read (whole_words image) (words_of image) (length cells / 4) tree q in
      owns image cells table (ready_to_load (whole_words image) (words_of image)) own tree n read enough c q
      (with_table image cells table (ready_to_load (whole_words image) (words_of image)) own tree n read t)

  pub serve_own : r ≡ readied (ready_to_serve (whole_words image) (words_of image) (length cells / 4))
      → table ≡ table_left (read_image (whole_words image) (words_of image)) → Own image cells table (ready_to_serve (whole_words image) (words_of image)) own
  serve_own e t =
      let (tree, q, c) = readied_cells (ready_to_serve (whole_words image) (words_of image) (length cells / 4)) r own e f in
      let (n, read, enough) = serve_read (whole_words image) (words_of image) (length cells / 4) tree q in
      owns image cells table (ready_to_serve (whole_words image) (words_of image)) own tree n read enough c q
      (with_table image cells table (ready_to_serve (whole_words image) (words_of image)) own tree n read t)
