-- Whether a request can work on an image, by the checker's answer. Assumes nothing.
use Rattle.std.specs.Prelude.{◌≡◌, Bool, ◌&&◌, List, ℕ, ◌≤◌, length}
use Rattle.std.proofs.Math.Path.{refl, sym}
use Rattle.std.proofs.Math.Bool.{true, false}
use Rattle.std.proofs.Common.{arith}
use borrow.Author.Tests.{le-leb, leb-true}
use Rattle.std.proofs.Math.Dec.{leb, eqb}
use Rattle.definitions.specs.Choice.{pick}
use Rattle.definitions.specs.Image.{Image, cell_count}
use Rattle.definitions.specs.Reading.{Parse, got, refused, read_image}
use Rattle.definitions.specs.Checking.{admitted, verdict, checked}
use Rattle.definitions.specs.Requests.{ready, unready, with_cells, ready_to_load, ready_to_serve}
use Rattle.definitions.specs.declared.Checked.TheVariants.{Accepted, Refused}
use Rattle.laws.specs.Parses.{got_same}
use Rattle.laws.specs.Admitted.{admitted_read, accepted_admitted}

not_ready : (tree : Image) (k p : ℕ) → ready tree ≡ unready k p → ⊥
not_ready tree k p e = let z : ◌≡◌ {A = ℕ} 0 1 = cc in absurd (omega arith)

module _ (whole : Bool) (words : List ℕ) (count : ℕ) where
  -- a refused image is refused alike by every request
  pub ready_refused : (n p : ℕ) → checked whole words ≡ Refused n p → ready_to_load whole words count ≡ unready n p
  unfolding checked verdict ready_to_load with_cells
  ready_refused n p = go (admitted whole words)
    where
      go : (x : Parse Image) → verdict x ≡ Refused n p → with_cells x count ≡ unready n p
      go (refused k q) e = cc
      go (got image m) e = cc

  -- an accepted image was read, and is ready where enough cells are lent
  pub ready_accepted : (image : Image) (n : ℕ) → read_image whole words ≡ got image n → checked whole words ≡ Accepted
      → ready_to_load whole words count ≡ pick (leb (cell_count image.arrays) count) (ready image) (unready 17 0)
  unfolding ready_to_load with_cells
  ready_accepted image n r e =
      let (tree, m, a) = accepted_admitted whole words e in
      let same : tree ≡ image = (got_same (read_image whole words) tree image m n (admitted_read whole words tree m a).0 r).0 in
      rw (a, same)

  -- and what is ready was read, with its cells among those that are lent
  pub ready_read : (tree : Image) → ready_to_load whole words count ≡ ready tree → (n : ℕ) × (read_image whole words ≡ got tree n) × (cell_count tree.arrays ≤ count)
  unfolding ready_to_load with_cells
  ready_read tree e = go (admitted whole words) refl e
    where
      counted : (image : Image) (b : Bool) → leb (cell_count image.arrays) count ≡ b → pick b (ready image) (unready 17 0) ≡ ready tree
          → (image ≡ tree) × (cell_count image.arrays ≤ count)
      counted image true l q = (cc, leb-true (cell_count image.arrays) count l)
      counted image false l q = absurd (let z : ready tree ≡ unready 17 0 = sym q in not_ready tree 17 0 z)

      go : (x : Parse Image) → admitted whole words ≡ x → with_cells x count ≡ ready tree
          → (n : ℕ) × (read_image whole words ≡ got tree n) × (cell_count tree.arrays ≤ count)
      go (refused k p) a q = absurd (not_ready tree k p (sym q))
      go (got image n) a q =
          let (same, enough) = counted image (leb (cell_count image.arrays) count) refl q in
          (n, rw (← same) (admitted_read whole words image n a).0, rw (← same) enough)

  pub serve_read : (tree : Image) → ready_to_serve whole words count ≡ ready tree → (n : ℕ) × (read_image whole words ≡ got tree n) × (cell_count tree.arrays ≤ count)
  unfolding ready_to_serve
  serve_read tree e = go (whole && eqb (length words) 0) e
    where
      go : (b : Bool) → pick b (unready 20 0) (ready_to_load whole words count) ≡ ready tree
          → (n : ℕ) × (read_image whole words ≡ got tree n) × (cell_count tree.arrays ≤ count)
      go true q = absurd (not_ready tree 20 0 (sym q))
      go false q = ready_read tree q

pub enough_cells : (image : Image) (count : ℕ) → cell_count image.arrays ≤ count
    → pick (leb (cell_count image.arrays) count) (ready image) (unready 17 0) ≡ ready image
enough_cells image count h = rw (le-leb (cell_count image.arrays) count h)
