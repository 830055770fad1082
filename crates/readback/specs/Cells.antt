-- Load, clear, poke and peek are answered on the compiled words as on the source's: their arrays are the same. Assumes nothing.
use Rattle.std.specs.Prelude.{ℕ, ◌+◌, Bool, ◌&&◌, List, ◌++◌, ◌≡◌, leb, eqb, length, get_or}
use Rattle.std.proofs.Math.Bool.{true, false}
use Rattle.std.proofs.Math.Path.{refl, ap}
use Rattle.std.proofs.Math.Dec.{ltb}
use Rattle.std.proofs.Math.ListN.{set, replicate, drop}
use Rattle.definitions.specs.Choice.{pick}
use Rattle.definitions.specs.declared.Answer.TheVariants.{Refused}
use Rattle.definitions.specs.Image.{Image, cell_count, array_length, base_of, header_word, form_of, largest_image}
use Rattle.definitions.specs.Reading.{got, refused, read_rest, read_image}
use Rattle.definitions.specs.Checking.{fault_of, admitted}
use Rattle.definitions.specs.Encoding.{image_words}
use Rattle.definitions.specs.Compiling.{compiled_image}
use Rattle.definitions.specs.Requests.{ready, unready, ready_to_load, ready_to_serve, Served, served, carried_out, load}
use Rattle.definitions.specs.Requests.{clear, poke, peek, called_on, served_call, call}
use Rattle.readback.specs.Ready.{lent_enough, ready_tree, compiled_loads, compiled_ready}
use Rattle.readback.specs.Conclusion.{ReadBack}

-- an image that was read has words
some_words : (whole : Bool) (words : List ℕ) (i : Image) (n : ℕ) → read_image whole words ≡ got i n → eqb (length words) 0 ≡ false
unfolding read_image
some_words whole words i n = go (eqb (length words) 0)
  where
    go : (b : Bool)
        → pick b (refused 1 0)
        (pick (header_word (get_or words 0 0)) (pick (whole && leb (length words) (largest_image (form_of (get_or words 0 0)))) (read_rest (get_or words 0 0) words) (refused 1 0)) (refused 2 0))
        ≡ got i n
        → b ≡ false
    go true e = cc
    go false e = refl

and_none : (a b : Bool) → b ≡ false → (a && b) ≡ false
and_none true b e = e
and_none false b e = refl

module _ (whole : Bool) (words : List ℕ) (image : Image) (n : ℕ) (reading : read_image whole words ≡ got image n) (faultless : (fault_of image).number ≡ 0) where
  -- the source's words are ready as its tree
  pub source_loads : (count : ℕ) → ready_to_load whole words count ≡ lent_enough image count
  unfolding ready_to_load admitted
  source_loads count = rw reading (ready_tree image n count faultless)

  pub source_ready : (count : ℕ) → ready_to_serve whole words count ≡ lent_enough image count
  unfolding ready_to_serve
  source_ready count = rw (and_none whole (eqb (length words) 0) (some_words whole words image n reading)) (source_loads count)

  -- a call on the source's words is the call on its tree
  pub source_call :
      (cells : List ℕ) (f : ℕ) (arguments : List ℕ) (budget room : ℕ)
      → call whole words cells f arguments budget room ≡ served_call (lent_enough image (length cells)) cells (λ m. called_on m cells f arguments budget room)
  unfolding call
  source_call cells f arguments budget room = rw (source_ready (length cells))

  module _ (r : ReadBack image) where
    -- a request that asks for nothing but the arrays
    by_arrays :
        (f : List ℕ → Served) (cells : List ℕ) → served (lent_enough r.tree (length cells)) cells (λ i. f i.arrays) ≡ served (lent_enough image (length cells)) cells (λ i. f i.arrays)
    unfolding served lent_enough
    by_arrays f cells = go r.tree.arrays r.same_arrays (leb (cell_count image.arrays) (length cells))
      where
        either : (b : Bool) → served (pick b (ready r.tree) (unready 17 0)) cells (λ i. f i.arrays) ≡ served (pick b (ready image) (unready 17 0)) cells (λ i. f i.arrays)
        either true = ap f r.same_arrays
        either false = refl

        go : (arrays : List ℕ) → arrays ≡ image.arrays → (b : Bool)
            → served (pick (leb (cell_count arrays) (length cells)) (ready r.tree) (unready 17 0)) cells (λ i. f i.arrays)
            ≡ served (pick (leb (cell_count image.arrays) (length cells)) (ready image) (unready 17 0)) cells (λ i. f i.arrays)
        go arrays e b = rw e (either (leb (cell_count image.arrays) (length cells)))

    pub same_load : (cells : List ℕ) → load true (image_words (compiled_image image)) cells ≡ load whole words cells
    unfolding load
    same_load cells =
        rw (compiled_loads image r (length cells), source_loads (length cells)) (by_arrays (λ ws. (carried_out 0, replicate (cell_count ws) 0 ++ drop (cell_count ws) cells)) cells)

    pub same_clear : (cells : List ℕ) → clear true (image_words (compiled_image image)) cells ≡ clear whole words cells
    unfolding clear
    same_clear cells =
        rw (compiled_ready image r (length cells), source_ready (length cells)) (by_arrays (λ ws. (carried_out 0, replicate (cell_count ws) 0 ++ drop (cell_count ws) cells)) cells)

    pub same_poke : (cells : List ℕ) (a k v : ℕ) → poke true (image_words (compiled_image image)) cells a k v ≡ poke whole words cells a k v
    unfolding poke
    same_poke cells a k v =
        rw (compiled_ready image r (length cells), source_ready (length cells))
        (by_arrays (λ ws. pick (ltb a (length ws) && ltb k (array_length (get_or ws a 0))) (carried_out 0, set cells (base_of ws a + k) v) (Refused 17 0, cells)) cells)

    pub same_peek : (cells : List ℕ) (a k : ℕ) → peek true (image_words (compiled_image image)) cells a k ≡ peek whole words cells a k
    unfolding peek
    same_peek cells a k =
        rw (compiled_ready image r (length cells), source_ready (length cells))
        (by_arrays (λ ws. pick (ltb a (length ws) && ltb k (array_length (get_or ws a 0))) (carried_out (get_or cells (base_of ws a + k) 0), cells) (Refused 17 0, cells)) cells)
