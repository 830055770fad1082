-- Each way in which a lent image is found ready or not. Assumes nothing.
use mathlib.Core.Path.{◌≡◌, refl, sym, ap, ◌∙◌}
use mathlib.Core.Bool.{Bool, true, false, ◌&&◌}
use mathlib.Core.List.{List, [], ◌∷◌}
use Prim.Native.Nat.{ℕ, ◌/◌, ◌%◌, ◌≤◌, ◌<◌, min}
use native.Mathlib.Omega.{arith}
use borrow.Author.Tests.{le-leb, lt-leb, eqb-true}
use lib.Dec.{leb, eqb}
use lib.ListN.{length, take, drop, replicate}
use lib.Seq.{take_all}
use Rattle.definitions.specs.Choice.{pick}
use Rattle.definitions.specs.Bytes.{words_of}
use Rattle.definitions.specs.Image.{Image, cell_count}
use Rattle.definitions.specs.Reading.{Parse, got, refused, read_image}
use Rattle.definitions.specs.Checking.{without_fault, admitted, checked}
use Rattle.definitions.specs.Requests.{ready, unready, with_cells, ready_to_load, ready_to_serve, Ready as Readiness}
use Rattle.definitions.specs.Host.{whole_words}
use Rattle.definitions.specs.declared.Checked.{Checked}
use Rattle.definitions.specs.declared.Checked.TheVariants.{Refused, Accepted}
use Rattle.laws.specs.ReadImages.{open_image}
use Rattle.laws.specs.ImageIn.{image_in, image_read, length_limit}
use Rattle.laws.specs.WordsOfBytes.{length_words_of}
use Rattle.tables.specs.Table.{array_count_in, arrays_in}
use Rattle.tables.specs.Looking.{known_arrays, known_count, few_arrays}
use Rattle.reader.specs.Left.{TablesLeft}
use Rattle.requests.specs.LongImages.{same_read}
use Rattle.requests.specs.FirstBytes.{first_read, first_loadable}
use Rattle.laws.specs.Ready.{ready_refused, ready_accepted}
use Rattle.checker.specs.Left.{passes}
use Rattle.std.proofs.Common.{Result, Ok, Err}
use Rattle.definitions.specs.declared.Fault.{Fault}
use Rattle.definitions.specs.Faults.{fault}
use Rattle.ready.specs.Prepared.{counted_on, readied, table_left, Prepared}

-- ---- counting the cells

pub count_few : (n count cells : ℕ) → cells ≡ n → count < cells → Err (fault 17 0) ≡ counted_on n count
unfolding counted_on
count_few n count cells e h = rw (← e, lt-leb cells count h)

pub count_enough : (n count cells : ℕ) → cells ≡ n → cells ≤ count → Ok cells ≡ counted_on n count
unfolding counted_on
count_enough n count cells e h = rw (← e, le-leb cells count h)

-- ---- the verdict

module _ (whole : Bool) (words : List ℕ) (count : ℕ) (c : Checked) (e : c ≡ checked whole words) where
  pub judge_refused : (k p : ℕ) → c ≡ Refused k p → Err (fault k p) ≡ readied (ready_to_load whole words count)
  unfolding readied
  judge_refused k p f = rw (ready_refused whole words count k p (sym e ∙ f))

  module _ (f : c ≡ Accepted) (table ends : List ℕ) (t : TablesLeft (read_image whole words) words table ends) where
    pub judge_arrays : array_count_in table ≤ 16
    judge_arrays =
        let k = (passes whole words table ends c e f t).known in
        let n = known_count words table k in let few = few_arrays words table k in omega arith

    pub judge_accepted : (r : Result ℕ Fault) → r ≡ counted_on (cell_count (arrays_in table)) count → r ≡ readied (ready_to_load whole words count)
    unfolding counted_on readied
    judge_accepted r q =
        let p = passes whole words table ends c e f t in
        let (n, read) = image_read words p.known.read in
        let read2 : read_image whole words ≡ got (image_in words) n = ap (λ (b : Bool). read_image b words) p.is_whole ∙ read in
        let same : cell_count (arrays_in table) ≡ cell_count (image_in words).arrays = ap cell_count (known_arrays words table p.known) in
        q ∙ (rw (same, ready_accepted whole words count (image_in words) n read2 (sym e ∙ f)) (go (leb (cell_count (image_in words).arrays) count)))
      where
        go : (b : Bool) → pick b (Ok (cell_count (image_in words).arrays)) (Err (fault 17 0)) ≡ readied (pick b (ready (image_in words)) (unready 17 0))
        go true = refl
        go false = refl

-- ---- lent bytes

module _ (image : List ℕ) (n : ℕ) (words words' : List ℕ) (e : take n words' ≡ take 16384 (words_of image)) (whole : Bool)
    (w : whole ≡ (whole_words image && leb (length (words_of image)) 16384)) where
  reads : read_image whole (take n words') ≡ read_image (whole_words image) (words_of image)
  reads = same_read image (take n words') whole e w

  same_ready : (count : ℕ) → ready_to_load whole (take n words') count ≡ ready_to_load (whole_words image) (words_of image) count
  unfolding ready_to_load admitted
  same_ready count = ap (λ (x : Parse Image). with_cells (without_fault x) count) reads

  same_tables : (table ends : List ℕ) → TablesLeft (read_image whole (take n words')) (take n words') table ends
      → TablesLeft (read_image (whole_words image) (words_of image)) (words_of image) table ends
  unfolding TablesLeft
  same_tables table ends t = go (read_image (whole_words image) (words_of image)) refl (rw reads at t)
    where
      go : (x : Parse Image) → read_image (whole_words image) (words_of image) ≡ x → TablesLeft x (take n words') table ends → TablesLeft x (words_of image) table ends
      go (got tree m) q s =
          let i = open_image (whole_words image) (words_of image) tree m q in
          let spelled : take n words' ≡ words_of image = e ∙ take_all 16384 (words_of image) (length_limit i) in
          rw spelled at s
      go (refused k p) q s = s

  pub load_prepared : n ≡ min (length image / 4) 16384 → drop n words' ≡ drop n words → (count : ℕ) (r : Result ℕ Fault) (table ends : List ℕ)
      → r ≡ readied (ready_to_load whole (take n words') count) → TablesLeft (read_image whole (take n words')) (take n words') table ends
      → Prepared r (ready_to_load (whole_words image) (words_of image) count) image words words' table ends
  load_prepared c b count r table ends a t =
      record {
        answer = a ∙ ap readied (same_ready count);
        tables = same_tables table ends t;
        front = rw (← c) e;
        behind = rw (← c) b;
      }

-- ---- an empty image

module _ (image : List ℕ) (h : length image ≡ 0) where
  no_words : length (words_of image) ≡ 0
  no_words = length_words_of image ∙ (rw h)

  pub empty_answer : (count : ℕ) → Err (fault 20 0) ≡ readied (ready_to_serve (whole_words image) (words_of image) count)
  unfolding ready_to_serve readied
  empty_answer count = rw (h, no_words)

  empty_read : read_image (whole_words image) (words_of image) ≡ refused 1 0
  unfolding read_image
  empty_read = rw no_words

  pub empty_table : (table : List ℕ) → table ≡ replicate 129 0 → table ≡ table_left (read_image (whole_words image) (words_of image))
  unfolding table_left
  empty_table table z = rw empty_read z

  pub serve_empty : (count : ℕ) (words table ends : List ℕ) → table ≡ replicate 129 0 → ends ≡ replicate (length ends) 0
      → Prepared (Err (fault 20 0)) (ready_to_serve (whole_words image) (words_of image) count) image words words table ends
  unfolding TablesLeft
  serve_empty count words table ends t s =
      let n : min (length image / 4) 16384 ≡ 0 = rw h in
      record {
        answer = empty_answer count;
        tables = rw empty_read (t, s);
        front = rw n (sym (take_all 16384 (words_of image) (let z = no_words in omega arith) ∙ none (words_of image) no_words));
        behind = refl;
      }
    where
      none : (l : List ℕ) → length l ≡ 0 → l ≡ []
      none [] z = refl
      none (x ∷ l) z = absurd (omega arith)

not_empty : (image : List ℕ) → (length image ≡ 0 → ⊥) → whole_words image && eqb (length (words_of image)) 0 ≡ false
not_empty image h = go (eqb (length image % 4) 0) (eqb (length (words_of image)) 0) refl refl
  where
    go : (a b : Bool) → eqb (length image % 4) 0 ≡ a → eqb (length (words_of image)) 0 ≡ b → a && b ≡ false
    go true true p q =
        absurd (h (let x = eqb-true (length image % 4) 0 p in let y = eqb-true (length (words_of image)) 0 q in omega (arith, length_words_of image)))
    go true false p q = refl
    go false b p q = refl

pub serve_some : (image : List ℕ) → (length image ≡ 0 → ⊥) → (count : ℕ)
    → ready_to_serve (whole_words image) (words_of image) count ≡ ready_to_load (whole_words image) (words_of image) count
unfolding ready_to_serve
serve_some image h count = rw (not_empty image h)

pub some_prepared : (image : List ℕ) → (length image ≡ 0 → ⊥) → (count : ℕ) (r : Result ℕ Fault) (words words' table ends : List ℕ)
    → Prepared r (ready_to_load (whole_words image) (words_of image) count) image words words' table ends
    → Prepared r (ready_to_serve (whole_words image) (words_of image) count) image words words' table ends
some_prepared image h count r words words' table ends p = rw (serve_some image h count) p

-- the table alone
pub left_table : (image : List ℕ) (x : Readiness) (r : Result ℕ Fault) (words words' table ends : List ℕ) → Prepared r x image words words' table ends
    → (r ≡ readied x) × (table ≡ table_left (read_image (whole_words image) (words_of image)))
unfolding TablesLeft table_left
left_table image x r words words' table ends p = (p.answer, go (read_image (whole_words image) (words_of image)) p.tables)
  where
    go : (y : Parse Image) → TablesLeft y (words_of image) table ends → table ≡ table_left y
    go (got tree n) t = t.filled
    go (refused k q) t = t.0

-- a longer image is cut
pub first_ready : (image : List ℕ) → 65540 < length image → (count : ℕ) (r : Result ℕ Fault) (table : List ℕ)
    → (r ≡ readied (ready_to_load (whole_words (take 65540 image)) (words_of (take 65540 image)) count))
    × (table ≡ table_left (read_image (whole_words (take 65540 image)) (words_of (take 65540 image))))
    → (r ≡ readied (ready_to_load (whole_words image) (words_of image) count)) × (table ≡ table_left (read_image (whole_words image) (words_of image)))
first_ready image h count r table (a, t) = (a ∙ ap readied (first_loadable image h count), t ∙ ap table_left (first_read image h))
