-- Rules for the checker, the compiler and the description on lent bytes. Assumes nothing.
use mathlib.Core.Path.{◌≡◌, refl, sym, ap, ◌∙◌}
use mathlib.Core.Bool.{Bool, true, false}
use mathlib.Core.List.{List, ◌++◌}
use Prim.Native.Nat.{ℕ, ◌*◌, ◌/◌, ◌≤◌, ◌<◌, min}
use native.Mathlib.Omega.{arith}
use borrow.Author.Tests.{leb-true, leb-false, le-leb, lt-leb}
use lib.Dec.{leb, eqb}
use lib.ListN.{length, take, drop}
use lib.Seq.{length-take-le, take_at, take-take}
use Rattle.definitions.specs.Choice.{pick}
use Rattle.definitions.specs.Bytes.{Bytes, words_of, bytes_of, lent}
use Rattle.definitions.specs.Image.{Image}
use Rattle.definitions.specs.Reading.{Parse, got, refused}
use Rattle.definitions.specs.Checking.{admitted, checked}
use Rattle.definitions.specs.Encoding.{image_words}
use Rattle.definitions.specs.Compiling.{compiled_image, fits, written, compiled_tree, compiled}
use Rattle.definitions.specs.Describing.{description, described_tree, described}
use Rattle.definitions.specs.Host.{whole_words, check_bytes, compile_bytes, describe_bytes}
use Rattle.definitions.specs.declared.Checked.{Checked}
use Rattle.definitions.specs.declared.Compiled.{Compiled}
use Rattle.definitions.specs.declared.Compiled.TheVariants.{Written, Refused}
use Rattle.laws.specs.Fitting.{words_fit}
use Rattle.laws.specs.WordsOfBytes.{lent_front, length_words_of, lent_words_of}
use Rattle.describing.specs.Sizes.{description_short}
use Rattle.compiler.specs.Compile.{compiled_on}
use Rattle.compiler.specs.Kept.{count_of, placed, words_kept, answers_equal}
use Rattle.lent_images.specs.Counts.{Output, handed, attempt, count_within, count_described}
use Rattle.requests.specs.LongImages.{front, whole_and_short, same_admitted, same_checked, same_compiled}

-- what an output on the words of lent bytes leaves in them
abbrev on_bytes : List ℕ → Output → Output
on_bytes b r = (r.0, lent b r.1)

-- ---- the output on bytes, by the output on words that they have room for

-- a result that is too long for the words is too long for the bytes
abbrev Fair : List ℕ → List ℕ → Parse Image → Type 0
Fair b old x =
    (image : Image) (n : ℕ) → x ≡ got image n → eqb image.form 0 ≡ true → fits (compiled_image image) ≡ true
    → length old < length (image_words (compiled_image image)) → length b / 4 < length (image_words (compiled_image image))

module _ (b old : List ℕ) (h : Bytes b) (room : length old ≤ length b / 4) where
  refused_stays : (n p : ℕ) → handed b (Refused n p, old) ≡ on_bytes b (Refused n p, words_of b)
  unfolding bytes_of
  refused_stays n p = rw (lent_words_of b h)

  written_stays : (ws : List ℕ) → (length old < length ws → length b / 4 < length ws) → handed b (placed true ws old) ≡ on_bytes b (placed true ws (words_of b))
  written_stays ws fair = go (leb (length ws) (length old)) refl
    where
      size : length (words_of b) ≡ length b / 4
      size = length_words_of b

      go : (t : Bool) → leb (length ws) (length old) ≡ t
          → handed b (pick t (Written (length ws), ws ++ drop (length ws) old) (Refused 16 0, old)) ≡ on_bytes b (placed true ws (words_of b))
      go true e =
          let n : length ws ≤ length old = leb-true (length ws) (length old) e in
          let m : leb (length ws) (length (words_of b)) ≡ true = le-leb (length ws) (length (words_of b)) (let s = size in omega arith) in
          rw (m, take_at ws (drop (length ws) old) (length ws) refl)
          (ap (λ x. (Written (length ws), x)) (sym (lent_front b ws (length ws) h refl (omega arith))))
      go false e =
          let n : length b / 4 < length ws = fair (leb-false (length ws) (length old) e) in
          let m : leb (length ws) (length (words_of b)) ≡ false = lt-leb (length ws) (length (words_of b)) (let s = size in omega arith) in
          rw m (refused_stays 16 0)

  written_on : (image : Image) (t : Bool) → fits image ≡ t
      → (t ≡ true → length old < length (image_words image) → length b / 4 < length (image_words image))
      → handed b (placed t (image_words image) old) ≡ on_bytes b (placed t (image_words image) (words_of b))
  written_on image true e fair = written_stays (image_words image) (fair refl)
  written_on image false e fair = refused_stays 15 0

  tree_on_lem : (x : Parse Image) → Fair b old x → handed b (compiled_tree x old) ≡ on_bytes b (compiled_tree x (words_of b))
  unfolding compiled_tree written
  tree_on_lem (refused n p) fair = refused_stays n p
  tree_on_lem (got image n) fair = go (eqb image.form 0) refl
    where
      go : (s : Bool) → eqb image.form 0 ≡ s → handed b (pick s (written (compiled_image image) old) (Refused 14 0, old))
          ≡ on_bytes b (pick s (written (compiled_image image) (words_of b)) (Refused 14 0, words_of b))
      go true e = written_on (compiled_image image) (fits (compiled_image image)) refl (λ f. fair image n refl e f)
      go false e = refused_stays 14 0

-- ---- the words of a part of a slice

pub within_is : (r : Compiled) (x old : List ℕ) (room : ℕ) (Y : Output) → ◌≡◌ {A = Output} (r, x) Y → length x ≡ length (take room old) → room ≤ length old
    → ◌≡◌ {A = Output} (r, take room (x ++ drop room old)) Y
within_is r x old room Y e k h = rw (take_at x (drop room old) room (k ∙ length-take-le room old h)) e

-- ---- the words that go into the lent bytes

module _ (a : Compiled) (result b : List ℕ) where
  pub write_asks : (n : ℕ) → a ≡ Written n → (count_of a ≤ length result) × (4 * count_of a ≤ length b) → (n ≤ length result) × (4 * n ≤ length b)
  write_asks n e asked = rw e at asked

  pub written_handed : (n : ℕ) → a ≡ Written n → (left : List ℕ) → left ≡ bytes_of (take n result) ++ drop (4 * n) b
      → (Written n ≡ a) × (left ≡ bytes_of (take (count_of a) result) ++ drop (4 * count_of a) b)
  written_handed n e left l = (sym e, rw e l)

  pub refused_handed : (n p : ℕ) → a ≡ Refused n p → (Refused n p ≡ a) × (b ≡ bytes_of (take (count_of a) result) ++ drop (4 * count_of a) b)
  unfolding bytes_of
  refused_handed n p e = (sym e, rw e refl)

-- ---- the checker

pub checked_bytes : (image part : List ℕ) (whole : Bool) (r : Checked) → part ≡ front image → whole ≡ whole_and_short image → r ≡ checked whole part
    → r ≡ check_bytes image
checked_bytes image part whole r e w d = d ∙ same_checked image part whole e w

-- ---- an output of no more words than there is room for, into lent arrays

module _ (F : List ℕ → Output) (few : (o : List ℕ) → count_of (F o).0 ≤ length o) (b result after : List ℕ) (room : ℕ) (a : Compiled)
    (space : room ≡ min (length b / 4) (length result)) (q : ◌≡◌ {A = Output} (a, take room after) (F (take room result))) where
  count_few : count_of a ≤ room
  count_few =
      let m = few (take room result) in
      let e : count_of a ≡ count_of (F (take room result)).0 = ap (λ (x : Output). count_of x.0) q in
      let s : length (take room result) ≡ room = length-take-le room result (omega arith) in omega arith

  few_asked : length after ≡ length result → (count_of a ≤ length after) × (4 * count_of a ≤ length b)
  few_asked l = let c = count_few in (omega arith, omega arith)

  handed_over : (r : Compiled) (left : List ℕ) → r ≡ a → left ≡ bytes_of (take (count_of a) after) ++ drop (4 * count_of a) b
      → ◌≡◌ {A = Output} (r, left) (handed b (F (take (min (length b / 4) (length result)) result)))
  handed_over r left ra l =
      let same : take (count_of a) (take room after) ≡ take (count_of a) after = take-take (count_of a) room after count_few in
      let mine : ◌≡◌ {A = Output} (r, left) (handed b (a, take room after)) = rw (ra, l, same) in
      mine ∙ ap (handed b) q ∙ ap (λ (k : ℕ). handed b (F (take k result))) space

-- ---- the compiler, with lent arrays

module _ (part b result after : List ℕ) (whole : Bool) (room : ℕ) (a : Compiled) (space : room ≡ min (length b / 4) (length result))
    (q : ◌≡◌ {A = Output} (a, take room after) (compiled_on whole part (take room result))) where
  few : (o : List ℕ) → count_of (compiled_on whole part o).0 ≤ length o
  unfolding compiled
  few o = rw (answers_equal whole part o) (count_within (admitted whole part) o)

  -- what goes into the bytes are the words that the answer counts
  handed_kept : (o : List ℕ) → handed b (compiled_on whole part o) ≡ handed b (compiled whole part o)
  handed_kept o = ap (λ (k : Output). (k.0, bytes_of k.1 ++ drop (4 * count_of k.0) b)) (words_kept whole part o)

  pub hand_over_asks : length after ≡ length result → (count_of a ≤ length after) × (4 * count_of a ≤ length b)
  hand_over_asks l = few_asked (compiled_on whole part) few b result after room a space q l

  pub attempted : (image : List ℕ) → part ≡ front image → whole ≡ whole_and_short image → (r : Compiled) (left : List ℕ) → r ≡ a
      → left ≡ bytes_of (take (count_of a) after) ++ drop (4 * count_of a) b → ◌≡◌ {A = Output} (r, left) (attempt image b result)
  unfolding attempt
  attempted image e w r left ra l =
      handed_over (compiled_on whole part) few b result after room a space q r left ra l
      ∙ handed_kept (take (min (length b / 4) (length result)) result)
      ∙ ap (handed b) (same_compiled image part whole e w (take (min (length b / 4) (length result)) result))

-- ---- the compiler, with arrays of its own

module _ (image b result : List ℕ) (h : Bytes b) where
  abbrev tried : List ℕ
  tried = take (min (length b / 4) (length result)) result

  tried_long : length tried ≡ min (length b / 4) (length result)
  tried_long = length-take-le (min (length b / 4) (length result)) result (omega arith)

  tried_fair : Fair b tried (admitted (whole_words image) (words_of image)) → attempt image b result ≡ compile_bytes image b
  unfolding attempt compile_bytes compiled
  tried_fair fair = tree_on_lem b tried h (let s = tried_long in omega arith) (admitted (whole_words image) (words_of image)) fair

  -- where the array has room for every result
  pub attempt_long : length result ≡ 16384 → attempt image b result ≡ compile_bytes image b
  attempt_long long =
      tried_fair (λ tree n e f g l.
      let few = words_fit (compiled_image tree) g in let s = tried_long in omega arith)

  -- where it has as much room as the bytes
  pub attempt_equal : length b / 4 ≤ length result → attempt image b result ≡ compile_bytes image b
  attempt_equal room = tried_fair (λ tree n e f g l. let s = tried_long in omega arith)

  -- where the answer is not that there was too little
  pub attempt_short : ((attempt image b result).0 ≡ Refused 16 0 → ⊥) → attempt image b result ≡ compile_bytes image b
  unfolding attempt compiled compiled_tree written
  attempt_short not = tried_fair (λ tree n e f g l. absurd (not (short tree n e f g l)))
    where
      short : (tree : Image) (n : ℕ) → admitted (whole_words image) (words_of image) ≡ got tree n → eqb tree.form 0 ≡ true → fits (compiled_image tree) ≡ true
          → length tried < length (image_words (compiled_image tree)) → (compiled_tree (admitted (whole_words image) (words_of image)) tried).0 ≡ Refused 16 0
      short tree n e f g l = rw (e, f, g, lt-leb (length (image_words (compiled_image tree))) (length tried) l)

  -- a refusal leaves the lent bytes as they were
  pub attempt_refused : (r : Compiled) (after : List ℕ) → ◌≡◌ {A = Output} (r, after) (attempt image b result) → (k p : ℕ) → r ≡ Refused k p → after ≡ b
  unfolding attempt bytes_of
  attempt_refused r after e k p f =
      let a : (compiled (whole_words image) (words_of image) tried).0 ≡ Refused k p = sym (ap (λ (x : Output). x.0) e) ∙ f in
      ap (λ (x : Output). x.1) e ∙ (rw a refl)

  pub not_16 : (r : Compiled) (after : List ℕ) → ◌≡◌ {A = Output} (r, after) (attempt image b result) → (r ≡ Refused 16 0 → ⊥)
      → ◌≡◌ {A = Output} (r, after) (compile_bytes image b)
  not_16 r after e not = e ∙ attempt_short (λ z. not (ap (λ (x : Output). x.0) e ∙ z))

pub written_not : (n : ℕ) → Written n ≡ Refused 16 0 → ⊥
written_not n e = absurd (let z : ◌≡◌ {A = ℕ} 0 1 = cc in omega arith)

pub other_not : (k p : ℕ) → (k ≡ 16 → ⊥) → Refused k p ≡ Refused 16 0 → ⊥
other_not k p h e = h cc

-- ---- the description

-- the array has room for every description, so that one too long for its words is too long for the bytes
described_on : (b old : List ℕ) → Bytes b → length old ≡ min (length b / 4) 420 → (x : Parse Image)
    → ((tree : Image) (n : ℕ) → x ≡ got tree n → length (description tree) ≤ 420) → handed b (described_tree x old) ≡ on_bytes b (described_tree x (words_of b))
unfolding described_tree
described_on b old h l (refused n p) short = refused_stays b old h (omega arith) n p
described_on b old h l (got tree n) short =
    let s = short tree n refl in written_stays b old h (omega arith) (description tree) (λ z. omega arith)

module _ (part b result after : List ℕ) (whole : Bool) (room : ℕ) (a : Compiled) (long : length result ≡ 420) (space : room ≡ min (length b / 4) 420)
    (q : ◌≡◌ {A = Output} (a, take room after) (described whole part (take room result))) where
  few_described : (o : List ℕ) → count_of (described whole part o).0 ≤ length o
  unfolding described
  few_described o = count_described (admitted whole part) o

  room_is : room ≡ min (length b / 4) (length result)
  room_is = space ∙ ap (λ (k : ℕ). min (length b / 4) k) (sym long)

  pub describe_asks : length after ≡ length result → (count_of a ≤ length after) × (4 * count_of a ≤ length b)
  describe_asks l = few_asked (described whole part) few_described b result after room a room_is q l

  pub describe_done : (image : List ℕ) → Bytes b → part ≡ front image → whole ≡ whole_and_short image → (r : Compiled) (left : List ℕ) → r ≡ a
      → left ≡ bytes_of (take (count_of a) after) ++ drop (4 * count_of a) b → ◌≡◌ {A = Output} (r, left) (describe_bytes image b)
  unfolding describe_bytes described
  describe_done image h e w r left ra l =
      let old = take (min (length b / 4) (length result)) result in
      let x = admitted (whole_words image) (words_of image) in
      let size : length old ≡ min (length b / 4) 420 =
      length-take-le (min (length b / 4) (length result)) result (omega arith) ∙ ap (λ (k : ℕ). min (length b / 4) k) long in
      handed_over (described whole part) few_described b result after room a room_is q r left ra l
      ∙ ap (λ (y : Parse Image). handed b (described_tree y old)) (same_admitted image part whole e w)
      ∙ described_on b old h size x (λ tree n z. description_short (whole_words image) (words_of image) tree n z)
