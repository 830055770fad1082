-- What the returns of the description give, and what their calls ask. Assumes nothing.
use Prim.Native.Nat.{ℕ, suc, ◌+◌, ◌*◌, ◌-◌, ◌≤◌, ◌<◌}
use mathlib.Core.Bool.{Bool, true, false}
use mathlib.Core.List.{List, [], ◌∷◌, ◌++◌, flat_map}
use mathlib.Core.Path.{◌≡◌, refl, sym, ap, ◌∙◌}
use mir.Val.{bool_byte as from_bool}
use native.Mathlib.Omega.{arith}
use native.Mathlib.Numerals.{add-one}
use borrow.Author.Tests.{le-leb, lt-leb, le-ltb, lt-ltb}
use lib.ListN.{length, get_or, drop, drop_of_length-le}
use lib.Seq.{drop-cons}
use Rattle.definitions.specs.Choice.{pick}
use Rattle.definitions.specs.declared.Checked.{Checked}
use Rattle.definitions.specs.declared.Checked.TheVariants.{Refused as NotAccepted}
use Rattle.definitions.specs.declared.Compiled.{Compiled}
use Rattle.definitions.specs.declared.Compiled.TheVariants.{Written, Refused}
use Rattle.definitions.specs.Image.{payload_of, array_secret, array_length, mode_of, Procedure, Image, cell_count}
use Rattle.definitions.specs.Reading.{Parse, got, refused}
use Rattle.definitions.specs.Checking.{fault_of, admitted, verdict, checked}
use Rattle.definitions.specs.Describing.{array_fields, parameter_type, parameter_types, procedure_fields, description, described_tree, described}
use Rattle.laws.specs.Admitted.{admit}
use Rattle.laws.specs.ImageIn.{image_in, procedures_in, image_read}
use Rattle.tables.specs.Table.{array_count_in, arrays_in, place_in, params_in, Known}
use Rattle.tables.specs.Looking.{procedure_in, known_mode, known_arity, known_arrays, known_count}
use Rattle.tables.specs.Looking.{few_arrays, few_procedures, few_cells}
use Rattle.writer.specs.Writing.{Output, write, writes}
use Rattle.writer.specs.Laws.{writes_nil, run_run, word_run, whole}
use Rattle.describing.specs.Sizes.{description_length}

-- ---- the elements of a list one after the other

module _ {A : Type 0} (F : A → List ℕ) (l : List A) (k o : ℕ) (out : List ℕ) (X : Output) (u : writes o out (flat_map F (drop k l)) ≡ X) where
  each_done : length l ≤ k → ◌≡◌ {A = Output} (o, out) X
  unfolding flat_map
  each_done h = sym (writes_nil o out) ∙ sym (ap (λ x. writes o out (flat_map F x)) (drop_of_length-le l {i = k} h)) ∙ u

  each_more : (d : A) → k < length l → (p : ℕ) (t : List ℕ) → ◌≡◌ {A = Output} (p, t) (writes o out (F (get_or l k d)))
      → writes p t (flat_map F (drop (k + 1) l)) ≡ X
  unfolding flat_map
  each_more d h p t e =
      ap (λ (j : ℕ). writes p t (flat_map F (drop j l))) (add-one k)
      ∙ run_run o out p t (F (get_or l k d)) (flat_map F (drop (suc k) l)) (writes p t (flat_map F (drop (suc k) l))) e refl
      ∙ sym (ap (λ x. writes o out (flat_map F x)) (drop-cons l k d h)) ∙ u

-- ---- arrays

-- a flag as a number
told_flag : (b : Bool) → from_bool b ≡ pick b 1 0
told_flag true = refl
told_flag false = refl

pub array_on : (o : ℕ) (out : List ℕ) (w a b : ℕ) (s : Bool) → s ≡ array_secret w → a ≡ from_bool s → b ≡ array_length w → (r : Output)
    → r ≡ writes o out (a ∷ b ∷ []) → r ≡ writes o out (array_fields w)
array_on o out w a b s hs ha hb r e =
    e ∙ rw (ha, told_flag s, hs, hb) refl

module _ (image table : List ℕ) (known : Known image table) (k o : ℕ) (out : List ℕ) (X : Output)
    (u : writes o out (flat_map array_fields (drop k (arrays_in table))) ≡ X) (count : ℕ) (n : count ≡ array_count_in table) where
  full : length (arrays_in table) ≡ array_count_in table
  full = ap length (known_arrays image table known) ∙ sym (known_count image table known)

  pub arrays_done : count ≤ k → ◌≡◌ {A = Output} (o, out) X
  arrays_done h = let e = full in each_done array_fields (arrays_in table) k o out X u (omega arith)

  pub arrays_more : k < count → (w : ℕ) → w ≡ get_or (arrays_in table) k 0 → (p : ℕ) (t : List ℕ) → ◌≡◌ {A = Output} (p, t) (writes o out (array_fields w))
      → writes p t (flat_map array_fields (drop (k + 1) (arrays_in table))) ≡ X
  arrays_more h w e p t g =
      let d = full in
      each_more array_fields (arrays_in table) k o out X u 0 (omega arith) p t (g ∙ ap (λ (z : ℕ). writes o out (array_fields z)) e)

-- ---- the types of parameters

module _ (image table : List ℕ) (f : ℕ) (known : Known image table) (l : f < length (image_in image).procedures) (n : ℕ)
    (hn : n ≡ get_or (params_in table) f 0) where
  arity : n ≡ (procedure_in image f).parameters
  arity = hn ∙ known_arity image table known f l

  pub type_there : (k : ℕ) → k < n → (w r : ℕ) → w ≡ get_or (procedure_in image f).types k 0 → r ≡ payload_of w → r ≡ parameter_type (procedure_in image f) k
  type_there k h w r hw hr = let a = arity in rw (lt-ltb k (procedure_in image f).parameters (omega arith)) (hr ∙ ap payload_of hw)

  pub type_none : (k : ℕ) → n ≤ k → 0 ≡ parameter_type (procedure_in image f) k
  type_none k h = let a = arity in rw (le-ltb k (procedure_in image f).parameters (omega arith))

module _ (p : Procedure) (k o : ℕ) (out : List ℕ) (X : Output) (u : writes o out (parameter_types p (9 - k) k) ≡ X) where
  pub types_done : 9 ≤ k → ◌≡◌ {A = Output} (o, out) X
  unfolding parameter_types
  types_done h = let z : 9 - k ≡ 0 = omega arith in sym (writes_nil o out) ∙ sym (ap (λ (n : ℕ). writes o out (parameter_types p n k)) z) ∙ u

  pub types_more : k < 9 → (v q : ℕ) (t : List ℕ) → v ≡ parameter_type p k → ◌≡◌ {A = Output} (q, t) (write o out v)
      → writes q t (parameter_types p (9 - (k + 1)) (k + 1)) ≡ X
  unfolding parameter_types
  types_more h v q t hv e =
      let z : 9 - k ≡ suc (9 - (k + 1)) = omega arith in
      word_run o out q t v (parameter_types p (9 - (k + 1)) (k + 1)) (writes q t (parameter_types p (9 - (k + 1)) (k + 1))) e refl
      ∙ ap (λ (x : ℕ). writes o out (x ∷ parameter_types p (9 - (k + 1)) (k + 1))) hv
      ∙ sym (ap (λ (n : ℕ). writes o out (parameter_types p n k)) z) ∙ u

-- ---- procedures

module _ (image table : List ℕ) (f : ℕ) (known : Known image table) (l : f < length (image_in image).procedures) where
  pub procedure_on : (o : ℕ) (out : List ℕ) (w m n : ℕ) → w ≡ get_or image (place_in table f) 0 → m ≡ mode_of w → n ≡ get_or (params_in table) f 0
      → (v x : ℕ) → v ≡ (procedure_in image f).result → x ≡ payload_of v
      → (q : ℕ) (s : List ℕ) → ◌≡◌ {A = Output} (q, s) (writes o out (m ∷ n ∷ x ∷ [])) → (r : ℕ) (after : List ℕ)
      → ◌≡◌ {A = Output} (r, after) (writes q s (parameter_types (procedure_in image f) 9 0))
      → ◌≡◌ {A = Output} (r, after) (writes o out (procedure_fields (procedure_in image f)))
  unfolding procedure_fields
  procedure_on o out w m n hw hm hn v x hv hx q s g r after d =
      let T = parameter_types (procedure_in image f) 9 0 in
      let mode : m ≡ (procedure_in image f).mode = hm ∙ ap mode_of hw ∙ sym (known_mode image table known f l) in
      let count : n ≡ (procedure_in image f).parameters = hn ∙ known_arity image table known f l in
      let type : x ≡ payload_of (procedure_in image f).result = hx ∙ ap payload_of hv in
      run_run o out q s (m ∷ n ∷ x ∷ []) T (r, after) g d ∙ rw (mode, count, type)

module _ (image : List ℕ) (f o : ℕ) (out : List ℕ) (X : Output)
    (u : writes o out (flat_map procedure_fields (drop f (procedures_in image))) ≡ X) where
  pub procedures_done : length (procedures_in image) ≤ f → ◌≡◌ {A = Output} (o, out) X
  procedures_done h = each_done procedure_fields (procedures_in image) f o out X u h

  pub procedures_more : f < length (procedures_in image) → (p : ℕ) (t : List ℕ)
      → ◌≡◌ {A = Output} (p, t) (writes o out (procedure_fields (procedure_in image f)))
      → writes p t (flat_map procedure_fields (drop (f + 1) (procedures_in image))) ≡ X
  procedures_more h p t g = each_more procedure_fields (procedures_in image) f o out X u _ h p t g

-- ---- the image

-- its form, and how many arrays, procedures and cells it has
abbrev pub counts : Image → List ℕ
counts tree = tree.form ∷ length tree.arrays ∷ length tree.procedures ∷ cell_count tree.arrays ∷ []

module _ (image table : List ℕ) (k : Known image table) where
  pub arrays_few : array_count_in table ≤ 16
  arrays_few = let a = known_count image table k in let b = few_arrays image table k in omega arith

  pub cells_fit : (n : ℕ) → n ≡ cell_count (arrays_in table) → n < 4294967296
  cells_fit n e =
      let a : n ≡ cell_count (image_in image).arrays = e ∙ ap cell_count (known_arrays image table k) in
      let b = few_cells image table k in omega arith

  pub counts_on : (o : ℕ) (out : List ℕ) (a b c d e g : ℕ) → a ≡ (image_in image).form → b ≡ array_count_in table → c ≡ b
      → d ≡ length (procedures_in image) → e ≡ cell_count (arrays_in table) → g ≡ e
      → (r : Output) → r ≡ writes o out (a ∷ c ∷ d ∷ g ∷ []) → r ≡ writes o out (counts (image_in image))
  counts_on o out a b c d e g ha hb hc hd he hg r h =
      let arrays : c ≡ length (image_in image).arrays = hc ∙ hb ∙ known_count image table k in
      let cells : g ≡ cell_count (image_in image).arrays = hg ∙ he ∙ ap cell_count (known_arrays image table k) in
      h ∙ rw (ha, arrays, hd, cells)

  pub image_on : (o : ℕ) (out : List ℕ) (p : ℕ) (t : List ℕ)
      → ◌≡◌ {A = Output} (p, t) (writes o out (counts (image_in image)))
      → (q : ℕ) (s : List ℕ) → ◌≡◌ {A = Output} (q, s) (writes p t (flat_map array_fields (arrays_in table)))
      → (r : ℕ) (after : List ℕ) → ◌≡◌ {A = Output} (r, after) (writes q s (flat_map procedure_fields (procedures_in image)))
      → ◌≡◌ {A = Output} (r, after) (writes o out (description (image_in image)))
  unfolding description
  image_on o out p t e q s g r after h =
      let a = counts (image_in image) in
      let b = flat_map array_fields (arrays_in table) in
      let c = flat_map procedure_fields (procedures_in image) in
      run_run o out p t a (b ++ c) (r, after) e (run_run p t q s b c (r, after) g h)
      ∙ ap (λ (x : List ℕ). writes o out (a ++ (flat_map array_fields x ++ c))) (known_arrays image table k)

  pub size_is : (n c m : ℕ) → n ≡ array_count_in table → c ≡ length (procedures_in image) → m ≡ c
      → 4 + 2 * n + 12 * m ≡ length (description (image_in image))
  size_is n c m hn hc hm =
      let l = description_length (image_in image) in
      let a = known_count image table k in
      omega arith

-- ---- an image that was accepted

module _ (words table out : List ℕ) (k : Known words table) (clean : (fault_of (image_in words)).number ≡ 0) (count : ℕ)
    (size : count ≡ length (description (image_in words))) where
  tree_is : (n : ℕ) × (described true words out ≡ described_tree (got (image_in words) n) out)
  unfolding described
  tree_is = let (n, r) = image_read words k.read in (n, ap (λ x. described_tree x out) (admit true words (image_in words) n r clean))

  pub output_short : length out < count → (number : ℕ) → number ≡ 16
      → ◌≡◌ {A = Compiled × List ℕ} (Refused number 0, out) (described true words out)
  unfolding described_tree
  output_short h number e =
      let b : length out < length (description (image_in words)) = omega arith in rw (e, tree_is.1, lt-leb _ _ b)

  -- the lent words are those of the output, once it is known that the output kept its buffer
  pub all_written : count ≤ length out → (r : ℕ) (t : List ℕ) → ◌≡◌ {A = Output} (r, t) (writes 0 out (description (image_in words)))
      → {new old : ℕ} → new ≡ old → (after : (x : List ℕ) × (length x ≡ length out × (old ≡ new → x ≡ t)))
      → ◌≡◌ {A = Compiled × List ℕ} (Written count, after.0) (described true words out)
  unfolding described_tree
  all_written h r t e kept after =
      let D = description (image_in words) in
      let l = description_length (image_in words) in
      let a = few_arrays words table k in
      let p = few_procedures words table k in
      let b : length D ≤ length out = omega arith in
      let w : after.0 ≡ D ++ drop (length D) out = after.1.1 (sym kept) ∙ ap (λ (y : Output). y.1) e ∙ whole D out (omega arith) b in
      rw (tree_is.1, le-leb _ _ b, size, w)

-- ---- the checker's answer

pub refused_too : (whole : Bool) (words : List ℕ) (c : Checked) → c ≡ checked whole words → (n p : ℕ) → c ≡ NotAccepted n p
    → (out : List ℕ) → ◌≡◌ {A = Compiled × List ℕ} (Refused n p, out) (described whole words out)
unfolding checked verdict described described_tree
refused_too whole words c q n p e out = go (admitted whole words) q
  where
    go : (x : Parse Image) → c ≡ verdict x → ◌≡◌ {A = Compiled × List ℕ} (Refused n p, out) (described_tree x out)
    go (got image m) d = let z : ◌≡◌ {A = ℕ} 0 1 = cc in absurd (omega arith)
    go (refused m o) d = let a : n ≡ m = cc in let b : p ≡ o = cc in rw (a, b)

pub written_whole : (whole : Bool) (words out after : List ℕ) (r : Compiled) → whole ≡ true → ◌≡◌ {A = Compiled × List ℕ} (r, after) (described true words out)
    → ◌≡◌ {A = Compiled × List ℕ} (r, after) (described whole words out)
written_whole whole words out after r w d = d ∙ ap (λ b. described b words out) (sym w)
