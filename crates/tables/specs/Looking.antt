-- What the table of an image that was read tells: its array words, where their cells begin, and of each procedure where
-- its words stand and how its body reads. Assumes nothing.
use Prim.Native.Nat.{ℕ, zero, suc, ◌+◌, ◌≤◌, ◌<◌}
use Rattle.std.specs.Prelude.{true, List, [], ◌∷◌, ◌++◌, map, ◌≡◌, length, get_or, drop}
use Rattle.std.proofs.Common.{sym, ◌∙◌, arith, length-take, length-drop, ext_get_or, get_or-take, get_or-drop}
use Rattle.std.proofs.Math.Path.{ap}
use Rattle.std.proofs.Math.Nat.{zero-add}
use Rattle.std.proofs.Math.ListN.{take}
use Rattle.definitions.specs.Image.{array_length, base_of, cell_count, form_of, mode_of, parameters_of, locals_of, procedures_of}
use Rattle.definitions.specs.Image.{largest_level, Procedure, procedure_at, no_procedure}
use Rattle.definitions.specs.Reading.{got, read_block}
use Rattle.laws.specs.WordTests.{procedure_limits, most_locals_lem}
use Rattle.laws.specs.Places.{block_ends_lem}
use Rattle.laws.specs.ReadImages.{ProcedureWords, ImageWords}
use Rattle.laws.specs.ImageIn.{image_in, image_words_lem, procedures_limit, arrays_limit, length_limit, cells_limit, form_limit}
use Rattle.tables.specs.Table.{padded, bases_from, body_place, places, body_places, arities, table_of, array_count_in, arrays_in, base_in, place_in, body_in, params_in, Known}
use Rattle.tables.specs.Segments.{get_d_past, padded_length, padded_at, padded_take, segment_at, map_at, map_length}
use Rattle.tables.specs.Filling.{bases_length, table_params}

-- ---- the table of arrays and procedures

bases_at : (c : ℕ) (ws : List ℕ) (a : ℕ) → a < length ws → get_or (bases_from c ws) a 0 ≡ c + base_of ws a
unfolding bases_from base_of
bases_at c [] a h = absurd (omega arith)
bases_at c (w ∷ ws) zero h = omega arith
bases_at c (w ∷ ws) (suc a) h = let e = bases_at (c + array_length w) ws a (omega arith) in omega arith

module _ (ws : List ℕ) (ps : List Procedure) (hw : length ws ≤ 16) (hp : length ps ≤ 32) where
  words_long : length (padded 16 ws) ≡ 16
  words_long = padded_length 16 ws hw

  bases_long : length (padded 16 (bases_from 0 ws)) ≡ 16
  bases_long = padded_length 16 (bases_from 0 ws) (rw (bases_length 0 ws) hw)

  -- past the arrays
  behind : (i k : ℕ) → k ≡ 16 + (16 + suc i)
      → get_or (table_of ws ps) k 0 ≡ get_or (padded 32 (places ps) ++ (padded 32 (body_places ps) ++ padded 32 (arities ps))) i 0
  unfolding table_of
  behind i k e = rw e (get_d_past 16 (padded 16 ws) _ (16 + suc i) 0 words_long ∙ get_d_past 16 (padded 16 (bases_from 0 ws)) _ (suc i) 0 bases_long)

  count_at : get_or (table_of ws ps) 32 0 ≡ length ws
  unfolding table_of
  count_at = get_d_past 16 (padded 16 ws) _ 16 0 words_long ∙ get_d_past 16 (padded 16 (bases_from 0 ws)) _ 0 0 bases_long

  pub table_arrays : arrays_in (table_of ws ps) ≡ ws
  unfolding table_of
  table_arrays = ap (λ (n : ℕ). take n (table_of ws ps)) count_at ∙ padded_take 16 ws _

  pub table_base : (a : ℕ) → a < length ws → base_in (table_of ws ps) a ≡ base_of ws a
  unfolding table_of
  table_base a h =
      let b = bases_length 0 ws in
      get_d_past 16 (padded 16 ws) _ a 0 words_long ∙ segment_at 16 (bases_from 0 ws) _ a (omega arith) (omega arith) ∙ bases_at 0 ws a h ∙ zero-add (base_of ws a)

  full : (f : Procedure → ℕ) → length (map f ps) ≤ 32
  full f = rw (map_length f ps) hp

  module _ (f : ℕ) (h : f < length ps) where
    pub table_place : place_in (table_of ws ps) f ≡ (procedure_at ps f).place
    table_place =
        let e = map_length (λ (p : Procedure). p.place) ps in
        behind f (33 + f) (omega arith) ∙ segment_at 32 (places ps) _ f (omega arith) (omega arith) ∙ map_at (λ (p : Procedure). p.place) ps f no_procedure h

    pub table_body : body_in (table_of ws ps) f ≡ body_place (procedure_at ps f)
    table_body =
        let e = map_length body_place ps in
        behind (32 + f) (65 + f) (omega arith) ∙ get_d_past 32 (padded 32 (places ps)) _ f 0 (padded_length 32 (places ps) (full (λ (p : Procedure). p.place)))
        ∙ segment_at 32 (body_places ps) _ f (omega arith) (omega arith) ∙ map_at body_place ps f no_procedure h

    pub table_arity : get_or (params_in (table_of ws ps)) f 0 ≡ (procedure_at ps f).parameters
    table_arity =
        let e = map_length (λ (p : Procedure). p.parameters) ps in
        ap (λ (x : List ℕ). get_or x f 0) (table_params ws ps hw hp) ∙ padded_at 32 (arities ps) f (omega arith)
        ∙ map_at (λ (p : Procedure). p.parameters) ps f no_procedure h

-- ---- the table of an image that was read

-- the procedure of a number
abbrev pub procedure_in : List ℕ → ℕ → Procedure
procedure_in image f = procedure_at (image_in image).procedures f

module _ (image table : List ℕ) (k : Known image table) where
  image_is : (n : ℕ) × ImageWords true image (image_in image) n
  image_is = image_words_lem image k.read

  pub few_arrays : length (image_in image).arrays ≤ 16
  few_arrays = let (n, w) = image_is in let c = w.arrays.words.count in let l = arrays_limit w in omega arith

  pub few_procedures : length (image_in image).procedures ≤ 32
  few_procedures = let (n, w) = image_is in let c = w.count in let l = procedures_limit w in omega arith

  pub count_is : length (image_in image).procedures ≡ procedures_of (get_or image 0 0)
  count_is = image_is.1.count

  pub form_is : (image_in image).form ≡ form_of (get_or image 0 0)
  form_is = image_is.1.form

  pub form_small : (image_in image).form < 2
  form_small = form_limit image_is.1

  pub image_some : 0 < length image
  image_some = let s = image_is.1.some in omega arith

  pub image_short : length image ≤ 16384
  image_short = length_limit image_is.1

  pub few_cells : cell_count (image_in image).arrays ≤ 1024
  few_cells = cells_limit image_is.1

  pub known_arrays : arrays_in table ≡ (image_in image).arrays
  known_arrays = ap arrays_in k.filled ∙ table_arrays (image_in image).arrays (image_in image).procedures few_arrays few_procedures

  pub known_base : (a : ℕ) → a < length (image_in image).arrays → base_in table a ≡ base_of (image_in image).arrays a
  known_base a h =
      ap (λ (t : List ℕ). base_in t a) k.filled ∙ table_base (image_in image).arrays (image_in image).procedures few_arrays few_procedures a h

  module _ (f : ℕ) (h : f < length (image_in image).procedures) where
    pub known_place : place_in table f ≡ (procedure_in image f).place
    known_place =
        ap (λ (t : List ℕ). place_in t f) k.filled ∙ table_place (image_in image).arrays (image_in image).procedures few_arrays few_procedures f h

    pub known_body : body_in table f ≡ body_place (procedure_in image f)
    known_body =
        ap (λ (t : List ℕ). body_in t f) k.filled ∙ table_body (image_in image).arrays (image_in image).procedures few_arrays few_procedures f h

    pub known_arity : get_or (params_in table) f 0 ≡ (procedure_in image f).parameters
    known_arity =
        ap (λ (t : List ℕ). get_or (params_in t) f 0) k.filled
        ∙ table_arity (image_in image).arrays (image_in image).procedures few_arrays few_procedures f h

  -- each procedure's words, at its place in the table
  pub known_words : (f : ℕ) → f < length (image_in image).procedures
      → (m : ℕ) × ProcedureWords image (image_in image).form (params_in table) f (place_in table f) (procedure_in image f) m
  known_words f h = rw (known_place f h) (image_is.1.each (params_in table) (λ g l. known_arity g l) f h)

  module _ (f : ℕ) (h : f < length (image_in image).procedures) where
    pub known_mode : (procedure_in image f).mode ≡ mode_of (get_or image (place_in table f) 0)
    known_mode = (known_words f h).1.mode

    pub known_parameters : (procedure_in image f).parameters ≡ parameters_of (get_or image (place_in table f) 0)
    known_parameters = (known_words f h).1.parameters

    pub known_result : (procedure_in image f).result ≡ get_or image (place_in table f + 1) 0
    known_result = (known_words f h).1.result

    pub known_types : length (procedure_in image f).types
        ≡ parameters_of (get_or image (place_in table f) 0) + locals_of (get_or image (place_in table f) 0)
    known_types = (known_words f h).1.types.count

    pub known_type : (i : ℕ) → i < length (procedure_in image f).types
        → get_or (procedure_in image f).types i 0 ≡ get_or image (place_in table f + 1 + 1 + i) 0
    known_type i l = (known_words f h).1.types.word i (rw (← known_types) l)

    pub body_place_lem : body_in table f ≡ place_in table f + 1 + 1 + length (procedure_in image f).types
    body_place_lem = known_body f h ∙ ap (λ (n : ℕ). n + 1 + 1 + length (procedure_in image f).types) (sym (known_place f h))

    pub known_reads : (m : ℕ) × (read_block (largest_level (image_in image).form) (params_in table) f image (body_in table f) ≡ got (procedure_in image f).body m)
    known_reads = rw body_place_lem ((known_words f h).0, (known_words f h).1.body)

    -- all its words stand within the image
    pub known_within : place_in table f + 1 + 1 + length (procedure_in image f).types < length image
    known_within =
        let (m, e) = known_reads in
        let (a, b) = block_ends_lem (largest_level (image_in image).form) (params_in table) f image (body_in table f) m (procedure_in image f).body e in
        let q = body_place_lem in
        omega arith

    pub known_limits : ((procedure_in image f).mode + (image_in image).form ≤ 1) × ((procedure_in image f).parameters ≤ 8 + (image_in image).form)
        × ((procedure_in image f).parameters ≤ length (procedure_in image f).types) × (length (procedure_in image f).types ≤ 255)
    known_limits =
        let (kind, mode, few, locals) = procedure_limits (image_in image).form (get_or image (place_in table f) 0) (known_words f h).1.tested in
        let most = most_locals_lem (image_in image).form in
        let types = known_types in
        let own = known_parameters in
        let form = form_small in
        (rw known_mode mode, rw known_parameters few, omega arith, omega arith)

    -- its type words are a part of the image
    pub known_part : (n : ℕ) → n ≡ length (procedure_in image f).types → take n (drop (place_in table f + 1 + 1) image) ≡ (procedure_in image f).types
    known_part n e =
        let b = known_within in
        let size : length (take n (drop (place_in table f + 1 + 1) image)) ≡ length (procedure_in image f).types = simp (length-take, length-drop) (omega arith) in
        ext_get_or 0 (take n (drop (place_in table f + 1 + 1) image)) (procedure_in image f).types size
        (λ i l. let x : i < n = omega arith in let y : i < length (procedure_in image f).types = omega arith in rw (get_or-take, get_or-drop) (sym (known_type i y)))

  -- the number of arrays
  pub known_count : array_count_in table ≡ length (image_in image).arrays
  known_count = ap array_count_in k.filled ∙ count_at (image_in image).arrays (image_in image).procedures few_arrays few_procedures

-- the table of an image that was read, and the number of one of its procedures
pub record Listed (image table : List ℕ) (f : ℕ) : Type 0 where
  pub known : Known image table
  pub number : f < length (image_in image).procedures

-- a procedure before a listed one
pub listed_below : (image table : List ℕ) (f g : ℕ) → Listed image table f → g < f → Listed image table g
listed_below image table f g l h = let n = l.number in record { known = l.known; number = omega arith }
