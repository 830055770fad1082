-- Reading types, procedures, arrays and whole images: as Reads says of their parts, with where their words stand and how
-- their bodies read. Assumes nothing.
use Prim.Native.Nat.{ℕ, zero, suc, ◌+◌, ◌*◌, ◌-◌, ◌≤◌, ◌<◌}
use Rattle.std.specs.Prelude.{Bool, ◌&&◌, ◌≡◌, leb, get_or, set, replicate}
use Rattle.std.proofs.Math.Bool.{true, false}
use mathlib.Core.List.{List, [], ◌∷◌, flat_map}
use Rattle.std.proofs.Math.Path.{refl, ap}
use Rattle.std.proofs.Common.{sym, subst, ◌∙◌, add-zero, leb-true, eqb-true, length-set, get_or-set_same, get_or-set_other}
use native.Mathlib.Omega.{arith}
use Rattle.std.proofs.Math.Nat.{zero-add}
use Rattle.std.proofs.lemmas.Bool.{eqb-false}
use Rattle.std.proofs.Math.Dec.{eqb}
use Rattle.std.proofs.Math.ListN.{length}
use Rattle.std.proofs.lemmas.List.{length-replicate}
use Rattle.definitions.specs.Choice.{pick}
use Rattle.definitions.specs.Image.{kind_of, form_of, arrays_of, procedures_of, header_word, largest_image, largest_level}
use Rattle.definitions.specs.Image.{cell_count, array_length, array_word, mode_of, parameters_of, locals_of, procedure_word}
use Rattle.definitions.specs.Image.{type_word, Block, Procedure, Image, procedure_at}
use Rattle.definitions.specs.Reading.{Parse, got, refused, Reader, and_then, on_word, read_block, read_types, read_procedure}
use Rattle.definitions.specs.Reading.{read_procedures, read_arrays, read_rest, read_image}
use Rattle.definitions.specs.Encoding.{word_with, procedure_words, procedures_words, image_words}
use Rattle.laws.specs.Tests.{and_left, and_right}
use Rattle.laws.specs.WordTests.{header_limits, procedure_limits, array_limits}
use Rattle.laws.specs.Trees.{BlockPlaces, ProceduresPlaces, no_procedure_lem, and_procedure}
use Rattle.statements.specs.Limits.{AllTypes, no_types, more_types, FitsArrays, no_arrays, more_arrays, FitsProcedure}
use Rattle.statements.specs.Limits.{FitsProcedures, no_procedures, more_procedures, arity_of, FitsImage}
use Rattle.laws.specs.Spelled.{On, on_none, on_more, on_join, on_length, on_end, on_rest, Words, words_on}
use Rattle.laws.specs.Reads.{Arities, Reads, reads, refuses, read_as, no_image_lem, wrong_word, spare_word, reads_then}
use Rattle.laws.specs.Reads.{reads_word, Inside, ReadBlock, reads_block}
use Rattle.laws.specs.Places.{block_ends_lem}
use Rattle.laws.specs.Levels.{Agree}
use Rattle.laws.specs.Parameters.{block_params}

-- a table that has one procedure's number of parameters more
pub known_next : (params : List ℕ) (me : ℕ) (arity : ℕ → ℕ) (n : ℕ) → me < length params → arity me ≡ n → Arities params me arity
    → Arities (set params me n) (me + 1) arity
known_next params me arity n l e known f h = go (eqb f me) refl
  where
    go : (b : Bool) → eqb f me ≡ b → get_or (set params me n) f 0 ≡ arity f
    go true k = let q = eqb-true f me k in rw q (get_or-set_same params me n 0 l ∙ sym e)
    go false k = let d = eqb-false f me k in get_or-set_other params me f n 0 d ∙ known f (omega arith)

-- a header and a procedure's word are made of their fields
header_is : (w a p : ℕ) → kind_of w ≡ 1 → a ≡ arrays_of w → p ≡ procedures_of w → w ≡ word_with 1 (form_of w * 65536 + a * 256 + p)
header_is w a p k e f = omega arith

procedure_is : (w n : ℕ) → kind_of w ≡ 3 → n ≡ locals_of w → w ≡ word_with 3 (mode_of w * 65536 + parameters_of w * 256 + n)
procedure_is w n k e = omega arith

-- each array has 1 to 256 cells, all together at most 1,024
array_length_lem : {cells : ℕ} {ws : List ℕ} → FitsArrays cells ws → (i : ℕ) → i < length ws → (1 ≤ array_length (get_or ws i 0)) × (array_length (get_or ws i 0) ≤ 256)
array_length_lem no_arrays i h = absurd (omega arith)
array_length_lem (more_arrays {cells} {w} g gs) zero h = let (kind, label, one, most, all) = array_limits cells w g in (one, most)
array_length_lem (more_arrays g gs) (suc i) h = array_length_lem gs i (omega arith)

few_cells : {cells : ℕ} {ws : List ℕ} → FitsArrays cells ws → cells ≤ 1024 → cells + cell_count ws ≤ 1024
unfolding cell_count
few_cells no_arrays h = omega arith
few_cells (more_arrays {cells} {w} g gs) h = let (kind, label, one, most, all) = array_limits cells w g in let y = few_cells gs all in omega arith

module _ (image : List ℕ) where
  record ReadTypes (n at : ℕ) (ts : List ℕ) (next : ℕ) : Type 0 where
    count : length ts ≡ n
    fits : AllTypes ts
    words : On image at ts next

  reads_types : (n at : ℕ) → Reads (length image) (ReadTypes n at) (read_types n image at)
  unfolding read_types
  reads_types zero at = reads (record { count = refl; fits = no_types; words = on_none })
  reads_types (suc n) at =
      reads_word image at type_word (λ w. and_then (read_types n image (at + 1)) (λ ts m. got (w ∷ ts) m))
      (λ h g. reads_then (reads_types n (at + 1)) (λ ts m x. reads (record {
        count = ap suc x.count;
        fits = more_types g x.fits;
        words = on_more h refl x.words;
      })))

  -- the array words with the number of their cells, where those before have the given number
  pub record ArrayWords (cells at n : ℕ) (ws : List ℕ) (next : ℕ) : Type 0 where
    pub words : Words image at n ws next
    pub most : cells ≤ 1024 → cells + cell_count ws ≤ 1024
    pub lengths : (i : ℕ) → i < n → (1 ≤ array_length (get_or ws i 0)) × (array_length (get_or ws i 0) ≤ 256)

  record ReadArrays (cells n at : ℕ) (ws : List ℕ) (next : ℕ) : Type 0 where
    count : length ws ≡ n
    fits : FitsArrays cells ws
    words : On image at ws next

  reads_arrays : (cells n at : ℕ) → Reads (length image) (ReadArrays cells n at) (read_arrays n cells image at)
  unfolding read_arrays
  reads_arrays cells zero at = reads (record { count = refl; fits = no_arrays; words = on_none })
  reads_arrays cells (suc n) at =
      reads_word image at (λ w. array_word cells w)
      (λ w. and_then (read_arrays n (cells + array_length w) image (at + 1)) (λ ws m. got (w ∷ ws) m))
      (λ h g. reads_then (reads_arrays (cells + array_length (get_or image at 0)) n (at + 1)) (λ ws m x. reads (record {
        count = ap suc x.count;
        fits = more_arrays g x.fits;
        words = on_more h refl x.words;
      })))

  array_words : {cells n at : ℕ} {ws : List ℕ} {next : ℕ} → ReadArrays cells n at ws next → ArrayWords cells at n ws next
  array_words x =
      let c = x.count in
      record { words = words_on c x.words; most = few_cells x.fits; lengths = λ i h. array_length_lem x.fits i (omega arith) }

  -- ---- procedures

  module _ (form : ℕ) where
    -- A procedure that was read: where its words stand, how its body reads, and as Reads says of its parts.
    pub record ProcedureWords (params : List ℕ) (me at : ℕ) (p : Procedure) (next : ℕ) : Type 0 where
      pub place : p.place ≡ at
      pub mode : p.mode ≡ mode_of (get_or image at 0)
      pub parameters : p.parameters ≡ parameters_of (get_or image at 0)
      pub result : p.result ≡ get_or image (at + 1) 0
      pub types : Words image (at + 1 + 1) (parameters_of (get_or image at 0) + locals_of (get_or image at 0)) p.types (at + 1 + 1 + length p.types)
      pub body : read_block (largest_level form) params me image (at + 1 + 1 + length p.types) ≡ got p.body next
      pub tested : procedure_word form (get_or image at 0) ≡ true
      pub begins : at + 1 < length image
      pub ends : (at < next) × (next ≤ length image)
      pub fits : (arity : ℕ → ℕ) → Arities params me arity → FitsProcedure form arity me p
      pub places : BlockPlaces (Inside image) p.body
      pub words : On image at (procedure_words p) next

    -- only the numbers of parameters of the procedures before it count
    same_words : (params params' : List ℕ) (me at : ℕ) (p : Procedure) (next : ℕ) → Agree me params' params → ProcedureWords params me at p next
        → ProcedureWords params' me at p next
    same_words params params' me at p next agree x =
        record {
          place = x.place;
          mode = x.mode;
          parameters = x.parameters;
          result = x.result;
          types = x.types;
          body = block_params params' params me agree image (largest_level form) (at + 1 + 1 + length p.types) ∙ x.body;
          tested = x.tested;
          begins = x.begins;
          ends = x.ends;
          fits = λ arity known. x.fits arity (λ f l. sym (agree f l) ∙ known f l);
          places = x.places;
          words = x.words;
        }

    record ReadProcedures (params : List ℕ) (me n at : ℕ) (ps : List Procedure) (next : ℕ) : Type 0 where
      count : length ps ≡ n
      fits : (arity : ℕ → ℕ) → Arities params me arity → ((i : ℕ) → i < length ps → arity (me + i) ≡ arity_of ps i)
          → FitsProcedures form arity me ps
      each : (arity : ℕ → ℕ) → Arities params me arity → ((i : ℕ) → i < length ps → arity (me + i) ≡ arity_of ps i)
          → (last : List ℕ) → Arities last (me + length ps) arity → (i : ℕ) → i < length ps
          → (m : ℕ) × ProcedureWords last (me + i) (procedure_at ps i).place (procedure_at ps i) m
      places : ProceduresPlaces (Inside image) ps
      words : On image at (procedures_words ps) next

    -- what is read behind a procedure's word and its result's type
    behind : List ℕ → ℕ → ℕ → ℕ → ℕ → Parse Procedure
    behind params me at w r =
        and_then (read_types (parameters_of w + locals_of w) image (at + 1 + 1))
        (λ ts n. and_then (read_block (largest_level form) params me image n)
        (λ b m. got (record { place = at; mode = mode_of w; parameters = parameters_of w; result = r; types = ts; body = b }) m))

    -- the tree of a procedure at a place, by its types and its body
    abbrev procedure_of : ℕ → List ℕ → Block → Procedure
    procedure_of at ts b =
        record {
          place = at;
          mode = mode_of (get_or image at 0);
          parameters = parameters_of (get_or image at 0);
          result = get_or image (at + 1) 0;
          types = ts;
          body = b;
        }

    -- its parts, put together
    whole_procedure : (params : List ℕ) (me at : ℕ) → at < length image → procedure_word form (get_or image at 0) ≡ true → at + 1 < length image
        → type_word (get_or image (at + 1) 0) ≡ true → (ts : List ℕ) (n : ℕ)
        → ReadTypes (parameters_of (get_or image at 0) + locals_of (get_or image at 0)) (at + 1 + 1) ts n
        → (b : Block) (m : ℕ) → read_block (largest_level form) params me image n ≡ got b m → ReadBlock image params me (largest_level form) n b m
        → ProcedureWords params me at (procedure_of at ts b) m
    unfolding procedure_words
    whole_procedure params me at h g h' t ts n x b m r y =
        let (k, mode, parameters, locals) = procedure_limits form (get_or image at 0) g in
        let c = x.count in
        let end = on_end x.words in
        let e : n ≡ at + 1 + 1 + length ts = omega arith in
        let (more, within) = block_ends_lem (largest_level form) params me image n m b r in
        let few : length ts - parameters_of (get_or image at 0) ≡ locals_of (get_or image at 0) = omega arith in
        record {
          place = refl;
          mode = refl;
          parameters = refl;
          result = refl;
          types = words_on c (rw e at x.words);
          body = ap (λ z. read_block (largest_level form) params me image z) (sym e) ∙ r;
          tested = g;
          begins = h';
          ends = (omega arith, within);
          fits = λ arity known. record {
            mode_fits = mode;
            few_parameters = parameters;
            parameters_typed = omega arith;
            few_locals = rw few locals;
            result_typed = t;
            all_typed = x.fits;
            body_fits = y.fits arity known;
          };
          places = y.places;
          words = on_more h (procedure_is (get_or image at 0) _ k few) (on_more h' refl (on_join x.words y.words));
        }

    reads_procedure : (params : List ℕ) (me at : ℕ) → Reads (length image) (ProcedureWords params me at) (read_procedure form params me image at)
    unfolding read_procedure behind
    reads_procedure params me at =
        reads_word image at (λ w. procedure_word form w) (λ w. on_word image (at + 1) type_word (behind params me at w))
        (λ h g. reads_word image (at + 1) type_word (behind params me at (get_or image at 0))
        (λ h' t. reads_then (reads_types (parameters_of (get_or image at 0) + locals_of (get_or image at 0)) (at + 1 + 1))
        (λ ts n x. with_body h g h' t ts n x (read_block (largest_level form) params me image n) refl (reads_block image params me (largest_level form) n))))
      where
        with_body : at < length image → procedure_word form (get_or image at 0) ≡ true → at + 1 < length image → type_word (get_or image (at + 1) 0) ≡ true
            → (ts : List ℕ) (n : ℕ) → ReadTypes (parameters_of (get_or image at 0) + locals_of (get_or image at 0)) (at + 1 + 1) ts n
            → (z : Parse Block) → read_block (largest_level form) params me image n ≡ z → Reads (length image) (ReadBlock image params me (largest_level form) n) z
            → Reads (length image) (ProcedureWords params me at) (and_then z (λ b m. got (procedure_of at ts b) m))
        with_body h g h' t ts n x z e (reads {a = b} {m} y) = reads (whole_procedure params me at h g h' t ts n x b m e y)
        with_body h g h' t ts n x z e (refuses r) = refuses r

    -- the first of some procedures, or one after it
    one : (params : List ℕ) (me at : ℕ) (p : Procedure) (m : ℕ) → ProcedureWords params me at p m → (ps : List Procedure) → me < length params
        → (arity : ℕ → ℕ) → Arities params me arity → ((i : ℕ) → i < length (p ∷ ps) → arity (me + i) ≡ arity_of (p ∷ ps) i)
        → (last : List ℕ) → Arities last (me + length (p ∷ ps)) arity
        → (arity me ≡ p.parameters → (i : ℕ) → i < length ps
        → (o : ℕ) × ProcedureWords last (me + 1 + i) (procedure_at ps i).place (procedure_at ps i) o)
        → (i : ℕ) → i < length (p ∷ ps)
        → (o : ℕ) × ProcedureWords last (me + i) (procedure_at (p ∷ ps) i).place (procedure_at (p ∷ ps) i) o
    one params me at p m x ps low arity known all last more rest zero h =
        let e : me + 0 ≡ me = omega arith in (
          m,
          rw e (subst (λ (q : ℕ). ProcedureWords last me q p m) (sym x.place)
              (same_words params last me at p m (λ g l. more g (omega arith) ∙ sym (known g l)) x)),
        )
    one params me at p m x ps low arity known all last more rest (suc i) h =
        let e : me + suc i ≡ me + 1 + i = omega arith in
        let first : arity me ≡ p.parameters = ap arity (omega arith) ∙ all 0 (omega arith) in
        rw e (rest first i (omega arith))

    reads_procedures : (n : ℕ) (params : List ℕ) (me at : ℕ) → me + n ≤ length params
        → Reads (length image) (ReadProcedures params me n at) (read_procedures n form params me image at)
    unfolding read_procedures procedures_words flat_map
    reads_procedures zero params me at room =
        reads (record {
          count = refl;
          fits = λ arity known all. no_procedures;
          each = λ arity known all last more i h. absurd (omega arith);
          places = no_procedure_lem;
          words = on_none;
        })
    reads_procedures (suc n) params me at room =
        reads_then (reads_procedure params me at)
        (λ p m x. reads_then (reads_procedures n (set params me p.parameters) (me + 1) m (rw (length-set params me p.parameters) (omega arith)))
        (λ ps o y. reads (record {
          count = ap suc y.count;
          fits = λ arity known all.
              let first : arity me ≡ p.parameters = ap arity (omega arith) ∙ all 0 (omega arith) in
              more_procedures first (x.fits arity known)
              (y.fits arity (known_next params me arity p.parameters (omega arith) first known)
              (λ i h. ap arity (omega arith) ∙ all (suc i) (omega arith)));
          each = λ arity known all last more i h. one params me at p m x ps (omega arith) arity known all last more
              (λ first. y.each arity (known_next params me arity p.parameters (omega arith) first known)
              (λ j l. ap arity (omega arith) ∙ all (suc j) (omega arith)) last (λ g l. more g (omega arith))) i h;
          places = and_procedure x.places y.places;
          words = on_join x.words y.words;
        })))

pub open_procedure : (form : ℕ) (params : List ℕ) (me : ℕ) (image : List ℕ) (at : ℕ) (p : Procedure) (next : ℕ)
    → read_procedure form params me image at ≡ got p next → ProcedureWords image form params me at p next
open_procedure form params me image at p next r = read_as (rw r at (reads_procedure image form params me at))

-- only the numbers of parameters of the procedures before it count
pub procedure_params : (form : ℕ) (params params' : List ℕ) (me : ℕ) (image : List ℕ) (at : ℕ) → Agree me params params'
    → read_procedure form params me image at ≡ read_procedure form params' me image at
unfolding read_procedure
procedure_params form params params' me image at agree =
    ap (λ (block : Reader Block). on_word image at (λ w. procedure_word form w)
    (λ w. on_word image (at + 1) type_word
    (λ r. and_then (read_types (parameters_of w + locals_of w) image (at + 1 + 1))
    (λ ts n. and_then (block n)
    (λ b m. got (record { place = at; mode = mode_of w; parameters = parameters_of w; result = r; types = ts; body = b }) m)))))
    same
  where
    same : ◌≡◌ {A = Reader Block} (λ a. read_block (largest_level form) params me image a) (λ a. read_block (largest_level form) params' me image a)
    same = λ i. λ a. block_params params params' me agree image (largest_level form) a i

-- ---- images

-- An image that was read: its header, where its array words stand, how its procedures read. Its words are whole, no more than
-- its form allows, and those that its tree spells; the tree keeps the limits and has its places among the words.
pub record ImageWords (whole : Bool) (image : List ℕ) (tree : Image) (next : ℕ) : Type 0 where
  pub some : 1 ≤ length image
  pub header : header_word (get_or image 0 0) ≡ true
  pub is_whole : whole ≡ true
  pub short : length image ≤ largest_image (form_of (get_or image 0 0))
  pub form : tree.form ≡ form_of (get_or image 0 0)
  pub arrays : ArrayWords image 0 1 (arrays_of (get_or image 0 0)) tree.arrays (1 + length tree.arrays)
  pub procedures : read_procedures (procedures_of (get_or image 0 0)) tree.form (replicate 32 0) 0 image (1 + length tree.arrays)
      ≡ got tree.procedures (length image)
  pub count : length tree.procedures ≡ procedures_of (get_or image 0 0)
  pub each : (params : List ℕ) → Arities params (length tree.procedures) (arity_of tree.procedures) → (f : ℕ) → f < length tree.procedures
      → (m : ℕ) × ProcedureWords image tree.form params f (procedure_at tree.procedures f).place (procedure_at tree.procedures f) m
  pub ends : next ≡ length image
  pub fits : FitsImage tree
  pub places : ProceduresPlaces (Inside image) tree.procedures
  pub spelled : image ≡ image_words tree

module _ (image : List ℕ) (some : 0 < length image) (h : header_word (get_or image 0 0) ≡ true)
    (long : length image ≤ largest_image (form_of (get_or image 0 0))) where
  -- the tree of an image, by its arrays and its procedures
  abbrev image_of : List ℕ → List Procedure → Image
  image_of ws ps = record { form = form_of (get_or image 0 0); arrays = ws; procedures = ps }

  -- its parts, put together
  whole_image : (ws : List ℕ) (n : ℕ) → ReadArrays image 0 (arrays_of (get_or image 0 0)) 1 ws n
      → (ps : List Procedure) (m : ℕ)
      → read_procedures (procedures_of (get_or image 0 0)) (form_of (get_or image 0 0)) (replicate 32 0) 0 image n ≡ got ps m
      → ReadProcedures image (form_of (get_or image 0 0)) (replicate 32 0) 0 (procedures_of (get_or image 0 0)) n ps m
      → m ≡ length image → ImageWords true image (image_of ws ps) m
  unfolding image_words
  whole_image ws n x ps m r y e =
      let (k, form, arrays, one, procedures) = header_limits (get_or image 0 0) h in
      let c = x.count in
      let d = y.count in
      let end = on_end x.words in
      let b : n ≡ 1 + length ws = omega arith in
      record {
        some = omega arith;
        header = h;
        is_whole = refl;
        short = long;
        form = refl;
        arrays = array_words image (rw b at x);
        procedures =
            ap (λ z. read_procedures (procedures_of (get_or image 0 0)) (form_of (get_or image 0 0)) (replicate 32 0) 0 image z) (sym b) ∙ r
            ∙ ap (λ z. got ps z) e;
        count = d;
        each = λ params known f l.
            rw zero-add at (y.each (arity_of ps) (λ g b. absurd (omega arith)) (λ i b. ap (arity_of ps) (zero-add i)) params (λ g b. known g (omega arith)) f l);
        ends = e;
        fits = record {
          form_fits = form;
          few_arrays = omega arith;
          arrays_fit = x.fits;
          some_procedure = omega arith;
          few_procedures = omega arith;
          procedures_fit = y.fits (arity_of ps) (λ f l. absurd (omega arith)) (λ i l. ap (arity_of ps) (zero-add i));
        };
        places = y.places;
        spelled = on_rest (on_more some (header_is (get_or image 0 0) (length ws) (length ps) k c d) (on_join x.words y.words)) e;
      }

  spare : (ws : List ℕ) (n : ℕ) → ReadArrays image 0 (arrays_of (get_or image 0 0)) 1 ws n → (ps : List Procedure) (m : ℕ)
      → ReadProcedures image (form_of (get_or image 0 0)) (replicate 32 0) 0 (procedures_of (get_or image 0 0)) n ps m
      → (m ≡ length image → ⊥) → m < length image
  spare ws n x ps m y f =
      let a = on_end x.words in
      let b = on_length x.words (omega arith) in
      let c = on_end y.words in
      let d = on_length y.words (omega arith) in
      omega arith

  reads_rest : Reads (length image) (ImageWords true image) (read_rest (get_or image 0 0) image)
  unfolding read_rest
  reads_rest =
      let (k, form, arrays, one, procedures) = header_limits (get_or image 0 0) h in
      reads_then (reads_arrays image 0 (arrays_of (get_or image 0 0)) 1) (λ ws n x.
      last ws n x (read_procedures (procedures_of (get_or image 0 0)) (form_of (get_or image 0 0)) (replicate 32 0) 0 image n) refl
      (reads_procedures image (form_of (get_or image 0 0)) (procedures_of (get_or image 0 0)) (replicate 32 0) 0 n
      (rw (length-replicate {A = ℕ} 32 0) (rw zero-add procedures))))
    where
      tested : (ws : List ℕ) (n : ℕ) → ReadArrays image 0 (arrays_of (get_or image 0 0)) 1 ws n → (ps : List Procedure) (m : ℕ)
          → read_procedures (procedures_of (get_or image 0 0)) (form_of (get_or image 0 0)) (replicate 32 0) 0 image n ≡ got ps m
          → ReadProcedures image (form_of (get_or image 0 0)) (replicate 32 0) 0 (procedures_of (get_or image 0 0)) n ps m
          → (b : Bool) → eqb m (length image) ≡ b → Reads (length image) (ImageWords true image) (pick b (got (image_of ws ps) m) (refused 4 m))
      tested ws n x ps m r y true e = reads (whole_image ws n x ps m r y (eqb-true m (length image) e))
      tested ws n x ps m r y false e = refuses (spare_word (spare ws n x ps m y (eqb-false m (length image) e)))

      last : (ws : List ℕ) (n : ℕ) → ReadArrays image 0 (arrays_of (get_or image 0 0)) 1 ws n → (z : Parse (List Procedure))
          → read_procedures (procedures_of (get_or image 0 0)) (form_of (get_or image 0 0)) (replicate 32 0) 0 image n ≡ z
          → Reads (length image) (ReadProcedures image (form_of (get_or image 0 0)) (replicate 32 0) 0 (procedures_of (get_or image 0 0)) n) z
          → Reads (length image) (ImageWords true image)
          (and_then z (λ ps m. pick (eqb m (length image)) (got (image_of ws ps) m) (refused 4 m)))
      last ws n x z e (reads {a = ps} {m} y) = tested ws n x ps m e y (eqb m (length image)) refl
      last ws n x z e (refuses r) = refuses r

pub reads_image : (whole : Bool) (image : List ℕ) → Reads (length image) (ImageWords whole image) (read_image whole image)
unfolding read_image
reads_image whole image =
    go (eqb (length image) 0) (header_word (get_or image 0 0)) (whole && leb (length image) (largest_image (form_of (get_or image 0 0)))) refl refl refl
  where
    some : eqb (length image) 0 ≡ false → 0 < length image
    some e = let n = eqb-false (length image) 0 e in omega arith

    go : (a b c : Bool) → eqb (length image) 0 ≡ a → header_word (get_or image 0 0) ≡ b
        → (whole && leb (length image) (largest_image (form_of (get_or image 0 0)))) ≡ c
        → Reads (length image) (ImageWords whole image)
        (pick a (refused 1 0) (pick b (pick c (read_rest (get_or image 0 0) image) (refused 1 0)) (refused 2 0)))
    go true b c e f g = refuses no_image_lem
    go false true true e f g = rw (and_left whole _ g) (reads_rest image (some e) f (leb-true _ _ (and_right whole _ g)))
    go false true false e f g = refuses no_image_lem
    go false false c e f g = refuses (wrong_word (some e))

pub open_image : (whole : Bool) (image : List ℕ) (tree : Image) (next : ℕ) → read_image whole image ≡ got tree next → ImageWords whole image tree next
open_image whole image tree next e = read_as (rw e at (reads_image whole image))

-- the procedure with a number
pub procedure_fits : {form : ℕ} {arity : ℕ → ℕ} {me : ℕ} {ps : List Procedure} → FitsProcedures form arity me ps → (i : ℕ) → i < length ps
    → FitsProcedure form arity (me + i) (procedure_at ps i)
procedure_fits no_procedures i h = absurd (omega arith)
procedure_fits {form} {arity} (more_procedures {me} {p} {ps} e f fs) zero h = rw (add-zero me) f
procedure_fits {form} {arity} (more_procedures {me} {p} {ps} e f fs) (suc i) h =
    let z = procedure_fits fs i (omega arith) in
    let same : me + 1 + i ≡ me + suc i = omega arith in
    rw same at z

-- the procedures' numbers of parameters, as a table
pub arities : List Procedure → List ℕ
arities [] = []
arities (p ∷ ps) = p.parameters ∷ arities ps

pub arities_known : (ps : List Procedure) → Arities (arities ps) (length ps) (arity_of ps)
unfolding arities
arities_known [] f h = absurd (omega arith)
arities_known (p ∷ ps) zero h = refl
arities_known (p ∷ ps) (suc f) h = arities_known ps f (omega arith)
