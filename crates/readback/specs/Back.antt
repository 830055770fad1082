-- The reader reads the words that spell an image as that image, up to places. Assumes nothing.
use Rattle.std.specs.Prelude.{ℕ, suc, ◌+◌, ◌*◌, ◌/◌, ◌%◌, ◌-◌, ◌≤◌, ◌<◌, Bool, true, false, ◌≡◌, refl, eqb, length, get_or, set, replicate}
use mathlib.Core.List.{List, [], ◌∷◌, ◌++◌, flat_map}
use Rattle.std.proofs.Common.{sym, ◌∙◌, arith, zero-add, length-set, lt-ltb, le-leb, eq-eqb}
use Rattle.std.proofs.Math.Dec.{eqb-suc-zero}
use Rattle.std.proofs.lemmas.List.{length-replicate}
use Rattle.definitions.specs.Choice.{pick}
use Rattle.definitions.specs.Image.{kind_of, payload_of, header_word, largest_image, largest_level, array_length, array_word}
use Rattle.definitions.specs.Image.{mode_of, parameters_of, locals_of, procedure_word, type_word, Procedure, Image}
use Rattle.definitions.specs.Reading.{Parse, got, and_then, on_word, read_block, read_types, read_procedure, read_procedures}
use Rattle.definitions.specs.Reading.{read_arrays, read_rest, read_image}
use Rattle.definitions.specs.Encoding.{word_with, statement_count, statements_words, block_words, procedure_words}
use Rattle.definitions.specs.Encoding.{procedures_words, image_words}
use Rattle.laws.specs.Reads.{Arities}
use Rattle.statements.specs.Limits.{AllTypes, no_types, more_types, FitsArrays, no_arrays, more_arrays, FitsProcedure}
use Rattle.statements.specs.Limits.{FitsProcedures, no_procedures, more_procedures, arity_of, FitsImage}
use Rattle.laws.specs.ReadImages.{known_next}
use Rattle.laws.specs.Spelled.{On, on_first, on_nothing, on_split, on_whole}
use Rattle.readback.specs.Like.{LikeBlock, LikeProcedure, LikeProcedures, like_empty, like_next, LikeImage}
use Rattle.readback.specs.Parses.{Reads, reads, reads_then, reads_word}
use Rattle.readback.specs.BackBody.{back_block}

pub back_types : {ts : List ℕ} → AllTypes ts → (image : List ℕ) (at next : ℕ) → On image at ts next → Reads (λ us. us ≡ ts) next (read_types (length ts) image at)
unfolding read_types
back_types no_types image at next o = reads (on_nothing o) refl
back_types (more_types {w} {ws} h hs) image at next o =
    let (a, e, n) = on_first o in
    let r = back_types hs image (at + 1) next n in
    reads_word image at w type_word {f = λ v. and_then (read_types (length ws) image (at + 1)) (λ us m. got (v ∷ us) m)} a e h
    (λ v q. reads_then {f = λ us m. got (v ∷ us) m} r (λ us k q' z. reads q' (rw (q, z))))

pub back_arrays :
    {cells : ℕ} {ws : List ℕ} → FitsArrays cells ws → (image : List ℕ) (at next : ℕ) → On image at ws next
    → Reads (λ us. us ≡ ws) next (read_arrays (length ws) cells image at)
unfolding read_arrays
back_arrays no_arrays image at next o = reads (on_nothing o) refl
back_arrays (more_arrays {cells} {w} {ws} h hs) image at next o =
    let (a, e, n) = on_first o in
    let r = back_arrays hs image (at + 1) next n in
    reads_word image at w (λ z. array_word cells z) {f = λ v. and_then (read_arrays (length ws) (cells + array_length v) image (at + 1)) (λ us m. got (v ∷ us) m)} a e h
    (λ v q. rw q (reads_then {f = λ us m. got (w ∷ us) m} r (λ us k q' z. reads q' (rw z))))

-- the fields of a procedure's word, and of a header
abbrev packed : ℕ → ℕ → ℕ → ℕ → ℕ
packed k a b c = word_with k (a * 65536 + b * 256 + c)

packed_kind : (k a b c : ℕ) → a < 4096 → b < 256 → c < 256 → kind_of (packed k a b c) ≡ k
packed_kind k a b c h g i = omega arith

packed_high : (k a b c : ℕ) → a < 4096 → b < 256 → c < 256 → payload_of (packed k a b c) / 65536 ≡ a
packed_high k a b c h g i = omega arith

packed_middle : (k a b c : ℕ) → a < 4096 → b < 256 → c < 256 → payload_of (packed k a b c) / 256 % 256 ≡ b
packed_middle k a b c h g i = omega arith

packed_low : (k a b c : ℕ) → a < 4096 → b < 256 → c < 256 → payload_of (packed k a b c) % 256 ≡ c
packed_low k a b c h g i = omega arith

procedure_word_good :
    (form mode parameters locals : ℕ) → mode + form ≤ 1 → parameters ≤ 8 + form → locals ≤ pick (eqb form 0) 64 246 → locals < 256
    → procedure_word form (packed 3 mode parameters locals) ≡ true
unfolding procedure_word
procedure_word_good form a b c h g i j =
    rw (
      packed_kind 3 a b c (omega arith) (omega arith) j,
      packed_high 3 a b c (omega arith) (omega arith) j,
      packed_middle 3 a b c (omega arith) (omega arith) j,
      packed_low 3 a b c (omega arith) (omega arith) j,
      le-leb (a + form) 1 h,
      le-leb b (8 + form) g,
      le-leb c (pick (eqb form 0) 64 246) i,
    )

largest_locals : (form : ℕ) (n : ℕ) → n ≤ pick (eqb form 0) 64 246 → n < 256
largest_locals form n = go (eqb form 0)
  where
    go : (b : Bool) → n ≤ pick b 64 246 → n < 256
    go true h = omega arith
    go false h = omega arith

pub back_procedure :
    (image : List ℕ) → length image < 268435456 → (form : ℕ) (params : List ℕ) (me : ℕ) → me < 256 → (arity : ℕ → ℕ) → Arities params me arity → (p : Procedure) → FitsProcedure form arity me p
    → (at next : ℕ) → On image at (procedure_words p) next → Reads (LikeProcedure p) next (read_procedure form params me image at)
unfolding read_procedure procedure_words block_words
back_procedure image small form params me few arity known p fit at next o =
    let (a, e, n) = on_first o in
    let (a', e', n') = on_first n in
    let (m, n₁, n₂) = on_split p.types (word_with 5 (statement_count p.body) ∷ statements_words p.body) n' in
    go m a e a' e' (back_types fit.all_typed image (at + 1 + 1) m n₁) (back_block image small params me few arity known fit.body_fits m next n₂)
  where
    locals : ℕ
    locals = length p.types - p.parameters

    rest : ℕ → ℕ → Parse Procedure
    rest w r =
        and_then (read_types (parameters_of w + locals_of w) image (at + 1 + 1))
        (λ ts n. and_then (read_block (largest_level form) params me image n)
        (λ b m. got (record { place = at; mode = mode_of w; parameters = parameters_of w; result = r; types = ts; body = b }) m))

    go : (m : ℕ) → at < length image → get_or image at 0 ≡ packed 3 p.mode p.parameters locals → at + 1 < length image → get_or image (at + 1) 0 ≡ p.result
        → Reads (λ us. us ≡ p.types) m (read_types (length p.types) image (at + 1 + 1)) → Reads (LikeBlock p.body) next (read_block (largest_level form) params me image m)
        → Reads (LikeProcedure p) next (read_procedure form params me image at)
    go m a e a' e' r s =
        let h₀ = fit.mode_fits in
        let h₁ = fit.few_parameters in
        let h₂ = fit.parameters_typed in
        let h₃ = fit.few_locals in
        let few : locals < 256 = largest_locals form (length p.types - p.parameters) h₃ in
        let all : p.parameters + locals ≡ length p.types = omega arith in
        reads_word image at (packed 3 p.mode p.parameters locals) (λ z. procedure_word form z) {f = λ w. on_word image (at + 1) type_word (rest w)} a e
        (procedure_word_good form p.mode p.parameters locals h₀ h₁ h₃ few)
        (λ u q. rw q (reads_word image (at + 1) p.result type_word {f = rest (packed 3 p.mode p.parameters locals)} a' e' fit.result_typed
        (λ v q'. rw (
          packed_high 3 p.mode p.parameters locals (omega arith) (omega arith) few,
          packed_middle 3 p.mode p.parameters locals (omega arith)
              (omega arith) few,
          packed_low 3 p.mode p.parameters locals (omega arith) (omega arith) few,
          all,
        )
        (reads_then r (λ ts k i z. reads_then (rw (sym i) at s) (λ b j i' z'. reads i'
        (record { modes = refl; parameters = refl; results = sym q'; types = sym z; bodies = z' })))))))

then_procedures :
    (image : List ℕ) (form : ℕ) (params : List ℕ) (me : ℕ) (p : Procedure) (ps : List Procedure) (at m next n : ℕ) → p.parameters ≡ n
    → Reads (LikeProcedure p) m (read_procedure form params me image at) → Reads (LikeProcedures ps) next (read_procedures (length ps) form (set params me n) (me + 1) image m)
    → Reads (LikeProcedures (p ∷ ps)) next (read_procedures (suc (length ps)) form params me image at)
unfolding read_procedures
then_procedures image form params me p ps at m next n e r s =
    reads_then r (λ q k i z. let same : n ≡ q.parameters = sym e ∙ z.parameters in reads_then (rw (same, sym i) at s) (λ qs k' i' z'. reads i' (like_next z z')))

pub back_procedures :
    (image : List ℕ) → length image < 268435456 → (form : ℕ) (arity : ℕ → ℕ) {me : ℕ} {ps : List Procedure} → FitsProcedures form arity me ps
    → (params : List ℕ) → Arities params me arity → me + length ps ≤ length params → length params ≤ 32
    → (at next : ℕ) → On image at (procedures_words ps) next → Reads (LikeProcedures ps) next (read_procedures (length ps) form params me image at)
unfolding read_procedures procedures_words flat_map
back_procedures image small form arity no_procedures params known room short at next o = reads (on_nothing o) like_empty
back_procedures image small form arity (more_procedures {me} {p} {ps} e fit fits) params known room short at next o =
    let (m, n₁, n₂) = on_split (procedure_words p) (procedures_words ps) o in
    let s = back_procedures image small form arity fits (set params me p.parameters) (known_next params me arity p.parameters (omega arith) e known)
    (rw (length-set params me p.parameters) (omega arith)) (rw (length-set params me p.parameters) short) m next n₂ in
    then_procedures image form params me p ps at m next p.parameters refl (back_procedure image small form params me (omega arith) arity known p fit at m n₁) s

abbrev packed_header : Image → ℕ
packed_header i = packed 1 i.form (length i.arrays) (length i.procedures)

header_word_good : (a b c : ℕ) → a < 2 → b ≤ 16 → 1 ≤ c → c ≤ 32 → header_word (packed 1 a b c) ≡ true
unfolding header_word
header_word_good a b c h g i j =
    rw (
      packed_kind 1 a b c (omega arith) (omega arith) (omega arith),
      packed_high 1 a b c (omega arith) (omega arith) (omega arith),
      packed_middle 1 a b c (omega arith) (omega arith) (omega arith),
      packed_low 1 a b c (omega arith) (omega arith) (omega arith),
      lt-ltb a 2 h,
      le-leb b 16 g,
      le-leb 1 c i,
      le-leb c 32 j,
    )

largest_small : (form n : ℕ) → n ≤ largest_image form → n < 268435456
largest_small form n = go (eqb form 0)
  where
    go : (b : Bool) → n ≤ pick b 4096 16384 → n < 268435456
    go true h = omega arith
    go false h = omega arith

back_rest :
    (i : Image) → FitsImage i → (image : List ℕ) → length image < 268435456 → On image 1 (i.arrays ++ procedures_words i.procedures) (length image)
    → Reads (LikeImage i) (length image) (read_rest (packed_header i) image)
unfolding read_rest
back_rest i fit image small o =
    let (m, n₁, n₂) = on_split i.arrays (procedures_words i.procedures) o in
    go m (back_arrays fit.arrays_fit image 1 m n₁)
    (back_procedures image small i.form (arity_of i.procedures) fit.procedures_fit (replicate 32 0) (λ f h. absurd (omega arith))
    (rw (length-replicate {A = ℕ} 32 0, zero-add) fit.few_procedures) (rw (length-replicate {A = ℕ} 32 0) (omega arith)) m (length image) n₂)
  where
    go : (m : ℕ) → Reads (λ us. us ≡ i.arrays) m (read_arrays (length i.arrays) 0 image 1)
        → Reads (LikeProcedures i.procedures) (length image) (read_procedures (length i.procedures) i.form (replicate 32 0) 0 image m)
        → Reads (LikeImage i) (length image) (read_rest (packed_header i) image)
    go m r s =
        let h₀ = fit.form_fits in
        let h₁ = fit.few_arrays in
        let h₂ = fit.few_procedures in
        rw (
          packed_high 1 i.form (length i.arrays) (length i.procedures) (omega arith) (omega arith) (omega arith),
          packed_middle 1 i.form (length i.arrays) (length i.procedures) (omega arith) (omega arith) (omega arith),
          packed_low 1 i.form (length i.arrays) (length i.procedures) (omega arith) (omega arith) (omega arith),
        )
        (reads_then r (λ ws k q z. reads_then (rw (sym q) at s) (λ ps k' q' z'.
        rw (eq-eqb k' (length image) q') (reads q' (record { forms = refl; arrays = sym z; procedures = z' })))))

-- An image that fits, and is no longer than its form allows, is read back from its words.
pub back_image : (i : Image) → FitsImage i → length (image_words i) ≤ largest_image i.form → Reads (LikeImage i) (length (image_words i)) (read_image true (image_words i))
unfolding read_image image_words
back_image i fit few =
    let rest = i.arrays ++ procedures_words i.procedures in
    let h₀ = fit.form_fits in
    let h₁ = fit.few_arrays in
    let h₂ = fit.few_procedures in
    let small : suc (length rest) < 268435456 = largest_small i.form (suc (length rest)) few in
    rw (
      eqb-suc-zero (length rest),
      header_word_good i.form (length i.arrays) (length i.procedures) h₀ h₁ fit.some_procedure h₂,
      packed_high 1 i.form (length i.arrays) (length i.procedures) (omega arith) (omega arith) (omega arith),
      le-leb (suc (length rest)) (largest_image i.form) few,
    )
    (back_rest i fit (packed_header i ∷ rest) small (on_whole (packed_header i ∷ rest) (packed_header i ∷ []) rest refl))
