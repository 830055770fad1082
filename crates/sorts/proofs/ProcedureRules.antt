-- Rules for the procedures of an image. Assumes nothing.
use Prim.Native.Nat.{ℕ}
use mathlib.Core.List.{List, flat_map}
use mathlib.Core.Path.{◌≡◌, refl, sym, ap, ◌∙◌}
use lib.ListN.{get_or, drop, replicate}
use Rattle.definitions.specs.declared.Fault.{Fault}
use Rattle.definitions.specs.Image.{largest_level}
use Rattle.definitions.specs.Reading.{got, read_block}
use Rattle.definitions.specs.Faults.{no_fault, least}
use Rattle.definitions.specs.Sorts.{block_sort_faults, mark_block, procedure_sort_faults, procedures_sort_faults, image_sort_faults}
use Rattle.laws.specs.ImageIn.{image_in, procedures_in}
use Rattle.tables.specs.Table.{Known, array_count_in, body_in, params_in}
use Rattle.tables.specs.Looking.{Listed, procedure_in, known_arity, known_count, known_reads}
use Rattle.image_words.specs.Read.{BlockRead}
use Rattle.image_words.specs.StatementParts.{block_got}
use Rattle.sorts.specs.declared.Walked.{Walked}
use Rattle.sorts.specs.Walk.{block_walked}
use Rattle.sorts.specs.Marking.{block_marks}

-- the procedure that is walked is number g of the image
module _ {im tb ts : List ℕ} {me : ℕ} (k : Listed im tb me) {image table : List ℕ} {g : ℕ} (typed : ts ≡ (procedure_in image g).types)
    (same : (me ≡ g) × (im ≡ image) × (tb ≡ table)) (b form level : ℕ) (hb : b ≡ body_in tb me) (hf : form ≡ (image_in image).form)
    (hl : level ≡ largest_level form) where
  body_reads : (m : ℕ) × (read_block level (params_in tb) me im b ≡ got (procedure_in im me).body m)
  body_reads =
      let (m, e) = known_reads im tb k.known me k.number in
      let F : form ≡ (image_in im).form = hf ∙ ap (λ x. (image_in x).form) (sym same.1) in
      (m, rw (hb, hl, F) e)

  pub body_fine : BlockRead level (params_in tb) me im b
  body_fine = let (m, e) = body_reads in block_got level (params_in tb) me im b (procedure_in im me).body m e

  one : procedure_in im me ≡ procedure_in image g
  one = ap (λ x. procedure_in x me) same.1 ∙ ap (λ x. procedure_in image x) same.0

  pub procedure_checked : (parameters result r : ℕ) (best : Fault) (m0 m1 : List ℕ) (s : Walked)
      → parameters ≡ get_or (params_in table) g 0 → result ≡ (procedure_in image g).result
      → m0 ≡ replicate 256 0 → ◌≡◌ {A = ℕ × List ℕ} (r, m1) (block_marks (read_block level (params_in tb) me im b) m0)
      → s ≡ block_walked (procedures_in im) ts (array_count_in tb) m1 (record { parameters = parameters; result = result }) best (read_block level (params_in tb) me im b)
      → s.best ≡ least best (procedure_sort_faults (procedures_in image) (array_count_in table) (procedure_in image g))
  unfolding block_marks block_walked procedure_sort_faults
  procedure_checked parameters result r best m0 m1 s ha hr h0 d q =
      let (m, e) = body_reads in
      let body = (procedure_in im me).body in
      let y : ◌≡◌ {A = ℕ × List ℕ} (r, m1) (m, mark_block body (replicate 256 0)) = d ∙ rw (h0, e) in
      let z : m1 ≡ mark_block body (replicate 256 0) = ap (λ (x : ℕ × List ℕ). x.1) y in
      let K : Listed image table g = listed_as in
      let F : s.best ≡ least best (block_sort_faults (procedures_in im) parameters ts result (array_count_in tb) m1 body) =
      ap (λ (w : Walked). w.best) (q ∙ ap (λ x. block_walked (procedures_in im) ts (array_count_in tb) m1 (record { parameters = parameters; result = result }) best x) e) in
      F ∙ rw (z, typed, one, same.1, same.2, hr, ha, known_arity image table K.known g K.number) refl
    where
      listed_as : Listed image table g
      listed_as = rw (← same.0, ← same.1, ← same.2) k

-- all procedures are left
pub image_begins : (image table : List ℕ) → Known image table
    → least no_fault (flat_map (λ p. procedure_sort_faults (procedures_in image) (array_count_in table) p) (drop 0 (procedures_in image)))
    ≡ least no_fault (image_sort_faults (image_in image))
unfolding image_sort_faults procedures_sort_faults
image_begins image table k = rw (known_count image table k)
