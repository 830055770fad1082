-- Rules for the procedures of an image, one after the other. Assumes nothing.
use Prim.Native.Nat.{ℕ, suc, ◌+◌, ◌≤◌, ◌<◌}
use mathlib.Core.List.{List}
use mathlib.Core.Path.{◌≡◌, sym, ap, ◌∙◌}
use native.Mathlib.Nat.{zero-add}
use native.Mathlib.Numerals.{add-one}
use native.Mathlib.Omega.{arith}
use borrow.Author.Tests.{lt-ltb, le-ltb}
use lib.ListN.{length, set}
use Rattle.std.specs.Prelude.{Option, None}
use Rattle.definitions.specs.declared.Answer.{Answer}
use Rattle.definitions.specs.declared.Answer.TheVariants.{Refused}
use Rattle.definitions.specs.Image.{largest_level}
use Rattle.definitions.specs.Reading.{read_block, got}
use Rattle.definitions.specs.StepBounds.{procedure_cost, variable_fors}
use Rattle.definitions.specs.Requests.{bounded, bound_on}
use Rattle.laws.specs.ImageIn.{image_in, procedures_in}
use Rattle.image_words.specs.Read.{BlockRead}
use Rattle.image_words.specs.StatementParts.{block_got}
use Rattle.tables.specs.Table.{body_in, params_in, Known}
use Rattle.tables.specs.Looking.{Listed, procedure_in, few_procedures, known_reads}
use Rattle.step_bounds.specs.Counting.{capped, lower, with_own, counted_block, CountedProcedure, judged}
use Rattle.step_bounds.specs.Summaries.{Few, Summaries, few_lowest, one_more, answer_is}
use Rattle.step_bounds.specs.declared.walk.Summary.{Summary}
use Rattle.step_bounds.specs.declared.walk.Counted.{Counted}

pub listed_few : {image table : List ℕ} {f : ℕ} → Listed image table f → f < 32
listed_few {image} {table} k = let n = k.number in let m = few_procedures image table k.known in omega arith

-- where a procedure's walk begins
abbrev pub begun : ℕ → Counted
begun body = record { at = body; cost = 0; first = None; lowest = None }

-- the procedure that is walked is number g of the image
module _ {im tb : List ℕ} {me : ℕ} (k : Listed im tb me) {image table : List ℕ} {g : ℕ} (same : (me ≡ g) × (im ≡ image) × (tb ≡ table)) (b form level : ℕ)
    (hb : b ≡ body_in tb me) (hf : form ≡ (image_in image).form) (hl : level ≡ largest_level form) where
  body_reads : (m : ℕ) × (read_block level (params_in tb) me im b ≡ got (procedure_in im me).body m)
  body_reads =
      let (m, e) = known_reads im tb k.known me k.number in
      let F : form ≡ (image_in im).form = hf ∙ ap (λ x. (image_in x).form) (sym same.1) in
      (m, rw (hb, hl, F) e)

  pub body_fine : BlockRead level (params_in tb) me im b
  body_fine = let (m, e) = body_reads in block_got level (params_in tb) me im b (procedure_in im me).body m e

  pub procedure_counted : (callees : List Summary) (r : Counted) → r ≡ counted_block callees (begun b) (read_block level (params_in tb) me im b)
      → CountedProcedure (procedures_in image) callees g (record { cost = r.cost; first = r.first; lowest = r.lowest })
  unfolding counted_block lower
  procedure_counted callees r q =
      let (m, e) = body_reads in
      let one : (procedure_in im me).body ≡ (procedure_in image g).body =
      ap (λ x. (procedure_in x me).body) same.1 ∙ ap (λ x. (procedure_in image x).body) same.0 in
      let F : r ≡ counted_block callees (begun b) (got (procedure_in image g).body m) =
      q ∙ ap (λ x. counted_block callees (begun b) x) e ∙ ap (λ x. counted_block callees (begun b) (got x m)) one in
      record {
        cost_is = ap (λ (z : Counted). z.cost) F ∙ ap capped (zero-add _);
        first_is = ap (λ (z : Counted). z.first) F;
        lowest_is = ap (λ (z : Counted). z.lowest) F;
      }

-- the procedures up to f
module _ {image table : List ℕ} (k : Known image table) {f : ℕ} (h : f < length (image_in image).procedures) {callees : List Summary} (g : ℕ)
    (s : Summaries (procedures_in image) g callees) where
  few : f < 32
  few = let m = few_procedures image table k in omega arith

  pub place_there : g < f → (i : ℕ) → i ≡ g → i < 32
  place_there l i e = let p = few in omega arith

  pub more_known : g < f → (c : Summary) → CountedProcedure (procedures_in image) callees g c → (i : ℕ) (lowest : Option ℕ) → i ≡ g
      → lowest ≡ with_own c.first g c.lowest
      → Summaries (procedures_in image) (g + 1) (set callees i (record { cost = c.cost; first = c.first; lowest = lowest }))
  more_known l c n i lowest e r = rw (e, add-one g) (one_more s n (let p = few in omega arith) lowest r)

  -- the last
  module _ (least : f ≤ g) (most : g ≤ f) (c : Summary) (n : CountedProcedure (procedures_in image) callees f c) where
    same : g ≡ f
    same = omega arith

    pub last_few : Few c.lowest
    last_few = few_lowest (rw same at s) n

    pub last_answer : (r : Answer) → r ≡ judged c callees
        → r ≡ bounded (variable_fors (procedures_in image) f) (procedure_cost (procedures_in image) (suc f) f)
    last_answer r e = e ∙ answer_is (rw same at s) n (let p = few in omega arith)

module _ (image : List ℕ) (n f : ℕ) (h : n ≡ length (image_in image).procedures) where
  pub bound_none : n ≤ f → Refused 17 0 ≡ bound_on (image_in image) f
  unfolding bound_on
  bound_none l = rw (le-ltb f (length (procedures_in image)) (omega arith))

  pub bound_there : f < n → (r : Answer) → r ≡ bounded (variable_fors (procedures_in image) f) (procedure_cost (procedures_in image) (suc f) f)
      → r ≡ bound_on (image_in image) f
  unfolding bound_on
  bound_there l r e = rw (lt-ltb f (length (procedures_in image)) (omega arith)) e
