-- What the returns of a procedure's parts give, and what their calls ask. Assumes nothing.
use Prim.Native.Nat.{ℕ, ◌+◌, ◌*◌, ◌-◌, ◌≤◌, max}
use mathlib.Core.Bool.{Bool, true, false}
use mir.Val.{bool_byte as from_bool}
use mathlib.Core.List.{List, [], ◌∷◌, ◌++◌}
use mathlib.Core.Path.{◌≡◌, refl, sym, ap, ◌∙◌}
use native.Mathlib.Omega.{arith}
use lib.ListN.{length, get_or, take, drop}
use Rattle.definitions.specs.Choice.{pick}
use Rattle.definitions.specs.Operators.{word_sort, boolean_sort}
use Rattle.definitions.specs.Image.{form_of, guarded, largest_level, Procedure}
use Rattle.definitions.specs.Reading.{got, read_block}
use Rattle.definitions.specs.Labels.{rc_after_block}
use Rattle.definitions.specs.Encoding.{word_with, statement_word_with, statement_count, statements_words, block_words, procedure_words}
use Rattle.definitions.specs.Compiling.{secret_boolean, secret_of, defers, guards, return_variable, first_pair, levels, needed, pair_types}
use Rattle.definitions.specs.Compiling.{first_moved, temporary_of, compiled_block, compiled_body, compiled_procedure}
use Rattle.laws.specs.ImageIn.{image_in, procedures_in, image_words_lem}
use Rattle.laws.specs.Nesting.{nesting_read}
use Rattle.laws.specs.CompiledLocals.{types_words, types_count}
use Rattle.image_words.specs.Read.{BlockRead}
use Rattle.image_words.specs.StatementParts.{block_got}
use Rattle.tables.specs.Table.{arrays_in, body_in, params_in}
use Rattle.tables.specs.Looking.{Listed, procedure_in, known_arrays, known_arity, known_reads, known_limits}
use Rattle.writer.specs.Writing.{Output, write, writes}
use Rattle.writer.specs.Laws.{writes_on, writes_app, run_run, patched}
use Rattle.emission.specs.Emitted.{Emission, outcome, emitted_block}
use Rattle.emission.specs.declared.Scope.{Scope}
use Rattle.emission.specs.declared.Cursor.{Cursor}
use Rattle.locals.specs.Walk.{found_block}
use Rattle.locals.specs.declared.Found.{Found}
use Rattle.procedures.specs.Procedures.{Described, numbers_of, types_of, head_for, types_for, body_for, procedure_for}
use Rattle.procedures.specs.declared.Source.{Source}
use Rattle.procedures.specs.declared.Numbers.{Numbers}
use Rattle.procedures.proofs.Shapes.{closed_count, closed_words}

-- ---- a procedure of form 0, by its number

module _ (image table : List ℕ) (f : ℕ) (h : Listed image table f) (s : (image_in image).form ≡ 0) (l : ℕ) (hl : l ≡ largest_level 0) (at : ℕ) (ha : at ≡ body_in table f) where
  body_reads : (m : ℕ) × (read_block l (params_in table) f image at ≡ got (procedure_in image f).body m)
  body_reads =
      let (m, e) = known_reads image table h.known f h.number in (
        m,
        ap (λ (z : ℕ). read_block z (params_in table) f image at) hl ∙ ap (λ (z : ℕ). read_block (largest_level 0) (params_in table) f image z) ha
            ∙ ap (λ (z : ℕ). read_block (largest_level z) (params_in table) f image (body_in table f)) (sym s) ∙ e,
      )

  pub body_read : BlockRead l (params_in table) f image at
  body_read = let (m, e) = body_reads in block_got l (params_in table) f image at (procedure_in image f).body m e

  pub described : (types : List ℕ) (g : Bool) (n w : ℕ) (d : Found) → types ≡ (procedure_in image f).types → g ≡ guarded (procedure_in image f)
      → n ≡ get_or (params_in table) f 0 → w ≡ (procedure_in image f).result
      → d ≡ found_block (procedures_in image) (arrays_in table) types g
      (record { at = at; rc = false; levels = 0; words = false; booleans = false }) (read_block l (params_in table) f image at)
      → Described image f (record {
        guarded = g;
        parameters = n;
        result = w;
        defers = d.rc;
        levels = d.levels;
        words = d.words;
        booleans = d.booleans;
      })
  unfolding found_block
  described types g n w d ht hg hn hw hd =
      let (m, e) = body_reads in
      let P = procedure_in image f in
      let A = (image_in image).arrays in
      let start : Found = record { at = at; rc = false; levels = 0; words = false; booleans = false } in
      let D : d ≡ found_block (procedures_in image) A P.types (guarded P) start (got P.body m) =
      hd ∙ ap (λ z. found_block (procedures_in image) (arrays_in table) types g start z) e
      ∙ ap (λ (z : List ℕ). found_block (procedures_in image) (arrays_in table) z g start (got P.body m)) ht
      ∙ ap (λ (z : List ℕ). found_block (procedures_in image) z P.types g start (got P.body m)) (known_arrays image table h.known)
      ∙ ap (λ (z : Bool). found_block (procedures_in image) A P.types z start (got P.body m)) hg in
      let L : d.levels ≡ levels A P =
      (let z : d.levels ≡ max 0 (levels A P) = ap (λ (y : Found). y.levels) D in omega arith) in
      let C : d.rc ≡ defers A P = ap (λ (y : Found). y.rc) D in
      let W : d.words ≡ needed (procedures_in image) A P word_sort = ap (λ (y : Found). y.words) D in
      let B : d.booleans ≡ needed (procedures_in image) A P boolean_sort = ap (λ (y : Found). y.booleans) D in
      record {
        source_form = s;
        source_is = rw (hg, hn ∙ known_arity image table h.known f h.number, hw, L, C, W, B) refl;
      }

-- the variables of the compiled procedure, and its word
told_flag : (b : Bool) → from_bool b ≡ pick b 1 0
told_flag true = refl
told_flag false = refl

told_two : (b : Bool) → 2 * from_bool b ≡ pick b 2 0
told_two true = refl
told_two false = refl

pub flag_small : (b : Bool) (n : ℕ) → n ≡ from_bool b → n ≤ 1
flag_small true n e = omega arith
flag_small false n e = omega arith

pub numbered : (p : Source) (size g e w b f : ℕ) → g ≡ from_bool p.guarded → e ≡ from_bool p.defers → w ≡ from_bool p.words
    → b ≡ from_bool p.booleans → f ≡ pick p.guarded p.parameters size
    → record {
      first = f;
      rv = size + g;
      pair = size + g + 2 * e;
      word = size + g + 2 * e + 2 * p.levels;
      boolean = size + g + 2 * e + 2 * p.levels + w;
      count = size + g + 2 * e + 2 * p.levels + w + b;
    } ≡ numbers_of p size
numbered p size g e w b f hg he hw hb hf =
    rw (hg, he, hw, hb, hf, told_flag p.guarded, told_two p.defers, told_flag p.words, told_flag p.booleans) refl

module _ (p : Source) (size m : ℕ) (n : Numbers) (g : ℕ) (hm : m ≡ size) (hn : n ≡ numbers_of p m) (hg : g ≡ from_bool p.guarded) where
  pub parameters_counted : p.parameters ≤ size → p.parameters + g ≤ n.count
  parameters_counted h =
      let c : n.count ≡ (numbers_of p m).count = ap (λ (z : Numbers). z.count) hn in
      let d : g ≡ pick p.guarded 1 0 = hg ∙ told_flag p.guarded in
      omega arith

  pub headed : (r : ℕ) → r ≡ word_with 3 (0 * 65536 + (p.parameters + g) * 256 + (n.count - (p.parameters + g))) → r ≡ head_for p size
  headed r e =
      e ∙ ap (λ (z : Numbers). word_with 3 (0 * 65536 + (p.parameters + g) * 256 + (z.count - (p.parameters + g)))) hn
      ∙ ap (λ (z : ℕ). word_with 3 (0 * 65536 + (p.parameters + z) * 256 + ((numbers_of p m).count - (p.parameters + z)))) (hg ∙ told_flag p.guarded)
      ∙ ap (λ (z : ℕ). head_for p z) hm

-- their type words, written one part after the other
pub types_on : (p : Source) (types : List ℕ) (n o : ℕ) (out : List ℕ) (a : ℕ) (t1 : List ℕ) (b : ℕ) (t2 : List ℕ) (c : ℕ) (t3 : List ℕ) (e : ℕ) (t4 : List ℕ) (r : ℕ)
    (t5 : List ℕ) → n ≡ p.parameters
    → ◌≡◌ {A = Output} (a, t1) (writes o out (take n types ++ (pick p.guarded (secret_boolean ∷ []) [] ++ drop n types)))
    → ◌≡◌ {A = Output} (b, t2) (writes a t1 (pick p.defers (p.result ∷ (secret_boolean ∷ [])) []))
    → ◌≡◌ {A = Output} (c, t3) (writes b t2 (pair_types p.levels))
    → ◌≡◌ {A = Output} (e, t4) (writes c t3 (pick p.words (secret_of word_sort ∷ []) []))
    → ◌≡◌ {A = Output} (r, t5) (writes e t4 (pick p.booleans (secret_of boolean_sort ∷ []) []))
    → ◌≡◌ {A = Output} (r, t5) (writes o out (types_of p types))
types_on p types n o out a t1 b t2 c t3 e t4 r t5 hn = rw hn (λ f g h i j.
    run_run o out a t1 _ _ (r, t5) f (run_run a t1 b t2 _ _ (r, t5) g (run_run b t2 c t3 _ _ (r, t5) h (run_run c t3 e t4 _ _ (r, t5) i j))))

-- each of them is below their number
pub numbers_low : (p : Source) (size : ℕ) (n : Numbers) → n ≡ numbers_of p size → n.count ≤ 1000
    → (n.rv ≤ 1000) × (n.pair ≤ 1000) × (n.word ≤ 1000) × (n.boolean ≤ 1000)
numbers_low p size n h c =
    let c' : n.count ≡ (numbers_of p size).count = ap (λ (z : Numbers). z.count) h in
    let r : n.rv ≡ (numbers_of p size).rv = ap (λ (z : Numbers). z.rv) h in
    let t : n.pair ≡ (numbers_of p size).pair = ap (λ (z : Numbers). z.pair) h in
    let w : n.word ≡ (numbers_of p size).word = ap (λ (z : Numbers). z.word) h in
    let b : n.boolean ≡ (numbers_of p size).boolean = ap (λ (z : Numbers). z.boolean) h in
    (omega arith, omega arith, omega arith, omega arith)

-- where the walk over a body begins
abbrev scope_for : List Procedure → List ℕ → Procedure → Scope
scope_for ps arrays p =
    record {
      pc = guarded p;
      arm = p.parameters;
      first = first_moved p;
      rv = return_variable p;
      pair = first_pair arrays p;
      word = first_pair arrays p + 2 * levels arrays p;
      boolean = first_pair arrays p + 2 * levels arrays p + pick (needed ps arrays p word_sort) 1 0;
    }

-- the statements of a body, with its opening and its close
inner_pure : (ps : List Procedure) (arrays : List ℕ) (p : Procedure) (at m o : ℕ) (out : List ℕ) (q : ℕ) (t1 : List ℕ) (c : Cursor) (e : Output) (r : Output)
    → ◌≡◌ {A = Output} (q, t1) (writes o out (pick (defers arrays p) (statement_word_with 0 (return_variable p + 1) ∷ (word_with 9 1 ∷ [])) []))
    → ◌≡◌ {A = Emission} (c, e) (emitted_block ps arrays p.types (scope_for ps arrays p)
    (record { at = at; n = pick (defers arrays p) 1 0; rc = false }) q t1 (got p.body m))
    → r ≡ writes e.0 e.1 (pick (defers arrays p) (statement_word_with 4 0 ∷ (word_with 10 (return_variable p) ∷ [])) [])
    → (r ≡ writes o out (statements_words (compiled_body ps arrays p))) × (c.n + pick (defers arrays p) 1 0 ≡ statement_count (compiled_body ps arrays p))
unfolding emitted_block compiled_body
inner_pure ps arrays p at m o out q t1 c e r d f g =
    let D = defers arrays p in
    let R = return_variable p in
    let B = compiled_block ps arrays p.types (first_moved p) R (temporary_of ps arrays p) p.body (guarded p) p.parameters false (first_pair arrays p) in
    let L = pick {A = List ℕ} D (statement_word_with 0 (R + 1) ∷ (word_with 9 1 ∷ [])) [] in
    let Z = pick {A = List ℕ} D (statement_word_with 4 0 ∷ (word_with 10 R ∷ [])) [] in
    let C : ◌≡◌ {A = Emission} (c, e) (outcome m (pick D 1 0 + statement_count B) (rc_after_block p.types arrays (guarded p) false p.body)
    (writes o out (L ++ statements_words B))) =
    f ∙ ap (λ (y : Output). emitted_block ps arrays p.types (scope_for ps arrays p) (record { at = at; n = pick D 1 0; rc = false }) y.0 y.1 (got p.body m)) d
    ∙ ap (λ (y : Output). outcome m (pick D 1 0 + statement_count B) (rc_after_block p.types arrays (guarded p) false p.body) y)
    (sym (writes_app L (statements_words B) o out)) in
    let W : r ≡ writes o out ((L ++ statements_words B) ++ Z) =
    g ∙ ap (λ (y : Emission). writes y.1.0 y.1.1 Z) C ∙ sym (writes_app (L ++ statements_words B) Z o out) in (
      W ∙ ap (λ (ws : List ℕ). writes o out ws) (closed_words D R B),
      ap (λ (y : Emission). y.0.n + pick D 1 0) C ∙ closed_count D R B,
    )

-- ---- what its description tells

module _ (image table types : List ℕ) (f : ℕ) (h : Listed image table f) (typed : types ≡ (procedure_in image f).types) (p : Source) (d : Described image f p) where
  pub source_short : length image ≤ 4096
  source_short =
      let (n, w) = image_words_lem image h.known.read in
      let e : form_of (get_or image 0 0) ≡ 0 = sym w.form ∙ d.source_form in
      rw e at w.short

  pub types_few : length types ≤ 255
  types_few = rw typed (known_limits image table h.known f h.number).3

  parameters_are : p.parameters ≡ (procedure_in image f).parameters
  parameters_are = ap (λ (z : Source). z.parameters) d.source_is

  pub parameters_within : p.parameters ≤ length types
  parameters_within = rw (parameters_are, typed) (known_limits image table h.known f h.number).2

  pub few_parameters : p.parameters ≤ 8
  few_parameters =
      let l = (known_limits image table h.known f h.number).1 in
      let e = d.source_form in
      let q = parameters_are in
      omega arith

  pub source_body : (l at : ℕ) → l ≡ largest_level 0 → at ≡ body_in table f → BlockRead l (params_in table) f image at
  source_body l at hl ha = body_read image table f h d.source_form l hl at ha

  pub few_levels : p.levels ≤ 100
  few_levels =
      let (m, e) = body_reads image table f h d.source_form (largest_level 0) refl (body_in table f) refl in
      let P = procedure_in image f in
      let n = nesting_read (image_in image).arrays P.types (largest_level 0) (params_in table) f image (body_in table f) P.body m e in
      let z : p.levels ≡ levels (image_in image).arrays P = ap (λ (y : Source). y.levels) d.source_is in
      omega arith

  types_are_for : types_of p types ≡ types_for image f
  types_are_for = rw (typed, d.source_is) (types_words (procedures_in image) (image_in image).arrays (procedure_in image f))

  pub inner_on : (l at o : ℕ) (out : List ℕ) (size : ℕ) (n : Numbers) (s q : ℕ) (t1 : List ℕ) (c : Cursor) (e r : Output)
      → l ≡ largest_level 0 → at ≡ body_in table f → size ≡ length types → n ≡ numbers_of p size → s ≡ from_bool p.defers
      → ◌≡◌ {A = Output} (q, t1) (writes o out (pick p.defers (statement_word_with 0 (n.rv + 1) ∷ (word_with 9 1 ∷ [])) []))
      → ◌≡◌ {A = Emission} (c, e) (emitted_block (procedures_in image) (arrays_in table) types
      (record { pc = p.guarded; arm = p.parameters; first = n.first; rv = n.rv; pair = n.pair; word = n.word; boolean = n.boolean })
      (record { at = at; n = s; rc = false }) q t1 (read_block l (params_in table) f image at))
      → r ≡ writes e.0 e.1 (pick p.defers (statement_word_with 4 0 ∷ (word_with 10 n.rv ∷ [])) [])
      → (r ≡ writes o out (statements_words (body_for image f))) × (c.n + s ≡ statement_count (body_for image f))
  inner_on l at o out size n s q t1 c e r hl ha hz hn hs =
      let (m, z) = body_reads image table f h d.source_form (largest_level 0) refl (body_in table f) refl in
      rw (hl, ha, hn, hz, hs ∙ told_flag p.defers, typed, known_arrays image table h.known, d.source_is) (λ i j k.
      inner_pure (procedures_in image) (image_in image).arrays (procedure_in image f) (body_in table f) m o out q t1 c e r i (rw z at j) k)

-- ---- the parts together

module _ (image : List ℕ) (f o : ℕ) (out : List ℕ) where
  pub body_on : (p : ℕ) (t1 : List ℕ) (q : ℕ) (t2 t3 : List ℕ) (n w : ℕ) → ◌≡◌ {A = Output} (p, t1) (write o out 0)
      → ◌≡◌ {A = Output} (q, t2) (writes p t1 (statements_words (body_for image f))) → n ≡ statement_count (body_for image f)
      → w ≡ word_with 5 n → t3 ≡ (write o t2 w).1 → (r : ℕ) → r ≡ q
      → ◌≡◌ {A = Output} (r, t3) (writes o out (block_words (body_for image f)))
  unfolding block_words
  body_on p t1 q t2 t3 n w e g hn hw h r hr =
      let B = body_for image f in
      let C : ◌≡◌ {A = Output} (q, t2) (writes o out (0 ∷ statements_words B)) =
      g ∙ ap (λ (y : Output). writes y.0 y.1 (statements_words B)) e
      ∙ sym (writes_on o out 0 (statements_words B)) in
      ap (λ (y : ℕ). (y, t3)) hr ∙ ap (λ (y : List ℕ). (q, y)) (h ∙ ap (λ (y : ℕ). (write o t2 y).1) (hw ∙ ap (λ (z : ℕ). word_with 5 z) hn))
      ∙ ap (λ (y : Output). (y.0, (write o y.1 (word_with 5 (statement_count B))).1)) C
      ∙ patched o out 0 (word_with 5 (statement_count B)) (statements_words B)

module _ (image table types : List ℕ) (f : ℕ) (l : Listed image table f) (typed : types ≡ (procedure_in image f).types) (p : Source) (d : Described image f p) where
  pub procedure_on : (o : ℕ) (out : List ℕ) (w h : ℕ) (t1 : List ℕ) (a : ℕ) (t2 : List ℕ) (r : ℕ) (t3 : List ℕ) → w ≡ head_for p (length types)
      → ◌≡◌ {A = Output} (h, t1) (writes o out (w ∷ (p.result ∷ []))) → ◌≡◌ {A = Output} (a, t2) (writes h t1 (types_of p types))
      → ◌≡◌ {A = Output} (r, t3) (writes a t2 (block_words (body_for image f)))
      → ◌≡◌ {A = Output} (r, t3) (writes o out (procedure_words (procedure_for image f)))
  unfolding procedure_words compiled_procedure
  procedure_on o out w h t1 a t2 r t3 hw = rw (types_are_for image table types f l typed p d, hw, typed, d.source_is) (λ i j k.
      let P = procedure_in image f in
      let n = types_count (procedures_in image) (image_in image).arrays P in
      run_run o out h t1 _ _ (r, t3) i (run_run h t1 a t2 _ _ (r, t3) j k)
      ∙ ap (λ (y : ℕ). writes o out (word_with 3 (0 * 65536 + (P.parameters + guards P) * 256 + (y - (P.parameters + guards P)))
      ∷ (P.result ∷ (types_for image f ++ block_words (body_for image f))))) (omega arith))
