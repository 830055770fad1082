-- What the functions that read an image read, step by step, and what they keep of the tables. Assumes nothing.
use mathlib.Core.Path.{◌≡◌, refl, sym, ap, ◌∙◌}
use mathlib.Core.Bool.{Bool, true, false, not, ◌&&◌}
use mathlib.Core.List.{List, [], ◌∷◌, ◌++◌, append_assoc, append-nil}
use Prim.Native.Nat.{ℕ, ◌+◌, ◌-◌, ◌≤◌, ◌<◌}
use native.Mathlib.Omega.{arith}
use borrow.Author.Tests.{leb-true, eq-eqb, ne_eqb}
use lib.Dec.{eqb, leb}
use lib.ListN.{length, get_or, set, replicate, length-append}
use lib.Seq.{get_or-set_other}
use Rattle.std.specs.Prelude.{Result, Ok, is_err}
use Rattle.definitions.specs.Choice.{pick}
use Rattle.definitions.specs.declared.Fault.{Fault}
use Rattle.definitions.specs.Image.{header_word, form_of, arrays_of, procedures_of, largest_image, parameters_of, locals_of}
use Rattle.definitions.specs.Image.{Procedure, Image}
use Rattle.definitions.specs.Reading.{Parse, got, refused, and_then, read_arrays, read_procedure, read_procedures, read_rest}
use Rattle.definitions.specs.Reading.{read_image}
use Rattle.laws.specs.Tests.{and_right, false_true}
use Rattle.laws.specs.Parses.{got_same}
use Rattle.laws.specs.WordTests.{header_limits}
use Rattle.laws.specs.ReadImages.{open_procedure}
use Rattle.tables.specs.Table.{padded, body_place, table_of, arrays_in, params_in}
use Rattle.tables.specs.Filling.{table_none, table_procedure, table_params, params_more}
use Rattle.tables.specs.Looking.{table_arrays}
use Rattle.reader.specs.Answers.{answer, ensured}
use Rattle.reader.specs.AnswerLaws.{got_of}
use Rattle.reader.specs.Ends.{Sound, BlockEnds, sound_ends, later_sound, zeros_sound}
use Rattle.reader.specs.Left.{Begun, ArraysLeft, ProceduresLeft, Tables, ImageLeft, TablesLeft}
use Rattle.reader.proofs.Steps.{◌>>=◌, answer_then, answer_last, one_more, not_read}

-- ---- the procedures

pub header_form : (w : ℕ) → header_word w ≡ true → form_of w < 2
header_form w h = (header_limits w h).1

pub header_arrays : (w : ℕ) → header_word w ≡ true → arrays_of w ≤ 16
header_arrays w h = (header_limits w h).2

pub header_procedures : (w : ℕ) → header_word w ≡ true → procedures_of w ≤ 32
header_procedures w h = (header_limits w h).4

module _ (form : ℕ) (params : List ℕ) (me : ℕ) (image : List ℕ) where
  pub procedures_none : (n at : ℕ) → n ≡ 0 → answer (read_procedures n form params me image at) ≡ Ok at
  unfolding read_procedures answer
  procedures_none n at e = rw e

  pub procedures_more : (n k at : ℕ) → k < n
      → answer (read_procedures (n - k) form params me image at)
      ≡ (answer (read_procedure form params me image at)
      >>= λ m. answer (read_procedures (n - (k + 1)) form (set params me (parameters_of (get_or image at 0))) (me + 1) image m))
  unfolding read_procedures answer
  procedures_more n k at h = rw (one_more n k h) (go (read_procedure form params me image at) refl)
    where
      go : (x : Parse Procedure) → read_procedure form params me image at ≡ x
          → answer (and_then x (λ p m. and_then (read_procedures (n - (k + 1)) form (set params me p.parameters) (me + 1) image m) (λ ps o. got (p ∷ ps) o)))
          ≡ (answer x >>= λ m. answer (read_procedures (n - (k + 1)) form (set params me (parameters_of (get_or image at 0))) (me + 1) image m))
      go (got p m) e =
          answer_last (read_procedures (n - (k + 1)) form (set params me p.parameters) (me + 1) image m) (λ ps. p ∷ ps)
          ∙ ap (λ (y : ℕ). answer (read_procedures (n - (k + 1)) form (set params me y) (me + 1) image m)) (open_procedure form params me image at p m e).parameters
      go (refused m q) e = refl

  -- a procedure that was read begins within the image
  pub procedure_inside : (at next : ℕ) → Ok next ≡ answer (read_procedure form params me image at) → at < length image
  procedure_inside at next e =
      let (p, q) = got_of _ _ next e refl in
      let b = (open_procedure form params me image at p next q).begins in omega arith

-- a refusal leaves nothing to say
pub procedures_refused : (form count : ℕ) (image start : List ℕ) (first : ℕ) (table ends : List ℕ)
    → is_err (answer (read_procedures count form (params_in start) 0 image first)) ≡ true → ProceduresLeft form count image start first table ends
unfolding ProceduresLeft
procedures_refused form count image start first table ends e ps n g = not_read _ ps n e g

pub ruleset procedures_rules = (header_form, header_procedures, procedures_none, procedures_more, procedure_inside, procedures_refused)

-- What the loop over the procedures keeps: those read so far are in the table, and the rest is read behind them.
pub record Progress (form count : ℕ) (image start : List ℕ) (first : ℕ) (table ends : List ℕ) (me at : ℕ) : Type 0 where
  pub few : length (arrays_in start) ≤ 16
  pub read : List Procedure
  pub passed : length read ≡ me
  pub filled : table ≡ table_of (arrays_in start) read
  pub sound : Sound image (params_in table) me ends
  pub left : (ps : List Procedure) (n : ℕ) → read_procedures (count - me) form (params_in table) me image at ≡ got ps n
      → read_procedures count form (params_in start) 0 image first ≡ got (read ++ ps) n

pub progress_begin : (form count : ℕ) (image table ends : List ℕ) (at : ℕ) → Begun table → Sound image (params_in table) 0 ends
    → Progress form count image table at table ends 0 at
progress_begin form count image table ends at b s =
    let e : count - 0 ≡ count = omega arith in
    record {
      few = b.0;
      read = [];
      passed = refl;
      filled = b.1;
      sound = s;
      left = λ ps n r. ap (λ z. read_procedures z form (params_in table) 0 image at) (sym e) ∙ r;
    }

module _ (form count : ℕ) (image start : List ℕ) (first : ℕ) (table ends : List ℕ) (me at : ℕ)
    (s : Progress form count image start first table ends me at) where
  -- the numbers of parameters of those read so far
  abbrev params : List ℕ
  params = params_in table

  pub procedures_kept : me ≡ count → ProceduresLeft form count image start first table ends
  unfolding ProceduresLeft read_procedures
  procedures_kept h ps n r =
      let none : count - me ≡ 0 = omega arith in
      let all = s.left [] at (rw none) in
      let (e, _) = got_same (read_procedures count form (params_in start) 0 image first) (s.read ++ []) ps at n all r in
      (rw (sym e ∙ append-nil s.read) s.filled, sound_ends image params me ends s.sound)

  -- one was read: its entries are its place, its body's place, its number of parameters
  module _ (h : me < count) (most : count ≤ 32) (next : ℕ) (e : Ok next ≡ answer (read_procedure form params me image at))
      (x v : ℕ) (hx : x ≡ parameters_of (get_or image at 0) + locals_of (get_or image at 0)) (hv : v ≡ parameters_of (get_or image at 0))
      (table' : List ℕ) (st : table' ≡ set (set (set table (33 + me) at) (65 + me) (at + 1 + 1 + x)) (97 + me) v) where
    entered : (p : Procedure) → read_procedure form params me image at ≡ got p next
        → (table' ≡ table_of (arrays_in start) (s.read ++ (p ∷ []))) × (p.parameters ≡ v)
        × (params_in (table_of (arrays_in start) (s.read ++ (p ∷ []))) ≡ set (params_in (table_of (arrays_in start) s.read)) me p.parameters)
    entered p q =
        let o = open_procedure form params me image at p next q in
        let l = s.passed in
        let body : body_place p ≡ at + 1 + 1 + x = ap (λ z. z + 1 + 1 + length p.types) o.place ∙ ap (λ z. at + 1 + 1 + z) (o.types.count ∙ sym hx) in
        let arity : p.parameters ≡ v = o.parameters ∙ sym hv in (
          st ∙ ap (λ (y : List ℕ). set (set (set y (33 + me) at) (65 + me) (at + 1 + 1 + x)) (97 + me) v) s.filled
              ∙ sym (ap (λ (y : ℕ). set (set (set (table_of (arrays_in start) s.read) (33 + me) y) (65 + me) (body_place p)) (97 + me) p.parameters) o.place
              ∙ ap (λ (y : ℕ). set (set (set (table_of (arrays_in start) s.read) (33 + me) at) (65 + me) y) (97 + me) p.parameters) body
              ∙ ap (λ (y : ℕ). set (set (set (table_of (arrays_in start) s.read) (33 + me) at) (65 + me) (at + 1 + 1 + x)) (97 + me) y) arity)
              ∙ table_procedure (arrays_in start) s.read p me (sym s.passed) s.few (omega arith),
          arity,
          params_more (arrays_in start) s.read p me (sym s.passed) s.few (omega arith),
        )

    arity_known : (p : Procedure) → read_procedure form params me image at ≡ got p next → params_in table' ≡ set params me p.parameters
    arity_known p q =
        let (t, a, m) = entered p q in ap params_in t ∙ m ∙ ap (λ (y : List ℕ). set (params_in y) me p.parameters) (sym s.filled)

    params_after : params_in table' ≡ set params me (parameters_of (get_or image at 0))
    params_after =
        let (p, q) = got_of _ _ next e refl in
        let (t, a, m) = entered p q in arity_known p q ∙ ap (λ (y : ℕ). set params me y) (a ∙ hv)

    turn : (p : Procedure) → read_procedure form params me image at ≡ got p next
        → read_procedures (count - me) form params me image at
        ≡ and_then (read_procedures (count - (me + 1)) form (set params me p.parameters) (me + 1) image next) (λ ps o. got (p ∷ ps) o)
    unfolding read_procedures
    turn p q = rw (one_more count me h, q)

    shown_more : (whole : Result ℕ Fault) → answer (read_procedures (count - me) form params me image at) ≡ whole
        → answer (read_procedures (count - (me + 1)) form (params_in table') (me + 1) image next) ≡ whole
    shown_more whole shown = rw params_after (rw (procedures_more form params me image count me at h, ← e) at shown)

    pub progress_more : (ends' : List ℕ) → Sound image params me ends' → (whole : Result ℕ Fault)
        → answer (read_procedures (count - me) form params me image at) ≡ whole
        → Progress form count image start first table' ends' (me + 1) next
        × (answer (read_procedures (count - (me + 1)) form (params_in table') (me + 1) image next) ≡ whole)
    progress_more ends' sound whole shown =
        let (p, q) = got_of _ _ next e refl in
        let (t, a, m) = entered p q in
        let more = arity_known p q in (
          record {
            few = s.few;
            read = s.read ++ (p ∷ []);
            passed = length-append s.read (p ∷ []) ∙ ap (λ z. z + 1) s.passed;
            filled = t;
            sound = rw more (later_sound image params (set params me p.parameters) me ends'
                (λ g b. sym (get_or-set_other params me g p.parameters 0 (λ z. omega arith))) sound);
            left = λ ps n f.
                s.left (p ∷ ps) n (turn p q ∙ ap (λ z. and_then z (λ us o. got (p ∷ us) o)) (rw more at f))
                ∙ ap (λ z. got z n) (sym (append_assoc s.read (p ∷ []) ps));
          },
          shown_more whole shown,
        )

-- ---- what follows the header

-- the arrays that were read stand in the table, and no procedure does
module _ (x : Parse (List ℕ)) (n : ℕ) (e : Ok n ≡ answer x) (table : List ℕ) (kept : ArraysLeft x table) where
  arrays_are : (ws : List ℕ) × (x ≡ got ws n) × (arrays_in table ≡ ws) × (length ws ≤ 16) × (table ≡ table_of ws [])
  unfolding ArraysLeft
  arrays_are =
      let (ws, g) = got_of x _ n e refl in
      let (few, t) = kept ws n g in
      (ws, g, ap arrays_in t ∙ table_arrays ws [] few (omega arith), few, t)

  pub params_none : params_in table ≡ replicate 32 0
  unfolding padded
  params_none =
      let (ws, g, i, few, t) = arrays_are in ap params_in t ∙ table_params ws [] few (omega arith)

  pub begun : Begun table
  begun =
      let (ws, g, i, few, t) = arrays_are in
      (rw i few, t ∙ ap (λ (y : List ℕ). table_of y []) (sym i))

params_begin : (table : List ℕ) → table ≡ table_of [] [] → params_in table ≡ replicate 32 0
unfolding padded
params_begin table t = ap params_in t ∙ table_params [] [] (omega arith) (omega arith)

-- what was sound with no procedure in the table
pub sound_kept : (image start table ends : List ℕ) → start ≡ table_of [] [] → params_in table ≡ replicate 32 0 → Sound image (params_in start) 0 ends
    → Sound image (params_in table) 0 ends
sound_kept image start table ends s t h = let same : params_in table ≡ params_in start = t ∙ sym (params_begin start s) in rw same h

module _ (w : ℕ) (image : List ℕ) where
  tree : List ℕ → List Procedure → Image
  tree ws ps = record { form = form_of w; arrays = ws; procedures = ps }

  pub rest_begun : answer (read_rest w image)
      ≡ (answer (read_arrays (arrays_of w) 0 image 1) >>= λ n. answer (read_procedures (procedures_of w) (form_of w) (replicate 32 0) 0 image n)
      >>= λ m. ensured (eqb m (length image)) 4 m >>= λ _. Ok m)
  unfolding read_rest answer tree
  rest_begun =
      answer_then (read_arrays (arrays_of w) 0 image 1)
      (λ ws n. and_then (read_procedures (procedures_of w) (form_of w) (replicate 32 0) 0 image n)
      (λ ps m. pick (eqb m (length image)) (got (tree ws ps) m) (refused 4 m)))
      (λ n. answer (read_procedures (procedures_of w) (form_of w) (replicate 32 0) 0 image n) >>= λ m. ensured (eqb m (length image)) 4 m >>= λ _. Ok m)
      (λ ws n. all ws (read_procedures (procedures_of w) (form_of w) (replicate 32 0) 0 image n))
    where
      spare : (t : Image) (m : ℕ) (b : Bool) → answer (pick b (got t m) (refused 4 m)) ≡ (ensured b 4 m >>= λ _. Ok m)
      spare t m true = refl
      spare t m false = refl

      all : (ws : List ℕ) (x : Parse (List Procedure))
          → answer (and_then x (λ ps m. pick (eqb m (length image)) (got (tree ws ps) m) (refused 4 m)))
          ≡ (answer x >>= λ m. ensured (eqb m (length image)) 4 m >>= λ _. Ok m)
      all ws (got ps m) = spare (tree ws ps) m (eqb m (length image))
      all ws (refused n q) = refl

-- a refusal leaves nothing to say
pub image_refused : (x : Parse Image) (image table ends : List ℕ) → is_err (answer x) ≡ true → ImageLeft x image table ends
unfolding ImageLeft
image_refused x image table ends e t n g = not_read x t n e g

-- the tables of what was read to the image's end
module _ (w : ℕ) (image table table' ends' : List ℕ) (a : ℕ) (ha : a ≡ arrays_of w) (n : ℕ) (e : Ok n ≡ answer (read_arrays a 0 image 1))
    (kept : ArraysLeft (read_arrays a 0 image 1) table) (m : ℕ)
    (es : Ok m ≡ answer (read_procedures (procedures_of w) (form_of w) (params_in table) 0 image n))
    (filled : ProceduresLeft (form_of w) (procedures_of w) image table n table' ends') (all : m ≡ length image) where
  rest_is : (ws : List ℕ) (ps : List Procedure) → read_arrays a 0 image 1 ≡ got ws n
      → read_procedures (procedures_of w) (form_of w) (params_in table) 0 image n ≡ got ps m → read_rest w image ≡ got (tree w image ws ps) m
  unfolding read_rest tree
  rest_is ws ps g h =
      let none : replicate 32 0 ≡ params_in table = sym (params_none (read_arrays a 0 image 1) n e table kept) in
      rw (← ha, g, none, h, eq-eqb m (length image) all)

  pub rest_tables : ImageLeft (read_rest w image) image table' ends'
  unfolding ImageLeft ProceduresLeft tree
  rest_tables t k g =
      let (ws, r, i, few, _) = arrays_are (read_arrays a 0 image 1) n e table kept in
      let (ps, h) = got_of _ _ m es refl in
      let (same, _) = got_same (read_rest w image) (tree w image ws ps) t m k (rest_is ws ps r h) g in
      let (filled, right) = filled ps m h in
      go ws ps t same (filled ∙ ap (λ (z : List ℕ). table_of z ps) i) right
    where
      go : (ws : List ℕ) (ps : List Procedure) (t : Image) → tree w image ws ps ≡ t
          → table' ≡ table_of ws ps → BlockEnds image (params_in table') ends' → Tables image t table' ends'
      go ws ps t same filled right = rw (← same) (record { filled = filled; block_ends = right })

pub ruleset rest_rules = (header_form, header_arrays, header_procedures, rest_begun, params_none, begun, sound_kept, image_refused)

-- ---- an image

image_limit : (b : Bool) → pick b 4096 16384 ≤ 16384
image_limit true = omega arith
image_limit false = omega arith

module _ (whole : Bool) (image : List ℕ) where
  pub image_begun : answer (read_image whole image)
      ≡ (ensured (not (eqb (length image) 0)) 1 0 >>= λ _. ensured (header_word (get_or image 0 0)) 2 0
      >>= λ _. ensured (whole && leb (length image) (largest_image (form_of (get_or image 0 0)))) 1 0 >>= λ _. answer (read_rest (get_or image 0 0) image))
  unfolding read_image answer
  image_begun =
      go (eqb (length image) 0) (header_word (get_or image 0 0)) (whole && leb (length image) (largest_image (form_of (get_or image 0 0))))
    where
      go : (a b c : Bool)
          → answer (pick a (refused 1 0) (pick b (pick c (read_rest (get_or image 0 0) image) (refused 1 0)) (refused 2 0)))
          ≡ (ensured (not a) 1 0 >>= λ _. ensured b 2 0 >>= λ _. ensured c 1 0 >>= λ _. answer (read_rest (get_or image 0 0) image))
      go true b c = refl
      go false true true = refl
      go false true false = refl
      go false false c = refl

  module _ (some : length image ≡ 0 → ⊥) (good : header_word (get_or image 0 0) ≡ true)
      (fits : whole && leb (length image) (largest_image (form_of (get_or image 0 0))) ≡ true) where
    pub image_short : length image ≤ 16384
    image_short =
        let a = leb-true (length image) (largest_image (form_of (get_or image 0 0))) (and_right whole _ fits) in
        let b = image_limit (eqb (form_of (get_or image 0 0)) 0) in omega arith

    pub image_tables : (table ends : List ℕ) → ImageLeft (read_rest (get_or image 0 0) image) image table ends
        → ImageLeft (read_image whole image) image table ends
    unfolding read_image
    image_tables table ends q = rw (ne_eqb (length image) 0 some, good, fits) q

pub ruleset image_rules = (image_begun, image_short, image_tables, image_refused)

-- the tables as they came are of no image yet
pub whole_asked : (image table ends : List ℕ) → table ≡ replicate 129 0 → ends ≡ replicate (length ends) 0
    → (table ≡ table_of [] []) × Sound image (params_in table) 0 ends
whole_asked image table ends t e =
    (t ∙ sym table_none, go (length ends) e)
  where
    go : (n : ℕ) → ends ≡ replicate n 0 → Sound image (params_in table) 0 ends
    go n q = rw q (zeros_sound image (params_in table) 0 n)

-- what was read stands in the tables; after a refusal they were cleared
pub tables_read : (x : Parse Image) (image table ends : List ℕ) → is_err (answer x) ≡ false → ImageLeft x image table ends → TablesLeft x image table ends
unfolding ImageLeft TablesLeft answer
tables_read (got tree m) image table ends e k = k tree m refl
tables_read (refused m q) image table ends e k = false_true (sym e)

pub tables_refused : (x : Parse Image) (image table ends : List ℕ) → is_err (answer x) ≡ true → table ≡ replicate 129 0 → ends ≡ replicate (length ends) 0
    → TablesLeft x image table ends
unfolding TablesLeft answer
tables_refused (got tree o) image table ends e t f = false_true e
tables_refused (refused o p) image table ends e t f = (t, f)

pub ruleset tables_rules = (tables_read, tables_refused)
