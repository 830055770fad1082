-- Each way in which a request on lent bytes ends. Assumes nothing.
use mathlib.Core.Path.{◌≡◌, refl, sym, ap, ◌∙◌}
use mathlib.Core.Bool.{Bool, true, false}
use mathlib.Core.List.{List, ◌++◌}
use Prim.Native.Nat.{ℕ, ◌+◌, ◌*◌, ◌/◌, ◌≤◌, min}
use native.Mathlib.Omega.{arith}
use lib.ListN.{length, get_or, take, drop, take-append-drop}
use lib.Seq.{length-take-le, take_all}
use Rattle.definitions.specs.Choice.{pick}
use Rattle.definitions.specs.Bytes.{Bytes, words_of, bytes_of, lent}
use Rattle.definitions.specs.Image.{Image, base_of}
use Rattle.definitions.specs.Requests.{Served, Called, carried_out, unready, ready_to_load, ready_to_serve, served, called_on, bound_on, bound}
use Rattle.definitions.specs.Host.{whole_words, load_bytes, clear_bytes, poke_bytes, peek_bytes, call_bytes, preview_bytes, bound_bytes}
use Rattle.definitions.specs.declared.Answer.{Answer}
use Rattle.definitions.specs.declared.Answer.TheVariants.{Done, Stopped, Refused}
use Rattle.laws.specs.ImageIn.{image_in}
use Rattle.laws.specs.Previews.{preview_is_call_on_a_copy}
use Rattle.laws.specs.WordsOfBytes.{lent_front, length_words_of, lent_words_of}
use Rattle.tables.specs.Table.{arrays_in, Known}
use Rattle.tables.specs.Looking.{image_short}
use Rattle.requests.specs.Cells.{has_cell_in}
use Rattle.requests.specs.OwnCells.{clear_on, poke_on, peek_on}
use Rattle.requests.specs.ByteRequests.{afterwards, after_call, load_refused, clear_refused, poke_refused, peek_refused, call_refused}
use Rattle.requests.specs.ByteRequests.{load_ready, clear_ready, poke_ready, peek_ready, call_ready}
use Rattle.checker.specs.Left.{ends_left}
use Rattle.machine.specs.declared.machines.Machine.{Machine}
use Rattle.machine.specs.declared.machines.Turn.{Turn}
use Rattle.machine.specs.Turns.{held, Kept, given_back, Turned}
use Rattle.machine.specs.Serving.{Serves, TurnedCall}
use Rattle.std.proofs.Common.{Result, Ok, Err}
use Rattle.definitions.specs.declared.Fault.{Fault}
use Rattle.ready.specs.Prepared.{readied, readied_not, Prepared}
use Rattle.ready.proofs.Rules.{left_table}
use Rattle.serving.proofs.Own.{Own, serve_own}

-- a preview, from the call with its answer and its trace
previewed : (image cells : List ℕ) (f : ℕ) (arguments : List ℕ) (budget : ℕ) (trace : List ℕ) → Bytes cells → (r : Answer) (after trace' : List ℕ)
    → (r, after, trace') ≡ call_bytes image cells f arguments budget trace → (r, cells, trace') ≡ preview_bytes image cells f arguments budget trace
previewed image cells f arguments budget trace bytes r after trace' e =
    ap (λ (x : Called). (x.0, cells, x.2)) e ∙ sym (preview_is_call_on_a_copy image cells f arguments budget trace bytes)

-- ---- a request that is refused

module _ (image cells : List ℕ) (bytes : Bytes cells) (r : Result ℕ Fault) (f : Fault) (g : r ≡ Err f) where
  pub load_not : r ≡ readied (ready_to_load (whole_words image) (words_of image) (length cells / 4)) → (Refused f.number f.place, cells) ≡ load_bytes image cells
  load_not e =
      sym (load_refused cells bytes image f.number f.place
      (ap (ready_to_load (whole_words image) (words_of image)) (length_words_of cells)
      ∙ readied_not (ready_to_load (whole_words image) (words_of image) (length cells / 4)) r f e g))

  module _ (e : r ≡ readied (ready_to_serve (whole_words image) (words_of image) (length cells / 4))) where
    not_ready : ready_to_serve (whole_words image) (words_of image) (length (words_of cells)) ≡ unready f.number f.place
    not_ready =
        ap (ready_to_serve (whole_words image) (words_of image)) (length_words_of cells)
        ∙ readied_not (ready_to_serve (whole_words image) (words_of image) (length cells / 4)) r f e g

    pub clear_not : (Refused f.number f.place, cells) ≡ clear_bytes image cells
    clear_not = sym (clear_refused cells bytes image f.number f.place not_ready)

    pub poke_not : (a i v : ℕ) → (Refused f.number f.place, cells) ≡ poke_bytes image cells a i v
    poke_not a i v = sym (poke_refused cells bytes image f.number f.place not_ready a i v)

    pub peek_not : (a i : ℕ) → (Refused f.number f.place, cells) ≡ peek_bytes image cells a i
    peek_not a i = sym (peek_refused cells bytes image f.number f.place not_ready a i)

    pub bound_not : (n : ℕ) → (Refused f.number f.place, cells) ≡ bound_bytes image cells n
    unfolding bound_bytes bound served
    bound_not n = rw (not_ready, lent_words_of cells bytes)

    pub call_not : (n : ℕ) (arguments : List ℕ) (budget : ℕ) (trace : List ℕ) → (Refused f.number f.place, cells, trace) ≡ call_bytes image cells n arguments budget trace
    call_not n arguments budget trace = sym (call_refused cells bytes image f.number f.place not_ready n arguments budget trace)

    pub preview_not : (n : ℕ) (arguments : List ℕ) (budget : ℕ) (trace : List ℕ)
        → (Refused f.number f.place, cells, trace) ≡ preview_bytes image cells n arguments budget trace
    preview_not n arguments budget trace =
        previewed image cells n arguments budget trace bytes (Refused f.number f.place) cells trace (call_not n arguments budget trace)

-- ---- the machine's turn, whose cells go back

-- cells that are given back as they were taken
front_back : (cells : List ℕ) (own : ℕ) → Bytes cells → 4 * own ≤ length cells → bytes_of (take own (words_of cells)) ++ drop (4 * own) cells ≡ cells
front_back cells own bytes h =
    let long : length (take own (words_of cells)) ≡ own = length-take-le own (words_of cells) (rw length_words_of (omega arith)) in
    sym (lent_front cells (take own (words_of cells)) own bytes long h)
    ∙ ap (λ (x : List ℕ). lent cells x) (take-append-drop own (words_of cells))
    ∙ lent_words_of cells bytes

kept_count : {N : ℕ} (a : Answer) (m after : Machine N) → Kept a m after → after.count ≡ m.count
unfolding Kept
kept_count (Done v z n) m after k = k
kept_count (Stopped i p z n) m after k = ap (λ (x : Machine _). x.count) k
kept_count (Refused i p) m after k = ap (λ (x : Machine _). x.count) k

pub back_asks : {N : ℕ} (size own : ℕ) (m : Machine N) (t : Turn N) → m.count ≡ own → Kept t.answer m t.machine → 4 * own ≤ size → 4 * t.machine.count ≤ size
back_asks size own m t c kept enough = let n : t.machine.count ≡ own = kept_count t.answer m t.machine kept ∙ c in rw n enough

module _ {N : ℕ} (cells : List ℕ) (bytes : Bytes cells) (own : ℕ) (enough : 4 * own ≤ length cells) (m : Machine N) (h : held m ≡ take own (words_of cells))
    (c : m.count ≡ own) where
  -- what is not written stands there already
  back : (a : Answer) (after : Machine N) → Kept a m after → given_back a after cells ≡ bytes_of (held after) ++ drop (4 * after.count) cells
  unfolding Kept
  back (Done v z n) after k = refl
  back (Stopped i p z n) after k = rw (k, h, c) (sym (front_back cells own bytes enough))
  back (Refused i p) after k = rw (k, h, c) (sym (front_back cells own bytes enough))

  module _ (t : Turn N) (kept : Kept t.answer m t.machine) (after : List ℕ) (e : after ≡ given_back t.answer t.machine cells) where
    own_back : after ≡ bytes_of (held t.machine) ++ drop (4 * own) cells
    own_back =
        e ∙ back t.answer t.machine kept
        ∙ ap (λ (k : ℕ). bytes_of (held t.machine) ++ drop (4 * k) cells) (kept_count t.answer m t.machine kept ∙ c)

    -- a request on the image's own cells that keeps their number
    given_back_lem : (s : Served) → ◌≡◌ {A = Served} (t.answer, held t.machine) s → (r : Answer) → r ≡ t.answer → (r, after) ≡ afterwards cells own s
    given_back_lem s gives r a =
        let d : r ≡ s.0 = a ∙ ap (λ (x : Served). x.0) gives in
        let g : held t.machine ≡ s.1 = ap (λ (x : Served). x.1) gives in
        rw (own_back, d, g)

    pub poked : (table : List ℕ) (a i v : ℕ) → ◌≡◌ {A = Served} (t.answer, held t.machine) (poke_on (arrays_in table) (held m) a i v)
        → (r : Answer) → r ≡ t.answer → (r, after) ≡ afterwards cells own (poke_on (arrays_in table) (take own (words_of cells)) a i v)
    poked table a i v gives r d =
        given_back_lem (poke_on (arrays_in table) (held m) a i v) gives r d
        ∙ ap (λ (x : List ℕ). afterwards cells own (poke_on (arrays_in table) x a i v)) h

module _ {N : ℕ} (image cells table : List ℕ) (bytes : Bytes cells) (own : ℕ) (m : Machine N) (h : held m ≡ take own (words_of cells)) (c : m.count ≡ own)
    (t : Turn N) (r : Answer) (after : List ℕ) (a : r ≡ t.answer) (e : after ≡ given_back t.answer t.machine cells) where
  cleared : 4 * own ≤ length cells → Turned m t (clear_on m.count) → (r, after) ≡ afterwards cells own (clear_on own)
  cleared enough turned =
      given_back_lem cells bytes own enough m h c t turned.kept after e (clear_on m.count) turned.gives r a
      ∙ ap (λ (k : ℕ). afterwards cells own (clear_on k)) c

  pub load_done : Own image cells table (ready_to_load (whole_words image) (words_of image)) own → Turned m t (clear_on m.count) → (r, after) ≡ load_bytes image cells
  load_done o turned = cleared o.enough turned ∙ sym (load_ready cells bytes image o.tree own o.all o.enough o.is_ready)

  module _ (o : Own image cells table (ready_to_serve (whole_words image) (words_of image)) own) where
    pub clear_done : Turned m t (clear_on m.count) → (r, after) ≡ clear_bytes image cells
    clear_done turned = cleared o.enough turned ∙ sym (clear_ready cells bytes image o.tree own o.all o.enough o.is_ready)

-- a poke and a peek, from what they do on the image's own cells
module _ (image cells table : List ℕ) (bytes : Bytes cells) (own : ℕ) (o : Own image cells table (ready_to_serve (whole_words image) (words_of image)) own)
    (a i : ℕ) where
  pub poke_done : (v : ℕ) (r : Answer) (after : List ℕ) → (r, after) ≡ afterwards cells own (poke_on (arrays_in table) (take own (words_of cells)) a i v)
      → (r, after) ≡ poke_bytes image cells a i v
  poke_done v r after e =
      e ∙ (let s = o.arrays in rw s (sym (poke_ready cells bytes image o.tree own o.all o.enough o.is_ready a i v)))

  -- nothing is written: the cells stand where they stood
  peeked : (peek_on o.tree.arrays (take own (words_of cells)) a i).1 ≡ take own (words_of cells)
  unfolding peek_on
  peeked = go (has_cell_in o.tree.arrays a i)
    where
      go : (b : Bool)
          → (pick {A = Served} b (carried_out (get_or (take own (words_of cells)) (base_of o.tree.arrays a + i) 0), take own (words_of cells))
          (Refused 17 0, take own (words_of cells))).1 ≡ take own (words_of cells)
      go true = refl
      go false = refl

  pub peek_done : (r : Answer) → r ≡ (peek_on (arrays_in table) (take own (words_of cells)) a i).0 → (r, cells) ≡ peek_bytes image cells a i
  peek_done r e =
      let d : r ≡ (peek_on o.tree.arrays (take own (words_of cells)) a i).0 = e ∙ (let s = o.arrays in rw s) in
      rw (d, peek_ready cells bytes image o.tree own o.all o.enough o.is_ready a i, peeked, front_back cells own bytes o.enough)

-- ---- a call and a preview

pub called_back : {N : ℕ} (words cells after before trace : List ℕ) (own : ℕ) (m : Machine N) (t : Turn N) (f : ℕ) (arguments : List ℕ) (budget : ℕ) (r : Answer)
    → Bytes cells → 4 * own ≤ length cells → held m ≡ take own (words_of cells) → m.count ≡ own
    → TurnedCall m t before trace (called_on (image_in words) (held m) f (words_of arguments) budget (length (words_of before)))
    → r ≡ t.answer → after ≡ given_back t.answer t.machine cells
    → (r, after, trace) ≡ after_call cells own before (called_on (image_in words) (take own (words_of cells)) f (words_of arguments) budget (length (words_of before)))
called_back words cells after before trace own m t f arguments budget r bytes enough h c turned a e =
    rw (own_back cells bytes own enough m h c t turned.kept after e, a ∙ turned.answer, turned.cells, turned.trace, h)

module _ (image cells words words' table ends : List ℕ) (bytes : Bytes cells) (r : Result ℕ Fault)
    (q : Prepared r (ready_to_serve (whole_words image) (words_of image) (length cells / 4)) image words words' table ends) (own : ℕ) (f : r ≡ Ok own) where
  pub call_own : Own image cells table (ready_to_serve (whole_words image) (words_of image)) own
  call_own =
      serve_own image cells table r own f q.answer
      (left_table image (ready_to_serve (whole_words image) (words_of image) (length cells / 4)) r words words' table ends q).1

  short : length image / 4 ≤ 16384
  short = let l = image_short (words_of image) table call_own.known in omega (arith, length_words_of image)

  pub call_within : (min (length image / 4) 16384 ≤ length words') → length image / 4 ≤ length words'
  call_within h = omega (arith, short)

  pub call_words : take (length image / 4) words' ≡ words_of image
  call_words =
      let n : min (length image / 4) 16384 ≡ length image / 4 = omega (arith, short) in
      (rw n at q.front) ∙ take_all 16384 (words_of image) (image_short (words_of image) table call_own.known)

  pub call_serves : Serves (take (length image / 4) words') table ends own × (own ≤ 1024) × (4 * own ≤ length cells)
  call_serves =
      let o = call_own in
      let s : Serves (words_of image) table ends own = record {
        known = o.known;
        block_ends = ends_left (whole_words image) (words_of image) o.tree o.end o.read table ends q.tables;
        all = rw o.spelled o.all;
      } in
      (rw call_words s, o.few, o.enough)

  pub bound_known : Known (take (length image / 4) words') table
  bound_known = rw call_words call_own.known

  pub bound_done : (answer : Answer) (g : ℕ) → answer ≡ bound_on (image_in (take (length image / 4) words')) g → (answer, cells) ≡ bound_bytes image cells g
  unfolding bound_bytes bound served
  bound_done answer g d =
      let o = call_own in
      let same : image_in (take (length image / 4) words') ≡ o.tree = ap image_in call_words ∙ o.spelled in
      rw (d, same, o.is_ready, lent_words_of cells bytes)

  pub call_done : (answer : Answer) (after before trace : List ℕ) (g : ℕ) (arguments : List ℕ) (budget : ℕ)
      → (answer, after, trace)
      ≡ after_call cells own before (called_on (image_in (take (length image / 4) words')) (take own (words_of cells)) g (words_of arguments) budget (length (words_of before)))
      → (answer, after, trace) ≡ call_bytes image cells g arguments budget before
  call_done answer after before trace g arguments budget d =
      let o = call_own in
      let same : image_in (take (length image / 4) words') ≡ o.tree = ap image_in call_words ∙ o.spelled in
      d ∙ sym (call_ready cells bytes image o.tree own o.all o.enough o.is_ready g arguments budget before
      (called_on (image_in (take (length image / 4) words')) (take own (words_of cells)) g (words_of arguments) budget (length (words_of before)))
      (ap (λ (i : Image). called_on i (take own (words_of cells)) g (words_of arguments) budget (length (words_of before))) same))

  pub preview_done : (answer : Answer) (before trace : List ℕ) (g : ℕ) (arguments : List ℕ) (budget : ℕ)
      → answer ≡ (called_on (image_in (take (length image / 4) words')) (take own (words_of cells)) g (words_of arguments) budget (length (words_of before))).0
      → trace
      ≡ lent before (called_on (image_in (take (length image / 4) words')) (take own (words_of cells)) g (words_of arguments) budget (length (words_of before))).2
      → (answer, cells, trace) ≡ preview_bytes image cells g arguments budget before
  preview_done answer before trace g arguments budget d t =
      let r : Called = called_on (image_in (take (length image / 4) words')) (take own (words_of cells)) g (words_of arguments) budget (length (words_of before)) in
      previewed image cells g arguments budget before bytes answer (bytes_of r.1 ++ drop (4 * own) cells) trace
      (call_done answer (bytes_of r.1 ++ drop (4 * own) cells) before trace g arguments budget (rw (d, t)))
