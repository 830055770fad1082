-- Property 1, the requests of a host: which are refused, with which number, in which order, and what each of the others gives. An image is spoken of
-- by a tree that its words spell (Accepted). Assumes nothing.
use Rattle.std.specs.Prelude.{ℕ, zero, suc, ◌+◌, ◌*◌, ◌/◌, ◌%◌, ◌^◌, ◌≤◌, ◌<◌, Bool, ◌&&◌, ltb, leb, set, replicate}
use Rattle.std.proofs.Math.Bool.{true, false}
use mathlib.Core.List.{List, [], ◌∷◌, ◌++◌}
use Rattle.std.proofs.Common.{inl, inr, ◌∙◌, drop_at}
use Rattle.std.proofs.Math.Path.{◌≡◌, refl, sym, ap}
use native.Mathlib.Omega.{arith}
use borrow.Author.Tests.{eqb-true, eqb-false, ltb-true, ltb-false, leb-true, leb-false, le-leb, lt-leb, lt-ltb, le-ltb, eq-eqb, ne_eqb}
use Rattle.std.proofs.Math.Dec.{eqb}
use Rattle.std.proofs.Math.ListN.{length, drop}
use Rattle.std.proofs.lemmas.List.{length-replicate}
use Rattle.definitions.specs.Choice.{pick}
use Rattle.definitions.specs.declared.Answer.{Answer}
use Rattle.definitions.specs.declared.Answer.TheVariants.{Done, Stopped, Refused}
use Rattle.definitions.specs.declared.Checked.{Checked}
use Rattle.definitions.specs.declared.Checked.TheVariants.{Accepted, Refused as CheckRefused}
use Rattle.definitions.specs.Image.{Procedure, Image, cell_count, base_of, procedure_at}
use Rattle.definitions.specs.Encoding.{image_words}
use Rattle.definitions.specs.Bytes.{Bytes, joined, word_at, words_of, bytes_of, lent}
use Rattle.definitions.specs.Requests.{ready, unready, with_cells, ready_to_load, ready_to_serve, Served, served, has_cell}
use Rattle.definitions.specs.Requests.{load, clear, poke, peek, Called, ended, called_on, served_call, call}
use Rattle.definitions.specs.Running.{Ran, on, halt, Given, gave}
use Rattle.definitions.specs.Host.{whole_words, load_bytes, clear_bytes, poke_bytes, peek_bytes, call_bytes, preview_bytes, check_bytes}
use Rattle.statements.specs.Statements.{Iff, AdmissibleBytes, NotLoaded, bad_image, few_cells, Loadable, NotReady, empty_image}
use Rattle.statements.specs.Statements.{as_by_load, NoCell, unready_for_cell, cell_missing, WithCell, NotCalled}
use Rattle.statements.specs.Statements.{unready_for_call, procedure_missing, other_count, Callable, RefusedOr, cleared}
use Rattle.statements.specs.Statements.{stored, ResultOrStop, with_result, with_stop, recorded_count}
use Rattle.laws.specs.WordsOfBytes.{lent_front, length_words_of, get_d_words_of, length_bytes_of, lent_words_of}
use Rattle.laws.specs.Previews.{previewed_answer, preview_is_call_on_a_copy}
use Rattle.laws.specs.Ready.{ready_refused}
use Rattle.laws.specs.Cells.{has_within}
use Rattle.readback.specs.Like.{LikeImage, like_procedure_count}
use Rattle.readback.specs.Accepted.{like_at}
use Rattle.results.specs.Answers.{Stop, budget_spent_lem, trace_full_lem, beyond_array, divisor_0, Calls, ends, stops, call_refuses}
use Rattle.results.specs.Images.{admits_image}
use Rattle.results.proofs.Requests.{calls_image}
use Rattle.results.specs.Accepted.{accepted_bytes, admissible_admitted}

-- ---- There is no third case

module _ (image cells : List ℕ) where
  pub loaded_or_not : RefusedOr (NotLoaded image cells) (Loadable image cells)
  loaded_or_not = go (check_bytes image) refl
    where
      by_cells : (tree : Image) → AdmissibleBytes image tree → (b : Bool) → leb (4 * cell_count tree.arrays) (length cells) ≡ b
          → RefusedOr (NotLoaded image cells) (Loadable image cells)
      by_cells tree a true e = inr (tree, record { admissible = a; enough = leb-true _ _ e })
      by_cells tree a false e = inl (17, 0, few_cells tree a (leb-false _ _ e))

      go : (x : Checked) → check_bytes image ≡ x → RefusedOr (NotLoaded image cells) (Loadable image cells)
      go (CheckRefused k p) e = inl (k, p, bad_image k p e)
      go Accepted e = let (tree, a) = accepted_bytes image e in by_cells tree a (leb (4 * cell_count tree.arrays) (length cells)) refl

  pub ready_or_not : RefusedOr (NotReady image cells) (Loadable image cells)
  ready_or_not = go (eqb (length image) 0) refl loaded_or_not
    where
      go : (b : Bool) → eqb (length image) 0 ≡ b → RefusedOr (NotLoaded image cells) (Loadable image cells)
          → RefusedOr (NotReady image cells) (Loadable image cells)
      go true e x = inl (20, 0, empty_image (eqb-true _ 0 e))
      go false e (inl (k, p, h)) = inl (k, p, as_by_load k p (eqb-false _ 0 e) h)
      go false e (inr x) = inr x

  pub cell_or_not : (a i : ℕ) → RefusedOr (NoCell image cells a i) (WithCell image cells a i)
  cell_or_not a i = go ready_or_not
    where
      by_cell : (tree : Image) → Loadable image cells tree → (b : Bool) → has_cell tree a i ≡ b
          → RefusedOr (NoCell image cells a i) (WithCell image cells a i)
      by_cell tree u true e = inr (tree, record { loadable = u; present = e })
      by_cell tree u false e = inl (17, 0, cell_missing tree u e)

      go : RefusedOr (NotReady image cells) (Loadable image cells) → RefusedOr (NoCell image cells a i) (WithCell image cells a i)
      go (inl (k, p, h)) = inl (k, p, unready_for_cell k p h)
      go (inr (tree, u)) = by_cell tree u (has_cell tree a i) refl

  pub called_or_not : (f : ℕ) (arguments : List ℕ) → RefusedOr (NotCalled image cells f arguments) (Callable image cells f arguments)
  called_or_not f arguments = go ready_or_not
    where
      by_tests : (tree : Image) → Loadable image cells tree → (b c : Bool) → ltb f (length tree.procedures) ≡ b
          → eqb (length arguments / 4) (procedure_at tree.procedures f).parameters ≡ c
          → RefusedOr (NotCalled image cells f arguments) (Callable image cells f arguments)
      by_tests tree u true true e d = inr (tree, record { loadable = u; present = ltb-true _ _ e; count = eqb-true _ _ d })
      by_tests tree u true false e d = inl (18, 0, other_count tree u (ltb-true _ _ e) (eqb-false _ _ d))
      by_tests tree u false c e d = inl (17, 0, procedure_missing tree u (ltb-false _ _ e))

      go : RefusedOr (NotReady image cells) (Loadable image cells) → RefusedOr (NotCalled image cells f arguments) (Callable image cells f arguments)
      go (inl (k, p, h)) = inl (k, p, unready_for_call k p h)
      go (inr (tree, u)) =
          by_tests tree u (ltb f (length tree.procedures)) (eqb (length arguments / 4) (procedure_at tree.procedures f).parameters) refl refl

-- a request that answers with a refusal is refused for its reason
why_refused : {Not : ℕ → ℕ → Type 0} {Fine : Image → Type 0} → RefusedOr Not Fine → (x : Answer) → ((k p : ℕ) → Not k p → x ≡ Refused k p)
    → ((tree : Image) → Fine tree → (k p : ℕ) → x ≡ Refused k p → ⊥) → (k p : ℕ) → x ≡ Refused k p → Not k p
why_refused {Not} (inl (n, q, h)) x refuses serves k p e =
    let r : x ≡ Refused n q = refuses n q h in
    let number : n ≡ k = cc in
    let place : q ≡ p = cc in rw (number, place) at h
why_refused (inr (tree, u)) x refuses serves k p e = absurd (serves tree u k p e)

-- so it is refused exactly there
pub refused_exactly : {Not : ℕ → ℕ → Type 0} {Fine : Image → Type 0} → RefusedOr Not Fine → (x : Answer) → ((k p : ℕ) → Not k p → x ≡ Refused k p)
    → ((tree : Image) → Fine tree → (k p : ℕ) → x ≡ Refused k p → ⊥) → (k p : ℕ) → Iff (x ≡ Refused k p) (Not k p)
refused_exactly cases x refuses serves k p = (why_refused cases x refuses serves k p, refuses k p)

pub done_not_refused : {x : Answer} {v z n : ℕ} → x ≡ Done v z n → (k p : ℕ) → x ≡ Refused k p → ⊥
done_not_refused e k p f = let z : ◌≡◌ {A = ℕ} 0 1 = cc in omega arith

-- ---- What the definitions take for ready

module _ (image cells : List ℕ) where
  not_loaded : {k p : ℕ} → NotLoaded image cells k p → ready_to_load (whole_words image) (words_of image) (length (words_of cells)) ≡ unready k p
  unfolding ready_to_load with_cells check_bytes
  not_loaded (bad_image k p e) = ready_refused (whole_words image) (words_of image) (length (words_of cells)) k p e
  not_loaded (few_cells tree a h) =
      let (read, n, e, like) = admissible_admitted (whole_words image) (words_of image) tree a in
      rw (e, sym like.arrays, lt-leb (cell_count tree.arrays) (length (words_of cells)) (rw length_words_of (omega arith)))

  served_as_loaded : (length image ≡ 0 → ⊥)
      → ready_to_serve (whole_words image) (words_of image) (length (words_of cells)) ≡ ready_to_load (whole_words image) (words_of image) (length (words_of cells))
  unfolding ready_to_serve
  served_as_loaded n = go (eqb (length image % 4) 0) (eqb (length (words_of image)) 0) refl refl
    where
      go : (b c : Bool) → eqb (length image % 4) 0 ≡ b → eqb (length (words_of image)) 0 ≡ c
          → pick (b && c) (unready 20 0) (ready_to_load (whole_words image) (words_of image) (length (words_of cells)))
          ≡ ready_to_load (whole_words image) (words_of image) (length (words_of cells))
      go true true e f =
          let whole : length image % 4 ≡ 0 = eqb-true (length image % 4) 0 e in
          let none : length (words_of image) ≡ 0 = eqb-true (length (words_of image)) 0 f in
          let count = length_words_of image in absurd (n (omega arith))
      go true false e f = refl
      go false c e f = refl

  pub not_ready : {k p : ℕ} → NotReady image cells k p → ready_to_serve (whole_words image) (words_of image) (length (words_of cells)) ≡ unready k p
  unfolding ready_to_serve
  not_ready (empty_image e) =
      let count = length_words_of image in rw (eq-eqb (length image % 4) 0 (omega arith), eq-eqb (length (words_of image)) 0 (omega arith))
  not_ready (as_by_load k p n h) = served_as_loaded n ∙ not_loaded h

  module _ (tree : Image) (u : Loadable image cells tree) where
    some_word : length image ≡ 0 → ⊥
    unfolding image_words
    some_word e =
        let count = length_words_of image in
        let spelled : length (words_of image) ≡ length (image_words tree) = ap length u.admissible.spelled in
        omega arith

    -- the tree that is read: the same up to places
    loads : (read : Image) × LikeImage tree read × (ready_to_load (whole_words image) (words_of image) (length (words_of cells)) ≡ ready read)
    unfolding ready_to_load with_cells
    loads =
        let (read, n, e, like) = admissible_admitted (whole_words image) (words_of image) tree u.admissible in
        let h = u.enough in
        (read, like, rw (e, sym like.arrays, le-leb (cell_count tree.arrays) (length (words_of cells)) (rw length_words_of (omega arith))))

    serves : (read : Image) × LikeImage tree read × (ready_to_serve (whole_words image) (words_of image) (length (words_of cells)) ≡ ready read)
    serves = let (read, like, e) = loads in (read, like, served_as_loaded some_word ∙ e)

-- ---- Lent cells, of which words are set

bytes_of_zeros : (n : ℕ) → bytes_of (replicate n 0) ≡ replicate (4 * n) 0
unfolding bytes_of
bytes_of_zeros zero = refl
bytes_of_zeros (suc n) =
    let e : 4 * suc n ≡ suc (suc (suc (suc (4 * n)))) = omega arith in
    rw (e, bytes_of_zeros n)

lent_set : (cells : List ℕ) → Bytes cells → (n v : ℕ) → n < length cells / 4 → lent cells (set (words_of cells) n v) ≡ stored n v cells
unfolding lent words_of bytes_of
lent_set [] h n v l = absurd (omega arith)
lent_set (x ∷ []) h n v l = absurd (omega arith)
lent_set (x ∷ y ∷ []) h n v l = absurd (omega arith)
lent_set (x ∷ y ∷ z ∷ []) h n v l = absurd (omega arith)
lent_set (x ∷ y ∷ z ∷ u ∷ b) h zero v l =
    let e : 4 * suc (length (words_of b)) ≡ suc (suc (suc (suc (4 * length (words_of b))))) = omega arith in
    rw (e, lent_words_of b (λ i. h (suc (suc (suc (suc i))))))
lent_set (x ∷ y ∷ z ∷ u ∷ b) h (suc n) v l =
    let e : 4 * suc (length (set (words_of b) n v)) ≡ suc (suc (suc (suc (4 * length (set (words_of b) n v))))) = omega arith in
    let e0 : joined x y z u / 2 ^ 24 ≡ x = omega (arith, h 0, h 1, h 2, h 3) in
    let e1 : joined x y z u / 2 ^ 16 % 256 ≡ y = omega (arith, h 0, h 1, h 2, h 3) in
    let e2 : joined x y z u / 2 ^ 8 % 256 ≡ z = omega (arith, h 0, h 1, h 2, h 3) in
    let e3 : joined x y z u % 256 ≡ u = omega (arith, h 0, h 1, h 2, h 3) in
    let f : 4 * suc n ≡ suc (suc (suc (suc (4 * n)))) = omega arith in
    let g : 4 * suc n + 4 ≡ suc (suc (suc (suc (4 * n + 4)))) = omega arith in
    rw (e, e0, e1, e2, e3, lent_set b (λ i. h (suc (suc (suc (suc i))))) n v (omega arith), g, f)

-- ---- Load, clear, poke, peek

module _ (image cells : List ℕ) (are : Bytes cells) where
  -- the lent bytes after a refusal, and after the first n words were set to 0
  kept : (k p : ℕ) → ◌≡◌ {A = Served} (Refused k p, lent cells (words_of cells)) (Refused k p, cells)
  kept k p = ap (λ (x : List ℕ). (Refused k p, x)) (lent_words_of cells are)

  zeros : (n : ℕ) → 4 * n ≤ length cells → ◌≡◌ {A = Served} (Done 0 0 0, lent cells (replicate n 0 ++ drop n (words_of cells))) (Done 0 0 0, cleared n cells)
  zeros n h =
      ap (λ (x : List ℕ). (Done 0 0 0, x))
      (lent_front cells (replicate n 0) n are (length-replicate n 0) h ∙ ap (λ (x : List ℕ). x ++ drop (4 * n) cells) (bytes_of_zeros n))

  -- load: a refusal leaves the cells as they were. "Load sets cells to 0": the image's own; spare bytes stay.
  pub load_is_refused : {k p : ℕ} → NotLoaded image cells k p → load_bytes image cells ≡ (Refused k p, cells)
  unfolding load_bytes load served
  load_is_refused {k} {p} h = rw (not_loaded image cells h) (kept k p)

  pub load_is_done : (tree : Image) → Loadable image cells tree → load_bytes image cells ≡ (Done 0 0 0, cleared (cell_count tree.arrays) cells)
  unfolding load_bytes load served
  load_is_done tree u = let (read, like, e) = loads image cells tree u in rw (e, sym like.arrays) (zeros (cell_count tree.arrays) u.enough)

  pub load_refused_exactly : (k p : ℕ) → Iff ((load_bytes image cells).0 ≡ Refused k p) (NotLoaded image cells k p)
  load_refused_exactly =
      refused_exactly (loaded_or_not image cells) (load_bytes image cells).0 (λ k p h. ap (λ (r : Served). r.0) (load_is_refused h))
      (λ tree u. done_not_refused (ap (λ (r : Served). r.0) (load_is_done tree u)))

  -- "Clear zeroes cells."
  pub clear_is_refused : {k p : ℕ} → NotReady image cells k p → clear_bytes image cells ≡ (Refused k p, cells)
  unfolding clear_bytes clear served
  clear_is_refused {k} {p} h = rw (not_ready image cells h) (kept k p)

  pub clear_is_done : (tree : Image) → Loadable image cells tree → clear_bytes image cells ≡ (Done 0 0 0, cleared (cell_count tree.arrays) cells)
  unfolding clear_bytes clear served
  clear_is_done tree u = let (read, like, e) = serves image cells tree u in rw (e, sym like.arrays) (zeros (cell_count tree.arrays) u.enough)

  pub clear_refused_exactly : (k p : ℕ) → Iff ((clear_bytes image cells).0 ≡ Refused k p) (NotReady image cells k p)
  clear_refused_exactly =
      refused_exactly (ready_or_not image cells) (clear_bytes image cells).0 (λ k p h. ap (λ (r : Served). r.0) (clear_is_refused h))
      (λ tree u. done_not_refused (ap (λ (r : Served). r.0) (clear_is_done tree u)))

  module _ (a i : ℕ) where
    pub poke_is_refused : {k p : ℕ} → NoCell image cells a i k p → (v : ℕ) → poke_bytes image cells a i v ≡ (Refused k p, cells)
    unfolding poke_bytes poke served
    poke_is_refused (unready_for_cell k p h) v = rw (not_ready image cells h) (kept k p)
    poke_is_refused (cell_missing tree u n) v =
        let (read, like, e) = serves image cells tree u in rw (e, sym like.arrays, n, lent_words_of cells are)

    pub poke_is_done : (tree : Image) → WithCell image cells a i tree → (v : ℕ)
        → poke_bytes image cells a i v ≡ (Done 0 0 0, stored (base_of tree.arrays a + i) v cells)
    unfolding poke_bytes poke served
    poke_is_done tree w v =
        let (read, like, e) = serves image cells tree w.loadable in
        let here = has_within tree.arrays a i w.present in
        let enough = w.loadable.enough in
        rw (e, sym like.arrays, w.present, lent_set cells are (base_of tree.arrays a + i) v (omega arith))

    pub poke_refused_exactly : (v k p : ℕ) → Iff ((poke_bytes image cells a i v).0 ≡ Refused k p) (NoCell image cells a i k p)
    poke_refused_exactly v =
        refused_exactly (cell_or_not image cells a i) (poke_bytes image cells a i v).0 (λ k p h. ap (λ (r : Served). r.0) (poke_is_refused h v))
        (λ tree w. done_not_refused (ap (λ (r : Served). r.0) (poke_is_done tree w v)))

    pub peek_is_refused : {k p : ℕ} → NoCell image cells a i k p → peek_bytes image cells a i ≡ (Refused k p, cells)
    unfolding peek_bytes peek served
    peek_is_refused (unready_for_cell k p h) = rw (not_ready image cells h) (kept k p)
    peek_is_refused (cell_missing tree u n) =
        let (read, like, e) = serves image cells tree u in rw (e, sym like.arrays, n, lent_words_of cells are)

    pub peek_is_done : (tree : Image) → WithCell image cells a i tree
        → peek_bytes image cells a i ≡ (Done (word_at cells (base_of tree.arrays a + i)) 0 0, cells)
    unfolding peek_bytes peek served
    peek_is_done tree w =
        let (read, like, e) = serves image cells tree w.loadable in
        let here = has_within tree.arrays a i w.present in
        let enough = w.loadable.enough in
        rw (e, sym like.arrays, w.present, get_d_words_of cells (base_of tree.arrays a + i) (omega arith), lent_words_of cells are)

    pub peek_refused_exactly : (k p : ℕ) → Iff ((peek_bytes image cells a i).0 ≡ Refused k p) (NoCell image cells a i k p)
    peek_refused_exactly =
        refused_exactly (cell_or_not image cells a i) (peek_bytes image cells a i).0 (λ k p h. ap (λ (r : Served). r.0) (peek_is_refused h))
        (λ tree w. done_not_refused (ap (λ (r : Served). r.0) (peek_is_done tree w)))

  -- a refusal leaves the cells as they were; a peek always does
  pub load_unchanged : (k p : ℕ) → (load_bytes image cells).0 ≡ Refused k p → (load_bytes image cells).1 ≡ cells
  load_unchanged k p e = ap (λ (r : Served). r.1) (load_is_refused ((load_refused_exactly k p).0 e))

  pub clear_unchanged : (k p : ℕ) → (clear_bytes image cells).0 ≡ Refused k p → (clear_bytes image cells).1 ≡ cells
  clear_unchanged k p e = ap (λ (r : Served). r.1) (clear_is_refused ((clear_refused_exactly k p).0 e))

  pub poke_unchanged : (a i v k p : ℕ) → (poke_bytes image cells a i v).0 ≡ Refused k p → (poke_bytes image cells a i v).1 ≡ cells
  poke_unchanged a i v k p e = ap (λ (r : Served). r.1) (poke_is_refused a i ((poke_refused_exactly a i v k p).0 e) v)

  pub peek_unchanged : (a i : ℕ) → (peek_bytes image cells a i).1 ≡ cells
  peek_unchanged a i = go (cell_or_not image cells a i)
    where
      go : RefusedOr (NoCell image cells a i) (WithCell image cells a i) → (peek_bytes image cells a i).1 ≡ cells
      go (inl (k, p, h)) = ap (λ (r : Served). r.1) (peek_is_refused a i h)
      go (inr (tree, w)) = ap (λ (r : Served). r.1) (peek_is_done a i tree w)

-- ---- Call

stop_number : {budget room k z n : ℕ} → Stop budget room k z n → (21 ≤ k) × (k ≤ 24)
stop_number (budget_spent_lem z n e) = omega arith
stop_number (trace_full_lem z n h) = omega arith
stop_number (beyond_array z n) = omega arith
stop_number (divisor_0 z n) = omega arith

run_not_refused : (p : Procedure) (cells : List ℕ) (x : Ran (List ℕ) Given) (k q : ℕ) → (ended p cells x).0 ≡ Refused k q → ⊥
unfolding ended
run_not_refused p cells (on (gave v after) z t) k q e = let z : ◌≡◌ {A = ℕ} 0 1 = cc in omega arith
run_not_refused p cells (halt n l z t) k q e = let z : ◌≡◌ {A = ℕ} 0 1 = cc in omega arith

result_or_stop : {words budget room : ℕ} {cells : List ℕ} {r : Called} → Calls words cells budget room r
    → ((k p : ℕ) → r.0 ≡ Refused k p → ⊥) → ResultOrStop r.0
result_or_stop (ends v z after recorded h c e) n = with_result v z _
result_or_stop (stops k p z recorded s l h c) n = let (low, high) = stop_number s in with_stop k p z _ low high
result_or_stop (call_refuses k p h) n = absurd (n k p refl)

-- bytes behind the words that were recorded
behind_recorded : (trace recorded : List ℕ) (n : ℕ) → length recorded ≡ n → drop (4 * n) (lent trace recorded) ≡ drop (4 * n) trace
unfolding lent
behind_recorded trace recorded n e =
    drop_at (bytes_of recorded) (drop (4 * length recorded) trace) (4 * n) (length_bytes_of recorded ∙ ap (λ (m : ℕ). 4 * m) e)
    ∙ ap (λ (m : ℕ). drop (4 * m) trace) e

module _ (image cells : List ℕ) (are : Bytes cells) (f : ℕ) (arguments : List ℕ) (budget : ℕ) (trace : List ℕ) where
  -- a refusal leaves the cells and the trace as they were
  pub call_is_refused : {k p : ℕ} → NotCalled image cells f arguments k p → call_bytes image cells f arguments budget trace ≡ (Refused k p, cells, trace)
  unfolding call_bytes call served_call called_on lent bytes_of
  call_is_refused (unready_for_call k p h) =
      rw (not_ready image cells h) (ap (λ (x : List ℕ). (Refused k p, x, trace)) (lent_words_of cells are))
  call_is_refused (procedure_missing tree u h) =
      let (read, like, e) = serves image cells tree u in
      rw (e, sym (like_procedure_count like.procedures), le-ltb f (length tree.procedures) h)
      (ap (λ (x : List ℕ). (Refused 17 0, x, trace)) (lent_words_of cells are))
  call_is_refused (other_count tree u h n) =
      let (read, like, e) = serves image cells tree u in
      rw (
        e,
        sym (like_procedure_count like.procedures),
        lt-ltb f (length tree.procedures) h,
        length_words_of arguments,
        sym (like_at like.procedures f).parameters,
        ne_eqb (length arguments / 4) (procedure_at tree.procedures f).parameters n,
      )
      (ap (λ (x : List ℕ). (Refused 18 0, x, trace)) (lent_words_of cells are))

  call_is_begun : (tree : Image) → Callable image cells f arguments tree → (k p : ℕ) → (call_bytes image cells f arguments budget trace).0 ≡ Refused k p → ⊥
  unfolding call_bytes call served_call called_on
  call_is_begun tree c k p =
      let (read, like, e) = serves image cells tree c.loadable in
      rw (
        e,
        sym (like_procedure_count like.procedures),
        lt-ltb f (length tree.procedures) c.present,
        length_words_of arguments,
        sym (like_at like.procedures f).parameters,
        eq-eqb (length arguments / 4) (procedure_at tree.procedures f).parameters c.count,
      )
      (run_not_refused (procedure_at read.procedures f) (words_of cells) _ k p)

  -- what is known of the call on words
  on_words_lem : Calls (length (words_of image)) (words_of cells) budget (length (words_of trace))
      (call (whole_words image) (words_of image) (words_of cells) f (words_of arguments) budget (length (words_of trace)))
  on_words_lem =
      calls_image (whole_words image) (words_of image) (admits_image (whole_words image) (words_of image)) (words_of cells) f (words_of arguments) budget
      (length (words_of trace))

  -- every other call ends
  pub call_ends : (tree : Image) → Callable image cells f arguments tree → ResultOrStop (call_bytes image cells f arguments budget trace).0
  unfolding call_bytes
  call_ends tree c = result_or_stop on_words_lem (call_is_begun tree c)

  pub call_refused_exactly : (k p : ℕ) → Iff ((call_bytes image cells f arguments budget trace).0 ≡ Refused k p) (NotCalled image cells f arguments k p)
  call_refused_exactly =
      refused_exactly (called_or_not image cells f arguments) (call_bytes image cells f arguments budget trace).0
      (λ k p h. ap (λ (r : Called). r.0) (call_is_refused h)) call_is_begun

  pub call_unchanged : (k p : ℕ) → (call_bytes image cells f arguments budget trace).0 ≡ Refused k p
      → ((call_bytes image cells f arguments budget trace).1 ≡ cells) × ((call_bytes image cells f arguments budget trace).2 ≡ trace)
  call_unchanged k p e =
      let r = call_is_refused ((call_refused_exactly k p).0 e) in (ap (λ (x : Called). x.1) r, ap (λ (x : Called). x.2) r)

  -- "A stop answers 0 with the steps and entries so far; cells are as before the call and later trace words untouched."
  pub stop_leaves : (k p z n : ℕ) → (call_bytes image cells f arguments budget trace).0 ≡ Stopped k p z n
      → ((call_bytes image cells f arguments budget trace).1 ≡ cells)
      × (drop (4 * n) (call_bytes image cells f arguments budget trace).2 ≡ drop (4 * n) trace)
  unfolding call_bytes
  stop_leaves k p z n = go on_words_lem
    where
      go : {words room : ℕ} {r : Called} → Calls words (words_of cells) budget room r → r.0 ≡ Stopped k p z n
          → (lent cells r.1 ≡ cells) × (drop (4 * n) (lent trace r.2) ≡ drop (4 * n) trace)
      go (ends v y after recorded h c l) e = absurd (let o : ◌≡◌ {A = ℕ} 0 1 = cc in omega arith)
      go (stops j q y recorded s l h c) e = (lent_words_of cells are, behind_recorded trace recorded n (cc))
      go (call_refuses j q h) e = absurd (let o : ◌≡◌ {A = ℕ} 0 1 = cc in omega arith)

  -- the same of the trace where the call is done
  pub done_leaves : (v z n : ℕ) → (call_bytes image cells f arguments budget trace).0 ≡ Done v z n
      → drop (4 * n) (call_bytes image cells f arguments budget trace).2 ≡ drop (4 * n) trace
  unfolding call_bytes
  done_leaves v z n = go on_words_lem
    where
      go : {words room : ℕ} {r : Called} → Calls words (words_of cells) budget room r → r.0 ≡ Done v z n
          → drop (4 * n) (lent trace r.2) ≡ drop (4 * n) trace
      go (ends w y after recorded h c l) e = behind_recorded trace recorded n (cc)
      go (stops j q y recorded s l h c) e = absurd (let o : ◌≡◌ {A = ℕ} 0 1 = cc in omega arith)
      go (call_refuses j q h) e = absurd (let o : ◌≡◌ {A = ℕ} 0 1 = cc in omega arith)

  -- ---- Preview: its answer and its trace are the call's

  pub preview_refused_exactly : (k p : ℕ) → Iff ((preview_bytes image cells f arguments budget trace).0 ≡ Refused k p) (NotCalled image cells f arguments k p)
  preview_refused_exactly = rw (previewed_answer image cells f arguments budget trace) call_refused_exactly

  pub preview_ends : (tree : Image) → Callable image cells f arguments tree → ResultOrStop (preview_bytes image cells f arguments budget trace).0
  preview_ends = rw (previewed_answer image cells f arguments budget trace) call_ends

  -- it leaves the cells in every case, and the trace words past those recorded: all of them where it is refused
  pub preview_leaves : ((preview_bytes image cells f arguments budget trace).1 ≡ cells)
      × (drop (4 * recorded_count (preview_bytes image cells f arguments budget trace).0) (preview_bytes image cells f arguments budget trace).2
      ≡ drop (4 * recorded_count (preview_bytes image cells f arguments budget trace).0) trace)
  preview_leaves =
      rw (preview_is_call_on_a_copy image cells f arguments budget trace are) (refl, by_answer (call_bytes image cells f arguments budget trace).0 refl)
    where
      by_answer : (x : Answer) → (call_bytes image cells f arguments budget trace).0 ≡ x
          → drop (4 * recorded_count x) (call_bytes image cells f arguments budget trace).2 ≡ drop (4 * recorded_count x) trace
      by_answer (Done v z n) e = done_leaves v z n e
      by_answer (Stopped k p z n) e = (stop_leaves k p z n e).1
      by_answer (Refused k p) e = (call_unchanged k p e).1
