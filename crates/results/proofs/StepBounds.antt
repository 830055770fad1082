-- Document 02, wish 11, on lent bytes: when a bound is answered and when it is turned away; that no call takes more steps, that a budget of the bound is
-- enough, and where a call takes exactly as many. Assumes nothing.
use Prim.Native.Nat.{ℕ, suc, ◌*◌, ◌≤◌}
use Rattle.std.specs.Prelude.{Bool, true, false, List, [], ◌≡◌, refl, ltb, leb, eqb}
use Rattle.std.proofs.Common.{inl, inr, sym, ap, ◌∙◌, arith}
use borrow.Author.Tests.{ltb-true, ltb-false, leb-true, leb-false, le-leb, lt-leb, lt-ltb, le-ltb}
use Rattle.std.proofs.Math.ListN.{length}
use Rattle.definitions.specs.declared.Answer.{Answer}
use Rattle.definitions.specs.declared.Answer.TheVariants.{Done, Stopped, Refused}
use Rattle.definitions.specs.Bytes.{Bytes, words_of, lent}
use Rattle.definitions.specs.Image.{Procedure, Image, procedure_at, cell_count}
use Rattle.definitions.specs.Reading.{got, read_image}
use Rattle.definitions.specs.Checking.{admitted}
use Rattle.definitions.specs.Running.{trace_words, Ran, on, halt, Given, gave}
use Rattle.definitions.specs.StepBounds.{procedure_cost, reaches, variable_fors_in, variable_fors}
use Rattle.definitions.specs.Requests.{Ready, ready, unready, with_cells, ready_to_load, ready_to_serve, Served, served, Called, argument_values, ended}
use Rattle.definitions.specs.Requests.{bounded, bound_on, bound}
use Rattle.definitions.specs.Host.{whole_words, call_bytes, bound_bytes}
use Rattle.statements.specs.Statements.{Iff, NotReady, Loadable, RefusedOr, steps_of, SameOrSpent, same_call, spent_budget}
use Rattle.statements.specs.StepBounds.{ConstantFors, HasProcedure, step_bound, NotBounded, unready_for_bound, no_procedure_lem, variable_for}
use Rattle.statements.specs.StepBounds.{above_limit, Bounded, Straight}
use Rattle.laws.specs.Tests.{and_false}
use Rattle.laws.specs.Parses.{got_same}
use Rattle.laws.specs.Admitted.{admitted_read}
use Rattle.laws.specs.StepBounds.{cost_among, reach_sound}
use Rattle.laws.specs.VariableFors.{Listed, none_listed, first_listed, fors_listed, bodies_constant, first_of, none_of}
use Rattle.laws.specs.WordsOfBytes.{length_words_of, lent_words_of}
use Rattle.results.specs.Accepted.{admissible_admitted}
use Rattle.results.proofs.Exactly.{ready_or_not, not_ready, refused_exactly, done_not_refused}
use Rattle.results.specs.TwoCalls.{steps_ended}
use Rattle.results.proofs.StoppedExactly.{run_of, both_calls, two_budgets, budget_reached}
use Rattle.results.specs.BoundedRuns.{steps_procedure}
use Rattle.results.specs.ExactRuns.{Takes, ends, halts, exact_procedure}

-- ---- What a bound answers

-- an image that is admitted is ready where enough cells are lent
serves_admitted : (whole : Bool) (words : List ℕ) (count : ℕ) (tree : Image) (n : ℕ) → admitted whole words ≡ got tree n → cell_count tree.arrays ≤
    count
    → ready_to_serve whole words count ≡ ready tree
unfolding ready_to_serve ready_to_load with_cells read_image
serves_admitted whole words count tree n e h = go (eqb (length words) 0) refl
  where
    go : (b : Bool) → eqb (length words) 0 ≡ b → ready_to_serve whole words count ≡ ready tree
    go true none = let r = (admitted_read whole words tree n e).0 in cc
    go false some = rw (some, and_false whole false refl, e, le-leb (cell_count tree.arrays) count h)

module _ (image cells : List ℕ) (f : ℕ) where
  serves : {tree : Image} {n : ℕ} → admitted (whole_words image) (words_of image) ≡ got tree n → 4 * cell_count tree.arrays ≤ length cells
      → ready_to_serve (whole_words image) (words_of image) (length (words_of cells)) ≡ ready tree
  serves {tree} {n} e h =
      let count = length_words_of cells in
      serves_admitted (whole_words image) (words_of image) (length (words_of cells)) tree n e (omega arith)

  tree_read : (tree : Image) (t : HasProcedure image cells f tree) → read_image (whole_words image) (words_of image) ≡ got tree t.words
  tree_read tree t = (admitted_read (whole_words image) (words_of image) tree t.words t.read).0

  -- the fors that the bound meets
  listed : (tree : Image) → HasProcedure image cells f tree → Listed tree.procedures f (variable_fors tree.procedures f)
  listed tree t = fors_listed (whole_words image) (words_of image) tree t.words (tree_read tree t) f

  pub bound_refuses : {k p : ℕ} → NotBounded image cells f k p → (bound_bytes image cells f).0 ≡ Refused k p
  unfolding bound_bytes bound served bound_on bounded
  bound_refuses (unready_for_bound k p h) = rw (not_ready image cells h)
  bound_refuses (no_procedure_lem tree n e h l) = rw (serves e h, le-ltb f (length tree.procedures) l)
  bound_refuses (variable_for tree t p x) =
      let (rest, e) = first_of tree.procedures f (listed tree t) x in
      rw (serves t.read t.enough, lt-ltb f (length tree.procedures) t.present, e)
  bound_refuses (above_limit tree t c l) =
      let e = none_of tree.procedures f (listed tree t) c in
      rw (serves t.read t.enough, lt-ltb f (length tree.procedures) t.present, e, lt-leb (step_bound tree f) 4294967295 l)

  pub bound_answers : (tree : Image) → Bounded image cells f tree → (bound_bytes image cells f).0 ≡ Done (step_bound tree f) 0 0
  unfolding bound_bytes bound served bound_on bounded
  bound_answers tree b =
      let t = b.known in
      rw (
        serves t.read t.enough,
        lt-ltb f (length tree.procedures) t.present,
        none_of tree.procedures f (listed tree t) b.constants,
        le-leb (step_bound tree f) 4294967295 b.fits,
      )

  pub bound_leaves : Bytes cells → (bound_bytes image cells f).1 ≡ cells
  unfolding bound_bytes bound served
  bound_leaves are = go (ready_to_serve (whole_words image) (words_of image) (length (words_of cells)))
    where
      go : (r : Ready) → lent cells (served r (words_of cells) (λ m. (bound_on m f, words_of cells))).1 ≡ cells
      go (ready tree) = lent_words_of cells are
      go (unready k p) = lent_words_of cells are

  pub bound_is_done : Bytes cells → (tree : Image) → Bounded image cells f tree → bound_bytes image cells f ≡ (Done (step_bound tree f) 0 0, cells)
  bound_is_done are tree b = pair (bound_bytes image cells f) (bound_answers tree b) (bound_leaves are)
    where
      pair : (r : Served) {x : Answer} → r.0 ≡ x → r.1 ≡ cells → r ≡ (x, cells)
      pair (a, cs) h k = rw (h, k) refl

  pub bounded_or_not : RefusedOr (NotBounded image cells f) (Bounded image cells f)
  bounded_or_not = go (ready_or_not image cells)
    where
      by_cost : (tree : Image) → HasProcedure image cells f tree → ConstantFors tree.procedures f → (b : Bool)
          → leb (step_bound tree f) 4294967295 ≡ b → RefusedOr (NotBounded image cells f) (Bounded image cells f)
      by_cost tree t c true e = inr (tree, record { known = t; constants = c; fits = leb-true _ _ e })
      by_cost tree t c false e = inl (33, 0, above_limit tree t c (leb-false _ _ e))

      by_fors : (tree : Image) → HasProcedure image cells f tree → {l : List ℕ} → Listed tree.procedures f l
          → RefusedOr (NotBounded image cells f) (Bounded image cells f)
      by_fors tree t (none_listed c) = by_cost tree t c (leb (step_bound tree f) 4294967295) refl
      by_fors tree t (first_listed {p} x) = inl (32, p, variable_for tree t p x)

      by_number : (tree : Image) (n : ℕ) → admitted (whole_words image) (words_of image) ≡ got tree n → 4 * cell_count tree.arrays ≤ length cells
          → (b : Bool) → ltb f (length tree.procedures) ≡ b → RefusedOr (NotBounded image cells f) (Bounded image cells f)
      by_number tree n r h true e =
          let t : HasProcedure image cells f tree = record { words = n; read = r; enough = h; present = ltb-true _ _ e } in
          by_fors tree t (listed tree t)
      by_number tree n r h false e = inl (17, 0, no_procedure_lem tree n r h (ltb-false _ _ e))

      go : RefusedOr (NotReady image cells) (Loadable image cells) → RefusedOr (NotBounded image cells f) (Bounded image cells f)
      go (inl (k, p, h)) = inl (k, p, unready_for_bound k p h)
      go (inr (tree, u)) =
          let (read, n, e, like) = admissible_admitted (whole_words image) (words_of image) tree u.admissible in
          let h = u.enough in
          by_number read n e (rw (← like.arrays) h) (ltb f (length read.procedures)) refl

  pub bound_refused_exactly : (k p : ℕ) → Iff ((bound_bytes image cells f).0 ≡ Refused k p) (NotBounded image cells f k p)
  bound_refused_exactly =
      refused_exactly bounded_or_not (bound_bytes image cells f).0 (λ k p h. bound_refuses h) (λ tree b. done_not_refused (bound_answers tree b))

  -- what stands behind an answer
  bound_known : (bound : ℕ) → (bound_bytes image cells f).0 ≡ Done bound 0 0 → (tree : Image) × Bounded image cells f tree × (step_bound tree f ≡ bound)
  bound_known bound e = go bounded_or_not
    where
      go : RefusedOr (NotBounded image cells f) (Bounded image cells f) → (tree : Image) × Bounded image cells f tree × (step_bound tree f ≡ bound)
      go (inl (k, p, h)) = absurd (done_not_refused e k p (bound_refuses h))
      go (inr (tree, b)) = let q = bound_answers tree b in (tree, b, cc)

  -- no body that a run of it meets has a for whose bounds are not constants
  constant_bodies : (tree : Image) → Bounded image cells f tree → (n g : ℕ) → reaches tree.procedures n f g ≡ true → variable_fors_in tree.procedures g ≡ []
  constant_bodies tree b n g r =
      bodies_constant (whole_words image) (words_of image) tree b.known.words (tree_read tree b.known) f b.constants g
      (reach_sound tree.procedures n f g r)

-- "from the image alone": of the cells only their number counts
pub from_image_alone : (image cells cells' : List ℕ) (f : ℕ) → length (words_of cells) ≡ length (words_of cells')
    → (bound_bytes image cells f).0 ≡ (bound_bytes image cells' f).0
unfolding bound_bytes bound served
from_image_alone image cells cells' f e = rw e (go (ready_to_serve (whole_words image) (words_of image) (length (words_of cells'))))
  where
    go : (r : Ready) → (served r (words_of cells) (λ m. (bound_on m f, words_of cells))).0 ≡ (served r (words_of cells') (λ m. (
      bound_on m f,
      words_of
          cells',
    ))).0
    go (ready tree) = refl
    go (unready k p) = refl

-- ---- What it promises of calls

module _ (image cells : List ℕ) (f bound : ℕ) (known : (bound_bytes image cells f).0 ≡ Done bound 0 0) where
  -- "No call takes more steps"
  pub bound_holds : (cells' arguments : List ℕ) (budget : ℕ) (trace : List ℕ) → steps_of (call_bytes image cells' f arguments budget trace).0 ≤ bound
  unfolding call_bytes
  bound_holds cells' arguments budget trace =
      both_calls (λ x y. steps_of x.0 ≤ bound) (whole_words image) (words_of image) (words_of cells') f (words_of arguments) (λ k p. omega arith)
      budget budget room room run
    where
      room : ℕ
      room = length (words_of trace)

      run : (tree : Image) (n : ℕ) → admitted (whole_words image) (words_of image) ≡ got tree n
          → steps_of (ended (procedure_at tree.procedures f) (words_of cells') (run_of tree (words_of cells') f (words_of arguments) budget room)).0 ≤
          bound
      run tree n e =
          let (read, b, is) = bound_known image cells f bound known in
          let same : tree ≡ read = (got_same (admitted (whole_words image) (words_of image)) tree read n b.known.words e b.known.read).0 in
          let ps = read.procedures in
          let h = steps_procedure (trace_words room) budget read.arrays ps (length ps) f
          (constant_bodies image cells f read b (length ps))
          (argument_values (procedure_at ps f).types (words_of arguments)) 0 [] (words_of cells') in
          let c = cost_among ps (length ps) f b.known.present in
          rw (same, steps_ended (procedure_at ps f) (words_of cells')) (omega arith)

  -- "a budget of at least the bound never gives 21"
  pub bound_enough : (cells' arguments : List ℕ) (budget : ℕ) (trace : List ℕ) → bound ≤ budget
      → (p z n : ℕ) → (call_bytes image cells' f arguments budget trace).0 ≡ Stopped 21 p z n → ⊥
  bound_enough cells' arguments budget trace enough p z n e =
      go (two_budgets image cells' f arguments budget (suc budget) trace (omega arith))
    where
      go : SameOrSpent budget (call_bytes image cells' f arguments budget trace) (call_bytes image cells' f arguments (suc budget) trace) → ⊥
      go (same_call s) =
          let x = budget_reached image cells' f arguments budget trace p z n e in
          let y = budget_reached image cells' f arguments (suc budget) trace p z n (sym (ap (λ (r : Called). r.0) s) ∙ e) in
          omega arith
      go (spent_budget q m s l) = let h = bound_holds cells' arguments (suc budget) trace in omega arith

  -- "Where neither the procedure nor any it calls, directly or through others, has an if, or a return other than as the body's last statement, a call
  -- that ends with a result takes exactly that many."
  pub bound_exact : (tree : Image) (n : ℕ) → admitted (whole_words image) (words_of image) ≡ got tree n → Straight tree.procedures f
      → (cells' arguments : List ℕ) (budget : ℕ) (trace : List ℕ) (v z m : ℕ) → (call_bytes image cells' f arguments budget trace).0 ≡ Done v z m → z ≡
      bound
  unfolding call_bytes ended
  bound_exact source k admits straight cells' arguments budget trace =
      both_calls (λ x y. (v z m : ℕ) → x.0 ≡ Done v z m → z ≡ bound) (whole_words image) (words_of image) (words_of cells') f (words_of arguments)
      (λ i p v z m e. absurd (done_not_refused e i p refl)) budget budget room room run
    where
      room : ℕ
      room = length (words_of trace)

      taken : (p : Procedure) (c : ℕ) (x : Ran (List ℕ) Given) → Takes 0 c x → (v z m : ℕ) → (ended p (words_of cells') x).0 ≡ Done v z m → z ≡ c
      taken p c (on (gave w after) y t) (ends h) v z m e = let q : y ≡ z = cc in omega arith
      taken p c (halt i l y t) halts v z m e = absurd (let q : ◌≡◌ {A = ℕ} 0 1 = cc in omega arith)

      run : (tree : Image) (n : ℕ) → admitted (whole_words image) (words_of image) ≡ got tree n → (v z m : ℕ)
          → (ended (procedure_at tree.procedures f) (words_of cells') (run_of tree (words_of cells') f (words_of arguments) budget room)).0 ≡ Done v z m
          → z ≡ bound
      run tree n e =
          let (read, b, is) = bound_known image cells f bound known in
          let same : tree ≡ read = (got_same (admitted (whole_words image) (words_of image)) tree read n b.known.words e b.known.read).0 in
          let also : source ≡ read = (got_same (admitted (whole_words image) (words_of image)) source read k b.known.words admits b.known.read).0
          in
          let ps = read.procedures in
          let lines : Straight ps f = rw also at straight in
          let h = exact_procedure (trace_words room) budget read.arrays ps (length ps) f
          (λ g r. (constant_bodies image cells f read b (length ps) g r, lines g (reach_sound ps (length ps) f g r)))
          (argument_values (procedure_at ps f).types (words_of arguments)) 0 [] (words_of cells') in
          let c : procedure_cost ps (length ps) f ≡ bound = cost_among ps (length ps) f b.known.present ∙ is in
          rw same (taken (procedure_at ps f) bound _ (rw c at h))
