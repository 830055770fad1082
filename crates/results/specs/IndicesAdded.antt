-- Document 02, wish 2: what the new index adds to the images that are accepted, and that all else stays. Assumes nothing.
use Rattle.std.specs.Prelude.{ℕ, ◌+◌, ◌-◌, ◌≤◌, ◌<◌, true, false, ◌&&◌, ◌||◌, not, List, [], ◌∷◌, ◌++◌, ◌⊎◌, eqb, leb, length}
use Rattle.std.proofs.Common.{arith, map-id, sym, ap, ◌∙◌, eqb-true, leb-true, eq-eqb, le-leb, get_or-set_same}
use Rattle.std.proofs.Math.Bool.{Bool}
use Rattle.std.proofs.lemmas.Bool.{false≢true, eqb-false}
use Rattle.std.proofs.Math.Path.{◌≡◌, refl}
use Rattle.std.proofs.Math.Logic.{inl, inr}
use Rattle.std.proofs.Math.ListN.{get_or-map}
use Rattle.definitions.specs.Choice.{pick}
use Rattle.definitions.specs.declared.Fault.{Fault}
use Rattle.definitions.specs.declared.Checked.TheVariants.{Accepted, Refused}
use Rattle.definitions.specs.declared.ConstantLoop.{ConstantLoop}
use Rattle.definitions.specs.Image.{Expression, constant, boolean, variable, cell, unary, binary, select, place_of, Image}
use Rattle.definitions.specs.Reading.{Parse, got, refused, read_image}
use Rattle.definitions.specs.Faults.{fault, no_fault, least, fault_if}
use Rattle.definitions.specs.Sorts.{image_sort_faults}
use Rattle.definitions.specs.Labels.{is_constant, constant_value, constant_loop, unbounded, bounds_inside, sum_below, bounded_sum, bounded_index, image_label_faults}
use Rattle.definitions.specs.Checking.{fault_of, without_fault, admitted, verdict, checked}
use Rattle.statements.specs.Statements.{Iff, Among, here, there, Lowest}
use Rattle.statements.specs.FormerAnswers.{AnswersAs}
use Rattle.statements.specs.FormerIndices.{formerly_unbounded, former_bounded_index, former_rule, todays_rule, upper_bounds}
use Rattle.statements.specs.FormerIndices.{image_label_faults_by, fault_by, without_fault_by, admitted_by}
use Rattle.statements.specs.FormerIndices.{formerly_admitted, Sum, variable_first, constant_first, NamesSum}
use Rattle.laws.specs.Tests.{or_false}
use Rattle.laws.specs.Sums.{BoundedSum, bounded_sum_lem, binary_parts}
use Rattle.laws.specs.Admitted.{answers_as}
use Rattle.results.specs.WordsNamed.{Names, ExpressionNames, AnyName, procedures_any}
use Rattle.results.specs.WordsNamed.{procedures_names}
use Rattle.results.specs.Accepted.{label_number, least_lowest, lowest_least, none_listed}
use Rattle.results.specs.ByIndexRule.{Relates, image_related}

-- ---- the rule for one index

-- every index that was taken is taken
pub bounded_before_bounded_now : (bounds : List ConstantLoop) (size : ℕ) (i : Expression) → former_bounded_index (upper_bounds bounds) size i ≡ true
    → bounded_index bounds size i ≡ true
unfolding former_bounded_index bounded_index
bounded_before_bounded_now bounds size (constant p v) e = e
bounded_before_bounded_now bounds size (boolean p v) e = e
bounded_before_bounded_now bounds size (variable p x) e = rw (get_or-map (λ (for : ConstantLoop). for.upper) bounds x unbounded) at e
bounded_before_bounded_now bounds size (cell p a i) e = e
bounded_before_bounded_now bounds size (unary p o f) e = e
bounded_before_bounded_now bounds size (binary p o f g) e = absurd (false≢true e)
bounded_before_bounded_now bounds size (select p c f g) e = e

-- no other index is taken than those before and the sums
pub only_sums_added : (bounds : List ConstantLoop) (size : ℕ) (i : Expression) → bounded_index bounds size i ≡ true
    → (former_bounded_index (upper_bounds bounds) size i ≡ true) ⊎ Sum i
unfolding former_bounded_index bounded_index
only_sums_added bounds size (constant p v) e = inl e
only_sums_added bounds size (boolean p v) e = inl e
only_sums_added bounds size (variable p x) e = inl (rw (get_or-map (λ (for : ConstantLoop). for.upper) bounds x unbounded) e)
only_sums_added bounds size (cell p a i) e = inl e
only_sums_added bounds size (unary p o f) e = inl e
only_sums_added bounds size (select p c f g) e = inl e
only_sums_added bounds size (binary p o f g) e = let (z, sum) = binary_parts bounds size p o f g e in inr (rw z (by_order sum))
  where
    by_order : {f g : Expression} → BoundedSum bounds size f g ⊎ BoundedSum bounds size g f → Sum (binary p 0 f g)
    by_order (inl (bounded_sum_lem e)) = variable_first
    by_order (inr (bounded_sum_lem e)) = constant_first

-- "It is bounded if the loop has no pass, or if the upper bound minus 1 plus the constant is below the length, in whole numbers."
module _ (bounds : List ConstantLoop) (x from to : ℕ) (here : x < length bounds) (c size : ℕ) where
  sum_below_lem : Iff (sum_below (constant_loop (to - from) to) c size ≡ true) ((to ≤ from) ⊎ (to - 1 + c < size))
  sum_below_lem = (λ e. taken (eqb (to - from) 0) refl e, λ s. admits s)
    where
      taken : (none : Bool) → eqb (to - from) 0 ≡ none → (none || leb (to + c) size) ≡ true → (to ≤ from) ⊎ (to - 1 + c < size)
      taken true e _ = let z = eqb-true (to - from) 0 e in inl (omega arith)
      taken false e h = let n = eqb-false (to - from) 0 e in let l = leb-true (to + c) size h in inr (omega arith)

      admits : (to ≤ from) ⊎ (to - 1 + c < size) → (eqb (to - from) 0 || leb (to + c) size) ≡ true
      admits (inl h) = rw (eq-eqb (to - from) 0 (omega arith)) refl
      admits (inr h) = go (eqb (to - from) 0) refl
        where
          go : (none : Bool) → eqb (to - from) 0 ≡ none → (none || leb (to + c) size) ≡ true
          go true e = refl
          go false e = let n = eqb-false (to - from) 0 e in le-leb (to + c) size (omega arith)

  module _ (j k p q r : ℕ) where
    pub variable_and_constant : Iff (bounded_index (bounds_inside bounds x (constant j from) (constant k to)) size (binary p 0 (variable q x) (constant r c)) ≡ true)
        ((to ≤ from) ⊎ (to - 1 + c < size))
    unfolding bounded_index bounded_sum is_constant constant_value
    variable_and_constant = rw (get_or-set_same bounds x (constant_loop (to - from) to) unbounded here, or_false (sum_below (constant_loop (to - from) to) c size)) sum_below_lem

    pub constant_and_variable : Iff (bounded_index (bounds_inside bounds x (constant j from) (constant k to)) size (binary p 0 (constant r c) (variable q x)) ≡ true)
        ((to ≤ from) ⊎ (to - 1 + c < size))
    unfolding bounded_index bounded_sum is_constant constant_value
    constant_and_variable = rw (get_or-set_same bounds x (constant_loop (to - from) to) unbounded here) sum_below_lem

-- ---- faults that are there no more

-- a fault of 11, at a place of which L holds
abbrev Unbounded : (ℕ → Type 0) → Fault → Type 0
Unbounded L f = (p : ℕ) × (f ≡ fault 11 p) × L p

-- today's faults are the former ones but for some of 11, at places of which L holds
data Fewer (L : ℕ → Type 0) : List Fault → List Fault → Type 0 where
  none : Fewer L [] []
  stays : {f : Fault} {fs gs : List Fault} → Fewer L fs gs → Fewer L (f ∷ fs) (f ∷ gs)
  gone : {p : ℕ} {fs gs : List Fault} → L p → Fewer L fs gs → Fewer L fs (fault 11 p ∷ gs)

module _ {L : ℕ → Type 0} where
  all_stay : (fs : List Fault) → Fewer L fs fs
  all_stay [] = none
  all_stay (f ∷ fs) = stays (all_stay fs)

  fewer_appended : {fs gs hs is : List Fault} → Fewer L fs gs → Fewer L hs is → Fewer L (fs ++ hs) (gs ++ is)
  fewer_appended none y = y
  fewer_appended (stays x) y = stays (fewer_appended x y)
  fewer_appended (gone l x) y = gone l (fewer_appended x y)

  was_there : {f : Fault} {fs gs : List Fault} → Fewer L fs gs → Among f fs → Among f gs
  was_there none m = elim m [ ]
  was_there (stays x) here = here
  was_there (stays x) (there m) = there (was_there x m)
  was_there (gone l x) m = there (was_there x m)

  there_or_gone : {f : Fault} {fs gs : List Fault} → Fewer L fs gs → Among f gs → Among f fs ⊎ Unbounded L f
  there_or_gone none m = elim m [ ]
  there_or_gone (stays x) here = inl here
  there_or_gone {f} (stays x) (there m) = go (there_or_gone x m)
    where
      go : {g : Fault} {fs : List Fault} → Among f fs ⊎ Unbounded L f → Among f (g ∷ fs) ⊎ Unbounded L f
      go (inl m) = inl (there m)
      go (inr k) = inr k
  there_or_gone (gone {p} l x) here = inr (p, refl, l)
  there_or_gone (gone l x) (there m) = there_or_gone x m

  none_now : {fs gs : List Fault} → Fewer L fs gs → gs ≡ [] → fs ≡ []
  none_now none e = refl
  none_now (stays x) e = cc
  none_now (gone l x) e = cc

  -- the lowest of today's faults is the former one, or the former one is there no more
  lowest_compared : {fs gs : List Fault} → Fewer L fs gs → ((f : Fault) → Among f fs → f.number ≡ 0 → ⊥)
      → (least no_fault fs ≡ least no_fault gs) ⊎ Unbounded L (least no_fault gs)
  lowest_compared {fs} {gs} x numbered = go (eqb (least no_fault gs).number 0) refl
    where
      former_numbered : (f : Fault) → Among f gs → f.number ≡ 0 → ⊥
      former_numbered f m z = by (there_or_gone x m)
        where
          by : Among f fs ⊎ Unbounded L f → ⊥
          by (inl k) = numbered f k z
          by (inr (p, e, l)) = let n : ◌≡◌ {A = ℕ} 11 0 = sym (ap (λ (g : Fault). g.number) e) ∙ z in absurd (omega arith)

      go : (b : Bool) → eqb (least no_fault gs).number 0 ≡ b → (least no_fault fs ≡ least no_fault gs) ⊎ Unbounded L (least no_fault gs)
      go true e =
          let none_before = none_listed gs former_numbered (eqb-true (least no_fault gs).number 0 e) in
          inl (rw (none_before, none_now x none_before) refl)
      go false e = by (there_or_gone x lowest.listed)
        where
          lowest : Lowest (least no_fault gs) gs
          lowest = least_lowest gs former_numbered (eqb-false (least no_fault gs).number 0 e)

          by : Among (least no_fault gs) fs ⊎ Unbounded L (least no_fault gs)
              → (least no_fault fs ≡ least no_fault gs) ⊎ Unbounded L (least no_fault gs)
          by (inl m) =
              inl (lowest_least fs numbered (least no_fault gs) (record { listed = m; none_before = λ g k. lowest.none_before g (was_there x k) }))
          by (inr k) = inr k

-- an index whose fault is there no more is a sum, at the word of operator 0
fewer_indices : (words : List ℕ) → Relates former_rule (Names words) (Fewer (NamesSum words))
unfolding place_of ExpressionNames
fewer_indices words =
    record {
      keep = λ (for : ConstantLoop). for.upper;
      keep_inside = λ f t. upper_inside (is_constant f && is_constant t) f t;
      keep_none = refl;
      itself = all_stay;
      appended = fewer_appended;
      index = λ bounds context size i n. go bounds context size i n (bounded_index bounds size i) (former_bounded_index (upper_bounds bounds) size i) refl refl;
    }
  where
    upper_inside : (b : Bool) (f t : Expression)
        → (pick b (constant_loop (constant_value t - constant_value f) (constant_value t)) unbounded).upper ≡ pick b (constant_value t) formerly_unbounded
    upper_inside true f t = refl
    upper_inside false f t = refl

    sum_named : {i : Expression} → Sum i → ExpressionNames (Names words) i → NamesSum words (place_of i)
    sum_named variable_first n = n.0
    sum_named constant_first n = n.0

    go : (bounds : List ConstantLoop) (context : Bool) (size : ℕ) (i : Expression) → ExpressionNames (Names words) i
        → (now former : Bool) → bounded_index bounds size i ≡ now → former_bounded_index (upper_bounds bounds) size i ≡ former
        → Fewer (NamesSum words) (fault_if (context && not now) 11 (place_of i)) (fault_if (context && not former) 11 (place_of i))
    go bounds false size i n now former e h = none
    go bounds true size i n true true e h = none
    go bounds true size i n false false e h = stays none
    go bounds true size i n false true e h = absurd (false≢true (sym e ∙ bounded_before_bounded_now bounds size i h))
    go bounds true size i n true false e h = by (only_sums_added bounds size i e)
      where
        by : (former_bounded_index (upper_bounds bounds) size i ≡ true) ⊎ Sum i → Fewer (NamesSum words) [] (fault 11 (place_of i) ∷ [])
        by (inl q) = absurd (false≢true (sym h ∙ q))
        by (inr s) = gone (sum_named s n) none

-- ---- images

-- by today's rule the checker is today's
pub by_rule : (whole : Bool) (words : List ℕ) → admitted_by todays_rule whole words ≡ admitted whole words
unfolding admitted
by_rule whole words = go (read_image whole words)
  where
    same : Relates todays_rule AnyName (λ fs gs. gs ≡ fs)
    same = record { keep = λ for. for; keep_inside = λ f t. refl; keep_none = refl; itself = λ fs. refl; appended = λ x y. rw (x, y); index = λ bounds context size i n. rw (map-id bounds) refl }

    go : (x : Parse Image) → without_fault_by todays_rule x ≡ without_fault x
    go (refused n p) = unfold without_fault_by without_fault in refl
    go (got tree n) = unfold without_fault_by without_fault fault_by fault_of in rw (image_related same tree (procedures_any tree.procedures)) refl

module _ (whole : Bool) (words : List ℕ) where
  faults_compared : (tree : Image) (n : ℕ) → read_image whole words ≡ got tree n
      → (fault_of tree ≡ fault_by former_rule tree) ⊎ Unbounded (NamesSum words) (fault_by former_rule tree)
  unfolding fault_of fault_by
  faults_compared tree n e = go (eqb (least no_fault (image_sort_faults tree)).number 0)
    where
      today : Bool → Fault
      today b = pick b (least no_fault (image_label_faults tree)) (least no_fault (image_sort_faults tree))

      former : Bool → Fault
      former b = pick b (least no_fault (image_label_faults_by former_rule tree)) (least no_fault (image_sort_faults tree))

      go : (b : Bool) → (today b ≡ former b) ⊎ Unbounded (NamesSum words) (former b)
      go false = inl refl
      go true =
          lowest_compared (image_related (fewer_indices words) tree (procedures_names whole words tree n e))
          (λ f m z. let k = label_number tree f m in omega arith)

  -- an image is admitted as it was, or it was refused with 11 at the word of operator 0
  admitted_or_added : (x : Parse Image) → read_image whole words ≡ x
      → (without_fault x ≡ without_fault_by former_rule x) ⊎ ((p : ℕ) × (without_fault_by former_rule x ≡ refused 11 p) × NamesSum words p)
  unfolding without_fault without_fault_by
  admitted_or_added (refused k p) r = inl refl
  admitted_or_added (got tree n) r = go (faults_compared tree n r)
    where
      go : (fault_of tree ≡ fault_by former_rule tree) ⊎ Unbounded (NamesSum words) (fault_by former_rule tree)
          → (without_fault (got tree n) ≡ without_fault_by former_rule (got tree n))
          ⊎ ((p : ℕ) × (without_fault_by former_rule (got tree n) ≡ refused 11 p) × NamesSum words p)
      go (inl e) = inl (rw e refl)
      go (inr (p, e, s)) = inr (p, rw e refl, s)

  -- what was admitted is admitted
  still_admitted : (tree : Image) (n : ℕ) → formerly_admitted whole words ≡ got tree n → admitted whole words ≡ got tree n
  unfolding admitted
  still_admitted tree n e = go (admitted_or_added (read_image whole words) refl)
    where
      go : (admitted whole words ≡ formerly_admitted whole words) ⊎ ((p : ℕ) × (formerly_admitted whole words ≡ refused 11 p) × NamesSum words p)
          → admitted whole words ≡ got tree n
      go (inl q) = q ∙ e
      go (inr (p, q, _)) = let z : ◌≡◌ {A = ℕ} 0 1 = cc in (absurd (omega arith))

  -- what was refused is refused with the same number at the same place, or it was refused with 11 at the word of operator 0
  pub refused_as_before : (k p : ℕ) → formerly_admitted whole words ≡ refused k p → (checked whole words ≡ Refused k p) ⊎ ((k ≡ 11) × NamesSum words p)
  unfolding checked admitted verdict
  refused_as_before k p e = go (admitted_or_added (read_image whole words) refl)
    where
      go : (admitted whole words ≡ formerly_admitted whole words) ⊎ ((q : ℕ) × (formerly_admitted whole words ≡ refused 11 q) × NamesSum words q)
          → (checked whole words ≡ Refused k p) ⊎ ((k ≡ 11) × NamesSum words p)
      go (inl q) = inl (ap verdict (q ∙ e))
      go (inr (q, f, s)) =
          let a : k ≡ 11 = cc in
          let b : q ≡ p = cc in
          inr (a, rw b at s)

  -- "What was accepted compiles to the same words", and has the answers that it had to every other request
  pub same_answers : verdict (formerly_admitted whole words) ≡ Accepted → AnswersAs (formerly_admitted whole words) whole words
  unfolding verdict
  same_answers e = go (formerly_admitted whole words) refl e
    where
      go : (x : Parse Image) → formerly_admitted whole words ≡ x → verdict x ≡ Accepted → AnswersAs (formerly_admitted whole words) whole words
      go (got tree n) q _ = rw q (answers_as whole words (got tree n) (still_admitted tree n q))
      go (refused k p) q v = let z : ◌≡◌ {A = ℕ} 0 1 = cc in (absurd (omega arith))
