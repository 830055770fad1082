-- Property 1, the checker: it accepts exactly the words that spell a tree which keeps the limits and breaks no rule, and refuses all others with
-- document 01's number and place. Assumes nothing.
use Rattle.std.specs.Prelude.{ℕ, ◌≤◌, true, false, not, List, [], ◌∷◌, ◌⊎◌, ◌≡◌, ltb, eqb, length}
use Rattle.std.proofs.Math.Bool.{Bool}
use Rattle.std.proofs.Common.{true≢false, inl, inr, sym, ap, ◌∙◌, arith}
use Rattle.std.proofs.Math.Path.{refl}
use borrow.Author.Tests.{eqb-true, eqb-false, ltb-false, lt-ltb, le-ltb, eq-eqb, ne_eqb}
use Rattle.definitions.specs.Choice.{pick}
use Rattle.definitions.specs.declared.Fault.{Fault}
use Rattle.definitions.specs.declared.Checked.TheVariants.{Accepted, Refused}
use Rattle.definitions.specs.Bytes.{words_of}
use Rattle.definitions.specs.Image.{Image}
use Rattle.definitions.specs.Encoding.{image_words}
use Rattle.definitions.specs.Reading.{Parse, got, refused, read_image}
use Rattle.definitions.specs.Faults.{fault, no_fault, before, least}
use Rattle.definitions.specs.Sorts.{image_sort_faults}
use Rattle.definitions.specs.Labels.{image_label_faults}
use Rattle.definitions.specs.Checking.{fault_of, without_fault, admitted, verdict, checked}
use Rattle.definitions.specs.Host.{whole_words, check_bytes}
use Rattle.statements.specs.Statements.{Iff, Admissible, AdmissibleBytes, Among, here, there, Lowest, Refuses, reading_refused}
use Rattle.statements.specs.Statements.{sort_fault, label_fault, RefusesBytes}
use Rattle.laws.specs.Tests.{and_false}
use Rattle.laws.specs.Trees.{anywhere_procedures}
use Rattle.laws.specs.Least.{AsLow, nothing, lower_place, same_word, least_low, least_among, least_found}
use Rattle.laws.specs.Listed.{All, all_none, all_more, all_sort_faults, all_label_faults}
use Rattle.laws.specs.Faultless.{faultless, no_fault_of}
use Rattle.laws.specs.Reads.{ReadRefusal, no_image_lem, wrong_word, ends_early, spare_word, too_deep, refused_as}
use Rattle.laws.specs.ReadImages.{reads_image, open_image}
use Rattle.laws.specs.Admitted.{admit, admitted_read, accepted_admitted}
use Rattle.readback.specs.Like.{LikeImage}
use Rattle.readback.specs.Parses.{Reads, reads}
use Rattle.readback.specs.Back.{back_image}
use Rattle.readback.specs.LikeFaults.{same_empty, same_sort_faults, same_label_faults}

-- ---- Accepted exactly

module _ (whole : Bool) (words : List ℕ) where
  -- what was read and has no fault spells the words that it was read from
  pub admitted_admissible : (tree : Image) (n : ℕ) → admitted whole words ≡ got tree n → Admissible whole words tree
  admitted_admissible tree n e =
      let (r, h) = admitted_read whole words tree n e in
      let o = open_image whole words tree n r in
      let (sorts, labels) = faultless tree h in
      record {
        in_words = o.is_whole;
        spelled = o.spelled;
        limits = o.fits;
        short = rw o.form o.short;
        no_sort_fault = sorts;
        no_label_fault = labels;
      }

  pub accepted_admissible : checked whole words ≡ Accepted → (tree : Image) × Admissible whole words tree
  accepted_admissible e = let (tree, n, a) = accepted_admitted whole words e in (tree, admitted_admissible tree n a)

  -- the tree that is read is the given one, up to the places of its words
  module _ (tree : Image) (a : Admissible whole words tree) where
    pub admissible_admitted : (read : Image) × (n : ℕ) × (admitted whole words ≡ got read n) × LikeImage tree read
    admissible_admitted =
        go (read_image true (image_words tree)) (ap (read_image true) a.spelled)
        (back_image tree a.limits (rw a.spelled at a.short))
      where
        go : (x : Parse Image) → read_image true words ≡ x → Reads (LikeImage tree) (length (image_words tree)) x
            → (read : Image) × (n : ℕ) × (admitted whole words ≡ got read n) × LikeImage tree read
        go x e (reads {a = read} {n} q like) =
            let sorts = same_empty (same_sort_faults like) a.no_sort_fault in
            let labels = same_empty (same_label_faults like) a.no_label_fault in
            (read, n, admit whole words read n (rw a.in_words e) (no_fault_of read sorts labels), like)

    pub admissible_accepted : checked whole words ≡ Accepted
    unfolding checked verdict
    admissible_accepted = let (read, n, e, like) = admissible_admitted in rw e

-- ---- Refused exactly

-- the numbers of each group
pub reading_number : (whole : Bool) (words : List ℕ) (k p : ℕ) → read_image whole words ≡ refused k p → (1 ≤ k) × (k ≤ 5)
reading_number whole words k p e = go (refused_as (rw e at (reads_image whole words)))
  where
    go : {n m q : ℕ} → ReadRefusal n m q → (1 ≤ m) × (m ≤ 5)
    go no_image_lem = omega arith
    go (wrong_word h) = omega arith
    go ends_early = omega arith
    go (spare_word h) = omega arith
    go (too_deep h) = omega arith

among_all : {P : Fault → Type 0} {f : Fault} {fs : List Fault} → All P fs → Among f fs → P f
among_all all_none m = elim m [ ]
among_all (all_more h x) here = h
among_all (all_more h x) (there m) = among_all x m

pub sort_number : (tree : Image) (f : Fault) → Among f (image_sort_faults tree) → (6 ≤ f.number) × (f.number ≤ 8)
sort_number tree f m =
    among_all {P = λ g. (6 ≤ g.number) × (g.number ≤ 8)}
    (all_sort_faults (λ p r. omega arith) (λ p r. omega arith) (λ p r. omega arith) tree (anywhere_procedures tree.procedures)) m

pub label_number : (tree : Image) (f : Fault) → Among f (image_label_faults tree) → (9 ≤ f.number) × (f.number ≤ 13)
label_number tree f m =
    among_all {P = λ g. (9 ≤ g.number) × (g.number ≤ 13)}
    (all_label_faults (λ p r. omega arith) (λ p r. omega arith) (λ p r. omega arith) (λ p r. omega arith) (λ p r. omega arith) tree
    (anywhere_procedures tree.procedures)) m

-- a fault does not go before one that stands at least as low
not_before : {a f : Fault} → AsLow a f → before f a ≡ false
not_before {a} {f} (nothing e) = rw (eq-eqb f.number 0 e)
not_before {a} {f} (lower_place n h) =
    rw (ne_eqb a.number 0 n, le-ltb f.place a.place (omega arith), ne_eqb f.place a.place (λ e. omega arith))
    (and_false (not (eqb f.number 0)) false refl)
not_before {a} {f} (same_word n e h) =
    rw (ne_eqb a.number 0 n, le-ltb f.place a.place (omega arith), eq-eqb f.place a.place (sym e), le-ltb f.number a.number h)
    (and_false (not (eqb f.number 0)) false refl)

-- the least of faults that have numbers is the lowest
module _ (fs : List Fault) (numbered : (f : Fault) → Among f fs → f.number ≡ 0 → ⊥) where
  pub least_lowest : ((least no_fault fs).number ≡ 0 → ⊥) → Lowest (least no_fault fs) fs
  least_lowest n = go (least_among fs no_fault)
    where
      go : (least no_fault fs ≡ no_fault) ⊎ Among (least no_fault fs) fs → Lowest (least no_fault fs) fs
      go (inl e) = absurd (n (ap (λ (f : Fault). f.number) e))
      go (inr m) = record { listed = m; none_before = λ g h. not_before (least_low fs no_fault g h) }

  pub lowest_least : (f : Fault) → Lowest f fs → least no_fault fs ≡ f
  lowest_least f l = go (least_among fs no_fault) (least_low fs no_fault f l.listed)
    where
      found : (least no_fault fs).number ≡ 0 → ⊥
      found = least_found fs f l.listed (numbered f l.listed)

      same : (a : Fault) → before a f ≡ false → AsLow a f → a ≡ f
      same a e (nothing z) = absurd (numbered f l.listed z)
      same a e (lower_place n h) =
          let goes : before a f ≡ true = rw (ne_eqb a.number 0 n, ne_eqb f.number 0 (numbered f l.listed), lt-ltb a.place f.place h) in
          absurd (true≢false (sym goes ∙ e))
      same a e (same_word n q h) = by_number (ltb a.number f.number) refl
        where
          by_number : (b : Bool) → ltb a.number f.number ≡ b → a ≡ f
          by_number true t =
              let goes : before a f ≡ true =
              rw (
                ne_eqb a.number 0 n,
                ne_eqb f.number 0 (numbered f l.listed),
                le-ltb a.place f.place (omega arith),
                eq-eqb a.place f.place q,
                t,
              ) in
              absurd (true≢false (sym goes ∙ e))
          by_number false t =
              let low = ltb-false a.number f.number t in
              let number : a.number ≡ f.number = omega arith in
              λ i. record { number = number i; place = q i }

      go : (least no_fault fs ≡ no_fault) ⊎ Among (least no_fault fs) fs → AsLow (least no_fault fs) f → least no_fault fs ≡ f
      go (inl e) a = absurd (found (ap (λ (f : Fault). f.number) e))
      go (inr m) a = same (least no_fault fs) (l.none_before (least no_fault fs) m) a

pub none_listed : (fs : List Fault) → ((f : Fault) → Among f fs → f.number ≡ 0 → ⊥) → (least no_fault fs).number ≡ 0 → fs ≡ []
none_listed [] n e = refl
none_listed (f ∷ fs) n e = absurd (least_found (f ∷ fs) f here (n f here) e)

-- the lowest fault of a tree, by its groups
module _ (tree : Image) where
  sort_numbered : (f : Fault) → Among f (image_sort_faults tree) → f.number ≡ 0 → ⊥
  sort_numbered f m e = let z = sort_number tree f m in omega arith

  label_numbered : (f : Fault) → Among f (image_label_faults tree) → f.number ≡ 0 → ⊥
  label_numbered f m e = let z = label_number tree f m in omega arith

  fault_of_lem : ((fault_of tree).number ≡ 0 → ⊥)
      → Lowest (fault_of tree) (image_sort_faults tree) ⊎ ((image_sort_faults tree ≡ []) × Lowest (fault_of tree) (image_label_faults tree))
  unfolding fault_of
  fault_of_lem = go (eqb (least no_fault (image_sort_faults tree)).number 0) refl
    where
      lowest : Bool → Fault
      lowest b = pick b (least no_fault (image_label_faults tree)) (least no_fault (image_sort_faults tree))

      go : (b : Bool) → eqb (least no_fault (image_sort_faults tree)).number 0 ≡ b → ((lowest b).number ≡ 0 → ⊥)
          → Lowest (lowest b) (image_sort_faults tree) ⊎ ((image_sort_faults tree ≡ []) × Lowest (lowest b) (image_label_faults tree))
      go true e n = inr (none_listed (image_sort_faults tree) sort_numbered (eqb-true _ 0 e), least_lowest (image_label_faults tree) label_numbered n)
      go false e n = inl (least_lowest (image_sort_faults tree) sort_numbered n)

  sort_fault_of : (f : Fault) → Lowest f (image_sort_faults tree) → fault_of tree ≡ f
  unfolding fault_of
  sort_fault_of f l = rw (lowest_least (image_sort_faults tree) sort_numbered f l, ne_eqb f.number 0 (sort_numbered f l.listed))

  label_fault_of : (f : Fault) → image_sort_faults tree ≡ [] → Lowest f (image_label_faults tree) → fault_of tree ≡ f
  unfolding fault_of least
  label_fault_of f e l = rw e (lowest_least (image_label_faults tree) label_numbered f l)

module _ (whole : Bool) (words : List ℕ) (k p : ℕ) where
  -- what was read is refused by its lowest fault, where that has a number
  faulty : (tree : Image) (n : ℕ) → read_image whole words ≡ got tree n → (k ≡ 0 → ⊥) → fault_of tree ≡ fault k p → checked whole words ≡ Refused k p
  unfolding checked admitted without_fault verdict
  faulty tree n r z e = rw (r, e, ne_eqb k 0 z)

  pub refuses_refused : Refuses whole words k p → checked whole words ≡ Refused k p
  unfolding checked admitted without_fault verdict
  refuses_refused (reading_refused r) = rw r
  refuses_refused (sort_fault tree n r l) = faulty tree n r (sort_numbered tree (fault k p) l.listed) (sort_fault_of tree (fault k p) l)
  refuses_refused (label_fault tree n r e l) = faulty tree n r (label_numbered tree (fault k p) l.listed) (label_fault_of tree (fault k p) e l)

  pub refused_refuses : checked whole words ≡ Refused k p → Refuses whole words k p
  unfolding checked admitted without_fault verdict
  refused_refuses = by_read (read_image whole words) refl
    where
      by_group : (tree : Image) (n : ℕ) → read_image whole words ≡ got tree n → fault_of tree ≡ fault k p
          → Lowest (fault_of tree) (image_sort_faults tree) ⊎ ((image_sort_faults tree ≡ []) × Lowest (fault_of tree) (image_label_faults tree))
          → Refuses whole words k p
      by_group tree n r e (inl l) = sort_fault tree n r (rw e at l)
      by_group tree n r e (inr (s, l)) = label_fault tree n r s (rw e at l)

      by_fault : (tree : Image) (n : ℕ) → read_image whole words ≡ got tree n → (b : Bool) → eqb (fault_of tree).number 0 ≡ b
          → verdict (pick b (got tree n) (refused (fault_of tree).number (fault_of tree).place)) ≡ Refused k p → Refuses whole words k p
      by_fault tree n r true e h = absurd (let z : ◌≡◌ {A = ℕ} 0 1 = cc in omega arith)
      by_fault tree n r false e h =
          let number : (fault_of tree).number ≡ k = cc in
          let place : (fault_of tree).place ≡ p = cc in
          by_group tree n r (λ i. record { number = number i; place = place i }) (fault_of_lem tree (eqb-false (fault_of tree).number 0 e))

      by_read : (x : Parse Image) → read_image whole words ≡ x → verdict (without_fault x) ≡ Refused k p → Refuses whole words k p
      by_read (refused n q) r h = reading_refused (let a : n ≡ k = cc in let b : q ≡ p = cc in rw (← a, ← b) r)
      by_read (got tree n) r h = by_fault tree n r (eqb (fault_of tree).number 0) refl h

-- ---- The same of an image that a host lends as bytes

module _ (image : List ℕ) where
  pub accepted_bytes : check_bytes image ≡ Accepted → (tree : Image) × AdmissibleBytes image tree
  unfolding check_bytes
  accepted_bytes = accepted_admissible (whole_words image) (words_of image)

  pub accepted_exactly : Iff (check_bytes image ≡ Accepted) ((tree : Image) × AdmissibleBytes image tree)
  unfolding check_bytes
  accepted_exactly = (accepted_bytes, λ (tree, a). admissible_accepted (whole_words image) (words_of image) tree a)

  pub refused_exactly : (k p : ℕ) → Iff (check_bytes image ≡ Refused k p) (RefusesBytes image k p)
  unfolding check_bytes
  refused_exactly k p = (refused_refuses (whole_words image) (words_of image) k p, refuses_refused (whole_words image) (words_of image) k p)
