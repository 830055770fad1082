-- The entries of a trace and of a recording, two words at a time, and each way in which a step and the comparison end. Assumes nothing.
use Prim.Native.Nat.{ℕ, suc, ◌+◌, ◌*◌, ◌/◌, ◌^◌, ◌≤◌, ◌<◌}
use mathlib.Core.Bool.{Bool, true, false, ◌&&◌}
use mathlib.Core.List.{List, [], ◌∷◌}
use mathlib.Core.Path.{◌≡◌, refl, sym, ap, ◌∙◌}
use native.Mathlib.Omega.{arith}
use borrow.Author.Tests.{leb-true, leb-false, eqb-true, eq-eqb, ne_eqb}
use lib.Dec.{leb, eqb}
use lib.ListN.{length, get_or, drop, length-drop}
use lib.Seq.{drop-cons}
use Rattle.definitions.specs.Choice.{pick}
use Rattle.definitions.specs.Bytes.{word_at, words_of}
use Rattle.definitions.specs.Image.{kind_of}
use Rattle.definitions.specs.Encoding.{word_with}
use Rattle.definitions.specs.declared.Compared.TheVariants.{Agree, Part}
use Rattle.definitions.specs.Comparing.{Entry, observed, unmatched, observable, trace_entries, probe_entries, same_entry, compared_after, compared}
use Rattle.definitions.specs.Host.{compare_bytes}
use Rattle.laws.specs.Tests.{false_true, and_right}
use Rattle.laws.specs.WordsOfBytes.{length_words_of, get_d_words_of}
use Rattle.comparing.specs.Steps.{begins_with, rest, Stepped}
use Rattle.std.specs.Prelude.{Some, None}

-- two words, and those after them
two_more : (words : List ℕ) (at : ℕ) → at + 1 < length words → drop at words ≡ get_or words at 0 ∷ get_or words (at + 1) 0 ∷ drop (at + 2) words
two_more words at h =
    let one : at + 1 ≡ suc at = omega arith in
    let two : at + 2 ≡ suc (suc at) = omega arith in
    rw (one, two, drop-cons words at 0 (omega arith), drop-cons words (suc at) 0 (omega arith))

-- ---- a trace

module _ (trace : List ℕ) (at : ℕ) where
  ended : (l : List ℕ) → length l ≤ 1 → trace_entries l ≡ []
  unfolding trace_entries
  ended [] h = refl
  ended (w ∷ []) h = refl
  ended (w ∷ v ∷ l) h = absurd (omega arith)

  trace_ended : length trace ≤ at + 1 → trace_entries (drop at trace) ≡ []
  trace_ended h = ended (drop at trace) (simp length-drop (omega arith))

  module _ (h : at + 1 < length trace) where
    trace_kept : observable (kind_of (get_or trace at 0)) ≡ true
        → trace_entries (drop at trace) ≡ observed (kind_of (get_or trace at 0)) (get_or trace (at + 1) 0) ∷ trace_entries (drop (at + 2) trace)
    unfolding trace_entries
    trace_kept o = rw (two_more trace at h, o)

    trace_passed : observable (kind_of (get_or trace at 0)) ≡ false → trace_entries (drop at trace) ≡ trace_entries (drop (at + 2) trace)
    unfolding trace_entries
    trace_passed o = rw (two_more trace at h, o)

-- ---- a recording

-- the entry that two words are
abbrev entry_of : ℕ → ℕ → Entry
entry_of w v = pick (observable (kind_of w) && eqb w (kind_of w * 2 ^ 28)) (observed (kind_of w) v) unmatched

module _ (k v : ℕ) (o : observable k ≡ true) (w u : ℕ) where
  begun_so : w ≡ word_with k 0 → same_entry (observed k v) (entry_of w u) ≡ eqb v u
  unfolding same_entry
  begun_so e =
      let same : kind_of w ≡ k = omega arith in
      let whole : w ≡ k * 2 ^ 28 = omega arith in
      rw (same, o, eq-eqb w (k * 2 ^ 28) whole, eq-eqb k k refl)

  begun_otherwise : (w ≡ word_with k 0 → ⊥) → same_entry (observed k v) (entry_of w u) ≡ false
  unfolding same_entry
  begun_otherwise n = go (observable (kind_of w) && eqb w (kind_of w * 2 ^ 28)) refl
    where
      go : (b : Bool) → (observable (kind_of w) && eqb w (kind_of w * 2 ^ 28)) ≡ b
          → same_entry (observed k v) (pick b (observed (kind_of w) u) unmatched) ≡ false
      go true e =
          let whole = eqb-true w (kind_of w * 2 ^ 28) (and_right (observable (kind_of w)) (eqb w (kind_of w * 2 ^ 28)) e) in
          rw (ne_eqb k (kind_of w) (λ same. n (omega (arith, whole, same))))
      go false e = refl

module _ (probe : List ℕ) (n : ℕ) where
  probe_pair : 2 * n + 1 < length probe
      → probe_entries (drop (2 * n) probe) ≡ entry_of (get_or probe (2 * n) 0) (get_or probe (2 * n + 1) 0) ∷ probe_entries (drop (2 * (n + 1)) probe)
  unfolding probe_entries
  probe_pair h = let next : 2 * (n + 1) ≡ 2 * n + 2 = omega arith in rw (next, two_more probe (2 * n) h)

  none_begins : (e : Entry) (l : List ℕ) → length l ≤ 1 → begins_with e (probe_entries l) ≡ false
  unfolding begins_with probe_entries same_entry
  none_begins e [] h = refl
  none_begins (observed k v) (w ∷ []) h = refl
  none_begins unmatched (w ∷ []) h = refl
  none_begins e (w ∷ v ∷ l) h = absurd (omega arith)

  no_next : (e : Entry) → length probe ≤ 2 * n + 1 → begins_with e (probe_entries (drop (2 * n) probe)) ≡ false
  no_next e h = none_begins e (drop (2 * n) probe) (simp length-drop (omega arith))

-- ---- whether a recording goes on with an entry

module _ (probe : List ℕ) (n k v : ℕ) (o : observable k ≡ true) where
  pub next_none : length probe / 4 ≤ 2 * n + 1 → false ≡ begins_with (observed k v) (probe_entries (drop (2 * n) (words_of probe)))
  next_none h = sym (no_next (words_of probe) n (observed k v) (rw length_words_of h))

  module _ (h : 2 * n + 1 < length probe / 4) (w x : ℕ) (ew : w ≡ word_at probe (2 * n)) (ex : x ≡ word_with k 0) where
    next_entry : (u : ℕ) → u ≡ word_at probe (2 * n + 1)
        → begins_with (observed k v) (probe_entries (drop (2 * n) (words_of probe))) ≡ same_entry (observed k v) (entry_of w u)
    unfolding begins_with
    next_entry u eu =
        rw (probe_pair (words_of probe) n (rw length_words_of h), get_d_words_of probe (2 * n) (omega arith), get_d_words_of probe (2 * n + 1) h, ← ew, ← eu)

    pub next_otherwise : (w ≡ x → ⊥) → false ≡ begins_with (observed k v) (probe_entries (drop (2 * n) (words_of probe)))
    next_otherwise d =
        sym (next_entry (word_at probe (2 * n + 1)) refl
        ∙ begun_otherwise k v o w (word_at probe (2 * n + 1)) (λ e. d (e ∙ sym ex)))

    pub next_so : w ≡ x → (u : ℕ) → u ≡ word_at probe (2 * n + 1)
        → eqb v u ≡ begins_with (observed k v) (probe_entries (drop (2 * n) (words_of probe)))
    next_so e u eu = sym (next_entry u eu ∙ begun_so k v o w u (e ∙ ex))

-- ---- a step

parts : (n : ℕ) (t : Entry) (ts ps : List Entry) → begins_with t ps ≡ false → compared_after n (t ∷ ts) ps ≡ Part n
unfolding begins_with compared_after
parts n t ts [] b = refl
parts n t ts (p ∷ ps) b = rw b

goes_on : (n : ℕ) (t : Entry) (ts : List Entry) (p : Entry) (ps : List Entry) → begins_with t (p ∷ ps) ≡ true
    → compared_after n (t ∷ ts) (p ∷ ps) ≡ compared_after (n + 1) ts ps
unfolding begins_with compared_after
goes_on n t ts p ps b = rw b

module _ (trace probe : List ℕ) (at n : ℕ) (h : at + 1 < length trace / 4) (g : 2 * n ≤ length probe / 4) (w k : ℕ) (ew : w ≡ word_at trace at)
    (ek : k ≡ kind_of w) (kept : Bool) (eo : kept ≡ observable k) where
  within : at + 1 < length (words_of trace)
  within = rw length_words_of h

  kind_is : k ≡ kind_of (get_or (words_of trace) at 0)
  kind_is = ek ∙ ap kind_of (ew ∙ sym (get_d_words_of trace at (omega arith)))

  pub advance_passed : kept ≡ false → Stepped (Some n) (words_of trace) at (words_of probe) n
  unfolding Stepped rest
  advance_passed s = (
    ap (λ (ts : List Entry). compared_after n ts (probe_entries (drop (2 * n) (words_of probe))))
        (trace_passed (words_of trace) at within (rw (← kind_is) (sym eo ∙ s))),
    rw length_words_of g,
  )

  module _ (o : kept ≡ true) (v : ℕ) (ev : v ≡ word_at trace (at + 1)) (b : Bool)
      (eb : b ≡ begins_with (observed k v) (probe_entries (drop (2 * n) (words_of probe)))) where
    first_is : trace_entries (drop at (words_of trace)) ≡ observed k v ∷ trace_entries (drop (at + 2) (words_of trace))
    first_is =
        trace_kept (words_of trace) at within (rw (← kind_is) (sym eo ∙ o))
        ∙ rw (← kind_is, get_d_words_of trace (at + 1) h, ← ev)

    pub advance_parted : b ≡ false → Stepped None (words_of trace) at (words_of probe) n
    unfolding Stepped rest
    advance_parted f =
        rw first_is
        (parts n (observed k v) (trace_entries (drop (at + 2) (words_of trace))) (probe_entries (drop (2 * n) (words_of probe))) (sym eb ∙ f))

    has_pair : b ≡ true → 2 * n + 1 < length (words_of probe)
    has_pair t = go (leb (length (words_of probe)) (2 * n + 1)) refl
      where
        go : (c : Bool) → leb (length (words_of probe)) (2 * n + 1) ≡ c → 2 * n + 1 < length (words_of probe)
        go true c = false_true (sym (no_next (words_of probe) n (observed k v) (leb-true (length (words_of probe)) (2 * n + 1) c)) ∙ sym eb ∙ t)
        go false c = leb-false (length (words_of probe)) (2 * n + 1) c

    pub advance_equal : b ≡ true → Stepped (Some (n + 1)) (words_of trace) at (words_of probe) n
    unfolding Stepped rest
    advance_equal t =
        let pair = probe_pair (words_of probe) n (has_pair t) in (
          rw (first_is, pair)
              (goes_on n (observed k v) (trace_entries (drop (at + 2) (words_of trace)))
              (entry_of (get_or (words_of probe) (2 * n) 0) (get_or (words_of probe) (2 * n + 1) 0)) (probe_entries (drop (2 * (n + 1)) (words_of probe)))
              (rw pair at (sym eb ∙ t))),
          omega (arith, has_pair t),
        )

-- ---- the whole

module _ (trace probe : List ℕ) where
  pub begun : rest (words_of trace) 0 (words_of probe) 0 ≡ compare_bytes trace probe
  unfolding rest compare_bytes compared
  begun = refl

  module _ (at n : ℕ) (e : rest (words_of trace) at (words_of probe) n ≡ compare_bytes trace probe) where
    pub parted : Stepped None (words_of trace) at (words_of probe) n → Part n ≡ compare_bytes trace probe
    unfolding Stepped
    parted s = sym s ∙ e

    pub passed : (m next : ℕ) → next ≡ at + 2 → Stepped (Some m) (words_of trace) at (words_of probe) n
        → (2 * m ≤ length probe / 4) × (rest (words_of trace) next (words_of probe) m ≡ compare_bytes trace probe)
    unfolding Stepped
    passed m next on (q, l) = (rw (← length_words_of probe) l, rw on (sym q ∙ e))

    module _ (h : length trace / 4 ≤ at + 1) where
      trace_over : trace_entries (drop at (words_of trace)) ≡ []
      trace_over = trace_ended (words_of trace) at (rw length_words_of h)

      longer_probe : (l : List ℕ) → 0 < length l → compared_after n [] (probe_entries l) ≡ Part n
      unfolding compared_after probe_entries
      longer_probe [] h = absurd (omega arith)
      longer_probe (w ∷ []) h = refl
      longer_probe (w ∷ v ∷ l) h = refl

      pub probe_longer : 2 * n < length probe / 4 → Part n ≡ compare_bytes trace probe
      unfolding rest
      probe_longer l =
          sym (longer_probe (drop (2 * n) (words_of probe)) (simp (length-drop, length_words_of) (omega arith)))
          ∙ (rw trace_over at e)

      no_words : (l : List ℕ) → length l ≤ 0 → compared_after n [] (probe_entries l) ≡ Agree n
      unfolding compared_after probe_entries
      no_words [] h = refl
      no_words (w ∷ l) h = absurd (omega arith)

      pub both_over : length probe / 4 ≤ 2 * n → Agree n ≡ compare_bytes trace probe
      unfolding rest
      both_over l =
          sym (no_words (drop (2 * n) (words_of probe)) (simp (length-drop, length_words_of) (omega arith)))
          ∙ (rw trace_over at e)
