-- A trace beside a board probe's recording (document 02, wish 13): the entries of both are those that the wish names, the two agree exactly where these
-- are equal, and part exactly where they stop being so. Assumes nothing.
use Rattle.std.specs.Prelude.{ℕ, zero, suc, ◌+◌, ◌*◌, ◌^◌, ◌≤◌, ◌<◌, Bool, true, false, ◌&&◌, ◌||◌, List, [], ◌∷◌, ◌≡◌, refl, eqb, length, take}
use Rattle.std.proofs.Common.{sym, ◌∙◌, eqb-true, eq-eqb}
use Rattle.std.proofs.Math.Path.{ap}
use native.Mathlib.Omega.{arith}
use Rattle.std.proofs.lemmas.Bool.{eqb-false}
use Rattle.definitions.specs.Choice.{pick}
use Rattle.definitions.specs.Bytes.{words_of}
use Rattle.definitions.specs.Image.{kind_of, payload_of}
use Rattle.definitions.specs.declared.Compared.{Compared}
use Rattle.definitions.specs.declared.Compared.TheVariants.{Agree, Part}
use Rattle.definitions.specs.Comparing.{Entry, observed, unmatched, observable, trace_entries, probe_entries, same_entry, compared_after, compared}
use Rattle.definitions.specs.Host.{compare_bytes}
use Rattle.statements.specs.Statements.{Iff}
use Rattle.statements.specs.Comparisons.{Observable, branch, index, call, TraceShows, no_words, lone_word, shown, not_shown}
use Rattle.statements.specs.Comparisons.{ProbeRecords, nothing, lone_last, entry, begun_otherwise, PartAfter}
use Rattle.laws.specs.Tests.{false_true}

-- ---- The kinds that a probe sees

observable_true : {k : ℕ} → Observable k → observable k ≡ true
observable_true branch = refl
observable_true index = refl
observable_true call = refl

observable_kind : (k : ℕ) → observable k ≡ true → Observable k
observable_kind k o = go (eqb k 1) (eqb k 4) (eqb k 7) refl refl refl o
  where
    go : (a b c : Bool) → eqb k 1 ≡ a → eqb k 4 ≡ b → eqb k 7 ≡ c → (a || (b || c)) ≡ true → Observable k
    go true b c e f g o = rw (eqb-true k 1 e) branch
    go false true c e f g o = rw (eqb-true k 4 f) index
    go false false true e f g o = rw (eqb-true k 7 g) call
    go false false false e f g o = false_true o

pub few_kinds : (k : ℕ) → observable k ≡ true → k < 15
few_kinds k o = go (observable_kind k o)
  where
    go : {j : ℕ} → Observable j → j < 15
    go branch = omega arith
    go index = omega arith
    go call = omega arith

not_observable : (k : ℕ) → observable k ≡ false → Observable k → ⊥
not_observable k o s = false_true (sym o ∙ observable_true s)

-- ---- The entries of a trace

shows : (ws : List ℕ) → TraceShows ws (trace_entries ws)
unfolding trace_entries
shows [] = no_words
shows (w ∷ []) = lone_word w
shows (w ∷ v ∷ rest) = go (observable (kind_of w)) refl (shows rest)
  where
    go : (b : Bool) → observable (kind_of w) ≡ b → TraceShows rest (trace_entries rest)
        → TraceShows (w ∷ v ∷ rest) (pick b (observed (kind_of w) v ∷ trace_entries rest) (trace_entries rest))
    go true o k = shown w v (kind_of w) (payload_of w) (omega arith) (omega arith) (observable_kind (kind_of w) o) k
    go false o k = not_shown w v (kind_of w) (payload_of w) (omega arith) (omega arith) (not_observable (kind_of w) o) k

kept_are : {ws : List ℕ} {es : List Entry} → TraceShows ws es → trace_entries ws ≡ es
unfolding trace_entries
kept_are no_words = refl
kept_are (lone_word w) = refl
kept_are (shown w v kind place e l s k) =
    let same : kind_of w ≡ kind = omega arith in rw (same, observable_true s, kept_are k)
kept_are (not_shown w v kind place e l s k) =
    let same : kind_of w ≡ kind = omega arith in rw (same, hidden (observable kind) refl, kept_are k)
  where
    hidden : (b : Bool) → observable kind ≡ b → observable kind ≡ false
    hidden true o = absurd (s (observable_kind kind o))
    hidden false o = o

pub kept_exactly : (trace : List ℕ) (es : List Entry) → Iff (trace_entries trace ≡ es) (TraceShows trace es)
kept_exactly trace es = (λ e. rw e at (shows trace), kept_are)

-- ---- The entries of a recording

records : (ws : List ℕ) → ProbeRecords ws (probe_entries ws)
unfolding probe_entries
records [] = nothing
records (w ∷ []) = lone_last w
records (w ∷ v ∷ rest) = go (observable (kind_of w)) (eqb w (kind_of w * 2 ^ 28)) refl refl (records rest)
  where
    go : (b c : Bool) → observable (kind_of w) ≡ b → eqb w (kind_of w * 2 ^ 28) ≡ c → ProbeRecords rest (probe_entries rest)
        → ProbeRecords (w ∷ v ∷ rest) (pick (b && c) (observed (kind_of w) v) unmatched ∷ probe_entries rest)
    go true true o e r = entry w v (kind_of w) (eqb-true w (kind_of w * 2 ^ 28) e) (observable_kind (kind_of w) o) r
    go true false o e r = begun_otherwise w v (λ kind s f. eqb-false w (kind_of w * 2 ^ 28) e (let same : kind_of w ≡ kind = omega arith in rw same f)) r
    go false c o e r = begun_otherwise w v (λ kind s f. let same : kind_of w ≡ kind = omega arith in not_observable kind (rw same at o) s) r

recorded_are : {ws : List ℕ} {es : List Entry} → ProbeRecords ws es → probe_entries ws ≡ es
unfolding probe_entries
recorded_are nothing = refl
recorded_are (lone_last w) = refl
recorded_are (entry w v kind e s r) =
    let same : kind_of w ≡ kind = omega arith in rw (same, observable_true s, eq-eqb w (kind * 2 ^ 28) e, recorded_are r)
recorded_are (begun_otherwise w v n r) = rw (otherwise (observable (kind_of w)) (eqb w (kind_of w * 2 ^ 28)) refl refl, recorded_are r)
  where
    otherwise : (b c : Bool) → observable (kind_of w) ≡ b → eqb w (kind_of w * 2 ^ 28) ≡ c → (observable (kind_of w) && eqb w (kind_of w * 2 ^ 28)) ≡ false
    otherwise true true o e = absurd (n (kind_of w) (observable_kind (kind_of w) o) (eqb-true w (kind_of w * 2 ^ 28) e))
    otherwise true false o e = rw (o, e)
    otherwise false c o e = rw o

pub recorded_exactly : (probe : List ℕ) (es : List Entry) → Iff (probe_entries probe ≡ es) (ProbeRecords probe es)
recorded_exactly probe es = (λ e. rw e at (records probe), recorded_are)

-- ---- Where two lists of entries agree, and where they part

-- a trace has no entry that is equal to none
data Observed : List Entry → Type 0 where
  none : Observed []
  and_one : (k v : ℕ) {es : List Entry} → Observed es → Observed (observed k v ∷ es)

trace_observed : {ws : List ℕ} {es : List Entry} → TraceShows ws es → Observed es
trace_observed no_words = none
trace_observed (lone_word w) = none
trace_observed (shown w v kind place e l s k) = and_one kind v (trace_observed k)
trace_observed (not_shown w v kind place e l s k) = trace_observed k

same_entry_lem : (k v : ℕ) (p : Entry) → same_entry (observed k v) p ≡ true → observed k v ≡ p
unfolding same_entry
same_entry_lem k v (observed j w) s = go (eqb k j) (eqb v w) refl refl s
  where
    go : (b c : Bool) → eqb k j ≡ b → eqb v w ≡ c → (b && c) ≡ true → observed k v ≡ observed j w
    go true true e f s = rw (eqb-true k j e, eqb-true v w f)
    go true false e f s = false_true s
    go false c e f s = false_true s
same_entry_lem k v unmatched s = false_true s

same_self : (k v : ℕ) → same_entry (observed k v) (observed k v) ≡ true
unfolding same_entry
same_self k v = rw (eq-eqb k k refl, eq-eqb v v refl)

-- whether the next two entries are equal
same_or_not : {A : Type 0} (k v : ℕ) (p : Entry) → (same_entry (observed k v) p ≡ true → observed k v ≡ p → A)
    → (same_entry (observed k v) p ≡ false → (observed k v ≡ p → ⊥) → A) → A
same_or_not {A} k v p if-same if-not = go (same_entry (observed k v) p) refl
  where
    go : (b : Bool) → same_entry (observed k v) p ≡ b → A
    go true s = if-same s (same_entry_lem k v p s)
    go false s = if-not s (λ e. false_true (sym s ∙ rw (← e) (same_self k v)))

agrees : {ts : List Entry} → Observed ts → (n : ℕ) → compared_after n ts ts ≡ Agree (n + length ts)
unfolding compared_after
agrees none n = let e : n + 0 ≡ n = omega arith in rw e
agrees (and_one k v {es} o) n = let e : n + 1 + length es ≡ n + suc (length es) = omega arith in rw (same_self k v, agrees o (n + 1), e)

agreed : {ts : List Entry} → Observed ts → (ps : List Entry) (n m : ℕ) → compared_after n ts ps ≡ Agree m → (ts ≡ ps) × (n + length ts ≡ m)
unfolding compared_after
agreed none [] n m e = let same : n ≡ m = cc in (refl, omega arith)
agreed none (p ∷ ps) n m e = absurd (let z : ◌≡◌ {A = ℕ} 0 1 = cc in omega arith)
agreed (and_one k v o) [] n m e = absurd (let z : ◌≡◌ {A = ℕ} 0 1 = cc in omega arith)
agreed (and_one k v o) (p ∷ ps) n m e =
    same_or_not k v p
    (λ s q. let (same, long) = agreed o ps (n + 1) m (rw s at e) in (rw (q, same), omega arith))
    (λ s q. let f = rw s at e in absurd (let z : ◌≡◌ {A = ℕ} 0 1 = cc in omega arith))

-- there are no two entries beyond the shorter
parts_at_once : (t : Entry) (ts : List Entry) → PartAfter 0 [] (t ∷ ts) × PartAfter 0 (t ∷ ts) []
parts_at_once t ts = (
  record { in_trace = omega arith; in_recording = omega arith; equal = refl; no_further = λ e. let z : ◌≡◌ {A = ℕ} 0 1 = cc in omega arith },
  record { in_trace = omega arith; in_recording = omega arith; equal = refl; no_further = λ e. let z : ◌≡◌ {A = ℕ} 0 1 = cc in omega arith },
)

one_more : (n : ℕ) (t p : Entry) (ts ps : List Entry) → t ≡ p → PartAfter n ts ps → PartAfter (suc n) (t ∷ ts) (p ∷ ps)
one_more n t p ts ps e a =
    record {
      in_trace = omega (arith, a.in_trace);
      in_recording = omega (arith, a.in_recording);
      equal = rw (e, a.equal);
      no_further = λ f. a.no_further cc;
    }

one_less : (n : ℕ) (t p : Entry) (ts ps : List Entry) → PartAfter (suc n) (t ∷ ts) (p ∷ ps) → (t ≡ p) × PartAfter n ts ps
one_less n t p ts ps a =
    let q : t ∷ take n ts ≡ p ∷ take n ps = a.equal in
    let first : t ≡ p = cc in (
      first,
      record {
        in_trace = omega (arith, a.in_trace);
        in_recording = omega (arith, a.in_recording);
        equal = cc;
        no_further = λ f. a.no_further (rw (first, f));
      },
    )

parted : {ts : List Entry} → Observed ts → (ps : List Entry) (n m : ℕ) → compared_after n ts ps ≡ Part m → (j : ℕ) × (m ≡ n + j) × PartAfter j ts ps
unfolding compared_after
parted none [] n m e = absurd (let z : ◌≡◌ {A = ℕ} 0 1 = cc in omega arith)
parted none (p ∷ ps) n m e = let same : n ≡ m = cc in (0, omega arith, (parts_at_once p ps).0)
parted (and_one k v {es} o) [] n m e = let same : n ≡ m = cc in (0, omega arith, (parts_at_once (observed k v) es).1)
parted (and_one k v {es} o) (p ∷ ps) n m e =
    same_or_not k v p
    (λ s q. let (j, f, a) = parted o ps (n + 1) m (rw s at e) in (suc j, omega arith, one_more j (observed k v) p es ps q a))
    (λ s q.
    let f = rw s at e in
    let same : n ≡ m = cc in (
      0,
      omega arith,
      record { in_trace = omega arith; in_recording = omega arith; equal = refl; no_further = λ g. q cc },
    ))

parts : {ts : List Entry} → Observed ts → (ps : List Entry) (n j : ℕ) → PartAfter j ts ps → compared_after n ts ps ≡ Part (n + j)
unfolding compared_after
parts none [] n j a = absurd (a.no_further refl)
parts none (p ∷ ps) n j a = let e : n + j ≡ n = omega (arith, a.in_trace) in rw e
parts (and_one k v o) [] n j a = let e : n + j ≡ n = omega (arith, a.in_recording) in rw e
parts (and_one k v {es} o) (p ∷ ps) n zero a =
    same_or_not k v p
    (λ s q. absurd (a.no_further (rw q)))
    (λ s q. let e : n + 0 ≡ n = omega arith in rw (s, e))
parts (and_one k v {es} o) (p ∷ ps) n (suc j) a =
    let (q, b) = one_less j (observed k v) p es ps a in
    let e : n + 1 + j ≡ n + suc j = omega arith in
    same_or_not k v p
    (λ s _. rw (s, parts o ps (n + 1) j b, e))
    (λ s r. absurd (r q))

-- ---- The comparison, on lent bytes

module _ (trace probe : List ℕ) (n : ℕ) where
  abbrev ours : List Entry
  ours = trace_entries (words_of trace)

  abbrev theirs : List Entry
  theirs = probe_entries (words_of probe)

  observed_ours : Observed ours
  observed_ours = trace_observed (shows (words_of trace))

  pub agree_exactly : Iff (compare_bytes trace probe ≡ Agree n) ((trace_entries (words_of trace) ≡ probe_entries (words_of probe)) × (length (trace_entries (words_of trace)) ≡ n))
  unfolding compare_bytes compared
  agree_exactly = (
    λ e. let (same, long) = agreed observed_ours theirs 0 n e in (same, omega arith),
    λ (same, long). rw (← same) (agrees observed_ours 0 ∙ ap Agree (omega arith)),
  )

  pub parted_there : Iff (compare_bytes trace probe ≡ Part n) (PartAfter n (trace_entries (words_of trace)) (probe_entries (words_of probe)))
  unfolding compare_bytes compared
  parted_there = (
    λ e. let (j, f, a) = parted observed_ours theirs 0 n e in let same : j ≡ n = omega arith in rw same at a,
    λ a. parts observed_ours theirs 0 n a ∙ ap Part (omega arith),
  )
