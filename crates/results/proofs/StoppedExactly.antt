-- Document 01, "From the machine's state": when each of the four stops falls, for calls on lent bytes. 23 and 24 leave the last entry that says
-- why. Of two calls that differ only in the budget, or only in the trace lent, one is the other, or the smaller budget or trace is what stopped it.
-- A call stopped with 21 has taken the steps of its budget, and one stopped with 22 has fewer than two trace words free. Assumes nothing.
use Rattle.std.specs.Prelude.{◌≡◌, refl, Bool, false, List, [], ◌∷◌, ◌++◌, ltb, get_or, take}
use Rattle.std.proofs.Common.{sym, ap, ◌∙◌, arith, ltb-false}
use Prim.Native.Nat.{ℕ, ◌+◌, ◌*◌, ◌%◌, ◌≤◌, ◌<◌}
use Rattle.std.proofs.Math.ListN.{length}
use Rattle.definitions.specs.Bytes.{words_of, lent}
use Rattle.definitions.specs.declared.Answer.{Answer}
use Rattle.definitions.specs.declared.Answer.TheVariants.{Stopped, Refused}
use Rattle.definitions.specs.Image.{arrays_of, array_length, Procedure, Image, procedure_at}
use Rattle.definitions.specs.Reading.{got}
use Rattle.definitions.specs.Checking.{admitted}
use Rattle.definitions.specs.Running.{trace_words, Ran, on, halt, Given, gave, run_procedure}
use Rattle.definitions.specs.Requests.{Called, argument_values}
use Rattle.definitions.specs.Requests.{ended, called_on, call}
use Rattle.definitions.specs.Host.{whole_words, call_bytes}
use Rattle.statements.specs.Statements.{steps_of, recorded_count, recorded_in, BeyondArray, DivisorZero, SameOrSpent}
use Rattle.statements.specs.Statements.{same_call, spent_budget, SameOrFilled, same_answer, filled_trace}
use Rattle.laws.specs.Admitted.{admitted_read}
use Rattle.laws.specs.Faultless.{faultless}
use Rattle.laws.specs.Reads.{Inside}
use Rattle.laws.specs.ReadImages.{ImageWords, open_image}
use Rattle.results.specs.TwoCalls.{steps_ended, trace_ended, recorded_lent, both_called}
use Rattle.results.specs.WordsNamed.{named_array, WithArray, Names, procedures_arrays}
use Rattle.results.specs.Answers.{Stop, budget_spent_lem, trace_full_lem, beyond_array, divisor_0, Calls, ends, stops}
use Rattle.results.specs.Answers.{call_refuses}
use Rattle.results.specs.Images.{admits_image}
use Rattle.results.proofs.Requests.{calls_image}
use Rattle.results.specs.SideBySide.{steps_taken, trace_left, SameRun, both_on, both_halt, first_halt}
use Rattle.results.specs.MoreWords.{More, more_length, more_taken}
use Rattle.results.specs.TwoRuns.{Cut, spent, filled, cut_comparison, two_runs}
use Rattle.results.specs.Runs.{Claim, Runs, goes, halts, Gives, procedure_runs}

-- ---- two calls on words that differ only in the budget and in the room for trace words

-- how a call runs the procedure that it names
abbrev pub run_of : Image → List ℕ → ℕ → List ℕ → ℕ → ℕ → Ran (List ℕ) Given
run_of tree cells f arguments budget room =
    run_procedure (trace_words room) budget tree.arrays tree.procedures (length tree.procedures) f
    (argument_values (procedure_at tree.procedures f).types arguments) 0 [] cells

pub both_calls : (P : Called → Called → Type 0) (whole : Bool) (words cells : List ℕ) (f : ℕ) (arguments : List ℕ)
    → ((k p : ℕ) → P (Refused k p, cells, []) (Refused k p, cells, [])) → (b b' r r' : ℕ)
    → ((tree : Image) (n : ℕ) → admitted whole words ≡ got tree n
    → P (ended (procedure_at tree.procedures f) cells (run_of tree cells f arguments b r))
    (ended (procedure_at tree.procedures f) cells (run_of tree cells f arguments b' r')))
    → P (call whole words cells f arguments b r) (call whole words cells f arguments b' r')
unfolding call called_on
both_calls P whole words cells f arguments refusal b b' r r' run =
    both_called P whole words cells f arguments refusal (λ tree. run_of tree cells f arguments b r) (λ tree. run_of tree cells f arguments b' r') run

-- ---- 23 and 24: the proofs

-- what a stop of the given number leaves as its last entry
abbrev LastEntry : List ℕ → ℕ → ℕ → List ℕ → Type 0
LastEntry words k place recorded = (k ≡ 23 → BeyondArray words place recorded) × (k ≡ 24 → DivisorZero words place recorded)

module _ {whole : Bool} {words : List ℕ} {tree : Image} {n : ℕ} (w : ImageWords whole words tree n) (budget room : ℕ) where
  index_beyond : (a l i : ℕ) (t : List ℕ) → l < length words → WithArray (Names words) (length tree.arrays) l (named_array a)
      → ltb i (array_length (get_or tree.arrays a 0)) ≡ false → BeyondArray words l (t ++ ((4 * 268435456 + l) ∷ i ∷ []))
  index_beyond a l i t h m e =
      let c : length tree.arrays ≡ arrays_of (get_or words 0 0) = w.arrays.words.count in
      let there : a < arrays_of (get_or words 0 0) = (let q = m.1 in omega arith) in
      record {
        array = a;
        index = i;
        before = t;
        last = refl;
        within = h;
        named = m.0;
        there = there;
        beyond = rw (w.arrays.words.word a there) at (ltb-false i (array_length (get_or tree.arrays a 0)) e);
      }

  abbrev last_entries : Claim (trace_words room) budget tree.arrays (Inside words) (WithArray (Names words) (length tree.arrays))
  last_entries =
      record {
        Going = λ z t. Unit {0};
        Stops = λ k l z t. LastEntry words k l t;
        Cells = λ cs. Unit {0};
        stored = λ cs i v c. tt;
        stepped = λ z t e g. tt;
        spent = λ l z t r e g. (λ k. absurd (omega arith), λ k. absurd (omega arith));
        recorded = λ kind l v z t r e g. tt;
        filled = λ l z t r e g. (λ k. absurd (omega arith), λ k. absurd (omega arith));
        beyond = λ a l i z t r m e g. (λ k. index_beyond a l i t r m e, λ k. absurd (omega arith));
        divisor = λ l z t r g. (λ k. absurd (omega arith), λ k. record { before = t; last = refl; within = r });
      }

-- what a call that is stopped leaves as its last entry
abbrev StopsWith : List ℕ → Called → Type 0
StopsWith words r = (k p z n : ℕ) → r.0 ≡ Stopped k p z n → LastEntry words k p r.2

refused_with : (words : List ℕ) (i q : ℕ) (cells : List ℕ) → StopsWith words (Refused i q, cells, [])
refused_with words i q cells k p z n e = absurd (let z : ◌≡◌ {A = ℕ} 0 1 = cc in omega arith)

ended_with : {whole : Bool} {words : List ℕ} {tree : Image} {n : ℕ} (w : ImageWords whole words tree n) (budget room : ℕ) (p : Procedure) (cells : List ℕ)
    {x : Ran (List ℕ) Given} → Runs (last_entries w budget room) (Gives (last_entries w budget room)) x → StopsWith words (ended p cells x)
unfolding ended
ended_with w budget room p cells (goes {a = gave v after} g c) k q z n e = absurd (let z : ◌≡◌ {A = ℕ} 0 1 = cc in omega arith)
ended_with w budget room p cells (halts {k = i} {l} s) k q z n e = let d : i ≡ k = cc in let m : l ≡ q = cc in rw (d, m) at s

call_with : (whole : Bool) (words cells : List ℕ) (f : ℕ) (arguments : List ℕ) (budget room : ℕ)
    → StopsWith words (call whole words cells f arguments budget room)
call_with whole words cells f arguments budget room =
    both_calls (λ x y. StopsWith words x) whole words cells f arguments (λ k p. refused_with words k p cells) budget budget room room
    (λ tree n e.
    let (r, faults) = admitted_read whole words tree n e in
    let w = open_image whole words tree n r in
    ended_with w budget room (procedure_at tree.procedures f) cells
    (procedure_runs (last_entries w budget room) w.places (procedures_arrays whole words tree n r (faultless tree faults).0) (length tree.procedures) f
    (argument_values (procedure_at tree.procedures f).types arguments) 0 [] cells tt tt))

-- ---- the recorded words of a call on lent bytes

-- what is known of one call (Answers): steps within the budget, the number of words recorded, which are within the trace lent, when 21 and 22 fall
record Limits (budget room : ℕ) (x : Called) : Type 0 where
  steps : steps_of x.0 ≤ budget
  count : recorded_count x.0 ≡ length x.2
  words : length x.2 ≤ room
  even : length x.2 % 2 ≡ 0
  spent_at : (p z n : ℕ) → x.0 ≡ Stopped 21 p z n → z ≡ budget
  filled_at : (p z n : ℕ) → x.0 ≡ Stopped 22 p z n → room < n + 2

limits_call : (whole : Bool) (words cells : List ℕ) (f : ℕ) (arguments : List ℕ) (budget room : ℕ)
    → Limits budget room (call whole words cells f arguments budget room)
limits_call whole words cells f arguments budget room =
    go (calls_image whole words (admits_image whole words) cells f arguments budget room)
  where
    differ : {P : Type 0} → ◌≡◌ {A = ℕ} 0 1 → P
    differ e = absurd (omega arith)

    after_budget : {k z n : ℕ} → Stop budget room k z n → k ≡ 21 → z ≡ budget
    after_budget (budget_spent_lem z n e) k = e
    after_budget (trace_full_lem z n h) k = absurd (omega arith)
    after_budget (beyond_array z n) k = absurd (omega arith)
    after_budget (divisor_0 z n) k = absurd (omega arith)

    within_two : {k z n : ℕ} → Stop budget room k z n → k ≡ 22 → room < n + 2
    within_two (budget_spent_lem z n e) k = absurd (omega arith)
    within_two (trace_full_lem z n h) k = h
    within_two (beyond_array z n) k = absurd (omega arith)
    within_two (divisor_0 z n) k = absurd (omega arith)

    go : {x : Called} → Calls (length words) cells budget room x → Limits budget room x
    go (ends v z after trace h r c) =
        record {
          steps = h;
          count = refl;
          words = r.fits;
          even = r.even;
          spent_at = λ p y n e. differ (cc);
          filled_at = λ p y n e. differ (cc);
        }
    go (stops k l z trace s i h r) =
        record {
          steps = h;
          count = refl;
          words = r.fits;
          even = r.even;
          spent_at = λ p y n e. let a : k ≡ 21 = cc in let c : z ≡ y = cc in rw c at (after_budget s a);
          filled_at = λ p y n e. let a : k ≡ 22 = cc in let c : length trace ≡ n = cc in rw c at (within_two s a);
        }
    go (call_refuses k l r) =
        record {
          steps = omega arith;
          count = refl;
          words = omega arith;
          even = refl;
          spent_at = λ p y n e. differ (cc);
          filled_at = λ p y n e. differ (cc);
        }

-- the words that a call records are the definition's
recorded_bytes : (image cells : List ℕ) (f : ℕ) (arguments : List ℕ) (budget : ℕ) (trace : List ℕ)
    → recorded_in (call_bytes image cells f arguments budget trace)
    ≡ (call (whole_words image) (words_of image) (words_of cells) f (words_of arguments) budget (length (words_of trace))).2
unfolding call_bytes
recorded_bytes image cells f arguments budget trace =
    recorded_lent trace (call (whole_words image) (words_of image) (words_of cells) f (words_of arguments) budget (length (words_of trace)))
    (limits_call (whole_words image) (words_of image) (words_of cells) f (words_of arguments) budget (length (words_of trace))).count

module _ (image cells : List ℕ) (f : ℕ) (arguments : List ℕ) (budget : ℕ) (trace : List ℕ) where
  last_entry : (k p z n : ℕ) → (call_bytes image cells f arguments budget trace).0 ≡ Stopped k p z n
      → LastEntry (words_of image) k p (recorded_in (call_bytes image cells f arguments budget trace))
  unfolding call_bytes
  last_entry k p z n e =
      rw (recorded_bytes image cells f arguments budget trace)
      (call_with (whole_words image) (words_of image) (words_of cells) f (words_of arguments) budget (length (words_of trace)) k p z n e)

  -- 23 and 24 leave the last entry that says why
  pub index_stops : (p z n : ℕ) → (call_bytes image cells f arguments budget trace).0 ≡ Stopped 23 p z n
      → BeyondArray (words_of image) p (recorded_in (call_bytes image cells f arguments budget trace))
  index_stops p z n e = (last_entry 23 p z n e).0 refl

  pub divisor_stops : (p z n : ℕ) → (call_bytes image cells f arguments budget trace).0 ≡ Stopped 24 p z n
      → DivisorZero (words_of image) p (recorded_in (call_bytes image cells f arguments budget trace))
  divisor_stops p z n e = (last_entry 24 p z n e).1 refl

-- ---- 21 and 22: the proofs

-- The first of two calls has the budget b and r trace words lent, and the second no less of either.
data CutCall (b r : ℕ) (x y : Called) : Type 0 where
  cut_same : x ≡ y → CutCall b r x y
  cut_spent : (p n : ℕ) → x.0 ≡ Stopped 21 p b n → b < steps_of y.0 → CutCall b r x y
  cut_filled : (p z : ℕ) → x.0 ≡ Stopped 22 p z (length x.2) → r < length x.2 + 2 → More 2 x.2 y.2 → CutCall b r x y

cut_ended : {b r : ℕ} (p : Procedure) (cells : List ℕ) {x y : Ran (List ℕ) Given} → SameRun (cut_comparison b r) x y
    → CutCall b r (ended p cells x) (ended p cells y)
unfolding ended
cut_ended p cells (both_on {a} {z} h) = cut_same (ap (λ t. ended p cells (on a z t)) h.0)
cut_ended p cells (both_halt {k} {l} {z} h) = cut_same (ap (λ t. ended p cells (halt k l z t)) h.0)
cut_ended {b} {r} p cells (first_halt {k} {l} {z} {t} {y} q) = go q
  where
    go : {k : ℕ} → Cut b r k l z t (steps_taken y) (trace_left y) → CutCall b r (ended p cells (halt k l z t)) (ended p cells y)
    go (spent e h m) = cut_spent l (length t) (rw e) (rw (steps_ended p cells y) h)
    go (filled h m) = cut_filled l z refl h (rw (trace_ended p cells y) m)

cut_call : (b b' r r' : ℕ) → b ≤ b' → r ≤ r' → (whole : Bool) (words cells : List ℕ) (f : ℕ) (arguments : List ℕ)
    → CutCall b r (call whole words cells f arguments b r) (call whole words cells f arguments b' r')
cut_call b b' r r' budgets rooms whole words cells f arguments =
    both_calls (CutCall b r) whole words cells f arguments (λ k p. cut_same refl) b b' r r'
    (λ tree n e. cut_ended (procedure_at tree.procedures f) cells
    (two_runs b b' r r' budgets rooms tree.arrays tree.procedures (length tree.procedures) f
    (argument_values (procedure_at tree.procedures f).types arguments) cells))

module _ (image cells : List ℕ) (f : ℕ) (arguments : List ℕ) where
  -- the same call on words, where there is room for so many trace words
  abbrev on_words : ℕ → ℕ → Called
  on_words budget room = call (whole_words image) (words_of image) (words_of cells) f (words_of arguments) budget room

  abbrev on_bytes : ℕ → List ℕ → Answer × List ℕ × List ℕ
  on_bytes budget trace = call_bytes image cells f arguments budget trace

  limits : (budget room : ℕ) → Limits budget room (on_words budget room)
  limits budget room = limits_call (whole_words image) (words_of image) (words_of cells) f (words_of arguments) budget room

  cuts : (b b' r r' : ℕ) → b ≤ b' → r ≤ r' → CutCall b r (on_words b r) (on_words b' r')
  cuts b b' r r' h g = cut_call b b' r r' h g (whole_words image) (words_of image) (words_of cells) f (words_of arguments)

  recorded : (budget : ℕ) (trace : List ℕ) → recorded_in (on_bytes budget trace) ≡ (on_words budget (length (words_of trace))).2
  recorded budget trace = recorded_bytes image cells f arguments budget trace

  pub two_budgets : (b b' : ℕ) (trace : List ℕ) → b ≤ b' → SameOrSpent b (on_bytes b trace) (on_bytes b' trace)
  unfolding call_bytes
  two_budgets b b' trace h = go (cuts b b' room room h (omega arith))
    where
      room : ℕ
      room = length (words_of trace)

      lend : Called → Answer × List ℕ × List ℕ
      lend r = (r.0, lent cells r.1, lent trace r.2)

      go : CutCall b room (on_words b room) (on_words b' room) → SameOrSpent b (on_bytes b trace) (on_bytes b' trace)
      go (cut_same e) = same_call (ap lend e)
      go (cut_spent p n e g) = spent_budget p n e g
      go (cut_filled p z e g m) = absurd (let l = more_length m in let q = (limits b' room).words in omega arith)

  pub two_traces : (budget : ℕ) (trace trace' : List ℕ) → length (words_of trace) ≤ length (words_of trace')
      → SameOrFilled (length (words_of trace)) (on_bytes budget trace) (on_bytes budget trace')
  unfolding call_bytes
  two_traces budget trace trace' h = go (cuts budget budget room room' (omega arith) h)
    where
      room : ℕ
      room = length (words_of trace)

      room' : ℕ
      room' = length (words_of trace')

      go : CutCall budget room (on_words budget room) (on_words budget room') → SameOrFilled room (on_bytes budget trace) (on_bytes budget trace')
      go (cut_same e) =
          same_answer (ap (λ (r : Called). r.0) e) (ap (λ (r : Called). lent cells r.1) e)
          (recorded budget trace ∙ ap (λ (r : Called). r.2) e ∙ sym (recorded budget trace'))
      go (cut_spent p n e g) = absurd (let q = (limits budget room').steps in omega arith)
      go (cut_filled p z e g m) =
          filled_trace p z (length (on_words budget room).2) e g (let l = more_length m in let c = (limits budget room').count in omega arith)
          (ap (λ (t : List ℕ). take (length (on_words budget room).2) t) (recorded budget trace') ∙ more_taken m ∙ sym (recorded budget trace))

  -- "never beyond the 32-bit budget"; no more trace words are recorded than are lent
  pub steps_within : (budget : ℕ) (trace : List ℕ) → steps_of (on_bytes budget trace).0 ≤ budget
  unfolding call_bytes
  steps_within budget trace = (limits budget (length (words_of trace))).steps

  pub words_within : (budget : ℕ) (trace : List ℕ) → recorded_count (on_bytes budget trace).0 ≤ length (words_of trace)
  unfolding call_bytes
  words_within budget trace = let q = limits budget (length (words_of trace)) in rw q.count q.words

  -- "Trace entries are two words": no lone word is recorded
  pub whole_entries : (budget : ℕ) (trace : List ℕ) → recorded_count (on_bytes budget trace).0 % 2 ≡ 0
  unfolding call_bytes
  whole_entries budget trace = let q = limits budget (length (words_of trace)) in rw q.count q.even

  -- "21 budget spent": the steps are the budget's
  pub budget_reached : (budget : ℕ) (trace : List ℕ) (p z n : ℕ) → (on_bytes budget trace).0 ≡ Stopped 21 p z n → z ≡ budget
  unfolding call_bytes
  budget_reached budget trace p z n e = (limits budget (length (words_of trace))).spent_at p z n e

  -- "22 means fewer than two trace words are free for an entry."
  pub trace_filled : (budget : ℕ) (trace : List ℕ) (p z n : ℕ) → (on_bytes budget trace).0 ≡ Stopped 22 p z n → length (words_of trace) < n + 2
  unfolding call_bytes
  trace_filled budget trace p z n e = (limits budget (length (words_of trace))).filled_at p z n e
