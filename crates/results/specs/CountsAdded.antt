-- Document 02, wish 4: "the example's traces do not move, and answers only where the added entries fill the trace". A call as it is and as it was before
-- the wish, side by side. Assumes nothing.
use Rattle.std.specs.Prelude.{◌≡◌, Bool, not, ◌&&◌, ltb, get_or}
use Rattle.std.proofs.Math.Path.{refl, ap}
use Rattle.std.proofs.Common.{sym, ◌∙◌, true≢false, arith}
use Rattle.std.proofs.Math.Bool.{true, false}
use Rattle.std.proofs.lemmas.Bool.{false≢true}
use mathlib.Core.List.{List, [], ◌∷◌, ◌++◌, append-nil, append_assoc}
use Prim.Native.Nat.{ℕ, zero, suc, ◌+◌, ◌*◌, ◌≤◌, ◌<◌}
use borrow.Author.Tests.{ltb-true, ltb-false, lt-ltb, le-ltb, ne_eqb}
use Rattle.std.proofs.Math.Dec.{eqb}
use Rattle.std.proofs.Math.ListN.{length}
use Rattle.definitions.specs.Choice.{pick}
use Rattle.definitions.specs.Bytes.{words_of, lent}
use Rattle.definitions.specs.declared.Answer.{Answer}
use Rattle.definitions.specs.declared.Answer.TheVariants.{Stopped, Refused}
use Rattle.definitions.specs.Operators.{divides, shifts, apply_binary}
use Rattle.definitions.specs.Image.{kind_of, payload_of, form_of, Procedure, Image, procedure_at}
use Rattle.definitions.specs.Running.{Trace, trace_words, value, stop, bind, Ran, emit, divided, shifted, operated, Given, gave}
use Rattle.definitions.specs.Reading.{got}
use Rattle.definitions.specs.Checking.{admitted}
use Rattle.definitions.specs.Requests.{Called, argument_values, ended, ready_to_serve, served_call, called_on, call}
use Rattle.definitions.specs.Host.{whole_words, call_bytes}
use Rattle.statements.specs.Statements.{steps_of, recorded_count, recorded}
use Rattle.statements.specs.FormerTraces.{Operation, former_operated, called_on_by, call_bytes_by, former_call_bytes, without_counts, no_shift}
use Rattle.statements.specs.FormerTraces.{SameButWords, both_done_lem, both_stopped_lem, both_refused_lem, Ends, ends_alike, counts_fill, no_room_for_count}
use Rattle.statements.specs.FormerTraces.{OnlyEntriesAdded}
use Rattle.laws.specs.ImageIn.{largest_most}
use Rattle.laws.specs.Admitted.{admitted_read}
use Rattle.laws.specs.Reads.{Inside}
use Rattle.laws.specs.Trees.{Anywhere}
use Rattle.laws.specs.Tests.{and_right}
use Rattle.laws.specs.OperatorTests.{shift_no_division}
use Rattle.laws.specs.ReadImages.{ImageWords, open_image}
use Rattle.results.specs.WordsNamed.{WordName, named_operator, ProceduresNames, AnyName, procedures_any, Names, procedures_names}
use Rattle.results.specs.SideBySide.{Comparison, SameValue, both_value, both_stop}
use Rattle.results.specs.SideBySide.{first_stop, BothEvaluate, SameRun, both_on, both_halt, first_halt, Keeps, Operates}
use Rattle.results.specs.SideBySide.{evaluates, divided_both, procedure_runs}
use Rattle.results.specs.MoreWords.{More, no_more, more_behind, more_rest, more_splits, emitted_more}
use Rattle.results.specs.TwoCalls.{steps_ended, trace_ended, words_ended, recorded_lent, both_called}
use Rattle.results.specs.ByOperators.{one_trace, keeps_one, by_today, same_procedure}

-- ---- a trace without its entries of kind 9

-- words in pairs, as a trace has them
data Pairs : List ℕ → Type 0 where
  no_pair : Pairs []
  and_pair : {w v : ℕ} {t : List ℕ} → Pairs t → Pairs (w ∷ v ∷ t)

pair_behind : {t : List ℕ} → Pairs t → (w v : ℕ) → Pairs (t ++ (w ∷ v ∷ []))
pair_behind no_pair w v = and_pair no_pair
pair_behind (and_pair p) w v = and_pair (pair_behind p w v)

without_behind : {t : List ℕ} → Pairs t → (w v : ℕ) → without_counts (t ++ (w ∷ v ∷ [])) ≡ without_counts t ++ pick (eqb (kind_of w) 9) [] (w ∷ v ∷ [])
unfolding without_counts
without_behind no_pair w v = refl
without_behind (and_pair {w = x} {v = y} {t} p) w v = rw (without_behind p w v) (go (eqb (kind_of x) 9))
  where
    last : List ℕ
    last = pick (eqb (kind_of w) 9) [] (w ∷ v ∷ [])

    go : (c : Bool) → pick c (without_counts t ++ last) (x ∷ y ∷ without_counts t ++ last) ≡ pick c (without_counts t) (x ∷ y ∷ without_counts t) ++ last
    go true = refl
    go false = refl

without_shorter : {t : List ℕ} → Pairs t → length (without_counts t) ≤ length t
unfolding without_counts
without_shorter no_pair = omega arith
without_shorter (and_pair {w = x} {v = y} {t} p) = go (eqb (kind_of x) 9) (without_shorter p)
  where
    go : (c : Bool) → length (without_counts t) ≤ length t → length (pick c (without_counts t) (x ∷ y ∷ without_counts t)) ≤ suc (suc (length t))
    go true h = omega arith
    go false h = omega arith

-- where no word names a shift, none at a place does
no_shift_named : (words : List ℕ) → no_shift words ≡ true → (p : ℕ) → kind_of (get_or words p 0) ≡ 13 → shifts (payload_of (get_or words p 0)) ≡ true → ⊥
unfolding no_shift
no_shift_named [] h p k s = absurd (omega arith)
no_shift_named (w ∷ ws) h zero k s =
    let e : (not (eqb 13 13 && true) && no_shift ws) ≡ true = rw (k, s) at h in absurd (false≢true e)
no_shift_named (w ∷ ws) h (suc p) k s = no_shift_named ws (and_right (not (eqb (kind_of w) 13 && shifts (payload_of w))) (no_shift ws) h) p k s

-- the kind of an entry
kind_is : (kind l : ℕ) → l < 268435456 → kind_of (kind * 268435456 + l) ≡ kind
kind_is kind l h = omega arith

-- ---- the operators, today's beside the former

-- they differ in shifts alone
module _ {T U : Type 0} (P : Comparison T U) {C : Trace T} {D : Trace U} {b b' : ℕ} {R : ℕ → Type 0} (keeps : Keeps P C D b b' R) (N : ℕ → WordName → Type 0)
    (counts : (l o v w z : ℕ) (t : T) (u : U) → R l → N l (named_operator o) → shifts o ≡ true
    → BothEvaluate P z t u (shifted C l o v w t) (value (apply_binary o v w) u)) where
  former_operates : Operates P C (former_operated D) R N
  unfolding operated former_operated
  former_operates l o v w z t u i n = go (divides o) (shifts o) refl
    where
      go : (c d : Bool) → shifts o ≡ d
          → BothEvaluate P z t u (pick c (divided C l o v w) (pick d (shifted C l o v w) (value (apply_binary o v w))) t)
          (pick c (divided D l o v w) (value (apply_binary o v w)) u)
      go true d e = divided_both P keeps [] l o v w z t u i
      go false true e = counts l o v w z t u i n e
      go false false e = evaluates P (apply_binary o v w) z t u

-- ---- what a shift records

module _ (room place op v w : ℕ) (trace : List ℕ) (s : shifts op ≡ true) where
  pub count_recorded : length trace + 2 ≤ room
      → operated (trace_words room) place op v w trace ≡ value (apply_binary op v w) (trace ++ ((9 * 268435456 + place) ∷ w ∷ []))
  unfolding operated shifted emit
  count_recorded h = rw (shift_no_division op s, s, le-ltb room (length trace + 2) h)

  pub count_stopped : room < length trace + 2 → operated (trace_words room) place op v w trace ≡ stop 22 place trace
  unfolding operated shifted emit
  count_stopped h = rw (shift_no_division op s, s, lt-ltb room (length trace + 2) h)

-- ---- the two runs

same_steps : (z : ℕ) → z ≤ z
same_steps z = omega arith

later_steps : {z y y' : ℕ} → z ≤ y → y ≤ y' → z ≤ y'
later_steps h g = omega arith

-- Today's run halts alone with 22, where counts fill its trace or a count has no room; the former run went on.
data Filled (words : List ℕ) (room : ℕ) : ℕ → ℕ → ℕ → List ℕ → ℕ → List ℕ → Type 0 where
  by_counts : {l z y : ℕ} {t u : List ℕ} → room < length t + 2 → length (without_counts t) + 2 ≤ room → z ≤ y → (kind v : ℕ)
      → More 0 (without_counts t ++ ((kind * 268435456 + l) ∷ v ∷ [])) u → Filled words room 22 l z t y u
  at_count : {l z y : ℕ} {t u : List ℕ} → room < length t + 2 → kind_of (get_or words l 0) ≡ 13 → shifts (payload_of (get_or words l 0)) ≡ true → z ≤ y
      → More 0 (without_counts t) u → Filled words room 22 l z t y u

still_filled : {words : List ℕ} {room k l z y y' : ℕ} {t u u' : List ℕ} → Filled words room k l z t y u → y ≤ y' → More 0 u u'
    → Filled words room k l z t y' u'
still_filled (by_counts h i j kind v m) g n = by_counts h i (later_steps j g) kind v (more_behind m n)
still_filled (at_count h k e j m) g n = at_count h k e (later_steps j g) (more_behind m n)

-- as long as both go on, the former trace is today's without its counts
abbrev counted : List ℕ → ℕ → Comparison (List ℕ) (List ℕ)
counted words room =
    record {
      Both = λ z t u. Pairs t × (without_counts t ≡ u);
      Later = λ t u. More 0 t u;
      Alone = Filled words room;
      none_later = no_more;
      and_later = more_behind;
      still_alone = still_filled;
    }

module _ (words : List ℕ) (short : length words ≤ 268435456) (budget room : ℕ) where
  emits : (kind l v z : ℕ) (t u : List ℕ) → kind < 9 → Inside words l
      → BothEvaluate (counted words room) z t u (emit (trace_words room) kind l v t) (emit (trace_words room) kind l v u)
  unfolding emit
  emits kind l v z t u k i =
      record { same = λ h. go h (ltb room (length t + 2)) (ltb room (length u + 2)) refl refl; later = emitted_more room kind l v u }
    where
      w : ℕ
      w = kind * 268435456 + l

      other : eqb (kind_of w) 9 ≡ false
      other = rw (kind_is kind l (omega arith)) (ne_eqb kind 9 (λ e. absurd (omega arith)))

      go : Pairs t × (without_counts t ≡ u) → (c d : Bool) → ltb room (length t + 2) ≡ c → ltb room (length u + 2) ≡ d
          → SameValue (counted words room) {A = ℕ} z (pick c (stop 22 l t) (value v (t ++ (w ∷ v ∷ [])))) (pick d (stop 22 l u) (value v (u ++ (w ∷ v ∷ []))))
      go h true true e e' = both_stop h
      go h true false e e' =
          let recorded : More 0 (without_counts t ++ (w ∷ v ∷ [])) (u ++ (w ∷ v ∷ [])) = rw h.1 (no_more (u ++ (w ∷ v ∷ []))) in
          let free : length (without_counts t) + 2 ≤ room = rw h.1 (ltb-false room (length u + 2) e') in
          let fills : Filled words room 22 l z t z (u ++ (w ∷ v ∷ [])) = by_counts (ltb-true _ _ e) free (same_steps z) kind v recorded in
          first_stop {y = value v (u ++ (w ∷ v ∷ []))} fills
      go h false true e e' =
          absurd (let p = without_shorter h.0 in let q = ap length h.1 in let a = ltb-false room (length t + 2) e in
          let b = ltb-true room (length u + 2) e' in omega arith)
      go h false false e e' =
          let uncounted : without_counts (t ++ (w ∷ v ∷ [])) ≡ u ++ (w ∷ v ∷ []) = rw (without_behind h.0 w v, other, h.1) in
          both_value (pair_behind h.0 w v, uncounted)

  keeps_counted : Keeps (counted words room) (trace_words room) (trace_words room) budget budget (Inside words)
  keeps_counted =
      record {
        no_less = omega arith;
        stepped = λ z t u e h. h;
        spent = λ l z t u e e' h. absurd (true≢false (sym e' ∙ e));
        emits = emits;
      }

  -- a shift's count is recorded now, and was not
  counts : (l o v w z : ℕ) (t u : List ℕ) → Inside words l → Names words l (named_operator o) → shifts o ≡ true
      → BothEvaluate (counted words room) z t u (shifted (trace_words room) l o v w t) (value (apply_binary o v w) u)
  unfolding shifted emit
  counts l o v w z t u i n s = record { same = λ h. go h (ltb room (length t + 2)) refl; later = no_more u }
    where
      count : eqb (kind_of (9 * 268435456 + l)) 9 ≡ true
      count = rw (kind_is 9 l (omega arith))

      go : Pairs t × (without_counts t ≡ u) → (c : Bool) → ltb room (length t + 2) ≡ c
          → SameValue (counted words room) z (bind (pick c (stop 22 l t) (value w (t ++ ((9 * 268435456 + l) ∷ w ∷ [])))) (λ _ s. value (apply_binary o v w) s))
          (value (apply_binary o v w) u)
      go h true e =
          let recorded : More 0 (without_counts t) u = rw h.1 (no_more u) in
          let fills : Filled words room 22 l z t z u = at_count (ltb-true _ _ e) n.0 (rw n.1 s) (same_steps z) recorded in
          first_stop {y = value (apply_binary o v w) u} fills
      go h false e =
          let uncounted : without_counts (t ++ ((9 * 268435456 + l) ∷ w ∷ [])) ≡ u =
          rw (without_behind h.0 (9 * 268435456 + l) w, count, append-nil (without_counts t)) h.1 in
          both_value (pair_behind h.0 (9 * 268435456 + l) w, uncounted)

-- ---- the two calls, on words

-- `Ends`, of the statements, by the words that are recorded
data Added (words : List ℕ) (room : ℕ) (now former : Called) : Type 0 where
  ended_alike : SameButWords now.0 former.0 → now.1 ≡ former.1 → without_counts now.2 ≡ former.2 → Added words room now former
  stopped_alone : (p z : ℕ) → now.0 ≡ Stopped 22 p z (length now.2) → Filled words room 22 p z now.2 (steps_of former.0) former.2
      → Added words room now former

-- both tell how many words they recorded
record BothCalls (words : List ℕ) (room : ℕ) (now former : Called) : Type 0 where
  words_now : recorded_count now.0 ≡ length now.2
  words_former : recorded_count former.0 ≡ length former.2
  added : Added words room now former

added_refusal : (words : List ℕ) (room : ℕ) (cells : List ℕ) (k p : ℕ) → BothCalls words room (Refused k p, cells, []) (Refused k p, cells, [])
unfolding without_counts
added_refusal words room cells k p = record { words_now = refl; words_former = refl; added = ended_alike both_refused_lem refl refl }

filled_22 : {words : List ℕ} {room k l z y : ℕ} {t u : List ℕ} → Filled words room k l z t y u → k ≡ 22
filled_22 (by_counts h i j kind v m) = refl
filled_22 (at_count h k e j m) = refl

added_ended : {words : List ℕ} {room : ℕ} (p : Procedure) (cells : List ℕ) {x y : Ran (List ℕ) Given} → SameRun (counted words room) x y
    → Added words room (ended p cells x) (ended p cells y)
unfolding ended
added_ended p cells (both_on {a = gave v after} h) = ended_alike both_done_lem refl h.1
added_ended p cells (both_halt h) = ended_alike both_stopped_lem refl h.1
added_ended {words} {room} p cells (first_halt {k} {l} {z} {t} {y} q) =
    let e : k ≡ 22 = filled_22 q in
    stopped_alone l z (rw e) (rw (steps_ended p cells y, trace_ended p cells y) (rw e at q))

-- every place of an image fits the 28 bits that an entry has for it
few_words : {whole : Bool} {words : List ℕ} {tree : Image} {n : ℕ} → ImageWords whole words tree n → length words ≤ 268435456
few_words {words = words} w = let h = largest_most (form_of (get_or words 0 0)) in let g = w.short in omega arith

module _ (whole : Bool) (words cells : List ℕ) (f : ℕ) (arguments : List ℕ) (budget room : ℕ) where
  -- a call on words by given operators
  abbrev call_by : (Trace (List ℕ) → Operation (List ℕ)) → Called
  call_by operate = served_call (ready_to_serve whole words (length cells)) cells (λ m. called_on_by operate m cells f arguments budget room)

  both_calls : BothCalls words room (call whole words cells f arguments budget room) (call_by former_operated)
  unfolding call called_on called_on_by without_counts
  both_calls =
      both_called (BothCalls words room) whole words cells f arguments (added_refusal words room cells) _ _
      (λ tree n e.
      let r = (admitted_read whole words tree n e).0 in
      let w = open_image whole words tree n r in
      let p = procedure_at tree.procedures f in
      record {
        words_now = words_ended p cells _;
        words_former = words_ended p cells _;
        added = added_ended p cells ((procedure_runs (counted words room) (keeps_counted words (few_words w) budget room) tree.arrays (Names words)
            (former_operated (trace_words room)) (former_operates (counted words room) (keeps_counted words (few_words w) budget room) (Names words)
            (counts words (few_words w) budget room)) w.places (procedures_names whole words tree n r) (length tree.procedures) f
            (argument_values p.types arguments) 0 [] [] cells).same (no_pair, refl));
      })

  -- where given operators do what today's do, the call by them is today's
  same_call : (N : ℕ → WordName → Type 0) (operate : Trace (List ℕ) → Operation (List ℕ))
      → Operates (one_trace (List ℕ)) (trace_words room) (operate (trace_words room)) Anywhere N
      → ((tree : Image) (n : ℕ) → admitted whole words ≡ got tree n → ProceduresNames N tree.procedures)
      → call_by operate ≡ call whole words cells f arguments budget room
  unfolding call called_on called_on_by
  same_call N operate operates names =
      both_called (λ x y. x ≡ y) whole words cells f arguments (λ k p. refl) _ _
      (λ tree n e. ap (ended (procedure_at tree.procedures f) cells)
      (same_procedure (trace_words room) budget N (operate (trace_words room)) operates tree.arrays tree.procedures (names tree n e)
      (length tree.procedures) f (argument_values (procedure_at tree.procedures f).types arguments) 0 [] cells))

  by_call : call_by operated ≡ call whole words cells f arguments budget room
  by_call = same_call AnyName operated (by_today (trace_words room) budget) (λ tree n e. procedures_any tree.procedures)

  no_shift_call : no_shift words ≡ true → call_by former_operated ≡ call whole words cells f arguments budget room
  no_shift_call none =
      same_call (Names words) former_operated
      (former_operates (one_trace (List ℕ)) (keeps_one (trace_words room) budget) (Names words)
      (λ l o v w z t u i n e. absurd (no_shift_named words none l n.0 (rw n.1 e))))
      (λ tree n e. procedures_names whole words tree n (admitted_read whole words tree n e).0)

-- ---- the two calls, on lent bytes

module _ (image cells : List ℕ) (f : ℕ) (arguments : List ℕ) (budget : ℕ) (trace : List ℕ) where
  -- a call by today's operators is today's call
  pub by_operators : call_bytes_by operated image cells f arguments budget trace ≡ call_bytes image cells f arguments budget trace
  unfolding call_bytes call_bytes_by
  by_operators =
      rw (by_call (whole_words image) (words_of image) (words_of cells) f (words_of arguments) budget (length (words_of trace)))

  pub no_shift_same : no_shift (words_of image) ≡ true
      → call_bytes image cells f arguments budget trace ≡ former_call_bytes image cells f arguments budget trace
  unfolding call_bytes call_bytes_by
  no_shift_same none =
      rw (no_shift_call (whole_words image) (words_of image) (words_of cells) f (words_of arguments) budget (length (words_of trace)) none)

  pub only_entries_added : OnlyEntriesAdded (words_of image) (length (words_of trace)) (call_bytes image cells f arguments budget trace)
      (former_call_bytes image cells f arguments budget trace)
  unfolding call_bytes call_bytes_by
  only_entries_added =
      record { words_now = b.words_now ∙ ap length (sym now); words_former = b.words_former ∙ ap length (sym former); ends = go b.added }
    where
      room : ℕ
      room = length (words_of trace)

      x : Called
      x = call (whole_words image) (words_of image) (words_of cells) f (words_of arguments) budget room

      y : Called
      y = call_by (whole_words image) (words_of image) (words_of cells) f (words_of arguments) budget room former_operated

      b : BothCalls (words_of image) room x y
      b = both_calls (whole_words image) (words_of image) (words_of cells) f (words_of arguments) budget room

      now : recorded x.0 (lent trace x.2) ≡ x.2
      now = recorded_lent trace x b.words_now

      former : recorded y.0 (lent trace y.2) ≡ y.2
      former = recorded_lent trace y b.words_former

      lend : Called → Answer × List ℕ × List ℕ
      lend r = (r.0, lent cells r.1, lent trace r.2)

      alone : (p z : ℕ) → x.0 ≡ Stopped 22 p z (length x.2) → Filled (words_of image) room 22 p z x.2 (steps_of y.0) y.2
          → Ends (words_of image) room (lend x) (lend y)
      alone p z e (by_counts h i j kind v m) =
          counts_fill p z (length x.2) e h (rw now i) j kind v (more_rest m)
          (former ∙ more_splits m ∙ append_assoc (without_counts x.2) ((kind * 268435456 + p) ∷ v ∷ []) (more_rest m)
          ∙ ap (λ t. without_counts t ++ ((kind * 268435456 + p) ∷ v ∷ more_rest m)) (sym now))
      alone p z e (at_count h k s j m) =
          no_room_for_count p z (length x.2) e h k s j (more_rest m) (former ∙ more_splits m ∙ ap (λ t. without_counts t ++ more_rest m) (sym now))

      go : Added (words_of image) room x y → Ends (words_of image) room (lend x) (lend y)
      go (ended_alike s c e) = ends_alike s (ap (lent cells) c) (former ∙ sym e ∙ ap without_counts (sym now))
      go (stopped_alone p z e q) = alone p z e q
