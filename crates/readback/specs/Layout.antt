-- The variables of a compiled procedure: those of its source, the guard, RV and LIVE, the pairs, the temporaries. Assumes nothing.
use Rattle.std.specs.Prelude.{ℕ, zero, suc, ◌+◌, ◌*◌, ◌-◌, ◌≤◌, ◌<◌, Bool, List, [], ◌∷◌, ◌++◌, ◌≡◌, refl, ltb, length, get_or, take, drop, replicate}
use Rattle.std.proofs.Math.Bool.{true, false}
use Rattle.std.proofs.Math.Path.{ap}
use Rattle.std.proofs.Common.{sym, ◌∙◌, arith, add-zero, length-append, take-append-drop, length-drop, length-take-le, get_or-take, get_or-drop, get_or-append-add, lt-ltb, le-ltb, ltb-true, ltb-false}
use Rattle.std.proofs.lemmas.List.{length-replicate, get_or-replicate, get_or_at}
use Rattle.std.proofs.Math.ListN.{get_or-append}
use Rattle.definitions.specs.Choice.{pick}
use Rattle.definitions.specs.Operators.{word_sort, boolean_sort}
use Rattle.definitions.specs.Image.{type_secret, type_word, Procedure, guarded, procedure_at}
use Rattle.definitions.specs.Sorts.{sort_of}
use Rattle.definitions.specs.Compiling.{secret_boolean, secret_of, renamed, defers, guards, return_variable, first_pair, levels}
use Rattle.definitions.specs.Compiling.{pair_types, needed, temporary_types, temporary_from, first_moved, compiled_types}
use Rattle.definitions.specs.Compiling.{temporary_of, compiled_procedure, compiled_procedures}
use Rattle.laws.specs.Spelled.{On, on_first, on_split, on_end, on_whole, words_on}
use Rattle.laws.specs.CompiledLocals.{types_words}
use Rattle.statements.specs.Limits.{AllTypes, no_types, more_types}
use Rattle.readback.specs.Renaming.{Fresh, Added, renamed_le}
use Rattle.readback.specs.Setting.{Callee}

-- the source's variables, with the guard behind the parameters
abbrev front : Bool → ℕ → List ℕ → List ℕ
front g n types = take n types ++ (pick g (secret_boolean ∷ []) [] ++ drop n types)

front_length : (g : Bool) (n : ℕ) (types : List ℕ) → n ≤ length types → length (front g n types) ≡ length types + pick g 1 0
front_length true n types h =
    length-append (take n types) (secret_boolean ∷ drop n types) ∙ (let a = length-take-le n types h in let b = length-drop n types in omega arith)
front_length false n types h = ap length (take-append-drop n types) ∙ sym (add-zero (length types))

front_old : (g : Bool) (n : ℕ) (types : List ℕ) (x : ℕ) → n ≤ length types → x < length types → get_or (front g n types) (renamed (pick g n (length types)) x) 0 ≡ get_or types x 0
front_old false n types x h l = rw (lt-ltb x (length types) l) (ap (λ (ws : List ℕ). get_or ws x 0) (take-append-drop n types))
front_old true n types x h l = go (ltb x n) refl
  where
    shift : (x - n) + 1 ≡ suc (x - n)
    shift = omega arith

    go : (b : Bool) → ltb x n ≡ b → get_or (front true n types) (pick b x (x + 1)) 0 ≡ get_or types x 0
    go true e =
        let low = ltb-true x n e in
        let long = length-take-le n types h in
        get_or-append (take n types) (secret_boolean ∷ drop n types) 0 x (omega arith) ∙ get_or-take n types x 0 low
    go false e =
        let high = ltb-false x n e in
        let long = length-take-le n types h in
        let place : x + 1 ≡ length (take n types) + suc (x - n) = omega arith in
        ap (λ (i : ℕ). get_or (front true n types) i 0) place ∙ get_or-append-add (take n types) (secret_boolean ∷ drop n types) (suc (x - n)) 0 ∙ get_or-drop n types (x - n) 0
        ∙ ap (λ (i : ℕ). get_or types i 0) (omega arith)

front_guard : (n : ℕ) (types : List ℕ) → n ≤ length types → get_or (front true n types) n 0 ≡ secret_boolean
front_guard n types h = get_or_at (take n types) secret_boolean (drop n types) 0 n (length-take-le n types h)

-- words and then words, and where they meet
parted :
    {words : List ℕ} {at next : ℕ} (xs ys : List ℕ) → On words at (xs ++ ys) next
    → On words at xs (at + length xs) × On words (at + length xs) ys next
parted xs ys on = let (m, a, b) = on_split xs ys on in rw (on_end a) (a, b)

-- the temporary for results of a sort, where it is needed
for_sort :
    (needs : ℕ → Bool) {words : List ℕ} {at next : ℕ} → On words at (temporary_types (needs word_sort) (needs boolean_sort)) next
    → (sort : ℕ) → sort < 2 → needs sort ≡ true → (at ≤ temporary_from at (needs word_sort) sort) × (temporary_from at (needs word_sort) sort < length words)
    × (get_or words (temporary_from at (needs word_sort) sort) 0 ≡ secret_of sort)
for_sort needs on zero h e = let (l, q, more) = on_first (rw e at on) in (omega arith, l, q)
for_sort needs {words} {at} {next} on (suc zero) h e = go (needs word_sort) (rw e at on)
  where
    go :
        (word : Bool) → On words at (temporary_types word true) next
        → (at ≤ at + pick word 1 0) × (at + pick word 1 0 < length words) × (get_or words (at + pick word 1 0) 0 ≡ secret_of boolean_sort)
    go true on = let (l, q, more) = on_first on in let (l', q', none) = on_first more in (omega arith, l', q')
    go false on = let (l, q, none) = on_first on in rw (add-zero at) (omega arith, l, q)
for_sort needs on (suc (suc sort)) h e = absurd (omega arith)

module _ (ps : List Procedure) (arrays : List ℕ) (p : Procedure) (named : p.parameters ≤ length p.types) where
  -- the type words of the temporaries, with those of the pairs before them, and with those of RV and LIVE before these
  abbrev temporaries : List ℕ
  temporaries = temporary_types (needed ps arrays p word_sort) (needed ps arrays p boolean_sort)

  abbrev last : List ℕ
  last = pair_types (levels arrays p) ++ temporaries

  abbrev extra : List ℕ
  extra = pick (defers arrays p) (p.result ∷ secret_boolean ∷ []) [] ++ last

  split : compiled_types ps arrays p ≡ front (guarded p) p.parameters p.types ++ extra
  split = sym (types_words ps arrays p)

  long : length (front (guarded p) p.parameters p.types) ≡ return_variable p
  long = front_length (guarded p) p.parameters p.types named

  pub compiled_room : return_variable p ≤ length (compiled_types ps arrays p)
  compiled_room = rw (split, length-append (front (guarded p) p.parameters p.types) extra, long) (omega arith)

  pub compiled_below : (x : ℕ) → x < length p.types → renamed (first_moved p) x < return_variable p
  compiled_below x h = go (guarded p)
    where
      go : (g : Bool) → renamed (pick g p.parameters (length p.types)) x < length p.types + pick g 1 0
      go true = let z = renamed_le p.parameters x in omega arith
      go false = rw (lt-ltb x (length p.types) h, add-zero (length p.types)) h

  front_part : (i : ℕ) → i < return_variable p → get_or (compiled_types ps arrays p) i 0 ≡ get_or (front (guarded p) p.parameters p.types) i 0
  front_part i h = rw split (get_or-append (front (guarded p) p.parameters p.types) extra 0 i (rw long h))

  pub compiled_typed : (x : ℕ) → x < length p.types → get_or (compiled_types ps arrays p) (renamed (first_moved p) x) 0 ≡ get_or p.types x 0
  compiled_typed x h = front_part (renamed (first_moved p) x) (compiled_below x h) ∙ front_old (guarded p) p.parameters p.types x named h

  pub compiled_local : (x : ℕ) → x < length p.types → ltb x p.parameters ≡ false → ltb (renamed (first_moved p) x) (p.parameters + guards p) ≡ false
  compiled_local x h e = go (guarded p)
    where
      go : (g : Bool) → ltb (renamed (pick g p.parameters (length p.types)) x) (p.parameters + pick g 1 0) ≡ false
      go true = rw e (let z = ltb-false x p.parameters e in le-ltb (x + 1) (p.parameters + 1) (omega arith))
      go false = rw (lt-ltb x (length p.types) h) (let z = ltb-false x p.parameters e in le-ltb x (p.parameters + 0) (omega arith))

  -- the guard
  pub guard_room : guarded p ≡ true → p.parameters < length (compiled_types ps arrays p)
  guard_room e = let z = compiled_room in let r : return_variable p ≡ length p.types + 1 = rw e in omega arith

  pub guard_fresh : guarded p ≡ true → Fresh (first_moved p) (length p.types) p.parameters
  guard_fresh e x h = rw e (go (ltb x p.parameters) refl)
    where
      go : (b : Bool) → ltb x p.parameters ≡ b → pick b x (x + 1) ≡ p.parameters → ⊥
      go true l q = let z = ltb-true x p.parameters l in absurd (omega arith)
      go false l q = let z = ltb-false x p.parameters l in absurd (omega arith)

  pub guard_type : guarded p ≡ true → get_or (compiled_types ps arrays p) p.parameters 0 ≡ secret_boolean
  guard_type e =
      let r : return_variable p ≡ length p.types + 1 = rw e in
      front_part p.parameters (omega arith) ∙ ap (λ (g : Bool). get_or (front g p.parameters p.types) p.parameters 0) e ∙ front_guard p.parameters p.types named

  -- a variable that the compiler adds, with its type word
  abbrev Slot : ℕ → ℕ → Type 0
  Slot y t = Added (first_moved p) (length p.types) (compiled_types ps arrays p) y t

  beyond : (y : ℕ) → return_variable p ≤ y → Fresh (first_moved p) (length p.types) y
  beyond y h x g e = let b = compiled_below x g in absurd (omega arith)

  extra_stands : On (compiled_types ps arrays p) (return_variable p) extra (length (compiled_types ps arrays p))
  extra_stands = rw (sym long) (on_whole (compiled_types ps arrays p) (front (guarded p) p.parameters p.types) extra split)

  last_stands : On (compiled_types ps arrays p) (first_pair arrays p) last (length (compiled_types ps arrays p))
  last_stands = go (defers arrays p) extra_stands
    where
      go :
          (d : Bool)
          → On (compiled_types ps arrays p) (return_variable p) (pick d (p.result ∷ secret_boolean ∷ []) [] ++ last) (length (compiled_types ps arrays p))
          → On (compiled_types ps arrays p) (return_variable p + pick d 2 0) last (length (compiled_types ps arrays p))
      go true on = (parted (p.result ∷ secret_boolean ∷ []) last on).1
      go false on = (parted [] last on).1

  -- RV and LIVE
  pub deferred_added : defers arrays p ≡ true → Slot (return_variable p) p.result × Slot (return_variable p + 1) secret_boolean
  deferred_added e =
      let (h, q, on) = on_first (rw e at extra_stands) in
      let (h', q', on') = on_first on in
      ((h, beyond (return_variable p) (omega arith), q), (h', beyond (return_variable p + 1) (omega arith), q'))

  -- T and E of each level
  pub pairs_added : (y : ℕ) → first_pair arrays p ≤ y → y < first_pair arrays p + 2 * levels arrays p → Slot y secret_boolean
  pairs_added y h g =
      let n = 2 * levels arrays p in
      let i = y - first_pair arrays p in
      let (on, rest) = parted (pair_types (levels arrays p)) temporaries last_stands in
      let size = length-replicate n secret_boolean in
      let end = on_end rest in
      let place : first_pair arrays p + i ≡ y = omega arith in
      let low : i < n = omega arith in
      (omega arith, beyond y (omega arith), rw place at (sym ((words_on size on).word i low) ∙ get_or-replicate n i secret_boolean 0 low))

  -- the temporaries
  pub temporary_added : (sort : ℕ) → sort < 2 → needed ps arrays p sort ≡ true → Slot (temporary_of ps arrays p sort) (secret_of sort)
  temporary_added sort h e =
      let on = rw (length-replicate (2 * levels arrays p) secret_boolean) at (parted (pair_types (levels arrays p)) temporaries last_stands).1 in
      let (k, l, q) = for_sort (needed ps arrays p) on sort h e in
      (l, beyond (temporary_of ps arrays p sort) (omega arith), q)

  -- what a call of the procedure has to know of it
  pub compiled_callee : Callee p (compiled_procedure ps arrays p)
  unfolding compiled_procedure
  compiled_callee =
      record {
        result_kept = refl;
        parameters_kept = refl;
        parameters_named = named;
        sorts_kept = sorts;
        labels_kept = λ k h. ap type_secret (same k h);
        guard_sort = λ e. rw (lt-ltb p.parameters (length (compiled_types ps arrays p)) (guard_room e), guard_type e);
        guard_label = λ e. rw (guard_type e);
      }
    where
      still : (k : ℕ) → k < p.parameters → renamed (first_moved p) k ≡ k
      still k h = go (guarded p)
        where
          go : (g : Bool) → renamed (pick g p.parameters (length p.types)) k ≡ k
          go true = rw (lt-ltb k p.parameters h)
          go false = rw (lt-ltb k (length p.types) (omega arith))

      same : (k : ℕ) → k < p.parameters → get_or (compiled_types ps arrays p) k 0 ≡ get_or p.types k 0
      same k h = ap (λ (i : ℕ). get_or (compiled_types ps arrays p) i 0) (sym (still k h)) ∙ compiled_typed k (omega arith)

      sorts : (k : ℕ) → k < p.parameters → sort_of (compiled_types ps arrays p) k ≡ sort_of p.types k
      sorts k h =
          let r = compiled_room in
          rw (lt-ltb k (length (compiled_types ps arrays p)) (omega arith), lt-ltb k (length p.types) (omega arith), same k h)

pub compiled_at :
    (ps : List Procedure) (arrays : List ℕ) (rest : List Procedure) (f : ℕ) → f < length rest
    → procedure_at (compiled_procedures ps arrays rest) f ≡ compiled_procedure ps arrays (procedure_at rest f)
unfolding compiled_procedures
compiled_at ps arrays [] f h = absurd (omega arith)
compiled_at ps arrays (p ∷ rest) zero h = refl
compiled_at ps arrays (p ∷ rest) (suc f) h = compiled_at ps arrays rest f (omega arith)

pub compiled_count : (ps : List Procedure) (arrays : List ℕ) (rest : List Procedure) → length (compiled_procedures ps arrays rest) ≡ length rest
unfolding compiled_procedures
compiled_count ps arrays [] = refl
compiled_count ps arrays (p ∷ rest) = rw (compiled_count ps arrays rest)

-- All are type words.
pub all_append : {xs ys : List ℕ} → AllTypes xs → AllTypes ys → AllTypes (xs ++ ys)
all_append no_types g = g
all_append (more_types h hs) g = more_types h (all_append hs g)

all_take : (n : ℕ) {xs : List ℕ} → AllTypes xs → AllTypes (take n xs)
all_take zero h = no_types
all_take (suc n) no_types = no_types
all_take (suc n) (more_types h hs) = more_types h (all_take n hs)

all_drop : (n : ℕ) {xs : List ℕ} → AllTypes xs → AllTypes (drop n xs)
all_drop zero h = h
all_drop (suc n) no_types = no_types
all_drop (suc n) (more_types h hs) = all_drop n hs

all_alike : (n w : ℕ) → type_word w ≡ true → AllTypes (replicate n w)
all_alike zero w h = no_types
all_alike (suc n) w h = more_types h (all_alike n w h)

boolean_type : type_word secret_boolean ≡ true
unfolding type_word
boolean_type = refl

pub all_compiled : (ps : List Procedure) (arrays : List ℕ) (p : Procedure) → AllTypes p.types → type_word p.result ≡ true → AllTypes (compiled_types ps arrays p)
unfolding compiled_types type_word
all_compiled ps arrays p h r =
    all_append (all_take p.parameters h) (all_append (single (guarded p) secret_boolean boolean_type) (all_append (all_drop p.parameters h)
    (all_append (deferred (defers arrays p)) (all_append (all_alike (2 * levels arrays p) secret_boolean boolean_type)
    (all_append (single (needed ps arrays p word_sort) (secret_of word_sort) refl) (single (needed ps arrays p boolean_sort) secret_boolean boolean_type))))))
  where
    single : (b : Bool) (w : ℕ) → type_word w ≡ true → AllTypes (pick b (w ∷ []) [])
    single true w h = more_types h no_types
    single false w h = no_types

    deferred : (d : Bool) → AllTypes (pick d (p.result ∷ secret_boolean ∷ []) [])
    deferred true = more_types r (more_types boolean_type no_types)
    deferred false = no_types
