-- Document 02, wish 11: "32 [the first for whose bounds are not constants, the procedure first, then all callees, direct or not, by number]". The fors that
-- the definitions list begin with that one, and none is listed where there is none. Assumes nothing.
use Prim.Native.Nat.{ℕ, zero, suc, ◌≤◌, ◌<◌}
use Rattle.std.specs.Prelude.{Bool, true, false, List, [], ◌∷◌, ◌++◌, ◌⊎◌, ◌≡◌, eqb}
use Rattle.std.proofs.Common.{true≢false, inl, inr, sym, ◌∙◌, arith, eqb-true}
use Rattle.std.proofs.Math.Path.{refl}
use Rattle.std.proofs.lemmas.Bool.{eqb-false}
use Rattle.definitions.specs.Choice.{pick}
use Rattle.definitions.specs.Image.{Expression, Statement, assign, store, conditional, loop, return, call, Block, done, sequence}
use Rattle.definitions.specs.Image.{Procedure, Image, procedure_at}
use Rattle.definitions.specs.Reading.{got, read_image}
use Rattle.definitions.specs.StepBounds.{reaches, constant_bounds, statement_variable_fors, block_variable_fors, variable_fors_in}
use Rattle.definitions.specs.StepBounds.{callees_variable_fors, variable_fors}
use Rattle.statements.specs.Statements.{Iff}
use Rattle.statements.specs.StepBounds.{Reaches, itself, VariableForBy, itself_varies, then_varies, else_varies, for_varies}
use Rattle.statements.specs.StepBounds.{VariableForIn, first_varies, later_varies, FirstVariableFor, ConstantFors}
use Rattle.laws.specs.Ascending.{StatementAscends, ascends_conditional, ascends_loop, BlockAscends, ascends_sequence}
use Rattle.laws.specs.Ascending.{bodies_ascend}
use Rattle.laws.specs.ReadImages.{open_image}
use Rattle.laws.specs.StepBounds.{reach_lower, reached_exactly}

-- ---- In one body

-- such a for stands where its statement or block does
module _ {q : ℕ} where
  mutual
    for_between : {p next : ℕ} {s : Statement} → VariableForBy q p s → p < next → StatementAscends p next s → (p ≤ q) × (q < next)
    for_between (itself_varies e c) h a = (omega arith, omega arith)
    for_between (then_varies v) h (ascends_conditional l m n a b) = let (i, j) = for_inside v a in (omega arith, omega arith)
    for_between (else_varies v) h (ascends_conditional l m n a b) = let (i, j) = for_inside v b in (omega arith, omega arith)
    for_between (for_varies v) h (ascends_loop l b) = let (i, j) = for_inside v b in (omega arith, omega arith)

    for_inside : {at next : ℕ} {b : Block} → VariableForIn q b → BlockAscends at next b → (at ≤ q) × (q < next)
    for_inside (first_varies v) (ascends_sequence h l s m b) = let (i, j) = for_between v l s in (omega arith, omega arith)
    for_inside (later_varies v) (ascends_sequence h l s m b) = let (i, j) = for_inside v b in (omega arith, omega arith)

-- a list of places begins with the lowest that is as P says, or is empty where none is
data Begins (P : ℕ → Type 0) : List ℕ → Type 0 where
  with_none : ((q : ℕ) → P q → ⊥) → Begins P []
  with_lowest : {p : ℕ} {rest : List ℕ} → P p → ((q : ℕ) → P q → p ≤ q) → Begins P (p ∷ rest)

-- the places of a part, and behind them those of the next
begins_both : {P Q R : ℕ → Type 0} {l m : List ℕ} → ((p : ℕ) → P p → R p) → ((p : ℕ) → Q p → R p) → ((p : ℕ) → R p → P p ⊎ Q p)
    → ((p q : ℕ) → P p → Q q → p ≤ q) → Begins P l → Begins Q m → Begins R (l ++ m)
begins_both {P} {Q} {R} left right split order (with_none n) (with_none k) = with_none (λ q r. go q (split q r))
  where
    go : (q : ℕ) → P q ⊎ Q q → ⊥
    go q (inl h) = n q h
    go q (inr h) = k q h
begins_both {P} {Q} {R} left right split order (with_none n) (with_lowest {p} h low) = with_lowest (right p h) (λ q r. go q (split q r))
  where
    go : (q : ℕ) → P q ⊎ Q q → p ≤ q
    go q (inl i) = absurd (n q i)
    go q (inr i) = low q i
begins_both {P} {Q} {R} left right split order (with_lowest {p} h low) k = with_lowest (left p h) (λ q r. go q (split q r))
  where
    go : (q : ℕ) → P q ⊎ Q q → p ≤ q
    go q (inl i) = low q i
    go q (inr i) = order p q h i

-- the for itself, and those in its block
begins_loop : {p x : ℕ} {f t : Expression} {b : Block} {l : List ℕ} → (k : Bool) → constant_bounds f t ≡ k → ((q : ℕ) → VariableForIn q b → p ≤ q)
    → Begins (λ q. VariableForIn q b) l → Begins (λ q. VariableForBy q p (loop x f t b)) (pick k [] (p ∷ []) ++ l)
begins_loop {p} {x} {f} {t} {b} true e behind (with_none n) = with_none none
  where
    none : (q : ℕ) → VariableForBy q p (loop x f t b) → ⊥
    none q (itself_varies h c) = let z : true ≡ false = cc in absurd (true≢false z)
    none q (for_varies v) = n q v
begins_loop {p} {x} {f} {t} {b} true e behind (with_lowest {p = r} h low) = with_lowest (for_varies h) lowest
  where
    lowest : (q : ℕ) → VariableForBy q p (loop x f t b) → r ≤ q
    lowest q (itself_varies h c) = let z : true ≡ false = cc in absurd (true≢false z)
    lowest q (for_varies v) = low q v
begins_loop {p} {x} {f} {t} {b} false e behind k = with_lowest (itself_varies refl e) lowest
  where
    lowest : (q : ℕ) → VariableForBy q p (loop x f t b) → p ≤ q
    lowest q (itself_varies h c) = omega arith
    lowest q (for_varies v) = behind q v

-- where a for in an if, or in a block, stands
in_an_arm : {q p : ℕ} {c : Expression} {a b : Block} → VariableForBy q p (conditional c a b) → VariableForIn q a ⊎ VariableForIn q b
in_an_arm (then_varies v) = inl v
in_an_arm (else_varies v) = inr v

first_or_later : {q p : ℕ} {s : Statement} {b : Block} → VariableForIn q (sequence p s b) → VariableForBy q p s ⊎ VariableForIn q b
first_or_later (first_varies v) = inl v
first_or_later (later_varies v) = inr v

mutual
  unfolding statement_variable_fors block_variable_fors

  begins_statement : {p next : ℕ} (s : Statement) → p < next → StatementAscends p next s → Begins (λ q. VariableForBy q p s) (statement_variable_fors p s)
  begins_statement (assign x e) h a = with_none (λ q v. elim v [ ])
  begins_statement (store x i e) h a = with_none (λ q v. elim v [ ])
  begins_statement (conditional c a b) h (ascends_conditional l m n x y) =
      begins_both (λ q v. then_varies v) (λ q v. else_varies v) (λ q v. in_an_arm v)
      (λ q r v w. let (i, j) = for_inside v x in let (k, o) = for_inside w y in omega arith) (begins_block a x) (begins_block b y)
  begins_statement (loop x f t b) h (ascends_loop l y) =
      begins_loop (constant_bounds f t) refl (λ q v. let (i, j) = for_inside v y in omega arith) (begins_block b y)
  begins_statement (return e) h a = with_none (λ q v. elim v [ ])
  begins_statement (call f x es) h a = with_none (λ q v. elim v [ ])

  begins_block : {at next : ℕ} (b : Block) → BlockAscends at next b → Begins (λ q. VariableForIn q b) (block_variable_fors b)
  begins_block done a = with_none (λ q v. elim v [ ])
  begins_block (sequence p s b) (ascends_sequence h l x m y) =
      begins_both (λ q v. first_varies v) (λ q v. later_varies v) (λ q v. first_or_later v)
      (λ q r v w. let (i, j) = for_between v l x in let (k, o) = for_inside w y in omega arith) (begins_statement s l x) (begins_block b y)

-- ---- In all bodies that are reached

-- the places of the fors that a procedure's bound meets begin with the first, or there is none
pub data Listed (ps : List Procedure) (f : ℕ) : List ℕ → Type 0 where
  none_listed : ConstantFors ps f → Listed ps f []
  first_listed : {p : ℕ} {rest : List ℕ} → FirstVariableFor ps f p → Listed ps f (p ∷ rest)

module _ (ps : List Procedure) (bodies : (g : ℕ) → Begins (λ q. VariableForIn q (procedure_at ps g).body) (variable_fors_in ps g)) (f : ℕ) where
  -- of the first m procedures, those that f calls, directly or through others
  abbrev CalleeFor : ℕ → ℕ → ℕ → Type 0
  CalleeFor m g q = (g < m) × (reaches ps (suc f) f g ≡ true) × VariableForIn q (procedure_at ps g).body

  data BeginsCallees (m : ℕ) : List ℕ → Type 0 where
    no_callee : ((g q : ℕ) → CalleeFor m g q → ⊥) → BeginsCallees m []
    lowest_callee : {p : ℕ} {rest : List ℕ} (g : ℕ) → CalleeFor m g p → ((q : ℕ) → VariableForIn q (procedure_at ps g).body → p ≤ q)
        → ((h q : ℕ) → CalleeFor m h q → g ≤ h) → BeginsCallees m (p ∷ rest)

  -- the last of them, or one before it
  last_or_before : (A : Type 0) (m g q : ℕ) → CalleeFor (suc m) g q → (CalleeFor m g q → A)
      → (g ≡ m → reaches ps (suc f) f m ≡ true → VariableForIn q (procedure_at ps m).body → A) → A
  last_or_before A m g q (l, r, v) before last = go (eqb g m) refl
    where
      go : (b : Bool) → eqb g m ≡ b → A
      go true e = let d = eqb-true g m e in last d (rw d at r) (rw d at v)
      go false e = let d = eqb-false g m e in before (omega arith, r, v)

  one_callee_more : (m : ℕ) {l : List ℕ} → BeginsCallees m l → (b : Bool) → reaches ps (suc f) f m ≡ b → {own : List ℕ}
      → Begins (λ q. VariableForIn q (procedure_at ps m).body) own → BeginsCallees (suc m) (l ++ pick b own [])
  one_callee_more m (no_callee n) true e (with_none k) =
      no_callee (λ g q c. last_or_before ⊥ m g q c (λ d. n g q d) (λ i r v. k q v))
  one_callee_more m (no_callee n) true e (with_lowest v low) =
      lowest_callee m (omega arith, e, v) low (λ h q c. last_or_before (m ≤ h) m h q c (λ d. absurd (n h q d)) (λ i r w. omega arith))
  one_callee_more m (no_callee n) false e k =
      no_callee (λ g q c. last_or_before ⊥ m g q c (λ d. n g q d) (λ i r v. let z : true ≡ false = cc in true≢false z))
  one_callee_more m (lowest_callee g (l, r, v) low first) b e k =
      lowest_callee g (omega arith, r, v) low (λ h q c. last_or_before (g ≤ h) m h q c (λ d. first h q d) (λ i s w. omega arith))

  begins_callees : (m : ℕ) → BeginsCallees m (callees_variable_fors ps f m)
  unfolding callees_variable_fors
  begins_callees zero = no_callee (λ g q c. let (l, r, v) = c in absurd (omega arith))
  begins_callees (suc m) = one_callee_more m (begins_callees m) (reaches ps (suc f) f m) refl (bodies m)

  -- the procedure itself comes before them
  begins_fors : ((g : ℕ) → Iff (reaches ps (suc f) f g ≡ true) (Reaches ps f g)) → Listed ps f (variable_fors ps f)
  begins_fors exactly = go (bodies f) (begins_callees f)
    where
      callee : (g : ℕ) → (g ≡ f → ⊥) → Reaches ps f g → (g < f) × (reaches ps (suc f) f g ≡ true)
      callee g n r = let h = (exactly g).1 r in let (l, m) = reach_lower ps (suc f) f g h in (omega arith, h)

      itself_or_callee : (A : Type 0) (g q : ℕ) → Reaches ps f g → VariableForIn q (procedure_at ps g).body
          → (VariableForIn q (procedure_at ps f).body → A) → (CalleeFor f g q → A) → A
      itself_or_callee A g q r v own called = by (eqb g f) refl
        where
          by : (b : Bool) → eqb g f ≡ b → A
          by true e = let d = eqb-true g f e in own (rw d at v)
          by false e = let d = eqb-false g f e in let (l, h) = callee g d r in called (l, h, v)

      go : {l m : List ℕ} → Begins (λ q. VariableForIn q (procedure_at ps f).body) l → BeginsCallees f m → Listed ps f (l ++ m)
      go (with_lowest v low) c =
          first_listed (record {
            number = f;
            reached = itself;
            stands = v;
            first = low;
            procedure_first = λ q w. refl;
            callees_by_number = λ n. absurd (n refl);
          })
      go (with_none n) (no_callee k) = none_listed (λ g q r v. itself_or_callee ⊥ g q r v (λ w. n q w) (λ c. k g q c))
      go (with_none n) (lowest_callee g (l, r, v) low first) =
          first_listed (record {
            number = g;
            reached = (exactly g).0 r;
            stands = v;
            first = low;
            procedure_first = λ q w. absurd (n q w);
            callees_by_number = λ o h q s w. itself_or_callee (g ≤ h) h q s w (λ u. absurd (n q u)) (λ c. first h q c);
          })

module _ (whole : Bool) (words : List ℕ) (tree : Image) (n : ℕ) (e : read_image whole words ≡ got tree n) where
  begins_body : (g : ℕ) → Begins (λ q. VariableForIn q (procedure_at tree.procedures g).body) (variable_fors_in tree.procedures g)
  begins_body g = let (at, next, a) = bodies_ascend whole words tree n e g in begins_block (procedure_at tree.procedures g).body a

  pub fors_listed : (f : ℕ) → Listed tree.procedures f (variable_fors tree.procedures f)
  fors_listed f = begins_fors tree.procedures begins_body f (reached_exactly tree (open_image whole words tree n e).fits f)

  -- where there is none, none is listed of any body
  pub bodies_constant : (f : ℕ) → ConstantFors tree.procedures f → (g : ℕ) → Reaches tree.procedures f g → variable_fors_in tree.procedures g ≡ []
  bodies_constant f constant g r = go (begins_body g)
    where
      go : {l : List ℕ} → Begins (λ q. VariableForIn q (procedure_at tree.procedures g).body) l → l ≡ []
      go (with_none k) = refl
      go (with_lowest {p} v low) = absurd (constant g p r v)

-- ---- There is one first

module _ (ps : List Procedure) (f : ℕ) where
  one_number : {p q : ℕ} (x : FirstVariableFor ps f p) (y : FirstVariableFor ps f q) → x.number ≡ y.number
  one_number {p} {q} x y = go (eqb x.number f) (eqb y.number f) refl refl
    where
      go : (a b : Bool) → eqb x.number f ≡ a → eqb y.number f ≡ b → x.number ≡ y.number
      go true b e h = let d = eqb-true x.number f e in d ∙ sym (y.procedure_first p (rw d at x.stands))
      go false true e h = let d = eqb-true y.number f h in x.procedure_first q (rw d at y.stands) ∙ sym d
      go false false e h =
          let l = x.callees_by_number (eqb-false x.number f e) y.number q y.reached y.stands in
          let m = y.callees_by_number (eqb-false y.number f h) x.number p x.reached x.stands in
          omega arith

  one_first : {p q : ℕ} → FirstVariableFor ps f p → FirstVariableFor ps f q → p ≡ q
  one_first {p} {q} x y =
      let e = one_number x y in
      let l = x.first q (rw (sym e) at y.stands) in
      let m = y.first p (rw e at x.stands) in
      omega arith

  -- so a list that begins as it should tells which it is, and whether there is one
  pub first_of : {l : List ℕ} → Listed ps f l → {p : ℕ} → FirstVariableFor ps f p → (rest : List ℕ) × (l ≡ p ∷ rest)
  first_of (none_listed n) {p} x = absurd (n x.number p x.reached x.stands)
  first_of (first_listed {rest} y) x = (rest, rw (one_first y x))

  pub none_of : {l : List ℕ} → Listed ps f l → ConstantFors ps f → l ≡ []
  none_of (none_listed n) k = refl
  none_of (first_listed {p} x) k = absurd (k x.number p x.reached x.stands)
