-- What each return of the walk gives, and what its calls ask. Assumes nothing.
use Prim.Native.Nat.{ℕ, ◌+◌, ◌*◌, ◌-◌, ◌≤◌, ◌<◌, max}
use mathlib.Core.Bool.{Bool, true, false, ◌&&◌, not}
use mathlib.Core.List.{List, [], ◌∷◌, ◌++◌}
use mathlib.Core.Path.{◌≡◌, refl, sym, ap, ◌∙◌}
use native.Mathlib.Nat.{zero-add}
use native.Mathlib.Omega.{arith}
use lib.ListN.{get_or}
use Rattle.std.specs.Prelude.{Option, Some, None, ◌⊎◌}
use Rattle.std.proofs.Common.{inl, inr}
use Rattle.definitions.specs.Choice.{pick}
use Rattle.definitions.specs.Image.{op_of, target_of, called_of, Statement, assign, store}
use Rattle.definitions.specs.Image.{return, Block}
use Rattle.definitions.specs.Reading.{Parse, got, refused, read_expression, read_statement, read_block}
use Rattle.definitions.specs.Labels.{is_constant, constant_value}
use Rattle.definitions.specs.StepBounds.{statement_cost, block_cost, statement_variable_fors, block_variable_fors}
use Rattle.laws.specs.Parses.{ok, ok_of, end_of, end_of_lem}
use Rattle.laws.specs.StatementInversion.{open_assign, open_store, open_if, open_for, open_return, open_call}
use Rattle.image_words.specs.Kinds.{op_number}
use Rattle.image_words.specs.declared.ops.Op.{Op}
use Rattle.image_words.specs.declared.ops.Op.TheVariants.{Assign, Return}
use Rattle.image_words.specs.Read.{ExpressionRead, BlockRead, arguments_at}
use Rattle.image_words.specs.StatementParts.{read_assign, read_return, read_if, read_then, read_else, read_bounds, read_body, read_called}
use Rattle.image_words.specs.Skipping.{Skippable, Row, skip_expression, skipped_expression, skipped_two, skipped_arguments}
use Rattle.labels.specs.Operand.{constant_at, value_at, operand_words}
use Rattle.step_bounds.specs.Counting.{capped, summary_at, cost_at, lowest_at, first_after, lower, statement_lowest, block_lowest, stepped, entered, counted, counted_block}
use Rattle.step_bounds.specs.Capping.{capped_passes, capped_more, capped_larger}
use Rattle.step_bounds.specs.declared.walk.Summary.{Summary}
use Rattle.step_bounds.specs.declared.walk.Counted.{Counted}

-- ---- what a walk leaves

module _ (callees : List Summary) (c : Counted) where
  pub counted_end : (x : Parse Statement) (r : Counted) → r ≡ counted callees c x → r.at ≡ end_of x
  unfolding counted end_of
  counted_end (got s n) r e = ap (λ (z : Counted). z.at) e
  counted_end (refused n p) r e = ap (λ (z : Counted). z.at) e

  pub block_end : (x : Parse Block) (r : Counted) → r ≡ counted_block callees c x → r.at ≡ end_of x
  unfolding counted_block end_of
  block_end (got b n) r e = ap (λ (z : Counted). z.at) e
  block_end (refused n p) r e = ap (λ (z : Counted). z.at) e

  pub counted_capped : c.cost ≤ 4294967296 → (x : Parse Statement) (r : Counted) → r ≡ counted callees c x → r.cost ≤ 4294967296
  unfolding counted
  counted_capped h (got s n) r e = let q : r.cost ≡ capped (c.cost + statement_cost (cost_at callees) s) = ap (λ (z : Counted). z.cost) e in
      omega arith
  counted_capped h (refused n p) r e = let q : r.cost ≡ c.cost = ap (λ (z : Counted). z.cost) e in omega arith

  pub block_capped : c.cost ≤ 4294967296 → (x : Parse Block) (r : Counted) → r ≡ counted_block callees c x → r.cost ≤ 4294967296
  unfolding counted_block
  block_capped h (got b n) r e = let q : r.cost ≡ capped (c.cost + block_cost (cost_at callees) b) = ap (λ (z : Counted). z.cost) e in omega
      arith
  block_capped h (refused n p) r e = let q : r.cost ≡ c.cost = ap (λ (z : Counted). z.cost) e in omega arith

-- ---- what is found one after the other

pub first_append : (p : Option ℕ) (l m : List ℕ) → first_after (first_after p l) m ≡ first_after p (l ++ m)
unfolding first_after
first_append (Some p) l m = refl
first_append None [] m = refl
first_append None (q ∷ l) m = refl

-- the for that is entered, among them
for_noted : (p : Option ℕ) (k : Bool) (at : ℕ) → first_after p (pick (not k) (at ∷ []) []) ≡ first_after p (pick k [] (at ∷ []))
unfolding first_after
for_noted (Some p) k at = refl
for_noted None true at = refl
for_noted None false at = refl

pub none_first : (p : Option ℕ) → first_after p [] ≡ p
unfolding first_after
none_first (Some p) = refl
none_first None = refl

pub lower_none : (a : Option ℕ) → lower a None ≡ a
unfolding lower
lower_none None = refl
lower_none (Some g) = refl

pub lower_lower : (a b c : Option ℕ) → lower (lower a b) c ≡ lower a (lower b c)
unfolding lower
lower_lower None b c = refl
lower_lower (Some f) None c = refl
lower_lower (Some f) (Some g) None = refl
lower_lower (Some f) (Some g) (Some h) = ap Some (omega arith)

-- two records of the walk with equal parts
pub counted_eq : (at : ℕ) (a b : ℕ) (p q f g : Option ℕ) → a ≡ b → p ≡ q → f ≡ g
    → ◌≡◌ {A = Counted} (record { at = at; cost = a; first = p; lowest = f }) (record { at = at; cost = b; first = q; lowest = g })
counted_eq at a b p q f g d e h = rw (d, e, h)

-- ---- a statement

module _ (callees : List Summary) (c : Counted) (l : ℕ) (params : List ℕ) (me : ℕ) (image : List ℕ) (t : ok (read_statement l params me image c.at) ≡
    true) where
  -- one step, and nothing more
  one_step : (s : Statement) (n : ℕ) → read_statement l params me image c.at ≡ got s n → statement_cost (cost_at callees) s ≡ 1
      → statement_variable_fors c.at s ≡ [] → statement_lowest (lowest_at callees) s ≡ None
      → stepped c n ≡ counted callees c (read_statement l params me image c.at)
  unfolding counted
  one_step s n u a b d = rw (u, a, b, d) (rw (none_first, lower_none))

  count_assign : (r : ℕ) → op_of (get_or image c.at 0) ≡ 0 → Row image 1 (c.at + 1) r → stepped c r ≡ counted callees c (read_statement l params me image c.at)
  unfolding statement_cost statement_variable_fors statement_lowest
  count_assign r k h =
      let (e, n, q, u) = open_assign l params me image c.at t k in
      let end : r ≡ n = skipped_expression (l - 1) image (c.at + 1) r (ok_of _ e n q) h ∙ end_of_lem _ e n q in
      rw end (one_step (assign (target_of (get_or image c.at 0)) e) n u refl refl refl)

  pub count_store : (r : ℕ) → op_of (get_or image c.at 0) ≡ 1 → Row image 2 (c.at + 1) r → stepped c r ≡ counted callees c (read_statement l params me image c.at)
  unfolding statement_cost statement_variable_fors statement_lowest
  count_store r k h =
      let (e, n, f, m, q, s, u) = open_store l params me image c.at t k in
      rw (skipped_two (l - 1) image (c.at + 1) r e n f m q s h) (one_step (store (target_of (get_or image c.at 0)) e f) m u refl refl refl)

  count_return : (r : ℕ) → op_of (get_or image c.at 0) ≡ 4 → Row image 1 (c.at + 1) r → stepped c r ≡ counted callees c (read_statement l params me image c.at)
  unfolding statement_cost statement_variable_fors statement_lowest
  count_return r k h =
      let (e, n, q, u) = open_return l params me image c.at t k in
      let end : r ≡ n = skipped_expression (l - 1) image (c.at + 1) r (ok_of _ e n q) h ∙ end_of_lem _ e n q in
      rw end (one_step (return e) n u refl refl refl)

  -- an assignment or a return
  module _ (o : Op) (ho : op_of (get_or image c.at 0) ≡ op_number o) (either : (o ≡ Assign) ⊎ (o ≡ Return)) where
    pub single_skips : Skippable image 1 (c.at + 1)
    single_skips =
        elim either [
          | inl e ↦ skip_expression (l - 1) image (c.at + 1) (read_assign l params me image c.at t _ refl (ho ∙ ap op_number e)).read
          | inr e ↦ skip_expression (l - 1) image (c.at + 1) (read_return l params me image c.at t _ refl (ho ∙ ap op_number e)).read
        ]

    pub count_single : (r : ℕ) → Row image 1 (c.at + 1) r → stepped c r ≡ counted callees c (read_statement l params me image c.at)
    count_single r h = elim either [ inl e ↦ count_assign r (ho ∙ ap op_number e) h | inr e ↦ count_return r (ho ∙ ap op_number e) h ]

  -- a call
  pub callee_there : (f i : ℕ) → me ≤ 32 → op_of (get_or image c.at 0) ≡ 5 → f ≡ called_of (get_or image c.at 0) → i ≡ f → i < 32
  callee_there f i few five hf hi = let b = read_called l params me image c.at t 5 (sym five) refl in omega arith

  pub count_call : (f a i j n s m : ℕ) (x : Summary) (r : Option ℕ) → op_of (get_or image c.at 0) ≡ 5 → f ≡ called_of (get_or image c.at 0)
      → a ≡ get_or params f 0 → j ≡ a → Row image j (c.at + 1) n → i ≡ f → x ≡ summary_at callees i → s ≡ capped (1 + x.cost)
      → m ≡ capped (c.cost + s) → r ≡ lower c.lowest x.lowest
      → record { at = n; cost = m; first = c.first; lowest = r } ≡ counted callees c (read_statement l params me image c.at)
  unfolding counted statement_cost statement_variable_fors statement_lowest arguments_at
  count_call f a i j n s m x r five hf ha hj h hi hx hs hm hr =
      let (es, o, b, q, u) = open_call l params me image c.at t five in
      let F = called_of (get_or image c.at 0) in
      let count : j ≡ get_or params F 0 = hj ∙ ha ∙ ap (λ (z : ℕ). get_or params z 0) hf in
      let end : n ≡ o = skipped_arguments (get_or params F 0) (l - 1) image (c.at + 1) n (ok_of _ es o q) (rw count at h) ∙ end_of_lem _ es o q in
      let X : x ≡ summary_at callees F = hx ∙ ap (λ (z : ℕ). summary_at callees z) (hi ∙ hf) in
      let S : s ≡ capped (1 + cost_at callees F) = hs ∙ ap (λ (z : Summary). capped (1 + z.cost)) X in
      rw (u, end)
      (counted_eq o m _ c.first _ r _ (omega arith) (sym (none_first c.first)) (hr ∙ ap (λ (z : Summary). lower c.lowest z.lowest) X))

  -- an if
  module _ (two : op_of (get_or image c.at 0) ≡ 2) (n : ℕ) (h : Row image 1 (c.at + 1) n) where
    then_at : n ≡ end_of (read_expression (l - 1) image (c.at + 1))
    then_at = skipped_expression (l - 1) image (c.at + 1) n (read_if l params me image c.at t 2 (sym two) refl).read h

    pub then_fine : BlockRead (l - 1) params me image n
    then_fine = read_then l params me image c.at t 2 (sym two) refl n then_at

    module _ (x : Counted) (f : x ≡ counted_block callees (entered c false n) (read_block (l - 1) params me image n)) where
      pub else_fine : BlockRead (l - 1) params me image x.at
      else_fine = read_else l params me image c.at t 2 (sym two) refl n then_at x.at (block_end callees (entered c false n) _ x f)

      pub count_if : (y : Counted) → y ≡ counted_block callees (entered x false x.at) (read_block (l - 1) params me image x.at)
          → (w s m : ℕ) → w ≡ max x.cost y.cost → s ≡ capped (1 + w) → m ≡ capped (c.cost + s)
          → record { at = y.at; cost = m; first = y.first; lowest = y.lowest }
          ≡ counted callees c (read_statement l params me image c.at)
      unfolding counted counted_block statement_cost statement_variable_fors statement_lowest
      count_if y g w s m hw hs hm =
          let (v, i, a, p, b, o, q, r, z, u) = open_if l params me image c.at t two in
          let N : n ≡ i = then_at ∙ end_of_lem _ v i q in
          let X : Counted = counted_block callees (entered c false n) (got a p) in
          let F : x ≡ X = f ∙ ap (λ k. counted_block callees (entered c false n) k) (ap (λ k. read_block (l - 1) params me image k) N ∙ r) in
          let Y : Counted = counted_block callees (entered X false p) (got b o) in
          let G : y ≡ Y =
          g ∙ ap (λ (k : Counted). counted_block callees (entered k false k.at) (read_block (l - 1) params me image k.at)) F
          ∙ ap (λ k. counted_block callees (entered X false p) k) z in
          let A : x.cost ≡ capped (0 + block_cost (cost_at callees) a) = ap (λ (k : Counted). k.cost) F in
          let B : y.cost ≡ capped (0 + block_cost (cost_at callees) b) = ap (λ (k : Counted). k.cost) G in
          let ca = block_cost (cost_at callees) a in
          let cb = block_cost (cost_at callees) b in
          let both : w ≡ max (capped (0 + ca)) (capped (0 + cb)) = rw (hw, A, B) refl in
          let U : capped (max (0 + ca) (0 + cb)) ≡ capped (max ca cb) = rw (zero-add ca, zero-add cb) refl in
          let W : w ≡ capped (max ca cb) = both ∙ capped_larger (0 + ca) (0 + cb) ∙ U in
          let M : m ≡ capped (c.cost + (1 + max ca cb)) = hm ∙ ap (λ (k : ℕ). capped (c.cost + k)) hs ∙ capped_more c.cost (max ca cb) w W in
          let fa = block_variable_fors a in
          let fb = block_variable_fors b in
          ap (λ (k : Counted). record { at = k.at; cost = m; first = k.first; lowest = k.lowest }) G
          ∙ counted_eq o m _ _ (first_after c.first (fa ++ fb)) _ _ M
          (rw (none_first c.first, none_first (first_after c.first fa)) (first_append c.first fa fb))
          (lower_lower c.lowest (block_lowest (lowest_at callees) a) (block_lowest (lowest_at callees) b))
          ∙ ap (λ k. counted callees c k) (sym u)

  -- a for
  module _ (three : op_of (get_or image c.at 0) ≡ 3) (to : ℕ) (h : Row image 1 (c.at + 1) to) where
    to_at : to ≡ end_of (read_expression (l - 1) image (c.at + 1))
    to_at = skipped_expression (l - 1) image (c.at + 1) to (read_bounds l params me image c.at t 3 (sym three) refl).first.read h

    pub to_fine : ExpressionRead (l - 1) image to
    to_fine = rw to_at (read_bounds l params me image c.at t 3 (sym three) refl).second

    module _ (n : ℕ) (k : Row image 1 to n) where
      pub body_fine : BlockRead (l - 1) params me image n
      body_fine =
          read_body l params me image c.at t 3 (sym three) refl n
          (skipped_expression (l - 1) image to n to_fine.read k ∙ ap (λ z. end_of (read_expression (l - 1) image z)) to_at)

      pub count_for : (d e : Bool) (v w p : ℕ) → d ≡ constant_at image (c.at + 1) → e ≡ constant_at image to → v ≡ value_at image (c.at + 1)
          → w ≡ value_at image to → p ≡ w - v → (x : Counted)
          → x ≡ counted_block callees (entered c (not (d && e)) n) (read_block (l - 1) params me image n)
          → (y s m : ℕ) → y ≡ capped (p * (1 + x.cost)) → s ≡ capped (1 + y) → m ≡ capped (c.cost + s)
          → record { at = x.at; cost = m; first = x.first; lowest = x.lowest }
          ≡ counted callees c (read_statement l params me image c.at)
      unfolding counted counted_block statement_cost statement_variable_fors statement_lowest
      count_for d e v w p hd he hv hw hp x f y s m hy hs hm =
          let (g, i, z, j, b, o, q, r, u, a) = open_for l params me image c.at t three in
          let I : to ≡ i = to_at ∙ end_of_lem _ g i q in
          let J : n ≡ j =
          skipped_expression (l - 1) image to n to_fine.read k ∙ ap (λ k. end_of (read_expression (l - 1) image k)) I ∙ end_of_lem _ z j r in
          let from-says = operand_words (l - 1) image (c.at + 1) g i q in
          let to-says = operand_words (l - 1) image i z j r in
          let K = is_constant g && is_constant z in
          let P = constant_value z - constant_value g in
          let B = block_cost (cost_at callees) b in
          let fors = block_variable_fors b in
          let own : List ℕ = pick K [] (c.at ∷ []) in
          let D : d && e ≡ K = rw (hd, he, I, from-says.constants, to-says.constants) refl in
          let Q : p ≡ P = rw (hp, hw, hv, I, from-says.values, to-says.values) refl in
          let X : Counted = counted_block callees (entered c (not K) n) (got b o) in
          let F : x ≡ X =
          f ∙ ap (λ (k : Bool). counted_block callees (entered c (not k) n) (read_block (l - 1) params me image n)) D
          ∙ ap (λ k. counted_block callees (entered c (not K) n) k) (ap (λ k. read_block (l - 1) params me image k) J ∙ u) in
          let C : x.cost ≡ capped B = ap (λ (k : Counted). k.cost) F ∙ ap capped (zero-add B) in
          let Y : y ≡ capped (P * (1 + B)) =
          hy ∙ ap (λ (k : ℕ). capped (k * (1 + x.cost))) Q ∙ ap (λ (k : ℕ). capped (P * (1 + k))) C ∙ capped_passes P B in
          let M : m ≡ capped (c.cost + (1 + P * (1 + B))) = hm ∙ ap (λ (k : ℕ). capped (c.cost + k)) hs ∙ capped_more c.cost (P * (1 + B)) y Y in
          ap (λ (k : Counted). record { at = k.at; cost = m; first = k.first; lowest = k.lowest }) F
          ∙ counted_eq o m _ _ (first_after c.first (own ++ fors)) _ _ M
          (rw (for_noted c.first K c.at) (first_append c.first own fors)) refl
          ∙ ap (λ k. counted callees c k) (sym a)

-- ---- into a block

module _ (c r : Counted) (v : Bool) (n : ℕ) (e : r ≡ entered c v n) where
  pub entered_fine : (l : ℕ) (params : List ℕ) (me : ℕ) (image : List ℕ) → BlockRead l params me image n
      → BlockRead l params me image r.at × (r.cost ≤ 4294967296)
  entered_fine l params me image b = (rw e b, let q : r.cost ≡ 0 = ap (λ (z : Counted). z.cost) e in omega arith)

  module _ (callees : List Summary) (l : ℕ) (params : List ℕ) (me : ℕ) (image : List ℕ) (x : Counted)
      (f : x ≡ counted_block callees r (read_block l params me image r.at)) where
    pub entered_counted : x ≡ counted_block callees (entered c v n) (read_block l params me image n)
    entered_counted = f ∙ ap (λ (z : Counted). counted_block callees z (read_block l params me image z.at)) e

-- from one block into the next: what was found in the first, at d, is x
module _ (callees : List Summary) (l : ℕ) (params : List ℕ) (me : ℕ) (image : List ℕ) (x r : Counted) (e : r ≡ entered x false x.at) where
  pub next_fine : BlockRead l params me image x.at → BlockRead l params me image r.at × (r.cost ≤ 4294967296)
  next_fine h = entered_fine x r false x.at e l params me image h

  module _ (y : Counted) (g : y ≡ counted_block callees r (read_block l params me image r.at)) where
    pub next_counted : y ≡ counted_block callees (entered x false x.at) (read_block l params me image x.at)
    next_counted = entered_counted x r false x.at e callees l params me image y g
