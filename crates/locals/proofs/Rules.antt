-- What each return of the walk gives, and what its calls ask. Assumes nothing.
use Prim.Native.Nat.{ℕ, ◌+◌, ◌*◌, ◌-◌, ◌≤◌, ◌<◌, max}
use mathlib.Core.Bool.{Bool, true, false, ◌&&◌, ◌||◌, or_assoc}
use mathlib.Core.List.{List}
use mathlib.Core.Path.{◌≡◌, refl, sym, ap, ◌∙◌}
use native.Mathlib.Omega.{arith}
use mir.Val.{bool_byte as from_bool}
use mathlib.Core.Logic.{◌⊎◌, inl, inr}
use lib.Dec.{eqb}
use lib.ListN.{length, get_or}
use Rattle.definitions.specs.Choice.{pick}
use Rattle.definitions.specs.Operators.{word_sort, boolean_sort}
use Rattle.definitions.specs.Image.{op_of, target_of, called_of, type_sort, procedure_at, Expression, Statement, assign, store}
use Rattle.definitions.specs.Image.{return, Block, Procedure}
use Rattle.definitions.specs.Reading.{Parse, got, refused, read_expression, read_statement, read_block}
use Rattle.definitions.specs.Labels.{secret_in, rc_after, rc_after_block}
use Rattle.definitions.specs.Compiling.{statement_nesting, block_nesting, statement_needs, block_needs}
use Rattle.laws.specs.Parses.{ok, end_of, end_of_lem}
use Rattle.laws.specs.StatementInversion.{open_assign, open_store, open_if, open_for, open_return, open_call}
use Rattle.laws.specs.ImageIn.{image_in}
use Rattle.laws.specs.Nesting.{nesting_read}
use Rattle.laws.specs.Tests.{or_false}
use Rattle.image_words.specs.Kinds.{op_number}
use Rattle.image_words.specs.declared.ops.Op.{Op}
use Rattle.image_words.specs.declared.ops.Op.TheVariants.{Assign, Store, Return}
use Rattle.image_words.specs.Read.{BlockRead}
use Rattle.image_words.specs.StatementParts.{read_then, read_else, read_bounds, read_body, read_called}
use Rattle.image_words.specs.Skipping.{Row, skipped_pair}
use Rattle.tables.specs.Looking.{Listed, listed_below}
use Rattle.contexts.specs.Context.{seen, passed, passed_block}
use Rattle.contexts.specs.declared.Seen.{Seen}
use Rattle.contexts.specs.declared.Passed.{Passed}
use Rattle.locals.specs.Walk.{after_call, behind, found, found_block}
use Rattle.locals.specs.declared.Found.{Found}

-- a flag as a number
told_flag : (b : Bool) → from_bool b ≡ pick b 1 0
told_flag true = refl
told_flag false = refl

pub small_flag : (b : Bool) (k : ℕ) → k ≡ from_bool b → k ≤ 1
small_flag true k e = omega arith
small_flag false k e = omega arith

-- ---- where parts end

seen_end : (types arrays : List ℕ) (x : Parse Expression) (r : Seen) → r ≡ seen types arrays x → r.next ≡ end_of x
unfolding seen end_of
seen_end types arrays (got e n) r h = ap (λ (z : Seen). z.next) h
seen_end types arrays (refused n p) r h = ap (λ (z : Seen). z.next) h

found_end : (ps : List Procedure) (arrays types : List ℕ) (pc : Bool) (c : Found) (x : Parse Block) (r : Found)
    → r ≡ found_block ps arrays types pc c x → r.at ≡ end_of x
unfolding found_block end_of
found_end ps arrays types pc c (got b m) r e = ap (λ (z : Found). z.at) e
found_end ps arrays types pc c (refused m p) r e = ap (λ (z : Found). z.at) e

-- two records of the walk with equal parts
pub found_eq : (at : ℕ) (rc : Bool) (l m : ℕ) (w x b d : Bool) → l ≡ m → w ≡ x → b ≡ d
    → ◌≡◌ {A = Found} (record { at = at; rc = rc; levels = l; words = w; booleans = b }) (record { at = at; rc = rc; levels = m; words = x; booleans = d })
found_eq at rc l m w x b d p q r = rw (p, q, r)

-- where the arms of an if begin, the second with what was found in the first
abbrev then_from : Found → ℕ → Found
then_from c at = record { at = at; rc = c.rc; levels = 0; words = c.words; booleans = c.booleans }

abbrev else_from : Found → Found → Found
else_from c x = record { at = x.at; rc = c.rc; levels = x.levels; words = x.words; booleans = x.booleans }

-- ---- a statement

pub call_found : (ps : List Procedure) (pc : Bool) (c : Found) (f v sort : ℕ) → v ≡ (procedure_at ps f).result → sort ≡ type_sort v
    → record {
      at = c.at;
      rc = c.rc;
      levels = c.levels;
      words = c.words || ((pc || c.rc) && eqb sort 0);
      booleans = c.booleans || ((pc || c.rc) && eqb sort 1);
    } ≡ after_call ps pc c f
call_found ps pc c f v sort hv hs = rw (hs, hv) refl

module _ (ps : List Procedure) (arrays types : List ℕ) (pc : Bool) (c : Found) (l : ℕ) (params : List ℕ) (me : ℕ) (image : List ℕ)
    (t : ok (read_statement l params me image c.at) ≡ true) where
  module _ (b : Found) (h : b ≡ behind c (passed types arrays pc c.rc (read_statement l params me image c.at))) where
    pub found_call : (f : ℕ) (d : Found) → op_of (get_or image c.at 0) ≡ 5 → f ≡ called_of (get_or image c.at 0) → d ≡ after_call ps pc b f
        → d ≡ found ps arrays types pc c (read_statement l params me image c.at)
    unfolding found passed statement_nesting statement_needs rc_after
    found_call f d five hf e =
        let (es, n, w, q, u) = open_call l params me image c.at t five in
        let z : max c.levels 0 ≡ c.levels = omega arith in
        e ∙ ap (λ (y : Found). after_call ps pc y f) (h ∙ ap (λ y. behind c (passed types arrays pc c.rc y)) u)
        ∙ ap (λ (y : ℕ). after_call ps pc (record { at = n; rc = c.rc; levels = c.levels; words = c.words; booleans = c.booleans }) y) hf
        ∙ found_eq n c.rc _ _ _ _ _ _ (sym z) refl refl
        ∙ ap (λ y. found ps arrays types pc c y) (sym u)

    bare : (d : Statement) (n : ℕ) → read_statement l params me image c.at ≡ got d n → statement_nesting arrays types d ≡ 0
        → ((sort : ℕ) → statement_needs ps arrays types sort pc c.rc d ≡ false)
        → b ≡ found ps arrays types pc c (read_statement l params me image c.at)
    unfolding found passed
    bare d n u e f =
        let z : max c.levels (statement_nesting arrays types d) ≡ c.levels = omega arith in
        h ∙ ap (λ y. behind c (passed types arrays pc c.rc y)) u
        ∙ found_eq n (rc_after types arrays pc c.rc d) _ _ _ _ _ _ (sym z)
        (sym (ap (λ y. c.words || y) (f word_sort) ∙ or_false c.words)) (sym (ap (λ y. c.booleans || y) (f boolean_sort) ∙ or_false c.booleans))
        ∙ ap (λ y. found ps arrays types pc c y) (sym u)

    found_assign : op_of (get_or image c.at 0) ≡ 0 → b ≡ found ps arrays types pc c (read_statement l params me image c.at)
    unfolding statement_nesting statement_needs
    found_assign o = let (e, n, q, u) = open_assign l params me image c.at t o in bare (assign (target_of (get_or image c.at 0)) e) n u refl (λ _. refl)

    found_store : op_of (get_or image c.at 0) ≡ 1 → b ≡ found ps arrays types pc c (read_statement l params me image c.at)
    unfolding statement_nesting statement_needs
    found_store o =
        let (x, n, e, m, q, v, u) = open_store l params me image c.at t o in bare (store (target_of (get_or image c.at 0)) x e) m u refl (λ _. refl)

    found_return : op_of (get_or image c.at 0) ≡ 4 → b ≡ found ps arrays types pc c (read_statement l params me image c.at)
    unfolding statement_nesting statement_needs
    found_return o = let (e, n, q, u) = open_return l params me image c.at t o in bare (return e) n u refl (λ _. refl)

    pub found_bare : (o : Op) → op_of (get_or image c.at 0) ≡ op_number o → (o ≡ Assign) ⊎ ((o ≡ Store) ⊎ (o ≡ Return))
        → b ≡ found ps arrays types pc c (read_statement l params me image c.at)
    found_bare o e (inl is) = found_assign (e ∙ ap op_number is)
    found_bare o e (inr (inl is)) = found_store (e ∙ ap op_number is)
    found_bare o e (inr (inr is)) = found_return (e ∙ ap op_number is)

  pub found_for : (n : ℕ) (r : Passed) (x : Found) → op_of (get_or image c.at 0) ≡ 3 → Row image 2 (c.at + 1) n
      → r ≡ passed_block types arrays pc c.rc (read_block (l - 1) params me image n)
      → x ≡ found_block ps arrays types pc (record { at = n; rc = r.rc; levels = c.levels; words = c.words; booleans = c.booleans })
      (read_block (l - 1) params me image n)
      → record { at = x.at; rc = r.rc; levels = x.levels; words = x.words; booleans = x.booleans }
      ≡ found ps arrays types pc c (read_statement l params me image c.at)
  unfolding found found_block passed_block statement_nesting statement_needs rc_after
  found_for n r x three h g e =
      let (d, i, f, m, b, p, q, v, u, w) = open_for l params me image c.at t three in
      let N : n ≡ m =
      skipped_pair (l - 1) image (c.at + 1) n (read_bounds l params me image c.at t 3 (sym three) refl) h
      ∙ ap (λ z. end_of (read_expression (l - 1) image z)) (end_of_lem _ d i q) ∙ end_of_lem _ f m v in
      let B : read_block (l - 1) params me image n ≡ got b p = ap (λ z. read_block (l - 1) params me image z) N ∙ u in
      let S : r.rc ≡ rc_after_block types arrays pc c.rc b = ap (λ (z : Passed). z.rc) (g ∙ ap (λ z. passed_block types arrays pc c.rc z) B) in
      let C : Bool → Found = (λ z. record { at = n; rc = z; levels = c.levels; words = c.words; booleans = c.booleans }) in
      ap (λ (z : Found). record { at = z.at; rc = r.rc; levels = z.levels; words = z.words; booleans = z.booleans })
      (e ∙ ap (λ z. found_block ps arrays types pc (C r.rc) z) B)
      ∙ ap (λ (z : Bool). record {
        at = p;
        rc = z;
        levels = max c.levels (block_nesting arrays types b);
        words = c.words || block_needs ps arrays types word_sort pc z b;
        booleans = c.booleans || block_needs ps arrays types boolean_sort pc z b;
      }) S
      ∙ ap (λ z. found ps arrays types pc c z) (sym w)

  -- the arms of an if: the second begins with what was found in the first
  module _ (two : op_of (get_or image c.at 0) ≡ 2) (d : Seen) (h : d ≡ seen types arrays (read_expression (l - 1) image (c.at + 1))) (x : Found)
      (f : x ≡ found_block ps arrays types (pc || d.secret) (then_from c d.next) (read_block (l - 1) params me image d.next)) where
    then_end : x.at ≡ end_of (read_block (l - 1) params me image d.next)
    then_end = found_end ps arrays types (pc || d.secret) (then_from c d.next) _ x f

    pub found_else : BlockRead (l - 1) params me image x.at
    found_else = read_else l params me image c.at t 2 (sym two) refl d.next (seen_end types arrays _ d h) x.at then_end

    module _ (y : Found) (g : y ≡ found_block ps arrays types (pc || d.secret) (else_from c x) (read_block (l - 1) params me image x.at)) where
      pub levels_small : 2 * y.levels ≤ l
      unfolding found_block
      levels_small =
          let (v, n, a, p, b, i, q, r, w, u) = open_if l params me image c.at t two in
          let A : read_block (l - 1) params me image d.next ≡ got a p =
          ap (λ z. read_block (l - 1) params me image z) (seen_end types arrays _ d h ∙ end_of_lem _ v n q) ∙ r in
          let B : read_block (l - 1) params me image x.at ≡ got b i =
          ap (λ z. read_block (l - 1) params me image z) (then_end ∙ end_of_lem _ a p A) ∙ w in
          let F : x.levels ≡ max 0 (block_nesting arrays types a) =
          ap (λ (z : Found). z.levels) (f ∙ ap (λ z. found_block ps arrays types (pc || d.secret) (then_from c d.next) z) A) in
          let G : y.levels ≡ max x.levels (block_nesting arrays types b) =
          ap (λ (z : Found). z.levels) (g ∙ ap (λ z. found_block ps arrays types (pc || d.secret) (else_from c x) z) B) in
          let M = nesting_read arrays types (l - 1) params me image d.next a p A in
          let N = nesting_read arrays types (l - 1) params me image x.at b i B in
          omega arith

      pub found_if : (k m : ℕ) → k ≡ from_bool d.secret → m ≡ max c.levels (k + y.levels)
          → record { at = y.at; rc = x.rc || y.rc; levels = m; words = y.words; booleans = y.booleans }
          ≡ found ps arrays types pc c (read_statement l params me image c.at)
      unfolding seen found found_block statement_nesting statement_needs rc_after
      found_if k m hk hm =
          let (v, n, a, p, b, i, q, r, w, u) = open_if l params me image c.at t two in
          let L = secret_in types arrays v in
          let P = pc || L in
          let D : d ≡ record { secret = L; next = n } = h ∙ ap (λ z. seen types arrays z) q in
          let X : Found = found_block ps arrays types (pc || L) (then_from c n) (got a p) in
          let F : x ≡ X =
          f ∙ ap (λ (z : Seen). found_block ps arrays types (pc || z.secret) (then_from c z.next) (read_block (l - 1) params me image z.next)) D
          ∙ ap (λ z. found_block ps arrays types (pc || L) (then_from c n) z) r in
          let Y : Found = found_block ps arrays types (pc || L) (else_from c X) (got b i) in
          let G : y ≡ Y =
          g ∙ ap (λ (z : Seen). found_block ps arrays types (pc || z.secret) (else_from c x) (read_block (l - 1) params me image x.at)) D
          ∙ ap (λ (z : Found). found_block ps arrays types (pc || L) (else_from c z) (read_block (l - 1) params me image z.at)) F
          ∙ ap (λ z. found_block ps arrays types (pc || L) (else_from c X) z) w in
          let K : k ≡ pick L 1 0 = hk ∙ told_flag d.secret ∙ ap (λ (z : Seen). pick z.secret 1 0) D in
          let Z : y.levels ≡ max (max 0 (block_nesting arrays types a)) (block_nesting arrays types b) = ap (λ (z : Found). z.levels) G in
          let M : m ≡ max c.levels (pick L 1 0 + max (block_nesting arrays types a) (block_nesting arrays types b)) = omega arith in
          ap (λ (z : Found). record { at = z.at; rc = x.rc || z.rc; levels = m; words = z.words; booleans = z.booleans }) G
          ∙ ap (λ (z : Found). record { at = i; rc = z.rc || Y.rc; levels = m; words = Y.words; booleans = Y.booleans }) F
          ∙ found_eq i (X.rc || Y.rc) m (max c.levels (pick L 1 0 + max (block_nesting arrays types a) (block_nesting arrays types b)))
          Y.words _ Y.booleans _ M (or_assoc c.words _ _) (or_assoc c.booleans _ _)
          ∙ ap (λ z. found ps arrays types pc c z) (sym u)

-- ---- what the calls ask

module _ (l : ℕ) (params : List ℕ) (me : ℕ) (image : List ℕ) (at : ℕ) (t : ok (read_statement l params me image at) ≡ true) where
  pub found_then : (types arrays : List ℕ) (d : Seen) → op_of (get_or image at 0) ≡ 2 → d ≡ seen types arrays (read_expression (l - 1) image (at + 1))
      → BlockRead (l - 1) params me image d.next
  found_then types arrays d two h = read_then l params me image at t 2 (sym two) refl d.next (seen_end types arrays _ d h)

  pub found_body : (n : ℕ) → op_of (get_or image at 0) ≡ 3 → Row image 2 (at + 1) n → BlockRead (l - 1) params me image n
  found_body n three h =
      read_body l params me image at t 3 (sym three) refl n
      (skipped_pair (l - 1) image (at + 1) n (read_bounds l params me image at t 3 (sym three) refl) h)

  pub called_there : (f : ℕ) → op_of (get_or image at 0) ≡ 5 → f ≡ called_of (get_or image at 0) → {table : List ℕ} → Listed image table me
      → f < length (image_in image).procedures
  called_there f five hf h = (listed_below image _ me f h (rw hf (read_called l params me image at t 5 (sym five) refl))).number
