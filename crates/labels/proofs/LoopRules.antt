-- What each return of the walk over a for's bounds gives, and what its calls ask. Assumes nothing.
use Prim.Native.Nat.{ℕ, ◌-◌}
use mathlib.Core.Bool.{Bool, true, false, ◌&&◌, not}
use mathlib.Core.List.{List}
use mathlib.Core.Path.{◌≡◌, refl, sym, ap, ◌∙◌}
use Rattle.laws.specs.Tests.{and_false}
use Rattle.std.specs.declared.option.Option.{Option}
use Rattle.std.specs.Option.{unwrap_or}
use Rattle.definitions.specs.declared.Fault.{Fault}
use Rattle.definitions.specs.declared.ConstantLoop.{ConstantLoop}
use Rattle.definitions.specs.Image.{Expression}
use Rattle.definitions.specs.Reading.{Parse, got, refused, read_expression}
use Rattle.definitions.specs.Faults.{least, fault_if}
use Rattle.definitions.specs.Labels.{constant_loop, unbounded, loop_of, loop_bound_faults}
use Rattle.laws.specs.Least.{least_append}
use Rattle.laws.specs.Parses.{end_of, got_ok, end_of_lem}
use Rattle.laws.specs.Places.{place_of_lem}
use Rattle.image_words.specs.Read.{ExpressionRead, PairRead}
use Rattle.labels.specs.Operand.{constant_at, value_at, inside_at, operand_words}
use Rattle.labels.specs.Cursors.{ending}
use Rattle.labels.specs.Walk.{limiting, labelled, bounding, limited}
use Rattle.labels.specs.declared.Cursor.{Cursor}
use Rattle.labels.specs.declared.Labelled.{Labelled}
use Rattle.labels.proofs.ExpressionRules.{labelling}

module _ (image : List ℕ) (from to : ℕ) where
  pub inside_constant : (v u p : ℕ) → true ≡ constant_at image from → true ≡ constant_at image to → v ≡ value_at image from → u ≡ value_at image to
      → p ≡ u - v → constant_loop p u ≡ inside_at image from to
  unfolding inside_at
  inside_constant v u p s t hv hu hp = rw (← s, ← t, hp, hu, hv)

  pub inside_no_lower : false ≡ constant_at image from → unbounded ≡ inside_at image from to
  unfolding inside_at
  inside_no_lower s = rw (← s)

  pub inside_no_upper : false ≡ constant_at image to → unbounded ≡ inside_at image from to
  unfolding inside_at
  inside_no_upper t = rw (← t, and_false (constant_at image from) false refl)

pub ruleset insides = (inside_constant, inside_no_lower, inside_no_upper)

module _ (types arrays : List ℕ) (bounds : List ConstantLoop) (context : Bool) where
  bounding_next : (best : Fault) (x : Parse Expression) (r : Labelled) → r ≡ bounding types arrays bounds context best x → r.cursor.at ≡ end_of x
  unfolding bounding end_of
  bounding_next best (got e n) r h = ap (λ (z : Labelled). z.cursor.at) h
  bounding_next best (refused n p) r h = ap (λ (z : Labelled). z.cursor.at) h

  module _ (best : Fault) (l : ℕ) (image : List ℕ) (at : ℕ) where
    pub bound_labelled : (r : Labelled) (constant : Bool) (public judged : Cursor) → ExpressionRead l image at
        → r ≡ labelled types arrays bounds context best (read_expression l image at) → constant ≡ constant_at image at → public ≡ ending r.cursor.at (least r.cursor.best (fault_if r.secret 10 at))
        → judged ≡ ending public.at (least public.best (fault_if (context && not constant) 11 at))
        → labelling r.secret judged ≡ bounding types arrays bounds context best (read_expression l image at)
    unfolding labelled bounding
    bound_labelled r constant public judged t h k p j = let (e, n, q) = got_ok (read_expression l image at) t.read in go e n q
      where
        go : (e : Expression) (n : ℕ) → read_expression l image at ≡ got e n
            → labelling r.secret judged ≡ bounding types arrays bounds context best (read_expression l image at)
        go e n q = rw (j, p, h, q, k, (operand_words l image at e n q).constants, place_of_lem l image at e n q, least_append, least_append)

    pub to_fine : (r : Labelled) → PairRead l image at → r ≡ bounding types arrays bounds context best (read_expression l image at)
        → ExpressionRead l image r.cursor.at
    to_fine r p h = rw (bounding_next best _ r h) p.second

    pub bounds_labelled : (r s : Labelled) (inside : Option ConstantLoop) → PairRead l image at
        → r ≡ bounding types arrays bounds context best (read_expression l image at)
        → s ≡ bounding types arrays bounds context r.cursor.best (read_expression l image r.cursor.at)
        → unwrap_or inside unbounded ≡ inside_at image at r.cursor.at
        → (unwrap_or inside unbounded, s.cursor)
        ≡ limited types arrays bounds context best (read_expression l image at) (read_expression l image (end_of (read_expression l image at)))
    unfolding bounding limited inside_at
    bounds_labelled r s inside p h g k =
        let (e, n, q) = got_ok (read_expression l image at) p.first.read in
        let (f, m, w) = got_ok (read_expression l image (end_of (read_expression l image at))) p.second.read in
        go e n q f m (ap (λ z. read_expression l image z) (sym (end_of_lem _ e n q)) ∙ w)
      where
        go : (e : Expression) (n : ℕ) → read_expression l image at ≡ got e n → (f : Expression) (m : ℕ) → read_expression l image n ≡ got f m
            → (unwrap_or inside unbounded, s.cursor)
            ≡ limited types arrays bounds context best (read_expression l image at) (read_expression l image (end_of (read_expression l image at)))
        go e n q f m w =
            let a = operand_words l image at e n q in
            let b = operand_words l image n f m w in
            rw (end_of_lem _ e n q, k, g, h, q, w, a.constants, a.values, b.constants, b.values)
            (ap (λ z. limiting (loop_of e f) m z)
            (sym (least_append best (loop_bound_faults types arrays bounds context e) (loop_bound_faults types arrays bounds context f))))
