-- The loop over a call's values: what is left of them, and what a turn makes of it. Assumes nothing.
use mathlib.Core.Path.{◌≡◌, refl, ◌∙◌}
use mathlib.Core.Bool.{true}
use mathlib.Core.List.{List, ◌∷◌}
use Prim.Native.Nat.{ℕ, suc, ◌+◌, ◌-◌, ◌≤◌, ◌<◌}
use native.Mathlib.Numerals.{add-one}
use native.Mathlib.Omega.{arith}
use lib.ListN.{set}
use lib.Seq.{sets}
use Rattle.definitions.specs.Image.{Expression}
use Rattle.definitions.specs.Reading.{got, read_expression}
use Rattle.definitions.specs.Running.{Evaluated, value, stop, bind, evaluate_all, evaluate as value_of}
use Rattle.laws.specs.Parses.{ok, ok_of}
use Rattle.image_words.specs.Read.{ExpressionRead, arguments_at}
use Rattle.image_words.specs.StatementParts.{no_argument, first_argument, read_argument}
use Rattle.tracing.specs.Log.{Log, byte_trace}
use Rattle.evaluator.specs.declared.Value.{Value}
use Rattle.evaluator.specs.Evaluation.{found, until, evaluate_at}
use Rattle.evaluator.specs.Results.{tree_got}
use Rattle.simple_statements.specs.Runs.{Values, given, values_at}

module _ (count level : ℕ) (image : List ℕ) where
  begin : (at : ℕ) → arguments_at (count - 0) level image at ≡ arguments_at count level image at
  begin at = let e : count - 0 ≡ count = omega arith in rw e

  pub arguments_begin : (at : ℕ) → ok (arguments_at count level image at) ≡ true → ok (arguments_at (count - 0) level image at) ≡ true
  arguments_begin at t = rw (begin at) t

  pub arguments_same : (arrays vs cs : List ℕ) (t : Log) (values : List ℕ) (at : ℕ)
      → values_at arrays vs cs t values 0 (arguments_at (count - 0) level image at) ≡ values_at arrays vs cs t values 0 (arguments_at count level image at)
  arguments_same arrays vs cs t values at = rw (begin at)

  module _ (k a : ℕ) (h : k < count) (o : ok (arguments_at (count - k) level image a) ≡ true) where
    -- the next value and those after it
    arguments_next : (e : Expression) × (m : ℕ) × (es : List Expression) × (o : ℕ)
        × (read_expression level image a ≡ got e m) × (arguments_at (count - (k + 1)) level image m ≡ got es o)
        × (arguments_at (count - k) level image a ≡ got (e ∷ es) o)
    arguments_next =
        let e : count - (k + 1) ≡ count - k - 1 = omega arith in
        rw e (first_argument (count - k) level image a o (omega arith))

    pub argument_read : ExpressionRead level image a
    argument_read = read_argument (count - k) level image a o (omega arith)

    module _ (arrays vs cs : List ℕ) (t : Log) where
      pub arguments_ok : (p : Value) (t1 : Log) → value p t1 ≡ evaluate_at arrays vs cs t (read_expression level image a)
          → ok (arguments_at (count - (k + 1)) level image p.next) ≡ true
      arguments_ok p t1 d =
          let (e, m, es, n, w, f, q) = arguments_next in
          let (y, z) = tree_got arrays vs cs t _ e m w p t1 d in ok_of _ es n (rw z at f)

      arguments_opened : (values : List ℕ) → values_at arrays vs cs t values k (arguments_at (count - k) level image a)
          ≡ bind (evaluate_at arrays vs cs t (read_expression level image a))
          (λ p u. values_at arrays vs cs u (set values k p.word) (k + 1) (arguments_at (count - (k + 1)) level image p.next))
      unfolding values_at evaluate_all evaluate_at until
      arguments_opened values =
          let (e, m, es, n, w, f, q) = arguments_next in
          rw (q, w) (step es m n f (value_of byte_trace arrays e vs cs t))
        where
          step : (es : List Expression) (m n : ℕ) → arguments_at (count - (k + 1)) level image m ≡ got es n → (x : Evaluated Log ℕ)
              → ◌≡◌ {A = Evaluated Log Values} (bind (bind x (λ v u. bind (evaluate_all byte_trace arrays es vs cs u) (λ ws y. value (v ∷ ws) y)))
              (λ ws y. value (given (sets values k ws) n) y))
              (bind (bind x (λ v u. value (found v m) u))
              (λ p u. values_at arrays vs cs u (set values k p.word) (k + 1) (arguments_at (count - (k + 1)) level image p.next)))
          step es m n f (value v u) = rw (f, add-one k) (last n v (evaluate_all byte_trace arrays es vs cs u))
            where
              last : (n v : ℕ) (x : Evaluated Log (List ℕ))
                  → ◌≡◌ {A = Evaluated Log Values} (bind (bind x (λ ws y. value (v ∷ ws) y)) (λ ws y. value (given (sets values k ws) n) y))
                  (bind x (λ ws y. value (given (sets (set values k v) (suc k) ws) n) y))
              last n v (value ws y) = refl
              last n v (stop i q y) = refl
          step es m n f (stop i q u) = refl

      module _ (values : List ℕ) (X : Evaluated Log Values) (i : values_at arrays vs cs t values k (arguments_at (count - k) level image a) ≡ X) where
        pub arguments_stop : (j q : ℕ) (t1 : Log) → stop j q t1 ≡ evaluate_at arrays vs cs t (read_expression level image a) → stop j q t1 ≡ X
        arguments_stop j q t1 d = (rw (arguments_opened values, ← d)) ∙ i

        pub arguments_more : (p : Value) (t1 : Log) → value p t1 ≡ evaluate_at arrays vs cs t (read_expression level image a)
            → (values1 : List ℕ) (b : ℕ) → values1 ≡ set values b p.word → b ≡ k
            → values_at arrays vs cs t1 values1 (k + 1) (arguments_at (count - (k + 1)) level image p.next) ≡ X
        arguments_more p t1 d values1 b f hb = rw (f, hb) ((rw (arguments_opened values, ← d)) ∙ i)

  pub arguments_done : (arrays vs cs : List ℕ) (t : Log) (values : List ℕ) (k a : ℕ) (X : Evaluated Log Values)
      → values_at arrays vs cs t values k (arguments_at (count - k) level image a) ≡ X → count ≤ k → value (given values a) t ≡ X
  unfolding values_at evaluate_all
  arguments_done arrays vs cs t values k a X i h =
      let e : count - k ≡ 0 = omega arith in
      let p : values_at arrays vs cs t values k (arguments_at 0 level image a) ≡ X = rw e at i in
      (rw (no_argument level image a)) ∙ p
