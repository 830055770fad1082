-- What an answer says of the definition's result. Assumes nothing.
use Rattle.std.specs.Prelude.{true, ◌≡◌, List, ℕ}
use Rattle.std.proofs.Common.{◌∙◌, sym, ap}
use Rattle.definitions.specs.Image.{Expression}
use Rattle.definitions.specs.Reading.{Parse, got}
use Rattle.definitions.specs.Running.{Evaluated, value, stop, evaluate as value_of}
use Rattle.laws.specs.Parses.{ok, end_of, got_ok, end_of_lem}
use Rattle.tracing.specs.Log.{Log, byte_trace}
use Rattle.evaluator.specs.declared.Value.{Value}
use Rattle.evaluator.specs.Evaluation.{found, until, evaluate_at}

-- a value answered is the value defined, and the place answered is the place after it
pub until_got : (p : Value) (t : Log) (n : ℕ) (x : Evaluated Log ℕ) → value p t ≡ until n x → (x ≡ value p.word t) × (n ≡ p.next)
unfolding until
until_got p t n (value a u) e =
    let d : value p t ≡ value (found a n) u = e in
    let w : p ≡ found a n = cc in
    (rw w cc, sym (ap (λ (q : Value). q.next) w))
until_got p t n (stop k q u) e = cc

-- a stop answered is the stop defined
pub until_stop : (k q : ℕ) (t : Log) (n : ℕ) (x : Evaluated Log ℕ) → stop k q t ≡ until n x → x ≡ stop k q t
unfolding until
until_stop k q t n (value a u) e = cc
until_stop k q t n (stop i l u) e = cc

-- ---- answers of an evaluation, where the expression is known

module _ (arrays vs cs : List ℕ) (t : Log) (x : Parse Expression) (e : Expression) (n : ℕ) (w : x ≡ got e n) where
  at_tree : evaluate_at arrays vs cs t x ≡ until n (value_of byte_trace arrays e vs cs t)
  unfolding evaluate_at
  at_tree = rw w

  pub tree_got : (p : Value) (u : Log) → value p u ≡ evaluate_at arrays vs cs t x
      → (value_of byte_trace arrays e vs cs t ≡ value p.word u) × (n ≡ p.next)
  tree_got p u d = until_got p u n (value_of byte_trace arrays e vs cs t) (d ∙ at_tree)

  pub tree_stop : (k q : ℕ) (u : Log) → stop k q u ≡ evaluate_at arrays vs cs t x → value_of byte_trace arrays e vs cs t ≡ stop k q u
  tree_stop k q u d = until_stop k q u n (value_of byte_trace arrays e vs cs t) (d ∙ at_tree)

-- the place answered is the place after the expression
pub tree_end : (arrays vs cs : List ℕ) (t : Log) (x : Parse Expression) → ok x ≡ true → (p : Value) (u : Log)
    → value p u ≡ evaluate_at arrays vs cs t x → p.next ≡ end_of x
tree_end arrays vs cs t x o p u d =
    let (e, n, w) = got_ok x o in
    let (y, z) = tree_got arrays vs cs t x e n w p u d in
    sym z ∙ sym (end_of_lem x e n w)
