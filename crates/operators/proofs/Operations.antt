-- A rotation as std has it, and the numbers past the last operator's. Assumes nothing.
use Rattle.std.proofs.Common.{◌≡◌, ℕ, zero, suc, ◌-◌, ◌*◌, ◌/◌, ◌%◌, ◌^◌, ◌≤◌, ◌<◌, w32, arith, mod-eq_of_lt, mul-one, div-one}
use native.Mathlib.Nat.{div-eq_of_lt}
use lib.Bits.{or_zero_r}
use lib.ListN.{get_or-eq_default}
use Rattle.std.specs.Int as int
use Rattle.std.specs.Int.Bits.{bit_or, or_self}
use Rattle.definitions.specs.Arithmetic.{rotate_left, multiply, truth}
use Rattle.definitions.specs.Operators.{apply_binary, apply_unary, binary_operations, unary_operations}
use Rattle.operators.specs.Numbers.{operator_number, unary_number}
use Rattle.operators.specs.declared.Operator.{Operator}
use Rattle.operators.specs.declared.Operator.TheVariants.{Multiply}
use Rattle.operators.specs.declared.unary.UnaryOperator.{UnaryOperator}
use Rattle.operators.specs.declared.unary.UnaryOperator.TheVariants.{ToWord}

-- std shifts by 0 to the right where the count is 0, and not by 32
rotated : (a k : ℕ) → a < 2 ^ 32 → k < 32
    → bit_or ((a * 2 ^ k) % 2 ^ 32) (a / 2 ^ ((32 - k) % 32)) ≡ bit_or ((a * 2 ^ k) % 2 ^ 32) (a / 2 ^ (32 - k))
rotated a zero h l =
    let low : a * 1 % 2 ^ 32 ≡ a = rw mul-one (mod-eq_of_lt h) in
    let high : a / 2 ^ 32 ≡ 0 = div-eq_of_lt h in
    rw (low, high, div-one, or_self, or_zero_r)
rotated a (suc k) h l = let e : (32 - suc k) % 32 ≡ 32 - suc k = mod-eq_of_lt (omega arith) in rw e

pub rotate_is : (a n : ℕ) → a < 2 ^ 32 → int.rotate_left w32 a n ≡ rotate_left a n
rotate_is a n h = rotated a (n % 32) h (omega arith)

pub product_is : (o : Operator) (a b r : ℕ) → o ≡ Multiply → r ≡ multiply a b → r ≡ apply_binary (operator_number o) a b
unfolding apply_binary
product_is o a b r is e = rw (is, e)

pub truth_is : (o : UnaryOperator) (a r : ℕ) → o ≡ ToWord → r ≡ truth a → r ≡ apply_unary (unary_number o) a
unfolding apply_unary
truth_is o a r is e = rw (is, e)

pub binary_past : (op a b : ℕ) → 15 ≤ op → 0 ≡ apply_binary op a b
unfolding apply_binary
binary_past op a b h = rw (get_or-eq_default binary_operations (λ x y. 0) h)

pub unary_past : (op a : ℕ) → 3 ≤ op → 0 ≡ apply_unary op a
unfolding apply_unary
unary_past op a h = rw (get_or-eq_default unary_operations (λ x. 0) h)
