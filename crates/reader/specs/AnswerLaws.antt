-- What an answer of the code says of what the definition reads: where it answers a place there is a tree, where it refuses so does the
-- definition. Assumes nothing.
use Rattle.std.specs.Prelude.{◌≡◌, ℕ, Result, Ok, Err}
use Rattle.std.proofs.Common.{sym, ap, ◌∙◌, arith}
use Rattle.definitions.specs.declared.Fault.{Fault}
use Rattle.definitions.specs.Reading.{Parse, got, refused}
use Rattle.reader.specs.Answers.{answer}

-- an answer is one or the other
pub impossible : {A : Type 0} {n : ℕ} {f : Fault} → Ok n ≡ Err f → A
impossible e = let z : ◌≡◌ {A = ℕ} 0 1 = cc in absurd (omega arith)

pub got_of : {A : Type 0} (x : Parse A) (r : Result ℕ Fault) (n : ℕ) → r ≡ answer x → r ≡ Ok n → (a : A) × (x ≡ got a n)
unfolding answer
got_of (got a m) r n e d = (a, cc)
got_of (refused m p) r n e d = impossible (sym d ∙ e)

pub refused_of : {A : Type 0} (x : Parse A) (r : Result ℕ Fault) (f : Fault) → r ≡ answer x → r ≡ Err f → x ≡ refused f.number f.place
unfolding answer
refused_of (got a m) r f e d = impossible (sym e ∙ d)
refused_of (refused m p) r f e d = let same : record { number = m; place = p } ≡ f = cc in rw (← same)

pub answer_got : {A : Type 0} (x : Parse A) (a : A) (n : ℕ) → x ≡ got a n → Ok n ≡ answer x
unfolding answer
answer_got x a n e = sym (ap (λ z. answer z) e)

pub answer_refused : {A : Type 0} (x : Parse A) (n q : ℕ) → x ≡ refused n q → Err (record { number = n; place = q }) ≡ answer x
unfolding answer
answer_refused x n q e = sym (ap (λ z. answer z) e)
