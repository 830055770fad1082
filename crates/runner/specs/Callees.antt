-- A procedure's run by its number among the first n, and its frame. Assumes nothing.
use Rattle.std.specs.Prelude.{◌≡◌, Bool, List, [], ◌∷◌, ◌++◌, length, drop, replicate}
use Rattle.std.proofs.Math.Path.{refl, ap}
use Rattle.std.proofs.Common.{sym, ◌∙◌, append_assoc, zero-add, suc-add, arith, length-append}
use Rattle.std.proofs.Math.Bool.{true, false}
use Prim.Native.Nat.{ℕ, zero, suc, ◌+◌, ◌-◌, ◌≤◌, ◌<◌}
use Rattle.std.proofs.Math.Nat.{suc-sub-suc, sub-zero, zero-sub}
use borrow.Author.Tests.{eqb-true, eqb-false}
use Rattle.std.proofs.Math.Dec.{eqb}
use Rattle.std.proofs.lemmas.List.{length-replicate}
use Rattle.std.proofs.lemmas.List.Edits.{sets, sets-eq}
use Rattle.definitions.specs.Choice.{pick}
use Rattle.definitions.specs.Image.{Procedure, procedure_at}
use Rattle.definitions.specs.Running.{Trace, and_go, Given, run_block, frame, finish, run_procedure, Ran as Run}
use Rattle.tables.specs.Table.{padded}
use Rattle.runner.specs.Runs.{nine, framed}

module _ {T : Type 0} (C : Trace T) (budget : ℕ) (arrays : List ℕ) (ps : List Procedure) (f : ℕ) (ws : List ℕ) (z : ℕ) (t : T) (cs : List ℕ) where
  pub callee_at : (n : ℕ) → f < n → run_procedure C budget arrays ps n f ws z t cs
      ≡ and_go (run_block C budget arrays (λ g xs p q ds. run_procedure C budget arrays ps f g xs p q ds) (procedure_at ps f).body z t (frame ws) cs) finish
  unfolding run_procedure
  callee_at zero h = absurd (omega arith)
  callee_at (suc n) h = go (eqb f n) refl (λ q. callee_at n q)
    where
      go : (b : Bool) → eqb f n ≡ b
          → (f < n → run_procedure C budget arrays ps n f ws z t cs
          ≡ and_go (run_block C budget arrays (λ g xs p q ds. run_procedure C budget arrays ps f g xs p q ds) (procedure_at ps f).body z t (frame ws) cs) finish)
          → pick {A = ℕ → T → Run T Given} b
          (λ y u. and_go (run_block C budget arrays (λ g xs p q ds. run_procedure C budget arrays ps n g xs p q ds) (procedure_at ps n).body y u (frame ws) cs) finish)
          (λ y u. run_procedure C budget arrays ps n f ws y u cs) z t
          ≡ and_go (run_block C budget arrays (λ g xs p q ds. run_procedure C budget arrays ps f g xs p q ds) (procedure_at ps f).body z t (frame ws) cs) finish
      go true e r =
          ap (λ (m : ℕ). and_go (run_block C budget arrays (λ g xs p q ds. run_procedure C budget arrays ps m g xs p q ds) (procedure_at ps m).body z t (frame ws) cs) finish)
          (sym (eqb-true f n e))
      go false e r = r (omega (arith, eqb-false f n e))

-- what is left of a list of zeros
drop_replicate : (n m : ℕ) → ◌≡◌ {A = List ℕ} (drop n (replicate m 0)) (replicate (m - n) 0)
drop_replicate zero m = rw (sub-zero m)
drop_replicate (suc n) zero = rw (zero-sub (suc n))
drop_replicate (suc n) (suc m) = rw (suc-sub-suc m n) (drop_replicate n m)

two_replicates : (n m : ℕ) → ◌≡◌ {A = List ℕ} (replicate n 0 ++ replicate m 0) (replicate (n + m) 0)
two_replicates zero m = rw (zero-add m)
two_replicates (suc n) m = rw (suc-add n m) (ap (λ (l : List ℕ). 0 ∷ l) (two_replicates n m))

first_of : (n : ℕ) (l : List ℕ) → length l ≡ suc n → (a : ℕ) × (m : List ℕ) × (l ≡ a ∷ m) × (length m ≡ n)
first_of n [] h = absurd (omega arith)
first_of n (a ∷ m) h = (a, m, refl, omega arith)

none : (l : List ℕ) → length l ≡ 0 → l ≡ []
none [] h = refl
none (a ∷ m) h = absurd (omega arith)

nine_is : (l : List ℕ) → length l ≡ 9 → nine l ≡ l
nine_is l h =
    let (a, l1, e1, h1) = first_of 8 l h in
    let (b, l2, e2, h2) = first_of 7 l1 h1 in
    let (c, l3, e3, h3) = first_of 6 l2 h2 in
    let (d, l4, e4, h4) = first_of 5 l3 h3 in
    let (e, l5, e5, h5) = first_of 4 l4 h4 in
    let (f, l6, e6, h6) = first_of 3 l5 h5 in
    let (g, l7, e7, h7) = first_of 2 l6 h6 in
    let (i, l8, e8, h8) = first_of 1 l7 h7 in
    let (j, l9, e9, h9) = first_of 0 l8 h8 in
    rw (e1, e2, e3, e4, e5, e6, e7, e8, e9, none l9 h9)

-- values with zeros behind them, to nine, are the frame's first variables
pub nine_padded : (ws : List ℕ) → length ws ≤ 9 → frame (nine (padded 9 ws)) ≡ frame ws
unfolding frame padded
nine_padded ws h =
    let z : length (ws ++ replicate (9 - length ws) 0) ≡ 9 = simp (length-append, length-replicate) (omega arith) in
    let n : 9 - length ws + 246 ≡ 255 - length ws = omega arith in
    ap (λ (q : List ℕ). q ++ replicate 246 0) (nine_is (ws ++ replicate (9 - length ws) 0) z)
    ∙ append_assoc ws (replicate (9 - length ws) 0) (replicate 246 0)
    ∙ ap (λ (q : List ℕ). ws ++ q) (two_replicates (9 - length ws) 246 ∙ rw n)

pub framed_nine : (values : List ℕ) → framed values ≡ frame (nine values)
unfolding frame
framed_nine values = refl

padded_is : (ws : List ℕ) → ws ++ replicate (9 - length ws) 0 ≡ padded 9 ws
unfolding padded
padded_is ws = refl

-- and so are values stored into nine zeros
pub framed_is : (ws : List ℕ) → length ws ≤ 9 → framed (sets (replicate 9 0) 0 ws) ≡ frame ws
framed_is ws h =
    let l : length {A = ℕ} (replicate 9 0) ≡ 9 = length-replicate {A = ℕ} 9 0 in
    let e : sets (replicate 9 0) 0 ws ≡ ws ++ replicate (9 - length ws) 0 =
    sets-eq ws (replicate 9 0) 0 (omega arith)
    ∙ ap (λ (q : List ℕ). ws ++ q) (ap (λ (k : ℕ). drop k (replicate 9 0)) (zero-add (length ws)) ∙ drop_replicate (length ws) 9) in
    ap framed (e ∙ padded_is ws) ∙ framed_nine (padded 9 ws) ∙ nine_padded ws h
