-- What is left to walk of an image's procedures: both passes of the checker go through them one by one. Assumes nothing.
use Rattle.std.specs.Prelude.{ℕ, suc, ◌+◌, ◌≤◌, ◌<◌, ◌≡◌, length}
use Rattle.std.proofs.Common.{add-one, arith, ap, ◌∙◌}
use mathlib.Core.List.{List, [], ◌∷◌, flat_map}
use Rattle.std.proofs.Math.Path.{sym}
use Rattle.std.proofs.Math.ListN.{drop, drop_of_length-le}
use Rattle.std.proofs.Math.Seq.{drop-cons}
use Rattle.definitions.specs.declared.Fault.{Fault}
use Rattle.definitions.specs.Image.{Procedure, procedure_at, no_procedure}
use Rattle.definitions.specs.Faults.{least}
use Rattle.laws.specs.Least.{least_append}

-- the procedures from number me on: the faults that f lists of each
module _ (f : Procedure → List Fault) (ps : List Procedure) (me count : ℕ) (e : count ≡ length ps) (found X : Fault)
    (d : least found (flat_map f (drop me ps)) ≡ X) where
  pub procedures_done : count ≤ me → found ≡ X
  unfolding flat_map least
  procedures_done h =
      let z : drop me ps ≡ [] = drop_of_length-le ps {i = me} (omega arith) in
      sym (ap (λ (k : List Procedure). least found (flat_map f k)) z) ∙ d

  pub procedures_more : me < count → (r : Fault) → r ≡ least found (f (procedure_at ps me)) → least r (flat_map f (drop (me + 1) ps)) ≡ X
  unfolding flat_map
  procedures_more h r g =
      let z : drop me ps ≡ procedure_at ps me ∷ drop (suc me) ps = drop-cons ps me no_procedure (omega arith) in
      rw (add-one, g)
      (sym (least_append found (f (procedure_at ps me)) (flat_map f (drop (suc me) ps))) ∙ sym (ap (λ (k : List Procedure). least found (flat_map f k)) z) ∙ d)
