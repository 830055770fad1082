-- Rules for the statements that hold no block: what each way of returning gives, and what each call asks. Assumes nothing.
use Prim.Native.Nat.{ℕ, ◌+◌, ◌-◌, ◌≤◌, ◌<◌}
use native.Mathlib.Omega.{arith}
use mathlib.Core.Bool.{true}
use mathlib.Core.List.{List, ◌∷◌}
use mathlib.Core.Path.{◌≡◌, sym, ap, ◌∙◌}
use lib.Dec.{leb}
use lib.ListN.{get_or}
use Rattle.definitions.specs.declared.Fault.{Fault}
use Rattle.definitions.specs.Image.{type_sort, op_of, target_of, called_of, result_of, Expression, assign, store, return}
use Rattle.definitions.specs.Image.{call, Procedure, procedure_at}
use Rattle.definitions.specs.Reading.{got, read_expression, read_arguments, read_statement}
use Rattle.definitions.specs.Faults.{least, fault_if}
use Rattle.definitions.specs.Sorts.{sort_of, wrong_sort, argument_faults, statement_sort_faults}
use Rattle.laws.specs.Least.{least_append}
use Rattle.laws.specs.Parses.{ok}
use Rattle.laws.specs.StatementInversion.{open_assign, open_store, open_return, open_call}
use Rattle.image_words.specs.Read.{arguments_at}
use Rattle.image_words.specs.StatementParts.{no_argument, first_argument}
use Rattle.image_words.specs.Rest.{arguments_left}
use Rattle.sorts.specs.declared.Scope.{Scope}
use Rattle.sorts.specs.declared.Walked.{Walked}
use Rattle.sorts.specs.Walk.{Found, walk, target_noted, operand_walked, arguments_walked, statement_walked}
use Rattle.sorts.proofs.ExpressionRules.{operand_next}

-- the values of a call that are left
module _ (types : List ℕ) (arrays : ℕ) (marks callee : List ℕ) (l : ℕ) (image : List ℕ) (n at j : ℕ) (best : Fault) where
  module _ (X : Walked) (d : arguments_walked types arrays marks callee j best (arguments_at (n - j) l image at) ≡ X) where
    pub arguments_done : n ≤ j → walk at best ≡ X
    unfolding arguments_walked argument_faults least
    arguments_done h =
        let z : n - j ≡ 0 = omega arith in
        sym (ap (λ k. arguments_walked types arrays marks callee j best k) (ap (λ k. arguments_at k l image at) z ∙ no_argument l image at)) ∙ d

    pub arguments_more : ok (arguments_at (n - j) l image at) ≡ true → j < n → (want : ℕ) (i : Found) → want ≡ sort_of callee j
        → i ≡ operand_walked types arrays marks want best (read_expression l image at)
        → arguments_walked types arrays marks callee (j + 1) i.best (arguments_at (n - (j + 1)) l image i.next) ≡ X
    unfolding arguments_walked operand_walked argument_faults
    arguments_more t h want i g q = let (e, m, es, o, r, s, v) = first_argument (n - j) l image at t (omega arith) in go e m es o r s v
      where
        go : (e : Expression) (m : ℕ) (es : List Expression) (o : ℕ) → read_expression l image at ≡ got e m
            → arguments_at (n - j - 1) l image m ≡ got es o → arguments_at (n - j) l image at ≡ got (e ∷ es) o
            → arguments_walked types arrays marks callee (j + 1) i.best (arguments_at (n - (j + 1)) l image i.next) ≡ X
        go e m es o r s v =
            let z : n - (j + 1) ≡ n - j - 1 = omega arith in
            rw (z, q, r, s, g) (ap (walk o) (simp least_append) ∙ sym (ap (λ k. arguments_walked types arrays marks callee j best k) v) ∙ d)

  pub arguments_again : ok (arguments_at (n - j) l image at) ≡ true → j < n → (want : ℕ) (i : Found)
      → i ≡ operand_walked types arrays marks want best (read_expression l image at) → ok (arguments_at (n - (j + 1)) l image i.next) ≡ true
  arguments_again t h want i q = arguments_left l image n at j t h i.next (operand_next types arrays marks best want _ i q)

-- the statements
module _ (ps : List Procedure) (types : List ℕ) (arrays : ℕ) (marks : List ℕ) (scope : Scope) (best : Fault) (l : ℕ) (params : List ℕ) (me : ℕ)
    (image : List ℕ) (at : ℕ) (t : ok (read_statement l params me image at) ≡ true) where
  abbrev Returned : Walked → Type 0
  Returned w = w ≡ statement_walked ps types arrays marks scope at best (read_statement l params me image at)

  pub assign_returns : (x : ℕ) (m : Fault) (want : ℕ) (i : Found) → op_of (get_or image at 0) ≡ 0 → x ≡ target_of (get_or image at 0)
      → m ≡ target_noted types marks x at best → want ≡ sort_of types x
      → i ≡ operand_walked types arrays marks want m (read_expression (l - 1) image (at + 1)) → Returned (walk i.next i.best)
  unfolding statement_walked operand_walked statement_sort_faults
  assign_returns x m want i k hx h g q = let (e, n, r, z) = open_assign l params me image at t k in go e n r z
    where
      go : (e : Expression) (n : ℕ) → read_expression (l - 1) image (at + 1) ≡ got e n
          → read_statement l params me image at ≡ got (assign (target_of (get_or image at 0)) e) n → Returned (walk i.next i.best)
      go e n r z = rw (z, q, r, h, g, hx) (simp least_append)

  pub return_returns : (want : ℕ) (i : Found) → op_of (get_or image at 0) ≡ 4 → want ≡ type_sort scope.result
      → i ≡ operand_walked types arrays marks want best (read_expression (l - 1) image (at + 1)) → Returned (walk i.next i.best)
  unfolding statement_walked operand_walked statement_sort_faults
  return_returns want i k h q = let (e, n, r, z) = open_return l params me image at t k in go e n r z
    where
      go : (e : Expression) (n : ℕ) → read_expression (l - 1) image (at + 1) ≡ got e n → read_statement l params me image at ≡ got (return e) n
          → Returned (walk i.next i.best)
      go e n r z = rw (z, q, r, h)

  pub store_returns : (c a : ℕ) (m : Fault) (i j : Found) → op_of (get_or image at 0) ≡ 1 → c ≡ arrays → a ≡ target_of (get_or image at 0)
      → m ≡ least best (fault_if (leb c a) 6 at)
      → i ≡ operand_walked types arrays marks 0 m (read_expression (l - 1) image (at + 1))
      → j ≡ operand_walked types arrays marks 0 i.best (read_expression (l - 1) image i.next) → Returned (walk j.next j.best)
  unfolding statement_walked operand_walked statement_sort_faults
  store_returns c a m i j k hc ha h q p = let (e, n, f, o, r, s, z) = open_store l params me image at t k in go e n f o r s z
    where
      go : (e : Expression) (n : ℕ) (f : Expression) (o : ℕ) → read_expression (l - 1) image (at + 1) ≡ got e n
          → read_expression (l - 1) image n ≡ got f o → read_statement l params me image at ≡ got (store (target_of (get_or image at 0)) e f) o
          → Returned (walk j.next j.best)
      go e n f o r s z = rw (z, p, q, r, s, h, hc, ha) (simp least_append)

  pub call_returns : (f x given want have : ℕ) (m b : Fault) (w : Walked) → op_of (get_or image at 0) ≡ 5
      → f ≡ called_of (get_or image at 0) → x ≡ result_of (get_or image at 0)
      → m ≡ target_noted types marks x at best → given ≡ (procedure_at ps f).result → want ≡ type_sort given → have ≡ sort_of types x
      → b ≡ least m (wrong_sort want have at)
      → w ≡ arguments_walked types arrays marks (procedure_at ps f).types 0 b (arguments_at (get_or params f 0) (l - 1) image (at + 1)) → Returned w
  unfolding statement_walked arguments_walked arguments_at statement_sort_faults
  call_returns f x given want have m b w k hf hx h g v d j q = let (es, n, u, r, z) = open_call l params me image at t k in go es n r z
    where
      go : (es : List Expression) (n : ℕ)
          → read_arguments (get_or params (called_of (get_or image at 0)) 0) (λ a. read_expression (l - 1) image a) (at + 1) ≡ got es n
          → read_statement l params me image at ≡ got (call (called_of (get_or image at 0)) (result_of (get_or image at 0)) es) n → Returned w
      go es n r z = rw (z, q, hf, r, j, h, v, g, d, hf, hx) (simp least_append)
