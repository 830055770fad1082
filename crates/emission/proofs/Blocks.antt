-- The rules of the loop over the statements of a block. Assumes nothing.
use Prim.Native.Nat.{ℕ, ◌+◌, ◌-◌, ◌≤◌, ◌<◌}
use mathlib.Core.Bool.{true}
use mathlib.Core.List.{List}
use mathlib.Core.Path.{◌≡◌, refl, sym, ap, ◌∙◌}
use native.Mathlib.Nat.{add-zero}
use native.Mathlib.Omega.{arith}
use lib.ListN.{get_or}
use Rattle.definitions.specs.Image.{payload_of, Statement, Block, done, sequence, Procedure}
use Rattle.definitions.specs.Reading.{Parse, got, refused, read_statement, read_block}
use Rattle.definitions.specs.Labels.{rc_after}
use Rattle.definitions.specs.Encoding.{statement_count, statement_words, statements_words}
use Rattle.definitions.specs.Compiling.{compiled_statement, compiled_block}
use Rattle.laws.specs.Parses.{ok, end_of}
use Rattle.image_words.specs.Read.{statements_at}
use Rattle.image_words.specs.StatementParts.{no_statement, first_statement, read_statements_lem, block_statements}
use Rattle.writer.specs.Writing.{writes}
use Rattle.writer.specs.Laws.{writes_nil, writes_app}
use Rattle.emission.specs.Emitted.{Emission, outcome, temporary_at, statement_code, emitted, emitted_block}
use Rattle.laws.specs.Following.{followed_count, followed_words}
use Rattle.emission.specs.declared.Scope.{Scope}
use Rattle.emission.specs.declared.Cursor.{Cursor}
use Rattle.emission.proofs.Outcomes.{outcome_eq}
use Rattle.emission.proofs.Shapes.{block_step, block_rc}

module _ (ps : List Procedure) (arrays types : List ℕ) (s : Scope) (c : Cursor) (o : ℕ) (out : List ℕ) where
  statement_end : (x : Parse Statement) (d : Cursor) (v : ℕ) (t : List ℕ) → ◌≡◌ {A = Emission} (d, (v, t)) (emitted ps arrays types s c o out x) → d.at ≡ end_of x
  unfolding emitted end_of
  statement_end (got a m) d v t e = ap (λ (z : Emission). z.0.at) e
  statement_end (refused m p) d v t e = ap (λ (z : Emission). z.0.at) e

  -- no statement is left
  none_left : (m : ℕ) → emitted_block ps arrays types s c o out (got done m) ≡ outcome m c.n c.rc (o, out)
  unfolding emitted_block compiled_statement rc_after statement_count statement_words
  none_left m = outcome_eq m (c.n + 0) c.n c.rc _ _ (add-zero c.n) (writes_nil o out)

  -- a statement, then the others
  then_left : (p : ℕ) (x : Statement) (b : Block) (m i : ℕ)
      → emitted_block ps arrays types s (emitted ps arrays types s c o out (got x i)).0 (emitted ps arrays types s c o out (got x i)).1.0 (emitted ps arrays types s c o out (got x i)).1.1 (got b m)
      ≡ emitted_block ps arrays types s c o out (got (sequence p x b) m)
  unfolding emitted emitted_block
  then_left p x b m i =
      let X = statement_code ps arrays types s c x in
      let R = rc_after types arrays s.pc c.rc x in
      let B = compiled_block ps arrays types s.first s.rv (temporary_at s) b s.pc s.arm R s.pair in
      rw (block_step ps arrays types s c p x b, block_rc ps arrays types s c p x b)
      (outcome_eq m _ _ _ _ _
      (let z = followed_count X B in omega arith)
      (sym (ap (λ ws. writes o out ws) (followed_words X B) ∙ writes_app (statements_words X) _ o out)))

  -- the place where a walk begins is told by what is read there
  pub place_apart : (at : ℕ) (x : Parse Block) → emitted_block ps arrays types s (record { at = at; n = c.n; rc = c.rc }) o out x
      ≡ emitted_block ps arrays types s c o out x
  unfolding emitted_block
  place_apart at (got b m) = refl
  place_apart at (refused m p) = refl

module _ (ps : List Procedure) (arrays types : List ℕ) (s : Scope) (l : ℕ) (params : List ℕ) (me : ℕ) (image : List ℕ) where
  pub block_begin : (c : Cursor) (o : ℕ) (out : List ℕ) (at n : ℕ) → ok (read_block l params me image at) ≡ true → n ≡ payload_of (get_or image at 0)
      → emitted_block ps arrays types s c o out (statements_at (n - 0) (l - 1) params me image (at + 1))
      ≡ emitted_block ps arrays types s c o out (read_block l params me image at)
  block_begin c o out at n t h =
      let e : n - 0 ≡ payload_of (get_or image at 0) = omega arith in rw (e, (block_statements l params me image at t).1)

  module _ (count j : ℕ) (c : Cursor) (o : ℕ) (out : List ℕ) where
    module _ (X : Emission) (u : emitted_block ps arrays types s c o out (statements_at (count - j) l params me image c.at) ≡ X) where
      pub block_done : count ≤ j → ◌≡◌ {A = Emission} (c, (o, out)) X
      block_done h =
          let z : count - j ≡ 0 = omega arith in
          sym (ap (λ y. emitted_block ps arrays types s c o out y)
          (ap (λ i. statements_at i l params me image c.at) z ∙ no_statement l params me image c.at)
          ∙ none_left ps arrays types s c o out c.at) ∙ u

      pub block_more : (d : Cursor) (v : ℕ) (t1 : List ℕ) → ok (statements_at (count - j) l params me image c.at) ≡ true → j < count
          → ◌≡◌ {A = Emission} (d, (v, t1)) (emitted ps arrays types s c o out (read_statement l params me image c.at))
          → emitted_block ps arrays types s d v t1 (statements_at (count - (j + 1)) l params me image d.at) ≡ X
      unfolding emitted
      block_more d v t1 t h e =
          let (x, m, b, p, q, r, w) = first_statement (count - j) l params me image c.at t (omega arith) in
          let z : count - (j + 1) ≡ count - j - 1 = omega arith in
          let E : ◌≡◌ {A = Emission} (d, (v, t1)) (emitted ps arrays types s c o out (got x m)) = e ∙ ap (λ y. emitted ps arrays types s c o out y) q in
          ap (λ (y : Emission). emitted_block ps arrays types s y.0 y.1.0 y.1.1 (statements_at (count - (j + 1)) l params me image y.0.at)) E
          ∙ ap (λ y. emitted_block ps arrays types s (emitted ps arrays types s c o out (got x m)).0 (emitted ps arrays types s c o out (got x m)).1.0 (emitted ps arrays types s c o out (got x m)).1.1 y)
          (ap (λ i. statements_at i l params me image m) z ∙ r)
          ∙ then_left ps arrays types s c o out c.at x b p m
          ∙ sym (ap (λ y. emitted_block ps arrays types s c o out y) w) ∙ u

    pub block_again : (d : Cursor) (v : ℕ) (t1 : List ℕ) → ok (statements_at (count - j) l params me image c.at) ≡ true → j < count
        → ◌≡◌ {A = Emission} (d, (v, t1)) (emitted ps arrays types s c o out (read_statement l params me image c.at))
        → ok (statements_at (count - (j + 1)) l params me image d.at) ≡ true
    block_again d v t1 t h e =
        let z : count - (j + 1) ≡ count - j - 1 = omega arith in
        rw z (read_statements_lem (count - j) l params me image c.at d.at t (omega arith) (statement_end ps arrays types s c o out _ d v t1 e))
