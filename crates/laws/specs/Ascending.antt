-- Each statement of an image that was read stands behind those before it. Assumes nothing.
use Prim.Native.Nat.{ℕ, zero, suc, ◌+◌, ◌≤◌, ◌<◌}
use Rattle.std.specs.Prelude.{Bool, true, false, List, ◌≡◌, refl, leb, length, get_or}
use native.Mathlib.Omega.{arith}
use Rattle.std.proofs.Common.{leb-true, leb-false}
use Rattle.std.proofs.Math.ListN.{get_or-eq_default}
use Rattle.definitions.specs.Image.{payload_of, block_word, called_of, statement_word, Expression, Statement, assign, store}
use Rattle.definitions.specs.Image.{conditional, loop, return, call, Block, done, sequence, Image, procedure_at, no_procedure, largest_level}
use Rattle.definitions.specs.Reading.{Parse, Reader, got, refused, read_expression, statement_at, read_statements, read_statement, read_block, read_image}
use Rattle.laws.specs.WordTests.{ops}
use Rattle.laws.specs.Spelled.{on_end}
use Rattle.laws.specs.Reads.{Reads, reads, refuses, too_deep, read_as, reads_then, reads_word, reads_expression, reads_arguments}
use Rattle.laws.specs.ReadImages.{open_image, arities, arities_known}

mutual
  -- what is in a statement stands behind its place, and before the next one's
  pub data StatementAscends : ℕ → ℕ → Statement → Type 0 where
    ascends_assign : {at next x : ℕ} {e : Expression} → StatementAscends at next (assign x e)
    ascends_store : {at next a : ℕ} {i e : Expression} → StatementAscends at next (store a i e)
    ascends_conditional :
        {at first second next : ℕ} {c : Expression} {a b : Block} → at < first → first < second → second < next → BlockAscends first second a
        → BlockAscends second next b → StatementAscends at next (conditional c a b)
    ascends_loop : {at first next x : ℕ} {f t : Expression} {b : Block} → at < first → BlockAscends first next b → StatementAscends at next (loop x f t b)
    ascends_return : {at next : ℕ} {e : Expression} → StatementAscends at next (return e)
    ascends_call : {at next f x : ℕ} {es : List Expression} → StatementAscends at next (call f x es)

  -- the statements of a block stand from one place on, and before another
  pub data BlockAscends : ℕ → ℕ → Block → Type 0 where
    ascends_done : {at next : ℕ} → BlockAscends at next done
    ascends_sequence :
        {at p mid next : ℕ} {s : Statement} {b : Block} → at ≤ p → p < mid → StatementAscends p mid s → mid ≤ next → BlockAscends mid next b
        → BlockAscends at next (sequence p s b)

-- a block that stands from a place on stands from any before it on
from_before : {at first next : ℕ} {b : Block} → at ≤ first → BlockAscends first next b → BlockAscends at next b
from_before h ascends_done = ascends_done
from_before {at} h (ascends_sequence {p} a k s m b) = let l : at ≤ p = omega arith in ascends_sequence l k s m b

module _ (params : List ℕ) (me : ℕ) (image : List ℕ) where
  -- a statement, the statements of a block, or a block that was read from one place up to another
  abbrev StatementFrom : ℕ → Statement → ℕ → Type 0
  StatementFrom at s next = (at < next) × StatementAscends at next s

  abbrev StatementsFrom : ℕ → Block → ℕ → Type 0
  StatementsFrom at b next = (at ≤ next) × BlockAscends at next b

  abbrev BlockFrom : ℕ → Block → ℕ → Type 0
  BlockFrom at b next = (at < next) × BlockAscends at next b

  op_ascends : (l at : ℕ) (block : Reader Block) → ((a : ℕ) → Reads (length image) (BlockFrom a) (block a))
      → statement_word me (get_or image at 0) ≡ true
      → Reads (length image) (StatementFrom at) (statement_at (λ a. read_expression l image a) block params at (get_or image at 0))
  op_ascends l at block r g =
      ops me (get_or image at 0) g
      (λ o. rw o (reads_then (reads_expression image l (at + 1)) (λ e n x. let h = on_end x.words in reads (omega arith, ascends_assign))))
      (λ o. rw o (reads_then (reads_expression image l (at + 1)) (λ i n x. reads_then (reads_expression image l n)
      (λ e m y. let h = on_end x.words in let k = on_end y.words in reads (omega arith, ascends_store)))))
      (λ o. rw o (reads_then (reads_expression image l (at + 1)) (λ c n x. reads_then (r n) (λ a m y. reads_then (r m)
      (λ b i z. let h = on_end x.words in let (k, u) = y in let (j, v) = z in
      reads (omega arith, ascends_conditional (omega arith) k j u v))))))
      (λ o. rw o (reads_then (reads_expression image l (at + 1)) (λ f n x. reads_then (reads_expression image l n) (λ t m y. reads_then (r m)
      (λ b i z. let h = on_end x.words in let k = on_end y.words in let (j, v) = z in
      reads (omega arith, ascends_loop (omega arith) v))))))
      (λ o. rw o (reads_then (reads_expression image l (at + 1)) (λ e n x. let h = on_end x.words in reads (omega arith, ascends_return))))
      (λ o. rw o (reads_then (reads_arguments image l (get_or params (called_of (get_or image at 0)) 0) (at + 1))
      (λ es n x. let h = on_end x.words in reads (omega arith, ascends_call))))

  statements_ascend : (n : ℕ) (statement : Reader Statement) → ((a : ℕ) → Reads (length image) (StatementFrom a) (statement a)) → (at : ℕ)
      → Reads (length image) (StatementsFrom at) (read_statements n statement at)
  unfolding read_statements
  statements_ascend zero statement r at = let here : at ≤ at = omega arith in reads (here, ascends_done)
  statements_ascend (suc n) statement r at =
      reads_then (r at) (λ s m x. reads_then (statements_ascend n statement r m)
      (λ b o y. let (h, u) = x in let (k, v) = y in
      let here : at ≤ at = omega arith in let more : at ≤ o = omega arith in reads (more, ascends_sequence here h u k v)))

  mutual
    unfolding read_statement read_block

    statement_ascends : (l at : ℕ) → Reads (length image) (StatementFrom at) (read_statement l params me image at)
    statement_ascends zero at = reads_word image at (λ w. statement_word me w) (λ w. refused 5 at) (λ h g. refuses (too_deep h))
    statement_ascends (suc l) at =
        reads_word image at (λ w. statement_word me w)
        (λ w. statement_at (λ a. read_expression l image a) (λ a. read_block l params me image a) params at w)
        (λ h g. op_ascends l at (λ a. read_block l params me image a) (λ a. block_ascends l a) g)

    block_ascends : (l at : ℕ) → Reads (length image) (BlockFrom at) (read_block l params me image at)
    block_ascends zero at = reads_word image at block_word (λ w. refused 5 at) (λ h g. refuses (too_deep h))
    block_ascends (suc l) at =
        reads_word image at block_word (λ w. read_statements (payload_of w) (λ a. read_statement l params me image a) (at + 1))
        (λ h g. behind (statements_ascend (payload_of (get_or image at 0)) (λ a. read_statement l params me image a) (λ a. statement_ascends l a) (at + 1)))
      where
        behind : {x : Parse Block} → Reads (length image) (StatementsFrom (at + 1)) x → Reads (length image) (BlockFrom at) x
        behind (reads {m} x) = let (k, v) = x in let more : at < m = omega arith in let here : at ≤ at + 1 = omega arith in reads (more, from_before here v)
        behind (refuses k) = refuses k

-- so do those of each body
pub bodies_ascend : (whole : Bool) (words : List ℕ) (tree : Image) (n : ℕ) → read_image whole words ≡ got tree n → (f : ℕ)
    → (at : ℕ) × (next : ℕ) × BlockAscends at next (procedure_at tree.procedures f).body
bodies_ascend whole words tree n e f = go (leb (length tree.procedures) f) refl
  where
    go : (b : Bool) → leb (length tree.procedures) f ≡ b → (at : ℕ) × (next : ℕ) × BlockAscends at next (procedure_at tree.procedures f).body
    go true h = (0, 0, rw (get_or-eq_default tree.procedures no_procedure (leb-true _ _ h)) ascends_done)
    go false h =
        let (m, p) = (open_image whole words tree n e).each (arities tree.procedures) (arities_known tree.procedures) f (leb-false _ _ h) in
        let q = procedure_at tree.procedures f in
        let at = q.place + 1 + 1 + length q.types in
        let (l, v) = read_as (rw p.body at (block_ascends (arities tree.procedures) f words (largest_level tree.form) at)) in
        (at, m, v)
