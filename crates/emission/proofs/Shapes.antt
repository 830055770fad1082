-- The compiled forms of ifs, fors and blocks, one sequence at a time: their words and counts from those of their parts. Assumes nothing.
use Prim.Native.Nat.{ℕ, ◌+◌}
use mathlib.Core.Bool.{true, false, ◌||◌}
use mathlib.Core.List.{List, ◌∷◌, ◌++◌, append_assoc, append-nil}
use mathlib.Core.Path.{◌≡◌, refl, sym, ap, ◌∙◌}
use native.Mathlib.Omega.{arith}
use Rattle.definitions.specs.Image.{Expression, variable, unary, Statement, assign, conditional, loop, Block, sequence}
use Rattle.definitions.specs.Image.{Procedure}
use Rattle.definitions.specs.Labels.{secret_in, rc_after, rc_after_block}
use Rattle.definitions.specs.Encoding.{statement_word_with, expression_words, statement_count, statement_words}
use Rattle.definitions.specs.Encoding.{statements_words, block_words}
use Rattle.definitions.specs.Compiling.{renamed, moved, under, one, followed_by, ArmCode}
use Rattle.definitions.specs.Compiling.{compiled_if, compiled_statement, compiled_block}
use Rattle.masking.specs.Forms.{act_of, secret_context, condition_words}
use Rattle.masking.specs.declared.Act.{Act}
use Rattle.emission.specs.Emitted.{temporary_at, statement_code, block_code}
use Rattle.laws.specs.Following.{followed_count, followed_words}
use Rattle.emission.specs.declared.Scope.{Scope}
use Rattle.emission.specs.declared.Cursor.{Cursor}

module _ (x : Act) (k : ℕ) (c : Expression) (a b : ArmCode) where
  pub secret_count : statement_count (compiled_if true x.pc x.arm x.rc x.live k c a b)
      ≡ 2 + (statement_count (a true k (k + 2)) + statement_count (b true (k + 1) (k + 2)))
  unfolding compiled_if statement_count
  secret_count =
      ap (λ z. 1 + (1 + z)) (followed_count (a true k (k + 2)) (b true (k + 1) (k + 2))) ∙ omega arith

  pub secret_words : statements_words (compiled_if true x.pc x.arm x.rc x.live k c a b)
      ≡ (condition_words k x c ++ statements_words (a true k (k + 2))) ++ statements_words (b true (k + 1) (k + 2))
  unfolding compiled_if statement_words
  secret_words =
      let t = statement_words (assign k (under (secret_context x) (act_of x) c)) in
      let e = statement_words (assign (k + 1) (under (secret_context x) (act_of x) (unary 0 0 (variable 0 k)))) in
      let y = statements_words (a true k (k + 2)) in
      let z = statements_words (b true (k + 1) (k + 2)) in
      ap (λ (w : List ℕ). t ++ (e ++ w)) (followed_words (a true k (k + 2)) (b true (k + 1) (k + 2)))
      ∙ sym (append_assoc (t ++ e) y z ∙ append_assoc t e (y ++ z))

  pub public_count : statement_count (compiled_if false x.pc x.arm x.rc x.live k c a b) ≡ 1
  unfolding compiled_if statement_count
  public_count = refl

  pub public_words : statements_words (compiled_if false x.pc x.arm x.rc x.live k c a b)
      ≡ ((statement_word_with 2 0 ∷ expression_words c) ++ block_words (a x.pc x.arm k)) ++ block_words (b x.pc x.arm k)
  unfolding compiled_if statement_words block_words
  public_words =
      append-nil _
      ∙ sym (append_assoc (statement_word_with 2 0 ∷ expression_words c) (block_words (a x.pc x.arm k)) (block_words (b x.pc x.arm k)))

module _ (ps : List Procedure) (arrays types : List ℕ) (s : Scope) (c : Cursor) where
  -- what compiles an arm of an if
  abbrev pub arm_code : Block → ArmCode
  arm_code b q v n = compiled_block ps arrays types s.first s.rv (temporary_at s) b q v c.rc n

  pub if_step : (d : Expression) (a b : Block) → statement_code ps arrays types s c (conditional d a b)
      ≡ compiled_if (secret_in types arrays d) s.pc s.arm c.rc (s.rv + 1) s.pair (moved s.first d) (arm_code a) (arm_code b)
  unfolding compiled_statement
  if_step d a b = refl

  pub if_rc : (d : Expression) (a b : Block) → rc_after types arrays s.pc c.rc (conditional d a b)
      ≡ rc_after_block types arrays (s.pc || secret_in types arrays d) c.rc a || rc_after_block types arrays (s.pc || secret_in types arrays d) c.rc b
  unfolding rc_after
  if_rc d a b = refl

  pub for_step : (x : ℕ) (f t : Expression) (b : Block) → statement_code ps arrays types s c (loop x f t b)
      ≡ one (loop (renamed s.first x) (moved s.first f) (moved s.first t)
      (compiled_block ps arrays types s.first s.rv (temporary_at s) b s.pc s.arm (rc_after_block types arrays s.pc c.rc b) s.pair))
  unfolding compiled_statement
  for_step x f t b = refl

  pub for_rc : (x : ℕ) (f t : Expression) (b : Block) → rc_after types arrays s.pc c.rc (loop x f t b) ≡ rc_after_block types arrays s.pc c.rc b
  unfolding rc_after
  for_rc x f t b = refl

  pub block_step : (p : ℕ) (x : Statement) (b : Block) → block_code ps arrays types s c (sequence p x b)
      ≡ followed_by (statement_code ps arrays types s c x)
      (compiled_block ps arrays types s.first s.rv (temporary_at s) b s.pc s.arm (rc_after types arrays s.pc c.rc x) s.pair)
  unfolding compiled_statement
  block_step p x b = refl

  pub block_rc : (p : ℕ) (x : Statement) (b : Block) → rc_after_block types arrays s.pc c.rc (sequence p x b)
      ≡ rc_after_block types arrays s.pc (rc_after types arrays s.pc c.rc x) b
  unfolding rc_after
  block_rc p x b = refl

pub for_words : (y : ℕ) (f t : Expression) (b : Block)
    → statements_words (one (loop y f t b)) ≡ (statement_word_with 3 y ∷ (expression_words f ++ expression_words t)) ++ block_words b
unfolding statement_words block_words
for_words y f t b =
    append-nil _ ∙ ap (λ z. statement_word_with 3 y ∷ z) (sym (append_assoc (expression_words f) (expression_words t) (block_words b)))
