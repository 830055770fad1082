-- The reader reads the words of expressions, statements and blocks as those, up to places. Assumes nothing.
use Rattle.std.specs.Prelude.{ℕ, suc, ◌+◌, ◌*◌, ◌≤◌, ◌<◌, Bool, true, false, ◌≡◌, refl, ltb, length, get_or}
use mathlib.Core.List.{List, [], ◌∷◌, ◌++◌, flat_map}
use Rattle.std.proofs.Common.{sym, ◌∙◌, arith, le-leb, ltb-true, ltb-false}
use Rattle.definitions.specs.Choice.{pick}
use Rattle.definitions.specs.Image.{payload_of, block_word, statement_word, expression_word, raw_word, Expression, constant}
use Rattle.definitions.specs.Image.{boolean, variable, cell, unary, binary, select, Statement, assign, store}
use Rattle.definitions.specs.Image.{conditional, loop, return, call, Block}
use Rattle.definitions.specs.Reading.{got, Reader, expression_at, read_expression, read_arguments, read_statements}
use Rattle.definitions.specs.Reading.{statement_at, read_statement, read_block}
use Rattle.definitions.specs.Encoding.{word_with, constant_words, statement_word_with, expression_words, argument_words}
use Rattle.definitions.specs.Encoding.{statement_count, statement_words, statements_words}
use Rattle.laws.specs.Reads.{Arities}
use Rattle.statements.specs.Limits.{FitsExpression, fit_constant, fit_boolean, fit_variable, fit_cell, fit_unary, fit_binary}
use Rattle.statements.specs.Limits.{fit_select, FitsAll, fit_none, fit_more, FitsStatement, fit_assign, fit_store}
use Rattle.statements.specs.Limits.{fit_conditional, fit_loop, fit_return, fit_call, FitsBlock, fit_block, FitsStatements}
use Rattle.statements.specs.Limits.{fit_done, fit_sequence}
use Rattle.laws.specs.Spelled.{On, on_first, on_nothing, on_split, on_length}
use Rattle.readback.specs.Like.{LikeExpression, like_constant, like_boolean, like_variable, like_cell, like_unary}
use Rattle.readback.specs.Like.{like_binary, like_select, LikeAll, like_none, like_more, LikeStatement}
use Rattle.readback.specs.Like.{like_assign, like_store, like_conditional, like_loop, like_return, like_call}
use Rattle.readback.specs.Like.{LikeBlock, like_done, like_step}
use Rattle.readback.specs.Parses.{Reads, reads, reads_then, reads_word}
use Rattle.readback.specs.Spelling.{kind_of_lem, payload_of_lem, op_of_lem, target_of_lem, called_of_lem, result_of_lem, boolean_word}
use Rattle.readback.specs.Spelling.{unary_word, binary_word, constant_word, variable_word, cell_word, plain_word}
use Rattle.readback.specs.Spelling.{conditional_word, loop_word, return_word, call_word, block_word_lem, count_words}

-- Each kind of expression, where its operands are read back.
module _ (operand : Reader Expression) (image : List ℕ) (at v : ℕ) where
  small_constant_at : (c : ℕ) {p next : ℕ} → c < 268435456 → v ≡ word_with 7 c → at + 1 ≡ next → Reads (LikeExpression (constant p c)) next (expression_at operand image at v)
  small_constant_at c h e n = rw (e, kind_of_lem 7 c h, payload_of_lem 7 c h) (reads n like_constant)

  large_constant_at :
      (c : ℕ) {p next : ℕ} → 268435456 ≤ c → v ≡ word_with 8 0 → at + 1 < length image → get_or image (at + 1) 0 ≡ c → at + 1 + 1 ≡ next
      → Reads (LikeExpression (constant p c)) next (expression_at operand image at v)
  unfolding raw_word
  large_constant_at c {p} h e l w n =
      rw e (reads_word {P = LikeExpression (constant p c)} image (at + 1) c raw_word {f = λ u. got (constant at u) (at + 1 + 1)} l w (le-leb 268435456 c h)
      (λ u q. reads n (rw q like_constant)))

  boolean_at : (b : ℕ) {p next : ℕ} → b < 2 → v ≡ word_with 9 b → at + 1 ≡ next → Reads (LikeExpression (boolean p b)) next (expression_at operand image at v)
  boolean_at b h e n = rw (e, kind_of_lem 9 b (omega arith), payload_of_lem 9 b (omega arith)) (reads n like_boolean)

  variable_at : (x : ℕ) {p next : ℕ} → x < 268435456 → v ≡ word_with 10 x → at + 1 ≡ next → Reads (LikeExpression (variable p x)) next (expression_at operand image at v)
  variable_at x h e n = rw (e, kind_of_lem 10 x h, payload_of_lem 10 x h) (reads n like_variable)

  cell_at :
      (a : ℕ) {p next : ℕ} {i : Expression} → a < 268435456 → v ≡ word_with 11 a → Reads (LikeExpression i) next (operand (at + 1))
      → Reads (LikeExpression (cell p a i)) next (expression_at operand image at v)
  cell_at a h e r = rw (e, kind_of_lem 11 a h, payload_of_lem 11 a h) (reads_then r (λ j k q z. reads q (like_cell z)))

  unary_at :
      (o : ℕ) {p next : ℕ} {e : Expression} → o < 3 → v ≡ word_with 12 o → Reads (LikeExpression e) next (operand (at + 1))
      → Reads (LikeExpression (unary p o e)) next (expression_at operand image at v)
  unary_at o h e r = rw (e, kind_of_lem 12 o (omega arith), payload_of_lem 12 o (omega arith)) (reads_then r (λ j k q z. reads q (like_unary z)))

  binary_at :
      (o : ℕ) {p m next : ℕ} {e f : Expression} → o < 15 → v ≡ word_with 13 o → Reads (LikeExpression e) m (operand (at + 1)) → Reads (LikeExpression f) next (operand m)
      → Reads (LikeExpression (binary p o e f)) next (expression_at operand image at v)
  binary_at o h e r s =
      rw (e, kind_of_lem 13 o (omega arith), payload_of_lem 13 o (omega arith)) (reads_then r (λ j k q z. reads_then (rw (sym q) at s) (λ j' k' q' z'. reads q' (like_binary z z'))))

  select_at :
      {p m n next : ℕ} {c e f : Expression} → v ≡ word_with 14 0 → Reads (LikeExpression c) m (operand (at + 1)) → Reads (LikeExpression e) n (operand m)
      → Reads (LikeExpression f) next (operand n) → Reads (LikeExpression (select p c e f)) next (expression_at operand image at v)
  select_at e r s t =
      rw e (reads_then r (λ j k q z. reads_then (rw (sym q) at s) (λ j' k' q' z'. reads_then (rw (sym q') at t) (λ j'' k'' q'' z''. reads q'' (like_select z z' z'')))))

back_constant : (l p v : ℕ) (image : List ℕ) (at next : ℕ) → On image at (constant_words v) next → Reads (LikeExpression (constant p v)) next (read_expression (suc l) image at)
unfolding read_expression expression_word
back_constant l p v image at next = go (ltb v 268435456) refl
  where
    go :
        (b : Bool) → ltb v 268435456 ≡ b → On image at (pick b (word_with 7 v ∷ []) (word_with 8 0 ∷ v ∷ [])) next
        → Reads (LikeExpression (constant p v)) next (read_expression (suc l) image at)
    go true h o =
        let (a, e, n) = on_first o in
        let small = ltb-true v 268435456 h in
        reads_word image at (word_with 7 v) expression_word a e (constant_word v small) (λ u q. small_constant_at (λ z. read_expression l image z) image at u v small q (on_nothing n))
    go false h o =
        let (a, e, m) = on_first o in
        let (a', e', n) = on_first m in
        reads_word image at (word_with 8 0) expression_word a e refl (λ u q. large_constant_at (λ z. read_expression l image z) image at u v
        (ltb-false v 268435456 h) q a' e' (on_nothing n))

pub back_expression :
    {l : ℕ} {e : Expression} → FitsExpression l e → (image : List ℕ) (at next : ℕ) → On image at (expression_words e) next
    → Reads (LikeExpression e) next (read_expression l image at)
unfolding read_expression expression_words expression_word
back_expression (fit_constant {l} {p} {v}) image at next o = back_constant l p v image at next o
back_expression (fit_boolean {l} {v = v} h) image at next o =
    let (a, w, n) = on_first o in
    reads_word image at (word_with 9 v) expression_word a w (boolean_word v h) (λ u q. boolean_at (λ z. read_expression l image z) image at u v h q (on_nothing n))
back_expression (fit_variable {l} {x = x} h) image at next o =
    let (a, w, n) = on_first o in
    reads_word image at (word_with 10 x) expression_word a w (variable_word x h) (λ u q. variable_at (λ z. read_expression l image z) image at u x h q (on_nothing n))
back_expression (fit_cell {l} {a = x} h i) image at next o =
    let (a, w, n) = on_first o in
    let r = back_expression i image (at + 1) next n in
    reads_word image at (word_with 11 x) expression_word a w (cell_word x h) (λ u q. cell_at (λ z. read_expression l image z) image at u x h q r)
back_expression (fit_unary {l} {o = x} h i) image at next o =
    let (a, w, n) = on_first o in
    let r = back_expression i image (at + 1) next n in
    reads_word image at (word_with 12 x) expression_word a w (unary_word x h) (λ u q. unary_at (λ z. read_expression l image z) image at u x h q r)
back_expression (fit_binary {l} {o = x} {e} {f} h i j) image at next o =
    let (a, w, n) = on_first o in
    let (m, n₁, n₂) = on_split (expression_words e) (expression_words f) n in
    let r = back_expression i image (at + 1) m n₁ in
    let s = back_expression j image m next n₂ in
    reads_word image at (word_with 13 x) expression_word a w (binary_word x h) (λ u q. binary_at (λ z. read_expression l image z) image at u x h q r s)
back_expression (fit_select {l} {c = c} {e} {f} h i j) image at next o =
    let (a, w, n) = on_first o in
    let (m, n₁, n₂) = on_split (expression_words c) (expression_words e ++ expression_words f) n in
    let (k, n₃, n₄) = on_split (expression_words e) (expression_words f) n₂ in
    let r = back_expression h image (at + 1) m n₁ in
    let s = back_expression i image m k n₃ in
    let t = back_expression j image k next n₄ in
    reads_word image at (word_with 14 0) expression_word a w refl (λ u q. select_at (λ z. read_expression l image z) image at u q r s t)

pub back_arguments :
    {l : ℕ} {es : List Expression} → FitsAll l es → (image : List ℕ) (at next : ℕ) → On image at (argument_words es) next
    → Reads (LikeAll es) next (read_arguments (length es) (λ a. read_expression l image a) at)
unfolding read_arguments argument_words flat_map
back_arguments fit_none image at next o = reads (on_nothing o) like_none
back_arguments (fit_more {e} {es} f fs) image at next o =
    let (m, a, b) = on_split (expression_words e) (argument_words es) o in
    reads_then (back_expression f image at m a) (λ g k q z. reads_then (back_arguments fs image k next (rw q b)) (λ gs k' q' z'. reads q' (like_more z z')))

-- Each kind of statement, where its parts are read back.
module _ (operand : Reader Expression) (block : Reader Block) (params : List ℕ) (at v : ℕ) where
  assign_at :
      (x : ℕ) {next : ℕ} {e : Expression} → x < 65536 → v ≡ statement_word_with 0 x → Reads (LikeExpression e) next (operand (at + 1))
      → Reads (LikeStatement (assign x e)) next (statement_at operand block params at v)
  assign_at x h e r = rw (e, op_of_lem 0 x (omega arith) h, target_of_lem 0 x (omega arith) h) (reads_then r (λ j k q z. reads q (like_assign z)))

  store_at :
      (a : ℕ) {m next : ℕ} {i e : Expression} → a < 65536 → v ≡ statement_word_with 1 a → Reads (LikeExpression i) m (operand (at + 1))
      → Reads (LikeExpression e) next (operand m) → Reads (LikeStatement (store a i e)) next (statement_at operand block params at v)
  store_at a h e r s =
      rw (e, op_of_lem 1 a (omega arith) h, target_of_lem 1 a (omega arith) h) (reads_then r (λ j k q z. reads_then (rw (sym q) at s) (λ j' k' q' z'. reads q' (like_store z z'))))

  conditional_at :
      {m n next : ℕ} {c : Expression} {a b : Block} → v ≡ statement_word_with 2 0 → Reads (LikeExpression c) m (operand (at + 1)) → Reads (LikeBlock a) n (block m)
      → Reads (LikeBlock b) next (block n) → Reads (LikeStatement (conditional c a b)) next (statement_at operand block params at v)
  conditional_at e r s t =
      rw e (reads_then r (λ j k q z. reads_then (rw (sym q) at s) (λ j' k' q' z'. reads_then (rw (sym q') at t) (λ j'' k'' q'' z''. reads q'' (like_conditional z z' z'')))))

  loop_at :
      (x : ℕ) {m n next : ℕ} {f t : Expression} {b : Block} → x < 65536 → v ≡ statement_word_with 3 x → Reads (LikeExpression f) m (operand (at + 1)) → Reads
      (LikeExpression t) n (operand m)
      → Reads (LikeBlock b) next (block n) → Reads (LikeStatement (loop x f t b)) next (statement_at operand block params at v)
  loop_at x h e r s t =
      rw (e, op_of_lem 3 x (omega arith) h, target_of_lem 3 x (omega arith) h)
      (reads_then r (λ j k q z. reads_then (rw (sym q) at s) (λ j' k' q' z'. reads_then (rw (sym q') at t) (λ j'' k'' q'' z''. reads q'' (like_loop z z' z'')))))

  return_at :
      {next : ℕ} {e : Expression} → v ≡ statement_word_with 4 0 → Reads (LikeExpression e) next (operand (at + 1))
      → Reads (LikeStatement (return e)) next (statement_at operand block params at v)
  return_at e r = rw e (reads_then r (λ j k q z. reads q (like_return z)))

  call_at :
      (f x : ℕ) {next : ℕ} {es : List Expression} → f < 256 → x < 256 → v ≡ statement_word_with 5 (f * 256 + x)
      → Reads (LikeAll es) next (read_arguments (get_or params f 0) operand (at + 1)) → Reads (LikeStatement (call f x es)) next (statement_at operand block params at v)
  call_at f x h g e r =
      rw (e, op_of_lem 5 (f * 256 + x) (omega arith) (omega arith), called_of_lem f x h g, result_of_lem f x h g) (reads_then r (λ j k q z. reads q (like_call z)))

-- Statements and blocks of the procedure numbered `me`, in an image whose length a count can hold.
module _ (image : List ℕ) (small : length image < 268435456) (params : List ℕ) (me : ℕ) (few : me < 256) (arity : ℕ → ℕ) (known : Arities params me arity) where
  mutual
    unfolding read_statement read_block read_statements statement_words statements_words statement_count

    pub back_statement :
        {l : ℕ} {s : Statement} → FitsStatement arity me l s → (at next : ℕ) → On image at (statement_words s) next
        → Reads (LikeStatement s) next (read_statement l params me image at)
    back_statement (fit_assign {l} {x} h e) at next o =
        let (a, w, n) = on_first o in
        let r = back_expression e image (at + 1) next n in
        reads_word image at (statement_word_with 0 x) (λ z. statement_word me z) a w (plain_word me 0 x (omega arith) h)
        (λ u q. assign_at (λ z. read_expression l image z) (λ z. read_block l params me image z) params at u x h q r)
    back_statement (fit_store {l} {a = y} {i} {e} h f g) at next o =
        let (a, w, n) = on_first o in
        let (m, n₁, n₂) = on_split (expression_words i) (expression_words e) n in
        let r = back_expression f image (at + 1) m n₁ in
        let s = back_expression g image m next n₂ in
        reads_word image at (statement_word_with 1 y) (λ z. statement_word me z) a w (plain_word me 1 y (omega arith) h)
        (λ u q. store_at (λ z. read_expression l image z) (λ z. read_block l params me image z) params at u y h q r s)
    back_statement (fit_conditional {l} {c} {a = x} {b = y} f g h) at next o =
        let (a, w, n) = on_first o in
        let (m, n₁, n₂) = on_split (expression_words c) ((word_with 5 (statement_count x) ∷ statements_words x) ++ (word_with 5 (statement_count y) ∷ statements_words y)) n in
        let (k, n₃, n₄) = on_split (word_with 5 (statement_count x) ∷ statements_words x) (word_with 5 (statement_count y) ∷ statements_words y) n₂ in
        let r = back_expression f image (at + 1) m n₁ in
        let s = back_block g m k n₃ in
        let t = back_block h k next n₄ in
        reads_word image at (statement_word_with 2 0) (λ z. statement_word me z) a w (conditional_word me)
        (λ u q. conditional_at (λ z. read_expression l image z) (λ z. read_block l params me image z) params at u q r s t)
    back_statement (fit_loop {l} {x} {f} {t} {b} h i j k) at next o =
        let (a, w, n) = on_first o in
        let (m, n₁, n₂) = on_split (expression_words f) (expression_words t ++ (word_with 5 (statement_count b) ∷ statements_words b)) n in
        let (m', n₃, n₄) = on_split (expression_words t) (word_with 5 (statement_count b) ∷ statements_words b) n₂ in
        let r = back_expression i image (at + 1) m n₁ in
        let s = back_expression j image m m' n₃ in
        let t = back_block k m' next n₄ in
        reads_word image at (statement_word_with 3 x) (λ z. statement_word me z) a w (loop_word me x h)
        (λ u q. loop_at (λ z. read_expression l image z) (λ z. read_block l params me image z) params at u x h q r s t)
    back_statement (fit_return {l} e) at next o =
        let (a, w, n) = on_first o in
        let r = back_expression e image (at + 1) next n in
        reads_word image at (statement_word_with 4 0) (λ z. statement_word me z) a w (return_word me)
        (λ u q. return_at (λ z. read_expression l image z) (λ z. read_block l params me image z) params at u q r)
    back_statement (fit_call {l} {f} {x} {es} low g count fs) at next o =
        let h : f < 256 = omega arith in
        let (a, w, n) = on_first o in
        let r = back_arguments fs image (at + 1) next n in
        let same : length es ≡ get_or params f 0 = count ∙ sym (known f low) in
        reads_word image at (statement_word_with 5 (f * 256 + x)) (λ z. statement_word me z) a w (call_word me f x low h g)
        (λ u q. call_at (λ z. read_expression l image z) (λ z. read_block l params me image z) params at u f x h g q (rw same at r))

    pub back_block :
        {l : ℕ} {b : Block} → FitsBlock arity me l b → (at next : ℕ) → On image at (word_with 5 (statement_count b) ∷ statements_words b) next
        → Reads (LikeBlock b) next (read_block l params me image at)
    back_block (fit_block {l} {b} f) at next o =
        let (a, w, n) = on_first o in
        let r = back_statements f (at + 1) next n in
        let few = count_words b in
        let long = on_length n (omega arith) in
        let c : statement_count b < 268435456 = omega arith in
        reads_word image at (word_with 5 (statement_count b)) block_word {f = λ z. read_statements (payload_of z) (λ y. read_statement l params me image y) (at + 1)} a w
        (block_word_lem (statement_count b) c)
        (λ u q. rw (q, payload_of_lem 5 (statement_count b) c) r)

    pub back_statements :
        {l : ℕ} {b : Block} → FitsStatements arity me l b → (at next : ℕ) → On image at (statements_words b) next
        → Reads (LikeBlock b) next (read_statements (statement_count b) (λ a. read_statement l params me image a) at)
    back_statements fit_done at next o = reads (on_nothing o) like_done
    back_statements (fit_sequence {l} {s = s} {b} f g) at next o =
        let (m, n₁, n₂) = on_split (statement_words s) (statements_words b) o in
        let r = back_statement f at m n₁ in
        let t = back_statements g m next n₂ in
        let one : 1 + statement_count b ≡ suc (statement_count b) = omega arith in
        rw one (reads_then r (λ u k q z. reads_then (rw (sym q) at t) (λ c k' q' z'. reads q' (like_step z z'))))
