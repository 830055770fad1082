-- The level only limits: what is read at a level is read the same at every higher one. So the end of a part does not depend on the level.
-- The numbers of parameters count only below the procedure whose body is read. Assumes nothing.
use Rattle.std.specs.Prelude.{◌≡◌, refl, Bool, true, false, List, leb, length, get_or}
use Rattle.std.proofs.Common.{ap, arith}
use Prim.Native.Nat.{ℕ, zero, suc, ◌+◌, ◌≤◌, ◌<◌}
use Rattle.definitions.specs.Choice.{pick}
use Rattle.definitions.specs.Image.{payload_of, block_word, called_of, result_of, statement_word, expression_word, Expression}
use Rattle.definitions.specs.Image.{Statement, Block, raw_word, constant}
use Rattle.definitions.specs.Reading.{Parse, got, refused, Reader, and_then, on_word, expression_at, statement_at}
use Rattle.definitions.specs.Reading.{read_expression, read_arguments, read_statement, read_statements, read_block}
use Rattle.laws.specs.Tests.{false_true}
use Rattle.laws.specs.Parses.{got_same, ok}
use Rattle.laws.specs.WordTests.{call_limit, kinds, ops}

-- what the first reads, the second reads
pub data Grow {A : Type 0} : Parse A → Parse A → Type 0 where
  same : {a : A} {n : ℕ} → Grow (got a n) (got a n)
  less : {n p : ℕ} {y : Parse A} → Grow (refused n p) y

got_not_refused : {A C : Type 0} {a : A} {n m p : ℕ} → refused m p ≡ got a n → C
unfolding ok
got_not_refused e = false_true (ap ok e)

pub grow_got : {A : Type 0} {x y : Parse A} {a : A} {n : ℕ} → Grow x y → x ≡ got a n → y ≡ got a n
grow_got same e = e
grow_got less e = got_not_refused e

pub grow_refl : {A : Type 0} (x : Parse A) → Grow x x
grow_refl (got a n) = same
grow_refl (refused n p) = less

pub grow_then : {A B : Type 0} {x y : Parse A} {f g : A → ℕ → Parse B} → Grow x y → ((a : A) (n : ℕ) → Grow (f a n) (g a n))
    → Grow (and_then x f) (and_then y g)
grow_then (same {a} {n}) k = k a n
grow_then less k = less

pub grow_word : {A : Type 0} (image : List ℕ) (at : ℕ) (good : ℕ → Bool) (f g : ℕ → Parse A)
    → (good (get_or image at 0) ≡ true → Grow (f (get_or image at 0)) (g (get_or image at 0))) → Grow (on_word image at good f) (on_word image at good g)
grow_word image at good f g k = ends (leb (length image) at) (good (get_or image at 0)) refl
  where
    ends : (b t : Bool) → good (get_or image at 0) ≡ t
        → Grow (pick b (refused 3 (length image)) (pick t (f (get_or image at 0)) (refused 2 at)))
        (pick b (refused 3 (length image)) (pick t (g (get_or image at 0)) (refused 2 at)))
    ends true t e = less
    ends false true e = k e
    ends false false e = less

-- a reader that reads what another one reads
abbrev pub GrowAll : {A : Type 0} → Reader A → Reader A → Type 0
GrowAll f g = (a : ℕ) → Grow (f a) (g a)

module _ (image : List ℕ) where
  grow_kind : (operand operand' : Reader Expression) (at w : ℕ) → expression_word w ≡ true → GrowAll operand operand'
      → Grow (expression_at operand image at w) (expression_at operand' image at w)
  grow_kind operand operand' at w g k =
      kinds w g
      (λ e. rw e same)
      (λ e. rw e (grow_refl (on_word image (at + 1) raw_word (λ v. got (constant at v) (at + 1 + 1)))))
      (λ e. rw e same)
      (λ e. rw e same)
      (λ e. rw e (grow_then (k (at + 1)) (λ i n. same)))
      (λ e. rw e (grow_then (k (at + 1)) (λ i n. same)))
      (λ e. rw e (grow_then (k (at + 1)) (λ i n. grow_then (k n) (λ j m. same))))
      (λ e. rw e (grow_then (k (at + 1)) (λ c n. grow_then (k n) (λ i m. grow_then (k m) (λ j o. same)))))

  pub grow_expression : (l l' : ℕ) → l ≤ l' → GrowAll (λ a. read_expression l image a) (λ a. read_expression l' image a)
  unfolding read_expression
  grow_expression zero zero h at = grow_refl (read_expression zero image at)
  grow_expression zero (suc l') h at =
      grow_word image at expression_word (λ w. refused 5 at) (λ w. expression_at (λ a. read_expression l' image a) image at w) (λ _. less)
  grow_expression (suc l) zero h at = absurd (omega arith)
  grow_expression (suc l) (suc l') h at =
      grow_word image at expression_word (λ w. expression_at (λ a. read_expression l image a) image at w)
      (λ w. expression_at (λ a. read_expression l' image a) image at w)
      (λ g. grow_kind (λ a. read_expression l image a) (λ a. read_expression l' image a) at (get_or image at 0) g (grow_expression l l' (omega arith)))

  pub grow_arguments : (n : ℕ) (operand operand' : Reader Expression) → GrowAll operand operand' → GrowAll (λ a. read_arguments n operand a) (λ a. read_arguments n operand' a)
  unfolding read_arguments
  grow_arguments zero operand operand' k at = same
  grow_arguments (suc n) operand operand' k at =
      grow_then (k at) (λ e m. grow_then (grow_arguments n operand operand' k m) (λ es o. same))

  pub grow_statements : (n : ℕ) (statement statement' : Reader Statement) → GrowAll statement statement'
      → GrowAll (λ a. read_statements n statement a) (λ a. read_statements n statement' a)
  unfolding read_statements
  grow_statements zero statement statement' k at = same
  grow_statements (suc n) statement statement' k at =
      grow_then (k at) (λ s m. grow_then (grow_statements n statement statement' k m) (λ b o. same))

-- two lists of numbers of parameters that agree below a procedure
abbrev pub Agree : ℕ → List ℕ → List ℕ → Type 0
Agree me params params' = (g : ℕ) → g < me → get_or params g 0 ≡ get_or params' g 0

module _ (params params' : List ℕ) (me : ℕ) (agree : Agree me params params') (image : List ℕ) where
  pub grow_op : (operand operand' : Reader Expression) (block block' : Reader Block) (at w : ℕ) → statement_word me w ≡ true
      → GrowAll operand operand' → GrowAll block block'
      → Grow (statement_at operand block params at w) (statement_at operand' block' params' at w)
  grow_op operand operand' block block' at w t k b =
      ops me w t
      (λ o. rw o (grow_then (k (at + 1)) (λ e n. same)))
      (λ o. rw o (grow_then (k (at + 1)) (λ i n. grow_then (k n) (λ e m. same))))
      (λ o. rw o (grow_then (k (at + 1)) (λ c n. grow_then (b n) (λ x m. grow_then (b m) (λ y z. same)))))
      (λ o. rw o (grow_then (k (at + 1)) (λ f n. grow_then (k n) (λ u m. grow_then (b m) (λ y z. same)))))
      (λ o. rw o (grow_then (k (at + 1)) (λ e n. same)))
      (λ o. let low = call_limit me w t o in rw o (arguments low))
    where
      arguments : called_of w < me
          → Grow (and_then (read_arguments (get_or params (called_of w) 0) operand (at + 1)) (λ es n. got (Statement.call (called_of w) (result_of w) es) n))
          (and_then (read_arguments (get_or params' (called_of w) 0) operand' (at + 1)) (λ es n. got (Statement.call (called_of w) (result_of w) es) n))
      arguments h =
          rw (agree (called_of w) h)
          (grow_then (grow_arguments image (get_or params' (called_of w) 0) operand operand' k (at + 1)) (λ es n. same))

  mutual
    unfolding read_statement read_block

    pub grow_statement : (l l' : ℕ) → l ≤ l' → GrowAll (λ a. read_statement l params me image a) (λ a. read_statement l' params' me image a)
    grow_statement zero zero h at = grow_refl (on_word image at (λ w. statement_word me w) (λ w. refused 5 at))
    grow_statement zero (suc l') h at =
        grow_word image at (λ w. statement_word me w) (λ w. refused 5 at)
        (λ w. statement_at (λ a. read_expression l' image a) (λ a. read_block l' params' me image a) params' at w) (λ _. less)
    grow_statement (suc l) zero h at = absurd (omega arith)
    grow_statement (suc l) (suc l') h at =
        grow_word image at (λ w. statement_word me w)
        (λ w. statement_at (λ a. read_expression l image a) (λ a. read_block l params me image a) params at w)
        (λ w. statement_at (λ a. read_expression l' image a) (λ a. read_block l' params' me image a) params' at w)
        (λ t. grow_op (λ a. read_expression l image a) (λ a. read_expression l' image a) (λ a. read_block l params me image a)
        (λ a. read_block l' params' me image a) at (get_or image at 0) t (grow_expression image l l' (omega arith))
        (λ a. grow_block l l' (omega arith) a))

    pub grow_block : (l l' : ℕ) → l ≤ l' → GrowAll (λ a. read_block l params me image a) (λ a. read_block l' params' me image a)
    grow_block zero zero h at = grow_refl (on_word image at block_word (λ w. refused 5 at))
    grow_block zero (suc l') h at =
        grow_word image at block_word (λ w. refused 5 at)
        (λ w. read_statements (payload_of w) (λ a. read_statement l' params' me image a) (at + 1)) (λ _. less)
    grow_block (suc l) zero h at = absurd (omega arith)
    grow_block (suc l) (suc l') h at =
        grow_word image at block_word (λ w. read_statements (payload_of w) (λ a. read_statement l params me image a) (at + 1))
        (λ w. read_statements (payload_of w) (λ a. read_statement l' params' me image a) (at + 1))
        (λ t. grow_statements image (payload_of (get_or image at 0)) (λ a. read_statement l params me image a) (λ a. read_statement l' params' me image a)
        (λ a. grow_statement l l' (omega arith) a) (at + 1))

-- ---- as passes use it

pub expression_level : (l l' : ℕ) (image : List ℕ) (at : ℕ) (e : Expression) (n : ℕ) → read_expression l image at ≡ got e n → l ≤ l'
    → read_expression l' image at ≡ got e n
expression_level l l' image at e n r h = grow_got (grow_expression image l l' h at) r

pub statement_level : (l l' : ℕ) (params : List ℕ) (me : ℕ) (image : List ℕ) (at : ℕ) (s : Statement) (n : ℕ)
    → read_statement l params me image at ≡ got s n → l ≤ l' → read_statement l' params me image at ≡ got s n
statement_level l l' params me image at s n r h = grow_got (grow_statement params params me (λ g _. refl) image l l' h at) r

pub block_level : (l l' : ℕ) (params : List ℕ) (me : ℕ) (image : List ℕ) (at : ℕ) (b : Block) (n : ℕ)
    → read_block l params me image at ≡ got b n → l ≤ l' → read_block l' params me image at ≡ got b n
block_level l l' params me image at b n r h = grow_got (grow_block params params me (λ g _. refl) image l l' h at) r

-- two readings of one place as an expression, or as a block of one procedure, are the same, whatever their levels
pub same_expression : (l l' : ℕ) (image : List ℕ) (at : ℕ) (e f : Expression) (n m : ℕ)
    → read_expression l image at ≡ got e n → read_expression l' image at ≡ got f m → (e ≡ f) × (n ≡ m)
same_expression l l' image at e f n m r q =
    got_same (read_expression (l + l') image at) e f n m (expression_level l (l + l') image at e n r (omega arith))
    (expression_level l' (l + l') image at f m q (omega arith))

pub same_statement : (l l' : ℕ) (params params' : List ℕ) (me : ℕ) (image : List ℕ) (at : ℕ) (s u : Statement) (n m : ℕ)
    → Agree me params params' → read_statement l params me image at ≡ got s n → read_statement l' params' me image at ≡ got u m → (s ≡ u) × (n ≡ m)
same_statement l l' params params' me image at s u n m agree r q =
    got_same (read_statement (l + l') params' me image at) s u n m (grow_got (grow_statement params params' me agree image l (l + l') (omega arith) at) r)
    (statement_level l' (l + l') params' me image at u m q (omega arith))

pub same_block : (l l' : ℕ) (params params' : List ℕ) (me : ℕ) (image : List ℕ) (at : ℕ) (b c : Block) (n m : ℕ)
    → Agree me params params' → read_block l params me image at ≡ got b n → read_block l' params' me image at ≡ got c m → (b ≡ c) × (n ≡ m)
same_block l l' params params' me image at b c n m agree r q =
    got_same (read_block (l + l') params' me image at) b c n m (grow_got (grow_block params params' me agree image l (l + l') (omega arith) at) r)
    (block_level l' (l + l') params' me image at c m q (omega arith))

pub same_end : (l l' : ℕ) (params params' : List ℕ) (me : ℕ) (image : List ℕ) (at : ℕ) (b c : Block) (n m : ℕ)
    → Agree me params params' → read_block l params me image at ≡ got b n → read_block l' params' me image at ≡ got c m → n ≡ m
same_end l l' params params' me image at b c n m agree r q = (same_block l l' params params' me image at b c n m agree r q).1
