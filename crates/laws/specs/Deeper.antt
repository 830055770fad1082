-- Document 02, wish 1: what reading gives where the largest level is another one. With fewer levels an image is read as with more, or
-- reading stops with 5 at a word that the reading with more levels passes. Assumes nothing.
use Rattle.std.specs.Prelude.{◌≡◌, refl, Bool, true, false, List, leb, length, get_or}
use Prim.Native.Nat.{ℕ, zero, suc, ◌+◌, ◌≤◌, ◌<◌}
use Rattle.std.proofs.Common.{arith, leb-false}
use Rattle.definitions.specs.Choice.{pick}
use Rattle.definitions.specs.Image.{payload_of, block_word, called_of, statement_word, expression_word, raw_word}
use Rattle.definitions.specs.Image.{Expression, constant, Statement, Block}
use Rattle.definitions.specs.Reading.{Parse, got, refused, Reader, and_then, on_word, expression_at, statement_at}
use Rattle.definitions.specs.Reading.{read_expression, read_arguments, read_statement, read_statements, read_block}
use Rattle.statements.specs.FormerLimits.{From, from_got, from_refused, Kept, same_part, same_refusal, deeper}
use Rattle.laws.specs.WordTests.{kinds, ops}

pub from_then : {m : ℕ} {A B : Type 0} {x : Parse A} {f : A → ℕ → Parse B} → From m x → ((a : A) (n : ℕ) → m ≤ n → From m (f a n))
    → From m (and_then x f)
from_then (from_got {a} {n} h) k = k a n h
from_then (from_refused h) k = from_refused h

pub from_word : {m : ℕ} {A : Type 0} (image : List ℕ) (at : ℕ) (good : ℕ → Bool) (f : ℕ → Parse A) → m ≤ at → m ≤ length image
    → (good (get_or image at 0) ≡ true → From m (f (get_or image at 0))) → From m (on_word image at good f)
from_word {m} image at good f h w k = go (leb (length image) at) (good (get_or image at 0)) refl
  where
    go : (b g : Bool) → good (get_or image at 0) ≡ g → From m (pick b (refused 3 (length image)) (pick g (f (get_or image at 0)) (refused 2 at)))
    go true g e = from_refused w
    go false true e = k e
    go false false e = from_refused h

-- a reader that gives nothing before the place where it begins
abbrev pub FromAll : {A : Type 0} → ℕ → Reader A → Type 0
FromAll m f = (a : ℕ) → m ≤ a → From m (f a)

module _ (image : List ℕ) (m : ℕ) (within : m ≤ length image) where
  from_kind : (operand : Reader Expression) (at w : ℕ) → m ≤ at + 1 → expression_word w ≡ true → FromAll m operand
      → From m (expression_at operand image at w)
  from_kind operand at w h g k =
      kinds w g
      (λ e. rw e (from_got h))
      (λ e. rw e (from_word image (at + 1) raw_word (λ v. got (constant at v) (at + 1 + 1)) h within (λ _. from_got (omega arith))))
      (λ e. rw e (from_got h))
      (λ e. rw e (from_got h))
      (λ e. rw e (from_then (k (at + 1) h) (λ i n q. from_got q)))
      (λ e. rw e (from_then (k (at + 1) h) (λ i n q. from_got q)))
      (λ e. rw e (from_then (k (at + 1) h) (λ i n q. from_then (k n q) (λ j o r. from_got r))))
      (λ e. rw e (from_then (k (at + 1) h) (λ c n q. from_then (k n q) (λ i o r. from_then (k o r) (λ j z s. from_got s)))))

  from_expression : (l : ℕ) → FromAll m (λ a. read_expression l image a)
  unfolding read_expression
  from_expression zero at h = from_word image at expression_word (λ w. refused 5 at) h within (λ _. from_refused h)
  from_expression (suc l) at h =
      from_word image at expression_word (λ w. expression_at (λ a. read_expression l image a) image at w) h within
      (λ g. from_kind (λ a. read_expression l image a) at (get_or image at 0) (omega arith) g (from_expression l))

  from_arguments : (n : ℕ) (operand : Reader Expression) → FromAll m operand → FromAll m (λ a. read_arguments n operand a)
  unfolding read_arguments
  from_arguments zero operand k at h = from_got h
  from_arguments (suc n) operand k at h = from_then (k at h) (λ e o q. from_then (from_arguments n operand k o q) (λ es z r. from_got r))

  from_statements : (n : ℕ) (statement : Reader Statement) → FromAll m statement → FromAll m (λ a. read_statements n statement a)
  unfolding read_statements
  from_statements zero statement k at h = from_got h
  from_statements (suc n) statement k at h = from_then (k at h) (λ s o q. from_then (from_statements n statement k o q) (λ b z r. from_got r))

  module _ (params : List ℕ) (me : ℕ) where
    from_op : (operand : Reader Expression) (block : Reader Block) (at w : ℕ) → m ≤ at + 1 → statement_word me w ≡ true → FromAll m operand
        → FromAll m block → From m (statement_at operand block params at w)
    from_op operand block at w h t k b =
        ops me w t
        (λ o. rw o (from_then (k (at + 1) h) (λ e n q. from_got q)))
        (λ o. rw o (from_then (k (at + 1) h) (λ i n q. from_then (k n q) (λ e z r. from_got r))))
        (λ o. rw o (from_then (k (at + 1) h) (λ c n q. from_then (b n q) (λ x z r. from_then (b z r) (λ y u s. from_got s)))))
        (λ o. rw o (from_then (k (at + 1) h) (λ f n q. from_then (k n q) (λ u z r. from_then (b z r) (λ y v s. from_got s)))))
        (λ o. rw o (from_then (k (at + 1) h) (λ e n q. from_got q)))
        (λ o. rw o (from_then (from_arguments (get_or params (called_of w) 0) operand k (at + 1) h) (λ es n q. from_got q)))

    mutual
      unfolding read_statement read_block

      from_statement : (l : ℕ) → FromAll m (λ a. read_statement l params me image a)
      from_statement zero at h = from_word image at (λ w. statement_word me w) (λ w. refused 5 at) h within (λ _. from_refused h)
      from_statement (suc l) at h =
          from_word image at (λ w. statement_word me w)
          (λ w. statement_at (λ a. read_expression l image a) (λ a. read_block l params me image a) params at w) h within
          (λ t. from_op (λ a. read_expression l image a) (λ a. read_block l params me image a) at (get_or image at 0) (omega arith) t
          (from_expression l) (λ a q. from_block l a q))

      pub from_block : (l : ℕ) → FromAll m (λ a. read_block l params me image a)
      from_block zero at h = from_word image at block_word (λ w. refused 5 at) h within (λ _. from_refused h)
      from_block (suc l) at h =
          from_word image at block_word (λ w. read_statements (payload_of w) (λ a. read_statement l params me image a) (at + 1)) h within
          (λ t. from_statements (payload_of (get_or image at 0)) (λ a. read_statement l params me image a) (λ a q. from_statement l a q) (at + 1)
          (omega arith))

-- ---- two readings of one part, the second with more levels

pub kept_then : {image : List ℕ} {A B : Type 0} {x y : Parse A} {f g : A → ℕ → Parse B} → Kept image x y
    → ((a : A) (n : ℕ) → Kept image (f a n) (g a n))
    → ((m : ℕ) → m ≤ length image → (a : A) (n : ℕ) → m ≤ n → From m (g a n)) → Kept image (and_then x f) (and_then y g)
kept_then (same_part {a} {n}) k b = k a n
kept_then (same_refusal h) k b = same_refusal h
kept_then (deeper {p} h (from_got {a} {n} q)) k b = deeper h (b (suc p) (omega arith) a n q)
kept_then (deeper h (from_refused q)) k b = deeper h (from_refused q)

-- what follows a part that both read alike, since it has no levels
kept_after_alike : {image : List ℕ} {A B : Type 0} {x y : Parse A} {f g : A → ℕ → Parse B} → Kept image x y → x ≡ y
    → ((a : A) (n : ℕ) → Kept image (f a n) (g a n)) → Kept image (and_then x f) (and_then y g)
kept_after_alike (same_part {a} {n}) e k = k a n
kept_after_alike (same_refusal h) e k = same_refusal h
kept_after_alike (deeper h (from_got q)) e k = absurd (cc)
kept_after_alike (deeper h (from_refused q)) e k = deeper h (from_refused q)

pub kept_after : {image : List ℕ} {A B : Type 0} {x : Parse A} {f g : A → ℕ → Parse B} → Kept image x x → ((a : A) (n : ℕ) → Kept image (f a n) (g a n))
    → Kept image (and_then x f) (and_then x g)
kept_after h k = kept_after_alike h refl k

pub kept_word : {A : Type 0} (image : List ℕ) (at : ℕ) (good : ℕ → Bool) (f g : ℕ → Parse A)
    → (at < length image → good (get_or image at 0) ≡ true → Kept image (f (get_or image at 0)) (g (get_or image at 0)))
    → Kept image (on_word image at good f) (on_word image at good g)
kept_word image at good f g k = go (leb (length image) at) (good (get_or image at 0)) refl refl
  where
    go : (b t : Bool) → leb (length image) at ≡ b → good (get_or image at 0) ≡ t
        → Kept image (pick b (refused 3 (length image)) (pick t (f (get_or image at 0)) (refused 2 at)))
        (pick b (refused 3 (length image)) (pick t (g (get_or image at 0)) (refused 2 at)))
    go true t d e = same_refusal {k = 3} (omega arith)
    go false true d e = k (leb-false _ _ d) e
    go false false d e = same_refusal {k = 2} (omega arith)

-- a reader, and one with more levels, which gives nothing before the place where it begins
record Deepened (image : List ℕ) {A : Type 0} (f g : Reader A) : Type 0 where
  both : (a : ℕ) → Kept image (f a) (g a)
  onward : (m : ℕ) → m ≤ length image → FromAll m g

module _ (image : List ℕ) where
  kept_kind : (operand operand' : Reader Expression) (at w : ℕ) → expression_word w ≡ true → Deepened image operand operand'
      → Kept image (expression_at operand image at w) (expression_at operand' image at w)
  kept_kind operand operand' at w g d =
      kinds w g
      (λ e. rw e same_part)
      (λ e. rw e (kept_word image (at + 1) raw_word (λ v. got (constant at v) (at + 1 + 1)) (λ v. got (constant at v) (at + 1 + 1)) (λ i r. same_part)))
      (λ e. rw e same_part)
      (λ e. rw e same_part)
      (λ e. rw e (kept_then (d.both (at + 1)) (λ i n. same_part) (λ m h i n q. from_got q)))
      (λ e. rw e (kept_then (d.both (at + 1)) (λ i n. same_part) (λ m h i n q. from_got q)))
      (λ e. rw e (kept_then (d.both (at + 1)) (λ i n. kept_then (d.both n) (λ j o. same_part) (λ m h j o q. from_got q))
      (λ m h i n q. from_then (d.onward m h n q) (λ j o r. from_got r))))
      (λ e. rw e (kept_then (d.both (at + 1))
      (λ c n. kept_then (d.both n) (λ i o. kept_then (d.both o) (λ j z. same_part) (λ m h j z q. from_got q))
      (λ m h i o q. from_then (d.onward m h o q) (λ j z r. from_got r)))
      (λ m h c n q. from_then (d.onward m h n q) (λ i o r. from_then (d.onward m h o r) (λ j z s. from_got s)))))

  kept_expression : (l l' : ℕ) → l < l' → (at : ℕ) → Kept image (read_expression l image at) (read_expression l' image at)
  unfolding read_expression
  kept_expression zero zero h at = absurd (omega arith)
  kept_expression zero (suc l') h at =
      kept_word image at expression_word (λ w. refused 5 at) (λ w. expression_at (λ a. read_expression l' image a) image at w)
      (λ i g. deeper i (from_kind image (suc at) (omega arith) (λ a. read_expression l' image a) at (get_or image at 0) (omega arith) g
      (from_expression image (suc at) (omega arith) l')))
  kept_expression (suc l) zero h at = absurd (omega arith)
  kept_expression (suc l) (suc l') h at =
      kept_word image at expression_word (λ w. expression_at (λ a. read_expression l image a) image at w)
      (λ w. expression_at (λ a. read_expression l' image a) image at w)
      (λ i g. kept_kind (λ a. read_expression l image a) (λ a. read_expression l' image a) at (get_or image at 0) g
      (record { both = kept_expression l l' (omega arith); onward = λ m w. from_expression image m w l' }))

  kept_arguments : (n : ℕ) (operand operand' : Reader Expression) → Deepened image operand operand' → (at : ℕ)
      → Kept image (read_arguments n operand at) (read_arguments n operand' at)
  unfolding read_arguments
  kept_arguments zero operand operand' d at = same_part
  kept_arguments (suc n) operand operand' d at =
      kept_then (d.both at) (λ e o. kept_then (kept_arguments n operand operand' d o) (λ es z. same_part) (λ m h es z q. from_got q))
      (λ m h e o q. from_then (from_arguments image m h n operand' (d.onward m h) o q) (λ es z r. from_got r))

  kept_statements : (n : ℕ) (statement statement' : Reader Statement) → Deepened image statement statement' → (at : ℕ)
      → Kept image (read_statements n statement at) (read_statements n statement' at)
  unfolding read_statements
  kept_statements zero statement statement' d at = same_part
  kept_statements (suc n) statement statement' d at =
      kept_then (d.both at) (λ s o. kept_then (kept_statements n statement statement' d o) (λ b z. same_part) (λ m h b z q. from_got q))
      (λ m h s o q. from_then (from_statements image m h n statement' (d.onward m h) o q) (λ b z r. from_got r))

  module _ (params : List ℕ) (me : ℕ) where
    kept_op : (operand operand' : Reader Expression) (block block' : Reader Block) (at w : ℕ) → statement_word me w ≡ true
        → Deepened image operand operand' → Deepened image block block'
        → Kept image (statement_at operand block params at w) (statement_at operand' block' params at w)
    kept_op operand operand' block block' at w t d b =
        ops me w t
        (λ o. rw o (kept_then (d.both (at + 1)) (λ e n. same_part) (λ m h e n q. from_got q)))
        (λ o. rw o (kept_then (d.both (at + 1)) (λ i n. kept_then (d.both n) (λ e z. same_part) (λ m h e z q. from_got q))
        (λ m h i n q. from_then (d.onward m h n q) (λ e z r. from_got r))))
        (λ o. rw o (kept_then (d.both (at + 1))
        (λ c n. kept_then (b.both n) (λ x z. kept_then (b.both z) (λ y u. same_part) (λ m h y u q. from_got q))
        (λ m h x z q. from_then (b.onward m h z q) (λ y u r. from_got r)))
        (λ m h c n q. from_then (b.onward m h n q) (λ x z r. from_then (b.onward m h z r) (λ y u s. from_got s)))))
        (λ o. rw o (kept_then (d.both (at + 1))
        (λ f n. kept_then (d.both n) (λ u z. kept_then (b.both z) (λ y v. same_part) (λ m h y v q. from_got q))
        (λ m h u z q. from_then (b.onward m h z q) (λ y v r. from_got r)))
        (λ m h f n q. from_then (d.onward m h n q) (λ u z r. from_then (b.onward m h z r) (λ y v s. from_got s)))))
        (λ o. rw o (kept_then (d.both (at + 1)) (λ e n. same_part) (λ m h e n q. from_got q)))
        (λ o. rw o (kept_then (kept_arguments (get_or params (called_of w) 0) operand operand' d (at + 1)) (λ es n. same_part) (λ m h es n q. from_got q)))

    mutual
      unfolding read_statement read_block

      kept_statement : (l l' : ℕ) → l < l' → (at : ℕ) → Kept image (read_statement l params me image at) (read_statement l' params me image at)
      kept_statement zero zero h at = absurd (omega arith)
      kept_statement zero (suc l') h at =
          kept_word image at (λ w. statement_word me w) (λ w. refused 5 at)
          (λ w. statement_at (λ a. read_expression l' image a) (λ a. read_block l' params me image a) params at w)
          (λ i t. deeper i (from_op image (suc at) (omega arith) params me (λ a. read_expression l' image a) (λ a. read_block l' params me image a) at
          (get_or image at 0) (omega arith) t (from_expression image (suc at) (omega arith) l')
          (λ a q. from_block image (suc at) (omega arith) params me l' a q)))
      kept_statement (suc l) zero h at = absurd (omega arith)
      kept_statement (suc l) (suc l') h at =
          kept_word image at (λ w. statement_word me w)
          (λ w. statement_at (λ a. read_expression l image a) (λ a. read_block l params me image a) params at w)
          (λ w. statement_at (λ a. read_expression l' image a) (λ a. read_block l' params me image a) params at w)
          (λ i t. kept_op (λ a. read_expression l image a) (λ a. read_expression l' image a) (λ a. read_block l params me image a)
          (λ a. read_block l' params me image a) at (get_or image at 0) t
          (record { both = kept_expression l l' (omega arith); onward = λ m w. from_expression image m w l' })
          (record { both = λ a. kept_block l l' (omega arith) a; onward = λ m w. from_block image m w params me l' }))

      pub kept_block : (l l' : ℕ) → l < l' → (at : ℕ) → Kept image (read_block l params me image at) (read_block l' params me image at)
      kept_block zero zero h at = absurd (omega arith)
      kept_block zero (suc l') h at =
          kept_word image at block_word (λ w. refused 5 at)
          (λ w. read_statements (payload_of w) (λ a. read_statement l' params me image a) (at + 1))
          (λ i t. deeper i (from_statements image (suc at) (omega arith) (payload_of (get_or image at 0)) (λ a. read_statement l' params me image a)
          (λ a q. from_statement image (suc at) (omega arith) params me l' a q) (at + 1) (omega arith)))
      kept_block (suc l) zero h at = absurd (omega arith)
      kept_block (suc l) (suc l') h at =
          kept_word image at block_word (λ w. read_statements (payload_of w) (λ a. read_statement l params me image a) (at + 1))
          (λ w. read_statements (payload_of w) (λ a. read_statement l' params me image a) (at + 1))
          (λ i t. kept_statements (payload_of (get_or image at 0)) (λ a. read_statement l params me image a) (λ a. read_statement l' params me image a)
          (record { both = λ a. kept_statement l l' (omega arith) a; onward = λ m w. from_statement image m w params me l' }) (at + 1))
