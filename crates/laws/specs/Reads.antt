-- Reading, once for every use: what was read keeps the limits, spells the words that it was read from and has its places
-- among them; a refusal has one of the numbers 1 to 5, at its place. Assumes nothing.
use Prim.Native.Nat.{ℕ, zero, suc, ◌+◌, ◌≤◌, ◌<◌}
use Rattle.std.specs.Prelude.{Bool, true, false, ◌≡◌, leb, length}
use mathlib.Core.List.{List, flat_map}
use Rattle.std.proofs.Math.Path.{refl, ap}
use Rattle.std.proofs.Common.{◌∙◌, lt-ltb, le-ltb, leb-false}
use native.Mathlib.Omega.{arith}
use Rattle.std.proofs.Math.ListN.{get_or}
use Rattle.definitions.specs.Choice.{pick}
use Rattle.definitions.specs.Image.{kind_of, payload_of, block_word, called_of, statement_word, expression_word, raw_word}
use Rattle.definitions.specs.Image.{Expression, constant, Statement, Block, place_of}
use Rattle.definitions.specs.Reading.{Parse, got, refused, Reader, and_then, on_word, expression_at, read_expression}
use Rattle.definitions.specs.Reading.{read_arguments, statement_at, read_statements, read_statement, read_block}
use Rattle.definitions.specs.Encoding.{word_with, expression_words, argument_words, statement_words, statements_words}
use Rattle.definitions.specs.Encoding.{statement_count, block_words}
use Rattle.laws.specs.WordTests.{raw_limit, boolean_limit, unary_limit, binary_limit, select_limit}
use Rattle.laws.specs.WordTests.{statement_kind, call_limit, if_target, return_target, block_kind, raw_limits}
use Rattle.laws.specs.WordTests.{kinds, ops}
use Rattle.laws.specs.Trees.{ExpressionPlaces, at_constant, at_boolean, at_variable, at_cell, at_unary, at_binary}
use Rattle.laws.specs.Trees.{at_select, ExpressionsPlaces, no_expression, and_expression, StatementPlaces}
use Rattle.laws.specs.Trees.{in_assign, in_store, in_conditional, in_loop, in_return, in_call, BlockPlaces}
use Rattle.laws.specs.Trees.{in_done, in_sequence}
use Rattle.statements.specs.Limits.{FitsExpression, fit_constant, fit_boolean, fit_variable, fit_cell, fit_unary}
use Rattle.statements.specs.Limits.{fit_binary, fit_select, FitsAll, fit_none, fit_more, FitsStatement, fit_assign}
use Rattle.statements.specs.Limits.{fit_store, fit_conditional, fit_loop, fit_return, fit_call, FitsBlock, fit_block}
use Rattle.statements.specs.Limits.{FitsStatements, fit_done, fit_sequence}
use Rattle.laws.specs.Spelled.{On, on_none, on_more, on_join}

-- "1 empty, too long or not whole words. 2 [word] wrong kind or payload. 3 [length] ends early. 4 [first spare word].
-- 5 [word] too deep", of an image of n words
pub data ReadRefusal (n : ℕ) : ℕ → ℕ → Type 0 where
  no_image_lem : ReadRefusal n 1 0
  wrong_word : {p : ℕ} → p < n → ReadRefusal n 2 p
  ends_early : ReadRefusal n 3 n
  spare_word : {p : ℕ} → p < n → ReadRefusal n 4 p
  too_deep : {p : ℕ} → p < n → ReadRefusal n 5 p

-- a table has the number of parameters of each procedure before the one numbered `me`
abbrev pub Arities : List ℕ → ℕ → (ℕ → ℕ) → Type 0
Arities params me arity = (f : ℕ) → f < me → get_or params f 0 ≡ arity f

-- a part that is, with its end, as P says; or a refusal
pub data Reads (n : ℕ) {A : Type 0} (P : A → ℕ → Type 0) : Parse A → Type 0 where
  reads : {a : A} {m : ℕ} → P a m → Reads n P (got a m)
  refuses : {k p : ℕ} → ReadRefusal n k p → Reads n P (refused k p)

pub read_as : {n : ℕ} {A : Type 0} {P : A → ℕ → Type 0} {a : A} {m : ℕ} → Reads n P (got a m) → P a m
read_as (reads h) = h

pub refused_as : {n : ℕ} {A : Type 0} {P : A → ℕ → Type 0} {k p : ℕ} → Reads n P (refused k p) → ReadRefusal n k p
refused_as (refuses h) = h

pub reads_then : {n : ℕ} {A B : Type 0} {P : A → ℕ → Type 0} {Q : B → ℕ → Type 0} {x : Parse A} {f : A → ℕ → Parse B}
    → Reads n P x → ((a : A) (m : ℕ) → P a m → Reads n Q (f a m)) → Reads n Q (and_then x f)
reads_then (reads {a} {m} h) k = k a m h
reads_then (refuses r) k = refuses r

pub reads_word : {A : Type 0} {P : A → ℕ → Type 0} (image : List ℕ) (at : ℕ) (good : ℕ → Bool) (f : ℕ → Parse A)
    → (at < length image → good (get_or image at 0) ≡ true → Reads (length image) P (f (get_or image at 0)))
    → Reads (length image) P (on_word image at good f)
reads_word {A} {P} image at good f k = go (leb (length image) at) (good (get_or image at 0)) refl refl
  where
    go : (b g : Bool) → leb (length image) at ≡ b → good (get_or image at 0) ≡ g
        → Reads (length image) P (pick b (refused 3 (length image)) (pick g (f (get_or image at 0)) (refused 2 at)))
    go true g e d = refuses ends_early
    go false true e d = k (leb-false _ _ e) d
    go false false e d = refuses (wrong_word (leb-false _ _ e))

-- a word is its kind and its payload
word_is : (w k : ℕ) → kind_of w ≡ k → w ≡ word_with k (payload_of w)
word_is w k e = omega arith

module _ (image : List ℕ) where
  -- a place of the image
  abbrev pub Inside : ℕ → Type 0
  Inside p = p < length image

  -- ---- expressions

  pub record ReadExpression (l at : ℕ) (e : Expression) (next : ℕ) : Type 0 where
    pub place : place_of e ≡ at
    pub fits : FitsExpression l e
    pub places : ExpressionPlaces Inside e
    pub words : On image at (expression_words e) next

  pub record ReadArguments (l n at : ℕ) (es : List Expression) (next : ℕ) : Type 0 where
    pub count : length es ≡ n
    pub fits : FitsAll l es
    pub places : ExpressionsPlaces Inside es
    pub words : On image at (argument_words es) next

  module _ (at : ℕ) (h : at < length image) (l : ℕ) where
    small_constant : kind_of (get_or image at 0) ≡ 7 → ReadExpression (suc l) at (constant at (payload_of (get_or image at 0))) (at + 1)
    unfolding expression_words place_of
    small_constant k =
        record {
          place = refl;
          fits = fit_constant;
          places = at_constant h;
          words = rw (lt-ltb (payload_of (get_or image at 0)) 268435456 (omega arith)) (on_more h (word_is _ 7 k) on_none);
        }

    raw_constant : kind_of (get_or image at 0) ≡ 8 → payload_of (get_or image at 0) ≡ 0 → at + 1 < length image
        → 268435456 ≤ get_or image (at + 1) 0 → ReadExpression (suc l) at (constant at (get_or image (at + 1) 0)) (at + 1 + 1)
    unfolding expression_words place_of
    raw_constant k p h' r =
        let e : get_or image at 0 ≡ word_with 8 0 = omega arith in
        record {
          place = refl;
          fits = fit_constant;
          places = at_constant h;
          words = rw (le-ltb (get_or image (at + 1) 0) 268435456 r) (on_more h e (on_more h' refl on_none));
        }

    expression_kind : (operand : Reader Expression) → ((a : ℕ) → Reads (length image) (ReadExpression l a) (operand a))
        → expression_word (get_or image at 0) ≡ true → Reads (length image) (ReadExpression (suc l) at) (expression_at operand image at (get_or image at 0))
    unfolding expression_words place_of
    expression_kind operand r g =
        let w = get_or image at 0 in
        let small : payload_of w < 268435456 = omega arith in
        kinds w g
        (λ k. rw k (reads (small_constant k)))
        (λ k. rw k (reads_word image (at + 1) raw_word (λ v. got (constant at v) (at + 1 + 1))
        (λ h' q. reads (raw_constant k (raw_limit w g k) h' (raw_limits (get_or image (at + 1) 0) q)))))
        (λ k. rw k (reads (record {
          place = refl;
          fits = fit_boolean (boolean_limit w g k);
          places = at_boolean h;
          words = on_more h (word_is w 9 k) on_none;
        })))
        (λ k. rw k (reads (record { place = refl; fits = fit_variable small; places = at_variable h; words = on_more h (word_is w 10 k) on_none })))
        (λ k. rw k (reads_then (r (at + 1)) (λ i n x. reads (record {
          place = refl;
          fits = fit_cell small x.fits;
          places = at_cell h x.places;
          words = on_more h (word_is w 11 k) x.words;
        }))))
        (λ k. rw k (reads_then (r (at + 1)) (λ e n x. reads (record {
          place = refl;
          fits = fit_unary (unary_limit w g k) x.fits;
          places = at_unary h x.places;
          words = on_more h (word_is w 12 k) x.words;
        }))))
        (λ k. rw k (reads_then (r (at + 1)) (λ e n x. reads_then (r n) (λ f m y. reads (record {
          place = refl;
          fits = fit_binary (binary_limit w g k) x.fits y.fits;
          places = at_binary h x.places y.places;
          words = on_more h (word_is w 13 k) (on_join x.words y.words);
        })))))
        (λ k. rw k (reads_then (r (at + 1)) (λ c n x. reads_then (r n) (λ e m y. reads_then (r m) (λ f o z. reads (record {
          place = refl;
          fits = fit_select x.fits y.fits z.fits;
          places = at_select h x.places y.places z.places;
          words = on_more h (none k) (on_join x.words (on_join y.words z.words));
        }))))))
      where
        none : kind_of (get_or image at 0) ≡ 14 → get_or image at 0 ≡ word_with 14 0
        none k = let q = select_limit (get_or image at 0) g k in omega arith

  pub reads_expression : (l at : ℕ) → Reads (length image) (ReadExpression l at) (read_expression l image at)
  unfolding read_expression
  reads_expression zero at = reads_word image at expression_word (λ w. refused 5 at) (λ h g. refuses (too_deep h))
  reads_expression (suc l) at =
      reads_word image at expression_word (λ w. expression_at (λ a. read_expression l image a) image at w)
      (λ h g. expression_kind at h l (λ a. read_expression l image a) (λ a. reads_expression l a) g)

  pub reads_arguments : (l n at : ℕ) → Reads (length image) (ReadArguments l n at) (read_arguments n (λ a. read_expression l image a) at)
  unfolding read_arguments argument_words flat_map
  reads_arguments l zero at = reads (record { count = refl; fits = fit_none; places = no_expression; words = on_none })
  reads_arguments l (suc n) at =
      reads_then (reads_expression l at) (λ e m x. reads_then (reads_arguments l n m) (λ es o y. reads (record {
        count = ap suc y.count;
        fits = fit_more x.fits y.fits;
        places = and_expression x.places y.places;
        words = on_join x.words y.words;
      })))

  -- ---- statements and blocks of the procedure numbered `me`, where a table has the numbers of parameters of those before it

  module _ (params : List ℕ) (me : ℕ) where
    pub record ReadStatement (l at : ℕ) (s : Statement) (next : ℕ) : Type 0 where
      pub inside : at < length image
      pub fits : (arity : ℕ → ℕ) → Arities params me arity → FitsStatement arity me l s
      pub places : StatementPlaces Inside s
      pub words : On image at (statement_words s) next

    pub record ReadStatements (l n at : ℕ) (b : Block) (next : ℕ) : Type 0 where
      pub count : statement_count b ≡ n
      pub fits : (arity : ℕ → ℕ) → Arities params me arity → FitsStatements arity me l b
      pub places : BlockPlaces Inside b
      pub words : On image at (statements_words b) next

    pub record ReadBlock (l at : ℕ) (b : Block) (next : ℕ) : Type 0 where
      pub fits : (arity : ℕ → ℕ) → Arities params me arity → FitsBlock arity me l b
      pub places : BlockPlaces Inside b
      pub words : On image at (block_words b) next

    statement_op : (l at : ℕ) → at < length image → (block : Reader Block) → ((a : ℕ) → Reads (length image) (ReadBlock l a) (block a))
        → statement_word me (get_or image at 0) ≡ true
        → Reads (length image) (ReadStatement (suc l) at) (statement_at (λ a. read_expression l image a) block params at (get_or image at 0))
    unfolding statement_words block_words
    statement_op l at h block b g =
        let w = get_or image at 0 in
        let k = statement_kind me w g in
        ops me w g
        (λ o. rw o (reads_then (reads_expression l (at + 1)) (λ e n x. reads (record {
          inside = h;
          fits = λ arity known. fit_assign (omega arith) x.fits;
          places = in_assign x.places;
          words = on_more h (omega arith) x.words;
        }))))
        (λ o. rw o (reads_then (reads_expression l (at + 1)) (λ i n x. reads_then (reads_expression l n) (λ e m y. reads (record {
          inside = h;
          fits = λ arity known. fit_store (omega arith) x.fits y.fits;
          places = in_store x.places y.places;
          words = on_more h (omega arith) (on_join x.words y.words);
        })))))
        (λ o. let q = if_target me w g o in rw o (reads_then (reads_expression l (at + 1)) (λ c n x. reads_then (b n) (λ a m y. reads_then (b m) (λ d i z. reads (record {
          inside = h;
          fits = λ arity known. fit_conditional x.fits (y.fits arity known) (z.fits arity known);
          places = in_conditional x.places y.places z.places;
          words = on_more h (omega arith) (on_join x.words (on_join y.words z.words));
        }))))))
        (λ o. rw o (reads_then (reads_expression l (at + 1)) (λ f n x. reads_then (reads_expression l n) (λ t m y. reads_then (b m) (λ d i z. reads (record {
          inside = h;
          fits = λ arity known. fit_loop (omega arith) x.fits y.fits (z.fits arity known);
          places = in_loop x.places y.places z.places;
          words = on_more h (omega arith) (on_join x.words (on_join y.words z.words));
        }))))))
        (λ o. let q = return_target me w g o in rw o (reads_then (reads_expression l (at + 1)) (λ e n x. reads (record {
          inside = h;
          fits = λ arity known. fit_return x.fits;
          places = in_return x.places;
          words = on_more h (omega arith) x.words;
        }))))
        (λ o. let low = call_limit me w g o in rw o (reads_then (reads_arguments l (get_or params (called_of w) 0) (at + 1)) (λ es n x. reads (record {
          inside = h;
          fits = λ arity known. fit_call low (omega arith) (x.count ∙ known (called_of w) low) x.fits;
          places = in_call x.places;
          words = on_more h (omega arith) x.words;
        }))))

    pub reads_statements : (l n : ℕ) (statement : Reader Statement) → ((a : ℕ) → Reads (length image) (ReadStatement l a) (statement a)) → (at : ℕ)
        → Reads (length image) (ReadStatements l n at) (read_statements n statement at)
    unfolding read_statements statements_words statement_count
    reads_statements l zero statement r at =
        reads (record { count = refl; fits = λ arity known. fit_done; places = in_done; words = on_none })
    reads_statements l (suc n) statement r at =
        reads_then (r at) (λ s m x. reads_then (reads_statements l n statement r m) (λ b o y. reads (record {
          count = let c = y.count in omega arith;
          fits = λ arity known. fit_sequence (x.fits arity known) (y.fits arity known);
          places = in_sequence x.inside x.places y.places;
          words = on_join x.words y.words;
        })))

    block_of : (l at : ℕ) → at < length image → block_word (get_or image at 0) ≡ true → {x : Parse Block}
        → Reads (length image) (ReadStatements l (payload_of (get_or image at 0)) (at + 1)) x → Reads (length image) (ReadBlock (suc l) at) x
    unfolding block_words
    block_of l at h g (reads {a = b} x) =
        let c = x.count in
        let k = block_kind (get_or image at 0) g in
        let e : get_or image at 0 ≡ word_with 5 (statement_count b) = omega arith in
        reads (record {
          fits = λ arity known. fit_block (x.fits arity known);
          places = x.places;
          words = on_more h e x.words;
        })
    block_of l at h g (refuses r) = refuses r

    mutual
      unfolding read_statement read_block

      pub reads_statement : (l at : ℕ) → Reads (length image) (ReadStatement l at) (read_statement l params me image at)
      reads_statement zero at = reads_word image at (λ w. statement_word me w) (λ w. refused 5 at) (λ h g. refuses (too_deep h))
      reads_statement (suc l) at =
          reads_word image at (λ w. statement_word me w)
          (λ w. statement_at (λ a. read_expression l image a) (λ a. read_block l params me image a) params at w)
          (λ h g. statement_op l at h (λ a. read_block l params me image a) (λ a. reads_block l a) g)

      pub reads_block : (l at : ℕ) → Reads (length image) (ReadBlock l at) (read_block l params me image at)
      reads_block zero at = reads_word image at block_word (λ w. refused 5 at) (λ h g. refuses (too_deep h))
      reads_block (suc l) at =
          reads_word image at block_word (λ w. read_statements (payload_of w) (λ a. read_statement l params me image a) (at + 1))
          (λ h g. block_of l at h g
          (reads_statements l (payload_of (get_or image at 0)) (λ a. read_statement l params me image a) (λ a. reads_statement l a) (at + 1)))
