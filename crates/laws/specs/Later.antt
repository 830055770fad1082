-- The number of the procedure only limits: what is read in a procedure's body is read the same in every later one's, as far as the
-- numbers of parameters agree. So the end of a block does not depend on whose body it was read as. Assumes nothing.
use Rattle.std.specs.Prelude.{◌≡◌, refl, Bool, true, false, ◌&&◌, ◌||◌, List, ℕ, zero, suc, ◌+◌, ◌≤◌, leb, ltb, eqb, length, get_or}
use Rattle.std.proofs.Common.{arith, ltb-true, lt-ltb}
use Rattle.definitions.specs.Choice.{pick}
use Rattle.definitions.specs.Image.{kind_of, payload_of, block_word, op_of, target_of, called_of, statement_word, Block}
use Rattle.definitions.specs.Reading.{Parse, got, refused, on_word, statement_at, read_expression, read_statement}
use Rattle.definitions.specs.Reading.{read_statements, read_block}
use Rattle.laws.specs.Parses.{got_same}
use Rattle.laws.specs.Levels.{Grow, less, GrowAll, grow_got, grow_op, grow_statements, grow_refl, grow_block}

imply_and : (a b c : Bool) → (b ≡ true → c ≡ true) → a && b ≡ true → a && c ≡ true
imply_and true b c k h = k h
imply_and false b c k h = h

imply_or : (a b c : Bool) → (b ≡ true → c ≡ true) → a || b ≡ true → a || c ≡ true
imply_or true b c k h = h
imply_or false b c k h = k h

pub statement_later : (me me' w : ℕ) → me ≤ me' → statement_word me w ≡ true → statement_word me' w ≡ true
unfolding statement_word
statement_later me me' w later =
    imply_and (eqb (kind_of w) 6) _ _
    (imply_or (ltb (op_of w) 2) _ _
    (imply_or (eqb (op_of w) 2 && eqb (target_of w) 0) _ _
    (imply_or (eqb (op_of w) 3) _ _
    (imply_or (eqb (op_of w) 4 && eqb (target_of w) 0) _ _
    (imply_and (eqb (op_of w) 5) (ltb (called_of w) me) (ltb (called_of w) me') below)))))
  where
    below : ltb (called_of w) me ≡ true → ltb (called_of w) me' ≡ true
    below h = let q = ltb-true (called_of w) me h in lt-ltb (called_of w) me' (omega arith)

-- a word that a wider test admits
word_wider : {A : Type 0} (image : List ℕ) (at : ℕ) (good wide : ℕ → Bool) (f g : ℕ → Parse A)
    → (good (get_or image at 0) ≡ true → wide (get_or image at 0) ≡ true)
    → (good (get_or image at 0) ≡ true → Grow (f (get_or image at 0)) (g (get_or image at 0))) → Grow (on_word image at good f) (on_word image at wide g)
word_wider image at good wide f g q k = ends (leb (length image) at) (good (get_or image at 0)) refl
  where
    ends : (b t : Bool) → good (get_or image at 0) ≡ t
        → Grow (pick b (refused 3 (length image)) (pick t (f (get_or image at 0)) (refused 2 at)))
        (pick b (refused 3 (length image)) (pick (wide (get_or image at 0)) (g (get_or image at 0)) (refused 2 at)))
    ends true t e = less
    ends false true e = rw (q e) (k e)
    ends false false e = less

module _ (params : List ℕ) (me me' : ℕ) (later : me ≤ me') (image : List ℕ) where
  mutual
    unfolding read_statement read_block

    pub later_statement : (l : ℕ) → GrowAll (λ a. read_statement l params me image a) (λ a. read_statement l params me' image a)
    later_statement zero at =
        word_wider image at (λ w. statement_word me w) (λ w. statement_word me' w) (λ w. refused 5 at) (λ w. refused 5 at)
        (statement_later me me' (get_or image at 0) later) (λ _. less)
    later_statement (suc l) at =
        word_wider image at (λ w. statement_word me w) (λ w. statement_word me' w)
        (λ w. statement_at (λ a. read_expression l image a) (λ a. read_block l params me image a) params at w)
        (λ w. statement_at (λ a. read_expression l image a) (λ a. read_block l params me' image a) params at w)
        (statement_later me me' (get_or image at 0) later)
        (λ t. grow_op params params me (λ g _. refl) image (λ a. read_expression l image a) (λ a. read_expression l image a)
        (λ a. read_block l params me image a) (λ a. read_block l params me' image a) at (get_or image at 0) t
        (λ a. grow_refl (read_expression l image a)) (λ a. later_block l a))

    pub later_block : (l : ℕ) → GrowAll (λ a. read_block l params me image a) (λ a. read_block l params me' image a)
    later_block zero at =
        word_wider image at block_word block_word (λ w. refused 5 at) (λ w. refused 5 at) (λ t. t) (λ _. less)
    later_block (suc l) at =
        word_wider image at block_word block_word (λ w. read_statements (payload_of w) (λ a. read_statement l params me image a) (at + 1))
        (λ w. read_statements (payload_of w) (λ a. read_statement l params me' image a) (at + 1)) (λ t. t)
        (λ t. grow_statements image (payload_of (get_or image at 0)) (λ a. read_statement l params me image a) (λ a. read_statement l params me' image a)
        (λ a. later_statement l a) (at + 1))

-- two readings of one place as a block are the same, whatever their levels and procedures
pub one_block : (l l' : ℕ) (params : List ℕ) (me me' : ℕ) (image : List ℕ) (at : ℕ) (b c : Block) (n m : ℕ)
    → read_block l params me image at ≡ got b n → read_block l' params me' image at ≡ got c m → (b ≡ c) × (n ≡ m)
one_block l l' params me me' image at b c n m r q =
    got_same (read_block (l + l') params (me + me') image at) b c n m
    (grow_got (grow_block params params (me + me') (λ g _. refl) image l (l + l') (omega arith) at)
    (grow_got (later_block params me (me + me') (omega arith) image l at) r))
    (grow_got (grow_block params params (me + me') (λ g _. refl) image l' (l + l') (omega arith) at)
    (grow_got (later_block params me' (me + me') (omega arith) image l' at) q))
