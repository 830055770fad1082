-- What each return of the functions that write masked statements gives, and what their calls ask. Assumes nothing.
use Prim.Native.Nat.{ℕ, ◌+◌, ◌*◌}
use mathlib.Core.Bool.{Bool, true, false}
use mathlib.Core.List.{List, [], ◌∷◌, ◌++◌}
use mathlib.Core.Path.{◌≡◌, refl, sym, ap, ◌∙◌}
use Rattle.definitions.specs.Choice.{pick}
use Rattle.definitions.specs.Image.{Expression, variable, unary, assign}
use Rattle.definitions.specs.Reading.{Parse, got, refused, read_expression}
use Rattle.definitions.specs.Encoding.{word_with, statement_word_with, expression_words, argument_words, statement_words}
use Rattle.definitions.specs.Compiling.{moved, moved_all, act, masked, under}
use Rattle.laws.specs.Parses.{ok, got_ok, end_of}
use Rattle.image_words.specs.Read.{ExpressionRead}
use Rattle.writer.specs.Writing.{Output, write, writes}
use Rattle.writer.specs.Laws.{writes_nil, writes_one, word_run, run_run}
use Rattle.copying.specs.Copy.{Copied, spot, copied, copied_arguments}
use Rattle.copying.specs.Laws.{copied_got, arguments_got}
use Rattle.copying.specs.Runs.{word_copy, run_copy, copy_run, copy_copy}
use Rattle.masking.specs.Forms.{act_of, secret_context, prefix, old_variable, old_cell, selected_words, assigned}
use Rattle.masking.specs.Forms.{indexed, kept_cell, stored, returned, conditioned, call_head, called}
use Rattle.masking.specs.declared.Act.{Act}
use Rattle.masking.specs.declared.Call.{Call}
use Rattle.masking.proofs.Words.{assign_words, store_words, under_words, return_words, plain_return_words}
use Rattle.masking.proofs.Words.{call_words, plain_call_words}

-- a word by what it is made of
made : (o : ℕ) (out : List ℕ) (p : ℕ) (t : List ℕ) (v w : ℕ) → w ≡ v → ◌≡◌ {A = Output} (p, t) (write o out w) → ◌≡◌ {A = Output} (p, t) (write o out v)
made o out p t v w h e = e ∙ ap (λ (z : ℕ). write o out z) h

-- ---- words with no part that was read

module _ (o : ℕ) (out : List ℕ) (r : ℕ) (u : List ℕ) where
  one_on : (v w : ℕ) → w ≡ v → ◌≡◌ {A = Output} (r, u) (write o out w) → ◌≡◌ {A = Output} (r, u) (writes o out (v ∷ []))
  one_on v w h e = made o out r u v w h e ∙ sym (writes_one o out v)

  module _ (a : Act) where
    pub act_both : (v w : ℕ) → a.pc ≡ true → a.rc ≡ true → v ≡ word_with 10 a.arm → w ≡ word_with 10 a.live
        → ◌≡◌ {A = Output} (r, u) (writes o out (word_with 13 13 ∷ (v ∷ (w ∷ []))))
        → ◌≡◌ {A = Output} (r, u) (writes o out (expression_words (act_of a)))
    unfolding act expression_words
    act_both v w h i hv hw e =
        rw (h, i)
        (e ∙ ap (λ (z : ℕ). writes o out (word_with 13 13 ∷ (z ∷ (w ∷ [])))) hv ∙ ap (λ (z : ℕ). writes o out (word_with 13 13 ∷ (word_with 10 a.arm ∷ (z ∷ [])))) hw)

    pub act_arm : (v : ℕ) → a.pc ≡ true → a.rc ≡ false → v ≡ word_with 10 a.arm → ◌≡◌ {A = Output} (r, u) (write o out v)
        → ◌≡◌ {A = Output} (r, u) (writes o out (expression_words (act_of a)))
    unfolding act expression_words
    act_arm v h i hv e = rw (h, i) (one_on (word_with 10 a.arm) v hv e)

    pub act_live : (v : ℕ) → a.pc ≡ false → v ≡ word_with 10 a.live → ◌≡◌ {A = Output} (r, u) (write o out v)
        → ◌≡◌ {A = Output} (r, u) (writes o out (expression_words (act_of a)))
    unfolding act expression_words
    act_live v h hv e = rw h (one_on (word_with 10 a.live) v hv e)

    pub prefix_on : (head p : ℕ) (t : List ℕ) → secret_context a ≡ true → ◌≡◌ {A = Output} (p, t) (write o out head)
        → ◌≡◌ {A = Output} (r, u) (writes p t (expression_words (act_of a)))
        → ◌≡◌ {A = Output} (r, u) (writes o out (prefix (secret_context a) head (act_of a)))
    unfolding prefix
    prefix_on head p t c e f = rw c (word_run o out p t head (expression_words (act_of a)) (r, u) e f)

    pub select_act : (p : ℕ) (t : List ℕ) → ◌≡◌ {A = Output} (p, t) (write o out (word_with 14 0))
        → ◌≡◌ {A = Output} (r, u) (writes p t (expression_words (act_of a)))
        → ◌≡◌ {A = Output} (r, u) (writes o out (word_with 14 0 ∷ expression_words (act_of a)))
    select_act p t e f = word_run o out p t (word_with 14 0) (expression_words (act_of a)) (r, u) e f

    pub selected_on : (y v w p : ℕ) (t : List ℕ) (q : ℕ) (s : List ℕ) (x : ℕ) → w ≡ statement_word_with 0 y → x ≡ word_with 10 y
        → ◌≡◌ {A = Output} (p, t) (write o out w)
        → ◌≡◌ {A = Output} (q, s) (writes p t (word_with 14 0 ∷ expression_words (act_of a)))
        → ◌≡◌ {A = Output} (r, u) (writes q s (v ∷ (x ∷ [])))
        → ◌≡◌ {A = Output} (r, u) (writes o out (selected_words y (act_of a) v))
    selected_on y v w p t q s x hw hx e f g =
        word_run o out p t (statement_word_with 0 y) _ (r, u) (made o out p t (statement_word_with 0 y) w hw e)
        (run_run p t q s (word_with 14 0 ∷ expression_words (act_of a)) (v ∷ (word_with 10 y ∷ [])) (r, u) f
        (g ∙ ap (λ (z : ℕ). writes q s (v ∷ (z ∷ []))) hx))

    pub negation_on : (k w p : ℕ) (t : List ℕ) (q : ℕ) (s : List ℕ) (x : ℕ) → w ≡ statement_word_with 0 (k + 1) → x ≡ word_with 10 k
        → ◌≡◌ {A = Output} (p, t) (write o out w)
        → ◌≡◌ {A = Output} (q, s) (writes p t (prefix (secret_context a) (word_with 13 13) (act_of a)))
        → ◌≡◌ {A = Output} (r, u) (writes q s (word_with 12 0 ∷ (x ∷ [])))
        → ◌≡◌ {A = Output} (r, u) (writes o out (statement_words (assign (k + 1) (under (secret_context a) (act_of a) (unary 0 0 (variable 0 k))))))
    unfolding expression_words
    negation_on k w p t q s x hw hx e f g =
        word_run o out p t (statement_word_with 0 (k + 1)) _ (r, u) (made o out p t (statement_word_with 0 (k + 1)) w hw e)
        (run_run p t q s (prefix (secret_context a) (word_with 13 13) (act_of a)) (word_with 12 0 ∷ (word_with 10 k ∷ [])) (r, u) f
        (g ∙ ap (λ (z : ℕ). writes q s (word_with 12 0 ∷ (z ∷ []))) hx))
        ∙ ap (λ ws. writes o out ws) (under_words (secret_context a) (act_of a) (unary 0 0 (variable 0 k)) (k + 1))

    pub tail_on : (x k p : ℕ) (t : List ℕ) (v : ℕ) → v ≡ word_with 10 k → ◌≡◌ {A = Output} (p, t) (writes o out (expression_words (act_of a)))
        → ◌≡◌ {A = Output} (r, u) (writes p t (selected_words x (act_of a) v))
        → ◌≡◌ {A = Output} (r, u) (writes o out (expression_words (act_of a) ++ selected_words x (act_of a) (word_with 10 k)))
    tail_on x k p t v hv e f =
        run_run o out p t (expression_words (act_of a)) (selected_words x (act_of a) (word_with 10 k)) (r, u) e
        (f ∙ ap (λ (z : ℕ). writes p t (selected_words x (act_of a) z)) hv)

    pub old_on : (y v : ℕ) → secret_context a ≡ true → v ≡ word_with 10 y → ◌≡◌ {A = Output} (r, u) (write o out v)
        → ◌≡◌ {A = Output} (r, u) (writes o out (old_variable (secret_context a) y))
    unfolding old_variable
    old_on y v c hv e = rw c (one_on (word_with 10 y) v hv e)

  pub true_on : (g : Bool) → g ≡ true → ◌≡◌ {A = Output} (r, u) (write o out (word_with 9 1)) → ◌≡◌ {A = Output} (r, u) (writes o out (pick g (word_with 9 1 ∷ []) []))
  true_on g c e = rw c (e ∙ sym (writes_one o out (word_with 9 1)))

module _ (o : ℕ) (out : List ℕ) where
  pub prefix_none : (head : ℕ) (a : Act) → secret_context a ≡ false → ◌≡◌ {A = Output} (o, out) (writes o out (prefix (secret_context a) head (act_of a)))
  unfolding prefix
  prefix_none head a c = rw c (sym (writes_nil o out))

  pub old_none : (a : Act) (y : ℕ) → secret_context a ≡ false → ◌≡◌ {A = Output} (o, out) (writes o out (old_variable (secret_context a) y))
  unfolding old_variable
  old_none a y c = rw c (sym (writes_nil o out))

  pub true_none : (g : Bool) → g ≡ false → ◌≡◌ {A = Output} (o, out) (writes o out (pick g (word_with 9 1 ∷ []) []))
  true_none g c = rw c (sym (writes_nil o out))

pub ruleset act·rules = (act_both, act_arm, act_live)

-- ---- with an expression that was read

-- a value behind the word of an operator and the act
module _ (first head : ℕ) (a : Act) (o : ℕ) (out : List ℕ) (x : Parse Expression) (e : Expression) (n : ℕ) (q : x ≡ got e n) where
  value_on : (p : ℕ) (t : List ℕ) (r : Copied) → ◌≡◌ {A = Output} (p, t) (writes o out (prefix (secret_context a) head (act_of a)))
      → r ≡ copied first p t x → r ≡ spot n (writes o out (prefix (secret_context a) head (act_of a) ++ expression_words (moved first e)))
  value_on p t r f g =
      run_copy o out p t (prefix (secret_context a) head (act_of a)) (expression_words (moved first e)) n r f (g ∙ copied_got first p t x e n q)

module _ (first : ℕ) (a : Act) (o : ℕ) (out : List ℕ) (x : Parse Expression) (ok-x : ok x ≡ true) where
  module _ (w p : ℕ) (t : List ℕ) (m : ℕ) (t1 : List ℕ) (v vo : ℕ) (t2 : List ℕ) (r : ℕ) (u : List ℕ)
      (e : ◌≡◌ {A = Output} (p, t) (write o out w)) (f : ◌≡◌ {A = Copied} (v, (vo, t2)) (copied first m t1 x)) where
    pub assign_on : (y : ℕ) → w ≡ statement_word_with 0 y → ◌≡◌ {A = Output} (m, t1) (writes p t (prefix (secret_context a) (word_with 14 0) (act_of a)))
        → ◌≡◌ {A = Output} (r, u) (writes vo t2 (old_variable (secret_context a) y))
        → ◌≡◌ {A = Copied} (v, (r, u)) (assigned first y a o out x)
    unfolding assigned
    assign_on y hw d g =
        let (b, n, q) = got_ok x ok-x in
        word_copy o out p t (statement_word_with 0 y) _ n (v, (r, u)) (made o out p t (statement_word_with 0 y) w hw e)
        (copy_run p t v vo t2 (prefix (secret_context a) (word_with 14 0) (act_of a) ++ expression_words (moved first b)) n
        (value_on first (word_with 14 0) a p t x b n q m t1 (v, (vo, t2)) d f) (old_variable (secret_context a) y) r u g)
        ∙ ap (λ ws. spot n (writes o out ws)) (assign_words (secret_context a) (act_of a) (moved first b) y)
        ∙ ap (λ z. assigned first y a o out z) (sym q)

    pub condition_on : (k : ℕ) → w ≡ statement_word_with 0 k → ◌≡◌ {A = Output} (m, t1) (writes p t (prefix (secret_context a) (word_with 13 13) (act_of a)))
        → ◌≡◌ {A = Output} (r, u) (writes vo t2 (statement_words (assign (k + 1) (under (secret_context a) (act_of a) (unary 0 0 (variable 0 k))))))
        → ◌≡◌ {A = Copied} (v, (r, u)) (conditioned first k a o out x)
    unfolding conditioned
    condition_on k hw d g =
        let (b, n, q) = got_ok x ok-x in
        word_copy o out p t (statement_word_with 0 k) _ n (v, (r, u)) (made o out p t (statement_word_with 0 k) w hw e)
        (copy_run p t v vo t2 (prefix (secret_context a) (word_with 13 13) (act_of a) ++ expression_words (moved first b)) n
        (value_on first (word_with 13 13) a p t x b n q m t1 (v, (vo, t2)) d f) _ r u g)
        ∙ ap (λ ws. spot n (writes o out (ws ++ statement_words (assign (k + 1) (under (secret_context a) (act_of a) (unary 0 0 (variable 0 k)))))))
        (under_words (secret_context a) (act_of a) (moved first b) k)
        ∙ ap (λ z. conditioned first k a o out z) (sym q)

  module _ (rv : ℕ) where
    pub return_on : (v vo : ℕ) (t : List ℕ) (r : ℕ) (u : List ℕ) → secret_context a ≡ true → ◌≡◌ {A = Copied} (v, (vo, t)) (assigned first rv a o out x)
        → ◌≡◌ {A = Output} (r, u) (writes vo t (selected_words (rv + 1) (act_of a) (word_with 9 0)))
        → ◌≡◌ {A = Copied} (v, (r, u)) (returned first rv a o out x)
    unfolding assigned returned
    return_on v vo t r u c e f =
        let (b, n, q) = got_ok x ok-x in
        copy_run o out v vo t (statement_words (assign rv (masked (secret_context a) (act_of a) (moved first b) (variable 0 rv)))) n
        (e ∙ ap (λ z. assigned first rv a o out z) q) (selected_words (rv + 1) (act_of a) (word_with 9 0)) r u f
        ∙ ap (λ ws. spot n (writes o out ws)) (return_words (secret_context a) (act_of a) (moved first b) rv c)
        ∙ ap (λ z. returned first rv a o out z) (sym q)

    pub return_plain : (p : ℕ) (t : List ℕ) (r ro : ℕ) (u : List ℕ) → secret_context a ≡ false → ◌≡◌ {A = Output} (p, t) (write o out (statement_word_with 4 0))
        → ◌≡◌ {A = Copied} (r, (ro, u)) (copied first p t x) → ◌≡◌ {A = Copied} (r, (ro, u)) (returned first rv a o out x)
    unfolding returned
    return_plain p t r ro u c e f =
        let (b, n, q) = got_ok x ok-x in
        word_copy o out p t (statement_word_with 4 0) (expression_words (moved first b)) n (r, (ro, u)) e (f ∙ copied_got first p t x b n q)
        ∙ ap (λ ws. spot n (writes o out ws)) (plain_return_words (secret_context a) (act_of a) (moved first b) rv c)
        ∙ ap (λ z. returned first rv a o out z) (sym q)

module _ (first c o : ℕ) (out : List ℕ) (x : Parse Expression) (ok-x : ok x ≡ true) (w p : ℕ) (t : List ℕ) (r ro : ℕ) (u : List ℕ)
    (e : ◌≡◌ {A = Output} (p, t) (write o out w)) (f : ◌≡◌ {A = Copied} (r, (ro, u)) (copied first p t x)) where
  pub index_on : w ≡ statement_word_with 1 c → ◌≡◌ {A = Copied} (r, (ro, u)) (indexed first c o out x)
  unfolding indexed
  index_on hw =
      let (i, n, q) = got_ok x ok-x in
      word_copy o out p t (statement_word_with 1 c) (expression_words (moved first i)) n (r, (ro, u)) (made o out p t (statement_word_with 1 c) w hw e)
      (f ∙ copied_got first p t x i n q)
      ∙ ap (λ z. indexed first c o out z) (sym q)

  pub cell_on : (a : Act) → secret_context a ≡ true → w ≡ word_with 11 c → ◌≡◌ {A = Output} (ro, u) (kept_cell (secret_context a) first c o out x)
  unfolding kept_cell old_cell
  cell_on a h hw =
      let (i, n, q) = got_ok x ok-x in
      ap (λ (z : Copied). z.1)
      (word_copy o out p t (word_with 11 c) (expression_words (moved first i)) n (r, (ro, u)) (made o out p t (word_with 11 c) w hw e) (f ∙ copied_got first p t x i n q))
      ∙ ap (λ (b : Bool). writes o out (old_cell b c (moved first i))) (sym h) ∙ ap (λ z. kept_cell (secret_context a) first c o out z) (sym q)

pub cell_none : (a : Act) (first c o : ℕ) (out : List ℕ) (x : Parse Expression) → secret_context a ≡ false
    → ◌≡◌ {A = Output} (o, out) (kept_cell (secret_context a) first c o out x)
unfolding kept_cell old_cell
cell_none a first c o out (got i n) h = rw h (sym (writes_nil o out))
cell_none a first c o out (refused n p) h = refl

module _ (first l : ℕ) (image : List ℕ) (at c o : ℕ) (out : List ℕ) (i io : ℕ) (t : List ℕ)
    (e : ◌≡◌ {A = Copied} (i, (io, t)) (indexed first c o out (read_expression l image at))) where
  index_end : i ≡ end_of (read_expression l image at)
  unfolding indexed end_of
  index_end = ap (λ (z : Copied). z.0) e ∙ go (read_expression l image at)
    where
      go : (x : Parse Expression) → (indexed first c o out x).0 ≡ end_of x
      go (got j n) = refl
      go (refused n p) = refl

  pub value_read : ExpressionRead l image (end_of (read_expression l image at)) → ExpressionRead l image i
  value_read f = rw index_end f

  pub store_on : (a : Act) (p : ℕ) (t1 : List ℕ) (v vo : ℕ) (t2 : List ℕ) (r : ℕ) (u : List ℕ) → ok (read_expression l image at) ≡ true
      → ok (read_expression l image (end_of (read_expression l image at))) ≡ true
      → ◌≡◌ {A = Output} (p, t1) (writes io t (prefix (secret_context a) (word_with 14 0) (act_of a)))
      → ◌≡◌ {A = Copied} (v, (vo, t2)) (copied first p t1 (read_expression l image i))
      → ◌≡◌ {A = Output} (r, u) (kept_cell (secret_context a) first c vo t2 (read_expression l image at))
      → ◌≡◌ {A = Copied} (v, (r, u))
      (stored first c a o out (read_expression l image at) (read_expression l image (end_of (read_expression l image at))))
  unfolding indexed stored kept_cell
  store_on a p t1 v vo t2 r u ok-x ok-y d f g =
      let (j, n, q) = got_ok (read_expression l image at) ok-x in
      let (b, m, s) = got_ok (read_expression l image (end_of (read_expression l image at))) ok-y in
      let h : read_expression l image i ≡ got b m = ap (λ z. read_expression l image z) index_end ∙ s in
      let k : ◌≡◌ {A = Copied} (i, (io, t)) (spot n (writes o out (statement_word_with 1 c ∷ expression_words (moved first j)))) =
      e ∙ ap (λ z. indexed first c o out z) q in
      copy_run o out v vo t2 _ m
      (copy_copy o out i io t (statement_word_with 1 c ∷ expression_words (moved first j)) n k
      (prefix (secret_context a) (word_with 14 0) (act_of a) ++ expression_words (moved first b)) m (v, (vo, t2))
      (value_on first (word_with 14 0) a io t (read_expression l image i) b m h p t1 (v, (vo, t2)) d f))
      (old_cell (secret_context a) c (moved first j)) r u (g ∙ ap (λ z. kept_cell (secret_context a) first c vo t2 z) q)
      ∙ ap (λ ws. spot m (writes o out ws)) (store_words (secret_context a) c (moved first j) (act_of a) (moved first b))
      ∙ ap (λ (z : Parse Expression). stored first c a o out z (got b m)) (sym q)
      ∙ ap (λ (z : Parse Expression). stored first c a o out (read_expression l image at) z) (sym s)

-- ---- calls

module _ (first o : ℕ) (out : List ℕ) (y : Parse (List Expression)) (ok-y : ok y ≡ true) where
  pub call_head_lem : (f x w p : ℕ) (t : List ℕ) (r ro : ℕ) (u : List ℕ) → w ≡ statement_word_with 5 (f * 256 + x) → ◌≡◌ {A = Output} (p, t) (write o out w)
      → ◌≡◌ {A = Copied} (r, (ro, u)) (copied_arguments first p t y) → ◌≡◌ {A = Copied} (r, (ro, u)) (call_head first f x o out y)
  unfolding call_head
  call_head_lem f x w p t r ro u hw e g =
      let (es, n, q) = got_ok y ok-y in
      word_copy o out p t (statement_word_with 5 (f * 256 + x)) (argument_words (moved_all first es)) n (r, (ro, u))
      (made o out p t (statement_word_with 5 (f * 256 + x)) w hw e) (g ∙ arguments_got first p t y es n q)
      ∙ ap (λ z. call_head first f x o out z) (sym q)

  module _ (c : Call) (a : Act) (v vo : ℕ) (t : List ℕ) (r : ℕ) (u : List ℕ) where
    pub call_secret : secret_context a ≡ true → ◌≡◌ {A = Copied} (v, (vo, t)) (call_head first c.called c.temporary o out y)
        → ◌≡◌ {A = Output} (r, u) (writes vo t (expression_words (act_of a) ++ selected_words c.result (act_of a) (word_with 10 c.temporary)))
        → ◌≡◌ {A = Copied} (v, (r, u)) (called first c a o out y)
    unfolding call_head called
    call_secret h e g =
        let (es, n, q) = got_ok y ok-y in
        copy_run o out v vo t (statement_word_with 5 (c.called * 256 + c.temporary) ∷ argument_words (moved_all first es)) n
        (e ∙ ap (λ z. call_head first c.called c.temporary o out z) q) _ r u g
        ∙ ap (λ ws. spot n (writes o out ws)) (call_words (secret_context a) c.guarded (act_of a) c.temporary c.called c.result (moved_all first es) h)
        ∙ ap (λ z. called first c a o out z) (sym q)

    pub call_public : secret_context a ≡ false → ◌≡◌ {A = Copied} (v, (vo, t)) (call_head first c.called c.result o out y)
        → ◌≡◌ {A = Output} (r, u) (writes vo t (pick c.guarded (word_with 9 1 ∷ []) []))
        → ◌≡◌ {A = Copied} (v, (r, u)) (called first c a o out y)
    unfolding call_head called
    call_public h e g =
        let (es, n, q) = got_ok y ok-y in
        copy_run o out v vo t (statement_word_with 5 (c.called * 256 + c.result) ∷ argument_words (moved_all first es)) n
        (e ∙ ap (λ z. call_head first c.called c.result o out z) q) _ r u g
        ∙ ap (λ ws. spot n (writes o out ws)) (plain_call_words (secret_context a) c.guarded (act_of a) c.temporary c.called c.result (moved_all first es) h)
        ∙ ap (λ z. called first c a o out z) (sym q)
