-- What the returns of ifs, fors and bodies give, and what their calls ask. Assumes nothing.
use Prim.Native.Nat.{ℕ, ◌+◌, ◌*◌, ◌-◌, ◌≤◌, ◌<◌}
use mathlib.Core.Bool.{Bool, true, false, ◌||◌}
use mathlib.Core.List.{List, ◌∷◌, ◌++◌}
use mathlib.Core.Path.{◌≡◌, refl, sym, ap, ◌∙◌}
use native.Mathlib.Omega.{arith}
use lib.ListN.{length, get_or}
use Rattle.definitions.specs.Image.{op_of, target_of, Expression, conditional, loop, Block, Procedure}
use Rattle.definitions.specs.Reading.{Parse, got, refused, read_expression, read_statement, read_block}
use Rattle.definitions.specs.Labels.{secret_in, rc_after_block}
use Rattle.definitions.specs.Encoding.{word_with, statement_word_with, expression_words, statement_count, statements_words, block_words}
use Rattle.definitions.specs.Compiling.{renamed, moved, compiled_block}
use Rattle.laws.specs.Parses.{ok, got_ok, end_of, end_of_lem}
use Rattle.laws.specs.StatementInversion.{open_if, open_for}
use Rattle.laws.specs.Tests.{or_true, or_false}
use Rattle.image_words.specs.Read.{BlockRead}
use Rattle.image_words.specs.StatementParts.{read_then, read_else, read_body}
use Rattle.writer.specs.Writing.{Output, write, writes}
use Rattle.writer.specs.Laws.{writes_on, writes_app, patched}
use Rattle.contexts.specs.Context.{seen, passed_block}
use Rattle.contexts.specs.declared.Passed.{Passed}
use Rattle.contexts.specs.declared.Seen.{Seen}
use Rattle.copying.specs.Copy.{Copied, spot}
use Rattle.masking.specs.Forms.{condition_words, conditioned}
use Rattle.masking.specs.declared.Act.{Act}
use Rattle.emission.specs.Emitted.{Emission, outcome, act_at, temporary_at, Ready, block_code, after_block, emitted, emitted_block, emitted_body, if_head, for_head}
use Rattle.laws.specs.Following.{one_count}
use Rattle.emission.specs.declared.Scope.{Scope}
use Rattle.emission.specs.declared.Cursor.{Cursor}
use Rattle.emission.proofs.Outcomes.{outcome_eq}
use Rattle.emission.proofs.Shapes.{arm_code, secret_count, secret_words, public_count, public_words, if_step}
use Rattle.emission.proofs.Shapes.{if_rc, for_step, for_rc, for_words}

-- the scope of a secret arm, and a cursor at another place
abbrev pub arm_of : Scope → ℕ → Scope
arm_of s arm = record { pc = true; arm = arm; first = s.first; rv = s.rv; pair = s.pair + 2; word = s.word; boolean = s.boolean }

abbrev move_to : Cursor → ℕ → Cursor
move_to c at = record { at = at; n = c.n; rc = c.rc }

-- ---- what the walk asks of its numbers

-- further on in the same scope
pub ready_on : (image : List ℕ) (s : Scope) (c d : Cursor) → Ready image s c → c.at ≤ d.at → d.n ≤ 2 * d.at + 10 → Ready image s d
ready_on image s c d r a n =
    record {
      short = r.short;
      few_statements = n;
      low_pair = let p = r.low_pair in omega arith;
      low_arm = r.low_arm;
      low_rv = r.low_rv;
      low_word = r.low_word;
      low_boolean = r.low_boolean;
    }

-- in an arm of a secret if, behind the condition: the next pair is two further, and so is the place by then
pub ready_arm : (image : List ℕ) (s : Scope) (c d : Cursor) (arm : ℕ) → Ready image s c → arm ≤ s.pair + 1 → c.at < d.at
    → d.at ≤ length image → d.n ≤ 2 * d.at + 10 → Ready image (arm_of s arm) d
ready_arm image s c d arm r u a w n =
    let p = r.low_pair in
    let l = r.short in
    record {
      short = r.short;
      few_statements = n;
      low_pair = omega arith;
      low_arm = omega arith;
      low_rv = r.low_rv;
      low_word = r.low_word;
      low_boolean = r.low_boolean;
    }

-- ---- where the parts end

condition_end : (first k : ℕ) (a : Act) (o : ℕ) (out : List ℕ) (x : Parse Expression) (v p : ℕ) (t : List ℕ)
    → ◌≡◌ {A = Copied} (v, (p, t)) (conditioned first k a o out x) → v ≡ end_of x
unfolding conditioned end_of
condition_end first k a o out (got e n) v p t q = ap (λ (z : Copied). z.0) q
condition_end first k a o out (refused n m) v p t q = ap (λ (z : Copied). z.0) q

if_head_end : (first o : ℕ) (out : List ℕ) (x : Parse Expression) (v p : ℕ) (t : List ℕ) → ◌≡◌ {A = Copied} (v, (p, t)) (if_head first o out x) → v ≡ end_of x
unfolding if_head end_of
if_head_end first o out (got e n) v p t q = ap (λ (z : Copied). z.0) q
if_head_end first o out (refused n m) v p t q = ap (λ (z : Copied). z.0) q

for_head_end : (first y o : ℕ) (out : List ℕ) (x z : Parse Expression) (v p : ℕ) (t : List ℕ) (e : Expression) (n : ℕ) → x ≡ got e n
    → ◌≡◌ {A = Copied} (v, (p, t)) (for_head first y o out x z) → v ≡ end_of z
unfolding for_head end_of
for_head_end first y o out x z v p t e n h q = go z (q ∙ ap (λ w. for_head first y o out w z) h)
  where
    go : (w : Parse Expression) → ◌≡◌ {A = Copied} (v, (p, t)) (for_head first y o out (got e n) w) → v ≡ end_of w
    go (got f m) w = ap (λ (u : Copied). u.0) w
    go (refused m r) w = ap (λ (u : Copied). u.0) w

module _ (ps : List Procedure) (arrays types : List ℕ) (s : Scope) (c : Cursor) (o : ℕ) (out : List ℕ) (x : Parse Block) (d : Cursor) (v : ℕ) (t : List ℕ) where
  block_end : ◌≡◌ {A = Emission} (d, (v, t)) (emitted_block ps arrays types s c o out x) → d.at ≡ end_of x
  unfolding emitted_block end_of
  block_end e = ap (λ (z : Emission). z.0.at) e ∙ go x
    where
      go : (y : Parse Block) → (emitted_block ps arrays types s c o out y).0.at ≡ end_of y
      go (got b m) = refl
      go (refused m p) = refl

  body_end : ◌≡◌ {A = Emission} (d, (v, t)) (emitted_body ps arrays types s c o out x) → d.at ≡ end_of x
  unfolding emitted_body end_of
  body_end e = ap (λ (z : Emission). z.0.at) e ∙ go x
    where
      go : (y : Parse Block) → (emitted_body ps arrays types s c o out y).0.at ≡ end_of y
      go (got b m) = refl
      go (refused m p) = refl

-- ---- blocks and bodies

module _ (ps : List Procedure) (arrays types : List ℕ) (s : Scope) (c : Cursor) where
  pub body_on : (o : ℕ) (out : List ℕ) (x : Parse Block) → ok x ≡ true → (p : ℕ) (t1 : List ℕ) (d : Cursor) (q1 : ℕ) (t2 : List ℕ) (q2 : ℕ) (t3 : List ℕ) (w : ℕ)
      → ◌≡◌ {A = Output} (p, t1) (write o out 0)
      → ◌≡◌ {A = Emission} (d, (q1, t2)) (emitted_block ps arrays types s (record { at = c.at; n = 0; rc = c.rc }) p t1 x)
      → w ≡ word_with 5 d.n → q2 ≡ q1 → t3 ≡ (write o t2 w).1
      → ◌≡◌ {A = Emission} (d, (q2, t3)) (emitted_body ps arrays types s c o out x)
  unfolding emitted_block emitted_body block_words
  body_on o out x h p t1 d q1 t2 q2 t3 w e f hw hq g =
      let (b, m, q) = got_ok x h in
      let B = block_code ps arrays types s c b in
      let z : 0 + statement_count B ≡ statement_count B = omega arith in
      let D : ◌≡◌ {A = Emission} (d, (q1, t2)) (after_block ps arrays types s c b m (0 + statement_count B) (writes o out (0 ∷ statements_words B))) =
      f ∙ ap (λ (y : Output). emitted_block ps arrays types s (record { at = c.at; n = 0; rc = c.rc }) y.0 y.1 x) e
      ∙ ap (λ y. emitted_block ps arrays types s (record { at = c.at; n = 0; rc = c.rc }) (write o out 0).0 (write o out 0).1 y) q
      ∙ ap (λ (y : Output). after_block ps arrays types s c b m (0 + statement_count B) y) (sym (writes_on o out 0 (statements_words B))) in
      ap (λ (y : ℕ). (d, (y, t3))) hq ∙ ap (λ (t : List ℕ). (d, (q1, t))) (g ∙ ap (λ (y : ℕ). (write o t2 y).1) hw)
      ∙ ap (λ (y : Emission). (y.0, (y.1.0, (write o y.1.1 (word_with 5 y.0.n)).1)))
      (D ∙ ap (λ (y : ℕ). after_block ps arrays types s c b m y (writes o out (0 ∷ statements_words B))) z)
      ∙ ap (λ (y : Output). after_block ps arrays types s c b m (statement_count B) y) (patched o out 0 (word_with 5 (statement_count B)) (statements_words B))
      ∙ ap (λ y. emitted_body ps arrays types s c o out y) (sym q)

  -- a block or a body behind other words
  module _ (at o : ℕ) (out : List ℕ) (x : Parse Block) (b : Block) (m : ℕ) (ws : List ℕ) (q : x ≡ got b m) where
    block_got : emitted_block ps arrays types s (move_to c at) (writes o out ws).0 (writes o out ws).1 x
        ≡ after_block ps arrays types s c b m (c.n + statement_count (block_code ps arrays types s c b))
        (writes o out (ws ++ statements_words (block_code ps arrays types s c b)))
    unfolding emitted_block
    block_got = rw (q, writes_app ws (statements_words (block_code ps arrays types s c b)) o out)

    body_got : emitted_body ps arrays types s (move_to c at) (writes o out ws).0 (writes o out ws).1 x
        ≡ after_block ps arrays types s c b m (statement_count (block_code ps arrays types s c b))
        (writes o out (ws ++ block_words (block_code ps arrays types s c b)))
    unfolding emitted_body
    body_got = rw (q, writes_app ws (block_words (block_code ps arrays types s c b)) o out)

-- ---- ifs

module _ (ps : List Procedure) (arrays types : List ℕ) (s : Scope) (c : Cursor) (o : ℕ) (out : List ℕ) (d : Expression) (a b : Block) (m : ℕ) where
  -- the pure equation of a secret if
  secret_all : secret_in types arrays d ≡ true
      → outcome m (c.n + 2 + statement_count (arm_code ps arrays types s c a true s.pair (s.pair + 2))
      + statement_count (arm_code ps arrays types s c b true (s.pair + 1) (s.pair + 2)))
      (rc_after_block types arrays true c.rc a || rc_after_block types arrays true c.rc b)
      (writes o out ((condition_words s.pair (act_at s c) (moved s.first d)
      ++ statements_words (arm_code ps arrays types s c a true s.pair (s.pair + 2)))
      ++ statements_words (arm_code ps arrays types s c b true (s.pair + 1) (s.pair + 2))))
      ≡ emitted ps arrays types s c o out (got (conditional d a b) m)
  unfolding emitted
  secret_all h =
      rw (if_step ps arrays types s c d a b, if_rc ps arrays types s c d a b, h, or_true s.pc)
      (outcome_eq m _ _ _ _ _
      (let z = secret_count (act_at s c) s.pair (moved s.first d) (arm_code ps arrays types s c a) (arm_code ps arrays types s c b) in omega arith)
      (ap (λ ws. writes o out ws) (sym (secret_words (act_at s c) s.pair (moved s.first d) (arm_code ps arrays types s c a)
      (arm_code ps arrays types s c b)))))

  public_all : secret_in types arrays d ≡ false
      → outcome m (c.n + 1)
      (rc_after_block types arrays s.pc c.rc a || rc_after_block types arrays s.pc c.rc b)
      (writes o out (((statement_word_with 2 0 ∷ expression_words (moved s.first d))
      ++ block_words (arm_code ps arrays types s c a s.pc s.arm s.pair))
      ++ block_words (arm_code ps arrays types s c b s.pc s.arm s.pair)))
      ≡ emitted ps arrays types s c o out (got (conditional d a b) m)
  unfolding emitted
  public_all h =
      rw (if_step ps arrays types s c d a b, if_rc ps arrays types s c d a b, h, or_false s.pc)
      (outcome_eq m _ _ _ _ _
      (ap (λ z. c.n + z) (sym (public_count (act_at s c) s.pair (moved s.first d) (arm_code ps arrays types s c a) (arm_code ps arrays types s c b))))
      (ap (λ ws. writes o out ws) (sym (public_words (act_at s c) s.pair (moved s.first d) (arm_code ps arrays types s c a)
      (arm_code ps arrays types s c b)))))

-- the label of a condition that was read
label_of : (types arrays : List ℕ) (x : Parse Expression) (d : Expression) (m : ℕ) (s : Bool) → x ≡ got d m → (seen types arrays x).secret ≡ s → secret_in types arrays d ≡ s
unfolding seen
label_of types arrays x d m s q h = sym (ap (λ z. (seen types arrays z).secret) q) ∙ h

pub label_is : (types arrays : List ℕ) (x : Parse Expression) (r : Seen) (s : Bool) → r ≡ seen types arrays x → r.secret ≡ s → (seen types arrays x).secret ≡ s
label_is types arrays x r s e h = sym (ap (λ (z : Seen). z.secret) e) ∙ h

-- the first block of an if and the body of a for, where their heads end
module _ (s : Scope) (c : Cursor) (o : ℕ) (out : List ℕ) (l : ℕ) (params : List ℕ) (me : ℕ) (image : List ℕ) (t : ok (read_statement l params me image c.at) ≡ true)
    (v vo : ℕ) (t1 : List ℕ) where
  pub secret_then : (a : Act) → op_of (get_or image c.at 0) ≡ 2
      → ◌≡◌ {A = Copied} (v, (vo, t1)) (conditioned s.first s.pair a o out (read_expression (l - 1) image (c.at + 1)))
      → BlockRead (l - 1) params me image v
  secret_then a two e = read_then l params me image c.at t 2 (sym two) refl v (condition_end s.first s.pair a o out _ v vo t1 e)

  pub public_then : op_of (get_or image c.at 0) ≡ 2
      → ◌≡◌ {A = Copied} (v, (vo, t1)) (if_head s.first o out (read_expression (l - 1) image (c.at + 1))) → BlockRead (l - 1) params me image v
  public_then two e = read_then l params me image c.at t 2 (sym two) refl v (if_head_end s.first o out _ v vo t1 e)

  pub body_read : (y : ℕ) → op_of (get_or image c.at 0) ≡ 3
      → ◌≡◌ {A = Copied} (v, (vo, t1)) (for_head s.first y o out (read_expression (l - 1) image (c.at + 1))
      (read_expression (l - 1) image (end_of (read_expression (l - 1) image (c.at + 1))))) → BlockRead (l - 1) params me image v
  body_read y three f =
      let (d, m, e, j, z, p, q, r, u, w) = open_for l params me image c.at t three in
      read_body l params me image c.at t 3 (sym three) refl v (for_head_end s.first y o out _ _ v vo t1 d m q f)

module _ (ps : List Procedure) (arrays types : List ℕ) (s : Scope) (c : Cursor) (o : ℕ) (out : List ℕ) (l : ℕ) (params : List ℕ) (me : ℕ) (image : List ℕ)
    (t : ok (read_statement l params me image c.at) ≡ true) (two : op_of (get_or image c.at 0) ≡ 2) (v vo : ℕ) (t1 : List ℕ) where
  -- behind the condition
  module _ (a : Act) (e : ◌≡◌ {A = Copied} (v, (vo, t1)) (conditioned s.first s.pair a o out (read_expression (l - 1) image (c.at + 1)))) where
    module _ (x : Cursor) (xo : ℕ) (t2 : List ℕ)
        (f : ◌≡◌ {A = Emission} (x, (xo, t2)) (emitted_block ps arrays types (arm_of s s.pair)
        (record { at = v; n = c.n + 2; rc = c.rc }) vo t1 (read_block (l - 1) params me image v))) where
      pub secret_else : BlockRead (l - 1) params me image x.at
      secret_else =
          read_else l params me image c.at t 2 (sym two) refl v (condition_end s.first s.pair a o out _ v vo t1 e) x.at
          (block_end ps arrays types (arm_of s s.pair) (record { at = v; n = c.n + 2; rc = c.rc }) vo t1 _ x xo t2 f)

      pub secret_if_on : (y : Cursor) (yo : ℕ) (t3 : List ℕ) → a ≡ act_at s c → (seen types arrays (read_expression (l - 1) image (c.at + 1))).secret ≡ true
          → ◌≡◌ {A = Emission} (y, (yo, t3)) (emitted_block ps arrays types (arm_of s (s.pair + 1))
          (record { at = x.at; n = x.n; rc = c.rc }) xo t2 (read_block (l - 1) params me image x.at))
          → ◌≡◌ {A = Emission} (record { at = y.at; n = y.n; rc = x.rc || y.rc }, (yo, t3))
          (emitted ps arrays types s c o out (read_statement l params me image c.at))
      unfolding conditioned
      secret_if_on y yo t3 ha h g =
          let (d, i, b, j, z, p, q, r, w, u) = open_if l params me image c.at t two in
          let W = condition_words s.pair (act_at s c) (moved s.first d) in
          let A = arm_code ps arrays types s c b true s.pair (s.pair + 2) in
          let B = arm_code ps arrays types s c z true (s.pair + 1) (s.pair + 2) in
          let E : ◌≡◌ {A = Copied} (v, (vo, t1)) (spot i (writes o out W)) =
          e ∙ ap (λ (y : Act). conditioned s.first s.pair y o out (read_expression (l - 1) image (c.at + 1))) ha
          ∙ ap (λ y. conditioned s.first s.pair (act_at s c) o out y) q in
          let F : ◌≡◌ {A = Emission} (x, (xo, t2))
          (outcome j (c.n + 2 + statement_count A) (rc_after_block types arrays true c.rc b) (writes o out (W ++ statements_words A))) =
          f ∙ ap (λ (y : Copied). emitted_block ps arrays types (arm_of s s.pair) (record { at = y.0; n = c.n + 2; rc = c.rc }) y.1.0 y.1.1
          (read_block (l - 1) params me image y.0)) E
          ∙ block_got ps arrays types (arm_of s s.pair) (record { at = 0; n = c.n + 2; rc = c.rc }) i o out
          (read_block (l - 1) params me image i) b j W r in
          let G = g ∙ ap (λ (y : Emission). emitted_block ps arrays types (arm_of s (s.pair + 1))
          (record { at = y.0.at; n = y.0.n; rc = c.rc }) y.1.0 y.1.1 (read_block (l - 1) params me image y.0.at)) F
          ∙ block_got ps arrays types (arm_of s (s.pair + 1)) (record { at = 0; n = c.n + 2 + statement_count A; rc = c.rc }) j o out
          (read_block (l - 1) params me image j) z p (W ++ statements_words A) w in
          ap (λ (y : Emission). outcome y.0.at y.0.n (x.rc || y.0.rc) y.1) G
          ∙ ap (λ (y : Emission). outcome p (c.n + 2 + statement_count A + statement_count B)
          (y.0.rc || rc_after_block types arrays true c.rc z) (writes o out ((W ++ statements_words A) ++ statements_words B))) F
          ∙ secret_all ps arrays types s c o out d b z p (label_of types arrays _ d i true q h)
          ∙ ap (λ y. emitted ps arrays types s c o out y) (sym u)

  module _ (e : ◌≡◌ {A = Copied} (v, (vo, t1)) (if_head s.first o out (read_expression (l - 1) image (c.at + 1)))) where
    module _ (x : Cursor) (xo : ℕ) (t2 : List ℕ)
        (f : ◌≡◌ {A = Emission} (x, (xo, t2)) (emitted_body ps arrays types s
        (record { at = v; n = 0; rc = c.rc }) vo t1 (read_block (l - 1) params me image v))) where
      pub public_else : BlockRead (l - 1) params me image x.at
      public_else =
          read_else l params me image c.at t 2 (sym two) refl v (if_head_end s.first o out _ v vo t1 e) x.at
          (body_end ps arrays types s (record { at = v; n = 0; rc = c.rc }) vo t1 _ x xo t2 f)

      pub public_if_on : (y : Cursor) (yo : ℕ) (t3 : List ℕ) → (seen types arrays (read_expression (l - 1) image (c.at + 1))).secret ≡ false
          → ◌≡◌ {A = Emission} (y, (yo, t3)) (emitted_body ps arrays types s
          (record { at = x.at; n = 0; rc = c.rc }) xo t2 (read_block (l - 1) params me image x.at))
          → ◌≡◌ {A = Emission} (record { at = y.at; n = c.n + 1; rc = x.rc || y.rc }, (yo, t3))
          (emitted ps arrays types s c o out (read_statement l params me image c.at))
      unfolding if_head
      public_if_on y yo t3 h g =
          let (d, i, b, j, z, p, q, r, w, u) = open_if l params me image c.at t two in
          let W = statement_word_with 2 0 ∷ expression_words (moved s.first d) in
          let A = arm_code ps arrays types s c b s.pc s.arm s.pair in
          let B = arm_code ps arrays types s c z s.pc s.arm s.pair in
          let E : ◌≡◌ {A = Copied} (v, (vo, t1)) (spot i (writes o out W)) = e ∙ ap (λ y. if_head s.first o out y) q in
          let F : ◌≡◌ {A = Emission} (x, (xo, t2))
          (outcome j (statement_count A) (rc_after_block types arrays s.pc c.rc b) (writes o out (W ++ block_words A))) =
          f ∙ ap (λ (y : Copied). emitted_body ps arrays types s (record { at = y.0; n = 0; rc = c.rc }) y.1.0 y.1.1
          (read_block (l - 1) params me image y.0)) E
          ∙ body_got ps arrays types s (record { at = 0; n = 0; rc = c.rc }) i o out (read_block (l - 1) params me image i) b j W r in
          let G = g ∙ ap (λ (y : Emission). emitted_body ps arrays types s
          (record { at = y.0.at; n = 0; rc = c.rc }) y.1.0 y.1.1 (read_block (l - 1) params me image y.0.at)) F
          ∙ body_got ps arrays types s (record { at = 0; n = 0; rc = c.rc }) j o out
          (read_block (l - 1) params me image j) z p (W ++ block_words A) w in
          ap (λ (y : Emission). outcome y.0.at (c.n + 1) (x.rc || y.0.rc) y.1) G
          ∙ ap (λ (y : Emission). outcome p (c.n + 1)
          (y.0.rc || rc_after_block types arrays s.pc c.rc z) (writes o out ((W ++ block_words A) ++ block_words B))) F
          ∙ public_all ps arrays types s c o out d b z p (label_of types arrays _ d i false q h)
          ∙ ap (λ y. emitted ps arrays types s c o out y) (sym u)

-- ---- a for

for_all : (ps : List Procedure) (arrays types : List ℕ) (s : Scope) (c : Cursor) (o : ℕ) (out : List ℕ) (x : ℕ) (d e : Expression) (b : Block) (m : ℕ)
    → outcome m (c.n + 1) (rc_after_block types arrays s.pc c.rc b)
    (writes o out ((statement_word_with 3 (renamed s.first x) ∷ (expression_words (moved s.first d) ++ expression_words (moved s.first e)))
    ++ block_words (compiled_block ps arrays types s.first s.rv (temporary_at s) b s.pc s.arm (rc_after_block types arrays s.pc c.rc b) s.pair)))
    ≡ emitted ps arrays types s c o out (got (loop x d e b) m)
unfolding emitted
for_all ps arrays types s c o out x d e b m =
    rw (for_step ps arrays types s c x d e b, for_rc ps arrays types s c x d e b)
    (outcome_eq m _ _ _ _ _ (ap (λ z. c.n + z) (sym (one_count _)))
    (ap (λ ws. writes o out ws) (sym (for_words (renamed s.first x) (moved s.first d) (moved s.first e)
    (compiled_block ps arrays types s.first s.rv (temporary_at s) b s.pc s.arm (rc_after_block types arrays s.pc c.rc b) s.pair)))))

module _ (ps : List Procedure) (arrays types : List ℕ) (s : Scope) (c : Cursor) (o : ℕ) (out : List ℕ) (l : ℕ) (params : List ℕ) (me : ℕ) (image : List ℕ)
    (t : ok (read_statement l params me image c.at) ≡ true) (three : op_of (get_or image c.at 0) ≡ 3) (y : ℕ) (v vo : ℕ) (t1 : List ℕ)
    (f : ◌≡◌ {A = Copied} (v, (vo, t1)) (for_head s.first y o out (read_expression (l - 1) image (c.at + 1))
    (read_expression (l - 1) image (end_of (read_expression (l - 1) image (c.at + 1)))))) where
  pub for_on : (x : ℕ) (b : Bool) (d : Cursor) (dq : ℕ) (t2 : List ℕ) → x ≡ target_of (get_or image c.at 0) → y ≡ renamed s.first x
      → b ≡ (passed_block types arrays s.pc c.rc (read_block (l - 1) params me image v)).rc
      → ◌≡◌ {A = Emission} (d, (dq, t2)) (emitted_body ps arrays types s (record { at = v; n = 0; rc = b }) vo t1
      (read_block (l - 1) params me image v))
      → ◌≡◌ {A = Emission} (record { at = d.at; n = c.n + 1; rc = b }, (dq, t2))
      (emitted ps arrays types s c o out (read_statement l params me image c.at))
  unfolding for_head passed_block
  for_on x b d dq t2 hx hy g i =
      let (e, m, h, j, z, p, q, r, u, w) = open_for l params me image c.at t three in
      let X = renamed s.first (target_of (get_or image c.at 0)) in
      let HX : y ≡ X = hy ∙ ap (λ (a : ℕ). renamed s.first a) hx in
      let W = statement_word_with 3 X ∷ (expression_words (moved s.first e) ++ expression_words (moved s.first h)) in
      let RC = rc_after_block types arrays s.pc c.rc z in
      let C : Cursor = record { at = 0; n = 0; rc = RC } in
      let E : ◌≡◌ {A = Copied} (v, (vo, t1)) (spot j (writes o out W)) =
      f ∙ ap (λ a. for_head s.first a o out (read_expression (l - 1) image (c.at + 1)) (read_expression (l - 1) image (end_of (read_expression (l - 1) image (c.at + 1))))) HX
      ∙ ap (λ a. for_head s.first X o out (read_expression (l - 1) image (c.at + 1)) a) (ap (λ a. read_expression (l - 1) image a) (end_of_lem _ e m q) ∙ r)
      ∙ ap (λ a. for_head s.first X o out a (got h j)) q in
      let S : b ≡ RC =
      g ∙ ap (λ (a : Passed). a.rc) (ap (λ (a : Copied). passed_block types arrays s.pc c.rc (read_block (l - 1) params me image a.0)) E
      ∙ ap (λ a. passed_block types arrays s.pc c.rc a) u) in
      let G = i ∙ ap (λ (a : Bool). emitted_body ps arrays types s (record { at = v; n = 0; rc = a }) vo t1 (read_block (l - 1) params me image v)) S
      ∙ ap (λ (a : Copied). emitted_body ps arrays types s (record { at = a.0; n = 0; rc = RC }) a.1.0 a.1.1
      (read_block (l - 1) params me image a.0)) E
      ∙ body_got ps arrays types s C j o out (read_block (l - 1) params me image j) z p W u in
      ap (λ (a : Emission). outcome a.0.at (c.n + 1) b a.1) G
      ∙ ap (λ a. outcome p (c.n + 1) a
      (writes o out (W ++ block_words (block_code ps arrays types s C z)))) S
      ∙ for_all ps arrays types s c o out (target_of (get_or image c.at 0)) e h z p
      ∙ ap (λ a. emitted ps arrays types s c o out a) (sym w)
