-- What each return gives of a statement that holds no block, and what its calls ask. Assumes nothing.
use Prim.Native.Nat.{ℕ, ◌+◌, ◌-◌, ◌<◌}
use mathlib.Core.Bool.{Bool, true, ◌||◌}
use mathlib.Core.List.{List, ◌++◌}
use mathlib.Core.Path.{◌≡◌, refl, sym, ap, ◌∙◌}
use lib.ListN.{get_or, length}
use Rattle.definitions.specs.Choice.{pick}
use Rattle.definitions.specs.Image.{op_of, target_of, called_of, result_of, type_sort, guarded, procedure_at, Expression, Procedure}
use Rattle.definitions.specs.Reading.{Parse, got, read_expression, read_statement}
use Rattle.definitions.specs.Labels.{rc_after}
use Rattle.definitions.specs.Encoding.{statement_word_with, expression_words, statement_count}
use Rattle.definitions.specs.Compiling.{renamed, moved, moved_all, compiled_statement}
use Rattle.laws.specs.ImageIn.{image_in}
use Rattle.laws.specs.Parses.{ok, got_ok, end_of, end_of_lem}
use Rattle.laws.specs.StatementInversion.{open_assign, open_store, open_return, open_call}
use Rattle.image_words.specs.Read.{arguments_at}
use Rattle.image_words.specs.StatementParts.{read_called, read_call}
use Rattle.tables.specs.Looking.{Listed, listed_below}
use Rattle.writer.specs.Writing.{Output, write, writes}
use Rattle.copying.specs.Copy.{Copied, copied, copied_two}
use Rattle.copying.specs.Laws.{copied_got, two_got}
use Rattle.copying.specs.Runs.{word_copy}
use Rattle.masking.specs.Forms.{act_of, assigned, stored, returned, called}
use Rattle.masking.specs.declared.Act.{Act}
use Rattle.masking.specs.declared.Call.{Call}
use Rattle.emission.specs.Emitted.{Emission, act_at, temporary_at, emitted, if_head, for_head}
use Rattle.laws.specs.Following.{one_words}
use Rattle.emission.specs.declared.Scope.{Scope}
use Rattle.emission.specs.declared.Cursor.{Cursor}
use Rattle.emission.proofs.Outcomes.{spot_outcome, outcome_eq, return_count, call_count}

module _ (ps : List Procedure) (arrays types : List ℕ) (s : Scope) (c : Cursor) (o : ℕ) (out : List ℕ) (l : ℕ) (params : List ℕ) (me : ℕ) (image : List ℕ)
    (t : ok (read_statement l params me image c.at) ≡ true)
    (a : Act) (ha : a ≡ act_at s c) (v p : ℕ) (t1 : List ℕ) where
  pub simple_assign : (x y : ℕ) → op_of (get_or image c.at 0) ≡ 0 → x ≡ target_of (get_or image c.at 0) → y ≡ renamed s.first x
      → ◌≡◌ {A = Copied} (v, (p, t1)) (assigned s.first y a o out (read_expression (l - 1) image (c.at + 1)))
      → ◌≡◌ {A = Emission} (record { at = v; n = c.n + 1; rc = c.rc }, (p, t1))
      (emitted ps arrays types s c o out (read_statement l params me image c.at))
  unfolding assigned emitted compiled_statement rc_after statement_count
  simple_assign x y d hx hy g =
      let (e, m, q, u) = open_assign l params me image c.at t d in
      let h : y ≡ renamed s.first (target_of (get_or image c.at 0)) = hy ∙ ap (λ (z : ℕ). renamed s.first z) hx in
      spot_outcome v p t1 m _ (c.n + 1) c.rc
      (g ∙ ap (λ (z : Act). assigned s.first y z o out (read_expression (l - 1) image (c.at + 1))) ha
      ∙ ap (λ z. assigned s.first z (act_at s c) o out (read_expression (l - 1) image (c.at + 1))) h
      ∙ ap (λ z. assigned s.first (renamed s.first (target_of (get_or image c.at 0))) (act_at s c) o out z) q)
      ∙ outcome_eq m (c.n + 1) (c.n + 1) c.rc _ _ refl (ap (λ ws. writes o out ws) (one_words _))
      ∙ ap (λ z. emitted ps arrays types s c o out z) (sym u)

  pub simple_store : (x : ℕ) → op_of (get_or image c.at 0) ≡ 1 → x ≡ target_of (get_or image c.at 0)
      → ◌≡◌ {A = Copied} (v, (p, t1)) (stored s.first x a o out (read_expression (l - 1) image (c.at + 1))
      (read_expression (l - 1) image (end_of (read_expression (l - 1) image (c.at + 1)))))
      → ◌≡◌ {A = Emission} (record { at = v; n = c.n + 1; rc = c.rc }, (p, t1))
      (emitted ps arrays types s c o out (read_statement l params me image c.at))
  unfolding stored emitted compiled_statement rc_after statement_count
  simple_store x d hx g =
      let (i, m, e, k, q, r, u) = open_store l params me image c.at t d in
      let X = target_of (get_or image c.at 0) in
      spot_outcome v p t1 k _ (c.n + 1) c.rc
      (g ∙ ap (λ (z : Act). stored s.first x z o out (read_expression (l - 1) image (c.at + 1))
      (read_expression (l - 1) image (end_of (read_expression (l - 1) image (c.at + 1))))) ha
      ∙ ap (λ z. stored s.first z (act_at s c) o out (read_expression (l - 1) image (c.at + 1))
      (read_expression (l - 1) image (end_of (read_expression (l - 1) image (c.at + 1))))) hx
      ∙ ap (λ z. stored s.first X (act_at s c) o out (read_expression (l - 1) image (c.at + 1)) z)
      (ap (λ z. read_expression (l - 1) image z) (end_of_lem _ i m q) ∙ r)
      ∙ ap (λ z. stored s.first X (act_at s c) o out z (got e k)) q)
      ∙ outcome_eq k (c.n + 1) (c.n + 1) c.rc _ _ refl (ap (λ ws. writes o out ws) (one_words _))
      ∙ ap (λ z. emitted ps arrays types s c o out z) (sym u)

  pub simple_return : (d : ℕ) → op_of (get_or image c.at 0) ≡ 4 → d ≡ pick (s.pc || c.rc) 2 1
      → ◌≡◌ {A = Copied} (v, (p, t1)) (returned s.first s.rv a o out (read_expression (l - 1) image (c.at + 1)))
      → ◌≡◌ {A = Emission} (record { at = v; n = c.n + d; rc = s.pc || c.rc }, (p, t1))
      (emitted ps arrays types s c o out (read_statement l params me image c.at))
  unfolding returned emitted compiled_statement rc_after
  simple_return d f h g =
      let (e, m, q, u) = open_return l params me image c.at t f in
      spot_outcome v p t1 m _ (c.n + d) (s.pc || c.rc)
      (g ∙ ap (λ (z : Act). returned s.first s.rv z o out (read_expression (l - 1) image (c.at + 1))) ha
      ∙ ap (λ z. returned s.first s.rv (act_at s c) o out z) q)
      ∙ outcome_eq m (c.n + d) _ (s.pc || c.rc) _ _
      (ap (λ z. c.n + z) (h ∙ return_count (s.pc || c.rc) (act_of (act_at s c)) s.rv (moved s.first e))) refl
      ∙ ap (λ z. emitted ps arrays types s c o out z) (sym u)

module _ (s : Scope) (c : Cursor) (l : ℕ) (params : List ℕ) (me : ℕ) (image : List ℕ) (t : ok (read_statement l params me image c.at) ≡ true)
    (five : op_of (get_or image c.at 0) ≡ 5) (f : ℕ) (hf : f ≡ called_of (get_or image c.at 0)) where
  pub called_listed : (table : List ℕ) → Listed image table me → f < length (image_in image).procedures
  called_listed table h = (listed_below image table me f h (rw hf (read_called l params me image c.at t 5 (sym five) refl))).number

  pub values_read : (n : ℕ) → n ≡ get_or params f 0 → ok (arguments_at n (l - 1) image (c.at + 1)) ≡ true
  values_read n hn =
      let e : n ≡ get_or params (called_of (get_or image c.at 0)) 0 = hn ∙ ap (λ (z : ℕ). get_or params z 0) hf in
      rw e (read_call l params me image c.at t 5 (sym five) refl)

  pub simple_call : (ps : List Procedure) (arrays types : List ℕ) (o : ℕ) (out : List ℕ) (g : Bool) (n x y w z d e : ℕ) (a : Act) (v p : ℕ) (t1 : List ℕ)
      → g ≡ guarded (procedure_at ps f) → n ≡ get_or params f 0 → x ≡ result_of (get_or image c.at 0) → y ≡ renamed s.first x
      → w ≡ (procedure_at ps f).result → z ≡ type_sort w → e ≡ temporary_at s z → d ≡ pick (s.pc || c.rc) 2 1 → a ≡ act_at s c
      → ◌≡◌ {A = Copied} (v, (p, t1)) (called s.first (record { called = f; guarded = g; count = n; result = y; temporary = e }) a o out
      (arguments_at n (l - 1) image (c.at + 1)))
      → ◌≡◌ {A = Emission} (record { at = v; n = c.n + d; rc = c.rc }, (p, t1))
      (emitted ps arrays types s c o out (read_statement l params me image c.at))
  unfolding called emitted compiled_statement rc_after arguments_at
  simple_call ps arrays types o out g n x y w z d e a v p t1 hg hn hx hy hw ho he hd ha j =
      let (es, m, i, q, u) = open_call l params me image c.at t five in
      let F = called_of (get_or image c.at 0) in
      let G = guarded (procedure_at ps F) in
      let N = get_or params F 0 in
      let Y = renamed s.first (result_of (get_or image c.at 0)) in
      let K = temporary_at s (type_sort (procedure_at ps F).result) in
      let HG : g ≡ G = hg ∙ ap (λ (z : ℕ). guarded (procedure_at ps z)) hf in
      let HN : n ≡ N = hn ∙ ap (λ (z : ℕ). get_or params z 0) hf in
      let HY : y ≡ Y = hy ∙ ap (λ (z : ℕ). renamed s.first z) hx in
      let HE : e ≡ K = he ∙ ap (λ (z : ℕ). temporary_at s z) (ho ∙ ap (λ (z : ℕ). type_sort z) (hw ∙ ap (λ (z : ℕ). (procedure_at ps z).result) hf)) in
      let C : Call = record { called = F; guarded = G; count = N; result = Y; temporary = K } in
      let H : ◌≡◌ {A = Call} (record { called = f; guarded = g; count = n; result = y; temporary = e }) C = rw (hf, HG, HN, HY, HE) in
      spot_outcome v p t1 m _ (c.n + d) c.rc
      (j ∙ ap (λ (z : Call). called s.first z a o out (arguments_at z.count (l - 1) image (c.at + 1))) H
      ∙ ap (λ (z : Act). called s.first C z o out (arguments_at N (l - 1) image (c.at + 1))) ha
      ∙ ap (λ z. called s.first C (act_at s c) o out z) q)
      ∙ outcome_eq m (c.n + d) _ c.rc _ _
      (ap (λ z. c.n + z) (hd ∙ call_count (s.pc || c.rc) G (act_of (act_at s c)) K F Y (moved_all s.first es))) refl
      ∙ ap (λ z. emitted ps arrays types s c o out z) (sym u)

-- ---- the heads of an if and a for

pub if_head_on : (first o : ℕ) (out : List ℕ) (x : Parse Expression) → ok x ≡ true → (p : ℕ) (t : List ℕ) (r v : ℕ) (u : List ℕ)
    → ◌≡◌ {A = Output} (p, t) (write o out (statement_word_with 2 0)) → ◌≡◌ {A = Copied} (r, (v, u)) (copied first p t x) → ◌≡◌ {A = Copied} (r, (v, u)) (if_head first o out x)
unfolding if_head
if_head_on first o out x h p t r v u e f =
    let (c, n, q) = got_ok x h in
    word_copy o out p t (statement_word_with 2 0) (expression_words (moved first c)) n (r, (v, u)) e (f ∙ copied_got first p t x c n q) ∙ ap (λ z. if_head first o out z) (sym q)

pub for_head_on : (first y o : ℕ) (out : List ℕ) (x z : Parse Expression) → ok x ≡ true → ok z ≡ true → (w p : ℕ) (t : List ℕ) (r v : ℕ) (u : List ℕ)
    → w ≡ statement_word_with 3 y → ◌≡◌ {A = Output} (p, t) (write o out w) → ◌≡◌ {A = Copied} (r, (v, u)) (copied_two first p t x z)
    → ◌≡◌ {A = Copied} (r, (v, u)) (for_head first y o out x z)
unfolding for_head
for_head_on first y o out x z h i w p t r v u hw e f =
    let (a, n, q) = got_ok x h in
    let (b, m, s) = got_ok z i in
    word_copy o out p t (statement_word_with 3 y) (expression_words (moved first a) ++ expression_words (moved first b)) m (r, (v, u))
    (e ∙ ap (λ (j : ℕ). write o out j) hw) (f ∙ two_got first p t x z a b n m q s)
    ∙ ap (λ j. for_head first y o out j (got b m)) (sym q) ∙ ap (λ j. for_head first y o out x j) (sym s)
