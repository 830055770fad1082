-- What each return of the walks over the statements that hold no block gives, and what their calls ask. Assumes nothing.
use Prim.Native.Nat.{ℕ, ◌+◌, ◌-◌, ◌≤◌, ◌<◌}
use native.Mathlib.Omega.{arith}
use mathlib.Core.Bool.{Bool, true, ◌&&◌, ◌||◌, not}
use mathlib.Core.List.{List, ◌∷◌}
use mathlib.Core.Path.{◌≡◌, refl, sym, ap, ◌∙◌}
use lib.ListN.{length, get_or}
use Rattle.definitions.specs.declared.Fault.{Fault}
use Rattle.definitions.specs.declared.ConstantLoop.{ConstantLoop}
use Rattle.definitions.specs.Image.{op_of, target_of, called_of, result_of, type_secret, array_secret, Expression, assign, store}
use Rattle.definitions.specs.Image.{return, call, Procedure, procedure_at, guarded}
use Rattle.definitions.specs.Reading.{got, read_expression, read_arguments, read_statement}
use Rattle.definitions.specs.Faults.{least, fault_if}
use Rattle.definitions.specs.Labels.{argument_label_faults, rc_after, statement_label_faults}
use Rattle.laws.specs.Least.{least_append}
use Rattle.laws.specs.Parses.{ok}
use Rattle.laws.specs.Places.{place_of_lem}
use Rattle.laws.specs.StatementInversion.{open_assign, open_store, open_return, open_call}
use Rattle.laws.specs.ImageIn.{image_in}
use Rattle.image_words.specs.Read.{ExpressionRead, StatementRead, arguments_at}
use Rattle.image_words.specs.StatementParts.{no_argument, first_argument, read_assign, read_store, read_return}
use Rattle.image_words.specs.Rest.{next_argument, arguments_left}
use Rattle.tables.specs.Looking.{Listed}
use Rattle.faults.specs.Parts.{call_listed, call_reads}
use Rattle.labels.specs.Late.{least_late}
use Rattle.labels.specs.Operand.{index_words}
use Rattle.labels.specs.Cursors.{ending}
use Rattle.labels.specs.Walk.{labelled, index_noted, argued_all}
use Rattle.labels.specs.Blocks.{walked}
use Rattle.labels.specs.declared.Cursor.{Cursor}
use Rattle.labels.specs.declared.Labelled.{Labelled}
use Rattle.labels.specs.declared.Walked.{Walked}
use Rattle.labels.proofs.ExpressionRules.{labelled_next, second_fine}

abbrev pub walking : Bool → Cursor → Walked
walking r c = record { rc = r; cursor = c }

-- the arguments of a call that are left
module _ (types arrays : List ℕ) (bounds : List ConstantLoop) (context : Bool) (callee : List ℕ) (l : ℕ) (image : List ℕ) (n j : ℕ) (here : Cursor) where
  module _ (X : Cursor) (d : argued_all types arrays bounds context callee j here.best (arguments_at (n - j) l image here.at) ≡ X) where
    pub arguments_done : n ≤ j → here ≡ X
    unfolding argued_all argument_label_faults least
    arguments_done h =
        let z : n - j ≡ 0 = omega arith in
        sym (ap (λ k. argued_all types arrays bounds context callee j here.best k)
        (ap (λ k. arguments_at k l image here.at) z ∙ no_argument l image here.at)) ∙ d

    pub arguments_more : ok (arguments_at (n - j) l image here.at) ≡ true → j < n → (w : ℕ) (target : Bool) (r : Labelled) (b : Cursor) → w ≡ get_or callee j 0
        → target ≡ type_secret w → r ≡ labelled types arrays bounds context here.best (read_expression l image here.at)
        → b ≡ ending r.cursor.at (least r.cursor.best (fault_if (r.secret && not target) 9 here.at))
        → argued_all types arrays bounds context callee (j + 1) b.best (arguments_at (n - (j + 1)) l image b.at) ≡ X
    unfolding labelled argued_all argument_label_faults
    arguments_more t h w target r b hw ht g f = let (e, m, es, o, q, s, v) = first_argument (n - j) l image here.at t (omega arith) in go e m es o q s v
      where
        go : (e : Expression) (m : ℕ) (es : List Expression) (o : ℕ) → read_expression l image here.at ≡ got e m
            → arguments_at (n - j - 1) l image m ≡ got es o → arguments_at (n - j) l image here.at ≡ got (e ∷ es) o
            → argued_all types arrays bounds context callee (j + 1) b.best (arguments_at (n - (j + 1)) l image b.at) ≡ X
        go e m es o q s v =
            let z : n - (j + 1) ≡ n - j - 1 = omega arith in
            let p = place_of_lem l image here.at e m q in
            rw (z, f, g, q, s, ht, hw)
            (ap (ending o) (rw (← p) (simp least_append)) ∙ sym (ap (λ k. argued_all types arrays bounds context callee j here.best k) v) ∙ d)

  pub arguments_again : ok (arguments_at (n - j) l image here.at) ≡ true → j < n → (r : Labelled)
      → r ≡ labelled types arrays bounds context here.best (read_expression l image here.at)
      → (f : Fault) (b : Cursor) → b ≡ ending r.cursor.at f → ok (arguments_at (n - (j + 1)) l image b.at) ≡ true
  arguments_again t h r g f b k =
      arguments_left l image n here.at j t h b.at (ap (λ (z : Cursor). z.at) k ∙ labelled_next types arrays bounds context here.best _ r g)

pub ruleset arguments = (next_argument, arguments_done)

-- the fault of a flow may be noted last
late : (b : Fault) (c : Bool) (p : ℕ) (fs : List Fault) → least (least b fs) (fault_if c 9 p) ≡ least (least b (fault_if c 9 p)) fs
late = least_late 9 (omega arith)

-- what the calls ask
module _ (l : ℕ) (params : List ℕ) (me : ℕ) (image : List ℕ) (at : ℕ) (t : StatementRead l params me image at) where
  pub assign_fine : op_of (get_or image at 0) ≡ 0 → ExpressionRead (l - 1) image (at + 1)
  assign_fine k = read_assign l params me image at t.read _ refl k

  pub index_fine : op_of (get_or image at 0) ≡ 1 → ExpressionRead (l - 1) image (at + 1)
  index_fine k = (read_store l params me image at t.read _ refl k).first

  pub index_within : op_of (get_or image at 0) ≡ 1 → at + 1 < length image
  index_within k = (index_fine k).within

  pub value_fine : op_of (get_or image at 0) ≡ 1 → (types arrays : List ℕ) (bounds : List ConstantLoop) (context : Bool) (best : Fault) (x : Labelled)
      → x ≡ labelled types arrays bounds context best (read_expression (l - 1) image (at + 1))
      → (f : Fault) (b : Cursor) → b ≡ ending x.cursor.at f → ExpressionRead (l - 1) image b.at
  value_fine k types arrays bounds context best x h f b e =
      rw (ap (λ (z : Cursor). z.at) e)
      (second_fine types arrays bounds context best (l - 1) image (at + 1) x h (read_store l params me image at t.read _ refl k))

  pub return_fine : op_of (get_or image at 0) ≡ 4 → ExpressionRead (l - 1) image (at + 1)
  return_fine k = read_return l params me image at t.read _ refl k

  pub called_fine : (table : List ℕ) → Listed image table me → op_of (get_or image at 0) ≡ 5 → (f : ℕ) → f ≡ called_of (get_or image at 0)
      → f < length (image_in image).procedures
  called_fine table h k f e = (call_listed l params me image at t.read k f e table h).number

  pub arguments_fine : op_of (get_or image at 0) ≡ 5 → (f : ℕ) → f ≡ called_of (get_or image at 0)
      → ok (arguments_at (get_or params f 0) (l - 1) image (at + 1)) ≡ true
  arguments_fine k f e = call_reads l params me image at t.read k f e

pub ruleset fine = (assign_fine, index_fine, index_within, value_fine, return_fine, called_fine, arguments_fine)

-- the statements
module _ (ps : List Procedure) (arrays types : List ℕ) (bounds : List ConstantLoop) (form result : ℕ) (pc rc : Bool) (best : Fault)
    (l : ℕ) (params : List ℕ) (me : ℕ) (image : List ℕ) (at : ℕ) (t : StatementRead l params me image at) where
  abbrev Returned : Walked → Type 0
  Returned w = w ≡ walked ps arrays types bounds form result pc rc at best (read_statement l params me image at)

  module _ (target : Bool) (judged : Cursor) (r : Labelled) (h : r ≡ labelled types arrays bounds (pc || rc) best (read_expression (l - 1) image (at + 1)))
      (j : judged ≡ ending r.cursor.at (least r.cursor.best (fault_if ((r.secret || (pc || rc)) && not target) 9 at))) where
    pub walk_assign : (x : ℕ) → op_of (get_or image at 0) ≡ 0 → x ≡ target_of (get_or image at 0) → target ≡ type_secret (get_or types x 0)
        → Returned (walking rc judged)
    unfolding labelled walked rc_after statement_label_faults
    walk_assign x k hx ht = let (e, n, q, u) = open_assign l params me image at t.read k in go e n q u
      where
        go : (e : Expression) (n : ℕ) → read_expression (l - 1) image (at + 1) ≡ got e n
            → read_statement l params me image at ≡ got (assign (target_of (get_or image at 0)) e) n → Returned (walking rc judged)
        go e n q u = rw (u, j, h, q, ht, hx) (simp (least_append, late))

    pub walk_return : op_of (get_or image at 0) ≡ 4 → target ≡ type_secret result → Returned (walking (pc || rc) judged)
    unfolding labelled walked rc_after statement_label_faults
    walk_return k ht = let (e, n, q, u) = open_return l params me image at t.read k in go e n q u
      where
        go : (e : Expression) (n : ℕ) → read_expression (l - 1) image (at + 1) ≡ got e n → read_statement l params me image at ≡ got (return e) n
            → Returned (walking (pc || rc) judged)
        go e n q u = rw (u, j, h, q, ht) (simp (least_append, late))

  pub walk_store : (a : ℕ) (i e : Labelled) (index judged : Cursor) (target : Bool) → op_of (get_or image at 0) ≡ 1 → a ≡ target_of (get_or image at 0)
      → i ≡ labelled types arrays bounds (pc || rc) best (read_expression (l - 1) image (at + 1))
      → index ≡ ending i.cursor.at (index_noted image arrays bounds (pc || rc) a (at + 1) i.secret i.cursor.best)
      → e ≡ labelled types arrays bounds (pc || rc) index.best (read_expression (l - 1) image index.at) → target ≡ array_secret (get_or arrays a 0)
      → judged ≡ ending e.cursor.at (least e.cursor.best (fault_if ((e.secret || (pc || rc)) && not target) 9 at)) → Returned (walking rc judged)
  unfolding labelled index_noted walked rc_after statement_label_faults
  walk_store a i e index judged target k ha hi hx he ht j = let (x, n, y, m, q, s, u) = open_store l params me image at t.read k in go x n y m q s u
    where
      go : (x : Expression) (n : ℕ) (y : Expression) (m : ℕ) → read_expression (l - 1) image (at + 1) ≡ got x n → read_expression (l - 1) image n ≡ got y m
          → read_statement l params me image at ≡ got (store (target_of (get_or image at 0)) x y) m → Returned (walking rc judged)
      go x n y m q s u =
          rw (u, j, he, hx, hi, q, s, ht, ha, index_words (l - 1) image (at + 1) x n q bounds _, place_of_lem (l - 1) image (at + 1) x n q)
          (simp (least_append, late))

  pub walk_call : (f x given : ℕ) (secret target guard : Bool) (flow mode r : Cursor) → op_of (get_or image at 0) ≡ 5
      → f ≡ called_of (get_or image at 0) → x ≡ result_of (get_or image at 0)
      → given ≡ (procedure_at ps f).result → secret ≡ type_secret given → target ≡ type_secret (get_or types x 0)
      → flow ≡ ending at (least best (fault_if ((secret || (pc || rc)) && not target) 9 at))
      → guard ≡ guarded (procedure_at ps f) → mode ≡ ending flow.at (least flow.best (fault_if ((pc || rc) && not guard) 12 at))
      → r ≡ argued_all types arrays bounds (pc || rc) (procedure_at ps f).types 0 mode.best (arguments_at (get_or params f 0) (l - 1) image (at + 1))
      → Returned (walking rc r)
  unfolding argued_all walked rc_after statement_label_faults arguments_at
  walk_call f x given secret target guard flow mode r k hf hx hg hs ht h1 hm h2 h = let (es, n, b, q, u) = open_call l params me image at t.read k in go es n q u
    where
      go : (es : List Expression) (n : ℕ)
          → read_arguments (get_or params (called_of (get_or image at 0)) 0) (λ a. read_expression (l - 1) image a) (at + 1) ≡ got es n
          → read_statement l params me image at ≡ got (call (called_of (get_or image at 0)) (result_of (get_or image at 0)) es) n
          → Returned (walking rc r)
      go es n q u = rw (u, h, hf, q, h2, h1, hm, hs, hg, ht, hf, hx) (simp least_append)

pub ruleset leaves = (walk_assign, walk_return, walk_store, walk_call)
