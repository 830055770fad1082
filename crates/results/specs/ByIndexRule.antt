-- The faults of an image, and those by a given rule for indices (FormerIndices, of the statements), side by side: they are related as those of each index
-- are, by any relation of lists of faults that holds of a list and itself and goes with appending. Assumes nothing.
use Rattle.std.specs.Prelude.{ℕ, zero, suc, ◌+◌, Bool, ◌&&◌, ◌||◌, not, ◌≡◌, refl, get_or, set, replicate}
use Rattle.std.proofs.Math.Bool.{false}
use mathlib.Core.List.{List, [], ◌∷◌, ◌++◌, map, flat_map}
use Rattle.std.proofs.Common.{sym, ◌∙◌}
use Rattle.std.proofs.Math.Path.{ap}
use Rattle.definitions.specs.declared.Fault.{Fault}
use Rattle.definitions.specs.declared.ConstantLoop.{ConstantLoop}
use Rattle.definitions.specs.Image.{Expression, constant, boolean, variable, cell, unary, binary, select, place_of, Statement}
use Rattle.definitions.specs.Image.{assign, store, conditional, loop, return, call, Block, done, sequence, Procedure, Image}
use Rattle.definitions.specs.Image.{guarded, procedure_at, array_length}
use Rattle.definitions.specs.Faults.{fault_if}
use Rattle.definitions.specs.Labels.{secret_in, rc_after, rc_after_block, unbounded, loop_of, bounds_inside, bounded_index, index_faults}
use Rattle.definitions.specs.Labels.{label_faults}
use Rattle.definitions.specs.Labels.{argument_label_faults, loop_bound_faults, statement_label_faults, block_label_faults}
use Rattle.definitions.specs.Labels.{procedure_label_faults, procedures_label_faults, image_label_faults}
use Rattle.statements.specs.FormerIndices.{IndexRule, index_faults_by, label_faults_by, argument_label_faults_by, loop_bound_faults_by}
use Rattle.statements.specs.FormerIndices.{statement_label_faults_by, block_label_faults_by, procedure_label_faults_by, image_label_faults_by}
use Rattle.results.specs.WordsNamed.{WordName, ExpressionNames, ExpressionsNames, StatementNames, BlockNames}
use Rattle.results.specs.WordsNamed.{ProceduresNames}

-- ---- lists of what is kept

kept_set : {A B : Type 0} (g : A → B) (l : List A) (x : ℕ) (b : A) → map g (set l x b) ≡ set (map g l) x (g b)
kept_set g [] x b = refl
kept_set g (a ∷ l) zero b = refl
kept_set g (a ∷ l) (suc x) b = ap (λ k. g a ∷ k) (kept_set g l x b)

kept_replicate : {A B : Type 0} (g : A → B) (n : ℕ) (b : A) → map g (replicate n b) ≡ replicate n (g b)
kept_replicate g zero b = refl
kept_replicate g (suc n) b = ap (λ k. g b ∷ k) (kept_replicate g n b)

-- A relation of today's faults and those by a rule, in a tree in which N holds of every word that names something. The rule keeps no more of a for than today's does.
pub record Relates (rule : IndexRule) (N : ℕ → WordName → Type 0) (R : List Fault → List Fault → Type 0) : Type 0 where
  pub keep : ConstantLoop → rule.Kept
  pub keep_inside : (f t : Expression) → keep (loop_of f t) ≡ rule.inside f t
  pub keep_none : keep unbounded ≡ rule.none
  pub itself : (fs : List Fault) → R fs fs
  pub appended : {fs gs hs is : List Fault} → R fs gs → R hs is → R (fs ++ hs) (gs ++ is)
  pub index : (bounds : List ConstantLoop) (context : Bool) (size : ℕ) (i : Expression) → ExpressionNames N i
      → R (fault_if (context && not (bounded_index bounds size i)) 11 (place_of i))
      (fault_if (context && not (rule.bounded (map keep bounds) size i)) 11 (place_of i))

module _ {rule : IndexRule} {N : ℕ → WordName → Type 0} {R : List Fault → List Fault → Type 0} (r : Relates rule N R) where
  -- what is kept of all fors
  abbrev all : List ConstantLoop → List rule.Kept
  all bounds = map r.keep bounds

  both : {fs gs hs is : List Fault} → R fs gs → R hs is → R (fs ++ hs) (gs ++ is)
  both = r.appended

  itself : (fs : List Fault) → R fs fs
  itself = r.itself

  module _ (types arrays : List ℕ) (bounds : List ConstantLoop) (context : Bool) where
    index_related : (a : ℕ) (i : Expression) → ExpressionNames N i
        → R (index_faults types arrays bounds context a i) (index_faults_by rule types arrays (all bounds) context a i)
    index_related a i n = let x = r.index bounds context (array_length (get_or arrays a 0)) i n in search (both, itself)

    labels_related : (e : Expression) → ExpressionNames N e → R (label_faults types arrays bounds context e) (label_faults_by rule types arrays (all bounds) context e)
    unfolding label_faults label_faults_by ExpressionNames
    labels_related (constant p v) n = itself []
    labels_related (boolean p v) n = itself []
    labels_related (variable p x) n = itself []
    labels_related (cell p a i) n = both (labels_related i n.1) (index_related a i n.1)
    labels_related (unary p o e) n = labels_related e n
    labels_related (binary p o e f) n = both (labels_related e n.1) (both (labels_related f n.2) (itself _))
    labels_related (select p c e f) n = both (labels_related c n.0) (both (labels_related e n.1) (labels_related f n.2))

    arguments_related : (callee : List ℕ) (k : ℕ) (es : List Expression) → ExpressionsNames N es
        → R (argument_label_faults types arrays bounds context callee k es) (argument_label_faults_by rule types arrays (all bounds) context callee k es)
    unfolding argument_label_faults argument_label_faults_by ExpressionsNames
    arguments_related callee k [] n = itself []
    arguments_related callee k (e ∷ es) n =
        let x = labels_related e n.0 in let y = arguments_related callee (k + 1) es n.1 in search (both, itself)

    bound_related : (e : Expression) → ExpressionNames N e
        → R (loop_bound_faults types arrays bounds context e) (loop_bound_faults_by rule types arrays (all bounds) context e)
    bound_related e n = both (labels_related e n) (itself _)

  module _ (form : ℕ) (ps : List Procedure) (arrays types : List ℕ) (result : ℕ) where
    mutual
      unfolding statement_label_faults statement_label_faults_by block_label_faults block_label_faults_by StatementNames BlockNames

      statement_related : (bounds : List ConstantLoop) (pc rc : Bool) (p : ℕ) (s : Statement) → StatementNames N p s
          → R (statement_label_faults form ps arrays types result bounds pc rc p s) (statement_label_faults_by rule form ps arrays types result (all bounds) pc rc p s)
      statement_related bounds pc rc p (assign x e) n = let y = labels_related types arrays bounds (pc || rc) e n in search (both, itself)
      statement_related bounds pc rc p (store a i e) n =
          let x = labels_related types arrays bounds (pc || rc) i n.1 in
          let y = index_related types arrays bounds (pc || rc) a i n.1 in
          let z = labels_related types arrays bounds (pc || rc) e n.2 in
          search (both, itself)
      statement_related bounds pc rc p (conditional c a b) n =
          let x = labels_related types arrays bounds (pc || rc) c n.0 in
          let y = block_related bounds (pc || secret_in types arrays c) rc a n.1 in
          let z = block_related bounds (pc || secret_in types arrays c) rc b n.2 in
          search (both, itself)
      statement_related bounds pc rc p (loop x f t b) n =
          both (bound_related types arrays bounds (pc || rc) f n.0)
          (both (bound_related types arrays bounds (pc || rc) t n.1)
          (rw (← (r.keep_inside f t), ← (kept_set r.keep bounds x (loop_of f t)))
          (block_related (bounds_inside bounds x f t) pc (rc_after_block types arrays pc rc b) b n.2)))
      statement_related bounds pc rc p (return e) n = let y = labels_related types arrays bounds (pc || rc) e n in search (both, itself)
      statement_related bounds pc rc p (call f x es) n =
          let y = arguments_related types arrays bounds (pc || rc) (procedure_at ps f).types 0 es n in search (both, itself)

      block_related : (bounds : List ConstantLoop) (pc rc : Bool) (b : Block) → BlockNames N b
          → R (block_label_faults form ps arrays types result bounds pc rc b) (block_label_faults_by rule form ps arrays types result (all bounds) pc rc b)
      block_related bounds pc rc done n = itself []
      block_related bounds pc rc (sequence p s b) n =
          both (statement_related bounds pc rc p s n.0) (block_related bounds pc (rc_after types arrays pc rc s) b n.1)

  module _ (image : Image) where
    begins : replicate 256 rule.none ≡ all (replicate 256 unbounded)
    begins = ap (λ k. replicate 256 k) (sym r.keep_none) ∙ sym (kept_replicate r.keep 256 unbounded)

    procedure_related : (me : Procedure) → BlockNames N me.body → R (procedure_label_faults image me) (procedure_label_faults_by rule image me)
    procedure_related me n = rw by_kept (unfold procedure_label_faults in
        block_related image.form image.procedures image.arrays me.types me.result (replicate 256 unbounded) (guarded me) false me.body n)
      where
        by_kept : procedure_label_faults_by rule image me
            ≡ block_label_faults_by rule image.form image.procedures image.arrays me.types me.result (all (replicate 256 unbounded))
            (guarded me) false me.body
        by_kept = unfold procedure_label_faults_by in
            ap (λ k. block_label_faults_by rule image.form image.procedures image.arrays me.types me.result k (guarded me) false me.body) begins

    procedures_related : (ps : List Procedure) → ProceduresNames N ps
        → R (procedures_label_faults image ps) (flat_map (λ me. procedure_label_faults_by rule image me) ps)
    unfolding procedures_label_faults flat_map
    procedures_related [] n = itself []
    procedures_related (me ∷ ps) n = both (procedure_related me (n zero)) (procedures_related ps (λ f. n (suc f)))

    pub image_related : ProceduresNames N image.procedures → R (image_label_faults image) (image_label_faults_by rule image)
    unfolding image_label_faults image_label_faults_by
    image_related n = procedures_related image.procedures n
