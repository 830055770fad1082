-- Document 02, wish 2: what "What was accepted compiles to the same words" speaks of. The rules of labels and the checker as in
-- definitions/specs/Labels.antt and Checking.antt, with the rule for an index in a secret context left open, so that the former one, as it was, can
-- stand beside today's.
use Rattle.std.specs.Prelude.{ℕ, ◌+◌, Bool, false, ◌&&◌, ◌||◌, not, ◌≡◌, ltb, leb, eqb, get_or, set, replicate}
use mathlib.Core.List.{List, [], ◌∷◌, ◌++◌, map, flat_map}
use Rattle.definitions.specs.Choice.{pick}
use Rattle.definitions.specs.declared.Fault.{Fault}
use Rattle.definitions.specs.declared.ConstantLoop.{ConstantLoop}
use Rattle.definitions.specs.Image.{kind_of, payload_of, Expression, constant, boolean, variable, cell, unary, binary, select}
use Rattle.definitions.specs.Image.{place_of, Statement, assign, store, conditional, loop, return, call, Block, done, sequence}
use Rattle.definitions.specs.Image.{Procedure, Image, guarded, procedure_at, array_secret, array_length, type_secret}
use Rattle.definitions.specs.Reading.{Parse, got, refused, read_image}
use Rattle.definitions.specs.Faults.{no_fault, least, fault_if}
use Rattle.definitions.specs.Sorts.{image_sort_faults}
use Rattle.definitions.specs.Labels.{is_constant, constant_value, secret_in, rc_after, rc_after_block, unbounded, loop_of}
use Rattle.definitions.specs.Labels.{bounded_index, secret_fault, operator_faults}

-- A rule for indices: what it keeps of the for over a variable, by the for's bounds; what a variable has where no such for stands around it; and whether
-- an index is bounded, by what is kept for each variable and the array's length.
pub record IndexRule : Type 1 where
  pub Kept : Type 0
  pub inside : Expression → Expression → Kept
  pub none : Kept
  pub bounded : List Kept → ℕ → Expression → Bool

-- Document 01: of each variable, the upper bound of the enclosing for over it with constant bounds; else more than any length.
abbrev pub formerly_unbounded : ℕ
formerly_unbounded = 0xFFFFFFFF

-- "In a secret context an index is a constant below the length, or the variable of an enclosing for with constant bounds whose upper bound is at most
-- the length"
unfoldable pub former_bounded_index : List ℕ → ℕ → Expression → Bool
former_bounded_index bounds size (constant p v) = ltb v size
former_bounded_index bounds size (boolean p v) = false
former_bounded_index bounds size (variable p x) = leb (get_or bounds x formerly_unbounded) size
former_bounded_index bounds size (cell p a i) = false
former_bounded_index bounds size (unary p o e) = false
former_bounded_index bounds size (binary p o e f) = false
former_bounded_index bounds size (select p c e f) = false

abbrev pub former_rule : IndexRule
former_rule =
    record {
      Kept = ℕ;
      inside = λ f t. pick (is_constant f && is_constant t) (constant_value t) formerly_unbounded;
      none = formerly_unbounded;
      bounded = former_bounded_index;
    }

abbrev pub todays_rule : IndexRule
todays_rule = record { Kept = ConstantLoop; inside = loop_of; none = unbounded; bounded = bounded_index }

-- ---- `index_faults` to `image_label_faults`, with the rule for indices as it is given

module _ (rule : IndexRule) (types arrays : List ℕ) (bounds : List rule.Kept) (context : Bool) where
  abbrev pub index_faults_by : ℕ → Expression → List Fault
  index_faults_by a i = secret_fault types arrays i ++ fault_if (context && not (rule.bounded bounds (array_length (get_or arrays a 0)) i)) 11 (place_of i)

  unfoldable pub label_faults_by : Expression → List Fault
  label_faults_by (constant p v) = []
  label_faults_by (boolean p v) = []
  label_faults_by (variable p x) = []
  label_faults_by (cell p a i) = label_faults_by i ++ index_faults_by a i
  label_faults_by (unary p o e) = label_faults_by e
  label_faults_by (binary p o e f) = label_faults_by e ++ (label_faults_by f ++ operator_faults types arrays context o e f)
  label_faults_by (select p c e f) = label_faults_by c ++ (label_faults_by e ++ label_faults_by f)

  unfoldable pub argument_label_faults_by : List ℕ → ℕ → List Expression → List Fault
  argument_label_faults_by callee k [] = []
  argument_label_faults_by callee k (e ∷ es) = label_faults_by e
      ++ (fault_if (secret_in types arrays e && not (type_secret (get_or callee k 0))) 9 (place_of e)
      ++ argument_label_faults_by callee (k + 1) es)

  abbrev pub loop_bound_faults_by : Expression → List Fault
  loop_bound_faults_by e = label_faults_by e ++ (secret_fault types arrays e ++ fault_if (context && not (is_constant e)) 11 (place_of e))

module _ (rule : IndexRule) (form : ℕ) (ps : List Procedure) (arrays types : List ℕ) (result : ℕ) where
  unfoldable mutual
    pub statement_label_faults_by : List rule.Kept → Bool → Bool → ℕ → Statement → List Fault
    statement_label_faults_by bounds pc rc p (assign x e) =
        fault_if ((secret_in types arrays e || (pc || rc)) && not (type_secret (get_or types x 0))) 9 p
        ++ label_faults_by rule types arrays bounds (pc || rc) e
    statement_label_faults_by bounds pc rc p (store a i e) =
        fault_if ((secret_in types arrays e || (pc || rc)) && not (array_secret (get_or arrays a 0))) 9 p
        ++ (label_faults_by rule types arrays bounds (pc || rc) i
        ++ (index_faults_by rule types arrays bounds (pc || rc) a i ++ label_faults_by rule types arrays bounds (pc || rc) e))
    statement_label_faults_by bounds pc rc p (conditional c a b) = fault_if (eqb form 1 && secret_in types arrays c) 13 p
        ++ (label_faults_by rule types arrays bounds (pc || rc) c
        ++ (block_label_faults_by bounds (pc || secret_in types arrays c) rc a
        ++ block_label_faults_by bounds (pc || secret_in types arrays c) rc b))
    statement_label_faults_by bounds pc rc p (loop x f t b) = loop_bound_faults_by rule types arrays bounds (pc || rc) f
        ++ (loop_bound_faults_by rule types arrays bounds (pc || rc) t
        ++ block_label_faults_by (set bounds x (rule.inside f t)) pc (rc_after_block types arrays pc rc b) b)
    statement_label_faults_by bounds pc rc p (return e) =
        fault_if ((secret_in types arrays e || (pc || rc)) && not (type_secret result)) 9 p
        ++ label_faults_by rule types arrays bounds (pc || rc) e
    statement_label_faults_by bounds pc rc p (call f x es) =
        fault_if ((type_secret (procedure_at ps f).result || (pc || rc)) && not (type_secret (get_or types x 0))) 9 p
        ++ (fault_if ((pc || rc) && not (guarded (procedure_at ps f))) 12 p
        ++ argument_label_faults_by rule types arrays bounds (pc || rc) (procedure_at ps f).types 0 es)

    pub block_label_faults_by : List rule.Kept → Bool → Bool → Block → List Fault
    block_label_faults_by bounds pc rc done = []
    block_label_faults_by bounds pc rc (sequence p s b) =
        statement_label_faults_by bounds pc rc p s ++ block_label_faults_by bounds pc (rc_after types arrays pc rc s) b

module _ (rule : IndexRule) (image : Image) where
  unfoldable pub procedure_label_faults_by : Procedure → List Fault
  procedure_label_faults_by me =
      block_label_faults_by rule image.form image.procedures image.arrays me.types me.result
      (replicate 256 rule.none) (guarded me) false me.body

  unfoldable pub image_label_faults_by : List Fault
  image_label_faults_by = flat_map (λ me. procedure_label_faults_by me) image.procedures

  -- ---- `fault_of` to `admitted`, likewise

  unfoldable pub fault_by : Fault
  fault_by = pick (eqb (least no_fault (image_sort_faults image)).number 0) (least no_fault image_label_faults_by) (least no_fault (image_sort_faults image))

module _ (rule : IndexRule) where
  unfoldable pub without_fault_by : Parse Image → Parse Image
  without_fault_by (refused n p) = refused n p
  without_fault_by (got image n) =
      pick (eqb (fault_by rule image).number 0) (got image n) (refused (fault_by rule image).number (fault_by rule image).place)

  abbrev pub admitted_by : Bool → List ℕ → Parse Image
  admitted_by whole words = without_fault_by (read_image whole words)

-- the image that words spell where the former rules admitted it, else the former refusal
abbrev pub formerly_admitted : Bool → List ℕ → Parse Image
formerly_admitted = admitted_by former_rule

-- ---- What the wish adds

-- what the former rule keeps of today's fors: their upper bounds
abbrev pub upper_bounds : List ConstantLoop → List ℕ
upper_bounds bounds = map (λ (for : ConstantLoop). for.upper) bounds

-- By its form, an index that the wish adds: "operator 0 over" a variable "and a constant, in either order".
pub data Sum : Expression → Type 0 where
  variable_first : {p q x r c : ℕ} → Sum (binary p 0 (variable q x) (constant r c))
  constant_first : {p q x r c : ℕ} → Sum (binary p 0 (constant r c) (variable q x))

-- "D binary": the word at a place is that of operator 0
abbrev pub NamesSum : List ℕ → ℕ → Type 0
NamesSum words p = (kind_of (get_or words p 0) ≡ 13) × (payload_of (get_or words p 0) ≡ 0)
