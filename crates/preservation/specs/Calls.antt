-- The machine's call of a source image and of its compiled form, whatever places the words of that have: both are carried out with the same
-- result and cells, or stopped with the same number, or refused alike; unless one is short of steps or of trace words. Assumes nothing.
use Rattle.std.specs.Prelude.{◌≡◌, Bool, true, List, [], ◌∷◌, ◌++◌, ℕ, zero, suc, ◌+◌, ◌<◌, ◌≤◌, ltb, eqb, length, take}
use Rattle.std.proofs.Math.Path.{refl, sym, ap}
use Rattle.std.proofs.Common.{◌∙◌, arith, length-append, ltb-true, ltb-false, eqb-true}
use Rattle.std.proofs.Math.Bool.{false}
use Rattle.std.proofs.lemmas.Bool.{eqb-false}
use Rattle.definitions.specs.Choice.{pick}
use Rattle.definitions.specs.declared.Answer.TheVariants.{Done, Stopped, Refused}
use Rattle.definitions.specs.Image.{Procedure, Image, guarded, procedure_at}
use Rattle.definitions.specs.Compiling.{secret_boolean, guards, compiled_types, compiled_procedure, compiled_procedures}
use Rattle.definitions.specs.Compiling.{compiled_image}
use Rattle.definitions.specs.Running.{Trace, trace_words, Ran, on, Given, gave, run_procedure}
use Rattle.definitions.specs.Requests.{Called, answered, argument_values, ended, called_on}
use Rattle.preservation.specs.Relations.{Spent, Sim, meet, left, right, fail}
use Rattle.preservation.specs.Simulation.{SameGiven, same_given}
use Rattle.preservation.specs.Bodies.{Accepted, typed_parameters}
use Rattle.preservation.specs.Preservation.{SoundSource, accepted_at, compiled_at, compiled_count}
use Rattle.statements.specs.Statements.{with_guard}
use Rattle.preservation.specs.Preservation.{preserved}
use Rattle.preservation.specs.Erasure.{erased_procedure, erased_procedures, erased_image, erased_at, erased_count}
use Rattle.preservation.specs.ErasedRuns.{AlikeTraces, same_room, alike_turned, sim_alike, alike_procedure}

-- two runs of images that differ in nothing but their places are one
same_erased : {T U A : Type 0} {R : A → Given → Type 0} (x : Ran T A) (D : Trace U) (budget : ℕ) (arrays arrays' : List ℕ) (ps ps' : List Procedure) (n n' : ℕ) (f : ℕ) (ws : List ℕ) (y : ℕ) (u : U) (cs : List ℕ)
    → arrays' ≡ arrays → ps' ≡ ps → n' ≡ n → Sim R x (run_procedure D budget arrays ps n f ws y u cs) → Sim R x (run_procedure D budget arrays' ps' n' f ws y u cs)
same_erased x D budget arrays arrays' ps ps' n n' f ws y u cs p q r h = rw (p, q, r) h

-- A procedure of an image that is the compiled one but for its places ends as its source ends.
pub preserved_image : (I : Image) → SoundSource I → (I' : Image) → erased_image I' ≡ erased_image (compiled_image I)
    → {T U : Type 0} (C : Trace T) (D : Trace U) {Q : U → U → Type 0} → AlikeTraces D D Q → (budget budget' : ℕ) (f : ℕ) (ws : List ℕ)
    → length ws ≡ (procedure_at I.procedures f).parameters → (z : ℕ) (t : T) (y : ℕ) (u : U) → Q u u → (cs : List ℕ)
    → Sim SameGiven
    (run_procedure C budget I.arrays I.procedures (length I.procedures) f ws z t cs)
    (run_procedure D budget' I'.arrays I'.procedures (length I'.procedures) f (with_guard (procedure_at I.procedures f) ws) y u cs)
unfolding erased_image
preserved_image I c I' e C D a budget budget' f ws l z t y u q cs =
    let p : erased_procedures I'.procedures ≡ erased_procedures (compiled_image I).procedures = ap (λ (i : Image). i.procedures) e in
    let n = sym (erased_count I'.procedures) ∙ ap length p ∙ erased_count (compiled_image I).procedures in
    let first = sim_alike (preserved I c C D budget budget' f ws l z t y u cs)
    (alike_procedure a budget' (compiled_image I).arrays (compiled_image I).procedures (length (compiled_image I).procedures) f (with_guard (procedure_at I.procedures f) ws) y u u cs q) in
    sim_alike
    (same_erased (run_procedure C budget I.arrays I.procedures (length I.procedures) f ws z t cs) D budget' (compiled_image I).arrays I'.arrays
    (erased_procedures (compiled_image I).procedures) (erased_procedures I'.procedures) (length (compiled_image I).procedures) (length I'.procedures) f (with_guard (procedure_at I.procedures f) ws) y u cs
    (ap (λ (i : Image). i.arrays) e) p n first)
    (alike_turned (alike_procedure a budget' I'.arrays I'.procedures (length I'.procedures) f (with_guard (procedure_at I.procedures f) ws) y u u cs q))

-- what two calls come to: the answers and the cells
pub data SameCall : Called → Called → Type 0 where
  both_done : {v z y n m : ℕ} {cells t u : List ℕ} → SameCall (Done v z n, cells, t) (Done v y m, cells, u)
  both_stopped : {n l k z y i j : ℕ} {cells t u : List ℕ} → SameCall (Stopped n l z i, cells, t) (Stopped n k y j, cells, u)
  both_refused : {n p : ℕ} {cells t u : List ℕ} → SameCall (Refused n p, cells, t) (Refused n p, cells, u)
  source_spent : {n l z i : ℕ} {cells t : List ℕ} {c : Called} → Spent n → SameCall (Stopped n l z i, cells, t) c
  compiled_spent : {n l z i : ℕ} {cells t : List ℕ} {c : Called} → Spent n → SameCall c (Stopped n l z i, cells, t)

pub argument_count : (types vs : List ℕ) → length (argument_values types vs) ≡ length vs
unfolding argument_values
argument_count types [] = refl
argument_count [] (v ∷ vs) = refl
argument_count (w ∷ types) (v ∷ vs) = ap suc (argument_count types vs)

-- the arguments of the first parameters and those that follow
pub argument_values_lem : (types rest vs xs : List ℕ) (n : ℕ) → length vs ≡ n → n ≤ length types → argument_values (take n types ++ rest) (vs ++ xs) ≡ argument_values types vs ++ argument_values rest xs
unfolding argument_values
argument_values_lem types rest [] xs zero e i = refl
argument_values_lem types rest [] xs (suc n) e i = absurd (omega arith)
argument_values_lem types rest (v ∷ vs) xs zero e i = absurd (omega arith)
argument_values_lem [] rest (v ∷ vs) xs (suc n) e i = absurd (omega arith)
argument_values_lem (w ∷ types) rest (v ∷ vs) xs (suc n) e i = ap (λ b. answered w v ∷ b) (argument_values_lem types rest vs xs n (omega arith) (omega arith))

-- a host passes 1 for the guard
pub compiled_arguments : {I : Image} {P : Procedure} → Accepted I P → (vs : List ℕ) → length vs ≡ P.parameters
    → argument_values (compiled_types I.procedures I.arrays P) (with_guard P vs) ≡ with_guard P (argument_values P.types vs)
unfolding compiled_types
compiled_arguments {I} {P} h vs e = go (guarded P) _
  where
    guard_value : (g : Bool) (rest : List ℕ) → argument_values (pick g (secret_boolean ∷ []) [] ++ rest) (pick g (1 ∷ []) []) ≡ pick g (1 ∷ []) []
    guard_value true rest = unfold argument_values in refl
    guard_value false rest = unfold argument_values in refl

    go : (g : Bool) (rest : List ℕ) → argument_values (take P.parameters P.types ++ (pick g (secret_boolean ∷ []) [] ++ rest)) (vs ++ pick g (1 ∷ []) []) ≡ argument_values P.types vs ++ pick g (1 ∷ []) []
    go g rest =
        argument_values_lem P.types (pick g (secret_boolean ∷ []) [] ++ rest) vs (pick g (1 ∷ []) []) P.parameters e (typed_parameters h)
        ∙ ap (λ xs. argument_values P.types vs ++ xs) (guard_value g rest)

-- the answers to two runs that end alike
same_ended : (p p' : Procedure) (cells : List ℕ) → p'.result ≡ p.result → {x y : Ran (List ℕ) Given} → Sim SameGiven x y → SameCall (ended p cells x) (ended p' cells y)
unfolding ended
same_ended p p' cells e (meet {a} {b} {z} {y} {t} {u} r) = go a b r
  where
    go : (a b : Given) → SameGiven a b → SameCall (ended p cells (on a z t)) (ended p' cells (on b y u))
    go (gave v _) (gave _ _) same_given = rw e both_done
same_ended p p' cells e (left s) = source_spent s
same_ended p p' cells e (right s) = compiled_spent s
same_ended p p' cells e fail = both_stopped

-- a procedure of the compiled image, but for its places
module _ (I I' : Image) (e : erased_image I' ≡ erased_image (compiled_image I)) (f : ℕ) (i : f < length I.procedures) where
  erased_compiled : erased_procedure (procedure_at I'.procedures f) ≡ erased_procedure (compiled_procedure I.procedures I.arrays (procedure_at I.procedures f))
  unfolding erased_image compiled_image
  erased_compiled =
      sym (erased_at I'.procedures f) ∙ ap (λ (m : Image). procedure_at m.procedures f) e
      ∙ erased_at (compiled_procedures I.procedures I.arrays I.procedures) f ∙ ap erased_procedure (compiled_at I I.procedures f i)

  same_parameters : (procedure_at I'.procedures f).parameters ≡ (procedure_at I.procedures f).parameters + guards (procedure_at I.procedures f)
  unfolding erased_procedure compiled_procedure
  same_parameters = ap (λ (p : Procedure). p.parameters) erased_compiled

  same_result : (procedure_at I'.procedures f).result ≡ (procedure_at I.procedures f).result
  unfolding erased_procedure compiled_procedure
  same_result = ap (λ (p : Procedure). p.result) erased_compiled

  same_types : (procedure_at I'.procedures f).types ≡ compiled_types I.procedures I.arrays (procedure_at I.procedures f)
  unfolding erased_procedure compiled_procedure
  same_types = ap (λ (p : Procedure). p.types) erased_compiled

pub same_count : (I I' : Image) → erased_image I' ≡ erased_image (compiled_image I) → length I'.procedures ≡ length I.procedures
unfolding erased_image compiled_image
same_count I I' e =
    sym (erased_count I'.procedures) ∙ ap (λ (m : Image). length m.procedures) e ∙ erased_count (compiled_procedures I.procedures I.arrays I.procedures) ∙ compiled_count I I.procedures

pub guard_count : (P : Procedure) (ws : List ℕ) → length (with_guard P ws) ≡ length ws + guards P
guard_count P ws = length-append ws (pick (guarded P) (1 ∷ []) []) ∙ ap (λ n. length ws + n) (go (guarded P))
  where
    go : (g : Bool) → length {A = ℕ} (pick g (1 ∷ []) []) ≡ pick g 1 0
    go true = refl
    go false = refl

-- one call, of the source's procedure f and of the compiled one
module _ (I : Image) (c : SoundSource I) (I' : Image) (e : erased_image I' ≡ erased_image (compiled_image I)) (cells : List ℕ) (f : ℕ) (arguments : List ℕ) (budget budget' room room' : ℕ) where
  abbrev called : Procedure
  called = procedure_at I.procedures f

  abbrev called' : Procedure
  called' = procedure_at I'.procedures f

  abbrev run : Ran (List ℕ) Given
  run = run_procedure (trace_words room) budget I.arrays I.procedures (length I.procedures) f (argument_values called.types arguments) 0 [] cells

  abbrev run' : Ran (List ℕ) Given
  run' = run_procedure (trace_words room') budget' I'.arrays I'.procedures (length I'.procedures) f (argument_values called'.types (with_guard called arguments)) 0 [] cells

  same_run : f < length I.procedures → length arguments ≡ called.parameters → Sim SameGiven run run'
  same_run i l =
      rw (ap (λ ts. argument_values ts (with_guard called arguments)) (same_types I I' e f i) ∙ compiled_arguments (accepted_at I c f i) arguments l)
      (preserved_image I c I' e (trace_words room) (trace_words room') (same_room room') budget budget' f (argument_values called.types arguments)
      (argument_count called.types arguments ∙ l) 0 [] 0 [] refl cells)

  -- the number of arguments is right for both or for neither
  same_arguments : f < length I.procedures → (b : Bool) → eqb (length arguments) called.parameters ≡ b
      → (d : Bool) → eqb (length (with_guard called arguments)) called'.parameters ≡ d
      → SameCall (pick b (ended called cells run) (Refused 18 0, cells, [])) (pick d (ended called' cells run') (Refused 18 0, cells, []))
  same_arguments i true p true q = same_ended called called' cells (same_result I I' e f i) (same_run i (eqb-true (length arguments) called.parameters p))
  same_arguments i false p false q = both_refused
  same_arguments i true p false q =
      let l = eqb-true (length arguments) called.parameters p in
      absurd (eqb-false (length (with_guard called arguments)) called'.parameters q
      (guard_count called arguments ∙ ap (λ n. n + guards called) l ∙ sym (same_parameters I I' e f i)))
  same_arguments i false p true q =
      let l = eqb-true (length (with_guard called arguments)) called'.parameters q in
      let m : length arguments + guards called ≡ called.parameters + guards called = sym (guard_count called arguments) ∙ l ∙ same_parameters I I' e f i in
      absurd (eqb-false (length arguments) called.parameters p (omega arith))

  -- there is such a procedure in both or in neither
  same_procedure : (b : Bool) → ltb f (length I.procedures) ≡ b → (d : Bool) → ltb f (length I'.procedures) ≡ d
      → SameCall
      (pick b (pick (eqb (length arguments) called.parameters) (ended called cells run) (Refused 18 0, cells, [])) (Refused 17 0, cells, []))
      (pick d (pick (eqb (length (with_guard called arguments)) called'.parameters) (ended called' cells run') (Refused 18 0, cells, [])) (Refused 17 0, cells, []))
  same_procedure true p true q =
      same_arguments (ltb-true f (length I.procedures) p) (eqb (length arguments) called.parameters) refl (eqb (length (with_guard called arguments)) called'.parameters) refl
  same_procedure false p false q = both_refused
  same_procedure true p false q =
      let i = ltb-true f (length I.procedures) p in
      let j = ltb-false f (length I'.procedures) q in
      let n = same_count I I' e in
      absurd (omega arith)
  same_procedure false p true q =
      let i = ltb-false f (length I.procedures) p in
      let j = ltb-true f (length I'.procedures) q in
      let n = same_count I I' e in
      absurd (omega arith)

-- The machine's call ends as that of the source, with any two budgets and rooms for the trace.
pub preserved_call : (I : Image) → SoundSource I → (I' : Image) → erased_image I' ≡ erased_image (compiled_image I)
    → (cells : List ℕ) (f : ℕ) (arguments : List ℕ) (budget budget' room room' : ℕ)
    → SameCall (called_on I cells f arguments budget room) (called_on I' cells f (with_guard (procedure_at I.procedures f) arguments) budget' room')
unfolding called_on
preserved_call I c I' e cells f arguments budget budget' room room' =
    same_procedure I c I' e cells f arguments budget budget' room room' (ltb f (length I.procedures)) refl (ltb f (length I'.procedures)) refl
