-- How a procedure and its compiled form begin: their frames, by their arguments. Assumes nothing.
use Rattle.std.specs.Prelude.{◌≡◌, refl, ◌≢◌, Bool, true, false, List, [], ◌∷◌, ◌++◌, ℕ, zero, suc, ◌+◌, ◌-◌, ◌<◌, ◌≤◌, ltb, length, get_or, set, replicate}
use Rattle.std.proofs.Common.{sym, ◌∙◌, arith, length-append, length-set, get_or-set_same, get_or-set_other, ltb-true, ltb-false}
use Rattle.std.proofs.lemmas.List.{length-replicate}
use Rattle.std.proofs.Math.ListN.{get_or-append, get_or-eq_default}
use Rattle.std.proofs.Math.Seq.{get_or-append_seam}
use Rattle.definitions.specs.Choice.{pick}
use Rattle.definitions.specs.Image.{Procedure, Image, guarded}
use Rattle.definitions.specs.Compiling.{renamed, defers, guards, return_variable, first_moved}
use Rattle.definitions.specs.Running.{frame}
use Rattle.preservation.specs.Acts.{off_arm, OffFrame}
use Rattle.preservation.specs.Frames.{Live}
use Rattle.preservation.specs.Bodies.{Accepted, layout_of, scope_of, get_d_default, no_bounds_lem, few_parameters, typed_parameters}
use Rattle.preservation.specs.Bodies.{guards_few, body_block}

-- frames: arguments, then zeros
pub padded : (ws : List ℕ) (m x : ℕ) → get_or (ws ++ replicate m 0) x 0 ≡ get_or ws x 0
padded [] m x = get_d_default m x 0
padded (w ∷ ws) m zero = refl
padded (w ∷ ws) m (suc x) = padded ws m x

pub frame_value : (ws : List ℕ) (x : ℕ) → get_or (frame ws) x 0 ≡ get_or ws x 0
unfolding frame
frame_value ws x = padded ws (255 - length ws) x

pub frame_length : (ws : List ℕ) → length ws ≤ 255 → length (frame ws) ≡ 255
unfolding frame
frame_length ws f =
    let e = length-append ws (replicate (255 - length ws) 0) in
    let g = length-replicate {A = ℕ} (255 - length ws) 0 in
    omega arith

-- the arguments of a guarded procedure's compiled form end with the guard
pub argument_value : (P : Procedure) (ws xs : List ℕ) → length ws ≡ P.parameters → length xs ≡ guards P → (x : ℕ) → x < length P.types
    → get_or (ws ++ xs) (renamed (first_moved P) x) 0 ≡ get_or ws x 0
argument_value P ws xs e f x i = go (guarded P) f
  where
    beyond : (y : ℕ) → length ws ≤ x → length (ws ++ xs) ≤ y → get_or (ws ++ xs) y 0 ≡ get_or ws x 0
    beyond y p q = get_or-eq_default (ws ++ xs) 0 q ∙ sym (get_or-eq_default ws 0 p)

    before_first : (b : Bool) → ltb x (length ws) ≡ b → length xs ≡ 0 → get_or (ws ++ xs) x 0 ≡ get_or ws x 0
    before_first true p q = get_or-append ws xs 0 x (ltb-true x (length ws) p)
    before_first false p q = let j = ltb-false x (length ws) p in let n = length-append ws xs in beyond x j (omega arith)

    moved_value : (b : Bool) → ltb x P.parameters ≡ b → length xs ≡ 1 → get_or (ws ++ xs) (pick b x (x + 1)) 0 ≡ get_or ws x 0
    moved_value true p q = let j = ltb-true x P.parameters p in get_or-append ws xs 0 x (omega arith)
    moved_value false p q = let j = ltb-false x P.parameters p in let n = length-append ws xs in beyond (x + 1) (omega arith) (omega arith)

    stays_value : (b : Bool) → ltb x (length P.types) ≡ b → length xs ≡ 0 → get_or (ws ++ xs) (pick b x (x + 1)) 0 ≡ get_or ws x 0
    stays_value true p q = before_first (ltb x (length ws)) refl q
    stays_value false p q = let j = ltb-false x (length P.types) p in absurd (omega arith)

    go : (g : Bool) → length xs ≡ pick g 1 0 → get_or (ws ++ xs) (renamed (pick g P.parameters (length P.types)) x) 0 ≡ get_or ws x 0
    go true q = moved_value (ltb x P.parameters) refl q
    go false q = stays_value (ltb x (length P.types)) refl q

module _ {I : Image} {P : Procedure} (h : Accepted I P) where
  -- a frame that begins as the arguments do, with LIVE true where a return is deferred
  pub started : (ws xs vs : List ℕ) → length ws ≡ P.parameters → length xs ≡ guards P → length vs ≡ 255
      → ((y : ℕ) → y ≢ return_variable P + 1 → get_or vs y 0 ≡ get_or (frame (ws ++ xs)) y 0) → (defers I.arrays P ≡ true → get_or vs (return_variable P + 1) 0 ≡ 1)
      → Live (layout_of I P) (scope_of I P) (λ y. get_or vs y 0) (frame ws) vs
  started ws xs vs e f s k a =
      record {
        source = frame_length ws (let p = few_parameters h in omega arith);
        size = s;
        vars = λ x i _. let j = (body_block h).allocation.low x i in
            k (renamed (first_moved P) x) (λ q. absurd (omega arith)) ∙ frame_value (ws ++ xs) (renamed (first_moved P) x) ∙ argument_value P ws xs e f x i ∙ sym (frame_value ws x);
        bounded = λ x q. absurd (no_bounds_lem x q);
        reserved = λ y _. refl;
        result = λ _. k (return_variable P) (λ q. absurd (omega arith)) ∙ frame_value (ws ++ xs) (return_variable P)
            ∙ get_or-eq_default (ws ++ xs) 0 (let n = length-append ws xs in let p = typed_parameters h in omega arith);
        alive = a;
      }

  -- the frame once "LIVE := true opens the body"
  pub opened : (ws xs : List ℕ) → length ws ≡ P.parameters → length xs ≡ guards P → defers I.arrays P ≡ true
      → Live (layout_of I P) (scope_of I P) (λ y. get_or (set (frame (ws ++ xs)) (return_variable P + 1) 1) y 0) (frame ws) (set (frame (ws ++ xs)) (return_variable P + 1) 1)
  opened ws xs e f d =
      let n = length-append ws xs in
      let p = few_parameters h in
      let g = guards_few h in
      let s = frame_length (ws ++ xs) (omega arith) in
      let i = (body_block h).allocation.returns d in
      let j = (body_block h).allocation.room in
      started ws xs (set (frame (ws ++ xs)) (return_variable P + 1) 1) e f (length-set (frame (ws ++ xs)) (return_variable P + 1) 1 ∙ s)
      (λ y q. get_or-set_other (frame (ws ++ xs)) (return_variable P + 1) y 1 0 q) (λ _. get_or-set_same (frame (ws ++ xs)) (return_variable P + 1) 1 0 (omega arith))

  -- what holds of a frame whose guard is 0
  pub off_start : guarded P ≡ true → (ws vs : List ℕ) → length ws ≡ P.parameters → length vs ≡ 255 → ((y : ℕ) → y ≢ return_variable P + 1 → get_or vs y 0 ≡ get_or (frame (ws ++ (0 ∷ []))) y 0)
      → OffFrame (layout_of I P) (scope_of I P) (guarded P) P.parameters false vs
  off_start g ws vs e s k =
      record {
        size = s;
        off = off_arm g (k P.parameters (λ q. let i = typed_parameters h in absurd (omega arith)) ∙ frame_value (ws ++ (0 ∷ [])) P.parameters ∙ rw (← e) (get_or-append_seam ws 0 [] 0));
        bounded = λ x q. absurd (no_bounds_lem x q);
      }
