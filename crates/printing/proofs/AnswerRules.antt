-- Rules for the text of an answer. Assumes nothing.
use mathlib.Core.Path.{◌≡◌, sym, ap, ◌∙◌}
use mathlib.Core.List.{List, [], ◌∷◌, ◌++◌, append_assoc}
use Prim.Native.Nat.{ℕ, ◌+◌, ◌-◌, ◌*◌, ◌/◌, ◌≤◌}
use native.Mathlib.Numerals.{add-one}
use native.Mathlib.Omega.{arith}
use lib.ListN.{length, take, drop, set, replicate, length-set}
use lib.Seq.{take-suc-set, length-take-le, drop-set-lt, drop-drop}
use Rattle.printing.proofs.LineRules.{behind_more}
use Rattle.definitions.specs.Bytes.{words_of}
use Rattle.definitions.specs.Host.{compile_bytes}
use Rattle.definitions.specs.declared.Compiled.{Compiled}
use Rattle.definitions.specs.declared.Compiled.TheVariants.{Written, Refused}
use Rattle.compiler.specs.Kept.{count_of}
use Rattle.lent_images.specs.Counts.{Output, compile_count}
use Rattle.printing.specs.Text.{listing, decimal_text, refusal_line, answer_text, printed}

-- the two numbers with what stands behind each
pub refusal_is : (number place a b : ℕ) (t0 t1 t3 : List ℕ) → 42 ≤ length t0 → length t1 ≡ length t0 → length t3 ≡ length (set t1 a 32)
    → (a ≤ 0 + 20) × (take a t1 ≡ take 0 t0 ++ decimal_text number) × (drop a t1 ≡ drop a t0) × (0 ≤ a)
    → (b ≤ a + 1 + 20) × (take b t3 ≡ take (a + 1) (set t1 a 32) ++ decimal_text place) × (drop b t3 ≡ drop b (set t1 a 32)) × (a + 1 ≤ b)
    → (b + 1 ≤ length (set t3 b 10)) × (take (b + 1) (set t3 b 10) ≡ refusal_line number place) × (drop (b + 1) (set t3 b 10) ≡ drop (b + 1) t0)
unfolding refusal_line
refusal_is number place a b t0 t1 t3 room k1 k3 (ha, p, d, z) (hb, q, e, less) =
    let l3 : length t3 ≡ length t1 = k3 ∙ length-set t1 a 32 in
    let l4 : length (set t3 b 10) ≡ length t3 = length-set t3 b 10 in
    let first : take (a + 1) (set t1 a 32) ≡ decimal_text number ++ (32 ∷ []) = rw (add-one, take-suc-set t1 a 32 (omega arith), p) in (
      omega arith,
      rw (add-one, take-suc-set t3 b 10 (omega arith), q, first)
          (append_assoc (decimal_text number ++ (32 ∷ [])) (decimal_text place) (10 ∷ []) ∙ append_assoc (decimal_text number) (32 ∷ []) (decimal_text place ++ (10 ∷ []))),
      behind_more t3 t0 b 10 (e ∙ drop-set-lt b t1 a 32 (omega arith) ∙ further t1 t0 a b d (omega arith)),
    )
  where
    further : (x y : List ℕ) (i j : ℕ) → drop i x ≡ drop i y → i ≤ j → drop j x ≡ drop j y
    further x y i j h l =
        let s : i + (j - i) ≡ j = omega arith in
        rw (← s) (sym (drop-drop (j - i) i x) ∙ ap (λ (z : List ℕ). drop (j - i) z) h ∙ drop-drop (j - i) i y)

module _ (answer : Compiled) (out : List ℕ) where
  pub refused_text : (n p r : ℕ) (text : List ℕ) → answer ≡ Refused n p → (before : List ℕ)
      → (r ≤ length text) × (take r text ≡ refusal_line n p) × (drop r text ≡ drop r before)
      → (r ≤ length text) × (take r text ≡ answer_text answer (words_of out)) × (drop r text ≡ drop r before)
  unfolding answer_text
  refused_text n p r text e before (l, q, d) = (l, rw e q, d)

  pub written_text : (n r : ℕ) (text : List ℕ) → answer ≡ Written n → (before : List ℕ)
      → (r ≤ length text) × (take r text ≡ listing (take n (words_of out))) × (drop r text ≡ drop r before)
      → (r ≤ length text) × (take r text ≡ answer_text answer (words_of out)) × (drop r text ≡ drop r before)
  unfolding answer_text
  written_text n r text e before (l, q, d) = (l, rw e q, d)

  pub listing_asks : (n : ℕ) (text : List ℕ) → answer ≡ Written n → (count_of answer ≤ 16384) × (4 * count_of answer ≤ length out) × (147456 ≤ length text)
      → (n ≤ 16384) × (4 * n ≤ length out) × (9 * n ≤ length text)
  listing_asks n text e (few, within, room) = let c : count_of answer ≡ n = rw e in (omega arith, omega arith, omega arith)

module _ (image out : List ℕ) (answer : Compiled) (q : ◌≡◌ {A = Output} (answer, out) (compile_bytes image (replicate 65536 0))) where
  pub answer_asks : (text : List ℕ) → length (replicate {A = ℕ} 65536 0) ≡ 65536 → length out ≡ length (replicate {A = ℕ} 65536 0) → length text ≡ 147456
      → (count_of answer ≤ 16384) × (4 * count_of answer ≤ length out) × (147456 ≤ length text)
  answer_asks text zeros kept room =
      let h : count_of (compile_bytes image (replicate 65536 0)).0 ≤ length (replicate {A = ℕ} 65536 0) / 4 = compile_count image (replicate 65536 0) in
      let e : count_of answer ≡ count_of (compile_bytes image (replicate 65536 0)).0 = ap (λ (x : Output). count_of x.0) q in
      (omega arith, omega arith, omega arith)

  pub printed_is : (r : ℕ) (text before : List ℕ) → (r ≤ length text) × (take r text ≡ answer_text answer (words_of out)) × (drop r text ≡ drop r before)
      → ((r ≤ length text) × (r ≡ length (take r text))) × ((take r text ≡ printed image) × (drop r text ≡ drop r before))
  unfolding printed
  printed_is r text before (l, t, d) =
      ((l, sym (length-take-le r text l)), (t ∙ ap (λ (x : Output). answer_text x.0 (words_of x.1)) q, d))
