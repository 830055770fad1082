-- The words of masked statements in the order in which the code writes them. Assumes nothing.
use Prim.Native.Nat.{ℕ, ◌+◌, ◌*◌}
use mathlib.Core.Bool.{Bool, true, false}
use mathlib.Core.List.{List, [], ◌∷◌, ◌++◌, append_assoc, append-nil, flat_map}
use mathlib.Core.Path.{◌≡◌, refl, sym, ap, ◌∙◌}
use native.Mathlib.Omega.{arith}
use Rattle.definitions.specs.Choice.{pick}
use Rattle.definitions.specs.Image.{Expression, boolean, variable, select, cell, assign, store}
use Rattle.definitions.specs.Encoding.{word_with, statement_word_with, expression_words, argument_words, statement_words}
use Rattle.definitions.specs.Encoding.{statements_words}
use Rattle.definitions.specs.Compiling.{masked, under, compiled_return, compiled_call}
use Rattle.masking.specs.Forms.{prefix, old_variable, old_cell, selected_words}

pub assign_words : (c : Bool) (a e : Expression) (y : ℕ)
    → statement_word_with 0 y ∷ ((prefix c (word_with 14 0) a ++ expression_words e) ++ old_variable c y) ≡ statement_words (assign y (masked c a e (variable 0 y)))
unfolding prefix old_variable masked statement_words expression_words
assign_words true a e y = ap (λ z. statement_word_with 0 y ∷ (word_with 14 0 ∷ z)) (append_assoc (expression_words a) (expression_words e) _)
assign_words false a e y = ap (λ z. statement_word_with 0 y ∷ z) (append-nil (expression_words e))

pub store_words : (c : Bool) (a : ℕ) (i g e : Expression)
    → (statement_word_with 1 a ∷ expression_words i) ++ (prefix c (word_with 14 0) g ++ expression_words e) ++ old_cell c a i
    ≡ statement_words (store a i (masked c g e (cell 0 a i)))
unfolding prefix old_cell masked statement_words expression_words
store_words true a i g e =
    ap (λ z. statement_word_with 1 a ∷ z)
    (append_assoc (expression_words i) (word_with 14 0 ∷ (expression_words g ++ expression_words e)) _
    ∙ ap (λ z. expression_words i ++ (word_with 14 0 ∷ z)) (append_assoc (expression_words g) (expression_words e) _))
store_words false a i g e = ap (λ z. statement_word_with 1 a ∷ z) (append-nil _)

pub under_words : (c : Bool) (a e : Expression) (y : ℕ)
    → statement_word_with 0 y ∷ (prefix c (word_with 13 13) a ++ expression_words e) ≡ statement_words (assign y (under c a e))
unfolding prefix under statement_words expression_words
under_words true a e y = refl
under_words false a e y = refl

pub return_words : (c : Bool) (a e : Expression) (rv : ℕ) → c ≡ true
    → statement_words (assign rv (masked c a e (variable 0 rv))) ++ selected_words (rv + 1) a (word_with 9 0) ≡ statements_words (compiled_return c a rv e)
unfolding masked compiled_return statement_words expression_words
return_words true a e rv h = ap (λ z. statement_words (assign rv (select 0 a e (variable 0 rv))) ++ z) (sym (append-nil _))
return_words false a e rv h = absurd (let z : ◌≡◌ {A = ℕ} 0 1 = ap (λ (b : Bool). pick b 1 0) h in omega arith)

pub plain_return_words : (c : Bool) (a e : Expression) (rv : ℕ) → c ≡ false → statement_word_with 4 0 ∷ expression_words e ≡ statements_words (compiled_return c a rv e)
unfolding compiled_return statement_words
plain_return_words true a e rv h = absurd (let z : ◌≡◌ {A = ℕ} 1 0 = ap (λ (b : Bool). pick b 1 0) h in omega arith)
plain_return_words false a e rv h = sym (append-nil _)

argument_words_lem : (es fs : List Expression) → argument_words (es ++ fs) ≡ argument_words es ++ argument_words fs
unfolding flat_map argument_words
argument_words_lem [] fs = refl
argument_words_lem (e ∷ es) fs = ap (λ z. expression_words e ++ z) (argument_words_lem es fs) ∙ sym (append_assoc (expression_words e) (argument_words es) (argument_words fs))

pub call_words : (c g : Bool) (a : Expression) (k f x : ℕ) (es : List Expression) → c ≡ true
    → (statement_word_with 5 (f * 256 + k) ∷ argument_words es) ++ (expression_words a ++ selected_words x a (word_with 10 k))
    ≡ statements_words (compiled_call c g a k f x es)
unfolding flat_map compiled_call statement_words argument_words expression_words
call_words true g a k f x es h =
    ap (λ z. statement_word_with 5 (f * 256 + k) ∷ z)
    (rw (argument_words_lem es (a ∷ []), append-nil (expression_words a), append_assoc (argument_words es) (expression_words a) (selected_words x a (word_with 10 k) ++ []))
    (ap (λ z. argument_words es ++ (expression_words a ++ z)) (sym (append-nil (selected_words x a (word_with 10 k))))))
call_words false g a k f x es h = absurd (let z : ◌≡◌ {A = ℕ} 0 1 = ap (λ (b : Bool). pick b 1 0) h in omega arith)

pub plain_call_words : (c g : Bool) (a : Expression) (k f x : ℕ) (es : List Expression) → c ≡ false
    → (statement_word_with 5 (f * 256 + x) ∷ argument_words es) ++ pick g (word_with 9 1 ∷ []) [] ≡ statements_words (compiled_call c g a k f x es)
unfolding flat_map compiled_call statement_words argument_words expression_words
plain_call_words true g a k f x es h = absurd (let z : ◌≡◌ {A = ℕ} 1 0 = ap (λ (b : Bool). pick b 1 0) h in omega arith)
plain_call_words false true a k f x es h =
    ap (λ z. statement_word_with 5 (f * 256 + x) ∷ z) (sym (append-nil _ ∙ argument_words_lem es (boolean 0 1 ∷ [])))
plain_call_words false false a k f x es h =
    ap (λ z. statement_word_with 5 (f * 256 + x) ∷ z) (sym (append-nil _ ∙ argument_words_lem es []))
