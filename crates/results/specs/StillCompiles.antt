-- Document 02, wish 8: what the former compiler wrote is still written, and 15 comes from length alone. Assumes nothing.
use Rattle.std.specs.Prelude.{ℕ, ◌≤◌, ◌<◌, Bool, ◌⊎◌, length}
use Rattle.std.proofs.Common.{arith, ◌∙◌}
use Rattle.std.proofs.Math.Bool.{true, false}
use mathlib.Core.List.{List}
use Rattle.std.proofs.Math.Logic.{inl}
use Rattle.std.proofs.Math.Path.{◌≡◌, refl, sym}
use borrow.Author.Tests.{eqb-true, eq-eqb}
use Rattle.std.proofs.Math.Dec.{eqb}
use Rattle.definitions.specs.Choice.{pick}
use Rattle.definitions.specs.declared.Compiled.{Compiled}
use Rattle.definitions.specs.declared.Compiled.TheVariants.{Written, Refused}
use Rattle.definitions.specs.Image.{Image}
use Rattle.definitions.specs.Encoding.{image_words}
use Rattle.definitions.specs.Bytes.{words_of}
use Rattle.definitions.specs.Reading.{Parse, got, refused}
use Rattle.definitions.specs.Checking.{admitted}
use Rattle.definitions.specs.Compiling.{compiled_image, fit_locals, written, compiled_tree, compiled}
use Rattle.definitions.specs.Host.{whole_words, compile_bytes}
use Rattle.statements.specs.Statements.{Iff, AdmissibleBytes}
use Rattle.statements.specs.FormerNumbering.{former_image, former_tree, former_compiled, former_compile_bytes}
use Rattle.laws.specs.Admitted.{admitted_read}
use Rattle.laws.specs.ReadImages.{open_image}
use Rattle.laws.specs.CompiledLocals
use Rattle.results.specs.Renumbered
use Rattle.readback.specs.LikeCompiled.{like_compiled_words, like_compiled_fits}
use Rattle.results.specs.Accepted.{admissible_admitted}

-- a tree in form 0 that was admitted has few enough locals
fitting : (image : List ℕ) (tree : Image) (n : ℕ) → admitted (whole_words image) (words_of image) ≡ got tree n → eqb tree.form 0 ≡ true
    → fit_locals (compiled_image tree).procedures ≡ true
fitting image tree n e s =
    let (read, clean) = admitted_read (whole_words image) (words_of image) tree n e in
    CompiledLocals.locals_always_fit tree (open_image (whole_words image) (words_of image) tree n read).fits (eqb-true tree.form 0 s)

module _ (image out : List ℕ) where
  pub still_compiles : (n : ℕ) → (former_compile_bytes image out).0 ≡ Written n → (m : ℕ) × ((compile_bytes image out).0 ≡ Written m) × (m ≤ n)
  unfolding former_compile_bytes former_compiled former_tree compile_bytes compiled compiled_tree
  still_compiles n = by_parse (admitted (whole_words image) (words_of image)) refl
    where
      by_form : (tree : Image) (k : ℕ) (b : Bool) → admitted (whole_words image) (words_of image) ≡ got tree k → eqb tree.form 0 ≡ b
          → (pick {A = Compiled × List ℕ} b (written (former_image tree) (words_of out)) (Refused 14 0, words_of out)).0 ≡ Written n
          → (m : ℕ) × ((pick {A = Compiled × List ℕ} b (written (compiled_image tree) (words_of out)) (Refused 14 0, words_of out)).0 ≡ Written m) × (m ≤ n)
      by_form tree k true e s h = Renumbered.still_written tree (fitting image tree k e s) (words_of out) n h
      by_form tree k false e s h = let z : ◌≡◌ {A = ℕ} 0 1 = cc in absurd (omega arith)

      by_parse : (x : Parse Image) → admitted (whole_words image) (words_of image) ≡ x → (former_tree x (words_of out)).0 ≡ Written n
          → (m : ℕ) × ((compiled_tree x (words_of out)).0 ≡ Written m) × (m ≤ n)
      by_parse (got tree k) e h = by_form tree k (eqb tree.form 0) e refl h
      by_parse (refused k p) e h = let z : ◌≡◌ {A = ℕ} 0 1 = cc in absurd (omega arith)

  pub refused_before : (k p : ℕ) → (compile_bytes image out).0 ≡ Refused k p
      → ((former_compile_bytes image out).0 ≡ Refused k p) ⊎ ((former_compile_bytes image out).0 ≡ Refused 15 0)
  unfolding former_compile_bytes former_compiled former_tree compile_bytes compiled compiled_tree
  refused_before k p = by_parse (admitted (whole_words image) (words_of image)) refl
    where
      by_form : (tree : Image) (n : ℕ) (b : Bool) → admitted (whole_words image) (words_of image) ≡ got tree n → eqb tree.form 0 ≡ b
          → (pick {A = Compiled × List ℕ} b (written (compiled_image tree) (words_of out)) (Refused 14 0, words_of out)).0 ≡ Refused k p
          → ((pick {A = Compiled × List ℕ} b (written (former_image tree) (words_of out)) (Refused 14 0, words_of out)).0 ≡ Refused k p)
          ⊎ ((pick {A = Compiled × List ℕ} b (written (former_image tree) (words_of out)) (Refused 14 0, words_of out)).0 ≡ Refused 15 0)
      by_form tree n true e s h = Renumbered.refused_before tree (fitting image tree n e s) (words_of out) k p h
      by_form tree n false e s h = inl h

      by_parse : (x : Parse Image) → admitted (whole_words image) (words_of image) ≡ x → (compiled_tree x (words_of out)).0 ≡ Refused k p
          → ((former_tree x (words_of out)).0 ≡ Refused k p) ⊎ ((former_tree x (words_of out)).0 ≡ Refused 15 0)
      by_parse (got tree n) e h = by_form tree n (eqb tree.form 0) e refl h
      by_parse (refused n q) e h = inl h

module _ (image : List ℕ) (tree : Image) (a : AdmissibleBytes image tree) (s : tree.form ≡ 0) where
  pub locals_always_fit : fit_locals (compiled_image tree).procedures ≡ true
  locals_always_fit = CompiledLocals.locals_always_fit tree a.limits s

  -- the answer is that of the tree, whatever places it has
  answer_is : (out : List ℕ) → (compile_bytes image out).0 ≡ (written (compiled_image tree) (words_of out)).0
  unfolding compile_bytes compiled compiled_tree written
  answer_is out =
      let (read, n, e, like) = admissible_admitted (whole_words image) (words_of image) tree a in
      rw (e, sym like.forms, eq-eqb tree.form 0 s, sym (like_compiled_fits like), sym (like_compiled_words like)) refl

  pub fifteen_by_length : (out : List ℕ) → Iff ((compile_bytes image out).0 ≡ Refused 15 0) (16384 < length (image_words (compiled_image tree)))
  fifteen_by_length out =
      let (there, back) = Renumbered.fifteen_by_length tree locals_always_fit (words_of out) in
      (λ e. there (sym (answer_is out) ∙ e), λ l. answer_is out ∙ back l)
