-- Property 1, the compiler on lent bytes: what it refuses, with which number, in which order, and the words that it writes otherwise. An image is
-- spoken of by a tree that its words spell (Accepted). Assumes nothing.
use Rattle.std.specs.Prelude.{ℕ, ◌*◌, Bool, true, false, ◌≡◌, leb, eqb, length}
use mathlib.Core.List.{List}
use Rattle.std.proofs.Common.{inl, inr, ap, arith}
use Rattle.std.proofs.Math.Path.{refl, sym}
use borrow.Author.Tests.{eqb-true, eqb-false, leb-true, leb-false, le-leb, lt-leb, eq-eqb, ne_eqb}
use Rattle.definitions.specs.declared.Checked.{Checked}
use Rattle.definitions.specs.declared.Checked.TheVariants.{Accepted, Refused as CheckRefused}
use Rattle.definitions.specs.declared.Compiled.{Compiled}
use Rattle.definitions.specs.declared.Compiled.TheVariants.{Written, Refused}
use Rattle.definitions.specs.Image.{Image}
use Rattle.definitions.specs.Encoding.{image_words}
use Rattle.definitions.specs.Bytes.{Bytes, words_of, lent}
use Rattle.definitions.specs.Reading.{Parse, got, refused}
use Rattle.definitions.specs.Checking.{admitted, verdict, checked}
use Rattle.definitions.specs.Compiling.{compiled_image, fits, written, compiled_tree, compiled}
use Rattle.definitions.specs.Host.{whole_words, check_bytes, compile_bytes}
use Rattle.statements.specs.Statements.{Iff, AdmissibleBytes, RefusedOr, NotWritten, source_refused, given_form_1}
use Rattle.statements.specs.Statements.{beyond_limits, short_output, Compilable}
use Rattle.laws.specs.WordsOfBytes.{lent_front, length_words_of, lent_words_of}
use Rattle.readback.specs.LikeCompiled.{like_compiled_words, like_compiled_fits}
use Rattle.results.specs.Accepted.{accepted_bytes, admissible_admitted}

-- there is no third case
pub written_or_not : (image out : List ℕ) → RefusedOr (NotWritten image out) (Compilable image out)
written_or_not image out = go (check_bytes image) refl
  where
    by_tests : (tree : Image) → AdmissibleBytes image tree → (a b c : Bool) → eqb tree.form 0 ≡ a → fits (compiled_image tree) ≡ b
        → leb (4 * length (image_words (compiled_image tree))) (length out) ≡ c
        → RefusedOr (NotWritten image out) (Compilable image out)
    by_tests tree h true true true e f g =
        inr (tree, record { admissible = h; source = eqb-true tree.form 0 e; within = f; room = leb-true _ _ g })
    by_tests tree h true true false e f g = inl (16, 0, short_output tree h (eqb-true tree.form 0 e) f (leb-false _ _ g))
    by_tests tree h true false c e f g = inl (15, 0, beyond_limits tree h (eqb-true tree.form 0 e) f)
    by_tests tree h false b c e f g = inl (14, 0, given_form_1 tree h (eqb-false tree.form 0 e))

    go : (x : Checked) → check_bytes image ≡ x → RefusedOr (NotWritten image out) (Compilable image out)
    go (CheckRefused k p) e = inl (k, p, source_refused k p e)
    go Accepted e =
        let (tree, a) = accepted_bytes image e in
        by_tests tree a (eqb tree.form 0) (fits (compiled_image tree)) (leb (4 * length (image_words (compiled_image tree))) (length out)) refl refl refl

module _ (image out : List ℕ) (are : Bytes out) where
  unchanged : (k p : ℕ) → compiled (whole_words image) (words_of image) (words_of out) ≡ (Refused k p, words_of out) → compile_bytes image out ≡ (Refused k p, out)
  unfolding compile_bytes
  unchanged k p e = rw e (ap (λ (x : List ℕ). (Refused k p, x)) (lent_words_of out are))

  refused_image_lem : (k p : ℕ) (x : Parse Image) → verdict x ≡ CheckRefused k p → compiled_tree x (words_of out) ≡ (Refused k p, words_of out)
  unfolding verdict compiled_tree
  refused_image_lem k p (got tree n) e = cc
  refused_image_lem k p (refused n q) e = cc

  -- a refusal leaves the output as it was
  pub compile_is_refused : {k p : ℕ} → NotWritten image out k p → compile_bytes image out ≡ (Refused k p, out)
  unfolding compiled compiled_tree written check_bytes checked
  compile_is_refused (source_refused k p e) = unchanged k p (refused_image_lem k p (admitted (whole_words image) (words_of image)) e)
  compile_is_refused (given_form_1 tree a h) =
      let (read, n, e, like) = admissible_admitted (whole_words image) (words_of image) tree a in
      unchanged 14 0 (rw (e, sym like.forms, ne_eqb tree.form 0 h))
  compile_is_refused (beyond_limits tree a s f) =
      let (read, n, e, like) = admissible_admitted (whole_words image) (words_of image) tree a in
      unchanged 15 0 (rw (e, sym like.forms, eq-eqb tree.form 0 s, sym (like_compiled_fits like), f))
  compile_is_refused (short_output tree a s f l) =
      let (read, n, e, like) = admissible_admitted (whole_words image) (words_of image) tree a in
      unchanged 16 0 (rw (
        e,
        sym like.forms,
        eq-eqb tree.form 0 s,
        sym (like_compiled_fits like),
        f,
        sym (like_compiled_words like),
        lt-leb (length (image_words (compiled_image tree))) (length (words_of out)) (rw length_words_of (omega arith)),
      ))

  -- the words of the compiled tree, at the front of the output. "Output words past the result stay unchanged."
  pub compile_is_written : (tree : Image) → Compilable image out tree
      → compile_bytes image out ≡ (Written (length (image_words (compiled_image tree))), lent out (image_words (compiled_image tree)))
  unfolding compile_bytes compiled compiled_tree written lent
  compile_is_written tree c =
      let (read, n, e, like) = admissible_admitted (whole_words image) (words_of image) tree c.admissible in
      let h = c.room in
      rw (
        e,
        sym like.forms,
        eq-eqb tree.form 0 c.source,
        sym (like_compiled_fits like),
        c.within,
        sym (like_compiled_words like),
        le-leb (length (image_words (compiled_image tree))) (length (words_of out)) (rw length_words_of (omega arith)),
      )
      (ap (λ (x : List ℕ). (Written (length (image_words (compiled_image tree))), x))
      (lent_front out (image_words (compiled_image tree)) (length (image_words (compiled_image tree))) are refl h))

  pub compile_refused_exactly : (k p : ℕ) → Iff ((compile_bytes image out).0 ≡ Refused k p) (NotWritten image out k p)
  compile_refused_exactly k p = (go (written_or_not image out), λ h. ap (λ (x : Compiled × List ℕ). x.0) (compile_is_refused h))
    where
      go : RefusedOr (NotWritten image out) (Compilable image out) → (compile_bytes image out).0 ≡ Refused k p → NotWritten image out k p
      go (inl (n, q, h)) e =
          let r = ap (λ (x : Compiled × List ℕ). x.0) (compile_is_refused h) in
          let number : n ≡ k = cc in
          let place : q ≡ p = cc in rw (number, place) at h
      go (inr (tree, c)) e =
          let r = ap (λ (x : Compiled × List ℕ). x.0) (compile_is_written tree c) in
          absurd (let z : ◌≡◌ {A = ℕ} 0 1 = cc in omega arith)

  pub compile_unchanged : (k p : ℕ) → (compile_bytes image out).0 ≡ Refused k p → (compile_bytes image out).1 ≡ out
  compile_unchanged k p e = ap (λ (x : Compiled × List ℕ). x.1) (compile_is_refused ((compile_refused_exactly k p).0 e))
