-- Property 2: what the compiler wrote, beside its source, for a host that lends bytes. It is accepted, in form 1 and over the same arrays; it loads
-- over the same cells, all of them 0 then; and it ends as its source ends. Assumes nothing.
use Rattle.std.specs.Prelude.{ℕ, ◌*◌, ◌%◌, ◌≤◌, ◌≡◌, refl, eqb, length, drop}
use Rattle.std.proofs.Math.Bool.{true}
use mathlib.Core.List.{List, [], ◌∷◌, ◌++◌, append_assoc}
use Rattle.std.proofs.Common.{sym, ◌∙◌, arith, eq-eqb, take_at}
use Rattle.std.proofs.Math.Path.{ap}
use Rattle.std.proofs.Math.ListN.{take}
use Rattle.definitions.specs.Choice.{pick}
use Rattle.definitions.specs.Bytes.{Bytes, words_of, bytes_of, lent}
use Rattle.definitions.specs.declared.Answer.TheVariants.{Done}
use Rattle.definitions.specs.declared.Checked.TheVariants.{Accepted}
use Rattle.definitions.specs.declared.Compiled.TheVariants.{Written}
use Rattle.definitions.specs.Image.{Image, procedure_at, cell_count}
use Rattle.definitions.specs.Encoding.{image_words}
use Rattle.definitions.specs.Reading.{read_image}
use Rattle.definitions.specs.Compiling.{compiled_image}
use Rattle.definitions.specs.Requests.{Called, call, preview}
use Rattle.definitions.specs.Host.{whole_words, check_bytes, compile_bytes, load_bytes, clear_bytes, poke_bytes, peek_bytes}
use Rattle.definitions.specs.Host.{call_bytes, preview_bytes}
use Rattle.statements.specs.Statements.{AdmissibleBytes, cleared, EndAlike, with_guard, SameMeaning}
use Rattle.laws.specs.WordsOfBytes.{length_bytes_of, bytes_of_append, words_back}
use Rattle.laws.specs.Parses.{got_same}
use Rattle.laws.specs.Admitted.{admit, admitted_read}
use Rattle.readback.specs.Like.{LikeImage}
use Rattle.readback.specs.Accepted.{like_at}
use Rattle.readback.specs.Conclusion.{ReadBack, read_back, compiled_accepted}
use Rattle.readback.specs.Cells.{same_load, same_clear, same_poke, same_peek}
use Rattle.readback.specs.Output.{Wrote, wrote}
use Rattle.results.specs.Accepted.{admitted_admissible, admissible_admitted}
use Rattle.results.proofs.Exactly.{load_is_done}
use Rattle.properties.specs.Compiled.{no_fault_lem, same_calls}

-- what is lent as bytes, from what a call on words gives
abbrev in_bytes : List ℕ → List ℕ → Called → Called
in_bytes cells trace r = (r.0, lent cells r.1, lent trace r.2)

lent_alike : (x y : Called) (cells trace trace' : List ℕ) → EndAlike x y → EndAlike (in_bytes cells trace x) (in_bytes cells trace' y)
lent_alike x y cells trace trace' (r, h) = (r, λ a b. ((h a b).0, ap (lent cells) (h a b).1))

-- where two calls end alike, so do the previews: both leave the cells
previews_alike : (image target cells : List ℕ) (f : ℕ) (arguments arguments' : List ℕ) (budget budget' : ℕ) (trace trace' : List ℕ)
    → EndAlike (call_bytes image cells f arguments budget trace) (call_bytes target cells f arguments' budget' trace')
    → EndAlike (preview_bytes image cells f arguments budget trace) (preview_bytes target cells f arguments' budget' trace')
unfolding call_bytes preview_bytes preview
previews_alike image target cells f arguments arguments' budget budget' trace trace' (r, h) = (r, λ a b. ((h a b).0, refl))

-- words written as bytes are whole
whole_bytes : (ws : List ℕ) → whole_words (bytes_of ws) ≡ true
whole_bytes ws = let e = length_bytes_of ws in eq-eqb (length (bytes_of ws) % 4) 0 (omega arith)

-- the first bytes of a lent slice are those of the first words that were written there
first_bytes : (out ws rest : List ℕ) (n : ℕ) → length ws ≡ n → take (4 * n) (lent out (ws ++ rest)) ≡ bytes_of ws
unfolding lent
first_bytes out ws rest n e =
    ap (λ (bytes : List ℕ). take (4 * n) (bytes ++ drop (4 * length (ws ++ rest)) out)) (bytes_of_append ws rest)
    ∙ ap (take (4 * n)) (append_assoc (bytes_of ws) (bytes_of rest) (drop (4 * length (ws ++ rest)) out))
    ∙ take_at (bytes_of ws) (bytes_of rest ++ drop (4 * length (ws ++ rest)) out) (4 * n) (length_bytes_of ws ∙ ap (λ (m : ℕ). 4 * m) e)

-- Where the compiler answers that it wrote n words, and the given tree is spelled by the source.
module _ (image out : List ℕ) (n : ℕ) (e : (compile_bytes image out).0 ≡ Written n) where
  abbrev target : List ℕ
  target = take (4 * n) (compile_bytes image out).1

  w : Wrote (whole_words image) (words_of image) (words_of out) n
  unfolding compile_bytes
  w = wrote (whole_words image) (words_of image) (words_of out) n e

  abbrev code : List ℕ
  code = image_words (compiled_image w.source)

  back : ReadBack w.source
  back = read_back w.source w.sound w.fitting

  bytes : target ≡ bytes_of code
  unfolding compile_bytes
  bytes = ap (λ (x : List ℕ). take (4 * n) (lent out x)) w.output ∙ first_bytes out code (drop n (words_of out)) n w.count

  spelled : words_of target ≡ code
  spelled = ap words_of bytes ∙ words_back code

  whole : whole_words target ≡ true
  whole = ap whole_words bytes ∙ whole_bytes code

  pub target_accepted : check_bytes target ≡ Accepted
  unfolding check_bytes
  target_accepted = rw (whole, spelled) (compiled_accepted w.source w.sound w.fitting)

  module _ (tree : Image) (a : AdmissibleBytes image tree) where
    -- the tree that is read is the given one, up to places
    like : LikeImage tree w.source
    like =
        let (read, m, q, l) = admissible_admitted (whole_words image) (words_of image) tree a in
        let same : read ≡ w.source =
        (got_same (read_image (whole_words image) (words_of image)) read w.source m w.place
        (admitted_read (whole_words image) (words_of image) read m q).0 w.reading).0 in
        rw same at l

    guard : (f : ℕ) (ws : List ℕ) → with_guard (procedure_at tree.procedures f) ws ≡ with_guard (procedure_at w.source.procedures f) ws
    guard f ws = ap (λ (m : ℕ). ws ++ pick (eqb m 1) (1 ∷ []) []) (like_at like.procedures f).modes

    pub target_tree : (t : Image) × AdmissibleBytes target t × (t.form ≡ 1) × (t.arrays ≡ tree.arrays)
    target_tree =
        let read = admit true code back.tree (length code) back.reading back.faultless in
        (back.tree, rw (whole, spelled) (admitted_admissible true code back.tree (length code) read), back.in_form, back.same_arrays ∙ sym like.arrays)

    same_calls_in_bytes : (cells : List ℕ) (f : ℕ) (arguments arguments' : List ℕ) (budget budget' : ℕ) (trace trace' : List ℕ)
        → words_of arguments' ≡ with_guard (procedure_at tree.procedures f) (words_of arguments)
        → EndAlike (call_bytes image cells f arguments budget trace) (call_bytes target cells f arguments' budget' trace')
    unfolding call_bytes
    same_calls_in_bytes cells f arguments arguments' budget budget' trace trace' g =
        rw (whole, spelled, g, guard f (words_of arguments))
        (lent_alike
        (call (whole_words image) (words_of image) (words_of cells) f (words_of arguments) budget (length (words_of trace)))
        (call true code (words_of cells) f (with_guard (procedure_at w.source.procedures f) (words_of arguments)) budget' (length (words_of trace')))
        cells trace trace'
        (same_calls (whole_words image) (words_of image) (words_of out) n w back (words_of cells) f (words_of arguments)
        budget budget' (length (words_of trace)) (length (words_of trace'))))

    pub same_meaning : SameMeaning image tree target
    unfolding load_bytes clear_bytes poke_bytes peek_bytes
    same_meaning =
        let known = no_fault_lem (whole_words image) (words_of image) (words_of out) n w in
        record {
          calls = same_calls_in_bytes;
          previews = λ cells f arguments arguments' budget budget' trace trace' g.
              previews_alike image target cells f arguments arguments' budget budget' trace trace'
              (same_calls_in_bytes cells f arguments arguments' budget budget' trace trace' g);
          loads = λ cells. rw (whole, spelled, same_load (whole_words image) (words_of image) w.source w.place w.reading known back (words_of cells));
          clears = λ cells. rw (whole, spelled, same_clear (whole_words image) (words_of image) w.source w.place w.reading known back (words_of cells));
          pokes = λ cells b i v.
              rw (whole, spelled, same_poke (whole_words image) (words_of image) w.source w.place w.reading known back (words_of cells) b i v);
          peeks = λ cells b i.
              rw (whole, spelled, same_peek (whole_words image) (words_of image) w.source w.place w.reading known back (words_of cells) b i);
        }

    pub target_loads : (cells : List ℕ) → Bytes cells → 4 * cell_count tree.arrays ≤ length cells
        → load_bytes target cells ≡ (Done 0 0 0, cleared (cell_count tree.arrays) cells)
    target_loads cells are h = same_meaning.loads cells ∙ load_is_done image cells are tree (record { admissible = a; enough = h })
