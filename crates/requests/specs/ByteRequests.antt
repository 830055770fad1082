-- The definitions' requests on lent bytes, from what they do on the image's own cells. Assumes nothing.
use Rattle.std.specs.Prelude.{◌≡◌, ℕ, ◌*◌, ◌≤◌, length, take}
use Rattle.std.proofs.Common.{sym, ◌∙◌, arith, take-append-drop, length-take-le}
use Rattle.std.proofs.Math.Path.{ap}
use mathlib.Core.List.{List, ◌++◌}
use Rattle.std.proofs.Math.ListN.{drop}
use Rattle.std.proofs.lemmas.List.{length-replicate}
use Rattle.definitions.specs.Bytes.{Bytes, words_of, bytes_of, lent}
use Rattle.definitions.specs.Image.{cell_count, Image}
use Rattle.definitions.specs.Requests.{ready, unready, ready_to_load, ready_to_serve, Served, Called, served, served_call}
use Rattle.definitions.specs.Requests.{carried_out, zeroed, load, clear, poke, peek, call, called_on}
use Rattle.definitions.specs.Host.{whole_words, on_cells, load_bytes, clear_bytes, poke_bytes, peek_bytes, call_bytes}
use Rattle.definitions.specs.declared.Answer.{Answer}
use Rattle.definitions.specs.declared.Answer.TheVariants.{Refused}
use Rattle.laws.specs.WordsOfBytes.{lent_front, length_words_of, lent_words_of}
use Rattle.requests.specs.OwnCells.{clear_on, poke_on, peek_on}
use Rattle.requests.specs.SpareCells.{behind, behind_call, clear_spare, poke_spare, peek_spare, poke_long}
use Rattle.requests.specs.SpareCells.{peek_long, Spares, call_spare}

-- what the lent bytes are after a request that gives s on their first n words
abbrev pub afterwards : List ℕ → ℕ → Served → Answer × List ℕ
afterwards cells n s = (s.0, bytes_of s.1 ++ drop (4 * n) cells)

-- the same for a call, with the lent trace
abbrev pub after_call : List ℕ → ℕ → List ℕ → Called → Answer × List ℕ × List ℕ
after_call cells n trace r = (r.0, bytes_of r.1 ++ drop (4 * n) cells, lent trace r.2)

module _ (cells : List ℕ) (bytes : Bytes cells) where
  on_front : (n : ℕ) (r s : Served) → r ≡ behind (drop n (words_of cells)) s → length s.1 ≡ n → 4 * n ≤ length cells
      → on_cells cells r ≡ afterwards cells n s
  on_front n r s e l h = rw e (ap (λ (x : List ℕ). (s.0, x)) (lent_front cells s.1 n bytes l h))

  on_none : (k p : ℕ) → on_cells cells (Refused k p, words_of cells) ≡ (Refused k p, cells)
  on_none k p = ap (λ (x : List ℕ). (Refused k p, x)) (lent_words_of cells bytes)

  -- the image's own cells, of those that are lent
  module _ (n : ℕ) (h : 4 * n ≤ length cells) where
    enough : n ≤ length (words_of cells)
    enough = rw length_words_of (omega arith)

    own_long : length (take n (words_of cells)) ≡ n
    own_long = length-take-le n (words_of cells) enough

    split : words_of cells ≡ take n (words_of cells) ++ drop n (words_of cells)
    split = sym (take-append-drop n (words_of cells))

  -- ---- a request that is refused, whatever it is

  module _ (image : List ℕ) (k p : ℕ) where
    pub load_refused : ready_to_load (whole_words image) (words_of image) (length (words_of cells)) ≡ unready k p → load_bytes image cells ≡ (Refused k p, cells)
    unfolding load_bytes load served
    load_refused e = rw e (on_none k p)

    module _ (e : ready_to_serve (whole_words image) (words_of image) (length (words_of cells)) ≡ unready k p) where
      pub clear_refused : clear_bytes image cells ≡ (Refused k p, cells)
      unfolding clear_bytes clear served
      clear_refused = rw e (on_none k p)

      pub poke_refused : (a i v : ℕ) → poke_bytes image cells a i v ≡ (Refused k p, cells)
      unfolding poke_bytes poke served poke_on
      poke_refused a i v = rw e (on_none k p)

      pub peek_refused : (a i : ℕ) → peek_bytes image cells a i ≡ (Refused k p, cells)
      unfolding peek_bytes peek served peek_on
      peek_refused a i = rw e (on_none k p)

      pub call_refused : (f : ℕ) (arguments : List ℕ) (budget : ℕ) (trace : List ℕ) → call_bytes image cells f arguments budget trace ≡ (Refused k p, cells, trace)
      unfolding call_bytes call served_call lent bytes_of
      call_refused f arguments budget trace = rw e (ap (λ (x : List ℕ). (Refused k p, x, trace)) (lent_words_of cells bytes))

  -- ---- a request on an image that is ready

  module _ (image : List ℕ) (tree : Image) (n : ℕ) (own : n ≡ cell_count tree.arrays) (h : 4 * n ≤ length cells) where
    cleared : on_cells cells (carried_out 0, zeroed tree (words_of cells)) ≡ afterwards cells n (clear_on n)
    unfolding clear_on
    cleared =
        on_front n (carried_out 0, zeroed tree (words_of cells)) (clear_on n)
        (ap (λ (x : List ℕ). (carried_out 0, zeroed tree x)) (split n h)
        ∙ clear_spare tree (take n (words_of cells)) (drop n (words_of cells)) (own_long n h ∙ own)
        ∙ ap (λ (m : ℕ). behind (drop n (words_of cells)) (clear_on m)) (own_long n h))
        (length-replicate n 0) h

    pub load_ready : ready_to_load (whole_words image) (words_of image) (length (words_of cells)) ≡ ready tree → load_bytes image cells ≡ afterwards cells n (clear_on n)
    unfolding load_bytes load served
    load_ready e = rw e cleared

    module _ (e : ready_to_serve (whole_words image) (words_of image) (length (words_of cells)) ≡ ready tree) where
      pub clear_ready : clear_bytes image cells ≡ afterwards cells n (clear_on n)
      unfolding clear_bytes clear served
      clear_ready = rw e cleared

      pub poke_ready : (a i v : ℕ) → poke_bytes image cells a i v ≡ afterwards cells n (poke_on tree.arrays (take n (words_of cells)) a i v)
      unfolding poke_bytes poke served poke_on
      poke_ready a i v = rw e (on_front n (poke_on tree.arrays (words_of cells) a i v) (poke_on tree.arrays (take n (words_of cells)) a i v) spare long h)
        where
          spare : poke_on tree.arrays (words_of cells) a i v ≡ behind (drop n (words_of cells)) (poke_on tree.arrays (take n (words_of cells)) a i v)
          spare =
              ap (λ (x : List ℕ). poke_on tree.arrays x a i v) (split n h)
              ∙ poke_spare tree.arrays (take n (words_of cells)) (drop n (words_of cells)) (own_long n h ∙ own) a i v

          long : length (poke_on tree.arrays (take n (words_of cells)) a i v).1 ≡ n
          long = poke_long tree.arrays (take n (words_of cells)) (drop n (words_of cells)) (own_long n h ∙ own) a i v ∙ sym own

      pub peek_ready : (a i : ℕ) → peek_bytes image cells a i ≡ afterwards cells n (peek_on tree.arrays (take n (words_of cells)) a i)
      unfolding peek_bytes peek served peek_on
      peek_ready a i = rw e (on_front n (peek_on tree.arrays (words_of cells) a i) (peek_on tree.arrays (take n (words_of cells)) a i) spare long h)
        where
          spare : peek_on tree.arrays (words_of cells) a i ≡ behind (drop n (words_of cells)) (peek_on tree.arrays (take n (words_of cells)) a i)
          spare =
              ap (λ (x : List ℕ). peek_on tree.arrays x a i) (split n h)
              ∙ peek_spare tree.arrays (take n (words_of cells)) (drop n (words_of cells)) (own_long n h ∙ own) a i

          long : length (peek_on tree.arrays (take n (words_of cells)) a i).1 ≡ n
          long = peek_long tree.arrays (take n (words_of cells)) (drop n (words_of cells)) (own_long n h ∙ own) a i ∙ sym own

      -- a call: the trace words that it records go into the lent trace
      pub call_ready : (f : ℕ) (arguments : List ℕ) (budget : ℕ) (trace : List ℕ) (r : Called)
          → r ≡ called_on tree (take n (words_of cells)) f (words_of arguments) budget (length (words_of trace))
          → call_bytes image cells f arguments budget trace ≡ after_call cells n trace r
      unfolding call_bytes call served_call
      call_ready f arguments budget trace r q = rw e (ap answered same ∙ ap front (lent_front cells r.1 n bytes long h))
        where
          both : Spares tree.arrays (drop n (words_of cells))
              (called_on tree (take n (words_of cells)) f (words_of arguments) budget (length (words_of trace)))
              (called_on tree (take n (words_of cells) ++ drop n (words_of cells)) f (words_of arguments) budget (length (words_of trace)))
          both = call_spare tree (take n (words_of cells)) (drop n (words_of cells)) (own_long n h ∙ own) f (words_of arguments) budget (length (words_of trace))

          same : called_on tree (words_of cells) f (words_of arguments) budget (length (words_of trace)) ≡ behind_call (drop n (words_of cells)) r
          same =
              ap (λ (x : List ℕ). called_on tree x f (words_of arguments) budget (length (words_of trace))) (split n h)
              ∙ both.same ∙ ap (λ (x : Called). behind_call (drop n (words_of cells)) x) (sym q)

          long : length r.1 ≡ n
          long = ap (λ (x : Called). length x.1) q ∙ both.long ∙ sym own

          answered : Called → Answer × List ℕ × List ℕ
          answered x = (x.0, lent cells x.1, lent trace x.2)

          front : List ℕ → Answer × List ℕ × List ℕ
          front x = (r.0, x, lent trace r.2)
