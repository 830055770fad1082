-- Document 01, "What demand 3 compares", for poke, peek and clear on words: served on two machines with one image in force, whose cells agree where
-- they are public, it is answered alike and leaves cells that agree where they are public.
-- Assumes nothing.
use Rattle.std.specs.Prelude.{◌≡◌, Bool, ◌&&◌, List, ℕ, ◌+◌, ◌<◌, ltb, length, get_or}
use Rattle.std.proofs.Math.Path.{refl}
use Rattle.std.proofs.Common.{sym, ◌∙◌, ltb-true}
use Rattle.std.proofs.Math.Bool.{true, false}
use Rattle.std.proofs.lemmas.Bool.{false≢true}
use Rattle.std.proofs.Math.ListN.{set}
use Rattle.definitions.specs.Choice.{pick}
use Rattle.definitions.specs.declared.Answer.TheVariants.{Refused}
use Rattle.definitions.specs.Bytes.{words_of}
use Rattle.definitions.specs.Image.{array_secret, array_length, base_of, Image}
use Rattle.definitions.specs.Requests.{Ready, ready, unready, ready_to_serve, Served, served, carried_out, zeroed, has_cell}
use Rattle.definitions.specs.Requests.{clear, poke, peek}
use Rattle.definitions.specs.Host.{whole_words}
use Rattle.statements.specs.Statements.{image_of, secret_cell, SameAnswer, both_done, both_refused}
use Rattle.secrecy.specs.Usable.{usable_serve}
use Rattle.secrecy.specs.Agreement.{Agree, agree_set, agree_zeroed, cell_secret, layout}

-- two requests on words that are answered alike, and leave m cells that agree where they are public
pub record ServedAlike (secret : Bool) (m : ℕ) (arrays : List ℕ) (x y : Served) : Type 0 where
  pub answers : SameAnswer secret x.0 y.0
  pub agree : Agree m (cell_secret arrays) x.1 y.1

-- a refusal is the same on both; else the request works on the image that the bytes spell
same_served : (bytes : List ℕ) (secret : Bool) (m : ℕ) (cs ds : List ℕ) (f g : Image → Served)
    → Agree m (cell_secret (image_of bytes).arrays) cs ds → ServedAlike secret m (image_of bytes).arrays (f (image_of bytes)) (g (image_of bytes))
    → ServedAlike secret m (image_of bytes).arrays (served (ready_to_serve (whole_words bytes) (words_of bytes) (length cs)) cs f)
    (served (ready_to_serve (whole_words bytes) (words_of bytes) (length ds)) ds g)
unfolding served image_of
same_served bytes secret m cs ds f g a h =
    rw (a.left, a.right) (by_ready (ready_to_serve (whole_words bytes) (words_of bytes) m) refl)
  where
    by_ready : (r : Ready) → ready_to_serve (whole_words bytes) (words_of bytes) m ≡ r
        → ServedAlike secret m (image_of bytes).arrays (served r cs f) (served r ds g)
    by_ready (ready image) e = rw (usable_serve bytes m image e).tree h
    by_ready (unready n p) e = record { answers = both_refused; agree = a }

-- a cell that is there lies in its array
has_cell_lem : (image : Image) (a i : ℕ) → has_cell image a i ≡ true → i < array_length (get_or image.arrays a 0)
has_cell_lem image a i h =
    ltb-true i (array_length (get_or image.arrays a 0))
    (second (ltb a (length image.arrays)) (ltb i (array_length (get_or image.arrays a 0))) h)
  where
    second : (x y : Bool) → (x && y) ≡ true → y ≡ true
    second true y e = e
    second false y e = absurd (false≢true e)

-- all cells of public arrays
pub public_cells : (image : Image) {m : ℕ} {cs ds : List ℕ} → Agree m (cell_secret image.arrays) cs ds
    → (a i : ℕ) → has_cell image a i ≡ true → array_secret (get_or image.arrays a 0) ≡ false
    → get_or cs (base_of image.arrays a + i) 0 ≡ get_or ds (base_of image.arrays a + i) 0
public_cells image h a i g s = h.here (base_of image.arrays a + i) (layout image.arrays a i (has_cell_lem image a i g) ∙ s)

module _ (bytes : List ℕ) (m : ℕ) (cs ds : List ℕ) (agree : Agree m (cell_secret (image_of bytes).arrays) cs ds) where
  pub same_poke : (a i v w : ℕ) → (secret_cell (image_of bytes) a i ≡ false → v ≡ w)
      → ServedAlike false m (image_of bytes).arrays (poke (whole_words bytes) (words_of bytes) cs a i v) (poke (whole_words bytes) (words_of bytes) ds a i w)
  unfolding poke
  same_poke a i v w e =
      same_served bytes false m cs ds
      (λ j. pick (has_cell j a i) (carried_out 0, set cs (base_of j.arrays a + i) v) (Refused 17 0, cs))
      (λ j. pick (has_cell j a i) (carried_out 0, set ds (base_of j.arrays a + i) w) (Refused 17 0, ds))
      agree (by_test (has_cell (image_of bytes) a i) refl e)
    where
      by_test : (b : Bool) → has_cell (image_of bytes) a i ≡ b → ((b && array_secret (get_or (image_of bytes).arrays a 0)) ≡ false → v ≡ w)
          → ServedAlike false m (image_of bytes).arrays
          (pick b (carried_out 0, set cs (base_of (image_of bytes).arrays a + i) v) (Refused 17 0, cs))
          (pick b (carried_out 0, set ds (base_of (image_of bytes).arrays a + i) w) (Refused 17 0, ds))
      by_test true p f =
          record {
            answers = both_done (λ _. refl);
            agree = agree_set (base_of (image_of bytes).arrays a + i) v w agree
                (λ g. f (sym (layout (image_of bytes).arrays a i (has_cell_lem (image_of bytes) a i p)) ∙ g));
          }
      by_test false p f = record { answers = both_refused; agree = agree }

  pub same_peek : (a i : ℕ)
      → ServedAlike (secret_cell (image_of bytes) a i) m (image_of bytes).arrays (peek (whole_words bytes) (words_of bytes) cs a i)
      (peek (whole_words bytes) (words_of bytes) ds a i)
  unfolding peek
  same_peek a i =
      same_served bytes (secret_cell (image_of bytes) a i) m cs ds
      (λ j. pick (has_cell j a i) (carried_out (get_or cs (base_of j.arrays a + i) 0), cs) (Refused 17 0, cs))
      (λ j. pick (has_cell j a i) (carried_out (get_or ds (base_of j.arrays a + i) 0), ds) (Refused 17 0, ds))
      agree (by_test (has_cell (image_of bytes) a i) refl)
    where
      by_test : (b : Bool) → has_cell (image_of bytes) a i ≡ b
          → ServedAlike (b && array_secret (get_or (image_of bytes).arrays a 0)) m (image_of bytes).arrays
          (pick b (carried_out (get_or cs (base_of (image_of bytes).arrays a + i) 0), cs) (Refused 17 0, cs))
          (pick b (carried_out (get_or ds (base_of (image_of bytes).arrays a + i) 0), ds) (Refused 17 0, ds))
      by_test true p =
          record { answers = both_done (λ g. public_cells (image_of bytes) agree a i p g); agree = agree }
      by_test false p = record { answers = both_refused; agree = agree }

  pub same_clear : ServedAlike false m (image_of bytes).arrays (clear (whole_words bytes) (words_of bytes) cs) (clear (whole_words bytes) (words_of bytes) ds)
  unfolding clear served image_of
  same_clear =
      rw (agree.left, agree.right) (by_ready (ready_to_serve (whole_words bytes) (words_of bytes) m) refl)
    where
      by_ready : (r : Ready) → ready_to_serve (whole_words bytes) (words_of bytes) m ≡ r
          → ServedAlike false m (image_of bytes).arrays (served r cs (λ i. (carried_out 0, zeroed i cs))) (served r ds (λ i. (carried_out 0, zeroed i ds)))
      by_ready (ready image) e =
          let u = usable_serve bytes m image e in
          rw u.tree (record { answers = both_done (λ _. refl); agree = agree_zeroed (image_of bytes).arrays cs ds agree.left agree.right u.room })
      by_ready (unready n p) e = record { answers = both_refused; agree = agree }
