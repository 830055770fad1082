-- Document 01, "What demand 3 compares", for one turn on lent bytes: two machines that are paired, served alike requests, respond alike and are
-- paired again.
-- Assumes nothing.
use Rattle.std.specs.Prelude.{◌≡◌, refl, Bool, true, false, ℕ, zero, suc, ◌/◌, length, take}
use Rattle.std.proofs.Math.Path.{sym}
use Rattle.std.proofs.Common.{ap, ◌∙◌}
use mathlib.Core.List.{List, []}
use Rattle.definitions.specs.Choice.{pick}
use Rattle.definitions.specs.declared.Answer.{Answer}
use Rattle.definitions.specs.declared.Answer.TheVariants.{Refused}
use Rattle.definitions.specs.Bytes.{words_of, lent}
use Rattle.definitions.specs.Reading.{read_image}
use Rattle.definitions.specs.Checking.{checked, admitted}
use Rattle.definitions.specs.Requests.{Ready, ready, unready, ready_to_load, Served, served, carried_out, zeroed, Called}
use Rattle.definitions.specs.Requests.{load, clear, poke, peek, call, preview}
use Rattle.definitions.specs.Host.{whole_words, load_bytes, clear_bytes, poke_bytes, peek_bytes, call_bytes, preview_bytes, check_bytes}
use Rattle.statements.specs.Statements.{Machine, Response, turn, accepted, recorded_count, recorded, tree_of, image_of}
use Rattle.statements.specs.Statements.{secret_result, Alike, loads, pokes, peeks, clears, calls, previews, both_done, both_refused}
use Rattle.statements.specs.Statements.{InForce, nothing, SameAnswer, SameResponse}
use Rattle.secrecy.specs.Agreement.{Agree, agree_zeroed, cell_secret}
use Rattle.secrecy.specs.Lending.{length_words_of, words_of_lent, length_lent, take_lent}
use Rattle.secrecy.specs.Usable.{usable_load}
use Rattle.secrecy.specs.Serving.{ServedAlike, public_cells, same_poke, same_peek, same_clear}
use Rattle.secrecy.specs.Calling.{CalledAlike, same_call}
use Rattle.statements.specs.Statements

-- Two machines with one image in force, and as many lent bytes for cells, which agree where they are public.
pub data Paired : Machine → Machine → Type 0 where
  paired : {image cells cells' : List ℕ} → InForce image → length cells ≡ length cells'
      → Agree (length (words_of cells)) (cell_secret (image_of image).arrays) (words_of cells) (words_of cells')
      → Paired (record { image = image; cells = cells }) (record { image = image; cells = cells' })

-- what is shown of a turn
pub record Turned (secret : Bool) (x y : Response) : Type 0 where
  pub same : SameResponse secret x y
  pub next : Paired x.after y.after

-- none in force is of form 1 too: it has no procedure
in_force_form : {image : List ℕ} → InForce image → (image_of image).form ≡ 1
unfolding image_of tree_of read_image words_of
in_force_form nothing = refl
in_force_form (Statements.checked a e) = e

-- no trace is lent
take_none : (n : ℕ) → take {A = ℕ} n [] ≡ []
take_none zero = refl
take_none (suc n) = refl

-- as many bytes hold as many words
pub same_count : (b b' : List ℕ) → length b ≡ length b' → length (words_of b) ≡ length (words_of b')
same_count b b' e = length_words_of b ∙ ap (λ (k : ℕ). k / 4) e ∙ sym (length_words_of b')

-- of machines that are paired the public cells are equal
paired_cells : {m n : Machine} → Paired m n → Statements.PublicCells (image_of m.image) m.cells n.cells
paired_cells (paired {image} f s b) = public_cells (image_of image) b

-- the machines after a request that leaves the image in force, over lent bytes
module _ (image cells cells' : List ℕ) (force : InForce image) (size : length cells ≡ length cells') where
  after_request : (ws ws' : List ℕ) → Agree (length (words_of cells)) (cell_secret (image_of image).arrays) ws ws'
      → Paired (record { image = image; cells = lent cells ws }) (record { image = image; cells = lent cells' ws' })
  after_request ws ws' a =
      let other : length ws' ≡ length (words_of cells') = a.right ∙ same_count cells cells' size in
      paired {cells = lent cells ws} {cells' = lent cells' ws'} force (length_lent cells ws a.left ∙ size ∙ sym (length_lent cells' ws' other))
      (rw (words_of_lent cells ws a.left, words_of_lent cells' ws' other, a.left) a)

  cells_after : (ws ws' : List ℕ) → Agree (length (words_of cells)) (cell_secret (image_of image).arrays) ws ws'
      → Statements.PublicCells (image_of image) (lent cells ws) (lent cells' ws')
  cells_after ws ws' a = paired_cells (after_request ws ws' a)

  -- answers that are alike, traces in which the same words were recorded, and cells that agree
  responded : {secret : Bool} (a b : Answer) (t u ws ws' : List ℕ) → SameAnswer secret a b → recorded a t ≡ recorded b u
      → Agree (length (words_of cells)) (cell_secret (image_of image).arrays) ws ws'
      → Turned secret (record { answer = a; trace = t; after = record { image = image; cells = lent cells ws } })
      (record { answer = b; trace = u; after = record { image = image; cells = lent cells' ws' } })
  responded a b t u ws ws' answers traces agree =
      record {
        same = record { answers = answers; traces = traces; images = refl; in_force = force; cells = cells_after ws ws' agree };
        next = after_request ws ws' agree;
      }

  -- a request without a trace
  turned : {secret : Bool} (x y : Served) → ServedAlike secret (length (words_of cells)) (image_of image).arrays x y
      → Turned secret (record { answer = x.0; trace = []; after = record { image = image; cells = lent cells x.1 } })
      (record { answer = y.0; trace = []; after = record { image = image; cells = lent cells' y.1 } })
  unfolding words_of
  turned x y h =
      responded x.0 y.0 [] [] x.1 y.1 h.answers (take_none (recorded_count x.0) ∙ sym (take_none (recorded_count y.0))) h.agree

  -- a call
  turned_call : {secret : Bool} (trace trace' : List ℕ) (x y : Called) → CalledAlike secret (length (words_of cells)) (image_of image).arrays x y
      → Turned secret (record { answer = x.0; trace = lent trace x.2; after = record { image = image; cells = lent cells x.1 } })
      (record { answer = y.0; trace = lent trace' y.2; after = record { image = image; cells = lent cells' y.1 } })
  turned_call trace trace' x y h =
      responded x.0 y.0 (lent trace x.2) (lent trace' y.2) x.1 y.1 h.answers
      (words trace x.0 x.2 h.count ∙ h.traces ∙ sym (words trace' y.0 y.2 h.count')) h.agree
    where
      words : (b : List ℕ) (a : Answer) (t : List ℕ) → recorded_count a ≡ length t → take (recorded_count a) (words_of (lent b t)) ≡ t
      words b a t e = rw e (take_lent b t)

-- what a load makes of the words of the lent cells, and the response to it where the given image is in force
abbrev loading : List ℕ → Ready → Served
loading ws r = served r ws (λ i. (carried_out 0, zeroed i ws))

abbrev loaded : List ℕ → List ℕ → List ℕ → Ready → Response
loaded image bytes cells r =
    let s : Served = loading (words_of cells) r in
    record { answer = s.0; trace = []; after = record { image = pick (accepted s.0) bytes image; cells = lent cells s.1 } }

-- a load: it is refused on both, or its image is the one in force on both, with all its cells 0
module _ (image cells cells' : List ℕ) (force : InForce image) (size : length cells ≡ length cells')
    (agree : Agree (length (words_of cells)) (cell_secret (image_of image).arrays) (words_of cells) (words_of cells')) where
  turned_load : (bytes : List ℕ) (r : Ready) → ready_to_load (whole_words bytes) (words_of bytes) (length (words_of cells)) ≡ r
      → (accepted (loading (words_of cells) r).0 ≡ true → (image_of bytes).form ≡ 1)
      → Turned false (loaded image bytes cells r) (loaded image bytes cells' r)
  unfolding served check_bytes checked admitted image_of
  turned_load bytes (ready tree) e f =
      let u = usable_load bytes (length (words_of cells)) tree e in
      turned bytes cells cells' (Statements.checked u.accepts (f refl)) size (carried_out 0, zeroed tree (words_of cells))
      (carried_out 0, zeroed tree (words_of cells'))
      (record {
        answers = both_done (λ _. refl);
        agree = rw u.tree (agree_zeroed (image_of bytes).arrays (words_of cells) (words_of cells') agree.left agree.right u.room);
      })
  turned_load bytes (unready n p) e f =
      turned image cells cells' force size (Refused n p, words_of cells) (Refused n p, words_of cells') (record { answers = both_refused; agree = agree })

-- one turn
pub turned_alike : {m n : Machine} {r s : Statements.Request} → Paired m n → Alike m r s
    → Turned (secret_result (image_of m.image) r) (turn m r) (turn n s)
unfolding turn load_bytes clear_bytes poke_bytes peek_bytes call_bytes preview_bytes load preview
turned_alike (paired {image} {cells} {cells'} force size agree) (loads {image = bytes} f) =
    rw agree.right (turned_load image cells cells' force size agree bytes
    (ready_to_load (whole_words bytes) (words_of bytes) (length (words_of cells))) refl f)
turned_alike (paired {image} {cells} {cells'} force size agree) (pokes {a} {i} {v} {w} e) =
    turned image cells cells' force size (poke (whole_words image) (words_of image) (words_of cells) a i v)
    (poke (whole_words image) (words_of image) (words_of cells') a i w)
    (same_poke image (length (words_of cells)) (words_of cells) (words_of cells') agree a i v w e)
turned_alike (paired {image} {cells} {cells'} force size agree) (peeks {a} {i}) =
    turned image cells cells' force size (peek (whole_words image) (words_of image) (words_of cells) a i)
    (peek (whole_words image) (words_of image) (words_of cells') a i)
    (same_peek image (length (words_of cells)) (words_of cells) (words_of cells') agree a i)
turned_alike (paired {image} {cells} {cells'} force size agree) clears =
    turned image cells cells' force size (clear (whole_words image) (words_of image) (words_of cells))
    (clear (whole_words image) (words_of image) (words_of cells'))
    (same_clear image (length (words_of cells)) (words_of cells) (words_of cells') agree)
turned_alike (paired {image} {cells} {cells'} force size agree) (calls {f} {budget} {arguments} {arguments'} {trace} {trace'} count e room) =
    turned_call image cells cells' force size trace trace'
    (call (whole_words image) (words_of image) (words_of cells) f (words_of arguments) budget (length (words_of trace)))
    (call (whole_words image) (words_of image) (words_of cells') f (words_of arguments') budget (length (words_of trace')))
    (rw (same_count trace trace' room)
    (same_call image (length (words_of cells)) (words_of cells) (words_of cells') f (words_of arguments) (words_of arguments') budget
    (length (words_of trace')) (in_force_form force) agree (same_count arguments arguments' count) e))
turned_alike (paired {image} {cells} {cells'} force size agree) (previews {f} {budget} {arguments} {arguments'} {trace} {trace'} alike) =
    let t = turned_alike (paired {image = image} {cells = cells} {cells' = cells'} force size agree) alike in
    let x : Called = call (whole_words image) (words_of image) (words_of cells) f (words_of arguments) budget (length (words_of trace)) in
    let y : Called = call (whole_words image) (words_of image) (words_of cells') f (words_of arguments') budget (length (words_of trace')) in
    responded image cells cells' force size x.0 y.0 (lent trace x.2) (lent trace' y.2) (words_of cells) (words_of cells')
    t.same.answers t.same.traces agree
