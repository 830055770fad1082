-- Document 01, "What demand 3 compares": the theorem. What its statement says stands in Statements (of the crate statements); requests are served by the host's functions of the
-- definitions, on lent bytes, and the checker's own definition decides which image a load accepts.
--
-- "Two lists of requests (load, poke, peek, clear, call) stand side by side, of one length and with the same kind of request at each turn; any may be
-- refused. A machine starts empty: no image accepted yet. Both machines' cell slices have one length, whatever they hold at the start. With each
-- call a trace slice is lent anew, of the same length on both machines, whatever it holds."
-- "Secret arguments and words poked into secret cells may differ. All else the host passes is equal".
-- "Equal at each turn: whether it is refused or stopped, number, place, steps, the number of trace words recorded and each of them, a public result, a
-- peeked public cell. Equal after each turn: all cells of public arrays of the image then in force. This is one claim about the whole list, not
-- one for each request." Document 02, wish 7: "Previews may stand in any sequence a prying host makes."
-- Assumes nothing.
use Rattle.std.specs.Prelude.{◌≡◌, refl, Bool, false, List, [], ◌∷◌, ℕ, suc, length, set}
use Rattle.std.proofs.Common.{sym, ap, true≢false}
use Rattle.definitions.specs.Bytes.{words_of}
use Rattle.definitions.specs.declared.Answer.{Answer}
use Rattle.definitions.specs.Reading.{read_image}
use Rattle.definitions.specs.Host.{layout, answer_words}
use Rattle.statements.specs.Statements.{Machine, empty, Request, turn, responses, image_of, tree_of, AlikeLists, both_empty, both_go_on}
use Rattle.statements.specs.Statements.{nothing, SameTurns, no_turn, one_turn, SameAnswer, both_done, both_stopped}
use Rattle.statements.specs.Statements.{both_refused}
use Rattle.secrecy.specs.Agreement.{cell_secret}
use Rattle.secrecy.specs.Turns.{Paired, paired, turned_alike, same_count}

-- each request finds its machine as the one before left it
all_turns : {m n : Machine} {rs ss : List Request} → Paired m n → AlikeLists m rs ss → SameTurns m n rs ss
all_turns p both_empty = no_turn
all_turns p (both_go_on a rest) = let t = turned_alike p a in one_turn t.same (all_turns t.next rest)

-- empty machines have no public cell
start : (cells cells' : List ℕ) → length cells ≡ length cells' → Paired (empty cells) (empty cells')
unfolding image_of tree_of read_image words_of cell_secret
start cells cells' e =
    paired {cells = cells} {cells' = cells'} nothing e
    (record { left = refl; right = sym (same_count cells cells' e); here = λ i h. absurd (true≢false h) })

pub secrecy : (cells cells' : List ℕ) (requests requests' : List Request)
    → length cells ≡ length cells'
    → AlikeLists (empty cells) requests requests'
    → SameTurns (empty cells) (empty cells') requests requests'
secrecy cells cells' requests requests' e a = all_turns (start cells cells' e) a

-- The words that the host reads as the answer are the same but for the result's, the fourth; and that one too where the result is public.
pub same_answer_words : {secret : Bool} {x y : Answer} → SameAnswer secret x y → set (answer_words x) 3 0 ≡ set (answer_words y) 3 0
unfolding answer_words
same_answer_words (both_done e) = refl
same_answer_words both_stopped = refl
same_answer_words both_refused = refl

pub same_public_answer_words : {x y : Answer} → SameAnswer false x y → answer_words x ≡ answer_words y
unfolding answer_words
same_public_answer_words (both_done {v} {w} {steps} {count} e) = ap (λ (r : ℕ). layout 0 0 0 r steps count) (e refl)
same_public_answer_words both_stopped = refl
same_public_answer_words both_refused = refl

-- there is a response to each request
pub served_to_the_end : (m : Machine) (requests : List Request) → length (responses m requests) ≡ length requests
unfolding responses
served_to_the_end m [] = refl
served_to_the_end m (r ∷ rs) = ap suc (served_to_the_end (turn m r).after rs)
