-- What the three properties speak of (crates/promises/specs/Promises.antt): which images the rules admit and why one is refused, when each request is
-- refused and what it leaves, when a stop falls; when two calls end alike; machines, lists of requests, what may differ and what is the same.
-- There is no proof here. Every function is on lent bytes, as the host has them (Host, of the definitions). Assumes nothing.
use Rattle.std.specs.Prelude.{ℕ, ◌+◌, ◌*◌, ◌/◌, ◌^◌, ◌≤◌, ◌<◌, Bool, true, false, ◌&&◌, ◌||◌, List, [], ◌∷◌, ◌++◌, ◌⊎◌, ◌≡◌, ltb, eqb, length, get_or, take, drop, replicate}
use Rattle.definitions.specs.Choice.{pick}
use Rattle.definitions.specs.declared.Fault.{Fault}
use Rattle.definitions.specs.declared.Answer.{Answer}
use Rattle.definitions.specs.declared.Answer.TheVariants.{Done, Stopped, Refused}
use Rattle.definitions.specs.declared.Checked.{Checked}
use Rattle.definitions.specs.declared.Checked.TheVariants.{Accepted, Refused as CheckRefused}
use Rattle.definitions.specs.declared.Compiled.{Compiled}
use Rattle.definitions.specs.declared.Compiled.TheVariants.{Written, Refused as CompileRefused}
use Rattle.definitions.specs.declared.Compared.{Compared}
use Rattle.definitions.specs.declared.Compared.TheVariants.{Agree, Part}
use Rattle.definitions.specs.Bytes.{words_of, word4}
use Rattle.definitions.specs.Image.{kind_of, payload_of, op_of, target_of, arrays_of, array_length, array_secret, type_secret}
use Rattle.definitions.specs.Image.{Procedure, Image, guarded, procedure_at, cell_count, base_of, largest_image}
use Rattle.definitions.specs.Encoding.{image_words}
use Rattle.definitions.specs.Reading.{Parse, got, refused, read_image}
use Rattle.definitions.specs.Faults.{fault, before}
use Rattle.definitions.specs.Sorts.{image_sort_faults}
use Rattle.definitions.specs.Labels.{image_label_faults}
use Rattle.definitions.specs.Compiling.{compiled_image, fits}
use Rattle.definitions.specs.Requests.{Called, has_cell}
use Rattle.definitions.specs.Host.{whole_words, load_bytes, clear_bytes, poke_bytes, peek_bytes, call_bytes, preview_bytes, check_bytes}
use Rattle.statements.specs.Limits.{FitsImage}

-- ======== Property 1

-- one holds exactly where the other does
abbrev pub Iff : Type 0 → Type 0 → Type 0
Iff A B = (A → B) × (B → A)

-- ---- Which images the rules admit

-- Words that the rules admit, said of a tree and not of how it is read. They came as whole words, and are those that spell the tree. The tree keeps
-- the limits (Limits), and has no more words than its form allows: none of 1 to 5. It has no fault of 6 to 8 and none of 9 to 13. The places in
-- the tree may be any.
pub record Admissible (whole : Bool) (words : List ℕ) (tree : Image) : Type 0 where
  pub in_words : whole ≡ true
  pub spelled : words ≡ image_words tree
  pub limits : FitsImage tree
  -- "Largest image 4,096 and 16,384 words."
  pub short : length words ≤ largest_image tree.form
  pub no_sort_fault : image_sort_faults tree ≡ []
  pub no_label_fault : image_label_faults tree ≡ []

-- the rules admit the image in lent bytes, and its words are the tree's
abbrev pub AdmissibleBytes : List ℕ → Image → Type 0
AdmissibleBytes image tree = Admissible (whole_words image) (words_of image) tree

-- ---- Why an image is refused

-- a fault is one of a list
pub data Among (f : Fault) : List Fault → Type 0 where
  here : {fs : List Fault} → Among f (f ∷ fs)
  there : {g : Fault} {fs : List Fault} → Among f fs → Among f (g ∷ fs)

-- "each later group takes the lowest place. On one word the lowest number wins": a fault of the group before which none of them goes
pub record Lowest (f : Fault) (faults : List Fault) : Type 0 where
  pub listed : Among f faults
  pub none_before : (g : Fault) → Among g faults → before g f ≡ false

-- Why words are refused with a number and a place. "Reading stops at its first fault", 1 to 5; what was read has a lowest fault of 6 to 8; or it has
-- none of those, and a lowest fault of 9 to 13.
pub data Refuses (whole : Bool) (words : List ℕ) (k p : ℕ) : Type 0 where
  reading_refused : read_image whole words ≡ refused k p → Refuses whole words k p
  sort_fault : (tree : Image) (n : ℕ) → read_image whole words ≡ got tree n → Lowest (fault k p) (image_sort_faults tree) → Refuses whole words k p
  label_fault : (tree : Image) (n : ℕ) → read_image whole words ≡ got tree n → image_sort_faults tree ≡ [] → Lowest (fault k p) (image_label_faults tree)
      → Refuses whole words k p

-- the same of an image in lent bytes
abbrev pub RefusesBytes : List ℕ → ℕ → ℕ → Type 0
RefusesBytes image k p = Refuses (whole_words image) (words_of image) k p

-- ---- When each request is refused, with which number and place, and otherwise

-- Load: the checker's refusal, where it does not accept the image; "then a cell slice too short is 17".
pub data NotLoaded (image cells : List ℕ) : ℕ → ℕ → Type 0 where
  bad_image : (k p : ℕ) → check_bytes image ≡ CheckRefused k p → NotLoaded image cells k p
  few_cells : (tree : Image) → AdmissibleBytes image tree → length cells < 4 * cell_count tree.arrays → NotLoaded image cells 17 0

-- otherwise the rules admit the image, and enough cells are lent for its arrays
pub record Loadable (image cells : List ℕ) (tree : Image) : Type 0 where
  pub admissible : AdmissibleBytes image tree
  pub enough : 4 * cell_count tree.arrays ≤ length cells

-- Every other request: "a bad one answers as load does, except that outside load an empty one is 20"; for a clear that is all.
pub data NotReady (image cells : List ℕ) : ℕ → ℕ → Type 0 where
  empty_image : length image ≡ 0 → NotReady image cells 20 0
  as_by_load : (k p : ℕ) → (length image ≡ 0 → ⊥) → NotLoaded image cells k p → NotReady image cells k p

-- Poke and peek: then "17 no such .. array or cell".
pub data NoCell (image cells : List ℕ) (a i : ℕ) : ℕ → ℕ → Type 0 where
  unready_for_cell : (k p : ℕ) → NotReady image cells k p → NoCell image cells a i k p
  cell_missing : (tree : Image) → Loadable image cells tree → has_cell tree a i ≡ false → NoCell image cells a i 17 0

pub record WithCell (image cells : List ℕ) (a i : ℕ) (tree : Image) : Type 0 where
  pub loadable : Loadable image cells tree
  pub present : has_cell tree a i ≡ true

-- Call and preview: then "17 no such procedure"; then "18 argument count". "Bytes left over after the last whole word are ignored".
pub data NotCalled (image cells : List ℕ) (f : ℕ) (arguments : List ℕ) : ℕ → ℕ → Type 0 where
  unready_for_call : (k p : ℕ) → NotReady image cells k p → NotCalled image cells f arguments k p
  procedure_missing : (tree : Image) → Loadable image cells tree → length tree.procedures ≤ f → NotCalled image cells f arguments 17 0
  other_count : (tree : Image) → Loadable image cells tree → f < length tree.procedures
      → (length arguments / 4 ≡ (procedure_at tree.procedures f).parameters → ⊥) → NotCalled image cells f arguments 18 0

pub record Callable (image cells : List ℕ) (f : ℕ) (arguments : List ℕ) (tree : Image) : Type 0 where
  pub loadable : Loadable image cells tree
  pub present : f < length tree.procedures
  pub count : length arguments / 4 ≡ (procedure_at tree.procedures f).parameters

-- a refusal, or a tree by which the request is carried out
abbrev pub RefusedOr : (ℕ → ℕ → Type 0) → (Image → Type 0) → Type 0
RefusedOr Not Fine = ((k : ℕ) × (p : ℕ) × Not k p) ⊎ ((tree : Image) × Fine tree)

-- What a request answers, exactly: it is refused with a number and place where `Not` has them, and nowhere else; by a tree of which `Fine` holds it is
-- carried out as `Given` says; and there is no third case.
pub record Exactly {A : Type 0} (refusal : ℕ → ℕ → A) (answer : A) (Not : ℕ → ℕ → Type 0) (Fine Given : Image → Type 0) : Type 0 where
  pub refused_where : (k p : ℕ) → Iff (answer ≡ refusal k p) (Not k p)
  pub done_where : (tree : Image) → Fine tree → Given tree
  pub no_third : RefusedOr Not Fine

-- ---- What a request leaves

-- lent cells: the first n words 0, the bytes behind them as before
abbrev pub cleared : ℕ → List ℕ → List ℕ
cleared n cells = replicate (4 * n) 0 ++ drop (4 * n) cells

-- lent cells: word n set, the other bytes as before
abbrev pub stored : ℕ → ℕ → List ℕ → List ℕ
stored n v cells = take (4 * n) cells ++ (word4 v ++ drop (4 * n + 4) cells)

-- a call that is not refused: a result, or one of "21 budget spent, 22 trace full, 23 index beyond the array, 24 divisor 0"
pub data ResultOrStop : Answer → Type 0 where
  with_result : (v z n : ℕ) → ResultOrStop (Done v z n)
  with_stop : (k p z n : ℕ) → 21 ≤ k → k ≤ 24 → ResultOrStop (Stopped k p z n)

-- ---- When a stop falls

-- the steps taken; a refusal takes none
abbrev pub steps_of : Answer → ℕ
steps_of (Done v z n) = z
steps_of (Stopped k p z n) = z
steps_of (Refused k p) = 0

-- the number of trace words recorded; a refusal records none
abbrev pub recorded_count : Answer → ℕ
recorded_count (Done v z n) = n
recorded_count (Stopped k p z n) = n
recorded_count (Refused k p) = 0

-- the trace words recorded: so many as the answer says, at the front of the lent trace
abbrev pub recorded : Answer → List ℕ → List ℕ
recorded answer trace = take (recorded_count answer) (words_of trace)

-- the same of what a call gives: its answer, the cells and the trace afterwards
abbrev pub recorded_in : Called → List ℕ
recorded_in r = recorded r.0 r.2

-- Two calls that differ only in the budget, which is no smaller in the second: they are equal, or "stop 21 falls exactly when the budget is
-- reached" and the second takes more steps.
pub data SameOrSpent (budget : ℕ) (x y : Called) : Type 0 where
  same_call : x ≡ y → SameOrSpent budget x y
  spent_budget : (p n : ℕ) → x.0 ≡ Stopped 21 p budget n → budget < steps_of y.0 → SameOrSpent budget x y

-- Two calls that differ only in the trace lent, in which there is room for no fewer words in the second: they have the same answer, leave the
-- same cells and record the same words; or the first stops with 22, n words are recorded and "fewer than two trace words are free for an entry",
-- and the second records at least two more, behind the same n.
pub data SameOrFilled (room : ℕ) (x y : Called) : Type 0 where
  same_answer : x.0 ≡ y.0 → x.1 ≡ y.1 → recorded_in x ≡ recorded_in y → SameOrFilled room x y
  filled_trace : (p z n : ℕ) → x.0 ≡ Stopped 22 p z n → room < n + 2 → n + 2 ≤ recorded_count y.0 → take n (recorded_in y) ≡ recorded_in x
      → SameOrFilled room x y

-- "B: array, then index"; "1 store in array q": the array that such a word names
pub data NamesArray (w : ℕ) : ℕ → Type 0 where
  in_expression : kind_of w ≡ 11 → NamesArray w (payload_of w)
  in_store : kind_of w ≡ 6 → op_of w ≡ 1 → NamesArray w (target_of w)

-- "23 index beyond the array", at a place of the image's words: the last entry is the index ("4 index"), and the array that the word there names,
-- one of the image's, is no longer than it. The word of array a stands behind the header and those of the arrays before it.
pub record BeyondArray (words : List ℕ) (place : ℕ) (entries : List ℕ) : Type 0 where
  pub array : ℕ
  pub index : ℕ
  pub before : List ℕ
  pub last : entries ≡ before ++ ((4 * 268435456 + place) ∷ index ∷ [])
  pub within : place < length words
  pub named : NamesArray (get_or words place 0) array
  pub there : array < arrays_of (get_or words 0 0)
  pub beyond : array_length (get_or words (1 + array) 0) ≤ index

-- "24 divisor 0", at a place of the image's words: the last entry is the divisor ("6 divisor"), and it is 0
pub record DivisorZero (words : List ℕ) (place : ℕ) (entries : List ℕ) : Type 0 where
  pub before : List ℕ
  pub last : entries ≡ before ++ ((6 * 268435456 + place) ∷ 0 ∷ [])
  pub within : place < length words

-- ======== Property 2

-- ---- When the compiler writes

-- "Compile: 14 form 1 given, 15 result over form 1's limits, 16 output slice short"; "14 to 16 come after the image's own checks, in order."
pub data NotWritten (image out : List ℕ) : ℕ → ℕ → Type 0 where
  source_refused : (k p : ℕ) → check_bytes image ≡ CheckRefused k p → NotWritten image out k p
  given_form_1 : (tree : Image) → AdmissibleBytes image tree → (tree.form ≡ 0 → ⊥) → NotWritten image out 14 0
  beyond_limits : (tree : Image) → AdmissibleBytes image tree → tree.form ≡ 0 → fits (compiled_image tree) ≡ false → NotWritten image out 15 0
  short_output : (tree : Image) → AdmissibleBytes image tree → tree.form ≡ 0 → fits (compiled_image tree) ≡ true
      → length out < 4 * length (image_words (compiled_image tree)) → NotWritten image out 16 0

-- otherwise the rules admit the image, in form 0, and its compiled image is within the limits and has room
pub record Compilable (image out : List ℕ) (tree : Image) : Type 0 where
  pub admissible : AdmissibleBytes image tree
  pub source : tree.form ≡ 0
  pub within : fits (compiled_image tree) ≡ true
  pub room : 4 * length (image_words (compiled_image tree)) ≤ length out

-- ---- When two calls end alike

-- What has to be the same of two answers to a call: the result, the stop's number, or the refusal. Steps, trace and a stop's place belong to each image.
abbrev pub ending : Answer → Answer
ending (Done result steps count) = Done result 0 0
ending (Stopped number place steps count) = Stopped number 0 0 0
ending (Refused number place) = Refused number place

-- "21 budget spent, 22 trace full": the stops that depend on how many steps and trace words the host allows
abbrev pub out_of_room : Answer → Bool
out_of_room (Done result steps count) = false
out_of_room (Stopped number place steps count) = eqb number 21 || eqb number 22
out_of_room (Refused number place) = false

abbrev pub is_refused : Answer → Bool
is_refused (Done result steps count) = false
is_refused (Stopped number place steps count) = false
is_refused (Refused number place) = true

-- Two calls: one is refused where the other is; where neither stops with 21 or 22, both end alike and leave the same cells.
abbrev pub EndAlike : Called → Called → Type 0
EndAlike x y =
    (is_refused x.0 ≡ is_refused y.0)
    × (out_of_room x.0 ≡ false → out_of_room y.0 ≡ false → (ending x.0 ≡ ending y.0) × (x.1 ≡ y.1))

-- "A guarded procedure becomes open with one more, last parameter, a secret boolean guard .. a host passes 1, and compiled and source runs are
-- compared with that 1": the words of the arguments of a source's procedure, with that 1
abbrev pub with_guard : Procedure → List ℕ → List ℕ
with_guard p arguments = arguments ++ pick (guarded p) (1 ∷ []) []

-- The bytes of an image, which spell a source, and those of its compiled form. A call of any procedure with any arguments (and that 1), on equal
-- cells, under any two budgets and with any two lent traces, ends alike, and so does a preview. Every other request has the same answer and leaves the
-- same cells.
pub record SameMeaning (image : List ℕ) (source : Image) (target : List ℕ) : Type 0 where
  pub calls :
      (cells : List ℕ) (f : ℕ) (arguments arguments' : List ℕ) (budget budget' : ℕ) (trace trace' : List ℕ)
      → words_of arguments' ≡ with_guard (procedure_at source.procedures f) (words_of arguments)
      → EndAlike (call_bytes image cells f arguments budget trace) (call_bytes target cells f arguments' budget' trace')
  pub previews :
      (cells : List ℕ) (f : ℕ) (arguments arguments' : List ℕ) (budget budget' : ℕ) (trace trace' : List ℕ)
      → words_of arguments' ≡ with_guard (procedure_at source.procedures f) (words_of arguments)
      → EndAlike (preview_bytes image cells f arguments budget trace) (preview_bytes target cells f arguments' budget' trace')
  pub loads : (cells : List ℕ) → load_bytes target cells ≡ load_bytes image cells
  pub clears : (cells : List ℕ) → clear_bytes target cells ≡ clear_bytes image cells
  pub pokes : (cells : List ℕ) (a i v : ℕ) → poke_bytes target cells a i v ≡ poke_bytes image cells a i v
  pub peeks : (cells : List ℕ) (a i : ℕ) → peek_bytes target cells a i ≡ peek_bytes image cells a i

-- ======== Property 3: "What demand 3 compares", and with it previews (document 02, wish 7)

-- ---- A machine and its requests

-- What a request finds: the bytes of the image in force and of the lent cells.
pub record Machine : Type 0 where
  pub image : List ℕ
  pub cells : List ℕ

-- "A machine starts empty: no image accepted yet", over lent cells that may hold anything.
abbrev pub empty : List ℕ → Machine
empty cells = record { image = []; cells = cells }

-- What a host asks, with what it lends beside the image in force and the cells.
pub data Request : Type 0 where
  -- the image's bytes
  load : List ℕ → Request
  -- array, index, word
  poke : ℕ → ℕ → ℕ → Request
  -- array, index
  peek : ℕ → ℕ → Request
  clear : Request
  -- procedure, the arguments' bytes, budget, the lent trace's bytes
  call : ℕ → List ℕ → ℕ → List ℕ → Request
  -- the same
  preview : ℕ → List ℕ → ℕ → List ℕ → Request

-- What a request gives: its answer, what the lent trace holds (nothing is lent but for a call or a preview), and the machine that the next request
-- finds.
pub record Response : Type 0 where
  pub answer : Answer
  pub trace : List ℕ
  pub after : Machine

abbrev pub accepted : Answer → Bool
accepted (Done v z n) = true
accepted (Stopped k p z n) = false
accepted (Refused k p) = false

-- "The image in force is the last one that a load accepted"; "every request lends the cells as the request before left them".
unfoldable pub turn : Machine → Request → Response
turn m (load image) =
    let r : Answer × List ℕ = load_bytes image m.cells in
    record { answer = r.0; trace = []; after = record { image = pick (accepted r.0) image m.image; cells = r.1 } }
turn m (poke a i v) =
    let r : Answer × List ℕ = poke_bytes m.image m.cells a i v in
    record { answer = r.0; trace = []; after = record { image = m.image; cells = r.1 } }
turn m (peek a i) =
    let r : Answer × List ℕ = peek_bytes m.image m.cells a i in
    record { answer = r.0; trace = []; after = record { image = m.image; cells = r.1 } }
turn m clear =
    let r : Answer × List ℕ = clear_bytes m.image m.cells in
    record { answer = r.0; trace = []; after = record { image = m.image; cells = r.1 } }
turn m (call f arguments budget trace) =
    let r : Answer × List ℕ × List ℕ = call_bytes m.image m.cells f arguments budget trace in
    record { answer = r.0; trace = r.2; after = record { image = m.image; cells = r.1 } }
turn m (preview f arguments budget trace) =
    let r : Answer × List ℕ × List ℕ = preview_bytes m.image m.cells f arguments budget trace in
    record { answer = r.0; trace = r.2; after = record { image = m.image; cells = r.1 } }

-- all turns of a list of requests, each on the machine that the one before left
unfoldable pub responses : Machine → List Request → List Response
responses m [] = []
responses m (r ∷ rs) = turn m r ∷ responses (turn m r).after rs

-- ---- What is secret, by the image in force

-- what stands for an image where none is in force, or where bytes spell none: no array, no procedure, nothing secret; its form is of no account
abbrev pub no_image : Image
no_image = record { form = 1; arrays = []; procedures = [] }

unfoldable pub tree_of : Parse Image → Image
tree_of (got image n) = image
tree_of (refused n p) = no_image

-- the image that bytes spell
unfoldable pub image_of : List ℕ → Image
image_of bytes = tree_of (read_image (whole_words bytes) (words_of bytes))

-- "an argument is secret if the called procedure's parameter at its position is"; "equal too is a word that belongs to no such procedure, parameter"
abbrev pub secret_argument : Image → ℕ → ℕ → Bool
secret_argument image f k =
    ltb k (procedure_at image.procedures f).parameters && type_secret (get_or (procedure_at image.procedures f).types k 0)

-- "a cell and a poke into it if the array is"; "equal too is a word that belongs to no such .. array or cell"
abbrev pub secret_cell : Image → ℕ → ℕ → Bool
secret_cell image a i = has_cell image a i && array_secret (get_or image.arrays a 0)

-- "a result if the called procedure's result type is"; what is peeked, if its cell is
abbrev pub secret_result : Image → Request → Bool
secret_result image (load bytes) = false
secret_result image (poke a i v) = false
secret_result image (peek a i) = secret_cell image a i
secret_result image clear = false
secret_result image (call f arguments budget trace) = type_secret (procedure_at image.procedures f).result
secret_result image (preview f arguments budget trace) = type_secret (procedure_at image.procedures f).result

-- ---- What may differ between the two lists

-- Two requests at one turn, on machines of which the first is given: "Secret arguments and words poked into secret cells may differ. All else the host
-- passes is equal, apart from what the lent cells and trace slices hold". "Compiled means form 1, whoever wrote the words; a refused load may
-- bring any image, the same on both machines." "Previews may stand in any sequence a prying host makes": two previews differ at most in what two
-- calls may differ in.
pub data Alike (m : Machine) : Request → Request → Type 0 where
  loads : {image : List ℕ} → (accepted (turn m (load image)).answer ≡ true → (image_of image).form ≡ 1) → Alike m (load image) (load image)
  pokes : {a i v w : ℕ} → (secret_cell (image_of m.image) a i ≡ false → v ≡ w) → Alike m (poke a i v) (poke a i w)
  peeks : {a i : ℕ} → Alike m (peek a i) (peek a i)
  clears : Alike m clear clear
  calls : {f budget : ℕ} {arguments arguments' trace trace' : List ℕ}
      → length arguments ≡ length arguments'
      → ((k : ℕ) → secret_argument (image_of m.image) f k ≡ false → get_or (words_of arguments) k 0 ≡ get_or (words_of arguments') k 0)
      → length trace ≡ length trace'
      → Alike m (call f arguments budget trace) (call f arguments' budget trace')
  previews : {f budget : ℕ} {arguments arguments' trace trace' : List ℕ} → Alike m (call f arguments budget trace) (call f arguments' budget trace')
      → Alike m (preview f arguments budget trace) (preview f arguments' budget trace')

-- "Two lists of requests .. stand side by side, of one length and with the same kind of request at each turn". By the image in force of the first
-- machine as it goes from request to request; that the second has the same one in force is a conclusion.
pub data AlikeLists : Machine → List Request → List Request → Type 0 where
  both_empty : {m : Machine} → AlikeLists m [] []
  both_go_on : {m : Machine} {r s : Request} {rs ss : List Request}
      → Alike m r s → AlikeLists (turn m r).after rs ss → AlikeLists m (r ∷ rs) (s ∷ ss)

-- ---- What is the same on both machines

-- "whether it is refused or stopped, number, place, steps, the number of trace words recorded .., a public result, a peeked public cell"
pub data SameAnswer (secret : Bool) : Answer → Answer → Type 0 where
  both_done : {v w steps count : ℕ} → (secret ≡ false → v ≡ w) → SameAnswer secret (Done v steps count) (Done w steps count)
  both_stopped : {number place steps count : ℕ} → SameAnswer secret (Stopped number place steps count) (Stopped number place steps count)
  both_refused : {number place : ℕ} → SameAnswer secret (Refused number place) (Refused number place)

-- "all cells of public arrays of the image then in force"
abbrev pub PublicCells : Image → List ℕ → List ℕ → Type 0
PublicCells image cells cells' =
    (a i : ℕ) → has_cell image a i ≡ true → array_secret (get_or image.arrays a 0) ≡ false
    → get_or (words_of cells) (base_of image.arrays a + i) 0 ≡ get_or (words_of cells') (base_of image.arrays a + i) 0

-- an image in force: none yet, or one of form 1 that the checker accepts
pub data InForce : List ℕ → Type 0 where
  nothing : InForce []
  checked : {image : List ℕ} → check_bytes image ≡ Accepted → (image_of image).form ≡ 1 → InForce image

-- Two responses at one turn; the flag tells whether the result is secret.
pub record SameResponse (secret : Bool) (x y : Response) : Type 0 where
  pub answers : SameAnswer secret x.answer y.answer
  pub traces : recorded x.answer x.trace ≡ recorded y.answer y.trace
  pub images : x.after.image ≡ y.after.image
  pub in_force : InForce x.after.image
  pub cells : PublicCells (image_of x.after.image) x.after.cells y.after.cells

-- all turns of two lists, each on the machine that the one before left
pub data SameTurns : Machine → Machine → List Request → List Request → Type 0 where
  no_turn : {m n : Machine} → SameTurns m n [] []
  one_turn : {m n : Machine} {r s : Request} {rs ss : List Request}
      → SameResponse (secret_result (image_of m.image) r) (turn m r) (turn n s)
      → SameTurns (turn m r).after (turn n s).after rs ss
      → SameTurns m n (r ∷ rs) (s ∷ ss)

-- ======== The C functions

-- A host reads an answer in the seven words that it finds in the slice lent for it, at least 28 bytes: one layout for every function (`layout`, of
-- Host). The number that words 5 and 6 hold, the high one first:
abbrev pub count_in : List ℕ → ℕ
count_in words = get_or words 5 0 * 2 ^ 32 + get_or words 6 0

-- word 0 tells which kind of answer it is: 0 done, 1 stopped, 2 refused
unfoldable pub answer_of : List ℕ → Answer
answer_of words =
    pick (eqb (get_or words 0 0) 0) (Done (get_or words 3 0) (get_or words 4 0) (count_in words))
    (pick (eqb (get_or words 0 0) 1) (Stopped (get_or words 1 0) (get_or words 2 0) (get_or words 4 0) (count_in words))
    (Refused (get_or words 1 0) (get_or words 2 0)))

unfoldable pub answer_in : List ℕ → Answer
answer_in bytes = answer_of (words_of bytes)

-- the checker's answer and the compiler's, which never stop
unfoldable pub checked_of : Answer → Checked
checked_of (Done v z n) = Accepted
checked_of (Stopped k p z n) = CheckRefused k p
checked_of (Refused k p) = CheckRefused k p

abbrev pub checked_in : List ℕ → Checked
checked_in bytes = checked_of (answer_in bytes)

unfoldable pub compiled_of : Answer → Compiled
compiled_of (Done v z n) = Written n
compiled_of (Stopped k p z n) = CompileRefused k p
compiled_of (Refused k p) = CompileRefused k p

abbrev pub compiled_in : List ℕ → Compiled
compiled_in bytes = compiled_of (answer_in bytes)

-- a comparison's, which is always done: result 1 where they agree
unfoldable pub compared_of : Answer → Compared
compared_of (Done v z n) = pick (eqb v 1) (Agree n) (Part n)
compared_of (Stopped k p z n) = Part n
compared_of (Refused k p) = Part 0

abbrev pub compared_in : List ℕ → Compared
compared_in bytes = compared_of (answer_in bytes)
