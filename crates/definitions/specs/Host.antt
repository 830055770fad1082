-- Document 01, "The machine": "A C host drives it with numbers and byte slices, four bytes a word, most significant
-- first." Each request on lent bytes: its answer, and what each lent slice that it may write holds afterwards. "Bytes
-- left over after the last whole word are ignored, except in an image."
use Rattle.std.specs.Prelude.{ℕ, ◌/◌, ◌%◌, ◌^◌, Bool, List, [], ◌∷◌, eqb, leb, length}
use Rattle.definitions.specs.Choice.{pick}
use Rattle.definitions.specs.Bytes.{words_of, lent}
use Rattle.definitions.specs.declared.Answer.{Answer}
use Rattle.definitions.specs.declared.Answer.TheVariants.{Done, Stopped, Refused}
use Rattle.definitions.specs.declared.Checked.{Checked}
use Rattle.definitions.specs.declared.Checked.TheVariants.{Accepted, Refused as CheckRefused}
use Rattle.definitions.specs.declared.Compiled.{Compiled}
use Rattle.definitions.specs.declared.Compiled.TheVariants.{Written, Refused as CompileRefused}
use Rattle.definitions.specs.declared.Compared.{Compared}
use Rattle.definitions.specs.declared.Compared.TheVariants.{Agree, Part}
use Rattle.definitions.specs.Checking.{checked}
use Rattle.definitions.specs.Compiling.{compiled}
use Rattle.definitions.specs.Describing.{described}
use Rattle.definitions.specs.Comparing.{compared}
use Rattle.definitions.specs.Requests.{Served, Called, load, clear, poke, peek, call, preview, bound}

-- whether bytes are whole words: "not whole words" is 1 for an image
abbrev pub whole_words : List ℕ → Bool
whole_words bytes = eqb (length bytes % 4) 0

-- cells that are lent as bytes, after a request on their words
abbrev pub on_cells : List ℕ → Served → Answer × List ℕ
on_cells cells r = (r.0, lent cells r.1)

unfoldable pub load_bytes : List ℕ → List ℕ → Answer × List ℕ
load_bytes image cells = on_cells cells (load (whole_words image) (words_of image) (words_of cells))

unfoldable pub clear_bytes : List ℕ → List ℕ → Answer × List ℕ
clear_bytes image cells = on_cells cells (clear (whole_words image) (words_of image) (words_of cells))

unfoldable pub poke_bytes : List ℕ → List ℕ → ℕ → ℕ → ℕ → Answer × List ℕ
poke_bytes image cells a i v = on_cells cells (poke (whole_words image) (words_of image) (words_of cells) a i v)

unfoldable pub peek_bytes : List ℕ → List ℕ → ℕ → ℕ → Answer × List ℕ
peek_bytes image cells a i = on_cells cells (peek (whole_words image) (words_of image) (words_of cells) a i)

-- "later trace words untouched"
unfoldable pub call_bytes : List ℕ → List ℕ → ℕ → List ℕ → ℕ → List ℕ → Answer × List ℕ × List ℕ
call_bytes image cells f arguments budget trace =
    let r : Called =
    call (whole_words image) (words_of image) (words_of cells) f (words_of arguments) budget (length (words_of trace)) in
    (r.0, lent cells r.1, lent trace r.2)

-- cells that are lent to be read, and a trace that is written as by a call
unfoldable pub preview_bytes : List ℕ → List ℕ → ℕ → List ℕ → ℕ → List ℕ → Answer × List ℕ × List ℕ
preview_bytes image cells f arguments budget trace =
    let r : Called =
    preview (whole_words image) (words_of image) (words_of cells) f (words_of arguments) budget (length (words_of trace)) in
    (r.0, lent cells r.1, lent trace r.2)

-- cells that are lent to be read
unfoldable pub bound_bytes : List ℕ → List ℕ → ℕ → Answer × List ℕ
bound_bytes image cells f = on_cells cells (bound (whole_words image) (words_of image) (words_of cells) f)

unfoldable pub check_bytes : List ℕ → Checked
check_bytes image = checked (whole_words image) (words_of image)

unfoldable pub compile_bytes : List ℕ → List ℕ → Compiled × List ℕ
compile_bytes image out =
    let r : Compiled × List ℕ = compiled (whole_words image) (words_of image) (words_of out) in
    (r.0, lent out r.1)

unfoldable pub describe_bytes : List ℕ → List ℕ → Compiled × List ℕ
describe_bytes image out =
    let r : Compiled × List ℕ = described (whole_words image) (words_of image) (words_of out) in
    (r.0, lent out r.1)

unfoldable pub compare_bytes : List ℕ → List ℕ → Compared
compare_bytes trace probe = compared (words_of trace) (words_of probe)

-- One layout for every answer: 0 done, 1 stopped, 2 refused; number; place; result; steps; the number of trace words
-- recorded, of words written to the output, or of entries that are equal, as two words, the high one first.
abbrev pub layout : ℕ → ℕ → ℕ → ℕ → ℕ → ℕ → List ℕ
layout status number place result steps count =
    status ∷ number ∷ place ∷ result ∷ steps ∷ count / 2 ^ 32 ∷ count % 2 ^ 32 ∷ []

unfoldable pub answer_words : Answer → List ℕ
answer_words (Done v z n) = layout 0 0 0 v z n
answer_words (Stopped k p z n) = layout 1 k p 0 z n
answer_words (Refused k p) = layout 2 k p 0 0 0

unfoldable pub checked_words : Checked → List ℕ
checked_words Accepted = layout 0 0 0 0 0 0
checked_words (CheckRefused k p) = layout 2 k p 0 0 0

unfoldable pub compiled_words : Compiled → List ℕ
compiled_words (Written n) = layout 0 0 0 0 0 n
compiled_words (CompileRefused k p) = layout 2 k p 0 0 0

-- a comparison is never refused: its result is 1 where they agree, else 0
unfoldable pub compared_words : Compared → List ℕ
compared_words (Agree n) = layout 0 0 0 1 0 n
compared_words (Part n) = layout 0 0 0 0 0 n

-- what the slice lent for the answer holds afterwards: the seven words where there is room for them, else what it held
unfoldable pub answer_bytes : List ℕ → List ℕ → List ℕ
answer_bytes slice words = pick (leb 28 (length slice)) (lent slice words) slice
