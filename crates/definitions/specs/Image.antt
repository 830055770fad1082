-- Document 01, "Image words": the words' fields, the limits by form, and the tree that an image's words spell.
-- Each word that a refusal, a stop or a trace entry can name has its place in the tree: its index in the image.
use Rattle.std.specs.Prelude.{ℕ, zero, suc, ◌+◌, ◌/◌, ◌%◌, Bool, ◌&&◌, ◌||◌, List, [], ◌∷◌, ltb, leb, eqb, get_or}
use Rattle.definitions.specs.Choice.{pick}

-- "kind in the top 4 bits (one hexadecimal digit), payload in the other 28"
abbrev pub kind_of : ℕ → ℕ
kind_of w = w / 268435456

abbrev pub payload_of : ℕ → ℕ
payload_of w = w % 268435456

-- "1: header, form × 65536 + arrays × 256 + procedures"
abbrev pub form_of : ℕ → ℕ
form_of w = payload_of w / 65536

abbrev pub arrays_of : ℕ → ℕ
arrays_of w = payload_of w / 256 % 256

abbrev pub procedures_of : ℕ → ℕ
procedures_of w = payload_of w % 256

-- "Form 0 source, 1 compiled; 0 to 16 arrays; 1 to 32 procedures."
unfoldable pub header_word : ℕ → Bool
header_word w =
    eqb (kind_of w) 1
    && (ltb (form_of w) 2 && (leb (arrays_of w) 16 && (leb 1 (procedures_of w) && leb (procedures_of w) 32)))

-- "Largest image 4,096 and 16,384 words."
abbrev pub largest_image : ℕ → ℕ
largest_image form = pick (eqb form 0) 4096 16384

-- Document 02, wish 1: "it becomes 19 for source images and 22 for compiled ones"
abbrev pub largest_level : ℕ → ℕ
largest_level form = pick (eqb form 0) 19 22

-- "2, one per array: label × 65536 + length. Label 0 public, 1 secret."
abbrev pub array_secret : ℕ → Bool
array_secret w = eqb (payload_of w / 65536) 1

abbrev pub array_length : ℕ → ℕ
array_length w = w % 65536

-- "Length 1 to 256, all together at most 1,024 cells": the arrays before have the given number of cells
unfoldable pub array_word : ℕ → ℕ → Bool
array_word cells w =
    eqb (kind_of w) 2
    && (ltb (payload_of w / 65536) 2
    && (leb 1 (array_length w) && (leb (array_length w) 256 && leb (cells + array_length w) 1024)))

-- "3 starts a procedure: mode × 65536 + parameters × 256 + locals. Mode 0 open, 1 guarded (form 0 only)."
abbrev pub mode_of : ℕ → ℕ
mode_of w = payload_of w / 65536

abbrev pub parameters_of : ℕ → ℕ
parameters_of w = payload_of w / 256 % 256

abbrev pub locals_of : ℕ → ℕ
locals_of w = payload_of w % 256

-- "At most 8 parameters and 64 locals in form 0, 9 and 246 in form 1."
unfoldable pub procedure_word : ℕ → ℕ → Bool
procedure_word form w =
    eqb (kind_of w) 3
    && (leb (mode_of w + form) 1
    && (leb (parameters_of w) (8 + form) && leb (locals_of w) (pick (eqb form 0) 64 246)))

-- "4, type: sort × 2 + label; sort 0 word, 1 boolean."
unfoldable pub type_word : ℕ → Bool
type_word w = eqb (kind_of w) 4 && ltb (payload_of w) 4

abbrev pub type_secret : ℕ → Bool
type_secret w = eqb (w % 2) 1

-- sort 0 word, 1 boolean
abbrev pub type_sort : ℕ → ℕ
type_sort w = w / 2 % 2

-- "5, block: a count, then that many statements."
unfoldable pub block_word : ℕ → Bool
block_word w = eqb (kind_of w) 5

-- "6, statement: op × 65536 + q." For a call, "q = procedure × 256 + result variable"
abbrev pub op_of : ℕ → ℕ
op_of w = payload_of w / 65536

abbrev pub target_of : ℕ → ℕ
target_of w = w % 65536

abbrev pub called_of : ℕ → ℕ
called_of w = target_of w / 256

abbrev pub result_of : ℕ → ℕ
result_of w = w % 256

-- "0 assign .. 1 store .. 2 if (q 0) .. 3 for .. 4 return (q 0) .. 5 call .. only a lower-numbered procedure, else 2 at
-- the call", in the body of the procedure numbered `me`
unfoldable pub statement_word : ℕ → ℕ → Bool
statement_word me w =
    eqb (kind_of w) 6
    && (ltb (op_of w) 2
    || (eqb (op_of w) 2 && eqb (target_of w) 0
    || (eqb (op_of w) 3
    || (eqb (op_of w) 4 && eqb (target_of w) 0
    || eqb (op_of w) 5 && ltb (called_of w) me))))

-- "7: constant below 2^28. 8 (payload 0): the next word is a raw constant .. 9: boolean 0 or 1. A: variable. B: array,
-- then index. C unary: 0 not, 1 complement, 2 boolean as word. D binary. E (payload 0) select"; fifteen binary operators
unfoldable pub expression_word : ℕ → Bool
expression_word w =
    eqb (kind_of w) 7
    || (eqb (kind_of w) 8 && eqb (payload_of w) 0
    || (eqb (kind_of w) 9 && ltb (payload_of w) 2
    || (eqb (kind_of w) 10
    || (eqb (kind_of w) 11
    || (eqb (kind_of w) 12 && ltb (payload_of w) 3
    || (eqb (kind_of w) 13 && ltb (payload_of w) 15
    || eqb (kind_of w) 14 && eqb (payload_of w) 0))))))

-- "the next word is a raw constant of at least 2^28, else 2 at that next word"
unfoldable pub raw_word : ℕ → Bool
raw_word w = leb 268435456 w

-- An expression. The first number of each is the place of its first word.
pub data Expression : Type 0 where
  constant : ℕ → ℕ → Expression  -- the value: kinds 7 and 8
  boolean : ℕ → ℕ → Expression  -- 0 or 1
  variable : ℕ → ℕ → Expression  -- the variable
  cell : ℕ → ℕ → Expression → Expression  -- the array, the index
  unary : ℕ → ℕ → Expression → Expression  -- the operator, the operand
  binary : ℕ → ℕ → Expression → Expression → Expression  -- the operator, the operands
  select : ℕ → Expression → Expression → Expression → Expression  -- the condition, the value if true, the value if false

-- the place of an expression's first word
unfoldable pub place_of : Expression → ℕ
place_of (constant p v) = p
place_of (boolean p v) = p
place_of (variable p x) = p
place_of (cell p a i) = p
place_of (unary p o e) = p
place_of (binary p o e f) = p
place_of (select p c e f) = p

mutual
  -- a statement, without its place
  pub data Statement : Type 0 where
    assign : ℕ → Expression → Statement  -- variable, value
    store : ℕ → Expression → Expression → Statement  -- array, index, value
    conditional : Expression → Block → Block → Statement  -- if: condition, then-block, else-block
    loop : ℕ → Expression → Expression → Block → Statement  -- for: variable, from, to, block
    return : Expression → Statement  -- value
    call : ℕ → ℕ → List Expression → Statement  -- procedure, result variable, one value per parameter

  -- statements in order, each behind the place of its word
  pub data Block : Type 0 where
    done : Block
    sequence : ℕ → Statement → Block → Block

-- A procedure: the place of its word, its mode (0 open, 1 guarded), the number of its parameters, its result's type
-- word, the type words of its parameters and then its locals, its body.
pub record Procedure : Type 0 where
  pub place : ℕ
  pub mode : ℕ
  pub parameters : ℕ
  pub result : ℕ
  pub types : List ℕ
  pub body : Block

-- An image: its form, its array words, its procedures.
pub record Image : Type 0 where
  pub form : ℕ
  pub arrays : List ℕ
  pub procedures : List Procedure

abbrev pub guarded : Procedure → Bool
guarded p = eqb p.mode 1

-- a procedure that no image has: what stands for a number that names none
abbrev pub no_procedure : Procedure
no_procedure = record { place = 0; mode = 0; parameters = 0; result = 0; types = []; body = done }

abbrev pub procedure_at : List Procedure → ℕ → Procedure
procedure_at ps f = get_or ps f no_procedure

-- the number of cells of the given arrays
unfoldable pub cell_count : List ℕ → ℕ
cell_count [] = 0
cell_count (w ∷ ws) = array_length w + cell_count ws

-- "the cells, arrays in order": where the cells of an array begin
unfoldable pub base_of : List ℕ → ℕ → ℕ
base_of [] a = 0
base_of (w ∷ ws) zero = 0
base_of (w ∷ ws) (suc a) = array_length w + base_of ws a
