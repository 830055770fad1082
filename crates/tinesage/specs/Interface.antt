-- The contract of each C function, as a relation between what the lent slices hold before and after. A slice that is not named afterwards is as before.
-- The right-hand sides are the definitions' requests on lent bytes (Host, of the definitions). Assumes nothing.
use Rattle.std.specs.Prelude.{◌≡◌, List, ℕ}
use Rattle.definitions.specs.declared.Answer.{Answer}
use Rattle.definitions.specs.Host.{load_bytes, clear_bytes, poke_bytes, peek_bytes, call_bytes, preview_bytes, bound_bytes, check_bytes}
use Rattle.definitions.specs.Host.{compile_bytes, describe_bytes, compare_bytes, answer_words, checked_words, compiled_words, compared_words, answer_bytes}

-- the slice lent for the answer holds the answer's seven words, where there is room for them
abbrev pub Answers : Answer → List ℕ → List ℕ → Type 0
Answers x answer answer' = answer' ≡ answer_bytes answer (answer_words x)

-- tinesage_check
abbrev pub Checks : List ℕ → List ℕ → List ℕ → Type 0
Checks image answer answer' = answer' ≡ answer_bytes answer (checked_words (check_bytes image))

-- tinesage_compile
abbrev pub Compiles : List ℕ → List ℕ → List ℕ → List ℕ → List ℕ → Type 0
Compiles image out answer out' answer' =
    (out' ≡ (compile_bytes image out).1) × (answer' ≡ answer_bytes answer (compiled_words (compile_bytes image out).0))

-- tinesage_describe
abbrev pub Describes : List ℕ → List ℕ → List ℕ → List ℕ → List ℕ → Type 0
Describes image out answer out' answer' =
    (out' ≡ (describe_bytes image out).1) × (answer' ≡ answer_bytes answer (compiled_words (describe_bytes image out).0))

-- tinesage_load
abbrev pub Loads : List ℕ → List ℕ → List ℕ → List ℕ → List ℕ → Type 0
Loads image cells answer cells' answer' = (cells' ≡ (load_bytes image cells).1) × Answers (load_bytes image cells).0 answer answer'

-- tinesage_clear
abbrev pub Clears : List ℕ → List ℕ → List ℕ → List ℕ → List ℕ → Type 0
Clears image cells answer cells' answer' = (cells' ≡ (clear_bytes image cells).1) × Answers (clear_bytes image cells).0 answer answer'

-- tinesage_poke
abbrev pub Pokes : List ℕ → List ℕ → ℕ → ℕ → ℕ → List ℕ → List ℕ → List ℕ → Type 0
Pokes image cells array index value answer cells' answer' =
    (cells' ≡ (poke_bytes image cells array index value).1) × Answers (poke_bytes image cells array index value).0 answer answer'

-- tinesage_peek, which lends its cells to be read: the definition's cells afterwards are those before
abbrev pub Peeks : List ℕ → List ℕ → ℕ → ℕ → List ℕ → List ℕ → Type 0
Peeks image cells array index answer answer' =
    (cells ≡ (peek_bytes image cells array index).1) × Answers (peek_bytes image cells array index).0 answer answer'

-- tinesage_call
abbrev pub Calls : List ℕ → List ℕ → ℕ → List ℕ → ℕ → List ℕ → List ℕ → List ℕ → List ℕ → List ℕ → Type 0
Calls image cells procedure arguments budget trace answer cells' trace' answer' =
    (cells' ≡ (call_bytes image cells procedure arguments budget trace).1) × (trace' ≡ (call_bytes image cells procedure arguments budget trace).2)
    × Answers (call_bytes image cells procedure arguments budget trace).0 answer answer'

-- tinesage_preview, which lends its cells to be read: the definition's cells afterwards are those before
abbrev pub Previews : List ℕ → List ℕ → ℕ → List ℕ → ℕ → List ℕ → List ℕ → List ℕ → List ℕ → Type 0
Previews image cells procedure arguments budget trace answer trace' answer' =
    (cells ≡ (preview_bytes image cells procedure arguments budget trace).1) × (trace' ≡ (preview_bytes image cells procedure arguments budget trace).2)
    × Answers (preview_bytes image cells procedure arguments budget trace).0 answer answer'

-- tinesage_bound, which lends its cells to be read: the definition's cells afterwards are those before
abbrev pub Bounds : List ℕ → List ℕ → ℕ → List ℕ → List ℕ → Type 0
Bounds image cells procedure answer answer' =
    (cells ≡ (bound_bytes image cells procedure).1) × Answers (bound_bytes image cells procedure).0 answer answer'

-- tinesage_compare, which is lent a trace and a recording to be read
abbrev pub Compares : List ℕ → List ℕ → List ℕ → List ℕ → Type 0
Compares trace probe answer answer' = answer' ≡ answer_bytes answer (compared_words (compare_bytes trace probe))
