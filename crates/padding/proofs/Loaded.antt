-- Load and pokes, by computing on the compiled words. Assumes nothing.
use Rattle.std.specs.Prelude.{ℕ, ◌+◌, ◌*◌, ◌≤◌, ◌<◌, true, ◌≡◌, refl, ltb, length, set, replicate}
use mathlib.Core.List.{List, [], ◌∷◌, ◌++◌, flat_map, append-nil}
use Rattle.std.proofs.Common.{sym, ap, ◌∙◌, arith, lt-ltb, length-append, length-set, drop_of_length-le}
use Rattle.std.proofs.lemmas.List.{length-replicate}
use Rattle.std.proofs.Math.Seq.{set-append_seam, append_snoc}
use Rattle.definitions.specs.declared.Answer.TheVariants.{Done}
use Rattle.definitions.specs.Bytes.{words_of, bytes_of, lent}
use Rattle.definitions.specs.Image.{header_word, array_word, procedure_word, type_word, block_word, statement_word, expression_word, raw_word, place_of, cell_count, base_of, Image}
use Rattle.definitions.specs.Reading.{read_expression, read_arguments, read_statements, read_statement, read_types, read_procedure, read_procedures}
use Rattle.definitions.specs.Reading.{read_arrays, read_rest, read_image, got}
use Rattle.definitions.specs.Faults.{least}
use Rattle.definitions.specs.Sorts.{sort_in, mark_statement, sort_faults, argument_faults, statement_sort_faults, procedure_sort_faults, procedures_sort_faults}
use Rattle.definitions.specs.Sorts.{image_sort_faults}
use Rattle.definitions.specs.Labels.{secret_in, rc_after, is_constant, constant_value, bounded_sum, bounded_index, label_faults, argument_label_faults}
use Rattle.definitions.specs.Labels.{statement_label_faults, procedure_label_faults, procedures_label_faults, image_label_faults}
use Rattle.definitions.specs.Checking.{fault_of, without_fault, admitted}
use Rattle.definitions.specs.Requests.{ready, with_cells, ready_to_load, ready_to_serve, served, has_cell, load, poke}
use Rattle.definitions.specs.Host.{whole_words, load_bytes, poke_bytes}
use Rattle.statements.specs.Statements.{tree_of, Machine, Response, turn}
use Rattle.statements.specs.Statements
use Rattle.laws.specs.WordsOfBytes.{length_words_of, length_bytes_of, words_back}
pub use Rattle.padding.specs.Routine.{image}
use Rattle.padding.specs.Calling.{array, pokes, DoneInTurn, no_more, one_more, holding}
pub use Rattle.padding.proofs.CompiledWords.{compiled_words, image_words_lem}

-- ---- the image in force

unfoldable tree : Image
tree = tree_of (admitted true compiled_words)

read : admitted true compiled_words ≡ got tree (length compiled_words)
unfolding tree tree_of header_word array_word procedure_word type_word block_word statement_word expression_word raw_word place_of cell_count base_of read_expression read_arguments read_statements read_statement read_types read_procedure read_procedures read_arrays read_rest read_image least sort_in mark_statement sort_faults argument_faults statement_sort_faults procedure_sort_faults procedures_sort_faults image_sort_faults secret_in rc_after is_constant constant_value bounded_sum bounded_index label_faults argument_label_faults statement_label_faults procedure_label_faults procedures_label_faults image_label_faults fault_of without_fault admitted flat_map
read = refl

-- its one array: secret, 16 cells
arrays_of_lem : tree.arrays ≡ 0x20010010 ∷ []
unfolding tree tree_of header_word array_word procedure_word type_word block_word statement_word expression_word raw_word place_of cell_count base_of read_expression read_arguments read_statements read_statement read_types read_procedure read_procedures read_arrays read_rest read_image least sort_in mark_statement sort_faults argument_faults statement_sort_faults procedure_sort_faults procedures_sort_faults image_sort_faults secret_in rc_after is_constant constant_value bounded_sum bounded_index label_faults argument_label_faults statement_label_faults procedure_label_faults procedures_label_faults image_label_faults fault_of without_fault admitted flat_map
arrays_of_lem = refl

cells_of : cell_count tree.arrays ≡ 16
unfolding cell_count
cells_of = rw arrays_of_lem

has_cell_lem : (i : ℕ) → has_cell tree 0 i ≡ ltb i 16
has_cell_lem i = rw arrays_of_lem

first_cell : base_of tree.arrays 0 ≡ 0
unfolding base_of
first_cell = rw arrays_of_lem

loadable : ready_to_load true compiled_words 16 ≡ ready tree
unfolding with_cells ready_to_load
loadable = rw (read, cells_of)

callable : ready_to_serve true compiled_words 16 ≡ ready tree
unfolding ready_to_serve
callable = loadable

-- ---- on lent bytes

pub whole : whole_words image ≡ true
unfolding bytes_of
whole = rw image_words_lem

pub words : words_of image ≡ compiled_words
unfolding bytes_of words_of
words = rw image_words_lem

-- all words of a slice that has no other
pub over_all : (b ws : List ℕ) → length b ≡ 4 * length ws → lent b ws ≡ bytes_of ws
unfolding lent
over_all b ws e = let few : length b ≤ 4 * length ws = omega arith in rw (drop_of_length-le b few) (append-nil (bytes_of ws))

pub loaded : (m : Machine) → length m.cells ≡ 64
    → turn m (Statements.load image) ≡ record { answer = Done 0 0 0; trace = []; after = holding (replicate 16 0) }
unfolding turn load_bytes load served
loaded m e =
    let cells : length (words_of m.cells) ≡ 16 = rw (length_words_of, e) in
    let few : length (words_of m.cells) ≤ 16 = omega arith in
    let all : lent m.cells (replicate 16 0) ≡ bytes_of (replicate 16 0) = over_all m.cells (replicate 16 0) e in
    rw (whole, words, cells, loadable, cells_of, drop_of_length-le (words_of m.cells) few, all)

poked : (ws : List ℕ) (i v : ℕ) → length ws ≡ 16 → i < 16
    → turn (holding ws) (Statements.poke array i v) ≡ record { answer = Done 0 0 0; trace = []; after = holding (set ws i v) }
unfolding turn poke_bytes poke served
poked ws i v e h =
    let long : length (bytes_of ws) ≡ 4 * length (set ws i v) = rw (length_bytes_of, length-set) in
    let z : 0 + i ≡ i = omega arith in
    rw (whole, words, words_back ws, e, callable, has_cell_lem i, lt-ltb i 16 h, first_cell, z, over_all (bytes_of ws) (set ws i v) long)

-- cells that are poked behind those that have been, over zeros
poked_all : (front cells : List ℕ) → length front + length cells ≡ 16
    → DoneInTurn (holding (front ++ replicate (length cells) 0)) (pokes (length front) cells) (holding (front ++ cells))
unfolding pokes
poked_all front [] e = no_more
poked_all front (c ∷ cs) e =
    let zeros : List ℕ = replicate (length cs) 0 in
    let long : length (front ++ 0 ∷ zeros) ≡ 16 = rw (length-append, length-replicate) e in
    let one = poked (front ++ 0 ∷ zeros) (length front) c long (omega arith) in
    let after : (turn (holding (front ++ 0 ∷ zeros)) (Statements.poke array (length front) c)).after ≡ holding (front ++ (c ∷ []) ++ zeros) =
    ap (λ (r : Response). r.after) one ∙ ap holding (set-append_seam front 0 zeros c ∙ sym (append_snoc front c zeros)) in
    let next : length (front ++ (c ∷ [])) ≡ length front + 1 = length-append front (c ∷ []) in
    let rest = poked_all (front ++ (c ∷ [])) cs (omega arith) in
    let then : DoneInTurn (turn (holding (front ++ 0 ∷ zeros)) (Statements.poke array (length front) c)).after (pokes (length front + 1) cs)
    (holding (front ++ c ∷ cs)) = rw (after, sym next, sym (append_snoc front c cs)) rest in
    one_more (ap (λ (r : Response). r.answer) one) then

pub loads : (m : Machine) (block : List ℕ) → length m.cells ≡ 64 → length block ≡ 16
    → DoneInTurn m (Statements.load image ∷ pokes 0 block) (holding block)
loads m block c e =
    let one = loaded m c in
    let zeros : replicate {A = ℕ} 16 0 ≡ replicate (length block) 0 = ap (λ (n : ℕ). replicate {A = ℕ} n 0) (sym e) in
    let then : DoneInTurn (turn m (Statements.load image)).after (pokes 0 block) (holding block) =
    rw (ap (λ (r : Response). r.after) one, zeros) (poked_all [] block (omega arith)) in
    one_more (ap (λ (r : Response). r.answer) one) then
