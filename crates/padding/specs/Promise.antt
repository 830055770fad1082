-- Document 02, wish 14, as clauses: what the routine answers, records and leaves, for every block of 16 cells. The requests are those of the definitions on
-- lent bytes (Host), which the C functions are proved to answer alike. The proof is padding_check, of proofs/Promise.antt. Assumes nothing.
use Rattle.std.specs.Prelude.{ℕ, ◌*◌, ◌-◌, ◌≤◌, ◌<◌, false, List, [], ◌∷◌, ◌++◌, ◌≡◌, length, drop, replicate}
use Rattle.definitions.specs.declared.Answer.TheVariants.{Done}
use Rattle.definitions.specs.declared.Compiled.TheVariants.{Written}
use Rattle.definitions.specs.Bytes.{Bytes, bytes_of}
use Rattle.definitions.specs.Host.{compile_bytes, call_bytes}
use Rattle.statements.specs.Statements.{Iff, Machine, load, call, turn, ending, out_of_room}
use Rattle.padding.specs.Rule.{block_cells, unpadded, Unpads}
use Rattle.padding.specs.Routine.{source, image, image_length}
use Rattle.padding.specs.Calling.{procedure, budget, trace_length, trace, pokes, DoneInTurn, holding}

pub record PaddingCheck : Type 0 where
  -- The rule is the RFC's: the number is how long a padded block's content is, and 255 where the block is not padded.
  pub rule : (block : List ℕ) (k : ℕ) → Iff (unpadded block ≡ k) (Unpads block k)
  -- "padded at the trailing end with k-(lth mod k) octets all having value k-(lth mod k)": whatever content is padded so has its length for a number.
  pub removes : (content : List ℕ) → length content < block_cells
      → unpadded (content ++ replicate (block_cells - length content) (block_cells - length content)) ≡ length content
  -- "Called as compiled": what the library's compiler writes, into any output with room for it.
  pub compiles : (out : List ℕ) → Bytes out → 4 * image_length ≤ length out
      → compile_bytes source out ≡ (Written image_length, image ++ drop (4 * image_length) out)
  -- Loaded on any machine over 16 cells, and a block poked into its array: each of these requests is done, and the array holds the block.
  pub loads : (m : Machine) (block : List ℕ) → length m.cells ≡ 4 * block_cells → length block ≡ block_cells
      → DoneInTurn m (load image ∷ pokes 0 block) (holding block)
  -- "with the array, procedure, budget and trace length that the crate names, it answers 16 minus n .. otherwise 255. It records the same trace for every
  -- block": as many steps as the budget has and as many trace words as were lent, and the cells hold the block as before.
  pub answers : (block lent : List ℕ) → length block ≡ block_cells → length lent ≡ 4 * trace_length
      → turn (holding block) (call procedure [] budget lent)
      ≡ record { answer = Done (unpadded block) budget trace_length; trace = bytes_of trace; after = holding block }
  -- The source ends alike (property 2), whatever its budget and trace, unless they are spent;
  pub source_alike : (block : List ℕ) (steps : ℕ) (lent : List ℕ) → length block ≡ block_cells
      → out_of_room (call_bytes source (bytes_of block) procedure [] steps lent).0 ≡ false
      → (ending (call_bytes source (bytes_of block) procedure [] steps lent).0 ≡ Done (unpadded block) 0 0)
      × ((call_bytes source (bytes_of block) procedure [] steps lent).1 ≡ bytes_of block)
  -- but its trace follows the block: that of sixteen 0 is not that of sixteen 1.
  pub source_shows : (call_bytes source (bytes_of (replicate block_cells 0)) procedure [] 100 (replicate 400 0)).2
      ≡ (call_bytes source (bytes_of (replicate block_cells 1)) procedure [] 100 (replicate 400 0)).2 → ⊥
