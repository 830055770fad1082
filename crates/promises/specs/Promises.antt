-- The three properties that Tinesage promises, what the wishes of document 02 add, and that the C functions have them. A reader needs the definitions
-- (crates/definitions/specs), what stands in crates/statements/specs, and documents 01 and 02 beside them; the proofs stand elsewhere, and are cited at
-- the end of each section. Every function named here is a request of the definitions on lent bytes (Host). All of them are total, so each gives an
-- answer; `Bytes` says that what is lent are bytes. Assumes nothing.
use Rattle.std.specs.Prelude.{ℕ, suc, ◌+◌, ◌*◌, ◌-◌, ◌%◌, ◌≤◌, ◌<◌, true, List, [], ◌∷◌, ◌++◌, ◌⊎◌, ◌≡◌, length, take, drop}
use Rattle.definitions.specs.declared.Fault.{Fault}
use Rattle.definitions.specs.declared.Answer.{Answer}
use Rattle.definitions.specs.declared.Answer.TheVariants.{Done, Stopped, Refused}
use Rattle.definitions.specs.declared.Checked.TheVariants.{Accepted, Refused as CheckRefused}
use Rattle.definitions.specs.declared.Compiled.{Compiled}
use Rattle.definitions.specs.declared.ConstantLoop.{ConstantLoop}
use Rattle.definitions.specs.declared.Compared.TheVariants.{Agree, Part}
use Rattle.definitions.specs.declared.Compiled.TheVariants.{Written, Refused as CompileRefused}
use Rattle.definitions.specs.Bytes.{Bytes, word_at, words_of, lent}
use Rattle.definitions.specs.Image.{largest_level, Expression, constant, variable, binary, Image, cell_count, base_of}
use Rattle.definitions.specs.Encoding.{image_words}
use Rattle.definitions.specs.Reading.{got, refused, read_image}
use Rattle.definitions.specs.Sorts.{image_sort_faults}
use Rattle.definitions.specs.Labels.{bounds_inside, bounded_index, image_label_faults}
use Rattle.definitions.specs.Checking.{admitted, verdict}
use Rattle.definitions.specs.Compiling.{compiled_image, fit_locals}
use Rattle.definitions.specs.Operators.{shifts, apply_binary}
use Rattle.definitions.specs.Running.{trace_words, value, stop, operated}
use Rattle.definitions.specs.Requests.{Called}
use Rattle.definitions.specs.Host.{whole_words, check_bytes, compile_bytes, load_bytes, clear_bytes, poke_bytes, peek_bytes}
use Rattle.definitions.specs.Comparing.{Entry, trace_entries, probe_entries}
use Rattle.definitions.specs.Host.{call_bytes, preview_bytes, bound_bytes, describe_bytes, compare_bytes}
use Rattle.statements.specs.Statements.{Iff, Exactly, AdmissibleBytes, Among, RefusesBytes, NotLoaded, Loadable, NotReady, NoCell}
use Rattle.statements.specs.Statements.{WithCell, NotCalled, Callable, cleared, stored, ResultOrStop, steps_of, recorded_count}
use Rattle.statements.specs.Statements.{recorded_in, SameOrSpent, SameOrFilled, BeyondArray, DivisorZero, NotWritten}
use Rattle.statements.specs.Statements.{Compilable, SameMeaning, Machine, empty, Request, turn, responses, AlikeLists, SameTurns}
use Rattle.statements.specs.Statements.{answer_in, checked_in, compiled_in, compared_in}
use Rattle.statements.specs.Comparisons.{TraceShows, ProbeRecords, PartAfter}
use Rattle.statements.specs.StepBounds.{LongestPath, step_bound, NotBounded, Bounded, Straight}
use Rattle.tinesage.specs.Interface.{Checks, Compiles, Describes, Loads, Clears, Pokes, Peeks, Calls, Previews, Bounds, Compares}
use Rattle.statements.specs.Limits.{FitsImage}
use Rattle.statements.specs.FormerLimits.{read_image_by, former_read_image, From, Kept, WithinLimits, SameAnswers}
use Rattle.statements.specs.FormerAnswers.{AnswersAs}
use Rattle.statements.specs.FormerIndices.{former_bounded_index, todays_rule, admitted_by, formerly_admitted, upper_bounds, Sum, NamesSum}
use Rattle.statements.specs.FormerNumbering.{former_compile_bytes}
use Rattle.statements.specs.FormerTraces.{call_bytes_by, former_call_bytes, no_shift, OnlyEntriesAdded}
use Rattle.laws.specs.FormerLevels.{by_image, limits_keep_answers, one_level_more, same_answers}
use Rattle.laws.specs.Previews.{preview_is_call_on_a_copy, preview_turn}
use Rattle.laws.specs.Comparisons.{kept_exactly, recorded_exactly, agree_exactly, parted_there}
use Rattle.readback.specs.Whole.{image_compiled_fits}
use Rattle.results.specs.WithinLimits.{within_limits}
use Rattle.results.specs.IndicesAdded.{variable_and_constant, constant_and_variable, bounded_before_bounded_now, only_sums_added}
use Rattle.results.specs.IndicesAdded.{by_rule, refused_as_before}
use Rattle.results.specs.IndicesAdded
use Rattle.results.specs.StillCompiles.{still_compiles, refused_before, locals_always_fit, fifteen_by_length}
use Rattle.results.specs.CountsAdded.{count_recorded, count_stopped, by_operators, only_entries_added, no_shift_same}
use Rattle.results.specs.Accepted.{accepted_exactly, refused_exactly, reading_number, sort_number, label_number}
use Rattle.results.proofs.Exactly.{loaded_or_not, ready_or_not, cell_or_not, called_or_not, load_refused_exactly, load_is_done}
use Rattle.results.proofs.Exactly.{clear_refused_exactly, clear_is_done, poke_refused_exactly, poke_is_done}
use Rattle.results.proofs.Exactly.{peek_refused_exactly, peek_is_done, call_refused_exactly, call_ends, load_unchanged}
use Rattle.results.proofs.Exactly.{clear_unchanged, poke_unchanged, peek_unchanged, call_unchanged, stop_leaves, done_leaves}
use Rattle.results.proofs.Exactly.{preview_refused_exactly, preview_ends, preview_leaves}
use Rattle.results.specs.Written.{written_or_not, compile_refused_exactly, compile_is_written, compile_unchanged}
use Rattle.results.proofs.StoppedExactly.{two_budgets, two_traces, steps_within, words_within, budget_reached, trace_filled}
use Rattle.results.proofs.StoppedExactly.{index_stops, divisor_stops, whole_entries}
use Rattle.results.proofs.PreviewedTraces.{trace_enough}
use Rattle.results.specs.LongestPaths.{longest_path}
use Rattle.results.proofs.StepBounds.{bounded_or_not, bound_refused_exactly, bound_is_done, bound_leaves, from_image_alone, bound_holds, bound_enough, bound_exact}
use Rattle.properties.specs.CompiledBytes.{target_accepted, target_tree, target_loads, same_meaning}
use Rattle.secrecy.specs.Secrecy.{secrecy, served_to_the_end}
use Rattle.padding.specs.Promise.{PaddingCheck}
use Rattle.padding.proofs.Promise.{padding_check}
use Rattle.promises.specs.Functions.{check_read, compile_read, request_read, call_read, compare_read}
use Rattle.statements.specs.Statements

-- ======== Property 1
-- The demand: every image and call gets a result, one of four named stops or the exact refusal, and refusals and stops leave cells and output unchanged.

-- When a call is stopped, whatever its budget and the trace lent: no "21 or 22 given before the first step without cause".
pub record StoppedExactly (image cells : List ℕ) (f : ℕ) (arguments : List ℕ) : Type 0 where
  -- "Each statement begun and each loop pass costs one step, never beyond the 32-bit budget"; no more trace words are recorded than are lent
  pub steps_within : (budget : ℕ) (trace : List ℕ) → steps_of (call_bytes image cells f arguments budget trace).0 ≤ budget
  pub words_within : (budget : ℕ) (trace : List ℕ) → recorded_count (call_bytes image cells f arguments budget trace).0 ≤ length (words_of trace)
  -- "21 budget spent": "stop 21 falls exactly when the budget is reached". A larger budget changes nothing, or the call takes more steps with it.
  pub budget_reached : (budget : ℕ) (trace : List ℕ) (p z n : ℕ) → (call_bytes image cells f arguments budget trace).0 ≡ Stopped 21 p z n → z ≡ budget
  pub two_budgets : (b b' : ℕ) (trace : List ℕ) → b ≤ b'
      → SameOrSpent b (call_bytes image cells f arguments b trace) (call_bytes image cells f arguments b' trace)
  -- "22 means fewer than two trace words are free for an entry." A longer trace changes nothing, or the call records at least one entry more with it.
  pub trace_full_lem : (budget : ℕ) (trace : List ℕ) (p z n : ℕ) → (call_bytes image cells f arguments budget trace).0 ≡ Stopped 22 p z n
      → length (words_of trace) < n + 2
  pub two_traces : (budget : ℕ) (trace trace' : List ℕ) → length (words_of trace) ≤ length (words_of trace')
      → SameOrFilled (length (words_of trace)) (call_bytes image cells f arguments budget trace) (call_bytes image cells f arguments budget trace')
  -- "23 index beyond the array, 24 divisor 0": "An entry follows its operands and precedes the bounds or zero test", so the last one says why
  pub index_stops : (budget : ℕ) (trace : List ℕ) (p z n : ℕ) → (call_bytes image cells f arguments budget trace).0 ≡ Stopped 23 p z n
      → BeyondArray (words_of image) p (recorded_in (call_bytes image cells f arguments budget trace))
  pub divisor_stops : (budget : ℕ) (trace : List ℕ) (p z n : ℕ) → (call_bytes image cells f arguments budget trace).0 ≡ Stopped 24 p z n
      → DivisorZero (words_of image) p (recorded_in (call_bytes image cells f arguments budget trace))

-- What is as before: after a refusal the cells, the output and the trace; "A stop answers 0 with the steps and entries so far; cells are as before
-- the call and later trace words untouched." A peek leaves the cells in every case, and so does every call the trace words past those recorded.
-- A preview "leaves every cell", and trace words as a call does: where it is refused it records none, so all of them.
pub record Unchanged (image cells : List ℕ) : Type 0 where
  pub by_load : (k p : ℕ) → (load_bytes image cells).0 ≡ Refused k p → (load_bytes image cells).1 ≡ cells
  pub by_clear : (k p : ℕ) → (clear_bytes image cells).0 ≡ Refused k p → (clear_bytes image cells).1 ≡ cells
  pub by_poke : (a i v k p : ℕ) → (poke_bytes image cells a i v).0 ≡ Refused k p → (poke_bytes image cells a i v).1 ≡ cells
  pub by_peek : (a i : ℕ) → (peek_bytes image cells a i).1 ≡ cells
  pub by_refused_call : (f : ℕ) (arguments : List ℕ) (budget : ℕ) (trace : List ℕ) (k p : ℕ)
      → (call_bytes image cells f arguments budget trace).0 ≡ Refused k p
      → ((call_bytes image cells f arguments budget trace).1 ≡ cells) × ((call_bytes image cells f arguments budget trace).2 ≡ trace)
  pub by_stop : (f : ℕ) (arguments : List ℕ) (budget : ℕ) (trace : List ℕ) (k p z n : ℕ)
      → (call_bytes image cells f arguments budget trace).0 ≡ Stopped k p z n
      → ((call_bytes image cells f arguments budget trace).1 ≡ cells)
      × (drop (4 * n) (call_bytes image cells f arguments budget trace).2 ≡ drop (4 * n) trace)
  pub by_result : (f : ℕ) (arguments : List ℕ) (budget : ℕ) (trace : List ℕ) (v z n : ℕ)
      → (call_bytes image cells f arguments budget trace).0 ≡ Done v z n
      → drop (4 * n) (call_bytes image cells f arguments budget trace).2 ≡ drop (4 * n) trace
  pub by_preview : (f : ℕ) (arguments : List ℕ) (budget : ℕ) (trace : List ℕ)
      → ((preview_bytes image cells f arguments budget trace).1 ≡ cells)
      × (drop (4 * recorded_count (preview_bytes image cells f arguments budget trace).0) (preview_bytes image cells f arguments budget trace).2
      ≡ drop (4 * recorded_count (preview_bytes image cells f arguments budget trace).0) trace)
  pub by_compile : (out : List ℕ) → Bytes out → (k p : ℕ) → (compile_bytes image out).0 ≡ CompileRefused k p → (compile_bytes image out).1 ≡ out

pub record Property1 : Type 0 where
  -- The checker accepts exactly the bytes that are whole words and spell a tree which keeps the limits and has no fault of 6 to 8 and none of 9 to 13.
  pub accepted_exactly : (image : List ℕ) → Iff (check_bytes image ≡ Accepted) ((tree : Image) × AdmissibleBytes image tree)
  -- Otherwise number and place: reading's, or the lowest fault of 6 to 8, or, where there is none of those, the lowest of 9 to 13.
  pub refused_exactly : (image : List ℕ) (k p : ℕ) → Iff (check_bytes image ≡ CheckRefused k p) (RefusesBytes image k p)
  pub reading_numbers : (image : List ℕ) (k p : ℕ) → read_image (whole_words image) (words_of image) ≡ refused k p → (1 ≤ k) × (k ≤ 5)
  pub sort_numbers : (tree : Image) (f : Fault) → Among f (image_sort_faults tree) → (6 ≤ f.number) × (f.number ≤ 8)
  pub label_numbers : (tree : Image) (f : Fault) → Among f (image_label_faults tree) → (9 ≤ f.number) × (f.number ≤ 13)
  -- "Load sets cells to 0": the image's own; spare words are as before.
  pub loaded_exactly : (image cells : List ℕ) → Bytes cells
      → Exactly Refused (load_bytes image cells).0 (NotLoaded image cells) (Loadable image cells)
      (λ tree. load_bytes image cells ≡ (Done 0 0 0, cleared (cell_count tree.arrays) cells))
  -- "Clear zeroes cells."
  pub cleared_exactly : (image cells : List ℕ) → Bytes cells
      → Exactly Refused (clear_bytes image cells).0 (NotReady image cells) (Loadable image cells)
      (λ tree. clear_bytes image cells ≡ (Done 0 0 0, cleared (cell_count tree.arrays) cells))
  -- a poke sets the cell, a peek answers it: "the cells, arrays in order"
  pub poked_exactly : (image cells : List ℕ) → Bytes cells → (a i v : ℕ)
      → Exactly Refused (poke_bytes image cells a i v).0 (NoCell image cells a i) (WithCell image cells a i)
      (λ tree. poke_bytes image cells a i v ≡ (Done 0 0 0, stored (base_of tree.arrays a + i) v cells))
  pub peeked_exactly : (image cells : List ℕ) → Bytes cells → (a i : ℕ)
      → Exactly Refused (peek_bytes image cells a i).0 (NoCell image cells a i) (WithCell image cells a i)
      (λ tree. peek_bytes image cells a i ≡ (Done (word_at cells (base_of tree.arrays a + i)) 0 0, cells))
  -- a call that is not refused ends with a result or with one of the four stops
  pub called_exactly : (image cells : List ℕ) → Bytes cells → (f : ℕ) (arguments : List ℕ) (budget : ℕ) (trace : List ℕ)
      → Exactly Refused (call_bytes image cells f arguments budget trace).0 (NotCalled image cells f arguments) (Callable image cells f arguments)
      (λ tree. ResultOrStop (call_bytes image cells f arguments budget trace).0)
  -- and so does a preview, which is refused as a call is; when it is stopped, `preview_is_call_on_a_copy` says (wish 7): when the call is
  pub previewed_exactly : (image cells : List ℕ) → Bytes cells → (f : ℕ) (arguments : List ℕ) (budget : ℕ) (trace : List ℕ)
      → Exactly Refused (preview_bytes image cells f arguments budget trace).0 (NotCalled image cells f arguments) (Callable image cells f arguments)
      (λ tree. ResultOrStop (preview_bytes image cells f arguments budget trace).0)
  pub stopped_exactly : (image cells : List ℕ) (f : ℕ) (arguments : List ℕ) → StoppedExactly image cells f arguments
  pub unchanged : (image cells : List ℕ) → Bytes cells → Unchanged image cells

pub property_1 : Property1
property_1 =
    record {
      accepted_exactly = accepted_exactly;
      refused_exactly = refused_exactly;
      reading_numbers = λ image. reading_number (whole_words image) (words_of image);
      sort_numbers = sort_number;
      label_numbers = label_number;
      loaded_exactly = λ image cells b.
          record { refused_where = load_refused_exactly image cells b; done_where = load_is_done image cells b; no_third = loaded_or_not image cells };
      cleared_exactly = λ image cells b.
          record { refused_where = clear_refused_exactly image cells b; done_where = clear_is_done image cells b; no_third = ready_or_not image cells };
      poked_exactly = λ image cells b a i v.
          record {
            refused_where = poke_refused_exactly image cells b a i v;
            done_where = λ tree w. poke_is_done image cells b a i tree w v;
            no_third = cell_or_not image cells a i;
          };
      peeked_exactly = λ image cells b a i.
          record {
            refused_where = peek_refused_exactly image cells b a i;
            done_where = peek_is_done image cells b a i;
            no_third = cell_or_not image cells a i;
          };
      called_exactly = λ image cells b f arguments budget trace.
          record {
            refused_where = call_refused_exactly image cells b f arguments budget trace;
            done_where = call_ends image cells b f arguments budget trace;
            no_third = called_or_not image cells f arguments;
          };
      previewed_exactly = λ image cells b f arguments budget trace.
          record {
            refused_where = preview_refused_exactly image cells b f arguments budget trace;
            done_where = preview_ends image cells b f arguments budget trace;
            no_third = called_or_not image cells f arguments;
          };
      stopped_exactly = λ image cells f arguments.
          record {
            steps_within = steps_within image cells f arguments;
            words_within = words_within image cells f arguments;
            budget_reached = budget_reached image cells f arguments;
            two_budgets = two_budgets image cells f arguments;
            trace_full_lem = trace_filled image cells f arguments;
            two_traces = two_traces image cells f arguments;
            index_stops = index_stops image cells f arguments;
            divisor_stops = divisor_stops image cells f arguments;
          };
      unchanged = λ image cells b.
          record {
            by_load = load_unchanged image cells b;
            by_clear = clear_unchanged image cells b;
            by_poke = poke_unchanged image cells b;
            by_peek = peek_unchanged image cells b;
            by_refused_call = call_unchanged image cells b;
            by_stop = stop_leaves image cells b;
            by_result = done_leaves image cells b;
            by_preview = preview_leaves image cells b;
            by_compile = compile_unchanged image;
          };
    }

-- ======== Property 2
-- The demand: a compiled image loads and ends as its source ends.

-- what the compiler wrote, where it answers that it wrote n words: the first of its output
abbrev pub wrote : List ℕ → List ℕ → ℕ → List ℕ
wrote image out n = take (4 * n) (compile_bytes image out).1

pub record Property2 : Type 0 where
  -- The compiler writes exactly where the image is accepted, in form 0, its result within form 1's limits and the slice long enough; else the checker's
  -- refusal, 14, 15 or 16, in this order. The words written are those of the compiled tree. "Output words past the result stay unchanged."
  pub written_exactly : (image out : List ℕ) → Bytes out
      → Exactly CompileRefused (compile_bytes image out).0 (NotWritten image out) (Compilable image out)
      (λ tree. compile_bytes image out ≡ (Written (length (image_words (compiled_image tree))), lent out (image_words (compiled_image tree))))
  -- what it wrote is accepted
  pub compiled_accepted : (image out : List ℕ) (n : ℕ) → (compile_bytes image out).0 ≡ Written n → check_bytes (wrote image out n) ≡ Accepted
  -- it is in form 1, over the arrays of its source
  pub compiled_form : (image out : List ℕ) (n : ℕ) → (compile_bytes image out).0 ≡ Written n → (tree : Image) → AdmissibleBytes image tree
      → (target : Image) × AdmissibleBytes (wrote image out n) target × (target.form ≡ 1) × (target.arrays ≡ tree.arrays)
  -- it loads over the cells of its source, all of them 0 then
  pub compiled_loads : (image out : List ℕ) (n : ℕ) → (compile_bytes image out).0 ≡ Written n → (tree : Image) → AdmissibleBytes image tree
      → (cells : List ℕ) → Bytes cells → 4 * cell_count tree.arrays ≤ length cells
      → load_bytes (wrote image out n) cells ≡ (Done 0 0 0, cleared (cell_count tree.arrays) cells)
  -- and every call and preview on it ends as that on its source, every other request having the same answer and leaving the same cells
  pub compiled_ends : (image out : List ℕ) (n : ℕ) → (compile_bytes image out).0 ≡ Written n → (tree : Image) → AdmissibleBytes image tree
      → SameMeaning image tree (wrote image out n)

pub property_2 : Property2
property_2 =
    record {
      written_exactly = λ image out b.
          record { refused_where = compile_refused_exactly image out b; done_where = compile_is_written image out b; no_third = written_or_not image out };
      compiled_accepted = target_accepted;
      compiled_form = target_tree;
      compiled_loads = target_loads;
      compiled_ends = same_meaning;
    }

-- ======== Property 3
-- The demand: over any list of requests on two machines that differ only in secrets, everything an onlooker sees is equal: one claim about the whole list.
-- "Two lists of requests (load, poke, peek, clear, call) stand side by side .. Secret arguments and words poked into secret cells may differ. .. Equal at
-- each turn: whether it is refused or stopped, number, place, steps, the number of trace words recorded and each of them, a public result, a peeked
-- public cell. Equal after each turn: all cells of public arrays of the image then in force. This is one claim about the whole list". A preview is a
-- request of such a list too, whose secret arguments may differ: "Previews may stand in any sequence a prying host makes" (document 02, wish 7).

pub record Property3 : Type 0 where
  -- "A machine starts empty: no image accepted yet. Both machines' cell slices have one length, whatever they hold at the start."
  pub same_turns : (cells cells' : List ℕ) (requests requests' : List Request) → length cells ≡ length cells'
      → AlikeLists (empty cells) requests requests' → SameTurns (empty cells) (empty cells') requests requests'
  -- every list of requests is served to its end: there is a response to each
  pub served_to_the_end : (m : Machine) (requests : List Request) → length (responses m requests) ≡ length requests

pub property_3 : Property3
property_3 = record { same_turns = secrecy; served_to_the_end = served_to_the_end }

-- ======== Document 02, wish 1
-- "Every image within the new limits keeps its answers": the nesting limit is 19 for source images and 22 for compiled ones, and was 32 and 40.

pub record Wish1 : Type 0 where
  -- Reading by given largest levels is reading, if they are today's: so the former reading is another in its levels alone.
  pub by_levels : (image : List ℕ)
      → read_image_by largest_level (whole_words image) (words_of image) ≡ read_image (whole_words image) (words_of image)
  -- Reading gives what it gave by the former limits, a tree or a refusal of 1 to 4; or it is refused with 5 at a word of the image, and the former reading
  -- went on behind that word.
  pub limits_keep_answers : (image : List ℕ)
      → Kept (words_of image) (read_image (whole_words image) (words_of image)) (former_read_image (whole_words image) (words_of image))
  -- That word is the first that is too deep, by one level: with one level more, reading goes on behind it.
  pub one_level_more : (image : List ℕ) (p : ℕ) → read_image (whole_words image) (words_of image) ≡ refused 5 p
      → From (suc p) (read_image_by (λ form. largest_level form + 1) (whole_words image) (words_of image))
  -- So an image that is not refused with 5 has the answers that it had, whatever is asked;
  pub same_answers : (image : List ℕ) → ((p : ℕ) → check_bytes image ≡ CheckRefused 5 p → ⊥) → SameAnswers (whole_words image) (words_of image)
  -- and every image within the new limits is one of these.
  pub within_limits : (image : List ℕ) (tree : Image) → WithinLimits (whole_words image) (words_of image) tree
      → SameAnswers (whole_words image) (words_of image)
  -- A compiled tree is never too deep: with few enough locals it keeps every limit of form 1, so 15 never comes from the level.
  pub never_too_deep : (image : List ℕ) (tree : Image) → AdmissibleBytes image tree → tree.form ≡ 0
      → fit_locals (compiled_image tree).procedures ≡ true → FitsImage (compiled_image tree)

pub wish_1 : Wish1
unfolding check_bytes
wish_1 =
    record {
      by_levels = λ image. by_image (whole_words image) (words_of image);
      limits_keep_answers = λ image. limits_keep_answers (whole_words image) (words_of image);
      one_level_more = λ image. one_level_more (whole_words image) (words_of image);
      same_answers = λ image. same_answers (whole_words image) (words_of image);
      within_limits = λ image. within_limits (whole_words image) (words_of image);
      never_too_deep = λ image tree a source. image_compiled_fits tree
          (record { read = a.limits; source_form = source; no_sort_fault = a.no_sort_fault; no_label_fault = a.no_label_fault });
    }

-- ======== Document 02, wish 2
-- "In a secret context an index may also be operator 0 over the variable of an enclosing constant-bound loop and a constant, in either order. It is
-- bounded if the loop has no pass, or if the upper bound minus 1 plus the constant is below the length, in whole numbers. What was accepted compiles to
-- the same words, and an author's routine using the new index still ends as written." That it ends as written is property 2, which speaks of every
-- accepted image.

pub record Wish2 : Type 0 where
  -- In the block of a for over variable x with two constants for bounds, whatever other fors stand around the index: where a sum with a third constant
  -- is bounded.
  pub variable_and_constant : (bounds : List ConstantLoop) (x from to : ℕ) → x < length bounds → (c size j k p q r : ℕ)
      → Iff (bounded_index (bounds_inside bounds x (constant j from) (constant k to)) size (binary p 0 (variable q x) (constant r c)) ≡ true)
      ((to ≤ from) ⊎ (to - 1 + c < size))
  pub constant_and_variable : (bounds : List ConstantLoop) (x from to : ℕ) → x < length bounds → (c size j k p q r : ℕ)
      → Iff (bounded_index (bounds_inside bounds x (constant j from) (constant k to)) size (binary p 0 (constant r c) (variable q x)) ≡ true)
      ((to ≤ from) ⊎ (to - 1 + c < size))
  -- Every index that document 01 takes is taken, and no other but sums of a variable and a constant.
  pub bounded_before_bounded_now : (bounds : List ConstantLoop) (size : ℕ) (i : Expression) → former_bounded_index (upper_bounds bounds) size i ≡ true
      → bounded_index bounds size i ≡ true
  pub only_sums_added : (bounds : List ConstantLoop) (size : ℕ) (i : Expression) → bounded_index bounds size i ≡ true
      → (former_bounded_index (upper_bounds bounds) size i ≡ true) ⊎ Sum i
  -- The checker by a given rule for indices is the checker, if the rule is today's: so the former checker is another in this rule alone.
  pub by_rule : (image : List ℕ) → admitted_by todays_rule (whole_words image) (words_of image) ≡ admitted (whole_words image) (words_of image)
  -- "What was accepted compiles to the same words": what the former checker admits is admitted as the same tree, and this is all that the compiler and
  -- every other request look at.
  pub same_answers : (image : List ℕ) → verdict (formerly_admitted (whole_words image) (words_of image)) ≡ Accepted
      → AnswersAs (formerly_admitted (whole_words image) (words_of image)) (whole_words image) (words_of image)
  -- What was refused is refused with the same number at the same place; or it was refused with 11, at a word of operator 0.
  pub refused_as_before : (image : List ℕ) (k p : ℕ) → formerly_admitted (whole_words image) (words_of image) ≡ refused k p
      → (check_bytes image ≡ CheckRefused k p) ⊎ ((k ≡ 11) × NamesSum (words_of image) p)

pub wish_2 : Wish2
unfolding check_bytes
wish_2 =
    record {
      variable_and_constant = variable_and_constant;
      constant_and_variable = constant_and_variable;
      bounded_before_bounded_now = bounded_before_bounded_now;
      only_sums_added = only_sums_added;
      by_rule = λ image. by_rule (whole_words image) (words_of image);
      same_answers = λ image. IndicesAdded.same_answers (whole_words image) (words_of image);
      refused_as_before = λ image. refused_as_before (whole_words image) (words_of image);
    }

-- ======== Document 02, wish 4
-- "Operators 6, 7 and 8 record an entry of kind 9 holding the count before the modulo, after both operands. .. the example's traces do not move, and
-- answers only where the added entries fill the trace. Onlookers who see counts are included in the promise to the token's holder." That promise is
-- property 3, which speaks of each trace word recorded.

pub record Wish4 : Type 0 where
  -- A shift whose operands have the values v and w records w, all of it, where there is room for an entry; else it is stopped with 22. Both stand at its
  -- own word.
  pub count_recorded : (room place op v w : ℕ) (trace : List ℕ) → shifts op ≡ true → length trace + 2 ≤ room
      → operated (trace_words room) place op v w trace ≡ value (apply_binary op v w) (trace ++ ((9 * 268435456 + place) ∷ w ∷ []))
  pub count_stopped : (room place op v w : ℕ) (trace : List ℕ) → shifts op ≡ true → room < length trace + 2
      → operated (trace_words room) place op v w trace ≡ stop 22 place trace
  -- A call by given operators is the call, if they are today's: so the former call is another in its operators alone, and in both each operator is
  -- carried out at its own word, after both operands.
  pub by_operators : (image cells : List ℕ) (f : ℕ) (arguments : List ℕ) (budget : ℕ) (trace : List ℕ)
      → call_bytes_by operated image cells f arguments budget trace ≡ call_bytes image cells f arguments budget trace
  -- A call ends as it did before the wish, and its trace without the entries of kind 9 is the former one; or it is stopped with 22, where "the added
  -- entries fill the trace".
  pub only_entries_added : (image cells : List ℕ) (f : ℕ) (arguments : List ℕ) (budget : ℕ) (trace : List ℕ)
      → OnlyEntriesAdded (words_of image) (length (words_of trace)) (call_bytes image cells f arguments budget trace)
      (former_call_bytes image cells f arguments budget trace)
  -- An image in which no word names one of the three operators keeps every answer, to the last byte. The example is one, in source form and compiled
  -- (cases/specs/Cases.antt, `example_has_no_shift`).
  pub no_shift_same : (image : List ℕ) → no_shift (words_of image) ≡ true
      → (cells : List ℕ) (f : ℕ) (arguments : List ℕ) (budget : ℕ) (trace : List ℕ)
      → call_bytes image cells f arguments budget trace ≡ former_call_bytes image cells f arguments budget trace

pub wish_4 : Wish4
wish_4 =
    record {
      count_recorded = count_recorded;
      count_stopped = count_stopped;
      by_operators = by_operators;
      only_entries_added = only_entries_added;
      no_shift_same = λ image none cells f arguments budget trace. no_shift_same image cells f arguments budget trace none;
    }

-- ======== Document 02, wish 7
-- "A preview takes a call's arguments, budget and trace buffer, gives the same answer, stop, steps and entries, and leaves every cell. It equals making
-- the call on a copy of the machine. Previews may stand in any sequence a prying host makes." What such a host sees is property 3, whose lists have
-- previews among their requests.

pub record Wish7 : Type 0 where
  -- The answer, with its stop and its steps, and all that the lent trace holds are the call's on the same image and cells. The cells are those before,
  -- byte for byte, those that the image has no use for too.
  pub preview_is_call_on_a_copy : (image cells : List ℕ) → Bytes cells → (f : ℕ) (arguments : List ℕ) (budget : ℕ) (trace : List ℕ)
      → preview_bytes image cells f arguments budget trace
      ≡ ((call_bytes image cells f arguments budget trace).0, cells, (call_bytes image cells f arguments budget trace).2)
  -- At any turn of a list the next request finds the machine that the preview found.
  pub preview_turn : (m : Machine) → Bytes m.cells → (f : ℕ) (arguments : List ℕ) (budget : ℕ) (trace : List ℕ)
      → turn m (Statements.preview f arguments budget trace)
      ≡ record {
        answer = (turn m (Statements.call f arguments budget trace)).answer;
        trace = (turn m (Statements.call f arguments budget trace)).trace;
        after = m;
      }
  -- A host learns from a preview how long a trace a call needs. Unless the preview is stopped with 22, a trace with room for the words that it recorded
  -- is enough: the call with such a trace has the same answer and records the same words.
  pub trace_enough : (image cells : List ℕ) (f : ℕ) (arguments : List ℕ) (budget : ℕ) (trace trace' : List ℕ)
      → ((p z n : ℕ) → (preview_bytes image cells f arguments budget trace).0 ≡ Stopped 22 p z n → ⊥)
      → recorded_count (preview_bytes image cells f arguments budget trace).0 ≤ length (words_of trace')
      → ((call_bytes image cells f arguments budget trace').0 ≡ (preview_bytes image cells f arguments budget trace).0)
      × (recorded_in (call_bytes image cells f arguments budget trace') ≡ recorded_in (preview_bytes image cells f arguments budget trace))

pub wish_7 : Wish7
wish_7 =
    record {
      preview_is_call_on_a_copy = λ image cells b f arguments budget trace. preview_is_call_on_a_copy image cells f arguments budget trace b;
      preview_turn = preview_turn;
      trace_enough = trace_enough;
    }

-- ======== Document 02, wish 8
-- "After RV and LIVE there shall be one T and E pair for each nesting level of secret ifs, outermost first, then one word temporary and one boolean
-- temporary, each only if needed. The example keeps its words. Output is compared with this numbering from now on, and an image that compiled before
-- still compiles and ends the same way." The numbering is that of definitions/specs/Compiling.antt; that the example keeps its words is computed
-- (cases/specs/Numbering.antt, `example_keeps_its_words`); that what is compiled ends as its source does is property 2, which is as it was.

pub record Wish8 : Type 0 where
  -- Where the former compiler wrote, today's writes into the same slice, no more words than that, and every call on these ends as that on the source;
  pub still_compiles : (image out : List ℕ) (n : ℕ) → (former_compile_bytes image out).0 ≡ Written n
      → (m : ℕ) × ((compile_bytes image out).0 ≡ Written m) × (m ≤ n)
      × ((tree : Image) → AdmissibleBytes image tree → SameMeaning image tree (wrote image out m))
  -- and what is refused today was refused then, with the same number at the same place, or with 15.
  pub refused_before : (image out : List ℕ) (k p : ℕ) → (compile_bytes image out).0 ≡ CompileRefused k p
      → ((former_compile_bytes image out).0 ≡ CompileRefused k p) ⊎ ((former_compile_bytes image out).0 ≡ CompileRefused 15 0)
  -- "Long routines hit 15 because each secret if takes two locals": the locals of every compiled image are within form 1's limit, so that 15 falls
  -- exactly where there are too many words.
  pub locals_always_fit : (image : List ℕ) (tree : Image) → AdmissibleBytes image tree → tree.form ≡ 0
      → fit_locals (compiled_image tree).procedures ≡ true
  pub fifteen_by_length : (image out : List ℕ) (tree : Image) → AdmissibleBytes image tree → tree.form ≡ 0
      → Iff ((compile_bytes image out).0 ≡ CompileRefused 15 0) (16384 < length (image_words (compiled_image tree)))

pub wish_8 : Wish8
wish_8 =
    record {
      still_compiles = λ image out n h. let (m, e, l) = still_compiles image out n h in (m, e, l, same_meaning image out m e);
      refused_before = refused_before;
      locals_always_fit = locals_always_fit;
      fifteen_by_length = λ image out tree a s. fifteen_by_length image tree a s out;
    }

-- ======== Document 02, wish 11
-- "For a procedure of the loaded image, whichever its form, answer a bound from the image alone: statements plus passes, the larger arm of each if,
-- callees included. No call takes more steps, and a budget of at least the bound never gives 21. Where neither the procedure nor any it calls, directly
-- or through others, has an if, or a return other than as the body's last statement, a call that ends with a result takes exactly that many. Turned away:
-- 32 [the first for whose bounds are not constants, the procedure first, then all callees, direct or not, by number]; 33, a bound above 4,294,967,295,
-- after 32; both after 17." What is counted is definitions/specs/StepBounds.antt; which for is the first, and what a path is, statements/specs/StepBounds.antt.

pub record Wish11 : Type 0 where
  -- A bound is refused exactly where the wish has it, in its order; otherwise it is the procedure's cost. The cells are as before in every case.
  pub bounded_exactly : (image cells : List ℕ) → Bytes cells → (f : ℕ)
      → Exactly Refused (bound_bytes image cells f).0 (NotBounded image cells f) (Bounded image cells f)
      (λ tree. bound_bytes image cells f ≡ (Done (step_bound tree f) 0 0, cells))
  pub leaves_cells : (image cells : List ℕ) → Bytes cells → (f : ℕ) → (bound_bytes image cells f).1 ≡ cells
  -- "statements plus passes, the larger arm of each if, callees included": the cost is what the longest path takes, one arm of each if, whichever.
  pub longest_path : (image : List ℕ) (tree : Image) → AdmissibleBytes image tree → (f : ℕ) → LongestPath tree.procedures f (step_bound tree f)
  -- "from the image alone": what the cells hold plays no part.
  pub from_image_alone : (image cells cells' : List ℕ) (f : ℕ) → length (words_of cells) ≡ length (words_of cells')
      → (bound_bytes image cells f).0 ≡ (bound_bytes image cells' f).0
  -- "No call takes more steps": on any cells, with any arguments, budget and trace; one that is stopped neither.
  pub bound_holds : (image cells : List ℕ) (f bound : ℕ) → (bound_bytes image cells f).0 ≡ Done bound 0 0
      → (cells' arguments : List ℕ) (budget : ℕ) (trace : List ℕ) → steps_of (call_bytes image cells' f arguments budget trace).0 ≤ bound
  -- "a budget of at least the bound never gives 21"
  pub bound_enough : (image cells : List ℕ) (f bound : ℕ) → (bound_bytes image cells f).0 ≡ Done bound 0 0
      → (cells' arguments : List ℕ) (budget : ℕ) (trace : List ℕ) → bound ≤ budget
      → (p z n : ℕ) → (call_bytes image cells' f arguments budget trace).0 ≡ Stopped 21 p z n → ⊥
  -- "Where neither the procedure nor any it calls .. has an if, or a return other than as the body's last statement, a call that ends with a result takes
  -- exactly that many."
  pub bound_exact : (image cells : List ℕ) (f bound : ℕ) → (bound_bytes image cells f).0 ≡ Done bound 0 0
      → (tree : Image) (n : ℕ) → admitted (whole_words image) (words_of image) ≡ got tree n → Straight tree.procedures f
      → (cells' arguments : List ℕ) (budget : ℕ) (trace : List ℕ) (v z m : ℕ) → (call_bytes image cells' f arguments budget trace).0 ≡ Done v z m → z ≡ bound

pub wish_11 : Wish11
wish_11 =
    record {
      bounded_exactly = λ image cells b f.
          record {
            refused_where = bound_refused_exactly image cells f;
            done_where = bound_is_done image cells f b;
            no_third = bounded_or_not image cells f;
          };
      leaves_cells = λ image cells b f. bound_leaves image cells f b;
      longest_path = λ image tree a f. longest_path tree a.limits f;
      from_image_alone = from_image_alone;
      bound_holds = bound_holds;
      bound_enough = bound_enough;
      bound_exact = bound_exact;
    }

-- ======== Document 02, wish 13
-- "The board probe records the same calls without us, but sees only branches, indices and calls, with their values and no places. Hold its recording
-- against the machine's trace: they agree exactly when the trace's entries of kinds 1, 4 and 7, places removed, are the probe's entries in order.
-- Otherwise answer the number of entries before they part. Where one is longer, they part at the end of the shorter. A probe entry is two words,
-- kind × 2^28, then value. A lone last word, or a pair begun otherwise, is an entry equal to none."

pub record Wish13 : Type 0 where
  -- The entries of a trace and of a recording are those that the wish names, said of their words (statements/specs/Comparisons.antt); and no others.
  pub kept_exactly : (trace : List ℕ) (es : List Entry) → Iff (trace_entries trace ≡ es) (TraceShows trace es)
  pub recorded_exactly : (probe : List ℕ) (es : List Entry) → Iff (probe_entries probe ≡ es) (ProbeRecords probe es)
  -- A trace has none that is equal to none, so that the two agree where these lists are equal; the answer has the number of entries then.
  pub agree_exactly : (trace probe : List ℕ) (n : ℕ)
      → Iff (compare_bytes trace probe ≡ Agree n)
      ((trace_entries (words_of trace) ≡ probe_entries (words_of probe)) × (length (trace_entries (words_of trace)) ≡ n))
  -- They part after n entries exactly where the first n of both are equal, and there is no pair of equal ones after these.
  pub parted_there : (trace probe : List ℕ) (n : ℕ)
      → Iff (compare_bytes trace probe ≡ Part n) (PartAfter n (trace_entries (words_of trace)) (probe_entries (words_of probe)))
  -- A lone last word of a trace is no entry, and a machine records none: the words recorded by a call are whole entries.
  pub whole_entries : (image cells : List ℕ) (f : ℕ) (arguments : List ℕ) (budget : ℕ) (trace : List ℕ)
      → recorded_count (call_bytes image cells f arguments budget trace).0 % 2 ≡ 0

pub wish_13 : Wish13
wish_13 =
    record {
      kept_exactly = kept_exactly;
      recorded_exactly = recorded_exactly;
      agree_exactly = agree_exactly;
      parted_there = parted_there;
      whole_entries = whole_entries;
    }

-- ======== Document 02, wish 14
-- "One product needs padding removed from a secret block of 16 cells, after the rule in RFC 5652, section 6.3. Build it as its own crate above the
-- library, with the routine as a source image. Called as compiled, with the array, procedure, budget and trace length that the crate names, it answers 16
-- minus n if the last cell is n, from 1 to 16, and the last n cells all hold n, otherwise 255. It records the same trace for every block." The clauses
-- stand in that crate (padding/specs/Promise.antt), beside the rule, the routine and how it is called; its function answers the rule's number too
-- (padding/specs/Interface.antt).

pub wish_14 : PaddingCheck
wish_14 = padding_check

-- ======== The C functions
-- What a host reads in the 28 bytes or more that it lent for the answer, and what the lent slices hold, are the definition's: so each clause above is
-- one of the C functions, with the left side for the right. The relations are the functions' contracts (tinesage/specs/Interface.antt).

pub record Functions : Type 0 where
  pub checks : (image answer answer' : List ℕ) → 28 ≤ length answer → Checks image answer answer' → checked_in answer' ≡ check_bytes image
  pub compiles : (image out answer out' answer' : List ℕ) → 28 ≤ length answer → Compiles image out answer out' answer'
      → ◌≡◌ {A = Compiled × List ℕ} (compiled_in answer', out') (compile_bytes image out)
  pub describes : (image out answer out' answer' : List ℕ) → 28 ≤ length answer → Describes image out answer out' answer'
      → ◌≡◌ {A = Compiled × List ℕ} (compiled_in answer', out') (describe_bytes image out)
  pub loads : (image cells answer cells' answer' : List ℕ) → 28 ≤ length answer → Loads image cells answer cells' answer'
      → ◌≡◌ {A = Answer × List ℕ} (answer_in answer', cells') (load_bytes image cells)
  pub clears : (image cells answer cells' answer' : List ℕ) → 28 ≤ length answer → Clears image cells answer cells' answer'
      → ◌≡◌ {A = Answer × List ℕ} (answer_in answer', cells') (clear_bytes image cells)
  pub pokes : (image cells : List ℕ) (a i v : ℕ) (answer cells' answer' : List ℕ) → 28 ≤ length answer → Pokes image cells a i v answer cells' answer'
      → ◌≡◌ {A = Answer × List ℕ} (answer_in answer', cells') (poke_bytes image cells a i v)
  pub peeks : (image cells : List ℕ) (a i : ℕ) (answer answer' : List ℕ) → 28 ≤ length answer → Peeks image cells a i answer answer'
      → ◌≡◌ {A = Answer × List ℕ} (answer_in answer', cells) (peek_bytes image cells a i)
  pub calls : (image cells : List ℕ) (f : ℕ) (arguments : List ℕ) (budget : ℕ) (trace answer cells' trace' answer' : List ℕ) → 28 ≤ length answer
      → Calls image cells f arguments budget trace answer cells' trace' answer'
      → ◌≡◌ {A = Called} (answer_in answer', cells', trace') (call_bytes image cells f arguments budget trace)
  pub previews : (image cells : List ℕ) (f : ℕ) (arguments : List ℕ) (budget : ℕ) (trace answer trace' answer' : List ℕ) → 28 ≤ length answer
      → Previews image cells f arguments budget trace answer trace' answer'
      → ◌≡◌ {A = Called} (answer_in answer', cells, trace') (preview_bytes image cells f arguments budget trace)
  pub bounds : (image cells : List ℕ) (f : ℕ) (answer answer' : List ℕ) → 28 ≤ length answer → Bounds image cells f answer answer'
      → ◌≡◌ {A = Answer × List ℕ} (answer_in answer', cells) (bound_bytes image cells f)
  pub compares : (trace probe answer answer' : List ℕ) → 28 ≤ length answer → Compares trace probe answer answer'
      → compared_in answer' ≡ compare_bytes trace probe

pub functions : Functions
functions =
    record {
      checks = λ image answer answer' room a. check_read answer answer' room (check_bytes image) a;
      compiles = λ image out answer out' answer' room (o, a). compile_read answer answer' room (compile_bytes image out) out' o a;
      describes = λ image out answer out' answer' room (o, a). compile_read answer answer' room (describe_bytes image out) out' o a;
      loads = λ image cells answer cells' answer' room (c, a). request_read answer answer' room (load_bytes image cells) cells' c a;
      clears = λ image cells answer cells' answer' room (c, a). request_read answer answer' room (clear_bytes image cells) cells' c a;
      pokes = λ image cells a i v answer cells' answer' room (c, b). request_read answer answer' room (poke_bytes image cells a i v) cells' c b;
      peeks = λ image cells a i answer answer' room (c, b). request_read answer answer' room (peek_bytes image cells a i) cells c b;
      calls = λ image cells f arguments budget trace answer cells' trace' answer' room (c, t, a).
          call_read answer answer' room (call_bytes image cells f arguments budget trace) cells' trace' c t a;
      previews = λ image cells f arguments budget trace answer trace' answer' room (c, t, a).
          call_read answer answer' room (preview_bytes image cells f arguments budget trace) cells trace' c t a;
      bounds = λ image cells f answer answer' room (c, b). request_read answer answer' room (bound_bytes image cells f) cells c b;
      compares = λ trace probe answer answer' room a. compare_read answer answer' room (compare_bytes trace probe) a;
    }
