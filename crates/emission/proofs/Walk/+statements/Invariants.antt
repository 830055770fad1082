-- The calls go down by the level; a function at one level comes below those that it serves.
use Rattle.std.proofs.Common.{◌≡◌, ◌+◌, ◌*◌, ◌-◌, ◌≤◌, ◌<◌, true, length}
use Rattle.definitions.specs.Reading.{read_block}
use Rattle.laws.specs.Parses.{ok}
use Rattle.laws.specs.ImageIn.{procedures_in}
use Rattle.image_words.specs.Read.{statements_at}
use Rattle.tables.specs.Table.{arrays_in, params_in}
use Rattle.emission.specs.Emitted.{emitted_block}
use Rattle.emission.proofs.Walk.+statements.Given as goal

abbrev pub decreases-emit_statement : goal.decreases-emit_statement
decreases-emit_statement l = 6 * l.level + 2

abbrev pub decreases-emit_if : goal.decreases-emit_if
decreases-emit_if l = 6 * l.level + 1

abbrev pub decreases-emit_secret_if : goal.decreases-emit_secret_if
decreases-emit_secret_if l = 6 * l.level

abbrev pub decreases-emit_public_if : goal.decreases-emit_public_if
decreases-emit_public_if l = 6 * l.level

abbrev pub decreases-emit_for : goal.decreases-emit_for
decreases-emit_for l = 6 * l.level

abbrev pub decreases-emit_body : goal.decreases-emit_body
decreases-emit_body l = 6 * l.level + 4

abbrev pub decreases-emit_block : goal.decreases-emit_block
decreases-emit_block l = 6 * l.level + 3

-- What is left of the block gives, from where the walk has come to, what the whole block gives.
abbrev pub invariant-emit_block-loop : goal.invariant-emit_block-loop
invariant-emit_block-loop l =
    let p = l.self.procedure.program in
    record {
      onward : l.fn.cursor.at < l.next.at;
      inside : l.next.at ≤ length p.image.now;
      statements : l.next.n + 2 * l.fn.cursor.at ≤ l.fn.cursor.n + 2 * l.next.at;
      same_buffer : l.out.words.ghost_name ≡ l.initial.out.words.ghost_name;
      reads : ok (statements_at (l.count - l.counter) (l.level - 1) (params_in p.table.now) l.self.procedure.me p.image.now l.next.at) ≡ true;
      left : emitted_block (procedures_in p.image.now) (arrays_in p.table.now) l.self.procedure.types.now l.self.scope l.next l.out.place l.out.words.now
          (statements_at (l.count - l.counter) (l.level - 1) (params_in p.table.now) l.self.procedure.me p.image.now l.next.at)
          ≡ emitted_block (procedures_in p.image.now) (arrays_in p.table.now) l.self.procedure.types.now l.self.scope l.initial.next l.initial.out.place l.initial.out.words.now
          (read_block l.level (params_in p.table.now) l.self.procedure.me p.image.now l.fn.cursor.at);
    }
