-- A call goes to a lower procedure, and within a procedure the level falls with each block. What the loops keep.
use Rattle.std.proofs.Common.{◌≡◌, ◌+◌, ◌-◌, ◌*◌, true}
use Rattle.definitions.specs.Reading.{read_block}
use Rattle.laws.specs.ImageIn.{image_in}
use Rattle.laws.specs.Parses.{ok}
use Rattle.image_words.specs.Read.{statements_at}
use Rattle.tables.specs.Table.{params_in}
use Rattle.tracing.specs.Answers.{logged}
use Rattle.simple_statements.specs.Runs.{SameLent}
use Rattle.runner.specs.Runs.{block_at, passes_at, block_run, passes_run}
use Rattle.runner.proofs.blocks.+running.Given as goal

abbrev pub decreases-run_block : goal.decreases-run_block
decreases-run_block l = 1000 * l.scope.now.me + 6 * l.level

abbrev pub decreases-run_body : goal.decreases-run_body
decreases-run_body l = 1000 * l.scope.now.me + 500

abbrev pub decreases-run_call : goal.decreases-run_call
decreases-run_call l = 1000 * l.scope.now.me + 6 * l.level + 4

abbrev pub decreases-run_for : goal.decreases-run_for
decreases-run_for l = 1000 * l.scope.now.me + 6 * l.level + 4

abbrev pub decreases-run_if : goal.decreases-run_if
decreases-run_if l = 1000 * l.scope.now.me + 6 * l.level + 4

abbrev pub decreases-run_passes : goal.decreases-run_passes
decreases-run_passes l = 1000 * l.scope.now.me + 6 * l.level + 1

abbrev pub decreases-run_statement : goal.decreases-run_statement
decreases-run_statement l = 1000 * l.scope.now.me + 6 * l.level + 5

abbrev pub invariant-run_block-loop-k : goal.invariant-run_block-loop-k
invariant-run_block-loop-k l = record {
  same : SameLent l.initial.state l.state;
  readable : ok (statements_at (l.count - l.k) (l.level - 1) (params_in l.scope.program.table.now) l.scope.me l.scope.program.image.now l.next) ≡ true;
  left : block_at l.scope.budget (image_in l.scope.program.image.now) l.scope.me l.state.steps (logged l.state.trace.now) l.vars l.state.cells.now
      (statements_at (l.count - l.k) (l.level - 1) (params_in l.scope.program.table.now) l.scope.me l.scope.program.image.now l.next)
      ≡ block_run l.scope l.level l.at l.initial.vars l.initial.state;
}

abbrev pub invariant-run_passes-loop-i : goal.invariant-run_passes-loop-i
invariant-run_passes-loop-i l = record {
  same : SameLent l.initial.state l.state;
  left : passes_at l.scope.budget (image_in l.scope.program.image.now) l.scope.me l.passes.place l.passes.x (l.passes.bounds.to - l.i) l.i l.passes.next
      l.state.steps (logged l.state.trace.now) l.vars l.state.cells.now
      (read_block l.level (params_in l.scope.program.table.now) l.scope.me l.scope.program.image.now l.passes.bounds.next)
      ≡ passes_run l.scope l.level l.passes l.initial.vars l.initial.state;
}
