-- The numbers that document 01 and the wishes give to refusals and stops, by the names that the code has for them. Assumes nothing.
use Rattle.std.specs.Prelude.{ℕ}
use Rattle.reasons.specs.declared.Reason.{Reason}
use Rattle.reasons.specs.declared.Reason.TheVariants.{Length, Word, EndsEarly, SpareWord, TooDeep, NoSuchName, WrongSort, LoopVariable, Flow, SecretWherePublic, Unbounded, OpenCall, SecretBranch, NoSource, TooLarge, OutputShort, Missing, ArgumentCount, NothingLoaded, BudgetSpent, TraceFull, IndexBeyond, DivisorZero, VariableFor, AboveLimit}

abbrev pub reason_number : Reason → ℕ
reason_number Length = 1
reason_number Word = 2
reason_number EndsEarly = 3
reason_number SpareWord = 4
reason_number TooDeep = 5
reason_number NoSuchName = 6
reason_number WrongSort = 7
reason_number LoopVariable = 8
reason_number Flow = 9
reason_number SecretWherePublic = 10
reason_number Unbounded = 11
reason_number OpenCall = 12
reason_number SecretBranch = 13
reason_number NoSource = 14
reason_number TooLarge = 15
reason_number OutputShort = 16
reason_number Missing = 17
reason_number ArgumentCount = 18
reason_number NothingLoaded = 20
reason_number BudgetSpent = 21
reason_number TraceFull = 22
reason_number IndexBeyond = 23
reason_number DivisorZero = 24
reason_number VariableFor = 32
reason_number AboveLimit = 33
