-- What is left to copy gives, from where the copy has come to, what the whole copy gives.
use Rattle.std.proofs.Common.{◌≡◌, ◌-◌, ◌≤◌, true, length}
use Rattle.laws.specs.Parses.{ok}
use Rattle.image_words.specs.Read.{arguments_at}
use Rattle.copying.specs.Copy.{copied_arguments}
use Rattle.copying.proofs.Source.copy_arguments.Given as goal

abbrev pub invariant-loop : goal.invariant-loop
invariant-loop l = record {
  onward : l.fn.at ≤ l.next;
  inside : l.next ≤ length l.self.image.now;
  reads : ok (arguments_at (l.count - l.counter) l.level l.self.image.now l.next) ≡ true;
  same_buffer : l.out.words.ghost_name ≡ l.fn.out.words.ghost_name;
  left : copied_arguments l.self.first l.out.place l.out.words.now (arguments_at (l.count - l.counter) l.level l.self.image.now l.next)
      ≡ copied_arguments l.self.first l.fn.out.place l.fn.out.words.now (arguments_at l.count l.level l.self.image.now l.fn.at);
}
