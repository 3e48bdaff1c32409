use Rattle.std.proofs.Common.{◌≡◌, ◌++◌, ◌≤◌, ◌<◌, length, drop, All}
use Rattle.bound_specs.specs.Spec.{line, queues_from}
use Rattle.bound_specs.specs.Walking.{queues_at}
use Rattle.bound_specs.proofs.walking.line_of_word.Given as goal

abbrev pub invariant-loop-letter : goal.invariant-loop-letter
invariant-loop-letter l = record {
  so_far : l.line.items ++ line (queues_at 0 l.sessions l.next l.steps) (drop l.letter-index l.word) ≡ line (queues_from 0 l.sessions l.steps) l.word;
  short : length l.line.items ≤ l.letter-index;
  known : All (λ k. k < length l.steps) l.line.items;
}
