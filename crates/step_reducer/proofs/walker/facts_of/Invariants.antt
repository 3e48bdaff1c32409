use Rattle.std.proofs.Common.{◌≡◌, ◌-◌, false}
use Rattle.step_reducer.specs.Walking.{AreFacts}
use Rattle.step_reducer.proofs.walker.facts_of.Given as goal

abbrev pub invariant-loop-rank : goal.invariant-loop-rank
invariant-loop-rank l = record {
  file : l.walker.file ≡ l.initial.walker.file;
  reduce : l.walker.reduce ≡ l.initial.walker.reduce;
  end : l.walker.end ≡ l.initial.walker.end;
  at : l.walker.at ≡ l._rank;
  spent : l.walker.spent ≡ false;
  facts : AreFacts l.initial.walker.reduce l.initial.walker.file.run l.initial.walker.at (l._rank - l.initial.walker.at) l.facts.items;
}
