use Rattle.std.proofs.Common.{◌≡◌, ◌<◌, ◌∷◌, [], length}
use Rattle.spec_reader.specs.Lexing.{view, views}
use Rattle.spec_reader.specs.Tree.{FrontTree, HeadTree}
use Rattle.spec_reader.specs.Reading.{reads, StepBegun, Stepped}
use Rattle.spec_reader.proofs.sessions.steps_of.Given as goal

abbrev pub invariant-steps : goal.invariant-steps
invariant-steps l = record {
  shorter : length l.rest < length l.tokens;
  so_far : (f : FrontTree) (h : HeadTree) → reads (StepBegun f l.sessions h []) (views l.tokens)
      ≡ reads (Stepped f l.sessions h l.steps) (view l.next ∷ views l.rest);
}

abbrev pub decreases-steps : goal.decreases-steps
decreases-steps l = length l.rest
