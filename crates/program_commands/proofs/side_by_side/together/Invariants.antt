use Rattle.std.proofs.Common.{ℕ, Bool, All, List, Option}
use Rattle.std.specs.Vec.Iter.{into_iter_items}
use Rattle.bound_statements.specs.declared.statement.Level.{Level}
use Rattle.book_commands.specs.Joining.{Files}
use Rattle.program_commands.specs.SideBySide.{IsPlaced}
use Rattle.program_commands.proofs.side_by_side.together.Given as goal

-- what is in the list, and what is not in it yet
abbrev pub invariant-loop-some : goal.invariant-loop-some
invariant-loop-some l = (files : Files) (level : Option Level) (updates : Bool) (specs : List (List ℕ)) → All (λ some. All (IsPlaced files level updates specs) some.items) l.fn.found.items
    → All (IsPlaced files level updates specs) l.placed.items × All (λ some. All (IsPlaced files level updates specs) some.items) (into_iter_items l.some-iterator)
