use Rattle.std.specs.Prelude.{◌≤◌, ◌+◌, suc, length}
use Rattle.sql_grammar.specs.Lexing.{views}
use Rattle.sql_grammar.specs.Reading.{begins_property, property, many}
use Rattle.sql_reader.proofs.Loops.{ManySoFar}
use Rattle.sql_reader.proofs.tables.properties.Given as goal

abbrev pub invariant-all : goal.invariant-all
invariant-all l = record {
  so_far : ManySoFar begins_property property (length (views l.fn.tokens)) l.properties.items (views l.rest)
      (many begins_property property (suc (length (views l.fn.tokens))) (views l.fn.tokens));
  shorter : length l.rest + length l.properties.items ≤ length l.fn.tokens;
}

abbrev pub decreases-all : goal.decreases-all
decreases-all l = length l.rest
