use Rattle.std.proofs.Common.{arith, ◌-◌}
use Rattle.sql_grammar.specs.Lexing.{views}
use Rattle.sql_grammar.specs.Text.{seen}
use Rattle.sql_reader.proofs.TextLemmas.{goes_on}
use Rattle.sql_reader.proofs.reading.statements_of.Goals as goal

pub block-preserved : goal.block-preserved
block-preserved c =
    let read = rw c.in-Some-2.is at c.in_ok-more.ensures in
    goes_on c.block.turns (c.block.turns - 1) (seen c.block.all.items) (seen c.push_next-in-block.new.all.items) (views c.block.rest.now)
    (views c.in-Some-2.more.now) _ (omega (arith, c.block-test.true)) c.block.invariant read
