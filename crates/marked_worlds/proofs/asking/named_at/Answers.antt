use Rattle.std.proofs.Common.{sym, subst}
use Rattle.std.specs.List.{Contains}
use Rattle.lock_modes.specs.Resource.{resource_at}
use Rattle.numbered_specs.proofs.NumberLemmas.{asks-it}
use Rattle.marked_worlds.proofs.asking.named_at.Goals as goal

-- what the statement asks for has a number
pub unreachable-requires : goal.unreachable-requires
unreachable-requires c =
    let rs = c.args.numbers.now.resources in
    c.in_default-number_of.ensures (subst (Contains rs) (sym c.in_ok-name.ensures)
    (asks-it rs c.args.statement.now c.args.number (resource_at c.in-Some.place) c.in-Some.mode (sym c.in-Some.ensures) c.requires.known))
