use Rattle.std.proofs.Common.{◌≡◌, []}
use Rattle.shard_board.specs.Turning.{with_ticket}
use Rattle.shard_board.proofs.turns.enter.Given as goal

abbrev pub invariant-loop : goal.invariant-loop
invariant-loop g l = record {
  table : l.place.table_id ≡ l.fn.place.table_id;
  id : l.place.id ≡ l.fn.place.id;
  me : l.place.me ≡ (with_ticket l.fn.place.me.0 l.ticket, []);
}
