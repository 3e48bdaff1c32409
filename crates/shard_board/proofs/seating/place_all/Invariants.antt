use Rattle.std.proofs.Common.{◌≡◌, ◌-◌, [], length}
use Rattle.shard_board.specs.Claiming.{blank_view, blank_parts}
use Rattle.shard_board.specs.Shown.{shown_board}
use Rattle.shard_board.specs.Changes.{IsRowOf}
use Rattle.shard_board.proofs.seating.place_all.Given as goal

abbrev pub invariant-loop-number : goal.invariant-loop-number
invariant-loop-number l = record {
  same : l.first.table_id ≡ l.initial.first.table_id;
  view : l.first.me ≡ (blank_view l.fn.plan (l.fn.plan.seats - 1) (blank_parts l.number ((l.fn.plan.seats - 1) - l.number)), []);
  many : length l.row.items ≡ l.number;
  rows : IsRowOf (shown_board l.fn.first.table_id l.fn.plan) l.row.items;
}
