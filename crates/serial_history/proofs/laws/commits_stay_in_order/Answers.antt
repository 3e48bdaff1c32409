use Rattle.serial_history.proofs.Commits.{front-first, goes-on, settle-on}
use Rattle.serial_history.proofs.laws.commits_stay_in_order.Goals as goal

pub returns : goal.returns
returns c = record {
  fronts = front-first;
  going = goes-on;
  granting = settle-on;
}
