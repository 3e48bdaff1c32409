use Rattle.marked_rows.proofs.PlaceLemmas.{more-known}
use Rattle.marked_rows.proofs.places.Places.add.Goals as goal

pub returns-clause-known : goal.returns-clause-known
returns-clause-known c = more-known (c.args.table, c.args.key) c.self.inside.next _ _ c.in_ok-add_key.ensures.added
