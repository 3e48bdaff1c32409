use Rattle.std.proofs.Common.{sym, ap, ◌∙◌}
use Rattle.std.specs.Ordering.{nat_cmp}
use Rattle.std.specs.FinMap.Entries.{put}
use Rattle.lock_modes.specs.Value.{value_cmp}
use Rattle.finite_maps.specs.Map.{insert}
use Rattle.lock_modes.specs.Resource.{resource_at}
use Rattle.lock_modes.specs.declared.resource.Resource.TheVariants.{Table, Row}
use Rattle.lock_queues.specs.Records.{modes_map, known_keys}
use Rattle.lock_queues.proofs.ModesLemmas.{modes-put_table, modes-put_row}
use Rattle.lock_queues.proofs.modes.Modes.put.Goals as goal

pub returns-in_ok-fork-in-Table : goal.returns-in_ok-fork-in-Table
returns-in_ok-fork-in-Table c =
    (λ i. modes_map (c.in_ok-put-in-Table.ensures i) (c.in_ok-fork-in-Table.ensures i))
    ∙ modes-put_table c.in-Table.table c.args.mode c.self.inside.tables c.self.inside.rows
    ∙ ap (λ m. insert m (Table c.in-Table.table) c.args.mode) c.self.view_is
    ∙ sym (ap (λ p. insert c.args.self.now (resource_at p) c.args.mode) c.in-Table.is)

pub returns-in_ok-put-in-Row : goal.returns-in_ok-put-in-Row
returns-in_ok-put-in-Row c =
    let t = c.in-Row.table in
    let k = c.in-Row.key.now in
    let rows = c.self.inside.rows in
    let more = c.in_ok-keys-in-Row.ensures ∙ ap (λ o. put value_cmp k c.args.mode (known_keys o)) c.get.ensures in
    (λ i. modes_map (c.in_ok-fork-in-Row.ensures i) (c.in_ok-put-in-Row.ensures i))
    ∙ ap (λ ks. modes_map c.self.inside.tables (put nat_cmp t ks rows)) more
    ∙ modes-put_row t k c.args.mode c.self.inside.tables rows
    ∙ ap (λ m. insert m (Row t k) c.args.mode) c.self.view_is
    ∙ sym (ap (λ p. insert c.args.self.now (resource_at p) c.args.mode) c.in-Row.is)
