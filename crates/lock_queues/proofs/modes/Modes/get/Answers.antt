use Rattle.std.proofs.Common.{Some, None, sym, ap, ◌∙◌}
use Rattle.finite_maps.specs.Map.{get}
use Rattle.lock_modes.specs.Resource.{resource_at}
use Rattle.lock_modes.specs.declared.resource.Resource.TheVariants.{Table, Row}
use Rattle.lock_queues.proofs.ModesLemmas.{get-modes, get-row}
use Rattle.lock_queues.proofs.modes.Modes.get.Goals as goal

pub returns-in-Table : goal.returns-in-Table
returns-in-Table c =
    c.copied.ensures ∙ c.get.ensures ∙ sym (get-modes c.self.inside.tables c.self.inside.rows (Table c.in-Table.table))
    ∙ ap (λ m. get m (Table c.in-Table.table)) c.self.view_is ∙ sym (ap (λ p. get c.args.self.now (resource_at p)) c.in-Table.is)

pub returns-in-None : goal.returns-in-None
returns-in-None c =
    get-row c.self.inside.tables c.self.inside.rows c.in-Row.table c.in-Row.key.now None c.in-None.ensures
    ∙ ap (λ m. get m (Row c.in-Row.table c.in-Row.key.now)) c.self.view_is ∙ sym (ap (λ p. get c.args.self.now (resource_at p)) c.in-Row.is)

pub returns-in-Some : goal.returns-in-Some
returns-in-Some c =
    c.copied-in-Some.ensures ∙ c.get-in-Some.ensures
    ∙ get-row c.self.inside.tables c.self.inside.rows c.in-Row.table c.in-Row.key.now (Some c.in-Some.keys.now) c.in-Some.ensures
    ∙ ap (λ m. get m (Row c.in-Row.table c.in-Row.key.now)) c.self.view_is ∙ sym (ap (λ p. get c.args.self.now (resource_at p)) c.in-Row.is)
