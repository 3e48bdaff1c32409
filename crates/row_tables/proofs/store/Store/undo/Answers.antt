use Rattle.std.proofs.Common.{◌≡◌, sym, ap, ◌∙◌, subst, Some, None}
use Rattle.std.specs.Option.{option_copied}
use Rattle.finite_maps.specs.Map.{get}
use Rattle.row_tables.specs.Layers.{Layers, undone}
use Rattle.row_tables.specs.Undo.{layers}
use Rattle.row_tables.proofs.StoreLemmas.{undone-layers, nothing-undone}
use Rattle.row_tables.proofs.store.Store.undo.Goals as goal

pub returns-in_default-clause-ok : goal.returns-in_default-clause-ok
returns-in_default-clause-ok c =
    let none : get c.self.inside.undo c.args.session ≡ None = sym c.get.ensures ∙ ap option_copied c.in_default.is in
    subst (λ (l : Layers). l ≡ undone c.args.session l) c.self.view_is (nothing-undone c.self.inside.rows c.self.inside.undo c.args.session none)

pub invariant_of-self : goal.invariant_of-self
invariant_of-self c = c.remove.ensures.apart c.self.invariant

-- with its list laid over the rows in place the session's writes are undone
pub returns-clause-ok : goal.returns-clause-ok
returns-clause-ok c =
    let some : get c.self.inside.undo c.args.session ≡ Some c.in-Some.list.now = sym c.get.ensures ∙ ap option_copied c.in-Some.is in
    (λ i. layers (c.in_ok-rows.ensures i) (c.remove.ensures.gone i))
    ∙ undone-layers c.self.inside.rows c.self.inside.undo c.args.session c.in-Some.list.now c.self.invariant some
    ∙ ap (undone c.args.session) c.self.view_is
