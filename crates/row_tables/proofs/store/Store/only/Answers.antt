use Rattle.std.proofs.Common.{◌≡◌, ℕ, List, [], sym, ap, ◌∙◌, rules}
use Rattle.row_tables.specs.Overlay.{Overlay}
use Rattle.row_tables.specs.Layers.{only}
use Rattle.row_tables.proofs.OnlyLemmas.{undone_others, only-others}
use Rattle.row_tables.proofs.store.Store.only.Goals as goal

-- nothing is left to undo
pub returns : goal.returns
returns c =
    let session = c.args.session in
    let none : c.loop-other.other-iterator ≡ [] = search rules in
    ap (λ (es : List (ℕ × Overlay)). undone_others session es c.loop-other.store) (sym none)
    ∙ c.loop-other.invariant
    ∙ ap (undone_others session c.into_iter-other-iterator.result) (sym c.self.view_is)
    ∙ only-others session c.self.inside.rows c.self.inside.undo c.into_iter-other-iterator.result (search rules)
    ∙ ap (only session) c.self.view_is
