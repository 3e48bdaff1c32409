use Rattle.std.proofs.Common.{◌≡◌, ap, sym, ◌∙◌, false, inl, inr}
use Rattle.std.specs.Prelude.{◌||◌}
use Rattle.bound_statements.proofs.ConditionLemmas.{told-and, told-or}
use Rattle.binding_model.specs.Types.{level_mixes, condition_mixes}
use Rattle.statement_binding.proofs.types.+condition_mixes.Goals as goal

-- the first part does not mix them, so the second decides
pub returns-else-condition_mixes : goal.returns-else-condition_mixes
returns-else-condition_mixes t c =
    let table = c.args.table.now in
    let a = c.in-And.a in
    let b = c.in-And.b in
    let whole : condition_mixes table c.args.condition.now ≡ (condition_mixes table a || condition_mixes table b) =
    elim c.in-And.is [
      | inl e ↦ ap (condition_mixes table) e ∙ told-and (level_mixes table) a b
      | inr e ↦ ap (condition_mixes table) e
          ∙ told-or (level_mixes table) a b
    ] in
    let first : condition_mixes table a ≡ false = sym (c.condition_mixes-in-And.ensures ∙ ap (condition_mixes table) c.get-in-And.ensures)
    ∙ c.if-condition_mixes.false in
    let second = c.condition_mixes-else-condition_mixes.ensures ∙ ap (condition_mixes table) c.get-else-condition_mixes.ensures in
    second ∙ sym (whole ∙ ap (λ o. o || condition_mixes table b) first)
