use Rattle.std.proofs.Common.{◌≡◌, ap, sym, ◌∙◌, None}
use Rattle.std.specs.Option.{option_copied}
use Rattle.bound_statements.proofs.ConditionLemmas.{told-and}
use Rattle.binding_model.specs.KeyParts.{or_next, level_key, key_in}
use Rattle.statement_binding.proofs.keys.+key_in.Goals as goal

-- the first part names no key, so the second decides
pub returns-in-None : goal.returns-in-None
returns-in-None t c =
    let key = c.args.key in
    let whole = ap (key_in key) c.in-And.is ∙ told-and (level_key key) c.in-And.a c.in-And.b in
    let first : key_in key c.in-And.a ≡ None = sym (c.key_in.ensures ∙ ap (key_in key) c.get.ensures) ∙ ap option_copied c.in-None.is in
    let second = c.key_in-in-None.ensures ∙ ap (key_in key) c.get-in-None.ensures in
    second ∙ sym (whole ∙ ap (λ o. or_next o (key_in key c.in-And.b)) first)
