use Rattle.std.proofs.Common.{sym, ap, ◌∙◌, ◌∷◌}
use Rattle.std.specs.Map.Iter.{deref_pair}
use Rattle.std.specs.Option.{option_map}
use Rattle.version_tree.specs.Iter.{from}
use Rattle.version_tree.proofs.FromLemmas.{from_after}
use Rattle.version_tree.proofs.iter.next_by.Goals as goal

pub returns : goal.returns
returns g c =
    let cmp = g.K.Ord.cmp in
    let entries = c.args.keys.now.tree.now.entries in
    let rest = ap (from cmp entries) c.after-keys.ensures ∙ from_after cmp g.met.K.Ord.total c.in_ok-key.key.now entries c.known.ensures.in_order in
    ap (λ next. from cmp entries (option_map deref_pair next)) c.in_ok-key.was ∙ ap (λ es. deref_pair (c.in_ok-key.key, c.in_ok-key.value) ∷ es) (sym rest)
