use Rattle.std.proofs.Common.{rules}
use Rattle.std.proofs.lemmas.Fn.{always_returns_same}
use Rattle.lock_modes.specs.Value.{value_cmp}
use Rattle.marked_rows.specs.declared.places.KeyedCell.{KeyedCell}
use Rattle.marked_rows.proofs.PlaceLemmas.{searched}
use Rattle.marked_rows.proofs.places.index_in.Goals as goal

pub returns-clause-found : goal.returns-clause-found
returns-clause-found c =
    let search_by = c.binary_search_by in
    (searched c.args.keys.now c.args.key.now search_by.result c.requires search_by.ensures.bound
    (search_by.ensures.position (λ (e : KeyedCell). value_cmp e.key c.args.key.now) (always_returns_same _ _ _ (λ a r f called. search (rules, called))))).0

pub returns-clause-gap : goal.returns-clause-gap
returns-clause-gap c =
    let search_by = c.binary_search_by in
    (searched c.args.keys.now c.args.key.now search_by.result c.requires search_by.ensures.bound
    (search_by.ensures.position (λ (e : KeyedCell). value_cmp e.key c.args.key.now) (always_returns_same _ _ _ (λ a r f called. search (rules, called))))).1
