-- Which orders are put in classes. No public clause cites this module.
use Rattle.std.specs.Prelude.{◌≡◌, ◌≢◌, ◌<◌, Some, None, MatchOption, All, []}
use Rattle.bound_specs.specs.Spec.{Spec, ranks}
use Rattle.spec_classes.specs.Classes.{drawn}
use Rattle.spec_classes.specs.declared.orders.Orders.{Orders}

-- the spec whose orders they are
abbrev pub run_by : Spec → Orders → Spec
run_by run orders = elim orders.ranks [ None ↦ run | Some drawn_ranks ↦ drawn run drawn_ranks.now ]

-- all orders are meant of a spec without permutation lines alone, and ranks are some of the spec's
abbrev pub AreMeant : Spec → Orders → Type 0
AreMeant run orders = MatchOption orders.ranks (run.lines ≡ []) (λ drawn_ranks. (drawn_ranks.now ≢ []) × All (λ r. r < ranks run) drawn_ranks.now)
