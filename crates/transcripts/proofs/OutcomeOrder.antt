-- Outcomes as keys of a finite map: only equal outcomes tie.
use Rattle.std.specs.Prelude.{◌≡◌, List}
use Rattle.std.specs.declared.cmp.Ordering.TheVariants.{Equal}
use Rattle.finite_maps.specs.Map.{Order}
use Rattle.events.specs.declared.event.Event.{Event}
use Rattle.transcripts.specs.Compact.{outcome_cmp, outcome_total}
use Rattle.transcripts.proofs.EventOrder.{outcome_closed}

-- outcomes whose texts tie are one
pub outcome_same : (a b : List (List Event)) → outcome_cmp a b ≡ Equal → a ≡ b
outcome_same a b e = outcome_closed.same a b e

abbrev pub outcome_order : Order (List (List Event))
outcome_order = record { cmp = outcome_cmp; total = outcome_total; same = outcome_same }
