-- What holds of each outcome: the numbers of its events have their widths.
use Rattle.std.specs.Prelude.{List, All}
use Rattle.events.specs.declared.event.Event.{Event}
use Rattle.events.specs.Fits.{EventFits}

abbrev pub OutcomeFits : List (List Event) → Type 0
OutcomeFits sessions = All (All EventFits) sessions
