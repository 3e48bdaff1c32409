-- Which orders are asked for, and how they are grouped.
use Rattle.std.specs.Prelude.{◌≡◌, ℕ, Bool, true, false, not, cond, List, Option, Some, None, unwrap_or}
use Rattle.std.specs.List.{list_all}
use Rattle.events.specs.declared.event.Event.{Event}
use Rattle.binding_model.specs.declared.tables.Table.{Table}
use Rattle.bound_specs.specs.Spec.{Spec}
use Rattle.order_classes.specs.declared.shows.Shows.{Shows}
use Rattle.order_classes.specs.declared.letters.Sign.{Sign}
use Rattle.order_classes.specs.declared.letters.Sign.TheVariants as sign
use Rattle.order_classes.specs.declared.letters.Test.{Test}
use Rattle.order_classes.specs.declared.letters.Test.TheVariants as the
use Rattle.order_classes.specs.declared.letters.Filter.{Filter}
use Rattle.order_classes.specs.Letters.{is_wait, is_deadlock, is_other_error, is_unsent, letter_w, letter_d, letter_e, letter_n, letter_s, tells_to}
use Rattle.order_classes.specs.Letters.{IsR}

-- the events that a letter tells of
abbrev pub is_sign : Sign → Event → Bool
is_sign sign.Wait = is_wait
is_sign sign.Deadlock = is_deadlock
is_sign sign.Error = is_other_error
is_sign sign.Unsent = is_unsent

-- the session, or some session where none is named, loses a deadlock
abbrev pub loses : Option ℕ → Shows → Bool
loses None s = letter_d s
loses (Some i) s = tells_to i is_deadlock s

-- what is shown passes, where it is known whether it is an anomaly
abbrev pub passes_test : Bool → Test → Shows → Bool
passes_test odd the.Waits s = letter_w s
passes_test odd (the.Deadlock session) s = loses session s
passes_test odd the.Error s = letter_e s
passes_test odd the.Unsent s = letter_n s
passes_test odd the.Stuck s = letter_s s
passes_test odd the.NotSerial s = odd

abbrev pub passes_filter : Bool → Filter → Shows → Bool
passes_filter odd f s = cond f.wanted (passes_test odd f.test s) (not (passes_test odd f.test s))

abbrev pub pass_all : Bool → List Filter → Shows → Bool
pass_all odd fs s = list_all (λ f. passes_filter odd f s) fs

-- what is shown passes all filters; what is not told of R holds of nothing
abbrev pub Passes : List Table → Spec → List Filter → Shows → Type 0
Passes tables spec filters s = (r : Option Bool) × IsR tables spec s r × (pass_all (unwrap_or r false) filters s ≡ true)
