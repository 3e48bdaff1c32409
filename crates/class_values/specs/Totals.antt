-- The JSON of the totals: how many orders and classes show what.
use Rattle.std.specs.Prelude.{ℕ, Bool, true, false, List, ◌++◌, Option, Some, None, codes, decimal}
use Rattle.std.specs.List.{join_by}
use Rattle.order_classes.specs.declared.rows.Total.{Total}
use Rattle.order_classes.specs.declared.rows.Totals.{Totals}
use Rattle.class_texts.specs.declared.kind.ClassKind.{ClassKind}
use Rattle.class_texts.specs.declared.kind.ClassKind.TheVariants.{Shows, Answers, Outcomes}
use Rattle.class_texts.specs.declared.letters.Letter.{Letter}
use Rattle.class_texts.specs.declared.letters.Letter.TheVariants.{Waits, Deadlock, Error, Unsent, Stuck, NotSerial}
use Rattle.class_texts.specs.Letters.{letters_of, sign, total_of}

-- answers leave waits and steps that are not sent aside
abbrev pub answered_total : Totals → Letter → Option Total
answered_total totals Waits = None
answered_total totals Deadlock = Some totals.deadlock
answered_total totals Error = Some totals.error
answered_total totals Unsent = None
answered_total totals Stuck = Some totals.stuck
answered_total totals NotSerial = totals.not_serial

-- books know no rows that are left
abbrev pub outcome_total : Totals → Letter → Option Total
outcome_total totals Waits = Some totals.waits
outcome_total totals Deadlock = Some totals.deadlock
outcome_total totals Error = Some totals.error
outcome_total totals Unsent = Some totals.unsent
outcome_total totals Stuck = None
outcome_total totals NotSerial = None

-- no step is dropped in orders that clients can send
abbrev pub sent_total : Totals → Letter → Option Total
sent_total totals Waits = Some totals.waits
sent_total totals Deadlock = Some totals.deadlock
sent_total totals Error = Some totals.error
sent_total totals Unsent = None
sent_total totals Stuck = Some totals.stuck
sent_total totals NotSerial = totals.not_serial

abbrev pub class_total : Bool → Totals → Letter → Option Total
class_total true totals letter = total_of totals letter
class_total false totals letter = sent_total totals letter

-- none of a letter that is not told
abbrev pub told_total : ClassKind → Bool → Totals → Letter → Option Total
told_total Shows all totals letter = class_total all totals letter
told_total Answers all totals letter = answered_total totals letter
told_total Outcomes all totals letter = outcome_total totals letter

-- how many orders, and how many classes
abbrev pub both_json : Total → List ℕ
both_json total = (codes "[" ++ decimal total.orders) ++ (codes "," ++ decimal total.classes) ++ codes "]"

abbrev pub total_json : Option Total → List ℕ
total_json None = codes "null"
total_json (Some total) = both_json total

-- a letter as a member
abbrev pub letter_json : ClassKind → Bool → Totals → Letter → List ℕ
letter_json by all totals letter = (codes "\"" ++ sign letter) ++ (codes "\":" ++ total_json (told_total by all totals letter))

abbrev pub totals_json : ClassKind → Bool → Totals → List ℕ
totals_json by all totals = codes "{" ++ join_by (letter_json by all totals) (codes ",") (letters_of Shows true) ++ codes "}"
