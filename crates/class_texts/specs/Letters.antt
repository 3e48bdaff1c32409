-- What an order may show, by a letter each.
use Rattle.std.specs.Prelude.{ℕ, Bool, true, false, cond, List, [], ◌∷◌, Option, Some, codes, flat_map, unwrap_or}
use Rattle.order_classes.specs.declared.rows.Letters.{Letters}
use Rattle.order_classes.specs.declared.rows.Total.{Total}
use Rattle.order_classes.specs.declared.rows.Totals.{Totals}
use Rattle.class_texts.specs.declared.kind.ClassKind.{ClassKind}
use Rattle.class_texts.specs.declared.kind.ClassKind.TheVariants.{Shows, Answers, Outcomes}
use Rattle.order_classes.specs.declared.rows.Grouping.{Grouping}
use Rattle.order_classes.specs.declared.rows.Grouping.TheVariants as by
use Rattle.class_texts.specs.declared.letters.Letter.{Letter}
use Rattle.class_texts.specs.declared.letters.Letter.TheVariants.{Waits, Deadlock, Error, Unsent, Stuck, NotSerial}

abbrev pub sign : Letter → List ℕ
sign Waits = codes "W"
sign Deadlock = codes "D"
sign Error = codes "E"
sign Unsent = codes "N"
sign Stuck = codes "S"
sign NotSerial = codes "R"

abbrev pub meaning : Letter → List ℕ
meaning Waits = codes "a session waits"
meaning Deadlock = codes "a session is the victim of a deadlock"
meaning Error = codes "another error"
meaning Unsent = codes "a step is not sent: its session waits"
meaning Stuck = codes "a session waits for ever"
meaning NotSerial = codes "anomaly: no error, yet no serial order gives this result"

-- the classes that orders of a spec are grouped into
abbrev pub kind_of : Grouping → ClassKind
kind_of by.Shows = Shows
kind_of by.Answers = Answers

-- the letters of classes: a step is not sent only where all permutations are counted
abbrev pub letters_of_all : Bool → List Letter
letters_of_all true = Waits ∷ Deadlock ∷ Error ∷ Unsent ∷ Stuck ∷ NotSerial ∷ []
letters_of_all false = Waits ∷ Deadlock ∷ Error ∷ Stuck ∷ NotSerial ∷ []

-- the letters that have a place, in their order, where all permutations are counted or those orders alone that clients can send: results leave waits and
-- steps that are not sent aside, and books know no final rows
abbrev pub letters_of : ClassKind → Bool → List Letter
letters_of Shows all = letters_of_all all
letters_of Answers all = Deadlock ∷ Error ∷ Stuck ∷ NotSerial ∷ []
letters_of Outcomes all = Waits ∷ Deadlock ∷ Error ∷ Unsent ∷ []

-- none of R where the spec has permutation lines
abbrev pub total_of : Totals → Letter → Option Total
total_of t Waits = Some t.waits
total_of t Deadlock = Some t.deadlock
total_of t Error = Some t.error
total_of t Unsent = Some t.unsent
total_of t Stuck = Some t.stuck
total_of t NotSerial = t.not_serial

-- what is not known is not shown
abbrev pub shows_letter : Letters → Letter → Bool
shows_letter l Waits = l.waits
shows_letter l Deadlock = l.deadlock
shows_letter l Error = l.error
shows_letter l Unsent = l.unsent
shows_letter l Stuck = l.stuck
shows_letter l NotSerial = unwrap_or l.not_serial false

-- a letter, or a dot in its place
abbrev pub sign_in : Letters → Letter → List ℕ
sign_in l letter = cond (shows_letter l letter) (sign letter) (codes ".")

abbrev pub letters_text : ClassKind → Bool → Letters → List ℕ
letters_text by all l = flat_map (sign_in l) (letters_of by all)
