-- A page of four sessions, two of which have long names that begin alike: a reader waits behind writers, and loses a deadlock where it wants more.
use Rattle.std.specs.Prelude.{◌≡◌, refl, ℕ, List, [], ◌∷◌, ◌++◌, Some, None, codes, pos, flat_map}
use Rattle.std.specs.Fmt.{digits}
use Rattle.std.specs.Str.{chars}
use Rattle.std.specs.Char.{encode_utf8}
use Rattle.lock_modes.specs.declared.mode.Mode.{Mode}
use Rattle.lock_modes.specs.declared.mode.Mode.TheVariants.{IntentShare, IntentExclusive, Share, Exclusive}
use Rattle.lock_modes.specs.declared.resource.Resource.{Resource}
use Rattle.lock_modes.specs.declared.resource.Resource.TheVariants.{Table, Row}
use Rattle.lock_modes.specs.declared.value.Value.TheVariants.{Int}
use Rattle.lock_queues.specs.declared.reason.Edge.{Edge}
use Rattle.lock_queues.specs.declared.reason.Reason.TheVariants.{Holds}
use Rattle.lock_queues.specs.Reasons.{Want}
use Rattle.events.specs.declared.event.Event.{Event}
use Rattle.events.specs.declared.event.Event.TheVariants as event
use Rattle.events.specs.declared.event.Fault.TheVariants.{Deadlock}
use Rattle.bound_statements.specs.declared.statement.Level.TheVariants.{Serializable}
use Rattle.machine_model.specs.declared.status.Status.{Status}
use Rattle.machine_model.specs.declared.status.Status.TheVariants.{Outside, InBlock, Broken}
use Rattle.line_moments.specs.declared.moment.Ending.{Ending}
use Rattle.line_moments.specs.declared.moment.Ending.TheVariants.{Ended, Awaits, Loses}
use Rattle.line_moments.specs.declared.moment.Manner.{Manner}
use Rattle.line_moments.specs.declared.moment.Manner.TheVariants.{IsSent, IsResumed}
use Rattle.line_moments.specs.declared.moment.Moment.{Moment}
use Rattle.line_moments.specs.declared.moment.Still.{Still}
use Rattle.line_moments.specs.declared.shown.Begun.{Begun}
use Rattle.line_moments.specs.declared.shown.Standing.TheVariants.{HasEnded, HasFailed}
use Rattle.shown_texts.specs.Pages.{Page, page_bytes}

abbrev line : List ℕ → List ℕ
line text = text ++ codes "\n"

abbrev holds : ℕ → Mode → Edge
holds session mode = record { session = session; reason = Holds mode }

abbrev wants : Resource → Mode → List Edge → Want
wants resource mode edges = record { resource = resource; mode = mode; asked = mode; has = None; edges = edges }

-- in a block
abbrev in_block : Status
in_block = InBlock Serializable

abbrev moment : ℕ → Manner → ℕ → List Event → Status → Ending → List Still → Moment
moment session manner step events status ending still =
    record {
      session = session;
      manner = manner;
      step = Some step;
      events = events;
      changes = [];
      status = status;
      ending = ending;
      still = still;
      stale = [];
    }

abbrev begun : Status → Begun
begun status = record { status = status; locks = [] }

-- the first five moments: each writes or reads a row, and then both writers wait
abbrev before : List Moment
before =
    moment 0 IsSent 0 (event.Sent 0 ∷ event.Updated 1 ∷ event.Done ∷ []) in_block Ended []
    ∷ moment 1 IsSent 2 (event.Sent 2 ∷ event.Updated 1 ∷ event.Done ∷ []) in_block Ended []
    ∷ moment 2 IsSent 4 (event.Sent 4 ∷ event.Row (Int (pos 50) ∷ []) ∷ event.Rows 1 ∷ event.Done ∷ []) in_block Ended []
    ∷ moment 0 IsSent 1 (event.Sent 1 ∷ event.Waiting ∷ []) in_block (Awaits (wants (Row 0 (Int (pos 2))) Exclusive (holds 1 Exclusive ∷ []))) []
    ∷ moment 1 IsSent 3 (event.Sent 3 ∷ event.Waiting ∷ []) in_block (Awaits (wants (Row 0 (Int (pos 3))) Exclusive (holds 2 Share ∷ []))) []
    ∷ []

-- the fee waits for the whole table, the reader loses, and the others go on in turn
abbrev after : List Moment
after =
    moment 3 IsSent 6 (event.Sent 6 ∷ event.Waiting ∷ []) Outside
    (Awaits (wants (Table 0) Exclusive (holds 0 IntentExclusive ∷ holds 1 IntentExclusive ∷ holds 2 IntentShare ∷ []))) []
    ∷ moment 2 IsSent 5 (event.Sent 5 ∷ event.Failed Deadlock ∷ event.Done ∷ []) Broken
    (Loses (record { session = 2; resource = Table 0; mode = Share; edge = holds 1 IntentExclusive }
    ∷ record { session = 1; resource = Row 0 (Int (pos 3)); mode = Exclusive; edge = holds 2 Share } ∷ []))
    (record { session = 3; edges = holds 0 IntentExclusive ∷ holds 1 IntentExclusive ∷ [] } ∷ [])
    ∷ moment 1 IsResumed 3 (event.Resumed ∷ event.Updated 1 ∷ event.Committed ∷ event.Done ∷ []) Outside Ended
    (record { session = 3; edges = holds 0 IntentExclusive ∷ [] } ∷ [])
    ∷ moment 0 IsResumed 1 (event.Resumed ∷ event.Updated 1 ∷ event.Committed ∷ event.Done ∷ []) Outside Ended []
    ∷ moment 3 IsResumed 6 (event.Resumed ∷ event.Updated 3 ∷ event.Done ∷ []) Outside Ended []
    ∷ []

abbrev bank : Page
bank = record {
  path = codes "bank.spec";
  rank = 0;
  orders = 1;
  sessions = codes "transfer_from_one_to_two" ∷ codes "transfer_from_two_to_three" ∷ codes "audit" ∷ codes "fee" ∷ [];
  steps =
      codes "take_from_one_for_two" ∷ codes "give_to_two" ∷ codes "take_from_two" ∷ codes "give_to_three" ∷ codes "look" ∷ codes "sum" ∷ codes "fee" ∷ [];
  statements =
      codes "UPDATE account SET balance = balance - 10 WHERE id = 1;"
      ∷ codes "UPDATE account SET balance = balance + 10 WHERE id = 2; COMMIT;"
      ∷ codes "UPDATE account SET balance = balance - 20 WHERE id = 2;"
      ∷ codes "UPDATE account SET balance = balance + 20 WHERE id = 3; COMMIT;"
      ∷ codes "SELECT balance FROM account WHERE id = 3;"
      ∷ codes "SELECT sum(balance) FROM account; COMMIT;"
      ∷ codes "UPDATE account SET balance = balance - 1;" ∷ [];
  level = None;
  other_lines = [];
  shown = record {
    begun = begun in_block ∷ begun in_block ∷ begun in_block ∷ begun Outside ∷ [];
    first = [];
    moments = before ++ after;
    left = record {
      table = record { name = codes "account"; columns = []; key = None };
      rows =
          (Int (pos 1), Int (pos 1) ∷ Int (pos 39) ∷ []) ∷ (Int (pos 2), Int (pos 2) ∷ Int (pos 39) ∷ [])
          ∷ (Int (pos 3), Int (pos 3) ∷ Int (pos 69) ∷ []) ∷ [];
    } ∷ [];
    standings = HasEnded ∷ HasEnded ∷ HasFailed ∷ HasEnded ∷ [];
  };
}

bank_page : page_bytes bank ≡ flat_map line (
    codes "bank.spec: rank 0 of 1"
    ∷ codes "take_from_one_for_two take_from_two look give_to_two: give_to_three: fee: sum!"
    ∷ codes ""
    ∷ codes "          transfer_fro~#0   transfer_fro~#1   audit             fee"
    ∷ codes "take~#0 | updated 1       |                 |"
    ∷ codes "take~#2 |                 | updated 1       |"
    ∷ codes "look    |                 |                 | row 50"
    ∷ codes "        |                 |                 | rows 1"
    ∷ codes "give~#1 : waiting         |                 |"
    ∷ codes "        :   wants X on    |                 |"
    ∷ codes "        :     account[2]  |                 |"
    ∷ codes "        :   transf~#1     |                 |"
    ∷ codes "        :     holds X     |                 |"
    ∷ codes "give~#3 :                 : waiting         |"
    ∷ codes "        :                 :   wants X on    |"
    ∷ codes "        :                 :     account[3]  |"
    ∷ codes "        :                 :   audit holds S |"
    ∷ codes "fee     :                 :                 |                 : waiting"
    ∷ codes "        :                 :                 |                 :   wants X on"
    ∷ codes "        :                 :                 |                 :     account"
    ∷ codes "        :                 :                 |                 :   transf~#0"
    ∷ codes "        :                 :                 |                 :     holds IX"
    ∷ codes "        :                 :                 |                 :   transf~#1"
    ∷ codes "        :                 :                 |                 :     holds IX"
    ∷ codes "        :                 :                 |                 :   audit holds"
    ∷ codes "        :                 :                 |                 :     IS"
    ∷ codes "sum     :                 :                 ! error: deadlock :   now transf~#0"
    ∷ codes "        :                 :                 !   ring audit >  :     holds IX"
    ∷ codes "        :                 :                 !     transf~#1 > :   now transf~#1"
    ∷ codes "        :                 :                 !     audit       :     holds IX"
    ∷ codes "        :                 :                 !   audit wants S :"
    ∷ codes "        :                 :                 !     on account: :"
    ∷ codes "        :                 :                 !     transf~#1   :"
    ∷ codes "        :                 :                 !       holds IX  :"
    ∷ codes "        :                 :                 !   transf~#1     :"
    ∷ codes "        :                 :                 !     wants X on  :"
    ∷ codes "        :                 :                 !     account[3]: :"
    ∷ codes "        :                 :                 !     audit holds :"
    ∷ codes "        :                 :                 !       S         :"
    ∷ codes "        :                 | resumed         !                 :   now transf~#0"
    ∷ codes "        :                 | updated 1       !                 :     holds IX"
    ∷ codes "        :                 | committed       !                 :"
    ∷ codes "        | resumed                           !                 :"
    ∷ codes "        | updated 1                         !                 :"
    ∷ codes "        | committed                         !                 :"
    ∷ codes "                                            !                 | resumed"
    ∷ codes "                                            !                 | updated 3"
    ∷ codes ""
    ∷ codes "left in account"
    ∷ codes "  1|39"
    ∷ codes "  2|39"
    ∷ codes "  3|69"
    ∷ codes "audit is in a failed block"
    ∷ codes ""
    ∷ codes "| in a transaction   : waits   ! failed, up to the end of its block"
    ∷ codes ""
    ∷ codes "take_from_one_for_two  UPDATE account SET balance = balance - 10 WHERE id = 1;"
    ∷ codes "give_to_two            UPDATE account SET balance = balance + 10 WHERE id = 2; ~"
    ∷ codes "take_from_two          UPDATE account SET balance = balance - 20 WHERE id = 2;"
    ∷ codes "give_to_three          UPDATE account SET balance = balance + 20 WHERE id = 3; ~"
    ∷ codes "look                   SELECT balance FROM account WHERE id = 3;"
    ∷ codes "sum                    SELECT sum(balance) FROM account; COMMIT;"
    ∷ codes "fee                    UPDATE account SET balance = balance - 1;" ∷ [])
unfolding chars digits encode_utf8
bank_page = refl
