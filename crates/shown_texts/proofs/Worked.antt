-- Pages and their parts, by hand.
use Rattle.std.specs.Prelude.{map, ◌≡◌, refl, ℕ, List, [], ◌∷◌, ◌++◌, Some, None, codes, pos, flat_map}
use Rattle.std.specs.Fmt.{digits}
use Rattle.std.specs.Str.{chars}
use Rattle.std.specs.Char.{encode_utf8}
use Rattle.lock_modes.specs.declared.mode.Mode.TheVariants.{IntentExclusive, Share, ShareIntent, Exclusive}
use Rattle.lock_modes.specs.declared.resource.Resource.TheVariants.{Table, Row}
use Rattle.lock_modes.specs.declared.value.Value.TheVariants.{Int, Text}
use Rattle.lock_queues.specs.declared.reason.Reason.TheVariants.{Holds, Ahead}
use Rattle.lock_queues.specs.declared.told.Hop.{Hop}
use Rattle.lock_queues.specs.Reasons.{Want}
use Rattle.events.specs.declared.event.Fault.TheVariants.{Deadlock, Unavailable}
use Rattle.events.specs.declared.event.Event.{Event}
use Rattle.events.specs.declared.event.Event.TheVariants as event
use Rattle.bound_statements.specs.declared.statement.Level.TheVariants.{Serializable, Committed}
use Rattle.machine_model.specs.declared.status.Status.{Status}
use Rattle.machine_model.specs.declared.status.Status.TheVariants.{Outside, InBlock, Broken}
use Rattle.line_moments.specs.declared.moment.Ending.{Ending}
use Rattle.line_moments.specs.declared.moment.Ending.TheVariants.{Ended, Awaits, Loses, Lacks}
use Rattle.line_moments.specs.declared.moment.Manner.{Manner}
use Rattle.line_moments.specs.declared.moment.Manner.TheVariants.{IsSent, IsResumed, IsNotSent}
use Rattle.line_moments.specs.declared.moment.Moment.{Moment}
use Rattle.line_moments.specs.declared.shown.Standing.TheVariants.{IsOpen, StillWaits}
use Rattle.shown_texts.specs.Characters.{shown_text}
use Rattle.shown_texts.specs.Names.{shortened}
use Rattle.shown_texts.specs.Breaking.{broken}
use Rattle.shown_texts.specs.Lanes.{own_notes, want_notes}
use Rattle.shown_texts.specs.Levels.{level_text}
use Rattle.shown_texts.specs.Pages.{Page, page_bytes}
use Rattle.shown_texts.specs.declared.frame.Frame.{Frame}
use Rattle.shown_texts.specs.declared.lane.Cell.{Cell}

-- a line feed, an escape and a mark of direction are shown by their numbers, and an accent as it is
hidden : shown_text (97 ∷ 10 ∷ 27 ∷ 195 ∷ 169 ∷ 226 ∷ 128 ∷ 174 ∷ []) ≡ codes "a\\u{a}\\u{1b}" ++ (233 ∷ codes "\\u{202e}")
unfolding chars
hidden = refl

-- names that are the same when they are cut have their numbers behind them
shortened_names : shortened 7 (codes "take_from_one" ∷ codes "look" ∷ codes "take_from_two" ∷ []) ≡ codes "take~#0" ∷ codes "look" ∷ codes "take~#2" ∷ []
unfolding digits
shortened_names = refl

-- a blank may stand behind the last column
broken_lines : broken 12 2 4 (codes "wants SIX on account") ≡ codes "  wants SIX " ∷ codes "    on " ∷ codes "    account" ∷ []
broken_lines = refl

-- of many blanks the first one alone does
many_blanks : broken 5 0 2 (codes "abcde   f") ≡ codes "abcde " ∷ codes "    f" ∷ []
many_blanks = refl

-- ---- levels

one_has_no_effect : level_text None (6 ∷ []) ≡ codes "locking: strict two-phase locking; isolation level (line 6) has no effect" ∷ []
unfolding digits
one_has_no_effect = refl

no_level : level_text None [] ≡ []
no_level = refl

committed_alone : level_text (Some Committed) [] ≡ codes "isolation level: READ COMMITTED" ∷ []
committed_alone = refl

committed_but_for_one : level_text (Some Committed) (8 ∷ []) ≡ codes "isolation level: READ COMMITTED; SERIALIZABLE (line 8)" ∷ []
unfolding digits
committed_but_for_one = refl

committed_but_for_two : level_text (Some Committed) (8 ∷ 10 ∷ []) ≡ codes "isolation level: READ COMMITTED; SERIALIZABLE (lines 8, 10)" ∷ []
unfolding digits
committed_but_for_two = refl

serializable_alone : level_text (Some Serializable) [] ≡ codes "isolation level: SERIALIZABLE" ∷ []
serializable_alone = refl

serializable_but_for_one : level_text (Some Serializable) (7 ∷ []) ≡ codes "isolation level: SERIALIZABLE; READ COMMITTED (line 7)" ∷ []
unfolding digits
serializable_but_for_one = refl

-- ---- the notes of a lane

abbrev small_frame : Frame
small_frame = record {
  names = codes "a" ∷ codes "b" ∷ [];
  whole = codes "a" ∷ codes "b" ∷ [];
  tables = codes "t" ∷ codes "doctor" ∷ [];
  steps = [];
  left = 3;
  column = 38;
}

abbrev beside_rail : Cell → List ℕ
beside_rail c = c.rail ∷ 32 ∷ c.text

-- a request that refuses to wait
lacks : map beside_rail (own_notes small_frame [] (record {
  session = 1;
  manner = IsSent;
  step = Some 0;
  events = event.Sent 0 ∷ event.Failed Unavailable ∷ [];
  changes = [];
  status = Broken;
  ending = Lacks (record {
    resource = Row 0 (Text (codes "it's"));
    mode = Exclusive;
    asked = Exclusive;
    has = None;
    edges = record { session = 0; reason = Holds Share } ∷ [];
  });
  still = [];
  stale = [];
}))
    ≡ codes "! error: lock not available" ∷ codes "!   wants X on t['it''s']" ∷ codes "!   a holds S" ∷ []
unfolding chars
lacks = refl

-- a conversion to the mode that covers what is held and what is asked, behind a wait
converts : map beside_rail (want_notes small_frame 58 [] (record {
  resource = Table 1;
  mode = ShareIntent;
  asked = IntentExclusive;
  has = Some Share;
  edges = record { session = 0; reason = Ahead Exclusive } ∷ [];
}))
    ≡ codes ":   wants SIX on doctor: has S and " ∷ codes ":     asks IX" ∷ codes ":   a is ahead, for X" ∷ []
converts = refl

-- a step without statements in a failed block
nothing_told : map beside_rail (own_notes small_frame [] (record {
  session = 1;
  manner = IsSent;
  step = Some 0;
  events = event.Sent 0 ∷ event.Done ∷ [];
  changes = [];
  status = Broken;
  ending = Ended;
  still = [];
  stale = [];
}))
    ≡ codes "! done" ∷ []
nothing_told = refl

-- ---- a session that skips a step, and one that loses a deadlock and waits at the end

-- in a block
abbrev in_block : Status
in_block = InBlock Serializable

abbrev moment : ℕ → Manner → ℕ → List Event → Status → Ending → Moment
moment session manner step events status ending =
    record { session = session; manner = manner; step = Some step; events = events; changes = []; status = status; ending = ending; still = []; stale = [] }

abbrev wants_two : Want
wants_two = record {
  resource = Row 0 (Int (pos 2));
  mode = Exclusive;
  asked = Exclusive;
  has = None;
  edges = record { session = 1; reason = Holds Exclusive } ∷ [];
}

abbrev wants_table : Want
wants_table = record {
  resource = Table 0;
  mode = Share;
  asked = Share;
  has = None;
  edges = record { session = 0; reason = Holds IntentExclusive } ∷ [];
}

abbrev ring : List Hop
ring =
    record { session = 1; resource = Row 0 (Int (pos 1)); mode = Exclusive; edge = record { session = 0; reason = Holds Exclusive } }
    ∷ record { session = 0; resource = Row 0 (Int (pos 2)); mode = Exclusive; edge = record { session = 1; reason = Holds Exclusive } } ∷ []

abbrev deadlock : Page
deadlock = record {
  path = codes "deadlock.spec";
  rank = 4;
  orders = 20;
  sessions = codes "a" ∷ codes "b" ∷ [];
  steps = codes "a1" ∷ codes "a2" ∷ codes "a3" ∷ codes "b1" ∷ codes "b2" ∷ codes "b3" ∷ [];
  statements =
      codes "UPDATE t SET v = v + 1 WHERE id = 1;" ∷ codes "UPDATE t SET v = v + 1 WHERE id = 2;" ∷ codes "COMMIT;"
      ∷ codes "UPDATE t SET v = v * 2 WHERE id = 2;" ∷ codes "UPDATE t SET v = v * 2 WHERE id = 1;" ∷ codes "COMMIT; SELECT * FROM t;" ∷ [];
  level = None;
  other_lines = 8 ∷ 14 ∷ [];
  shown = record {
    begun = record { status = in_block; locks = [] } ∷ record { status = in_block; locks = [] } ∷ [];
    first = [];
    moments =
        moment 0 IsSent 0 (event.Sent 0 ∷ event.Updated 1 ∷ event.Done ∷ []) in_block Ended
        ∷ moment 1 IsSent 3 (event.Sent 3 ∷ event.Updated 1 ∷ event.Done ∷ []) in_block Ended
        ∷ moment 0 IsSent 1 (event.Sent 1 ∷ event.Waiting ∷ []) in_block (Awaits wants_two)
        ∷ moment 0 IsNotSent 2 (event.NotSent 2 ∷ []) in_block (Awaits wants_two)
        ∷ moment 1 IsSent 4 (event.Sent 4 ∷ event.Failed Deadlock ∷ event.Done ∷ []) Broken (Loses ring)
        ∷ moment 0 IsResumed 1 (event.Resumed ∷ event.Updated 1 ∷ event.Done ∷ []) in_block Ended
        ∷ moment 1 IsSent 5 (event.Sent 5 ∷ event.RolledBack ∷ event.Waiting ∷ []) Outside (Awaits wants_table) ∷ [];
    left =
        record {
          table = record { name = codes "t"; columns = []; key = None };
          rows = (Int (pos 1), Int (pos 1) ∷ Int (pos 10) ∷ []) ∷ (Int (pos 2), Int (pos 2) ∷ Int (pos 20) ∷ []) ∷ [];
        } ∷ [];
    standings = IsOpen ∷ StillWaits wants_table ∷ [];
  };
}

abbrev line : List ℕ → List ℕ
line text = text ++ codes "\n"

deadlock_page : page_bytes deadlock ≡ flat_map line (
    codes "deadlock.spec: rank 4 of 20"
    ∷ codes "locking: strict two-phase locking; isolation levels (lines 8, 14) have no effect"
    ∷ codes "a1 b1 a2: a3- b2! b3:"
    ∷ codes ""
    ∷ codes "      a                                     b"
    ∷ codes "a1  | updated 1                           |"
    ∷ codes "b1  |                                     | updated 1"
    ∷ codes "a2  : waiting                             |"
    ∷ codes "    :   wants X on t[2]                   |"
    ∷ codes "    :   b holds X                         |"
    ∷ codes "a3  : not sent a3                         |"
    ∷ codes "    :   still wants X on t[2]             |"
    ∷ codes "    :   b holds X                         |"
    ∷ codes "b2  :                                     ! error: deadlock"
    ∷ codes "    :                                     !   ring b > a > b"
    ∷ codes "    :                                     !   b wants X on t[1]: a holds X"
    ∷ codes "    :                                     !   a wants X on t[2]: b holds X"
    ∷ codes "    | resumed                             !"
    ∷ codes "    | updated 1                           !"
    ∷ codes "b3  |                                     | rolled back"
    ∷ codes "    |                                     : waiting"
    ∷ codes "    |                                     :   wants S on t"
    ∷ codes "    |                                     :   a holds IX"
    ∷ codes ""
    ∷ codes "b still waits at the end: wants S on t, a holds IX"
    ∷ codes ""
    ∷ codes "left in t"
    ∷ codes "  1|10"
    ∷ codes "  2|20"
    ∷ codes "a is in a transaction"
    ∷ codes "b waits"
    ∷ codes ""
    ∷ codes "| in a transaction   : waits   ! failed, up to the end of its block"
    ∷ codes ""
    ∷ codes "a1  UPDATE t SET v = v + 1 WHERE id = 1;"
    ∷ codes "a2  UPDATE t SET v = v + 1 WHERE id = 2;"
    ∷ codes "a3  COMMIT;"
    ∷ codes "b1  UPDATE t SET v = v * 2 WHERE id = 2;"
    ∷ codes "b2  UPDATE t SET v = v * 2 WHERE id = 1;"
    ∷ codes "b3  COMMIT; SELECT * FROM t;" ∷ [])
unfolding chars digits encode_utf8
deadlock_page = refl
