-- Pages of classes and their parts, by hand.
use Rattle.std.specs.Prelude.{◌≡◌, refl, ℕ, pos, negsuc, true, false, List, [], ◌∷◌, ◌++◌, Some, None, codes, flat_map, map}
use Rattle.std.specs.Fmt.{digits}
use Rattle.std.specs.Str.{chars}
use Rattle.std.specs.Char.{encode_utf8}
use Rattle.lock_modes.specs.declared.value.Value.{Value}
use Rattle.lock_modes.specs.declared.value.Value.TheVariants.{Int, Text}
use Rattle.binding_model.specs.declared.tables.Table.{Table}
use Rattle.bound_statements.specs.declared.statement.Level.{Level}
use Rattle.bound_statements.specs.declared.statement.Level.TheVariants.{Serializable, Committed}
use Rattle.events.specs.declared.event.Fault.TheVariants.{Deadlock, Duplicate, OutOfRange}
use Rattle.events.specs.declared.event.Event.{Event}
use Rattle.events.specs.declared.event.Event.TheVariants as event
use Rattle.order_classes.specs.declared.rows.ClassRow.{ClassRow}
use Rattle.order_classes.specs.declared.rows.Letters.{Letters}
use Rattle.order_classes.specs.declared.rows.Total.{Total}
use Rattle.order_classes.specs.declared.rows.Totals.{Totals}
use Rattle.order_classes.specs.declared.shows.Rest.{Rest}
use Rattle.order_classes.specs.declared.shows.Rest.TheVariants.{HasEnded, IsOpen, HasFailed, StillWaits}
use Rattle.shown_texts.specs.Pages.{line_bytes}
use Rattle.class_texts.specs.Beneath.{left_lines, margin, seen_text}
use Rattle.class_texts.specs.Counted.{number_text}
use Rattle.class_texts.specs.Expected.{expected_lines, meets}
use Rattle.class_texts.specs.Levels.{Side, head_lines as lines_of_levels, levels_bytes, totals_lines as totals_of_levels}
use Rattle.class_texts.specs.Orders.{step_word, step_words}
use Rattle.class_texts.specs.Pages.{Page, head_lines as lines_of_head, interval_text, missing_text, page_bytes, share_text}
use Rattle.class_texts.specs.Records.{head_lines as lines_of_record, level_line}
use Rattle.class_texts.specs.declared.kind.ClassKind.TheVariants.{Shows, Answers, Outcomes}

-- ---- numbers

numbers : map number_text (0 ∷ 999 ∷ 1000 ∷ 63063000 ∷ 1204118 ∷ []) ≡ codes "0" ∷ codes "999" ∷ codes "1,000" ∷ codes "63,063,000" ∷ codes "1,204,118" ∷ []
unfolding digits
numbers = refl

-- a half is rounded up, and what is there and rounds to nothing is told
shares : share_text 6 1 ∷ share_text 12 10 ∷ share_text 2000 1 ∷ share_text 2001 1 ∷ share_text 34650 0 ∷ share_text 6 6 ∷ share_text 0 0 ∷ []
    ≡ codes "16.7%" ∷ codes "83.3%" ∷ codes "0.1%" ∷ codes "<0.1%" ∷ codes "0.0%" ∷ codes "100.0%" ∷ codes "0.0%" ∷ []
unfolding digits
shares = refl

-- ---- marks

abbrev sends : ℕ → List Event
sends k = event.Sent k ∷ event.Done ∷ []

-- a session that waits in its second step, skips its third one, and loses a deadlock when it goes on; another that fails in its second step and waits in its
-- last one
abbrev told : List (List Event)
told =
    (event.Sent 0 ∷ event.Updated 1 ∷ event.Done ∷ event.Sent 1 ∷ event.Waiting ∷ event.NotSent 2 ∷ event.Resumed ∷ event.Failed Deadlock ∷ event.Done ∷ [])
    ∷ (event.Sent 3 ∷ event.Done ∷ event.Sent 4 ∷ event.Failed Duplicate ∷ event.Done ∷ event.Sent 5 ∷ event.RolledBack ∷ event.Waiting ∷ []) ∷ []

abbrev names : List (List ℕ)
names = codes "a1" ∷ codes "a2" ∷ codes "a3" ∷ codes "b1" ∷ codes "take the first of all" ∷ codes "take_the_very_last_of_them" ∷ []

-- a step of which nobody is told has no mark, and one without a name has none
words : map (step_word names told []) (0 ∷ 1 ∷ 2 ∷ 3 ∷ 4 ∷ 5 ∷ 6 ∷ [])
    ≡ codes "a1" ∷ codes "a2:!" ∷ codes "a3-" ∷ codes "b1" ∷ codes "\"take the first of all\"!" ∷ codes "take_the_very_last_of_t~:" ∷ codes "\"\"" ∷ []
unfolding chars
words = refl

-- a step that a permutation line has three times: it is sent, skipped while its session waits, and fails
abbrev again : List (List Event)
again =
    (event.Sent 0 ∷ event.Done ∷ event.Sent 1 ∷ event.Waiting ∷ event.NotSent 0 ∷ event.Resumed ∷ event.Done ∷ event.Sent 0 ∷ event.Failed Duplicate
    ∷ event.Done ∷ []) ∷ []

turns : step_words names again (0 ∷ 1 ∷ 0 ∷ 0 ∷ []) 0 (0 ∷ 1 ∷ 0 ∷ 0 ∷ []) ≡ codes "a1" ∷ codes "a2:" ∷ codes "a1-" ∷ codes "a1!" ∷ []
unfolding chars
turns = refl

-- ---- a page of a spec without blocks

abbrev total : ℕ → ℕ → Total
total orders classes = record { orders = orders; classes = classes }

abbrev nothing : Letters
nothing = record { waits = false; deadlock = false; error = false; unsent = false; stuck = false; not_serial = Some false }

abbrev not_serial : Letters
not_serial = record { waits = false; deadlock = false; error = false; unsent = false; stuck = false; not_serial = Some true }

abbrev row : ℕ → ℕ → Letters → List ℕ → List (List Event) → ClassRow
row least count letters line told =
    record { least = least; count = count; letters = letters; line = record { items = line }; shows = record { told = told; left = []; rests = [] } }

abbrev two_each : List (List Event)
two_each = (sends 0 ++ sends 1) ∷ (sends 2 ++ sends 3) ∷ []

abbrev without_blocks : Page
without_blocks = record {
  path = codes "lost_update_without_blocks.spec";
  orders = 6;
  all_orders = false;
  sample = None;
  sessions = codes "a" ∷ codes "b" ∷ [];
  steps = codes "a1" ∷ codes "a2" ∷ codes "b1" ∷ codes "b2" ∷ [];
  tables = [];
  by = Shows;
  is_filtered = false;
  filters = [];
  missing = None;
  level = None;
  other_lines = [];
  expectations = [];
  totals = record {
    all = total 6 3;
    waits = total 0 0;
    deadlock = total 0 0;
    error = total 0 0;
    unsent = total 0 0;
    stuck = total 0 0;
    not_serial = Some (total 4 1);
  };
  rows =
      row 0 1 nothing (0 ∷ 1 ∷ 2 ∷ 3 ∷ []) two_each ∷ row 1 4 not_serial (0 ∷ 2 ∷ 1 ∷ 3 ∷ []) two_each ∷ row 5 1 nothing (2 ∷ 3 ∷ 0 ∷ 1 ∷ []) two_each ∷ [];
  is_brief = false;
  with_ranks = false;
  ranks = [];
  with_outcomes = false;
  with_left = false;
  looks = [];
}

abbrev line : List ℕ → List ℕ
line text = text ++ codes "\n"

without_blocks_page : page_bytes without_blocks ≡ flat_map line (
    codes "lost_update_without_blocks.spec: 6 orders in 3 classes"
    ∷ codes ""
    ∷ codes "      orders  share  classes"
    ∷ codes "  W        0   0.0%        0  a session waits"
    ∷ codes "  D        0   0.0%        0  a session is the victim of a deadlock"
    ∷ codes "  E        0   0.0%        0  another error"
    ∷ codes "  S        0   0.0%        0  a session waits for ever"
    ∷ codes "  R        4  66.7%        1  anomaly: no error, yet no serial order gives this result"
    ∷ codes ""
    ∷ codes "class  orders  share  WDESR  rank  first order"
    ∷ codes "    1       1  16.7%  .....     0  a1 a2 b1 b2"
    ∷ codes "    2       4  66.7%  ....R     1  a1 b1 a2 b2"
    ∷ codes "    3       1  16.7%  .....     5  b1 b2 a1 a2" ∷ [])
unfolding chars digits encode_utf8 margin
without_blocks_page = refl

-- ---- all permutations, by filters, of a spec with levels, with what a session is told

abbrev losing : Letters
losing = record { waits = true; deadlock = true; error = false; unsent = true; stuck = true; not_serial = Some false }

abbrev of_all : Page
of_all = record without_blocks {
  path = codes "levels.spec";
  orders = 1204118;
  all_orders = true;
  steps = codes "a1" ∷ codes "a2" ∷ codes "a3" ∷ codes "b1" ∷ codes "b2" ∷ codes "b3" ∷ [];
  is_filtered = true;
  filters = codes "--deadlock=a --no-error";
  level = None;
  other_lines = 8 ∷ 14 ∷ [];
  totals = record {
    all = total 12000 1;
    waits = total 12000 1;
    deadlock = total 12000 1;
    error = total 0 0;
    unsent = total 12000 1;
    stuck = total 12000 1;
    not_serial = Some (total 0 0);
  };
  rows = row 1204 12000 losing (0 ∷ 3 ∷ 1 ∷ 2 ∷ 4 ∷ 5 ∷ []) told ∷ [];
  with_outcomes = true;
}

of_all_page : page_bytes of_all ≡ flat_map line (
    codes "levels.spec: 12,000 of 1,204,118 orders in 1 class (all permutations; 12,000 contain a step that is not sent; --deadlock=a --no-error)"
    ∷ codes "locking: strict two-phase locking; isolation levels (lines 8, 14) have no effect"
    ∷ codes ""
    ∷ codes "      orders   share  classes"
    ∷ codes "  W   12,000  100.0%        1  a session waits"
    ∷ codes "  D   12,000  100.0%        1  a session is the victim of a deadlock"
    ∷ codes "  E        0    0.0%        0  another error"
    ∷ codes "  N   12,000  100.0%        1  a step is not sent: its session waits"
    ∷ codes "  S   12,000  100.0%        1  a session waits for ever"
    ∷ codes "  R        0    0.0%        0  anomaly: no error, yet no serial order gives this result"
    ∷ codes ""
    ∷ codes "class  orders   share  WDENSR  rank  first order"
    ∷ codes "    1  12,000  100.0%  WD.NS.  1204  a1 b1 a2:! a3- b2! b3:"
    ∷ codes "          session a"
    ∷ codes "            step a1"
    ∷ codes "            updated 1"
    ∷ codes "            done"
    ∷ codes "            step a2"
    ∷ codes "            waiting"
    ∷ codes "            not sent a3"
    ∷ codes "            resumed"
    ∷ codes "            error: deadlock"
    ∷ codes "            done"
    ∷ codes "          session b"
    ∷ codes "            step b1"
    ∷ codes "            done"
    ∷ codes "            step b2"
    ∷ codes "            error: duplicate key"
    ∷ codes "            done"
    ∷ codes "            step b3"
    ∷ codes "            rolled back"
    ∷ codes "            waiting"
    ∷ codes ""
    ∷ codes "a2: waits   a2! fails   a3- is not sent" ∷ [])
unfolding chars digits encode_utf8 margin
of_all_page = refl

-- ---- levels that are asked for

-- no line has another level
committed_head : lines_of_head (record without_blocks { level = Some Committed })
    ≡ codes "lost_update_without_blocks.spec: 6 orders in 3 classes" ∷ codes "isolation level: READ COMMITTED" ∷ []
unfolding chars digits
committed_head = refl

committed_but_for_two : lines_of_head (record without_blocks { level = Some Committed; other_lines = 8 ∷ 10 ∷ [] })
    ≡ codes "lost_update_without_blocks.spec: 6 orders in 3 classes" ∷ codes "isolation level: READ COMMITTED; SERIALIZABLE (lines 8, 10)" ∷ []
unfolding chars digits
committed_but_for_two = refl

serializable_but_for_one : lines_of_head (record without_blocks { level = Some Serializable; other_lines = 7 ∷ [] })
    ≡ codes "lost_update_without_blocks.spec: 6 orders in 3 classes" ∷ codes "isolation level: SERIALIZABLE; READ COMMITTED (line 7)" ∷ []
unfolding chars digits
serializable_but_for_one = refl

-- ---- both levels

abbrev of_six : Level → Totals → Side
of_six level totals = record { level = Some level; other_lines = []; totals = totals }

abbrev at_serializable : Side
at_serializable =
    of_six Serializable (record {
      all = total 6 4;
      waits = total 4 2;
      deadlock = total 4 2;
      error = total 0 0;
      unsent = total 2 1;
      stuck = total 0 0;
      not_serial = Some (total 0 0);
    })

abbrev at_committed : Side
at_committed = of_six Committed without_blocks.totals

-- the results of READ COMMITTED that SERIALIZABLE has not
abbrev only_committed : Page
only_committed = record without_blocks { path = codes "write_skew.spec"; by = Answers; rows = row 1 4 not_serial (0 ∷ 2 ∷ 1 ∷ 3 ∷ []) two_each ∷ [] }

both_levels : levels_bytes at_serializable at_committed 3 only_committed ≡ flat_map line (
    codes "write_skew.spec: 6 orders in 4 classes at SERIALIZABLE, 6 orders in 3 classes at READ COMMITTED"
    ∷ codes ""
    ∷ codes "      SERIALIZABLE            READ COMMITTED"
    ∷ codes "      orders  share  classes  orders  share  classes"
    ∷ codes "  W        4  66.7%        2       0   0.0%        0  a session waits"
    ∷ codes "  D        4  66.7%        2       0   0.0%        0  a session is the victim of a deadlock"
    ∷ codes "  E        0   0.0%        0       0   0.0%        0  another error"
    ∷ codes "  S        0   0.0%        0       0   0.0%        0  a session waits for ever"
    ∷ codes "  R        0   0.0%        0       4  66.7%        1  anomaly: no error, yet no serial order gives this result"
    ∷ codes ""
    ∷ codes "only at READ COMMITTED: 1 of 3 results"
    ∷ codes ""
    ∷ codes "result  orders  share  DESR  rank  first order"
    ∷ codes "     1       4  66.7%  ...R     1  a1 b1 a2 b2" ∷ [])
unfolding chars digits encode_utf8 margin
both_levels = refl

-- lines of the file name a level of their own
heads_of_levels : lines_of_levels (codes "x") (record at_serializable { other_lines = 9 ∷ 12 ∷ [] }) (record at_committed { other_lines = 7 ∷ [] })
    ≡ codes "x: 6 orders in 4 classes at SERIALIZABLE, 6 orders in 3 classes at READ COMMITTED" ∷ codes "isolation level: SERIALIZABLE; READ COMMITTED (lines 9, 12)"
    ∷ codes "isolation level: READ COMMITTED; SERIALIZABLE (line 7)" ∷ []
unfolding chars digits
heads_of_levels = refl

-- each level has columns of its own widths, and of permutation lines R is not known
abbrev of_lines : Level → Total → Side
of_lines level all =
    of_six level (record {
      all = all;
      waits = all;
      deadlock = total 0 0;
      error = total 0 0;
      unsent = total 0 0;
      stuck = total 0 0;
      not_serial = None;
    })

totals_of_lines : flat_map line_bytes (totals_of_levels (of_lines Serializable (total 1204118 12)) (of_lines Committed (total 3 1))) ≡ flat_map line (
    codes "      SERIALIZABLE                READ COMMITTED"
    ∷ codes "         orders   share  classes  orders   share  classes"
    ∷ codes "  W   1,204,118  100.0%       12       3  100.0%        1  a session waits"
    ∷ codes "  D           0    0.0%        0       0    0.0%        0  a session is the victim of a deadlock"
    ∷ codes "  E           0    0.0%        0       0    0.0%        0  another error"
    ∷ codes "  S           0    0.0%        0       0    0.0%        0  a session waits for ever"
    ∷ codes "  R           -       -        -       -       -        -  anomaly: not known for permutation lines" ∷ [])
unfolding chars digits encode_utf8
totals_of_lines = refl

-- ---- the heads of records

record_head : lines_of_record (record without_blocks { level = Some Committed; other_lines = 8 ∷ 10 ∷ [] })
    ≡ codes "isofarm record 1" ∷ codes "spec lost_update_without_blocks.spec" ∷ codes "level read-committed" ∷ codes "orders 6"
    ∷ codes "W 0  D 0  E 0  S 0  R 4" ∷ []
unfolding chars digits
record_head = refl

level_lines : level_line (Some Serializable) [] ∷ level_line None [] ∷ level_line None (8 ∷ []) ∷ []
    ≡ codes "level serializable" ∷ codes "locking strict two-phase" ∷ codes "locking strict two-phase; isolation levels have no effect" ∷ []
level_lines = refl

-- ---- results, of a spec with permutation lines

abbrev lined : Page
lined = record of_all {
  path = codes "lines.spec";
  orders = 1;
  by = Answers;
  filters = [];
  is_filtered = false;
  level = None;
  other_lines = 3 ∷ [];
  totals = record {
    all = total 1 1;
    waits = total 1 1;
    deadlock = total 1 1;
    error = total 0 0;
    unsent = total 1 1;
    stuck = total 1 1;
    not_serial = None;
  };
  rows = row 0 1 losing (0 ∷ 3 ∷ 1 ∷ 2 ∷ 4 ∷ 5 ∷ []) told ∷ [];
  with_outcomes = false;
}

lined_page : page_bytes lined ≡ flat_map line (
    codes "lines.spec: 1 order in 1 result (1 contains a step that is not sent)"
    ∷ codes "locking: strict two-phase locking; isolation level (line 3) has no effect"
    ∷ codes ""
    ∷ codes "      orders   share  results"
    ∷ codes "  D        1  100.0%        1  a session is the victim of a deadlock"
    ∷ codes "  E        0    0.0%        0  another error"
    ∷ codes "  S        1  100.0%        1  a session waits for ever"
    ∷ codes "  R        -       -        -  anomaly: not known for permutation lines"
    ∷ codes ""
    ∷ codes "result  orders   share  DESR  rank  first order"
    ∷ codes "     1       1  100.0%  D.S.     0  a1 b1 a2:! a3- b2! b3:"
    ∷ codes ""
    ∷ codes "a2: waits   a2! fails   a3- is not sent" ∷ [])
unfolding chars digits encode_utf8 margin
lined_page = refl

-- the totals alone, and a spec of which no order is asked for
brief_page : page_bytes (record without_blocks { is_brief = true }) ≡ flat_map line (
    codes "lost_update_without_blocks.spec: 6 orders in 3 classes"
    ∷ codes ""
    ∷ codes "      orders  share  classes"
    ∷ codes "  W        0   0.0%        0  a session waits"
    ∷ codes "  D        0   0.0%        0  a session is the victim of a deadlock"
    ∷ codes "  E        0   0.0%        0  another error"
    ∷ codes "  S        0   0.0%        0  a session waits for ever"
    ∷ codes "  R        4  66.7%        1  anomaly: no error, yet no serial order gives this result" ∷ [])
unfolding chars digits encode_utf8 margin
brief_page = refl

empty_page : page_bytes (record without_blocks {
  is_filtered = true;
  filters = codes "--stuck";
  rows = [];
  totals = record {
    all = total 0 0;
    waits = total 0 0;
    deadlock = total 0 0;
    error = total 0 0;
    unsent = total 0 0;
    stuck = total 0 0;
    not_serial = Some (total 0 0);
  };
}) ≡ flat_map line (
    codes "lost_update_without_blocks.spec: 0 of 6 orders in 0 classes (--stuck)"
    ∷ codes ""
    ∷ codes "      orders  share  classes"
    ∷ codes "  W        0   0.0%        0  a session waits"
    ∷ codes "  D        0   0.0%        0  a session is the victim of a deadlock"
    ∷ codes "  E        0   0.0%        0  another error"
    ∷ codes "  S        0   0.0%        0  a session waits for ever"
    ∷ codes "  R        0   0.0%        0  anomaly: no error, yet no serial order gives this result" ∷ [])
unfolding chars digits encode_utf8 margin
empty_page = refl

-- ---- books

abbrev of_books : Page
of_books = record without_blocks {
  path = codes "2 books";
  by = Outcomes;
  is_filtered = true;
  missing = Some (record { ranks = 1; first = 4 });
  totals = record {
    all = total 5 2;
    waits = total 0 0;
    deadlock = total 0 0;
    error = total 0 0;
    unsent = total 0 0;
    stuck = total 0 0;
    not_serial = None;
  };
  rows = row 0 3 nothing (0 ∷ 1 ∷ 2 ∷ 3 ∷ []) two_each ∷ row 1 2 nothing (0 ∷ 2 ∷ 1 ∷ 3 ∷ []) two_each ∷ [];
  with_ranks = true;
  ranks = (record { first = 0; end = 1 } ∷ record { first = 2; end = 4 } ∷ []) ∷ (record { first = 1; end = 2 } ∷ record { first = 5; end = 6 } ∷ []) ∷ [];
}

books_page : page_bytes of_books ≡ flat_map line (
    codes "2 books: 5 of 6 orders in 2 classes; 1 order is missing, rank 4"
    ∷ codes "Books have no final rows: S and R are not known."
    ∷ codes ""
    ∷ codes "      orders  share  classes"
    ∷ codes "  W        0   0.0%        0  a session waits"
    ∷ codes "  D        0   0.0%        0  a session is the victim of a deadlock"
    ∷ codes "  E        0   0.0%        0  another error"
    ∷ codes "  N        0   0.0%        0  a step is not sent: its session waits"
    ∷ codes ""
    ∷ codes "class  orders  share  WDEN  rank  first order"
    ∷ codes "    1       3  60.0%  ....     0  a1 a2 b1 b2"
    ∷ codes "          ranks 0 2-3"
    ∷ codes "    2       2  40.0%  ....     1  a1 b1 a2 b2"
    ∷ codes "          ranks 1 5" ∷ [])
unfolding chars digits encode_utf8 margin
books_page = refl

missing_texts : missing_text None ∷ missing_text (Some (record { ranks = 2000; first = 3 })) ∷ []
    ≡ codes "" ∷ codes "; 2,000 orders are missing, the first of rank 3" ∷ []
unfolding digits
missing_texts = refl

-- ---- final rows, and what is expected

abbrev table : List ℕ → Table
table name = record { name = name; columns = []; key = None }

abbrev entry : List Value → Value × List Value
entry values = (Int (pos 0), values)

-- a class that leaves this number in the counter, and sessions that stand so
abbrev row_with : ℕ → ℕ → Letters → List ℕ → ℕ → List Rest → ClassRow
row_with least count letters line n rests = record {
  least = least;
  count = count;
  letters = letters;
  line = record { items = line };
  shows = record { told = two_each; left = (entry (Int (pos 1) ∷ Int (pos n) ∷ []) ∷ entry (Int (pos 2) ∷ Int (pos 7) ∷ []) ∷ []) ∷ [] ∷ []; rests = rests };
}

abbrev select_n : List ℕ
select_n = codes "SELECT n FROM counter"

abbrev one_row : ℕ → List Event
one_row n = event.Row (Int (pos n) ∷ []) ∷ event.Rows 1 ∷ []

-- two classes leave 2, and the one between them 1
abbrev with_left : Page
with_left = record without_blocks {
  tables = table (codes "counter") ∷ table (codes "log") ∷ [];
  rows =
      row_with 0 1 nothing (0 ∷ 1 ∷ 2 ∷ 3 ∷ []) 2 (HasEnded ∷ HasEnded ∷ [])
      ∷ row_with 1 4 not_serial (0 ∷ 2 ∷ 1 ∷ 3 ∷ []) 1 (IsOpen ∷ HasEnded ∷ [])
      ∷ row_with 5 1 nothing (2 ∷ 3 ∷ 0 ∷ 1 ∷ []) 2 (HasFailed ∷ StillWaits ∷ [])
      ∷ [];
  with_left = true;
  expectations = record { text = select_n; values = Int (pos 2) ∷ []; seen = one_row 2 ∷ one_row 1 ∷ one_row 2 ∷ [] } ∷ [];
  looks = record { text = select_n; seen = one_row 2 ∷ one_row 1 ∷ one_row 2 ∷ [] } ∷ [];
}

with_left_page : page_bytes with_left ≡ flat_map line (
    codes "lost_update_without_blocks.spec: 6 orders in 3 classes"
    ∷ codes ""
    ∷ codes "expect SELECT n FROM counter = 2"
    ∷ codes "  FAILED in 4 of 6 orders"
    ∷ codes "  first: a1 b1 a2 b2    (rank 1)"
    ∷ codes "  found: 1"
    ∷ codes ""
    ∷ codes "      orders  share  classes"
    ∷ codes "  W        0   0.0%        0  a session waits"
    ∷ codes "  D        0   0.0%        0  a session is the victim of a deadlock"
    ∷ codes "  E        0   0.0%        0  another error"
    ∷ codes "  S        0   0.0%        0  a session waits for ever"
    ∷ codes "  R        4  66.7%        1  anomaly: no error, yet no serial order gives this result"
    ∷ codes ""
    ∷ codes "class  orders  share  WDESR  rank  first order"
    ∷ codes "    1       1  16.7%  .....     0  a1 a2 b1 b2"
    ∷ codes "          counter: 1|2, 2|7"
    ∷ codes "          log: no row"
    ∷ codes "          query SELECT n FROM counter: 2"
    ∷ codes "    2       4  66.7%  ....R     1  a1 b1 a2 b2"
    ∷ codes "          counter: 1|1, 2|7"
    ∷ codes "          log: no row"
    ∷ codes "          a is in a transaction"
    ∷ codes "          query SELECT n FROM counter: 1"
    ∷ codes "    3       1  16.7%  .....     5  b1 b2 a1 a2"
    ∷ codes "          counter: 1|2, 2|7"
    ∷ codes "          log: no row"
    ∷ codes "          a is in a failed block"
    ∷ codes "          b waits"
    ∷ codes "          query SELECT n FROM counter: 2" ∷ [])
unfolding chars digits encode_utf8 margin
with_left_page = refl

-- how sessions stand is no part of a result
left_answers : left_lines Answers (table (codes "log") ∷ []) (codes "a" ∷ []) (record { told = []; left = [] ∷ []; rests = IsOpen ∷ [] })
    ≡ codes "          log: no row" ∷ []
unfolding chars margin
left_answers = refl

seen : map (seen_text []) ((event.Rows 0 ∷ []) ∷ (event.Failed OutOfRange ∷ []) ∷ (event.Row (Int (pos 1) ∷ []) ∷ event.Row (Text (codes "it's") ∷ []) ∷ event.Rows 2 ∷ []) ∷ [])
    ≡ codes "no row" ∷ codes "error: integer out of range" ∷ codes "1, 'it''s'" ∷ []
unfolding chars digits
seen = refl

-- two rows are not one, nor is none, an error, or a row of other values
met : map (meets (Int (pos 2) ∷ Text (codes "it's") ∷ [])) (
    (event.Row (Int (pos 2) ∷ Text (codes "it's") ∷ []) ∷ event.Rows 1 ∷ [])
    ∷ (event.Row (Int (pos 2) ∷ Text (codes "it") ∷ []) ∷ event.Rows 1 ∷ [])
    ∷ (event.Row (Int (pos 2) ∷ []) ∷ event.Rows 1 ∷ [])
    ∷ (event.Row (Int (pos 2) ∷ Text (codes "it's") ∷ []) ∷ event.Row (Int (pos 2) ∷ Text (codes "it's") ∷ []) ∷ event.Rows 2 ∷ [])
    ∷ (event.Rows 0 ∷ [])
    ∷ (event.Failed OutOfRange ∷ [])
    ∷ [] ∷ [])
    ≡ true ∷ false ∷ false ∷ false ∷ false ∷ false ∷ false ∷ []
met = refl

-- an expectation that is met by all, whose texts are quoted
met_by_all : expected_lines [] false 1 (row 0 1 nothing [] [] ∷ []) (record {
  text = codes "SELECT name FROM t";
  values = Text (codes "it's") ∷ Int (negsuc 4) ∷ [];
  seen = (event.Row (Text (codes "it's") ∷ Int (negsuc 4) ∷ []) ∷ event.Rows 1 ∷ []) ∷ [];
})
    ≡ codes "expect SELECT name FROM t = 'it''s', -5: holds in 1 of 1 order" ∷ []
unfolding chars digits
met_by_all = refl

-- and one by none: several rows are seen
met_by_none : expected_lines (codes "a1" ∷ []) false 1000 (row 0 1000 nothing (0 ∷ []) [] ∷ []) (record {
  text = codes "SELECT name FROM t";
  values = Int (negsuc 4) ∷ [];
  seen = (event.Row (Int (negsuc 4) ∷ []) ∷ event.Row (Int (negsuc 5) ∷ []) ∷ event.Rows 2 ∷ []) ∷ [];
})
    ≡ codes "expect SELECT name FROM t = -5" ∷ codes "  FAILED in 1,000 of 1,000 orders" ∷ codes "  first: a1    (rank 0)" ∷ codes "  found: 2 rows, first -5" ∷ []
unfolding chars digits
met_by_none = refl

-- and one against which no order of a sample speaks
not_countered : expected_lines [] true 1000 (row 0 1000 nothing [] [] ∷ []) (record {
  text = codes "SELECT name FROM t";
  values = Text (codes "it's") ∷ [];
  seen = (event.Row (Text (codes "it's") ∷ []) ∷ event.Rows 1 ∷ []) ∷ [];
})
    ≡ codes "expect SELECT name FROM t = 'it''s': no counterexample in 1,000 orders" ∷ []
unfolding chars digits
not_countered = refl

-- ---- Wilson's intervals

-- of 4 orders 1 is seen: 0.0456 to 0.6994; of 10 none: 0 to 0.2775; of 2 both: 0.3424 to 1
intervals : interval_text 4 1 ∷ interval_text 10 0 ∷ interval_text 2 2 ∷ [] ≡ codes "4.5-70.0%" ∷ codes "0.0-27.8%" ∷ codes "34.2-100.0%" ∷ []
unfolding digits
intervals = refl
