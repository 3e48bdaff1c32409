-- Small texts, moments and pages, computed.
use Rattle.std.specs.Prelude.{◌≡◌, refl, ℕ, [], ◌∷◌, ◌++◌, Some, None, codes, pos}
use Rattle.std.specs.Fmt.{digits}
use Rattle.json.specs.Print.{escape_byte}
use Rattle.lock_modes.specs.declared.mode.Mode.{Mode}
use Rattle.lock_modes.specs.declared.mode.Mode.TheVariants.{IntentShare, IntentExclusive, Share, ShareIntent, Exclusive}
use Rattle.lock_modes.specs.declared.resource.Resource.TheVariants.{Table as TableOf, Row as RowOf}
use Rattle.lock_modes.specs.declared.value.Value.TheVariants.{Int, Text}
use Rattle.lock_queues.specs.declared.reason.Edge.{Edge}
use Rattle.lock_queues.specs.declared.reason.Reason.TheVariants.{Holds, Ahead}
use Rattle.bound_statements.specs.declared.statement.Level.TheVariants.{Serializable, Committed}
use Rattle.machine_model.specs.declared.status.Status.TheVariants.{Outside, InBlock, Broken}
use Rattle.events.specs.declared.event.Event.TheVariants.{Sent, Row as RowEvent, Rows, Failed, Done, NotSent}
use Rattle.events.specs.declared.event.Fault.TheVariants.{Deadlock}
use Rattle.line_moments.specs.declared.moment.Change.TheVariants.{Had, LetGo}
use Rattle.line_moments.specs.declared.moment.Ending.TheVariants.{Ended, Awaits, Loses}
use Rattle.line_moments.specs.declared.moment.Manner.TheVariants.{IsSent, IsNotSent}
use Rattle.line_moments.specs.declared.shown.Left.{Left}
use Rattle.line_moments.specs.declared.shown.Standing.TheVariants.{HasEnded, IsOpen, HasFailed, StillWaits}
use Rattle.shown_values.specs.Strings.{array_json, escaped, string_json}
use Rattle.shown_values.specs.Levels.{levels_json}
use Rattle.shown_values.specs.Moments.{end_json, moment_json, want_json}
use Rattle.shown_values.specs.Page.{Sheet, left_json, open_from, open_json, page_json}

-- what would end a script, and a reference
markup : string_json (codes "</script>&amp;") ≡ codes "\"\\u003c/script\\u003e\\u0026amp;\""
unfolding escaped escape_byte
markup = refl

-- a quote, a backslash, a line feed, a control character and the one behind the last of them
controls : string_json (34 ∷ 92 ∷ 10 ∷ 27 ∷ 127 ∷ []) ≡ codes "\"\\\"\\\\\\n\\u001b" ++ 127 ∷ codes "\""
unfolding escaped escape_byte
controls = refl

-- both line separators, and the characters before and behind them
separators : string_json (226 ∷ 128 ∷ 167 ∷ 226 ∷ 128 ∷ 168 ∷ 226 ∷ 128 ∷ 169 ∷ 226 ∷ 128 ∷ 170 ∷ [])
    ≡ codes "\"" ++ 226 ∷ 128 ∷ 167 ∷ (codes "\\u2028\\u2029" ++ 226 ∷ 128 ∷ 170 ∷ codes "\"")
unfolding escaped escape_byte
separators = refl

-- a table with a key and two rows
abbrev accounts : Left
accounts = record {
  table = record { name = codes "t"; columns = []; key = None };
  rows = (Int (pos 1), Int (pos 1) ∷ Text (codes "it's") ∷ []) ∷ (Int (pos 2), Int (pos 2) ∷ Text (codes "<") ∷ []) ∷ [];
}

rows : left_json accounts ≡ codes "{\"table\":\"t\",\"rows\":[\"1|'it''s'\",\"2|'\\u003c'\"]}"
unfolding digits escaped escape_byte
rows = refl

abbrev holds : ℕ → Mode → Edge
holds session mode = record { session = session; reason = Holds mode }

abbrev is_ahead : ℕ → Mode → Edge
is_ahead session mode = record { session = session; reason = Ahead mode }

-- the victim of a deadlock is told the ring, and lets go what it has
loses : moment_json (accounts ∷ []) []
    (record {
      session = 1;
      manner = IsSent;
      step = Some 4;
      events = Sent 4 ∷ Failed Deadlock ∷ Done ∷ [];
      changes = Had (TableOf 0) IntentExclusive ∷ LetGo ∷ [];
      status = Broken;
      ending =
          Loses (
          record { session = 1; resource = RowOf 0 (Int (pos 1)); mode = Exclusive; edge = holds 0 Exclusive } ∷
          record { session = 0; resource = RowOf 0 (Int (pos 2)); mode = Exclusive; edge = holds 1 Exclusive } ∷ []
          );
      still = [];
      stale = [];
    })
    ≡ codes "{\"session\":1,\"kind\":\"sent\",\"step\":4,\"told\":[\"error: deadlock\",\"done\"],\"locks\":[[\"t\",\"IX\"],null],"
    ++ codes "\"status\":\"failed\",\"ring\":[[1,\"X\",\"t[1]\",[0,\"holds\",\"X\"]],[0,\"X\",\"t[2]\",[1,\"holds\",\"X\"]]],\"still\":[]}"
unfolding digits escaped escape_byte
loses = refl

-- a step is not sent, since its session waits, and another one goes on waiting for others than before
not_sent : moment_json (accounts ∷ []) (codes "a1" ∷ codes "b2" ∷ [])
    (record {
      session = 1;
      manner = IsNotSent;
      step = Some 1;
      events = NotSent 1 ∷ [];
      changes = [];
      status = InBlock Serializable;
      ending =
          Awaits (record { resource = RowOf 0 (Text (codes "ada")); mode = Exclusive; asked = Exclusive; has = None; edges = holds 0 Exclusive ∷ [] });
      still = record { session = 2; edges = is_ahead 1 Exclusive ∷ [] } ∷ [];
      stale = [];
    })
    ≡ codes "{\"session\":1,\"kind\":\"notsent\",\"step\":1,\"told\":[\"not sent b2\"],\"locks\":[],\"status\":\"in\","
    ++ codes "\"want\":{\"on\":\"t['ada']\",\"wants\":\"X\",\"for\":[[0,\"holds\",\"X\"]]},\"still\":[[2,[[1,\"ahead\",\"X\"]]]]}"
unfolding digits escaped escape_byte
not_sent = refl

-- a commit makes what another one has read stale
makes_stale : end_json [] (codes "a1" ∷ [])
    (record {
      session = 0;
      manner = IsSent;
      step = Some 0;
      events = [];
      changes = [];
      status = Outside;
      ending = Ended;
      still = [];
      stale = record { session = 1; step = 3; told = RowEvent (Int (pos 10) ∷ []) ∷ Rows 1 ∷ []; told_now = Rows 0 ∷ [] } ∷ [];
    })
    ≡ codes ",\"status\":\"out\",\"still\":[],\"stale\":[[1,3,[\"row 10\",\"rows 1\"],[\"rows 0\"]]]}"
unfolding digits escaped escape_byte
makes_stale = refl

-- a conversion, which a request that refuses to wait cannot have
lacks : want_json (accounts ∷ [])
    (record { resource = TableOf 0; mode = ShareIntent; asked = IntentExclusive; has = Some Share; edges = holds 0 IntentShare ∷ [] })
    ≡ codes "{\"on\":\"t\",\"wants\":\"SIX\",\"has\":\"S\",\"asks\":\"IX\",\"for\":[[0,\"holds\",\"IS\"]]}"
unfolding digits escaped escape_byte
lacks = refl

-- of four sessions three have not ended
left_open : array_json open_json
    (open_from 0 (IsOpen ∷ HasEnded ∷ HasFailed ∷ StillWaits (record { resource = TableOf 0; mode = Share; asked = Share; has = None; edges = [] }) ∷ []))
    ≡ codes "[[0,\"in\"],[2,\"failed\"],[3,\"waits\"]]"
unfolding digits
left_open = refl

-- a level is asked for, and some lines have another one
committed_but_for_two : levels_json (Some Committed) (8 ∷ 10 ∷ []) ≡ codes ",\"levels\":{\"default\":\"read-committed\",\"other_lines\":[8,10]}"
unfolding digits
committed_but_for_two = refl

serializable_alone : levels_json (Some Serializable) [] ≡ codes ",\"levels\":{\"default\":\"serializable\",\"other_lines\":[]}"
serializable_alone = refl

-- lines with a level that has no effect are not told
no_level : levels_json None (3 ∷ 12 ∷ []) ≡ []
no_level = refl

-- the one order of a file with one step that has no statement
abbrev one_step : Sheet
one_step = record {
  name = codes "one.spec";
  rank = 0;
  orders = 1;
  level = None;
  other_lines = [];
  session_names = codes "a" ∷ [];
  step_names = codes "s" ∷ [];
  step_sessions = 0 ∷ [];
  statements = [] ∷ [];
  line = 0 ∷ [];
  shown = record {
    begun = record { status = Outside; locks = [] } ∷ [];
    first = [];
    moments =
        record {
          session = 0;
          manner = IsSent;
          step = Some 0;
          events = Sent 0 ∷ Done ∷ [];
          changes = [];
          status = Outside;
          ending = Ended;
          still = [];
          stale = [];
        } ∷ [];
    left = [];
    standings = HasEnded ∷ [];
  };
}

one_step_json : page_json one_step
    ≡ codes "{\"format\":1,\"name\":\"one.spec\",\"rank\":0,\"orders\":1,"
    ++ codes "\"sessions\":[\"a\"],\"steps\":[{\"name\":\"s\",\"session\":0,\"sql\":\"\"}],\"order\":[0],"
    ++ codes "\"begun\":[{\"status\":\"out\",\"locks\":[]}],\"first\":[],"
    ++ codes "\"moments\":[{\"session\":0,\"kind\":\"sent\",\"step\":0,\"told\":[\"done\"],\"locks\":[],\"status\":\"out\",\"still\":[]}],"
    ++ codes "\"left\":[],\"open\":[]}\n"
unfolding digits escaped escape_byte
one_step_json = refl

-- the same where a level is asked for
committed_step_json : page_json (record one_step { level = Some Committed })
    ≡ codes "{\"format\":1,\"name\":\"one.spec\",\"rank\":0,\"orders\":1,\"levels\":{\"default\":\"read-committed\",\"other_lines\":[]},"
    ++ codes "\"sessions\":[\"a\"],\"steps\":[{\"name\":\"s\",\"session\":0,\"sql\":\"\"}],\"order\":[0],"
    ++ codes "\"begun\":[{\"status\":\"out\",\"locks\":[]}],\"first\":[],"
    ++ codes "\"moments\":[{\"session\":0,\"kind\":\"sent\",\"step\":0,\"told\":[\"done\"],\"locks\":[],\"status\":\"out\",\"still\":[]}],"
    ++ codes "\"left\":[],\"open\":[]}\n"
unfolding digits escaped escape_byte
committed_step_json = refl
