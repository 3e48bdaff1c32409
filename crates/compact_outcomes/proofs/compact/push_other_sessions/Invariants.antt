use Rattle.std.proofs.Common.{◌≡◌, ◌++◌, take}
use Rattle.std.specs.Prelude.{flat_map, string_bytes}
use Rattle.compact_outcomes.specs.CompactTexts.{after_comma}
use Rattle.compact_outcomes.specs.CompactTexts.{session_text}
use Rattle.compact_outcomes.proofs.compact.push_other_sessions.Given as goal

-- the first sessions are pushed
abbrev pub invariant-loop-session : goal.invariant-loop-session
invariant-loop-session l = string_bytes l.text ≡ string_bytes l.fn.text ++ flat_map (after_comma session_text) (take l.session-index l.sessions)
