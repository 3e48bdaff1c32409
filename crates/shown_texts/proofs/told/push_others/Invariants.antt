use Rattle.std.proofs.Common.{◌≡◌, ◌++◌, flat_map, take}
use Rattle.std.specs.String.{string_bytes}
use Rattle.transcripts.specs.Text.{barred}
use Rattle.shown_texts.proofs.told.push_others.Given as goal

-- the values passed are put
abbrev pub invariant-loop-value : goal.invariant-loop-value
invariant-loop-value l = string_bytes l.text ≡ string_bytes l.fn.text ++ flat_map barred (take l.value-index l.values)
