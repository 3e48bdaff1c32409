use Rattle.std.specs.Prelude.{◌≡◌, ◌++◌, codes, take}
use Rattle.std.specs.List.{join_by}
use Rattle.transcripts.specs.Text.{value_text}
use Rattle.shown_values.proofs.texts.push_values.Given as goal

-- the first values are pushed
abbrev pub invariant-loop-place : goal.invariant-loop-place
invariant-loop-place l = l.text.items ≡ l.fn.text.items ++ join_by value_text (codes "|") (take l.place l.values)
