use Rattle.std.proofs.Common.{◌≡◌, ◌++◌, drop}
use Rattle.std.specs.String.{string_bytes}
use Rattle.order_names.specs.Spelling.{names_of, order_text}
use Rattle.order_names.proofs.spelling.order_text.Given as goal

-- what is put and what is left come to the whole line
abbrev pub invariant-loop-place : goal.invariant-loop-place
invariant-loop-place l =
    string_bytes l.text ++ order_text (names_of l.spec (drop l.place l.line)) ≡ order_text (names_of l.spec l.line)
