use Rattle.std.proofs.Common.{◌≡◌, ◌++◌, drop}
use Rattle.std.specs.String.{string_bytes}
use Rattle.class_texts.specs.Pages.{rows_bytes}
use Rattle.class_texts.proofs.table.push_rows.Given as goal

-- the rows put and those left
abbrev pub invariant-loop-place : goal.invariant-loop-place
invariant-loop-place l =
    string_bytes l.text ++ rows_bytes l.widths l.page l.place (drop l.place l.rows)
    ≡ string_bytes l.fn.text ++ rows_bytes l.widths l.page 0 l.rows
