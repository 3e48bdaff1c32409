use Rattle.std.proofs.Common.{◌≡◌, ◌++◌, flat_map, take}
use Rattle.std.specs.String.{string_bytes}
use Rattle.shown_texts.specs.Pages.{line_bytes}
use Rattle.shown_texts.proofs.pages.push_lines.Given as goal

-- the lines passed are written
abbrev pub invariant-loop-line : goal.invariant-loop-line
invariant-loop-line l = string_bytes l.text ≡ string_bytes l.fn.text ++ flat_map line_bytes (take l.line-index l.lines)
