use Rattle.std.proofs.Common.{◌≡◌, ◌++◌, flat_map, take}
use Rattle.shown_texts.specs.Pages.{plain_lines}
use Rattle.shown_texts.proofs.pages.put_plain.Given as goal

-- the texts passed are put
abbrev pub invariant-loop-text : goal.invariant-loop-text
invariant-loop-text l = l.lines ≡ l.fn.lines ++ flat_map plain_lines (take l.text-index l.texts)
