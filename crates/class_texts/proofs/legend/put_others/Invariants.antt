use Rattle.std.proofs.Common.{◌≡◌, ◌++◌, flat_map, take}
use Rattle.class_texts.specs.Legend.{behind_blanks}
use Rattle.class_texts.proofs.legend.put_others.Given as goal

-- the texts passed are put
abbrev pub invariant-loop-text : goal.invariant-loop-text
invariant-loop-text l = l.line ≡ l.fn.line ++ flat_map behind_blanks (take l.text-index l.texts)
