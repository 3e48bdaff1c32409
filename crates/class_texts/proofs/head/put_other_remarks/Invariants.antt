use Rattle.std.proofs.Common.{◌≡◌, ◌++◌, flat_map, take}
use Rattle.class_texts.specs.Pages.{behind_semicolon}
use Rattle.class_texts.proofs.head.put_other_remarks.Given as goal

-- the remarks passed are put
abbrev pub invariant-loop-remark : goal.invariant-loop-remark
invariant-loop-remark l = l.line ≡ l.fn.line ++ flat_map behind_semicolon (take l.remark-index l.remarks)
