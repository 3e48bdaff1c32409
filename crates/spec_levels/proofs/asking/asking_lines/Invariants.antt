use Rattle.std.proofs.Common.{◌≡◌, map, take}
use Rattle.comment_lines.specs.Comments.{seen}
use Rattle.spec_levels.specs.Asking.{asking_lines, seen_line}
use Rattle.spec_levels.proofs.asking.asking_lines.Given as goal

-- the lines found are those of the comments passed
abbrev pub invariant-loop-comment : goal.invariant-loop-comment
invariant-loop-comment l = map seen_line l.lines.items ≡ asking_lines (map seen (take l.comment-index l.comment-items))
