use Rattle.std.proofs.Common.{◌≡◌, ◌++◌, drop, map}
use Rattle.comment_lines.specs.Comments.{comment_lines, comments_from, seen}
use Rattle.comment_lines.proofs.comments.comment_lines.Given as goal

-- the comments found and those to come are all of them
abbrev pub invariant-loop-at : goal.invariant-loop-at
invariant-loop-at l = map seen l.comments.items ++ comments_from l.place l.at (drop l.at l.text) ≡ comment_lines l.text
