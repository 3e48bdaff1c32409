use Rattle.std.proofs.Common.{◌<◌, map}
use Rattle.book_commands.specs.Joining.{IsJoinOf}
use Rattle.book_commands.proofs.joining.joined_files.Given as goal

-- the book is the join of those in the files before this one
abbrev pub invariant-loop-place : goal.invariant-loop-place
invariant-loop-place g l = (0 < l.place) × IsJoinOf (g.O.Opener.bytes l.opener) (map (λ p. p.now) l.paths) l.place l.book
