use Rattle.std.proofs.Common.{◌≡◌, drop}
use Rattle.book_audit.specs.declared.finding.Finding.TheVariants as found
use Rattle.book_audit.specs.Pieces.{all_of}
use Rattle.book_audit.proofs.sharing.all_of.Given as goal

-- what comes of the findings from here on is what comes of all
abbrev pub invariant-loop-i : goal.invariant-loop-i
invariant-loop-i l = all_of l.all (drop l.i l.findings) ≡ all_of found.AllTrue l.findings
