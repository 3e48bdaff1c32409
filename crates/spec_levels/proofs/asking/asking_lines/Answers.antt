use Rattle.std.proofs.Common.{map}
use Rattle.spec_levels.specs.Asking.{seen_line}
use Rattle.spec_levels.proofs.LineLemmas.{lines-more}
use Rattle.spec_levels.proofs.asking.asking_lines.Goals as goal

pub loop-comment-preserved : goal.loop-comment-preserved
loop-comment-preserved c =
    let l = c.loop-comment in
    lines-more c.deref-comment-items.result.now l.comment-index _ (map seen_line l.lines.items) (map seen_line c.push_line.new.lines.items)
    c.loop-comment-test.true l.invariant c.in_ok-push_line.ensures
