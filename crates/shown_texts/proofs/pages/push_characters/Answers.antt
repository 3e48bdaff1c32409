use Rattle.shown_texts.proofs.WritingLemmas.{characters-more}
use Rattle.shown_texts.proofs.pages.push_characters.Goals as goal

-- one character more
pub loop-c-preserved : goal.loop-c-preserved
loop-c-preserved c = characters-more _ _ c.c-item.result _ _ _ c.loop-c-test.true c.c-item.is c.loop-c.invariant c.in_ok-push.ensures.bytes
