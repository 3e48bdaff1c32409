use Rattle.class_texts.proofs.MeetLemmas.{same-tested}
use Rattle.class_texts.proofs.expected.are_same.Goals as goal

-- the test that is called tells whether they are the same
pub returns : goal.returns
returns c =
    same-tested c.are_same_values.result c.args.a.now c.args.b.now c.are_same_values.ensures.0 c.are_same_values.ensures.1
