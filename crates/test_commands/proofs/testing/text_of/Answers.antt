use Rattle.std.proofs.Common.{◌≡◌, ◌++◌, sym, subst}
use Rattle.transcripts.specs.Counted.{inner_of}
use Rattle.test_commands.specs.Testing.{IsNotTested}
use Rattle.test_commands.proofs.FaultLemmas.{not-tested}
use Rattle.test_commands.proofs.testing.text_of.Goals as goal

-- the text is all that the writer has
pub returns-in-Ok-clause-text : goal.returns-in-Ok-clause-text
returns-in-Ok-clause-text c =
    let ran = c.in-Ok.ensures in
    let whole : (inner_of c.classes.new.out).items ≡ (inner_of c.new-out.result).items ++ ran.0 = ran.2.whole in
    (c.all_of_classes-wanted.result, c.all_of_classes-wanted.ensures, rw (c.into_inner.ensures, whole, c.new-out.ensures.inner, c.new.ensures.items) ran.1.0)

pub returns : goal.returns
returns c = record {
  text = tt;
  refused = λ known. subst (IsNotTested known c.args.level c.args.bytes.now c.args.name.now) (sym c.told_as.ensures)
      (not-tested _ _ _ _ _ c.args.level c.all_of_classes-wanted.result c.all_of_classes-wanted.ensures c.in-Err.fault c.in-Err.ensures known);
}
