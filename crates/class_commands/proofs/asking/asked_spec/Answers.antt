use Rattle.std.proofs.Common.{subst, sym}
use Rattle.spec_texts.specs.Texts.{Declares}
use Rattle.asked_classes.specs.Asking.{IsAsked}
use Rattle.class_commands.proofs.asking.asked_spec.Goals as goal

pub returns-in-Err-asked_of-clause-refused : goal.returns-in-Err-asked_of-clause-refused
returns-in-Err-asked_of-clause-refused c =
    let spec = c.in-Ok.read.spec in
    let tables = c.as_slice.result.now in
    let is = c.in-Ok.ensures.read in
    let declares = subst (Declares spec.text spec) (sym c.as_slice.ensures.value) is.declares in
    (spec, is.is_file, (tables, subst (λ t. Declares t spec tables) is.text declares, c.in-Err-asked_of.ensures.refused))

pub returns-clause-read : goal.returns-clause-read
returns-clause-read c =
    let is = c.in-Ok.ensures.read in record {
      is_file = is.is_file;
      text = is.text;
      declares = is.declares;
      are_levels = is.are_levels;
      is_asked = subst (λ ts. IsAsked c.in-Ok.read.spec ts c.args.wanted.now c.in-Ok-asked_of.asked) c.as_slice.ensures.value c.in-Ok-asked_of.ensures.asked;
    }
