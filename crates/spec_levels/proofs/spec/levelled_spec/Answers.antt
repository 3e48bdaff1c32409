use Rattle.spec_levels.proofs.LevelLemmas.{levelled-is, levelled-refused, levelled-text}
use Rattle.spec_levels.proofs.spec.levelled_spec.Goals as goal

pub returns-in-Err-clause-refused : goal.returns-in-Err-clause-refused
returns-in-Err-clause-refused c = c.behind_spec.ensures c.args.word c.in-Err.ensures.refused

pub returns-in-Ok-spec_at-clause-file : goal.returns-in-Ok-spec_at-clause-file
returns-in-Ok-spec_at-clause-file c =
    let at = c.in-Ok-spec_at.ensures.file in
    levelled-is c.args.bytes.now c.args.word c.in-Ok.asked c.in-Ok-spec_at.spec at.0 at.1 c.in-Ok.ensures.level c.modelled.result c.modelled.ensures.kept c.modelled.ensures.modelled

pub returns-in-Ok-spec_at-clause-text : goal.returns-in-Ok-spec_at-clause-text
returns-in-Ok-spec_at-clause-text c =
    let at = c.in-Ok-spec_at.ensures.file in
    levelled-text c.args.bytes.now c.args.word c.in-Ok.asked c.in-Ok-spec_at.spec at.0 at.1 c.in-Ok.ensures.level c.modelled.result c.modelled.ensures.kept

pub returns-in-Ok-spec_at-clause-refused : goal.returns-in-Ok-spec_at-clause-refused
returns-in-Ok-spec_at-clause-refused c =
    let at = c.in-Ok-spec_at.ensures.file in
    levelled-refused c.args.bytes.now c.args.word c.in-Ok.asked c.in-Ok-spec_at.spec at.0 at.1 c.in-Ok.ensures.level c.modelled.result c.modelled.ensures.refused
