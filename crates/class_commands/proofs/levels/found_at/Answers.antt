use Rattle.std.proofs.Common.{None, refl, subst}
use Rattle.class_commands.specs.LevelParts.{AreCountedTwice}
use Rattle.class_commands.proofs.LevelLemmas.{found-at, uncounted}
use Rattle.class_commands.proofs.levels.found_at.Goals as goal

pub returns-in-Ok-found_in_both-clause-found : goal.returns-in-Ok-found_in_both-clause-found
returns-in-Ok-found_in_both-clause-found g c =
    let r = c.in-Ok.read in
    let totals = c.in-Ok-found_in_both.totals in
    let results = c.in-Ok-found_in_both.results in
    let twice =
    subst (λ tables. AreCountedTwice tables r.spec.run totals results) c.as_slice.ensures.value c.in-Ok-found_in_both.ensures.found in
    found-at c.args.bytes.now c.args.level r c.in-Ok.ensures.read
    (record { spec = r.spec; tables = r.tables; levels = r.levels; totals = totals; results = results }) refl refl refl twice c.in-Ok-found_in_both.ensures.starts

pub returns-clause-refused : goal.returns-clause-refused
returns-clause-refused g c =
    uncounted c.args.bytes.now c.args.level c.in-Ok.read c.in-Ok.ensures.read c.fault_of.result
    (c.fault_of.ensures None c.in-Ok.read.spec c.in-Err-found_in_both.ensures.refused)
