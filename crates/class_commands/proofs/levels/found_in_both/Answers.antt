use Rattle.std.proofs.Common.{[], refl, rules, subst}
use Rattle.order_classes.specs.declared.rows.Grouping.TheVariants as by
use Rattle.spec_schedules.specs.declared.kind.Kind.TheVariants.{Schedules}
use Rattle.class_rows.specs.Pages.{IsClassed}
use Rattle.class_rows.specs.Telling.{AreFound}
use Rattle.class_commands.proofs.levels.found_in_both.Goals as goal

pub returns-in-Err-told_with-clause-refused : goal.returns-in-Err-told_with-clause-refused
returns-in-Err-told_with-clause-refused g c = c.in-Err-told_with.ensures.refused c.args.spec.now

pub returns-in-Ok-told_with-2-clause-found : goal.returns-in-Ok-told_with-2-clause-found
returns-in-Ok-told_with-2-clause-found g c =
    let tables = c.args.tables.now in
    let run = c.args.spec.now.run in
    let x = c.in-Ok-told_with.classed in
    let y = c.in-Ok-told_with-2.results in
    let first : AreFound Schedules tables run (record { classes = c.as_slice.result; serial = c.as_ref.result }) = search rules in
    let second : AreFound Schedules tables run (record { classes = c.as_slice-2.result; serial = c.as_ref-2.result }) = search rules in
    let shows =
    subst (λ b. IsClassed Schedules tables run [] b x) c.all_by.ensures.by
    (subst (λ fs. IsClassed Schedules tables run fs c.all_by.result.by x) c.all_by.ensures.all (c.in-Ok-told_with.ensures.told Schedules tables run first)) in
    let answers =
    subst (λ b. IsClassed Schedules tables run [] b y) c.all_by-2.ensures.by
    (subst (λ fs. IsClassed Schedules tables run fs c.all_by-2.result.by y) c.all_by-2.ensures.all (c.in-Ok-told_with-2.ensures.told Schedules tables run second)) in
    ((x, shows, refl), answers)

pub returns-clause-refused : goal.returns-clause-refused
returns-clause-refused g c = c.in-Err-told_with-2.ensures.refused c.args.spec.now
