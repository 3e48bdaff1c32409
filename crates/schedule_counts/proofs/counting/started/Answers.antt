use Rattle.std.proofs.Common.{ap, ◌∙◌}
use Rattle.bound_specs.specs.Spec.{SpecFile, Queues}
use Rattle.spec_schedules.specs.Points.{Point}
use Rattle.schedule_counts.specs.Searching.{point_at}
use Rattle.schedule_counts.proofs.counting.started.Goals as goal

pub returns-clause-point : goal.returns-clause-point
returns-clause-point c =
    let w = c.in_ok-machine.machine.world in
    let run = c.args.spec.now.run in (
      w,
      c.in_ok-machine.ensures.started,
      ap (λ (f : SpecFile). point_at c.args.kind f.run c.start-2.result.next w) c.in_ok-machine.ensures.of_spec
          ∙ ap (λ (q : Queues). let p : Point = record { kind = c.args.kind; run = run; left = q; world = w } in p) c.start-2.ensures.all,
    )
