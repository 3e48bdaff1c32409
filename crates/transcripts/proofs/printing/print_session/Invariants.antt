use Rattle.std.specs.Prelude.{◌++◌, codes, flat_map, take}
use Rattle.transcripts.specs.Counted.{Wrote}
use Rattle.transcripts.specs.Text.{event_line}
use Rattle.transcripts.proofs.printing.print_session.Given as goal

-- the first events are written
abbrev pub invariant-loop-event : goal.invariant-loop-event
invariant-loop-event g l = Wrote g.W.Write.contents l.fn.out l.out ((codes "session " ++ l.name ++ codes "\n")
    ++ flat_map (event_line l.steps) (take l.event-index l.event-items))
