use Rattle.std.specs.Prelude.{◌++◌, codes, flat_map}
use Rattle.transcripts.specs.Text.{event_line}
use Rattle.transcripts.proofs.Writing.{prints-stopped, stopped-after, stopped-append, stopped-next_of}
use Rattle.transcripts.proofs.printing.print_session.Goals as goal

-- the word and the name
pub returns-in_err-print_pair : goal.returns-in_err-print_pair
returns-in_err-print_pair g c =
    let title = codes "session " ++ c.as_str.result.now in
    rw (← c.as_str.ensures)
    (prints-stopped _ _ _ _ _
    (stopped-append _ _ _ (title ++ codes "\n") (flat_map (event_line c.args.steps.now) c.args.transcript.now)
    (stopped-append _ _ _ title (codes "\n") c.in_err-print_pair.ensures))
    c.from_residual.ensures.0)

-- the line's end
pub returns-in_err-write_str : goal.returns-in_err-write_str
returns-in_err-write_str g c =
    let title = codes "session " ++ c.as_str.result.now in
    rw (← c.as_str.ensures)
    (prints-stopped _ _ _ _ _
    (stopped-append _ _ _ (title ++ codes "\n") (flat_map (event_line c.args.steps.now) c.args.transcript.now)
    (stopped-after _ _ _ _ title (codes "\n") c.in_ok-print_pair.ensures c.in_err-write_str.ensures))
    c.from_residual-in_err-write_str.ensures.0)

-- an event
pub returns-in_err-print_event : goal.returns-in_err-print_event
returns-in_err-print_event g c =
    let title = codes "session " ++ c.args.name.now ++ codes "\n" in
    rw (← c.events-event-items.ensures)
    (prints-stopped _ _ _ _ _
    (stopped-next_of _ (event_line c.args.steps.now) _ _ _ title _ _ _ _ c.loop-event-test.true c.event-item.is c.loop-event.invariant
    c.in_err-print_event.ensures)
    c.from_residual-in_err-print_event.ensures.0)
