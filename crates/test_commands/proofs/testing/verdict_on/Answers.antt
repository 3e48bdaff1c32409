use Rattle.test_commands.proofs.testing.verdict_on.Goals as goal

-- no read of a file whose bytes are known fails
pub returns-in-Err-Fault-clause-refused : goal.returns-in-Err-Fault-clause-refused
returns-in-Err-Fault-clause-refused g c =
    c.read_fault.ensures (g.O.Opener.bytes c.args.opener.now c.args.path.now) (λ failed. c.in-Some.ensures.read (c.has_failed.ensures failed))
