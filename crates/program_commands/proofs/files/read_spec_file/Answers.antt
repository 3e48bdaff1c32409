use Rattle.std.proofs.Common.{◌≡◌, take}
use Rattle.book_commands.proofs.FileLemmas.{of-known}
use Rattle.program_commands.specs.declared.files.TheConstants.{MAX_SPEC_READ}
use Rattle.program_commands.proofs.files.read_spec_file.Goals as goal

-- a reader at the front of a file is asked for as much
pub returns-in-Ok-clause-read : goal.returns-in-Ok-clause-read
returns-in-Ok-clause-read g c =
    of-known g.O.Reader.Read.remaining _ c.in-Some.reader c.new-input.result (λ known. c.in-Ok.bytes.items ≡ take MAX_SPEC_READ known) c.new-input.ensures.inner
    c.in-Some.ensures.bytes c.in-Ok.ensures.first

-- no read of a file whose bytes are known fails
pub returns-in-Err-Fault-clause-unread : goal.returns-in-Err-Fault-clause-unread
returns-in-Err-Fault-clause-unread g c =
    c.read_fault.ensures (g.O.Opener.bytes c.args.opener.now c.args.path.now) (λ failed. c.in-Some.ensures.read (c.has_failed.ensures failed))
