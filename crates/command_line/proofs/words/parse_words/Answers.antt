use Rattle.std.proofs.Common.{◌≡◌, map, string_bytes}
use Rattle.clap.specs.Words.{kind_of}
use Rattle.clap.specs.declared.error.ErrorKind.TheVariants.{OutOfMemory}
use Rattle.command_line.specs.Lines.{Line, IsLine, AsksFor}
use Rattle.command_line.proofs.InputLemmas.{of-same, once-only, refused-lines}
use Rattle.command_line.proofs.words.parse_words.Goals as goal

pub returns-in-Ok-clause-asked : goal.returns-in-Ok-clause-asked
returns-in-Ok-clause-asked c =
    of-same c.read_once.result c.in-Ok.asked (λ a. (line : Line) → IsLine (map string_bytes c.args.words.now) line → AsksFor line a) c.in-Ok.ensures.asked
    c.read_once.ensures.same

pub returns-in-Ok-clause-refused : goal.returns-in-Ok-clause-refused
returns-in-Ok-clause-refused c =
    refused-lines c.read_once.result c.in-Ok.asked (map string_bytes c.args.words.now) (λ e. kind_of e ≡ OutOfMemory) c.in-Ok.ensures.asked
    c.read_once.ensures.refused

pub returns-in-Ok-clause-once : goal.returns-in-Ok-clause-once
returns-in-Ok-clause-once c = once-only c.read_once.result c.in-Ok.asked c.read_once.ensures.same
