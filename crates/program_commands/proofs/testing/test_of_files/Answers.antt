use Rattle.std.proofs.Common.{map, is_some, Bor, List, ℕ}
use Rattle.program_commands.proofs.testing.test_of_files.Goals as goal

pub returns-in-Err-clause-done : goal.returns-in-Err-clause-done
returns-in-Err-clause-done g c =
    c.specs_fault.ensures (g.F.Opener.bytes c.args.folder.now) (map (λ (p : Bor (List ℕ)). p.now) c.args.words.now.paths.now) c.args.words.now.level c.args.words.now.updates
    (is_some c.args.words.now.junit) c.in-Err.ensures.refused

pub returns-in-Err-test_all-clause-done : goal.returns-in-Err-test_all-clause-done
returns-in-Err-test_all-clause-done g c =
    c.in-Err-test_all.ensures.refused (g.F.Opener.bytes c.args.folder.now) (map (λ (p : Bor (List ℕ)). p.now) c.args.words.now.paths.now)
    c.args.words.now.level c.args.words.now.updates (is_some c.args.words.now.junit)
