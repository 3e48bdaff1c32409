use Rattle.std.proofs.Common.{string_bytes}
use Rattle.bound_specs.proofs.FileLemmas.{file-none}
use Rattle.book_files.proofs.PartLaws.{runs-recordable, runs-rising, runs-sound}
use Rattle.book_files.proofs.pieces.runs_book.Goals as goal

pub of_runs-requires-clause-unasked : goal.of_runs-requires-clause-unasked
of_runs-requires-clause-unasked c = file-none (string_bytes c.args.guess.now.text) c.args.guess.now.spec c.requires.guess

pub of_runs-requires-clause-rising : goal.of_runs-requires-clause-rising
of_runs-requires-clause-rising c = runs-rising c.args.guess.now c.args.outcomes c.args.runs c.requires.size c.requires.runs

pub of_runs-requires-clause-sound : goal.of_runs-requires-clause-sound
of_runs-requires-clause-sound c = runs-sound c.args.guess.now c.args.outcomes c.args.runs c.requires.size c.requires.runs

pub of_runs-requires-clause-recordable : goal.of_runs-requires-clause-recordable
of_runs-requires-clause-recordable c =
    runs-recordable c.args.guess.now c.args.outcomes c.args.runs c.requires.size c.requires.runs c.requires.outcomes
