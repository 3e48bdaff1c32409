use Rattle.book_files.proofs.PartLaws.{each-part, runs-part}
use Rattle.book_files.proofs.parts.facts_part.Goals as goal

pub returns-in-Some : goal.returns-in-Some
returns-in-Some c = each-part c.args.guess.now c.args.reader.now c.facts_at.new.reader c.in-Some.builder c.in-Some.ensures

pub returns-in-Some-runs_at : goal.returns-in-Some-runs_at
returns-in-Some-runs_at c = runs-part c.args.guess.now c.args.reader.now c.runs_at.new.reader c.in-Some-runs_at.runs c.in-Some-runs_at.ensures
