use Rattle.std.proofs.Common.{string_bytes}
use Rattle.bound_specs.proofs.FileLemmas.{file-none}
use Rattle.book_files.proofs.PartLaws.{each-recordable}
use Rattle.book_files.proofs.pieces.facts_book.Goals as goal

pub of_facts-requires-clause-unasked : goal.of_facts-requires-clause-unasked
of_facts-requires-clause-unasked c = file-none (string_bytes c.args.guess.now.text) c.args.guess.now.spec c.requires.guess

pub of_facts-requires-clause-recordable : goal.of_facts-requires-clause-recordable
of_facts-requires-clause-recordable c = each-recordable c.args.guess.now c.args.builder c.requires.facts
