use Rattle.std.proofs.Common.{sym, rules}
use Rattle.std.proofs.lemmas.List.Sorted.{list_any-IsPermutation, ranks_by}
use Rattle.std.proofs.lemmas.Fn.{always_returns_same}
use Rattle.fact_books.specs.declared.run.Run.{Run}
use Rattle.fact_books.specs.declared.run.Tag.TheVariants.{Ran}
use Rattle.fact_books.specs.Runs.{has}
use Rattle.book_format.specs.Forms.{run_total}
use Rattle.book_format.proofs.CanonicalLemmas.{sorted-later, sound-moved}
use Rattle.book_format.proofs.canonical.in_order.Goals as goal

pub returns-clause-rises : goal.returns-clause-rises
returns-clause-rises c =
    sorted-later c.requires.sound.0 (record { first = 0; end = 0; tag = Ran 0 }) c.args.runs.items c.sort_unstable_by.new.self.items c.requires.apart
    (sound-moved c.requires.sound.0 _ _ c.requires.sound.1 c.sort_unstable_by.ensures.permutation) c.sort_unstable_by.ensures.permutation
    (c.sort_unstable_by.ensures.sorted _ (ranks_by run_total (λ (r : Run). r)) (always_returns_same _ _ _ (λ a r f' called. (search rules, search rules))))

pub returns-clause-facts : goal.returns-clause-facts
returns-clause-facts c = λ t e. sym (list_any-IsPermutation (has t e) _ _ c.sort_unstable_by.ensures.permutation)

pub returns-clause-sound : goal.returns-clause-sound
returns-clause-sound c = λ n a. sound-moved n _ _ a c.sort_unstable_by.ensures.permutation
