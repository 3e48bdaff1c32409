use Rattle.std.proofs.Common.{◌≡◌, ◌↔◌, ◌∙◌, sym, subst, [], IsTrue, slice_index_or}
use Rattle.known_worlds.specs.Paths.{IsPath}
use Rattle.known_worlds.proofs.PathLemmas.{path-told-more}
use Rattle.book_audit.specs.Compared.{IsCompared}
use Rattle.book_audit.specs.declared.comparing.Comparison.{Comparison}
use Rattle.book_audit.proofs.CompareLemmas.{compared-more, compared-at, compared-answers}
use Rattle.book_audit.proofs.comparing.tells.Goals as goal

pub returns-in-Some-clause-path : goal.returns-in-Some-clause-path
returns-in-Some-clause-path c =
    let x = c.args.path.now in
    subst (IsPath x.world.file) (sym c.in_ok-number.ensures.same) (path-told-more x.world.file x c.outcome.new.self.world.told c.outcome.new.self.world.level c.requires.path)

pub returns-in-Some-clause-compared : goal.returns-in-Some-clause-compared
returns-in-Some-clause-compared c =
    compared-more c.args.path.now.world.told c.outcome.new.self.world.told c.args.outcomes.now c.args.comparisons.now.last.items
    c.outcome.ensures.front c.requires.compared

pub returns-in-Some-clause-answer : goal.returns-in-Some-clause-answer
returns-in-Some-clause-answer c =
    let told = c.outcome.new.self.world.told in
    let table = c.args.outcomes.now in
    let comparisons = c.args.comparisons.now.last.items in
    let now = compared-more c.args.path.now.world.told told table comparisons c.outcome.ensures.front c.requires.compared in
    let found : Comparison = record { number = c.in_ok-number.number; place = c.args.place; is_same = c.in-Some.is_same } in
    compared-answers told table found _ (compared-at told table comparisons c.in-Some.ensures.0 found c.in-Some.ensures.1 now) c.in_ok-number.ensures.told

pub returns-clause-path : goal.returns-clause-path
returns-clause-path c =
    let x = c.args.path.now in
    subst (IsPath x.world.file) (sym c.in_ok-number.ensures.same) (path-told-more x.world.file x c.outcome.new.self.world.told c.outcome.new.self.world.level c.requires.path)

-- what is noted is whether the text of what was told is the one at the place
pub returns-clause-compared : goal.returns-clause-compared
returns-clause-compared c =
    let told = c.outcome.new.self.world.told in
    let table = c.args.outcomes.now in
    let before = compared-more c.args.path.now.world.told told table c.args.comparisons.now.last.items c.outcome.ensures.front c.requires.compared in
    let is = c.is_same-is_same.result in
    let now : Comparison = record { number = c.in_ok-number.number; place = c.args.place; is_same = is } in
    let same = subst (λ o. IsTrue is ↔ (o ≡ slice_index_or table c.args.place [])) (c.as_outcome.ensures ∙ c.in_ok-told.ensures)
    (subst (λ o. IsTrue is ↔ (c.as_outcome.result ≡ o)) c.get-2.ensures c.is_same-is_same.ensures) in
    let this : IsCompared told table now = record { outcome = c.told.result.now; told_is = c.told.ensures; answer = same } in
    c.in_ok-note.ensures told table this before
