use Rattle.std.proofs.Common.{◌<◌, refl, map, sym, subst, List, ℕ, All, Bor, length}
use Rattle.std.proofs.lemmas.Bool.{false≢true}
use Rattle.std.specs.List.{AllZip}
use Rattle.order_names.specs.Orders.{IsStepNamed}
use Rattle.order_names.proofs.Names.{names-own, steps-known, words-told, lines-told}
use Rattle.order_names.proofs.naming.rank_of.Goals as goal

pub rank_of_word-requires-clause-known : goal.rank_of_word-requires-clause-known
rank_of_word-requires-clause-known c =
    let file = c.args.spec.now in
    let names = map (λ (p : Bor (List ℕ)). p.now) c.args.names.now in
    subst (All (λ k. k < length file.run.steps)) (sym c.as_slice.ensures.value)
    (steps-known file (names-own file.text file c.known.ensures.at c.ready.ensures) names c.in-Ok.steps.items c.in-Ok.ensures.steps)

-- where orders are all that keep sessions in turn
pub returns-in-Some-clause-rank : goal.returns-in-Some-clause-rank
returns-in-Some-clause-rank c =
    let file = c.args.spec.now in
    let names = map (λ (p : Bor (List ℕ)). p.now) c.args.names.now in
    (words-told file (names-own file.text file c.known.ensures.at c.ready.ensures) names c.as_slice.result.now
    (subst (AllZip (IsStepNamed file) names) (sym c.as_slice.ensures.value) c.in-Ok.ensures.steps) (c.in-Some.ensures.words.0 refl) c.rank_of_word.result
    c.rank_of_word.ensures.rank c.rank_of_word.ensures.refused c.rank_of_word.ensures.none).0

pub returns-in-Some-clause-refused : goal.returns-in-Some-clause-refused
returns-in-Some-clause-refused c =
    let file = c.args.spec.now in
    let names = map (λ (p : Bor (List ℕ)). p.now) c.args.names.now in
    (words-told file (names-own file.text file c.known.ensures.at c.ready.ensures) names c.as_slice.result.now
    (subst (AllZip (IsStepNamed file) names) (sym c.as_slice.ensures.value) c.in-Ok.ensures.steps) (c.in-Some.ensures.words.0 refl) c.rank_of_word.result
    c.rank_of_word.ensures.rank c.rank_of_word.ensures.refused c.rank_of_word.ensures.none).1

-- where they are lines
pub returns-clause-rank : goal.returns-clause-rank
returns-clause-rank c =
    let file = c.args.spec.now in
    let names = map (λ (p : Bor (List ℕ)). p.now) c.args.names.now in
    (lines-told file (names-own file.text file c.known.ensures.at c.ready.ensures) names c.as_slice-in-None.result.now
    (subst (AllZip (IsStepNamed file) names) (sym c.as_slice-in-None.ensures.value) c.in-Ok.ensures.steps) (λ e. false≢true (c.in-None.ensures.words.1 e))
    c.rank_of_line.result c.rank_of_line.ensures.rank c.rank_of_line.ensures.refused c.rank_of_line.ensures.none).0

pub returns-clause-refused : goal.returns-clause-refused
returns-clause-refused c =
    let file = c.args.spec.now in
    let names = map (λ (p : Bor (List ℕ)). p.now) c.args.names.now in
    (lines-told file (names-own file.text file c.known.ensures.at c.ready.ensures) names c.as_slice-in-None.result.now
    (subst (AllZip (IsStepNamed file) names) (sym c.as_slice-in-None.ensures.value) c.in-Ok.ensures.steps) (λ e. false≢true (c.in-None.ensures.words.1 e))
    c.rank_of_line.result c.rank_of_line.ensures.rank c.rank_of_line.ensures.refused c.rank_of_line.ensures.none).1
