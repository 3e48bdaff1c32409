use Rattle.std.proofs.Common.{◌≡◌, refl, sym, ap, ◌∙◌, subst, ◌+◌, ◌<◌, ◌≤◌, true, []}
use Rattle.perm_ranks.specs.Words.{total}
use Rattle.bound_specs.specs.Spec.{SpecFile, ranks, counts_of, queues_of}
use Rattle.rank_facts.specs.Swap.{falls_at, word_of}
use Rattle.rank_facts.specs.declared.fact.Fact.TheVariants.{Swap}
use Rattle.known_worlds.specs.Paths.{first_world}
use Rattle.book_audit.specs.Grounds.{AreAlikeTo}
use Rattle.book_audit.proofs.Tests.{in-words, falls-inside, line-inside, swap-from, swap-alike, true-once}
use Rattle.book_audit.proofs.testing.swap_until.Goals as goal

pub are_quiet-requires-clause-steps : goal.are_quiet-requires-clause-steps
are_quiet-requires-clause-steps c =
    let run = c.args.path.now.world.file.run in
    let rank = c.args.rank in
    let place = c.args.place in
    let words = subst (λ (f : SpecFile). f.run.lines ≡ []) c.spec-spec.ensures (c.in-Some.ensures.words.0 refl) in
    let has = subst (λ (f : SpecFile). rank < ranks f.run) c.spec-spec.ensures (c.in-Some-line.ensures.some.0 refl) in
    let falls : falls_at place (word_of run rank) ≡ true =
    subst (λ (f : SpecFile). falls_at place (word_of f.run rank) ≡ true) c.spec-spec.ensures (sym c.falls.ensures ∙ c.if-not-falls.false) in
    line-inside run rank place words (in-words run rank words has) falls

pub alike_to-requires-clause-letters : goal.alike_to-requires-clause-letters
alike_to-requires-clause-letters c =
    let spec = c.spec-spec.result.now.run in
    let rank = c.args.rank in
    let place = c.args.place in
    let has = in-words spec rank (c.in-Some.ensures.words.0 refl) (c.in-Some-line.ensures.some.0 refl) in
    subst (λ cs. place + 2 ≤ total cs) (sym c.in-Some.ensures.counts)
    (falls-inside (counts_of (queues_of spec)) rank place has (sym c.falls.ensures ∙ c.if-not-falls.false))

-- the swap is true, and the run ends behind the rank
pub returns-then-rank-end-clause-answer : goal.returns-then-rank-end-clause-answer
returns-then-rank-end-clause-answer c =
    let run = c.args.path.now.world.file.run in
    let rank = c.args.rank in
    let place = c.args.place in
    let words = subst (λ (f : SpecFile). f.run.lines ≡ []) c.spec-spec.ensures (c.in-Some.ensures.words.0 refl) in
    let has = subst (λ (f : SpecFile). rank < ranks f.run) c.spec-spec.ensures (c.in-Some-line.ensures.some.0 refl) in
    let falls : falls_at place (word_of run rank) ≡ true =
    subst (λ (f : SpecFile). falls_at place (word_of f.run rank) ≡ true) c.spec-spec.ensures (sym c.falls.ensures ∙ c.if-not-falls.false) in
    let quiet = sym c.in_ok-are_quiet.ensures.answer ∙ c.if-not-branch.false in
    true-once run (Swap place) rank c.args.end c.if-rank-end.true
    (swap-from run (first_world run) c.requires.path.starts rank place words has falls quiet)

-- and where it goes on, of the words that share the letters
pub returns-clause-answer : goal.returns-clause-answer
returns-clause-answer c =
    let run = c.args.path.now.world.file.run in
    let rank = c.args.rank in
    let place = c.args.place in
    let words = subst (λ (f : SpecFile). f.run.lines ≡ []) c.spec-spec.ensures (c.in-Some.ensures.words.0 refl) in
    let has = subst (λ (f : SpecFile). rank < ranks f.run) c.spec-spec.ensures (c.in-Some-line.ensures.some.0 refl) in
    let falls : falls_at place (word_of run rank) ≡ true =
    subst (λ (f : SpecFile). falls_at place (word_of f.run rank) ≡ true) c.spec-spec.ensures (sym c.falls.ensures ∙ c.if-not-falls.false) in
    let quiet = sym c.in_ok-are_quiet.ensures.answer ∙ c.if-not-branch.false in
    let counts = c.in-Some.ensures.counts ∙ ap (λ (f : SpecFile). counts_of (queues_of f.run)) c.spec-spec.ensures in
    swap-alike run (first_world run) c.requires.path.starts rank place c.alike_to.result
    (subst (λ cs. AreAlikeTo cs rank place c.alike_to.result) counts c.alike_to.ensures)
    (swap-from run (first_world run) c.requires.path.starts rank place words has falls quiet)
