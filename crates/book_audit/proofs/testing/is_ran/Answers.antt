use Rattle.std.proofs.Common.{refl, sym, ap, ◌∙◌, subst, ◌<◌, [], OnOk, slice_index_or}
use Rattle.std.proofs.lemmas.Bool.{false≢true}
use Rattle.bound_specs.specs.Spec.{SpecFile, ranks, line_of}
use Rattle.machine_model.specs.World.{send_all, outcome_of}
use Rattle.known_worlds.specs.Paths.{first_world, IsPath}
use Rattle.known_worlds.proofs.PathLemmas.{path-own, path-told}
use Rattle.book_audit.proofs.Tests.{ran-told}
use Rattle.book_audit.proofs.testing.is_ran.Goals as goal

-- the spec has no such rank
pub returns-in_default-clause-answer : goal.returns-in_default-clause-answer
returns-in_default-clause-answer c = (
  λ yes. absurd (false≢true yes),
  λ fact. absurd (false≢true (c.in_default.ensures.some.1 (subst (λ (f : SpecFile). c.args.rank < ranks f.run) (sym c.spec.ensures) fact.0))),
)

pub tells-requires-clause-path : goal.tells-requires-clause-path
tells-requires-clause-path c = path-own c.args.path.now.world.file c.go_to.new.self c.in_ok-go_to.ensures.path

pub returns-clause-path : goal.returns-clause-path
returns-clause-path c = subst (λ f. OnOk c.tells.result (IsPath f c.tells.new.path)) c.in_ok-go_to.ensures.path.file_is c.tells.ensures.path

pub returns-clause-answer : goal.returns-clause-answer
returns-clause-answer c =
    let file = c.args.path.now.world.file in
    let run = file.run in
    let y = c.go_to.new.self in
    let line = c.in_ok-go_to.ensures.line ∙ c.in-Some.ensures.line ∙ ap (λ (f : SpecFile). line_of f.run c.args.rank) c.spec.ensures in
    let told = path-told file y c.in_ok-go_to.ensures.path ∙ ap (λ ks. outcome_of run.sessions (send_all run.steps (first_world run) ks)) line in
    ran-told run (first_world run) c.requires.path.starts c.args.rank
    (outcome_of y.world.file.run.sessions (send_all y.world.file.run.steps (first_world y.world.file.run) y.line.items))
    (slice_index_or c.args.outcomes.now c.args.number []) c.tells.result
    (subst (λ (f : SpecFile). c.args.rank < ranks f.run) c.spec.ensures (c.in-Some.ensures.some.0 refl)) told c.tells.ensures.answer
