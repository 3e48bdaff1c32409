use Rattle.std.proofs.Common.{◌≡◌, refl, ℕ, Some, sym, ap, ◌∙◌, subst, List, [], length, get_or, arith}
use Rattle.std.proofs.lemmas.Option.{get_or_from_slice_get, slice_get_within}
use Rattle.bound_specs.specs.Spec.{SpecFile, line_of}
use Rattle.machine_model.specs.World.{send_all, outcome_of}
use Rattle.rank_facts.specs.Facts.{IsFactOf}
use Rattle.rank_facts.specs.declared.fact.Fact.TheVariants.{Ran}
use Rattle.known_worlds.specs.Fronts.{front}
use Rattle.known_worlds.specs.Paths.{first_world}
use Rattle.known_worlds.proofs.FrontLemmas.{front-new}
use Rattle.known_worlds.specs.declared.path.MarkedPath.{MarkedPath}
use Rattle.known_worlds.specs.Paths.{IsPath}
use Rattle.known_worlds.proofs.PathLemmas.{path-own, path-told, path-told-more}
use Rattle.step_reducer.proofs.Firsts.{line-fact, line-ran}
use Rattle.step_reducer.proofs.line_walk.LineWalk.next_run.Goals as goal

pub outcome-requires : goal.outcome-requires
outcome-requires c = path-own c.args.self.now.path.world.file c.go_to.new.self c.in_ok-shared.ensures.path

pub overflow_sub-sent : goal.overflow_sub-sent
overflow_sub-sent c =
    let x = c.args.self.now.path in
    omega (arith, front-new x.line.items c.in-Some.line.items, c.in_ok-shared.ensures.shared, c.len-steps.ensures.value)

pub returns-clause-given : goal.returns-clause-given
returns-clause-given c =
    let x = c.args.self.now in
    let file = x.path.world.file in
    let run = file.run in
    let line = c.in-Some.line.items in
    let y = c.outcome.new.self in
    let went = c.in_ok-shared.ensures in
    let same = c.in_ok-number.ensures.same in
    let path : IsPath file y = subst (IsPath file) (sym same) (path-told-more file c.go_to.new.self y.world.told y.world.level went.path) in
    let goes : y.line.items ≡ line = ap (λ (p : MarkedPath). p.line.items) same ∙ went.line in
    let line_is : line ≡ line_of run x.at = c.in-Some.ensures.line ∙ ap (λ (f : SpecFile). line_of f.run x.at) c.spec-spec.ensures in
    let said = get_or y.world.told c.in_ok-number.number [] in
    let long = ap (λ (l : List ℕ). length l) goes in
    let told : outcome_of run.sessions (send_all run.steps (first_world run) line) ≡ said =
    sym (get_or_from_slice_get y.world.told c.in_ok-number.number _ [] c.in_ok-number.ensures.told ∙ path-told file c.go_to.new.self went.path
    ∙ ap (λ ks. outcome_of run.sessions (send_all run.steps (first_world run) ks)) went.line) in
    record {
      lines = path;
      first = refl;
      end = refl;
      at = refl;
      line = goes ∙ line_is;
      short = omega (arith, long, c.len-steps.ensures.value, c.len-steps.ensures.fits);
      sent = omega (
        arith,
        long,
        front-new x.path.line.items line,
        went.shared,
        c.len-steps.ensures.value,
        ap (λ (l : List ℕ). front x.path.line.items l) goes,
      );
      most = (let all = ap (λ (l : List ℕ). length l) line_is in omega (arith, c.len-steps.ensures.value, all));
      facts = λ reduce r le lt. (let here : r ≡ x.at = omega (arith, le, lt) in
          subst (λ m. IsFactOf reduce run m (Ran said)) (sym here)
          (line-fact reduce run x.at line said c.requires.lines c.requires.inside line_is
          (line-ran run line c.requires.walk.starts ∙ ap (λ o. Some o) told)));
      ran = λ o e. refl;
    }

pub returns-clause-number : goal.returns-clause-number
returns-clause-number c = slice_get_within c.outcome.new.self.world.told c.in_ok-number.number _ c.in_ok-number.ensures.told
