use Rattle.std.proofs.Common.{◌≡◌, sym, ap, ◌∙◌, subst, ℕ, suc, ◌+◌, ◌<◌, Bool, List, length, take, get_or, arith, add-one}
use Rattle.bound_specs.specs.Spec.{SpecFile, no_step, line_of}
use Rattle.machine_model.specs.World.{send_all}
use Rattle.std.proofs.lemmas.Result.{IfOk-weaker}
use Rattle.rank_facts.specs.Quiet.{is_quiet}
use Rattle.rank_facts.specs.Swap.{are_quiet_at}
use Rattle.known_worlds.specs.Paths.{first_world}
use Rattle.known_worlds.proofs.PathLemmas.{path-own}
use Rattle.book_audit.proofs.testing.are_quiet.Goals as goal

pub is_quiet-requires-clause-path : goal.is_quiet-requires-clause-path
is_quiet-requires-clause-path c = path-own c.args.path.now.world.file c.go_to.new.self c.in_ok-go_to.ensures.path

pub is_quiet-requires-clause-step : goal.is_quiet-requires-clause-step
is_quiet-requires-clause-step c =
    let line = c.args.line.items in
    let long = ap (λ (ks : List ℕ). length ks) c.requires.line in
    let steps = c.requires.steps in
    subst (λ ks. get_or ks c.args.place 0 < length c.go_to.new.self.world.file.run.steps) (sym c.deref.ensures.0)
    (subst (λ (f : SpecFile). get_or line c.args.place 0 < length f.run.steps) (sym c.in_ok-go_to.ensures.path.file_is)
    (c.requires.known c.args.place 0 (omega (arith, long, steps))))

pub is_quiet-requires-clause-other : goal.is_quiet-requires-clause-other
is_quiet-requires-clause-other c =
    let line = c.args.line.items in
    let long = ap (λ (ks : List ℕ). length ks) c.requires.line in
    let steps = c.requires.steps in
    subst (λ ks. get_or ks (c.args.place + 1) 0 < length c.go_to.new.self.world.file.run.steps) (sym c.deref-2.ensures.0)
    (subst (λ (f : SpecFile). get_or line (c.args.place + 1) 0 < length f.run.steps) (sym c.in_ok-go_to.ensures.path.file_is)
    (c.requires.known (c.args.place + 1) 0 (omega (arith, long, steps))))

pub returns-clause-answer : goal.returns-clause-answer
returns-clause-answer c =
    let run = c.args.path.now.world.file.run in
    let place = c.args.place in
    let all = line_of run c.args.rank in
    let all_is = c.requires.line in
    let same = c.in_ok-go_to.ensures.path.file_is in
    let first : get_or c.deref.result.now place 0 ≡ get_or all place 0 = ap (λ ks. get_or ks place 0) (c.deref.ensures.0 ∙ all_is) in
    let second : get_or c.deref-2.result.now (place + 1) 0 ≡ get_or all (suc place) 0 =
    ap (λ ks. get_or ks (place + 1) 0) (c.deref-2.ensures.0 ∙ all_is) ∙ ap (λ n. get_or all n 0) (add-one place) in
    let front : c.go_to.new.self.line.items ≡ take place all =
    c.in_ok-go_to.ensures.line ∙ c.truncate.ensures.items ∙ ap (λ ks. take place ks) all_is in
    let there = is_quiet (send_all (c.go_to.new.self.world.file).run.steps (first_world (c.go_to.new.self.world.file).run) c.go_to.new.self.line.items)
    (get_or (c.go_to.new.self.world.file).run.steps (get_or c.deref.result.now place 0) no_step)
    (get_or (c.go_to.new.self.world.file).run.steps (get_or c.deref-2.result.now (place + 1) 0) no_step) in
    IfOk-weaker c.is_quiet.result (λ yes. yes ≡ there) (λ (yes : Bool). yes ≡ are_quiet_at run (first_world run) c.args.rank place)
    (λ yes is. is ∙ (λ i. is_quiet (send_all (same i).run.steps (first_world (same i).run) (front i))
    (get_or (same i).run.steps (first i) no_step) (get_or (same i).run.steps (second i) no_step))) c.is_quiet.ensures.answer
