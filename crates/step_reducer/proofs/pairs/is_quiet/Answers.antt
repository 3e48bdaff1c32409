use Rattle.std.proofs.Common.{◌≡◌, sym, ap, ◌∙◌, false, not, ◌==◌, get_or, eq-eqb, ne_eqb}
use Rattle.lock_queues.specs.Locks.{waits_now}
use Rattle.bound_specs.specs.Spec.{SpecFile, no_step}
use Rattle.machine_model.specs.Claims.{plans}
use Rattle.rank_facts.specs.Quiet.{all_fit, all_fit_together, undisturbed}
use Rattle.step_reducer.specs.Pairs.{is_quiet_in}
use Rattle.step_reducer.proofs.Listed.{quiet-whole}
use Rattle.step_reducer.proofs.Quiets.{parts, quiet-parts, stop1, stop2, stop3, stop4, stop5, stop6, stop7, go7}
use Rattle.step_reducer.proofs.pairs.is_quiet.Goals as goal

pub returns-then-i-j : goal.returns-then-i-j
returns-then-i-j c =
    let r = c.args.world.now in
    let i = c.session_of-i.result in
    let j = c.session_of-j.result in
    let ss = c.statements-asks.result.now in
    let ts = c.statements-others.result.now in
    let s = get_or r.file.run.steps c.args.first no_step in
    let t = get_or r.file.run.steps c.args.second no_step in
    let whole : r.spent ≡ false = sym c.spent.ensures ∙ c.if-spent.false in
    let base : is_quiet_in r c.args.first c.args.second ≡ parts r.world i j ss ts =
    quiet-whole r c.args.first c.args.second whole
    ∙ quiet-parts r.world s t i j ss ts
    (c.session_of-i.ensures.is ∙ ap (λ (f : SpecFile). (get_or f.run.steps c.args.first no_step).session) c.spec-spec.ensures)
    (c.session_of-j.ensures.is ∙ ap (λ (f : SpecFile). (get_or f.run.steps c.args.second no_step).session) c.spec-spec.ensures)
    (c.statements-asks.ensures.are ∙ ap (λ (f : SpecFile). (get_or f.run.steps c.args.first no_step).statements) c.spec-spec.ensures)
    (c.statements-others.ensures.are ∙ ap (λ (f : SpecFile). (get_or f.run.steps c.args.second no_step).statements) c.spec-spec.ensures) in
    sym (base ∙ stop1 (not (i == j)) (not (waits_now r.world.waits i)) (not (waits_now r.world.waits j)) (all_fit r.world i (plans ss))
    (all_fit r.world j (plans ts)) (all_fit_together (plans ss) (plans ts)) (undisturbed r.world i (plans ss)) (undisturbed r.world j (plans ts))
    (ap not (eq-eqb i j c.if-i-j.true)))

pub returns-then-waits : goal.returns-then-waits
returns-then-waits c =
    let r = c.args.world.now in
    let i = c.session_of-i.result in
    let j = c.session_of-j.result in
    let ss = c.statements-asks.result.now in
    let ts = c.statements-others.result.now in
    let s = get_or r.file.run.steps c.args.first no_step in
    let t = get_or r.file.run.steps c.args.second no_step in
    let whole : r.spent ≡ false = sym c.spent.ensures ∙ c.if-spent.false in
    let base : is_quiet_in r c.args.first c.args.second ≡ parts r.world i j ss ts =
    quiet-whole r c.args.first c.args.second whole
    ∙ quiet-parts r.world s t i j ss ts
    (c.session_of-i.ensures.is ∙ ap (λ (f : SpecFile). (get_or f.run.steps c.args.first no_step).session) c.spec-spec.ensures)
    (c.session_of-j.ensures.is ∙ ap (λ (f : SpecFile). (get_or f.run.steps c.args.second no_step).session) c.spec-spec.ensures)
    (c.statements-asks.ensures.are ∙ ap (λ (f : SpecFile). (get_or f.run.steps c.args.first no_step).statements) c.spec-spec.ensures)
    (c.statements-others.ensures.are ∙ ap (λ (f : SpecFile). (get_or f.run.steps c.args.second no_step).statements) c.spec-spec.ensures) in
    sym (base ∙ stop2 (not (i == j)) (not (waits_now r.world.waits i)) (not (waits_now r.world.waits j)) (all_fit r.world i (plans ss))
    (all_fit r.world j (plans ts)) (all_fit_together (plans ss) (plans ts)) (undisturbed r.world i (plans ss)) (undisturbed r.world j (plans ts))
    (ap not (ne_eqb i j c.if-i-j.false)) (ap not (sym c.waits.ensures ∙ c.if-waits.true)))

pub returns-then-waits-2 : goal.returns-then-waits-2
returns-then-waits-2 c =
    let r = c.args.world.now in
    let i = c.session_of-i.result in
    let j = c.session_of-j.result in
    let ss = c.statements-asks.result.now in
    let ts = c.statements-others.result.now in
    let s = get_or r.file.run.steps c.args.first no_step in
    let t = get_or r.file.run.steps c.args.second no_step in
    let whole : r.spent ≡ false = sym c.spent.ensures ∙ c.if-spent.false in
    let base : is_quiet_in r c.args.first c.args.second ≡ parts r.world i j ss ts =
    quiet-whole r c.args.first c.args.second whole
    ∙ quiet-parts r.world s t i j ss ts
    (c.session_of-i.ensures.is ∙ ap (λ (f : SpecFile). (get_or f.run.steps c.args.first no_step).session) c.spec-spec.ensures)
    (c.session_of-j.ensures.is ∙ ap (λ (f : SpecFile). (get_or f.run.steps c.args.second no_step).session) c.spec-spec.ensures)
    (c.statements-asks.ensures.are ∙ ap (λ (f : SpecFile). (get_or f.run.steps c.args.first no_step).statements) c.spec-spec.ensures)
    (c.statements-others.ensures.are ∙ ap (λ (f : SpecFile). (get_or f.run.steps c.args.second no_step).statements) c.spec-spec.ensures) in
    sym (base ∙ stop3 (not (i == j)) (not (waits_now r.world.waits i)) (not (waits_now r.world.waits j)) (all_fit r.world i (plans ss))
    (all_fit r.world j (plans ts)) (all_fit_together (plans ss) (plans ts)) (undisturbed r.world i (plans ss)) (undisturbed r.world j (plans ts))
    (ap not (ne_eqb i j c.if-i-j.false)) (ap not (sym c.waits.ensures ∙ c.if-waits.false)) (ap not (sym c.waits-2.ensures ∙ c.if-waits-2.true)))

pub returns-then-not-all_fit : goal.returns-then-not-all_fit
returns-then-not-all_fit c =
    let r = c.args.world.now in
    let i = c.session_of-i.result in
    let j = c.session_of-j.result in
    let ss = c.statements-asks.result.now in
    let ts = c.statements-others.result.now in
    let s = get_or r.file.run.steps c.args.first no_step in
    let t = get_or r.file.run.steps c.args.second no_step in
    let whole : r.spent ≡ false = sym c.spent.ensures ∙ c.if-spent.false in
    let base : is_quiet_in r c.args.first c.args.second ≡ parts r.world i j ss ts =
    quiet-whole r c.args.first c.args.second whole
    ∙ quiet-parts r.world s t i j ss ts
    (c.session_of-i.ensures.is ∙ ap (λ (f : SpecFile). (get_or f.run.steps c.args.first no_step).session) c.spec-spec.ensures)
    (c.session_of-j.ensures.is ∙ ap (λ (f : SpecFile). (get_or f.run.steps c.args.second no_step).session) c.spec-spec.ensures)
    (c.statements-asks.ensures.are ∙ ap (λ (f : SpecFile). (get_or f.run.steps c.args.first no_step).statements) c.spec-spec.ensures)
    (c.statements-others.ensures.are ∙ ap (λ (f : SpecFile). (get_or f.run.steps c.args.second no_step).statements) c.spec-spec.ensures) in
    sym (base ∙ stop4 (not (i == j)) (not (waits_now r.world.waits i)) (not (waits_now r.world.waits j)) (all_fit r.world i (plans ss))
    (all_fit r.world j (plans ts)) (all_fit_together (plans ss) (plans ts)) (undisturbed r.world i (plans ss)) (undisturbed r.world j (plans ts))
    (ap not (ne_eqb i j c.if-i-j.false)) (ap not (sym c.waits.ensures ∙ c.if-waits.false)) (ap not (sym c.waits-2.ensures ∙ c.if-waits-2.false))
    ((sym c.all_fit.ensures ∙ c.if-not-all_fit.true)))

pub returns-then-not-all_fit-2 : goal.returns-then-not-all_fit-2
returns-then-not-all_fit-2 c =
    let r = c.args.world.now in
    let i = c.session_of-i.result in
    let j = c.session_of-j.result in
    let ss = c.statements-asks.result.now in
    let ts = c.statements-others.result.now in
    let s = get_or r.file.run.steps c.args.first no_step in
    let t = get_or r.file.run.steps c.args.second no_step in
    let whole : r.spent ≡ false = sym c.spent.ensures ∙ c.if-spent.false in
    let base : is_quiet_in r c.args.first c.args.second ≡ parts r.world i j ss ts =
    quiet-whole r c.args.first c.args.second whole
    ∙ quiet-parts r.world s t i j ss ts
    (c.session_of-i.ensures.is ∙ ap (λ (f : SpecFile). (get_or f.run.steps c.args.first no_step).session) c.spec-spec.ensures)
    (c.session_of-j.ensures.is ∙ ap (λ (f : SpecFile). (get_or f.run.steps c.args.second no_step).session) c.spec-spec.ensures)
    (c.statements-asks.ensures.are ∙ ap (λ (f : SpecFile). (get_or f.run.steps c.args.first no_step).statements) c.spec-spec.ensures)
    (c.statements-others.ensures.are ∙ ap (λ (f : SpecFile). (get_or f.run.steps c.args.second no_step).statements) c.spec-spec.ensures) in
    sym (base ∙ stop5 (not (i == j)) (not (waits_now r.world.waits i)) (not (waits_now r.world.waits j)) (all_fit r.world i (plans ss))
    (all_fit r.world j (plans ts)) (all_fit_together (plans ss) (plans ts)) (undisturbed r.world i (plans ss)) (undisturbed r.world j (plans ts))
    (ap not (ne_eqb i j c.if-i-j.false)) (ap not (sym c.waits.ensures ∙ c.if-waits.false)) (ap not (sym c.waits-2.ensures ∙ c.if-waits-2.false))
    ((sym c.all_fit.ensures ∙ c.if-not-all_fit.false)) ((sym c.all_fit-2.ensures ∙ c.if-not-all_fit-2.true)))

pub returns-then-not-all_fit_together : goal.returns-then-not-all_fit_together
returns-then-not-all_fit_together c =
    let r = c.args.world.now in
    let i = c.session_of-i.result in
    let j = c.session_of-j.result in
    let ss = c.statements-asks.result.now in
    let ts = c.statements-others.result.now in
    let s = get_or r.file.run.steps c.args.first no_step in
    let t = get_or r.file.run.steps c.args.second no_step in
    let whole : r.spent ≡ false = sym c.spent.ensures ∙ c.if-spent.false in
    let base : is_quiet_in r c.args.first c.args.second ≡ parts r.world i j ss ts =
    quiet-whole r c.args.first c.args.second whole
    ∙ quiet-parts r.world s t i j ss ts
    (c.session_of-i.ensures.is ∙ ap (λ (f : SpecFile). (get_or f.run.steps c.args.first no_step).session) c.spec-spec.ensures)
    (c.session_of-j.ensures.is ∙ ap (λ (f : SpecFile). (get_or f.run.steps c.args.second no_step).session) c.spec-spec.ensures)
    (c.statements-asks.ensures.are ∙ ap (λ (f : SpecFile). (get_or f.run.steps c.args.first no_step).statements) c.spec-spec.ensures)
    (c.statements-others.ensures.are ∙ ap (λ (f : SpecFile). (get_or f.run.steps c.args.second no_step).statements) c.spec-spec.ensures) in
    sym (base ∙ stop6 (not (i == j)) (not (waits_now r.world.waits i)) (not (waits_now r.world.waits j)) (all_fit r.world i (plans ss))
    (all_fit r.world j (plans ts)) (all_fit_together (plans ss) (plans ts)) (undisturbed r.world i (plans ss)) (undisturbed r.world j (plans ts))
    (ap not (ne_eqb i j c.if-i-j.false)) (ap not (sym c.waits.ensures ∙ c.if-waits.false)) (ap not (sym c.waits-2.ensures ∙ c.if-waits-2.false))
    ((sym c.all_fit.ensures ∙ c.if-not-all_fit.false)) ((sym c.all_fit-2.ensures ∙ c.if-not-all_fit-2.false))
    ((sym c.all_fit_together.ensures ∙ c.if-not-all_fit_together.true)))

pub returns-then-not-undisturbed : goal.returns-then-not-undisturbed
returns-then-not-undisturbed c =
    let r = c.args.world.now in
    let i = c.session_of-i.result in
    let j = c.session_of-j.result in
    let ss = c.statements-asks.result.now in
    let ts = c.statements-others.result.now in
    let s = get_or r.file.run.steps c.args.first no_step in
    let t = get_or r.file.run.steps c.args.second no_step in
    let whole : r.spent ≡ false = sym c.spent.ensures ∙ c.if-spent.false in
    let base : is_quiet_in r c.args.first c.args.second ≡ parts r.world i j ss ts =
    quiet-whole r c.args.first c.args.second whole
    ∙ quiet-parts r.world s t i j ss ts
    (c.session_of-i.ensures.is ∙ ap (λ (f : SpecFile). (get_or f.run.steps c.args.first no_step).session) c.spec-spec.ensures)
    (c.session_of-j.ensures.is ∙ ap (λ (f : SpecFile). (get_or f.run.steps c.args.second no_step).session) c.spec-spec.ensures)
    (c.statements-asks.ensures.are ∙ ap (λ (f : SpecFile). (get_or f.run.steps c.args.first no_step).statements) c.spec-spec.ensures)
    (c.statements-others.ensures.are ∙ ap (λ (f : SpecFile). (get_or f.run.steps c.args.second no_step).statements) c.spec-spec.ensures) in
    sym (base ∙ stop7 (not (i == j)) (not (waits_now r.world.waits i)) (not (waits_now r.world.waits j)) (all_fit r.world i (plans ss))
    (all_fit r.world j (plans ts)) (all_fit_together (plans ss) (plans ts)) (undisturbed r.world i (plans ss)) (undisturbed r.world j (plans ts))
    (ap not (ne_eqb i j c.if-i-j.false)) (ap not (sym c.waits.ensures ∙ c.if-waits.false)) (ap not (sym c.waits-2.ensures ∙ c.if-waits-2.false))
    ((sym c.all_fit.ensures ∙ c.if-not-all_fit.false)) ((sym c.all_fit-2.ensures ∙ c.if-not-all_fit-2.false))
    ((sym c.all_fit_together.ensures ∙ c.if-not-all_fit_together.false)) ((sym c.undisturbed.ensures ∙ c.if-not-undisturbed.true)))

pub returns : goal.returns
returns c =
    let r = c.args.world.now in
    let i = c.session_of-i.result in
    let j = c.session_of-j.result in
    let ss = c.statements-asks.result.now in
    let ts = c.statements-others.result.now in
    let s = get_or r.file.run.steps c.args.first no_step in
    let t = get_or r.file.run.steps c.args.second no_step in
    let whole : r.spent ≡ false = sym c.spent.ensures ∙ c.if-spent.false in
    let base : is_quiet_in r c.args.first c.args.second ≡ parts r.world i j ss ts =
    quiet-whole r c.args.first c.args.second whole
    ∙ quiet-parts r.world s t i j ss ts
    (c.session_of-i.ensures.is ∙ ap (λ (f : SpecFile). (get_or f.run.steps c.args.first no_step).session) c.spec-spec.ensures)
    (c.session_of-j.ensures.is ∙ ap (λ (f : SpecFile). (get_or f.run.steps c.args.second no_step).session) c.spec-spec.ensures)
    (c.statements-asks.ensures.are ∙ ap (λ (f : SpecFile). (get_or f.run.steps c.args.first no_step).statements) c.spec-spec.ensures)
    (c.statements-others.ensures.are ∙ ap (λ (f : SpecFile). (get_or f.run.steps c.args.second no_step).statements) c.spec-spec.ensures) in
    c.undisturbed-2.ensures ∙ sym (base ∙ go7 (not (i == j)) (not (waits_now r.world.waits i)) (not (waits_now r.world.waits j))
    (all_fit r.world i (plans ss)) (all_fit r.world j (plans ts)) (all_fit_together (plans ss) (plans ts)) (undisturbed r.world i (plans ss))
    (undisturbed r.world j (plans ts))
    (ap not (ne_eqb i j c.if-i-j.false)) (ap not (sym c.waits.ensures ∙ c.if-waits.false)) (ap not (sym c.waits-2.ensures ∙ c.if-waits-2.false))
    ((sym c.all_fit.ensures ∙ c.if-not-all_fit.false)) ((sym c.all_fit-2.ensures ∙ c.if-not-all_fit-2.false))
    ((sym c.all_fit_together.ensures ∙ c.if-not-all_fit_together.false)) ((sym c.undisturbed.ensures ∙ c.if-not-undisturbed.false)))
