use Rattle.std.specs.Result.{IfOk, OnOk}
use Rattle.std.specs.Prelude.{Option, Result, Ok, Err}
use Rattle.std.proofs.Common.{◌≡◌, refl, sym, ap, ◌∙◌, subst, ◌⊎◌, ◌++◌, inl, inr}
use Rattle.bound_statements.specs.declared.statement.Bound.{Bound}
use Rattle.bound_statements.specs.declared.statement.Level.{Level}
use Rattle.bound_statements.specs.declared.statement.Bound.TheVariants.{Select, Insert, Update, Delete, Begin, Commit, Rollback, Lock, SetVariable}
use Rattle.row_tables.specs.Layers.{sight}
use Rattle.statement_evaluation.specs.Effect.{effect}
use Rattle.statement_execution.specs.Run.{events_of, left_by}
use Rattle.machine_model.specs.Session.{Begins, Works, kind}
use Rattle.machine_model.specs.Go.{is_broken}
use Rattle.session_steps.specs.Going.{Does}
use Rattle.session_steps.specs.Stage.{member_at, standing_at}
use Rattle.session_steps.proofs.Moves.{does-work}
use Rattle.session_steps.proofs.performing.work.Goals as goal

-- of the statements that end no transaction only BEGIN does not work
works-else : (st : Bound) → ((level : Level) × (kind st ≡ Begins level)) ⊎ (kind st ≡ Works) → ((named : Option Level) → st ≡ Begin named → ⊥)
    → kind st ≡ Works
works-else st (inr is) other = is
works-else (Begin named) (inl is) other = absurd (other named refl)
works-else Commit (inl is) other = let no = is.1 in cc
works-else Rollback (inl is) other = let no = is.1 in cc
works-else (Select t key w by out l) (inl is) other = let no = is.1 in cc
works-else (Insert t key new) (inl is) other = let no = is.1 in cc
works-else (Update t key sets w) (inl is) other = let no = is.1 in cc
works-else (Delete t key w) (inl is) other = let no = is.1 in cc
works-else (Lock t m n) (inl is) other = let no = is.1 in cc
works-else SetVariable (inl is) other = let no = is.1 in cc

-- two facts of one answer
if_both : {A E Q : Type 0} {P S : A → Type 0} (result : Result A E) → IfOk result P → OnOk result Q → ((x : A) → P x → Q → S x) → IfOk result S
if_both (Ok x) p q f = f x p q
if_both (Err e) p q f = tt

pub returns-in_default : goal.returns-in_default
returns-in_default g c =
    let i = c.args.session in
    let x = g.S.Stage.staged c.args.stage.now in
    let y = g.S.Stage.staged c.run.new.self in
    let st = c.args.statement.now in
    let s = (member_at x i).state in
    let whole = ap is_broken (sym c.status.ensures) ∙ sym c.if-is_broken.ensures in
    let ran = effect st (sight i x.store) in
    record {
      does = if_both c.run.result c.run.ensures.fault c.run.ensures.ran (λ fault is left. subst (λ z. Does i (standing_at i x) st z fault) (sym left)
          (does-work i x.store (left_by i ran x.store) x.locks s st (s.transcript ++ events_of ran) fault
          (works-else st c.requires.ends_none c.in_default.not-Begin) whole is refl refl));
      others = c.run.ensures.others;
      past = c.run.ensures.past;
    }
