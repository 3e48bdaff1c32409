use Rattle.std.proofs.Common.{refl, sym, ap, ◌∙◌, subst, Option, ℕ}
use Rattle.std.specs.Prelude.{Result, Ok, Err}
use Rattle.std.specs.Result.{IfOk}
use Rattle.events.specs.declared.event.Fault.TheVariants.{Duplicate}
use Rattle.events.specs.declared.event.Event.TheVariants.{Inserted}
use Rattle.bound_statements.specs.declared.statement.Bound.TheVariants.{Insert}
use Rattle.row_tables.specs.Layers.{sight}
use Rattle.statement_evaluation.specs.Effect.{effect, or_fault, counted}
use Rattle.statement_execution.specs.Run.{SeesAlone}
use Rattle.statement_execution.proofs.GivenLemmas.{effect-placed, effect-numbered, keys-alone}
use Rattle.statement_execution.proofs.insert.made.Goals as goal

if_ok : {A E : Type 0} {P Q : A → Type 0} (result : Result A E) → ((x : A) → P x → Q x) → IfOk result P → IfOk result Q
if_ok (Ok x) f p = f x p
if_ok (Err e) f p = p

pub placed-requires : goal.placed-requires
placed-requires g c =
    let rows = g.S.Sight.layers c.args.rows in
    let keys = keys-alone c.args.session c.args.table c.in-Some.key_column c.args.new.now rows
    (subst (λ (o : Option ℕ). SeesAlone c.args.session (Insert c.args.table o c.args.new.now) rows) c.in-Some.is c.requires) in
    λ k. ((refl, tt), keys)

pub returns-in-Some : goal.returns-in-Some
returns-in-Some g c =
    let rows = sight c.args.session (g.S.Sight.layers c.args.rows) in
    if_ok c.placed.result
    (λ writes e. ap (λ o. or_fault Duplicate o Inserted) e ∙ sym (effect-placed rows c.args.table c.in-Some.key_column c.args.new.now)
    ∙ ap (λ o. effect (Insert c.args.table o c.args.new.now) rows) (sym c.in-Some.is))
    c.placed.ensures

pub returns-in_ok-numbered-in-None : goal.returns-in_ok-numbered-in-None
returns-in_ok-numbered-in-None g c =
    let rows = sight c.args.session (g.S.Sight.layers c.args.rows) in
    ap (counted Inserted) c.in_ok-numbered-in-None.ensures
    ∙ sym (effect-numbered rows c.args.table c.args.new.now)
    ∙ ap (λ o. effect (Insert c.args.table o c.args.new.now) rows) (sym c.in-None.is)
