use Rattle.std.proofs.Common.{◌≡◌, refl, subst, inl, inr, ⊎_elim, Ok, Err, [], length, arith}
use Rattle.std.proofs.lemmas.List.Elements.{All-nil}
use Rattle.serde_json.specs.View.{items_view}
use Rattle.book_format.specs.ReadingRuns.{AreRunsOf}
use Rattle.book_format.proofs.ReadLemmas.{IsToldBy, outcomes-told}
use Rattle.book_format.proofs.RunLaws.{read-rising, read-sound, read-recordable}
use Rattle.book_format.proofs.reading.form.book_of_runs.Goals as goal

pub returns-in-Err-runs_of : goal.returns-in-Err-runs_of
returns-in-Err-runs_of c =
    let size : c.in_ok-count.count ≡ length c.in-Ok.table = omega (arith, c.len.ensures, c.in_ok-count.ensures) in
    ⊎_elim
    (λ refused. inl (inl (
      c.in-Ok.table,
      c.in-Ok.ensures,
      inr (
        c.in-Err-runs_of.error,
        subst (λ n. AreRunsOf c.args.spec.now.run n (items_view c.args.facts.now) (Err c.in-Err-runs_of.error)) size refused,
        refl,
      ),
    )))
    (λ memory. inr memory) c.in-Err-runs_of.ensures

pub of_runs-requires-clause-rising : goal.of_runs-requires-clause-rising
of_runs-requires-clause-rising c =
    let size : c.in_ok-count.count ≡ length c.in-Ok.table = omega (arith, c.len.ensures, c.in_ok-count.ensures) in
    read-rising c.args.spec.now.run c.in-Ok.table (items_view c.args.facts.now) c.in-Ok-runs_of.runs.items
    (subst (λ n. AreRunsOf c.args.spec.now.run n (items_view c.args.facts.now) (Ok c.in-Ok-runs_of.runs.items)) size c.in-Ok-runs_of.ensures)

pub of_runs-requires-clause-sound : goal.of_runs-requires-clause-sound
of_runs-requires-clause-sound c =
    let size : c.in_ok-count.count ≡ length c.in-Ok.table = omega (arith, c.len.ensures, c.in_ok-count.ensures) in
    read-sound c.args.spec.now.run c.in-Ok.table (items_view c.args.facts.now) c.in-Ok-runs_of.runs.items
    (subst (λ n. AreRunsOf c.args.spec.now.run n (items_view c.args.facts.now) (Ok c.in-Ok-runs_of.runs.items)) size c.in-Ok-runs_of.ensures)

pub of_runs-requires-clause-recordable : goal.of_runs-requires-clause-recordable
of_runs-requires-clause-recordable c =
    let size : c.in_ok-count.count ≡ length c.in-Ok.table = omega (arith, c.len.ensures, c.in_ok-count.ensures) in
    read-recordable c.args.spec.now.run c.in-Ok.table (items_view c.args.facts.now) c.in-Ok-runs_of.runs.items
    (subst (λ n. AreRunsOf c.args.spec.now.run n (items_view c.args.facts.now) (Ok c.in-Ok-runs_of.runs.items)) size c.in-Ok-runs_of.ensures)
    (outcomes-told c.args.spec.now.run [] (items_view c.args.outcomes.now) c.in-Ok.table (All-nil (IsToldBy c.args.spec.now.run)) c.in-Ok.ensures)

pub returns : goal.returns
returns c =
    let size : c.in_ok-count.count ≡ length c.in-Ok.table = omega (arith, c.len.ensures, c.in_ok-count.ensures) in
    let made = c.in_ok-of_runs.ensures in
    inl (
      c.in-Ok.table,
      c.in-Ok.ensures,
      inl (
        c.in-Ok-runs_of.runs.items,
        subst (λ n. AreRunsOf c.args.spec.now.run n (items_view c.args.facts.now) (Ok c.in-Ok-runs_of.runs.items)) size c.in-Ok-runs_of.ensures,
        λ i. Ok (record { file = made.file i; facts = made.facts i }),
      ),
    )
