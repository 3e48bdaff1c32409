use Rattle.std.proofs.Common.{◌≡◌, ◌-◌, ◌∙◌, ap, arith, get_or, min, subst, sym, take}
use Rattle.std.specs.Prelude.{All}
use Rattle.std.proofs.lemmas.List.{get_or_default, take_all, take_more}
use Rattle.std.proofs.lemmas.List.Elements.{All-push}
use Rattle.fact_books.specs.declared.run.Run.{Run}
use Rattle.fact_books.specs.declared.run.Tag.TheVariants.{Ran}
use Rattle.book_format.specs.BookText.{total_of}
use Rattle.book_format.specs.Laws.{RunFits}
use Rattle.book_format.proofs.LengthLemmas.{total-more, capped-more}
use Rattle.book_format.proofs.lengths.facts_in.Goals as goal

pub loop-run-preserved : goal.loop-run-preserved
loop-run-preserved c =
    let runs = c.args.runs.now in
    let i = c.loop-run.run-index in
    let d : Run = record { first = 0; end = 0; tag = Ran 0 } in
    let ranks : c.ranks_in.result ≡ (get_or runs i d).end - (get_or runs i d).first =
    c.ranks_in.ensures ∙ ap (λ (r : Run). r.end - r.first) (get_or_default runs i _ d c.loop-run-test.true) in
    let fits : RunFits (get_or runs i d) = subst RunFits (get_or_default runs i _ d c.loop-run-test.true) c.widths.ensures in (
      capped-more _ _ _ _ _ _ c.loop-run.invariant.0 ranks (total-more runs i d c.loop-run-test.true) _ c.saturating_add-facts.ensures,
      subst (All RunFits) (sym (take_more runs i d c.loop-run-test.true)) (All-push RunFits (take i runs) (get_or runs i d) c.loop-run.invariant.1 fits),
    )

pub returns : goal.returns
returns c =
    let runs = c.args.runs.now in
    let all : take c.loop-run.run-index runs ≡ runs = take_all c.loop-run.run-index runs (omega (arith, c.loop-run-test.false)) in
    record {
      facts = subst (λ rs. c.loop-run.facts ≡ min (total_of rs) 18446744073709551615) all c.loop-run.invariant.0;
      fit =
          subst (All RunFits) all c.loop-run.invariant.1;
    }
