use Rattle.std.proofs.Common.{refl, sym, ◌∙◌, arith, ◌≡◌, true, false}
use Rattle.fact_books.specs.Sweep.{leads_of}
use Rattle.fact_books.specs.Recording.{is_from}
use Rattle.fact_books.proofs.RecordedRuns.{lead-along, lead-not, along-more, along-from, along-same, along-back}
use Rattle.fact_books.proofs.recording.leads_along.Goals as goal

pub returns-then-not-is_from : goal.returns-then-not-is_from
returns-then-not-is_from c =
    let run = c.args.spec.now.run in
    let shape = c.shape_of-shape.result in
    let lead = c.lead_of-lead.result.0 in
    let stays : is_from lead ≡ false = sym c.is_from.ensures ∙ c.if-not-is_from.true in (
      λ h. absurd (let f : false ≡ true = h in cc),
      λ all.
          absurd (lead-not (leads_of shape) c.args.place c.loop-rank.rank c.lead_of-lead.result.1 lead c.args.end c.lead_of-lead.ensures.some
          c.loop-rank-test.true
          c.lead_of-lead.ensures.lead stays
          (along-from (leads_of shape) c.args.place c.args.first c.loop-rank.rank c.args.end c.loop-rank.invariant.0
          (along-back run shape c.args.place c.args.first c.args.end c.shape_of-shape.ensures all))),
    )

pub loop-rank-preserved : goal.loop-rank-preserved
loop-rank-preserved c =
    let shape = c.shape_of-shape.result in
    let lead = c.lead_of-lead.result.0 in
    let goes : is_from lead ≡ true = sym c.is_from.ensures ∙ c.if-not-is_from.false in
    let from = c.loop-rank.invariant.0 in
    let some = c.lead_of-lead.ensures.some in (
      omega (arith, from, some),
      along-more (leads_of shape) c.args.place c.args.first c.loop-rank.rank c.lead_of-lead.result.1 c.loop-rank.invariant.1
          (lead-along (leads_of shape) c.args.place c.loop-rank.rank c.lead_of-lead.result.1 lead c.lead_of-lead.ensures.lead goes),
    )

pub returns : goal.returns
returns c =
    let run = c.args.spec.now.run in
    let shape = c.shape_of-shape.result in
    let past = c.loop-rank-test.false in (
      λ h. along-same run shape c.args.place c.args.first c.args.end c.shape_of-shape.ensures
          (λ r low lt. c.loop-rank.invariant.1 r low (omega (arith, lt, past))),
      λ all. refl,
    )
