use Rattle.std.proofs.Common.{◌<◌, All, sym, ap, ◌∙◌, subst, map, arith}
use Rattle.std.proofs.lemmas.List.Elements.{All-push}
use Rattle.std.proofs.lemmas.List.{take_all}
use Rattle.bound_specs.specs.Spec.{line_of, ranks as count_of}
use Rattle.spec_classes.proofs.LineTold.{drawn-all, drawn-next, ranks-lines}
use Rattle.spec_classes.proofs.classes.line_ranks.Goals as goal

pub loop-rank-preserved : goal.loop-rank-preserved
loop-rank-preserved c =
    let run = c.args.spec.now.run in
    let old = c.loop-rank.ranks.items in
    let more = c.in_ok-push.ensures.items in
    let all = ranks-lines run c.requires in
    let here : c.loop-rank.rank < count_of run = let lt = c.loop-rank-test.true in let end = c.ranks-rank-end.ensures in omega (arith, lt, end) in record {
      inside = subst (All (λ r. r < count_of run)) (sym more) (All-push (λ r. r < count_of run) old c.loop-rank.rank c.loop-rank.invariant.inside here);
      all = ap (map (line_of run)) more ∙ drawn-next run old c.loop-rank.rank c.requires (omega (arith, here, all)) c.loop-rank.invariant.all;
    }

pub returns-clause-all : goal.returns-clause-all
returns-clause-all c =
    let run = c.args.spec.now.run in
    let all = ranks-lines run c.requires in
    let end = c.ranks-rank-end.ensures in
    let past = c.loop-rank-test.false in
    drawn-all run c.loop-rank.ranks.items (c.loop-rank.invariant.all ∙ take_all c.loop-rank.rank run.lines (omega (arith, all, end, past)))
