use Rattle.std.proofs.Common.{rules, ◌≡◌, length, vec_len, arith}
use Rattle.class_commands.proofs.SampleLemmas.{placed-next, placed-all}
use Rattle.class_commands.proofs.sampling.put_ranks.Goals as goal

pub loop-place-preserved : goal.loop-place-preserved
loop-place-preserved c =
    let long : vec_len c.args.rows.now ≡ length c.args.rows.now.items = search rules in
    let lt = c.loop-place-test.true in
    let end = c.len-place-end.ensures in
    placed-next c.args.ranks.now c.args.rows.now.items c.loop-place.rows.items c.put_rank.new.rows.items c.loop-place.place (omega (arith, long, lt, end)) c.loop-place.invariant
    c.put_rank.ensures

pub returns : goal.returns
returns c =
    let long : vec_len c.args.rows.now ≡ length c.args.rows.now.items = search rules in
    let past = c.loop-place-test.false in
    let end = c.len-place-end.ensures in
    placed-all c.args.ranks.now c.args.rows.now.items c.loop-place.rows.items c.loop-place.place (omega (arith, long, past, end)) c.loop-place.invariant
