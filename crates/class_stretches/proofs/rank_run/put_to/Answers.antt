use Rattle.std.proofs.Common.{◌<◌, ◌∙◌, ◌∷◌, ◌++◌, [], ap, length, set, arith}
use Rattle.class_stretches.proofs.Passes.{run-set, run-pushed}
use Rattle.class_stretches.proofs.rank_run.put_to.Goals as goal

pub returns-then-place-len : goal.returns-then-place-len
returns-then-place-len c =
    let all = c.args.all.now in
    let inside : c.args.class < length all.items = omega (arith, c.if-place-len.true, c.len.ensures, all.ok.0) in
    ap (set all.items c.args.class) c.in_ok-push.ensures.ok
    ∙ run-set all.items c.args.class c.args.run c.index_mut.result.now inside c.index_mut.ensures.value

pub returns : goal.returns
returns c =
    let all = c.args.all.now in
    c.in_ok-push-2.ensures.items
    ∙ ap (λ runs. all.items ++ runs ∷ []) c.in_ok-from_slice.ensures
    ∙ run-pushed all.items c.args.class c.args.run (omega (arith, c.if-place-len.false, c.len.ensures, all.ok.0, c.requires))
