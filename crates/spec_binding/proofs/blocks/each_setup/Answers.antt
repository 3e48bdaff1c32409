use Rattle.std.proofs.Common.{sym, ap, ◌∙◌, []}
use Rattle.std.proofs.lemmas.Result.{err_from_is_err_and}
use Rattle.spec_reader.specs.Views.{block_tree}
use Rattle.bound_specs.specs.Binding.{then_more, main_setup}
use Rattle.spec_binding.proofs.DeclaredLemmas.{declared-goes_on, declared-refused, declared-starts, still-refused}
use Rattle.spec_binding.proofs.blocks.each_setup.Goals as goal

pub loop-block-init : goal.loop-block-init
loop-block-init c = rw c.new-all.ensures.items (declared-starts (λ t b. main_setup t (block_tree b)) c.args.tables.now.items c.args.blocks.now)

pub loop-block-preserved : goal.loop-block-preserved
loop-block-preserved c =
    sym (declared-goes_on (λ t b. main_setup t (block_tree b)) c.loop-block.tables.items c.loop-block.all.items c.args.blocks.now c.loop-block.block-index
    c.block-item.result c.push_setup.new.tables.items c.push_setup.new.all.items c.loop-block-test.true
    (ap (λ b. then_more c.loop-block.all.items (main_setup c.loop-block.tables.items (block_tree b))) (sym c.block-item.is) ∙ c.in_ok-push_setup.ensures))
    ∙ c.loop-block.invariant

pub returns-in_err-push_setup : goal.returns-in_err-push_setup
returns-in_err-push_setup c =
    let p = err_from_is_err_and c.from_residual.result c.from_residual.ensures.1 in
    rw (p.1, p.2)
    (still-refused ([], []) _ _ _ c.in_err-push_setup.ensures
    (λ e told. sym c.loop-block.invariant
    ∙ declared-refused (λ t b. main_setup t (block_tree b)) c.loop-block.tables.items c.loop-block.all.items c.args.blocks.now c.loop-block.block-index
    c.block-item.result e c.loop-block-test.true
    (ap (λ b. then_more c.loop-block.all.items (main_setup c.loop-block.tables.items (block_tree b))) (sym c.block-item.is) ∙ told)))
