use Rattle.std.proofs.Common.{refl, sym, ap, ◌∙◌, subst, []}
use Rattle.perm_ranks.specs.Words.{total}
use Rattle.perm_ranks.specs.Blocks.{Block, IsBlockOf}
use Rattle.machine_model.specs.Start.{Started}
use Rattle.session_machine.specs.Running.{Running}
use Rattle.step_reducer.specs.declared.word_walk.WordWalk.{WordWalk}
use Rattle.step_reducer.proofs.Firsts.{words-first}
use Rattle.step_reducer.proofs.word_walk.WordWalk.new.Goals as goal

pub returns-clause-walk : goal.returns-clause-walk
returns-clause-walk c =
    let w : WordWalk = record {
      table = c.in_ok-table.table;
      reduce = c.args.reduce;
      end = c.args.end;
      steps = c.letters_left-steps.result;
      at = c.args.first;
      stack = c.new-stack.result;
    } in
    let made = c.new-stack.ensures in (
      words-first c.args.spec.now w c.args.shape.now c.requires.shape c.requires.words
          (c.requires.started ∙ ap (λ (r : Running). Started r.world) (sym made.world))
          (ap (λ (r : Running). r.spent) made.world ∙ c.requires.whole)
          (ap (λ (r : Running). r.file) made.world ∙ c.requires.of_spec)
          (subst (λ b. IsBlockOf c.args.shape.now [] b) (sym made.block) c.block-block.ensures.whole)
          (made.block ∙ c.block-block.ensures.all) made.swaps made.below
          c.in_ok-table.ensures (c.letters_left-steps.ensures.all ∙ ap (λ (b : Block). total b.left) c.block-block.ensures.all) c.requires.few c.requires.order,
      refl,
    )
