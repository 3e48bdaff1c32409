use Rattle.class_commands.proofs.LevelLemmas.{levels-run}
use Rattle.class_commands.proofs.levels.both_levels.Goals as goal

pub returns : goal.returns
returns g c =
    levels-run g.W.Write.contents c.args.out.now c.args.bytes.now c.args.path.now c.args.wanted.now c.in-Ok.kept c.in-Ok.ensures.kept c.in-Ok-found_at.found
    c.in-Ok-found_at.ensures.found c.write_levels.new.out c.write_levels.result c.write_levels.ensures
