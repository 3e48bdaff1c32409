use Rattle.std.proofs.Common.{subst, sym}
use Rattle.class_commands.specs.LevelParts.{IsLevelsText}
use Rattle.class_commands.proofs.levels.write_levels.Goals as goal

pub returns-in-Ok-write_all : goal.returns-in-Ok-write_all
returns-in-Ok-write_all g c =
    let IsText = IsLevelsText c.args.path.now c.args.wanted.now c.args.kept.now c.args.found.now in
    (c.as_bytes.result.now, subst IsText (sym c.as_bytes.ensures.value) c.in-Ok.ensures, c.in-Ok-write_all.ensures)

pub returns : goal.returns
returns g c =
    let IsText = IsLevelsText c.args.path.now c.args.wanted.now c.args.kept.now c.args.found.now in
    (c.as_bytes.result.now, subst IsText (sym c.as_bytes.ensures.value) c.in-Ok.ensures, c.in-Err.ensures)
