use Rattle.std.proofs.Common.{refl, subst}
use Rattle.class_commands.specs.LevelParts.{AreResultsOf}
use Rattle.class_commands.proofs.levels.kept_of.Goals as goal

pub returns : goal.returns
returns c =
    record { levels = refl; totals = refl; results = subst (λ rows. AreResultsOf rows c.in_ok-results.results) c.as_slice.ensures.value c.in_ok-results.ensures }
