-- What quiet steps do.
use Rattle.std.proofs.Common.{◌≡◌, ◌<◌, ℕ, arith, true, get_or, length}
use Rattle.bound_specs.specs.Spec.{no_step}
use Rattle.rank_facts.specs.Quiet.{is_quiet}
use Rattle.rank_facts.proofs.Calm.{quiet-calm}
use Rattle.rank_facts.proofs.FromQuiet.{quiet-commute}
use Rattle.marked_worlds.specs.Worlds.{IsOfSpec, MarkedRunning}
use Rattle.marked_quiet.specs.Quiet.{session_of, HaveOneEnd, AreCalm}

module _ (r : MarkedRunning) (k l : ℕ) (known : IsOfSpec r.file r.world) (first : session_of r k < r.file.run.sessions)
    (second : session_of r l < r.file.run.sessions)
    (quiet : is_quiet r.world (get_or r.file.run.steps k no_step) (get_or r.file.run.steps l no_step) ≡ true) where
  first-in : session_of r k < length r.world.sessions
  first-in = let count = known.sessions in omega (arith, count, first)

  second-in : session_of r l < length r.world.sessions
  second-in = let count = known.sessions in omega (arith, count, second)

  pub one-end : HaveOneEnd r k l
  one-end = quiet-commute r.file.run.steps r.world k l known.sound first-in second-in quiet

  pub calm : AreCalm r k l
  calm =
      let both = quiet-calm r.file.run.steps r.world k l known.sound first-in second-in quiet in
      record {
        first = both.0.0;
        first_waits = both.0.1;
        first_others = both.0.2;
        both = (both.1.0, both.1.1);
        both_waits = both.1.2;
        both_others = both.1.3;
      }
