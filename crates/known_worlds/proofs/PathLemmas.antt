-- What a path tells, by the spec that it is of.
use Rattle.std.proofs.Common.{◌≡◌, sym, ap, subst, Bool, List}
use Rattle.bound_specs.specs.Spec.{SpecFile}
use Rattle.events.specs.declared.event.Event.{Event}
use Rattle.machine_model.specs.World.{send_all, outcome_of}
use Rattle.known_worlds.specs.Paths.{first_world}
use Rattle.known_worlds.specs.Paths.{IsPath}
use Rattle.known_worlds.specs.declared.path.MarkedPath.{MarkedPath}

-- a path is one of its own spec
pub path-own : (file : SpecFile) (p : MarkedPath) → IsPath file p → IsPath p.world.file p
path-own file p is = subst (λ f. IsPath f p) (sym is.file_is) is

pub path-told : (file : SpecFile) (p : MarkedPath) → IsPath file p
    → outcome_of p.world.file.run.sessions (send_all p.world.file.run.steps (first_world p.world.file.run) p.line.items)
    ≡ outcome_of file.run.sessions (send_all file.run.steps (first_world file.run) p.line.items)
path-told file p is = ap (λ (f : SpecFile). outcome_of f.run.sessions (send_all f.run.steps (first_world f.run) p.line.items)) is.file_is

-- where more was told and the machine has caught up, the path is the same
pub path-told-more : (file : SpecFile) (p : MarkedPath) (told : List (List (List Event))) (level : Bool) → IsPath file p
    → IsPath file (record p { world = record p.world { told = told; level = level } })
path-told-more file p told level is = record {
  file_is = is.file_is;
  starts = is.starts;
  along = record { whole = is.along.whole; now = is.along.now; marked = is.along.marked };
}
