-- What contracts see of a spec, and what it keeps.
use Rattle.std.specs.Prelude.{string_bytes}
use Rattle.bound_specs.specs.declared.spec.Parts.{Parts}
use Rattle.bound_specs.specs.Binding.{IsFileAt}
use Rattle.bound_specs.specs.Orders.{lines_of, IsOrderOf}
use Rattle.bound_specs.specs.Spec.{SpecFile, IsReady}

abbrev pub file_of : Parts → SpecFile
file_of s = record {
  text = string_bytes s.text;
  session_names = s.session_names.items;
  step_names = s.step_names.items;
  asked = s.levels;
  run = record {
    sessions = s.sessions;
    steps = s.steps.items;
    setups = s.setups.items;
    session_setups = s.session_setups.items;
    lines = lines_of s.orders;
  };
}

-- what every spec keeps: it is what its text binds to where its level is asked for, or none, it is ready to run, and its orders are its own
pub record IsKept (s : Parts) : Type 0 where
  pub is_file : IsFileAt (file_of s).text (file_of s)
  pub ready : IsReady (file_of s)
  pub orders : IsOrderOf s.orders (file_of s).run
