-- What binding lets go of a spec's text: the tables of its main setups, and the texts of its steps.
use Rattle.std.specs.Prelude.{◌≡◌, ℕ, List, [], map, flat_map, Ok}
use Rattle.spec_reader.specs.Tree.{StepTree, SessionTree}
use Rattle.bound_statements.specs.declared.statement.Bound.{Bound}
use Rattle.binding_model.specs.declared.tables.Table.{Table}
use Rattle.bound_specs.specs.Binding.{IsFileAt, declared, main_setup}
use Rattle.bound_specs.specs.Spec.{SpecFile}
use Rattle.spec_texts.specs.OneLine.{one_line}

-- the main setups of the file of this text declare these tables, and send these blocks as they are written
pub record Declares (text : List ℕ) (file : SpecFile) (tables : List Table) : Type 0 where
  pub is : IsFileAt text file
  pub blocks : List (List Bound)
  pub declares : declared main_setup [] is.tree.front.setups ≡ Ok (tables, blocks)

-- what each step sends, on one line, in the order of the file over all sessions
abbrev pub step_lines : List SessionTree → List (List ℕ)
step_lines sessions = flat_map (λ (s : SessionTree). map (λ (t : StepTree). one_line t.block.text) s.steps) sessions

-- so it is in the file of this text
pub record AreStepLines (text : List ℕ) (file : SpecFile) (lines : List (List ℕ)) : Type 0 where
  pub is : IsFileAt text file
  pub are : lines ≡ step_lines is.tree.sessions
