-- Which bytes are no spec file.
use Rattle.std.specs.Prelude.{◌≡◌, ℕ, ◌⊎◌, List, Err}
use Rattle.spec_reader.specs.Tree.{SpecTree}
use Rattle.spec_reader.specs.Text.{IsSpec, Explains}
use Rattle.bound_specs.specs.Binding.{bound_file}
use Rattle.spec_reader.specs.declared.error.Kind.TheVariants as spec_kind
use Rattle.binding_model.specs.declared.error.BindErrorKind.TheVariants.{NoMemory}
use Rattle.spec_binding.specs.declared.spec.SpecFault.{SpecFault}
use Rattle.spec_binding.specs.declared.spec.SpecFault.TheVariants.{Text, Binding}

-- why bytes are no spec file: reading refuses them, or binding does, or memory ran out
abbrev pub IsNoSpec : List ℕ → SpecFault → Type 0
IsNoSpec bytes (Text error) = Explains bytes error
IsNoSpec bytes (Binding error) = (tree : SpecTree) × IsSpec bytes tree
    × ((bound_file bytes tree ≡ Err error) ⊎ (error ≡ record { kind = NoMemory; offset = 0 }))

-- memory ran out
abbrev pub IsMemory : SpecFault → Type 0
IsMemory (Text error) = error.kind ≡ spec_kind.NoMemory
IsMemory (Binding error) = error.kind ≡ NoMemory
