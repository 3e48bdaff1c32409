-- What is told of a file that is no spec.
use Rattle.std.specs.Prelude.{◌≡◌, ℕ, List, [], ◌∷◌, ◌++◌, map, All, codes}
use Rattle.spec_reader.specs.Text.{IsSpec}
use Rattle.spec_reader.specs.Tree.{SpecTree}
use Rattle.binding_model.specs.declared.error.BindError.{BindError}
use Rattle.spec_binding.specs.declared.spec.SpecFault.{SpecFault}
use Rattle.spec_binding.specs.declared.spec.SpecFault.TheVariants.{Text, Binding}
use Rattle.fault_texts.specs.Explanations.{explanation}
use Rattle.file_blocks.specs.Blocks.{sent_blocks}
use Rattle.spec_findings.specs.Faults.{IsFaultIn}

-- where a spec's first fault is
abbrev pub offset_of : SpecFault → ℕ
offset_of (Text error) = error.offset
offset_of (Binding error) = error.offset

-- a fault beyond the first, and what is said of it
pub record Also : Type 0 where
  pub error : BindError
  pub sentence : List ℕ

-- each behind a line end and a word
abbrev pub also_line : List ℕ → List ℕ → Also → List ℕ
also_line path text a = codes "\nalso " ++ explanation path text a.error.offset a.sentence

abbrev pub also_lines : List ℕ → List ℕ → List Also → List ℕ
also_lines path text [] = []
also_lines path text (a ∷ as') = also_line path text a ++ also_lines path text as'

-- these faults are told behind what is told so far
pub record TellsFaults (path text before : List ℕ) (faults : List BindError) (told : List ℕ) : Type 0 where
  pub more : List Also
  pub faults_are : map (λ (a : Also). a.error) more ≡ faults
  pub told_is : told ≡ before ++ also_lines path text more

-- faults of the spec that the text is of are told so
pub record TellsMore (path text before told : List ℕ) : Type 0 where
  pub tree : SpecTree
  pub is_spec : IsSpec text tree
  pub faults : List BindError
  pub are_faults : All (IsFaultIn (sent_blocks tree)) faults
  pub tells : TellsFaults path text before faults told

-- the first fault is explained, and behind it those of other statements, where the text can be read
abbrev pub AreTold : List ℕ → List ℕ → SpecFault → List ℕ → Type 0
AreTold path text (Text error) told = (sentence : List ℕ) × (told ≡ explanation path text error.offset sentence)
AreTold path text (Binding error) told = (sentence : List ℕ) × TellsMore path text (explanation path text error.offset sentence) told
