-- Pages of classes as they are written.
use Rattle.std.specs.Prelude.{◌≡◌, ℕ, Bool, true, false, List, [], map, string_bytes}
use Rattle.bound_specs.specs.Spec.{Step, SpecFile}
use Rattle.spec_texts.specs.Texts.{AreStepLines}
use Rattle.class_stretches.specs.Stretches.{Stretched, AreRunsBy}
use Rattle.class_stretches.specs.declared.rank_run.RankRun.{RankRun}
use Rattle.class_texts.specs.Pages.{Page, page_bytes}
use Rattle.class_values.specs.Page.{classes_json}
use Rattle.class_commands.specs.declared.written.Written.{Written}
use Rattle.class_commands.specs.declared.written.Written.TheVariants.{Text, Bytes}

-- what is written of a page of the spec file that the bytes are: its text, or its JSON with what the steps send
abbrev pub IsWritten : Bool → List ℕ → SpecFile → Page → List ℕ → Type 0
IsWritten false bytes file page text = text ≡ page_bytes page
IsWritten true bytes file page text =
    (statements : List (List ℕ)) × AreStepLines bytes file statements × (text ≡ classes_json page (map (λ (s : Step). s.session) file.run.steps) statements)

-- the ranks of each class, where they are told
abbrev pub AreRanks : Bool → Stretched → List (List RankRun) → Type 0
AreRanks true s runs = AreRunsBy s.list s.classes runs
AreRanks false s runs = runs ≡ []

abbrev pub written_bytes : Written → List ℕ
written_bytes (Text text) = string_bytes text
written_bytes (Bytes bytes) = bytes.items
