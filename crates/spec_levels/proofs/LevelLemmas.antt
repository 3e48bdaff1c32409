-- Levels that are not modelled, and what is told of them.
use Rattle.std.proofs.Common.{◌≡◌, sym, ap, ◌∙◌, subst, ℕ, true, List, [], ◌∷◌, Option, None, Some, Result, Ok, Err, slice_get, inr}
use Rattle.std.specs.Prelude.{is_some, IfOk, IfErr}
use Rattle.binding_model.specs.Refusals.{each}
use Rattle.bound_statements.specs.declared.statement.Level.{Level}
use Rattle.bound_specs.specs.Binding.{IsFileAt, declared, main_setup, session, shaped, written_file}
use Rattle.bound_specs.specs.Levels.{levelled_file}
use Rattle.bound_specs.specs.Lines.{orders_of}
use Rattle.bound_specs.specs.Spec.{SpecFile}
use Rattle.bound_specs.proofs.FileLemmas.{bind}
use Rattle.spec_texts.specs.Levels.{AreRepeatableLines}
use Rattle.spec_levels.specs.Asking.{asked_level}
use Rattle.spec_levels.specs.Levelled.{IsLevelledSpec, IsNoLevelledSpec, IsNotModelled, repeatable_lines}
use Rattle.spec_levels.specs.Parts.{IsFirstUnmodelled, IsLevelFor, IsModelled, IsUnmodelled, IsUnmodelledOn}
use Rattle.spec_levels.specs.declared.asking.LevelFault.{LevelFault}
use Rattle.spec_levels.specs.declared.asking.LevelFaultKind.TheVariants.{NotModelled}
use Rattle.spec_levels.specs.declared.spec.LevelledFault.{LevelledFault}
use Rattle.spec_levels.specs.declared.spec.LevelledFault.TheVariants.{Spec, Level as Wrong, NoMemory}

-- the first of the lines is that of the first such transaction
pub first-unmodelled : (file : SpecFile) (lines : List ℕ) (found : Option ℕ) → is_some file.asked ≡ true → AreRepeatableLines file.text file lines
    → found ≡ slice_get lines 0 → IsFirstUnmodelled file found
first-unmodelled file [] None asked are first = record { is = are.is; none = λ some. sym are.are }
first-unmodelled file (line ∷ lines) None asked are first = absurd (let never : None ≡ Some line = first in cc)
first-unmodelled file lines (Some line) asked are first =
    record { is = are.is; asked = asked; first = ap (λ (ls : List ℕ). slice_get ls 0) (sym are.are) ∙ sym first }

-- of bytes that are the file's text
pub levelled-spec : (bytes : List ℕ) (word : Option Level) (file : SpecFile) → file.text ≡ bytes → asked_level word bytes ≡ Ok file.asked → IsModelled file
    → IsLevelledSpec bytes word file
levelled-spec bytes word file same level modelled =
    subst (λ (text : List ℕ). asked_level word text ≡ Ok file.asked → IsLevelledSpec text word file) same
    (λ asked. record { is = modelled.is; level = asked; modelled = modelled.none }) level

pub not-modelled : (bytes : List ℕ) (word : Option Level) (file : SpecFile) (fault : LevelFault) → file.text ≡ bytes → asked_level word bytes ≡ Ok file.asked
    → fault.kind ≡ NotModelled → IsUnmodelledOn file fault.line → IsNotModelled bytes word fault
not-modelled bytes word file fault same level kind on =
    subst (λ (text : List ℕ). asked_level word text ≡ Ok file.asked → IsNotModelled text word fault) same
    (λ asked. record { file = file; is = on.is; level = asked; asked = on.asked; kind = kind; line = on.first }) level

-- a spec file has the text that it is of
pub text-is : (text : List ℕ) (file : SpecFile) → IsFileAt text file → file.text ≡ text
text-is text file is =
    let tree = is.tree in
    let w = bind (written_file text tree) _ file is.is_bound in
    let a = bind (shaped (orders_of tree)) _ w.0 w.1.0 in
    let b = bind (declared main_setup [] tree.front.setups) _ w.0 a.1.1 in
    let c = bind (each (session b.0.0) tree.sessions) _ w.0 b.1.1 in
    let written : w.0.text ≡ text = cc (c.1.1) in
    let levelled : levelled_file file.asked w.0 ≡ file = cc (w.1.1) in
    ap (λ (f : SpecFile). f.text) (sym levelled) ∙ written

-- what is answered of a spec at the level that is asked for, by what is told of its transactions
module _ (bytes : List ℕ) (word asked : Option Level) (spec : SpecFile) (is : IsFileAt bytes spec) (at : spec.asked ≡ asked) (level : IsLevelFor bytes word asked) where
  same : spec.text ≡ bytes
  same = text-is bytes spec is

  here : asked_level word bytes ≡ Ok spec.asked
  here = level is.is_spec.text.utf8 ∙ ap (λ (o : Option Level). Ok o) (sym at)

  pub levelled-text : (r : Result SpecFile LevelledFault) → IfOk r (λ s. s ≡ spec) → IfOk r (λ s. s.text ≡ bytes)
  levelled-text (Ok s) kept = ap (λ (f : SpecFile). f.text) kept ∙ same
  levelled-text (Err fault) kept = kept

  pub levelled-is : (r : Result SpecFile LevelledFault) → IfOk r (λ s. s ≡ spec) → IfOk r IsModelled → IfOk r (IsLevelledSpec bytes word)
  levelled-is (Ok s) kept modelled =
      subst (IsLevelledSpec bytes word) (sym kept) (levelled-spec bytes word spec same here (subst IsModelled kept modelled))
  levelled-is (Err fault) kept modelled = modelled

  pub levelled-refused : (r : Result SpecFile LevelledFault) → IfErr r (IsUnmodelled spec) → IfErr r (IsNoLevelledSpec bytes word)
  levelled-refused (Ok s) refused = refused
  levelled-refused (Err (Spec fault)) refused = absurd refused
  levelled-refused (Err (Wrong fault)) refused = inr (not-modelled bytes word spec fault same here refused.0 refused.1)
  levelled-refused (Err NoMemory) refused = refused
