-- No white space stands on a line but blanks.
use Rattle.std.proofs.Common.{◌≡◌, ℕ, Bool, true, false, cond, All, List, [], ◌∷◌, ◌++◌, map, refl}
use Rattle.std.proofs.lemmas.List.Elements.{All-nil, All-cons, All-append}
use Rattle.byte_runs.specs.Bytes.{is_white}
use Rattle.spec_reader.specs.Tree.{StepTree, SessionTree}
use Rattle.spec_texts.specs.declared.line.Before.{Before}
use Rattle.spec_texts.specs.declared.line.Before.TheVariants as before
use Rattle.spec_texts.specs.OneLine.{Part, Gap, Written, IsOneLine, after_gap, joined, one_line, parts, separator, shown}
use Rattle.spec_texts.specs.Texts.{step_lines}

abbrev IsBlank : ℕ → Type 0
IsBlank b = is_white b ≡ true → b ≡ 32

byte-blank : (b : ℕ) (white : Bool) → is_white b ≡ white → IsBlank (cond white 32 b)
byte-blank b true e = λ f. refl
byte-blank b false e = λ f. absurd cc

separator-blank : (b : Before) → IsOneLine (separator b)
separator-blank before.Nothing = All-nil IsBlank
separator-blank before.Token = All-nil IsBlank
separator-blank before.Gap = All-cons IsBlank 32 [] (λ e. refl) (All-nil IsBlank)

bytes-blank : (bytes : List ℕ) → IsOneLine (map shown bytes)
bytes-blank [] = All-nil IsBlank
bytes-blank (b ∷ bs) = All-cons IsBlank (shown b) (map shown bs) (byte-blank b (is_white b) refl) (bytes-blank bs)

joined-blank : (b : Before) (ps : List Part) → IsOneLine (joined b ps)
joined-blank b [] = All-nil IsBlank
joined-blank b (Gap ∷ ps) = joined-blank (after_gap b) ps
joined-blank b (Written bytes ∷ ps) =
    All-append IsBlank (separator b) (map shown bytes ++ joined before.Token ps) (separator-blank b)
    (All-append IsBlank (map shown bytes) (joined before.Token ps) (bytes-blank bytes) (joined-blank before.Token ps))

steps-blank : (steps : List StepTree) → All IsOneLine (map (λ (t : StepTree). one_line t.block.text) steps)
steps-blank [] = All-nil IsOneLine
steps-blank (t ∷ ts) =
    All-cons IsOneLine (one_line t.block.text) (map (λ (t : StepTree). one_line t.block.text) ts) (joined-blank before.Nothing (parts t.block.text)) (steps-blank ts)

-- each step's line is one
pub lines-blank : (sessions : List SessionTree) → All IsOneLine (step_lines sessions)
lines-blank [] = All-nil IsOneLine
lines-blank (s ∷ ss) =
    All-append IsOneLine (map (λ (t : StepTree). one_line t.block.text) s.steps) (step_lines ss) (steps-blank s.steps) (lines-blank ss)
