-- Standard input among the files of a line and of what it asks for.
use Rattle.std.proofs.Common.{◌≡◌, refl, sym, ap, ◌∙◌, subst, Bool, true, false, ◌&&◌, ◌||◌, List, ℕ, [], ◌∷◌, map, rules, Result, Ok, Err, IfOk, IfErr}
use Rattle.command_line.specs.declared.words.Asked.{Asked}
use Rattle.command_line.specs.declared.words.Asked.TheVariants as asked
use Rattle.command_line.specs.Inputs.{is_input, repeats, repeats_input}
use Rattle.command_line.specs.Lines.{Line, IsLine, AsksFor, repeats_in}
use Rattle.command_line.specs.Lines.{Check, One, Count, Rank, Order, Show, Classes, Run, RunAll, Join, Missing, Holds, Report, Audit, Judge}

-- what a plain line asks for has standard input as often as the line
pub same-inputs : (line : Line) (a : Asked) → AsksFor line a → repeats_input a ≡ repeats_in line
same-inputs (Check path) a is = search rules
same-inputs (One path rank) a is = search rules
same-inputs (Count path) a is = search rules
same-inputs (Rank path names) a is = search rules
same-inputs (Order path rank) a is = search rules
same-inputs (Show path order) a is = search rules
same-inputs (Classes path) a is = search rules
same-inputs (Run path first end) a is = search rules
same-inputs (RunAll path) a is = search rules
same-inputs (Join paths) a is = search rules
same-inputs (Missing paths) a is = search rules
same-inputs (Holds path spec first end) a is = search rules
same-inputs (Report path) a is = search rules
same-inputs (Audit path) a is = search rules
same-inputs (Judge path accepted) a is = search rules

-- one path more
pub repeats-next : (before next : Bool) (rest : List (List ℕ)) → (next && before) ≡ false
    → ((next && before) || repeats (before || next) rest) ≡ repeats (before || next) rest
repeats-next before next rest e = ap (λ b. b || repeats (before || next) rest) e

-- ---- what is asked for where standard input is read once

-- what holds of what is asked for holds of it where it is read once
pub of-same : {E : Type 0} (result : Result Asked E) (a : Asked) (P : Asked → Type 0) → P a → IfOk result (λ b. (b ≡ a) × (repeats_input b ≡ false)) → IfOk result P
of-same (Ok b) a P p same = subst P (sym same.0) p
of-same (Err e) a P p same = tt

pub once-only : {E : Type 0} (result : Result Asked E) (a : Asked) → IfOk result (λ b. (b ≡ a) × (repeats_input b ≡ false))
    → IfOk result (λ b. repeats_input b ≡ false)
once-only (Ok b) a same = same.1
once-only (Err e) a same = tt

-- a plain line reads it once, so that what it asks for is refused for no other reason
pub refused-lines : {E : Type 0} (result : Result Asked E) (a : Asked) (words : List (List ℕ)) (P : E → Type 0)
    → ((line : Line) → IsLine words line → AsksFor line a) → IfErr result (λ e. repeats_input a ≡ false → P e)
    → IfErr result (λ e. (line : Line) → IsLine words line → P e)
refused-lines (Ok b) a words P asks h = tt
refused-lines (Err e) a words P asks h = λ line is. h (same-inputs line a (asks line is) ∙ is.once)
