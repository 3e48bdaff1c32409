-- What is written and then passed on.
use Rattle.std.specs.Prelude.{⊤}
use Rattle.std.proofs.Common.{◌≡◌, refl, List, ℕ, Option, Result, Ok, Err, OnOk, IfErr, inr}
use Rattle.transcripts.specs.Counted.{Wrote}
use Rattle.transcripts.specs.declared.counted.Counted.{Counted}
use Rattle.fault_texts.specs.declared.fault.ProgramFault.{ProgramFault}
use Rattle.fault_texts.specs.declared.fault.ProgramFault.TheVariants.{Write}
use Rattle.program_commands.specs.Commands.{IsCut, IsFlushed, IsPassedOn}

pub passed-on : {W : Type 0} (contents : W → Option (List ℕ)) (old mid new : Counted W) (text : List ℕ) (done : ⊤) (result : Result ⊤ ProgramFault)
    → Wrote contents old mid text → IsPassedOn contents mid new (Ok done) result
    → OnOk result ((between : Counted W) × Wrote contents old between text × IsFlushed contents between new)
passed-on contents old mid new text done (Ok given) w p = (mid, w, p.1)
passed-on contents old mid new text done (Err fault) w p = tt

-- where the flush fails the text is cut, and the fault is a write fault
pub cut-off : {W : Type 0} (contents : W → Option (List ℕ)) (old mid new : Counted W) (text : List ℕ) (done : ⊤) (result : Result ⊤ ProgramFault)
    → Wrote contents old mid text → IsPassedOn contents mid new (Ok done) result → IfErr result (λ fault. (fault ≡ Write) × IsCut contents old new text)
cut-off contents old mid new text done (Ok given) w p = tt
cut-off contents old mid new text done (Err fault) w p = (p.2, inr (mid, w, (p.0, p.1, refl)))
