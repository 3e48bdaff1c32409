-- What a read that ends in an error has taken.
use Rattle.std.proofs.Common.{◌≡◌, sym, ap, ◌∙◌, subst, ℕ, ◌<◌, ◌≤◌, List, ◌++◌, append_assoc, length, take, Option, Some, None, Result, Ok, Err, IfErr, IsErrAnd}
use Rattle.std.specs.Io.KnownBytes.{Consumes, Keeps}
use Rattle.std.proofs.Math.Seq.{take-append_seam}
use Rattle.transcripts.specs.declared.counted.ReadError.{ReadError}
use Rattle.transcripts.specs.declared.counted.ReadError.TheVariants.{Fault, NoMemory}
use Rattle.transcripts.specs.Counted.{IsShortOf, LosesFront}

-- bytes that were consumed are a front of those that were known
lost : (old new : Option (List ℕ)) (bytes : List ℕ) (IsLen : ℕ → Type 0) → Consumes old new bytes → IsLen (length bytes) → LosesFront old new IsLen
lost None new bytes IsLen took short = tt
lost (Some all) None bytes IsLen took short = absurd took
lost (Some all) (Some rest) bytes IsLen took short =
    let front : take (length bytes) all ≡ bytes = ap (take (length bytes)) took ∙ take-append_seam bytes rest in
    (length bytes, short, took ∙ ap (λ (f : List ℕ). f ++ rest) (sym front))

-- what is kept behind it
kept : (old mid new : Option (List ℕ)) (bytes : List ℕ) → Consumes old mid bytes → Keeps mid new → Consumes old new bytes
kept None mid new bytes took keeps = tt
kept (Some all) None new bytes took keeps = absurd took
kept (Some all) (Some rest) None bytes took keeps = absurd keeps
kept (Some all) (Some rest) (Some left) bytes took keeps = took ∙ ap (λ (r : List ℕ). bytes ++ r) (sym keeps)

-- and what is consumed behind it
pub consumed : (old mid new : Option (List ℕ)) (bytes more : List ℕ) → Consumes old mid bytes → Consumes mid new more → Consumes old new (bytes ++ more)
consumed None mid new bytes more took then = tt
consumed (Some all) None new bytes more took then = absurd took
consumed (Some all) (Some rest) None bytes more took then = absurd then
consumed (Some all) (Some rest) (Some left) bytes more took then = took ∙ (ap (λ (r : List ℕ). bytes ++ r) then ∙ sym (append_assoc bytes more left))

-- a read fails, behind fewer bytes than the limit
pub fails : {X : Type 0} (r : Result X ReadError) (old mid new : Option (List ℕ)) (bytes : List ℕ) (limit : ℕ) → Consumes old mid bytes → length bytes < limit
    → Keeps mid new → IsErrAnd r (λ e. e ≡ Fault) → IfErr r (λ e. LosesFront old new (IsShortOf e limit))
fails (Ok x) old mid new bytes limit took short keeps is = tt
fails (Err e) old mid new bytes limit took short keeps is =
    subst (λ e. LosesFront old new (IsShortOf e limit)) (sym is) (lost old new bytes (λ n. n < limit) (kept old mid new bytes took keeps) short)

-- memory runs out, behind no more bytes than the limit
pub runs_out : {X : Type 0} (r : Result X ReadError) (old new : Option (List ℕ)) (bytes : List ℕ) (limit : ℕ) → Consumes old new bytes → length bytes ≤ limit
    → IsErrAnd r (λ e. e ≡ NoMemory) → IfErr r (λ e. LosesFront old new (IsShortOf e limit))
runs_out (Ok x) old new bytes limit took short is = tt
runs_out (Err e) old new bytes limit took short is =
    subst (λ e. LosesFront old new (IsShortOf e limit)) (sym is) (lost old new bytes (λ n. n ≤ limit) took short)
