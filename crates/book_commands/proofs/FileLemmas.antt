-- Bytes that a reader of a file gives.
use Rattle.std.proofs.Common.{◌≡◌, ◌≢◌, ◌⊎◌, inl, inr, ap, sym, subst, ◌∙◌, ℕ, List, Bool, true, false, Option, Some, None, is_some, IfSome, Err, arith}
use Rattle.book_format.specs.ReadingBooks.{IsReadOf}
use Rattle.book_format.specs.declared.error.BookError.{BookError}
use Rattle.book_format.specs.declared.error.BookError.TheVariants.{NoMemory, ReadFault}
use Rattle.transcripts.specs.Counted.{inner_of, unread}
use Rattle.transcripts.specs.declared.counted.Counted.{Counted}

-- what is said of a file's bytes by its reader
pub of-known : {R : Type 0} (remaining : R → Option (List ℕ)) (known : Option (List ℕ)) (reader : R) (input : Counted R) (P : List ℕ → Type 0)
    → inner_of input ≡ reader → IfSome known (λ bytes. remaining reader ≡ Some bytes) → IfSome (unread remaining input) P → IfSome known P
of-known remaining None reader input P e k h = tt
of-known remaining (Some bytes) reader input P e k h = subst (λ u. IfSome u P) (ap remaining e ∙ k) h

-- why a reader gave no book: a read fault is told where the bytes are not known alone
pub told-error : (known : Option (List ℕ)) (error told : BookError) → IfSome known (λ bytes. IsReadOf bytes (Err error))
    → (told ≡ error) ⊎ (told ≡ NoMemory) → (told ≡ ReadFault → known ≡ None) → IfSome known (λ bytes. IsReadOf bytes (Err told) × (told ≢ ReadFault))
told-error None error told of same fault = tt
told-error (Some bytes) error told of (inl e) fault =
    (subst (λ x. IsReadOf bytes (Err x)) (sym e) of, λ is. let bad : true ≡ false = ap is_some (fault is) in cc)
told-error (Some bytes) error told of (inr e) fault = (inr (inl e), λ is. let bad : true ≡ false = ap is_some (fault is) in cc)
