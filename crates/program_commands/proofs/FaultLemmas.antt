-- Refusals that are told by the numbers of their kinds.
use Rattle.std.proofs.Common.{◌≡◌, ◌≢◌, refl, ap, ℕ}
use Rattle.spec_reader.specs.declared.error.Kind.{Kind as SpecErrorKind}
use Rattle.spec_reader.specs.declared.error.Kind.TheVariants as spec_kind
use Rattle.spec_reader.specs.Refusals.{number_of as spec_number}
use Rattle.sql_grammar.specs.declared.error.SqlErrorKind.{SqlErrorKind}
use Rattle.binding_model.specs.declared.error.BindErrorKind.{BindErrorKind}
use Rattle.binding_model.specs.declared.error.BindErrorKind.TheVariants as bind_kind
use Rattle.binding_model.specs.Refusals.{bind_number_of}
use Rattle.book_format.specs.declared.error.BookError.{BookError}
use Rattle.book_format.specs.declared.error.BookError.TheVariants as book_error
use Rattle.book_format.specs.Reading.{book_number_of}
use Rattle.fault_texts.specs.declared.fault.ProgramFault.{ProgramFault}
use Rattle.fault_texts.specs.declared.fault.ProgramFault.TheVariants.{Spec, Bind, Book}
use Rattle.program_commands.specs.Faults.{Path, text_told, binding_told, book_told}

-- any kind but want of memory
pub text_other : (path : Path) (offset n : ℕ) (kind : SpecErrorKind) → n ≡ spec_number kind → kind ≢ spec_kind.NoMemory
    → Spec path n offset ≡ text_told path offset kind
text_other path offset n spec_kind.NotUtf8 is apart = ap (λ m. Spec path m offset) is
text_other path offset n spec_kind.BadToken is apart = ap (λ m. Spec path m offset) is
text_other path offset n spec_kind.Unclosed is apart = ap (λ m. Spec path m offset) is
text_other path offset n spec_kind.Misplaced is apart = ap (λ m. Spec path m offset) is
text_other path offset n spec_kind.NoStep is apart = ap (λ m. Spec path m offset) is
text_other path offset n spec_kind.DuplicateStep is apart = ap (λ m. Spec path m offset) is
text_other path offset n spec_kind.DuplicateSession is apart = ap (λ m. Spec path m offset) is
text_other path offset n spec_kind.UnknownStep is apart = ap (λ m. Spec path m offset) is
text_other path offset n spec_kind.TooLarge is apart = ap (λ m. Spec path m offset) is
text_other path offset n spec_kind.NoMemory is apart = absurd (apart refl)

-- any kind but want of memory and one of SQL
pub binding_other : (path : Path) (offset n : ℕ) (kind : BindErrorKind) → n ≡ bind_number_of kind → kind ≢ bind_kind.NoMemory
    → ((sql : SqlErrorKind) → kind ≢ bind_kind.Sql sql) → Bind path n offset ≡ binding_told path offset kind
binding_other path offset n (bind_kind.Sql sql) is apart other = absurd (other sql refl)
binding_other path offset n bind_kind.UnknownTable is apart other = ap (λ m. Bind path m offset) is
binding_other path offset n bind_kind.UnknownColumn is apart other = ap (λ m. Bind path m offset) is
binding_other path offset n bind_kind.TypeMismatch is apart other = ap (λ m. Bind path m offset) is
binding_other path offset n bind_kind.KeyChanged is apart other = ap (λ m. Bind path m offset) is
binding_other path offset n bind_kind.DuplicateTable is apart other = ap (λ m. Bind path m offset) is
binding_other path offset n bind_kind.WrongCount is apart other = ap (λ m. Bind path m offset) is
binding_other path offset n bind_kind.Shape is apart other = ap (λ m. Bind path m offset) is
binding_other path offset n bind_kind.NoMemory is apart other = absurd (apart refl)

-- any refusal but want of memory and a read fault
pub book_other : (path : Path) (n : ℕ) (error : BookError) → n ≡ book_number_of error → error ≢ book_error.NoMemory → error ≢ book_error.ReadFault
    → Book path n ≡ book_told path error
book_other path n book_error.NotJson is apart other = ap (λ m. Book path m) is
book_other path n book_error.BadField is apart other = ap (λ m. Book path m) is
book_other path n book_error.BadVersion is apart other = ap (λ m. Book path m) is
book_other path n book_error.BadSpec is apart other = ap (λ m. Book path m) is
book_other path n book_error.BadRank is apart other = ap (λ m. Book path m) is
book_other path n book_error.OutOfOrder is apart other = ap (λ m. Book path m) is
book_other path n book_error.BadSwap is apart other = ap (λ m. Book path m) is
book_other path n book_error.TooLarge is apart other = ap (λ m. Book path m) is
book_other path n book_error.NoMemory is apart other = absurd (apart refl)
book_other path n book_error.ReadFault is apart other = absurd (other refl)
