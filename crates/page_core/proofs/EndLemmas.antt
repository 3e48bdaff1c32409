-- Ends that are told by the numbers of their kinds.
use Rattle.std.proofs.Common.{◌≡◌, ◌≢◌, refl, ap, ℕ}
use Rattle.spec_reader.specs.declared.error.Kind.{Kind as SpecErrorKind}
use Rattle.spec_reader.specs.declared.error.Kind.TheVariants as spec_kind
use Rattle.spec_reader.specs.Refusals.{number_of as spec_number}
use Rattle.sql_grammar.specs.declared.error.SqlErrorKind.{SqlErrorKind}
use Rattle.binding_model.specs.declared.error.BindErrorKind.{BindErrorKind}
use Rattle.binding_model.specs.declared.error.BindErrorKind.TheVariants as bind_kind
use Rattle.binding_model.specs.Refusals.{bind_number_of}
use Rattle.page_core.specs.declared.ending.End.{End}
use Rattle.page_core.specs.declared.ending.TheConstants.{NO_SPEC, UNBOUND}
use Rattle.page_core.specs.Ends.{binding_end, text_end}

abbrev at : ℕ → ℕ → ℕ → End
at fault place kind = record { fault = fault; kind = kind; place = place }

-- any kind but want of memory
pub text_other : (offset n : ℕ) (kind : SpecErrorKind) → n ≡ spec_number kind → kind ≢ spec_kind.NoMemory
    → at NO_SPEC offset n ≡ text_end offset kind
text_other offset n spec_kind.NotUtf8 is apart = ap (at NO_SPEC offset) is
text_other offset n spec_kind.BadToken is apart = ap (at NO_SPEC offset) is
text_other offset n spec_kind.Unclosed is apart = ap (at NO_SPEC offset) is
text_other offset n spec_kind.Misplaced is apart = ap (at NO_SPEC offset) is
text_other offset n spec_kind.NoStep is apart = ap (at NO_SPEC offset) is
text_other offset n spec_kind.DuplicateStep is apart = ap (at NO_SPEC offset) is
text_other offset n spec_kind.DuplicateSession is apart = ap (at NO_SPEC offset) is
text_other offset n spec_kind.UnknownStep is apart = ap (at NO_SPEC offset) is
text_other offset n spec_kind.TooLarge is apart = ap (at NO_SPEC offset) is
text_other offset n spec_kind.NoMemory is apart = absurd (apart refl)

-- any kind but want of memory and one of SQL
pub binding_other : (offset n : ℕ) (kind : BindErrorKind) → n ≡ bind_number_of kind → kind ≢ bind_kind.NoMemory
    → ((sql : SqlErrorKind) → kind ≢ bind_kind.Sql sql) → at UNBOUND offset n ≡ binding_end offset kind
binding_other offset n (bind_kind.Sql sql) is apart other = absurd (other sql refl)
binding_other offset n bind_kind.UnknownTable is apart other = ap (at UNBOUND offset) is
binding_other offset n bind_kind.UnknownColumn is apart other = ap (at UNBOUND offset) is
binding_other offset n bind_kind.TypeMismatch is apart other = ap (at UNBOUND offset) is
binding_other offset n bind_kind.KeyChanged is apart other = ap (at UNBOUND offset) is
binding_other offset n bind_kind.DuplicateTable is apart other = ap (at UNBOUND offset) is
binding_other offset n bind_kind.WrongCount is apart other = ap (at UNBOUND offset) is
binding_other offset n bind_kind.Shape is apart other = ap (at UNBOUND offset) is
binding_other offset n bind_kind.NoMemory is apart other = absurd (apart refl)
