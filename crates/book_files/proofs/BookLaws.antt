-- What bytes are as a book: how much of them has to be read, and that no refusal of theirs is a read fault.
use Rattle.std.proofs.Common.{◌≡◌, ◌≢◌, refl, sym, subst, ◌∙◌, ℕ, ◌+◌, ◌<◌, ◌≤◌, List, [], length, take, Option, Some, None, Ok, Err, ◌⊎◌, ⊎_elim}
use Rattle.std.proofs.Common.{inl, inr, arith}
use Rattle.std.proofs.lemmas.List.{take_all, length-take-le}
use Rattle.std.specs.Prelude.{option_map, IfSome}
use Rattle.std.specs.Result.{IfErr}
use Rattle.serde_json.specs.Data.{Data}
use Rattle.bound_specs.specs.Spec.{SpecFile}
use Rattle.bound_specs.specs.Binding.{IsFileOf}
use Rattle.fact_books.specs.Books.{Contents}
use Rattle.book_format.specs.declared.error.BookError.{BookError}
use Rattle.book_format.specs.declared.error.BookError.TheVariants.{NotJson, BadField, BadVersion, BadSpec, BadRank, OutOfOrder, BadSwap, TooLarge, NoMemory}
use Rattle.book_format.specs.declared.error.BookError.TheVariants.{ReadFault}
use Rattle.book_format.specs.declared.reading.parts.Version.{Version}
use Rattle.book_format.specs.declared.reading.parts.Version.TheVariants.{Facts, Runs, Other}
use Rattle.book_format.specs.declared.pieces.TheConstants.{MAX_TEXT}
use Rattle.book_format.specs.Reading.{Read, Unless, Given, Meets}
use Rattle.book_format.specs.ReadingBooks.{format_in, version_with, FactParts, RunParts, fact_parts, run_parts, IsFactsOf, IsRunsOf, IsSpecText, IsFactsBook}
use Rattle.std.specs.Io.KnownBytes.{Consumes}
use Rattle.transcripts.specs.declared.counted.ReadError.TheVariants.{Fault}
use Rattle.transcripts.specs.declared.counted.ReadError.TheVariants as read_error
use Rattle.transcripts.specs.Counted.{IsShortOf, LosesFront}
use Rattle.book_format.specs.Compacting.{AreAlike}
use Rattle.book_format.specs.ReadingBooks.{AreTakenFor, IsRunsBook, IsBookOf, IsBookValue, IsValueOf, IsBookFile, fault_count, IsReadOf}
use Rattle.book_format.proofs.ReadLemmas.{IsPlain, meets-map, plain-refusal, same-error, outcomes-plain}
use Rattle.book_format.proofs.RunLaws.{of-plain}
use Rattle.book_format.proofs.FactLaws.{entries-plain}

-- what is told of a text that is not bound, where a spec file is refused for want of memory alone
pub spec-told : (text : List ℕ) (e : BookError) (M : Type 0) → ((file : SpecFile) → IsFileOf text file → M)
    → (M × (e ≡ NoMemory)) ⊎ ((M → ⊥) × (e ≡ BadSpec)) → IsSpecText text (Err e) ⊎ (e ≡ NoMemory)
spec-told text e M only (inl (memory, is)) = inr is
spec-told text e M only (inr (other, is)) =
    let same : ◌≡◌ {A = Read SpecFile} (Err e) (Err BadSpec) = (λ i. Err (is i)) in
    inl (inr ((λ file bound. other (only file bound)), same))

facts-plain : (d : Data) → IsPlain (IsFactsBook d)
facts-plain d e (inl (parts, told, inl (file, is_file, inl (entries, are, is)))) = absurd (cc)
facts-plain d e (inl (parts, told, inl (file, is_file, inr (f, refused, is)))) =
    λ fault. entries-plain file.run [] parts.facts f refused (sym (same-error {X = Contents} e f is) ∙ fault)
facts-plain d e (inl (parts, told, inr (none, is))) = plain-refusal {X = Contents} BadSpec (λ f. cc) e is
facts-plain d e (inr (none, is)) = plain-refusal {X = Contents} BadField (λ f. cc) e is

runs-plain : (d : Data) → IsPlain (IsRunsBook d)
runs-plain d e (inl (parts, told, inl (file, is_file, inl (table, are, inl (runs, are_runs, is))))) = absurd (cc)
runs-plain d e (inl (parts, told, inl (file, is_file, inl (table, are, inr (f, refused, is))))) =
    λ fault. of-plain file.run (length table) parts.facts f refused (sym (same-error {X = Contents} e f is) ∙ fault)
runs-plain d e (inl (parts, told, inl (file, is_file, inr (f, refused, is)))) =
    λ fault. outcomes-plain file.run [] parts.outcomes f refused (sym (same-error {X = Contents} e f is) ∙ fault)
runs-plain d e (inl (parts, told, inr (none, is))) = plain-refusal {X = Contents} BadSpec (λ f. cc) e is
runs-plain d e (inr (none, is)) = plain-refusal {X = Contents} BadField (λ f. cc) e is

version-plain : (version : Version) (d : Data) → IsPlain (IsBookOf version d)
version-plain Facts d = facts-plain d
version-plain Runs d = runs-plain d
version-plain Other d = plain-refusal {X = Contents} BadVersion (λ e. cc)

-- no refusal of bytes is a read fault
pub file-plain : (bytes : List ℕ) → IsPlain (IsBookFile bytes)
file-plain bytes e (inl (few, inl (d, read, inl (n, format, is)))) = version-plain (version_with n) d e is
file-plain bytes e (inl (few, inl (d, read, inr (none, is)))) = plain-refusal {X = Contents} BadField (λ f. cc) e is
file-plain bytes e (inl (few, inr (none, is))) = plain-refusal {X = Contents} NotJson (λ f. cc) e is
file-plain bytes e (inr (not, is)) = plain-refusal {X = Contents} TooLarge (λ f. cc) e is

cut-long : (n : ℕ) (bytes : List ℕ) → n < length bytes → length (take (n + 1) bytes) ≡ n + 1
cut-long n bytes lt = length-take-le (n + 1) bytes (omega (arith, lt))

short-or-long : (n : ℕ) (bytes : List ℕ) → (length bytes ≤ n) ⊎ (n < length bytes)
short-or-long n bytes = grind arith

-- one byte more than a book may have tells as much as all bytes do
enough-of : (n : ℕ) (bytes : List ℕ) (Q : List ℕ → Read Contents → Type 0) (r : Read Contents)
    → Unless (length (take (n + 1) bytes) ≤ n) TooLarge (Q (take (n + 1) bytes)) r → Unless (length bytes ≤ n) TooLarge (Q bytes) r
enough-of n bytes Q r is = ⊎_elim
    (λ few. subst (λ bs. Unless (length bs ≤ n) TooLarge (Q bs) r) (take_all (n + 1) bytes (omega (arith, few))) is)
    (λ many. ⊎_elim
    (λ h. absurd (let le = h.0 in let long = cut-long n bytes many in omega (arith, le, long)))
    (λ h. inr (λ le. omega (arith, le, many), h.1)) is)
    (short-or-long n bytes)

pub enough : (bytes : List ℕ) (r : Read Contents) → IsBookFile (take (MAX_TEXT + 1) bytes) r → IsBookFile bytes r
enough bytes r is = enough-of MAX_TEXT bytes (λ bs. Given NotJson (IsValueOf bs) IsBookValue) r is

pub enough-read : (bytes : List ℕ) (r : Read Contents) → Meets (λ book. book) (IsBookFile (take (MAX_TEXT + 1) bytes)) r → IsReadOf bytes r
enough-read bytes (Ok book) is = enough bytes (Ok book) is
enough-read bytes (Err e) (inl is) = inl (enough bytes (Err e) is)
enough-read bytes (Err e) (inr memory) = inr (inl memory)

-- the same, where it is known what the reader gives
pub known-bytes : (o : Option (List ℕ)) (bytes : List ℕ) (r : Read Contents) → IfSome o (λ all. bytes ≡ take (MAX_TEXT + 1) all)
    → Meets (λ book. book) (IsBookFile bytes) r → IfSome o (λ all. IsReadOf all r)
known-bytes None bytes r is read = tt
known-bytes (Some all) bytes r is read = enough-read all r (subst (λ bs. Meets (λ book. book) (IsBookFile bs) r) is read)

-- ---- the parts of a value

pub spec-file : (text : List ℕ) (file : SpecFile) → IsSpecText text (Ok file) → IsFileOf text file
spec-file text file (inl (f, is, same)) = let all : file ≡ f = cc in subst (IsFileOf text) (sym all) is
spec-file text file (inr (none, is)) = absurd (cc)

map-some : {X Y : Type 0} (f : X → Y) (o : Option X) (y : Y) → Some y ≡ option_map f o → (x : X) × (o ≡ Some x) × (f x ≡ y)
map-some f None y is = absurd (cc)
map-some f (Some x) y is = (x, refl, cc)

-- the book of parts is that of their value
pub by-runs : (d : Data) (parts : RunParts) (file : SpecFile) (r : Read Contents) → Some parts ≡ run_parts d → IsSpecText parts.text (Ok file)
    → Meets (λ book. book) (IsRunsOf file parts.facts parts.outcomes) r → Meets (λ book. book) (IsRunsBook d) r
by-runs d parts file r is spec met =
    meets-map (λ book. book) (IsRunsOf file parts.facts parts.outcomes) (IsRunsBook d) r
    (λ s h. inl (parts, sym is, inl (file, spec-file parts.text file spec, h))) met

pub by-facts : (d : Data) (parts : FactParts) (file : SpecFile) (r : Read Contents) → Some parts ≡ fact_parts d → IsSpecText parts.text (Ok file)
    → Meets (λ book. book) (IsFactsOf file parts.facts) r → Meets (λ book. book) (IsFactsBook d) r
by-facts d parts file r is spec met =
    meets-map (λ book. book) (IsFactsOf file parts.facts) (IsFactsBook d) r
    (λ s h. inl (parts, sym is, inl (file, spec-file parts.text file spec, h))) met

-- the book of a value by its format is that of the value
pub by-version : (d : Data) (version : Version) (r : Read Contents) → Some version ≡ option_map version_with (format_in d)
    → Meets (λ book. book) (IsBookOf version d) r → Meets (λ book. book) (IsBookValue d) r
by-version d version r is met =
    let n = map-some version_with (format_in d) version is in
    meets-map (λ book. book) (IsBookOf version d) (IsBookValue d) r (λ s h. inl (n.0, n.1, subst (λ v. IsBookOf v d s) (sym n.2) h)) met

value-plain : (d : Data) → IsPlain (IsBookValue d)
value-plain d e (inl (n, format, is)) = version-plain (version_with n) d e is
value-plain d e (inr (none, is)) = plain-refusal {X = Contents} BadField (λ f. cc) e is

-- no refusal of a value is a read fault
pub plain-json : (bytes : List ℕ) (r : Read Contents) → Meets (λ book. book) (Given NotJson (IsValueOf bytes) IsBookValue) r → IfErr r (λ e. e ≢ ReadFault)
plain-json bytes (Ok book) is = tt
plain-json bytes (Err e) (inl (inl (d, read, is))) = value-plain d e is
plain-json bytes (Err e) (inl (inr (none, is))) = plain-refusal {X = Contents} NotJson (λ f. cc) e is
plain-json bytes (Err e) (inr memory) = λ fault. (let f : NoMemory ≡ ReadFault = sym memory ∙ fault in cc)

-- how many reads fail where no refusal is a read fault
pub no-faults : (e : BookError) → e ≢ ReadFault → fault_count e ≡ 0
no-faults NotJson apart = refl
no-faults BadField apart = refl
no-faults BadVersion apart = refl
no-faults BadSpec apart = refl
no-faults BadRank apart = refl
no-faults OutOfOrder apart = refl
no-faults BadSwap apart = refl
no-faults TooLarge apart = refl
no-faults NoMemory apart = refl
no-faults ReadFault apart = absurd (apart refl)

-- ---- bytes that are laid out anew

alike-given : (a b : List ℕ) (r : Read Contents) → AreAlike a b → Given NotJson (IsValueOf b) IsBookValue r → Given NotJson (IsValueOf a) IsBookValue r
alike-given a b r alike (inl (d, value, is)) = inl (d, (alike d).1 value, is)
alike-given a b r alike (inr (none, is)) = inr ((λ d value. none d ((alike d).0 value)), is)

-- bytes of one value are one book
pub alike-json : (a b : List ℕ) (r : Read Contents) → AreAlike a b → Meets (λ book. book) (Given NotJson (IsValueOf b) IsBookValue) r
    → Meets (λ book. book) (Given NotJson (IsValueOf a) IsBookValue) r
alike-json a b (Ok book) alike is = alike-given a b (Ok book) alike is
alike-json a b (Err e) alike (inl is) = inl (alike-given a b (Err e) alike is)
alike-json a b (Err e) alike (inr memory) = inr memory

-- a book of bytes is one of their value
pub by-value : (bytes : List ℕ) (book : Contents) → IsBookFile bytes (Ok book) → Given NotJson (IsValueOf bytes) IsBookValue (Ok book)
by-value bytes book (inl (few, is)) = is
by-value bytes book (inr (long, is)) = absurd (cc)

-- ---- how many bytes are taken

all-taken : (r : Read Contents) → IfErr r (λ e. e ≢ ReadFault) → AreTakenFor r (MAX_TEXT + 1)
all-taken (Ok book) apart = refl
all-taken (Err NotJson) apart = refl
all-taken (Err BadField) apart = refl
all-taken (Err BadVersion) apart = refl
all-taken (Err BadSpec) apart = refl
all-taken (Err BadRank) apart = refl
all-taken (Err OutOfOrder) apart = refl
all-taken (Err BadSwap) apart = refl
all-taken (Err TooLarge) apart = refl
all-taken (Err NoMemory) apart = omega arith
all-taken (Err ReadFault) apart = absurd (apart refl)

-- what is read to its end, or up to one byte past the longest file
pub taken-whole : (old new : Option (List ℕ)) (bytes : List ℕ) (r : Read Contents) → IfSome old (λ all. bytes ≡ take (MAX_TEXT + 1) all)
    → Consumes old new bytes → IfErr r (λ e. e ≢ ReadFault) → LosesFront old new (AreTakenFor r)
taken-whole None new bytes r first took apart = tt
taken-whole (Some all) new bytes r first took apart =
    (MAX_TEXT + 1, all-taken r apart, subst (λ bs. Consumes (Some all) new bs) first took)

loses-so : (old new : Option (List ℕ)) (P Q : ℕ → Type 0) → ((n : ℕ) → P n → Q n) → LosesFront old new P → LosesFront old new Q
loses-so None new P Q each lost = tt
loses-so (Some all) new P Q each (n, p, took) = (n, each n p, took)

-- what is taken before a read fails
pub taken-fault : (old new : Option (List ℕ)) → LosesFront old new (IsShortOf Fault (MAX_TEXT + 1)) → LosesFront old new (AreTakenFor (Err ReadFault))
taken-fault old new lost = loses-so old new (IsShortOf Fault (MAX_TEXT + 1)) (AreTakenFor (Err ReadFault)) (λ n short. omega (arith, short)) lost

-- and before memory runs out
pub taken-short : (old new : Option (List ℕ)) → LosesFront old new (IsShortOf read_error.NoMemory (MAX_TEXT + 1)) → LosesFront old new (AreTakenFor (Err NoMemory))
taken-short old new lost = loses-so old new (IsShortOf read_error.NoMemory (MAX_TEXT + 1)) (AreTakenFor (Err NoMemory)) (λ n short. short) lost
