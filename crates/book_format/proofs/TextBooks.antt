-- Outcomes and runs that are read already, and the text of a book of these.
use Rattle.std.proofs.Common.{◌≡◌, refl, sym, ap, subst, ◌∙◌, ℕ, ◌+◌, ◌-◌, ◌<◌, ◌≤◌, List, [], ◌∷◌, ◌++◌, append_assoc, append-nil, map, length, get_or, drop}
use Rattle.std.proofs.Common.{take}
use Rattle.std.proofs.Common.{Option, Some, Result, Ok, Err, Bool, inl, inr}
use Rattle.std.specs.Prelude.{All, IsTrue, IsUtf8, OnOk, nat_eq}
use Rattle.std.specs.Io.KnownBytes.{Appends}
use Rattle.std.specs.List.{starts_with}
use Rattle.std.specs.Cmp.Lexicographic.{bytes_decides}
use Rattle.std.proofs.lemmas.List.{drop_more, drop_all, take_more, take_all, take_rest}
use Rattle.std.proofs.Math.Seq.{take-add}
use Rattle.std.proofs.lemmas.List.Elements.{All-nil}
use Rattle.serde_json.specs.Data.{Items, string}
use Rattle.serde_json.specs.View.{items_of}
use Rattle.serde_json.specs.Read.{read}
use Rattle.serde_json.specs.Written.{compact_text}
use Rattle.serde_json.proofs.OnLiterals.{serde_json_on_literals}
use Rattle.transcripts.specs.Counted.{Wrote, Prints}
use Rattle.transcripts.specs.declared.counted.Counted.{Counted}
use Rattle.transcripts.proofs.Writing.{wrote-append}
use Rattle.transcripts.specs.Json.{outcome_data}
use Rattle.bound_specs.specs.Spec.{Spec, SpecFile}
use Rattle.bound_specs.specs.Binding.{IsFileOf}
use Rattle.compact_outcomes.proofs.OutcomeValues.{told-one}
use Rattle.fact_books.specs.declared.run.Run.{Run}
use Rattle.fact_books.specs.Entries.{Told}
use Rattle.fact_books.specs.Runs.{Table}
use Rattle.fact_books.specs.Books.{Contents, facts_in}
use Rattle.book_format.specs.declared.pieces.TheConstants.{MAX_TEXT}
use Rattle.book_format.specs.declared.reading.runs.Ends.{Ends}
use Rattle.book_format.specs.BookText.{run_data, book_data}
use Rattle.book_format.specs.Laws.{RunFits}
use Rattle.book_format.specs.Pieces.{parts_text}
use Rattle.book_format.specs.Reading.{IsNextOutcome, AreOutcomes}
use Rattle.book_format.specs.ReadingBooks.{IsBookFile}
use Rattle.book_format.specs.ReadingRuns.{IsApart, IsNextRun, AreRuns, AreRunsOf, AreEnds, IsReadingRuns}
use Rattle.book_format.proofs.PiecesLemmas.{parts-text}
use Rattle.book_format.proofs.ReadLemmas.{IsToldBy, outcomes-told}
use Rattle.book_format.proofs.RunLaws.{next-lawful}
use Rattle.book_format.proofs.TextLemmas.{text-read}

-- the next item, and those behind it
rest-is : {X : Type 0} (xs : List X) (i : ℕ) (x : X) → i < length xs → x ≡ get_or xs i x → x ∷ drop (i + 1) xs ≡ drop i xs
rest-is xs i x lt at = sym (drop_more xs i x lt ∙ ap (λ y. y ∷ drop (i + 1) xs) (sym at))

-- the items up to the next one, and that
front-is : {X : Type 0} (xs : List X) (i : ℕ) (x : X) → i < length xs → x ≡ get_or xs i x → take (i + 1) xs ≡ take i xs ++ x ∷ []
front-is xs i x lt at = take_more xs i x lt ∙ ap (λ y. take i xs ++ y ∷ []) (sym at)

-- ---- outcomes

-- the outcome that the value of one is read as
next-same : (spec : Spec) (before : Table) (x p : Told) → IsNextOutcome spec before (outcome_data x) (Ok p) → p ≡ x
next-same spec before x p (inl (q, value, inl (after, is))) = let same : p ≡ q = cc in same ∙ told-one q x value.value
next-same spec before x p (inl (q, value, inr (not, is))) = absurd (cc)
next-same spec before x p (inr (none, is)) = absurd (cc)

abbrev pub outcome_values : Table → Items
outcome_values os = items_of (map outcome_data os)

-- one outcome more
pub outcomes-push : (spec : Spec) (before os : Table) (o : Told) → AreOutcomes spec before (outcome_values os) (Ok (before ++ os))
    → IsNextOutcome spec (before ++ os) (outcome_data o) (Ok o)
    → AreOutcomes spec before (outcome_values (os ++ o ∷ [])) (Ok (before ++ (os ++ o ∷ [])))
outcomes-push spec before [] o are next = inl (o, subst (λ b. IsNextOutcome spec b (outcome_data o) (Ok o)) (append-nil before) next, refl)
outcomes-push spec before (x ∷ os) o (inl (p, first, rest)) next =
    let same : p ≡ x = next-same spec before x p first in
    let past : before ++ (x ∷ os) ≡ (before ++ p ∷ []) ++ os =
    sym (append_assoc before (x ∷ []) os) ∙ ap (λ y. (before ++ y ∷ []) ++ os) (sym same) in
    let more = outcomes-push spec (before ++ p ∷ []) os o (subst (λ t. AreOutcomes spec (before ++ p ∷ []) (outcome_values os) (Ok t)) past rest)
    (subst (λ t. IsNextOutcome spec t (outcome_data o) (Ok o)) past next) in
    inl (
      p,
      first,
      subst (λ t. AreOutcomes spec (before ++ p ∷ []) (outcome_values (os ++ o ∷ [])) (Ok t))
          (append_assoc before (p ∷ []) (os ++ o ∷ []) ∙ ap (λ y. before ++ y ∷ (os ++ o ∷ [])) same) more,
    )
outcomes-push spec before (x ∷ os) o (inr (e, refused, is)) next = absurd (cc)

-- ---- runs

abbrev pub run_values : List Run → Items
run_values runs = items_of (map run_data runs)

abbrev pub AreReadTo : Spec → ℕ → List Run → ℕ → ℕ → Ends → Type 0
AreReadTo spec n runs i facts ends = IsReadingRuns spec n (run_values runs) (run_values (drop i runs)) (take i runs) facts ends

pub run-next : (spec : Spec) (n : ℕ) (runs before : List Run) (facts : ℕ) (ends noted : Ends) (i : ℕ) (run : Run) → i < length runs
    → run ≡ get_or runs i run → before ≡ take i runs → IsNextRun spec n before facts (run_data run) (Ok run)
    → ((ran : List Run) → AreEnds n ends ran → IsApart ran run → AreEnds n noted (ran ++ run ∷ []))
    → AreReadTo spec n runs i facts ends → AreReadTo spec n runs (i + 1) (facts + (run.end - run.first)) noted
run-next spec n runs before facts ends noted i run lt at same next note h =
    let here = subst (λ b. IsNextRun spec n b facts (run_data run) (Ok run)) same next in
    let lawful = next-lawful spec n (take i runs) facts (run_data run) run here in
    record {
      few = lawful.few;
      ends_are = subst (AreEnds n noted) (sym (front-is runs i run lt at)) (note (take i runs) h.ends_are lawful.past.apart);
      reads = λ r rest.
          h.reads r (subst (λ xs. AreRuns spec n (take i runs) facts (run_values xs) r) (rest-is runs i run lt at)
          (inl (
            run,
            here,
            subst (λ rs. AreRuns spec n rs (facts + (run.end - run.first)) (run_values (drop (i + 1) runs)) r) (front-is runs i run lt at) rest,
          )));
    }

pub runs-end : (spec : Spec) (n : ℕ) (runs : List Run) (facts : ℕ) (ends : Ends) (i : ℕ) → length runs ≤ i → AreReadTo spec n runs i facts ends
    → AreRuns spec n [] 0 (run_values runs) (Ok runs)
runs-end spec n runs facts ends i le h =
    h.reads (Ok runs) (subst (λ xs. AreRuns spec n (take i runs) facts (run_values xs) (Ok runs)) (sym (drop_all i runs le)) (ap Ok (sym (take_all i runs le))))

-- the same of a list that is this one
pub runs-of : (spec : Spec) (n m : ℕ) (rs runs : List Run) → n ≡ m → rs ≡ runs → AreRunsOf spec n (run_values rs) (Ok rs)
    → AreRunsOf spec m (run_values runs) (Ok runs)
runs-of spec n m rs runs size same are = subst (λ k. AreRunsOf spec k (run_values runs) (Ok runs)) size
    (subst (λ l. AreRunsOf spec n (run_values l) (Ok l)) same are)

-- ---- the text

-- bytes that stand next in a text are taken with those before them
pub next-taken : (text bytes : List ℕ) (n : ℕ) (r : Bool) → r ≡ starts_with nat_eq (take (length text - n) (drop n text)) bytes → IsTrue r
    → take (n + length bytes) text ≡ take n text ++ bytes
next-taken text bytes n r told is =
    take-add n (length bytes) text
    ∙ ap (λ s. take n text ++ take (length bytes) s) (sym (take_rest text n))
    ∙ ap (λ b. take n text ++ b) (sym ((bytes_decides bytes _).0 (sym told ∙ is)))

-- one text, and then the next, if that is written
pub wrote-then : {W X E : Type 0} (contents : W → Option (List ℕ)) (a b c : Counted W) (result : Result X E) (s t : List ℕ) → Wrote contents a b s
    → OnOk result (Wrote contents b c t) → OnOk result (Wrote contents a c (s ++ t))
wrote-then contents a b c (Ok x) s t first next = wrote-append contents a b c s t first next
wrote-then contents a b c (Err e) s t first next = tt

pub wrote-if : {W X E : Type 0} (contents : W → Option (List ℕ)) (a b : Counted W) (result : Result X E) (t : List ℕ) → Prints contents a b result t
    → OnOk result (Wrote contents a b t)
wrote-if contents a b (Ok x) t prints = prints
wrote-if contents a b (Err e) t prints = tt

-- all bytes are those that were written
pub all-taken : (old new : Option (List ℕ)) (written bytes : List ℕ) → old ≡ Some [] → new ≡ Some bytes → Appends old new written → bytes ≡ written
all-taken old new written bytes empty full whole = subst (λ n. Appends (Some []) n written) full (subst (λ o. Appends o new written) empty whole)

-- the text of outcomes and runs that are read is the file of their book
pub text-book : (text : List ℕ) (file : SpecFile) (table : Table) (runs : List Run) (q : List ℕ) (book : Contents) → IsUtf8 text
    → length text ≤ MAX_TEXT → IsFileOf file.text file → AreOutcomes file.run [] (outcome_values table) (Ok table)
    → AreRunsOf file.run (length table) (run_values runs) (Ok runs) → All RunFits runs → q ≡ compact_text (string file.text)
    → text ≡ parts_text runs table q → book.file ≡ file → book.facts ≡ facts_in table runs → IsBookFile text (Ok book)
unfolding serde_json_on_literals
text-book text file table runs q book utf8 few is_file outcomes are fits whole is same facts =
    let told = outcomes-told file.run [] (outcome_values table) table (All-nil (IsToldBy file.run)) outcomes in
    inl (
      few,
      inl (
        book_data file.text table runs,
        (utf8, ap read (is ∙ parts-text file.text table runs q whole) ∙ text-read file.text table runs (λ k d lt. (told k d lt).1) fits),
        inl (
          2,
          refl,
          inl (
            record { facts = run_values runs; outcomes = outcome_values table; text = file.text },
            refl,
            inl (file, is_file, inl (table, outcomes, inl (runs, are, λ i. Ok (record { file = same i; facts = facts i })))),
          ),
        ),
      ),
    )
