-- What is read as facts one by one: they may stand in a book of the spec, their ranks rise, and runs of one rank each say them.
use Rattle.std.proofs.Common.{◌≡◌, refl, sym, ap, subst, ◌∙◌, ℕ, ◌+◌, ◌-◌, ◌<◌, ◌≤◌, true, false, ◌||◌, List, [], ◌∷◌, ◌++◌}
use Rattle.std.proofs.Common.{Option, Some, None, Ok, ⊎_elim, inl, inr, arith}
use Rattle.std.specs.Prelude.{nat_lt}
use Rattle.std.proofs.lemmas.Bool.{ltb-true, or_cases}
use Rattle.std.proofs.lemmas.List.Folds.{list_any-append}
use Rattle.std.specs.List.{list_any}
use Rattle.std.specs.Ordering.{ordering_then, nat_cmp, eq_by_cmp}
use Rattle.std.specs.Cmp.{ranked}
use Rattle.std.specs.declared.cmp.Ordering.{Ordering}
use Rattle.std.specs.declared.cmp.Ordering.TheVariants.{Less, Equal, Greater}
use Rattle.std.specs.FinSet.{contains, union, from_list, empty, contains-from_list, contains-empty}
use Rattle.serde_json.specs.Data.{Data, Items, no_items, item}
use Rattle.transcripts.specs.Outcome.{OutcomeFits}
use Rattle.machine_model.specs.Outcome.{IsOutcomeOf}
use Rattle.bound_specs.specs.Spec.{Spec, ranks}
use Rattle.rank_facts.specs.declared.fact.Fact.{Fact}
use Rattle.rank_facts.specs.declared.fact.Fact.TheVariants.{Ran, Swap}
use Rattle.fact_books.specs.Entries.{Entry, entry_cmp, fact_cmp}
use Rattle.fact_books.specs.Runs.{repeated}
use Rattle.fact_books.specs.Books.{IsRecordable, AllRecordable}
use Rattle.fact_books.proofs.Orders.{entry_total, entry_same}
use Rattle.fact_books.proofs.SetLemmas.{same_facts, in_union}
use Rattle.book_format.specs.declared.error.BookError.TheVariants.{BadField, BadRank, OutOfOrder, BadSwap}
use Rattle.book_format.specs.Reading.{Gives, last, StandsAfter, IsOutcomeValue, IsOutcome, whole_in}
use Rattle.book_format.specs.ReadingFacts.{place_in, IsRan, IsSwap, IsFact, IsEntry, IsFactLed, ComesUnder, IsNextEntry, AreEntries}
use Rattle.book_format.specs.ReadingFacts.{AllUnder, AreUnder, RanksBelow}
use Rattle.book_format.proofs.ReadLemmas.{IsPlain, plain-gives, plain-given, plain-then, plain-refusal, same-error, last-push, last-none}
use Rattle.book_format.proofs.RunLaws.{some-bind, some-cond}

-- ---- one fact

-- an outcome that a run of the spec may tell, or a place that is a byte
abbrev pub IsFactFor : Spec → Fact → Type 0
IsFactFor spec (Ran outcome) = IsOutcomeOf spec outcome × OutcomeFits outcome
IsFactFor spec (Swap k) = k < 256

ran-for : (spec : Spec) (d : Data) (fact : Fact) → IsRan spec d (Ok fact) → IsFactFor spec fact
ran-for spec d fact (inl (o, inl (p, value, same), is)) =
    let first : o ≡ p = cc in
    let all : fact ≡ Ran o = cc in
    subst (IsFactFor spec) (sym (all ∙ ap Ran first)) (value.own, value.fits)
ran-for spec d fact (inl (o, inr (none, same), is)) = absurd (cc)
ran-for spec d fact (inr (e, refused, is)) = absurd (cc)

swap-for : (spec : Spec) (d : Data) (fact : Fact) → IsSwap d (Ok fact) → IsFactFor spec fact
swap-for spec d fact (inl (k, told, is)) =
    let n = some-bind _ (whole_in d) k told in
    let p = some-cond (nat_lt n.0 256) n.0 k n.2 in
    let all : fact ≡ Swap k = cc in
    subst (IsFactFor spec) (sym (all ∙ ap Swap (sym p.1))) (ltb-true n.0 256 p.0)
swap-for spec d fact (inr (none, is)) = absurd (cc)

fact-for : (spec : Spec) (word : List ℕ) (d : Data) (fact : Fact) → IsFact spec word d (Ok fact) → IsFactFor spec fact
fact-for spec word d fact (inl (ran, is)) = ran-for spec d fact is
fact-for spec word d fact (inr (inl (swap, is))) = swap-for spec d fact is
fact-for spec word d fact (inr (inr (a, b, is))) = absurd (cc)

entry-for : (spec : Spec) (d : Data) (entry : Entry) → IsEntry spec d (Ok entry) → IsFactFor spec entry.1
entry-for spec d entry (inl (parts, told, inl (fact, is, same))) =
    let all : entry ≡ (parts.rank, fact) = cc in
    subst (λ (e : Entry). IsFactFor spec e.1) (sym all) (fact-for spec parts.word parts.value fact is)
entry-for spec d entry (inl (parts, told, inr (e, refused, is))) = absurd (cc)
entry-for spec d entry (inr (none, is)) = absurd (cc)

pub record IsLawfulEntry (spec : Spec) (before : List Entry) (entry : Entry) : Type 0 where
  pub fact : IsFactFor spec entry.1
  pub below : entry.0 < ranks spec
  pub led : IsFactLed spec entry.0 entry.1
  pub after : StandsAfter ComesUnder before entry

pub next-entry : (spec : Spec) (before : List Entry) (d : Data) (entry : Entry) → IsNextEntry spec before d (Ok entry) → IsLawfulEntry spec before entry
next-entry spec before d entry (inl (e, read, inl (below, inl (led, inl (after, is))))) =
    let same : entry ≡ e = cc in
    subst (IsLawfulEntry spec before) (sym same) (record { fact = entry-for spec d e read; below = below; led = led; after = after })
next-entry spec before d entry (inl (e, read, inl (below, inl (led, inr (not, is))))) = absurd (cc)
next-entry spec before d entry (inl (e, read, inl (below, inr (not, is)))) = absurd (cc)
next-entry spec before d entry (inl (e, read, inr (not, is))) = absurd (cc)
next-entry spec before d entry (inr (e, refused, is)) = absurd (cc)

-- ---- all facts

abbrev EachEntry : (Entry → Type 0) → List Entry → Type 0
EachEntry P [] = Unit {0}
EachEntry P (e ∷ es) = P e × EachEntry P es

each-push : (P : Entry → Type 0) (es : List Entry) (e : Entry) → EachEntry P es → P e → EachEntry P (es ++ e ∷ [])
each-push P [] e each p = (p, tt)
each-push P (x ∷ xs) e each p = (each.0, each-push P xs e each.1 p)

pub under-first : (a b : Entry) → ComesUnder a b → a.0 ≤ b.0
under-first a b is = on (nat_cmp a.0 b.0) refl is
  where
    on : (o : Ordering) → nat_cmp a.0 b.0 ≡ o → ordering_then o (fact_cmp a.1 b.1) ≡ Less → a.0 ≤ b.0
    on Less e f = let lt : a.0 < b.0 = ranked a.0 b.0 Less (sym e) in omega (arith, lt)
    on Equal e f = let same : a.0 ≡ b.0 = ranked a.0 b.0 Equal (sym e) in omega (arith, same)
    on Greater e f = absurd (cc)

abbrev AllOver : ℕ → List Entry → Type 0
AllOver high [] = Unit {0}
AllOver high (e ∷ es) = (e.0 ≤ high) × AllOver high es

over-more : (a b : ℕ) (es : List Entry) → a ≤ b → AllOver a es → AllOver b es
over-more a b [] le all = tt
over-more a b (e ∷ es) le all = (let p = all.0 in omega (arith, p, le), over-more a b es le all.1)

over-push : (high : ℕ) (es : List Entry) (e : Entry) → AllOver high es → e.0 ≤ high → AllOver high (es ++ e ∷ [])
over-push high [] e all le = (le, tt)
over-push high (x ∷ xs) e all le = (all.0, over-push high xs e all.1 le)

under-push : (low : ℕ) (es : List Entry) (e : Entry) → AllUnder low es → low ≤ e.0 → AllUnder low (es ++ e ∷ [])
under-push low [] e all le = (le, tt)
under-push low (x ∷ xs) e all le = (all.0, under-push low xs e all.1 le)

are-push : (es : List Entry) (e : Entry) → AreUnder es → AllOver e.0 es → AreUnder (es ++ e ∷ [])
are-push [] e are over = (tt, tt)
are-push (x ∷ xs) e are over = (under-push x.0 xs e are.0 over.0, are-push xs e are.1 over.1)

abbrev EndsAtLast : List Entry → Type 0
EndsAtLast es = (l : Entry) → last es ≡ Some l → AllOver l.0 es

-- of one of the spec's ranks, and may stand in a book
abbrev IsLawful : Spec → Entry → Type 0
IsLawful spec e = IsFactFor spec e.1 × (e.0 < ranks spec) × IsFactLed spec e.0 e.1

record AreLawful (spec : Spec) (es : List Entry) : Type 0 where
  each : EachEntry (IsLawful spec) es
  under : AreUnder es
  over : EndsAtLast es

lawful-push : (spec : Spec) (es : List Entry) (e : Entry) → AreLawful spec es → IsLawfulEntry spec es e → AreLawful spec (es ++ e ∷ [])
lawful-push spec es e are next = record {
  each = each-push (IsLawful spec) es e are.each (next.fact, next.below, next.led);
  under = are-push es e are.under to;
  over = λ l at.
      let same : e ≡ l = (let f : Some e ≡ Some l = sym (last-push es e) ∙ at in cc) in
      over-push l.0 es e (subst (λ (x : Entry). AllOver x.0 es) same to) (subst (λ (x : Entry). e.0 ≤ x.0) same (omega arith));
}
  where
    to : AllOver e.0 es
    to = on (last es) refl
      where
        on : (o : Option Entry) → last es ≡ o → AllOver e.0 es
        on None at = subst (AllOver e.0) (sym (last-none es at)) tt
        on (Some l) at = over-more l.0 e.0 es (under-first l e (next.after l at)) (are.over l at)

entries-lawful : (spec : Spec) (before : List Entry) (ds : Items) (es : List Entry) → AreLawful spec before → AreEntries spec before ds (Ok es)
    → AreLawful spec es
entries-lawful spec before no_items es are is = let same : es ≡ before = cc in subst (AreLawful spec) (sym same) are
entries-lawful spec before (item d ds) es are (inl (e, next, rest)) =
    entries-lawful spec (before ++ e ∷ []) ds es (lawful-push spec before e are (next-entry spec before d e next)) rest
entries-lawful spec before (item d ds) es are (inr (e, refused, is)) = absurd (cc)

none-lawful : (spec : Spec) → AreLawful spec []
none-lawful spec = record { each = tt; under = tt; over = λ l e. tt }

each-below : (spec : Spec) (es : List Entry) → EachEntry (IsLawful spec) es → RanksBelow (ranks spec) es
each-below spec [] each = tt
each-below spec (e ∷ es) each = (each.0.1, each-below spec es each.1)

lawful-recordable : (spec : Spec) (e : Entry) → IsLawful spec e → IsRecordable spec e.0 e.1
lawful-recordable spec e is = on e.1 is.0 is.2
  where
    on : (fact : Fact) → IsFactFor spec fact → IsFactLed spec e.0 fact → IsRecordable spec e.0 fact
    on (Ran o) for led = (is.1, for.0, for.1)
    on (Swap k) for led = (is.1, for, led e.0 (omega arith) (omega arith))

-- one of a list that the order does not tell from an entry is the entry
any-entry : (P : Entry → Type 0) (es : List Entry) (e : Entry) → EachEntry P es → list_any (eq_by_cmp entry_cmp e) es ≡ true → P e
any-entry P [] e each is = absurd (let f : false ≡ true = is in cc)
any-entry P (x ∷ xs) e each is =
    ⊎_elim (λ here. subst P (sym (tied e x here)) each.0) (any-entry P xs e each.1) (or_cases _ _ is)
  where
    tied : (a b : Entry) → eq_by_cmp entry_cmp a b ≡ true → a ≡ b
    tied a b same = entry_same a b (on (entry_cmp a b) same)
      where
        on : (o : Ordering) → Rattle.std.specs.Ordering.is_eq o ≡ true → o ≡ Equal
        on Less f = absurd (cc)
        on Equal f = refl
        on Greater f = absurd (cc)

module _ (spec : Spec) (ds : Items) (es : List Entry) (are : AreEntries spec [] ds (Ok es)) where
  lawful : AreLawful spec es
  lawful = entries-lawful spec [] ds es (none-lawful spec) are

  pub read-under : AreUnder es
  read-under = lawful.under

  pub read-below : RanksBelow (ranks spec) es
  read-below = each-below spec es lawful.each

  pub facts-recordable : AllRecordable spec (from_list es)
  facts-recordable r fact h =
      any-entry (λ (e : Entry). IsRecordable spec e.0 e.1) es (r, fact) (all es lawful.each) (sym (contains-from_list entry_total es (r, fact)) ∙ h)
    where
      all : (xs : List Entry) → EachEntry (IsLawful spec) xs → EachEntry (λ (e : Entry). IsRecordable spec e.0 e.1) xs
      all [] each = tt
      all (x ∷ xs) each = (lawful-recordable spec x each.0, all xs each.1)

-- ---- building

-- one more rank with its fact
pub one-more : (es : List Entry) (r : ℕ) (fact : Fact) → union (from_list es) (from_list (repeated r (r + 1 - r) fact))
    ≡ from_list {R = entry_cmp} (es ++ (r, fact) ∷ [])
one-more es r fact =
    ap (λ n. union (from_list es) (from_list (repeated r n fact))) one ∙ same_facts _ _ (λ e.
    in_union (from_list es) (from_list ((r, fact) ∷ [])) e
    ∙ (λ i. contains-from_list entry_total es e i || contains-from_list entry_total ((r, fact) ∷ []) e i)
    ∙ sym (list_any-append (eq_by_cmp entry_cmp e) es ((r, fact) ∷ []))
    ∙ sym (contains-from_list entry_total (es ++ (r, fact) ∷ []) e))
  where
    one : r + 1 - r ≡ 1
    one = omega arith

-- ---- no read fault

fact-plain : (spec : Spec) (word : List ℕ) (d : Data) → IsPlain (IsFact spec word d)
fact-plain spec word d e (inl (ran, is)) =
    plain-then (IsOutcome spec d) (λ o. Gives (Ran o)) (plain-given BadField (IsOutcomeValue spec d) Gives (λ f. cc) (λ o. plain-gives o))
    (λ o. plain-gives (Ran o)) e is
fact-plain spec word d e (inr (inl (swap, is))) = plain-given BadField (λ k. place_in d
    ≡ Some k) (λ k. Gives (Swap k)) (λ f. cc) (λ k. plain-gives (Swap k)) e is
fact-plain spec word d e (inr (inr (a, b, is))) = plain-refusal {X = Fact} BadField (λ f. cc) e is

entry-plain : (spec : Spec) (d : Data) → IsPlain (IsEntry spec d)
entry-plain spec d e (inl (parts, told, inl (fact, is, same))) = absurd (cc)
entry-plain spec d e (inl (parts, told, inr (f, refused, is))) = λ fault. fact-plain spec parts.word parts.value f refused (sym
    (same-error {X = Entry} e f is) ∙ fault)
entry-plain spec d e (inr (none, is)) = plain-refusal {X = Entry} BadField (λ f. cc) e is

next-plain : (spec : Spec) (before : List Entry) (d : Data) → IsPlain (IsNextEntry spec before d)
next-plain spec before d e (inl (entry, read, inl (below, inl (led, inl (after, is))))) = absurd (cc)
next-plain spec before d e (inl (entry, read, inl (below, inl (led, inr (not, is))))) = plain-refusal {X = Entry} OutOfOrder (λ f. cc) e is
next-plain spec before d e (inl (entry, read, inl (below, inr (not, is)))) = plain-refusal {X = Entry} BadSwap (λ f. cc) e is
next-plain spec before d e (inl (entry, read, inr (not, is))) = plain-refusal {X = Entry} BadRank (λ f. cc) e is
next-plain spec before d e (inr (f, refused, is)) = λ fault. entry-plain spec d f refused (sym (same-error {X = Entry} e f is) ∙ fault)

pub entries-plain : (spec : Spec) (before : List Entry) (ds : Items) → IsPlain (AreEntries spec before ds)
entries-plain spec before no_items = plain-gives before
entries-plain spec before (item d ds) =
    plain-then {X = List Entry} (IsNextEntry spec before d) (λ entry. AreEntries spec (before ++ entry ∷ []) ds) (next-plain spec before d)
    (λ entry. entries-plain spec (before ++ entry ∷ []) ds)
