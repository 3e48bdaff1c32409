-- Arrays of outcomes, runs and facts whose items are read one after the other.
use Rattle.std.proofs.Common.{◌≡◌, refl, sym, ap, subst, ◌∙◌, ℕ, ◌+◌, ◌-◌, ◌<◌, ◌≤◌, List, [], ◌∷◌, ◌++◌, Option, Some, None, Ok, inl, arith}
use Rattle.std.specs.FinSet.{from_list, empty}
use Rattle.json.specs.Token.{Token}
use Rattle.serde_json.specs.Data.{Data, Items, no_items, item}
use Rattle.bound_specs.specs.Spec.{Spec, ranks}
use Rattle.fact_books.specs.declared.run.Run.{Run}
use Rattle.fact_books.specs.Entries.{Entry, Told}
use Rattle.fact_books.specs.Runs.{Table, repeated}
use Rattle.fact_books.specs.Building.{Building, added}
use Rattle.book_format.specs.declared.error.BookError.TheVariants.{BadRank, OutOfOrder, BadSwap}
use Rattle.book_format.specs.declared.reading.facts.RankFact.{RankFact}
use Rattle.book_format.specs.declared.reading.runs.Ends.{Ends}
use Rattle.book_format.specs.declared.pieces.TheConstants.{MAX_FACTS}
use Rattle.book_format.specs.Reading.{Read, Unless, Then, Gives, last, StandsAfter, IsNextOutcome, AreOutcomes}
use Rattle.book_format.specs.ReadingRuns.{IsNextRun, AreRuns, AreEnds, AllNamed, IsApart}
use Rattle.book_format.specs.ReadingFacts.{ComesUnder, IsEntry, IsFactLed, IsNextEntry, AreEntries, entry_of, entries_of}
use Rattle.book_format.specs.ReadingTokens.{AreOutcomesAt, AreRunsAt, AreFactsAt}
use Rattle.book_format.specs.Tokens.{IsItemAt, AreItemsAt}
use Rattle.book_format.proofs.TokenLemmas.{items-end, items-more, array-read}
use Rattle.book_format.proofs.ReadLemmas.{last-push}
use Rattle.book_format.proofs.RunLaws.{next-lawful}
use Rattle.book_format.proofs.FactLaws.{next-entry, under-first, one-more}

-- ---- any array

-- whatever items are still to come, the array has all of them, to which they stand so
abbrev pub Goes : List Token → List Token → (Items → Items → Type 0) → Type 0
Goes start now R = (rest : Items) (left : List Token) → AreItemsAt now rest left → (all : Items) × AreItemsAt start all left × R rest all

pub goes-start : (ts : List Token) (R : Items → Items → Type 0) → ((ds : Items) → R ds ds) → Goes ts ts R
goes-start ts R same = λ rest left are. (rest, are, same rest)

pub goes-more : (start now mid : List Token) (d : Data) (R S : Items → Items → Type 0) → IsItemAt now (Some d) mid
    → ((rest all : Items) → R (item d rest) all → S rest all) → Goes start now R → Goes start mid S
goes-more start now mid d R S is step goes = λ rest left are.
    let whole = goes (item d rest) left (items-more now mid left d rest is are) in
    (whole.0, whole.1, step rest whole.0 whole.2)

pub goes-end : (start now left : List Token) (R : Items → Items → Type 0) → IsItemAt now None left → Goes start now R
    → (all : Items) × AreItemsAt start all left × R no_items all
goes-end start now left R is goes = goes no_items left (items-end now left is)

-- ---- outcomes

-- what is still to be read goes on from these outcomes
pub record AreOutcomesTo (spec : Spec) (whole now : List Token) (table : Table) : Type 0 where
  pub start : List Token
  pub begins : whole ≡ Token.begin_array ∷ start
  pub goes : Goes start now (λ rest all. (r : Read Table) → AreOutcomes spec table rest r → AreOutcomes spec [] all r)

pub outcomes-start : (spec : Spec) (whole now : List Token) (table : Table) → whole ≡ Token.begin_array ∷ now → table ≡ [] → AreOutcomesTo spec whole now table
outcomes-start spec whole now table begins none = record {
  start = now;
  begins = begins;
  goes = goes-start now (λ rest all. (r : Read Table) → AreOutcomes spec table rest r → AreOutcomes spec [] all r)
      (λ ds r is. subst (λ t. AreOutcomes spec t ds r) none is);
}

pub outcomes-more : (spec : Spec) (whole now mid : List Token) (old new : Table) (d : Data) → IsItemAt now (Some d) mid
    → (o : Told) × IsNextOutcome spec old d (Ok o) × (new ≡ old ++ o ∷ []) → AreOutcomesTo spec whole now old → AreOutcomesTo spec whole mid new
outcomes-more spec whole now mid old new d is (o, next, one) h = record {
  start = h.start;
  begins = h.begins;
  goes = goes-more h.start now mid d (λ rest all. (r : Read Table) → AreOutcomes spec old rest r → AreOutcomes spec [] all r)
      (λ rest all. (r : Read Table) → AreOutcomes spec new rest r → AreOutcomes spec [] all r) is
      (λ rest all reads r rests. reads r (inl (o, next, subst (λ t. AreOutcomes spec t rest r) one rests))) h.goes;
}

pub outcomes-whole : (spec : Spec) (whole now left : List Token) (table : Table) → IsItemAt now None left → AreOutcomesTo spec whole now table
    → AreOutcomesAt spec whole table left
outcomes-whole spec whole now left table is h =
    let e = goes-end h.start now left (λ rest all. (r : Read Table) → AreOutcomes spec table rest r → AreOutcomes spec [] all r) is h.goes in
    (e.0, array-read whole h.start left e.0 h.begins e.1, e.2 (Ok table) refl)

-- ---- runs

-- what is still to be read goes on from these runs, which have so many facts
pub record AreRunsTo (spec : Spec) (outcomes : ℕ) (whole now : List Token) (runs : List Run) (facts : ℕ) (ends : Ends) : Type 0 where
  pub few : facts ≤ MAX_FACTS
  pub ends_are : AreEnds outcomes ends runs
  pub start : List Token
  pub begins : whole ≡ Token.begin_array ∷ start
  pub goes : Goes start now (λ rest all. (r : Read (List Run)) → AreRuns spec outcomes runs facts rest r → AreRuns spec outcomes [] 0 all r)

pub runs-start : (spec : Spec) (outcomes : ℕ) (whole now : List Token) (runs : List Run) (ends : Ends) → whole ≡ Token.begin_array ∷ now → runs ≡ []
    → AreEnds outcomes ends [] → AreRunsTo spec outcomes whole now runs 0 ends
runs-start spec outcomes whole now runs ends begins none are = record {
  few = omega arith;
  ends_are = subst (AreEnds outcomes ends) (sym none) are;
  start = now;
  begins = begins;
  goes = goes-start now (λ rest all. (r : Read (List Run)) → AreRuns spec outcomes runs 0 rest r → AreRuns spec outcomes [] 0 all r)
      (λ ds r is. subst (λ rs. AreRuns spec outcomes rs 0 ds r) none is);
}

pub runs-more : (spec : Spec) (outcomes : ℕ) (whole now mid : List Token) (old new : List Run) (facts : ℕ) (ends noted : Ends) (d : Data) (run : Run)
    → IsItemAt now (Some d) mid → IsNextRun spec outcomes old facts d (Ok run) → new ≡ old ++ run ∷ []
    → (AreEnds outcomes ends old → IsApart old run → AreEnds outcomes noted (old ++ run ∷ []))
    → AreRunsTo spec outcomes whole now old facts ends → AreRunsTo spec outcomes whole mid new (facts + (run.end - run.first)) noted
runs-more spec outcomes whole now mid old new facts ends noted d run is next one note h =
    let lawful = next-lawful spec outcomes old facts d run next in
    record {
      few = lawful.few;
      ends_are = subst (AreEnds outcomes noted) (sym one) (note h.ends_are lawful.past.apart);
      start = h.start;
      begins = h.begins;
      goes = goes-more h.start now mid d (λ rest all. (r : Read (List Run)) → AreRuns spec outcomes old facts rest r → AreRuns spec outcomes [] 0 all r)
          (λ rest all. (r : Read (List Run)) → AreRuns spec outcomes new (facts + (run.end - run.first)) rest r → AreRuns spec outcomes [] 0 all r) is
          (λ rest all reads r rests. reads r (inl (run, next, subst (λ rs. AreRuns spec outcomes rs (facts + (run.end - run.first)) rest r) one rests))) h.goes;
    }

pub runs-whole : (spec : Spec) (outcomes : ℕ) (whole now left : List Token) (runs : List Run) (facts : ℕ) (ends : Ends) → IsItemAt now None left
    → AreRunsTo spec outcomes whole now runs facts ends → AllNamed outcomes runs → AreRunsAt spec outcomes whole runs left
runs-whole spec outcomes whole now left runs facts ends is h named =
    let e = goes-end h.start now left (λ rest all. (r : Read (List Run)) → AreRuns spec outcomes runs facts rest r → AreRuns spec outcomes [] 0 all r) is h.goes in
    (e.0, array-read whole h.start left e.0 h.begins e.1, inl (runs, e.2 (Ok runs) refl, inl (named, refl)))

-- ---- facts one by one

-- what is read next hangs on the last one of those before it alone
abbrev AfterLast : Spec → Option Entry → Data → Read Entry → Type 0
AfterLast spec o d =
    Then (IsEntry spec d) (λ entry.
    Unless (entry.0 < ranks spec) BadRank
    (Unless (IsFactLed spec entry.0 entry.1) BadSwap
    (Unless ((l : Entry) → o ≡ Some l → ComesUnder l entry) OutOfOrder
    (Gives entry))))

by-last : (spec : Spec) (a b : List Entry) (d : Data) (r : Read Entry) → last a ≡ last b → IsNextEntry spec a d r → IsNextEntry spec b d r
by-last spec a b d r same is = subst (λ o. AfterLast spec o d r) same is

-- what is still to be read goes on from facts that the builder has, of which the last one is kept
pub record AreFactsTo (spec : Spec) (whole now : List Token) (kept : List RankFact) (built : Building) : Type 0 where
  pub entries : List Entry
  pub facts : built.facts ≡ from_list entries
  pub same : last (entries_of kept) ≡ last entries
  pub next : (e : Entry) → StandsAfter ComesUnder entries e → built.next ≤ e.0
  pub start : List Token
  pub begins : whole ≡ Token.begin_array ∷ start
  pub goes : Goes start now (λ rest all. (r : Read (List Entry)) → AreEntries spec entries rest r → AreEntries spec [] all r)

pub facts-start : (spec : Spec) (whole now : List Token) (kept : List RankFact) (built : Building) → whole ≡ Token.begin_array ∷ now → kept ≡ []
    → built.facts ≡ empty → built.next ≡ 0 → AreFactsTo spec whole now kept built
facts-start spec whole now kept built begins none no_facts first = record {
  entries = [];
  facts = no_facts;
  same = ap (λ k. last (entries_of k)) none;
  next = λ e after. omega (arith, first);
  start = now;
  begins = begins;
  goes = goes-start now (λ rest all. (r : Read (List Entry)) → AreEntries spec [] rest r → AreEntries spec [] all r) (λ ds r is. is);
}

-- the next fact comes where the builder is, and has a rank of the spec
pub fact-follows : (spec : Spec) (whole now : List Token) (kept : List RankFact) (built : Building) (d : Data) (fact : RankFact)
    → IsNextEntry spec (entries_of kept) d (Ok (entry_of fact)) → AreFactsTo spec whole now kept built → (built.next ≤ fact.rank) × (fact.rank < ranks spec)
fact-follows spec whole now kept built d fact is h =
    let lawful = next-entry spec h.entries d (entry_of fact) (by-last spec (entries_of kept) h.entries d (Ok (entry_of fact)) h.same is) in
    (h.next (entry_of fact) lawful.after, lawful.below)

pub facts-more : (spec : Spec) (whole now mid : List Token) (kept keeps : List RankFact) (built builds : Building) (d : Data) (fact : RankFact)
    → IsItemAt now (Some d) mid → IsNextEntry spec (entries_of kept) d (Ok (entry_of fact)) → keeps ≡ fact ∷ []
    → builds ≡ added built fact.rank (fact.rank + 1) fact.fact → AreFactsTo spec whole now kept built → AreFactsTo spec whole mid keeps builds
facts-more spec whole now mid kept keeps built builds d fact is read one more h =
    let e = entry_of fact in
    let here = by-last spec (entries_of kept) h.entries d (Ok e) h.same read in
    let behind : builds.next ≡ fact.rank = ap (λ (b : Building). b.next) more in
    record {
      entries = h.entries ++ e ∷ [];
      facts = ap (λ (b : Building). b.facts) more
          ∙ ap (λ s. Rattle.std.specs.FinSet.union s (from_list (repeated fact.rank (fact.rank + 1 - fact.rank) fact.fact))) h.facts
          ∙ one-more h.entries fact.rank fact.fact;
      same = ap (λ k. last (entries_of k)) one ∙ sym (last-push h.entries e);
      next = λ f after.
          let le : fact.rank ≤ f.0 = under-first e f (after e (last-push h.entries e)) in
          omega (arith, behind, le);
      start = h.start;
      begins = h.begins;
      goes = goes-more h.start now mid d (λ rest all. (r : Read (List Entry)) → AreEntries spec h.entries rest r → AreEntries spec [] all r)
          (λ rest all. (r : Read (List Entry)) → AreEntries spec (h.entries ++ e ∷ []) rest r → AreEntries spec [] all r) is
          (λ rest all reads r rests. reads r (inl (e, here, rests))) h.goes;
    }

pub facts-whole : (spec : Spec) (whole now left : List Token) (kept : List RankFact) (built : Building) → IsItemAt now None left
    → AreFactsTo spec whole now kept built → AreFactsAt spec whole built.facts left
facts-whole spec whole now left kept built is h =
    let e = goes-end h.start now left (λ rest all. (r : Read (List Entry)) → AreEntries spec h.entries rest r → AreEntries spec [] all r) is h.goes in
    (e.0, h.entries, array-read whole h.start left e.0 h.begins e.1, e.2 (Ok h.entries) refl, h.facts)
