-- The ranks that no run covers are those without a fact; and the ranks of no class are those of which nothing is told.
use Rattle.std.proofs.Common.{◌≡◌, refl, sym, ◌∙◌, subst, ℕ, suc, ◌<◌, ◌≤◌, min, max, Bool, true, false, cond, ◌||◌, List, [], ◌∷◌, ◌++◌}
use Rattle.std.proofs.Common.{Option, Some, None, Result, Ok, Err, IfOk, length, ltb, arith, ⊎_elim}
use Rattle.std.proofs.lemmas.Bool.{ltb-true, ltb-false, false≢true, or_cases, or_left, or_right}
use Rattle.std.specs.List.{list_any}
use Rattle.class_stretches.specs.Classes.{Run as Ranks, AreApart, in_runs}
use Rattle.class_stretches.specs.Stretches.{class_at, IsStretched, runs_with}
use Rattle.class_stretches.proofs.Groups.{runs-apart, runs-have, runs-within}
use Rattle.bound_specs.specs.Spec.{ranks}
use Rattle.fact_books.specs.declared.run.Run.{Run}
use Rattle.fact_books.specs.Entries.{Told}
use Rattle.fact_books.specs.Runs.{Table, within, firsts, IsRising, AllSound}
use Rattle.fact_books.specs.Books.{Contents, HasFact, IsKept, facts_in}
use Rattle.fact_books.proofs.GapLemmas.{covers, has-covered, covered-has, none-below}
use Rattle.fact_books.proofs.RunLemmas.{within-true, within-from}
use Rattle.fact_books.proofs.SetLemmas.{contains-runs}
use Rattle.book_stretches.specs.declared.told.ToldRanks.{ToldRanks}
use Rattle.book_stretches.specs.Telling.{AreTold, IsToldAt, Tells}
use Rattle.book_stretches.specs.Missing.{AreToRun, AreUntold, HasNoClash, gap, gaps}

-- ---- the ranks that no run covers

apart-from : (low high : ℕ) (rs : List Ranks) → low ≤ high → AreApart high rs → AreApart low rs
apart-from low high [] le a = tt
apart-from low high (r ∷ rs) le a = (let first = a.0 in omega (arith, le, first), a.1, a.2)

-- these are the ranks from here up to a number that no run covers
record AreGaps (next count : ℕ) (runs : List Run) (rs : List Ranks) : Type 0 where
  pub apart : AreApart next rs
  pub there : (r : ℕ) → in_runs rs r ≡ true → (next ≤ r) × (r < count) × (list_any (covers r) runs ≡ true → ⊥)
  pub back : (r : ℕ) → next ≤ r → r < count → (list_any (covers r) runs ≡ true → ⊥) → in_runs rs r ≡ true

last-gap : (next count : ℕ) → AreGaps next count [] (gap next count)
last-gap next count = by (ltb next count) refl
  where
    by : (b : Bool) → ltb next count ≡ b → AreGaps next count [] (cond b (record { first = next; end = count } ∷ []) [])
    by true e =
        let lt : next < count = ltb-true next count e in
        record {
          apart = (omega arith, lt, tt);
          there = λ r h. ⊎_elim (λ k. (let p = within-true next count r k in (p.0, p.1, λ none. false≢true none))) (λ k. absurd (false≢true k))
              (or_cases (within next count r) false h);
          back = λ r from to none. or_left (within next count r) false (within-from next count r from to);
        }
    by false e =
        let le : count ≤ next = ltb-false next count e in
        record {
          apart = tt;
          there = λ r h. absurd (false≢true h);
          back = λ r from to none. absurd (omega (arith, le, from, to));
        }

-- one run more in front
module _ (next count : ℕ) (run : Run) (runs : List Run) (some : run.first < run.end) (behind : (r : ℕ) → r < run.first → list_any (covers r) runs ≡ true → ⊥)
    (rest : List Ranks) (are : AreGaps (max next run.end) count runs rest) where
  past : (r : ℕ) → in_runs rest r ≡ true → (next ≤ r) × (r < count) × (list_any (covers r) (run ∷ runs) ≡ true → ⊥)
  past r h =
      let p = are.there r h in
      let up : max next run.end ≤ r = p.0 in (
        omega (arith, up),
        p.1,
        λ k. ⊎_elim (λ own. (let q = within-true run.first run.end r own in let lt = q.1 in absurd (omega (arith, up, lt)))) p.2
            (or_cases (covers r run) (list_any (covers r) runs) k),
      )

  -- a rank that is not covered and not past the run stands before it
  before : (r : ℕ) → (list_any (covers r) (run ∷ runs) ≡ true → ⊥) → r < run.end → r < run.first
  before r none lt = by (ltb r run.first) refl
    where
      by : (b : Bool) → ltb r run.first ≡ b → r < run.first
      by true e = ltb-true r run.first e
      by false e =
          let le : run.first ≤ r = ltb-false r run.first e in
          absurd (none (or_left (covers r run) (list_any (covers r) runs) (within-from run.first run.end r le lt)))

  late : (r : ℕ) → next ≤ r → r < count → run.end ≤ r → (list_any (covers r) (run ∷ runs) ≡ true → ⊥) → in_runs rest r ≡ true
  late r from to le none =
      let up : max next run.end ≤ r = omega (arith, from, le) in
      are.back r up to (λ k. none (or_right (covers r run) (list_any (covers r) runs) k))

  front-gap : AreGaps next count (run ∷ runs) (gap next (min run.first count) ++ rest)
  front-gap = by (ltb next (min run.first count)) refl
    where
      by : (b : Bool) → ltb next (min run.first count) ≡ b
          → AreGaps next count (run ∷ runs) (cond b (record { first = next; end = min run.first count } ∷ []) [] ++ rest)
      by true e =
          let lt : next < min run.first count = ltb-true next (min run.first count) e in
          record {
            apart = (omega arith, lt, apart-from (suc (min run.first count)) (max next run.end) rest (omega (arith, some)) are.apart);
            there = λ r h. ⊎_elim
                (λ k. (let p = within-true next (min run.first count) r k in
                let to : r < min run.first count = p.1 in
                let early : r < run.first = omega (arith, to) in (
                  p.0,
                  omega (arith, to),
                  λ c. ⊎_elim (λ own. (let q = within-true run.first run.end r own in let le = q.0 in absurd (omega (arith, early, le))))
                      (behind r early) (or_cases (covers r run) (list_any (covers r) runs) c),
                ))) (past r)
                (or_cases (within next (min run.first count) r) (in_runs rest r) h);
            back = λ r from to none. at r from to none (ltb r run.end) refl;
          }
        where
          at : (r : ℕ) → next ≤ r → r < count → (list_any (covers r) (run ∷ runs) ≡ true → ⊥) → (c : Bool) → ltb r run.end ≡ c
              → (within next (min run.first count) r || in_runs rest r) ≡ true
          at r from to none true f =
              let early : r < run.first = before r none (ltb-true r run.end f) in
              let inside : r < min run.first count = omega (arith, early, to) in
              or_left (within next (min run.first count) r) (in_runs rest r) (within-from next (min run.first count) r from inside)
          at r from to none false f = or_right (within next (min run.first count) r) (in_runs rest r) (late r from to (ltb-false r run.end f) none)
      by false e =
          let le : min run.first count ≤ next = ltb-false next (min run.first count) e in
          record {
            apart = apart-from next (max next run.end) rest (omega arith) are.apart;
            there = past;
            back = λ r from to none. at r from to none (ltb r run.end) refl;
          }
        where
          at : (r : ℕ) → next ≤ r → r < count → (list_any (covers r) (run ∷ runs) ≡ true → ⊥) → (c : Bool) → ltb r run.end ≡ c → in_runs rest r ≡ true
          at r from to none true f =
              let early : r < run.first = before r none (ltb-true r run.end f) in
              let le : min run.first count ≤ next = ltb-false next (min run.first count) e in
              absurd (omega (arith, early, to, from, le))
          at r from to none false f = late r from to (ltb-false r run.end f) none

are-gaps : (n next count : ℕ) (runs : List Run) → IsRising (firsts runs) → AllSound n runs → AreGaps next count runs (gaps next runs count)
are-gaps n next count [] rises sound = last-gap next count
are-gaps n next count (run ∷ runs) rises sound =
    front-gap next count run runs sound.0.1 (λ r lt k. none-below runs run.first r rises.0 lt k) (gaps (max next run.end) runs count)
    (are-gaps n (max next run.end) count runs rises.1 sound.1)

-- they are those without a fact
pub gaps-to-run : (book : Contents) (table : Table) (runs : List Run) → facts_in table runs ≡ book.facts → IsKept table runs
    → AreToRun book (gaps 0 runs (ranks book.file.run))
gaps-to-run book table runs same kept =
    let are = are-gaps (length table) 0 (ranks book.file.run) runs kept.rising kept.sound in
    record {
      apart = are.apart;
      each = λ r. (
        (λ h. (let p = are.there r h in (
          p.1,
          λ has. (let has' : HasFact (facts_in table runs) r = subst (λ f. HasFact f r) (sym same) has in
              p.2 (has-covered table runs r has'.0 (sym (contains-runs table runs (r, has'.0)) ∙ has'.1))),
        ))),
        (λ p. are.back r (omega arith) p.0
            (λ k. (let x = covered-has table runs r k in
            p.1 (subst (λ f. HasFact f r) same (x.0, contains-runs table runs (r, x.0) ∙ x.1))))),
      );
    }

-- what holds of some ranks holds of what is found where that is these
pub of-found : {X E : Type 0} (result : Result X E) (found : X → List Ranks) (rs : List Ranks) (P : List Ranks → Type 0) → P rs
    → IfOk result (λ x. found x ≡ rs) → IfOk result (λ x. P (found x))
of-found (Ok x) found rs P p is = subst P (sym is) p
of-found (Err e) found rs P p is = tt

-- ---- the ranks of no class

module _ (book : Contents) (x : ToldRanks) (told : AreTold book x) (is : IsStretched x.stretches) where
  at-class : (r : ℕ) → r < ranks book.file.run → (c : Option ℕ) → class_at x.stretches.list r ≡ c → IsToldAt book x.outcomes.items r c
  at-class r lt c e = subst (IsToldAt book x.outcomes.items r) e (told.each r lt)

  pub missing-there : (r : ℕ) → in_runs (runs_with None 0 x.stretches.list) r ≡ true → (r < ranks book.file.run) × ((o : Told) → Tells book r o → ⊥)
  missing-there r h =
      let w = runs-within None 0 x.stretches.list r is.stretches h in
      let lt : r < ranks book.file.run = subst (λ e. r < e) told.all w.1 in
      (lt, at-class r lt None w.2)

  pub missing-back : (r : ℕ) → r < ranks book.file.run → ((o : Told) → Tells book r o → ⊥) → in_runs (runs_with None 0 x.stretches.list) r ≡ true
  missing-back r lt none = by (class_at x.stretches.list r) refl
    where
      by : (c : Option ℕ) → class_at x.stretches.list r ≡ c → in_runs (runs_with None 0 x.stretches.list) r ≡ true
      by None e = runs-have None 0 x.stretches.list r (omega arith) (subst (λ n. r < n) (sym told.all) lt) e
      by (Some c) e = let here = at-class r lt (Some c) e in absurd (none here.0 here.2.value)

  -- they are those of which nothing is told
  pub untold : AreUntold book (runs_with None 0 x.stretches.list)
  untold = record {
    apart = runs-apart None 0 x.stretches.list is.stretches;
    each = λ r. (missing-there r, λ p. missing-back r p.0 p.1);
  }

  -- no rank has two values
  pub no-clash : HasNoClash book
  no-clash r o p lt a b = by (class_at x.stretches.list r) refl
    where
      by : (c : Option ℕ) → class_at x.stretches.list r ≡ c → o ≡ p
      by None e = absurd (at-class r lt None e o a)
      by (Some c) e = let here = at-class r lt (Some c) e in here.2.only o a ∙ sym (here.2.only p b)
