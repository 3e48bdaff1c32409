-- One more stretch of ranks with a fact.
use Rattle.std.proofs.Common.{◌≡◌, sym, ap, ◌∙◌, ℕ, ◌-◌, ◌&&◌, ◌||◌, List, length}
use Rattle.std.specs.Ordering.{eq_by_cmp}
use Rattle.std.specs.FinSet.{contains, union, from_list, contains-from_list}
use Rattle.rank_facts.specs.declared.fact.Fact.{Fact}
use Rattle.fact_books.specs.declared.run.Run.{Run}
use Rattle.fact_books.specs.Entries.{Entry, entry_cmp, fact_cmp}
use Rattle.fact_books.proofs.Orders.{entry_total}
use Rattle.fact_books.specs.Runs.{Table, fact_in, within, has, AllSound, Adds, repeated}
use Rattle.fact_books.specs.Books.{facts_in, IsKept}
use Rattle.fact_books.specs.Tables.{Extends}
use Rattle.fact_books.proofs.SetLemmas.{same_facts, in_union, contains-runs, any-repeated, stretch}
use Rattle.fact_books.proofs.TableLemmas.{any-extends, AllSound-more, Extends-length}

pub kept-more : (old new : Table) (runs : List Run) → Extends old new → IsKept old runs → IsKept new runs
kept-more old new runs ext k = record { rising = k.rising; sound = AllSound-more _ _ runs (Extends-length old new ext) k.sound }

-- what a run says is its stretch
has-stretch : (t : Table) (run : Run) (e : Entry) (first end : ℕ) (f : Fact) → run.first ≡ first → run.end ≡ end → fact_in t run.tag ≡ f
    → has t e run ≡ contains (from_list {R = entry_cmp} (repeated first (end - first) f)) e
has-stretch t run e first end f p q r =
    (λ i. within (p i) (q i) e.0 && eq_by_cmp fact_cmp e.1 (r i))
    ∙ ap (λ b. b && eq_by_cmp fact_cmp e.1 f) (sym (stretch first end e.0))
    ∙ sym (any-repeated first (end - first) f e) ∙ sym (contains-from_list entry_total (repeated first (end - first) f) e)

pub pushed : (old new : Table) (runs after : List Run) (run : Run) (first end : ℕ) (f : Fact) → Extends old new → AllSound (length old) runs → run.first ≡ first
    → run.end ≡ end → fact_in new run.tag ≡ f → Adds runs run after
    → facts_in new after ≡ union (facts_in old runs) (from_list (repeated first (end - first) f))
pushed old new runs after run first end f ext sound p q fact adds = same_facts _ _ (λ e.
    contains-runs new after e ∙ adds new e
    ∙ (λ i. (any-extends old new runs e ext sound ∙ sym (contains-runs old runs e)) i || has-stretch new run e first end f p q fact i)
    ∙ sym (in_union (facts_in old runs) (from_list (repeated first (end - first) f)) e))

-- a table that grew says the same of the runs
pub same-facts-more : (old new : Table) (runs : List Run) → Extends old new → AllSound (length old) runs → facts_in new runs ≡ facts_in old runs
same-facts-more old new runs ext sound = same_facts _ _ (λ e. contains-runs new runs e ∙ any-extends old new runs e ext sound ∙ sym (contains-runs old runs e))
