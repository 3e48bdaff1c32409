-- A table that grows, runs with other numbers, and the set that joined runs stand for.
use Rattle.std.proofs.Common.{◌≡◌, refl, sym, ap, subst, ◌∙◌, ℕ, zero, suc, ◌+◌, ◌<◌, ◌≤◌, Bool, true, false, ◌&&◌, ◌||◌, List, [], ◌∷◌, ◌++◌, append_assoc}
use Rattle.std.proofs.Common.{length, get_or, map, arith}
use Rattle.std.specs.List.{list_any}
use Rattle.std.specs.Ordering.{eq_by_cmp}
use Rattle.std.specs.FinSet.{union}
use Rattle.rank_facts.specs.declared.fact.Fact.TheVariants.{Ran as RanFact}
use Rattle.fact_books.specs.declared.run.Run.{Run}
use Rattle.fact_books.specs.declared.run.Tag.{Tag}
use Rattle.fact_books.specs.declared.run.Tag.TheVariants.{Ran, Swap}
use Rattle.fact_books.specs.Entries.{Entry, fact_cmp}
use Rattle.fact_books.specs.Entries.{Told}
use Rattle.fact_books.specs.Runs.{Table, fact_in, within, has, firsts, IsNumbered, AllSound, renamed, renamed_tag}
use Rattle.fact_books.specs.Books.{facts_in}
use Rattle.fact_books.specs.Tables.{Extends, Names}
use Rattle.fact_books.proofs.SetLemmas.{same_facts, in_union, contains-runs}

pub Extends-none : (t : Table) → Extends t t
Extends-none t = ([], sym (Rattle.std.proofs.Common.append-nil t))

pub Extends-trans : (a b c : Table) → Extends a b → Extends b c → Extends a c
Extends-trans a b c h k = (h.0 ++ k.0, k.1 ∙ ap (λ t. t ++ k.0) h.1 ∙ append_assoc a h.0 k.0)

pub get_or-front : (xs ys : Table) (n : ℕ) → n < length xs → get_or (xs ++ ys) n [] ≡ get_or xs n []
get_or-front [] ys n lt = absurd (omega arith)
get_or-front (x ∷ xs) ys zero lt = refl
get_or-front (x ∷ xs) ys (suc n) lt = get_or-front xs ys n (omega arith)

length-front : (xs ys : Table) → length xs ≤ length (xs ++ ys)
length-front [] ys = omega arith
length-front (x ∷ xs) ys = omega (arith, length-front xs ys)

pub Extends-get : (old new : Table) (n : ℕ) → Extends old new → n < length old → get_or new n [] ≡ get_or old n []
Extends-get old new n h lt = ap (λ t. get_or t n []) h.1 ∙ get_or-front old h.0 n lt

pub Extends-length : (old new : Table) → Extends old new → length old ≤ length new
Extends-length old new h = subst (λ t. length old ≤ length t) (sym h.1) (length-front old h.0)

pub Names-more : (old new : Table) (ns : List ℕ) (os : Table) → Extends old new → Names old ns os → Names new ns os
Names-more old new [] [] h m = tt
Names-more old new [] (o ∷ os) h m = absurd m
Names-more old new (n ∷ ns) [] h m = absurd m
Names-more old new (n ∷ ns) (o ∷ os) h m = (omega (arith, m.0, Extends-length old new h), Extends-get old new n h m.0 ∙ m.1, Names-more old new ns os h m.2)

pub Names-push : (t : Table) (ns : List ℕ) (os : Table) (n : ℕ) (o : Told) → Names t ns os → n < length t → get_or t n [] ≡ o
    → Names t (ns ++ n ∷ []) (os ++ o ∷ [])
Names-push t [] [] n o m lt at = (lt, at, tt)
Names-push t [] (p ∷ os) n o m lt at = absurd m
Names-push t (k ∷ ns) [] n o m lt at = absurd m
Names-push t (k ∷ ns) (p ∷ os) n o m lt at = (m.0, m.1, Names-push t ns os n o m.2 lt at)

pub Names-length : (t : Table) (ns : List ℕ) (os : Table) → Names t ns os → length ns ≡ length os
Names-length t [] [] m = refl
Names-length t [] (o ∷ os) m = absurd m
Names-length t (n ∷ ns) [] m = absurd m
Names-length t (n ∷ ns) (o ∷ os) m = ap suc (Names-length t ns os m.2)

Names-at : (t : Table) (ns : List ℕ) (os : Table) (n : ℕ) → Names t ns os → n < length os
    → (get_or ns n 0 < length t) × (get_or t (get_or ns n 0) [] ≡ get_or os n [])
Names-at t [] [] n m lt = absurd (omega arith)
Names-at t [] (o ∷ os) n m lt = absurd m
Names-at t (k ∷ ns) [] n m lt = absurd m
Names-at t (k ∷ ns) (o ∷ os) zero m lt = (m.0, m.1)
Names-at t (k ∷ ns) (o ∷ os) (suc n) m lt = Names-at t ns os n m.2 (omega arith)

pub AllSound-more : (n m : ℕ) (runs : List Run) → n ≤ m → AllSound n runs → AllSound m runs
AllSound-more n m [] le a = tt
AllSound-more n m (run ∷ runs) le a = ((tag run.tag a.0.0, a.0.1), AllSound-more n m runs le a.1)
  where
    tag : (t : Tag) → IsNumbered n t → IsNumbered m t
    tag (Ran k) lt = omega arith
    tag (Swap k) lt = tt

pub sound-renamed : (t : Table) (ns : List ℕ) (os : Table) (runs : List Run) → Names t ns os → AllSound (length os) runs
    → AllSound (length t) (map (renamed ns) runs)
sound-renamed t ns os [] m a = tt
sound-renamed t ns os (run ∷ runs) m a = ((tag run.tag a.0.0, a.0.1), sound-renamed t ns os runs m a.1)
  where
    tag : (g : Tag) → IsNumbered (length os) g → IsNumbered (length t) (renamed_tag ns g)
    tag (Ran k) lt = (Names-at t ns os k m lt).0
    tag (Swap k) lt = tt

pub firsts-renamed : (ns : List ℕ) (runs : List Run) → firsts (map (renamed ns) runs) ≡ firsts runs
firsts-renamed ns [] = refl
firsts-renamed ns (run ∷ runs) = ap (λ l. run.first ∷ l) (firsts-renamed ns runs)

fact-renamed : (t : Table) (ns : List ℕ) (os : Table) (g : Tag) → Names t ns os → IsNumbered (length os) g → fact_in t (renamed_tag ns g) ≡ fact_in os g
fact-renamed t ns os (Ran k) m lt = ap RanFact (Names-at t ns os k m lt).1
fact-renamed t ns os (Swap k) m lt = refl

pub any-renamed : (t : Table) (ns : List ℕ) (os : Table) (runs : List Run) (e : Entry) → Names t ns os → AllSound (length os) runs
    → list_any (has t e) (map (renamed ns) runs) ≡ list_any (has os e) runs
any-renamed t ns os [] e m a = refl
any-renamed t ns os (run ∷ runs) e m a =
    λ i. (within run.first run.end e.0 && eq_by_cmp fact_cmp e.1 (fact-renamed t ns os run.tag m a.0.0 i)) || any-renamed t ns os runs e m a.1 i

fact-extends : (old new : Table) (g : Tag) → Extends old new → IsNumbered (length old) g → fact_in new g ≡ fact_in old g
fact-extends old new (Ran k) h lt = ap RanFact (Extends-get old new k h lt)
fact-extends old new (Swap k) h lt = refl

pub any-extends : (old new : Table) (runs : List Run) (e : Entry) → Extends old new → AllSound (length old) runs
    → list_any (has new e) runs ≡ list_any (has old e) runs
any-extends old new [] e h a = refl
any-extends old new (run ∷ runs) e h a =
    λ i. (within run.first run.end e.0 && eq_by_cmp fact_cmp e.1 (fact-extends old new run.tag h a.0.0 i)) || any-extends old new runs e h a.1 i

-- joined runs stand for the union
pub union-runs : (t ta tb : Table) (runs ra rb rc : List Run) →
    ((table : Table) (e : Entry) → list_any (has table e) runs ≡ (list_any (has table e) ra || list_any (has table e) rc)) →
    ((e : Entry) → list_any (has t e) ra ≡ list_any (has ta e) ra) → ((e : Entry) → list_any (has t e) rc ≡ list_any (has tb e) rb) →
    facts_in t runs ≡ union (facts_in ta ra) (facts_in tb rb)
union-runs t ta tb runs ra rb rc both left right = same_facts _ _ (λ e.
    contains-runs t runs e ∙ both t e ∙ (λ i. (left e ∙ sym (contains-runs ta ra e)) i || (right e ∙ sym (contains-runs tb rb e)) i)
    ∙ sym (in_union (facts_in ta ra) (facts_in tb rb) e))
