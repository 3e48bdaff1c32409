-- Outcomes that are known by numbers, when a table grows and a place is noted.
use Rattle.std.proofs.Common.{◌≡◌, refl, sym, ap, ◌∙◌, subst, ℕ, zero, suc, ◌<◌, List, [], ◌∷◌, ◌++◌, length, get_or, Some}
use Rattle.std.proofs.Common.{slice_get, arith}
use Rattle.std.proofs.lemmas.List.Elements.{All-head, All-tail, All-push}
use Rattle.fact_books.specs.Entries.{Told}
use Rattle.fact_books.specs.Runs.{Table}
use Rattle.fact_books.specs.Tables.{Extends}
use Rattle.fact_books.specs.declared.known.Known.{Known}
use Rattle.fact_books.specs.Known.{known_in, AreInside}
use Rattle.fact_books.proofs.TableLemmas.{Extends-get, Extends-length}

abbrev entry : ℕ → ℕ → Known
entry n p = record { number = n; place = p }

-- in a table that grew the same outcomes are known
pub known-more : (old new : Table) (places : List Known) → Extends old new → AreInside (length old) places → known_in new places ≡ known_in old places
known-more old new [] ext inside = refl
known-more old new (e ∷ places) ext inside =
    λ i. (e.number, Extends-get old new e.place ext (All-head (λ (e : Known). e.place < length old) e places inside) i)
    ∷ known-more old new places ext (All-tail (λ (e : Known). e.place < length old) e places inside) i

pub inside-more : (old new : Table) (places : List Known) → Extends old new → AreInside (length old) places → AreInside (length new) places
inside-more old new places ext inside k d lt = let low = inside k d lt in let more = Extends-length old new ext in omega (arith, low, more)

pub inside-noted : (size : ℕ) (old new : List Known) (n p : ℕ) → new ≡ old ++ entry n p ∷ [] → p < size → AreInside size old → AreInside size new
inside-noted size old new n p noted low inside = subst (AreInside size) (sym noted) (All-push (λ (e : Known). e.place < size) old (entry n p) inside low)

-- the outcome at a place is known by its number
pub place-known : (table : Table) (places : List Known) (n p k : ℕ) → slice_get places k ≡ Some (entry n p)
    → slice_get (known_in table places) k ≡ Some (n, get_or table p [])
place-known table [] n p k is = absurd (cc)
place-known table (e ∷ places) n p zero is =
    let same : e ≡ entry n p = cc in ap (λ (e : Known). Some (e.number, get_or table e.place [])) same
place-known table (e ∷ places) n p (suc k) is = place-known table places n p k is

pub place-inside : (size : ℕ) (places : List Known) (n p k : ℕ) → slice_get places k ≡ Some (entry n p) → AreInside size places → p < size
place-inside size [] n p k is inside = absurd (cc)
place-inside size (e ∷ places) n p zero is inside =
    let same : e ≡ entry n p = cc in subst (λ (e : Known). e.place < size) same (All-head (λ (e : Known). e.place < size) e places inside)
place-inside size (e ∷ places) n p (suc k) is inside =
    place-inside size places n p k is (All-tail (λ (e : Known). e.place < size) e places inside)

known-append : (table : Table) (places : List Known) (e : Known)
    → known_in table (places ++ e ∷ []) ≡ known_in table places ++ (e.number, get_or table e.place []) ∷ []
known-append table [] e = refl
known-append table (x ∷ places) e = ap (λ l. (x.number, get_or table x.place []) ∷ l) (known-append table places e)

-- one more is known
pub knows-noted : (old new : Table) (before after : List Known) (n p : ℕ) (o : Told) → Extends old new → AreInside (length old) before
    → after ≡ before ++ entry n p ∷ [] → get_or new p [] ≡ o → known_in new after ≡ known_in old before ++ (n, o) ∷ []
knows-noted old new before after n p o ext inside noted there =
    ap (known_in new) noted ∙ known-append new before (entry n p)
    ∙ (λ i. known-more old new before ext inside i ++ (n, there i) ∷ [])

pub known-last : (known : List (ℕ × Told)) (e : ℕ × Told) → slice_get (known ++ e ∷ []) (length known) ≡ Some e
known-last [] e = refl
known-last (x ∷ known) e = known-last known e
