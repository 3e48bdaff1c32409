-- A history that goes on has more facts.
use Rattle.std.proofs.Common.{◌≡◌, ℕ, suc, ◌+◌, Bool, true, false, ◌||◌, List, [], ◌∷◌, ◌++◌, length, Some, None, refl, sym, ap, ◌∙◌, subst, arith}
use mathlib.Core.List.{IsPrefix}
use Rattle.std.specs.FinSet.{union, empty, contains, contains-empty}
use Rattle.fact_books.specs.Entries.{Entry as Told, FactSet, entry_cmp, recorded}
use Rattle.fact_books.specs.Books.{Contents, joined}
use Rattle.fact_books.proofs.SetLemmas.{in_union, same_facts}
use Rattle.shard_board.specs.declared.history.Call.{Call}
use Rattle.shard_board.specs.declared.history.Call.TheVariants.{Deliver, Latest}
use Rattle.shard_board.specs.declared.history.Entry.{Entry}
use Rattle.shard_board.specs.History.{facts_after, facts_from, facts_of, IsRight, IsLegalFrom, IsLegal, entry, Includes}
use Rattle.shard_board.specs.Turning.{IsWithoutFacts}
use Rattle.shard_board.specs.Shown.{ShownSeat}
use Rattle.shard_board.specs.Changes.{IsTurn}
use Rattle.shard_board.proofs.HistoryLemmas.{facts_from-append}

or_left : (a b : Bool) → a ≡ true → (a || b) ≡ true
or_left a b h = ap (λ (x : Bool). x || b) h

or_none : (a : Bool) → (a || false) ≡ a
or_none true = refl
or_none false = refl

union_includes : (s t : FactSet) → Includes (union s t) s
union_includes s t r fact h = in_union s t (r, fact) ∙ or_left _ _ h

pub union-empty : (s : FactSet) → union s empty ≡ s
union-empty s = same_facts _ _ (λ (e : Told). in_union s empty e ∙ (ap (λ (b : Bool). contains s e || b) (contains-empty entry_cmp e) ∙ or_none (contains s e)))

-- a join with a book without facts is a copy
pub copy_is : (copy held none : Contents) → copy ≡ joined held none → IsWithoutFacts none → copy ≡ held
copy_is copy held none is empties = is ∙ (ap (λ (f : FactSet). record { file = held.file; facts = f })
    (ap (λ (b : Contents). union held.facts b.facts) empties ∙ union-empty held.facts))

after_includes : (s : FactSet) (c : Call) → Includes (facts_after s c) s
after_includes s (Deliver n facts (Some r)) k fact h = union_includes s facts k fact h
after_includes s (Deliver n facts None) k fact h = h
after_includes s (Latest reply) k fact h = h

from_includes : (s : FactSet) (es : List Entry) → Includes (facts_from s es) s
from_includes s [] k fact h = h
from_includes s (e ∷ es) k fact h = from_includes (facts_after s e.call) es k fact (after_includes s e.call k fact h)

pub prefix_includes : (xs ys : List Entry) → IsPrefix xs ys → Includes (facts_of ys) (facts_of xs)
prefix_includes xs ys p = subst (λ (l : List Entry). Includes (facts_of l) (facts_of xs)) p.1
    (λ k fact h. subst (λ (f : FactSet). recorded f k fact ≡ true) (sym (facts_from-append empty xs p.0)) (from_includes (facts_of xs) p.0 k fact h))

legal_last : (k : ℕ) (s : FactSet) (xs : List Entry) (e : Entry) → IsLegalFrom k s (xs ++ e ∷ []) → IsRight (k + length xs) (facts_from s xs) e.call
legal_last k s [] e l = let z : k + 0 ≡ k = omega arith in subst (λ (n : ℕ). IsRight n s e.call) (sym z) l.0
legal_last k s (x ∷ xs) e l = let z : k + suc (length xs) ≡ suc k + length xs = omega arith in
    subst (λ (n : ℕ). IsRight n (facts_from (facts_after s x.call) xs) e.call) (sym z) (legal_last (suc k) (facts_after s x.call) xs e l.1)

-- a book that was got holds what its seat had seen
pub latest_holds : (old new : ShownSeat) (facts : FactSet) → IsTurn old new (Latest (Some facts)) → Includes facts (facts_of old.seen)
latest_holds old new facts t =
    let l : IsLegal (t.before ++ entry old.number (Latest (Some facts)) ∷ []) = subst IsLegal (ap (λ (s : ShownSeat). s.seen) t.seat) t.legal in
    let is : facts ≡ facts_of t.before = legal_last 0 empty t.before (entry old.number (Latest (Some facts))) l in
    subst (λ (f : FactSet). Includes f (facts_of old.seen)) (sym is) (prefix_includes old.seen t.before t.begins)
