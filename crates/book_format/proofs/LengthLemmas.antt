-- Lengths and numbers of facts, counted up to a largest number.
use Rattle.std.proofs.Common.{◌≡◌, ap, ◌∙◌, ℕ, ◌+◌, ◌-◌, ◌<◌, List, [], ◌∷◌, ◌++◌, length, get_or, take, codes, arith, min}
use Rattle.std.specs.Prelude.{flat_map}
use Rattle.std.proofs.lemmas.List.{length-append, take_more}
use Rattle.std.specs.List.{join_by}
use Rattle.fact_books.specs.declared.run.Run.{Run}
use Rattle.fact_books.specs.Runs.{Table}
use Rattle.book_format.specs.BookText.{total_of}
use Rattle.book_format.specs.Pieces.{run_text, facts_text, parts_text, spec_text, table_text, told_text}

-- one more item of a list
pub length-more : {X : Type 0} (f : X → List ℕ) (xs : List X) (i : ℕ) (d : X) → i < length xs
    → length (flat_map f (take (i + 1) xs)) ≡ length (flat_map f (take i xs)) + length (f (get_or xs i d))
length-more f xs i d lt = ap (λ l. length (flat_map f l)) (take_more xs i d lt) ∙ pushed (take i xs)
  where
    pushed : (ys : List _) → length (flat_map f (ys ++ get_or xs i d ∷ [])) ≡ length (flat_map f ys) + length (f (get_or xs i d))
    pushed [] = let a = length-append (f (get_or xs i d)) [] in omega (arith, a)
    pushed (y ∷ ys) =
        let a = length-append (f y) (flat_map f (ys ++ get_or xs i d ∷ [])) in
        let b = length-append (f y) (flat_map f ys) in
        let c = pushed ys in
        omega (arith, a, b, c)

pub total-more : (runs : List Run) (i : ℕ) (d : Run) → i < length runs
    → total_of (take (i + 1) runs) ≡ total_of (take i runs) + ((get_or runs i d).end - (get_or runs i d).first)
total-more runs i d lt = ap total_of (take_more runs i d lt) ∙ pushed (take i runs) (get_or runs i d)
  where
    pushed : (ys : List Run) (run : Run) → total_of (ys ++ run ∷ []) ≡ total_of ys + (run.end - run.first)
    pushed [] run = omega arith
    pushed (y ∷ ys) run = let c = pushed ys run in omega (arith, c)

-- the lengths of the parts
pub length-parts : (runs : List Run) (table : Table) (quoted : List ℕ)
    → length (parts_text runs table quoted) ≡ length (join_by run_text (codes ",") runs) + length (join_by told_text (codes ",") table) + length quoted + 46
length-parts runs table quoted =
    let a = length-append (facts_text runs ++ table_text table) (spec_text quoted) in
    let b = length-append (facts_text runs) (table_text table) in
    let c = length-append (codes "{\"facts\":[") (join_by run_text (codes ",") runs) in
    let d = length-append (codes "],\"format\":2,\"outcomes\":[") (join_by told_text (codes ",") table) in
    let e = length-append (codes "],\"spec\":" ++ quoted) (codes "}\n") in
    let f = length-append (codes "],\"spec\":") quoted in
    omega (arith, a, b, c, d, e, f)

-- one more part of a sum that is capped
pub capped-more : (m total part done now more : ℕ) → done ≡ min total m → now ≡ part → more ≡ total + part → (sum : ℕ) → sum ≡ min (done + now) m
    → sum ≡ min more m
capped-more m total part done now more a b c sum d = grind (arith, a, b, c, d)

-- the length of the whole, from those of its parts
pub length-capped : (m a b q runs texts s t u whole : ℕ) → runs ≡ min a m → texts ≡ min b m → s ≡ min (runs + texts) m → t ≡ min (s + q) m
    → u ≡ min (t + 46) m → whole ≡ a + b + q + 46 → u ≡ min whole m
length-capped m a b q runs texts s t u whole e f g h k l = grind (arith, e, f, g, h, k, l)

-- what is over a limit is so although it is capped
pub over-capped : (limit m u whole : ℕ) → limit < m → u ≡ min whole m → limit < u → limit < whole
over-capped limit m u whole l e o = grind (arith, l, e, o)

pub over-whole : (limit m u whole : ℕ) → limit < m → u ≡ min whole m → limit < whole → limit < u
over-whole limit m u whole l e o = grind (arith, l, e, o)
