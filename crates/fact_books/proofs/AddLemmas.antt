-- Runs of which the first ones stay, and the others are merged with more.
use Rattle.std.proofs.Common.{◌≡◌, sym, ap, ◌∙◌, subst, ℕ, zero, suc, ◌-◌, ◌<◌, ◌≤◌, ◌||◌, List, [], ◌∷◌, ◌++◌, length, get_or, map, take, drop, Result, Ok}
use Rattle.std.proofs.Common.{Err, OnOk, OnErr, arith}
use Rattle.std.proofs.Math.Bool.{or_assoc, or-false}
use Rattle.std.proofs.lemmas.List.{take-append-drop, length-drop}
use Rattle.std.proofs.lemmas.List.Folds.{list_any-append}
use Rattle.std.specs.List.{list_any}
use Rattle.fact_books.specs.declared.run.Run.{Run}
use Rattle.fact_books.specs.declared.about.About.{About}
use Rattle.std.specs.FinSet.{union}
use Rattle.fact_books.specs.Tables.{Extends, Names}
use Rattle.fact_books.specs.Runs.{Table, has, renamed, firsts, AllFrom, AllTo, IsRising, AddsAll, AllSound, KeepsAllSound, KeepsAllFrom, AreAdded}
use Rattle.fact_books.specs.Books.{AllRecordable, IsBook, IsKept, facts_in, file_of}
use Rattle.fact_books.proofs.RunLemmas.{AllFrom-at}
use Rattle.fact_books.proofs.SweepLemmas.{take-past}
use Rattle.fact_books.proofs.TableLemmas.{union-runs, firsts-renamed, sound-renamed, AllSound-more, Extends-length, any-extends, any-renamed}

-- nothing is added
pub none-added : (old : List Run) → IsRising (firsts old) → AreAdded old [] old
none-added old rising = record { facts = λ table e. sym (or-false (list_any (has table e) old)); rising = rising; sound = λ n a b. a }

AllFrom-less : (low high : ℕ) (xs : List ℕ) → low ≤ high → AllFrom high xs → AllFrom low xs
AllFrom-less low high [] le a = tt
AllFrom-less low high (x ∷ xs) le a = (omega (arith, a.0), AllFrom-less low high xs le a.1)

AllFrom-drop : (low k : ℕ) (runs : List Run) → AllFrom low (firsts runs) → AllFrom low (firsts (drop k runs))
AllFrom-drop low zero runs a = a
AllFrom-drop low (suc k) [] a = tt
AllFrom-drop low (suc k) (run ∷ runs) a = AllFrom-drop low k runs a.1

AllFrom-front : (low k : ℕ) (runs behind : List Run) → AllFrom low (firsts runs) → AllFrom low (firsts behind) → AllFrom low (firsts (take k runs ++ behind))
AllFrom-front low zero runs behind a b = b
AllFrom-front low (suc k) [] behind a b = b
AllFrom-front low (suc k) (run ∷ runs) behind a b = (a.0, AllFrom-front low k runs behind a.1 b)

-- the slice behind so many runs has all of them
pub behind-all : (k : ℕ) (runs : List Run) → take (length runs - k) (drop k runs) ≡ drop k runs
behind-all k runs = take-past (drop k runs) (length runs - k) (let same = length-drop k runs in omega (arith, same))

pub rising-behind : (k : ℕ) (runs : List Run) → IsRising (firsts runs) → IsRising (firsts (drop k runs))
rising-behind zero runs rising = rising
rising-behind (suc k) [] rising = tt
rising-behind (suc k) (run ∷ runs) rising = rising-behind k runs rising.1

-- the first of rising ranks is the least
pub first-least : (runs : List Run) (d : Run) → IsRising (firsts runs) → AllFrom (get_or runs 0 d).first (firsts runs)
first-least [] d rising = tt
first-least (run ∷ runs) d rising = (omega arith, rising.0)

-- up to the last one that is not higher
pub front-low : (runs : List Run) (n rank : ℕ) (d : Run) → IsRising (firsts runs) → n < length runs → (get_or runs n d).first ≤ rank
    → AllTo rank (firsts (take (suc n) runs))
front-low [] n rank d rising lt le = absurd (omega arith)
front-low (run ∷ runs) zero rank d rising lt le = (le, tt)
front-low (run ∷ runs) (suc n) rank d rising lt le =
    (let first = AllFrom-at run.first runs n d (omega arith) rising.0 in omega (arith, le, first), front-low runs n rank d rising.1 (omega arith) le)

rising-front : (old : List Run) (k rank : ℕ) (more new : List Run) → IsRising (firsts old) → AllTo rank (firsts (take k old)) → AllFrom rank (firsts more)
    → IsRising (firsts new) → KeepsAllFrom (drop k old) more new → IsRising (firsts (take k old ++ new))
rising-front old zero rank more new rises low from rising keeps = rising
rising-front [] (suc k) rank more new rises low from rising keeps = rising
rising-front (run ∷ old) (suc k) rank more new rises low from rising keeps = (
  AllFrom-front run.first k old new rises.0
      (keeps run.first (AllFrom-drop run.first k old rises.0) (AllFrom-less run.first rank (firsts more) low.0 from)),
  rising-front old k rank more new rises.1 low.1 from rising keeps,
)

sound-front : (n k : ℕ) (old more new : List Run) → AllSound n old → AllSound n more → KeepsAllSound (drop k old) more new → AllSound n (take k old ++ new)
sound-front n zero old more new a b keeps = keeps n a b
sound-front n (suc k) [] more new a b keeps = keeps n a b
sound-front n (suc k) (run ∷ old) more new a b keeps = (a.0, sound-front n k old more new a.1 b keeps)

-- the first ones stay, and the rest was merged
pub added-behind : (old more new : List Run) (k rank : ℕ) → IsRising (firsts old) → AllTo rank (firsts (take k old)) → AllFrom rank (firsts more)
    → AddsAll (drop k old) more new → IsRising (firsts new) → KeepsAllFrom (drop k old) more new → KeepsAllSound (drop k old) more new
    → AreAdded old more (take k old ++ new)
added-behind old more new k rank rises low from adds rising keeps sound = record {
  facts = λ table e. list_any-append (has table e) (take k old) new
      ∙ ap (λ b. list_any (has table e) (take k old) || b) (adds table e)
      ∙ sym (or_assoc (list_any (has table e) (take k old)) (list_any (has table e) (drop k old)) (list_any (has table e) more))
      ∙ ap (λ b. b || list_any (has table e) more) (sym (list_any-append (has table e) (take k old) (drop k old))
      ∙ ap (list_any (has table e)) (take-append-drop k old));
  rising = rising-front old k rank more new rises low from rising keeps;
  sound = λ n a b. sound-front n k old more new a b sound;
}

-- a book that says what it said
pub same-book : (about : About) (t u : Table) (old new : List Run) → IsBook about t old → IsKept u new → facts_in u new ≡ facts_in t old → IsBook about u new
same-book about t u old new is kept same = record {
  about_is = is.about_is;
  kept = kept;
  recordable = subst (AllRecordable (file_of about).run) (sym same) is.recordable;
}

-- ---- runs of another table, with the numbers of this one

pub rising-renamed : (ns : List ℕ) (others more : List Run) → more ≡ map (renamed ns) others → IsRising (firsts others) → IsRising (firsts more)
rising-renamed ns others more is rising =
    subst (λ rs. IsRising (firsts rs)) (sym is) (subst IsRising (sym (firsts-renamed ns others)) rising)

module _ (new old other : Table) (runs others more : List Run) (ns : List ℕ) (names : Names new ns other) (extends : Extends old new)
    (kept : IsKept old runs) (others_kept : IsKept other others) (is : more ≡ map (renamed ns) others) where
  pub kept-added : (after : List Run) → AreAdded runs more after → IsKept new after
  kept-added after a = record {
    rising = a.rising;
    sound = a.sound (length new) (AllSound-more _ _ runs (Extends-length old new extends) kept.sound)
        (subst (AllSound (length new)) (sym is) (sound-renamed new ns other others names others_kept.sound));
  }

  pub facts-added : (after : List Run) → AreAdded runs more after → facts_in new after ≡ union (facts_in old runs) (facts_in other others)
  facts-added after a = union-runs new old other after runs others more a.facts
      (λ e. any-extends old new runs e extends kept.sound)
      (λ e. ap (list_any (has new e)) is ∙ any-renamed new ns other others e names others_kept.sound)

-- what holds where a call is well, and where it is refused, holds after it
pub either : {T E P Q X : Type 0} (r : Result T E) → OnOk r P → OnErr r Q → (P → X) → (Q → X) → X
either (Ok x) p q f g = f p
either (Err x) p q f g = g q
