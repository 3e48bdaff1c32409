-- What is told as it goes on.
use Rattle.std.proofs.Common.{◌≡◌, ◌≢◌, refl, sym, ap, ◌∙◌, subst, ℕ, ◌+◌, ◌-◌, ◌<◌, ◌≤◌, ◌==◌, cond, Bool, true, false, eq-eqb, eqb-true, List, []}
use Rattle.std.proofs.Common.{◌∷◌, length, length-append, length-set, set, drop, slice_get, get_or, Option, Some, None, Result, Ok, Err, ◌⊎◌, ⊎_elim}
use Rattle.std.proofs.Common.{arith}
use Rattle.std.proofs.lemmas.Option.{get_or_from_slice_get}
use Rattle.std.specs.Bool.{⊤}
use Rattle.std.specs.Result.{OnOk, IfErr}
use Rattle.bound_specs.specs.Spec.{SpecFile, ranks}
use Rattle.fact_books.specs.declared.run.Run.{Run}
use Rattle.fact_books.specs.Entries.{Told}
use Rattle.fact_books.specs.Runs.{AllSound}
use Rattle.fact_books.specs.Books.{Contents, IsKept, facts_in}
use Rattle.fact_books.specs.Sweep.{AllCover, AllReach, IsSplit, IsStretch, IsSweeping}
use Rattle.fact_books.proofs.SweepLemmas.{is-stretch}
use Rattle.class_stretches.specs.Stretches.{Stretched, IsPushed, IsCopied, class_at, end_of, with_class}
use Rattle.class_stretches.specs.Groups.{AllDiffer}
use Rattle.book_stretches.specs.declared.error.TellError.{TellError}
use Rattle.book_stretches.specs.declared.telling.Telling.{Telling}
use Rattle.book_stretches.specs.declared.told.ToldRanks.{ToldRanks}
use Rattle.book_stretches.specs.Classes.{HasNumber}
use Rattle.book_stretches.specs.Telling.{AreTold, IsLeastClash, IsNotTold, IsToldAt, Tells, with_facts}
use Rattle.book_stretches.specs.Sweep.{book_of, end, AreKnown, HasClass, HasMovedOn, HasMovedTo, HasRoom, IsOfSame, IsTelling, IsToldAs, SayAll}
use Rattle.book_stretches.proofs.Places.{inside-at, more-left, set-at, set-else}

-- ---- the same book

pub book-same : (x y : Telling) → IsOfSame x y → book_of y ≡ book_of x
book-same x y s = λ i. with_facts (s.file i) (s.outcomes i) (s.runs i)

-- a book is that of its file and its facts
pub book-is : (book : Contents) (file : SpecFile) (outcomes : List Told) (runs : List Run) → file ≡ book.file → facts_in outcomes runs ≡ book.facts
    → with_facts file outcomes runs ≡ book
book-is book file outcomes runs e f = λ i. record { file = e i; facts = f i }

pub same-itself : (x : Telling) → IsOfSame x x
same-itself x = record { file = refl; outcomes = refl; runs = refl }

pub same-on : (x y z : Telling) → IsOfSame x y → IsOfSame y z → IsOfSame x z
same-on x y z s t = record { file = t.file ∙ s.file; outcomes = t.outcomes ∙ s.outcomes; runs = t.runs ∙ s.runs }

-- a class that is told stays so where its number keeps its outcome
pub told-kept : (book : Contents) (os ps : List Told) (r : ℕ) (class : Option ℕ)
    → ((c : ℕ) (o : Told) → slice_get os c ≡ Some o → slice_get ps c ≡ Some o) → IsToldAt book os r class → IsToldAt book ps r class
told-kept book os ps r None kept t = t
told-kept book os ps r (Some c) kept t = (t.0, kept c t.0 t.1, t.2)

-- what was told stays told of the same book
told-there : (x z : Telling) (r : ℕ) (class : Option ℕ) → IsOfSame x z
    → ((c : ℕ) (o : Told) → slice_get x.told c ≡ Some o → slice_get z.told c ≡ Some o)
    → class_at z.stretches.list r ≡ class → IsToldAt (book_of x) x.told r class → IsToldAt (book_of z) z.told r (class_at z.stretches.list r)
told-there x z r class same kept at t =
    subst (IsToldAt (book_of z) z.told r) (sym at)
    (subst (λ (b : Contents). IsToldAt b z.told r class) (sym (book-same x z same)) (told-kept (book_of x) x.told z.told r class kept t))

-- two states with the same fields but for the stretches
pub record HasGone (y z : Telling) : Type 0 where
  pub same : IsOfSame y z
  pub classes : z.classes.items ≡ y.classes.items
  pub told : z.told ≡ y.told

-- ranks of one class
pub pushed-told : (x y z : Telling) (class : Option ℕ) (to : ℕ) → IsTelling x → HasRoom x y class
    → ((r : ℕ) → end x ≤ r → r < to → IsToldAt (book_of x) y.told r class)
    → IsPushed y.stretches z.stretches to class → HasGone y z → HasMovedTo to x z
pushed-told x y z class to is room each pushed gone =
    let same = same-on x y z room.same gone.same in
    let ends : end y ≡ end x = ap (λ (t : Stretched). end_of t.list) room.stretches in
    let kept : (c : ℕ) (o : Told) → slice_get x.told c ≡ Some o → slice_get z.told c ≡ Some o =
    λ c o e. ap (λ (os : List Told). slice_get os c) gone.told ∙ room.kept c o e in
    let long = ap (λ (os : List Told). length os) gone.told in
    let few = room.few in
    record {
      telling = record {
        many = long ∙ room.many ∙ sym (pushed.classes ∙ ap (λ (t : Stretched). with_class t.classes class) room.stretches);
        few = omega (arith, long, few);
        count = ap (λ (os : List (Option ℕ)). length os) gone.classes ∙ room.count ∙ sym (ap (λ os. length os) gone.same.outcomes);
        known = subst (λ t. AreKnown z.classes.items z.outcomes.now t) (sym gone.told)
            (subst (λ o. AreKnown z.classes.items o y.told) (sym gone.same.outcomes)
            (subst (λ c. AreKnown c y.outcomes.now y.told) (sym gone.classes) room.known));
        told = λ r lt. (
            let inside : r < to = subst (λ e. r < e) pushed.ends lt in
            let cases : (r < end x) ⊎ (end x ≤ r) = grind arith in
            ⊎_elim
            (λ before.
            told-there x z r (class_at x.stretches.list r) same kept
            (pushed.before r (subst (λ e. r < e) (sym ends) before) ∙ ap (λ (t : Stretched). class_at t.list r) room.stretches) (is.told r before))
            (λ behind.
            subst (IsToldAt (book_of z) z.told r) (sym (pushed.behind r (subst (λ e. e ≤ r) (sym ends) behind) inside))
            (subst (λ (b : Contents). IsToldAt b z.told r class) (sym (book-same x z same))
            (subst (λ os. IsToldAt (book_of x) os r class) (sym gone.told) (each r behind inside)))) cases);
      };
      same = same;
      there = pushed.ends;
    }

-- ranks of the classes of others
pub copied-told : (x z : Telling) (from to : ℕ) → IsTelling x → from + (to - end x) ≤ end x
    → ((r : ℕ) (class : Option ℕ) → end x ≤ r → r < to → IsToldAt (book_of x) x.told (from + (r - end x)) class → IsToldAt (book_of x) x.told r class)
    → IsCopied x.stretches z.stretches from to → HasGone x z → HasMovedTo to x z
copied-told x z from to is inside each copied gone =
    let same = gone.same in
    let kept : (c : ℕ) (o : Told) → slice_get x.told c ≡ Some o → slice_get z.told c ≡ Some o =
    λ c o e. ap (λ (os : List Told). slice_get os c) gone.told ∙ e in
    let long = ap (λ (os : List Told). length os) gone.told in
    let few = is.few in
    record {
      telling = record {
        many = long ∙ is.many ∙ sym copied.classes;
        few = omega (arith, long, few);
        count = ap (λ (os : List (Option ℕ)). length os) gone.classes ∙ is.count ∙ sym (ap (λ os. length os) same.outcomes);
        known = subst (λ t. AreKnown z.classes.items z.outcomes.now t) (sym gone.told)
            (subst (λ o. AreKnown z.classes.items o x.told) (sym same.outcomes)
            (subst (λ c. AreKnown c x.outcomes.now x.told) (sym gone.classes) is.known));
        told = λ r lt. (
            let to-end : r < to = subst (λ e. r < e) copied.ends lt in
            let cases : (r < end x) ⊎ (end x ≤ r) = grind arith in
            ⊎_elim
            (λ before. told-there x z r (class_at x.stretches.list r) same kept (copied.before r before) (is.told r before))
            (λ behind.
            told-there x z r (class_at x.stretches.list (from + (r - end x))) same kept (copied.behind r behind to-end)
            (each r (class_at x.stretches.list (from + (r - end x))) behind to-end
            (is.told (from + (r - end x)) (omega (arith, inside, behind, to-end))))) cases);
      };
      same = same;
      there = copied.ends;
    }

-- what has moved to a rank behind has moved on
pub moved-on : (x y : Telling) (last to : ℕ) → HasMovedTo last x y → end x < last → last ≤ to → HasMovedOn to x y
moved-on x y last to m lt le =
    let there = m.there in
    record { telling = m.telling; same = m.same; on = omega (arith, lt, there); few = omega (arith, le, there) }

-- ---- room for a class

pub with-next : (c : ℕ) → with_class c (Some c) ≡ c + 1
with-next c = ap (λ b. cond b (c + 1) c) (eq-eqb c c refl)

pub with-known : (n c : ℕ) → c < n → with_class n (Some c) ≡ n
with-known n c lt = at (c == n) (λ e. omega (arith, lt, eqb-true c n e))
  where
    at : (b : Bool) → (b ≡ true → ⊥) → cond b (n + 1) n ≡ n
    at true no-way = absurd (no-way refl)
    at false no-way = refl

pub room-none : (x : Telling) → IsTelling x → HasRoom x x None
room-none x is = record {
  same = same-itself x;
  stretches = refl;
  kept = λ c o e. e;
  may = tt;
  many = is.many;
  few = is.few;
  count = is.count;
  known = is.known;
}

pub room-known : (x : Telling) (c : ℕ) (o : Told) → IsTelling x → slice_get x.told c ≡ Some o → HasRoom x x (Some c)
room-known x c o is at =
    let lt = inside-at x.told c o at in
    let many = is.many in
    let with = with-known x.stretches.classes c (omega (arith, lt, many)) in
    record {
      same = same-itself x;
      stretches = refl;
      kept = λ d p e. e;
      may = omega (arith, lt, many);
      many = omega (arith, with, many);
      few = is.few;
      count = is.count;
      known = is.known;
    }

-- a number whose class is known
pub class-known : (x : Telling) (n c : ℕ) → IsTelling x → slice_get x.classes.items n ≡ Some (Some c) → HasClass x x n c
class-known x n c is at = record { room = room-known x c _ is (is.known n c at); at = is.known n c at }

-- a number whose class is found, or is the next one, and is noted
pub class-found : (x y : Telling) (n c : ℕ) (o : Told) → IsTelling x → n < length x.outcomes.now → slice_get x.outcomes.now n ≡ Some o
    → HasNumber x.told y.told o c → IsOfSame x y → y.stretches ≡ x.stretches → y.classes.items ≡ set x.classes.items n (Some c) → HasClass x y n c
class-found x y n c o is lt at number same stretches classes =
    let many = is.many in
    let count = is.count in
    let inside : n < length x.classes.items = omega (arith, lt, count) in
    let here : o ≡ get_or x.outcomes.now n [] = outcome-at x.outcomes.now n o at in
    let kept : (k : ℕ) (p : Told) → slice_get x.told k ≡ Some p → slice_get y.told k ≡ Some p =
    λ k p e. ⊎_elim (λ s. ap (λ (os : List Told). slice_get os k) s ∙ e)
    (λ g. ap (λ (os : List Told). slice_get os k) g.1 ∙ more-left x.told (o ∷ []) k p e) number.grown in
    record {
      room = record {
        same = same;
        stretches = stretches;
        kept = kept;
        may = ⊎_elim (λ s. (let i = inside-at y.told c o number.at in let long = ap (λ (os : List Told). length os) s in omega (arith, i, long, many)))
            (λ g. (let next = g.0 in omega (arith, next, many))) number.grown;
        many = ⊎_elim
            (λ s. (let i = inside-at y.told c o number.at in let long = ap (λ (os : List Told). length os) s in
            long ∙ many ∙ sym (with-known x.stretches.classes c (omega (arith, i, long, many)))))
            (λ g. (let long = ap (λ (os : List Told). length os) g.1 in let more = length-append x.told (o ∷ []) in
            let next : c ≡ x.stretches.classes = g.0 ∙ many in
            let with : with_class x.stretches.classes (Some c) ≡ x.stretches.classes + 1 =
            subst (λ k. with_class x.stretches.classes (Some k) ≡ x.stretches.classes + 1) (sym next) (with-next x.stretches.classes) in
            omega (arith, long, more, many, with))) number.grown;
        few = number.few;
        count = (let long = ap (λ (os : List (Option ℕ)). length os) classes in let more = length-set x.classes.items n (Some c) in
            let all = ap (λ os. length os) same.outcomes in omega (arith, long, more, count, all));
        known = λ m k e. (
            let e2 : slice_get (set x.classes.items n (Some c)) m ≡ Some (Some k) = sym (ap (λ (os : List (Option ℕ)). slice_get os m) classes) ∙ e in
            subst (λ os. slice_get y.told k ≡ Some (get_or os m [])) (sym same.outcomes) (noted m k kept here inside e2 (m == n) refl));
      };
      at = number.at ∙ ap (λ p. Some p) here;
    }
  where
    outcome-at : (os : List Told) (m : ℕ) (p : Told) → slice_get os m ≡ Some p → p ≡ get_or os m []
    outcome-at os m p e = sym (get_or_from_slice_get os m p [] e)

    noted : (m k : ℕ) → ((j : ℕ) (p : Told) → slice_get x.told j ≡ Some p → slice_get y.told j ≡ Some p) → o ≡ get_or x.outcomes.now n []
        → n < length x.classes.items → slice_get (set x.classes.items n (Some c)) m ≡ Some (Some k) → (b : Bool) → (m == n) ≡ b
        → slice_get y.told k ≡ Some (get_or x.outcomes.now m [])
    noted m k kept here inside e true is-n =
        let same-n : m ≡ n = eqb-true m n is-n in
        let there : Some (Some c) ≡ Some (Some k) =
        sym (set-at x.classes.items n (Some c) inside) ∙ subst (λ j. slice_get (set x.classes.items n (Some c)) j ≡ Some (Some k)) same-n e in
        let one : c ≡ k = cc in
        subst (λ j. slice_get y.told j ≡ Some (get_or x.outcomes.now m [])) one
        (number.at ∙ ap (λ p. Some p) here ∙ ap (λ j. Some (get_or x.outcomes.now j [])) (sym same-n))
    noted m k kept here inside e false other =
        let ne : m ≢ n = λ same-n. (let yes : (m == n) ≡ true = eq-eqb m n same-n in cc) in
        kept k (get_or x.outcomes.now m []) (is.known m k (sym (set-else x.classes.items n m (Some c) ne) ∙ e))

-- ---- what runs say

pub say-later : (x y : Telling) (active : List Run) (until : ℕ) → SayAll x active until → IsOfSame x y → end x ≤ end y → end y ≤ until
    → SayAll y active until
say-later x y active until say same on few = record {
  sound = subst (λ (os : List Told). AllSound (length os) active) (sym same.outcomes) say.sound;
  says = λ r le lt f.
      subst (λ (b : Contents). IsStretch b.facts y.outcomes.now active (end x) until) (sym (book-same x y same))
      (subst (λ os. IsStretch (book_of x).facts os active (end x) until) (sym same.outcomes) say.says) r (omega (arith, on, le)) lt f;
  few = few;
  inside = (let inside = say.inside in subst (λ (f : SpecFile). until ≤ ranks f.run) (sym same.file) inside);
}

-- a refusal is that of the same book
pub refused-same : (x y : Telling) (e : TellError) → IsOfSame x y → IsNotTold (book_of y) e → IsNotTold (book_of x) e
refused-same x y e same h = subst (λ (b : Contents). IsNotTold b e) (book-same x y same) h

-- no rank that is told has two values
pub none-clashes : (x : Telling) → IsTelling x → (r : ℕ) (o p : Told) → r < end x → Tells (book_of x) r o → Tells (book_of x) r p → o ≡ p
none-clashes x is r o p lt v w = on (class_at x.stretches.list r) (is.told r lt)
  where
    on : (class : Option ℕ) → IsToldAt (book_of x) x.told r class → o ≡ p
    on None none = absurd (none o v)
    on (Some c) t = t.2.only o v ∙ sym (t.2.only p w)

pub clashes : (x : Telling) → IsTelling x → end x < ranks x.spec.now.run
    → (o : Told) × (p : Told) × Tells (book_of x) (end x) o × Tells (book_of x) (end x) p × (o ≡ p → ⊥) → IsLeastClash (book_of x) (end x)
clashes x is inside two = record { inside = inside; two = two; below = λ s o p lt v w. none-clashes x is s o p lt v w }

-- ---- runs in hand

-- runs in hand that stay the same up to here say all of the next ranks
pub say-swept : (y : Telling) (now active : List Run) (after rank until : ℕ) → IsKept y.outcomes.now y.runs.now → AllSound (length y.outcomes.now) now
    → AllCover rank now → AllReach until now → ((d : Run) → after < length y.runs.now → until ≤ (get_or y.runs.now after d).first)
    → IsSplit y.outcomes.now y.runs.now now (drop after y.runs.now) rank → rank ≡ end y → rank < until → until ≤ ranks y.spec.now.run → active ≡ now
    → SayAll y active until
say-swept y now active after rank until kept sound cover reach rest split here above few is =
    subst (λ l. SayAll y l until) (sym is)
    (record {
      sound = sound;
      says = subst (λ r. IsStretch (book_of y).facts y.outcomes.now now r until) here
          (is-stretch y.outcomes.now y.runs.now now after rank until kept.rising cover reach rest split);
      few = omega (arith, above, here);
      inside = few;
    })

-- what is swept is swept of the same book
pub swept-same : (y z : Telling) (active : List Run) (next rank : ℕ) → IsOfSame y z → end z ≡ rank → IsSweeping y.outcomes.now y.runs.now rank active next
    → IsSweeping z.outcomes.now z.runs.now (end z) active next
swept-same y z active next rank same there h =
    subst (λ r. IsSweeping z.outcomes.now z.runs.now r active next) (sym there)
    (subst (λ os. IsSweeping os z.runs.now rank active next) (sym same.outcomes)
    (subst (λ rs. IsSweeping y.outcomes.now rs rank active next) (sym same.runs) h))

pub kept-same : (y z : Telling) → IsOfSame y z → IsKept y.outcomes.now y.runs.now → IsKept z.outcomes.now z.runs.now
kept-same y z same h =
    subst (λ os. IsKept os z.runs.now) (sym same.outcomes) (subst (λ rs. IsKept y.outcomes.now rs) (sym same.runs) h)

-- ---- results

pub as-ok : {E : Type 0} (P : Type 0) (r : Result ⊤ E) (s : Result ⊤ TellError) → IsToldAs r s → OnOk r P → OnOk s P
as-ok P (Ok done) s is h = subst (λ t. OnOk t P) (sym is) h
as-ok P (Err e) s is h = subst (λ t. OnOk t P) (sym is) tt

pub as-err : {E : Type 0} (book : Contents) (r : Result ⊤ E) (s : Result ⊤ TellError) → IsToldAs r s → IfErr s (IsNotTold book)
as-err book (Ok done) s is = subst (λ t. IfErr t (IsNotTold book)) (sym is) tt
as-err book (Err e) s is = subst (λ t. IfErr t (IsNotTold book)) (sym is) tt

-- ---- all is told

pub all-told : (x : Telling) (y : ToldRanks) → IsTelling x → end x ≡ ranks x.spec.now.run → AllDiffer x.told → y.outcomes.items ≡ x.told
    → y.stretches ≡ x.stretches → AreTold (book_of x) y
all-told x y is all differ outcomes stretches = record {
  all = ap (λ (t : Stretched). end_of t.list) stretches ∙ all;
  many = ap (λ (os : List Told). length os) outcomes ∙ is.many ∙ sym (ap (λ (t : Stretched). t.classes) stretches);
  differ = subst (λ (os : List Told). AllDiffer os) (sym outcomes) differ;
  each = λ r lt. subst (λ (os : List Told). IsToldAt (book_of x) os r (class_at y.stretches.list r)) (sym outcomes)
      (subst (IsToldAt (book_of x) x.told r) (sym (ap (λ (t : Stretched). class_at t.list r) stretches)) (is.told r (omega (arith, lt, all))));
}
