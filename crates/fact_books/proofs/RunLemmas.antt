-- What growing and adding a run does to the facts and to the order.
use Rattle.std.proofs.Common.{◌≡◌, refl, sym, ap, subst, add-one, drop, ◌∙◌, ℕ, zero, suc, ◌+◌, ◌<◌, ◌≤◌, max, Bool, true, false, ◌&&◌, ◌||◌, List, [], ◌∷◌}
use Rattle.std.proofs.Math.Bool.{or_assoc}
use Rattle.std.proofs.Common.{◌++◌, length, get_or, set, arith, leb, ltb}
use Rattle.std.proofs.lemmas.List.{drop_more}
use Rattle.std.proofs.lemmas.Bool.{ltb-true, lt-ltb, leb-true, le-leb}
use Rattle.std.specs.List.{list_any}
use Rattle.std.specs.Ordering.{eq_by_cmp}
use Rattle.fact_books.specs.declared.run.Run.{Run}
use Rattle.fact_books.specs.Entries.{Entry, fact_cmp}
use Rattle.fact_books.specs.Runs.{Table, fact_in, within, has, firsts, AllFrom, AllTo, IsRising, Adds, IsSound, AllSound, KeepsSound, KeepsFrom, LeftIsNext}
use Rattle.fact_books.specs.Runs.{RightIsNext, IsMerging}

pub same_bool : (x y : Bool) → (x ≡ true → y ≡ true) → (y ≡ true → x ≡ true) → x ≡ y
same_bool true y f g = sym (f refl)
same_bool false true f g = g refl
same_bool false false f g = refl

pub both_true : (x y : Bool) → (x && y) ≡ true → (x ≡ true) × (y ≡ true)
both_true true y e = (refl, e)
both_true false y e = cc

pub and_true : (x y : Bool) → x ≡ true → y ≡ true → (x && y) ≡ true
and_true x y e f = ap (λ b. b && y) e ∙ f

pub within-true : (a b r : ℕ) → within a b r ≡ true → (a ≤ r) × (r < b)
within-true a b r e = let p = both_true (leb a r) (ltb r b) e in (leb-true a r p.0, ltb-true r b p.1)

pub within-from : (a b r : ℕ) → a ≤ r → r < b → within a b r ≡ true
within-from a b r l m = and_true (leb a r) (ltb r b) (le-leb a r l) (lt-ltb r b m)

pub or_true_right : (x y : Bool) → y ≡ true → (x || y) ≡ true
or_true_right true y e = refl
or_true_right false y e = e

-- two stretches that overlap or touch
grown_cases : (a b c d r : ℕ) → a ≤ c → c ≤ b → (x : Bool) → within a b r ≡ x → (a ≤ r) → r < max b d → (x || within c d r) ≡ true
grown_cases a b c d r low touch true e from to = refl
grown_cases a b c d r low touch false e from to =
    let out : b ≤ r = late (ltb r b) refl in
    within-from c d r (omega arith) (omega arith)
  where
    late : (y : Bool) → ltb r b ≡ y → b ≤ r
    late true f = absurd (Rattle.std.proofs.lemmas.Bool.false≢true (sym e ∙ within-from a b r from (ltb-true r b f)))
    late false f = Rattle.std.proofs.lemmas.Bool.ltb-false r b f

pub within-grown : (a b c d r : ℕ) → a ≤ c → c ≤ b → within a (max b d) r ≡ (within a b r || within c d r)
within-grown a b c d r low touch = same_bool _ _ there (back (within a b r) refl)
  where
    there : within a (max b d) r ≡ true → (within a b r || within c d r) ≡ true
    there e = let p = within-true a (max b d) r e in grown_cases a b c d r low touch (within a b r) refl p.0 p.1

    back : (x : Bool) → within a b r ≡ x → (x || within c d r) ≡ true → within a (max b d) r ≡ true
    back true e f = let p = within-true a b r e in within-from a (max b d) r p.0 (omega (arith, p.1))
    back false e f = let p = within-true c d r f in within-from a (max b d) r (omega (arith, p.0)) (omega (arith, p.1))

or_and : (x y z : Bool) → ((x || y) && z) ≡ ((x && z) || (y && z))
or_and true true true = refl
or_and true true false = refl
or_and true false true = refl
or_and true false false = refl
or_and false y z = refl

pub has-grown : (table : Table) (e : Entry) (old run : Run) → old.tag ≡ run.tag → old.first ≤ run.first → run.first ≤ old.end →
    has table e (record { first = old.first; end = max old.end run.end; tag = old.tag }) ≡ (has table e old || has table e run)
has-grown table e old run same low touch =
    ap (λ b. b && eq_by_cmp fact_cmp e.1 (fact_in table old.tag)) (within-grown old.first old.end run.first run.end e.0 low touch)
    ∙ or_and (within old.first old.end e.0) (within run.first run.end e.0) _
    ∙ ap (λ t. (within old.first old.end e.0 && eq_by_cmp fact_cmp e.1 (fact_in table old.tag)) ||
    (within run.first run.end e.0 && eq_by_cmp fact_cmp e.1 (fact_in table t))) same

or_turn : (x c y : Bool) → ((x || c) || y) ≡ ((x || y) || c)
or_turn true c y = refl
or_turn false true true = refl
or_turn false true false = refl
or_turn false false true = refl
or_turn false false false = refl

-- an element that gets more
pub list_any-set_more : {X : Type 0} (p : X → Bool) (c : Bool) (xs : List X) (i : ℕ) (y d : X) → i < length xs → p y ≡ (p (get_or xs i d) || c)
    → list_any p (set xs i y) ≡ (list_any p xs || c)
list_any-set_more p c [] i y d lt e = absurd (omega arith)
list_any-set_more p c (x ∷ xs) zero y d lt e = ap (λ b. b || list_any p xs) e ∙ or_turn (p x) c (list_any p xs)
list_any-set_more p c (x ∷ xs) (suc i) y d lt e = ap (λ b. p x || b) (list_any-set_more p c xs i y d (omega arith) e) ∙ sym (or_assoc (p x) (list_any p xs) c)

-- the first ranks stay where a run grows at its end
pub firsts-set : (runs : List Run) (i : ℕ) (r d : Run) → i < length runs → r.first ≡ (get_or runs i d).first → firsts (set runs i r) ≡ firsts runs
firsts-set [] i r d lt e = absurd (omega arith)
firsts-set (x ∷ runs) zero r d lt e = ap (λ n. n ∷ firsts runs) e
firsts-set (x ∷ runs) (suc i) r d lt e = ap (λ l. x.first ∷ l) (firsts-set runs i r d (omega arith) e)

pub firsts-push : (runs : List Run) (r : Run) → firsts (runs ++ r ∷ []) ≡ firsts runs ++ r.first ∷ []
firsts-push [] r = refl
firsts-push (x ∷ runs) r = ap (λ l. x.first ∷ l) (firsts-push runs r)

pub AllTo-push : (high : ℕ) (xs : List ℕ) (x : ℕ) → AllTo high xs → x ≤ high → AllTo high (xs ++ x ∷ [])
AllTo-push high [] x a le = (le, tt)
AllTo-push high (y ∷ xs) x a le = (a.0, AllTo-push high xs x a.1 le)

pub AllFrom-push : (low : ℕ) (xs : List ℕ) (x : ℕ) → AllFrom low xs → low ≤ x → AllFrom low (xs ++ x ∷ [])
AllFrom-push low [] x a le = (le, tt)
AllFrom-push low (y ∷ xs) x a le = (a.0, AllFrom-push low xs x a.1 le)

pub IsRising-push : (xs : List ℕ) (x : ℕ) → IsRising xs → AllTo x xs → IsRising (xs ++ x ∷ [])
IsRising-push [] x r a = (tt, tt)
IsRising-push (y ∷ xs) x r a = (AllFrom-push y xs x r.0 a.0, IsRising-push xs x r.1 a.1)

pub AllTo-more : (low high : ℕ) (xs : List ℕ) → low ≤ high → AllTo low xs → AllTo high xs
AllTo-more low high [] le a = tt
AllTo-more low high (x ∷ xs) le a = (omega (arith, a.0), AllTo-more low high xs le a.1)

pub AllSound-set : (n : ℕ) (runs : List Run) (i : ℕ) (r d : Run) → i < length runs → AllSound n runs → (IsSound n (get_or runs i d) → IsSound n r)
    → AllSound n (set runs i r)
AllSound-set n [] i r d lt a s = tt
AllSound-set n (x ∷ runs) zero r d lt a s = (s a.0, a.1)
AllSound-set n (x ∷ runs) (suc i) r d lt a s = (a.0, AllSound-set n runs i r d (omega arith) a.1 s)

pub AllSound-push : (n : ℕ) (runs : List Run) (r : Run) → AllSound n runs → IsSound n r → AllSound n (runs ++ r ∷ [])
AllSound-push n [] r a s = (s, tt)
AllSound-push n (x ∷ runs) r a s = (a.0, AllSound-push n runs r a.1 s)

pub AllSound-at : (n : ℕ) (runs : List Run) (i : ℕ) (d : Run) → i < length runs → AllSound n runs → IsSound n (get_or runs i d)
AllSound-at n [] i d lt a = absurd (omega arith)
AllSound-at n (x ∷ runs) zero d lt a = a.0
AllSound-at n (x ∷ runs) (suc i) d lt a = AllSound-at n runs i d (omega arith) a.1

pub AllFrom-at : (low : ℕ) (runs : List Run) (i : ℕ) (d : Run) → i < length runs → AllFrom low (firsts runs) → low ≤ (get_or runs i d).first
AllFrom-at low [] i d lt a = absurd (omega arith)
AllFrom-at low (x ∷ runs) zero d lt a = a.0
AllFrom-at low (x ∷ runs) (suc i) d lt a = AllFrom-at low runs i d (omega arith) a.1

pub rising_next : (runs : List Run) (i : ℕ) (c d : Run) → IsRising (firsts runs) → suc i < length runs → (get_or runs i c).first ≤ (get_or runs (suc i) d).first
rising_next [] i c d r lt = absurd (omega arith)
rising_next (x ∷ runs) zero c d r lt = AllFrom-at x.first runs zero d (omega arith) r.0
rising_next (x ∷ runs) (suc i) c d r lt = rising_next runs i c d r.1 (omega arith)

regroup_left : (o h d r : Bool) → ((o || h) || (d || r)) ≡ (o || ((h || d) || r))
regroup_left true h d r = refl
regroup_left false true d r = refl
regroup_left false false d r = refl

regroup_right : (o h d r : Bool) → ((o || h) || (d || r)) ≡ (o || (d || (h || r)))
regroup_right true h d r = refl
regroup_right false true true r = refl
regroup_right false true false r = refl
regroup_right false false d r = refl

pub merging-left : (left right out new : List Run) (i j : ℕ) (run d0 : Run) → IsMerging left i right j out → LeftIsNext left i right j → IsRising (firsts left)
    → run ≡ get_or left i d0 →
    Adds out run new → IsRising (firsts new) → AllTo run.first (firsts new) → KeepsSound out run new → KeepsFrom out run new
    → IsMerging left (i + 1) right j new
merging-left left right out new i j run d0 m next rises is adds rising low sound from = record {
  left_bound = let lt : i < length left = next.there in omega arith;
  right_bound = m.right_bound;
  rising = rising;
  left_low = λ d lt. AllTo-more run.first _ _
      (subst (λ k. run.first ≤ (get_or left k d).first) (sym (add-one i))
      (subst (λ r. r.first ≤ (get_or left (suc i) d).first) (sym is) (rising_next left i d0 d rises (omega (arith, lt))))) low;
  right_low = λ d lt. AllTo-more run.first _ _ (subst (λ r. r.first ≤ (get_or right j d).first) (sym is) (next.low d0 d lt)) low;
  facts = λ table e.
      ap (λ b. b || (list_any (has table e) (drop (i + 1) left) || list_any (has table e) (drop j right))) (adds table e)
      ∙ regroup_left (list_any (has table e) out) (has table e run) (list_any (has table e) (drop (i + 1) left)) (list_any (has table e) (drop j right))
      ∙ ap (λ r. list_any (has table e) out || ((has table e r || list_any (has table e) (drop (i + 1) left)) || list_any (has table e) (drop j right))) is
      ∙ ap (λ rs. list_any (has table e) out || (list_any (has table e) rs || list_any (has table e) (drop j right))) (sym (drop_more left i d0 next.there))
      ∙ m.facts table e;
  sound = λ n l r. sound n (m.sound n l r) (subst (IsSound n) (sym is) (AllSound-at n left i d0 next.there l));
  low = λ n l r. from n (m.low n l r) (subst (λ r. n ≤ r.first) (sym is) (AllFrom-at n left i d0 next.there l));
}

pub merging-right : (left right out new : List Run) (i j : ℕ) (run d0 : Run) → IsMerging left i right j out → RightIsNext left i right j
    → IsRising (firsts right) → run ≡ get_or right j d0 →
    Adds out run new → IsRising (firsts new) → AllTo run.first (firsts new) → KeepsSound out run new → KeepsFrom out run new
    → IsMerging left i right (j + 1) new
merging-right left right out new i j run d0 m next rises is adds rising low sound from = record {
  left_bound = m.left_bound;
  right_bound = let lt : j < length right = next.there in omega arith;
  rising = rising;
  left_low = λ d lt. AllTo-more run.first _ _ (subst (λ r. r.first ≤ (get_or left i d).first) (sym is) (next.low d0 d lt)) low;
  right_low = λ d lt. AllTo-more run.first _ _
      (subst (λ k. run.first ≤ (get_or right k d).first) (sym (add-one j))
      (subst (λ r. r.first ≤ (get_or right (suc j) d).first) (sym is) (rising_next right j d0 d rises (omega (arith, lt))))) low;
  facts = λ table e.
      ap (λ b. b || (list_any (has table e) (drop i left) || list_any (has table e) (drop (j + 1) right))) (adds table e)
      ∙ regroup_right (list_any (has table e) out) (has table e run) (list_any (has table e) (drop i left)) (list_any (has table e) (drop (j + 1) right))
      ∙ ap (λ r. list_any (has table e) out || (list_any (has table e) (drop i left) || (has table e r || list_any (has table e) (drop (j + 1) right)))) is
      ∙ ap (λ rs. list_any (has table e) out || (list_any (has table e) (drop i left) || list_any (has table e) rs)) (sym (drop_more right j d0 next.there))
      ∙ m.facts table e;
  sound = λ n l r. sound n (m.sound n l r) (subst (IsSound n) (sym is) (AllSound-at n right j d0 next.there r));
  low = λ n l r. from n (m.low n l r) (subst (λ r. n ≤ r.first) (sym is) (AllFrom-at n right j d0 next.there r));
}

pub right-next : (left right : List Run) (i j : ℕ) → (i < length left → RightIsNext left i right j) → j < length right → RightIsNext left i right j
right-next left right i j h lt = record { there = lt; low = λ c d l. (h l).low c d l }
