-- What is shown, each once, under numbers.
use Rattle.std.proofs.Common.{◌≡◌, ◌↔◌, refl, sym, ap, ◌∙◌, subst, ℕ, cond, Bool, true, false, List, [], ◌∷◌, ◌++◌, length, slice_get, Option, Some, None, ⊎_elim}
use Rattle.std.specs.Ordering.{is_eq}
use Rattle.std.specs.Option.{MatchOption}
use Rattle.std.specs.Map.{lookup}
use Rattle.std.specs.BTreeMap.{is_at}
use Rattle.std.proofs.lemmas.Cmp.{tied_itself}
use Rattle.lock_queues.specs.Reasons.{Among}
use Rattle.order_classes.specs.Order.{shows_cmp, shows_total}
use Rattle.order_classes.specs.declared.shows.Shows.{Shows}
use Rattle.order_classes.proofs.ShowsOrder.{from-equal, shows_same}
use Rattle.different_shows.specs.Different.{AreDifferent, AreNumbered}
use Rattle.different_shows.proofs.Places.{more-left, at-last, parts-at, among-at, at-among}

-- the number under which it is found
abbrev pub found : List (Shows × ℕ) → Shows → Option ℕ
found numbers s = lookup (is_at (shows_cmp s)) numbers

pub one-number : (all : List Shows) (numbers : List (Shows × ℕ)) → AreNumbered all numbers → AreDifferent all
one-number all numbers are n m s e f = let same : Some n ≡ Some m = sym ((are s n).1 e) ∙ (are s m).1 f in cc

pub found-so : (all : List Shows) (numbers : List (Shows × ℕ)) (s : Shows) (r : Option ℕ) → AreNumbered all numbers → r ≡ found numbers s
    → MatchOption r (Among s all → ⊥) (λ n. slice_get all n ≡ Some s)
found-so all numbers s None are e = λ m. let at = among-at all s m in let bad : None ≡ Some at.0 = e ∙ (are s at.0).1 at.1 in cc
found-so all numbers s (Some n) are e = (are s n).0 (sym e)

same-at : (s a : Shows) → is_at (shows_cmp s) a ≡ true → s ≡ a
same-at s a e = shows_same s a (from-equal (shows_cmp s a) e)

-- with one more, which was not there, each is found still
pub numbered-more : (all : List Shows) (old new : List (Shows × ℕ)) (s : Shows) → AreNumbered all old → (Among s all → ⊥)
    → ((a : Shows) → found new a ≡ cond (is_at (shows_cmp s) a) (Some (length all)) (found old a)) → AreNumbered (all ++ s ∷ []) new
numbered-more all old new s are absent put a n = at (is_at (shows_cmp s) a) refl
  where
    at : (b : Bool) → is_at (shows_cmp s) a ≡ b → (found new a ≡ Some n) ↔ (slice_get (all ++ s ∷ []) n ≡ Some a)
    at true e =
        let same = same-at s a e in
        let last = put a ∙ ap (λ b. cond b (Some (length all)) (found old a)) e in (
          λ h. (let here : length all ≡ n = (let both : Some (length all) ≡ Some n = sym last ∙ h in cc) in
              ap (slice_get (all ++ s ∷ [])) (sym here) ∙ at-last all s ∙ ap Some same),
          λ h. ⊎_elim (λ k. absurd (absent (subst (λ z. Among z all) (sym same) (at-among all n a k)))) (λ k. last ∙ ap Some (sym k.0))
              (parts-at all s n a h),
        )
    at false e =
        let others = put a ∙ ap (λ b. cond b (Some (length all)) (found old a)) e in (
          λ h. more-left all (s ∷ []) n a ((are a n).0 (sym others ∙ h)),
          λ h. ⊎_elim (λ k. others ∙ (are a n).1 k)
              (λ k. absurd (let bad : true ≡ false = ap is_eq (sym (tied_itself shows_total s)) ∙ ap (is_at (shows_cmp s)) (sym k.1) ∙ e in cc))
              (parts-at all s n a h),
        )
