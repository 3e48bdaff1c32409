-- What is left behind some lists, and how sessions stand.
use Rattle.std.proofs.Common.{◌≡◌, ℕ, zero, suc, List, [], ◌∷◌, get_or, drop, refl}
use Rattle.line_moments.specs.declared.shown.Standing.{Standing}
use Rattle.line_moments.specs.declared.shown.Standing.TheVariants.{HasEnded, IsOpen, HasFailed, StillWaits}
use Rattle.order_classes.specs.Shows.{rest_of}
use Rattle.shown_texts.specs.Pages.{standing_text}
use Rattle.class_texts.specs.Beneath.{rest_text}

module _ {A : Type 0} where
  pub drop-front : (xs : List (List A)) (k : ℕ) (y : List A) (ys : List (List A)) → drop k xs ≡ y ∷ ys → get_or xs k [] ≡ y
  drop-front [] zero y ys e = absurd (let f : [] ≡ y ∷ ys = e in cc)
  drop-front [] (suc k) y ys e = absurd (let f : [] ≡ y ∷ ys = e in cc)
  drop-front (x ∷ xs) zero y ys e = let f : x ∷ xs ≡ y ∷ ys = e in cc
  drop-front (x ∷ xs) (suc k) y ys e = drop-front xs k y ys e

  pub drop-rest : (xs : List (List A)) (k : ℕ) (y : List A) (ys : List (List A)) → drop k xs ≡ y ∷ ys → drop (suc k) xs ≡ ys
  drop-rest [] zero y ys e = absurd (let f : [] ≡ y ∷ ys = e in cc)
  drop-rest [] (suc k) y ys e = absurd (let f : [] ≡ y ∷ ys = e in cc)
  drop-rest (x ∷ xs) zero y ys e = let f : x ∷ xs ≡ y ∷ ys = e in cc
  drop-rest (x ∷ xs) (suc k) y ys e = drop-rest xs k y ys e

pub rest-shown : (s : Standing) → rest_text (rest_of s) ≡ standing_text s
rest-shown HasEnded = refl
rest-shown IsOpen = refl
rest-shown HasFailed = refl
rest-shown (StillWaits want) = refl
