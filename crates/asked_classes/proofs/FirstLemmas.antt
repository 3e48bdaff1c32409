-- Items that are given something, one after another, and the first that is refused.
use Rattle.std.proofs.Common.{◌≡◌, ◌+◌, ◌<◌, ℕ, List, [], ◌∷◌, ◌++◌, length, take, get_or, sym, subst}
use Rattle.std.proofs.lemmas.List.{take_more}
use Rattle.std.proofs.lemmas.Option.{slice_get-get_or}
use Rattle.std.specs.List.{AllZip}
use Rattle.asked_classes.specs.declared.fault.AskedFault.{AskedFault}
use Rattle.asked_classes.specs.declared.fault.AskedFault.TheVariants.{UnknownSession, NotTold, NoLook, NoValue, NoMemory}
use Rattle.asked_classes.specs.First.{FirstRefused, RefusedAtFirst}

zip-more : {A B : Type 0} (R : A → B → Type 0) (as' : List A) (bs : List B) (a : A) (b : B) → AllZip R as' bs → R a b → AllZip R (as' ++ a ∷ []) (bs ++ b ∷ [])
zip-more R [] [] a b are is = (is, tt)
zip-more R [] (y ∷ ys) a b are is = absurd are
zip-more R (x ∷ xs) [] a b are is = absurd are
zip-more R (x ∷ xs) (y ∷ ys) a b are is = (are.0, zip-more R xs ys a b are.1 is)

module _ {A B : Type 0} (Gives : A → B → Type 0) (Refuses : A → AskedFault → Type 0) (items : List A) (place : ℕ) (d : A) (within : place < length items)
    (given : List B) (are : AllZip Gives (take place items) given) where
  -- one more
  pub given-more : (b : B) (all : List B) → all ≡ given ++ b ∷ [] → Gives (get_or items place d) b → AllZip Gives (take (place + 1) items) all
  given-more b all is gives =
      subst (AllZip Gives (take (place + 1) items)) (sym is)
      (subst (λ front. AllZip Gives front (given ++ b ∷ [])) (sym (take_more items place d within)) (zip-more Gives (take place items) given (get_or items place d) b are gives))

  at-first : (fault : AskedFault) → Refuses (get_or items place d) fault → RefusedAtFirst Gives Refuses items fault
  at-first fault refused =
      record { place = place; item = get_or items place d; here = slice_get-get_or items place d within; before = (given, are); refused = refused }

  -- or it is refused here
  pub first-refused : (fault : AskedFault) → Refuses (get_or items place d) fault → FirstRefused Gives Refuses items fault
  first-refused NoMemory refused = tt
  first-refused (UnknownSession name) refused = at-first (UnknownSession name) refused
  first-refused NotTold refused = at-first NotTold refused
  first-refused (NoLook text fault) refused = at-first (NoLook text fault) refused
  first-refused (NoValue word) refused = at-first (NoValue word) refused
