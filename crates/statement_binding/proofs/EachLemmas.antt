-- One part after another is bound.
use Rattle.std.proofs.Common.{◌≡◌, refl, sym, ap, ◌∙◌, ℕ, suc, ◌+◌, ◌<◌, List, [], ◌∷◌, ◌++◌, length, map, get_or, drop, Ok, Err, drop-cons, add-one}
use Rattle.std.proofs.Common.{append_assoc}
use Rattle.binding_model.specs.declared.error.BindError.{BindError}
use Rattle.binding_model.specs.declared.error.BindStop.{BindStop}
use Rattle.binding_model.specs.declared.error.BindStop.TheVariants.{Memory, Refused}
use Rattle.binding_model.specs.Refusals.{Bind, Binds, ◌>>=◌, with_front, each}

front_twice : {X : Type 0} (xs ys : List X) (r : Bind (List X)) → with_front xs (with_front ys r) ≡ with_front (xs ++ ys) r
front_twice xs ys (Ok zs) = ap Ok (sym (append_assoc xs ys zs))
front_twice xs ys (Err e) = refl

-- the same of what is read of each part first
pub each-map : {A B X : Type 0} (g : A → B) (f : B → Bind X) (as' : List A) → each f (map g as') ≡ each (λ a. f (g a)) as'
each-map g f [] = refl
each-map g f (a ∷ as') = ap (λ r. f (g a) >>= λ x. with_front (x ∷ []) r) (each-map g f as')

no_front : {X : Type 0} (r : Bind (List X)) → with_front [] r ≡ r
no_front (Ok xs) = refl
no_front (Err e) = refl

pub each-starts : {A B X : Type 0} (g : A → B) (f : B → Bind X) (as' : List A) → with_front [] (each (λ a. f (g a)) as') ≡ each f (map g as')
each-starts g f as' = no_front (each (λ a. f (g a)) as') ∙ sym (each-map g f as')

-- what is refused of one is refused of the other
pub still-refused : {Y W : Type 0} (y : Y) (e : BindStop) (r : Bind Y) (s : Bind W) → Binds {X = Unit {0}} (λ u. y) (Err e) r
    → ((e' : BindError) → r ≡ Err e' → s ≡ Err e') → Binds {X = W} (λ w. w) (Err e) s
still-refused y Memory r s told h = tt
still-refused y (Refused e') r s told h = h e' told

-- the first part is bound or refused
pub first-bound : {X : Type 0} (r : Bind X) (rest : Bind (List X)) (xs ys : List X) → xs ≡ [] → (r >>= λ x. Ok (xs ++ x ∷ [])) ≡ Ok ys
    → with_front ys rest ≡ (r >>= λ x. with_front (x ∷ []) rest)
first-bound (Ok x) rest xs ys e h = sym (ap (λ b. b >>= λ zs. with_front zs rest) h) ∙ ap (λ zs. with_front (zs ++ x ∷ []) rest) e
first-bound (Err e') rest xs ys e h = sym (ap (λ b. b >>= λ zs. with_front zs rest) h)

pub first-refused : {X Y : Type 0} (r : Bind X) (f : X → Bind Y) (xs : List X) (e : BindError) → (r >>= λ x. Ok (xs ++ x ∷ [])) ≡ Err e → (r >>= f) ≡ Err e
first-refused (Ok x) f xs e h = cc
first-refused (Err e') f xs e h = ap (λ b. b >>= λ zs. Err e) h

-- the parts so far, and a next one that is bound or refused
next-bound : {X : Type 0} (r : Bind X) (rest : Bind (List X)) (xs ys : List X) → (r >>= λ x. Ok (xs ++ x ∷ [])) ≡ Ok ys
    → with_front xs (r >>= λ x. with_front (x ∷ []) rest) ≡ with_front ys rest
next-bound (Ok x) rest xs ys e = front_twice xs (x ∷ []) rest ∙ ap (λ b. b >>= λ zs. with_front zs rest) e
next-bound (Err e') rest xs ys e = ap (λ b. b >>= λ zs. with_front zs rest) e

next-refused : {X : Type 0} (r : Bind X) (rest : Bind (List X)) (xs : List X) (e : BindError) → (r >>= λ x. Ok (xs ++ x ∷ [])) ≡ Err e
    → with_front xs (r >>= λ x. with_front (x ∷ []) rest) ≡ Err e
next-refused (Ok x) rest xs e h = cc
next-refused (Err e') rest xs e h = h

module _ {A X : Type 0} (f : A → Bind X) where
  each-ok : (a : A) (as' : List A) (x : X) → f a ≡ Ok x → each f (a ∷ as') ≡ with_front (x ∷ []) (each f as')
  each-ok a as' x e = ap (λ r. r >>= λ y. with_front (y ∷ []) (each f as')) e

  -- the parts so far, and those to come
  pub each-goes_on : (xs : List X) (as' : List A) (k : ℕ) (d : A) (x : X) → k < length as' → f (get_or as' k d) ≡ Ok x
      → with_front xs (each f (drop k as')) ≡ with_front (xs ++ x ∷ []) (each f (drop (k + 1) as'))
  each-goes_on xs as' k d x h e =
      ap (λ bs. with_front xs (each f bs)) (drop-cons as' k d h)
      ∙ ap (with_front xs) (each-ok (get_or as' k d) (drop (suc k) as') x e)
      ∙ front_twice xs (x ∷ []) (each f (drop (suc k) as'))
      ∙ ap (λ n. with_front (xs ++ x ∷ []) (each f (drop n as'))) (sym (add-one k))

  each-from : (xs : List X) (as' : List A) (k : ℕ) (a : A) → k < length as' → a ≡ get_or as' k a → with_front xs (each f (drop k as'))
      ≡ with_front xs (f a >>= λ x. with_front (x ∷ []) (each f (drop (suc k) as')))
  each-from xs as' k a h e =
      ap (λ bs. with_front xs (each f bs)) (drop-cons as' k a h)
      ∙ ap (λ b. with_front xs (f b >>= λ x. with_front (x ∷ []) (each f (drop (suc k) as')))) (sym e)

  pub each-bound : (xs ys : List X) (as' : List A) (k : ℕ) (a : A) → k < length as' → a ≡ get_or as' k a → (f a >>= λ x. Ok (xs ++ x ∷ [])) ≡ Ok ys
      → with_front ys (each f (drop (k + 1) as')) ≡ with_front xs (each f (drop k as'))
  each-bound xs ys as' k a h e told =
      ap (λ n. with_front ys (each f (drop n as'))) (add-one k)
      ∙ sym (each-from xs as' k a h e ∙ next-bound (f a) (each f (drop (suc k) as')) xs ys told)

  pub each-refused : (xs : List X) (as' : List A) (k : ℕ) (a : A) (e : BindError) → k < length as' → a ≡ get_or as' k a
      → (f a >>= λ x. Ok (xs ++ x ∷ [])) ≡ Err e → with_front xs (each f (drop k as')) ≡ Err e
  each-refused xs as' k a e h here told = each-from xs as' k a h here ∙ next-refused (f a) (each f (drop (suc k) as')) xs e told
