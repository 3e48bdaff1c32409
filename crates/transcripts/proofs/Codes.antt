-- Codes that can be told from what stands behind them: comparing texts of them is comparing them one by one.
use Rattle.std.specs.Prelude.{◌≡◌, refl, ℕ, ◌<◌, ◌==◌, Bool, true, false, cond, List, [], ◌∷◌, ◌++◌, ◌⊎◌}
use Rattle.std.proofs.Common.{sym, ap, ◌∙◌, inl, inr, append_assoc, append-nil, arith}
use Rattle.std.specs.declared.cmp.Ordering.{Ordering}
use Rattle.std.specs.declared.cmp.Ordering.TheVariants.{Less, Equal, Greater}
use Rattle.std.specs.Ordering.{nat_cmp, ordering_then, ordering_reverse}
use Rattle.std.specs.Cmp.Lexicographic.{nat_list_cmp_total}
use Rattle.std.specs.FinMap.{nat_cmp-IsAntisymmetric, slice_cmp-IsAntisymmetric}
use Rattle.std.proofs.lemmas.Bool.Decides.{nat_tests}
use Rattle.lock_modes.specs.Resource.{both_equal}
use Rattle.transcripts.specs.Compact.{bytes_cmp, others_json, array_json}

-- ---- orderings in turn

pub then-assoc : (a b c : Ordering) → ordering_then (ordering_then a b) c ≡ ordering_then a (ordering_then b c)
then-assoc Less b c = refl
then-assoc Equal b c = refl
then-assoc Greater b c = refl

pub then-equal : (a : Ordering) → ordering_then a Equal ≡ a
then-equal Less = refl
then-equal Equal = refl
then-equal Greater = refl

-- what is decided stays so
pub then-decided : (a b : Ordering) → (a ≡ Equal → ⊥) → ordering_then a b ≡ a
then-decided Less b h = refl
then-decided Equal b h = absurd (h refl)
then-decided Greater b h = refl

-- ---- bytes

-- a byte below another one
pub below : (x y : ℕ) → x < y → nat_cmp y x ≡ Greater
below x y h = grind (arith, nat_tests)

pub above : (x y : ℕ) → x < y → nat_cmp x y ≡ Less
above x y h = grind (arith, nat_tests)

pub tied : (x : ℕ) → nat_cmp x x ≡ Equal
tied x = grind (arith, nat_tests)

pub bytes_same : (xs ys : List ℕ) → bytes_cmp xs ys ≡ Equal → xs ≡ ys
bytes_same xs ys e = slice_cmp-IsAntisymmetric nat_cmp-IsAntisymmetric xs ys e

pub bytes_tied : (xs : List ℕ) → bytes_cmp xs xs ≡ Equal
bytes_tied [] = refl
bytes_tied (x ∷ xs) = ap (λ o. ordering_then o (bytes_cmp xs xs)) (tied x) ∙ bytes_tied xs

-- the first byte decides, or else the rest
pub one_step : (a b : ℕ) (s t : List ℕ) → bytes_cmp (a ∷ s) (b ∷ t) ≡ ordering_then (bytes_cmp (a ∷ []) (b ∷ [])) (bytes_cmp s t)
one_step a b s t = sym (then-assoc (nat_cmp a b) Equal (bytes_cmp s t))

-- what the first bytes decide
pub first_decides : (a b : ℕ) (s t : List ℕ) → (a ≡ b → ⊥) → bytes_cmp (a ∷ s) (b ∷ t) ≡ nat_cmp a b
first_decides a b s t ne = then-decided (nat_cmp a b) (bytes_cmp s t) (λ e. ne (nat_cmp-IsAntisymmetric a b e))

-- ---- texts of which none is a front of another

-- neither text is a proper front of the other
abbrev pub is_apart : List ℕ → List ℕ → Bool
is_apart [] [] = true
is_apart [] (y ∷ ys) = false
is_apart (x ∷ xs) [] = false
is_apart (x ∷ xs) (y ∷ ys) = cond (x == y) (is_apart xs ys) true

pub apart-order : (xs ys s t : List ℕ) → is_apart xs ys ≡ true → bytes_cmp (xs ++ s) (ys ++ t) ≡ ordering_then (bytes_cmp xs ys) (bytes_cmp s t)
apart-order [] [] s t e = refl
apart-order [] (y ∷ ys) s t e = cc
apart-order (x ∷ xs) [] s t e = cc
apart-order (x ∷ xs) (y ∷ ys) s t e = by (x == y) refl (apart-order xs ys s t)
  where
    by : (b : Bool) → (x == y) ≡ b → (is_apart xs ys ≡ true → bytes_cmp (xs ++ s) (ys ++ t) ≡ ordering_then (bytes_cmp xs ys) (bytes_cmp s t))
        → bytes_cmp ((x ∷ xs) ++ s) ((y ∷ ys) ++ t) ≡ ordering_then (bytes_cmp (x ∷ xs) (y ∷ ys)) (bytes_cmp s t)
    by true is deeper =
        let rest : is_apart xs ys ≡ true = ap (λ b. cond b (is_apart xs ys) true) (sym is) ∙ e in
        ap (ordering_then (nat_cmp x y)) (deeper rest) ∙ sym (then-assoc (nat_cmp x y) (bytes_cmp xs ys) (bytes_cmp s t))
    by false is deeper =
        let ne : x ≡ y → ⊥ = λ h. grind (arith, nat_tests, h, is) in
        let left : bytes_cmp ((x ∷ xs) ++ s) ((y ∷ ys) ++ t) ≡ nat_cmp x y = first_decides x y (xs ++ s) (ys ++ t) ne in
        let right : bytes_cmp (x ∷ xs) (y ∷ ys) ≡ nat_cmp x y = first_decides x y xs ys ne in
        left ∙ sym (then-decided (nat_cmp x y) (bytes_cmp s t) (λ h. ne (nat_cmp-IsAntisymmetric x y h)))
        ∙ ap (λ o. ordering_then o (bytes_cmp s t)) (sym right)

-- ---- codes

-- what stands behind an item of an array: a comma or the closing bracket
abbrev pub IsEnd : ℕ → Type 0
IsEnd a = (a ≡ 44) ⊎ (a ≡ 93)

-- the codes end by themselves, and none begins like the end of an array or later
pub record IsClosed {X : Type 0} (f : X → List ℕ) : Type 0 where
  pub order : (x y : X) (s t : List ℕ) → bytes_cmp (f x ++ s) (f y ++ t) ≡ ordering_then (bytes_cmp (f x) (f y)) (bytes_cmp s t)
  pub same : (x y : X) → bytes_cmp (f x) (f y) ≡ Equal → x ≡ y
  pub low : (x : X) (s t : List ℕ) → bytes_cmp (93 ∷ s) (f x ++ t) ≡ Greater

-- the codes end where an item of an array ends
pub record IsCode {X : Type 0} (f : X → List ℕ) : Type 0 where
  pub order : (x y : X) (a b : ℕ) (s t : List ℕ) → IsEnd a → IsEnd b → bytes_cmp (f x ++ a ∷ s) (f y ++ b ∷ t)
      ≡ ordering_then (bytes_cmp (f x ++ a ∷ []) (f y ++ b ∷ [])) (bytes_cmp s t)
  pub same : (x y : X) (a b : ℕ) → IsEnd a → IsEnd b → bytes_cmp (f x ++ a ∷ []) (f y ++ b ∷ []) ≡ Equal → (x ≡ y) × (a ≡ b)
  pub low : (x : X) (s t : List ℕ) → bytes_cmp (93 ∷ s) (f x ++ t) ≡ Greater

-- a code that ends by itself, and the byte behind it
pub closed-ended : {X : Type 0} (f : X → List ℕ) → IsClosed f → (x y : X) (a b : ℕ) → bytes_cmp (f x ++ a ∷ []) (f y ++ b ∷ [])
    ≡ ordering_then (bytes_cmp (f x) (f y)) (nat_cmp a b)
closed-ended f closed x y a b = closed.order x y (a ∷ []) (b ∷ []) ∙ ap (ordering_then (bytes_cmp (f x) (f y))) (then-equal (nat_cmp a b))

pub closed_code : {X : Type 0} (f : X → List ℕ) → IsClosed f → IsCode f
closed_code f closed = record { order = order; same = same; low = closed.low }
  where
    order : (x y : _) (a b : ℕ) (s t : List ℕ) → IsEnd a → IsEnd b → bytes_cmp (f x ++ a ∷ s) (f y ++ b ∷ t)
        ≡ ordering_then (bytes_cmp (f x ++ a ∷ []) (f y ++ b ∷ [])) (bytes_cmp s t)
    order x y a b s t p q =
        closed.order x y (a ∷ s) (b ∷ t)
        ∙ sym (then-assoc (bytes_cmp (f x) (f y)) (nat_cmp a b) (bytes_cmp s t))
        ∙ ap (λ o. ordering_then o (bytes_cmp s t)) (sym (closed-ended f closed x y a b))

    same : (x y : _) (a b : ℕ) → IsEnd a → IsEnd b → bytes_cmp (f x ++ a ∷ []) (f y ++ b ∷ []) ≡ Equal → (x ≡ y) × (a ≡ b)
    same x y a b p q e =
        let both = both_equal (bytes_cmp (f x) (f y)) (nat_cmp a b) (sym (closed-ended f closed x y a b) ∙ e) in
        (closed.same x y both.0, nat_cmp-IsAntisymmetric a b both.1)

-- ---- arrays

-- what stands behind an item that these follow
abbrev pub end_before : {X : Type 0} → List X → ℕ
end_before [] = 93
end_before (x ∷ xs) = 44

pub end-is : {X : Type 0} (xs : List X) → IsEnd (end_before xs)
end-is [] = inr refl
end-is (x ∷ xs) = inl refl

-- items one by one, each with what stands behind it; the end of a list is last
unfoldable pub items_cmp : {X : Type 0} → (X → List ℕ) → List X → List X → Ordering
items_cmp f [] [] = Equal
items_cmp f [] (y ∷ ys) = Greater
items_cmp f (x ∷ xs) [] = Less
items_cmp f (x ∷ xs) (y ∷ ys) = ordering_then (bytes_cmp (f x ++ end_before xs ∷ []) (f y ++ end_before ys ∷ [])) (items_cmp f xs ys)

pub others-nil : {X : Type 0} (f : X → List ℕ) → others_json f [] ≡ 93 ∷ []
unfolding others_json
others-nil f = refl

pub others-cons : {X : Type 0} (f : X → List ℕ) (x : X) (xs : List X) → others_json f (x ∷ xs) ≡ 44 ∷ (f x ++ others_json f xs)
unfolding others_json
others-cons f x xs = refl

pub items-cons : {X : Type 0} (f : X → List ℕ) (x y : X) (xs ys : List X)
    → items_cmp f (x ∷ xs) (y ∷ ys) ≡ ordering_then (bytes_cmp (f x ++ end_before xs ∷ []) (f y ++ end_before ys ∷ [])) (items_cmp f xs ys)
unfolding items_cmp
items-cons f x y xs ys = refl

pub items-none : {X : Type 0} (f : X → List ℕ) → items_cmp f [] [] ≡ Equal
unfolding items_cmp
items-none f = refl

pub items-ended : {X : Type 0} (f : X → List ℕ) (y : X) (ys : List X) → items_cmp f [] (y ∷ ys) ≡ Greater
unfolding items_cmp
items-ended f y ys = refl

pub items-longer : {X : Type 0} (f : X → List ℕ) (x : X) (xs : List X) → items_cmp f (x ∷ xs) [] ≡ Less
unfolding items_cmp
items-longer f x xs = refl

-- lists whose items tie are one
pub items-same : {X : Type 0} (f : X → List ℕ) → IsCode f → (xs ys : List X) → items_cmp f xs ys ≡ Equal → xs ≡ ys
unfolding items_cmp
items-same f code [] [] e = refl
items-same f code [] (y ∷ ys) e = cc
items-same f code (x ∷ xs) [] e = cc
items-same f code (x ∷ xs) (y ∷ ys) e =
    let both = both_equal (bytes_cmp (f x ++ end_before xs ∷ []) (f y ++ end_before ys ∷ [])) (items_cmp f xs ys) e in
    let heads = (code.same x y _ _ (end-is xs) (end-is ys) both.0).0 in
    let tails = items-same f code xs ys both.1 in
    λ i. heads i ∷ tails i

-- a closing bracket is no comma
bracket-comma : (a b : ℕ) → a ≡ 93 → b ≡ 44 → a ≡ b → ⊥
bracket-comma a b p q e = omega arith

-- where one item is the last and the other is not, they do not tie
ends-differ : {X : Type 0} (f : X → List ℕ) → IsCode f → (x y : X) (a b : ℕ) → IsEnd a → IsEnd b → (a ≡ b → ⊥)
    → bytes_cmp (f x ++ a ∷ []) (f y ++ b ∷ []) ≡ Equal → ⊥
ends-differ f code x y a b p q ne e = ne (code.same x y a b p q e).1

-- two codes with an end, and what stands behind that
code-behind : {X : Type 0} (f : X → List ℕ) → IsCode f → (x y : X) (a b : ℕ) (p q s t : List ℕ) → IsEnd a → IsEnd b
    → bytes_cmp ((f x ++ a ∷ p) ++ s) ((f y ++ b ∷ q) ++ t) ≡ ordering_then (bytes_cmp (f x ++ a ∷ []) (f y ++ b ∷ [])) (bytes_cmp (p ++ s) (q ++ t))
code-behind f code x y a b p q s t c d =
    (λ i. bytes_cmp (append_assoc (f x) (a ∷ p) s i) (append_assoc (f y) (b ∷ q) t i)) ∙ code.order x y a b (p ++ s) (q ++ t) c d

-- what the items of two arrays and what stands behind them come to
abbrev ItemsJoin : {X : Type 0} → (X → List ℕ) → X → List X → X → List X → Type 0
ItemsJoin f x xs y ys = (s t : List ℕ)
    → bytes_cmp ((f x ++ others_json f xs) ++ s) ((f y ++ others_json f ys) ++ t) ≡ ordering_then (items_cmp f (x ∷ xs) (y ∷ ys)) (bytes_cmp s t)

-- where the rests of both are known
join-by : {X : Type 0} (f : X → List ℕ) → IsCode f → (x y : X) (xs ys : List X) (p q : List ℕ)
    → others_json f xs ≡ end_before xs ∷ p → others_json f ys ≡ end_before ys ∷ q
    → ((s t : List ℕ) → ordering_then (bytes_cmp (f x ++ end_before xs ∷ []) (f y ++ end_before ys ∷ [])) (bytes_cmp (p ++ s) (q ++ t))
    ≡ ordering_then (ordering_then (bytes_cmp (f x ++ end_before xs ∷ []) (f y ++ end_before ys ∷ [])) (items_cmp f xs ys)) (bytes_cmp s t))
    → ItemsJoin f x xs y ys
join-by f code x y xs ys p q a b rest s t =
    (λ i. bytes_cmp ((f x ++ a i) ++ s) ((f y ++ b i) ++ t))
    ∙ code-behind f code x y (end_before xs) (end_before ys) p q s t (end-is xs) (end-is ys)
    ∙ rest s t
    ∙ ap (λ o. ordering_then o (bytes_cmp s t)) (sym (items-cons f x y xs ys))

then-none : (o k q : Ordering) → k ≡ Equal → ordering_then o q ≡ ordering_then (ordering_then o k) q
then-none o k q e = ap (λ p. ordering_then p q) (sym (ap (ordering_then o) e ∙ then-equal o))

then-first : (o m k q : Ordering) → (o ≡ Equal → ⊥) → ordering_then o m ≡ ordering_then (ordering_then o k) q
then-first o m k q h = then-decided o m h ∙ sym (then-decided o (ordering_then k q) h) ∙ sym (then-assoc o k q)

then-both : (o m k q : Ordering) → m ≡ ordering_then k q → ordering_then o m ≡ ordering_then (ordering_then o k) q
then-both o m k q g = ap (ordering_then o) g ∙ sym (then-assoc o k q)

-- item by item
pub items-order : {X : Type 0} (f : X → List ℕ) → IsCode f → (x y : X) (xs ys : List X) → ItemsJoin f x xs y ys
items-order f code x y [] [] = join-by f code x y [] [] [] [] (others-nil f) (others-nil f) (λ s t. then-none _ _ (bytes_cmp s t) (items-none f))
items-order f code x y [] (v ∷ vs) =
    join-by f code x y [] (v ∷ vs) [] (f v ++ others_json f vs) (others-nil f) (others-cons f v vs)
    (λ s t. then-first _ _ _ (bytes_cmp s t) (ends-differ f code x y 93 44 (inr refl) (inl refl) (bracket-comma 93 44 refl refl)))
items-order f code x y (w ∷ ws) [] =
    join-by f code x y (w ∷ ws) [] (f w ++ others_json f ws) [] (others-cons f w ws) (others-nil f)
    (λ s t. then-first _ _ _ (bytes_cmp s t) (ends-differ f code x y 44 93 (inl refl) (inr refl) (λ e. bracket-comma 93 44 refl refl (sym e))))
items-order f code x y (w ∷ ws) (v ∷ vs) =
    join-by f code x y (w ∷ ws) (v ∷ vs) (f w ++ others_json f ws) (f v ++ others_json f vs) (others-cons f w ws) (others-cons f v vs)
    (λ s t. then-both _ _ _ (bytes_cmp s t) (items-order f code w v ws vs s t))

-- two arrays and what stands behind them
pub array-order : {X : Type 0} (f : X → List ℕ) → IsCode f → (xs ys : List X) (s t : List ℕ)
    → bytes_cmp (array_json f xs ++ s) (array_json f ys ++ t) ≡ ordering_then (items_cmp f xs ys) (bytes_cmp s t)
array-order f code [] [] s t = ap (λ o. ordering_then o (bytes_cmp s t)) (sym (items-none f))
array-order f code [] (y ∷ ys) s t =
    ap (bytes_cmp (93 ∷ s)) (append_assoc (f y) (others_json f ys) t) ∙ code.low y s (others_json f ys ++ t)
    ∙ ap (λ o. ordering_then o (bytes_cmp s t)) (sym (items-ended f y ys))
array-order f code (x ∷ xs) [] s t =
    ap (λ l. bytes_cmp l (93 ∷ t)) (append_assoc (f x) (others_json f xs) s)
    ∙ nat_list_cmp_total.antisymm (f x ++ (others_json f xs ++ s)) (93 ∷ t) ∙ ap ordering_reverse (code.low x t (others_json f xs ++ s))
    ∙ ap (λ o. ordering_then o (bytes_cmp s t)) (sym (items-longer f x xs))
array-order f code (x ∷ xs) (y ∷ ys) s t = items-order f code x y xs ys s t

-- two arrays alone
pub array-cmp : {X : Type 0} (f : X → List ℕ) → IsCode f → (xs ys : List X) → bytes_cmp (array_json f xs) (array_json f ys) ≡ items_cmp f xs ys
array-cmp f code xs ys =
    let both = array-order f code xs ys [] [] ∙ then-equal (items_cmp f xs ys) in
    rw (append-nil (array_json f xs), append-nil (array_json f ys)) at both

-- arrays of codes end by themselves
pub array_closed : {X : Type 0} (f : X → List ℕ) → IsCode f → IsClosed (array_json f)
array_closed {X} f code = record { order = order; same = same; low = low }
  where
    order : (xs ys : List X) (s t : List ℕ) → bytes_cmp (array_json f xs ++ s) (array_json f ys ++ t)
        ≡ ordering_then (bytes_cmp (array_json f xs) (array_json f ys)) (bytes_cmp s t)
    order xs ys s t = array-order f code xs ys s t ∙ ap (λ o. ordering_then o (bytes_cmp s t)) (sym (array-cmp f code xs ys))

    same : (xs ys : List X) → bytes_cmp (array_json f xs) (array_json f ys) ≡ Equal → xs ≡ ys
    same xs ys e = items-same f code xs ys (sym (array-cmp f code xs ys) ∙ e)

    low : (xs : List X) (s t : List ℕ) → bytes_cmp (93 ∷ s) (array_json f xs ++ t) ≡ Greater
    low [] s t = refl
    low (x ∷ xs) s t = refl
