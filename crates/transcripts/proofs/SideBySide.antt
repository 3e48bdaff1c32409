-- Two lists that are walked side by side, up to the first place where they differ.
use Rattle.std.specs.Prelude.{◌≡◌, refl, ℕ, suc, ◌+◌, ◌-◌, ◌<◌, ◌≤◌, ◌==◌, Bool, true, false, cond, List, [], ◌∷◌, ◌++◌, length, get_or, drop, ◌⊎◌}
use Rattle.std.proofs.Common.{sym, ap, ◌∙◌, inl, inr, drop-cons, drop_of_length-le, length-drop, arith}
use Rattle.std.specs.declared.cmp.Ordering.{Ordering}
use Rattle.std.specs.declared.cmp.Ordering.TheVariants.{Less, Equal, Greater}
use Rattle.std.specs.Ordering.{nat_cmp, ordering_then, is_ne}
use Rattle.std.proofs.lemmas.Bool.Decides.{nat_tests}
use Rattle.json.specs.Print.{escape_byte, quoted}
use Rattle.transcripts.specs.Compact.{bytes_cmp, array_json, first_written}
use Rattle.transcripts.specs.EventParts.{end_at}
use Rattle.transcripts.proofs.Codes.{above, below, tied, then-equal, IsCode, end_before, items_cmp, items-cons, items-none, items-ended, items-longer}
use Rattle.transcripts.proofs.Codes.{array-cmp}
use Rattle.transcripts.proofs.Escapes.{texts_cmp, quoted-cmp}

-- what decides, decides at once
pub found : (o p : Ordering) → is_ne o ≡ true → ordering_then o p ≡ o
found Less p e = refl
found Equal p e = cc
found Greater p e = refl

-- what does not decide ties
pub passed : (o : Ordering) → is_ne o ≡ false → o ≡ Equal
passed Less e = cc
passed Equal e = refl
passed Greater e = cc

-- of three orderings in turn the first decides, or else the second, or else the third
pub first-decides : (f n r o : Ordering) → o ≡ ordering_then (ordering_then f n) r → is_ne f ≡ true → o ≡ f
first-decides f n r o e h = e ∙ ap (λ p. ordering_then p r) (found f n h) ∙ found f r h

pub second-decides : (f n r o : Ordering) → o ≡ ordering_then (ordering_then f n) r → is_ne f ≡ false → is_ne n ≡ true → o ≡ n
second-decides f n r o e g h = e ∙ ap (λ p. ordering_then (ordering_then p n) r) (passed f g) ∙ found n r h

pub third-decides : (f n r o : Ordering) → o ≡ ordering_then (ordering_then f n) r → is_ne f ≡ false → is_ne n ≡ false → o ≡ r
third-decides f n r o e g h = e ∙ ap (λ p. ordering_then (ordering_then p n) r) (passed f g) ∙ ap (λ p. ordering_then p r) (passed n h)

-- the byte behind decides where the text before it is one
pub same-front : (xs : List ℕ) (p q : ℕ) → bytes_cmp (xs ++ p ∷ []) (xs ++ q ∷ []) ≡ nat_cmp p q
same-front [] p q = then-equal (nat_cmp p q)
same-front (x ∷ xs) p q = ap (λ o. ordering_then o (bytes_cmp (xs ++ p ∷ []) (xs ++ q ∷ []))) (tied x) ∙ same-front xs p q

-- the item at a place, and those behind it
pub drop-next : {X : Type 0} (xs : List X) (i : ℕ) (x : X) → i < length xs → x ≡ get_or xs i x → drop i xs ≡ x ∷ drop (i + 1) xs
drop-next xs i x h e =
    let next : suc i ≡ i + 1 = omega arith in
    drop-cons xs i x h ∙ (λ t. sym e t ∷ drop (next t) xs)

-- nothing is left past the end
pub drop-end : {X : Type 0} (xs : List X) (i : ℕ) → length xs ≤ i → drop i xs ≡ []
drop-end xs i h = drop_of_length-le xs h

left-end : {X : Type 0} (xs : List X) (n : ℕ) → length xs ≡ n → end_before xs ≡ cond (n == 0) 93 44
left-end [] n e = let zero_is : (n == 0) ≡ true = grind (arith, nat_tests, e) in ap (λ b. cond b 93 44) (sym zero_is)
left-end (x ∷ xs) n e = let more : (n == 0) ≡ false = grind (arith, nat_tests, e) in ap (λ b. cond b 93 44) (sym more)

-- what stands behind the item at a place
pub end-at-is : {X : Type 0} (xs : List X) (i : ℕ) → i < length xs → end_before (drop (i + 1) xs) ≡ end_at i (length xs)
end-at-is xs i h = by (suc i == length xs) refl
  where
    by : (b : Bool) → (suc i == length xs) ≡ b → end_before (drop (i + 1) xs) ≡ cond (suc i == length xs) 93 44
    by true e =
        let last : suc i ≡ length xs = grind (arith, nat_tests, e) in
        ap end_before (drop-end xs (i + 1) (omega (arith, last))) ∙ ap (λ b. cond b 93 44) (sym e)
    by false e =
        let more : suc i ≡ length xs → ⊥ = λ p. grind (arith, nat_tests, e, p) in
        left-end (drop (i + 1) xs) (length (drop (i + 1) xs)) refl
        ∙ ap (λ b. cond b 93 44) (let some : (length (drop (i + 1) xs) == 0) ≡ false = grind (arith, nat_tests, length-drop (i + 1) xs, more, h) in
        some ∙ sym e)

-- ---- items of arrays

-- the items at a place, each with what stands behind it, and those behind them
pub items-next : {X : Type 0} (f : X → List ℕ) (xs ys : List X) (i p q : ℕ) (x y : X) (o : Ordering)
    → i < length xs → i < length ys → x ≡ get_or xs i x → y ≡ get_or ys i y
    → p ≡ end_at i (length xs) → q ≡ end_at i (length ys) → o ≡ bytes_cmp (f x ++ p ∷ []) (f y ++ q ∷ [])
    → items_cmp f (drop i xs) (drop i ys) ≡ ordering_then o (items_cmp f (drop (i + 1) xs) (drop (i + 1) ys))
items-next f xs ys i p q x y o h k a b c d e =
    (λ t. items_cmp f (drop-next xs i x h a t) (drop-next ys i y k b t))
    ∙ items-cons f x y (drop (i + 1) xs) (drop (i + 1) ys)
    ∙ (λ t. ordering_then (bytes_cmp (f x ++ (end-at-is xs i h ∙ sym c) t ∷ []) (f y ++ (end-at-is ys i k
    ∙ sym d) t ∷ [])) (items_cmp f (drop (i + 1) xs) (drop (i + 1) ys)))
    ∙ ap (λ r. ordering_then r (items_cmp f (drop (i + 1) xs) (drop (i + 1) ys))) (sym e)

-- the first items that differ decide
pub items-found : {X : Type 0} (f : X → List ℕ) → IsCode f → (xs ys : List X) (i : ℕ) (o : Ordering) (rest : Ordering)
    → items_cmp f xs ys ≡ items_cmp f (drop i xs) (drop i ys) → items_cmp f (drop i xs) (drop i ys) ≡ ordering_then o rest
    → is_ne o ≡ true → o ≡ bytes_cmp (array_json f xs) (array_json f ys)
items-found f code xs ys i o rest kept next ne = sym (array-cmp f code xs ys ∙ kept ∙ next ∙ found o rest ne)

-- items that tie are passed
pub items-passed : (a b o rest : Ordering) → a ≡ b → b ≡ ordering_then o rest → is_ne o ≡ false → a ≡ rest
items-passed a b o rest kept next ne = kept ∙ next ∙ ap (λ p. ordering_then p rest) (passed o ne)

-- where one list ends first, its array comes last
pub items-ends : {X : Type 0} (f : X → List ℕ) → IsCode f → (xs ys : List X) (i : ℕ) → i ≤ length xs → i ≤ length ys → (length xs ≤ i) ⊎ (length ys ≤ i)
    → items_cmp f xs ys ≡ items_cmp f (drop i xs) (drop i ys) → nat_cmp (length ys) (length xs) ≡ bytes_cmp (array_json f xs) (array_json f ys)
items-ends {X} f code xs ys i h k stop kept = sym (array-cmp f code xs ys ∙ kept ∙ ends (drop i xs) (drop i ys) (length-drop i xs) (length-drop i ys) stop)
  where
    ends : (us vs : List X) → length us ≡ length xs - i → length vs ≡ length ys - i → (length xs ≤ i) ⊎ (length ys ≤ i) → items_cmp f us vs
        ≡ nat_cmp (length ys) (length xs)
    ends [] [] p q s = let same : length ys ≡ length xs = omega (arith, p, q, h, k) in items-none f ∙ sym (tied (length xs))
        ∙ ap (λ n. nat_cmp n (length xs)) (sym same)
    ends [] (v ∷ vs) p q s = items-ended f v vs ∙ sym (below (length xs) (length ys) (omega (arith, p, q, h, k)))
    ends (u ∷ us) [] p q s = items-longer f u us ∙ sym (above (length ys) (length xs) (omega (arith, p, q, h, k)))
    ends (u ∷ us) (v ∷ vs) p q s = absurd (elim s [ inl a ↦ omega (arith, p, a) | inr b ↦ omega (arith, q, b) ])

-- ---- bytes

bytes-next : (xs : List ℕ) (i : ℕ) → i < length xs → drop i xs ≡ get_or xs i 0 ∷ drop (i + 1) xs
bytes-next xs i h = let next : suc i ≡ i + 1 = omega arith in drop-cons xs i 0 h ∙ (λ t. get_or xs i 0 ∷ drop (next t) xs)

-- the second run of bytes has ended
pub ended-longer : (xs ys : List ℕ) (i p q : ℕ) → i < length xs → length ys ≤ i
    → bytes_cmp (drop i xs ++ p ∷ []) (drop i ys ++ q ∷ []) ≡ ordering_then (nat_cmp (get_or xs i 0) q) Greater
ended-longer xs ys i p q h k =
    (λ t. bytes_cmp (bytes-next xs i h t ++ p ∷ []) (drop-end ys i k t ++ q ∷ [])) ∙ ap (ordering_then (nat_cmp (get_or xs i 0) q)) (more (drop (i + 1) xs))
  where
    more : (us : List ℕ) → bytes_cmp (us ++ p ∷ []) [] ≡ Greater
    more [] = refl
    more (u ∷ us) = refl

-- ---- texts

pub texts-next : (xs ys : List ℕ) (i : ℕ) → i < length xs → i < length ys
    → texts_cmp (drop i xs) (drop i ys)
    ≡ ordering_then (bytes_cmp (escape_byte (get_or xs i 0)) (escape_byte (get_or ys i 0))) (texts_cmp (drop (i + 1) xs) (drop (i + 1) ys))
unfolding texts_cmp
texts-next xs ys i h k = λ t. texts_cmp (bytes-next xs i h t) (bytes-next ys i k t)

-- the first text has ended
pub texts-ended : (xs ys : List ℕ) (i : ℕ) → length xs ≤ i → i < length ys → texts_cmp (drop i xs) (drop i ys) ≡ nat_cmp 34 (first_written (get_or ys i 0))
unfolding texts_cmp
texts-ended xs ys i h k = λ t. texts_cmp (drop-end xs i h t) (bytes-next ys i k t)

-- the second has
pub texts-longer : (xs ys : List ℕ) (i : ℕ) → i < length xs → length ys ≤ i → texts_cmp (drop i xs) (drop i ys) ≡ nat_cmp (first_written (get_or xs i 0)) 34
unfolding texts_cmp
texts-longer xs ys i h k = λ t. texts_cmp (bytes-next xs i h t) (drop-end ys i k t)

-- both have
pub texts-both : (xs ys : List ℕ) (i : ℕ) → length xs ≤ i → length ys ≤ i → texts_cmp (drop i xs) (drop i ys) ≡ Equal
unfolding texts_cmp
texts-both xs ys i h k = λ t. texts_cmp (drop-end xs i h t) (drop-end ys i k t)

-- two strings are in the order of what their bytes come to from a place on
pub texts-told : (s t xs ys : List ℕ) (o p : Ordering) → xs ≡ s → ys ≡ t → o ≡ p → texts_cmp xs ys ≡ p → o ≡ bytes_cmp (quoted s) (quoted t)
texts-told s t xs ys o p a b e kept = e ∙ sym kept ∙ sym (quoted-cmp xs ys) ∙ (λ i. bytes_cmp (quoted (a i)) (quoted (b i)))
