-- What stands in a string for a byte, and strings in quotes.
use Rattle.std.specs.Prelude.{◌≡◌, refl, ℕ, ◌/◌, ◌%◌, ◌<◌, ◌≤◌, ◌==◌, ◌&&◌, ◌||◌, nat_lt, not, Bool, true, false, cond, List, [], ◌∷◌, ◌++◌, bytes_eq}
use Rattle.std.proofs.Common.{sym, ap, ◌∙◌, append_assoc, arith}
use Rattle.std.specs.declared.cmp.Ordering.{Ordering}
use Rattle.std.specs.declared.cmp.Ordering.TheVariants.{Less, Equal, Greater}
use Rattle.std.specs.Ordering.{nat_cmp, ordering_then, ordering_index}
use Rattle.std.specs.FinMap.{nat_cmp-IsAntisymmetric}
use Rattle.std.proofs.lemmas.Bool.{and_parts}
use Rattle.std.proofs.lemmas.Bool.Decides.{nat_tests}
use Rattle.std.proofs.lemmas.Slice.Eq.{bytes_eq-Decides}
use Rattle.std.specs.Char.{digit_char}
use Rattle.json.specs.Print.{escape_letter, escape_byte, escape, quoted}
use Rattle.lock_modes.specs.Resource.{both_equal}
use Rattle.transcripts.specs.Compact.{bytes_cmp, first_written, second_written}
use Rattle.transcripts.proofs.Tables.{all_below, passes, passes_both}
use Rattle.transcripts.proofs.Codes.{is_apart, apart-order, then-assoc, then-equal, then-decided, first_decides, bytes_same, IsClosed}

-- ---- the bytes up to the backslash, each computed

-- the order of two bytes' texts
order_by : ℕ → ℕ → Ordering
order_by x y = ordering_then (ordering_then (nat_cmp (first_written x) (first_written y)) (nat_cmp (second_written x) (second_written y))) (nat_cmp x y)

abbrev is_same_order : Ordering → Ordering → Bool
is_same_order a b = ordering_index a == ordering_index b

-- the text begins with this byte, which is below the closing bracket and no quote
abbrev begins_low : ℕ → List ℕ → Bool
begins_low x [] = false
begins_low x (d ∷ ds) = (d == x) && (nat_lt x 93 && not (x == 34))

lows_apart : all_below 93 (λ x. all_below 93 (λ y. is_apart (escape_byte x) (escape_byte y))) ≡ true
unfolding escape_byte
lows_apart = refl

lows_same : all_below 93 (λ x. all_below 93 (λ y. (x == y) || not (bytes_eq (escape_byte x) (escape_byte y)))) ≡ true
unfolding escape_byte
lows_same = refl

lows_order : all_below 93 (λ x. all_below 93 (λ y. is_same_order (bytes_cmp (escape_byte x) (escape_byte y)) (order_by x y))) ≡ true
unfolding escape_byte order_by
lows_order = refl

lows_begin : all_below 93 (λ x. begins_low (first_written x) (escape_byte x)) ≡ true
unfolding escape_byte
lows_begin = refl

-- ---- any byte

no_letter : (x : ℕ) → 93 ≤ x → escape_letter x ≡ 0
no_letter x h = grind (arith, nat_tests)

no_control : (x : ℕ) → 93 ≤ x → nat_lt x 32 ≡ false
no_control x h = grind (arith, nat_tests)

-- a byte past the backslash stands as it is
plain : (x : ℕ) → 93 ≤ x → escape_byte x ≡ x ∷ []
unfolding escape_byte
plain x h = λ i. cond (nat_lt 0 (no_letter x h i)) (92 ∷ no_letter x h i ∷ [])
    (cond (no_control x h i) (92 ∷ 117 ∷ 48 ∷ 48 ∷ digit_char (x / 16) ∷ digit_char (x % 16) ∷ []) (x ∷ []))

first_plain : (x : ℕ) → 93 ≤ x → first_written x ≡ x
first_plain x h = λ i. cond (nat_lt 0 (no_letter x h i) || no_control x h i) 92 x

second_plain : (x : ℕ) → 93 ≤ x → second_written x ≡ 0
second_plain x h = λ i. cond (nat_lt 0 (no_letter x h i)) (no_letter x h i) (cond (no_control x h i) 117 0)

-- by cases: up to the backslash or past it
split : (x : ℕ) (P : Type 0) → (x < 93 → P) → (93 ≤ x → P) → P
split x P low high = by (nat_lt x 93) refl
  where
    by : (b : Bool) → nat_lt x 93 ≡ b → P
    by true e = low (grind (arith, nat_tests))
    by false e = high (grind (arith, nat_tests))

-- what stands for a byte begins with its first byte
pub record Begins (x : ℕ) : Type 0 where
  pub rest : List ℕ
  pub is : escape_byte x ≡ first_written x ∷ rest
  pub no_quote : first_written x ≡ 34 → ⊥
  pub low : x < 93 → first_written x < 93

begins_of : (x : ℕ) (text : List ℕ) → escape_byte x ≡ text → begins_low (first_written x) text ≡ true → Begins x
begins_of x [] is e = cc
begins_of x (d ∷ ds) is e =
    let p = and_parts (d == first_written x) _ e in
    let q = and_parts (nat_lt (first_written x) 93) _ p.1 in
    let first : d ≡ first_written x = grind (arith, nat_tests, p.0) in
    let under : first_written x < 93 = grind (arith, nat_tests, q.0) in
    record { rest = ds; is = is ∙ ap (λ b. b ∷ ds) first; no_quote = λ h. grind (arith, nat_tests, q.1, h); low = λ h. under }

pub begins : (x : ℕ) → Begins x
begins x =
    split x (Begins x)
    (λ low. begins_of x (escape_byte x) refl (passes 93 (λ y. begins_low (first_written y) (escape_byte y)) lows_begin x low))
    (λ high. record {
      rest = [];
      is = plain x high ∙ ap (λ b. b ∷ []) (sym (first_plain x high));
      no_quote = λ h. let e = first_plain x high in omega (arith, e, h, high);
      low = λ h. absurd (omega (arith, h, high));
    })

heads_apart : (d e : ℕ) (ds es : List ℕ) → (d ≡ e → ⊥) → is_apart (d ∷ ds) (e ∷ es) ≡ true
heads_apart d e ds es ne = let no : (d == e) ≡ false = grind (arith, nat_tests, ne) in ap (λ b. cond b (is_apart ds es) true) no

-- a byte past the backslash, and one up to it, have different first bytes
firsts_differ : (x y : ℕ) → 93 ≤ x → y < 93 → first_written x ≡ first_written y → ⊥
firsts_differ x y high low e = let a = first_plain x high in let b = (begins y).low low in omega (arith, a, b, e, high)

ones_apart : (x y : ℕ) (b : Bool) → (x == y) ≡ b → is_apart (x ∷ []) (y ∷ []) ≡ true
ones_apart x y true e = ap (λ b. cond b true true) e
ones_apart x y false e = ap (λ b. cond b true true) e

firsts_apart : (x y : ℕ) → (first_written x ≡ first_written y → ⊥) → is_apart (escape_byte x) (escape_byte y) ≡ true
firsts_apart x y ne = (λ i. is_apart ((begins x).is i) ((begins y).is i)) ∙ heads_apart _ _ (begins x).rest (begins y).rest ne

pub bytes_apart : (x y : ℕ) → is_apart (escape_byte x) (escape_byte y) ≡ true
bytes_apart x y =
    split x _
    (λ p. split y _ (λ q. passes_both 93 (λ x y. is_apart (escape_byte x) (escape_byte y)) lows_apart x y p q)
    (λ q. firsts_apart x y (λ e. firsts_differ y x q p (sym e))))
    (λ p. split y _ (λ q. firsts_apart x y (firsts_differ x y p q)) (λ q. (λ i. is_apart (plain x p i) (plain y q i)) ∙ ones_apart x y (x == y) refl))

same_firsts : (x y : ℕ) → escape_byte x ≡ escape_byte y → first_written x ≡ first_written y
same_firsts x y e = let both_are : (first_written x ∷ (begins x).rest) ≡ (first_written y ∷ (begins y).rest) = sym (begins x).is ∙ e ∙ (begins y).is in cc

lows_one : (x y : ℕ) → escape_byte x ≡ escape_byte y → ((x == y) || not (bytes_eq (escape_byte x) (escape_byte y))) ≡ true → x ≡ y
lows_one x y e t =
    let eq : bytes_eq (escape_byte x) (escape_byte y) ≡ true = (bytes_eq-Decides (escape_byte x) (escape_byte y)).1 e in
    grind (arith, nat_tests, t, eq)

-- bytes with one text are one
pub bytes_one : (x y : ℕ) → escape_byte x ≡ escape_byte y → x ≡ y
bytes_one x y e =
    split x _
    (λ p. split y _ (λ q. lows_one x y e (passes_both 93 (λ x y. (x == y) || not (bytes_eq (escape_byte x) (escape_byte y))) lows_same x y p q))
    (λ q. absurd (firsts_differ y x q p (sym (same_firsts x y e)))))
    (λ p. split y _ (λ q. absurd (firsts_differ x y p q (same_firsts x y e))) (λ q. sym (first_plain x p) ∙ same_firsts x y e ∙ first_plain y q))

-- ---- the order of two bytes' texts

same_order : (a b : Ordering) → is_same_order a b ≡ true → a ≡ b
same_order Less Less e = refl
same_order Less Equal e = cc
same_order Less Greater e = cc
same_order Equal Less e = cc
same_order Equal Equal e = refl
same_order Equal Greater e = cc
same_order Greater Less e = cc
same_order Greater Equal e = cc
same_order Greater Greater e = refl

decided_twice : (a b c : Ordering) → (a ≡ Equal → ⊥) → ordering_then (ordering_then a b) c ≡ a
decided_twice a b c ne = ap (λ o. ordering_then o c) (then-decided a b ne) ∙ then-decided a c ne

-- where the first bytes differ they decide
firsts_order : (x y : ℕ) → (first_written x ≡ first_written y → ⊥) → bytes_cmp (escape_byte x) (escape_byte y) ≡ order_by x y
unfolding order_by
firsts_order x y ne =
    (λ i. bytes_cmp ((begins x).is i) ((begins y).is i)) ∙ first_decides _ _ (begins x).rest (begins y).rest ne
    ∙ sym (decided_twice _ _ _ (λ h. ne (nat_cmp-IsAntisymmetric (first_written x) (first_written y) h)))

plain_order : (a : Ordering) → ordering_then a Equal ≡ ordering_then (ordering_then a Equal) a
plain_order Less = refl
plain_order Equal = refl
plain_order Greater = refl

plains_order : (x y : ℕ) → 93 ≤ x → 93 ≤ y → bytes_cmp (escape_byte x) (escape_byte y) ≡ order_by x y
unfolding order_by
plains_order x y p q =
    (λ i. bytes_cmp (plain x p i) (plain y q i)) ∙ plain_order (nat_cmp x y)
    ∙ sym (λ i. ordering_then (ordering_then (nat_cmp (first_plain x p i) (first_plain y q i)) (nat_cmp (second_plain x p i) (second_plain y q i)))
    (nat_cmp x y))

pub escaped_order : (x y : ℕ) → bytes_cmp (escape_byte x) (escape_byte y)
    ≡ ordering_then (ordering_then (nat_cmp (first_written x) (first_written y)) (nat_cmp (second_written x) (second_written y))) (nat_cmp x y)
unfolding order_by
escaped_order x y =
    split x (bytes_cmp (escape_byte x) (escape_byte y) ≡ order_by x y)
    (λ p. split y _
    (λ q. same_order _ _ (passes_both 93 (λ x y. is_same_order (bytes_cmp (escape_byte x) (escape_byte y)) (order_by x y)) lows_order x y p q))
    (λ q. firsts_order x y (λ e. firsts_differ y x q p (sym e))))
    (λ p. split y _ (λ q. firsts_order x y (firsts_differ x y p q)) (λ q. plains_order x y p q))

-- ---- strings

-- byte by byte, each with what stands for it; a closing quote stands for the end
unfoldable pub texts_cmp : List ℕ → List ℕ → Ordering
texts_cmp [] [] = Equal
texts_cmp [] (y ∷ ys) = nat_cmp 34 (first_written y)
texts_cmp (x ∷ xs) [] = nat_cmp (first_written x) 34
texts_cmp (x ∷ xs) (y ∷ ys) = ordering_then (bytes_cmp (escape_byte x) (escape_byte y)) (texts_cmp xs ys)

texts-order : (xs ys s t : List ℕ) → bytes_cmp (escape xs ++ 34 ∷ s) (escape ys ++ 34 ∷ t) ≡ ordering_then (texts_cmp xs ys) (bytes_cmp s t)
unfolding texts_cmp
texts-order [] [] s t = refl
texts-order [] (y ∷ ys) s t =
    let no : 34 ≡ first_written y → ⊥ = λ e. (begins y).no_quote (sym e) in
    (λ i. bytes_cmp (34 ∷ s) (((begins y).is i ++ escape ys) ++ 34 ∷ t)) ∙ first_decides 34 (first_written y) s _ no
    ∙ sym (then-decided _ (bytes_cmp s t) (λ h. no (nat_cmp-IsAntisymmetric 34 (first_written y) h)))
texts-order (x ∷ xs) [] s t =
    let no = (begins x).no_quote in
    (λ i. bytes_cmp (((begins x).is i ++ escape xs) ++ 34 ∷ s) (34 ∷ t)) ∙ first_decides (first_written x) 34 _ t no
    ∙ sym (then-decided _ (bytes_cmp s t) (λ h. no (nat_cmp-IsAntisymmetric (first_written x) 34 h)))
texts-order (x ∷ xs) (y ∷ ys) s t =
    (λ i. bytes_cmp (append_assoc (escape_byte x) (escape xs) (34 ∷ s) i) (append_assoc (escape_byte y) (escape ys) (34 ∷ t) i))
    ∙ apart-order (escape_byte x) (escape_byte y) (escape xs ++ 34 ∷ s) (escape ys ++ 34 ∷ t) (bytes_apart x y)
    ∙ ap (ordering_then (bytes_cmp (escape_byte x) (escape_byte y))) (texts-order xs ys s t)
    ∙ sym (then-assoc (bytes_cmp (escape_byte x) (escape_byte y)) (texts_cmp xs ys) (bytes_cmp s t))

texts-same : (xs ys : List ℕ) → texts_cmp xs ys ≡ Equal → xs ≡ ys
unfolding texts_cmp
texts-same [] [] e = refl
texts-same [] (y ∷ ys) e = absurd ((begins y).no_quote (sym (nat_cmp-IsAntisymmetric 34 (first_written y) e)))
texts-same (x ∷ xs) [] e = absurd ((begins x).no_quote (nat_cmp-IsAntisymmetric (first_written x) 34 e))
texts-same (x ∷ xs) (y ∷ ys) e =
    let p = both_equal (bytes_cmp (escape_byte x) (escape_byte y)) (texts_cmp xs ys) e in
    let heads = bytes_one x y (bytes_same _ _ p.0) in
    let tails = texts-same xs ys p.1 in
    λ i. heads i ∷ tails i

quoted-order : (xs ys s t : List ℕ) → bytes_cmp (quoted xs ++ s) (quoted ys ++ t) ≡ ordering_then (texts_cmp xs ys) (bytes_cmp s t)
quoted-order xs ys s t = (λ i. bytes_cmp (append_assoc (escape xs) (34 ∷ []) s i) (append_assoc (escape ys) (34 ∷ []) t i)) ∙ texts-order xs ys s t

-- strings in quotes
pub quoted-cmp : (xs ys : List ℕ) → bytes_cmp (quoted xs) (quoted ys) ≡ texts_cmp xs ys
quoted-cmp xs ys = texts-order xs ys [] [] ∙ then-equal (texts_cmp xs ys)

pub quoted_closed : IsClosed quoted
quoted_closed = record {
  order = λ xs ys s t. quoted-order xs ys s t ∙ ap (λ o. ordering_then o (bytes_cmp s t)) (sym (quoted-cmp xs ys));
  same = λ xs ys e. texts-same xs ys (sym (quoted-cmp xs ys) ∙ e);
  low = λ xs s t. refl;
}
