-- Where a quoted name ends, and one quote for each two.
use Rattle.std.proofs.Common.{◌≡◌, ℕ, zero, suc, ◌+◌, ◌<◌, Bool, true, false, List, [], ◌∷◌, ◌++◌, length, take, drop, get_or, refl, sym, ap, ◌∙◌, arith}
use Rattle.std.proofs.Common.{one-add, add-one, drop-cons}
use Rattle.std.specs.Prelude.{not, ◌&&◌, ◌==◌}
use Rattle.std.specs.List.{prefix_len}
use Rattle.byte_runs.specs.declared.runs.Class.TheVariants as class
use Rattle.byte_runs.specs.Bytes.{in_class}
use Rattle.spec_reader.specs.Quoted.{begins_quote, stops, quoted_len, undoubled}

-- a front without quotes, and what follows
front : (b : ℕ) (bs : List ℕ) (q : Bool) → (b == 34) ≡ q → undoubled false bs ≡ take (prefix_len (in_class class.DoubleQuoted) bs) bs
    ++ undoubled false (drop (prefix_len (in_class class.DoubleQuoted) bs) bs) → undoubled false (b ∷ bs)
    ≡ take (prefix_len (in_class class.DoubleQuoted) (b ∷ bs)) (b ∷ bs)
    ++ undoubled false (drop (prefix_len (in_class class.DoubleQuoted) (b ∷ bs)) (b ∷ bs))
front b bs true e h = rw (e, e) refl
front b bs false e h = rw (e, one-add) (ap (λ (l : List ℕ). b ∷ l) h)

pub undoubled_front : (xs : List ℕ) → undoubled false xs ≡ take (prefix_len (in_class class.DoubleQuoted) xs) xs
    ++ undoubled false (drop (prefix_len (in_class class.DoubleQuoted) xs) xs)
undoubled_front [] = refl
undoubled_front (b ∷ bs) = front b bs (b == 34) refl (undoubled_front bs)

-- a quote follows it, or nothing
front_stops : (b : ℕ) (bs : List ℕ) (q : Bool) → (b == 34) ≡ q
    → (begins_quote (drop (prefix_len (in_class class.DoubleQuoted) bs) bs) ≡ false → drop (prefix_len (in_class class.DoubleQuoted) bs) bs ≡ [])
    → begins_quote (drop (prefix_len (in_class class.DoubleQuoted) (b ∷ bs)) (b ∷ bs)) ≡ false
    → drop (prefix_len (in_class class.DoubleQuoted) (b ∷ bs)) (b ∷ bs) ≡ []
front_stops b bs true e h = rw e (λ no. absurd cc)
front_stops b bs false e h = rw (e, one-add) h

pub unquoted_stops : (xs : List ℕ) → begins_quote (drop (prefix_len (in_class class.DoubleQuoted) xs) xs) ≡ false
    → drop (prefix_len (in_class class.DoubleQuoted) xs) xs ≡ []
unquoted_stops [] = λ _. refl
unquoted_stops (b ∷ bs) = front_stops b bs (b == 34) refl (unquoted_stops bs)

-- how far a quoted name goes on
pub quoted_stops : (second : Bool) (xs : List ℕ) → stops second xs ≡ true → quoted_len second xs ≡ 0
quoted_stops second [] e = refl
quoted_stops second (b ∷ bs) e = rw e refl

pub quoted_goes : (second : Bool) (b : ℕ) (bs : List ℕ) → stops second (b ∷ bs) ≡ false → quoted_len second (b ∷ bs) ≡ 1 + quoted_len (not second && b == 34) bs
quoted_goes second b bs e = rw e refl

pub quoted_more : (second : Bool) (bytes : List ℕ) (n : ℕ) → n < length bytes → stops second (drop n bytes) ≡ false → n + quoted_len second (drop n bytes)
    ≡ n + 1 + quoted_len (not second && get_or bytes n 0 == 34) (drop (n + 1) bytes)
quoted_more second bytes n lt e =
    let cons : drop n bytes ≡ get_or bytes n 0 ∷ drop (n + 1) bytes = rw (add-one, drop-cons bytes n 0) refl in
    let go = quoted_goes second (get_or bytes n 0) (drop (n + 1) bytes) (ap (stops second) (sym cons) ∙ e) in
    omega (arith, ap (quoted_len second) cons ∙ go)

-- where a quote stands
pub quote_at : (xs : List ℕ) (n : ℕ) → begins_quote (drop n xs) ≡ true → (n < length xs) × (get_or xs n 0 ≡ 34)
quote_at [] zero e = absurd cc
quote_at [] (suc n) e = absurd cc
quote_at (b ∷ bs) zero e = (omega arith, grind arith)
quote_at (b ∷ bs) (suc n) e = let h = quote_at bs n e in (omega (arith, h.0), h.1)

pub not_not : (c : Bool) → not c ≡ true → c ≡ false
not_not true e = absurd cc
not_not false e = refl

pub not_stops : (c : Bool) → not c ≡ false → c ≡ true
not_stops true e = refl
not_stops false e = absurd cc
