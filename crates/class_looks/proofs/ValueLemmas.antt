-- Which words are those of numbers, and which of texts in quotes.
use Rattle.std.proofs.Common.{◌≡◌, ◌≢◌, refl, sym, ap, ◌∙◌, subst, ℕ, Bool, true, false, ◌==◌, List, [], ◌∷◌, ◌++◌, Option, Some, None, ℤ, Result, Ok, Err}
use Rattle.std.proofs.Common.{◌+◌, ◌<◌, length, get_or, drop, drop-cons, add-one, eq-eqb, eqb-true, flat_map, if◌then◌else◌, IsUtf8}
use Rattle.std.specs.Prelude.{FitsSigned}
use Rattle.std.specs.Fmt.{signed_decimal}
use Rattle.std.specs.Int.{w64}
use Rattle.std.specs.Str.Parse.{ParsesSigned}
use Rattle.std.proofs.lemmas.Fmt.{parse-signed_decimal}
use Rattle.std.proofs.lemmas.List.{append_cancel_right}
use Rattle.lock_modes.specs.declared.value.Value.TheVariants.{Int, Text}
use Rattle.statement_evaluation.specs.Effect.{consed}
use Rattle.statement_evaluation.proofs.ListLemmas.{onto, onto-consed}
use Rattle.transcripts.specs.Text.{doubled, quoted}
use Rattle.class_looks.specs.Values.{IsValueOf, IsNumberOf, IsTextOf, IsInside, in_quotes, undoubled}

-- ---- quotes that stand twice

pub undoubled-doubled : (bs : List ℕ) → undoubled false (flat_map doubled bs) ≡ Some bs
undoubled-doubled [] = refl
undoubled-doubled (b ∷ bs) = at (b == 39) refl (undoubled-doubled bs)
  where
    at : (q : Bool) → (b == 39) ≡ q → undoubled false (flat_map doubled bs) ≡ Some bs
        → undoubled false ((if q then 39 ∷ 39 ∷ [] else b ∷ []) ++ flat_map doubled bs) ≡ Some (b ∷ bs)
    at true is rec = ap (consed 39) rec ∙ ap (λ (x : ℕ). Some (x ∷ bs)) (sym (eqb-true b 39 is))
    at false is rec = ap (λ q. consed b (undoubled q (flat_map doubled bs))) is ∙ ap (consed b) rec

-- a text that began with this byte, and how it goes on
consed-is : (b : ℕ) (o : Option (List ℕ)) (bs : List ℕ) → consed b o ≡ Some bs → (cs : List ℕ) × (o ≡ Some cs) × (bs ≡ b ∷ cs)
consed-is b None bs e = absurd (cc e)
consed-is b (Some cs) bs e = let same : b ∷ cs ≡ bs = cc (e) in (cs, refl, sym same)

if-is : (q : Bool) (o : Option (List ℕ)) (bs : List ℕ) → (if q then o else None) ≡ Some bs → (q ≡ true) × (o ≡ Some bs)
if-is true o bs e = (refl, e)
if-is false o bs e = absurd (cc e)

-- with the second of two quotes before it where it is due
abbrev due : Bool → List ℕ → List ℕ
due true bs = 39 ∷ bs
due false bs = bs

undone : (q : Bool) (xs bs : List ℕ) → undoubled q xs ≡ Some bs → due q (flat_map doubled bs) ≡ xs
undone false [] bs e = let same : [] ≡ bs = cc (e) in sym (ap (flat_map doubled) same)
undone true [] bs e = absurd (cc e)
undone false (b ∷ ys) bs e =
    let x = consed-is b (undoubled (b == 39) ys) bs e in
    ap (flat_map doubled) x.2 ∙ at (b == 39) refl x.0 ∙ ap (λ zs. b ∷ zs) (undone (b == 39) ys x.0 x.1)
  where
    at : (q : Bool) → (b == 39) ≡ q → (cs : List ℕ) → (if q then 39 ∷ 39 ∷ [] else b ∷ []) ++ flat_map doubled cs ≡ b ∷ due q (flat_map doubled cs)
    at true is cs = ap (λ (x : ℕ). x ∷ 39 ∷ flat_map doubled cs) (sym (eqb-true b 39 is))
    at false is cs = refl
undone true (b ∷ ys) bs e =
    let x = if-is (b == 39) (undoubled false ys) bs e in
    let rest = undone false ys bs x.1 in
    let quote : b ≡ 39 = eqb-true b 39 x.0 in
    λ i. sym quote i ∷ rest i

in-quotes-same : (xs ys : List ℕ) → in_quotes xs ≡ in_quotes ys → xs ≡ ys
in-quotes-same xs ys e = let tail : xs ++ 39 ∷ [] ≡ ys ++ 39 ∷ [] = cc in append_cancel_right xs ys (39 ∷ []) tail

-- what stands between quotes is that of the text that is written so
inside-is : (word inner text : List ℕ) → in_quotes inner ≡ word → quoted text ≡ word → undoubled false inner ≡ Some text
inside-is word inner text e h =
    ap (undoubled false) (in-quotes-same inner (flat_map doubled text) (e ∙ sym h)) ∙ undoubled-doubled text

pub text-is : (word inner text : List ℕ) → in_quotes inner ≡ word → undoubled false inner ≡ Some text → quoted text ≡ word
text-is word inner text e h = ap in_quotes (undone false inner text h) ∙ e

pub no-text-unquoted : (word : List ℕ) → IsInside word None → IsTextOf word None
no-text-unquoted word none text utf8 h = none (flat_map doubled text) h

pub no-text-single : (word inner : List ℕ) → in_quotes inner ≡ word → undoubled false inner ≡ None → IsTextOf word None
no-text-single word inner e none text utf8 h = absurd (let x : None ≡ Some text = sym none ∙ inside-is word inner text e h in cc)

pub no-text-bytes : (word inner bytes : List ℕ) → in_quotes inner ≡ word → undoubled false inner ≡ Some bytes → (IsUtf8 bytes → ⊥) → IsTextOf word None
no-text-bytes word inner bytes e some bad text utf8 h =
    let x : Some bytes ≡ Some text = sym some ∙ inside-is word inner text e h in
    let same : text ≡ bytes = cc in
    bad (subst IsUtf8 same utf8)

-- ---- one byte more

module _ (bs : List ℕ) (i d : ℕ) (lt : i < length bs) where
  here : drop i bs ≡ get_or bs i d ∷ drop (i + 1) bs
  here = drop-cons bs i d lt ∙ (λ k. get_or bs i d ∷ drop (sym (add-one i) k) bs)

  pub byte-at : (text : List ℕ) → onto (text ++ get_or bs i d ∷ []) (undoubled (get_or bs i d == 39) (drop (i + 1) bs)) ≡ onto text (undoubled false (drop i bs))
  byte-at text = sym (ap (λ xs. onto text (undoubled false xs)) here ∙ onto-consed text (get_or bs i d) (undoubled (get_or bs i d == 39) (drop (i + 1) bs)))

  pub quote-at : (text : List ℕ) → get_or bs i d ≡ 39 → onto text (undoubled false (drop (i + 1) bs)) ≡ onto text (undoubled true (drop i bs))
  quote-at text is =
      sym (ap (λ xs. onto text (undoubled true xs)) here
      ∙ ap (λ b. onto text (if b then undoubled false (drop (i + 1) bs) else None)) (eq-eqb (get_or bs i d) 39 is))

-- ---- numbers

pub no-number-read : (E : Type 0) (word : List ℕ) (e : E) → ParsesSigned w64 10 word (Err e) → IsNumberOf word None
no-number-read E word e parses z fits h =
    absurd (let x : Err e ≡ Ok z = parse-signed_decimal w64 z word (Err e) fits fits.sfits (sym h) parses in cc)

pub fits-read : (E : Type 0) (word : List ℕ) (n : ℤ) → ParsesSigned {E = E} w64 10 word (Ok n) → FitsSigned w64 n
fits-read E word n parses = subst (FitsSigned w64) (sym parses.1) parses.0.1

pub no-number-written : (E : Type 0) (word : List ℕ) (n : ℤ) → ParsesSigned {E = E} w64 10 word (Ok n) → signed_decimal n ≢ word → IsNumberOf word None
no-number-written E word n parses other z fits h =
    let x : ◌≡◌ {A = Result ℤ E} (Ok n) (Ok z) = parse-signed_decimal w64 z word (Ok n) fits fits.sfits (sym h) parses in
    let same : n ≡ z = cc in
    other (ap signed_decimal same ∙ h)

-- ---- values

pub no-value : (word : List ℕ) → IsNumberOf word None → IsTextOf word None → IsValueOf word None
no-value word number text (Int z) fits h = number z fits h
no-value word number text (Text bytes) utf8 h = text bytes utf8 h
