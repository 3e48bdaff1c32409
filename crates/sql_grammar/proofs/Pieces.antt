-- One piece of a text after another.
use Rattle.std.proofs.Common.{◌≡◌, ℕ, zero, suc, ◌+◌, ◌-◌, ◌<◌, ◌≤◌, Bool, true, false, cond, get_or, IsUtf8, List, [], ◌∷◌, ◌++◌, length, drop, refl, sym, ap}
use Rattle.std.proofs.Common.{◌∙◌, append_assoc, arith, add-one, Option, Some, None, option_map, drop-cons, ◌*◌, ◌^◌, min}
use Rattle.std.specs.Prelude.{not, ◌==◌, ◌&&◌, ⊤}
use Rattle.std.specs.Char.{is_ascii_digit}
use Rattle.std.proofs.lemmas.Bool.{eqb-true}
use Rattle.std.proofs.lemmas.Str.{IsCharBoundary-after_ascii}
use Rattle.byte_runs.specs.declared.runs.Class.TheVariants as class
use Rattle.byte_runs.proofs.RunLemmas.{white_is_ascii, run_begins, run_boundary}
use Rattle.sql_grammar.specs.Tokens.{Placed}
use Rattle.byte_runs.specs.Pieces.{CutsAt, FitsIn}
use Rattle.byte_runs.proofs.PieceLemmas.{cond_fits, one_fits}
use Rattle.byte_runs.specs.Bytes.{is_white, begins_word, in_class}
use Rattle.sql_grammar.specs.Lexing.{begins_comment, is_sign, is_pair, sign_of, value_of, with_byte, with_quote, quoted, text_piece, Piece, piece_of}

-- ---- a text in quotes

-- what a text takes is a part of the bytes that ends in a quote
abbrev EndsInQuote : Bool → List ℕ → Option (List ℕ × ℕ) → Type 0
EndsInQuote after bs None = ⊤
EndsInQuote after bs (Some x) = (x.1 ≤ length bs) × ((k : ℕ) → x.1 ≡ suc k → get_or bs k 0 ≡ 39) × (after ≡ false → 0 < x.1)

last_byte : (b : ℕ) (bs : List ℕ) (n : ℕ) → (n ≡ 0 → b ≡ 39) → ((k : ℕ) → n ≡ suc k → get_or bs k 0 ≡ 39) → (k : ℕ) → n + 1 ≡ suc k → get_or (b ∷ bs) k 0 ≡ 39
last_byte b bs n here more zero e = here (omega arith)
last_byte b bs n here more (suc k) e = more k (omega arith)

quote_more : (b : ℕ) (bs : List ℕ) (o : Option (List ℕ × ℕ)) → b ≡ 39 → EndsInQuote true bs o → EndsInQuote false (b ∷ bs) (with_quote o)
quote_more b bs None e h = tt
quote_more b bs (Some x) e h = (omega (arith, h.0), last_byte b bs x.1 (λ z. e) h.1, λ f. omega arith)

byte_more : (after : Bool) (b : ℕ) (bs : List ℕ) (o : Option (List ℕ × ℕ)) → EndsInQuote false bs o → EndsInQuote after (b ∷ bs) (with_byte b o)
byte_more after b bs None h = tt
byte_more after b bs (Some x) h = let some : 0 < x.1 = h.2 refl in (omega (arith, h.0), last_byte b bs x.1 (λ z. absurd (omega arith)) h.1, λ f. omega arith)

outside : (b : ℕ) (bs : List ℕ) (c : Bool) → (c ≡ true → b ≡ 39) → EndsInQuote true bs (quoted true bs) → EndsInQuote false bs (quoted false bs)
    → EndsInQuote false (b ∷ bs) (elim c [ true ↦ with_quote (quoted true bs) | false ↦ with_byte b (quoted false bs) ])
outside b bs true e h k = quote_more b bs (quoted true bs) (e refl) h
outside b bs false e h k = byte_more false b bs (quoted false bs) k

doubled : (b : ℕ) (bs : List ℕ) (c : Bool) → EndsInQuote false bs (quoted false bs)
    → EndsInQuote true (b ∷ bs) (elim c [ true ↦ with_byte b (quoted false bs) | false ↦ Some ([], 0) ])
doubled b bs true h = byte_more true b bs (quoted false bs) h
doubled b bs false h = (omega arith, λ k e. absurd (omega arith), λ e. absurd cc)

ends_in_quote : (after : Bool) (bs : List ℕ) → EndsInQuote after bs (quoted after bs)
ends_in_quote false [] = tt
ends_in_quote true [] = (omega arith, λ k e. absurd (omega arith), λ e. absurd cc)
ends_in_quote false (b ∷ bs) = outside b bs (b == 39) (eqb-true b 39) (ends_in_quote true bs) (ends_in_quote false bs)
ends_in_quote true (b ∷ bs) = doubled b bs (b == 39) (ends_in_quote false bs)

-- ---- a piece is a part of the text

-- so many bytes, of which the last one is ASCII
up_to : (bs : List ℕ) (n : ℕ) → IsUtf8 bs → n < length bs → get_or bs n 0 < 128 → CutsAt bs (n + 1)
up_to bs n utf8 h lt = record { some = omega arith; at_char = IsCharBoundary-after_ascii bs n utf8 h lt }

two : (b c : ℕ) (bs : List ℕ) → IsUtf8 (b ∷ c ∷ bs) → c < 128 → CutsAt (b ∷ c ∷ bs) 2
two b c bs utf8 lt = up_to (b ∷ c ∷ bs) 1 utf8 (omega arith) lt

behind_quote : (b : ℕ) (bs : List ℕ) (n : ℕ) → IsUtf8 (b ∷ bs) → n ≤ length bs → ((k : ℕ) → n ≡ suc k → get_or bs k 0 ≡ 39) → 0 < n → CutsAt (b ∷ bs) (n + 1)
behind_quote b bs zero utf8 h e lt = absurd (omega arith)
behind_quote b bs (suc k) utf8 h e lt = let last : get_or bs k 0 ≡ 39 = e k refl in up_to (b ∷ bs) (suc k) utf8 (omega arith) (omega arith)

text_fits : (b : ℕ) (bs : List ℕ) (o : Option (List ℕ × ℕ)) → IsUtf8 (b ∷ bs) → EndsInQuote false bs o → FitsIn (b ∷ bs) (text_piece o)
text_fits b bs None utf8 h = tt
text_fits b bs (Some x) utf8 h = behind_quote b bs x.1 utf8 h.0 h.1 (h.2 refl)

pub sign_is_ascii : (b : ℕ) → is_sign b ≡ true → b < 128
sign_is_ascii b e = grind arith

pub pair_is_ascii : (b c : ℕ) → is_pair b c ≡ true → c < 128
pair_is_ascii b c e = grind arith

pub ruleset signs_are_ascii = (sign_is_ascii, pair_is_ascii)

sign_fits : (b : ℕ) (bs : List ℕ) → IsUtf8 (b ∷ bs) → FitsIn (b ∷ bs) (sign_of b bs)
sign_fits b [] utf8 = cond_fits (b ∷ []) (is_sign b) _ _ (λ e. one_fits b [] utf8 (sign_is_ascii b e)) tt
sign_fits b (c ∷ bs) utf8 =
    cond_fits (b ∷ c ∷ bs) (is_pair b c) _ _ (λ e. two b c bs utf8 (pair_is_ascii b c e))
    (cond_fits (b ∷ c ∷ bs) (is_sign b) _ _ (λ e. one_fits b (c ∷ bs) utf8 (sign_is_ascii b e)) tt)

word_begins : (b : ℕ) → begins_word b ≡ true → in_class class.Word b ≡ true
word_begins b e = rw e refl

comment_begins : (b : ℕ) (bs : List ℕ) → begins_comment (b ∷ bs) ≡ true → in_class class.Comment b ≡ true
comment_begins b [] e = cc
comment_begins b (c ∷ bs) e = grind arith

pub piece_fits : (b : ℕ) (bs : List ℕ) → IsUtf8 (b ∷ bs) → FitsIn (b ∷ bs) (piece_of (b ∷ bs))
unfolding piece_of
piece_fits b bs utf8 =
    cond_fits (b ∷ bs) (is_white b) _ _ (λ e. one_fits b bs utf8 (white_is_ascii b e))
    (cond_fits (b ∷ bs) (begins_comment (b ∷ bs)) _ _ (λ e. record {
      some = run_begins (in_class class.Comment) b bs (comment_begins b bs e);
      at_char = run_boundary class.Comment (b ∷ bs) utf8;
    })
    (cond_fits (b ∷ bs) (begins_word b) _ _ (λ e. record {
      some = run_begins (in_class class.Word) b bs (word_begins b e);
      at_char = run_boundary class.Word (b ∷ bs) utf8;
    })
    (cond_fits (b ∷ bs) (is_ascii_digit b) _ _ (λ e. record { some = run_begins is_ascii_digit b bs e; at_char = run_boundary class.Digit (b ∷ bs) utf8 })
    (cond_fits (b ∷ bs) (b == 39) _ _ (λ e. text_fits b bs (quoted false bs) utf8 (ends_in_quote false bs))
    (sign_fits b bs utf8)))))

pub fits : (bs : List ℕ) → IsUtf8 bs → FitsIn bs (piece_of bs)
unfolding piece_of
fits [] utf8 = tt
fits (b ∷ bs) utf8 = piece_fits b bs utf8

-- ---- how long a text is, byte by byte

abbrev pub len_of : Option (List ℕ × ℕ) → Option ℕ
len_of o = option_map (λ (x : List ℕ × ℕ). x.1) o

abbrev pub len_after : ℕ → Bool → List ℕ → Option ℕ
len_after n after bs = option_map (λ (m : ℕ). n + m) (len_of (quoted after bs))

one_more : (n m : ℕ) → ◌≡◌ {A = Option ℕ} (Some (n + (m + 1))) (Some (n + 1 + m))
one_more n m = let e : n + (m + 1) ≡ n + 1 + m = omega arith in ap (λ (k : ℕ). Some k) e

quote_len : (n : ℕ) (o : Option (List ℕ × ℕ)) → option_map (λ (m : ℕ). n + m) (len_of (with_quote o)) ≡ option_map (λ (m : ℕ). n + 1 + m) (len_of o)
quote_len n None = refl
quote_len n (Some x) = one_more n x.1

byte_len : (n b : ℕ) (o : Option (List ℕ × ℕ)) → option_map (λ (m : ℕ). n + m) (len_of (with_byte b o)) ≡ option_map (λ (m : ℕ). n + 1 + m) (len_of o)
byte_len n b None = refl
byte_len n b (Some x) = one_more n x.1

outside_len : (n b : ℕ) (bs : List ℕ) (c : Bool)
    → option_map (λ (m : ℕ). n + m) (len_of (elim c [ true ↦ with_quote (quoted true bs) | false ↦ with_byte b (quoted false bs) ]))
    ≡ len_after (n + 1) (c && true) bs
outside_len n b bs true = quote_len n (quoted true bs)
outside_len n b bs false = byte_len n b (quoted false bs)

doubled_len : (n b : ℕ) (bs : List ℕ) (c : Bool) → not c ≡ false
    → option_map (λ (m : ℕ). n + m) (len_of (elim c [ true ↦ with_byte b (quoted false bs) | false ↦ Some ([], 0) ])) ≡ len_after (n + 1) (c && false) bs
doubled_len n b bs true e = byte_len n b (quoted false bs)
doubled_len n b bs false e = absurd cc

-- the byte goes on with the text
pub len-step : (n : ℕ) (after : Bool) (b : ℕ) (bs : List ℕ) → (after && not (b == 39)) ≡ false → len_after n after (b ∷ bs)
    ≡ len_after (n + 1) ((b == 39) && not after) bs
len-step n false b bs e = outside_len n b bs (b == 39)
len-step n true b bs e = doubled_len n b bs (b == 39) e

stop_len : (n b : ℕ) (bs : List ℕ) (c : Bool) → c ≡ false
    → option_map (λ (m : ℕ). n + m) (len_of (elim c [ true ↦ with_byte b (quoted false bs) | false ↦ Some ([], 0) ])) ≡ Some n
stop_len n b bs true e = absurd cc
stop_len n b bs false e = let none : n + 0 ≡ n = omega arith in ap (λ (k : ℕ). Some k) none

-- or it stands behind it
pub len-stop : (n b : ℕ) (bs : List ℕ) → (b == 39) ≡ false → len_after n true (b ∷ bs) ≡ Some n
len-stop n b bs e = stop_len n b bs (b == 39) e

-- a loop over the bytes: what is left of a text is as long as before, less one
pub len-goes_on : (n : ℕ) (after after' : Bool) (bs : List ℕ) (whole : Option ℕ) → n < length bs → (after && not (get_or bs n 0 == 39)) ≡ false → after'
    ≡ ((get_or bs n 0 == 39) && not after)
    → len_after n after (drop n bs) ≡ whole → len_after (n + 1) after' (drop (n + 1) bs) ≡ whole
len-goes_on n after after' bs whole h e f so_far =
    (λ i. len_after (n + 1) (f i) (drop (add-one n i) bs))
    ∙ sym (len-step n after (get_or bs n 0) (drop (suc n) bs) e)
    ∙ sym (ap (len_after n after) (drop-cons bs n 0 h))
    ∙ so_far

pub ruleset len_steps = (len-step, len-stop)
