-- No line separator stands in a string.
use Rattle.std.specs.Prelude.{◌≡◌, ◌≢◌, refl, ℕ, ◌<◌, ◌≤◌, ◌==◌, ◌&&◌, ◌||◌, nat_lt, Bool, true, false, if◌then◌else◌, List, [], ◌∷◌, ◌++◌, codes}
use Rattle.std.proofs.Common.{sym, ap, ◌∙◌, subst, arith, append-nil}
use Rattle.std.proofs.lemmas.Bool.{agree_below_at, or_parts}
use Rattle.std.proofs.lemmas.Bool.Decides.{nat_tests}
use Rattle.std.specs.List.{list_any}
use Rattle.json.specs.Print.{escape_byte}
use Rattle.json.proofs.Printed.Strings.{escape_byte_plain}
use Rattle.shown_values.specs.Strings.{byte_text, escaped, is_separator, separator_text, string_json}
use Rattle.shown_values.specs.Laws.{has_separator}
use Rattle.shown_values.proofs.Escaping.{byte-first, few-first}
use Rattle.shown_values.proofs.Markup.{no-markup}

-- the byte in front makes a separator of what the text begins with
abbrev makes : ℕ → List ℕ → Bool
makes a [] = false
makes a (b ∷ []) = false
makes a (b ∷ c ∷ rest) = is_separator a b c

cons-whole : (a : ℕ) (xs : List ℕ) → makes a xs ≡ false → has_separator xs ≡ false → has_separator (a ∷ xs) ≡ false
cons-whole a [] m w = refl
cons-whole a (b ∷ []) m w = refl
cons-whole a (b ∷ c ∷ rest) m w = λ i. m i || w i

not-first : (a : ℕ) → a ≢ 226 → (a == 226) ≡ false
not-first a ne = grind (arith, nat_tests)

makes-none : (a : ℕ) (xs : List ℕ) → (a == 226) ≡ false → makes a xs ≡ false
makes-none a [] ne = refl
makes-none a (b ∷ []) ne = refl
makes-none a (b ∷ c ∷ rest) ne = rw ne

-- a text without the byte that separators begin with, and what stands behind it
abbrev begins : ℕ → Bool
begins byte = byte == 226

plain-whole : (xs ys : List ℕ) → list_any begins xs ≡ false → has_separator ys ≡ false → has_separator (xs ++ ys) ≡ false
plain-whole [] ys none w = w
plain-whole (x ∷ xs) ys none w =
    let parts = or_parts (begins x) (list_any begins xs) none in
    cons-whole x (xs ++ ys) (makes-none x (xs ++ ys) parts.0) (plain-whole xs ys parts.1 w)

-- ---- the text of a byte

high-text : (byte : ℕ) → 93 ≤ byte → byte_text byte ≡ byte ∷ []
high-text byte high =
    let none = no-markup byte high in
    let plain : escape_byte byte ≡ byte ∷ [] = escape_byte_plain byte (omega arith) (omega arith) (omega arith) in
    rw none plain

low-none : (byte : ℕ) → byte < 93 → list_any begins (byte_text byte) ≡ false
unfolding escape_byte
low-none byte low = agree_below_at (λ b. list_any begins (byte_text b)) (λ b. false) 93 byte refl low

byte-none : (byte : ℕ) → (byte == 226) ≡ false → list_any begins (byte_text byte) ≡ false
byte-none byte ne = by (nat_lt byte 93) refl
  where
    by : (b : Bool) → nat_lt byte 93 ≡ b → list_any begins (byte_text byte) ≡ false
    by true e = low-none byte (grind (arith, nat_tests))
    by false e = ap (list_any begins) (high-text byte (grind (arith, nat_tests))) ∙ (λ i. ne i || false)

-- a text begins with a backslash or with this byte
abbrev starts : ℕ → List ℕ → Bool
starts byte [] = false
starts byte (h ∷ t) = (h == 92) || (h == byte)

starts-append : (byte : ℕ) (xs ys : List ℕ) → starts byte xs ≡ true → starts byte (xs ++ ys) ≡ true
starts-append byte [] ys s = cc
starts-append byte (x ∷ xs) ys s = s

low-starts : (byte : ℕ) → byte < 93 → starts byte (byte_text byte) ≡ true
unfolding escape_byte
low-starts byte low = agree_below_at (λ b. starts b (byte_text b)) (λ b. true) 93 byte refl low

same-byte : (byte : ℕ) → ((byte == 92) || (byte == byte)) ≡ true
same-byte byte = grind (arith, nat_tests)

byte-starts : (byte : ℕ) → starts byte (byte_text byte) ≡ true
byte-starts byte = by (nat_lt byte 93) refl
  where
    by : (b : Bool) → nat_lt byte 93 ≡ b → starts byte (byte_text byte) ≡ true
    by true e = low-starts byte (grind (arith, nat_tests))
    by false e = ap (starts byte) (high-text byte (grind (arith, nat_tests))) ∙ same-byte byte

choice-starts : (b : Bool) (byte : ℕ) (xs ys : List ℕ) → starts byte xs ≡ true → starts byte ys ≡ true → starts byte (if b then xs else ys) ≡ true
choice-starts true byte xs ys f g = f
choice-starts false byte xs ys f g = g

escaped-starts : (byte : ℕ) (rest : List ℕ) → starts byte (escaped (byte ∷ rest)) ≡ true
unfolding escaped
escaped-starts a [] = byte-starts a
escaped-starts a (b ∷ []) = starts-append a (byte_text a) (byte_text b) (byte-starts a)
escaped-starts a (b ∷ c ∷ rest) =
    choice-starts (is_separator a b c) a (separator_text c ++ escaped rest) (byte_text a ++ escaped (b ∷ c ∷ rest))
    (starts-append a (separator_text c) (escaped rest) (choice-starts (c == 168) a (codes "\\u2028") (codes "\\u2029") refl refl))
    (starts-append a (byte_text a) (escaped (b ∷ c ∷ rest)) (byte-starts a))

-- behind the first byte of a separator comes another one than its second, or behind that another one than its third
makes-first : (byte : ℕ) (text : List ℕ) → starts byte text ≡ true → (byte == 128) ≡ false → makes 226 text ≡ false
makes-first byte [] s ne = refl
makes-first byte (h ∷ []) s ne = refl
makes-first byte (h ∷ y ∷ t) s ne =
    let other : (h == 128) ≡ false = grind (arith, nat_tests) in
    rw other

makes-second : (byte : ℕ) (text : List ℕ) → starts byte text ≡ true → ((byte == 168) || (byte == 169)) ≡ false → makes 226 (128 ∷ text) ≡ false
makes-second byte [] s ne = refl
makes-second byte (h ∷ t) s ne =
    let other : ((h == 168) || (h == 169)) ≡ false = grind (arith, nat_tests) in
    other

-- a byte of a text that no separator begins with is put in front of the rest
plain-first : (a : ℕ) (rest : List ℕ) → (a == 226) ≡ false → escaped (a ∷ rest) ≡ byte_text a ++ escaped rest
plain-first a [] ne = few-first a [] (omega arith)
plain-first a (b ∷ []) ne = few-first a (b ∷ []) (omega arith)
plain-first a (b ∷ c ∷ rest) ne = byte-first a (b ∷ c ∷ rest) (omega arith) (rw ne)

-- what follows the first two bytes of a separator, and the first one
behind-two : (rest : List ℕ) → ((c : ℕ) (more : List ℕ) → rest ≡ c ∷ more → is_separator 226 128 c ≡ false) → makes 226 (128 ∷ escaped rest) ≡ false
unfolding escaped
behind-two [] none = refl
behind-two (c ∷ more) none = makes-second c (escaped (c ∷ more)) (escaped-starts c more) (none c more refl)

behind-one : (b : ℕ) (rest : List ℕ) → ((c : ℕ) (more : List ℕ) → rest ≡ c ∷ more → is_separator 226 b c ≡ false) → makes 226 (escaped (b ∷ rest)) ≡ false
behind-one b rest none = by (b == 128) refl
  where
    by : (t : Bool) → (b == 128) ≡ t → makes 226 (escaped (b ∷ rest)) ≡ false
    by true e =
        let is : b ≡ 128 = grind (arith, nat_tests) in
        let other : (b == 226) ≡ false = grind (arith, nat_tests) in
        let text : escaped (b ∷ rest) ≡ b ∷ escaped rest = plain-first b rest other ∙ ap (λ t. t ++ escaped rest) (high-text b (omega arith)) in
        let P : ℕ → Type 0 = λ n. ((c : ℕ) (more : List ℕ) → rest ≡ c ∷ more → is_separator 226 n c ≡ false) in
        ap (makes 226) (text ∙ ap (λ n. n ∷ escaped rest) is) ∙ behind-two rest (subst P is none)
    by false e = makes-first b (escaped (b ∷ rest)) (escaped-starts b rest) e

-- a byte, and what is whole behind it
byte-then : (a : ℕ) (ys : List ℕ) → (a ≡ 226 → makes 226 ys ≡ false) → has_separator ys ≡ false → has_separator (byte_text a ++ ys) ≡ false
byte-then a ys m w = by (a == 226) refl
  where
    by : (b : Bool) → (a == 226) ≡ b → has_separator (byte_text a ++ ys) ≡ false
    by true e =
        let is : a ≡ 226 = grind (arith, nat_tests) in
        let makes-it : makes a ys ≡ false = rw is (m is) in
        ap (λ t. has_separator (t ++ ys)) (high-text a (omega arith)) ∙ cons-whole a ys makes-it w
    by false e = plain-whole (byte_text a) ys (byte-none a e) w

choice-whole : (b : Bool) (xs ys : List ℕ) → has_separator xs ≡ false → (b ≡ false → has_separator ys ≡ false) → has_separator (if b then xs else ys) ≡ false
choice-whole true xs ys f g = f
choice-whole false xs ys f g = g refl

separator-none : (c : ℕ) → list_any begins (separator_text c) ≡ false
separator-none c = by (c == 168)
  where
    by : (b : Bool) → list_any begins (if b then codes "\\u2028" else codes "\\u2029") ≡ false
    by true = refl
    by false = refl

-- ---- strings

-- what is no separator is none, whatever its parts are called
third : (a b c : ℕ) (rest : List ℕ) → a ≡ 226 → is_separator a b c ≡ false → (d : ℕ) (more : List ℕ) → c ∷ rest ≡ d ∷ more
    → is_separator 226 b d ≡ false
third a b c rest e other d more is =
    let same : c ≡ d = cc in
    let P : ℕ → Type 0 = λ n. is_separator n b c ≡ false in
    let Q : ℕ → Type 0 = λ n. is_separator 226 b n ≡ false in
    subst Q same (subst P e other)

escaped-whole : (text : List ℕ) → has_separator (escaped text) ≡ false
unfolding escaped
escaped-whole [] = refl
escaped-whole (a ∷ []) = ap has_separator (sym (append-nil (byte_text a))) ∙ byte-then a [] (λ e. refl) refl
escaped-whole (a ∷ b ∷ []) = byte-then a (byte_text b) (λ e. behind-one b [] (λ c more no-more. cc)) (escaped-whole (b ∷ []))
escaped-whole (a ∷ b ∷ c ∷ rest) =
    choice-whole (is_separator a b c) (separator_text c ++ escaped rest) (byte_text a ++ escaped (b ∷ c ∷ rest))
    (plain-whole (separator_text c) (escaped rest) (separator-none c) (escaped-whole rest))
    (λ other. byte-then a (escaped (b ∷ c ∷ rest)) (λ e. behind-one b (c ∷ rest) (third a b c rest e other)) (escaped-whole (b ∷ c ∷ rest)))

never : (b : Bool) → ((b && false) || false) ≡ false
never true = refl
never false = refl

-- the closing quote begins no separator and goes on with none
append-quote : (xs : List ℕ) → has_separator xs ≡ false → has_separator (xs ++ codes "\"") ≡ false
append-quote [] w = refl
append-quote (a ∷ []) w = refl
append-quote (a ∷ b ∷ []) w = never ((a == 226) && (b == 128))
append-quote (a ∷ b ∷ c ∷ rest) w =
    let parts = or_parts (is_separator a b c) (has_separator (b ∷ c ∷ rest)) w in
    let later = append-quote (b ∷ c ∷ rest) parts.1 in
    λ i. parts.0 i || later i

pub string-whole : (text : List ℕ) → has_separator (string_json text) ≡ false
string-whole text = plain-whole (codes "\"") (escaped text ++ codes "\"") refl (append-quote (escaped text) (escaped-whole text))
