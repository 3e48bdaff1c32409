-- Where a text may be cut: in front of a run of a class, and behind it.
use Rattle.std.proofs.Common.{◌≡◌, ℕ, zero, suc, ◌<◌, ◌≤◌, Bool, true, false, inl, inr, lit<, get_or, IsUtf8, List, ◌∷◌, refl, subst, arith, add-one}
use Rattle.std.specs.Prelude.{not, ◌==◌, ◌||◌}
use Rattle.std.specs.List.{prefix_len}
use Rattle.std.specs.Char.{is_ascii_digit, is_ascii_alphabetic}
use Rattle.std.proofs.lemmas.List.Sums.{prefix_len-le-length, prefix_len_passes, prefix_len_stops}
use Rattle.std.proofs.lemmas.Bool.{cases_lt, le-leb}
use Rattle.std.proofs.lemmas.Str.{IsCharBoundary-start, IsCharBoundary-after_ascii}
use Rattle.std.specs.Str.{IsCharBoundary}
use Rattle.byte_runs.specs.declared.runs.Class.{Class}
use Rattle.byte_runs.specs.declared.runs.Class.TheVariants as class
use Rattle.byte_runs.specs.Bytes.{is_white, in_class}

pub or_true : (a : Bool) → (a || true) ≡ true
or_true true = refl
or_true false = refl

name_past_ascii : (b : ℕ) → 128 ≤ b → in_class class.Name b ≡ true
name_past_ascii b le = rw (le-leb 128 b le, or_true (is_ascii_alphabetic b || b == 95)) refl

past_name : (b : ℕ) → in_class class.Name b ≡ false → b < 128
past_name b e = elim (cases_lt b 128) [ inl lt ↦ lt | inr le ↦ let in_name = name_past_ascii b le in absurd cc ]

-- the byte behind a run is ASCII
pub behind_run : (P : ℕ → Bool) → ((b : ℕ) → P b ≡ false → b < 128) → (bs : List ℕ) → IsCharBoundary bs (prefix_len P bs)
behind_run P ascii bs = (
  prefix_len-le-length P bs,
  λ lt big. let here : get_or bs (prefix_len P bs) 0 < 128 = ascii _ (prefix_len_stops P bs 0 lt)
      in absurd (omega arith),
)

-- the last byte of a run is ASCII
pub within_run : (P : ℕ → Bool) → ((b : ℕ) → P b ≡ true → b < 128) → (bs : List ℕ) → IsUtf8 bs → (n : ℕ) → prefix_len P bs ≡ n → IsCharBoundary bs n
within_run P ascii bs utf8 zero e = IsCharBoundary-start bs utf8
within_run P ascii bs utf8 (suc n) e =
    subst (IsCharBoundary bs) (add-one n) (IsCharBoundary-after_ascii bs n utf8 (omega (arith, prefix_len-le-length P bs))
    (ascii _ (prefix_len_passes P bs n 0 (omega arith))))

pub not_is : (b c : ℕ) → c < 128 → not (b == c) ≡ false → b < 128
not_is b c lt e = grind arith

pub is : (b c : ℕ) → c < 128 → (b == c) ≡ true → b < 128
is b c lt e = grind arith

pub white_is_ascii : (b : ℕ) → is_white b ≡ true → b < 128
white_is_ascii b e = grind arith

pub word_is_ascii : (b : ℕ) → in_class class.Word b ≡ true → b < 128
word_is_ascii b e = grind arith

-- a run that begins is not empty
pub run_begins : (P : ℕ → Bool) (b : ℕ) (bs : List ℕ) → P b ≡ true → 0 < prefix_len P (b ∷ bs)
run_begins P b bs e = rw e (omega arith)

-- no run of a class ends within a character
pub run_boundary : (cl : Class) (bs : List ℕ) → IsUtf8 bs → IsCharBoundary bs (prefix_len (in_class cl) bs)
run_boundary class.Name bs utf8 = behind_run (in_class class.Name) past_name bs
run_boundary class.Word bs utf8 = within_run (in_class class.Word) word_is_ascii bs utf8 _ refl
run_boundary class.Digit bs utf8 = within_run is_ascii_digit (λ b e. grind arith) bs utf8 _ refl
run_boundary class.Comment bs utf8 = behind_run (in_class class.Comment) (λ b e. not_is b 10 (lit< tt) e) bs
run_boundary class.DoubleQuoted bs utf8 = behind_run (in_class class.DoubleQuoted) (λ b e. not_is b 34 (lit< tt) e) bs
run_boundary class.Block bs utf8 = behind_run (in_class class.Block) (λ b e. not_is b 125 (lit< tt) e) bs
run_boundary class.SingleQuoted bs utf8 = behind_run (in_class class.SingleQuoted) (λ b e. not_is b 39 (lit< tt) e) bs
