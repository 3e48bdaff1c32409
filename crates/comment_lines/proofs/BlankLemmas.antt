-- Where a text may be cut beside blanks.
use Rattle.std.proofs.Common.{◌≡◌, refl, ap, ◌∙◌, subst, ℕ, zero, suc, ◌+◌, ◌-◌, ◌<◌, ◌≤◌, Bool, true, false, cond, IsUtf8, List, [], ◌∷◌}
use Rattle.std.proofs.Common.{◌++◌, length, take, get_or, arith, add-one}
use Rattle.std.specs.Prelude.{reverse}
use Rattle.std.specs.List.{prefix_len, suffix_len}
use Rattle.std.specs.Str.{IsCharBoundary}
use Rattle.std.proofs.lemmas.Bool.{and_from, and_parts}
use Rattle.std.proofs.lemmas.List.{length-reverse, get_or-reverse}
use Rattle.std.proofs.lemmas.List.Sums.{prefix_len-le-length, prefix_len_passes}
use Rattle.std.proofs.lemmas.Str.{IsCharBoundary-start, IsCharBoundary-end, IsCharBoundary-after_ascii, IsCharBoundary-before_ascii}
use Rattle.comment_lines.specs.Blanks.{is_blank}

blank_is_ascii : (b : ℕ) → is_blank b ≡ true → b < 128
blank_is_ascii b e = grind arith

-- behind a run of ASCII
pub run-boundary : (p : ℕ → Bool) → ((b : ℕ) → p b ≡ true → b < 128) → (bs : List ℕ) → IsUtf8 bs → (n : ℕ) → n ≡ prefix_len p bs → IsCharBoundary bs n
run-boundary p ascii bs utf8 zero e = IsCharBoundary-start bs utf8
run-boundary p ascii bs utf8 (suc n) e =
    subst (IsCharBoundary bs) (add-one n) (IsCharBoundary-after_ascii bs n utf8 (omega (arith, prefix_len-le-length p bs))
    (ascii _ (prefix_len_passes p bs n 0 (omega arith))))

-- behind the blanks in front
pub front-boundary : (bs : List ℕ) → IsUtf8 bs → (n : ℕ) → n ≡ prefix_len is_blank bs → IsCharBoundary bs n
front-boundary bs utf8 n e = run-boundary is_blank blank_is_ascii bs utf8 n e

pub suffix_len-le-length : (bs : List ℕ) → suffix_len is_blank bs ≤ length bs
suffix_len-le-length bs = omega (arith, prefix_len-le-length is_blank (reverse bs), length-reverse bs)

-- before those at the end
pub end-boundary : (bs : List ℕ) (n : ℕ) → n ≡ suffix_len is_blank bs → IsCharBoundary bs (length bs - n)
end-boundary bs zero e = subst (IsCharBoundary bs) (omega arith) (IsCharBoundary-end bs)
end-boundary bs (suc n) e =
    let le = suffix_len-le-length bs in
    let blank : is_blank (get_or (reverse bs) n 0) ≡ true = prefix_len_passes is_blank (reverse bs) n 0 (omega arith) in
    let same : get_or (reverse bs) n 0 ≡ get_or bs (length bs - suc n) 0 =
    get_or-reverse bs n 0 (omega arith) ∙ ap (λ (k : ℕ). get_or bs k 0) (omega arith) in
    let ascii : get_or bs (length bs - suc n) 0 < 128 = subst (λ (b : ℕ). b < 128) same (blank_is_ascii _ blank) in
    IsCharBoundary-before_ascii bs (length bs - suc n) (omega arith) ascii
