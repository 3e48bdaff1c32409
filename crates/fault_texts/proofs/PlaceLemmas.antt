-- One byte more in front of a place.
use Rattle.std.proofs.Common.{◌≡◌, sym, ap, subst, ◌∙◌, ℕ, suc, ◌+◌, ◌≤◌, List, [], ◌∷◌, ◌++◌, length, reverse, Bool, true, false, not, cond, arith}
use Rattle.std.proofs.lemmas.List.{reverse-append, length_push}
use Rattle.std.proofs.lemmas.List.Sums.{take_while-cons, prefix_len-le-length}
use Rattle.std.proofs.lemmas.List.Folds.{length-prefix_len}
use Rattle.std.specs.List.{prefix_len}
use Rattle.fault_texts.specs.Places.{is_line_end, count, first_line, last_line, front}
use Rattle.fault_texts.specs.declared.place.Front.{Front}

-- one that passes counts, and one that does not pass does not
count-yes : (test : ℕ → Bool) (bs : List ℕ) (b : ℕ) → test b ≡ true → count test (bs ++ b ∷ []) ≡ suc (count test bs)
count-yes test [] b is = ap (λ (t : Bool). cond t 1 0) is
count-yes test (a ∷ bs) b is =
    let e : count test (bs ++ b ∷ []) ≡ suc (count test bs) = count-yes test bs b is
    in elim (test a) as (λ t. cond t (suc (count test (bs ++ b ∷ []))) (count test (bs ++ b ∷ [])) ≡ suc (cond t (suc (count test bs)) (count test bs))) [
      | true ↦ ap (λ n. suc n) e
      | false ↦ e
    ]

count-no : (test : ℕ → Bool) (bs : List ℕ) (b : ℕ) → test b ≡ false → count test (bs ++ b ∷ []) ≡ count test bs
count-no test [] b is = ap (λ (t : Bool). cond t 1 0) is
count-no test (a ∷ bs) b is =
    let e : count test (bs ++ b ∷ []) ≡ count test bs = count-no test bs b is
    in elim (test a) as (λ t. cond t (suc (count test (bs ++ b ∷ []))) (count test (bs ++ b ∷ [])) ≡ cond t (suc (count test bs)) (count test bs)) [
      | true ↦ ap (λ n. suc n) e
      | false ↦ e
    ]

last-reversed : (bs : List ℕ) (b : ℕ) → last_line (bs ++ b ∷ []) ≡ reverse (cond (not (is_line_end b)) (b ∷ first_line (reverse bs)) [])
last-reversed bs b =
    ap (λ (ys : List ℕ). reverse (first_line ys)) (reverse-append bs (b ∷ []))
    ∙ ap (λ (ys : List ℕ). reverse ys) (take_while-cons (λ x. not (is_line_end x)) b (reverse bs))

last-ends : (bs : List ℕ) (b : ℕ) → is_line_end b ≡ true → last_line (bs ++ b ∷ []) ≡ []
last-ends bs b is = last-reversed bs b ∙ ap (λ (t : Bool). reverse (cond (not t) (b ∷ first_line (reverse bs)) [])) is

last-goes-on : (bs : List ℕ) (b : ℕ) → is_line_end b ≡ false → last_line (bs ++ b ∷ []) ≡ last_line bs ++ b ∷ []
last-goes-on bs b is =
    last-reversed bs b
    ∙ ap (λ (t : Bool). reverse (cond (not t) (b ∷ first_line (reverse bs)) [])) is
    ∙ reverse-append (b ∷ []) (first_line (reverse bs))

-- a record of equal numbers
told-by : (before : List ℕ) (line bytes : ℕ) → line ≡ count is_line_end before + 1 → bytes ≡ length (last_line before)
    → ◌≡◌ {A = Front} record { line = line; bytes = bytes } (front before)
told-by before line bytes l b = λ i. record { line = l i; bytes = b i }

-- the line ends, or it goes on
pub front-ends : (before : List ℕ) (f : Front) (b : ℕ) → is_line_end b ≡ true → f ≡ front before
    → ◌≡◌ {A = Front} record { line = f.line + 1; bytes = 0 } (front (before ++ b ∷ []))
front-ends before f b is e =
    let line : f.line ≡ count is_line_end before + 1 = ap (λ (g : Front). g.line) e in
    let lines : count is_line_end (before ++ b ∷ []) ≡ suc (count is_line_end before) = count-yes is_line_end before b is in
    let empty : [] ≡ last_line (before ++ b ∷ []) = sym (last-ends before b is) in
    told-by (before ++ b ∷ []) (f.line + 1) 0 (omega (arith, line, lines)) (ap (λ (bs : List ℕ). length bs) empty)

pub front-goes-on : (before : List ℕ) (f : Front) (b : ℕ) → is_line_end b ≡ false → f ≡ front before
    → ◌≡◌ {A = Front} record { line = f.line; bytes = f.bytes + 1 } (front (before ++ b ∷ []))
front-goes-on before f b is e =
    let line : f.line ≡ count is_line_end before + 1 = ap (λ (g : Front). g.line) e in
    let bytes : f.bytes ≡ length (last_line before) = ap (λ (g : Front). g.bytes) e in
    let lines : count is_line_end (before ++ b ∷ []) ≡ count is_line_end before = count-no is_line_end before b is in
    let line_is : last_line before ++ b ∷ [] ≡ last_line (before ++ b ∷ []) = sym (last-goes-on before b is) in
    let longer : length (last_line before ++ b ∷ []) ≡ length (last_line before) + 1 = length_push (last_line before) b in
    told-by (before ++ b ∷ []) f.line (f.bytes + 1) (omega (arith, line, lines))
    (subst (λ (bs : List ℕ). f.bytes + 1 ≡ length bs) line_is (omega (arith, bytes, longer)))

-- which byte it is
pub is-line-end : (b : ℕ) → b ≡ 10 → is_line_end b ≡ true
is-line-end b is = grind (arith, is)

pub no-line-end : (b : ℕ) → (b ≡ 10 → ⊥) → is_line_end b ≡ false
no-line-end b other = grind (arith, other)

-- a line is no longer than what it is the front of
pub line-length : (text : List ℕ) → prefix_len (λ b. not (is_line_end b)) text ≡ length (first_line text)
line-length text = sym (length-prefix_len (λ b. not (is_line_end b)) text)

pub line-within : (text : List ℕ) → length (first_line text) ≤ length text
line-within text = subst (λ n. n ≤ length text) (line-length text) (prefix_len-le-length (λ b. not (is_line_end b)) text)
