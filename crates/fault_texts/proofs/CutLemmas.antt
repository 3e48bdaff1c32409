-- One byte more of the first characters of a text, and where they end.
use Rattle.std.proofs.Common.{◌≡◌, ap, ◌∙◌, ℕ, suc, ◌+◌, ◌<◌, ◌≤◌, List, ◌∷◌, length, drop, get_or, Bool, true, false, cond, arith, drop-cons, add-one}
use Rattle.std.proofs.lemmas.List.{drop_all}
use Rattle.std.specs.Str.{IsCharBoundary}
use Rattle.fault_texts.specs.Cutting.{is_start, ends, left_behind, bytes_of}

bytes-step : (left b : ℕ) (bs : List ℕ) → ends left b ≡ false → bytes_of left (b ∷ bs) ≡ suc (bytes_of (left_behind left b) bs)
bytes-step left b bs e = ap (λ (t : Bool). cond t 0 (suc (bytes_of (left_behind left b) bs))) e

bytes-stop : (left b : ℕ) (bs : List ℕ) → ends left b ≡ true → bytes_of left (b ∷ bs) ≡ 0
bytes-stop left b bs e = ap (λ (t : Bool). cond t 0 (suc (bytes_of (left_behind left b) bs))) e

-- a byte that belongs to them
pub bytes-next : (n left total : ℕ) (text : List ℕ) → n < length text → ends left (get_or text n 0) ≡ false
    → n + bytes_of left (drop n text) ≡ total → (n + 1) + bytes_of (left_behind left (get_or text n 0)) (drop (n + 1) text) ≡ total
bytes-next n left total text h e so_far =
    let b = get_or text n 0 in
    let here : bytes_of left (drop n text) ≡ suc (bytes_of (left_behind left b) (drop (suc n) text)) =
    ap (bytes_of left) (drop-cons text n 0 h) ∙ bytes-step left b (drop (suc n) text) e in
    let same : bytes_of (left_behind left b) (drop (n + 1) text) ≡ bytes_of (left_behind left b) (drop (suc n) text) =
    ap (λ k. bytes_of (left_behind left b) (drop k text)) (add-one n) in
    omega (arith, here, same, so_far)

-- a byte that does not
pub bytes-ended : (n left total : ℕ) (text : List ℕ) → n < length text → ends left (get_or text n 0) ≡ true
    → n + bytes_of left (drop n text) ≡ total → n ≡ total
bytes-ended n left total text h e so_far =
    let here : bytes_of left (drop n text) ≡ 0 =
    ap (bytes_of left) (drop-cons text n 0 h) ∙ bytes-stop left (get_or text n 0) (drop (suc n) text) e in
    omega (arith, here, so_far)

-- no byte is left
pub bytes-all : (n left total : ℕ) (text : List ℕ) → length text ≤ n → n ≤ length text → n + bytes_of left (drop n text) ≡ total → length text ≡ total
bytes-all n left total text past within so_far =
    let here : bytes_of left (drop n text) ≡ 0 = ap (bytes_of left) (drop_all n text past) in
    omega (arith, here, so_far, past, within)

starts : (b : ℕ) → is_start b ≡ true → 128 ≤ b → 192 ≤ b
starts b e big = grind (arith, e, big)

start-of : (left b : ℕ) → ends left b ≡ true → is_start b ≡ true
start-of left b e = grind (arith, e)

-- a text may be cut in front of a character
pub boundary-before : (n left : ℕ) (text : List ℕ) → n < length text → ends left (get_or text n 0) ≡ true → IsCharBoundary text n
boundary-before n left text h e = (omega (arith, h), λ lt big. starts (get_or text n 0) (start-of left (get_or text n 0) e) big)
