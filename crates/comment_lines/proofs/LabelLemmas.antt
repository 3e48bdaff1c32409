-- Labels at the front of comments.
use Rattle.std.proofs.Common.{◌≡◌, refl, sym, ap, ◌∙◌, ℕ, Bool, true, false, cond, List, ◌++◌, length, take, drop, Some, None, Option, bytes_eq, take-append-drop}
use Rattle.std.specs.Str.Pattern.{LacksTextAt}
use Rattle.std.proofs.lemmas.List.{take_at}
use Rattle.std.proofs.lemmas.Slice.Eq.{bytes_eq-Decides}
use Rattle.comment_lines.specs.Blanks.{trimmed}

abbrev chosen : Bool → List ℕ → Option (List ℕ)
chosen is word = cond is (Some word) None

-- what stands behind a label at the front of a text
abbrev pub label_of : List ℕ → List ℕ → Option (List ℕ)
label_of label front = chosen (bytes_eq (take (length label) front) label) (trimmed (drop (length label) front))

pub label-found : (label front : List ℕ) (k : ℕ) (rest : List ℕ) → k ≡ length label → front ≡ label ++ drop k front → rest ≡ drop k front
    → ◌≡◌ {A = Option (List ℕ)} (Some (trimmed rest)) (label_of label front)
label-found label front k rest len begins is =
    let n = length label in
    let same : take n front ≡ label = ap (take n) begins ∙ take_at label (drop k front) n refl in
    let yes = (bytes_eq-Decides (take n front) label).1 same in
    ap (λ (r : List ℕ). Some (trimmed r)) (is ∙ ap (λ (m : ℕ). drop m front) len) ∙ sym (ap (λ (b : Bool). chosen b (trimmed (drop n front))) yes)

pub label-lacking : (label front : List ℕ) → LacksTextAt label front 0 → ◌≡◌ {A = Option (List ℕ)} None (label_of label front)
label-lacking label front lacks = by (bytes_eq (take (length label) front) label) refl
  where
    by : (b : Bool) → bytes_eq (take (length label) front) label ≡ b → ◌≡◌ {A = Option (List ℕ)} None (chosen b (trimmed (drop (length label) front)))
    by true e =
        let same = (bytes_eq-Decides (take (length label) front) label).0 e in
        absurd (lacks (drop (length label) front)
        (sym (take-append-drop (length label) front) ∙ ap (λ (xs : List ℕ). xs ++ drop (length label) front) same))
    by false e = refl
