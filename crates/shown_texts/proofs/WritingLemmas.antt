-- Characters that are written in UTF-8.
use Rattle.std.proofs.Common.{◌≡◌, ℕ, ◌+◌, ◌<◌, List, [], ◌∷◌, ◌++◌, length, take, get_or, sym, ap, ◌∙◌, append_assoc, append-nil}
use Rattle.std.proofs.lemmas.List.{take_more}
use Rattle.std.proofs.lemmas.Str.{encodes-append}
use Rattle.std.specs.Prelude.{encode_utf8, encode_utf8_all}

-- one character more
pub characters-more : (line : List ℕ) (n c : ℕ) (old before after : List ℕ) → n < length line → c ≡ get_or line n c
    → before ≡ old ++ encode_utf8_all (take n line) → after ≡ before ++ encode_utf8 c
    → after ≡ old ++ encode_utf8_all (take (n + 1) line)
characters-more line n c old before after lt is so_far pushed =
    let one : take (n + 1) line ≡ take n line ++ c ∷ [] = take_more line n c lt ∙ ap (λ (x : ℕ). take n line ++ x ∷ []) (sym is) in
    pushed
    ∙ ap (λ (xs : List ℕ). xs ++ encode_utf8 c) so_far
    ∙ append_assoc old (encode_utf8_all (take n line)) (encode_utf8 c)
    ∙ ap (λ (xs : List ℕ). old ++ (encode_utf8_all (take n line) ++ xs)) (sym (append-nil (encode_utf8 c)))
    ∙ ap (λ (xs : List ℕ). old ++ xs) (sym (encodes-append (take n line) (c ∷ [])))
    ∙ ap (λ (xs : List ℕ). old ++ encode_utf8_all xs) (sym one)
