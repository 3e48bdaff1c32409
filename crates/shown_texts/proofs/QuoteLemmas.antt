-- Words with doubled quotes.
use Rattle.std.proofs.Common.{◌≡◌, ℕ, Bool, true, false, List, [], ◌∷◌, ◌++◌, take, drop, refl, ap}
use Rattle.std.proofs.Common.{one-add, flat_map}
use Rattle.std.specs.Prelude.{◌==◌}
use Rattle.std.specs.List.{prefix_len}
use Rattle.byte_runs.specs.declared.runs.Class.TheVariants as class
use Rattle.byte_runs.specs.Bytes.{in_class}
use Rattle.transcripts.specs.Text.{doubled}
use Rattle.shown_texts.specs.Words.{begins_quote}

-- a front without quotes, and what follows
front : (b : ℕ) (bs : List ℕ) (q : Bool) → (b == 39) ≡ q → flat_map doubled bs ≡ take (prefix_len (in_class class.SingleQuoted) bs) bs
    ++ flat_map doubled (drop (prefix_len (in_class class.SingleQuoted) bs) bs) → flat_map doubled (b ∷ bs)
    ≡ take (prefix_len (in_class class.SingleQuoted) (b ∷ bs)) (b ∷ bs)
    ++ flat_map doubled (drop (prefix_len (in_class class.SingleQuoted) (b ∷ bs)) (b ∷ bs))
front b bs true e h = rw (e, e) refl
front b bs false e h = rw (e, one-add) (ap (λ (l : List ℕ). b ∷ l) h)

pub doubled_front : (xs : List ℕ) → flat_map doubled xs ≡ take (prefix_len (in_class class.SingleQuoted) xs) xs
    ++ flat_map doubled (drop (prefix_len (in_class class.SingleQuoted) xs) xs)
doubled_front [] = refl
doubled_front (b ∷ bs) = front b bs (b == 39) refl (doubled_front bs)

-- what follows a front without quotes begins with one, or there is nothing
stops : (b : ℕ) (bs : List ℕ) (q : Bool) → (b == 39) ≡ q
    → (begins_quote (drop (prefix_len (in_class class.SingleQuoted) bs) bs) ≡ false → drop (prefix_len (in_class class.SingleQuoted) bs) bs ≡ [])
    → begins_quote (drop (prefix_len (in_class class.SingleQuoted) (b ∷ bs)) (b ∷ bs)) ≡ false
    → drop (prefix_len (in_class class.SingleQuoted) (b ∷ bs)) (b ∷ bs) ≡ []
stops b bs true e h = rw (e, e) (λ no. cc)
stops b bs false e h = rw (e, one-add) h

pub unquoted_stops : (xs : List ℕ) → begins_quote (drop (prefix_len (in_class class.SingleQuoted) xs) xs) ≡ false
    → drop (prefix_len (in_class class.SingleQuoted) xs) xs ≡ []
unquoted_stops [] = λ _. refl
unquoted_stops (b ∷ bs) = stops b bs (b == 39) refl (unquoted_stops bs)
