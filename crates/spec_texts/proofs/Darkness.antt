-- White space in tokens, which stands as blanks.
use Rattle.std.proofs.Common.{◌≡◌, ℕ, ◌<◌, Bool, true, false, List, [], ◌∷◌, ◌++◌, map, take, drop, refl, ap, arith, one-add}
use Rattle.std.specs.List.{prefix_len}
use Rattle.std.specs.Str.{IsCharBoundary}
use Rattle.byte_runs.specs.Bytes.{is_white}
use Rattle.byte_runs.proofs.RunLemmas.{behind_run}
use Rattle.spec_texts.specs.OneLine.{begins_white, is_dark, shown}

white_is_ascii : (b : ℕ) → is_dark b ≡ false → b < 128
white_is_ascii b e = grind arith

-- no run without white space ends within a character
pub dark-boundary : (bs : List ℕ) → IsCharBoundary bs (prefix_len is_dark bs)
dark-boundary bs = behind_run is_dark white_is_ascii bs

front : (b : ℕ) (bs : List ℕ) (q : Bool) → is_white b ≡ q
    → map shown bs ≡ take (prefix_len is_dark bs) bs ++ map shown (drop (prefix_len is_dark bs) bs)
    → map shown (b ∷ bs) ≡ take (prefix_len is_dark (b ∷ bs)) (b ∷ bs) ++ map shown (drop (prefix_len is_dark (b ∷ bs)) (b ∷ bs))
front b bs true e h = rw (e, e) refl
front b bs false e h = rw (e, one-add) (ap (λ (l : List ℕ). b ∷ l) h)

-- a front without white space, which stands as it is, and what follows
pub shown-front : (bs : List ℕ) → map shown bs ≡ take (prefix_len is_dark bs) bs ++ map shown (drop (prefix_len is_dark bs) bs)
shown-front [] = refl
shown-front (b ∷ bs) = front b bs (is_white b) refl (shown-front bs)

stops : (b : ℕ) (bs : List ℕ) (q : Bool) → is_white b ≡ q
    → (begins_white (drop (prefix_len is_dark bs) bs) ≡ false → drop (prefix_len is_dark bs) bs ≡ [])
    → begins_white (drop (prefix_len is_dark (b ∷ bs)) (b ∷ bs)) ≡ false → drop (prefix_len is_dark (b ∷ bs)) (b ∷ bs) ≡ []
stops b bs true e h = rw (e, e) (λ f. absurd cc)
stops b bs false e h = rw (e, one-add) h

-- white space stops it, or the end
pub white-stops : (bs : List ℕ) → begins_white (drop (prefix_len is_dark bs) bs) ≡ false → drop (prefix_len is_dark bs) bs ≡ []
white-stops [] = λ e. refl
white-stops (b ∷ bs) = stops b bs (is_white b) refl (white-stops bs)
