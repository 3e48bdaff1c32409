-- Pieces of a text, one behind the other.
use Rattle.std.proofs.Common.{◌≡◌, refl, sym, ap, ◌∙◌, subst, ℕ, zero, suc, ◌+◌, ◌-◌, ◌<◌, ◌≤◌, arith, List, [], ◌∷◌, ◌++◌, take, drop, length, map, get_or}
use Rattle.std.specs.Prelude.{All}
use Rattle.std.proofs.lemmas.List.{drop-append-le, length-append, length-drop, length-map, take-append-le, take_all}
use Rattle.std.proofs.Math.Seq.{drop-append_seam}
use Rattle.std.proofs.lemmas.List.Elements.{All-get_or, All-nil, All-push}
use Rattle.compact_outcomes.specs.Told.{told_in, IsCompactOutcome}
use Rattle.compact_outcomes.specs.Pieces.{pieces_from, AreEnds, start_at, told_pieces, AreCompactOutcomes}

-- a start is inside the text
pub start-inside : (start : ℕ) (ends text : List ℕ) → AreEnds start ends text → start ≤ length text
unfolding AreEnds
start-inside start [] text h = omega (arith, h)
start-inside start (end ∷ ends) text h =
    let rest = start-inside end ends text h.1 in
    let low = h.0 in
    omega arith

-- there is one piece for each end
pieces-length : (start : ℕ) (ends text : List ℕ) → length (pieces_from start ends text) ≡ length ends
unfolding pieces_from
pieces-length start [] text = refl
pieces-length start (end ∷ ends) text = ap suc (pieces-length end ends text)

pub told-length : (text ends : List ℕ) → length (told_pieces text ends) ≡ length ends
told-length text ends = length-map (pieces_from 0 ends text) told_in ∙ pieces-length 0 ends text

-- where a piece starts: where the one before it ends
pub start-first : (ends : List ℕ) → start_at 0 ends 0 ≡ 0
unfolding start_at
start-first [] = refl
start-first (end ∷ ends) = refl

pub start-next : (start : ℕ) (ends : List ℕ) (place d : ℕ) → place + 1 < length ends → start_at start ends (place + 1) ≡ get_or ends place d
unfolding start_at
start-next start [] place d lt = absurd (omega arith)
start-next start (end ∷ []) place d lt = absurd (omega arith)
start-next start (end ∷ more ∷ ends) zero d lt = refl
start-next start (end ∷ more ∷ ends) (suc place) d lt =
    let step : suc place + 1 ≡ suc (place + 1) = omega arith in
    rw step (start-next end (more ∷ ends) place d (omega arith))

-- a piece lies in the text
pub piece-inside : (start : ℕ) (ends text : List ℕ) (place : ℕ) → AreEnds start ends text → place < length ends
    → (start_at start ends place ≤ get_or ends place 0) × (get_or ends place 0 ≤ length text)
unfolding AreEnds start_at
piece-inside start [] text place h lt = absurd (omega arith)
piece-inside start (end ∷ ends) text zero h lt = (h.0, start-inside end ends text h.1)
piece-inside start (end ∷ ends) text (suc place) h lt = piece-inside end ends text place h.1 (omega arith)

-- the piece at a place
pieces-at : (start : ℕ) (ends text : List ℕ) (place : ℕ) → place < length ends
    → get_or (pieces_from start ends text) place [] ≡ take (get_or ends place 0 - start_at start ends place) (drop (start_at start ends place) text)
unfolding pieces_from start_at
pieces-at start [] text place lt = absurd (omega arith)
pieces-at start (end ∷ ends) text zero lt = refl
pieces-at start (end ∷ ends) text (suc place) lt = pieces-at end ends text place (omega arith)

get-map : (pieces : List (List ℕ)) (place : ℕ) → place < length pieces → get_or (map told_in pieces) place [] ≡ told_in (get_or pieces place [])
get-map [] place lt = absurd (omega arith)
get-map (piece ∷ pieces) zero lt = refl
get-map (piece ∷ pieces) (suc place) lt = get-map pieces place (omega arith)

pub told-at : (text ends : List ℕ) (place : ℕ) → place < length ends
    → get_or (told_pieces text ends) place [] ≡ told_in (take (get_or ends place 0 - start_at 0 ends place) (drop (start_at 0 ends place) text))
told-at text ends place lt =
    let inside : place < length (pieces_from 0 ends text) = subst (λ n. place < n) (sym (pieces-length 0 ends text)) lt in
    get-map (pieces_from 0 ends text) place inside ∙ ap told_in (pieces-at 0 ends text place lt)

all-at : (pieces : List (List ℕ)) (place : ℕ) → All IsCompactOutcome pieces → place < length pieces → IsCompactOutcome (get_or pieces place [])
all-at pieces place all lt = All-get_or IsCompactOutcome pieces place [] lt all

pub is-at : (text ends : List ℕ) (place : ℕ) → AreCompactOutcomes text ends → place < length ends
    → IsCompactOutcome (take (get_or ends place 0 - start_at 0 ends place) (drop (start_at 0 ends place) text))
is-at text ends place are lt =
    let inside : place < length (pieces_from 0 ends text) = subst (λ n. place < n) (sym (pieces-length 0 ends text)) lt in
    subst IsCompactOutcome (pieces-at 0 ends text place lt) (all-at (pieces_from 0 ends text) place are.each inside)

-- one piece more
pieces-push : (start : ℕ) (ends text more : List ℕ) → AreEnds start ends text
    → pieces_from start (ends ++ length (text ++ more) ∷ []) (text ++ more) ≡ pieces_from start ends text ++ more ∷ []
unfolding pieces_from AreEnds
pieces-push start [] text more h =
    let size = length-append text more in
    let seam : drop start (text ++ more) ≡ more = ap (λ n. drop n (text ++ more)) h ∙ drop-append_seam text more in
    let all : length more ≤ length (text ++ more) - start = omega (arith, h, size) in
    rw (seam, take_all (length (text ++ more) - start) more all) refl
pieces-push start (end ∷ ends) text more h =
    let up = start-inside end ends text h.1 in
    let low = h.0 in
    let at : start ≤ length text = omega arith in
    let size = length-drop start text in
    let fits : end - start ≤ length (drop start text) = omega arith in
    let first : take (end - start) (drop start (text ++ more)) ≡ take (end - start) (drop start text) =
    rw (drop-append-le start text more at) (take-append-le (end - start) (drop start text) more fits) in
    rw (first, pieces-push end ends text more h.1) refl

ends-push : (start : ℕ) (ends text more : List ℕ) → AreEnds start ends text → AreEnds start (ends ++ length (text ++ more) ∷ []) (text ++ more)
unfolding AreEnds
ends-push start [] text more h = (let size = length-append text more in omega (arith, h, size), refl)
ends-push start (end ∷ ends) text more h = (h.0, ends-push end ends text more h.1)

all-push : (pieces : List (List ℕ)) (more : List ℕ) → All IsCompactOutcome pieces → IsCompactOutcome more → All IsCompactOutcome (pieces ++ more ∷ [])
all-push pieces more all is = All-push IsCompactOutcome pieces more all is

map-push : (pieces : List (List ℕ)) (more : List ℕ) → map told_in (pieces ++ more ∷ []) ≡ map told_in pieces ++ told_in more ∷ []
map-push [] more = refl
map-push (piece ∷ pieces) more = ap (λ os. told_in piece ∷ os) (map-push pieces more)

pub are-more : (text ends more : List ℕ) → AreCompactOutcomes text ends → IsCompactOutcome more
    → AreCompactOutcomes (text ++ more) (ends ++ length (text ++ more) ∷ [])
are-more text ends more are is = record {
  ends_are = ends-push 0 ends text more are.ends_are;
  each = subst (All IsCompactOutcome) (sym (pieces-push 0 ends text more are.ends_are)) (all-push _ more are.each is);
}

pub told-more : (text ends more : List ℕ) → AreCompactOutcomes text ends
    → told_pieces (text ++ more) (ends ++ length (text ++ more) ∷ []) ≡ told_pieces text ends ++ told_in more ∷ []
told-more text ends more are =
    ap (map told_in) (pieces-push 0 ends text more are.ends_are) ∙ map-push (pieces_from 0 ends text) more

-- none at all
pub are-none : (text ends : List ℕ) → text ≡ [] → ends ≡ [] → AreCompactOutcomes text ends
unfolding pieces_from AreEnds
are-none [] [] h k = record { ends_are = refl; each = All-nil IsCompactOutcome }
are-none (x ∷ xs) ends h k = cc h
are-none [] (e ∷ es) h k = cc k

pub told-none : (text ends : List ℕ) → ends ≡ [] → told_pieces text ends ≡ []
unfolding pieces_from
told-none text [] h = refl
told-none text (e ∷ es) h = cc h
