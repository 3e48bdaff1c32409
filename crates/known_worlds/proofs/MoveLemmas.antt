-- Moves one behind the other.
use Rattle.std.proofs.Common.{◌≡◌, ◌<◌, ◌≤◌, ◌+◌, ◌∙◌, refl, ap, arith, ℕ, List, [], ◌∷◌, ◌++◌, length, get_or, take, ◌⊎◌, inl, inr}
use Rattle.std.proofs.lemmas.List.{take_more}
use Rattle.bound_specs.specs.Spec.{Step}
use Rattle.machine_model.specs.World.{World}
use Rattle.known_worlds.specs.declared.moves.Move.{Move}
use Rattle.known_worlds.specs.declared.moves.Move.TheVariants.{Mark, Send}
use Rattle.known_worlds.specs.Moves.{world_after, world_behind, marked_after, marked_behind, IsNewestMark, HaveNoMark}

-- one move more
pub world-last : (steps : List Step) (w : World) (ms : List Move) (m : Move) → world_behind steps w (ms ++ m ∷ []) ≡ world_after steps (world_behind steps w ms) m
world-last steps w [] m = refl
world-last steps w (n ∷ ms) m = world-last steps (world_after steps w n) ms m

pub marked-last : (steps : List Step) (w : World) (ws : List World) (ms : List Move) (m : Move)
    → marked_behind steps w ws (ms ++ m ∷ []) ≡ marked_after (world_behind steps w ms) (marked_behind steps w ws ms) m
marked-last steps w ws [] m = refl
marked-last steps w ws (n ∷ ms) m = marked-last steps (world_after steps w n) (marked_after w ws n) ms m

-- the same, of the first moves of a path
marked-more : (path : List Move) (n : ℕ) (m d : Move) → n < length path → get_or path n d ≡ m → (steps : List Step) (w : World) (ws : List World)
    → marked_behind steps w ws (take (n + 1) path) ≡ marked_after (world_behind steps w (take n path)) (marked_behind steps w ws (take n path)) m
marked-more path n m d lt is steps w ws =
    ap (marked_behind steps w ws) (take_more path n d lt) ∙ marked-last steps w ws (take n path) (get_or path n d)
    ∙ ap (marked_after (world_behind steps w (take n path)) (marked_behind steps w ws (take n path))) is

-- between these places no mark is set
abbrev pub StaysMarked : List Move → ℕ → ℕ → Type 0
StaysMarked path left end = (n : ℕ) → left ≤ n → n ≤ end → (steps : List Step) (w : World) (ws : List World)
    → marked_behind steps w ws (take n path) ≡ marked_behind steps w ws (take left path)

pub stays-start : (path : List Move) (end : ℕ) → StaysMarked path end end
stays-start path end n lo hi steps w ws = (let same : n ≡ end = omega (arith, lo, hi) in ap (λ m. marked_behind steps w ws (take m path)) same)

pub stays-send : (path : List Move) (i end k : ℕ) (d : Move) → i < length path → get_or path i d ≡ Send k → StaysMarked path (i + 1) end → StaysMarked path i end
stays-send path i end k d lt is stays n lo hi steps w ws = at cases
  where
    cases : (n ≡ i) ⊎ (i + 1 ≤ n)
    cases = grind (arith, lo)

    at : (n ≡ i) ⊎ (i + 1 ≤ n) → marked_behind steps w ws (take n path) ≡ marked_behind steps w ws (take i path)
    at (inl same) = ap (λ m. marked_behind steps w ws (take m path)) same
    at (inr later) = stays n later hi steps w ws ∙ marked-more path i (Send k) d lt is steps w ws

pub mark-found : (path : List Move) (i end : ℕ) (d : Move) → i < length path → i < end → get_or path i d ≡ Mark → StaysMarked path (i + 1) end
    → IsNewestMark path end i
mark-found path i end d lt inside is stays = record {
  before = inside;
  newest = λ n later hi steps w ws. stays n (omega (arith, later)) hi steps w ws ∙ marked-more path i Mark d lt is steps w ws;
}

pub none-found : (path : List Move) (n end : ℕ) → n ≡ 0 → StaysMarked path n end → HaveNoMark path end
none-found path n end none stays steps w ws =
    stays end (omega (arith, none)) (omega arith) steps w ws ∙ ap (λ m. marked_behind steps w ws (take m path)) none
