-- Workers and their seats.
use Rattle.std.proofs.Common.{◌≡◌, ℕ, zero, suc, ◌<◌, Bool, List, [], ◌∷◌, length, get_or, map, refl, sym, ap, ◌∙◌, subst, arith}
use Rattle.std.proofs.Common.{All}
use mathlib.Core.Option.{some, some-ne-none, some-injective}
use lib.ListN.{get_elem?}
use Rattle.bound_specs.specs.Spec.{Spec}
use Rattle.rank_facts.specs.declared.shard.Shard.{Shard}
use Rattle.shard_board.specs.Shown.{ShownBoard, ShownSeat}
use Rattle.shard_board.specs.Changes.{IsRowOf}
use Rattle.shard_farm.specs.declared.worker.Worker.{Worker}
use Rattle.shard_farm.specs.Working.{IsStarting, IsDone}

pub found_at : {A : Type 0} (l : List A) (k : ℕ) (d : A) → k < length l → get_elem? l k ≡ some (get_or l k d)
found_at [] k d h = absurd (omega arith)
found_at (y ∷ ys) zero d h = refl
found_at (y ∷ ys) (suc k) d h = found_at ys k d (omega arith)

pub inside : {A : Type 0} (l : List A) (k : ℕ) (x : A) → get_elem? l k ≡ some x → k < length l
inside [] k x e = absurd (some-ne-none x (sym e))
inside (y ∷ ys) zero x e = omega arith
inside (y ∷ ys) (suc k) x e = let r = inside ys k x e in omega arith

pub all_at : {A : Type 0} (P : A → Type 0) (l : List A) → All P l → (k : ℕ) (x : A) → get_elem? l k ≡ some x → P x
all_at P [] a k x e = absurd (some-ne-none x (sym e))
all_at P (y ∷ ys) a zero x e = subst P (some-injective y x e) (a 0 y (omega arith))
all_at P (y ∷ ys) a (suc k) x e = all_at P ys (λ j d l. a (suc j) d (omega arith)) k x e

-- the seats of a new board
pub all_starting : (board : ShownBoard) (seats : List ShownSeat) → IsRowOf board seats → All (IsStarting board) seats
all_starting board seats row k d l =
    let is = row k (get_or seats k d) (found_at seats k d l) in
    record { board_is = ap (λ (s : ShownSeat). s.board) is; claims = ap (λ (s : ShownSeat). s.claims) is; calls = ap (λ (s : ShownSeat). s.calls) is }

abbrev pub seat_of : Worker → ShownSeat
seat_of w = w.seat

pub seat_at : (ws : List Worker) (k : ℕ) (w : Worker) → get_elem? ws k ≡ some w → get_elem? (map seat_of ws) k ≡ some w.seat
seat_at [] k w e = absurd (some-ne-none w (sym e))
seat_at (v ∷ ws) zero w e = ap (λ (x : Worker). some x.seat) (some-injective v w e)
seat_at (v ∷ ws) (suc k) w e = seat_at ws k w e

-- whose seat it is
pub worker_at : (ws : List Worker) (k : ℕ) (s : ShownSeat) → get_elem? (map seat_of ws) k ≡ some s → (w : Worker) × ((get_elem? ws k ≡ some w) × (w.seat ≡ s))
worker_at [] k s e = absurd (some-ne-none s (sym e))
worker_at (w ∷ ws) zero s e = (w, (refl, some-injective w.seat s e))
worker_at (w ∷ ws) (suc k) s e = worker_at ws k s e

pub one_worker : (ws : List Worker) (j k : ℕ) (v w : Worker) → get_elem? ws j ≡ some v → get_elem? ws k ≡ some w → j ≡ k → v ≡ w
one_worker ws j k v w at there same = some-injective v w (sym at ∙ (ap (get_elem? ws) same ∙ there))

-- the rest of a list
pub all_rest : {A : Type 0} (P : A → Type 0) (l : List A) (x : A) (xs : List A) → l ≡ x ∷ xs → All P l → P x × All P xs
all_rest P l x xs is a =
    let all : All P (x ∷ xs) = subst (All P) is a in (all 0 x (omega arith), λ k d within. all (suc k) d (omega arith))

-- the seats of workers that are done are the board's
pub all_of_board : (board : ShownBoard) (reduce : Bool) (spec : Spec) (shards : List Shard) (ws : List Worker) → All (IsDone board reduce spec shards) ws
    → All (λ (s : ShownSeat). s.board ≡ board) (map seat_of ws)
all_of_board board reduce spec shards [] all k d within = absurd (omega arith)
all_of_board board reduce spec shards (w ∷ ws) all zero d within = (all 0 w (omega arith)).board_is
all_of_board board reduce spec shards (w ∷ ws) all (suc k) d within = all_of_board board reduce spec shards ws (λ j e l. all (suc j) e (omega arith)) k d
    (omega arith)
