-- Settling, one grant after another.
use Rattle.std.proofs.Common.{◌≡◌, refl, sym, ap, ◌∙◌, ℕ, zero, suc, ◌≤◌, length, Option, Some, None, arith, subst}
use Rattle.lock_queues.specs.Locks.{Spot, next_grant}
use Rattle.machine_model.specs.World.{World, look_of, granted, settle_for, settle, left_to_do}
use Rattle.machine_model.specs.Sound.{Steady}
use Rattle.machine_model.proofs.Settles.{Grant, next-grant, none-left, granted-steady, granted-left}

-- where nothing is ripe, settling changes nothing
pub settled-at : (n : ℕ) (w : World) → next_grant (length w.sessions) (look_of w) w.waits ≡ None → settle_for n w ≡ w
settled-at zero w e = refl
settled-at (suc n) w e = let P : Option Spot → Type 0 =
    λ o. (let x : World = elim o [ None ↦ w | Some spot ↦ settle_for n (Rattle.machine_model.specs.World.granted w spot) ] in x) ≡ w in subst P (sym e) refl

-- the next grant of a world
abbrev pub next_in : World → Option Spot
next_in w = next_grant (length w.sessions) (look_of w) w.waits

-- more fuel than is left to do changes nothing
settle-fuel : (n m : ℕ) (w : World) → Steady w → left_to_do w ≤ n → left_to_do w ≤ m → settle_for n w ≡ settle_for m w
settle-fuel zero m w st a b = sym (settled-at m w (none-left w a))
settle-fuel (suc n) zero w st a b = settled-at (suc n) w (none-left w b)
settle-fuel (suc n) (suc m) w st a b = at (next_in w) refl (λ spot g.
    settle-fuel n m (granted w spot) (granted-steady w spot st g) (let h = granted-left w spot st g in omega arith) (let h = granted-left w spot st g
    in omega arith))
  where
    at : (o : Option Spot) → next_in w ≡ o → ((spot : Spot) → Grant (length w.sessions) (look_of w) w.waits spot → settle_for n (granted w spot)
        ≡ settle_for m (granted w spot))
        → (let x : World = elim o [ None ↦ w | Some spot ↦ settle_for n (granted w spot) ] in x)
        ≡ elim o [ None ↦ w | Some spot ↦ settle_for m (granted w spot) ]
    at None is rec = refl
    at (Some spot) is rec = rec spot (next-grant (length w.sessions) (look_of w) w.waits spot is)

-- where nothing is ripe the world is settled
pub settle-none : (w : World) → next_in w ≡ None → settle w ≡ w
settle-none w is = settled-at (left_to_do w) w is

-- where a wait is ripe it is granted first
pub settle-grant : (w : World) (spot : Spot) → Steady w → next_in w ≡ Some spot → settle w ≡ settle (granted w spot)
settle-grant w spot st is =
    let g = next-grant (length w.sessions) (look_of w) w.waits spot is in
    let less = granted-left w spot st g in
    let now = granted w spot in
    settle-fuel (left_to_do w) (suc (left_to_do w)) w st (omega arith) (omega arith)
    ∙ ap (λ (o : Option Spot). let x : World = elim o [ None ↦ w | Some s ↦ settle_for (left_to_do w) (granted w s) ] in x) is
    ∙ settle-fuel (left_to_do w) (left_to_do now) now (granted-steady w spot st g) (omega arith) (omega arith)
