-- A store in which nothing is open.
use Rattle.std.proofs.Common.{◌≡◌, refl, sym, ap, ◌∙◌, ℕ, ◌+◌, ◌<◌, ◌≤◌, List, [], ◌∷◌, ◌⊎◌, ⊎_elim, arith, None, Option}
use Rattle.finite_maps.specs.Map.{get, entries, empty, get-empty}
use Rattle.binding_model.specs.declared.tables.Table.{Table}
use Rattle.lock_modes.specs.RowPlace.{RowPlace, place_order}
use Rattle.lock_modes.specs.Rows.{Tuple, Rows'}
use Rattle.lock_queues.specs.LockTable.{Locks, no_locks}
use Rattle.row_tables.specs.Layers.{Layers, overlay_of, sight, undone}
use Rattle.row_tables.specs.Overlay.{lay}
use Rattle.machine_model.specs.World.{World}
use Rattle.line_moments.specs.Left.{left_from}
use Rattle.session_machine.specs.Showing.{IsCommitted, NothingOpen, lefts_from}
use Rattle.session_steps.specs.Stage.{IsWithin}
use Rattle.session_steps.proofs.States.{overlay-undone, same-undone}

-- one session more has nothing open
pub committed-more : (n : ℕ) (l m o : Layers) → IsCommitted n l m → o ≡ undone n m → IsCommitted (n + 1) l o
committed-more n l m o so is = record {
  rows = ap (λ (x : Layers). x.committed) is ∙ so.rows;
  below = λ c lt. ap (overlay_of c) is ∙ at c (grind (arith, lt));
  past = λ c le. ap (overlay_of c) is ∙ (same-undone n m no_locks).overlays c (λ e. absurd (omega (arith, e, le)))
      ∙ so.past c (omega (arith, le));
}
  where
    at : (c : ℕ) → (c ≡ n) ⊎ (c < n) → overlay_of c (undone n m) ≡ empty
    at c (Rattle.std.proofs.Common.inl e) = ap (λ k. overlay_of k (undone n m)) e ∙ overlay-undone n m
    at c (Rattle.std.proofs.Common.inr lt) = (same-undone n m no_locks).overlays c (λ e. absurd (omega (arith, e, lt))) ∙ so.below c lt

-- where nobody is past the count, nobody has anything open
pub nothing-open : (n : ℕ) (l m : Layers) (t : Locks) → IsWithin n l t → IsCommitted n l m → NothingOpen m
nothing-open n l m t within so c =
    let cases : (c < n) ⊎ (n ≤ c) = grind arith in
    ⊎_elim (λ lt. so.below c lt) (λ le. so.past c le ∙ within.overlays c le) cases

lay-nothing : (rows : Rows') → lay empty rows ≡ rows
unfolding lay entries empty
lay-nothing rows = refl

-- then everybody sees what is committed
pub sight-open : (i : ℕ) (l : Layers) → NothingOpen l → sight i l ≡ l.committed
sight-open i l nothing = ap (λ o. lay o l.committed) (nothing i) ∙ lay-nothing l.committed

pub open-at : (l : Layers) → NothingOpen l → (c : ℕ) (p : RowPlace) → get (overlay_of c l) p ≡ None
open-at l nothing c p = ap (λ o. get o p) (nothing c) ∙ get-empty place_order (Option Tuple) p

-- what is left of tables in a world of these rows
pub lefts-are : (tables : List Table) (w : World) (n : ℕ) → lefts_from n tables w.rows ≡ left_from n tables w
lefts-are [] w n = refl
lefts-are (t ∷ ts) w n = ap (λ xs. record { table = t; rows = Rattle.row_tables.specs.Layers.rows_of n w.rows } ∷ xs) (lefts-are ts w (Rattle.std.proofs.Common.suc n))
