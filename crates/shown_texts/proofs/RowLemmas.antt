-- The rows of lanes.
use Rattle.std.proofs.Common.{◌≡◌, ℕ, suc, ◌+◌, List, [], ◌∷◌, ◌++◌, sym, ap, ◌∙◌, append_assoc, arith}
use Rattle.shown_texts.specs.Lanes.{first_rows, lane_row, left_at}
use Rattle.shown_texts.specs.declared.lane.Lane.{Lane}
use Rattle.shown_texts.specs.declared.lane.LaneRow.{LaneRow}

-- one row more
pub rows-more : (left : List ℕ) (lanes : List Lane) (n : ℕ) (old before after : List LaneRow) (row : LaneRow) (beside : List ℕ)
    → before ≡ old ++ first_rows left lanes n → after ≡ before ++ row ∷ [] → row ≡ lane_row beside lanes n → beside ≡ left_at left n
    → after ≡ old ++ first_rows left lanes (n + 1)
rows-more left lanes n old before after row beside so_far pushed made at =
    let e : n + 1 ≡ suc n = omega arith in
    pushed
    ∙ ap (λ (xs : List LaneRow). xs ++ row ∷ []) so_far
    ∙ ap (λ (x : LaneRow). (old ++ first_rows left lanes n) ++ x ∷ []) (made ∙ ap (λ (l : List ℕ). lane_row l lanes n) at)
    ∙ append_assoc old (first_rows left lanes n) (lane_row (left_at left n) lanes n ∷ [])
    ∙ ap (λ (m : ℕ). old ++ first_rows left lanes m) (sym e)
