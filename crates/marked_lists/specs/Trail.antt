-- How a marked list keeps what it goes back to. No public clause cites this module.
use Rattle.std.specs.Prelude.{ℕ, ◌+◌, ◌<◌, ◌≤◌, List, [], ◌∷◌, ◌++◌, map, reverse, length, take, drop, set, All, AllPairs}
use Rattle.marked_lists.specs.declared.trail.Overwritten.{Overwritten}
use Rattle.marked_lists.specs.declared.trail.Mark.{Mark}

-- a mark is of no more writes than another one
abbrev pub IsNoLater : Mark → Mark → Type 0
IsNoLater older newer = older.trail_len ≤ newer.trail_len

module _ {T : Type 0} where
  -- the items before some writes, of which the newest is the last
  abbrev pub undone : List (Overwritten T) → List T → List T
  undone [] items = items
  undone (write ∷ writes) items = set (undone writes items) write.place write.before

  -- the list at a mark: the items that it had, before what was written since
  abbrev pub list_at : List T → List (Overwritten T) → Mark → List T
  list_at items trail mark = undone (drop mark.trail_len trail) (take mark.len items)

  -- the lists at marks, of which the newest is the last
  abbrev pub lists_at : List T → List (Overwritten T) → List Mark → List (List T)
  lists_at items trail marks = reverse (map (list_at items trail) marks)

  -- the items with a value at a place, or at their end
  abbrev pub placed : List T → ℕ → T → List T
  placed items place value = take place items ++ value ∷ drop (place + 1) items

  -- what is kept of a write: all of it where a mark stands
  abbrev pub kept : List Mark → Overwritten T → List (Overwritten T)
  kept [] write = []
  kept (mark ∷ marks) write = write ∷ []

  -- what is kept where a value is put at a place, by the items from there on
  abbrev pub kept_at : List Mark → ℕ → List T → List (Overwritten T)
  kept_at marks place [] = []
  kept_at marks place (before ∷ rest) = kept marks (record { place = place; before = before })

  -- a write is of one of the items
  abbrev pub IsInside : List T → Overwritten T → Type 0
  IsInside items write = write.place < length items

  -- a mark has no more items and writes behind it than there are
  abbrev pub IsBehind : List T → List (Overwritten T) → Mark → Type 0
  IsBehind items trail mark = (mark.len ≤ length items) × (mark.trail_len ≤ length trail)

  -- the list lies in its items, writes are of items, marks are of what is there, and older marks are no later than newer ones
  pub record IsSound (items : List T) (len : ℕ) (trail : List (Overwritten T)) (marks : List Mark) : Type 0 where
    pub inside : len ≤ length items
    pub places : All (IsInside items) trail
    pub behind : All (IsBehind items trail) marks
    pub rising : AllPairs IsNoLater marks
