-- The cells behind the end of what a session wrote.
use Rattle.std.proofs.Common.{◌≡◌, ◌≢◌, refl, sym, ap, ◌∙◌, subst, ℕ, zero, suc, ◌+◌, ◌<◌, ◌==◌, Bool, true, false, cond, ◌⊎◌, inl, inr, ⊎_elim}
use Rattle.std.proofs.Common.{List, [], ◌∷◌, ◌++◌, length, take, get_or, set, Option, Some, None, get_or-set_other}
use Rattle.std.proofs.lemmas.Bool.Decides.{eqb_tells}
use Rattle.std.proofs.lemmas.List.{length-set, set-get_or, take_more}
use Rattle.std.specs.Prelude.{Result, Ok, Err, OnOk}
use Rattle.std.specs.declared.alloc.AllocError.{AllocError}
use Rattle.marked_lists.specs.Versions.{Versions}
use Rattle.marked_rows.specs.Cells.{blank}
use Rattle.marked_rows.specs.Kept.{IsWritten, ended, ended_at, ended_by, ended_in, is_left_by, is_of, is_of_at, with_end}
use Rattle.marked_rows.specs.declared.cell.Cell.{Cell}
use Rattle.marked_rows.specs.declared.cell.Ending.{Ending}
use Rattle.marked_rows.specs.declared.cell.Ending.TheVariants.{Keep, Undo}
use Rattle.marked_rows.specs.declared.cell.Left.{Left}
use Rattle.marked_rows.specs.declared.cell.Written.{Written}

-- ---- lengths, and one more

length-at : (s : ℕ) (e : Ending) (w : Written) (cells : List Cell) → length (ended_at s e w cells) ≡ length cells
length-at s e w cells = at (w.session == s)
  where
    at : (b : Bool) → length (cond b (set cells w.cell (ended s e (get_or cells w.cell blank))) cells) ≡ length cells
    at true = length-set cells w.cell (ended s e (get_or cells w.cell blank))
    at false = refl

pub length-ended : (s : ℕ) (e : Ending) (ws : List Written) (cells : List Cell) → length (ended_in s e ws cells) ≡ length cells
length-ended s e [] cells = refl
length-ended s e (w ∷ ws) cells = length-ended s e ws (ended_at s e w cells) ∙ length-at s e w cells

ended-push : (s : ℕ) (e : Ending) (ws : List Written) (w : Written) (cells : List Cell)
    → ended_in s e (ws ++ w ∷ []) cells ≡ ended_at s e w (ended_in s e ws cells)
ended-push s e [] w cells = refl
ended-push s e (x ∷ ws) w cells = ended-push s e ws w (ended_at s e x cells)

pub ended-more : (s : ℕ) (e : Ending) (ws : List Written) (n : ℕ) (d : Written) (cells : List Cell) → n < length ws
    → ended_in s e (take (n + 1) ws) cells ≡ ended_at s e (get_or ws n d) (ended_in s e (take n ws) cells)
ended-more s e ws n d cells lt = ap (λ xs. ended_in s e xs cells) (take_more ws n d lt) ∙ ended-push s e (take n ws) (get_or ws n d) cells

-- ---- one cell

module _ (s : ℕ) (e : Ending) where
  -- a cell with nothing left in it stays
  end-left : (committed : Option ℕ) (left : Left) → ended s e (with_end e committed left) ≡ with_end e committed left
  end-left committed left = at e
    where
      at : (f : Ending) → ended s e (with_end f committed left) ≡ with_end f committed left
      at Keep = refl
      at Undo = refl

  -- a cell in which the session has left nothing stays
  ended-other : (c : Cell) → is_of s c ≡ false → ended s e c ≡ c
  ended-other c is_not = at c.left is_not
    where
      at : (left : Option Left) → is_left_by s left ≡ false → ended_by s e c.committed left ≡ record { committed = c.committed; left = left }
      at None is_not = refl
      at (Some left) is_not = ap (λ b. cond b (with_end e c.committed left) (record { committed = c.committed; left = Some left })) is_not

  -- so where the session has left nothing at a cell, all stay
  pub end-nothing : (w : Written) (cells : List Cell) (c : Cell) → get_or cells w.cell blank ≡ c → is_of s c ≡ false → ended_at s e w cells ≡ cells
  end-nothing w cells c is is_not = at (w.session == s)
    where
      at : (b : Bool) → cond b (set cells w.cell (ended s e (get_or cells w.cell blank))) cells ≡ cells
      at true = ap (set cells w.cell) (ended-other (get_or cells w.cell blank) (ap (is_of s) is ∙ is_not)) ∙ set-get_or cells w.cell blank
      at false = refl

  -- where it has, the cell is put
  pub end-put : (r : Result (Unit {0}) AllocError) (w : Written) (old left : Versions Cell) (c v : Cell) → get_or old.list w.cell blank ≡ c → v ≡ ended s e c
      → (w.session == s) ≡ true → OnOk r (left ≡ record old { list = set old.list w.cell v }) → OnOk r (left ≡ record old { list = ended_at s e w old.list })
  end-put (Ok u) w old left c v is ends own put =
      put ∙ ap (λ (list : List Cell). record old { list = list }) (ap (set old.list w.cell) (ends ∙ ap (ended s e) (sym is))
      ∙ sym (ap (λ b. cond b (set old.list w.cell (ended s e (get_or old.list w.cell blank))) old.list) own))
  end-put (Err x) w old left c v is ends own put = tt

  -- nothing ends twice
  ended-again : (c : Cell) → ended s e (ended s e c) ≡ ended s e c
  ended-again c = at c.left
    where
      at : (left : Option Left) → ended s e (ended_by s e c.committed left) ≡ ended_by s e c.committed left
      at None = refl
      at (Some left) = on (left.session == s) refl
        where
          on : (b : Bool) → (left.session == s) ≡ b → ended s e (cond b (with_end e c.committed left) (record { committed = c.committed; left = Some left }))
              ≡ cond b (with_end e c.committed left) (record { committed = c.committed; left = Some left })
          on true is = end-left c.committed left
          on false is = ended-other (record { committed = c.committed; left = Some left }) is

  -- behind the end the cell is not the session's
  end-none : (committed : Option ℕ) (left : Left) (t : ℕ) → is_of t (with_end e committed left) ≡ false
  end-none committed left t = at e
    where
      at : (f : Ending) → is_of t (with_end f committed left) ≡ false
      at Keep = refl
      at Undo = refl

  pub ended-gone : (c : Cell) → is_of s (ended s e c) ≡ false
  ended-gone c = at c.left
    where
      at : (left : Option Left) → is_of s (ended_by s e c.committed left) ≡ false
      at None = refl
      at (Some left) = on (left.session == s) refl
        where
          on : (b : Bool) → (left.session == s) ≡ b → is_of s (cond b (with_end e c.committed left) (record { committed = c.committed; left = Some left })) ≡ false
          on true is = end-none c.committed left s
          on false is = is

  -- a cell that is somebody's behind the end was so before it
  ended-of : (c : Cell) (t : ℕ) → is_of t (ended s e c) ≡ true → is_of t c ≡ true
  ended-of c t is_so = at c.left is_so
    where
      at : (left : Option Left) → is_of t (ended_by s e c.committed left) ≡ true → is_left_by t left ≡ true
      at None is_so = is_so
      at (Some left) is_so = on (left.session == s) is_so
        where
          on : (b : Bool) → is_of t (cond b (with_end e c.committed left) (record { committed = c.committed; left = Some left })) ≡ true
              → (left.session == t) ≡ true
          on true is_so = let never : false ≡ true = sym (end-none c.committed left t) ∙ is_so in cc
          on false is_so = is_so

  -- ---- all cells

  set-same : (cells : List Cell) (k : ℕ) → get_or (set cells k (ended s e (get_or cells k blank))) k blank ≡ ended s e (get_or cells k blank)
  set-same [] k = refl
  set-same (c ∷ cells) zero = refl
  set-same (c ∷ cells) (suc k) = set-same cells k

  -- at a cell something ends or not
  ended-or : (w : Written) (cells : List Cell) (k : ℕ)
      → (get_or (ended_at s e w cells) k blank ≡ get_or cells k blank) ⊎ (get_or (ended_at s e w cells) k blank ≡ ended s e (get_or cells k blank))
  ended-or w cells k = at (w.session == s)
    where
      on : (w.cell ≡ k) ⊎ (k ≢ w.cell) → (get_or (set cells w.cell (ended s e (get_or cells w.cell blank))) k blank ≡ get_or cells k blank)
          ⊎ (get_or (set cells w.cell (ended s e (get_or cells w.cell blank))) k blank ≡ ended s e (get_or cells k blank))
      on (inl here) = inr (subst (λ j. get_or (set cells j (ended s e (get_or cells j blank))) k blank ≡ ended s e (get_or cells k blank)) (sym here) (set-same cells k))
      on (inr away) = inl (get_or-set_other cells w.cell k (ended s e (get_or cells w.cell blank)) blank away)

      at : (b : Bool) → (get_or (cond b (set cells w.cell (ended s e (get_or cells w.cell blank))) cells) k blank ≡ get_or cells k blank)
          ⊎ (get_or (cond b (set cells w.cell (ended s e (get_or cells w.cell blank))) cells) k blank ≡ ended s e (get_or cells k blank))
      at true = on (⊎_elim (λ same. inl (sym same.1)) (λ other. inr other.1) (eqb_tells k w.cell))
      at false = inl refl

  ended-at : (w : Written) (cells : List Cell) (k : ℕ) → w.session ≡ s → w.cell ≡ k → get_or (ended_at s e w cells) k blank ≡ ended s e (get_or cells k blank)
  ended-at w cells k is here =
      ⊎_elim (λ same. ap (λ b. get_or (cond b (set cells w.cell (ended s e (get_or cells w.cell blank))) cells) k blank) same.0
      ∙ subst (λ j. get_or (set cells j (ended s e (get_or cells j blank))) k blank ≡ ended s e (get_or cells k blank)) (sym here) (set-same cells k))
      (λ other. absurd (other.1 is)) (eqb_tells w.session s)

  -- a cell with nothing to end stays
  ended-fixed : (ws : List Written) (cells : List Cell) (k : ℕ) → ended s e (get_or cells k blank) ≡ get_or cells k blank
      → get_or (ended_in s e ws cells) k blank ≡ get_or cells k blank
  ended-fixed [] cells k fixed = refl
  ended-fixed (w ∷ ws) cells k fixed =
      let same : get_or (ended_at s e w cells) k blank ≡ get_or cells k blank = ⊎_elim (λ h. h) (λ h. h ∙ fixed) (ended-or w cells k) in
      ended-fixed ws (ended_at s e w cells) k (ap (ended s e) same ∙ fixed ∙ sym same) ∙ same

  -- one of which it is noted has ended
  ended-done : (ws : List Written) (cells : List Cell) (k : ℕ) → IsWritten ws s k → get_or (ended_in s e ws cells) k blank ≡ ended s e (get_or cells k blank)
  ended-done [] cells k never = absurd never
  ended-done (w ∷ ws) cells k (inl is) =
      let first = ended-at w cells k is.0 is.1 in
      ended-fixed ws (ended_at s e w cells) k (ap (ended s e) first ∙ ended-again (get_or cells k blank) ∙ sym first) ∙ first
  ended-done (w ∷ ws) cells k (inr later) =
      ended-done ws (ended_at s e w cells) k later
      ∙ ⊎_elim (λ h. ap (ended s e) h) (λ h. ap (ended s e) h ∙ ended-again (get_or cells k blank)) (ended-or w cells k)

  -- a cell that is somebody's behind the end of some was so before it
  pub ended-was : (ws : List Written) (cells : List Cell) (k t : ℕ) → is_of_at (ended_in s e ws cells) t k ≡ true → is_of_at cells t k ≡ true
  ended-was [] cells k t is_so = is_so
  ended-was (w ∷ ws) cells k t is_so =
      let before = ended-was ws (ended_at s e w cells) k t is_so in
      ⊎_elim (λ h. subst (λ c. is_of t c ≡ true) h before) (λ h. ended-of (get_or cells k blank) t (subst (λ c. is_of t c ≡ true) h before)) (ended-or w cells k)

-- where what was written is noted the end of what is noted is the end in each cell
pub ended-each : (s : ℕ) (e : Ending) (ws : List Written) (cells : List Cell) → ((k t : ℕ) → is_of_at cells t k ≡ true → IsWritten ws t k) → (k : ℕ)
    → get_or (ended_in s e ws cells) k blank ≡ ended s e (get_or cells k blank)
ended-each s e ws cells complete k = at (is_of_at cells s k) refl
  where
    at : (b : Bool) → is_of_at cells s k ≡ b → get_or (ended_in s e ws cells) k blank ≡ ended s e (get_or cells k blank)
    at true is = ended-done s e ws cells k (complete k s is)
    at false is = let stays = ended-other s e (get_or cells k blank) is in ended-fixed s e ws cells k stays ∙ sym stays
