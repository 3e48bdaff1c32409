-- What is kept behind each change.
use Rattle.std.proofs.Common.{◌≡◌, refl, sym, ap, ◌∙◌, subst, ℕ, zero, suc, ◌+◌, ◌<◌, ◌≤◌, ◌==◌, Bool, true, false, cond, inl, inr, ⊎_elim, arith, length-append}
use Rattle.std.proofs.Common.{List, [], ◌∷◌, ◌++◌, length, get_or, set, Option, Some, None, All, get_or-set_other, get_or-set_same}
use Rattle.std.specs.List.{list_all}
use Rattle.std.proofs.lemmas.Bool.{and_parts, eqb-true}
use Rattle.std.proofs.lemmas.Bool.Decides.{eqb_tells}
use Rattle.std.proofs.lemmas.List.{append_assoc, length-set}
use Rattle.std.proofs.lemmas.List.Elements.{All-cons, All-head, All-nil, All-push, All-tail, All-weaker}
use Rattle.lock_modes.specs.Rows.{Tuple}
use Rattle.marked_lists.specs.Versions.{Versions}
use Rattle.marked_rows.specs.Cells.{blank}
use Rattle.marked_rows.specs.Kept.{AreKept, HasRows, IsInside, IsKeptAt, IsLeft, IsNumber, IsWritten, HasBlanks, blanks}
use Rattle.marked_rows.specs.Kept.{ended, ended_at, ended_by, ended_in, is_of, is_of_at, noted, with_end}
use Rattle.marked_rows.specs.declared.cell.Cell.{Cell}
use Rattle.marked_rows.specs.declared.cell.Ending.{Ending}
use Rattle.marked_rows.specs.declared.cell.Ending.TheVariants.{Keep, Undo}
use Rattle.marked_rows.specs.declared.cell.Left.{Left}
use Rattle.marked_rows.specs.declared.cell.Written.{Written}
use Rattle.marked_rows.proofs.CellLemmas.{with_left}
use Rattle.marked_rows.proofs.EndingLemmas.{ended-each, ended-gone, ended-was, length-ended}

-- ---- rows are there

number-more : (rows more : List Tuple) (n : Option ℕ) → IsNumber rows n → IsNumber (rows ++ more) n
number-more rows more None there = tt
number-more rows more (Some n) there = omega (arith, there, length-append rows more)

left-more : (rows more : List Tuple) (left : Option Left) → IsLeft rows left → IsLeft (rows ++ more) left
left-more rows more None there = tt
left-more rows more (Some left) there = number-more rows more left.row there

cell-more : (rows more : List Tuple) (c : Cell) → HasRows rows c → HasRows (rows ++ more) c
cell-more rows more c has = (number-more rows more c.committed has.0, left-more rows more c.left has.1)

all-set : {A : Type 0} (P : A → Type 0) (xs : List A) (k : ℕ) (v : A) → All P xs → P v → All P (set xs k v)
all-set P [] k v all is = all
all-set P (x ∷ xs) zero v all is = All-cons P v xs is (All-tail P x xs all)
all-set P (x ∷ xs) (suc k) v all is = All-cons P x (set xs k v) (All-head P x xs all) (all-set P xs k v (All-tail P x xs all) is)

pub all-get : (rows : List Tuple) (cells : List Cell) (k : ℕ) → All (HasRows rows) cells → HasRows rows (get_or cells k blank)
all-get rows [] k all = (tt, tt)
all-get rows (c ∷ cells) zero all = All-head (HasRows rows) c cells all
all-get rows (c ∷ cells) (suc k) all = all-get rows cells k (All-tail (HasRows rows) c cells all)

ended-rows : (rows : List Tuple) (s : ℕ) (e : Ending) (c : Cell) → HasRows rows c → HasRows rows (ended s e c)
ended-rows rows s e c has = at c.left has.1
  where
    ending : (f : Ending) (left : Left) → IsNumber rows left.row → HasRows rows (with_end f c.committed left)
    ending Keep left there = (there, tt)
    ending Undo left there = (has.0, tt)

    at : (left : Option Left) → IsLeft rows left → HasRows rows (ended_by s e c.committed left)
    at None there = (has.0, tt)
    at (Some left) there = on (left.session == s)
      where
        on : (b : Bool) → HasRows rows (cond b (with_end e c.committed left) (record { committed = c.committed; left = Some left }))
        on true = ending e left there
        on false = (has.0, there)

all-ended : (rows : List Tuple) (s : ℕ) (e : Ending) (ws : List Written) (cells : List Cell) → All (HasRows rows) cells
    → All (HasRows rows) (ended_in s e ws cells)
all-ended rows s e [] cells all = all
all-ended rows s e (w ∷ ws) cells all = all-ended rows s e ws (ended_at s e w cells) (at (w.session == s))
  where
    at : (b : Bool) → All (HasRows rows) (cond b (set cells w.cell (ended s e (get_or cells w.cell blank))) cells)
    at true =
        all-set (HasRows rows) cells w.cell (ended s e (get_or cells w.cell blank)) all
        (ended-rows rows s e (get_or cells w.cell blank) (all-get rows cells w.cell all))
    at false = all

-- ---- blank cells

blank-at : (k n : ℕ) → get_or (blanks k) n blank ≡ blank
blank-at zero n = refl
blank-at (suc k) zero = refl
blank-at (suc k) (suc n) = blank-at k n

-- cells that are blank say as much as none
pub blank-more : (cells : List Cell) (k n : ℕ) → get_or (cells ++ blanks k) n blank ≡ get_or cells n blank
blank-more [] k n = blank-at k n
blank-more (c ∷ cells) k zero = refl
blank-more (c ∷ cells) k (suc n) = blank-more cells k n

-- one more, where there is room up to the place
pub blank-push : (place : ℕ) (old now new : Versions Cell) → HasBlanks place old now → length now.list ≤ place
    → new ≡ record now { list = now.list ++ blank ∷ [] } → HasBlanks place old new
blank-push place old now new has le is = record {
  count = suc has.count;
  is = is ∙ ap (λ (v : Versions Cell). let w : Versions Cell = record v { list = v.list ++ blank ∷ [] } in w) has.is
      ∙ ap (λ cs. let w : Versions Cell = record old { list = cs } in w) (append_assoc old.list (blanks has.count) (blank ∷ []) ∙ ap (λ bs. old.list ++ bs) (last has.count));
  few = inr (let long = ap (λ (v : Versions Cell). length v.list) is in omega (arith, le, long, length-append now.list (blank ∷ [])));
}
  where
    last : (n : ℕ) → blanks n ++ blank ∷ [] ≡ blank ∷ blanks n
    last zero = refl
    last (suc n) = ap (λ bs. blank ∷ bs) (last n)

-- ---- what is noted

written-first : (ws : List Written) (w : Written) (s k : ℕ) → IsWritten ws s k → IsWritten (ws ++ w ∷ []) s k
written-first [] w s k never = absurd never
written-first (x ∷ ws) w s k (inl is) = inl is
written-first (x ∷ ws) w s k (inr later) = inr (written-first ws w s k later)

written-last : (ws : List Written) (w : Written) → IsWritten (ws ++ w ∷ []) w.session w.cell
written-last [] w = inl (refl, refl)
written-last (x ∷ ws) w = inr (written-last ws w)

noted-more : (ws : List Written) (c : Cell) (s k t j : ℕ) → IsWritten ws t j → IsWritten (noted ws c s k) t j
noted-more ws c s k t j is = at (is_of s c)
  where
    at : (b : Bool) → IsWritten (cond b ws (ws ++ record { session = s; cell = k } ∷ [])) t j
    at true = is
    at false = written-first ws (record { session = s; cell = k }) t j is

noted-has : (ws : List Written) (c : Cell) (s k : ℕ) → (is_of s c ≡ true → IsWritten ws s k) → IsWritten (noted ws c s k) s k
noted-has ws c s k known = at (is_of s c) refl
  where
    at : (b : Bool) → is_of s c ≡ b → IsWritten (cond b ws (ws ++ record { session = s; cell = k } ∷ [])) s k
    at true is = known is
    at false is = written-last ws (record { session = s; cell = k })

noted-inside : (cells : List Cell) (ws : List Written) (c : Cell) (s k : ℕ) → All (IsInside cells) ws → k < length cells → All (IsInside cells) (noted ws c s k)
noted-inside cells ws c s k all lt = at (is_of s c)
  where
    at : (b : Bool) → All (IsInside cells) (cond b ws (ws ++ record { session = s; cell = k } ∷ []))
    at true = all
    at false = All-push (IsInside cells) ws (record { session = s; cell = k }) all lt

inside-same : (cells cells' : List Cell) (ws : List Written) → length cells' ≡ length cells → All (IsInside cells) ws → All (IsInside cells') ws
inside-same cells cells' ws same all = All-weaker (IsInside cells) (IsInside cells') (λ w lt. subst (λ n. w.cell < n) (sym same) lt) ws all

-- ---- what is kept

module _ (next : ℕ) (rows : List Tuple) (cells : List Cell) (written : List Written) (kept : IsKeptAt next rows cells written) where
  -- there may be more rows, and more may be noted than is written
  pub kept-noted : (more : List Tuple) (c : Cell) (s k : ℕ) → k < length cells → IsKeptAt next (rows ++ more) cells (noted written c s k)
  kept-noted more c s k lt = record {
    few = kept.few;
    there = All-weaker (HasRows rows) (HasRows (rows ++ more)) (λ c has. cell-more rows more c has) cells kept.there;
    inside = noted-inside cells written c s k kept.inside lt;
    complete = λ j t is. noted-more written c s k t j (kept.complete j t is);
  }

  pub kept-more : (more : List Tuple) → IsKeptAt next (rows ++ more) cells written
  kept-more more = record {
    few = kept.few;
    there = All-weaker (HasRows rows) (HasRows (rows ++ more)) (λ c has. cell-more rows more c has) cells kept.there;
    inside = kept.inside;
    complete = kept.complete;
  }

  -- what is noted may be written
  pub kept-written : (more : List Tuple) (s k : ℕ) (n : Option ℕ) → k < length cells → IsNumber (rows ++ more) n
      → IsKeptAt next (rows ++ more) (set cells k (with_left (get_or cells k blank) s n)) (noted written (get_or cells k blank) s k)
  kept-written more s k n lt there = record {
    few = subst (λ m. m ≤ next) (sym (length-set cells k new)) kept.few;
    there = all-set (HasRows (rows ++ more)) cells k new (kept-more more).there ((cell-more rows more (get_or cells k blank) (all-get rows cells k kept.there)).0, there);
    inside = inside-same cells (set cells k new) (noted written (get_or cells k blank) s k) (length-set cells k new)
        (noted-inside cells written (get_or cells k blank) s k kept.inside lt);
    complete = λ j t is. ⊎_elim (λ same. here j t same.1 is)
        (λ other. noted-more written (get_or cells k blank) s k t j (kept.complete j t (subst (λ c. is_of t c ≡ true) (get_or-set_other cells k j new blank other.1) is)))
        (eqb_tells j k);
  }
    where
      new : Cell
      new = with_left (get_or cells k blank) s n

      here : (j t : ℕ) → j ≡ k → is_of_at (set cells k new) t j ≡ true → IsWritten (noted written (get_or cells k blank) s k) t j
      here j t same is =
          let own : is_of t new ≡ true = subst (λ c. is_of t c ≡ true) (ap (λ x. get_or (set cells k new) x blank) same ∙ get_or-set_same cells k new blank lt) is in
          let who : s ≡ t = eqb-true s t own in
          subst (λ u. IsWritten (noted written (get_or cells k blank) s k) u j) who
          (subst (λ x. IsWritten (noted written (get_or cells k blank) s k) s x) (sym same) (noted-has written (get_or cells k blank) s k (kept.complete k s)))

  -- what a session wrote may end in part
  pub kept-ended : (s : ℕ) (e : Ending) (ws : List Written) → IsKeptAt next rows (ended_in s e ws cells) written
  kept-ended s e ws = record {
    few = subst (λ m. m ≤ next) (sym (length-ended s e ws cells)) kept.few;
    there = all-ended rows s e ws cells kept.there;
    inside = inside-same cells (ended_in s e ws cells) written (length-ended s e ws cells) kept.inside;
    complete = λ j t is. kept.complete j t (ended-was s e ws cells j t is);
  }

  -- where all that is noted was of one session nothing is left of it once it has ended
  pub kept-all : (s : ℕ) (e : Ending) → list_all (λ (w : Written). w.session == s) written ≡ true → IsKeptAt next rows (ended_in s e written cells) []
  kept-all s e all = record {
    few = subst (λ m. m ≤ next) (sym (length-ended s e written cells)) kept.few;
    there = all-ended rows s e written cells kept.there;
    inside = All-nil (IsInside (ended_in s e written cells));
    complete = λ j t is. absurd (never j t is);
  }
    where
      of-one : (ws : List Written) → list_all (λ (w : Written). w.session == s) ws ≡ true → (t j : ℕ) → IsWritten ws t j → t ≡ s
      of-one [] all t j none = absurd none
      of-one (w ∷ ws) all t j (inl is) =
          let parts = and_parts (w.session == s) (list_all (λ (x : Written). x.session == s) ws) all in
          sym is.0 ∙ eqb-true w.session s parts.0
      of-one (w ∷ ws) all t j (inr later) =
          of-one ws (and_parts (w.session == s) (list_all (λ (x : Written). x.session == s) ws) all).1 t j later

      never : (j t : ℕ) → is_of_at (ended_in s e written cells) t j ≡ true → ⊥
      never j t is =
          let who : t ≡ s = of-one written all t j (kept.complete j t (ended-was s e written cells j t is)) in
          let own : is_of_at (ended_in s e written cells) s j ≡ true = subst (λ u. is_of_at (ended_in s e written cells) u j ≡ true) who is in
          let gone : is_of s (ended s e (get_or cells j blank)) ≡ true = subst (λ c. is_of s c ≡ true) (ended-each s e written cells kept.complete j) own in
          let contra : false ≡ true = sym (ended-gone s e (get_or cells j blank)) ∙ gone in
          cc

  -- blank cells may be there, and places more
  pub kept-blank : (k more : ℕ) → length cells + k ≤ more → IsKeptAt more rows (cells ++ blanks k) written
  kept-blank k more le = record {
    few = omega (arith, le, length-append cells (blanks k), blanks-length k);
    there = all-blank cells k kept.there;
    inside = All-weaker (IsInside cells) (IsInside (cells ++ blanks k)) (λ w lt. omega (arith, lt, length-append cells (blanks k))) written kept.inside;
    complete = λ j t is. kept.complete j t (subst (λ c. is_of t c ≡ true) (blank-more cells k j) is);
  }
    where
      blanks-length : (n : ℕ) → length (blanks n) ≡ n
      blanks-length zero = refl
      blanks-length (suc n) = ap suc (blanks-length n)

      all-blanks : (n : ℕ) → All (HasRows rows) (blanks n)
      all-blanks zero = All-nil (HasRows rows)
      all-blanks (suc n) = All-cons (HasRows rows) blank (blanks n) (tt, tt) (all-blanks n)

      all-blank : (cs : List Cell) (n : ℕ) → All (HasRows rows) cs → All (HasRows rows) (cs ++ blanks n)
      all-blank [] n all = all-blanks n
      all-blank (c ∷ cs) n all =
          All-cons (HasRows rows) c (cs ++ blanks n) (All-head (HasRows rows) c cs all) (all-blank cs n (All-tail (HasRows rows) c cs all))

  -- and there may be more places
  pub kept-next : (more : ℕ) → next ≤ more → IsKeptAt more rows cells written
  kept-next more le = record {
    few = (let f = kept.few in omega (arith, le, f));
    there = kept.there;
    inside = kept.inside;
    complete = kept.complete;
  }

-- also at marks
pub marks-next : (next more : ℕ) → next ≤ more → (rows : List (List Tuple)) (cells : List (List Cell)) (written : List (List Written))
    → AreKept next rows cells written → AreKept more rows cells written
marks-next next more le [] [] [] kept = tt
marks-next next more le [] [] (ws ∷ written) kept = absurd kept
marks-next next more le [] (cs ∷ cells) written kept = absurd kept
marks-next next more le (rs ∷ rows) [] written kept = absurd kept
marks-next next more le (rs ∷ rows) (cs ∷ cells) [] kept = absurd kept
marks-next next more le (rs ∷ rows) (cs ∷ cells) (ws ∷ written) kept =
    (kept-next next rs cs ws kept.0 more le, marks-next next more le rows cells written kept.1)
