-- Rows that become more, and at marks.
use Rattle.std.specs.Prelude.{◌≡◌, refl, ℕ, Option, Some, slice_get, ◌≤◌, List, [], ◌∷◌, ◌++◌, length, map, reverse, take, get_or, All}
use Rattle.std.proofs.Common.{sym, ap, ◌∙◌, subst, arith, length-append}
use Rattle.std.proofs.lemmas.List.{get_or_at, get_or_append_left, length-take-le, map-append, reverse-append, take-append-le, take-take}
use Rattle.std.proofs.lemmas.List.Elements.{All-get_or, All-head, All-tail, All-weaker}
use Rattle.std.specs.Option.{option_to_list}
use Rattle.lock_modes.specs.Rows.{Tuple}
use Rattle.marked_lists.specs.Versions.{Versions}
use Rattle.marked_rows.specs.Kept.{IsNumber}
use Rattle.marked_rows.specs.Cells.{row_with}
use Rattle.marked_rows.specs.Pool.{AreNoMore, AreThere, IsPool, pool_of, rows_at}

-- functions that agree on each item give one list
map-same : {A B : Type 0} (P : A → Type 0) (f g : A → B) → ((x : A) → P x → f x ≡ g x) → (xs : List A) → All P xs → map f xs ≡ map g xs
map-same P f g same [] each = refl
map-same P f g same (x ∷ xs) each = ap (λ y. y ∷ map f xs) (same x (All-head P x xs each)) ∙ ap (λ ys. g x ∷ ys) (map-same P f g same xs (All-tail P x xs each))

-- a row more changes none of the rows at marks
rows-push : (rows : List Tuple) (marks : List ℕ) (row : Tuple) → All (AreThere rows) marks → rows_at (rows ++ row ∷ []) marks ≡ rows_at rows marks
rows-push rows marks row few =
    ap reverse (map-same (AreThere rows) (λ n. take n (rows ++ row ∷ [])) (λ n. take n rows) (λ n le. take-append-le n rows (row ∷ []) le) marks few)

pub pool-added : (rows new : List Tuple) (marks : List ℕ) (now : Versions Tuple) (row : Tuple) (given : Option Tuple) → IsPool rows marks
    → pool_of rows marks ≡ now → given ≡ Some row → new ≡ rows ++ row ∷ [] → pool_of new marks ≡ record now { list = now.list ++ option_to_list given }
pool-added rows new marks now row given pool is some more =
    ap (λ rs. pool_of rs marks) more
    ∙ ap (λ m. let x : Versions Tuple = record { list = rows ++ row ∷ []; marked = m } in x) (rows-push rows marks row pool.few)
    ∙ ap (λ o. let x : Versions Tuple = record { list = rows ++ option_to_list o; marked = rows_at rows marks } in x) (sym some)
    ∙ ap (λ (v : Versions Tuple). record v { list = v.list ++ option_to_list given }) is

get-last : (rows : List Tuple) (row : Tuple) → slice_get (rows ++ row ∷ []) (length rows) ≡ Some row
get-last [] row = refl
get-last (r ∷ rows) row = get-last rows row

-- the last row has the number of those before it
pub number-added : (rows new : List Tuple) (row : Tuple) (given : Option Tuple) (n : ℕ) → n ≡ length rows → given ≡ Some row → new ≡ rows ++ row ∷ []
    → IsNumber new (Some n) × (row_with new (Some n) ≡ given)
number-added rows new row given n is some more =
    subst (λ rs. IsNumber rs (Some n) × (row_with rs (Some n) ≡ given)) (sym more)
    (subst (λ k. IsNumber (rows ++ row ∷ []) (Some k) × (row_with (rows ++ row ∷ []) (Some k) ≡ given)) (sym is)
    (omega (arith, length-append rows (row ∷ [])), get-last rows row ∙ sym some))

module _ (rows : List Tuple) (marks : List ℕ) (n : ℕ) (pool : IsPool rows (marks ++ n ∷ [])) where
  inside : n ≤ length rows
  inside =
      subst (AreThere rows) (get_or_at marks n [] 0 (length marks) refl)
      (All-get_or (AreThere rows) (marks ++ n ∷ []) (length marks) 0 (omega (arith, length-append marks (n ∷ []))) pool.few)

  older : All (λ m. m ≤ n) marks
  older i d lt =
      subst (λ x. x ≤ n) (get_or_append_left marks (n ∷ []) d i lt)
      (subst (λ x. get_or (marks ++ n ∷ []) i d ≤ x) (get_or_at marks n [] d (length marks) refl)
      (pool.rising i (length marks) d lt (omega (arith, length-append marks (n ∷ [])))))

  -- behind the way back the newest mark is gone
  rows-back : rows_at rows (marks ++ n ∷ []) ≡ take n rows ∷ rows_at (take n rows) marks
  rows-back =
      ap reverse (map-append (λ m. take m rows) marks (n ∷ [])) ∙ reverse-append (map (λ m. take m rows) marks) (take n rows ∷ [])
      ∙ ap (λ rest. take n rows ∷ reverse rest) (map-same (λ m. m ≤ n) (λ m. take m rows) (λ m. take m (take n rows)) (λ m le. sym (take-take m n rows le)) marks older)

  pool-back : IsPool (take n rows) marks
  pool-back = record {
    few = All-weaker (λ m. m ≤ n) (AreThere (take n rows)) (λ m le. omega (arith, length-take-le n rows inside)) marks older;
    rising = λ i j d before lt.
        subst (λ x. AreNoMore x (get_or marks j d)) (get_or_append_left marks (n ∷ []) d i (omega arith))
        (subst (AreNoMore (get_or (marks ++ n ∷ []) i d)) (get_or_append_left marks (n ∷ []) d j lt)
        (pool.rising i j d before (omega (arith, length-append marks (n ∷ [])))));
  }

-- the rows behind the way back, by the marks before it
pub back-is : (rows new : List Tuple) (all marks : List ℕ) (n : ℕ) (now : Versions Tuple) → IsPool rows all → pool_of rows all ≡ now → all ≡ marks ++ n ∷ []
    → new ≡ take n rows → IsPool new marks × (now.marked ≡ new ∷ rows_at new marks)
back-is rows new all marks n now pool is last cut =
    let same = subst (IsPool rows) last pool in (
      subst (λ rs. IsPool rs marks) (sym cut) (pool-back rows marks n same),
      sym (ap (λ (v : Versions Tuple). v.marked) is) ∙ ap (rows_at rows) last ∙ rows-back rows marks n same ∙ ap (λ rs. rs ∷ rows_at rs marks) (sym cut),
    )
