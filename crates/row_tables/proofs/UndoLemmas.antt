-- Rows in place and undo lists, seen as committed rows and overlays.
use Rattle.std.proofs.Common.{◌≡◌, ◌≢◌, refl, sym, ap, ◌∙◌, ℕ, Bool, true, false, cond, ◌&&◌, ◌⊎◌, inl, inr, true≢false, List, [], ◌∷◌, map, Option, Some, None}
use Rattle.std.specs.Prelude.{T}
use Rattle.std.specs.Option.{unwrap_or, option_map}
use Rattle.std.specs.declared.cmp.Ordering.{Ordering}
use Rattle.std.specs.declared.cmp.Ordering.TheVariants.{Less, Equal, Greater}
use Rattle.std.specs.Ordering.{is_eq, is_lt, nat_cmp}
use Rattle.std.specs.Cmp.{nat_cmp_total, tied_itself}
use Rattle.std.specs.FinMap.Entries.{find, is_sorted, below_all}
use Rattle.finite_maps.specs.Map.{same_key, same_key-true, same_key-refl, get, entries, empty, get-empty, same_map, get-of_entries}
use Rattle.lock_modes.specs.RowPlace.{RowPlace, place_order, place_cmp}
use Rattle.lock_modes.specs.Rows.{Tuple, Rows'}
use Rattle.row_tables.specs.Overlay.{Overlay}
use Rattle.row_tables.specs.Layers.{session_order, overlay_of}
use Rattle.row_tables.specs.Undo.{Lists, before_in, before, AreApart, in_place, all_undone, layers}
use Rattle.row_tables.proofs.OverlayLemmas.{over, get-lay}

abbrev pub same_session : ℕ → ℕ → Bool
same_session c d = same_key session_order c d

abbrev pub same_place : RowPlace → RowPlace → Bool
same_place p q = same_key place_order p q

pub front : (a b : Bool) → T (a && b) → T a
front true b p = tt
front false b p = p

pub back : (a b : Bool) → T (a && b) → T b
back true b p = p
back false b p = absurd p

-- ---- overlays

-- what stands at a place, where it was written
abbrev pub stands : Option (Option Tuple) → Option Tuple → Option (Option Tuple)
stands None row = None
stands (Some left) row = Some row

find-in_place : (rows : Rows') (es : List (RowPlace × Option Tuple)) (q : RowPlace)
    → find place_cmp q (map (λ (e : RowPlace × Option Tuple). (e.0, get rows e.0)) es) ≡ stands (find place_cmp q es) (get rows q)
find-in_place rows [] q = refl
find-in_place rows (e ∷ es) q =
    ap (cond (same_place q e.0) (Some (get rows e.0))) (find-in_place rows es q) ∙ at (same_place q e.0) refl
  where
    at : (b : Bool) → same_place q e.0 ≡ b → cond b (Some (get rows e.0)) (stands (find place_cmp q es) (get rows q))
        ≡ stands (cond b (Some e.1) (find place_cmp q es)) (get rows q)
    at true is = ap (λ p. Some (get rows p)) (sym (same_key-true place_order q e.0 is))
    at false is = refl

pub get-in_place : (rows : Rows') (list : Overlay) (q : RowPlace) → get (in_place rows list) q ≡ stands (get list q) (get rows q)
unfolding in_place entries get
get-in_place rows list q = get-of_entries place_order _ q ∙ find-in_place rows list.list q

-- rows that agree where it was written give one overlay
pub in_place-same : (a b : Rows') (list : Overlay) → ((q : RowPlace) (left : Option Tuple) → get list q ≡ Some left → get a q ≡ get b q) → in_place a list
    ≡ in_place b list
in_place-same a b list h = same_map _ _ (λ q. get-in_place a list q ∙ at q (get list q) refl ∙ sym (get-in_place b list q))
  where
    at : (q : RowPlace) (o : Option (Option Tuple)) → get list q ≡ o → stands o (get a q) ≡ stands o (get b q)
    at q None is = refl
    at q (Some left) is = ap Some (h q left is)

find-overlays : (rows : Rows') (es : List (ℕ × Overlay)) (c : ℕ) → find nat_cmp c (map (λ (e : ℕ × Overlay). (e.0, in_place rows e.1)) es)
    ≡ option_map (in_place rows) (find nat_cmp c es)
find-overlays rows [] c = refl
find-overlays rows (e ∷ es) c =
    ap (cond (same_session c e.0) (Some (in_place rows e.1))) (find-overlays rows es c) ∙ at (same_session c e.0)
  where
    at : (b : Bool) → cond b (Some (in_place rows e.1)) (option_map (in_place rows) (find nat_cmp c es))
        ≡ option_map (in_place rows) (cond b (Some e.1) (find nat_cmp c es))
    at true = refl
    at false = refl

-- a session's overlay is what stands in place where it wrote
pub get-overlays : (rows : Rows') (lists : Lists) (c : ℕ) → get (layers rows lists).overlays c ≡ option_map (in_place rows) (get lists c)
unfolding layers entries get
get-overlays rows lists c = get-of_entries session_order _ c ∙ find-overlays rows lists.list c

pub get-overlay_of : (rows : Rows') (lists : Lists) (c : ℕ) (q : RowPlace) → get (overlay_of c (layers rows lists)) q ≡ stands (before lists c q) (get rows q)
get-overlay_of rows lists c q = ap (λ o. get (unwrap_or o empty) q) (get-overlays rows lists c) ∙ at (get lists c)
  where
    at : (o : Option Overlay) → get (unwrap_or (option_map (in_place rows) o) empty) q ≡ stands (before_in o q) (get rows q)
    at None = get-empty place_order (Option Tuple) q
    at (Some list) = get-in_place rows list q

-- ---- the committed rows

less : (r : Ordering) → T (is_lt r) → r ≡ Less
less Less p = refl
less Equal p = absurd p
less Greater p = absurd p

-- a key below all is not found
pub find_below : {K X : Type 0} (R : K → K → Ordering) (k : K) (es : List (K × X)) → T (below_all R k es) → find R k es ≡ None
find_below R k [] h = refl
find_below R k (e ∷ es) h = ap (λ r. cond (is_eq r) (Some e.1) (find R k es)) (less _ (front _ _ h)) ∙ find_below R k es (back _ _ h)

-- what the lists have before a session's write at q
abbrev at_in : List (ℕ × Overlay) → ℕ → RowPlace → Option (Option Tuple)
at_in es c q = before_in (find nat_cmp c es) q

at_in-head : (e : ℕ × Overlay) (es : List (ℕ × Overlay)) (q : RowPlace) → at_in (e ∷ es) e.0 q ≡ get e.1 q
at_in-head e es q = ap (λ r. before_in (cond (is_eq r) (Some e.1) (find nat_cmp e.0 es)) q) (tied_itself nat_cmp_total e.0)

at_in-tail : (e : ℕ × Overlay) (es : List (ℕ × Overlay)) (c : ℕ) (q : RowPlace) → T (is_sorted nat_cmp (e ∷ es)) → at_in es c q
    ≡ cond (same_session c e.0) None (at_in (e ∷ es) c q)
at_in-tail e es c q s =
    elim (same_session c e.0) as (λ b. same_session c e.0 ≡ b → at_in es c q ≡ cond b None (before_in (cond b (Some e.1) (find nat_cmp c es)) q)) [
      | true ↦ λ is. ap (λ (d : ℕ). at_in es d q) (same_key-true session_order c e.0 is) ∙ ap (λ o. before_in o q) (find_below nat_cmp e.0 es (front _ _ s))
      | false ↦ λ is. refl
    ] refl

pub none_or_none : (b : Bool) (o : Option (Option Tuple)) → o ≡ None → cond b None o ≡ None
none_or_none true o h = refl
none_or_none false o h = h

pub some_or_none : (b : Bool) (o : Option (Option Tuple)) (left : Option Tuple) → cond b None o ≡ Some left → o ≡ Some left
some_or_none true o left h = cc
some_or_none false o left h = h

-- what is in the rest of a list is in the list
at_in-more : (e : ℕ × Overlay) (es : List (ℕ × Overlay)) (c : ℕ) (q : RowPlace) (left : Option Tuple) → T (is_sorted nat_cmp (e ∷ es)) → at_in es c q
    ≡ Some left → at_in (e ∷ es) c q ≡ Some left
at_in-more e es c q left s h = some_or_none (same_session c e.0) _ left (sym (at_in-tail e es c q s) ∙ h)

-- at most one session wrote at q
abbrev IsApart : List (ℕ × Overlay) → RowPlace → Type 0
IsApart es q = (c d : ℕ) (left : Option Tuple) → d ≢ c → at_in es c q ≡ Some left → at_in es d q ≡ None

rest-apart : (e : ℕ × Overlay) (es : List (ℕ × Overlay)) (q : RowPlace) → T (is_sorted nat_cmp (e ∷ es)) → IsApart (e ∷ es) q → IsApart es q
rest-apart e es q s apart = λ c d left ne h. at_in-tail e es d q s ∙ none_or_none (same_session d e.0) _ (apart c d left ne (at_in-more e es c q left s h))

-- no session wrote at q, or one did
known : (es : List (ℕ × Overlay)) (q : RowPlace) → T (is_sorted nat_cmp es) → ((c : ℕ) → at_in es c q ≡ None)
    ⊎ ((c : ℕ) × (left : Option Tuple) × (at_in es c q ≡ Some left))
known [] q s = inl (λ c. refl)
known (e ∷ es) q s = at (get e.1 q) refl (known es q (back _ _ s))
  where
    at : (o : Option (Option Tuple)) → get e.1 q ≡ o → ((c : ℕ) → at_in es c q ≡ None) ⊎ ((c : ℕ) × (left : Option Tuple) × (at_in es c q ≡ Some left))
        → ((c : ℕ) → at_in (e ∷ es) c q ≡ None) ⊎ ((c : ℕ) × (left : Option Tuple) × (at_in (e ∷ es) c q ≡ Some left))
    at (Some left) is rest = inr (e.0, left, at_in-head e es q ∙ is)
    at None is (inl none) =
        inl (λ c. elim (same_session c e.0) as (λ b. before_in (cond b (Some e.1) (find nat_cmp c es)) q ≡ None) [ true ↦ is | false ↦ none c ])
    at None is (inr one) = inr (one.0, one.1, at_in-more e es one.0 q one.1 s one.2)

none-undone : (rows : Rows') (es : List (ℕ × Overlay)) (q : RowPlace) → T (is_sorted nat_cmp es) → ((c : ℕ) → at_in es c q ≡ None)
    → get (all_undone es rows) q ≡ get rows q
none-undone rows [] q s h = refl
none-undone rows (e ∷ es) q s h =
    get-lay e.1 (all_undone es rows) q
    ∙ ap (λ o. over o (get (all_undone es rows) q)) (sym (at_in-head e es q) ∙ h e.0)
    ∙ none-undone rows es q (back _ _ s) (λ c. at_in-tail e es c q s ∙ none_or_none (same_session c e.0) _ (h c))

some-undone : (rows : Rows') (es : List (ℕ × Overlay)) (q : RowPlace) (c : ℕ) (left : Option Tuple) → T (is_sorted nat_cmp es) → IsApart es q
    → at_in es c q ≡ Some left → get (all_undone es rows) q ≡ left
some-undone rows [] q c left s apart h = cc
some-undone rows (e ∷ es) q c left s apart h =
    get-lay e.1 (all_undone es rows) q ∙ at (same_session c e.0) refl (some-undone rows es q c left (back _ _ s) (rest-apart e es q s apart))
  where
    at : (b : Bool) → same_session c e.0 ≡ b → (at_in es c q ≡ Some left → get (all_undone es rows) q ≡ left)
        → over (get e.1 q) (get (all_undone es rows) q) ≡ left
    at true is rest = ap (λ o. over o (get (all_undone es rows) q)) (sym (at_in-head e es q)
        ∙ ap (λ (d : ℕ). at_in (e ∷ es) d q) (sym (same_key-true session_order c e.0 is)) ∙ h)
    at false is rest =
        let ne : e.0 ≢ c = λ same. true≢false (sym (same_key-refl session_order c) ∙ ap (same_session c) (sym same) ∙ is) in
        ap (λ o. over o (get (all_undone es rows) q)) (sym (at_in-head e es q) ∙ apart c e.0 left ne h)
        ∙ rest (at_in-tail e es c q s ∙ ap (λ b. cond b None (at_in (e ∷ es) c q)) is ∙ h)

-- where no session wrote, the row in place is committed
pub committed-none : (rows : Rows') (lists : Lists) (q : RowPlace) → ((c : ℕ) → before lists c q ≡ None) → get (layers rows lists).committed q ≡ get rows q
unfolding layers get entries
committed-none rows lists q h = none-undone rows lists.list q lists.sorted h

-- where one wrote, what stood there before is committed
pub committed-some : (rows : Rows') (lists : Lists) (q : RowPlace) (c : ℕ) (left : Option Tuple) → AreApart lists → before lists c q ≡ Some left
    → get (layers rows lists).committed q ≡ left
unfolding layers get entries
committed-some rows lists q c left apart h = some-undone rows lists.list q c left lists.sorted (λ c d left. apart.each c d q left) h

pub known-before : (lists : Lists) (q : RowPlace) → ((c : ℕ) → before lists c q ≡ None) ⊎ ((c : ℕ) × (left : Option Tuple) × (before lists c q ≡ Some left))
unfolding get
known-before lists q = known lists.list q lists.sorted

-- the committed row is known from the row in place and from what stood there before
pub committed-same : (a b : Rows') (lists others : Lists) (q : RowPlace) → AreApart lists → AreApart others
    → ((c : ℕ) → before lists c q ≡ before others c q) → get a q ≡ get b q → get (layers a lists).committed q ≡ get (layers b others).committed q
committed-same a b lists others q apart apart' same in_place = at (known-before lists q)
  where
    at : ((c : ℕ) → before lists c q ≡ None) ⊎ ((c : ℕ) × (left : Option Tuple) × (before lists c q ≡ Some left)) → get (layers a lists).committed q
        ≡ get (layers b others).committed q
    at (inl none) = committed-none a lists q none ∙ in_place ∙ sym (committed-none b others q (λ c. sym (same c) ∙ none c))
    at (inr one) = committed-some a lists q one.0 one.1 apart one.2 ∙ sym (committed-some b others q one.0 one.1 apart' (sym (same one.0) ∙ one.2))
