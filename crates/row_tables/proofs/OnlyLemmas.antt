-- What is left of a store where each other session is undone.
use Rattle.std.proofs.Common.{◌≡◌, refl, sym, ap, ◌∙◌, ℕ, Bool, true, false, cond, List, [], ◌∷◌, Option, Some, None}
use Rattle.std.specs.Option.{option_map}
use Rattle.std.specs.Ordering.{nat_cmp}
use Rattle.std.specs.Cmp.{nat_cmp_total, eq_by_cmp_equiv}
use Rattle.std.specs.FinMap.Entries.{find}
use Rattle.finite_maps.specs.Map.{same_key-true, get, get-keep, get-remove, of_entries, get-of_entries}
use Rattle.lock_modes.specs.Rows.{Rows'}
use Rattle.row_tables.specs.Overlay.{Overlay}
use Rattle.row_tables.specs.Layers.{Layers, session_order, undone, undone_unless, only}
use Rattle.row_tables.specs.Undo.{Lists, in_place, layers}
use Rattle.row_tables.proofs.UndoLemmas.{same_session, get-overlays}
use Rattle.row_tables.proofs.StoreLemmas.{same_layers}

-- the sessions of these entries are undone, but for one
abbrev pub undone_others : ℕ → List (ℕ × Overlay) → Layers → Layers
undone_others session [] l = l
undone_others session (e ∷ es) l = undone_others session es (undone_unless session e.0 l)

-- ---- committed rows stay

committed-unless : (session other : ℕ) (l : Layers) → (undone_unless session other l).committed ≡ l.committed
committed-unless session other l = at (same_session other session)
  where
    at : (b : Bool) → (cond b l (undone other l)).committed ≡ l.committed
    at true = refl
    at false = refl

committed-others : (session : ℕ) (es : List (ℕ × Overlay)) (l : Layers) → (undone_others session es l).committed ≡ l.committed
committed-others session [] l = refl
committed-others session (e ∷ es) l = committed-others session es (undone_unless session e.0 l) ∙ committed-unless session e.0 l

-- ---- overlays

get-unless : (session other : ℕ) (l : Layers) (c : ℕ) → get (undone_unless session other l).overlays c
    ≡ cond (same_session other session) (get l.overlays c) (cond (same_session c other) None (get l.overlays c))
get-unless session other l c = at (same_session other session)
  where
    at : (b : Bool) → get (cond b l (undone other l)).overlays c ≡ cond b (get l.overlays c) (cond (same_session c other) None (get l.overlays c))
    at true = refl
    at false = get-remove l.overlays other c

-- its own stays
own-unless : (session other : ℕ) (l : Layers) → get (undone_unless session other l).overlays session ≡ get l.overlays session
own-unless session other l = get-unless session other l session ∙ at (same_session other session) refl
  where
    at : (b : Bool) → same_session other session ≡ b
        → cond b (get l.overlays session) (cond (same_session session other) None (get l.overlays session)) ≡ get l.overlays session
    at true is = refl
    at false is = ap (λ b. cond b None (get l.overlays session)) ((eq_by_cmp_equiv nat_cmp_total).symm session other ∙ is)

own-others : (session : ℕ) (es : List (ℕ × Overlay)) (l : Layers) → get (undone_others session es l).overlays session ≡ get l.overlays session
own-others session [] l = refl
own-others session (e ∷ es) l = own-others session es (undone_unless session e.0 l) ∙ own-unless session e.0 l

none_both : (a b : Bool) (x : Option Overlay) → x ≡ None → cond a x (cond b None x) ≡ None
none_both true b x h = h
none_both false true x h = refl
none_both false false x h = h

-- and that of another one goes, where it is among the entries if it has any
other-others : (session c : ℕ) → same_session c session ≡ false → (es : List (ℕ × Overlay)) (l : Layers)
    → (find nat_cmp c es ≡ None → get l.overlays c ≡ None) → get (undone_others session es l).overlays c ≡ None
other-others session c ne [] l h = h refl
other-others session c ne (e ∷ es) l h =
    other-others session c ne es (undone_unless session e.0 l) (λ none. get-unless session e.0 l c ∙ at (same_session c e.0) refl none)
  where
    at : (b : Bool) → same_session c e.0 ≡ b → find nat_cmp c es ≡ None
        → cond (same_session e.0 session) (get l.overlays c) (cond (same_session c e.0) None (get l.overlays c)) ≡ None
    at true is none =
        ap (λ b. cond b (get l.overlays c) (cond (same_session c e.0) None (get l.overlays c)))
        (ap (λ (d : ℕ). same_session d session) (sym (same_key-true session_order c e.0 is)) ∙ ne)
        ∙ ap (λ b. cond b None (get l.overlays c)) is
    at false is none =
        none_both (same_session e.0 session) (same_session c e.0) (get l.overlays c) (h (ap (λ b. cond b (Some e.1) (find nat_cmp c es)) is ∙ none))

-- ---- all of it

pub only-others : (session : ℕ) (rows : Rows') (lists : Lists) (es : List (ℕ × Overlay)) → of_entries session_order es ≡ lists
    → undone_others session es (layers rows lists) ≡ only session (layers rows lists)
only-others session rows lists es are =
    same_layers _ _ (λ q. ap (λ (r : Rows'). get r q) (committed-others session es (layers rows lists))) (λ c. overlays c (same_session c session) refl)
  where
    none-there : (c : ℕ) → find nat_cmp c es ≡ None → get (layers rows lists).overlays c ≡ None
    none-there c none =
        get-overlays rows lists c
        ∙ ap (option_map (in_place rows)) (ap (λ (m : Lists). get m c) (sym are) ∙ get-of_entries session_order es c ∙ none)

    overlays : (c : ℕ) (b : Bool) → same_session c session ≡ b
        → get (undone_others session es (layers rows lists)).overlays c ≡ get (only session (layers rows lists)).overlays c
    overlays c true is =
        let e : c ≡ session = same_key-true session_order c session is in
        ap (λ (d : ℕ). get (undone_others session es (layers rows lists)).overlays d) e
        ∙ own-others session es (layers rows lists)
        ∙ ap (λ (d : ℕ). get (layers rows lists).overlays d) (sym e)
        ∙ sym (get-keep (λ d. same_session d session) (layers rows lists).overlays c
        ∙ ap (λ b. cond b (get (layers rows lists).overlays c) None) is)
    overlays c false is =
        other-others session c is es (layers rows lists) (none-there c)
        ∙ sym (get-keep (λ d. same_session d session) (layers rows lists).overlays c
        ∙ ap (λ b. cond b (get (layers rows lists).overlays c) None) is)
