-- The steps of a store: what is done to rows in place and undo lists is the step on committed rows and overlays.
use Rattle.std.proofs.Common.{◌≡◌, ◌≢◌, refl, sym, ap, ◌∙◌, subst, ℕ, Bool, true, false, cond, true≢false, Option, Some, None}
use Rattle.std.specs.Option.{unwrap_or, option_map}
use Rattle.std.specs.Result.{OnErr}
use Rattle.std.specs.Prelude.{Result, Ok, Err}
use Rattle.finite_maps.specs.Map
use Rattle.finite_maps.specs.Map.{same_key, same_key-true, same_key-refl, get, insert, entries, empty, get-empty, get-insert, get-remove, same_map}
use Rattle.lock_modes.specs.RowPlace.{RowPlace, place_order}
use Rattle.lock_modes.specs.Rows.{Tuple, Rows'}
use Rattle.row_tables.specs.Overlay.{Overlay, laid, lay}
use Rattle.row_tables.specs.Layers.{Layers, session_order, overlay_of, sight, IsOnlyWriterAt, IsOnlyWriterIn, wrote, undone, kept, rows_of}
use Rattle.row_tables.specs.Undo.{Lists, before_in, before, noted, AreApart, in_place, layers}
use Rattle.row_tables.proofs.OverlayLemmas.{over, get-lay, get-laid}
use Rattle.row_tables.proofs.TableLemmas.{find-rows_of, sorted-rows_of, is_rows_of}
use Rattle.row_tables.proofs.UndoLemmas.{same_session, same_place, stands, get-in_place, in_place-same, get-overlays, get-overlay_of, committed-none}
use Rattle.row_tables.proofs.UndoLemmas.{committed-some, committed-same, none_or_none, some_or_none}

-- what holds in either case holds where memory was refused
pub on_err : {A E P : Type 0} (result : Result A E) → P → OnErr result P
on_err (Ok x) p = tt
on_err (Err e) p = p

-- layers with the same look-ups are one
pub same_layers : (l m : Layers) → ((q : RowPlace) → get l.committed q ≡ get m.committed q) → ((c : ℕ) → get l.overlays c ≡ get m.overlays c) → l ≡ m
same_layers l m rows overlays =
    let committed : l.committed ≡ m.committed = same_map _ _ rows in
    let each : l.overlays ≡ m.overlays = same_map _ _ overlays in
    λ i. record { committed = committed i; overlays = each i }

pub apart_from : (c d : ℕ) → same_session c d ≡ false → c ≢ d
apart_from c d is = λ same. true≢false (sym (same_key-refl session_order d) ∙ ap (λ (e : ℕ). same_session e d) (sym same) ∙ is)

stands-None : (o : Option (Option Tuple)) (row : Option Tuple) → stands o row ≡ None → o ≡ None
stands-None None row h = refl
stands-None (Some left) row h = cc

-- ---- what a session sees

-- where a session is the only writer, no other session's list has what stood there before
pub only-before : (rows : Rows') (lists : Lists) (session : ℕ) (q : RowPlace) → IsOnlyWriterAt session q (layers rows lists) → (other : ℕ)
    → other ≢ session → before lists other q ≡ None
only-before rows lists session q alone other ne = stands-None (before lists other q) (get rows q) (sym (get-overlay_of rows lists other q) ∙ alone other ne)

-- where one session alone may have written and did not, none did
none-before : (lists : Lists) (session : ℕ) (q : RowPlace) → ((other : ℕ) → other ≢ session → before lists other q ≡ None) → before lists session q ≡ None
    → (c : ℕ) → before lists c q ≡ None
none-before lists session q alone none c =
    elim (same_session c session) as (λ b. same_session c session ≡ b → before lists c q ≡ None) [
      | true ↦ λ same. ap (λ (d : ℕ). before lists d q) (same_key-true session_order c session same) ∙ none
      | false ↦ λ is. alone c (apart_from c session is)
    ] refl

get-sight : (rows : Rows') (lists : Lists) (session : ℕ) (q : RowPlace) → get (sight session (layers rows lists)) q
    ≡ over (stands (before lists session q) (get rows q)) (get (layers rows lists).committed q)
get-sight rows lists session q =
    get-lay (overlay_of session (layers rows lists)) (layers rows lists).committed q
    ∙ ap (λ o. over o (get (layers rows lists).committed q)) (get-overlay_of rows lists session q)

in_place-seen : (rows : Rows') (lists : Lists) (session : ℕ) (q : RowPlace) → IsOnlyWriterAt session q (layers rows lists) → get rows q
    ≡ get (sight session (layers rows lists)) q
in_place-seen rows lists session q alone = sym (get-sight rows lists session q ∙ at (before lists session q) refl)
  where
    at : (o : Option (Option Tuple)) → before lists session q ≡ o → over (stands o (get rows q)) (get (layers rows lists).committed q) ≡ get rows q
    at (Some left) is = refl
    at None is = committed-none rows lists q (none-before lists session q (only-before rows lists session q alone) is)

-- where a session is the only writer, it sees what stands in place
pub seen : (rows : Rows') (lists : Lists) (l : Layers) (session : ℕ) (q : RowPlace) → layers rows lists ≡ l → IsOnlyWriterAt session q l → get rows q
    ≡ get (sight session l) q
seen rows lists l session q is =
    subst (λ (m : Layers). IsOnlyWriterAt session q m → get rows q ≡ get (sight session m) q) is (in_place-seen rows lists session q)

pub rows_of-seen : (rows : Rows') (lists : Lists) (l : Layers) (session table : ℕ) → layers rows lists ≡ l → IsOnlyWriterIn session table l
    → rows_of table rows ≡ rows_of table (sight session l)
rows_of-seen rows lists l session table is alone =
    is_rows_of table (sight session l) (rows_of table rows) (sorted-rows_of table rows) (λ key. find-rows_of table key rows
    ∙ seen rows lists l session (table, key) is (alone key))

-- ---- a session's list is dropped

drop-before : (b : Bool) (o : Option Overlay) (q : RowPlace) → before_in (cond b None o) q ≡ cond b None (before_in o q)
drop-before true o q = refl
drop-before false o q = refl

before-removed : (lists : Lists) (session c : ℕ) (q : RowPlace) → before (Map.remove lists session) c q ≡ cond (same_session c session) None (before lists c q)
before-removed lists session c q = ap (λ o. before_in o q) (get-remove lists session c) ∙ drop-before (same_session c session) (get lists c) q

pub removed-apart : (lists : Lists) (session : ℕ) → AreApart lists → AreApart (Map.remove lists session)
removed-apart lists session apart = record {
  each = λ c d q left ne h.
      let did : before lists c q ≡ Some left = some_or_none (same_session c session) _ left (sym (before-removed lists session c q) ∙ h) in
      before-removed lists session d q ∙ none_or_none (same_session d session) _ (apart.each c d q left ne did);
}

-- where the session wrote, no other did
removed-alone : (lists : Lists) (session : ℕ) (q : RowPlace) (left : Option Tuple) → AreApart lists → before lists session q ≡ Some left → (c : ℕ)
    → before (Map.remove lists session) c q ≡ None
removed-alone lists session q left apart did c =
    before-removed lists session c q
    ∙ elim (same_session c session) as (λ b. same_session c session ≡ b → cond b None (before lists c q) ≡ None) [
      | true ↦ λ is. refl
      | false ↦ λ is. apart.each session c q left (apart_from c session is) did
    ] refl

-- where the session did not write, each list has what it had
removed-same : (lists : Lists) (session : ℕ) (q : RowPlace) → before lists session q ≡ None → (c : ℕ) → before (Map.remove lists session) c q ≡ before lists c q
removed-same lists session q none c =
    before-removed lists session c q
    ∙ elim (same_session c session) as (λ b. same_session c session ≡ b → cond b None (before lists c q) ≡ before lists c q) [
      | true ↦ λ is. sym (ap (λ (d : ℕ). before lists d q) (same_key-true session_order c session is) ∙ none)
      | false ↦ λ is. refl
    ] refl

-- the row in place was written by the session, and then it is committed; else what was committed is
pub kept-layers : (rows : Rows') (lists : Lists) (session : ℕ) → AreApart lists → layers rows (Map.remove lists session) ≡ kept session (layers rows lists)
kept-layers rows lists session apart = same_layers _ _ (λ q. committed q (before lists session q) refl ∙ sym (get-sight rows lists session q)) overlays
  where
    committed : (q : RowPlace) (o : Option (Option Tuple)) → before lists session q ≡ o → get (layers rows (Map.remove lists session)).committed q
        ≡ over (stands (before lists session q) (get rows q)) (get (layers rows lists).committed q)
    committed q (Some left) is =
        committed-none rows (Map.remove lists session) q (removed-alone lists session q left apart is)
        ∙ sym (ap (λ o. over (stands o (get rows q)) (get (layers rows lists).committed q)) is)
    committed q None is =
        committed-same rows rows (Map.remove lists session) lists q (removed-apart lists session apart) apart (removed-same lists session q is) refl
        ∙ sym (ap (λ o. over (stands o (get rows q)) (get (layers rows lists).committed q)) is)

    dropped : (b : Bool) (o : Option Overlay) → option_map (in_place rows) (cond b None o) ≡ cond b None (option_map (in_place rows) o)
    dropped true o = refl
    dropped false o = refl

    overlays : (c : ℕ) → get (layers rows (Map.remove lists session)).overlays c ≡ get (Map.remove (layers rows lists).overlays session) c
    overlays c =
        get-overlays rows (Map.remove lists session) c
        ∙ ap (option_map (in_place rows)) (get-remove lists session c)
        ∙ dropped (same_session c session) (get lists c)
        ∙ ap (cond (same_session c session) None) (sym (get-overlays rows lists c))
        ∙ sym (get-remove (layers rows lists).overlays session c)

-- a session without a list has nothing to undo
pub nothing-undone : (rows : Rows') (lists : Lists) (session : ℕ) → get lists session ≡ None → layers rows lists ≡ undone session (layers rows lists)
nothing-undone rows lists session none =
    same_layers _ _ (λ q. refl) (λ c. sym (get-remove (layers rows lists).overlays session c ∙ at c (same_session c session) refl))
  where
    at : (c : ℕ) (b : Bool) → same_session c session ≡ b → cond b None (get (layers rows lists).overlays c) ≡ get (layers rows lists).overlays c
    at c true is = sym (ap (λ (d : ℕ). get (layers rows lists).overlays d) (same_key-true session_order c session is) ∙ get-overlays rows lists session
        ∙ ap (option_map (in_place rows)) none)
    at c false is = refl

-- what stood before the session's writes stands again
pub undone-layers : (rows : Rows') (lists : Lists) (session : ℕ) (list : Overlay) → AreApart lists → get lists session ≡ Some list
    → layers (lay list rows) (Map.remove lists session) ≡ undone session (layers rows lists)
undone-layers rows lists session list apart is = same_layers _ _ (λ q. committed q (before lists session q) refl) overlays
  where
    has : (q : RowPlace) → get list q ≡ before lists session q
    has q = sym (ap (λ o. before_in o q) is)

    committed : (q : RowPlace) (o : Option (Option Tuple)) → before lists session q ≡ o
        → get (layers (lay list rows) (Map.remove lists session)).committed q ≡ get (layers rows lists).committed q
    committed q (Some left) did =
        committed-none (lay list rows) (Map.remove lists session) q (removed-alone lists session q left apart did)
        ∙ get-lay list rows q
        ∙ ap (λ o. over o (get rows q)) (has q ∙ did)
        ∙ sym (committed-some rows lists q session left apart did)
    committed q None none =
        committed-same (lay list rows) rows (Map.remove lists session) lists q (removed-apart lists session apart) apart
        (removed-same lists session q none) (get-lay list rows q ∙ ap (λ o. over o (get rows q)) (has q ∙ none))

    same : (c : ℕ) → same_session c session ≡ false → (o : Option Overlay) → get lists c ≡ o → option_map (in_place (lay list rows)) o
        ≡ option_map (in_place rows) o
    same c ne None h = refl
    same c ne (Some other) h =
        ap Some (in_place-same (lay list rows) rows other (λ q left did.
        get-lay list rows q
        ∙ ap (λ o. over o (get rows q)) (has q ∙ apart.each c session q left (λ e. apart_from c session ne (sym e)) (ap (λ o. before_in o q) h ∙ did))))

    at : (c : ℕ) (b : Bool) → same_session c session ≡ b → option_map (in_place (lay list rows)) (cond b None (get lists c))
        ≡ cond b None (get (layers rows lists).overlays c)
    at c true h = refl
    at c false h = same c h (get lists c) refl ∙ sym (get-overlays rows lists c)

    overlays : (c : ℕ) → get (layers (lay list rows) (Map.remove lists session)).overlays c ≡ get (Map.remove (layers rows lists).overlays session) c
    overlays c =
        get-overlays (lay list rows) (Map.remove lists session) c
        ∙ ap (option_map (in_place (lay list rows))) (get-remove lists session c)
        ∙ at c (same_session c session) refl
        ∙ sym (get-remove (layers rows lists).overlays session c)

-- ---- a session writes

get-noted : (place : RowPlace) (rows : Rows') (list : Overlay) (q : RowPlace) → get (noted place rows list) q
    ≡ cond (same_place q place) (Some (unwrap_or (get list place) (get rows place))) (get list q)
get-noted place rows list q = at (get list place) refl
  where
    again : (b : Bool) (left : Option Tuple) → same_place q place ≡ b → get list place ≡ Some left → get list q ≡ cond b (Some left) (get list q)
    again true left is h = ap (get list) (same_key-true place_order q place is) ∙ h
    again false left is h = refl

    at : (o : Option (Option Tuple)) → get list place ≡ o → get (elim o [ None ↦ insert list place (get rows place) | Some left ↦ list ]) q
        ≡ cond (same_place q place) (Some (unwrap_or o (get rows place))) (get list q)
    at None is = get-insert list place (get rows place) q
    at (Some left) is = again (same_place q place) left refl is

put-before : (b : Bool) (list : Overlay) (o : Option Overlay) (q : RowPlace) → before_in (cond b (Some list) o) q ≡ cond b (get list q) (before_in o q)
put-before true list o q = refl
put-before false list o q = refl

before-empty : (o : Option Overlay) (q : RowPlace) → get (unwrap_or o empty) q ≡ before_in o q
before-empty None q = get-empty place_order (Option Tuple) q
before-empty (Some list) q = refl

module _ (rows : Rows') (lists : Lists) (session : ℕ) (place : RowPlace) (left : Option Tuple) (apart : AreApart lists) (alone : (other : ℕ)
    → other ≢ session → before lists other place ≡ None) where
  abbrev new_list : Overlay
  new_list = noted place rows (unwrap_or (get lists session) empty)

  abbrev new_lists : Lists
  new_lists = insert lists session new_list

  abbrev new_rows : Rows'
  new_rows = laid place left rows

  get-new_list : (q : RowPlace) → get new_list q
      ≡ cond (same_place q place) (Some (unwrap_or (before lists session place) (get rows place))) (before lists session q)
  get-new_list q =
      get-noted place rows (unwrap_or (get lists session) empty) q
      ∙ ap (λ o. cond (same_place q place) (Some (unwrap_or o (get rows place))) (get (unwrap_or (get lists session) empty) q))
      (before-empty (get lists session) place)
      ∙ ap (cond (same_place q place) (Some (unwrap_or (before lists session place) (get rows place)))) (before-empty (get lists session) q)

  before-new : (c : ℕ) (q : RowPlace) → before new_lists c q ≡ cond (same_session c session) (get new_list q) (before lists c q)
  before-new c q = ap (λ o. before_in o q) (get-insert lists session new_list c) ∙ put-before (same_session c session) new_list (get lists c) q

  -- at the place
  before-here : before new_lists session place ≡ Some (unwrap_or (before lists session place) (get rows place))
  before-here =
      before-new session place
      ∙ ap (λ b. cond b (get new_list place) (before lists session place)) (same_key-refl session_order session)
      ∙ get-new_list place
      ∙ ap (λ b. cond b (Some (unwrap_or (before lists session place) (get rows place))) (before lists session place)) (same_key-refl place_order place)

  others-here : (c : ℕ) → c ≢ session → before new_lists c place ≡ None
  others-here c ne =
      before-new c place
      ∙ elim (same_session c session) as (λ b. same_session c session ≡ b → cond b (get new_list place) (before lists c place) ≡ None) [
        | true ↦ λ is. absurd (ne (same_key-true session_order c session is))
        | false ↦ λ is. alone c ne
      ] refl

  -- elsewhere
  before-there : (c : ℕ) (q : RowPlace) → same_place q place ≡ false → before new_lists c q ≡ before lists c q
  before-there c q not_here =
      let list : get new_list q ≡ before lists session q = get-new_list q
      ∙ ap (λ b. cond b (Some (unwrap_or (before lists session place) (get rows place))) (before lists session q)) not_here in
      before-new c q
      ∙ elim (same_session c session) as (λ b. same_session c session ≡ b → cond b (get new_list q) (before lists c q) ≡ before lists c q) [
        | true ↦ λ is. list ∙ ap (λ (d : ℕ). before lists d q) (sym (same_key-true session_order c session is))
        | false ↦ λ is. refl
      ] refl

  row-there : (q : RowPlace) → same_place q place ≡ false → get new_rows q ≡ get rows q
  row-there q not_here = get-laid place left rows q ∙ ap (λ b. cond b left (get rows q)) not_here

  not_both : (c : ℕ) (x : Option Tuple) → before new_lists c place ≡ Some x → (d : ℕ) → d ≢ c → before new_lists d place ≡ None
  not_both c x h d ne =
      elim (same_session c session) as (λ b. same_session c session ≡ b → before new_lists d place ≡ None) [
        | true ↦ λ is. others-here d (λ e. ne (e ∙ sym (same_key-true session_order c session is)))
        | false ↦ λ is. let none : before new_lists c place ≡ None = others-here c (apart_from c session is) in cc
      ] refl

  pub new-apart : AreApart new_lists
  new-apart = record {
    each = λ c d q x ne h.
        elim (same_place q place) as (λ b. same_place q place ≡ b → before new_lists d q ≡ None) [
          | true ↦ λ is.
              let here : q ≡ place = same_key-true place_order q place is in
              ap (before new_lists d) here ∙ not_both c x (ap (before new_lists c) (sym here) ∙ h) d ne
          | false ↦ λ is. before-there d q is ∙ apart.each c d q x ne (sym (before-there c q is) ∙ h)
        ] refl;
  }

  committed-here : (o : Option (Option Tuple)) → before lists session place ≡ o → get (layers new_rows new_lists).committed place
      ≡ get (layers rows lists).committed place
  committed-here (Some x) is =
      committed-some new_rows new_lists place session x new-apart (before-here ∙ ap (λ o. Some (unwrap_or o (get rows place))) is)
      ∙ sym (committed-some rows lists place session x apart is)
  committed-here None is =
      committed-some new_rows new_lists place session (get rows place) new-apart (before-here ∙ ap (λ o. Some (unwrap_or o (get rows place))) is)
      ∙ sym (committed-none rows lists place (none-before lists session place alone is))

  committed-stays : (q : RowPlace) → get (layers new_rows new_lists).committed q ≡ get (layers rows lists).committed q
  committed-stays q =
      elim (same_place q place) as (λ b. same_place q place ≡ b → get (layers new_rows new_lists).committed q ≡ get (layers rows lists).committed q) [
        | true ↦ λ is.
            let here : q ≡ place = same_key-true place_order q place is in
            subst (λ (p : RowPlace). get (layers new_rows new_lists).committed p
            ≡ get (layers rows lists).committed p) (sym here) (committed-here (before lists session place) refl)
        | false ↦ λ is. committed-same new_rows rows new_lists lists q new-apart apart (λ c. before-there c q is) (row-there q is)
      ] refl

  own-overlay : in_place new_rows new_list ≡ insert (overlay_of session (layers rows lists)) place left
  own-overlay = same_map _ _ (λ q. get-in_place new_rows new_list q ∙ at q (same_place q place) refl
      ∙ sym (get-insert (overlay_of session (layers rows lists)) place left q))
    where
      at : (q : RowPlace) (b : Bool) → same_place q place ≡ b → stands (get new_list q) (get new_rows q)
          ≡ cond (same_place q place) (Some left) (get (overlay_of session (layers rows lists)) q)
      at q true is =
          ap (λ o. stands o (get new_rows q)) (get-new_list q
          ∙ ap (λ b. cond b (Some (unwrap_or (before lists session place) (get rows place))) (before lists session q)) is)
          ∙ ap Some (get-laid place left rows q ∙ ap (λ b. cond b left (get rows q)) is)
          ∙ sym (ap (λ b. cond b (Some left) (get (overlay_of session (layers rows lists)) q)) is)
      at q false is =
          ap (λ o. stands o (get new_rows q)) (get-new_list q
          ∙ ap (λ b. cond b (Some (unwrap_or (before lists session place) (get rows place))) (before lists session q)) is)
          ∙ ap (stands (before lists session q)) (row-there q is)
          ∙ sym (get-overlay_of rows lists session q)
          ∙ sym (ap (λ b. cond b (Some left) (get (overlay_of session (layers rows lists)) q)) is)

  other-overlay : (c : ℕ) → c ≢ session → (o : Option Overlay) → get lists c ≡ o → option_map (in_place new_rows) o ≡ option_map (in_place rows) o
  other-overlay c ne None h = refl
  other-overlay c ne (Some other) h = ap Some (in_place-same new_rows rows other (λ q x did. at q x did (same_place q place) refl))
    where
      at : (q : RowPlace) (x : Option Tuple) → get other q ≡ Some x → (b : Bool) → same_place q place ≡ b → get new_rows q ≡ get rows q
      at q x did true is =
          let none : before lists c place ≡ None = alone c ne in
          let some : before lists c place ≡ Some x = ap (λ o. before_in o place) h ∙ ap (get other) (sym (same_key-true place_order q place is)) ∙ did in
          cc
      at q x did false is = row-there q is

  overlay-new : (c : ℕ) → get (layers new_rows new_lists).overlays c
      ≡ get (insert (layers rows lists).overlays session (insert (overlay_of session (layers rows lists)) place left)) c
  overlay-new c =
      get-overlays new_rows new_lists c
      ∙ ap (option_map (in_place new_rows)) (get-insert lists session new_list c)
      ∙ elim (same_session c session) as (λ b. same_session c session ≡ b → option_map (in_place new_rows) (cond b (Some new_list) (get lists c))
      ≡ cond b (Some (insert (overlay_of session (layers rows lists)) place left)) (get (layers rows lists).overlays c)) [
        | true ↦ λ is. ap Some own-overlay
        | false ↦ λ is. other-overlay c (apart_from c session is) (get lists c) refl ∙ sym (get-overlays rows lists c)
      ] refl
      ∙ sym (get-insert (layers rows lists).overlays session (insert (overlay_of session (layers rows lists)) place left) c)

  -- the place is noted and the row replaced
  pub wrote-layers : layers new_rows new_lists ≡ wrote session place left (layers rows lists)
  wrote-layers = same_layers _ _ committed-stays overlay-new
