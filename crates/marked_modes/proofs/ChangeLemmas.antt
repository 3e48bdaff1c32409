-- What is kept, and held, behind each change.
use Rattle.std.specs.Prelude.{◌≡◌, ℕ, ◌<◌, not, ◌==◌, List, [], ◌∷◌, ◌++◌, length, map, get_or, take, Some, Result, Ok, Err, OnOk, OnErr}
use Rattle.std.proofs.Common.{sym, ap, ◌∙◌, subst, inl, inr}
use Rattle.std.specs.declared.alloc.AllocError.{AllocError}
use Rattle.finite_maps.specs.Map.{insert, keep}
use Rattle.lock_modes.specs.declared.mode.Mode.{Mode}
use Rattle.lock_modes.specs.declared.resource.Resource.{Resource}
use Rattle.lock_queues.specs.LockTable.{Holding}
use Rattle.marked_lists.specs.Versions.{Versions}
use Rattle.marked_modes.specs.Held.{MarkedHolds, TakesSome, held_map}
use Rattle.marked_modes.specs.Kept.{Forgets, IsKept, cleared, holds_of, no_modes, put_mode}
use Rattle.marked_modes.specs.declared.row.ModeRow.{ModeRow}
use Rattle.marked_modes.specs.declared.row.Given.{Given}
use Rattle.marked_modes.proofs.HeldLemmas.{held-part, held-put, held-take, kept-all, kept-cleared, kept-given, kept-noted}

module _ (rs : List Resource) (rows : Versions ModeRow) (given : Versions Given) (kept : IsKept rs rows given) where
  abbrev put : ℕ → ℕ → Mode → Versions ModeRow
  put k s m = record rows { list = put_mode rows.list k s (Some m) }

  abbrev noted : Given → Versions Given
  noted g = record given { list = given.list ++ g ∷ [] }

  pub give-kept : (rows' : Versions ModeRow) (given' : Versions Given) (g : Given) (m : Mode) (result : Result (Unit {0}) AllocError) → g.place < length rs
      → given' ≡ noted g → OnOk result (rows' ≡ put g.place g.session m) → OnErr result (rows' ≡ rows) → IsKept rs rows' given'
  give-kept rows' given' g m (Ok u) lt noted-is put-is same =
      subst (λ gs. IsKept rs rows' gs) (sym noted-is) (subst (λ r. IsKept rs r (noted g)) (sym put-is) (record {
        rise = kept.rise;
        now = kept-given rs rows.list given.list g m kept.now lt;
        marked = kept.marked;
      }))
  give-kept rows' given' g m (Err e) lt noted-is put-is same =
      subst (λ gs. IsKept rs rows' gs) (sym noted-is) (subst (λ r. IsKept rs r (noted g)) (sym same) (record {
        rise = kept.rise;
        now = kept-noted rs rows.list given.list kept.now g lt;
        marked = kept.marked;
      }))

  abbrev held_with : ℕ → Resource → Mode → MarkedHolds
  held_with s r m = record { resources = rs; now = insert (held_map rs rows.list) (s, r) m; marked = map (held_map rs) rows.marked }

  pub give-held : (rows' : Versions ModeRow) (k s : ℕ) (m : Mode) (d : Resource) (result : Result (Unit {0}) AllocError) → k < length rs
      → s < length (get_or rows.list k no_modes).modes → OnOk result (rows' ≡ put k s m) → OnOk result (holds_of rs rows' ≡ held_with s (get_or rs k d) m)
  give-held rows' k s m d (Ok u) lt few put-is =
      ap (holds_of rs) put-is
      ∙ ap (λ now. let x : MarkedHolds = record { resources = rs; now = now; marked = map (held_map rs) rows.marked } in x)
      (held-put rs rows.list k s m d kept.rise lt kept.now.count few)
  give-held rows' k s m d (Err e) lt few put-is = tt

  abbrev clear : ℕ → List Given → Versions ModeRow
  clear s gs = record rows { list = cleared s gs rows.list }

  kept-clear : (s : ℕ) (gs : List Given) → IsKept rs (clear s gs) given
  kept-clear s gs = record { rise = kept.rise; now = kept-cleared rs rows.list given.list kept.now s gs; marked = kept.marked }

  -- what is cleared is kept, whether what was given is forgotten or not
  pub clear-kept : (rows' : Versions ModeRow) (given' : Versions Given) (s : ℕ) → rows' ≡ clear s given.list → Forgets s given given' → IsKept rs rows' given'
  clear-kept rows' given' s cleared-is (inl same) = subst (λ gs. IsKept rs rows' gs) (sym same) (subst (λ r. IsKept rs r given) (sym cleared-is) (kept-clear s given.list))
  clear-kept rows' given' s cleared-is (inr all) =
      subst (λ gs. IsKept rs rows' gs) (sym all.1) (subst (λ r. IsKept rs r (record given { list = [] })) (sym cleared-is) (record {
        rise = kept.rise;
        now = kept-all rs rows.list given.list s kept.now all.0;
        marked = kept.marked;
      }))

  -- what is cleared in part is kept
  pub part-kept : (rows' : Versions ModeRow) (s : ℕ) (gs : List Given) → (n : ℕ) × (rows' ≡ clear s (take n gs)) → IsKept rs rows' given
  part-kept rows' s gs some = subst (λ r. IsKept rs r given) (sym some.1) (kept-clear s (take some.0 gs))

  pub clear-held : (rows' : Versions ModeRow) (s : ℕ) → rows' ≡ clear s given.list
      → holds_of rs rows' ≡ record { resources = rs; now = keep (λ (h : Holding). not (h.0 == s)) (held_map rs rows.list); marked = map (held_map rs) rows.marked }
  clear-held rows' s all =
      ap (holds_of rs) all
      ∙ ap (λ now. let x : MarkedHolds = record { resources = rs; now = now; marked = map (held_map rs) rows.marked } in x)
      (held-take rs rows.list given.list s kept.now)

  -- what is cleared in part is taken from the session alone
  pub part-held : (rows' : Versions ModeRow) (s : ℕ) (gs : List Given) (result : Result (Unit {0}) AllocError)
      → (n : ℕ) × (rows' ≡ clear s (take n gs)) → OnErr result (TakesSome s (held_map rs rows.list) (held_map rs rows'.list))
  part-held rows' s gs (Ok u) some = tt
  part-held rows' s gs (Err e) some =
      subst (λ (r : Versions ModeRow). TakesSome s (held_map rs rows.list) (held_map rs r.list)) (sym some.1) (held-part rs rows.list s (take some.0 gs))
