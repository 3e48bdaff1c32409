-- What the plan of a statement says of what it reads and writes.
use Rattle.std.proofs.Common.{◌≡◌, refl, subst, ℕ, Bool, true, false, ◌&&◌, ◌||◌, List, [], ◌∷◌, map, Some, None, ◌⊎◌, inl, inr, ⊎_elim}
use Rattle.finite_maps.specs.Map.{same_key-true, same_key-refl, entries}
use Rattle.lock_modes.specs.RowPlace.{RowPlace}
use Rattle.lock_modes.specs.Rows.{Rows', Write}
use Rattle.lock_modes.specs.Resource.{resource_order, same_resource}
use Rattle.lock_modes.specs.Mode.{compatible}
use Rattle.bound_statements.specs.Plan.{Tuple, Request, request, plan, opened, asks_on, reads_table, writes_in, is_exclusive, looks_at, key_at}
use Rattle.statement_evaluation.specs.Effect.{visible, Effect, Gives, Faults, effect, matching, all_assigned, placed, or_fault, counted}
use Rattle.machine_model.specs.Claims.{Claims, may_write}
use Rattle.bound_statements.specs.declared.statement.Assignment.{Assignment}
use Rattle.bound_statements.specs.declared.condition.Condition.{Condition}
use Rattle.events.specs.declared.event.Fault.TheVariants.{Duplicate, OutOfRange}
use Rattle.events.specs.declared.event.Event.TheVariants.{Inserted, Updated, Deleted}
use Rattle.lock_modes.specs.declared.value.Value.{Value}
use Rattle.lock_modes.specs.declared.mode.Mode.{Mode}
use Rattle.lock_modes.specs.declared.mode.Mode.TheVariants.{IntentShare, IntentExclusive, Share, ShareIntent, Exclusive}
use Rattle.lock_modes.specs.declared.resource.Resource.{Resource}
use Rattle.lock_modes.specs.declared.resource.Resource.TheVariants.{Table, Row as RowOf}
use Rattle.bound_statements.specs.declared.statement.Bound.{Bound}
use Rattle.bound_statements.specs.declared.statement.Bound.TheVariants.{Select, Insert, Update, Delete, Begin, Commit, Rollback, Lock, SetVariable}
use Rattle.machine_model.proofs.Basics.{some_passes, both_true, and_true, either_true, or_true_left, or_true_right, not_both, known}
use Rattle.statement_evaluation.proofs.ListLemmas.{Each, Each-map}
use Rattle.machine_model.proofs.Looks.{looked-opened, writable}
use Rattle.machine_model.proofs.Footprint.{ReadsOff, WritesUnder}
use Rattle.statement_evaluation.proofs.WriteLemmas.{OnGives, each-kept, each-any, each-placed, each-numbered, on-or_fault, on-selected, updated-each, deleted-each}

asks_on-map : (P : Request → Type 0) (f g : Mode → Bool) → ((q : Request) → P q → f q.mode ≡ true → g q.mode ≡ true) → (qs : List Request) (r : Resource)
    → Each P qs → asks_on qs r f ≡ true → asks_on qs r g ≡ true
asks_on-map P f g imp [] r each e = e
asks_on-map P f g imp (q ∷ qs) r each e =
    elim (either_true (same_resource q.resource r && f q.mode) _ e) [
      | inl h ↦ let p = both_true (same_resource q.resource r) _ h in or_true_left _ _ (and_true _ _ p.0 (imp q each.0 p.1))
      | inr h ↦ or_true_right (same_resource q.resource r && g q.mode) _ (asks_on-map P f g imp qs r each.1 h)
    ]

-- the modes that a statement asks which writes
abbrev is_writing : Mode → Bool
is_writing IntentShare = false
is_writing IntentExclusive = true
is_writing Share = false
is_writing ShareIntent = false
is_writing Exclusive = true

read_then_write : (m : Mode) → is_writing m ≡ true → reads_table m ≡ true → is_exclusive m ≡ true
read_then_write IntentShare w r = cc
read_then_write IntentExclusive w r = cc
read_then_write Share w r = cc
read_then_write ShareIntent w r = cc
read_then_write Exclusive w r = refl

any_then_write : (m : Mode) → is_writing m ≡ true → writes_in m ≡ true
any_then_write IntentShare w = cc
any_then_write IntentExclusive w = refl
any_then_write Share w = cc
any_then_write ShareIntent w = refl
any_then_write Exclusive w = refl

-- under such requests what may be read may be written
opened-writable : (qs : List Request) (p : RowPlace) → Each (λ q. is_writing q.mode ≡ true) qs → opened qs p ≡ true → writable qs p ≡ true
opened-writable qs p each e =
    let P : Request → Type 0 = λ q. is_writing q.mode ≡ true in
    elim (either_true (asks_on qs (Table p.0) reads_table) _ e) [
      | inl h ↦ or_true_left _ _ (asks_on-map P reads_table is_exclusive (λ q w r. read_then_write q.mode w r) qs (Table p.0) each h)
      | inr h ↦
          let b = both_true (asks_on qs (RowOf p.0 p.1) reads_table) _ h in
          or_true_right (asks_on qs (Table p.0) is_exclusive) _
          (and_true _ _ (asks_on-map P reads_table is_exclusive (λ q w r. read_then_write q.mode w r) qs (RowOf p.0 p.1) each b.0)
          (asks_on-map P (λ _. true) writes_in (λ q w r. any_then_write q.mode w) qs (Table p.0) each b.1))
    ]

-- ---- what an effect writes

asks_on-new : (t k : ℕ) (new : List Tuple)
    → Each (λ row. asks_on (map (λ row. request (RowOf t (key_at k row)) Exclusive) new) (RowOf t (key_at k row)) is_exclusive ≡ true) new
asks_on-new t k [] = tt
asks_on-new t k (row ∷ more) = (
  or_true_left _ _ (and_true _ _ (same_key-refl resource_order (RowOf t (key_at k row))) refl),
  Each-map (λ x. asks_on (map (λ row. request (RowOf t (key_at k row)) Exclusive) more) (RowOf t (key_at k x)) is_exclusive
      ≡ true) (λ x. asks_on (map (λ row. request (RowOf t (key_at k row)) Exclusive) (row ∷ more)) (RowOf t (key_at k x)) is_exclusive ≡ true)
      (λ x e. or_true_right (same_resource (RowOf t (key_at k row)) (RowOf t (key_at k x)) && true) _ e) more (asks_on-new t k more),
)

writable-new : (t k : ℕ) (new : List Tuple) → Each (λ row. writable (plan (Insert t (Some k) new)) (t, key_at k row) ≡ true) new
writable-new t k new =
    Each-map (λ row. asks_on (map (λ row. request (RowOf t (key_at k row)) Exclusive) new) (RowOf t (key_at k row)) is_exclusive
    ≡ true) (λ row. writable (plan (Insert t (Some k) new)) (t, key_at k row) ≡ true)
    (λ row e. or_true_right (asks_on (plan (Insert t (Some k) new)) (Table t) is_exclusive) _
    (and_true _ _ (or_true_right (same_resource (Table t) (RowOf t (key_at k row)) && false) _ e)
    (or_true_left _ _ (and_true _ _ (same_key-refl resource_order (Table t)) refl))))
    new (asks_on-new t k new)

writable-table : (t : ℕ) (v : Value) → writable (request (Table t) Exclusive ∷ []) (t, v) ≡ true
writable-table t v = or_true_left _ _ (or_true_left _ _ (and_true _ _ (same_key-refl resource_order (Table t)) refl))

-- a statement whose plan has such requests alone
seen-writable : (st : Bound) (rows : Rows') → Each (λ q. is_writing q.mode ≡ true) (plan st)
    → Each (λ (e : RowPlace × Tuple). writable (plan st) e.0 ≡ true) (entries (visible st rows))
seen-writable st rows each = Each-map (λ (e : RowPlace × Tuple). looks_at st e.0 ≡ true) (λ (e : RowPlace × Tuple). writable (plan st) e.0
    ≡ true) (λ e h. opened-writable (plan st) e.0 each (looked-opened st e.0 h)) (entries (visible st rows)) (each-kept (looks_at st) rows)

updated-under : (st : Bound) (sets : List Assignment) (c : Condition) (rows : Rows') → Each (λ q. is_writing q.mode ≡ true) (plan st)
    → OnGives (elim (matching c (entries (visible st rows))) [ None ↦ Faults OutOfRange | Some es ↦ or_fault OutOfRange (all_assigned sets es) Updated ])
    (Each (λ w. writable (plan st) w.place ≡ true))
updated-under st sets c rows each = updated-each (λ p. writable (plan st) p ≡ true) sets c (entries (visible st rows)) (seen-writable st rows each)

deleted-under : (st : Bound) (c : Condition) (rows : Rows') → Each (λ q. is_writing q.mode ≡ true) (plan st)
    → OnGives (elim (matching c (entries (visible st rows))) [
      | None ↦ Faults OutOfRange
      | Some es ↦ counted Deleted (map (λ (e : RowPlace × Tuple). record { place = e.0; left = None }) es)
    ]) (Each (λ w. writable (plan st) w.place ≡ true))
deleted-under st c rows each = deleted-each (λ p. writable (plan st) p ≡ true) c (entries (visible st rows)) (seen-writable st rows each)

-- each write of an effect lies where the plan lets the statement write
pub effect-writable : (st : Bound) (rows : Rows') → OnGives (effect st rows) (Each (λ w. writable (plan st) w.place ≡ true))
unfolding effect
effect-writable (Select t key c by out l) rows =
    on-selected (λ w. writable (plan (Select t key c by out l)) w.place ≡ true) by out (matching c (entries (visible (Select t key c by out l) rows)))
effect-writable (Insert t (Some k) new) rows =
    let R : Write → Type 0 = λ w. writable (plan (Insert t (Some k) new)) w.place ≡ true in
    on-or_fault R Duplicate (placed t k new (visible (Insert t (Some k) new) rows)) Inserted (each-placed R t k new _ (writable-new t k new))
effect-writable (Insert t None new) rows =
    each-numbered (λ w. writable (plan (Insert t None new)) w.place ≡ true) t _ new
    (each-any (λ row. (v : Value) → writable (plan (Insert t None new)) (t, v) ≡ true) (λ row v. writable-table t v) new)
effect-writable (Update t (Some key) sets c) rows = updated-under (Update t (Some key) sets c) sets c rows (refl, (refl, tt))
effect-writable (Update t None sets c) rows = updated-under (Update t None sets c) sets c rows (refl, tt)
effect-writable (Delete t (Some key) c) rows = deleted-under (Delete t (Some key) c) c rows (refl, (refl, tt))
effect-writable (Delete t None c) rows = deleted-under (Delete t None c) c rows (refl, tt)
effect-writable (Lock t m n) rows = tt
effect-writable SetVariable rows = tt
effect-writable (Begin level) rows = tt
effect-writable Commit rows = tt
effect-writable Rollback rows = tt

-- ---- claims

-- each request is a claim
abbrev pub Claimed : Claims → List Request → Type 0
Claimed claims qs = Each (λ q. claims q.resource q.mode ≡ true) qs

same-resource : (r s : Resource) → same_resource r s ≡ true → r ≡ s
same-resource r s e = same_key-true resource_order r s e

pub exclusive-is : (m : Mode) → is_exclusive m ≡ true → m ≡ Exclusive
exclusive-is IntentShare e = cc
exclusive-is IntentExclusive e = cc
exclusive-is Share e = cc
exclusive-is ShareIntent e = cc
exclusive-is Exclusive e = refl

-- a claimed mode on the resource that passes
claimed : (claims : Claims) (qs : List Request) (r : Resource) (test : Mode → Bool) → Claimed claims qs → asks_on qs r test ≡ true → (m : Mode)
    × (claims r m ≡ true) × (test m ≡ true)
claimed claims qs r test each e =
    let x = some_passes (λ q. claims q.resource q.mode ≡ true) (λ q. same_resource q.resource r && test q.mode) qs each e in
    let b = both_true (same_resource x.0.resource r) _ x.2 in
    (x.0.mode, subst (λ k. claims k x.0.mode ≡ true) (same-resource x.0.resource r b.0) x.1, b.1)

intent-claim : (claims : Claims) (r : Resource) (m : Mode) → claims r m ≡ true → writes_in m ≡ true → (claims r Exclusive ≡ true)
    ⊎ ((claims r IntentExclusive || claims r ShareIntent) ≡ true)
intent-claim claims r IntentShare c w = cc
intent-claim claims r IntentExclusive c w = inr (or_true_left _ _ c)
intent-claim claims r Share c w = cc
intent-claim claims r ShareIntent c w = inr (or_true_right (claims r IntentExclusive) _ c)
intent-claim claims r Exclusive c w = inl c

writable-claimed : (claims : Claims) (qs : List Request) (p : RowPlace) → Claimed claims qs → writable qs p ≡ true → may_write claims p ≡ true
writable-claimed claims qs p each e =
    elim (either_true (asks_on qs (Table p.0) is_exclusive) _ e) [
      | inl h ↦ let x = claimed claims qs (Table p.0) is_exclusive each h
          in or_true_left _ _ (subst (λ m. claims (Table p.0) m ≡ true) (exclusive-is x.0 x.2) x.1)
      | inr h ↦
          let b = both_true (asks_on qs (RowOf p.0 p.1) is_exclusive) _ h in
          let x = claimed claims qs (RowOf p.0 p.1) is_exclusive each b.0 in
          let y = claimed claims qs (Table p.0) writes_in each b.1 in
          ⊎_elim (λ t. or_true_left _ _ t) (λ t. or_true_right (claims (Table p.0) Exclusive) _
          (and_true _ _ (subst (λ m. claims (RowOf p.0 p.1) m ≡ true) (exclusive-is x.0 x.2) x.1) t)) (intent-claim claims (Table p.0) y.0 y.1 y.2)
    ]

pub on-gives-map : (P Q : Write → Type 0) → ((w : Write) → P w → Q w) → (e : Effect) → OnGives e (Each P) → OnGives e (Each Q)
on-gives-map P Q f (Gives events writes) h = Each-map P Q f writes h
on-gives-map P Q f (Faults fault) h = tt

-- a statement whose requests are claimed writes where the claims allow it
pub writes-under : (claims : Claims) (st : Bound) → Claimed claims (plan st) → WritesUnder claims st
writes-under claims st each = record {
  each = λ rows. on-gives-map (λ w. writable (plan st) w.place ≡ true) (λ w. may_write claims w.place
      ≡ true) (λ w e. writable-claimed claims (plan st) w.place each e) (effect st rows) (effect-writable st rows);
}

-- ---- two sides whose claims fit together

pub record Friends (ours theirs : Claims) : Type 0 where
  pub fit : (r : Resource) (m n : Mode) → ours r m ≡ true → theirs r n ≡ true → compatible m n ≡ true

no-exclusive : (m : Mode) → compatible m Exclusive ≡ false
no-exclusive IntentShare = refl
no-exclusive IntentExclusive = refl
no-exclusive Share = refl
no-exclusive ShareIntent = refl
no-exclusive Exclusive = refl

reads-no-intent : (m n : Mode) → reads_table m ≡ true → writes_in n ≡ true → compatible m n ≡ false
reads-no-intent IntentShare n r w = cc
reads-no-intent IntentExclusive n r w = cc
reads-no-intent Share IntentShare r w = cc
reads-no-intent Share IntentExclusive r w = refl
reads-no-intent Share Share r w = cc
reads-no-intent Share ShareIntent r w = refl
reads-no-intent Share Exclusive r w = refl
reads-no-intent ShareIntent IntentShare r w = cc
reads-no-intent ShareIntent IntentExclusive r w = refl
reads-no-intent ShareIntent Share r w = cc
reads-no-intent ShareIntent ShareIntent r w = refl
reads-no-intent ShareIntent Exclusive r w = refl
reads-no-intent Exclusive IntentShare r w = refl
reads-no-intent Exclusive IntentExclusive r w = refl
reads-no-intent Exclusive Share r w = refl
reads-no-intent Exclusive ShareIntent r w = refl
reads-no-intent Exclusive Exclusive r w = refl

-- what a claim of theirs to write needs: any claim of ours on the table, and on the row or for reading on the table, stands against it
module _ (ours theirs : Claims) (friends : Friends ours theirs) (p : RowPlace) where
  -- theirs on the table is exclusive
  against-table : (m : Mode) → ours (Table p.0) m ≡ true → theirs (Table p.0) Exclusive ≡ true → ⊥
  against-table m o t = not_both _ (friends.fit (Table p.0) m Exclusive o t) (no-exclusive m)

  against-row : (m : Mode) → ours (RowOf p.0 p.1) m ≡ true → theirs (RowOf p.0 p.1) Exclusive ≡ true → ⊥
  against-row m o t = not_both _ (friends.fit (RowOf p.0 p.1) m Exclusive o t) (no-exclusive m)

  against-intent : (m : Mode) → ours (Table p.0) m ≡ true → reads_table m ≡ true → (theirs (Table p.0) IntentExclusive || theirs (Table p.0) ShareIntent) ≡ true
      → ⊥
  against-intent m o r t = ⊎_elim (λ h. not_both _ (friends.fit (Table p.0) m IntentExclusive o h) (reads-no-intent m IntentExclusive r refl)) (λ h.
      not_both _ (friends.fit (Table p.0) m ShareIntent o h) (reads-no-intent m ShareIntent r refl)) (either_true (theirs (Table p.0) IntentExclusive) _ t)

  pub reading-table : (m : Mode) → ours (Table p.0) m ≡ true → reads_table m ≡ true → may_write theirs p ≡ true → ⊥
  reading-table m o r w = ⊎_elim (against-table m o) (λ h. against-intent m o r (both_true (theirs (RowOf p.0 p.1) Exclusive) _ h).1)
      (either_true (theirs (Table p.0) Exclusive) _ w)

  pub reading-row : (m n : Mode) → ours (RowOf p.0 p.1) m ≡ true → ours (Table p.0) n ≡ true → may_write theirs p ≡ true → ⊥
  reading-row m n o t w = ⊎_elim (against-table n t) (λ h. against-row m o (both_true (theirs (RowOf p.0 p.1) Exclusive) _ h).0)
      (either_true (theirs (Table p.0) Exclusive) _ w)

  -- no row may be written by both
  pub not_both_write : may_write ours p ≡ true → may_write theirs p ≡ true → ⊥
  not_both_write o w =
      ⊎_elim (λ h. reading-table Exclusive h refl w)
      (λ h.
      let b = both_true (ours (RowOf p.0 p.1) Exclusive) _ h in
      ⊎_elim (λ t. reading-row Exclusive IntentExclusive b.0 t w) (λ t. reading-row Exclusive ShareIntent b.0 t w)
      (either_true (ours (Table p.0) IntentExclusive) _ b.1))
      (either_true (ours (Table p.0) Exclusive) _ o)

  read-apart : (qs : List Request) → Claimed ours qs → opened qs p ≡ true → may_write theirs p ≡ true → ⊥
  read-apart qs each e w =
      ⊎_elim (λ h. let x = claimed ours qs (Table p.0) reads_table each h in reading-table x.0 x.1 x.2 w)
      (λ h.
      let b = both_true (asks_on qs (RowOf p.0 p.1) reads_table) _ h in
      let x = claimed ours qs (RowOf p.0 p.1) reads_table each b.0 in
      let y = claimed ours qs (Table p.0) (λ _. true) each b.1 in
      reading-row x.0 y.0 x.1 y.1 w)
      (either_true (asks_on qs (Table p.0) reads_table) _ e)

-- a statement whose requests are ours reads nothing that they may write
pub reads-off : (ours theirs : Claims) → Friends ours theirs → (st : Bound) → Claimed ours (plan st) → ReadsOff theirs st
reads-off ours theirs friends st each = record {
  each = λ p e.
      ⊎_elim (λ h. absurd (read-apart ours theirs friends p (plan st) each e h)) (λ h. h) (known (may_write theirs p));
}
