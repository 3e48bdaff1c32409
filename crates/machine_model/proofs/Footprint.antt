-- What a session that goes alone reads and writes.
use Rattle.std.proofs.Common.{◌≡◌, refl, sym, ap, ◌∙◌, subst, Bool, true, false, cond, List, [], ◌∷◌, Option, Some, None, ◌⊎◌, inl, inr, ⊎_elim}
use Rattle.finite_maps.specs.Map.{same_key, same_key-true, get, insert, get-insert, get-keep, empty, get-empty, same_map}
use Rattle.lock_modes.specs.RowPlace.{RowPlace, place_order}
use Rattle.lock_modes.specs.Rows.{Rows', Write}
use Rattle.bound_statements.specs.Plan.{Tuple, plan, opened, looks_at}
use Rattle.row_tables.specs.Overlay.{Overlay, lay, written}
use Rattle.statement_evaluation.specs.Effect.{visible, Effect, Gives, Faults, effect, effect_on}
use Rattle.row_tables.proofs.OverlayLemmas.{over, get-lay}
use Rattle.machine_model.specs.Session.{Task, Ask, Do, Session, Performed, Goes, Fails, Kind, Begins, Commits, RollsBack, Works, kind, perform, perform_by}
use Rattle.machine_model.specs.Session.{worked}
use Rattle.machine_model.specs.Go.{Stop, taking, solo, failed, finished_by, is_broken}
use Rattle.machine_model.specs.Footprint.{AgreeBut, ReadsBut, SameChanges, EndsSame, EachDo}
use Rattle.machine_model.specs.Claims.{Claims, may_write}
use Rattle.events.specs.declared.event.Fault.{Fault}
use Rattle.events.specs.declared.event.Fault.TheVariants.{Aborted}
use Rattle.machine_model.specs.declared.status.Status.{Status}
use Rattle.machine_model.specs.declared.status.Status.TheVariants.{Outside, InBlock, Broken}
use Rattle.bound_statements.specs.declared.statement.Bound.{Bound}
use Rattle.machine_model.proofs.Basics.{not_both}
use Rattle.statement_evaluation.proofs.ListLemmas.{Each}
use Rattle.machine_model.proofs.Looks.{looked-opened}
use Rattle.machine_model.proofs.Solo.{OnGoes}
use Rattle.statement_evaluation.proofs.WriteLemmas.{OnGives}

-- ---- a statement reads what it looks at, so what its plan opens

pub visible-same : (st : Bound) (a b : Rows') → ((p : RowPlace) → looks_at st p ≡ true → get a p ≡ get b p) → visible st a ≡ visible st b
visible-same st a b h = same_map _ _ (λ p. get-keep (looks_at st) a p ∙ at p (looks_at st p) refl ∙ sym (get-keep (looks_at st) b p))
  where
    at : (p : RowPlace) (t : Bool) → looks_at st p ≡ t → cond (looks_at st p) (get a p) None ≡ cond (looks_at st p) (get b p) None
    at p true is = ap (cond (looks_at st p) (get a p)) refl ∙ ap (λ x. cond (looks_at st p) x None) (h p is)
    at p false is = ap (λ t. cond t (get a p) None) is ∙ sym (ap (λ t. cond t (get b p) None) is)

pub effect-looks : (st : Bound) (a b : Rows') → ((p : RowPlace) → looks_at st p ≡ true → get a p ≡ get b p) → effect st a ≡ effect st b
unfolding effect
effect-looks st a b h = ap (effect_on st) (visible-same st a b h)

pub effect-same : (st : Bound) (a b : Rows') → ((p : RowPlace) → opened (plan st) p ≡ true → get a p ≡ get b p) → effect st a ≡ effect st b
effect-same st a b h = effect-looks st a b (λ p e. h p (looked-opened st p e))

-- ---- rows that agree but at hidden places

pub AgreeBut-lay : (hidden : RowPlace → Bool) (a b : Rows') (o : Overlay) → AgreeBut hidden a b → AgreeBut hidden (lay o a) (lay o b)
AgreeBut-lay hidden a b o h = record { each = λ p off. get-lay o a p ∙ ap (over (get o p)) (h.each p off) ∙ sym (get-lay o b p) }

-- ---- changes

pub changes-none : (a b : Rows') → SameChanges a a b b
changes-none a b p = inl (refl, refl)

-- an overlay changes the same in both
pub changes-lay : (o : Overlay) (a b : Rows') → SameChanges a (lay o a) b (lay o b)
changes-lay o a b p = at (get o p) refl
  where
    at : (x : Option (Option Tuple)) → get o p ≡ x → ((get (lay o a) p ≡ get a p) × (get (lay o b) p ≡ get b p)) ⊎ (get (lay o a) p ≡ get (lay o b) p)
    at None is = inl (get-lay o a p ∙ ap (λ x. over x (get a p)) is, get-lay o b p ∙ ap (λ x. over x (get b p)) is)
    at (Some y) is = inr (get-lay o a p ∙ ap (λ x. over x (get a p)) is ∙ sym (get-lay o b p ∙ ap (λ x. over x (get b p)) is))

-- changes one after another
pub changes-then : (a x z b y v : Rows') → SameChanges a x b y → SameChanges x z y v → SameChanges a z b v
changes-then a x z b y v first second p =
    ⊎_elim
    (λ s. ⊎_elim (λ f. inl (s.0 ∙ f.0, s.1 ∙ f.1)) (λ f. inr (s.0 ∙ f ∙ sym s.1)) (first p))
    (λ s. inr s) (second p)

-- rows that agreed still do
pub agree-changed : (hidden : RowPlace → Bool) (a x b y : Rows') → AgreeBut hidden a b → SameChanges a x b y → AgreeBut hidden x y
agree-changed hidden a x b y h changes = record { each = λ p off. ⊎_elim (λ f. f.0 ∙ h.each p off ∙ sym f.1) (λ f. f) (changes p) }

-- a statement on the rows a and b: both go the same way
pub data SameWay (a b : Rows') : Performed → Performed → Type 0 where
  both_go : {s : Session} {x y : Rows'} → SameChanges a x b y → SameWay a b (Goes s x) (Goes s y)
  both_fail : {f : Fault} → SameWay a b (Fails f) (Fails f)

worked-same : (s : Session) (a b : Rows') (e : Effect) → SameWay a b (worked s a e) (worked s b e)
worked-same s a b (Gives events writes) = both_go (changes-none a b)
worked-same s a b (Faults f) = both_fail

works-same : (hidden : RowPlace → Bool) (s : Session) (a b : Rows') (st : Bound) → ReadsBut hidden st → AgreeBut hidden a b
    → SameWay a b (worked s a (effect st (lay s.overlay a))) (worked s b (effect st (lay s.overlay b)))
works-same hidden s a b st off h =
    let e : effect st (lay s.overlay a) ≡ effect st (lay s.overlay b) = effect-same st _ _ (λ p o. (AgreeBut-lay hidden a b s.overlay h).each p (off.each p o))
    in
    subst (λ x. SameWay a b (worked s a (effect st (lay s.overlay a))) (worked s b x)) e (worked-same s a b _)

pub perform_by-same : (hidden : RowPlace → Bool) (status : Status) (k : Kind) (s : Session) (a b : Rows') (st : Bound) → ReadsBut hidden st
    → AgreeBut hidden a b
    → SameWay a b (perform_by status k s a st) (perform_by status k s b st)
perform_by-same hidden Outside (Begins level) s a b st off h = both_go (changes-none a b)
perform_by-same hidden (InBlock of) (Begins level) s a b st off h = both_go (changes-none a b)
perform_by-same hidden Broken (Begins level) s a b st off h = both_fail
perform_by-same hidden Outside Commits s a b st off h = both_go (changes-lay s.overlay a b)
perform_by-same hidden (InBlock of) Commits s a b st off h = both_go (changes-lay s.overlay a b)
perform_by-same hidden Broken Commits s a b st off h = both_go (changes-none a b)
perform_by-same hidden Outside RollsBack s a b st off h = both_go (changes-none a b)
perform_by-same hidden (InBlock of) RollsBack s a b st off h = both_go (changes-none a b)
perform_by-same hidden Broken RollsBack s a b st off h = both_go (changes-none a b)
perform_by-same hidden Outside Works s a b st off h = works-same hidden s a b st off h
perform_by-same hidden (InBlock of) Works s a b st off h = works-same hidden s a b st off h
perform_by-same hidden Broken Works s a b st off h = both_fail

finished-same : (status : Status) (s : Session) (a b : Rows') → EndsSame a b (finished_by status s a) (finished_by status s b)
finished-same Outside s a b = record { session = refl; changes = changes-lay s.overlay a b }
finished-same (InBlock of) s a b = record { session = refl; changes = changes-none a b }
finished-same Broken s a b = record { session = refl; changes = changes-none a b }

-- the session ends the same over rows that agree where it reads
pub solo-same-but : (hidden : RowPlace → Bool) (s : Session) (a b : Rows') (ts : List Task) → EachDo (ReadsBut hidden) ts → AgreeBut hidden a b
    → EndsSame a b (solo s a ts) (solo s b ts)
solo-same-but hidden s a b [] off h = finished-same s.status s a b
solo-same-but hidden s a b (Ask n r m ∷ ts) off h = asked (is_broken s.status) (solo-same-but hidden (taking s r m) a b ts off h)
  where
    asked : (t : Bool) → EndsSame a b (solo (taking s r m) a ts) (solo (taking s r m) b ts)
        → EndsSame a b (elim t [ true ↦ failed s a Aborted | false ↦ solo (taking s r m) a ts ])
        (elim t [ true ↦ failed s b Aborted | false ↦ solo (taking s r m) b ts ])
    asked true rec = record { session = refl; changes = changes-none a b }
    asked false rec = rec
solo-same-but hidden s a b (Do st ∷ ts) off h = done (perform s a st) (perform s b st) (perform_by-same hidden s.status (kind st) s a b st off.0 h)
    (λ s2 a2 b2 h2. solo-same-but hidden s2 a2 b2 ts off.1 h2)
  where
    done : (x y : Performed) → SameWay a b x y → ((s2 : Session) (a2 b2 : Rows') → AgreeBut hidden a2 b2 → EndsSame a2 b2 (solo s2 a2 ts) (solo s2 b2 ts))
        → EndsSame a b (elim x [ Goes s2 a2 ↦ solo s2 a2 ts | Fails f ↦ failed s a f ]) (elim y [ Goes s2 b2 ↦ solo s2 b2 ts | Fails f ↦ failed s b f ])
    done _ _ (both_go {s = s2} {x = a2} {y = b2} first) rec =
        let rest = rec s2 a2 b2 (agree-changed hidden a a2 b b2 h first) in
        record { session = rest.session; changes = changes-then a a2 (solo s2 a2 ts).rows b b2 (solo s2 b2 ts).rows first rest.changes }
    done _ _ both_fail rec = record { session = refl; changes = changes-none a b }

-- ---- hidden is what another side may write

abbrev pub AgreeOff : Claims → Rows' → Rows' → Type 0
AgreeOff claims a b = AgreeBut (may_write claims) a b

abbrev pub ReadsOff : Claims → Bound → Type 0
ReadsOff claims st = ReadsBut (may_write claims) st

-- the session stands the same, and the rows agree where the side may not write
pub record SameStop (claims : Claims) (x y : Stop) : Type 0 where
  pub session : x.session ≡ y.session
  pub rows : AgreeOff claims x.rows y.rows

pub AgreeOff-lay : (claims : Claims) (a b : Rows') (o : Overlay) → AgreeOff claims a b → AgreeOff claims (lay o a) (lay o b)
AgreeOff-lay claims a b o h = AgreeBut-lay (may_write claims) a b o h

pub solo-same : (claims : Claims) (s : Session) (a b : Rows') (ts : List Task) → EachDo (ReadsOff claims) ts → AgreeOff claims a b
    → SameStop claims (solo s a ts) (solo s b ts)
solo-same claims s a b ts off h =
    let same = solo-same-but (may_write claims) s a b ts off h in
    record { session = same.session; rows = agree-changed (may_write claims) a (solo s a ts).rows b (solo s b ts).rows h same.changes }

-- ---- a session writes where it may

pub record OverlayUnder (claims : Claims) (o : Overlay) : Type 0 where
  pub each : (p : RowPlace) (x : Option Tuple) → get o p ≡ Some x → may_write claims p ≡ true

pub record WritesUnder (claims : Claims) (st : Bound) : Type 0 where
  pub each : (rows : Rows') → OnGives (effect st rows) (Each (λ w. may_write claims w.place ≡ true))

pub OverlayUnder-empty : (claims : Claims) → OverlayUnder claims empty
OverlayUnder-empty claims = record { each = λ p x is. absurd (let e = sym (get-empty place_order (Option Tuple) p) ∙ is in cc) }

OverlayUnder-insert : (claims : Claims) (o : Overlay) (k : RowPlace) (y : Option Tuple) → may_write claims k ≡ true → OverlayUnder claims o
    → OverlayUnder claims (insert o k y)
OverlayUnder-insert claims o k y may h = record { each = λ p x is. at p x (same_key place_order p k) refl (sym (get-insert o k y p) ∙ is) }
  where
    at : (p : RowPlace) (x : Option Tuple) (b : Bool) → same_key place_order p k ≡ b → cond (same_key place_order p k) (Some y) (get o p) ≡ Some x
        → may_write claims p ≡ true
    at p x true same is = subst (λ q. may_write claims q ≡ true) (sym (same_key-true place_order p k same)) may
    at p x false same is = h.each p x (ap (λ b. cond b (Some y) (get o p)) (sym same) ∙ is)

pub OverlayUnder-written : (claims : Claims) (ws : List Write) (o : Overlay) → Each (λ w. may_write claims w.place ≡ true) ws → OverlayUnder claims o
    → OverlayUnder claims (written ws o)
OverlayUnder-written claims [] o each h = h
OverlayUnder-written claims (w ∷ ws) o each h = OverlayUnder-written claims ws _ each.1 (OverlayUnder-insert claims o w.place w.left each.0 h)

pub AgreeOff-refl : (claims : Claims) (a : Rows') → AgreeOff claims a a
AgreeOff-refl claims a = record { each = λ p off. refl }

-- laying an overlay changes only where the side may write
pub AgreeOff-laid : (claims : Claims) (o : Overlay) (rows : Rows') → OverlayUnder claims o → AgreeOff claims (lay o rows) rows
AgreeOff-laid claims o rows under = record { each = λ p off. get-lay o rows p ∙ at p (get o p) refl off }
  where
    at : (p : RowPlace) (x : Option (Option Tuple)) → get o p ≡ x → may_write claims p ≡ false → over (get o p) (get rows p) ≡ get rows p
    at p None is off = ap (λ x. over x (get rows p)) is
    at p (Some y) is off = absurd (not_both _ (under.each p y is) off)

pub record Within (claims : Claims) (rows : Rows') (s2 : Session) (rows2 : Rows') : Type 0 where
  pub overlay : OverlayUnder claims s2.overlay
  pub changed : AgreeOff claims rows2 rows

worked-within : (claims : Claims) (s : Session) (rows : Rows') (e : Effect) → OnGives e (Each (λ w. may_write claims w.place ≡ true))
    → OverlayUnder claims s.overlay → OnGoes (worked s rows e) (Within claims rows)
worked-within claims s rows (Gives events writes) each h = record {
  overlay = OverlayUnder-written claims writes s.overlay each h;
  changed = AgreeOff-refl claims rows;
}
worked-within claims s rows (Faults f) each h = tt

perform_by-within : (claims : Claims) (status : Status) (k : Kind) (s : Session) (rows : Rows') (st : Bound) → WritesUnder claims st
    → OverlayUnder claims s.overlay → OnGoes (perform_by status k s rows st) (Within claims rows)
perform_by-within claims Outside (Begins level) s rows st under h = record { overlay = h; changed = AgreeOff-refl claims rows }
perform_by-within claims (InBlock of) (Begins level) s rows st under h = record { overlay = h; changed = AgreeOff-refl claims rows }
perform_by-within claims Broken (Begins level) s rows st under h = tt
perform_by-within claims Outside Commits s rows st under h = record { overlay = OverlayUnder-empty claims; changed = AgreeOff-laid claims s.overlay rows h }
perform_by-within claims (InBlock of) Commits s rows st under h = record { overlay = OverlayUnder-empty claims; changed = AgreeOff-laid claims s.overlay rows h }
perform_by-within claims Broken Commits s rows st under h = record { overlay = OverlayUnder-empty claims; changed = AgreeOff-refl claims rows }
perform_by-within claims Outside RollsBack s rows st under h = record { overlay = OverlayUnder-empty claims; changed = AgreeOff-refl claims rows }
perform_by-within claims (InBlock of) RollsBack s rows st under h = record { overlay = OverlayUnder-empty claims; changed = AgreeOff-refl claims rows }
perform_by-within claims Broken RollsBack s rows st under h = record { overlay = OverlayUnder-empty claims; changed = AgreeOff-refl claims rows }
perform_by-within claims Outside Works s rows st under h = worked-within claims s rows _ (under.each _) h
perform_by-within claims (InBlock of) Works s rows st under h = worked-within claims s rows _ (under.each _) h
perform_by-within claims Broken Works s rows st under h = tt

AgreeOff-trans : (claims : Claims) (a b c : Rows') → AgreeOff claims a b → AgreeOff claims b c → AgreeOff claims a c
AgreeOff-trans claims a b c p q = record { each = λ x off. p.each x off ∙ q.each x off }

finished-within : (claims : Claims) (status : Status) (s : Session) (rows : Rows') → OverlayUnder claims s.overlay
    → AgreeOff claims (finished_by status s rows).rows rows
finished-within claims Outside s rows h = AgreeOff-laid claims s.overlay rows h
finished-within claims (InBlock of) s rows h = AgreeOff-refl claims rows
finished-within claims Broken s rows h = AgreeOff-refl claims rows

-- the session changes committed rows only where it may
pub solo-within : (claims : Claims) (s : Session) (rows : Rows') (ts : List Task) → EachDo (WritesUnder claims) ts → OverlayUnder claims s.overlay
    → AgreeOff claims (solo s rows ts).rows rows
solo-within claims s rows [] under h = finished-within claims s.status s rows h
solo-within claims s rows (Ask n r m ∷ ts) under h = asked (is_broken s.status) (solo-within claims (taking s r m) rows ts under h)
  where
    asked : (t : Bool) → AgreeOff claims (solo (taking s r m) rows ts).rows rows
        → AgreeOff claims (let x : Stop = elim t [ true ↦ failed s rows Aborted | false ↦ solo (taking s r m) rows ts ] in x.rows) rows
    asked true rec = AgreeOff-refl claims rows
    asked false rec = rec
solo-within claims s rows (Do st ∷ ts) under h = done (perform s rows st) (perform_by-within claims s.status (kind st) s rows st under.0 h) (λ s2 rows2 h2.
    solo-within claims s2 rows2 ts under.1 h2)
  where
    done : (d : Performed) → OnGoes d (Within claims rows) → ((s2 : Session) (rows2 : Rows') → OverlayUnder claims s2.overlay
        → AgreeOff claims (solo s2 rows2 ts).rows rows2)
        → AgreeOff claims (let x : Stop = elim d [ Goes s2 rows2 ↦ solo s2 rows2 ts | Fails f ↦ failed s rows f ] in x.rows) rows
    done (Goes s2 rows2) w rec = AgreeOff-trans claims _ _ _ (rec s2 rows2 w.overlay) w.changed
    done (Fails f) w rec = AgreeOff-refl claims rows
