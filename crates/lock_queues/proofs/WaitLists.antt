-- Lists of waits: what holds of each of them, and that no session waits twice.
use Rattle.std.specs.Prelude.{◌≢◌, ℕ, Bool, true, false, cond, List, [], ◌∷◌, ◌++◌, filter}
use Rattle.std.proofs.Common.{sym}
use Rattle.lock_queues.specs.Locks.{Wait}
use Rattle.lock_queues.specs.Sound.{EachWait, Distinct}

pub wait-map : (P Q : Wait → Type 0) → ((v : Wait) → P v → Q v) → (vs : List Wait) → EachWait P vs → EachWait Q vs
wait-map P Q f [] p = tt
wait-map P Q f (v ∷ vs) p = (f v p.0, wait-map P Q f vs p.1)

pub wait-map2 : (P Q R : Wait → Type 0) → ((v : Wait) → P v → Q v → R v) → (vs : List Wait) → EachWait P vs → EachWait Q vs → EachWait R vs
wait-map2 P Q R f [] p q = tt
wait-map2 P Q R f (v ∷ vs) p q = (f v p.0 q.0, wait-map2 P Q R f vs p.1 q.1)

pub wait-append : (P : Wait → Type 0) (us vs : List Wait) → EachWait P us → EachWait P vs → EachWait P (us ++ vs)
wait-append P [] vs p q = q
wait-append P (u ∷ us) vs p q = (p.0, wait-append P us vs p.1 q)

pub wait-left : (P : Wait → Type 0) (us vs : List Wait) → EachWait P (us ++ vs) → EachWait P us
wait-left P [] vs p = tt
wait-left P (u ∷ us) vs p = (p.0, wait-left P us vs p.1)

pub wait-right : (P : Wait → Type 0) (us vs : List Wait) → EachWait P (us ++ vs) → EachWait P vs
wait-right P [] vs p = p
wait-right P (u ∷ us) vs p = wait-right P us vs p.1

pub wait-filter : (P : Wait → Type 0) (p : Wait → Bool) (ws : List Wait) → EachWait P ws → EachWait P (filter p ws)
wait-filter P p [] e = tt
wait-filter P p (w ∷ ws) e =
    elim (p w) as (λ b. EachWait P (cond b (w ∷ filter p ws) (filter p ws))) [ true ↦ (e.0, wait-filter P p ws e.1) | false ↦ wait-filter P p ws e.1 ]

-- the wait is taken out of the middle
pub wait-without : (P : Wait → Type 0) (us : List Wait) (v : Wait) (vs : List Wait) → EachWait P (us ++ v ∷ vs) → EachWait P (us ++ vs) × P v
wait-without P [] v vs p = (p.1, p.0)
wait-without P (u ∷ us) v vs p = let r = wait-without P us v vs p.1 in ((p.0, r.0), r.1)

-- the wait is another session's
abbrev pub Not : ℕ → Wait → Type 0
Not i = λ (v : Wait). v.session ≢ i

-- a wait of a session that has none comes last
pub distinct-push : (ws : List Wait) (v : Wait) → Distinct ws → EachWait (Not v.session) ws → Distinct (ws ++ v ∷ [])
distinct-push [] v d n = (tt, tt)
distinct-push (w ∷ ws) v d n = (wait-append (Not w.session) ws (v ∷ []) d.0 ((λ e. n.0 (sym e)), tt), distinct-push ws v d.1 n.1)

-- a wait is taken out, and its session has no other
pub distinct-without : (us : List Wait) (v : Wait) (vs : List Wait) → Distinct (us ++ v ∷ vs) → Distinct (us ++ vs) × EachWait (Not v.session) (us ++ vs)
distinct-without [] v vs d = (d.1, d.0)
distinct-without (u ∷ us) v vs d =
    let rest = distinct-without us v vs d.1 in
    let right = wait-right (Not u.session) us (v ∷ vs) d.0 in
    ((wait-append (Not u.session) us vs (wait-left (Not u.session) us (v ∷ vs) d.0) right.1, rest.0), ((λ e. right.0 (sym e)), rest.1))
