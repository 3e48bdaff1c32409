-- The ring that is told of a wait goes from each session to the next by a true reason.
use Rattle.std.proofs.Common.{◌≡◌, refl, sym, ap, ◌∙◌, subst, ℕ, ◌<◌, true, false, List, [], ◌∷◌, ◌++◌, Some, None, inl}
use Rattle.lock_queues.specs.declared.wait.Wait.{Wait}
use Rattle.lock_queues.specs.Locks.{Spot, Look, spots, holds_up, waits_for, closes_ring, wanted_by}
use Rattle.lock_queues.specs.Sound.{Distinct}
use Rattle.lock_queues.specs.Reasons.{Edge, spot_of, edges_to, leads_to, Among}
use Rattle.lock_queues.specs.Rings.{Hop, hop, hop_by, hops, hops_of, ring_of, ring_told, Along, IsHop, TellsHops, IsRingTold}
use Rattle.lock_queues.proofs.Spots.{edge-waits}
use Rattle.lock_queues.proofs.Edges.{spot-is, spot-found, own-edges, edges-to-is, edges-to-true}
use Rattle.lock_queues.proofs.Finding.{rings-found}

hop-told : (look : Look) (waits : List Wait) (a b : ℕ) → Distinct waits → waits_for look waits a b ≡ true
    → (h : Hop) × (hop look waits a b ≡ h ∷ []) × IsHop look waits a b h
hop-told look waits a b d e =
    let r = spot-found a [] waits (edge-waits look waits a b e) in
    let up : holds_up look r.0 b ≡ true = sym (own-edges look a b [] waits r.0 d r.1) ∙ e in
    at r.0 r.1 (edges_to look r.0 b) refl (edges-to-is look r.0 b ∙ up)
  where
    at : (s : Spot) → spot_of a (spots waits) ≡ Some s → (es : List Edge) → edges_to look s b ≡ es → leads_to b (edges_to look s b) ≡ true
        → (h : Hop) × (hop look waits a b ≡ h ∷ []) × IsHop look waits a b h
    at s is [] to lead = absurd (let x : false ≡ true = sym (ap (leads_to b) to) ∙ lead in cc)
    at s is (x ∷ es) to lead =
        let p = spot-is a [] waits s is in
        let t = edges-to-true look s b x (subst (Among x) (sym to) (inl refl)) in
        let h : Hop = record {
          session = s.wait.session;
          resource = s.wait.resource;
          mode = wanted_by look s.wait;
          edge = x;
        } in (
          h,
          ap (λ o. let hs : List Hop = elim o [ None ↦ [] | Some s ↦ hop_by look s (edges_to look s b) ] in hs) is ∙ ap (hop_by look s) to,
          record { spot = s; there = p.0; own = p.1; session = p.1; resource = refl; mode = refl; leads = t.0; edge = t.1 },
        )

hops-told : (look : Look) (waits : List Wait) (a : ℕ) (bs : List ℕ) (end : ℕ) → Distinct waits → Along (waits_for look waits) a bs end
    → TellsHops look waits a bs end (hops look waits a bs end)
hops-told look waits a [] end d along = hop-told look waits a end d along
hops-told look waits a (b ∷ bs) end d along =
    let r = hop-told look waits a b d along.0 in
    (r.0, hops look waits b bs end, ap (λ x. x ++ hops look waits b bs end) r.1, r.2, hops-told look waits b bs end d along.1)

pub ring-told : (count : ℕ) (look : Look) (waits : List Wait) (i : ℕ) → i < count → Distinct waits → closes_ring count look waits i ≡ true
    → IsRingTold count look waits i (ring_told count look waits i)
ring-told count look waits i lt d h =
    let x = rings-found count look waits i lt h in
    record {
      sessions = ring_of (waits_for look waits) count i;
      ring = x;
      tells = subst (λ xs. TellsHops look waits i x.others i (hops_of look waits xs)) (sym x.from) (hops-told look waits i x.others i d x.along);
    }
