-- The turns that a walk still takes become fewer with each turn.
use Rattle.std.specs.Prelude.{◌≡◌, refl, ℕ, zero, suc, ◌+◌, ◌-◌, ◌<◌, ◌≤◌, ◌⊎◌, List, [], ◌∷◌, ◌++◌, Some}
use Rattle.std.proofs.Common.{sym, ap, ◌∙◌, inl, inr, arith}
use Rattle.std.proofs.lemmas.Bool.{cases_eq}
use Rattle.world_graph.specs.Walking.{state_at, one_if_fresh, fresh_nodes, turns_of, turns_left, IsPut, IsEmitted, IsEntered, IsFinished}
use Rattle.world_graph.specs.declared.walk.State.{State}
use Rattle.world_graph.specs.declared.walk.State.TheVariants.{Fresh, Open, Done}
use Rattle.world_graph.specs.declared.walk.Frame.{Frame}
use Rattle.world_graph.specs.declared.walk.Walk.{Walk}

-- a node that was met, and stays so, leaves the others to be met
fresh-same : (old new : List State) (node : ℕ) (s : State) → one_if_fresh (state_at old node) ≡ 0 → one_if_fresh s ≡ 0 → IsPut old new node s → (n : ℕ) → fresh_nodes new n ≡ fresh_nodes old n
fresh-same old new node s was is put zero = refl
fresh-same old new node s was is put (suc n) =
    let e : one_if_fresh (state_at new n) ≡ one_if_fresh (state_at old n) = here (cases_eq n node) in
    let h = fresh-same old new node s was is put n in
    omega arith
  where
    here : (n ≡ node) ⊎ (n ≡ node → ⊥) → one_if_fresh (state_at new n) ≡ one_if_fresh (state_at old n)
    here (inl e) = ap (λ m. one_if_fresh (state_at new m)) e ∙ ap one_if_fresh put.same ∙ is ∙ sym (ap (λ m. one_if_fresh (state_at old m)) e ∙ was)
    here (inr f) = ap one_if_fresh (put.other n f)

-- below a node that is put nothing changes
fresh-below : (old new : List State) (node : ℕ) (s : State) → IsPut old new node s → (n : ℕ) → n ≤ node → fresh_nodes new n ≡ fresh_nodes old n
fresh-below old new node s put zero le = refl
fresh-below old new node s put (suc n) le =
    let e : one_if_fresh (state_at new n) ≡ one_if_fresh (state_at old n) = ap one_if_fresh (put.other n (λ e. omega arith)) in
    let h = fresh-below old new node s put n (omega arith) in
    omega arith

-- a node that is met is one less to be met
fresh-less : (old new : List State) (node : ℕ) (s : State) → one_if_fresh (state_at old node) ≡ 1 → one_if_fresh s ≡ 0 → IsPut old new node s → (n : ℕ) → node < n → fresh_nodes new n + 1 ≡ fresh_nodes old n
fresh-less old new node s was is put zero lt = absurd (omega arith)
fresh-less old new node s was is put (suc n) lt = elim (cases_eq n node) [
  | inl e ↦ (let a : one_if_fresh (state_at new n) ≡ 0 = ap (λ m. one_if_fresh (state_at new m)) e ∙ ap one_if_fresh put.same ∙ is in
      let b : one_if_fresh (state_at old n) ≡ 1 = ap (λ m. one_if_fresh (state_at old m)) e ∙ was in
      let h = fresh-below old new node s put n (omega arith) in
      omega arith)
  | inr f ↦ (let a : one_if_fresh (state_at new n) ≡ one_if_fresh (state_at old n) = ap one_if_fresh (put.other n f) in
      let h = fresh-less old new node s was is put n (omega arith) in
      omega arith)
]

turns-append : (fs gs : List Frame) → turns_of (fs ++ gs) ≡ turns_of fs + turns_of gs
turns-append [] gs = omega arith
turns-append (f ∷ fs) gs = let h = turns-append fs gs in omega arith

turns-last : (fs : List Frame) (f : Frame) → turns_of (fs ++ f ∷ []) ≡ turns_of fs + (9 - f.letter)
turns-last fs f = let h = turns-append fs (f ∷ []) in omega arith

-- the next letter of the node is on
pub less-next : (most : ℕ) (walk new : Walk) → walk.at.letter < 8 → new.at.letter ≡ walk.at.letter + 1 → new.parents.items ≡ walk.parents.items → new.states.items ≡ walk.states.items → turns_left most new < turns_left most walk
less-next most walk new lt at parents states =
    let a = turns-last walk.parents.items walk.at in
    let b = turns-last new.parents.items new.at in
    let p = ap turns_of parents in
    let s = ap (λ x. fresh_nodes x most) states in
    omega arith

-- a letter that is not enabled is passed
pub less-passed : (most : ℕ) (walk : Walk) → walk.at.letter < 8
    → turns_left most (record { root = walk.root; states = walk.states; parents = walk.parents; edges = walk.edges; at = record { node = walk.at.node; letter = walk.at.letter + 1 } }) < turns_left most walk
less-passed most walk lt = less-next most walk (record { root = walk.root; states = walk.states; parents = walk.parents; edges = walk.edges; at = record { node = walk.at.node; letter = walk.at.letter + 1 } }) lt refl refl refl

-- a node is opened
pub less-entered : (most : ℕ) (walk after : Walk) (to : ℕ) → state_at walk.states.items to ≡ Fresh → to < most → IsEntered walk after to → turns_left most after < turns_left most walk
less-entered most walk after to fresh lt entered =
    let a = turns-last after.parents.items after.at in
    let p = ap turns_of entered.parents in
    let l : after.at.letter ≡ 0 = ap (λ (x : Frame). x.letter) entered.at in
    let s = fresh-less walk.states.items after.states.items to Open (ap one_if_fresh fresh) refl entered.states most lt in
    omega arith

-- an open node is done, and the edge to it is written
pub less-back : (most : ℕ) (walk mid after : Walk) (frame : Frame) (to offset : ℕ) → state_at walk.states.items walk.at.node ≡ Open → walk.at.letter ≡ 8 → IsFinished walk mid (Some frame) → IsEmitted mid after frame to offset → turns_left most after < turns_left most walk
less-back most walk mid after frame to offset opened all finished emitted =
    let a = turns-last after.parents.items after.at in
    let b = turns-last walk.parents.items walk.at in
    let c = turns-last mid.parents.items frame in
    let p = ap turns_of emitted.parents in
    let q : turns_of walk.parents.items ≡ turns_of (mid.parents.items ++ frame ∷ []) = ap turns_of finished.parents in
    let l : after.at.letter ≡ frame.letter + 1 = ap (λ (x : Frame). x.letter) emitted.at in
    let s = fresh-same walk.states.items mid.states.items walk.at.node Done (ap one_if_fresh opened) refl finished.states most in
    let t = ap (λ x. fresh_nodes x most) emitted.states in
    omega arith
