-- What a walk knows goes on with each of its turns.
use Rattle.std.specs.Prelude.{◌≡◌, refl, ℕ, zero, suc, ◌+◌, ◌<◌, ◌≤◌, ◌⊎◌, true, false, List, [], ◌∷◌, ◌++◌, Some, slice_get, length, map}
use Rattle.std.proofs.Common.{append_assoc, length-append, sym, ap, subst, ◌∙◌, inl, inr, arith}
use Rattle.std.proofs.lemmas.Bool.{cases_eq}
use Rattle.std.proofs.lemmas.List.{append-nil}
use Rattle.path_counts.specs.declared.Edge.{Edge}
use Rattle.path_counts.specs.Paths.{Has, IsBehind, IsInOrder}
use Rattle.path_counts.proofs.Lists.{has-left, has-right, has-cases, has-map, has-mapped}
use Rattle.world_graph.specs.Worlds.{Rules, GoesOn, IsNoted, HasEdge, IsStep, IsTried}
use Rattle.world_graph.specs.Walking.{state_at, IsPut, IsOpen, IsBook}
use Rattle.world_graph.specs.declared.walk.State.{State}
use Rattle.world_graph.specs.declared.walk.State.TheVariants.{Fresh, Open, Done}
use Rattle.world_graph.specs.declared.walk.Frame.{Frame}

pub seen-on : {World : Type 0} (old more : List World) (n : ℕ) (w : World) → slice_get old n ≡ Some w → slice_get (old ++ more) n ≡ Some w
seen-on [] more n w h = absurd (cc)
seen-on (x ∷ old) more zero w h = h
seen-on (x ∷ old) more (suc n) w h = seen-on old more n w h

pub seen-later : {World : Type 0} (old new : List World) (n : ℕ) (w : World) → GoesOn old new → slice_get old n ≡ Some w → slice_get new n ≡ Some w
seen-later old new n w g h = subst (λ ws. slice_get ws n ≡ Some w) (sym g.1) (seen-on old g.0 n w h)

pub goes-on : {World : Type 0} (a b c : List World) → GoesOn a b → GoesOn b c → GoesOn a c
goes-on a b c g h = (g.0 ++ h.0, h.1 ∙ ap (λ x. x ++ h.0) g.1 ∙ append_assoc a g.0 h.0)

pub seen-longer : {World : Type 0} (old new : List World) → GoesOn old new → length old ≤ length new
seen-longer old new g = let e = ap length g.1 ∙ length-append old g.0 in omega arith

seen-last : {World : Type 0} (seen : List World) (w : World) → slice_get (seen ++ w ∷ []) (length seen) ≡ Some w
seen-last [] w = refl
seen-last (x ∷ seen) w = seen-last seen w

pub noted-goes-on : {World : Type 0} (old new : List World) (w : World) (n : ℕ) → IsNoted old new w n → GoesOn old new
noted-goes-on old new w n (inl h) = ([], h.0 ∙ sym (append-nil old))
noted-goes-on old new w n (inr h) = (w ∷ [], h.0)

pub noted-at : {World : Type 0} (old new : List World) (w : World) (n : ℕ) → IsNoted old new w n → slice_get new n ≡ Some w
noted-at old new w n (inl h) = ap (λ ws. slice_get ws n) h.0 ∙ h.1
noted-at old new w n (inr h) = ap (λ ws. slice_get ws n) h.0 ∙ ap (slice_get (old ++ w ∷ [])) h.1 ∙ seen-last old w

-- with a number below the bound no more are noted than are allowed
pub noted-few : {World : Type 0} (old new : List World) (w : World) (n most : ℕ) → IsNoted old new w n → n < most → length old ≤ most → length new ≤ most
noted-few old new w n most (inl h) lt few = let e = ap length h.0 in omega arith
noted-few old new w n most (inr h) lt few = let e = ap length h.0 ∙ length-append old (w ∷ []) in omega (arith, h.1)

pub same-world : {World : Type 0} (seen : List World) (n : ℕ) (v w : World) → slice_get seen n ≡ Some v → slice_get seen n ≡ Some w → v ≡ w
same-world seen n v w h k = let e = sym h ∙ k in cc

pub open-not-done : (s : State) → s ≡ Open → s ≡ Done → ⊥
open-not-done s h k = cc

pub open-not-fresh : (s : State) → s ≡ Open → s ≡ Fresh → ⊥
open-not-fresh s h k = cc

pub done-not-fresh : (s : State) → s ≡ Done → s ≡ Fresh → ⊥
done-not-fresh s h k = cc

-- the order of edges with one more at the end
module _ (d : Edge) where
  behind-more : (e : Edge) (es : List Edge) → IsBehind e es → (d.from ≡ e.to → ⊥) → (d.from ≡ e.from → d.letter ≡ e.letter → ⊥) → IsBehind e (es ++ d ∷ [])
  behind-more e es b f g = record {
    straight = b.straight;
    last = λ c h. last c (has-cases c es (d ∷ []) h);
    apart = λ c h. other c (has-cases c es (d ∷ []) h);
  }
    where
      last : (c : Edge) → Has c es ⊎ Has c (d ∷ []) → c.from ≡ e.to → ⊥
      last c (inl h) s = b.last c h s
      last c (inr (inl h)) s = f (ap (λ (x : Edge). x.from) (sym h) ∙ s)
      last c (inr (inr h)) s = absurd h

      other : (c : Edge) → Has c es ⊎ Has c (d ∷ []) → c.from ≡ e.from → c.letter ≡ e.letter → ⊥
      other c (inl h) s t = b.apart c h s t
      other c (inr (inl h)) s t = g (ap (λ (x : Edge). x.from) (sym h) ∙ s) (ap (λ (x : Edge). x.letter) (sym h) ∙ t)
      other c (inr (inr h)) s t = absurd h

  pub order-more : (es : List Edge) → IsInOrder es → (d.from ≡ d.to → ⊥) → ((e : Edge) → Has e es → d.from ≡ e.to → ⊥) → ((e : Edge) → Has e es → d.from ≡ e.from → d.letter ≡ e.letter → ⊥) → IsInOrder (es ++ d ∷ [])
  order-more [] o s f g = (record { straight = s; last = λ c h. absurd h; apart = λ c h. absurd h }, tt)
  order-more (e ∷ es) o s f g = (behind-more e es o.0 (f e (inl refl)) (g e (inl refl)), order-more es o.1 s (λ c h. f c (inr h)) (λ c h. g c (inr h)))

-- with one more edge those that were there are there
pub edge-more : (es : List Edge) (d : Edge) (n a : ℕ) → HasEdge es n a → HasEdge (es ++ d ∷ []) n a
edge-more es d n a h = (h.0, has-left h.0 es (d ∷ []) h.1, h.2, h.3)

pub edge-last : (es : List Edge) (d : Edge) → HasEdge (es ++ d ∷ []) d.from d.letter
edge-last es d = (d, has-right d es (d ∷ []) (inl refl), refl, refl)

module _ {World : Type 0} (r : Rules World) where
  pub step-later : (old new : List World) (e : Edge) → GoesOn old new → IsStep r old e → IsStep r new e
  step-later old new e g s = record {
    world = s.world;
    at = seen-later old new e.from s.world g s.at;
    letter = s.letter;
    can = s.can;
    to = seen-later old new e.to _ g s.to;
    offset = s.offset;
  }

  pub tried-later : (old new : List World) (es : List Edge) (n k : ℕ) → GoesOn old new → IsTried r old es n k → IsTried r new es n k
  tried-later old new es n k g t = record { world = t.world; at = seen-later old new n t.world g t.at; each = t.each }

  pub tried-edge : (seen : List World) (es : List Edge) (d : Edge) (n k : ℕ) → IsTried r seen es n k → IsTried r seen (es ++ d ∷ []) n k
  tried-edge seen es d n k t = record { world = t.world; at = t.at; each = λ a lt c. edge-more es d n a (t.each a lt c) }

  -- one more letter of a node is tried
  pub tried-next : (seen : List World) (es : List Edge) (n k : ℕ) (t : IsTried r seen es n k) → (r.can t.world k ≡ true → HasEdge es n k) → IsTried r seen es n (k + 1)
  tried-next seen es n k t f = record { world = t.world; at = t.at; each = λ a lt c. each a c (last_or a lt) }
    where
      last_or : (a : ℕ) → a < k + 1 → (a < k) ⊎ (a ≡ k)
      last_or a lt = grind arith

      each : (a : ℕ) → r.can t.world a ≡ true → (a < k) ⊎ (a ≡ k) → HasEdge es n a
      each a c (inl lt) = t.each a lt c
      each a c (inr e) = subst (λ b. HasEdge es n b) (sym e) (f (subst (λ b. r.can t.world b ≡ true) e c))

  pub book-later : (old new : List World) (states : List State) (es : List Edge) (stack : List Frame) → GoesOn old new → IsBook r old states es stack → IsBook r new states es stack
  book-later old new states es stack g b = record {
    opened = λ f h. let o = b.opened f h in record { state = o.state; tried = tried-later old new es f.node f.letter g o.tried; below = o.below };
    apart = b.apart;
    on = b.on;
    done = λ n h. tried-later old new es n 8 g (b.done n h);
    targets = b.targets;
    sources = b.sources;
    steps = λ e h. step-later old new e g (b.steps e h);
    order = b.order;
  }

  -- a letter that is not enabled is passed
  pub book-passed : (seen : List World) (states : List State) (es : List Edge) (f : Frame) (fs : List Frame) (w : World) → slice_get seen f.node ≡ Some w → r.can w f.letter ≡ false
      → IsBook r seen states es (f ∷ fs) → IsBook r seen states es (record { node = f.node; letter = f.letter + 1 } ∷ fs)
  book-passed seen states es f fs w at not b = record {
    opened = λ g h. opened g h;
    apart = b.apart;
    on = b.on;
    done = b.done;
    targets = b.targets;
    sources = b.sources;
    steps = b.steps;
    order = b.order;
  }
    where
      here : IsOpen r seen states es f
      here = b.opened f (inl refl)

      passed : IsOpen r seen states es (record { node = f.node; letter = f.letter + 1 })
      passed = record {
        state = here.state;
        tried = tried-next seen es f.node f.letter here.tried (λ c. absurd (let e = same-world seen f.node here.tried.world w here.tried.at at in let d = ap (λ v. r.can v f.letter) e in cc));
        below = λ e h s. let lt = here.below e h s in omega arith;
      }

      opened : (g : Frame) → Has g (record { node = f.node; letter = f.letter + 1 } ∷ fs) → IsOpen r seen states es g
      opened g (inl e) = subst (λ (x : Frame). IsOpen r seen states es x) (sym e) passed
      opened g (inr h) = b.opened g (inr h)

  -- the edge of a letter is written when what it leads to is done
  module _ (seen : List World) (states : List State) (es : List Edge) (f : Frame) (fs : List Frame) (w : World) (to offset : ℕ) where
    abbrev pub new_edge : Edge
    new_edge = record { from = f.node; letter = f.letter; to = to; offset = offset }

    pub book-emitted : slice_get seen f.node ≡ Some w → f.letter < 8 → r.can w f.letter ≡ true → slice_get seen to ≡ Some (r.next w f.letter) → offset ≡ r.offset w f.letter → state_at states to ≡ Done
        → IsBook r seen states es (f ∷ fs) → IsBook r seen states (es ++ new_edge ∷ []) (record { node = f.node; letter = f.letter + 1 } ∷ fs)
    book-emitted at lt can there is done b = record {
      opened = λ g h. opened g h;
      apart = b.apart;
      on = b.on;
      done = λ n h. tried-edge seen es new_edge n 8 (b.done n h);
      targets = λ e h. targets e (has-cases e es (new_edge ∷ []) h);
      sources = λ e h. sources e (has-cases e es (new_edge ∷ []) h);
      steps = λ e h. steps e (has-cases e es (new_edge ∷ []) h);
      order = order-more new_edge es b.order
          (λ s. open-not-done (state_at states f.node) here.state (ap (state_at states) s ∙ done))
          (λ e h s. open-not-done (state_at states f.node) here.state (ap (state_at states) s ∙ b.targets e h))
          (λ e h s t. let u = here.below e h (sym s) in omega arith);
    }
      where
        here : IsOpen r seen states es f
        here = b.opened f (inl refl)

        emitted : IsOpen r seen states (es ++ new_edge ∷ []) (record { node = f.node; letter = f.letter + 1 })
        emitted = record {
          state = here.state;
          tried = tried-next seen (es ++ new_edge ∷ []) f.node f.letter (tried-edge seen es new_edge f.node f.letter here.tried) (λ _. edge-last es new_edge);
          below = λ e h s. below e (has-cases e es (new_edge ∷ []) h) s;
        }
          where
            below : (e : Edge) → Has e es ⊎ Has e (new_edge ∷ []) → e.from ≡ f.node → e.letter < f.letter + 1
            below e (inl h) s = let u = here.below e h s in omega arith
            below e (inr (inl h)) s = let u = ap (λ (x : Edge). x.letter) h in omega arith
            below e (inr (inr h)) s = absurd h

        opened : (g : Frame) → Has g (record { node = f.node; letter = f.letter + 1 } ∷ fs) → IsOpen r seen states (es ++ new_edge ∷ []) g
        opened g (inl e) = subst (λ (x : Frame). IsOpen r seen states (es ++ new_edge ∷ []) x) (sym e) emitted
        opened g (inr h) = let o = b.opened g (inr h) in record {
          state = o.state;
          tried = tried-edge seen es new_edge g.node g.letter o.tried;
          below = λ e k s. below e (has-cases e es (new_edge ∷ []) k) s;
        }
          where
            below : (e : Edge) → Has e es ⊎ Has e (new_edge ∷ []) → e.from ≡ g.node → e.letter < g.letter
            below e (inl k) s = (b.opened g (inr h)).below e k s
            below e (inr (inl k)) s = absurd (b.apart.0 (subst (λ n. Has n (map (λ (x : Frame). x.node) fs)) (sym s ∙ ap (λ (x : Edge). x.from) k) (has-map (λ (x : Frame). x.node) g fs h)))
            below e (inr (inr k)) s = absurd k

        targets : (e : Edge) → Has e es ⊎ Has e (new_edge ∷ []) → state_at states e.to ≡ Done
        targets e (inl h) = b.targets e h
        targets e (inr (inl h)) = ap (λ (x : Edge). state_at states x.to) h ∙ done
        targets e (inr (inr h)) = absurd h

        sources : (e : Edge) → Has e es ⊎ Has e (new_edge ∷ []) → state_at states e.from ≡ Fresh → ⊥
        sources e (inl h) = b.sources e h
        sources e (inr (inl h)) = λ k. open-not-fresh (state_at states f.node) here.state (ap (λ (x : Edge). state_at states x.from) (sym h) ∙ k)
        sources e (inr (inr h)) = absurd h

        steps : (e : Edge) → Has e es ⊎ Has e (new_edge ∷ []) → IsStep r seen e
        steps e (inl h) = b.steps e h
        steps e (inr (inl h)) = subst (λ (x : Edge). IsStep r seen x) (sym h) (record { world = w; at = at; letter = lt; can = can; to = there; offset = is })
        steps e (inr (inr h)) = absurd h

  -- a node that was not met is opened
  pub book-entered : (seen : List World) (old new : List State) (es : List Edge) (stack : List Frame) (to : ℕ) (w : World) → slice_get seen to ≡ Some w → state_at old to ≡ Fresh → IsPut old new to Open
      → IsBook r seen old es stack → IsBook r seen new es (record { node = to; letter = 0 } ∷ stack)
  book-entered seen old new es stack to w at fresh put b = record {
    opened = λ g h. opened g h;
    apart = (λ h. new_there (has-mapped (λ (x : Frame). x.node) to stack h), b.apart);
    on = λ n h. on n h (cases_eq n to);
    done = λ n h. b.done n (sym (put.other n (λ e. open-not-done (state_at new to) put.same (ap (state_at new) (sym e) ∙ h))) ∙ h);
    targets = λ e h. put.other e.to (λ s. done-not-fresh (state_at old e.to) (b.targets e h) (ap (state_at old) s ∙ fresh)) ∙ b.targets e h;
    sources = λ e h k. b.sources e h (from_new e.from k (cases_eq e.from to));
    steps = b.steps;
    order = b.order;
  }
    where
      new_there : ((x : Frame) × Has x stack × (to ≡ x.node)) → ⊥
      new_there h = open-not-fresh (state_at old to) (ap (state_at old) h.2 ∙ (b.opened h.0 h.1).state) fresh

      on : (n : ℕ) → state_at new n ≡ Open → (n ≡ to) ⊎ (n ≡ to → ⊥) → Has n (to ∷ map (λ (x : Frame). x.node) stack)
      on n h (inl e) = inl e
      on n h (inr e) = inr (b.on n (sym (put.other n e) ∙ h))

      from_new : (n : ℕ) → state_at new n ≡ Fresh → (n ≡ to) ⊎ (n ≡ to → ⊥) → state_at old n ≡ Fresh
      from_new n k (inl e) = absurd (open-not-fresh (state_at new to) put.same (ap (state_at new) (sym e) ∙ k))
      from_new n k (inr e) = sym (put.other n e) ∙ k

      opened : (g : Frame) → Has g (record { node = to; letter = 0 } ∷ stack) → IsOpen r seen new es g
      opened g (inl e) = subst (λ (x : Frame). IsOpen r seen new es x) (sym e) (record {
        state = put.same;
        tried = record { world = w; at = at; each = λ a lt c. absurd (omega arith) };
        below = λ d h s. absurd (b.sources d h (ap (state_at old) s ∙ fresh));
      })
      opened g (inr h) = let o = b.opened g h in record {
        state = put.other g.node (λ s. new_there (g, h, sym s)) ∙ o.state;
        tried = o.tried;
        below = o.below;
      }

  -- a node whose letters are all tried is done
  pub book-finished : (seen : List World) (old new : List State) (es : List Edge) (f : Frame) (fs : List Frame) → f.letter ≡ 8 → IsPut old new f.node Done
      → IsBook r seen old es (f ∷ fs) → IsBook r seen new es fs
  book-finished seen old new es f fs all put b = record {
    opened = λ g h. let o = b.opened g (inr h) in record { state = put.other g.node (other g h) ∙ o.state; tried = o.tried; below = o.below };
    apart = b.apart.1;
    on = λ n h. on n h (cases_eq n f.node);
    done = λ n h. done n h (cases_eq n f.node);
    targets = λ e h. targets e.to (b.targets e h) (cases_eq e.to f.node);
    sources = λ e h k. b.sources e h (from_new e.from k (cases_eq e.from f.node));
    steps = b.steps;
    order = b.order;
  }
    where
      other : (g : Frame) → Has g fs → g.node ≡ f.node → ⊥
      other g h s = b.apart.0 (subst (λ n. Has n (map (λ (x : Frame). x.node) fs)) s (has-map (λ (x : Frame). x.node) g fs h))

      on : (n : ℕ) → state_at new n ≡ Open → (n ≡ f.node) ⊎ (n ≡ f.node → ⊥) → Has n (map (λ (x : Frame). x.node) fs)
      on n h (inl e) = absurd (open-not-done (state_at new n) h (ap (state_at new) e ∙ put.same))
      on n h (inr e) = elim (b.on n (sym (put.other n e) ∙ h)) [ inl s ↦ absurd (e s) | inr k ↦ k ]

      done : (n : ℕ) → state_at new n ≡ Done → (n ≡ f.node) ⊎ (n ≡ f.node → ⊥) → IsTried r seen es n 8
      done n h (inl e) = subst (λ m. IsTried r seen es m 8) (sym e) (subst (λ k. IsTried r seen es f.node k) all (b.opened f (inl refl)).tried)
      done n h (inr e) = b.done n (sym (put.other n e) ∙ h)

      targets : (n : ℕ) → state_at old n ≡ Done → (n ≡ f.node) ⊎ (n ≡ f.node → ⊥) → state_at new n ≡ Done
      targets n h (inl e) = ap (state_at new) e ∙ put.same
      targets n h (inr e) = put.other n e ∙ h

      from_new : (n : ℕ) → state_at new n ≡ Fresh → (n ≡ f.node) ⊎ (n ≡ f.node → ⊥) → state_at old n ≡ Fresh
      from_new n k (inl e) = absurd (done-not-fresh (state_at new f.node) put.same (ap (state_at new) (sym e) ∙ k))
      from_new n k (inr e) = sym (put.other n e) ∙ k
