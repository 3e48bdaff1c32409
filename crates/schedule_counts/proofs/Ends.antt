-- The states of final nodes, and what they count.
use Rattle.std.proofs.Common.{◌≡◌, refl, sym, ap, ◌∙◌, subst, inl, inr, List, [], ◌∷◌, ◌++◌, Some}
use Rattle.std.specs.Prelude.{slice_get}
use Rattle.binding_model.specs.declared.tables.Table.{Table}
use Rattle.path_counts.specs.Paths.{Has, AreApart}
use Rattle.bound_specs.specs.Spec.{Spec, queues_of}
use Rattle.machine_model.specs.World.{World}
use Rattle.world_graph.specs.Worlds.{IsOver}
use Rattle.world_graph.specs.Census.{AreFinals}
use Rattle.world_graph.specs.declared.schedules.Final.{Final}
use Rattle.spec_schedules.specs.declared.kind.Kind.{Kind}
use Rattle.spec_schedules.specs.Points.{Point, point_rules, start_point}
use Rattle.spec_schedules.specs.Counted.{AreCounted, AreAllCounted}
use Rattle.spec_schedules.proofs.Words.{behind-line}
use Rattle.order_classes.specs.declared.shows.Shows.{Shows}
use Rattle.order_classes.specs.Shows.{shows_in}
use Rattle.schedule_counts.specs.declared.counting.FinalState.{FinalState}
use Rattle.schedule_counts.specs.States.{AreFinalStates, AreOver, IsStateOf, AreStatesOf}

pub states-more : (tables : List Table) (seen : List Point) (shown : List Shows) (fs : List Final) (ss : List FinalState) (f : Final) (s : FinalState) → AreStatesOf tables seen shown fs ss → IsStateOf tables seen shown f s → AreStatesOf tables seen shown (fs ++ f ∷ []) (ss ++ s ∷ [])
states-more tables seen shown [] [] f s h is = (is, tt)
states-more tables seen shown [] (t ∷ ss) f s h is = absurd h
states-more tables seen shown (e ∷ fs) [] f s h is = absurd h
states-more tables seen shown (e ∷ fs) (t ∷ ss) f s h is = (h.0, states-more tables seen shown fs ss f s h.1 is)

module _ (tables : List Table) (seen : List Point) (shown : List Shows) where
  -- each node has its state, and each state its node
  state-of : (fs : List Final) (ss : List FinalState) → AreStatesOf tables seen shown fs ss → (f : Final) → Has f fs → (s : FinalState) × Has s ss × IsStateOf tables seen shown f s
  state-of [] [] h f x = absurd x
  state-of [] (t ∷ ss) h f x = absurd x
  state-of (e ∷ fs) [] h f x = absurd h
  state-of (e ∷ fs) (t ∷ ss) h f (inl x) = (t, inl refl, subst (λ g. IsStateOf tables seen shown g t) (sym x) h.0)
  state-of (e ∷ fs) (t ∷ ss) h f (inr x) = let r = state-of fs ss h.1 f x in (r.0, inr r.1, r.2)

  node-of : (fs : List Final) (ss : List FinalState) → AreStatesOf tables seen shown fs ss → (s : FinalState) → Has s ss → (f : Final) × Has f fs × IsStateOf tables seen shown f s
  node-of [] [] h s x = absurd x
  node-of [] (t ∷ ss) h s x = absurd h
  node-of (e ∷ fs) [] h s x = absurd x
  node-of (e ∷ fs) (t ∷ ss) h s (inl x) = (e, inl refl, subst (λ g. IsStateOf tables seen shown e g) (sym x) h.0)
  node-of (e ∷ fs) (t ∷ ss) h s (inr x) = let r = node-of fs ss h.1 s x in (r.0, inr r.1, r.2)

  same-node : (f e : Final) (s : FinalState) → IsStateOf tables seen shown f s → IsStateOf tables seen shown e s → f ≡ e
  same-node f e s a b =
      let node : f.node ≡ e.node = sym a.node ∙ b.node in
      let count : f.count ≡ e.count = sym a.count ∙ b.count in
      let least : f.least ≡ e.least = sym a.first ∙ b.first in
      λ i. record { node = node i; count = count i; least = least i }

  -- a state is that of one node, whose number and counts decide it, but for what it shows
  states-apart : (fs : List Final) (ss : List FinalState) → AreStatesOf tables seen shown fs ss → AreApart fs → AreApart ss
  states-apart [] [] h a = tt
  states-apart [] (t ∷ ss) h a = absurd h
  states-apart (e ∷ fs) [] h a = absurd h
  states-apart (e ∷ fs) (t ∷ ss) h a = (
    λ x. let r = node-of fs ss h.1 t x in a.0 (subst (λ g. Has g fs) (sym (same-node e r.0 t h.0 r.2)) r.1),
    states-apart fs ss h.1 a.1,
  )

  -- a node has one state
  one-state : (fs : List Final) (ss : List FinalState) → AreStatesOf tables seen shown fs ss → AreApart fs → (f : Final) (s t : FinalState) → Has s ss → Has t ss → IsStateOf tables seen shown f s → IsStateOf tables seen shown f t → s ≡ t
  one-state [] [] h a f s t x y is js = absurd x
  one-state [] (u ∷ ss) h a f s t x y is js = absurd h
  one-state (e ∷ fs) [] h a f s t x y is js = absurd h
  one-state (e ∷ fs) (u ∷ ss) h a f s t (inl x) (inl y) is js = x ∙ sym y
  one-state (e ∷ fs) (u ∷ ss) h a f s t (inl x) (inr y) is js = absurd (let r = node-of fs ss h.1 t y in a.0 (subst (λ g. Has g fs) (same-node r.0 f t r.2 js ∙ sym (same-node e f s (subst (λ g. IsStateOf tables seen shown e g) (sym x) h.0) is)) r.1))
  one-state (e ∷ fs) (u ∷ ss) h a f s t (inr x) (inl y) is js = absurd (let r = node-of fs ss h.1 s x in a.0 (subst (λ g. Has g fs) (same-node r.0 f s r.2 is ∙ sym (same-node e f t (subst (λ g. IsStateOf tables seen shown e g) (sym y) h.0) js)) r.1))
  one-state (e ∷ fs) (u ∷ ss) h a f s t (inr x) (inr y) is js = one-state fs ss h.1 a.1 f s t x y is js

module _ (kind : Kind) (run : Spec) (start : World) (seen : List Point) (finals : List Final) where
  -- no further step may come at a final node
  pub finals-over : AreFinals point_rules seen (start_point kind run start) finals → AreOver seen finals
  finals-over is f has =
      let t = is.tallies f has in
      let m = t.met in
      record { point = t.world; at = t.at; over = subst (λ p. IsOver point_rules p) (t.runs m.0 m.1).1 (is.schedules f m.0 has m.1).1 }

  -- the points of final nodes are of the spec
  pub finals-run : AreFinals point_rules seen (start_point kind run start) finals → (f : Final) (p : Point) → Has f finals → slice_get seen f.node ≡ Some p → p.run.sessions ≡ run.sessions
  finals-run is f p has at =
      let t = is.tallies f has in
      let m = t.met in
      let e : Some p ≡ Some t.world = sym at ∙ t.at in
      let same : p ≡ t.world = cc in
      ap (λ (x : Point). x.run.sessions) (same ∙ sym (t.runs m.0 m.1).1 ∙ behind-line kind run (queues_of run) start m.0 (t.runs m.0 m.1).0)

  module _ (tables : List Table) (shown : List Shows) (states : List FinalState) (of : AreStatesOf tables seen shown finals states) (all : AreAllCounted kind run start seen finals)
      (runs : (f : Final) (p : Point) → Has f finals → slice_get seen f.node ≡ Some p → p.run.sessions ≡ run.sessions) where
    entry : (s : FinalState) (f : Final) → Has f finals → IsStateOf tables seen shown f s → (end : World) × AreCounted kind run start s.count s.first end (all.orders s.state) × (slice_get shown s.shows ≡ Some (shows_in tables run.sessions end))
    entry s f has is =
        let e = all.entries f has in
        let c : AreCounted kind run start s.count s.first e.0.world (all.orders s.state) =
        subst (λ n. AreCounted kind run start n s.first e.0.world (all.orders s.state)) (sym is.count)
        (subst (λ n. AreCounted kind run start f.count n e.0.world (all.orders s.state)) (sym is.first)
        (subst (λ n. AreCounted kind run start f.count f.least e.0.world (all.orders n)) (sym is.node) e.2)) in
        (e.0.world, c, is.shows e.0 e.1 ∙ ap (λ n. Some (shows_in tables n e.0.world)) (runs f e.0 has e.1))

    pub states-counted : AreFinalStates kind tables run start shown states
    states-counted = record {
      orders = all.orders;
      apart = states-apart tables seen shown finals states of all.apart;
      entries = λ s h. let r = node-of tables seen shown finals states of s h in entry s r.0 r.1 r.2;
      some = λ ks h.
          (let x = all.some ks h in
          let r = state-of tables seen shown finals states of x.0 x.1 in
          (r.0, r.1, subst (λ n. Has ks (all.orders n)) (sym r.2.node) x.2));
      one = λ ks s t hs ht a b.
          (let f = node-of tables seen shown finals states of s hs in
          let g = node-of tables seen shown finals states of t ht in
          let same : f.0 ≡ g.0 = all.one ks f.0 g.0 f.1 g.1 (subst (λ n. Has ks (all.orders n)) f.2.node a) (subst (λ n. Has ks (all.orders n)) g.2.node b) in
          one-state tables seen shown finals states of all.apart f.0 s t hs ht f.2 (subst (λ e. IsStateOf tables seen shown e t) (sym same) g.2));
    }
