-- What is counted of maximal words is counted of orders.
use Rattle.std.proofs.Common.{◌≡◌, sym, ap, ◌∙◌, subst, ℕ, ◌≤◌, List, length, map, arith}
use Rattle.std.proofs.lemmas.List.{length-map}
use Rattle.path_counts.specs.Paths.{Has}
use Rattle.path_counts.proofs.Lists.{has-map, has-mapped, apart-map}
use Rattle.perm_ranks.specs.Words.{Word}
use Rattle.bound_specs.specs.Spec.{Spec, Queues, line, queues_of}
use Rattle.machine_model.specs.World.{World, send_all}
use Rattle.world_graph.specs.Worlds.{Runs, rank}
use Rattle.world_graph.specs.Census.{AreFinals, IsTally}
use Rattle.world_graph.specs.declared.schedules.Final.{Final}
use Rattle.spec_schedules.specs.declared.kind.Kind.{Kind}
use Rattle.spec_schedules.specs.Schedules.{session_of, IsOrder, IsRank}
use Rattle.spec_schedules.specs.Points.{Point, point_rules, start_point}
use Rattle.spec_schedules.specs.Counted.{AreCounted, AreAllCounted}
use Rattle.spec_schedules.proofs.Letters.{AreQueued, sessions-line, spec-queued, length-queues}
use Rattle.spec_schedules.proofs.Words.{word_of, runs-serve, behind-line, rank-line, word-order, order-word}
use Rattle.spec_schedules.proofs.Few.{word-rank-is, one-rank}

module _ (kind : Kind) (run : Spec) (start : World) (sessions : run.sessions ≤ 8) where
  abbrev q : Queues
  q = queues_of run

  queued : AreQueued run.steps q
  queued = spec-queued run.steps run.sessions

  few : length q ≤ 8
  few = let l = length-queues run.steps 0 run.sessions in omega arith

  -- words that run and send the same are the same
  one-line : (s t : Word) → Runs point_rules (start_point kind run start) s → Runs point_rules (start_point kind run start) t → line q s ≡ line q t → s ≡ t
  one-line s t h k e =
      sym (sessions-line run.steps q s queued (runs-serve kind run q start s h)) ∙ ap (map (session_of run.steps)) e ∙ sessions-line run.steps q t queued (runs-serve kind run q start t k)

  rank-of-word : (s : Word) → Runs point_rules (start_point kind run start) s → IsRank q (line q s) (rank point_rules (start_point kind run start) s)
  rank-of-word s h = subst (λ n. IsRank q (line q s) n) (sym (rank-line kind run q start s h)) (word-rank-is run.steps q s queued (runs-serve kind run q start s h))

  pub order-rank : (ks : List ℕ) → IsOrder kind run.steps q start ks → (first : ℕ) × IsRank q ks first
  order-rank ks h =
      let x = order-word kind run q start ks few queued h in
      let s = word_of kind run ks in
      (rank point_rules (start_point kind run start) s, subst (λ l. IsRank q l (rank point_rules (start_point kind run start) s)) x.line_is (rank-of-word s x.runs))

  module _ (seen : List Point) (finals : List Final) (is : AreFinals point_rules seen (start_point kind run start) finals) where
    counted-at : (f : Final) → Has f finals → (t : IsTally point_rules seen (start_point kind run start) f.node f.count f.least (is.words f.node))
        → AreCounted kind run start f.count f.least t.world.world (map (line q) (is.words f.node))
    counted-at f has t = record {
      apart = apart-map (line q) (is.words f.node) (λ x y hx hy e. one-line x y (t.runs x hx).0 (t.runs y hy).0 e) t.apart;
      long = length-map (is.words f.node) (line q) ∙ t.long;
      each = λ ks h.
          (let m = has-mapped (line q) ks (is.words f.node) h in
          let s = m.0 in
          let maximal = is.schedules f s has m.1 in
          subst (λ l. IsOrder kind run.steps q start l × (send_all run.steps start l ≡ t.world.world)) (sym m.2) (
            word-order kind run q start s few queued maximal.0 maximal.1,
            sym (ap (λ (x : Point). x.world) (behind-line kind run q start s maximal.0)) ∙ ap (λ (x : Point). x.world) (t.runs s m.1).1,
          ));
      below = λ ks n h r.
          (let m = has-mapped (line q) ks (is.words f.node) h in
          let s = m.0 in
          let own : IsRank q ks (rank point_rules (start_point kind run start) s) =
          subst (λ l. IsRank q l (rank point_rules (start_point kind run start) s)) (sym m.2) (rank-of-word s (t.runs s m.1).0) in
          let same = one-rank q ks n (rank point_rules (start_point kind run start) s) r own in
          let le = t.below s m.1 in
          omega arith);
      met = (let m = t.met in
          (line q m.0, has-map (line q) m.0 (is.words f.node) m.1, subst (λ n. IsRank q (line q m.0) n) m.2 (rank-of-word m.0 (t.runs m.0 m.1).0)));
    }

    pub finals-counted : AreAllCounted kind run start seen finals
    finals-counted = record {
      orders = λ node. map (line q) (is.words node);
      entries = λ f has. let t = is.tallies f has in (t.world, t.at, counted-at f has t);
      some = λ ks h.
          (let x = order-word kind run q start ks few queued h in
          let s = word_of kind run ks in
          let e = is.some s (x.runs, x.over) in
          (e.0, e.1, subst (λ l. Has l (map (line q) (is.words e.0.node))) x.line_is (has-map (line q) s (is.words e.0.node) e.2)));
      one = λ ks f h hf hh a b.
          (let m = has-mapped (line q) ks (is.words f.node) a in
          let n = has-mapped (line q) ks (is.words h.node) b in
          let same = one-line m.0 n.0 ((is.tallies f hf).runs m.0 m.1).0 ((is.tallies h hh).runs n.0 n.1).0 (sym m.2 ∙ n.2) in
          is.one m.0 f h hf hh m.1 (subst (λ s. Has s (is.words h.node)) (sym same) n.1));
      apart = is.apart;
    }
