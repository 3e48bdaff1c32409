-- The states in which orders end tell of all orders.
use Rattle.std.proofs.Common.{◌≡◌, refl, sym, ap, ◌∙◌, subst, ℕ, suc, ◌<◌, inl, inr, ⊎_elim, None, Some, List, [], ◌∷◌, length, slice_get, arith}
use Rattle.std.specs.Prelude.{option_map}
use Rattle.lock_queues.specs.Reasons.{Among}
use Rattle.path_counts.specs.Paths.{Has, AreApart}
use Rattle.binding_model.specs.declared.tables.Table.{Table}
use Rattle.bound_specs.specs.Spec.{Spec, queues_of}
use Rattle.machine_model.specs.World.{World, send_all}
use Rattle.machine_model.specs.Start.{Started, start}
use Rattle.spec_schedules.specs.declared.kind.Kind.{Kind}
use Rattle.spec_schedules.specs.Schedules.{IsOrder, IsRank}
use Rattle.spec_schedules.specs.Ranked.{IsOrderAt, IsOrderBy}
use Rattle.spec_schedules.specs.Laws.{RanksAreUnique, OneRankEach}
use Rattle.order_classes.specs.declared.shows.Shows.{Shows}
use Rattle.order_classes.specs.Shows.{shows_in, shows_of_line}
use Rattle.order_classes.specs.Numbers.{IsNumberOf}
use Rattle.different_shows.specs.Different.{AreDifferent}
use Rattle.schedule_counts.specs.declared.counting.FinalState.{FinalState}
use Rattle.schedule_counts.specs.Classes.{AreClasses}
use Rattle.schedule_counts.specs.States.{AreFinalStates}
use Rattle.spec_classes.specs.Classes.{ShowsAt}
use Rattle.spec_classes.specs.Told.{AreTold}
use Rattle.spec_classes.proofs.Counts.{AreOnce, number-same, number-list}
use Rattle.spec_classes.proofs.Classing.{same-some}

has-some : {T : Type 0} (x : T) (xs : List T) → Has x xs → 0 < length xs
has-some x [] has = absurd has
has-some x (y ∷ xs) has = omega arith

-- each order has a rank
abbrev pub EachHasRank : Kind → Spec → Type 0
EachHasRank kind run = (start : World) (ks : List ℕ) → IsOrder kind run.steps (queues_of run) start ks → (first : ℕ) × IsRank (queues_of run) ks first

module _ (kind : Kind) (tables : List Table) (run : Spec) (w : World) (starts : start run ≡ Started w) (none : run.lines ≡ [])
    (unique : RanksAreUnique) (one : OneRankEach) (ranked : EachHasRank kind run) where
  -- the ranks of different orders
  record AreRanksOf (os : List (List ℕ)) : Type 0 where
    pub ranks : List ℕ
    pub once : AreOnce ranks
    pub long : length ranks ≡ length os
    pub each : (r : ℕ) → Among r ranks → (ks : List ℕ) × Has ks os × IsRank (queues_of run) ks r
    pub all : (ks : List ℕ) → Has ks os → (r : ℕ) × Among r ranks × IsRank (queues_of run) ks r

  ranks-of : (os : List (List ℕ)) → AreApart os → ((ks : List ℕ) → Has ks os → IsOrder kind run.steps (queues_of run) w ks) → AreRanksOf os
  ranks-of [] apart order = record { ranks = []; once = tt; long = refl; each = λ r m. absurd m; all = λ ks has. absurd has }
  ranks-of (o ∷ os) apart order =
      let rest = ranks-of os apart.1 (λ ks has. order ks (inr has)) in
      let own = ranked w o (order o (inl refl)) in
      record {
        ranks = own.0 ∷ rest.ranks;
        once = (
          (λ m. (let x = rest.each own.0 m in
              let same : o ≡ x.0 = unique kind run w o x.0 own.0 (order o (inl refl)) (order x.0 (inr x.1)) own.1 x.2 in
              apart.0 (subst (λ ks. Has ks os) (sym same) x.1))),
          rest.once,
        );
        long = ap suc rest.long;
        each = λ r m. ⊎_elim (λ e. (o, inl refl, subst (λ k. IsRank (queues_of run) o k) (sym e) own.1)) (λ n. (let x = rest.each r n in (x.0, inr x.1, x.2))) m;
        all = λ ks has. ⊎_elim (λ e. (own.0, inl refl, subst (λ l. IsRank (queues_of run) l own.0) (sym e) own.1)) (λ h. (let x = rest.all ks h in (x.0, inr x.1, x.2))) has;
      }

  -- what an order shows
  shown-by : (ks : List ℕ) → shows_of_line tables run ks ≡ Some (shows_in tables run.sessions (send_all run.steps w ks))
  shown-by ks = ap (λ s. option_map (shows_in tables run.sessions) (elim s [ Started v ↦ Some (send_all run.steps v ks) | _ ↦ None ])) starts

  at-rank : (ks : List ℕ) (rank : ℕ) → IsOrder kind run.steps (queues_of run) w ks → IsRank (queues_of run) ks rank → IsOrderAt kind run rank ks
  at-rank ks rank o r = subst (λ ls. IsOrderBy kind run ls rank ks) (sym none) (w, starts, o, r)

  same-start : (v : World) → start run ≡ Started v → v ≡ w
  same-start v e = (let f : Started v ≡ Started w = sym e ∙ starts in cc)

  -- an order that shows something at a rank
  record IsShowing (rank : ℕ) (s : Shows) : Type 0 where
    pub steps : List ℕ
    pub order : IsOrder kind run.steps (queues_of run) w steps
    pub rank_is : IsRank (queues_of run) steps rank
    pub shows : shows_in tables run.sessions (send_all run.steps w steps) ≡ s

  showing : (rank : ℕ) (s : Shows) → ShowsAt kind tables run rank s → IsShowing rank s
  showing rank s so =
      let x = subst (λ ls. IsOrderBy kind run ls rank so.0) none so.1 in
      record {
        steps = so.0;
        order = subst (λ v. IsOrder kind run.steps (queues_of run) v so.0) (same-start x.0 x.1) x.2;
        rank_is = x.3;
        shows = same-some (shows_in tables run.sessions (send_all run.steps w so.0)) s (sym (shown-by so.0) ∙ so.2);
      }

  module _ (shown : List Shows) (states : List FinalState) (differ : AreDifferent shown) (final : AreFinalStates kind tables run w shown states)
      (classes : AreClasses kind tables run w shown states) where
    pub words-told : AreTold kind tables run shown states
    words-told = record {
      numbers = λ n s at.
          (let c = classes.class n in
          let rs = ranks-of (classes.orders n) c.apart (λ ks has. (c.each ks has).0) in
          subst (λ m. IsNumberOf (λ rank. ShowsAt kind tables run rank s) m) (rs.long ∙ c.long)
          (number-same (λ r. Among r rs.ranks) (λ rank. ShowsAt kind tables run rank s) (length rs.ranks)
          (λ r m. (let x = rs.each r m in
          let o = c.each x.0 x.1 in
          let shows = same-some (shows_in tables run.sessions (send_all run.steps w x.0)) s (sym o.1 ∙ at) in
          (x.0, at-rank x.0 r o.0 x.2, shown-by x.0 ∙ ap Some shows)))
          (λ r so. (let x = showing r s so in
          let m = classes.some x.steps x.order in
          let o = (classes.class m.0).each x.steps m.1 in
          let number : m.0 ≡ n = differ m.0 n s (o.1 ∙ ap Some x.shows) at in
          let y = rs.all x.steps (subst (λ k. Has x.steps (classes.orders k)) number m.1) in
          subst (λ k. Among k rs.ranks) (one (queues_of run) x.steps y.0 r y.2 x.rank_is) y.1))
          (number-list rs.ranks rs.once)));
      some = λ rank s so.
          (let x = showing rank s so in
          let m = classes.some x.steps x.order in
          let o = (classes.class m.0).each x.steps m.1 in
          let f = classes.below m.0 x.steps rank m.1 x.rank_is in
          record { state = f.0; inside = f.1; at = ap (λ k. slice_get shown k) f.2 ∙ o.1 ∙ ap Some x.shows; below = f.3 });
      met = λ f has.
          (let x = classes.met f has in
          let o = (classes.class f.shows).each x.0 x.1 in
          let entry = final.entries f has in
          let first = entry.1.met in
          let pos = has-some first.0 (final.orders f.state) first.1 in
          let long = entry.1.long in
          record {
            shows = shows_in tables run.sessions (send_all run.steps w x.0);
            at = o.1;
            first = (x.0, at-rank x.0 f.first o.0 x.2, shown-by x.0);
            some = omega arith;
          });
      few = classes.few;
    }
