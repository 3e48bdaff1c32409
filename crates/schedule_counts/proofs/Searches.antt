-- What a search keeps.
use Rattle.std.proofs.Common.{◌≡◌, refl, sym, ap, ◌∙◌, subst, ℕ, zero, suc, ◌<◌, ◌≤◌, ◌&&◌, ◌⊎◌, inl, inr, Bool, true, false, List, [], ◌∷◌, ◌++◌, Some, length, get_or, map, arith}
use Rattle.std.specs.Prelude.{slice_get, option_map, cond}
use Rattle.std.proofs.lemmas.Bool.{cases_lt, false≢true}
use Rattle.std.proofs.lemmas.List.{append-nil, length-append, map-append}
use Rattle.std.proofs.lemmas.Option.{slice_get_within, slice_get-get_or, slice_get-map, get_or_from_slice_get}
use Rattle.std.proofs.Math.ListN.{get_or-append}
use mathlib.Core.List.{IsPrefix}
use Rattle.binding_model.specs.declared.tables.Table.{Table}
use Rattle.path_counts.specs.Paths.{Has}
use Rattle.path_counts.proofs.Lists.{has-cases}
use Rattle.bound_specs.specs.Spec.{Spec}
use Rattle.bound_specs.proofs.WalkLemmas.{get_or-queues_at-past}
use Rattle.machine_model.specs.World.{World, blank}
use Rattle.world_graph.specs.Worlds.{IsOver}
use Rattle.spec_schedules.specs.declared.kind.Kind.{Kind}
use Rattle.spec_schedules.specs.Schedules.{may_come}
use Rattle.spec_schedules.specs.Points.{Point, point_rules, is_some_left}
use Rattle.marked_worlds.specs.Worlds.{MarkedRunning}
use Rattle.different_shows.specs.Different.{HasNumber}
use Rattle.order_classes.specs.declared.shows.Shows.{Shows}
use Rattle.schedule_counts.specs.declared.place.Place.{Place}
use Rattle.schedule_counts.specs.declared.search.Noted.{Noted}
use Rattle.schedule_counts.specs.Searching.{searched, left_at, point_at, point_noted, IsPlaceOf, HasShows, IsShownAt, IsNotedIn, IsKept}

pub same-prefix : {T : Type 0} (xs ys : List T) → ys ≡ xs → IsPrefix xs ys
same-prefix xs ys e = ([], append-nil xs ∙ sym e)

slice_get-on : {T : Type 0} (xs more : List T) (n : ℕ) (x : T) → slice_get xs n ≡ Some x → slice_get (xs ++ more) n ≡ Some x
slice_get-on [] more n x h = absurd (cc)
slice_get-on (y ∷ xs) more zero x h = h
slice_get-on (y ∷ xs) more (suc n) x h = slice_get-on xs more n x h

-- ---- what is noted stays

module _ (tables : List Table) (kind : Kind) (run : Spec) where
  same-point : (ws more : List World) (n : Noted) → n.world < length ws → point_noted kind run (ws ++ more) n ≡ point_noted kind run ws n
  same-point ws more n lt = ap (point_at kind run n.next) (get_or-append ws more blank n.world lt)

  noted-later : (ws more : List World) (shown later : List Shows) (n : Noted) → IsNotedIn tables kind run ws shown n → IsNotedIn tables kind run (ws ++ more) (shown ++ later) n
  noted-later ws more shown later n h =
      let same = same-point ws more n h.inside in
      record {
        inside = (let l = length-append ws more in let lt = h.inside in omega arith);
        shows = λ over.
            (let o = h.shows (subst (λ p. IsOver point_rules p) same over) in
            let there : HasShows tables (shown ++ later) (point_noted kind run ws n) n.shows = (o.0, o.1, slice_get-on shown later o.0 _ o.2) in
            subst (λ p. HasShows tables (shown ++ later) p n.shows) (sym same) there);
      }

  seen-same : (ws more : List World) (ns : List Noted) → ((n : Noted) → Has n ns → n.world < length ws) → map (point_noted kind run (ws ++ more)) ns ≡ map (point_noted kind run ws) ns
  seen-same ws more [] all = refl
  seen-same ws more (n ∷ ns) all =
      let head = same-point ws more n (all n (inl refl)) in
      let tail = seen-same ws more ns (λ m h. all m (inr h)) in
      λ i. head i ∷ tail i

module _ (m : MarkedRunning) (tables : List Table) (kind : Kind) (place : Place) (marks : List Place) (noted : List Noted) (shown : List Shows) (kept : IsKept m tables kind place marks noted shown) where
  -- the machine goes on, other places are kept, and more is shown
  pub kept-later : (later : MarkedRunning) (here : Place) (others : List Place) (all : List Shows) → later.file ≡ m.file → IsPrefix m.seen later.seen → IsPrefix shown all → IsPlaceOf m.file.run here
      → ((p : Place) → Has p others → IsPlaceOf m.file.run p) → IsKept later tables kind here others noted all
  kept-later later here others all file seen more is each = record {
    sessions = subst (λ f. f.run.sessions ≤ 8) (sym file) kept.sessions;
    here = subst (λ f. IsPlaceOf f.run here) (sym file) is;
    at_marks = λ p h. subst (λ f. IsPlaceOf f.run p) (sym file) (each p h);
    worlds = λ n h. subst (λ f. IsNotedIn tables kind f.run later.seen all n) (sym file)
        (subst (λ ws. IsNotedIn tables kind m.file.run ws all n) seen.1 (subst (λ ss. IsNotedIn tables kind m.file.run (m.seen ++ seen.0) ss n) more.1 (noted-later tables kind m.file.run m.seen seen.0 shown more.0 n (kept.worlds n h))));
  }

  pub view-grown : (later : MarkedRunning) → later ≡ record m { seen = later.seen } → IsPrefix m.seen later.seen → searched later tables kind place marks noted shown ≡ record (searched m tables kind place marks noted shown) { worlds = later.seen }
  view-grown later e seen =
      let same : map (point_noted kind m.file.run later.seen) noted ≡ map (point_noted kind m.file.run m.seen) noted =
      ap (λ ws. map (point_noted kind m.file.run ws) noted) (sym seen.1) ∙ seen-same tables kind m.file.run m.seen seen.0 noted (λ n h. (kept.worlds n h).inside) in
      ap (λ x. searched x tables kind place marks noted shown) e ∙ ap (λ points. record (searched m tables kind place marks noted shown) { seen = points; worlds = later.seen }) same

  -- a session that is enabled is one of the eight
  pub enabled-few : (a : ℕ) → (is_some_left (get_or (left_at m.file.run place.next) a []) && may_come kind m.world a) ≡ true → a < 8
  enabled-few a can = elim (cases_lt a m.file.run.sessions) [
    | inl lt ↦ (let l = kept.sessions in omega arith)
    | inr le ↦ absurd (false≢true (sym (ap (λ xs. is_some_left xs && may_come kind m.world a) (get_or-queues_at-past m.file.run.steps m.file.run.sessions a place.next le)) ∙ can))
  ]

-- what is numbered stays, whether it was there or stands behind the others now
pub number-prefix : (old new : List Shows) (s : Shows) (n : ℕ) → HasNumber old new s n → IsPrefix old new
number-prefix old new s n h = elim h.grown [ inl e ↦ same-prefix old new e | inr e ↦ (s ∷ [], sym e.1) ]

-- ---- noting

pub at-place : {T : Type 0} (xs : List T) (k : ℕ) (x : T) → k < length xs → ((d : T) → x ≡ get_or xs k d) → slice_get xs k ≡ Some x
at-place xs k x lt e = slice_get-get_or xs k x lt ∙ ap Some (sym (e x))

has-place : {T : Type 0} (xs : List T) (k : ℕ) (x : T) → slice_get xs k ≡ Some x → Has x xs
has-place [] k x h = absurd (cc)
has-place (y ∷ xs) zero x h = inl (cc)
has-place (y ∷ xs) (suc k) x h = inr (has-place xs k x h)

pub pushed-cases : {T : Type 0} (b : Bool) (xs new : List T) (x : T) → new ≡ cond b (xs ++ x ∷ []) xs → (y : T) → Has y new → Has y xs ⊎ (y ≡ x)
pushed-cases true xs new x e y h = elim (has-cases y xs (x ∷ []) (subst (λ l. Has y l) e h)) [ inl a ↦ inl a | inr (inl s) ↦ inr s | inr (inr n) ↦ absurd n ]
pushed-cases false xs new x e y h = inl (subst (λ l. Has y l) e h)

module _ (m : MarkedRunning) (tables : List Table) (kind : Kind) (place : Place) (marks : List Place) (noted : List Noted) (shown : List Shows) where
  abbrev now : Point
  now = point_at kind m.file.run place.next m.world

  -- what is noted of the point now is this point
  note-point : (n : Noted) → n.next ≡ place.next → slice_get m.seen n.world ≡ Some m.world → point_noted kind m.file.run m.seen n ≡ now
  note-point n next there = ap (λ x. point_at kind m.file.run x (get_or m.seen n.world blank)) next ∙ ap (point_at kind m.file.run place.next) (get_or_from_slice_get m.seen n.world m.world blank there)

  pub found-is : (n : Noted) (k : ℕ) → slice_get noted k ≡ Some n → n.world ≡ k → n.next ≡ place.next → slice_get m.seen k ≡ Some m.world → slice_get (searched m tables kind place marks noted shown).seen k ≡ Some now
  found-is n k at world next there =
      slice_get-map (point_noted kind m.file.run m.seen) noted k ∙ ap (option_map (point_noted kind m.file.run m.seen)) at
      ∙ ap Some (note-point n next (ap (slice_get m.seen) world ∙ there))

  pub shows-is : (kept : IsKept m tables kind place marks noted shown) (n : Noted) (k : ℕ) → slice_get noted k ≡ Some n → (p : Point) → slice_get (searched m tables kind place marks noted shown).seen k ≡ Some p → IsOver point_rules p → HasShows tables shown p n.shows
  shows-is kept n k at p there over =
      let is : Some (point_noted kind m.file.run m.seen n) ≡ Some p = sym (slice_get-map (point_noted kind m.file.run m.seen) noted k ∙ ap (option_map (point_noted kind m.file.run m.seen)) at) ∙ there in
      let same : point_noted kind m.file.run m.seen n ≡ p = cc in
      subst (λ x. HasShows tables shown x n.shows) same ((kept.worlds n (has-place noted k n at)).shows (subst (λ x. IsOver point_rules x) (sym same) over))

  pub note-is : (n : Noted) → n.next ≡ place.next → slice_get m.seen n.world ≡ Some m.world → (searched m tables kind place marks (noted ++ n ∷ []) shown) ≡ record (searched m tables kind place marks noted shown) { seen = (searched m tables kind place marks noted shown).seen ++ now ∷ [] }
  note-is n next there =
      ap (λ points. record (searched m tables kind place marks noted shown) { seen = points })
      (map-append (point_noted kind m.file.run m.seen) noted (n ∷ []) ∙ ap (λ p. map (point_noted kind m.file.run m.seen) noted ++ p ∷ []) (note-point n next there))

  pub note-kept : (kept : IsKept m tables kind place marks noted shown) (n : Noted) (b : Bool) (new : List Noted) → new ≡ cond b (noted ++ n ∷ []) noted → n.next ≡ place.next → slice_get m.seen n.world ≡ Some m.world
      → IsShownAt (searched m tables kind place marks noted shown) n.shows → IsKept m tables kind place marks new shown
  note-kept kept n b new pushed next there shows = record {
    sessions = kept.sessions;
    here = kept.here;
    at_marks = kept.at_marks;
    worlds = λ x h. elim (pushed-cases b noted new n pushed x h) [
      | inl a ↦ kept.worlds x a
      | inr e ↦ subst (λ y. IsNotedIn tables kind m.file.run m.seen shown y) (sym e) (record {
        inside = slice_get_within m.seen n.world m.world there;
        shows = λ over. subst (λ p. HasShows tables shown p n.shows) (sym (note-point n next there)) (shows (subst (λ p. IsOver point_rules p) (note-point n next there) over));
      })
    ];
  }
