-- What orders of the sessions that are left answer.
use Rattle.std.specs.Prelude.{◌↔◌, IfSome, option_map, slice_get}
use Rattle.std.proofs.Common.{◌≡◌, ◌≢◌, refl, sym, ap, ◌∙◌, subst, ℕ, zero, suc, ◌+◌, ◌<◌, ◌≤◌, ◌⊎◌, inl, inr, ⊎_elim, arith, false, Option, Some, None}
use Rattle.std.proofs.Common.{List, [], ◌∷◌, ◌++◌, length, set, get_or, replicate}
use Rattle.std.proofs.lemmas.Bool.{cases_lt}
use Rattle.std.specs.BTreeMap.{BTreeMap, get}
use Rattle.std.specs.Ordering.{nat_cmp}
use mathlib.Core.List.{IsPrefix}
use Rattle.lock_queues.specs.Reasons.{Among}
use Rattle.binding_model.specs.declared.tables.Table.{Table}
use Rattle.bound_specs.specs.Spec.{Spec, SpecFile}
use Rattle.machine_model.specs.World.{World, send_all}
use Rattle.machine_model.specs.Start.{Start, Started, start}
use Rattle.marked_worlds.specs.Worlds.{MarkedRunning}
use Rattle.order_classes.specs.Shows.{shows_in, shows_of_line}
use Rattle.order_classes.specs.Letters.{Answers, answers_of, serial_line, times, IsOrder}
use Rattle.order_classes.specs.Laws.{SessionOrdersAreAll}
use Rattle.different_shows.specs.Different.{HasNumber}
use Rattle.spec_classes.specs.declared.answered.Answered.{Answered}
use Rattle.spec_classes.specs.Classes.{AreSerialAnswers}
use Rattle.spec_classes.specs.Serial.{AreOnce, IsAnswerBehind, IsAnswerFrom, IsAnswerIn, IsNoted, IsOrderOf, IsReady, IsRun, behind, whole}
use Rattle.spec_classes.proofs.LeftOrders.{first-left, is-inside, none-left, rest-left, some-left, zeros-at}
use Rattle.spec_classes.proofs.LineTold.{front-get}
use Rattle.spec_classes.proofs.SerialLines.{serial-sent}

among-front : (a : Answers) (xs ys : List Answers) → Among a xs → Among a (xs ++ ys)
among-front a [] ys m = absurd m
among-front a (x ∷ xs) ys (inl e) = inl e
among-front a (x ∷ xs) ys (inr m) = inr (among-front a xs ys m)

among-either : (a b : Answers) (xs : List Answers) → Among a (xs ++ b ∷ []) → Among a xs ⊎ (a ≡ b)
among-either a b [] (inl e) = inr e
among-either a b [] (inr m) = absurd m
among-either a b (x ∷ xs) (inl e) = inl (inl e)
among-either a b (x ∷ xs) (inr m) = ⊎_elim (λ k. inl (inr k)) (λ e. inr e) (among-either a b xs m)

get-among : (a : Answers) (xs : List Answers) (n : ℕ) → slice_get xs n ≡ Some a → Among a xs
get-among a [] n e = absurd (cc)
get-among a (x ∷ xs) zero e = inl (let f : Some x ≡ Some a = e in cc)
get-among a (x ∷ xs) (suc n) e = inr (get-among a xs n e)

module _ (tables : List Table) where
  -- ---- one run, and then another

  pub ready-still : (m n : MarkedRunning) (old new : Answered) → n.file ≡ m.file → n.spent ≡ false → ((k : ℕ) (w : World) → slice_get m.seen k ≡ Some w → slice_get n.seen k ≡ Some w)
      → new.walked ≡ old.walked → ((a : Answers) → Among a old.answers → Among a new.answers) → IsReady tables m old → IsReady tables n new
  ready-still m n old new file whole seen same kept h = record {
    whole = whole;
    walked = λ k left e. (let x = h.walked k left (ap (λ (b : BTreeMap ℕ (List ℕ)). get nat_cmp b k) (sym same) ∙ e) in
        (x.0, seen k x.0 x.1, λ a from. kept a (x.2 a (subst (λ (f : SpecFile). IsAnswerFrom tables left f.run x.0 a) file from))));
  }

  -- of these answers all are known
  pub run-known : (P : Spec → World → Answers → Type 0) (m : MarkedRunning) (answered : Answered) → IsReady tables m answered
      → ((a : Answers) → P m.file.run m.world a → Among a answered.answers) → IsRun tables P m answered m answered
  run-known P m answered ready known = record {
    of_spec = refl;
    world = refl;
    marked = refl;
    seen = λ k w e. e;
    ready = ready;
    kept = λ a there. there;
    all = known;
    others = λ a there. inl there;
  }

  pub run-then : (P Q R : Spec → World → Answers → Type 0) (l m n : MarkedRunning) (old mid new : Answered) → IsRun tables P l old m mid → IsRun tables Q m mid n new
      → ((a : Answers) → (P l.file.run l.world a ⊎ Q l.file.run l.world a) ↔ R l.file.run l.world a) → IsRun tables R l old n new
  run-then P Q R l m n old mid new p q both = record {
    of_spec = q.of_spec ∙ p.of_spec;
    world = q.world ∙ p.world;
    marked = q.marked ∙ p.marked;
    seen = λ k w e. q.seen k w (p.seen k w e);
    ready = q.ready;
    kept = λ a there. q.kept a (p.kept a there);
    all = λ a r. ⊎_elim (λ x. q.kept a (p.all a x)) (λ x. q.all a (subst (λ T. T) (sym (at a)) x)) ((both a).1 r);
    others = λ a there. ⊎_elim (λ x. ⊎_elim (λ o. inl o) (λ y. inr ((both a).0 (inl y))) (p.others a x)) (λ x. inr ((both a).0 (inr (subst (λ T. T) (at a) x)))) (q.others a there);
  }
    where
      at : (a : Answers) → ◌≡◌ {A = Type 0} (Q m.file.run m.world a) (Q l.file.run l.world a)
      at a j = Q (p.of_spec j).run (p.world j) a

  pub run-same : (P Q : Spec → World → Answers → Type 0) (m n : MarkedRunning) (old new : Answered) → IsRun tables P m old n new
      → ((a : Answers) → P m.file.run m.world a ↔ Q m.file.run m.world a) → IsRun tables Q m old n new
  run-same P Q m n old new p same = run-then P (λ run w a. ⊥) Q m n n old new new p (run-known (λ run w a. ⊥) n new p.ready (λ a x. absurd x))
      (λ a. (λ x. ⊎_elim (λ y. (same a).0 y) (λ y. absurd y) x, λ q. inl ((same a).1 q)))

  -- the world has got a number
  pub ready-numbered : (l m : MarkedRunning) (answered : Answered) → IsReady tables l answered → IsPrefix l.seen m.seen → m ≡ record l { seen = m.seen } → IsReady tables m answered
  ready-numbered l m answered ready front same = ready-still l m answered answered (ap (λ (x : MarkedRunning). x.file) same)
      (ap (λ (x : MarkedRunning). x.spent) same ∙ ready.whole) (λ k w e. front-get l.seen m.seen k w front e) refl (λ a there. there) ready

  -- and orders are run from there
  pub run-numbered : (P : Spec → World → Answers → Type 0) (l m n : MarkedRunning) (old new : Answered) → IsReady tables l old → IsPrefix l.seen m.seen → m ≡ record l { seen = m.seen }
      → (IsReady tables m old → IsRun tables P m old n new) → IsRun tables P l old n new
  run-numbered P l m n old new ready front same then =
      let now = ready-numbered l m old ready front same in
      run-then (λ run w a. ⊥) P P l m n old old new (record {
        of_spec = ap (λ (x : MarkedRunning). x.file) same;
        world = ap (λ (x : MarkedRunning). x.world) same;
        marked = ap (λ (x : MarkedRunning). x.marked) same;
        seen = λ k w e. front-get l.seen m.seen k w front e;
        ready = now;
        kept = λ a there. there;
        all = λ a x. absurd x;
        others = λ a there. inl there;
      }) (then now) (λ a. (λ x. ⊎_elim (λ y. absurd y) (λ y. y) x, λ x. inr x))

  -- the orders were run from a world with this number
  pub run-walked : (m : MarkedRunning) (answered : Answered) (left : List ℕ) (number : Option ℕ) (w : World) → IsReady tables m answered → m.world ≡ w
      → IfSome number (λ n. slice_get m.seen n ≡ Some w) → (n : ℕ) × (number ≡ Some n) × (get nat_cmp answered.walked n ≡ Some left)
      → IsRun tables (IsAnswerFrom tables left) m answered m answered
  run-walked m answered left number w ready here known found =
      let x = ready.walked found.0 left found.2 in
      let both : Some x.0 ≡ Some w = sym x.1 ∙ subst (λ o. IfSome o (λ n. slice_get m.seen n ≡ Some w)) found.1 known in
      let same : x.0 ≡ m.world = (let e : x.0 ≡ w = cc in e ∙ sym here) in
      run-known (IsAnswerFrom tables left) m answered ready (subst (λ v. (a : Answers) → IsAnswerFrom tables left m.file.run v a → Among a answered.answers) same x.2)

  -- and that is noted
  pub run-noted : (m n : MarkedRunning) (old mid new : Answered) (left : List ℕ) (number : Option ℕ) (w : World) → m.world ≡ w → IfSome number (λ k. slice_get m.seen k ≡ Some w)
      → IsRun tables (IsAnswerFrom tables left) m old n mid → new.answers ≡ mid.answers → IsNoted number left mid.walked new.walked
      → IsRun tables (IsAnswerFrom tables left) m old n new
  run-noted m n old mid new left number w here known p same noted = record {
    of_spec = p.of_spec;
    world = p.world;
    marked = p.marked;
    seen = p.seen;
    ready = record {
      whole = p.ready.whole;
      walked = λ k other e. ⊎_elim
          (λ was. (let x = p.ready.walked k other was in (x.0, x.1, λ a from. subst (Among a) (sym same) (x.2 a from))))
          (λ now. (
            m.world,
            p.seen k m.world (subst (λ v. slice_get m.seen k ≡ Some v) (sym here) (subst (λ o. IfSome o (λ j. slice_get m.seen j ≡ Some w)) now.0 known)),
            λ a from. subst (Among a) (sym same) (p.all a (subst (λ l. IsAnswerFrom tables l m.file.run m.world a) now.1
                (subst (λ (f : SpecFile). IsAnswerFrom tables other f.run m.world a) p.of_spec from))),
          ))
          (noted k other e);
    };
    kept = λ a there. subst (Among a) (sym same) (p.kept a there);
    all = λ a x. subst (Among a) (sym same) (p.all a x);
    others = λ a there. p.others a (subst (Among a) same there);
  }

  -- a session is run first, behind a mark that is gone back to
  pub run-behind : (l m n o : MarkedRunning) (i : ℕ) (left : List ℕ) (old new : Answered) → m.file ≡ l.file → m.world ≡ whole l.file.run l.world i → m.marked ≡ l.world ∷ l.marked
      → m.seen ≡ l.seen → IsRun tables (IsAnswerFrom tables left) m old n new → n.marked ≡ o.world ∷ o.marked → o.spent ≡ false → o.file ≡ n.file → o.seen ≡ n.seen
      → IsRun tables (IsAnswerBehind tables i left) l old o new
  run-behind l m n o i left old new file world marked seen p gone whole' file' seen' =
      let both : o.world ∷ o.marked ≡ l.world ∷ l.marked = sym gone ∙ p.marked ∙ marked in record {
        of_spec = file' ∙ p.of_spec ∙ file;
        world = cc;
        marked = cc;
        seen = λ k w e. subst (λ s. slice_get s k ≡ Some w) (sym seen') (p.seen k w (subst (λ s. slice_get s k ≡ Some w) (sym seen) e));
        ready = ready-still n o new new file' whole' (λ k w e. subst (λ s. slice_get s k ≡ Some w) (sym seen') e) refl (λ a there. there) p.ready;
        kept = p.kept;
        all = λ a x. p.all a (subst (λ T. T) (sym (at a)) x);
        others = λ a there. ⊎_elim (λ x. inl x) (λ x. inr (subst (λ T. T) (at a) x)) (p.others a there);
      }
    where
      at : (a : Answers) → ◌≡◌ {A = Type 0} (IsAnswerFrom tables left m.file.run m.world a) (IsAnswerBehind tables i left l.file.run l.world a)
      at a j = IsAnswerFrom tables left (file j).run (world j) a

  -- one answer is added
  pub run-one : (m n : MarkedRunning) (old new : Answered) (answer : Answers) (number : ℕ) → IsReady tables m old → n ≡ record m { told = n.told } → new.walked ≡ old.walked
      → IsAnswerIn tables m.file.run m.world answer → HasNumber old.answers new.answers answer number → IsRun tables (IsAnswerIn tables) m old n new
  run-one m n old new answer number ready same walked is h = record {
    of_spec = ap (λ (x : MarkedRunning). x.file) same;
    world = ap (λ (x : MarkedRunning). x.world) same;
    marked = ap (λ (x : MarkedRunning). x.marked) same;
    seen = seen;
    ready = ready-still m n old new (ap (λ (x : MarkedRunning). x.file) same) (ap (λ (x : MarkedRunning). x.spent) same ∙ ready.whole) seen walked kept ready;
    kept = kept;
    all = λ a e. subst (λ b. Among b new.answers) (is ∙ sym e) (get-among answer new.answers number h.at);
    others = λ a there. ⊎_elim (λ e. inl (subst (λ l. Among a l) e there))
        (λ p. ⊎_elim (λ x. inl x) (λ e. inr (e ∙ is)) (among-either a answer old.answers (subst (λ l. Among a l) p.1 there))) h.grown;
  }
    where
      seen : (k : ℕ) (w : World) → slice_get m.seen k ≡ Some w → slice_get n.seen k ≡ Some w
      seen k w e = ap (λ (x : MarkedRunning). slice_get x.seen k) same ∙ e

      kept : (a : Answers) → Among a old.answers → Among a new.answers
      kept a there = ⊎_elim (λ e. subst (λ l. Among a l) (sym e) there) (λ p. subst (λ l. Among a l) (sym p.1) (among-front a old.answers (answer ∷ []) there)) h.grown

  -- ---- orders

  -- the answer of an order that begins with one of the first so many sessions
  pub record IsAnswerBelow (left : List ℕ) (n : ℕ) (run : Spec) (w : World) (a : Answers) : Type 0 where
    pub session : ℕ
    pub below : session < n
    pub others : ℕ
    pub some : get_or left session 0 ≡ suc others
    pub from : IsAnswerBehind tables session (set left session others) run w a

  further : (left : List ℕ) (n k : ℕ) (run : Spec) (w : World) (a : Answers) (x : IsAnswerBelow left n run w a) → x.session < k → IsAnswerBelow left k run w a
  further left n k run w a x lt = record { session = x.session; below = lt; others = x.others; some = x.some; from = x.from }

  one-more : (left : List ℕ) (n : ℕ) (run : Spec) (w : World) (a : Answers) → IsAnswerBelow left n run w a → IsAnswerBelow left (n + 1) run w a
  one-more left n run w a x = further left n (n + 1) run w a x (let lt = x.below in omega (arith, lt))

  -- a session that is not left
  pub below-skip : (left : List ℕ) (k : ℕ) (m n : MarkedRunning) (old new : Answered) → get_or left k 0 ≡ 0 → IsRun tables (IsAnswerBelow left k) m old n new
      → IsRun tables (IsAnswerBelow left (k + 1)) m old n new
  below-skip left k m n old new none p = run-same (IsAnswerBelow left k) (IsAnswerBelow left (k + 1)) m n old new p
      (λ a. (one-more left k m.file.run m.world a, λ x. further left (k + 1) k m.file.run m.world a x (less a x)))
    where
      less : (a : Answers) (x : IsAnswerBelow left (k + 1) m.file.run m.world a) → x.session < k
      less a x =
          let lt = x.below in
          let some = x.some in
          let cases : (x.session < k) ⊎ (x.session ≡ k) = grind (arith, lt) in
          ⊎_elim (λ l. l) (λ e. absurd (let here : get_or left x.session 0 ≡ 0 = ap (λ i. get_or left i 0) e ∙ none in omega (arith, here, some))) cases

  -- one that is
  pub below-next : (left : List ℕ) (k c : ℕ) (l m n : MarkedRunning) (old mid new : Answered) → get_or left k 0 ≡ suc c → IsRun tables (IsAnswerBelow left k) l old m mid
      → IsRun tables (IsAnswerBehind tables k (set left k c)) m mid n new → IsRun tables (IsAnswerBelow left (k + 1)) l old n new
  below-next left k c l m n old mid new some p q = run-then (IsAnswerBelow left k) (IsAnswerBehind tables k (set left k c)) (IsAnswerBelow left (k + 1)) l m n old mid new p q (λ a. (
    λ x. ⊎_elim (one-more left k l.file.run l.world a) (λ y. record { session = k; below = omega arith; others = c; some = some; from = y }) x,
    apart a,
  ))
    where
      apart : (a : Answers) → IsAnswerBelow left (k + 1) l.file.run l.world a
          → IsAnswerBelow left k l.file.run l.world a ⊎ IsAnswerBehind tables k (set left k c) l.file.run l.world a
      apart a x =
          let lt = x.below in
          let cases : (x.session < k) ⊎ (x.session ≡ k) = grind (arith, lt) in
          ⊎_elim (λ less. inl (further left (k + 1) k l.file.run l.world a x less))
          (λ e. inr (let both : suc x.others ≡ suc c = sym x.some ∙ ap (λ i. get_or left i 0) e ∙ some in
          let count : x.others ≡ c = omega (arith, both) in
          subst (λ d. IsAnswerBehind tables k (set left k d) l.file.run l.world a) count
          (subst (λ i. IsAnswerBehind tables i (set left i x.others) l.file.run l.world a) e x.from))) cases

  -- each order begins with one of them
  pub below-all : (left : List ℕ) (k : ℕ) (m n : MarkedRunning) (old new : Answered) → left ≢ replicate (length left) 0 → length left ≤ k
      → IsRun tables (IsAnswerBelow left k) m old n new → IsRun tables (IsAnswerFrom tables left) m old n new
  below-all left k m n old new some le p = run-same (IsAnswerBelow left k) (IsAnswerFrom tables left) m n old new p (λ a. (
    λ x. (let rest = x.from in (x.session ∷ rest.0, first-left left x.session x.others rest.0 x.some rest.1, rest.2)),
    λ x. (let first = some-left left x.0 some x.1 in
        let rest = rest-left left first.0 first.1 (subst (IsOrderOf left) first.2 x.1) in
        let inside = is-inside left first.0 (times first.0 first.1) rest.0 in record {
          session = first.0;
          below = omega (arith, inside, le);
          others = times first.0 first.1;
          some = rest.0;
          from = (first.1, rest.1, subst (λ o. IsAnswerIn tables (m.file.run) (behind m.file.run m.world o) a) first.2 x.2);
        }),
  ))

  -- nothing is left
  pub none-run : (k : ℕ) (m n : MarkedRunning) (old new : Answered) → IsRun tables (IsAnswerIn tables) m old n new → IsRun tables (IsAnswerFrom tables (replicate k 0)) m old n new
  none-run k m n old new p = run-same (IsAnswerIn tables) (IsAnswerFrom tables (replicate k 0)) m n old new p (λ a. (
    λ is. ([], (λ i. sym (zeros-at k i)), is),
    λ x. subst (λ o. IsAnswerIn tables m.file.run (behind m.file.run m.world o) a) (none-left k x.0 x.1) x.2,
  ))

  -- all orders of the sessions are run from the start
  pub all-answered : (run : Spec) (m n : MarkedRunning) (left : List ℕ) (old new : Answered) → SessionOrdersAreAll → m.file.run ≡ run → start run ≡ Started m.world → AreOnce run.sessions left
      → old.answers ≡ [] → IsRun tables (IsAnswerFrom tables left) m old n new → AreSerialAnswers tables run new.answers
  all-answered run m n left old new law of_spec starts once none p = record {
    each = λ a there. ⊎_elim (λ o. absurd (subst (Among a) none o))
        (λ x. (x.0, (law run.sessions x.0).1 (is-order x.0 x.1), answered x.0 a (is-order x.0 x.1) (subst (λ r. IsAnswerIn tables r (behind r m.world x.0) a) of_spec x.2)))
        (p.others a there);
    all = λ order there. (let h = (law run.sessions order).0 there in (
      answer order,
      p.all (answer order) (order, is-left order h, subst (λ r. IsAnswerIn tables r (behind r m.world order) (answer order)) (sym of_spec) refl),
      answered order (answer order) h refl,
    ));
  }
    where
      answer : List ℕ → Answers
      answer order = answers_of (shows_in tables run.sessions (behind run m.world order))

      is-order : (order : List ℕ) → IsOrderOf left order → IsOrder run.sessions order
      is-order order h = record { each = λ i lt. h i ∙ once.each i lt; none = λ i le. h i ∙ once.none i le }

      is-left : (order : List ℕ) → IsOrder run.sessions order → IsOrderOf left order
      is-left order h i = ⊎_elim (λ lt. h.each i lt ∙ sym (once.each i lt)) (λ le. h.none i le ∙ sym (once.none i le)) (cases_lt i run.sessions)

      answered : (order : List ℕ) (a : Answers) → IsOrder run.sessions order → IsAnswerIn tables run (behind run m.world order) a
          → option_map answers_of (shows_of_line tables run (serial_line run order)) ≡ Some a
      answered order a h is =
          ap (λ (s : Start). option_map answers_of (option_map (shows_in tables run.sessions)
          (elim s [ Started v ↦ Some (send_all run.steps v (serial_line run order)) | _ ↦ None ]))) starts
          ∙ ap (λ v. Some (answers_of (shows_in tables run.sessions v))) (serial-sent run order m.world h) ∙ ap Some (sym is)
