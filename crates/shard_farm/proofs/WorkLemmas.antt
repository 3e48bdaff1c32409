-- What a worker has done stays true as it goes on.
use Rattle.std.proofs.Common.{◌≡◌, ◌≢◌, ◌⊎◌, ℕ, zero, suc, ◌<◌, ◌≤◌, ◌||◌, Bool, true, false, not, true≢false, List, [], ◌∷◌, ◌++◌, length, set, replicate, Some}
use Rattle.std.proofs.Common.{None, refl, sym, ap, ◌∙◌, subst, inl, inr, ⊎_elim, arith, eq-eqb, ne_eqb}
use Rattle.std.proofs.Common.{All}
use Rattle.std.specs.Prelude.{◌==◌}
use Rattle.std.proofs.lemmas.Bool.{or_cases, or_left, or_right, eqb-true}
use Rattle.std.proofs.lemmas.List.{get_or-set_same, get_or-set_other, length-set, length-replicate, length-append}
use mathlib.Core.Option.{some-ne-none}
use mathlib.Core.Logic.{dite}
use native.Mathlib.Decide.{ℕ_discrete}
use lib.ListN.{get_elem?}
use Rattle.atomic_table.proofs.Lists.{at_longer, at_last}
use Rattle.bound_specs.specs.Spec.{Spec}
use Rattle.rank_facts.specs.declared.shard.Shard.{Shard}
use Rattle.fact_books.specs.Entries.{FactSet}
use Rattle.fact_books.specs.Books.{Contents}
use Rattle.shard_board.specs.declared.error.TheConstants.{MAX_SHARDS}
use Rattle.shard_board.specs.declared.error.DeliverErrorKind.{DeliverErrorKind}
use Rattle.shard_board.specs.declared.error.DeliverErrorKind.TheVariants as deliver_error
use Rattle.shard_board.specs.declared.history.Receipt.{Receipt}
use Rattle.shard_board.specs.declared.history.Call.{Call}
use Rattle.shard_board.specs.declared.history.Call.TheVariants.{Deliver, Latest}
use Rattle.shard_board.specs.declared.history.Entry.{Entry}
use Rattle.shard_board.specs.History.{entry}
use Rattle.shard_board.specs.Shown.{ShownSeat, ShownBoard, has}
use Rattle.shard_board.specs.Changes.{with_new_claim, with_new_refusal, with_new_turn, IsClaim, IsTurn}
use Rattle.shard_board.specs.Refused.{IsNotDelivered}
use Rattle.shard_board.proofs.RowLemmas.{at_end}
use Rattle.shard_farm.specs.declared.worker.Worker.{Worker}
use Rattle.shard_farm.specs.Working.{AreFactsAt, HasServed, is_marked, IsReady, MayServe, IsDelivered, IsTrueCall, Serves, HasClaimed, HasWorked}

pub has-push : (m n : ℕ) (xs : List ℕ) → has m (xs ++ n ∷ []) ≡ true → (has m xs ≡ true) ⊎ (n ≡ m)
has-push m n [] h = ⊎_elim (λ e. inr (eqb-true n m e)) (λ e. absurd (true≢false (sym e))) (or_cases (n == m) false h)
has-push m n (x ∷ xs) h =
    ⊎_elim (λ e. inl (or_left (x == m) (has m xs) e)) (λ e. ⊎_elim (λ t. inl (or_right (x == m) (has m xs) t)) (λ t. inr t) (has-push m n xs e))
    (or_cases (x == m) (has m (xs ++ n ∷ [])) h)

pub has_old : (m n : ℕ) (xs : List ℕ) → has m xs ≡ true → has m (xs ++ n ∷ []) ≡ true
has_old m n [] h = absurd (true≢false (sym h))
has_old m n (x ∷ xs) h =
    ⊎_elim (λ e. or_left (x == m) (has m (xs ++ n ∷ [])) e) (λ e. or_right (x == m) (has m (xs ++ n ∷ [])) (has_old m n xs e)) (or_cases (x == m) (has m xs) h)

pub has_new : (n : ℕ) (xs : List ℕ) → has n (xs ++ n ∷ []) ≡ true
has_new n [] = or_left (n == n) false (eq-eqb n n refl)
has_new n (x ∷ xs) = or_right (x == n) (has n (xs ++ n ∷ [])) (has_new n xs)

-- a number above all claimed ones is none of them
not_had : (n : ℕ) (xs : List ℕ) → All (λ x. x < n) xs → has n xs ≡ false
not_had n [] a = refl
not_had n (x ∷ xs) a =
    let below : x < n = a 0 x (omega arith) in
    let apart : x ≢ n = λ e. absurd (omega arith) in
    ap (λ (b : Bool). b || has n xs) (ne_eqb x n apart) ∙ not_had n xs (λ k d l. a (suc k) d (omega arith))

unmarked : (count n : ℕ) → is_marked (replicate count false) n ≡ false
unmarked zero n = refl
unmarked (suc count) zero = refl
unmarked (suc count) (suc n) = unmarked count n

at_front : (m x : ℕ) (xs : List ℕ) → x < m → All (λ y. y < m) xs → All (λ y. y < m) (x ∷ xs)
at_front m x xs here rest zero d l = here
at_front m x xs here rest (suc k) d l = rest k d (omega arith)

-- all are below a number that stands behind them
crowded : (m n : ℕ) (xs : List ℕ) → All (λ x. x < m) (xs ++ n ∷ []) → (n < m) × All (λ x. x < m) xs
crowded m n [] a = (a 0 n (omega arith), λ k d l. absurd (omega arith))
crowded m n (x ∷ xs) a =
    let r = crowded m n xs (λ k d l. a (suc k) d (omega arith)) in (r.0, at_front m x xs (a 0 x (omega arith)) r.1)

-- another number that was claimed before
apart_from : (m n : ℕ) (xs : List ℕ) → has m xs ≡ true → has n xs ≡ false → m ≢ n
apart_from m n xs had none e = true≢false (sym had ∙ (ap (λ (k : ℕ). has k xs) e ∙ none))

module _ (reduce : Bool) (spec : Spec) (shards : List Shard) where
  pub begins : (board : ShownBoard) (worker : Worker) → IsReady board worker → length shards ≡ board.shards
      → Serves reduce spec shards worker.seat worker.missed.items
  begins board worker r long = record {
    each = λ n had. absurd (true≢false (sym had ∙ ap (has n) r.starting.claims));
    only = λ k e at. absurd (some-ne-none e (sym at ∙ ap (λ (l : List Entry). get_elem? l k) r.starting.calls));
    marked = λ n is. absurd (true≢false (sym is ∙ (ap (λ (l : List Bool). is_marked l n) r.blank ∙ unmarked board.shards n)));
    long = ap (λ (l : List Bool). length l) r.blank ∙ (length-replicate board.shards false ∙ sym long);
    turns = (let calls = ap (λ (l : List Entry). length l) r.starting.calls in omega arith);
    few = λ n below. let claims = ap (λ (l : List ℕ). length l) r.starting.claims in omega arith;
  }

  true_still : (claims : List ℕ) (marks : List Bool) (n : ℕ) (mark : Bool) (c : Call) → has n claims ≡ false → IsTrueCall reduce spec shards claims marks c
      → IsTrueCall reduce spec shards (claims ++ n ∷ []) (set marks n mark) c
  true_still claims marks n mark (Deliver m facts (Some r)) none h =
      (has_old m n claims h.0, (get_or-set_other marks n m mark false (apart_from m n claims h.0 none) ∙ h.1.0, h.1.1))
  true_still claims marks n mark (Deliver m facts None) none h = tt
  true_still claims marks n mark (Latest reply) none h = tt

  still_delivered : (calls : List Entry) (e : Entry) (n : ℕ) → IsDelivered reduce spec shards calls n → IsDelivered reduce spec shards (calls ++ e ∷ []) n
  still_delivered calls e n d = (d.0, (d.1.0, (d.1.1.0, (d.1.1.1.0, (at_longer calls (e ∷ []) d.0 d.1.0 d.1.1.1.1.0, d.1.1.1.1.1)))))

  -- one more is claimed, above those before
  fewer : (s : ShownSeat) (marks : List Bool) (n m : ℕ) → All (λ x. x < n) s.claims → Serves reduce spec shards s marks
      → All (λ x. x < m) (s.claims ++ n ∷ []) → length (s.claims ++ n ∷ []) ≤ m
  fewer s marks n m greater v below =
      let more = length-append s.claims (n ∷ []) in
      let few = v.few n greater in
      let last = (crowded m n s.claims below).0 in omega arith

  -- one more shard is claimed, and gets a mark
  marks_one : (s : ShownSeat) (marks : List Bool) (n : ℕ) → n < length shards → All (λ x. x < n) s.claims → Serves reduce spec shards s marks
      → Serves reduce spec shards (with_new_claim s n) (set marks n true)
  marks_one s marks n below greater v =
      let none = not_had n s.claims greater in
      let inside : n < length marks = let l = v.long in omega arith in record {
        each = λ m had. ⊎_elim
            (λ old. ⊎_elim (λ is. inl (get_or-set_other marks n m true false (apart_from m n s.claims old none) ∙ is)) (λ d. inr d) (v.each m old))
            (λ (same : n ≡ m). inl (subst (λ (k : ℕ). is_marked (set marks n true) k ≡ true) same (get_or-set_same marks n true false inside)))
            (has-push m n s.claims had);
        only = λ k e at. true_still s.claims marks n true e.call none (v.only k e at);
        marked = λ m is. dite (ℕ_discrete m n)
            (λ same. subst (λ (k : ℕ). has k (s.claims ++ n ∷ []) ≡ true) (sym same) (has_new n s.claims))
            (λ other. has_old m n s.claims (v.marked m (sym (get_or-set_other marks n m true false other) ∙ is)));
        long = length-set marks n true ∙ v.long;
        turns = (let t = v.turns in let more = length-append s.claims (n ∷ []) in omega arith);
        few = λ m all. fewer s marks n m greater v all;
      }

  -- a turn that was refused memory
  in_vain : (s : ShownSeat) (marks : List Bool) (before : List Entry) (n : ℕ) (facts : FactSet) → length s.calls < length s.claims
      → Serves reduce spec shards s marks → Serves reduce spec shards (with_new_turn s before (Deliver n facts None)) marks
  in_vain s marks before n facts spare v =
      let e : Entry = entry s.number (Deliver n facts None) in record {
        each = λ m had. ⊎_elim (λ is. inl is) (λ d. inr (still_delivered s.calls e m d)) (v.each m had);
        only = λ k x at. ⊎_elim (λ old. v.only k x old)
            (λ (new : (k ≡ length s.calls) × (e ≡ x)). subst (λ (y : Entry). IsTrueCall reduce spec shards s.claims marks y.call) new.1 tt)
            (at_end s.calls e x k at);
        marked = v.marked;
        long = v.long;
        turns = (let more = length-append s.calls (e ∷ []) in omega arith);
        few = v.few;
      }

  -- one more shard is claimed and delivered
  delivers_one : (s : ShownSeat) (marks : List Bool) (before : List Entry) (n : ℕ) (facts : FactSet) (r : Receipt) → n < length shards
      → All (λ x. x < n) s.claims → AreFactsAt reduce spec shards n facts → Serves reduce spec shards s marks
      → Serves reduce spec shards (with_new_turn (with_new_claim s n) before (Deliver n facts (Some r))) (set marks n false)
  delivers_one s marks before n facts r below greater are v =
      let none = not_had n s.claims greater in
      let inside : n < length marks = let l = v.long in omega arith in
      let call : Call = Deliver n facts (Some r) in
      let e : Entry = entry s.number call in record {
        each = λ m had. ⊎_elim
            (λ old. ⊎_elim
            (λ is. inl (get_or-set_other marks n m false false (apart_from m n s.claims old none) ∙ is))
            (λ d. inr (still_delivered s.calls e m d)) (v.each m old))
            (λ (same : n ≡ m). inr (subst (λ (k : ℕ). IsDelivered reduce spec shards (s.calls ++ e ∷ []) k) same
            (length s.calls, (e, (facts, (r, (at_last s.calls e (length s.calls) refl, (refl, are))))))))
            (has-push m n s.claims had);
        only = λ k x at. ⊎_elim
            (λ old. true_still s.claims marks n false x.call none (v.only k x old))
            (λ (new : (k ≡ length s.calls) × (e ≡ x)). subst (λ (y : Entry). IsTrueCall reduce spec shards (s.claims ++ n ∷ []) (set marks n false) y.call)
            new.1 (has_new n s.claims, (get_or-set_same marks n false false inside, are)))
            (at_end s.calls e x k at);
        marked = λ m is. dite (ℕ_discrete m n)
            (λ same. subst (λ (k : ℕ). has k (s.claims ++ n ∷ []) ≡ true) (sym same) (has_new n s.claims))
            (λ other. has_old m n s.claims (v.marked m (sym (get_or-set_other marks n m false false other) ∙ is)));
        long = length-set marks n false ∙ v.long;
        turns = (let t = v.turns in let more = length-append s.claims (n ∷ []) in let calls = length-append s.calls (e ∷ []) in omega arith);
        few = λ m all. fewer s marks n m greater v all;
      }

  -- one more shard is claimed, and delivered or marked
  pub goes_on : (count : ℕ) (s s' s'' : ShownSeat) (marks : List Bool) (n : ℕ) (served : Bool) → length shards ≡ count → Serves reduce spec shards s marks
      → IsClaim count s s' n → HasServed reduce spec shards s' s'' n served → Serves reduce spec shards s'' (set marks n (not served))
  goes_on count s s' s'' marks n true same v claim h =
      let below : n < length shards = let b = claim.below in omega arith in
      let turn = h.1.1.0 in
      let is : s'' ≡ with_new_turn (with_new_claim s n) turn.before (Deliver n h.0 (Some h.1.0)) =
      turn.seat ∙ ap (λ (x : ShownSeat). with_new_turn x turn.before (Deliver n h.0 (Some h.1.0))) claim.seat in
      subst (λ (x : ShownSeat). Serves reduce spec shards x (set marks n false)) (sym is)
      (delivers_one s marks turn.before n h.0 h.1.0 below claim.greater h.1.1.1 v)
  goes_on count s s' s'' marks n false same v claim h =
      let below : n < length shards = let b = claim.below in omega arith in
      let marked = marks_one s marks n below claim.greater v in
      let spare : length s.calls < length (s.claims ++ n ∷ []) = let t = v.turns in let more = length-append s.claims (n ∷ []) in omega arith in
      ⊎_elim
      (λ (same : s'' ≡ s'). subst (λ (x : ShownSeat). Serves reduce spec shards x (set marks n true)) (sym (same ∙ claim.seat)) marked)
      (λ (t : (facts : FactSet) × IsTurn s' s'' (Deliver n facts None)).
      let is : s'' ≡ with_new_turn (with_new_claim s n) t.1.before (Deliver n t.0 None) =
      t.1.seat ∙ ap (λ (x : ShownSeat). with_new_turn x t.1.before (Deliver n t.0 None)) claim.seat in
      subst (λ (x : ShownSeat). Serves reduce spec shards x (set marks n true)) (sym is)
      (in_vain (with_new_claim s n) (set marks n true) t.1.before n t.0 spare marked))
      h

  -- the shard that was claimed last is delivered or marked
  pub served-next : (worker : Worker) (n : ℕ) (after : ShownSeat) (served : Bool) → HasClaimed reduce spec shards worker n
      → HasServed reduce spec shards worker.seat after n served → Serves reduce spec shards after (set worker.missed.items n (not served))
  served-next worker n after served has h =
      goes_on (length shards) has.before worker.seat after worker.missed.items n served refl has.serves has.claim h

  pub marked-next : (worker : Worker) (n : ℕ) → HasClaimed reduce spec shards worker n → Serves reduce spec shards worker.seat (set worker.missed.items n true)
  marked-next worker n has = served-next worker n worker.seat false has (inl refl)

  -- a seat with a shard that it claimed and has not served may deliver it
  pub may-serve : (worker : Worker) (n : ℕ) → length shards ≤ MAX_SHARDS → HasClaimed reduce spec shards worker n → MayServe worker.seat n
  may-serve worker n few has =
      let below = has.claim.below in
      let claims = has.serves.few n has.claim.greater in
      let turns = has.serves.turns in
      subst (λ (x : ShownSeat). MayServe x n) (sym has.claim.seat) record { claimed = has_new n has.before.claims; turns = omega arith }

  -- there is no more to claim
  pub ends : (s s' : ShownSeat) (marks : List Bool) → Serves reduce spec shards s marks → s' ≡ with_new_refusal s → HasWorked reduce spec shards s' marks
  ends s s' marks v is = subst (λ (x : ShownSeat). HasWorked reduce spec shards x marks) (sym is)
      record { ended = refl; serves = record { each = v.each; only = v.only; marked = v.marked; long = v.long; turns = v.turns; few = v.few } }

  -- a delivery that was refused changes nothing, or was a turn that was refused memory
  pub not_served : (kind : DeliverErrorKind) (old new : ShownSeat) (n : ℕ) (book : Contents) → IsNotDelivered kind old new n book
      → HasServed reduce spec shards old new n false
  not_served deliver_error.SpecMismatch old new n book h = inl h.1
  not_served deliver_error.NotClaimed old new n book h = inl h.2
  not_served deliver_error.SeatSpent old new n book h = inl h.2
  not_served deliver_error.NoMemory old new n book h = inr (book.facts, h.2)

-- a seat that may deliver a book of its board's spec is refused for want of memory alone
pub delivers-but-for-memory : (kind : DeliverErrorKind) (old new : ShownSeat) (n : ℕ) (book : Contents) → book.file.text ≡ old.board.file.text
    → MayServe old n → IsNotDelivered kind old new n book → kind ≡ deliver_error.NoMemory
delivers-but-for-memory deliver_error.SpecMismatch old new n book same may h = absurd (h.0 same)
delivers-but-for-memory deliver_error.NotClaimed old new n book same may h = absurd (true≢false (sym may.claimed ∙ h.1))
delivers-but-for-memory deliver_error.SeatSpent old new n book same may h = absurd (let spent = h.1 in let turns = may.turns in omega arith)
delivers-but-for-memory deliver_error.NoMemory old new n book same may h = refl
