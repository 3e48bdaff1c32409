-- Where every worker is done, the board's book has the facts of all shards but those that a worker has marked.
use Rattle.std.proofs.Common.{◌≡◌, ◌≢◌, ◌⊎◌, ℕ, zero, suc, ◌+◌, ◌<◌, ◌≤◌, Bool, true, false, true≢false, cond, ◌||◌, List, [], ◌∷◌, ◌++◌, length, map, Some}
use Rattle.std.proofs.Common.{None, refl, sym, ap, ◌∙◌, subst, inl, inr, ⊎_elim, arith}
use Rattle.std.proofs.Common.{All}
use Rattle.std.specs.Prelude.{◌==◌, ltb}
use Rattle.std.specs.FinSet.{empty, contains-empty}
use Rattle.std.proofs.lemmas.Bool.{or_cases, or_left, or_right, eqb-true, false_from_ne_true}
use Rattle.std.proofs.lemmas.Bool.Decides.{nat_tests}
use mathlib.Core.Option.{some, some-ne-none, some-injective}
use mathlib.Core.Logic.{dite}
use native.Mathlib.Decide.{ℕ_discrete}
use lib.ListN.{get_elem?}
use Rattle.bound_specs.specs.Spec.{Spec}
use Rattle.rank_facts.specs.declared.fact.Fact.{Fact}
use Rattle.rank_facts.specs.declared.shard.Shard.{Shard}
use Rattle.fact_books.specs.Entries.{FactSet, entry_cmp, recorded}
use Rattle.fact_books.specs.Books.{Contents}
use Rattle.fact_books.proofs.SetLemmas.{in_union}
use Rattle.shard_board.specs.declared.history.Call.{Call}
use Rattle.shard_board.specs.declared.history.Call.TheVariants.{Deliver, Latest}
use Rattle.shard_board.specs.declared.history.Entry.{Entry}
use Rattle.shard_board.specs.Sums.{tick, total}
use Rattle.shard_board.specs.Claiming.{times, once_below}
use Rattle.shard_board.specs.History.{facts_after, facts_from, calls_by}
use Rattle.shard_board.specs.Shown.{ShownSeat, ShownBoard, has}
use Rattle.shard_board.specs.Closing.{IsClosed}
use Rattle.shard_farm.specs.declared.worker.Worker.{Worker}
use Rattle.shard_farm.specs.Farming.{HasFact, InShardsBut, AreFactsBut}
use Rattle.shard_farm.specs.Working.{AreFactsAt, is_marked, IsTrueCall, HasWorked, numbers_missed}
use Rattle.shard_farm.proofs.CrewLemmas.{inside, seat_of, seat_at, worker_at, one_worker}
use Rattle.shard_farm.proofs.MissingLemmas.{Marked, missed_by, missed_at, missing_has, missing_of}

-- an accepted delivery of the fact
abbrev Brings : ℕ → Fact → Call → Type 0
Brings r fact (Deliver n facts (Some receipt)) = recorded facts r fact ≡ true
Brings r fact (Deliver n facts None) = ⊥
Brings r fact (Latest reply) = ⊥

after_of : (r : ℕ) (fact : Fact) (s : FactSet) (c : Call) → recorded (facts_after s c) r fact ≡ true → (recorded s r fact ≡ true) ⊎ Brings r fact c
after_of r fact s (Deliver n facts (Some receipt)) h = or_cases (recorded s r fact) (recorded facts r fact) (sym (in_union s facts (r, fact)) ∙ h)
after_of r fact s (Deliver n facts None) h = inl h
after_of r fact s (Latest reply) h = inl h

after_keeps : (r : ℕ) (fact : Fact) (s : FactSet) (c : Call) → recorded s r fact ≡ true → recorded (facts_after s c) r fact ≡ true
after_keeps r fact s (Deliver n facts (Some receipt)) h = in_union s facts (r, fact) ∙ or_left (recorded s r fact) (recorded facts r fact) h
after_keeps r fact s (Deliver n facts None) h = h
after_keeps r fact s (Latest reply) h = h

after_brings : (r : ℕ) (fact : Fact) (s : FactSet) (c : Call) → Brings r fact c → recorded (facts_after s c) r fact ≡ true
after_brings r fact s (Deliver n facts (Some receipt)) h = in_union s facts (r, fact) ∙ or_right (recorded s r fact) (recorded facts r fact) h
after_brings r fact s (Deliver n facts None) h = absurd h
after_brings r fact s (Latest reply) h = absurd h

from_keeps : (r : ℕ) (fact : Fact) (s : FactSet) (es : List Entry) → recorded s r fact ≡ true → recorded (facts_from s es) r fact ≡ true
from_keeps r fact s [] h = h
from_keeps r fact s (e ∷ es) h = from_keeps r fact (facts_after s e.call) es (after_keeps r fact s e.call h)

-- a fact that an entry brings is in the state behind it
fact_in : (r : ℕ) (fact : Fact) (s : FactSet) (es : List Entry) (k : ℕ) (e : Entry) → get_elem? es k ≡ some e → Brings r fact e.call
    → recorded (facts_from s es) r fact ≡ true
fact_in r fact s [] k e at b = absurd (some-ne-none e (sym at))
fact_in r fact s (d ∷ es) zero e at b =
    from_keeps r fact (facts_after s d.call) es (after_brings r fact s d.call (subst (λ (y : Entry). Brings r fact y.call) (sym (some-injective d e at)) b))
fact_in r fact s (d ∷ es) (suc k) e at b = fact_in r fact (facts_after s d.call) es k e at b

abbrev Brought : ℕ → Fact → List Entry → Type 0
Brought r fact es = (k : ℕ) × ((e : Entry) × ((get_elem? es k ≡ some e) × Brings r fact e.call))

-- and each fact of a state was there before, or is brought by an entry
fact_of : (r : ℕ) (fact : Fact) (s : FactSet) (es : List Entry) → recorded (facts_from s es) r fact ≡ true → (recorded s r fact ≡ true) ⊎ Brought r fact es
fact_of r fact s [] h = inl h
fact_of r fact s (d ∷ es) h = ⊎_elim
    (λ now. ⊎_elim (λ old. inl old) (λ b. inr (0, (d, (refl, b)))) (after_of r fact s d.call now))
    (λ (t : Brought r fact es). inr (suc t.0, t.1))
    (fact_of r fact (facts_after s d.call) es h)

abbrev At : List Entry → Entry → Type 0
At es e = (k : ℕ) × (get_elem? es k ≡ some e)

first_call : (d : Entry) (calls log : List Entry) (e : Entry) → ((j : ℕ) → get_elem? calls j ≡ some e → At log e) → (j : ℕ)
    → get_elem? (d ∷ calls) j ≡ some e → At (d ∷ log) e
first_call d calls log e r zero here = (0, here)
first_call d calls log e r (suc j) here = let t = r j here in (suc t.0, t.1)

-- a call of a seat stands in the history
call_in : (n : ℕ) (log : List Entry) (k : ℕ) (e : Entry) → get_elem? (calls_by n log) k ≡ some e → At log e
call_in n [] k e at = absurd (some-ne-none e (sym at))
call_in n (d ∷ log) k e at =
    let r : (j : ℕ) → get_elem? (calls_by n log) j ≡ some e → At log e = λ j here. call_in n log j e here in
    elim (d.by == n) as (λ (b : Bool). get_elem? (cond b (d ∷ calls_by n log) (calls_by n log)) k ≡ some e → At (d ∷ log) e)
    [ true ↦ λ here. first_call d (calls_by n log) log e r k here | false ↦ λ here. let t = r k here in (suc t.0, t.1) ] at

-- an entry is a call of its seat
call_of : (n : ℕ) (log : List Entry) (k : ℕ) (e : Entry) → get_elem? log k ≡ some e → (e.by == n) ≡ true → At (calls_by n log) e
call_of n [] k e at by = absurd (some-ne-none e (sym at))
call_of n (d ∷ log) zero e at by =
    let b : (d.by == n) ≡ true = ap (λ (y : Entry). y.by == n) (some-injective d e at) ∙ by in
    subst (λ (c : Bool). At (cond c (d ∷ calls_by n log) (calls_by n log)) e) (sym b) (0, at)
call_of n (d ∷ log) (suc k) e at by =
    let r = call_of n log k e at by in
    elim (d.by == n) as (λ (b : Bool). At (cond b (d ∷ calls_by n log) (calls_by n log)) e) [ true ↦ (suc r.0, r.1) | false ↦ r ]

abbrev Weighs : (ShownSeat → ℕ) → List ShownSeat → Type 0
Weighs f xs = (k : ℕ) × ((s : ShownSeat) × ((get_elem? xs k ≡ some s) × (0 < f s)))

weighs_here : (f : ShownSeat → ℕ) (x : ShownSeat) (xs : List ShownSeat) → 0 < f x + total f xs → (0 < total f xs → Weighs f xs) → (m : ℕ) → f x ≡ m
    → Weighs f (x ∷ xs)
weighs_here f x xs h r zero z = let t = r (omega arith) in (suc t.0, t.1)
weighs_here f x xs h r (suc m) z = (0, (x, (refl, omega arith)))

some_weighs : (f : ShownSeat → ℕ) (xs : List ShownSeat) → 0 < total f xs → Weighs f xs
some_weighs f [] h = absurd (omega arith)
some_weighs f (x ∷ xs) h = weighs_here f x xs h (λ l. some_weighs f xs l) (f x) refl

one_weighs : (f : ShownSeat → ℕ) (xs : List ShownSeat) (k : ℕ) (s : ShownSeat) → get_elem? xs k ≡ some s → f s ≤ total f xs
one_weighs f [] k s at = absurd (some-ne-none s (sym at))
one_weighs f (x ∷ xs) zero s at = let e : f x ≡ f s = ap f (some-injective x s at) in omega arith
one_weighs f (x ∷ xs) (suc k) s at = let r = one_weighs f xs k s at in omega arith

two_weigh : (f : ShownSeat → ℕ) (xs : List ShownSeat) (i j : ℕ) (v w : ShownSeat) → i ≢ j → get_elem? xs i ≡ some v → get_elem? xs j ≡ some w
    → f v + f w ≤ total f xs
two_weigh f [] i j v w n d e = absurd (some-ne-none v (sym d))
two_weigh f (x ∷ xs) zero zero v w n d e = absurd (n refl)
two_weigh f (x ∷ xs) zero (suc j) v w n d e = let s : f x ≡ f v = ap f (some-injective x v d) in let r = one_weighs f xs j w e in omega arith
two_weigh f (x ∷ xs) (suc i) zero v w n d e = let s : f x ≡ f w = ap f (some-injective x w e) in let r = one_weighs f xs i v d in omega arith
two_weigh f (x ∷ xs) (suc i) (suc j) v w n d e = two_weigh_next (two_weigh f xs i j v w (λ h. n (ap suc h)) d e)
  where
    two_weigh_next : f v + f w ≤ total f xs → f v + f w ≤ f x + total f xs
    two_weigh_next r = omega arith

tick_true : (b : Bool) → 0 < tick b → b ≡ true
tick_true true h = refl
tick_true false h = absurd (omega arith)

times_has : (n : ℕ) (xs : List ℕ) → 0 < times n xs → has n xs ≡ true
times_has n [] h = absurd (omega arith)
times_has n (x ∷ xs) h =
    elim (x == n) as (λ (b : Bool). 0 < tick b + times n xs → (b || has n xs) ≡ true) [ true ↦ λ _. refl | false ↦ λ l. times_has n xs (omega arith) ] h

has_times : (n : ℕ) (xs : List ℕ) → has n xs ≡ true → 0 < times n xs
has_times n [] h = absurd (true≢false (sym h))
has_times n (x ∷ xs) h =
    elim (x == n) as (λ (b : Bool). (b || has n xs) ≡ true → 0 < tick b + times n xs) [
      | true ↦ λ _. omega arith
      | false ↦ λ l. let r = has_times n xs l in
          omega arith
    ] h

below_one : (x n : ℕ) → x < n → once_below x n ≡ 1
below_one x n h = let one : ltb x n ≡ true = grind (arith, nat_tests) in ap tick one

at_most_one : (b : Bool) → tick b ≤ 1
at_most_one true = omega arith
at_most_one false = omega arith

once_most : (x n : ℕ) → once_below x n ≤ 1
once_most x n = at_most_one (ltb x n)

-- the accepted delivery is of a shard that is claimed and has no mark, and the shard has the fact
abbrev Comes : Bool → Spec → List Shard → ShownSeat → List Bool → ℕ → Fact → Type 0
Comes reduce spec shards s marks r fact =
    (n : ℕ) × ((shard : Shard) × ((get_elem? shards n ≡ some shard)
    × ((has n s.claims ≡ true) × ((is_marked marks n ≡ false) × HasFact reduce spec shard r fact))))

comes_from : (reduce : Bool) (spec : Spec) (shards : List Shard) (s : ShownSeat) (marks : List Bool) (r : ℕ) (fact : Fact) (c : Call)
    → IsTrueCall reduce spec shards s.claims marks c → Brings r fact c → Comes reduce spec shards s marks r fact
comes_from reduce spec shards s marks r fact (Deliver n facts (Some receipt)) t b =
    (n, (t.1.1.0, (t.1.1.1.0, (t.0, (t.1.0, (t.1.1.1.1 r fact).0 b)))))
comes_from reduce spec shards s marks r fact (Deliver n facts None) t b = absurd b
comes_from reduce spec shards s marks r fact (Latest reply) t b = absurd b

module _ (reduce : Bool) (spec : Spec) (board : ShownBoard) (shards : List Shard) (workers : List Worker) (book : Contents) (claimed turns : ℕ)
    (c : IsClosed board (map seat_of workers) book claimed turns)
    (done : (k : ℕ) (w : Worker) → get_elem? workers k ≡ some w → HasWorked reduce spec shards w.seat w.missed.items)
    (same : board.shards ≡ length shards) (some_seat : 0 < length workers) where
  claimed_twice : (n j k : ℕ) (v w : Worker) → get_elem? workers j ≡ some v → get_elem? workers k ≡ some w → has n v.seat.claims ≡ true
      → has n w.seat.claims ≡ true → j ≢ k → ⊥
  claimed_twice n j k v w at there one two apart =
      let a = has_times n v.seat.claims one in
      let b = has_times n w.seat.claims two in
      let t = two_weigh (λ (s : ShownSeat). times n s.claims) (map seat_of workers) j k v.seat w.seat apart (seat_at workers j v at)
      (seat_at workers k w there) in
      let sum = c.claims n in
      let most = once_most n claimed in absurd (omega arith)

  -- what a worker claimed and has no mark for is not missing
  not_missing : (n count k : ℕ) (w : Worker) → get_elem? workers k ≡ some w → has n w.seat.claims ≡ true → is_marked w.missed.items n ≡ false
      → has n (numbers_missed workers count) ≡ false
  not_missing n count k w at claim blank = false_from_ne_true (has n (numbers_missed workers count)) (λ is.
      let m : Marked workers n = missed_by workers n (missing_of workers n count is) in
      let v : Worker = m.1.0 in
      dite (ℕ_discrete m.0 k)
      (λ one. true≢false (sym m.1.1.1 ∙ (ap (λ (x : Worker). is_marked x.missed.items n) (one_worker workers m.0 k v w m.1.1.0 at one) ∙ blank)))
      (λ other. claimed_twice n m.0 k v w m.1.1.0 at ((done m.0 v m.1.1.0).serves.marked n m.1.1.1) claim other))

  all_claimed : claimed ≡ length shards
  all_claimed =
      let first = found_first workers some_seat in
      c.refused 0 first.0.seat (seat_at workers 0 first.0 first.1) (done 0 first.0 first.1).ended ∙ same
    where
      found_first : (ws : List Worker) → 0 < length ws → (w : Worker) × (get_elem? ws 0 ≡ some w)
      found_first [] h = absurd (omega arith)
      found_first (w ∷ ws) h = (w, refl)

  no_other : (r : ℕ) (fact : Fact) → recorded book.facts r fact ≡ true → InShardsBut reduce spec shards (numbers_missed workers (length shards)) r fact
  no_other r fact h =
      let told : recorded (facts_from empty c.log) r fact ≡ true = subst (λ (f : FactSet). recorded f r fact ≡ true) c.facts h in
      let brought : Brought r fact c.log = ⊎_elim (λ no. absurd (true≢false (sym no ∙ contains-empty entry_cmp (r, fact)))) (λ (t : Brought r fact c.log). t)
      (fact_of r fact empty c.log told) in
      let e : Entry = brought.1.0 in
      let by = below_one e.by board.seats (c.given brought.0 e brought.1.1.0) in
      let numbers = c.numbers e.by in
      let owner : Weighs (λ (s : ShownSeat). tick (s.number == e.by)) (map seat_of workers) =
      some_weighs (λ (s : ShownSeat). tick (s.number == e.by)) (map seat_of workers) (omega arith) in
      let s : ShownSeat = owner.1.0 in
      let number : s.number ≡ e.by = eqb-true s.number e.by (tick_true (s.number == e.by) owner.1.1.1) in
      let his : (e.by == s.number) ≡ true = ap (λ (n : ℕ). n == s.number) (sym number) ∙ Rattle.std.proofs.Common.eq-eqb s.number s.number refl in
      let call = call_of s.number c.log brought.0 e brought.1.1.0 his in
      let mine : get_elem? s.calls call.0 ≡ some e = ap (λ (l : List Entry). get_elem? l call.0) (sym (c.mine owner.0 s owner.1.1.0)) ∙ call.1 in
      let worker = worker_at workers owner.0 s owner.1.1.0 in
      let w : Worker = worker.0 in
      let d = done owner.0 w worker.1.0 in
      let deed = d.serves.only call.0 e (ap (λ (x : ShownSeat). get_elem? x.calls call.0) worker.1.1 ∙ mine) in
      let t : Comes reduce spec shards w.seat w.missed.items r fact = comes_from reduce spec shards w.seat w.missed.items r fact e.call deed brought.1.1.1 in
      (t.0, (t.1.0, (t.1.1.0, (not_missing t.0 (length shards) owner.0 w worker.1.0 t.1.1.1.0 t.1.1.1.1.0, t.1.1.1.1.1))))

  each_one : (r : ℕ) (fact : Fact) → InShardsBut reduce spec shards (numbers_missed workers (length shards)) r fact → recorded book.facts r fact ≡ true
  each_one r fact t =
      let n : ℕ = t.0 in
      let shard : Shard = t.1.0 in
      let below : n < length shards = inside shards n shard t.1.1.0 in
      let one = below_one n claimed (subst (λ (m : ℕ). n < m) (sym all_claimed) below) in
      let sum = c.claims n in
      let owner : Weighs (λ (s : ShownSeat). times n s.claims) (map seat_of workers) =
      some_weighs (λ (s : ShownSeat). times n s.claims) (map seat_of workers) (omega arith) in
      let s : ShownSeat = owner.1.0 in
      let worker = worker_at workers owner.0 s owner.1.1.0 in
      let w : Worker = worker.0 in
      let d = done owner.0 w worker.1.0 in
      let claim : has n w.seat.claims ≡ true = ap (λ (x : ShownSeat). has n x.claims) worker.1.1 ∙ times_has n s.claims owner.1.1.1 in
      ⊎_elim
      (λ marked. absurd (true≢false (sym (missing_has workers n (length shards) below (missed_at workers n owner.0 w worker.1.0 marked)) ∙ t.1.1.1.0)))
      (λ d.
      let e : Entry = d.1.0 in
      let facts : FactSet = d.1.1.0 in
      let are : AreFactsAt reduce spec shards n facts = d.1.1.1.1.1.1 in
      let shard_is : shard ≡ are.0 = some-injective shard are.0 (sym t.1.1.0 ∙ are.1.0) in
      let fact_is : recorded facts r fact ≡ true = (are.1.1 r fact).1 (subst (λ (x : Shard). HasFact reduce spec x r fact) shard_is t.1.1.1.1) in
      let mine : w.seat.calls ≡ calls_by s.number c.log = ap (λ (x : ShownSeat). x.calls) worker.1.1 ∙ sym (c.mine owner.0 s owner.1.1.0) in
      let there = call_in s.number c.log d.0 e (ap (λ (l : List Entry). get_elem? l d.0) (sym mine) ∙ d.1.1.1.1.0) in
      let brings : Brings r fact e.call = subst (Brings r fact) (sym d.1.1.1.1.1.0) fact_is in
      subst (λ (f : FactSet). recorded f r fact ≡ true) (sym c.facts) (fact_in r fact empty c.log there.0 e there.1 brings))
      (d.serves.each n claim)

  -- nothing is lost but what is missing, and nothing is made up
  pub exact : AreFactsBut reduce spec shards (numbers_missed workers (length shards)) book.facts
  exact r fact = (no_other r fact, each_one r fact)
