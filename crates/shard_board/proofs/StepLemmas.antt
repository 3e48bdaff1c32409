-- The steps of a turn keep the rule.
use Rattle.std.proofs.Common.{◌≡◌, ℕ, ◌+◌, ◌%◌, ◌<◌, ◌≤◌, true, false, List, [], ◌∷◌, length, set, get_or, Some, None, refl, sym, ap, ◌∙◌, subst, arith}
use Rattle.std.proofs.Common.{length-set, get_or-set_same, get_or-set_other}
use Rattle.fact_books.specs.Books.{Contents}
use Rattle.shard_board.specs.declared.error.TheConstants.{MAX_TURNS}
use mathlib.Core.Option.{Option as Home, some, none}
use mathlib.Core.Logic.{dite}
use native.Mathlib.Decide.{ℕ_discrete}
use lib.ListN.{get_elem?}
use Rattle.atomic_table.specs.Table.{State, Me, step, keeps, takes, gives, Allows}
use Rattle.shard_board.specs.declared.history.Entry.{Entry}
use Rattle.shard_board.specs.declared.rule.Part.{Part}
use Rattle.shard_board.specs.declared.rule.View.{View}
use Rattle.shard_board.specs.declared.rule.Plan.{Plan}
use Rattle.shard_board.specs.Sums.{Slot, total, each, one}
use Rattle.shard_board.specs.Claiming.{numbered, claimed, refusals, Claims, Kept}
use Rattle.shard_board.specs.History.{facts_after, facts_of, IsRight}
use Rattle.shard_board.specs.Turning.{book_with, Turns, with_ticket, with_hold, with_turn, Queues, Waits, Ends}
use Rattle.shard_board.proofs.TotalLemmas.{total_set, each_seat}
use Rattle.shard_board.proofs.ClaimLemmas.{numbers_set}
use Rattle.shard_board.proofs.TakeLemmas.{turns_set, turns_at, turns_ticket, ticket_few, take_home, turns_take}
use Rattle.shard_board.proofs.EndLemmas.{turns_end}

pub total_kept : (f : View → ℕ) (views : List View) (i : ℕ) (v w : View) → get_elem? views i ≡ some v → f w ≡ f v → total f (set views i w) ≡ total f views
total_kept f views i v w at e = let s = total_set f views i v w at in omega arith

claims_set : (plan : Plan) (next : ℕ) (views : List View) (i : ℕ) (v w : View) → get_elem? views i ≡ some v
    → ((x : ℕ) → each (claimed x) w ≡ each (claimed x) v) → each refusals w ≡ each refusals v → Claims plan next views → Claims plan next (set views i w)
claims_set plan next views i v w at same refused c = record {
  once = λ x. total_kept (each (claimed x)) views i v w at (same x) ∙ c.once x;
  most = let s = total_kept (each refusals) views i v w at refused in let m = c.most in omega arith;
  over = λ h. let s = total_kept (each refusals) views i v w at refused in c.over (omega arith);
}

-- a step on the words of turns
pub kept_by : (plan : Plan) (s : State Slot View) (r : Kept plan s) (i n id : ℕ) (v w : View) (homes : List (Home Slot)) → i < 2
    → get_elem? s.views id ≡ some v → each one w ≡ each one v → ((x : ℕ) → each (numbered x) w ≡ each (numbered x) v)
    → ((x : ℕ) → each (claimed x) w ≡ each (claimed x) v) → each refusals w ≡ each refusals v → (w.live ≡ v.live) × (w.plan ≡ v.plan)
    → Turns plan (get_or (set s.words i n) 0 0) (get_or (set s.words i n) 1 0) homes (set s.views id w)
    → Kept plan record { words = set s.words i n; homes = homes; views = set s.views id w }
kept_by plan s r i n id v w homes low at ones numbers claims refused shards turns = record {
  wide = length-set s.words i n ∙ r.wide;
  numbers = numbers_set plan s.views id v w at ones numbers (λ live. shards.1 ∙ r.numbers.knows id v at (sym shards.0 ∙ live)) r.numbers;
  claims = subst (λ (k : ℕ). Claims plan k (set s.views id w)) (sym (get_or-set_other s.words i 2 n 0 (λ e. omega arith)))
      (claims_set plan (get_or s.words 2 0) s.views id v w at claims refused r.claims);
  turns = turns;
}

pub queues : (plan : Plan) (slots id : ℕ) (m : Me Slot View) → m.0.live ≡ true → m.0.joined ≡ [] → m.0.ticket ≡ None → m.0.holding ≡ false
    → length m.0.own.calls < MAX_TURNS → Allows (Kept plan) slots id m 1 (λ n. (n + 1) % 18446744073709551616) (Queues (step slots 1 1 0 none) m)
queues plan slots id m live alone no_ticket no_hold few s r _ at _ =
    let v : View = m.0 in
    let serving : ℕ = get_or s.words 0 0 in
    let ticket : ℕ = get_or s.words 1 0 in
    let wide : length s.words ≡ 3 = r.wide in
    let counted = r.numbers.counted in let most = r.numbers.few in
    let small : ticket ≤ 1600000 = ticket_few plan serving ticket s.homes s.views r.turns (omega arith) in
    let n : ℕ = (ticket + 1) % 18446744073709551616 in
    let after : n ≡ ticket + 1 = (let b : ticket + 1 < 18446744073709551616 = omega arith in omega arith) in
    let now : get_or (set s.words 1 n) 1 0 ≡ ticket + 1 = get_or-set_same s.words 1 n 0 (omega arith) ∙ after in
    let other : get_or (set s.words 1 n) 0 0 ≡ serving = get_or-set_other s.words 1 0 n 0 (λ e. omega arith) in
    let w : View = with_ticket v ticket in
    let t = turns_at plan serving (get_or (set s.words 1 n) 0 0) (ticket + 1) (get_or (set s.words 1 n) 1 0) s.homes (set s.views id w) (sym other) (sym now)
    (turns_ticket plan serving ticket s.homes s.views id v at live alone no_ticket no_hold few r.turns) in
    (w, keeps, tt, kept_by plan s r 1 n id v w s.homes (omega arith) at refl (λ x. refl) (λ x. refl) refl (refl, refl) t, (refl, refl))

pub waits_for : (plan : Plan) (slots id : ℕ) (m : Me Slot View) (t : ℕ) → m.0.live ≡ true → m.0.ticket ≡ Some t → m.0.holding ≡ false
    → Allows (Kept plan) slots id m 0 (λ n. n) (Waits (step slots 0 0 0 none) m)
waits_for plan slots id m t live has no_hold s r _ at _ =
    let v : View = m.0 in
    let serving : ℕ = get_or s.words 0 0 in
    let ticket : ℕ = get_or s.words 1 0 in
    let wide : length s.words ≡ 3 = r.wide in
    let now : get_or (set s.words 0 serving) 0 0 ≡ serving = get_or-set_same s.words 0 serving 0 (omega arith) in
    let other : get_or (set s.words 0 serving) 1 0 ≡ ticket = get_or-set_other s.words 0 1 serving 0 (λ e. omega arith) in
    dite (ℕ_discrete serving t)
    (λ mine.
    let served : v.ticket ≡ Some serving = has ∙ ap (λ (z : ℕ). Some z) (sym mine) in
    let home = take_home plan serving ticket s.homes s.views id v at served no_hold r.turns in
    let log : List Entry = r.turns.log in
    let w : View = with_hold v log in
    let out : set s.homes 0 none ≡ none ∷ [] = ap (λ (hs : List (Home Slot)). set hs 0 none) home in
    let turns : Turns plan (get_or (set s.words 0 serving) 0 0) (get_or (set s.words 0 serving) 1 0) (set s.homes 0 none) (set s.views id w) =
    subst (λ (hs : List (Home Slot)). Turns plan (get_or (set s.words 0 serving) 0 0) (get_or (set s.words 0 serving) 1 0) hs (set s.views id w)) (sym out)
    (turns_at plan serving (get_or (set s.words 0 serving) 0 0) ticket (get_or (set s.words 0 serving) 1 0) (none ∷ []) (set s.views id w) (sym now)
    (sym other) (turns_take plan serving ticket s.homes s.views id v at served r.turns)) in
    let y = r.turns.sits id v at in (
      w,
      takes 0 (Some (book_with plan (facts_of log))),
      ap (λ (hs : List (Home Slot)). get_elem? hs 0) home,
      kept_by plan s r 0 serving id v w (set s.homes 0 none) (omega arith) at refl (λ x. refl) (λ x. refl) refl (refl, refl) turns,
      λ t' has'. let same : t' ≡ t = (let e : Some t' ≡ Some t = sym has' ∙ has in cc) in (
        (λ not. absurd (not (mine ∙ sym same))),
        (λ _. record {
          slot = ap (λ (p : Plan). (0, Some (book_with p (facts_of log))) ∷ m.1) (sym (r.numbers.knows id v at live));
          view = refl;
          legal =
              r.turns.legal;
          before = y.seen;
          long = r.turns.long;
          mine = y.mine live;
        }),
      ),
    ))
    (λ not.
    let turns = turns_at plan serving (get_or (set s.words 0 serving) 0 0) ticket (get_or (set s.words 0 serving) 1 0) s.homes (set s.views id v) (sym now)
    (sym other) (turns_set plan serving ticket s.homes s.views id v v at refl (λ x. refl) (λ h. h) r.turns (λ y. y)) in (
      v,
      keeps,
      tt,
      kept_by plan s r 0 serving id v v s.homes (omega arith) at refl (λ x. refl) (λ x. refl) refl (refl, refl) turns,
      λ t' has'. let same : t' ≡ t = (let e : Some t' ≡ Some t = sym has' ∙ has in cc) in ((λ _. refl), (λ is. absurd (not (is ∙ same)))),
    ))

ends_at : (plan : Plan) (slots id : ℕ) (v : View) (e : Entry) (book : Contents) → v.live ≡ true → v.joined ≡ [] → v.holding ≡ true → e.by ≡ v.own.number
    → IsRight (length v.own.seen) (facts_of v.own.seen) e.call → book ≡ book_with v.plan (facts_after (facts_of v.own.seen) e.call)
    → Allows (Kept plan) slots id (v, (0, Some book) ∷ []) 0 (λ n. (n + 1) % 18446744073709551616) (Ends e (step slots 0 1 0 none) (v, (0, Some book) ∷ []))
ends_at plan slots id v e book live alone holding by right is s r _ at _ =
    let serving : ℕ = get_or s.words 0 0 in
    let ticket : ℕ = get_or s.words 1 0 in
    let wide : length s.words ≡ 3 = r.wide in
    let counted = r.numbers.counted in let most = r.numbers.few in
    let small : ticket ≤ 1600000 = ticket_few plan serving ticket s.homes s.views r.turns (omega arith) in
    let ended = turns_end plan serving ticket s.homes s.views id v e book at live alone holding r.numbers by right (is
    ∙ ap (λ (p : Plan). book_with p (facts_after (facts_of v.own.seen) e.call)) (r.numbers.knows id v at live)) r.turns in
    let room = ended.0 in
    let n : ℕ = (serving + 1) % 18446744073709551616 in
    let after : n ≡ serving + 1 = (let b : serving + 1 < 18446744073709551616 = omega arith in omega arith) in
    let now : get_or (set s.words 0 n) 0 0 ≡ serving + 1 = get_or-set_same s.words 0 n 0 (omega arith) ∙ after in
    let other : get_or (set s.words 0 n) 1 0 ≡ ticket = get_or-set_other s.words 0 1 n 0 (λ e. omega arith) in
    let w : View = with_turn v e in
    let homes : List (Home Slot) = set s.homes 0 (some (Some book)) in
    let same = λ (f : Part → ℕ) (z : f w.own ≡ f v.own). each_seat f w live alone ∙ (z ∙ sym (each_seat f v live alone)) in (
      w,
      gives,
      tt,
      kept_by plan s r 0 n id v w homes (omega arith) at (same one refl) (λ x. same (numbered x) refl) (λ x. same (claimed x) refl) (same refusals refl)
          (refl, refl)
          (turns_at plan (serving + 1) (get_or (set s.words 0 n) 0 0) ticket (get_or (set s.words 0 n) 1 0) homes (set s.views id w) (sym now)
          (sym other) ended.1),
      refl,
    )

pub ends : (plan : Plan) (slots id : ℕ) (m : Me Slot View) (e : Entry) (book : Contents) → m.1 ≡ (0, Some book) ∷ [] → m.0.live ≡ true → m.0.joined ≡ []
    → m.0.holding ≡ true → e.by ≡ m.0.own.number → IsRight (length m.0.own.seen) (facts_of m.0.own.seen) e.call
    → book ≡ book_with m.0.plan (facts_after (facts_of m.0.own.seen) e.call)
    → Allows (Kept plan) slots id m 0 (λ n. (n + 1) % 18446744073709551616) (Ends e (step slots 0 1 0 none) m)
ends plan slots id m e book has live alone holding by right is =
    subst (λ (c : List (ℕ × Slot)). Allows (Kept plan) slots id (m.0, c) 0 (λ n. (n + 1) % 18446744073709551616) (Ends e (step slots 0 1 0 none) (m.0, c)))
    (sym has) (ends_at plan slots id m.0 e book live alone holding by right is)
