-- A turn ends.
use Rattle.std.proofs.Common.{◌≡◌, ◌≢◌, ℕ, ◌+◌, ◌<◌, ◌≤◌, true, cond, List, [], ◌∷◌, ◌++◌, length, set, Some, refl, sym, ap, ◌∙◌, subst, inl, ⊎_elim, arith}
use Rattle.std.proofs.Common.{length-append}
use Rattle.std.specs.FinSet.{empty}
use Rattle.fact_books.specs.Books.{Contents}
use Rattle.std.specs.Prelude.{◌==◌, ltb}
use mathlib.Core.Option.{Option as Home, some, none, some-ne-none}
use lib.ListN.{get_elem?}
use Rattle.std.proofs.lemmas.Bool.Decides.{nat_tests}
use Rattle.shard_board.specs.declared.history.Entry.{Entry}
use Rattle.shard_board.specs.declared.rule.Part.{Part}
use Rattle.shard_board.specs.declared.rule.View.{View}
use Rattle.shard_board.specs.declared.rule.Plan.{Plan}
use Rattle.shard_board.specs.Sums.{Slot, tick, each}
use Rattle.shard_board.specs.Claiming.{numbered, once_below, Numbers}
use Rattle.shard_board.specs.History.{facts_after, facts_of, IsRight}
use Rattle.shard_board.specs.Turning.{book_with, waits, waits_at, from_to, made, drawn, in_line, Sits, Turns, with_turn}
use Rattle.shard_board.proofs.TotalLemmas.{total_set, total_at, total_two, each_seat, tick_same, once_below_true}
use Rattle.shard_board.proofs.HistoryLemmas.{facts_from-append, legal_next, calls_mine, calls_other, prefix_more}
use Rattle.shard_board.proofs.TakeLemmas.{views_set, tick_le, off, waits_here, one_ticket}
use Rattle.shard_board.proofs.RowLemmas.{at_end}
use Rattle.std.proofs.lemmas.List.{append-nil}

line_less : (x serving ticket : ℕ) → serving < ticket → from_to x serving ticket ≡ from_to x (serving + 1) ticket + tick (serving == x)
line_less x serving ticket h = grind (arith, nat_tests)

from_to_true : (x a b : ℕ) → 0 < from_to x a b → x < b
from_to_true x a b h = grind (arith, nat_tests)

numbered_here : (v : View) → v.live ≡ true → 1 ≤ each (numbered v.own.number) v
numbered_here v live = let t = tick_same v.own.number in let e : cond v.live (numbered v.own.number v.own) 0 ≡ numbered v.own.number v.own = rw live refl in
    omega arith

numbered_joined : (v : View) (k : ℕ) (p : Part) → get_elem? v.joined k ≡ some p → 1 ≤ each (numbered p.number) v
numbered_joined v k p at = let t = tick_same p.number in let s = total_at (numbered p.number) v.joined k p at in omega arith

pub number_below : (plan : Plan) (views : List View) (i : ℕ) (v : View) → get_elem? views i ≡ some v → v.live ≡ true → Numbers plan views
    → v.own.number < plan.seats
number_below plan views i v at live n = let x : ℕ = v.own.number in let a = numbered_here v live in let b = total_at (each (numbered x)) views i v at in
    let d = n.differ x in once_below_true x plan.seats (omega arith)

-- a number stands in one view
one_number : (plan : Plan) (views : List View) (i j : ℕ) (v u : View) (x : ℕ) → i ≢ j → get_elem? views i ≡ some v → get_elem? views j ≡ some u
    → Numbers plan views → 1 ≤ each (numbered x) v → 1 ≤ each (numbered x) u → ⊥
one_number plan views i j v u x apart at there n a b = let t = total_two (each (numbered x)) views i j v u apart at there in let d = n.differ x in
    let o : once_below x plan.seats ≤ 1 = tick_le (ltb x plan.seats) in omega arith

pub turns_end : (plan : Plan) (serving ticket : ℕ) (homes : List (Home Slot)) (views : List View) (i : ℕ) (v : View) (e : Entry) (book : Contents)
    → get_elem? views i ≡ some v → v.live ≡ true → v.joined ≡ [] → v.holding ≡ true → Numbers plan views → e.by ≡ v.own.number
    → IsRight (length v.own.seen) (facts_of v.own.seen) e.call → book ≡ book_with plan (facts_after (facts_of v.own.seen) e.call)
    → Turns plan serving ticket homes views → (serving < ticket) × Turns plan (serving + 1) ticket (set homes 0 (some (Some book)))
    (set views i (with_turn v e))
turns_end plan serving ticket homes views i v e book at live alone holding n by right is t =
    let w = with_turn v e in
    let y = t.sits i v at in
    let h = y.holds holding in
    let here = waits_here serving v h.0 in
    let room : serving < ticket = (let s = total_at (in_line serving) views i v at in let l = t.line serving in
    from_to_true serving serving ticket (omega arith)) in
    let made_v : each made v ≡ length v.own.calls = each_seat made v live alone in
    let made_w : each made w ≡ length (v.own.calls ++ e ∷ []) = each_seat made w live alone in
    let longer = length-append v.own.calls (e ∷ []) in
    let waits_v : waits v.ticket ≡ 1 = ap waits h.0 in
    let drawn_same : drawn w ≡ drawn v = omega arith in
    let now : book ≡ book_with plan (facts_of (t.log ++ e ∷ [])) = is ∙ ap (book_with plan) (ap (λ (l : List Entry). facts_after (facts_of l) e.call) h.1
    ∙ sym (facts_from-append empty t.log (e ∷ []))) in
    let put : (x : Home Slot) → homes ≡ x ∷ [] → set homes 0 (some (Some book)) ≡ some (Some (book_with plan (facts_of (t.log ++ e ∷ [])))) ∷ [] =
    λ x e'. ap (λ (hs : List (Home Slot)). set hs 0 (some (Some book))) e' ∙ ap (λ (b : Contents). some (Some b) ∷ []) now in
    let mine : 1 ≤ each (numbered v.own.number) v = numbered_here v live in
    let apart : (j : ℕ) (u : View) (x : ℕ) → j ≢ i → get_elem? views j ≡ some u → 1 ≤ each (numbered x) u → e.by ≢ x =
    λ j u x other there has same. one_number plan views i j v u x (λ d. other (sym d)) at there n
    (subst (λ (z : ℕ). 1 ≤ each (numbered z) v) (sym by ∙ same) mine) has in (
      room,
      record {
        log = t.log ++ e ∷ [];
        legal = legal_next t.log e t.legal (subst (λ (l : List Entry). IsRight (length l) (facts_of l) e.call) h.1 right);
        long = let l = t.long in let a = length-append t.log (e ∷ []) in omega arith;
        given = λ k x there. ⊎_elim (t.given k x) (λ (z : (k ≡ length t.log) × (e ≡ x)). subst (λ (q : Entry). q.by < plan.seats) z.1
            (subst (λ (q : ℕ). q < plan.seats) (sym by) (number_below plan views i v at live n))) (at_end t.log e x k there);
        ahead = omega arith;
        drew = let s = total_set drawn views i v w at in let d = t.drew in omega arith;
        line = λ x. let s = total_set (in_line x) views i v w at in let l = t.line x in let m = line_less x serving ticket room in
            let z : waits_at x v.ticket ≡ tick (serving == x) = ap (waits_at x) h.0 in omega arith;
        sits = views_set (Sits (t.log ++ e ∷ []) (serving + 1)) views i w
            record {
              seen = ([], ap (λ (l : List Entry). (l ++ e ∷ []) ++ []) h.1 ∙ append-nil (t.log ++ e ∷ []));
              told = prefix_more v.told t.log e y.told;
              mine = λ _. calls_mine v.own.number t.log e by ∙ ap (λ (l : List Entry). l ++ e ∷ []) (y.mine live);
              others = λ k p there. absurd (some-ne-none p (sym there ∙ ap (λ (ps : List Part). get_elem? ps k) alone));
              few = let f = y.few in omega arith;
              holds = λ held. absurd (off held);
            }
            (λ j u other there. let z = t.sits j u there in record {
              seen = prefix_more u.own.seen t.log e z.seen;
              told = prefix_more u.told t.log e z.told;
              mine = λ alive. calls_other u.own.number t.log e (apart j u u.own.number other there (numbered_here u alive)) ∙ z.mine alive;
              others = λ k p joined. let q = z.others k p joined in
                  (prefix_more p.seen t.log e q.0, calls_other p.number t.log e (apart j u p.number other there (numbered_joined u k p joined)) ∙ q.1);
              few = z.few;
              holds = λ held. absurd (one_ticket plan serving ticket homes views i j v u serving t (λ d. other (sym d)) at there h.0 (z.holds held).0);
            });
        slot = inl (⊎_elim (put (some (Some (book_with plan (facts_of t.log)))))
            (λ (o : (homes ≡ none ∷ []) × ((j : ℕ) × ((u : View) × ((get_elem? views j ≡ some u) × (u.holding ≡ true))))). put none o.0) t.slot);
      },
    )
