-- A claim keeps the rule.
use Rattle.std.proofs.Common.{◌≡◌, ℕ, ◌+◌, ◌%◌, ◌<◌, ◌≤◌, true, false, cond, List, [], length, set, get_or, All, refl, sym, ap, ◌∙◌, subst, arith, length-set}
use Rattle.std.proofs.Common.{get_or-set_same, get_or-set_other}
use Rattle.std.specs.Prelude.{◌==◌, min}
use mathlib.Core.Option.{some, none}
use mathlib.Core.Logic.{dite}
use native.Mathlib.Decide.{dec_lt}
use lib.ListN.{get_elem?}
use Rattle.std.proofs.lemmas.Bool.Decides.{nat_tests}
use Rattle.atomic_table.specs.Table.{Me, step, keeps, stepped, Allows}
use Rattle.shard_board.specs.declared.rule.Part.{Part}
use Rattle.shard_board.specs.declared.rule.View.{View}
use Rattle.shard_board.specs.declared.rule.Plan.{Plan}
use Rattle.shard_board.specs.Sums.{Slot, tick, total, each, one}
use Rattle.shard_board.specs.Claiming.{numbered, refusals, times, claimed, once_below, Numbers, Claims, Kept, with_own, with_claim, with_refusal, Draws}
use Rattle.shard_board.specs.Turning.{Turns}
use Rattle.shard_board.proofs.TakeLemmas.{views_set, turns_set, turns_at}
use Rattle.shard_board.proofs.TotalLemmas.{total_set, total_le, total_at, each_seat, times-push, times_there, once_below_true}

pub numbers_set : (plan : Plan) (views : List View) (i : ℕ) (v w : View) → get_elem? views i ≡ some v → each one w ≡ each one v
    → ((x : ℕ) → each (numbered x) w ≡ each (numbered x) v) → (w.live ≡ true → w.plan ≡ plan)
    → Numbers plan views → Numbers plan (set views i w)
numbers_set plan views i v w at ones same shards n = record {
  few = n.few;
  short = n.short;
  counted = let t = total_set (each one) views i v w at in let c = n.counted in omega arith;
  differ = λ x. let t = total_set (each (numbered x)) views i v w at in let d = n.differ x in let s = same x in omega arith;
  knows = views_set (λ u. u.live ≡ true → u.plan ≡ plan) views i w shards (λ j u _. n.knows j u);
}

-- there are no more refusals than seats
pub refusals_few : (plan : Plan) (views : List View) → Numbers plan views → total (each refusals) views ≤ 16
refusals_few plan views n = let t = total_le (each refusals) (each one) each_le views in let c = n.counted in let f = n.few in omega arith
  where
    part_le : (p : Part) → refusals p ≤ one p
    part_le p = grind arith

    each_le : (v : View) → each refusals v ≤ each one v
    each_le v = let a = part_le v.own in let b = total_le refusals one part_le v.joined in
        elim v.live as (λ b. cond b (refusals v.own) 0 + total refusals v.joined ≤ cond b (one v.own) 0 + total one v.joined)
        [ true ↦ omega arith | false ↦ omega arith ]

pub claims_below : (plan : Plan) (next : ℕ) (views : List View) (i : ℕ) (v : View) → v.live ≡ true → v.joined ≡ [] → get_elem? views i ≡ some v
    → Claims plan next views → All (λ x. x < next) v.own.claims
claims_below plan next views i v live alone at c k d h =
    let x = get_or v.own.claims k d in
    let t : 0 < times x v.own.claims = times_there v.own.claims k d h in
    let e : each (claimed x) v ≡ times x v.own.claims = each_seat (claimed x) v live alone in
    let s : each (claimed x) v ≤ total (each (claimed x)) views = total_at (each (claimed x)) views i v at in
    let o : total (each (claimed x)) views ≡ once_below x (min next plan.shards) = c.once x in
    let b : x < min next plan.shards = once_below_true x (min next plan.shards) (omega arith) in
    omega arith

module _ (plan : Plan) (next : ℕ) (views : List View) (i : ℕ) (v : View) (live : v.live ≡ true) (alone : v.joined ≡ []) (at : get_elem? views i ≡ some v)
    (c : Claims plan next views) where
  pub claims_more : next < plan.shards → Claims plan (next + 1) (set views i (with_own v (with_claim v.own next)))
  claims_more lt = let w = with_own v (with_claim v.own next) in
      let r0 = each_seat refusals v live alone in let r1 = each_seat refusals w live alone in let rt = total_set (each refusals) views i v w at in let m =
      c.most in record {
        once = λ x. let s = total_set (each (claimed x)) views i v w at in let a = each_seat (claimed x) v live alone in let b =
            each_seat (claimed x) w live alone in let p = times-push x v.own.claims next in let o = c.once x in
            let more : once_below x (min (next + 1) plan.shards) ≡ once_below x (min next plan.shards) + tick (next == x) = grind (arith, nat_tests) in
            omega arith;
        most = omega arith;
        over = λ some_refused. let o = c.over (omega arith) in absurd (omega arith);
      }

  pub claims_over : plan.shards ≤ next → v.own.refused ≡ false → Claims plan (next + 1) (set views i (with_own v (with_refusal v.own)))
  claims_over ge unrefused = let w = with_own v (with_refusal v.own) in
      let r0 : each refusals v ≡ tick v.own.refused = each_seat refusals v live alone in let z : tick v.own.refused ≡ 0 = rw unrefused refl in
      let r1 = each_seat refusals w live alone in let rt = total_set (each refusals) views i v w at in let m = c.most in record {
        once = λ x. let s = total_set (each (claimed x)) views i v w at in let a = each_seat (claimed x) v live alone in let b =
            each_seat (claimed x) w live alone in let o = c.once x in
            let same : min (next + 1) plan.shards ≡ min next plan.shards = omega arith in
            let e : once_below x (min (next + 1) plan.shards) ≡ once_below x (min next plan.shards) = ap (once_below x) same in omega arith;
        most = omega arith;
        over = λ _. omega arith;
      }

-- the words after a step on one of three
pub word_set : (words : List ℕ) (i n : ℕ) → i < length words → get_or (set words i n) i 0 ≡ n
word_set words i n h = get_or-set_same words i n 0 h

pub next_after : (plan : Plan) (next : ℕ) (views : List View) → Numbers plan views → Claims plan next views → (next + 1) % 18446744073709551616 ≡ next + 1
next_after plan next views n c = let r = refusals_few plan views n in let m = c.most in let s = n.short in let small : next + 1 < 18446744073709551616 =
    omega arith in omega arith

pub draws : (plan : Plan) (slots id : ℕ) (m : Me Slot View) → m.0.live ≡ true → m.0.joined ≡ [] → m.0.own.refused ≡ false
    → Allows (Kept plan) slots id m 2 (λ n. (n + 1) % 18446744073709551616) (Draws (step slots 2 1 0 none) m)
draws plan slots id m live alone unrefused s r _ at _ =
    let next : ℕ = get_or s.words 2 0 in
    let v : View = m.0 in
    let wide : length s.words ≡ 3 = r.wide in
    let known : v.plan ≡ plan = r.numbers.knows id v at live in
    let shards : v.plan.shards ≡ plan.shards = ap (λ (p : Plan). p.shards) known in
    let after : (next + 1) % 18446744073709551616 ≡ next + 1 = next_after plan next s.views r.numbers r.claims in
    let now : get_or (set s.words 2 ((next + 1) % 18446744073709551616)) 2 0 ≡ next + 1 =
    get_or-set_same s.words 2 ((next + 1) % 18446744073709551616) 0 (omega arith) ∙ after in
    let n : ℕ = (next + 1) % 18446744073709551616 in
    let kept : (w : View) → Numbers plan (set s.views id w) → Claims plan (next + 1) (set s.views id w)
    → Turns plan (get_or s.words 0 0) (get_or s.words 1 0) s.homes (set s.views id w) → Kept plan (stepped s 2 n id m.1 w keeps) =
    λ (w : View) (numbers : Numbers plan (set s.views id w)) (claims : Claims plan (next + 1) (set s.views id w))
    (turns : Turns plan (get_or s.words 0 0) (get_or s.words 1 0) s.homes (set s.views id w)).
    record {
      wide = length-set s.words 2 n ∙ wide;
      numbers = numbers;
      claims = subst (λ (k : ℕ). Claims plan k (set s.views id w)) (sym now) claims;
      turns = turns_at plan (get_or s.words 0 0) (get_or (set s.words 2 n) 0 0) (get_or s.words 1 0) (get_or (set s.words 2 n) 1 0) s.homes
          (set s.views id w) (sym (get_or-set_other s.words 2 0 n 0 (λ e. omega arith))) (sym (get_or-set_other s.words 2 1 n 0 (λ e. omega arith))) turns;
    } in
    let turns_claim : Turns plan (get_or s.words 0 0) (get_or s.words 1 0) s.homes (set s.views id (with_own v (with_claim v.own next))) =
    turns_set plan (get_or s.words 0 0) (get_or s.words 1 0) s.homes s.views id v (with_own v (with_claim v.own next)) at refl (λ x. refl)
    (λ h. h) r.turns (λ y. record { seen = y.seen; told = y.told; mine = y.mine; others = y.others; few = y.few; holds = y.holds }) in
    let turns_over : Turns plan (get_or s.words 0 0) (get_or s.words 1 0) s.homes (set s.views id (with_own v (with_refusal v.own))) =
    turns_set plan (get_or s.words 0 0) (get_or s.words 1 0) s.homes s.views id v (with_own v (with_refusal v.own)) at refl (λ x. refl) (λ h. h) r.turns
    (λ y. record { seen = y.seen; told = y.told; mine = y.mine; others = y.others; few = y.few; holds = y.holds }) in
    let same = λ (f : Part → ℕ) (p : Part) (e : f p ≡ f v.own). each_seat f (with_own v p) live alone ∙ (e ∙ sym (each_seat f v live alone)) in
    let numbers = λ (p : Part) (e : p.number ≡ v.own.number). numbers_set plan s.views id v (with_own v p) at (same one p refl)
    (λ x. same (numbered x) p (ap (λ (n : ℕ). tick (n == x)) e)) (λ _. known) r.numbers in
    dite (dec_lt next plan.shards)
    (λ lt. let p = with_claim v.own next in (
      with_own v p,
      keeps,
      tt,
      kept (with_own v p) (numbers p refl) (claims_more plan next s.views id v live alone at r.claims lt) turns_claim,
      (refl, (λ _. (refl, claims_below plan next s.views id v live alone at r.claims)), λ ge. absurd (omega arith)),
    ))
    (λ not. let ge : plan.shards ≤ next = omega arith in let p = with_refusal v.own in (
      with_own v p,
      keeps,
      tt,
      kept (with_own v p) (numbers p refl) (claims_over plan next s.views id v live alone at r.claims ge unrefused) turns_over,
      (refl, (λ lt. absurd (omega arith)), λ _. refl),
    ))
