-- Steps that make no turn keep the rule's part about turns.
use Rattle.std.proofs.Common.{◌≡◌, ◌≢◌, ℕ, zero, suc, ◌+◌, ◌*◌, ◌<◌, ◌≤◌, Bool, true, false, true≢false, List, [], ◌∷◌, length, set, Some, None, refl, sym, ap}
use Rattle.std.proofs.Common.{◌∙◌, subst, inl, inr, ⊎_elim, arith}
use Rattle.shard_board.specs.declared.error.TheConstants.{MAX_TURNS}
use Rattle.std.specs.Prelude.{◌==◌, ◌&&◌, ltb, leb}
use mathlib.Core.Option.{Option as Home, some, none, some-ne-none, some-injective}
use mathlib.Core.Logic.{dite}
use native.Mathlib.Decide.{ℕ_discrete}
use lib.ListN.{get_elem?}
use Rattle.std.proofs.lemmas.Bool.Decides.{nat_tests}
use Rattle.atomic_table.proofs.Lists.{at_set, set_else}
use Rattle.shard_board.specs.declared.rule.View.{View}
use Rattle.shard_board.specs.declared.rule.Plan.{Plan}
use Rattle.shard_board.specs.Sums.{Slot, tick, total, each, one}
use Rattle.shard_board.specs.History.{facts_of}
use Rattle.shard_board.specs.Turning.{book_with, waits, waits_at, from_to, made, drawn, in_line, Sits, Turns, with_ticket, with_hold}
use Rattle.shard_board.proofs.TotalLemmas.{total_set, total_le_at, total_two, each_seat, tick_same}
use Rattle.shard_board.proofs.HistoryLemmas.{prefix_self}

pub set_at : {A : Type 0} (l : List A) (i : ℕ) (v w : A) → get_elem? l i ≡ some v → get_elem? (set l i w) i ≡ some w
set_at [] i v w e = absurd (some-ne-none v (sym e))
set_at (x ∷ xs) zero v w e = refl
set_at (x ∷ xs) (suc i) v w e = set_at xs i v w e

-- a fact of each view stays where the changed one has it
pub views_set : (P : View → Type 0) (views : List View) (i : ℕ) (w : View) → P w → ((j : ℕ) (v : View) → j ≢ i → get_elem? views j ≡ some v → P v)
    → (j : ℕ) (v : View) → get_elem? (set views i w) j ≡ some v → P v
views_set P views i w mine others j v e = ⊎_elim (λ (t : (j ≡ i) × (w ≡ v)). subst P t.1 mine)
    (λ (t : (j ≢ i) × (get_elem? views j ≡ some v)). others j v t.0 t.1) (at_set views i j w v e)

pub same_view : (views : List View) (i j : ℕ) (v u : View) → get_elem? views i ≡ some v → get_elem? views j ≡ some u → j ≡ i → u ≡ v
same_view views i j v u at there e = some-injective u v (sym there ∙ (ap (get_elem? views) e ∙ at))

pub tick_le : (b : Bool) → tick b ≤ 1
tick_le true = omega arith
tick_le false = omega arith

pub off : false ≡ true → ⊥
off e = true≢false (sym e)

-- somebody holds the book
abbrev pub Out : List View → Type 0
Out views = (j : ℕ) × ((v : View) × ((get_elem? views j ≡ some v) × (v.holding ≡ true)))

pub out_set : (views : List View) (i : ℕ) (v w : View) → get_elem? views i ≡ some v → (v.holding ≡ true → w.holding ≡ true) → Out views → Out (set views i w)
out_set views i v w at keeps o = dite (ℕ_discrete o.0 i)
    (λ same. (i, (w, (set_at views i v w at, keeps (ap (λ (x : View). x.holding) (sym (same_view views i o.0 v o.1.0 at o.1.1.0 same)) ∙ o.1.1.1)))))
    (λ other. (o.0, (o.1.0, (set_else views i o.0 w other ∙ o.1.1.0, o.1.1.1))))

-- the view of one seat changes, and nothing that the turns depend on
pub turns_set : (plan : Plan) (serving ticket : ℕ) (homes : List (Home Slot)) (views : List View) (i : ℕ) (v w : View) → get_elem? views i ≡ some v
    → drawn w ≡ drawn v → ((x : ℕ) → in_line x w ≡ in_line x v)
    → (v.holding ≡ true → w.holding ≡ true) → (t : Turns plan serving ticket homes views) → (Sits t.log serving v → Sits t.log serving w)
    → Turns plan serving ticket homes (set views i w)
turns_set plan serving ticket homes views i v w at drew line holding t sits = record {
  log = t.log;
  legal = t.legal;
  long = t.long;
  given = t.given;
  ahead = t.ahead;
  drew = let s = total_set drawn views i v w at in let d = t.drew in omega arith;
  line = λ x. let s = total_set (in_line x) views i v w at in let l = t.line x in let e = line x in omega arith;
  sits = views_set (Sits t.log serving) views i w (sits (t.sits i v at)) (λ j u _. t.sits j u);
  slot = ⊎_elim (λ home. inl home) (λ (o : (homes ≡ none ∷ []) × Out views). inr (o.0, out_set views i v w at holding o.1)) t.slot;
}

pub total_scale : (f : View → ℕ) (k : ℕ) (l : List View) → total (λ v. k * f v) l ≡ k * total f l
total_scale f k [] = omega arith
total_scale f k (x ∷ xs) = let r = total_scale f k xs in grind (arith, r)

pub ticket_few : (plan : Plan) (serving ticket : ℕ) (homes : List (Home Slot)) (views : List View) → Turns plan serving ticket homes views
    → total (each one) views ≤ 16 → ticket ≤ 1600000
ticket_few plan serving ticket homes views t few =
    let a : total drawn views ≤ total (λ v. 100000 * each one v) views = total_le_at drawn (λ v. 100000 * each one v) views (λ j v at. (t.sits j v at).few) in
    let b : total (λ v. 100000 * each one v) views ≡ 100000 * total (each one) views = total_scale (each one) 100000 views in
    let d = t.drew in omega arith

line_more : (x serving ticket : ℕ) → serving ≤ ticket → from_to x serving (ticket + 1) ≡ from_to x serving ticket + tick (ticket == x)
line_more x serving ticket h = grind (arith, nat_tests)

-- the next ticket is drawn
pub turns_ticket : (plan : Plan) (serving ticket : ℕ) (homes : List (Home Slot)) (views : List View) (i : ℕ) (v : View) → get_elem? views i ≡ some v
    → v.live ≡ true → v.joined ≡ [] → v.ticket ≡ None → v.holding ≡ false → length v.own.calls < MAX_TURNS
    → Turns plan serving ticket homes views → Turns plan serving (ticket + 1) homes (set views i (with_ticket v ticket))
turns_ticket plan serving ticket homes views i v at live alone no_ticket no_hold few t =
    let w = with_ticket v ticket in
    let a : each made v ≡ length v.own.calls = each_seat made v live alone in
    let one_is : each one v ≡ 1 = each_seat one v live alone in
    let none_is : waits v.ticket ≡ 0 = rw no_ticket refl in record {
      log = t.log;
      legal = t.legal;
      long = t.long;
      given = t.given;
      ahead = let h = t.ahead in omega arith;
      drew = let s = total_set drawn views i v w at in let d = t.drew in omega arith;
      line = λ x. let s = total_set (in_line x) views i v w at in let l = t.line x in let m = line_more x serving ticket t.ahead in
          let z : waits_at x v.ticket ≡ 0 = ap (waits_at x) no_ticket in omega arith;
      sits = views_set (Sits t.log serving) views i w (let y = t.sits i v at in
          record { seen = y.seen; told = y.told; mine = y.mine; others = y.others; few = omega arith; holds = λ h. absurd (off (sym no_hold ∙ h)) })
          (λ j u _. t.sits j u);
      slot = ⊎_elim (λ home. inl home) (λ (o : (homes ≡ none ∷ []) × Out views). inr (o.0, out_set views i v w at (λ h. h) o.1)) t.slot;
    }

pub turns_at : (plan : Plan) (a a' b b' : ℕ) (homes : List (Home Slot)) (views : List View) → a ≡ a' → b ≡ b' → Turns plan a b homes views
    → Turns plan a' b' homes views
turns_at plan a a' b b' homes views p q t = subst (λ (z : ℕ × ℕ). Turns plan z.0 z.1 homes views) (λ i. (p i, q i)) t

pub waits_here : (x : ℕ) (v : View) → v.ticket ≡ Some x → in_line x v ≡ 1
waits_here x v e = ap (waits_at x) e ∙ tick_same x

-- no two seats have one ticket
pub one_ticket : (plan : Plan) (serving ticket : ℕ) (homes : List (Home Slot)) (views : List View) (i j : ℕ) (v u : View) (x : ℕ)
    → Turns plan serving ticket homes views → i ≢ j → get_elem? views i ≡ some v → get_elem? views j ≡ some u → v.ticket ≡ Some x → u.ticket ≡ Some x → ⊥
one_ticket plan serving ticket homes views i j v u x t apart at there mine theirs =
    let a = total_two (in_line x) views i j v u apart at there in let b = waits_here x v mine in let c = waits_here x u theirs in let l = t.line x in
    let m : from_to x serving ticket ≤ 1 = tick_le (leb serving x && ltb x ticket) in omega arith

-- the book is home where a seat that has none is served
pub take_home : (plan : Plan) (serving ticket : ℕ) (homes : List (Home Slot)) (views : List View) (i : ℕ) (v : View) → get_elem? views i ≡ some v
    → v.ticket ≡ Some serving → v.holding ≡ false → (t : Turns plan serving ticket homes views) → homes ≡ some (Some (book_with plan (facts_of t.log))) ∷ []
take_home plan serving ticket homes views i v at served no_hold t =
    ⊎_elim (λ home. home) (λ (o : (homes ≡ none ∷ []) × Out views). let h = (t.sits o.1.0 o.1.1.0 o.1.1.1.0).holds o.1.1.1.1 in
    absurd (dite (ℕ_discrete o.1.0 i)
    (λ same. off (sym no_hold ∙ (ap (λ (x : View). x.holding) (sym (same_view views i o.1.0 v o.1.1.0 at o.1.1.1.0 same)) ∙ o.1.1.1.1)))
    (λ other. one_ticket plan serving ticket homes views i o.1.0 v o.1.1.0 serving t (λ e. other (sym e)) at o.1.1.1.0 served h.0))) t.slot

-- the book is taken by the seat that is served, which has seen the history
pub turns_take : (plan : Plan) (serving ticket : ℕ) (homes : List (Home Slot)) (views : List View) (i : ℕ) (v : View) → get_elem? views i ≡ some v
    → v.ticket ≡ Some serving → (t : Turns plan serving ticket homes views) → Turns plan serving ticket (none ∷ []) (set views i (with_hold v t.log))
turns_take plan serving ticket homes views i v at served t = let w = with_hold v t.log in record {
  log = t.log;
  legal = t.legal;
  long = t.long;
  given = t.given;
  ahead = t.ahead;
  drew = let s = total_set drawn views i v w at in let d = t.drew in omega arith;
  line = λ x. let s = total_set (in_line x) views i v w at in let l = t.line x in omega arith;
  sits = views_set (Sits t.log serving) views i w (let y = t.sits i v at in
      record { seen = prefix_self t.log; told = y.told; mine = y.mine; others = y.others; few = y.few; holds = λ _. (served, refl) }) (λ j u _. t.sits j u);
  slot = inr (refl, (i, (w, (set_at views i v w at, refl))));
}
