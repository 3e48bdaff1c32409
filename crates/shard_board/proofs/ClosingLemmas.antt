-- The seats are gathered, and the table closed.
use Rattle.std.proofs.Common.{◌≡◌, ℕ, zero, suc, ◌+◌, ◌<◌, Bool, true, false, cond, List, [], ◌∷◌, ◌++◌, length, get_or, Some, refl, sym, ap, ◌∙◌, subst, inl}
use Rattle.std.proofs.Common.{inr, ⊎_elim, arith}
use Rattle.fact_books.specs.Books.{Contents}
use Rattle.std.specs.Prelude.{min}
use mathlib.Core.Option.{Option as Home, some, none, some-ne-none, some-injective}
use mathlib.Core.Logic.{dite}
use native.Mathlib.Decide.{ℕ_discrete}
use lib.ListN.{get_elem?}
use Rattle.atomic_table.specs.Table.{State, Me}
use Rattle.atomic_table.specs.Seated.{TableId}
use Rattle.atomic_table.proofs.Lists.{at_longer, at_last}
use Rattle.shard_board.specs.declared.rule.Part.{Part}
use Rattle.shard_board.specs.declared.rule.View.{View}
use Rattle.shard_board.specs.declared.rule.Plan.{Plan}
use Rattle.shard_board.specs.Sums.{Slot, tick, total, each, one}
use Rattle.shard_board.specs.Claiming.{numbered, claimed, refusals, once_below, Kept}
use Rattle.shard_board.specs.History.{facts_of}
use Rattle.shard_board.specs.Turning.{book_with, waits, Knows, Ready}
use Rattle.shard_board.specs.Notes.{gathered}
use Rattle.shard_board.specs.Shown.{ShownSeat, ShownBoard}
use Rattle.shard_board.specs.Closing.{OfBoard, IsClosed, part_of, IsPart, Gathered}
use Rattle.shard_board.proofs.TotalLemmas.{total_at, total_append, total_two, each_seat}
use Rattle.shard_board.proofs.RowLemmas.{at_end}
use Rattle.shard_board.proofs.TakeLemmas.{off, same_view, Out}

pub of_board_less : (t : TableId) (xs : List ShownSeat) (x : ShownSeat) → OfBoard t (xs ++ x ∷ []) → OfBoard t xs × (x.board.table_id ≡ t)
of_board_less t xs x h = ((λ k s at. h k s (at_longer xs (x ∷ []) k s at)), h (length xs) x (at_last xs x (length xs) refl))

abbrev weight : (Part → ℕ) → ShownSeat → ℕ
weight f s = f (part_of s)

-- the first seat, with all others still to come
pub gathers_first : (m : Me Slot View) (rest : List ShownSeat) (x : ShownSeat) → Ready m → part_of x ≡ m.0.own → Gathered m rest (rest ++ x ∷ [])
gathers_first m rest x r is = record {
  free = r.0;
  live = r.1;
  no_ticket = r.3;
  no_hold = r.4;
  sums = λ f. let a = total_append (weight f) rest (x ∷ []) in let b = each_seat f m.0 r.1 r.2 in let c : f (part_of x) ≡ f m.0.own = ap f is in omega arith;
  parts = λ k s at. ⊎_elim (λ old. inl old) (λ (t : (k ≡ length rest) × (x ≡ s)). inr (inl (ap part_of (sym t.1) ∙ is))) (at_end rest x s k at);
}

part_more : (v w : View) (p : Part) → IsPart v p → IsPart (gathered v w) p
part_more v w p h = ⊎_elim (λ e. inl e) (λ (t : (k : ℕ) × (get_elem? v.joined k ≡ some p)). inr (t.0, at_longer v.joined (w.own ∷ []) t.0 p t.1)) h

-- one more
pub gathers_next : (m m' : Me Slot View) (w : View) (rest all : List ShownSeat) (x : ShownSeat) → Gathered m (rest ++ x ∷ []) all → part_of x ≡ w.own
    → m' ≡ (gathered m.0 w, m.1) → Gathered m' rest all
gathers_next m m' w rest all x g is now = subst (λ (z : Me Slot View). Gathered z rest all) (sym now)
    record {
      free = g.free;
      live = g.live;
      no_ticket = g.no_ticket;
      no_hold = g.no_hold;
      sums = λ f. let a = total_append (weight f) rest (x ∷ []) in let b = g.sums f in let c : f (part_of x) ≡ f w.own = ap f is in let d =
          total_append f m.0.joined (w.own ∷ []) in omega arith;
      parts = λ k s at. ⊎_elim
          (λ waiting. ⊎_elim (λ old. inl old) (λ (t : (k ≡ length rest) × (x ≡ s)). inr
          (inr (
            length m.0.joined,
            subst (λ (p : Part). get_elem? (m.0.joined ++ w.own ∷ []) (length m.0.joined) ≡ some p)
                (sym (ap part_of (sym t.1) ∙ is)) (at_last m.0.joined w.own (length m.0.joined) refl),
          ))) (at_end rest x s k waiting))
          (λ there. inr (part_more m.0 w (part_of s) there)) (g.parts k s at);
    }

-- where one view has the whole of g, it has the whole of what is nothing where g is nothing
total_nil : (f g : View → ℕ) (views : List View) → total g views ≡ 0 → ((u : View) → g u ≡ 0 → f u ≡ 0) → total f views ≡ 0
total_nil f g [] z h = refl
total_nil f g (x ∷ xs) z h = let a : f x ≡ 0 = h x (omega arith) in let b : total f xs ≡ 0 = total_nil f g xs (omega arith) h in omega arith

total_only : (f g : View → ℕ) (views : List View) (i : ℕ) (v : View) → get_elem? views i ≡ some v → total g views ≡ g v → ((u : View) → g u ≡ 0 → f u ≡ 0)
    → total f views ≡ f v
total_only f g [] i v at whole h = absurd (some-ne-none v (sym at))
total_only f g (x ∷ xs) zero v at whole h = let e : f x ≡ f v = ap f (some-injective x v at) in let d : g x ≡ g v = ap g (some-injective x v at) in
    let b : total f xs ≡ 0 = total_nil f g xs (omega arith) h in omega arith
total_only f g (x ∷ xs) (suc i) v at whole h = let t = total_at g xs i v at in let a : f x ≡ 0 = h x (omega arith) in let b : total f xs ≡ f v =
    total_only f g xs i v at (omega arith) h in omega arith

parts_none : (f : Part → ℕ) (ps : List Part) → total one ps ≡ 0 → total f ps ≡ 0
parts_none f [] z = refl
parts_none f (p ∷ ps) z = absurd (omega arith)

each_none : (f : Part → ℕ) (v : View) → each one v ≡ 0 → each f v ≡ 0
each_none f v z = let j : total f v.joined ≡ 0 = parts_none f v.joined (omega arith) in
    elim v.live as (λ (b : Bool). cond b 1 0 + total one v.joined ≡ 0 → cond b (f v.own) 0 + total f v.joined ≡ 0)
    [ true ↦ λ h. absurd (omega arith) | false ↦ λ h. omega arith ] z

total_ones : (all : List ShownSeat) → total (weight one) all ≡ length all
total_ones [] = refl
total_ones (s ∷ ss) = let r = total_ones ss in omega arith

module _ (plan : Plan) (s : State Slot View) (r : Kept plan s) (id : ℕ) (m : Me Slot View) (at : get_elem? s.views id ≡ some m.0) (all : List ShownSeat)
    (g : Gathered m [] all) (whole : length all ≡ plan.seats) where
  ones : each one m.0 ≡ plan.seats
  ones = let a = g.sums one in let b = total_ones all in omega arith

  sum_all : (f : Part → ℕ) → total (each f) s.views ≡ total (weight f) all
  sum_all f = let c = r.numbers.counted in let o = ones in let t = total_only (each f) (each one) s.views id m.0 at (omega arith) (each_none f) in let a =
      g.sums f in omega arith

  pub home_at_end : s.homes ≡ some (Some (book_with plan (facts_of r.turns.log))) ∷ []
  home_at_end = ⊎_elim (λ home. home)
      (λ (o : (s.homes ≡ none ∷ []) × Out s.views).
      let y = r.turns.sits o.1.0 o.1.1.0 o.1.1.1.0 in
      let h = y.holds o.1.1.1.1 in
      let few = y.few in
      let w : waits o.1.1.0.ticket ≡ 1 = ap waits h.0 in
      let c = r.numbers.counted in
      let k = ones in
      absurd (dite (ℕ_discrete o.1.0 id)
      (λ same. off (sym g.no_hold ∙ (ap (λ (x : View). x.holding) (sym (same_view s.views id o.1.0 m.0 o.1.1.0 at o.1.1.1.0 same)) ∙ o.1.1.1.1)))
      (λ other. let t = total_two (each one) s.views id o.1.0 m.0 o.1.1.0 (λ e. other (sym e)) at o.1.1.1.0 in omega arith)))
      r.turns.slot

  knows_part : (p : Part) → IsPart m.0 p → Knows r.turns.log p
  knows_part p h = let y = r.turns.sits id m.0 at in ⊎_elim (λ (e : p ≡ m.0.own). subst (Knows r.turns.log) (sym e) (y.seen, y.mine g.live))
      (λ (t : (k : ℕ) × (get_elem? m.0.joined k ≡ some p)). y.others t.0 p t.1) h

  is_part : (k : ℕ) (x : ShownSeat) → get_elem? all k ≡ some x → IsPart m.0 (part_of x)
  is_part k x there = ⊎_elim (λ none_left. absurd (some-ne-none x (sym none_left))) (λ h. h) (g.parts k x there)

  pub closes : (board : ShownBoard) (book : Contents) → plan.empty.file ≡ board.file → plan.shards ≡ board.shards → plan.seats ≡ board.seats
      → book ≡ book_with plan (facts_of r.turns.log) → IsClosed board all book (min (get_or s.words 2 0) plan.shards) (get_or s.words 0 0)
  closes board book file shards seats is = record {
    log = r.turns.log;
    legal = r.turns.legal;
    long = r.turns.long;
    file = ap (λ (b : Contents). b.file) is ∙ file;
    facts = ap (λ (b : Contents). b.facts) is;
    seen = λ k x there. (knows_part (part_of x) (is_part k x there)).0;
    mine = λ k x there. (knows_part (part_of x) (is_part k x there)).1;
    numbers = λ x. sym (sum_all (numbered x)) ∙ (r.numbers.differ x ∙ ap (once_below x) seats);
    given = λ k e there. subst (λ (n : ℕ). e.by < n) seats (r.turns.given k e there);
    claims = λ x. sym (sum_all (claimed x)) ∙ r.claims.once x;
    most = omega arith;
    refused = λ k x there said. let one_more : refusals (part_of x) ≡ 1 = ap tick said in let t = total_at (weight refusals) all k x there in let u =
        sum_all refusals in let o = r.claims.over (omega arith) in omega arith;
  }

pub word_value : (ws : List ℕ) (i n : ℕ) → get_elem? ws i ≡ some n → get_or ws i 0 ≡ n
word_value [] i n e = absurd (some-ne-none n (sym e))
word_value (w ∷ ws) zero n e = some-injective w n e
word_value (w ∷ ws) (suc i) n e = word_value ws i n e

pub home_value : (homes : List (Home Slot)) (xs : List Slot) (f : Slot) (r : Slot) → homes ≡ some f ∷ []
    → ((k : ℕ) (y : Slot) → get_elem? homes k ≡ some (some y) → get_elem? xs k ≡ some y) → get_elem? xs 0 ≡ some r → r ≡ f
home_value homes xs f r home same found = some-injective r f (sym found ∙ same 0 f (ap (λ (hs : List (Home Slot)). get_elem? hs 0) home))

pub closed_as : (board : ShownBoard) (all : List ShownSeat) (book : Contents) (a b c d : ℕ) → a ≡ b → c ≡ d → IsClosed board all book a c
    → IsClosed board all book b d
closed_as board all book a b c d p q h = subst (λ (z : ℕ × ℕ). IsClosed board all book z.0 z.1) (λ i. (p i, q i)) h
