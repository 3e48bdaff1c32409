-- A turn from its start to its end.
use Rattle.std.proofs.Common.{◌≡◌, ℕ, List, [], ◌∷◌, length, Some, None, sym, ap, ◌∙◌, subst}
use Rattle.fact_books.specs.Books.{Contents}
use Rattle.shard_board.specs.declared.rule.Plan.{Plan}
use Rattle.atomic_table.specs.Table.{Me, rest}
use Rattle.shard_board.specs.declared.history.Call.{Call}
use Rattle.shard_board.specs.declared.rule.View.{View}
use Rattle.shard_board.specs.Sums.{Slot}
use Rattle.shard_board.specs.History.{facts_after, facts_of, IsRight, entry}
use Rattle.shard_board.specs.Turning.{book_with, with_turn, Ready, Entered, MayEnd, HasTurned}
use Rattle.shard_board.proofs.HistoryLemmas.{legal_next}

abbrev slot_of : List (ℕ × Slot) → Slot
slot_of [] = None
slot_of (x ∷ xs) = x.1

pub held_is : (m : Me Slot View) (f : Contents) (r : Slot) → m.1 ≡ (0, Some f) ∷ [] → m.1 ≡ (0, r) ∷ rest m.1 → r ≡ Some f
held_is m f r here found = ap slot_of (sym found ∙ here)

pub put_in : (m m' m'' : Me Slot View) (f : Contents) (a b : Slot) → m.1 ≡ (0, Some f) ∷ [] → m' ≡ (m.0, (0, a) ∷ rest m.1)
    → m'' ≡ (m'.0, (0, b) ∷ rest m'.1) → m'' ≡ (m.0, (0, b) ∷ [])
put_in m m' m'' f a b here out back = back ∙ (ap (λ (x : Me Slot View). (x.0, (0, b) ∷ rest x.1)) out
    ∙ ap (λ (l : List (ℕ × Slot)). (m.0, (0, b) ∷ rest l)) here)

module _ (m m' m'' : Me Slot View) (turn by : ℕ) (call : Call) (b : Contents) (r : Ready m) (e : Entered m m' turn) (mine : by ≡ m.0.own.number)
    (is : m'' ≡ (m'.0, (0, Some b) ∷ [])) (right : IsRight turn (facts_of m'.0.own.seen) call) where
  pub may_end : b ≡ book_with m.0.plan (facts_after (facts_of m'.0.own.seen) call) → MayEnd m'' (entry by call)
  may_end made = let v : m''.0 ≡ m'.0 = ap (λ (x : Me Slot View). x.0) is in record {
    live = ap (λ (x : View). x.live) (v ∙ e.view) ∙ r.1;
    alone = ap (λ (x : View). x.joined) (v ∙ e.view) ∙ r.2;
    holding = ap (λ (x : View). x.holding) (v ∙ e.view);
    by = mine ∙ sym (ap (λ (x : View). x.own.number) (v ∙ e.view));
    right = subst (λ (x : View). IsRight (length x.own.seen) (facts_of x.own.seen) call) (sym v)
        (subst (λ (n : ℕ). IsRight n (facts_of m'.0.own.seen) call) (sym e.long) right);
    book = ap (λ (x : Me Slot View). x.1) is ∙ (ap (λ (f : Contents). (0, Some f) ∷ []) (made
        ∙ ap (λ (p : Plan). book_with p (facts_after (facts_of m'.0.own.seen) call)) (sym (ap (λ (x : View). x.plan) e.view)))
        ∙ ap (λ (x : View). (0, Some (book_with x.plan (facts_after (facts_of x.own.seen) call))) ∷ []) (sym v));
  }

  pub has_turned : (m4 : Me Slot View) → m4 ≡ (with_turn m''.0 (entry by call), []) → HasTurned m m4 (entry by call)
  has_turned m4 last = let v : m''.0 ≡ m'.0 = ap (λ (x : Me Slot View). x.0) is in record {
    before = m'.0.own.seen;
    free = ap (λ (x : Me Slot View). x.1) last;
    view = ap (λ (x : Me Slot View). x.0) last ∙ ap (λ (x : View). with_turn x (entry by call)) (v ∙ e.view);
    begins = e.before;
    legal = legal_next m'.0.own.seen (entry by call) e.legal (subst (λ (n : ℕ). IsRight n (facts_of m'.0.own.seen) call) (sym e.long) right);
    mine = e.mine;
  }

pub one_out : (c : List (ℕ × Slot)) (x : Slot) → c ≡ (0, x) ∷ [] → c ≡ (0, x) ∷ rest c
one_out c x e = e ∙ ap (λ (l : List (ℕ × Slot)). (0, x) ∷ l) (sym (ap rest e))

pub still_out : (c : List (ℕ × Slot)) (x : Slot) (l : List (ℕ × Slot)) → c ≡ (0, x) ∷ l → c ≡ (0, x) ∷ rest c
still_out c x l e = e ∙ ap (λ (k : List (ℕ × Slot)). (0, x) ∷ k) (sym (ap rest e))

pub some_is : (a b : Contents) → Some a ≡ Some b → a ≡ b
some_is a b e = cc
