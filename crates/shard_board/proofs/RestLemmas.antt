-- A seat between two calls, after each kind of call.
use Rattle.std.proofs.Common.{◌≡◌, ℕ, ◌+◌, ◌<◌, Bool, true, false, ◌||◌, List, [], ◌∷◌, ◌++◌, length, set, get_or, refl, sym, ap, ◌∙◌, subst, arith, length-set}
use Rattle.std.proofs.Common.{get_or-set_same, get_or-set_other, eq-eqb, ne_eqb, length-append}
use Rattle.std.proofs.Math.Bool.{or_assoc}
use Rattle.shard_board.specs.declared.error.TheConstants.{MAX_TURNS}
use Rattle.std.specs.Prelude.{◌==◌}
use mathlib.Core.Logic.{dite}
use native.Mathlib.Decide.{ℕ_discrete}
use Rattle.atomic_table.specs.Table.{Me}
use Rattle.atomic_table.specs.Seated.{TableId}
use Rattle.shard_board.specs.declared.rule.View.{View}
use Rattle.shard_board.specs.Sums.{Slot}
use Rattle.shard_board.specs.Claiming.{with_own, with_claim, with_refusal}
use mathlib.Core.List.{IsPrefix}
use Rattle.shard_board.specs.declared.history.Call.{Call}
use Rattle.shard_board.specs.declared.history.Entry.{Entry}
use Rattle.shard_board.specs.History.{IsLegal, calls_by, entry}
use Rattle.shard_board.specs.Turning.{ended, Ready, HasTurned}
use Rattle.shard_board.specs.Notes.{Looked, seeing}
use Rattle.shard_board.specs.Changes.{IsTurn, SeesMore}
use Rattle.shard_board.proofs.HistoryLemmas.{calls_mine}
use Rattle.shard_board.specs.Shown.{ShownSeat, shown_seat, has, AtRest}

or_false : (b : Bool) → (b || false) ≡ b
or_false true = refl
or_false false = refl

or_true : (b : Bool) → (b || true) ≡ true
or_true true = refl
or_true false = refl

pub has-append : (k : ℕ) (xs ys : List ℕ) → has k (xs ++ ys) ≡ (has k xs || has k ys)
has-append k [] ys = refl
has-append k (x ∷ xs) ys = ap (λ (b : Bool). (x == k) || b) (has-append k xs ys) ∙ sym (or_assoc (x == k) (has k xs) (has k ys))

pub marks_more : (marks : List Bool) (claims : List ℕ) (n : ℕ) → n < length marks → ((k : ℕ) → get_or marks k false ≡ has k claims) → (k : ℕ)
    → get_or (set marks n true) k false ≡ has k (claims ++ n ∷ [])
marks_more marks claims n inside before k = dite (ℕ_discrete k n)
    (λ same. ap (λ (z : ℕ). get_or (set marks n true) z false) same
    ∙ (get_or-set_same marks n true false inside
    ∙ sym (has-append k claims (n ∷ []) ∙ (ap (λ (b : Bool). has k claims || (b || false)) (eq-eqb n k (sym same)) ∙ or_true (has k claims)))))
    (λ other. get_or-set_other marks n k true false other
    ∙ (before k ∙ sym (has-append k claims (n ∷ []) ∙ (ap (λ (b : Bool). has k claims || (b || false)) (ne_eqb n k (λ e. other (sym e)))
    ∙ or_false (has k claims)))))

module _ (number turns : ℕ) (refused : Bool) (marks : List Bool) (m m' : Me Slot View) (r : AtRest number turns refused marks m) (slots : m'.1 ≡ m.1) where
  pub rests_claimed : (n : ℕ) → n < length marks → m'.0 ≡ with_own m.0 (with_claim m.0.own n) → AtRest number turns refused (set marks n true) m'
  rests_claimed n inside e = record {
    free = slots ∙ r.free;
    live = ap (λ (v : View). v.live) e ∙ r.live;
    alone = ap (λ (v : View). v.joined) e ∙ r.alone;
    no_ticket = ap (λ (v : View). v.ticket) e ∙ r.no_ticket;
    no_hold = ap (λ (v : View). v.holding) e ∙ r.no_hold;
    number_is = ap (λ (v : View). v.own.number) e ∙ r.number_is;
    turns_are = ap (λ (v : View). length v.own.calls) e ∙ r.turns_are;
    few = r.few;
    refused_is = ap (λ (v : View). v.own.refused) e ∙ r.refused_is;
    marked = λ k. marks_more marks m.0.own.claims n inside r.marked k ∙ sym (ap (λ (v : View). has k v.own.claims) e);
    long = length-set marks n true ∙ (r.long ∙ sym (ap (λ (v : View). v.plan.shards) e));
    short = let l = length-set marks n true in let s = r.short in omega arith;
  }

  pub rests_refused : m'.0 ≡ with_own m.0 (with_refusal m.0.own) → AtRest number turns true marks m'
  rests_refused e = record {
    free = slots ∙ r.free;
    live = ap (λ (v : View). v.live) e ∙ r.live;
    alone = ap (λ (v : View). v.joined) e ∙ r.alone;
    no_ticket = ap (λ (v : View). v.ticket) e ∙ r.no_ticket;
    no_hold = ap (λ (v : View). v.holding) e ∙ r.no_hold;
    number_is = ap (λ (v : View). v.own.number) e ∙ r.number_is;
    turns_are = ap (λ (v : View). length v.own.calls) e ∙ r.turns_are;
    few = r.few;
    refused_is = ap (λ (v : View). v.own.refused) e;
    marked = λ k. r.marked k ∙ sym (ap (λ (v : View). has k v.own.claims) e);
    long = r.long ∙ sym (ap (λ (v : View). v.plan.shards) e);
    short = r.short;
  }

pub ready : (number turns : ℕ) (refused : Bool) (marks : List Bool) (m : Me Slot View) → AtRest number turns refused marks m → Ready m
ready number turns refused marks m r = (r.free, r.live, r.alone, r.no_ticket, r.no_hold)

module _ (number turns : ℕ) (refused : Bool) (marks : List Bool) (m m' : Me Slot View) (by : ℕ) (call : Call) (r : AtRest number turns refused marks m)
    (h : HasTurned m m' (entry by call)) where
  pub rests_turned : turns < MAX_TURNS → AtRest number (turns + 1) refused marks m'
  rests_turned few = record {
    free = h.free;
    live = ap (λ (v : View). v.live) h.view ∙ r.live;
    alone = ap (λ (v : View). v.joined) h.view ∙ r.alone;
    no_ticket = ap (λ (v : View). v.ticket) h.view;
    no_hold = ap (λ (v : View). v.holding) h.view;
    number_is = ap (λ (v : View). v.own.number) h.view ∙ r.number_is;
    turns_are = ap (λ (v : View). length v.own.calls) h.view ∙ (length-append m.0.own.calls (entry by call ∷ []) ∙ (let t = r.turns_are in omega arith));
    few = omega arith;
    refused_is = ap (λ (v : View). v.own.refused) h.view ∙ r.refused_is;
    marked = λ k. r.marked k ∙ sym (ap (λ (v : View). has k v.own.claims) h.view);
    long = r.long ∙ sym (ap (λ (v : View). v.plan.shards) h.view);
    short = r.short;
  }

  -- what the caller sees of it
  pub is_turn : (t t' : TableId) → t' ≡ t → by ≡ m.0.own.number → IsTurn (shown_seat t m.0) (shown_seat t' m'.0) call
  is_turn t t' same mine =
      let e : entry by call ≡ entry m.0.own.number call = ap (λ (n : ℕ). entry n call) mine in record {
        before = h.before;
        begins = h.begins;
        seat = λ i. shown_seat (same i) ((h.view ∙ ap (λ (x : Entry). ended m.0 h.before x) e) i);
        legal = subst IsLegal (sym (ap (λ (v : View). v.own.seen) h.view)) h.legal;
        mine = subst (λ (v : View). calls_by v.own.number v.own.seen ≡ v.own.calls) (sym h.view) (calls_mine m.0.own.number h.before (entry by call) mine
            ∙ ap (λ (l : List Entry). l ++ entry by call ∷ []) h.mine);
      }

  -- and of the seat that it shows
  pub turn_seen : (t t' : TableId) → t' ≡ t → by ≡ m.0.own.number → (s : ShownSeat) → shown_seat t m.0 ≡ s → IsTurn s (shown_seat t' m'.0) call
  turn_seen t t' same mine s is = subst (λ (x : ShownSeat). IsTurn x (shown_seat t' m'.0) call) is (is_turn t t' same mine)

-- the view is the same, as far as a seat between two turns goes, but for the history that it has seen
module _ (number turns : ℕ) (refused : Bool) (marks : List Bool) (m m' m'' : Me Slot View) (r : AtRest number turns refused marks m) (slots : m'.1 ≡ m.1)
    (told : List Entry) (view : m'.0 ≡ record {
      live = m.0.live;
      own = m.0.own;
      told = told;
      joined = m.0.joined;
      ticket = m.0.ticket;
      holding = m.0.holding;
      plan = m.0.plan;
    }) (found : ℕ) (l : Looked m' m'' found) where
  pub rests_looked : AtRest number turns refused marks m''
  rests_looked = record {
    free = l.slots ∙ (slots ∙ r.free);
    live = ap (λ (v : View). v.live) (l.view) ∙ (ap (λ (v : View). v.live) view ∙ r.live);
    alone = ap (λ (v : View). v.joined) (l.view) ∙ (ap (λ (v : View). v.joined) view ∙ r.alone);
    no_ticket = ap (λ (v : View). v.ticket) (l.view) ∙ (ap (λ (v : View). v.ticket) view ∙ r.no_ticket);
    no_hold = ap (λ (v : View). v.holding) (l.view) ∙ (ap (λ (v : View). v.holding) view ∙ r.no_hold);
    number_is = ap (λ (v : View). v.own.number) (l.view) ∙ (ap (λ (v : View). v.own.number) view ∙ r.number_is);
    turns_are = ap (λ (v : View). length v.own.calls) (l.view) ∙ (ap (λ (v : View). length v.own.calls) view ∙ r.turns_are);
    few = r.few;
    refused_is = ap (λ (v : View). v.own.refused) (l.view) ∙ (ap (λ (v : View). v.own.refused) view ∙ r.refused_is);
    marked = λ k. r.marked k ∙ sym (ap (λ (v : View). has k v.own.claims) (l.view) ∙ ap (λ (v : View). has k v.own.claims) view);
    long = r.long ∙ sym (ap (λ (v : View). v.plan.shards) (l.view) ∙ ap (λ (v : View). v.plan.shards) view);
    short = r.short;
  }

  pub sees_more : (t t'' : TableId) → t'' ≡ t → SeesMore (shown_seat t m.0) (shown_seat t'' m''.0)
  sees_more t t'' same = record {
    begins = subst (λ (v : View). IsPrefix v.own.seen m''.0.own.seen) view l.before;
    seat = λ i. shown_seat (same i) ((l.view ∙ ap (λ (v : View). seeing v m''.0.own.seen) view) i);
    legal = l.legal;
  }
