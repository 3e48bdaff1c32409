-- Looks, notes and joins keep the rule.
use Rattle.std.proofs.Common.{◌≡◌, ◌≢◌, ℕ, ◌+◌, true, false, List, [], ◌∷◌, ◌++◌, length, set, get_or, None, refl, sym, ap, ◌∙◌, subst, inl, inr, ⊎_elim, arith}
use Rattle.std.proofs.Common.{get_or-set_same, get_or-set_other}
use mathlib.Core.Option.{some, none, some-ne-none}
use lib.ListN.{get_elem?}
use Rattle.atomic_table.specs.Table.{Me, step, keeps, Allows, Splits, Joins}
use Rattle.atomic_table.proofs.Lists.{at_snoc, at_set}
use Rattle.shard_board.specs.declared.history.Entry.{Entry}
use Rattle.shard_board.specs.declared.rule.Part.{Part}
use Rattle.shard_board.specs.declared.rule.View.{View}
use Rattle.shard_board.specs.declared.rule.Plan.{Plan}
use Rattle.shard_board.specs.Sums.{Slot, total, each, one}
use Rattle.shard_board.specs.Claiming.{Kept}
use Rattle.shard_board.specs.Turning.{waits, waits_at, made, drawn, in_line, Knows, Sits}
use Rattle.shard_board.specs.Notes.{seeing, Looks, telling, keeps_all, note_of, told_too, spent, gathered}
use Rattle.shard_board.proofs.TotalLemmas.{total_set, total_append, each_seat}
use Rattle.shard_board.proofs.HistoryLemmas.{prefix_self}
use Rattle.shard_board.proofs.RowLemmas.{at_end}
use Rattle.shard_board.proofs.TakeLemmas.{views_set, out_set, Out, turns_set, turns_at, off}
use Rattle.shard_board.proofs.OpeningLemmas.{numbers_same, claims_same, total_cut, out_longer}
use Rattle.shard_board.proofs.StepLemmas.{kept_by}

pub looks : (plan : Plan) (slots id : ℕ) (m : Me Slot View) → Allows (Kept plan) slots id m 0 (λ n. n) (Looks (step slots 0 0 0 none) m)
looks plan slots id m s r _ at _ =
    let v : View = m.0 in
    let serving : ℕ = get_or s.words 0 0 in
    let ticket : ℕ = get_or s.words 1 0 in
    let wide : length s.words ≡ 3 = r.wide in
    let log : List Entry = r.turns.log in
    let w : View = seeing v log in
    let y = r.turns.sits id v at in
    let now : get_or (set s.words 0 serving) 0 0 ≡ serving = get_or-set_same s.words 0 serving 0 (omega arith) in
    let other : get_or (set s.words 0 serving) 1 0 ≡ ticket = get_or-set_other s.words 0 1 serving 0 (λ e. omega arith) in
    let turns = turns_at plan serving (get_or (set s.words 0 serving) 0 0) ticket (get_or (set s.words 0 serving) 1 0) s.homes (set s.views id w) (sym now)
    (sym other)
    (turns_set plan serving ticket s.homes s.views id v w at refl (λ x. refl) (λ h. h) r.turns
    (λ y. record { seen = prefix_self log; told = y.told; mine = y.mine; others = y.others; few = y.few; holds = λ h. ((y.holds h).0, refl) })) in (
      w,
      keeps,
      tt,
      kept_by plan s r 0 serving id v w s.homes (omega arith) at refl (λ x. refl) (λ x. refl) refl (refl, refl) turns,
      record { slots = refl; view = refl; legal = r.turns.legal; before = y.seen; told = y.told; long = r.turns.long },
    )

-- a view of which nothing counts comes
pub tells : (plan : Plan) (id : ℕ) (v : View) → Splits (Kept plan) id v (keeps_all v) (note_of v)
tells plan id v s r at =
    let n : View = note_of v in
    let views' : List View = set s.views id v ++ n ∷ [] in
    let same = λ (f : Part → ℕ). total_cut (each f) s.views id v v n at (let z : each f v + each f n ≡ each f v = omega arith in z) in
    let t = r.turns in
    let y = t.sits id v at in
    let note : Sits t.log (get_or s.words 0 0) n = record {
      seen = y.seen;
      told = (t.log, refl);
      mine = λ h. absurd (off h);
      others =
          λ k q there. absurd (some-ne-none q (sym there));
      few = omega arith;
      holds = λ h. absurd (off h);
    } in
    let each_view = λ (P : View → Type 0) (l : P v) (p : P n) (o : (j : ℕ) (u : View) → get_elem? s.views j ≡ some u → P u) (j : ℕ) (u : View)
    (was : get_elem? views' j ≡ some u).
    ⊎_elim (λ old. views_set P s.views id v l (λ k x _. o k x) j u old) (λ (new : n ≡ u). subst P new p) (at_snoc (set s.views id v) n u j was) in record {
      wide = r.wide;
      numbers = numbers_same plan s.views views' same
          (each_view (λ x. x.live ≡ true → x.plan ≡ plan) (r.numbers.knows id v at) (λ h. absurd (off h)) r.numbers.knows) r.numbers;
      claims = claims_same plan (get_or s.words 2 0) s.views views' same r.claims;
      turns = record {
        log = t.log;
        legal = t.legal;
        long = t.long;
        given = t.given;
        ahead = t.ahead;
        drew = t.drew ∙ sym (total_cut drawn s.views id v v n at (omega arith));
        line = λ x. total_cut (in_line x) s.views id v v n at (omega arith) ∙ t.line x;
        sits = each_view (Sits t.log (get_or s.words 0 0)) y note t.sits;
        slot = ⊎_elim (λ home. inl home) (λ (o : (s.homes ≡ none ∷ []) × Out s.views). inr
            (o.0, out_longer (set s.views id v) n (out_set s.views id v v at (λ h. h) o.1))) t.slot;
      };
    }

-- two views are made one, and the second is spent
total_join : (f : View → ℕ) (views : List View) (i j : ℕ) (v w both gone : View) → get_elem? views i ≡ some v → get_elem? (set views i both) j ≡ some w
    → f both + f gone ≡ f v + f w → total f (set (set views i both) j gone) ≡ total f views
total_join f views i j v w both gone at there e = let a = total_set f views i v both at in let b = total_set f (set views i both) j w gone there in omega arith

module _ (plan : Plan) (id : ℕ) (v : View) (other : ℕ) (w both : View) (calm : w.holding ≡ false) (still : both.holding ≡ v.holding)
    (alive : both.live ≡ v.live) (knows : both.plan ≡ v.plan)
    (sums : (f : Part → ℕ) → each f both ≡ each f v + each f w) (no_ticket : w.ticket ≡ None) (same_ticket : both.ticket ≡ v.ticket) where
  joined : (sits : (log : List Entry) (serving : ℕ) → Sits log serving v → Sits log serving w → Sits log serving both)
      → Joins (Kept plan) id v other w both spent
  joined sits s r at apart there =
      let views' : List View = set (set s.views id both) other spent in
      let was : get_elem? s.views other ≡ some w = ⊎_elim (λ (t : (other ≡ id) × (both ≡ w)). absurd (apart t.0))
      (λ (t : (other ≢ id) × (get_elem? s.views other ≡ some w)). t.1) (at_set s.views id other both w there) in
      let same = λ (f : Part → ℕ). total_join (each f) s.views id other v w both spent at there (let z : each f both + each f spent ≡ each f v + each f w =
      (let q = sums f in omega arith) in z) in
      let none_w : waits w.ticket ≡ 0 = ap waits no_ticket in
      let same_w : waits both.ticket ≡ waits v.ticket = ap waits same_ticket in
      let t = r.turns in
      let each_view = λ (P : View → Type 0) (b : P both) (g : P spent) (o : (j : ℕ) (u : View) → get_elem? s.views j ≡ some u → P u).
      views_set P (set s.views id both) other spent g (λ j u _. views_set P s.views id both b (λ k x _. o k x) j u) in record {
        wide = r.wide;
        numbers = numbers_same plan s.views views' same
            (each_view (λ x. x.live ≡ true → x.plan ≡ plan) (λ h. knows ∙ r.numbers.knows id v at (sym alive ∙ h)) (λ h. absurd (off h)) r.numbers.knows)
            r.numbers;
        claims = claims_same plan (get_or s.words 2 0) s.views views' same r.claims;
        turns = record {
          log = t.log;
          legal = t.legal;
          long = t.long;
          given = t.given;
          ahead = t.ahead;
          drew = t.drew ∙ sym (total_join drawn s.views id other v w both spent at there (let q = sums made in omega arith));
          line = λ x. total_join (in_line x) s.views id other v w both spent at there (let a : waits_at x w.ticket ≡ 0 = ap (waits_at x) no_ticket in
              let b : waits_at x both.ticket ≡ waits_at x v.ticket = ap (waits_at x) same_ticket in omega arith) ∙ t.line x;
          sits = each_view (Sits t.log (get_or s.words 0 0)) (sits t.log (get_or s.words 0 0) (t.sits id v at) (t.sits other w was))
              record {
                seen = (t.log, refl);
                told = (t.log, refl);
                mine = λ h. absurd (off h);
                others = λ k q here. absurd (some-ne-none q (sym here));
                few =
                    omega arith;
                holds = λ h. absurd (off h);
              } t.sits;
          slot = ⊎_elim (λ home. inl home) (λ (o : (s.homes ≡ none ∷ []) × Out s.views). inr (
            o.0,
            out_set (set s.views id both) other w spent there (λ h. absurd (off (sym calm ∙ h)))
                (out_set s.views id v both at (λ h. still ∙ h) o.1),
          )) t.slot;
        };
      }

-- a note is learnt
pub learns : (plan : Plan) (id : ℕ) (v : View) (other : ℕ) (w : View) (plan' : Plan) (log : List Entry) → w ≡ telling plan' log
    → Joins (Kept plan) id v other w (told_too v w) spent
learns plan id v other w plan' log is = joined plan id v other w (told_too v w) (ap (λ (x : View). x.holding) is) refl refl refl (λ f. let z : each f w ≡ 0 =
    ap (each f) is in omega arith) (ap (λ (x : View). x.ticket) is) refl
    (λ all serving y z. record { seen = y.seen; told = z.seen; mine = y.mine; others = y.others; few = y.few; holds = y.holds })

-- a seat between two turns is taken in by another
pub gathers : (plan : Plan) (id : ℕ) (v : View) (other : ℕ) (w : View) → w.live ≡ true → w.joined ≡ [] → w.ticket ≡ None → w.holding ≡ false
    → Joins (Kept plan) id v other w (gathered v w) spent
gathers plan id v other w live alone no_ticket no_hold =
    let sums : (f : Part → ℕ) → each f (gathered v w) ≡ each f v + each f w = λ f. let a = total_append f v.joined (w.own ∷ []) in let b =
    each_seat f w live alone in omega arith in
    joined plan id v other w (gathered v w) no_hold refl refl refl sums no_ticket refl
    (λ log serving y z. record {
      seen = y.seen;
      told = y.told;
      mine = y.mine;
      others = λ k p there. ⊎_elim (y.others k p) (λ (t : (k ≡ length v.joined) × (w.own ≡ p)). subst (Knows log) t.1 (z.seen, z.mine live))
          (at_end v.joined w.own p k there);
      few = let a = sums made in let b = sums one in let c = y.few in let d = z.few in let e : waits w.ticket ≡ 0 = ap waits no_ticket in omega arith;
      holds = y.holds;
    })
