-- A new table meets the rule, and so it does while its seats are split from the first.
use Rattle.std.proofs.Common.{◌≡◌, ℕ, zero, suc, ◌+◌, ◌-◌, ◌<◌, ◌≤◌, true, List, [], ◌∷◌, ◌++◌, set, get_or, Some, refl, sym, ap, ◌∙◌, subst, ⊎_elim, inl, inr}
use Rattle.std.proofs.Common.{arith}
use Rattle.std.specs.FinSet.{empty}
use Rattle.shard_board.specs.declared.error.TheConstants.{MAX_SHARDS, MAX_SEATS}
use Rattle.std.specs.Prelude.{◌==◌, ◌&&◌, min, ltb, leb}
use mathlib.Core.Option.{some, none, some-ne-none, some-injective}
use lib.ListN.{get_elem?}
use Rattle.std.proofs.lemmas.Bool.Decides.{nat_tests}
use Rattle.atomic_table.specs.Table.{Splits, opening}
use Rattle.atomic_table.proofs.Lists.{at_snoc, at_longer}
use Rattle.shard_board.specs.declared.rule.Part.{Part}
use Rattle.shard_board.specs.declared.rule.View.{View}
use Rattle.shard_board.specs.declared.rule.Plan.{Plan}
use Rattle.shard_board.specs.Sums.{tick, total, each, one}
use Rattle.shard_board.specs.Claiming.{numbered, refusals, claimed, once_below, blank_part, blank_parts, first_view, Numbers, Claims, Kept, tail_of, head_or}
use Rattle.shard_board.specs.Claiming.{keeps_rest, new_seat}
use Rattle.shard_board.proofs.TotalLemmas.{total_set, total_append}
use Rattle.shard_board.specs.Turning.{book_with, from_to, made, drawn, in_line, Knows, Sits}
use Rattle.shard_board.proofs.TakeLemmas.{views_set, off, out_set, Out}

total_nothing : (f : Part → ℕ) → ((n : ℕ) → f (blank_part n) ≡ 0) → (k n : ℕ) → total f (blank_parts k n) ≡ 0
total_nothing f h k zero = refl
total_nothing f h k (suc n) = let a = h k in let r = total_nothing f h (suc k) n in omega arith

total_one : (k n : ℕ) → total one (blank_parts k n) ≡ n
total_one k zero = refl
total_one k (suc n) = let r = total_one (suc k) n in omega arith

between_more : (x k n : ℕ) → tick (k == x) + tick (leb (suc k) x && ltb x (suc k + n)) ≡ tick (leb k x && ltb x (k + suc n))
between_more x k n = grind (arith, nat_tests)

between_none : (x k : ℕ) → tick (leb k x && ltb x (k + 0)) ≡ 0
between_none x k = grind (arith, nat_tests)

total_numbered : (x k n : ℕ) → total (numbered x) (blank_parts k n) ≡ tick (leb k x && ltb x (k + n))
total_numbered x k zero = sym (between_none x k)
total_numbered x k (suc n) = let r = total_numbered x (suc k) n in let b = between_more x k n in omega arith

below_more : (x n : ℕ) → tick (n == x) + tick (leb 0 x && ltb x (0 + n)) ≡ tick (ltb x (n + 1))
below_more x n = grind (arith, nat_tests)

blank_known : (k n i : ℕ) (p : Part) → get_elem? (blank_parts k n) i ≡ some p → Knows [] p
blank_known k zero i p e = absurd (some-ne-none p (sym e))
blank_known k (suc n) zero p e = subst (Knows []) (some-injective (blank_part k) p e) (([], refl), refl)
blank_known k (suc n) (suc i) p e = blank_known (suc k) n i p e

pub none_made : (k n : ℕ) → total made (blank_parts k n) ≡ 0
none_made k n = total_nothing made (λ m. refl) k n

pub opens : (plan : Plan) → 0 < plan.seats → plan.seats ≤ MAX_SEATS → plan.shards ≤ MAX_SHARDS
    → Kept plan (opening (0 ∷ 0 ∷ 0 ∷ []) (Some (book_with plan empty) ∷ []) (first_view plan))
opens plan some_seat few short =
    let rest : List Part = blank_parts 0 (plan.seats - 1) in
    record {
      wide = refl;
      numbers = record {
        few = few;
        short = short;
        counted = let r = total_one 0 (plan.seats - 1) in omega arith;
        differ = λ x. let r = total_numbered x 0 (plan.seats - 1) in let b = below_more x (plan.seats - 1) in
            let e : once_below x ((plan.seats - 1) + 1) ≡ once_below x plan.seats = ap (once_below x) (omega arith) in omega arith;
        knows = knows;
      };
      claims = record {
        once = λ x. let r = total_nothing (claimed x) (λ n. refl) 0 (plan.seats - 1) in let z : once_below x (min 0 plan.shards) ≡ 0 =
            grind (arith, nat_tests) in omega arith;
        most = omega arith;
        over = λ h. let r = total_nothing refusals (λ n. refl) 0 (plan.seats - 1) in absurd (omega arith);
      };
      turns = record {
        log = [];
        legal = tt;
        long = refl;
        given = λ k e at. absurd (some-ne-none e (sym at));
        ahead = omega arith;
        drew = let r = total_nothing made (λ n. refl) 0 (plan.seats - 1) in omega arith;
        line = λ x. let z : from_to x 0 0 ≡ 0 = grind (arith, nat_tests) in omega arith;
        sits = sits;
        slot = inl refl;
      };
    }
  where
    sits : (j : ℕ) (v : View) → get_elem? (first_view plan ∷ []) j ≡ some v → Sits [] 0 v
    sits zero v e = subst (Sits [] 0) (some-injective (first_view plan) v e)
        record {
          seen = ([], refl);
          told = ([], refl);
          mine = λ _. refl;
          others = blank_known 0 (plan.seats - 1);
          few = let r = total_nothing made (λ n. refl) 0 (plan.seats - 1) in omega arith;
          holds = λ h. absurd (off h);
        }
    sits (suc j) v e = absurd (some-ne-none v (sym e))

    knows : (j : ℕ) (v : View) → get_elem? (first_view plan ∷ []) j ≡ some v → v.live ≡ true → v.plan ≡ plan
    knows zero v e _ = ap (λ (u : View). u.plan) (sym (some-injective (first_view plan) v e))
    knows (suc j) v e _ = absurd (some-ne-none v (sym e))

-- the sums stay where a part goes from one view to a new one
pub numbers_same : (plan : Plan) (views views' : List View) → ((f : Part → ℕ) → total (each f) views' ≡ total (each f) views)
    → ((j : ℕ) (v : View) → get_elem? views' j ≡ some v → v.live ≡ true → v.plan ≡ plan) → Numbers plan views → Numbers plan views'
numbers_same plan views views' same knows n = record {
  few = n.few;
  short = n.short;
  counted = same one ∙ n.counted;
  differ = λ x. same (numbered x) ∙ n.differ x;
  knows = knows;
}

pub claims_same : (plan : Plan) (next : ℕ) (views views' : List View) → ((f : Part → ℕ) → total (each f) views' ≡ total (each f) views)
    → Claims plan next views → Claims plan next views'
claims_same plan next views views' same c = record {
  once = λ x. same (claimed x) ∙ c.once x;
  most = let s = same refusals in let m = c.most in omega arith;
  over = λ h. let s = same refusals in c.over (omega arith);
}

-- one view cut in two
pub total_cut : (f : View → ℕ) (views : List View) (i : ℕ) (v left right : View) → get_elem? views i ≡ some v → f left + f right ≡ f v
    → total f (set views i left ++ right ∷ []) ≡ total f views
total_cut f views i v left right at e = let s = total_set f views i v left at in let a = total_append f (set views i left) (right ∷ []) in omega arith

each_cut : (f : Part → ℕ) (v : View) (p : Part) (ps : List Part) → v.joined ≡ p ∷ ps → each f (keeps_rest v) + each f (new_seat v) ≡ each f v
each_cut f v p ps e = rw e (omega arith)

pub out_longer : (views : List View) (w : View) → Out views → Out (views ++ w ∷ [])
out_longer views w o = (o.0, (o.1.0, (at_longer views (w ∷ []) o.0 o.1.0 o.1.1.0, o.1.1.1)))

-- a seat that has drawn no ticket gives one of its parts to a new seat
pub gives : (plan : Plan) (id : ℕ) (v : View) (p : Part) (ps : List Part) → v.live ≡ true → v.joined ≡ p ∷ ps → drawn v ≡ 0
    → Splits (Kept plan) id v (keeps_rest v) (new_seat v)
gives plan id v p ps live e idle s r at =
    let views' : List View = set s.views id (keeps_rest v) ++ new_seat v ∷ [] in
    let same = λ (f : Part → ℕ). total_cut (each f) s.views id v (keeps_rest v) (new_seat v) at (each_cut f v p ps e) in
    let known = r.numbers.knows id v at live in
    let t = r.turns in
    let cut : drawn (keeps_rest v) + drawn (new_seat v) ≡ drawn v = (let c = each_cut made v p ps e in omega arith) in
    let y = t.sits id v at in
    let next : (k : ℕ) → get_elem? (tail_of v.joined) k ≡ get_elem? v.joined (suc k) = λ k. ap (λ (q : List Part). get_elem? (tail_of q) k) e
    ∙ ap (λ (q : List Part). get_elem? q (suc k)) (sym e) in
    let here : get_elem? v.joined 0 ≡ some (head_or v.own v.joined) = ap (λ (q : List Part). get_elem? q 0) e
    ∙ ap (λ (q : List Part). some (head_or v.own q)) (sym e) in
    let first = y.others 0 (head_or v.own v.joined) here in
    let left : Sits t.log (get_or s.words 0 0) (keeps_rest v) =
    record {
      seen = y.seen;
      told = y.told;
      mine = y.mine;
      others = λ k q there. y.others (suc k) q (sym (next k) ∙ there);
      few = omega arith;
      holds =
          y.holds;
    } in
    let right : Sits t.log (get_or s.words 0 0) (new_seat v) =
    record {
      seen = first.0;
      told = (t.log, refl);
      mine = λ _. first.1;
      others = λ k q there. absurd (some-ne-none q (sym there));
      few = omega arith;
      holds = λ h. absurd (off h);
    } in
    let each_view = λ (P : View → Type 0) (l : P (keeps_rest v)) (n : P (new_seat v)) (o : (j : ℕ) (u : View) → get_elem? s.views j ≡ some u → P u) (j : ℕ)
    (u : View) (was : get_elem? views' j ≡ some u).
    ⊎_elim (λ old. views_set P s.views id (keeps_rest v) l (λ k x _. o k x) j u old) (λ (new : new_seat v ≡ u). subst P new n)
    (at_snoc (set s.views id (keeps_rest v)) (new_seat v) u j was) in record {
      wide = r.wide;
      numbers = numbers_same plan s.views views' same (each_view (λ x. x.live ≡ true → x.plan ≡ plan) (λ _. known) (λ _. known) r.numbers.knows) r.numbers;
      claims = claims_same plan (get_or s.words 2 0) s.views views' same r.claims;
      turns = record {
        log = t.log;
        legal = t.legal;
        long = t.long;
        given = t.given;
        ahead = t.ahead;
        drew = t.drew ∙ sym (total_cut drawn s.views id v (keeps_rest v) (new_seat v) at cut);
        line = λ x. total_cut (in_line x) s.views id v (keeps_rest v) (new_seat v) at (omega arith) ∙ t.line x;
        sits = each_view (Sits t.log (get_or s.words 0 0)) left right t.sits;
        slot = ⊎_elim (λ home. inl home) (λ (o : (s.homes ≡ none ∷ []) × Out s.views). inr
            (o.0, out_longer (set s.views id (keeps_rest v)) (new_seat v) (out_set s.views id v (keeps_rest v) at (λ h. h) o.1))) t.slot;
      };
    }

pub more_parts : (k n : ℕ) → k < n → blank_parts k (n - k) ≡ blank_part k ∷ blank_parts (k + 1) (n - (k + 1))
more_parts k n h = let e : n - k ≡ suc (n - (k + 1)) = omega arith in let f : suc k ≡ k + 1 = omega arith in ap (blank_parts k) e
    ∙ ap (λ (z : ℕ). blank_part k ∷ blank_parts z (n - (k + 1))) f
