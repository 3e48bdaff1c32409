-- Runs that come one behind the other, made the longest in one pass.
use Rattle.std.proofs.Common.{◌≡◌, refl, sym, ap, subst, ◌∙◌, ℕ, ◌+◌, ◌-◌, ◌<◌, ◌≤◌, max, Bool, true, false, cond, ltb, eqb, ◌||◌, List, [], ◌∷◌}
use Rattle.std.proofs.Math.Bool.{or_assoc, or-false}
use Rattle.std.proofs.Common.{◌++◌, length, get_or, take, inl, inr, ◌⊎◌, arith, lt-ltb}
use Rattle.std.proofs.lemmas.List.{get_or_default}
use Rattle.std.specs.List.{list_any}
use Rattle.std.specs.Ordering.{nat_cmp, ordering_then}
use Rattle.std.specs.declared.cmp.Ordering.{Ordering}
use Rattle.std.specs.declared.cmp.Ordering.TheVariants.{Less, Equal, Greater}
use Rattle.fact_books.specs.declared.run.Run.{Run}
use Rattle.fact_books.specs.Entries.{Entry}
use Rattle.fact_books.specs.Runs.{Table, has, IsSound, AllSound}
use Rattle.fact_books.specs.Sweep.{IsIn}
use Rattle.fact_books.proofs.RunLemmas.{has-grown, AllSound-push, AllSound-at}
use Rattle.fact_books.proofs.VerdictLemmas.{in-push}
use Rattle.fact_books.proofs.SweepLemmas.{any-push, any-taken, take-past}
use Rattle.book_format.specs.Forms.{AllAfter, Rises, IsLater}
use Rattle.book_format.specs.Canonical.{AreInTurn, IsBefore, IsJoiningInTurn}
use Rattle.book_format.proofs.CanonicalLemmas.{rises-push, sound-last}

lt-less : (a b : ℕ) (o : Ordering) → a < b → ordering_then (nat_cmp a b) o ≡ Less
lt-less a b o lt = on (ltb a b) (lt-ltb a b lt)
  where
    on : (x : Bool) → x ≡ true → ordering_then (cond x Less (cond (eqb a b) Equal Greater)) o ≡ Less
    on true e = refl
    on false e = cc

-- what is over before another begins comes earlier
later : (x y : Run) → IsBefore x y → IsLater x y
later x y b = record { later = lt-less x.first y.first _ b.firsts; apart = b.apart }

rises-later : (xs : List Run) → Rises IsBefore xs → Rises IsLater xs
rises-later [] r = tt
rises-later (x ∷ xs) r = (after xs r.0, rises-later xs r.1)
  where
    after : (ys : List Run) → AllAfter IsBefore x ys → AllAfter IsLater x ys
    after [] a = tt
    after (y ∷ ys) a = (later x y a.0, after ys a.1)

-- the first run is in hand
pub turn-start : (runs : List Run) (d current : Run) → 0 < length runs → current ≡ get_or runs 0 d → IsJoiningInTurn runs 1 [] current
turn-start [] d current lt is = absurd (omega (arith, lt))
turn-start (x ∷ xs) d current lt is = record {
  some = omega arith;
  apart = tt;
  before = λ z i. absurd i;
  facts = λ t e. ap (has t e) is ∙ sym (or-false (has t e x));
  sound = λ n a. (subst (IsSound n) (sym is) a.0, tt);
  last = λ k c one. ap (λ (r : Run). r.end) (is ∙ ap (λ m. get_or (x ∷ xs) m c) (let none : 0 ≡ k = omega (arith, one) in none));
}

-- the next run begins where the one in hand ends, or behind it
begins : (runs out : List Run) (i : ℕ) (current run d : Run) → i < length runs → run ≡ get_or runs i d → AreInTurn runs
    → IsJoiningInTurn runs i out current → current.end ≤ run.first
begins runs out i current run d lt is turn k =
    let some = k.some in
    let back : (i - 1) + 1 ≡ i = omega (arith, some) in
    let end = k.last (i - 1) d back in
    let le = subst (λ m. (get_or runs (i - 1) d).end ≤ (get_or runs m d).first) back (turn (i - 1) d (omega (arith, lt, some))) in
    let first : run.first ≡ (get_or runs i d).first = ap (λ (r : Run). r.first) is in
    omega (arith, end, le, first)

-- it is the last one then
ends : (runs : List Run) (i : ℕ) (run d : Run) → i < length runs → run ≡ get_or runs i d → (k : ℕ) (c : Run) → k + 1 ≡ i + 1 → run.end ≡ (get_or runs k c).end
ends runs i run d lt is k c e =
    let here : i ≡ k = omega (arith, e) in
    ap (λ (r : Run). r.end) (is ∙ get_or_default runs i d c lt ∙ ap (λ m. get_or runs m c) here)

-- a run that says the same and touches makes it longer
pub turn-grow : (runs out : List Run) (i : ℕ) (current run new d : Run) → i < length runs → run ≡ get_or runs i d → AreInTurn runs
    → (n : ℕ) → AllSound n runs → IsJoiningInTurn runs i out current → current.tag ≡ run.tag → run.first ≤ current.end
    → new.first ≡ current.first → new.end ≡ max current.end run.end → new.tag ≡ current.tag → IsJoiningInTurn runs (i + 1) out new
turn-grow runs out i current run new d lt is turn n all k same touch first end tag =
    subst (IsJoiningInTurn runs (i + 1) out) (λ j. record { first = sym first j; end = sym end j; tag = sym tag j }) (record {
      some = omega arith;
      apart = k.apart;
      before = λ x m. let p = k.before x m in record { firsts = p.firsts; ends = p.ends; apart = p.apart };
      facts = λ t e.
          ap (λ b. list_any (has t e) out || b) (has-grown t e current run same low touch)
          ∙ sym (or_assoc (list_any (has t e) out) (has t e current) (has t e run))
          ∙ (λ j. k.facts t e j || has t e (is j)) ∙ sym (any-taken (has t e) runs i d lt);
      sound = λ m a.
          let s = sound-last m out current (k.sound m a) in
          let x = s.1.1 in
          AllSound-push m out _ s.0 (s.1.0, omega (arith, x));
      last = λ m c e. longer ∙ ends runs i run d lt is m c e;
    })
  where
    mine : current.first < current.end
    mine = (sound-last n out current (k.sound n all)).1.1

    low : current.first ≤ run.first
    low = let le = begins runs out i current run d lt is turn k in omega (arith, le, mine)

    longer : max current.end run.end ≡ run.end
    longer =
        let le = begins runs out i current run d lt is turn k in
        let some = (subst (IsSound n) (sym is) (AllSound-at n runs i d lt all)).1 in
        omega (arith, le, some)

-- any other stands behind it
pub turn-push : (runs out : List Run) (i : ℕ) (current run d : Run) → i < length runs → run ≡ get_or runs i d → AreInTurn runs
    → (n : ℕ) → AllSound n runs → IsJoiningInTurn runs i out current → (current.tag ≡ run.tag → current.end < run.first)
    → IsJoiningInTurn runs (i + 1) (out ++ current ∷ []) run
turn-push runs out i current run d lt is turn n all k apart = record {
  some = omega arith;
  apart = rises-push IsBefore out current k.apart k.before;
  before = λ x m. on x (in-push out current x m);
  facts = λ t e. ap (λ b. b || has t e run) (any-push (has t e) out current ∙ k.facts t e)
      ∙ ap (λ r. list_any (has t e) (take i runs) || has t e r) is ∙ sym (any-taken (has t e) runs i d lt);
  sound = λ m a. AllSound-push m (out ++ current ∷ []) run (k.sound m a) (subst (IsSound m) (sym is) (AllSound-at m runs i d lt a));
  last = λ m c e. ends runs i run d lt is m c e;
}
  where
    mine : current.first < current.end
    mine = (sound-last n out current (k.sound n all)).1.1

    le : current.end ≤ run.first
    le = begins runs out i current run d lt is turn k

    on : (x : Run) → IsIn x out ⊎ (x ≡ current) → IsBefore x run
    on x (inl m) =
        let over = (k.before x m).ends in
        let firsts = (k.before x m).firsts in
        record { firsts = omega (arith, firsts, mine, le); ends = omega (arith, over, mine, le); apart = λ e. omega (arith, over, mine, le) }
    on x (inr e) = subst (λ z. IsBefore z run) (sym e) (record { firsts = omega (arith, mine, le); ends = le; apart = apart })

pub turn-rises : (runs out : List Run) (i : ℕ) (current : Run) → IsJoiningInTurn runs i out current → Rises IsLater (out ++ current ∷ [])
turn-rises runs out i current k = rises-later (out ++ current ∷ []) (rises-push IsBefore out current k.apart k.before)

pub turn-facts : (runs out : List Run) (i : ℕ) (current : Run) → length runs ≤ i → IsJoiningInTurn runs i out current → (t : Table) (e : Entry)
    → list_any (has t e) (out ++ current ∷ []) ≡ list_any (has t e) runs
turn-facts runs out i current past k t e = any-push (has t e) out current ∙ k.facts t e ∙ ap (list_any (has t e)) (take-past runs i past)
