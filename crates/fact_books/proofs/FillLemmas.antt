-- A stretch of ranks of which the same runs say all.
use Rattle.std.proofs.Common.{◌≡◌, refl, sym, ap, subst, ◌∙◌, ℕ, zero, suc, ◌+◌, ◌-◌, ◌<◌, ◌≤◌, List, [], ◌∷◌, ◌++◌, append_assoc, append-nil, length, get_or}
use Rattle.std.proofs.Common.{take, Option, Some, None, inl, inr, ◌⊎◌, arith, Ok, Err}
use Rattle.std.proofs.lemmas.List.{take_more}
use Rattle.std.specs.List.{list_any}
use Rattle.std.specs.FinSet.{contains}
use Rattle.rank_facts.specs.Values.{IsValue}
use Rattle.rank_facts.specs.declared.fact.Fact.{Fact}
use Rattle.fact_books.specs.declared.run.Run.{Run}
use Rattle.fact_books.specs.declared.run.Tag.{Tag}
use Rattle.fact_books.specs.declared.run.Tag.TheVariants.{Ran}
use Rattle.fact_books.specs.declared.leading.Lead.{Lead}
use Rattle.fact_books.specs.declared.leading.Lead.TheVariants.{Value, From, Nowhere}
use Rattle.fact_books.specs.declared.judging.Verdict.{Verdict}
use Rattle.fact_books.specs.declared.judging.Verdict.TheVariants.{Nothing, One, Several}
use Rattle.fact_books.specs.declared.error.ReportError.{ReportError}
use Rattle.fact_books.specs.declared.error.ReportError.TheVariants.{Missing, Clash}
use Rattle.fact_books.specs.Entries.{Told, FactSet, recorded}
use Rattle.fact_books.specs.Runs.{Table}
use Rattle.fact_books.specs.Values.{Leads, HasOne, OneBelow}
use Rattle.fact_books.specs.Sweep.{LeadsDown, IsDone, values_of, AllBelow, LeadsFrom, IsLead, AreLeads, IsIn, tag_vote, IsVerdict, IsOneOf, OnlyRan, GoesTo}
use Rattle.fact_books.specs.Sweep.{copies}
use Rattle.fact_books.specs.Sweep.{states, IsStretch, IsStop, FillsStretch, StopsStretch}
use Rattle.fact_books.proofs.ValueLemmas.{done-more}
use Rattle.fact_books.proofs.VerdictLemmas.{in-push, verdict-one, verdict-none, verdict-clash, ran-one}

-- ---- numbers and their values

pub values-at : (t : Table) (done : List ℕ) (b d : ℕ) → b < length done → get_or (values_of t done) b [] ≡ get_or t (get_or done b d) []
values-at t [] b d lt = absurd (omega (arith, lt))
values-at t (x ∷ xs) zero d lt = refl
values-at t (x ∷ xs) (suc b) d lt = values-at t xs b d (omega (arith, lt))

pub values-length : (t : Table) (done : List ℕ) → length (values_of t done) ≡ length done
values-length t [] = refl
values-length t (x ∷ xs) = ap suc (values-length t xs)

pub values-append : (t : Table) (xs ys : List ℕ) → values_of t (xs ++ ys) ≡ values_of t xs ++ values_of t ys
values-append t [] ys = refl
values-append t (x ∷ xs) ys = ap (λ l. get_or t x [] ∷ l) (values-append t xs ys)

pub below-at : (n : ℕ) (xs : List ℕ) (i d : ℕ) → i < length xs → AllBelow n xs → get_or xs i d < n
below-at n [] i d lt a = absurd (omega (arith, lt))
below-at n (x ∷ xs) zero d lt a = a.0
below-at n (x ∷ xs) (suc i) d lt a = below-at n xs i d (omega (arith, lt)) a.1

pub below-append : (n : ℕ) (xs ys : List ℕ) → AllBelow n xs → AllBelow n ys → AllBelow n (xs ++ ys)
below-append n [] ys a b = b
below-append n (x ∷ xs) ys a b = (a.0, below-append n xs ys a.1 b)

pub below-copies : (n x k : ℕ) → x < n → AllBelow n (copies x k)
below-copies n x zero lt = tt
below-copies n x (suc k) lt = (lt, below-copies n x k lt)

pub copies-length : (x k : ℕ) → length (copies x k) ≡ k
copies-length x zero = refl
copies-length x (suc k) = ap suc (copies-length x k)

pub copies-push : (x k : ℕ) → copies x k ++ x ∷ [] ≡ copies x (k + 1)
copies-push x k = let n : k + 1 ≡ suc k = omega arith in rw n (by k)
  where
    by : (k : ℕ) → copies x k ++ x ∷ [] ≡ copies x (suc k)
    by zero = refl
    by (suc k) = ap (λ l. x ∷ l) (by k)

-- ---- leads

-- fewer ranks have the lead too
lead-less : (leads : Leads) (first last end : ℕ) (tag : Tag) (l : Lead) → end ≤ last → IsLead leads first last tag l → IsLead leads first end tag l
lead-less leads first last end tag (Value n) le h = h
lead-less leads first last end tag (From b) le h = (h.0, h.1, λ i lt. h.2 i (omega (arith, lt, le)))
lead-less leads first last end tag Nowhere le h = (h.0, h.1, λ i lt. h.2 i (omega (arith, lt, le)))

leads-less : (leads : Leads) (first last end : ℕ) (runs : List Run) (ls : List Lead) → end ≤ last → AreLeads leads first last runs ls
    → AreLeads leads first end runs ls
leads-less leads first last end [] [] le h = tt
leads-less leads first last end [] (l ∷ ls) le h = absurd h
leads-less leads first last end (run ∷ runs) [] le h = absurd h
leads-less leads first last end (run ∷ runs) (l ∷ ls) le h = (lead-less leads first last end run.tag l le h.0, leads-less leads first last end runs ls le h.1)

leads-push : (leads : Leads) (first last : ℕ) (runs : List Run) (ls : List Lead) (run : Run) (l : Lead) → AreLeads leads first last runs ls
    → IsLead leads first last run.tag l
    → AreLeads leads first last (runs ++ run ∷ []) (ls ++ l ∷ [])
leads-push leads first last [] [] run l h k = (k, tt)
leads-push leads first last [] (m ∷ ms) run l h k = absurd h
leads-push leads first last (x ∷ xs) [] run l h k = absurd h
leads-push leads first last (x ∷ xs) (m ∷ ms) run l h k = (h.0, leads-push leads first last xs ms run l h.1 k)

pub leads-more : (leads : Leads) (first last end : ℕ) (runs : List Run) (i : ℕ) (d : Run) (ls new : List Lead) (l : Lead) → i < length runs → end ≤ last
    → AreLeads leads first last (take i runs) ls → IsLead leads first end (get_or runs i d).tag l → new ≡ ls ++ l ∷ []
    → AreLeads leads first end (take (i + 1) runs) new
leads-more leads first last end runs i d ls new l lt few h k is =
    subst (λ rs. AreLeads leads first end rs new) (sym (take_more runs i d lt))
    (subst (AreLeads leads first end (take i runs ++ get_or runs i d ∷ [])) (sym is)
    (leads-push leads first end (take i runs) ls (get_or runs i d) l (leads-less leads first last end (take i runs) ls few h) k))

pub leads-length : (leads : Leads) (first last : ℕ) (runs : List Run) (ls : List Lead) → AreLeads leads first last runs ls → length ls ≡ length runs
leads-length leads first last [] [] h = refl
leads-length leads first last [] (l ∷ ls) h = absurd h
leads-length leads first last (run ∷ runs) [] h = absurd h
leads-length leads first last (run ∷ runs) (l ∷ ls) h = ap suc (leads-length leads first last runs ls h.1)

pub leads-at : (leads : Leads) (first last : ℕ) (runs : List Run) (ls : List Lead) (i : ℕ) (d : Run) (e : Lead) → i < length runs
    → AreLeads leads first last runs ls
    → IsLead leads first last (get_or runs i d).tag (get_or ls i e)
leads-at leads first last [] ls i d e lt h = absurd (omega (arith, lt))
leads-at leads first last (run ∷ runs) [] i d e lt h = absurd h
leads-at leads first last (run ∷ runs) (l ∷ ls) zero d e lt h = h.0
leads-at leads first last (run ∷ runs) (l ∷ ls) (suc i) d e lt h = leads-at leads first last runs ls i d e (omega (arith, lt)) h.1

-- where the next rank leads
lead-next : (leads : Leads) (first last n k b : ℕ) → first ≤ n → n < last → LeadsFrom leads first last k b → leads n k ≡ Some (b + (n - first))
lead-next leads first last n k b le lt h = let is : first + (n - first) ≡ n =
    omega (arith, le) in subst (λ m. leads m k ≡ Some (b + (n - first))) is (h (n - first) (omega (arith, le, lt)))

pub from-below : (leads : Leads) (down : LeadsDown leads) (first last n b : ℕ) (tag : Tag) → first ≤ n → n < last → IsLead leads first last tag (From b)
    → b + (n - first) < n
from-below leads down first last n b tag le lt h = down n h.0 (b + (n - first)) (lead-next leads first last n h.0 b le lt h.2)

pub vote-from : (t : Table) (leads : Leads) (down : LeadsDown leads) (done : List ℕ) (first last b : ℕ) (tag : Tag) (d : ℕ) → first ≤ length done
    → length done < last
    → IsLead leads first last tag (From b) → AllBelow (length t) done
    → (get_or done (b + (length done - first)) d < length t)
    × (tag_vote t leads (values_of t done) (length done) tag ≡ Some (get_or t (get_or done (b + (length done - first)) d) []))
vote-from t leads down done first last b tag d le lt h below =
    let n = b + (length done - first) in
    let less = from-below leads down first last (length done) b tag le lt h in
    let e = lead-next leads first last (length done) h.0 b le lt h.2 in (
      below-at (length t) done n d less below,
      subst (λ g. tag_vote t leads (values_of t done) (length done) g ≡ Some (get_or t (get_or done n d) [])) (sym h.1)
          (subst (λ o. ◌≡◌ {A = Option Told} (elim o [ None ↦ None | Some c ↦ Some (get_or (values_of t done) c []) ]) (Some (get_or t (get_or done n d) [])))
          (sym e)
          (ap Some (values-at t done n d less))),
    )

pub vote-nowhere : (t : Table) (leads : Leads) (done : List ℕ) (first last : ℕ) (tag : Tag) → first ≤ length done → length done < last
    → IsLead leads first last tag Nowhere
    → tag_vote t leads (values_of t done) (length done) tag ≡ None
vote-nowhere t leads done first last tag le lt h =
    let is : first + (length done - first) ≡ length done = omega (arith, le) in
    let e : leads (length done) h.0 ≡ None = subst (λ m. leads m h.0 ≡ None) is (h.2 (length done - first) (omega (arith, le, lt))) in
    subst (λ g. tag_vote t leads (values_of t done) (length done) g ≡ None) (sym h.1)
    (subst (λ o. ◌≡◌ {A = Option Told} (elim o [ None ↦ None | Some c ↦ Some (get_or (values_of t done) c []) ]) None) (sym e) refl)

-- more ranks with one value
pub done-many : (s : FactSet) (t : Table) (leads : Leads) (down : LeadsDown leads) (n k : ℕ) (done : List ℕ) → IsDone s leads (values_of t done)
    → ((r : ℕ) → length done ≤ r → r < length done + k → HasOne s leads r (get_or t n [])) → IsDone s leads (values_of t (done ++ copies n k))
done-many s t leads down n zero done so_far h = subst (λ l. IsDone s leads (values_of t l)) (sym (append-nil done)) so_far
done-many s t leads down n (suc k) done so_far h =
    subst (λ l. IsDone s leads (values_of t l)) (append_assoc done (n ∷ []) (copies n k))
    (done-many s t leads down n k (done ++ n ∷ []) next (λ r a b. h r (omega (arith, a, long)) (omega (arith, b, long))))
  where
    long : length (done ++ n ∷ []) ≡ suc (length done)
    long = by done
      where
        by : (xs : List ℕ) → length (xs ++ n ∷ []) ≡ suc (length xs)
        by [] = refl
        by (x ∷ xs) = ap suc (by xs)

    next : IsDone s leads (values_of t (done ++ n ∷ []))
    next =
        subst (IsDone s leads) (sym (values-append t done (n ∷ [])))
        (done-more s leads (values_of t done) (get_or t n []) so_far
        (subst (λ r. HasOne s leads r (get_or t n [])) (sym (values-length t done)) (h (length done) (omega arith) (omega arith))))

pub only-step : (active : List Run) (i n : ℕ) (d : Run) → i < length active → OnlyRan (take i active) → (get_or active i d).tag ≡ Ran n
    → OnlyRan (take (i + 1) active)
only-step active i n d lt h e run j = on (in-push (take i active) (get_or active i d) run (subst (IsIn run) (take_more active i d lt) j))
  where
    on : IsIn run (take i active) ⊎ (run ≡ get_or active i d) → (m : ℕ) × (run.tag ≡ Ran m)
    on (inl k) = h run k
    on (inr f) = (n, ap (λ (r : Run). r.tag) f ∙ e)

-- ---- a stretch

at-length : (t : Table) (leads : Leads) (down : LeadsDown leads) (active : List Run) (done : List ℕ) (v : Verdict)
    → IsVerdict t (tag_vote t leads (values_of t done) (length done)) active v
    → IsVerdict t (tag_vote t leads (values_of t done) (length (values_of t done))) active v
at-length t leads down active done v h = subst (λ n. IsVerdict t (tag_vote t leads (values_of t done) n) active v) (sym (values-length t done)) h

pub fill-stops : (t : Table) (leads : Leads) (down : LeadsDown leads) (active : List Run) (until : ℕ) (old done : List ℕ) (v : Verdict) (e : ReportError)
    → FillsStretch t leads active until old done
    → length old ≤ length done → length done < until → IsVerdict t (tag_vote t leads (values_of t done) (length done)) active v
    → IsOneOf v (length done) (Err e) → StopsStretch t leads active until old e
fill-stops t leads down active until old done v e fills low lt h one s ranks few stretch so_far = on v (at-length t leads down active done v h) one
  where
    now : IsDone s leads (values_of t done)
    now = fills s stretch so_far

    says : (f : Fact) → contains s (length (values_of t done), f) ≡ list_any (states t f) active
    says f = ap (λ n. contains s (n, f)) (values-length t done) ∙ stretch (length done) low lt f

    under : OneBelow s leads (length done)
    under r l = (get_or (values_of t done) r [], now r (let n = values-length t done in omega (arith, l, n)))

    on : (v : Verdict) → IsVerdict t (tag_vote t leads (values_of t done) (length (values_of t done))) active v → IsOneOf v (length done) (Err e)
        → IsStop s leads ranks e
    on Nothing w is =
        let same : e ≡ Missing (length done) = cc in
        subst (IsStop s leads ranks) (sym same)
        (record {
          inside = omega (arith, lt, few);
          below = under;
          none = λ o x. verdict-none s t leads down active (values_of t done) now says w o
              (subst (λ n. IsValue (recorded s) leads n o) (sym (values-length t done)) x);
        })
    on (One n) w is = cc
    on Several w is =
        let same : e ≡ Clash (length done) = cc in
        let c = verdict-clash s t leads down active (values_of t done) now says w in
        subst (IsStop s leads ranks) (sym same)
        (record {
          inside = omega (arith, lt, few);
          below = under;
          two = (
            c.0,
            c.1,
            subst (λ n. IsValue (recorded s) leads n c.0) (values-length t done) c.2,
            subst (λ n. IsValue (recorded s) leads n c.1)
                (values-length t done) c.3,
            c.4,
          );
        })

pub fill-step : (t : Table) (leads : Leads) (down : LeadsDown leads) (active : List Run) (until : ℕ) (old done : List ℕ) (n last : ℕ)
    → FillsStretch t leads active until old done
    → length old ≤ length done → IsVerdict t (tag_vote t leads (values_of t done) (length done)) active (One n) → GoesTo active (length done) until last
    → FillsStretch t leads active until old (done ++ copies n (last - length done))
fill-step t leads down active until old done n last fills low h to s stretch so_far =
    done-many s t leads down n (last - length done) done now (λ r a b. at r a (let p = to.0 in omega (arith, b, p)) to.2)
  where
    now : IsDone s leads (values_of t done)
    now = fills s stretch so_far

    at : (r : ℕ) → length done ≤ r → r < last → (last ≡ length done + 1) ⊎ OnlyRan active → HasOne s leads r (get_or t n [])
    at r a b (inl e) =
        let w = at-length t leads down active done (One n) h in
        let p = to.1 in
        let q = to.0 in
        let one = verdict-one s t leads down active (values_of t done) now
        (λ f. ap (λ m. contains s (m, f)) (values-length t done) ∙ stretch (length done) low (omega (arith, p, q)) f) n w in
        let is : length (values_of t done) ≡ r = let v = values-length t done in omega (arith, v, a, b, e) in
        subst (λ m. HasOne s leads m (get_or t n [])) is one
    at r a b (inr only) =
        let p = to.1 in
        ran-one s t leads down active (values_of t done) n r only (at-length t leads down active done (One n) h)
        (λ f. stretch r (omega (arith, low, a)) (omega (arith, b, p)) f)

filled-length : (done : List ℕ) (n k : ℕ) → length (done ++ copies n k) ≡ length done + k
filled-length [] n k = let e = copies-length n k in omega (arith, e)
filled-length (x ∷ xs) n k = let e = filled-length xs n k in omega (arith, e)

pub length-to : (done : List ℕ) (n last : ℕ) → length done ≤ last → length (done ++ copies n (last - length done)) ≡ last
length-to done n last le = let e = filled-length done n (last - length done) in omega (arith, e, le)

-- ---- a stretch after another one

less-stretch : (s : FactSet) (t : Table) (active : List Run) (low until a b : ℕ) → low ≤ a → b ≤ until → IsStretch s t active low until
    → IsStretch s t active a b
less-stretch s t active low until a b p q h r l m = h r (omega (arith, l, p)) (omega (arith, m, q))

pub fills-trans : (t : Table) (leads : Leads) (active : List Run) (until last : ℕ) (old done new : List ℕ) → length old ≤ length done → last ≤ until
    → FillsStretch t leads active until old done → FillsStretch t leads active last done new → FillsStretch t leads active until old new
fills-trans t leads active until last old done new low few f g s stretch so_far =
    g s (less-stretch s t active (length old) until (length done) last low few stretch) (f s stretch so_far)

pub fills-stops : (t : Table) (leads : Leads) (active : List Run) (until last : ℕ) (old done : List ℕ) (e : ReportError) → length old ≤ length done
    → last ≤ until
    → FillsStretch t leads active until old done → StopsStretch t leads active last done e → StopsStretch t leads active until old e
fills-stops t leads active until last old done e low few f g s count le stretch so_far =
    g s count (omega (arith, few, le)) (less-stretch s t active (length old) until (length done) last low few stretch) (f s stretch so_far)

-- nothing is filled yet
pub fills-none : (t : Table) (leads : Leads) (active : List Run) (until : ℕ) (old : List ℕ) → FillsStretch t leads active until old old
fills-none t leads active until old s stretch so_far = so_far

-- ---- numbers one after another

pub extend-step : (old done new : List ℕ) (n last : ℕ) → done ≡ old ++ copies n (length done - length old) → (length old ≤ length done) × (length done ≤ last)
    → new ≡ done ++ n ∷ [] → length done < last
    → (new ≡ old ++ copies n (length new - length old)) × (length old ≤ length new) × (length new ≤ last)
extend-step old done new n last is low e lt =
    let long : length new ≡ length done + 1 = ap length e ∙ filled-length done n 1 in
    let count : length new - length old ≡ (length done - length old) + 1 = let p = low.0 in omega (arith, long, p) in (
      e ∙ ap (λ l. l ++ n ∷ []) is ∙ append_assoc old (copies n (length done - length old)) (n ∷ [])
          ∙ ap (λ l. old ++ l) (copies-push n (length done - length old) ∙ ap (copies n) (sym count)),
      let p = low.0 in omega (arith, long, p),
      omega (arith, long, lt),
    )

pub one-of-ok : (v : Verdict) (r n : ℕ) → IsOneOf v r (Ok n) → v ≡ One n
one-of-ok Nothing r n e = cc
one-of-ok (One m) r n e = cc
one-of-ok Several r n e = cc
