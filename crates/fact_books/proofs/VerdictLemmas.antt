-- What the runs that cover a rank give it.
use Rattle.std.proofs.Common.{◌≡◌, refl, sym, ap, subst, ◌∙◌, ℕ, ◌<◌, Bool, true, false, ◌||◌, List, [], ◌∷◌, ◌++◌, length, get_or, Option, Some, None, inl}
use Rattle.std.proofs.Common.{inr, ◌⊎◌}
use Rattle.std.proofs.lemmas.Bool.{false≢true}
use Rattle.std.specs.Option.{MatchOption}
use Rattle.std.specs.List.{list_any}
use Rattle.std.specs.FinSet.{contains}
use Rattle.rank_facts.specs.Values.{IsValue, ran, swap}
use Rattle.rank_facts.specs.declared.fact.Fact.{Fact}
use Rattle.rank_facts.specs.declared.fact.Fact.TheVariants.{Ran as RanFact, Swap as SwapFact}
use Rattle.fact_books.specs.declared.run.Run.{Run}
use Rattle.fact_books.specs.declared.run.Tag.{Tag}
use Rattle.fact_books.specs.declared.run.Tag.TheVariants.{Ran}
use Rattle.fact_books.specs.declared.judging.Verdict.{Verdict}
use Rattle.fact_books.specs.declared.judging.Verdict.TheVariants.{Nothing, One, Several}
use Rattle.fact_books.specs.Entries.{Told, FactSet, recorded}
use Rattle.fact_books.specs.Runs.{Table, fact_in}
use Rattle.fact_books.specs.Values.{Leads, HasOne}
use Rattle.fact_books.specs.Sweep.{LeadsDown, IsDone, vote, tag_vote, IsIn, IsVerdict, IsWith, IsNamed, states, OnlyRan}
use Rattle.fact_books.proofs.Orders.{tied_facts}
use Rattle.fact_books.proofs.RunLemmas.{or_true_right}
use Rattle.fact_books.proofs.GapLemmas.{same_fact}
use Rattle.fact_books.proofs.ValueLemmas.{vote-value, value-vote}

-- ---- members

pub in-push : {A : Type 0} (xs : List A) (x a : A) → IsIn a (xs ++ x ∷ []) → IsIn a xs ⊎ (a ≡ x)
in-push [] x a (inl e) = inr e
in-push [] x a (inr i) = absurd i
in-push (y ∷ ys) x a (inl e) = inl (inl e)
in-push (y ∷ ys) x a (inr i) = on (in-push ys x a i)
  where
    on : IsIn a ys ⊎ (a ≡ x) → IsIn a (y ∷ ys) ⊎ (a ≡ x)
    on (inl j) = inl (inr j)
    on (inr e) = inr e

pub in-front : {A : Type 0} (xs ys : List A) (a : A) → IsIn a xs → IsIn a (xs ++ ys)
in-front [] ys a i = absurd i
in-front (x ∷ xs) ys a (inl e) = inl e
in-front (x ∷ xs) ys a (inr i) = inr (in-front xs ys a i)

pub in-last : {A : Type 0} (xs : List A) (a : A) → IsIn a (xs ++ a ∷ [])
in-last [] a = inl refl
in-last (x ∷ xs) a = inr (in-last xs a)

pub any-in : {A : Type 0} (p : A → Bool) (xs : List A) → list_any p xs ≡ true → (x : A) × IsIn x xs × (p x ≡ true)
any-in p [] e = absurd (false≢true e)
any-in p (x ∷ xs) e = on (p x) refl (any-in p xs) e
  where
    on : (b : Bool) → p x ≡ b → (list_any p xs ≡ true → (y : _) × IsIn y xs × (p y ≡ true)) → (b || list_any p xs) ≡ true
        → (y : _) × IsIn y (x ∷ xs) × (p y ≡ true)
    on true h rec e = (x, inl refl, h)
    on false h rec e = let r = rec e in (r.0, inr r.1, r.2)

pub in-any : {A : Type 0} (p : A → Bool) (xs : List A) (a : A) → IsIn a xs → p a ≡ true → list_any p xs ≡ true
in-any p [] a i h = absurd i
in-any p (x ∷ xs) a (inl e) h = ap (λ b. b || list_any p xs) (subst (λ z. p z ≡ true) e h)
in-any p (x ∷ xs) a (inr i) h = or_true_right (p x) _ (in-any p xs a i h)

-- ---- one more vote

pub verdict-step : (t : Table) (votes : Tag → Option Told) (xs : List Run) (run : Run) (found : Verdict) (v : Option ℕ) (result : Verdict)
    → IsVerdict t votes xs found
    → MatchOption v (votes run.tag ≡ None) (λ n. (n < length t) × (votes run.tag ≡ Some (get_or t n []))) → IsWith t found v result
    → IsVerdict t votes (xs ++ run ∷ []) result
verdict-step t votes xs run Nothing None result h m is = subst (IsVerdict t votes (xs ++ run ∷ [])) (sym is) (λ r i. on r (in-push xs run r i))
  where
    on : (r : Run) → IsIn r xs ⊎ (r ≡ run) → votes r.tag ≡ None
    on r (inl j) = h r j
    on r (inr e) = subst (λ z. votes z.tag ≡ None) (sym e) m
verdict-step t votes xs run Nothing (Some n) result h m is =
    subst (IsVerdict t votes (xs ++ run ∷ [])) (sym is) (m.0, (run, in-last xs run, m.1), λ r o i e. on r o e (in-push xs run r i))
  where
    on : (r : Run) (o : Told) → votes r.tag ≡ Some o → IsIn r xs ⊎ (r ≡ run) → o ≡ get_or t n []
    on r o e (inl j) = let none = h r j in cc
    on r o e (inr f) = let mine : votes run.tag ≡ Some o = subst (λ z. votes z.tag ≡ Some o) f e in let two = m.1 in cc
verdict-step t votes xs run (One m) None result h none is =
    subst (IsVerdict t votes (xs ++ run ∷ [])) (sym is) (h.0, (h.1.0, in-front xs (run ∷ []) h.1.0 h.1.1, h.1.2), λ r o i e. on r o e (in-push xs run r i))
  where
    on : (r : Run) (o : Told) → votes r.tag ≡ Some o → IsIn r xs ⊎ (r ≡ run) → o ≡ get_or t m []
    on r o e (inl j) = h.2 r o j e
    on r o e (inr f) = let mine : votes run.tag ≡ Some o = subst (λ z. votes z.tag ≡ Some o) f e in cc
verdict-step t votes xs run (One m) (Some n) result h v (inl is) =
    subst (IsVerdict t votes (xs ++ run ∷ [])) (sym is.0) (h.0, (h.1.0, in-front xs (run ∷ []) h.1.0 h.1.1, h.1.2), λ r o i e. on r o e (in-push xs run r i))
  where
    on : (r : Run) (o : Told) → votes r.tag ≡ Some o → IsIn r xs ⊎ (r ≡ run) → o ≡ get_or t m []
    on r o e (inl j) = h.2 r o j e
    on r o e (inr f) = let mine : votes run.tag ≡ Some o = subst (λ z. votes z.tag ≡ Some o) f e in let two = v.1 in let same : o ≡ get_or t n [] = cc in same
        ∙ is.1
verdict-step t votes xs run (One m) (Some n) result h v (inr is) = subst (IsVerdict t votes (xs ++ run ∷ [])) (sym is.0)
    (run, h.1.0, get_or t n [], get_or t m [], in-last xs run, in-front xs (run ∷ []) h.1.0 h.1.1, v.1, h.1.2, is.1)
verdict-step t votes xs run Several v result h m is = subst (IsVerdict t votes (xs ++ run ∷ [])) (sym is)
    (h.0, h.1, h.2, h.3, in-front xs (run ∷ []) h.0 h.4, in-front xs (run ∷ []) h.1 h.5, h.6, h.7, h.8)

pub verdict-names : (t : Table) (votes : Tag → Option Told) (xs : List Run) (found : Verdict) → IsVerdict t votes xs found → IsNamed (length t) found
verdict-names t votes xs Nothing h = tt
verdict-names t votes xs (One n) h = h.0
verdict-names t votes xs Several h = tt

-- ---- what a verdict says of the rank

pub of-states : (t : Table) (f : Fact) (active : List Run) → list_any (states t f) active ≡ true → (run : Run) × IsIn run active × (f ≡ fact_in t run.tag)
of-states t f active h = let w = any-in (states t f) active h in (w.0, w.1, tied_facts f (fact_in t w.0.tag) w.2)

pub to-states : (t : Table) (run : Run) (active : List Run) → IsIn run active → list_any (states t (fact_in t run.tag)) active ≡ true
to-states t run active i = in-any (states t (fact_in t run.tag)) active run i (same_fact (fact_in t run.tag))

module _ (s : FactSet) (t : Table) (leads : Leads) (down : LeadsDown leads) (active : List Run) (done : List Told) (so_far : IsDone s leads done)
    (says : (f : Fact) → contains s (length done, f) ≡ list_any (states t f) active) where
  run-value : (run : Run) (o : Told) → IsIn run active → tag_vote t leads done (length done) run.tag ≡ Some o → IsValue (recorded s) leads (length done) o
  run-value run o i e = vote-value s leads down done so_far o (fact_in t run.tag, says (fact_in t run.tag) ∙ to-states t run active i, e)

  value-run : (o : Told) → IsValue (recorded s) leads (length done) o → (run : Run) × IsIn run active × (tag_vote t leads done (length done) run.tag ≡ Some o)
  value-run o v =
      let w = value-vote s leads down done so_far (length done) o refl v in
      let r = of-states t w.0 active (sym (says w.0) ∙ w.1) in
      (r.0, r.1, subst (λ f. vote leads done (length done) f ≡ Some o) r.2 w.2)

  pub verdict-one : (n : ℕ) → IsVerdict t (tag_vote t leads done (length done)) active (One n) → HasOne s leads (length done) (get_or t n [])
  verdict-one n h = record { value = run-value h.1.0 (get_or t n []) h.1.1 h.1.2; only = λ p v. let r = value-run p v in h.2 r.0 p r.1 r.2 }

  pub verdict-none : IsVerdict t (tag_vote t leads done (length done)) active Nothing → (o : Told) → IsValue (recorded s) leads (length done) o → ⊥
  verdict-none h o v = let r = value-run o v in let none = h r.0 r.1 in let some = r.2 in cc

  pub verdict-clash : IsVerdict t (tag_vote t leads done (length done)) active Several
      → (o : Told) × (p : Told) × IsValue (recorded s) leads (length done) o × IsValue (recorded s) leads (length done) p × (o ≡ p → ⊥)
  verdict-clash h = (h.2, h.3, run-value h.0 h.2 h.4 h.6, run-value h.1 h.3 h.5 h.7, h.8)

-- where only outcomes are said, they are the values of each rank that says the same
pub ran-one : (s : FactSet) (t : Table) (leads : Leads) (down : LeadsDown leads) (active : List Run) (done : List Told) (n r : ℕ) → OnlyRan active
    → IsVerdict t (tag_vote t leads done (length done)) active (One n)
    → ((f : Fact) → contains s (r, f) ≡ list_any (states t f) active) → HasOne s leads r (get_or t n [])
ran-one s t leads down active done n r only h says = record { value = there; only = λ p v. one p v }
  where
    vote-of : (run : Run) (m : ℕ) → run.tag ≡ Ran m → tag_vote t leads done (length done) run.tag ≡ Some (get_or t m [])
    vote-of run m e = subst (λ g. tag_vote t leads done (length done) g ≡ Some (get_or t m [])) (sym e) refl

    there : IsValue (recorded s) leads r (get_or t n [])
    there =
        let run = h.1.0 in
        let m = only run h.1.1 in
        let two = vote-of run m.0 m.1 in
        let voted = h.1.2 in
        let same : get_or t m.0 [] ≡ get_or t n [] = cc in
        ran (says (RanFact (get_or t n []))
        ∙ subst (λ f. list_any (states t f) active ≡ true) (ap (fact_in t) m.1 ∙ ap RanFact same) (to-states t run active h.1.1))

    one : (p : Told) → IsValue (recorded s) leads r p → p ≡ get_or t n []
    one p (ran i) =
        let w = of-states t (RanFact p) active (sym (says (RanFact p)) ∙ i) in
        let m = only w.0 w.1 in
        let is : RanFact p ≡ RanFact (get_or t m.0 []) = w.2 ∙ ap (fact_in t) m.1 in
        let same : get_or t m.0 [] ≡ p = cc in
        h.2 w.0 p w.1 (vote-of w.0 m.0 m.1 ∙ ap Some same)
    one p (swap {k = k} {below = below} i to v) =
        let w = of-states t (SwapFact k) active (sym (says (SwapFact k)) ∙ i) in
        let m = only w.0 w.1 in
        let is : SwapFact k ≡ RanFact (get_or t m.0 []) = w.2 ∙ ap (fact_in t) m.1 in
        cc
