-- What several runs give a rank.
use Rattle.std.proofs.Common.{◌≡◌, refl, sym, ap, ◌∙◌, subst, ℕ, ◌+◌, ◌-◌, ◌<◌, ◌≤◌, List, [], ◌∷◌, ◌++◌, length, get_or, Option, Some, None, inl}
use Rattle.std.proofs.Common.{inr, ◌⊎◌, arith}
use Rattle.std.proofs.lemmas.Option.{slice_get-get_or}
use Rattle.rank_facts.specs.Swap.{leads_in}
use Rattle.fact_books.specs.declared.run.Run.{Run}
use Rattle.fact_books.specs.declared.run.Tag.{Tag}
use Rattle.fact_books.specs.declared.run.Tag.TheVariants.{Ran}
use Rattle.fact_books.specs.declared.leading.Lead.TheVariants.{From, Nowhere}
use Rattle.fact_books.specs.Entries.{Told}
use Rattle.fact_books.specs.Runs.{IsNumbered}
use Rattle.fact_books.specs.Sweep.{IsIn, IsLead, GoesTo, OnlyRan}
use Rattle.fact_books.proofs.VerdictLemmas.{in-push, in-front, in-last}
use Rattle.class_stretches.specs.Stretches.{class_at}
use Rattle.book_stretches.specs.declared.judging.Vote.{Vote}
use Rattle.book_stretches.specs.declared.judging.Vote.TheVariants.{Table, Class}
use Rattle.book_stretches.specs.declared.judging.Verdict.{Verdict}
use Rattle.book_stretches.specs.declared.judging.Verdict.TheVariants.{Nothing, One, Several}
use Rattle.book_stretches.specs.declared.telling.Telling.{Telling}
use Rattle.book_stretches.specs.Telling.{IsToldAt, Tells, IsLeastClash}
use Rattle.book_stretches.specs.Sweep.{book_of, end, AnyGives, Gives, HasVote, HaveNothing, HaveOne, IsKnown, IsTelling, IsVerdict, IsVoteOf, IsWith, SayAll}
use Rattle.book_stretches.proofs.Giving.{given-told, given-one, told-given, next-from, only-given, spec-leads-down}
use Rattle.book_stretches.proofs.Going.{clashes}

-- ---- one vote

pub vote-table : (x : Telling) (r : ℕ) (tag : Tag) (n : ℕ) → IsNumbered (length x.outcomes.now) tag → tag ≡ Ran n → IsVoteOf x r tag (Some (Table n))
vote-table x r tag n numbered is =
    subst (λ t. IsVoteOf x r t (Some (Table n))) (sym is)
    (get_or x.outcomes.now n [], slice_get-get_or x.outcomes.now n [] (subst (IsNumbered (length x.outcomes.now)) is numbered), refl, λ p g. g)

pub vote-nowhere : (x : Telling) (tag : Tag) (last : ℕ) → end x < last → IsLead (leads_in x.spec.now.run) (end x) last tag Nowhere
    → IsVoteOf x (end x) tag None
vote-nowhere x tag last some lead =
    subst (λ t. IsVoteOf x (end x) t None) (sym lead.1)
    (λ o g. (let zero-on : end x + 0 ≡ end x = omega arith in
    let none : leads_in x.spec.now.run (end x) lead.0 ≡ None =
    subst (λ m. leads_in x.spec.now.run m lead.0 ≡ None) zero-on (lead.2 0 (omega (arith, some))) in
    let to = g.1 in
    cc))

-- where the swap of the next rank leads, and that this is a rank that is told
pub lead-first : (x : Telling) (tag : Tag) (last b : ℕ) (lead : IsLead (leads_in x.spec.now.run) (end x) last tag (From b)) → end x < last
    → (leads_in x.spec.now.run (end x) lead.0 ≡ Some b) × (b < end x)
lead-first x tag last b lead some =
    let here = next-from (leads_in x.spec.now.run) (end x) last lead.0 b (end x) (omega arith) some lead.2 in
    let same : b + (end x - end x) ≡ b = omega arith in
    let leads : leads_in x.spec.now.run (end x) lead.0 ≡ Some b = here ∙ ap (λ m. Some m) same in
    (leads, spec-leads-down x.spec.now.run (end x) lead.0 b leads)

pub vote-class : (x : Telling) (tag : Tag) (last b c : ℕ) → IsTelling x → end x < last → IsLead (leads_in x.spec.now.run) (end x) last tag (From b)
    → class_at x.stretches.list b ≡ Some c → IsVoteOf x (end x) tag (Some (Class c))
vote-class x tag last b c is some lead at =
    let first = lead-first x tag last b lead some in
    let told = subst (IsToldAt (book_of x) x.told b) at (is.told b first.1) in
    let leads = first.0 in
    subst (λ t. IsVoteOf x (end x) t (Some (Class c))) (sym lead.1)
    (told.0, told.1, (b, leads, told.2.value), λ p g. (let to = g.1 in let same : g.0 ≡ b = cc in told.2.only p (subst (λ m. Tells (book_of x) m p) same g.2)))

pub vote-missing : (x : Telling) (tag : Tag) (last b : ℕ) → IsTelling x → end x < last → IsLead (leads_in x.spec.now.run) (end x) last tag (From b)
    → class_at x.stretches.list b ≡ None → IsVoteOf x (end x) tag None
vote-missing x tag last b is some lead at =
    let first = lead-first x tag last b lead some in
    let told = subst (IsToldAt (book_of x) x.told b) at (is.told b first.1) in
    let leads = first.0 in
    subst (λ t. IsVoteOf x (end x) t None) (sym lead.1)
    (λ o g. (let to = g.1 in let same : g.0 ≡ b = cc in told o (subst (λ m. Tells (book_of x) m o) same g.2)))

pub vote-known : (x : Telling) (r : ℕ) (tag : Tag) (vote : Option Vote) → IsVoteOf x r tag vote → IsKnown x vote
vote-known x r tag None h = tt
vote-known x r tag (Some v) h = (h.0, h.1)

pub verdict-has : (x : Telling) (r : ℕ) (active : List Run) (v : Verdict) → IsVerdict x r active v → HasVote x v
verdict-has x r active Nothing h = tt
verdict-has x r active (One v) h = (h.0, h.1)
verdict-has x r active Several h = tt

-- ---- one more vote

pub none-yet : (x : Telling) (r : ℕ) → IsVerdict x r [] Nothing
none-yet x r o g = g.1

any-front : (x : Telling) (r : ℕ) (xs : List Run) (run : Run) (o : Told) → AnyGives x r xs o → AnyGives x r (xs ++ run ∷ []) o
any-front x r xs run o g = (g.0, in-front xs (run ∷ []) g.0 g.1, g.2)

any-last : (x : Telling) (r : ℕ) (xs : List Run) (run : Run) (o : Told) → Gives x r run.tag o → AnyGives x r (xs ++ run ∷ []) o
any-last x r xs run o g = (run, in-last xs run, g)

any-cases : (x : Telling) (r : ℕ) (xs : List Run) (run : Run) (o : Told) → AnyGives x r (xs ++ run ∷ []) o → AnyGives x r xs o ⊎ Gives x r run.tag o
any-cases x r xs run o g = on (in-push xs run g.0 g.1)
  where
    on : IsIn g.0 xs ⊎ (g.0 ≡ run) → AnyGives x r xs o ⊎ Gives x r run.tag o
    on (inl i) = inl (g.0, i, g.2)
    on (inr e) = inr (subst (λ (z : Run). Gives x r z.tag o) e g.2)

pub verdict-step : (x : Telling) (r : ℕ) (xs : List Run) (run : Run) (found : Verdict) (vote : Option Vote) (result : Verdict)
    → IsVerdict x r xs found → IsVoteOf x r run.tag vote → IsWith x found vote result → IsVerdict x r (xs ++ run ∷ []) result
verdict-step x r xs run Nothing None result h v is = subst (IsVerdict x r (xs ++ run ∷ [])) (sym is) (λ o g. on o (any-cases x r xs run o g))
  where
    on : (o : Told) → AnyGives x r xs o ⊎ Gives x r run.tag o → ⊥
    on o (inl g) = h o g
    on o (inr g) = v o g
verdict-step x r xs run (One w) None result h v is =
    subst (IsVerdict x r (xs ++ run ∷ [])) (sym is) (h.0, h.1, any-front x r xs run h.0 h.2, λ p g. on p (any-cases x r xs run p g))
  where
    on : (p : Told) → AnyGives x r xs p ⊎ Gives x r run.tag p → p ≡ h.0
    on p (inl g) = h.3 p g
    on p (inr g) = absurd (v p g)
verdict-step x r xs run Several None result h v is =
    subst (IsVerdict x r (xs ++ run ∷ [])) (sym is) (h.0, h.1, any-front x r xs run h.0 h.2, any-front x r xs run h.1 h.3, h.4)
verdict-step x r xs run Nothing (Some n) result h v is =
    subst (IsVerdict x r (xs ++ run ∷ [])) (sym is) (v.0, v.1, any-last x r xs run v.0 v.2, λ p g. on p (any-cases x r xs run p g))
  where
    on : (p : Told) → AnyGives x r xs p ⊎ Gives x r run.tag p → p ≡ v.0
    on p (inl g) = absurd (h p g)
    on p (inr g) = v.3 p g
verdict-step x r xs run (One w) (Some n) result h v (inl is) =
    subst (IsVerdict x r (xs ++ run ∷ [])) (sym is.0) (h.0, h.1, any-front x r xs run h.0 h.2, λ p g. on p (any-cases x r xs run p g))
  where
    same : v.0 ≡ h.0
    same = let a = v.1 in let b = h.1 in let c = is.1 in (let e : Some v.0 ≡ Some h.0 = sym a ∙ c ∙ b in cc)

    on : (p : Told) → AnyGives x r xs p ⊎ Gives x r run.tag p → p ≡ h.0
    on p (inl g) = h.3 p g
    on p (inr g) = v.3 p g ∙ same
verdict-step x r xs run (One w) (Some n) result h v (inr is) =
    subst (IsVerdict x r (xs ++ run ∷ [])) (sym is.0)
    (v.0, h.0, any-last x r xs run v.0 v.2, any-front x r xs run h.0 h.2, λ e. is.1 (v.1 ∙ ap (λ o. Some o) e ∙ sym h.1))
verdict-step x r xs run Several (Some n) result h v is =
    subst (IsVerdict x r (xs ++ run ∷ [])) (sym is) (h.0, h.1, any-front x r xs run h.0 h.2, any-front x r xs run h.1 h.3, h.4)

-- ---- what a verdict says of ranks

module _ (x : Telling) (active : List Run) (until last : ℕ) (say : SayAll x active until) (to : GoesTo active (end x) until last) where
  -- what is given to one of these ranks is given to the next rank
  first-given : (r : ℕ) → end x ≤ r → r < last → (o : Told) → AnyGives x r active o → AnyGives x (end x) active o
  first-given r le lt o g = on to.2
    where
      on : (last ≡ end x + 1) ⊎ OnlyRan active → AnyGives x (end x) active o
      on (inl e) = let here : r ≡ end x = omega (arith, le, lt, e) in subst (λ q. AnyGives x q active o) here g
      on (inr only) = only-given x active r (end x) o only g

  -- and the other way round
  each-given : (r : ℕ) → end x ≤ r → r < last → (o : Told) → AnyGives x (end x) active o → AnyGives x r active o
  each-given r le lt o g = on to.2
    where
      on : (last ≡ end x + 1) ⊎ OnlyRan active → AnyGives x r active o
      on (inl e) = let here : end x ≡ r = omega (arith, le, lt, e) in subst (λ q. AnyGives x q active o) here g
      on (inr only) = only-given x active (end x) r o only g

  pub verdict-nothing : IsVerdict x (end x) active Nothing → HaveNothing x last
  verdict-nothing h = record {
    some = to.0;
    each = λ r le lt o v. h o (first-given r le lt o (told-given x active until say r le (let few = to.1 in omega (arith, lt, few)) o v));
  }

  pub verdict-one : (vote : Vote) → IsVerdict x (end x) active (One vote) → HaveOne x vote last
  verdict-one vote h = record {
    some = to.0;
    outcome = h.0;
    is = h.1;
    each = λ r le lt. given-one x active until say r le (let few = to.1 in omega (arith, lt, few)) h.0 (each-given r le lt h.0 h.2)
        (λ p g. h.3 p (first-given r le lt p g));
  }

  pub verdict-several : IsTelling x → IsVerdict x (end x) active Several → IsLeastClash (book_of x) (end x)
  verdict-several is h =
      let some : end x < until = (let a = to.0 in let b = to.1 in omega (arith, a, b)) in
      clashes x is (let inside = say.inside in omega (arith, some, inside))
      (h.0, h.1, given-told x active until say (end x) (omega arith) some h.0 h.2, given-told x active until say (end x) (omega arith) some h.1 h.3, h.4)
