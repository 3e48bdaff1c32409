-- What runs give a rank are its values.
use Rattle.std.proofs.Common.{◌≡◌, refl, sym, ◌∙◌, subst, ℕ, ◌+◌, ◌-◌, ◌<◌, ◌≤◌, true, List, [], ◌∷◌, length, get_or, Option, Some, None, inl, inr, arith}
use Rattle.std.proofs.lemmas.Option.{slice_get-get_or}
use Rattle.std.specs.List.{list_any}
use Rattle.std.specs.FinSet.{contains}
use Rattle.bound_specs.specs.Spec.{Spec, queues_of, counts_of}
use Rattle.rank_facts.specs.Swap.{leads_in, leads_by}
use Rattle.rank_facts.specs.Values.{ran, swap}
use Rattle.rank_facts.specs.declared.fact.Fact.{Fact}
use Rattle.rank_facts.specs.declared.fact.Fact.TheVariants.{Ran as RanFact, Swap as SwapFact}
use Rattle.fact_books.specs.declared.run.Run.{Run}
use Rattle.fact_books.specs.declared.run.Tag.{Tag}
use Rattle.fact_books.specs.declared.run.Tag.TheVariants.{Ran, Swap}
use Rattle.fact_books.specs.declared.leading.Lead.TheVariants.{Value, From, Nowhere}
use Rattle.fact_books.specs.Entries.{Told}
use Rattle.fact_books.specs.Runs.{fact_in, IsNumbered}
use Rattle.fact_books.specs.Values.{Leads, HasOne}
use Rattle.fact_books.specs.Sweep.{LeadsDown, LeadsFrom, IsIn, IsLead, OnlyRan, states}
use Rattle.fact_books.proofs.BlockLeads.{leads-down}
use Rattle.fact_books.proofs.VerdictLemmas.{of-states, to-states}
use Rattle.book_stretches.specs.declared.judging.Vote.TheVariants.{Table}
use Rattle.book_stretches.specs.declared.telling.Telling.{Telling}
use Rattle.book_stretches.specs.Telling.{IsToldAt, Tells}
use Rattle.book_stretches.specs.Sweep.{book_of, end, Gives, AnyGives, HaveNothing, HaveOne, SayAll}

one-rank : (a b : ℕ) → ◌≡◌ {A = Option ℕ} (Some a) (Some b) → a ≡ b
one-rank a b e = cc

-- ---- where swaps lead

pub spec-leads-down : (spec : Spec) → LeadsDown (leads_in spec)
spec-leads-down spec = on spec.lines
  where
    on : (lines : List (List ℕ)) → LeadsDown (leads_by lines (queues_of spec))
    on [] = leads-down (Some (counts_of (queues_of spec)))
    on (l ∷ ls) = λ r k below e. (let bad : ◌≡◌ {A = Option ℕ} None (Some below) = e in cc)

-- the next of the ranks that lead from one on
pub next-from : (leads : Leads) (first last k b r : ℕ) → first ≤ r → r < last → LeadsFrom leads first last k b → leads r k ≡ Some (b + (r - first))
next-from leads first last k b r le lt h =
    let is : first + (r - first) ≡ r = omega (arith, le) in
    subst (λ m. leads m k ≡ Some (b + (r - first))) is (h (r - first) (omega (arith, le, lt)))

-- ---- what is given is what is told

module _ (x : Telling) (active : List Run) (until : ℕ) (say : SayAll x active until) (r : ℕ) (from : end x ≤ r) (to : r < until) where
  says : (f : Fact) → contains (book_of x).facts (r, f) ≡ list_any (states x.outcomes.now f) active
  says f = say.says r from to f

  pub given-told : (o : Told) → AnyGives x r active o → Tells (book_of x) r o
  given-told o g = on g.0.tag refl g.2
    where
      stated : (tag : Tag) → g.0.tag ≡ tag → contains (book_of x).facts (r, fact_in x.outcomes.now tag) ≡ true
      stated tag e = says (fact_in x.outcomes.now tag)
          ∙ subst (λ t. list_any (states x.outcomes.now (fact_in x.outcomes.now t)) active ≡ true) e (to-states x.outcomes.now g.0 active g.1)

      on : (tag : Tag) → g.0.tag ≡ tag → Gives x r tag o → Tells (book_of x) r o
      on (Ran n) e h = ran (subst (λ p. contains (book_of x).facts (r, RanFact p) ≡ true) (sym h) (stated (Ran n) e))
      on (Swap k) e h = swap (stated (Swap k) e) h.1 h.2

  pub told-given : (o : Told) → Tells (book_of x) r o → AnyGives x r active o
  told-given o (ran there) = (w.0, w.1, on w.0.tag w.2)
    where
      w : (run : Run) × IsIn run active × (RanFact o ≡ fact_in x.outcomes.now run.tag)
      w = of-states x.outcomes.now (RanFact o) active (sym (says (RanFact o)) ∙ there)

      on : (tag : Tag) → RanFact o ≡ fact_in x.outcomes.now tag → Gives x r tag o
      on (Ran n) e = cc
      on (Swap k) e = cc
  told-given o (swap {k = k} {below = below} there to-below value) = (w.0, w.1, on w.0.tag w.2)
    where
      w : (run : Run) × IsIn run active × (SwapFact k ≡ fact_in x.outcomes.now run.tag)
      w = of-states x.outcomes.now (SwapFact k) active (sym (says (SwapFact k)) ∙ there)

      on : (tag : Tag) → SwapFact k ≡ fact_in x.outcomes.now tag → Gives x r tag o
      on (Ran n) e = cc
      on (Swap l) e = let same : k ≡ l = cc in (below, subst (λ j. leads_in x.spec.now.run r j ≡ Some below) same to-below, value)

  -- one outcome that is given is the one value
  pub given-one : (o : Told) → AnyGives x r active o → ((p : Told) → AnyGives x r active p → p ≡ o)
      → HasOne (book_of x).facts (leads_in (book_of x).file.run) r o
  given-one o g only = record { value = given-told o g; only = λ p v. only p (told-given p v) }

-- where only outcomes are said, they are given to each rank
pub only-given : (x : Telling) (active : List Run) (r q : ℕ) (o : Told) → OnlyRan active → AnyGives x r active o → AnyGives x q active o
only-given x active r q o only g =
    let n = only g.0 g.1 in
    (g.0, g.1, subst (λ t. Gives x q t o) (sym n.1) (subst (λ t. Gives x r t o) n.1 g.2))

-- ---- one run

-- the one run gives it
alone : (x : Telling) (run : Run) (r : ℕ) (o : Told) → Gives x r run.tag o → AnyGives x r (run ∷ []) o
alone x run r o g = (run, inl refl, g)

by-alone : (x : Telling) (run : Run) (r : ℕ) (o : Told) → AnyGives x r (run ∷ []) o → Gives x r run.tag o
by-alone x run r o (other, inl e, g) = subst (λ (z : Run). Gives x r z.tag o) e g
by-alone x run r o (other, inr i, g) = absurd i

module _ (x : Telling) (run : Run) (until : ℕ) (say : SayAll x (run ∷ []) until) where
  -- an outcome is that of each rank
  pub lead-value : (last n : ℕ) → end x < last → last ≤ until → IsLead (leads_in x.spec.now.run) (end x) last run.tag (Value n) → HaveOne x (Table n) last
  lead-value last n some few tag = record {
    some = some;
    outcome = get_or x.outcomes.now n [];
    is = slice_get-get_or x.outcomes.now n [] (let sound = say.sound.0.0 in numbered sound);
    each = λ r le lt.
        given-one x (run ∷ []) until say r le (omega (arith, lt, few)) (get_or x.outcomes.now n [])
        (alone x run r _ (subst (λ t. Gives x r t (get_or x.outcomes.now n [])) (sym tag) refl))
        (λ p g. subst (λ t. Gives x r t p) tag (by-alone x run r p g));
  }
    where
      numbered : IsNumbered (length x.outcomes.now) run.tag → n < length x.outcomes.now
      numbered h = subst (IsNumbered (length x.outcomes.now)) tag h

  -- a swap that leads nowhere gives nothing
  pub lead-nowhere : (last : ℕ) → end x < last → last ≤ until → IsLead (leads_in x.spec.now.run) (end x) last run.tag Nowhere → HaveNothing x last
  lead-nowhere last some few lead = record {
    some = some;
    each = λ r le lt o v.
        (let g = subst (λ t. Gives x r t o) lead.1 (by-alone x run r o (told-given x (run ∷ []) until say r le (omega (arith, lt, few)) o v)) in
        let is : end x + (r - end x) ≡ r = omega (arith, le) in
        let none : leads_in x.spec.now.run r lead.0 ≡ None =
        subst (λ m. leads_in x.spec.now.run m lead.0 ≡ None) is (lead.2 (r - end x) (omega (arith, le, lt))) in
        let to = g.1 in
        cc);
  }

  -- a swap gives what is told of the rank to which it leads
  pub lead-told : (last b r : ℕ) (class : Option ℕ) → last ≤ until → IsLead (leads_in x.spec.now.run) (end x) last run.tag (From b) → end x ≤ r → r < last
      → IsToldAt (book_of x) x.told (b + (r - end x)) class → IsToldAt (book_of x) x.told r class
  lead-told last b r class few lead le lt told = on class told
    where
      k : ℕ
      k = lead.0

      leads : leads_in x.spec.now.run r k ≡ Some (b + (r - end x))
      leads = next-from (leads_in x.spec.now.run) (end x) last k b r le lt lead.2

      led : (o : Told) → Gives x r (Swap k) o → Tells (book_of x) (b + (r - end x)) o
      led o (below, to, value) = subst (λ m. Tells (book_of x) m o) (one-rank below (b + (r - end x)) (sym to ∙ leads)) value

      -- a value of the rank is one there
      there : (o : Told) → Tells (book_of x) r o → Tells (book_of x) (b + (r - end x)) o
      there o v =
          led o (subst (λ t. Gives x r t o) lead.1 (by-alone x run r o (told-given x (run ∷ []) until say r le (omega (arith, lt, few)) o v)))

      on : (class : Option ℕ) → IsToldAt (book_of x) x.told (b + (r - end x)) class → IsToldAt (book_of x) x.told r class
      on None none = λ o v. none o (there o v)
      on (Some c) t = (
        t.0,
        t.1,
        record {
          value = given-told x (run ∷ []) until say r le (omega (arith, lt, few)) t.0
              (alone x run r t.0 (subst (λ g. Gives x r g t.0) (sym lead.1) (b + (r - end x), leads, t.2.value)));
          only = λ p v. t.2.only p (there p v);
        },
      )

  -- and that one is smaller
  pub lead-less : (last b : ℕ) → end x < last → IsLead (leads_in x.spec.now.run) (end x) last run.tag (From b) → b < end x
  lead-less last b some lead =
      let first = next-from (leads_in x.spec.now.run) (end x) last lead.0 b (end x) (omega arith) some lead.2 in
      let less = spec-leads-down x.spec.now.run (end x) lead.0 _ first in
      omega (arith, less)

-- ---- no run

-- where no run says anything there is no value
pub none-said : (x : Telling) (active : List Run) (until : ℕ) → SayAll x active until → end x < until → length active < 1 → HaveNothing x until
none-said x [] until say some none = record { some = some; each = λ r le lt o v. (told-given x [] until say r le lt o v).1 }
none-said x (run ∷ runs) until say some none = absurd (omega (arith, none))
