-- Jobs: finding their shards, and making them.
use Rattle.std.proofs.Common.{◌≡◌, refl, sym, ap, subst, ◌∙◌, ℕ, zero, suc, ◌+◌, ◌<◌, ◌≤◌, Bool, true, false, List, [], ◌∷◌, ◌++◌, append_assoc, append-nil}
use Rattle.std.proofs.Common.{length, get_or, take, drop, inl, inr, ◌⊎◌, ⊎_elim, arith}
use Rattle.std.proofs.lemmas.Bool.{or_cases, or_left, or_right}
use Rattle.std.proofs.lemmas.List.{take_more, take-append-drop}
use Rattle.std.specs.FinSet.{union, empty, contains-empty}
use Rattle.bound_specs.specs.Spec.{Spec}
use Rattle.machine_model.specs.Start.{start}
use Rattle.rank_facts.specs.declared.fact.Fact.{Fact}
use Rattle.session_machine.specs.Running.{IsNotRunBy}
use Rattle.session_machine.specs.declared.error.RunError.{RunError}
use Rattle.session_machine.specs.declared.error.RunError.TheVariants as run_error
use Rattle.rank_facts.specs.declared.shard.Shard.{Shard}
use Rattle.rank_facts.specs.Shards.{IsShardOf}
use Rattle.step_reducer.specs.Walking.{IsNotWalked}
use Rattle.book_jobs.specs.declared.job.Job.{Job, more_of-Job, end_of-Job, Run, Join'}
use Rattle.book_jobs.specs.declared.job.TheConstants.{MAX_LEVELS}
use Rattle.book_jobs.specs.declared.leaves.Leaf.{Leaf}
use Rattle.book_jobs.specs.declared.leaves.Pending.{Pending}
use Rattle.fact_books.specs.Entries.{FactSet, entry_cmp, recorded}
use Rattle.fact_books.specs.Books.{Contents, joined}
use Rattle.fact_books.specs.Building.{AreFactsOf}
use Rattle.book_jobs.specs.JobTrees.{join_of, leaves, levels, parts}
use Rattle.book_jobs.specs.Jobs.{HasFactIn, InLeaves, AreLeafFacts, AllLawful, IsJobOf, IsOutside, IsFirstOutside, IsNotMade}
use Rattle.book_jobs.specs.Jobs.{leaves_in, parts_in, AllWithin, IsFolding}
use Rattle.book_jobs.specs.Laws.{IsOneOf, SameLeavesMakeSameFacts}
use Rattle.fact_books.proofs.SetLemmas.{in_union, same_facts}

-- ---- the parts that are pending

leaves-push : (ps : List Pending) (p : Pending) → leaves_in (ps ++ p ∷ []) ≡ leaves p.job.now ++ leaves_in ps
leaves-push [] p = sym (append-nil (leaves p.job.now))
leaves-push (q ∷ ps) p = ap (λ l. l ++ leaves q.job.now) (leaves-push ps p) ∙ append_assoc (leaves p.job.now) (leaves_in ps) (leaves q.job.now)

parts-push : (ps : List Pending) (p : Pending) → parts_in (ps ++ p ∷ []) ≡ parts p.job.now + parts_in ps
parts-push [] p = omega arith
parts-push (q ∷ ps) p = let rest = parts-push ps p in omega (arith, rest)

within-push : (limit : ℕ) (ps : List Pending) (p : Pending) → p.level + levels p.job.now ≤ limit + 1 → AllWithin limit ps → AllWithin limit (ps ++ p ∷ [])
within-push limit [] p h a = (h, tt)
within-push limit (q ∷ ps) p h a = (a.0, within-push limit ps p h a.1)

within-pop : (limit : ℕ) (ps : List Pending) (p : Pending) → AllWithin limit (ps ++ p ∷ []) → (p.level + levels p.job.now ≤ limit + 1) × AllWithin limit ps
within-pop limit [] p a = (a.0, tt)
within-pop limit (q ∷ ps) p a = let r = within-pop limit ps p a.1 in (r.0, (a.0, r.1))

levels-some : (j : Job) → 1 ≤ levels j
levels-some (Run shard reduce) = omega arith
levels-some (Join' _ (more_of-Job a end_of-Job) _ (more_of-Job b end_of-Job)) = omega arith

parts-some : (j : Job) → 1 ≤ parts j
parts-some (Run shard reduce) = omega arith
parts-some (Join' _ (more_of-Job a end_of-Job) _ (more_of-Job b end_of-Job)) = omega arith

pub folding-begun : (job : Job) (p : Pending) (rest : List Pending) → p.job.now ≡ job → p.level ≡ 1 → rest ≡ p ∷ [] → IsFolding job [] rest
folding-begun job p rest is one e = subst (IsFolding job []) (sym e) (record {
  all = ap leaves is;
  few = λ a. (let l = a.0 in omega (arith, l, one, ap levels is));
  deep = λ l. (omega (arith, l, one, ap levels is), tt);
})

module _ (job : Job) (found : List Leaf) (old ps : List Pending) (p : Pending) (is : old ≡ ps ++ p ∷ []) (f : IsFolding job found old) where
  -- a shard is found
  pub leaf-found : (shard : Shard) (reduce : Bool) (new : List Leaf) → p.job.now ≡ Run shard reduce → p.level ≤ MAX_LEVELS
      → new ≡ found ++ record { shard = shard; reduce = reduce } ∷ []
      → IsFolding job new ps
  leaf-found shard reduce new e up n = subst (λ l. IsFolding job l ps) (sym n) (record {
    all =
        append_assoc found (record { shard = shard; reduce = reduce } ∷ []) (leaves_in ps)
        ∙ ap (λ l. found ++ l) (ap (λ j. leaves j ++ leaves_in ps) (sym e) ∙ sym (leaves-push ps p) ∙ ap leaves_in (sym is)) ∙ f.all;
    few = λ a. f.few (subst (AllWithin MAX_LEVELS) (sym is) (within-push MAX_LEVELS ps p (omega (arith, up, ap levels e)) a));
    deep = λ l. (within-pop MAX_LEVELS ps p (subst (AllWithin MAX_LEVELS) is (f.deep l))).1;
  })

  pub leaf-less : (shard : Shard) (reduce : Bool) → p.job.now ≡ Run shard reduce → parts_in ps < parts_in old
  leaf-less shard reduce e = let push = parts-push ps p in omega (arith, ap parts_in is, push, ap parts e)

  -- a join is taken apart
  pub join-apart : (a b : Job) (pa pb : Pending) (mid new : List Pending) → p.job.now ≡ join_of a b → pa.job.now ≡ a → pb.job.now ≡ b → pa.level ≡ p.level + 1
      → pb.level ≡ p.level + 1
      → mid ≡ ps ++ pb ∷ [] → new ≡ mid ++ pa ∷ [] → IsFolding job found new
  join-apart a b pa pb mid new e ea eb la lb m n = subst (IsFolding job found) (sym (n ∙ ap (λ l. l ++ pa ∷ []) m)) (record {
    all =
        ap (λ l. found ++ l) (
        leaves-push (ps ++ pb ∷ []) pa ∙ (λ i. leaves (ea i) ++ leaves-push ps pb i) ∙ ap (λ j. leaves a ++ (leaves j ++ leaves_in ps)) eb
        ∙ sym (append_assoc (leaves a) (leaves b) (leaves_in ps)) ∙ ap (λ j. leaves j ++ leaves_in ps) (sym e) ∙ sym (leaves-push ps p) ∙ ap leaves_in (sym is))
        ∙ f.all;
    few = λ w.
        (let x = within-pop MAX_LEVELS (ps ++ pb ∷ []) pa w in
        let y = within-pop MAX_LEVELS ps pb x.1 in
        let u = x.0 in
        let v = y.0 in
        f.few (subst (AllWithin MAX_LEVELS) (sym is) (within-push MAX_LEVELS ps p (omega (arith, u, v, la, lb, ap levels e, ap levels ea, ap levels eb)) y.1)));
    deep = λ l.
        (let x = within-pop MAX_LEVELS ps p (subst (AllWithin MAX_LEVELS) is (f.deep l)) in
        let u = x.0 in
        within-push MAX_LEVELS (ps ++ pb ∷ []) pa (omega (arith, u, la, ap levels e, ap levels ea))
        (within-push MAX_LEVELS ps pb (omega (arith, u, lb, ap levels e, ap levels eb)) x.1));
  })

  pub join-less : (a b : Job) (pa pb : Pending) (mid new : List Pending) → p.job.now ≡ join_of a b → pa.job.now ≡ a → pb.job.now ≡ b
      → mid ≡ ps ++ pb ∷ [] → new ≡ mid ++ pa ∷ [] → parts_in new < parts_in old
  join-less a b pa pb mid new e ea eb m n =
      let one = parts-push ps p in
      let two = parts-push ps pb in
      let three = parts-push (ps ++ pb ∷ []) pa in
      omega (arith, ap parts_in is, one, two, three, ap parts_in (n ∙ ap (λ l. l ++ pa ∷ []) m), ap parts e, ap parts ea, ap parts eb)

  -- a part that stands too deep
  pub too-deep : MAX_LEVELS < p.level → MAX_LEVELS < levels job
  too-deep low = ⊎_elim (λ lt. lt)
      (λ le. (let x = (within-pop MAX_LEVELS ps p (subst (AllWithin MAX_LEVELS) is (f.deep le))).0 in let some = levels-some p.job.now in absurd
      (omega (arith, x, some, low))))
      cases
    where
      cases : (MAX_LEVELS < levels job) ⊎ (levels job ≤ MAX_LEVELS)
      cases = grind arith

-- nothing is left
pub all-found : (job : Job) (found : List Leaf) (rest : List Pending) → rest ≡ [] → IsFolding job found rest → (found ≡ leaves job) × (levels job ≤ MAX_LEVELS)
all-found job found rest e f = (sym (append-nil found) ∙ ap (λ l. found ++ leaves_in l) (sym e) ∙ f.all, f.few (subst (AllWithin MAX_LEVELS) (sym e) tt))

-- ---- which shards are lawful

lawful-push : (spec : Spec) (ls : List Leaf) (l : Leaf) → AllLawful spec ls → IsShardOf spec l.shard → AllLawful spec (ls ++ l ∷ [])
lawful-push spec [] l a h = (h, tt)
lawful-push spec (m ∷ ls) l a h = (a.0, lawful-push spec ls l a.1 h)

pub lawful-more : (spec : Spec) (ls : List Leaf) (i : ℕ) (d : Leaf) → i < length ls → AllLawful spec (take i ls) → IsShardOf spec (get_or ls i d).shard
    → AllLawful spec (take (i + 1) ls)
lawful-more spec ls i d lt a h = subst (AllLawful spec) (sym (take_more ls i d lt)) (lawful-push spec (take i ls) (get_or ls i d) a h)

pub first-outside : (spec : Spec) (ls : List Leaf) (i : ℕ) (d : Leaf) (e : RunError) → i < length ls → AllLawful spec (take i ls)
    → IsOutside spec (get_or ls i d).shard e → IsFirstOutside spec ls e
first-outside spec [] i d e lt a h = absurd (omega (arith, lt))
first-outside spec (l ∷ ls) zero d e lt a h = inl h
first-outside spec (l ∷ ls) (suc i) d e lt a h = inr (a.0, first-outside spec ls i d e (omega (arith, lt)) a.1 h)

-- ---- making

pub not-run : (spec : Spec) (shard : Shard) (e : RunError) → IsShardOf spec shard → IsNotWalked spec shard e → IsNotRunBy e (start spec)
not-run spec shard run_error.OutOfRange is h =
    absurd (⊎_elim (λ l. (let o = is.order in omega (arith, l, o))) (λ l. (let i = is.inside in omega (arith, l, i))) h)
not-run spec shard run_error.TooLong is h = absurd (let few = is.few in let long = h.2 in omega (arith, few, long))
not-run spec shard run_error.TooDeep is h = absurd h
not-run spec shard run_error.NoMemory is h = tt
not-run spec shard (run_error.Start error) is h = h.1

pub not-made : (spec : Spec) (job : Job) (e : RunError) → IsJobOf spec job → IsNotRunBy e (start spec) → IsNotMade spec job e
not-made spec job run_error.OutOfRange is h = absurd h
not-made spec job run_error.TooLong is h = absurd h
not-made spec job run_error.TooDeep is h = absurd h
not-made spec job run_error.NoMemory is h = tt
not-made spec job (run_error.Start error) is h = (is, h)

pub outside-made : (spec : Spec) (job : Job) (e : RunError) → levels job ≤ MAX_LEVELS → IsFirstOutside spec (leaves job) e → IsNotMade spec job e
outside-made spec job run_error.OutOfRange few h = (few, h)
outside-made spec job run_error.TooLong few h = (few, h)
outside-made spec job run_error.TooDeep few h = absurd (none-deep (leaves job) h)
  where
    none-deep : (ls : List Leaf) → IsFirstOutside spec ls run_error.TooDeep → ⊥
    none-deep [] h = h
    none-deep (l ∷ ls) (inl h) = h
    none-deep (l ∷ ls) (inr h) = none-deep ls h.1
outside-made spec job run_error.NoMemory few h = tt
outside-made spec job (run_error.Start error) few h = absurd (none-start (leaves job) h)
  where
    none-start : (ls : List Leaf) → IsFirstOutside spec ls (run_error.Start error) → ⊥
    none-start [] h = h
    none-start (l ∷ ls) (inl h) = h
    none-start (l ∷ ls) (inr h) = none-start ls h.1

pub none-made : (spec : Spec) (s : FactSet) → s ≡ empty → AreLeafFacts spec [] s
none-made spec s is r fact = (
  λ h. absurd (let f : false ≡ true = sym (ap (λ x. recorded x r fact) is ∙ contains-empty entry_cmp (r, fact)) ∙ h in cc),
  λ h. absurd h,
)

pub one-made : (spec : Spec) (l : Leaf) (s : FactSet) → AreFactsOf l.reduce spec l.shard.first l.shard.end s → AreLeafFacts spec (l ∷ []) s
one-made spec l s a r fact = (λ h. inl ((a r fact).0 h), λ h. ⊎_elim (λ x. (a r fact).1 x) (λ x. absurd x) h)

-- what one of two lists of shards has, both together have
in-both : (spec : Spec) (ls ms : List Leaf) (r : ℕ) (fact : Fact) → InLeaves spec (ls ++ ms) r fact → InLeaves spec ls r fact ⊎ InLeaves spec ms r fact
in-both spec [] ms r fact h = inr h
in-both spec (l ∷ ls) ms r fact (inl h) = inl (inl h)
in-both spec (l ∷ ls) ms r fact (inr h) = ⊎_elim (λ k. inl (inr k)) (λ k. inr k) (in-both spec ls ms r fact h)

both-in : (spec : Spec) (ls ms : List Leaf) (r : ℕ) (fact : Fact) → InLeaves spec ls r fact ⊎ InLeaves spec ms r fact → InLeaves spec (ls ++ ms) r fact
both-in spec [] ms r fact (inl h) = absurd h
both-in spec [] ms r fact (inr h) = h
both-in spec (l ∷ ls) ms r fact (inl (inl h)) = inl h
both-in spec (l ∷ ls) ms r fact (inl (inr h)) = inr (both-in spec ls ms r fact (inl h))
both-in spec (l ∷ ls) ms r fact (inr h) = inr (both-in spec ls ms r fact (inr h))

both-made : (spec : Spec) (ls ms : List Leaf) (s t : FactSet) → AreLeafFacts spec ls s → AreLeafFacts spec ms t → AreLeafFacts spec (ls ++ ms) (union s t)
both-made spec ls ms s t a b r fact = (
  λ h. both-in spec ls ms r fact
      (⊎_elim (λ x. inl ((a r fact).0 x)) (λ y. inr ((b r fact).0 y)) (or_cases (recorded s r fact) (recorded t r fact) (sym (in_union s t (r, fact)) ∙ h))),
  λ h. in_union s t (r, fact)
      ∙ ⊎_elim (λ x. or_left _ _ ((a r fact).1 x)) (λ y. or_right (recorded s r fact) _ ((b r fact).1 y)) (in-both spec ls ms r fact h),
)

lawful-both : (spec : Spec) (ls ms : List Leaf) → AllLawful spec (ls ++ ms) → AllLawful spec ls × AllLawful spec ms
lawful-both spec [] ms a = (tt, a)
lawful-both spec (l ∷ ls) ms a = let p = lawful-both spec ls ms a.1 in ((a.0, p.0), p.1)

-- the halves of a list of shards
module _ (spec : Spec) (ls : List Leaf) (n : ℕ) where
  pub lawful-left : AllLawful spec ls → AllLawful spec (take n ls)
  lawful-left a = (lawful-both spec (take n ls) (drop n ls) (subst (AllLawful spec) (sym (take-append-drop n ls)) a)).0

  pub lawful-right : AllLawful spec ls → AllLawful spec (drop n ls)
  lawful-right a = (lawful-both spec (take n ls) (drop n ls) (subst (AllLawful spec) (sym (take-append-drop n ls)) a)).1

  pub halves-made : (left right book : Contents) → AreLeafFacts spec (take n ls) left.facts → AreLeafFacts spec (drop n ls) right.facts
      → book ≡ joined left right → AreLeafFacts spec ls book.facts
  halves-made left right book a b is =
      subst (λ (c : Contents). AreLeafFacts spec ls c.facts) (sym is)
      (subst (λ xs. AreLeafFacts spec xs (union left.facts right.facts)) (take-append-drop n ls)
      (both-made spec (take n ls) (drop n ls) left.facts right.facts a b))

-- a list of one shard
pub lone-leaf : (ls : List Leaf) (d : Leaf) → length ls ≡ 1 → get_or ls 0 d ∷ [] ≡ ls
lone-leaf [] d e = absurd (omega (arith, e))
lone-leaf (l ∷ []) d e = refl
lone-leaf (l ∷ m ∷ ls) d e = absurd (omega (arith, e))

pub no-leaf : (ls : List Leaf) → length ls ≡ 0 → [] ≡ ls
no-leaf [] e = refl
no-leaf (l ∷ ls) e = absurd (omega (arith, e))

-- a job has a shard
pub leaves-some : (job : Job) → 0 < length (leaves job)
leaves-some (Run shard reduce) = omega arith
leaves-some (Join' _ (more_of-Job a end_of-Job) _ (more_of-Job b end_of-Job)) = longer (leaves a) (leaves b) (leaves-some a)
  where
    longer : (xs ys : List Leaf) → 0 < length xs → 0 < length (xs ++ ys)
    longer [] ys lt = absurd (omega (arith, lt))
    longer (x ∷ xs) ys lt = omega arith

-- ---- the law

-- the facts of books are one where their shards are
leaf-in : (spec : Spec) (ls : List Leaf) (r : ℕ) (fact : Fact) → InLeaves spec ls r fact → (l : Leaf) × IsOneOf l ls × HasFactIn spec l r fact
leaf-in spec [] r fact h = absurd h
leaf-in spec (l ∷ ls) r fact (inl h) = (l, inl refl, h)
leaf-in spec (l ∷ ls) r fact (inr h) = let x = leaf-in spec ls r fact h in (x.0, inr x.1, x.2)

in-leaf : (spec : Spec) (ls : List Leaf) (l : Leaf) (r : ℕ) (fact : Fact) → IsOneOf l ls → HasFactIn spec l r fact → InLeaves spec ls r fact
in-leaf spec [] l r fact i h = absurd i
in-leaf spec (m ∷ ls) l r fact (inl e) h = inl (subst (λ x. HasFactIn spec x r fact) e h)
in-leaf spec (m ∷ ls) l r fact (inr i) h = inr (in-leaf spec ls l r fact i h)

pub same-leaves : SameLeavesMakeSameFacts
same-leaves spec a b s t fa fb there back = same_facts s t (λ e. by (recorded s e.0 e.1) (recorded t e.0 e.1)
    (λ h. (fb e.0 e.1).1 (let x = leaf-in spec (leaves a) e.0 e.1 ((fa e.0 e.1).0 h) in in-leaf spec (leaves b) x.0 e.0 e.1 (there x.0 x.1) x.2))
    (λ h. (fa e.0 e.1).1 (let x = leaf-in spec (leaves b) e.0 e.1 ((fb e.0 e.1).0 h) in in-leaf spec (leaves a) x.0 e.0 e.1 (back x.0 x.1) x.2)))
  where
    by : (x y : Bool) → (x ≡ true → y ≡ true) → (y ≡ true → x ≡ true) → x ≡ y
    by true y f g = sym (f refl)
    by false true f g = g refl
    by false false f g = refl
