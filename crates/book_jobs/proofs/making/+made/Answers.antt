use Rattle.std.proofs.Common.{◌≡◌, ◌∙◌, sym, ap, subst, ℕ, ◌-◌, ◌<◌, ◌/◌, false, ◌==◌, List, length, take, drop, arith, length-take, length-drop}
use Rattle.std.proofs.Math.Seq.{take-length}
use Rattle.std.proofs.lemmas.Bool.{eqb-true, eq-eqb, false≢true}
use Rattle.book_jobs.specs.declared.leaves.Leaf.{Leaf}
use Rattle.book_jobs.specs.Jobs.{AllLawful, AreLeafFacts}
use Rattle.book_jobs.proofs.JobLemmas.{none-made, lawful-left, lawful-right, halves-made, no-leaf}
use Rattle.book_jobs.proofs.making.+made.Goals as goal

some : (n : ℕ) → false ≡ (n == 0) → n ≡ 0 → ⊥
some n f e = false≢true (f ∙ eq-eqb n 0 e)

left-less : (n : ℕ) → (n ≡ 0 → ⊥) → n / 2 < n
left-less n f = omega (arith, f)

right-less : (n : ℕ) → (n ≡ 0 → ⊥) → (n ≡ 1 → ⊥) → 0 < n / 2
right-less n f g = omega (arith, f, g)

pub returns-then-is_empty-clause-facts : goal.returns-then-is_empty-clause-facts
returns-then-is_empty-clause-facts t c =
    subst (λ ls. AreLeafFacts c.args.spec.now.run ls c.in_ok-empty.field-0.facts)
    (no-leaf c.args.leaves.now (eqb-true (length c.args.leaves.now) 0 (sym c.is_empty.ensures ∙ c.if-is_empty.true)))
    (none-made c.args.spec.now.run c.in_ok-empty.field-0.facts (let e = c.in_ok-empty.ensures in λ i. (e i).facts))

pub made-requires : goal.made-requires
made-requires t c =
    let ls = c.args.leaves.now in
    let less = left-less (length ls) (some (length ls) c.if-is_empty.ensures) in
    let front = length-take (length ls / 2) ls in
    (omega (arith, c.decreases, less, front), (c.requires.unasked, lawful-left c.args.spec.now.run ls (length ls / 2) c.requires.lawful))

-- what stands from a place on, as the code cuts it
behind : (ls : List Leaf) (n : ℕ) → take (length ls - n) (drop n ls) ≡ drop n ls
behind ls n = ap (λ k. take k (drop n ls)) (sym (length-drop n ls)) ∙ take-length (drop n ls)

pub made-requires-2 : goal.made-requires-2
made-requires-2 t c =
    let ls = c.args.leaves.now in
    let more = right-less (length ls) (some (length ls) c.if-is_empty.ensures) c.if-leaves-eq1.false in
    let back : length (take (length ls - length ls / 2) (drop (length ls / 2) ls)) ≡ length ls - length ls / 2 =
    ap (λ (xs : List Leaf). length xs) (behind ls (length ls / 2)) ∙ length-drop (length ls / 2) ls in (
      omega (arith, c.decreases, more, back),
      (
        c.requires.unasked,
        subst (AllLawful c.args.spec.now.run) (sym (behind ls (length ls / 2))) (lawful-right c.args.spec.now.run ls (length ls / 2) c.requires.lawful),
      ),
    )

pub returns-clause-started : goal.returns-clause-started
returns-clause-started t c = λ _.
    let ls = c.args.leaves.now in
    let less = left-less (length ls) (some (length ls) c.if-is_empty.ensures) in
    let back : length (take (length ls - length ls / 2) (drop (length ls / 2) ls)) ≡ length ls - length ls / 2 =
    ap (λ (xs : List Leaf). length xs) (behind ls (length ls / 2)) ∙ length-drop (length ls / 2) ls in
    c.in_ok-right.ensures.started (omega (arith, less, back))

pub returns-clause-facts : goal.returns-clause-facts
returns-clause-facts t c =
    let ls = c.args.leaves.now in
    halves-made c.args.spec.now.run ls (length ls / 2) c.in_ok-left.left c.in_ok-right.right c.in_ok-union.field-0 c.in_ok-left.ensures.facts
    (subst (λ xs. AreLeafFacts c.args.spec.now.run xs c.in_ok-right.right.facts) (behind ls (length ls / 2)) c.in_ok-right.ensures.facts)
    c.in_ok-union.ensures
