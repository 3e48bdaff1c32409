use Rattle.std.proofs.Common.{◌≡◌, sym, ap, ◌∙◌, subst, ◌≤◌, arith, rules, ℕ, List}
use Rattle.fact_books.specs.Runs.{has, firsts, IsRising, AllFrom, AllTo}
use Rattle.fact_books.proofs.RunLemmas.{has-grown, list_any-set_more, firsts-set, firsts-push, IsRising-push, AllFrom-push, AllTo-push, AllSound-set}
use Rattle.fact_books.proofs.RunLemmas.{AllSound-push}
use Rattle.fact_books.proofs.run.add_run.Goals as goal

pub returns-then-run-old-clause-facts : goal.returns-then-run-old-clause-facts
returns-then-run-old-clause-facts c =
    λ table e. list_any-set_more (has table e) (has table e c.args.run) c.args.runs.now.items c.args.hint _ c.index-old.result.now (omega arith)
    (rw (← c.index-old.ensures, c.max.ensures)
    (has-grown table e c.index-old.result.now c.args.run (c.if-is.ensures.0 Rattle.std.proofs.Common.refl) c.if-old-run.true c.if-run-old.true))

pub returns-then-run-old-clause-rising : goal.returns-then-run-old-clause-rising
returns-then-run-old-clause-rising c =
    subst IsRising (sym (firsts-set c.args.runs.now.items c.args.hint _ c.index-old.result.now (omega arith)
    (ap (λ r. r.first) c.index-old.ensures))) c.requires.rising

pub returns-then-run-old-clause-low : goal.returns-then-run-old-clause-low
returns-then-run-old-clause-low c =
    subst (AllTo c.args.run.first)
    (sym (firsts-set c.args.runs.now.items c.args.hint _ c.index-old.result.now (omega arith) (ap (λ r. r.first) c.index-old.ensures))) c.requires.low

pub returns-clause-rising : goal.returns-clause-rising
returns-clause-rising c =
    subst (λ xs. IsRising (firsts xs)) (sym c.in_ok-push.ensures.items)
    (subst IsRising (sym (firsts-push _ c.args.run)) (IsRising-push _ _ c.requires.rising c.requires.low))

pub returns-clause-low : goal.returns-clause-low
returns-clause-low c =
    subst (λ xs. AllTo c.args.run.first (firsts xs)) (sym c.in_ok-push.ensures.items)
    (subst (AllTo c.args.run.first) (sym (firsts-push _ c.args.run)) (AllTo-push _ _ _ c.requires.low (omega arith)))

pub returns-then-run-old-clause-sound : goal.returns-then-run-old-clause-sound
returns-then-run-old-clause-sound c =
    λ n a s. AllSound-set n c.args.runs.now.items c.args.hint _ c.index-old.result.now (omega arith) a
    (λ old. (
      subst (λ r. Rattle.fact_books.specs.Runs.IsNumbered n r.tag) (sym c.index-old.ensures) old.0,
      omega
          (arith, old.1, ap (λ r. r.end) c.index-old.ensures, ap (λ r. r.first) c.index-old.ensures),
    ))

pub returns-clause-sound : goal.returns-clause-sound
returns-clause-sound c = λ n a s. subst (Rattle.fact_books.specs.Runs.AllSound n) (sym c.in_ok-push.ensures.items) (AllSound-push n _ c.args.run a s)

pub returns-then-run-old-clause-from : goal.returns-then-run-old-clause-from
returns-then-run-old-clause-from c =
    λ low a le. subst (AllFrom low)
    (sym (firsts-set c.args.runs.now.items c.args.hint _ c.index-old.result.now (omega arith) (ap (λ r. r.first) c.index-old.ensures))) a

pub returns-clause-from : goal.returns-clause-from
returns-clause-from c =
    λ low a le. subst (λ xs. AllFrom low (firsts xs)) (sym c.in_ok-push.ensures.items)
    (subst (AllFrom low) (sym (firsts-push _ c.args.run)) (AllFrom-push low _ c.args.run.first a le))
