use Rattle.std.proofs.Common.{ap, sym, ◌∙◌, arith, ◌<◌, ◌++◌, ◌∷◌, [], length, length-append}
use Rattle.std.proofs.lemmas.List.{drop_all, append-nil}
use Rattle.std.proofs.lemmas.List.Elements.{All-nil, All-push}
use Rattle.bound_specs.specs.Spec.{line}
use Rattle.bound_specs.specs.Walking.{queues_at}
use Rattle.bound_specs.proofs.WalkLemmas.{eight-zeros, queues_at-start, walk-takes, walk-skips}
use Rattle.bound_specs.proofs.walking.line_of_word.Goals as goal
use Rattle.bound_specs.proofs.walking.line_of_word.Goals.{in-Some, in_default}

pub loop-letter-init : goal.loop-letter-init
loop-letter-init c =
    rw c.new-line.ensures
    (record {
      so_far = ap (λ q. line q c.args.word.now) (queues_at-start c.args.steps.now 0 c.args.sessions _ eight-zeros);
      short = omega arith;
      known = All-nil (λ k. k < length c.args.steps.now);
    })

pub push-requires : goal.push-requires
push-requires c = (omega arith, omega arith)

pub loop-letter-preserved : goal.loop-letter-preserved
loop-letter-preserved c = elim c.match-take_step.branch [
  | in-Some w ↦
      rw w.line-is
      (rw w.push.ensures.items
      (record {
        so_far = walk-takes c.loop-letter.line.items _ _ _ c.args.word.now c.loop-letter.letter-index w.in-Some.step c.loop-letter-test.true
            w.in-Some.ensures.line c.loop-letter.invariant.so_far;
        short = omega (arith, length-append c.loop-letter.line.items (w.in-Some.step ∷ []));
        known = All-push (λ k. k < length c.args.steps.now) c.loop-letter.line.items w.in-Some.step c.loop-letter.invariant.known w.in-Some.ensures.known;
      }))
  | in_default w ↦
      rw w.line-is
      (record {
        so_far = walk-skips c.loop-letter.line.items _ _ _ c.args.word.now c.loop-letter.letter-index c.loop-letter-test.true w.in_default.ensures.line
            c.loop-letter.invariant.so_far;
        short = omega arith;
        known = c.loop-letter.invariant.known;
      })
]

pub returns-clause-line : goal.returns-clause-line
returns-clause-line c =
    sym (append-nil c.loop-letter.line.items)
    ∙ ap (λ rest. c.loop-letter.line.items ++ line (queues_at 0 c.args.sessions c.loop-letter.next c.args.steps.now) rest)
    (sym (drop_all c.loop-letter.letter-index c.args.word.now c.loop-letter-test.false))
    ∙ c.loop-letter.invariant.so_far

pub returns-clause-known : goal.returns-clause-known
returns-clause-known c = c.loop-letter.invariant.known
