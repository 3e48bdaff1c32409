use Rattle.std.proofs.Common.{ap, sym, ◌∙◌, ◌-◌, arith}
use Rattle.std.proofs.lemmas.Result.{err_from_is_err_and}
use Rattle.std.specs.Prelude.{codes, length}
use Rattle.sql_grammar.specs.Tokens.{Key}
use Rattle.sql_grammar.specs.Tree.{Single, And, Alone, Or}
use Rattle.sql_grammar.specs.Lexing.{views}
use Rattle.sql_grammar.specs.Views.{view_atom, view_part}
use Rattle.sql_grammar.specs.Reading.{the, atom, part_of}
use Rattle.sql_reader.proofs.ExpressionLemmas.{group-opens}
use Rattle.sql_reader.proofs.Loops.{starts_with, next, err, fits}
use Rattle.sql_reader.proofs.conditions.+condition.Goals as goal

pub part_of-returns-in_err-next-clause-reads : goal.part_of-returns-in_err-next-clause-reads
part_of-returns-in_err-next-clause-reads t c =
    let p = err_from_is_err_and c.from_residual-in_err-next.result c.from_residual-in_err-next.ensures.1 in
    rw (p.1, p.2)
    (err Single (λ a u p. And a p) (the (Key (codes "and"))) (λ k. atom c.args.levels) (λ x. tt {0}) view_atom
    _ c.ands.more.items c.ands.rest.now c.in-Some.after.now c.args.tokens.now _ tt _ c.in-Some.ensures c.ands.invariant.shorter c.ands.invariant.so_far
    c.in_err-next.ensures.reads)

pub part_of-ands-preserved : goal.part_of-ands-preserved
part_of-ands-preserved t c = record {
  so_far = next Single (λ a u p. And a p) (the (Key (codes "and"))) (λ k. atom c.args.levels) (λ x. tt {0}) view_atom
      _ c.ands.more.items _ c.ands.rest.now c.in-Some.after.now c.args.tokens.now _ _ _ c.in_ok-push.ensures.items c.in-Some.ensures
      c.ands.invariant.shorter c.ands.invariant.so_far c.in_ok-next.ensures.reads;
  shorter = fits c.ands.more.items _ _ c.ands.rest.now c.in-Some.after.now _ c.args.tokens.now c.in_ok-push.ensures.items c.in-Some.ensures.shorter
      c.in_ok-next.ensures.shorter c.ands.invariant.shorter;
}

pub part_of-ands-init : goal.part_of-ands-init
part_of-ands-init t c = record {
  so_far = starts_with Single (λ a u p. And a p) (the (Key (codes "and"))) (λ k. atom c.args.levels) (λ x. tt {0}) view_atom (views c.args.tokens.now) _ _
      (views c.in_ok-first.rest.now) c.new-more.ensures.items c.in_ok-first.ensures.reads;
  shorter = omega (arith, ap length c.new-more.ensures.items, c.in_ok-first.ensures.shorter);
}

pub condition_of-returns-in_err-next-clause-reads : goal.condition_of-returns-in_err-next-clause-reads
condition_of-returns-in_err-next-clause-reads t c =
    let p = err_from_is_err_and c.from_residual-in_err-next.result c.from_residual-in_err-next.ensures.1 in
    rw (p.1, p.2)
    (err Alone (λ p u c. Or p c) (the (Key (codes "or"))) (λ k. part_of (atom c.args.levels)) (λ x. tt {0}) view_part
    _ c.ors.more.items c.ors.rest.now c.in-Some.after.now c.args.tokens.now _ tt _ c.in-Some.ensures c.ors.invariant.shorter c.ors.invariant.so_far
    c.in_err-next.ensures.reads)

pub condition_of-ors-preserved : goal.condition_of-ors-preserved
condition_of-ors-preserved t c = record {
  so_far = next Alone (λ p u c. Or p c) (the (Key (codes "or"))) (λ k. part_of (atom c.args.levels)) (λ x. tt {0}) view_part
      _ c.ors.more.items _ c.ors.rest.now c.in-Some.after.now c.args.tokens.now _ _ _ c.in_ok-push.ensures.items c.in-Some.ensures c.ors.invariant.shorter
      c.ors.invariant.so_far c.in_ok-next.ensures.reads;
  shorter = fits c.ors.more.items _ _ c.ors.rest.now c.in-Some.after.now _ c.args.tokens.now c.in_ok-push.ensures.items c.in-Some.ensures.shorter
      c.in_ok-next.ensures.shorter c.ors.invariant.shorter;
}

pub condition_of-ors-init : goal.condition_of-ors-init
condition_of-ors-init t c = record {
  so_far = starts_with Alone (λ p u c. Or p c) (the (Key (codes "or"))) (λ k. part_of (atom c.args.levels)) (λ x. tt {0}) view_part
      (views c.args.tokens.now) _ _ (views c.in_ok-first.rest.now) c.new-more.ensures.items c.in_ok-first.ensures.reads;
  shorter = omega (arith, ap length c.new-more.ensures.items, c.in_ok-first.ensures.shorter);
}

pub atom-returns-else-levels-eq0-2-clause-reads : goal.atom-returns-else-levels-eq0-2-clause-reads
atom-returns-else-levels-eq0-2-clause-reads t c =
    rw (group-opens c.args.levels (c.args.levels - 1) (views c.args.tokens.now) (omega (arith, c.if-levels-eq0-2.false)) (sym c.at_key.ensures
    ∙ c.if-at_key.false) (sym c.at_sign.ensures ∙ c.if-at_sign.true))
    c.group.ensures.reads
