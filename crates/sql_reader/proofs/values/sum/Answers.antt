use Rattle.std.proofs.Common.{ap, arith}
use Rattle.std.proofs.lemmas.Result.{err_from_is_err_and}
use Rattle.std.specs.Prelude.{length}
use Rattle.sql_grammar.specs.Tree.{Only, Then}
use Rattle.sql_grammar.specs.Lexing.{views}
use Rattle.sql_grammar.specs.Views.{chain_of}
use Rattle.sql_grammar.specs.Reading.{term, add_sign}
use Rattle.sql_reader.proofs.Loops.{starts_with, next, err, fits}
use Rattle.sql_reader.proofs.values.sum.Goals as goal

pub returns-in_err-term-clause-reads : goal.returns-in_err-term-clause-reads
returns-in_err-term-clause-reads c =
    let p = err_from_is_err_and c.from_residual-in_err-term.result c.from_residual-in_err-term.ensures.1 in
    rw (p.1, p.2)
    (err Only Then add_sign (λ k. term) (λ t. t.sign) (λ t. chain_of t.term)
    _ c.signs.more.items c.signs.rest.now c.in-Some.after.now c.args.tokens.now _ _ _ c.in-Some.ensures c.signs.invariant.shorter c.signs.invariant.so_far
    c.in_err-term.ensures.reads)

pub signs-preserved : goal.signs-preserved
signs-preserved c = record {
  so_far = next Only Then add_sign (λ k. term) (λ t. t.sign) (λ t. chain_of t.term)
      _ c.signs.more.items _ c.signs.rest.now c.in-Some.after.now c.args.tokens.now _ _ _ c.in_ok-push.ensures.items c.in-Some.ensures
      c.signs.invariant.shorter c.signs.invariant.so_far c.in_ok-term.ensures.reads;
  shorter = fits c.signs.more.items _ _ c.signs.rest.now c.in-Some.after.now _ c.args.tokens.now c.in_ok-push.ensures.items c.in-Some.ensures.shorter
      c.in_ok-term.ensures.shorter c.signs.invariant.shorter;
}

pub signs-init : goal.signs-init
signs-init c = record {
  so_far = starts_with Only Then add_sign (λ k. term) (λ t. t.sign) (λ t. chain_of t.term) (views c.args.tokens.now) _ _ (views c.in_ok-first.rest.now)
      c.new-more.ensures.items c.in_ok-first.ensures.reads;
  shorter = omega (arith, ap length c.new-more.ensures.items, c.in_ok-first.ensures.shorter);
}
