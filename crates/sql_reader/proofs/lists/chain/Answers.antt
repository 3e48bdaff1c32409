use Rattle.std.proofs.Common.{◌≡◌, ◌+◌, suc, ap, arith}
use Rattle.std.proofs.lemmas.Result.{err_from_is_err_and}
use Rattle.std.specs.Prelude.{length}
use Rattle.sql_grammar.specs.Tokens.{Sign}
use Rattle.sql_grammar.specs.Tree.{Last, More}
use Rattle.sql_grammar.specs.Lexing.{views}
use Rattle.sql_grammar.specs.Reading.{the}
use Rattle.sql_reader.proofs.Loops.{starts_with, next, err, fits}
use Rattle.sql_reader.proofs.lists.chain.Goals as goal

pub returns-in_err-next-clause-reads : goal.returns-in_err-next-clause-reads
returns-in_err-next-clause-reads g c =
    let p = err_from_is_err_and c.from_residual-in_err-next.result c.from_residual-in_err-next.ensures.1 in
    rw (p.1, p.2)
    (err Last (λ a u l. More a l) (the (Sign c.args.sign.now)) g.T.Item.rule (λ x. tt {0}) g.T.Item.view
    _ c.items.more.items c.items.rest.now c.in-Some.after.now c.args.tokens.now _ tt _ c.in-Some.ensures c.items.invariant.shorter
    c.items.invariant.so_far (let same : c.len.result + 1 ≡ suc (length c.items.more.items) = omega (arith, c.len.ensures) in
    rw same at c.in_err-next.ensures.reads))

pub items-preserved : goal.items-preserved
items-preserved g c = record {
  so_far = next Last (λ a u l. More a l) (the (Sign c.args.sign.now)) g.T.Item.rule (λ x. tt {0}) g.T.Item.view
      _ c.items.more.items _ c.items.rest.now c.in-Some.after.now c.args.tokens.now _ _ _ c.in_ok-push.ensures.items c.in-Some.ensures
      c.items.invariant.shorter c.items.invariant.so_far (let same : c.len.result + 1 ≡ suc (length c.items.more.items) =
      omega (arith, c.len.ensures) in rw same at c.in_ok-next.ensures.reads);
  shorter = fits c.items.more.items _ _ c.items.rest.now c.in-Some.after.now _ c.args.tokens.now c.in_ok-push.ensures.items c.in-Some.ensures.shorter
      c.in_ok-next.ensures.shorter c.items.invariant.shorter;
}

pub items-init : goal.items-init
items-init g c = record {
  so_far = starts_with Last (λ a u l. More a l) (the (Sign c.args.sign.now)) g.T.Item.rule (λ x. tt {0}) g.T.Item.view (views c.args.tokens.now) _ _
      (views c.in_ok-first.rest.now) c.new-more.ensures.items c.in_ok-first.ensures.reads;
  shorter = omega (arith, ap length c.new-more.ensures.items, c.in_ok-first.ensures.shorter);
}
