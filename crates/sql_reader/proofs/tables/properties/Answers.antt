use Rattle.std.proofs.Common.{ap, arith, length-append, []}
use Rattle.std.proofs.lemmas.Result.{err_from_is_err_and}
use Rattle.std.specs.Prelude.{length, ◌∷◌}
use Rattle.sql_grammar.specs.Lexing.{views}
use Rattle.sql_grammar.specs.Reading.{begins_property, property}
use Rattle.sql_reader.proofs.Loops.{many-next, many-stops, many-err}
use Rattle.sql_reader.proofs.tables.properties.Goals as goal

pub returns-in_err-next-clause-reads : goal.returns-in_err-next-clause-reads
returns-in_err-next-clause-reads c =
    let p = err_from_is_err_and c.from_residual-in_err-next.result c.from_residual-in_err-next.ensures.1 in
    rw (p.1, p.2)
    (many-err begins_property property c.all.properties.items c.all.rest.now c.args.tokens.now _ _ c.all.invariant.shorter c.all.invariant.so_far
    c.in_err-next.ensures.reads)

pub all-preserved : goal.all-preserved
all-preserved c =
    let read = rw c.in-Some-2.is at c.in_ok-next.ensures.reads in
    let less = rw c.in-Some-2.is at c.in_ok-next.ensures.shorter in
    record {
      so_far = many-next begins_property property c.all.properties.items _ c.in-Some-2.next c.all.rest.now c.args.tokens.now
          (views c.in-Some-2.behind.now) _ c.in_ok-push-2.ensures.items c.all.invariant.shorter c.all.invariant.so_far read;
      shorter = omega (
        arith,
        ap length c.in_ok-push-2.ensures.items,
        length-append c.all.properties.items (c.in-Some-2.next ∷ []),
        less,
        c.all.invariant.shorter,
      );
    }

pub returns-clause-reads : goal.returns-clause-reads
returns-clause-reads c =
    let read = rw c.in_default-2.is at c.in_ok-next.ensures.reads in
    rw c.from_vec-2.ensures
    (many-stops begins_property property c.all.properties.items c.all.rest.now c.args.tokens.now _ c.all.invariant.shorter c.all.invariant.so_far read)
