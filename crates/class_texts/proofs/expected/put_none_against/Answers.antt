use Rattle.std.proofs.Common.{codes}
use Rattle.class_texts.specs.Counted.{counted}
use Rattle.class_texts.proofs.FlatLemmas.{two}
use Rattle.class_texts.proofs.expected.put_none_against.Goals as goal

-- both parts are put
pub returns : goal.returns
returns c =
    two c.put_counted.result c.args.line.now (codes ": no counterexample in ") (counted c.args.orders (codes "order") (codes "orders")) _ _ c.in_ok-put.ensures
    c.put_counted.ensures
