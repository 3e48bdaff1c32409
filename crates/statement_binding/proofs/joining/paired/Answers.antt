use Rattle.std.proofs.Common.{◌≡◌, ap, sym, ◌∙◌, [], rules}
use Rattle.std.proofs.lemmas.Iterator.Adapters.{YieldsList-from_vec}
use Rattle.std.proofs.lemmas.Iterator.Consumers.{YieldsList-end}
use Rattle.binding_model.specs.Translation.{paired}
use Rattle.statement_binding.proofs.ChainLemmas.{map-same}
use Rattle.statement_binding.proofs.JoinLemmas.{last-waits}
use Rattle.statement_binding.proofs.joining.paired.Goals as goal

pub returns : goal.returns
returns c =
    let all_of = YieldsList-from_vec {s = c.into_iter-part-iterator.result} c.args.parts.items (search rules) (search rules) in
    let t = YieldsList-end all_of c.loop-part.yielded c.loop-part.part-iterator c.loop-part.yielded_by c.next.result c.next.new.self c.in-None.is
    c.next.ensures.steps in
    let all : c.loop-part.yielded ≡ c.args.parts.items = sym (map-same c.loop-part.yielded) ∙ t.0 in
    last-waits c.args.joint c.loop-part.pairs.items c.loop-part.waiting c.loop-part.yielded c.push_last.new.pairs.items c.in_ok-push_last.ensures
    (c.loop-part.invariant []) ∙ ap (paired c.args.joint) all
