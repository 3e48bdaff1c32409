use Rattle.std.proofs.Common.{ap, sym, ◌∙◌, Ok, rules}
use Rattle.sql_grammar.specs.Views.{chain_of}
use Rattle.binding_model.specs.Translation.{product, signed}
use Rattle.binding_model.specs.Refusals.{each}
use Rattle.statement_binding.proofs.ChainLemmas.{each-summed, sum_head-summed, bound-both}
use Rattle.statement_binding.proofs.expressions.expression.Goals as goal

pub returns-in_err-more : goal.returns-in_err-more
returns-in_err-more c =
    let head = sum_head-summed (chain_of c.args.sum.now.first) c.args.sum.now.more in
    let tail = each-summed (signed c.args.table.now c.args.at) (chain_of c.args.sum.now.first) c.args.sum.now.more in
    rw (head, tail) (search rules)

pub returns : goal.returns
returns c =
    let head = sum_head-summed (chain_of c.args.sum.now.first) c.args.sum.now.more in
    let tail = each-summed (signed c.args.table.now c.args.at) (chain_of c.args.sum.now.first) c.args.sum.now.more in
    let first = ap (product c.args.table.now c.args.at) head ∙ c.in_ok-first.ensures in
    let more = tail ∙ ap (each (λ s. signed c.args.table.now c.args.at (s.sign, chain_of s.term))) (sym c.as_slice.ensures) ∙ c.in_ok-more.ensures in
    bound-both _ _ (λ p ps. record { first = p; more = ps }) c.in_ok-first.first c.in_ok-more.more.items first more
    ∙ ap (λ ps. Ok (record { first = c.in_ok-first.first; more = ps })) (sym c.from_vec.ensures)
