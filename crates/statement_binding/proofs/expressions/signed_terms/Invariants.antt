use Rattle.std.proofs.Common.{◌≡◌, drop}
use Rattle.sql_grammar.specs.Views.{chain_of}
use Rattle.binding_model.specs.Refusals.{with_front, each}
use Rattle.binding_model.specs.Translation.{signed}
use Rattle.statement_binding.proofs.expressions.signed_terms.Given as goal

abbrev pub invariant-loop-term : goal.invariant-loop-term
invariant-loop-term l =
    with_front l.all.items (each (λ term. signed l.table l.at (term.sign, chain_of term.term)) (drop l.term-index l.terms))
    ≡ each (λ term. signed l.table l.at (term.sign, chain_of term.term)) l.terms
