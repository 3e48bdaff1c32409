use Rattle.std.proofs.Common.{◌≡◌, sym, ap, ◌∙◌, subst, ◌+◌, ◌-◌, [], ◌∷◌, ◌++◌, length, Some, arith}
use Rattle.perm_ranks.specs.Blocks.{Block, narrowed}
use Rattle.fact_books.specs.declared.run.Tag.TheVariants.{Swap}
use Rattle.fact_books.specs.declared.leading.Lead.TheVariants.{From}
use Rattle.fact_books.specs.Sweep.{leads_of, IsLead}
use Rattle.fact_books.proofs.BlockLeads.{nowhere-lead, from-lead}
use Rattle.fact_books.proofs.leading.pair_lead.Goals as goal

pub returns-then-second-first-clause-lead : goal.returns-then-second-first-clause-lead
returns-then-second-first-clause-lead c = λ counts shared is.
    let a = c.at-first.result.0 in
    let b = c.at-second.result.0 in
    nowhere-lead counts shared a b c.args.rank c.min-last.result c.at-second.result.1 c.at-second.ensures.inside
    (omega (arith, c.min-last.ensures, c.end.ensures.end))
    (c.at-second.ensures.block counts (shared ++ a ∷ []) (c.at-first.ensures.block counts shared is)) c.if-second-first.true

pub returns-clause-lead : goal.returns-clause-lead
returns-clause-lead c = λ counts shared is.
    let a = c.at-first.result.0 in
    let b = c.at-second.result.0 in
    let from : c.first.result ≡ c.narrowed-other.result.first = c.first.ensures in
    let at : c.first-2.result ≡ c.at-second.result.1.first = c.first-2.ensures in
    subst (λ n. IsLead (leads_of (Some counts)) c.args.rank c.min-last.result (Swap (length shared)) (From n)) (λ i. sym from i + (c.args.rank - sym at i))
    (from-lead counts shared a b c.args.rank c.min-last.result c.at-second.result.1 c.at-second.ensures.inside
    (omega (arith, c.min-last.ensures, c.end.ensures.end))
    (c.at-second.ensures.block counts (shared ++ a ∷ []) (c.at-first.ensures.block counts shared is))
    c.args.block.now c.at-first.result.1 c.narrowed-other.result c.at-first.ensures.narrowed c.at-second.ensures.narrowed
    (c.narrowed-other.ensures.narrowed ∙ ap (λ (x : Block). narrowed x a) c.narrowed.ensures.narrowed)
    (c.narrowed-other.ensures.block counts (shared ++ b ∷ []) (c.narrowed.ensures.block counts shared is)) c.if-second-first.false)
