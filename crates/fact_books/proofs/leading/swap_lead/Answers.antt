use Rattle.std.proofs.Common.{◌≡◌, ap, subst, ◌∙◌, Some, arith}
use Rattle.perm_ranks.specs.Words.{total}
use Rattle.perm_ranks.specs.Blocks.{Block, end_of}
use Rattle.fact_books.specs.declared.run.Tag.TheVariants.{Swap}
use Rattle.fact_books.specs.Sweep.{leads_of, IsLead}
use Rattle.fact_books.proofs.BlockLeads.{short-lead}
use Rattle.fact_books.proofs.leading.swap_lead.Goals as goal

pub returns-then-place-letters_left-clause-lead : goal.returns-then-place-letters_left-clause-lead
returns-then-place-letters_left-clause-lead c =
    let all : c.letters_left.result ≡ total c.args.shape.now = c.letters_left.ensures.all ∙ ap (λ (b : Block). total b.left) c.block-block.ensures.all in
    short-lead c.args.shape.now c.args.rank c.args.until c.args.place (omega (arith, all, c.if-place-letters_left.true))

pub shared_block-requires-clause-has : goal.shared_block-requires-clause-has
shared_block-requires-clause-has c =
    let all = ap (λ (b : Block). end_of b) c.block-block.ensures.all in
    omega (arith, all, c.end.ensures.end, c.if-rank-end.false)

pub shared_block-requires-clause-letters : goal.shared_block-requires-clause-letters
shared_block-requires-clause-letters c =
    let all : c.letters_left.result ≡ total c.args.shape.now = c.letters_left.ensures.all ∙ ap (λ (b : Block). total b.left) c.block-block.ensures.all in
    omega (arith, all, c.if-place-letters_left.false)

pub pair_lead-requires-clause-has : goal.pair_lead-requires-clause-has
pair_lead-requires-clause-has c = c.shared_block.ensures.has

pub pair_lead-requires-clause-letters : goal.pair_lead-requires-clause-letters
pair_lead-requires-clause-letters c =
    let all : c.letters_left.result ≡ total c.args.shape.now = c.letters_left.ensures.all ∙ ap (λ (b : Block). total b.left) c.block-block.ensures.all in
    omega (arith, all, c.if-place-letters_left.false, c.shared_block.ensures.long, c.shared_block.ensures.is_block.letters)

pub returns-clause-lead : goal.returns-clause-lead
returns-clause-lead c =
    let shared = c.shared_block.ensures in
    subst (λ n. IsLead (leads_of (Some c.args.shape.now)) c.args.rank c.pair_lead.result.1 (Swap n) c.pair_lead.result.0) shared.long
    (c.pair_lead.ensures.lead c.args.shape.now shared.shared shared.is_block)
