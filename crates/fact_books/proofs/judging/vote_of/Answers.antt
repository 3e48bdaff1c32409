use Rattle.std.proofs.Common.{◌≡◌, ℕ, ◌+◌, ◌-◌, ◌<◌, ◌≤◌, Option, List, subst, length, rules}
use Rattle.fact_books.specs.declared.run.Tag.{Tag}
use Rattle.fact_books.specs.declared.leading.Lead.{Lead}
use Rattle.fact_books.specs.declared.leading.Lead.TheVariants.{From}
use Rattle.fact_books.specs.Sweep.{leads_of, IsLead}
use Rattle.fact_books.proofs.BlockLeads.{leads-down}
use Rattle.fact_books.proofs.FillLemmas.{from-below, vote-from, vote-nowhere}
use Rattle.fact_books.proofs.judging.vote_of.Goals as goal

-- the rank that it leads to is one of those that are done
lower : (shape : Option (List ℕ)) (first last n below : ℕ) (tag : Tag) (lead : Lead) → lead ≡ From below → first ≤ n → n < last
    → IsLead (leads_of shape) first last tag lead → below + (n - first) < n
lower shape first last n below tag lead is from to h =
    from-below (leads_of shape) (leads-down shape) first last n below tag from to (subst (IsLead (leads_of shape) first last tag) is h)

pub overflow_add-rank : goal.overflow_add-rank
overflow_add-rank c =
    let lt = lower c.args.shape.now c.args.first c.args.last (length c.args.done.now) _ c.args.tag _ c.in-From.is c.requires.from c.requires.to
    c.requires.lead in
    search rules

pub offset_bounds-done-rank : goal.offset_bounds-done-rank
offset_bounds-done-rank c =
    let lt = lower c.args.shape.now c.args.first c.args.last (length c.args.done.now) _ c.args.tag _ c.in-From.is c.requires.from c.requires.to
    c.requires.lead in
    search rules

pub bounds-done-rank : goal.bounds-done-rank
bounds-done-rank c = lower c.args.shape.now c.args.first c.args.last (length c.args.done.now) _ c.args.tag _ c.in-From.is c.requires.from c.requires.to
    c.requires.lead

pub returns-in-From : goal.returns-in-From
returns-in-From c =
    let lead = subst (IsLead (leads_of c.args.shape.now) c.args.first c.args.last c.args.tag) c.in-From.is c.requires.lead in
    vote-from c.args.outcomes.now (leads_of c.args.shape.now)
    (leads-down c.args.shape.now) c.args.done.now c.args.first c.args.last c.in-From.below c.args.tag 0
    c.requires.from c.requires.to lead c.requires.done_numbered

pub returns-in-Nowhere : goal.returns-in-Nowhere
returns-in-Nowhere c =
    let lead = subst (IsLead (leads_of c.args.shape.now) c.args.first c.args.last c.args.tag) c.in-Nowhere.is c.requires.lead in
    vote-nowhere c.args.outcomes.now (leads_of c.args.shape.now) c.args.done.now c.args.first c.args.last c.args.tag c.requires.from c.requires.to lead
