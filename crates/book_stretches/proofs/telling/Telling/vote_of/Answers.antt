use Rattle.std.proofs.Common.{sym, ◌∙◌, subst, ◌<◌}
use Rattle.rank_facts.specs.Swap.{leads_in}
use Rattle.fact_books.specs.Sweep.{IsLead}
use Rattle.fact_books.specs.declared.leading.Lead.TheVariants.{From, Nowhere}
use Rattle.book_stretches.specs.Sweep.{end}
use Rattle.book_stretches.proofs.Votes.{vote-table, vote-class, vote-missing, vote-nowhere}
use Rattle.book_stretches.proofs.telling.Telling.vote_of.Goals as goal

pub returns-in-Value : goal.returns-in-Value
returns-in-Value c =
    let x = c.args.self.now in
    let last = c.lead_of-lead.result.1 in
    let lead = subst (IsLead (leads_in x.spec.now.run) c.end.result last c.args.tag) c.in-Value.is c.lead_of-lead.ensures.lead in
    vote-table x (end x) c.args.tag c.in-Value.n c.requires.numbered lead

pub returns-in-Some : goal.returns-in-Some
returns-in-Some c =
    let x = c.args.self.now in
    let last = c.lead_of-lead.result.1 in
    let lead = subst (IsLead (leads_in x.spec.now.run) c.end.result last c.args.tag) c.in-From.is c.lead_of-lead.ensures.lead in
    vote-class x c.args.tag last c.in-From.below c.in-Some.class c.requires.telling (subst (λ r. r < last) c.end.ensures c.lead_of-lead.ensures.some)
    (subst (λ r. IsLead (leads_in x.spec.now.run) r last c.args.tag (From c.in-From.below)) c.end.ensures lead) (sym c.class_of.ensures ∙ c.in-Some.is)

pub returns-in-None : goal.returns-in-None
returns-in-None c =
    let x = c.args.self.now in
    let last = c.lead_of-lead.result.1 in
    let lead = subst (IsLead (leads_in x.spec.now.run) c.end.result last c.args.tag) c.in-From.is c.lead_of-lead.ensures.lead in
    vote-missing x c.args.tag last c.in-From.below c.requires.telling (subst (λ r. r < last) c.end.ensures c.lead_of-lead.ensures.some)
    (subst (λ r. IsLead (leads_in x.spec.now.run) r last c.args.tag (From c.in-From.below)) c.end.ensures lead) (sym c.class_of.ensures ∙ c.in-None.is)

pub returns-in-Nowhere : goal.returns-in-Nowhere
returns-in-Nowhere c =
    let x = c.args.self.now in
    let last = c.lead_of-lead.result.1 in
    let lead = subst (IsLead (leads_in x.spec.now.run) c.end.result last c.args.tag) c.in-Nowhere.is c.lead_of-lead.ensures.lead in
    vote-nowhere x c.args.tag last (subst (λ r. r < last) c.end.ensures c.lead_of-lead.ensures.some)
    (subst (λ r. IsLead (leads_in x.spec.now.run) r last c.args.tag Nowhere) c.end.ensures lead)
