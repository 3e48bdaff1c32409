use Rattle.std.proofs.Common.{◌≡◌, refl, subst, ℕ, ◌<◌, ◌≤◌, ◌+◌, ◌-◌, arith}
use Rattle.std.proofs.lemmas.Result.{on_ok_weaker}
use Rattle.rank_facts.specs.Swap.{leads_in}
use Rattle.fact_books.specs.declared.leading.Lead.{Lead}
use Rattle.fact_books.specs.declared.leading.Lead.TheVariants.{Value, From, Nowhere}
use Rattle.fact_books.specs.declared.run.Tag.{Tag}
use Rattle.fact_books.specs.Sweep.{IsLead}
use Rattle.book_stretches.specs.declared.telling.Telling.{Telling}
use Rattle.book_stretches.specs.Sweep.{end}
use Rattle.book_stretches.proofs.Giving.{lead-value, lead-nowhere, lead-told, lead-less}
use Rattle.book_stretches.proofs.Going.{copied-told, moved-on}
use Rattle.book_stretches.proofs.telling.Telling.tell_block.Goals as goal

-- where the tag leads from the next rank on
leads : (x : Telling) (at last : ℕ) (tag : Tag) (lead known : Lead) → at ≡ end x → IsLead (leads_in x.spec.now.run) at last tag lead → lead ≡ known
    → IsLead (leads_in x.spec.now.run) (end x) last tag known
leads x at last tag lead known here h is =
    subst (IsLead (leads_in x.spec.now.run) (end x) last tag) is (subst (λ r. IsLead (leads_in x.spec.now.run) r last tag lead) here h)

pub push_outcome-requires-clause-one : goal.push_outcome-requires-clause-one
push_outcome-requires-clause-one c =
    let x = c.args.self.now in
    let last = c.lead_of-lead.result.1 in
    let e = c.lead_of-lead.ensures in
    lead-value x c.args.run c.args.until c.requires.say last c.in-Value.n (subst (λ r. r < last) c.end-at.ensures e.some) e.few
    (leads x c.end-at.result last c.args.run.tag c.lead_of-lead.result.0 (Value c.in-Value.n) c.end-at.ensures e.lead c.in-Value.is)

pub push_none-requires-clause-nothing : goal.push_none-requires-clause-nothing
push_none-requires-clause-nothing c =
    let x = c.args.self.now in
    let last = c.lead_of-lead.result.1 in
    let e = c.lead_of-lead.ensures in
    lead-nowhere x c.args.run c.args.until c.requires.say last (subst (λ r. r < last) c.end-at.ensures e.some) e.few
    (leads x c.end-at.result last c.args.run.tag c.lead_of-lead.result.0 Nowhere c.end-at.ensures e.lead c.in-Nowhere.is)

pub overflow_sub-at : goal.overflow_sub-at
overflow_sub-at c =
    let x = c.args.self.now in
    let last = c.lead_of-lead.result.1 in
    let e = c.lead_of-lead.ensures in
    let less = lead-less x c.args.run c.args.until c.requires.say last c.in-From.from (subst (λ r. r < last) c.end-at.ensures e.some)
    (leads x c.end-at.result last c.args.run.tag c.lead_of-lead.result.0 (From c.in-From.from) c.end-at.ensures e.lead c.in-From.is) in
    omega (arith, less, c.end-at.ensures)

pub copy-requires-clause-some : goal.copy-requires-clause-some
copy-requires-clause-some c =
    let x = c.args.self.now in
    let last = c.lead_of-lead.result.1 in
    let e = c.lead_of-lead.ensures in
    let less = lead-less x c.args.run c.args.until c.requires.say last c.in-From.from (subst (λ r. r < last) c.end-at.ensures e.some)
    (leads x c.end-at.result last c.args.run.tag c.lead_of-lead.result.0 (From c.in-From.from) c.end-at.ensures e.lead c.in-From.is) in
    omega (arith, less, c.end-at.ensures, c.min.ensures, c.saturating_add.ensures, e.some, e.few, c.ranges.until.fits)

pub copy-requires-clause-inside : goal.copy-requires-clause-inside
copy-requires-clause-inside c =
    let x = c.args.self.now in
    let last = c.lead_of-lead.result.1 in
    let e = c.lead_of-lead.ensures in
    let less = lead-less x c.args.run c.args.until c.requires.say last c.in-From.from (subst (λ r. r < last) c.end-at.ensures e.some)
    (leads x c.end-at.result last c.args.run.tag c.lead_of-lead.result.0 (From c.in-From.from) c.end-at.ensures e.lead c.in-From.is) in
    omega (arith, less, c.end-at.ensures, c.min.ensures, c.saturating_add.ensures)

pub returns-in-Value : goal.returns-in-Value
returns-in-Value c =
    let x = c.args.self.now in
    let last = c.lead_of-lead.result.1 in
    let e = c.lead_of-lead.ensures in
    on_ok_weaker c.push_outcome.result
    (λ moved. moved-on x c.push_outcome.new.self last c.args.until moved (subst (λ r. r < last) c.end-at.ensures e.some) e.few) c.push_outcome.ensures

pub returns-in-Nowhere : goal.returns-in-Nowhere
returns-in-Nowhere c =
    let x = c.args.self.now in
    let last = c.lead_of-lead.result.1 in
    let e = c.lead_of-lead.ensures in
    on_ok_weaker c.push_none.result
    (λ moved. moved-on x c.push_none.new.self last c.args.until moved (subst (λ r. r < last) c.end-at.ensures e.some) e.few) c.push_none.ensures

pub returns-in-From : goal.returns-in-From
returns-in-From c =
    let x = c.args.self.now in
    let z : Telling = record x { stretches = c.copy.new.self } in
    let last = c.lead_of-lead.result.1 in
    let from = c.in-From.from in
    let to = c.min.result in
    let e = c.lead_of-lead.ensures in
    let lead = leads x c.end-at.result last c.args.run.tag c.lead_of-lead.result.0 (From from) c.end-at.ensures e.lead c.in-From.is in
    let less = lead-less x c.args.run c.args.until c.requires.say last from (subst (λ r. r < last) c.end-at.ensures e.some) lead in
    let some : end x < to = omega (arith, less, c.end-at.ensures, c.min.ensures, c.saturating_add.ensures, e.some, e.few, c.ranges.until.fits) in
    let inside : from + (to - end x) ≤ end x = omega (arith, less, c.end-at.ensures, c.min.ensures, c.saturating_add.ensures) in
    on_ok_weaker c.copy.result
    (λ copied. moved-on x z to c.args.until
    (copied-told x z from to c.requires.telling inside
    (λ r class le lt told. lead-told x c.args.run c.args.until c.requires.say last from r class e.few lead le (omega (arith, lt, c.min.ensures)) told)
    copied (record { same = record { file = refl; outcomes = refl; runs = refl }; classes = refl; told = refl }))
    some (omega (arith, c.min.ensures, e.few))) c.copy.ensures.ok
