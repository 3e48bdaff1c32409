use Rattle.std.proofs.Common.{refl, sym, ap, ◌∙◌, subst, length, rules, ◌-◌}
use Rattle.std.specs.FinSet.{union, from_list}
use Rattle.fact_books.specs.Runs.{AllTo, firsts, repeated}
use Rattle.fact_books.specs.Books.{IsKept, facts_in}
use Rattle.fact_books.specs.Building.{Building}
use Rattle.fact_books.proofs.KnownLemmas.{inside-more, known-more}
use Rattle.fact_books.proofs.RunLemmas.{AllTo-more}
use Rattle.fact_books.proofs.PushLemmas.{pushed, kept-more, same-facts-more}
use Rattle.fact_books.proofs.builder.Builder.push.Goals as goal

pub add_run-requires-clause-low : goal.add_run-requires-clause-low
add_run-requires-clause-low c = AllTo-more _ _ _ c.requires.in_order (search rules)

pub invariant_of-self : goal.invariant_of-self
invariant_of-self c = record {
  kept = kept-more _ _ _ c.tag_of.ensures.extends c.self.invariant.kept;
  before = c.self.invariant.before;
  inside = inside-more _ _ _ c.tag_of.ensures.extends c.self.invariant.inside;
}

pub returns-in_err-tag-clause-err : goal.returns-in_err-tag-clause-err
returns-in_err-tag-clause-err c =
    let same = same-facts-more _ _ c.self.inside.runs.items c.tag_of.ensures.extends c.self.invariant.kept.sound in
    let known = known-more _ _ c.self.inside.known.places.items c.tag_of.ensures.extends c.self.invariant.inside in
    let is = (λ i. record { facts = same i; next = c.self.inside.next; known = known i }) ∙ c.self.view_is in
    search rules

pub invariant_of-self-in_err-add_run : goal.invariant_of-self-in_err-add_run
invariant_of-self-in_err-add_run c =
    let e = c.in_err-add_run.ensures.err in
    record {
      kept = subst (IsKept c.tag_of.new.table) (sym e) (kept-more _ _ _ c.tag_of.ensures.extends c.self.invariant.kept);
      before = subst
          (λ rs. AllTo c.self.inside.next (firsts rs)) (sym e) c.self.invariant.before;
      inside = inside-more _ _ _ c.tag_of.ensures.extends c.self.invariant.inside;
    }

pub returns-in_err-add_run-clause-err : goal.returns-in_err-add_run-clause-err
returns-in_err-add_run-clause-err c =
    let same = ap (facts_in c.tag_of.new.table) c.in_err-add_run.ensures.err
    ∙ same-facts-more _ _ c.self.inside.runs.items c.tag_of.ensures.extends c.self.invariant.kept.sound in
    let known = known-more _ _ c.self.inside.known.places.items c.tag_of.ensures.extends c.self.invariant.inside in
    let is = (λ i. record { facts = same i; next = c.self.inside.next; known = known i }) ∙ c.self.view_is in
    search rules

pub invariant_of-self-2 : goal.invariant_of-self-2
invariant_of-self-2 c =
    let a = c.in_ok-add_run.ensures in
    let k = kept-more _ _ _ c.tag_of.ensures.extends c.self.invariant.kept in
    record {
      kept = record { rising = a.rising; sound = a.sound (length c.tag_of.new.table) k.sound (c.in_ok-tag.ensures.numbered, c.requires.some) };
      before = a.low;
      inside = inside-more _ _ _ c.tag_of.ensures.extends c.self.invariant.inside;
    }

pub returns-clause-ok : goal.returns-clause-ok
returns-clause-ok c =
    let facts = pushed _ _ _ _ _ c.args.first c.args.end c.args.fact.now c.tag_of.ensures.extends c.self.invariant.kept.sound refl refl c.in_ok-tag.ensures.fact
    c.in_ok-add_run.ensures.facts in
    let known = known-more _ _ c.self.inside.known.places.items c.tag_of.ensures.extends c.self.invariant.inside in
    (λ i. record { facts = facts i; next = c.args.first; known = known i })
    ∙ ap (λ (b : Building). record b {
      facts = union b.facts
          (from_list (repeated c.args.first (c.args.end - c.args.first) c.args.fact.now));
      next = c.args.first;
    }) c.self.view_is
