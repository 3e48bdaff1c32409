use Rattle.std.proofs.Common.{refl, sym, ap, ◌∙◌, subst, length, rules, ◌-◌}
use Rattle.std.specs.FinSet.{union, from_list}
use Rattle.rank_facts.specs.declared.fact.Fact.TheVariants.{Ran}
use Rattle.fact_books.specs.declared.run.Run.{Run}
use Rattle.fact_books.specs.declared.run.Tag.TheVariants.{Ran as Tagged}
use Rattle.fact_books.specs.Runs.{AllTo, firsts, repeated}
use Rattle.fact_books.specs.Books.{IsKept, facts_in}
use Rattle.fact_books.specs.Building.{Building}
use Rattle.fact_books.specs.Known.{known_in, KnowsAtMost, MayName}
use Rattle.fact_books.proofs.RunLemmas.{AllTo-more}
use Rattle.fact_books.proofs.PushLemmas.{pushed, kept-more, same-facts-more}
use Rattle.fact_books.proofs.builder.Builder.push_known.Goals as goal

pub known_place-requires-clause-name : goal.known_place-requires-clause-name
known_place-requires-clause-name c =
    subst (λ (b : Building). MayName b.known c.args.number c.args.outcome.now) (sym c.self.view_is) c.requires.name

pub invariant_of-self : goal.invariant_of-self
invariant_of-self c = record {
  kept = kept-more _ _ _ c.known_place.ensures.extends c.self.invariant.kept;
  before = c.self.invariant.before;
  inside = c.known_place.ensures.inside;
}

pub returns-in_err-place-clause-err : goal.returns-in_err-place-clause-err
returns-in_err-place-clause-err c =
    let known = known_in c.known_place.new.table c.known_place.new.known.places.items in
    let same = same-facts-more _ _ c.self.inside.runs.items c.known_place.ensures.extends c.self.invariant.kept.sound in
    let is = (λ i. record { facts = same i; next = c.self.inside.next; known = known })
    ∙ ap (λ (b : Building). record b { known = known }) c.self.view_is in
    search rules

pub returns-in_err-place-clause-more : goal.returns-in_err-place-clause-more
returns-in_err-place-clause-more c =
    let known = known_in c.known_place.new.table c.known_place.new.known.places.items in
    subst (λ (b : Building). KnowsAtMost b.known c.args.number c.args.outcome.now known) c.self.view_is c.known_place.ensures.more

pub add_run-requires-clause-low : goal.add_run-requires-clause-low
add_run-requires-clause-low c = AllTo-more _ _ _ c.requires.in_order (search rules)

pub invariant_of-self-in_err-add_run : goal.invariant_of-self-in_err-add_run
invariant_of-self-in_err-add_run c =
    let e = c.in_err-add_run.ensures.err in
    record {
      kept = subst (IsKept c.known_place.new.table) (sym e) (kept-more _ _ _ c.known_place.ensures.extends c.self.invariant.kept);
      before = subst (λ rs. AllTo c.self.inside.next (firsts rs)) (sym e) c.self.invariant.before;
      inside = c.known_place.ensures.inside;
    }

pub returns-in_err-add_run-clause-err : goal.returns-in_err-add_run-clause-err
returns-in_err-add_run-clause-err c =
    let known = known_in c.known_place.new.table c.known_place.new.known.places.items in
    let same = ap (facts_in c.known_place.new.table) c.in_err-add_run.ensures.err
    ∙ same-facts-more _ _ c.self.inside.runs.items c.known_place.ensures.extends c.self.invariant.kept.sound in
    let is = (λ i. record { facts = same i; next = c.self.inside.next; known = known })
    ∙ ap (λ (b : Building). record b { known = known }) c.self.view_is in
    search rules

pub returns-in_err-add_run-clause-more : goal.returns-in_err-add_run-clause-more
returns-in_err-add_run-clause-more c =
    let known = known_in c.known_place.new.table c.known_place.new.known.places.items in
    subst (λ (b : Building). KnowsAtMost b.known c.args.number c.args.outcome.now known) c.self.view_is c.known_place.ensures.more

pub invariant_of-self-2 : goal.invariant_of-self-2
invariant_of-self-2 c =
    let a = c.in_ok-add_run.ensures in
    let k = kept-more _ _ _ c.known_place.ensures.extends c.self.invariant.kept in
    record {
      kept = record { rising = a.rising; sound = a.sound (length c.known_place.new.table) k.sound (c.in_ok-place.ensures.bound, c.requires.some) };
      before = a.low;
      inside = c.known_place.ensures.inside;
    }

pub returns-clause-ok : goal.returns-clause-ok
returns-clause-ok c =
    let known = known_in c.known_place.new.table c.known_place.new.known.places.items in
    let run : Run = record { first = c.args.first; end = c.args.end; tag = Tagged c.in_ok-place.place } in
    let facts = pushed _ _ _ _ run c.args.first c.args.end (Ran c.args.outcome.now) c.known_place.ensures.extends c.self.invariant.kept.sound refl refl
    (ap Ran c.in_ok-place.ensures.at) c.in_ok-add_run.ensures.facts in
    (λ i. record { facts = facts i; next = c.args.first; known = known })
    ∙ ap (λ (b : Building). record {
      facts = union b.facts (from_list (repeated c.args.first (c.args.end - c.args.first) (Ran c.args.outcome.now)));
      next = c.args.first;
      known = known;
    }) c.self.view_is

pub returns-clause-more : goal.returns-clause-more
returns-clause-more c =
    let known = known_in c.known_place.new.table c.known_place.new.known.places.items in
    subst (λ (b : Building). KnowsAtMost b.known c.args.number c.args.outcome.now known) c.self.view_is c.known_place.ensures.more
