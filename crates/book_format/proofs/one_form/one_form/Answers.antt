use Rattle.std.proofs.Common.{◌≡◌, subst, sym, ap, ◌∙◌, map, length}
use Rattle.fact_books.specs.Runs.{AllSound, renamed}
use Rattle.book_format.specs.Canonical.{SayTheSame, StaySound}
use Rattle.book_format.specs.Numbering.{AreFlagged, AreNumbers}
use Rattle.book_format.proofs.NumberingLemmas.{sound-numbers, sound-renumbered, is-form}
use Rattle.book_format.proofs.one_form.one_form.Goals as goal

-- each number that runs name has a new one
pub renumber-requires : goal.renumber-requires
renumber-requires c =
    let outcomes = c.args.outcomes.now in
    let these = subst (λ fs. AreFlagged outcomes fs c.in_ok-named.named.items) c.as_slice.ensures.value c.in_ok-named.ensures.named in
    let places = subst (λ ns. AreNumbers outcomes ns c.in_ok-numbers.numbers.items) c.as_slice-2.ensures.value c.in_ok-numbers.ensures in
    record {
      sound = subst (λ ns. AllSound (length ns) c.args.runs.now) (sym c.as_slice-3.ensures.value)
          (sound-numbers outcomes c.in_ok-named.named.items c.in_ok-flags.flags.items c.in_ok-numbers.numbers.items c.args.runs.now c.requires
          c.in_ok-flags.ensures.flags these places);
    }

-- and the new numbers are places of outcomes
pub canonical-requires : goal.canonical-requires
canonical-requires c =
    let outcomes = c.args.outcomes.now in
    let runs = c.args.runs.now in
    let these = subst (λ fs. AreFlagged outcomes fs c.in_ok-named.named.items) c.as_slice.ensures.value c.in_ok-named.ensures.named in
    let places = subst (λ ns. AreNumbers outcomes ns c.in_ok-numbers.numbers.items) c.as_slice-2.ensures.value c.in_ok-numbers.ensures in
    let are : c.as_slice-4.result.now ≡ map (renamed c.in_ok-numbers.numbers.items) runs =
    c.as_slice-4.ensures.value ∙ c.in_ok-renumbered.ensures ∙ ap (λ ns. map (renamed ns) runs) c.as_slice-3.ensures.value in (
      length c.in_ok-named.named.items,
      subst (AllSound (length c.in_ok-named.named.items)) (sym are)
          (sound-renumbered outcomes c.in_ok-named.named.items c.in_ok-flags.flags.items c.in_ok-numbers.numbers.items runs c.requires
          c.in_ok-flags.ensures.flags these places),
    )

pub returns : goal.returns
returns c =
    let outcomes = c.args.outcomes.now in
    let runs = c.args.runs.now in
    let these = subst (λ fs. AreFlagged outcomes fs c.in_ok-named.named.items) c.as_slice.ensures.value c.in_ok-named.ensures.named in
    let places = subst (λ ns. AreNumbers outcomes ns c.in_ok-numbers.numbers.items) c.as_slice-2.ensures.value c.in_ok-numbers.ensures in
    let are : c.as_slice-4.result.now ≡ map (renamed c.in_ok-numbers.numbers.items) runs =
    c.as_slice-4.ensures.value ∙ c.in_ok-renumbered.ensures ∙ ap (λ ns. map (renamed ns) runs) c.as_slice-3.ensures.value in
    is-form outcomes c.in_ok-named.named.items c.in_ok-flags.flags.items c.in_ok-numbers.numbers.items runs c.requires c.in_ok-flags.ensures.flags these places
    c.in_ok-runs.runs.items c.in_ok-named.ensures.rises c.in_ok-runs.ensures.rises
    (subst (SayTheSame c.in_ok-runs.runs.items) are c.in_ok-runs.ensures.facts)
    (subst (λ rs. StaySound rs c.in_ok-runs.runs.items) are c.in_ok-runs.ensures.sound)
