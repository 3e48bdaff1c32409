use Rattle.std.proofs.Common.{◌≡◌, ◌∙◌, ◌<◌, sym, ap, length, get_or, arith}
use Rattle.std.proofs.lemmas.List.{get_or-map, length-map}
use Rattle.book_commands.specs.declared.finding.Finding.{Finding}
use Rattle.program_commands.specs.declared.one_spec.Found.{Found}
use Rattle.program_commands.specs.Testing.{worse}
use Rattle.program_commands.specs.SideBySide.{findings_in}
use Rattle.program_commands.proofs.TestLemmas.{worst-next}
use Rattle.program_commands.proofs.testing.tell_each.Goals as goal

-- one finding more
pub loop-place-preserved : goal.loop-place-preserved
loop-place-preserved g c =
    let found = c.args.found.now in
    let place = c.loop-place.place in
    let next = c.index-found-place.result in
    let lt : place < length (findings_in found) = omega (arith, c.loop-place-test.true, c.requires.many, length-map found (λ (f : Found). f.finding)) in
    let within : place < length found = omega (arith, c.loop-place-test.true, c.requires.many) in
    let here : get_or (findings_in found) place next.finding ≡ next.finding =
    get_or-map (λ (f : Found). f.finding) found place next next.finding within ∙ ap (λ (f : Found). f.finding) (sym c.index-found-place.is) in
    record {
      specs = c.in_ok-ended.ensures.specs ∙ ap (λ (f : Finding). worse f next.finding) c.loop-place.invariant.specs
          ∙ sym (worst-next c.args.before.specs (findings_in found) place next.finding lt here);
      report = c.in_ok-ended.ensures.report;
      failures = c.in_ok-ended.ensures.failures;
    }
