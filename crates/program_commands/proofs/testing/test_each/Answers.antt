use Rattle.std.proofs.Common.{◌∙◌, ◌-◌, ◌≤◌, sym, ap, subst, length, map, string_bytes, take, drop, arith, List, false}
use Rattle.std.proofs.lemmas.List.{length-map}
use Rattle.std.proofs.lemmas.Slice.Zip.{AllZip-long}
use Rattle.program_commands.specs.declared.one_spec.Found.{Found}
use Rattle.program_commands.specs.Testing.{IsFoundOf, IsWorstOf, worst_with}
use Rattle.program_commands.specs.SideBySide.{findings_in}
use Rattle.program_commands.proofs.TestLemmas.{worst-with-more, some-more}
use Rattle.program_commands.proofs.testing.test_each.Goals as goal

pub tell_each-requires-clause-many : goal.tell_each-requires-clause-many
tell_each-requires-clause-many g c =
    let some = take (c.min-end.result - c.loop-told.told) (drop c.loop-told.told c.args.specs.now) in
    ap (λ (l : List Found). length l) c.as_slice.ensures.value ∙ sym (length-map c.in-Ok.found.items (λ (f : Found). f.finding))
    ∙ AllZip-long (IsFoundOf (g.F.Opener.bytes c.args.folder.now) c.args.level false) (map string_bytes some) (findings_in c.in-Ok.found.items) c.in-Ok.ensures
    ∙ length-map some string_bytes

-- some specs more
pub loop-told-preserved : goal.loop-told-preserved
loop-told-preserved g c =
    let files = g.F.Opener.bytes c.args.folder.now in
    let level = c.args.level in
    let specs = c.args.specs.now in
    let told = c.loop-told.told in
    let end = c.min-end.result in
    let some = take (end - told) (drop told specs) in
    let least = c.min-end.ensures in
    let sum = c.saturating_add.ensures in
    let within : end ≤ length specs = omega (arith, least) in
    let on : told ≤ end = omega (arith, least, sum, c.loop-told.auto.told-fits, c.loop-told-test.true) in
    let found = c.in-Ok.found.items in
    let before = worst-with-more files level false (take told (map string_bytes specs)) (map string_bytes some) c.loop-told.ended.specs (findings_in found)
    c.loop-told.invariant.specs c.in-Ok.ensures in
    let is = c.in-Ok-tell_each.ensures.specs ∙ ap (λ (l : List Found). worst_with c.loop-told.ended.specs (findings_in l)) c.as_slice.ensures.value in
    record {
      within = within;
      specs = subst (IsWorstOf files level false (take end (map string_bytes specs))) (sym is)
          (subst (λ front. IsWorstOf files level false front (worst_with c.loop-told.ended.specs (findings_in found))) (some-more string_bytes specs told end on) before);
      report = c.in-Ok-tell_each.ensures.report;
      failures = c.in-Ok-tell_each.ensures.failures;
    }
