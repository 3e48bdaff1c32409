use Rattle.std.proofs.Common.{◌≡◌, ◌∙◌, ◌<◌, sym, ap, subst, length, map, string_bytes, get_or, arith, true, [], ◌∷◌, List, ℕ}
use Rattle.std.proofs.lemmas.List.{get_or-map, length-map, take_more}
use Rattle.program_commands.specs.Testing.{IsFoundOf, IsWorstOf}
use Rattle.program_commands.proofs.TestLemmas.{worst-with-more}
use Rattle.program_commands.proofs.testing.update_each.Goals as goal

-- one spec more
pub loop-place-preserved : goal.loop-place-preserved
loop-place-preserved g c =
    let files = g.F.Opener.bytes c.args.folder.now in
    let level = c.args.level in
    let specs = map string_bytes c.args.specs.now in
    let place = c.loop-place.place in
    let finding = c.test_of_file-found.result.finding in
    let lt : place < length specs = omega (arith, c.loop-place-test.true, length-map c.args.specs.now string_bytes) in
    let found : IsFoundOf files level true (get_or specs place []) finding = subst (λ p. IsFoundOf files level true p finding)
    (c.as_str-path.ensures.value ∙ ap string_bytes c.index-specs-place.is ∙ sym {A = List ℕ} (get_or-map string_bytes c.args.specs.now place _ _ c.loop-place-test.true))
    c.test_of_file-found.ensures in
    record {
      specs = rw (c.in-Ok.ensures.specs, take_more specs place [] lt)
          (worst-with-more files level true _ (get_or specs place [] ∷ []) c.loop-place.ended.specs (finding ∷ []) c.loop-place.invariant.specs (found, tt));
      report = c.in-Ok.ensures.report;
      failures = c.in-Ok.ensures.failures;
    }
