use Rattle.std.proofs.Common.{◌∙◌, ◌+◌, ◌<◌, sym, ap, subst, List, ℕ, [], length, map, string_bytes, get_or, take, arith, false}
use Rattle.std.specs.List.{AllZip}
use Rattle.std.proofs.lemmas.List.Sorted.{All-permutation}
use Rattle.std.proofs.lemmas.List.{get_or-map, length-map}
use Rattle.program_commands.specs.declared.one_spec.Found.{Found}
use Rattle.program_commands.specs.Testing.{IsFoundOf}
use Rattle.program_commands.specs.SideBySide.{IsPlaced, findings_in}
use Rattle.program_commands.proofs.SideLemmas.{in-order-next}
use Rattle.program_commands.proofs.side_by_side.in_order.Goals.{in-Some, in-None}
use Rattle.program_commands.proofs.side_by_side.in_order.Goals as goal

-- sorted, and no spec in order yet
pub loop-place-init : goal.loop-place-init
loop-place-init g c =
    let files = g.F.Opener.bytes c.args.folder.now in
    let level = c.args.level in
    let specs = map string_bytes c.args.specs.now in
    record {
      kept = All-permutation (IsPlaced files level false specs) c.args.placed.items c.sort_unstable_by.new.self.items c.sort_unstable_by.ensures.permutation c.requires;
      found = subst (λ all. AllZip (IsFoundOf files level false) [] (findings_in all)) (sym c.new-all.ensures.items) tt;
    }

-- one spec more: what was kept of it, or what is found of it here
pub loop-place-preserved : goal.loop-place-preserved
loop-place-preserved g c =
    let files = g.F.Opener.bytes c.args.folder.now in
    let level = c.args.level in
    let specs = map string_bytes c.args.specs.now in
    let place = c.loop-place.place in
    let lt : place < length specs = omega (arith, c.loop-place-test.true, length-map c.args.specs.now string_bytes) in
    let here : IsFoundOf files level false (get_or specs place []) c.match-take_last.found.finding = elim c.match-take_last.branch [
      | in-Some w ↦ subst (λ (f : Found). IsFoundOf files level false (get_or specs place []) f.finding) (sym w.found-is)
          (w.in-Some.ensures.taken files level false specs c.loop-place.invariant.kept)
      | in-None w ↦ subst (λ (f : Found). IsFoundOf files level false (get_or specs place []) f.finding) (sym w.found-is)
          (subst (λ p. IsFoundOf files level false p w.test_of_file-found.result.finding)
          (w.as_str.ensures.value ∙ ap string_bytes w.index-specs-place.is
          ∙ sym {A = List ℕ} (get_or-map string_bytes c.args.specs.now place _ _ c.loop-place-test.true)) w.test_of_file-found.ensures)
    ] in
    record {
      kept = c.take_last.ensures.left files level false specs c.loop-place.invariant.kept;
      found = subst (λ all. AllZip (IsFoundOf files level false) (take (place + 1) specs) (findings_in all)) (sym c.in_ok-push.ensures.items)
          (in-order-next files level false specs place c.loop-place.all.items c.match-take_last.found lt c.loop-place.invariant.found here);
    }
