use Rattle.std.proofs.Common.{◌∙◌, ◌<◌, sym, ap, subst, arith, All, List, ℕ, [], length, map, string_bytes, get_or, is_ok, false}
use Rattle.std.proofs.lemmas.List.{get_or-map}
use Rattle.program_commands.specs.Testing.{IsFoundOf}
use Rattle.program_commands.specs.SideBySide.{IsPlaced}
use Rattle.program_commands.proofs.SideLemmas.{all-more}
use Rattle.program_commands.proofs.side_by_side.test_next.Goals as goal

-- one spec more, where there is memory to keep what is found of it
pub loop-preserved : goal.loop-preserved
loop-preserved g c =
    let files = g.F.Opener.bytes c.args.folder.now in
    let level = c.args.level in
    let specs = map string_bytes c.args.specs.now in
    let place = c.fetch_add-place.result in
    let lt : place < length c.args.specs.now = omega (arith, c.if-place-specs.false) in
    let here : IsFoundOf files level false (get_or specs place []) c.test_of_file-found.result.finding =
    subst (λ p. IsFoundOf files level false p c.test_of_file-found.result.finding)
    (c.as_str.ensures.value ∙ ap string_bytes c.index-specs-place.is ∙ sym {A = List ℕ} (get_or-map string_bytes c.args.specs.now place _ _ lt))
    c.test_of_file-found.ensures in
    subst (All (IsPlaced files level false specs)) (sym c.push-kept.ensures.items)
    (all-more (IsPlaced files level false specs) (is_ok c.push-kept.result) c.loop.placed.items _ c.loop.invariant here)
