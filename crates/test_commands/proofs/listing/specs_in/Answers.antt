use Rattle.std.proofs.Common.{◌≡◌, ◌∙◌, ◌<◌, ◌≤◌, sym, subst, length, map, string_bytes, vec_len, arith, Bor, List, ℕ}
use Rattle.std.proofs.lemmas.List.{get_or-map, length-map, take_all}
use Rattle.test_commands.specs.Testing.{IsPathAdded, IsPathRefused}
use Rattle.test_commands.proofs.SpecLemmas.{path-more, path-refused}
use Rattle.test_commands.proofs.listing.specs_in.Goals as goal

-- one path more
pub loop-place-preserved : goal.loop-place-preserved
loop-place-preserved g c =
    let files = g.F.Opener.bytes c.args.folder.now in
    let paths = map (λ (p : Bor (List ℕ)). p.now) c.args.paths.now in
    let place = c.loop-place.place in
    let count = length-map c.args.paths.now (λ (p : Bor (List ℕ)). p.now) in
    let lt : place < length paths = omega (arith, c.loop-place-test.true, count) in
    let added = c.in_default.ensures.added in
    path-more files paths place _ _ lt c.loop-place.invariant
    (subst (λ p. IsPathAdded (files p) p (map string_bytes c.loop-place.specs.items) (map string_bytes c.add_path.new.specs.items))
    (sym {A = List ℕ} (get_or-map (λ (p : Bor (List ℕ)). p.now) c.args.paths.now place _ _ c.loop-place-test.true)) added)

pub returns : goal.returns
returns g c = record {
  specs = λ known.
      (let paths = map (λ (p : Bor (List ℕ)). p.now) c.args.paths.now in
      let count = length-map c.args.paths.now (λ (p : Bor (List ℕ)). p.now) in
      let le : length paths ≤ c.loop-place.place = omega (arith, c.loop-place-test.false, count) in
      c.loop-place.invariant known ∙ take_all c.loop-place.place paths le);
  refused = tt;
}

pub returns-in-Err-clause-refused : goal.returns-in-Err-clause-refused
returns-in-Err-clause-refused g c =
    let files = g.F.Opener.bytes c.args.folder.now in
    let paths = map (λ (p : Bor (List ℕ)). p.now) c.args.paths.now in
    let place = c.loop-place.place in
    let count = length-map c.args.paths.now (λ (p : Bor (List ℕ)). p.now) in
    let lt : place < length paths = omega (arith, c.loop-place-test.true, count) in
    let many : vec_len c.loop-place.specs ≡ length (map string_bytes c.loop-place.specs.items) = omega (arith, c.loop-place.specs.ok, length-map c.loop-place.specs.items string_bytes) in
    path-refused files paths place _ (vec_len c.loop-place.specs) many lt c.loop-place.invariant c.in-Err.fault
    (subst (λ p. IsPathRefused (files p) p (vec_len c.loop-place.specs) c.in-Err.fault)
    (sym {A = List ℕ} (get_or-map (λ (p : Bor (List ℕ)). p.now) c.args.paths.now place _ _ c.loop-place-test.true)) c.in-Err.ensures.refused)
