use Rattle.std.proofs.Common.{map, string_bytes}
use Rattle.test_commands.proofs.SpecLemmas.{AreSpecsTo}
use Rattle.test_commands.proofs.listing.specs_in.Given as goal

-- the paths before this one are taken
abbrev pub invariant-loop-place : goal.invariant-loop-place
invariant-loop-place g l = AreSpecsTo (g.F.Opener.bytes l.folder) (map (λ p. p.now) l.paths) l.place (map string_bytes l.specs.items)
