use Rattle.std.proofs.Common.{rules}
use Rattle.bound_specs.proofs.FileLemmas.{file-none}
use Rattle.range_commands.proofs.ranges.run_range.Goals as goal

-- the spec is bound without levels
pub book_of_range-requires : goal.book_of_range-requires
book_of_range-requires g c = (search rules, (search rules, file-none c.args.bytes.now c.in-Ok.spec c.in-Ok.ensures.file))
