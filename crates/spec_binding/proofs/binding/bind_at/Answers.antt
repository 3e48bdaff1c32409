use Rattle.std.proofs.Common.{◌≡◌, Err, inl}
use Rattle.std.specs.Prelude.{string_bytes}
use Rattle.spec_reader.specs.Whole.{spec_tree}
use Rattle.bound_specs.specs.Binding.{bound_file}
use Rattle.spec_binding.proofs.MemoryLemmas.{refused_at, refused_sql}
use Rattle.spec_binding.proofs.binding.bind_at.Goals as goal

-- what is refused at the level is refused where none is asked for
pub returns-in-Err-Refused-clause-refused : goal.returns-in-Err-Refused-clause-refused
returns-in-Err-Refused-clause-refused c =
    let text = c.args.text.now in
    inl (refused_at c.args.levels (string_bytes text.text) (spec_tree text) c.in-Err-Refused.error (rw c.in-Err-Refused.field-0-is at c.in-Err-Refused.ensures))

-- what the file itself is refused for is no want of memory
pub returns-in-Err-Refused-clause-memory : goal.returns-in-Err-Refused-clause-memory
returns-in-Err-Refused-clause-memory c =
    let text = c.args.text.now in
    let told : bound_file (string_bytes text.text) (spec_tree text) ≡ Err c.in-Err-Refused.error =
    refused_at c.args.levels (string_bytes text.text) (spec_tree text) c.in-Err-Refused.error (rw c.in-Err-Refused.field-0-is at c.in-Err-Refused.ensures) in
    refused_sql (string_bytes text.text) (spec_tree text) c.in-Err-Refused.error told
