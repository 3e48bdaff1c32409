use Rattle.std.proofs.Common.{◌≡◌, ◌++◌, take, map}
use Rattle.std.specs.List.{flat_map}
use Rattle.spec_reader.specs.Views.{session_tree}
use Rattle.file_blocks.specs.Blocks.{sent_tree, session_blocks}
use Rattle.file_blocks.proofs.blocks.push_sessions.Given as goal

abbrev pub invariant-loop-session : goal.invariant-loop-session
invariant-loop-session l = map sent_tree l.all.items
    ≡ map sent_tree l.fn.all.items ++ flat_map session_blocks (map session_tree (take l.session-index l.sessions))
