-- The blocks of a spec file that are sent, in the order of the file.
use Rattle.std.specs.Prelude.{List, ◌++◌, map}
use Rattle.std.specs.List.{flat_map}
use Rattle.std.specs.Option.{option_to_list}
use Rattle.spec_reader.specs.Tree.{BlockTree, StepTree, SessionTree, SpecTree}
use Rattle.spec_reader.specs.Views.{block_tree}
use Rattle.file_blocks.specs.declared.blocks.SentBlock.{SentBlock}
use Rattle.file_blocks.specs.declared.blocks.Role.{Role}
use Rattle.file_blocks.specs.declared.blocks.Role.TheVariants.{Setup, Session}

-- a block, and where it stands
pub record SentTree : Type 0 where
  pub role : Role
  pub block : BlockTree

abbrev pub sent_in : Role → BlockTree → SentTree
sent_in role block = record { role = role; block = block }

-- the setup of a session, if it has one, and its steps
abbrev pub session_blocks : SessionTree → List SentTree
session_blocks s = map (sent_in Session) (option_to_list s.head.setup) ++ map (λ (t : StepTree). sent_in Session t.block) s.steps

abbrev pub sent_blocks : SpecTree → List SentTree
sent_blocks tree = map (sent_in Setup) tree.front.setups ++ flat_map session_blocks tree.sessions

-- what the code has
abbrev pub sent_tree : SentBlock → SentTree
sent_tree p = sent_in p.role (block_tree p.block.now)
