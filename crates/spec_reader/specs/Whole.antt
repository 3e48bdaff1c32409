-- A whole spec file, as contracts see it.
use Rattle.spec_reader.specs.declared.tree.SpecText.{SpecText}
use Rattle.spec_reader.specs.Tree.{SpecTree}
use Rattle.spec_reader.specs.Views.{file_tree}

-- the tree of its parts
abbrev pub spec_tree : SpecText → SpecTree
spec_tree f = file_tree f.front f.sessions.items f.lines.items
