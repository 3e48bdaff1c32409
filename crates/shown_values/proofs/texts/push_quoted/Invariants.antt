use Rattle.std.specs.Prelude.{◌≡◌, ◌++◌, codes, flat_map, take}
use Rattle.transcripts.specs.Text.{doubled}
use Rattle.shown_values.proofs.texts.push_quoted.Given as goal

-- the first bytes are pushed
abbrev pub invariant-loop-byte : goal.invariant-loop-byte
invariant-loop-byte l = l.text.items ≡ l.fn.text.items ++ (codes "'" ++ flat_map doubled (take l.byte-index l.byte-items))
