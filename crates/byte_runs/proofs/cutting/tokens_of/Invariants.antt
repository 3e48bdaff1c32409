use Rattle.std.proofs.Common.{◌≡◌, ◌+◌, ◌++◌, length, map, IsUtf8}
use Rattle.byte_runs.specs.Pieces.{placed_by, tokens_past, token_list}
use Rattle.byte_runs.proofs.cutting.tokens_of.Given as goal

abbrev pub invariant-loop-len : goal.invariant-loop-len
invariant-loop-len g l = record {
  utf8 : IsUtf8 l.rest;
  within : l.at + length l.rest ≡ length l.fn.text;
  so_far : map (placed_by g.T.Cut.view) l.tokens.items ++ tokens_past g.T.Cut.piece_of g.T.Cut.end 0 l.at l.rest
      ≡ token_list g.T.Cut.piece_of g.T.Cut.end l.fn.text;
}

abbrev pub decreases-loop-len : goal.decreases-loop-len
decreases-loop-len g l = length l.rest
