use Rattle.std.proofs.Common.{◌≡◌, ℕ, ◌<◌, [], get_or, IfSome, slice_get}
use Rattle.accepted_outputs.proofs.comparing.first_rank.Given as goal

-- the ranks before this one are reported alike, and so are the outcomes that were compared last
abbrev pub invariant-loop-rank : goal.invariant-loop-rank
invariant-loop-rank l = record {
  before : (n : ℕ) → n < l.rank → slice_get l.report n ≡ slice_get l.other n;
  known : IfSome l.alike (λ p. get_or l.outcomes p.0 [] ≡ get_or l.accepted p.1 []);
}
