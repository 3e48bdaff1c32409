use Rattle.std.proofs.Common.{◌≡◌, ◌++◌, take}
use Rattle.plan_pairs.proofs.requests.push_all.Given as goal

-- those so far are added
abbrev pub invariant-loop-request : goal.invariant-loop-request
invariant-loop-request l = l.requests.items ≡ l.initial.requests.items ++ take l.request-index l.plan
