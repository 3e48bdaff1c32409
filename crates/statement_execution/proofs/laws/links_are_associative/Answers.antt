use Rattle.std.proofs.Common.{◌≡◌, refl, Bool, true, false, Option, Some, None}
use Rattle.statement_evaluation.specs.Evaluate.{and_then, or_else}
use Rattle.statement_execution.proofs.laws.links_are_associative.Goals as goal

-- the first part decides, or the others do
all : (a b c : Option Bool) → and_then (and_then a b) c ≡ and_then a (and_then b c)
all None b c = refl
all (Some false) b c = refl
all (Some true) b c = refl

any : (a b c : Option Bool) → or_else (or_else a b) c ≡ or_else a (or_else b c)
any None b c = refl
any (Some true) b c = refl
any (Some false) b c = refl

pub returns : goal.returns
returns c = record { all = all; any = any }
