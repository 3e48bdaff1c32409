-- Words that are no plain line.
use Rattle.std.proofs.Common.{◌≡◌, subst, Result, Ok, Err, IfErr, Option, None}
use Rattle.std.specs.Option.{IsSomeAnd}

-- what holds of each error holds of an answer's
pub of-each : {X E : Type 0} (result : Result X E) (P : E → Type 0) → ((e : E) → P e) → IfErr result P
of-each (Ok x) P each = tt
of-each (Err e) P each = each e

-- where nothing is read there is nothing to read
pub no-line : {A : Type 0} (P : A → Type 0) (asked : Option A) → asked ≡ None → IsSomeAnd asked P → ⊥
no-line P asked none is = subst (λ a. IsSomeAnd a P) none is
