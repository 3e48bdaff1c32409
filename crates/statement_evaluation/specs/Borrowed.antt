-- What borrowed values stand for, and effects as the code has them.
use Rattle.std.specs.Prelude.{Option, Some, None, ℤ}
use Rattle.lock_modes.specs.declared.value.Value.{Value}
use Rattle.lock_modes.specs.declared.value.Value.TheVariants.{Int, Text}
use Rattle.statement_evaluation.specs.Effect.{Effect, Gives, Faults}
use Rattle.statement_evaluation.specs.declared.effect.Given.{Given}
use Rattle.statement_evaluation.specs.declared.effect.Given.TheVariants.{Told, Failed}
use Rattle.statement_evaluation.specs.declared.value_ref.ValueRef.{ValueRef}
use Rattle.statement_evaluation.specs.declared.value_ref.ValueRef.TheVariants.{Int as IntRef, Text as TextRef}

-- the value that is borrowed
abbrev pub value_at : ValueRef → Value
value_at (IntRef z) = Int z
value_at (TextRef text) = Text text.now

abbrev pub value_if : Option ValueRef → Option Value
value_if None = None
value_if (Some v) = Some (value_at v)

-- a number, if there is one
abbrev pub int_if : Option ℤ → Option Value
int_if None = None
int_if (Some z) = Some (Int z)

-- the effect that is meant
abbrev pub effect_at : Given → Effect
effect_at (Told events writes) = Gives events writes
effect_at (Failed f) = Faults f
