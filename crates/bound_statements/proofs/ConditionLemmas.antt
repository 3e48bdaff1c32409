-- Conditions as the code makes and matches them.
use Rattle.std.proofs.Common.{◌≡◌, refl}
use denote.Hole.Carrier.{hidden}
use Rattle.bound_statements.specs.declared.condition.Condition.{Condition, Condition-F as Level, Not, And, Or}
use Rattle.bound_statements.specs.declared.condition.Condition.TheBlock.{hidden-the_row-Condition-0}
use Rattle.bound_statements.specs.Conditions.{negation, conjunction, disjunction, told}

pub not-is : (c : Condition) → Not c ≡ negation c
unfolding hidden-the_row-Condition-0 hidden
not-is c = refl

pub and-is : (a b : Condition) → And a b ≡ conjunction a b
unfolding hidden-the_row-Condition-0 hidden
and-is a b = refl

pub or-is : (a b : Condition) → Or a b ≡ disjunction a b
unfolding hidden-the_row-Condition-0 hidden
or-is a b = refl

-- what the code makes
pub ruleset making = (not-is, and-is, or-is)

pub told-not : {A : Type 0} (level : Level A → A) (c : Condition) → told level (Not c) ≡ level (Level.Not (told level c))
unfolding hidden-the_row-Condition-0 hidden
told-not level c = refl

pub told-and : {A : Type 0} (level : Level A → A) (a b : Condition) → told level (And a b) ≡ level (Level.And (told level a) (told level b))
unfolding hidden-the_row-Condition-0 hidden
told-and level a b = refl

pub told-or : {A : Type 0} (level : Level A → A) (a b : Condition) → told level (Or a b) ≡ level (Level.Or (told level a) (told level b))
unfolding hidden-the_row-Condition-0 hidden
told-or level a b = refl

-- what is told of a condition that the code matches
pub ruleset telling = (told-not, told-and, told-or)
