-- Conditions: how one is made of others, and what is told of one, level by level. A level is the outermost form of a condition, which holds in place
-- of each condition in it what is told of that one.
use Rattle.bound_statements.specs.declared.condition.Condition.{Condition, Condition-F as Level, Row_of-Condition, more_of-Condition, end_of-Condition, Always, Compares, Not', And', Or'}

-- a condition that stands in a box
abbrev pub boxed : Condition → Row_of-Condition 1
boxed c = more_of-Condition c end_of-Condition

abbrev pub negation : Condition → Condition
negation c = Not' tt (boxed c)

abbrev pub conjunction : Condition → Condition → Condition
conjunction a b = And' tt (boxed a) tt (boxed b)

abbrev pub disjunction : Condition → Condition → Condition
disjunction a b = Or' tt (boxed a) tt (boxed b)

-- what is told of a condition, by what is told of each level
abbrev pub told : {A : Type 0} → (Level A → A) → Condition → A
told level Always = level Level.Always
told level (Compares a comparison b) = level (Level.Compares a comparison b)
told level (Not' _ (more_of-Condition c end_of-Condition)) = level (Level.Not (told level c))
told level (And' _ (more_of-Condition a end_of-Condition) _ (more_of-Condition b end_of-Condition)) = level (Level.And (told level a) (told level b))
told level (Or' _ (more_of-Condition a end_of-Condition) _ (more_of-Condition b end_of-Condition)) = level (Level.Or (told level a) (told level b))
