-- What is told of a chain of AND or of OR, by its parts in their order.
use Rattle.std.specs.Prelude.{◌≡◌, ℕ, Bool, List, [], ◌∷◌, ◌++◌, map, Option, None}
use Rattle.lock_modes.specs.declared.value.Value.{Value}
use Rattle.bound_statements.specs.Conditions.{told}
use Rattle.bound_statements.specs.declared.condition.Condition.{Condition, Condition-F as Level, more_of-Condition, end_of-Condition}
use Rattle.bound_statements.specs.declared.condition.Condition.TheVariants.{Always, Compares, Not', And', Or'}
use Rattle.binding_model.specs.declared.joint.Joint.{Joint}
use Rattle.binding_model.specs.declared.joint.Joint.TheVariants.{All, Any}
use Rattle.binding_model.specs.KeyParts.{or_next, key_in}
use Rattle.binding_model.specs.Translation.{joined}

-- what a joint joins, through and through
abbrev pub leaves : Joint → Condition → List Condition
leaves All (And' _ (more_of-Condition a end_of-Condition) _ (more_of-Condition b end_of-Condition)) = leaves All a ++ leaves All b
leaves All Always = Always ∷ []
leaves All (Compares a c b) = Compares a c b ∷ []
leaves All (Not' p c) = Not' p c ∷ []
leaves All (Or' p a q b) = Or' p a q b ∷ []
leaves Any (Or' _ (more_of-Condition a end_of-Condition) _ (more_of-Condition b end_of-Condition)) = leaves Any a ++ leaves Any b
leaves Any Always = Always ∷ []
leaves Any (Compares a c b) = Compares a c b ∷ []
leaves Any (Not' p c) = Not' p c ∷ []
leaves Any (And' p a q b) = And' p a q b ∷ []

-- of one condition after another
abbrev pub each_leaves : Joint → List Condition → List Condition
each_leaves j [] = []
each_leaves j (c ∷ cs) = leaves j c ++ each_leaves j cs

-- what is told of two parts that are joined, by what is told of each
abbrev pub linked : {A : Type 0} → (Level A → A) → Joint → A → A → A
linked level All a b = level (Level.And a b)
linked level Any a b = level (Level.Or a b)

-- it does not matter which two of three are linked first
abbrev pub IsAssociative : {A : Type 0} → (A → A → A) → Type 0
IsAssociative {A} f = (a b c : A) → f (f a b) c ≡ f a (f b c)

-- the first, linked with what the others come to
abbrev pub chained : {A : Type 0} → (A → A → A) → A → List A → A
chained f a [] = a
chained f a (b ∷ bs) = f a (chained f b bs)

-- the first that is there
abbrev pub first_some : {A : Type 0} → List (Option A) → Option A
first_some [] = None
first_some (o ∷ os) = or_next o (first_some os)

-- what is told of a chain is what its parts come to in their order, where their links may be grouped at will
abbrev pub ChainsAreLists : Type 0
ChainsAreLists =
    (level : Level (Option Bool) → Option Bool) (j : Joint) → IsAssociative (linked level j)
    → (c : Condition) (cs : List Condition) → told level (joined j (c ∷ cs)) ≡ chained (linked level j) (told level c) (map (told level) cs)

-- the key of a chain of AND is that of its first part that names one
abbrev pub ChainsNameFirstKeys : Type 0
ChainsNameFirstKeys = (key : ℕ) (c : Condition) (cs : List Condition) → key_in key (joined All (c ∷ cs)) ≡ first_some (map (key_in key) (c ∷ cs))

-- a chain of OR, of two parts or more, names none
abbrev pub AlternativesNameNoKey : Type 0
AlternativesNameNoKey = (key : ℕ) (a b : Condition) (cs : List Condition) → ◌≡◌ {A = Option Value} (key_in key (joined Any (a ∷ b ∷ cs))) None

-- a chain has its parts in their order, and nothing else
abbrev pub ChainsKeepParts : Type 0
ChainsKeepParts = (j : Joint) (c : Condition) (cs : List Condition) → leaves j (joined j (c ∷ cs)) ≡ each_leaves j (c ∷ cs)
