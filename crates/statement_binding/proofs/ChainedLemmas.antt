-- What is told of a chain follows from its parts.
use Rattle.std.proofs.Common.{◌≡◌, refl, sym, ap, ◌∙◌, ℕ, zero, suc, ◌≤◌, List, [], ◌∷◌, length, map, Option, Some, None, arith}
use Rattle.lock_modes.specs.declared.value.Value.{Value}
use Rattle.bound_statements.specs.Conditions.{told}
use Rattle.bound_statements.specs.declared.condition.Condition.{Condition, Condition-F as Level}
use Rattle.binding_model.specs.declared.joint.Joint.{Joint}
use Rattle.binding_model.specs.declared.joint.Joint.TheVariants.{All, Any}
use Rattle.binding_model.specs.Chains.{linked, IsAssociative, chained, first_some, ChainsNameFirstKeys, AlternativesNameNoKey}
use Rattle.binding_model.specs.KeyParts.{or_next, level_key, key_in}
use Rattle.binding_model.specs.Translation.{join, paired, joined_in, joined}
use Rattle.statement_binding.proofs.JoinLemmas.{paired-fewer}

-- what is told of a list of conditions, or this of none
abbrev of_list : {A : Type 0} → (Level A → A) → Joint → A → List Condition → A
of_list level j d [] = d
of_list level j d (c ∷ cs) = chained (linked level j) (told level c) (map (told level) cs)

told-join : {A : Type 0} (level : Level A → A) (j : Joint) (a b : Condition) → told level (join j a b) ≡ linked level j (told level a) (told level b)
told-join level All a b = refl
told-join level Any a b = refl

-- neighbours may be joined first
of-paired : {A : Type 0} (level : Level A → A) (j : Joint) (d : A) → IsAssociative (linked level j)
    → (cs : List Condition) → of_list level j d (paired j cs) ≡ of_list level j d cs
of-paired level j d h [] = refl
of-paired level j d h (a ∷ []) = refl
of-paired level j d h (a ∷ b ∷ []) = told-join level j a b
of-paired level j d h (a ∷ b ∷ c ∷ []) =
    ap (λ x. linked level j x (told level c)) (told-join level j a b) ∙ h (told level a) (told level b) (told level c)
of-paired level j d h (a ∷ b ∷ c ∷ e ∷ cs) =
    let rest = of_list level j d (c ∷ e ∷ cs) in
    ap (λ x. linked level j x (of_list level j d (paired j (c ∷ e ∷ cs)))) (told-join level j a b)
    ∙ ap (λ x. linked level j (linked level j (told level a) (told level b)) x) (of-paired level j d h (c ∷ e ∷ cs))
    ∙ h (told level a) (told level b) rest

-- and so again and again
of-joined_in : {A : Type 0} (level : Level A → A) (j : Joint) (d : A) → IsAssociative (linked level j)
    → (n : ℕ) (cs : List Condition) → 1 ≤ length cs → length cs ≤ suc n
    → told level (joined_in n j cs) ≡ of_list level j d cs
of-joined_in level j d h zero [] some few = absurd (omega arith)
of-joined_in level j d h zero (c ∷ []) some few = refl
of-joined_in level j d h zero (a ∷ b ∷ cs) some few = absurd (omega arith)
of-joined_in level j d h (suc n) [] some few = absurd (omega arith)
of-joined_in level j d h (suc n) (c ∷ []) some few = refl
of-joined_in level j d h (suc n) (a ∷ b ∷ cs) some few =
    of-joined_in level j d h n (paired j (a ∷ b ∷ cs)) (omega arith) (omega (arith, paired-fewer j cs))
    ∙ of-paired level j d h (a ∷ b ∷ cs)

pub of-joined : {A : Type 0} (level : Level A → A) (j : Joint) → IsAssociative (linked level j) → (c : Condition) (cs : List Condition)
    → told level (joined j (c ∷ cs)) ≡ chained (linked level j) (told level c) (map (told level) cs)
of-joined level j h c cs = of-joined_in level j (told level c) h (length (c ∷ cs)) (c ∷ cs) (omega arith) (omega arith)

-- ---- the key

or_next-none : (o : Option Value) → or_next o None ≡ o
or_next-none None = refl
or_next-none (Some v) = refl

or_next-assoc : (a b c : Option Value) → or_next (or_next a b) c ≡ or_next a (or_next b c)
or_next-assoc None b c = refl
or_next-assoc (Some v) b c = refl

chained-first : (o : Option Value) (os : List (Option Value)) → chained or_next o os ≡ first_some (o ∷ os)
chained-first o [] = sym (or_next-none o)
chained-first o (p ∷ os) = ap (or_next o) (chained-first p os)

pub names-first : ChainsNameFirstKeys
names-first key c cs = of-joined (level_key key) All or_next-assoc c cs ∙ chained-first (key_in key c) (map (key_in key) cs)

pub names-none : AlternativesNameNoKey
names-none key a b cs = of-joined (level_key key) Any (λ x y z. refl) a (b ∷ cs)
