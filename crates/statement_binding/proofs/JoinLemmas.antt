-- Chains are joined in pairs, and keep their parts.
use Rattle.std.proofs.Common.{◌≡◌, refl, sym, ap, ◌∙◌, ℕ, zero, suc, ◌<◌, ◌≤◌, List, [], ◌∷◌, ◌++◌, length, Option, Some, None, arith, append_assoc}
use Rattle.std.proofs.lemmas.List.{append-nil}
use Rattle.bound_statements.specs.declared.condition.Condition.{Condition}
use Rattle.binding_model.specs.declared.joint.Joint.{Joint}
use Rattle.binding_model.specs.declared.joint.Joint.TheVariants.{All, Any}
use Rattle.binding_model.specs.Chains.{leaves, each_leaves}
use Rattle.binding_model.specs.Names.{maybe}
use Rattle.binding_model.specs.Translation.{join, paired, joined_in, joined}

-- the part that waits last
pub last-waits : (j : Joint) (pairs : List Condition) (waiting : Option Condition) (whole new : List Condition) → new ≡ pairs ++ maybe waiting
    → pairs ++ paired j (maybe waiting ++ []) ≡ paired j (whole ++ []) → new ≡ paired j whole
last-waits j pairs None whole new e h = e ∙ h ∙ ap (paired j) (append-nil whole)
last-waits j pairs (Some c) whole new e h = e ∙ h ∙ ap (paired j) (append-nil whole)

pub joined-many : (n m : ℕ) (j : Joint) (cs : List Condition) → n ≡ suc m → 2 ≤ length cs → joined_in m j (paired j cs) ≡ joined_in n j cs
joined-many zero m j cs e h = absurd (omega arith)
joined-many (suc n) m j [] e h = absurd (omega arith)
joined-many (suc n) m j (c ∷ []) e h = absurd (omega arith)
joined-many (suc n) m j (a ∷ b ∷ cs) e h = let same : m ≡ n = omega arith in ap (λ k. joined_in k j (paired j (a ∷ b ∷ cs))) same

-- ---- the parts of a joined chain, in order, are the chain's parts

leaves-join : (j : Joint) (a b : Condition) → leaves j (join j a b) ≡ leaves j a ++ leaves j b
leaves-join All a b = refl
leaves-join Any a b = refl

leaves-paired : (j : Joint) (cs : List Condition) → each_leaves j (paired j cs) ≡ each_leaves j cs
leaves-paired j [] = refl
leaves-paired j (a ∷ []) = refl
leaves-paired j (a ∷ b ∷ cs) =
    (λ i. leaves-join j a b i ++ leaves-paired j cs i)
    ∙ append_assoc (leaves j a) (leaves j b) (each_leaves j cs)

pub paired-fewer : (j : Joint) (cs : List Condition) → length (paired j cs) ≤ length cs
paired-fewer j [] = omega arith
paired-fewer j (a ∷ []) = omega arith
paired-fewer j (a ∷ b ∷ cs) = omega (arith, paired-fewer j cs)

joined_in-leaves : (n : ℕ) (j : Joint) (cs : List Condition) → 0 < length cs → length cs ≤ suc n → leaves j (joined_in n j cs) ≡ each_leaves j cs
joined_in-leaves zero j [] h k = absurd (omega arith)
joined_in-leaves zero j (c ∷ []) h k = sym (append-nil (leaves j c))
joined_in-leaves zero j (a ∷ b ∷ cs) h k = absurd (omega arith)
joined_in-leaves (suc n) j [] h k = absurd (omega arith)
joined_in-leaves (suc n) j (c ∷ []) h k = sym (append-nil (leaves j c))
joined_in-leaves (suc n) j (a ∷ b ∷ cs) h k =
    joined_in-leaves n j (paired j (a ∷ b ∷ cs)) (omega arith) (omega (arith, paired-fewer j cs))
    ∙ leaves-paired j (a ∷ b ∷ cs)

-- so a chain that is joined has its parts in order
pub joined-leaves : (j : Joint) (cs : List Condition) → 0 < length cs → leaves j (joined j cs) ≡ each_leaves j cs
joined-leaves j cs h = joined_in-leaves (length cs) j cs h (omega arith)
