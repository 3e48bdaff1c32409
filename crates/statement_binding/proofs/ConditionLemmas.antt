-- Chains of conditions, as the reader gives them and as the grammar has them.
use Rattle.std.proofs.Common.{◌≡◌, refl, ap, ◌∙◌, ℕ, List, [], ◌∷◌, map, Ok, Err}
use Rattle.sql_grammar.specs.declared.expression.Condition.{Condition as WrittenCondition, out-Condition, fold_out-Condition}
use Rattle.sql_grammar.specs.declared.expression.Part.{Part as WrittenPart, fold_out-Part}
use Rattle.sql_grammar.specs.Tree as tree
use Rattle.sql_grammar.specs.Views.{atom_step, part_step, condition_step, part_by, condition_by, view_atom, view_part, view_condition}
use Rattle.binding_model.specs.declared.joint.Joint.TheVariants.{All}
use Rattle.binding_model.specs.declared.tables.Table.{Table}
use Rattle.binding_model.specs.Refusals.{Bind, ◌>>=◌, with_front, each}
use Rattle.binding_model.specs.Translation.{atom, part, parts, alternatives, joined}
use Rattle.statement_binding.proofs.EachLemmas.{each-map}

then_front : {A X : Type 0} (r : Bind A) (g : A → X) (b : Bind (List X)) → (r >>= λ a. with_front (g a ∷ []) b)
    ≡ ((r >>= λ a. Ok (g a)) >>= λ x. with_front (x ∷ []) b)
then_front (Ok a) g b = refl
then_front (Err e) g b = refl

then_last : {A X : Type 0} (r : Bind A) (g : A → X) → (r >>= λ a. Ok (g a ∷ [])) ≡ ((r >>= λ a. Ok (g a)) >>= λ x. with_front (x ∷ []) (Ok []))
then_last (Ok a) g = refl
then_last (Err e) g = refl

pub parts-by : {X : Type 0} (t : Table) (at : ℕ) (f : X → tree.Atom) (a : tree.Atom) (xs : List X) → parts (part_by f a xs) t at
    ≡ (atom a t at >>= λ c. with_front (c ∷ []) (each (λ x. atom (f x) t at) xs))
parts-by t at f a [] = then_last (atom a t at) (λ c. c) ∙ ap (λ r. r >>= λ c. with_front (c ∷ []) (Ok [])) (same (atom a t at))
  where
    same : {X : Type 0} (r : Bind X) → (r >>= λ c. Ok c) ≡ r
    same (Ok x) = refl
    same (Err e) = refl
parts-by t at f a (x ∷ xs) = ap (λ r. atom a t at >>= λ c. with_front (c ∷ []) r) (parts-by t at f (f x) xs)

pub alternatives-by : {X : Type 0} (t : Table) (at : ℕ) (f : X → tree.Part) (p : tree.Part) (xs : List X) → alternatives (condition_by f p xs) t at
    ≡ (part p t at >>= λ c. with_front (c ∷ []) (each (λ x. part (f x) t at) xs))
alternatives-by t at f p [] = then_last (parts p t at) (joined All)
alternatives-by t at f p (x ∷ xs) =
    then_front (parts p t at) (joined All) (alternatives (condition_by f (f x) xs) t at)
    ∙ ap (λ r. part p t at >>= λ c. with_front (c ∷ []) r) (alternatives-by t at f (f x) xs)

pub parts-viewed : (t : Table) (at : ℕ) (p : WrittenPart) → parts (view_part p) t at
    ≡ (atom (view_atom p.first) t at >>= λ c. with_front (c ∷ []) (each (λ a. atom (view_atom a) t at) p.more))
unfolding view_part view_atom
parts-viewed t at p = ap (λ q. parts q t at) (fold_out-Part tree.Atom tree.Condition tree.Part atom_step condition_step part_step p)
    ∙ parts-by t at (λ a. a) (view_atom p.first) (map view_atom p.more)
    ∙ ap (λ r. atom (view_atom p.first) t at >>= λ c. with_front (c ∷ []) r) (each-map view_atom (λ a. atom a t at) p.more)

pub alternatives-viewed : (t : Table) (at : ℕ) (w : WrittenCondition) → alternatives (view_condition w) t at
    ≡ (part (view_part (out-Condition w).first) t at >>= λ c. with_front (c ∷ []) (each (λ p. part (view_part p) t at) (out-Condition w).more))
unfolding view_condition view_part
alternatives-viewed t at w = ap (λ q. alternatives q t at) (fold_out-Condition tree.Atom tree.Condition tree.Part atom_step condition_step part_step w)
    ∙ alternatives-by t at (λ p. p) (view_part (out-Condition w).first) (map view_part (out-Condition w).more)
    ∙ ap (λ r. part (view_part (out-Condition w).first) t at >>= λ c. with_front (c ∷ []) r) (each-map view_part (λ p. part p t at) (out-Condition w).more)

pub ruleset viewed = (parts-viewed, alternatives-viewed)
