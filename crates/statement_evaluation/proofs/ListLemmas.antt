-- Lists of what has been computed so far, with what is left.
pub use Rattle.perm_ranks.proofs.TruthLemmas.{Each, Each-map}
use Rattle.std.proofs.Common.{◌≡◌, refl, sym, ap, ℕ, zero, suc, ◌<◌, length, get_or, arith, Bool, true, false, cond, List, [], ◌∷◌, ◌++◌, Option, Some, None}
use Rattle.std.proofs.Common.{append_assoc}
use Rattle.lock_modes.specs.RowPlace.{RowPlace}
use Rattle.lock_modes.specs.Rows.{Tuple, Write}
use Rattle.statement_evaluation.specs.Effect.{consed, passed, consed_write}

-- these in front of those that are left, if there are such
abbrev pub onto : {A : Type 0} → List A → Option (List A) → Option (List A)
onto xs None = None
onto xs (Some ys) = Some (xs ++ ys)

pub onto-[] : {A : Type 0} (o : Option (List A)) → onto [] o ≡ o
onto-[] None = refl
onto-[] (Some ys) = refl

one-more : {A : Type 0} (xs : List A) (x : A) (ys : List A) → xs ++ (x ∷ ys) ≡ (xs ++ x ∷ []) ++ ys
one-more xs x ys = sym (append_assoc xs (x ∷ []) ys)

pub onto-consed : {A : Type 0} (xs : List A) (x : A) (o : Option (List A)) → onto xs (consed x o) ≡ onto (xs ++ x ∷ []) o
onto-consed xs x None = refl
onto-consed xs x (Some ys) = ap Some (one-more xs x ys)

append-[] : {A : Type 0} (xs : List A) → xs ++ [] ≡ xs
append-[] [] = refl
append-[] (x ∷ xs) = ap (λ ys. x ∷ ys) (append-[] xs)

pub onto-passed : {A : Type 0} (xs : List A) (x : A) (b : Bool) (o : Option (List A)) → onto xs (passed x (Some b) o) ≡ onto (xs ++ cond b (x ∷ []) []) o
onto-passed xs x true o = onto-consed xs x o
onto-passed xs x false o = ap (λ ys. onto ys o) (sym (append-[] xs))

pub onto-write : (xs : List Write) (p : RowPlace) (row : Tuple) (o : Option (List Write)) → onto xs (consed_write p (Some row) o)
    ≡ onto (xs ++ record { place = p; left = Some row } ∷ []) o
onto-write xs p row None = refl
onto-write xs p row (Some ws) = ap Some (one-more xs _ ws)

-- what holds of each holds at an index
pub Each-at : {A : Type 0} (P : A → Type 0) (xs : List A) → Each P xs → (i : ℕ) (d : A) → i < length xs → P (get_or xs i d)
Each-at P [] p i d h = absurd (omega arith)
Each-at P (x ∷ xs) p zero d h = p.0
Each-at P (x ∷ xs) p (suc i) d h = Each-at P xs p.1 i d (omega arith)
