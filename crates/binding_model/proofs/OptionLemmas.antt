-- Elements past the end of a list, and numbers one after another.
use Rattle.std.proofs.Common.{◌≡◌, refl, sym, ap, ◌∙◌, ℕ, suc, ◌+◌, ◌-◌, ◌<◌, ◌≤◌, Bool, false, List, [], ◌∷◌, ◌++◌, length, get_or, drop, Some, None}
use Rattle.std.proofs.Common.{slice_get, inl, inr, arith, add-one, append_assoc}
use Rattle.std.proofs.Math.ListN.{get_or-eq_default}
use Rattle.std.proofs.lemmas.List.{drop_all}
use Rattle.std.proofs.lemmas.Option.{slice_get_cases}
use Rattle.lock_modes.specs.declared.value.Value.{Value}
use Rattle.binding_model.specs.declared.tables.Table.{Table}
use Rattle.binding_model.specs.Statements.{numbers_from}
use Rattle.binding_model.specs.Types.{row_mixes}

pub past-none : {X : Type 0} (xs : List X) (i : ℕ) → slice_get xs i ≡ None → length xs ≤ i
past-none xs i e = elim (slice_get_cases xs i).1 [ inl h ↦ absurd (let both : None ≡ Some h.0 = sym e ∙ h.2 in cc) | inr h ↦ h.0 ]

pub get_or-none : {X : Type 0} (xs : List X) (i : ℕ) (d : X) → slice_get xs i ≡ None → get_or xs i d ≡ d
get_or-none xs i d e = get_or-eq_default xs d (past-none xs i e)

row_mixes-none : (t : Table) (cs : List ℕ) → row_mixes t cs [] ≡ false
row_mixes-none t [] = refl
row_mixes-none t (c ∷ cs) = refl

-- behind the last value nothing mixes
pub row_mixes-past : (t : Table) (cs : List ℕ) (row : List Value) (n : ℕ) (whole : Bool) → length row ≤ n → row_mixes t (drop n cs) (drop n row) ≡ whole
    → false ≡ whole
row_mixes-past t cs row n whole e h = sym (row_mixes-none t (drop n cs)) ∙ ap (row_mixes t (drop n cs)) (sym (drop_all n row e)) ∙ h

pub numbers-next : (all whole : List ℕ) (k w : ℕ) → k < w → all ++ numbers_from k (w - k) ≡ whole → (all ++ k ∷ []) ++ numbers_from (k + 1) (w - (k + 1))
    ≡ whole
numbers-next all whole k w h e =
    let more : w - k ≡ suc (w - (k + 1)) = omega arith in
    append_assoc all (k ∷ []) (numbers_from (k + 1) (w - (k + 1)))
    ∙ (λ i. all ++ (k ∷ numbers_from (add-one k i) (w - (k + 1))))
    ∙ ap (λ n. all ++ numbers_from k n) (sym more)
    ∙ e
