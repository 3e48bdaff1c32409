-- Worked words of `show`: which of them are a rank.
use Rattle.std.proofs.Common.{refl, sym, subst, ℕ, ◌<◌, ◌^◌, [], ◌∷◌, arith}
use Rattle.std.specs.Prelude.{codes}
use Rattle.command_line.specs.Lines.{IsNumberAlone}

a_number : IsNumberAlone (codes "17" ∷ []) 17
a_number = ((omega arith, (omega arith, (omega arith, tt))), refl, omega arith)

a_number_with_zeros : IsNumberAlone (codes "+007" ∷ []) 7
a_number_with_zeros = ((omega arith, (omega arith, (omega arith, (omega arith, tt)))), refl, omega arith)

a_name : (rank : ℕ) → IsNumberAlone (codes "a1" ∷ []) rank → ⊥
a_name rank is = omega (arith, is.0.1.0)

two_numbers : (rank : ℕ) → IsNumberAlone (codes "1" ∷ codes "2" ∷ []) rank → ⊥
two_numbers rank is = is

a_number_of_65_bits : (rank : ℕ) → IsNumberAlone (codes "18446744073709551616" ∷ []) rank → ⊥
a_number_of_65_bits rank is = omega (arith, subst (λ r. r < 2 ^ 64) (sym is.1) is.2)
