use Rattle.std.proofs.Common.{◌≡◌, ℕ, List, ◌∷◌, get_or, ◌+◌, ◌<◌, ◌*◌, drop, drop-cons, add-one, length, sym, ap, subst, ◌∙◌, pos, ◌+ℤ◌, ◌≤ℤ◌, arith}
use lib.IntN.{neg_ℤ, ℤ}
use mir.Val.{SFits, to_z, of_z}
use mir.Syntax.{w64, w128}
use Rattle.lock_modes.specs.RowPlace.{RowPlace}
use Rattle.lock_modes.specs.Rows.{Tuple}
use Rattle.std.proofs.lemmas.Int.{ints}
use Rattle.statement_evaluation.specs.Effect.{total_of, number_in}
use Rattle.statement_evaluation.proofs.select.total.Goals as goal

first : (column : ℕ) (found : List (RowPlace × Tuple)) (i : ℕ) (e : RowPlace × Tuple) (x : ℤ) → i < length found → e ≡ get_or found i e → x
    ≡ number_in column e.1
    → total_of column (drop i found) ≡ x +ℤ total_of column (drop (i + 1) found)
first column found i e x inside is number =
    ap (total_of column) (drop-cons found i e inside ∙ (λ j. sym is j ∷ drop (sym (add-one i) j) found))
    ∙ ap (λ z. z +ℤ total_of column (drop (i + 1) found)) (sym number)

regroup : (t x s r w : ℤ) → t +ℤ s ≡ w → s ≡ x +ℤ r → (t +ℤ x) +ℤ r ≡ w
regroup t x s r w e f = omega (arith, ints)

above : (t x : ℤ) (i : ℕ) → neg_ℤ (pos (9223372036854775808 * i)) ≤ℤ t → SFits w64 x → neg_ℤ (pos (9223372036854775808 * (i + 1))) ≤ℤ (t +ℤ x)
above t x i h fits = omega (arith, ints)

below : (t x : ℤ) (i : ℕ) → t ≤ℤ pos (9223372036854775808 * i) → SFits w64 x → (t +ℤ x) ≤ℤ pos (9223372036854775808 * (i + 1))
below t x i h fits = omega (arith, ints)

pub loop-entry-preserved : goal.loop-entry-preserved
loop-entry-preserved c =
    let i = c.loop-entry.entry-index in
    let found = c.args.found.now in
    let x = c.number_in.result in
    let t = to_z w128 c.loop-entry.total-bits in
    let rest = total_of c.args.column (drop (i + 1) found) in
    let inside : i < length found = c.loop-entry-test.true in
    let number : x ≡ number_in c.args.column c.entry-item.result.1 = c.number_in.ensures ∙ ap (number_in c.args.column) c.row.ensures in
    let left : total_of c.args.column (drop i found) ≡ x +ℤ rest = first c.args.column found i c.entry-item.result x inside c.entry-item.is number in
    let fits : SFits w64 x = record { sfits = c.number_in.type_inv } in
    let low : neg_ℤ (pos (9223372036854775808 * (i + 1))) ≤ℤ (t +ℤ x) = above t x i c.loop-entry.invariant.1 fits in
    let high : (t +ℤ x) ≤ℤ pos (9223372036854775808 * (i + 1)) = below t x i c.loop-entry.invariant.2 fits in
    let sum : to_z w128 (of_z w128 (to_z w128 c.loop-entry.total-bits +ℤ to_z w128 (of_z w128 (to_z w64 (of_z w64 x)))))
    ≡ t +ℤ x = omega (arith, ints, c.loop-entry.total-is) in (
      ap (λ z. z +ℤ rest) sum ∙ regroup t x (total_of c.args.column (drop i found)) rest (total_of c.args.column found) c.loop-entry.invariant.0 left,
      subst (λ z. neg_ℤ (pos (9223372036854775808 * (i + 1))) ≤ℤ z) (sym sum) low,
      subst (λ z. z ≤ℤ pos (9223372036854775808 * (i + 1))) (sym sum) high,
    )
