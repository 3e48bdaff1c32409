-- New rows of tables without a key get numbers past those that are there.
use Rattle.std.proofs.Common.{◌≡◌, refl, sym, ap, subst, ℕ, suc, ◌<◌, arith, List, [], ◌∷◌, None, All, pos, negsuc, ltb-true}
use Rattle.std.proofs.Common.{Less, Equal, Greater}
use Rattle.std.specs.Prelude.{T, Bool, true, false, cond, int_lt}
use Rattle.std.proofs.lemmas.Bool.{eqb-true}
use Rattle.std.specs.Ordering.{is_lt, int_cmp, ordering_then}
use Rattle.std.specs.Cmp.{nat_cmp_is}
use Rattle.std.specs.FinMap.Entries.{is_sorted}
use Rattle.finite_maps.specs.Map.{entries}
use Rattle.lock_modes.specs.RowPlace.{RowPlace, place_cmp}
use Rattle.lock_modes.specs.Rows.{Tuple, Rows'}
use Rattle.lock_modes.specs.declared.value.Value.{Value}
use Rattle.lock_modes.specs.declared.value.Value.TheVariants.{Int, Text}
use Rattle.row_tables.proofs.UndoLemmas.{front, back}
use Rattle.bound_statements.specs.declared.statement.Bound.{Bound}
use Rattle.bound_statements.specs.declared.statement.Bound.TheVariants.{Insert}
use Rattle.binding_model.specs.declared.tables.Table.{Table}
use Rattle.bound_specs.specs.Fits.{Fits}
use Rattle.statement_evaluation.specs.Effect.{visible, next_number}
use Rattle.statement_evaluation.proofs.ListLemmas.{Each, Each-map}
use Rattle.machine_model.specs.Typed.{LiesAt, EntryFits, RowsFit}
use Rattle.machine_model.proofs.Takings.{each-all, all-each, IsOf, seen-fits}

-- the entry is the row with this number of the table
abbrev IsNumber : ℕ → RowPlace × Tuple → ℕ → Type 0
IsNumber t e n = (e.0.0 ≡ t) × (e.0.1 ≡ Int (pos n))

abbrev HasNumber : ℕ → RowPlace × Tuple → Type 0
HasNumber t e = (n : ℕ) × IsNumber t e n

is-less : (b d : Bool) → T (is_lt (cond b Less (cond d Greater Equal))) → b ≡ true
is-less true d h = refl
is-less false true h = absurd h
is-less false false h = absurd h

-- numbers rise with their places
rises : (t m n : ℕ) (d e : RowPlace × Tuple) → IsNumber t d m → IsNumber t e n → T (is_lt (place_cmp d.0 e.0)) → m < n
rises t m n d e p q h = ltb-true m n (is-less (int_lt (pos m) (pos n)) (int_lt (pos n) (pos m)) less)
  where
    placed : T (is_lt (place_cmp (t, Int (pos m)) (t, Int (pos n))))
    placed = subst (λ (x : RowPlace). T (is_lt (place_cmp (t, Int (pos m)) x))) (λ i. (q.0 i, q.1 i))
        (subst (λ (x : RowPlace). T (is_lt (place_cmp x e.0))) (λ i. (p.0 i, p.1 i)) h)

    less : T (is_lt (int_cmp (pos m) (pos n)))
    less = subst (λ o. T (is_lt (ordering_then o (int_cmp (pos m) (pos n))))) (sym (nat_cmp_is t t Equal refl)) placed

behind : (k n : ℕ) (v : Value) → v ≡ Int (pos n)
    → let x : ℕ = elim v [ Int z ↦ elim z [ pos m ↦ suc m | negsuc m ↦ k ] | Text s ↦ k ] in
    x ≡ suc n
behind k n v e = ap (λ v. elim v [ Int z ↦ elim z [ pos m ↦ suc m | negsuc m ↦ k ] | Text s ↦ k ]) e

module _ (t : ℕ) where
  -- where numbers rise, the next one is past the first
  past-first : (n : ℕ) (e : RowPlace × Tuple) → IsNumber t e n → (es : List (RowPlace × Tuple)) → T (is_sorted place_cmp (e ∷ es)) → Each (HasNumber t) es
      → n < next_number (suc n) es
  past-first n e is [] s h = omega arith
  past-first n e is (x ∷ es) s h =
      let m = h.0.0 in
      let up : n < m = rises t n m e x is h.0.1 (front _ _ (front _ _ s)) in
      let rest : m < next_number (suc m) es = past-first m x h.0.1 es (back _ _ s) h.1 in
      subst (λ k. n < next_number k es) (sym (behind (suc n) m x.0.1 h.0.1.1)) (omega (arith, up, rest))

  past-each : (k : ℕ) (es : List (RowPlace × Tuple)) → T (is_sorted place_cmp es) → Each (HasNumber t) es
      → Each (λ (e : RowPlace × Tuple). (n : ℕ) × ((e.0.1 ≡ Int (pos n)) × (n < next_number k es))) es
  past-each k [] s h = tt
  past-each k (e ∷ es) s h =
      let n = h.0.0 in
      let is = sym (behind k n e.0.1 h.0.1.1) in (
        (n, (h.0.1.1, subst (λ m. n < next_number m es) is (past-first n e h.0.1 es s h.1))),
        subst (λ m. Each (λ (e : RowPlace × Tuple). (n : ℕ) × ((e.0.1 ≡ Int (pos n)) × (n < next_number m es))) es) is
            (past-each (suc n) es (back _ _ s) h.1),
      )

in-order : (rows : Rows') → T (is_sorted place_cmp (entries rows))
unfolding entries
in-order rows = rows.sorted

pub numbers-new : (tables : List Table) (t : ℕ) (new : List Tuple) (rows : Rows') → Fits tables (Insert t None new) → RowsFit tables rows
    → let there = entries (visible (Insert t None new) rows) in
    All (λ (e : RowPlace × Tuple). (n : ℕ) × ((e.0.1 ≡ Int (pos n)) × (n < next_number 1 there))) there
numbers-new tables t new rows fits h =
    let st : Bound = Insert t None new in
    let there = entries (visible st rows) in
    each-all (λ (e : RowPlace × Tuple). (n : ℕ) × ((e.0.1 ≡ Int (pos n)) × (n < next_number 1 there))) there
    (past-each t 1 there (in-order (visible st rows))
    (Each-map (IsOf tables t) (HasNumber t) (λ e is. lies e is.0 (subst (λ key. LiesAt key e.0.1 e.1) (sym fits.1.0) is.1.1)) there
    (seen-fits tables st t (λ p look. eqb-true p.0 t look) rows (all-each (EntryFits tables) (entries rows) h))))
  where
    lies : (e : RowPlace × Tuple) → e.0.0 ≡ t → LiesAt None e.0.1 e.1 → HasNumber t e
    lies e here at = (suc at.0, (here, at.1))
