-- The entries behind one of them.
use Rattle.std.specs.Prelude.{◌≡◌, refl, true, false, cond, T, List, [], ◌∷◌, Option, Some, None}
use Rattle.std.proofs.Common.{sym, ap, ◌∙◌}
use Rattle.std.specs.declared.cmp.Ordering.{Ordering}
use Rattle.std.specs.declared.cmp.Ordering.TheVariants.{Less, Equal, Greater}
use Rattle.std.specs.Ordering.{is_lt, ordering_reverse}
use Rattle.std.specs.Cmp.{IsTotalOrder, tied_itself}
use Rattle.std.specs.FinMap.Entries.{below_all, is_sorted}
use Rattle.finite_maps.specs.Entries.{first, after, above}
use Rattle.version_tree.specs.Iter.{from}
use Rattle.version_tree.proofs.EntriesLemmas.{front, back, less}

not_below_itself : {K : Type 0} {R : K → K → Ordering} → IsTotalOrder R → (k : K) → is_lt (R k k) ≡ false
not_below_itself o k = ap is_lt (tied_itself o k)

not_below : {K : Type 0} {R : K → K → Ordering} → IsTotalOrder R → (x y : K) → R x y ≡ Less → is_lt (R y x) ≡ false
not_below o x y p = ap is_lt (o.antisymm y x ∙ ap ordering_reverse p)

module _ {K X : Type 0} (R : K → K → Ordering) (o : IsTotalOrder R) where
  -- all of what lies above a key that another one is below
  above_all : (k x : K) (es : List (K × X)) → R k x ≡ Less → T (below_all R x es) → above R k es ≡ es
  above_all k x [] p h = refl
  above_all k x (e ∷ es) p h =
      let later : R k e.0 ≡ Less = o.trans k x e.0 p (less _ (front _ _ h)) in
      rw later (ap (λ t. e ∷ t) (above_all k x es p (back _ _ h)))

  above_itself : (k : K) (es : List (K × X)) → T (below_all R k es) → above R k es ≡ es
  above_itself k [] h = refl
  above_itself k (e ∷ es) h =
      let later : R k e.0 ≡ Less = less _ (front _ _ h) in
      rw later (ap (λ t. e ∷ t) (above_itself k es (back _ _ h)))

  -- what comes after is one of the entries
  after_below : (x k : K) (es : List (K × X)) (f : K × X) → T (below_all R x es) → after R k es ≡ Some f → R x f.0 ≡ Less
  after_below x k [] f h is = absurd (let never : None ≡ Some f = is in cc)
  after_below x k (e ∷ es) f h is =
      elim (is_lt (R k e.0)) as (λ b. cond b (Some e) (after R k es) ≡ Some f → R x f.0 ≡ Less) [
        | true ↦ λ same. let own : e ≡ f = cc in ap (λ (g : K × X). R x g.0) (sym own) ∙ less _ (front _ _ h)
        | false ↦ λ later. after_below x k es f (back _ _ h) later
      ] is

  -- an entry more in front changes nothing
  from_later : (e : K × X) (es : List (K × X)) (next : Option (K × X)) → ((f : K × X) → next ≡ Some f → R e.0 f.0 ≡ Less) → from R (e ∷ es) next
      ≡ from R es next
  from_later e es None later = refl
  from_later e es (Some f) later = rw (not_below o e.0 f.0 (later f refl)) refl

  -- from the next entry on are those above the key
  pub from_after : (k : K) (es : List (K × X)) → T (is_sorted R es) → from R es (after R k es) ≡ above R k es
  from_after k [] s = refl
  from_after k (e ∷ es) s =
      let below = front _ _ s in
      let later = from_later e es (after R k es) (λ f is. after_below e.0 k es f below is) ∙ from_after k es (back _ _ s) in
      elim (R k e.0) as (λ r. R k e.0 ≡ r → from R (e ∷ es) (cond (is_lt r) (Some e) (after R k es)) ≡ cond (is_lt r) (e ∷ above R k es) (above R k es)) [
        | Less ↦ λ p. ap (λ t. e ∷ t) (rw (not_below_itself o e.0) (above_itself e.0 es below ∙ sym (above_all k e.0 es p below)))
        | Equal ↦ λ p. later
        | Greater ↦ λ p. later
      ] refl

  -- and from the first on all
  pub from_first : (es : List (K × X)) → T (is_sorted R es) → from R es (first es) ≡ es
  from_first [] s = refl
  from_first (e ∷ es) s = ap (λ t. e ∷ t) (rw (not_below_itself o e.0) (above_itself e.0 es (front _ _ s)))
