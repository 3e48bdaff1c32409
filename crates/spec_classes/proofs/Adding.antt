-- All counts of classes together are the number of the orders.
use Rattle.std.proofs.Common.{◌≡◌, sym, ap, ◌∙◌, subst, ℕ, suc, ◌+◌, ◌≤◌, List, [], ◌∷◌, map, Some, ◌⊎◌, inl, inr, ⊎_elim, arith}
use Rattle.lock_queues.specs.Reasons.{Among}
use Rattle.binding_model.specs.declared.tables.Table.{Table}
use Rattle.bound_specs.specs.Spec.{Spec}
use Rattle.spec_schedules.specs.declared.kind.Kind.{Kind}
use Rattle.order_classes.specs.declared.shows.Shows.{Shows}
use Rattle.order_classes.specs.Numbers.{IsNumberOf, RiseFrom}
use Rattle.order_classes.specs.Shows.{shows_of_line}
use Rattle.spec_classes.specs.declared.classes.OrderClass.{OrderClass}
use Rattle.spec_classes.specs.Classes.{ShowsAt, IsClassOf, AreClassesOf, CountsAddUp, total_count}
use Rattle.spec_classes.proofs.Counts.{behind, number-none, number-same, number-sum}

module _ (kind : Kind) (tables : List Table) (run : Spec)
    (alone : (rank : ℕ) (s t : Shows) → ShowsAt kind tables run rank s → ShowsAt kind tables run rank t → s ≡ t) where
  abbrev IsInSome : List OrderClass → ℕ → Type 0
  IsInSome cs rank = (c : OrderClass) × Among c cs × ShowsAt kind tables run rank c.shows

  added : (low : ℕ) (cs : List OrderClass) → ((c : OrderClass) → Among c cs → IsClassOf kind tables run c) → RiseFrom low (map (λ (c : OrderClass). c.first) cs)
      → IsNumberOf (IsInSome cs) (total_count cs)
  added low [] each rise = number-none (IsInSome []) (λ rank x. x.1)
  added low (c ∷ cs) each rise =
      number-same (λ rank. ShowsAt kind tables run rank c.shows ⊎ IsInSome cs rank) (IsInSome (c ∷ cs)) (c.count + total_count cs)
      (λ rank x. ⊎_elim (λ y. (c, inl (λ i. c), y)) (λ y. (y.0, inr y.1, y.2)) x) (λ rank x. back rank x.0 x.1 x.2)
      (number-sum (λ rank. ShowsAt kind tables run rank c.shows) (IsInSome cs) c.count (total_count cs) own.count
      (added (suc c.first) cs (λ d m. each d (inr m)) rise.1) apart)
    where
      own : IsClassOf kind tables run c
      own = each c (inl (λ i. c))

      back : (rank : ℕ) (d : OrderClass) → Among d (c ∷ cs) → ShowsAt kind tables run rank d.shows → ShowsAt kind tables run rank c.shows ⊎ IsInSome cs rank
      back rank d (inl e) y = inl (subst (λ (x : OrderClass). ShowsAt kind tables run rank x.shows) e y)
      back rank d (inr m) y = inr (d, m, y)

      apart : (rank : ℕ) → ShowsAt kind tables run rank c.shows → IsInSome cs rank → ⊥
      apart rank y x =
          let d : OrderClass = x.0 in
          let same : c.shows ≡ d.shows = alone rank c.shows d.shows y x.2 in
          let lt : suc c.first ≤ d.first = behind (λ (x : OrderClass). x.first) (suc c.first) cs d rise.1 x.1 in
          let other = each d (inr x.1) in
          let le : d.first ≤ c.first = other.first.least c.first (subst (ShowsAt kind tables run c.first) same own.first.is_so) in
          omega (arith, lt, le)

-- a rank shows one thing
pub one-shown : (kind : Kind) (tables : List Table) (run : Spec) (cs : List OrderClass) → AreClassesOf kind tables run cs → (rank : ℕ) (s t : Shows)
    → ShowsAt kind tables run rank s → ShowsAt kind tables run rank t → s ≡ t
one-shown kind tables run cs are rank s t x y =
    let same : x.0 ≡ y.0 = are.alone rank x.0 y.0 x.1 y.1 in
    let both : Some s ≡ Some t = sym x.2 ∙ ap (shows_of_line tables run) same ∙ y.2 in
    cc

pub counts-add-up : CountsAddUp
counts-add-up kind tables run cs are =
    number-same (IsInSome kind tables run (one-shown kind tables run cs are) cs) (λ rank. (s : Shows) × ShowsAt kind tables run rank s) (total_count cs)
    (λ rank x. (x.0.shows, x.2)) (λ rank x. (let c = are.all rank x.0 x.1 in (c.0, c.1, subst (ShowsAt kind tables run rank) (sym c.2) x.1)))
    (added kind tables run (one-shown kind tables run cs are) 0 cs are.each are.rise)
