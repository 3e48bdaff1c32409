-- One part after another is bound, with the tables that are declared so far.
use Rattle.std.proofs.Common.{◌≡◌, refl, sym, ap, ◌∙◌, ℕ, suc, ◌+◌, ◌<◌, List, [], ◌∷◌, ◌++◌, length, map, get_or, drop, Ok, Err, drop-cons, add-one}
use Rattle.std.proofs.Common.{append_assoc}
use Rattle.binding_model.specs.declared.error.BindError.{BindError}
use Rattle.binding_model.specs.declared.error.BindStop.{BindStop}
use Rattle.binding_model.specs.declared.error.BindStop.TheVariants.{Memory, Refused}
use Rattle.binding_model.specs.declared.tables.Table.{Table}
use Rattle.binding_model.specs.Refusals.{Bind, Binds, ◌>>=◌}
use Rattle.bound_specs.specs.Binding.{then_more, declared}

more_twice : {X : Type 0} (xs ys : List X) (r : Bind (List Table × List X)) → then_more xs (then_more ys r) ≡ then_more (xs ++ ys) r
more_twice xs ys (Ok z) = ap (λ zs. Ok (z.0, zs)) (sym (append_assoc xs ys z.1))
more_twice xs ys (Err e) = refl

ok_pair : {X : Type 0} (p q : List Table × List X) → ◌≡◌ {A = Bind (List Table × List X)} (Ok p) (Ok q) → (p.0 ≡ q.0) × (p.1 ≡ q.1)
ok_pair p q e = let same : p ≡ q = cc in (ap (λ x. x.0) same, ap (λ x. x.1) same)

module _ {A X : Type 0} (f : List Table → A → Bind (List Table × List X)) where
  step_by : (xs : List X) (r : Bind (List Table × List X)) (as' : List A) (tables : List Table) (ys : List X) → then_more xs r ≡ Ok (tables, ys)
      → then_more xs (r >>= λ x. then_more x.1 (declared f x.0 as')) ≡ then_more ys (declared f tables as')
  step_by xs (Ok y) as' tables ys e =
      let both = ok_pair (y.0, xs ++ y.1) (tables, ys) e in
      more_twice xs y.1 (declared f y.0 as') ∙ (λ i. then_more (both.1 i) (declared f (both.0 i) as'))
  step_by xs (Err e) as' tables ys h = absurd (cc h)

  pub declared-goes_on : (tables : List Table) (xs : List X) (as' : List A) (k : ℕ) (d : A) (new : List Table) (ys : List X) → k < length as'
      → then_more xs (f tables (get_or as' k d)) ≡ Ok (new, ys)
      → then_more xs (declared f tables (drop k as')) ≡ then_more ys (declared f new (drop (k + 1) as'))
  declared-goes_on tables xs as' k d new ys h e =
      ap (λ bs. then_more xs (declared f tables bs)) (drop-cons as' k d h)
      ∙ step_by xs (f tables (get_or as' k d)) (drop (suc k) as') new ys e
      ∙ ap (λ n. then_more ys (declared f new (drop n as'))) (sym (add-one k))

  -- what is refused of the next part is refused of all
  pub declared-refused : (tables : List Table) (xs : List X) (as' : List A) (k : ℕ) (d : A) (e : BindError) → k < length as'
      → then_more xs (f tables (get_or as' k d)) ≡ Err e → then_more xs (declared f tables (drop k as')) ≡ Err e
  declared-refused tables xs as' k d e h told =
      ap (λ bs. then_more xs (declared f tables bs)) (drop-cons as' k d h) ∙ refused_by xs (f tables (get_or as' k d)) told
    where
      refused_by : (xs : List X) (r : Bind (List Table × List X)) → then_more xs r ≡ Err e
          → then_more xs (r >>= λ x. then_more x.1 (declared f x.0 (drop (suc k) as'))) ≡ Err e
      refused_by xs (Ok y) told = absurd (cc told)
      refused_by xs (Err e') told = told

  pub declared-starts : (tables : List Table) (as' : List A) → then_more [] (declared f tables as') ≡ declared f tables as'
  declared-starts tables as' = none_more (declared f tables as')
    where
      none_more : (r : Bind (List Table × List X)) → then_more [] r ≡ r
      none_more (Ok y) = refl
      none_more (Err e) = refl

more_map : {X : Type 0} (r : Bind (List Table × List X)) (f g : List Table → Bind (List Table × List X)) → ((t : List Table) → f t ≡ g t)
    → (r >>= λ x. then_more x.1 (f x.0)) ≡ (r >>= λ x. then_more x.1 (g x.0))
more_map (Ok x) f g h = ap (then_more x.1) (h x.0)
more_map (Err e) f g h = refl

pub declared-map : {A B X : Type 0} (g : A → B) (f : List Table → B → Bind (List Table × List X)) (as' : List A) (tables : List Table)
    → declared f tables (map g as') ≡ declared (λ t a. f t (g a)) tables as'
declared-map g f [] tables = refl
declared-map g f (a ∷ as') tables = more_map (f tables (g a)) (λ t. declared f t (map g as')) (λ t. declared (λ t a. f t (g a)) t as') (declared-map g f as')

-- what is refused of one is refused of the other
pub still-refused : {Y : Type 0} (y : Y) (e : BindStop) (r s : Bind Y) → Binds {X = Unit {0}} (λ u. y) (Err e) r
    → ((e' : BindError) → r ≡ Err e' → s ≡ Err e') → Binds {X = Unit {0}} (λ u. y) (Err e) s
still-refused y Memory r s told h = tt
still-refused y (Refused e') r s told h = h e' told
