-- Counts of steps, and lines of step numbers, one after another.
use Rattle.std.proofs.Common.{◌≡◌, refl, sym, ap, ◌∙◌, ℕ, zero, suc, ◌+◌, ◌<◌, ◌≤◌, List, [], ◌∷◌, ◌++◌, length, map, get_or, drop, Option, Some, None}
use Rattle.std.proofs.Common.{option_map, drop-cons, add-one, append_assoc, arith}
use Rattle.std.proofs.lemmas.List.{length-map}
use Rattle.spec_reader.specs.declared.tree.Session.{Session}
use Rattle.spec_reader.specs.Views.{session_tree, step_tree}
use Rattle.perm_ranks.specs.Words.{total}
use Rattle.bound_specs.specs.Lines.{counts_in, then_some, all_some}

-- ---- counts of steps

abbrev pub counts_of : List Session → List ℕ
counts_of ss = counts_in (map session_tree ss)

pub item-le-total : (ss : List Session) (k : ℕ) (d : Session) → k < length ss → length (get_or ss k d).steps.items ≤ total (counts_of ss)
item-le-total [] k d h = absurd (omega arith)
item-le-total (s ∷ ss) zero d h = omega (arith, length-map s.steps.items step_tree)
item-le-total (s ∷ ss) (suc k) d h = omega (arith, item-le-total ss k d (omega arith))

-- ---- what each gives

-- these in front of those that are left, if there are such
abbrev pub front_some : {X : Type 0} → List X → Option (List X) → Option (List X)
front_some xs = option_map (λ ys. xs ++ ys)

front_twice : {X : Type 0} (xs ys : List X) (o : Option (List X)) → front_some xs (front_some ys o) ≡ front_some (xs ++ ys) o
front_twice xs ys None = refl
front_twice xs ys (Some zs) = ap Some (sym (append_assoc xs ys zs))

no_front : {X : Type 0} (o : Option (List X)) → front_some [] o ≡ o
no_front None = refl
no_front (Some xs) = refl

pub some-map : {A B X : Type 0} (g : A → B) (f : B → Option X) (as' : List A) → all_some f (map g as') ≡ all_some (λ a. f (g a)) as'
some-map g f [] = refl
some-map g f (a ∷ as') = ap (then_some (f (g a))) (some-map g f as')

pub some-starts : {A B X : Type 0} (g : A → B) (f : B → Option X) (as' : List A) → front_some [] (all_some (λ a. f (g a)) as') ≡ all_some f (map g as')
some-starts g f as' = no_front (all_some (λ a. f (g a)) as') ∙ sym (some-map g f as')

module _ {A X : Type 0} (f : A → Option X) where
  pub some-goes_on : (xs : List X) (as' : List A) (k : ℕ) (d : A) (x : X) → k < length as' → f (get_or as' k d) ≡ Some x
      → front_some xs (all_some f (drop k as')) ≡ front_some (xs ++ x ∷ []) (all_some f (drop (k + 1) as'))
  some-goes_on xs as' k d x h e =
      ap (λ bs. front_some xs (all_some f bs)) (drop-cons as' k d h)
      ∙ ap (λ o. front_some xs (then_some o (all_some f (drop (suc k) as')))) e
      ∙ front_twice xs (x ∷ []) (all_some f (drop (suc k) as'))
      ∙ ap (λ n. front_some (xs ++ x ∷ []) (all_some f (drop n as'))) (sym (add-one k))
