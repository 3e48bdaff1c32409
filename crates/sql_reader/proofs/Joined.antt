-- Lists of one or more whose items are seen.
use Rattle.std.proofs.Common.{◌≡◌, refl, ap, List, [], ◌∷◌, map}
use Rattle.sql_grammar.specs.Tree.{Atom, Part, Single, And, Alone, Or}
use Rattle.sql_grammar.specs.Views.{joined, part_by, condition_by}

joined-map : {A S L X : Type 0} (last : A → L) (more : A → S → L → L) (s : S) (see : X → A) (a : A) (xs : List X)
    → joined last more (λ x. s) (λ x. x) a (map see xs) ≡ joined last more (λ x. s) see a xs
joined-map last more s see a [] = refl
joined-map last more s see a (x ∷ xs) = ap (more a s) (joined-map last more s see (see x) xs)

pub part_maps : {X : Type 0} (see : X → Atom) (a : Atom) (xs : List X) → part_by (λ b. b) a (map see xs) ≡ part_by see a xs
part_maps see a xs = joined-map Single (λ b u l. And b l) (tt {0}) see a xs

pub condition_maps : {X : Type 0} (see : X → Part) (p : Part) (xs : List X) → condition_by (λ q. q) p (map see xs) ≡ condition_by see p xs
condition_maps see p xs = joined-map Alone (λ q u l. Or q l) (tt {0}) see p xs
