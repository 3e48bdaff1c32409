-- What was noted, and one more of it.
use mathlib.Core.List.{IsPrefix}
use Rattle.std.proofs.Common.{◌≡◌, refl, sym, ap, ◌∙◌, subst, ℕ, suc, ◌<◌, ◌≤◌, arith, append-nil, List, [], ◌∷◌, ◌++◌, length, length-append, get_or, map, Some, All}
use Rattle.std.specs.Prelude.{IfSome, Option, None, slice_get}
use Rattle.std.specs.Option.{option_map}
use Rattle.std.proofs.lemmas.List.{get_or_append_left, map-append}
use Rattle.std.proofs.lemmas.List.Elements.{All-push}
use Rattle.std.proofs.lemmas.Option.{slice_get-get_or, slice_get-map}
use Rattle.lock_modes.specs.declared.resource.Resource.{Resource}
use Rattle.session_steps.specs.Stage.{Member}
use Rattle.marked_locks.specs.Queued.{MarkedTable, pictured}
use Rattle.marked_modes.specs.declared.row.TheConstants.{MAX_HOLDERS}
use Rattle.marked_rows.specs.Cells.{MarkedRows}
use Rattle.numbered_specs.specs.Numbers.{Numbers}
use Rattle.marked_worlds.specs.Members.{MarkedSessions}
use Rattle.marked_worlds.specs.Stages.{AreAlike, HasSessions, IsKept, stage_seen, staged_of}
use Rattle.marked_worlds.specs.declared.seen_stages.SeenStage.{SeenStage}

-- one that comes behind others has their number
pub slice-last : {A : Type 0} (xs : List A) (x : A) → slice_get (xs ++ x ∷ []) (length xs) ≡ Some x
slice-last [] x = refl
slice-last (y ∷ xs) x = slice-last xs x

length-mapped : {A B : Type 0} (f : A → B) (ys : List A) → length (map f ys) ≡ length ys
length-mapped f [] = refl
length-mapped f (y ∷ ys) = ap suc (length-mapped f ys)

-- the image of the item with a number
pub mapped-at : {A B : Type 0} (f : A → B) (xs : List A) (n : ℕ) (x : A) → x ≡ get_or xs n x → n < length (map f xs) → slice_get (map f xs) n ≡ Some (f x)
mapped-at f xs n x there lt =
    slice_get-map f xs n
    ∙ ap (option_map f) (slice_get-get_or xs n x (omega (arith, lt, length-mapped f xs)) ∙ ap Some (sym there))

module _ {A B : Type 0} (f : A → B) (xs left : List A) (x : A) (is : left ≡ xs ++ x ∷ []) where
  apart : map f left ≡ map f xs ++ f x ∷ []
  apart = ap (map f) is ∙ map-append f xs (x ∷ [])

  pub last-mapped : (n : ℕ) → n ≡ length xs → slice_get (map f left) n ≡ Some (f x)
  last-mapped n at =
      (λ i. slice_get (apart i) ((at ∙ sym (length-mapped f xs)) i)) ∙ slice-last (map f xs) (f x)

  pub front-mapped : IsPrefix (map f xs) (map f left)
  front-mapped = (f x ∷ [], sym apart)

-- what is noted of worlds is noted of their images
pub prefix-mapped : {A B : Type 0} (f : A → B) (old new : List A) → IsPrefix old new → IsPrefix (map f old) (map f new)
prefix-mapped f old new front = (map f front.0, sym (map-append f old front.0) ∙ ap (map f) front.1)

pub known-mapped : {A B : Type 0} (f : A → B) (answer : Option ℕ) (xs : List A) (x : A) → IfSome answer (λ n. slice_get xs n ≡ Some x)
    → IfSome answer (λ n. slice_get (map f xs) n ≡ Some (f x))
known-mapped f None xs x known = tt
known-mapped f (Some n) xs x known = slice_get-map f xs n ∙ ap (option_map f) known

-- where more sessions are noted, a stage that was is as it was
module _ (rs : List Resource) (old new : List (List Member)) (front : IsPrefix old new) where
  sessions-kept : (n : ℕ) → n < length old → get_or new n [] ≡ get_or old n []
  sessions-kept n lt = ap (λ ms. get_or ms n []) (sym front.1) ∙ get_or_append_left old front.0 [] n lt

  pub inside-kept : (n : ℕ) → n < length old → n < length new
  inside-kept n lt = subst (λ ms. n < length ms) front.1 (omega (arith, lt, length-append old front.0))

  pub all-inside : (noted : List SeenStage) → All (HasSessions old) noted → All (HasSessions new) noted
  all-inside noted all k d lt = inside-kept (get_or noted k d).sessions (all k d lt)

  pub stages-kept : (noted : List SeenStage) → All (HasSessions old) noted → map (stage_seen rs new) noted ≡ map (stage_seen rs old) noted
  stages-kept [] all = refl
  stages-kept (s ∷ noted) all = λ i.
      staged_of s.rows (pictured rs s.locks) (sessions-kept s.sessions (all 0 s (omega arith)) i)
      ∷ stages-kept noted (λ k d lt. all (suc k) d (omega (arith, lt))) i

-- and so are all that were, also with one more
module _ (rs : List Resource) (old new : List (List Member)) (front : IsPrefix old new) (noted left : List SeenStage) (all : All (HasSessions old) noted) where
  pub same-stages : left ≡ noted → IsPrefix (map (stage_seen rs old) noted) (map (stage_seen rs new) left)
  same-stages is = ([], append-nil (map (stage_seen rs old) noted) ∙ sym (ap (map (stage_seen rs new)) is ∙ stages-kept rs old new front noted all))

  pub more-stages : (s : SeenStage) → left ≡ noted ++ s ∷ [] → IsPrefix (map (stage_seen rs old) noted) (map (stage_seen rs new) left)
  more-stages s is =
      subst (λ stages. IsPrefix stages (map (stage_seen rs new) left)) (stages-kept rs old new front noted all) (front-mapped (stage_seen rs new) noted left s is)

  pub same-inside : left ≡ noted → All (HasSessions new) left
  same-inside is = subst (All (HasSessions new)) (sym is) (all-inside rs old new front noted all)

  pub more-inside : (s : SeenStage) → left ≡ noted ++ s ∷ [] → HasSessions new s → All (HasSessions new) left
  more-inside s is inside = subst (All (HasSessions new)) (sym is) (All-push (HasSessions new) noted s (all-inside rs old new front noted all) inside)

-- where sessions are as they were but for what was noted, all else is kept
pub still-staged : (numbers : Numbers) (rows : MarkedRows) (locks : MarkedTable) (members new : MarkedSessions) (noted left : List SeenStage)
    → IsKept numbers rows locks members noted → new ≡ record members { seen = new.seen } → All (HasSessions new.seen) left → IsKept numbers rows locks new left
still-staged numbers rows locks members new noted left kept is all = record {
  resources = kept.resources;
  few = subst (λ (m : MarkedSessions). length m.list ≤ MAX_HOLDERS) (sym is) kept.few;
  marked = subst (λ (m : MarkedSessions). AreAlike rows.marked locks.marked m.marked) (sym is) kept.marked;
  seen = all;
}
