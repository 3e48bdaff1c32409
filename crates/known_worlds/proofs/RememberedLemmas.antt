-- What is remembered stays true.
use Rattle.std.proofs.Common.{◌≡◌, ◌∙◌, refl, sym, ap, subst, ℕ, zero, suc, List, [], ◌∷◌, ◌++◌, get_or, Option, Some, None, ◌⊎◌, inl, inr}
use Rattle.std.specs.Prelude.{IfSome, reverse, slice_get}
use Rattle.std.proofs.lemmas.List.{reverse-append}
use mathlib.Core.List.{IsPrefix}
use Rattle.bound_specs.specs.Spec.{SpecFile}
use Rattle.machine_model.specs.World.{World, outcome_of, send}
use Rattle.machine_model.specs.Outcome.{IsOutcomeOf}
use Rattle.known_worlds.specs.Late.{LateRunning}
use Rattle.known_worlds.specs.declared.graph.Edge.{Edge}
use Rattle.known_worlds.specs.declared.graph.ToldWorld.{ToldWorld}
use Rattle.known_worlds.specs.declared.graph.PairAnswer.{PairAnswer}
use Rattle.known_worlds.specs.declared.graph.Graph.{Graph}
use Rattle.known_worlds.specs.Remembered.{are_quiet, AreNoted, Each, IsEdge, IsGraph, IsKnown, IsNoted, IsPairAnswer, IsToldAs, IsToldWorld}

pub prefix-self : {A : Type 0} (xs : List A) → IsPrefix xs xs
prefix-self xs = ([], nil xs)
  where
    nil : {A : Type 0} (xs : List A) → xs ++ [] ≡ xs
    nil [] = refl
    nil (x ∷ xs) = ap (λ ys. x ∷ ys) (nil xs)

-- what stands in a front stands in the whole
pub in-front : {A : Type 0} (xs ys : List A) (n : ℕ) (x : A) → IsPrefix xs ys → slice_get xs n ≡ Some x → slice_get ys n ≡ Some x
in-front xs ys n x front is = subst (λ zs. slice_get zs n ≡ Some x) front.1 (behind xs front.0 n is)
  where
    behind : {A : Type 0} {x : A} (xs ys : List A) (n : ℕ) → slice_get xs n ≡ Some x → slice_get (xs ++ ys) n ≡ Some x
    behind [] ys n is = absurd (cc)
    behind (y ∷ xs) ys zero is = is
    behind (y ∷ xs) ys (suc n) is = behind xs ys n is

pub noted-more : (old new : List World) (at : Option ℕ) (w : World) → IsPrefix old new → IsNoted old at w → IsNoted new at w
noted-more old new None w front is = tt
noted-more old new (Some n) w front is = in-front old new n w front is

pub all-noted-more : (old new : List World) (ns : List (Option ℕ)) (ws : List World) → IsPrefix old new → AreNoted old ns ws → AreNoted new ns ws
all-noted-more old new [] [] front are = tt
all-noted-more old new (n ∷ ns) (w ∷ ws) front are = (noted-more old new n w front are.0, all-noted-more old new ns ws front are.1)
all-noted-more old new [] (w ∷ ws) front are = are
all-noted-more old new (n ∷ ns) [] front are = are

-- ---- items at places

pub each-weaker : {T : Type 0} (P Q : T → Type 0) (items : List (Option T)) → ((x : T) → P x → Q x) → Each P items → Each Q items
each-weaker {T} P Q items weaker each place = at (get_or items place None) (each place)
  where
    at : (o : Option T) → IfSome o P → IfSome o Q
    at None h = tt
    at (Some x) h = weaker x h

pub each-put : {T : Type 0} (P : T → Type 0) (old new : List (Option T)) (x : T) → Each P old → P x
    → ((i : ℕ) → IfSome (get_or new i None) (λ y. (get_or old i None ≡ Some y) ⊎ (y ≡ x))) → Each P new
each-put {T} P old new x each is put place = at (get_or new place None) (put place)
  where
    one : (y : T) → (get_or old place None ≡ Some y) ⊎ (y ≡ x) → P y
    one y (inl was) = subst (λ o. IfSome o P) was (each place)
    one y (inr now) = subst P (sym now) is

    at : (o : Option T) → IfSome o (λ y. (get_or old place None ≡ Some y) ⊎ (y ≡ x)) → IfSome o P
    at None h = tt
    at (Some y) h = one y h

-- ---- more is noted and told

edge-more : (r s : LateRunning) → s.file ≡ r.file → IsPrefix r.seen s.seen → (e : Edge) → IsEdge r e → IsEdge s e
edge-more r s file seen e is = record {
  world = is.world;
  from = in-front r.seen s.seen e.from is.world seen is.from;
  to = in-front r.seen s.seen e.to _ seen is.to ∙ ap (λ (f : SpecFile). Some (send f.run.steps is.world e.step)) (sym file);
}

pub told-more : (r s : LateRunning) (w : World) (n : ℕ) → s.file ≡ r.file → IsPrefix r.told s.told → IsToldAs r w n → IsToldAs s w n
told-more r s w n file told is = (
  in-front r.told s.told n _ told is.0 ∙ ap (λ (f : SpecFile). Some (outcome_of f.run.sessions w)) (sym file),
  subst (λ (f : SpecFile). IsOutcomeOf f.run (outcome_of f.run.sessions w)) (sym file) is.1,
)

told-world-more : (r s : LateRunning) → s.file ≡ r.file → IsPrefix r.seen s.seen → IsPrefix r.told s.told → (t : ToldWorld) → IsToldWorld r t → IsToldWorld s t
told-world-more r s file seen told t is = record {
  world = is.world;
  at = in-front r.seen s.seen t.at is.world seen is.at;
  told = told-more r s is.world t.outcome file told is.told;
}

answer-more : (r s : LateRunning) → s.file ≡ r.file → IsPrefix r.seen s.seen → (p : PairAnswer) → IsPairAnswer r p → IsPairAnswer s p
answer-more r s file seen p is = record {
  world = is.world;
  at = in-front r.seen s.seen p.at is.world seen is.at;
  answer = is.answer ∙ ap (λ (f : SpecFile). are_quiet (record r { file = f }) is.world p.step p.other) (sym file);
}

pub graph-more : (r s : LateRunning) (g : Graph) → s.file ≡ r.file → IsPrefix r.seen s.seen → IsPrefix r.told s.told → IsGraph r g → IsGraph s g
graph-more r s g file seen told is = record {
  edges = each-weaker (IsEdge r) (IsEdge s) g.edges.items (edge-more r s file seen) is.edges;
  told = each-weaker (IsToldWorld r) (IsToldWorld s) g.told.items (told-world-more r s file seen told) is.told;
  quiet = each-weaker (IsPairAnswer r) (IsPairAnswer s) g.quiet.items (answer-more r s file seen) is.quiet;
}

-- ---- one call

prefix-same : {A : Type 0} (xs ys : List A) → ys ≡ xs → IsPrefix xs ys
prefix-same {A} xs ys same = subst (λ (zs : List A). IsPrefix xs zs) (sym same) (prefix-self xs)

-- nothing more is noted or told
pub graph-same : (r s : LateRunning) (g : Graph) → s.file ≡ r.file → s.seen ≡ r.seen → s.told ≡ r.told → IsGraph r g → IsGraph s g
graph-same r s g file seen told is = graph-more r s g file (prefix-same r.seen s.seen seen) (prefix-same r.told s.told told) is

-- something may be noted
pub graph-noted : (r s : LateRunning) (g : Graph) → s ≡ record r { seen = s.seen; level = s.level } → IsPrefix r.seen s.seen → IsGraph r g → IsGraph s g
graph-noted r s g same seen is =
    graph-more r s g (ap (λ (v : LateRunning). v.file) same) seen (prefix-same r.told s.told (ap (λ (v : LateRunning). v.told) same)) is

-- something may be told
pub graph-told : (r s : LateRunning) (g : Graph) → s ≡ record r { told = s.told; level = s.level } → IsPrefix r.told s.told → IsGraph r g → IsGraph s g
graph-told r s g same told is =
    graph-more r s g (ap (λ (v : LateRunning). v.file) same) (prefix-same r.seen s.seen (ap (λ (v : LateRunning). v.seen) same)) told is

-- ---- marks

pub marks-more : (r s : LateRunning) (marks : List (Option ℕ)) → s.marked ≡ r.marked → IsPrefix r.seen s.seen → AreNoted r.seen (reverse marks) r.marked
    → AreNoted s.seen (reverse marks) s.marked
marks-more r s marks same front are = subst (AreNoted s.seen (reverse marks)) (sym same) (all-noted-more r.seen s.seen (reverse marks) r.marked front are)

pub mark-more : (seen : List World) (marks new : List (Option ℕ)) (at : Option ℕ) (w : World) (ws : List World) → new ≡ marks ++ at ∷ [] → IsNoted seen at w
    → AreNoted seen (reverse marks) ws → AreNoted seen (reverse new) (w ∷ ws)
mark-more seen marks new at w ws is here are =
    subst (λ ns. AreNoted seen ns (w ∷ ws)) (sym (ap reverse is ∙ reverse-append marks (at ∷ []))) (here, are)

-- ---- the machine has run, and nothing else

pub graph-still : (r s : LateRunning) (g : Graph) → s ≡ record r { level = s.level } → IsGraph r g → IsGraph s g
graph-still r s g same is =
    graph-same r s g (ap (λ (v : LateRunning). v.file) same) (ap (λ (v : LateRunning). v.seen) same) (ap (λ (v : LateRunning). v.told) same) is

pub known-still : (r s : LateRunning) (g : Graph) (marks : List (Option ℕ)) (at : Option ℕ) → s ≡ record r { level = s.level } → IsKnown r g marks at → IsKnown s g marks at
known-still r s g marks at same is = record {
  now = subst (λ (v : LateRunning). IsNoted v.seen at v.world) (sym same) is.now;
  marks_are = subst (λ (v : LateRunning). AreNoted v.seen (reverse marks) v.marked) (sym same) is.marks_are;
  graph = graph-still r s g same is.graph;
}
