-- The specs at paths, path by path.
use Rattle.std.proofs.Common.{◌≡◌, ◌≢◌, ◌∙◌, sym, ap, subst, inl, inr, ℕ, ◌+◌, ◌<◌, ◌++◌, List, [], ◌∷◌, length, get_or, take, None, arith}
use Rattle.std.proofs.lemmas.List.{take_more, length-take}
use Rattle.std.proofs.lemmas.List.Elements.{All-get_or}
use Rattle.book_commands.specs.Joining.{Files}
use Rattle.test_commands.specs.declared.listing.SpecsFault.{SpecsFault}
use Rattle.test_commands.specs.declared.listing.SpecsFault.TheVariants.{NoneIn, TooMany, NoMemory}
use Rattle.test_commands.specs.Testing.{AreKnown, AreNoSpecs, IsNoMore, IsNoneIn, IsPathAdded, IsPathRefused}

-- so far the specs are the paths, where all of these are known
abbrev pub AreSpecsTo : Files → List (List ℕ) → ℕ → List (List ℕ) → Type 0
AreSpecsTo files paths place specs = AreKnown files paths → specs ≡ take place paths

pub spec-more : (files : Files) (paths : List (List ℕ)) (place : ℕ) (specs : List (List ℕ)) → place < length paths → AreSpecsTo files paths place specs
    → AreSpecsTo files paths (place + 1) (specs ++ get_or paths place [] ∷ [])
spec-more files paths place specs lt so known = ap (λ front. front ++ get_or paths place [] ∷ []) (so known) ∙ sym (take_more paths place [] lt)

pub no-folder : (files : Files) (paths : List (List ℕ)) (place next : ℕ) (specs : List (List ℕ)) → place < length paths → files (get_or paths place []) ≡ None
    → AreSpecsTo files paths next specs
no-folder files paths place next specs lt none known = absurd (All-get_or (λ path. files path ≢ None) paths place [] lt known none)

-- one path more
pub path-more : (files : Files) (paths : List (List ℕ)) (place : ℕ) (before specs : List (List ℕ)) → place < length paths → AreSpecsTo files paths place before
    → IsPathAdded (files (get_or paths place [])) (get_or paths place []) before specs → AreSpecsTo files paths (place + 1) specs
path-more files paths place before specs lt so (inl none) = no-folder files paths place (place + 1) specs lt none
path-more files paths place before specs lt so (inr more) = subst (AreSpecsTo files paths (place + 1)) (sym more) (spec-more files paths place before lt so)

-- a path that is not taken
pub path-refused : (files : Files) (paths : List (List ℕ)) (place : ℕ) (before : List (List ℕ)) (count : ℕ) → count ≡ length before → place < length paths
    → AreSpecsTo files paths place before → (fault : SpecsFault) → IsPathRefused (files (get_or paths place [])) (get_or paths place []) count fault
    → AreNoSpecs files paths fault
path-refused files paths place before count is lt so (NoneIn told) h =
    (ap files h.0 ∙ h.1, (place, lt, h.0))
path-refused files paths place before count is lt so TooMany (inl none) = λ known.
    absurd (All-get_or (λ path. files path ≢ None) paths place [] lt known none)
path-refused files paths place before count is lt so TooMany (inr full) = λ known.
    omega (arith, full, is, ap (λ (l : List (List ℕ)). length l) (so known), length-take place paths, lt)
path-refused files paths place before count is lt so NoMemory h = tt

-- a spec that is not taken is of no folder without specs
pub no-more : (count : ℕ) (fault : SpecsFault) → IsNoMore count fault → (folder : List ℕ) → IsNoneIn folder fault
no-more count (NoneIn told) h folder = absurd h
no-more count TooMany h folder = tt
no-more count NoMemory h folder = tt
