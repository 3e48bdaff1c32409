-- The modes of one session in the order of resources.
use Rattle.std.proofs.Common.{◌≡◌, refl, sym, ap, ◌∙◌, ℕ, ◌≤◌, List, [], ◌∷◌, length, get_or, Option, Some, None}
use Rattle.std.proofs.lemmas.List.{get_or_past}
use Rattle.finite_maps.specs.Map.{Map, get, entries, insert, empty, same_map}
use Rattle.lock_modes.specs.Resource.{resource_order}
use Rattle.lock_modes.specs.declared.mode.Mode.{Mode}
use Rattle.lock_modes.specs.declared.resource.Resource.{Resource}
use Rattle.lock_queues.specs.Tabulate.{tabulate, with_entry}
use Rattle.lock_queues.specs.Records.{Tables, Keys, Sessions, held_map, resources_of, modes_map, with_mode}
use Rattle.lock_queues.specs.LockTable.{slice}
use Rattle.lock_queues.proofs.ModesLemmas.{get-modes}
use Rattle.lock_queues.proofs.HeldLemmas.{get-held}
use Rattle.lock_queues.proofs.Slices.{get-slice}

-- no resource
pub sorted-none : (f : Resource → Option Mode) → [] ≡ entries (tabulate resource_order f [])
unfolding tabulate entries empty
sorted-none f = refl

-- one more
pub sorted-more : (f : Resource → Option Mode) (k : Resource) (ks : List Resource) → with_mode (entries (tabulate resource_order f ks)) k (f k)
    ≡ entries (tabulate resource_order f (k ∷ ks))
unfolding tabulate entries insert
sorted-more f k ks = at (tabulate resource_order f ks) (f k)
  where
    at : (m : Map resource_order Mode) (o : Option Mode) → with_mode (entries m) k o ≡ entries (with_entry resource_order m k o)
    at m None = refl
    at m (Some v) = refl

-- by what is held on them they are the map
pub sorted-all : (tables : Tables) (keys : Keys) → tabulate resource_order (get (modes_map tables keys)) (resources_of tables keys) ≡ modes_map tables keys
sorted-all tables keys = ap (λ f. tabulate resource_order f (resources_of tables keys)) (λ k r. get-modes tables keys r k)

-- a session's own map is the one that is kept for it
pub slice-held : (sessions : Sessions) (i : ℕ) → slice i (held_map sessions) ≡ get_or sessions i empty
slice-held sessions i = same_map _ _ (λ r. get-slice i (held_map sessions) r ∙ get-held sessions (i, r))

nothing : {A : Type 0} (m : Map resource_order A) → m ≡ empty → [] ≡ entries m
unfolding entries empty
nothing m is = sym (ap entries is)

-- a session that nothing is kept for holds nothing
pub slice-past : (sessions : Sessions) (i : ℕ) → length sessions ≤ i → [] ≡ entries (slice i (held_map sessions))
slice-past sessions i past = nothing _ (slice-held sessions i ∙ get_or_past sessions i empty past)
