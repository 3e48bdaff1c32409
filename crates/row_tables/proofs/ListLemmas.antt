-- Undo lists by session, kept in a tree map of the library, are a finite map.
use Rattle.std.proofs.Common.{◌≡◌, refl, sym, ap, ◌∙◌, subst, ℕ, cond, List, [], ◌∷◌, ◌++◌, append_assoc, Option, Some, None}
use Rattle.std.specs.List.{AllByRecursion}
use Rattle.std.specs.List.Sorted.{IsStrictlySortedBy}
use Rattle.std.specs.declared.cmp.Ordering.TheVariants.{Less, Greater}
use Rattle.std.specs.Ordering.{nat_cmp, match_ordering, ordering_reverse}
use Rattle.std.specs.Cmp.{nat_cmp_total, eq_by_cmp_equiv}
use Rattle.std.specs.FinMap.Entries.{find}
use Rattle.std.specs.Map.{lookup, keys_of}
use Rattle.std.specs.BTreeMap.{is_at, insert_entry}
use Rattle.finite_maps.specs.Map
use Rattle.finite_maps.specs.Map.{get, insert, get-insert, get-remove, same_key, same_map, of_entries, get-of_entries}
use Rattle.row_tables.specs.Overlay.{Overlay}
use Rattle.row_tables.specs.Layers.{session_order}

lookup-find : (es : List (ℕ × Overlay)) (c : ℕ) → lookup (is_at (nat_cmp c)) es ≡ find nat_cmp c es
lookup-find [] c = refl
lookup-find (e ∷ es) c = ap (cond (same_key session_order c e.0) (Some e.1)) (lookup-find es c)

-- a look-up in the tree map is one in the finite map
pub get-lists : (es : List (ℕ × Overlay)) (c : ℕ) → lookup (is_at (nat_cmp c)) es ≡ get (of_entries session_order es) c
get-lists es c = lookup-find es c ∙ sym (get-of_entries session_order es c)

-- a tree map that has something else at one session
updated : (es fs : List (ℕ × Overlay)) (session : ℕ) (w : Option Overlay)
    → ((c : ℕ) → lookup (is_at (nat_cmp c)) fs ≡ cond (is_at (nat_cmp session) c) w (lookup (is_at (nat_cmp c)) es)) → (c : ℕ)
    → get (of_entries session_order fs) c ≡ cond (same_key session_order c session) w (get (of_entries session_order es) c)
updated es fs session w h c =
    sym (get-lists fs c) ∙ h c
    ∙ ap (λ b. cond b w (lookup (is_at (nat_cmp c)) es)) ((eq_by_cmp_equiv nat_cmp_total).symm session c)
    ∙ ap (cond (same_key session_order c session) w) (get-lists es c)

pub put-lists : (es fs : List (ℕ × Overlay)) (session : ℕ) (list : Overlay)
    → ((c : ℕ) → lookup (is_at (nat_cmp c)) fs ≡ cond (is_at (nat_cmp session) c) (Some list) (lookup (is_at (nat_cmp c)) es))
    → of_entries session_order fs ≡ insert (of_entries session_order es) session list
put-lists es fs session list h = same_map _ _ (λ c. updated es fs session (Some list) h c ∙ sym (get-insert (of_entries session_order es) session list c))

pub remove-lists : (es fs : List (ℕ × Overlay)) (session : ℕ)
    → ((c : ℕ) → lookup (is_at (nat_cmp c)) fs ≡ cond (is_at (nat_cmp session) c) None (lookup (is_at (nat_cmp c)) es)) → of_entries session_order fs
    ≡ Map.remove (of_entries session_order es) session
remove-lists es fs session h = same_map _ _ (λ c. updated es fs session None h c ∙ sym (get-remove (of_entries session_order es) session c))

-- ---- a copy made entry by entry

all_at : (P : ℕ → Type 0) (es : List (ℕ × Overlay)) (k : ℕ) (v : Overlay) (rest : List (ℕ × Overlay)) → AllByRecursion P (keys_of (es ++ (k, v) ∷ rest)) → P k
all_at P [] k v rest h = h.0
all_at P (e ∷ es) k v rest h = all_at P es k v rest h.1

-- an entry whose key comes after all others is inserted at the end
insert-last : (es : List (ℕ × Overlay)) (k : ℕ) (v : Overlay) (rest : List (ℕ × Overlay)) → IsStrictlySortedBy nat_cmp (keys_of (es ++ (k, v) ∷ rest))
    → insert_entry nat_cmp es k v ≡ es ++ (k, v) ∷ []
unfolding IsStrictlySortedBy
insert-last [] k v rest h = refl
insert-last (e ∷ es) k v rest h =
    let later : nat_cmp k e.0 ≡ Greater = nat_cmp_total.antisymm k e.0 ∙ ap ordering_reverse (all_at (λ y. nat_cmp e.0 y ≡ Less) es k v rest h.0) in
    ap (λ o. match_ordering o ((k, v) ∷ e ∷ es) ((e.0, v) ∷ es) (e ∷ insert_entry nat_cmp es k v)) later ∙ ap (λ t. e ∷ t) (insert-last es k v rest h.1)

-- with the next of those left a copy has one more
pub copied-more : (all es new : List (ℕ × Overlay)) (k : ℕ) (v : Overlay) (rest : List (ℕ × Overlay)) → IsStrictlySortedBy nat_cmp (keys_of all) → es
    ++ (k, v) ∷ rest ≡ all → new ≡ insert_entry nat_cmp es k v → new ++ rest ≡ all
copied-more all es new k v rest sorted so_far inserted =
    ap (λ t. t ++ rest) (inserted ∙ insert-last es k v rest (subst (λ (t : List (ℕ × Overlay)). IsStrictlySortedBy nat_cmp (keys_of t)) (sym so_far) sorted))
    ∙ append_assoc es ((k, v) ∷ []) rest
    ∙ so_far
