-- The modes of one session, by table and key, are one map by resource.
use Rattle.std.specs.Prelude.{◌≡◌, refl, ℕ, Bool, true, false, cond, ◌&&◌, List, [], ◌∷◌, map, Option, Some, None, is_some}
use Rattle.std.proofs.Common.{sym, ap, ◌∙◌, subst}
use Rattle.std.specs.List.{list_any}
use Rattle.std.specs.declared.cmp.Ordering.{Ordering}
use Rattle.std.specs.declared.cmp.Ordering.TheVariants.{Less, Equal, Greater}
use Rattle.std.specs.Ordering.{nat_cmp, is_eq, ordering_then, eq_by_cmp}
use Rattle.std.specs.Cmp.{nat_cmp_total}
use Rattle.std.specs.FinMap.Entries.{find, put, find-put}
use Rattle.finite_maps.specs.Map.{get, insert, get-insert, empty, get-empty, same_map, same_key, same_key-true}
use Rattle.lock_modes.specs.Value.{value_cmp, value_order, value_total}
use Rattle.lock_modes.specs.Resource.{resource_order, same_resource}
use Rattle.lock_modes.specs.declared.mode.Mode.{Mode}
use Rattle.lock_modes.specs.declared.value.Value.{Value}
use Rattle.lock_modes.specs.declared.resource.Resource.{Resource}
use Rattle.lock_modes.specs.declared.resource.Resource.TheVariants.{Table, Row}
use Rattle.lock_queues.specs.Tabulate.{get-tabulate}
use Rattle.lock_queues.specs.Records.{Tables, Keys, mode_at, mode_at_key, known_keys, rows_of, resources_of, modes_map}
use Rattle.finite_maps.specs.Numbers.{nat_order}
use Rattle.lock_queues.proofs.Known.{any-left, any-right, known-through}

row-known : (t : ℕ) (k : Value) (keys : Keys) → is_some (mode_at_key (find nat_cmp t keys) k) ≡ true → list_any (same_resource (Row t k)) (rows_of keys) ≡ true
row-known t k [] e = cc
row-known t k (x ∷ es) e = at (row-known t k es) (same_key nat_order t x.0) refl e
  where
    at : (is_some (mode_at_key (find nat_cmp t es) k) ≡ true → list_any (same_resource (Row t k)) (rows_of es) ≡ true) → (b : Bool)
        → same_key nat_order t x.0 ≡ b → is_some (mode_at_key (cond b (Some x.1) (find nat_cmp t es)) k) ≡ true
        → list_any (same_resource (Row t k)) (rows_of (x ∷ es)) ≡ true
    at rest true s h =
        let here : list_any (same_resource (Row t k)) (map (λ (e : Value × Mode). Row t e.0) x.1) ≡ true =
        known-through value_order resource_order (Row t) k x.1 h in
        any-left (same_resource (Row t k)) (map (λ (e : Value × Mode). Row x.0 e.0) x.1) (rows_of es)
        (subst (λ u. list_any (same_resource (Row t k)) (map (λ (e : Value × Mode). Row u e.0) x.1) ≡ true) (same_key-true nat_order t x.0 s) here)
    at rest false s h = any-right (same_resource (Row t k)) (map (λ (e : Value × Mode). Row x.0 e.0) x.1) (rows_of es) (rest h)

mode-known : (tables : Tables) (keys : Keys) (r : Resource) → is_some (mode_at tables keys r) ≡ true
    → list_any (same_resource r) (resources_of tables keys) ≡ true
mode-known tables keys (Table t) e =
    any-left (same_resource (Table t)) (map (λ (x : ℕ × Mode). Table x.0) tables) (rows_of keys) (known-through nat_order resource_order Table t tables e)
mode-known tables keys (Row t k) e = any-right (same_resource (Row t k)) (map (λ (x : ℕ × Mode). Table x.0) tables) (rows_of keys) (row-known t k keys e)

-- a look-up by table and key is one in the map
pub get-modes : (tables : Tables) (keys : Keys) (r : Resource) → get (modes_map tables keys) r ≡ mode_at tables keys r
get-modes tables keys r = get-tabulate resource_order (mode_at tables keys) (resources_of tables keys) r (mode-known tables keys r)

-- a look-up in the keys of the table
pub get-row : (tables : Tables) (keys : Keys) (t : ℕ) (k : Value) (found : Option (List (Value × Mode))) → found ≡ find nat_cmp t keys
    → mode_at_key found k ≡ get (modes_map tables keys) (Row t k)
get-row tables keys t k found e = ap (λ o. mode_at_key o k) e ∙ sym (get-modes tables keys (Row t k))

pub modes-empty : modes_map [] [] ≡ empty
modes-empty = same_map _ _ (λ q. get-modes [] [] q ∙ none q ∙ sym (get-empty resource_order Mode q))
  where
    none : (q : Resource) → mode_at [] [] q ≡ None
    none (Table t) = refl
    none (Row t k) = refl

-- ---- what is put

then-equal : (c : Ordering) → is_eq (ordering_then c Equal) ≡ is_eq c
then-equal Less = refl
then-equal Equal = refl
then-equal Greater = refl

then-less : (c : Ordering) → is_eq (ordering_then c Less) ≡ false
then-less Less = refl
then-less Equal = refl
then-less Greater = refl

then-greater : (c : Ordering) → is_eq (ordering_then c Greater) ≡ false
then-greater Less = refl
then-greater Equal = refl
then-greater Greater = refl

pub then-both : (c d : Ordering) → is_eq (ordering_then c d) ≡ (is_eq c && is_eq d)
then-both Less d = refl
then-both Equal d = refl
then-both Greater d = refl

pub modes-put_table : (t : ℕ) (m : Mode) (tables : Tables) (keys : Keys) → modes_map (put nat_cmp t m tables) keys ≡ insert (modes_map tables keys) (Table t) m
modes-put_table t m tables keys = same_map _ _ (λ q.
    get-modes (put nat_cmp t m tables) keys q ∙ at q
    ∙ ap (cond (same_resource q (Table t)) (Some m)) (sym (get-modes tables keys q)) ∙ sym (get-insert (modes_map tables keys) (Table t) m q))
  where
    at : (q : Resource) → mode_at (put nat_cmp t m tables) keys q ≡ cond (same_resource q (Table t)) (Some m) (mode_at tables keys q)
    at (Table u) = find-put nat_cmp nat_cmp_total u t m tables ∙ ap (λ b. cond b (Some m) (find nat_cmp u tables)) (sym (then-equal (nat_cmp u t)))
    at (Row u k) = ap (λ b. cond b (Some m) (mode_at_key (find nat_cmp u keys) k)) (sym (then-greater (nat_cmp u t)))

pub modes-put_row : (t : ℕ) (k : Value) (m : Mode) (tables : Tables) (keys : Keys)
    → modes_map tables (put nat_cmp t (put value_cmp k m (known_keys (find nat_cmp t keys))) keys) ≡ insert (modes_map tables keys) (Row t k) m
modes-put_row t k m tables keys = same_map _ _ (λ q.
    get-modes tables (put nat_cmp t more keys) q ∙ at q
    ∙ ap (cond (same_resource q (Row t k)) (Some m)) (sym (get-modes tables keys q)) ∙ sym (get-insert (modes_map tables keys) (Row t k) m q))
  where
    more : List (Value × Mode)
    more = put value_cmp k m (known_keys (find nat_cmp t keys))

    found : (o : Option (List (Value × Mode))) (j : Value) → find value_cmp j (known_keys o) ≡ mode_at_key o j
    found None j = refl
    found (Some es) j = refl

    here : (u : ℕ) (j : Value) (b : Bool) → eq_by_cmp nat_cmp u t ≡ b
        → mode_at_key (cond b (Some more) (find nat_cmp u keys)) j ≡ cond (b && eq_by_cmp value_cmp j k) (Some m) (mode_at_key (find nat_cmp u keys) j)
    here u j true e =
        let same : t ≡ u = sym (same_key-true nat_order u t e) in
        find-put value_cmp value_total j k m (known_keys (find nat_cmp t keys))
        ∙ ap (cond (eq_by_cmp value_cmp j k) (Some m)) (found (find nat_cmp t keys) j ∙ ap (λ x. mode_at_key (find nat_cmp x keys) j) same)
    here u j false e = refl

    at : (q : Resource) → mode_at tables (put nat_cmp t more keys) q ≡ cond (same_resource q (Row t k)) (Some m) (mode_at tables keys q)
    at (Table u) = ap (λ b. cond b (Some m) (find nat_cmp u tables)) (sym (then-less (nat_cmp u t)))
    at (Row u j) =
        ap (λ o. mode_at_key o j) (find-put nat_cmp nat_cmp_total u t more keys) ∙ here u j (eq_by_cmp nat_cmp u t) refl
        ∙ ap (λ b. cond b (Some m) (mode_at_key (find nat_cmp u keys) j)) (sym (then-both (nat_cmp u t) (value_cmp j k)))
