-- Rows of modes as one map, and what is given and taken away.
use Rattle.std.specs.Prelude.{◌≡◌, ◌≢◌, refl, ℕ, zero, suc, ◌+◌, ◌<◌, ◌⊎◌, Bool, true, false, cond, not, ◌==◌, ◌||◌, Option, Some, None, is_some}
use Rattle.std.specs.Prelude.{List, [], ◌∷◌, ◌++◌, length, map, get_or, set, take, slice_get, All}
use Rattle.std.proofs.Common.{sym, ap, ◌∙◌, subst, arith, inl, inr, ⊎_elim, get_or-set_same, get_or-set_other}
use Rattle.std.specs.Ordering.{is_eq}
use Rattle.std.specs.declared.cmp.Ordering.TheVariants.{Less}
use Rattle.std.specs.List.{list_any, AllByRecursion, list_all}
use Rattle.std.specs.List.Sorted.{IsStrictlySortedBy}
use Rattle.std.proofs.lemmas.Bool.{and_parts, eq-eqb, eqb-true, or_left, or_right, false_from_ne_true}
use Rattle.std.proofs.lemmas.Bool.Decides.{eqb_tells}
use Rattle.std.proofs.lemmas.List.{length-set, set-get_or, take_more}
use Rattle.std.specs.Prelude.{Result, Ok, Err, OnOk}
use Rattle.std.specs.declared.alloc.AllocError.{AllocError}
use Rattle.marked_lists.specs.Versions.{Versions}
use Rattle.std.proofs.lemmas.List.Elements.{All-nil, All-push, All-weaker, All-head, All-tail}
use Rattle.std.proofs.lemmas.List.Folds.{list_any-append}
use Rattle.std.proofs.lemmas.Option.{get_or_from_slice_get}
use Rattle.finite_maps.specs.Map.{empty, get, get-empty, get-insert, get-keep, insert, keep, same_key, same_key-refl, same_key-true, same_map}
use Rattle.lock_modes.specs.Resource.{resource_cmp, resource_order, same_resource}
use Rattle.lock_modes.specs.declared.mode.Mode.{Mode}
use Rattle.lock_modes.specs.declared.resource.Resource.{Resource}
use Rattle.lock_queues.specs.LockTable.{Holding, holding_order}
use Rattle.lock_queues.specs.Tabulate.{get-tabulate}
use Rattle.marked_modes.specs.Held.{TakesSome, below, held_in, held_map, holdings, mode_in}
use Rattle.marked_modes.specs.Kept.{IsBlank, IsGiven, IsInside, IsKeptAt, cleared, cleared_of, mode_at, no_modes, put_mode, with_mode}
use Rattle.marked_modes.specs.declared.row.ModeRow.{ModeRow}
use Rattle.marked_modes.specs.declared.row.Given.{Given}

abbrev no_mode : Option Mode
no_mode = None

-- ---- keys

key-same : (h g : Holding) → h ≡ g → same_key holding_order h g ≡ true
key-same h g e = subst (λ x. same_key holding_order h x ≡ true) e (same_key-refl holding_order h)

key-other : (h g : Holding) → (h ≡ g → ⊥) → same_key holding_order h g ≡ false
key-other h g ne = false_from_ne_true (same_key holding_order h g) (λ e. ne (same_key-true holding_order h g e))

pair : (h : Holding) (c : ℕ) (r : Resource) → h.0 ≡ c → h.1 ≡ r → h ≡ (c, r)
pair h c r s e = λ i. (s i, e i)

-- resources of which one is below the other are two
apart : (r y : Resource) → resource_cmp r y ≡ Less → same_resource y r ≡ false
apart r y less = false_from_ne_true (same_resource y r) (λ e.
    let same : y ≡ r = same_key-true resource_order y r e in
    let below-itself : resource_cmp r r ≡ Less = subst (λ z. resource_cmp r z ≡ Less) same less in
    let equal : is_eq (resource_cmp r r) ≡ true = same_key-refl resource_order r in
    let never : false ≡ true = sym (ap is_eq below-itself) ∙ equal in
    cc)

all-at : {A : Type 0} (P : A → Type 0) (xs : List A) (k : ℕ) (d : A) → AllByRecursion P xs → k < length xs → P (get_or xs k d)
all-at P [] k d all lt = absurd (omega (arith, lt))
all-at P (x ∷ xs) zero d all lt = all.0
all-at P (x ∷ xs) (suc k) d all lt = all-at P xs k d all.1 (omega (arith, lt))

-- ---- one map

some-inside : (xs : List (Option Mode)) (c : ℕ) → is_some (get_or xs c None) ≡ true → c < length xs
some-inside [] c e = cc
some-inside (x ∷ xs) zero e = omega arith
some-inside (x ∷ xs) (suc c) e = let lt = some-inside xs c e in omega (arith, lt)

any-at : (c n : ℕ) (r : Resource) → c < n → list_any (same_key holding_order (c, r)) (map (λ s. (s, r)) (below n)) ≡ true
any-at c zero r lt = absurd (omega (arith, lt))
any-at c (suc n) r lt =
    ⊎_elim (λ same. or_left _ _ (key-same (c, r) (n, r) (pair (c, r) n r same.1 refl)))
    (λ other. or_right _ _ (any-at c n r (let ne = other.1 in omega (arith, lt, ne)))) (eqb_tells c n)

known : (rs : List Resource) (rows : List ModeRow) (h : Holding) → is_some (held_in rs rows h) ≡ true
    → list_any (same_key holding_order h) (holdings rs rows) ≡ true
known [] rows h e = cc
known (r ∷ rs) [] h e = cc
known (r ∷ rs) (row ∷ rows) h e = list_any-append (same_key holding_order h) here (holdings rs rows) ∙ at (known rs rows h) (same_resource h.1 r) refl e
  where
    here : List Holding
    here = map (λ s. (s, r)) (below (length row.modes))

    at : (is_some (held_in rs rows h) ≡ true → list_any (same_key holding_order h) (holdings rs rows) ≡ true) → (b : Bool) → same_resource h.1 r ≡ b
        → is_some (cond b (mode_in row h.0) (held_in rs rows h)) ≡ true
        → (list_any (same_key holding_order h) here || list_any (same_key holding_order h) (holdings rs rows)) ≡ true
    at rest true is e =
        let same : h.1 ≡ r = same_key-true resource_order h.1 r is in
        or_left _ _ (subst (λ q. list_any (same_key holding_order (h.0, q)) here ≡ true) (sym same)
        (any-at h.0 (length row.modes) r (some-inside row.modes h.0 e)))
    at rest false is e = or_right _ _ (rest e)

-- a look-up by session and resource is one in the map
pub get-held : (rs : List Resource) (rows : List ModeRow) (h : Holding) → get (held_map rs rows) h ≡ held_in rs rows h
get-held rs rows h = get-tabulate holding_order (held_in rs rows) (holdings rs rows) h (known rs rows h)

-- what is held on a resource stands in its row
pub held-at : (rs : List Resource) (rows : List ModeRow) (k c : ℕ) (d : Resource) → IsStrictlySortedBy resource_cmp rs → k < length rs
    → length rows ≡ length rs → held_in rs rows (c, get_or rs k d) ≡ mode_at rows k c
unfolding IsStrictlySortedBy
held-at [] rows k c d rise lt same = absurd (omega (arith, lt))
held-at (r ∷ rs) [] k c d rise lt same = absurd (omega (arith, same))
held-at (r ∷ rs) (row ∷ rows) zero c d rise lt same = ap (λ b. cond b (mode_in row c) (held_in rs rows (c, r))) (same_key-refl resource_order r)
held-at (r ∷ rs) (row ∷ rows) (suc k) c d rise lt same =
    let inside : k < length rs = omega (arith, lt) in
    let other = apart r (get_or rs k d) (all-at (λ y. resource_cmp r y ≡ Less) rs k d rise.0 inside) in
    ap (λ b. cond b (mode_in row c) (held_in rs rows (c, get_or rs k d))) other ∙ held-at rs rows k c d rise.1 inside (omega (arith, same))

-- ---- a mode that is given

set-last : {A : Type 0} (x : A) (xs : List A) (y : A) → set (x ∷ xs) 0 y ≡ y ∷ xs
set-last x xs y = refl

-- a row with the mode of a session
row-with : (row : ModeRow) (c : ℕ) (m : Mode) (e : ℕ) → c < length row.modes → e ≡ c → mode_in (with_mode row c (Some m)) e ≡ Some m
row-with row c m e lt same = ap (λ x. mode_in (with_mode row c (Some m)) x) same ∙ get_or-set_same row.modes c (Some m) None lt

row-without : (row : ModeRow) (c e : ℕ) (mode : Option Mode) → e ≢ c → mode_in (with_mode row c mode) e ≡ mode_in row e
row-without row c e mode ne = get_or-set_other row.modes c e mode None ne

put-held : (rs : List Resource) (rows : List ModeRow) (k c : ℕ) (m : Mode) (d : Resource) → IsStrictlySortedBy resource_cmp rs → k < length rs
    → length rows ≡ length rs → c < length (get_or rows k no_modes).modes → (h : Holding)
    → held_in rs (put_mode rows k c (Some m)) h ≡ cond (same_key holding_order h (c, get_or rs k d)) (Some m) (held_in rs rows h)
unfolding IsStrictlySortedBy
put-held [] rows k c m d rise lt same few h = absurd (omega (arith, lt))
put-held (r ∷ rs) [] k c m d rise lt same few h = absurd (omega (arith, same))
put-held (r ∷ rs) (row ∷ rows) zero c m d rise lt same few h = at (same_resource h.1 r) refl (eqb_tells h.0 c)
  where
    rest : Option Mode
    rest = held_in rs rows h

    at : (b : Bool) → same_resource h.1 r ≡ b → (((h.0 == c) ≡ true) × (h.0 ≡ c)) ⊎ (((h.0 == c) ≡ false) × (h.0 ≢ c))
        → cond (same_resource h.1 r) (mode_in (with_mode row c (Some m)) h.0) rest
        ≡ cond (same_key holding_order h (c, r)) (Some m) (cond (same_resource h.1 r) (mode_in row h.0) rest)
    at true is (inl one) =
        let key = key-same h (c, r) (pair h c r one.1 (same_key-true resource_order h.1 r is)) in
        ap (λ b. cond b (mode_in (with_mode row c (Some m)) h.0) rest) is ∙ row-with row c m h.0 few one.1
        ∙ sym (ap (λ b. cond b (Some m) (cond (same_resource h.1 r) (mode_in row h.0) rest)) key)
    at true is (inr other) =
        let key = key-other h (c, r) (λ e. other.1 (ap (λ (x : Holding). x.0) e)) in
        ap (λ b. cond b (mode_in (with_mode row c (Some m)) h.0) rest) is ∙ row-without row c h.0 (Some m) other.1
        ∙ sym (ap (λ b. cond b (mode_in row h.0) rest) is) ∙ sym (ap (λ b. cond b (Some m) (cond (same_resource h.1 r) (mode_in row h.0) rest)) key)
    at false is any =
        let key = key-other h (c, r) (λ e.
        let here : same_resource h.1 r ≡ true = subst (λ (x : Holding). same_resource x.1 r ≡ true) (sym e) (same_key-refl resource_order r) in
        let never : false ≡ true = sym is ∙ here in
        cc) in
        ap (λ b. cond b (mode_in (with_mode row c (Some m)) h.0) rest) is ∙ sym (ap (λ b. cond b (mode_in row h.0) rest) is)
        ∙ sym (ap (λ b. cond b (Some m) (cond (same_resource h.1 r) (mode_in row h.0) rest)) key)
put-held (r ∷ rs) (row ∷ rows) (suc k) c m d rise lt same few h =
    at (same_resource h.1 r) refl (put-held rs rows k c m d rise.1 (omega (arith, lt)) (omega (arith, same)) few h)
  where
    there : Resource
    there = get_or rs k d

    inside : k < length rs
    inside = omega (arith, lt)

    at : (b : Bool) → same_resource h.1 r ≡ b
        → held_in rs (put_mode rows k c (Some m)) h ≡ cond (same_key holding_order h (c, there)) (Some m) (held_in rs rows h)
        → cond (same_resource h.1 r) (mode_in row h.0) (held_in rs (put_mode rows k c (Some m)) h)
        ≡ cond (same_key holding_order h (c, there)) (Some m) (cond (same_resource h.1 r) (mode_in row h.0) (held_in rs rows h))
    at true is more =
        let key = key-other h (c, there) (λ e.
        let one : same_resource there r ≡ true = subst (λ (x : Holding). same_resource x.1 r ≡ true) e is in
        let two = apart r there (all-at (λ y. resource_cmp r y ≡ Less) rs k d rise.0 inside) in
        let never : false ≡ true = sym two ∙ one in
        cc) in
        ap (λ b. cond b (mode_in row h.0) (held_in rs (put_mode rows k c (Some m)) h)) is ∙ sym (ap (λ b. cond b (mode_in row h.0) (held_in rs rows h)) is)
        ∙ sym (ap (λ b. cond b (Some m) (cond (same_resource h.1 r) (mode_in row h.0) (held_in rs rows h))) key)
    at false is more =
        ap (λ b. cond b (mode_in row h.0) (held_in rs (put_mode rows k c (Some m)) h)) is ∙ more
        ∙ ap (λ v. cond (same_key holding_order h (c, there)) (Some m) v) (sym (ap (λ b. cond b (mode_in row h.0) (held_in rs rows h)) is))

-- a mode that is given stands in the map
pub held-put : (rs : List Resource) (rows : List ModeRow) (k c : ℕ) (m : Mode) (d : Resource) → IsStrictlySortedBy resource_cmp rs → k < length rs
    → length rows ≡ length rs → c < length (get_or rows k no_modes).modes
    → held_map rs (put_mode rows k c (Some m)) ≡ insert (held_map rs rows) (c, get_or rs k d) m
held-put rs rows k c m d rise lt same few = same_map _ _ (λ h.
    get-held rs (put_mode rows k c (Some m)) h ∙ put-held rs rows k c m d rise lt same few h
    ∙ ap (λ v. cond (same_key holding_order h (c, get_or rs k d)) (Some m) v) (sym (get-held rs rows h))
    ∙ sym (get-insert (held_map rs rows) (c, get_or rs k d) m h))

-- ---- one mode more or less

put-other : (rows : List ModeRow) (p s k c : ℕ) (mode : Option Mode) → c ≢ s → mode_at (put_mode rows p s mode) k c ≡ mode_at rows k c
put-other [] p s k c mode ne = refl
put-other (row ∷ rows) zero s zero c mode ne = row-without row s c mode ne
put-other (row ∷ rows) zero s (suc k) c mode ne = refl
put-other (row ∷ rows) (suc p) s zero c mode ne = refl
put-other (row ∷ rows) (suc p) s (suc k) c mode ne = put-other rows p s k c mode ne

put-away : (rows : List ModeRow) (p s k c : ℕ) (mode : Option Mode) → k ≢ p → mode_at (put_mode rows p s mode) k c ≡ mode_at rows k c
put-away [] p s k c mode ne = refl
put-away (row ∷ rows) zero s zero c mode ne = absurd (ne refl)
put-away (row ∷ rows) zero s (suc k) c mode ne = refl
put-away (row ∷ rows) (suc p) s zero c mode ne = refl
put-away (row ∷ rows) (suc p) s (suc k) c mode ne = put-away rows p s k c mode (λ e. ne (ap suc e))

-- where a session has no mode, there is none to take away
put-nothing : (rows : List ModeRow) (p s : ℕ) → mode_at rows p s ≡ None → put_mode rows p s None ≡ rows
put-nothing rows p s e =
    ap (set rows p) (λ i. record { modes = (ap (set (get_or rows p no_modes).modes s) (sym e) ∙ set-get_or (get_or rows p no_modes).modes s None) i })
    ∙ set-get_or rows p no_modes

pub clear-nothing : (s : ℕ) (g : Given) (rows : List ModeRow) (row : ModeRow) → get_or rows g.place no_modes ≡ row → mode_in row s ≡ None
    → cleared_of s g rows ≡ rows
clear-nothing s g rows row is none = at (g.session == s)
  where
    at : (b : Bool) → cond b (put_mode rows g.place s None) rows ≡ rows
    at true = put-nothing rows g.place s (ap (λ (r : ModeRow). mode_in r s) is ∙ none)
    at false = refl

-- where it has one, the row is put
pub clear-put : (r : Result (Unit {0}) AllocError) (s : ℕ) (g : Given) (old left : Versions ModeRow) (row with : ModeRow) → get_or old.list g.place no_modes ≡ row
    → with ≡ with_mode row s None → (g.session == s) ≡ true → OnOk r (left ≡ record old { list = set old.list g.place with })
    → OnOk r (left ≡ record old { list = cleared_of s g old.list })
clear-put (Ok u) s g old left row with is without own put =
    put ∙ ap (λ (list : List ModeRow). record old { list = list }) (ap (set old.list g.place) (without ∙ ap (λ (r : ModeRow). with_mode r s None) (sym is))
    ∙ sym (ap (λ b. cond b (put_mode old.list g.place s None) old.list) own))
clear-put (Err x) s g old left row with is without own put = tt

set-none : (xs : List (Option Mode)) (s : ℕ) → get_or (set xs s None) s None ≡ None
set-none [] s = refl
set-none (x ∷ xs) zero = refl
set-none (x ∷ xs) (suc s) = set-none xs s

stays-none : (xs : List (Option Mode)) (s c : ℕ) → get_or xs c None ≡ None → get_or (set xs s None) c None ≡ None
stays-none [] s c e = refl
stays-none (x ∷ xs) zero zero e = refl
stays-none (x ∷ xs) zero (suc c) e = e
stays-none (x ∷ xs) (suc s) zero e = e
stays-none (x ∷ xs) (suc s) (suc c) e = stays-none xs s c e

put-none : (rows : List ModeRow) (p s k : ℕ) → mode_at rows k s ≡ None → mode_at (put_mode rows p s None) k s ≡ None
put-none [] p s k e = refl
put-none (row ∷ rows) zero s zero e = set-none row.modes s
put-none (row ∷ rows) zero s (suc k) e = e
put-none (row ∷ rows) (suc p) s zero e = e
put-none (row ∷ rows) (suc p) s (suc k) e = put-none rows p s k e

put-at : (rows : List ModeRow) (k s : ℕ) → mode_at (put_mode rows k s None) k s ≡ None
put-at [] k s = refl
put-at (row ∷ rows) zero s = set-none row.modes s
put-at (row ∷ rows) (suc k) s = put-at rows k s

-- ---- what is cleared

of-other : (s : ℕ) (g : Given) (rows : List ModeRow) (k c : ℕ) → c ≢ s → mode_at (cleared_of s g rows) k c ≡ mode_at rows k c
of-other s g rows k c ne = at (g.session == s)
  where
    at : (b : Bool) → mode_at (cond b (put_mode rows g.place s None) rows) k c ≡ mode_at rows k c
    at true = put-other rows g.place s k c None ne
    at false = refl

of-none : (s : ℕ) (g : Given) (rows : List ModeRow) (k : ℕ) → mode_at rows k s ≡ None → mode_at (cleared_of s g rows) k s ≡ None
of-none s g rows k e = at (g.session == s)
  where
    at : (b : Bool) → mode_at (cond b (put_mode rows g.place s None) rows) k s ≡ None
    at true = put-none rows g.place s k e
    at false = e

of-given : (s : ℕ) (g : Given) (rows : List ModeRow) (k : ℕ) → g.session ≡ s → g.place ≡ k → mode_at (cleared_of s g rows) k s ≡ None
of-given s g rows k is there =
    ⊎_elim (λ same. ap (λ b. mode_at (cond b (put_mode rows g.place s None) rows) k s) same.0
    ∙ subst (λ p. mode_at (put_mode rows p s None) k s ≡ None) (sym there) (put-at rows k s))
    (λ other. absurd (other.1 is)) (eqb_tells g.session s)

length-of : (s : ℕ) (g : Given) (rows : List ModeRow) → length (cleared_of s g rows) ≡ length rows
length-of s g rows = at (g.session == s)
  where
    at : (b : Bool) → length (cond b (put_mode rows g.place s None) rows) ≡ length rows
    at true = length-set rows g.place (with_mode (get_or rows g.place no_modes) s None)
    at false = refl

cleared-other : (s : ℕ) (gs : List Given) (rows : List ModeRow) (k c : ℕ) → c ≢ s → mode_at (cleared s gs rows) k c ≡ mode_at rows k c
cleared-other s [] rows k c ne = refl
cleared-other s (g ∷ gs) rows k c ne = cleared-other s gs (cleared_of s g rows) k c ne ∙ of-other s g rows k c ne

cleared-none : (s : ℕ) (gs : List Given) (rows : List ModeRow) (k : ℕ) → mode_at rows k s ≡ None → mode_at (cleared s gs rows) k s ≡ None
cleared-none s [] rows k e = e
cleared-none s (g ∷ gs) rows k e = cleared-none s gs (cleared_of s g rows) k (of-none s g rows k e)

cleared-given : (s : ℕ) (gs : List Given) (rows : List ModeRow) (k : ℕ) → IsGiven gs s k → mode_at (cleared s gs rows) k s ≡ None
cleared-given s [] rows k never = absurd never
cleared-given s (g ∷ gs) rows k (inl is) = cleared-none s gs (cleared_of s g rows) k (of-given s g rows k is.0 is.1)
cleared-given s (g ∷ gs) rows k (inr later) = cleared-given s gs (cleared_of s g rows) k later

pub length-cleared : (s : ℕ) (gs : List Given) (rows : List ModeRow) → length (cleared s gs rows) ≡ length rows
length-cleared s [] rows = refl
length-cleared s (g ∷ gs) rows = length-cleared s gs (cleared_of s g rows) ∙ length-of s g rows

cleared-push : (s : ℕ) (gs : List Given) (g : Given) (rows : List ModeRow) → cleared s (gs ++ g ∷ []) rows ≡ cleared_of s g (cleared s gs rows)
cleared-push s [] g rows = refl
cleared-push s (x ∷ gs) g rows = cleared-push s gs g (cleared_of s x rows)

pub cleared-more : (s : ℕ) (gs : List Given) (n : ℕ) (d : Given) (rows : List ModeRow) → n < length gs
    → cleared s (take (n + 1) gs) rows ≡ cleared_of s (get_or gs n d) (cleared s (take n gs) rows)
cleared-more s gs n d rows lt = ap (λ xs. cleared s xs rows) (take_more gs n d lt) ∙ cleared-push s (take n gs) (get_or gs n d) rows

-- of who holds something all is cleared
gone : (rs : List Resource) (rows : List ModeRow) (given : List Given) (s : ℕ) → IsKeptAt rs rows given → (k c : ℕ)
    → mode_at (cleared s given rows) k c ≡ cond (not (c == s)) (mode_at rows k c) None
gone rs rows given s kept k c = ⊎_elim here there (eqb_tells c s)
  where
    held : (o : Option Mode) → mode_at rows k s ≡ o → mode_at (cleared s given rows) k s ≡ None
    held None e = cleared-none s given rows k e
    held (Some m) e = cleared-given s given rows k (kept.complete k s (ap is_some e))

    here : ((c == s) ≡ true) × (c ≡ s) → mode_at (cleared s given rows) k c ≡ cond (not (c == s)) (mode_at rows k c) None
    here same =
        ap (λ x. mode_at (cleared s given rows) k x) same.1 ∙ held (mode_at rows k s) refl ∙ sym (ap (λ b. cond (not b) (mode_at rows k c) None) same.0)

    there : ((c == s) ≡ false) × (c ≢ s) → mode_at (cleared s given rows) k c ≡ cond (not (c == s)) (mode_at rows k c) None
    there other = cleared-other s given rows k c other.1 ∙ sym (ap (λ b. cond (not b) (mode_at rows k c) None) other.0)

nothing : (b : Bool) → cond {A = Option Mode} b None None ≡ None
nothing true = refl
nothing false = refl

held-gone : (rs : List Resource) (rows rows' : List ModeRow) (s : ℕ) → length rows' ≡ length rows
    → ((k c : ℕ) → mode_at rows' k c ≡ cond (not (c == s)) (mode_at rows k c) None)
    → (h : Holding) → held_in rs rows' h ≡ cond (not (h.0 == s)) (held_in rs rows h) None
held-gone [] rows rows' s same each h = sym (nothing (not (h.0 == s)))
held-gone (r ∷ rs) [] [] s same each h = sym (nothing (not (h.0 == s)))
held-gone (r ∷ rs) [] (row' ∷ rows') s same each h = absurd (omega (arith, same))
held-gone (r ∷ rs) (row ∷ rows) [] s same each h = absurd (omega (arith, same))
held-gone (r ∷ rs) (row ∷ rows) (row' ∷ rows') s same each h =
    at (same_resource h.1 r) (each 0 h.0) (held-gone rs rows rows' s (omega (arith, same)) (λ k c. each (suc k) c) h)
  where
    at : (b : Bool) → mode_in row' h.0 ≡ cond (not (h.0 == s)) (mode_in row h.0) None
        → held_in rs rows' h ≡ cond (not (h.0 == s)) (held_in rs rows h) None
        → cond b (mode_in row' h.0) (held_in rs rows' h) ≡ cond (not (h.0 == s)) (cond b (mode_in row h.0) (held_in rs rows h)) None
    at true first rest = first
    at false first rest = rest

-- all that a session holds is taken from the map
pub held-take : (rs : List Resource) (rows : List ModeRow) (given : List Given) (s : ℕ) → IsKeptAt rs rows given
    → held_map rs (cleared s given rows) ≡ keep (λ (h : Holding). not (h.0 == s)) (held_map rs rows)
held-take rs rows given s kept = same_map _ _ (λ h.
    get-held rs (cleared s given rows) h
    ∙ held-gone rs rows (cleared s given rows) s (length-cleared s given rows) (gone rs rows given s kept) h
    ∙ ap (λ v. cond (not (h.0 == s)) v None) (sym (get-held rs rows h)) ∙ sym (get-keep (λ (h : Holding). not (h.0 == s)) (held_map rs rows) h))

-- ---- what is cleared in part

-- a mode stays, or it is of the session and gone
abbrev StaysOr : ℕ → ℕ → Option Mode → Option Mode → Type 0
StaysOr s c old new = (new ≡ old) ⊎ ((c ≡ s) × (new ≡ None))

stays-then : (s c : ℕ) (old mid new : Option Mode) → StaysOr s c old mid → StaysOr s c mid new → StaysOr s c old new
stays-then s c old mid new (inl a) (inl b) = inl (b ∙ a)
stays-then s c old mid new (inr a) (inl b) = inr (a.0, b ∙ a.1)
stays-then s c old mid new a (inr b) = inr b

of-part : (s : ℕ) (g : Given) (rows : List ModeRow) (k c : ℕ) → StaysOr s c (mode_at rows k c) (mode_at (cleared_of s g rows) k c)
of-part s g rows k c = ⊎_elim (λ same. here same.1) (λ other. inl (of-other s g rows k c other.1)) (eqb_tells c s)
  where
    at : (b : Bool) → c ≡ s → StaysOr s c (mode_at rows k c) (mode_at (cond b (put_mode rows g.place s None) rows) k c)
    at true is = ⊎_elim
        (λ there. inr (
          is,
          ap (mode_at (put_mode rows g.place s None) k) is
              ∙ subst (λ p. mode_at (put_mode rows p s None) k s ≡ None) there.1 (put-at rows k s),
        ))
        (λ away. inl (put-away rows g.place s k c None away.1)) (eqb_tells k g.place)
    at false is = inl refl

    here : c ≡ s → StaysOr s c (mode_at rows k c) (mode_at (cleared_of s g rows) k c)
    here is = at (g.session == s) is

cleared-part : (s : ℕ) (gs : List Given) (rows : List ModeRow) (k c : ℕ) → StaysOr s c (mode_at rows k c) (mode_at (cleared s gs rows) k c)
cleared-part s [] rows k c = inl refl
cleared-part s (g ∷ gs) rows k c =
    stays-then s c (mode_at rows k c) (mode_at (cleared_of s g rows) k c) (mode_at (cleared s gs (cleared_of s g rows)) k c) (of-part s g rows k c)
    (cleared-part s gs (cleared_of s g rows) k c)

part-in : (rs : List Resource) (rows rows' : List ModeRow) (s : ℕ) → length rows' ≡ length rows
    → ((k c : ℕ) → StaysOr s c (mode_at rows k c) (mode_at rows' k c)) → (h : Holding) → StaysOr s h.0 (held_in rs rows h) (held_in rs rows' h)
part-in [] rows rows' s same each h = inl refl
part-in (r ∷ rs) [] [] s same each h = inl refl
part-in (r ∷ rs) [] (row' ∷ rows') s same each h = absurd (omega (arith, same))
part-in (r ∷ rs) (row ∷ rows) [] s same each h = absurd (omega (arith, same))
part-in (r ∷ rs) (row ∷ rows) (row' ∷ rows') s same each h =
    at (same_resource h.1 r) (each 0 h.0) (part-in rs rows rows' s (omega (arith, same)) (λ k c. each (suc k) c) h)
  where
    at : (b : Bool) → StaysOr s h.0 (mode_in row h.0) (mode_in row' h.0) → StaysOr s h.0 (held_in rs rows h) (held_in rs rows' h)
        → StaysOr s h.0 (cond b (mode_in row h.0) (held_in rs rows h)) (cond b (mode_in row' h.0) (held_in rs rows' h))
    at true first rest = first
    at false first rest = rest

-- some of what the session holds is taken from the map
pub held-part : (rs : List Resource) (rows : List ModeRow) (s : ℕ) (gs : List Given) → TakesSome s (held_map rs rows) (held_map rs (cleared s gs rows))
held-part rs rows s gs h =
    ⊎_elim (λ e. inl (get-held rs (cleared s gs rows) h ∙ e ∙ sym (get-held rs rows h))) (λ p. inr (p.0, get-held rs (cleared s gs rows) h ∙ p.1))
    (part-in rs rows (cleared s gs rows) s (length-cleared s gs rows) (cleared-part s gs rows) h)

-- ---- what is kept

given-first : (gs : List Given) (g : Given) (s p : ℕ) → IsGiven gs s p → IsGiven (gs ++ g ∷ []) s p
given-first [] g s p never = absurd never
given-first (x ∷ gs) g s p (inl is) = inl is
given-first (x ∷ gs) g s p (inr later) = inr (given-first gs g s p later)

given-last : (gs : List Given) (g : Given) (s p : ℕ) → g.session ≡ s → g.place ≡ p → IsGiven (gs ++ g ∷ []) s p
given-last [] g s p is there = inl (is, there)
given-last (x ∷ gs) g s p is there = inr (given-last gs g s p is there)

inside-same : (rows rows' : List ModeRow) (gs : List Given) → length rows' ≡ length rows → All (IsInside rows) gs → All (IsInside rows') gs
inside-same rows rows' gs same all = All-weaker (IsInside rows) (IsInside rows') (λ g lt. subst (λ n. g.place < n) (sym same) lt) gs all

module _ (rs : List Resource) (rows : List ModeRow) (given : List Given) (kept : IsKeptAt rs rows given) where
  -- more may be noted than is given
  pub kept-noted : (g : Given) → g.place < length rs → IsKeptAt rs rows (given ++ g ∷ [])
  kept-noted g lt = record {
    count = kept.count;
    inside = All-push (IsInside rows) given g kept.inside (subst (λ n. g.place < n) (sym kept.count) lt);
    complete = λ p s e. given-first given g s p (kept.complete p s e);
  }

  -- what was given to a session may be taken away in part
  pub kept-cleared : (s : ℕ) (gs : List Given) → IsKeptAt rs (cleared s gs rows) given
  kept-cleared s gs = record {
    count = length-cleared s gs rows ∙ kept.count;
    inside = inside-same rows (cleared s gs rows) given (length-cleared s gs rows) kept.inside;
    complete = λ p c e. kept.complete p c (⊎_elim (λ same. here p c same.1 e) (λ other. subst (λ o. is_some o ≡ true) (cleared-other s gs rows p c other.1) e) (eqb_tells c s));
  }
    where
      held : (p : ℕ) (o : Option Mode) → mode_at rows p s ≡ o → is_some (mode_at (cleared s gs rows) p s) ≡ true → is_some o ≡ true
      held p None e is =
          let none = cleared-none s gs rows p e in
          let never : is_some no_mode ≡ true = subst (λ o. is_some o ≡ true) none is in
          cc
      held p (Some m) e is = refl

      here : (p c : ℕ) → c ≡ s → is_some (mode_at (cleared s gs rows) p c) ≡ true → is_some (mode_at rows p c) ≡ true
      here p c same is =
          subst (λ x. is_some (mode_at rows p x) ≡ true) (sym same)
          (held p (mode_at rows p s) refl (subst (λ x. is_some (mode_at (cleared s gs rows) p x) ≡ true) same is))

-- what is noted may be given
pub kept-given : (rs : List Resource) (rows : List ModeRow) (given : List Given) (g : Given) (m : Mode) → IsKeptAt rs rows given → g.place < length rs
    → IsKeptAt rs (put_mode rows g.place g.session (Some m)) (given ++ g ∷ [])
kept-given rs rows given g m kept lt = record {
  count = same ∙ kept.count;
  inside = inside-same rows more (given ++ g ∷ []) same noted.inside;
  complete = λ p s e. ⊎_elim (λ here. ⊎_elim (λ one. given-last given g s p (sym one.1) (sym here.1))
      (λ other. noted.complete p s (subst (λ o. is_some o ≡ true) (put-other rows g.place g.session p s (Some m) other.1) e)) (eqb_tells s g.session))
      (λ away. noted.complete p s (subst (λ o. is_some o ≡ true) (put-away rows g.place g.session p s (Some m) away.1) e)) (eqb_tells p g.place);
}
  where
    more : List ModeRow
    more = put_mode rows g.place g.session (Some m)

    same : length more ≡ length rows
    same = length-set rows g.place (with_mode (get_or rows g.place no_modes) g.session (Some m))

    noted : IsKeptAt rs rows (given ++ g ∷ [])
    noted = kept-noted rs rows given kept g lt

-- ---- nobody holds anything

blank-held : (rs : List Resource) (rows : List ModeRow) → All IsBlank rows → (h : Holding) → held_in rs rows h ≡ None
blank-held [] rows all h = refl
blank-held (r ∷ rs) [] all h = refl
blank-held (r ∷ rs) (row ∷ rows) all h = at (same_resource h.1 r) (All-head IsBlank row rows all h.0) (blank-held rs rows (All-tail IsBlank row rows all) h)
  where
    at : (b : Bool) → mode_in row h.0 ≡ None → held_in rs rows h ≡ None → cond b (mode_in row h.0) (held_in rs rows h) ≡ None
    at true first rest = first
    at false first rest = rest

pub held-blank : (rs : List Resource) (rows : List ModeRow) → All IsBlank rows → held_map rs rows ≡ empty
held-blank rs rows all = same_map _ _ (λ h. get-held rs rows h ∙ blank-held rs rows all h ∙ sym (get-empty holding_order Mode h))

blank-at : (rows : List ModeRow) → All IsBlank rows → (k c : ℕ) → mode_at rows k c ≡ None
blank-at [] all k c = refl
blank-at (row ∷ rows) all zero c = All-head IsBlank row rows all c
blank-at (row ∷ rows) all (suc k) c = blank-at rows (All-tail IsBlank row rows all) k c

pub kept-blank : (rs : List Resource) (rows : List ModeRow) → length rows ≡ length rs → All IsBlank rows → IsKeptAt rs rows []
kept-blank rs rows same all = record {
  count = same;
  inside = All-nil (IsInside rows);
  complete = λ p s e. let never : is_some no_mode ≡ true = subst (λ o. is_some o ≡ true) (blank-at rows all p s) e in cc;
}

-- ---- what is read

-- what a row has is what is held there
pub mode-there : (rs : List Resource) (rows : List ModeRow) (k s : ℕ) (d : Resource) (row : ModeRow) → IsStrictlySortedBy resource_cmp rs
    → length rows ≡ length rs → k < length rs → slice_get rows k ≡ Some row → get (held_map rs rows) (s, get_or rs k d) ≡ mode_in row s
mode-there rs rows k s d row rise same lt e =
    get-held rs rows (s, get_or rs k d) ∙ held-at rs rows k s d rise lt same ∙ ap (λ r. mode_in r s) (get_or_from_slice_get rows k row no_modes e)

-- where all was given to one session, nothing is left once it is cleared
pub kept-all : (rs : List Resource) (rows : List ModeRow) (given : List Given) (s : ℕ) → IsKeptAt rs rows given
    → list_all (λ (g : Given). g.session == s) given ≡ true → IsKeptAt rs (cleared s given rows) []
kept-all rs rows given s kept all = record {
  count = length-cleared s given rows ∙ kept.count;
  inside = All-nil (IsInside (cleared s given rows));
  complete = λ p c e. ⊎_elim (λ same. one p c same.1 e) (λ other. other.1 (of-one given all c p (kept.complete p c (subst (λ o. is_some o ≡ true) (cleared-other s given rows p c other.1) e))))
      (eqb_tells c s);
}
  where
    of-one : (gs : List Given) → list_all (λ (g : Given). g.session == s) gs ≡ true → (c p : ℕ) → IsGiven gs c p → c ≡ s
    of-one [] all c p never = absurd never
    of-one (g ∷ gs) all c p (inl is) =
        let parts = and_parts (g.session == s) (list_all (λ (x : Given). x.session == s) gs) all in
        sym is.0 ∙ eqb-true g.session s parts.0
    of-one (g ∷ gs) all c p (inr later) =
        of-one gs (and_parts (g.session == s) (list_all (λ (x : Given). x.session == s) gs) all).1 c p later

    one : (p c : ℕ) → c ≡ s → is_some (mode_at (cleared s given rows) p c) ≡ true → IsGiven [] c p
    one p c same e =
        let none = ap (mode_at (cleared s given rows) p) same ∙ gone rs rows given s kept p s ∙ last (s == s) (eq-eqb s s refl) in
        let never : is_some no_mode ≡ true = subst (λ o. is_some o ≡ true) none e in
        cc
      where
        last : (b : Bool) → b ≡ true → cond (not b) (mode_at rows p s) None ≡ None
        last true e = refl
        last false e = cc
