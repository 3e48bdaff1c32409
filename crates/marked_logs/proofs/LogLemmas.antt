-- Logs by the nodes of a tree that grows.
use Rattle.std.proofs.Common.{◌≡◌, ◌<◌, ◌∙◌, refl, sym, ap, subst, arith, ℕ, zero, suc, List, []}
use Rattle.std.proofs.Common.{◌∷◌, ◌++◌, length, map, get_or, set, slice_get, replicate, reverse, OnOk, OnErr, Some, Ok, Err}
use Rattle.std.specs.Prelude.{All, Result}
use Rattle.std.proofs.lemmas.Option.{get_or_from_slice_get}
use Rattle.std.proofs.lemmas.List.{get_or-map, length-map, map-append, map-set, reverse-append}
use Rattle.event_tree.specs.declared.node.NodeId.{NodeId}
use Rattle.event_tree.specs.Lists.{Grows, HasNode, Keeps, list_of}
use Rattle.marked_lists.specs.Versions.{Versions}
use Rattle.marked_logs.specs.Logs.{forgetting, telling, told_to}
use Rattle.marked_logs.specs.Kept.{IsKept, lists_at, logs_of}

same-marks : {X Y : Type 0} (r : Result X Y) (logs left : Versions NodeId) (s : ℕ) (after : NodeId)
    → OnOk r (left ≡ record logs { list = set logs.list s after }) → OnErr r (left ≡ logs) → left.marked ≡ logs.marked
same-marks (Ok x) logs left s after put same = ap (λ (v : Versions NodeId). v.marked) put
same-marks (Err y) logs left s after put same = ap (λ (v : Versions NodeId). v.marked) same

map-reverse : {A B : Type 0} (f : A → B) (xs : List A) → map f (reverse xs) ≡ reverse (map f xs)
map-reverse f [] = refl
map-reverse f (x ∷ xs) =
    ap (map f) (reverse-append (x ∷ []) xs) ∙ map-append f (reverse xs) (x ∷ []) ∙ ap (λ l. l ++ f x ∷ []) (map-reverse f xs)
    ∙ sym (reverse-append (f x ∷ []) (map f xs))

module _ {E : Type 0} where
  -- nodes that are kept stand for the same lists
  pub lists-kept : (old new : List (List E)) (ids : List NodeId) → Keeps old new → All (HasNode old) ids → lists_at new ids ≡ lists_at old ids
  lists-kept old new [] keeps all = refl
  lists-kept old new (id ∷ ids) keeps all =
      λ i. (keeps id (all 0 id (omega arith))).1 i ∷ lists-kept old new ids keeps (λ k d lt. all (suc k) d (omega (arith, lt))) i

  pub marked-kept : (old new : List (List E)) (marked : List (List NodeId)) → Keeps old new → All (All (HasNode old)) marked
      → map (lists_at new) marked ≡ map (lists_at old) marked
  marked-kept old new [] keeps all = refl
  marked-kept old new (ids ∷ marked) keeps all =
      λ i. lists-kept old new ids keeps (all 0 ids (omega arith)) i ∷ marked-kept old new marked keeps (λ k d lt. all (suc k) d (omega (arith, lt))) i

  -- ---- telling

  at-session : (lists : List (List E)) (ids : List NodeId) (s : ℕ) (id : NodeId) → s < length ids → slice_get ids s ≡ Some id
      → get_or (lists_at lists ids) s [] ≡ list_of lists id
  at-session lists ids s id lt got =
      get_or-map (list_of lists) ids s id [] lt ∙ ap (list_of lists) (get_or_from_slice_get ids s id id got)

  pub inside-of : (lists : List (List E)) (ids : List NodeId) (s : ℕ) → s < length (lists_at lists ids) → s < length ids
  inside-of lists ids s lt = subst (λ n. s < n) (length-map ids (list_of lists)) lt

  pub tell-told : {X Y : Type 0} (r : Result X Y) (old new : List (List E)) (logs left : Versions NodeId) (s : ℕ) (before after : NodeId) (e : E)
      → Keeps old new → IsKept old logs → s < length logs.list → slice_get logs.list s ≡ Some before → list_of new after ≡ list_of old before ++ e ∷ []
      → OnOk r (left ≡ record logs { list = set logs.list s after }) → OnOk r (lists_at new left.list ≡ telling (lists_at old logs.list) s e)
  tell-told (Ok x) old new logs left s before after e keeps kept lt got told put =
      ap (λ (v : Versions NodeId). lists_at new v.list) put ∙ map-set (list_of new) logs.list s after
      ∙ (λ i. set (lists-kept old new logs.list keeps kept.now i) s (told i))
      ∙ ap (λ l. set (lists_at old logs.list) s (l ++ e ∷ [])) (sym (at-session old logs.list s before lt got))
  tell-told (Err y) old new logs left s before after e keeps kept lt got told put = tt

  pub tell-grows : (old new : List (List E)) (logs : Versions NodeId) (s : ℕ) (before : NodeId) (e : E) → s < length logs.list
      → slice_get logs.list s ≡ Some before → Grows old (list_of old before ++ e ∷ []) new → Grows old (told_to (lists_at old logs.list) s ++ e ∷ []) new
  tell-grows old new logs s before e lt got grows = subst (λ l. Grows old (l ++ e ∷ []) new) (sym (at-session old logs.list s before lt got)) grows

  pub tell-kept : {X Y : Type 0} (r : Result X Y) (old new : List (List E)) (logs left : Versions NodeId) → Keeps old new → IsKept old logs
      → OnErr r (left ≡ logs) → OnErr r (lists_at new left.list ≡ lists_at old logs.list)
  tell-kept (Ok x) old new logs left keeps kept same = tt
  tell-kept (Err y) old new logs left keeps kept same =
      ap (λ (v : Versions NodeId). lists_at new v.list) same ∙ lists-kept old new logs.list keeps kept.now

  pub tell-marked : {X Y : Type 0} (r : Result X Y) (old new : List (List E)) (logs left : Versions NodeId) (s : ℕ) (after : NodeId)
      → Keeps old new → IsKept old logs → OnOk r (left ≡ record logs { list = set logs.list s after }) → OnErr r (left ≡ logs)
      → map (lists_at new) left.marked ≡ map (lists_at old) logs.marked
  tell-marked r old new logs left s after keeps kept put same =
      ap (map (lists_at new)) (same-marks r logs left s after put same) ∙ marked-kept old new logs.marked keeps kept.marked

  -- ---- forgetting, and going back

  pub forget-told : {X Y : Type 0} (r : Result X Y) (lists : List (List E)) (logs left : Versions NodeId) (s : ℕ) (root : NodeId) → list_of lists root ≡ []
      → OnOk r (left ≡ record logs { list = set logs.list s root })
      → OnOk r (logs_of lists left ≡ record (logs_of lists logs) { now = forgetting (lists_at lists logs.list) s })
  forget-told (Ok x) lists logs left s root none put =
      ap (logs_of lists) put
      ∙ (λ i. record (logs_of lists logs) { now = (map-set (list_of lists) logs.list s root ∙ ap (set (lists_at lists logs.list) s) none) i })
  forget-told (Err y) lists logs left s root none put = tt

  pub back-nodes : (lists : List (List E)) (logs left : Versions NodeId) → IsKept lists logs → logs.marked ≡ left.list ∷ left.marked → IsKept lists left
  back-nodes lists logs left kept back =
      let all = subst (All (All (HasNode lists))) back kept.marked in
      record { now = all 0 [] (omega arith); marked = λ k d lt. all (suc k) d (omega (arith, lt)) }

  -- ---- events in their order

  -- nothing is left before them
  pub all-events : {A : Type 0} (f : A → E) (whole left : List E) (events turned : List A) → whole ≡ left ++ reverse (map f events) → left ≡ []
      → turned ≡ reverse events → map f turned ≡ whole
  all-events f whole left events turned is none turn =
      ap (map f) turn ∙ map-reverse f events ∙ sym (is ∙ ap (λ l. l ++ reverse (map f events)) none)

  -- ---- sessions that were told nothing

  pub silent-logs : (lists : List (List E)) (n : ℕ) (id : NodeId) → list_of lists id ≡ [] → lists_at lists (replicate n id) ≡ replicate n []
  silent-logs lists zero id none = refl
  silent-logs lists (suc n) id none = λ i. none i ∷ silent-logs lists n id none i
