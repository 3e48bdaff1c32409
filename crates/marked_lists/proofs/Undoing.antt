-- What the parts of a marked list stand for behind each of its methods.
use Rattle.std.specs.Prelude.{◌≡◌, refl, ℕ, zero, suc, ◌+◌, ◌-◌, ◌<◌, ◌≤◌, ◌⊎◌, List, [], ◌∷◌, ◌++◌, map, reverse, length, take, drop, set, get_or, All, AllPairs}
use Rattle.std.proofs.Common.{sym, ap, ◌∙◌, subst, arith, append_assoc, length-append, length-drop, add-one}
use Rattle.std.proofs.lemmas.List.{length-set, length-take-le, length-reverse, take_all, take_at, take_more, take-append-le, take-append-drop, drop-append-le, drop-drop, drop_at}
use Rattle.std.proofs.lemmas.List.{get_or-take, get_or_default, set_at, set_split, map-append, reverse-append, length-map}
use Rattle.std.proofs.lemmas.List.Quantifiers.{all_pairs_push}
use Rattle.std.proofs.lemmas.List.Elements.{All-append, All-get_or, All-head, All-nil, All-push, All-tail, All-take, All-weaker}
use Rattle.marked_lists.specs.Versions.{Versions, oldest}
use Rattle.marked_lists.specs.Trail.{undone, list_at, lists_at, placed, kept_at, IsInside, IsBehind, IsNoLater, IsSound}
use Rattle.marked_lists.specs.declared.trail.Overwritten.{Overwritten}
use Rattle.marked_lists.specs.declared.trail.Mark.{Mark}

-- the oldest of a list that is turned round are the first
oldest-reverse : {A : Type 0} → (n : ℕ) (xs : List A) → n ≤ length xs → oldest n (reverse xs) ≡ reverse (take n xs)
oldest-reverse n xs le =
    ap (λ m. drop (m - n) (reverse xs)) (length-reverse xs)
    ∙ ap (λ ys. drop (length xs - n) (reverse ys)) (sym (take-append-drop n xs))
    ∙ ap (drop (length xs - n)) (reverse-append (take n xs) (drop n xs))
    ∙ drop_at (reverse (drop n xs)) (reverse (take n xs)) (length xs - n) (length-reverse (drop n xs) ∙ length-drop n xs)

-- the first of some items, each by a function, are the first of all that it gives
map-take : {A B : Type 0} (f : A → B) (n : ℕ) (xs : List A) → take n (map f xs) ≡ map f (take n xs)
map-take f zero xs = refl
map-take f (suc n) [] = refl
map-take f (suc n) (x ∷ xs) = ap (λ ys. f x ∷ ys) (map-take f n xs)

-- functions that agree on each item give one list
map-same : {A B : Type 0} (P : A → Type 0) (f g : A → B) → ((x : A) → P x → f x ≡ g x) → (xs : List A) → All P xs → map f xs ≡ map g xs
map-same P f g same [] each = refl
map-same P f g same (x ∷ xs) each = ap (λ y. y ∷ map f xs) (same x (All-head P x xs each)) ∙ ap (λ ys. g x ∷ ys) (map-same P f g same xs (All-tail P x xs each))

AllPairs-take : {A : Type 0} (R : A → A → Type 0) (n : ℕ) (xs : List A) → n ≤ length xs → AllPairs R xs → AllPairs R (take n xs)
AllPairs-take R n xs le all i j d before inside =
    let small : j < n = (let l = length-take-le n xs le in omega arith) in
    subst (λ x. R x (get_or (take n xs) j d)) (sym (get_or-take n xs i d (omega arith)))
    (subst (R (get_or xs i d)) (sym (get_or-take n xs j d small)) (all i j d before (omega arith)))

-- marks before another one are no later
marks-before : (marks : List Mark) (n : ℕ) (mark : Mark) → n < length marks → mark ≡ get_or marks n mark → AllPairs IsNoLater marks
    → All (λ m. IsNoLater m mark) (take n marks)
marks-before marks n mark lt is rising i d inside =
    let small : i < n = (let l = length-take-le n marks (omega arith) in omega arith) in
    subst (λ m. IsNoLater m mark) (sym (get_or-take n marks i d small))
    (subst (λ (m : Mark). (get_or marks i d).trail_len ≤ m.trail_len) (get_or_default marks n d mark lt ∙ sym is) (rising i n d small lt))

module _ {T : Type 0} where
  -- ---- undoing

  -- what was written last is undone first
  pub undone-append : (older newer : List (Overwritten T)) (items : List T) → undone (older ++ newer) items ≡ undone older (undone newer items)
  undone-append [] newer items = refl
  undone-append (write ∷ older) newer items = ap (λ xs. set xs write.place write.before) (undone-append older newer items)

  length-undone : (writes : List (Overwritten T)) (items : List T) → length (undone writes items) ≡ length items
  length-undone [] items = refl
  length-undone (write ∷ writes) items = length-set (undone writes items) write.place write.before ∙ length-undone writes items

  set-take : (n : ℕ) (items : List T) (place : ℕ) (value : T) → set (take n items) place value ≡ take n (set items place value)
  set-take zero items place value = refl
  set-take (suc n) [] place value = refl
  set-take (suc n) (x ∷ items) zero value = refl
  set-take (suc n) (x ∷ items) (suc place) value = ap (λ xs. x ∷ xs) (set-take n items place value)

  -- items behind the first ones are of no matter to these
  undone-take : (n : ℕ) (writes : List (Overwritten T)) (items : List T) → undone writes (take n items) ≡ take n (undone writes items)
  undone-take n [] items = refl
  undone-take n (write ∷ writes) items =
      ap (λ xs. set xs write.place write.before) (undone-take n writes items) ∙ set-take n (undone writes items) write.place write.before

  -- the newest write is undone first, where it stands behind the first ones
  pub undone-last : (n : ℕ) (writes : List (Overwritten T)) (write : Overwritten T) (items : List T) → n ≤ length writes
      → undone (drop n writes) (set items write.place write.before) ≡ undone (drop n (writes ++ write ∷ [])) items
  undone-last n writes write items le =
      sym (ap (λ ws. undone ws items) (drop-append-le n writes (write ∷ []) le) ∙ undone-append (drop n writes) (write ∷ []) items)

  pub take-last : (n : ℕ) (writes : List (Overwritten T)) (write : Overwritten T) → n ≤ length writes → take n writes ≡ take n (writes ++ write ∷ [])
  take-last n writes write le = sym (take-append-le n writes (write ∷ []) le)

  pub inside-set : (items : List T) (place : ℕ) (value : T) (writes : List (Overwritten T)) → All (IsInside items) writes → All (IsInside (set items place value)) writes
  inside-set items place value writes = All-weaker (IsInside items) (IsInside (set items place value)) (λ write lt. (let l = length-set items place value in omega arith)) writes

  -- ---- a value that is put

  length-placed : (items : List T) (place : ℕ) (value : T) → place ≤ length items → length (placed items place value) ≡ place + suc (length items - (place + 1))
  length-placed items place value le =
      length-append (take place items) (value ∷ drop (place + 1) items) ∙ ap (λ n. n + suc (length (drop (place + 1) items))) (length-take-le place items le)
      ∙ ap (λ n. place + suc n) (length-drop (place + 1) items)

  pub take-set : (items : List T) (place len : ℕ) (value : T) → place < len → len ≤ length items → take len (placed items place value) ≡ set (take len items) place value
  take-set items place len value lt le =
      ap (λ n. take len (take place items ++ value ∷ drop n items)) (add-one place)
      ∙ ap (take len) (sym (set_split items place value (omega arith))) ∙ sym (set-take len items place value)

  pub take-push : (items : List T) (len : ℕ) (value : T) → len ≤ length items → take (len + 1) (placed items len value) ≡ take len items ++ value ∷ []
  take-push items len value le =
      ap (take (len + 1)) (sym (append_assoc (take len items) (value ∷ []) (drop (len + 1) items)))
      ∙ take_at (take len items ++ value ∷ []) (drop (len + 1) items) (len + 1)
      (length-append (take len items) (value ∷ []) ∙ ap (λ n. n + 1) (length-take-le len items le))

  -- what a mark keeps of a value that is put gives back what was there
  undone-placed : (mark : Mark) (marks : List Mark) (items : List T) (place : ℕ) (value : T) (n : ℕ) (rest : List T) → drop place items ≡ rest → place ≤ length items → n ≤ length items
      → undone (kept_at (mark ∷ marks) place rest) (take n (placed items place value)) ≡ take n items
  undone-placed mark marks items place value n [] is le few =
      let past : length items ≤ place = (let l = ap length is in omega (arith, length-drop place items, l)) in
      ap (λ xs. take n (xs ++ value ∷ drop (place + 1) items)) (take_all place items past) ∙ take-append-le n items (value ∷ drop (place + 1) items) few
  undone-placed mark marks items place value n (before ∷ rest) is le few =
      let behind : drop (place + 1) items ≡ rest = sym (drop-drop 1 place items) ∙ ap (drop 1) is in
      set-take n (placed items place value) place before
      ∙ ap (take n) (set_at (take place items) value (drop (place + 1) items) before place (length-take-le place items le)
      ∙ ap (λ xs. take place items ++ before ∷ xs) behind ∙ ap (λ xs. take place items ++ xs) (sym is) ∙ take-append-drop place items)

  -- a value that is put changes no list at a mark
  pub lists-put : (items : List T) (trail : List (Overwritten T)) (marks : List Mark) (place : ℕ) (value : T) → place ≤ length items → All (IsBehind items trail) marks
      → lists_at (placed items place value) (trail ++ kept_at marks place (drop place items)) marks ≡ lists_at items trail marks
  lists-put items trail [] place value le behind = refl
  lists-put items trail (mark ∷ marks) place value le behind =
      ap reverse (map-same (IsBehind items trail) (list_at (placed items place value) (trail ++ kept_at (mark ∷ marks) place (drop place items))) (list_at items trail) same (mark ∷ marks) behind)
    where
      same : (m : Mark) → IsBehind items trail m → list_at (placed items place value) (trail ++ kept_at (mark ∷ marks) place (drop place items)) m ≡ list_at items trail m
      same m is =
          ap (λ writes. undone writes (take m.len (placed items place value))) (drop-append-le m.trail_len trail (kept_at (mark ∷ marks) place (drop place items)) is.1)
          ∙ undone-append (drop m.trail_len trail) (kept_at (mark ∷ marks) place (drop place items)) (take m.len (placed items place value))
          ∙ ap (undone (drop m.trail_len trail)) (undone-placed mark marks items place value m.len (drop place items) refl le is.0)

  inside-kept : (items : List T) (marks : List Mark) (place : ℕ) (rest : List T) → place < length items → All (IsInside items) (kept_at marks place rest)
  inside-kept items marks place [] lt = All-nil (IsInside items)
  inside-kept items [] place (before ∷ rest) lt = All-nil (IsInside items)
  inside-kept items (mark ∷ marks) place (before ∷ rest) lt = All-push (IsInside items) [] (record { place = place; before = before }) (All-nil (IsInside items)) lt

  pub sound-put : (items : List T) (trail : List (Overwritten T)) (marks : List Mark) (place len now : ℕ) (value : T) → IsSound items len trail marks → place ≤ length items
      → (now ≤ length items) ⊎ (now ≤ place + 1) → IsSound (placed items place value) now (trail ++ kept_at marks place (drop place items)) marks
  sound-put items trail marks place len now value sound le few =
      let new = placed items place value in
      let more = kept_at marks place (drop place items) in
      let long : length items ≤ length new = omega (arith, length-placed items place value le) in
      let lt : place < length new = omega (arith, length-placed items place value le) in
      record {
        inside = omega arith;
        places = All-append (IsInside new) trail more (All-weaker (IsInside items) (IsInside new) (λ write h. omega arith) trail sound.places)
            (inside-kept new marks place (drop place items) lt);
        behind = All-weaker (IsBehind items trail) (IsBehind new (trail ++ more))
            (λ m is. (let a = is.0 in omega arith, let b = is.1 in omega (arith, length-append trail more))) marks sound.behind;
        rising = sound.rising;
      }

  -- ---- a mark that is set

  pub sound-mark : (items : List T) (trail : List (Overwritten T)) (marks : List Mark) (len : ℕ) → IsSound items len trail marks
      → IsSound items len trail (marks ++ record { len = len; trail_len = length trail } ∷ [])
  sound-mark items trail marks len sound = record {
    inside = sound.inside;
    places = sound.places;
    behind = All-push (IsBehind items trail) marks (record { len = len; trail_len = length trail }) sound.behind (sound.inside, omega arith);
    rising = all_pairs_push IsNoLater marks (record { len = len; trail_len = length trail }) sound.rising
        (λ i d lt. (All-get_or (IsBehind items trail) marks i d lt sound.behind).1);
  }

  -- ---- going back

  -- a list at an older mark, behind a way back to a newer one
  list-back : (items : List T) (trail : List (Overwritten T)) (len : ℕ) (m : Mark) → m.trail_len ≤ len → len ≤ length trail
      → list_at (undone (drop len trail) items) (take len trail) m ≡ list_at items trail m
  list-back items trail len m le inside =
      ap (undone (drop m.trail_len (take len trail))) (sym (undone-take m.len (drop len trail) items))
      ∙ sym (undone-append (drop m.trail_len (take len trail)) (drop len trail) (take m.len items))
      ∙ ap (λ writes. undone writes (take m.len items)) (sym (drop-append-le m.trail_len (take len trail) (drop len trail)
      (let l = length-take-le len trail inside in omega arith)) ∙ ap (drop m.trail_len) (take-append-drop len trail))

  -- the lists at the marks that stay, behind the list at the mark that is gone
  pub lists-back : (items : List T) (trail : List (Overwritten T)) (marks : List Mark) (len n : ℕ) (mark : Mark) → IsSound items len trail marks → n < length marks
      → mark ≡ get_or marks n mark → oldest (n + 1) (lists_at items trail marks)
      ≡ take mark.len (undone (drop mark.trail_len trail) items) ∷ lists_at (undone (drop mark.trail_len trail) items) (take mark.trail_len trail) (take n marks)
  lists-back items trail marks len n mark sound lt is =
      let f = list_at items trail in
      let back = list_at (undone (drop mark.trail_len trail) items) (take mark.trail_len trail) in
      let inside : mark.trail_len ≤ length trail = subst (λ (m : Mark). m.trail_len ≤ length trail) (sym is) (All-get_or (IsBehind items trail) marks n mark lt sound.behind).1 in
      let same : map f (take n marks) ≡ map back (take n marks) =
      map-same (λ m. IsNoLater m mark) f back (λ m le. sym (list-back items trail mark.trail_len m le inside)) (take n marks) (marks-before marks n mark lt is sound.rising) in
      oldest-reverse (n + 1) (map f marks) (let l = length-map marks f in omega arith)
      ∙ ap reverse (map-take f (n + 1) marks ∙ ap (map f) (take_more marks n mark lt ∙ ap (λ m. take n marks ++ m ∷ []) (sym is)) ∙ map-append f (take n marks) (mark ∷ []))
      ∙ reverse-append (map f (take n marks)) (f mark ∷ [])
      ∙ ap (λ lists. f mark ∷ reverse lists) same
      ∙ ap (λ list. list ∷ reverse (map back (take n marks))) (undone-take mark.len (drop mark.trail_len trail) items)

  pub sound-back : (items : List T) (trail : List (Overwritten T)) (marks : List Mark) (len n : ℕ) (mark : Mark) → IsSound items len trail marks → n < length marks
      → mark ≡ get_or marks n mark → IsSound (undone (drop mark.trail_len trail) items) mark.len (take mark.trail_len trail) (take n marks)
  sound-back items trail marks len n mark sound lt is =
      let now = undone (drop mark.trail_len trail) items in
      let same : length now ≡ length items = length-undone (drop mark.trail_len trail) items in
      let here : IsBehind items trail mark = subst (IsBehind items trail) (sym is) (All-get_or (IsBehind items trail) marks n mark lt sound.behind) in
      let left : length (take mark.trail_len trail) ≡ mark.trail_len = length-take-le mark.trail_len trail here.1 in
      record {
        inside = (let a = here.0 in omega arith);
        places = All-take (IsInside now) mark.trail_len trail (All-weaker (IsInside items) (IsInside now) (λ write h. omega arith) trail sound.places);
        behind = λ i d below. (
          (let a = (All-take (IsBehind items trail) n marks sound.behind i d below).0 in omega arith),
          (let b = marks-before marks n mark lt is sound.rising i d below in omega arith),
        );
        rising = AllPairs-take IsNoLater n marks (omega arith) sound.rising;
      }

  -- a number of one of the lists at marks is one of a mark
  pub inside-marks : (items : List T) (trail : List (Overwritten T)) (marks : List Mark) (marked : List (List T)) (n : ℕ) → lists_at items trail marks ≡ marked
      → n < length marked → n < length marks
  inside-marks items trail marks marked n e lt =
      omega (arith, ap length e, length-reverse (map (list_at items trail) marks), length-map marks (list_at items trail))

  pub same-versions : (a b : List T) (x y : List (List T)) → a ≡ b → x ≡ y → (let v : Versions T = record { list = a; marked = x } in v) ≡ record { list = b; marked = y }
  same-versions a b x y e f = cc
