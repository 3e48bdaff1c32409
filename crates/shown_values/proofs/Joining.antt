-- Items joined one by one.
use Rattle.std.specs.Prelude.{◌≡◌, ℕ, zero, suc, ◌+◌, ◌<◌, ◌≤◌, List, [], ◌∷◌, ◌++◌, codes, length, get_or, take, flat_map, Result, Ok, Err, OnOk}
use Rattle.std.proofs.Common.{sym, ◌∙◌, ap, arith, add-one, append_assoc, append-nil}
use Rattle.std.proofs.Math.Seq.{take-suc}
use Rattle.std.proofs.lemmas.Grind.{flat_map-append}
use Rattle.std.proofs.lemmas.List.{get_or_default, take_all}
use Rattle.std.specs.List.{join_by}
use Rattle.shown_values.specs.Strings.{array_json, before_item}

-- one more of the pieces
pub pieces-next : {X : Type 0} (f : X → List ℕ) (xs : List X) (i : ℕ) (x : X) → i < length xs → x ≡ get_or xs i x
    → flat_map f (take (suc i) xs) ≡ flat_map f (take i xs) ++ f x
pieces-next f xs i x below is =
    ap (flat_map f) (take-suc xs i x below) ∙ flat_map-append f (take i xs) (get_or xs i x ∷ [])
    ∙ ap (λ piece. flat_map f (take i xs) ++ piece) (append-nil (f (get_or xs i x)) ∙ ap f (sym is))

-- one more of the items, behind what stands before it
join-next : {X : Type 0} (f : X → List ℕ) (separator : List ℕ) (xs : List X) (i : ℕ) (x : X) → i < length xs → x ≡ get_or xs i x
    → join_by f separator (take (suc i) xs) ≡ join_by f separator (take i xs) ++ (before_item separator i ++ f x)
join-next f separator [] i x below is = absurd (omega arith)
join-next f separator (y ∷ ys) zero x below is = append-nil (f y) ∙ ap f (sym is)
join-next f separator (y ∷ ys) (suc i) x below is =
    ap (λ pieces. f y ++ pieces) (pieces-next (λ z. separator ++ f z) ys i x (omega arith) is) ∙ sym (append_assoc (f y) _ _)

-- the same, pushed behind what came before
pub joined-next : {X : Type 0} (f : X → List ℕ) (separator : List ℕ) (xs : List X) (i : ℕ) (x : X) (start out parted new : List ℕ)
    → i < length xs → x ≡ get_or xs i x → out ≡ start ++ join_by f separator (take i xs) → parted ≡ out ++ before_item separator i → new ≡ parted ++ f x
    → new ≡ start ++ join_by f separator (take (i + 1) xs)
joined-next f separator xs i x start out parted new below is so-far before pushed =
    rw (add-one, join-next f separator xs i x below is, pushed, before, so-far) (simp append_assoc)

-- the same of an item that is read by its place
pub joined-at : {X : Type 0} (f : X → List ℕ) (separator : List ℕ) (xs : List X) (i : ℕ) (d : X) (start out parted new : List ℕ)
    → i < length xs → out ≡ start ++ join_by f separator (take i xs) → parted ≡ out ++ before_item separator i → new ≡ parted ++ f (get_or xs i d)
    → new ≡ start ++ join_by f separator (take (i + 1) xs)
joined-at f separator xs i d start out parted new below so-far before pushed =
    joined-next f separator xs i (get_or xs i d) start out parted new below (get_or_default xs i d (get_or xs i d) below) so-far before pushed

-- all items, and what closes an array, if there is room
pub joined-all : {X : Type 0} {A E : Type 0} (r : Result A E) (f : X → List ℕ) (xs : List X) (i : ℕ) (old label out new : List ℕ) → length xs ≤ i
    → out ≡ old ++ (label ++ codes "[") ++ join_by f (codes ",") (take i xs) → OnOk r (new ≡ out ++ codes "]")
    → OnOk r (new ≡ old ++ (label ++ array_json f xs))
joined-all (Ok _) f xs i old label out new past so-far close =
    let whole = take_all i xs past in
    rw (close, so-far, whole) (simp append_assoc)
joined-all (Err _) f xs i old label out new past so-far close = close
