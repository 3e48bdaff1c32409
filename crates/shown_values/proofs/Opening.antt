-- Sessions that have not ended, pushed one by one.
use Rattle.std.specs.Prelude.{◌≡◌, ℕ, zero, suc, ◌+◌, ◌<◌, ◌≤◌, List, [], ◌∷◌, ◌++◌, codes, length, get_or, take, flat_map}
use Rattle.std.proofs.Common.{sym, ◌∙◌, ap, arith, add-one, append_assoc, append-nil, length-append}
use Rattle.std.proofs.lemmas.Grind.{flat_map-append}
use Rattle.std.specs.List.{join_by}
use Rattle.shown_values.specs.Strings.{before_item}
use Rattle.shown_values.specs.Page.{open_json, opens_by}

-- behind what comes before, those of the first sessions are pushed that have not ended, and there are so many
pub record ArePushed {X : Type 0} (f : ℕ → X → List (ℕ × List ℕ)) (place : ℕ) (start out : List ℕ) (i : ℕ) (xs : List X) : Type 0 where
  pub within : place ≤ i
  pub count : place ≡ length (opens_by f 0 (take i xs))
  pub pushed : out ≡ start ++ join_by open_json (codes ",") (opens_by f 0 (take i xs))

-- one more session, whose number this is
open-next : {X : Type 0} (f : ℕ → X → List (ℕ × List ℕ)) (k : ℕ) (xs : List X) (i : ℕ) (x : X) (n : ℕ) → n ≡ k + i → i < length xs → x ≡ get_or xs i x
    → opens_by f k (take (suc i) xs) ≡ opens_by f k (take i xs) ++ f n x
open-next f k [] i x n e below is = absurd (omega arith)
open-next f k (y ∷ ys) zero x n e below is =
    let first : k ≡ n = omega arith in
    append-nil (f k y) ∙ ap (f k) (sym is) ∙ ap (λ m. f m x) first
open-next f k (y ∷ ys) (suc i) x n e below is =
    ap (λ others. f k y ++ others) (open-next f (k + 1) ys i x n (omega arith) (omega arith) is) ∙ sym (append_assoc (f k y) _ _)

-- one more item at the end
join-snoc : {X : Type 0} (f : X → List ℕ) (separator : List ℕ) (xs : List X) (x : X)
    → join_by f separator (xs ++ x ∷ []) ≡ join_by f separator xs ++ (before_item separator (length xs) ++ f x)
join-snoc f separator [] x = append-nil (f x)
join-snoc f separator (y ∷ ys) x =
    let piece = λ (z : _). separator ++ f z in
    let others = flat_map-append piece ys (x ∷ []) ∙ ap (λ last. flat_map piece ys ++ last) (append-nil (piece x)) in
    ap (λ pieces. f y ++ pieces) others
    ∙ sym (append_assoc (f y) _ _)

-- a session that has ended
pub none-next : {X : Type 0} (f : ℕ → X → List (ℕ × List ℕ)) (xs : List X) (i : ℕ) (x : X) (place : ℕ) (start out : List ℕ)
    → i < length xs → x ≡ get_or xs i x → f i x ≡ [] → ArePushed f place start out i xs → ArePushed f place start out (i + 1) xs
none-next f xs i x place start out below is none before =
    let same : opens_by f 0 (take (i + 1) xs) ≡ opens_by f 0 (take i xs) =
    rw add-one (open-next f 0 xs i x i (omega arith) below is ∙ ap (λ last. opens_by f 0 (take i xs) ++ last) none ∙ append-nil _) in
    record { within = omega (arith, before.within); count = rw same before.count; pushed = rw same before.pushed }

-- one that has not
pub some-next : {X : Type 0} (f : ℕ → X → List (ℕ × List ℕ)) (xs : List X) (i : ℕ) (x : X) (word : List ℕ) (place : ℕ) (start out parted new : List ℕ)
    → i < length xs → x ≡ get_or xs i x → f i x ≡ (i, word) ∷ []
    → parted ≡ out ++ before_item (codes ",") place → new ≡ parted ++ open_json (i, word)
    → ArePushed f place start out i xs → ArePushed f (place + 1) start new (i + 1) xs
some-next f xs i x word place start out parted new below is one part push before =
    let more : opens_by f 0 (take (i + 1) xs) ≡ opens_by f 0 (take i xs) ++ (i, word) ∷ [] =
    rw add-one (open-next f 0 xs i x i (omega arith) below is ∙ ap (λ last. opens_by f 0 (take i xs) ++ last) one) in
    record {
      within = omega (arith, before.within);
      count = rw more (ap (λ n. n + 1) before.count ∙ sym (length-append _ _));
      pushed =
          rw (more, join-snoc open_json (codes ",") (opens_by f 0 (take i xs)) (i, word), ← before.count, push, part, before.pushed) (simp append_assoc);
    }
