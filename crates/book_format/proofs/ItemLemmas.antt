-- Arrays of so many items, and what is left of the items of a slice.
use Rattle.std.proofs.Common.{◌≡◌, ◌≢◌, refl, sym, ap, ◌∙◌, ℕ, suc, ◌+◌, ◌<◌, ◌≤◌, List, [], ◌∷◌, length, get_or, drop, map, None}
use Rattle.std.proofs.Common.{arith}
use Rattle.std.proofs.lemmas.List.{drop_more, drop_all}
use Rattle.serde_json.specs.Data.{no_items, item}
use Rattle.serde_json.specs.View.{view, items_view, members_of}
use Rattle.serde_json.specs.declared.value.Value.{Value as Json}
use Rattle.std.specs.Prelude.{String}
use Rattle.std.specs.declared.alloc.Global.{Global}
use Rattle.book_format.specs.ReadingBooks.{count_of}
use Rattle.book_format.specs.ReadingRuns.{span_in_items, span_in_four}
use Rattle.book_format.specs.ReadingFacts.{entry_items, entry_in_three}

pub four_items : (n : ℕ) (vs : List Json) (u v w x : Json) → length vs ≡ 4
    → span_in_items n (items_view vs) ≡ span_in_four n (view (get_or vs 0 u)) (view (get_or vs 1 v)) (view (get_or vs 2 w)) (view (get_or vs 3 x))
four_items n [] u v w x is = cc
four_items n (a ∷ []) u v w x is = cc
four_items n (a ∷ b ∷ []) u v w x is = cc
four_items n (a ∷ b ∷ c ∷ []) u v w x is = cc
four_items n (a ∷ b ∷ c ∷ d ∷ []) u v w x is = refl
four_items n (a ∷ b ∷ c ∷ d ∷ e ∷ vs) u v w x is = absurd (omega (arith, is))

pub not_four_items : (n : ℕ) (vs : List Json) → length vs ≢ 4 → span_in_items n (items_view vs) ≡ None
not_four_items n [] not_four = refl
not_four_items n (a ∷ []) not_four = refl
not_four_items n (a ∷ b ∷ []) not_four = refl
not_four_items n (a ∷ b ∷ c ∷ []) not_four = refl
not_four_items n (a ∷ b ∷ c ∷ d ∷ []) not_four = absurd (not_four refl)
not_four_items n (a ∷ b ∷ c ∷ d ∷ e ∷ vs) not_four = refl

pub three_items : (vs : List Json) (u v w : Json) → length vs ≡ 3
    → entry_items (items_view vs) ≡ entry_in_three (view (get_or vs 0 u)) (view (get_or vs 1 v)) (view (get_or vs 2 w))
three_items [] u v w is = cc
three_items (a ∷ []) u v w is = cc
three_items (a ∷ b ∷ []) u v w is = cc
three_items (a ∷ b ∷ c ∷ []) u v w is = refl
three_items (a ∷ b ∷ c ∷ d ∷ vs) u v w is = absurd (omega (arith, is))

pub not_three_items : (vs : List Json) → length vs ≢ 3 → entry_items (items_view vs) ≡ None
not_three_items [] not_three = refl
not_three_items (a ∷ []) not_three = refl
not_three_items (a ∷ b ∷ []) not_three = refl
not_three_items (a ∷ b ∷ c ∷ []) not_three = absurd (not_three refl)
not_three_items (a ∷ b ∷ c ∷ d ∷ vs) not_three = refl

-- the next item, and those behind it
pub items-next : (vs : List Json) (i : ℕ) (v : Json) → i < length vs → v ≡ get_or vs i v → items_view (drop i vs) ≡ item (view v) (items_view (drop (i + 1) vs))
items-next vs i v lt is = ap items_view (drop_more vs i v lt) ∙ ap (λ w. item (view w) (items_view (drop (i + 1) vs))) (sym is)

-- behind the last item there is none
pub items-end : (vs : List Json) (i : ℕ) → length vs ≤ i → items_view (drop i vs) ≡ no_items
items-end vs i le = ap items_view (drop_all i vs le)

-- members are as many as entries
pub count-members : (ms : List (String Global × Json)) → count_of (members_of (map (λ m. (m.0, view m.1)) ms)) ≡ length ms
count-members [] = refl
count-members (m ∷ ms) = ap suc (count-members ms)
