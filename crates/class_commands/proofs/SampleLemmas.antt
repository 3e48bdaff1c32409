-- What is counted: all orders of a spec, or a sample of them.
use Rattle.std.specs.Prelude.{◌%◌}
use Rattle.std.proofs.Common.{◌≡◌, ◌≢◌, refl, sym, ap, ◌∙◌, subst, ℕ, zero, suc, ◌+◌, ◌<◌, ◌≤◌, max, List, [], ◌∷◌, ◌++◌, All, length, get_or, map, take, drop, set, slice_get, min, add-one, Option, Some, None, arith}
use Rattle.std.proofs.lemmas.List.Elements.{All-cons, All-head, All-nil, All-tail}
use Rattle.std.proofs.lemmas.List.{append_assoc, append-nil, drop_all, length-map, length-take, map-append, take_all}
use Rattle.std.proofs.Math.Seq.{set-append_seam}
use Rattle.std.proofs.Math.Nat.{mod-lt}
use Rattle.std.proofs.lemmas.List.Sorted.{All-permutation, length_permutation}
use Rattle.binding_model.specs.declared.tables.Table.{Table}
use Rattle.bound_specs.specs.Spec.{Spec, ranks}
use Rattle.order_classes.specs.declared.letters.Filter.{Filter}
use Rattle.order_classes.specs.declared.rows.ClassRow.{ClassRow}
use Rattle.order_classes.specs.declared.rows.Grouping.{Grouping}
use Rattle.spec_schedules.specs.declared.kind.Kind.{Kind}
use Rattle.rand_xoshiro.specs.SplitMix64.{mix_u64}
use Rattle.spec_classes.specs.Classes.{drawn}
use Rattle.spec_classes.specs.Drawing.{AreDrawn, drawn_by}
use Rattle.class_rows.specs.Pages.{IsClassed}
use Rattle.class_rows.specs.declared.rows.Classed.{Classed}
use Rattle.wanted_classes.specs.declared.wanted.WantedSample.{WantedSample}
use Rattle.class_commands.specs.Classing.{AreCounted, IsCounted, IsToldOf, with_rank}
use Rattle.class_commands.proofs.OpenedLemmas.{leasts-inside}

-- ---- ranks that were drawn

module _ (bound : ℕ) where
  by-length : (state n : ℕ) → length (drawn_by state bound n) ≡ n
  unfolding drawn_by
  by-length state zero = refl
  by-length state (suc n) = ap suc (by-length (mix_u64 state).1 n)

  by-inside : (state n : ℕ) → 0 < bound → All (λ r. r < bound) (drawn_by state bound n)
  unfolding drawn_by
  by-inside state zero some = All-nil (λ r. r < bound)
  by-inside state (suc n) some =
      let word = (mix_u64 state).0 in
      All-cons (λ r. r < bound) (word % bound) (drawn_by (mix_u64 state).1 bound n) (mod-lt word {m = bound} some) (by-inside (mix_u64 state).1 n some)

module _ (seed count bound : ℕ) (rs : List ℕ) (draws : AreDrawn seed count bound rs) where
  -- there are so many
  pub drawn-long : length rs ≡ count
  drawn-long = length_permutation (drawn_by seed bound count) rs draws.same ∙ by-length bound seed count

  -- below the bound
  pub drawn-inside : All (λ r. r < bound) rs
  drawn-inside = All-permutation (λ r. r < bound) (drawn_by seed bound count) rs draws.same (by-inside bound seed count draws.some)

module _ (kind : Kind) (tables : List Table) (run : Spec) (filters : List Filter) (by : Grouping) where
  -- all orders are counted as they are told
  pub all-counted : (x : Classed) → IsClassed kind tables run filters by x → AreCounted None kind tables run filters by x
  all-counted x are = record { ranks = []; counted = run; is_counted = refl; placed = x; are = are; is_told = refl }

  -- drawn orders are told by their ranks
  pub drawn-counted : (sample : WantedSample) (rs : List ℕ) (x told : Classed) → AreDrawn sample.seed (max 1 sample.orders) (ranks run) rs
      → IsClassed kind tables (drawn run rs) filters by x → told.orders ≡ x.orders → told.totals ≡ x.totals
      → told.rows.items ≡ map (with_rank rs) x.rows.items → AreCounted (Some sample) kind tables run filters by told
  drawn-counted sample rs x told draws are orders totals rows =
      record { ranks = rs; counted = drawn run rs; is_counted = (draws, refl); placed = x; are = are; is_told = (orders, totals, rows) }

  -- ---- the first rank of each class is one of the spec's

  module _ (rs : List ℕ) (some : 0 < ranks run) (each : All (λ r. r < ranks run) rs) where
    at-inside : (ls : List ℕ) → All (λ r. r < ranks run) ls → (place : ℕ) → get_or ls place 0 < ranks run
    at-inside [] all place = some
    at-inside (r ∷ ls) all zero = All-head (λ r. r < ranks run) r ls all
    at-inside (r ∷ ls) all (suc place) = at-inside ls (All-tail (λ r. r < ranks run) r ls all) place

    rows-inside : (rows : List ClassRow) → All (λ (row : ClassRow). row.least < ranks run) (map (with_rank rs) rows)
    rows-inside [] = All-nil (λ (row : ClassRow). row.least < ranks run)
    rows-inside (row ∷ rows) =
        All-cons (λ (r : ClassRow). r.least < ranks run) (with_rank rs row) (map (with_rank rs) rows) (at-inside rs each row.least) (rows-inside rows)

  pub counted-inside : (sample : Option WantedSample) (told : Classed) → AreCounted sample kind tables run filters by told
      → All (λ (row : ClassRow). row.least < ranks run) told.rows.items
  counted-inside sample told x = at sample x.is_counted x.is_told
    where
      at : (s : Option WantedSample) → IsCounted s run x.ranks x.counted → IsToldOf s x.ranks x.placed told → All (λ (row : ClassRow). row.least < ranks run) told.rows.items
      at None is same =
          subst (λ (c : Classed). All (λ (row : ClassRow). row.least < ranks run) c.rows.items) (sym same)
          (leasts-inside kind tables run filters by x.placed (subst (λ r. IsClassed kind tables r filters by x.placed) is x.are))
      at (Some s) is same =
          subst (All (λ (row : ClassRow). row.least < ranks run)) (sym same.2)
          (rows-inside x.ranks is.0.some (drawn-inside s.seed (max 1 s.orders) (ranks run) x.ranks is.0) x.placed.rows.items)

-- drawn orders are lines
pub lines-drawn : (run : Spec) (rs : List ℕ) → rs ≢ [] → (drawn run rs).lines ≢ []
lines-drawn run [] some none = some refl
lines-drawn run (r ∷ rs) some none = absurd (cc)

pub ranks-drawn : (seed count bound : ℕ) (rs : List ℕ) → 0 < count → AreDrawn seed count bound rs → rs ≢ []
ranks-drawn seed count bound rs some draws none =
    absurd (let long = sym (drawn-long seed count bound rs draws) ∙ ap (λ (l : List ℕ). length l) none in omega (arith, some, long))

-- ---- rows with their ranks

module _ (rs : List ℕ) where
  -- those before a place have theirs
  abbrev pub Placed : List ClassRow → ℕ → List ClassRow → Type 0
  Placed old place rows = rows ≡ map (with_rank rs) (take place old) ++ drop place old

  -- a list with a row at a place
  record IsSplit (old : List ClassRow) (place : ℕ) : Type 0 where
    pub row : ClassRow
    pub behind : drop place old ≡ row ∷ drop (suc place) old
    pub front : take (suc place) old ≡ take place old ++ row ∷ []

  split : (old : List ClassRow) (place : ℕ) → place < length old → IsSplit old place
  split [] place lt = absurd (omega (arith, lt))
  split (row ∷ rows) zero lt = record { row = row; behind = refl; front = refl }
  split (row ∷ rows) (suc place) lt =
      let rest = split rows place (omega (arith, lt)) in
      record { row = rest.row; behind = rest.behind; front = ap (λ l. row ∷ l) rest.front }

  seam : (xs : List ClassRow) (y : ClassRow) (ys : List ClassRow) → slice_get (xs ++ y ∷ ys) (length xs) ≡ Some y
  seam [] y ys = refl
  seam (x ∷ xs) y ys = seam xs y ys

  pub placed-none : (old : List ClassRow) → Placed old 0 old
  placed-none old = refl

  placed-suc : (old rows new : List ClassRow) (place : ℕ) → place < length old → Placed old place rows
      → ((row : ClassRow) → slice_get rows place ≡ Some row → new ≡ set rows place (with_rank rs row)) → Placed old (suc place) new
  placed-suc old rows new place lt is does =
      let cut = split old place lt in
      let front = map (with_rank rs) (take place old) in
      let long : length front ≡ place = length-map (take place old) (with_rank rs) ∙ length-take place old ∙ (let e : min place (length old) ≡ place = omega (arith, lt) in e) in
      let here : rows ≡ front ++ cut.row ∷ drop (suc place) old = is ∙ ap (λ l. front ++ l) cut.behind in
      let there : slice_get rows place ≡ Some cut.row =
      ap (λ l. slice_get l place) here ∙ ap (λ n. slice_get (front ++ cut.row ∷ drop (suc place) old) n) (sym long) ∙ seam front cut.row (drop (suc place) old) in
      does cut.row there ∙ ap (λ l. set l place (with_rank rs cut.row)) here
      ∙ ap (λ n. set (front ++ cut.row ∷ drop (suc place) old) n (with_rank rs cut.row)) (sym long)
      ∙ set-append_seam front cut.row (drop (suc place) old) (with_rank rs cut.row)
      ∙ sym (append_assoc front (with_rank rs cut.row ∷ []) (drop (suc place) old))
      ∙ ap (λ l. l ++ drop (suc place) old) (sym (ap (map (with_rank rs)) cut.front ∙ map-append (with_rank rs) (take place old) (cut.row ∷ [])))

  pub placed-next : (old rows new : List ClassRow) (place : ℕ) → place < length old → Placed old place rows
      → ((row : ClassRow) → slice_get rows place ≡ Some row → new ≡ set rows place (with_rank rs row)) → Placed old (place + 1) new
  placed-next old rows new place lt is does = subst (λ n. Placed old n new) (sym (add-one place)) (placed-suc old rows new place lt is does)

  pub placed-all : (old rows : List ClassRow) (place : ℕ) → length old ≤ place → Placed old place rows → rows ≡ map (with_rank rs) old
  placed-all old rows place le is =
      is ∙ ap (λ l. map (with_rank rs) l ++ drop place old) (take_all place old le) ∙ ap (λ l. map (with_rank rs) old ++ l) (drop_all place old le)
      ∙ append-nil (map (with_rank rs) old)
