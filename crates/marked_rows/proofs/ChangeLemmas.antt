-- What is kept, and seen, behind each call.
use Rattle.std.proofs.Common.{◌≡◌, ◌==◌, Bool, cond, sym, ap, ◌∙◌, subst, ℕ, zero, suc, ◌+◌, ◌<◌, ◌≤◌, ◌⊎◌, inl, inr, false, true, arith, refl}
use Rattle.std.proofs.Common.{List, [], ◌∷◌, ◌++◌, length, get_or, set, slice_get, take, Option, Some, None, Result, Ok, Err, OnOk, OnErr, length-append}
use Rattle.std.specs.Option.{option_to_list}
use Rattle.std.specs.declared.alloc.AllocError.{AllocError}
use Rattle.std.proofs.lemmas.List.Elements.{All-nil}
use Rattle.std.proofs.lemmas.Option.{get_or_from_slice_get}
use Rattle.finite_maps.specs.Map.{get}
use Rattle.lock_modes.specs.RowPlace.{RowPlace}
use Rattle.lock_modes.specs.Rows.{Tuple}
use Rattle.row_tables.specs.Layers.{IsOnlyWriterAt, Layers, no_rows, sight, wrote}
use Rattle.marked_lists.specs.Versions.{Versions}
use Rattle.marked_rows.specs.Cells.{MarkedRows, blank, layers_at, layers_of, row_with, seen, seen_over}
use Rattle.marked_rows.specs.Kept.{Forgets, HasBlanks, HasRows, IsInside, IsKept, IsLeft, IsNumber, blanks, ended_in, ended_layers, noted, seen_rows}
use Rattle.marked_rows.specs.Shown.{shown_of}
use Rattle.marked_rows.specs.Places.{Index, IsAbsent, IsBefore, IsGrown, IsPlaceOf}
use Rattle.marked_rows.specs.declared.cell.Cell.{Cell}
use Rattle.marked_rows.specs.declared.cell.Ending.{Ending}
use Rattle.marked_rows.specs.declared.cell.Left.{Left}
use Rattle.marked_rows.specs.declared.cell.Sight.{Sight}
use Rattle.marked_rows.specs.declared.cell.Sight.TheVariants.{Committed, Own}
use Rattle.marked_rows.specs.declared.cell.Written.{Written}
use Rattle.marked_rows.proofs.CellLemmas.{committed-absent, committed-there, ended-cells, sight-absent, sight-there, with_left, written-cells}
use Rattle.marked_rows.proofs.PlaceLemmas.{absent-behind, grown-apart, place-before}
use Rattle.marked_rows.proofs.RowLemmas.{marks-more, more-rows, place-more, same-cells}
use Rattle.marked_rows.proofs.EndingLemmas.{ended-each}
use Rattle.marked_rows.proofs.KeptLemmas.{all-get, blank-more, kept-all, kept-blank, kept-ended, kept-more, kept-next, kept-noted, kept-written, marks-next}

-- ---- nothing yet

module _ (index : Index) (rows : Versions Tuple) (cells : Versions Cell) (written : Versions Written) (are : index ≡ record { entries = []; next = 0 })
    (new : cells ≡ record { list = []; marked = [] }) (none : rows ≡ record { list = []; marked = [] })
    (nothing : written ≡ record { list = []; marked = [] }) where
  pub new-kept : IsKept index rows cells written
  new-kept =
      subst (λ x. IsKept x rows cells written) (sym are) (subst (λ rs. IsKept (record { entries = []; next = 0 }) rs cells written) (sym none)
      (subst (λ cs. IsKept (record { entries = []; next = 0 }) (record { list = []; marked = [] }) cs written) (sym new)
      (subst (λ ws. IsKept (record { entries = []; next = 0 }) (record { list = []; marked = [] }) (record { list = []; marked = [] }) ws) (sym nothing) (record {
        apart = tt;
        before = All-nil (IsBefore 0);
        now = record {
          few = omega arith;
          there = All-nil (HasRows []);
          inside = All-nil (IsInside []);
          complete = λ j t is. (let contra : false ≡ true = is in cc);
        };
        marked = tt;
      }))))

  pub new-seen : seen_rows index rows cells ≡ record { now = no_rows; marked = [] }
  unfolding layers_of
  new-seen =
      ap (λ x. seen_rows x rows cells) are ∙ ap (λ (rs : Versions Tuple). seen_rows (record { entries = []; next = 0 }) rs cells) none
      ∙ ap (λ (cs : Versions Cell). seen_rows (record { entries = []; next = 0 }) (record { list = []; marked = [] }) cs) new

-- ---- places and cells that become more

module _ (index : Index) (rows : Versions Tuple) (cells : Versions Cell) (written : Versions Written) (kept : IsKept index rows cells written) where
  -- one place more
  pub grown-kept : (p : RowPlace) (index' : Index) → IsGrown p index index' → IsKept index' rows cells written
  grown-kept p index' (inl same) = subst (λ x. IsKept x rows cells written) (sym same) kept
  grown-kept p index' (inr more) =
      let both = grown-apart p index index' kept.apart kept.before more in
      let le : index.next ≤ index'.next = (let n = more.next in omega (arith, n)) in
      record {
        apart = both.0;
        before = both.1;
        now = kept-next index.next rows.list cells.list written.list kept.now index'.next le;
        marked = marks-next index.next index'.next le rows.marked cells.marked written.marked kept.marked;
      }

  pub grown-seen : (p : RowPlace) (index' : Index) → IsGrown p index index' → seen_rows index' rows cells ≡ seen_rows index rows cells
  grown-seen p index' (inl same) = ap (λ x. seen_rows x rows cells) same
  grown-seen p index' (inr more) =
      let m = more.more in
      let absent : IsAbsent p m.back = absent-behind p index.next m.front m.back (subst (IsAbsent p) m.was more.absent) in
      ap (λ es. let x : MarkedRows = record { now = layers_of rows.list cells.list es; marked = layers_at es rows.marked cells.marked } in x) m.is
      ∙ ap (λ l. let x : MarkedRows = record { now = l; marked = layers_at (m.front ++ (p, index.next) ∷ m.back) rows.marked cells.marked } in x)
      (place-more p index.next m.front m.back absent rows.list cells.list kept.now.few)
      ∙ ap (λ ls. let x : MarkedRows = record { now = layers_of rows.list cells.list (m.front ++ m.back); marked = ls } in x)
      (marks-more p index.next m.front m.back absent rows.marked cells.marked written.marked kept.marked)
      ∙ ap (λ es. let x : MarkedRows = record { now = layers_of rows.list cells.list es; marked = layers_at es rows.marked cells.marked } in x) (sym m.was)

  -- blank cells more, up to one that is of a place
  pub blank-kept : (n : ℕ) (cells' : Versions Cell) → n < index.next → HasBlanks n cells cells' → IsKept index rows cells' written
  blank-kept n cells' lt has =
      subst (λ cs. IsKept index rows cs written) (sym has.is) (record {
        apart = kept.apart;
        before = kept.before;
        now = kept-blank index.next rows.list cells.list written.list kept.now has.count index.next room;
        marked = kept.marked;
      })
    where
      blanks-length : (k : ℕ) → length (blanks k) ≡ k
      blanks-length zero = refl
      blanks-length (suc k) = ap suc (blanks-length k)

      long : length cells'.list ≡ length cells.list + has.count
      long =
          ap (λ (cs : Versions Cell). length cs.list) has.is ∙ length-append cells.list (blanks has.count)
          ∙ ap (λ k. length cells.list + k) (blanks-length has.count)

      room : length cells.list + has.count ≤ index.next
      room = at has.few
        where
          at : (length cells'.list ≤ length cells.list) ⊎ (length cells'.list ≤ n + 1) → length cells.list + has.count ≤ index.next
          at (inl le) = let f = kept.now.few in let l = long in omega (arith, le, l, f)
          at (inr le) = let l = long in omega (arith, le, l, lt)

  pub blank-seen : (n : ℕ) (cells' : Versions Cell) → HasBlanks n cells cells' → seen_rows index rows cells' ≡ seen_rows index rows cells
  blank-seen n cells' has =
      ap (seen_rows index rows) has.is
      ∙ ap (λ l. let x : MarkedRows = record { now = l; marked = layers_at index.entries rows.marked cells.marked } in x)
      (same-cells rows.list cells.list (cells.list ++ blanks has.count) index.entries (blank-more cells.list has.count))

  -- the cell of a place is numbered below the next one
  pub place-numbered : (p : RowPlace) (n : ℕ) → IsPlaceOf index.entries p n → n < index.next
  place-numbered p n is = place-before index.next index.entries p n kept.before is

-- behind the way to a cell all is kept, and seen, as it was
module _ (index : Index) (rows : Versions Tuple) (cells : Versions Cell) (written : Versions Written) (kept : IsKept index rows cells written)
    (p : RowPlace) (index' : Index) (grown : IsGrown p index index') (n : ℕ) (known : IsPlaceOf index'.entries p n) (cells' : Versions Cell)
    (has : HasBlanks n cells cells') where
  pub reached-kept : IsKept index' rows cells' written
  reached-kept =
      let more = grown-kept index rows cells written kept p index' grown in
      blank-kept index' rows cells written more n cells' (place-numbered index' rows cells written more p n known) has

  pub reached-seen : seen_rows index' rows cells' ≡ seen_rows index rows cells
  reached-seen =
      let more = grown-kept index rows cells written kept p index' grown in
      blank-seen index' rows cells written more n cells' has ∙ grown-seen index rows cells written kept p index' grown

-- ---- what is read

module _ (index : Index) (rows : Versions Tuple) (cells : Versions Cell) (written : Versions Written) (kept : IsKept index rows cells written) where
  abbrev Seen : Layers
  Seen = layers_of rows.list cells.list index.entries

  -- no row lies at a place that is not there
  pub read-none : (s : ℕ) (p : RowPlace) → IsAbsent p index.entries → get (sight s Seen) p ≡ None
  read-none s p absent = sight-absent rows.list cells.list index.entries s p absent

  -- the row that a place's cell shows is seen there
  pub read-cell : (s : ℕ) (p : RowPlace) (n : ℕ) → IsPlaceOf index.entries p n
      → get (sight s Seen) p ≡ row_with rows.list (seen s (get_or cells.list n blank))
  read-cell s p n is = sight-there rows.list cells.list index.entries p n s kept.apart is

  -- no row is committed at a place that is not there
  pub committed-none : (p : RowPlace) → IsAbsent p index.entries → get Seen.committed p ≡ None
  committed-none p absent = committed-absent rows.list cells.list index.entries p absent

  -- the committed row of a place's cell lies there
  pub committed-cell : (p : RowPlace) (n : ℕ) → IsPlaceOf index.entries p n
      → get Seen.committed p ≡ row_with rows.list (get_or cells.list n blank).committed
  committed-cell p n is = committed-there rows.list cells.list index.entries p n kept.apart is

  seen-number : (s : ℕ) (c : Cell) → HasRows rows.list c → IsNumber rows.list (seen s c)
  seen-number s c has = at c.left has.1
    where
      either : (b : Bool) (mine : Option ℕ) → IsNumber rows.list mine → IsNumber rows.list (cond b mine c.committed)
      either true mine there = there
      either false mine there = has.0

      at : (left : Option Left) → IsLeft rows.list left → IsNumber rows.list (seen_over s c.committed left)
      at None there = has.0
      at (Some left) there = either (left.session == s) left.row there

  pub shown-number : (which : Sight) (c : Cell) → HasRows rows.list c → IsNumber rows.list (shown_of which c)
  shown-number (Own s) c has = seen-number s c has
  shown-number Committed c has = has.0

  -- its number is that of a row
  pub read-number : (s n number : ℕ) → seen s (get_or cells.list n blank) ≡ Some number → number < length rows.list
  read-number s n number is =
      subst (IsNumber rows.list) is (seen-number s (get_or cells.list n blank) (all-get rows.list cells.list n kept.now.there))

  -- ---- a write

  abbrev grown : Option Tuple → Versions Tuple
  grown row = record rows { list = rows.list ++ option_to_list row }

  abbrev noted_at : Cell → ℕ → ℕ → Versions Written
  noted_at c s n = record written { list = noted written.list c s n }

  abbrev set_at : ℕ → Cell → Versions Cell
  set_at n c = record cells { list = set cells.list n c }

  same-seen : (row : Option Tuple) → seen_rows index (grown row) cells ≡ seen_rows index rows cells
  same-seen row =
      ap (λ now. let x : MarkedRows = record { now = now; marked = layers_at index.entries rows.marked cells.marked } in x)
      (more-rows rows.list (option_to_list row) cells.list index.entries kept.now.there)

  pub more-kept : (row : Option Tuple) (rows' : Versions Tuple) → rows' ≡ grown row → IsKept index rows' cells written
  more-kept row rows' is =
      subst (λ rs. IsKept index rs cells written) (sym is) (record {
        apart = kept.apart;
        before = kept.before;
        now = kept-more index.next rows.list cells.list written.list kept.now (option_to_list row);
        marked = kept.marked;
      })

  -- a row that is not written yet is of no matter
  pub more-seen : (row : Option Tuple) (rows' : Versions Tuple) → rows' ≡ grown row → seen_rows index rows' cells ≡ seen_rows index rows cells
  more-seen row rows' is = ap (λ rs. seen_rows index rs cells) is ∙ same-seen row

  module _ (s n : ℕ) (p : RowPlace) (c : Cell) (row : Option Tuple) (number : Option ℕ) (is : IsPlaceOf index.entries p n) (inside : n < length cells.list)
      (there : slice_get cells.list n ≡ Some c) where
    at-place : get_or cells.list n blank ≡ c
    at-place = get_or_from_slice_get cells.list n c blank there

    pub write-kept : (rows' : Versions Tuple) (cells' : Versions Cell) (written' : Versions Written) (result : Result (Unit {0}) AllocError)
        → rows' ≡ grown row → IsNumber rows'.list number → written' ≡ noted_at c s n
        → OnOk result (cells' ≡ set_at n (with_left c s number)) → OnErr result (cells' ≡ cells) → IsKept index rows' cells' written'
    write-kept rows' cells' written' (Ok u) grows has notes sets same =
        subst (λ rs. IsKept index rs cells' written') (sym grows) (subst (λ ws. IsKept index (grown row) cells' ws) (sym notes)
        (subst (λ cs. IsKept index (grown row) cs (noted_at c s n)) (sym sets)
        (subst (λ x. IsKept index (grown row) (set_at n (with_left x s number)) (noted_at x s n)) at-place (record {
          apart = kept.apart;
          before = kept.before;
          now = kept-written index.next rows.list cells.list written.list kept.now (option_to_list row) s n number inside
              (subst (λ (rs : Versions Tuple). IsNumber rs.list number) grows has);
          marked = kept.marked;
        }))))
    write-kept rows' cells' written' (Err e) grows has notes sets same =
        subst (λ rs. IsKept index rs cells' written') (sym grows) (subst (λ ws. IsKept index (grown row) cells' ws) (sym notes)
        (subst (λ cs. IsKept index (grown row) cs (noted_at c s n)) (sym same) (record {
          apart = kept.apart;
          before = kept.before;
          now = kept-noted index.next rows.list cells.list written.list kept.now (option_to_list row) c s n inside;
          marked = kept.marked;
        })))

    pub write-seen : (rows' : Versions Tuple) (cells' : Versions Cell) (result : Result (Unit {0}) AllocError)
        → rows' ≡ grown row → row_with rows'.list number ≡ row → IsOnlyWriterAt s p Seen
        → OnOk result (cells' ≡ set_at n (with_left c s number))
        → OnOk result (seen_rows index rows' cells' ≡ record (seen_rows index rows cells) { now = wrote s p row Seen })
    write-seen rows' cells' (Err e) grows has only sets = tt
    write-seen rows' cells' (Ok u) grows has only sets =
        ap (λ rs. seen_rows index rs cells') grows ∙ ap (seen_rows index (grown row)) sets
        ∙ ap (λ now. let x : MarkedRows = record { now = now; marked = layers_at index.entries rows.marked cells.marked } in x) made
      where
        more : List Tuple
        more = rows.list ++ option_to_list row

        same : layers_of more cells.list index.entries ≡ Seen
        same = more-rows rows.list (option_to_list row) cells.list index.entries kept.now.there

        made : layers_of more (set cells.list n (with_left c s number)) index.entries ≡ wrote s p row Seen
        made =
            ap (λ x. layers_of more (set cells.list n (with_left x s number)) index.entries) (sym at-place)
            ∙ written-cells more cells.list index.entries p n s number kept.apart inside is (subst (λ l. IsOnlyWriterAt s p l) (sym same) only)
            ∙ ap (λ r. wrote s p r (layers_of more cells.list index.entries)) (subst (λ (rs : Versions Tuple). row_with rs.list number ≡ row) grows has)
            ∙ ap (wrote s p row) same

    pub refused-seen : (rows' : Versions Tuple) (cells' : Versions Cell) (result : Result (Unit {0}) AllocError)
        → rows' ≡ grown row → OnErr result (cells' ≡ cells) → OnErr result (seen_rows index rows' cells' ≡ seen_rows index rows cells)
    refused-seen rows' cells' (Ok u) grows same = tt
    refused-seen rows' cells' (Err e) grows same = ap (seen_rows index rows') same ∙ more-seen row rows' grows

  -- ---- the end of a session's writes

  abbrev ended_to : ℕ → Ending → List Written → Versions Cell
  ended_to s e ws = record cells { list = ended_in s e ws cells.list }

  kept-to : (s : ℕ) (e : Ending) (ws : List Written) → IsKept index rows (ended_to s e ws) written
  kept-to s e ws = record {
    apart = kept.apart;
    before = kept.before;
    now = kept-ended index.next rows.list cells.list written.list kept.now s e ws;
    marked = kept.marked;
  }

  pub end-kept : (cells' : Versions Cell) (written' : Versions Written) (s : ℕ) (e : Ending) → cells' ≡ ended_to s e written.list → Forgets s written written'
      → IsKept index rows cells' written'
  end-kept cells' written' s e ends (inl same) =
      subst (λ ws. IsKept index rows cells' ws) (sym same) (subst (λ cs. IsKept index rows cs written) (sym ends) (kept-to s e written.list))
  end-kept cells' written' s e ends (inr all) =
      subst (λ ws. IsKept index rows cells' ws) (sym all.1) (subst (λ cs. IsKept index rows cs (record written { list = [] })) (sym ends) (record {
        apart = kept.apart;
        before = kept.before;
        now = kept-all index.next rows.list cells.list written.list kept.now s e all.0;
        marked = kept.marked;
      }))

  -- what has ended in part is kept
  pub part-kept : (cells' : Versions Cell) (s : ℕ) (e : Ending) (ws : List Written) → (n : ℕ) × (cells' ≡ ended_to s e (take n ws))
      → IsKept index rows cells' written
  part-kept cells' s e ws some = subst (λ cs. IsKept index rows cs written) (sym some.1) (kept-to s e (take some.0 ws))

  pub end-seen : (cells' : Versions Cell) (s : ℕ) (e : Ending) → cells' ≡ ended_to s e written.list
      → seen_rows index rows cells' ≡ record (seen_rows index rows cells) { now = ended_layers e s Seen }
  end-seen cells' s e ends =
      ap (seen_rows index rows) ends
      ∙ ap (λ now. let x : MarkedRows = record { now = now; marked = layers_at index.entries rows.marked cells.marked } in x)
      (ended-cells rows.list e cells.list (ended_in s e written.list cells.list) s (ended-each s e written.list cells.list kept.now.complete) index.entries kept.apart)
