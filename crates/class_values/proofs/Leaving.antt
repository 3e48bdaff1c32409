-- What a class leaves is what its least order leaves.
use Rattle.std.specs.Prelude.{◌≡◌, refl, ℕ, suc, ◌+◌, List, [], ◌∷◌, ◌++◌, Option, Some, None, codes, drop, flat_map, map}
use Rattle.std.proofs.Common.{◌∙◌, ap, add-one}
use Rattle.std.specs.List.{join_by}
use Rattle.lock_modes.specs.declared.value.Value.{Value}
use Rattle.binding_model.specs.Tables.{key_column}
use Rattle.line_moments.specs.declared.shown.Left.{Left}
use Rattle.line_moments.specs.declared.shown.Standing.{Standing}
use Rattle.line_moments.specs.declared.shown.Standing.TheVariants.{HasEnded, IsOpen, HasFailed, StillWaits}
use Rattle.order_classes.specs.Shows.{rest_of, seen, seen_by, unnumbered}
use Rattle.shown_values.specs.Strings.{array_json}
use Rattle.shown_values.specs.Page.{entry_json, left_json, open_from, opens_by, table_json}
use Rattle.class_values.specs.Laws.{table_of}
use Rattle.class_texts.proofs.ShownLemmas.{drop-front, drop-rest}
use Rattle.class_values.specs.Class.{open_of, tables_from}

-- rows without their keys are the same
pieces-same : (rows : List (Value × List Value))
    → flat_map (λ (row : Value × List Value). codes "," ++ entry_json row) (unnumbered rows) ≡ flat_map (λ row. codes "," ++ entry_json row) rows
pieces-same [] = refl
pieces-same (row ∷ rows) = ap (λ pieces. codes "," ++ entry_json row ++ pieces) (pieces-same rows)

unnumbered-same : (rows : List (Value × List Value)) → join_by entry_json (codes ",") (unnumbered rows) ≡ join_by entry_json (codes ",") rows
unnumbered-same [] = refl
unnumbered-same (row ∷ rows) = ap (λ pieces. entry_json row ++ pieces) (pieces-same rows)

seen-same : (key : Option ℕ) (rows : List (Value × List Value)) → join_by entry_json (codes ",") (seen_by key rows) ≡ join_by entry_json (codes ",") rows
seen-same None rows = unnumbered-same rows
seen-same (Some key) rows = refl

-- so are tables
table-same : (l : Left) (rows : List (Value × List Value)) → rows ≡ seen l → table_json l.table.name rows ≡ left_json l
table-same l rows e =
    ap (λ seen_rows. table_json l.table.name seen_rows) e
    ∙ ap (λ entries. (codes "{\"table\":" ++ Rattle.shown_values.specs.Strings.string_json l.table.name) ++ (codes ",\"rows\":" ++ codes "[" ++ entries ++ codes "]") ++ codes "}")
    (seen-same (key_column l.table) l.rows)

-- behind the first one each has a comma in front of it
tables-behind : (all : List (List (Value × List Value))) (k : ℕ) (lefts : List Left) → drop (suc k) all ≡ map seen lefts
    → tables_from all (suc k) (map table_of lefts) ≡ flat_map (λ l. codes "," ++ left_json l) lefts
tables-behind all k [] e = refl
tables-behind all k (l ∷ lefts) e =
    let here = table-same l _ (drop-front all (suc k) (seen l) (map seen lefts) e) in
    let rest : tables_from all (suc k + 1) (map table_of lefts) ≡ flat_map (λ l. codes "," ++ left_json l) lefts =
    rw add-one (tables-behind all (suc k) lefts (drop-rest all (suc k) (seen l) (map seen lefts) e)) in
    λ i. (codes "," ++ here i) ++ rest i

tables-joined : (lefts : List Left) → tables_from (map seen lefts) 0 (map table_of lefts) ≡ join_by left_json (codes ",") lefts
tables-joined [] = refl
tables-joined (l ∷ lefts) =
    let here = table-same l (seen l) refl in
    let rest = tables-behind (map seen (l ∷ lefts)) 0 lefts refl in
    λ i. here i ++ rest i

pub tables-same : (lefts : List Left) → codes "[" ++ tables_from (map seen lefts) 0 (map table_of lefts) ++ codes "]" ≡ array_json left_json lefts
tables-same lefts = ap (λ tables. codes "[" ++ tables ++ codes "]") (tables-joined lefts)

-- so are sessions
opens-same : (session : ℕ) (standings : List Standing) → opens_by open_of session (map rest_of standings) ≡ open_from session standings
opens-same session [] = refl
opens-same session (HasEnded ∷ standings) = opens-same (session + 1) standings
opens-same session (IsOpen ∷ standings) = ap (λ others. (session, codes "\"in\"") ∷ others) (opens-same (session + 1) standings)
opens-same session (HasFailed ∷ standings) = ap (λ others. (session, codes "\"failed\"") ∷ others) (opens-same (session + 1) standings)
opens-same session (StillWaits want ∷ standings) = ap (λ others. (session, codes "\"waits\"") ∷ others) (opens-same (session + 1) standings)

pub sessions-same : (standings : List Standing) → opens_by open_of 0 (map rest_of standings) ≡ open_from 0 standings
sessions-same standings = opens-same 0 standings
