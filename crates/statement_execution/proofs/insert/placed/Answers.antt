use Rattle.std.proofs.Common.{◌≡◌, ◌+◌, ◌<◌, ◌||◌, false, is_some, sym, ap, ◌∙◌, subst, drop, drop-cons, add-one, length, List, [], ◌∷◌, ◌++◌, Some, ℕ}
use Rattle.std.specs.FinMap.Entries.{find, put}
use Rattle.finite_maps.specs.Map.{get}
use Rattle.lock_modes.specs.Value.{value_cmp}
use Rattle.lock_modes.specs.declared.value.Value.{Value}
use Rattle.lock_modes.specs.Rows.{Write}
use Rattle.bound_statements.specs.Plan.{Tuple, key_at}
use Rattle.row_tables.specs.Layers.{sight}
use Rattle.statement_execution.proofs.PlaceLemmas.{Placing, placing-starts, placing-goes}
use Rattle.statement_execution.proofs.insert.placed.Goals as goal

pub loop-row-init : goal.loop-row-init
loop-row-init g c =
    let rows = sight c.args.session (g.S.Sight.layers c.args.rows) in
    let new = c.args.new.now in
    subst (λ (ws : List Write). Placing c.args.table c.args.key_column rows new new ws c.new-keys.result) (sym c.new-writes.ensures)
    (subst (λ (ks : List (Value × ℕ)). Placing c.args.table c.args.key_column rows new new [] ks) (sym c.new-keys.ensures)
    (placing-starts c.args.table c.args.key_column rows new))

-- the row goes in at its key, where none was
pub loop-row-preserved : goal.loop-row-preserved
loop-row-preserved g c =
    let t = c.args.table in
    let k = c.args.key_column in
    let i = c.loop-row.row-index in
    let row : Tuple = c.row-item.result in
    let new : List Tuple = c.args.new.now in
    let rows = sight c.args.session (g.S.Sight.layers c.args.rows) in
    let writes : List Write = c.loop-row.writes in
    let keys : List (Value × ℕ) = c.loop-row.keys in
    let more : List Tuple = drop (i + 1) new in
    let inside : i < length new = c.loop-row-test.true in
    let here : drop i new ≡ row ∷ more = drop-cons new i row inside ∙ (λ j. sym c.row-item.is j ∷ drop (sym (add-one i) j) new) in
    let key : c.in_ok-key.key ≡ key_at k row = c.in_ok-key.ensures ∙ c.in_column.ensures in
    let free : (is_some (get rows (t, key_at k row)) || is_some (find value_cmp (key_at k row) keys)) ≡ false =
    ap (λ (v : Value). is_some (get rows (t, v)) || is_some (find value_cmp v keys)) (sym key) ∙ sym c.is_taken.ensures ∙ c.if-is_taken.false in
    let before : Placing t k rows new (row ∷ more) writes keys = subst (λ (left : List Tuple). Placing t k rows new left writes keys) here c.loop-row.invariant
    in
    let after : Placing t k rows new more (writes ++ record { place = (t, key_at k row); left = Some row } ∷ []) (put value_cmp (key_at k row) 0 keys) =
    placing-goes t k rows new row more writes keys 0 before free in
    let written : c.push.new.self ≡ writes ++ record { place = (t, key_at k row); left = Some row } ∷ [] =
    c.in_ok-push.ensures.pushed ∙ ap (λ (w : Write). writes ++ w ∷ []) (c.new.ensures
    ∙ λ j. record { place = (t, (c.in_ok-fork.ensures ∙ key) j); left = Some (c.in_ok-fork-2.ensures j) }) in
    let put_in : c.in_ok-keys.keys ≡ put value_cmp (key_at k row) 0 keys = c.in_ok-keys.ensures ∙ ap (λ (v : Value). put value_cmp v 0 keys) key in
    subst (λ (ws : List Write). Placing t k rows new more ws c.in_ok-keys.keys) (sym written)
    (subst (λ (ks : List (Value × ℕ)). Placing t k rows new more (writes ++ record { place = (t, key_at k row); left = Some row } ∷ []) ks) (sym put_in) after)
