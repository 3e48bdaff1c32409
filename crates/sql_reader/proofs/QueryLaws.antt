-- SELECT is read as it is spelled.
use Rattle.std.proofs.Common.{◌≡◌, Bool, true, false, List, [], ◌∷◌, ◌++◌, Option, Some, None, Ok, refl, sym}
use Rattle.std.specs.Prelude.{codes, ◌||◌, is_some}
use Rattle.sql_grammar.specs.Tokens.{Token, Key, Word, Placed, is, is_last}
use Rattle.sql_grammar.specs.Tree.{Name, Chain, Last, Condition, Items, AllColumns, Columns, Aggregates, LockOf, lock_for, written_lock}
use Rattle.sql_grammar.specs.declared.statement.LockedFor.{LockedFor}
use Rattle.sql_grammar.specs.declared.statement.RowLock.{RowLock}
use Rattle.sql_grammar.specs.declared.statement.LockedFor.TheVariants as purpose
use Rattle.sql_grammar.specs.Tree.{Statement, Selects}
use Rattle.sql_grammar.specs.Grammar.{Marked, plain}
use Rattle.sql_grammar.specs.Grammar as grammar
use Rattle.sql_grammar.specs.Reading.{◌>>=◌, first, taken, the, inside}
use Rattle.sql_grammar.specs.Reading as reading
use Rattle.sql_reader.proofs.Laws.{Stops, HasEnd, Agrees, closed, stops_closed, then, then_by, mapped, also, nothing_by}
use Rattle.sql_reader.proofs.TokenLaws.{none_of, one_of}
use Rattle.sql_reader.proofs.ConditionLaws.{on_condition}
use Rattle.sql_reader.proofs.ItemLaws.{on_items, items_law}
use Rattle.sql_reader.proofs.ListLaws.{past, past_name, maybe, maybe_one_of, or_comma, commas, ends_on, ends_stop}
use Rattle.sql_grammar.specs.declared.statement.Direction.{Direction}
use Rattle.sql_grammar.specs.declared.statement.Direction.TheVariants.{Ascending, Descending}
use Rattle.sql_grammar.specs.declared.statement.SortKey.{SortKey}
use Rattle.sql_reader.proofs.EndingLaws.{on_where, where_or, nowait_last}

direction_token : Direction → Token
direction_token Ascending = Key (codes "asc")
direction_token Descending = Key (codes "desc")

abbrev on_sort : Token → Bool
on_sort t = is_some (reading.direction t)

abbrev SortIndex : Type 0
SortIndex = Name × Option Direction

direction-forth : (d : Direction) → reading.direction (direction_token d) ≡ Some d
unfolding direction_token
direction-forth Ascending = refl
direction-forth Descending = refl

direction_inside : (d : Direction) → is_last (direction_token d) ≡ false
unfolding direction_token
direction_inside Ascending = refl
direction_inside Descending = refl

direction_spelled : (o : Option Direction) → grammar.optional grammar.direction o ≡ grammar.optional (λ d. plain (direction_token d) ∷ []) o
unfolding direction_token
direction_spelled None = refl
direction_spelled (Some Ascending) = refl
direction_spelled (Some Descending) = refl

direction_law : (ts : List Placed) → HasEnd ts
    → Agrees {I = Option Direction} (λ o. o) (grammar.optional grammar.direction) on_sort ts (reading.maybe_direction ts)
unfolding direction_token
direction_law ts ends =
    also (λ (o : Option Direction). o) (grammar.optional (λ d. plain (direction_token d) ∷ [])) (λ o. o) (grammar.optional grammar.direction) on_sort ts _
    (λ o. o) (λ o. o) (λ o. (refl, direction_spelled o)) (λ o. (refl, sym (direction_spelled o)))
    (maybe_one_of direction_token ((Key (codes "asc"), Ascending) ∷ (Key (codes "desc"), Descending) ∷ []) Ascending (
      refl,
      (refl, tt),
    ) direction-forth direction_inside on_sort (λ t e. none_of (reading.direction t) e) ts ends)

abbrev tree_sort : SortIndex → SortKey
tree_sort p = record { column = p.0; direction = p.1 }

sort_law : (ts : List Placed) → HasEnd ts → Agrees {I = SortKey} (λ k. k) grammar.sort_key on_sort ts (reading.sort_key ts)
sort_law ts ends =
    also tree_sort (λ p. plain (Word p.0) ∷ grammar.optional grammar.direction p.1) (λ k. k) grammar.sort_key on_sort ts _ tree_sort (λ k. (
      k.column,
      k.direction,
    )) (λ p. (refl, refl)) (λ k. (refl, refl))
    (past_name (λ n d. tree_sort (n, d)) (grammar.optional grammar.direction) on_sort ts _ None ends
    (λ n hn. mapped (λ d. tree_sort (n.0, d)) (λ d. d) (grammar.optional grammar.direction) on_sort n.1 _ (direction_law n.1 hn)))

order_law : (ts : List Placed) → HasEnd ts → Agrees {I = Chain SortKey} (λ ks. ks) grammar.order_part (or_comma on_sort) ts (reading.order_part ts)
order_law ts ends =
    past (Key (codes "order")) refl refl (λ ks. ks) (λ ks. plain (Key (codes "by")) ∷ grammar.chain grammar.sort_key ks) (or_comma on_sort) ts _ some ends
    (λ o ho. past (Key (codes "by")) refl refl (λ ks. ks) (grammar.chain grammar.sort_key) (or_comma on_sort) o.1 _ some ho
    (λ b hb. commas grammar.sort_key on_sort reading.sort_key some_key (λ k. refl) refl sort_law b.1 hb))
  where
    some_key : SortKey
    some_key = record { column = []; direction = None }

    some : Chain SortKey
    some = Last some_key

abbrev tree_lock : LockedFor × Bool → RowLock
tree_lock p = record { locked_for = p.0; nowait = p.1 }

abbrev sp_row_lock : LockedFor × Bool → List Marked
sp_row_lock p = plain (Word (codes "for")) ∷ plain (Word (grammar.locked_for p.0)) ∷ grammar.nowait p.1

purpose_law : (ts : List Placed) → HasEnd ts
    → Agrees {I = LockedFor} (λ p. p) (λ p. plain (Word (grammar.locked_for p)) ∷ []) closed ts (taken (reading.locked_for (first ts).token) ts)
purpose_law ts ends =
    one_of (λ p. Word (grammar.locked_for p)) ((Word (codes "update"), purpose.Update) ∷ (Word (codes "share"), purpose.Share) ∷ []) purpose.Update
    (refl, (refl, tt)) forth (λ p. refl) closed ts ends
  where
    forth : (p : LockedFor) → reading.locked_for (Word (grammar.locked_for p)) ≡ Some p
    forth purpose.Update = refl
    forth purpose.Share = refl

row_lock_law : (ts : List Placed) → HasEnd ts → Agrees {I = RowLock} (λ l. l) grammar.row_lock inside ts (reading.row_lock ts)
row_lock_law ts ends =
    also tree_lock sp_row_lock (λ l. l) grammar.row_lock inside ts _ tree_lock (λ l. (l.locked_for, l.nowait)) (λ p. (refl, refl)) (λ l. (refl, refl))
    (past (Word (codes "for")) refl refl tree_lock (λ p. plain (Word (grammar.locked_for p.0)) ∷ grammar.nowait p.1) inside ts _ (purpose.Update, false) ends
    (λ f hf. then (λ p n. tree_lock (p, n)) (λ p. plain (Word (grammar.locked_for p)) ∷ []) grammar.nowait closed inside f.1 _ _ false
    (λ j more stop. stops_closed inside (grammar.nowait j) more stop) (purpose_law f.1 hf)
    (λ p hp. mapped (λ n. tree_lock (p.0, n)) (λ n. n) grammar.nowait inside p.1 _ (nowait_last p.1 hp.ended))))

maybe_lock_law : (ts : List Placed) → HasEnd ts
    → Agrees {I = Option RowLock} (λ o. o) (grammar.optional grammar.row_lock) inside ts (reading.optional (Word (codes "for")) reading.row_lock ts)
maybe_lock_law ts ends =
    maybe (is (Word (codes "for"))) _ grammar.row_lock inside inside ts (λ l. refl) (ends_on (is (Word (codes "for"))) refl refl) (λ more stop. stop) ends
    (λ e. row_lock_law ts ends)

-- the lock that these items may have, as it is spelled
abbrev pub sp_lock_of : Items → Option RowLock → List Marked
sp_lock_of i l = grammar.optional grammar.row_lock (written_lock i (lock_for i l))

-- the lock behind these items, where rows are shown
lock_end : {T : Type 0} (i : Items) (tree : LockOf i → T) (ts : List Placed) → HasEnd ts
    → Agrees {I = Option RowLock} (λ l. tree (lock_for i l)) (sp_lock_of i) inside ts (reading.lock_part i ts >>= λ l. Ok (tree (lock_for i l.0), l.1))
lock_end AllColumns tree ts ends = mapped tree (λ l. l) (grammar.optional grammar.row_lock) inside ts _ (maybe_lock_law ts ends)
lock_end (Columns ns) tree ts ends = mapped tree (λ l. l) (grammar.optional grammar.row_lock) inside ts _ (maybe_lock_law ts ends)
lock_end (Aggregates as') tree ts ends = nothing_by (tree tt) inside None ts ends

lock_follows : (on : Token → Bool) → on (Word (codes "for")) ≡ false → ((more : List Marked) → Stops inside more → Stops on more) → (l : Option RowLock)
    (more : List Marked) → Stops inside more → Stops on (grammar.optional grammar.row_lock l ++ more)
lock_follows on a ends None more stop = ends more stop
lock_follows on a ends (Some l) more stop = a

abbrev pub FromIndex : Type 0
FromIndex = Name × (Option Condition × (Option (Chain SortKey) × Option RowLock))

abbrev pub SelectIndex : Type 0
SelectIndex = Items × FromIndex

abbrev pub tree_select : Items → FromIndex → Statement
tree_select i p = Selects (record { items = i; table = p.0; where' = p.1.0; order = p.1.1.0; lock = lock_for i p.1.1.1 })

abbrev sp_end : Items → Option (Chain SortKey) × Option RowLock → List Marked
sp_end i q = grammar.optional grammar.order_part q.0 ++ sp_lock_of i q.1

abbrev sp_where : Items → Option Condition × (Option (Chain SortKey) × Option RowLock) → List Marked
sp_where i q = grammar.optional grammar.where_part q.0 ++ sp_end i q.1

abbrev sp_from : Items → FromIndex → List Marked
sp_from i p = plain (Key (codes "from")) ∷ plain (Word p.0) ∷ sp_where i p.1

abbrev on_order : Token → Bool
on_order t = or_comma on_sort t || is (Key (codes "order")) t

end_follows : (i : Items) (q : Option (Chain SortKey) × Option RowLock) (more : List Marked) → Stops inside more → Stops on_where (sp_end i q ++ more)
end_follows i (None, l) more stop = lock_follows on_where refl (ends_stop on_where refl refl) (written_lock i (lock_for i l)) more stop
end_follows i (Some ks, l) more stop = refl

or-second : (a b : Bool) → (a || b) ≡ false → b ≡ false
or-second false b e = e
or-second true b e = absurd cc

or-first : (a b : Bool) → (a || b) ≡ false → a ≡ false
or-first false b e = refl
or-first true b e = absurd cc

pub select_law : (ts : List Placed) → HasEnd ts
    → Agrees {I = SelectIndex} (λ p. tree_select p.0 p.1) (λ p. grammar.statement (tree_select p.0 p.1)) inside ts (reading.select ts)
select_law ts ends =
    past (Key (codes "select")) refl refl (λ (p : SelectIndex). tree_select p.0 p.1) (λ p. grammar.items p.0 ++ sp_from p.0 p.1) inside ts _ (AllColumns, some) ends
    (λ a ha. then_by tree_select grammar.items sp_from on_items inside a.1 _ _ some (λ i j more stop. refl) (items_law a.1 ha)
    (λ i hi. past (Key (codes "from")) refl refl (λ p. tree_select i.0 p) (λ p. plain (Word p.0) ∷ sp_where i.0 p.1) inside i.1 _ some hi.ended
    (λ b hb. past_name (λ n q. tree_select i.0 (n, q)) (sp_where i.0) inside b.1 _ some.1 hb
    (λ n hn. then (λ c q. tree_select i.0 (n.0, (c, q))) (grammar.optional grammar.where_part) (sp_end i.0) on_where inside n.1 _ _ some.1.1
    (end_follows i.0) (where_or on_where (λ t e. or-second (on_condition t) _ e) stops_weaker_where n.1 hn)
    (λ w hw. then (λ o l. tree_select i.0 (n.0, (w.0, (o, l)))) (grammar.optional grammar.order_part) (sp_lock_of i.0) on_order inside w.1 _ _ None
    (λ l more stop. lock_follows on_order refl (ends_stop on_order refl refl) (written_lock i.0 (lock_for i.0 l)) more stop)
    (maybe (is (Key (codes "order"))) _ grammar.order_part (or_comma on_sort) on_order w.1 (λ ks. refl) (λ t e. or-second (or_comma on_sort t) _ e)
    stops_weaker_order hw.ended (λ e. order_law w.1 hw.ended))
    (λ o ho. lock_end i.0 (λ l. Selects (record { items = i.0; table = n.0; where' = w.0; order = o.0; lock = l })) o.1 ho.ended))))))
  where
    some : FromIndex
    some = ([], (None, (None, None)))

    stops_weaker_where : (more : List Marked) → Stops on_where more → Stops on_condition more
    stops_weaker_where [] h = h
    stops_weaker_where (m ∷ ms) h = or-first (on_condition m.token) _ h

    stops_weaker_order : (more : List Marked) → Stops on_order more → Stops (or_comma on_sort) more
    stops_weaker_order [] h = h
    stops_weaker_order (m ∷ ms) h = or-first (or_comma on_sort m.token) _ h
