-- LOCK TABLE is read as it is spelled.
use Rattle.std.proofs.Common.{◌≡◌, Bool, true, false, List, [], ◌∷◌, ◌++◌, Option, Some, None, refl, inl, inr, ◌⊎◌, cond}
use Rattle.std.specs.Prelude.{codes}
use Rattle.sql_grammar.specs.Tokens.{Token, Key, Word, Placed, is}
use Rattle.sql_grammar.specs.Tree.{Name}
use Rattle.sql_grammar.specs.Tree.{Lock}
use Rattle.sql_grammar.specs.Grammar.{Marked, plain}
use Rattle.sql_grammar.specs.Grammar as grammar
use Rattle.sql_grammar.specs.Reading.{first, taken, inside}
use Rattle.sql_grammar.specs.Reading as reading
use Rattle.sql_reader.proofs.Laws.{Stops, HasEnd, Agrees, Heads, closed, stops_closed, then, mapped, choice, both, also, nothing}
use Rattle.sql_reader.proofs.TokenLaws.{one_of}
use Rattle.sql_reader.proofs.ListLaws.{past, past_name, at_last, maybe, ends_stop, before}
use Rattle.sql_reader.proofs.ListLaws.{two_words}
use Rattle.sql_grammar.specs.declared.statement.Strength.{Strength}
use Rattle.sql_grammar.specs.declared.statement.LockMode.{LockMode}
use Rattle.sql_grammar.specs.declared.statement.LockMode.TheVariants.{Access, RowLevel, Shared, Exclusively}
use Rattle.sql_grammar.specs.declared.statement.Strength.TheVariants as strengths
use Rattle.sql_reader.proofs.EndingLaws.{of_bool, to_bool, nowait_last}

strength_law : (on : Token → Bool) (ts : List Placed) → HasEnd ts
    → Agrees {I = Strength} (λ s. s) (λ s. plain (Word (grammar.strength s)) ∷ []) on ts (taken (reading.strength (first ts).token) ts)
strength_law on ts ends =
    one_of (λ s. Word (grammar.strength s)) ((Word (codes "share"), strengths.Share) ∷ (
      Word (codes "exclusive"),
      strengths.Exclusive,
    ) ∷ []) strengths.Share (refl, (refl, tt)) forth (λ s. refl) on ts ends
  where
    forth : (s : Strength) → reading.strength (Word (grammar.strength s)) ≡ Some s
    forth strengths.Share = refl
    forth strengths.Exclusive = refl

abbrev on_mode : Token → Bool
on_mode t = is (Word (codes "row")) t

abbrev Modes : Type 0
Modes = Strength ⊎ (Strength ⊎ ((Unit {0} ⊎ Unit {0}) ⊎ Unit {0}))

abbrev of_mode : LockMode → Modes
of_mode (Access s) = inl s
of_mode (RowLevel s) = inr (inl s)
of_mode (Shared b) = inr (inr (inl (of_bool b)))
of_mode Exclusively = inr (inr (inr tt))

abbrev tree_shared : Unit {0} ⊎ Unit {0} → LockMode
tree_shared = both (λ u. Shared true) (λ u. Shared false)

abbrev sp_shares : Unit {0} ⊎ Unit {0} → List Marked
sp_shares = both (λ u. plain (Word (codes "row")) ∷ plain (Word (codes "exclusive")) ∷ []) (λ u. [])

abbrev sp_share : Unit {0} ⊎ Unit {0} → List Marked
sp_share i = plain (Word (codes "share")) ∷ sp_shares i

abbrev tree_mode : Modes → LockMode
tree_mode = both (λ s. Access s) (both (λ s. RowLevel s) (both tree_shared (λ u. Exclusively)))

abbrev sp_mode : Modes → List Marked
sp_mode = both (λ s. grammar.lock_mode (Access s)) (both (λ s. grammar.lock_mode (RowLevel s)) (both sp_share (λ u. grammar.lock_mode Exclusively)))

mode_to : (i : Modes) → (tree_mode i ≡ tree_mode i) × (grammar.lock_mode (tree_mode i) ≡ sp_mode i)
mode_to (inl s) = (refl, refl)
mode_to (inr (inl s)) = (refl, refl)
mode_to (inr (inr (inl (inl u)))) = (refl, refl)
mode_to (inr (inr (inl (inr u)))) = (refl, refl)
mode_to (inr (inr (inr u))) = (refl, refl)

mode_back : (m : LockMode) → (tree_mode (of_mode m) ≡ m) × (sp_mode (of_mode m) ≡ grammar.lock_mode m)
mode_back (Access s) = (refl, refl)
mode_back (RowLevel s) = (refl, refl)
mode_back (Shared true) = (refl, refl)
mode_back (Shared false) = (refl, refl)
mode_back Exclusively = (refl, refl)

not_access : (on : Token → Bool) (b : Strength ⊎ ((Unit {0} ⊎ Unit {0}) ⊎ Unit {0})) (more : List Marked) → Stops on more
    → Heads (is (Word (codes "access"))) false (both (λ s. grammar.lock_mode (RowLevel s)) (both sp_share (λ u. grammar.lock_mode Exclusively)) b ++ more)
not_access on (inl s) more stop = refl
not_access on (inr (inl i)) more stop = refl
not_access on (inr (inr u)) more stop = refl

not_row : (on : Token → Bool) (b : (Unit {0} ⊎ Unit {0}) ⊎ Unit {0}) (more : List Marked) → Stops on more
    → Heads (is (Word (codes "row"))) false (both sp_share (λ u. grammar.lock_mode Exclusively) b ++ more)
not_row on (inl i) more stop = refl
not_row on (inr u) more stop = refl

other_row : (u : Unit {0}) (more : List Marked) → Stops on_mode more → Heads (is (Word (codes "row"))) false more
other_row u [] h = absurd h
other_row u (m ∷ ms) h = h

mode_law : (ts : List Placed) → HasEnd ts → Agrees {I = LockMode} (λ m. m) grammar.lock_mode on_mode ts (reading.lock_mode ts)
mode_law ts ends =
    also tree_mode sp_mode (λ m. m) grammar.lock_mode on_mode ts _ tree_mode of_mode mode_to mode_back
    (choice (λ s. Access s) (both (λ s. RowLevel s) (both tree_shared (λ (u : Unit {0}). Exclusively))) (λ s. grammar.lock_mode (Access s))
    (both (λ s. grammar.lock_mode (RowLevel s)) (both sp_share (λ (u : Unit {0}). grammar.lock_mode Exclusively))) on_mode
    (is (Word (codes "access"))) ts _ _ (λ s more stop. refl) (not_access on_mode)
    (λ e. past (Word (codes "access")) refl refl (λ s. Access s) (λ s. plain (Word (grammar.strength s)) ∷ []) on_mode ts _ strengths.Share ends
    (λ a ha. mapped (λ s. Access s) (λ s. s) (λ s. plain (Word (grammar.strength s)) ∷ []) on_mode a.1 _ (strength_law on_mode a.1 ha)))
    (λ e. choice (λ s. RowLevel s) (both tree_shared (λ (u : Unit {0}). Exclusively)) (λ s. grammar.lock_mode (RowLevel s))
    (both sp_share (λ (u : Unit {0}). grammar.lock_mode Exclusively)) on_mode (is (Word (codes "row"))) ts _ _ (λ s more stop. refl) (not_row on_mode)
    (λ e'. past (Word (codes "row")) refl refl (λ s. RowLevel s) (λ s. plain (Word (grammar.strength s)) ∷ []) on_mode ts _ strengths.Share ends
    (λ a ha. mapped (λ s. RowLevel s) (λ s. s) (λ s. plain (Word (grammar.strength s)) ∷ []) on_mode a.1 _ (strength_law on_mode a.1 ha)))
    (λ e'. choice tree_shared (λ (u : Unit {0}). Exclusively) sp_share (λ (u : Unit {0}). grammar.lock_mode Exclusively) on_mode
    (is (Word (codes "share"))) ts _ _ (λ i more stop. refl) (λ u more stop. refl)
    (λ e''. past (Word (codes "share")) refl refl tree_shared sp_shares on_mode ts _ (inr tt) ends
    (λ a ha. choice (λ (u : Unit {0}). Shared true) (λ (u : Unit {0}). Shared false)
    (λ u. plain (Word (codes "row")) ∷ plain (Word (codes "exclusive")) ∷ []) (λ (u : Unit {0}). []) on_mode (is (Word (codes "row"))) a.1 _ _
    (λ u more stop. refl) other_row
    (λ f. mapped (λ u. Shared true) (λ u. u) (λ u. plain (Word (codes "row")) ∷ plain (Word (codes "exclusive")) ∷ []) on_mode a.1 _
    (two_words (Word (codes "row")) (Word (codes "exclusive")) refl refl refl refl on_mode a.1 ha))
    (λ f. nothing (Shared false) on_mode a.1 ha)))
    (λ e''. at_last (Word (codes "exclusive")) refl refl Exclusively on_mode ts ends))))

mode_part_law : (ts : List Placed) → HasEnd ts → Agrees {I = LockMode} (λ m. m) grammar.mode_part closed ts (reading.mode_part ts)
mode_part_law ts ends =
    past (Key (codes "in")) refl refl (λ m. m) (λ m. grammar.lock_mode m ++ (plain (Word (codes "mode")) ∷ [])) closed ts _ Exclusively ends
    (λ i hi. before (Word (codes "mode")) refl refl (λ m. m) grammar.lock_mode on_mode closed i.1 _ refl (mode_law i.1 hi))

abbrev on_table : Token → Bool
on_table t = is (Key (codes "table")) t

abbrev sp_table_word : Bool → List Marked
sp_table_word b = cond b (plain (Key (codes "table")) ∷ []) []

table_to : (i : Unit {0} ⊎ Unit {0}) → (to_bool i ≡ to_bool i) × (sp_table_word (to_bool i) ≡ both (λ u. plain (Key (codes "table")) ∷ []) (λ u. []) i)
table_to (inl u) = (refl, refl)
table_to (inr u) = (refl, refl)

table_back : (b : Bool) → (to_bool (of_bool b) ≡ b) × (both (λ u. plain (Key (codes "table")) ∷ []) (λ u. []) (of_bool b) ≡ sp_table_word b)
table_back true = (refl, refl)
table_back false = (refl, refl)

other_table : (u : Unit {0}) (more : List Marked) → Stops on_table more → Heads (is (Key (codes "table"))) false more
other_table u [] h = absurd h
other_table u (m ∷ ms) h = h

table_word_law : (ts : List Placed) → HasEnd ts → Agrees {I = Bool} (λ b. b) sp_table_word on_table ts (reading.table_word ts)
table_word_law ts ends =
    also to_bool (both (λ u. plain (Key (codes "table")) ∷ []) (λ u. [])) (λ b. b) sp_table_word on_table ts _ to_bool of_bool table_to table_back
    (choice (λ (u : Unit {0}). true) (λ (u : Unit {0}). false) (λ u. plain (Key (codes "table")) ∷ []) (λ u. []) on_table (is (Key (codes "table"))) ts _
    _ (λ u more stop. refl) other_table
    (λ e. at_last (Key (codes "table")) refl refl true on_table ts ends) (λ e. nothing false on_table ts ends))

abbrev pub LockIndex : Type 0
LockIndex = Bool × (Name × (Option LockMode × Bool))

abbrev sp_lock : Name × (Option LockMode × Bool) → List Marked
sp_lock q = plain (Word q.0) ∷ (grammar.optional grammar.mode_part q.1.0 ++ grammar.nowait q.1.1)

abbrev on_in : Token → Bool
on_in t = is (Key (codes "in")) t

nowait_follows : (b : Bool) (more : List Marked) → Stops inside more → Stops on_in (grammar.nowait b ++ more)
nowait_follows true more stop = refl
nowait_follows false more stop = ends_stop on_in refl refl more stop

pub lock_law : (ts : List Placed) → HasEnd ts
    → Agrees {I = LockIndex} (λ p. Lock p.0 p.1.0 p.1.1.0 p.1.1.1) (λ p. grammar.statement (Lock p.0 p.1.0 p.1.1.0 p.1.1.1)) inside ts (reading.lock ts)
lock_law ts ends =
    past (Word (codes "lock")) refl refl (λ (p : LockIndex). Lock p.0 p.1.0 p.1.1.0 p.1.1.1) (λ p. sp_table_word p.0 ++ sp_lock p.1) inside ts _ (
      false,
      some,
    ) ends
    (λ l hl. then (λ b q. Lock b q.0 q.1.0 q.1.1) sp_table_word sp_lock on_table inside l.1 _ _ some (λ j more stop. refl) (table_word_law l.1 hl)
    (λ t ht. past_name (λ n (q : Option LockMode × Bool). Lock t.0 n q.0 q.1) (λ q. grammar.optional grammar.mode_part q.0
    ++ grammar.nowait q.1) inside t.1 _ some.1 ht.ended
    (λ n hn. then (λ m w. Lock t.0 n.0 m w) (grammar.optional grammar.mode_part) grammar.nowait on_in inside n.1 _ _ false nowait_follows
    (maybe (is (Key (codes "in"))) _ grammar.mode_part closed on_in n.1 (λ m. refl) (λ t e. e) (λ more stop. stops_closed on_in [] more stop) hn
    (λ e. mode_part_law n.1 hn))
    (λ m hm. mapped (λ w. Lock t.0 n.0 m.0 w) (λ w. w) grammar.nowait inside m.1 _ (nowait_last m.1 hm.ended)))))
  where
    some : Name × (Option LockMode × Bool)
    some = ([], (None, false))
