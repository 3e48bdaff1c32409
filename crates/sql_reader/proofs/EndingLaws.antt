-- What several statements may end with is read as it is spelled: WHERE and a condition, and NOWAIT.
use Rattle.std.proofs.Common.{◌≡◌, Bool, true, false, List, [], ◌∷◌, Option, refl, inl, inr, ◌⊎◌}
use Rattle.std.specs.Prelude.{codes, ◌||◌}
use Rattle.sql_grammar.specs.Tokens.{Token, Key, Word, Placed, is}
use Rattle.sql_grammar.specs.Tree.{Condition}
use Rattle.sql_grammar.specs.Grammar.{Marked, plain}
use Rattle.sql_grammar.specs.Grammar as grammar
use Rattle.sql_grammar.specs.Reading.{inside}
use Rattle.sql_grammar.specs.Reading as reading
use Rattle.sql_reader.proofs.Laws.{Stops, HasEnd, Agrees, Heads, choice, both, also, nothing, weaken}
use Rattle.sql_reader.proofs.ConditionLaws.{on_condition, where_law}
use Rattle.sql_reader.proofs.ListLaws.{at_last, maybe, ends_on, ends_stop}

-- ---- WHERE

abbrev pub on_where : Token → Bool
on_where t = on_condition t || is (Key (codes "where")) t

pub where_or : (on : Token → Bool) → ((t : Token) → on t ≡ false → is (Key (codes "where")) t ≡ false)
    → ((more : List Marked) → Stops on more → Stops on_condition more) → (ts : List Placed) → HasEnd ts
    → Agrees {I = Option Condition} (λ o. o) (grammar.optional grammar.where_part) on ts (reading.optional (Key (codes "where")) reading.where_part ts)
where_or on stops weaker ts ends =
    maybe (is (Key (codes "where"))) _ grammar.where_part on_condition on ts (λ c. refl) stops weaker ends (λ e. where_law ts ends)

pub where_last : (ts : List Placed) → HasEnd ts
    → Agrees {I = Option Condition} (λ o. o) (grammar.optional grammar.where_part) inside ts (reading.optional (Key (codes "where")) reading.where_part ts)
where_last ts ends = where_or inside (ends_on (is (Key (codes "where"))) refl refl) (ends_stop on_condition refl refl) ts ends

-- ---- NOWAIT

abbrev pub of_bool : Bool → Unit {0} ⊎ Unit {0}
of_bool true = inl tt
of_bool false = inr tt

abbrev pub to_bool : Unit {0} ⊎ Unit {0} → Bool
to_bool = both (λ u. true) (λ u. false)

abbrev on_nowait : Token → Bool
on_nowait t = is (Word (codes "nowait")) t

nowait_to : (i : Unit {0} ⊎ Unit {0}) → (to_bool i ≡ to_bool i)
    × (grammar.nowait (to_bool i) ≡ both (λ u. plain (Word (codes "nowait")) ∷ []) (λ u. []) i)
nowait_to (inl u) = (refl, refl)
nowait_to (inr u) = (refl, refl)

nowait_back : (b : Bool) → (to_bool (of_bool b) ≡ b) × (both (λ u. plain (Word (codes "nowait")) ∷ []) (λ u. []) (of_bool b) ≡ grammar.nowait b)
nowait_back true = (refl, refl)
nowait_back false = (refl, refl)

other_nowait : (u : Unit {0}) (more : List Marked) → Stops on_nowait more → Heads (is (Word (codes "nowait"))) false more
other_nowait u [] h = absurd h
other_nowait u (m ∷ ms) h = h

nowait_law : (ts : List Placed) → HasEnd ts → Agrees {I = Bool} (λ b. b) grammar.nowait on_nowait ts (reading.maybe_nowait ts)
nowait_law ts ends =
    also to_bool (both (λ u. plain (Word (codes "nowait")) ∷ []) (λ u. [])) (λ b. b) grammar.nowait on_nowait ts _ to_bool of_bool nowait_to nowait_back
    (choice (λ (u : Unit {0}). true) (λ (u : Unit {0}). false) (λ u. plain (Word (codes "nowait")) ∷ []) (λ u. []) on_nowait (is (Word (codes "nowait"))) ts _
    _ (λ u more stop. refl) other_nowait
    (λ e. at_last (Word (codes "nowait")) refl refl true on_nowait ts ends) (λ e. nothing false on_nowait ts ends))

pub nowait_last : (ts : List Placed) → HasEnd ts → Agrees {I = Bool} (λ b. b) grammar.nowait inside ts (reading.maybe_nowait ts)
nowait_last ts ends = weaken (λ b. b) grammar.nowait inside on_nowait ts _ (ends_stop on_nowait refl refl) (nowait_law ts ends)
