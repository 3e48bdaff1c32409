-- UPDATE and DELETE are read as they are spelled.
use Rattle.std.proofs.Common.{◌≡◌, Bool, false, List, [], ◌∷◌, ◌++◌, Option, Some, None, refl}
use Rattle.std.specs.Prelude.{codes}
use Rattle.sql_grammar.specs.Tokens.{Token, Key, Word, Sign, End, Placed}
use Rattle.sql_grammar.specs.Tree.{Name, Chain, Last, Sum, Condition, Assignment}
use Rattle.sql_grammar.specs.Tree.{Update, Delete}
use Rattle.sql_grammar.specs.Grammar.{Marked, plain}
use Rattle.sql_grammar.specs.Grammar as grammar
use Rattle.sql_grammar.specs.Reading.{inside}
use Rattle.sql_grammar.specs.Reading as reading
use Rattle.sql_reader.proofs.Laws.{Stops, HasEnd, Agrees, then, mapped, also}
use Rattle.sql_reader.proofs.ExpressionLaws.{on_sum, sum_law, some_sum}
use Rattle.sql_reader.proofs.ListLaws.{past, past_name, or_comma, commas, ends_stop}
use Rattle.sql_reader.proofs.EndingLaws.{where_last}

abbrev AssignmentIndex : Type 0
AssignmentIndex = Name × Sum

abbrev tree_assignment : AssignmentIndex → Assignment
tree_assignment p = record { column = p.0; value = p.1 }

assignment_law : (ts : List Placed) → HasEnd ts → Agrees {I = Assignment} (λ a. a) grammar.assignment on_sum ts (reading.assignment ts)
assignment_law ts ends =
    also tree_assignment (λ p. plain (Word p.0) ∷ plain (Sign (codes "=")) ∷ grammar.sum p.1) (λ a. a) grammar.assignment on_sum ts _ tree_assignment
    (λ a. (a.column, a.value)) (λ p. (refl, refl)) (λ a. (refl, refl))
    (past_name (λ n v. tree_assignment (n, v)) (λ v. plain (Sign (codes "=")) ∷ grammar.sum v) on_sum ts _ some_sum ends
    (λ n hn. past (Sign (codes "=")) refl refl (λ v. tree_assignment (n.0, v)) grammar.sum on_sum n.1 _ some_sum hn
    (λ e he. mapped (λ v. tree_assignment (n.0, v)) (λ v. v) grammar.sum on_sum e.1 _ (sum_law e.1 he))))

abbrev pub UpdateIndex : Type 0
UpdateIndex = Name × (Chain Assignment × Option Condition)

abbrev sp_sets : Chain Assignment × Option Condition → List Marked
sp_sets q = grammar.chain grammar.assignment q.0 ++ grammar.optional grammar.where_part q.1

where_follows : (on : Token → Bool) → on (Sign (codes ";")) ≡ false → on End ≡ false → on (Key (codes "where")) ≡ false
    → (o : Option Condition) (more : List Marked) → Stops inside more → Stops on (grammar.optional grammar.where_part o ++ more)
where_follows on a b c None more stop = ends_stop on a b more stop
where_follows on a b c (Some w) more stop = c

pub update_law : (ts : List Placed) → HasEnd ts
    → Agrees {I = UpdateIndex} (λ p. Update p.0 p.1.0 p.1.1) (λ p. grammar.statement (Update p.0 p.1.0 p.1.1)) inside ts (reading.update ts)
update_law ts ends =
    past (Word (codes "update")) refl refl (λ (p : UpdateIndex). Update p.0 p.1.0 p.1.1) (λ p. plain (Word p.0) ∷ plain (Key (codes "set")) ∷ sp_sets p.1)
    inside ts _ ([], some) ends
    (λ a ha. past_name (λ n (q : Chain Assignment × Option Condition). Update n q.0 q.1) (λ q. plain (Key (codes "set")) ∷ sp_sets q) inside a.1 _ some ha
    (λ n hn. past (Key (codes "set")) refl refl (λ (q : Chain Assignment × Option Condition). Update n.0 q.0 q.1) sp_sets inside n.1 _ some hn
    (λ s hs. then (λ as' w. Update n.0 as' w) (grammar.chain grammar.assignment) (grammar.optional grammar.where_part) (or_comma on_sum) inside s.1 _ _
    None (where_follows (or_comma on_sum) refl refl refl)
    (commas grammar.assignment on_sum reading.assignment some_assignment (λ a. refl) refl assignment_law s.1 hs)
    (λ x h. mapped (λ w. Update n.0 x.0 w) (λ w. w) (grammar.optional grammar.where_part) inside x.1 _ (where_last x.1 h.ended)))))
  where
    some_assignment : Assignment
    some_assignment = record { column = []; value = some_sum }

    some : Chain Assignment × Option Condition
    some = (Last some_assignment, None)

abbrev pub DeleteIndex : Type 0
DeleteIndex = Name × Option Condition

pub delete_law : (ts : List Placed) → HasEnd ts
    → Agrees {I = DeleteIndex} (λ p. Delete p.0 p.1) (λ p. grammar.statement (Delete p.0 p.1)) inside ts (reading.delete ts)
delete_law ts ends =
    past (Word (codes "delete")) refl refl (λ (p : DeleteIndex). Delete p.0 p.1)
    (λ p. plain (Key (codes "from")) ∷ plain (Word p.0) ∷ grammar.optional grammar.where_part p.1) inside ts _ ([], None) ends
    (λ a ha. past (Key (codes "from")) refl refl (λ (p : DeleteIndex). Delete p.0 p.1) (λ p. plain (Word p.0) ∷ grammar.optional grammar.where_part p.1)
    inside a.1 _ ([], None) ha
    (λ b hb. past_name (λ n w. Delete n w) (grammar.optional grammar.where_part) inside b.1 _ None hb
    (λ n hn. mapped (λ w. Delete n.0 w) (λ w. w) (grammar.optional grammar.where_part) inside n.1 _ (where_last n.1 hn))))
