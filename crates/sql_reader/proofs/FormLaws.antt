-- A statement is read as it is spelled.
use Rattle.std.proofs.Common.{◌≡◌, true, false, List, ◌++◌, refl, inl, inr, ◌⊎◌}
use Rattle.std.specs.Prelude.{codes}
use Rattle.sql_grammar.specs.Tokens.{Key, Word, Placed, is}
use Rattle.sql_grammar.specs.Tree.{Items, AllColumns, Columns, Aggregates, LockOf, lock_for, written_lock, Statement, CreateTable, Insert, Selects, Update, Delete, Begin, Ends, Lock, Set}
use Rattle.sql_grammar.specs.Grammar.{Marked}
use Rattle.sql_grammar.specs.Grammar as grammar
use Rattle.sql_grammar.specs.Reading.{first, inside}
use Rattle.sql_grammar.specs.Reading as reading
use Rattle.sql_reader.proofs.Laws.{Stops, HasEnd, Agrees, Heads, choice, both, also}
use Rattle.sql_reader.proofs.TableLaws.{CreateIndex, create_law}
use Rattle.sql_reader.proofs.InsertLaws.{InsertIndex, insert_law}
use Rattle.sql_reader.proofs.QueryLaws.{SelectIndex, tree_select, select_law}
use Rattle.sql_reader.proofs.ChangeLaws.{UpdateIndex, update_law, DeleteIndex, delete_law}
use Rattle.sql_reader.proofs.TransactionLaws.{BeginIndex, begin_law, EndIndex, ends_law}
use Rattle.sql_reader.proofs.LockLaws.{LockIndex, lock_law}
use Rattle.sql_reader.proofs.SettingLaws.{set_law}
use Rattle.sql_grammar.specs.declared.statement.Setting.{Setting}
use Rattle.sql_grammar.specs.declared.statement.Start.TheVariants.{BeginWord, StartWords}
use Rattle.sql_grammar.specs.declared.statement.EndWord.TheVariants as end_words

abbrev Forms8 : Type 0
Forms8 = Setting

abbrev tree8 : Forms8 → Statement
tree8 = λ (s : Setting). Set s

abbrev sp8 : Forms8 → List Marked
sp8 = λ (s : Setting). grammar.statement (Set s)

abbrev Forms7 : Type 0
Forms7 = LockIndex ⊎ Forms8

abbrev tree7 : Forms7 → Statement
tree7 = both (λ (p : LockIndex). Lock p.0 p.1.0 p.1.1.0 p.1.1.1) tree8

abbrev sp7 : Forms7 → List Marked
sp7 = both (λ (p : LockIndex). grammar.statement (Lock p.0 p.1.0 p.1.1.0 p.1.1.1)) sp8

abbrev Forms6 : Type 0
Forms6 = EndIndex ⊎ Forms7

abbrev tree6 : Forms6 → Statement
tree6 = both (λ (p : EndIndex). Ends p.0 p.1) tree7

abbrev sp6 : Forms6 → List Marked
sp6 = both (λ (p : EndIndex). grammar.statement (Ends p.0 p.1)) sp7

abbrev Forms5 : Type 0
Forms5 = BeginIndex ⊎ Forms6

abbrev tree5 : Forms5 → Statement
tree5 = both (λ (p : BeginIndex). Begin p.0 p.1) tree6

abbrev sp5 : Forms5 → List Marked
sp5 = both (λ (p : BeginIndex). grammar.statement (Begin p.0 p.1)) sp6

abbrev Forms4 : Type 0
Forms4 = DeleteIndex ⊎ Forms5

abbrev tree4 : Forms4 → Statement
tree4 = both (λ (p : DeleteIndex). Delete p.0 p.1) tree5

abbrev sp4 : Forms4 → List Marked
sp4 = both (λ (p : DeleteIndex). grammar.statement (Delete p.0 p.1)) sp5

abbrev Forms3 : Type 0
Forms3 = UpdateIndex ⊎ Forms4

abbrev tree3 : Forms3 → Statement
tree3 = both (λ (p : UpdateIndex). Update p.0 p.1.0 p.1.1) tree4

abbrev sp3 : Forms3 → List Marked
sp3 = both (λ (p : UpdateIndex). grammar.statement (Update p.0 p.1.0 p.1.1)) sp4

abbrev Forms2 : Type 0
Forms2 = SelectIndex ⊎ Forms3

abbrev tree2 : Forms2 → Statement
tree2 = both (λ (p : SelectIndex). tree_select p.0 p.1) tree3

abbrev sp2 : Forms2 → List Marked
sp2 = both (λ (p : SelectIndex). grammar.statement (tree_select p.0 p.1)) sp3

abbrev Forms1 : Type 0
Forms1 = InsertIndex ⊎ Forms2

abbrev tree1 : Forms1 → Statement
tree1 = both (λ (p : InsertIndex). Insert p.0 p.1.0 p.1.1) tree2

abbrev sp1 : Forms1 → List Marked
sp1 = both (λ (p : InsertIndex). grammar.statement (Insert p.0 p.1.0 p.1.1)) sp2

abbrev Forms0 : Type 0
Forms0 = CreateIndex ⊎ Forms1

abbrev tree0 : Forms0 → Statement
tree0 = both (λ (p : CreateIndex). CreateTable p.0 p.1) tree1

abbrev sp0 : Forms0 → List Marked
sp0 = both (λ (p : CreateIndex). grammar.statement (CreateTable p.0 p.1)) sp1

begins0 : (p : CreateIndex) (more : List Marked) → Stops inside more
    → Heads (is (Word (codes "create"))) true (grammar.statement ((λ (p : CreateIndex). CreateTable p.0 p.1) p) ++ more)
begins0 p more stop = refl

other0 : (b : Forms1) (more : List Marked) → Stops inside more → Heads (is (Word (codes "create"))) false (sp1 b ++ more)
other0 (inl p) more stop = refl
other0 (inr (inl p)) more stop = refl
other0 (inr (inr (inl p))) more stop = refl
other0 (inr (inr (inr (inl p)))) more stop = refl
other0 (inr (inr (inr (inr (inl (BeginWord o, l)))))) more stop = refl
other0 (inr (inr (inr (inr (inl (StartWords, l)))))) more stop = refl
other0 (inr (inr (inr (inr (inr (inl (end_words.Commit, n))))))) more stop = refl
other0 (inr (inr (inr (inr (inr (inl (end_words.End, n))))))) more stop = refl
other0 (inr (inr (inr (inr (inr (inl (end_words.Rollback, n))))))) more stop = refl
other0 (inr (inr (inr (inr (inr (inl (end_words.Abort, n))))))) more stop = refl
other0 (inr (inr (inr (inr (inr (inr (inl p))))))) more stop = refl
other0 (inr (inr (inr (inr (inr (inr (inr p))))))) more stop = refl

begins1 : (p : InsertIndex) (more : List Marked) → Stops inside more
    → Heads (is (Word (codes "insert"))) true (grammar.statement ((λ (p : InsertIndex). Insert p.0 p.1.0 p.1.1) p) ++ more)
begins1 p more stop = refl

other1 : (b : Forms2) (more : List Marked) → Stops inside more → Heads (is (Word (codes "insert"))) false (sp2 b ++ more)
other1 (inl p) more stop = refl
other1 (inr (inl p)) more stop = refl
other1 (inr (inr (inl p))) more stop = refl
other1 (inr (inr (inr (inl (BeginWord o, l))))) more stop = refl
other1 (inr (inr (inr (inl (StartWords, l))))) more stop = refl
other1 (inr (inr (inr (inr (inl (end_words.Commit, n)))))) more stop = refl
other1 (inr (inr (inr (inr (inl (end_words.End, n)))))) more stop = refl
other1 (inr (inr (inr (inr (inl (end_words.Rollback, n)))))) more stop = refl
other1 (inr (inr (inr (inr (inl (end_words.Abort, n)))))) more stop = refl
other1 (inr (inr (inr (inr (inr (inl p)))))) more stop = refl
other1 (inr (inr (inr (inr (inr (inr p)))))) more stop = refl

begins2 : (p : SelectIndex) (more : List Marked) → Stops inside more
    → Heads (is (Key (codes "select"))) true (grammar.statement ((λ (p : SelectIndex). tree_select p.0 p.1) p) ++ more)
begins2 p more stop = refl

other2 : (b : Forms3) (more : List Marked) → Stops inside more → Heads (is (Key (codes "select"))) false (sp3 b ++ more)
other2 (inl p) more stop = refl
other2 (inr (inl p)) more stop = refl
other2 (inr (inr (inl (BeginWord o, l)))) more stop = refl
other2 (inr (inr (inl (StartWords, l)))) more stop = refl
other2 (inr (inr (inr (inl (end_words.Commit, n))))) more stop = refl
other2 (inr (inr (inr (inl (end_words.End, n))))) more stop = refl
other2 (inr (inr (inr (inl (end_words.Rollback, n))))) more stop = refl
other2 (inr (inr (inr (inl (end_words.Abort, n))))) more stop = refl
other2 (inr (inr (inr (inr (inl p))))) more stop = refl
other2 (inr (inr (inr (inr (inr p))))) more stop = refl

begins3 : (p : UpdateIndex) (more : List Marked) → Stops inside more
    → Heads (is (Word (codes "update"))) true (grammar.statement ((λ (p : UpdateIndex). Update p.0 p.1.0 p.1.1) p) ++ more)
begins3 p more stop = refl

other3 : (b : Forms4) (more : List Marked) → Stops inside more → Heads (is (Word (codes "update"))) false (sp4 b ++ more)
other3 (inl p) more stop = refl
other3 (inr (inl (BeginWord o, l))) more stop = refl
other3 (inr (inl (StartWords, l))) more stop = refl
other3 (inr (inr (inl (end_words.Commit, n)))) more stop = refl
other3 (inr (inr (inl (end_words.End, n)))) more stop = refl
other3 (inr (inr (inl (end_words.Rollback, n)))) more stop = refl
other3 (inr (inr (inl (end_words.Abort, n)))) more stop = refl
other3 (inr (inr (inr (inl p)))) more stop = refl
other3 (inr (inr (inr (inr p)))) more stop = refl

begins4 : (p : DeleteIndex) (more : List Marked) → Stops inside more
    → Heads (is (Word (codes "delete"))) true (grammar.statement ((λ (p : DeleteIndex). Delete p.0 p.1) p) ++ more)
begins4 p more stop = refl

other4 : (b : Forms5) (more : List Marked) → Stops inside more → Heads (is (Word (codes "delete"))) false (sp5 b ++ more)
other4 (inl (BeginWord o, l)) more stop = refl
other4 (inl (StartWords, l)) more stop = refl
other4 (inr (inl (end_words.Commit, n))) more stop = refl
other4 (inr (inl (end_words.End, n))) more stop = refl
other4 (inr (inl (end_words.Rollback, n))) more stop = refl
other4 (inr (inl (end_words.Abort, n))) more stop = refl
other4 (inr (inr (inl p))) more stop = refl
other4 (inr (inr (inr p))) more stop = refl

begins5 : (p : BeginIndex) (more : List Marked) → Stops inside more
    → Heads reading.begins_begin true (grammar.statement ((λ (p : BeginIndex). Begin p.0 p.1) p) ++ more)
begins5 (BeginWord o, l) more stop = refl
begins5 (StartWords, l) more stop = refl

other5 : (b : Forms6) (more : List Marked) → Stops inside more → Heads reading.begins_begin false (sp6 b ++ more)
other5 (inl (end_words.Commit, n)) more stop = refl
other5 (inl (end_words.End, n)) more stop = refl
other5 (inl (end_words.Rollback, n)) more stop = refl
other5 (inl (end_words.Abort, n)) more stop = refl
other5 (inr (inl p)) more stop = refl
other5 (inr (inr p)) more stop = refl

begins6 : (p : EndIndex) (more : List Marked) → Stops inside more
    → Heads reading.begins_end true (grammar.statement ((λ (p : EndIndex). Ends p.0 p.1) p) ++ more)
begins6 (end_words.Commit, n) more stop = refl
begins6 (end_words.End, n) more stop = refl
begins6 (end_words.Rollback, n) more stop = refl
begins6 (end_words.Abort, n) more stop = refl

other6 : (b : Forms7) (more : List Marked) → Stops inside more → Heads reading.begins_end false (sp7 b ++ more)
other6 (inl p) more stop = refl
other6 (inr p) more stop = refl

begins7 : (p : LockIndex) (more : List Marked) → Stops inside more
    → Heads (is (Word (codes "lock"))) true (grammar.statement ((λ (p : LockIndex). Lock p.0 p.1.0 p.1.1.0 p.1.1.1) p) ++ more)
begins7 p more stop = refl

other7 : (b : Forms8) (more : List Marked) → Stops inside more → Heads (is (Word (codes "lock"))) false (sp8 b ++ more)
other7 p more stop = refl

abbrev of_statement : Statement → Forms0
of_statement (CreateTable n ps) = inl (n, ps)
of_statement (Insert n cs rs) = inr (inl (n, (cs, rs)))
of_statement (Selects s) = inr (inr (inl (s.items, (s.table, (s.where', (s.order, written_lock s.items s.lock))))))
of_statement (Update n as' w) = inr (inr (inr (inl (n, (as', w)))))
of_statement (Delete n w) = inr (inr (inr (inr (inl (n, w)))))
of_statement (Begin s l) = inr (inr (inr (inr (inr (inl (s, l))))))
of_statement (Ends w n) = inr (inr (inr (inr (inr (inr (inl (w, n)))))))
of_statement (Lock t n m w) = inr (inr (inr (inr (inr (inr (inr (inl (t, (n, (m, w))))))))))
of_statement (Set s) = inr (inr (inr (inr (inr (inr (inr (inr s)))))))

form_to : (i : Forms0) → (tree0 i ≡ tree0 i) × (grammar.statement (tree0 i) ≡ sp0 i)
form_to (inl p) = (refl, refl)
form_to (inr (inl p)) = (refl, refl)
form_to (inr (inr (inl p))) = (refl, refl)
form_to (inr (inr (inr (inl p)))) = (refl, refl)
form_to (inr (inr (inr (inr (inl p))))) = (refl, refl)
form_to (inr (inr (inr (inr (inr (inl p)))))) = (refl, refl)
form_to (inr (inr (inr (inr (inr (inr (inl p))))))) = (refl, refl)
form_to (inr (inr (inr (inr (inr (inr (inr (inl p)))))))) = (refl, refl)
form_to (inr (inr (inr (inr (inr (inr (inr (inr p)))))))) = (refl, refl)

lock_back : (i : Items) (l : LockOf i) → lock_for i (written_lock i l) ≡ l
lock_back AllColumns l = refl
lock_back (Columns ns) l = refl
lock_back (Aggregates as') tt = refl

form_back : (s : Statement) → (tree0 (of_statement s) ≡ s) × (sp0 (of_statement s) ≡ grammar.statement s)
form_back (CreateTable n ps) = (refl, refl)
form_back (Insert n cs rs) = (refl, refl)
form_back (Selects s) = (
  λ k. Selects (record { items = s.items; table = s.table; where' = s.where'; order = s.order; lock = lock_back s.items s.lock k }),
  λ k. grammar.statement (Selects (record { items = s.items; table = s.table; where' = s.where'; order = s.order; lock = lock_back s.items s.lock k })),
)
form_back (Update n as' w) = (refl, refl)
form_back (Delete n w) = (refl, refl)
form_back (Begin s l) = (refl, refl)
form_back (Ends w n) = (refl, refl)
form_back (Lock t n m w) = (refl, refl)
form_back (Set s) = (refl, refl)

pub form_law : (ts : List Placed) → HasEnd ts → Agrees {I = Statement} (λ s. s) grammar.statement inside ts (reading.form ts)
unfolding reading.form reading.other_form
form_law ts ends =
    also tree0 sp0 (λ s. s) grammar.statement inside ts _ tree0 of_statement form_to form_back
    (choice (λ (p : CreateIndex). CreateTable p.0 p.1) tree1 (λ (p : CreateIndex). grammar.statement (CreateTable p.0 p.1)) sp1 inside
    (is (Word (codes "create"))) ts _ _ begins0 other0 (λ e. create_law ts ends)
    (λ e. choice (λ (p : InsertIndex). Insert p.0 p.1.0 p.1.1) tree2 (λ (p : InsertIndex). grammar.statement (Insert p.0 p.1.0 p.1.1)) sp2 inside
    (is (Word (codes "insert"))) ts _ _ begins1 other1 (λ e. insert_law ts ends)
    (λ e. choice (λ (p : SelectIndex). tree_select p.0 p.1) tree3 (λ (p : SelectIndex). grammar.statement (tree_select p.0 p.1)) sp3 inside
    (is (Key (codes "select"))) ts _ _ begins2 other2 (λ e. select_law ts ends)
    (λ e. choice (λ (p : UpdateIndex). Update p.0 p.1.0 p.1.1) tree4 (λ (p : UpdateIndex). grammar.statement (Update p.0 p.1.0 p.1.1)) sp4 inside
    (is (Word (codes "update"))) ts _ _ begins3 other3 (λ e. update_law ts ends)
    (λ e. choice (λ (p : DeleteIndex). Delete p.0 p.1) tree5 (λ (p : DeleteIndex). grammar.statement (Delete p.0 p.1)) sp5 inside
    (is (Word (codes "delete"))) ts _ _ begins4 other4 (λ e. delete_law ts ends)
    (λ e. choice (λ (p : BeginIndex). Begin p.0 p.1) tree6 (λ (p : BeginIndex). grammar.statement (Begin p.0 p.1)) sp6 inside reading.begins_begin ts _ _
    begins5 other5 (λ e. begin_law ts ends)
    (λ e. choice (λ (p : EndIndex). Ends p.0 p.1) tree7 (λ (p : EndIndex). grammar.statement (Ends p.0 p.1)) sp7 inside reading.begins_end ts _ _ begins6
    other6 (λ e. ends_law ts ends)
    (λ e. choice (λ (p : LockIndex). Lock p.0 p.1.0 p.1.1.0 p.1.1.1) tree8 (λ (p : LockIndex). grammar.statement (Lock p.0 p.1.0 p.1.1.0 p.1.1.1)) sp8 inside
    (is (Word (codes "lock"))) ts _ _ begins7 other7 (λ e. lock_law ts ends)
    (λ e. set_law ts ends)))))))))
