-- What is bound has its keys and is short.
use Rattle.std.proofs.Common.{◌≡◌, refl, sym, ap, subst, ◌∙◌, ℕ, zero, suc, ◌+◌, ◌<◌, ◌≤◌, Bool, true, false, cond, List, [], ◌∷◌, ◌++◌, length, map, All}
use Rattle.std.proofs.Common.{get_or, Option, Some, None, Ok, Err, arith}
use Rattle.std.specs.Prelude.{nat_lt, ◌||◌}
use Rattle.std.specs.List.{position_from, list_any}
use Rattle.std.proofs.lemmas.Bool.{ltb-true}
use Rattle.std.proofs.lemmas.List.{length-map}
use Rattle.std.proofs.lemmas.List.Elements.{All-nil, All-cons, All-append, All-map, All-head, All-tail}
use Rattle.lock_modes.specs.declared.mode.Mode.{Mode}
use Rattle.lock_modes.specs.declared.mode.Mode.TheVariants.{IntentExclusive, Exclusive}
use Rattle.lock_modes.specs.declared.value.Value.{Value}
use Rattle.spec_reader.specs.Tree.{BlockTree, SessionTree}
use Rattle.sql_grammar.specs.declared.TheConstants.{MAX_ROWS}
use Rattle.sql_grammar.specs.Tree as tree
use Rattle.sql_grammar.specs.Text.{StatementAt}
use Rattle.sql_grammar.specs.Tree.{Chain, Last, More, count, HasFewRows}
use Rattle.sql_grammar.specs.declared.expression.Literal.{Literal}
use Rattle.sql_grammar.specs.declared.statement.EndWord.{EndWord}
use Rattle.sql_grammar.specs.declared.statement.EndWord.TheVariants as word
use Rattle.binding_model.specs.declared.TheConstants.{MAX_COLUMNS}
use Rattle.bound_statements.specs.Plan.{row_plan, key_lock, HasKeys, IsShort}
use Rattle.bound_statements.specs.declared.statement.Bound.{Bound}
use Rattle.bound_statements.specs.declared.statement.Bound.TheVariants.{Insert, Select, Update, Delete}
use Rattle.binding_model.specs.declared.error.BindErrorKind.{BindErrorKind}
use Rattle.binding_model.specs.declared.error.BindErrorKind.TheVariants.{TypeMismatch, KeyChanged, WrongCount}
use Rattle.binding_model.specs.Types.{row_mixes, assignment_mixes, condition_mixes, output_mixes}
use Rattle.binding_model.specs.declared.tables.Table.{Table}
use Rattle.bound_specs.specs.Binding.{read_block, statement_at, bind_block, session_setup, step, BoundSession, session, then_more, declared, sent}
use Rattle.bound_specs.specs.Binding.{main_statement, main_at, main_setup, offset_in}
use Rattle.binding_model.specs.Refusals.{Bind, ◌>>=◌, unless, with_front, each}
use Rattle.binding_model.specs.Statements.{numbers_from, places, at_places, rows_miscount, set_columns, sets_key, row_columns, row_values, insert, output, lock_of}
use Rattle.binding_model.specs.Statements.{sort_keys, select, assignment, update, delete, end_of, statement}
use Rattle.binding_model.specs.Translation.{where_of}
use Rattle.binding_model.specs.KeyParts.{key_of}
use Rattle.binding_model.specs.Names.{list_of, repeats}
use Rattle.binding_model.specs.Tables.{below, key_column, column_number, column_place, width, table, create}
use Rattle.bound_specs.proofs.FileLemmas.{bind, front_ok, each-length}
use Rattle.spec_binding.proofs.ReadLemmas.{read-few}

-- ---- what holds of what is bound

abbrev pub IfBound : {X : Type 0} → (X → Type 0) → Bind X → Type 0
IfBound P (Ok x) = P x
IfBound P (Err e) = Unit {0}

pub then-bound : {A X : Type 0} (P : X → Type 0) (r : Bind A) (f : A → Bind X) → ((a : A) → IfBound P (f a)) → IfBound P (r >>= f)
then-bound P (Ok a) f h = h a
then-bound P (Err e) f h = tt

-- the same, where it is known how the first was bound
then-known : {A X : Type 0} (P : X → Type 0) (r : Bind A) (f : A → Bind X) → ((a : A) → r ≡ Ok a → IfBound P (f a)) → IfBound P (r >>= f)
then-known P (Ok a) f h = h a refl
then-known P (Err e) f h = tt

pub unless-bound : {X : Type 0} (P : X → Type 0) (test : Bool) (at : ℕ) (kind : BindErrorKind) (r : Bind X) → IfBound P r → IfBound P (unless test at kind r)
unless-bound P true at kind r h = tt
unless-bound P false at kind r h = h

pub bound-is : {X : Type 0} (P : X → Type 0) (r : Bind X) (x : X) → IfBound P r → r ≡ Ok x → P x
bound-is P r x h e = subst (IfBound P) e h

-- ---- single statements

abbrev pub IsSent : Bound → Type 0
IsSent b = HasKeys b × IsShort b

abbrev pub AllSent : List (List Bound) → Type 0
AllSent blocks = All (All IsSent) blocks

position_if : (b : Bool) (i m : ℕ) (o : Option ℕ) (n : ℕ) → cond b (Some i) o ≡ Some n → (o ≡ Some n → n < i + 1 + m) → n < i + suc m
position_if true i m o n e h = let here : i ≡ n = cc in omega (arith, here)
position_if false i m o n e h = omega (arith, h e)

pub position-below : {A : Type 0} (t : A → Bool) (i : ℕ) (as' : List A) (n : ℕ) → position_from t i as' ≡ Some n → n < i + length as'
position-below t i [] n e = absurd (cc e)
position-below t i (a ∷ as') n e = position_if (t a) i (length as') (position_from t (i + 1) as') n e (λ h. position-below t (i + 1) as' n h)

kept_if : (b : Bool) (m n : ℕ) → cond b (Some m) None ≡ Some n → (b ≡ true) × (m ≡ n)
kept_if true m n e = (refl, cc)
kept_if false m n e = absurd (cc e)

pub below-is : (limit : ℕ) (o : Option ℕ) (n : ℕ) → below limit o ≡ Some n → (o ≡ Some n) × (n < limit)
below-is limit None n e = absurd (cc e)
below-is limit (Some m) n e =
    let a = kept_if (nat_lt m limit) m n e in
    let lt : m < limit = ltb-true m limit a.0 in
    (ap Some (a.1), omega (arith, lt, a.1))

pub column-below : (t : Table) (name : List ℕ) (n : ℕ) → column_number t name ≡ Some n → n < width t
column-below t name n e =
    let a = below-is MAX_COLUMNS (column_place t.columns name) n e in
    let b : n < 0 + length t.columns = position-below _ 0 t.columns n a.0 in
    omega (arith, a.1, b)

key_if : (t : Table) (o : Option (List ℕ)) (n : ℕ) → ◌≡◌ {A = Option ℕ} (elim o [ None ↦ None | Some name ↦ column_number t name ]) (Some n) → n < width t
key_if t None n e = absurd (cc e)
key_if t (Some name) n e = column-below t name n e

key-below : (t : Table) (n : ℕ) → key_column t ≡ Some n → n < width t
key-below t n e = key_if t t.key n e

pub length-numbers : (k n : ℕ) → length (numbers_from k n) ≡ n
length-numbers k zero = refl
length-numbers k (suc n) = ap suc (length-numbers (suc k) n)

pub length-places : (t : Table) (columns : List ℕ) (row : List Value) → length (at_places (places t columns) row) ≡ width t
length-places t columns row = length-map (places t columns) _ ∙ length-map (numbers_from 0 (width t)) _ ∙ length-numbers 0 (width t)

rows-have : (n w : ℕ) (o : Option ℕ) (rows : List (List Value)) → ((k : ℕ) → o ≡ Some k → k < w) → All (λ (row : List Value). length row ≡ w) rows
    → HasKeys (Insert n o rows)
rows-have n w None rows h each = tt
rows-have n w (Some k) rows h each = λ i d lt. (let len : length (get_or rows i d) ≡ w = each i d lt in omega (arith, h k refl, len))

row-short : (t : ℕ) (key : Option Value) (intent m : Mode) → length (row_plan t key intent m) ≤ 255
row-short t None intent m = omega arith
row-short t (Some key) intent m = omega arith

rows-short : (n : ℕ) (key : Option ℕ) (rows : List (List Value)) → length rows ≤ MAX_ROWS → IsShort (Insert n key rows)
rows-short n None rows few = omega arith
rows-short n (Some k) rows few = omega (arith, few, length-map rows (key_lock n k))

insert-sent : (t : Table) (n : ℕ) (columns : List ℕ) (rows : List (List Value)) → length rows ≤ MAX_ROWS
    → IsSent (Insert n (key_column t) (map (at_places (places t columns)) rows))
insert-sent t n columns rows few =
    let new = map (at_places (places t columns)) rows in (
      rows-have n (width t) (key_column t) new (key-below t) (All-map (λ (row : List Value). length row
          ≡ width t) (at_places (places t columns)) rows (λ i d lt. length-places t columns (get_or rows i d))),
      rows-short n (key_column t) new (omega (arith, few, length-map rows (at_places (places t columns)))),
    )

end-sent : (w : EndWord) → IsSent (end_of w)
end-sent word.Commit = (tt, omega arith)
end-sent word.End = (tt, omega arith)
end-sent word.Rollback = (tt, omega arith)
end-sent word.Abort = (tt, omega arith)

length-list_of : {A : Type 0} (c : Chain A) → length (list_of c) ≡ count c
length-list_of (Last x) = refl
length-list_of (More x c) = ap suc (length-list_of c)

insert-bound : (t : Table) (at n : ℕ) (names : Option (Chain (List ℕ))) (rows : Chain (Chain Literal)) → count rows ≤ MAX_ROWS
    → IfBound IsSent (insert t at n names rows)
insert-bound t at n names rows few =
    then-bound IsSent (row_columns t at names) _ (λ (columns : List ℕ).
    then-known IsSent (each (row_values at) (list_of rows)) _ (λ (values : List (List Value)) read.
    let many : length values ≤ MAX_ROWS = omega (arith, few, length-list_of rows, each-length (row_values at) (list_of rows) values read) in
    let made : Bind Bound = Ok (Insert n (key_column t) (map (at_places (places t columns)) values)) in
    unless-bound IsSent (list_any (row_mixes t columns) values) at TypeMismatch (unless (rows_miscount t columns values) at WrongCount made)
    (unless-bound IsSent (rows_miscount t columns values) at WrongCount made (insert-sent t n columns values many))))

select-bound : (t : Table) (at n : ℕ) (s : tree.Select) → IfBound IsSent (select t at n s)
select-bound t at n s =
    then-bound IsSent (output t at s.items) _ (λ out. then-bound IsSent (sort_keys t at s.order) _ (λ by. then-bound IsSent (where_of t at s.where') _ (λ c.
    unless-bound IsSent (output_mixes t out || condition_mixes t c) at TypeMismatch (Ok (Select n (key_of (key_column t) c) c by out (lock_of (tree.written_lock s.items s.lock)))) (
      tt,
      row-short n (key_of (key_column t) c) _ _,
    ))))

update-bound : (t : Table) (at n : ℕ) (as' : Chain tree.Assignment) (c : Option tree.Condition) → IfBound IsSent (update t at n as' c)
update-bound t at n as' c =
    then-bound IsSent (each (assignment t at) (list_of as')) _ (λ sets. then-bound IsSent (where_of t at c) _ (λ d.
    let made : Bind Bound = Ok (Update n (key_of (key_column t) d) sets d) in
    let counted = unless (repeats [] (set_columns sets)) at WrongCount made in
    unless-bound IsSent (list_any (assignment_mixes t) sets || condition_mixes t d) at TypeMismatch
    (unless (sets_key (key_column t) sets) at KeyChanged counted)
    (unless-bound IsSent (sets_key (key_column t) sets) at KeyChanged counted
    (unless-bound IsSent (repeats [] (set_columns sets)) at WrongCount made (tt, row-short n (key_of (key_column t) d) IntentExclusive Exclusive)))))

delete-bound : (t : Table) (at n : ℕ) (c : Option tree.Condition) → IfBound IsSent (delete t at n c)
delete-bound t at n c = then-bound IsSent (where_of t at c) _ (λ d.
    unless-bound IsSent (condition_mixes t d) at TypeMismatch (Ok (Delete n (key_of (key_column t) d) d)) (
      tt,
      row-short n (key_of (key_column t) d) IntentExclusive Exclusive,
    ))

pub statement-sent : (tables : List Table) (at : ℕ) (s : tree.Statement) → HasFewRows s → IfBound IsSent (statement tables at s)
statement-sent tables at (tree.CreateTable n ps) few = tt
statement-sent tables at (tree.Insert n names rows) few = then-bound IsSent (table tables at n) _ (λ (x : ℕ × Table). insert-bound x.1 at x.0 names rows few)
statement-sent tables at (tree.Selects s) few = then-bound IsSent (table tables at s.table) _ (λ (x : ℕ × Table). select-bound x.1 at x.0 s)
statement-sent tables at (tree.Update n as' c) few = then-bound IsSent (table tables at n) _ (λ (x : ℕ × Table). update-bound x.1 at x.0 as' c)
statement-sent tables at (tree.Delete n c) few = then-bound IsSent (table tables at n) _ (λ (x : ℕ × Table). delete-bound x.1 at x.0 c)
statement-sent tables at (tree.Begin start level) few = (tt, omega arith)
statement-sent tables at (tree.Ends w noise) few = end-sent w
statement-sent tables at (tree.Lock w n mode r) few = then-bound IsSent (table tables at n) _ (λ (x : ℕ × Table). (tt, omega arith))
statement-sent tables at (tree.Set setting) few = (tt, omega arith)

abbrev SentMore : List Table × List Bound → Type 0
SentMore x = All IsSent x.1

sent-more : (tables : List Table) (r : Bind Bound) → IfBound IsSent r → IfBound SentMore (sent tables r)
sent-more tables (Ok b) h = All-cons IsSent b [] h (All-nil IsSent)
sent-more tables (Err e) h = tt

main-sent : (tables : List Table) (at : ℕ) (s : tree.Statement) → HasFewRows s → IfBound SentMore (main_statement tables at s)
main-sent tables at (tree.CreateTable n ps) few = then-bound SentMore (create tables at n ps) (λ more. Ok (more, [])) (λ more. All-nil IsSent)
main-sent tables at (tree.Insert n names rows) few = sent-more tables (statement tables at (tree.Insert n names rows))
    (statement-sent tables at (tree.Insert n names rows) few)
main-sent tables at (tree.Selects s) few = sent-more tables (statement tables at (tree.Selects s)) (statement-sent tables at (tree.Selects s) few)
main-sent tables at (tree.Update n as' c) few = sent-more tables (statement tables at (tree.Update n as' c))
    (statement-sent tables at (tree.Update n as' c) few)
main-sent tables at (tree.Delete n c) few = sent-more tables (statement tables at (tree.Delete n c)) (statement-sent tables at (tree.Delete n c) few)
main-sent tables at (tree.Begin start level) few = sent-more tables (statement tables at (tree.Begin start level))
    (statement-sent tables at (tree.Begin start level) few)
main-sent tables at (tree.Ends w noise) few = sent-more tables (statement tables at (tree.Ends w noise)) (statement-sent tables at (tree.Ends w noise) few)
main-sent tables at (tree.Lock w n mode r) few = sent-more tables (statement tables at (tree.Lock w n mode r)) (statement-sent tables at (tree.Lock w n mode r) few)
main-sent tables at (tree.Set setting) few = sent-more tables (statement tables at (tree.Set setting)) (statement-sent tables at (tree.Set setting) few)

-- ---- one after another

-- what holds of each part that is bound, where it is known of what is bound
each-All-if : {A X : Type 0} (Q : A → Type 0) (P : X → Type 0) (f : A → Bind X) → ((a : A) (x : X) → Q a → f a ≡ Ok x → P x) → (as' : List A) (xs : List X)
    → All Q as' → each f as' ≡ Ok xs → All P xs
each-All-if Q P f h [] xs q e = let same : [] ≡ xs = cc in subst (All P) same (All-nil P)
each-All-if Q P f h (a ∷ as') xs q e =
    let b = bind (f a) (λ x. with_front (x ∷ []) (each f as')) xs e in
    let c = front_ok (b.0 ∷ []) (each f as') xs b.1.1 in
    subst (All P) c.1.1 (All-cons P b.0 c.0 (h a b.0 (All-head Q a as' q) b.1.0) (each-All-if Q P f h as' c.0 (All-tail Q a as' q) c.1.0))

pub each-All : {A X : Type 0} (P : X → Type 0) (f : A → Bind X) → ((a : A) (x : X) → f a ≡ Ok x → P x) → (as' : List A) (xs : List X) → each f as' ≡ Ok xs
    → All P xs
each-All P f h as' xs e = each-All-if (λ a. Unit {0}) P f (λ a x u r. h a x r) as' xs (λ i d lt. tt) e

-- what is told of each part is told of what it is bound to
pub each-told : {A X C : Type 0} (g : X → C) (h : A → C) (f : A → Bind X) → ((a : A) (x : X) → f a ≡ Ok x → g x ≡ h a) → (as' : List A) (xs : List X)
    → each f as' ≡ Ok xs → map g xs ≡ map h as'
each-told g h f t [] xs e = let same : [] ≡ xs = cc in ap (map g) (sym same)
each-told g h f t (a ∷ as') xs e =
    let b = bind (f a) (λ x. with_front (x ∷ []) (each f as')) xs e in
    let c = front_ok (b.0 ∷ []) (each f as') xs b.1.1 in
    ap (map g) (sym c.1.1) ∙ (λ i. t a b.0 b.1.0 i ∷ each-told g h f t as' c.0 c.1.0 i)

second : {X : Type 0} (p q : List Table × List X) → ◌≡◌ {A = Bind (List Table × List X)} (Ok p) (Ok q) → p.1 ≡ q.1
second p q e = let same : p ≡ q = cc in ap (λ x. x.1) same

more_ok : {X : Type 0} (xs : List X) (r : Bind (List Table × List X)) (y : List Table × List X) → then_more xs r ≡ Ok y → (z : List Table × List X)
    × ((r ≡ Ok z) × (xs ++ z.1 ≡ y.1))
more_ok xs (Ok z) y e = (z, (refl, second (z.0, xs ++ z.1) y e))
more_ok xs (Err e') y e = absurd (cc e)

declared-All-if : {A X : Type 0} (Q : A → Type 0) (P : X → Type 0) (f : List Table → A → Bind (List Table × List X))
    → ((t : List Table) (a : A) (x : List Table × List X) → Q a → f t a ≡ Ok x → All P x.1)
    → (as' : List A) (tables : List Table) (y : List Table × List X) → All Q as' → declared f tables as' ≡ Ok y → All P y.1
declared-All-if Q P f h [] tables y q e = subst (All P) (second (tables, []) y e) (All-nil P)
declared-All-if Q P f h (a ∷ as') tables y q e =
    let b = bind (f tables a) (λ x. then_more x.1 (declared f x.0 as')) y e in
    let c = more_ok b.0.1 (declared f b.0.0 as') y b.1.1 in
    subst (All P) c.1.1 (All-append P b.0.1 c.0.1 (h tables a b.0 (All-head Q a as' q) b.1.0)
    (declared-All-if Q P f h as' b.0.0 c.0 (All-tail Q a as' q) c.1.0))

declared-All : {A X : Type 0} (P : X → Type 0) (f : List Table → A → Bind (List Table × List X))
    → ((t : List Table) (a : A) (x : List Table × List X) → f t a ≡ Ok x → All P x.1)
    → (as' : List A) (tables : List Table) (y : List Table × List X) → declared f tables as' ≡ Ok y → All P y.1
declared-All P f h as' tables y e = declared-All-if (λ a. Unit {0}) P f (λ t a x u r. h t a x r) as' tables y (λ i d lt. tt) e

-- ---- blocks

pub block-sent : (tables : List Table) (b : BlockTree) (xs : List Bound) → bind_block tables b ≡ Ok xs → All IsSent xs
block-sent tables b xs e =
    let a = bind (read_block b) (each (statement_at tables b.at)) xs e in
    each-All-if (λ (s : StatementAt). HasFewRows s.1) IsSent (statement_at tables b.at) (λ s x few h.
    bound-is IsSent (statement_at tables b.at s) x (statement-sent tables (offset_in b.at s.0) s.1 few) h) a.0 xs
    (read-few b.text b.at a.0 a.1.0) a.1.1

setup-sent : (tables : List Table) (o : Option BlockTree) (xs : List Bound) → session_setup tables o ≡ Ok xs → All IsSent xs
setup-sent tables None xs e = let same : [] ≡ xs = cc in subst (All IsSent) same (All-nil IsSent)
setup-sent tables (Some b) xs e = block-sent tables b xs e

-- the statements of a session are sent, and it has as many steps as in the file
pub record IsSessionOf (text : SessionTree) (s : BoundSession) : Type 0 where
  pub setup : All IsSent s.setup
  pub steps : AllSent s.steps
  pub count : length s.steps ≡ length text.steps

pub session-sent : (tables : List Table) (text : SessionTree) (s : BoundSession) → session tables text ≡ Ok s → IsSessionOf text s
session-sent tables text s e =
    let a = bind (session_setup tables text.head.setup) _ s e in
    let b = bind (each (step tables) text.steps) _ s a.1.1 in
    let made : BoundSession = record { setup = a.0; steps = b.0 } in
    let same : made ≡ s = cc (b.1.1) in
    subst (IsSessionOf text) same
    (record {
      setup = setup-sent tables text.head.setup a.0 a.1.0;
      steps = each-All (All IsSent) (step tables) (λ t x h. block-sent tables t.block x h) text.steps b.0 b.1.0;
      count = each-length (step tables) text.steps b.0 b.1.0;
    })

main_block-sent : (tables : List Table) (b : BlockTree) (x : List Table × List (List Bound)) → main_setup tables b ≡ Ok x → AllSent x.1
main_block-sent tables b x e =
    let a = bind (read_block b) (λ ss. declared (main_at b.at) tables ss >>= λ y. Ok (y.0, y.1 ∷ [])) x e in
    let c = bind (declared (main_at b.at) tables a.0) (λ y. Ok (y.0, y.1 ∷ [])) x a.1.1 in
    let P : Bind (List Table × List (List Bound)) → Type 0 = λ r. elim r [ Ok y ↦ AllSent y.1 | Err e ↦ Unit {0} ] in
    subst P c.1.1
    (All-cons (All IsSent) c.0.1 []
    (declared-All-if (λ (s : StatementAt). HasFewRows s.1) IsSent (main_at b.at) (λ t s y few h.
    bound-is SentMore (main_at b.at t s) y (main-sent t (offset_in b.at s.0) s.1 few) h) a.0 tables c.0
    (read-few b.text b.at a.0 a.1.0) c.1.0)
    (All-nil (All IsSent)))

pub setups-sent : (tables : List Table) (bs : List BlockTree) (y : List Table × List (List Bound)) → declared main_setup tables bs ≡ Ok y → AllSent y.1
setups-sent tables bs y e = declared-All (All IsSent) main_setup (λ t b x h. main_block-sent t b x h) bs tables y e
