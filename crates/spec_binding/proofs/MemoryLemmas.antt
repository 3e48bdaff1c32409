-- No refusal of binding is want of memory.
use Rattle.std.proofs.Common.{◌≡◌, ◌≢◌, refl, subst, ℕ, Bool, true, false, cond, List, [], ◌∷◌, get_or, Option, Some, None, Result, Ok, Err}
use Rattle.std.specs.Prelude.{◌||◌, ℤ, map}
use Rattle.std.specs.List.{list_any}
use Rattle.lock_modes.specs.declared.value.Value.{Value}
use Rattle.lock_modes.specs.declared.value.Value.TheVariants.{Int}
use Rattle.spec_reader.specs.Tree.{BlockTree, SessionTree, SpecTree}
use Rattle.sql_grammar.specs.Grammar.{Fault}
use Rattle.sql_grammar.specs.Numbers.{whole_of}
use Rattle.sql_grammar.specs.Text.{StatementAt}
use Rattle.sql_grammar.specs.Tree as tree
use Rattle.sql_grammar.specs.Tree.{Chain}
use Rattle.sql_grammar.specs.declared.error.SqlErrorKind.TheVariants as kind
use Rattle.sql_grammar.specs.declared.expression.Factor.{Factor}
use Rattle.sql_grammar.specs.declared.expression.Factor.TheVariants as factor
use Rattle.sql_grammar.specs.declared.expression.Literal.{Literal}
use Rattle.sql_grammar.specs.declared.expression.Literal.TheVariants.{Whole, Quoted}
use Rattle.sql_grammar.specs.declared.statement.Aggregate.{Aggregate as Aggregated}
use Rattle.sql_grammar.specs.declared.statement.Aggregate.TheVariants as aggregated
use Rattle.sql_grammar.specs.declared.statement.SortKey.{SortKey as Sorted}
use Rattle.sql_grammar.specs.declared.statement.TablePart.{TablePart}
use Rattle.bound_statements.specs.declared.statement.Bound.{Bound}
use Rattle.bound_statements.specs.declared.statement.Bound.TheVariants.{Insert, Select, Update, Delete}
use Rattle.bound_statements.specs.declared.statement.Level.{Level}
use Rattle.binding_model.specs.declared.error.BindError.{BindError}
use Rattle.binding_model.specs.declared.error.BindErrorKind.{BindErrorKind}
use Rattle.binding_model.specs.declared.error.BindErrorKind.TheVariants.{Sql, UnknownTable, UnknownColumn, TypeMismatch, KeyChanged, DuplicateTable, WrongCount}
use Rattle.binding_model.specs.declared.joint.Joint.TheVariants.{All}
use Rattle.binding_model.specs.declared.tables.Table.{Table}
use Rattle.bound_specs.specs.Binding.{offset_in, read_text, read_at, read_block, statement_at, bind_block, session_setup, step, session, then_more, declared}
use Rattle.bound_specs.specs.Binding.{sent, main_statement, main_at, main_setup, shaped, written_file, bound_at, bound_file}
use Rattle.bound_specs.specs.Levels.{levelled_file}
use Rattle.bound_specs.specs.Lines.{orders_of}
use Rattle.bound_specs.specs.Spec.{SpecFile}
use Rattle.binding_model.specs.Names.{Name, head, tail, list_of, repeats}
use Rattle.binding_model.specs.Refusals.{Bind, ◌>>=◌, refuse, unless, with_front, each, IsNamed}
use Rattle.binding_model.specs.Statements.{places, at_places, rows_miscount, set_columns, sets_key, row_columns, row_values, insert, aggregate, output, sort_key, lock_of}
use Rattle.binding_model.specs.Statements.{sort_keys, select, assignment, update, delete, statement}
use Rattle.binding_model.specs.Tables.{create, key_column, column_number, column, no_table, table_number, table}
use Rattle.binding_model.specs.Translation.{value, operand, product, signed, sum_head, sum_tail, expression, joined, alternatives, parts, atom, where_of}
use Rattle.binding_model.specs.Types.{condition_mixes, assignment_mixes, output_mixes, row_mixes}
use Rattle.binding_model.specs.KeyParts.{key_of}
use Rattle.spec_binding.proofs.ReadLemmas.{refused-is, fault-not}

-- what is refused is refused by a kind that is no want of memory
abbrev pub Named : {X : Type 0} → Bind X → Type 0
Named (Ok x) = Unit {0}
Named (Err e) = IsNamed e.kind

too_large : kind.NumberTooLarge ≢ kind.NoMemory
too_large e = cc e

too_many : kind.TooLarge ≢ kind.NoMemory
too_many e = cc e

not_here : kind.NotHere ≢ kind.NoMemory
not_here e = cc e

-- ---- one part behind another

then-named : {A B : Type 0} (r : Bind A) (f : A → Bind B) → Named r → ((a : A) → Named (f a)) → Named (r >>= f)
then-named (Ok a) f h k = k a
then-named (Err e) f h k = h

front-named : {X : Type 0} (xs : List X) (r : Bind (List X)) → Named r → Named (with_front xs r)
front-named xs (Ok ys) h = tt
front-named xs (Err e) h = h

each-named : {A X : Type 0} (f : A → Bind X) → ((a : A) → Named (f a)) → (as' : List A) → Named (each f as')
each-named f h [] = tt
each-named f h (a ∷ as') = then-named (f a) _ (h a) (λ x. front-named (x ∷ []) (each f as') (each-named f h as'))

unless-named : {X : Type 0} (b : Bool) (at : ℕ) (k : BindErrorKind) (other : Bind X) → IsNamed k → Named other → Named (unless b at k other)
unless-named true at k other h o = h
unless-named false at k other h o = o

more-named : {X : Type 0} (xs : List X) (r : Bind (List Table × List X)) → Named r → Named (then_more xs r)
more-named xs (Ok y) h = tt
more-named xs (Err e) h = h

declared-named : {A X : Type 0} (f : List Table → A → Bind (List Table × List X)) → ((t : List Table) (a : A) → Named (f t a))
    → (tables : List Table) (as' : List A) → Named (declared f tables as')
declared-named f h tables [] = tt
declared-named f h tables (a ∷ as') = then-named (f tables a) _ (h tables a) (λ x. more-named x.1 (declared f x.0 as') (declared-named f h x.0 as'))

-- ---- names, values and expressions

column_if : (o : Option ℕ) (at : ℕ) → Named (elim o [ None ↦ refuse {X = ℕ} at UnknownColumn | Some c ↦ Ok c ])
column_if None at = tt
column_if (Some c) at = tt

column-named : (t : Table) (at : ℕ) (n : Name) → Named (column t at n)
column-named t at n = column_if (column_number t n) at

table_if : (tables : List Table) (o : Option ℕ) (at : ℕ)
    → Named {X = ℕ × Table} (elim o [ None ↦ refuse at UnknownTable | Some t ↦ Ok (t, get_or tables t no_table) ])
table_if tables None at = tt
table_if tables (Some t) at = tt

table-named : (tables : List Table) (at : ℕ) (n : Name) → Named (table tables at n)
table-named tables at n = table_if tables (table_number tables n) at

value-named : (at : ℕ) (l : Literal) → Named (value at l)
value-named at (Whole negative digits) = go (whole_of negative digits)
  where
    go : (o : Option ℤ) → Named {X = Value} (elim o [ None ↦ refuse at (Sql kind.NumberTooLarge) | Some z ↦ Ok (Int z) ])
    go None = too_large
    go (Some z) = tt
value-named at (Quoted text) = tt

operand-named : (t : Table) (at : ℕ) (f : Factor) → Named (operand t at f)
operand-named t at (factor.Value l) = then-named (value at l) _ (value-named at l) (λ v. tt)
operand-named t at (factor.Column n) = then-named (column t at n) _ (column-named t at n) (λ c. tt)

product-named : (t : Table) (at : ℕ) (term : tree.Term) → Named (product t at term)
product-named t at term =
    then-named (operand t at (head term)) _ (operand-named t at (head term)) (λ o.
    then-named (each (operand t at) (tail term)) _ (each-named (operand t at) (operand-named t at) (tail term)) (λ os. tt))

expression-named : (t : Table) (at : ℕ) (s : tree.Sum) → Named (expression t at s)
expression-named t at s =
    then-named (product t at (sum_head s)) _ (product-named t at (sum_head s)) (λ p.
    then-named (each (signed t at) (sum_tail s)) _
    (each-named (signed t at) (λ x. then-named (product t at x.1) _ (product-named t at x.1) (λ q. tt)) (sum_tail s)) (λ ps. tt))

mutual
  alternatives-named : (c : tree.Condition) (t : Table) (at : ℕ) → Named (alternatives c t at)
  alternatives-named (tree.Alone p) t at = then-named (parts p t at) _ (parts-named p t at) (λ cs. tt)
  alternatives-named (tree.Or p more) t at =
      then-named (parts p t at) _ (parts-named p t at) (λ cs. front-named (joined All cs ∷ []) (alternatives more t at) (alternatives-named more t at))

  parts-named : (p : tree.Part) (t : Table) (at : ℕ) → Named (parts p t at)
  parts-named (tree.Single a) t at = then-named (atom a t at) _ (atom-named a t at) (λ c. tt)
  parts-named (tree.And a more) t at = then-named (atom a t at) _ (atom-named a t at) (λ c. front-named (c ∷ []) (parts more t at) (parts-named more t at))

  atom-named : (a : tree.Atom) (t : Table) (at : ℕ) → Named (atom a t at)
  atom-named (tree.Compares a s b) t at =
      then-named (expression t at a) _ (expression-named t at a) (λ x. then-named (expression t at b) _ (expression-named t at b) (λ y. tt))
  atom-named (tree.Not a) t at = then-named (atom a t at) _ (atom-named a t at) (λ c. tt)
  atom-named (tree.Group more) t at = then-named (alternatives more t at) _ (alternatives-named more t at) (λ cs. tt)

where-named : (t : Table) (at : ℕ) (o : Option tree.Condition) → Named (where_of t at o)
where-named t at None = tt
where-named t at (Some c) = then-named (alternatives c t at) _ (alternatives-named c t at) (λ cs. tt)

-- ---- statements

row_columns-named : (t : Table) (at : ℕ) (o : Option (Chain Name)) → Named (row_columns t at o)
row_columns-named t at None = tt
row_columns-named t at (Some names) = each-named (column t at) (column-named t at) (list_of names)

insert-named : (t : Table) (at n : ℕ) (names : Option (Chain Name)) (rows : Chain (Chain Literal)) → Named (insert t at n names rows)
insert-named t at n names rows =
    then-named (row_columns t at names) _ (row_columns-named t at names) (λ columns.
    then-named (each (row_values at) (list_of rows)) _
    (each-named (row_values at) (λ row. each-named (value at) (value-named at) (list_of row)) (list_of rows)) (λ values.
    let made : Bind Bound = Ok (Insert n (key_column t) (map (at_places (places t columns)) values)) in
    unless-named (list_any (row_mixes t columns) values) at TypeMismatch (unless (rows_miscount t columns values) at WrongCount made) tt
    (unless-named (rows_miscount t columns values) at WrongCount made tt tt)))

aggregate-named : (t : Table) (at : ℕ) (a : Aggregated) → Named (aggregate t at a)
aggregate-named t at aggregated.Count = tt
aggregate-named t at (aggregated.Total n) = then-named (column t at n) _ (column-named t at n) (λ c. tt)

output-named : (t : Table) (at : ℕ) (items : tree.Items) → Named (output t at items)
output-named t at tree.AllColumns = tt
output-named t at (tree.Columns names) =
    then-named (each (column t at) (list_of names)) _ (each-named (column t at) (column-named t at) (list_of names)) (λ cs. tt)
output-named t at (tree.Aggregates as') =
    then-named (each (aggregate t at) (list_of as')) _ (each-named (aggregate t at) (aggregate-named t at) (list_of as')) (λ x. tt)

sort_keys-named : (t : Table) (at : ℕ) (o : Option (Chain Sorted)) → Named (sort_keys t at o)
sort_keys-named t at None = tt
sort_keys-named t at (Some ks) = each-named (sort_key t at) (λ k. then-named (column t at k.column) _ (column-named t at k.column) (λ c. tt)) (list_of ks)

select-named : (t : Table) (at n : ℕ) (s : tree.Select) → Named (select t at n s)
select-named t at n s =
    then-named (output t at s.items) _ (output-named t at s.items) (λ out. then-named (sort_keys t at s.order) _ (sort_keys-named t at s.order) (λ by.
    then-named (where_of t at s.where') _ (where-named t at s.where') (λ c.
    unless-named (output_mixes t out || condition_mixes t c) at TypeMismatch (Ok (Select n (key_of (key_column t) c) c by out (lock_of (tree.written_lock s.items s.lock)))) tt tt)))

update-named : (t : Table) (at n : ℕ) (as' : Chain tree.Assignment) (c : Option tree.Condition) → Named (update t at n as' c)
update-named t at n as' c =
    then-named (each (assignment t at) (list_of as')) _
    (each-named (assignment t at) (λ a. then-named (column t at a.column) _ (column-named t at a.column) (λ k.
    then-named (expression t at a.value) _ (expression-named t at a.value) (λ e. tt))) (list_of as'))
    (λ sets. then-named (where_of t at c) _ (where-named t at c) (λ d.
    let made : Bind Bound = Ok (Update n (key_of (key_column t) d) sets d) in
    let counted = unless (repeats [] (set_columns sets)) at WrongCount made in
    unless-named (list_any (assignment_mixes t) sets || condition_mixes t d) at TypeMismatch (unless (sets_key (key_column t) sets) at KeyChanged counted) tt
    (unless-named (sets_key (key_column t) sets) at KeyChanged counted tt (unless-named (repeats [] (set_columns sets)) at WrongCount made tt tt))))

delete-named : (t : Table) (at n : ℕ) (c : Option tree.Condition) → Named (delete t at n c)
delete-named t at n c =
    then-named (where_of t at c) _ (where-named t at c) (λ d.
    unless-named (condition_mixes t d) at TypeMismatch (Ok (Delete n (key_of (key_column t) d) d)) tt tt)

statement-named : (tables : List Table) (at : ℕ) (s : tree.Statement) → Named (statement tables at s)
statement-named tables at (tree.CreateTable n ps) = not_here
statement-named tables at (tree.Insert n names rows) = then-named (table tables at n) _ (table-named tables at n) (λ x. insert-named x.1 at x.0 names rows)
statement-named tables at (tree.Selects s) = then-named (table tables at s.table) _ (table-named tables at s.table) (λ x. select-named x.1 at x.0 s)
statement-named tables at (tree.Update n as' c) = then-named (table tables at n) _ (table-named tables at n) (λ x. update-named x.1 at x.0 as' c)
statement-named tables at (tree.Delete n c) = then-named (table tables at n) _ (table-named tables at n) (λ x. delete-named x.1 at x.0 c)
statement-named tables at (tree.Begin start level) = tt
statement-named tables at (tree.Ends w noise) = tt
statement-named tables at (tree.Lock w n mode r) = then-named (table tables at n) _ (table-named tables at n) (λ x. tt)
statement-named tables at (tree.Set setting) = tt

-- ---- declarations

create_if : (a b c d : Bool) (at : ℕ) (made : List Table)
    → Named (elim (cond a (Some (Sql kind.TooLarge)) (cond b (Some UnknownColumn) (cond c (Some DuplicateTable) (cond d (Some WrongCount) None))))
    [ Some k ↦ refuse at k | None ↦ Ok made ])
create_if true b c d at made = too_many
create_if false true c d at made = tt
create_if false false true d at made = tt
create_if false false false true at made = tt
create_if false false false false at made = tt

create-named : (tables : List Table) (at : ℕ) (n : Name) (ps : Chain TablePart) → Named (create tables at n ps)
create-named tables at n ps = create_if _ _ _ _ at _

sent-named : (tables : List Table) (r : Bind Bound) → Named r → Named (sent tables r)
sent-named tables r h = then-named r _ h (λ b. tt)

main-named : (tables : List Table) (at : ℕ) (s : tree.Statement) → Named (main_statement tables at s)
main-named tables at (tree.CreateTable n ps) = then-named (create tables at n ps) _ (create-named tables at n ps) (λ more. tt)
main-named tables at (tree.Insert n names rows) = sent-named tables _ (statement-named tables at (tree.Insert n names rows))
main-named tables at (tree.Selects s) = sent-named tables _ (statement-named tables at (tree.Selects s))
main-named tables at (tree.Update n as' c) = sent-named tables _ (statement-named tables at (tree.Update n as' c))
main-named tables at (tree.Delete n c) = sent-named tables _ (statement-named tables at (tree.Delete n c))
main-named tables at (tree.Begin start level) = tt
main-named tables at (tree.Ends w noise) = tt
main-named tables at (tree.Lock w n mode r) = sent-named tables _ (statement-named tables at (tree.Lock w n mode r))
main-named tables at (tree.Set setting) = tt

-- ---- blocks and files

read-named : (b : BlockTree) → Named (read_block b)
read-named b = go (read_text b.text) refl
  where
    go : (r : Result (List StatementAt) Fault) → read_text b.text ≡ r → Named (read_at b.at r)
    go (Ok ss) e = tt
    go (Err f) e = fault-not b.text f ((refused-is b.text f).0 e)

block-named : (tables : List Table) (b : BlockTree) → Named (bind_block tables b)
block-named tables b =
    then-named (read_block b) _ (read-named b) (λ ss. each-named (statement_at tables b.at) (λ s. statement-named tables (offset_in b.at s.0) s.1) ss)

setup-named : (tables : List Table) (o : Option BlockTree) → Named (session_setup tables o)
setup-named tables None = tt
setup-named tables (Some b) = block-named tables b

session-named : (tables : List Table) (s : SessionTree) → Named (session tables s)
session-named tables s =
    then-named (session_setup tables s.head.setup) _ (setup-named tables s.head.setup) (λ setup.
    then-named (each (step tables) s.steps) _ (each-named (step tables) (λ t. block-named tables t.block) s.steps) (λ steps. tt))

main_setup-named : (tables : List Table) (b : BlockTree) → Named (main_setup tables b)
main_setup-named tables b =
    then-named (read_block b) _ (read-named b) (λ ss.
    then-named (declared (main_at b.at) tables ss) _ (declared-named (main_at b.at) (λ t s. main-named t (offset_in b.at s.0) s.1) tables ss) (λ x. tt))

shaped-named : (o : Option (List (List ℕ))) → Named (shaped o)
shaped-named None = tt
shaped-named (Some lines) = tt

written-named : (text : List ℕ) (file : SpecTree) → Named (written_file text file)
written-named text file =
    then-named (shaped (orders_of file)) _ (shaped-named (orders_of file)) (λ lines.
    then-named (declared main_setup [] file.front.setups) _ (declared-named main_setup main_setup-named [] file.front.setups) (λ main.
    then-named (each (session main.0) file.sessions) _ (each-named (session main.0) (session-named main.0) file.sessions) (λ ss. tt)))

pub file-named : (text : List ℕ) (file : SpecTree) → Named (bound_file text file)
file-named text file = then-named (written_file text file) _ (written-named text file) (λ f. tt)

-- so no refusal of reading SQL is
pub refused_sql : (text : List ℕ) (file : SpecTree) (e : BindError) → bound_file text file ≡ Err e → e.kind ≢ Sql kind.NoMemory
refused_sql text file e told h = subst IsNamed h (subst Named told (file-named text file)) refl

-- a file is refused at each level for what it is refused for where none is asked for
refused_by : (r : Bind SpecFile) (f g : SpecFile → SpecFile) (e : BindError) → (r >>= λ x. Ok (f x)) ≡ Err e → (r >>= λ x. Ok (g x)) ≡ Err e
refused_by (Ok x) f g e told = absurd (cc told)
refused_by (Err e') f g e told = told

pub refused_at : (asked : Option Level) (text : List ℕ) (file : SpecTree) (e : BindError) → bound_at asked text file ≡ Err e → bound_file text file ≡ Err e
refused_at asked text file e told = refused_by (written_file text file) (levelled_file asked) (levelled_file None) e told
