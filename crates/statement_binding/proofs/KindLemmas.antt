-- The kind that is told is the least of those that a statement has.
use Rattle.std.proofs.Common.{◌≡◌, ◌≢◌, refl, sym, ap, subst, ℕ, ◌<◌, Bool, true, false, cond, List, [], ◌∷◌, ◌++◌, length, map, get_or, Option, Some, None}
use Rattle.std.proofs.Common.{Ok, Err, arith}
use Rattle.std.specs.Prelude.{◌||◌, ℤ, not, is_some, nat_lt, nat_le}
use Rattle.std.specs.List.{list_any}
use Rattle.std.proofs.lemmas.List.Folds.{list_any-append}
use Rattle.lock_modes.specs.declared.value.Value.{Value}
use Rattle.lock_modes.specs.declared.value.Value.TheVariants.{Int}
use Rattle.sql_grammar.specs.Numbers.{whole_of}
use Rattle.sql_grammar.specs.Tree as tree
use Rattle.sql_grammar.specs.Tree.{Chain}
use Rattle.sql_grammar.specs.declared.error.SqlErrorKind.{SqlErrorKind}
use Rattle.sql_grammar.specs.declared.error.SqlErrorKind.TheVariants as sql
use Rattle.sql_grammar.specs.declared.expression.AddSign.{AddSign}
use Rattle.sql_grammar.specs.declared.expression.Factor.{Factor}
use Rattle.sql_grammar.specs.declared.expression.Factor.TheVariants as factor
use Rattle.sql_grammar.specs.declared.expression.Literal.{Literal}
use Rattle.sql_grammar.specs.declared.expression.Literal.TheVariants.{Whole, Quoted}
use Rattle.sql_grammar.specs.declared.statement.Aggregate.{Aggregate as Aggregated}
use Rattle.sql_grammar.specs.declared.statement.Aggregate.TheVariants as aggregated
use Rattle.sql_grammar.specs.declared.statement.SortKey.{SortKey as Sorted}
use Rattle.sql_grammar.specs.declared.statement.TablePart.{TablePart}
use Rattle.bound_statements.specs.declared.condition.Condition.{Condition}
use Rattle.bound_statements.specs.declared.statement.Assignment.{Assignment}
use Rattle.bound_statements.specs.declared.statement.Output.{Output}
use Rattle.bound_statements.specs.declared.statement.SortKey.{SortKey}
use Rattle.bound_statements.specs.declared.statement.Bound.{Bound}
use Rattle.bound_statements.specs.declared.statement.Bound.TheVariants.{Insert, Select, Update, Delete, Lock}
use Rattle.binding_model.specs.declared.TheConstants.{MAX_COLUMNS, MAX_TABLES}
use Rattle.binding_model.specs.declared.error.BindError.{BindError}
use Rattle.binding_model.specs.declared.error.BindErrorKind.{BindErrorKind}
use Rattle.binding_model.specs.declared.error.BindErrorKind.TheVariants.{Sql, UnknownTable, UnknownColumn, TypeMismatch, KeyChanged, DuplicateTable, WrongCount}
use Rattle.binding_model.specs.declared.error.BindErrorKind.TheVariants.{Shape, NoMemory}
use Rattle.binding_model.specs.declared.joint.Joint.TheVariants.{All}
use Rattle.binding_model.specs.declared.tables.Table.{Table}
use Rattle.binding_model.specs.Names.{Name, head, tail, list_of, repeats}
use Rattle.binding_model.specs.Refusals.{Bind, ◌>>=◌, refuse, unless, with_front, each, bind_number_of}
use Rattle.binding_model.specs.Kinds.{Faults, has, IsLeast, factor_names, term_names, sum_names, condition_names, part_names, atom_names, where_names}
use Rattle.binding_model.specs.Kinds.{aggregate_names, item_names, order_names, assignment_names, row_names, names_unknown, both, faults_by, never, no_faults}
use Rattle.binding_model.specs.Kinds.{in_table, statement_faults, insert_faults, select_faults, update_faults, delete_faults, declaration_faults}
use Rattle.binding_model.specs.Statements.{places, at_places, rows_miscount, set_columns, sets_key, row_columns, row_values, insert, aggregate, output, sort_key, lock_of}
use Rattle.binding_model.specs.Statements.{sort_keys, select, assignment, update, delete, mode_of, statement}
use Rattle.binding_model.specs.Tables.{create, key_column, column_number, column, no_table, table_number, joined as each_of, part_columns, part_keys}
use Rattle.binding_model.specs.Tables.{has_unknown, repeated, declared, table_place}
use Rattle.binding_model.specs.Translation.{value, operand, product, signed, sum_head, sum_tail, expression, joined, alternatives, parts, atom, where_of}
use Rattle.binding_model.specs.Types.{condition_mixes, assignment_mixes, output_mixes, row_mixes}
use Rattle.binding_model.specs.KeyParts.{key_of}

-- ---- the names of a part are known where it is bound, and one of them is not where it is refused for that

abbrev Blames : Bool → BindErrorKind → Type 0
Blames unknown (Sql k) = k ≡ sql.NumberTooLarge
Blames unknown UnknownColumn = unknown ≡ true
Blames unknown k = ⊥

abbrev Tells : {X : Type 0} → Bool → Bind X → Type 0
Tells unknown (Ok x) = unknown ≡ false
Tells unknown (Err e) = Blames unknown e.kind

or_blames : (a b : Bool) (k : BindErrorKind) → Blames a k → Blames (a || b) k
or_blames a b (Sql k) h = h
or_blames true b UnknownColumn h = refl
or_blames false b UnknownColumn h = absurd (cc h)
or_blames a b UnknownTable h = h
or_blames a b TypeMismatch h = h
or_blames a b KeyChanged h = h
or_blames a b DuplicateTable h = h
or_blames a b WrongCount h = h
or_blames a b Shape h = h
or_blames a b NoMemory h = h

-- known names before others change nothing
known_first : {X : Type 0} (a b : Bool) (r : Bind X) → a ≡ false → Tells b r → Tells (a || b) r
known_first true b r e h = absurd (cc e)
known_first false b r e h = h

then_bools : {A B : Type 0} (a b : Bool) (r : Bind A) (f : A → Bind B) → Tells a r → ((x : A) → Tells b (f x)) → Tells (a || b) (r >>= f)
then_bools a b (Ok x) f h k = known_first a b (f x) h (k x)
then_bools a b (Err e) f h k = or_blames a b e.kind h

keep-tells : {A B : Type 0} (a : Bool) (r : Bind A) (f : A → B) → Tells a r → Tells a (r >>= λ x. Ok (f x))
keep-tells a (Ok x) f h = h
keep-tells a (Err e) f h = h

front-tells : {X : Type 0} (a : Bool) (xs : List X) (r : Bind (List X)) → Tells a r → Tells a (with_front xs r)
front-tells a xs (Ok ys) h = h
front-tells a xs (Err e) h = h

abbrev bad : Table → Name → Bool
bad t n = not (is_some (column_number t n))

then-tells : {A B : Type 0} (t : Table) (ns ms : List Name) (r : Bind A) (f : A → Bind B) → Tells (names_unknown t ns) r
    → ((x : A) → Tells (names_unknown t ms) (f x)) → Tells (names_unknown t (ns ++ ms)) (r >>= f)
then-tells t ns ms r f h k =
    subst (λ b. Tells b (r >>= f)) (sym (list_any-append (bad t) ns ms)) (then_bools (names_unknown t ns) (names_unknown t ms) r f h k)

each-tells : {A X : Type 0} (t : Table) (names : A → List Name) (f : A → Bind X) → ((a : A) → Tells (names_unknown t (names a)) (f a))
    → (as' : List A) → Tells (names_unknown t (each_of names as')) (each f as')
each-tells t names f h [] = refl
each-tells t names f h (a ∷ as') =
    then-tells t (names a) (each_of names as') (f a) _ (h a)
    (λ x. front-tells (names_unknown t (each_of names as')) (x ∷ []) (each f as') (each-tells t names f h as'))

both-tells : {A B : Type 0} (t : Table) (ns ms : List Name) (r : Bind A) (s : Bind B) → Tells (names_unknown t ns) r → Tells (names_unknown t ms) s
    → Tells (names_unknown t (ns ++ ms)) (both r s)
both-tells t ns ms r s h k = then-tells t ns ms r _ h (λ a. keep-tells (names_unknown t ms) s (λ b. (a, b)) k)

-- ---- names, values and expressions

column_if : (o : Option ℕ) (at : ℕ) → Tells (not (is_some o) || false) (elim o [ None ↦ refuse {X = ℕ} at UnknownColumn | Some c ↦ Ok c ])
column_if None at = refl
column_if (Some c) at = refl

column-tells : (t : Table) (at : ℕ) (n : Name) → Tells (names_unknown t (n ∷ [])) (column t at n)
column-tells t at n = column_if (column_number t n) at

value-tells : (at : ℕ) (l : Literal) → Tells false (value at l)
value-tells at (Whole negative digits) = go (whole_of negative digits)
  where
    go : (o : Option ℤ) → Tells {X = Value} false (elim o [ None ↦ refuse at (Sql sql.NumberTooLarge) | Some z ↦ Ok (Int z) ])
    go None = refl
    go (Some z) = refl
value-tells at (Quoted text) = refl

operand-tells : (t : Table) (at : ℕ) (f : Factor) → Tells (names_unknown t (factor_names f)) (operand t at f)
operand-tells t at (factor.Value l) = keep-tells false (value at l) _ (value-tells at l)
operand-tells t at (factor.Column n) = keep-tells (names_unknown t (n ∷ [])) (column t at n) _ (column-tells t at n)

product-tells : (t : Table) (at : ℕ) (term : tree.Term) → Tells (names_unknown t (term_names term)) (product t at term)
product-tells t at term =
    then-tells t (factor_names (head term)) (each_of factor_names (tail term)) (operand t at (head term)) _ (operand-tells t at (head term)) (λ o.
    keep-tells (names_unknown t (each_of factor_names (tail term))) (each (operand t at) (tail term)) _
    (each-tells t factor_names (operand t at) (operand-tells t at) (tail term)))

expression-tells : (t : Table) (at : ℕ) (s : tree.Sum) → Tells (names_unknown t (sum_names s)) (expression t at s)
expression-tells t at s =
    let later : AddSign × tree.Term → List Name = λ x. term_names x.1 in
    then-tells t (term_names (sum_head s)) (each_of later (sum_tail s)) (product t at (sum_head s)) _ (product-tells t at (sum_head s)) (λ p.
    keep-tells (names_unknown t (each_of later (sum_tail s))) (each (signed t at) (sum_tail s)) _
    (each-tells t later (signed t at) (λ x. keep-tells (names_unknown t (term_names x.1)) (product t at x.1) _ (product-tells t at x.1)) (sum_tail s)))

mutual
  alternatives-tells : (c : tree.Condition) (t : Table) (at : ℕ) → Tells (names_unknown t (condition_names c)) (alternatives c t at)
  alternatives-tells (tree.Alone p) t at = keep-tells (names_unknown t (part_names p)) (parts p t at) _ (parts-tells p t at)
  alternatives-tells (tree.Or p more) t at =
      then-tells t (part_names p) (condition_names more) (parts p t at) _ (parts-tells p t at)
      (λ cs. front-tells (names_unknown t (condition_names more)) (joined All cs ∷ []) (alternatives more t at) (alternatives-tells more t at))

  parts-tells : (p : tree.Part) (t : Table) (at : ℕ) → Tells (names_unknown t (part_names p)) (parts p t at)
  parts-tells (tree.Single a) t at = keep-tells (names_unknown t (atom_names a)) (atom a t at) _ (atom-tells a t at)
  parts-tells (tree.And a more) t at =
      then-tells t (atom_names a) (part_names more) (atom a t at) _ (atom-tells a t at)
      (λ c. front-tells (names_unknown t (part_names more)) (c ∷ []) (parts more t at) (parts-tells more t at))

  atom-tells : (a : tree.Atom) (t : Table) (at : ℕ) → Tells (names_unknown t (atom_names a)) (atom a t at)
  atom-tells (tree.Compares a s b) t at =
      then-tells t (sum_names a) (sum_names b) (expression t at a) _ (expression-tells t at a)
      (λ x. keep-tells (names_unknown t (sum_names b)) (expression t at b) _ (expression-tells t at b))
  atom-tells (tree.Not a) t at = keep-tells (names_unknown t (atom_names a)) (atom a t at) _ (atom-tells a t at)
  atom-tells (tree.Group more) t at = keep-tells (names_unknown t (condition_names more)) (alternatives more t at) _ (alternatives-tells more t at)

where-tells : (t : Table) (at : ℕ) (o : Option tree.Condition) → Tells (names_unknown t (where_names o)) (where_of t at o)
where-tells t at None = refl
where-tells t at (Some c) = keep-tells (names_unknown t (condition_names c)) (alternatives c t at) _ (alternatives-tells c t at)

-- ---- the parts of statements

columns-tells : (t : Table) (at : ℕ) (ns : List Name) → Tells (names_unknown t ns) (each (column t at) ns)
columns-tells t at [] = refl
columns-tells t at (n ∷ ns) =
    then-tells t (n ∷ []) ns (column t at n) _ (column-tells t at n)
    (λ c. front-tells (names_unknown t ns) (c ∷ []) (each (column t at) ns) (columns-tells t at ns))

row_columns-tells : (t : Table) (at : ℕ) (o : Option (Chain Name)) → Tells (names_unknown t (row_names o)) (row_columns t at o)
row_columns-tells t at None = refl
row_columns-tells t at (Some names) = columns-tells t at (list_of names)

-- where no part names a column
nameless : {A X : Type 0} (f : A → Bind X) → ((a : A) → Tells false (f a)) → (as' : List A) → Tells false (each f as')
nameless f h [] = refl
nameless f h (a ∷ as') = then_bools false false (f a) _ (h a) (λ x. front-tells false (x ∷ []) (each f as') (nameless f h as'))

values-tells : (at : ℕ) (rows : List (Chain Literal)) → Tells false (each (row_values at) rows)
values-tells at rows = nameless (row_values at) (λ row. nameless (value at) (value-tells at) (list_of row)) rows

aggregate-tells : (t : Table) (at : ℕ) (a : Aggregated) → Tells (names_unknown t (aggregate_names a)) (aggregate t at a)
aggregate-tells t at aggregated.Count = refl
aggregate-tells t at (aggregated.Total n) = keep-tells (names_unknown t (n ∷ [])) (column t at n) _ (column-tells t at n)

output-tells : (t : Table) (at : ℕ) (items : tree.Items) → Tells (names_unknown t (item_names items)) (output t at items)
output-tells t at tree.AllColumns = refl
output-tells t at (tree.Columns names) =
    keep-tells (names_unknown t (list_of names)) (each (column t at) (list_of names)) _ (columns-tells t at (list_of names))
output-tells t at (tree.Aggregates as') =
    keep-tells (names_unknown t (each_of aggregate_names (list_of as'))) (each (aggregate t at) (list_of as')) _
    (each-tells t aggregate_names (aggregate t at) (aggregate-tells t at) (list_of as'))

sorted-tells : (t : Table) (at : ℕ) (ks : List Sorted) → Tells (names_unknown t (map (λ (k : Sorted). k.column) ks)) (each (sort_key t at) ks)
sorted-tells t at [] = refl
sorted-tells t at (k ∷ ks) =
    let more = names_unknown t (map (λ (k : Sorted). k.column) ks) in
    then-tells t (k.column ∷ []) (map (λ (k : Sorted). k.column) ks) (sort_key t at k) _
    (keep-tells (names_unknown t (k.column ∷ [])) (column t at k.column) _ (column-tells t at k.column))
    (λ x. front-tells more (x ∷ []) (each (sort_key t at) ks) (sorted-tells t at ks))

sort_keys-tells : (t : Table) (at : ℕ) (o : Option (Chain Sorted)) → Tells (names_unknown t (order_names o)) (sort_keys t at o)
sort_keys-tells t at None = refl
sort_keys-tells t at (Some ks) = sorted-tells t at (list_of ks)

assignment-tells : (t : Table) (at : ℕ) (a : tree.Assignment) → Tells (names_unknown t (assignment_names a)) (assignment t at a)
assignment-tells t at a =
    then-tells t (a.column ∷ []) (sum_names a.value) (column t at a.column) _ (column-tells t at a.column)
    (λ c. keep-tells (names_unknown t (sum_names a.value)) (expression t at a.value) _ (expression-tells t at a.value))

-- ---- what is judged of a statement: no fault where it is bound, and else the least

abbrev pub NoneOf : Faults → Type 0
NoneOf f = (k : BindErrorKind) → has f k ≡ false

abbrev pub Judged : {X : Type 0} → Faults → Bind X → Type 0
Judged f (Ok b) = NoneOf f
Judged f (Err e) = e.kind ≢ Sql sql.NumberTooLarge → IsLeast f e.kind

-- the reader's own kinds, of which binding has two
no_sql : (f : Faults) → f.not_here ≡ false → f.too_large ≡ false → (k : SqlErrorKind) → has f (Sql k) ≡ false
no_sql f h l sql.BadToken = refl
no_sql f h l sql.Unclosed = refl
no_sql f h l sql.Syntax = refl
no_sql f h l sql.Unsupported = refl
no_sql f h l sql.NumberTooLarge = refl
no_sql f h l sql.TooLarge = l
no_sql f h l sql.NotHere = h
no_sql f h l sql.NoMemory = refl

-- the kinds with a smaller number, where each of them is not
lower : (f : Faults) (n : ℕ) → (1 < n → (f.not_here ≡ false) × (f.too_large ≡ false)) → (2 < n → f.unknown_table ≡ false)
    → (3 < n → f.unknown_column ≡ false) → (4 < n → f.mixes ≡ false) → (5 < n → f.changes_key ≡ false) → (6 < n → f.duplicate ≡ false)
    → (7 < n → f.miscounts ≡ false) → (k : BindErrorKind) → bind_number_of k < n → has f k ≡ false
lower f n a b c d e g h (Sql k) lt = no_sql f (a lt).0 (a lt).1 k
lower f n a b c d e g h UnknownTable lt = b lt
lower f n a b c d e g h UnknownColumn lt = c lt
lower f n a b c d e g h TypeMismatch lt = d lt
lower f n a b c d e g h KeyChanged lt = e lt
lower f n a b c d e g h DuplicateTable lt = g lt
lower f n a b c d e g h WrongCount lt = h lt
lower f n a b c d e g h Shape lt = refl
lower f n a b c d e g h NoMemory lt = refl

none : (f : Faults) → f.not_here ≡ false → f.too_large ≡ false → f.unknown_table ≡ false → f.unknown_column ≡ false → f.mixes ≡ false
    → f.changes_key ≡ false → f.duplicate ≡ false → f.miscounts ≡ false → NoneOf f
none f a l b c d e g h (Sql k) = no_sql f a l k
none f a l b c d e g h UnknownTable = b
none f a l b c d e g h UnknownColumn = c
none f a l b c d e g h TypeMismatch = d
none f a l b c d e g h KeyChanged = e
none f a l b c d e g h DuplicateTable = g
none f a l b c d e g h WrongCount = h
none f a l b c d e g h Shape = refl
none f a l b c d e g h NoMemory = refl

-- in a known table
abbrev known : Bool → Bool → Bool → Bool → Faults
known column mix key count = record no_faults { unknown_column = column; mixes = mix; changes_key = key; miscounts = count }

tested : (mix key count : Bool) (at : ℕ) (b : Bound)
    → Judged (known false mix key count) (unless mix at TypeMismatch (unless key at KeyChanged (unless count at WrongCount (Ok b))))
tested true key count at b = λ o. (
  refl,
  lower (known false true key count) 4 (λ h. (refl, refl)) (λ h. refl) (λ h. refl) (λ h. absurd (omega arith)) (λ h. absurd (omega arith))
      (λ h. refl) (λ h. absurd (omega arith)),
)
tested false true count at b = λ o. (
  refl,
  lower (known false false true count) 5 (λ h. (refl, refl)) (λ h. refl) (λ h. refl) (λ h. refl) (λ h. absurd (omega arith)) (λ h. refl)
      (λ h. absurd (omega arith)),
)
tested false false true at b = λ o.
    (refl, lower (known false false false true) 7 (λ h. (refl, refl)) (λ h. refl) (λ h. refl) (λ h. refl) (λ h. refl) (λ h. refl) (λ h. absurd (omega arith)))
tested false false false at b = none no_faults refl refl refl refl refl refl refl refl

-- a column that is unknown
unknown : (column : Bool) (k : BindErrorKind) → Blames column k → k ≢ Sql sql.NumberTooLarge → IsLeast (known column false false false) k
unknown column (Sql k) h o = absurd (o (ap Sql h))
unknown column UnknownColumn h o =
    (h, lower (known column false false false) 3 (λ h. (refl, refl)) (λ h. refl) (λ h. absurd (omega arith)) (λ h. refl) (λ h. refl) (λ h. refl) (λ h. refl))
unknown column UnknownTable h o = absurd h
unknown column TypeMismatch h o = absurd h
unknown column KeyChanged h o = absurd h
unknown column DuplicateTable h o = absurd h
unknown column WrongCount h o = absurd h
unknown column Shape h o = absurd h
unknown column NoMemory h o = absurd h

module _ {A : Type 0} (t : Table) (names : List Name) (mixes key counts : A → Bool) (at : ℕ) (made : A → Bound) where
  -- what is said is tested by its types, by its key and by its counts
  abbrev pub tests : A → Bind Bound
  tests x = unless (mixes x) at TypeMismatch (unless (key x) at KeyChanged (unless (counts x) at WrongCount (Ok (made x))))

  pub said-judged : (said : Bind A) → Tells (names_unknown t names) said → Judged (faults_by t names said mixes key counts) (said >>= tests)
  said-judged (Ok x) h =
      subst (λ b. Judged (known b (mixes x) (key x) (counts x)) (tests x)) (sym h) (tested (mixes x) (key x) (counts x) at (made x))
  said-judged (Err e) h = λ o. unknown (names_unknown t names) e.kind h o

-- one part behind another says what both say
both_first : {A B C : Type 0} (r : Bind A) (s : Bind B) (f : A × B → Bind C) → (both r s >>= f) ≡ (r >>= λ a. (s >>= λ b. f (a, b)))
both_first (Ok a) (Ok b) f = refl
both_first (Ok a) (Err e) f = refl
both_first (Err e) s f = refl

three : {A B C D : Type 0} (r : Bind A) (s : Bind B) (u : Bind C) (f : A × (B × C) → Bind D)
    → (both r (both s u) >>= f) ≡ (r >>= λ a. (s >>= λ b. (u >>= λ c. f (a, (b, c)))))
three (Ok a) (Ok b) (Ok c) f = refl
three (Ok a) (Ok b) (Err e) f = refl
three (Ok a) (Err e) u f = refl
three (Err e) s u f = refl

-- ---- statements

abbrev Told : {X : Type 0} → (Table → Faults) → (ℕ × Table → Bind X) → Type 0
Told f g = (x : ℕ × Table) → Judged (f x.1) (g x)

in-table : (tables : List Table) (o : Option ℕ) (at : ℕ) (f : Table → Faults) (g : ℕ × Table → Bind Bound) → Told f g
    → Judged (in_table tables o f) (elim o [ None ↦ refuse {X = ℕ × Table} at UnknownTable | Some t ↦ Ok (t, get_or tables t no_table) ] >>= g)
in-table tables None at f g h = λ o. (
  refl,
  lower (record no_faults { unknown_table = true }) 2 (λ h. (refl, refl)) (λ h. absurd (omega arith)) (λ h. refl) (λ h. refl) (λ h. refl)
      (λ h. refl) (λ h. refl),
)
in-table tables (Some i) at f g h = h (i, get_or tables i no_table)

fault_free : NoneOf no_faults
fault_free = none no_faults refl refl refl refl refl refl refl refl

insert-judged : (at : ℕ) (names : Option (Chain Name)) (rows : Chain (Chain Literal)) → Told (insert_faults at names rows) (λ x. insert x.1 at x.0 names rows)
insert-judged at names rows x =
    let t = x.1 in
    let faults = insert_faults at names rows t in
    let columns = row_columns t at names in
    let values = each (row_values at) (list_of rows) in
    let made : List ℕ × List (List Value) → Bound = λ y. Insert x.0 (key_column t) (map (at_places (places t y.0)) y.1) in
    let mixes : List ℕ × List (List Value) → Bool = λ y. list_any (row_mixes t y.0) y.1 in
    let counts : List ℕ × List (List Value) → Bool = λ y. rows_miscount t y.0 y.1 in
    let told : Tells (names_unknown t (row_names names)) (both columns values) =
    and_values (names_unknown t (row_names names)) columns values (row_columns-tells t at names) (values-tells at (list_of rows)) in
    subst (Judged faults) (both_first columns values (tests t (row_names names) mixes never counts at made))
    (said-judged t (row_names names) mixes never counts at made (both columns values) told)
  where
    and_values : {A B : Type 0} (a : Bool) (r : Bind A) (s : Bind B) → Tells a r → Tells false s → Tells a (both r s)
    and_values a (Ok x) (Ok y) h k = h
    and_values a (Ok x) (Err e) h k = and_error a e.kind k
      where
        and_error : (a : Bool) (k : BindErrorKind) → Blames false k → Blames a k
        and_error a (Sql k) h = h
        and_error a UnknownColumn h = absurd (cc h)
        and_error a UnknownTable h = h
        and_error a TypeMismatch h = h
        and_error a KeyChanged h = h
        and_error a DuplicateTable h = h
        and_error a WrongCount h = h
        and_error a Shape h = h
        and_error a NoMemory h = h
    and_values a (Err e) s h k = h

select-judged : (at : ℕ) (s : tree.Select) → Told (select_faults at s) (λ x. select x.1 at x.0 s)
select-judged at s x =
    let t = x.1 in
    let names = item_names s.items ++ (order_names s.order ++ where_names s.where') in
    let out = output t at s.items in
    let by = sort_keys t at s.order in
    let c = where_of t at s.where' in
    let made : Output × (List SortKey × Condition) → Bound = λ y. Select x.0 (key_of (key_column t) y.1.1) y.1.1 y.1.0 y.0 (lock_of (tree.written_lock s.items s.lock)) in
    let mixes : Output × (List SortKey × Condition) → Bool = λ y. output_mixes t y.0 || condition_mixes t y.1.1 in
    subst (Judged (select_faults at s t)) (three out by c (tests t names mixes never never at made))
    (said-judged t names mixes never never at made (both out (both by c))
    (both-tells t (item_names s.items) (order_names s.order ++ where_names s.where') out (both by c) (output-tells t at s.items)
    (both-tells t (order_names s.order) (where_names s.where') by c (sort_keys-tells t at s.order) (where-tells t at s.where'))))

update-judged : (at : ℕ) (as' : Chain tree.Assignment) (c : Option tree.Condition) → Told (update_faults at as' c) (λ x. update x.1 at x.0 as' c)
update-judged at as' c x =
    let t = x.1 in
    let names = each_of assignment_names (list_of as') ++ where_names c in
    let sets = each (assignment t at) (list_of as') in
    let made : List Assignment × Condition → Bound = λ y. Update x.0 (key_of (key_column t) y.1) y.0 y.1 in
    let mixes : List Assignment × Condition → Bool = λ y. list_any (assignment_mixes t) y.0 || condition_mixes t y.1 in
    let key : List Assignment × Condition → Bool = λ y. sets_key (key_column t) y.0 in
    let counts : List Assignment × Condition → Bool = λ y. repeats [] (set_columns y.0) in
    subst (Judged (update_faults at as' c t)) (both_first sets (where_of t at c) (tests t names mixes key counts at made))
    (said-judged t names mixes key counts at made (both sets (where_of t at c))
    (both-tells t (each_of assignment_names (list_of as')) (where_names c) sets (where_of t at c)
    (each-tells t assignment_names (assignment t at) (assignment-tells t at) (list_of as')) (where-tells t at c)))

delete-judged : (at : ℕ) (c : Option tree.Condition) → Told (delete_faults at c) (λ x. delete x.1 at x.0 c)
delete-judged at c x =
    let made : Condition → Bound = λ d. Delete x.0 (key_of (key_column x.1) d) d in
    said-judged x.1 (where_names c) (condition_mixes x.1) never never at made (where_of x.1 at c) (where-tells x.1 at c)

judged : (tables : List Table) (at : ℕ) (s : tree.Statement) → Judged (statement_faults tables at s) (statement tables at s)
judged tables at (tree.CreateTable n ps) = λ o.
    (refl, lower (record no_faults { not_here = true }) 1 (λ h. absurd (omega arith)) (λ h. refl) (λ h. refl) (λ h. refl) (λ h. refl) (λ h. refl) (λ h. refl))
judged tables at (tree.Insert n names rows) = in-table tables (table_number tables n) at (insert_faults at names rows) _ (insert-judged at names rows)
judged tables at (tree.Selects s) = in-table tables (table_number tables s.table) at (select_faults at s) _ (select-judged at s)
judged tables at (tree.Update n as' c) = in-table tables (table_number tables n) at (update_faults at as' c) _ (update-judged at as' c)
judged tables at (tree.Delete n c) = in-table tables (table_number tables n) at (delete_faults at c) _ (delete-judged at c)
judged tables at (tree.Begin start level) = fault_free
judged tables at (tree.Ends w noise) = fault_free
judged tables at (tree.Lock w n mode nowait) = in-table tables (table_number tables n) at (λ t. no_faults) (λ x. Ok (Lock x.0 (mode_of mode) nowait)) (λ x. fault_free)
judged tables at (tree.Set setting) = fault_free

pub told-least : (tables : List Table) (at : ℕ) (s : tree.Statement) (e : BindError) → statement tables at s ≡ Err e → e.kind ≢ Sql sql.NumberTooLarge
    → IsLeast (statement_faults tables at s) e.kind
told-least tables at s e h = subst (Judged (statement_faults tables at s)) h (judged tables at s)

pub bound-none : (tables : List Table) (at : ℕ) (s : tree.Statement) (b : Bound) → statement tables at s ≡ Ok b → NoneOf (statement_faults tables at s)
bound-none tables at s b h = subst (Judged (statement_faults tables at s)) h (judged tables at s)

-- ---- declarations

abbrev of_table : Bool → Bool → Bool → Bool → Faults
of_table large column twice count =
    record no_faults { too_large = large; unknown_column = column; duplicate = twice; miscounts = count }

abbrev Least : {X : Type 0} → Faults → Bind X → Type 0
Least f (Ok b) = NoneOf f
Least f (Err e) = IsLeast f e.kind

create_if : (a b c d : Bool) (at : ℕ) (made : List Table)
    → Least (of_table a b c d)
    (elim (cond a (Some (Sql sql.TooLarge)) (cond b (Some UnknownColumn) (cond c (Some DuplicateTable) (cond d (Some WrongCount) None))))
    [ Some k ↦ refuse at k | None ↦ Ok made ])
create_if true b c d at made = (
  refl,
  lower (of_table true b c d) 1 (λ h. absurd (omega arith)) (λ h. absurd (omega arith)) (λ h. absurd (omega arith)) (λ h. refl) (λ h. refl)
      (λ h. absurd (omega arith)) (λ h. absurd (omega arith)),
)
create_if false true c d at made = (
  refl,
  lower (of_table false true c d) 3 (λ h. (refl, refl)) (λ h. refl) (λ h. absurd (omega arith)) (λ h. refl) (λ h. refl)
      (λ h. absurd (omega arith)) (λ h. absurd (omega arith)),
)
create_if false false true d at made = (
  refl,
  lower (of_table false false true d) 6 (λ h. (refl, refl)) (λ h. refl) (λ h. refl) (λ h. refl) (λ h. refl) (λ h. absurd (omega arith))
      (λ h. absurd (omega arith)),
)
create_if false false false true at made = (
  refl,
  lower (of_table false false false true) 7 (λ h. (refl, refl)) (λ h. refl) (λ h. refl) (λ h. refl) (λ h. refl) (λ h. refl)
      (λ h. absurd (omega arith)),
)
create_if false false false false at made = fault_free

created : (tables : List Table) (at : ℕ) (n : Name) (ps : Chain TablePart) → Least (declaration_faults tables n ps) (create tables at n ps)
created tables at n ps =
    let columns = each_of part_columns (list_of ps) in
    let keys = each_of part_keys (list_of ps) in
    create_if (nat_lt MAX_COLUMNS (length columns) || nat_le MAX_TABLES (length tables)) (has_unknown columns keys) (is_some (table_place tables n))
    (repeated [] columns || nat_lt 1 (length keys)) at (tables ++ declared n columns keys ∷ [])

pub told-declared : (tables : List Table) (at : ℕ) (n : Name) (ps : Chain TablePart) (e : BindError) → create tables at n ps ≡ Err e
    → IsLeast (declaration_faults tables n ps) e.kind
told-declared tables at n ps e h = subst (Least (declaration_faults tables n ps)) h (created tables at n ps)
