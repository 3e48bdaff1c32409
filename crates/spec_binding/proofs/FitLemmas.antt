-- What is bound fits the tables.
use Rattle.std.proofs.Common.{◌≡◌, refl, sym, subst, ℕ, zero, suc, ◌+◌, ◌<◌, ◌≤◌, Bool, true, false, List, [], ◌∷◌, length, map, All, get_or, Option, Some}
use Rattle.std.proofs.Common.{None, Ok, Err, arith}
use Rattle.std.specs.Prelude.{◌||◌, not, nat_eq}
use Rattle.std.specs.List.{list_any}
use Rattle.std.proofs.lemmas.Bool.{eqb-true}
use Rattle.std.proofs.lemmas.List.Elements.{All-nil, All-cons, All-head, All-tail}
use Rattle.lock_modes.specs.declared.value.Value.{Value}
use Rattle.sql_grammar.specs.Tree as tree
use Rattle.sql_grammar.specs.Tree.{Chain}
use Rattle.sql_grammar.specs.declared.expression.Factor.{Factor}
use Rattle.sql_grammar.specs.declared.expression.Factor.TheVariants as factor
use Rattle.sql_grammar.specs.declared.expression.Literal.{Literal}
use Rattle.sql_grammar.specs.declared.statement.Aggregate.{Aggregate as Aggregated}
use Rattle.sql_grammar.specs.declared.statement.Aggregate.TheVariants as aggregated
use Rattle.sql_grammar.specs.declared.statement.EndWord.{EndWord}
use Rattle.sql_grammar.specs.declared.statement.EndWord.TheVariants as word
use Rattle.sql_grammar.specs.declared.statement.SortKey.{SortKey as Sorted}
use Rattle.bound_statements.specs.declared.condition.Condition.{Condition, more_of-Condition, end_of-Condition}
use Rattle.bound_statements.specs.declared.condition.Condition.TheVariants.{Always, Compares, Not', And', Or'}
use Rattle.bound_statements.specs.declared.expression.Expression.{Expression}
use Rattle.bound_statements.specs.declared.expression.Operand.{Operand}
use Rattle.bound_statements.specs.declared.expression.Operand.TheVariants as operands
use Rattle.bound_statements.specs.declared.expression.Product.{Product}
use Rattle.bound_statements.specs.declared.expression.SignedProduct.{SignedProduct}
use Rattle.bound_statements.specs.declared.statement.Aggregate.{Aggregate}
use Rattle.bound_statements.specs.declared.statement.Aggregate.TheVariants as aggregates
use Rattle.bound_statements.specs.declared.statement.Assignment.{Assignment}
use Rattle.bound_statements.specs.declared.statement.Bound.{Bound}
use Rattle.bound_statements.specs.declared.statement.Bound.TheVariants.{Insert, Select, Update, Delete}
use Rattle.bound_statements.specs.declared.statement.Output.{Output}
use Rattle.bound_statements.specs.declared.statement.Output.TheVariants.{Columns, Aggregates}
use Rattle.binding_model.specs.declared.TheConstants.{MAX_TABLES}
use Rattle.binding_model.specs.declared.error.BindErrorKind.{BindErrorKind}
use Rattle.binding_model.specs.declared.error.BindErrorKind.TheVariants.{UnknownTable, UnknownColumn, TypeMismatch, KeyChanged, WrongCount}
use Rattle.binding_model.specs.declared.joint.Joint.{Joint}
use Rattle.binding_model.specs.declared.joint.Joint.TheVariants.{All as AllOf, Any}
use Rattle.binding_model.specs.declared.tables.ColumnType.{ColumnType}
use Rattle.binding_model.specs.declared.tables.ColumnType.TheVariants.{Number, Text}
use Rattle.binding_model.specs.declared.tables.Table.{Table}
use Rattle.bound_specs.specs.Fits.{IsColumn, IsThere, ColumnOf, OperandIs, FactorsAre, ProductIs, TermsAre, ExpressionIs, EachComparison, ComparisonFits}
use Rattle.bound_specs.specs.Fits.{ConditionFits}
use Rattle.bound_specs.specs.Fits.{AggregateFits, OutputFits, SortKeyFits, AssignmentFits, RowFits, OfTable, Fits}
use Rattle.binding_model.specs.KeyParts.{key_of}
use Rattle.binding_model.specs.Names.{Name, head, tail, list_of, repeats}
use Rattle.binding_model.specs.Refusals.{Bind, ◌>>=◌, refuse, unless, with_front, each}
use Rattle.binding_model.specs.Statements.{numbers_from, places, at_places, rows_miscount, set_columns, sets_key, row_columns, row_values, insert, lock_of}
use Rattle.binding_model.specs.Statements.{aggregate, output, sort_key, sort_keys, select, assignment, update, delete, end_of, statement}
use Rattle.binding_model.specs.Tables.{key_column, column_number, column, no_table, table_place, table_number, table, type_of, width}
use Rattle.binding_model.specs.Translation.{value, operand, product, signed, sum_head, sum_tail, expression}
use Rattle.binding_model.specs.Translation.{join, paired, first_or_always, joined_in, joined, alternatives, parts, atom, where_of}
use Rattle.binding_model.specs.Types.{differ, operand_type, is_text, any_text, product_has_text, any_has_text, expression_type, expression_mixes}
use Rattle.binding_model.specs.Types.{comparison_mixes, condition_mixes, assignment_mixes, aggregate_mixes, output_mixes, row_mixes}
use Rattle.binding_model.specs.Statements.{has_other_width}
use Rattle.spec_binding.proofs.RowLemmas.{or_false, same_if, row-typed}
use Rattle.spec_binding.proofs.SentLemmas.{IfBound, then-bound, bound-is, position-below, below-is, column-below, length-places}

-- ---- one part behind another

pub then-both : {A X : Type 0} (P : A → Type 0) (Q : X → Type 0) (r : Bind A) (f : A → Bind X) → IfBound P r → ((a : A) → P a → IfBound Q (f a))
    → IfBound Q (r >>= f)
then-both P Q (Ok a) f h k = k a h
then-both P Q (Err e) f h k = tt

front-bound : {X : Type 0} (P : X → Type 0) (x : X) (r : Bind (List X)) → P x → IfBound (All P) r → IfBound (All P) (with_front (x ∷ []) r)
front-bound P x (Ok xs) h k = All-cons P x xs h k
front-bound P x (Err e) h k = tt

pub each-bound : {A X : Type 0} (P : X → Type 0) (f : A → Bind X) → ((a : A) → IfBound P (f a)) → (as' : List A) → IfBound (All P) (each f as')
each-bound P f h [] = All-nil P
each-bound P f h (a ∷ as') = then-both P (All P) (f a) _ (h a) (λ x p. front-bound P x (each f as') p (each-bound P f h as'))

-- what passed the test
unless-passed : {X : Type 0} (P : X → Type 0) (test : Bool) (at : ℕ) (kind : BindErrorKind) (r : Bind X) → (test ≡ false → IfBound P r)
    → IfBound P (unless test at kind r)
unless-passed P true at kind r h = tt
unless-passed P false at kind r h = h refl

none-All : {A : Type 0} (P : A → Type 0) (test : A → Bool) (Q : A → Type 0) → ((a : A) → P a → test a ≡ false → Q a) → (as' : List A) → All P as'
    → list_any test as' ≡ false → All Q as'
none-All P test Q h [] all e = All-nil Q
none-All P test Q h (a ∷ as') all e =
    let both = or_false (test a) (list_any test as') e in
    All-cons Q a as' (h a (All-head P a as' all) both.0) (none-All P test Q h as' (All-tail P a as' all) both.1)

-- ---- the columns are the table's

column-bound : (t : Table) (at : ℕ) (n : Name) → IfBound (IsColumn t) (column t at n)
column-bound t at n = go (column_number t n) refl
  where
    go : (o : Option ℕ) → column_number t n ≡ o → IfBound (IsColumn t) (elim o [ None ↦ refuse at UnknownColumn | Some c ↦ Ok c ])
    go None e = tt
    go (Some c) e = column-below t n c e

abbrev Known : Table → Operand → Type 0
Known t (operands.Literal v) = Unit {0}
Known t (operands.Column c) = IsColumn t c

abbrev KnownProduct : Table → Product → Type 0
KnownProduct t p = Known t p.first × All (Known t) p.more

abbrev KnownTerm : Table → SignedProduct → Type 0
KnownTerm t s = KnownProduct t s.product

abbrev KnownExpression : Table → Expression → Type 0
KnownExpression t e = KnownProduct t e.first × All (KnownTerm t) e.more

abbrev KnownCondition : Table → Condition → Type 0
KnownCondition t c = EachComparison (λ a b. KnownExpression t a × KnownExpression t b) c

operand-known : (t : Table) (at : ℕ) (f : Factor) → IfBound (Known t) (operand t at f)
operand-known t at (factor.Value l) = then-bound (Known t) (value at l) _ (λ v. tt)
operand-known t at (factor.Column n) = then-both (IsColumn t) (Known t) (column t at n) _ (column-bound t at n) (λ c h. h)

product-known : (t : Table) (at : ℕ) (term : tree.Term) → IfBound (KnownProduct t) (product t at term)
product-known t at term =
    then-both (Known t) (KnownProduct t) (operand t at (head term)) _ (operand-known t at (head term)) (λ o h.
    then-both (All (Known t)) (KnownProduct t) (each (operand t at) (tail term)) _
    (each-bound (Known t) (operand t at) (operand-known t at) (tail term)) (λ os k. (h, k)))

expression-known : (t : Table) (at : ℕ) (s : tree.Sum) → IfBound (KnownExpression t) (expression t at s)
expression-known t at s =
    then-both (KnownProduct t) (KnownExpression t) (product t at (sum_head s)) _ (product-known t at (sum_head s)) (λ p h.
    then-both (All (KnownTerm t)) (KnownExpression t) (each (signed t at) (sum_tail s)) _
    (each-bound (KnownTerm t) (signed t at) (λ x. then-both (KnownProduct t) (KnownTerm t) (product t at x.1) _ (product-known t at x.1)
    (λ q k. k)) (sum_tail s))
    (λ ps k. (h, k)))

module _ (P : Expression → Expression → Type 0) where
  join-each : (j : Joint) (a b : Condition) → EachComparison P a → EachComparison P b → EachComparison P (join j a b)
  join-each AllOf a b h k = (h, k)
  join-each Any a b h k = (h, k)

  paired-each : (j : Joint) (cs : List Condition) → All (EachComparison P) cs → All (EachComparison P) (paired j cs)
  paired-each j [] h = h
  paired-each j (a ∷ []) h = h
  paired-each j (a ∷ b ∷ cs) h =
      let rest = All-tail (EachComparison P) a (b ∷ cs) h in
      All-cons (EachComparison P) (join j a b) (paired j cs)
      (join-each j a b (All-head (EachComparison P) a (b ∷ cs) h) (All-head (EachComparison P) b cs rest))
      (paired-each j cs (All-tail (EachComparison P) b cs rest))

  first-each : (cs : List Condition) → All (EachComparison P) cs → EachComparison P (first_or_always cs)
  first-each [] h = tt
  first-each (c ∷ cs) h = All-head (EachComparison P) c cs h

  joined_in-each : (n : ℕ) (j : Joint) (cs : List Condition) → All (EachComparison P) cs → EachComparison P (joined_in n j cs)
  joined_in-each zero j cs h = first-each cs h
  joined_in-each (suc n) j [] h = tt
  joined_in-each (suc n) j (c ∷ []) h = All-head (EachComparison P) c [] h
  joined_in-each (suc n) j (a ∷ b ∷ cs) h = joined_in-each n j (paired j (a ∷ b ∷ cs)) (paired-each j (a ∷ b ∷ cs) h)

  pub joined-each : (j : Joint) (cs : List Condition) → All (EachComparison P) cs → EachComparison P (joined j cs)
  joined-each j cs h = joined_in-each (length cs) j cs h

module _ (t : Table) (at : ℕ) where
  abbrev Each : Condition → Type 0
  Each c = KnownCondition t c

  abbrev Sides : Expression → Expression → Type 0
  Sides a b = KnownExpression t a × KnownExpression t b

  mutual
    alternatives-known : (c : tree.Condition) → IfBound (All Each) (alternatives c t at)
    alternatives-known (tree.Alone p) =
        then-both (All Each) (All Each) (parts p t at) _ (parts-known p)
        (λ cs h. All-cons Each (joined AllOf cs) [] (joined-each Sides AllOf cs h) (All-nil Each))
    alternatives-known (tree.Or p more) =
        then-both (All Each) (All Each) (parts p t at) _ (parts-known p)
        (λ cs h. front-bound Each (joined AllOf cs) (alternatives more t at) (joined-each Sides AllOf cs h) (alternatives-known more))

    parts-known : (p : tree.Part) → IfBound (All Each) (parts p t at)
    parts-known (tree.Single a) = then-both Each (All Each) (atom a t at) _ (atom-known a) (λ c h. All-cons Each c [] h (All-nil Each))
    parts-known (tree.And a more) = then-both Each (All Each) (atom a t at) _ (atom-known a) (λ c h. front-bound Each c (parts more t at) h (parts-known more))

    atom-known : (a : tree.Atom) → IfBound Each (atom a t at)
    atom-known (tree.Compares a s b) =
        then-both (KnownExpression t) Each (expression t at a) _ (expression-known t at a) (λ x h.
        then-both (KnownExpression t) Each (expression t at b) _ (expression-known t at b) (λ y k. (h, k)))
    atom-known (tree.Not a) = then-both Each Each (atom a t at) _ (atom-known a) (λ c h. h)
    atom-known (tree.Group more) = then-both (All Each) Each (alternatives more t at) _ (alternatives-known more) (λ cs h. joined-each Sides Any cs h)

  pub where-known : (o : Option tree.Condition) → IfBound Each (where_of t at o)
  where-known None = tt
  where-known (Some c) = then-both (All Each) Each (alternatives c t at) _ (alternatives-known c) (λ cs h. joined-each Sides Any cs h)

-- ---- numbers and texts stand where they belong

number_if : (k : ColumnType) → is_text k ≡ false → k ≡ Number
number_if Number e = refl
number_if Text e = absurd (cc e)

operand-is : (t : Table) (o : Operand) → Known t o → OperandIs (ColumnOf t) (operand_type t o) o
operand-is t (operands.Literal v) h = refl
operand-is t (operands.Column c) h = (h, refl)

operand-number : (t : Table) (o : Operand) → Known t o → is_text (operand_type t o) ≡ false → OperandIs (ColumnOf t) Number o
operand-number t o h e = subst (λ k. OperandIs (ColumnOf t) k o) (number_if (operand_type t o) e) (operand-is t o h)

factors-number : (t : Table) (o : Operand) (os : List Operand) → Known t o → All (Known t) os → (is_text (operand_type t o) || any_text t os) ≡ false
    → FactorsAre (ColumnOf t) Number o os
factors-number t o [] h k e = operand-number t o h (or_false (is_text (operand_type t o)) false e).0
factors-number t o (p ∷ ps) h k e =
    let both = or_false (is_text (operand_type t o)) (any_text t (p ∷ ps)) e in (
      refl,
      (
        operand-number t o h both.0,
        none-All (Known t) (λ q. is_text (operand_type t q)) (OperandIs (ColumnOf t) Number) (operand-number t)
            (p ∷ ps) k both.1,
      ),
    )

product-number : (t : Table) (p : Product) → KnownProduct t p → product_has_text t p ≡ false → ProductIs (ColumnOf t) Number p
product-number t p h e = factors-number t p.first p.more h.0 h.1 e

expression-by : (t : Table) (o : Operand) (os : List Operand) (ss : List SignedProduct) → Known t o → All (Known t) os → All (KnownTerm t) ss
    → expression_mixes t (record { first = record { first = o; more = os }; more = ss }) ≡ false
    → TermsAre (ColumnOf t) (expression_type t (record { first = record { first = o; more = os }; more = ss })) (record { first = o; more = os }) ss
expression-by t o [] [] h k l e = operand-is t o h
expression-by t o (p ∷ ps) [] h k l e =
    factors-number t o (p ∷ ps) h k (or_false (product_has_text t (record { first = o; more = p ∷ ps })) false e).0
expression-by t o [] (s ∷ ss) h k l e =
    let both = or_false (product_has_text t (record { first = o; more = [] })) (any_has_text t (s ∷ ss)) e in
    (refl, (factors-number t o [] h k both.0, terms (s ∷ ss) l both.1))
  where
    terms : (ts : List SignedProduct) → All (KnownTerm t) ts → any_has_text t ts ≡ false
        → All (λ (u : SignedProduct). ProductIs (ColumnOf t) Number u.product) ts
    terms ts l e =
        none-All (KnownTerm t) (λ (u : SignedProduct). product_has_text t u.product) (λ (u : SignedProduct). ProductIs (ColumnOf t) Number u.product)
        (λ u h f. product-number t u.product h f) ts l e
expression-by t o (p ∷ ps) (s ∷ ss) h k l e =
    let both = or_false (product_has_text t (record { first = o; more = p ∷ ps })) (any_has_text t (s ∷ ss)) e in
    (refl, (factors-number t o (p ∷ ps) h k both.0, terms (s ∷ ss) l both.1))
  where
    terms : (ts : List SignedProduct) → All (KnownTerm t) ts → any_has_text t ts ≡ false
        → All (λ (u : SignedProduct). ProductIs (ColumnOf t) Number u.product) ts
    terms ts l e =
        none-All (KnownTerm t) (λ (u : SignedProduct). product_has_text t u.product) (λ (u : SignedProduct). ProductIs (ColumnOf t) Number u.product)
        (λ u h f. product-number t u.product h f) ts l e

expression-is : (t : Table) (e : Expression) → KnownExpression t e → expression_mixes t e ≡ false → ExpressionIs (ColumnOf t) (expression_type t e) e
expression-is t e h f = expression-by t e.first.first e.first.more e.more h.0.0 h.0.1 h.1 f

comparison-fits : (t : Table) (a b : Expression) → KnownExpression t a → KnownExpression t b → comparison_mixes t a b ≡ false → ComparisonFits (ColumnOf t) a b
comparison-fits t a b h k e =
    let last = or_false (expression_mixes t a || expression_mixes t b) (differ (expression_type t a) (expression_type t b)) e in
    let sides = or_false (expression_mixes t a) (expression_mixes t b) last.0 in
    let same = same_if (expression_type t a) (expression_type t b) last.1 in
    (expression_type t b, (subst (λ k. ExpressionIs (ColumnOf t) k a) same (expression-is t a h sides.0), expression-is t b k sides.1))

condition-fits : (t : Table) (c : Condition) → KnownCondition t c → condition_mixes t c ≡ false → ConditionFits (ColumnOf t) c
condition-fits t Always h e = tt
condition-fits t (Compares a comparison b) h e = comparison-fits t a b h.0 h.1 e
condition-fits t (Not' _ (more_of-Condition c end_of-Condition)) h e = condition-fits t c h e
condition-fits t (And' _ (more_of-Condition a end_of-Condition) _ (more_of-Condition b end_of-Condition)) h e =
    let both = or_false (condition_mixes t a) (condition_mixes t b) e in (condition-fits t a h.0 both.0, condition-fits t b h.1 both.1)
condition-fits t (Or' _ (more_of-Condition a end_of-Condition) _ (more_of-Condition b end_of-Condition)) h e =
    let both = or_false (condition_mixes t a) (condition_mixes t b) e in (condition-fits t a h.0 both.0, condition-fits t b h.1 both.1)

-- ---- the parts of statements

there : (t : Table) (c : ℕ) → IsColumn t c → IsThere (ColumnOf t) c
there t c h = (type_of t c, (h, refl))

numbers-below : (k n w : ℕ) → k + n ≤ w → All (λ c. c < w) (numbers_from k n)
numbers-below k zero w h = All-nil (λ c. c < w)
numbers-below k (suc n) w h = All-cons (λ c. c < w) k (numbers_from (suc k) n) (omega arith) (numbers-below (suc k) n w (omega arith))

abbrev KnownAggregate : Table → Aggregate → Type 0
KnownAggregate t aggregates.Count = Unit {0}
KnownAggregate t (aggregates.Sum c) = IsColumn t c

abbrev KnownOutput : Table → Output → Type 0
KnownOutput t (Columns cs) = All (IsColumn t) cs
KnownOutput t (Aggregates as') = All (KnownAggregate t) as'

aggregate-known : (t : Table) (at : ℕ) (a : Aggregated) → IfBound (KnownAggregate t) (aggregate t at a)
aggregate-known t at aggregated.Count = tt
aggregate-known t at (aggregated.Total n) = then-both (IsColumn t) (KnownAggregate t) (column t at n) _ (column-bound t at n) (λ c h. h)

output-known : (t : Table) (at : ℕ) (items : tree.Items) → IfBound (KnownOutput t) (output t at items)
output-known t at tree.AllColumns = numbers-below 0 (width t) (width t) (omega arith)
output-known t at (tree.Columns names) =
    then-both (All (IsColumn t)) (KnownOutput t) (each (column t at) (list_of names)) _
    (each-bound (IsColumn t) (column t at) (column-bound t at) (list_of names)) (λ cs h. h)
output-known t at (tree.Aggregates as') =
    then-both (All (KnownAggregate t)) (KnownOutput t) (each (aggregate t at) (list_of as')) _
    (each-bound (KnownAggregate t) (aggregate t at) (aggregate-known t at) (list_of as')) (λ x h. h)

aggregate-fits : (t : Table) (a : Aggregate) → KnownAggregate t a → aggregate_mixes t a ≡ false → AggregateFits (ColumnOf t) a
aggregate-fits t aggregates.Count h e = tt
aggregate-fits t (aggregates.Sum c) h e = (h, number_if (type_of t c) e)

output-fits : (t : Table) (out : Output) → KnownOutput t out → output_mixes t out ≡ false → OutputFits (ColumnOf t) out
output-fits t (Columns cs) h e = λ i d lt. there t (get_or cs i d) (h i d lt)
output-fits t (Aggregates as') h e = none-All (KnownAggregate t) (aggregate_mixes t) (AggregateFits (ColumnOf t)) (aggregate-fits t) as' h e

sorted-known : (t : Table) (at : ℕ) (o : Option (Chain Sorted)) → IfBound (All (SortKeyFits (ColumnOf t))) (sort_keys t at o)
sorted-known t at None = All-nil (SortKeyFits (ColumnOf t))
sorted-known t at (Some ks) =
    each-bound (SortKeyFits (ColumnOf t)) (sort_key t at)
    (λ k. then-both (IsColumn t) (SortKeyFits (ColumnOf t)) (column t at k.column) _ (column-bound t at k.column)
    (there t)) (list_of ks)

abbrev KnownAssignment : Table → Assignment → Type 0
KnownAssignment t a = IsColumn t a.column × KnownExpression t a.value

assignment-known : (t : Table) (at : ℕ) (a : tree.Assignment) → IfBound (KnownAssignment t) (assignment t at a)
assignment-known t at a =
    then-both (IsColumn t) (KnownAssignment t) (column t at a.column) _ (column-bound t at a.column) (λ c h.
    then-both (KnownExpression t) (KnownAssignment t) (expression t at a.value) _ (expression-known t at a.value) (λ e k. (h, k)))

assignment-fits : (t : Table) (a : Assignment) → KnownAssignment t a → assignment_mixes t a ≡ false → AssignmentFits (ColumnOf t) a
assignment-fits t a h e =
    let both = or_false (expression_mixes t a.value) (differ (type_of t a.column) (expression_type t a.value)) e in (
      type_of t a.column,
      (
        (h.0, refl),
        subst (λ k. ExpressionIs (ColumnOf t) k a.value) (sym (same_if (type_of t a.column) (expression_type t a.value) both.1))
            (expression-is t a.value h.1 both.0),
      ),
    )

-- ---- statements

abbrev Named : List Table → ℕ × Table → Type 0
Named tables x = (x.0 < length tables) × (x.1 ≡ get_or tables x.0 no_table)

table-named : (tables : List Table) (at : ℕ) (n : Name) → IfBound (Named tables) (table tables at n)
table-named tables at n = go (table_number tables n) refl
  where
    go : (o : Option ℕ) → table_number tables n ≡ o
        → IfBound (Named tables) (elim o [ None ↦ refuse at UnknownTable | Some t ↦ Ok (t, get_or tables t no_table) ])
    go None e = tt
    go (Some i) e =
        let a = below-is MAX_TABLES (table_place tables n) i e in
        let below : i < 0 + length tables = position-below _ 0 tables i a.0 in
        (omega (arith, below), refl)

of-table : (tables : List Table) (P : Table → Type 0) (x : ℕ × Table) → Named tables x → P x.1 → OfTable tables x.0 P
of-table tables P x h p = (h.0, subst P h.1 p)

abbrev NumbersBelow : Table → List ℕ → Type 0
NumbersBelow t cs = All (IsColumn t) cs

columns-known : (t : Table) (at : ℕ) (o : Option (Chain Name)) → IfBound (NumbersBelow t) (row_columns t at o)
columns-known t at None = numbers-below 0 (width t) (width t) (omega arith)
columns-known t at (Some names) = each-bound (IsColumn t) (column t at) (column-bound t at) (list_of names)

same_count : (m n : ℕ) (b : Bool) → (not (nat_eq m n) || b) ≡ false → m ≡ n
same_count m n b e = go (nat_eq m n) refl e
  where
    go : (test : Bool) → nat_eq m n ≡ test → (not test || b) ≡ false → m ≡ n
    go true s h = eqb-true m n s
    go false s h = absurd (cc h)

-- each row that was tested has its values where they belong
rows-fit : (t : Table) (columns : List ℕ) (rows : List (List Value)) → NumbersBelow t columns → list_any (row_mixes t columns) rows ≡ false
    → rows_miscount t columns rows ≡ false → All (RowFits t) (map (at_places (places t columns)) rows)
rows-fit t columns rows known typed counted =
    let rest = or_false (not (nat_eq (length columns) (width t))) (repeats [] columns || has_other_width (width t) rows) counted in
    let once = or_false (repeats [] columns) (has_other_width (width t) rows) rest.1 in
    let len : length columns ≡ width t = same_count (length columns) (width t) (repeats [] columns || has_other_width (width t) rows) counted in
    each-fits rows typed once.1 len once.0
  where
    each-fits : (rows : List (List Value)) → list_any (row_mixes t columns) rows ≡ false → has_other_width (width t) rows ≡ false
        → length columns ≡ width t → repeats [] columns ≡ false → All (RowFits t) (map (at_places (places t columns)) rows)
    each-fits [] e f len once = All-nil (RowFits t)
    each-fits (row ∷ rows) e f len once =
        let typed = or_false (row_mixes t columns row) (list_any (row_mixes t columns) rows) e in
        let wide = same_count (length row) (width t) (has_other_width (width t) rows) f in
        let others = or_false (not (nat_eq (length row) (width t))) (has_other_width (width t) rows) f in
        All-cons (RowFits t) (at_places (places t columns) row) (map (at_places (places t columns)) rows)
        (length-places t columns row, row-typed t columns row len once known wide typed.0)
        (each-fits rows typed.1 others.1 len once)

insert-fits : (tables : List Table) (at : ℕ) (names : Option (Chain Name)) (rows : Chain (Chain Literal)) (x : ℕ × Table) → Named tables x
    → IfBound (Fits tables) (insert x.1 at x.0 names rows)
insert-fits tables at names rows x h =
    let t = x.1 in
    then-both (NumbersBelow t) (Fits tables) (row_columns t at names) _ (columns-known t at names) (λ columns known.
    then-bound (Fits tables) (each (row_values at) (list_of rows)) _ (λ values.
    let made : Bind Bound = Ok (Insert x.0 (key_column t) (map (at_places (places t columns)) values)) in
    unless-passed (Fits tables) (list_any (row_mixes t columns) values) at TypeMismatch (unless (rows_miscount t columns values) at WrongCount made) (λ typed.
    unless-passed (Fits tables) (rows_miscount t columns values) at WrongCount made (λ counted.
    of-table tables (λ t'. (key_column t ≡ key_column t') × All (RowFits t') (map (at_places (places t columns)) values)) x h
    (refl, rows-fit t columns values known typed counted)))))

select-fits : (tables : List Table) (at : ℕ) (s : tree.Select) (x : ℕ × Table) → Named tables x → IfBound (Fits tables) (select x.1 at x.0 s)
select-fits tables at s x h =
    let t = x.1 in
    then-both (KnownOutput t) (Fits tables) (output t at s.items) _ (output-known t at s.items) (λ out o.
    then-both (All (SortKeyFits (ColumnOf t))) (Fits tables) (sort_keys t at s.order) _ (sorted-known t at s.order) (λ by b.
    then-both (KnownCondition t) (Fits tables) (where_of t at s.where') _ (where-known t at s.where') (λ c k.
    let made : Bind Bound = Ok (Select x.0 (key_of (key_column t) c) c by out (lock_of (tree.written_lock s.items s.lock))) in
    unless-passed (Fits tables) (output_mixes t out || condition_mixes t c) at TypeMismatch made (λ e.
    let both = or_false (output_mixes t out) (condition_mixes t c) e in
    of-table tables (λ t'. OutputFits (ColumnOf t') out × (All (SortKeyFits (ColumnOf t')) by × ConditionFits (ColumnOf t') c)) x h
    (output-fits t out o both.0, (b, condition-fits t c k both.1))))))

update-fits : (tables : List Table) (at : ℕ) (as' : Chain tree.Assignment) (c : Option tree.Condition) (x : ℕ × Table) → Named tables x
    → IfBound (Fits tables) (update x.1 at x.0 as' c)
update-fits tables at as' c x h =
    let t = x.1 in
    then-both (All (KnownAssignment t)) (Fits tables) (each (assignment t at) (list_of as')) _
    (each-bound (KnownAssignment t) (assignment t at) (assignment-known t at) (list_of as')) (λ sets known.
    then-both (KnownCondition t) (Fits tables) (where_of t at c) _ (where-known t at c) (λ d k.
    let made : Bind Bound = Ok (Update x.0 (key_of (key_column t) d) sets d) in
    let counted = unless (repeats [] (set_columns sets)) at WrongCount made in
    unless-passed (Fits tables) (list_any (assignment_mixes t) sets || condition_mixes t d) at TypeMismatch
    (unless (sets_key (key_column t) sets) at KeyChanged counted) (λ e.
    let both = or_false (list_any (assignment_mixes t) sets) (condition_mixes t d) e in
    unless-passed (Fits tables) (sets_key (key_column t) sets) at KeyChanged counted (λ e'.
    unless-passed (Fits tables) (repeats [] (set_columns sets)) at WrongCount made (λ e''.
    of-table tables (λ t'. (All (AssignmentFits (ColumnOf t')) sets × ConditionFits (ColumnOf t') d) × (sets_key (key_column t') sets ≡ false)) x h (
      (none-All (KnownAssignment t) (assignment_mixes t) (AssignmentFits (ColumnOf t)) (assignment-fits t) sets known both.0, condition-fits t d k both.1),
      e',
    ))))))

delete-fits : (tables : List Table) (at : ℕ) (c : Option tree.Condition) (x : ℕ × Table) → Named tables x → IfBound (Fits tables) (delete x.1 at x.0 c)
delete-fits tables at c x h =
    let t = x.1 in
    then-both (KnownCondition t) (Fits tables) (where_of t at c) _ (where-known t at c) (λ d k.
    unless-passed (Fits tables) (condition_mixes t d) at TypeMismatch (Ok (Delete x.0 (key_of (key_column t) d) d)) (λ e.
    of-table tables (λ t'. ConditionFits (ColumnOf t') d) x h (condition-fits t d k e)))

end-fits : (tables : List Table) (w : EndWord) → Fits tables (end_of w)
end-fits tables word.Commit = tt
end-fits tables word.End = tt
end-fits tables word.Rollback = tt
end-fits tables word.Abort = tt

in-table : (tables : List Table) (at : ℕ) (n : Name) (f : ℕ × Table → Bind Bound) → ((x : ℕ × Table) → Named tables x → IfBound (Fits tables) (f x))
    → IfBound (Fits tables) (table tables at n >>= f)
in-table tables at n f h = then-both (Named tables) (Fits tables) (table tables at n) f (table-named tables at n) h

pub statement-fits : (tables : List Table) (at : ℕ) (s : tree.Statement) → IfBound (Fits tables) (statement tables at s)
statement-fits tables at (tree.CreateTable n ps) = tt
statement-fits tables at (tree.Insert n names rows) = in-table tables at n _ (insert-fits tables at names rows)
statement-fits tables at (tree.Selects s) = in-table tables at s.table _ (select-fits tables at s)
statement-fits tables at (tree.Update n as' c) = in-table tables at n _ (update-fits tables at as' c)
statement-fits tables at (tree.Delete n c) = in-table tables at n _ (delete-fits tables at c)
statement-fits tables at (tree.Begin start level) = tt
statement-fits tables at (tree.Ends w noise) = end-fits tables w
statement-fits tables at (tree.Lock w n mode r) = in-table tables at n _ (λ x h. h.0)
statement-fits tables at (tree.Set setting) = tt

pub bound-fits : (tables : List Table) (at : ℕ) (s : tree.Statement) (b : Bound) → statement tables at s ≡ Ok b → Fits tables b
bound-fits tables at s b e = bound-is (Fits tables) (statement tables at s) b (statement-fits tables at s) e
