-- Expressions and conditions over names become expressions and conditions over numbers.
use Rattle.std.specs.Prelude.{ℕ, zero, suc, List, [], ◌∷◌, length, Option, Some, None, Ok}
use Rattle.lock_modes.specs.declared.value.Value.{Value}
use Rattle.lock_modes.specs.declared.value.Value.TheVariants.{Int, Text}
use Rattle.sql_grammar.specs.Numbers.{whole_of}
use Rattle.sql_grammar.specs.Tree as tree
use Rattle.sql_grammar.specs.Tree.{Chain, Term, Sum}
use Rattle.sql_grammar.specs.declared.expression.AddSign.{AddSign as Sign}
use Rattle.sql_grammar.specs.declared.expression.AddSign.TheVariants.{Plus, Minus}
use Rattle.sql_grammar.specs.declared.expression.Comparison.{Comparison as Compared}
use Rattle.sql_grammar.specs.declared.expression.Comparison.TheVariants as compared
use Rattle.sql_grammar.specs.declared.expression.Factor.{Factor}
use Rattle.sql_grammar.specs.declared.expression.Factor.TheVariants as factor
use Rattle.sql_grammar.specs.declared.expression.Literal.{Literal}
use Rattle.sql_grammar.specs.declared.expression.Literal.TheVariants.{Whole, Quoted}
use Rattle.sql_grammar.specs.declared.error.SqlErrorKind.TheVariants.{NumberTooLarge}
use Rattle.bound_statements.specs.Conditions.{negation, conjunction, disjunction}
use Rattle.bound_statements.specs.declared.condition.Comparison.{Comparison}
use Rattle.bound_statements.specs.declared.condition.Comparison.TheVariants.{Same, Differs, Below, AtMost, Above, AtLeast}
use Rattle.bound_statements.specs.declared.condition.Condition.{Condition}
use Rattle.bound_statements.specs.declared.condition.Condition.TheVariants.{Always, Compares}
use Rattle.bound_statements.specs.declared.expression.AddSign.{AddSign}
use Rattle.bound_statements.specs.declared.expression.AddSign.TheVariants as sign
use Rattle.bound_statements.specs.declared.expression.Expression.{Expression}
use Rattle.bound_statements.specs.declared.expression.Operand.{Operand}
use Rattle.bound_statements.specs.declared.expression.Operand.TheVariants as operands
use Rattle.bound_statements.specs.declared.expression.Product.{Product}
use Rattle.bound_statements.specs.declared.expression.SignedProduct.{SignedProduct}
use Rattle.binding_model.specs.declared.error.BindErrorKind.TheVariants.{Sql}
use Rattle.binding_model.specs.declared.joint.Joint.{Joint}
use Rattle.binding_model.specs.declared.joint.Joint.TheVariants.{All, Any}
use Rattle.binding_model.specs.declared.tables.Table.{Table}
use Rattle.binding_model.specs.Names.{head, tail}
use Rattle.binding_model.specs.Refusals.{Bind, ◌>>=◌, refuse, with_front, each}
use Rattle.binding_model.specs.Tables.{column}

-- ---- expressions

abbrev pub value : ℕ → Literal → Bind Value
value at (Whole negative digits) = elim (whole_of negative digits) [ None ↦ refuse at (Sql NumberTooLarge) | Some z ↦ Ok (Int z) ]
value at (Quoted text) = Ok (Text text)

abbrev pub operand : Table → ℕ → Factor → Bind Operand
operand t at (factor.Value l) = value at l >>= λ v. Ok (operands.Literal v)
operand t at (factor.Column n) = column t at n >>= λ c. Ok (operands.Column c)

abbrev pub product : Table → ℕ → Term → Bind Product
product t at term =
    operand t at (head term) >>= λ o. (each (operand t at) (tail term) >>= λ os. Ok (record { first = o; more = os }))

abbrev pub sign_of : Sign → AddSign
sign_of Plus = sign.Plus
sign_of Minus = sign.Minus

abbrev pub sum_head : Sum → Term
sum_head (tree.Only term) = term
sum_head (tree.Then term s more) = term

abbrev pub sum_tail : Sum → List (Sign × Term)
sum_tail (tree.Only term) = []
sum_tail (tree.Then term s more) = (s, sum_head more) ∷ sum_tail more

abbrev pub signed : Table → ℕ → Sign × Term → Bind SignedProduct
signed t at x = product t at x.1 >>= λ p. Ok (record { sign = sign_of x.0; product = p })

abbrev pub expression : Table → ℕ → Sum → Bind Expression
expression t at sum =
    product t at (sum_head sum) >>= λ p. (each (signed t at) (sum_tail sum) >>= λ ps. Ok (record { first = p; more = ps }))

-- ---- chains of conditions, of which neighbours are joined again and again until one is left

abbrev pub join : Joint → Condition → Condition → Condition
join All a b = conjunction a b
join Any a b = disjunction a b

abbrev pub paired : Joint → List Condition → List Condition
paired j [] = []
paired j (a ∷ []) = a ∷ []
paired j (a ∷ b ∷ cs) = join j a b ∷ paired j cs

abbrev pub first_or_always : List Condition → Condition
first_or_always [] = Always
first_or_always (c ∷ cs) = c

-- in so many turns, of which as many as there are parts are enough
abbrev pub joined_in : ℕ → Joint → List Condition → Condition
joined_in zero j cs = first_or_always cs
joined_in (suc n) j [] = Always
joined_in (suc n) j (c ∷ []) = c
joined_in (suc n) j (a ∷ b ∷ cs) = joined_in n j (paired j (a ∷ b ∷ cs))

abbrev pub joined : Joint → List Condition → Condition
joined j cs = joined_in (length cs) j cs

-- ---- conditions; parentheses leave no trace

abbrev pub comparison : Compared → Comparison
comparison compared.Equal = Same
comparison compared.Unequal = Differs
comparison compared.Differs = Differs
comparison compared.Less = Below
comparison compared.AtMost = AtMost
comparison compared.Greater = Above
comparison compared.AtLeast = AtLeast

abbrev mutual
  -- what OR joins
  pub alternatives : tree.Condition → Table → ℕ → Bind (List Condition)
  alternatives (tree.Alone p) t at = parts p t at >>= λ cs. Ok (joined All cs ∷ [])
  alternatives (tree.Or p more) t at = parts p t at >>= λ cs. with_front (joined All cs ∷ []) (alternatives more t at)

  -- what AND joins
  pub parts : tree.Part → Table → ℕ → Bind (List Condition)
  parts (tree.Single a) t at = atom a t at >>= λ c. Ok (c ∷ [])
  parts (tree.And a more) t at = atom a t at >>= λ c. with_front (c ∷ []) (parts more t at)

  pub atom : tree.Atom → Table → ℕ → Bind Condition
  atom (tree.Compares a s b) t at = expression t at a >>= λ x. (expression t at b >>= λ y. Ok (Compares x (comparison s) y))
  atom (tree.Not a) t at = atom a t at >>= λ c. Ok (negation c)
  atom (tree.Group more) t at = alternatives more t at >>= λ cs. Ok (joined Any cs)

abbrev pub part : tree.Part → Table → ℕ → Bind Condition
part p t at = parts p t at >>= λ cs. Ok (joined All cs)

abbrev pub condition : tree.Condition → Table → ℕ → Bind Condition
condition c t at = alternatives c t at >>= λ cs. Ok (joined Any cs)

abbrev pub where_of : Table → ℕ → Option tree.Condition → Bind Condition
where_of t at None = Ok Always
where_of t at (Some c) = condition c t at
