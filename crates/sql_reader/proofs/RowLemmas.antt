-- What a text spells passes no limit, so an INSERT has few rows.
use Rattle.std.proofs.Common.{◌≡◌, refl, sym, subst, ℕ, suc, ◌+◌, ◌<◌, ◌≤◌, Bool, true, false, List, [], ◌∷◌, ◌++◌, Option, Some, None, arith}
use Rattle.std.specs.Prelude.{⊤, nat_le, codes}
use Rattle.std.proofs.lemmas.Bool.{leb-false}
use Rattle.std.proofs.lemmas.List.Elements.{All-nil, All-cons, All-append}
use Rattle.sql_grammar.specs.declared.TheConstants.{MAX_ROWS}
use Rattle.sql_grammar.specs.declared.error.Limit.{Limit}
use Rattle.sql_grammar.specs.declared.error.Limit.TheVariants.{TooLarge}
use Rattle.sql_grammar.specs.Tokens.{Placed, End}
use Rattle.sql_grammar.specs.Lexing.{token_list}
use Rattle.sql_grammar.specs.Tree as tree
use Rattle.sql_grammar.specs.Tree.{Chain, Last, More, count, Statement, HasFewRows, Block}
use Rattle.sql_grammar.specs.Grammar as grammar
use Rattle.sql_grammar.specs.Grammar.{Marked, plain, passes_if, good}
use Rattle.sql_grammar.specs.Reading.{first}
use Rattle.sql_grammar.specs.Text.{StatementAt, AllHaveFewRows, at_offset, placed, IsSpelled}
use Rattle.sql_grammar.specs.declared.expression.Literal.{Literal}

-- no token passes a limit
abbrev AllWithin : List Marked → Type 0
AllWithin [] = ⊤
AllWithin (m ∷ ms) = (m.over ≡ None) × AllWithin ms

good-within : (ts : List Placed) → AllWithin (good ts)
good-within [] = tt
good-within (t ∷ ts) = (refl, good-within ts)

front-within : (a b : List Marked) → AllWithin (a ++ b) → AllWithin a
front-within [] b h = tt
front-within (m ∷ a) b h = (h.0, front-within a b h.1)

back-within : (a b : List Marked) → AllWithin (a ++ b) → AllWithin b
back-within [] b h = h
back-within (m ∷ a) b h = back-within a b h.1

passes-not : (b : Bool) (l : Limit) → passes_if b l ≡ None → b ≡ false
passes-not true l e = absurd (cc e)
passes-not false l e = refl

rows-few : (k : ℕ) (rows : Chain (Chain Literal)) → AllWithin (grammar.rows k rows) → k + count rows ≤ MAX_ROWS
rows-few k (Last r) h = let here : k < MAX_ROWS = leb-false MAX_ROWS k (passes-not (nat_le MAX_ROWS k) TooLarge h.0) in omega (arith, here)
rows-few k (More r rows) h =
    let more : suc k + count rows ≤ MAX_ROWS =
    rows-few (suc k) rows (back-within (grammar.row k r) (grammar.sign (codes ",") ∷ grammar.rows (suc k) rows) h).1 in
    omega (arith, more)

statement-few : (s : Statement) → AllWithin (grammar.statement s) → HasFewRows s
statement-few (tree.CreateTable n ps) h = tt
statement-few (tree.Insert n names rows) h =
    let few : 0 + count rows ≤ MAX_ROWS =
    rows-few 0 rows (back-within (grammar.optional grammar.names_part names) (grammar.key (codes "values") ∷ grammar.rows 0 rows) h.1.1.1).1 in
    omega (arith, few)
statement-few (tree.Selects s) h = tt
statement-few (tree.Update n as' c) h = tt
statement-few (tree.Delete n c) h = tt
statement-few (tree.Begin start level) h = tt
statement-few (tree.Ends word noise) h = tt
statement-few (tree.Lock word n mode nowait) h = tt
statement-few (tree.Set setting) h = tt

abbrev IsFew : StatementAt → Type 0
IsFew s = HasFewRows s.1

one-few : (n : ℕ) (s : Option Statement) → AllWithin (grammar.optional grammar.statement s) → AllHaveFewRows (at_offset n s)
one-few n None h = All-nil IsFew
one-few n (Some s) h = All-cons IsFew (n, s) [] (statement-few s h) (All-nil IsFew)

block-few : (b : Block) (ts : List Placed) → AllWithin (grammar.statements b) → AllHaveFewRows (placed b ts)
block-few (Last s) ts h = one-few (first ts).at s h
block-few (More s b) ts h =
    All-append IsFew (at_offset (first ts).at s) _
    (one-few (first ts).at s (front-within (grammar.optional grammar.statement s) (grammar.sign (codes ";") ∷ grammar.statements b) h))
    (block-few b _ (back-within (grammar.optional grammar.statement s) (grammar.sign (codes ";") ∷ grammar.statements b) h).1)

pub spelled-few : (text : List ℕ) (ss : List StatementAt) → IsSpelled text ss → AllHaveFewRows ss
spelled-few text ss h =
    let all : AllWithin (grammar.spelling h.tree) = subst AllWithin (sym h.spelled) (good-within (token_list text)) in
    subst AllHaveFewRows h.statements (block-few h.tree (token_list text) (front-within (grammar.statements h.tree) (plain End ∷ []) all))
