-- INSERT is read as it is spelled.
use Rattle.std.proofs.Common.{ℕ, Bool, true, false, List, [], ◌∷◌, ◌++◌, Option, None, refl}
use Rattle.std.specs.Prelude.{codes}
use Rattle.sql_grammar.specs.Tokens.{Token, Key, Word, Sign, Placed, is}
use Rattle.sql_grammar.specs.Tree.{Name, Chain, Last}
use Rattle.sql_grammar.specs.Tree.{Insert}
use Rattle.sql_grammar.specs.Grammar.{Marked, mark, plain}
use Rattle.sql_grammar.specs.Grammar as grammar
use Rattle.sql_grammar.specs.Reading.{the, name, inside, with_commas, over_rows}
use Rattle.sql_grammar.specs.Reading as reading
use Rattle.sql_reader.proofs.Laws.{HasEnd, Agrees, Heads, closed, stops_closed, one_within, then, mapped, also, weaken}
use Rattle.sql_reader.proofs.TokenLaws.{names, the-back}
use Rattle.sql_reader.proofs.ExpressionLaws.{literal_law}
use Rattle.sql_reader.proofs.ListLaws.{past, past_name, maybe, or_comma, numbered, commas, ends_stop, before}
use Rattle.sql_grammar.specs.declared.expression.Literal.{Literal}
use Rattle.sql_grammar.specs.declared.expression.Literal.TheVariants.{Quoted}
use Rattle.sql_grammar.specs.declared.expression.Literal.TheVariants as literals

names_part_law : (ts : List Placed) → HasEnd ts → Agrees {I = Chain Name} (λ ns. ns) grammar.names_part closed ts (reading.names_part ts)
names_part_law ts ends =
    past (Sign (codes "(")) refl refl (λ ns. ns) (λ ns. grammar.chain grammar.name ns ++ (plain (Sign (codes ")")) ∷ [])) closed ts _ (Last []) ends
    (λ o ho. before (Sign (codes ")")) refl refl (λ ns. ns) (grammar.chain grammar.name) (or_comma closed) closed o.1 _ refl
    (commas grammar.name closed name [] (λ n. refl) refl (names closed) o.1 ho))

heads_literal : (l : Literal) → Heads (λ t. true) true (grammar.literal l)
heads_literal (literals.Whole true n) = refl
heads_literal (literals.Whole false n) = refl
heads_literal (Quoted b) = refl

some_row : Chain Literal
some_row = Last (Quoted [])

abbrev sp_row_rest : Chain Literal → List Marked
sp_row_rest r = grammar.chain grammar.literal r ++ (plain (Sign (codes ")")) ∷ [])

row_law : (k : ℕ) (ts : List Placed) → HasEnd ts → Agrees {I = Chain Literal} (λ r. r) (grammar.row k) closed ts (reading.row k ts)
row_law k ts ends =
    also (λ (p : Unit {0}
    × Chain Literal). p.1) (λ p. mark (Sign (codes "(")) (over_rows k p.0) ∷ sp_row_rest p.1) (λ r. r) (grammar.row k) closed ts _ (λ p. p.1)
    (λ r. (tt, r)) (λ p. (refl, refl)) (λ r. (refl, refl))
    (then (λ u r. r) (λ u. mark (Sign (codes "(")) (over_rows k u) ∷ []) sp_row_rest closed closed ts _ _ some_row
    (λ j more stop. stops_closed closed (sp_row_rest j) more stop)
    (one_within (the (Sign (codes "("))) (λ u. Sign (codes "(")) (over_rows k) closed tt (the-back (Sign (codes "("))) (λ u. refl) (λ u. refl) ts ends)
    (λ x h. before (Sign (codes ")")) refl refl (λ r. r) (grammar.chain grammar.literal) (or_comma closed) closed x.1 _ refl
    (commas grammar.literal closed reading.literal (Quoted []) heads_literal refl (literal_law closed) x.1 h.ended)))

rows_law : (ts : List Placed) → HasEnd ts → Agrees {I = Chain (Chain Literal)} (λ rs. rs) (grammar.rows 0) (or_comma closed) ts (with_commas reading.row ts)
rows_law ts ends = numbered grammar.row grammar.rows closed reading.row some_row (λ k r. refl) (λ k r l. refl) (λ k r. refl) refl row_law ts ends

abbrev pub InsertIndex : Type 0
InsertIndex = Name × (Option (Chain Name) × Chain (Chain Literal))

abbrev sp_values : Chain (Chain Literal) → List Marked
sp_values rs = plain (Key (codes "values")) ∷ grammar.rows 0 rs

abbrev on_open : Token → Bool
on_open t = is (Sign (codes "(")) t

pub insert_law : (ts : List Placed) → HasEnd ts
    → Agrees {I = InsertIndex} (λ p. Insert p.0 p.1.0 p.1.1) (λ p. grammar.statement (Insert p.0 p.1.0 p.1.1)) inside ts (reading.insert ts)
insert_law ts ends =
    past (Word (codes "insert")) refl refl (λ (p : InsertIndex). Insert p.0 p.1.0 p.1.1)
    (λ p. plain (Key (codes "into")) ∷ plain (Word p.0) ∷ (grammar.optional grammar.names_part p.1.0 ++ sp_values p.1.1)) inside ts _ some ends
    (λ a ha. past (Key (codes "into")) refl refl (λ (p : InsertIndex). Insert p.0 p.1.0 p.1.1)
    (λ p. plain (Word p.0) ∷ (grammar.optional grammar.names_part p.1.0 ++ sp_values p.1.1)) inside a.1 _ some ha
    (λ b hb. past_name (λ n (q : Option (Chain Name) × Chain (Chain Literal)). Insert n q.0 q.1) (λ q. grammar.optional grammar.names_part q.0
    ++ sp_values q.1) inside b.1 _ some.1 hb
    (λ n hn. then (λ cs rs. Insert n.0 cs rs) (grammar.optional grammar.names_part) sp_values on_open inside n.1 _ _ some.1.1 (λ j more stop. refl)
    (maybe (is (Sign (codes "("))) _ grammar.names_part closed on_open n.1 (λ ns. refl) (λ t e. e) (λ more stop. stops_closed on_open [] more stop) hn
    (λ e. names_part_law n.1 hn))
    (λ cs h. past (Key (codes "values")) refl refl (λ rs. Insert n.0 cs.0 rs) (grammar.rows 0) inside cs.1 _ some.1.1 h.ended
    (λ v hv. mapped (λ rs. Insert n.0 cs.0 rs) (λ rs. rs) (grammar.rows 0) inside v.1 _
    (weaken (λ rs. rs) (grammar.rows 0) inside (or_comma closed) v.1 _ (ends_stop (or_comma closed) refl refl) (rows_law v.1 hv)))))))
  where
    some : InsertIndex
    some = ([], (None, Last some_row))
