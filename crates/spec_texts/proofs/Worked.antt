-- Worked lines and tables, computed.
use Rattle.std.proofs.Common.{◌≡◌, refl, ℕ, List, [], ◌∷◌, Some, None, Ok}
use Rattle.std.specs.Prelude.{codes}
use Rattle.sql_grammar.specs.Lexing.{piece_of}
use Rattle.sql_grammar.specs.Reading.{form, other_form}
use Rattle.sql_grammar.specs.Text.{next_statement}
use Rattle.spec_reader.specs.Tree.{BlockTree}
use Rattle.bound_statements.specs.declared.statement.Bound.TheVariants.{Begin, Commit}
use Rattle.binding_model.specs.declared.tables.Column.{Column}
use Rattle.binding_model.specs.declared.tables.ColumnType.TheVariants.{Number, Text}
use Rattle.binding_model.specs.declared.tables.Table.{Table}
use Rattle.bound_specs.specs.Binding.{declared, main_setup}
use Rattle.spec_texts.specs.OneLine.{one_line}

-- white space goes at both ends, and is one blank between two tokens; where none stands, none comes
spaced : one_line (codes " \t SELECT  v\n  FROM t WHERE id=1 ;\n") ≡ codes "SELECT v FROM t WHERE id=1 ;"
unfolding piece_of
spaced = refl

-- a comment ends at its line's end, and what follows stands
commented : one_line (codes "BEGIN; -- first\n--\nUPDATE t SET v = 1--2\n;") ≡ codes "BEGIN; UPDATE t SET v = 1 ;"
unfolding piece_of
commented = refl

-- what is quoted is no comment, and keeps its white space, as blanks
quoted : one_line (codes "SELECT 'a  --b''\n\tc'  ") ≡ codes "SELECT 'a  --b''  c'"
unfolding piece_of
quoted = refl

-- nothing but white space and comments is the empty line
empty : one_line (codes " \n -- none") ≡ []
unfolding piece_of
empty = refl

-- ---- tables

abbrev block : List ℕ → BlockTree
block text = record { at = 0; text = text }

abbrev id : Column
id = record { name = codes "id"; kind = Number }

abbrev t : Table
t = record { name = codes "t"; columns = id ∷ record { name = codes "v"; kind = Text } ∷ []; key = Some (codes "id") }

abbrev u : Table
u = record { name = codes "u"; columns = id ∷ []; key = None }

-- two setups declare in their order, the second beside what the first declared; names ignore case
two_tables : declared main_setup [] (block (codes "CREATE TABLE T (id int PRIMARY KEY, V text)") ∷ block (codes "BEGIN; CREATE TABLE u (id bigint); COMMIT") ∷ [])
    ≡ Ok (t ∷ u ∷ [], [] ∷ (Begin None ∷ Commit ∷ []) ∷ [])
unfolding piece_of next_statement form other_form
two_tables = refl

-- where nothing is declared there is none
no_tables : declared main_setup [] [] ≡ Ok ([], [])
no_tables = refl
