-- CREATE TABLE is read as it is spelled.
use Rattle.std.proofs.Common.{◌≡◌, suc, Bool, true, List, [], ◌∷◌, ◌++◌, length, Some, refl, inl, inr, ◌⊎◌, arith}
use Rattle.std.specs.Prelude.{codes}
use Rattle.sql_grammar.specs.Tokens.{Token, Key, Word, Sign, Placed, is}
use Rattle.sql_grammar.specs.Tree.{Name, Chain, Last}
use Rattle.sql_grammar.specs.Tree.{CreateTable}
use Rattle.sql_grammar.specs.Grammar.{Marked, plain}
use Rattle.sql_grammar.specs.Grammar as grammar
use Rattle.sql_grammar.specs.Reading.{first, taken, inside}
use Rattle.sql_grammar.specs.Reading as reading
use Rattle.sql_reader.proofs.Laws.{HasEnd, Agrees, Heads, closed, stops_closed, then, mapped, choice, both, also}
use Rattle.sql_reader.proofs.TokenLaws.{one_of}
use Rattle.sql_reader.proofs.ListLaws.{past, past_name, at_last, or_comma, commas, while_law, before}
use Rattle.sql_reader.proofs.ListLaws.{two_words}
use Rattle.sql_grammar.specs.declared.statement.TypeWord.{TypeWord}
use Rattle.sql_grammar.specs.declared.statement.TypeWord.TheVariants.{Int, Integer, Int4, BigInt, Int8, Text as TextType}
use Rattle.sql_grammar.specs.declared.statement.Property.{Property}
use Rattle.sql_grammar.specs.declared.statement.Property.TheVariants.{PrimaryKey, NotNull}
use Rattle.sql_grammar.specs.declared.statement.TablePart.{TablePart}
use Rattle.sql_grammar.specs.declared.statement.TablePart.TheVariants.{Column as ColumnPart, Key as KeyPart}

primary_key_law : (on : Token → Bool) (ts : List Placed) → HasEnd ts
    → Agrees {I = Unit {0}} (λ u. u) (λ u. grammar.property PrimaryKey) on ts (reading.primary_key ts)
primary_key_law on ts ends = two_words (Key (codes "primary")) (Word (codes "key")) refl refl refl refl on ts ends

not_null_law : (on : Token → Bool) (ts : List Placed) → HasEnd ts → Agrees {I = Unit {0}} (λ u. u) (λ u. grammar.property NotNull) on ts (reading.not_null ts)
not_null_law on ts ends = two_words (Key (codes "not")) (Word (codes "null")) refl refl refl refl on ts ends

abbrev of_property : Property → Unit {0} ⊎ Unit {0}
of_property PrimaryKey = inl tt
of_property NotNull = inr tt

abbrev tree_property : Unit {0} ⊎ Unit {0} → Property
tree_property = both (λ u. PrimaryKey) (λ u. NotNull)

abbrev sp_property : Unit {0} ⊎ Unit {0} → List Marked
sp_property = both (λ u. grammar.property PrimaryKey) (λ u. grammar.property NotNull)

property_to : (i : Unit {0} ⊎ Unit {0}) → (tree_property i ≡ tree_property i) × (grammar.property (tree_property i) ≡ sp_property i)
property_to (inl u) = (refl, refl)
property_to (inr u) = (refl, refl)

property_back : (p : Property) → (tree_property (of_property p) ≡ p) × (sp_property (of_property p) ≡ grammar.property p)
property_back PrimaryKey = (refl, refl)
property_back NotNull = (refl, refl)

property_law : (ts : List Placed) → HasEnd ts → Agrees {I = Property} (λ p. p) grammar.property closed ts (reading.property ts)
property_law ts ends =
    also tree_property sp_property (λ p. p) grammar.property closed ts _ tree_property of_property property_to property_back
    (choice (λ u. PrimaryKey) (λ u. NotNull) (λ u. grammar.property PrimaryKey) (λ u. grammar.property NotNull) closed (is (Key (codes "primary"))) ts _ _
    (λ u more stop. refl) (λ u more stop. refl)
    (λ e. mapped (λ u. PrimaryKey) (λ u. u) (λ u. grammar.property PrimaryKey) closed ts _ (primary_key_law closed ts ends))
    (λ e. mapped (λ u. NotNull) (λ u. u) (λ u. grammar.property NotNull) closed ts _ (not_null_law closed ts ends)))

heads_property : (p : Property) → Heads reading.begins_property true (grammar.property p)
heads_property PrimaryKey = refl
heads_property NotNull = refl

type-forth : (t : TypeWord) → reading.type_word (Word (grammar.type_word t)) ≡ Some t
type-forth Int = refl
type-forth Integer = refl
type-forth Int4 = refl
type-forth BigInt = refl
type-forth Int8 = refl
type-forth TextType = refl

type_law : (on : Token → Bool) (ts : List Placed) → HasEnd ts
    → Agrees {I = TypeWord} (λ t. t) (λ t. plain (Word (grammar.type_word t)) ∷ []) on ts (taken (reading.type_word (first ts).token) ts)
type_law on ts ends =
    one_of (λ t. Word (grammar.type_word t)) ((Word (codes "int"), Int) ∷ (Word (codes "integer"), Integer) ∷ (
      Word (codes "int4"),
      Int4,
    ) ∷ (Word (codes "bigint"), BigInt)
    ∷ (Word (codes "int8"), Int8) ∷ (Word (codes "text"), TextType) ∷ []) Int (
      refl,
      (refl, (refl, (refl, (refl, (refl, tt))))),
    ) type-forth (λ t. refl) on ts ends

abbrev ColumnIndex : Type 0
ColumnIndex = Name × (TypeWord × List Property)

abbrev sp_column : ColumnIndex → List Marked
sp_column p = plain (Word p.0) ∷ plain (Word (grammar.type_word p.1.0)) ∷ grammar.each grammar.property p.1.1

abbrev on_table_part : Token → Bool
on_table_part = reading.begins_property

column_law : (ts : List Placed) → HasEnd ts → Agrees {I = ColumnIndex} (λ p. ColumnPart p.0 p.1.0 p.1.1) sp_column on_table_part ts (reading.column_part ts)
column_law ts ends =
    past_name (λ n (q : TypeWord
    × List Property). ColumnPart n q.0 q.1) (λ q. plain (Word (grammar.type_word q.0)) ∷ grammar.each grammar.property q.1) on_table_part ts _ (
      Int,
      [],
    ) ends
    (λ n hn. then (λ t ps. ColumnPart n.0 t ps) (λ t. plain (Word (grammar.type_word t)) ∷ []) (grammar.each grammar.property) closed on_table_part n.1 _
    _ [] (λ j more stop. stops_closed on_table_part (grammar.each grammar.property j) more stop)
    (type_law closed n.1 hn)
    (λ x h. mapped (λ ps. ColumnPart n.0 x.0 ps) (λ ps. ps) (grammar.each grammar.property) on_table_part x.1 _
    (while_law reading.begins_property grammar.property on_table_part reading.property heads_property (λ t e. e) property_law (suc (length x.1)) x.1
    h.ended (omega arith))))

abbrev KeyIndex : Type 0
KeyIndex = Name × Unit {0}

key_law : (ts : List Placed) → HasEnd ts
    → Agrees {I = KeyIndex} (λ p. KeyPart p.0) (λ p. grammar.table_part (KeyPart p.0)) on_table_part ts (reading.key_part ts)
key_law ts ends =
    past (Key (codes "primary")) refl refl (λ (p : KeyIndex). KeyPart p.0)
    (λ p. plain (Word (codes "key")) ∷ plain (Sign (codes "(")) ∷ plain (Word p.0) ∷ plain (Sign (codes ")")) ∷ []) on_table_part ts _ ([], tt) ends
    (λ a ha. past (Word (codes "key")) refl refl (λ (p : KeyIndex). KeyPart p.0)
    (λ p. plain (Sign (codes "(")) ∷ plain (Word p.0) ∷ plain (Sign (codes ")")) ∷ []) on_table_part a.1 _ ([], tt) ha
    (λ b hb. past (Sign (codes "(")) refl refl (λ (p : KeyIndex). KeyPart p.0) (λ p. plain (Word p.0) ∷ plain (Sign (codes ")")) ∷ []) on_table_part b.1 _
    ([], tt) hb
    (λ c hc. past_name (λ n u. KeyPart n) (λ u. plain (Sign (codes ")")) ∷ []) on_table_part c.1 _ tt hc
    (λ n hn. at_last (Sign (codes ")")) refl refl (KeyPart n.0) on_table_part n.1 hn))))

abbrev of_table_part : TablePart → KeyIndex ⊎ ColumnIndex
of_table_part (KeyPart n) = inl (n, tt)
of_table_part (ColumnPart n t ps) = inr (n, (t, ps))

abbrev tree_table_part : KeyIndex ⊎ ColumnIndex → TablePart
tree_table_part = both (λ (p : KeyIndex). KeyPart p.0) (λ (p : ColumnIndex). ColumnPart p.0 p.1.0 p.1.1)

abbrev sp_table_part : KeyIndex ⊎ ColumnIndex → List Marked
sp_table_part = both (λ (p : KeyIndex). grammar.table_part (KeyPart p.0)) sp_column

table_part_to : (i : KeyIndex ⊎ ColumnIndex) → (tree_table_part i ≡ tree_table_part i) × (grammar.table_part (tree_table_part i) ≡ sp_table_part i)
table_part_to (inl p) = (refl, refl)
table_part_to (inr p) = (refl, refl)

table_part_back : (p : TablePart) → (tree_table_part (of_table_part p) ≡ p) × (sp_table_part (of_table_part p) ≡ grammar.table_part p)
table_part_back (KeyPart n) = (refl, refl)
table_part_back (ColumnPart n t ps) = (refl, refl)

table_part_law : (ts : List Placed) → HasEnd ts → Agrees {I = TablePart} (λ p. p) grammar.table_part on_table_part ts (reading.table_part ts)
table_part_law ts ends =
    also tree_table_part sp_table_part (λ p. p) grammar.table_part on_table_part ts _ tree_table_part of_table_part table_part_to table_part_back
    (choice (λ (p : KeyIndex). KeyPart p.0) (λ (p : ColumnIndex). ColumnPart p.0 p.1.0 p.1.1) (λ (p : KeyIndex). grammar.table_part (KeyPart p.0))
    sp_column on_table_part (is (Key (codes "primary"))) ts _ _ (λ p more stop. refl) (λ p more stop. refl)
    (λ e. key_law ts ends) (λ e. column_law ts ends))

heads_table_part : (p : TablePart) → Heads (λ t. true) true (grammar.table_part p)
heads_table_part (KeyPart n) = refl
heads_table_part (ColumnPart n t ps) = refl

abbrev pub CreateIndex : Type 0
CreateIndex = Name × Chain TablePart

abbrev sp_parts : Chain TablePart → List Marked
sp_parts ps = grammar.chain grammar.table_part ps ++ (plain (Sign (codes ")")) ∷ [])

pub create_law : (ts : List Placed) → HasEnd ts
    → Agrees {I = CreateIndex} (λ p. CreateTable p.0 p.1) (λ p. grammar.statement (CreateTable p.0 p.1)) inside ts (reading.create ts)
create_law ts ends =
    past (Word (codes "create")) refl refl (λ (p : CreateIndex). CreateTable p.0 p.1)
    (λ p. plain (Key (codes "table")) ∷ plain (Word p.0) ∷ plain (Sign (codes "(")) ∷ sp_parts p.1) inside ts _ some ends
    (λ a ha. past (Key (codes "table")) refl refl (λ (p : CreateIndex). CreateTable p.0 p.1)
    (λ p. plain (Word p.0) ∷ plain (Sign (codes "(")) ∷ sp_parts p.1) inside a.1 _ some ha
    (λ b hb. past_name (λ n ps. CreateTable n ps) (λ ps. plain (Sign (codes "(")) ∷ sp_parts ps) inside b.1 _ some.1 hb
    (λ n hn. past (Sign (codes "(")) refl refl (λ ps. CreateTable n.0 ps) sp_parts inside n.1 _ some.1 hn
    (λ o ho. before (Sign (codes ")")) refl refl (λ ps. CreateTable n.0 ps) (grammar.chain grammar.table_part) (or_comma on_table_part) inside o.1 _ refl
    (commas grammar.table_part on_table_part reading.table_part (KeyPart []) heads_table_part refl table_part_law o.1 ho)))))
  where
    some : CreateIndex
    some = ([], Last (KeyPart []))
