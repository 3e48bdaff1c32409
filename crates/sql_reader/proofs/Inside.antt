-- No token of a statement is a semicolon or the end, and each begins with a word of its form.
use Rattle.std.proofs.Common.{◌≡◌, ℕ, suc, Bool, true, false, List, [], ◌∷◌, ◌++◌, Option, Some, None, refl, sym, ap, ◌∙◌, inl, inr, ◌⊎◌}
use Rattle.std.specs.Prelude.{⊤, codes, ◌||◌, is_some}
use Rattle.sql_grammar.specs.Tokens.{Token, Key, Word, Sign, is}
use Rattle.sql_grammar.specs.Tree.{Name, Chain, Last, More, Term, Sum, Only, Then, Condition, Alone, Or, Part, Single, And, Atom, Compares, Not, Group}
use Rattle.sql_grammar.specs.Tree.{Items, AllColumns, Columns, Aggregates, written_lock, Assignment}
use Rattle.sql_grammar.specs.declared.statement.LockedFor.{LockedFor}
use Rattle.sql_grammar.specs.declared.statement.RowLock.{RowLock}
use Rattle.sql_grammar.specs.declared.statement.LockedFor.TheVariants as purpose
use Rattle.sql_grammar.specs.Tree.{Statement, CreateTable, Insert, Selects, Update, Delete, Begin, Ends, Lock, Set}
use Rattle.sql_grammar.specs.Grammar.{Marked, mark, plain}
use Rattle.sql_grammar.specs.Grammar as grammar
use Rattle.sql_grammar.specs.Reading.{inside, begins_form, begins_begin, begins_end, end_word}
use Rattle.sql_reader.proofs.Laws.{Heads}
use Rattle.sql_reader.proofs.TokenLaws.{is_same, which-back}
use Rattle.sql_grammar.specs.declared.expression.Literal.{Literal}
use Rattle.sql_grammar.specs.declared.expression.Literal.TheVariants.{Whole, Quoted}
use Rattle.sql_grammar.specs.declared.expression.Factor.{Factor}
use Rattle.sql_grammar.specs.declared.expression.Factor.TheVariants.{Value, Column}
use Rattle.sql_grammar.specs.declared.expression.AddSign.TheVariants.{Plus, Minus}
use Rattle.sql_grammar.specs.declared.expression.Comparison.{Comparison}
use Rattle.sql_grammar.specs.declared.expression.Comparison.TheVariants.{Equal, Unequal, Differs, Less, AtMost, Greater, AtLeast}
use Rattle.sql_grammar.specs.declared.statement.Property.{Property}
use Rattle.sql_grammar.specs.declared.statement.Property.TheVariants.{PrimaryKey, NotNull}
use Rattle.sql_grammar.specs.declared.statement.TablePart.{TablePart}
use Rattle.sql_grammar.specs.declared.statement.TablePart.TheVariants.{Column as ColumnPart, Key as KeyPart}
use Rattle.sql_grammar.specs.declared.statement.Direction.{Direction}
use Rattle.sql_grammar.specs.declared.statement.Direction.TheVariants.{Ascending, Descending}
use Rattle.sql_grammar.specs.declared.statement.SortKey.{SortKey}
use Rattle.sql_grammar.specs.declared.statement.Aggregate.{Aggregate}
use Rattle.sql_grammar.specs.declared.statement.Aggregate.TheVariants.{Count, Total}
use Rattle.sql_grammar.specs.declared.statement.Noise.{Noise}
use Rattle.sql_grammar.specs.declared.statement.Noise.TheVariants.{Work, Transaction}
use Rattle.sql_grammar.specs.declared.statement.Level.{Level}
use Rattle.sql_grammar.specs.declared.statement.Level.TheVariants.{Serializable, RepeatableRead}
use Rattle.sql_grammar.specs.declared.statement.EndWord.{EndWord}
use Rattle.sql_grammar.specs.declared.statement.LockMode.{LockMode}
use Rattle.sql_grammar.specs.declared.statement.LockMode.TheVariants.{Access, RowLevel, Shared, Exclusively}
use Rattle.sql_grammar.specs.declared.statement.Scope.{Scope}
use Rattle.sql_grammar.specs.declared.statement.Scope.TheVariants.{Local, Session}
use Rattle.sql_grammar.specs.declared.statement.Start.{Start}
use Rattle.sql_grammar.specs.declared.statement.Start.TheVariants.{BeginWord, StartWords}
use Rattle.sql_grammar.specs.declared.statement.SetSign.{SetSign}
use Rattle.sql_grammar.specs.declared.statement.SetSign.TheVariants.{EqualSign, ToWord}
use Rattle.sql_grammar.specs.declared.statement.EndWord.TheVariants as end_words
use Rattle.sql_grammar.specs.declared.statement.Level.TheVariants as levels

abbrev pub Inside : List Marked → Type 0
Inside [] = ⊤
Inside (m ∷ ms) = (inside m.token ≡ true) × Inside ms

pub and : (a b : List Marked) → Inside a → Inside b → Inside (a ++ b)
and [] b h k = k
and (m ∷ a) b h k = (h.0, and a b h.1 k)

of_optional : {A : Type 0} (sp : A → List Marked) → ((a : A) → Inside (sp a)) → (o : Option A) → Inside (grammar.optional sp o)
of_optional sp f None = tt
of_optional sp f (Some a) = f a

of_each : {A : Type 0} (sp : A → List Marked) → ((a : A) → Inside (sp a)) → (l : List A) → Inside (grammar.each sp l)
of_each sp f [] = tt
of_each sp f (a ∷ l) = and (sp a) _ (f a) (of_each sp f l)

of_chain : {A : Type 0} (sp : A → List Marked) → ((a : A) → Inside (sp a)) → (l : Chain A) → Inside (grammar.chain sp l)
of_chain sp f (Last a) = f a
of_chain sp f (More a l) = and (sp a) _ (f a) (refl, of_chain sp f l)

of_literal : (l : Literal) → Inside (grammar.literal l)
of_literal (Whole true n) = (refl, (refl, tt))
of_literal (Whole false n) = (refl, tt)
of_literal (Quoted b) = (refl, tt)

of_factor : (f : Factor) → Inside (grammar.factor f)
of_factor (Value l) = of_literal l
of_factor (Column n) = (refl, tt)

of_term : (t : Term) → Inside (grammar.term t)
of_term (Last f) = of_factor f
of_term (More f t) = and (grammar.factor f) _ (of_factor f) (refl, of_term t)

of_sum : (s : Sum) → Inside (grammar.sum s)
of_sum (Only t) = of_term t
of_sum (Then t Plus e) = and (grammar.term t) _ (of_term t) (refl, of_sum e)
of_sum (Then t Minus e) = and (grammar.term t) _ (of_term t) (refl, of_sum e)

of_comparison : (c : Comparison) → inside (Sign (grammar.comparison c)) ≡ true
of_comparison Equal = refl
of_comparison Unequal = refl
of_comparison Differs = refl
of_comparison Less = refl
of_comparison AtMost = refl
of_comparison Greater = refl
of_comparison AtLeast = refl

mutual
  of_condition : (c : Condition) (n : ℕ) → Inside (grammar.condition c n)
  of_condition (Alone p) n = of_part p n
  of_condition (Or p c) n = and (grammar.part p n) _ (of_part p n) (refl, of_condition c n)

  of_part : (p : Part) (n : ℕ) → Inside (grammar.part p n)
  of_part (Single a) n = of_atom a n
  of_part (And a p) n = and (grammar.atom a n) _ (of_atom a n) (refl, of_part p n)

  of_atom : (a : Atom) (n : ℕ) → Inside (grammar.atom a n)
  of_atom (Compares a c b) n = and (grammar.sum a) _ (of_sum a) (of_comparison c, of_sum b)
  of_atom (Not a) n = (refl, of_atom a (suc n))
  of_atom (Group c) n = (refl, and (grammar.condition c (suc n)) _ (of_condition c (suc n)) (refl, tt))

of_where : (c : Condition) → Inside (grammar.where_part c)
of_where c = (refl, of_condition c 0)

of_property : (p : Property) → Inside (grammar.property p)
of_property PrimaryKey = (refl, (refl, tt))
of_property NotNull = (refl, (refl, tt))

of_table_part : (p : TablePart) → Inside (grammar.table_part p)
of_table_part (KeyPart n) = (refl, (refl, (refl, (refl, (refl, tt)))))
of_table_part (ColumnPart n t ps) = (refl, (refl, of_each grammar.property of_property ps))

of_name : (n : Name) → Inside (grammar.name n)
of_name n = (refl, tt)

of_names : (ns : Chain Name) → Inside (grammar.names_part ns)
of_names ns = (refl, and (grammar.chain grammar.name ns) _ (of_chain grammar.name of_name ns) (refl, tt))

of_row : (k : ℕ) (r : Chain Literal) → Inside (grammar.row k r)
of_row k r = (refl, and (grammar.chain grammar.literal r) _ (of_chain grammar.literal of_literal r) (refl, tt))

of_rows : (k : ℕ) (rs : Chain (Chain Literal)) → Inside (grammar.rows k rs)
of_rows k (Last r) = of_row k r
of_rows k (More r rs) = and (grammar.row k r) _ (of_row k r) (refl, of_rows (suc k) rs)

of_aggregate : (a : Aggregate) → Inside (grammar.aggregate a)
of_aggregate Count = (refl, (refl, (refl, (refl, tt))))
of_aggregate (Total n) = (refl, (refl, (refl, (refl, tt))))

of_items : (i : Items) → Inside (grammar.items i)
of_items AllColumns = (refl, tt)
of_items (Columns ns) = of_chain grammar.name of_name ns
of_items (Aggregates as') = of_chain grammar.aggregate of_aggregate as'

of_direction : (d : Direction) → Inside (grammar.direction d)
of_direction Ascending = (refl, tt)
of_direction Descending = (refl, tt)

of_sort : (k : SortKey) → Inside (grammar.sort_key k)
of_sort k = (refl, of_optional grammar.direction of_direction k.direction)

of_order : (ks : Chain SortKey) → Inside (grammar.order_part ks)
of_order ks = (refl, (refl, of_chain grammar.sort_key of_sort ks))

of_assignment : (a : Assignment) → Inside (grammar.assignment a)
of_assignment a = (refl, (refl, of_sum a.value))

of_noise : (n : Noise) → Inside (grammar.noise n)
of_noise Work = (refl, tt)
of_noise Transaction = (refl, tt)

of_level : (l : Level) → Inside (grammar.level_part l)
of_level Serializable = (refl, (refl, (refl, tt)))
of_level RepeatableRead = (refl, (refl, (refl, (refl, tt))))
of_level (levels.Read w) = (refl, (refl, (refl, (refl, tt))))

of_start : (s : Start) → Inside (grammar.start s)
of_start (BeginWord o) = (refl, of_optional grammar.noise of_noise o)
of_start StartWords = (refl, (refl, tt))

of_mode : (m : LockMode) → Inside (grammar.lock_mode m)
of_mode (Access s) = (refl, (refl, tt))
of_mode (RowLevel s) = (refl, (refl, tt))
of_mode (Shared true) = (refl, (refl, (refl, tt)))
of_mode (Shared false) = (refl, tt)
of_mode Exclusively = (refl, tt)

of_nowait : (b : Bool) → Inside (grammar.nowait b)
of_nowait true = (refl, tt)
of_nowait false = tt

of_row_lock : (l : RowLock) → Inside (grammar.row_lock l)
of_row_lock l = (refl, (locked_for_inside l.locked_for, of_nowait l.nowait))
  where
    locked_for_inside : (p : LockedFor) → inside (Word (grammar.locked_for p)) ≡ true
    locked_for_inside purpose.Update = refl
    locked_for_inside purpose.Share = refl

of_mode_part : (m : LockMode) → Inside (grammar.mode_part m)
of_mode_part m = (refl, and (grammar.lock_mode m) _ (of_mode m) (refl, tt))

of_scope : (s : Scope) → Inside (grammar.scope s)
of_scope Local = (refl, tt)
of_scope Session = (refl, tt)

of_set_sign : (s : SetSign) → inside (grammar.set_sign s) ≡ true
of_set_sign EqualSign = refl
of_set_sign ToWord = refl

pub of_statement : (s : Statement) → Inside (grammar.statement s)
of_statement (CreateTable n ps) =
    (refl, (refl, (refl, (refl, and (grammar.chain grammar.table_part ps) _ (of_chain grammar.table_part of_table_part ps) (refl, tt)))))
of_statement (Insert n cs rs) =
    (refl, (refl, (refl, and (grammar.optional grammar.names_part cs) _ (of_optional grammar.names_part of_names cs) (refl, of_rows 0 rs))))
of_statement (Selects s) = (
  refl,
  and (grammar.items s.items) _ (of_items s.items) (
    refl,
    (
      refl,
      and (grammar.optional grammar.where_part s.where') _ (of_optional grammar.where_part of_where s.where')
          (and (grammar.optional grammar.order_part s.order) _ (of_optional grammar.order_part of_order s.order)
          (of_optional grammar.row_lock of_row_lock (written_lock s.items s.lock))),
    ),
  ),
)
of_statement (Update n as' w) = (
  refl,
  (
    refl,
    (
      refl,
      and (grammar.chain grammar.assignment as') _ (of_chain grammar.assignment of_assignment as') (of_optional grammar.where_part of_where w),
    ),
  ),
)
of_statement (Delete n w) = (refl, (refl, (refl, of_optional grammar.where_part of_where w)))
of_statement (Begin s l) = and (grammar.start s) _ (of_start s) (of_optional grammar.level_part of_level l)
of_statement (Ends w n) = (refl, of_optional grammar.noise of_noise n)
of_statement (Lock true n m w) = (refl, (refl, (refl, and (grammar.optional grammar.mode_part m) _ (of_optional grammar.mode_part of_mode_part m) (of_nowait w))))
of_statement (Lock false n m w) = (refl, (refl, and (grammar.optional grammar.mode_part m) _ (of_optional grammar.mode_part of_mode_part m) (of_nowait w)))
of_statement (Set s) =
    (refl, and (grammar.optional grammar.scope s.scope) _ (of_optional grammar.scope of_scope s.scope) (refl, (of_set_sign s.sign, of_factor s.value)))

-- ---- the first word

pub heads_inside : (s : Statement) → Heads inside true (grammar.statement s)
heads_inside (CreateTable n ps) = refl
heads_inside (Insert n cs rs) = refl
heads_inside (Selects s) = refl
heads_inside (Update n as' w) = refl
heads_inside (Delete n w) = refl
heads_inside (Begin (BeginWord o) l) = refl
heads_inside (Begin StartWords l) = refl
heads_inside (Ends end_words.Commit n) = refl
heads_inside (Ends end_words.End n) = refl
heads_inside (Ends end_words.Rollback n) = refl
heads_inside (Ends end_words.Abort n) = refl
heads_inside (Lock t n m w) = refl
heads_inside (Set s) = refl

pub heads_form : (s : Statement) → Heads begins_form true (grammar.statement s)
heads_form (CreateTable n ps) = refl
heads_form (Insert n cs rs) = refl
heads_form (Selects s) = refl
heads_form (Update n as' w) = refl
heads_form (Delete n w) = refl
heads_form (Begin (BeginWord o) l) = refl
heads_form (Begin StartWords l) = refl
heads_form (Ends end_words.Commit n) = refl
heads_form (Ends end_words.End n) = refl
heads_form (Ends end_words.Rollback n) = refl
heads_form (Ends end_words.Abort n) = refl
heads_form (Lock t n m w) = refl
heads_form (Set s) = refl

abbrev Begun : Token → Type 0
Begun t = (s : Statement) × (w : List Marked) × (grammar.statement s ≡ plain t ∷ w)

split : (a b : Bool) → (a || b) ≡ true → (a ≡ true) ⊎ (b ≡ true)
split true b e = inl refl
split false b e = inr e

begun : (t v : Token) (s : Statement) (w : List Marked) → grammar.statement s ≡ plain v ∷ w → t ≡ v → Begun t
begun t v s w e same = (s, w, e ∙ ap (λ (u : Token). plain u ∷ w) (sym same))

begun_is : (t v : Token) (s : Statement) (w : List Marked) → grammar.statement s ≡ plain v ∷ w → is v t ≡ true → Begun t
begun_is t v s w e h = begun t v s w e (is_same v t h)

begun_begin : (t : Token) → begins_begin t ≡ true → Begun t
begun_begin t e = elim (split (is (Word (codes "begin")) t) _ e) [
  | inl h ↦ begun_is t (Word (codes "begin")) (Begin (BeginWord None) None) _ refl h
  | inr h ↦ begun_is t (Word (codes "start")) (Begin StartWords None) _ refl h
]

begun_end : (t : Token) → begins_end t ≡ true → Begun t
begun_end t e = go (end_word t) refl e
  where
    go : (o : Option EndWord) → end_word t ≡ o → is_some o ≡ true → Begun t
    go None h k = absurd cc
    go (Some w) h k = begun t (Word (grammar.end_word w)) (Ends w None) [] refl
        (which-back (λ w. Word (grammar.end_word w)) ((Word (codes "commit"), end_words.Commit) ∷ (
          Word (codes "end"),
          end_words.End,
        ) ∷ (Word (codes "rollback"), end_words.Rollback) ∷ (Word (codes "abort"), end_words.Abort) ∷ []) (
          refl,
          (refl, (refl, (refl, tt))),
        ) t w h)

pub starts : (t : Token) → begins_form t ≡ true → Begun t
starts t e = elim (split (is (Word (codes "create")) t) _ e) [
  | inl h ↦ begun_is t (Word (codes "create")) (CreateTable [] (Last (KeyPart []))) _ refl h
  | inr e ↦ elim (split (is (Word (codes "insert")) t) _ e) [
    | inl h ↦ begun_is t (Word (codes "insert")) (Insert [] None (Last (Last (Quoted [])))) _ refl h
    | inr e ↦ elim (split (is (Key (codes "select")) t) _ e) [
      | inl h ↦ begun_is t (Key (codes "select")) (Selects (record { items = AllColumns; table = []; where' = None; order = None; lock = None })) _ refl h
      | inr e ↦ elim (split (is (Word (codes "update")) t) _ e) [
        | inl h ↦ begun_is t (Word (codes "update")) (Update [] (Last (record { column = []; value = Only (Last (Column [])) })) None) _ refl h
        | inr e ↦ elim (split (is (Word (codes "delete")) t) _ e) [
          | inl h ↦ begun_is t (Word (codes "delete")) (Delete [] None) _ refl h
          | inr e ↦ elim (split (begins_begin t) _ e) [
            | inl h ↦ begun_begin t h
            | inr e ↦ elim (split (begins_end t) _ e) [
              | inl h ↦ begun_end t h
              | inr e ↦ elim (split (is (Word (codes "lock")) t) _ e) [
                | inl h ↦ begun_is t (Word (codes "lock")) (Lock false [] None false) _ refl h
                | inr h ↦ begun_is t (Key (codes "set")) (Set (record { scope = None; name = []; sign = EqualSign; value = Column [] })) _ refl h
              ]
            ]
          ]
        ]
      ]
    ]
  ]
]
