-- A text has one first fault at most.
use Rattle.std.proofs.Common.{◌≡◌, refl, sym, ap, subst, ◌∙◌, ℕ, suc, Bool, true, false, cond, List, [], ◌∷◌, ◌++◌, Option, Some, None, append_assoc}
use Rattle.std.specs.Prelude.{⊤, not, nat_le, codes}
use Rattle.sql_grammar.specs.declared.error.Limit.{Limit}
use Rattle.sql_grammar.specs.declared.error.Limit.TheVariants.{NumberTooLarge, TooLarge}
use Rattle.sql_grammar.specs.declared.error.SqlErrorKind.{SqlErrorKind as Kind}
use Rattle.sql_grammar.specs.declared.expression.Factor.{Factor}
use Rattle.sql_grammar.specs.declared.expression.Factor.TheVariants as factors
use Rattle.sql_grammar.specs.declared.expression.Literal.{Literal}
use Rattle.sql_grammar.specs.declared.expression.Literal.TheVariants.{Whole, Quoted}
use Rattle.sql_grammar.specs.declared.statement.Aggregate.{Aggregate}
use Rattle.sql_grammar.specs.declared.statement.Aggregate.TheVariants as aggregates
use Rattle.sql_grammar.specs.declared.statement.Direction.{Direction}
use Rattle.sql_grammar.specs.declared.statement.Direction.TheVariants as directions
use Rattle.sql_grammar.specs.declared.statement.Level.{Level}
use Rattle.sql_grammar.specs.declared.statement.Level.TheVariants as levels
use Rattle.sql_grammar.specs.declared.statement.LockMode.{LockMode}
use Rattle.sql_grammar.specs.declared.statement.LockMode.TheVariants as modes
use Rattle.sql_grammar.specs.declared.statement.Noise.{Noise}
use Rattle.sql_grammar.specs.declared.statement.Noise.TheVariants as noises
use Rattle.sql_grammar.specs.declared.statement.Property.{Property}
use Rattle.sql_grammar.specs.declared.statement.Property.TheVariants as properties
use Rattle.sql_grammar.specs.declared.statement.Scope.{Scope}
use Rattle.sql_grammar.specs.declared.statement.Scope.TheVariants as scopes
use Rattle.sql_grammar.specs.declared.statement.SortKey.{SortKey}
use Rattle.sql_grammar.specs.declared.statement.Start.{Start}
use Rattle.sql_grammar.specs.declared.statement.Start.TheVariants as starts
use Rattle.sql_grammar.specs.declared.statement.TablePart.{TablePart}
use Rattle.sql_grammar.specs.declared.statement.TablePart.TheVariants as parts
use Rattle.sql_grammar.specs.Tokens.{Token, Key, Word, Sign, Number, Text, End, NoToken, NotClosed, Placed}
use Rattle.sql_grammar.specs.Tree as tree
use Rattle.sql_grammar.specs.Tree.{Chain, Last, More}
use Rattle.sql_grammar.specs.Grammar as grammar
use Rattle.sql_grammar.specs.Grammar.{Marked, mark, plain, passes_if, good, Begins, MayCome, IsWord, IsToken, AtStatement, CannotCome, OnlyOver, IsKind}
use Rattle.sql_grammar.specs.Grammar.{bad_token, unclosed, unsupported, syntax, over, kind_of_limit, Fault, FirstFault}
use Rattle.sql_reader.proofs.Laws.{good-append}

-- ---- which tokens pass which limit

abbrev Passes : Token → Limit → Type 0
Passes (Number n) NumberTooLarge = ⊤
Passes (Number n) TooLarge = ⊥
Passes (Sign s) NumberTooLarge = ⊥
Passes (Sign s) TooLarge = ⊤
Passes (Key w) NumberTooLarge = ⊥
Passes (Key w) TooLarge = ⊤
Passes (Word w) l = ⊥
Passes (Text t) l = ⊥
Passes End l = ⊥
Passes NoToken l = ⊥
Passes NotClosed l = ⊥

abbrev IsRight : Option Limit → Token → Type 0
IsRight None t = ⊤
IsRight (Some l) t = Passes t l

abbrev AllRight : List Marked → Type 0
AllRight [] = ⊤
AllRight (m ∷ ms) = IsRight m.over m.token × AllRight ms

right_if : (b : Bool) (l : Limit) (t : Token) → Passes t l → IsRight (passes_if b l) t
right_if true l t h = h
right_if false l t h = tt

both : (a b : List Marked) → AllRight a → AllRight b → AllRight (a ++ b)
both [] b h k = k
both (m ∷ a) b h k = (h.0, both a b h.1 k)

if_right : (b : Bool) (x y : List Marked) → AllRight x → AllRight y → AllRight (cond b x y)
if_right true x y h k = h
if_right false x y h k = k

maybe_right : {A : Type 0} (part : A → List Marked) → ((a : A) → AllRight (part a)) → (o : Option A) → AllRight (grammar.optional part o)
maybe_right part h None = tt
maybe_right part h (Some a) = h a

each_right : {A : Type 0} (part : A → List Marked) → ((a : A) → AllRight (part a)) → (as' : List A) → AllRight (grammar.each part as')
each_right part h [] = tt
each_right part h (a ∷ as') = both (part a) (grammar.each part as') (h a) (each_right part h as')

chain_right : {A : Type 0} (part : A → List Marked) → ((a : A) → AllRight (part a)) → (c : Chain A) → AllRight (grammar.chain part c)
chain_right part h (Last a) = h a
chain_right part h (More a c) = both (part a) (grammar.sign (codes ",") ∷ grammar.chain part c) (h a) (tt, chain_right part h c)

-- ---- the rules

literal_right : (l : Literal) → AllRight (grammar.literal l)
literal_right (Whole negative n) =
    both (grammar.minus negative) (mark (Number n) (passes_if (not (grammar.fits negative n)) NumberTooLarge) ∷ [])
    (if_right negative (grammar.sign (codes "-") ∷ []) [] (tt, tt) tt) (right_if (not (grammar.fits negative n)) NumberTooLarge (Number n) tt, tt)
literal_right (Quoted text) = (tt, tt)

factor_right : (f : Factor) → AllRight (grammar.factor f)
factor_right (factors.Value l) = literal_right l
factor_right (factors.Column n) = (tt, tt)

term_right : (t : tree.Term) → AllRight (grammar.term t)
term_right (Last f) = factor_right f
term_right (More f t) = both (grammar.factor f) (grammar.sign (codes "*") ∷ grammar.term t) (factor_right f) (tt, term_right t)

sum_right : (s : tree.Sum) → AllRight (grammar.sum s)
sum_right (tree.Only t) = term_right t
sum_right (tree.Then t s e) = both (grammar.term t) (grammar.sign (grammar.add_sign s) ∷ grammar.sum e) (term_right t) (tt, sum_right e)

abbrev mutual
  condition_right : (c : tree.Condition) (n : ℕ) → AllRight (grammar.condition c n)
  condition_right (tree.Alone p) n = part_right p n
  condition_right (tree.Or p c) n = both (grammar.part p n) (grammar.key (codes "or") ∷ grammar.condition c n) (part_right p n) (tt, condition_right c n)

  part_right : (p : tree.Part) (n : ℕ) → AllRight (grammar.part p n)
  part_right (tree.Single a) n = atom_right a n
  part_right (tree.And a p) n = both (grammar.atom a n) (grammar.key (codes "and") ∷ grammar.part p n) (atom_right a n) (tt, part_right p n)

  atom_right : (a : tree.Atom) (n : ℕ) → AllRight (grammar.atom a n)
  atom_right (tree.Compares a c b) n = both (grammar.sum a) (grammar.sign (grammar.comparison c) ∷ grammar.sum b) (sum_right a) (tt, sum_right b)
  atom_right (tree.Not a) n = (right_if (nat_le 32 n) TooLarge (Key (codes "not")) tt, atom_right a (suc n))
  atom_right (tree.Group c) n = (
    right_if (nat_le 32 n) TooLarge (Sign (codes "(")) tt,
    both (grammar.condition c (suc n)) (grammar.sign (codes ")") ∷ []) (condition_right c (suc n)) (tt, tt),
  )

where_right : (c : tree.Condition) → AllRight (grammar.where_part c)
where_right c = (tt, condition_right c 0)

property_right : (p : Property) → AllRight (grammar.property p)
property_right properties.PrimaryKey = (tt, (tt, tt))
property_right properties.NotNull = (tt, (tt, tt))

part_of_right : (p : TablePart) → AllRight (grammar.table_part p)
part_of_right (parts.Column n t ps) = (tt, (tt, each_right grammar.property property_right ps))
part_of_right (parts.Key n) = (tt, (tt, (tt, (tt, (tt, tt)))))

names_right : (ns : Chain tree.Name) → AllRight (grammar.chain grammar.name ns)
names_right ns = chain_right grammar.name (λ n. (tt, tt)) ns

closed_right : (ms : List Marked) → AllRight ms → AllRight (ms ++ (grammar.sign (codes ")") ∷ []))
closed_right ms h = both ms (grammar.sign (codes ")") ∷ []) h (tt, tt)

row_right : (k : ℕ) (r : Chain Literal) → AllRight (grammar.row k r)
row_right k r = (
  right_if (nat_le 100 k) TooLarge (Sign (codes "(")) tt,
  closed_right (grammar.chain grammar.literal r) (chain_right grammar.literal literal_right r),
)

rows_right : (k : ℕ) (rs : Chain (Chain Literal)) → AllRight (grammar.rows k rs)
rows_right k (Last r) = row_right k r
rows_right k (More r rs) = both (grammar.row k r) (grammar.sign (codes ",") ∷ grammar.rows (suc k) rs) (row_right k r) (tt, rows_right (suc k) rs)

aggregate_right : (a : Aggregate) → AllRight (grammar.aggregate a)
aggregate_right aggregates.Count = (tt, (tt, (tt, (tt, tt))))
aggregate_right (aggregates.Total n) = (tt, (tt, (tt, (tt, tt))))

items_right : (i : tree.Items) → AllRight (grammar.items i)
items_right tree.AllColumns = (tt, tt)
items_right (tree.Columns ns) = names_right ns
items_right (tree.Aggregates as') = chain_right grammar.aggregate aggregate_right as'

direction_right : (d : Direction) → AllRight (grammar.direction d)
direction_right directions.Ascending = (tt, tt)
direction_right directions.Descending = (tt, tt)

sort_right : (k : SortKey) → AllRight (grammar.sort_key k)
sort_right k = (tt, maybe_right grammar.direction direction_right k.direction)

order_right : (ks : Chain SortKey) → AllRight (grammar.order_part ks)
order_right ks = (tt, (tt, chain_right grammar.sort_key sort_right ks))

assignment_right : (a : tree.Assignment) → AllRight (grammar.assignment a)
assignment_right a = (tt, (tt, sum_right a.value))

noise_right : (n : Noise) → AllRight (grammar.noise n)
noise_right noises.Work = (tt, tt)
noise_right noises.Transaction = (tt, tt)

level_right : (l : Level) → AllRight (grammar.level l)
level_right levels.Serializable = (tt, tt)
level_right levels.RepeatableRead = (tt, (tt, tt))
level_right (levels.Read w) = (tt, (tt, tt))

level_part_right : (l : Level) → AllRight (grammar.level_part l)
level_part_right l = (tt, (tt, level_right l))

start_right : (s : Start) → AllRight (grammar.start s)
start_right (starts.BeginWord w) = (tt, maybe_right grammar.noise noise_right w)
start_right starts.StartWords = (tt, (tt, tt))

mode_right : (m : LockMode) → AllRight (grammar.lock_mode m)
mode_right (modes.Access s) = (tt, (tt, tt))
mode_right (modes.RowLevel s) = (tt, (tt, tt))
mode_right (modes.Shared more) = (tt, if_right more (grammar.word (codes "row") ∷ grammar.word (codes "exclusive") ∷ []) [] (tt, (tt, tt)) tt)
mode_right modes.Exclusively = (tt, tt)

mode_part_right : (m : LockMode) → AllRight (grammar.mode_part m)
mode_part_right m = (tt, both (grammar.lock_mode m) (grammar.word (codes "mode") ∷ []) (mode_right m) (tt, tt))

scope_right : (s : Scope) → AllRight (grammar.scope s)
scope_right scopes.Local = (tt, tt)
scope_right scopes.Session = (tt, tt)

setting_right : (s : _) → AllRight (grammar.setting s)
setting_right s = both (grammar.optional grammar.scope s.scope) (grammar.word s.name ∷ plain (grammar.set_sign s.sign) ∷ grammar.factor s.value)
    (maybe_right grammar.scope scope_right s.scope) (tt, (tt, factor_right s.value))

nowait_right : (b : Bool) → AllRight (grammar.nowait b)
nowait_right true = (tt, tt)
nowait_right false = tt

row_lock_right : (l : _) → AllRight (grammar.row_lock l)
row_lock_right l = (tt, (tt, nowait_right l.nowait))

select_right : (s : tree.Select) → AllRight (grammar.select s)
select_right s =
    both (grammar.items s.items) (grammar.key (codes "from") ∷ grammar.word s.table ∷ (grammar.optional grammar.where_part s.where'
    ++ (grammar.optional grammar.order_part s.order ++ grammar.optional grammar.row_lock (tree.written_lock s.items s.lock)))) (items_right s.items) (
      tt,
      (
        tt,
        both (grammar.optional grammar.where_part s.where') _ (maybe_right grammar.where_part where_right s.where')
            (both (grammar.optional grammar.order_part s.order) _ (maybe_right grammar.order_part order_right s.order)
            (maybe_right grammar.row_lock row_lock_right (tree.written_lock s.items s.lock))),
      ),
    )

names_part_right : (ns : Chain tree.Name) → AllRight (grammar.names_part ns)
names_part_right ns = (tt, closed_right (grammar.chain grammar.name ns) (names_right ns))

statement_right : (s : tree.Statement) → AllRight (grammar.statement s)
statement_right (tree.CreateTable n ps) =
    (tt, (tt, (tt, (tt, closed_right (grammar.chain grammar.table_part ps) (chain_right grammar.table_part part_of_right ps)))))
statement_right (tree.Insert n cs rs) = (
  tt,
  (
    tt,
    (
      tt,
      both (grammar.optional grammar.names_part cs) (grammar.key (codes "values") ∷ grammar.rows 0 rs)
          (maybe_right grammar.names_part names_part_right cs) (tt, rows_right 0 rs),
    ),
  ),
)
statement_right (tree.Selects s) = (tt, select_right s)
statement_right (tree.Update n as' c) = (
  tt,
  (
    tt,
    (
      tt,
      both (grammar.chain grammar.assignment as') (grammar.optional grammar.where_part c)
          (chain_right grammar.assignment assignment_right as') (maybe_right grammar.where_part where_right c),
    ),
  ),
)
statement_right (tree.Delete n c) = (tt, (tt, (tt, maybe_right grammar.where_part where_right c)))
statement_right (tree.Begin s l) =
    both (grammar.start s) (grammar.optional grammar.level_part l) (start_right s) (maybe_right grammar.level_part level_part_right l)
statement_right (tree.Ends w n) = (tt, maybe_right grammar.noise noise_right n)
statement_right (tree.Lock t n m w) = (
  tt,
  both (cond t (grammar.key (codes "table") ∷ []) []) (grammar.word n ∷ (grammar.optional grammar.mode_part m ++ grammar.nowait w))
      (if_right t (grammar.key (codes "table") ∷ []) [] (tt, tt) tt) (
        tt,
        both (grammar.optional grammar.mode_part m) (grammar.nowait w) (maybe_right grammar.mode_part mode_part_right m) (nowait_right w),
      ),
)
statement_right (tree.Set s) = (tt, setting_right s)

statements_right : (b : tree.Block) → AllRight (grammar.statements b)
statements_right (Last s) = maybe_right grammar.statement statement_right s
statements_right (More s b) =
    both (grammar.optional grammar.statement s) (grammar.sign (codes ";") ∷ grammar.statements b) (maybe_right grammar.statement statement_right s) (
      tt,
      statements_right b,
    )

spelled_right : (b : tree.Block) → AllRight (grammar.spelling b)
spelled_right b = both (grammar.statements b) (plain End ∷ []) (statements_right b) (tt, tt)

-- ---- what a token passes

here_right : (front : List Marked) (m : Marked) (ms : List Marked) → AllRight (front ++ (m ∷ ms)) → IsRight m.over m.token
here_right [] m ms h = h.0
here_right (f ∷ front) m ms h = here_right front m ms h.1

may_pass : (front : List Placed) (t : Token) (l : Limit) → MayCome front t (Some l) → Passes t l
may_pass front t l m = here_right (good front) (mark t (Some l)) m.rest (subst AllRight m.whole (spelled_right m.tree))

one_limit : (t : Token) (l k : Limit) → Passes t l → Passes t k → l ≡ k
one_limit t NumberTooLarge NumberTooLarge h i = refl
one_limit t TooLarge TooLarge h i = refl
one_limit (Number n) NumberTooLarge TooLarge h i = absurd i
one_limit (Number n) TooLarge NumberTooLarge h i = absurd h
one_limit (Sign n) NumberTooLarge TooLarge h i = absurd h
one_limit (Sign n) TooLarge NumberTooLarge h i = absurd i
one_limit (Key n) NumberTooLarge TooLarge h i = absurd h
one_limit (Key n) TooLarge NumberTooLarge h i = absurd i
one_limit (Word w) NumberTooLarge TooLarge h i = absurd h
one_limit (Word w) TooLarge NumberTooLarge h i = absurd h
one_limit (Text w) NumberTooLarge TooLarge h i = absurd h
one_limit (Text w) TooLarge NumberTooLarge h i = absurd h
one_limit End NumberTooLarge TooLarge h i = absurd h
one_limit End TooLarge NumberTooLarge h i = absurd h
one_limit NoToken NumberTooLarge TooLarge h i = absurd h
one_limit NoToken TooLarge NumberTooLarge h i = absurd h
one_limit NotClosed NumberTooLarge TooLarge h i = absurd h
one_limit NotClosed TooLarge NumberTooLarge h i = absurd h

-- ---- one kind at a place

kind-one : (front : List Placed) (t : Token) (k m : Kind) → IsKind front t k → IsKind front t m → k ≡ m
kind-one front t _ _ (bad_token e) (bad_token f) = refl
kind-one front t _ _ (bad_token e) (unclosed f) = absurd (let no : NoToken ≡ NotClosed = sym e ∙ f in cc)
kind-one front t _ _ (bad_token e) (unsupported w a c) = absurd (subst IsWord e w)
kind-one front t _ _ (bad_token e) (syntax w a c) = absurd (subst IsToken e w)
kind-one front t _ _ (bad_token e) (over l o) = absurd (subst (λ u. Passes u l) e (may_pass front t l o.0))
kind-one front t _ _ (unclosed e) (bad_token f) = absurd (let no : NoToken ≡ NotClosed = sym f ∙ e in cc)
kind-one front t _ _ (unclosed e) (unclosed f) = refl
kind-one front t _ _ (unclosed e) (unsupported w a c) = absurd (subst IsWord e w)
kind-one front t _ _ (unclosed e) (syntax w a c) = absurd (subst IsToken e w)
kind-one front t _ _ (unclosed e) (over l o) = absurd (subst (λ u. Passes u l) e (may_pass front t l o.0))
kind-one front t _ _ (unsupported w a c) (bad_token f) = absurd (subst IsWord f w)
kind-one front t _ _ (unsupported w a c) (unclosed f) = absurd (subst IsWord f w)
kind-one front t _ _ (unsupported w a c) (unsupported v b d) = refl
kind-one front t _ _ (unsupported w a c) (syntax v b d) = absurd (b w a)
kind-one front t _ _ (unsupported w a c) (over l o) = absurd (c (Some l) o.0)
kind-one front t _ _ (syntax w a c) (bad_token f) = absurd (subst IsToken f w)
kind-one front t _ _ (syntax w a c) (unclosed f) = absurd (subst IsToken f w)
kind-one front t _ _ (syntax w a c) (unsupported v b d) = absurd (a v b)
kind-one front t _ _ (syntax w a c) (syntax v b d) = refl
kind-one front t _ _ (syntax w a c) (over l o) = absurd (c (Some l) o.0)
kind-one front t _ _ (over l o) (bad_token f) = absurd (subst (λ u. Passes u l) f (may_pass front t l o.0))
kind-one front t _ _ (over l o) (unclosed f) = absurd (subst (λ u. Passes u l) f (may_pass front t l o.0))
kind-one front t _ _ (over l o) (unsupported v b d) = absurd (d (Some l) o.0)
kind-one front t _ _ (over l o) (syntax v b d) = absurd (d (Some l) o.0)
kind-one front t _ _ (over l o) (over k p) = ap kind_of_limit (one_limit t l k (may_pass front t l o.0) (may_pass front t k p.0))

-- ---- one place

-- two fronts of one text are the same, or one goes on where the other ends
pub data Apart (f : List Placed) (h : Placed) (g : List Placed) (i : Placed) : Type 0 where
  same : f ≡ g → h ≡ i → Apart f h g i
  shorter : (x : List Placed) → g ≡ f ++ (h ∷ x) → Apart f h g i
  longer : (x : List Placed) → f ≡ g ++ (i ∷ x) → Apart f h g i

apart_next : (p q : Placed) (f : List Placed) (h : Placed) (g : List Placed) (i : Placed) → p ≡ q → Apart f h g i → Apart (p ∷ f) h (q ∷ g) i
apart_next p q f h g i e (same a b) = same (λ j. e j ∷ a j) b
apart_next p q f h g i e (shorter x a) = shorter x (λ j. sym e j ∷ a j)
apart_next p q f h g i e (longer x a) = longer x (λ j. e j ∷ a j)

apart : (f : List Placed) (h : Placed) (a : List Placed) (g : List Placed) (i : Placed) (b : List Placed) → f ++ (h ∷ a) ≡ g ++ (i ∷ b) → Apart f h g i
apart [] h a [] i b e = same refl (let e' : h ∷ a ≡ i ∷ b = e in cc)
apart [] h a (q ∷ g) i b e = shorter g (let first : h ≡ q = cc in λ j. sym first j ∷ g)
apart (p ∷ f) h a [] i b e = longer f (let first : p ≡ i = cc in λ j. first j ∷ f)
apart (p ∷ f) h a (q ∷ g) i b e =
    apart_next p q f h g i (let first : p ≡ q = cc in first) (apart f h a g i b (let rest : f ++ (h ∷ a) ≡ g ++ (i ∷ b) = cc in rest))

-- a token within a front may come
within : (f : List Placed) (h : Placed) (x g : List Placed) → g ≡ f ++ (h ∷ x) → Begins g → MayCome f h.token None
within f h x g e b = record {
  tree = b.tree;
  rest = good x ++ b.rest;
  whole = b.whole ∙ ap (λ us. good us ++ b.rest) e ∙ ap (λ us. us ++ b.rest) (good-append f (h ∷ x)) ∙ append_assoc (good f) (good (h ∷ x)) b.rest;
}

pub fault-one : (ts : List Placed) (f g : Fault) → FirstFault ts f → FirstFault ts g → f ≡ g
fault-one ts f g a b = go (apart a.front a.here a.after b.front b.here b.after (sym a.parts ∙ b.parts))
  where
    go : Apart a.front a.here b.front b.here → f ≡ g
    go (same x y) =
        let at : f.at ≡ g.at = a.at ∙ ap (λ (p : Placed). p.at) y ∙ sym b.at in
        let there : IsKind b.front b.here.token f.kind = subst (λ (z : List Placed × Placed). IsKind z.0 z.1.token f.kind) (λ j. (x j, y j)) a.kind in
        let kind : f.kind ≡ g.kind = kind-one b.front b.here.token f.kind g.kind there b.kind in
        λ j. record { kind = kind j; at = at j }
    go (shorter x e) = absurd (a.bad (within a.front a.here x b.front e b.good))
    go (longer x e) = absurd (b.bad (within b.front b.here x a.front e a.good))
