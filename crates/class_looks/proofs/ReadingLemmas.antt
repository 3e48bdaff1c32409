-- What a text is as a look is what it spells, and a look is a SELECT of one of the tables.
use Rattle.std.proofs.Common.{◌≡◌, refl, sym, ap, ◌∙◌, subst, ◌↔◌, ℕ, ◌<◌, List, [], ◌∷◌, length, Option, Some, None, Result, Ok, Err, ◌+◌, arith}
use Rattle.std.specs.Prelude.{◌||◌, get_or, IfOk}
use Rattle.sql_grammar.specs.Tree as tree
use Rattle.sql_grammar.specs.Grammar.{Fault}
use Rattle.sql_grammar.specs.Text.{StatementAt, IsSpelled}
use Rattle.bound_statements.specs.declared.statement.Bound.{Bound}
use Rattle.bound_statements.specs.declared.statement.Bound.TheVariants.{Select}
use Rattle.bound_statements.specs.declared.statement.Output.{Output}
use Rattle.bound_statements.specs.declared.statement.SortKey.{SortKey}
use Rattle.bound_statements.specs.declared.condition.Condition.{Condition}
use Rattle.binding_model.specs.declared.TheConstants.{MAX_TABLES}
use Rattle.binding_model.specs.declared.error.BindError.{BindError}
use Rattle.binding_model.specs.declared.error.BindErrorKind.TheVariants.{UnknownTable, TypeMismatch}
use Rattle.binding_model.specs.declared.tables.Table.{Table}
use Rattle.binding_model.specs.KeyParts.{key_of}
use Rattle.binding_model.specs.Refusals.{Bind, ◌>>=◌, refuse}
use Rattle.binding_model.specs.Statements.{output, sort_keys, lock_of, select, statement}
use Rattle.binding_model.specs.Tables.{no_table, key_column, table_number, table_place}
use Rattle.binding_model.specs.Translation.{where_of}
use Rattle.binding_model.specs.Types.{condition_mixes, output_mixes}
use Rattle.bound_specs.specs.Binding.{read_text}
use Rattle.spec_binding.proofs.ReadLemmas.{spelled-is, refused-is}
use Rattle.spec_binding.proofs.SentLemmas.{IfBound, then-bound, unless-bound, bound-is, below-is, position-below}
use Rattle.order_classes.specs.Looks.{HasKeyFor, IsLook}
use Rattle.class_looks.specs.declared.fault.LookFault.{LookFault}
use Rattle.class_looks.specs.declared.fault.LookFault.TheVariants.{Sql, NotOneSelect, Binding, NoMemory}
use Rattle.class_looks.specs.Reading.{IsOneSelect, IsLookOf, IsNoLook, told_sql, told_bound, bound_one, bound_alone, then_bound, look_of, Finds}

-- ---- a SELECT that is bound is one of the tables

has-key : (o : Option ℕ) (c : Condition) → HasKeyFor o (key_of o c)
has-key None c = tt
has-key (Some k) c = tt

select-looks : (tables : List Table) (t : Table) (at n : ℕ) (s : tree.Select) → n < length tables → t ≡ get_or tables n no_table
    → IfBound (IsLook tables) (select t at n s)
select-looks tables t at n s lt is =
    then-bound (IsLook tables) (output t at s.items) _ (λ (out : Output).
    then-bound (IsLook tables) (sort_keys t at s.order) _ (λ (by : List SortKey).
    then-bound (IsLook tables) (where_of t at s.where') _ (λ (c : Condition).
    unless-bound (IsLook tables) (output_mixes t out || condition_mixes t c) at TypeMismatch
    (Ok (Select n (key_of (key_column t) c) c by out (lock_of (tree.written_lock s.items s.lock))))
    (lt, subst (λ (u : Table). HasKeyFor (key_column u) (key_of (key_column t) c)) is (has-key (key_column t) c)))))

bound-looks : (tables : List Table) (at : ℕ) (s : tree.Select) → IfBound (IsLook tables) (statement tables at (tree.Selects s))
bound-looks tables at s = go (table_number tables s.table) refl
  where
    go : (o : Option ℕ) → table_number tables s.table ≡ o
        → IfBound (IsLook tables)
        (let x : Bind (ℕ × Table) = elim o [ None ↦ refuse at UnknownTable | Some t ↦ Ok (t, get_or tables t no_table) ] in x >>= λ x. select x.1 at x.0 s)
    go None e = tt
    go (Some n) e =
        let place = below-is MAX_TABLES (table_place tables s.table) n e in
        let below : n < 0 + length tables = position-below _ 0 tables n place.0 in
        select-looks tables (get_or tables n no_table) at n s (omega (arith, below)) refl

-- ---- what is found of a text

told-is : (b : Bind Bound) (st : Bound) → told_bound b ≡ Ok st → b ≡ Ok st
told-is (Ok x) st e = let same : x ≡ st = cc (e) in ap Ok same
told-is (Err f) st e = absurd (cc e)

abbrev OfStatement : List Table → StatementAt → Type 0
OfStatement tables s = (st : Bound) → bound_one tables s ≡ Ok st → (select : tree.Select) × (s.1 ≡ tree.Selects select) × (statement tables s.0 s.1 ≡ Ok st)

one-is : (tables : List Table) (at : ℕ) (s : tree.Statement) → OfStatement tables (at, s)
one-is tables at (tree.CreateTable n ps) st e = absurd (cc e)
one-is tables at (tree.Insert n names rows) st e = absurd (cc e)
one-is tables at (tree.Selects s) st e = (s, refl, told-is (statement tables at (tree.Selects s)) st e)
one-is tables at (tree.Update n sets c) st e = absurd (cc e)
one-is tables at (tree.Delete n c) st e = absurd (cc e)
one-is tables at (tree.Begin start level) st e = absurd (cc e)
one-is tables at (tree.Ends word noise) st e = absurd (cc e)
one-is tables at (tree.Lock word n mode nowait) st e = absurd (cc e)
one-is tables at (tree.Set setting) st e = absurd (cc e)

-- one SELECT alone that is bound
alone-is : (tables : List Table) (ss : List StatementAt) (st : Bound) → bound_alone tables ss ≡ Ok st
    → (at : ℕ) × (select : tree.Select) × (ss ≡ (at, tree.Selects select) ∷ []) × (statement tables at (tree.Selects select) ≡ Ok st)
alone-is tables [] st e = absurd (cc e)
alone-is tables (s ∷ []) st e =
    let x = one-is tables s.0 s.1 st e in
    (s.0, x.0, (λ i. (s.0, x.1 i) ∷ []), subst (λ (u : tree.Statement). statement tables s.0 u ≡ Ok st) x.1 x.2)
alone-is tables (s ∷ t ∷ ss) st e = absurd (cc e)

pub looks-are : (tables : List Table) (text : List ℕ) (st : Bound) → look_of tables text ≡ Ok st → IsLookOf tables text st
looks-are tables text st e = go (read_text text) refl e
  where
    go : (r : Result (List StatementAt) Fault) → read_text text ≡ r → then_bound tables (told_sql r) ≡ Ok st → IsLookOf tables text st
    go (Ok ss) p h =
        let x = alone-is tables ss st h in
        record { at = x.0; select = x.1; spelled = subst (IsSpelled text) x.2 ((spelled-is text ss).0 p); bound = x.3 }
    go (Err f) p h = absurd (cc h)

pub looks-of : (tables : List Table) (text : List ℕ) (st : Bound) → look_of tables text ≡ Ok st → IsLook tables st
looks-of tables text st e =
    let is = looks-are tables text st e in
    bound-is (IsLook tables) (statement tables is.at (tree.Selects is.select)) st (bound-looks tables is.at is.select) is.bound

are-looks : (tables : List Table) (text : List ℕ) (st : Bound) → IsLookOf tables text st → look_of tables text ≡ Ok st
are-looks tables text st is =
    ap (λ r. then_bound tables (told_sql r)) ((spelled-is text ((is.at, tree.Selects is.select) ∷ [])).1 is.spelled) ∙ ap told_bound is.bound

-- ---- why a text is none

told-no : (b : Bind Bound) (f : LookFault) → told_bound b ≡ Err f → (e : BindError) × (f ≡ Binding e) × (b ≡ Err e)
told-no (Ok x) f h = absurd (cc h)
told-no (Err e) f h = let same : Binding e ≡ f = cc (h) in (e, sym same, refl)

-- statements that are not one SELECT alone, or one whose SELECT is refused
abbrev NoLookIn : List Table → List StatementAt → LookFault → Type 0
NoLookIn tables ss (Sql e) = ⊥
NoLookIn tables ss NotOneSelect = IsOneSelect ss → ⊥
NoLookIn tables ss (Binding e) = (at : ℕ) × (select : tree.Select) × (ss ≡ (at, tree.Selects select) ∷ []) × (statement tables at (tree.Selects select) ≡ Err e)
NoLookIn tables ss NoMemory = ⊥

abbrev IsOther : tree.Statement → Type 0
IsOther s = (select : tree.Select) → s ≡ tree.Selects select → ⊥

not-select : (tables : List Table) (at : ℕ) (s : tree.Statement) (f : LookFault) → IsOther s → ◌≡◌ {A = Result Bound LookFault} (Err NotOneSelect) (Err f)
    → NoLookIn tables ((at, s) ∷ []) f
not-select tables at s f is_other h =
    let same : NotOneSelect ≡ f = cc (h) in
    subst (NoLookIn tables ((at, s) ∷ [])) same (λ (is : IsOneSelect ((at, s) ∷ [])).
    (let e : (at, s) ∷ [] ≡ (is.0, tree.Selects is.1) ∷ [] = is.2 in
    let pair : ◌≡◌ {A = StatementAt} (at, s) (is.0, tree.Selects is.1) = cc in
    is_other is.1 (ap (λ (x : StatementAt). x.1) pair)))

one-no : (tables : List Table) (at : ℕ) (s : tree.Statement) (f : LookFault) → bound_one tables (at, s) ≡ Err f → NoLookIn tables ((at, s) ∷ []) f
one-no tables at (tree.CreateTable n ps) f h = not-select tables at (tree.CreateTable n ps) f (λ x e. absurd (cc e)) h
one-no tables at (tree.Insert n names rows) f h = not-select tables at (tree.Insert n names rows) f (λ x e. absurd (cc e)) h
one-no tables at (tree.Selects s) f h =
    let x = told-no (statement tables at (tree.Selects s)) f h in
    subst (NoLookIn tables ((at, tree.Selects s) ∷ [])) (sym x.1) (at, s, refl, x.2)
one-no tables at (tree.Update n sets c) f h = not-select tables at (tree.Update n sets c) f (λ x e. absurd (cc e)) h
one-no tables at (tree.Delete n c) f h = not-select tables at (tree.Delete n c) f (λ x e. absurd (cc e)) h
one-no tables at (tree.Begin start level) f h = not-select tables at (tree.Begin start level) f (λ x e. absurd (cc e)) h
one-no tables at (tree.Ends word noise) f h = not-select tables at (tree.Ends word noise) f (λ x e. absurd (cc e)) h
one-no tables at (tree.Lock word n mode nowait) f h = not-select tables at (tree.Lock word n mode nowait) f (λ x e. absurd (cc e)) h
one-no tables at (tree.Set setting) f h = not-select tables at (tree.Set setting) f (λ x e. absurd (cc e)) h

alone-no : (tables : List Table) (ss : List StatementAt) (f : LookFault) → bound_alone tables ss ≡ Err f → NoLookIn tables ss f
alone-no tables [] f h =
    let same : NotOneSelect ≡ f = cc (h) in
    subst (NoLookIn tables []) same (λ (is : IsOneSelect []). (let e : [] ≡ (is.0, tree.Selects is.1) ∷ [] = is.2 in absurd cc))
alone-no tables (s ∷ []) f h = one-no tables s.0 s.1 f h
alone-no tables (s ∷ t ∷ ss) f h =
    let same : NotOneSelect ≡ f = cc (h) in
    subst (NoLookIn tables (s ∷ t ∷ ss)) same
    (λ (is : IsOneSelect (s ∷ t ∷ ss)). (let e : s ∷ t ∷ ss ≡ (is.0, tree.Selects is.1) ∷ [] = is.2 in absurd cc))

spelled-no : (tables : List Table) (text : List ℕ) (ss : List StatementAt) (f : LookFault) → read_text text ≡ Ok ss → NoLookIn tables ss f
    → IsNoLook tables text f
spelled-no tables text ss (Sql e) p h = absurd h
spelled-no tables text ss NotOneSelect p h = (ss, (spelled-is text ss).0 p, h)
spelled-no tables text ss (Binding e) p h = (h.0, h.1, subst (IsSpelled text) h.2 ((spelled-is text ss).0 p), h.3)
spelled-no tables text ss NoMemory p h = absurd h

none-are : (tables : List Table) (text : List ℕ) (f : LookFault) → look_of tables text ≡ Err f → IsNoLook tables text f
none-are tables text f e = go (read_text text) refl e
  where
    go : (r : Result (List StatementAt) Fault) → read_text text ≡ r → then_bound tables (told_sql r) ≡ Err f → IsNoLook tables text f
    go (Ok ss) p h = spelled-no tables text ss f p (alone-no tables ss f h)
    go (Err g) p h =
        let same : Sql (record { kind = g.kind; offset = g.at }) ≡ f = cc (h) in subst (IsNoLook tables text) same ((refused-is text g).0 p)

-- statements that are not one SELECT alone are told so
other-told : (tables : List Table) (at : ℕ) (s : tree.Statement) → IsOther s → bound_one tables (at, s) ≡ Err NotOneSelect
other-told tables at (tree.CreateTable n ps) is_other = refl
other-told tables at (tree.Insert n names rows) is_other = refl
other-told tables at (tree.Selects s) is_other = absurd (is_other s refl)
other-told tables at (tree.Update n sets c) is_other = refl
other-told tables at (tree.Delete n c) is_other = refl
other-told tables at (tree.Begin start level) is_other = refl
other-told tables at (tree.Ends word noise) is_other = refl
other-told tables at (tree.Lock word n mode nowait) is_other = refl
other-told tables at (tree.Set setting) is_other = refl

others-told : (tables : List Table) (ss : List StatementAt) → (IsOneSelect ss → ⊥) → bound_alone tables ss ≡ Err NotOneSelect
others-told tables [] are_others = refl
others-told tables (s ∷ []) are_others = other-told tables s.0 s.1 (λ select e. are_others (s.0, select, λ i. (s.0, e i) ∷ []))
others-told tables (s ∷ t ∷ ss) are_others = refl

are-none : (tables : List Table) (text : List ℕ) (f : LookFault) → IsNoLook tables text f → look_of tables text ≡ Err f
are-none tables text (Sql e) is = ap (λ r. then_bound tables (told_sql r)) ((refused-is text (record { kind = e.kind; at = e.offset })).1 is)
are-none tables text NotOneSelect is =
    ap (λ r. then_bound tables (told_sql r)) ((spelled-is text is.0).1 is.1) ∙ others-told tables is.0 is.2
are-none tables text (Binding e) is =
    ap (λ r. then_bound tables (told_sql r)) ((spelled-is text ((is.0, tree.Selects is.1) ∷ [])).1 is.2) ∙ ap told_bound is.3
are-none tables text NoMemory is = absurd is

pub looks-spelled : (tables : List Table) (text : List ℕ)
    → ((st : Bound) → (look_of tables text ≡ Ok st) ↔ IsLookOf tables text st)
    × ((f : LookFault) → (look_of tables text ≡ Err f) ↔ IsNoLook tables text f)
looks-spelled tables text = (
  λ st. (looks-are tables text st, are-looks tables text st),
  λ f. (none-are tables text f, are-none tables text f),
)

-- ---- what the code finds

pub then-none : {X : Type 0} (view : X → List StatementAt) (tables : List Table) (r : Result (List StatementAt) LookFault) (f : LookFault)
    → Finds view (Err f) r → Finds (λ (st : Bound). st) (Err f) (then_bound tables r)
then-none view tables r NoMemory h = tt
then-none view tables r (Sql e) h = ap (then_bound tables) h
then-none view tables r NotOneSelect h = ap (then_bound tables) h
then-none view tables r (Binding e) h = ap (then_bound tables) h

pub then-found : (tables : List Table) (r : Result (List StatementAt) LookFault) (ss : List StatementAt) (found : Result Bound LookFault) → r ≡ Ok ss
    → Finds (λ (st : Bound). st) found (bound_alone tables ss) → Finds (λ (st : Bound). st) found (then_bound tables r)
then-found tables r ss found e h = subst (λ x. Finds (λ (st : Bound). st) found (then_bound tables x)) (sym e) h

pub found-look : (tables : List Table) (text : List ℕ) (found : Result Bound LookFault) → Finds (λ (st : Bound). st) found (look_of tables text)
    → IfOk found (IsLook tables)
found-look tables text (Ok st) h = looks-of tables text st h
found-look tables text (Err f) h = tt
