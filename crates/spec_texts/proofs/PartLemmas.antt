-- Statements without effect, one after another, and lists with something in them.
use Rattle.std.proofs.Common.{◌≡◌, refl, sym, ap, ◌∙◌, ℕ, ◌+◌, ◌<◌, Bool, true, false, List, [], ◌∷◌, ◌++◌, length, map, get_or, take, append_assoc}
use Rattle.std.specs.Prelude.{◌||◌, filter}
use Rattle.std.specs.List.{list_any}
use Rattle.std.proofs.lemmas.List.{map-append, take_more}
use Rattle.std.proofs.lemmas.List.Elements.{filter-append}
use Rattle.sql_grammar.specs.Text.{StatementAt, seen}
use Rattle.sql_grammar.specs.Tree.{Last, More}
use Rattle.sql_grammar.specs.Views.{joined, view_form}
use Rattle.sql_grammar.specs.declared.statement.Statement.{Statement}
use Rattle.bound_specs.specs.Binding.{offset_in}
use Rattle.spec_texts.specs.declared.statements.SqlPart.{SqlPart}
use Rattle.spec_texts.specs.Statements.{any_of, has_part, with_at}

-- one of one or more is the first one or one of the others
any-joined : {A : Type 0} (test : A → Bool) (a : A) (xs : List A)
    → any_of test (joined Last (λ b u l. More b l) (λ x. tt {0}) (λ x. x) a xs) ≡ (test a || list_any test xs)
any-joined test a [] = elim (test a) as (λ t. t ≡ (t || false)) [ true ↦ refl | false ↦ refl ]
any-joined test a (x ∷ xs) = ap (λ t. test a || t) (any-joined test x xs)

pub any-true : {A : Type 0} (test : A → Bool) (a : A) (xs : List A) → test a ≡ true
    → any_of test (joined Last (λ b u l. More b l) (λ x. tt {0}) (λ x. x) a xs) ≡ true
any-true test a xs e = any-joined test a xs ∙ ap (λ t. t || list_any test xs) e

pub any-false : {A : Type 0} (test : A → Bool) (a : A) (xs : List A) → test a ≡ false
    → any_of test (joined Last (λ b u l. More b l) (λ x. tt {0}) (λ x. x) a xs) ≡ list_any test xs
any-false test a xs e = any-joined test a xs ∙ ap (λ t. t || list_any test xs) e

abbrev place : Statement → StatementAt
place s = (s.at, view_form s.form)

parts-append : (kind : SqlPart) (block : ℕ) (xs ys : List StatementAt) → with_at kind block (xs ++ ys) ≡ with_at kind block xs ++ with_at kind block ys
parts-append kind block xs ys =
    let test : StatementAt → Bool = λ s. has_part kind s.1 in
    let at : StatementAt → ℕ = λ s. offset_in block s.0 in
    ap (λ (ss : List StatementAt). map at ss) (filter-append test xs ys) ∙ map-append at (filter test xs) (filter test ys)

-- one statement more
pub parts-more : (kind : SqlPart) (block : ℕ) (ss : List Statement) (i : ℕ) (s : Statement) → s ≡ get_or ss i s → i < length ss
    → (all all' old : List ℕ) → all' ≡ all ++ with_at kind block (place s ∷ []) → all ≡ old ++ with_at kind block (seen (take i ss))
    → all' ≡ old ++ with_at kind block (seen (take (i + 1) ss))
parts-more kind block ss i s is h all all' old e so_far =
    let front = with_at kind block (seen (take i ss)) in
    let here = with_at kind block (place s ∷ []) in
    let step : with_at kind block (seen (take (i + 1) ss)) ≡ front ++ here =
    ap (λ (us : List Statement). with_at kind block (seen us)) (take_more ss i s h)
    ∙ ap (with_at kind block) (map-append place (take i ss) (get_or ss i s ∷ []))
    ∙ parts-append kind block (seen (take i ss)) (place (get_or ss i s) ∷ [])
    ∙ ap (λ (t : Statement). front ++ with_at kind block (place t ∷ [])) (sym is) in
    e ∙ ap (λ (bs : List ℕ). bs ++ here) so_far ∙ append_assoc old front here ∙ ap (λ (bs : List ℕ). old ++ bs) (sym step)
