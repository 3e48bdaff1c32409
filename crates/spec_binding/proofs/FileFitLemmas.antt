-- The statements of a spec file fit the tables that it declares.
use Rattle.std.proofs.Common.{false, ◌≡◌, refl, sym, subst, ◌∙◌, ℕ, suc, ◌<◌, List, [], ◌∷◌, ◌++◌, length, All, get_or, Option, Some, None, Ok, Err, arith}
use Rattle.std.proofs.Common.{append_assoc, length-append}
use Rattle.std.proofs.lemmas.List.{get_or_append_left}
use Rattle.std.proofs.lemmas.List.Elements.{All-nil, All-cons, All-append, All-map, All-head, All-tail}
use Rattle.spec_reader.specs.Tree.{BlockTree, SessionTree, SpecTree}
use Rattle.sql_grammar.specs.Tree as tree
use Rattle.sql_grammar.specs.Tree.{Chain}
use Rattle.sql_grammar.specs.declared.statement.TablePart.{TablePart}
use Rattle.bound_statements.specs.declared.statement.Bound.{Bound}
use Rattle.bound_statements.specs.declared.statement.Bound.TheVariants.{Select, Insert, Update, Delete, Begin, Commit, Rollback, Lock, SetVariable}
use Rattle.bound_statements.specs.declared.statement.Level.{Level}
use Rattle.binding_model.specs.declared.error.BindErrorKind.{BindErrorKind}
use Rattle.binding_model.specs.declared.tables.Table.{Table}
use Rattle.bound_specs.specs.Binding.{IsFileAt, IsFileOf, read_block, statement_at, bind_block, session_setup, step, BoundSession, session, then_more, sent}
use Rattle.bound_specs.specs.Binding.{main_statement, main_at, main_setup, offset_in, numbered, all_steps, made_file, shaped, written_file, bound_at}
use Rattle.bound_specs.specs.Binding.{declared as declared_by}
use Rattle.bound_specs.specs.Fits.{Takes, ColumnOf, RowFits, OfTable, Fits, SpecFits}
use Rattle.bound_specs.specs.Levels.{levelled_file}
use Rattle.bound_specs.specs.Lines.{orders_of}
use Rattle.binding_model.specs.Names.{Name, list_of}
use Rattle.binding_model.specs.Refusals.{Bind, ◌>>=◌, refuse, each}
use Rattle.bound_specs.specs.Spec.{Step, SpecFile}
use Rattle.binding_model.specs.Statements.{sets_key, statement}
use Rattle.binding_model.specs.Tables.{no_table, key_column, create, refusal, joined, part_columns, part_keys, declared}
use Rattle.spec_binding.proofs.FitLemmas.{then-both, each-bound, statement-fits}
use Rattle.bound_specs.proofs.FileLemmas.{bind}
use Rattle.spec_binding.proofs.LevelledLemmas.{fit-levelled}
use Rattle.spec_binding.proofs.SentLemmas.{IfBound, then-bound, bound-is}

-- ---- more tables

abbrev Extends : List Table → List Table → Type 0
Extends tables more = (extra : List Table) × (more ≡ tables ++ extra)

none-more : (tables : List Table) → tables ≡ tables ++ []
none-more [] = refl
none-more (t ∷ ts) = λ i. t ∷ none-more ts i

extends-same : (tables : List Table) → Extends tables tables
extends-same tables = ([], none-more tables)

extends-then : (a b c : List Table) → Extends a b → Extends b c → Extends a c
extends-then a b c x y = (x.0 ++ y.0, y.1 ∙ (λ i. x.1 i ++ y.0) ∙ append_assoc a x.0 y.0)

longer : (tables extra : List Table) (n : ℕ) → n < length tables → n < length (tables ++ extra)
longer tables extra n h = omega (arith, length-append tables extra)

of-more : (tables extra : List Table) (n : ℕ) (P : Table → Type 0) → OfTable tables n P → OfTable (tables ++ extra) n P
of-more tables extra n P h = (longer tables extra n h.0, subst P (sym (get_or_append_left tables extra no_table n h.0)) h.1)

fits-more : (tables extra : List Table) (b : Bound) → Fits tables b → Fits (tables ++ extra) b
fits-more tables extra (Select n key c by out l) h = of-more tables extra n (λ t. Takes (ColumnOf t) (Select n key c by out l)) h
fits-more tables extra (Insert n key rows) h = of-more tables extra n (λ t. (key ≡ key_column t) × All (RowFits t) rows) h
fits-more tables extra (Update n key sets c) h =
    of-more tables extra n (λ t. Takes (ColumnOf t) (Update n key sets c) × (sets_key (key_column t) sets ≡ false)) h
fits-more tables extra (Delete n key c) h = of-more tables extra n (λ t. Takes (ColumnOf t) (Delete n key c)) h
fits-more tables extra (Lock n mode r) h = longer tables extra n h
fits-more tables extra (Begin level) h = tt
fits-more tables extra Commit h = tt
fits-more tables extra Rollback h = tt
fits-more tables extra SetVariable h = tt

fits-under : (t u : List Table) (b : Bound) → Extends t u → Fits t b → Fits u b
fits-under t u b e h = subst (λ (s : List Table). Fits s b) (sym e.1) (fits-more t e.0 b h)

block-under : (t u : List Table) (bs : List Bound) → Extends t u → All (Fits t) bs → All (Fits u) bs
block-under t u bs e h = λ i d lt. fits-under t u (get_or bs i d) e (h i d lt)

-- ---- what is declared one after another fits the tables at its end

module _ {X : Type 0} (P : List Table → X → Type 0) (under : (t u : List Table) (x : X) → Extends t u → P t x → P u x) where
  abbrev Grown : List Table → List Table × List X → Type 0
  Grown tables y = Extends tables y.0 × All (P y.0) y.1

  more-grown : (t u : List Table) (xs : List X) (r : Bind (List Table × List X)) → Extends t u → All (P u) xs → IfBound (Grown u) r
      → IfBound (Grown t) (then_more xs r)
  more-grown t u xs (Ok y) e all h = (extends-then t u y.0 e h.0, All-append (P y.0) xs y.1 (λ i d lt. under u y.0 (get_or xs i d) h.0 (all i d lt)) h.1)
  more-grown t u xs (Err e') e all h = tt

  declared-grown : {A : Type 0} (f : List Table → A → Bind (List Table × List X)) → ((t : List Table) (a : A) → IfBound (Grown t) (f t a))
      → (as' : List A) (tables : List Table) → IfBound (Grown tables) (declared_by f tables as')
  declared-grown f h [] tables = (extends-same tables, All-nil (P tables))
  declared-grown f h (a ∷ as') tables =
      then-both (Grown tables) (Grown tables) (f tables a) (λ y. then_more y.1 (declared_by f y.0 as')) (h tables a)
      (λ y g. more-grown tables y.0 y.1 (declared_by f y.0 as') g.0 g.1 (declared-grown f h as' y.0))

abbrev Made : List Table → List Table × List Bound → Type 0
Made tables y = Grown Fits fits-under tables y

abbrev MadeBlocks : List Table → List Table × List (List Bound) → Type 0
MadeBlocks tables y = Grown (λ t. All (Fits t)) block-under tables y

created : (tables : List Table) (at : ℕ) (n : Name) (ps : Chain TablePart) → IfBound (Extends tables) (create tables at n ps)
created tables at n ps = go (refusal tables n (joined part_columns (list_of ps)) (joined part_keys (list_of ps)))
  where
    go : (o : Option BindErrorKind)
        → IfBound (Extends tables) (elim o [
          | Some kind ↦ refuse at kind
          | None ↦ Ok (tables ++ declared n (joined part_columns (list_of ps)) (joined part_keys (list_of ps)) ∷ [])
        ])
    go None = (declared n (joined part_columns (list_of ps)) (joined part_keys (list_of ps)) ∷ [], refl)
    go (Some kind) = tt

sent-made : (tables : List Table) (r : Bind Bound) → IfBound (Fits tables) r → IfBound (Made tables) (sent tables r)
sent-made tables (Ok b) h = (extends-same tables, All-cons (Fits tables) b [] h (All-nil (Fits tables)))
sent-made tables (Err e) h = tt

main-made : (tables : List Table) (at : ℕ) (s : tree.Statement) → IfBound (Made tables) (main_statement tables at s)
main-made tables at (tree.CreateTable n ps) =
    then-both (Extends tables) (Made tables) (create tables at n ps) (λ more. Ok (more, [])) (created tables at n ps) (λ more e. (e, All-nil (Fits more)))
main-made tables at (tree.Insert n names rows) =
    sent-made tables (statement tables at (tree.Insert n names rows)) (statement-fits tables at (tree.Insert n names rows))
main-made tables at (tree.Selects s) = sent-made tables (statement tables at (tree.Selects s)) (statement-fits tables at (tree.Selects s))
main-made tables at (tree.Update n as' c) = sent-made tables (statement tables at (tree.Update n as' c)) (statement-fits tables at (tree.Update n as' c))
main-made tables at (tree.Delete n c) = sent-made tables (statement tables at (tree.Delete n c)) (statement-fits tables at (tree.Delete n c))
main-made tables at (tree.Begin start level) =
    sent-made tables (statement tables at (tree.Begin start level)) (statement-fits tables at (tree.Begin start level))
main-made tables at (tree.Ends word noise) = sent-made tables (statement tables at (tree.Ends word noise)) (statement-fits tables at (tree.Ends word noise))
main-made tables at (tree.Lock word n mode r) = sent-made tables (statement tables at (tree.Lock word n mode r)) (statement-fits tables at (tree.Lock word n mode r))
main-made tables at (tree.Set setting) = sent-made tables (statement tables at (tree.Set setting)) (statement-fits tables at (tree.Set setting))

setup-made : (tables : List Table) (b : BlockTree) → IfBound (MadeBlocks tables) (main_setup tables b)
setup-made tables b =
    then-bound (MadeBlocks tables) (read_block b) (λ ss. declared_by (main_at b.at) tables ss >>= λ x. Ok (x.0, x.1 ∷ [])) (λ ss.
    then-both (Made tables) (MadeBlocks tables) (declared_by (main_at b.at) tables ss) (λ x. Ok (x.0, x.1 ∷ []))
    (declared-grown Fits fits-under (main_at b.at) (λ t s. main-made t (offset_in b.at s.0) s.1) ss tables)
    (λ x g. (g.0, All-cons (All (Fits x.0)) x.1 [] g.1 (All-nil (All (Fits x.0))))))

-- ---- sessions

block-fits : (tables : List Table) (b : BlockTree) → IfBound (All (Fits tables)) (bind_block tables b)
block-fits tables b =
    then-bound (All (Fits tables)) (read_block b) (λ ss. each (statement_at tables b.at) ss) (λ ss.
    each-bound (Fits tables) (statement_at tables b.at) (λ s. statement-fits tables (offset_in b.at s.0) s.1) ss)

setup-fits : (tables : List Table) (o : Option BlockTree) → IfBound (All (Fits tables)) (session_setup tables o)
setup-fits tables None = All-nil (Fits tables)
setup-fits tables (Some b) = block-fits tables b

record SessionFits (tables : List Table) (s : BoundSession) : Type 0 where
  pub setup : All (Fits tables) s.setup
  pub steps : All (All (Fits tables)) s.steps

session-fits : (tables : List Table) (s : SessionTree) → IfBound (SessionFits tables) (session tables s)
session-fits tables s =
    then-both (All (Fits tables)) (SessionFits tables) (session_setup tables s.head.setup) _ (setup-fits tables s.head.setup) (λ setup h.
    then-both (All (All (Fits tables))) (SessionFits tables) (each (step tables) s.steps) (λ steps. Ok (record { setup = setup; steps = steps }))
    (each-bound (All (Fits tables)) (step tables) (λ t. block-fits tables t.block) s.steps) (λ steps k. record { setup = h; steps = k }))

steps-fit : (tables : List Table) (i : ℕ) (ss : List BoundSession) → All (SessionFits tables) ss
    → All (λ (s : Step). All (Fits tables) s.statements) (all_steps i ss)
steps-fit tables i [] h = All-nil (λ (s : Step). All (Fits tables) s.statements)
steps-fit tables i (s ∷ ss) h =
    let P : Step → Type 0 = λ s. All (Fits tables) s.statements in
    All-append P (numbered i s.steps) (all_steps (suc i) ss)
    (All-map P (λ (bs : List Bound). record { session = i; statements = bs }) s.steps (All-head (SessionFits tables) s ss h).steps)
    (steps-fit tables (suc i) ss (All-tail (SessionFits tables) s ss h))

-- ---- the file

-- the statements of a spec as it is written fit the tables that its main setups declare
written-fit : (text : List ℕ) (tree : SpecTree) (file : SpecFile) → written_file text tree ≡ Ok file → (main : List Table × List (List Bound))
    × ((declared_by main_setup [] tree.front.setups ≡ Ok main) × SpecFits main.0 file.run)
written-fit text tree file is_bound =
    let a = bind (shaped (orders_of tree)) _ file is_bound in
    let b = bind (declared_by main_setup [] tree.front.setups) _ file a.1.1 in
    let main = b.0 in
    let c = bind (each (session main.0) tree.sessions) _ file b.1.1 in
    let same : made_file text tree a.0 main.1 c.0 ≡ file = cc (c.1.1) in
    let g : MadeBlocks [] main = bound-is (MadeBlocks []) (declared_by main_setup [] tree.front.setups) main
    (declared-grown (λ t. All (Fits t)) block-under main_setup setup-made tree.front.setups []) b.1.0 in
    let h : All (SessionFits main.0) c.0 = bound-is (All (SessionFits main.0)) (each (session main.0) tree.sessions) c.0
    (each-bound (SessionFits main.0) (session main.0) (session-fits main.0) tree.sessions) c.1.0 in (
      main,
      (
        b.1.0,
        subst (λ (f : SpecFile). SpecFits main.0 f.run) same (record {
          setups = g.1;
          session_setups = All-map (All (Fits main.0)) (λ (s : BoundSession). s.setup) c.0 (λ i d lt. (h i d lt).setup);
          steps = steps-fit main.0 0 c.0 h;
        }),
      ),
    )

at-fit : (text : List ℕ) (tree : SpecTree) (asked : Option Level) (file : SpecFile) → bound_at asked text tree ≡ Ok file → (main : List Table × List (List Bound))
    × ((declared_by main_setup [] tree.front.setups ≡ Ok main) × SpecFits main.0 file.run)
at-fit text tree asked file is_bound =
    let a = bind (written_file text tree) _ file is_bound in
    let same : levelled_file asked a.0 ≡ file = cc (a.1.1) in
    let written = written-fit text tree a.0 a.1.0 in
    (written.0, (written.1.0, subst (λ (f : SpecFile). SpecFits written.0.0 f.run) same (fit-levelled written.0.0 asked a.0.run written.1.1)))

-- at each level, and where none is asked for
pub files-fit-at : (text : List ℕ) (file : SpecFile) → (is : IsFileAt text file) → (main : List Table × List (List Bound))
    × ((declared_by main_setup [] is.tree.front.setups ≡ Ok main) × SpecFits main.0 file.run)
files-fit-at text file is = at-fit text is.tree file.asked file is.is_bound

pub files-fit : (text : List ℕ) (file : SpecFile) → (is : IsFileOf text file) → (main : List Table × List (List Bound))
    × ((declared_by main_setup [] is.tree.front.setups ≡ Ok main) × SpecFits main.0 file.run)
files-fit text file is = at-fit text is.tree None file is.is_bound
