-- A file that is bound is ready to run.
use Rattle.std.proofs.Common.{◌≡◌, refl, sym, ap, subst, ◌∙◌, ℕ, suc, ◌+◌, ◌<◌, ◌≤◌, ◌≢◌, Bool, true, false, cond, List, [], ◌∷◌, ◌++◌, length, map, All}
use Rattle.std.proofs.Common.{get_or, Option, Some, None, Ok, Err, arith, length-append, append_assoc, drop, drop-cons, add-one}
use Rattle.std.specs.Prelude.{◌==◌, ◌&&◌, ◌||◌, ◌^◌, nat_le, nat_lt, is_ok, bytes_eq}
use Rattle.std.proofs.lemmas.List.{length-map, append-nil}
use Rattle.std.proofs.lemmas.List.Elements.{All-nil, All-cons, All-append, All-map, All-head, All-tail}
use Rattle.std.proofs.lemmas.Bool.{leb-true, ltb-false, eq-eqb, ne_eqb}
use Rattle.perm_ranks.specs.declared.TheConstants.{MAX_SESSIONS, MAX_STEPS}
use Rattle.perm_ranks.specs.declared.error.ShapeError.{ShapeError}
use Rattle.perm_ranks.specs.declared.error.ShapeError.TheVariants.{Empty, TooManySessions, TooManySteps, TooManyRanks}
use Rattle.perm_ranks.specs.Shape.{shape_of, has_idle}
use Rattle.perm_ranks.specs.Words.{total, all_words}
use Rattle.spec_reader.specs.declared.TheConstants.{MAX_ITEMS, MAX_LINES}
use Rattle.spec_reader.specs.declared.tree.Session.{Session}
use Rattle.spec_reader.specs.Views.{session_tree, step_tree}
use Rattle.spec_reader.specs.Text.{IsSpec}
use Rattle.spec_reader.specs.Tree.{StepTree, SessionTree, LineTree, SpecTree}
use Rattle.bound_statements.specs.Plan.{HasKeys, IsShort}
use Rattle.bound_statements.specs.declared.statement.Bound.{Bound}
use Rattle.bound_specs.specs.declared.TheConstants.{MAX_LINED_STEPS}
use Rattle.binding_model.specs.declared.tables.Table.{Table}
use Rattle.bound_specs.specs.Spec.{Step, Spec, SpecFile, counts_of, steps_of, queues_from, queues_of, step_limit, IsLine, IsStep, IsReady, AllHaveKeys}
use Rattle.bound_specs.specs.Spec.{AllAreShort}
use Rattle.bound_specs.specs.Binding.{BoundSession, session, declared, main_setup, numbered, all_steps, made_file, shaped, written_file, IsFileAt, IsFileOf}
use Rattle.bound_specs.specs.Levels.{levelled_file}
use Rattle.bound_specs.specs.Lines.{counts_in, step_names, then_some, all_some, step_number, numbered_line, lines_by, orders_of}
use Rattle.binding_model.specs.Refusals.{Bind, ◌>>=◌, each}
use Rattle.bound_specs.specs.declared.orders.Orders.{Orders}
use Rattle.bound_specs.specs.declared.orders.Orders.TheVariants.{Words, Lines}
use Rattle.bound_specs.specs.declared.spec.Parts.{Parts}
use Rattle.bound_specs.specs.Orders.{IsOrderOf}
use Rattle.bound_specs.specs.Views.{file_of, IsKept}
use Rattle.bound_specs.proofs.FileLemmas.{bind, each-length}
use Rattle.spec_binding.specs.Bindings.{FitsCounts}
use Rattle.spec_binding.proofs.LevelledLemmas.{run-queues, ready-levelled}
use Rattle.spec_binding.proofs.SentLemmas.{IsSent, AllSent, position-below, each-All, each-told, session-sent, setups-sent}

all-keys : (bs : List Bound) → All IsSent bs → All HasKeys bs
all-keys bs h = λ i d lt. (h i d lt).0

all-short : (bs : List Bound) → All IsSent bs → All IsShort bs
all-short bs h = λ i d lt. (h i d lt).1

each-keys : (blocks : List (List Bound)) → AllSent blocks → AllHaveKeys blocks
each-keys blocks h = λ i d lt. all-keys (get_or blocks i d) (h i d lt)

each-short : (blocks : List (List Bound)) → AllSent blocks → AllAreShort blocks
each-short blocks h = λ i d lt. all-short (get_or blocks i d) (h i d lt)

-- ---- how many steps there are

abbrev lens : List BoundSession → List ℕ
lens ss = map (λ (s : BoundSession). length s.steps) ss

length-all_steps : (i : ℕ) (ss : List BoundSession) → length (all_steps i ss) ≡ total (lens ss)
length-all_steps i [] = refl
length-all_steps i (s ∷ ss) =
    let here : length (numbered i s.steps) ≡ length s.steps = length-map s.steps _ in
    omega (arith, length-append (numbered i s.steps) (all_steps (suc i) ss), here, length-all_steps (suc i) ss)

pub length-step_names : (ss : List SessionTree) → length (step_names ss) ≡ total (counts_in ss)
length-step_names [] = refl
length-step_names (s ∷ ss) =
    let here : length (map (λ (t : StepTree). t.name) s.steps) ≡ length s.steps = length-map s.steps _ in
    omega (arith, length-append (map (λ (t : StepTree). t.name) s.steps) (step_names ss), here, length-step_names ss)

-- ---- each step is one of its session

steps-own : (n i : ℕ) (blocks : List (List Bound)) → i < n → AllSent blocks → All (IsStep n) (numbered i blocks)
steps-own n i [] h sent = All-nil (IsStep n)
steps-own n i (b ∷ bs) h sent =
    All-cons (IsStep n) (record { session = i; statements = b }) (numbered i bs)
    (record { session = h; keys = all-keys b (All-head (All IsSent) b bs sent); short = all-short b (All-head (All IsSent) b bs sent) })
    (steps-own n i bs h (All-tail (All IsSent) b bs sent))

steps-all : (n i : ℕ) (ss : List BoundSession) → i + length ss ≡ n → All (λ (s : BoundSession). AllSent s.steps) ss → All (IsStep n) (all_steps i ss)
steps-all n i [] e sent = All-nil (IsStep n)
steps-all n i (s ∷ ss) e sent =
    All-append (IsStep n) (numbered i s.steps) (all_steps (suc i) ss)
    (steps-own n i s.steps (omega arith) (All-head (λ (s : BoundSession). AllSent s.steps) s ss sent))
    (steps-all n (suc i) ss (omega arith) (All-tail (λ (s : BoundSession). AllSent s.steps) s ss sent))

-- ---- the queues have as many steps as the sessions

-- how many steps are the session's
abbrev own : ℕ → List Step → ℕ
own j [] = 0
own j (s ∷ ss) = cond (s.session == j) (suc (own j ss)) (own j ss)

own_if : (b : Bool) (k : ℕ) (ks : List ℕ) (n : ℕ) → length ks ≡ n → length (cond b (k ∷ ks) ks) ≡ cond b (suc n) n
own_if true k ks n e = ap suc e
own_if false k ks n e = e

length-steps_of : (j k : ℕ) (ss : List Step) → length (steps_of j k ss) ≡ own j ss
length-steps_of j k [] = refl
length-steps_of j k (s ∷ ss) = own_if (s.session == j) k (steps_of j (suc k) ss) (own j ss) (length-steps_of j (suc k) ss)

plus_if : (b : Bool) (m n k : ℕ) → m ≡ n + k → cond b (suc m) m ≡ cond b (suc n) n + k
plus_if true m n k e = omega (arith, e)
plus_if false m n k e = e

own-append : (j : ℕ) (ss ts : List Step) → own j (ss ++ ts) ≡ own j ss + own j ts
own-append j [] ts = omega arith
own-append j (s ∷ ss) ts = plus_if (s.session == j) (own j (ss ++ ts)) (own j ss) (own j ts) (own-append j ss ts)

same : (n : ℕ) → (n == n) ≡ true
same n = eq-eqb n n refl

differ : (i j : ℕ) → i ≢ j → (i == j) ≡ false
differ i j h = ne_eqb i j h

one_more : (b : Bool) (m n : ℕ) → b ≡ true → m ≡ n → cond b (suc m) m ≡ suc n
one_more true m n e f = ap suc f
one_more false m n e f = cc

no_more : (b : Bool) (m : ℕ) → b ≡ false → m ≡ 0 → cond b (suc m) m ≡ 0
no_more true m e f = cc
no_more false m e f = f

own-same : (i : ℕ) (blocks : List (List Bound)) → own i (numbered i blocks) ≡ length blocks
own-same i [] = refl
own-same i (b ∷ bs) = one_more (i == i) (own i (numbered i bs)) (length bs) (same i) (own-same i bs)

own-other : (i j : ℕ) (blocks : List (List Bound)) → i ≢ j → own j (numbered i blocks) ≡ 0
own-other i j [] h = refl
own-other i j (b ∷ bs) h = no_more (i == j) (own j (numbered i bs)) (differ i j h) (own-other i j bs h)

own-later : (i j : ℕ) (ss : List BoundSession) → j < i → own j (all_steps i ss) ≡ 0
own-later i j [] h = refl
own-later i j (s ∷ ss) h =
    let other : i ≢ j = omega arith in
    omega (arith, own-append j (numbered i s.steps) (all_steps (suc i) ss), own-other i j s.steps other, own-later (suc i) j ss (omega arith))

queue_counts : (i : ℕ) (front : List Step) (ss : List BoundSession) → ((j : ℕ) → i ≤ j → own j front ≡ 0)
    → counts_of (queues_from i (length ss) (front ++ all_steps i ss)) ≡ lens ss
queue_counts i front [] h = refl
queue_counts i front (s ∷ ss) h =
    let steps = front ++ (numbered i s.steps ++ all_steps (suc i) ss) in
    let here : length (steps_of i 0 steps) ≡ length s.steps =
    omega (
      arith,
      length-steps_of i 0 steps,
      own-append i front (numbered i s.steps ++ all_steps (suc i) ss),
      own-append i (numbered i s.steps) (all_steps (suc i) ss),
      h i (omega arith),
      own-same i s.steps,
      own-later (suc i) i ss (omega arith),
    ) in
    let none : (j : ℕ) → suc i ≤ j → own j (front ++ numbered i s.steps) ≡ 0 = λ j lt. let other : i ≢ j = omega arith
    in omega (arith, own-append j front (numbered i s.steps), h j (omega arith), own-other i j s.steps other) in
    λ t. here t ∷ (ap (λ us. counts_of (queues_from (suc i) (length ss) us)) (sym (append_assoc front (numbered i s.steps) (all_steps (suc i) ss)))
    ∙ queue_counts (suc i) (front ++ numbered i s.steps) ss none) t

pub counts-made : (text : List ℕ) (tree : SpecTree) (lines : List (List ℕ)) (setups : List (List Bound)) (ss : List BoundSession) → lens ss
    ≡ counts_in tree.sessions → length ss ≡ length tree.sessions
    → counts_in tree.sessions ≡ counts_of (queues_of (made_file text tree lines setups ss).run)
counts-made text tree lines setups ss e f = sym (ap (λ n. counts_of (queues_from 0 n (all_steps 0 ss))) (sym f) ∙ queue_counts 0 [] ss (λ j h. refl) ∙ e)

-- ---- the orders

then_true : (a b : Bool) → (a && b) ≡ true → (a ≡ true) × (b ≡ true)
then_true true true e = (refl, refl)
then_true true false e = absurd (cc e)
then_true false b e = absurd (cc e)

some_if : {X : Type 0} (b : Bool) (o : Option X) (x : X) → cond b o None ≡ Some x → (b ≡ true) × (o ≡ Some x)
some_if true o x e = (refl, e)
some_if false o x e = absurd (cc e)

then_ok : {X : Type 0} (o : Option X) (r : Option (List X)) (ys : List X) → then_some o r ≡ Some ys → (x : X)
    × ((o ≡ Some x) × ((xs : List X) × ((r ≡ Some xs) × (x ∷ xs ≡ ys))))
then_ok None r ys e = absurd (cc e)
then_ok (Some x) None ys e = absurd (cc e)
then_ok (Some x) (Some xs) ys e = (x, (refl, (xs, (refl, cc))))

some-All : {A X : Type 0} (P : X → Type 0) (f : A → Option X) → ((a : A) (x : X) → f a ≡ Some x → P x) → (as' : List A) (xs : List X) → all_some f as' ≡ Some xs
    → (All P xs) × (length xs ≡ length as')
some-All P f h [] xs e = let nil : [] ≡ xs = cc in (subst (All P) nil (All-nil P), ap length (sym nil))
some-All P f h (a ∷ as') xs e =
    let b = then_ok (f a) (all_some f as') xs e in
    let rest = some-All P f h as' b.1.1.0 b.1.1.1.0 in
    (subst (All P) b.1.1.1.1 (All-cons P b.0 b.1.1.0 (h a b.0 b.1.0) rest.0), ap length (sym b.1.1.1.1) ∙ ap suc rest.1)

line-is : (names : List (List ℕ)) (items : LineTree) (line : List ℕ) → numbered_line names items ≡ Some line → IsLine (length names) line
line-is names items line e =
    let a = some_if (nat_le 1 (length items) && nat_le (length items) MAX_ITEMS) (all_some (step_number names) items) line e in
    let few = then_true (nat_le 1 (length items)) (nat_le (length items) MAX_ITEMS) a.0 in
    let all = some-All (λ k. k < length names) (step_number names)
    (λ i k h. (let below : k < 0 + length names = position-below (λ n. bytes_eq i.name n) 0 names k h in omega arith)) items line a.1 in
    record {
      some = omega (arith, leb-true 1 (length items) few.0, all.1);
      few = omega (arith, leb-true (length items) MAX_ITEMS few.1, all.1);
      known = all.0;
    }

-- what the orders of a file tell
pub record IsOrdered (sessions : List SessionTree) (ls : List (List ℕ)) : Type 0 where
  pub few_steps : total (counts_in sessions) ≤ step_limit ls
  pub few_lines : length ls ≤ MAX_LINES
  pub known : All (IsLine (length (step_names sessions))) ls

shape_if : (a b c d : Bool) (x y z w : ShapeError) (counts : List ℕ)
    → is_ok (cond a (Err x) (cond b (Err y) (cond c (Err z) (cond d (Err w) (Ok counts))))) ≡ true → c ≡ false
shape_if true b c d x y z w counts e = absurd (cc e)
shape_if false true c d x y z w counts e = absurd (cc e)
shape_if false false true d x y z w counts e = absurd (cc e)
shape_if false false false d x y z w counts e = refl

shape-few : (counts : List ℕ) → is_ok (shape_of counts) ≡ true → total counts ≤ MAX_STEPS
shape-few counts e = ltb-false MAX_STEPS (total counts) (shape_if (length counts == 0
    || has_idle counts) (nat_lt MAX_SESSIONS (length counts)) (nat_lt MAX_STEPS (total counts)) (nat_le (2 ^ 63) (length (all_words counts)))
    Empty TooManySessions TooManySteps TooManyRanks counts e)

limit_of : (ls : List (List ℕ)) (n m : ℕ) → length ls ≡ suc n → m ≤ MAX_LINED_STEPS → m ≤ step_limit ls
limit_of [] n m e h = absurd (omega arith)
limit_of (l ∷ ls) n m e h = h

by_lines : (ss : List SessionTree) (ls : List LineTree) (lines : List (List ℕ)) → lines_by ss ls ≡ Some lines → IsOrdered ss lines
by_lines ss [] lines e =
    let a = some_if (is_ok (shape_of (counts_in ss))) (Some []) lines e in
    let none : [] ≡ lines = cc (a.1) in
    subst (IsOrdered ss) none (record { few_steps = shape-few (counts_in ss) a.0; few_lines = omega arith; known = All-nil (IsLine (length (step_names ss))) })
by_lines ss (l ∷ ls) lines e =
    let a = some_if (nat_le (total (counts_in ss)) MAX_LINED_STEPS && nat_le (length (l ∷ ls)) MAX_LINES) (all_some (numbered_line (step_names ss)) (l ∷ ls))
    lines e in
    let few = then_true (nat_le (total (counts_in ss)) MAX_LINED_STEPS) (nat_le (length (l ∷ ls)) MAX_LINES) a.0 in
    let all = some-All (IsLine (length (step_names ss))) (numbered_line (step_names ss)) (λ items line h. line-is (step_names ss) items line h) (l ∷ ls) lines
    a.1 in
    record {
      few_steps = limit_of lines (length ls) (total (counts_in ss)) all.1 (leb-true (total (counts_in ss)) MAX_LINED_STEPS few.0);
      few_lines = omega (arith, leb-true (length (l ∷ ls)) MAX_LINES few.1, all.1);
      known = all.0;
    }

pub ordered : (tree : SpecTree) (lines : List (List ℕ)) → orders_of tree ≡ Some lines → (length tree.sessions ≤ MAX_SESSIONS) × IsOrdered tree.sessions lines
ordered tree lines e =
    let a = some_if (nat_le (length tree.sessions) MAX_SESSIONS) (lines_by tree.sessions tree.lines) lines e in
    (leb-true (length tree.sessions) MAX_SESSIONS a.0, by_lines tree.sessions tree.lines lines a.1)

pub some-length : {A X : Type 0} (f : A → Option X) (as' : List A) (xs : List X) → all_some f as' ≡ Some xs → length xs ≡ length as'
some-length f as' xs e = (some-All (λ x. Unit {0}) f (λ a x h. tt) as' xs e).1

pub lines-some : {X : Type 0} (items : X → List ℕ) (lines : List X) (names : List (List ℕ)) (texts : List LineTree) → Some (map items lines)
    ≡ all_some (numbered_line names) texts → 0 < length texts → lines ≡ [] → ⊥
lines-some items lines names texts e h none =
    let many : length lines ≡ length texts = sym (length-map lines items) ∙ some-length (numbered_line names) texts (map items lines) (sym e) in
    let zero : length lines ≡ 0 = ap length none in
    omega (arith, many, zero)

pub all_steps-push : (i : ℕ) (ss : List BoundSession) (s : BoundSession) → all_steps i (ss ++ s ∷ []) ≡ all_steps i ss ++ numbered (i + length ss) s.steps
all_steps-push i [] s = let here : i ≡ i + 0 = omega arith in append-nil (numbered i s.steps) ∙ ap (λ k. numbered k s.steps) here
all_steps-push i (r ∷ ss) s =
    let next : suc i + length ss ≡ i + suc (length ss) = omega arith in
    ap (λ us. numbered i r.steps ++ us) (all_steps-push (suc i) ss s ∙ ap (λ k. all_steps (suc i) ss ++ numbered k s.steps) next)
    ∙ sym (append_assoc (numbered i r.steps) (all_steps (suc i) ss) (numbered (i + suc (length ss)) s.steps))

pub names-next : (names : List (List ℕ)) (ss : List Session) (k : ℕ) (d : Session) → k < length ss
    → names ++ step_names (map session_tree (drop k ss)) ≡ (names ++ map (λ (t : StepTree). t.name) (map step_tree (get_or ss k d).steps.items))
    ++ step_names (map session_tree (drop (k + 1) ss))
names-next names ss k d h =
    ap (λ us. names ++ step_names (map session_tree us)) (drop-cons ss k d h)
    ∙ sym (append_assoc names (map (λ (t : StepTree). t.name) (map step_tree (get_or ss k d).steps.items)) (step_names (map session_tree (drop (suc k) ss))))
    ∙ ap (λ n. (names ++ map (λ (t : StepTree). t.name) (map step_tree (get_or ss k d).steps.items))
    ++ step_names (map session_tree (drop n ss))) (sym (add-one k))

-- ---- the whole file

pub sessions-told : (tables : List Table) (texts : List SessionTree) (ss : List BoundSession) → each (session tables) texts ≡ Ok ss → lens ss ≡ counts_in texts
sessions-told tables texts ss e = each-told (λ (s : BoundSession). length s.steps) (λ (t : SessionTree). length t.steps) (session tables)
    (λ t s h. (session-sent tables t s h).count) texts ss e

pub file-ready : (text : List ℕ) (tree : SpecTree) (lines : List (List ℕ)) (main : List Table × List (List Bound)) (ss : List BoundSession) → orders_of tree
    ≡ Some lines → declared main_setup [] tree.front.setups ≡ Ok main
    → each (session main.0) tree.sessions ≡ Ok ss → IsReady (made_file text tree lines main.1 ss)
file-ready text tree lines main ss o m e =
    let order = ordered tree lines o in
    let count = sessions-told main.0 tree.sessions ss e in
    let many = each-length (session main.0) tree.sessions ss e in
    let steps : length (all_steps 0 ss) ≡ total (counts_in tree.sessions) = length-all_steps 0 ss ∙ ap total count in
    let named : length (step_names tree.sessions) ≡ length (all_steps 0 ss) = length-step_names tree.sessions ∙ sym steps in
    let setup_sent : All (λ (s : BoundSession). All IsSent s.setup) ss =
    each-All (λ (s : BoundSession). All IsSent s.setup) (session main.0) (λ t s h. (session-sent main.0 t s h).setup) tree.sessions ss e in
    let steps_sent : All (λ (s : BoundSession). AllSent s.steps) ss =
    each-All (λ (s : BoundSession). AllSent s.steps) (session main.0) (λ t s h. (session-sent main.0 t s h).steps) tree.sessions ss e in
    record {
      few_sessions = order.0;
      few_steps = omega (arith, steps, order.1.few_steps);
      few_lines = order.1.few_lines;
      session_names = length-map tree.sessions _;
      step_names = named;
      session_setups = length-map ss _ ∙ many;
      steps = steps-all (length tree.sessions) 0 ss (omega (arith, many)) steps_sent;
      setups_keys = each-keys main.1 (setups-sent [] tree.front.setups main m);
      setups_short = each-short main.1 (setups-sent [] tree.front.setups main m);
      session_setups_keys = each-keys (map (λ (s : BoundSession). s.setup) ss) (All-map (All IsSent) (λ (s : BoundSession). s.setup) ss setup_sent);
      session_setups_short = each-short (map (λ (s : BoundSession). s.setup) ss) (All-map (All IsSent) (λ (s : BoundSession). s.setup) ss setup_sent);
      lines = subst (λ n. All (IsLine n) lines) named order.1.known;
    }

-- ---- what the code makes is kept

some_of : (o : Option (List (List ℕ))) (lines : List (List ℕ)) → shaped o ≡ Ok lines → o ≡ Some lines
some_of None lines e = absurd (cc e)
some_of (Some ls) lines e = let same_lines : ls ≡ lines = cc in ap Some same_lines

order_of : (o : Orders) (run : Spec) (counts : List ℕ) → FitsCounts counts o → counts ≡ counts_of (queues_of run) → IsOrderOf o run
order_of (Words shape) run counts h e = h ∙ e
order_of (Lines lines) run counts h e = h

pub few-sessions : (tree : SpecTree) (lines : List (List ℕ)) (tables : List Table) (ss : List BoundSession) → shaped (orders_of tree) ≡ Ok lines
    → each (session tables) tree.sessions ≡ Ok ss → length ss ≤ MAX_SESSIONS
few-sessions tree lines tables ss o e = omega (
  arith,
  (ordered tree lines (some_of (orders_of tree) lines o)).0,
  each-length (session tables) tree.sessions ss e,
)

-- a file is bound where its orders, its main setups and its sessions are
bound-made : (text : List ℕ) (tree : SpecTree) (lines : List (List ℕ)) (main : List Table × List (List Bound)) (ss : List BoundSession)
    → shaped (orders_of tree) ≡ Ok lines → declared main_setup [] tree.front.setups ≡ Ok main → each (session main.0) tree.sessions ≡ Ok ss
    → written_file text tree ≡ Ok (made_file text tree lines main.1 ss)
bound-made text tree lines main ss o m e =
    ap (λ (r : Bind (List (List ℕ))). r >>= λ ls. (declared main_setup [] tree.front.setups >>= λ x. (each (session x.0) tree.sessions >>= λ us.
    Ok (made_file text tree ls x.1 us)))) o
    ∙ ap (λ (r : Bind (List Table × List (List Bound))). r >>= λ x. (each (session x.0) tree.sessions >>= λ us. Ok (made_file text tree lines x.1 us))) m
    ∙ ap (λ (r : Bind (List BoundSession)). r >>= λ us. Ok (made_file text tree lines main.1 us)) e

pub kept : (parts : Parts) (text : List ℕ) (tree : SpecTree) → IsSpec text tree
    → (lines : List (List ℕ)) (main : List Table × List (List Bound)) (ss : List BoundSession)
    → file_of parts ≡ levelled_file parts.levels (made_file text tree lines main.1 ss)
    → shaped (orders_of tree) ≡ Ok lines → declared main_setup [] tree.front.setups ≡ Ok main → each (session main.0) tree.sessions ≡ Ok ss
    → FitsCounts (counts_in tree.sessions) parts.orders → IsKept parts
kept parts text tree is_spec lines main ss made o m e fits =
    let counts = counts-made text tree lines main.1 ss (sessions-told main.0 tree.sessions ss e) (each-length (session main.0) tree.sessions ss e) in
    let file = file_of parts in
    let written = made_file text tree lines main.1 ss in
    let bound : IsFileAt text (levelled_file parts.levels written) = record {
      tree = tree;
      is_spec = is_spec;
      is_bound = ap (λ (r : Bind SpecFile). r >>= λ f. Ok (levelled_file parts.levels f)) (bound-made text tree lines main ss o m e);
    } in
    let queues : queues_of file.run ≡ queues_of written.run = ap (λ (f : SpecFile). queues_of f.run) made ∙ run-queues parts.levels written.run in
    record {
      is_file = subst (λ (f : SpecFile). IsFileAt f.text f) (sym made) bound;
      ready = subst IsReady (sym made) (ready-levelled parts.levels written (file-ready text tree lines main ss (some_of (orders_of tree) lines o) m e));
      orders = order_of parts.orders file.run (counts_in tree.sessions) fits (counts ∙ ap counts_of (sym queues));
    }

-- the file of a text is ready to be run
written-is-ready : (text : List ℕ) (tree : SpecTree) (file : SpecFile) → written_file text tree ≡ Ok file → IsReady file
written-is-ready text tree file is_bound =
    let a = bind (shaped (orders_of tree)) _ file is_bound in
    let b = bind (declared main_setup [] tree.front.setups) _ file a.1.1 in
    let main = b.0 in
    let c = bind (each (session main.0) tree.sessions) _ file b.1.1 in
    let same : made_file text tree a.0 main.1 c.0 ≡ file = cc (c.1.1) in
    subst IsReady same (file-ready text tree a.0 main c.0 (some_of (orders_of tree) a.0 a.1.0) b.1.0 c.1.0)

pub file-is-ready : (text : List ℕ) (file : SpecFile) → IsFileOf text file → IsReady file
file-is-ready text file is =
    let a = bind (written_file text is.tree) _ file is.is_bound in
    let same : levelled_file None a.0 ≡ file = cc (a.1.1) in
    subst IsReady same (ready-levelled None a.0 (written-is-ready text is.tree a.0 a.1.0))
