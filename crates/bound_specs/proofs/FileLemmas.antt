-- What every file has that a text binds to.
use Rattle.std.proofs.Common.{◌≡◌, refl, sym, ap, subst, ◌∙◌, ℕ, suc, ◌+◌, ◌<◌, List, [], ◌∷◌, ◌++◌, length, map, All, Option, None, Ok, Err, arith}
use Rattle.std.proofs.lemmas.List.{length-map}
use Rattle.std.proofs.lemmas.List.Elements.{All-nil, All-cons}
use Rattle.spec_reader.specs.Tree.{SpecTree}
use Rattle.spec_reader.proofs.Verdict.{one_tree}
use Rattle.bound_statements.specs.declared.statement.Bound.{Bound}
use Rattle.binding_model.specs.Refusals.{Bind, ◌>>=◌, with_front, each}
use Rattle.bound_statements.specs.declared.statement.Level.{Level}
use Rattle.bound_statements.specs.Levels.{levelled, AsksAlways}
use Rattle.bound_statements.proofs.LevelLemmas.{levelled-always}
use Rattle.bound_specs.specs.Levels.{levelled_block, levelled_step, levelled_run, levelled_file, AskAlways}
use Rattle.bound_specs.specs.Spec.{Step, Spec, SpecFile, EachStep, IsBound}
use Rattle.bound_specs.specs.Lines.{orders_of}
use Rattle.bound_specs.specs.Binding.{BoundSession, session, declared, main_setup, numbered, all_steps, made_file, shaped, written_file, bound_at, bound_file, IsFileAt, IsFileOf}

-- ---- what is bound one after another

pub bind : {A B : Type 0} (r : Bind A) (f : A → Bind B) (y : B) → (r >>= f) ≡ Ok y → (x : A) × ((r ≡ Ok x) × (f x ≡ Ok y))
bind (Ok x) f y e = (x, (refl, e))
bind (Err e') f y e = absurd (cc e)

-- ---- how many are bound

pub front_ok : {X : Type 0} (xs : List X) (r : Bind (List X)) (ys : List X) → with_front xs r ≡ Ok ys → (zs : List X) × ((r ≡ Ok zs) × (xs ++ zs ≡ ys))
front_ok xs (Ok zs) ys e = (zs, (refl, cc))
front_ok xs (Err e') ys e = absurd (cc e)

pub each-length : {A X : Type 0} (f : A → Bind X) (as' : List A) (xs : List X) → each f as' ≡ Ok xs → length xs ≡ length as'
each-length f [] xs e = let same : [] ≡ xs = cc in ap length (sym same)
each-length f (a ∷ as') xs e =
    let b = bind (f a) (λ x. with_front (x ∷ []) (each f as')) xs e in
    let c = front_ok (b.0 ∷ []) (each f as') xs b.1.1 in
    ap length (sym c.1.1) ∙ ap suc (each-length f as' c.0 c.1.0)

-- ---- the steps are of the sessions

each-append : (P : Step → Type 0) (ss ts : List Step) → EachStep P ss → EachStep P ts → EachStep P (ss ++ ts)
each-append P [] ts h g = g
each-append P (s ∷ ss) ts h g = (h.0, each-append P ss ts h.1 g)

steps-within : (n i : ℕ) (blocks : List (List Bound)) → i < n → EachStep (λ s. s.session < n) (numbered i blocks)
steps-within n i [] h = tt
steps-within n i (b ∷ bs) h = (h, steps-within n i bs h)

all-within : (n i : ℕ) (ss : List BoundSession) → i + length ss ≡ n → EachStep (λ s. s.session < n) (all_steps i ss)
all-within n i [] e = tt
all-within n i (s ∷ ss) e =
    each-append (λ t. t.session < n) (numbered i s.steps) (all_steps (suc i) ss)
    (steps-within n i s.steps (omega (arith, e))) (all-within n (suc i) ss (omega (arith, e)))

written-is-bound : (text : List ℕ) (tree : SpecTree) (file : SpecFile) → written_file text tree ≡ Ok file → IsBound file.run
written-is-bound text tree file is_bound =
    let a = bind (shaped (orders_of tree)) _ file is_bound in
    let b = bind (declared main_setup [] tree.front.setups) _ file a.1.1 in
    let main = b.0 in
    let c = bind (each (session main.0) tree.sessions) _ file b.1.1 in
    let same : made_file text tree a.0 main.1 c.0 ≡ file = cc (c.1.1) in
    let many = each-length (session main.0) tree.sessions c.0 c.1.0 in
    let setups = length-map c.0 (λ (s : BoundSession). s.setup) in
    subst (λ (f : SpecFile). IsBound f.run) same (record {
      session_setups = omega (arith, many, setups);
      steps = all-within (length tree.sessions) 0 c.0 (omega (arith, many));
    })

each-levelled : (n : ℕ) (asked : Option Level) (ss : List Step) → EachStep (λ s. s.session < n) ss → EachStep (λ s. s.session < n) (map (levelled_step asked) ss)
each-levelled n asked [] h = tt
each-levelled n asked (s ∷ ss) h = (h.0, each-levelled n asked ss h.1)

levelled-is-bound : (asked : Option Level) (run : Spec) → IsBound run → IsBound (levelled_run asked run)
levelled-is-bound asked run is = record {
  session_setups = let e = length-map run.session_setups (levelled_block asked) in let b = is.session_setups in omega (arith, e, b);
  steps = each-levelled run.sessions asked run.steps is.steps;
}

at-is-bound : (text : List ℕ) (tree : SpecTree) (asked : Option Level) (file : SpecFile) → bound_at asked text tree ≡ Ok file → IsBound file.run
at-is-bound text tree asked file is_bound =
    let a = bind (written_file text tree) _ file is_bound in
    let same : levelled_file asked a.0 ≡ file = cc (a.1.1) in
    subst (λ (f : SpecFile). IsBound f.run) same (levelled-is-bound asked a.0.run (written-is-bound text tree a.0 a.1.0))

pub file-is-bound : (text : List ℕ) (file : SpecFile) → IsFileOf text file → IsBound file.run
file-is-bound text file is = at-is-bound text is.tree None file is.is_bound

pub file-at-is-bound : (text : List ℕ) (file : SpecFile) → IsFileAt text file → IsBound file.run
file-at-is-bound text file is = at-is-bound text is.tree file.asked file is.is_bound

-- a text has one file at most at a level, since it has one tree
pub one-file-at : (text : List ℕ) (f g : SpecFile) → f.asked ≡ g.asked → IsFileAt text f → IsFileAt text g → f ≡ g
one-file-at text f g asked hf hg =
    let same : hf.tree ≡ hg.tree = one_tree text hf.tree hg.tree hf.is_spec hg.is_spec in
    let bound : bound_at g.asked text hg.tree ≡ Ok f = subst (λ t. bound_at g.asked text t ≡ Ok f) same (subst (λ o. bound_at o text hf.tree ≡ Ok f) asked hf.is_bound) in
    let told = hg.is_bound in
    cc

pub one-file : (text : List ℕ) (f g : SpecFile) → IsFileOf text f → IsFileOf text g → f ≡ g
one-file text f g hf hg =
    let same : hf.tree ≡ hg.tree = one_tree text hf.tree hg.tree hf.is_spec hg.is_spec in
    let bound : bound_file text hg.tree ≡ Ok f = subst (λ t. bound_file text t ≡ Ok f) same hf.is_bound in
    let told = hg.is_bound in
    cc

-- ---- where levels are not asked for

-- what is asked for is what the file says
pub file-asked : (text : List ℕ) (tree : SpecTree) (asked : Option Level) (file : SpecFile) → bound_at asked text tree ≡ Ok file → file.asked ≡ asked
file-asked text tree asked file is_bound =
    let a = bind (written_file text tree) _ file is_bound in
    let same : levelled_file asked a.0 ≡ file = cc (a.1.1) in
    sym (ap (λ (f : SpecFile). f.asked) same)

-- and none is asked for in the file of a text where levels are not
pub file-none : (text : List ℕ) (file : SpecFile) → IsFileOf text file → file.asked ≡ None
file-none text file is = file-asked text is.tree None file is.is_bound

pub file-of-at : (text : List ℕ) (file : SpecFile) → IsFileAt text file → file.asked ≡ None → IsFileOf text file
file-of-at text file is none = record {
  tree = is.tree;
  is_spec = is.is_spec;
  is_bound = subst (λ o. bound_at o text is.tree ≡ Ok file) none is.is_bound;
}

pub file-at-of : (text : List ℕ) (file : SpecFile) → IsFileOf text file → IsFileAt text file
file-at-of text file is = record {
  tree = is.tree;
  is_spec = is.is_spec;
  is_bound = subst (λ o. bound_at o text is.tree ≡ Ok file) (sym (file-none text file is)) is.is_bound;
}

block-always : (ss : List Bound) → All AsksAlways (levelled_block None ss)
block-always [] = All-nil AsksAlways
block-always (s ∷ ss) = All-cons AsksAlways (levelled None s) (levelled_block None ss) (levelled-always s) (block-always ss)

blocks-always : (bs : List (List Bound)) → All (All AsksAlways) (map (levelled_block None) bs)
blocks-always [] = All-nil (All AsksAlways)
blocks-always (b ∷ bs) = All-cons (All AsksAlways) (levelled_block None b) (map (levelled_block None) bs) (block-always b) (blocks-always bs)

steps-always : (ss : List Step) → All (λ (s : Step). All AsksAlways s.statements) (map (levelled_step None) ss)
steps-always [] = All-nil (λ (s : Step). All AsksAlways s.statements)
steps-always (s ∷ ss) = All-cons (λ (s : Step). All AsksAlways s.statements) (levelled_step None s) (map (levelled_step None) ss) (block-always s.statements) (steps-always ss)

-- each statement asks for its whole plan
pub file-always : (text : List ℕ) (file : SpecFile) → IsFileOf text file → AskAlways file.run
file-always text file is =
    let a = bind (written_file text is.tree) _ file is.is_bound in
    let same : levelled_file None a.0 ≡ file = cc (a.1.1) in
    subst (λ (f : SpecFile). AskAlways f.run) same (record {
      setups = blocks-always a.0.run.setups;
      session_setups = blocks-always a.0.run.session_setups;
      steps = steps-always a.0.run.steps;
    })
