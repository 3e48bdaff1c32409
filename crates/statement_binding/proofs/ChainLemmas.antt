-- Lists of one or more, as the reader gives them and as the grammar has them.
use Rattle.std.proofs.Common.{◌≡◌, refl, ap, ◌∙◌, ℕ, List, [], ◌∷◌, map, Ok}
use Rattle.sql_grammar.specs.declared.expression.Chain.{Chain as Written}
use Rattle.sql_grammar.specs.declared.expression.Factor.{Factor}
use Rattle.sql_grammar.specs.declared.expression.SignedTerm.{SignedTerm}
use Rattle.sql_grammar.specs.declared.statement.Assignment.{Assignment as AssignmentText}
use Rattle.sql_grammar.specs.Tree.{Chain, Last, More, Sum, Only, Then}
use Rattle.sql_grammar.specs.Views.{joined, chain_by, chain_of, view_assignment}
use Rattle.binding_model.specs.Names.{list_of, head, tail}
use Rattle.binding_model.specs.Refusals.{Bind, ◌>>=◌, each}
use Rattle.binding_model.specs.Statements.{assignment}
use Rattle.binding_model.specs.declared.tables.Table.{Table}
use Rattle.binding_model.specs.Translation.{sum_head, sum_tail}
use Rattle.statement_binding.proofs.EachLemmas.{each-map}

abbrev chained : {A B : Type 0} → (A → B) → B → List A → Chain B
chained f b as' = joined Last (λ a u l. More a l) (λ x. tt {0}) f b as'

list_of-chained : {A B : Type 0} (f : A → B) (b : B) (as' : List A) → list_of (chained f b as') ≡ b ∷ map f as'
list_of-chained f b [] = refl
list_of-chained f b (a ∷ as') = ap (λ bs. b ∷ bs) (list_of-chained f (f a) as')

pub list_of-chain : {A B : Type 0} (f : A → B) (c : Written A) → list_of (chain_by f c) ≡ f c.first ∷ map f c.more
list_of-chain f c = list_of-chained f (f c.first) c.more

pub map-same : {A : Type 0} (as' : List A) → map (λ a. a) as' ≡ as'
map-same [] = refl
map-same (a ∷ as') = ap (λ bs. a ∷ bs) (map-same as')

head-chained : {A B : Type 0} (f : A → B) (b : B) (as' : List A) → head (chained f b as') ≡ b
head-chained f b [] = refl
head-chained f b (a ∷ as') = refl

tail-chained : {A B : Type 0} (f : A → B) (b : B) (as' : List A) → tail (chained f b as') ≡ map f as'
tail-chained f b [] = refl
tail-chained f b (a ∷ as') = list_of-chained f (f a) as'

pub head-chain : {A : Type 0} (c : Written A) → head (chain_of c) ≡ c.first
head-chain c = head-chained (λ x. x) c.first c.more

pub tail-chain : {A : Type 0} (c : Written A) → tail (chain_of c) ≡ c.more
tail-chain c = tail-chained (λ x. x) c.first c.more ∙ map-same c.more

abbrev summed : Chain Factor → List SignedTerm → Sum
summed t ss = joined Only Then (λ s. s.sign) (λ s. chain_of s.term) t ss

pub sum_head-summed : (t : Chain Factor) (ss : List SignedTerm) → sum_head (summed t ss) ≡ t
sum_head-summed t [] = refl
sum_head-summed t (s ∷ ss) = refl

pub sum_tail-summed : (t : Chain Factor) (ss : List SignedTerm) → sum_tail (summed t ss) ≡ map (λ s. (s.sign, chain_of s.term)) ss
sum_tail-summed t [] = refl
sum_tail-summed t (s ∷ ss) = λ i. (s.sign, sum_head-summed (chain_of s.term) ss i) ∷ sum_tail-summed (chain_of s.term) ss i

pub list_of-chain_of : {A : Type 0} (c : Written A) → list_of (chain_of c) ≡ c.first ∷ c.more
list_of-chain_of c = list_of-chain (λ x. x) c ∙ ap (λ as'. c.first ∷ as') (map-same c.more)

-- what is bound of each item behind the first
pub each-listed : {A B X : Type 0} (f : A → B) (g : B → Bind X) (c : Written A) → each g (list_of (chain_by f c)) ≡ each (λ a. g (f a)) (c.first ∷ c.more)
each-listed f g c = ap (each g) (list_of-chain f c) ∙ each-map f g (c.first ∷ c.more)

-- what is bound of each assignment of an UPDATE
pub assignments-listed : (table : Table) (at : ℕ) (texts : Written AssignmentText)
    → each (assignment table at) (list_of (chain_by view_assignment texts)) ≡ each (λ a. assignment table at (view_assignment a)) (texts.first ∷ texts.more)
assignments-listed table at texts = each-listed view_assignment (assignment table at) texts

pub each-summed : {X : Type 0} (g : _ → Bind X) (t : Chain Factor) (ss : List SignedTerm) → each g (sum_tail (summed t ss))
    ≡ each (λ s. g (s.sign, chain_of s.term)) ss
each-summed g t ss = ap (each g) (sum_tail-summed t ss) ∙ each-map (λ s. (s.sign, chain_of s.term)) g ss

pub bound-both : {A B X : Type 0} (r : Bind A) (s : Bind B) (f : A → B → X) (a : A) (b : B) → r ≡ Ok a → s ≡ Ok b → (r >>= λ p. (s >>= λ q. Ok (f p q)))
    ≡ Ok (f a b)
bound-both r s f a b e g = (λ i. e i >>= λ p. (g i >>= λ q. Ok (f p q)))

pub then-both : {A B X : Type 0} (r : Bind A) (s : Bind B) (f : A → B → Bind X) (a : A) (b : B) → r ≡ Ok a → s ≡ Ok b → (r >>= λ p. (s >>= λ q. f p q)) ≡ f a b
then-both r s f a b e g = (λ i. e i >>= λ p. (g i >>= λ q. f p q))

pub ruleset chains = (head-chain, tail-chain, list_of-chain_of, each-listed, assignments-listed, sum_head-summed, each-summed)
