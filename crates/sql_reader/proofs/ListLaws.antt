-- Optional parts, lists with commas, and parts that begin with a word or a name.
use Rattle.std.proofs.Common.{◌≡◌, ℕ, zero, suc, ◌+◌, ◌<◌, Bool, true, false, List, [], ◌∷◌, ◌++◌, length, Option, Some, None, Ok, refl, ap, subst, ◌∙◌}
use Rattle.std.proofs.Common.{inl, inr, ◌⊎◌, arith, cond}
use Rattle.std.specs.Prelude.{codes, ◌||◌, is_some, not}
use Rattle.std.specs.List.{AllByRecursion}
use Rattle.std.proofs.lemmas.List.{length-append}
use Rattle.sql_grammar.specs.Tokens.{Token, Word, Sign, End, Placed, is, is_last}
use Rattle.sql_grammar.specs.Tree.{Name, Chain, Last, More}
use Rattle.sql_grammar.specs.Grammar.{Marked, mark, plain, good}
use Rattle.sql_grammar.specs.Grammar as grammar
use Rattle.sql_grammar.specs.Reading.{Read, ◌>>=◌, first, rest, taken, the, skip, which, name, with_commas, many, inside}
use Rattle.sql_reader.proofs.Laws.{Stops, HasEnd, Agrees, Takes, Heads, closed, stops_closed, stops_weaker, then, mapped, choice, both, also, nothing}
use Rattle.sql_reader.proofs.Laws.{weaken, in_chain, or-false, heads-append}
use Rattle.sql_reader.proofs.TokenLaws.{skips, names, one_of, the-back, the-none, is_same}

-- ---- a word or a sign first

pub past : {I T : Type 0} (w : Token) → the w w ≡ Some tt → is_last w ≡ false
    → (tree : I → T) (sp : I → List Marked) (on : Token → Bool) (ts : List Placed) (k : Unit {0} × List Placed → Read T) → I → HasEnd ts
    → ((x : Unit {0} × List Placed) → HasEnd x.1 → Agrees tree sp on x.1 (k x)) → Agrees tree (λ i. plain w ∷ sp i) on ts (skip w ts >>= k)
past {I} w again within tree sp on ts k some ends law =
    also (λ (p : Unit {0} × I). tree p.1) (λ p. plain w ∷ sp p.1) tree (λ i. plain w ∷ sp i) on ts _ (λ p. p.1) (λ i. (tt, i)) (λ p. (
      refl,
      refl,
    )) (λ i. (refl, refl))
    (then (λ u i. tree i) (λ u. plain w ∷ []) sp closed on ts (skip w ts) k some (λ j more stop. stops_closed on (sp j) more stop)
    (skips w again within closed ts ends) (λ x h. law x h.ended))

-- a name first
pub past_name : {J T : Type 0} (tree : Name → J → T) (sp : J → List Marked) (on : Token → Bool) (ts : List Placed) (k : Name × List Placed → Read T) → J
    → HasEnd ts
    → ((x : Name × List Placed) → HasEnd x.1 → Agrees (tree x.0) sp on x.1 (k x))
    → Agrees {I = Name × J} (λ p. tree p.0 p.1) (λ p. plain (Word p.0) ∷ sp p.1) on ts (name ts >>= k)
past_name tree sp on ts k some ends law =
    then tree (λ n. plain (Word n) ∷ []) sp closed on ts (name ts) k some (λ j more stop. stops_closed on (sp j) more stop) (names closed ts ends)
    (λ x h. law x h.ended)

-- a word or a sign last
pub at_last : {T : Type 0} (w : Token) → the w w ≡ Some tt → is_last w ≡ false → (t : T) (on : Token → Bool) (ts : List Placed) → HasEnd ts
    → Agrees {I = Unit {0}} (λ u. t) (λ u. plain w ∷ []) on ts (skip w ts >>= λ x. Ok (t, x.1))
at_last w again within t on ts ends = mapped (λ u. t) (λ u. u) (λ u. plain w ∷ []) on ts _ (skips w again within on ts ends)

-- ---- what may be missing

abbrev of_option : {A : Type 0} → Option A → A ⊎ Unit {0}
of_option None = inr tt
of_option (Some x) = inl x

abbrev to_option : {A : Type 0} → A ⊎ Unit {0} → Option A
to_option = both (λ x. Some x) (λ u. None)

option_to : {A : Type 0} (sp : A → List Marked) (i : A ⊎ Unit {0}) → (to_option i ≡ to_option i) × (grammar.optional sp (to_option i) ≡ both sp (λ u. []) i)
option_to sp (inl x) = (refl, refl)
option_to sp (inr u) = (refl, refl)

option_back : {A : Type 0} (sp : A → List Marked) (o : Option A) → (to_option (of_option o) ≡ o) × (both sp (λ u. []) (of_option o) ≡ grammar.optional sp o)
option_back sp None = (refl, refl)
option_back sp (Some x) = (refl, refl)

other_begins : (test on : Token → Bool) → ((t : Token) → on t ≡ false → test t ≡ false) → (more : List Marked) → Stops on more → Heads test false more
other_begins test on f [] h = absurd h
other_begins test on f (m ∷ ms) h = f m.token h

pub maybe : {A : Type 0} (test : Token → Bool) (r : Read A) (sp : A → List Marked) (onA on : Token → Bool) (ts : List Placed)
    → ((a : A) → Heads test true (sp a)) → ((t : Token) → on t ≡ false → test t ≡ false) → ((more : List Marked) → Stops on more → Stops onA more)
    → HasEnd ts → (test (first ts).token ≡ true → Agrees {I = A} (λ a. a) sp onA ts r)
    → Agrees {I = Option A} (λ o. o) (grammar.optional sp) on ts (cond (test (first ts).token) (r >>= λ x. Ok (Some x.0, x.1)) (Ok (None, ts)))
maybe {A} test r sp onA on ts heads stops weaker ends law =
    also to_option (both sp (λ u. [])) (λ o. o) (grammar.optional sp) on ts _ to_option of_option (option_to sp) (option_back sp)
    (choice (λ x. Some x) (λ u. None) sp (λ (u : Unit {0}). []) on test ts _ _ (λ a more stop. heads-append test true (sp a) more (heads a))
    (λ u more stop. other_begins test on stops more stop)
    (λ e. mapped (λ x. Some x) (λ a. a) sp on ts _ (weaken (λ a. a) sp on onA ts r weaker (law e)))
    (λ e. nothing None on ts ends))

-- one of several words, or nothing
pub maybe_one_of : {A : Type 0} (token_of : A → Token) (table : List (Token × A)) (some : A)
    → AllByRecursion (λ (e : Token × A). e.0 ≡ token_of e.1) table → ((x : A) → which table (token_of x) ≡ Some x) → ((x : A) → is_last (token_of x) ≡ false)
    → (on : Token → Bool) → ((t : Token) → on t ≡ false → which table t ≡ None) → (ts : List Placed) → HasEnd ts
    → Agrees {I = Option A} (λ o. o) (grammar.optional (λ x. plain (token_of x) ∷ [])) on ts (elim (which table (first ts).token) [
      | None ↦ Ok (
        None,
        ts,
      )
      | Some x ↦ Ok (Some x, rest ts)
    ])
maybe_one_of {A} token_of table some ok again within on stops ts ends =
    subst (Agrees {I = Option A} (λ o. o) (grammar.optional (λ x. plain (token_of x) ∷ [])) on ts) (by_cases (which table (first ts).token))
    (maybe (λ t. is_some (which table t)) (taken (which table (first ts).token) ts) (λ x. plain (token_of x) ∷ []) closed on ts
    (λ a. ap is_some (again a)) (λ t e. ap is_some (stops t e)) (λ more stop. stops_closed on [] more stop) ends
    (λ e. one_of token_of table some ok again within closed ts ends))
  where
    by_cases : (o : Option A) → cond (is_some o) (◌>>=◌ {B = Option A × List Placed} (taken o ts) (λ x. Ok (Some x.0, x.1))) (Ok (None, ts))
        ≡ elim o [ None ↦ Ok (None, ts) | Some x ↦ Ok (Some x, rest ts) ]
    by_cases None = refl
    by_cases (Some x) = refl

-- ---- lists with commas

pub chain_cases : {A : Type 0} (l : Chain A) → ((a : A) × (s : Unit {0}) × (l' : Chain A) × (l ≡ More a l')) ⊎ ((a : A) × (l ≡ Last a))
chain_cases (Last a) = inr (a, refl)
chain_cases (More a l) = inl (a, tt, l, refl)

abbrev pub or_comma : (Token → Bool) → Token → Bool
or_comma on t = is (Sign (codes ",")) t || on t

module _ {A : Type 0} (sp : ℕ → A → List Marked) (spL : ℕ → Chain A → List Marked) (onA : Token → Bool) (item : ℕ → List Placed → Read A) (some : A)
    (of_last : (k : ℕ) (a : A) → spL k (Last a) ≡ sp k a) (of_more : (k : ℕ) (a : A) (l : Chain A) → spL k (More a l) ≡ sp k a
    ++ (plain (Sign (codes ",")) ∷ spL (suc k) l))
    (not_empty : (k : ℕ) (a : A) → Heads (λ t. true) true (sp k a)) (ends_item : onA (Sign (codes ",")) ≡ false)
    (law : (k : ℕ) (ts : List Placed) → HasEnd ts → Agrees {I = A} (λ a. a) (sp k) onA ts (item k ts)) where
  pub numbered : (ts : List Placed) → HasEnd ts → Agrees {I = Chain A} (λ l. l) (spL 0) (or_comma onA) ts (with_commas item ts)
  numbered ts ends = in_chain Last (λ a u l. More a l) (the (Sign (codes ","))) (λ u. Sign (codes ",")) sp spL onA (or_comma onA)
      (record {
        cases = chain_cases;
        of_last = of_last;
        of_more = λ k a s l. of_more k a l;
        back = the-back (Sign (codes ","));
        forth = λ s. refl;
        inside = λ s. refl;
        not_empty = λ k a e. subst (Heads (λ t. true) true) e (not_empty k a);
        ends_item = λ s. ends_item;
        weaker = λ t e. (or-false (is (Sign (codes ",")) t) (onA t) e).1;
        no_sep = λ t e. the-none (Sign (codes ",")) t (or-false (is (Sign (codes ",")) t) (onA t) e).0;
      }) item some tt law (suc (length ts)) 0 ts ends (omega arith)

pub commas : {A : Type 0} (sp : A → List Marked) (onA : Token → Bool) (item : List Placed → Read A) (some : A) → ((a : A) → Heads (λ t. true) true (sp a))
    → onA (Sign (codes ",")) ≡ false
    → ((ts : List Placed) → HasEnd ts → Agrees {I = A} (λ a. a) sp onA ts (item ts)) → (ts : List Placed) → HasEnd ts
    → Agrees {I = Chain A} (λ l. l) (grammar.chain sp) (or_comma onA) ts (with_commas (λ k. item) ts)
commas sp onA item some not_empty ends_item law ts ends =
    numbered (λ k. sp) (λ k. grammar.chain sp) onA (λ k. item) some (λ k a. refl) (λ k a l. refl) (λ k a. not_empty a) ends_item (λ k us e. law us e) ts ends

-- ---- items while a test holds

abbrev of_list : {A : Type 0} → List A → (A × List A) ⊎ Unit {0}
of_list [] = inr tt
of_list (x ∷ xs) = inl (x, xs)

abbrev to_list : {A : Type 0} → (A × List A) ⊎ Unit {0} → List A
to_list = both (λ p. p.0 ∷ p.1) (λ u. [])

module _ {A : Type 0} (goes : Token → Bool) (sp : A → List Marked) (on : Token → Bool) (item : List Placed → Read A)
    (heads : (a : A) → Heads goes true (sp a)) (stops : (t : Token) → on t ≡ false → goes t ≡ false)
    (law : (ts : List Placed) → HasEnd ts → Agrees {I = A} (λ a. a) sp closed ts (item ts)) where
  abbrev sp_list : (A × List A) ⊎ Unit {0} → List Marked
  sp_list = both (λ p. sp p.0 ++ grammar.each sp p.1) (λ u. [])

  list_to : (i : (A × List A) ⊎ Unit {0}) → (to_list i ≡ to_list i) × (grammar.each sp (to_list i) ≡ sp_list i)
  list_to (inl p) = (refl, refl)
  list_to (inr u) = (refl, refl)

  list_back : (l : List A) → (to_list (of_list l) ≡ l) × (sp_list (of_list l) ≡ grammar.each sp l)
  list_back [] = (refl, refl)
  list_back (x ∷ xs) = (refl, refl)

  fewer : (ts : List Placed) (a : A) (left : List Placed) → Takes {I = A} (λ x. x) sp closed ts a left → length left < length ts
  fewer ts a left h = go h.front h.spelled (ap length h.parts ∙ length-append h.front left)
    where
      go : (front : List Placed) → sp h.index ≡ good front → length ts ≡ length front + length left → length left < length ts
      go [] e l = absurd (subst (Heads goes true) e (heads h.index))
      go (p ∷ front) e l = omega arith

  pub while_law : (n : ℕ) (ts : List Placed) → HasEnd ts → length ts < n → Agrees {I = List A} (λ l. l) (grammar.each sp) on ts (many goes item n ts)
  while_law zero ts ends lt = absurd (omega arith)
  while_law (suc n) ts ends lt =
      also to_list sp_list (λ l. l) (grammar.each sp) on ts _ to_list of_list list_to list_back
      (choice (λ (p : A × List A). p.0 ∷ p.1) (λ (u : Unit {0}). []) (λ p. sp p.0 ++ grammar.each sp p.1) (λ u. []) on goes ts _ _
      (λ p more stop. heads-append goes true (sp p.0
      ++ grammar.each sp p.1) more (heads-append goes true (sp p.0) _ (heads p.0))) (λ u more stop. other_begins goes on stops more stop)
      (λ e. then (λ a l. a ∷ l) sp (grammar.each sp) closed on ts _ _ [] (λ j more stop. stops_closed on (grammar.each sp j) more stop) (law ts ends)
      (λ x h. mapped (λ l. x.0 ∷ l) (λ l. l) (grammar.each sp) on x.1 _ (while_law n x.1 h.ended (let f = fewer ts x.0 x.1 h in omega arith))))
      (λ e. nothing [] on ts ends))

-- ---- the end of a statement

pub at_end : (t : Token) → inside t ≡ false → (t ≡ Sign (codes ";")) ⊎ (t ≡ End)
at_end t e = go (is (Sign (codes ";")) t) (is End t) refl refl e
  where
    go : (a b : Bool) → is (Sign (codes ";")) t ≡ a → is End t ≡ b → not (a || b) ≡ false → (t ≡ Sign (codes ";")) ⊎ (t ≡ End)
    go true b p q h = inl (is_same (Sign (codes ";")) t p)
    go false true p q h = inr (is_same End t q)
    go false false p q h = absurd cc

pub ends_on : (on : Token → Bool) → on (Sign (codes ";")) ≡ false → on End ≡ false → (t : Token) → inside t ≡ false → on t ≡ false
ends_on on a b t e = elim (at_end t e) [ inl s ↦ rw s a | inr s ↦ rw s b ]

pub ends_stop : (on : Token → Bool) → on (Sign (codes ";")) ≡ false → on End ≡ false → (more : List Marked) → Stops inside more → Stops on more
ends_stop on a b more h = stops_weaker inside on (ends_on on a b) more h

-- ---- a part before a last word or sign, and two words

pub before : {A T : Type 0} (w : Token) → the w w ≡ Some tt → is_last w ≡ false
    → (tree : A → T) (sp : A → List Marked) (onA on : Token → Bool) (ts : List Placed) (r : Read A) → onA w ≡ false
    → Agrees {I = A} (λ a. a) sp onA ts r → Agrees tree (λ a. sp a ++ (plain w ∷ [])) on ts (r >>= λ a. skip w a.1 >>= λ c. Ok (tree a.0, c.1))
before {A} w again within tree sp onA on ts r stops law =
    also (λ (p : A × Unit {0}). tree p.0) (λ p. sp p.0 ++ (plain w ∷ [])) tree (λ a. sp a
    ++ (plain w ∷ [])) on ts _ (λ p. p.0) (λ a. (a, tt)) (λ p. (refl, refl)) (λ a. (refl, refl))
    (then (λ a u. tree a) sp (λ u. plain w ∷ []) onA on ts r _ tt (λ j more stop. stops) law (λ x h. at_last w again within (tree x.0) on x.1 h.ended))

pub two_words : (v w : Token) → the v v ≡ Some tt → is_last v ≡ false → the w w ≡ Some tt → is_last w ≡ false → (on : Token → Bool) (ts : List Placed)
    → HasEnd ts
    → Agrees {I = Unit {0}} (λ u. u) (λ u. plain v ∷ plain w ∷ []) on ts (skip v ts >>= λ x. skip w x.1)
two_words v w a b c d on ts ends = past v a b (λ u. u) (λ u. plain w ∷ []) on ts _ tt ends (λ x h. skips w c d on x.1 h)
