-- Conditions are read as they are spelled, at each level.
use Rattle.std.proofs.Common.{◌≡◌, ℕ, zero, suc, ◌+◌, Bool, true, false, List, [], ◌∷◌, ◌++◌, length, Some, None, refl, ap, subst, inl, inr, ◌⊎◌, arith}
use Rattle.std.specs.Prelude.{codes, ◌||◌, nat_le}
use Rattle.std.proofs.lemmas.Bool.Decides.{nat_tests}
use Rattle.sql_grammar.specs.declared.TheConstants.{MAX_DEPTH}
use Rattle.sql_grammar.specs.declared.error.Limit.TheVariants.{TooLarge}
use Rattle.sql_grammar.specs.Tokens.{Token, Key, Sign, Placed, is, is_last}
use Rattle.sql_grammar.specs.Tree.{Sum, Condition, Alone, Or, Part, Single, And, Atom, Compares, Not, Group}
use Rattle.sql_grammar.specs.Grammar.{Marked, mark, plain, too_deep}
use Rattle.sql_grammar.specs.Grammar as grammar
use Rattle.sql_grammar.specs.Reading.{Read, first, taken, the, comparison, compares, part_of, condition_of, one_of_three, atom, condition, where_part}
use Rattle.sql_reader.proofs.Laws.{HasEnd, Agrees, Heads, closed, stops_closed, then, mapped, choice, both, also, spelled_as, over_limit, IsChain}
use Rattle.sql_reader.proofs.Laws.{in_chain, or-false, heads-append}
use Rattle.sql_reader.proofs.TokenLaws.{skips, one_of, the-back, the-none, is_same}
use Rattle.sql_reader.proofs.ExpressionLaws.{on_sum, sum_law, some_sum, heads_sum}
use Rattle.sql_grammar.specs.declared.expression.Comparison.{Comparison}
use Rattle.sql_grammar.specs.declared.expression.Comparison.TheVariants.{Equal, Unequal, Differs, Less, AtMost, Greater, AtLeast}

-- ---- comparisons

abbrev comparison_token : Comparison → Token
comparison_token c = Sign (grammar.comparison c)

comparison-forth : (c : Comparison) → comparison (comparison_token c) ≡ Some c
comparison-forth Equal = refl
comparison-forth Unequal = refl
comparison-forth Differs = refl
comparison-forth Less = refl
comparison-forth AtMost = refl
comparison-forth Greater = refl
comparison-forth AtLeast = refl

comparison_inside : (c : Comparison) → is_last (comparison_token c) ≡ false
comparison_inside c = refl

comparison_ends : (c : Comparison) → on_sum (comparison_token c) ≡ false
comparison_ends Equal = refl
comparison_ends Unequal = refl
comparison_ends Differs = refl
comparison_ends Less = refl
comparison_ends AtMost = refl
comparison_ends Greater = refl
comparison_ends AtLeast = refl

comparison_law : (on : Token → Bool) (ts : List Placed) → HasEnd ts
    → Agrees {I = Comparison} (λ c. c) (λ c. plain (comparison_token c) ∷ []) on ts (taken (comparison (first ts).token) ts)
comparison_law on ts ends =
    one_of comparison_token ((Sign (codes "="), Equal) ∷ (Sign (codes "<>"), Unequal) ∷ (Sign (codes "!="), Differs) ∷ (Sign (codes "<"), Less)
    ∷ (Sign (codes "<="), AtMost) ∷ (Sign (codes ">"), Greater) ∷ (Sign (codes ">="), AtLeast) ∷ []) Equal (
      refl,
      (refl, (refl, (refl, (refl, (refl, (refl, tt)))))),
    ) comparison-forth comparison_inside on ts ends

abbrev Compared : Type 0
Compared = Sum × (Comparison × Sum)

abbrev tree_compares : Compared → Atom
tree_compares p = Compares p.0 p.1.0 p.1.1

abbrev sp_compares : Compared → List Marked
sp_compares p = grammar.sum p.0 ++ (plain (comparison_token p.1.0) ∷ grammar.sum p.1.1)

compares_law : (ts : List Placed) → HasEnd ts → Agrees tree_compares sp_compares on_sum ts (compares ts)
compares_law ts ends =
    then (λ a (q : Comparison × Sum). Compares a q.0 q.1) grammar.sum (λ q. plain (comparison_token q.0) ∷ grammar.sum q.1) on_sum on_sum ts _ _ (
      Equal,
      some_sum,
    ) (λ j more stop. comparison_ends j.0)
    (sum_law ts ends)
    (λ x h. then (λ c b. Compares x.0 c b) (λ c. plain (comparison_token c) ∷ []) grammar.sum closed on_sum x.1 _ _ some_sum
    (λ j more stop. stops_closed on_sum (grammar.sum j) more stop)
    (comparison_law closed x.1 h.ended)
    (λ y g. mapped (λ b. Compares x.0 y.0 b) (λ b. b) grammar.sum on_sum y.1 _ (sum_law y.1 g.ended)))

-- ---- parts and conditions, over atoms that are read

abbrev pub on_part : Token → Bool
on_part t = on_sum t || is (Key (codes "and")) t

abbrev pub on_condition : Token → Bool
on_condition t = on_part t || is (Key (codes "or")) t

pub some_atom : Atom
some_atom = Compares some_sum Equal some_sum

mutual
  heads_part : (p : Part) (n : ℕ) → Heads (λ t. true) true (grammar.part p n)
  heads_part (Single a) n = heads_atom a n
  heads_part (And a p) n = heads-append (λ t. true) true (grammar.atom a n) _ (heads_atom a n)

  heads_atom : (a : Atom) (n : ℕ) → Heads (λ t. true) true (grammar.atom a n)
  heads_atom (Compares a c b) n = heads-append (λ t. true) true (grammar.sum a) _ (heads_sum (λ t. true) true (λ w. refl) (λ w. refl) (λ w. refl) refl a)
  heads_atom (Not a) n = refl
  heads_atom (Group c) n = refl

part_cases : (l : Part) → ((a : Atom) × (s : Unit {0}) × (l' : Part) × (l ≡ And a l')) ⊎ ((a : Atom) × (l ≡ Single a))
part_cases (Single a) = inr (a, refl)
part_cases (And a p) = inl (a, tt, p, refl)

condition_cases : (l : Condition) → ((a : Part) × (s : Unit {0}) × (l' : Condition) × (l ≡ Or a l')) ⊎ ((a : Part) × (l ≡ Alone a))
condition_cases (Alone p) = inr (p, refl)
condition_cases (Or p c) = inl (p, tt, c, refl)

module _ (n : ℕ) where
  abbrev sp_atom : Atom → List Marked
  sp_atom a = grammar.atom a n

  abbrev sp_part : Part → List Marked
  sp_part p = grammar.part p n

  abbrev sp_condition : Condition → List Marked
  sp_condition c = grammar.condition c n

  part_chain : IsChain Single (λ a u p. And a p) (the (Key (codes "and"))) (λ u. Key (codes "and")) (λ k. sp_atom) (λ k. sp_part) on_sum on_part
  part_chain = record {
    cases = part_cases;
    of_last = λ k a. refl;
    of_more = λ k a s l. refl;
    back = the-back (Key (codes "and"));
    forth = λ s. refl;
    inside = λ s. refl;
    not_empty = λ k a e. subst (Heads (λ t. true) true) e (heads_atom a n);
    ends_item = λ s. refl;
    weaker = λ t e. (or-false (on_sum t) _ e).0;
    no_sep = λ t e. the-none (Key (codes "and")) t (or-false (on_sum t) _ e).1;
  }

  condition_chain : IsChain Alone (λ p u c. Or p c) (the (Key (codes "or"))) (λ u. Key (codes "or")) (λ k. sp_part) (λ k. sp_condition) on_part on_condition
  condition_chain = record {
    cases = condition_cases;
    of_last = λ k a. refl;
    of_more = λ k a s l. refl;
    back = the-back (Key (codes "or"));
    forth = λ s. refl;
    inside = λ s. refl;
    not_empty = λ k p e. subst (Heads (λ t. true) true) e (heads_part p n);
    ends_item = λ s. refl;
    weaker = λ t e. (or-false (on_part t) _ e).0;
    no_sep = λ t e. the-none (Key (codes "or")) t (or-false (on_part t) _ e).1;
  }

  module _ (read : List Placed → Read Atom) (law : (ts : List Placed) → HasEnd ts → Agrees {I = Atom} (λ a. a) sp_atom on_sum ts (read ts)) where
    part_law : (ts : List Placed) → HasEnd ts → Agrees {I = Part} (λ p. p) sp_part on_part ts (part_of read ts)
    part_law ts ends = in_chain Single (λ a u p. And a p) (the (Key (codes "and"))) (λ u. Key (codes "and")) (λ k. sp_atom) (λ k. sp_part) on_sum on_part
        part_chain (λ k. read) some_atom tt
        (λ k us e. law us e) (suc (length ts)) 0 ts ends (omega arith)

    pub condition_of_law : (ts : List Placed) → HasEnd ts → Agrees {I = Condition} (λ c. c) sp_condition on_condition ts (condition_of read ts)
    condition_of_law ts ends =
        in_chain Alone (λ p u c. Or p c) (the (Key (codes "or"))) (λ u. Key (codes "or")) (λ k. sp_part) (λ k. sp_condition) on_part on_condition
        condition_chain (λ k. part_of read) (Single some_atom) tt
        (λ k us e. part_law us e) (suc (length ts)) 0 ts ends (omega arith)

-- ---- NOT and parentheses

pub some_condition : Condition
some_condition = Alone (Single some_atom)

module _ (n : ℕ) where
  abbrev Atoms : Type 0
  Atoms = Atom ⊎ (Condition ⊎ Compared)

  abbrev sp_not : Atom → List Marked
  sp_not a = mark (Key (codes "not")) (too_deep n) ∷ grammar.atom a (suc n)

  abbrev sp_group : Condition → List Marked
  sp_group c = mark (Sign (codes "(")) (too_deep n) ∷ (grammar.condition c (suc n) ++ (plain (Sign (codes ")")) ∷ []))

  abbrev tree_atom : Atoms → Atom
  tree_atom = both (λ (a : Atom). Not a) (both (λ (c : Condition). Group c) tree_compares)

  abbrev sp_atoms : Atoms → List Marked
  sp_atoms = both sp_not (both sp_group sp_compares)

  abbrev of_atom : Atom → Atoms
  of_atom (Not a) = inl a
  of_atom (Group c) = inr (inl c)
  of_atom (Compares a c b) = inr (inr (a, (c, b)))

  atom_to : (i : Atoms) → (tree_atom i ≡ tree_atom i) × (grammar.atom (tree_atom i) n ≡ sp_atoms i)
  atom_to (inl a) = (refl, refl)
  atom_to (inr (inl c)) = (refl, refl)
  atom_to (inr (inr p)) = (refl, refl)

  atom_back : (a : Atom) → (tree_atom (of_atom a) ≡ a) × (sp_atoms (of_atom a) ≡ grammar.atom a n)
  atom_back (Not a) = (refl, refl)
  atom_back (Group c) = (refl, refl)
  atom_back (Compares a c b) = (refl, refl)

  not_not : (x : Condition ⊎ Compared) (more : List Marked) → Heads (is (Key (codes "not"))) false (both sp_group sp_compares x ++ more)
  not_not (inl c) more = refl
  not_not (inr p) more =
      heads-append _ false (sp_compares p) more
      (heads-append _ false (grammar.sum p.0) _ (heads_sum (is (Key (codes "not"))) false (λ w. refl) (λ w. refl) (λ w. refl) refl p.0))

  not_open : (p : Compared) (more : List Marked) → Heads (is (Sign (codes "("))) false (sp_compares p ++ more)
  not_open p more = heads-append _ false (sp_compares p) more
      (heads-append _ false (grammar.sum p.0) _ (heads_sum (is (Sign (codes "("))) false (λ w. refl) (λ w. refl) (λ w. refl) refl p.0))

  atom_of_three : (ts : List Placed) → HasEnd ts → (x y : Read Atom)
      → (is (Key (codes "not")) (first ts).token ≡ true → Agrees {I = Atom} (λ a. Not a) sp_not on_sum ts x)
      → (is (Sign (codes "(")) (first ts).token ≡ true → Agrees {I = Condition} (λ c. Group c) sp_group on_sum ts y)
      → Agrees {I = Atom} (λ a. a) (λ a. grammar.atom a n) on_sum ts
      (one_of_three (is (Key (codes "not")) (first ts).token) (is (Sign (codes "(")) (first ts).token) x y (compares ts))
  atom_of_three ts ends x y f g =
      also tree_atom sp_atoms (λ a. a) (λ a. grammar.atom a n) on_sum ts _ tree_atom of_atom atom_to atom_back
      (choice (λ (a : Atom). Not a) (both (λ (c : Condition). Group c) tree_compares) sp_not (both sp_group sp_compares) on_sum (is (Key (codes "not")))
      ts x _ (λ a more stop. refl) (λ p more stop. not_not p more) f
      (λ e. choice (λ (c : Condition). Group c) tree_compares sp_group sp_compares on_sum (is (Sign (codes "("))) ts y _ (λ c more stop. refl)
      (λ p more stop. not_open p more) g (λ e'. compares_law ts ends)))

nat_le_false : (n b : ℕ) → n + suc b ≡ MAX_DEPTH → nat_le MAX_DEPTH n ≡ false
nat_le_false n b e = grind (arith, nat_tests)

pub atom_law : (b n : ℕ) → n + b ≡ MAX_DEPTH → (ts : List Placed) → HasEnd ts → Agrees {I = Atom} (λ a. a) (λ a. grammar.atom a n) on_sum ts (atom b ts)
atom_law zero n e ts ends =
    let same : n ≡ MAX_DEPTH = omega arith in
    let deep : too_deep n ≡ Some TooLarge = ap too_deep same in
    atom_of_three n ts ends _ _
    (λ at. over_limit (λ a. Not a) (sp_not n) on_sum TooLarge some_atom ts (λ a. (
      grammar.atom a (suc n),
      rw (is_same (Key (codes "not")) (first ts).token at, deep) refl,
    )) ends)
    (λ at. over_limit (λ c. Group c) (sp_group n) on_sum TooLarge some_condition ts (λ c. (
      grammar.condition c (suc n) ++ (plain (Sign (codes ")")) ∷ []),
      rw (is_same (Sign (codes "(")) (first ts).token at, deep) refl,
    )) ends)
atom_law (suc b) n e ts ends =
    let shallow : too_deep n ≡ None = rw (nat_le_false n b e) refl in
    let e' : suc n + b ≡ MAX_DEPTH = omega arith in
    atom_of_three n ts ends _ _
    (λ at. spelled_as (λ a. Not a) (λ a. plain (Key (codes "not")) ∷ grammar.atom a (suc n)) (sp_not n) on_sum ts _ (λ a. rw shallow refl)
    (also (λ (p : Unit {0}
    × Atom). Not p.1) (λ p. plain (Key (codes "not")) ∷ grammar.atom p.1 (suc n)) (λ a. Not a)
    (λ a. plain (Key (codes "not")) ∷ grammar.atom a (suc n)) on_sum ts _ (λ p. p.1) (λ a. (tt, a)) (λ p. (refl, refl)) (λ a. (refl, refl))
    (then (λ u a. Not a) (λ u. plain (Key (codes "not")) ∷ []) (λ a. grammar.atom a (suc n)) closed on_sum ts _ _ some_atom
    (λ j more stop. stops_closed on_sum (grammar.atom j (suc n)) more stop)
    (skips (Key (codes "not")) refl refl closed ts ends)
    (λ x h. mapped (λ a. Not a) (λ a. a) (λ a. grammar.atom a (suc n)) on_sum x.1 _ (atom_law b (suc n) e' x.1 h.ended)))))
    (λ at. spelled_as (λ c. Group c) (λ c. plain (Sign (codes "(")) ∷ (grammar.condition c (suc n)
    ++ (plain (Sign (codes ")")) ∷ []))) (sp_group n) on_sum ts _ (λ c. rw shallow refl)
    (also (λ (p : Unit {0} × (Condition × Unit {0})). Group p.1.0) (λ p. plain (Sign (codes "(")) ∷ (grammar.condition p.1.0 (suc n)
    ++ (plain (Sign (codes ")")) ∷ []))) (λ c. Group c) (λ c. plain (Sign (codes "(")) ∷ (grammar.condition c (suc n)
    ++ (plain (Sign (codes ")")) ∷ []))) on_sum ts _
    (λ p. p.1.0) (λ c. (tt, (c, tt))) (λ p. (refl, refl)) (λ c. (refl, refl))
    (then (λ u (q : Condition × Unit {0}). Group q.0) (λ u. plain (Sign (codes "(")) ∷ []) (λ q. grammar.condition q.0 (suc n)
    ++ (plain (Sign (codes ")")) ∷ [])) closed on_sum ts _ _ (some_condition, tt)
    (λ j more stop. stops_closed on_sum (grammar.condition j.0 (suc n) ++ (plain (Sign (codes ")")) ∷ [])) more stop)
    (skips (Sign (codes "(")) refl refl closed ts ends)
    (λ x h. then (λ c u. Group c) (λ c. grammar.condition c (suc n)) (λ u. plain (Sign (codes ")")) ∷ []) on_condition on_sum x.1 _ _ tt (λ j more stop. refl)
    (condition_of_law (suc n) (atom b) (λ us e''. atom_law b (suc n) e' us e'') x.1 h.ended)
    (λ y g. mapped (λ u. Group y.0) (λ u. u) (λ u. plain (Sign (codes ")")) ∷ []) on_sum y.1 _ (skips (Sign (codes ")")) refl refl on_sum y.1 g.ended))))))

pub condition_law : (ts : List Placed) → HasEnd ts → Agrees {I = Condition} (λ c. c) (λ c. grammar.condition c 0) on_condition ts (condition ts)
unfolding condition
condition_law ts ends = condition_of_law 0 (atom MAX_DEPTH) (λ us e. atom_law MAX_DEPTH 0 refl us e) ts ends

pub where_law : (ts : List Placed) → HasEnd ts → Agrees {I = Condition} (λ c. c) grammar.where_part on_condition ts (where_part ts)
where_law ts ends =
    also (λ (p : Unit {0}
    × Condition). p.1) (λ p. plain (Key (codes "where")) ∷ grammar.condition p.1 0) (λ c. c) grammar.where_part on_condition ts _ (λ p. p.1)
    (λ c. (tt, c)) (λ p. (refl, refl)) (λ c. (refl, refl))
    (then (λ u c. c) (λ u. plain (Key (codes "where")) ∷ []) (λ c. grammar.condition c 0) closed on_condition ts _ _ some_condition
    (λ j more stop. stops_closed on_condition (grammar.condition j 0) more stop)
    (skips (Key (codes "where")) refl refl closed ts ends)
    (λ x h. condition_law x.1 h.ended))
