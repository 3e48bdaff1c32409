-- Histories that grow by a turn.
use Rattle.std.proofs.Common.{◌≡◌, ◌≢◌, ℕ, suc, ◌+◌, Bool, true, false, cond, List, [], ◌∷◌, ◌++◌, length, refl, sym, ap, ◌∙◌, subst, arith, eq-eqb, ne_eqb}
use Rattle.std.proofs.Common.{append_assoc}
use Rattle.std.specs.FinSet.{empty}
use Rattle.fact_books.specs.Entries.{FactSet}
use Rattle.std.specs.Prelude.{◌==◌}
use mathlib.Core.List.{IsPrefix}
use Rattle.std.proofs.lemmas.List.{append-nil}
use Rattle.shard_board.specs.declared.history.Entry.{Entry}
use Rattle.shard_board.specs.History.{facts_after, facts_from, facts_of, IsRight, IsLegalFrom, IsLegal, calls_by}

pub facts_from-append : (s : FactSet) (xs ys : List Entry) → facts_from s (xs ++ ys) ≡ facts_from (facts_from s xs) ys
facts_from-append s [] ys = refl
facts_from-append s (e ∷ es) ys = facts_from-append (facts_after s e.call) es ys

pub legal_more : (k : ℕ) (s : FactSet) (xs : List Entry) (e : Entry) → IsLegalFrom k s xs → IsRight (k + length xs) (facts_from s xs) e.call
    → IsLegalFrom k s (xs ++ e ∷ [])
legal_more k s [] e l r = let z : k + 0 ≡ k = omega arith in (subst (λ (n : ℕ). IsRight n s e.call) z r, tt)
legal_more k s (x ∷ xs) e l r = let z : k + suc (length xs) ≡ suc k + length xs = omega arith in
    (l.0, legal_more (suc k) (facts_after s x.call) xs e l.1 (subst (λ (n : ℕ). IsRight n (facts_from (facts_after s x.call) xs) e.call) z r))

pub legal_next : (xs : List Entry) (e : Entry) → IsLegal xs → IsRight (length xs) (facts_of xs) e.call → IsLegal (xs ++ e ∷ [])
legal_next xs e l r = let z : length xs ≡ 0 + length xs = omega arith in legal_more 0 empty xs e l (subst (λ (n : ℕ). IsRight n (facts_of xs) e.call) z r)

pub calls_by-append : (n : ℕ) (xs ys : List Entry) → calls_by n (xs ++ ys) ≡ calls_by n xs ++ calls_by n ys
calls_by-append n [] ys = refl
calls_by-append n (x ∷ xs) ys = let r = calls_by-append n xs ys in
    elim (x.by == n) as (λ (b : Bool). cond b (x ∷ calls_by n (xs ++ ys)) (calls_by n (xs ++ ys)) ≡ cond b (x ∷ calls_by n xs)
    (calls_by n xs) ++ calls_by n ys) [ true ↦ ap (λ (l : List Entry). x ∷ l) r | false ↦ r ]

pub calls_mine : (n : ℕ) (xs : List Entry) (e : Entry) → e.by ≡ n → calls_by n (xs ++ e ∷ []) ≡ calls_by n xs ++ e ∷ []
calls_mine n xs e h = calls_by-append n xs (e ∷ []) ∙ ap (λ (b : Bool). calls_by n xs ++ cond b (e ∷ []) []) (eq-eqb e.by n h)

pub calls_other : (n : ℕ) (xs : List Entry) (e : Entry) → e.by ≢ n → calls_by n (xs ++ e ∷ []) ≡ calls_by n xs
calls_other n xs e h = calls_by-append n xs (e ∷ []) ∙ (ap (λ (b : Bool). calls_by n xs ++ cond b (e ∷ []) []) (ne_eqb e.by n h) ∙ append-nil (calls_by n xs))

pub prefix_self : (xs : List Entry) → IsPrefix xs xs
prefix_self xs = ([], append-nil xs)

pub prefix_more : (xs log : List Entry) (e : Entry) → IsPrefix xs log → IsPrefix xs (log ++ e ∷ [])
prefix_more xs log e p = (p.0 ++ e ∷ [], sym (append_assoc xs p.0 (e ∷ [])) ∙ ap (λ (l : List Entry). l ++ e ∷ []) p.1)
