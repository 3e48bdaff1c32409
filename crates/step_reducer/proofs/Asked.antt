-- A test of all requests, one after another.
use Rattle.std.specs.List.{slice_get, list_all}
use Rattle.std.proofs.Common.{◌≡◌, sym, ap, ◌∙◌, ℕ, ◌+◌, ◌<◌, ◌≤◌, Bool, true, false, ◌&&◌, List, ◌∷◌, length, drop, drop-cons, add-one, get_or, Some, None}
use Rattle.std.proofs.lemmas.List.{drop_all}
use Rattle.std.proofs.lemmas.List.Folds.{list_all-append}
use Rattle.bound_statements.specs.Plan.{Request, plan}
use Rattle.bound_statements.specs.declared.statement.Bound.{Bound}
use Rattle.machine_model.specs.Claims.{plans}
use Rattle.session_steps.proofs.Requests.{plan-ends, plan-next}

module _ (test : Request → Bool) where
  -- all pass where those from this number on do
  abbrev pub SoFar : List Request → ℕ → Type 0
  SoFar qs n = list_all test qs ≡ list_all test (drop n qs)

  pub on-true : (qs : List Request) (n : ℕ) (q : Request) → slice_get qs n ≡ Some q → test q ≡ true → SoFar qs n → SoFar qs (n + 1)
  on-true qs n q some here so_far = so_far ∙ ap (list_all test) (plan-next qs n q some) ∙ ap (λ b. b && list_all test (drop (n + 1) qs)) here

  pub on-false : (qs : List Request) (n : ℕ) (q : Request) → slice_get qs n ≡ Some q → test q ≡ false → SoFar qs n → false ≡ list_all test qs
  on-false qs n q some here so_far = sym (so_far ∙ ap (list_all test) (plan-next qs n q some) ∙ ap (λ b. b && list_all test (drop (n + 1) qs)) here)

  pub on-none : (qs : List Request) (n : ℕ) → slice_get qs n ≡ None → SoFar qs n → true ≡ list_all test qs
  on-none qs n none so_far = sym (so_far ∙ ap (list_all test) (plan-ends qs n none))

  pub on-end : (qs : List Request) (n : ℕ) → length qs ≤ n → SoFar qs n → true ≡ list_all test qs
  on-end qs n le so_far = sym (so_far ∙ ap (list_all test) (drop_all n qs le))

  -- all of all statements pass where those of the statements from this one on do
  abbrev pub AllSoFar : List Bound → ℕ → Type 0
  AllSoFar ss i = list_all test (plans ss) ≡ list_all test (plans (drop i ss))

  cut : (ss : List Bound) (i : ℕ) (s : Bound) → i < length ss → s ≡ get_or ss i s
      → list_all test (plans (drop i ss)) ≡ (list_all test (plan s) && list_all test (plans (drop (i + 1) ss)))
  cut ss i s lt is =
      ap (λ xs. list_all test (plans xs)) (drop-cons ss i s lt)
      ∙ (λ k. list_all test (plans (sym is k ∷ drop (sym (add-one i) k) ss)))
      ∙ list_all-append test (plan s) (plans (drop (i + 1) ss))

  pub all-true : (ss : List Bound) (i : ℕ) (s : Bound) → i < length ss → s ≡ get_or ss i s → list_all test (plan s) ≡ true → AllSoFar ss i → AllSoFar ss (i + 1)
  all-true ss i s lt is here so_far = so_far ∙ cut ss i s lt is ∙ ap (λ b. b && list_all test (plans (drop (i + 1) ss))) here

  pub all-false : (ss : List Bound) (i : ℕ) (s : Bound) → i < length ss → s ≡ get_or ss i s → list_all test (plan s) ≡ false → AllSoFar ss i
      → false ≡ list_all test (plans ss)
  all-false ss i s lt is here so_far = sym (so_far ∙ cut ss i s lt is ∙ ap (λ b. b && list_all test (plans (drop (i + 1) ss))) here)

  pub all-end : (ss : List Bound) (i : ℕ) → length ss ≤ i → AllSoFar ss i → true ≡ list_all test (plans ss)
  all-end ss i le so_far = sym (so_far ∙ ap (λ xs. list_all test (plans xs)) (drop_all i ss le))
