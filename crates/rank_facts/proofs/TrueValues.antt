-- What sets of true facts tell.
use Rattle.std.proofs.Common.{◌≡◌, sym, ap, ◌∙◌, ℕ, zero, suc, ◌<◌, true, List, Some, arith}
use Rattle.bound_specs.specs.Spec.{Spec, line_of, ranks, IsBound}
use Rattle.events.specs.declared.event.Event.{Event}
use Rattle.machine_model.specs.Outcome.{outcome_of_line}
use Rattle.rank_facts.specs.Swap.{leads_in}
use Rattle.rank_facts.specs.Values.{Facts, IsValue, ran, swap, AllTrue, CoverEachRank, TellTheMachine}
use Rattle.rank_facts.specs.declared.fact.Fact.{Fact}
use Rattle.rank_facts.specs.declared.fact.Fact.TheVariants.{Ran, Swap}
use Rattle.rank_facts.proofs.Leading.{swaps-hold}

module _ (spec : Spec) (bound : IsBound spec) (has : Facts) (all : AllTrue spec has) where
  never-another : (r : ℕ) (o : List (List Event)) → IsValue has (leads_in spec) r o → outcome_of_line spec (line_of spec r) ≡ Some o
  never-another r o (ran h) = (all r (Ran o) h).1
  never-another r o (swap {k = k} {below = below} h leads v) =
      let s = swaps-hold spec r k bound (all r (Swap k) h) in
      let same : s.0 ≡ below = (let e : Some s.0 ≡ Some below = sym s.1 ∙ leads in cc) in
      sym s.3 ∙ ap (λ n. outcome_of_line spec (line_of spec n)) same ∙ never-another below o v

  abbrev HasValue : ℕ → Type 0
  HasValue r = (o : List (List Event)) × IsValue has (leads_in spec) r o

  value-below : (n : ℕ) → CoverEachRank spec has → (r : ℕ) → r < n → r < ranks spec → HasValue r
  value-below zero covers r less lt = absurd (omega arith)
  value-below (suc n) covers r less lt = at (covers r lt).0 (covers r lt).1 (λ b l. value-below n covers b (omega arith) (omega arith))
    where
      at : (f : Fact) → has r f ≡ true → ((b : ℕ) → b < r → HasValue b) → HasValue r
      at (Ran o) h rec = (o, ran h)
      at (Swap k) h rec =
          let s = swaps-hold spec r k bound (all r (Swap k) h) in
          let v = rec s.0 s.2 in
          (v.0, swap h s.1 v.1)

  pub tell-the-machine : TellTheMachine spec has
  tell-the-machine = record { never_another = never-another; each_has_one = λ covers r lt. value-below (suc r) covers r (omega arith) lt }
