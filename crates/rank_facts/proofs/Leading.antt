-- Where exchanges of letters lead.
use Rattle.std.proofs.Common.{◌≡◌, refl, sym, ap, ◌∙◌, subst, ◌↔◌, ℕ, zero, suc, ◌<◌, ◌≤◌, true, List, [], ◌∷◌, length, Option, Some, None, is_some, ◌⊎◌}
use Rattle.std.proofs.Common.{⊎_elim, arith}
use Rattle.std.proofs.lemmas.List.{get_or_past}
use Rattle.perm_ranks.specs.Words.{Word, place_of, word_less, total, all_words, word_at}
use Rattle.perm_ranks.specs.Swapped.{exchanged}
use Rattle.perm_ranks.proofs.SwapLemmas.{exchanged-takes, exchanged-less}
use Rattle.perm_ranks.proofs.WordLemmas.{words-rise, stands-before, place-is, in-place, takes-in, words-take, each-at, entry-place, Takes}
use Rattle.bound_specs.specs.Spec.{Step, Spec, Queues, line, line_by, line_of, ranks, ranks_by, counts_of, queues_of, IsBound}
use Rattle.events.specs.declared.event.Event.{Event}
use Rattle.machine_model.specs.World.{World, send_all, outcome_of}
use Rattle.machine_model.specs.Start.{Start, Started, start}
use Rattle.machine_model.specs.Sound.{Sound}
use Rattle.machine_model.specs.Outcome.{outcome_of_line}
use Rattle.machine_model.proofs.Starts.{start-sound}
use Rattle.machine_model.proofs.Counts.{Fitting, bound-fits}
use Rattle.rank_facts.specs.Swap.{placed_at, falls_at, quiet_at, word_of, leads_by, leads_in}
use Rattle.rank_facts.specs.Facts.{IsTrueAt}
use Rattle.rank_facts.specs.declared.fact.Fact.TheVariants.{Swap}
use Rattle.rank_facts.proofs.Swaps.{swap-same}
use Rattle.rank_facts.proofs.Lines.{spec-letters}

module _ (q : Queues) where
  abbrev ws : List Word
  ws = all_words (counts_of q)

  abbrev leads : ℕ → ℕ → Option ℕ
  leads r k = placed_at ws (exchanged k (word_at (counts_of q) r))

  -- a word with an exchange is one of the list
  in-range : (r k : ℕ) (other : Word) → exchanged k (word_at (counts_of q) r) ≡ Some other → r < length ws
  in-range r k other e =
      let cases : (r < length ws) ⊎ (length ws ≤ r) = grind arith in
      ⊎_elim (λ h. h) (λ h. absurd (let f : exchanged k [] ≡ Some other = sym (ap (exchanged k) (get_or_past ws r [] h)) ∙ e in none k other f)) cases
    where
      none : (k : ℕ) (other : Word) → exchanged k [] ≡ Some other → ⊥
      none zero other f = cc
      none (suc k) other f = cc

  -- the word that is led to
  led : (r k below : ℕ) → leads r k ≡ Some below → (other : Word) × (exchanged k (word_at (counts_of q) r) ≡ Some other) × (place_of other ws ≡ Some below)
  led r k below e = at (exchanged k (word_at (counts_of q) r)) refl e
    where
      at : (o : Option Word) → exchanged k (word_at (counts_of q) r) ≡ o → placed_at ws o ≡ Some below
          → (other : Word) × (exchanged k (word_at (counts_of q) r) ≡ Some other) × (place_of other ws ≡ Some below)
      at None is f = cc
      at (Some other) is f = (other, is, f)

  pub down : (r k below : ℕ) → leads r k ≡ Some below → below < r
  down r k below e =
      let x = led r k below e in
      let p = place-is x.0 ws below x.2 in
      stands-before ws below r (words-rise (total (counts_of q)) (counts_of q)) p.0 (in-range r k x.0 x.1)
      (subst (λ v. word_less v (word_at (counts_of q) r) ≡ true) (sym p.1) (exchanged-less k (word_at (counts_of q) r) x.0 x.1))

  pub leads-there : (r k : ℕ) → r < length ws → falls_at k (word_at (counts_of q) r) ≡ true → (below : ℕ) × (leads r k ≡ Some below)
  leads-there r k lt falls = at (exchanged k (word_at (counts_of q) r)) refl falls
    where
      at : (o : Option Word) → exchanged k (word_at (counts_of q) r) ≡ o → is_some (exchanged k (word_at (counts_of q) r)) ≡ true
          → (below : ℕ) × (placed_at ws (exchanged k (word_at (counts_of q) r)) ≡ Some below)
      at None is some = absurd (let f : is_some {T = Word} None ≡ true = sym (ap is_some is) ∙ some in cc)
      at (Some other) is some =
          let taken = each-at (Takes (total (counts_of q)) (counts_of q)) ws r lt (words-take (total (counts_of q)) (counts_of q)) in
          let x = in-place other ws (takes-in (total (counts_of q)) (counts_of q) other
          (exchanged-takes k (word_at (counts_of q) r) other (total (counts_of q)) (counts_of q) is taken)) in
          (x.0, ap (placed_at ws) is ∙ x.1)

  -- the words are of lines with one world at their ends
  pub same-end : (steps : List Step) (w : World) → Sound w → Fitting steps w → (r k below : ℕ) → quiet_at steps w q k (word_at (counts_of q) r) ≡ true
      → leads r k ≡ Some below
      → send_all steps w (line q (word_at (counts_of q) below)) ≡ send_all steps w (line q (word_at (counts_of q) r))
  same-end steps w sound fit r k below quiet e =
      let x = led r k below e in
      let p = place-is x.0 ws below x.2 in
      ap (λ v. send_all steps w (line q v)) p.1 ∙ sym (swap-same steps w q k (word_at (counts_of q) r) x.0 sound fit x.1 quiet)

-- ---- of a spec

-- an exchange leads to the rank of the word that it gives
pub leads-exchanged : (spec : Spec) (r k below : ℕ)
    → (leads_in spec r k ≡ Some below) ↔ ((spec.lines ≡ []) × (below < ranks spec) × (exchanged k (word_of spec r) ≡ Some (word_of spec below)))
leads-exchanged spec r k below = (λ e. there spec.lines refl e, λ h. back h)
  where
    there : (ls : List (List ℕ)) → spec.lines ≡ ls → leads_by ls (queues_of spec) r k ≡ Some below
        → (spec.lines ≡ []) × (below < ranks spec) × (exchanged k (word_of spec r) ≡ Some (word_of spec below))
    there [] is e =
        let x = led (queues_of spec) r k below e in
        let p = place-is x.0 (all_words (counts_of (queues_of spec))) below x.2 in
        (is, subst (λ ls. below < ranks_by ls (queues_of spec)) (sym is) p.0, x.1 ∙ ap Some (sym p.1))
    there (l ∷ ls) is e = cc

    back : (spec.lines ≡ []) × (below < ranks spec) × (exchanged k (word_of spec r) ≡ Some (word_of spec below)) → leads_in spec r k ≡ Some below
    back h =
        let ws : List Word = all_words (counts_of (queues_of spec)) in
        let lt : below < length ws = subst (λ ls. below < ranks_by ls (queues_of spec)) h.0 h.1 in
        ap (λ ls. leads_by ls (queues_of spec) r k) h.0 ∙ ap (placed_at ws) h.2
        ∙ entry-place ws (word_of spec below) below (words-rise (total (counts_of (queues_of spec))) (counts_of (queues_of spec))) lt refl

pub leads-down : (spec : Spec) (r k below : ℕ) → leads_in spec r k ≡ Some below → below < r
leads-down spec r k below e = at spec.lines e
  where
    at : (ls : List (List ℕ)) → leads_by ls (queues_of spec) r k ≡ Some below → below < r
    at [] f = down (queues_of spec) r k below f
    at (l ∷ ls) f = cc

-- the outcome of a line of a spec that starts
pub outcome-started : (spec : Spec) (w : World) (ks : List ℕ) → start spec ≡ Started w
    → outcome_of_line spec ks ≡ Some (outcome_of spec.sessions (send_all spec.steps w ks))
outcome-started spec w ks e = ap (λ (s : Start). let o : Option (List (List Event)) =
    elim s [ Started v ↦ Some (outcome_of spec.sessions (send_all spec.steps v ks)) | _ ↦ None ] in o) e

pub swaps-hold : (spec : Spec) (r k : ℕ) → IsBound spec → IsTrueAt spec r (Swap k)
    → (below : ℕ) × (leads_in spec r k ≡ Some below) × (below < r) × (outcome_of_line spec (line_of spec below) ≡ outcome_of_line spec (line_of spec r))
swaps-hold spec r k bound is =
    let q : Queues = queues_of spec in
    let w : World = is.1.0 in
    let starts : start spec ≡ Started w = is.1.1 in
    let swap = is.1.2 in
    let none : spec.lines ≡ [] = swap.words in
    let lt : r < length (all_words (counts_of q)) = subst (λ ls. r < ranks_by ls q) none is.0 in
    let x = leads-there q r k lt swap.falls in
    let leads : leads_in spec r k ≡ Some x.0 = ap (λ ls. leads_by ls q r k) none ∙ x.1 in
    let quiet = spec-letters spec w r k none swap.falls ∙ swap.quiet in
    let ends = same-end q spec.steps w (start-sound spec w bound.session_setups starts) (bound-fits spec w bound starts) r k x.0 quiet x.1 in (
      x.0,
      leads,
      leads-down spec r k x.0 leads,
      outcome-started spec w (line_of spec x.0) starts
          ∙ ap (λ v. Some (outcome_of spec.sessions v)) (ap (λ ls. send_all spec.steps w (line_by ls q x.0)) none ∙ ends
          ∙ sym (ap (λ ls. send_all spec.steps w (line_by ls q r)) none))
          ∙ sym (outcome-started spec w (line_of spec r) starts),
    )
