-- What tests of facts come to.
use Rattle.std.proofs.Common.{◌≡◌, ◌↔◌, refl, sym, ap, ◌∙◌, subst, ℕ, ◌+◌, ◌<◌, ◌≤◌, Bool, true, false, IsTrue, List, [], length, Option, Some, None}
use Rattle.std.proofs.Common.{◌⊎◌, ⊎_elim, arith, Result, Ok, Err, IfOk}
use Rattle.perm_ranks.specs.Words.{total, all_words, word_at}
use Rattle.perm_ranks.proofs.WordLemmas.{Takes, takes-length, words-take, each-at}
use Rattle.bound_specs.specs.Spec.{Spec, ranks, ranks_by, line_of, counts_of, queues_of}
use Rattle.events.specs.declared.event.Event.{Event}
use Rattle.machine_model.specs.World.{World, send_all, outcome_of}
use Rattle.machine_model.specs.Start.{Start, Started, SetupFailed, SessionSetupFailed, SessionSetupWaits, start}
use Rattle.rank_facts.specs.Swap.{falls_at, word_of, are_quiet_at}
use Rattle.rank_facts.specs.Facts.{IsTrueAt}
use Rattle.rank_facts.specs.declared.fact.Fact.{Fact}
use Rattle.rank_facts.specs.declared.fact.Fact.TheVariants.{Ran, Swap}
use Rattle.rank_facts.proofs.Leading.{outcome-started}
use Rattle.step_reducer.proofs.Covering.{swap-covers}
use Rattle.step_reducer.proofs.Partings.{line-length}
use Rattle.step_reducer.proofs.Prefixes.{falls-short}
use Rattle.book_audit.specs.Grounds.{IsTrueUntil, AreAlikeTo}

some-same : {A : Type 0} (a b : A) → Some a ≡ Some b → a ≡ b
some-same a b e = cc

-- nothing is true where the spec does not start
pub none-true : (spec : Spec) → ((w : World) → start spec ≡ Started w → ⊥) → (r : ℕ) (fact : Fact) → IsTrueAt spec r fact → ⊥
none-true spec refused r (Ran outcome) is = never (start spec) refl is.1
  where
    never : (s : Start) → start spec ≡ s
        → (let o : Option (List (List Event)) = elim s [ Started w ↦ Some (outcome_of spec.sessions (send_all spec.steps w (line_of spec r))) | _ ↦ None ] in
        o) ≡ Some outcome → ⊥
    never (Started w) e h = refused w e
    never (SetupFailed n) e h = cc
    never (SessionSetupFailed n) e h = cc
    never (SessionSetupWaits n) e h = cc
none-true spec refused r (Swap k) is = refused is.1.0 is.1.1

-- a fact that is true at a rank is true up to the next one
pub true-once : (spec : Spec) (fact : Fact) (rank end : ℕ) → rank + 1 ≡ end → IsTrueAt spec rank fact → IsTrueUntil spec fact rank (Some end)
true-once spec fact rank end next is = (
  omega (arith, next),
  λ r le lt. (let here : rank ≡ r = omega (arith, next, le, lt) in subst (λ m. IsTrueAt spec m fact) here is),
)

-- ---- a spec without lines

-- its ranks are those of its words
pub in-ranks : (spec : Spec) (r : ℕ) → spec.lines ≡ [] → r < length (all_words (counts_of (queues_of spec))) → r < ranks spec
in-ranks spec r words lt = subst (λ ls. r < ranks_by ls (queues_of spec)) (sym words) lt

pub in-words : (spec : Spec) (r : ℕ) → spec.lines ≡ [] → r < ranks spec → r < length (all_words (counts_of (queues_of spec)))
in-words spec r words lt = subst (λ ls. r < ranks_by ls (queues_of spec)) words lt

-- a word that falls at a place has a letter there and behind it
pub falls-inside : (counts : List ℕ) (r k : ℕ) → r < length (all_words counts) → falls_at k (word_at counts r) ≡ true → k + 2 ≤ total counts
falls-inside counts r k lt falls =
    let long = takes-length (total counts) counts (word_at counts r)
    (each-at (Takes (total counts) counts) (all_words counts) r lt (words-take (total counts) counts)) in
    let cases : (k + 2 ≤ total counts) ⊎ (length (word_at counts r) ≤ k + 1) = grind (arith, long) in
    ⊎_elim (λ h. h) (λ h. absurd (let bad : false ≡ true = sym (falls-short k (word_at counts r) h) ∙ falls in cc)) cases

pub line-inside : (spec : Spec) (r k : ℕ) → spec.lines ≡ [] → r < length (all_words (counts_of (queues_of spec))) → falls_at k (word_of spec r) ≡ true
    → k + 1 < length (line_of spec r)
line-inside spec r k words lt falls =
    let inside = falls-inside (counts_of (queues_of spec)) r k lt falls in
    let long = line-length spec words r lt in
    omega (arith, inside, long)

-- ---- a spec that starts

module _ (spec : Spec) (w : World) (starts : start spec ≡ Started w) (r : ℕ) where
  -- the outcome of a rank is what its line tells
  ran-is : (outcome other : List (List Event)) (same : Bool) → r < ranks spec → outcome ≡ outcome_of spec.sessions (send_all spec.steps w (line_of spec r))
      → (IsTrue same ↔ (outcome ≡ other)) → IsTrue same ↔ IsTrueAt spec r (Ran other)
  ran-is outcome other same lt is tells =
      let told = outcome-started spec w (line_of spec r) starts in (
        λ yes. (lt, told ∙ ap (λ o. Some o) (sym is ∙ tells.0 yes)),
        λ fact. tells.1 (is ∙ some-same _ _ (sym told ∙ fact.1)),
      )

  -- and where memory may be refused
  pub ran-told : {E : Type 0} (outcome other : List (List Event)) (result : Result Bool E) → r < ranks spec
      → outcome ≡ outcome_of spec.sessions (send_all spec.steps w (line_of spec r)) → IfOk result (λ yes. IsTrue yes ↔ (outcome ≡ other))
      → IfOk result (λ yes. IsTrue yes ↔ IsTrueAt spec r (Ran other))
  ran-told outcome other (Ok same) lt is tells = ran-is outcome other same lt is tells
  ran-told outcome other (Err e) lt is tells = tells

  pub swap-from : (k : ℕ) → spec.lines ≡ [] → r < ranks spec → falls_at k (word_of spec r) ≡ true → are_quiet_at spec w r k ≡ true → IsTrueAt spec r (Swap k)
  swap-from k words lt falls quiet = (lt, (w, starts, record { words = words; falls = falls; quiet = quiet }))

  -- a true swap is of steps that are quiet from this start
  pub swap-quiet : (k : ℕ) → IsTrueAt spec r (Swap k) → are_quiet_at spec w r k ≡ true
  swap-quiet k fact =
      let same : fact.1.0 ≡ w = (let e : Started fact.1.0 ≡ Started w = sym fact.1.1 ∙ starts in cc) in
      ap (λ v. are_quiet_at spec v r k) (sym same) ∙ fact.1.2.quiet

  -- and one of each rank whose word shares the letters
  pub swap-alike : (k end : ℕ) → AreAlikeTo (counts_of (queues_of spec)) r k end → IsTrueAt spec r (Swap k) → IsTrueUntil spec (Swap k) r (Some end)
  swap-alike k end alike fact =
      let swap = fact.1.2 in
      let ends = alike.end_is in
      let letters = alike.letters in
      let to = alike.has.1 in
      let from = alike.has.0 in
      let inside = alike.is_block.inside in (
        omega (arith, ends, to),
        λ s le lt. (
          in-ranks spec s swap.words (omega (arith, inside, ends, lt)),
          (
            fact.1.0,
            fact.1.1,
            swap-covers spec fact.1.0 alike.shared alike.block alike.is_block r s k (omega (arith, letters)) alike.has
                (omega (arith, from, le), omega (arith, ends, lt)) swap,
          ),
        ),
      )
