-- What is found of all pieces, from what is found of each.
use Rattle.std.proofs.Common.{◌≡◌, sym, ap, ◌∙◌, subst, ℕ, ◌<◌, ◌≤◌, min, false, ◌||◌, List, [], ◌∷◌, ◌++◌, ◌⊎◌, ⊎_elim, inl, inr, Some, All, arith}
use Rattle.std.proofs.Math.Bool.{or_assoc, or-false}
use Rattle.std.proofs.lemmas.Bool.{false≢true, cases_lt}
use Rattle.std.proofs.lemmas.List.Folds.{list_any-append}
use Rattle.std.proofs.lemmas.List.Elements.{All-nil, All-cons}
use Rattle.std.specs.List.{AllZip}
use Rattle.bound_specs.specs.Spec.{Spec}
use Rattle.rank_facts.specs.Values.{Facts}
use Rattle.fact_books.specs.declared.run.Run.{Run}
use Rattle.fact_books.specs.Runs.{Table, has, AllSound}
use Rattle.fact_books.proofs.RunLemmas.{or_true_right}
use Rattle.book_audit.specs.declared.finding.Finding.{Finding}
use Rattle.book_audit.specs.declared.finding.Finding.TheVariants.{AllTrue as EachTrue, False, NoMemory}
use Rattle.book_audit.specs.Findings.{said, AllTrueBelow, IsLeast, IsFinding}
use Rattle.book_audit.specs.Pieces.{runs_of, both, all_of}
use Rattle.book_audit.proofs.Least.{or-left, or-cases, finding-same}

-- ---- two pieces

module _ (spec : Spec) (f g : Facts) where
  abbrev either : Facts
  either r fact = f r fact || g r fact

  either-below : (t : ℕ) → AllTrueBelow spec f t → AllTrueBelow spec g t → AllTrueBelow spec either t
  either-below t a b r fact lt e = ⊎_elim (λ h. a r fact lt h) (λ h. b r fact lt h) (or-cases (f r fact) (g r fact) e)

  either-left : (t : ℕ) → IsLeast spec f (Some t) → AllTrueBelow spec g t → IsLeast spec either (Some t)
  either-left t a b = ((a.0.0, or-left (f t a.0.0) (g t a.0.0) a.0.1, a.0.2), either-below t a.1 b)

  either-right : (t : ℕ) → AllTrueBelow spec f t → IsLeast spec g (Some t) → IsLeast spec either (Some t)
  either-right t a b = ((b.0.0, or_true_right (f t b.0.0) (g t b.0.0) b.0.1, b.0.2), either-below t a b.1)

  two-false : (r s : ℕ) → IsLeast spec f (Some r) → IsLeast spec g (Some s) → (s < r) ⊎ (r ≤ s) → IsLeast spec either (Some (min r s))
  two-false r s a b (inl lt) =
      let here : s ≡ min r s = omega (arith, lt) in
      subst (λ t. IsLeast spec either (Some t)) here (either-right s (λ m fact low h. a.1 m fact (omega (arith, low, lt)) h) b)
  two-false r s a b (inr le) =
      let here : r ≡ min r s = omega (arith, le) in
      subst (λ t. IsLeast spec either (Some t)) here (either-left r a (λ m fact low h. b.1 m fact (omega (arith, low, le)) h))

  pub both-finding : (a b : Finding) → IsFinding spec f a → IsFinding spec g b → IsFinding spec either (both a b)
  both-finding NoMemory b p q = tt
  both-finding EachTrue NoMemory p q = tt
  both-finding EachTrue EachTrue p q = λ r fact e. ⊎_elim (λ h. p r fact h) (λ h. q r fact h) (or-cases (f r fact) (g r fact) e)
  both-finding EachTrue (False s) p q = either-right s (λ m fact low h. p m fact h) q
  both-finding (False r) NoMemory p q = tt
  both-finding (False r) EachTrue p q = either-left r p (λ m fact low h. q m fact h)
  both-finding (False r) (False s) p q = two-false r s p q (cases_lt s r)

-- ---- all pieces

pub pieces-finding : (spec : Spec) (table : Table) (before : Facts) (so_far : Finding) (pieces : List (List Run)) (findings : List Finding)
    → AllZip (λ piece finding. IsFinding spec (said table piece) finding) pieces findings → IsFinding spec before so_far
    → IsFinding spec (λ r fact. before r fact || said table (runs_of pieces) r fact) (all_of so_far findings)
pieces-finding spec table before so_far [] [] each is =
    finding-same spec before (λ r fact. before r fact || false) so_far (λ r fact. sym (or-false (before r fact))) is
pieces-finding spec table before so_far [] (x ∷ xs) each is = absurd each
pieces-finding spec table before so_far (p ∷ ps) [] each is = absurd each
pieces-finding spec table before so_far (p ∷ ps) (x ∷ xs) each is =
    finding-same spec (λ r fact. (before r fact || said table p r fact) || said table (runs_of ps) r fact)
    (λ r fact. before r fact || said table (p ++ runs_of ps) r fact) (all_of (both so_far x) xs)
    (λ r fact. or_assoc (before r fact) (said table p r fact) (said table (runs_of ps) r fact)
    ∙ ap (λ b. before r fact || b) (sym (list_any-append (has table (r, fact)) p (runs_of ps))))
    (pieces-finding spec table (λ r fact. before r fact || said table p r fact) (both so_far x) ps xs each.1
    (both-finding spec before (said table p) so_far x is each.0))

pub all-finding : (spec : Spec) (table : Table) (pieces : List (List Run)) (findings : List Finding)
    → AllZip (λ piece finding. IsFinding spec (said table piece) finding) pieces findings
    → IsFinding spec (said table (runs_of pieces)) (all_of EachTrue findings)
all-finding spec table pieces findings each =
    pieces-finding spec table (λ r fact. false) EachTrue pieces findings each (λ r fact e. absurd (false≢true e))

-- ---- runs that are sound

sound-parts : (n : ℕ) (xs ys : List Run) → AllSound n (xs ++ ys) → AllSound n xs × AllSound n ys
sound-parts n [] ys a = (tt, a)
sound-parts n (x ∷ xs) ys a = (let rest = sound-parts n xs ys a.1 in ((a.0, rest.0), rest.1))

pub sound-pieces : (n : ℕ) (pieces : List (List Run)) → AllSound n (runs_of pieces) → All (AllSound n) pieces
sound-pieces n [] a = All-nil (AllSound n)
sound-pieces n (p ∷ ps) a = (let parts = sound-parts n p (runs_of ps) a in All-cons (AllSound n) p ps parts.0 (sound-pieces n ps parts.1))
