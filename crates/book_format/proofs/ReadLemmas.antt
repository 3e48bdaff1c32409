-- First refusals: what passes them on, which are never a read fault, and what is read as outcomes.
use Rattle.std.proofs.Common.{◌≡◌, ◌≢◌, refl, sym, ap, subst, ◌∙◌, ◌-◌, List, [], ◌∷◌, ◌++◌, length, get_or, slice_get, All, Some, None}
use Rattle.std.proofs.Common.{Ok, Err, ◌⊎◌, inl, inr, arith}
use Rattle.std.proofs.lemmas.List.{length_push, get_or_push}
use Rattle.std.proofs.lemmas.List.Elements.{All-push}
use Rattle.std.proofs.lemmas.Option.{slice_get-get_or}
use Rattle.serde_json.specs.Data.{Data, Items, no_items, item}
use Rattle.transcripts.specs.Outcome.{OutcomeFits}
use Rattle.machine_model.specs.Outcome.{IsOutcomeOf}
use Rattle.bound_specs.specs.Spec.{Spec}
use Rattle.fact_books.specs.Entries.{Told}
use Rattle.fact_books.specs.Runs.{Table}
use Rattle.book_format.specs.declared.error.BookError.{BookError}
use Rattle.book_format.specs.declared.error.BookError.TheVariants.{BadField, OutOfOrder, NoMemory, ReadFault}
use Rattle.book_format.specs.Reading.{Read, Unless, Given, Then, Gives, Meets, last, IsNextOutcome, AreOutcomes}

-- ---- refusals that are passed on

-- what is refused first is refused then
pub then-err : {A X : Type 0} (P : Read A → Type 0) (Q : A → Read X → Type 0) (e : BookError) → P (Err e) ⊎ (e ≡ NoMemory) → Then P Q (Err e) ⊎ (e ≡ NoMemory)
then-err P Q e (inl p) = inl (inr (e, p, refl))
then-err P Q e (inr m) = inr m

-- what is refused behind what was read
pub then-more : {A X : Type 0} (P : Read A → Type 0) (Q : A → Read X → Type 0) (a : A) (e : BookError) → P (Ok a) → Q a (Err e) ⊎ (e ≡ NoMemory)
    → Then P Q (Err e) ⊎ (e ≡ NoMemory)
then-more P Q a e p (inl q) = inl (inl (a, p, q))
then-more P Q a e p (inr m) = inr m

-- an answer that meets what comes behind meets the whole
pub meets-map : {X Y : Type 0} (seen : X → Y) (P Q : Read Y → Type 0) (r : Read X) → ((s : Read Y) → P s → Q s) → Meets seen P r → Meets seen Q r
meets-map seen P Q (Ok x) f m = f (Ok (seen x)) m
meets-map seen P Q (Err e) f (inl p) = inl (f (Err e) p)
meets-map seen P Q (Err e) f (inr m) = inr m

-- ---- refusals that are no read fault

abbrev pub IsPlain : {X : Type 0} → (Read X → Type 0) → Type 0
IsPlain {X = X} P = (e : BookError) → P (Err e) → e ≢ ReadFault

pub same-error : {X : Type 0} (e f : BookError) → (let r : Read X = Err e in r) ≡ Err f → e ≡ f
same-error e f is = cc

pub plain-refusal : {X : Type 0} (f : BookError) → f ≢ ReadFault → IsPlain (λ (r : Read X). r ≡ Err f)
plain-refusal {X = X} f apart e is fault = apart (sym (same-error {X = X} e f is) ∙ fault)

pub plain-gives : {X : Type 0} (x : X) → IsPlain (Gives x)
plain-gives x e is = absurd (cc)

pub plain-unless : {X : Type 0} (P : Type 0) (f : BookError) (Q : Read X → Type 0) → f ≢ ReadFault → IsPlain Q → IsPlain (Unless P f Q)
plain-unless P f Q apart plain e (inl h) = plain e h.1
plain-unless P f Q apart plain e (inr h) = plain-refusal f apart e h.1

pub plain-given : {A X : Type 0} (f : BookError) (P : A → Type 0) (Q : A → Read X → Type 0) → f ≢ ReadFault → ((a : A) → IsPlain (Q a)) → IsPlain (Given f P Q)
plain-given f P Q apart plain e (inl h) = plain h.0 e h.2
plain-given f P Q apart plain e (inr h) = plain-refusal f apart e h.1

pub plain-then : {A X : Type 0} (P : Read A → Type 0) (Q : A → Read X → Type 0) → IsPlain P → ((a : A) → IsPlain (Q a)) → IsPlain (Then P Q)
plain-then P Q first plain e (inl h) = plain h.0 e h.2
plain-then {X = X} P Q first plain e (inr h) = λ fault. first h.0 h.1 (sym (same-error {X = X} e h.0 h.2) ∙ fault)

-- ---- what stands after the last

pub last-push : {X : Type 0} (xs : List X) (x : X) → last (xs ++ x ∷ []) ≡ Some x
last-push xs x =
    let long = length_push xs x in
    let at : length (xs ++ x ∷ []) - 1 ≡ length xs = omega (arith, long) in
    ap (slice_get (xs ++ x ∷ [])) at ∙ slice_get-get_or (xs ++ x ∷ []) (length xs) x (omega (arith, long)) ∙ ap Some (get_or_push xs x x (length xs) refl)

-- where there is no last one there is none
pub last-none : {X : Type 0} (xs : List X) → last xs ≡ None → xs ≡ []
last-none [] is = refl
last-none (x ∷ xs) is = absurd (let some = slice_get-get_or (x ∷ xs) (length (x ∷ xs) - 1) x (omega arith) in let f : None
    ≡ Some (get_or (x ∷ xs) (length (x ∷ xs) - 1) x) = sym is ∙ some in cc)

-- ---- outcomes

-- an outcome that a run of the spec may tell, whose numbers fit
abbrev pub IsToldBy : Spec → Told → Type 0
IsToldBy spec o = IsOutcomeOf spec o × OutcomeFits o

next-told : (spec : Spec) (before : Table) (d : Data) (o : Told) → IsNextOutcome spec before d (Ok o) → IsToldBy spec o
next-told spec before d o (inl (p, value, inl (after, is))) = let same : o ≡ p = cc in subst (IsToldBy spec) (sym same) (value.own, value.fits)
next-told spec before d o (inl (p, value, inr (not, is))) = absurd (cc)
next-told spec before d o (inr (none, is)) = absurd (cc)

-- what is read as outcomes may be told by runs of the spec
pub outcomes-told : (spec : Spec) (before : Table) (ds : Items) (t : Table) → All (IsToldBy spec) before → AreOutcomes spec before ds (Ok t)
    → All (IsToldBy spec) t
outcomes-told spec before no_items t all is = let same : t ≡ before = cc in subst (All (IsToldBy spec)) (sym same) all
outcomes-told spec before (item d ds) t all (inl (o, next, rest)) =
    outcomes-told spec (before ++ o ∷ []) ds t (All-push (IsToldBy spec) before o all (next-told spec before d o next)) rest
outcomes-told spec before (item d ds) t all (inr (e, refused, is)) = absurd (cc)

next-plain : (spec : Spec) (before : Table) (d : Data) → IsPlain (IsNextOutcome spec before d)
next-plain spec before d e (inl (p, value, inl (after, is))) = absurd (cc)
next-plain spec before d e (inl (p, value, inr (not, is))) = plain-refusal {X = Told} OutOfOrder (λ f. cc) e is
next-plain spec before d e (inr (none, is)) = plain-refusal {X = Told} BadField (λ f. cc) e is

pub outcomes-plain : (spec : Spec) (before : Table) (ds : Items) → IsPlain (AreOutcomes spec before ds)
outcomes-plain spec before no_items = plain-gives before
outcomes-plain spec before (item d ds) =
    plain-then (IsNextOutcome spec before d) (λ outcome. AreOutcomes spec (before ++ outcome ∷ []) ds) (next-plain spec before d)
    (λ o. outcomes-plain spec (before ++ o ∷ []) ds)
