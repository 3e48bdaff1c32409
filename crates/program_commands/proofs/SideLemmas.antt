-- What is found of specs, in their order.
use Rattle.std.proofs.Common.{sym, subst, arith, cond, ℕ, ◌+◌, ◌<◌, ◌++◌, Bool, true, false, All, List, [], ◌∷◌, length, get_or, take, Option}
use Rattle.std.specs.List.{AllZip}
use Rattle.std.proofs.Math.Seq.{get_or-append_seam}
use Rattle.std.proofs.lemmas.List.{take_more, map-append, length-append, get_or_append_left}
use Rattle.std.proofs.lemmas.List.Elements.{All-push}
use Rattle.accepted_outputs.proofs.Places.{zip-push}
use Rattle.bound_statements.specs.declared.statement.Level.{Level}
use Rattle.book_commands.specs.Joining.{Files}
use Rattle.program_commands.specs.declared.one_spec.Found.{Found}
use Rattle.program_commands.specs.Testing.{IsFoundOf}
use Rattle.program_commands.specs.SideBySide.{findings_in}

-- ---- lists of which each item has a property

pub all-front : {A : Type 0} (P : A → Type 0) (xs ys : List A) → All P (xs ++ ys) → All P xs
all-front P xs ys all = λ k d lt. subst P (get_or_append_left xs ys d k lt) (all k d (omega (arith, length-append xs ys, lt)))

pub all-last : {A : Type 0} (P : A → Type 0) (xs : List A) (x : A) → All P (xs ++ x ∷ []) → P x
all-last P xs x all = subst P (get_or-append_seam xs x [] x) (all (length xs) x (omega (arith, length-append xs (x ∷ []))))

-- one more, where there is room for it
pub all-more : {A : Type 0} (P : A → Type 0) (fits : Bool) (xs : List A) (x : A) → All P xs → P x → All P (cond fits (xs ++ x ∷ []) xs)
all-more P true xs x all p = All-push P xs x all p
all-more P false xs x all p = all

-- ---- specs in their order

-- one spec more
pub in-order-next : (files : Files) (level : Option Level) (updates : Bool) (specs : List (List ℕ)) (place : ℕ) (found : List Found) (next : Found) → place < length specs
    → AllZip (IsFoundOf files level updates) (take place specs) (findings_in found) → IsFoundOf files level updates (get_or specs place []) next.finding
    → AllZip (IsFoundOf files level updates) (take (place + 1) specs) (findings_in (found ++ next ∷ []))
in-order-next files level updates specs place found next lt before here =
    subst (λ front. AllZip (IsFoundOf files level updates) front (findings_in (found ++ next ∷ []))) (sym (take_more specs place [] lt))
    (subst (AllZip (IsFoundOf files level updates) (take place specs ++ get_or specs place [] ∷ [])) (sym (map-append (λ (f : Found). f.finding) found (next ∷ [])))
    (zip-push (IsFoundOf files level updates) (take place specs) (findings_in found) (get_or specs place []) next.finding before here))
