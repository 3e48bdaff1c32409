-- What is found of specs, one by itself and spec by spec.
use Rattle.std.proofs.Common.{◌≡◌, ◌≢◌, ◌⊎◌, ◌∙◌, refl, sym, ap, subst, inl, inr, ⊎_elim, ℕ, ◌+◌, ◌-◌, ◌<◌, ◌≤◌, ◌++◌, Bool, true, false, List, [], ◌∷◌, length, get_or, map, take, drop, arith, Option, None, Some, IfSome}
use Rattle.std.specs.List.{AllZip, take-map, drop-map}
use Rattle.std.proofs.Math.Seq.{take-add}
use Rattle.std.proofs.lemmas.List.{take_more, take_all}
use Rattle.accepted_outputs.proofs.Places.{zip-push}
use Rattle.bound_statements.specs.declared.statement.Level.{Level}
use Rattle.book_commands.specs.declared.finding.Finding.{Finding}
use Rattle.book_commands.specs.declared.finding.Finding.TheVariants.{Good, Bad, Refused, NoMemory, Unread}
use Rattle.book_commands.specs.Joining.{Files}
use Rattle.spec_reader.specs.declared.error.Kind.{Kind as SpecErrorKind}
use Rattle.spec_reader.specs.declared.error.Kind.TheVariants as spec_kind
use Rattle.binding_model.specs.declared.error.BindErrorKind.{BindErrorKind}
use Rattle.binding_model.specs.declared.error.BindErrorKind.TheVariants as bind_kind
use Rattle.session_steps.specs.declared.error.StartError.TheVariants as start_error
use Rattle.session_machine.specs.declared.error.RunError.TheVariants as run_error
use Rattle.spec_binding.specs.declared.spec.SpecFault.TheVariants as spec_fault
use Rattle.spec_levels.specs.declared.asking.LevelFaultKind.{LevelFaultKind}
use Rattle.spec_levels.specs.declared.asking.LevelFaultKind.TheVariants as level_fault
use Rattle.asked_classes.specs.declared.fault.AskedFault.TheVariants as asked_fault
use Rattle.fault_texts.specs.declared.fault.ProgramFault.{ProgramFault}
use Rattle.fault_texts.specs.declared.fault.ProgramFault.TheVariants as fault
use Rattle.class_commands.specs.declared.classing.ClassesFault.{ClassesFault}
use Rattle.class_commands.specs.declared.classing.ClassesFault.TheVariants as classes
use Rattle.test_commands.specs.declared.testing.Tested.{Tested}
use Rattle.test_commands.specs.declared.testing.Verdict.{Verdict}
use Rattle.test_commands.specs.declared.testing.Verdict.TheVariants.{Same, Other, Missing}
use Rattle.test_commands.specs.declared.testing.TestFault.{TestFault}
use Rattle.test_commands.specs.declared.testing.TestFault.TheVariants as test
use Rattle.test_commands.specs.Testing.{IsTested, IsNotTested, IsVerdict}
use Rattle.program_commands.specs.Commands.{IsReadFault}
use Rattle.program_commands.specs.Faults.{Path, text_told, binding_told, level_told, spec_told, start_told, run_told, classing_told}
use Rattle.program_commands.specs.Testing.{IsSpecAt, IsFoundOf, IsWorstOf, worse, worst_with, fault_found, testing_told}

worst-more : (w : Finding) (fs : List Finding) (f : Finding) → worst_with w (fs ++ f ∷ []) ≡ worse (worst_with w fs) f
worst-more w [] f = refl
worst-more w (g ∷ fs) f = worst-more (worse w g) fs f

pub worst-start : (files : Files) (level : Option Level) (updates : Bool) → IsWorstOf files level updates [] Good
worst-start files level updates = record { findings = []; each = tt; is_worst = refl }

worst-append : (w : Finding) (fs gs : List Finding) → worst_with w (fs ++ gs) ≡ worst_with (worst_with w fs) gs
worst-append w [] gs = refl
worst-append w (f ∷ fs) gs = worst-append (worse w f) fs gs

zip-append : {A B : Type 0} (R : A → B → Type 0) (xs : List A) (ys : List B) (zs : List A) (ws : List B) → AllZip R xs ys → AllZip R zs ws
    → AllZip R (xs ++ zs) (ys ++ ws)
zip-append R [] [] zs ws h k = k
zip-append R [] (y ∷ ys) zs ws h k = absurd h
zip-append R (x ∷ xs) [] zs ws h k = absurd h
zip-append R (x ∷ xs) (y ∷ ys) zs ws h k = (h.0, zip-append R xs ys zs ws h.1 k)

-- some specs more
pub worst-with-more : (files : Files) (level : Option Level) (updates : Bool) (specs more : List (List ℕ)) (w : Finding) (found : List Finding) → IsWorstOf files level updates specs w
    → AllZip (IsFoundOf files level updates) more found → IsWorstOf files level updates (specs ++ more) (worst_with w found)
worst-with-more files level updates specs more w found before h = record {
  findings = before.findings ++ found;
  each = zip-append (IsFoundOf files level updates) specs before.findings more found before.each h;
  is_worst = ap (λ x. worst_with x found) before.is_worst ∙ sym (worst-append Good before.findings found);
}

-- what a list has before a place, and from there to the next
pub some-more : {A B : Type 0} (f : A → B) (xs : List A) (place next : ℕ) → place ≤ next
    → take place (map f xs) ++ map f (take (next - place) (drop place xs)) ≡ take next (map f xs)
some-more f xs place next le =
    let rest = sym (ap (take (next - place)) (drop-map f place xs) ∙ take-map f (next - place) (drop place xs)) in
    let whole : place + (next - place) ≡ next = omega (arith, le) in
    ap (λ more. take place (map f xs) ++ more) rest ∙ sym (take-add place (next - place) (map f xs)) ∙ ap (λ n. take n (map f xs)) whole

-- one finding more
pub worst-next : (w : Finding) (found : List Finding) (place : ℕ) (next : Finding) → place < length found → get_or found place next ≡ next
    → worst_with w (take (place + 1) found) ≡ worse (worst_with w (take place found)) next
worst-next w found place next lt is =
    ap (worst_with w) (take_more found place next lt ∙ ap (λ f. take place found ++ f ∷ []) is) ∙ worst-more w (take place found) next

pub worst-all : (files : Files) (level : Option Level) (updates : Bool) (specs : List (List ℕ)) (place : ℕ) (a : Finding) → length specs ≤ place
    → IsWorstOf files level updates (take place specs) a → IsWorstOf files level updates specs a
worst-all files level updates specs place a le w = subst (λ front. IsWorstOf files level updates front a) (take_all place specs le) w

-- ---- a spec that is tested

-- it is another text
abbrev pub IsOther : Verdict → Type 0
IsOther Same = ⊥
IsOther (Other text) = Unit {0}
IsOther Missing = ⊥

any-known : {A : Type 0} (known : Option A) → IfSome known (λ all. Unit {0})
any-known None = tt
any-known (Some all) = tt

-- what is found of it by what its accepted text is
module _ (files : Files) (level : Option Level) (path bytes name accepted : List ℕ) (at : IsSpecAt files path bytes name accepted) (t : Tested)
    (tested : IsTested (files accepted) level bytes name t) where
  verdict : (v : Verdict) → t.verdict ≡ v → IsVerdict (files accepted) t.text.items v
  verdict v e = subst (IsVerdict (files accepted) t.text.items) e tested.verdict

  pub same-good : t.verdict ≡ Same → IsFoundOf files level false path Good
  same-good e = (bytes, name, accepted, t.text.items, at, tested.text, verdict Same e)

  pub other-bad : (v : Verdict) → t.verdict ≡ v → IsOther v → IsFoundOf files level false path Bad
  other-bad Same e is = absurd is
  other-bad (Other text) e is = (refl, (bytes, name, accepted, t.text.items, at, tested.text, verdict (Other text) e))
  other-bad Missing e is = absurd is

  pub missing-bad : t.verdict ≡ Missing → IsFoundOf files level false path Bad
  missing-bad e =
      (refl, (bytes, name, accepted, t.text.items, at, tested.text, subst (λ k. IfSome k (λ all. all ≢ t.text.items)) (sym (verdict Missing e)) tt))

  -- its accepted text is written, or is the same
  pub updated-good : IsFoundOf files level true path Good
  updated-good = (bytes, name, accepted, t.text.items, at, tested.text, any-known (files accepted))

-- ---- a spec that is not tested

never-good : (f : ProgramFault) → fault_found f ≡ Good → ⊥
never-good fault.NoMemory e = (let h = e in cc)
never-good (fault.Read path) e = (let h = e in cc)
never-good fault.Write e = (let h = e in cc)
never-good other e = (let h = e in cc)

never-bad : (f : ProgramFault) → fault_found f ≡ Bad → ⊥
never-bad fault.NoMemory e = (let h = e in cc)
never-bad (fault.Read path) e = (let h = e in cc)
never-bad fault.Write e = (let h = e in cc)
never-bad other e = (let h = e in cc)

text-read : (at : Path) (offset : ℕ) (kind : SpecErrorKind) → fault_found (text_told at offset kind) ≡ Unread → ⊥
text-read at offset spec_kind.NoMemory e = (let k = e in cc)
text-read at offset other e = (let k = e in cc)

binding-read : (at : Path) (offset : ℕ) (kind : BindErrorKind) → fault_found (binding_told at offset kind) ≡ Unread → ⊥
binding-read at offset bind_kind.NoMemory e = (let k = e in cc)
binding-read at offset (bind_kind.Sql kind) e = (let k = e in cc)
binding-read at offset other e = (let k = e in cc)

level-read : (at : Path) (line : ℕ) (kind : LevelFaultKind) → fault_found (level_told at line kind) ≡ Unread → ⊥
level-read at line level_fault.NoSuchLevel e = (let k = e in cc)
level-read at line level_fault.SecondLevel e = (let k = e in cc)
level-read at line level_fault.NotModelled e = (let k = e in cc)

-- what the classes of a spec are refused for is no file that is not read
never-unread : (known : Option (List ℕ)) (level : Option Level) (bytes name : List ℕ) (f : ClassesFault) → IsNotTested known level bytes name (test.Classes f) → (at : Path)
    → fault_found (classing_told at f) ≡ Unread → ⊥
never-unread known level bytes name (classes.Spec (spec_fault.Text error)) h at e = text-read at error.offset error.kind e
never-unread known level bytes name (classes.Spec (spec_fault.Binding error)) h at e = binding-read at error.offset error.kind e
never-unread known level bytes name (classes.Level error) h at e = level-read at error.line error.kind e
never-unread known level bytes name (classes.Asked asked_fault.NoMemory) h at e = (let k = e in cc)
never-unread known level bytes name (classes.Asked other) h at e = absurd h
never-unread known level bytes name (classes.Run (run_error.Start (start_error.NoMemory))) h at e = (let k = e in cc)
never-unread known level bytes name (classes.Run (run_error.Start other)) h at e = (let k = e in cc)
never-unread known level bytes name (classes.Run other) h at e = (let k = e in cc)
never-unread known level bytes name (classes.TooMany noted) h at e = (let k = e in cc)
never-unread known level bytes name classes.NoMemory h at e = absurd h
never-unread known level bytes name (classes.Write error) h at e = absurd h

-- what a fault ends as, where there is memory to tell it
abbrev pub EndsAs : ProgramFault → Finding → Type 0
EndsAs fault finding = (finding ≡ fault_found fault) ⊎ (finding ≡ NoMemory)

ended : (f : ProgramFault) (finding : Finding) → EndsAs f finding → finding ≢ NoMemory → fault_found f ≡ finding
ended f finding (inl e) apart = sym e
ended f finding (inr e) apart = absurd (apart e)

pub refused-found : (files : Files) (level : Option Level) (updates : Bool) (path bytes name accepted : List ℕ) → IsSpecAt files path bytes name accepted
    → (f : TestFault) → IsNotTested (files accepted) level bytes name f → (at beside : Path) → (finding : Finding) → EndsAs (testing_told at beside f) finding
    → IsFoundOf files level updates path finding
refused-found files level updates path bytes name accepted here f h at beside Good ends =
    absurd (never-good (testing_told at beside f) (ended (testing_told at beside f) Good ends (λ e. (let k = e in cc))))
refused-found files level updates path bytes name accepted here f h at beside Bad ends =
    absurd (never-bad (testing_told at beside f) (ended (testing_told at beside f) Bad ends (λ e. (let k = e in cc))))
refused-found files level updates path bytes name accepted here f h at beside NoMemory ends = tt
refused-found files level updates path bytes name accepted here (test.Classes f) h at beside Refused ends =
    (bytes, name, accepted, here, (f, h, (at, ended (classing_told at f) Refused ends (λ e. (let k = e in cc)))))
refused-found files level updates path bytes name accepted here test.Accepted h at beside Refused ends =
    absurd (let e = ended (fault.Read beside) Refused ends (λ e. (let k = e in cc)) in cc)
refused-found files level updates path bytes name accepted here test.NoMemory h at beside Refused ends =
    absurd (let e = ended fault.NoMemory Refused ends (λ e. (let k = e in cc)) in cc)
refused-found files level updates path bytes name accepted here (test.Classes f) h at beside Unread ends =
    absurd (never-unread (files accepted) level bytes name f h at (ended (classing_told at f) Unread ends (λ e. (let k = e in cc))))
refused-found files level updates path bytes name accepted here test.Accepted h at beside Unread ends = inr (inl (accepted, here.beside, h))
refused-found files level updates path bytes name accepted here test.NoMemory h at beside Unread ends =
    absurd (let e = ended fault.NoMemory Unread ends (λ e. (let k = e in cc)) in cc)

-- a spec file that is not read
pub unread-found : (files : Files) (level : Option Level) (updates : Bool) (path : List ℕ) (f : ProgramFault) → IsReadFault (files path) path f → (finding : Finding) → EndsAs f finding
    → IsFoundOf files level updates path finding
unread-found files level updates path f h Good ends = absurd (never-good f (ended f Good ends (λ e. (let k = e in cc))))
unread-found files level updates path f h Bad ends = absurd (never-bad f (ended f Bad ends (λ e. (let k = e in cc))))
unread-found files level updates path f h NoMemory ends = tt
unread-found files level updates path fault.NoMemory h Refused ends = absurd (let e = ended fault.NoMemory Refused ends (λ e. (let k = e in cc)) in cc)
unread-found files level updates path (fault.Read told) h Refused ends = absurd (let e = ended (fault.Read told) Refused ends (λ e. (let k = e in cc)) in cc)
unread-found files level updates path other h Refused ends = absurd h
unread-found files level updates path fault.NoMemory h Unread ends = absurd (let e = ended fault.NoMemory Unread ends (λ e. (let k = e in cc)) in cc)
unread-found files level updates path (fault.Read told) h Unread ends = inl h.1
unread-found files level updates path other h Unread ends = absurd h
