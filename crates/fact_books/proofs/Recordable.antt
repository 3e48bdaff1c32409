-- What recorded facts tell is of the spec's sessions.
use Rattle.std.proofs.Common.{◌≡◌, ℕ, zero, suc, ◌<◌, List, [], ◌∷◌, length, get_or, Option, subst, refl, arith}
use Rattle.bound_specs.specs.Spec.{Spec, SpecFile, ranks}
use Rattle.bound_specs.specs.Binding.{IsFileOf}
use Rattle.spec_binding.proofs.FileLemmas.{file-is-ready}
use Rattle.machine_model.specs.Outcome.{IsOutcomeOf}
use Rattle.rank_facts.specs.declared.fact.Fact.TheVariants.{Ran}
use Rattle.rank_facts.specs.Values.{IsValue, ran, swap}
use Rattle.rank_facts.specs.Swap.{leads_in}
use Rattle.fact_books.specs.Entries.{Told, FactSet, recorded}
use Rattle.fact_books.specs.Books.{AllRecordable}
use Rattle.fact_books.specs.Values.{AreValues, HasFewSessions}

-- a value of recorded facts is one of the spec's sessions
pub value-own : (spec : Spec) (s : FactSet) (leads : ℕ → ℕ → Option ℕ) → AllRecordable spec s → (r : ℕ) (o : Told) → IsValue (recorded s) leads r o
    → IsOutcomeOf spec o
value-own spec s leads all r o (ran h) = (all r (Ran o) h).1
value-own spec s leads all r o (swap {below = below} h l v) = value-own spec s leads all below o v

-- an item is read alike, whatever would stand for one that is not there
pub whichever : {A : Type 0} (xs : List A) (n : ℕ) (c d : A) → n < length xs → get_or xs n c ≡ get_or xs n d
whichever [] n c d lt = absurd (omega (arith, lt))
whichever (x ∷ xs) zero c d lt = refl
whichever (x ∷ xs) (suc n) c d lt = whichever xs n c d (omega (arith, lt))

-- and the values of ranks have few sessions
pub few-told : (text : List ℕ) (file : SpecFile) (s : FactSet) → IsFileOf text file → AllRecordable file.run s → (values : List Told)
    → AreValues s (leads_in file.run) (ranks file.run) values → HasFewSessions values
few-told text file s is all values are r d lt =
    let count = are.count_is in
    let own = value-own file.run s (leads_in file.run) all r (get_or values r []) (are.each r (omega (arith, count, lt))).value in
    let each = own.each in
    let few = (file-is-ready text file is).few_sessions in
    let short : length (get_or values r []) < 256 = omega (arith, each, few) in
    subst (λ (o : Told). length o < 256) (whichever values r [] d lt) short
