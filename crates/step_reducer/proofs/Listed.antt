-- Lists of answers, one for each letter.
use Rattle.std.proofs.Common.{◌≡◌, sym, ap, ◌∙◌, ℕ, ◌+◌, ◌<◌, ◌≤◌, Bool, true, false, ◌&&◌, List, [], ◌∷◌, ◌++◌, length, get_or, ◌⊎◌, ⊎_elim, arith, lt-ltb}
use Rattle.std.proofs.Common.{le-ltb}
use Rattle.std.proofs.Math.ListN.{get_or-append}
use Rattle.std.proofs.Math.Seq.{get_or-append_seam}
use Rattle.std.proofs.lemmas.List.{get_or_past}
use Rattle.bound_specs.specs.Spec.{Step, no_step}
use Rattle.machine_model.specs.World.{World}
use Rattle.rank_facts.specs.Quiet.{is_quiet}
use Rattle.rank_facts.specs.Swap.{quiet_heads}
use Rattle.session_machine.specs.Running.{Running}
use Rattle.known_worlds.specs.Known.{KnownRunning, is_quiet_in as is_known_quiet}
use Rattle.step_reducer.specs.Pairs.{is_quiet_in}
use Rattle.step_reducer.specs.Reduced.{is_pair}

pub listed-push : (xs : List Bool) (n : ℕ) (r : Bool) (f : ℕ → Bool) → length xs ≡ n → ((b : ℕ) → b < n → get_or xs b false ≡ f b) → r ≡ f n → (b : ℕ)
    → b < n + 1 → get_or (xs ++ r ∷ []) b false ≡ f b
listed-push xs n r f len below here b lt = ⊎_elim first last cases
  where
    cases : (b < n) ⊎ (b ≡ n)
    cases = grind arith

    first : b < n → get_or (xs ++ r ∷ []) b false ≡ f b
    first h = get_or-append xs (r ∷ []) false b (omega arith) ∙ below b h

    last : b ≡ n → get_or (xs ++ r ∷ []) b false ≡ f b
    last e = (let same : b ≡ length xs = omega arith in ap (λ k. get_or (xs ++ r ∷ []) k false) same ∙ get_or-append_seam xs r [] false ∙ here ∙ ap f (sym e))

pub listed-all : (xs : List Bool) (n : ℕ) (steps : List Step) (w : World) (rest : List (List ℕ)) (letter : ℕ) → length xs ≡ n → letter ≤ n → n ≤ letter
    → ((b : ℕ) → b < n → get_or xs b false ≡ quiet_heads steps w (get_or rest letter []) (get_or rest b []))
    → (b : ℕ) → get_or xs b false ≡ is_pair true steps w rest letter b
listed-all xs n steps w rest letter len le ge below b = ⊎_elim first last cases
  where
    cases : (b < letter) ⊎ (letter ≤ b)
    cases = grind arith

    first : b < letter → get_or xs b false ≡ is_pair true steps w rest letter b
    first h = below b (omega arith) ∙ sym (ap (λ t. t && quiet_heads steps w (get_or rest letter []) (get_or rest b [])) (lt-ltb b letter h))

    last : letter ≤ b → get_or xs b false ≡ is_pair true steps w rest letter b
    last h = get_or_past xs b false (omega arith) ∙ sym (ap (λ t. t && quiet_heads steps w (get_or rest letter []) (get_or rest b [])) (le-ltb b letter h))

-- in a world that is not spent
unspent : (spent answer : Bool) → spent ≡ false → (let x : Bool = elim spent [ true ↦ false | false ↦ answer ] in x) ≡ answer
unspent spent answer e = ap (λ s. (let x : Bool = elim s [ true ↦ false | false ↦ answer ] in x)) e

pub quiet-whole : (r : Running) (a b : ℕ) → r.spent ≡ false
    → is_quiet_in r a b ≡ is_quiet r.world (get_or r.file.run.steps a no_step) (get_or r.file.run.steps b no_step)
quiet-whole r a b e = unspent r.spent (is_quiet r.world (get_or r.file.run.steps a no_step) (get_or r.file.run.steps b no_step)) e

pub quiet-unspent : (r : KnownRunning) (a b : ℕ) → r.spent ≡ false
    → is_known_quiet r a b ≡ is_quiet r.world (get_or r.file.run.steps a no_step) (get_or r.file.run.steps b no_step)
quiet-unspent r a b e = unspent r.spent (is_quiet r.world (get_or r.file.run.steps a no_step) (get_or r.file.run.steps b no_step)) e
