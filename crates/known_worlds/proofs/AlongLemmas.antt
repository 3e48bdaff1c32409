-- Worlds along a line.
use Rattle.std.proofs.Common.{◌≡◌, ◌<◌, ◌∙◌, refl, sym, ap, subst, arith, ℕ, zero, suc, false, List, [], ◌∷◌, ◌++◌, length, get_or, take}
use Rattle.bound_specs.specs.Spec.{Step}
use Rattle.machine_model.specs.World.{World, send, send_all}
use Rattle.known_worlds.specs.Paths.{first_world}
use Rattle.known_worlds.specs.Known.{KnownRunning}
use Rattle.known_worlds.specs.Paths.{worlds_before, IsAlong}

-- one step more
sent-last : (steps : List Step) (w : World) (ks : List ℕ) (k : ℕ) → send_all steps w (ks ++ k ∷ []) ≡ send steps (send_all steps w ks) k
sent-last steps w [] k = refl
sent-last steps w (j ∷ ks) k = sent-last steps (send steps w j) ks k

before-last : (steps : List Step) (ws : List World) (w : World) (ks : List ℕ) (k : ℕ)
    → worlds_before steps ws w (ks ++ k ∷ []) ≡ send_all steps w ks ∷ worlds_before steps ws w ks
before-last steps ws w [] k = refl
before-last steps ws w (j ∷ ks) k = before-last steps (w ∷ ws) (send steps w j) ks k

-- a mark is set and a step sent
pub goes-on : (ks : List ℕ) (k : ℕ) (x y : KnownRunning) → IsAlong ks x → y.file ≡ x.file → y.spent ≡ false → y.world ≡ send x.file.run.steps x.world k
    → y.marked ≡ x.world ∷ x.marked → IsAlong (ks ++ k ∷ []) y
goes-on ks k x y along file whole sent marked =
    let steps = x.file.run.steps in
    let first = first_world x.file.run in
    record {
      whole = whole;
      now = sent ∙ ap (λ w. send steps w k) along.now ∙ sym (sent-last steps first ks k)
          ∙ (λ i. send_all (sym file i).run.steps (first_world (sym file i).run) (ks ++ k ∷ []));
      marked = marked ∙ (λ i. along.now i ∷ along.marked i) ∙ sym (before-last steps [] first ks k)
          ∙ (λ i. worlds_before (sym file i).run.steps [] (first_world (sym file i).run) (ks ++ k ∷ []));
    }

-- and gone back from
pub goes-back : (ks : List ℕ) (k : ℕ) (x y : KnownRunning) → IsAlong (ks ++ k ∷ []) x → y.file ≡ x.file → y.spent ≡ false
    → x.marked ≡ y.world ∷ y.marked → IsAlong ks y
goes-back ks k x y along file whole marked =
    let steps = x.file.run.steps in
    let first = first_world x.file.run in
    let both : y.world ∷ y.marked ≡ send_all steps first ks ∷ worlds_before steps [] first ks = sym marked ∙ along.marked ∙ before-last steps [] first ks k in
    let here : y.world ≡ send_all steps first ks = cc in
    let before : y.marked ≡ worlds_before steps [] first ks = cc in
    record {
      whole = whole;
      now = here ∙ (λ i. send_all (sym file i).run.steps (first_world (sym file i).run) ks);
      marked = before ∙ (λ i. worlds_before (sym file i).run.steps [] (first_world (sym file i).run) ks);
    }

-- where a step was sent a mark stands
pub some-mark : (ks : List ℕ) (k : ℕ) (x : KnownRunning) → IsAlong (ks ++ k ∷ []) x → 0 < length x.marked
some-mark ks k x along = subst (λ ws. 0 < length ws) (sym (along.marked ∙ before-last x.file.run.steps [] (first_world x.file.run) ks k)) (omega arith)

pub take-last : (ks : List ℕ) (n d : ℕ) → n < length ks → take (suc n) ks ≡ take n ks ++ get_or ks n d ∷ []
take-last [] n d lt = absurd (omega (arith, lt))
take-last (k ∷ ks) zero d lt = refl
take-last (k ∷ ks) (suc n) d lt = ap (λ js. k ∷ js) (take-last ks n d (omega (arith, lt)))
