-- A machine along its path.
use Rattle.std.proofs.Common.{◌≡◌, ◌≢◌, ◌≤◌, ◌&&◌, not, ne_eqb, ◌<◌, ◌+◌, ◌∙◌, sym, ap, arith, ℕ, Bool, true, false, List, [], ◌∷◌, ◌++◌, length, get_or, take}
use Rattle.std.proofs.lemmas.List.{length-append, take_more, take_all}
use Rattle.bound_specs.specs.Spec.{SpecFile}
use Rattle.marked_worlds.specs.Worlds.{MarkedRunning}
use Rattle.known_worlds.specs.declared.moves.Move.{Move}
use Rattle.known_worlds.specs.declared.follower.Follower.{Follower}
use Rattle.known_worlds.specs.Moves.{first_world, world_after, world_behind, marked_after, marked_behind, IsNewestMark}
use Rattle.known_worlds.specs.Following.{aside, is_level, led, root, Follows}
use Rattle.known_worlds.proofs.MoveLemmas.{world-last, marked-last}

abbrev pub at : MarkedRunning → ℕ → Bool → Follower
at m n rooted = record { machine = m; made = n; is_rooted = rooted }

module _ (file : SpecFile) (path : List Move) where
  -- a move is made
  pub one-made : (x y : MarkedRunning) (n : ℕ) (rooted : Bool) (m d : Move) → Follows file path (at x n rooted) → x.spent ≡ false → rooted ≡ true → n < length path
      → m ≡ get_or path n d → y.file ≡ x.file → y.world ≡ world_after x.file.run.steps x.world m → y.marked ≡ marked_after x.world x.marked m
      → Follows file path (at y (n + 1) rooted)
  one-made x y n rooted m d f whole is_rooted lt is file_is world_is marked_is =
      let steps = file.run.steps in
      let first = first_world file.run in
      let ws = root rooted first in
      let next : take (n + 1) path ≡ take n path ++ m ∷ [] = take_more path n d lt ∙ ap (λ k. take n path ++ k ∷ []) (sym is) in
      record {
        of_spec = file_is ∙ f.of_spec;
        few = omega (arith, lt);
        world = λ e. world_is ∙ (λ i. world_after (f.of_spec i).run.steps (f.world whole i) m) ∙ sym (world-last steps first (take n path) m)
            ∙ ap (world_behind steps first) (sym next);
        marked = marked_is ∙ (λ i. marked_after (f.world whole i) (f.marked i) m) ∙ sym (marked-last steps first ws (take n path) m)
            ∙ ap (marked_behind steps first ws) (sym next);
        bare = λ e. absurd (cc);
        whole = λ e. absurd (cc);
      }

-- what is the same but for where machines stand
pub same-file : (x y : MarkedRunning) → aside y ≡ aside x → y.file ≡ x.file
same-file x y same = ap (λ (m : MarkedRunning). m.file) same

-- ---- the world behind the path

pub led-moved : (x : MarkedRunning) (old new : Bool) (path : List Move) (m : Move) → led x new (path ++ m ∷ []) ≡ record (led x old path) {
  world = world_after x.file.run.steps (led x old path).world m;
  marked = marked_after (led x old path).world (led x old path).marked m;
  level = new;
}
led-moved x old new path m =
    let steps = x.file.run.steps in
    let first = first_world x.file.run in
    λ i. record (led x new path) { world = world-last steps first path m i; marked = marked-last steps first [] path m i }

pub led-back : (x y : MarkedRunning) (old new : Bool) (path : List Move) (place : ℕ) → aside y ≡ aside x → IsNewestMark path (length path) place
    → (led x old path).marked ≡ (led y new (take place path)).world ∷ (led y new (take place path)).marked
led-back x y old new path place same mark =
    let first = first_world x.file.run in
    ap (marked_behind x.file.run.steps first []) (sym (take_all (length path) path (omega arith)))
    ∙ mark.newest (length path) mark.before (omega arith) x.file.run.steps first []
    ∙ ap (λ (f : SpecFile). world_behind f.run.steps (first_world f.run) (take place path) ∷ marked_behind f.run.steps (first_world f.run) [] (take place path))
    (sym (same-file x y same))

-- where a move comes behind them, not all are made
pub not-level : (f : Follower) (path new : List Move) (m : Move) → f.made ≤ length path → new ≡ path ++ m ∷ [] → is_level f new ≡ false
not-level f path new m few is =
    let apart : f.made ≢ length new = λ same. omega (arith, few, same, ap (λ (ms : List Move). length ms) is, length-append path (m ∷ [])) in
    ap (λ b. b && not f.machine.spent) (ne_eqb f.made (length new) apart)
