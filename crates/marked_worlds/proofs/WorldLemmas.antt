-- Worlds at marks, and what the numbers of a spec tell of its setups.
use Rattle.std.specs.List.{Contains}
use Rattle.std.proofs.lemmas.List.Elements.{All-nil, All-cons, All-head, All-tail, Contains-append_left, Contains-append_right, Contains-get_or}
use Rattle.std.proofs.Common.{◌≡◌, ◌∙◌, refl, sym, subst, false, ℕ, zero, suc, List, [], ◌∷◌, get_or, map}
use Rattle.std.specs.Prelude.{All}
use Rattle.bound_statements.specs.declared.statement.Bound.{Bound}
use Rattle.bound_specs.specs.Spec.{Spec, SpecFile, Step}
use Rattle.lock_queues.specs.LockTable.{Locks}
use Rattle.row_tables.specs.Layers.{Layers}
use Rattle.machine_model.specs.World.{fresh, session_at}
use Rattle.session_steps.specs.State.{sessions_from}
use Rattle.numbered_specs.specs.Numbers.{asked_by, asked_in, blocks_of, IsNumbering, Numbers}
use Rattle.numbered_specs.proofs.AskedLemmas.{contains-given}
use Rattle.session_steps.specs.declared.point.Origin.TheVariants.{Setup}
use Rattle.session_steps.specs.Stage.{Member, Staged, member_at, no_member, own_of, world_in, IsSettled, KnowsAll, KnowsSetups}
use Rattle.session_steps.proofs.Standing.{length-world, sound-now, outcome-of}
use Rattle.marked_worlds.specs.Stages.{MarkedStages, IsKnown}
use Rattle.marked_worlds.specs.Worlds.{AreSettled, IsOfSpec}

-- ---- what setups ask for

asked-there : (spec : Spec) (numbers : Numbers) → IsNumbering spec numbers → (block : List Bound) → Contains (blocks_of spec) block
    → KnowsAll (IsKnown numbers Setup) block
asked-there spec numbers numbering block there j st lt r asked =
    (numbering.names.asked r).1
    (contains-given asked_in (blocks_of spec) block r there
    (contains-given asked_by block (get_or block j st) r (Contains-get_or block j st lt) asked))

-- each statement of a setup asks for resources with numbers
pub setups-known : (spec : Spec) (numbers : Numbers) → IsNumbering spec numbers → KnowsSetups (IsKnown numbers Setup) spec
setups-known spec numbers numbering = record {
  mains = λ k d lt. asked-there spec numbers numbering (get_or spec.setups k d) (Contains-append_left spec.setups _ _ (Contains-get_or spec.setups k d lt));
  own = λ k d lt. asked-there spec numbers numbering (get_or spec.session_setups k d)
      (Contains-append_right spec.setups _ _ (Contains-append_left spec.session_setups _ _ (Contains-get_or spec.session_setups k d lt)));
}

-- ---- sessions of a world

status-from : (l : Layers) (t : Locks) (steps : List Step) (k i : ℕ) (ms : List Member)
    → (get_or (sessions_from l t k (map (own_of steps) ms)) i fresh).status ≡ (get_or ms i no_member).state.status
status-from l t steps k i [] = refl
status-from l t steps k zero (m ∷ ms) = refl
status-from l t steps k (suc i) (m ∷ ms) = status-from l t steps (suc k) i ms

-- how a session stands to its block
pub status-now : (steps : List Step) (s : Staged) (i : ℕ) → (member_at s i).state.status ≡ (session_at (world_in steps s) i).status
status-now steps s i = sym (status-from s.store s.locks steps 0 i s.members)

-- ---- worlds between the steps

pub of-spec : (file : SpecFile) (s : Staged) → IsSettled file.run.sessions file.run.steps s → IsOfSpec file (world_in file.run.steps s)
of-spec file s settled = record {
  sound = sound-now file.run.sessions file.run.steps s settled;
  sessions = length-world file.run.steps s ∙ settled.count;
  own = outcome-of file.run s settled;
}

pub all-of-spec : (file : SpecFile) (marked : List Staged) → All (IsSettled file.run.sessions file.run.steps) marked
    → All (IsOfSpec file) (map (world_in file.run.steps) marked)
all-of-spec file [] all = All-nil (IsOfSpec file)
all-of-spec file (s ∷ marked) all =
    let steps = file.run.steps in
    All-cons (IsOfSpec file) (world_in steps s) (map (world_in steps) marked)
    (of-spec file s (All-head (IsSettled file.run.sessions steps) s marked all))
    (all-of-spec file marked (All-tail (IsSettled file.run.sessions steps) s marked all))

-- what stood at the newest mark is as it is between the steps
pub back-settled : (file : SpecFile) (old new : MarkedStages) (spent : _) → AreSettled file old spent → new.numbers ≡ old.numbers
    → old.marked ≡ new.now ∷ new.marked → AreSettled file new false
back-settled file old new spent kept numbers marked =
    let all = subst (All (IsSettled file.run.sessions file.run.steps)) marked kept.marked in
    record {
      numbering = subst (IsNumbering file.run) (sym numbers) kept.numbering;
      now = λ whole. All-head (IsSettled file.run.sessions file.run.steps) new.now new.marked all;
      marked = All-tail (IsSettled file.run.sessions file.run.steps) new.now new.marked all;
    }
