-- A stage on which one session is changed.
use Rattle.std.specs.Result.{OnOk}
use Rattle.std.specs.Prelude.{Result, Ok, Err}
use Rattle.std.proofs.Common.{◌≡◌, ◌<◌, ◌∙◌, ap, ℕ, List, length, get_or, set}
use Rattle.lock_queues.specs.LockTable.{Locks}
use Rattle.row_tables.specs.Layers.{Layers}
use Rattle.session_steps.specs.Stage.{Member, Staged, no_member, others}
use Rattle.session_steps.proofs.Acted.{others-still}
use Rattle.session_steps.proofs.Stages.{get_or-any}
use Rattle.marked_worlds.specs.Stages.{staged_of}

-- the others stay, and what is left of its step
pub others-acts : {X Y : Type 0} (r : Result X Y) (i : ℕ) (seen : Staged) (l : Layers) (t : Locks) (ms left : List Member) (m : Member) → ms ≡ seen.members
    → i < length seen.members → m.rest ≡ (get_or ms i no_member).rest → OnOk r (left ≡ set ms i m) → OnOk r (others i (staged_of l t left) ≡ others i seen)
others-acts (Ok x) i seen l t ms left m same lt rest put =
    ap (λ ns. others i (staged_of l t ns)) (put ∙ ap (λ ns. set ns i m) same)
    ∙ others-still i seen (get_or seen.members i no_member) m lt (get_or-any seen.members i no_member (get_or seen.members i no_member) lt)
    (rest ∙ ap (λ (ns : List Member). (get_or ns i no_member).rest) same)
others-acts (Err y) i seen l t ms left m same lt rest put = tt
