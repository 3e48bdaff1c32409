-- What a moment tells of another session's wait is exact in the world behind the moment.
use Rattle.std.proofs.Common.{◌≡◌, ◌≢◌, refl, ℕ, List, [], Option, Some, None}
use Rattle.lock_queues.specs.declared.reason.Edge.{Edge}
use Rattle.lock_queues.specs.Reasons.{Want, IsExact}
use Rattle.machine_model.specs.World.{World, look_of}
use Rattle.machine_model.specs.Sound.{Steady}
use Rattle.line_moments.specs.Laws.{StillWaitsAreExact}
use Rattle.line_moments.specs.Moments.{behind, edges_in, want_in}
use Rattle.line_moments.proofs.Behind.{moments-true}
use Rattle.line_moments.proofs.Changing.{still-exact}
use Rattle.line_moments.proofs.Waiting.{wants-exact}

-- edges are those of a want
edges-exact : (w : World) (c : ℕ) (es : List Edge) → Steady w → es ≡ edges_in w c → es ≢ []
    → (want : Want) × IsExact (look_of w) w.waits c want × (es ≡ want.edges)
edges-exact w c es st e some = at (want_in w c) refl e
  where
    at : (o : Option Want) → want_in w c ≡ o → es ≡ (let x : List Edge = elim o [ None ↦ [] | Some want ↦ want.edges ] in x)
        → (want : Want) × IsExact (look_of w) w.waits c want × (es ≡ want.edges)
    at None is k = absurd (some k)
    at (Some want) is k = (want, (wants-exact w st c).1 want is, k)

pub still-waits : StillWaitsAreExact
still-waits steps w ks sound fit g m x n =
    let told = (still-exact steps g x.session x.edges).0 n in
    edges-exact (behind steps g) x.session x.edges (moments-true steps w ks sound fit g m).steady told.2 told.3
