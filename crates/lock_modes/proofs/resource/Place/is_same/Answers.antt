use Rattle.lock_modes.proofs.PlaceLemmas.{same_rows}
use Rattle.lock_modes.proofs.resource.Place.is_same.Goals as goal

pub returns-then-a-b : goal.returns-then-a-b
returns-then-a-b c = let s = c.in-Row-Row in rw (s.is-0, s.is-1, c.eq.ensures) (same_rows s.a s.b s.k.now s.j.now c.if-a-b.true)
