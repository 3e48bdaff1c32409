use Rattle.std.proofs.Common.{◌↔◌, IsTrue, subst}
use Rattle.lock_modes.specs.Resource.{resource_at}
use Rattle.lock_queues.specs.LockTable.{Fits, look_at}
use Rattle.lock_queues.specs.Records.{Sessions, AllFit}
use Rattle.lock_queues.proofs.HeldLemmas.{fits-is}
use Rattle.lock_queues.proofs.held.Held.fits.Goals as goal

pub returns : goal.returns
returns c =
    let i = c.args.session in
    let r = resource_at c.args.place in
    let g = subst (λ (s : Sessions). IsTrue c.all_fit.result ↔ AllFit s i r c.args.mode) c.as_slice.ensures.value c.all_fit.ensures in
    let f = fits-is i r c.args.mode c.self.inside.sessions.items in
    subst (λ h. IsTrue c.all_fit.result ↔ Fits (look_at h) i r c.args.mode) c.self.view_is ((λ e. f.0 (g.0 e)), (λ e. g.1 (f.1 e)))
