use Rattle.std.proofs.Common.{ap, ◌∙◌}
use Rattle.rayon.proofs.ListFacts.{IfOk-then}
use Rattle.rayon.proofs.ToStd.{slice-AllZip}
use Rattle.rayon.proofs.ListFacts.{AllZip-weaken}
use Rattle.book_audit.specs.Findings.{IsFinding, said}
use Rattle.book_audit.proofs.sharing.findings_of.Goals as goal

pub returns : goal.returns
returns g c =
    let slice = ap (λ it. it.slice.now) c.with_min_len.ensures.base ∙ c.par_iter.ensures in
    IfOk-then c.collect.result _ _ c.collect.ensures (λ v h file is.
    let chain = rw (c.map.ensures.base, c.map.ensures.f) at h.1 in
    rw h.2 (slice-AllZip chain.0 c.args.pieces.now (chain.1 ∙ slice) (λ piece finding. IsFinding file.run (said c.args.outcomes.now piece) finding) h.0
    (AllZip-weaken _ _ (λ piece finding told. told file is) chain.0 h.0 chain.2)))
