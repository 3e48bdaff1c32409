use Rattle.std.proofs.Common.{◌≡◌, ap, ◌∙◌, suc, ◌+◌, ℕ, List, length, nat_lt, arith, add-one}
use Rattle.bound_specs.specs.Spec.{line_of}
use Rattle.book_audit.proofs.Falling.{session_at, falls-sessions, falls-nowhere}
use Rattle.book_audit.proofs.testing.falls.Goals as goal

pub returns-then-place-len : goal.returns-then-place-len
returns-then-place-len c =
    let long = ap (λ (ks : List ℕ). length ks) c.requires.line in
    falls-nowhere c.args.spec.now.run c.args.rank c.requires.words c.requires.has c.args.place
    (omega (arith, long, c.len.ensures.value, c.if-place-len.true))

pub returns : goal.returns
returns c =
    let run = c.args.spec.now.run in
    let place = c.args.place in
    let long = ap (λ (ks : List ℕ). length ks) c.requires.line in
    let next : c.session_of.result ≡ session_at run.steps (line_of run c.args.rank) (suc place) =
    c.session_of.ensures.is ∙ ap (λ ks. session_at run.steps ks (place + 1)) (c.deref.ensures.0 ∙ c.requires.line)
    ∙ ap (session_at run.steps (line_of run c.args.rank)) (add-one place) in
    let here : c.session_of-2.result ≡ session_at run.steps (line_of run c.args.rank) place =
    c.session_of-2.ensures.is ∙ ap (λ ks. session_at run.steps ks place) (c.deref-2.ensures.0 ∙ c.requires.line) in
    (λ i. nat_lt (next i) (here i))
    ∙ falls-sessions run c.args.rank c.requires.words c.requires.has place (omega (arith, long, c.len.ensures.value, c.if-place-len.false))
