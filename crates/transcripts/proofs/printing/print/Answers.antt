use Rattle.std.specs.Prelude.{◌≡◌, ℕ, ◌<◌, ◌≤◌, List, [], length, get_or, zip}
use Rattle.std.proofs.Common.{sym, ap, ◌∙◌, arith}
use Rattle.std.proofs.lemmas.Slice.Zip.{get_or-zip, length-zip}
use Rattle.transcripts.specs.Text.{session_text}
use Rattle.transcripts.proofs.Writing.{prints-stopped, stopped-next_of, wrote-all_of, wrote-next_of}
use Rattle.transcripts.proofs.printing.print.Goals as goal

-- what stands at one place of two lists is a pair there
beside : {A B : Type 0} (ks : List A) (vs : List B) (i : ℕ) (k : A) (v : B) → i < length ks → i < length vs
    → v ≡ get_or vs i v → (get_or ks i k, v) ≡ get_or (zip ks vs) i (k, v)
beside ks vs i k v below within e = ap (λ h. (get_or ks i k, h)) e ∙ sym (get_or-zip ks vs i (k, v) below within)

-- a place of both lists is one of the pairs
in-both : {A B : Type 0} (ks : List A) (vs : List B) (i : ℕ) → i < length ks → i < length vs → i < length (zip ks vs)
in-both ks vs i below within = rw length-zip (omega arith)

-- past the places of a list there are no pairs
past-both : {A B : Type 0} (ks : List A) (vs : List B) (i : ℕ) → length vs ≤ i → length (zip ks vs) ≤ i
past-both ks vs i past = rw length-zip (omega arith)

-- a session stopped
pub returns-in_err-print_session : goal.returns-in_err-print_session
returns-in_err-print_session g c =
    let few = c.requires.named.each_session in
    let named : c.loop-session.session < length c.args.names.now.sessions.now = omega (arith, ap length c.sessions-transcript-items.ensures) in
    rw (← c.sessions-transcript-items.ensures)
    (prints-stopped _ _ _ _ _
    (stopped-next_of _ (session_text c.args.names.now.steps.now) _ _ _ [] _ _ _ _
    (in-both _ _ _ named c.loop-session-test.true) (beside _ _ _ c.index-names-session.result _ named c.loop-session-test.true c.transcript-item.is)
    c.loop-session.invariant c.in_err-print_session.ensures)
    c.from_residual.ensures.0)

-- a session is written
pub loop-session-preserved : goal.loop-session-preserved
loop-session-preserved g c =
    let few = c.requires.named.each_session in
    let named : c.loop-session.session < length c.args.names.now.sessions.now = omega (arith, ap length c.sessions-transcript-items.ensures) in
    wrote-next_of _ (session_text c.args.names.now.steps.now) _ _ _ [] _ _ _ _
    (in-both _ _ _ named c.loop-session-test.true) (beside _ _ _ c.index-names-session.result _ named c.loop-session-test.true c.transcript-item.is)
    c.loop-session.invariant c.in_ok-print_session.ensures

-- all are written
pub returns : goal.returns
returns g c =
    rw (← c.sessions-transcript-items.ensures)
    (wrote-all_of _ (session_text c.args.names.now.steps.now) _ _ [] _ _ (past-both _ _ _ c.loop-session-test.false) c.loop-session.invariant)
