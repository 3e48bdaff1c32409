use Rattle.std.proofs.Common.{◌∷◌, ◌+◌, ◌<◌, ◌∙◌, ap, arith, drop, length, rules, sym, subst}
use Rattle.marked_rows.specs.Places.{keys_of}
use Rattle.marked_rows.specs.Shown.{AreUnseen, numbers_of, shown}
use Rattle.marked_rows.proofs.ScanLemmas.{count-keys, key-at, same-count, shown-next, shown-none}
use Rattle.marked_rows.proofs.scan.ScanIterator.next.Goals as goal

pub returns-in_err-place-clause-steps : goal.returns-in_err-place-clause-steps
returns-in_err-place-clause-steps c =
    let s = c.self.inside in
    let es = s.keys.now in
    let ns = numbers_of s.sight s.cells.now es in
    let unseen = subst (AreUnseen ns s.passed) (sym (same-count s.sight s.cells.now es ∙ count-keys es)) c.in_err-place.ensures in
    let none = sym c.self.view_is ∙ shown-none s.rows.now.list (keys_of es) ns s.passed c.self.invariant.count unseen in
    rw c.from_residual.ensures (none, none)

pub returns-clause-steps : goal.returns-clause-steps
returns-clause-steps c =
    let s = c.self.inside in
    let found = c.in_ok-place in
    let es = s.keys.now in
    let ns = numbers_of s.sight s.cells.now es in
    let next = found.place + 1 in
    let lt : found.place < length es = (let inside = found.ensures.inside in omega (arith, inside, same-count s.sight s.cells.now es, count-keys es)) in
    let e = c.index-self-place.result in
    let step = sym c.self.view_is
    ∙ shown-next s.rows.now.list (keys_of es) ns s.passed (found.place, found.number) e.key c.get.result.now c.self.invariant.count found.ensures c.get.ensures
    ∙ ap (λ k. (k, c.get.result.now) ∷ shown s.rows.now.list (drop next (keys_of es)) (drop next ns)) (key-at es found.place e e.key lt) in
    step

pub returns-clause-goes : goal.returns-clause-goes
returns-clause-goes c =
    let s = c.self.inside in
    let found = c.in_ok-place in
    let es = s.keys.now in
    let ns = numbers_of s.sight s.cells.now es in
    let next = found.place + 1 in
    let lt : found.place < length es = (let inside = found.ensures.inside in omega (arith, inside, same-count s.sight s.cells.now es, count-keys es)) in
    let e = c.index-self-place.result in
    let step = sym c.self.view_is
    ∙ shown-next s.rows.now.list (keys_of es) ns s.passed (found.place, found.number) e.key c.get.result.now c.self.invariant.count found.ensures c.get.ensures
    ∙ ap (λ k. (k, c.get.result.now) ∷ shown s.rows.now.list (drop next (keys_of es)) (drop next ns)) (key-at es found.place e e.key lt) in
    let shorter = ap length step in
    search rules
