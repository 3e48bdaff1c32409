use Rattle.std.proofs.Common.{◌≡◌, ◌∙◌, [], ◌∷◌, ap, false, subst, sym}
use Rattle.std.proofs.lemmas.Bool.{both_ways}
use Rattle.std.proofs.lemmas.List.{map-append}
use Rattle.lock_queues.specs.Locks.{waits_now}
use Rattle.lock_queues.specs.LockTable.{queued}
use Rattle.lock_queues.specs.Rules.{IsInRing, IsTaken}
use Rattle.lock_queues.specs.declared.answer.Taken.TheVariants.{Refused}
use Rattle.marked_lists.specs.Versions.{Versions}
use Rattle.numbered_specs.specs.Numbers.{HasNumber, resource_of}
use Rattle.marked_locks.specs.Queued.{MarkedTable, table_of, wait_of, waits_of}
use Rattle.marked_locks.specs.declared.wait.NumberedWait.{NumberedWait}
use Rattle.marked_locks.proofs.KeepLemmas.{pushed-kept}
use Rattle.marked_locks.proofs.locks.MarkedLocks.wait_or_refuse.Goals as goal

pub invariant_of-self-else-is_in_ring : goal.invariant_of-self-else-is_in_ring
invariant_of-self-else-is_in_ring c =
    let i = c.args.session in
    let modes = c.self.inside.modes in
    let waits : Versions NumberedWait = c.self.inside.waits in
    let rs = modes.resources in
    let t : MarkedTable = table_of modes waits in
    let w : NumberedWait = record { session = i; resource = c.args.number; mode = c.args.mode } in
    let free = subst (λ (t : MarkedTable). waits_now t.now.waits i ≡ false) (sym c.self.view_is) c.requires.free in
    let number = subst (λ (t : MarkedTable). HasNumber t.resources c.args.number) (sym c.self.view_is) c.requires.number in
    let refused = subst (λ (t : MarkedTable). IsTaken t.now i (resource_of t.resources c.args.number) c.args.mode Refused) (sym c.self.view_is)
    c.requires.refused in
    let queue = ap (waits_of rs) c.as_slice.ensures ∙ ap (λ (v : Versions NumberedWait). waits_of rs v.list) c.in_ok-push.ensures.pushed
    ∙ map-append (wait_of rs) waits.list (w ∷ []) in
    let none : IsInRing (queued t.now i (resource_of rs c.args.number) c.args.mode) i → ⊥ =
    (λ ring. both_ways c.is_in_ring.result c.if-is_in_ring.false
    (c.is_in_ring.ensures.1 (subst (λ us. IsInRing (record { held = modes.now; waits = us }) i) (sym queue) ring))) in
    pushed-kept c.tables_stay_sound.ensures modes waits c.push.new.self w c.self.invariant c.in_ok-push.ensures.pushed
    (record { number = number; session = c.requires.session }) free (refused, none)
