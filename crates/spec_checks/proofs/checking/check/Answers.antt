use Rattle.std.proofs.Common.{Err, string_bytes, subst, sym}
use Rattle.spec_commands.specs.Counting as counting
use Rattle.spec_checks.proofs.CheckLemmas.{check-unread, check-stopped, check-whole, check-cut}
use Rattle.spec_checks.specs.Checking.{IsIdle}
use Rattle.spec_checks.proofs.checking.check.Goals as goal

pub returns-in-Err : goal.returns-in-Err
returns-in-Err g c = check-unread g.W.Write.contents c.args.out.now c.args.bytes.now c.in-Err.fault c.in-Err.ensures.refused

pub returns-in-Err-Write : goal.returns-in-Err-Write
returns-in-Err-Write g c =
    check-stopped g.W.Write.contents c.args.out.now c.check.new.out c.args.bytes.now (string_bytes c.in-Ok.idle) c.in-Ok.ensures.told
    (subst (λ f. counting.IsChecked g.W.Write.contents c.args.out.now c.check.new.out c.args.bytes.now (Err f)) c.in-Err-Write.field-0-is c.in-Err-Write.ensures)

pub returns-in-Ok-write_str : goal.returns-in-Ok-write_str
returns-in-Ok-write_str g c =
    check-whole g.W.Write.contents c.args.out.now c.check.new.out c.write_str.new.self c.args.bytes.now c.deref.result.now
    (subst (IsIdle c.args.bytes.now) (sym c.deref.ensures) c.in-Ok.ensures.told) c.in-Ok-check_counts.ensures c.in-Ok-write_str.ensures

pub returns : goal.returns
returns g c =
    check-cut g.W.Write.contents c.args.out.now c.check.new.out c.write_str.new.self c.args.bytes.now c.deref.result.now
    (subst (IsIdle c.args.bytes.now) (sym c.deref.ensures) c.in-Ok.ensures.told) c.in-Ok-check_counts.ensures c.in-Err-write_str.ensures
