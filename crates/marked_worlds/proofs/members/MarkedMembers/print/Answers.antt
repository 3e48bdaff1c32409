use Rattle.std.proofs.Common.{arith}
use Rattle.marked_worlds.proofs.MemberLemmas.{all-logs}
use Rattle.marked_worlds.proofs.members.MarkedMembers.print.Goals as goal

pub print_of-requires : goal.print_of-requires
print_of-requires c =
    let all = all-logs c.self.inside.logs c.self.inside.kept c.self.inside.told.kept.items c.self.inside.seen.items c.args.self.now c.args.count c.self.invariant.whole c.self.view_is c.requires in
    omega (arith, all)
