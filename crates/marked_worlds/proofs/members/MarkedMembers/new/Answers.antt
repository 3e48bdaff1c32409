use Rattle.std.proofs.Common.{◌∙◌, []}
use Rattle.marked_worlds.specs.Members.{MarkedSessions, sessions_of}
use Rattle.marked_worlds.proofs.MemberLemmas.{members-blank}
use Rattle.marked_worlds.proofs.members.MarkedMembers.new.Goals as goal

pub returns : goal.returns
returns c =
    (λ k. sessions_of (c.in_ok-logs.ensures k) (c.in_ok-kept.ensures k) (c.new-2.ensures k) (c.new-3.ensures.items k))
    ∙ (λ k. let v : MarkedSessions = record { list = members-blank c.args.count k; marked = []; told = []; seen = [] } in v)
