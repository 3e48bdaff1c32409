use Rattle.marked_worlds.proofs.MemberLemmas.{told-behind}
use Rattle.marked_worlds.proofs.told.ToldTable.number.Goals as goal

-- the outcome comes behind those that were told
pub returns-clause-front : goal.returns-clause-front
returns-clause-front c = told-behind c.args.self.now.kept.items _ _ c.in_ok-push.ensures.items
