use Rattle.std.proofs.Common.{All, sym, subst}
use Rattle.std.proofs.lemmas.List.Elements.{All-push}
use Rattle.shard_farm.specs.Working.{IsDone}
use Rattle.shard_farm.proofs.crew.+fn-run_all-join+arg3+run_all.Goals as goal

-- the one that worked here is put behind those that worked beside it
pub returns-clause-done : goal.returns-clause-done
returns-clause-done g t c =
    let j = c.join-mine.ensures in
    subst (All (IsDone c.args.board.now c.args.reduce c.args.board.now.file.run c.args.shards.now)) (sym c.push_reserved.ensures.items)
    (All-push (IsDone c.args.board.now c.args.reduce c.args.board.now.file.run c.args.shards.now) _ _ j.second.0 j.first)
