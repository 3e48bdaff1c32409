use Rattle.std.proofs.Common.{◌≡◌, ℕ, ◌<◌, ◌∙◌, All, List, length, sym, ap, subst, arith}
use Rattle.std.specs.List.Sorted.{IsStrictlyIncreasing}
use Rattle.shard_board.specs.Shown.{ShownSeat}
use Rattle.shard_board.specs.Closing.{IsClosed}
use Rattle.shard_farm.specs.declared.worker.Worker.{Worker}
use Rattle.shard_farm.specs.Farming.{AreFactsBut}
use Rattle.shard_farm.specs.Working.{IsDone, numbers_missed}
use Rattle.shard_farm.proofs.CrewLemmas.{all_at, all_of_board}
use Rattle.shard_farm.proofs.MissingLemmas.{missing_rises, missing_below}
use Rattle.shard_farm.proofs.ExactLemmas.{exact}
use Rattle.shard_farm.proofs.closing.closed.Goals as goal

pub close-book-requires-clause-seats : goal.close-book-requires-clause-seats
close-book-requires-clause-seats c =
    subst (λ (l : List ShownSeat). All (λ (s : ShownSeat). s.board ≡ c.args.board) l) (sym c.seats_of-seats.ensures) (all_of_board _ _ _ _ _ c.requires.done)

-- what is named is marked
pub returns-clause-named : goal.returns-clause-named
returns-clause-named c =
    let count : ℕ = length c.args.plan.shards.now in
    c.missing_in-missing.ensures ∙ ap (λ (l : List Worker). numbers_missed l count) c.as_slice.ensures.value

pub returns-clause-left : goal.returns-clause-left
returns-clause-left c =
    let plan = c.args.plan in
    let ws = c.args.workers.items in
    let count : ℕ = length plan.shards.now in
    let missing = c.missing_in-missing.ensures ∙ ap (λ (l : List Worker). numbers_missed l count) c.as_slice.ensures.value in
    let end = subst (λ (l : List ShownSeat). IsClosed c.args.board l c.close-book.result.book c.close-book.result.claimed c.close-book.result.turns)
    c.seats_of-seats.ensures c.close-book.ensures in
    let many : 0 < length ws = let m = c.requires.many in omega arith in
    record {
      rising = subst IsStrictlyIncreasing (sym missing) (missing_rises ws count);
      below = subst (All (λ n. n < count)) (sym missing) (missing_below ws count);
      of_spec = end.file;
      facts = subst (λ (l : List ℕ). AreFactsBut plan.reduce c.args.board.file.run plan.shards.now l c.close-book.result.book.facts) (sym missing)
          (exact plan.reduce c.args.board.file.run c.args.board plan.shards.now ws c.close-book.result.book c.close-book.result.claimed
          c.close-book.result.turns end
          (λ k w at. (all_at (IsDone c.args.board plan.reduce c.args.board.file.run plan.shards.now) ws c.requires.done k w at).worked) c.requires.board many);
    }
