use Rattle.std.proofs.Common.{◌≡◌, List, [], ◌∷◌, Some, sym, ap, ◌∙◌, subst, arith}
use Rattle.std.specs.FinSet.{empty}
use Rattle.atomic_table.specs.Table.{opening}
use Rattle.fact_books.specs.Books.{Contents}
use Rattle.shard_board.specs.declared.rule.Plan.{Plan}
use Rattle.shard_board.specs.Sums.{Slot}
use Rattle.shard_board.specs.Claiming.{Kept, first_view}
use Rattle.shard_board.specs.Turning.{book_with}
use Rattle.shard_board.proofs.OpeningLemmas.{opens}
use Rattle.shard_board.proofs.board.made.Goals as goal

pub new-requires : goal.new-requires
new-requires c =
    let plan : Plan = record { shards = c.args.shards; seats = c.args.seats; empty = c.in_ok-empty.empty } in
    let few = c.requires.few in
    let book : c.in_ok-book.book ≡ book_with plan empty = c.in_ok-book.ensures
    ∙ ap (λ (b : Contents). record { file = b.file; facts = empty }) (sym c.in_ok-empty.ensures) in
    subst (λ (xs : List Slot). Kept plan (opening (0 ∷ 0 ∷ 0 ∷ []) xs (first_view plan)))
    (sym (c.in_ok-slots.ensures.items ∙ ap (λ (b : Contents). Some b ∷ []) book))
    (opens plan (omega arith) (omega arith) (omega arith))
