use Rattle.std.proofs.Common.{◌≡◌, ℕ, List, length, get_or, sym, ap, ◌∙◌, subst, arith}
use Rattle.std.specs.Prelude.{min}
use Rattle.shard_board.specs.declared.rule.Plan.{Plan}
use Rattle.shard_board.specs.Shown.{ShownBoard}
use Rattle.shard_board.specs.Closing.{OfBoard}
use Rattle.shard_board.proofs.RowLemmas.{of_board}
use Rattle.shard_board.proofs.TurnLemmas.{some_is}
use Rattle.shard_board.proofs.ClosingLemmas.{home_at_end, closes, word_value, home_value, closed_as}
use Rattle.shard_board.proofs.board.Board.close.Goals as goal

pub all_in_one-keeper-requires-clause-seats : goal.all_in_one-keeper-requires-clause-seats
all_in_one-keeper-requires-clause-seats c =
    let seats : c.self.inside.plan.seats ≡ c.args.self.seats = ap (λ (h : ShownBoard). h.seats) c.self.view_is in
    let some = c.self.invariant.some_seat in
    let all = c.requires.all in
    (omega arith, subst (λ (h : ShownBoard). OfBoard h.table_id c.args.seats.items) (sym c.self.view_is) (of_board _ _ c.requires.seats))

pub unreachable-requires : goal.unreachable-requires
unreachable-requires c =
    let f = c.close_with-closed.ensures.values.2 in
    let g = c.all_in_one-keeper.ensures.1 in
    let i = c.self.invariant in
    let seats : c.self.inside.plan.seats ≡ c.args.self.seats = ap (λ (h : ShownBoard). h.seats) c.self.view_is in
    let same : c.self.inside.plan.seats ≡ c.self.inside.table.shared.key.seats = ap (λ (p : Plan). p.seats) i.key_is in
    let all = c.requires.all in
    let whole : length c.args.seats.items ≡ c.self.inside.table.shared.key.seats = omega arith in
    let r = home_value f.0.homes _ _ _ (home_at_end c.self.inside.table.shared.key f.0 f.1.0 c.all_in_one-keeper.result.id c.all_in_one-keeper.result.me
    f.1.1 c.args.seats.items g whole) f.4 c.take.ensures.value in
    c.in_default.not-Some _ r

pub returns : goal.returns
returns c =
    let f = c.close_with-closed.ensures.values.2 in
    let g = c.all_in_one-keeper.ensures.1 in
    let i = c.self.invariant in
    let plan : Plan = c.self.inside.table.shared.key in
    let seats : c.self.inside.plan.seats ≡ c.args.self.seats = ap (λ (h : ShownBoard). h.seats) c.self.view_is in
    let same : c.self.inside.plan.seats ≡ plan.seats = ap (λ (p : Plan). p.seats) i.key_is in
    let shards : c.self.inside.plan.shards ≡ plan.shards = ap (λ (p : Plan). p.shards) i.key_is in
    let file : plan.empty.file ≡ c.args.self.file = sym (ap (λ (p : Plan). p.empty.file) i.key_is) ∙ ap (λ (h : ShownBoard). h.file) c.self.view_is in
    let all = c.requires.all in
    let whole : length c.args.seats.items ≡ plan.seats = omega arith in
    let r = home_value f.0.homes _ _ _ (home_at_end plan f.0 f.1.0 c.all_in_one-keeper.result.id c.all_in_one-keeper.result.me f.1.1 c.args.seats.items g
    whole) f.4 c.take.ensures.value in
    let book = some_is _ _ (sym c.in-Some.is ∙ r) in
    let turns : get_or f.0.words 0 0 ≡ c.word-turns.result = ap (λ (ws : List ℕ). get_or ws 0 0) f.2 ∙ word_value _ 0 _ c.word-turns.ensures in
    let claimed : min (get_or f.0.words 2 0) plan.shards ≡ c.min-claimed.result =
    ap (λ (n : ℕ). min n plan.shards) (ap (λ (ws : List ℕ). get_or ws 2 0) f.2 ∙ word_value _ 2 _ c.word-next.ensures)
    ∙ (ap (λ (n : ℕ). min c.word-next.result n) (sym (c.from.ensures ∙ shards)) ∙ sym c.min-claimed.ensures) in
    closed_as _ _ _ _ _ _ _ claimed turns (closes plan f.0 f.1.0 c.all_in_one-keeper.result.id c.all_in_one-keeper.result.me f.1.1 c.args.seats.items g whole
    c.args.self c.in-Some.book file (sym shards ∙ ap (λ (h : ShownBoard). h.shards) c.self.view_is) (sym same ∙ seats) book)
