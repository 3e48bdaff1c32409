use Rattle.std.proofs.Common.{◌≡◌, ℕ, ◌+◌, ◌-◌, List, [], ◌∷◌, length, sym, ap, ◌∙◌, subst, arith}
use Rattle.std.proofs.lemmas.Grind.{common_steps}
use Rattle.atomic_table.specs.Seated.{TableId}
use Rattle.atomic_table.specs.Table.{Me}
use Rattle.shard_board.specs.declared.rule.Part.{Part}
use Rattle.shard_board.specs.declared.rule.View.{View}
use Rattle.shard_board.specs.Sums.{Slot}
use Rattle.shard_board.specs.Claiming.{blank_part, blank_view, blank_parts, keeps_rest}
use Rattle.shard_board.specs.Changes.{IsRowOf, fresh_seat}
use Rattle.shard_board.specs.Shown.{ShownSeat, shown_board}
use Rattle.shard_board.proofs.OpeningLemmas.{gives, more_parts, none_made}
use Rattle.shard_board.specs.Turning.{drawn}
use Rattle.shard_board.proofs.RowLemmas.{row_more}
use Rattle.shard_board.proofs.seating.place_all.Goals as goal

pub split_seat-place-requires : goal.split_seat-place-requires
split_seat-place-requires c =
    let i = c.loop-number.invariant in
    let k = c.loop-number.number in
    let none : drawn (blank_view c.args.plan.now (c.args.plan.now.seats - 1) (blank_parts k ((c.args.plan.now.seats - 1) - k))) ≡ 0 =
    (let z = none_made k ((c.args.plan.now.seats - 1) - k) in omega arith) in (
      i.same ∙ c.requires.table.0,
      c.requires.table.1,
      gives _ _ _ _ _ (ap (λ (m : Me Slot View). m.0.live) i.view)
          (ap (λ (m : Me Slot View). m.0.joined) i.view ∙ more_parts k (c.args.plan.now.seats - 1) (omega arith)) (ap (λ (m : Me Slot View). drawn m.0) i.view
          ∙ none),
    )

pub loop-number-preserved : goal.loop-number-preserved
loop-number-preserved c = let i = c.loop-number.invariant in let k = c.loop-number.number in let n : ℕ = c.args.plan.now.seats - 1 in
    let e = c.split_seat-place.ensures in
    let more : blank_parts k (n - k) ≡ blank_part k ∷ blank_parts (k + 1) (n - (k + 1)) = more_parts k n (omega arith) in
    let now : c.loop-number.first.me ≡ (blank_view c.args.plan.now n (blank_part k ∷ blank_parts (k + 1) (n - (k + 1))), []) = i.view
    ∙ ap (λ (ps : List Part). (blank_view c.args.plan.now n ps, [])) more in record {
      same = e.0 ∙ i.same;
      view = e.2 ∙ ap (λ (m : Me Slot View). (keeps_rest m.0, m.1)) now;
      many = grind (arith, common_steps);
      rows = subst (λ (xs : List ShownSeat). IsRowOf (shown_board c.args.first.table_id c.args.plan.now) xs) (sym c.in_ok-push.ensures.items)
          (row_more (shown_board c.args.first.table_id c.args.plan.now) k c.loop-number.row.items _ i.many (c.in_ok-seated.ensures
          ∙ ap (λ (t : TableId). fresh_seat (shown_board t c.args.plan.now) k) (e.3 ∙ i.same)) i.rows);
    }

pub returns : goal.returns
returns c = let i = c.loop-number.invariant in let k = c.loop-number.number in let l : length c.loop-number.row.items ≡ c.args.plan.now.seats - 1 =
    omega arith in let few = c.requires.few in record {
      many = grind (arith, common_steps);
      fresh = subst (λ (xs : List ShownSeat). IsRowOf (shown_board c.args.table.now.shared.table_id c.args.plan.now) xs) (sym c.in_ok-push-2.ensures.items)
          (row_more (shown_board c.args.table.now.shared.table_id c.args.plan.now) (c.args.plan.now.seats - 1) c.loop-number.row.items _ l
          (c.in_ok-seated-2.ensures ∙ ap (λ (t : TableId). fresh_seat (shown_board t c.args.plan.now) (c.args.plan.now.seats - 1)) (i.same
          ∙ c.requires.table.0))
          (subst (λ (t : TableId). IsRowOf (shown_board t c.args.plan.now) c.loop-number.row.items) c.requires.table.0 i.rows));
    }
