use Rattle.std.proofs.Common.{◌≡◌, refl, subst, Some, List, ℕ}
use Rattle.order_classes.specs.Shows.{shows_of_line}
use Rattle.spec_classes.specs.Classes.{drawn}
use Rattle.spec_classes.proofs.LineTold.{drawn-order-at, number-front}
use Rattle.spec_classes.proofs.lines.line_state.Goals as goal

pub returns-clause-state : goal.returns-clause-state
returns-clause-state c = λ kind. record {
  shows = c.in_ok-shown.shown;
  at = c.in_ok-number.ensures.ok.at;
  first = refl;
  count = refl;
  does = (
    c.in-Some.line.items,
    drawn-order-at kind c.args.spec.now.run c.args.ranks.now c.args.place c.in-Some.line.items c.requires.place c.in-Some.ensures.line,
    subst (λ (l : List ℕ). shows_of_line c.args.tables.now (drawn c.args.spec.now.run c.args.ranks.now) l ≡ Some c.in_ok-shown.shown) c.as_slice.ensures.value c.in_ok-shown.ensures.shows,
  );
}

pub returns-clause-more : goal.returns-clause-more
returns-clause-more c = number-front c.args.shows.now c.number.new.self c.in_ok-shown.shown c.in_ok-number.number c.in_ok-number.ensures.ok
