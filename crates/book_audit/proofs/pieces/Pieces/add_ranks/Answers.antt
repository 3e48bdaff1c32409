use Rattle.std.proofs.Common.{◌≡◌, sym, subst, arith}
use Rattle.fact_books.specs.Runs.{Adds, IsNumbered}
use Rattle.book_audit.specs.Pieces.{runs_in}
use Rattle.book_audit.proofs.PieceLemmas.{up_to, adds-no_rank, adds-part, sound-last}
use Rattle.book_audit.proofs.pieces.Pieces.add_ranks.Goals as goal

pub loop-first-init : goal.loop-first-init
loop-first-init c = record {
  low = omega arith;
  high = c.requires;
  says = adds-no_rank (runs_in c.args.self.now) c.args.run;
  sound = λ n a s. a;
}

pub loop-first-preserved : goal.loop-first-preserved
loop-first-preserved c =
    let inv = c.loop-first.invariant in
    let run = c.args.run in
    let part = c.front-part.result in
    let from = c.front-part.ensures.first in
    let some = c.front-part.ensures.some in
    let old = runs_in c.args.self.now in
    let now = runs_in c.loop-first.self in
    let new = runs_in c.put.new.self in
    let is = c.in_ok-put.ensures in
    let says : Adds old (up_to run part.first) now = subst (λ first. Adds old (up_to run first) now) (sym from) inv.says in
    record {
      low = omega (arith, inv.low, some);
      high = c.front-part.ensures.end;
      says = adds-part old now new run part says is (sym c.front-part.ensures.tag) (omega (arith, inv.low, from)) (omega (arith, some, from));
      sound = λ n a s. sound-last now new part is n (inv.sound n a s) (subst (IsNumbered n) (sym c.front-part.ensures.tag) s, omega (arith, some, from));
    }

-- the last part ends where the run does
pub returns-clause-says : goal.returns-clause-says
returns-clause-says c =
    let at_end : c.loop-first.first ≡ c.args.run.end = omega (arith, c.loop-first.invariant.high, c.loop-first-test.false) in
    subst (λ end. Adds (runs_in c.args.self.now) (up_to c.args.run end) (runs_in c.loop-first.self)) at_end c.loop-first.invariant.says

pub returns-clause-sound : goal.returns-clause-sound
returns-clause-sound c = λ n a s. c.loop-first.invariant.sound n a s.0
