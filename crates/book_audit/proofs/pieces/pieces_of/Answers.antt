use Rattle.std.proofs.Common.{sym, ap, ◌∙◌, subst, ◌||◌, ◌++◌, get_or, arith, append-nil}
use Rattle.std.proofs.lemmas.List.{take_all}
use Rattle.std.proofs.lemmas.List.Folds.{list_any_more}
use Rattle.std.specs.List.{list_any}
use Rattle.fact_books.specs.declared.run.Run.{Run}
use Rattle.fact_books.specs.declared.run.Tag.TheVariants.{Ran}
use Rattle.fact_books.specs.Runs.{has, AllSound}
use Rattle.fact_books.proofs.RunLemmas.{AllSound-at}
use Rattle.book_audit.specs.Pieces.{runs_of}
use Rattle.book_audit.proofs.pieces.pieces_of.Goals as goal

pub loop-i-init : goal.loop-i-init
loop-i-init c = record {
  says = λ table e. ap (list_any (has table e)) c.new-pieces.ensures;
  sound = λ n a. subst (AllSound n) (sym c.new-pieces.ensures) tt;
}

pub add-requires : goal.add-requires
add-requires c =
    let d : Run = record { first = 0; end = 0; tag = Ran 0 } in
    let sound = AllSound-at c.requires.sound.0 c.args.runs.now c.loop-i.i d c.loop-i-test.true c.requires.sound.1 in
    let some = sound.1 in
    omega (arith, some)

pub loop-i-preserved : goal.loop-i-preserved
loop-i-preserved c =
    let d : Run = record { first = 0; end = 0; tag = Ran 0 } in
    let runs = c.args.runs.now in
    let i = c.loop-i.i in
    let lt = c.loop-i-test.true in
    record {
      says = λ table e. c.in_ok-add.ensures.says table e ∙ ap (λ b. b || has table e (get_or runs i d)) (c.loop-i.invariant.says table e)
          ∙ sym (list_any_more (has table e) runs i d lt);
      sound = λ n a. c.in_ok-add.ensures.sound n (c.loop-i.invariant.sound n a) (AllSound-at n runs i d lt a);
    }

pub returns-clause-says : goal.returns-clause-says
returns-clause-says c = λ table e.
    let all = take_all c.loop-i.i c.args.runs.now (omega (arith, c.loop-i-test.false, c.loop-i.auto.i-end)) in
    ap (list_any (has table e)) (sym (append-nil (runs_of c.close.new.self.ended.items))
    ∙ ap (λ r. runs_of c.close.new.self.ended.items ++ r) (sym c.in_ok-close.ensures.rest) ∙ c.in_ok-close.ensures.same)
    ∙ c.loop-i.invariant.says table e ∙ ap (list_any (has table e)) all

pub returns-clause-sound : goal.returns-clause-sound
returns-clause-sound c = λ n a.
    subst (AllSound n) (sym (sym (append-nil (runs_of c.close.new.self.ended.items))
    ∙ ap (λ r. runs_of c.close.new.self.ended.items ++ r) (sym c.in_ok-close.ensures.rest) ∙ c.in_ok-close.ensures.same))
    (c.loop-i.invariant.sound n a)
