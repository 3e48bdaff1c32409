use Rattle.std.proofs.Common.{◌≡◌, sym, ap, ◌∙◌, ℕ, suc, ◌-◌, Bool, List, [], ◌∷◌, length, drop, get_or, arith}
use Rattle.std.proofs.lemmas.List.{drop_all}
use Rattle.std.proofs.lemmas.Result.{IfOk-weaker}
use Rattle.known_worlds.specs.Known.{is_quiet_in as is_known_quiet}
use Rattle.rank_facts.specs.Swap.{quiet_heads}
use Rattle.step_reducer.specs.Reduced.{LeftOf}
use Rattle.step_reducer.proofs.Listed.{quiet-unspent}
use Rattle.step_reducer.proofs.Tables.{step-known}
use Rattle.step_reducer.proofs.frame.is_quiet_beside.Goals as goal

pub next-requires-clause-few : goal.next-requires-clause-few
next-requires-clause-few c = omega (arith, c.requires.few, c.left_of-left.ensures)

pub is_quiet-requires-clause-other : goal.is_quiet-requires-clause-other
is_quiet-requires-clause-other c =
    let s = c.args.smaller in
    let n = length (get_or c.args.table.now s []) - c.left_of-left.result in
    step-known c.args.world.now.file.run s n c.next.result (drop (suc n) (get_or c.args.table.now s []))
    (sym (ap (λ (q : List (List ℕ)). drop n (get_or q s [])) c.requires.table) ∙ c.next.ensures)

pub returns-clause-answer : goal.returns-clause-answer
returns-clause-answer c =
    let r = c.args.world.now in
    let s = c.args.smaller in
    let all = get_or c.args.table.now s [] in
    IfOk-weaker c.is_quiet.result (λ yes. yes ≡ is_known_quiet r c.args.step c.next.result)
    (λ (yes : Bool). (ks rest : List ℕ) → LeftOf all (get_or c.args.block.now.left s 0) rest
    → yes ≡ quiet_heads r.file.run.steps r.world (c.args.step ∷ ks) rest)
    (λ yes is ks rest left.
    let first : rest ≡ c.next.result ∷ drop (suc (length all - c.left_of-left.result)) all = left.1
    ∙ ap (λ n. drop (length all - n) all) (sym c.left_of-left.ensures) ∙ c.next.ensures in
    is ∙ quiet-unspent r c.args.step c.next.result c.requires.whole ∙ sym (ap (quiet_heads r.file.run.steps r.world (c.args.step ∷ ks)) first))
    c.is_quiet.ensures.answer

pub returns-then-left-eq0-clause-answer : goal.returns-then-left-eq0-clause-answer
returns-then-left-eq0-clause-answer c = λ ks rest left.
    let r = c.args.world.now in
    let all = get_or c.args.table.now c.args.smaller [] in
    let none : rest ≡ [] = left.1 ∙ drop_all (length all - get_or c.args.block.now.left c.args.smaller 0) all
    (omega (arith, c.left_of-left.ensures, c.if-left-eq0.true)) in
    sym (ap (quiet_heads r.file.run.steps r.world (c.args.step ∷ ks)) none)
