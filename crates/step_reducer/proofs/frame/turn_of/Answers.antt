use Rattle.std.proofs.Common.{sym, ap, ◌∙◌, ℕ, suc, ◌-◌, List, [], length, drop, get_or}
use Rattle.step_reducer.specs.declared.frame.Turn.{Turn}
use Rattle.step_reducer.specs.Framed.{framed, standing}
use Rattle.step_reducer.proofs.Tables.{step-known}
use Rattle.step_reducer.proofs.Turns.{turn-is}
use Rattle.step_reducer.proofs.frame.turn_of.Goals as goal

pub swaps_of-requires-clause-step : goal.swaps_of-requires-clause-step
swaps_of-requires-clause-step c =
    let letter = c.at-letter.result.0 in
    let n = length (get_or c.args.table.now letter []) - c.left_of.result in
    step-known c.args.world.now.file.run letter n c.next-step.result (drop (suc n) (get_or c.args.table.now letter []))
    (sym (ap (λ (q : List (List ℕ)). drop n (get_or q letter [])) c.requires.table) ∙ c.next-step.ensures)

pub returns-clause-turn : goal.returns-clause-turn
returns-clause-turn c =
    let f = framed c.args.frame.now (standing c.args.world.now) in
    let letter = c.at-letter.result.0 in
    let all = get_or c.args.table.now letter [] in
    let u : Turn = record { letter = letter; step = c.next-step.result; block = c.at-letter.result.1; swaps = c.in_ok-swaps.swaps } in
    let ks = drop (suc (length all - c.left_of.result)) all in
    turn-is c.args.reduce f c.args.rank c.args.table.now u ks c.requires.table c.at-letter.ensures.left c.at-letter.ensures.narrowed c.at-letter.ensures.inside
    (ap (λ n. drop (length all - n) all) (sym c.left_of.ensures) ∙ c.next-step.ensures) c.in_ok-swaps.ensures.swaps
