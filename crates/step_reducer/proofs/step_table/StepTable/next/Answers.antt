use Rattle.std.proofs.Common.{◌≡◌, sym, ap, ◌∙◌, subst, ℕ, suc, ◌-◌, ◌<◌, ◌≤◌, List, [], ◌∷◌, length, drop, get_or, arith}
use Rattle.std.proofs.lemmas.List.{length-map}
use Rattle.step_reducer.proofs.Tables.{table-at, some-inside, drop-at}
use Rattle.step_reducer.proofs.step_table.StepTable.next.Goals as goal

pub returns : goal.returns
returns c =
    let s = c.args.session in
    let left = c.args.left in
    let v = c.index-steps.result.now in
    let xs = v.items in
    let rows = c.self.inside.steps.items in
    let few = c.requires.few in
    let some = c.requires.some in
    let inside : s < length c.args.self.now = some-inside c.args.self.now s (omega (arith, few, some)) in
    let within : s < length rows = omega (arith, inside, ap (λ (q : List (List ℕ)). length q) c.self.view_is, length-map rows (λ r. r.items)) in
    let here : get_or c.args.self.now s [] ≡ xs = ap (λ q. get_or q s []) (sym c.self.view_is) ∙ table-at (λ r. r.items) rows s v within
    ∙ ap (λ r. r.items) (sym c.index-steps.ensures) in
    let len : c.len.result ≡ length xs = omega (arith, c.len.ensures, v.ok.0) in
    let much : left ≤ length xs = omega (arith, few, ap (λ (l : List ℕ). length l) here) in
    subst (λ l. drop (length l - left) l ≡ c.index.result.now ∷ drop (suc (length l - left)) l) (sym here)
    (drop-at xs (length xs - left) c.index.result.now (omega (arith, much, some)) (c.index.ensures ∙ ap (λ n. get_or xs (n - left) c.index.result.now) len))
