use Rattle.std.specs.Prelude.{◌≡◌, ℕ, ◌<◌, List, codes, length, get_or, min, zip}
use Rattle.std.proofs.Common.{◌∙◌, ap, arith}
use Rattle.std.proofs.lemmas.List.{get_or_default}
use Rattle.std.proofs.lemmas.Slice.Zip.{get_or-zip, length-zip}
use Rattle.shown_values.specs.Page.{step_json}
use Rattle.shown_values.proofs.Joining.{joined-all, joined-next}
use Rattle.shown_values.proofs.show.push_steps.Goals as goal

-- three lists side by side are as long as the shortest
length-three : {A B C : Type 0} (xs : List A) (ys : List B) (zs : List C) → length (zip xs (zip ys zs)) ≡ min (length xs) (min (length ys) (length zs))
length-three xs ys zs = length-zip xs (zip ys zs) ∙ ap (min (length xs)) (length-zip ys zs)

-- what stands side by side at a place
three-at : {A C : Type 0} (xs : List A) (ys : List ℕ) (zs : List C) (i : ℕ) (x : A) (z : C) → i < min (length xs) (min (length ys) (length zs))
    → x ≡ get_or xs i x → z ≡ get_or zs i z → (x, (get_or ys i 0, z)) ≡ get_or (zip xs (zip ys zs)) i (x, (get_or ys i 0, z))
three-at xs ys zs i x z below first third =
    let behind : i < length (zip ys zs) = rw length-zip (omega arith) in
    let outer = get_or-zip xs (zip ys zs) i (x, (get_or ys i 0, z)) (omega arith) behind in
    let inner = get_or-zip ys zs i (get_or ys i 0, z) (omega arith) (omega arith) in
    let second = get_or_default ys i (get_or ys i 0) 0 (omega arith) in
    cc

-- a step is pushed
pub loop-place-preserved : goal.loop-place-preserved
loop-place-preserved c =
    let below : c.loop-place.place < min (length c.args.names.now) (min (length c.args.sessions.now) (length c.args.statements.now)) = omega arith in
    joined-next step_json (codes ",") _ _ _ _ _ _ _ (rw (length-three c.args.names.now c.args.sessions.now c.args.statements.now) below)
    (three-at _ _ _ _ _ _ below c.index-names-place.is c.index-statements-place.is) c.loop-place.invariant c.in_ok-push_before.ensures c.in_ok-push_step.ensures

-- all are pushed
pub returns : goal.returns
returns c =
    joined-all c.push.result step_json _ _ c.args.out.now.items c.args.label.now _ _
    (rw (length-three c.args.names.now c.args.sessions.now c.args.statements.now) (omega arith)) c.loop-place.invariant c.push.ensures
