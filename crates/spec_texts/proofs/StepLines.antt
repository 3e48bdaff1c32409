-- The lines of steps, session by session.
use Rattle.std.proofs.Common.{◌≡◌, ℕ, suc, ◌+◌, ◌<◌, List, [], ◌∷◌, ◌++◌, length, map, drop, get_or, refl, sym, ap, ◌∙◌, append_assoc, arith, drop-cons, add-one}
use Rattle.std.proofs.Common.{length-append}
use Rattle.std.proofs.lemmas.List.{length-map}
use Rattle.spec_reader.specs.declared.tree.Session.{Session}
use Rattle.spec_reader.specs.Tree.{StepTree, SessionTree}
use Rattle.spec_reader.specs.Views.{session_tree, step_tree}
use Rattle.bound_specs.specs.Binding.{IsFileAt, declared, made_file, main_setup, session, shaped, written_file}
use Rattle.bound_specs.specs.Levels.{levelled_file}
use Rattle.bound_specs.specs.Lines.{orders_of, step_names}
use Rattle.bound_specs.specs.Spec.{SpecFile, IsReady}
use Rattle.bound_specs.proofs.FileLemmas.{bind}
use Rattle.binding_model.specs.Refusals.{each}
use Rattle.spec_texts.specs.OneLine.{one_line}
use Rattle.spec_texts.specs.Texts.{step_lines}

-- the lines of one session more
pub lines-next : (lines : List (List ℕ)) (ss : List Session) (k : ℕ) (d : Session) → k < length ss
    → lines ++ step_lines (map session_tree (drop k ss)) ≡ (lines ++ map (λ (t : StepTree). one_line t.block.text) (map step_tree (get_or ss k d).steps.items))
    ++ step_lines (map session_tree (drop (k + 1) ss))
lines-next lines ss k d h =
    let here = map (λ (t : StepTree). one_line t.block.text) (map step_tree (get_or ss k d).steps.items) in
    ap (λ us. lines ++ step_lines (map session_tree us)) (drop-cons ss k d h)
    ∙ sym (append_assoc lines here (step_lines (map session_tree (drop (suc k) ss))))
    ∙ ap (λ n. (lines ++ here) ++ step_lines (map session_tree (drop n ss))) (sym (add-one k))

lines-length : (ss : List SessionTree) → length (step_lines ss) ≡ length (step_names ss)
lines-length [] = refl
lines-length (s ∷ ss) =
    let lines = map (λ (t : StepTree). one_line t.block.text) s.steps in
    let names = map (λ (t : StepTree). t.name) s.steps in
    let a = length-append lines (step_lines ss) in
    let b = length-append names (step_names ss) in
    let c = length-map s.steps (λ (t : StepTree). one_line t.block.text) in
    let d = length-map s.steps (λ (t : StepTree). t.name) in
    let e = lines-length ss in
    omega (arith, a, b, c, d, e)

-- a file has the names of its tree's steps
named : (text : List ℕ) (file : SpecFile) → (is : IsFileAt text file) → step_names is.tree.sessions ≡ file.step_names
named text file is =
    let w = bind (written_file text is.tree) _ file is.is_bound in
    let a = bind (shaped (orders_of is.tree)) _ w.0 w.1.0 in
    let b = bind (declared main_setup [] is.tree.front.setups) _ w.0 a.1.1 in
    let c = bind (each (session b.0.0) is.tree.sessions) _ w.0 b.1.1 in
    let written : made_file text is.tree a.0 b.0.1 c.0 ≡ w.0 = cc (c.1.1) in
    let levelled : levelled_file file.asked w.0 ≡ file = cc (w.1.1) in
    ap (λ (f : SpecFile). f.step_names) written ∙ ap (λ (f : SpecFile). f.step_names) levelled

-- there is a line for each step
pub a-line-each : (text : List ℕ) (file : SpecFile) → (is : IsFileAt text file) → IsReady file → length (step_lines is.tree.sessions) ≡ length file.run.steps
a-line-each text file is ready =
    lines-length is.tree.sessions ∙ ap (λ (names : List (List ℕ)). length names) (named text file is) ∙ ready.step_names
