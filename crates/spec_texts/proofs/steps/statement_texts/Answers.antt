use Rattle.std.proofs.Common.{All, subst, sym, ◌≡◌, ◌∙◌, ℕ, List, length, map, ap}
use Rattle.std.proofs.lemmas.Result.{IfOk-weaker}
use Rattle.spec_reader.specs.declared.tree.Session.{Session}
use Rattle.spec_reader.specs.Tree.{SpecTree}
use Rattle.spec_reader.specs.Views.{session_tree}
use Rattle.spec_texts.proofs.Blanks.{lines-blank}
use Rattle.spec_texts.specs.OneLine.{IsOneLine}
use Rattle.spec_texts.specs.Texts.{AreStepLines, step_lines}
use Rattle.spec_texts.proofs.StepLines.{a-line-each}
use Rattle.spec_texts.proofs.steps.statement_texts.Goals as goal

-- what is read again is the tree that the spec is bound of
pub returns-clause-lines : goal.returns-clause-lines
returns-clause-lines c =
    let is = c.known.ensures.at in
    let again : map session_tree c.deref.result.now ≡ is.tree.sessions =
    ap (λ (ss : List Session). map session_tree ss) c.deref.ensures.value
    ∙ ap (λ (t : SpecTree). t.sessions) (c.in_ok-text.ensures is.tree is.is_spec) in
    IfOk-weaker c.step_lines.result (λ lines. lines.items ≡ step_lines (map session_tree c.deref.result.now))
    (λ lines. AreStepLines c.args.spec.now.text c.args.spec.now lines.items)
    (λ lines e. record { is = is; are = e ∙ ap step_lines again }) c.step_lines.ensures

pub returns-clause-each : goal.returns-clause-each
returns-clause-each c =
    IfOk-weaker c.step_lines.result (λ lines. AreStepLines c.args.spec.now.text c.args.spec.now lines.items)
    (λ lines. length lines.items ≡ length c.args.spec.now.run.steps)
    (λ lines of_spec. ap (λ (ls : List (List ℕ)). length ls) of_spec.are ∙ a-line-each c.args.spec.now.text c.args.spec.now of_spec.is c.ready.ensures)
    (returns-clause-lines c)

pub returns-clause-one_line : goal.returns-clause-one_line
returns-clause-one_line c =
    IfOk-weaker c.step_lines.result (λ lines. AreStepLines c.args.spec.now.text c.args.spec.now lines.items) (λ lines. All IsOneLine lines.items)
    (λ lines of_spec. subst (λ (ls : List (List ℕ)). All IsOneLine ls) (sym of_spec.are) (lines-blank of_spec.is.tree.sessions)) (returns-clause-lines c)
