use Rattle.std.proofs.Common.{ap, ◌∙◌, subst, ◌≡◌, Option, Some, None, ℕ, List}
use Rattle.comment_lines.specs.Blanks.{trimmed}
use Rattle.comment_lines.proofs.LabelLemmas.{label_of, label-found, label-lacking}
use Rattle.comment_lines.proofs.comments.behind_label.Goals as goal

pub returns-in-Some : goal.returns-in-Some
returns-in-Some c =
    let front = c.after_blanks.result.now in
    let at = c.in-Some.ensures.cases in
    ap (λ (word : List ℕ). Some word) c.trimmed.ensures
    ∙ subst (λ (f : List ℕ). ◌≡◌ {A = Option (List ℕ)} (Some (trimmed c.in-Some.rest.now)) (label_of c.args.label.now f)) c.after_blanks.ensures
    (label-found c.args.label.now front at.0 c.in-Some.rest.now at.1.0 at.1.1 at.2)

pub returns-in-None : goal.returns-in-None
returns-in-None c =
    subst (λ (f : List ℕ). ◌≡◌ {A = Option (List ℕ)} None (label_of c.args.label.now f)) c.after_blanks.ensures
    (label-lacking c.args.label.now c.after_blanks.result.now c.in-None.ensures.cases)
