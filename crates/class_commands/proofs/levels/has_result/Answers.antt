use Rattle.std.proofs.Common.{◌≡◌, ◌↔◌, ◌∙◌, subst, sym, true}
use Rattle.std.specs.Option.{is_some}
use Rattle.lock_queues.specs.Reasons.{Among}
use Rattle.order_classes.specs.Letters.{answers_of}
use Rattle.class_commands.proofs.LevelLemmas.{found-among}
use Rattle.class_commands.proofs.levels.has_result.Goals as goal

pub returns : goal.returns
returns c =
    let known = c.args.results.now in
    let found = found-among known c.in_ok-answers.answers c.find.result c.find.ensures in
    subst (λ b. (b ≡ true) ↔ Among (answers_of c.args.row.now.shows) known) (sym c.is_some.ensures)
    (subst (λ a. (is_some c.find.result ≡ true) ↔ Among a known) c.in_ok-answers.ensures found)
