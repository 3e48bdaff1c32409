use Rattle.std.proofs.Common.{ap, ◌∙◌}
use Rattle.std.specs.List.{prefix_len}
use Rattle.comment_lines.specs.Blanks.{is_blank}
use Rattle.comment_lines.proofs.BlankLemmas.{front-boundary}
use Rattle.comment_lines.proofs.blanks.after_blanks.Goals as goal

pub split_at-requires : goal.split_at-requires
split_at-requires c =
    front-boundary c.args.text.now c.utf8.text c.blanks_in_front.result (c.blanks_in_front.ensures ∙ ap (prefix_len is_blank) c.as_bytes.ensures.value)
