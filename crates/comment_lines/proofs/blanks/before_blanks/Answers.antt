use Rattle.std.proofs.Common.{arith, ap, ◌∙◌}
use Rattle.comment_lines.specs.Blanks.{is_blank}
use Rattle.std.specs.List.{suffix_len}
use Rattle.comment_lines.proofs.BlankLemmas.{end-boundary, suffix_len-le-length}
use Rattle.comment_lines.proofs.blanks.before_blanks.Goals as goal

pub overflow_sub-text : goal.overflow_sub-text
overflow_sub-text c =
    omega (arith, c.blanks_at_end-count.ensures ∙ ap (suffix_len is_blank) c.as_bytes.ensures.value, suffix_len-le-length c.args.text.now)

pub split_at-requires : goal.split_at-requires
split_at-requires c =
    end-boundary c.args.text.now c.blanks_at_end-count.result (c.blanks_at_end-count.ensures ∙ ap (suffix_len is_blank) c.as_bytes.ensures.value)
