use Rattle.std.proofs.lemmas.Str.{IsCharBoundary-after_ascii}
use Rattle.comment_lines.proofs.comments.line_behind.Goals as goal

pub split_at-requires : goal.split_at-requires
split_at-requires c = IsCharBoundary-after_ascii c.args.text.now c.args.at c.utf8.text c.requires.inside c.requires.ascii
