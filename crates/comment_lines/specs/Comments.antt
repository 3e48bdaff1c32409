-- The comments of a spec file that have their line for themselves.
use Rattle.std.specs.Prelude.{ℕ, suc, List, [], ◌∷◌, ◌++◌, length, take, drop, cond, Option, None, Some, bytes_eq, take_while}
use Rattle.byte_runs.specs.declared.runs.Class.TheVariants as class
use Rattle.byte_runs.specs.Bytes.{in_class}
use Rattle.comment_lines.specs.Blanks.{after_blanks, trimmed}
use Rattle.comment_lines.specs.Places.{begins_comment, behind}
use Rattle.comment_lines.specs.declared.comments.Comment.{Comment}
use Rattle.comment_lines.specs.declared.places.Place.{Place}
use Rattle.comment_lines.specs.declared.places.Place.TheVariants.{Margin}

-- a comment: the offset of its sign, and what stands behind that on its line
pub record CommentLine : Type 0 where
  pub at : ℕ
  pub text : List ℕ

-- what the code has
abbrev pub seen : Comment → CommentLine
seen c = record { at = c.at; text = c.text.now }

-- the one that begins with this byte, at this offset, where one does
abbrev pub comment_at : Place → ℕ → ℕ → List ℕ → List CommentLine
comment_at place at b bs = cond (begins_comment place b) (record { at = at; text = take_while (in_class class.Comment) bs } ∷ []) []

-- those of some bytes, of which the first stands at this offset
abbrev pub comments_from : Place → ℕ → List ℕ → List CommentLine
comments_from place at [] = []
comments_from place at (b ∷ bs) = comment_at place at b bs ++ comments_from (behind place b) (suc at) bs

abbrev pub comment_lines : List ℕ → List CommentLine
comment_lines text = comments_from Margin 0 text

-- what stands behind a label at the front of a comment, without the blanks at its ends
abbrev pub behind_label : List ℕ → List ℕ → Option (List ℕ)
behind_label label text =
    cond (bytes_eq (take (length label) (after_blanks text)) label) (Some (trimmed (drop (length label) (after_blanks text)))) None
