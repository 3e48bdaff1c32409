-- The comments found and those to come, along the bytes of a text.
use Rattle.std.proofs.Common.{◌≡◌, sym, ap, ◌∙◌, subst, ℕ, suc, ◌+◌, ◌<◌, List, ◌∷◌, ◌++◌, length, get_or, drop, drop-cons, add-one, append_assoc}
use Rattle.comment_lines.specs.Comments.{CommentLine, comment_at, comments_from}
use Rattle.comment_lines.specs.Places.{behind}
use Rattle.comment_lines.specs.declared.places.Place.{Place}

-- those from one byte on are the one of the byte, and those behind it
pub comments-step : (place : Place) (text : List ℕ) (at : ℕ) → at < length text
    → comments_from place at (drop at text)
    ≡ comment_at place at (get_or text at 0) (drop (at + 1) text) ++ comments_from (behind place (get_or text at 0)) (at + 1) (drop (at + 1) text)
comments-step place text at inside =
    ap (comments_from place at) (drop-cons text at 0 inside)
    ∙ ap (λ (n : ℕ). comment_at place at (get_or text at 0) (drop n text) ++ comments_from (behind place (get_or text at 0)) n (drop n text)) (sym (add-one at))

-- with those of a byte found, they are all of them as before
pub walk-step : (found all : List CommentLine) (place : Place) (text : List ℕ) (at : ℕ) → at < length text
    → found ++ comments_from place at (drop at text) ≡ all
    → (found ++ comment_at place at (get_or text at 0) (drop (at + 1) text)) ++ comments_from (behind place (get_or text at 0)) (at + 1) (drop (at + 1) text) ≡ all
walk-step found all place text at inside so_far =
    append_assoc found (comment_at place at (get_or text at 0) (drop (at + 1) text)) (comments_from (behind place (get_or text at 0)) (at + 1) (drop (at + 1) text))
    ∙ ap (λ (xs : List CommentLine). found ++ xs) (sym (comments-step place text at inside)) ∙ so_far
