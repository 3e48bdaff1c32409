use Rattle.std.proofs.Common.{◌≡◌, sym, ap, ◌∙◌, subst, ◌+◌, ◌<◌, ◌++◌, ℕ, List, length, get_or, drop, map}
use Rattle.comment_lines.specs.Comments.{CommentLine, comment_at, comment_lines, comments_from, seen}
use Rattle.comment_lines.specs.Places.{behind}
use Rattle.comment_lines.specs.declared.places.Place.{Place}
use Rattle.comment_lines.proofs.WalkLemmas.{walk-step}
use Rattle.comment_lines.proofs.comments.comment_lines.Goals as goal

pub loop-at-preserved : goal.loop-at-preserved
loop-at-preserved c =
    let text = c.args.text.now in
    let at = c.loop-at.at in
    let before = map seen c.loop-at.comments.items in
    let inside = subst (λ (bytes : List ℕ). at < length bytes) c.as_bytes-bytes.ensures.value c.loop-at-test.true in
    let byte : get_or c.as_bytes-bytes.result.now at 0 ≡ get_or text at 0 = ap (λ (bytes : List ℕ). get_or bytes at 0) c.as_bytes-bytes.ensures.value in
    let place : c.behind-place.result ≡ behind c.loop-at.place (get_or text at 0) = c.behind-place.ensures ∙ ap (behind c.loop-at.place) byte in
    let pushed : map seen c.push_comment.new.comments.items ≡ before ++ comment_at c.loop-at.place at (get_or text at 0) (drop (at + 1) text) = c.in_ok-push_comment.ensures in
    ap (λ (found : List CommentLine). found ++ comments_from c.behind-place.result (at + 1) (drop (at + 1) text)) pushed
    ∙ ap (λ (p : Place). (before ++ comment_at c.loop-at.place at (get_or text at 0) (drop (at + 1) text)) ++ comments_from p (at + 1) (drop (at + 1) text)) place
    ∙ walk-step before (comment_lines text) c.loop-at.place text at inside c.loop-at.invariant
