-- Lines that ask for a level, comment by comment.
use Rattle.std.proofs.Common.{◌≡◌, refl, sym, ap, ◌∙◌, ℕ, ◌+◌, ◌<◌, List, [], ◌∷◌, ◌++◌, length, map, take, get_or}
use Rattle.std.proofs.lemmas.List.{flat_map_more, map-append, take_more}
use Rattle.comment_lines.specs.Comments.{CommentLine, seen}
use Rattle.comment_lines.specs.declared.comments.Comment.{Comment}
use Rattle.spec_levels.specs.Asking.{AskingLine, asking_line, asking_lines}

-- those of one comment more
pub lines-more : (comments : List Comment) (i : ℕ) (d : Comment) (found more : List AskingLine) → i < length comments
    → found ≡ asking_lines (map seen (take i comments)) → more ≡ found ++ asking_line (seen (get_or comments i d))
    → more ≡ asking_lines (map seen (take (i + 1) comments))
lines-more comments i d found more within so_far pushed =
    let c = get_or comments i d in
    let front : map seen (take (i + 1) comments) ≡ map seen (take i comments) ++ seen c ∷ [] =
    ap (map seen) (take_more comments i d within) ∙ map-append seen (take i comments) (c ∷ []) in
    pushed ∙ ap (λ (xs : List AskingLine). xs ++ asking_line (seen c)) so_far ∙ flat_map_more asking_line [] (map seen (take i comments)) (seen c)
    ∙ ap asking_lines (sym front)
