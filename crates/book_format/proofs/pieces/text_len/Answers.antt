use Rattle.std.proofs.Common.{◌≡◌, ◌+◌, ◌∙◌, sym, ap, length, min, codes, rules}
use Rattle.std.specs.Prelude.{string_bytes}
use Rattle.std.specs.List.{join_by}
use Rattle.book_format.specs.Pieces.{run_text, told_text}
use Rattle.book_format.proofs.LengthLemmas.{length-parts, length-capped}
use Rattle.book_format.proofs.pieces.text_len.Goals as goal

pub returns : goal.returns
returns c =
    let pieces = c.args.pieces.now in
    let runs = c.runs_len.ensures ∙ ap (λ rs. min (length (join_by run_text (codes ",") rs)) 18446744073709551615) c.as_slice.ensures.value in
    let texts = c.outcomes_len.ensures ∙ ap (λ os. min (length (join_by told_text (codes ",") os)) 18446744073709551615) c.as_slice-2.ensures.value in
    let quoted : c.len.result ≡ length (string_bytes pieces.quoted) = search rules in
    let whole = length-parts pieces.runs.items pieces.outcomes.items (string_bytes pieces.quoted)
    ∙ ap (λ n. length (join_by run_text (codes ",") pieces.runs.items) + length (join_by told_text (codes ",") pieces.outcomes.items) + n + 46) (sym quoted) in
    length-capped 18446744073709551615 _ _ _ _ _ _ _ _ _ runs texts c.saturating_add.ensures c.saturating_add-2.ensures c.saturating_add-3.ensures whole
