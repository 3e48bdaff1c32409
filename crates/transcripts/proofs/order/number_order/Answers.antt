use Rattle.std.proofs.Common.{sym, ◌∙◌, ◌∷◌, [], ◌++◌}
use Rattle.transcripts.specs.Compact.{bytes_cmp, whole_json}
use Rattle.transcripts.proofs.Codes.{bytes_tied}
use Rattle.transcripts.proofs.Digits.{whole-decimal}
use Rattle.transcripts.proofs.order.number_order.Goals as goal

-- one number has one text
pub returns-then-a-b : goal.returns-then-a-b
returns-then-a-b c = sym (bytes_tied (whole_json c.args.a ++ 93 ∷ []))
    ∙ (λ i. bytes_cmp (whole_json c.args.a ++ 93 ∷ []) (whole_json (c.if-a-b.true i) ++ 93 ∷ []))

pub returns : goal.returns
returns c =
    let a = c.as_bytes-a.ensures.value ∙ c.format.ensures.text ∙ sym (whole-decimal c.args.a c.ranges.a.fits) in
    let b = c.as_bytes-b.ensures.value ∙ c.format-2.ensures.text ∙ sym (whole-decimal c.args.b c.ranges.b.fits) in
    c.ended_order.ensures ∙ (λ i. bytes_cmp (a i ++ 93 ∷ []) (b i ++ 93 ∷ []))
