use Rattle.std.proofs.Common.{to_z, ◌≡◌, sym, ap, ◌∙◌, ◌∷◌, [], ◌++◌}
use Rattle.std.specs.Int.{w64}
use Rattle.std.specs.Fmt.{signed_decimal}
use Rattle.std.proofs.lemmas.Int.{to_z-of_z}
use Rattle.lock_modes.specs.declared.value.Value.TheVariants.{Int}
use Rattle.transcripts.specs.Compact.{bytes_cmp, cell_json}
use Rattle.transcripts.proofs.EventCodes.{int-decimal}
use Rattle.transcripts.proofs.SideBySide.{same-front}
use Rattle.transcripts.proofs.order.integer_order.Goals as goal

-- one number has one text
pub returns-then-a-b : goal.returns-then-a-b
returns-then-a-b c =
    let same : c.args.a ≡ c.args.b = sym (to_z-of_z w64 c.args.a c.ranges.a) ∙ ap (to_z w64) c.if-a-b.true ∙ to_z-of_z w64 c.args.b c.ranges.b in
    c.cmp.ensures ∙ sym (same-front (cell_json (Int c.args.a)) c.args.after_a c.args.after_b)
    ∙ (λ i. bytes_cmp (cell_json (Int c.args.a) ++ c.args.after_a ∷ []) (cell_json (Int (same i)) ++ c.args.after_b ∷ []))

-- the digits that are printed are those of the text
pub returns : goal.returns
returns c =
    let a = c.as_bytes-a.ensures.value ∙ c.format.ensures.text ∙ ap signed_decimal (to_z-of_z w64 c.args.a c.ranges.a)
    ∙ sym (int-decimal c.args.a c.ranges.a) in
    let b = c.as_bytes-b.ensures.value ∙ c.format-2.ensures.text ∙ ap signed_decimal (to_z-of_z w64 c.args.b c.ranges.b)
    ∙ sym (int-decimal c.args.b c.ranges.b) in
    c.ended_order.ensures ∙ (λ i. bytes_cmp (a i ++ c.args.after_a ∷ []) (b i ++ c.args.after_b ∷ []))
