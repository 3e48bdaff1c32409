use Rattle.std.proofs.Common.{◌≡◌, sym, ◌∙◌, ◌∷◌, []}
use Rattle.std.specs.Ordering.{ordering_then}
use Rattle.json.specs.Print.{quoted}
use Rattle.transcripts.specs.Compact.{bytes_cmp}
use Rattle.transcripts.proofs.Codes.{closed-ended}
use Rattle.transcripts.proofs.Escapes.{quoted_closed}
use Rattle.transcripts.proofs.EventCodes.{int_past, past_int}
use Rattle.transcripts.proofs.order.cell_order.Goals as goal

-- a number stands behind a string
pub returns-in-Int-Text : goal.returns-in-Int-Text
returns-in-Int-Text c = let s = c.in-Int-Text in rw (s.is-0, s.is-1) (sym (int_past s.field-0-0 (c.args.after_a ∷ []) _))

-- two strings are told by themselves
pub returns-in-Text-Text : goal.returns-in-Text-Text
returns-in-Text-Text c =
    let s = c.in-Text-Text in
    let told : c.text_order.result ≡ bytes_cmp (quoted s.a) (quoted s.b) = c.text_order.ensures
    ∙ (λ i. bytes_cmp (quoted (c.as_str.ensures i)) (quoted (c.as_str-in-Text-Text.ensures i))) in
    rw (s.is-0, s.is-1)
    (c.then.ensures ∙ (λ i. ordering_then (told i) (c.cmp.ensures i)) ∙ sym (closed-ended quoted quoted_closed s.a s.b c.args.after_a c.args.after_b))

-- a string stands before a number
pub returns-in-Text-Int : goal.returns-in-Text-Int
returns-in-Text-Int c = let s = c.in-Text-Int in rw (s.is-0, s.is-1) (sym (past_int s.field-0-1 (c.args.after_b ∷ []) _))
