use Rattle.std.proofs.Common.{sym, ap, ◌∙◌, subst, option_map, Some, IsUtf8}
use Rattle.class_looks.proofs.ValueLemmas.{no-text-single, no-text-bytes, text-is}
use Rattle.class_looks.proofs.values.text_of.Goals as goal

-- a quote stands alone
pub returns-in_default-2 : goal.returns-in_default-2
returns-in_default-2 c =
    no-text-single c.args.word.now c.in-Some.inner.now (c.in-Some.ensures ∙ c.as_bytes.ensures.value)
    (sym c.in_ok-bytes.ensures ∙ ap (option_map (λ v. v.items)) c.in_default-2.is)

pub returns-in-Ok : goal.returns-in-Ok
returns-in-Ok c =
    text-is c.args.word.now c.in-Some.inner.now c.in_ok-from_str-in-Ok.field-0 (c.in-Some.ensures ∙ c.as_bytes.ensures.value)
    (sym c.in_ok-bytes.ensures
    ∙ ap (option_map (λ v. v.items)) c.in-Some-2.is
    ∙ ap Some (sym c.deref.ensures.value ∙ sym c.in-Ok.ensures.cases.0 ∙ sym c.in_ok-from_str-in-Ok.ensures))

-- the bytes are no text
pub returns : goal.returns
returns c =
    no-text-bytes c.args.word.now c.in-Some.inner.now c.in-Some-2.bytes.items (c.in-Some.ensures ∙ c.as_bytes.ensures.value)
    (sym c.in_ok-bytes.ensures ∙ ap (option_map (λ v. v.items)) c.in-Some-2.is)
    (λ utf8. c.in-Err.ensures.cases.0 (subst IsUtf8 (sym c.deref.ensures.value) utf8))
