use Rattle.std.specs.Prelude.{◌≡◌, ℕ, List, ◌++◌}
use Rattle.std.proofs.Common.{◌∙◌, sym, ap, append_assoc, arith}
use Rattle.shown_values.specs.Strings.{byte_text}
use Rattle.shown_values.proofs.Escaping.{byte-first, few-first, separator-first}
use Rattle.shown_values.proofs.strings.push_first.Goals as goal

-- what is pushed and what is left are the text
behind : (old new first rest text : List ℕ) → new ≡ old ++ first → text ≡ first ++ rest → new ++ rest ≡ old ++ text
behind old new first rest text pushed is = ap (λ out. out ++ rest) pushed ∙ append_assoc old first rest ∙ ap (λ t. old ++ t) (sym is)

-- a line separator
pub returns-then-is_separator-clause-pushed : goal.returns-then-is_separator-clause-pushed
returns-then-is_separator-clause-pushed c =
    behind _ _ _ _ _ (c.in_ok-push-in-len2-up.ensures ∙ ap (λ t. c.args.out.now.items ++ t) c.separator_text.ensures)
    (separator-first _ _ c.in-len2-up.len_at_least (sym c.is_separator.ensures ∙ c.if-is_separator.true))

-- a byte behind which fewer than two stand
pub returns-in_ok-push_byte-in_default-clause-pushed : goal.returns-in_ok-push_byte-in_default-clause-pushed
returns-in_ok-push_byte-in_default-clause-pushed c =
    behind _ _ (byte_text c.args.first) _ _ c.in_ok-push_byte-in_default.ensures (few-first _ _ (omega (arith, c.in_default.len_below)))

-- another byte
pub returns-in_ok-push_byte-in-len2-up-clause-pushed : goal.returns-in_ok-push_byte-in-len2-up-clause-pushed
returns-in_ok-push_byte-in-len2-up-clause-pushed c =
    behind _ _ (byte_text c.args.first) _ _ c.in_ok-push_byte-in-len2-up.ensures
    (byte-first _ _ c.in-len2-up.len_at_least (sym c.is_separator.ensures ∙ c.if-is_separator.false))
