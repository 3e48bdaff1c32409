use Rattle.std.proofs.Common.{sym, ap, ◌∙◌, subst}
use Rattle.std.specs.Prelude.{IsUtf8}
use Rattle.compact_outcomes.specs.Told.{told_in, IsCompactOutcome}
use Rattle.compact_outcomes.proofs.TextLemmas.{text-is, text-told}
use Rattle.compact_outcomes.proofs.own.CompactText.of.Goals as goal

pub invariant_of-result : goal.invariant_of-result
invariant_of-result c =
    subst IsCompactOutcome (sym c.in_ok-make_text.ensures)
    (text-is c.args.outcome.now c.known.ensures (subst IsUtf8 (c.as_str-text.ensures.value ∙ c.in_ok-make_text.ensures) c.as_str-text.utf8))

pub returns : goal.returns
returns c = ap told_in c.in_ok-make_text.ensures ∙ text-told c.args.outcome.now c.known.ensures
