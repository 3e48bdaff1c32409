use Rattle.std.proofs.Common.{◌∙◌, sym, subst, ap}
use Rattle.std.specs.Prelude.{IsUtf8}
use Rattle.compact_outcomes.specs.Told.{told_in, IsCompactOutcome}
use Rattle.compact_outcomes.proofs.PieceLemmas.{are-more, told-more}
use Rattle.compact_outcomes.proofs.TextLemmas.{text-is, text-told}
use Rattle.compact_outcomes.proofs.list.CompactOutcomes.push.Goals as goal

-- the text is that of the outcome, and stands behind the others up to the new end
pub invariant_of-self-2 : goal.invariant_of-self-2
invariant_of-self-2 c =
    let json = c.as_bytes.ensures.json in
    let utf8 = subst IsUtf8 (sym c.as_bytes.ensures.compact ∙ json) c.known.ensures.utf8 in
    let is = subst IsCompactOutcome (sym json) (text-is c.args.outcome.now c.known.ensures.fits utf8) in
    let texts = c.in_ok-extend_from_slice.ensures.items in
    let end = c.len.ensures ∙ c.extend_from_slice.new.self.ok.0 in
    let ends = c.push_reserved.ensures.items in
    rw (ends, c.in_ok-reserve.ensures.items, end, texts) (are-more _ _ _ c.self.invariant is)

pub returns-clause-ok : goal.returns-clause-ok
returns-clause-ok c =
    let json = c.as_bytes.ensures.json in
    let texts = c.in_ok-extend_from_slice.ensures.items in
    let end = c.len.ensures ∙ c.extend_from_slice.new.self.ok.0 in
    let ends = c.push_reserved.ensures.items in
    let told = ap told_in json ∙ text-told c.args.outcome.now c.known.ensures.fits in
    rw (ends, c.in_ok-reserve.ensures.items, end, texts, ← c.self.view_is, ← told) (told-more _ _ _ c.self.invariant)
