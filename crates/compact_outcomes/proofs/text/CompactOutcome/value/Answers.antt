use Rattle.std.proofs.Common.{◌≡◌, sym, ap, ◌∙◌, subst}
use Rattle.std.specs.Prelude.{IsUtf8}
use Rattle.serde_json.specs.Read.{read}
use Rattle.serde_json.specs.View.{view}
use Rattle.transcripts.specs.Json.{outcome_data}
use Rattle.compact_outcomes.proofs.TextLemmas.{outcome-read}
use Rattle.compact_outcomes.proofs.text.CompactOutcome.value.Goals as goal

-- the text of an outcome is read
pub unreachable-requires : goal.unreachable-requires
unreachable-requires c =
    let utf8 = subst IsUtf8 (sym c.as_bytes.ensures.compact) c.known.ensures.utf8 in
    let none = c.in-Err.ensures.err (λ memory. let yes = c.is_memory.ensures.1 memory in let no = c.if-is_memory.false in cc) utf8 in
    let some = ap read c.as_bytes.ensures.json ∙ outcome-read c.args.self.now c.known.ensures.fits in
    cc

pub returns : goal.returns
returns c =
    let given = sym c.in-Ok.ensures.ok.1 ∙ ap read c.as_bytes.ensures.json ∙ outcome-read c.args.self.now c.known.ensures.fits in
    let same : view c.in-Ok.value ≡ outcome_data c.args.self.now = cc in same
