use Rattle.std.proofs.Common.{sym, ◌∙◌}
use Rattle.fault_texts.proofs.BlankLemmas.{blank-tab, blank-space, blank-rest}
use Rattle.fault_texts.proofs.cut.blank_for.Goals as goal

pub returns-then-byte-eq9 : goal.returns-then-byte-eq9
returns-then-byte-eq9 c = blank-tab c.args.byte c.if-byte-eq9.true

pub returns-then-is_start : goal.returns-then-is_start
returns-then-is_start c = blank-space c.args.byte c.if-byte-eq9.false (sym c.is_start.ensures ∙ c.if-is_start.true)

pub returns : goal.returns
returns c = blank-rest c.args.byte (sym c.is_start.ensures ∙ c.if-is_start.false)
