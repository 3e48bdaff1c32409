use Rattle.std.proofs.Common.{sym, ◌∙◌, ◌≤◌, subst, length}
use Rattle.fault_texts.proofs.PlaceLemmas.{line-within, line-length}
use Rattle.fault_texts.proofs.place.line_len.Goals as goal

pub returns-clause-is : goal.returns-clause-is
returns-clause-is c = c.run_len.ensures ∙ line-length c.args.text.now

pub returns-clause-within : goal.returns-clause-within
returns-clause-within c = subst (λ n. n ≤ length c.args.text.now) (sym (c.run_len.ensures ∙ line-length c.args.text.now)) (line-within c.args.text.now)
