use Rattle.std.proofs.Common.{ap, ◌∙◌}
use Rattle.std.specs.Result.{result_ok}
use Rattle.std.proofs.lemmas.Fmt.{parse-decimal}
use Rattle.command_line.proofs.plain.number_of.Goals as goal

-- a number's decimal text is read as the number
pub returns : goal.returns
returns c = λ number small is. c.ok.ensures.value ∙ ap result_ok (parse-decimal 64 number c.args.word.now c.parse.result small small is c.parse.ensures.value.0)
