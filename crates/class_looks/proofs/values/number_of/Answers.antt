use Rattle.std.proofs.Common.{◌≡◌, sym, ap, ◌∙◌, true, false}
use Rattle.std.specs.Prelude.{⊤}
use Rattle.std.specs.Cmp.Lexicographic.{bytes_decides}
use Rattle.std.specs.Fmt.{signed_decimal}
use Rattle.std.specs.Int.{w64}
use Rattle.std.proofs.lemmas.Int.{to_z-of_z}
use Rattle.class_looks.proofs.ValueLemmas.{fits-read, no-number-read, no-number-written}
use Rattle.class_looks.proofs.values.number_of.Goals as goal

-- no number was read
pub returns-in-Err : goal.returns-in-Err
returns-in-Err c = no-number-read _ c.args.word.now c.in-Err.field-0 c.in-Err.ensures.value.0

-- the number that was read is written otherwise
pub returns-else-eq : goal.returns-else-eq
returns-else-eq c =
    let number = c.in-Ok.number in
    let parses = c.in-Ok.ensures.value.0 in
    let text = c.format.ensures.text ∙ ap signed_decimal (to_z-of_z w64 number (fits-read ⊤ c.args.word.now number parses)) in
    no-number-written ⊤ c.args.word.now number parses
    (λ e. (let both : false ≡ true = sym c.if-eq.false ∙ c.eq.ensures ∙ (bytes_decides c.format.result.now c.args.word.now).1 (text ∙ e) in cc))
