-- What is wrong with a token that cannot stand where it stands.
use Rattle.std.proofs.Common.{◌≡◌, refl, ℕ, List, Option, Some, None}
use Rattle.std.specs.Prelude.{is_some, if◌then◌else◌}
use Rattle.sql_grammar.specs.declared.error.SqlErrorKind.TheVariants.{Syntax, Unclosed}
use Rattle.sql_grammar.specs.Lexing.{text_token}
use Rattle.sql_grammar.specs.Reading.{refused}

-- a text is told as unclosed, where its quote is not closed
pub refused_text : (o : Option (List ℕ × ℕ)) → refused (text_token o) ≡ (if is_some o then Syntax else Unclosed)
refused_text None = refl
refused_text (Some x) = refl
