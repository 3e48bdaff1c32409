use Rattle.std.proofs.Common.{◌≡◌, ◌∷◌, sym, ap, ◌∙◌}
use Rattle.std.proofs.lemmas.Slice.Eq.{bytes_eq-Decides}
use Rattle.json.specs.Token.{Token}
use Rattle.json.specs.Reads.{token_of}
use Rattle.book_files.proofs.MemberLemmas.{text-at}
use Rattle.book_files.proofs.parts.is_text.Goals as goal

pub returns-in-Some-String : goal.returns-in-Some-String
returns-in-Some-String c = λ same.
    let is : c.args.reader.now ≡ Token.string c.in-Some-String.next.now ∷ c.next.new.self =
    c.in-Some-String.ensures.value ∙ ap (λ k. token_of k ∷ c.next.new.self) c.in-Some-String.field-0-is in
    text-at c.args.reader.now c.next.new.self c.in-Some-String.next.now c.args.text.now is
    ((bytes_eq-Decides c.in-Some-String.next.now c.args.text.now).0 (sym c.eq.ensures ∙ same))
