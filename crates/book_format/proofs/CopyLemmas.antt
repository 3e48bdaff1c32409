-- A text whose tokens are written again, with nothing between them and a line feed behind them, is a text of the same value.
use Rattle.std.proofs.Common.{◌≡◌, refl, sym, ap, subst, ◌∙◌, ℕ, List, [], ◌∷◌, ◌++◌, append_assoc, append-nil}
use Rattle.std.specs.Prelude.{IsUtf8, option_and_then}
use Rattle.std.proofs.lemmas.Str.{IsUtf8-append}
use Rattle.json.specs.Token.{Token}
use Rattle.json.specs.Lex.{tokens}
use Rattle.json.specs.Json as json
use Rattle.json.specs.Print.{print, ArePrintable, IsPrintable}
use Rattle.json.specs.Written.{Written}
use Rattle.json.proofs.Printed.Utf8.{IsUtf8-are_ascii}
use Rattle.serde_json.specs.Read.{max_depth, of_json, read}
use Rattle.book_format.specs.Compacting.{AreAlike, IsCopied}
use Rattle.book_format.proofs.TextLemmas.{tokens-line}

printable-last : (ts : List Token) (t : Token) → ArePrintable ts → IsPrintable t → ArePrintable (ts ++ t ∷ [])
unfolding ArePrintable
printable-last [] t all this = (this, tt)
printable-last (u ∷ ts) t all this = (all.0, printable-last ts t all.1 this)

-- nothing is written yet
pub copied-none : (all left : List Token) (written : Written) → written.before ≡ [] → written.tokens ≡ [] → left ≡ all → IsCopied all left written
unfolding ArePrintable
copied-none all left written before none same =
    record {
      before = before;
      parts = ap (λ ts. ts ++ left) none ∙ same;
      printable = subst ArePrintable (sym none) tt;
    }

-- one token more is written
pub copied-next : (all old left : List Token) (was written : Written) (t : Token) → IsCopied all old was → old ≡ t ∷ left
    → (written.before ≡ was.before) × (written.tokens ≡ was.tokens ++ t ∷ []) × IsPrintable t → IsCopied all left written
copied-next all old left was written t copied next (before, tokens, this) =
    record {
      before = before ∙ copied.before;
      parts = ap (λ ts. ts ++ left) tokens ∙ append_assoc was.tokens (t ∷ []) left ∙ ap (λ ts. was.tokens ++ ts) (sym next) ∙ copied.parts;
      printable = subst ArePrintable (sym tokens) (printable-last was.tokens t copied.printable this);
    }

-- a text is read by its tokens
same-value : (a b : List ℕ) → tokens a ≡ tokens b → read a ≡ read b
same-value a b same = ap (λ ts. option_and_then of_json (option_and_then (λ p. json.if_last p.0 p.1) (json.value max_depth ts))) same

-- none is left
pub copied-whole : (all left : List Token) (written : Written) → IsCopied all left written → left ≡ [] → IsCopied all [] written
copied-whole all left written copied none = subst (λ ts. IsCopied all ts written) none copied

-- all tokens are written
pub copied-alike : (text items bytes : List ℕ) (written : Written) → IsCopied (tokens text) [] written → IsUtf8 text
    → items ≡ written.before ++ print written.tokens → IsUtf8 (print written.tokens) → bytes ≡ items ++ 10 ∷ [] → AreAlike text bytes
copied-alike text items bytes written copied is_text held is_print pushed =
    let all : written.tokens ≡ tokens text = sym (append-nil written.tokens) ∙ copied.parts in
    let is : bytes ≡ print written.tokens ++ 10 ∷ [] = pushed ∙ ap (λ bs. bs ++ 10 ∷ []) (held ∙ ap (λ bs. bs ++ print written.tokens) copied.before) in
    let same : read bytes ≡ read text = same-value bytes text (ap tokens is ∙ tokens-line written.tokens copied.printable ∙ all) in
    let is_compact : IsUtf8 bytes = subst IsUtf8 (sym is) (IsUtf8-append _ _ is_print (IsUtf8-are_ascii (10 ∷ []) refl)) in
    λ d. ((λ v. (is_compact, same ∙ v.1)), (λ v. (is_text, sym same ∙ v.1)))
