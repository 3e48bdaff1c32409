-- The text of a book reads as the book's value.
use Rattle.std.proofs.Common.{◌≡◌, refl, sym, ap, ap₂, ◌∙◌, subst, ℕ, ◌-◌, ◌^◌, ◌<◌, ◌≤◌}
use Rattle.std.proofs.Common.{Bool, true, false, cond, ◌&&◌, List, [], ◌∷◌, ◌++◌, map}
use Rattle.std.proofs.Common.{codes, Some, append_assoc, append-nil, arith}
use Rattle.std.specs.Prelude.{All, option_map, option_and_then}
use Rattle.json.specs.Token.{Token, begin_object, end_object, begin_array, end_array, key, string, number, boolean, null, bad}
use Rattle.json.specs.Word.{ends_word, word}
use Rattle.json.specs.Lex.{Lexeme, token, comma, colon, string_token, lex, between, fresh, punctuate, tokens}
use Rattle.json.specs.Print.{escape, quoted, token_text, begins, ends, print_from, print, IsPrintable, ArePrintable}
use Rattle.json.specs.Json as json
use Rattle.json.specs.Tree as tree
use Rattle.json.proofs.Printed.Strings.{content-escape, lex-escape}
use Rattle.json.proofs.Printed.Numbers.{lex-number, in_word-ended}
use Rattle.json.proofs.Printed.Tokens.{tokens-print}
use Rattle.json.proofs.Printed.Trees.{value-json_tokens, ArePrintable-json_tokens}
use Rattle.serde_json.specs.Data as value
use Rattle.serde_json.specs.Read.{read, max_depth, of_json}
use Rattle.serde_json.specs.Written.{compact_text, outline}
use Rattle.serde_json.proofs.Texts.{print-outline}
use Rattle.serde_json.proofs.OnLiterals.{serde_json_on_literals}
use Rattle.transcripts.specs.Outcome.{OutcomeFits}
use Rattle.transcripts.specs.Json.{list, whole, outcome_data}
use Rattle.fact_books.specs.declared.run.Run.{Run}
use Rattle.fact_books.specs.declared.run.Tag.{Tag}
use Rattle.fact_books.specs.declared.run.Tag.TheVariants.{Ran, Swap}
use Rattle.fact_books.specs.Runs.{Table}
use Rattle.book_format.specs.Forms.{tag_number}
use Rattle.book_format.specs.BookText.{tag_data, run_data, book_data, book_text}
use Rattle.book_format.specs.Laws.{RunFits}
use Rattle.compact_outcomes.proofs.DataLemmas.{items-deep, told-deep}
use Rattle.compact_outcomes.proofs.TextLemmas.{IsPlain, of-outline, has-numbers, deep-outline, items-plain, told-plain}

-- ---- a line feed behind a text

abbrev token_lexemes : Token → List Lexeme
token_lexemes begin_object = token begin_object ∷ []
token_lexemes end_object = token end_object ∷ []
token_lexemes begin_array = token begin_array ∷ []
token_lexemes end_array = token end_array ∷ []
token_lexemes (key s) = token (string s) ∷ colon ∷ []
token_lexemes (string s) = token (string s) ∷ []
token_lexemes (number s) = token (number s) ∷ []
token_lexemes (boolean b) = token (boolean b) ∷ []
token_lexemes null = token null ∷ []
token_lexemes bad = []

-- after a value stands a comma, a closing bracket or nothing
value-ends : (ts : List Token) → ends_word (print_from true ts) ≡ true
unfolding print_from
value-ends [] = refl
value-ends (begin_object ∷ ts) = refl
value-ends (end_object ∷ ts) = refl
value-ends (begin_array ∷ ts) = refl
value-ends (end_array ∷ ts) = refl
value-ends (key s ∷ ts) = refl
value-ends (string s ∷ ts) = refl
value-ends (number s ∷ ts) = refl
value-ends (boolean b ∷ ts) = refl
value-ends (null ∷ ts) = refl
value-ends (bad ∷ ts) = refl

line-ends : (ts : List Token) → ends_word (print_from true ts ++ 10 ∷ []) ≡ true
unfolding print_from
line-ends [] = refl
line-ends (begin_object ∷ ts) = refl
line-ends (end_object ∷ ts) = refl
line-ends (begin_array ∷ ts) = refl
line-ends (end_array ∷ ts) = refl
line-ends (key s ∷ ts) = refl
line-ends (string s ∷ ts) = refl
line-ends (number s ∷ ts) = refl
line-ends (boolean b ∷ ts) = refl
line-ends (null ∷ ts) = refl
line-ends (bad ∷ ts) = refl

lex-quoted : (s r : List ℕ) → lex between (quoted s ++ r) ≡ token (string s) ∷ lex between r
unfolding lex
lex-quoted s r =
    ap (λ l. lex between (34 ∷ l)) (append_assoc (escape s) (34 ∷ []) r) ∙ ap₂ (λ o l. token (string_token o) ∷ l) (content-escape s r) (lex-escape s r)

lex-token : (t : Token) (r : List ℕ) → IsPrintable t → (ends t ≡ true → ends_word r ≡ true) → lex between (token_text t ++ r) ≡ token_lexemes t ++ lex between r
unfolding lex word
lex-token begin_object r h ended = refl
lex-token end_object r h ended = refl
lex-token begin_array r h ended = refl
lex-token end_array r h ended = refl
lex-token (key s) r h ended = ap (lex between) (append_assoc (quoted s) (58 ∷ []) r) ∙ lex-quoted s (58 ∷ r)
lex-token (string s) r h ended = lex-quoted s r
lex-token (number s) r h ended = lex-number s r h (ended refl)
lex-token (boolean true) r h ended = ap₂ (λ b l. token (cond b (boolean true) bad) ∷ l) (ended refl) (in_word-ended r (ended refl))
lex-token (boolean false) r h ended = ap₂ (λ b l. token (cond b (boolean false) bad) ∷ l) (ended refl) (in_word-ended r (ended refl))
lex-token null r h ended = ap₂ (λ b l. token (cond b null bad) ∷ l) (ended refl) (in_word-ended r (ended refl))
lex-token bad r h ended = absurd h

lex-separator : (b : Bool) (r : List ℕ) → lex between (cond b (44 ∷ []) [] ++ r) ≡ cond b (comma ∷ []) [] ++ lex between r
unfolding lex
lex-separator true r = refl
lex-separator false r = refl

lex-line : (c : Bool) (ts : List Token) → ArePrintable ts → lex between (print_from c ts ++ 10 ∷ []) ≡ lex between (print_from c ts)
unfolding lex print_from ArePrintable
lex-line c [] h = refl
lex-line c (t ∷ ts) h =
    let rest = print_from (ends t) ts in
    let comma = cond (c && begins t) (44 ∷ []) [] in
    ap (lex between) (append_assoc comma (token_text t ++ rest) (10 ∷ []) ∙ ap (λ l. comma ++ l) (append_assoc (token_text t) rest (10 ∷ [])))
    ∙ lex-separator (c && begins t) _ ∙ ap (λ l. cond (c && begins t) (Lexeme.comma ∷ []) [] ++ l)
    (lex-token t (rest ++ 10 ∷ []) h.0 (λ e. ap (λ b. ends_word (print_from b ts ++ 10 ∷ [])) e ∙ line-ends ts)
    ∙ ap (λ l. token_lexemes t ++ l) (lex-line (ends t) ts h.1) ∙ sym (lex-token t rest h.0 (λ e. ap (λ b. ends_word (print_from b ts)) e ∙ value-ends ts)))
    ∙ sym (lex-separator (c && begins t) _)

pub tokens-line : (ts : List Token) → ArePrintable ts → tokens (print ts ++ 10 ∷ []) ≡ ts
tokens-line ts h = ap (punctuate fresh) (lex-line false ts h) ∙ tokens-print ts h

-- a text of a value, and a line feed
read-line : (d : value.Data) → of_json (outline d) ≡ Some d → tree.HasNumbers (outline d) → value.depth d ≤ max_depth
    → read (compact_text d ++ 10 ∷ []) ≡ Some d
read-line d of numbers shallow =
    let ts = tree.json_tokens (outline d) in
    let same = ap (λ t. tokens (t ++ 10 ∷ [])) (sym (print-outline d)) ∙ tokens-line ts (ArePrintable-json_tokens (outline d) numbers) in
    let low : tree.depth (outline d) ≤ max_depth = subst (λ n. n ≤ max_depth) (sym (deep-outline d)) shallow in
    ap (option_and_then of_json)
    (ap (option_and_then (λ p. json.if_last p.0 p.1))
    (ap (json.value max_depth) (same ∙ sym (append-nil ts)) ∙ value-json_tokens (outline d) max_depth [] low))
    ∙ of

-- ---- the values of runs

run-plain : (run : Run) → RunFits run → IsPlain (run_data run)
run-plain run fits = on run.tag fits.2
  where
    on : (tag : Tag) → tag_number tag < 2 ^ 64 → IsPlain (list (whole run.first ∷ whole (run.end - run.first) ∷ tag_data tag))
    on (Ran n) lt = (fits.0, (let f = fits.1 in omega (arith, f), (tt, (lt, tt))))
    on (Swap k) lt = (fits.0, (let f = fits.1 in omega (arith, f), (tt, (lt, tt))))

run-deep : (run : Run) → value.depth (run_data run) ≤ 1
run-deep run = on run.tag
  where
    on : (tag : Tag) → value.depth (list (whole run.first ∷ whole (run.end - run.first) ∷ tag_data tag)) ≤ 1
    on (Ran n) = omega arith
    on (Swap k) = omega arith

-- ---- a book

of-book : (text : List ℕ) (table : Table) (runs : List Run) → of_json (outline (list (map run_data runs))) ≡ Some (list (map run_data runs))
    → of_json (outline (list (map outcome_data table))) ≡ Some (list (map outcome_data table))
    → of_json (outline (book_data text table runs)) ≡ Some (book_data text table runs)
unfolding serde_json_on_literals
of-book text table runs facts outcomes =
    let two = of-outline (whole 2) (omega arith) in
    λ i. option_map value.object (option_and_then (λ a. option_and_then (λ b. option_and_then (λ c. Some (value.put (codes "spec") (value.string text)
    (value.put (codes "outcomes") c (value.put (codes "format") b (value.put (codes "facts") a value.no_members))))) (outcomes i)) (two i)) (facts i))

-- the text of a book reads as its value
pub text-read : (text : List ℕ) (table : Table) (runs : List Run) → All OutcomeFits table → All RunFits runs
    → read (book_text text table runs) ≡ Some (book_data text table runs)
text-read text table runs fits few =
    let facts = items-plain run_data RunFits run-plain runs few in
    let outcomes = items-plain outcome_data OutcomeFits told-plain table fits in
    let a = items-deep run_data 1 run-deep runs in
    let b = items-deep outcome_data 4 told-deep table in
    read-line (book_data text table runs)
    (of-book text table runs (of-outline (list (map run_data runs)) facts) (of-outline (list (map outcome_data table)) outcomes))
    (has-numbers (list (map run_data runs)) facts, (has-numbers (whole 2) (omega arith), (has-numbers (list (map outcome_data table)) outcomes, (tt, tt))))
    (omega (arith, a, b))
