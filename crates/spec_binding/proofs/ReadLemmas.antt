-- What is read of a block, and why it is refused.
use Rattle.std.proofs.Common.{◌≡◌, ◌≢◌, refl, ap, subst, ◌∙◌, ℕ, List, ◌∷◌, Result, Ok, Err, inl, inr}
use Rattle.std.specs.Prelude.{◌↔◌}
use Rattle.sql_grammar.specs.Grammar.{Fault, FirstFault, good, IsKind, bad_token, unclosed, unsupported, syntax, over}
use Rattle.sql_grammar.specs.Tokens.{Token, Placed}
use Rattle.sql_grammar.specs.declared.error.Limit.TheVariants.{NumberTooLarge, TooLarge}
use Rattle.sql_grammar.specs.declared.error.SqlErrorKind.{SqlErrorKind as Kind}
use Rattle.sql_grammar.specs.Lexing.{token_list}
use Rattle.sql_grammar.specs.Text.{StatementAt, IsSpelled, Explains, AllHaveFewRows, fault_of_error}
use Rattle.sql_grammar.specs.declared.error.SqlError.{SqlError}
use Rattle.sql_grammar.specs.declared.error.SqlErrorKind.TheVariants as kind
use Rattle.sql_reader.proofs.FaultLemmas.{fault-one}
use Rattle.sql_reader.proofs.Laws.{good-append}
use Rattle.sql_reader.proofs.RowLemmas.{spelled-few}
use Rattle.sql_reader.proofs.TextLemmas.{read-complete, read-sound, read-fault}
use Rattle.bound_specs.specs.Binding.{read_at, read_text}

pub read-is : (text : List ℕ) (ss : List StatementAt) → IsSpelled text ss → read_text text ≡ Ok ss
read-is text ss h = read-complete text ss h

-- a text that has a first fault spells nothing
pub read-refused : (text : List ℕ) (e : SqlError) → Explains text e → e.kind ≢ kind.NoMemory
    → ((ss : List StatementAt) → IsSpelled text ss → e.kind ≡ kind.NoMemory) → read_text text ≡ Err (fault_of_error e)
read-refused text e h n only = go (read_text text) refl h
  where
    go : (r : Result (List StatementAt) Fault) → read_text text ≡ r → Explains text e → r ≡ Err (fault_of_error e)
    go (Ok ss) p w = absurd (n (only ss (read-sound text ss p)))
    go (Err f) p (inl w) = absurd (n w.0)
    go (Err f) p (inr w) = ap (λ (g : Fault). Err g) (fault-one (token_list text) f (fault_of_error e) (read-fault text f p) w)

-- what is read of a block has few rows
pub read-few : (text : List ℕ) (at : ℕ) (ss : List StatementAt) → read_at at (read_text text) ≡ Ok ss → AllHaveFewRows ss
read-few text at ss e = go (read_text text) refl e
  where
    go : (r : Result (List StatementAt) Fault) → read_text text ≡ r → read_at at r ≡ Ok ss → AllHaveFewRows ss
    go (Ok us) p h = let same : us ≡ ss = cc (h) in subst AllHaveFewRows same (spelled-few text us (read-sound text us p))
    go (Err f) p h = absurd (cc h)

-- ---- what is read is what the grammar says

-- a text that spells statements has no first fault
spelled-faultless : (text : List ℕ) (ss : List StatementAt) (f : Fault) → IsSpelled text ss → FirstFault (token_list text) f → ⊥
spelled-faultless text ss f h w =
    w.bad (record {
      tree = h.tree;
      rest = good w.after;
      whole = h.spelled ∙ ap good w.parts ∙ good-append w.front (w.here ∷ w.after);
    })

pub spelled-is : (text : List ℕ) (ss : List StatementAt) → (read_text text ≡ Ok ss) ↔ IsSpelled text ss
spelled-is text ss = (read-sound text ss, read-is text ss)

pub refused-is : (text : List ℕ) (f : Fault) → (read_text text ≡ Err f) ↔ FirstFault (token_list text) f
refused-is text f = (read-fault text f, λ w. go (read_text text) refl w)
  where
    go : (r : Result (List StatementAt) Fault) → read_text text ≡ r → FirstFault (token_list text) f → read_text text ≡ Err f
    go (Ok ss) p w = absurd (spelled-faultless text ss f (read-sound text ss p) w)
    go (Err g) p w = p ∙ ap (λ (k : Fault). Err k) (fault-one (token_list text) g f (read-fault text g p) w)

-- no fault of a text is want of memory
kind-not : (front : List Placed) (t : Token) (k : Kind) → IsKind front t k → k ≢ kind.NoMemory
kind-not front t _ (bad_token e) h = absurd (cc h)
kind-not front t _ (unclosed e) h = absurd (cc h)
kind-not front t _ (unsupported w a c) h = absurd (cc h)
kind-not front t _ (syntax i w c) h = absurd (cc h)
kind-not front t _ (over NumberTooLarge o) h = absurd (cc h)
kind-not front t _ (over TooLarge o) h = absurd (cc h)

pub fault-not : (text : List ℕ) (f : Fault) → FirstFault (token_list text) f → f.kind ≢ kind.NoMemory
fault-not text f w = kind-not w.front w.here.token f.kind w.kind
