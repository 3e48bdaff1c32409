-- The statements that a block's text spells, each with its offset, and why a text spells none.
use Rattle.std.specs.Prelude.{◌≡◌, ◌⊎◌, ℕ, zero, suc, List, [], ◌∷◌, ◌++◌, map, drop, length, All, Option, Some, None, Result, Ok, Err, ⊤, if◌then◌else◌, codes}
use Rattle.sql_grammar.specs.declared.error.Failure.{Failure}
use Rattle.sql_grammar.specs.declared.error.Failure.TheVariants as failure
use Rattle.sql_grammar.specs.declared.error.SqlError.{SqlError}
use Rattle.sql_grammar.specs.declared.error.SqlErrorKind.TheVariants as kind
use Rattle.sql_grammar.specs.declared.error.Stop.{Stop as Stopped}
use Rattle.sql_grammar.specs.declared.error.Stop.TheVariants as stop
use Rattle.sql_grammar.specs.declared.statement.Statement.{Statement as Written}
use Rattle.sql_grammar.specs.Tokens.{End, Sign, Placed}
use Rattle.sql_grammar.specs.Lexing.{view_token, token_list}
use Rattle.sql_grammar.specs.Tree.{Last, More, Statement, Block, HasFewRows}
use Rattle.sql_grammar.specs.Grammar.{optional, statement, spelling, good, Fault, FirstFault}
use Rattle.sql_grammar.specs.Reading.{first, rest, at, refused, kind_of, and_then, maybe_statement, block}
use Rattle.sql_grammar.specs.Views.{view_form}

-- a statement and the offset of its first byte
abbrev pub StatementAt : Type 0
StatementAt = ℕ × Statement

-- no INSERT among them has more rows than may stand there
abbrev pub AllHaveFewRows : List StatementAt → Type 0
AllHaveFewRows ss = All (λ (s : StatementAt). HasFewRows s.1) ss

abbrev pub at_offset : ℕ → Option Statement → List StatementAt
at_offset n None = []
at_offset n (Some s) = (n, s) ∷ []

-- the statements of a block, without the empty ones: each begins with its first token
abbrev pub placed : Block → List Placed → List StatementAt
placed (Last s) ts = at_offset (first ts).at s
placed (More s b) ts = at_offset (first ts).at s ++ placed b (drop (suc (length (optional statement s))) ts)

-- The text of a block spells these statements, and passes no limit.
pub record IsSpelled (text : List ℕ) (ss : List StatementAt) : Type 0 where
  pub tree : Block
  pub spelled : spelling tree ≡ good (token_list text)
  pub statements : placed tree (token_list text) ≡ ss

abbrev pub fault_of_error : SqlError → Fault
fault_of_error e = record { kind = e.kind; at = e.offset }

-- why a text is refused: memory ran out, or this is its first fault
abbrev pub Explains : List ℕ → SqlError → Type 0
Explains text e = ((e.kind ≡ kind.NoMemory) × (e.offset ≡ 0)) ⊎ FirstFault (token_list text) (fault_of_error e)

abbrev pub seen : List Written → List StatementAt
seen ss = map (λ s. (s.at, view_form s.form)) ss

-- ---- from left to right

abbrev pub read_text : List ℕ → Result Block Fault
read_text bytes = block (token_list bytes)

abbrev pub fault_at : List Placed → Fault
fault_at ts = record { kind = refused (first ts).token; at = (first ts).at }

-- the first statement, if it is no empty one, and the tokens behind its semicolon, if there is one
abbrev pub ended_by : List StatementAt → List Placed → Result (List StatementAt × Option (List Placed)) Fault
ended_by ss ts =
    if at (Sign (codes ";")) ts then Ok (ss, Some (rest ts))
    else (if at End ts then Ok (ss, None) else Err (fault_at ts))

unfoldable pub next_statement : List Placed → Result (List StatementAt × Option (List Placed)) Fault
next_statement ts = and_then (maybe_statement ts) (λ s. ended_by (at_offset (first ts).at s.0) s.1)

abbrev pub with_front : List StatementAt → Result (List StatementAt) Fault → Result (List StatementAt) Fault
with_front ss (Ok more) = Ok (ss ++ more)
with_front ss (Err f) = Err f

abbrev pub then_more : Result (List StatementAt × Option (List Placed)) Fault
    → (List Placed → Result (List StatementAt) Fault) → Result (List StatementAt) Fault
then_more (Err f) more = Err f
then_more (Ok (ss, None)) more = Ok ss
then_more (Ok (ss, Some ts)) more = with_front ss (more ts)

-- the statements of a block, of no more than n
abbrev pub statements_from : ℕ → List Placed → Result (List StatementAt) Fault
statements_from zero ts = Err (record { kind = kind.Syntax; at = (first ts).at })
statements_from (suc n) ts = then_more (next_statement ts) (statements_from n)

abbrev pub pushed : {A : Type 0} → List StatementAt → Result (List StatementAt × A) Fault → Result (List StatementAt × A) Fault
pushed ss (Ok x) = Ok (ss ++ x.0, x.1)
pushed ss (Err f) = Err f

-- ---- what the code answers

-- what a stop comes to
abbrev pub failure_of : Stopped → Failure
failure_of stop.Memory = failure.Memory
failure_of (stop.At why here) = failure.Refused (record { kind = kind_of why (view_token here.token); offset = here.at })

-- A function gives what the reading gives, unless memory ran out.
abbrev pub Tells : {X A : Type 0} → (X → A) → Result X Failure → Result A Fault → Type 0
Tells see (Ok x) read = read ≡ Ok (see x)
Tells see (Err failure.Memory) read = ⊤
Tells see (Err (failure.Refused e)) read = read ≡ Err (fault_of_error e)
