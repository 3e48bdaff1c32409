-- Refusals, their numbers in the order of their list, and what is bound or refused.
use Rattle.std.specs.Prelude.{◌≡◌, ◌≢◌, ℕ, Bool, List, [], ◌∷◌, ◌++◌, Result, Ok, Err, if◌then◌else◌, ⊤}
use Rattle.sql_grammar.specs.declared.error.SqlErrorKind.TheVariants as sql
use Rattle.binding_model.specs.declared.error.BindErrorKind.{BindErrorKind}
use Rattle.binding_model.specs.declared.error.BindErrorKind.TheVariants.{Sql, UnknownTable, UnknownColumn, TypeMismatch, KeyChanged, DuplicateTable, WrongCount, Shape, NoMemory}
use Rattle.binding_model.specs.declared.error.BindError.{BindError}
use Rattle.binding_model.specs.declared.error.BindStop.{BindStop}
use Rattle.binding_model.specs.declared.error.BindStop.TheVariants.{Memory, Refused}

abbrev pub bind_number_of : BindErrorKind → ℕ
bind_number_of (Sql kind) = 1
bind_number_of UnknownTable = 2
bind_number_of UnknownColumn = 3
bind_number_of TypeMismatch = 4
bind_number_of KeyChanged = 5
bind_number_of DuplicateTable = 6
bind_number_of WrongCount = 7
bind_number_of Shape = 8
bind_number_of NoMemory = 9

-- what binding a part gives, or its first refusal
abbrev pub Bind : Type 0 → Type 0
Bind X = Result X BindError

infixl 10 ◌>>=◌
abbrev pub ◌>>=◌ : {A B : Type 0} → Bind A → (A → Bind B) → Bind B
(Ok x) >>= f = f x
(Err e) >>= f = Err e

abbrev pub refuse : {X : Type 0} → ℕ → BindErrorKind → Bind X
refuse at kind = Err (record { kind = kind; offset = at })

-- refused where the test says so, and else this
abbrev pub unless : {X : Type 0} → Bool → ℕ → BindErrorKind → Bind X → Bind X
unless test at kind other = if test then refuse at kind else other

-- what is bound so far, and what is bound next
abbrev pub with_front : {X : Type 0} → List X → Bind (List X) → Bind (List X)
with_front xs (Ok ys) = Ok (xs ++ ys)
with_front xs (Err e) = Err e

-- one after another
abbrev pub each : {A X : Type 0} → (A → Bind X) → List A → Bind (List X)
each f [] = Ok []
each f (a ∷ as') = f a >>= λ x. with_front (x ∷ []) (each f as')

-- A function gives what is bound, or the first refusal, unless memory ran out.
abbrev pub Binds : {X Y : Type 0} → (X → Y) → Result X BindStop → Bind Y → Type 0
Binds view (Ok x) b = b ≡ Ok (view x)
Binds view (Err (Refused e)) b = b ≡ Err e
Binds view (Err Memory) b = ⊤

-- the kind is no want of memory, in reading SQL or in binding
abbrev pub IsNamed : BindErrorKind → Type 0
IsNamed (Sql kind) = kind ≢ sql.NoMemory
IsNamed NoMemory = ⊥
IsNamed k = ⊤
