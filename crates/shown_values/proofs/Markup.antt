-- No part of the JSON of an order has a sign that markup is made of.
use Rattle.std.specs.Prelude.{◌≡◌, refl, ℕ, zero, suc, ◌+◌, ◌<◌, ◌≤◌, ◌/◌, ◌%◌, ◌==◌, ◌||◌, nat_lt, Bool, true, false, if◌then◌else◌}
use Rattle.std.specs.Prelude.{List, [], ◌∷◌, ◌++◌, Option, Some, None, codes, decimal, flat_map, zip}
use Rattle.std.proofs.Common.{ap, ◌∙◌, arith}
use Rattle.std.proofs.lemmas.Bool.{agree_below_at}
use Rattle.std.proofs.lemmas.Bool.Decides.{nat_tests}
use Rattle.std.proofs.lemmas.List.Folds.{list_any-append}
use Rattle.std.specs.Fmt.{digit_glyph, digits, digits_onto}
use Rattle.std.specs.List.{join_by, list_any}
use Rattle.json.specs.Print.{escape_byte}
use Rattle.json.proofs.Printed.Strings.{escape_byte_plain}
use Rattle.bound_statements.specs.declared.statement.Level.{Level}
use Rattle.bound_statements.specs.declared.statement.Level.TheVariants.{Serializable, Committed}
use Rattle.lock_modes.specs.Rows.{Tuple}
use Rattle.lock_modes.specs.declared.mode.Mode.{Mode}
use Rattle.lock_modes.specs.declared.mode.Mode.TheVariants.{IntentShare, IntentExclusive, Share, ShareIntent, Exclusive}
use Rattle.lock_modes.specs.declared.resource.Resource.{Resource}
use Rattle.lock_modes.specs.declared.value.Value.{Value}
use Rattle.lock_queues.specs.declared.reason.Reason.{Reason}
use Rattle.lock_queues.specs.declared.reason.Reason.TheVariants.{Holds, Ahead}
use Rattle.lock_queues.specs.declared.reason.Edge.{Edge}
use Rattle.lock_queues.specs.declared.told.Hop.{Hop}
use Rattle.lock_queues.specs.Reasons.{Want}
use Rattle.machine_model.specs.declared.status.Status.{Status}
use Rattle.machine_model.specs.declared.status.Status.TheVariants.{Outside, InBlock, Broken}
use Rattle.line_moments.specs.declared.moment.Change.{Change}
use Rattle.line_moments.specs.declared.moment.Change.TheVariants.{Had, LetGo}
use Rattle.line_moments.specs.declared.moment.Ending.{Ending}
use Rattle.line_moments.specs.declared.moment.Ending.TheVariants.{Ended, Awaits, Loses, Lacks}
use Rattle.line_moments.specs.declared.moment.Manner.{Manner}
use Rattle.line_moments.specs.declared.moment.Manner.TheVariants.{IsSent, IsResumed, IsNotSent}
use Rattle.events.specs.declared.event.Event.{Event}
use Rattle.line_moments.specs.declared.moment.Still.{Still}
use Rattle.line_moments.specs.declared.stale.Stale.{Stale}
use Rattle.line_moments.specs.declared.moment.Moment.{Moment}
use Rattle.line_moments.specs.declared.shown.Begun.{Begun}
use Rattle.line_moments.specs.declared.shown.Left.{Left}
use Rattle.line_moments.specs.declared.shown.Shown.{Shown}
use Rattle.line_moments.specs.declared.shown.Standing.{Standing}
use Rattle.line_moments.specs.declared.shown.Standing.TheVariants.{HasEnded, IsOpen, HasFailed, StillWaits}
use Rattle.shown_values.specs.Strings.{array_json, by_number, byte_text, escaped, is_markup, is_separator, separator_text, string_json}
use Rattle.shown_values.specs.Words.{manner_json, mode_json, name_of, number_json, resource_json, status_json, told, line_json}
use Rattle.shown_values.specs.Levels.{asked_json, level_word, levels_json}
use Rattle.shown_values.specs.Moments.{change_json, edge_json, end_json, ending_json, going_json, has_json, hop_json, lock_json, moment_json}
use Rattle.shown_values.specs.Moments.{reason_json, stale_json, stales_json, still_json, want_json}
use Rattle.shown_values.specs.Page.{Sheet, begun_json, entry_json, left_json, numbers_json, open_from, open_json, order_json, page_json, shown_json, step_json, table_json}
use Rattle.shown_values.specs.Laws.{IsFree}

-- ---- parts of a text

-- two parts
pub both : (xs ys : List ℕ) → IsFree xs → IsFree ys → IsFree (xs ++ ys)
both xs ys f g = list_any-append is_markup xs ys ∙ (λ i. f i || g i)

either : (b : Bool) (xs ys : List ℕ) → IsFree xs → IsFree ys → IsFree (if b then xs else ys)
either true xs ys f g = f
either false xs ys f g = g

-- the text of each item
abbrev pub EachFree : {X : Type 0} → (X → List ℕ) → List X → Type 0
EachFree f [] = Unit {0}
EachFree f (x ∷ xs) = IsFree (f x) × EachFree f xs

pub every : {X : Type 0} (f : X → List ℕ) → ((x : X) → IsFree (f x)) → (xs : List X) → EachFree f xs
every f free [] = tt
every f free (x ∷ xs) = (free x, every f free xs)

-- pieces, each behind a comma
pieces-free : {X : Type 0} (f : X → List ℕ) (xs : List X) → EachFree f xs → IsFree (flat_map (λ x. codes "," ++ f x) xs)
pieces-free f [] each = refl
pieces-free f (x ∷ xs) each = both (f x) _ each.0 (pieces-free f xs each.1)

pub join-free : {X : Type 0} (f : X → List ℕ) (xs : List X) → EachFree f xs → IsFree (join_by f (codes ",") xs)
join-free f [] each = refl
join-free f (x ∷ xs) each = both (f x) _ each.0 (pieces-free f xs each.1)

pub items-free : {X : Type 0} (f : X → List ℕ) (xs : List X) → EachFree f xs → IsFree (array_json f xs)
items-free f xs each = both (join_by f (codes ",") xs) (codes "]") (join-free f xs each) refl

pub array-free : {X : Type 0} (f : X → List ℕ) → ((x : X) → IsFree (f x)) → (xs : List X) → IsFree (array_json f xs)
array-free f free xs = items-free f xs (every f free xs)

-- ---- numbers

digit-free : (n : ℕ) → is_markup (digit_glyph false (n % 10)) ≡ false
digit-free n = agree_below_at (λ d. is_markup (digit_glyph false d)) (λ d. false) 10 (n % 10) refl (omega arith)

digits-free : (k n : ℕ) (behind : List ℕ) → IsFree behind → IsFree (digits_onto k 10 false n behind)
digits-free zero n behind f = f
digits-free (suc k) n behind f =
    let more : IsFree (digit_glyph false (n % 10) ∷ behind) = λ i. digit-free n i || f i in
    either (n / 10 == 0) _ _ more (digits-free k (n / 10) _ more)

pub decimal-free : (n : ℕ) → IsFree (decimal n)
unfolding digits
decimal-free n = digits-free 64 n [] refl

-- ---- strings

low-free : (byte : ℕ) → byte < 93 → IsFree (byte_text byte)
unfolding escape_byte
low-free byte low = agree_below_at (λ b. list_any is_markup (byte_text b)) (λ b. false) 93 byte refl low

pub no-markup : (byte : ℕ) → 93 ≤ byte → is_markup byte ≡ false
no-markup byte high = grind (arith, nat_tests)

high-free : (byte : ℕ) → 93 ≤ byte → IsFree (byte_text byte)
high-free byte high =
    let none = no-markup byte high in
    let plain : escape_byte byte ≡ byte ∷ [] = escape_byte_plain byte (omega arith) (omega arith) (omega arith) in
    (λ i. list_any is_markup (if none i then by_number byte else escape_byte byte)) ∙ ap (list_any is_markup) plain ∙ (λ i. none i || false)

byte-free : (byte : ℕ) → IsFree (byte_text byte)
byte-free byte = by (nat_lt byte 93) refl
  where
    by : (b : Bool) → nat_lt byte 93 ≡ b → IsFree (byte_text byte)
    by true e = low-free byte (grind (arith, nat_tests))
    by false e = high-free byte (grind (arith, nat_tests))

separator-free : (c : ℕ) → IsFree (separator_text c)
separator-free c = either (c == 168) (codes "\\u2028") (codes "\\u2029") refl refl

escaped-free : (text : List ℕ) → IsFree (escaped text)
unfolding escaped
escaped-free [] = refl
escaped-free (a ∷ []) = byte-free a
escaped-free (a ∷ b ∷ []) = both (byte_text a) (byte_text b) (byte-free a) (byte-free b)
escaped-free (a ∷ b ∷ c ∷ rest) =
    either (is_separator a b c) (separator_text c ++ escaped rest) (byte_text a ++ escaped (b ∷ c ∷ rest))
    (both (separator_text c) (escaped rest) (separator-free c) (escaped-free rest))
    (both (byte_text a) (escaped (b ∷ c ∷ rest)) (byte-free a) (escaped-free (b ∷ c ∷ rest)))

pub string-free : (text : List ℕ) → IsFree (string_json text)
string-free text = both (escaped text) (codes "\"") (escaped-free text) refl

-- ---- words

mode-free : (mode : Mode) → IsFree (mode_json mode)
mode-free IntentShare = refl
mode-free IntentExclusive = refl
mode-free Share = refl
mode-free ShareIntent = refl
mode-free Exclusive = refl

status-free : (status : Status) → IsFree (status_json status)
status-free Outside = refl
status-free (InBlock level) = refl
status-free Broken = refl

manner-free : (manner : Manner) → IsFree (manner_json manner)
manner-free IsSent = refl
manner-free IsResumed = refl
manner-free IsNotSent = refl

pub number-free : (number : Option ℕ) → IsFree (number_json number)
number-free None = refl
number-free (Some number) = decimal-free number

-- ---- levels

word-free : (level : Level) → IsFree (level_word level)
word-free Serializable = refl
word-free Committed = refl

asked-free : (level : Level) (lines : List ℕ) → IsFree (asked_json level lines)
asked-free level lines = simp (list_any-append, word-free level, array-free decimal decimal-free lines)

pub levels-free : (level : Option Level) (lines : List ℕ) → IsFree (levels_json level lines)
levels-free None lines = refl
levels-free (Some level) lines = asked-free level lines

-- ---- moments

reason-free : (reason : Reason) → IsFree (reason_json reason)
reason-free (Holds mode) = mode-free mode
reason-free (Ahead mode) = mode-free mode

edge-free : (edge : Edge) → IsFree (edge_json edge)
edge-free edge = simp (list_any-append, decimal-free edge.session, reason-free edge.reason)

edges-free : (edges : List Edge) → IsFree (array_json edge_json edges)
edges-free edges = array-free edge_json edge-free edges

has-free : (has : Option Mode) (asked : Mode) → IsFree (has_json has asked)
has-free None asked = refl
has-free (Some mode) asked = both (mode_json mode) (codes ",\"asks\":" ++ mode_json asked) (mode-free mode) (mode-free asked)

resource-free : (tables : List Left) (resource : Resource) → IsFree (resource_json tables resource)
resource-free tables resource = string-free _

want-free : (tables : List Left) (want : Want) → IsFree (want_json tables want)
want-free tables want =
    simp (list_any-append, resource-free tables want.resource, mode-free want.mode, has-free want.has want.asked, edges-free want.edges)

hop-free : (tables : List Left) (hop : Hop) → IsFree (hop_json tables hop)
hop-free tables hop =
    simp (list_any-append, decimal-free hop.session, mode-free hop.mode, resource-free tables hop.resource, edge-free hop.edge)

lock-free : (tables : List Left) (lock : Resource × Mode) → IsFree (lock_json tables lock)
lock-free tables lock = simp (list_any-append, resource-free tables lock.0, mode-free lock.1)

change-free : (tables : List Left) (change : Change) → IsFree (change_json tables change)
change-free tables (Had resource mode) = lock-free tables (resource, mode)
change-free tables LetGo = refl

still-free : (still : Still) → IsFree (still_json still)
still-free still = simp (list_any-append, decimal-free still.session, edges-free still.edges)

lines-free : (steps : List (List ℕ)) (events : List Event) → IsFree (array_json (line_json steps) events)
lines-free steps events = array-free (line_json steps) (λ event. string-free _) events

stale-free : (steps : List (List ℕ)) (stale : Stale) → IsFree (stale_json steps stale)
stale-free steps stale =
    simp (list_any-append, decimal-free stale.session, decimal-free stale.step, lines-free steps stale.told, lines-free steps stale.told_now)

stales-free : (steps : List (List ℕ)) (stales : List Stale) → IsFree (stales_json steps stales)
stales-free steps [] = refl
stales-free steps (s ∷ ss) = array-free (stale_json steps) (stale-free steps) (s ∷ ss)

ending-free : (tables : List Left) (ending : Ending) → IsFree (ending_json tables ending)
ending-free tables Ended = refl
ending-free tables (Awaits want) = want-free tables want
ending-free tables (Loses ring) = array-free (hop_json tables) (hop-free tables) ring
ending-free tables (Lacks want) = want-free tables want

going-free : (moment : Moment) → IsFree (going_json moment)
going-free moment = simp (list_any-append, decimal-free moment.session, manner-free moment.manner, number-free moment.step)

end-free : (tables : List Left) (steps : List (List ℕ)) (moment : Moment) → IsFree (end_json tables steps moment)
end-free tables steps moment =
    simp (
      list_any-append,
      status-free moment.status,
      ending-free tables moment.ending,
      array-free still_json still-free moment.still,
      stales-free steps moment.stale,
    )

moment-free : (tables : List Left) (steps : List (List ℕ)) (moment : Moment) → IsFree (moment_json tables steps moment)
moment-free tables steps moment =
    simp (
      list_any-append,
      going-free moment,
      lines-free steps (told moment.events),
      array-free (change_json tables) (change-free tables) moment.changes,
      end-free tables steps moment,
    )

-- ---- the page

pub step-free : (step : List ℕ × (ℕ × List ℕ)) → IsFree (step_json step)
step-free step = simp (list_any-append, string-free step.0, decimal-free step.1.0, string-free step.1.1)

begun-free : (tables : List Left) (begun : Begun) → IsFree (begun_json tables begun)
begun-free tables begun = simp (list_any-append, status-free begun.status, array-free (lock_json tables) (lock-free tables) begun.locks)

pub entry-free : (entry : Value × Tuple) → IsFree (entry_json entry)
entry-free entry = string-free _

pub table-free : (name : List ℕ) (rows : List (Value × Tuple)) → IsFree (table_json name rows)
table-free name rows = simp (list_any-append, string-free name, array-free entry_json entry-free rows)

left-free : (left : Left) → IsFree (left_json left)
left-free left = table-free (name_of left) left.rows

lefts-free : (tables : List Left) → IsFree (array_json left_json tables)
lefts-free tables = array-free left_json left-free tables

pub pair-free : (session : ℕ) (word : List ℕ) → IsFree word → IsFree (open_json (session, word))
pair-free session word free = simp (list_any-append, decimal-free session, free)

-- how each session stands that has not ended
each-open-free : (session : ℕ) (standings : List Standing) → EachFree open_json (open_from session standings)
each-open-free session [] = tt
each-open-free session (HasEnded ∷ standings) = each-open-free (session + 1) standings
each-open-free session (IsOpen ∷ standings) = (pair-free session (codes "\"in\"") refl, each-open-free (session + 1) standings)
each-open-free session (HasFailed ∷ standings) = (pair-free session (codes "\"failed\"") refl, each-open-free (session + 1) standings)
each-open-free session (StillWaits want ∷ standings) = (pair-free session (codes "\"waits\"") refl, each-open-free (session + 1) standings)

opens-free : (session : ℕ) (standings : List Standing) → IsFree (array_json open_json (open_from session standings))
opens-free session standings = items-free open_json (open_from session standings) (each-open-free session standings)

order-free : (sheet : Sheet) → IsFree (order_json sheet)
order-free sheet = simp (list_any-append, string-free sheet.name, decimal-free sheet.rank, decimal-free sheet.orders)

numbers-free : (sheet : Sheet) → IsFree (numbers_json sheet)
numbers-free sheet =
    simp (
      list_any-append,
      array-free string_json string-free sheet.session_names,
      array-free step_json step-free (zip sheet.step_names (zip sheet.step_sessions sheet.statements)),
      array-free decimal decimal-free sheet.line,
    )

shown-free : (steps : List (List ℕ)) (shown : Shown) → IsFree (shown_json steps shown)
shown-free steps shown =
    simp (
      list_any-append,
      array-free (begun_json shown.first) (begun-free shown.first) shown.begun,
      lefts-free shown.first,
      array-free (moment_json shown.first steps) (moment-free shown.first steps) shown.moments,
      lefts-free shown.left,
      opens-free 0 shown.standings,
    )

pub page-free : (sheet : Sheet) → IsFree (page_json sheet)
page-free sheet =
    simp (
      list_any-append,
      order-free sheet,
      levels-free sheet.level sheet.other_lines,
      numbers-free sheet,
      shown-free sheet.step_names sheet.shown,
    )
