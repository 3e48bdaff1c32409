-- Events and their texts: each is told by its kind, its number and its row, and so by its text.
use Rattle.std.specs.Prelude.{◌≡◌, refl, ℕ, suc, ◌<◌, ◌==◌, ◌&&◌, ◌||◌, nat_lt, not, Bool, true, false, cond, List, [], ◌∷◌, ◌++◌, length, bytes_eq, ℤ, pos}
use Rattle.std.specs.Prelude.{negsuc}
use Rattle.std.proofs.Common.{sym, ap, ◌∙◌, append-nil, arith, lit<}
use Rattle.std.specs.declared.cmp.Ordering.TheVariants.{Less, Equal, Greater}
use Rattle.std.specs.Ordering.{ordering_then, ordering_reverse}
use Rattle.std.specs.Cmp.Lexicographic.{nat_list_cmp_total}
use Rattle.std.proofs.lemmas.Bool.Decides.{nat_tests}
use Rattle.std.proofs.lemmas.Slice.Eq.{bytes_eq-Decides}
use Rattle.std.specs.Prelude.{FitsSigned}
use Rattle.std.specs.Int.{w64}
use Rattle.std.specs.Fmt.{signed_decimal}
use Rattle.json.specs.Print.{quoted}
use Rattle.lock_modes.specs.declared.value.Value.{Value}
use Rattle.lock_modes.specs.declared.value.Value.TheVariants.{Int, Text}
use Rattle.events.specs.declared.event.Warning.{Warning}
use Rattle.events.specs.declared.event.Warning.TheVariants.{InBlock, NoBlock}
use Rattle.events.specs.declared.event.Fault.{Fault}
use Rattle.events.specs.declared.event.Fault.TheVariants.{Duplicate, OutOfRange, Deadlock, Aborted, Unavailable}
use Rattle.events.specs.declared.event.Event.{Event}
use Rattle.events.specs.declared.event.Event.TheVariants.{Sent, Row, Rows, Inserted, Updated, Deleted, Began, Committed, RolledBack, Locked, Set, Warned}
use Rattle.events.specs.declared.event.Event.TheVariants.{Failed, Waiting, Resumed, Done, NotSent}
use Rattle.transcripts.specs.Compact.{whole_json, cell_json, array_json, event_json, bytes_cmp}
use Rattle.events.specs.Parts.{kind_of, number_of, values_of}
use Rattle.transcripts.specs.EventParts.{front_by}
use Rattle.transcripts.proofs.Tables.{all_below, passes_both}
use Rattle.transcripts.proofs.Codes.{is_apart, first_decides, below, bytes_tied, IsEnd, IsCode, closed_code}
use Rattle.transcripts.proofs.Digits.{AreInner, inner-order, inner-same, IsDigits, are-digits, whole-same, whole-decimal}
use Rattle.transcripts.proofs.Escapes.{quoted_closed}

-- ---- values of a row

-- a whole number has digits
pub whole_digits : (n : ℕ) → IsDigits (whole_json n)
whole_digits n = are-digits (suc n) n (omega arith)

int_inner : (z : ℤ) → AreInner (cell_json (Int z))
int_inner (pos n) = (whole_digits n).inner
int_inner (negsuc n) = ((lit< tt, lit< tt), (whole_digits (suc n)).inner)

-- a number begins past a quote
pub int_past : (z : ℤ) (s t : List ℕ) → bytes_cmp (cell_json (Int z) ++ s) (34 ∷ t) ≡ Greater
int_past (pos n) s t = (whole_digits n).low 34 s t (lit< tt)
int_past (negsuc n) s t = refl

-- and so a string stands before it
pub past_int : (z : ℤ) (s t : List ℕ) → bytes_cmp (34 ∷ t) (cell_json (Int z) ++ s) ≡ Less
past_int z s t = nat_list_cmp_total.antisymm (34 ∷ t) (cell_json (Int z) ++ s) ∙ ap ordering_reverse (int_past z s t)

-- digits begin with no sign
no_sign : (n : ℕ) (t : List ℕ) → whole_json n ≡ 45 ∷ t → ⊥
no_sign n t e =
    let greater : bytes_cmp (whole_json n ++ []) (45 ∷ t) ≡ Greater = (whole_digits n).low 45 [] t (lit< tt) in
    let equal : bytes_cmp (whole_json n ++ []) (45 ∷ t) ≡ Equal = ap (λ l. bytes_cmp l (45 ∷ t)) (append-nil (whole_json n) ∙ e) ∙ bytes_tied (45 ∷ t) in
    cc

int_same : (y z : ℤ) → cell_json (Int y) ≡ cell_json (Int z) → Int y ≡ Int z
int_same (pos m) (pos n) e = ap (λ k. Int (pos k)) (whole-same m n e)
int_same (pos m) (negsuc n) e = absurd (no_sign m _ e)
int_same (negsuc m) (pos n) e = absurd (no_sign n _ (sym e))
int_same (negsuc m) (negsuc n) e =
    let digits : whole_json (suc m) ≡ whole_json (suc n) = cc in
    let same = whole-same (suc m) (suc n) digits in
    let one : m ≡ n = omega (arith, same) in
    ap (λ k. Int (negsuc k)) one

inner_low : (xs s t : List ℕ) → 0 < length xs → AreInner xs → bytes_cmp (93 ∷ s) (xs ++ t) ≡ Greater
inner_low [] s t some inner = absurd (omega arith)
inner_low (x ∷ xs) s t some inner = first_decides 93 x s (xs ++ t) (λ e. omega (arith, e, inner.0.1)) ∙ below x 93 inner.0.1

int_low : (z : ℤ) (s t : List ℕ) → bytes_cmp (93 ∷ s) (cell_json (Int z) ++ t) ≡ Greater
int_low (pos n) s t = inner_low (whole_json n) s t (whole_digits n).some (whole_digits n).inner
int_low (negsuc n) s t = refl

text_code : IsCode quoted
text_code = closed_code quoted quoted_closed

cell-order : (v w : Value) (a b : ℕ) (s t : List ℕ) → IsEnd a → IsEnd b
    → bytes_cmp (cell_json v ++ a ∷ s) (cell_json w ++ b ∷ t) ≡ ordering_then (bytes_cmp (cell_json v ++ a ∷ []) (cell_json w ++ b ∷ [])) (bytes_cmp s t)
cell-order (Int y) (Int z) a b s t p q = inner-order (cell_json (Int y)) (cell_json (Int z)) a b s t (int_inner y) (int_inner z) p q
cell-order (Int y) (Text u) a b s t p q = int_past y (a ∷ s) _ ∙ sym (ap (λ o. ordering_then o (bytes_cmp s t)) (int_past y (a ∷ []) _))
cell-order (Text u) (Int z) a b s t p q = past_int z (b ∷ t) _ ∙ sym (ap (λ o. ordering_then o (bytes_cmp s t)) (past_int z (b ∷ []) _))
cell-order (Text u) (Text v) a b s t p q = text_code.order u v a b s t p q

cell-same : (v w : Value) (a b : ℕ) → IsEnd a → IsEnd b → bytes_cmp (cell_json v ++ a ∷ []) (cell_json w ++ b ∷ []) ≡ Equal → (v ≡ w) × (a ≡ b)
cell-same (Int y) (Int z) a b p q e = let same = inner-same (cell_json (Int y)) (cell_json (Int z)) a b (int_inner y) (int_inner z) p q e in
    (int_same y z same.0, same.1)
cell-same (Int y) (Text u) a b p q e = let past = int_past y (a ∷ []) _ in absurd (differ (sym past ∙ e))
  where
    differ : Greater ≡ Equal → ⊥
    differ h = cc
cell-same (Text u) (Int z) a b p q e = absurd (differ (sym (past_int z (b ∷ []) _) ∙ e))
  where
    differ : Less ≡ Equal → ⊥
    differ h = cc
cell-same (Text u) (Text v) a b p q e = let same = text_code.same u v a b p q e in (ap Text same.0, same.1)

cell-low : (v : Value) (s t : List ℕ) → bytes_cmp (93 ∷ s) (cell_json v ++ t) ≡ Greater
cell-low (Int z) s t = int_low z s t
cell-low (Text u) s t = refl

pub cell_code : IsCode cell_json
cell_code = record { order = cell-order; same = cell-same; low = cell-low }

-- ---- events by their parts

-- the kinds that are one word
abbrev pub is_word : ℕ → Bool
is_word k = nat_lt 5 k && (not (k == 11) && (not (k == 12) && not (k == 16)))

warning_by : ℕ → Warning
warning_by n = cond (n == 1) InBlock NoBlock

fault_by : ℕ → Fault
fault_by n = cond (n == 1) Duplicate (cond (n == 2) OutOfRange (cond (n == 3) Deadlock (cond (n == 4) Aborted Unavailable)))

-- the event of these parts
pub event_from : ℕ → ℕ → List Value → Event
event_from k n vs =
    (cond (k == 0) (Sent n)
    (cond (k == 1) (Row vs)
    (cond (k == 2) (Rows n)
    (cond (k == 3) (Inserted n)
    (cond (k == 4) (Updated n)
    (cond (k == 5) (Deleted n)
    (cond (k == 6) Began
    (cond (k == 7) Committed
    (cond (k == 8) RolledBack
    (cond (k == 9) Locked
    (cond (k == 10) Set
    (cond (k == 11) (Warned (warning_by n))
    (cond (k == 12) (Failed (fault_by n))
    (cond (k == 13) Waiting
    (cond (k == 14) Resumed
    (cond (k == 15) Done
    (NotSent n)))))))))))))))))

pub rebuilt : (e : Event) → event_from (kind_of e) (number_of e) (values_of e) ≡ e
unfolding event_from warning_by fault_by
rebuilt (Sent step) = refl
rebuilt (Row values) = refl
rebuilt (Rows count) = refl
rebuilt (Inserted count) = refl
rebuilt (Updated count) = refl
rebuilt (Deleted count) = refl
rebuilt Began = refl
rebuilt Committed = refl
rebuilt RolledBack = refl
rebuilt Locked = refl
rebuilt Set = refl
rebuilt (Warned InBlock) = refl
rebuilt (Warned NoBlock) = refl
rebuilt (Failed Duplicate) = refl
rebuilt (Failed OutOfRange) = refl
rebuilt (Failed Deadlock) = refl
rebuilt (Failed Aborted) = refl
rebuilt (Failed Unavailable) = refl
rebuilt Waiting = refl
rebuilt Resumed = refl
rebuilt Done = refl
rebuilt (NotSent step) = refl

pub kind_small : (e : Event) → kind_of e < 17
kind_small (Sent step) = lit< tt
kind_small (Row values) = lit< tt
kind_small (Rows count) = lit< tt
kind_small (Inserted count) = lit< tt
kind_small (Updated count) = lit< tt
kind_small (Deleted count) = lit< tt
kind_small Began = lit< tt
kind_small Committed = lit< tt
kind_small RolledBack = lit< tt
kind_small Locked = lit< tt
kind_small Set = lit< tt
kind_small (Warned warning) = lit< tt
kind_small (Failed fault) = lit< tt
kind_small Waiting = lit< tt
kind_small Resumed = lit< tt
kind_small Done = lit< tt
kind_small (NotSent step) = lit< tt

-- only a row has values
pub no_values : (e : Event) → (kind_of e == 1) ≡ false → values_of e ≡ []
no_values (Sent step) h = refl
no_values (Row values) h = cc
no_values (Rows count) h = refl
no_values (Inserted count) h = refl
no_values (Updated count) h = refl
no_values (Deleted count) h = refl
no_values Began h = refl
no_values Committed h = refl
no_values RolledBack h = refl
no_values Locked h = refl
no_values Set h = refl
no_values (Warned warning) h = refl
no_values (Failed fault) h = refl
no_values Waiting h = refl
no_values Resumed h = refl
no_values Done h = refl
no_values (NotSent step) h = refl

-- a row and a word tell no number
pub no_number : (e : Event) → ((kind_of e == 1) || is_word (kind_of e)) ≡ true → number_of e ≡ 0
no_number (Sent step) h = cc
no_number (Row values) h = refl
no_number (Rows count) h = cc
no_number (Inserted count) h = cc
no_number (Updated count) h = cc
no_number (Deleted count) h = cc
no_number Began h = refl
no_number Committed h = refl
no_number RolledBack h = refl
no_number Locked h = refl
no_number Set h = refl
no_number (Warned warning) h = cc
no_number (Failed fault) h = cc
no_number Waiting h = refl
no_number Resumed h = refl
no_number Done h = refl
no_number (NotSent step) h = cc

-- what stands behind the front
abbrev pub tail_by : ℕ → ℕ → List Value → List ℕ
tail_by k n vs = cond (k == 1) (array_json cell_json vs ++ 93 ∷ []) (cond (is_word k) [] (whole_json n ++ 93 ∷ []))

pub in-parts : (e : Event) → event_json e ≡ front_by (kind_of e) ++ tail_by (kind_of e) (number_of e) (values_of e)
in-parts (Sent step) = refl
in-parts (Row values) = refl
in-parts (Rows count) = refl
in-parts (Inserted count) = refl
in-parts (Updated count) = refl
in-parts (Deleted count) = refl
in-parts Began = refl
in-parts Committed = refl
in-parts RolledBack = refl
in-parts Locked = refl
in-parts Set = refl
in-parts (Warned warning) = refl
in-parts (Failed fault) = refl
in-parts Waiting = refl
in-parts Resumed = refl
in-parts Done = refl
in-parts (NotSent step) = refl

-- ---- the fronts are told apart

pub fronts_apart : all_below 17 (λ j. all_below 17 (λ k. is_apart (front_by j) (front_by k))) ≡ true
fronts_apart = refl

fronts_same : all_below 17 (λ j. all_below 17 (λ k. (j == k) || not (bytes_eq (front_by j) (front_by k)))) ≡ true
fronts_same = refl

pub front_one : (j k : ℕ) → j < 17 → k < 17 → front_by j ≡ front_by k → j ≡ k
front_one j k p q e =
    let t = passes_both 17 (λ j k. (j == k) || not (bytes_eq (front_by j) (front_by k))) fronts_same j k p q in
    let eq : bytes_eq (front_by j) (front_by k) ≡ true = (bytes_eq-Decides (front_by j) (front_by k)).1 e in
    grind (arith, nat_tests, t, eq)

-- a number of 64 bits has the digits that are printed
pub int-decimal : (z : ℤ) → FitsSigned w64 z → cell_json (Int z) ≡ signed_decimal z
int-decimal (pos n) fits = whole-decimal n (omega (arith, fits))
int-decimal (negsuc n) fits = ap (λ ds. 45 ∷ ds) (whole-decimal (suc n) (omega (arith, fits)))
