-- Reading gives back what was written, and only that.
use Rattle.std.specs.Prelude.{◌≡◌, refl, ℕ, ◌^◌, Bool, true, false, ◌==◌, nat_lt, int_lt, List, [], ◌∷◌, map, codes, All, Option, Some, None, option_map}
use Rattle.std.specs.Prelude.{option_and_then, if◌then◌else◌, bytes_eq, ℤ, pos, negsuc, Result, Ok, Err, IfOk, IfErr, ◌≢◌, length, get_or}
use Rattle.std.proofs.Common.{sym, ap, ◌∙◌, arith}
use Rattle.std.proofs.lemmas.Bool.{lt-ltb, eqb-true}
use Rattle.std.proofs.lemmas.List.Elements.{All-head, All-tail}
use Rattle.std.proofs.lemmas.Slice.Eq.{bytes_eq-Decides}
use Rattle.serde_json.specs.Data.{Num, unsigned, negative, float, Data, null, boolean, number, string, array, object, Items, no_items, item}
use Rattle.serde_json.specs.Find.{of_integer, as_str}
use Rattle.serde_json.specs.View.{view, items_of, items_view}
use Rattle.serde_json.specs.declared.value.Value.{Value as Json}
use Rattle.lock_modes.specs.declared.value.Value.{Value}
use Rattle.lock_modes.specs.declared.value.Value.TheVariants.{Int, Text}
use Rattle.events.specs.declared.event.Fault.{Fault}
use Rattle.events.specs.declared.event.Warning.{Warning}
use Rattle.events.specs.declared.event.Fault.TheVariants.{Duplicate, OutOfRange, Deadlock, Aborted, Unavailable}
use Rattle.events.specs.declared.event.Warning.TheVariants.{InBlock, NoBlock}
use Rattle.events.specs.declared.event.Event.{Event}
use Rattle.events.specs.declared.event.Event.TheVariants.{Sent, Row, Rows, Inserted, Updated, Deleted, Began, Committed, RolledBack, Locked, Set, Warned}
use Rattle.events.specs.declared.event.Event.TheVariants.{Failed, Waiting, Resumed, Done, NotSent}
use Rattle.events.specs.Numbers.{warning_number, fault_number}
use Rattle.events.specs.Fits.{CellFits, EventFits}
use Rattle.transcripts.specs.Outcome.{OutcomeFits}
use Rattle.transcripts.specs.Json.{list, whole, tagged, cell_data, event_data, session_data, outcome_data}
use Rattle.transcripts.specs.JsonReading.{consed, each_in, list_in, count_in, step_in, integer_of_number, cell_in, warning_of, fault_of, word_event}
use Rattle.transcripts.specs.JsonReading.{numbered_event, tagged_event, tagged_by, pair_event, event_in, outcome_in, Reads}
use Rattle.transcripts.specs.declared.error.ValueError.{ValueError}
use Rattle.transcripts.specs.declared.error.ValueError.TheVariants.{BadField, NoMemory}

-- ---- what is written is read

each_back : {X : Type 0} (f : Data → Option X) (enc : X → Data) (Fits : X → Type 0) → ((x : X) → Fits x → f (enc x) ≡ Some x) → (xs : List X) → All Fits xs
    → each_in f (items_of (map enc xs)) ≡ Some xs
each_back f enc Fits back [] fits = refl
each_back f enc Fits back (x ∷ xs) fits =
    ap (λ o. consed o (each_in f (items_of (map enc xs)))) (back x (All-head Fits x xs fits))
    ∙ ap (consed (Some x)) (each_back f enc Fits back xs (All-tail Fits x xs fits))

cell_back : (v : Value) → CellFits v → cell_in (cell_data v) ≡ Some v
cell_back (Int (pos n)) fits = ap (λ b. option_map Int (if b then Some (pos n) else None)) (lt-ltb n (2 ^ 63) (omega (arith, fits)))
cell_back (Int (negsuc n)) fits = refl
cell_back (Text t) fits = refl

event_back : (e : Event) → EventFits e → event_in (event_data e) ≡ Some e
event_back (Sent n) fits = ap (λ b. option_map Sent (if b then Some n else None)) (lt-ltb n 256 fits)
event_back (Row values) fits = ap (option_map Row) (each_back cell_in cell_data CellFits cell_back values fits)
event_back (Rows n) fits = refl
event_back (Inserted n) fits = refl
event_back (Updated n) fits = refl
event_back (Deleted n) fits = refl
event_back Began fits = refl
event_back Committed fits = refl
event_back RolledBack fits = refl
event_back Locked fits = refl
event_back Set fits = refl
event_back (Warned InBlock) fits = refl
event_back (Warned NoBlock) fits = refl
event_back (Failed Duplicate) fits = refl
event_back (Failed OutOfRange) fits = refl
event_back (Failed Deadlock) fits = refl
event_back (Failed Aborted) fits = refl
event_back (Failed Unavailable) fits = refl
event_back Waiting fits = refl
event_back Resumed fits = refl
event_back Done fits = refl
event_back (NotSent n) fits = ap (λ b. option_map NotSent (if b then Some n else None)) (lt-ltb n 256 fits)

session_back : (es : List Event) → All EventFits es → list_in event_in (session_data es) ≡ Some es
session_back es fits = each_back event_in event_data EventFits event_back es fits

outcome_back : (o : List (List Event)) → OutcomeFits o → outcome_in (outcome_data o) ≡ Some o
outcome_back o fits = each_back (list_in event_in) session_data (All EventFits) session_back o fits

-- ---- what is read was written

abbrev Only : {X : Type 0} → (Data → Option X) → (X → Data) → Type 0
Only {X = X} f enc = (d : Data) (x : X) → f d ≡ Some x → enc x ≡ d

each_only : {X : Type 0} (f : Data → Option X) (enc : X → Data) → Only f enc → (is : Items) (xs : List X) → each_in f is ≡ Some xs → items_of (map enc xs) ≡ is
each_only f enc only no_items xs e = let none : [] ≡ xs = cc in ap (λ ys. items_of (map enc ys)) (sym none)
each_only {X = X} f enc only (item d ds) xs e = both (f d) (each_in f ds) refl (λ ys. each_only f enc only ds ys) e
  where
    both : (o : Option X) (p : Option (List X)) → f d ≡ o → ((ys : List X) → p ≡ Some ys → items_of (map enc ys) ≡ ds) → consed o p ≡ Some xs
        → items_of (map enc xs) ≡ item d ds
    both None p first rest e = cc
    both (Some x) None first rest e = cc
    both (Some x) (Some ys) first rest e =
        let all : (x ∷ ys) ≡ xs = cc in
        ap (λ zs. items_of (map enc zs)) (sym all) ∙ ap (λ c. item c (items_of (map enc ys))) (only d x first) ∙ ap (item d) (rest ys refl)

list_only : {X : Type 0} (f : Data → Option X) (enc : X → Data) → Only f enc → Only (list_in f) (λ xs. list (map enc xs))
list_only f enc only null xs e = cc
list_only f enc only (boolean b) xs e = cc
list_only f enc only (number n) xs e = cc
list_only f enc only (string s) xs e = cc
list_only f enc only (array is) xs e = ap array (each_only f enc only is xs e)
list_only f enc only (object ms) xs e = cc

count_only : Only count_in whole
count_only null n e = cc
count_only (boolean b) n e = cc
count_only (number (unsigned m)) n e = let same : m ≡ n = cc in ap whole (sym same)
count_only (number (negative z)) n e = cc
count_only (number (float x)) n e = cc
count_only (string s) n e = cc
count_only (array is) n e = cc
count_only (object ms) n e = cc

-- a count that is looked at once more
counted : {X : Type 0} (f : ℕ → Option X) (number_of : X → ℕ) → ((n : ℕ) (x : X) → f n ≡ Some x → number_of x ≡ n)
    → Only (λ d. option_and_then f (count_in d)) (λ x. whole (number_of x))
counted {X = X} f number_of told d x e = at (count_in d) refl e
  where
    at : (o : Option ℕ) → count_in d ≡ o → option_and_then f o ≡ Some x → whole (number_of x) ≡ d
    at None is e = cc
    at (Some n) is e = ap whole (told n x e) ∙ count_only d n is

-- a test that was passed or not
told_by : {X : Type 0} (b : Bool) (p q : Option X) (x : X) (P : X → Type 0) → (b ≡ true → p ≡ Some x → P x) → (q ≡ Some x → P x) → (if b then p else q) ≡ Some x
    → P x
told_by true p q x P passed missed e = passed refl e
told_by false p q x P passed missed e = missed e

step_number : (n : ℕ) (m : ℕ) → (if nat_lt n 256 then Some n else None) ≡ Some m → m ≡ n
step_number n m e = told_by (nat_lt n 256) (Some n) None m (λ m. m ≡ n) (λ t same. cc) (λ same. cc) e

warning_told : (n : ℕ) (w : Warning) → warning_of n ≡ Some w → warning_number w ≡ n
warning_told n w e =
    told_by (n == 1) (Some InBlock) (if n == 2 then Some NoBlock else None) w (λ w. warning_number w ≡ n)
    (λ t same. let is : InBlock ≡ w = cc in ap warning_number (sym is) ∙ sym (eqb-true n 1 t))
    (told_by (n == 2) (Some NoBlock) None w (λ w. warning_number w ≡ n) (λ t same. let is : NoBlock ≡ w = cc in ap warning_number (sym is)
    ∙ sym (eqb-true n 2 t)) (λ same. cc)) e

fault_told : (n : ℕ) (f : Fault) → fault_of n ≡ Some f → fault_number f ≡ n
fault_told n f e =
    told_by (n == 1) (Some Duplicate) _ f (λ f. fault_number f ≡ n) (λ t same. let is : Duplicate ≡ f = cc in ap fault_number (sym is) ∙ sym (eqb-true n 1 t))
    (told_by (n == 2) (Some OutOfRange) _ f (λ f. fault_number f ≡ n) (λ t same. let is : OutOfRange ≡ f = cc in ap fault_number (sym is)
    ∙ sym (eqb-true n 2 t))
    (told_by (n == 3) (Some Deadlock) _ f (λ f. fault_number f ≡ n) (λ t same. let is : Deadlock ≡ f = cc in ap fault_number (sym is) ∙ sym (eqb-true n 3 t))
    (told_by (n == 4) (Some Aborted) _ f (λ f. fault_number f ≡ n) (λ t same. let is : Aborted ≡ f = cc in ap fault_number (sym is) ∙ sym (eqb-true n 4 t))
    (told_by (n == 5) (Some Unavailable) None f (λ f. fault_number f ≡ n) (λ t same. let is : Unavailable ≡ f = cc in ap fault_number (sym is)
    ∙ sym (eqb-true n 5 t)) (λ same. cc))))) e

integer_only : (n : Num) (z : ℤ) → integer_of_number n ≡ Some z → of_integer z ≡ n
integer_only (unsigned m) z e = told_by (nat_lt m (2 ^ 63)) (Some (pos m)) None z (λ z. of_integer z ≡ unsigned m) (λ t same. let is : pos m ≡ z = cc
    in ap of_integer (sym is)) (λ same. cc) e
integer_only (negative (pos m)) z e = told_by (int_lt (pos m) (pos 0)) (Some (pos m)) None z (λ z. of_integer z
    ≡ negative (pos m)) (λ t same. absurd (grind (arith, t))) (λ same. cc) e
integer_only (negative (negsuc m)) z e = let is : negsuc m ≡ z = cc in ap of_integer (sym is)
integer_only (float x) z e = cc

cell_only : Only cell_in cell_data
cell_only null v e = cc
cell_only (boolean b) v e = cc
cell_only (number n) v e = at (integer_of_number n) refl e
  where
    at : (o : Option ℤ) → integer_of_number n ≡ o → option_map Int o ≡ Some v → cell_data v ≡ number n
    at None is e = cc
    at (Some z) is e = let same : Int z ≡ v = cc in ap cell_data (sym same) ∙ ap number (integer_only n z is)
cell_only (string s) v e = let same : Text s ≡ v = cc in ap cell_data (sym same)
cell_only (array is) v e = cc
cell_only (object ms) v e = cc

-- a word that is the one of a rule, and the one of no other
word_is : (w k : List ℕ) (p q : Option Event) (e : Event) (P : Event → Type 0) → (w ≡ k → p ≡ Some e → P e) → (q ≡ Some e → P e)
    → (if bytes_eq w k then p else q) ≡ Some e → P e
word_is w k p q e P passed missed = told_by (bytes_eq w k) p q e P (λ t. passed ((bytes_eq-Decides w k).0 t)) missed

plain : (w k : List ℕ) (v e : Event) → event_data v ≡ string k → w ≡ k → Some v ≡ Some e → event_data e ≡ string w
plain w k v e given same is = let one : v ≡ e = cc in ap event_data (sym one) ∙ given ∙ ap string (sym same)

word_only : (w : List ℕ) (e : Event) → word_event w ≡ Some e → event_data e ≡ string w
word_only w e =
    let P : Event → Type 0 = λ e. event_data e ≡ string w in
    word_is w (codes "began") _ _ e P (plain w _ Began e refl)
    (word_is w (codes "committed") _ _ e P (plain w _ Committed e refl)
    (word_is w (codes "rolledback") _ _ e P (plain w _ RolledBack e refl)
    (word_is w (codes "locked") _ _ e P (plain w _ Locked e refl)
    (word_is w (codes "set") _ _ e P (plain w _ Set e refl)
    (word_is w (codes "waiting") _ _ e P (plain w _ Waiting e refl)
    (word_is w (codes "resumed") _ _ e P (plain w _ Resumed e refl)
    (word_is w (codes "done") _ _ e P (plain w _ Done e refl) (λ none. cc))))))))

-- a word that is said of something
said : {X : Type 0} (make : X → Event) (read : Data → Option X) (enc : X → Data) → Only read enc → (w k : List ℕ)
    → ((x : X) → event_data (make x) ≡ tagged k (enc x)) → (d : Data) (e : Event) → w ≡ k → option_map make (read d) ≡ Some e → event_data e ≡ tagged w d
said {X = X} make read enc only w k given d e same is = at (read d) refl is
  where
    at : (o : Option X) → read d ≡ o → option_map make o ≡ Some e → event_data e ≡ tagged w d
    at None r is = cc
    at (Some x) r is =
        let one : make x ≡ e = cc in
        ap event_data (sym one) ∙ given x ∙ ap (tagged k) (only d x r) ∙ ap (λ t. tagged t d) (sym same)

numbered_only : (w : List ℕ) (d : Data) (e : Event) → numbered_event w d ≡ Some e → event_data e ≡ tagged w d
numbered_only w d e =
    let P : Event → Type 0 = λ e. event_data e ≡ tagged w d in
    word_is w (codes "sent") _ _ e P (said Sent step_in whole (counted _ (λ n. n) step_number) w _ (λ n. refl) d e)
    (word_is w (codes "rows") _ _ e P (said Rows count_in whole count_only w _ (λ n. refl) d e)
    (word_is w (codes "inserted") _ _ e P (said Inserted count_in whole count_only w _ (λ n. refl) d e)
    (word_is w (codes "updated") _ _ e P (said Updated count_in whole count_only w _ (λ n. refl) d e)
    (word_is w (codes "deleted") _ _ e P (said Deleted count_in whole count_only w _ (λ n. refl) d e)
    (word_is w (codes "warned") _ _ e P (said Warned (λ d. option_and_then warning_of (count_in d)) (λ x. whole (warning_number x))
    (counted warning_of warning_number warning_told) w _ (λ x. refl) d e)
    (word_is w (codes "failed") _ _ e P (said Failed (λ d. option_and_then fault_of (count_in d)) (λ x. whole (fault_number x))
    (counted fault_of fault_number fault_told) w _ (λ x. refl) d e)
    (word_is w (codes "notsent") _ _ e P (said NotSent step_in whole (counted _ (λ n. n) step_number) w _ (λ n. refl) d e) (λ none. cc))))))))

tagged_only : (w : List ℕ) (d : Data) (e : Event) → tagged_event w d ≡ Some e → event_data e ≡ tagged w d
tagged_only w d e =
    word_is w (codes "row") _ _ e (λ e. event_data e ≡ tagged w d)
    (said Row (list_in cell_in) (λ vs. list (map cell_data vs)) (list_only cell_in cell_data cell_only) w _ (λ vs. refl) d e) (numbered_only w d e)

pair_only : (is : Items) (e : Event) → pair_event is ≡ Some e → event_data e ≡ array is
pair_only no_items e is = cc
pair_only (item t no_items) e is = cc
pair_only (item null (item d no_items)) e is = cc
pair_only (item (boolean b) (item d no_items)) e is = cc
pair_only (item (number n) (item d no_items)) e is = cc
pair_only (item (string w) (item d no_items)) e is = tagged_only w d e is
pair_only (item (array ds) (item d no_items)) e is = cc
pair_only (item (object ms) (item d no_items)) e is = cc
pair_only (item t (item d (item c ds))) e is = cc

event_only : Only event_in event_data
event_only null e is = cc
event_only (boolean b) e is = cc
event_only (number n) e is = cc
event_only (string w) e is = word_only w e is
event_only (array ds) e is = pair_only ds e is
event_only (object ms) e is = cc

outcome_only : Only outcome_in outcome_data
outcome_only = list_only (list_in event_in) session_data (list_only event_in event_data event_only)

-- ---- two items

pub two_items : (vs : List Json) (v : Json) → length vs ≡ 2 → pair_event (items_view vs) ≡ tagged_by (as_str (view (get_or vs 0 v))) (view (get_or vs 1 v))
two_items [] v is = cc
two_items (a ∷ []) v is = cc
two_items (a ∷ b ∷ []) v is = refl
two_items (a ∷ b ∷ c ∷ vs) v is = absurd (omega (arith, is))

pub not_two_items : (vs : List Json) → length vs ≢ 2 → pair_event (items_view vs) ≡ None
not_two_items [] not_two = refl
not_two_items (a ∷ []) not_two = refl
not_two_items (a ∷ b ∷ []) not_two = absurd (not_two refl)
not_two_items (a ∷ b ∷ c ∷ vs) not_two = refl

-- ---- what a reader answers

pub stands : (r : Result (List (List Event)) ValueError) (d : Data) → Reads (λ o. o) r (outcome_in d) → IfOk r (λ o. outcome_data o ≡ d)
stands (Ok o) d is = outcome_only d o is
stands (Err e) d is = tt

pub stands_for_none : (r : Result (List (List Event)) ValueError) (d : Data) → Reads (λ o. o) r (outcome_in d)
    → IfErr r (λ e. e ≡ BadField → (o : List (List Event)) → OutcomeFits o → outcome_data o ≢ d)
stands_for_none (Ok o) d is = tt
stands_for_none (Err BadField) d is = λ same o fits given. let back = outcome_back o fits in let read = ap outcome_in given in cc
stands_for_none (Err NoMemory) d is = λ same. cc
