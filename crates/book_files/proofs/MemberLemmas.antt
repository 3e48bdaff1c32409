-- Members of an object that are read one after the other, in any order.
use Rattle.std.proofs.Common.{◌≡◌, refl, ap, ◌∙◌, ℕ, suc, ◌-◌, ◌≤◌, Bool, true, false, List, [], ◌∷◌, length, Option, Some, None, arith}
use Rattle.std.specs.Prelude.{option_map, option_and_then}
use Rattle.std.specs.Ordering.{nat_cmp, match_ordering}
use Rattle.std.specs.Cmp.Lexicographic.{slice_cmp}
use Rattle.std.specs.declared.cmp.Ordering.{Ordering}
use Rattle.std.specs.declared.cmp.Ordering.TheVariants.{Less, Equal, Greater}
use Rattle.json.specs.Token.{Token}
use Rattle.json.specs.Lex.{tokens}
use Rattle.json.specs.Json as json
use Rattle.json.specs.Json.{read_key, members, value, parse_map, if_last}
use Rattle.json.proofs.Grammar.{members_end, members_more, value-begin_object, value_is, read_key-shorter}
use Rattle.serde_json.specs.Data.{Data, string, object, Members, no_members, member, put}
use Rattle.serde_json.specs.Find.{get_member}
use Rattle.serde_json.specs.Read.{of_json, of_members, converted, read}
use Rattle.serde_json.proofs.Views.{get_member-put_other}
use Rattle.book_format.specs.ReadingBooks.{count_of}
use Rattle.book_format.specs.Tokens.{IsValueAt, member_depth}
use Rattle.book_format.proofs.TokenLemmas.{read-as, value-shorter}
use Rattle.book_files.specs.Members.{IsMember, IsNoted, object_depth}

-- the members up to the brace behind the last one, put to those that were found before
abbrev pub AreMembersAt : List Token → Members → Members → List Token → Type 0
AreMembersAt ts found ms left = (n : ℕ) → length ts ≤ n → converted (λ m. of_members m found) (members (value member_depth) n ts) ≡ Some (ms, left)

-- no member is left
pub members-end : (ts r : List Token) (found : Members) → read_key ts ≡ Some (None, r) → AreMembersAt ts found found r
members-end ts r found is = λ n enough. ap (converted (λ m. of_members m found)) (members_end (value member_depth) n ts r enough is)

with-member : (k : List ℕ) (j : json.Json) (d : Data) (found : Members) → of_json j ≡ Some d → (o : Option (json.Members × List Token)) (ms : Members)
    (left : List Token) → converted (λ m. of_members m (put k d found)) o ≡ Some (ms, left)
    → converted (λ m. of_members m found) (parse_map (json.member k j) o) ≡ Some (ms, left)
with-member k j d found e o ms left is =
    let js = read-as (λ m. of_members m (put k d found)) o ms left is in
    ap (λ o. converted (λ m. of_members m found) (parse_map (json.member k j) o)) js.1
    ∙ ap (λ x. option_map {U = Members × List Token} (λ y. (y, left)) (option_and_then (λ d. of_members js.0 (put k d found)) x)) e
    ∙ ap (λ x. option_map {U = Members × List Token} (λ y. (y, left)) x) js.2

-- a member and those behind it
pub members-more : (ts at mid left : List Token) (k : List ℕ) (d : Data) (found ms : Members) → read_key ts ≡ Some (Some k, at)
    → IsValueAt member_depth at d mid → AreMembersAt mid (put k d found) ms left → AreMembersAt ts found ms left
members-more ts at mid left k d found ms key is rest = λ n enough.
    let j = read-as of_json (value member_depth at) d mid is in
    let less = value-shorter member_depth at mid d is in
    let lesser = read_key-shorter ts (Some k) at key in
    ap (converted (λ m. of_members m found)) (members_more (value member_depth) n k ts at mid j.0 (omega (arith, less, lesser, enough)) key j.1)
    ∙ with-member k j.0 d found j.2 (members (value member_depth) (n - 1) mid) ms left (rest (n - 1) (omega (arith, less, lesser, enough)))

-- the object of them
pub object-at : (all ts left : List Token) (ms : Members) → all ≡ Token.begin_object ∷ ts → AreMembersAt ts no_members ms left
    → IsValueAt object_depth all (object ms) left
object-at all ts left ms is are =
    let js = read-as (λ m. of_members m no_members) (members (value member_depth) (length ts) ts) ms left (are (length ts) (omega arith)) in
    ap (λ a. converted of_json (value object_depth a)) is
    ∙ ap (converted of_json) (value-begin_object object_depth ts (omega arith) ∙ ap (parse_map json.object) js.1)
    ∙ ap (λ x. option_map {U = Data × List Token} (λ y. (y, left)) (option_map object x)) js.2

-- a text with no token behind its value is the text of that
pub whole-read : (text : List ℕ) (d : Data) → IsValueAt object_depth (tokens text) d [] → read text ≡ Some d
whole-read text d is =
    let j = read-as of_json (value object_depth (tokens text)) d [] is in
    ap (λ o. option_and_then of_json (option_and_then (λ p. if_last p.0 p.1) o)) j.1 ∙ j.2

-- ---- one member more

count-put-at : (o : Ordering) (k l : List ℕ) (d e : Data) (ms : Members) → (get_member k ms ≡ None → count_of (put k d ms) ≡ suc (count_of ms))
    → match_ordering o (get_member k ms) (Some e) (get_member k ms) ≡ None
    → count_of (match_ordering o (member k d (member l e ms)) (member l d ms) (member l e (put k d ms))) ≡ suc (count_of (member l e ms))
count-put-at Less k l d e ms later none = refl
count-put-at Equal k l d e ms later none = absurd (cc)
count-put-at Greater k l d e ms later none = ap suc (later none)

-- a name that was not there is one more
pub count-put : (k : List ℕ) (d : Data) (ms : Members) → get_member k ms ≡ None → count_of (put k d ms) ≡ suc (count_of ms)
count-put k d no_members none = refl
count-put k d (member l e ms) none = count-put-at (slice_cmp nat_cmp k l) k l d e ms (count-put k d ms) none

pub member-other : {X : Type 0} (P : X → Data → Type 0) (name k : List ℕ) (d : Data) (found : Members) (o : Option X) → (name ≡ k → ⊥)
    → IsMember P name found o → IsMember P name (put k d found) o
member-other P name k d found None other is = get_member-put_other name k d found other ∙ is
member-other P name k d found (Some x) other is = (is.0, get_member-put_other name k d found other ∙ is.1, is.2)

pub noted-other : (P : Data → Type 0) (name k : List ℕ) (d : Data) (found : Members) (b : Bool) → (name ≡ k → ⊥) → IsNoted P name found b
    → IsNoted P name (put k d found) b
noted-other P name k d found false other is = get_member-put_other name k d found other ∙ is
noted-other P name k d found true other is = (is.0, get_member-put_other name k d found other ∙ is.1, is.2)

-- a text is next
pub text-at : (ts r : List Token) (s t : List ℕ) → ts ≡ Token.string s ∷ r → s ≡ t → IsValueAt member_depth ts (string t) r
text-at ts r s t is same =
    ap (λ a. converted of_json (value member_depth a)) (is ∙ ap (λ x. Token.string x ∷ r) same)
    ∙ ap (converted of_json) (value_is member_depth (Token.string t ∷ r))
