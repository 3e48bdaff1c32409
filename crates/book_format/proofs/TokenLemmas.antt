-- The grammar's loops of JSON, a turn at a time, as data: what stands first, and what is left.
use Rattle.std.proofs.Common.{◌≡◌, sym, ap, ◌∙◌, ℕ, ◌-◌, ◌<◌, ◌≤◌, List, [], ◌∷◌, ◌++◌, length, Option, Some, None, arith}
use Rattle.std.proofs.Common.{append-nil}
use Rattle.std.specs.Prelude.{option_map, option_and_then, IfSome}
use Rattle.json.specs.Token.{Token}
use Rattle.json.specs.Lex.{tokens}
use Rattle.json.specs.Json as json
use Rattle.json.specs.Json.{items, value, parse_map, if_last}
use Rattle.json.specs.Tree.{HasNumbers, json_tokens}
use Rattle.json.specs.Tree as tree
use Rattle.json.specs.Print.{print}
use Rattle.json.proofs.Grammar.{left, items_end, items_more, value-begin_array, skip_value-shorter}
use Rattle.json.proofs.Printed.Tokens.{tokens-print}
use Rattle.json.proofs.Printed.Trees.{value-json_tokens, ArePrintable-json_tokens}
use Rattle.serde_json.specs.Data.{Data, array, Items, no_items, item}
use Rattle.serde_json.specs.Read.{of_json, of_items, converted, max_depth, read}
use Rattle.serde_json.specs.View.{view}
use Rattle.serde_json.specs.declared.value.Value.{Value}
use Rattle.book_format.specs.Tokens.{IsValueAt, IsItemAt, AreItemsAt, item_depth, member_depth}

-- ---- what is read under a conversion

abbrev first : {A : Type 0} → A → Option (A × List Token) → A
first a None = a
first a (Some p) = p.0

abbrev second : {A : Type 0} → List Token → Option (A × List Token) → List Token
second r None = r
second r (Some p) = p.1

same-pair : {A : Type 0} (a b : A) (r s : List Token) → (let o : Option (A × List Token) = Some (a, r) in o) ≡ Some (b, s) → (a ≡ b) × (r ≡ s)
same-pair a b r s e = (ap (λ o. first a o) e, ap (λ o. second r o) e)

under : {A B : Type 0} (a : A) (r s : List Token) (x : Option B) (b : B) → option_map {U = B × List Token} (λ y. (y, r)) x ≡ Some (b, s) → (r ≡ s) × (x ≡ Some b)
under a r s None b e = absurd (cc)
under a r s (Some y) b e = let same = same-pair y b r s e in (same.1, ap Some same.0)

-- what is read so was read as a tree
pub read-as : {A B : Type 0} (f : A → Option B) (o : Option (A × List Token)) (b : B) (r : List Token) → converted f o ≡ Some (b, r)
    → (a : A) × (o ≡ Some (a, r)) × (f a ≡ Some b)
read-as f None b r e = absurd (cc)
read-as f (Some p) b r e = let both = under p.0 p.1 r (f p.0) b e in (p.0, ap (λ s. Some (p.0, s)) both.0, both.1)

-- and the other way round
pub read-so : {A B : Type 0} (f : A → Option B) (o : Option (A × List Token)) (a : A) (b : B) (r : List Token) → o ≡ Some (a, r) → f a ≡ Some b
    → converted f o ≡ Some (b, r)
read-so f o a b r e is = ap (converted f) e ∙ ap (option_map (λ y. (y, r))) is

-- ---- a tree that is written and read

-- a tree whose text is read is the value
pub tree-read : (j : json.Json) (bytes : List ℕ) (d : Data) → HasNumbers j → tree.depth j ≤ max_depth → bytes ≡ print (json_tokens j) → read bytes ≡ Some d
    → of_json j ≡ Some d
tree-read j bytes d numbers deep is got =
    let same : tokens bytes ≡ json_tokens j ++ [] = ap tokens is ∙ tokens-print (json_tokens j) (ArePrintable-json_tokens j numbers) ∙ sym (append-nil (json_tokens j)) in
    let whole : value max_depth (tokens bytes) ≡ Some (j, []) = ap (value max_depth) same ∙ value-json_tokens j max_depth [] deep in
    sym (ap (λ o. option_and_then of_json (option_and_then (λ p. if_last p.0 p.1) o)) whole) ∙ got

pub tree-copied : (j : json.Json) (bytes : List ℕ) (o : Option Value) → HasNumbers j → tree.depth j ≤ max_depth → bytes ≡ print (json_tokens j)
    → IfSome o (λ v. read bytes ≡ Some (view v)) → IfSome o (λ v. of_json j ≡ Some (view v))
tree-copied j bytes None numbers deep is got = tt
tree-copied j bytes (Some v) numbers deep is got = tree-read j bytes (view v) numbers deep is got

-- ---- values

-- what the value read and copied is
pub read-copied : (depth : ℕ) (old new : List Token) (j : json.Json) (o : Option Value) → value depth old ≡ Some (j, new) → IfSome o (λ v. of_json j ≡ Some (view v))
    → IfSome o (λ v. IsValueAt depth old (view v) new)
read-copied depth old new j None is got = tt
read-copied depth old new j (Some v) is got = read-so of_json (value depth old) j (view v) new is got

-- a value takes at least a token
pub value-shorter : (depth : ℕ) (ts r : List Token) (d : Data) → IsValueAt depth ts d r → length r < length ts
value-shorter depth ts r d is = let j = read-as of_json (value depth ts) d r is in skip_value-shorter depth ts r (ap left j.1)

-- ---- items

-- nothing more is read
pub items-end : (ts r : List Token) → IsItemAt ts None r → AreItemsAt ts no_items r
items-end ts r is = λ n enough. ap (converted of_items) (items_end (value item_depth) n ts r enough is)

with-item : (j : json.Json) (d : Data) → of_json j ≡ Some d → (o : Option (json.Items × List Token)) (ds : Items) (left : List Token)
    → converted of_items o ≡ Some (ds, left) → converted of_items (parse_map (json.item j) o) ≡ Some (item d ds, left)
with-item j d e o ds left is =
    let js = read-as of_items o ds left is in
    ap (λ o. converted of_items (parse_map (json.item j) o)) js.1
    ∙ ap (λ x. option_map {U = Items × List Token} (λ y. (y, left)) (option_and_then (λ d. option_map (item d) (of_items js.0)) x)) e
    ∙ ap (λ x. option_map {U = Items × List Token} (λ y. (y, left)) (option_map (item d) x)) js.2

-- an item and the items behind it
pub items-more : (ts mid left : List Token) (d : Data) (ds : Items) → IsItemAt ts (Some d) mid → AreItemsAt mid ds left → AreItemsAt ts (item d ds) left
items-more ts mid left d ds is rest = λ n enough.
    let j = read-as of_json (value item_depth ts) d mid is.1 in
    let less = value-shorter item_depth ts mid d is.1 in
    ap (converted of_items) (items_more (value item_depth) n ts mid j.0 (omega (arith, less, enough)) is.0 j.1)
    ∙ with-item j.0 d j.2 (items (value item_depth) (n - 1) mid) ds left (rest (n - 1) (omega (arith, less, enough)))

-- the array of them
pub array-read : (all ts left : List Token) (ds : Items) → all ≡ Token.begin_array ∷ ts → AreItemsAt ts ds left → IsValueAt member_depth all (array ds) left
array-read all ts left ds is are =
    let js = read-as of_items (items (value item_depth) (length ts) ts) ds left (are (length ts) (omega arith)) in
    ap (λ a. converted of_json (value member_depth a)) is
    ∙ ap (converted of_json) (value-begin_array member_depth ts (omega arith) ∙ ap (parse_map json.array) js.1)
    ∙ ap (λ x. option_map {U = Data × List Token} (λ y. (y, left)) (option_map array x)) js.2
