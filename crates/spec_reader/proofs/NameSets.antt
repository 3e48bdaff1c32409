-- A set of names as the standard library keeps it, and as a list.
use Rattle.std.proofs.Common.{◌≡◌, ℕ, Bool, true, false, List, [], ◌∷◌, ◌++◌, map, refl, ap, sym, ◌∙◌, append_assoc, nat_cmp}
use Rattle.std.specs.Prelude.{bytes_eq, ◌||◌, cond}
use Rattle.std.specs.List.{list_any}
use Rattle.std.specs.declared.string.String.{String}
use Rattle.std.specs.String.{string_bytes, string_cmp}
use Rattle.std.specs.Cmp.Lexicographic.{slice_cmp}
use Rattle.std.specs.BTreeMap.{is_at}
use Rattle.std.proofs.lemmas.Cmp.{nat_list_eq_equiv}
use Rattle.std.specs.BTreeSet.{BTreeSet, Updates}
use Rattle.std.proofs.lemmas.List.Folds.{list_any-append}
use Rattle.std.proofs.lemmas.Map.Text.{is_eq-slice_cmp, btree_set_updates_text}
use Rattle.std.proofs.lemmas.List.{append-nil}
use Rattle.spec_reader.specs.declared.tree.Session.{Session}
use Rattle.spec_reader.specs.Names.{is_among, names_in, step_names, session_names, HaveSame}
use Rattle.spec_reader.specs.Views.{step_tree, session_tree}

pub has_text : {Y : Type 0} (n : List ℕ) (ks : List (String Y)) → list_any (is_at (λ k. slice_cmp nat_cmp n (string_bytes k))) ks
    ≡ is_among n (map string_bytes ks)
has_text n [] = refl
has_text n (k ∷ ks) =
    ap (λ (b : Bool). b || list_any (is_at (λ k. slice_cmp nat_cmp n (string_bytes k))) ks) (is_eq-slice_cmp n (string_bytes k))
    ∙ ap (λ (b : Bool). bytes_eq n (string_bytes k) || b) (has_text n ks)

same_text : (a b : List ℕ) → bytes_eq a b ≡ bytes_eq b a
same_text a b = nat_list_eq_equiv.symm a b

either : (has is : Bool) → (has || (is || false)) ≡ cond is true has
either true true = refl
either true false = refl
either false true = refl
either false false = refl

pub added : {Y : Type 0} (k : String Y) (s n : BTreeSet (String Y)) → Updates string_cmp s n k true
    → HaveSame (map string_bytes s.keys ++ string_bytes k ∷ []) (map string_bytes n.keys)
added k s n u = λ name.
    list_any-append (bytes_eq name) (map string_bytes s.keys) (string_bytes k ∷ [])
    ∙ either (is_among name (map string_bytes s.keys)) (bytes_eq name (string_bytes k))
    ∙ ap (λ (b : Bool). cond b true (is_among name (map string_bytes s.keys))) (same_text name (string_bytes k))
    ∙ ap (λ (b : Bool). cond (bytes_eq (string_bytes k) name) true b) (sym (has_text name s.keys))
    ∙ sym (btree_set_updates_text (string_bytes k) s n true u name)
    ∙ has_text name n.keys

-- more names behind those that are in a set
pub more_behind : (a p s n : List (List ℕ)) → HaveSame a s → HaveSame (s ++ p) n → HaveSame (a ++ p) n
more_behind a p s n had more = λ name.
    list_any-append (bytes_eq name) a p
    ∙ ap (λ (b : Bool). b || is_among name p) (had name)
    ∙ sym (list_any-append (bytes_eq name) s p)
    ∙ more name

step_names_behind : (ss : List Session) (s : Session) → step_names (map session_tree (ss ++ s ∷ [])) ≡ step_names (map session_tree ss)
    ++ names_in (map step_tree s.steps.items)
step_names_behind [] s = append-nil (names_in (map step_tree s.steps.items))
step_names_behind (t ∷ ss) s =
    ap (λ (names : List (List ℕ)). names_in (map step_tree t.steps.items) ++ names) (step_names_behind ss s)
    ∙ sym (append_assoc (names_in (map step_tree t.steps.items)) (step_names (map session_tree ss)) (names_in (map step_tree s.steps.items)))

session_names_behind : (ss : List Session) (s : Session) → session_names (map session_tree (ss ++ s ∷ [])) ≡ session_names (map session_tree ss)
    ++ string_bytes s.head.name ∷ []
session_names_behind [] s = refl
session_names_behind (t ∷ ss) s = ap (λ (names : List (List ℕ)). string_bytes t.head.name ∷ names) (session_names_behind ss s)

-- one session more, with its name and those of its steps
pub one_session_more : (ss all : List Session) (s : Session) (names more steps more_steps : List (List ℕ)) → all ≡ ss ++ s ∷ []
    → HaveSame (session_names (map session_tree ss)) names × HaveSame (step_names (map session_tree ss)) steps
    → HaveSame (names ++ string_bytes s.head.name ∷ []) more → HaveSame (steps ++ names_in (map step_tree s.steps.items)) more_steps
    → HaveSame (session_names (map session_tree all)) more × HaveSame (step_names (map session_tree all)) more_steps
one_session_more ss all s names more steps more_steps e had m ms = (
  (λ n. ap (λ (xs : List Session). is_among n (session_names (map session_tree xs))) e ∙ ap (is_among n) (session_names_behind ss s)
      ∙ more_behind _ _ names more had.0 m n),
  (λ n. ap (λ (xs : List Session). is_among n (step_names (map session_tree xs))) e ∙ ap (is_among n) (step_names_behind ss s)
      ∙ more_behind _ _ steps more_steps had.1 ms n),
)
