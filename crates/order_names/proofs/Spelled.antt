-- Names with doubled quotes, and lines of names.
use Rattle.std.proofs.Common.{◌≡◌, ℕ, suc, ◌+◌, ◌-◌, ◌<◌, ◌≤◌, Bool, true, false, List, [], ◌∷◌, ◌++◌, length, map, take, drop, get_or, refl, sym, ap, ◌∙◌, arith}
use Rattle.std.proofs.Common.{one-add, eqb-true, eq-eqb, append_assoc}
use Rattle.std.proofs.lemmas.Bool.{false≢true}
use Rattle.std.proofs.lemmas.List.{drop_more, length-map, length-drop}
use Rattle.std.specs.Prelude.{◌==◌}
use Rattle.std.specs.List.{AllZip, prefix_len}
use Rattle.byte_runs.specs.declared.runs.Class.TheVariants as class
use Rattle.byte_runs.specs.Bytes.{in_class}
use Rattle.bound_specs.specs.Spec.{SpecFile}
use Rattle.order_names.specs.Orders.{Name, name_of, IsStepNamed}
use Rattle.order_names.specs.Spelling.{doubled, spelled, separator, is_none, order_text, names_of}

-- a front without quotes, and what follows
front : (b : ℕ) (bs : List ℕ) (q : Bool) → (b == 34) ≡ q → doubled bs ≡ take (prefix_len (in_class class.DoubleQuoted) bs) bs
    ++ doubled (drop (prefix_len (in_class class.DoubleQuoted) bs) bs) → doubled (b ∷ bs)
    ≡ take (prefix_len (in_class class.DoubleQuoted) (b ∷ bs)) (b ∷ bs)
    ++ doubled (drop (prefix_len (in_class class.DoubleQuoted) (b ∷ bs)) (b ∷ bs))
front b bs true e h = rw (e, e) refl
front b bs false e h = rw (e, one-add) (ap (λ (l : List ℕ). b ∷ l) h)

pub doubled_front : (xs : List ℕ) → doubled xs ≡ take (prefix_len (in_class class.DoubleQuoted) xs) xs
    ++ doubled (drop (prefix_len (in_class class.DoubleQuoted) xs) xs)
doubled_front [] = refl
doubled_front (b ∷ bs) = front b bs (b == 34) refl (doubled_front bs)

-- nothing is left where the next place is the end
ended : (file : SpecFile) (rest : List ℕ) (next end : ℕ) → length rest ≡ end - next → next ≤ end → is_none (names_of file rest) ≡ (next == end)
ended file rest next end long le =
    by (length (names_of file rest) == 0) refl (next == end) refl
  where
    by : (a : Bool) → (length (names_of file rest) == 0) ≡ a → (b : Bool) → (next == end) ≡ b → is_none (names_of file rest) ≡ (next == end)
    by true e true f = e ∙ sym f
    by true e false f = absurd (false≢true (sym f ∙ eq-eqb next end (
        let none = eqb-true (length (names_of file rest)) 0 e in let count = length-map rest (name_of file) in omega (arith, none, count, long, le))))
    by false e true f = absurd (false≢true (sym e ∙ eq-eqb (length (names_of file rest)) 0 (
        let same = eqb-true next end f in let count = length-map rest (name_of file) in omega (arith, same, count, long))))
    by false e false f = e ∙ sym f

-- one name more of a line
pub order-more : (file : SpecFile) (line : List ℕ) (place : ℕ) (last : Bool) (front whole : List ℕ) → place < length line
    → ((place + 1 == length line) ≡ last) → front ++ order_text (names_of file (drop place line)) ≡ whole
    → ((front ++ spelled (name_of file (get_or line place 0))) ++ separator last) ++ order_text (names_of file (drop (place + 1) line)) ≡ whole
order-more file line place last front whole lt end h =
    let rest = drop (place + 1) line in
    let cons : drop place line ≡ get_or line place 0 ∷ rest = drop_more line place 0 lt in
    let name = spelled (name_of file (get_or line place 0)) in
    let none : is_none (names_of file rest) ≡ last = ended file rest (place + 1) (length line) (length-drop (place + 1) line) (omega (arith, lt)) ∙ end in
    append_assoc (front ++ name) (separator last) (order_text (names_of file rest))
    ∙ append_assoc front name (separator last ++ order_text (names_of file rest))
    ∙ ap (λ (b : Bool). front ++ (name ++ (separator b ++ order_text (names_of file rest)))) (sym none)
    ∙ ap (λ (l : List ℕ). front ++ order_text (names_of file l)) (sym cons)
    ∙ h

-- the names of known steps are those of the line
pub named : (file : SpecFile) (line : List ℕ) → ((k d : ℕ) → k < length line → get_or line k d < length file.run.steps) → AllZip (IsStepNamed file) (names_of file line) line
named file [] known = tt
named file (k ∷ ks) known =
    (record { known = known 0 0 (omega arith); named = refl }, named file ks (λ n d lt. known (suc n) d (omega (arith, lt))))
