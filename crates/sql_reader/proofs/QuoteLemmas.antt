-- What stands between quotes.
use Rattle.std.proofs.Common.{◌≡◌, refl, sym, ap, subst, ◌∙◌, ℕ, suc, Bool, true, false, List, [], ◌∷◌, ◌++◌, Option, Some, None, option_map, take, drop}
use Rattle.std.proofs.Common.{append_assoc, arith}
use Rattle.std.specs.Prelude.{◌==◌}
use Rattle.std.specs.List.{prefix_len}
use Rattle.byte_runs.specs.declared.runs.Class.TheVariants as class
use Rattle.byte_runs.specs.Bytes.{in_class}
use Rattle.sql_grammar.specs.Lexing.{quoted, with_byte, with_quote, content, with_front, begins_quote}

byte_first : (b : ℕ) (o : Option (List ℕ × ℕ)) → option_map (λ (x : List ℕ × ℕ). x.0) (with_byte b o)
    ≡ with_front (b ∷ []) (option_map (λ (x : List ℕ × ℕ). x.0) o)
byte_first b None = refl
byte_first b (Some x) = refl

byte_if : (b : ℕ) (bs : List ℕ) (c : Bool) → c ≡ false
    → option_map (λ (x : List ℕ × ℕ). x.0) (elim c [ true ↦ with_quote (quoted true bs) | false ↦ with_byte b (quoted false bs) ])
    ≡ with_front (b ∷ []) (content bs)
byte_if b bs true e = absurd cc
byte_if b bs false e = byte_first b (quoted false bs)

content-byte : (b : ℕ) (bs : List ℕ) → (b == 39) ≡ false → content (b ∷ bs) ≡ with_front (b ∷ []) (content bs)
content-byte b bs e = byte_if b bs (b == 39) e

pub front-twice : (xs ys : List ℕ) (o : Option (List ℕ)) → with_front xs (with_front ys o) ≡ with_front (xs ++ ys) o
front-twice xs ys None = refl
front-twice xs ys (Some zs) = ap (λ (l : List ℕ). Some l) (sym (append_assoc xs ys zs))

no_front : (o : Option (List ℕ)) → o ≡ with_front [] o
no_front None = refl
no_front (Some x) = refl

abbrev run : List ℕ → ℕ
run bs = prefix_len (in_class class.SingleQuoted) bs

run-zero : (b : ℕ) (bs : List ℕ) → (b == 39) ≡ true → run (b ∷ bs) ≡ 0
run-zero b bs e = rw e refl

run-suc : (b : ℕ) (bs : List ℕ) → (b == 39) ≡ false → run (b ∷ bs) ≡ suc (run bs)
run-suc b bs e = rw e (omega arith)

abbrev split_front : List ℕ → ℕ → Option (List ℕ)
split_front bs n = with_front (take n bs) (content (drop n bs))

go_front : (b : ℕ) (bs : List ℕ) (q : Bool) → (b == 39) ≡ q → content bs ≡ split_front bs (run bs) → content (b ∷ bs) ≡ split_front (b ∷ bs) (run (b ∷ bs))
go_front b bs true e h = no_front (content (b ∷ bs)) ∙ sym (ap (split_front (b ∷ bs)) (run-zero b bs e))
go_front b bs false e h = content-byte b bs e ∙ ap (with_front (b ∷ [])) h ∙ front-twice (b ∷ []) (take (run bs) bs) (content (drop (run bs) bs))
    ∙ sym (ap (split_front (b ∷ bs)) (run-suc b bs e))

pub content-front : (bs : List ℕ) → content bs
    ≡ with_front (take (prefix_len (in_class class.SingleQuoted) bs) bs) (content (drop (prefix_len (in_class class.SingleQuoted) bs) bs))
content-front [] = refl
content-front (b ∷ bs) = go_front b bs (b == 39) refl (content-front bs)

abbrev StopsAt : List ℕ → ℕ → Type 0
StopsAt bs n = begins_quote (drop n bs) ≡ false → drop n bs ≡ []

go_stops : (b : ℕ) (bs : List ℕ) (q : Bool) → (b == 39) ≡ q → StopsAt bs (run bs) → StopsAt (b ∷ bs) (run (b ∷ bs))
go_stops b bs true e h = subst (StopsAt (b ∷ bs)) (sym (run-zero b bs e)) (λ no. let both : true ≡ false = sym e ∙ no in absurd cc)
go_stops b bs false e h = subst (StopsAt (b ∷ bs)) (sym (run-suc b bs e)) h

-- a quote follows the run, or nothing
pub run_stops : (bs : List ℕ) → begins_quote (drop (prefix_len (in_class class.SingleQuoted) bs) bs) ≡ false
    → drop (prefix_len (in_class class.SingleQuoted) bs) bs ≡ []
run_stops [] = λ _. refl
run_stops (b ∷ bs) = go_stops b bs (b == 39) refl (run_stops bs)
