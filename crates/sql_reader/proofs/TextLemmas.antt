-- The statements of a text are those that it spells.
use Rattle.std.proofs.Common.{◌≡◌, refl, sym, ap, subst, ◌∙◌, ℕ, zero, suc, ◌<◌, Bool, true, false, List, [], ◌∷◌, ◌++◌, length, drop, Option, Some, None}
use Rattle.std.proofs.Common.{Result, Ok, Err, arith, cond, append_assoc}
use Rattle.std.specs.Prelude.{codes}
use Rattle.sql_grammar.specs.Tokens.{Sign, End, Placed, is, is_last}
use Rattle.sql_grammar.specs.Lexing.{token_list}
use Rattle.sql_grammar.specs.Tree.{Last, More, Statement, Block}
use Rattle.sql_grammar.specs.Grammar.{Fault, FirstFault, optional, statement}
use Rattle.sql_grammar.specs.Reading.{first, rest, at, and_then, maybe_statement, block_of}
use Rattle.sql_grammar.specs.Text.{StatementAt, at_offset, placed, IsSpelled, read_text, fault_at, ended_by, next_statement, with_front, then_more}
use Rattle.sql_grammar.specs.Text.{statements_from, pushed}
use Rattle.sql_reader.proofs.Laws.{HasEnd}
use Rattle.sql_reader.proofs.TokenLaws.{is_same}
use Rattle.sql_reader.proofs.BlockLaws.{Left, maybe_left}
use Rattle.sql_reader.proofs.Ended.{ends, text_is_spelled, spelled_text_is_read, text_fault_is_first}

rest-drop : (n : ℕ) (ts : List Placed) → rest (drop n ts) ≡ drop (suc n) ts
rest-drop zero [] = refl
rest-drop zero (t ∷ ts) = refl
rest-drop (suc n) [] = refl
rest-drop (suc n) (t ∷ ts) = rest-drop n ts

still : (ts : List Placed) → HasEnd ts → is (Sign (codes ";")) (first ts).token ≡ true → HasEnd (rest ts)
still [] h e = absurd h
still (t ∷ ts) h e = subst (λ (b : Bool). cond b (ts ≡ []) (HasEnd ts)) (ap is_last (is_same (Sign (codes ";")) t.token e)) h

fewer : (ts : List Placed) → HasEnd ts → length (rest ts) < length ts
fewer [] h = absurd h
fewer (t ∷ ts) h = omega arith

abbrev Located : ℕ → List Placed → Type 0
Located n ts = statements_from n ts ≡ and_then (block_of n ts) (λ b. Ok (placed b ts))

-- a block behind a semicolon
more_is : (n : ℕ) (ts left : List Placed) (o : Option Statement) → left ≡ drop (length (optional statement o)) ts → (r : Result Block Fault)
    → statements_from n (rest left) ≡ and_then r (λ b. Ok (placed b (rest left)))
    → with_front (at_offset (first ts).at o) (statements_from n (rest left)) ≡ and_then (and_then r (λ b. Ok (More o b))) (λ b. Ok (placed b ts))
more_is n ts left o e (Ok b) h =
    ap (with_front (at_offset (first ts).at o)) h
    ∙ ap (λ (us : List Placed). Ok (at_offset (first ts).at o ++ placed b us)) (ap rest e ∙ rest-drop (length (optional statement o)) ts)
more_is n ts left o e (Err f) h = ap (with_front (at_offset (first ts).at o)) h

abbrev left_of : ℕ → List Placed → Option Statement → List Placed → Bool → Bool → Result Block Fault
left_of n ts o left s e = cond s (and_then (block_of n (rest left)) (λ b. Ok (More o b))) (cond e (Ok (Last o)) (Err (fault_at left)))

abbrev ended_as : List StatementAt → List Placed → Bool → Bool → Result (List StatementAt × Option (List Placed)) Fault
ended_as ss left s e = cond s (Ok (ss, Some (rest left))) (cond e (Ok (ss, None)) (Err (fault_at left)))

item : (n : ℕ) (ts left : List Placed) (o : Option Statement) → Left ts o left → (HasEnd (rest left) → Located n (rest left)) → (s e : Bool)
    → is (Sign (codes ";")) (first left).token ≡ s
    → then_more (ended_as (at_offset (first ts).at o) left s e) (statements_from n) ≡ and_then (left_of n ts o left s e) (λ b. Ok (placed b ts))
item n ts left o h ih true e p = more_is n ts left o h.is (block_of n (rest left)) (ih (still left h.ended p))
item n ts left o h ih false true p = refl
item n ts left o h ih false false p = refl

pub located : (n : ℕ) (ts : List Placed) → HasEnd ts → length ts < n → Located n ts
unfolding next_statement
located zero ts h lt = absurd (omega arith)
located (suc n) ts h lt = go (maybe_statement ts) refl (λ us e l. located n us e l)
  where
    go : (r : Result (Option Statement × List Placed) Fault) → maybe_statement ts ≡ r → ((us : List Placed) → HasEnd us → length us < n → Located n us)
        → then_more (and_then r (λ s. ended_by (at_offset (first ts).at s.0) s.1)) (statements_from n)
        ≡ and_then (and_then r (λ s. left_of n ts s.0 s.1 (at (Sign (codes ";")) s.1) (at End s.1))) (λ b. Ok (placed b ts))
    go (Err f) e ih = refl
    go (Ok x) e ih =
        let l = maybe_left ts x.0 x.1 h e in
        item n ts x.1 x.0 l (λ k. ih (rest x.1) k (omega (arith, l.shorter, fewer x.1 l.ended))) (at (Sign (codes ";")) x.1) (at End x.1) refl

-- ---- the text

abbrev pub Reads : List ℕ → Result (List StatementAt) Fault → Type 0
Reads text r = statements_from (suc (length (token_list text))) (token_list text) ≡ r

text_located : (text : List ℕ) → statements_from (suc (length (token_list text))) (token_list text)
    ≡ and_then (read_text text) (λ b. Ok (placed b (token_list text)))
text_located text = located (suc (length (token_list text))) (token_list text) (ends text) (omega arith)

pub read-sound : (text : List ℕ) (ss : List StatementAt) → Reads text (Ok ss) → IsSpelled text ss
read-sound text ss e = go (read_text text) refl
  where
    go : (r : Result Block Fault) → read_text text ≡ r → IsSpelled text ss
    go (Ok b) f =
        let h : ◌≡◌ {A = Result (List StatementAt) Fault} (Ok (placed b (token_list text))) (Ok ss) =
        sym (text_located text ∙ ap (λ (r : Result Block Fault). and_then r (λ b. Ok (placed b (token_list text)))) f) ∙ e in
        record { tree = b; spelled = text_is_spelled text b f; statements = cc }
    go (Err g) f =
        let h : ◌≡◌ {A = Result (List StatementAt) Fault} (Err g) (Ok ss) =
        sym (text_located text ∙ ap (λ (r : Result Block Fault). and_then r (λ b. Ok (placed b (token_list text)))) f) ∙ e in
        absurd cc

pub read-complete : (text : List ℕ) (ss : List StatementAt) → IsSpelled text ss → Reads text (Ok ss)
read-complete text ss h =
    text_located text
    ∙ ap (λ (r : Result Block Fault). and_then r (λ b. Ok (placed b (token_list text)))) (spelled_text_is_read text h.tree h.spelled)
    ∙ ap (λ (xs : List StatementAt). Ok xs) h.statements

pub read-fault : (text : List ℕ) (f : Fault) → Reads text (Err f) → FirstFault (token_list text) f
read-fault text f e = go (read_text text) refl
  where
    go : (r : Result Block Fault) → read_text text ≡ r → FirstFault (token_list text) f
    go (Ok b) g =
        let h : ◌≡◌ {A = Result (List StatementAt) Fault} (Ok (placed b (token_list text))) (Err f) =
        sym (text_located text ∙ ap (λ (r : Result Block Fault). and_then r (λ b. Ok (placed b (token_list text)))) g) ∙ e in
        absurd cc
    go (Err k) g =
        let h : ◌≡◌ {A = Result (List StatementAt) Fault} (Err k) (Err f) =
        sym (text_located text ∙ ap (λ (r : Result Block Fault). and_then r (λ b. Ok (placed b (token_list text)))) g) ∙ e in
        let same : k ≡ f = cc in
        subst (FirstFault (token_list text)) same (text_fault_is_first text k g)

-- what is read is all that is spelled
pub read-only : (text : List ℕ) (ss tt : List StatementAt) → Reads text (Ok ss) → IsSpelled text tt → ss ≡ tt
read-only text ss tt e h = let both : ◌≡◌ {A = Result (List StatementAt) Fault} (Ok ss) (Ok tt) = sym e ∙ read-complete text tt h in cc

-- a text that is refused spells nothing
pub read-nothing : (text : List ℕ) (f : Fault) (ss : List StatementAt) → Reads text (Err f) → IsSpelled text ss → ⊥
read-nothing text f ss e h = let both : ◌≡◌ {A = Result (List StatementAt) Fault} (Err f) (Ok ss) = sym e ∙ read-complete text ss h in absurd cc

pub spelled-one : (text : List ℕ) (a b : List StatementAt) → IsSpelled text a → IsSpelled text b → a ≡ b
spelled-one text a b h k = read-only text a b (read-complete text a h) k

-- ---- the loop over statements

abbrev Next : Type 0
Next = List StatementAt × Option (List Placed)

same_next : (p q : Next) → ◌≡◌ {A = Result Next Fault} (Ok p) (Ok q) → p ≡ q
same_next p q e = cc

next_ok : (xs : List StatementAt) (n : ℕ) (r : Result Next Fault) (ys : List StatementAt) (more : List Placed) → pushed xs r ≡ Ok (ys, Some more)
    → with_front xs (then_more r (statements_from n)) ≡ with_front ys (statements_from n more)
next_ok xs n (Err f) ys more e = absurd cc
next_ok xs n (Ok (zs, None)) ys more e =
    let both = same_next (xs ++ zs, None) (ys, Some more) e in
    let behind : ◌≡◌ {A = Option (List Placed)} None (Some more) = ap (λ (p : Next). p.1) both in
    absurd cc
next_ok xs n (Ok (zs, Some us)) ys more e =
    let both = same_next (xs ++ zs, Some us) (ys, Some more) e in
    let front : xs ++ zs ≡ ys = ap (λ (p : Next). p.0) both in
    let after : ◌≡◌ {A = Option (List Placed)} (Some us) (Some more) = ap (λ (p : Next). p.1) both in
    let behind : us ≡ more = cc in
    twice (statements_from n us) ∙ (λ i. with_front (front i) (statements_from n (behind i)))
  where
    twice : (q : Result (List StatementAt) Fault) → with_front xs (with_front zs q) ≡ with_front (xs ++ zs) q
    twice (Ok ws) = ap (λ (l : List StatementAt). Ok l) (sym (append_assoc xs zs ws))
    twice (Err f) = refl

-- the statements so far and those to come, of n more at most
abbrev pub SoFar : ℕ → List StatementAt → List Placed → Result (List StatementAt) Fault → Type 0
SoFar n xs ts whole = with_front xs (statements_from n ts) ≡ whole

pub goes_on : (n m : ℕ) (xs ys : List StatementAt) (ts more : List Placed) (whole : Result (List StatementAt) Fault) → n ≡ suc m → SoFar n xs ts whole
    → pushed xs (next_statement ts) ≡ Ok (ys, Some more) → SoFar m ys more whole
goes_on n m xs ys ts more whole k so_far e = sym (next_ok xs m (next_statement ts) ys more e)
    ∙ ap (λ (i : ℕ). with_front xs (statements_from i ts)) (sym k) ∙ so_far
