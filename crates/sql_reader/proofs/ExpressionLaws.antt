-- Literals, factors, terms and sums are read as they are spelled.
use Rattle.std.proofs.Common.{◌≡◌, ℕ, suc, Bool, true, false, List, [], ◌∷◌, ◌++◌, length, Some, None, Ok, refl, subst, inl, inr, ◌⊎◌, arith}
use Rattle.std.specs.Prelude.{codes, ◌||◌}
use Rattle.sql_grammar.specs.Tokens.{Token, Word, Sign, Number, Text, Placed, is, is_last}
use Rattle.sql_grammar.specs.Tree.{Name, Last, More, Term, Sum, Only, Then}
use Rattle.sql_grammar.specs.Grammar.{Marked, mark, plain}
use Rattle.sql_grammar.specs.Grammar as grammar
use Rattle.sql_grammar.specs.Reading.{◌>>=◌, first, taken, the, skip, number_of, text_of, over_i64, is_text, is_name, whole, literal, factor, term}
use Rattle.sql_grammar.specs.Reading.{add_sign, sum}
use Rattle.sql_reader.proofs.Laws.{HasEnd, Agrees, Heads, closed, one, one_within, then, mapped, choice, both, also, IsChain, in_chain, or-false, heads-append}
use Rattle.sql_reader.proofs.TokenLaws.{skips, names, the-back, the-none, which-back}
use Rattle.sql_grammar.specs.declared.expression.Literal.{Literal}
use Rattle.sql_grammar.specs.declared.expression.Literal.TheVariants.{Whole, Quoted}
use Rattle.sql_grammar.specs.declared.expression.Factor.{Factor}
use Rattle.sql_grammar.specs.declared.expression.Factor.TheVariants.{Value, Column}
use Rattle.sql_grammar.specs.declared.expression.AddSign.{AddSign}
use Rattle.sql_grammar.specs.declared.expression.AddSign.TheVariants.{Plus, Minus}

-- ---- literals

number-back : (t : Token) (n : ℕ) → number_of t ≡ Some n → t ≡ Number n
number-back (Number m) n e = cc
number-back t n e = absurd cc

text-back : (t : Token) (b : List ℕ) → text_of t ≡ Some b → t ≡ Text b
text-back (Text c) b e = cc
text-back t b e = absurd cc

abbrev sp_number : Bool → ℕ → List Marked
sp_number negative n = mark (Number n) (over_i64 negative n) ∷ []

whole_law : (negative : Bool) (on : Token → Bool) (ts : List Placed) → HasEnd ts
    → Agrees {I = ℕ} (λ n. Whole negative n) (sp_number negative) on ts (whole negative ts)
whole_law negative on ts ends = mapped (λ (n : ℕ). Whole negative n) (λ n. n) (sp_number negative) on ts _
    (one_within number_of Number (over_i64 negative) on 0 number-back (λ n. refl) (λ n. refl) ts ends)

abbrev sp_negative : Unit {0} × ℕ → List Marked
sp_negative p = plain (Sign (codes "-")) ∷ sp_number true p.1

negative_law : (on : Token → Bool) (ts : List Placed) → HasEnd ts
    → Agrees {I = Unit {0} × ℕ} (λ p. Whole true p.1) sp_negative on ts (skip (Sign (codes "-")) ts >>= λ m. whole true m.1)
negative_law on ts ends = then (λ u n. Whole true n) (λ u. plain (Sign (codes "-")) ∷ []) (sp_number true) closed on ts _ _ 0 (λ j more stop. refl)
    (skips (Sign (codes "-")) refl refl closed ts ends) (λ x h. whole_law true on x.1 h.ended)

quoted_law : (on : Token → Bool) (ts : List Placed) → HasEnd ts
    → Agrees {I = List ℕ} (λ b. Quoted b) (λ b. plain (Text b) ∷ []) on ts (taken (text_of (first ts).token) ts >>= λ b. Ok (Quoted b.0, b.1))
quoted_law on ts ends =
    mapped (λ (b : List ℕ). Quoted b) (λ b. b) (λ b. plain (Text b) ∷ []) on ts _ (one text_of Text on [] text-back (λ b. refl) (λ b. refl) ts ends)

abbrev Numbers : Type 0
Numbers = (Unit {0} × ℕ) ⊎ ℕ

abbrev tree_number : Numbers → Literal
tree_number = both (λ (p : Unit {0} × ℕ). Whole true p.1) (λ (n : ℕ). Whole false n)

abbrev sp_numbers : Numbers → List Marked
sp_numbers = both sp_negative (sp_number false)

heads_number : (n : Numbers) (more : List Marked) → Heads is_text false (sp_numbers n ++ more)
heads_number (inl p) more = refl
heads_number (inr n) more = refl

abbrev of_literal : Literal → List ℕ ⊎ Numbers
of_literal (Whole true n) = inr (inl (tt, n))
of_literal (Whole false n) = inr (inr n)
of_literal (Quoted b) = inl b

abbrev tree_literal : List ℕ ⊎ Numbers → Literal
tree_literal = both (λ (b : List ℕ). Quoted b) tree_number

abbrev sp_literal : List ℕ ⊎ Numbers → List Marked
sp_literal = both (λ (b : List ℕ). plain (Text b) ∷ []) sp_numbers

literal_to : (i : List ℕ ⊎ Numbers) → (tree_literal i ≡ tree_literal i) × (grammar.literal (tree_literal i) ≡ sp_literal i)
literal_to (inl b) = (refl, refl)
literal_to (inr (inl p)) = (refl, refl)
literal_to (inr (inr n)) = (refl, refl)

literal_back : (l : Literal) → (tree_literal (of_literal l) ≡ l) × (sp_literal (of_literal l) ≡ grammar.literal l)
literal_back (Whole true n) = (refl, refl)
literal_back (Whole false n) = (refl, refl)
literal_back (Quoted b) = (refl, refl)

pub literal_law : (on : Token → Bool) (ts : List Placed) → HasEnd ts → Agrees {I = Literal} (λ l. l) grammar.literal on ts (literal ts)
literal_law on ts ends =
    also tree_literal sp_literal (λ l. l) grammar.literal on ts _ tree_literal of_literal literal_to literal_back
    (choice (λ (b : List ℕ). Quoted b) tree_number (λ (b : List ℕ). plain (Text b) ∷ []) sp_numbers on is_text ts _ _ (λ b more stop. refl)
    (λ n more stop. heads_number n more)
    (λ e. quoted_law on ts ends)
    (λ e. choice (λ (p : Unit {0}
    × ℕ). Whole true p.1) (λ (n : ℕ). Whole false n) sp_negative (sp_number false) on (is (Sign (codes "-"))) ts _ _ (λ p more stop. refl)
    (λ n more stop. refl)
    (λ e'. negative_law on ts ends) (λ e'. whole_law false on ts ends)))

-- ---- what a literal, a factor, a term and a sum begin with

module _ (test : Token → Bool) (b : Bool) (of_word : (n : Name) → test (Word n) ≡ b) (of_text : (c : List ℕ) → test (Text c) ≡ b) (of_number : (n : ℕ)
    → test (Number n) ≡ b) (of_minus : test (Sign (codes "-")) ≡ b) where
  pub heads_literal : (l : Literal) → Heads test b (grammar.literal l)
  heads_literal (Whole true n) = of_minus
  heads_literal (Whole false n) = of_number n
  heads_literal (Quoted c) = of_text c

  pub heads_factor : (f : Factor) → Heads test b (grammar.factor f)
  heads_factor (Value l) = heads_literal l
  heads_factor (Column n) = of_word n

  pub heads_term : (t : Term) → Heads test b (grammar.term t)
  heads_term (Last f) = heads_factor f
  heads_term (More f t) = heads-append test b (grammar.factor f) _ (heads_factor f)

  pub heads_sum : (s : Sum) → Heads test b (grammar.sum s)
  heads_sum (Only t) = heads_term t
  heads_sum (Then t s e) = heads-append test b (grammar.term t) _ (heads_term t)

-- ---- factors

literal_no_name : (l : Literal) (more : List Marked) → Heads is_name false (grammar.literal l ++ more)
literal_no_name (Whole true n) more = refl
literal_no_name (Whole false n) more = refl
literal_no_name (Quoted c) more = refl

abbrev of_factor : Factor → Name ⊎ Literal
of_factor (Column n) = inl n
of_factor (Value l) = inr l

abbrev tree_factor : Name ⊎ Literal → Factor
tree_factor = both (λ (n : Name). Column n) (λ (l : Literal). Value l)

abbrev sp_factor : Name ⊎ Literal → List Marked
sp_factor = both (λ (n : Name). plain (Word n) ∷ []) grammar.literal

factor_to : (i : Name ⊎ Literal) → (tree_factor i ≡ tree_factor i) × (grammar.factor (tree_factor i) ≡ sp_factor i)
factor_to (inl n) = (refl, refl)
factor_to (inr l) = (refl, refl)

factor_back : (f : Factor) → (tree_factor (of_factor f) ≡ f) × (sp_factor (of_factor f) ≡ grammar.factor f)
factor_back (Column n) = (refl, refl)
factor_back (Value l) = (refl, refl)

pub factor_law : (on : Token → Bool) (ts : List Placed) → HasEnd ts → Agrees {I = Factor} (λ f. f) grammar.factor on ts (factor ts)
factor_law on ts ends =
    also tree_factor sp_factor (λ f. f) grammar.factor on ts _ tree_factor of_factor factor_to factor_back
    (choice (λ (n : Name). Column n) (λ (l : Literal). Value l) (λ (n : Name). plain (Word n) ∷ []) grammar.literal on is_name ts _ _
    (λ n more stop. refl) (λ l more stop. literal_no_name l more)
    (λ e. mapped (λ (n : Name). Column n) (λ n. n) (λ n. plain (Word n) ∷ []) on ts _ (names on ts ends))
    (λ e. mapped (λ (l : Literal). Value l) (λ l. l) grammar.literal on ts _ (literal_law on ts ends)))

-- ---- terms

abbrev pub on_term : Token → Bool
on_term t = is (Sign (codes "*")) t

pub some_factor : Factor
some_factor = Column []

not_none : (f : Factor) → grammar.factor f ≡ [] → ⊥
not_none (Column n) e = cc
not_none (Value (Whole true n)) e = cc
not_none (Value (Whole false n)) e = cc
not_none (Value (Quoted c)) e = cc

term_cases : (l : Term) → ((a : Factor) × (s : Unit {0}) × (l' : Term) × (l ≡ More a l')) ⊎ ((a : Factor) × (l ≡ Last a))
term_cases (Last f) = inr (f, refl)
term_cases (More f t) = inl (f, tt, t, refl)

term_chain : IsChain Last (λ f u t. More f t) (the (Sign (codes "*"))) (λ u. Sign (codes "*")) (λ k. grammar.factor) (λ k. grammar.term) closed on_term
term_chain = record {
  cases = term_cases;
  of_last = λ k a. refl;
  of_more = λ k a s l. refl;
  back = the-back (Sign (codes "*"));
  forth = λ s. refl;
  inside = λ s. refl;
  not_empty = λ k a. not_none a;
  ends_item = λ s. refl;
  weaker = λ t e. refl;
  no_sep = λ t e. the-none (Sign (codes "*")) t e;
}

pub term_law : (ts : List Placed) → HasEnd ts → Agrees {I = Term} (λ t. t) grammar.term on_term ts (term ts)
term_law ts ends = in_chain Last (λ f u t. More f t) (the (Sign (codes "*"))) (λ u. Sign (codes "*")) (λ k. grammar.factor) (λ k. grammar.term) closed
    on_term term_chain (λ k. factor) some_factor tt
    (λ k us e. factor_law closed us e) (suc (length ts)) 0 ts ends (omega arith)

-- ---- sums

abbrev pub on_sum : Token → Bool
on_sum t = on_term t || (is (Sign (codes "+")) t || is (Sign (codes "-")) t)

abbrev sign_token : AddSign → Token
sign_token s = Sign (grammar.add_sign s)

term_not_none : (t : Term) → grammar.term t ≡ [] → ⊥
term_not_none t e = subst (Heads (λ u. true) true) e (heads_term (λ u. true) true (λ n. refl) (λ c. refl) (λ n. refl) refl t)

sum_cases : (l : Sum) → ((a : Term) × (s : AddSign) × (l' : Sum) × (l ≡ Then a s l')) ⊎ ((a : Term) × (l ≡ Only a))
sum_cases (Only t) = inr (t, refl)
sum_cases (Then t s e) = inl (t, s, e, refl)

sign-back : (t : Token) (s : AddSign) → add_sign t ≡ Some s → t ≡ sign_token s
sign-back t s e = which-back sign_token ((Sign (codes "+"), Plus) ∷ (Sign (codes "-"), Minus) ∷ []) (refl, (refl, tt)) t s e

sign-forth : (s : AddSign) → add_sign (sign_token s) ≡ Some s
sign-forth Plus = refl
sign-forth Minus = refl

sign_inside : (s : AddSign) → is_last (sign_token s) ≡ false
sign_inside Plus = refl
sign_inside Minus = refl

sign_ends : (s : AddSign) → on_term (sign_token s) ≡ false
sign_ends Plus = refl
sign_ends Minus = refl

no_sign : (t : Token) → on_sum t ≡ false → add_sign t ≡ None
no_sign t e =
    let o = or-false (on_term t) (is (Sign (codes "+")) t || is (Sign (codes "-")) t) e in
    let p = or-false (is (Sign (codes "+")) t) (is (Sign (codes "-")) t) o.1 in
    rw (p.0, p.1) refl

sum_chain : IsChain Only Then add_sign sign_token (λ k. grammar.term) (λ k. grammar.sum) on_term on_sum
sum_chain = record {
  cases = sum_cases;
  of_last = λ k a. refl;
  of_more = λ k a s l. refl;
  back = sign-back;
  forth = sign-forth;
  inside = sign_inside;
  not_empty = λ k a. term_not_none a;
  ends_item = sign_ends;
  weaker = λ t e. (or-false (on_term t) _ e).0;
  no_sep = no_sign;
}

pub some_sum : Sum
some_sum = Only (Last some_factor)

pub sum_law : (ts : List Placed) → HasEnd ts → Agrees {I = Sum} (λ s. s) grammar.sum on_sum ts (sum ts)
sum_law ts ends = in_chain Only Then add_sign sign_token (λ k. grammar.term) (λ k. grammar.sum) on_term on_sum sum_chain (λ k. term) (Last some_factor) Plus
    (λ k us e. term_law us e) (suc (length ts)) 0 ts ends (omega arith)
