-- What a token says about the reading that follows.
use Rattle.std.proofs.Common.{◌≡◌, refl, ap, ◌∙◌, ℕ, suc, true, false, List, Option, Some, None}
use Rattle.std.specs.Prelude.{codes}
use Rattle.sql_grammar.specs.Tokens.{Key, Sign, Placed}
use Rattle.sql_grammar.specs.Lexing.{text_token}
use Rattle.sql_grammar.specs.Reading.{first, quoted_text, literal, at, atom, group}

-- a literal that begins with a quote is a text, or none where the quote is not closed
pub text-literal : (ts : List Placed) (o : Option (List ℕ × ℕ)) → (first ts).token ≡ text_token o → literal ts ≡ quoted_text ts
text-literal ts None e = rw e refl
text-literal ts (Some x) e = rw e refl

-- parentheses where a level may be opened
pub group-opens : (n m : ℕ) (ts : List Placed) → n ≡ suc m → at (Key (codes "not")) ts ≡ false → at (Sign (codes "(")) ts ≡ true → atom n ts ≡ group (atom m) ts
group-opens n m ts k e f = ap (λ (i : ℕ). atom i ts) k ∙ opens
  where
    opens : atom (suc m) ts ≡ group (atom m) ts
    opens = rw (e, f) refl
