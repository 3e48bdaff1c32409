-- Each rule that is one token.
use Rattle.std.proofs.Common.{◌≡◌, Option, Bool, true, false, List, [], ◌∷◌, Some, None, refl, sym, ap, ◌∙◌, cond}
use Rattle.std.specs.Prelude.{is_some}
use Rattle.std.specs.List.{AllByRecursion}
use Rattle.std.proofs.lemmas.Slice.Eq.{bytes_eq-Decides}
use Rattle.sql_grammar.specs.Tokens.{Token, Key, Word, Sign, End, Placed, is, is_last}
use Rattle.sql_grammar.specs.Tree.{Name}
use Rattle.sql_grammar.specs.Grammar.{plain}
use Rattle.sql_grammar.specs.Reading.{first, taken, the, skip, which, name_of, name}
use Rattle.sql_reader.proofs.Laws.{HasEnd, Agrees, one}

pub is_same : (w t : Token) → is w t ≡ true → t ≡ w
is_same (Key a) (Key b) e = ap Key (sym ((bytes_eq-Decides a b).0 e))
is_same (Word a) (Word b) e = ap Word (sym ((bytes_eq-Decides a b).0 e))
is_same (Sign a) (Sign b) e = ap Sign (sym ((bytes_eq-Decides a b).0 e))
is_same End End e = refl
is_same w t e = absurd cc

pub the-back : (w t : Token) (x : Unit {0}) → the w t ≡ Some x → t ≡ w
the-back w t x e = go (is w t) refl e
  where
    go : (b : Bool) → is w t ≡ b → cond b (Some tt) None ≡ Some x → t ≡ w
    go true same h = is_same w t same
    go false other h = absurd cc

-- a word or a sign
pub skips : (w : Token) → the w w ≡ Some tt → is_last w ≡ false → (on : Token → Bool) (ts : List Placed) → HasEnd ts
    → Agrees {I = Unit {0}} (λ x. x) (λ x. plain w ∷ []) on ts (skip w ts)
skips w again inside on ts ends = one (the w) (λ x. w) on tt (the-back w) (λ x. again) (λ x. inside) ts ends

name-back : (t : Token) (n : Name) → name_of t ≡ Some n → t ≡ Word n
name-back (Word m) n e = cc
name-back t n e = absurd cc

pub names : (on : Token → Bool) (ts : List Placed) → HasEnd ts → Agrees {I = Name} (λ x. x) (λ n. plain (Word n) ∷ []) on ts (name ts)
names on ts ends = one name_of Word on [] name-back (λ n. refl) (λ n. refl) ts ends

-- one of several words or signs
pub which-back : {A : Type 0} (token_of : A → Token) (table : List (Token × A)) → AllByRecursion (λ (e : Token × A). e.0 ≡ token_of e.1) table
    → (t : Token) (x : A) → which table t ≡ Some x → t ≡ token_of x
which-back token_of [] ok t x e = absurd cc
which-back {A} token_of (e ∷ es) ok t x h = go (is e.0 t) refl h (which-back token_of es ok.1 t x)
  where
    go : (b : Bool) → is e.0 t ≡ b → cond b (Some e.1) (which es t) ≡ Some x → (which es t ≡ Some x → t ≡ token_of x) → t ≡ token_of x
    go true same h ih = let i : e.1 ≡ x = cc in is_same e.0 t same ∙ ok.0 ∙ ap token_of i
    go false other h ih = ih h

pub one_of : {A : Type 0} (token_of : A → Token) (table : List (Token × A)) (some : A) → AllByRecursion (λ (e : Token × A). e.0 ≡ token_of e.1) table
    → ((x : A) → which table (token_of x) ≡ Some x) → ((x : A) → is_last (token_of x) ≡ false)
    → (on : Token → Bool) (ts : List Placed) → HasEnd ts
    → Agrees {I = A} (λ x. x) (λ x. plain (token_of x) ∷ []) on ts (taken (which table (first ts).token) ts)
one_of token_of table some ok again inside on ts ends = one (which table) token_of on some (which-back token_of table ok) again inside ts ends

pub the-none : (w t : Token) → is w t ≡ false → the w t ≡ None
the-none w t e = rw e refl

-- what a test finds nothing in is nothing
pub none_of : {A : Type 0} (o : Option A) → is_some o ≡ false → o ≡ None
none_of None e = refl
none_of (Some x) e = absurd cc
