-- What is told of letters tells them.
use Rattle.std.proofs.Common.{◌≡◌, ◌≢◌, ℕ, Bool, true, false, cond, List, [], ◌∷◌, ◌++◌, drop, get_or, refl, sym, ap, arith}
use Rattle.std.proofs.lemmas.List.Elements.{All-from_recursion}
use Rattle.std.specs.Prelude.{All}
use Rattle.order_classes.specs.declared.rows.Letters.{Letters}
use Rattle.class_texts.specs.Letters.{letters_of, letters_text, shows_letter}
use Rattle.class_texts.specs.Laws.{AreSame}
use Rattle.class_texts.specs.declared.kind.ClassKind.{ClassKind}
use Rattle.class_texts.specs.declared.kind.ClassKind.TheVariants.{Shows, Answers, Outcomes}
use Rattle.class_texts.specs.declared.letters.Letter.TheVariants.{Waits, Deadlock, Error, Unsent, Stuck, NotSerial}

-- the first sign tells whether its letter is shown, where that is no dot
sign-tells : (p q : Bool) (c : ℕ) (xs ys : List ℕ) → c ≢ 46 → cond p (c ∷ []) (46 ∷ []) ++ xs ≡ cond q (c ∷ []) (46 ∷ []) ++ ys → (p ≡ q) × (xs ≡ ys)
sign-tells true true c xs ys other e = (refl, ap (drop 1) e)
sign-tells true false c xs ys other e = absurd (other (ap (λ (l : List ℕ). get_or l 0 0) e))
sign-tells false true c xs ys other e = absurd (other (sym (ap (λ (l : List ℕ). get_or l 0 0) e)))
sign-tells false false c xs ys other e = (refl, ap (drop 1) e)

pub letters-tell : (by : ClassKind) (all : Bool) (a b : Letters) → letters_text by all a ≡ letters_text by all b → All (AreSame a b) (letters_of by all)
letters-tell Shows true a b e =
    let w = sign-tells (shows_letter a Waits) (shows_letter b Waits) 87 _ _ (λ h. absurd (omega (arith, h))) e in
    let d = sign-tells (shows_letter a Deadlock) (shows_letter b Deadlock) 68 _ _ (λ h. absurd (omega (arith, h))) w.1 in
    let x = sign-tells (shows_letter a Error) (shows_letter b Error) 69 _ _ (λ h. absurd (omega (arith, h))) d.1 in
    let n = sign-tells (shows_letter a Unsent) (shows_letter b Unsent) 78 _ _ (λ h. absurd (omega (arith, h))) x.1 in
    let s = sign-tells (shows_letter a Stuck) (shows_letter b Stuck) 83 _ _ (λ h. absurd (omega (arith, h))) n.1 in
    let r = sign-tells (shows_letter a NotSerial) (shows_letter b NotSerial) 82 _ _ (λ h. absurd (omega (arith, h))) s.1 in
    All-from_recursion (AreSame a b) (letters_of Shows true) (w.0, (d.0, (x.0, (n.0, (s.0, (r.0, tt))))))
letters-tell Shows false a b e =
    let w = sign-tells (shows_letter a Waits) (shows_letter b Waits) 87 _ _ (λ h. absurd (omega (arith, h))) e in
    let d = sign-tells (shows_letter a Deadlock) (shows_letter b Deadlock) 68 _ _ (λ h. absurd (omega (arith, h))) w.1 in
    let x = sign-tells (shows_letter a Error) (shows_letter b Error) 69 _ _ (λ h. absurd (omega (arith, h))) d.1 in
    let s = sign-tells (shows_letter a Stuck) (shows_letter b Stuck) 83 _ _ (λ h. absurd (omega (arith, h))) x.1 in
    let r = sign-tells (shows_letter a NotSerial) (shows_letter b NotSerial) 82 _ _ (λ h. absurd (omega (arith, h))) s.1 in
    All-from_recursion (AreSame a b) (letters_of Shows false) (w.0, (d.0, (x.0, (s.0, (r.0, tt)))))
letters-tell Answers all a b e =
    let d = sign-tells (shows_letter a Deadlock) (shows_letter b Deadlock) 68 _ _ (λ h. absurd (omega (arith, h))) e in
    let x = sign-tells (shows_letter a Error) (shows_letter b Error) 69 _ _ (λ h. absurd (omega (arith, h))) d.1 in
    let s = sign-tells (shows_letter a Stuck) (shows_letter b Stuck) 83 _ _ (λ h. absurd (omega (arith, h))) x.1 in
    let r = sign-tells (shows_letter a NotSerial) (shows_letter b NotSerial) 82 _ _ (λ h. absurd (omega (arith, h))) s.1 in
    All-from_recursion (AreSame a b) (letters_of Answers all) (d.0, (x.0, (s.0, (r.0, tt))))
letters-tell Outcomes all a b e =
    let w = sign-tells (shows_letter a Waits) (shows_letter b Waits) 87 _ _ (λ h. absurd (omega (arith, h))) e in
    let d = sign-tells (shows_letter a Deadlock) (shows_letter b Deadlock) 68 _ _ (λ h. absurd (omega (arith, h))) w.1 in
    let x = sign-tells (shows_letter a Error) (shows_letter b Error) 69 _ _ (λ h. absurd (omega (arith, h))) d.1 in
    let n = sign-tells (shows_letter a Unsent) (shows_letter b Unsent) 78 _ _ (λ h. absurd (omega (arith, h))) x.1 in
    All-from_recursion (AreSame a b) (letters_of Outcomes all) (w.0, (d.0, (x.0, (n.0, tt))))
