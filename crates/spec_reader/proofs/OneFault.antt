-- There is one first fault: the place is one, and so is what is wrong there.
use Rattle.std.proofs.Common.{◌≡◌, List, [], ◌∷◌, ◌++◌, Result, Ok, Err, refl, sym, ap, ◌∙◌, append_assoc}
use Rattle.std.proofs.lemmas.List.{map-append}
use Rattle.spec_reader.specs.declared.error.Kind.{Kind}
use Rattle.spec_reader.specs.Tokens.{Token, Placed, tokens}
use Rattle.spec_reader.specs.Fault.{Form, Limits, All, Begins, MayCome, IsKind, Fault, FirstFault}
use Rattle.spec_reader.specs.Reading.{State, Whole, Start}
use Rattle.spec_reader.proofs.Complete.{and_then, runs, runs-append, complete}
use Rattle.spec_reader.proofs.Faults.{Here}
use Rattle.spec_reader.proofs.Agrees.{reached, runs_weaker}
use Rattle.spec_reader.proofs.OneKind.{decides}

-- ---- the place

-- two parts of one list: they are one, or one goes further
data Parts (xs : List Placed) (x : Placed) (ys : List Placed) (y : Placed) : Type 0 where
  same : xs ≡ ys → x ≡ y → Parts xs x ys y
  first_ends : (zs : List Placed) → ys ≡ xs ++ x ∷ zs → Parts xs x ys y
  second_ends : (zs : List Placed) → xs ≡ ys ++ y ∷ zs → Parts xs x ys y

more : (a b : Placed) (xs : List Placed) (x : Placed) (ys : List Placed) (y : Placed) → a ≡ b → Parts xs x ys y → Parts (a ∷ xs) x (b ∷ ys) y
more a b xs x ys y e (same p r) = same (cc) r
more a b xs x ys y e (first_ends zs p) = first_ends zs (cc)
more a b xs x ys y e (second_ends zs p) = second_ends zs (cc)

parts : (xs : List Placed) (x : Placed) (us : List Placed) (ys : List Placed) (y : Placed) (vs : List Placed) → xs ++ x ∷ us ≡ ys ++ y ∷ vs → Parts xs x ys y
parts [] x us [] y vs e = same refl (cc)
parts [] x us (b ∷ ys) y vs e = let here : x ≡ b = cc in first_ends ys (cc)
parts (a ∷ xs) x us [] y vs e = let here : a ≡ y = cc in second_ends xs (cc)
parts (a ∷ xs) x us (b ∷ ys) y vs e = more a b xs x ys y (cc) (parts xs x us ys y vs (cc))

-- a text that goes on begins so
cut : (xs : List Placed) (x : Placed) (zs ys : List Placed) → ys ≡ xs ++ x ∷ zs → Begins All (tokens ys) → MayCome All (tokens xs) x.token
cut xs x zs ys e b =
    let cut_at : tokens ys ≡ tokens xs ++ x.token ∷ tokens zs = ap tokens e ∙ map-append (λ (p : Placed). p.token) xs (x ∷ zs) in
    record {
      rest = tokens zs ++ b.rest;
      tree = b.tree;
      whole = append_assoc (tokens xs) (x.token ∷ []) (tokens zs ++ b.rest) ∙ sym (append_assoc (tokens xs) (x.token ∷ tokens zs) b.rest)
          ∙ ap (λ (l : List Token). l ++ b.rest) (sym cut_at) ∙ b.whole;
      keeps = b.keeps;
    }

-- tokens that a text begins with lead to a place
leads : (before : List Token) → Begins All before → (q : State) × Here before q
leads before b = go (runs All Start before) refl (sym (runs-append All Start before b.rest) ∙ ap (runs All Start) b.whole ∙ complete All b.tree b.keeps)
  where
    go : (o : Result State Kind) → runs All Start before ≡ o → and_then (runs All Start before) (λ q. runs All q b.rest) ≡ Ok (Whole b.tree) → (q : State)
        × Here before q
    go (Ok q) e h =
        let w = runs_weaker Start before q e in
        let form = reached Form Start before q tt w.0 in
        let limits = reached Limits Start before q tt w.1 in
        (q, record { form = w.0; limits = w.1; same = form.spells; held_form = form.held; held_limits = limits.held })
    go (Err k) e h = let no : and_then (runs All Start before) (λ q. runs All q b.rest) ≡ Err k = rw e refl in absurd cc

one_kind : (before : List Token) (t : Token) (k k' : Kind) → Begins All before → IsKind before t k → IsKind before t k' → k ≡ k'
one_kind before t k k' b m m' = let l = leads before b in decides before l.0 l.1 t k m ∙ sym (decides before l.0 l.1 t k' m')

pub one_first : (ts : List Placed) (f g : Fault) → FirstFault ts f → FirstFault ts g → f ≡ g
one_first ts f g a b = go (parts a.before a.here a.after b.before b.here b.after (sym a.parts ∙ b.parts))
  where
    go : Parts a.before a.here b.before b.here → f ≡ g
    go (same p r) =
        let kinds : f.kind ≡ g.kind = one_kind (tokens a.before) a.here.token f.kind g.kind a.good a.kind (rw (p, r) b.kind) in
        let offsets : f.at ≡ g.at = a.at ∙ ap (λ (x : Placed). x.at) r ∙ sym b.at in
        λ i. record { kind = kinds i; at = offsets i }
    go (first_ends zs p) = absurd (a.bad (cut a.before a.here zs b.before p b.good))
    go (second_ends zs p) = absurd (b.bad (cut b.before b.here zs a.before p a.good))
