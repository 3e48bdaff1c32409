-- A loop over items with separators between them: the items so far and those to come.
use Rattle.std.proofs.Common.{◌≡◌, refl, sym, ap, subst, ◌∙◌, ℕ, suc, ◌+◌, ◌-◌, ◌<◌, ◌≤◌, List, [], ◌∷◌, ◌++◌, length, Option, Some, None, Ok, Err, arith}
use Rattle.std.proofs.Common.{length-append, append_assoc, Bool, true, false, cond, Result}
use Rattle.std.proofs.lemmas.List.{length-map, append-nil}
use Rattle.sql_grammar.specs.Tokens.{Token, Placed}
use Rattle.sql_grammar.specs.Lexing.{WrittenAt, view, views}
use Rattle.sql_grammar.specs.Reading.{Stop, Read, ◌>>=◌, first, rest, chain, many}
use Rattle.sql_grammar.specs.Views.{joined, Refuses, Passed}
use Rattle.sql_grammar.specs.declared.error.Stop.{Stop as Stopped}
use Rattle.sql_grammar.specs.declared.error.Stop.TheVariants as stop

pub length-views : (ps : List WrittenAt) → length (views ps) ≡ length ps
length-views ps = length-map ps view

module _ {A S L X : Type 0} (last : A → L) (more : A → S → L → L) (sep : Token → Option S) (item : ℕ → List Placed → Read A) (sep_of : X → S) (item_of : X
    → A) where
  abbrev all : A → List X → L
  all a xs = joined last more sep_of item_of a xs

  -- the items so far, then a separator and others
  abbrev pub joined_with : A → List X → S → L → L
  joined_with a [] s l = more a s l
  joined_with a (x ∷ xs) s l = more a (sep_of x) (joined_with (item_of x) xs s l)

  abbrev tail_by : ℕ → ℕ → A → List X → List Placed → Option S → Read L
  tail_by n k a xs ts None = Ok (all a xs, ts)
  tail_by n k a xs ts (Some s) = chain last more sep item n k (rest ts) >>= λ l. Ok (joined_with a xs s l.0, l.1)

  -- the items so far, and those to come
  abbrev pub tail : ℕ → ℕ → A → List X → List Placed → Read L
  tail n k a xs ts = tail_by n k a xs ts (sep (first ts).token)

  push-last : (a : A) (xs : List X) (x : X) → all a (xs ++ x ∷ []) ≡ joined_with a xs (sep_of x) (last (item_of x))
  push-last a [] x = refl
  push-last a (y ∷ ys) x = ap (more a (sep_of y)) (push-last (item_of y) ys x)

  push-more : (a : A) (xs : List X) (x : X) (s : S) (l : L) → joined_with a (xs ++ x ∷ []) s l ≡ joined_with a xs (sep_of x) (more (item_of x) s l)
  push-more a [] x s l = refl
  push-more a (y ∷ ys) x s l = ap (more a (sep_of y)) (push-more (item_of y) ys x s l)

  after_by : ℕ → ℕ → A → List Placed → Option S → Read L
  after_by n k a ts None = Ok (last a, ts)
  after_by n k a ts (Some s) = chain last more sep item n k (rest ts) >>= λ l. Ok (more a s l.0, l.1)

  chain-is : (n k : ℕ) (ts : List Placed) → chain last more sep item (suc n) k ts ≡ (item k ts >>= λ a. after_by n (suc k) a.0 a.1 (sep (first a.1).token))
  unfolding after_by
  chain-is n k ts = ap (λ (f : A × List Placed → Read L). item k ts >>= f) (λ i. λ a. same a (sep (first a.1).token) i)
    where
      same : (a : A × List Placed) (o : Option S)
          → elim o [ None ↦ Ok (last a.0, a.1) | Some s ↦ chain last more sep item n (suc k) (rest a.1) >>= λ l. Ok (more a.0 s l.0, l.1) ]
          ≡ after_by n (suc k) a.0 a.1 o
      same a None = refl
      same a (Some s) = refl

  chain-some : (n k : ℕ) (ts : List Placed) (a : A) (left : List Placed) → item k ts ≡ Ok (a, left) → chain last more sep item (suc n) k ts
      ≡ after_by n (suc k) a left (sep (first left).token)
  chain-some n k ts a left e = chain-is n k ts ∙ ap (λ r. r >>= λ a. after_by n (suc k) a.0 a.1 (sep (first a.1).token)) e

  chain-none : (n k : ℕ) (ts : List Placed) (stop : Stop) → item k ts ≡ Err stop → chain last more sep item (suc n) k ts ≡ Err stop
  chain-none n k ts stop e = chain-is n k ts ∙ ap (λ r. r >>= λ a. after_by n (suc k) a.0 a.1 (sep (first a.1).token)) e

  after-tail : (n k : ℕ) (a : A) (ts : List Placed) (o : Option S) → after_by n k a ts o ≡ tail_by n k a [] ts o
  unfolding after_by
  after-tail n k a ts None = refl
  after-tail n k a ts (Some s) = refl

  wrap : {B C : Type 0} (r : Read B) (f : B → C) (g : C → L)
      → ◌>>=◌ {B = L × List Placed} (◌>>=◌ {B = C × List Placed} r (λ l. Ok (f l.0, l.1))) (λ l. Ok (g l.0, l.1))
      ≡ ◌>>=◌ {B = L × List Placed} r (λ l. Ok (g (f l.0), l.1))
  wrap (Ok x) f g = refl
  wrap (Err e) f g = refl

  same_wrap : {B : Type 0} (r : Read B) (f g : B → L) → ((b : B) → f b ≡ g b) → ◌>>=◌ {B = L × List Placed} r (λ l. Ok (f l.0, l.1))
      ≡ ◌>>=◌ {B = L × List Placed} r (λ l. Ok (g l.0, l.1))
  same_wrap (Ok x) f g h = ap (λ (b : L). Ok (b, x.1)) (h x.0)
  same_wrap (Err e) f g h = refl

  after-goes_on : (n k : ℕ) (a : A) (xs : List X) (x : X) (ts : List Placed) (o : Option S)
      → (after_by n k (item_of x) ts o >>= λ l. Ok (joined_with a xs (sep_of x) l.0, l.1)) ≡ tail_by n k a (xs ++ x ∷ []) ts o
  unfolding after_by
  after-goes_on n k a xs x ts None = ap (λ (l : L). Ok (l, ts)) (sym (push-last a xs x))
  after-goes_on n k a xs x ts (Some s) =
      wrap (chain last more sep item n k (rest ts)) (more (item_of x) s) (joined_with a xs (sep_of x))
      ∙ same_wrap (chain last more sep item n k (rest ts)) _ _ (λ l. sym (push-more a xs x s l))

  -- n tokens stand behind the first item, or fewer
  abbrev pub SoFar : ℕ → A → List X → List Placed → Read L → Type 0
  SoFar n a xs ts whole = tail (n - length xs) (suc (length xs)) a xs ts ≡ whole

  pub starts : (ts : List Placed) (a : A) (left : List Placed) → item 0 ts ≡ Ok (a, left)
      → SoFar (length ts) a [] left (chain last more sep item (suc (length ts)) 0 ts)
  starts ts a left e =
      let all_left : length ts - length {A = X} [] ≡ length ts = omega arith in
      ap (λ m. tail m 1 a [] left) all_left ∙ sym (chain-some (length ts) 0 ts a left e ∙ after-tail (length ts) 1 a left (sep (first left).token))

  pub starts_with : (ts : List Placed) (a : A) (xs : List X) (left : List Placed) → xs ≡ [] → item 0 ts ≡ Ok (a, left)
      → SoFar (length ts) a xs left (chain last more sep item (suc (length ts)) 0 ts)
  starts_with ts a xs left none e =
      subst (λ (ys : List X). SoFar (length ts) a ys left (chain last more sep item (suc (length ts)) 0 ts)) (sym none) (starts ts a left e)

  fuel : (n : ℕ) (xs : List X) → length xs < n → n - length xs ≡ suc (n - suc (length xs))
  fuel n xs lt = omega arith

  enter : (n : ℕ) (a : A) (xs : List X) (ts : List Placed) (whole : Read L) (s : S) → length xs < n → SoFar n a xs ts whole → sep (first ts).token ≡ Some s
      → (chain last more sep item (suc (n - suc (length xs))) (suc (length xs)) (rest ts) >>= λ l. Ok (joined_with a xs s l.0, l.1)) ≡ whole
  enter n a xs ts whole s lt so_far e =
      ap (λ m. chain last more sep item m (suc (length xs)) (rest ts) >>= λ l. Ok (joined_with a xs s l.0, l.1)) (sym (fuel n xs lt))
      ∙ sym (ap (tail_by (n - length xs) (suc (length xs)) a xs ts) e)
      ∙ so_far

  pub fails : (n : ℕ) (a : A) (xs : List X) (ts : List Placed) (whole : Read L) (s : S) (stop : Stop) → length xs < n → SoFar n a xs ts whole
      → sep (first ts).token ≡ Some s
      → item (suc (length xs)) (rest ts) ≡ Err stop → whole ≡ Err stop
  fails n a xs ts whole s stop lt so_far e f =
      sym (enter n a xs ts whole s lt so_far e)
      ∙ ap (λ r. r >>= λ l. Ok (joined_with a xs s l.0, l.1)) (chain-none (n - suc (length xs)) (suc (length xs)) (rest ts) stop f)

  one_more : (xs : List X) (x : X) → suc (length xs) ≡ length (xs ++ x ∷ [])
  one_more xs x = omega (arith, length-append xs (x ∷ []))

  pub goes_on : (n : ℕ) (a : A) (xs : List X) (ts : List Placed) (whole : Read L) (x : X) (left : List Placed) → length xs < n → SoFar n a xs ts whole
      → sep (first ts).token ≡ Some (sep_of x)
      → item (suc (length xs)) (rest ts) ≡ Ok (item_of x, left) → SoFar n a (xs ++ x ∷ []) left whole
  goes_on n a xs ts whole x left lt so_far e f =
      ap (λ m. tail (n - m) (suc m) a (xs ++ x ∷ []) left) (sym (one_more xs x))
      ∙ sym (after-goes_on (n - suc (length xs)) (suc (suc (length xs))) a xs x left (sep (first left).token))
      ∙ sym (ap (λ r. r >>= λ l. Ok (joined_with a xs (sep_of x) l.0, l.1)) (chain-some (n - suc (length xs)) (suc (length xs)) (rest ts) (item_of x) left f))
      ∙ enter n a xs ts whole (sep_of x) lt so_far e

  room : (n : ℕ) (xs : List X) (now after tokens : List WrittenAt) → length after < length now → length now + length xs ≤ length tokens
      → length xs < length (views tokens)
  room n xs now after tokens lt le = omega (arith, length-views tokens)

  -- an item that is read behind a separator
  pub next : (a : A) (xs xs' : List X) (now after tokens : List WrittenAt) (whole : Read L) (x : X) (left : List Placed) → xs' ≡ xs ++ x ∷ []
      → Passed sep (sep_of x) now after → length now + length xs ≤ length tokens
      → SoFar (length (views tokens)) a xs (views now) whole → item (suc (length xs)) (views after) ≡ Ok (item_of x, left)
      → SoFar (length (views tokens)) a xs' left whole
  next a xs xs' now after tokens whole x left pushed p le so_far e =
      rw pushed (goes_on (length (views tokens)) a xs (views now) whole x left (room 0 xs now after tokens p.shorter le) so_far p.found
      (ap (item (suc (length xs))) (sym p.rest) ∙ e))

  -- an item that is not
  pub err : (a : A) (xs : List X) (now after tokens : List WrittenAt) (whole : Read L) (s : S) (e : Stopped) → Passed sep s now after
      → length now + length xs ≤ length tokens → SoFar (length (views tokens)) a xs (views now) whole → Refuses e (item (suc (length xs)) (views after))
      → Refuses e whole
  err a xs now after tokens whole s stop.Memory p le so_far g = tt
  err a xs now after tokens whole s (stop.At why here) p le so_far g =
      fails (length (views tokens)) a xs (views now) whole s _ (room 0 xs now after tokens p.shorter le) so_far p.found
      (ap (item (suc (length xs))) (sym p.rest) ∙ g)

-- what is left and what is read are no more than the tokens
pub fits : {X : Type 0} (xs xs' : List X) (x : X) (now after left tokens : List WrittenAt) → xs' ≡ xs ++ x ∷ [] → length after < length now
    → length left ≤ length after → length now + length xs ≤ length tokens → length left + length xs' ≤ length tokens
fits xs xs' x now after left tokens pushed lt le all = omega (arith, ap length pushed, length-append xs (x ∷ []))

-- ---- items while a test holds

module _ {A : Type 0} (goes : Token → Bool) (item : List Placed → Read A) where
  abbrev pub step_by : Bool → Read A → Result (Option (A × List Placed)) Stop
  step_by b r = cond b (◌>>=◌ {B = Option (A × List Placed)} r (λ x. Ok (Some x))) (Ok None)

  abbrev pub step : List Placed → Result (Option (A × List Placed)) Stop
  step ts = step_by (goes (first ts).token) (item ts)

  -- the items so far, and those to come
  abbrev pub ManySoFar : ℕ → List A → List Placed → Read (List A) → Type 0
  ManySoFar n xs ts whole = ◌>>=◌ {B = List A × List Placed} (many goes item (suc n - length xs) ts) (λ l. Ok (xs ++ l.0, l.1)) ≡ whole

  abbrev many_by : ℕ → List Placed → Bool → Read A → Read (List A)
  many_by n ts b r = cond b (r >>= λ a. ◌>>=◌ {B = List A × List Placed} (many goes item n a.1) (λ l. Ok (a.0 ∷ l.0, l.1))) (Ok ([], ts))

  by_stop : (n : ℕ) (ts : List Placed) (b : Bool) (r : Read A) → step_by b r ≡ Ok None → many_by n ts b r ≡ Ok ([], ts)
  by_stop n ts true (Ok x) e = absurd cc
  by_stop n ts true (Err s) e = absurd cc
  by_stop n ts false r e = refl

  by_fault : (n : ℕ) (ts : List Placed) (b : Bool) (r : Read A) (s : Stop) → step_by b r ≡ Err s → many_by n ts b r ≡ Err s
  by_fault n ts true (Ok x) s e = absurd cc
  by_fault n ts true (Err t) s e = let same : t ≡ s = cc in ap (λ (u : Stop). Err u) same
  by_fault n ts false r s e = absurd cc

  by_next : (n : ℕ) (ts : List Placed) (b : Bool) (r : Read A) (x : A) (left : List Placed) → step_by b r ≡ Ok (Some (x, left)) → many_by n ts b r
      ≡ ◌>>=◌ {B = List A × List Placed} (many goes item n left) (λ l. Ok (x ∷ l.0, l.1))
  by_next n ts true (Ok y) x left e = let same : y ≡ (x, left) = cc in
      ap (λ (z : A × List Placed). ◌>>=◌ {B = List A × List Placed} (many goes item n z.1) (λ l. Ok (z.0 ∷ l.0, l.1))) same
  by_next n ts true (Err s) x left e = absurd cc
  by_next n ts false r x left e = absurd cc

  more_fuel : (n : ℕ) (xs : List A) → length xs ≤ n → suc n - length xs ≡ suc (n - length xs)
  more_fuel n xs le = omega arith

  enters : (n : ℕ) (xs : List A) (ts : List Placed) (whole : Read (List A)) → length xs ≤ n → ManySoFar n xs ts whole
      → ◌>>=◌ {B = List A × List Placed} (many_by (n - length xs) ts (goes (first ts).token) (item ts)) (λ l. Ok (xs ++ l.0, l.1)) ≡ whole
  enters n xs ts whole le so_far =
      ap (λ (m : ℕ). ◌>>=◌ {B = List A × List Placed} (many goes item m ts) (λ l. Ok (xs ++ l.0, l.1))) (sym (more_fuel n xs le)) ∙ so_far

  pub many-stops : (xs : List A) (ts tokens : List WrittenAt) (whole : Read (List A)) → length ts + length xs ≤ length tokens
      → ManySoFar (length (views tokens)) xs (views ts) whole → step (views ts) ≡ Ok None → whole ≡ Ok (xs, views ts)
  many-stops xs ts tokens whole le so_far e =
      sym (enters (length (views tokens)) xs (views ts) whole (omega (arith, length-views tokens)) so_far)
      ∙ ap (λ r. ◌>>=◌ {B = List A × List Placed} r (λ l. Ok (
        xs ++ l.0,
        l.1,
      ))) (by_stop (length (views tokens) - length xs) (views ts) (goes (first (views ts)).token) (item (views ts)) e)
      ∙ ap (λ (ys : List A). Ok (ys, views ts)) (append-nil xs)

  pub many-err : (xs : List A) (ts tokens : List WrittenAt) (whole : Read (List A)) (e : Stopped) → length ts + length xs ≤ length tokens
      → ManySoFar (length (views tokens)) xs (views ts) whole → Refuses e (step (views ts)) → Refuses e whole
  many-err xs ts tokens whole stop.Memory le so_far g = tt
  many-err xs ts tokens whole (stop.At why here) le so_far g =
      sym (enters (length (views tokens)) xs (views ts) whole (omega (arith, length-views tokens)) so_far)
      ∙ ap (λ r. ◌>>=◌ {B = List A × List Placed} r (λ l. Ok (
        xs ++ l.0,
        l.1,
      ))) (by_fault (length (views tokens) - length xs) (views ts) (goes (first (views ts)).token) (item (views ts)) _ g)

  shift : (xs : List A) (x : A) (r : Read (List A))
      → ◌>>=◌ {B = List A × List Placed} (◌>>=◌ {B = List A × List Placed} r (λ l. Ok (x ∷ l.0, l.1))) (λ l. Ok (xs ++ l.0, l.1))
      ≡ ◌>>=◌ {B = List A × List Placed} r (λ l. Ok ((xs ++ x ∷ []) ++ l.0, l.1))
  shift xs x (Ok l) = ap (λ (ys : List A). Ok (ys, l.1)) (sym (append_assoc xs (x ∷ []) l.0))
  shift xs x (Err e) = refl

  less_fuel : (n : ℕ) (xs : List A) (x : A) → suc n - length (xs ++ x ∷ []) ≡ n - length xs
  less_fuel n xs x = omega (arith, length-append xs (x ∷ []))

  pub many-next : (xs xs' : List A) (x : A) (ts tokens : List WrittenAt) (left : List Placed) (whole : Read (List A)) → xs' ≡ xs ++ x ∷ []
      → length ts + length xs ≤ length tokens → ManySoFar (length (views tokens)) xs (views ts) whole
      → step (views ts) ≡ Ok (Some (x, left)) → ManySoFar (length (views tokens)) xs' left whole
  many-next xs xs' x ts tokens left whole pushed le so_far e =
      rw pushed
      (ap (λ (m : ℕ). ◌>>=◌ {B = List A × List Placed} (many goes item m left) (λ l. Ok ((xs ++ x ∷ []) ++ l.0, l.1))) (less_fuel (length (views tokens)) xs x)
      ∙ sym (shift xs x (many goes item (length (views tokens) - length xs) left))
      ∙ sym (ap (λ r. ◌>>=◌ {B = List A × List Placed} r (λ l. Ok (
        xs ++ l.0,
        l.1,
      ))) (by_next (length (views tokens) - length xs) (views ts) (goes (first (views ts)).token) (item (views ts)) x left e))
      ∙ enters (length (views tokens)) xs (views ts) whole (omega (arith, length-views tokens)) so_far)
