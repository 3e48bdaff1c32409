-- Texts written one after another, and a text that stops at a fault.
use Rattle.std.specs.Prelude.{◌≡◌, ℕ, ◌+◌, ◌-◌, ◌<◌, ◌≤◌, List, [], ◌∷◌, ◌++◌, length, take, drop, get_or, Result, Ok, Err, IsErr, Option, flat_map}
use Rattle.std.proofs.Common.{ap, sym, ◌∙◌, subst, arith, length-append}
use Rattle.std.proofs.KnownBytes.{Appends-trans}
use Rattle.std.proofs.lemmas.List.{append_assoc, take_all, take_more, flat_map_more, take-append-le, take-append-drop, take_rest}
use Rattle.std.proofs.lemmas.Grind.{flat_map-append}
use Rattle.std.proofs.Math.Seq.{take-add, take-append-add}
use Rattle.std.specs.Io.KnownBytes.{Appends}
use Rattle.transcripts.specs.Counted.{written, Wrote, Stopped, Prints}
use Rattle.transcripts.specs.declared.counted.Counted.{Counted}

-- a text, and those of the first elements of a list, with that of the next
next-of : {X : Type 0} (f : X → List ℕ) (s : List ℕ) (xs : List X) (i : ℕ) (x d : X) → i < length xs → x ≡ get_or xs i d
    → (s ++ flat_map f (take i xs)) ++ f x ≡ s ++ flat_map f (take (i + 1) xs)
next-of f s xs i x d lt e =
    flat_map_more f s (take i xs) x ∙ ap (λ h. s ++ flat_map f h) (sym (take_more xs i d lt ∙ ap (λ y. take i xs ++ y ∷ []) (sym e)))

module _
    {W : Type 0}
    (contents : W → Option (List ℕ)) where
  -- one text, and then the next
  pub wrote-append : (a b c : Counted W) (s t : List ℕ) → Wrote contents a b s → Wrote contents b c t → Wrote contents a c (s ++ t)
  wrote-append a b c s t p q = record {
    whole = Appends-trans _ _ _ s t p.whole q.whole;
    failures = q.failures ∙ p.failures;
  }

  -- what stops within a text stops within a longer one
  pub stopped-append : (a b : Counted W) (s t : List ℕ) → Stopped contents a b s → Stopped contents a b (s ++ t)
  stopped-append a b s t p =
      let n = p.front.0 in
      let below : n < length s = p.front.1 in
      let cut : take n s ≡ take n (s ++ t) = sym (take-append-le n s t (omega arith)) in
      record {
        front = (n, omega (arith, length-append s t), subst (λ h. Appends (written contents a) (written contents b) h) cut p.front.2);
        failures = p.failures;
      }

  -- what stops within the text after another one stops within both
  pub stopped-after : (a b c : Counted W) (s t : List ℕ) → Wrote contents a b s → Stopped contents b c t → Stopped contents a c (s ++ t)
  stopped-after a b c s t p q =
      let n = q.front.0 in
      let below : n < length t = q.front.1 in
      let cut : s ++ take n t ≡ take (length s + n) (s ++ t) = sym (take-append-add s t n) in
      record {
        front = (
          length s + n,
          omega (arith, length-append s t),
          subst (λ h. Appends (written contents a) (written contents c) h) cut (Appends-trans _ _ _ s (take n t) p.whole q.front.2),
        );
        failures = q.failures ∙ ap (λ k. k + 1) p.failures;
      }

  -- a call that prints after a text is written
  pub prints-after : {X E : Type 0} (a b c : Counted W) (result : Result X E) (s t : List ℕ) → Wrote contents a b s → Prints contents b c result t
      → Prints contents a c result (s ++ t)
  prints-after a b c (Ok x) s t p q = wrote-append a b c s t p q
  prints-after a b c (Err e) s t p q = stopped-after a b c s t p q

  -- an answer that is a fault
  pub prints-stopped : {X E : Type 0} (a b : Counted W) (result : Result X E) (t : List ℕ) → Stopped contents a b t → IsErr result
      → Prints contents a b result t
  prints-stopped a b (Ok x) t p e = cc
  prints-stopped a b (Err d) t p e = p

  -- the next bytes of a text are written
  pub wrote-next : (a b c : Counted W) (t : List ℕ) (n k : ℕ) → Wrote contents a b (take n t)
      → Wrote contents b c (take k (take (length t - n) (drop n t))) → Wrote contents a c (take (n + k) t)
  wrote-next a b c t n k p q = rw take-add (wrote-append a b c (take n t) (take k (drop n t)) p (rw take_rest at q))

  -- the next bytes of a text are not all written
  pub stopped-next : (a b c : Counted W) (t : List ℕ) (n : ℕ) → Wrote contents a b (take n t)
      → Stopped contents b c (take (length t - n) (drop n t)) → Stopped contents a c t
  stopped-next a b c t n p q =
      subst (λ h. Stopped contents a c h) (take-append-drop n t) (stopped-after a b c (take n t) (drop n t) p (rw take_rest at q))

  -- the text of the next of a list's elements is written
  pub wrote-next_of : {X : Type 0} (f : X → List ℕ) (a b c : Counted W) (s : List ℕ) (xs : List X) (i : ℕ) (x d : X) → i < length xs → x ≡ get_or xs i d
      → Wrote contents a b (s ++ flat_map f (take i xs)) → Wrote contents b c (f x) → Wrote contents a c (s ++ flat_map f (take (i + 1) xs))
  wrote-next_of f a b c s xs i x d lt e p q =
      subst (λ h. Wrote contents a c h) (next-of f s xs i x d lt e) (wrote-append a b c (s ++ flat_map f (take i xs)) (f x) p q)

  -- the text of the next of a list's elements is not all written
  pub stopped-next_of : {X : Type 0} (f : X → List ℕ) (a b c : Counted W) (s : List ℕ) (xs : List X) (i : ℕ) (x d : X) → i < length xs → x ≡ get_or xs i d
      → Wrote contents a b (s ++ flat_map f (take i xs)) → Stopped contents b c (f x) → Stopped contents a c (s ++ flat_map f xs)
  stopped-next_of f a b c s xs i x d lt e p q =
      let front = s ++ flat_map f (take i xs) in
      let both : Stopped contents a c ((front ++ f x) ++ flat_map f (drop (i + 1) xs)) =
      stopped-append a c (front ++ f x) _ (stopped-after a b c front (f x) p q) in
      let whole : (front ++ f x) ++ flat_map f (drop (i + 1) xs) ≡ s ++ flat_map f xs =
      ap (λ h. h ++ flat_map f (drop (i + 1) xs)) (next-of f s xs i x d lt e)
      ∙ append_assoc s (flat_map f (take (i + 1) xs)) (flat_map f (drop (i + 1) xs))
      ∙ ap (λ h. s ++ h) (sym (flat_map-append f (take (i + 1) xs) (drop (i + 1) xs)) ∙ ap (flat_map f) (take-append-drop (i + 1) xs)) in
      subst (λ h. Stopped contents a c h) whole both

  -- the texts of all of a list's elements are written
  pub wrote-all_of : {X : Type 0} (f : X → List ℕ) (a b : Counted W) (s : List ℕ) (xs : List X) (i : ℕ) → length xs ≤ i
      → Wrote contents a b (s ++ flat_map f (take i xs)) → Wrote contents a b (s ++ flat_map f xs)
  wrote-all_of f a b s xs i le p = subst (λ h. Wrote contents a b (s ++ flat_map f h)) (take_all i xs le) p
