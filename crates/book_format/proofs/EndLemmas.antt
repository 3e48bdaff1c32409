-- The ends of the last runs tell whether a run overlaps or touches one that says the same, and which outcomes are named.
use Rattle.std.proofs.Common.{◌≡◌, ◌≢◌, refl, sym, ap, subst, ◌∙◌, ℕ, ◌<◌, ◌≤◌, List, [], ◌∷◌, ◌++◌, length, get_or, set, ◌⊎◌, ⊎_elim, inl, inr, arith}
use Rattle.std.proofs.Common.{get_or-set_other, get_or-set_same}
use Rattle.std.proofs.lemmas.List.{get_or-replicate, length-replicate, length-set}
use Rattle.std.specs.Prelude.{slice_index, replicate}
use Rattle.fact_books.specs.declared.run.Run.{Run}
use Rattle.fact_books.specs.declared.run.Tag.{Tag}
use Rattle.fact_books.specs.declared.run.Tag.TheVariants.{Ran, Swap}
use Rattle.fact_books.specs.Recording.{EachRun}
use Rattle.fact_books.specs.Sweep.{IsIn}
use Rattle.fact_books.proofs.VerdictLemmas.{in-push}
use Rattle.book_format.specs.declared.reading.runs.Ends.{Ends}
use Rattle.book_format.specs.ReadingRuns.{IsApart, AllNamed, IsEnd, AreEnds, end_at, IsTagOf}
use Rattle.book_format.proofs.RunLaws.{EachRun-push}

-- ---- lists of runs

pub EachRun-in : (P : Run → Type 0) (runs : List Run) (run : Run) → EachRun P runs → IsIn run runs → P run
EachRun-in P [] run each is = absurd is
EachRun-in P (x ∷ xs) run each (inl same) = subst P (sym same) each.0
EachRun-in P (x ∷ xs) run each (inr is) = EachRun-in P xs run each.1 is

pub EachRun-all : (P : Run → Type 0) (runs : List Run) → ((run : Run) → IsIn run runs → P run) → EachRun P runs
EachRun-all P [] f = tt
EachRun-all P (x ∷ xs) f = (f x (inl refl), EachRun-all P xs (λ run is. f run (inr is)))

in-front : (runs : List Run) (run more : Run) → IsIn run runs → IsIn run (runs ++ more ∷ [])
in-front [] run more is = absurd is
in-front (x ∷ xs) run more (inl same) = inl same
in-front (x ∷ xs) run more (inr is) = inr (in-front xs run more is)

in-last : (runs : List Run) (run : Run) → IsIn run (runs ++ run ∷ [])
in-last [] run = inl refl
in-last (x ∷ xs) run = inr (in-last xs run)

-- ---- one end

end-none : (tag : Tag) → IsEnd 0 tag []
end-none tag = record { most = tt; some = inl refl }

-- a run that says it moves the end
end-here : (end : ℕ) (runs : List Run) (run : Run) → IsEnd end run.tag runs → IsApart runs run → run.first < run.end → IsEnd run.end run.tag (runs ++ run ∷ [])
end-here end runs run is apart lt = record {
  most = EachRun-all _ (runs ++ run ∷ []) (λ r i. ⊎_elim
      (λ old same. let p = EachRun-in _ runs r is.most old same in let before = EachRun-in _ runs r apart old same in (p.0, omega (arith, before, lt)))
      (λ new same. subst (λ (x : Run). (0 < x.end) × (x.end ≤ run.end)) (sym new) (omega (arith, lt), omega arith))
      (in-push runs run r i));
  some = inr (run, in-last runs run, refl, refl);
}

-- another run leaves it
end-there : (end : ℕ) (tag : Tag) (runs : List Run) (run : Run) → IsEnd end tag runs → run.tag ≢ tag → IsEnd end tag (runs ++ run ∷ [])
end-there end tag runs run is other = record {
  most = EachRun-push _ runs run is.most (λ same. absurd (other same));
  some = ⊎_elim (λ none. inl none) (λ h. inr (h.0, in-front runs h.0 run h.1, h.2, h.3)) is.some;
}

-- ---- all ends

pub ends-none : (n : ℕ) (ends : Ends) → ends.ran.items ≡ replicate n 0 → ends.swap.items ≡ replicate 256 0 → AreEnds n ends []
ends-none n ends ran swap = record {
  outcomes_are = ap length ran ∙ length-replicate {A = ℕ} n 0;
  places_are = ap length swap ∙ length-replicate {A = ℕ} 256 0;
  ran = λ m lt. subst (λ e. IsEnd e (Ran m) []) (sym (ap (λ l. get_or l m 0) ran ∙ get_or-replicate {A = ℕ} n m 0 0 lt)) (end-none (Ran m));
  swap = λ k lt. subst (λ e. IsEnd e (Swap k) []) (sym (ap (λ l. get_or l k 0) swap ∙ get_or-replicate {A = ℕ} 256 k 0 0 lt)) (end-none (Swap k));
}

ran-apart : (m n : ℕ) → m ≢ n → Ran n ≢ Ran m
ran-apart m n other same = other (cc)

swap-apart : (m n : ℕ) → m ≢ n → Swap n ≢ Swap m
swap-apart m n other same = other (cc)

same-or-not : (a b : ℕ) → (a ≡ b) ⊎ (a ≢ b)
same-or-not a b = grind arith

pub noted-ran : (n : ℕ) (old new : Ends) (runs : List Run) (run : Run) (m : ℕ) → run.tag ≡ Ran m → m < length old.ran.items → run.first < run.end
    → new.ran.items ≡ set old.ran.items m run.end → new.swap.items ≡ old.swap.items
    → AreEnds n old runs → IsApart runs run → AreEnds n new (runs ++ run ∷ [])
noted-ran n old new runs run m tag known lt ran swap are apart = record {
  outcomes_are = ap length ran ∙ length-set old.ran.items m run.end ∙ are.outcomes_are;
  places_are = ap length swap ∙ are.places_are;
  ran = λ j below. ⊎_elim
      (λ same. subst (λ i. IsEnd (get_or new.ran.items i 0) (Ran i) (runs ++ run ∷ [])) (sym same)
      (subst (λ e. IsEnd e (Ran m) (runs ++ run ∷ [])) (sym (ap (λ l. get_or l m 0) ran ∙ get_or-set_same old.ran.items m run.end 0 known))
      (subst (λ g. IsEnd run.end g (runs ++ run ∷ [])) tag
      (end-here (get_or old.ran.items m 0) runs run
      (subst (λ g. IsEnd (get_or old.ran.items m 0) g runs) (sym tag) (subst (λ i. IsEnd (get_or old.ran.items i 0) (Ran i) runs) same
      (are.ran j below))) apart lt))))
      (λ other. subst (λ e. IsEnd e (Ran j) (runs ++ run ∷ [])) (sym (ap (λ l. get_or l j 0) ran ∙ get_or-set_other old.ran.items m j run.end 0 other))
      (end-there (get_or old.ran.items j 0) (Ran j) runs run (are.ran j below) (λ same. ran-apart j m other (sym tag ∙ same))))
      (same-or-not j m);
  swap = λ k below. subst (λ e. IsEnd e (Swap k) (runs ++ run ∷ [])) (sym (ap (λ l. get_or l k 0) swap))
      (end-there (get_or old.swap.items k 0) (Swap k) runs run (are.swap k below) (λ same. let f : Ran m ≡ Swap k = sym tag ∙ same in cc));
}

pub noted-swap : (n : ℕ) (old new : Ends) (runs : List Run) (run : Run) (m : ℕ) → run.tag ≡ Swap m → m < length old.swap.items → run.first < run.end
    → new.ran.items ≡ old.ran.items → new.swap.items ≡ set old.swap.items m run.end
    → AreEnds n old runs → IsApart runs run → AreEnds n new (runs ++ run ∷ [])
noted-swap n old new runs run m tag known lt ran swap are apart = record {
  outcomes_are = ap length ran ∙ are.outcomes_are;
  places_are = ap length swap ∙ length-set old.swap.items m run.end ∙ are.places_are;
  ran = λ j below. subst (λ e. IsEnd e (Ran j) (runs ++ run ∷ [])) (sym (ap (λ l. get_or l j 0) ran))
      (end-there (get_or old.ran.items j 0) (Ran j) runs run (are.ran j below) (λ same. let f : Swap m ≡ Ran j = sym tag ∙ same in cc));
  swap = λ k below. ⊎_elim
      (λ same. subst (λ i. IsEnd (get_or new.swap.items i 0) (Swap i) (runs ++ run ∷ [])) (sym same)
      (subst (λ e. IsEnd e (Swap m) (runs ++ run ∷ [])) (sym (ap (λ l. get_or l m 0) swap ∙ get_or-set_same old.swap.items m run.end 0 known))
      (subst (λ g. IsEnd run.end g (runs ++ run ∷ [])) tag
      (end-here (get_or old.swap.items m 0) runs run
      (subst (λ g. IsEnd (get_or old.swap.items m 0) g runs) (sym tag) (subst (λ i. IsEnd (get_or old.swap.items i 0) (Swap i) runs) same
      (are.swap k below))) apart lt))))
      (λ other. subst (λ e. IsEnd e (Swap k) (runs ++ run ∷ [])) (sym (ap (λ l. get_or l k 0) swap ∙ get_or-set_other old.swap.items m k run.end 0 other))
      (end-there (get_or old.swap.items k 0) (Swap k) runs run (are.swap k below) (λ same. swap-apart k m other (sym tag ∙ same))))
      (same-or-not k m);
}

-- ---- what ends tell

end-of : (n : ℕ) (ends : Ends) (runs : List Run) (tag : Tag) → AreEnds n ends runs → IsTagOf n tag → IsEnd (end_at ends tag) tag runs
end-of n ends runs (Ran m) are lt = are.ran m lt
end-of n ends runs (Swap k) are lt = are.swap k lt

pub apart-told : (n : ℕ) (ends : Ends) (runs : List Run) (run : Run) → AreEnds n ends runs → IsTagOf n run.tag
    → (end_at ends run.tag ≡ 0) ⊎ (end_at ends run.tag < run.first) → IsApart runs run
apart-told n ends runs run are known told =
    let is = end-of n ends runs run.tag are known in
    EachRun-all _ runs (λ r i same.
    let p = EachRun-in _ runs r is.most i same in
    let a = p.0 in let b = p.1 in
    ⊎_elim (λ none. absurd (omega (arith, a, b, none))) (λ lt. omega (arith, b, lt)) told)

pub apart-tells : (n : ℕ) (ends : Ends) (runs : List Run) (run : Run) → AreEnds n ends runs → IsTagOf n run.tag → IsApart runs run
    → (end_at ends run.tag ≡ 0) ⊎ (end_at ends run.tag < run.first)
apart-tells n ends runs run are known apart =
    ⊎_elim (λ none. inl none)
    (λ h. let lt = EachRun-in _ runs h.0 apart h.1 h.2 in let at = h.3 in inr (omega (arith, lt, at)))
    (end-of n ends runs run.tag are known).some

pub named-told : (n : ℕ) (ends : Ends) (runs : List Run) → AreEnds n ends runs
    → ((m : ℕ) → m < length ends.ran.items → slice_index ends.ran.items m ≢ 0) → AllNamed n runs
named-told n ends runs are all m lt =
    let size = are.outcomes_are in
    ⊎_elim (λ none. absurd (all m (omega (arith, size, lt)) none)) (λ h. (h.0, h.1, h.2)) (are.ran m lt).some

pub named-tells : (n : ℕ) (ends : Ends) (runs : List Run) → AreEnds n ends runs → AllNamed n runs
    → (m : ℕ) → m < length ends.ran.items → slice_index ends.ran.items m ≢ 0
named-tells n ends runs are named m lt none =
    let size = are.outcomes_are in
    let below : m < n = omega (arith, size, lt) in
    let h = named m below in
    let p = EachRun-in _ runs h.0 (are.ran m below).most h.1 h.2 in
    let a = p.0 in let b = p.1 in
    omega (arith, a, b, none)
