-- A swap of quiet steps changes no outcome.
use Rattle.std.proofs.Common.{◌≡◌, ◌≢◌, refl, sym, ap, ◌∙◌, subst, ℕ, zero, suc, ◌+◌, ◌<◌, Bool, true, false, cond, not, ◌==◌, nat_lt, List, [], ◌∷◌, set}
use Rattle.std.proofs.Common.{get_or, Option, Some, None, option_map, ⊎_elim, arith, get_or-set_other, eq-eqb, ltb-true}
use Rattle.std.proofs.lemmas.List.{set_comm}
use Rattle.machine_model.specs.World.{World, send, send_all}
use Rattle.bound_specs.specs.Spec.{Step, Queues, line}
use Rattle.machine_model.specs.Sound.{Sound}
use Rattle.perm_ranks.specs.Words.{Word}
use Rattle.perm_ranks.specs.Swapped.{exchanged}
use Rattle.rank_facts.specs.Swap.{quiet_heads, quiet_at, smaller_in, falls_in}
use Rattle.machine_model.proofs.Basics.{both_true, known, not_true, not_both}
use Rattle.rank_facts.proofs.FromQuiet.{quiet-commute}
use Rattle.machine_model.proofs.Settles.{send-sound}
use Rattle.machine_model.proofs.Counts.{Fitting, send-fitting}

-- ---- lines

abbrev popped : Queues → ℕ → Word → List ℕ → List ℕ
popped q i word x = elim x [ [] ↦ line q word | k ∷ ks ↦ k ∷ line (set q i ks) word ]

pub line-at : (q : Queues) (i : ℕ) (word : Word) (x : List ℕ) → get_or q i [] ≡ x → line q (i ∷ word) ≡ popped q i word x
line-at q i word x e = ap (popped q i word) e

-- two letters in either order take the same two steps
pub line-two : (q : Queues) (a b : ℕ) (word : Word) (k l : ℕ) (ks ls : List ℕ) → a ≢ b → get_or q a [] ≡ k ∷ ks → get_or q b [] ≡ l ∷ ls
    → line q (a ∷ b ∷ word) ≡ k ∷ l ∷ line (set (set q a ks) b ls) word
line-two q a b word k l ks ls ne ea eb =
    line-at q a (b ∷ word) (k ∷ ks) ea
    ∙ ap (λ x. k ∷ x) (line-at (set q a ks) b word (l ∷ ls) (get_or-set_other q a b ks [] (λ e. ne (sym e)) ∙ eb))

some-cond : {A : Type 0} (b : Bool) (x y : A) → cond b (Some x) None ≡ Some y → x ≡ y
some-cond true x y e = cc
some-cond false x y e = cc

some-map : {A B : Type 0} (f : A → B) (o : Option A) (y : B) → option_map f o ≡ Some y → (x : A) × (o ≡ Some x) × (f x ≡ y)
some-map f None y e = cc
some-map f (Some x) y e = (x, refl, (let P : Some (f x) ≡ Some y = e in cc))

swap-here : (steps : List Step) (w : World) (q : Queues) (a b : ℕ) (word : Word) → Sound w → Fitting steps w → a ≢ b
    → quiet_heads steps w (get_or q a []) (get_or q b []) ≡ true
    → send_all steps w (line q (a ∷ b ∷ word)) ≡ send_all steps w (line q (b ∷ a ∷ word))
swap-here steps w q a b word sound fit ne quiet = at (get_or q a []) (get_or q b []) refl refl quiet
  where
    at : (x y : List ℕ) → get_or q a [] ≡ x → get_or q b [] ≡ y → quiet_heads steps w x y ≡ true
        → send_all steps w (line q (a ∷ b ∷ word)) ≡ send_all steps w (line q (b ∷ a ∷ word))
    at [] y ex ey h = cc
    at (k ∷ ks) [] ex ey h = cc
    at (k ∷ ks) (l ∷ ls) ex ey h =
        ap (send_all steps w) (line-two q a b word k l ks ls ne ex ey)
        ∙ ap (λ v. send_all steps v (line (set (set q a ks) b ls) word)) (quiet-commute steps w k l sound (fit k) (fit l) h)
        ∙ ap (λ p. send_all steps (send steps (send steps w l) k) (line p word)) (set_comm q a b ks ls ne)
        ∙ sym (ap (send_all steps w) (line-two q b a word l k ls ks (λ e. ne (sym e)) ey ex))

-- a true swap leads to a word with the same worlds at its end, and so with the same outcome
pub swap-same : (steps : List Step) (w : World) (q : Queues) (k : ℕ) (word other : Word) → Sound w → Fitting steps w → exchanged k word ≡ Some other
    → quiet_at steps w q k word ≡ true
    → send_all steps w (line q word) ≡ send_all steps w (line q other)
swap-same steps w q k [] other sound fit e h = cc
swap-same steps w q zero (a ∷ []) other sound fit e h = cc
swap-same steps w q zero (a ∷ b ∷ word) other sound fit e h =
    let p = both_true (not (a == b)) _ h in
    swap-here steps w q a b word sound fit (λ x. not_both _ (eq-eqb a b x) (not_true _ p.0)) p.1
    ∙ ap (λ v. send_all steps w (line q v)) (some-cond (nat_lt b a) (b ∷ a ∷ word) other e)
swap-same steps w q (suc k) (a ∷ word) other sound fit e h =
    let m = some-map (λ v. a ∷ v) (exchanged k word) other e in
    at m.0 (get_or q a []) refl h (λ w2 q2 s f g. swap-same steps w2 q2 k word m.0 s f m.1 g) ∙ ap (λ v. send_all steps w (line q v)) m.2
  where
    at : (v : Word) (x : List ℕ) → get_or q a [] ≡ x
        → (let b : Bool = elim x [ [] ↦ quiet_at steps w q k word | n ∷ ns ↦ quiet_at steps (send steps w n) (set q a ns) k word ] in b) ≡ true
        → ((w2 : World) (q2 : Queues) → Sound w2 → Fitting steps w2 → quiet_at steps w2 q2 k word ≡ true
        → send_all steps w2 (line q2 word) ≡ send_all steps w2 (line q2 v))
        → send_all steps w (line q (a ∷ word)) ≡ send_all steps w (line q (a ∷ v))
    at v [] is g rec = ap (send_all steps w) (line-at q a word [] is) ∙ rec w q sound fit g ∙ sym (ap (send_all steps w) (line-at q a v [] is))
    at v (n ∷ ns) is g rec = ap (send_all steps w) (line-at q a word (n ∷ ns) is)
        ∙ rec (send steps w n) (set q a ns) (send-sound steps w n sound (fit n)) (send-fitting steps w n fit) g
        ∙ sym (ap (send_all steps w) (line-at q a v (n ∷ ns) is))

-- ---- chains of swaps end

smaller-exchanged : (a k : ℕ) (word other : Word) → exchanged k word ≡ Some other → smaller_in a other ≡ smaller_in a word
smaller-exchanged a k [] other e = cc
smaller-exchanged a zero (x ∷ []) other e = cc
smaller-exchanged a zero (x ∷ y ∷ word) other e = sym (ap (smaller_in a) (some-cond (nat_lt y x) (y ∷ x ∷ word) other e))
    ∙ (let h : cond (nat_lt y a) 1 0 + (cond (nat_lt x a) 1 0 + smaller_in a word) ≡ cond (nat_lt x a) 1 0 + (cond (nat_lt y a) 1 0 + smaller_in a word) =
    omega arith in h)
smaller-exchanged a (suc k) (x ∷ word) other e =
    let m = some-map (λ v. x ∷ v) (exchanged k word) other e in
    sym (ap (smaller_in a) m.2) ∙ ap (λ n. cond (nat_lt x a) 1 0 + n) (smaller-exchanged a k word m.0 m.1)

cond-some : {A : Type 0} (b : Bool) (x y : A) → cond b (Some x) None ≡ Some y → b ≡ true
cond-some true x y e = refl
cond-some false x y e = cc

-- an exchange of letters that fall leaves fewer falls
pub fewer-falls : (k : ℕ) (word other : Word) → exchanged k word ≡ Some other → falls_in other < falls_in word
fewer-falls k [] other e = cc
fewer-falls zero (x ∷ []) other e = cc
fewer-falls zero (x ∷ y ∷ word) other e =
    let same : y ∷ x ∷ word ≡ other = some-cond (nat_lt y x) (y ∷ x ∷ word) other e in
    let falls : nat_lt y x ≡ true = cond-some (nat_lt y x) (y ∷ x ∷ word) other e in
    let rises : nat_lt x y ≡ false = (let lt : y < x = ltb-true y x falls in not_lt y x lt) in
    subst (λ o. falls_in o < falls_in (x ∷ y ∷ word)) same
    (let a : ◌≡◌ {A = ℕ} (cond (nat_lt x y) 1 0) 0 = ap (λ t. cond t 1 0) rises in
    let b : ◌≡◌ {A = ℕ} (cond (nat_lt y x) 1 0) 1 = ap (λ t. cond t 1 0) falls in
    let goal : (cond (nat_lt x y) 1 0 + smaller_in y word) + (smaller_in x word + falls_in word) < (cond (nat_lt y x) 1 0 + smaller_in x word) +
    (smaller_in y word + falls_in word) = omega arith in goal)
  where
    not_lt : (y x : ℕ) → y < x → nat_lt x y ≡ false
    not_lt y x lt = ⊎_elim (λ h. absurd (let k : x < y = ltb-true x y h in omega arith)) (λ h. h) (known (nat_lt x y))
fewer-falls (suc k) (x ∷ word) other e =
    let m = some-map (λ v. x ∷ v) (exchanged k word) other e in
    let s = smaller-exchanged x k word m.0 m.1 in
    let f = fewer-falls k word m.0 m.1 in
    subst (λ o. falls_in o < falls_in (x ∷ word)) m.2 (let goal : smaller_in x m.0 + falls_in m.0 < smaller_in x word + falls_in word = omega arith in goal)
