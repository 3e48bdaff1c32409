-- When a reading agrees with a spelling, and how the readings of parts make that of a whole.
use Rattle.std.proofs.Common.{◌≡◌, ℕ, zero, suc, ◌+◌, ◌<◌, ◌≤◌, Bool, true, false, List, [], ◌∷◌, ◌++◌, length, Option, Some, None, Ok, Err, refl, sym, ap}
use Rattle.std.proofs.Common.{subst, ◌∙◌, append_assoc, inl, inr, ◌⊎◌, arith, cond}
use Rattle.std.specs.Prelude.{is_some, ◌||◌}
use Rattle.std.proofs.lemmas.List.{append-nil, append_cancel_left, length-append}
use Rattle.sql_grammar.specs.declared.error.Limit.{Limit}
use Rattle.sql_grammar.specs.Tokens.{Token, Placed, is_last}
use Rattle.sql_grammar.specs.Grammar.{Marked, mark, plain, good}
use Rattle.sql_grammar.specs.Reading.{Stop, Read, ◌>>=◌, first, rest, halt, taken, within, chain}
use Rattle.sql_grammar.specs.declared.error.Why.{Why}
use Rattle.sql_grammar.specs.declared.error.Why.TheVariants.{CannotStand, Passes}

-- ---- the law

-- what follows begins with a token that does not carry the part on
abbrev pub Stops : (Token → Bool) → List Marked → Type 0
Stops on [] = ⊥
Stops on (m ∷ ms) = on m.token ≡ false

-- one token stands at the end after which nothing is read, and no such token before
abbrev pub HasEnd : List Placed → Type 0
HasEnd [] = ⊥
HasEnd (t ∷ ts) = cond (is_last t.token) (ts ≡ []) (HasEnd ts)

-- The reason is the limit of the mark.
abbrev pub IsOver : Option Limit → Why → Type 0
IsOver None why = ⊥
IsOver (Some l) CannotStand = ⊥
IsOver (Some l) (Passes l') = l ≡ l'

module _ {I T : Type 0} (tree : I → T) (sp : I → List Marked) (on : Token → Bool) (ts : List Placed) where
  -- The tree is spelled at the front, and no other one is, whatever follows.
  pub record Takes (x : T) (left : List Placed) : Type 0 where
    pub index : I
    pub is : x ≡ tree index
    pub front : List Placed
    pub parts : ts ≡ front ++ left
    pub spelled : sp index ≡ good front
    pub ended : HasEnd left
    pub only : (t : Placed) (after : List Placed) → left ≡ t ∷ after → (j : I) (more : List Marked) (m : Option Limit) (w : List Marked) → Stops on more
        → sp j ++ more ≡ good front ++ (mark t.token m ∷ w) → tree j ≡ tree index

  -- Some spelling begins with the tokens before the stop, and none goes on with that token, but over the limit.
  pub record Halts (s : Stop) : Type 0 where
    pub front : List Placed
    pub after : List Placed
    pub parts : ts ≡ front ++ (s.here ∷ after)
    pub index : I
    pub tail : List Marked
    pub opens : sp index ≡ good front ++ tail
    pub never : (j : I) (more : List Marked) (m : Option Limit) (w : List Marked) → Stops on more → sp j ++ more ≡ good front ++ (mark s.here.token m ∷ w)
        → IsOver m s.why
    pub may : (l : Limit) → s.why ≡ Passes l → (j : I) × (w : List Marked) × (sp j ≡ good front ++ (mark s.here.token (Some l) ∷ w))

  abbrev pub Agrees : Read T → Type 0
  Agrees (Ok r) = Takes r.0 r.1
  Agrees (Err s) = Halts s

-- ---- fronts

abbrev pub Heads : (Token → Bool) → Bool → List Marked → Type 0
Heads test b [] = ⊥
Heads test b (m ∷ ms) = test m.token ≡ b

pub good-append : (a b : List Placed) → good (a ++ b) ≡ good a ++ good b
good-append [] b = refl
good-append (x ∷ a) b = ap (λ (ms : List Marked). plain x.token ∷ ms) (good-append a b)

regroup : (a b : List Placed) (ms : List Marked) → good (a ++ b) ++ ms ≡ good a ++ (good b ++ ms)
regroup a b ms = ap (λ (xs : List Marked). xs ++ ms) (good-append a b) ∙ append_assoc (good a) (good b) ms

-- the first token of what is left, as the first of what follows
pub record Head (left : List Placed) (ms : List Marked) : Type 0 where
  pub here : Placed
  pub after : List Placed
  pub is : left ≡ here ∷ after
  pub over : Option Limit
  pub tail : List Marked
  pub same : ms ≡ mark here.token over ∷ tail

pub head_of : (front left : List Placed) (t : Placed) (after : List Placed) (m : Option Limit) (w : List Marked) → left ≡ front ++ (t ∷ after)
    → Head left (good front ++ (mark t.token m ∷ w))
head_of [] left t after m w e = record { here = t; after = after; is = e; over = m; tail = w; same = refl }
head_of (p ∷ front) left t after m w e =
    record { here = p; after = front ++ (t ∷ after); is = e; over = None; tail = good front ++ (mark t.token m ∷ w); same = refl }

heads_first : (test : Token → Bool) (b : Bool) (ms : List Marked) (left : List Placed) → Head left ms → Heads test b ms → test (first left).token ≡ b
heads_first test b ms left h e = let s = h.same in rw (h.is) (subst (Heads test b) s e)

heads_same : (test : Token → Bool) (b : Bool) (ms ns : List Marked) → ms ≡ ns → Heads test b ms → Heads test b ns
heads_same test b ms ns e h = subst (Heads test b) e h

-- equal lists of marked tokens, by their first ones
pub same_token : (t u : Token) (m n : Option Limit) (v w : List Marked) → mark t m ∷ v ≡ mark u n ∷ w → t ≡ u
same_token t u m n v w e = let h : mark t m ≡ mark u n = cc in ap (λ (x : Marked). x.token) h

pub same_over : (t u : Token) (m n : Option Limit) (v w : List Marked) → mark t m ∷ v ≡ mark u n ∷ w → m ≡ n
same_over t u m n v w e = let h : mark t m ≡ mark u n = cc in ap (λ (x : Marked). x.over) h

pub same_rest : (m n : Marked) (v w : List Marked) → m ∷ v ≡ n ∷ w → v ≡ w
same_rest m n v w e = cc

-- ---- nothing is read

pub nothing : {T : Type 0} (t : T) (on : Token → Bool) (ts : List Placed) → HasEnd ts → Agrees {I = Unit {0}} (λ _. t) (λ _. []) on ts (Ok (t, ts))
nothing t on ts e = record {
  index = tt;
  is = refl;
  front = [];
  parts = refl;
  spelled = refl;
  ended = e;
  only = λ u after same j more m w stop eq. refl;
}

-- whatever the index is
pub nothing_by : {I T : Type 0} (t : T) (on : Token → Bool) (some : I) (ts : List Placed) → HasEnd ts → Agrees {I = I} (λ _. t) (λ _. []) on ts (Ok (t, ts))
nothing_by t on some ts e = record {
  index = some;
  is = refl;
  front = [];
  parts = refl;
  spelled = refl;
  ended = e;
  only = λ u after same j more m w stop eq. refl;
}

-- ---- one token

pub one : {A : Type 0} (what : Token → Option A) (token_of : A → Token) (on : Token → Bool) (some : A)
    → ((t : Token) (x : A) → what t ≡ Some x → t ≡ token_of x) → ((x : A) → what (token_of x) ≡ Some x) → ((x : A) → is_last (token_of x) ≡ false)
    → (ts : List Placed) → HasEnd ts → Agrees {I = A} (λ x. x) (λ x. plain (token_of x) ∷ []) on ts (taken (what (first ts).token) ts)
one what token_of on some back forth inside [] ends = absurd ends
one {A} what token_of on some back forth inside (t ∷ ts) ends = go (what t.token) refl
  where
    go : (o : Option A) → what t.token ≡ o → Agrees {I = A} (λ x. x) (λ x. plain (token_of x) ∷ []) on (t ∷ ts) (taken o (t ∷ ts))
    go (Some x) e =
        let same : t.token ≡ token_of x = back t.token x e in
        let still : is_last t.token ≡ false = ap is_last same ∙ inside x in
        record {
          index = x;
          is = refl;
          front = t ∷ [];
          parts = refl;
          spelled = ap (λ (u : Token). plain u ∷ []) (sym same);
          ended = subst (λ (b : Bool). cond b (ts ≡ []) (HasEnd ts)) still ends;
          only = λ u after left j more m w stop eq.
              let agree : token_of j ≡ t.token = same_token _ _ _ _ _ _ eq in
              let again : Some j ≡ Some x = sym (forth j) ∙ ap what agree ∙ e in cc;
        }
    go None e = record {
      front = [];
      after = ts;
      parts = refl;
      index = some;
      tail = plain (token_of some) ∷ [];
      opens = refl;
      never = λ j more m w stop eq.
          let agree : token_of j ≡ t.token = same_token _ _ _ _ _ _ eq in
          let again : Some j ≡ None = sym (forth j) ∙ ap what agree ∙ e in absurd cc;
      may = λ l why. absurd cc;
    }

-- ---- one part and then another

pub then_by : {A J T : Type 0} (tree : A → J → T) (spA : A → List Marked) (spJ : A → J → List Marked) (onA on : Token
    → Bool) (ts : List Placed) (r : Read A) (k : A × List Placed → Read T)
    → J → ((a : A) (j : J) (more : List Marked) → Stops on more → Stops onA (spJ a j ++ more))
    → Agrees {I = A} (λ x. x) spA onA ts r
    → ((x : A × List Placed) → Takes {I = A} (λ a. a) spA onA ts x.0 x.1 → Agrees (tree x.0) (spJ x.0) on x.1 (k x))
    → Agrees {I = A × J} (λ p. tree p.0 p.1) (λ p. spA p.0 ++ spJ p.0 p.1) on ts (r >>= k)
then_by {A} {J} {T} tree spA spJ onA on ts (Err s) k some follow h g = record {
  front = h.front;
  after = h.after;
  parts = h.parts;
  index = (h.index, some);
  tail = h.tail ++ spJ h.index some;
  opens = ap (λ (ms : List Marked). ms ++ spJ h.index some) h.opens ∙ append_assoc (good h.front) h.tail (spJ h.index some);
  never = λ j more m w stop eq. h.never j.0 (spJ j.0 j.1 ++ more) m w (follow j.0 j.1 more stop) (sym (append_assoc (spA j.0) (spJ j.0 j.1) more) ∙ eq);
  may = λ l why. let x = h.may l why in (
    (x.0, some),
    x.1 ++ spJ x.0 some,
    ap (λ (ms : List Marked). ms ++ spJ x.0 some) x.2 ∙ append_assoc (good h.front) (mark s.here.token (Some l) ∷ x.1) (spJ x.0 some),
  );
}
then_by {A} {J} {T} tree spA spJ onA on ts (Ok (a, left)) k some follow h g = go (k (a, left)) (g (a, left) h)
  where
    here : spA a ≡ good h.front
    here = ap spA h.is ∙ h.spelled

    -- the first part is a, and the second one goes on
    goes : (front : List Placed) (t : Placed) (after : List Placed) → left ≡ front ++ (t ∷ after)
        → (j : A × J) (more : List Marked) (m : Option Limit) (w : List Marked) → Stops on more
        → (spA j.0 ++ spJ j.0 j.1) ++ more ≡ good (h.front ++ front) ++ (mark t.token m ∷ w) → (j.0 ≡ a) × (spJ a j.1 ++ more ≡ good front ++ (mark t.token m ∷ w))
    goes front t after e j more m w stop eq =
        let ms : List Marked = good front ++ (mark t.token m ∷ w) in
        let eq' : spA j.0 ++ (spJ j.0 j.1 ++ more) ≡ good h.front ++ ms = sym (append_assoc (spA j.0) (spJ j.0 j.1) more) ∙ eq
        ∙ regroup h.front front (mark t.token m ∷ w) in
        let hd = head_of front left t after m w e in
        let same : j.0 ≡ a =
        h.only hd.here hd.after hd.is j.0 (spJ j.0 j.1 ++ more) hd.over hd.tail (follow j.0 j.1 more stop) (eq'
        ∙ ap (λ (xs : List Marked). good h.front ++ xs) hd.same) ∙ sym h.is in
        let eq'' : good h.front ++ (spJ a j.1 ++ more) ≡ good h.front ++ ms =
        ap (λ (xs : List Marked). xs ++ (spJ a j.1 ++ more)) (sym here) ∙ ap (λ (b : A). spA b ++ (spJ b j.1 ++ more)) (sym same) ∙ eq' in
        (same, append_cancel_left (good h.front) (spJ a j.1 ++ more) ms eq'')

    go : (o : Read T) → Agrees (tree a) (spJ a) on left o → Agrees {I = A × J} (λ p. tree p.0 p.1) (λ p. spA p.0 ++ spJ p.0 p.1) on ts o
    go (Ok r) q = record {
      index = (a, q.index);
      is = q.is;
      front = h.front ++ q.front;
      parts = h.parts ∙ ap (λ (us : List Placed). h.front ++ us) q.parts ∙ sym (append_assoc h.front q.front r.1);
      spelled = ap (λ (ms : List Marked). ms ++ spJ a q.index) here ∙ ap (λ (ms : List Marked). good h.front ++ ms) q.spelled ∙ sym (good-append h.front q.front);
      ended = q.ended;
      only = λ t after e j more m w stop eq.
          let s = goes q.front t after (q.parts ∙ ap (λ (us : List Placed). q.front ++ us) e) j more m w stop eq in
          ap (λ (x : A). tree x j.1) s.0 ∙ q.only t after e j.1 more m w stop s.1;
    }
    go (Err s) q = record {
      front = h.front ++ q.front;
      after = q.after;
      parts = h.parts ∙ ap (λ (us : List Placed). h.front ++ us) q.parts ∙ sym (append_assoc h.front q.front (s.here ∷ q.after));
      index = (a, q.index);
      tail = q.tail;
      opens = ap (λ (ms : List Marked). ms ++ spJ a q.index) here ∙ ap (λ (ms : List Marked). good h.front ++ ms) q.opens ∙ sym (regroup h.front q.front q.tail);
      never = λ j more m w stop eq. let x = goes q.front s.here q.after q.parts j more m w stop eq in q.never j.1 more m w stop x.1;
      may = λ l why. let x = q.may l why in (
        (a, x.0),
        x.1,
        ap (λ (ms : List Marked). ms ++ spJ a x.0) here ∙ ap (λ (ms : List Marked). good h.front ++ ms) x.2
            ∙ sym (regroup h.front q.front (mark s.here.token (Some l) ∷ x.1)),
      );
    }

-- the second part is spelled alike whatever the first one is
pub then : {A J T : Type 0} (tree : A → J → T) (spA : A → List Marked) (spJ : J → List Marked) (onA on : Token
    → Bool) (ts : List Placed) (r : Read A) (k : A × List Placed → Read T)
    → J → ((j : J) (more : List Marked) → Stops on more → Stops onA (spJ j ++ more))
    → Agrees {I = A} (λ x. x) spA onA ts r
    → ((x : A × List Placed) → Takes {I = A} (λ a. a) spA onA ts x.0 x.1 → Agrees (tree x.0) spJ on x.1 (k x))
    → Agrees {I = A × J} (λ p. tree p.0 p.1) (λ p. spA p.0 ++ spJ p.1) on ts (r >>= k)
then tree spA spJ onA on ts r k some follow h g = then_by tree spA (λ a. spJ) onA on ts r k some (λ a. follow) h g

-- ---- the trees by a function

pub mapped : {I T U : Type 0} (f : T → U) (tree : I → T) (sp : I → List Marked) (on : Token → Bool) (ts : List Placed) (r : Read T)
    → Agrees tree sp on ts r → Agrees (λ i. f (tree i)) sp on ts (r >>= λ x. Ok (f x.0, x.1))
mapped f tree sp on ts (Ok x) h = record {
  index = h.index;
  is = ap f h.is;
  front = h.front;
  parts = h.parts;
  spelled = h.spelled;
  ended = h.ended;
  only = λ t after l j more m w stop eq. ap f (h.only t after l j more m w stop eq);
}
mapped f tree sp on ts (Err s) h =
    record { front = h.front; after = h.after; parts = h.parts; index = h.index; tail = h.tail; opens = h.opens; never = h.never; may = h.may }

-- ---- one of two, told by the first token

abbrev pub both : {A B C : Type 0} → (A → C) → (B → C) → A ⊎ B → C
both f g (inl a) = f a
both f g (inr b) = g b

pub choice : {A B T : Type 0} (treeA : A → T) (treeB : B → T) (spA : A → List Marked) (spB : B → List Marked) (on test : Token
    → Bool) (ts : List Placed) (r q : Read T)
    → ((a : A) (more : List Marked) → Stops on more → Heads test true (spA a ++ more))
    → ((b : B) (more : List Marked) → Stops on more → Heads test false (spB b ++ more))
    → (test (first ts).token ≡ true → Agrees treeA spA on ts r) → (test (first ts).token ≡ false → Agrees treeB spB on ts q)
    → Agrees {I = A ⊎ B} (both treeA treeB) (both spA spB) on ts (cond (test (first ts).token) r q)
choice {A} {B} {T} treeA treeB spA spB on test ts r q begins other f g = go (test (first ts).token) refl
  where
    -- the test of the first token is that of any spelling that goes on so
    told : (b : Bool) (ms : List Marked) (front : List Placed) (t : Placed) (after : List Placed) (m : Option Limit) (w : List Marked) → ts ≡ front
        ++ (t ∷ after) → ms ≡ good front ++ (mark t.token m ∷ w) → Heads test b ms → test (first ts).token ≡ b
    told b ms front t after m w e eq h =
        heads_first test b (good front ++ (mark t.token m ∷ w)) ts (head_of front ts t after m w e) (heads_same test b ms _ eq h)

    is_yes : (p : Read T) → test (first ts).token ≡ true → Agrees treeA spA on ts p → Agrees {I = A ⊎ B} (both treeA treeB) (both spA spB) on ts p
    is_yes (Ok x) e h = record {
      index = inl h.index;
      is = h.is;
      front = h.front;
      parts = h.parts;
      spelled = h.spelled;
      ended = h.ended;
      only = λ t after l j more m w stop eq. elim j as (λ j. both spA spB j ++ more ≡ good h.front ++ (mark t.token m ∷ w) → both treeA treeB j
          ≡ treeA h.index) [
            | inl a ↦ λ eq. h.only t after l a more m w stop eq
            | inr b ↦ λ eq. let wrong = told false _ h.front t after m w (h.parts ∙ ap (λ (us : List Placed). h.front ++ us) l) eq (other b more stop) in
                absurd cc
          ] eq;
    }
    is_yes (Err s) e h = record {
      front = h.front;
      after = h.after;
      parts = h.parts;
      index = inl h.index;
      tail = h.tail;
      opens = h.opens;
      never = λ j more m w stop eq. elim j as (λ j. both spA spB j ++ more ≡ good h.front ++ (mark s.here.token m ∷ w) → IsOver m s.why) [
        | inl a ↦ λ eq. h.never a more m w stop eq
        | inr b ↦ λ eq. let wrong = told false _ h.front s.here h.after m w h.parts eq (other b more stop) in absurd cc
      ] eq;
      may = λ l why. let x = h.may l why in (inl x.0, x.1, x.2);
    }

    is_no : (p : Read T) → test (first ts).token ≡ false → Agrees treeB spB on ts p → Agrees {I = A ⊎ B} (both treeA treeB) (both spA spB) on ts p
    is_no (Ok x) e h = record {
      index = inr h.index;
      is = h.is;
      front = h.front;
      parts = h.parts;
      spelled = h.spelled;
      ended = h.ended;
      only = λ t after l j more m w stop eq. elim j as (λ j. both spA spB j ++ more ≡ good h.front ++ (mark t.token m ∷ w) → both treeA treeB j
          ≡ treeB h.index) [
            | inr b ↦ λ eq. h.only t after l b more m w stop eq
            | inl a ↦ λ eq. let wrong = told true _ h.front t after m w (h.parts ∙ ap (λ (us : List Placed). h.front ++ us) l) eq (begins a more stop) in
                absurd cc
          ] eq;
    }
    is_no (Err s) e h = record {
      front = h.front;
      after = h.after;
      parts = h.parts;
      index = inr h.index;
      tail = h.tail;
      opens = h.opens;
      never = λ j more m w stop eq. elim j as (λ j. both spA spB j ++ more ≡ good h.front ++ (mark s.here.token m ∷ w) → IsOver m s.why) [
        | inr b ↦ λ eq. h.never b more m w stop eq
        | inl a ↦ λ eq. let wrong = told true _ h.front s.here h.after m w h.parts eq (begins a more stop) in absurd cc
      ] eq;
      may = λ l why. let x = h.may l why in (inr x.0, x.1, x.2);
    }

    go : (b : Bool) → test (first ts).token ≡ b → Agrees {I = A ⊎ B} (both treeA treeB) (both spA spB) on ts (cond b r q)
    go true e = is_yes r e (f e)
    go false e = is_no q e (g e)

-- ---- the same trees and spellings, by another index

pub also : {I J T : Type 0} (tree : I → T) (sp : I → List Marked) (tree' : J → T) (sp' : J → List Marked) (on : Token
    → Bool) (ts : List Placed) (r : Read T) (to : I → J) (back : J → I)
    → ((i : I) → (tree' (to i) ≡ tree i) × (sp' (to i) ≡ sp i)) → ((j : J) → (tree (back j) ≡ tree' j) × (sp (back j) ≡ sp' j))
    → Agrees tree sp on ts r → Agrees tree' sp' on ts r
also tree sp tree' sp' on ts (Ok x) to back f g h = record {
  index = to h.index;
  is = h.is ∙ sym (f h.index).0;
  front = h.front;
  parts = h.parts;
  spelled = (f h.index).1 ∙ h.spelled;
  ended = h.ended;
  only = λ t after l j more m w stop eq.
      sym (g j).0 ∙ h.only t after l (back j) more m w stop (ap (λ (ms : List Marked). ms ++ more) (g j).1 ∙ eq) ∙ sym (f h.index).0;
}
also tree sp tree' sp' on ts (Err s) to back f g h = record {
  front = h.front;
  after = h.after;
  parts = h.parts;
  index = to h.index;
  tail = h.tail;
  opens = (f h.index).1 ∙ h.opens;
  never = λ j more m w stop eq. h.never (back j) more m w stop (ap (λ (ms : List Marked). ms ++ more) (g j).1 ∙ eq);
  may = λ l why. let x = h.may l why in (to x.0, x.1, (f x.0).1 ∙ x.2);
}

-- ---- what follows

-- nothing carries a part on that ends by itself
abbrev pub closed : Token → Bool
closed t = false

pub stops_closed : (on : Token → Bool) (ms more : List Marked) → Stops on more → Stops closed (ms ++ more)
stops_closed on [] [] h = absurd h
stops_closed on [] (m ∷ more) h = refl
stops_closed on (x ∷ ms) more h = refl

pub stops_weaker : (on on' : Token → Bool) → ((t : Token) → on t ≡ false → on' t ≡ false) → (more : List Marked) → Stops on more → Stops on' more
stops_weaker on on' f [] h = absurd h
stops_weaker on on' f (m ∷ ms) h = f m.token h

-- ---- items and separators

pub record IsChain {A S L : Type 0} (last : A → L) (more : A → S → L → L) (sep : Token → Option S) (spS : S → Token) (spA : ℕ → A → List Marked) (spL : ℕ
    → L → List Marked) (onA on : Token → Bool) : Type 0 where
  pub cases : (l : L) → ((a : A) × (s : S) × (l' : L) × (l ≡ more a s l')) ⊎ ((a : A) × (l ≡ last a))
  pub of_last : (k : ℕ) (a : A) → spL k (last a) ≡ spA k a
  pub of_more : (k : ℕ) (a : A) (s : S) (l : L) → spL k (more a s l) ≡ spA k a ++ (plain (spS s) ∷ spL (suc k) l)
  pub back : (t : Token) (s : S) → sep t ≡ Some s → t ≡ spS s
  pub forth : (s : S) → sep (spS s) ≡ Some s
  pub inside : (s : S) → is_last (spS s) ≡ false
  pub not_empty : (k : ℕ) (a : A) → spA k a ≡ [] → ⊥
  pub ends_item : (s : S) → onA (spS s) ≡ false
  pub weaker : (t : Token) → on t ≡ false → onA t ≡ false
  pub no_sep : (t : Token) → on t ≡ false → sep t ≡ None

module _ {A S L : Type 0} (last : A → L) (more : A → S → L → L) (sep : Token → Option S) (spS : S → Token) (spA : ℕ → A → List Marked) (spL : ℕ → L
    → List Marked) (onA on : Token → Bool) (is : IsChain last more sep spS spA spL onA on)
    (item : ℕ → List Placed → Read A) (some : A) (some_sep : S) where
  abbrev tail_of : A → (S × L) ⊎ Unit {0} → L
  tail_of a = both (λ (p : S × L). more a p.0 p.1) (λ (x : Unit {0}). last a)

  abbrev tail_sp : ℕ → (S × L) ⊎ Unit {0} → List Marked
  tail_sp k = both (λ (p : S × L). plain (spS p.0) ∷ spL (suc k) p.1) (λ (x : Unit {0}). [])

  abbrev back_of : (l : L) → ((a : A) × (s : S) × (l' : L) × (l ≡ more a s l')) ⊎ ((a : A) × (l ≡ last a)) → A × ((S × L) ⊎ Unit {0})
  back_of l (inl x) = (x.0, inl (x.1, x.2))
  back_of l (inr x) = (x.0, inr tt)

  to_is : (k : ℕ) (p : A × ((S × L) ⊎ Unit {0})) → (tail_of p.0 p.1 ≡ tail_of p.0 p.1) × (spL k (tail_of p.0 p.1) ≡ spA k p.0 ++ tail_sp k p.1)
  to_is k (a, inl p) = (refl, is.of_more k a p.0 p.1)
  to_is k (a, inr x) = (refl, is.of_last k a ∙ sym (append-nil (spA k a)))

  back_is : (k : ℕ) (l : L) (c : ((a : A) × (s : S) × (l' : L) × (l ≡ more a s l')) ⊎ ((a : A) × (l ≡ last a)))
      → (tail_of (back_of l c).0 (back_of l c).1 ≡ l) × (spA k (back_of l c).0 ++ tail_sp k (back_of l c).1 ≡ spL k l)
  back_is k l (inl x) = (sym x.3, sym (ap (spL k) x.3 ∙ is.of_more k x.0 x.1 x.2))
  back_is k l (inr x) = (sym x.1, append-nil (spA k x.0) ∙ sym (ap (spL k) x.1 ∙ is.of_last k x.0))

  shorter : (k : ℕ) (ts : List Placed) (a : A) (left : List Placed) → Takes {I = A} (λ x. x) (spA k) onA ts a left → length left < length ts
  shorter k ts a left h = go h.front h.spelled (ap length h.parts ∙ length-append h.front left)
    where
      go : (front : List Placed) → spA k h.index ≡ good front → length ts ≡ length front + length left → length left < length ts
      go [] e l = absurd (is.not_empty k h.index e)
      go (p ∷ front) e l = omega arith

  not_longer : (ts left : List Placed) (front : List Placed) → ts ≡ front ++ left → length left ≤ length ts
  not_longer ts left front e = omega (arith, ap length e ∙ length-append front left)

  follows : (k : ℕ) (j : (S × L) ⊎ Unit {0}) (ms : List Marked) → Stops on ms → Stops onA (tail_sp k j ++ ms)
  follows k (inl p) ms h = is.ends_item p.0
  follows k (inr x) ms h = stops_weaker on onA is.weaker ms h

  begins : (k : ℕ) (p : S × L) (ms : List Marked) → Stops on ms → Heads (λ t. is_some (sep t)) true (tail_sp k (inl p) ++ ms)
  begins k p ms h = ap is_some (is.forth p.0)

  other : (k : ℕ) (x : Unit {0}) (ms : List Marked) → Stops on ms → Heads (λ t. is_some (sep t)) false (tail_sp k (inr x) ++ ms)
  other k x [] h = absurd h
  other k x (m ∷ ms) h = ap is_some (is.no_sep m.token h)

  abbrev step : ℕ → ℕ → A → List Placed → Option S → Read L
  step n k a left o = elim o [ None ↦ Ok (last a, left) | Some s ↦ chain last more sep item n (suc k) (rest left) >>= λ l. Ok (more a s l.0, l.1) ]

  abbrev further : ℕ → ℕ → A → S × List Placed → Read L
  further n k a s = chain last more sep item n (suc k) s.1 >>= λ l. Ok (more a s.0 l.0, l.1)

  by_sep : (n k : ℕ) (a : A) (left : List Placed) (o : Option S) → cond (is_some o) (taken o left >>= further n k a) (Ok (last a, left)) ≡ step n k a left o
  by_sep n k a left None = refl
  by_sep n k a left (Some s) = refl

  pub in_chain : ((k : ℕ) (ts : List Placed) → HasEnd ts → Agrees {I = A} (λ a. a) (spA k) onA ts (item k ts))
      → (n k : ℕ) (ts : List Placed) → HasEnd ts → length ts < n → Agrees {I = L} (λ l. l) (spL k) on ts (chain last more sep item n k ts)
  in_chain law zero k ts ends lt = absurd (omega arith)
  in_chain law (suc n) k ts ends lt =
      also (λ (p : A × ((S × L) ⊎ Unit {0})). tail_of p.0 p.1) (λ p. spA k p.0 ++ tail_sp k p.1) (λ l. l) (spL k) on ts _
      (λ p. tail_of p.0 p.1) (λ l. back_of l (is.cases l)) (to_is k) (λ l. back_is k l (is.cases l))
      (then tail_of (spA k) (tail_sp k) onA on ts (item k ts) _ (inr tt) (follows k) (law k ts ends) (go_on (λ us e l. in_chain law n (suc k) us e l)))
    where
      go_on : ((us : List Placed) → HasEnd us → length us < n → Agrees {I = L} (λ l. l) (spL (suc k)) on us (chain last more sep item n (suc k) us))
          → (x : A × List Placed) → Takes {I = A} (λ a. a) (spA k) onA ts x.0 x.1
          → Agrees (tail_of x.0) (tail_sp k) on x.1 (step n k x.0 x.1 (sep (first x.1).token))
      go_on ih x h =
          subst (Agrees (tail_of x.0) (tail_sp k) on x.1) (by_sep n k x.0 x.1 (sep (first x.1).token))
          (choice (λ (p : S × L). more x.0 p.0 p.1) (λ (u : Unit {0}). last x.0) (λ (p : S
          × L). plain (spS p.0) ∷ spL (suc k) p.1) (λ (u : Unit {0}). []) on (λ t. is_some (sep t)) x.1 _ _ (begins k) (other k)
          (λ e. then (λ s l. more x.0 s l) (λ s. plain (spS s) ∷ []) (spL (suc k)) closed on x.1 (taken (sep (first x.1).token) x.1) (further n k x.0)
          (last some) (λ l ms st. stops_closed on (spL (suc k) l) ms st)
          (one sep spS closed some_sep is.back is.forth is.inside x.1 h.ended)
          (λ y g. mapped (λ l. more x.0 y.0 l) (λ l. l) (spL (suc k)) on y.1 _ (ih y.1 g.ended (let a = not_longer x.1 y.1 g.front g.parts in let b =
          shorter k ts x.0 x.1 h in omega arith))))
          (λ e. nothing (last x.0) on x.1 h.ended))

-- ---- one token that may pass a limit

pub one_within : {A : Type 0} (what : Token → Option A) (token_of : A → Token) (over : A → Option Limit) (on : Token → Bool) (some : A)
    → ((t : Token) (x : A) → what t ≡ Some x → t ≡ token_of x) → ((x : A) → what (token_of x) ≡ Some x) → ((x : A) → is_last (token_of x) ≡ false)
    → (ts : List Placed) → HasEnd ts → Agrees {I = A} (λ x. x) (λ x. mark (token_of x) (over x) ∷ []) on ts (within over (what (first ts).token) ts)
one_within what token_of over on some back forth inside [] ends = absurd ends
one_within {A} what token_of over on some back forth inside (t ∷ ts) ends = go (what t.token) refl
  where
    same_index : (x j : A) → what t.token ≡ Some x → token_of j ≡ t.token → j ≡ x
    same_index x j e agree = let again : Some j ≡ Some x = sym (forth j) ∙ ap what agree ∙ e in cc

    at_limit : (x : A) (o : Option Limit) → what t.token ≡ Some x → over x ≡ o
        → Agrees {I = A} (λ x. x) (λ x. mark (token_of x) (over x) ∷ []) on (t ∷ ts) (elim o [ None ↦ Ok (x, ts) | Some l ↦ halt (Passes l) (t ∷ ts) ])
    at_limit x None e none =
        let same : t.token ≡ token_of x = back t.token x e in
        let still : is_last t.token ≡ false = ap is_last same ∙ inside x in
        record {
          index = x;
          is = refl;
          front = t ∷ [];
          parts = refl;
          spelled = rw (none, ← same) refl;
          ended = subst (λ (b : Bool). cond b (ts ≡ []) (HasEnd ts)) still ends;
          only = λ u after left j more m w stop eq. same_index x j e (same_token _ _ _ _ _ _ eq);
        }
    at_limit x (Some l) e some_l =
        let same : t.token ≡ token_of x = back t.token x e in
        record {
          front = [];
          after = ts;
          parts = refl;
          index = x;
          tail = mark (token_of x) (over x) ∷ [];
          opens = refl;
          never = λ j more m w stop eq.
              let i : j ≡ x = same_index x j e (same_token _ _ _ _ _ _ eq) in
              let o : Some l ≡ m = sym some_l ∙ sym (ap over i) ∙ same_over _ _ _ _ _ _ eq in
              subst (λ (n : Option Limit). IsOver n (Passes l)) o refl;
          may = λ l' why.
              let both_l : l ≡ l' = cc in
              (x, [], rw (← same, some_l, both_l) refl);
        }

    go : (o : Option A) → what t.token ≡ o → Agrees {I = A} (λ x. x) (λ x. mark (token_of x) (over x) ∷ []) on (t ∷ ts) (within over o (t ∷ ts))
    go (Some x) e = at_limit x (over x) e refl
    go None e = record {
      front = [];
      after = ts;
      parts = refl;
      index = some;
      tail = mark (token_of some) (over some) ∷ [];
      opens = refl;
      never = λ j more m w stop eq.
          let agree : token_of j ≡ t.token = same_token _ _ _ _ _ _ eq in
          let again : Some j ≡ None = sym (forth j) ∙ ap what agree ∙ e in absurd cc;
      may = λ l why. absurd cc;
    }

-- ---- small changes

-- where less may follow
pub weaken : {I T : Type 0} (tree : I → T) (sp : I → List Marked) (on on' : Token → Bool) (ts : List Placed) (r : Read T)
    → ((more : List Marked) → Stops on more → Stops on' more) → Agrees tree sp on' ts r → Agrees tree sp on ts r
weaken tree sp on on' ts (Ok x) f h = record {
  index = h.index;
  is = h.is;
  front = h.front;
  parts = h.parts;
  spelled = h.spelled;
  ended = h.ended;
  only = λ t after l j more m w stop eq. h.only t after l j more m w (f more stop) eq;
}
weaken tree sp on on' ts (Err s) f h = record {
  front = h.front;
  after = h.after;
  parts = h.parts;
  index = h.index;
  tail = h.tail;
  opens = h.opens;
  never = λ j more m w stop eq. h.never j more m w (f more stop) eq;
  may = h.may;
}

-- equal spellings
pub spelled_as : {I T : Type 0} (tree : I → T) (sp sp' : I → List Marked) (on : Token → Bool) (ts : List Placed) (r : Read T)
    → ((i : I) → sp' i ≡ sp i) → Agrees tree sp on ts r → Agrees tree sp' on ts r
spelled_as tree sp sp' on ts r f h = also tree sp tree sp' on ts r (λ i. i) (λ i. i) (λ i. (refl, f i)) (λ i. (refl, sym (f i))) h

-- a first token that passes a limit
pub over_limit : {I T : Type 0} (tree : I → T) (sp : I → List Marked) (on : Token → Bool) (l : Limit) (some : I) (ts : List Placed)
    → ((i : I) → (w : List Marked) × (sp i ≡ mark (first ts).token (Some l) ∷ w)) → HasEnd ts → Agrees tree sp on ts (halt (Passes l) ts)
over_limit tree sp on l some [] f ends = absurd ends
over_limit tree sp on l some (t ∷ ts) f ends = record {
  front = [];
  after = ts;
  parts = refl;
  index = some;
  tail = sp some;
  opens = refl;
  never = λ j more m w stop eq.
      let x = f j in
      let o : Some l ≡ m = same_over _ _ _ _ _ _ (ap (λ (ms : List Marked). ms ++ more) (sym x.1) ∙ eq) in
      subst (λ (n : Option Limit). IsOver n (Passes l)) o refl;
  may = λ l' why. let x = f some in let e : l ≡ l' = cc in (some, x.0, x.1 ∙ ap (λ (k : Limit). mark t.token (Some k) ∷ x.0) e);
}

pub heads-append : (test : Token → Bool) (b : Bool) (xs ys : List Marked) → Heads test b xs → Heads test b (xs ++ ys)
heads-append test b [] ys h = absurd h
heads-append test b (x ∷ xs) ys h = h

pub or-false : (a b : Bool) → (a || b) ≡ false → (a ≡ false) × (b ≡ false)
or-false false false e = (refl, refl)
or-false false true e = absurd cc
or-false true b e = absurd cc
