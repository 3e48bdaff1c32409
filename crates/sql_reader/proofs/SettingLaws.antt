-- SET is read as it is spelled, in the one of its two readings that gets further.
use Rattle.std.proofs.Common.{◌≡◌, Bool, true, false, List, [], ◌∷◌, ◌++◌, Option, Some, None, Ok, Err, refl, sym, ap, subst, ◌∙◌, append_assoc, inl, inr}
use Rattle.std.proofs.Common.{◌⊎◌, cond}
use Rattle.std.specs.Prelude.{codes, ◌||◌, ◌&&◌}
use Rattle.std.proofs.lemmas.List.{append-nil, append_cancel_left}
use Rattle.sql_grammar.specs.declared.error.Limit.{Limit}
use Rattle.sql_grammar.specs.Tokens.{Token, Key, Word, Sign, Number, Text, End, Placed, is, is_last}
use Rattle.sql_grammar.specs.Tree.{Name, Statement, Set}
use Rattle.sql_grammar.specs.Grammar.{Marked, mark, plain, good}
use Rattle.sql_grammar.specs.Grammar as grammar
use Rattle.sql_grammar.specs.Reading.{Read, ◌>>=◌, Stop, halt, first, rest, at, taken, inside, is_name, has_scope, statement_end, setting_after, scoped_setting}
use Rattle.sql_grammar.specs.Reading as reading
use Rattle.sql_reader.proofs.Laws.{Stops, HasEnd, Agrees, IsOver, Heads, heads-append, closed, stops_closed, same_token, same_rest, good-append, then}
use Rattle.sql_reader.proofs.Laws.{mapped, also, both}
use Rattle.sql_reader.proofs.TokenLaws.{one_of, is_same}
use Rattle.sql_reader.proofs.ListLaws.{past, past_name}
use Rattle.sql_reader.proofs.ExpressionLaws.{factor_law, heads_factor}
use Rattle.sql_grammar.specs.declared.expression.Literal.TheVariants.{Whole, Quoted}
use Rattle.sql_grammar.specs.declared.expression.Factor.{Factor}
use Rattle.sql_grammar.specs.declared.expression.Factor.TheVariants.{Value, Column}
use Rattle.sql_grammar.specs.declared.statement.Scope.{Scope}
use Rattle.sql_grammar.specs.declared.statement.Scope.TheVariants.{Local, Session}
use Rattle.sql_grammar.specs.declared.statement.SetSign.{SetSign}
use Rattle.sql_grammar.specs.declared.statement.SetSign.TheVariants.{EqualSign, ToWord}
use Rattle.sql_grammar.specs.declared.statement.Setting.{Setting}
use Rattle.sql_grammar.specs.declared.error.Why.TheVariants.{CannotStand}

-- ---- the end of a statement

end_law : (ts : List Placed) → HasEnd ts → Agrees {I = Unit {0}} (λ u. u) (λ u. []) inside ts (statement_end ts)
end_law [] ends = absurd ends
end_law (t ∷ ts) ends = go (inside t.token) refl
  where
    go : (b : Bool) → inside t.token ≡ b → Agrees {I = Unit {0}} (λ u. u) (λ u. []) inside (t ∷ ts) (cond b (halt CannotStand (t ∷ ts)) (Ok (tt, t ∷ ts)))
    go false e = record { index = tt; is = refl; front = []; parts = refl; spelled = refl; ended = ends; only = λ u after same j more m w stop eq. refl }
    go true e = record {
      front = [];
      after = ts;
      parts = refl;
      index = tt;
      tail = [];
      opens = refl;
      never = λ j more m w stop eq. let f : inside t.token ≡ false = subst (Stops inside) eq stop in absurd cc;
      may = λ l why. absurd cc;
    }

-- ---- a setting, behind its scope

abbrev Rest : Type 0
Rest = Name × (SetSign × Factor)

abbrev tree_rest : Option Scope → Rest → Statement
tree_rest s p = Set (record { scope = s; name = p.0; sign = p.1.0; value = p.1.1 })

abbrev sp_rest : Rest → List Marked
sp_rest p = plain (Word p.0) ∷ plain (grammar.set_sign p.1.0) ∷ grammar.factor p.1.1

sign-forth : (s : SetSign) → reading.set_sign (grammar.set_sign s) ≡ Some s
sign-forth EqualSign = refl
sign-forth ToWord = refl

sign_inside : (s : SetSign) → is_last (grammar.set_sign s) ≡ false
sign_inside EqualSign = refl
sign_inside ToWord = refl

rest_law : (s : Option Scope) (ts : List Placed) → HasEnd ts → Agrees {I = Rest} (tree_rest s) sp_rest inside ts (setting_after s ts)
rest_law s ts ends =
    past_name (λ n (q : SetSign × Factor). tree_rest s (n, q)) (λ q. plain (grammar.set_sign q.0) ∷ grammar.factor q.1) inside ts _ (EqualSign, Column []) ends
    (λ n hn. then (λ e v. tree_rest s (
      n.0,
      (e, v),
    )) (λ e. plain (grammar.set_sign e) ∷ []) grammar.factor closed inside n.1 _ _ (Column [])
    (λ j more stop. stops_closed inside (grammar.factor j) more stop)
    (one_of grammar.set_sign ((Sign (codes "="), EqualSign) ∷ (Word (codes "to"), ToWord) ∷ []) EqualSign (
      refl,
      (refl, tt),
    ) sign-forth sign_inside closed n.1 hn)
    (λ e he. also (λ (p : Factor × Unit {0}). tree_rest s (n.0, (e.0, p.0))) (λ p. grammar.factor p.0
    ++ []) (λ v. tree_rest s (n.0, (e.0, v))) grammar.factor inside e.1 _ (λ p. p.0) (λ v. (v, tt)) (λ p. (
      refl,
      sym (append-nil (grammar.factor p.0)),
    )) (λ v. (refl, append-nil (grammar.factor v)))
    (then (λ v u. tree_rest s (
      n.0,
      (e.0, v),
    )) grammar.factor (λ u. []) closed inside e.1 _ _ tt (λ j more stop. stops_closed inside [] more stop) (factor_law closed e.1 he.ended)
    (λ v hv. mapped (λ u. tree_rest s (n.0, (e.0, v.0))) (λ u. u) (λ u. []) inside v.1 _ (end_law v.1 hv.ended)))))

scope_token : Scope → Token
scope_token Local = Word (codes "local")
scope_token Session = Word (codes "session")

abbrev Scoped : Type 0
Scoped = Scope × Rest

abbrev tree_scoped : Scoped → Statement
tree_scoped p = tree_rest (Some p.0) p.1

sp_scoped : Scoped → List Marked
sp_scoped p = plain (scope_token p.0) ∷ sp_rest p.1

scope-forth : (s : Scope) → reading.scope (scope_token s) ≡ Some s
unfolding scope_token
scope-forth Local = refl
scope-forth Session = refl

scope_inside : (s : Scope) → is_last (scope_token s) ≡ false
unfolding scope_token
scope_inside Local = refl
scope_inside Session = refl

scoped_law : (ts : List Placed) → HasEnd ts → Agrees tree_scoped sp_scoped inside ts (scoped_setting ts)
unfolding scope_token sp_scoped
scoped_law ts ends =
    then (λ s p. tree_rest (Some s) p) (λ s. plain (scope_token s) ∷ []) sp_rest closed inside ts _ _ (
      [],
      (EqualSign, Column []),
    ) (λ j more stop. stops_closed inside (sp_rest j) more stop)
    (one_of scope_token ((Word (codes "local"), Local) ∷ (Word (codes "session"), Session) ∷ []) Local (
      refl,
      (refl, tt),
    ) scope-forth scope_inside closed ts ends)
    (λ x h. rest_law (Some x.0) x.1 h.ended)

-- ---- one of two, told by a longer front

-- two fronts of one list: the one ends within the other, or goes on to its next token
record Within (front pre : List Placed) (t : Placed) : Type 0 where
  more : List Placed
  is : pre ≡ front ++ (t ∷ more)

record Beyond (front pre : List Placed) (t q : Placed) : Type 0 where
  over : Option Limit → Option Limit
  tail : Option Limit → List Marked → List Marked
  same : (m : Option Limit) (w : List Marked) → good front ++ (mark t.token m ∷ w) ≡ good pre ++ (mark q.token (over m) ∷ tail m w)

compared : (front pre : List Placed) (t q : Placed) (a b : List Placed) → front ++ (t ∷ a) ≡ pre ++ (q ∷ b) → Within front pre t ⊎ Beyond front pre t q
compared [] [] t q a b e = let s : t ≡ q = cc in inr (record { over = λ m. m; tail = λ m w. w; same = λ m w. ap (λ (p : Placed). mark p.token m ∷ w) s })
compared [] (p ∷ pre) t q a b e = let s : t ≡ p = cc in inl (record { more = pre; is = ap (λ (x : Placed). x ∷ pre) (sym s) })
compared (f ∷ front) [] t q a b e = let s : f ≡ q = cc in
    inr (record {
      over = λ m. None;
      tail = λ m w. good front ++ (mark t.token m ∷ w);
      same =
          λ m w. ap (λ (p : Placed). plain p.token ∷ (good front ++ (mark t.token m ∷ w))) s;
    })
compared (f ∷ front) (p ∷ pre) t q a b e =
    let s : f ≡ p = cc in
    let r : front ++ (t ∷ a) ≡ pre ++ (q ∷ b) = cc in
    elim (compared front pre t q a b r) [
      | inl x ↦ inl (record { more = x.more; is = ap (λ (us : List Placed). p ∷ us) x.is ∙ ap (λ (y : Placed). y ∷ (front ++ (t ∷ x.more))) (sym s) })
      | inr x ↦ inr (record {
        over = x.over;
        tail = x.tail;
        same = λ m w. ap (λ (y : Placed). plain y.token ∷ (good front ++ (mark t.token m ∷ w))) s
            ∙ ap (λ (ms : List Marked). plain p.token ∷ ms) (x.same m w);
      })
    ]

module _ {A B T : Type 0} (treeA : A → T) (treeB : B → T) (spA : A → List Marked) (spB : B
    → List Marked) (ts pre : List Placed) (q : Placed) (after : List Placed) (parts : ts ≡ pre ++ (q ∷ after))
    (sp : T → List Marked) (spelled : (a : A) → sp (treeA a) ≡ spA a)
    (some : A) (tail : List Marked) (begins : spA some ≡ good pre ++ tail)
    (other : (j : B) (more : List Marked) (m : Option Limit) (w : List Marked) → Stops inside more → spB j ++ more ≡ good pre ++ (mark q.token m ∷ w) → ⊥) where
  goes : (front : List Placed) (t : Placed) (x : Within front pre t) → spA some ≡ good front ++ (plain t.token ∷ (good x.more ++ tail))
  goes front t x = begins ∙ ap (λ (us : List Placed). good us ++ tail) x.is ∙ ap (λ (ms : List Marked). ms ++ tail) (good-append front (t ∷ x.more))
      ∙ append_assoc (good front) (plain t.token ∷ good x.more) tail

  goes_on : (front : List Placed) (t : Placed) (x : Within front pre t) → spA some ++ (plain End ∷ []) ≡ good front
      ++ (plain t.token ∷ ((good x.more ++ tail) ++ (plain End ∷ [])))
  goes_on front t x = ap (λ (ms : List Marked). ms ++ (plain End ∷ [])) (goes front t x)
      ∙ append_assoc (good front) (plain t.token ∷ (good x.more ++ tail)) (plain End ∷ [])

  not_so : (front : List Placed) (t : Placed) → Beyond front pre t q → (b : B) (more : List Marked) (m : Option Limit) (w : List Marked)
      → Stops inside more → spB b ++ more ≡ good front ++ (mark t.token m ∷ w) → ⊥
  not_so front t x b more m w stop eq = other b more (x.over m) (x.tail m w) stop (eq ∙ x.same m w)

  pub the_one : (r : Read T) → Agrees treeA spA inside ts r → Agrees {I = A ⊎ B} (both treeA treeB) (both spA spB) inside ts r
  the_one (Ok x) h = record {
    index = inl h.index;
    is = h.is;
    front = h.front;
    parts = h.parts;
    spelled = h.spelled;
    ended = h.ended;
    only = λ t u l j more m w stop eq. elim j as (λ j. both spA spB j ++ more ≡ good h.front ++ (mark t.token m ∷ w) → both treeA treeB j ≡ treeA h.index) [
      | inl a ↦ λ eq. h.only t u l a more m w stop eq
      | inr b ↦ λ eq. absurd (no t u l b more m w stop eq)
    ] eq;
  }
    where
      no : (t : Placed) (u : List Placed) → x.1 ≡ t ∷ u → (b : B) (more : List Marked) (m : Option Limit) (w : List Marked) → Stops inside more → spB b
          ++ more ≡ good h.front ++ (mark t.token m ∷ w) → ⊥
      no t u l b more m w stop eq = elim (compared h.front pre t q u after (sym (h.parts ∙ ap (λ (us : List Placed). h.front ++ us) l) ∙ parts)) [
        | inl c ↦
            let same : treeA some ≡ treeA h.index = h.only t u l some (plain End ∷ []) None _ refl (goes_on h.front t c) in
            let short : spA some ≡ good h.front = sym (spelled some) ∙ ap sp same ∙ spelled h.index ∙ h.spelled in
            let long : good h.front ++ (plain t.token ∷ (good c.more ++ tail)) ≡ good h.front ++ [] = sym (goes h.front t c) ∙ short
            ∙ sym (append-nil (good h.front)) in
            let wrong : plain t.token ∷ (good c.more ++ tail) ≡ [] = append_cancel_left (good h.front) _ _ long in cc
        | inr c ↦ not_so h.front t c b more m w stop eq
      ]
  the_one (Err s) h = record {
    front = h.front;
    after = h.after;
    parts = h.parts;
    index = inl h.index;
    tail = h.tail;
    opens = h.opens;
    never = λ j more m w stop eq. elim j as (λ j. both spA spB j ++ more ≡ good h.front ++ (mark s.here.token m ∷ w) → IsOver m s.why) [
      | inl a ↦ λ eq. h.never a more m w stop eq
      | inr b ↦ λ eq. absurd (no b more m w stop eq)
    ] eq;
    may = λ l why. let x = h.may l why in (inl x.0, x.1, x.2);
  }
    where
      no : (b : B) (more : List Marked) (m : Option Limit) (w : List Marked) → Stops inside more → spB b ++ more ≡ good h.front ++ (mark s.here.token m ∷ w) → ⊥
      no b more m w stop eq = elim (compared h.front pre s.here q h.after after (sym h.parts ∙ parts)) [
        | inl c ↦ h.never some (plain End ∷ []) None _ refl (goes_on h.front s.here c)
        | inr c ↦ not_so h.front s.here c b more m w stop eq
      ]

-- ---- the two readings

open_list : (ts : List Placed) → HasEnd ts → ts ≡ first ts ∷ rest ts
open_list [] ends = absurd ends
open_list (t ∷ ts) ends = refl

end_later : (ts : List Placed) → HasEnd ts → is_last (first ts).token ≡ false → HasEnd (rest ts)
end_later [] ends e = absurd ends
end_later (t ∷ ts) ends e = subst (λ (b : Bool). cond b (ts ≡ []) (HasEnd ts)) e ends

sp_of : Statement → List Marked
sp_of (Set s) = grammar.setting s
sp_of s = []

of_scoped : (p : Scoped) → sp_of (tree_scoped p) ≡ sp_scoped p
unfolding sp_of sp_scoped scope_token
of_scoped (Local, p) = refl
of_scoped (Session, p) = refl

of_rest : (p : Rest) → sp_of (tree_rest None p) ≡ sp_rest p
unfolding sp_of
of_rest p = refl

to_word : Token
to_word = Word (codes "to")

is_scope : Token → Bool
is_scope t = is (Word (codes "local")) t || is (Word (codes "session")) t

scope_is : (t : Token) → is_scope t ≡ true → (s : Scope) × (t ≡ scope_token s)
unfolding is_scope scope_token
scope_is t e = go (is (Word (codes "local")) t) (is (Word (codes "session")) t) refl refl e
  where
    go : (a b : Bool) → is (Word (codes "local")) t ≡ a → is (Word (codes "session")) t ≡ b → (a || b) ≡ true → (s : Scope) × (t ≡ scope_token s)
    go true b p q k = (Local, is_same (Word (codes "local")) t p)
    go false true p q k = (Session, is_same (Word (codes "session")) t q)
    go false false p q k = absurd cc

scope_is_scope : (s : Scope) → is_scope (scope_token s) ≡ true
unfolding is_scope scope_token
scope_is_scope Local = refl
scope_is_scope Session = refl

scope_name : Scope → Name
scope_name Local = codes "local"
scope_name Session = codes "session"

scope_word : (s : Scope) → scope_token s ≡ Word (scope_name s)
unfolding scope_token scope_name
scope_word Local = refl
scope_word Session = refl

module _ (ts : List Placed) (ends : HasEnd ts) where
  abbrev a : Placed
  a = first ts

  abbrev ts1 : List Placed
  ts1 = rest ts

  abbrev b : Placed
  b = first ts1

  abbrev ts2 : List Placed
  ts2 = rest ts1

  abbrev c : Placed
  c = first ts2

  abbrev ts3 : List Placed
  ts3 = rest ts2

  abbrev d : Placed
  d = first ts3

  abbrev Both : Read Statement → Type 0
  Both r = Agrees {I = Scoped ⊎ Rest} (both tree_scoped (tree_rest None)) (both sp_scoped sp_rest) inside ts r

  abbrev Flipped : Read Statement → Type 0
  Flipped r = Agrees {I = Rest ⊎ Scoped} (both (tree_rest None) tree_scoped) (both sp_rest sp_scoped) inside ts r

  one_front : ts ≡ a ∷ ts1
  one_front = open_list ts ends

  module _ (s : Scope) (at_a : a.token ≡ scope_token s) where
    ends1 : HasEnd ts1
    ends1 = end_later ts ends (ap is_last at_a ∙ scope_inside s)

    two_front : ts ≡ a ∷ (b ∷ ts2)
    two_front = one_front ∙ ap (λ (us : List Placed). a ∷ us) (open_list ts1 ends1)

    -- a name that is not TO behind the scope
    by_name : is to_word b.token ≡ false → is_name b.token ≡ true → Both (scoped_setting ts)
    unfolding sp_scoped to_word
    by_name not_to named =
        the_one tree_scoped (tree_rest None) sp_scoped sp_rest ts (a ∷ []) b ts2 two_front sp_of of_scoped (
          s,
          ([], (EqualSign, Column [])),
        ) (sp_rest ([], (EqualSign, Column [])))
        (ap (λ (t : Token). plain t ∷ sp_rest (
          [],
          (EqualSign, Column []),
        )) (sym at_a)) (λ j more m w stop eq. other j.1.0 (same_token _ _ _ _ _ _ (same_rest _ _ _ _ eq))) _ (scoped_law ts ends)
      where
        other : (g : SetSign) → grammar.set_sign g ≡ b.token → ⊥
        other EqualSign e = let wrong : false ≡ true = ap is_name e ∙ named in cc
        other ToWord e = let wrong : true ≡ false = ap (is (Word (codes "to"))) e ∙ not_to in cc

    -- no name behind the word
    by_no_name : is_name b.token ≡ false → Flipped (setting_after None ts)
    unfolding sp_scoped
    by_no_name no_name =
        the_one (tree_rest None) tree_scoped sp_rest sp_scoped ts (a ∷ []) b ts2 two_front sp_of of_rest (
          scope_name s,
          (EqualSign, Column []),
        ) (plain (Sign (codes "=")) ∷ plain (Word []) ∷ [])
        (ap (λ (t : Token). plain t ∷ plain (Sign (codes "=")) ∷ plain (Word []) ∷ []) (sym (at_a ∙ scope_word s)))
        (λ j more m w stop eq. let e : Word j.1.0 ≡ b.token = same_token _ _ _ _ _ _ (same_rest _ _ _ _ eq) in let wrong : true ≡ false = ap is_name e
        ∙ no_name in cc) _ (rest_law None ts ends)

    module _ (at_b : b.token ≡ to_word) where
      ends2 : HasEnd ts2
      unfolding to_word
      ends2 = end_later ts1 ends1 (ap is_last at_b)

      three_front : ts ≡ (a ∷ b ∷ []) ++ (c ∷ ts3)
      three_front = two_front ∙ ap (λ (us : List Placed). a ∷ b ∷ us) (open_list ts2 ends2)

      -- TO and =
      by_equal : c.token ≡ Sign (codes "=") → Both (scoped_setting ts)
      unfolding sp_scoped to_word
      by_equal at_c = the_one tree_scoped (tree_rest None) sp_scoped sp_rest ts (a ∷ b ∷ []) c ts3 three_front sp_of of_scoped (
        s,
        (codes "to", (EqualSign, Column [])),
      ) (plain (Sign (codes "=")) ∷ plain (Word []) ∷ [])
          (rw (at_a, at_b) refl) (λ j more m w stop eq. other j.1.1 more m w (same_rest _ _ _ _ (same_rest _ _ _ _ eq))) _ (scoped_law ts ends)
        where
          other : (f : Factor) (more : List Marked) (m : Option Limit) (w : List Marked) → grammar.factor f ++ more ≡ mark c.token m ∷ w → ⊥
          other f more m w eq =
              let h : is (Sign (codes "=")) c.token ≡ false =
              subst (Heads (is (Sign (codes "="))) false) eq
              (heads-append _ false (grammar.factor f) more (heads_factor (is (Sign (codes "="))) false (λ n. refl) (λ n. refl) (λ n. refl) refl f)) in
              let wrong : true ≡ false = sym (ap (is (Sign (codes "="))) at_c) ∙ h in cc

      -- TO and neither = nor TO
      by_other : is (Sign (codes "=")) c.token ≡ false → is to_word c.token ≡ false → Flipped (setting_after None ts)
      unfolding sp_scoped to_word
      by_other no_equal no_to =
          the_one (tree_rest None) tree_scoped sp_rest sp_scoped ts (a ∷ b ∷ []) c ts3 three_front sp_of of_rest (
            scope_name s,
            (ToWord, Column []),
          ) (plain (Word []) ∷ [])
          (rw (at_a, at_b, ← scope_word s) refl) (λ j more m w stop eq. other j.1.1.0 (same_token _ _ _ _ _ _ (same_rest _ _ _ _ (same_rest _ _ _ _ eq))))
          _ (rest_law None ts ends)
        where
          other : (g : SetSign) → grammar.set_sign g ≡ c.token → ⊥
          other EqualSign e = let wrong : true ≡ false = ap (is (Sign (codes "="))) e ∙ no_equal in cc
          other ToWord e = let wrong : true ≡ false = ap (is (Word (codes "to"))) e ∙ no_to in cc

      module _ (at_c : c.token ≡ to_word) where
        ends3 : HasEnd ts3
        unfolding to_word
        ends3 = end_later ts2 ends2 (ap is_last at_c)

        four_front : ts ≡ (a ∷ b ∷ c ∷ []) ++ (d ∷ rest ts3)
        four_front = three_front ∙ ap (λ (us : List Placed). a ∷ b ∷ c ∷ us) (open_list ts3 ends3)

        -- TO and TO and more
        by_more : inside d.token ≡ true → Both (scoped_setting ts)
        unfolding sp_scoped to_word
        by_more on = the_one tree_scoped (tree_rest None) sp_scoped sp_rest ts (a ∷ b ∷ c ∷ []) d (rest ts3) four_front sp_of of_scoped (
          s,
          (codes "to", (ToWord, Column [])),
        ) (plain (Word []) ∷ [])
            (rw (at_a, at_b, at_c) refl) (λ j more m w stop eq. other j.1.1 more m w stop (same_rest _ _ _ _ (same_rest _ _ _ _ eq))) _ (scoped_law ts ends)
          where
            other : (f : Factor) (more : List Marked) (m : Option Limit) (w : List Marked) → Stops inside more → grammar.factor f ++ more
                ≡ plain c.token ∷ (mark d.token m ∷ w) → ⊥
            other (Column n) more m w stop eq = let h : inside d.token ≡ false = subst (Stops inside) (same_rest _ _ _ _ eq) stop in cc
            other (Value (Whole true n)) more m w stop eq = let e : Sign (codes "-") ≡ Word (codes "to") = same_token _ _ _ _ _ _ eq ∙ at_c in absurd cc
            other (Value (Whole false n)) more m w stop eq = let e : Number n ≡ Word (codes "to") = same_token _ _ _ _ _ _ eq ∙ at_c in absurd cc
            other (Value (Quoted n)) more m w stop eq = let e : Text n ≡ Word (codes "to") = same_token _ _ _ _ _ _ eq ∙ at_c in absurd cc

        -- TO and TO and the end
        by_end : inside d.token ≡ false → Flipped (setting_after None ts)
        unfolding sp_scoped to_word
        by_end off = the_one (tree_rest None) tree_scoped sp_rest sp_scoped ts (a ∷ b ∷ c ∷ []) d (rest ts3) four_front sp_of of_rest (
          scope_name s,
          (ToWord, Column (codes "to")),
        ) []
            (rw (
              at_a,
              at_b,
              at_c,
              ← scope_word s,
            ) refl) (λ j more m w stop eq. other j.1.1.1 more m w (same_rest _ _ _ _ (same_rest _ _ _ _ (same_rest _ _ _ _ eq)))) _
            (rest_law None ts ends)
          where
            other : (f : Factor) (more : List Marked) (m : Option Limit) (w : List Marked) → grammar.factor f ++ more ≡ mark d.token m ∷ w → ⊥
            other f more m w eq =
                let h : inside d.token ≡ true =
                subst (Heads inside true) eq
                (heads-append inside true (grammar.factor f) more (heads_factor inside true (λ n. refl) (λ n. refl) (λ n. refl) refl f)) in cc

  -- neither LOCAL nor SESSION
  by_no_scope : is_scope a.token ≡ false → Flipped (setting_after None ts)
  unfolding sp_scoped
  by_no_scope other = the_one (tree_rest None) tree_scoped sp_rest sp_scoped ts [] a ts1 one_front sp_of of_rest (
    [],
    (EqualSign, Column []),
  ) (sp_rest ([], (EqualSign, Column []))) refl
      (λ j more m w stop eq. let e : scope_token j.0 ≡ a.token = same_token _ _ _ _ _ _ eq in let wrong : true ≡ false = sym (scope_is_scope j.0)
      ∙ ap is_scope e ∙ other in cc) _ (rest_law None ts ends)

  swapped : Rest ⊎ Scoped → Scoped ⊎ Rest
  swapped (inl p) = inr p
  swapped (inr p) = inl p

  again : Scoped ⊎ Rest → Rest ⊎ Scoped
  again (inl p) = inr p
  again (inr p) = inl p

  flip : (r : Read Statement) → Flipped r → Both r
  unfolding swapped again
  flip r h = also (both (tree_rest None) tree_scoped) (both sp_rest sp_scoped) (both tree_scoped (tree_rest None)) (both sp_scoped sp_rest) inside ts r
      swapped again to back h
    where
      to : (i : Rest ⊎ Scoped) → (both tree_scoped (tree_rest None) (swapped i) ≡ both (tree_rest None) tree_scoped i)
          × (both sp_scoped sp_rest (swapped i) ≡ both sp_rest sp_scoped i)
      to (inl p) = (refl, refl)
      to (inr p) = (refl, refl)

      back : (i : Scoped ⊎ Rest) → (both (tree_rest None) tree_scoped (again i) ≡ both tree_scoped (tree_rest None) i)
          × (both sp_rest sp_scoped (again i) ≡ both sp_scoped sp_rest i)
      back (inl p) = (refl, refl)
      back (inr p) = (refl, refl)

  choose : (S to equal to' on named : Bool) → is_scope a.token ≡ S → is to_word b.token ≡ to → is (Sign (codes "=")) c.token ≡ equal → is to_word c.token
      ≡ to' → inside d.token ≡ on → is_name b.token ≡ named
      → Both (cond (cond S (cond to (equal || (to' && on)) named) false) (scoped_setting ts) (setting_after None ts))
  choose false to equal to' on named p q r s t u = elim to [
    | true ↦ flip _ (by_no_scope p)
    | false ↦ flip _ (by_no_scope p)
  ]
  choose true true true to' on named p q r s t u = let x = scope_is a.token p in
      by_equal x.0 x.1 (is_same to_word b.token q) (is_same (Sign (codes "=")) c.token r)
  choose true true false true true named p q r s t u = let x = scope_is a.token p in by_more x.0 x.1 (is_same to_word b.token q) (is_same to_word c.token s) t
  choose true true false true false named p q r s t u = let x = scope_is a.token p in
      flip _ (by_end x.0 x.1 (is_same to_word b.token q) (is_same to_word c.token s) t)
  choose true true false false on named p q r s t u = let x = scope_is a.token p in flip _ (by_other x.0 x.1 (is_same to_word b.token q) r s)
  choose true false equal to' on true p q r s t u = let x = scope_is a.token p in by_name x.0 x.1 q u
  choose true false equal to' on false p q r s t u = let x = scope_is a.token p in flip _ (by_no_name x.0 x.1 u)

  both_law : Both (cond (has_scope ts) (scoped_setting ts) (setting_after None ts))
  unfolding is_scope to_word
  both_law = choose (is_scope a.token) (is to_word b.token) (is (Sign (codes "=")) c.token) (is to_word c.token) (inside d.token) (is_name b.token) refl
      refl refl refl refl refl

abbrev made : Scoped ⊎ Rest → Setting
made = both (λ (p : Scoped). record { scope = Some p.0; name = p.1.0; sign = p.1.1.0; value = p.1.1.1 }) (λ (p : Rest). record {
  scope = None;
  name = p.0;
  sign = p.1.0;
  value = p.1.1;
})

parted : Option Scope → Rest → Scoped ⊎ Rest
parted None p = inr p
parted (Some s) p = inl (s, p)

setting_to : (i : Scoped ⊎ Rest) → (Set (made i) ≡ both tree_scoped (tree_rest None) i) × (grammar.setting (made i) ≡ both sp_scoped sp_rest i)
unfolding sp_of sp_scoped scope_token
setting_to (inl (Local, p)) = (refl, refl)
setting_to (inl (Session, p)) = (refl, refl)
setting_to (inr p) = (refl, refl)

setting_back : (o : Option Scope) (p : Rest) → (both tree_scoped (tree_rest None) (parted o p) ≡ tree_rest o p)
    × (both sp_scoped sp_rest (parted o p) ≡ grammar.optional grammar.scope o ++ sp_rest p)
unfolding parted sp_scoped scope_token
setting_back None p = (refl, refl)
setting_back (Some Local) p = (refl, refl)
setting_back (Some Session) p = (refl, refl)

pub set_law : (ts : List Placed) → HasEnd ts → Agrees {I = Setting} (λ s. Set s) (λ s. grammar.statement (Set s)) inside ts (reading.set ts)
set_law ts ends =
    past (Key (codes "set")) refl refl (λ (s : Setting). Set s) grammar.setting inside ts _ (record {
      scope = None;
      name = [];
      sign = EqualSign;
      value =
          Column [];
    }) ends
    (λ x hx. also (both tree_scoped (tree_rest None)) (both sp_scoped sp_rest) (λ s. Set s) grammar.setting inside x.1 _ made
    (λ s. parted s.scope (s.name, (s.sign, s.value))) setting_to (λ s. setting_back s.scope (s.name, (s.sign, s.value))) (both_law x.1 hx))
