-- What a SELECT shows: count and sum are aggregates where ( follows, else names.
use Rattle.std.proofs.Common.{◌≡◌, Bool, true, false, List, [], ◌∷◌, ◌++◌, Option, None, Ok, Err, refl, sym, ap, subst, ◌∙◌, inl, inr, ◌⊎◌, cond}
use Rattle.std.specs.Prelude.{codes, ◌||◌}
use Rattle.sql_grammar.specs.declared.error.Limit.{Limit}
use Rattle.sql_grammar.specs.Tokens.{Token, Word, Sign, End, Placed, is}
use Rattle.sql_grammar.specs.Tree.{Name, Chain, Last, More, Items, AllColumns, Columns, Aggregates}
use Rattle.sql_grammar.specs.Grammar.{Marked, mark, plain, good}
use Rattle.sql_grammar.specs.Grammar as grammar
use Rattle.sql_grammar.specs.Reading.{Read, ◌>>=◌, Stop, first, rest, name, with_commas, at_aggregate}
use Rattle.sql_grammar.specs.Reading as reading
use Rattle.sql_reader.proofs.Laws.{Stops, HasEnd, Agrees, IsOver, Heads, head_of, closed, same_token, same_rest, mapped, choice, both, also, weaken}
use Rattle.sql_reader.proofs.TokenLaws.{names, is_same}
use Rattle.sql_reader.proofs.ListLaws.{past, past_name, at_last, commas, or_comma}
use Rattle.sql_grammar.specs.declared.statement.Aggregate.{Aggregate}
use Rattle.sql_grammar.specs.declared.statement.Aggregate.TheVariants.{Count, Total}

-- ---- one of two, told by the first two tokens

module _ {A B T : Type 0} (treeA : A → T) (treeB : B → T) (spA : A → List Marked) (spB : B → List Marked) (on : Token → Bool) (ts : List Placed)
    (stops_end : on End ≡ false) (not_empty : (a : A) → spA a ≡ [] → ⊥)
    (by_one : (t : Placed) (after : List Placed) → ts ≡ t ∷ after → (j : B) (more : List Marked) (m : Option Limit) (w : List Marked) → Stops on more
    → spB j ++ more ≡ mark t.token m ∷ w → (i : A) × (w' : List Marked) × (spA i ≡ plain t.token ∷ w'))
    (by_two : (p q : Placed) (after : List Placed) → ts ≡ p ∷ (q ∷ after) → (j : B) (more : List Marked) (m : Option Limit) (w : List Marked)
    → Stops on more → spB j ++ more ≡ plain p.token ∷ (mark q.token m ∷ w) → ⊥) where
  -- past the first token no other tree goes on so
  excluded : (p : Placed) (front : List Placed) (t : Placed) (after : List Placed) → ts ≡ p ∷ (front ++ (t ∷ after))
      → (j : B) (more : List Marked) (m : Option Limit) (w : List Marked) → Stops on more
      → spB j ++ more ≡ plain p.token ∷ (good front ++ (mark t.token m ∷ w)) → ⊥
  excluded p front t after e j more m w stop eq =
      let hd = head_of front (front ++ (t ∷ after)) t after m w refl in
      by_two p hd.here hd.after (e ∙ ap (λ (us : List Placed). p ∷ us) hd.is) j more hd.over hd.tail stop (eq
      ∙ ap (λ (ms : List Marked). plain p.token ∷ ms) hd.same)

  pub the_first : (r : Read T) → Agrees treeA spA on ts r → Agrees {I = A ⊎ B} (both treeA treeB) (both spA spB) on ts r
  the_first (Ok x) h = record {
    index = inl h.index;
    is = h.is;
    front = h.front;
    parts = h.parts;
    spelled = h.spelled;
    ended = h.ended;
    only = λ t after l j more m w stop eq. elim j as (λ j. both spA spB j ++ more ≡ good h.front ++ (mark t.token m ∷ w) → both treeA treeB j ≡ treeA h.index) [
      | inl a ↦ λ eq. h.only t after l a more m w stop eq
      | inr b ↦ λ eq. absurd (go h.front t after (h.parts ∙ ap (λ (us : List Placed). h.front ++ us) l) h.spelled b more m w stop eq)
    ] eq;
  }
    where
      go : (front : List Placed) (t : Placed) (after : List Placed) → ts ≡ front ++ (t ∷ after) → spA h.index ≡ good front
          → (b : B) (more : List Marked) (m : Option Limit) (w : List Marked) → Stops on more → spB b ++ more ≡ good front ++ (mark t.token m ∷ w) → ⊥
      go [] t after e s b more m w stop eq = not_empty h.index s
      go (p ∷ front) t after e s b more m w stop eq = excluded p front t after e b more m w stop eq
  the_first (Err s) h = record {
    front = h.front;
    after = h.after;
    parts = h.parts;
    index = inl h.index;
    tail = h.tail;
    opens = h.opens;
    never = λ j more m w stop eq. elim j as (λ j. both spA spB j ++ more ≡ good h.front ++ (mark s.here.token m ∷ w) → IsOver m s.why) [
      | inl a ↦ λ eq. h.never a more m w stop eq
      | inr b ↦ λ eq. absurd (go h.front refl b more m w stop eq)
    ] eq;
    may = λ l why. let x = h.may l why in (inl x.0, x.1, x.2);
  }
    where
      go : (front : List Placed) → h.front ≡ front → (b : B) (more : List Marked) (m : Option Limit) (w : List Marked) → Stops on more → spB b ++ more
          ≡ good h.front ++ (mark s.here.token m ∷ w) → ⊥
      go [] f b more m w stop eq =
          let none : good h.front ≡ [] = ap good f in
          let start : ts ≡ s.here ∷ h.after = h.parts ∙ ap (λ (us : List Placed). us ++ (s.here ∷ h.after)) f in
          let x = by_one s.here h.after start b more m w stop (eq ∙ ap (λ (ms : List Marked). ms ++ (mark s.here.token m ∷ w)) none) in
          h.never x.0 (plain End ∷ []) None (x.1 ++ (plain End ∷ [])) stops_end (ap (λ (ms : List Marked). ms ++ (plain End ∷ [])) x.2
          ∙ ap (λ (ms : List Marked). ms ++ (plain s.here.token ∷ (x.1 ++ (plain End ∷ [])))) (sym none))
      go (p ∷ front) f b more m w stop eq =
          excluded p front s.here h.after (h.parts ∙ ap (λ (us : List Placed). us ++ (s.here ∷ h.after)) f) b more m w stop (eq
          ∙ ap (λ (us : List Placed). good us ++ (mark s.here.token m ∷ w)) f)

-- ---- aggregates

count_law : (ts : List Placed) → HasEnd ts → Agrees {I = Unit {0}} (λ u. Count) (λ u. grammar.aggregate Count) closed ts (reading.count_all ts)
count_law ts ends =
    past (Word (codes "count")) refl refl (λ (u : Unit {0}). Count)
    (λ u. plain (Sign (codes "(")) ∷ plain (Sign (codes "*")) ∷ plain (Sign (codes ")")) ∷ []) closed ts _ tt ends
    (λ a ha. past (Sign (codes "(")) refl refl (λ (u : Unit {0}). Count) (λ u. plain (Sign (codes "*")) ∷ plain (Sign (codes ")")) ∷ []) closed a.1 _ tt ha
    (λ b hb. past (Sign (codes "*")) refl refl (λ (u : Unit {0}). Count) (λ u. plain (Sign (codes ")")) ∷ []) closed b.1 _ tt hb
    (λ c hc. at_last (Sign (codes ")")) refl refl Count closed c.1 hc)))

abbrev TotalIndex : Type 0
TotalIndex = Name × Unit {0}

total_law : (ts : List Placed) → HasEnd ts → Agrees {I = TotalIndex} (λ p. Total p.0) (λ p. grammar.aggregate (Total p.0)) closed ts (reading.sum_of ts)
total_law ts ends =
    past (Word (codes "sum")) refl refl (λ (p : TotalIndex). Total p.0) (λ p. plain (Sign (codes "(")) ∷ plain (Word p.0) ∷ plain (Sign (codes ")")) ∷ [])
    closed ts _ ([], tt) ends
    (λ a ha. past (Sign (codes "(")) refl refl (λ (p : TotalIndex). Total p.0) (λ p. plain (Word p.0) ∷ plain (Sign (codes ")")) ∷ []) closed a.1 _ ([], tt) ha
    (λ b hb. past_name (λ n u. Total n) (λ u. plain (Sign (codes ")")) ∷ []) closed b.1 _ tt hb
    (λ n hn. at_last (Sign (codes ")")) refl refl (Total n.0) closed n.1 hn)))

abbrev of_aggregate : Aggregate → Unit {0} ⊎ TotalIndex
of_aggregate Count = inl tt
of_aggregate (Total n) = inr (n, tt)

abbrev tree_aggregate : Unit {0} ⊎ TotalIndex → Aggregate
tree_aggregate = both (λ u. Count) (λ (p : TotalIndex). Total p.0)

abbrev sp_aggregate : Unit {0} ⊎ TotalIndex → List Marked
sp_aggregate = both (λ u. grammar.aggregate Count) (λ (p : TotalIndex). grammar.aggregate (Total p.0))

aggregate_to : (i : Unit {0} ⊎ TotalIndex) → (tree_aggregate i ≡ tree_aggregate i) × (grammar.aggregate (tree_aggregate i) ≡ sp_aggregate i)
aggregate_to (inl u) = (refl, refl)
aggregate_to (inr p) = (refl, refl)

aggregate_back : (a : Aggregate) → (tree_aggregate (of_aggregate a) ≡ a) × (sp_aggregate (of_aggregate a) ≡ grammar.aggregate a)
aggregate_back Count = (refl, refl)
aggregate_back (Total n) = (refl, refl)

aggregate_law : (ts : List Placed) → HasEnd ts → Agrees {I = Aggregate} (λ a. a) grammar.aggregate closed ts (reading.aggregate ts)
aggregate_law ts ends =
    also tree_aggregate sp_aggregate (λ a. a) grammar.aggregate closed ts _ tree_aggregate of_aggregate aggregate_to aggregate_back
    (choice (λ (u : Unit {0}). Count) (λ (p : TotalIndex). Total p.0) (λ u. grammar.aggregate Count) (λ (p : TotalIndex). grammar.aggregate (Total p.0))
    closed (is (Word (codes "count"))) ts _ _ (λ u more stop. refl) (λ p more stop. refl)
    (λ e. count_law ts ends) (λ e. total_law ts ends))

heads_aggregate : (a : Aggregate) → Heads (λ t. true) true (grammar.aggregate a)
heads_aggregate Count = refl
heads_aggregate (Total n) = refl

-- ---- items

abbrev pub on_items : Token → Bool
on_items t = or_comma closed t || is (Sign (codes "(")) t

comma_stops : (more : List Marked) → Stops on_items more → Stops (or_comma closed) more
comma_stops [] h = h
comma_stops (m ∷ ms) h = go (or_comma closed m.token) h
  where
    go : (b : Bool) → (b || is (Sign (codes "(")) m.token) ≡ false → b ≡ false
    go false e = refl
    go true e = absurd cc

aggregates_law : (ts : List Placed) → HasEnd ts
    → Agrees {I = Chain Aggregate} (λ l. Aggregates l) (grammar.chain grammar.aggregate) on_items ts
    (with_commas (λ k. reading.aggregate) ts >>= λ as'. Ok (Aggregates as'.0, as'.1))
aggregates_law ts ends = mapped (λ l. Aggregates l) (λ l. l) (grammar.chain grammar.aggregate) on_items ts _
    (weaken (λ l. l) (grammar.chain grammar.aggregate) on_items (or_comma closed) ts _ comma_stops
    (commas grammar.aggregate closed reading.aggregate Count heads_aggregate refl aggregate_law ts ends))

columns_law : (ts : List Placed) → HasEnd ts
    → Agrees {I = Chain Name} (λ l. Columns l) (grammar.chain grammar.name) on_items ts (with_commas (λ k. name) ts >>= λ ns. Ok (Columns ns.0, ns.1))
columns_law ts ends = mapped (λ l. Columns l) (λ l. l) (grammar.chain grammar.name) on_items ts _
    (weaken (λ l. l) (grammar.chain grammar.name) on_items (or_comma closed) ts _ comma_stops
    (commas grammar.name closed name [] (λ n. refl) refl (names closed) ts ends))

names_not_empty : (l : Chain Name) → grammar.chain grammar.name l ≡ [] → ⊥
names_not_empty (Last n) e = cc
names_not_empty (More n l) e = cc

aggregates_not_empty : (l : Chain Aggregate) → grammar.chain grammar.aggregate l ≡ [] → ⊥
aggregates_not_empty (Last Count) e = cc
aggregates_not_empty (Last (Total n)) e = cc
aggregates_not_empty (More Count l) e = cc
aggregates_not_empty (More (Total n) l) e = cc

abbrev Lists : Type 0
Lists = Chain Aggregate ⊎ Chain Name

abbrev tree_lists : Lists → Items
tree_lists = both (λ l. Aggregates l) (λ l. Columns l)

abbrev sp_lists : Lists → List Marked
sp_lists = both (grammar.chain grammar.aggregate) (grammar.chain grammar.name)

-- what the test says of two tokens
abbrev counts : Token → Bool
counts t = is (Word (codes "count")) t || is (Word (codes "sum")) t

counts_first : (c o : Bool) → cond c o false ≡ true → (c ≡ true) × (o ≡ true)
counts_first true o e = (refl, e)
counts_first false o e = absurd cc

begun : (t : Token) → counts t ≡ true → (i : Chain Aggregate) × (w : List Marked) × (grammar.chain grammar.aggregate i ≡ plain t ∷ w)
begun t e = go (is (Word (codes "count")) t) (is (Word (codes "sum")) t) refl refl e
  where
    go : (c s : Bool) → is (Word (codes "count")) t ≡ c → is (Word (codes "sum")) t ≡ s → (c || s) ≡ true → (i : Chain Aggregate) × (w : List Marked)
        × (grammar.chain grammar.aggregate i ≡ plain t ∷ w)
    go true s p q k = (
      Last Count,
      _,
      ap (λ (u : Token). plain u ∷ plain (Sign (codes "(")) ∷ plain (Sign (codes "*")) ∷ plain (Sign (codes ")")) ∷ [])
          (sym (is_same (Word (codes "count")) t p)),
    )
    go false true p q k = (
      Last (Total []),
      _,
      ap (λ (u : Token). plain u ∷ plain (Sign (codes "(")) ∷ plain (Word []) ∷ plain (Sign (codes ")")) ∷ []) (sym (is_same (Word (codes "sum")) t q)),
    )
    go false false p q k = absurd cc

-- aggregates, where count ( or sum ( stands
module _ (ts : List Placed) (is_so : at_aggregate ts ≡ true) where
  so_one : (t : Placed) (after : List Placed) → ts ≡ t ∷ after → counts t.token ≡ true
  so_one t after e = let h : at_aggregate (t ∷ after) ≡ true = sym (ap at_aggregate e) ∙ is_so in (counts_first (counts t.token) _ h).0

  so_two : (p q : Placed) (after : List Placed) → ts ≡ p ∷ (q ∷ after) → (j : Chain Name) (more : List Marked) (m : Option Limit) (w : List Marked)
      → Stops on_items more → grammar.chain grammar.name j ++ more ≡ plain p.token ∷ (mark q.token m ∷ w) → ⊥
  so_two p q after e (Last n) more m w stop eq =
      let h : at_aggregate (p ∷ (q ∷ after)) ≡ true = sym (ap at_aggregate e) ∙ is_so in
      let opens : q.token ≡ Sign (codes "(") = is_same (Sign (codes "(")) q.token (counts_first (counts p.token) _ h).1 in
      let next : more ≡ mark q.token m ∷ w = same_rest _ _ _ _ eq in
      let wrong : on_items q.token ≡ false = subst (Stops on_items) next stop in
      let wrong' : true ≡ false = sym (ap on_items opens) ∙ wrong in cc
  so_two p q after e (More n l) more m w stop eq =
      let h : at_aggregate (p ∷ (q ∷ after)) ≡ true = sym (ap at_aggregate e) ∙ is_so in
      let opens : q.token ≡ Sign (codes "(") = is_same (Sign (codes "(")) q.token (counts_first (counts p.token) _ h).1 in
      let next : Sign (codes ",") ≡ q.token = same_token _ _ _ _ _ _ (same_rest _ _ _ _ eq) in
      let wrong : false ≡ true = ap (is (Sign (codes "("))) (next ∙ opens) in cc

-- names, where none of these stands
module _ (ts : List Placed) (is_not : at_aggregate ts ≡ false) where
  no_one : (t : Placed) (j : Chain Aggregate) (more : List Marked) (m : Option Limit) (w : List Marked) → grammar.chain grammar.aggregate j ++ more
      ≡ mark t.token m ∷ w → (i : Chain Name) × (w' : List Marked) × (grammar.chain grammar.name i ≡ plain t.token ∷ w')
  no_one t (Last Count) more m w eq = (Last (codes "count"), [], ap (λ (u : Token). plain u ∷ []) (same_token _ _ _ _ _ _ eq))
  no_one t (Last (Total n)) more m w eq = (Last (codes "sum"), [], ap (λ (u : Token). plain u ∷ []) (same_token _ _ _ _ _ _ eq))
  no_one t (More Count l) more m w eq = (Last (codes "count"), [], ap (λ (u : Token). plain u ∷ []) (same_token _ _ _ _ _ _ eq))
  no_one t (More (Total n) l) more m w eq = (Last (codes "sum"), [], ap (λ (u : Token). plain u ∷ []) (same_token _ _ _ _ _ _ eq))

  is_one : (p q : Placed) (after : List Placed) (u : Token) → ts ≡ p ∷ (q ∷ after) → u ≡ p.token → counts u ≡ true → Sign (codes "(") ≡ q.token → ⊥
  is_one p q after u e f c g =
      let h : at_aggregate (p ∷ (q ∷ after)) ≡ false = sym (ap at_aggregate e) ∙ is_not in
      let c' : counts p.token ≡ true = sym (ap counts f) ∙ c in
      let g' : is (Sign (codes "(")) q.token ≡ true = sym (ap (is (Sign (codes "("))) g) in
      let wrong : true ≡ false = sym (rw (c', g') refl) ∙ h in cc

  no_two : (p q : Placed) (after : List Placed) → ts ≡ p ∷ (q ∷ after) → (j : Chain Aggregate) (more : List Marked) (m : Option Limit) (w : List Marked)
      → Stops on_items more → grammar.chain grammar.aggregate j ++ more ≡ plain p.token ∷ (mark q.token m ∷ w) → ⊥
  no_two p q after e (Last Count) more m w stop eq =
      is_one p q after (Word (codes "count")) e (same_token _ _ _ _ _ _ eq) refl (same_token _ _ _ _ _ _ (same_rest _ _ _ _ eq))
  no_two p q after e (Last (Total n)) more m w stop eq =
      is_one p q after (Word (codes "sum")) e (same_token _ _ _ _ _ _ eq) refl (same_token _ _ _ _ _ _ (same_rest _ _ _ _ eq))
  no_two p q after e (More Count l) more m w stop eq =
      is_one p q after (Word (codes "count")) e (same_token _ _ _ _ _ _ eq) refl (same_token _ _ _ _ _ _ (same_rest _ _ _ _ eq))
  no_two p q after e (More (Total n) l) more m w stop eq =
      is_one p q after (Word (codes "sum")) e (same_token _ _ _ _ _ _ eq) refl (same_token _ _ _ _ _ _ (same_rest _ _ _ _ eq))

swapped : {A B : Type 0} → A ⊎ B → B ⊎ A
swapped (inl a) = inr a
swapped (inr b) = inl b

lists_law : (ts : List Placed) → HasEnd ts → (b : Bool) → at_aggregate ts ≡ b → Agrees {I = Lists} tree_lists sp_lists on_items ts
    (cond b (with_commas (λ k. reading.aggregate) ts >>= λ as'. Ok (Aggregates as'.0, as'.1)) (with_commas (λ k. name) ts >>= λ ns. Ok (Columns ns.0, ns.1)))
unfolding swapped
lists_law ts ends true e =
    the_first (λ l. Aggregates l) (λ l. Columns l) (grammar.chain grammar.aggregate) (grammar.chain grammar.name) on_items ts refl aggregates_not_empty
    (λ t after k j more m w stop eq. begun t.token (so_one ts e t after k)) (so_two ts e) _ (aggregates_law ts ends)
lists_law ts ends false e =
    also (both (λ l. Columns l) (λ l. Aggregates l)) (both (grammar.chain grammar.name) (grammar.chain grammar.aggregate)) tree_lists sp_lists on_items ts
    _ swapped swapped to back
    (the_first (λ l. Columns l) (λ l. Aggregates l) (grammar.chain grammar.name) (grammar.chain grammar.aggregate) on_items ts refl names_not_empty
    (λ t after k j more m w stop eq. no_one ts e t j more m w eq) (no_two ts e) _ (columns_law ts ends))
  where
    to : (i : Chain Name ⊎ Chain Aggregate) → (tree_lists (swapped i) ≡ both (λ l. Columns l) (λ l. Aggregates l) i)
        × (sp_lists (swapped i) ≡ both (grammar.chain grammar.name) (grammar.chain grammar.aggregate) i)
    to (inl l) = (refl, refl)
    to (inr l) = (refl, refl)

    back : (j : Lists) → (both (λ l. Columns l) (λ l. Aggregates l) (swapped j) ≡ tree_lists j)
        × (both (grammar.chain grammar.name) (grammar.chain grammar.aggregate) (swapped j) ≡ sp_lists j)
    back (inl l) = (refl, refl)
    back (inr l) = (refl, refl)

not_star : (b : Lists) (more : List Marked) → Stops on_items more → Heads (is (Sign (codes "*"))) false (sp_lists b ++ more)
not_star (inl (Last Count)) more stop = refl
not_star (inl (Last (Total n))) more stop = refl
not_star (inl (More Count l)) more stop = refl
not_star (inl (More (Total n) l)) more stop = refl
not_star (inr (Last n)) more stop = refl
not_star (inr (More n l)) more stop = refl

abbrev of_items : Items → Unit {0} ⊎ Lists
of_items AllColumns = inl tt
of_items (Aggregates l) = inr (inl l)
of_items (Columns l) = inr (inr l)

abbrev tree_items : Unit {0} ⊎ Lists → Items
tree_items = both (λ u. AllColumns) tree_lists

abbrev sp_items : Unit {0} ⊎ Lists → List Marked
sp_items = both (λ u. grammar.items AllColumns) sp_lists

items_to : (i : Unit {0} ⊎ Lists) → (tree_items i ≡ tree_items i) × (grammar.items (tree_items i) ≡ sp_items i)
items_to (inl u) = (refl, refl)
items_to (inr (inl l)) = (refl, refl)
items_to (inr (inr l)) = (refl, refl)

items_back : (i : Items) → (tree_items (of_items i) ≡ i) × (sp_items (of_items i) ≡ grammar.items i)
items_back AllColumns = (refl, refl)
items_back (Aggregates l) = (refl, refl)
items_back (Columns l) = (refl, refl)

pub items_law : (ts : List Placed) → HasEnd ts → Agrees {I = Items} (λ i. i) grammar.items on_items ts (reading.items ts)
items_law ts ends =
    also tree_items sp_items (λ i. i) grammar.items on_items ts _ tree_items of_items items_to items_back
    (choice (λ (u : Unit {0}). AllColumns) tree_lists (λ u. grammar.items AllColumns) sp_lists on_items (is (Sign (codes "*"))) ts _ _
    (λ u more stop. refl) not_star
    (λ e. at_last (Sign (codes "*")) refl refl AllColumns on_items ts ends)
    (λ e. lists_law ts ends (at_aggregate ts) refl))
