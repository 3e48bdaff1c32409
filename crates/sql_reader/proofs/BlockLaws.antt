-- The reading of a block answers what the grammar says.
use Rattle.std.proofs.Common.{◌≡◌, ℕ, zero, suc, ◌<◌, Bool, true, false, List, [], ◌∷◌, ◌++◌, length, Option, Some, None, Result, Ok, Err, refl, sym, ap}
use Rattle.std.proofs.Common.{subst, ◌∙◌, append_assoc, inl, inr, ◌⊎◌, arith, cond, drop, ◌≤◌}
use Rattle.std.specs.Prelude.{codes, if◌then◌else◌}
use Rattle.std.proofs.lemmas.List.{append-nil, append_cancel_left, length-append, length-map}
use Rattle.sql_grammar.specs.declared.error.Limit.{Limit}
use Rattle.sql_grammar.specs.declared.error.SqlErrorKind.{SqlErrorKind as Kind}
use Rattle.sql_grammar.specs.Tokens.{Token, Key, Word, Sign, Number, Text, End, NoToken, NotClosed, Placed, is, is_last}
use Rattle.sql_grammar.specs.Tree.{Last, More, Statement, Block}
use Rattle.sql_grammar.specs.Grammar.{Marked, mark, plain, good, spelling, statements, Begins, MayCome, IsWord, IsToken, AtStatement, OnlyOver, CannotCome}
use Rattle.sql_grammar.specs.Grammar.{IsKind, bad_token, unclosed, unsupported, syntax, over, kind_of_limit, Fault, FirstFault}
use Rattle.sql_grammar.specs.Grammar as grammar
use Rattle.sql_grammar.specs.Reading.{Stop, Read, ◌>>=◌, first, rest, at, told, fault_of, kind_of, refused, no_form, and_then, inside, form, begins_form}
use Rattle.sql_grammar.specs.Reading.{statement, maybe_statement, block_of, block}
use Rattle.sql_reader.proofs.Laws.{Stops, HasEnd, Takes, Halts, Agrees, IsOver, Heads, same_token, same_rest, heads-append, good-append}
use Rattle.sql_reader.proofs.TokenLaws.{is_same}
use Rattle.sql_reader.proofs.ListLaws.{maybe, at_end}
use Rattle.sql_reader.proofs.FormLaws.{form_law}
use Rattle.sql_reader.proofs.Inside.{Inside, of_statement, heads_inside, heads_form, starts}
use Rattle.sql_grammar.specs.declared.error.Why.{Why}
use Rattle.sql_grammar.specs.declared.error.Why.TheVariants.{CannotStand, Passes}

-- ---- a statement, or none

abbrev sp : Option Statement → List Marked
sp o = grammar.optional grammar.statement o

maybe_form : List Placed → Read (Option Statement)
maybe_form ts = cond (inside (first ts).token) (form ts >>= λ s. Ok (Some s.0, s.1)) (Ok (None, ts))

maybe_law : (ts : List Placed) → HasEnd ts → Agrees {I = Option Statement} (λ o. o) sp inside ts (maybe_form ts)
unfolding maybe_form
maybe_law ts ends = maybe inside (form ts) grammar.statement inside inside ts heads_inside (λ t e. e) (λ more h. h) ends (λ e. form_law ts ends)

inside_sp : (o : Option Statement) → Inside (sp o)
inside_sp None = tt
inside_sp (Some s) = of_statement s

-- ---- a block begins with a statement or none, and then its end or a semicolon

record Parts (c : Block) : Type 0 where
  item : Option Statement
  more : List Marked
  whole : spelling c ≡ sp item ++ more
  stops : Stops inside more

parts_of : (c : Block) → Parts c
parts_of (Last o) = record { item = o; more = plain End ∷ []; whole = refl; stops = refl }
parts_of (More o c) =
    record {
      item = o;
      more = plain (Sign (codes ";")) ∷ (statements c ++ (plain End ∷ []));
      whole =
          append_assoc (sp o) (plain (Sign (codes ";")) ∷ statements c) (plain End ∷ []);
      stops = refl;
    }

-- no semicolon stands at the end of a front within a statement
not_after : (front : List Placed) (o : Option Statement) (tail : List Marked) → sp o ≡ good front ++ tail → (before : List Placed) (n : ℕ) → front
    ≡ before ++ (record { at = n; token = Sign (codes ";") } ∷ []) → ⊥
not_after front o tail e before n f =
    let g : good front ≡ good before ++ (plain (Sign (codes ";")) ∷ []) = ap good f ∙ good-append before (record { at = n; token = Sign (codes ";") } ∷ []) in
    let whole : sp o ≡ good before ++ (plain (Sign (codes ";")) ∷ tail) = e ∙ ap (λ (ms : List Marked). ms ++ tail) g
    ∙ append_assoc (good before) (plain (Sign (codes ";")) ∷ []) tail in
    go (good before) (subst Inside whole (inside_sp o))
  where
    go : (xs : List Marked) → Inside (xs ++ (plain (Sign (codes ";")) ∷ tail)) → ⊥
    go [] h = let wrong = h.0 in cc
    go (x ∷ xs) h = go xs h.1

-- ---- the kind of a fault

is_token_kind : (front : List Placed) (t : Token) → (IsWord t → AtStatement front → ⊥) → CannotCome front t → IsKind front t (refused t)
is_token_kind front NoToken f g = bad_token refl
is_token_kind front NotClosed f g = unclosed refl
is_token_kind front (Key w) f g = syntax tt f g
is_token_kind front (Word w) f g = syntax tt f g
is_token_kind front (Sign w) f g = syntax tt f g
is_token_kind front (Number w) f g = syntax tt f g
is_token_kind front (Text w) f g = syntax tt f g
is_token_kind front End f g = syntax tt f g

no_form_kind : (front : List Placed) (t : Token) → AtStatement front → CannotCome front t → IsKind front t (no_form t)
no_form_kind front (Key w) f g = unsupported tt f g
no_form_kind front (Word w) f g = unsupported tt f g
no_form_kind front NoToken f g = bad_token refl
no_form_kind front NotClosed f g = unclosed refl
no_form_kind front (Sign w) f g = syntax tt (λ h a. h) g
no_form_kind front (Number w) f g = syntax tt (λ h a. h) g
no_form_kind front (Text w) f g = syntax tt (λ h a. h) g
no_form_kind front End f g = syntax tt (λ h a. h) g

-- ---- a fault in a statement

-- the first token begins a form, or no statement stands here
abbrev Known : List Placed → Type 0
Known ts = (begins_form (first ts).token ≡ true) ⊎ (inside (first ts).token ≡ false)

not_inside_word : (t : Token) → IsWord t → inside t ≡ false → ⊥
not_inside_word t w e = elim (at_end t e) [ inl s ↦ subst IsWord s w | inr s ↦ subst IsWord s w ]

in_form : (ts : List Placed) (s : Stop) → Known ts → Halts {I = Option Statement} (λ o. o) sp inside ts s → FirstFault ts (fault_of s)
in_form ts s known h = record {
  front = h.front;
  here = s.here;
  after = h.after;
  parts = h.parts;
  good = record {
    tree = Last h.index;
    rest = h.tail ++ (plain End ∷ []);
    whole = ap (λ (ms : List Marked). ms ++ (plain End ∷ [])) h.opens
        ∙ append_assoc (good h.front) h.tail (plain End ∷ []);
  };
  bad = λ m. never None m;
  kind = kind_is s.why refl;
  at = refl;
}
  where
    never : (o : Option Limit) → MayCome h.front s.here.token o → IsOver o s.why
    never o m = let p = parts_of m.tree in h.never p.item p.more o m.rest p.stops (sym p.whole ∙ m.whole)

    cannot : s.why ≡ CannotStand → CannotCome h.front s.here.token
    cannot e None m = never None m
    cannot e (Some l) m = subst (IsOver (Some l)) e (never (Some l) m)

    -- a word that begins a form is not refused in the first place
    first_word : (front : List Placed) → h.front ≡ front → front ≡ [] → IsWord s.here.token → ⊥
    first_word front e none w =
        let start : ts ≡ s.here ∷ h.after = h.parts ∙ ap (λ (us : List Placed). us ++ (s.here ∷ h.after)) (e ∙ none) in
        let same : (first ts).token ≡ s.here.token = ap (λ (us : List Placed). (first us).token) start in
        elim known [
          | inl k ↦
              let b = starts s.here.token (sym (ap begins_form same) ∙ k) in
              h.never (Some b.0) (plain End ∷ []) None (b.1 ++ (plain End ∷ [])) refl (ap (λ (ms : List Marked). ms ++ (plain End ∷ [])) b.2
              ∙ ap (λ (us : List Placed). good us ++ (plain s.here.token ∷ (b.1 ++ (plain End ∷ [])))) (sym (e ∙ none)))
          | inr k ↦ not_inside_word s.here.token w (sym (ap inside same) ∙ k)
        ]

    not_here : IsWord s.here.token → AtStatement h.front → ⊥
    not_here w (inl e) = first_word h.front refl e w
    not_here w (inr b) = not_after h.front h.index h.tail h.opens b.0 b.1 b.2

    kind_is : (why : Why) → s.why ≡ why → IsKind h.front s.here.token (fault_of s).kind
    kind_is CannotStand e =
        subst (λ (y : Why). IsKind h.front s.here.token (kind_of y s.here.token)) (sym e) (is_token_kind h.front s.here.token not_here (cannot e))
    kind_is (Passes l) e = subst (λ (y : Why). IsKind h.front s.here.token (kind_of y s.here.token)) (sym e)
        (over l (let x = h.may l e in (
          record {
            tree = Last x.0;
            rest = x.1 ++ (plain End ∷ []);
            whole = ap (λ (ms : List Marked). ms ++ (plain End ∷ [])) x.2
                ∙ append_assoc (good h.front) (mark s.here.token (Some l) ∷ x.1) (plain End ∷ []);
          },
          λ m. never None m,
        )))

-- ---- blocks

record Spells (ts : List Placed) (b : Block) : Type 0 where
  spelled : spelling b ≡ good ts
  only : (c : Block) → spelling c ≡ good ts → c ≡ b

abbrev BlockAgrees : List Placed → Result Block Fault → Type 0
BlockAgrees ts (Ok b) = Spells ts b
BlockAgrees ts (Err f) = FirstFault ts f

abbrev semicolon : Token
semicolon = Sign (codes ";")

-- a list that ends so, by its last part
ends_so : (xs ys before : List Placed) (y z : Placed) → xs ++ (y ∷ ys) ≡ before ++ (z ∷ []) → (b : List Placed) × (y ∷ ys ≡ b ++ (z ∷ []))
ends_so [] ys before y z e = (before, e)
ends_so (x ∷ xs) ys [] y z e = absurd (none (xs ++ (y ∷ ys)) refl)
  where
    none : (us : List Placed) → xs ++ (y ∷ ys) ≡ us → ⊥
    none [] k = no_nil xs k
      where
        no_nil : (vs : List Placed) → vs ++ (y ∷ ys) ≡ [] → ⊥
        no_nil [] h = cc
        no_nil (v ∷ vs) h = cc
    none (u ∷ us) k = let wrong : x ∷ (u ∷ us) ≡ z ∷ [] = ap (λ (vs : List Placed). x ∷ vs) (sym k) ∙ e in cc
ends_so (x ∷ xs) ys (b ∷ before) y z e = let more : xs ++ (y ∷ ys) ≡ before ++ (z ∷ []) = cc in ends_so xs ys before y z more

module _ (ts : List Placed) (x : Option Statement) (t : Placed) (after : List Placed)
    (h : Takes {I = Option Statement} (λ o. o) sp inside ts x (t ∷ after)) where
  -- the item of any block that goes on so is the one that was read
  item_is : (c : Block) (m : Option Limit) (w : List Marked) → spelling c ≡ good h.front ++ (mark t.token m ∷ w) → ((parts_of c).item ≡ h.index)
      × ((parts_of c).more ≡ mark t.token m ∷ w)
  item_is c m w e =
      let p = parts_of c in
      let eq : sp p.item ++ p.more ≡ good h.front ++ (mark t.token m ∷ w) = sym p.whole ∙ e in
      let same : p.item ≡ h.index = h.only t after refl p.item p.more m w p.stops eq in
      (same, append_cancel_left (good h.front) p.more (mark t.token m ∷ w) (ap (λ (ms : List Marked). ms ++ p.more) (sym (ap sp same ∙ h.spelled)) ∙ eq))

  good_ts : good ts ≡ good h.front ++ (plain t.token ∷ good after)
  good_ts = ap good h.parts ∙ good-append h.front (t ∷ after)

  read_is : sp x ≡ good h.front
  read_is = ap sp h.is ∙ h.spelled

  -- a semicolon: the rest is a block
  module _ (semi : t.token ≡ semicolon) where
    rest_is : (c : Block) (w : List Marked) → spelling c ≡ good h.front ++ (plain t.token ∷ w) → (c' : Block) × (c ≡ More h.index c') × (spelling c' ≡ w)
    unfolding parts_of
    rest_is (Last j) w e = let i = (item_is (Last j) None w e).1 in let wrong : End ≡ t.token = same_token _ _ _ _ _ _ i in absurd cc
    rest_is (More j c') w e = let i = item_is (More j c') None w e in (c', ap (λ (o : Option Statement). More o c') i.0, same_rest _ _ _ _ i.1)

    whole_is : (c : Block) (w : List Marked) → spelling c ≡ w → spelling (More h.index c) ≡ good h.front ++ (plain t.token ∷ w)
    whole_is c w e = append_assoc (sp h.index) (plain semicolon ∷ statements c) (plain End ∷ []) ∙ rw (h.spelled, semi, e) refl

    strip : (front : List Placed) (u : Token) (o : Option Limit) → MayCome (h.front ++ (t ∷ front)) u o → MayCome front u o
    strip front u o m =
        let e : spelling m.tree ≡ good h.front ++ (plain t.token ∷ (good front ++ (mark u o ∷ m.rest))) = m.whole
        ∙ ap (λ (ms : List Marked). ms ++ (mark u o ∷ m.rest)) (good-append h.front (t ∷ front))
        ∙ append_assoc (good h.front) (plain t.token ∷ good front) (mark u o ∷ m.rest) in
        let r = rest_is m.tree (good front ++ (mark u o ∷ m.rest)) e in
        record { tree = r.0; rest = m.rest; whole = r.2 }

    extend : (front : List Placed) (u : Token) (o : Option Limit) → MayCome front u o → MayCome (h.front ++ (t ∷ front)) u o
    extend front u o m = record {
      tree = More h.index m.tree;
      rest = m.rest;
      whole = whole_is m.tree (good front ++ (mark u o ∷ m.rest)) m.whole
          ∙ sym (ap (λ (ms : List Marked). ms ++ (mark u o ∷ m.rest)) (good-append h.front (t ∷ front))
          ∙ append_assoc (good h.front) (plain t.token ∷ good front) (mark u o ∷ m.rest));
    }

    this : t ≡ record { at = t.at; token = semicolon }
    this = ap (λ (u : Token). record { at = t.at; token = u }) semi

    lift : (front : List Placed) → AtStatement front → AtStatement (h.front ++ (t ∷ front))
    lift front (inl e) = inr (h.front, t.at, rw (e, ← this) refl)
    lift front (inr b) =
        inr (
          h.front ++ (t ∷ b.0),
          b.1,
          ap (λ (us : List Placed). h.front ++ (t ∷ us)) b.2
              ∙ sym (append_assoc h.front (t ∷ b.0) (record { at = b.1; token = semicolon } ∷ [])),
        )

    lower : (front : List Placed) → AtStatement (h.front ++ (t ∷ front)) → AtStatement front
    lower [] a = inl refl
    lower (p ∷ front) (inl e) = absurd (no_nil h.front e)
      where
        no_nil : (vs : List Placed) → vs ++ (t ∷ (p ∷ front)) ≡ [] → ⊥
        no_nil [] k = cc
        no_nil (v ∷ vs) k = cc
    lower (p ∷ front) (inr b) =
        let e : (h.front ++ (t ∷ [])) ++ (p ∷ front) ≡ b.0 ++ (record { at = b.1; token = semicolon } ∷ []) = append_assoc h.front (t ∷ []) (p ∷ front) ∙ b.2 in
        let r = ends_so (h.front ++ (t ∷ [])) front b.0 p (record { at = b.1; token = semicolon }) e in
        inr (r.0, b.1, r.1)

    same_kind : (front : List Placed) (u : Token) (k : Kind) → IsKind front u k → IsKind (h.front ++ (t ∷ front)) u k
    same_kind front u k (bad_token e) = bad_token e
    same_kind front u k (unclosed e) = unclosed e
    same_kind front u k (unsupported w a c) = unsupported w (lift front a) (λ o m. c o (strip front u o m))
    same_kind front u k (syntax i f c) = syntax i (λ w a. f w (lower front a)) (λ o m. c o (strip front u o m))
    same_kind front u k (over l p) = over l (extend front u (Some l) p.0, λ m. p.1 (strip front u None m))

    after_semicolon : (r : Result Block Fault) → BlockAgrees after r → BlockAgrees ts (and_then r (λ b. Ok (More x b)))
    after_semicolon (Ok b) q = record {
      spelled = ap (λ (o : Option Statement). spelling (More o b)) h.is ∙ whole_is b (good after) q.spelled ∙ sym good_ts;
      only = λ c e. let r = rest_is c (good after) (e ∙ good_ts) in let same : r.0 ≡ b = q.only r.0 r.2 in r.1 ∙ ap (λ (d : Block). More h.index d) same
          ∙ ap (λ (o : Option Statement). More o b) (sym h.is);
    }
    after_semicolon (Err f) q = record {
      front = h.front ++ (t ∷ q.front);
      here = q.here;
      after = q.after;
      parts = h.parts ∙ ap (λ (us : List Placed). h.front ++ (t ∷ us)) q.parts ∙ sym (append_assoc h.front (t ∷ q.front) (q.here ∷ q.after));
      good = record {
        tree = More h.index q.good.tree;
        rest = q.good.rest;
        whole = whole_is q.good.tree (good q.front ++ q.good.rest) q.good.whole
            ∙ sym (ap (λ (ms : List Marked). ms ++ q.good.rest) (good-append h.front (t ∷ q.front))
            ∙ append_assoc (good h.front) (plain t.token ∷ good q.front) q.good.rest);
      };
      bad = λ m. q.bad (strip q.front q.here.token None m);
      kind = same_kind q.front q.here.token f.kind q.kind;
      at = q.at;
    }

  -- the end
  at_the_end : t.token ≡ End → BlockAgrees ts (Ok (Last x))
  unfolding parts_of
  at_the_end e =
      let nothing_after : after ≡ [] = subst (λ (b : Bool). cond b (after ≡ []) (HasEnd after)) (ap is_last e) h.ended in
      let ts_is : good ts ≡ good h.front ++ (plain End ∷ []) = good_ts ∙ rw (e, nothing_after) refl in
      record {
        spelled = ap (λ (ms : List Marked). ms ++ (plain End ∷ [])) read_is ∙ sym ts_is;
        only = λ c k. one_only c (k ∙ good_ts);
      }
    where
      one_only : (c : Block) → spelling c ≡ good h.front ++ (plain t.token ∷ good after) → c ≡ Last x
      one_only (Last j) k = ap (λ (o : Option Statement). Last o) ((item_is (Last j) None (good after) k).0 ∙ sym h.is)
      one_only (More j c') k = let i = (item_is (More j c') None (good after) k).1 in let wrong : semicolon ≡ t.token = same_token _ _ _ _ _ _ i in absurd cc

  -- another token cannot stand after a statement
  behind : Known ts → is semicolon t.token ≡ false → is End t.token ≡ false → FirstFault ts (record { kind = refused t.token; at = t.at })
  behind known s e = record {
    front = h.front;
    here = t;
    after = after;
    parts = h.parts;
    good = record { tree = Last h.index; rest = plain End ∷ []; whole = ap (λ (ms : List Marked). ms ++ (plain End ∷ [])) h.spelled };
    bad = λ m. cannot None m;
    kind = is_token_kind h.front t.token not_here cannot;
    at = refl;
  }
    where
      is_inside : inside t.token ≡ false → ⊥
      is_inside k = let r = rw (s, e) at k in cc

      cannot : CannotCome h.front t.token
      cannot o m = let i = (item_is m.tree o m.rest m.whole).1 in is_inside (subst (Stops inside) i (parts_of m.tree).stops)

      not_here : IsWord t.token → AtStatement h.front → ⊥
      not_here w (inr b) = not_after h.front h.index [] (h.spelled ∙ sym (append-nil (good h.front))) b.0 b.1 b.2
      not_here w (inl none) =
          let start : ts ≡ t ∷ after = h.parts ∙ ap (λ (us : List Placed). us ++ (t ∷ after)) none in
          let same : (first ts).token ≡ t.token = ap (λ (us : List Placed). (first us).token) start in
          elim known [
            | inl k ↦
                let b = starts t.token (sym (ap begins_form same) ∙ k) in
                let i : Some b.0 ≡ h.index = h.only t after refl (Some b.0) (plain End ∷ []) None (b.1 ++ (plain End ∷ [])) refl
                (ap (λ (ms : List Marked). ms ++ (plain End ∷ [])) b.2
                ∙ ap (λ (us : List Placed). good us ++ (plain t.token ∷ (b.1 ++ (plain End ∷ [])))) (sym none)) in
                let wrong : plain t.token ∷ b.1 ≡ [] = sym b.2 ∙ ap sp i ∙ h.spelled ∙ ap good none in cc
            | inr k ↦ is_inside (sym (ap inside same) ∙ k)
          ]

-- ---- the first statement, by cases

abbrev go_on : ℕ → Option Statement × List Placed → Result Block Fault
go_on n s =
    if at (Sign (codes ";")) s.1 then and_then (block_of n (rest s.1)) (λ b. Ok (More s.0 b))
    else (if at End s.1 then Ok (Last s.0)
    else Err (record { kind = refused (first s.1).token; at = (first s.1).at }))

told_wrapped : {A B : Type 0} (f : A → B) (r : Read A) → and_then {B = B × List Placed} (told r) (λ (s : A × List Placed). Ok (f s.0, s.1))
    ≡ told (◌>>=◌ {B = B × List Placed} r (λ s. Ok (f s.0, s.1)))
told_wrapped f (Ok x) = refl
told_wrapped f (Err s) = refl

-- where the first token begins a form or no statement stands, the reading is that of the forms
same_maybe : (ts : List Placed) → Known ts → maybe_statement ts ≡ told (maybe_form ts)
unfolding maybe_form
same_maybe ts (inr k) = rw k refl
same_maybe ts (inl k) = go (inside (first ts).token)
  where
    go : (i : Bool) → cond i (and_then {B = Option Statement × List Placed} (statement ts) (λ s. Ok (Some s.0, s.1))) (Ok (None, ts))
        ≡ told (cond i (◌>>=◌ {B = Option Statement × List Placed} (form ts) (λ s. Ok (Some s.0, s.1))) (Ok (None, ts)))
    go false = refl
    go true = rw k (told_wrapped (λ (s : Statement). Some s) (form ts))

-- a first token that begins no form where a statement stands
unknown : (ts : List Placed) → HasEnd ts → inside (first ts).token ≡ true → begins_form (first ts).token ≡ false
    → FirstFault ts (record { kind = no_form (first ts).token; at = (first ts).at })
unknown [] ends i b = absurd ends
unknown (t ∷ ts) ends i b = record {
  front = [];
  here = t;
  after = ts;
  parts = refl;
  good = record { tree = Last None; rest = plain End ∷ []; whole = refl };
  bad = λ m. cannot None m;
  kind = no_form_kind [] t.token (inl refl) cannot;
  at = refl;
}
  where
    none : (o : Option Statement) (more : List Marked) (m : Option Limit) (w : List Marked) → Stops inside more → sp o ++ more ≡ mark t.token m ∷ w → ⊥
    none None more m w stop e = let f : inside t.token ≡ false = subst (Stops inside) e stop in cc
    none (Some s) more m w stop e = let f : begins_form t.token ≡ true =
        subst (Heads begins_form true) e (heads-append begins_form true (grammar.statement s) more (heads_form s)) in cc

    cannot : CannotCome [] t.token
    cannot o m = let p = parts_of m.tree in none p.item p.more o m.rest p.stops (sym p.whole ∙ m.whole)

is_known : (ts : List Placed) → Known ts ⊎ ((inside (first ts).token ≡ true) × (begins_form (first ts).token ≡ false))
is_known ts = go (inside (first ts).token) (begins_form (first ts).token) refl refl
  where
    go : (i b : Bool) → inside (first ts).token ≡ i → begins_form (first ts).token ≡ b → Known ts
        ⊎ ((inside (first ts).token ≡ true) × (begins_form (first ts).token ≡ false))
    go false b e f = inl (inr e)
    go true true e f = inl (inl f)
    go true false e f = inr (e, f)

shorter : (ts : List Placed) (x : Option Statement) (t : Placed) (after : List Placed) → Takes {I = Option Statement} (λ o. o) sp inside ts x (t ∷ after)
    → length after < length ts
shorter ts x t after h = omega (arith, ap length h.parts ∙ length-append h.front (t ∷ after))

still : (t : Placed) (after : List Placed) → t.token ≡ semicolon → HasEnd (t ∷ after) → HasEnd after
still t after e h = subst (λ (b : Bool). cond b (after ≡ []) (HasEnd after)) (ap is_last e) h

-- after an item: a semicolon and a block, the end, or a fault
item_read : (n : ℕ) (ts : List Placed) (x : Option Statement) (left : List Placed) → Known ts → Takes {I = Option Statement} (λ o. o) sp inside ts x left
    → ((us : List Placed) → HasEnd us → length us < length ts → BlockAgrees us (block_of n us)) → BlockAgrees ts (go_on n (x, left))
item_read n ts x [] known h ih = absurd h.ended
item_read n ts x (t ∷ after) known h ih = go (is semicolon t.token) (is End t.token) refl refl
  where
    go : (s e : Bool) → is semicolon t.token ≡ s → is End t.token ≡ e
        → BlockAgrees ts (cond s (and_then (block_of n after) (λ b. Ok (More x b))) (cond e (Ok (Last x)) (Err (record { kind = refused t.token; at = t.at }))))
    go true e p q = let semi = is_same semicolon t.token p in
        after_semicolon ts x t after h semi (block_of n after) (ih after (still t after semi h.ended) (shorter ts x t after h))
    go false true p q = at_the_end ts x t after h (is_same End t.token q)
    go false false p q = behind ts x t after h known p q

block_law : (n : ℕ) (ts : List Placed) → HasEnd ts → length ts < n → BlockAgrees ts (block_of n ts)
block_law zero ts ends lt = absurd (omega arith)
block_law (suc n) ts ends lt = go (is_known ts) (maybe_form ts) refl (maybe_law ts ends) (λ us e l. block_law n us e (omega arith))
  where
    go : Known ts ⊎ ((inside (first ts).token ≡ true) × (begins_form (first ts).token ≡ false)) → (r : Read (Option Statement)) → maybe_form ts ≡ r
        → Agrees {I = Option Statement} (λ o. o) sp inside ts r
        → ((us : List Placed) → HasEnd us → length us < length ts → BlockAgrees us (block_of n us)) → BlockAgrees ts (and_then (maybe_statement ts) (go_on n))
    go (inl known) (Ok x) e a ih =
        subst (λ (r : Result (Option Statement × List Placed) Fault). BlockAgrees ts (and_then r (go_on n))) (sym (same_maybe ts known
        ∙ ap (λ (r : Read (Option Statement)). told r) e)) (item_read n ts x.0 x.1 known a ih)
    go (inl known) (Err s) e a ih =
        subst (λ (r : Result (Option Statement × List Placed) Fault). BlockAgrees ts (and_then r (go_on n))) (sym (same_maybe ts known
        ∙ ap (λ (r : Read (Option Statement)). told r) e)) (in_form ts s known a)
    go (inr u) r e a ih = rw (u.0, u.1) (unknown ts ends u.0 u.1)

-- ---- the agreement

-- what is read is spelled so, and passes no limit
pub read_is_spelled : (ts : List Placed) (b : Block) → HasEnd ts → block ts ≡ Ok b → spelling b ≡ good ts
read_is_spelled ts b ends e = let h : Spells ts b = subst (BlockAgrees ts) e (block_law (suc (length ts)) ts ends (omega arith)) in h.spelled

-- what is spelled so, and passes no limit, is read
pub spelled_is_read : (ts : List Placed) (b : Block) → HasEnd ts → spelling b ≡ good ts → block ts ≡ Ok b
spelled_is_read ts b ends e = go (block ts) refl (block_law (suc (length ts)) ts ends (omega arith))
  where
    go : (r : Result Block Fault) → block ts ≡ r → BlockAgrees ts r → block ts ≡ Ok b
    go (Ok c) p q = p ∙ ap (λ (d : Block). Ok d) (sym (q.only b e))
    go (Err f) p q = absurd (q.bad (record { tree = b; rest = good q.after; whole = e ∙ ap good q.parts ∙ good-append q.front (q.here ∷ q.after) }))

-- where the reading stops is the first fault
pub fault_is_first : (ts : List Placed) (f : Fault) → HasEnd ts → block ts ≡ Err f → FirstFault ts f
fault_is_first ts f ends e = subst (BlockAgrees ts) e (block_law (suc (length ts)) ts ends (omega arith))

-- ---- where a statement ends

pub record Left (ts : List Placed) (o : Option Statement) (left : List Placed) : Type 0 where
  pub is : left ≡ drop (length (sp o)) ts
  pub ended : HasEnd left
  pub shorter : length left ≤ length ts

drop-front : (front left : List Placed) → left ≡ drop (length front) (front ++ left)
drop-front [] left = refl
drop-front (p ∷ front) left = drop-front front left

takes-left : (ts : List Placed) (o : Option Statement) (left : List Placed) → Takes {I = Option Statement} (λ o. o) sp inside ts o left → Left ts o left
takes-left ts o left h =
    let len : length (sp o) ≡ length h.front = ap length (ap sp h.is ∙ h.spelled) ∙ length-map h.front (λ (p : Placed). plain p.token) in
    record {
      is = drop-front h.front left ∙ ap (λ (us : List Placed). drop (length h.front) us) (sym h.parts) ∙ ap (λ (n : ℕ). drop n ts) (sym len);
      ended = h.ended;
      shorter = omega (arith, ap length h.parts, length-append h.front left);
    }

told_ok : {A : Type 0} (r : Read A) (x : A × List Placed) → told r ≡ Ok x → r ≡ Ok x
told_ok (Ok y) x e = let same : y ≡ x = cc in ap (λ z. Ok z) same
told_ok (Err s) x e = absurd cc

pub maybe_left : (ts : List Placed) (o : Option Statement) (left : List Placed) → HasEnd ts → maybe_statement ts ≡ Ok (o, left) → Left ts o left
maybe_left ts o left ends e = go (is_known ts)
  where
    go : Known ts ⊎ ((inside (first ts).token ≡ true) × (begins_form (first ts).token ≡ false)) → Left ts o left
    go (inl known) = takes-left ts o left (subst (Agrees {I = Option Statement} (λ o. o) sp inside ts) (told_ok (maybe_form ts) (
      o,
      left,
    ) (sym (same_maybe ts known) ∙ e)) (maybe_law ts ends))
    go (inr u) = absurd (none u.0 u.1)
      where
        none : inside (first ts).token ≡ true → begins_form (first ts).token ≡ false → ⊥
        none i b = let wrong = rw (i, b) at e in cc
