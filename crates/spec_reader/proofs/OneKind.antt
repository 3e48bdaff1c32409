-- What is wrong with a token after these tokens is one kind, by tests at the place that they lead to.
use Rattle.std.proofs.Common.{◌≡◌, Bool, true, false, cond, List, Some, None, Result, Ok, Err, refl, sym, inl, inr, ◌⊎◌}
use Rattle.std.specs.Prelude.{not, ◌&&◌, ◌||◌, is_ok}
use Rattle.spec_reader.specs.declared.error.Kind.{Kind}
use Rattle.spec_reader.specs.declared.error.Kind.TheVariants.{NotUtf8, BadToken, Unclosed, Misplaced, NoStep, DuplicateStep, DuplicateSession, UnknownStep}
use Rattle.spec_reader.specs.declared.error.Kind.TheVariants.{TooLarge, NoMemory}
use Rattle.spec_reader.specs.Tokens.{Token, SessionWord, StepWord, PermutationWord, End, NoToken, NotClosed}
use Rattle.spec_reader.specs.Fault.{Form, Limits, MayCome, IsMissing, IsNoToken, EndsSteps, EndsSessions, IsKind, name_fault}
use Rattle.spec_reader.specs.Reading.{State, Head, HeadSetup, HeadTeardown, SessionBegun, Headed, HeadedSetup, HeadedTeardown, StepBegun, StepNamed}
use Rattle.spec_reader.specs.Reading.{Stepped, LastTeardown, Sessioned, LineBegun, ItemNamed, MarkerBegun, MarkerNamed, Noticed, Marked, ItemDone, Whole}
use Rattle.spec_reader.specs.Reading.{next}
use Rattle.spec_reader.proofs.Faults.{never, can, Here}
use Rattle.byte_runs.proofs.RunLemmas.{or_true}

-- ---- what is wrong, by tests

abbrev pub is_no_token : Token → Bool
is_no_token NoToken = true
is_no_token t = false

abbrev pub is_not_closed : Token → Bool
is_not_closed NotClosed = true
is_not_closed t = false

abbrev pub ends_sessions : Token → Bool
ends_sessions End = true
ends_sessions PermutationWord = true
ends_sessions t = false

abbrev pub ends_steps : Token → Bool
ends_steps SessionWord = true
ends_steps t = ends_sessions t

-- by the form the token may come at the place
abbrev pub takes : State → Token → Bool
takes q t = is_ok (next Form q t)

-- a session or a step is missing
abbrev pub missing : Bool → Bool → Bool → Bool → Bool → Bool
missing es st s p e = (es && (s && not e)) || (st && (p && not e))

abbrev pub is_missing : State → Token → Bool
is_missing q t = missing (ends_sessions t) (ends_steps t) (takes q SessionWord) (takes q StepWord) (takes q End)

-- the kind, by these tests in their order
abbrev pub kind_by : Bool → Bool → Bool → Bool → Bool → Kind → Kind
kind_by no_token not_closed lacks form limits named =
    cond no_token BadToken (cond not_closed Unclosed (cond lacks NoStep (cond form (cond limits named TooLarge) Misplaced)))

-- a token that may come lacks nothing
takes_all : (q : State) (t : Token) → takes q t ≡ true → is_missing q t ≡ false
takes_all (Head bs None) End e = absurd cc
takes_all (Head bs None) PermutationWord e = absurd cc
takes_all (Head bs None) SessionWord e = refl
takes_all (Head bs None) t e = refl
takes_all (Head bs (Some b)) End e = absurd cc
takes_all (Head bs (Some b)) PermutationWord e = absurd cc
takes_all (Head bs (Some b)) SessionWord e = refl
takes_all (Head bs (Some b)) t e = refl
takes_all (HeadSetup a) End e = absurd cc
takes_all (HeadSetup a) PermutationWord e = absurd cc
takes_all (HeadSetup a) SessionWord e = absurd cc
takes_all (HeadSetup a) t e = refl
takes_all (HeadTeardown a) End e = absurd cc
takes_all (HeadTeardown a) PermutationWord e = absurd cc
takes_all (HeadTeardown a) SessionWord e = absurd cc
takes_all (HeadTeardown a) t e = refl
takes_all (SessionBegun a b) End e = absurd cc
takes_all (SessionBegun a b) PermutationWord e = absurd cc
takes_all (SessionBegun a b) SessionWord e = absurd cc
takes_all (SessionBegun a b) t e = refl
takes_all (Headed a b c None None) End e = absurd cc
takes_all (Headed a b c None None) PermutationWord e = absurd cc
takes_all (Headed a b c None None) SessionWord e = absurd cc
takes_all (Headed a b c None None) t e = refl
takes_all (Headed a b c (Some d) None) End e = absurd cc
takes_all (Headed a b c (Some d) None) PermutationWord e = absurd cc
takes_all (Headed a b c (Some d) None) SessionWord e = absurd cc
takes_all (Headed a b c (Some d) None) t e = refl
takes_all (Headed a b c None (Some f)) End e = absurd cc
takes_all (Headed a b c None (Some f)) PermutationWord e = absurd cc
takes_all (Headed a b c None (Some f)) SessionWord e = absurd cc
takes_all (Headed a b c None (Some f)) t e = refl
takes_all (Headed a b c (Some d) (Some f)) End e = absurd cc
takes_all (Headed a b c (Some d) (Some f)) PermutationWord e = absurd cc
takes_all (Headed a b c (Some d) (Some f)) SessionWord e = absurd cc
takes_all (Headed a b c (Some d) (Some f)) t e = refl
takes_all (HeadedSetup a b c) End e = absurd cc
takes_all (HeadedSetup a b c) PermutationWord e = absurd cc
takes_all (HeadedSetup a b c) SessionWord e = absurd cc
takes_all (HeadedSetup a b c) t e = refl
takes_all (HeadedTeardown a b c d) End e = absurd cc
takes_all (HeadedTeardown a b c d) PermutationWord e = absurd cc
takes_all (HeadedTeardown a b c d) SessionWord e = absurd cc
takes_all (HeadedTeardown a b c d) t e = refl
takes_all (StepBegun a b c d) End e = absurd cc
takes_all (StepBegun a b c d) PermutationWord e = absurd cc
takes_all (StepBegun a b c d) SessionWord e = absurd cc
takes_all (StepBegun a b c d) t e = refl
takes_all (StepNamed a b c d f) End e = absurd cc
takes_all (StepNamed a b c d f) PermutationWord e = absurd cc
takes_all (StepNamed a b c d f) SessionWord e = absurd cc
takes_all (StepNamed a b c d f) t e = refl
takes_all (Stepped a b c d) End e = refl
takes_all (Stepped a b c d) PermutationWord e = refl
takes_all (Stepped a b c d) SessionWord e = refl
takes_all (Stepped a b c d) t e = refl
takes_all (LastTeardown a b c d) End e = absurd cc
takes_all (LastTeardown a b c d) PermutationWord e = absurd cc
takes_all (LastTeardown a b c d) SessionWord e = absurd cc
takes_all (LastTeardown a b c d) t e = refl
takes_all (Sessioned a b) End e = refl
takes_all (Sessioned a b) PermutationWord e = refl
takes_all (Sessioned a b) SessionWord e = refl
takes_all (Sessioned a b) t e = refl
takes_all (LineBegun a b c) End e = absurd cc
takes_all (LineBegun a b c) PermutationWord e = absurd cc
takes_all (LineBegun a b c) SessionWord e = absurd cc
takes_all (LineBegun a b c) t e = refl
takes_all (ItemNamed a b c d f) End e = refl
takes_all (ItemNamed a b c d f) PermutationWord e = refl
takes_all (ItemNamed a b c d f) SessionWord e = absurd cc
takes_all (ItemNamed a b c d f) t e = refl
takes_all (MarkerBegun a b c d f h) End e = absurd cc
takes_all (MarkerBegun a b c d f h) PermutationWord e = absurd cc
takes_all (MarkerBegun a b c d f h) SessionWord e = absurd cc
takes_all (MarkerBegun a b c d f h) t e = refl
takes_all (MarkerNamed a b c d f h i) End e = absurd cc
takes_all (MarkerNamed a b c d f h i) PermutationWord e = absurd cc
takes_all (MarkerNamed a b c d f h i) SessionWord e = absurd cc
takes_all (MarkerNamed a b c d f h i) t e = refl
takes_all (Noticed a b c d f h i) End e = absurd cc
takes_all (Noticed a b c d f h i) PermutationWord e = absurd cc
takes_all (Noticed a b c d f h i) SessionWord e = absurd cc
takes_all (Noticed a b c d f h i) t e = refl
takes_all (Marked a b c d f h i) End e = absurd cc
takes_all (Marked a b c d f h i) PermutationWord e = absurd cc
takes_all (Marked a b c d f h i) SessionWord e = absurd cc
takes_all (Marked a b c d f h i) t e = refl
takes_all (ItemDone a b c d) End e = refl
takes_all (ItemDone a b c d) PermutationWord e = refl
takes_all (ItemDone a b c d) SessionWord e = absurd cc
takes_all (ItemDone a b c d) t e = refl
takes_all (Whole f) End e = absurd cc
takes_all (Whole f) PermutationWord e = absurd cc
takes_all (Whole f) SessionWord e = absurd cc
takes_all (Whole f) t e = refl

-- what is no token comes nowhere
takes_none : (q : State) → (takes q NoToken ≡ false) × (takes q NotClosed ≡ false)
takes_none (Head bs None) = (refl, refl)
takes_none (Head bs (Some b)) = (refl, refl)
takes_none (HeadSetup a) = (refl, refl)
takes_none (HeadTeardown a) = (refl, refl)
takes_none (SessionBegun a b) = (refl, refl)
takes_none (Headed a b c None None) = (refl, refl)
takes_none (Headed a b c (Some d) None) = (refl, refl)
takes_none (Headed a b c None (Some f)) = (refl, refl)
takes_none (Headed a b c (Some d) (Some f)) = (refl, refl)
takes_none (HeadedSetup a b c) = (refl, refl)
takes_none (HeadedTeardown a b c d) = (refl, refl)
takes_none (StepBegun a b c d) = (refl, refl)
takes_none (StepNamed a b c d f) = (refl, refl)
takes_none (Stepped a b c d) = (refl, refl)
takes_none (LastTeardown a b c d) = (refl, refl)
takes_none (Sessioned a b) = (refl, refl)
takes_none (LineBegun a b c) = (refl, refl)
takes_none (ItemNamed a b c d f) = (refl, refl)
takes_none (MarkerBegun a b c d f h) = (refl, refl)
takes_none (MarkerNamed a b c d f h i) = (refl, refl)
takes_none (Noticed a b c d f h i) = (refl, refl)
takes_none (Marked a b c d f h i) = (refl, refl)
takes_none (ItemDone a b c d) = (refl, refl)
takes_none (Whole f) = (refl, refl)

is_token : (q : State) (t : Token) → takes q t ≡ true → (is_no_token t ≡ false) × (is_not_closed t ≡ false)
is_token q NoToken e = let none = takes_none q in absurd cc
is_token q NotClosed e = let none = takes_none q in absurd cc
is_token q t e = (refl, refl)

is_some_token : (t : Token) → (IsNoToken t → ⊥) → (is_no_token t ≡ false) × (is_not_closed t ≡ false)
is_some_token NoToken h = absurd (h tt)
is_some_token NotClosed h = absurd (h tt)
is_some_token t h = (refl, refl)

ends_is : (t : Token) → EndsSessions t → (ends_sessions t ≡ true) × (is_no_token t ≡ false) × (is_not_closed t ≡ false)
ends_is End h = (refl, refl, refl)
ends_is PermutationWord h = (refl, refl, refl)
ends_is t h = absurd h

steps_is : (t : Token) → EndsSteps t → (ends_steps t ≡ true) × (is_no_token t ≡ false) × (is_not_closed t ≡ false)
steps_is SessionWord h = (refl, refl, refl)
steps_is End h = (refl, refl, refl)
steps_is PermutationWord h = (refl, refl, refl)
steps_is t h = absurd h

is_ends : (t : Token) → ends_sessions t ≡ true → EndsSessions t
is_ends End h = tt
is_ends PermutationWord h = tt
is_ends t h = absurd cc

is_steps : (t : Token) → ends_steps t ≡ true → EndsSteps t
is_steps SessionWord h = tt
is_steps End h = tt
is_steps PermutationWord h = tt
is_steps t h = absurd cc

missing_by : (es st s p e : Bool) → missing es st s p e ≡ true → ((es ≡ true) × (s ≡ true) × (e ≡ false)) ⊎ ((st ≡ true) × (p ≡ true) × (e ≡ false))
missing_by true true true true true h = absurd cc
missing_by true true true true false h = inl (refl, refl, refl)
missing_by true true true false true h = absurd cc
missing_by true true true false false h = inl (refl, refl, refl)
missing_by true true false true true h = absurd cc
missing_by true true false true false h = inr (refl, refl, refl)
missing_by true true false false true h = absurd cc
missing_by true true false false false h = absurd cc
missing_by true false true true true h = absurd cc
missing_by true false true true false h = inl (refl, refl, refl)
missing_by true false true false true h = absurd cc
missing_by true false true false false h = inl (refl, refl, refl)
missing_by true false false true true h = absurd cc
missing_by true false false true false h = absurd cc
missing_by true false false false true h = absurd cc
missing_by true false false false false h = absurd cc
missing_by false true true true true h = absurd cc
missing_by false true true true false h = inr (refl, refl, refl)
missing_by false true true false true h = absurd cc
missing_by false true true false false h = absurd cc
missing_by false true false true true h = absurd cc
missing_by false true false true false h = inr (refl, refl, refl)
missing_by false true false false true h = absurd cc
missing_by false true false false false h = absurd cc
missing_by false false true true true h = absurd cc
missing_by false false true true false h = absurd cc
missing_by false false true false true h = absurd cc
missing_by false false true false false h = absurd cc
missing_by false false false true true h = absurd cc
missing_by false false false true false h = absurd cc
missing_by false false false false true h = absurd cc
missing_by false false false false false h = absurd cc

module _ (before : List Token) (q : State) (h : Here before q) where
  -- the tests say what may come
  takes_it : (t : Token) → MayCome Form before t → takes q t ≡ true
  takes_it t m = go (next Form q t) refl
    where
      go : (o : Result State Kind) → next Form q t ≡ o → is_ok o ≡ true
      go (Ok x) e = refl
      go (Err k) e = absurd (never Form before q t k h.form e m)

  takes_not : (t : Token) → (MayCome Form before t → ⊥) → takes q t ≡ false
  takes_not t m = go (next Form q t) refl
    where
      go : (o : Result State Kind) → next Form q t ≡ o → is_ok o ≡ false
      go (Ok x) e = absurd (m (can Form before q t x h.same h.held_form e))
      go (Err k) e = refl

  may_come : (t : Token) → takes q t ≡ true → MayCome Form before t
  may_come t m = go (next Form q t) refl m
    where
      go : (o : Result State Kind) → next Form q t ≡ o → is_ok o ≡ true → MayCome Form before t
      go (Ok x) e m = can Form before q t x h.same h.held_form e
      go (Err k) e m = absurd cc

  may_not : (t : Token) → takes q t ≡ false → MayCome Form before t → ⊥
  may_not t e m = let may = takes_it t m in absurd cc

  within_it : (t : Token) → MayCome Limits before t → is_ok (next Limits q t) ≡ true
  within_it t m = go (next Limits q t) refl
    where
      go : (o : Result State Kind) → next Limits q t ≡ o → is_ok o ≡ true
      go (Ok x) e = refl
      go (Err k) e = absurd (never Limits before q t k h.limits e m)

  within_not : (t : Token) → (MayCome Limits before t → ⊥) → is_ok (next Limits q t) ≡ false
  within_not t m = go (next Limits q t) refl
    where
      go : (o : Result State Kind) → next Limits q t ≡ o → is_ok o ≡ false
      go (Ok x) e = absurd (m (can Limits before q t x h.same h.held_limits e))
      go (Err k) e = refl

  lacks : (t : Token) → IsMissing before t → (is_missing q t ≡ true) × (is_no_token t ≡ false) × (is_not_closed t ≡ false)
  lacks t (inl x) =
      let ends = ends_is t x.0 in
      let session = takes_it SessionWord x.1.0 in
      let end = takes_not End x.1.1 in
      (rw (ends.0, session, end) refl, ends.1, ends.2)
  lacks t (inr x) =
      let ends = steps_is t x.0 in
      let step = takes_it StepWord x.1.0 in
      let end = takes_not End x.1.1 in
      (rw (ends.0, step, end) (or_true _), ends.1, ends.2)

  lacks_is : (t : Token) → is_missing q t ≡ true → IsMissing before t
  lacks_is t e = elim (missing_by (ends_sessions t) (ends_steps t) (takes q SessionWord) (takes q StepWord) (takes q End) e) [
    | inl x ↦ inl (is_ends t x.0, (may_come SessionWord x.1, may_not End x.2))
    | inr x ↦ inr (is_steps t x.0, (may_come StepWord x.1, may_not End x.2))
  ]

  lacks_not : (t : Token) → (IsMissing before t → ⊥) → is_missing q t ≡ false
  lacks_not t n = go (is_missing q t) refl
    where
      go : (b : Bool) → is_missing q t ≡ b → b ≡ false
      go true e = absurd (n (lacks_is t e))
      go false e = refl

  abbrev pub the_kind : Token → Kind
  the_kind t = kind_by (is_no_token t) (is_not_closed t) (is_missing q t) (takes q t) (is_ok (next Limits q t)) (name_fault before)

  named : (t : Token) (k : Kind) → MayCome Limits before t → name_fault before ≡ k → k ≡ the_kind t
  named t k l e =
      let form : MayCome Form before t =
      record { rest = l.rest; tree = l.tree; whole = l.whole; keeps = record { parts = l.keeps.parts; limits = tt; names = tt } } in
      let may = takes_it t form in
      let token = is_token q t may in
      rw (token.0, token.1, takes_all q t may, may, within_it t l) (sym e)

  pub decides : (t : Token) (k : Kind) → IsKind before t k → k ≡ the_kind t
  decides t BadToken e = rw e refl
  decides t Unclosed e = rw e refl
  decides t NoStep m = let l = lacks t m in rw (l.1, l.2, l.0) refl
  decides t Misplaced m = let token = is_some_token t m.0 in rw (token.0, token.1, lacks_not t m.2, takes_not t m.1) refl
  decides t TooLarge m =
      let may = takes_it t m.0 in
      let token = is_token q t may in
      rw (token.0, token.1, takes_all q t may, may, within_not t m.1) refl
  decides t DuplicateStep m = named t DuplicateStep m.0 m.1
  decides t DuplicateSession m = named t DuplicateSession m.0 m.1
  decides t UnknownStep m = named t UnknownStep m.0 m.1
  decides t NotUtf8 m = absurd m
  decides t NoMemory m = absurd m
