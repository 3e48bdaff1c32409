-- Sessions by their two parts.
use mathlib.Core.List.{IsPrefix}
use Rattle.std.specs.Result.{OnErr, OnOk}
use Rattle.std.specs.Prelude.{All, Result, Ok, Err}
use Rattle.std.proofs.lemmas.List.{map-append, set-get_or}
use Rattle.std.proofs.Common.{◌≡◌, ◌<◌, ◌≤◌, ◌∙◌, refl, sym, ap, subst, arith, ℕ, zero, suc, List, [], ◌∷◌, ◌++◌}
use Rattle.std.proofs.Common.{length, map, length-set, get_or, set, take, replicate, Bool, false, ◌||◌, Option, Some, None, is_some}
use Rattle.event_tree.specs.declared.node.NodeId.{NodeId}
use Rattle.event_tree.specs.Lists.{HasNode, Keeps, list_of}
use Rattle.std.specs.List.{AllZip, list_any}
use Rattle.marked_lists.specs.Versions.{Versions}
use Rattle.marked_logs.specs.Logs.{Logs}
use Rattle.events.specs.declared.event.Event.{Event}
use Rattle.session_steps.specs.declared.point.Rest.{Rest}
use Rattle.session_steps.specs.Stage.{Member, no_member, transcripts_of}
use Rattle.marked_worlds.specs.declared.members.StatusAndRest.{StatusAndRest}
use Rattle.marked_worlds.specs.declared.told.ToldOutcome.{ToldOutcome}
use Rattle.marked_worlds.specs.Told.{AreTold, IsTold, outcomes_of}
use Rattle.marked_worlds.specs.declared.seen.SeenSessions.{SeenSessions}
use Rattle.marked_worlds.specs.Members.{member_of, members_of, no_kept, sessions_of, sessions_seen, with_rest, AreKept, AreWhole, IsSeen, IsWhole, MarkedSessions}

-- what it was told is changed
abbrev pub with_told : (List Event → List Event) → Member → Member
with_told f m = record { state = record { status = m.state.status; transcript = f m.state.transcript }; rest = m.rest }

pub members-count : (logs : List (List Event)) (ks : List StatusAndRest) → IsWhole logs ks → length (members_of logs ks) ≡ length ks
members-count [] [] whole = refl
members-count [] (k ∷ ks) whole = cc
members-count (t ∷ logs) [] whole = cc
members-count (t ∷ logs) (k ∷ ks) whole = ap suc (members-count logs ks (omega (arith, whole)))

-- a session has its parts
pub members-at : (logs : List (List Event)) (ks : List StatusAndRest) (i : ℕ) → IsWhole logs ks → get_or (members_of logs ks) i no_member
    ≡ member_of (get_or logs i []) (get_or ks i no_kept)
members-at [] [] i whole = refl
members-at [] (k ∷ ks) i whole = cc
members-at (t ∷ logs) [] i whole = cc
members-at (t ∷ logs) (k ∷ ks) zero whole = refl
members-at (t ∷ logs) (k ∷ ks) (suc i) whole = members-at logs ks i (omega (arith, whole))

-- one was told something else
pub members-told : (logs : List (List Event)) (ks : List StatusAndRest) (i : ℕ) (t : List Event) → IsWhole logs ks
    → members_of (set logs i t) ks ≡ set (members_of logs ks) i (member_of t (get_or ks i no_kept))
members-told [] [] i t whole = refl
members-told [] (k ∷ ks) i t whole = cc
members-told (u ∷ logs) [] i t whole = cc
members-told (u ∷ logs) (k ∷ ks) zero t whole = refl
members-told (u ∷ logs) (k ∷ ks) (suc i) t whole = ap (λ ms. member_of u k ∷ ms) (members-told logs ks i t (omega (arith, whole)))

-- or the rest of it is another
pub members-kept : (logs : List (List Event)) (ks : List StatusAndRest) (i : ℕ) (k : StatusAndRest) → IsWhole logs ks
    → members_of logs (set ks i k) ≡ set (members_of logs ks) i (member_of (get_or logs i []) k)
members-kept [] [] i k whole = refl
members-kept [] (q ∷ ks) i k whole = cc
members-kept (u ∷ logs) [] i k whole = cc
members-kept (u ∷ logs) (q ∷ ks) zero k whole = refl
members-kept (u ∷ logs) (q ∷ ks) (suc i) k whole = ap (λ ms. member_of u q ∷ ms) (members-kept logs ks i k (omega (arith, whole)))

-- sessions that have done nothing
pub members-blank : (n : ℕ) → members_of (replicate n []) (replicate n no_kept) ≡ replicate n no_member
members-blank zero = refl
members-blank (suc n) = ap (λ ms. no_member ∷ ms) (members-blank n)

-- what the first so many sessions were told
pub told-first : (logs : List (List Event)) (ks : List StatusAndRest) (n : ℕ) → IsWhole logs ks → transcripts_of (take n (members_of logs ks)) ≡ take n logs
told-first logs ks zero whole = refl
told-first [] [] (suc n) whole = refl
told-first [] (k ∷ ks) (suc n) whole = cc
told-first (t ∷ logs) [] (suc n) whole = cc
told-first (t ∷ logs) (k ∷ ks) (suc n) whole = ap (λ ts. t ∷ ts) (told-first logs ks n (omega (arith, whole)))

-- ---- outcomes that are kept

-- nodes that are kept stand for the same lists
lists-kept : (old new : List (List Event)) (ids : List NodeId) → Keeps old new → All (HasNode old) ids → map (list_of new) ids ≡ map (list_of old) ids
lists-kept old new [] keeps all = refl
lists-kept old new (id ∷ ids) keeps all =
    λ i. (keeps id (all 0 id (omega arith))).1 i ∷ lists-kept old new ids keeps (λ k d lt. all (suc k) d (omega (arith, lt))) i

-- so what was told is told by the same nodes
pub told-kept : (old new : List (List Event)) (kept : List ToldOutcome) → Keeps old new → AreTold old kept → AreTold new kept
told-kept old new kept keeps all k d lt =
    let t = get_or kept k d in
    let is : IsTold old t = all k d lt in
    record {
      inside = λ n id inside. (keeps (get_or t.nodes.items n id) (is.inside n id inside)).0;
      outcome = lists-kept old new t.nodes.items keeps is.inside ∙ is.outcome;
    }

-- and so are the sessions that were noted
nodes-kept : (old new : List (List Event)) (noted : List SeenSessions) → Keeps old new → All (IsSeen old) noted → All (IsSeen new) noted
nodes-kept old new noted keeps all k d lt = λ n id inside. (keeps (get_or (get_or noted k d).nodes.items n id) (all k d lt n id inside)).0

pub seen-kept : (old new : List (List Event)) (noted : List SeenSessions) → Keeps old new → All (IsSeen old) noted
    → map (sessions_seen new) noted ≡ map (sessions_seen old) noted
seen-kept old new [] keeps all = refl
seen-kept old new (s ∷ noted) keeps all = λ i.
    members_of (lists-kept old new s.nodes.items keeps (all 0 s (omega arith)) i) s.kept.items
    ∷ seen-kept old new noted keeps (λ k d lt. all (suc k) d (omega (arith, lt))) i

-- one more comes behind those that were told
pub told-behind : (kept left : List ToldOutcome) (t : ToldOutcome) → left ≡ kept ++ t ∷ [] → IsPrefix (outcomes_of kept) (outcomes_of left)
told-behind kept left t is = (t.outcome ∷ [], sym (ap outcomes_of is ∙ map-append (λ (u : ToldOutcome). u.outcome) kept (t ∷ [])))

-- where the lists stay, what is kept holds of logs of as many sessions
pub still-kept : (old new : Logs Event) (kept : Versions StatusAndRest) (outcomes : List ToldOutcome) (noted : List SeenSessions) → AreKept old kept outcomes noted
    → length new.now ≡ length old.now → new.marked ≡ old.marked → Keeps old.lists new.lists → AreKept new kept outcomes noted
still-kept old new kept outcomes noted are count marked keeps = record {
  whole = record {
    now = count ∙ are.whole.now;
    marked = subst (λ (ms : List (List (List Event))). AllZip IsWhole ms kept.marked) (sym marked) are.whole.marked;
  };
  told = told-kept old.lists new.lists outcomes keeps are.told;
  seen = nodes-kept old.lists new.lists noted keeps are.seen;
}

-- whatever comes of telling one, there are as many
pub told-count : {X Y : Type 0} (r : Result X Y) (old left : List (List Event)) (i : ℕ) (t : List Event) → OnOk r (left ≡ set old i t) → OnErr r (left ≡ old)
    → length left ≡ length old
told-count (Ok x) old left i t put same = ap length put ∙ length-set old i t
told-count (Err y) old left i t put same = ap length same

none-left : (rest : Option Rest) → is_some rest ≡ false → rest ≡ None
none-left None e = refl
none-left (Some rest) e = cc

-- ---- sessions as contracts see them

module _ (logs : Logs Event) (kept : Versions StatusAndRest) (outcomes : List ToldOutcome) (noted : List SeenSessions) (seen : MarkedSessions) (i : ℕ) (whole : AreWhole logs kept) (is : sessions_of logs kept outcomes noted ≡ seen) where
  abbrev told : List Event
  told = get_or logs.now i []

  abbrev own : StatusAndRest
  own = get_or kept.list i no_kept

  pub inside-kept : i < length seen.list → i < length kept.list
  inside-kept lt = subst (λ n. i < n) (members-count logs.now kept.list whole.now)
      (subst (λ (v : MarkedSessions). i < length v.list) (sym is) lt)

  pub inside-logs : i < length seen.list → i < length logs.now
  inside-logs lt = subst (λ n. i < n) (sym whole.now) (inside-kept lt)

  pub up-to-logs : i ≤ length seen.list → i ≤ length logs.now
  up-to-logs le = subst (λ n. i ≤ n) (sym whole.now)
      (subst (λ n. i ≤ n) (members-count logs.now kept.list whole.now) (subst (λ (v : MarkedSessions). i ≤ length v.list) (sym is) le))

  -- all of them
  pub all-kept : i ≡ length seen.list → i ≡ length kept.list
  all-kept all = all ∙ ap (λ (v : MarkedSessions). length v.list) (sym is) ∙ members-count logs.now kept.list whole.now

  pub all-logs : i ≡ length seen.list → i ≡ length logs.now
  all-logs all = all-kept all ∙ sym whole.now

  -- what the first so many were told
  pub first-is : take i logs.now ≡ transcripts_of (take i seen.list)
  first-is = sym (told-first logs.now kept.list i whole.now) ∙ ap (λ (v : MarkedSessions). transcripts_of (take i v.list)) is

  pub member-is : get_or seen.list i no_member ≡ member_of told own
  member-is = ap (λ (v : MarkedSessions). get_or v.list i no_member) (sym is) ∙ members-at logs.now kept.list i whole.now

  -- where nothing is left of a step and nothing was, all stay
  pub rest-stays : (k : StatusAndRest) (rest : Option Rest) → get_or kept.list i no_kept ≡ k → is_some k.rest ≡ false → is_some rest ≡ false
      → seen.list ≡ set seen.list i (with_rest (get_or seen.list i no_member) rest)
  rest-stays k rest there before none =
      let m : Member = get_or seen.list i no_member in
      let was : m.rest ≡ k.rest = ap (λ (n : Member). n.rest) member-is ∙ ap (λ (n : StatusAndRest). n.rest) there in
      let same : m.rest ≡ rest = was ∙ none-left k.rest before ∙ sym (none-left rest none) in
      sym (ap (set seen.list i) (λ j. record { state = m.state; rest = (sym same) j }) ∙ set-get_or seen.list i no_member)

  -- it was told something else
  pub told-by : {X Y : Type 0} (r : Result X Y) (left : List (List Event)) (f : List Event → List Event) → OnOk r (left ≡ set logs.now i (f told))
      → OnOk r (members_of left kept.list ≡ set seen.list i (with_told f (get_or seen.list i no_member)))
  told-by (Ok x) left f put =
      ap (λ gs. members_of gs kept.list) put ∙ members-told logs.now kept.list i (f told) whole.now
      ∙ (λ k. set (is k).list i (with_told f (sym member-is k)))
  told-by (Err y) left f put = tt

  -- the rest of it is another
  pub kept-by : {X Y : Type 0} (r : Result X Y) (left : Versions StatusAndRest) (k : StatusAndRest) (m : Member) → member_of told k ≡ m
      → OnOk r (left ≡ record kept { list = set kept.list i k }) → OnOk r (members_of logs.now left.list ≡ set seen.list i m)
  kept-by (Ok x) left k m same put =
      ap (λ (v : Versions StatusAndRest). members_of logs.now v.list) put ∙ members-kept logs.now kept.list i k whole.now
      ∙ (λ j. set (is j).list i (same j))
  kept-by (Err y) left k m same put = tt

-- ---- lists

-- what is found among the images of items is found among the items
pub any-mapped : {A B : Type 0} (f : B → Bool) (g : A → B) (xs : List A) → list_any (λ x. f (g x)) xs ≡ list_any f (map g xs)
any-mapped f g [] = refl
any-mapped f g (x ∷ xs) = ap (λ b. f (g x) || b) (any-mapped f g xs)
