-- A walk of words or of lines has gone on.
use Rattle.std.proofs.Common.{◌≡◌, refl, sym, ap, ◌∙◌, subst, ℕ, suc, ◌+◌, ◌-◌, ◌<◌, ◌≤◌, Bool, false, List, Some, length, arith}
use Rattle.bound_specs.specs.Spec.{SpecFile, ranks, line_of}
use Rattle.events.specs.declared.event.Event.{Event}
use Rattle.step_reducer.specs.declared.fact.Given.{Given}
use Rattle.step_reducer.specs.declared.word_walk.WordWalk.{WordWalk}
use Rattle.step_reducer.specs.declared.line_walk.LineWalk.{LineWalk}
use Rattle.step_reducer.specs.declared.walk.Walk.{Walk}
use Rattle.step_reducer.specs.declared.walk.Walk.TheVariants.{Words, Lines}
use Rattle.known_worlds.specs.Fronts.{front}
use Rattle.step_reducer.specs.Fronts.{line_before, new_steps, most_steps}
use Rattle.step_reducer.specs.Saying.{Giving, giving_of}
use Rattle.step_reducer.specs.Walks.{AllHave, IsWalk, HasGiven}
use Rattle.step_reducer.specs.Lines.{IsLines, HasRun}
use Rattle.step_reducer.specs.Walking.{IsWords, IsLinesTo, IsWalkOf, IsGoing, walk_at, walk_end, walk_told, moved_to, HasMoved, HasWalked}
use Rattle.step_reducer.specs.Shardwise.{Shardwise, GivesPart, IsOnward}
use Rattle.step_reducer.proofs.Sendings.{words-run}
use Rattle.step_reducer.proofs.Stacks.{stack-later}

-- ---- a walk of a shard is one of the spec, up to the shard's end and maybe further

pub going-of : (file : SpecFile) (reduce : Bool) (first end : ℕ) (w : Walk) → IsWalkOf file reduce first end w → IsGoing file reduce w
going-of file reduce first end (Words w) is = (is.walk, is.reduce_is)
going-of file reduce first end (Lines w) is = (is.walk, is.lines)

pub far-enough : (file : SpecFile) (reduce : Bool) (first end : ℕ) (w : Walk) → IsWalkOf file reduce first end w → end ≤ walk_end file w
far-enough file reduce first end (Words w) is = (let same = is.end_is in omega (arith, same))
far-enough file reduce first end (Lines w) is = is.known

-- one that may be asked for all ranks
pub all-ranks : (file : SpecFile) (reduce : Bool) (first : ℕ) (w : Walk) → IsWalkOf file reduce first (ranks file.run) w → walk_end file w ≡ ranks file.run
all-ranks file reduce first (Words w) is = is.end_is
all-ranks file reduce first (Lines w) is = refl

-- ---- before a later rank

pub going-later : (file : SpecFile) (reduce : Bool) (rank : ℕ) (w : Walk) → walk_at w ≤ rank → IsGoing file reduce w → IsGoing file reduce (moved_to rank w)
going-later file reduce rank (Words w) le is = (
  record {
    tour = is.0.tour;
    table = is.0.table;
    steps = is.0.steps;
    stack = stack-later w.reduce file (w.at - 1) (rank - 1) w.end w.stack (omega (arith, le)) is.0.stack;
  },
  is.1,
)
going-later file reduce rank (Lines w) le is = is

pub end-later : (file : SpecFile) (rank : ℕ) (w : Walk) → walk_end file (moved_to rank w) ≡ walk_end file w
end-later file rank (Words w) = refl
end-later file rank (Lines w) = refl

pub at-later : (rank : ℕ) (w : Walk) → walk_at (moved_to rank w) ≡ rank
at-later rank (Words w) = refl
at-later rank (Lines w) = refl

pub onward-later : (file : SpecFile) (reduce : Bool) (at rank : ℕ) (w : Walk) → at ≤ rank → IsOnward file reduce at w → IsOnward file reduce rank (moved_to rank w)
onward-later file reduce at rank w le is =
    let here = is.here in
    record {
      going = going-later file reduce rank w (omega (arith, le, here)) is.going;
      to = end-later file rank w ∙ is.to;
      here = at-later rank w;
    }

-- ---- behind what it has given

pub words-moved : (file : SpecFile) (reduce : Bool) (end : ℕ) (w : WordWalk) (given : Giving) (v : WordWalk)
    → IsWalk file w → w.reduce ≡ reduce → HasGiven w.stack.top.world.file end w given v → HasMoved file reduce end (Words w) given (Words v)
words-moved file reduce end w given v is reduces gave =
    let gives = subst (λ f. HasGiven f end w given v) is.stack.top.frame.file_is gave in
    record {
      going = (gives.walk, gives.reduce ∙ reduces);
      to = gives.all;
      begin = gives.first;
      some = gives.some;
      few = gives.few;
      one = λ run. gives.one (reduces ∙ words-run reduce file.run is.tour.words run);
      at = gives.at;
      facts = subst (λ b. AllHave b file.run given.run.first given.run.end given.run.fact) reduces gives.facts;
      ran = gives.ran;
    }

pub words-walked : (file : SpecFile) (reduce : Bool) (first end : ℕ) (w : WordWalk) (given : Giving) (v : WordWalk)
    → IsWords file reduce first end w → HasGiven w.stack.top.world.file end w given v → HasWalked file reduce first end (Words w) given (Words v)
words-walked file reduce first end w given v is gave =
    let gives = subst (λ f. HasGiven f end w given v) is.walk.stack.top.frame.file_is gave in
    let few = gives.few in
    let at = gives.at in
    record {
      moved = words-moved file reduce end w given v is.walk is.reduce_is gave;
      walk = record {
        walk = gives.walk;
        reduce_is = gives.reduce ∙ is.reduce_is;
        end_is = gives.all ∙ is.end_is;
        few = omega (arith, few, at);
        follows = λ e. (gives.sent first (is.reduce_is ∙ e) (is.follows e)).1;
      };
      most = gives.most;
      sent_few = gives.sent_few;
      exact = λ run. (let e = words-run reduce file.run is.walk.tour.words run in (gives.sent first (is.reduce_is ∙ e) (is.follows e)).0);
    }

-- the next line is that of the rank, and the steps sent are its new ones
module _ (file : SpecFile) (first end : ℕ) (w : LineWalk) (given : Giving) (v : LineWalk) (is : IsLinesTo file first end w) (ran : HasRun w given v) where
  line-at : v.path.line.items ≡ line_of file.run (first + (w.at - first))
  line-at =
      let from = is.from in
      let here : w.at ≡ first + (w.at - first) = omega (arith, from) in
      ran.line ∙ ap (λ (f : SpecFile). line_of f.run w.at) is.walk.file_is ∙ ap (line_of file.run) here

  line-next : v.path.line.items ≡ line_before file.run first (v.at - first)
  line-next =
      let from = is.from in
      let at = ran.at in
      let more : suc (w.at - first) ≡ v.at - first = omega (arith, from, at) in
      line-at ∙ ap (line_before file.run first) more

  line-sent : given.sent ≡ new_steps file.run first (w.at - first)
  line-sent =
      let sent = ran.sent in
      let len = ap (λ (l : List ℕ). length l) line-at in
      let shared : front w.path.line.items v.path.line.items ≡ front (line_before file.run first (w.at - first)) (line_of file.run (first + (w.at - first))) =
      λ k. front (is.line k) (line-at k) in
      omega (arith, sent, len, shared)

pub lines-moved : (file : SpecFile) (reduce : Bool) (end : ℕ) (w : LineWalk) (given : Giving) (v : LineWalk)
    → IsGoing file reduce (Lines w) → w.at < end → HasRun w given v → HasMoved file reduce end (Lines w) given (Lines v)
lines-moved file reduce end w given v is some ran =
    let same : w.path.world.file ≡ file = is.0.file_is in
    let begin = ran.first in
    let behind = ran.end in
    record {
      going = (subst (λ f. IsLines f v) same ran.lines, is.1);
      to = refl;
      begin = ran.first;
      some = omega (arith, begin, behind);
      few = omega (arith, behind, some);
      one = λ run. omega (arith, begin, behind);
      at = ran.at ∙ sym behind;
      facts = subst (λ (f : SpecFile). AllHave reduce f.run given.run.first given.run.end given.run.fact) same (ran.facts reduce);
      ran = ran.ran;
    }

pub lines-walked : (file : SpecFile) (reduce : Bool) (first end : ℕ) (w : LineWalk) (given : Giving) (v : LineWalk)
    → IsLinesTo file first end w → w.at < end → HasRun w given v → HasWalked file reduce first end (Lines w) given (Lines v)
lines-walked file reduce first end w given v is some ran =
    let same : w.path.world.file ≡ file = is.walk.file_is in
    let from = is.from in
    let at = ran.at in
    let sent = ran.sent in
    let short = ran.short in
    let moved = lines-moved file reduce end w given v (is.walk, is.lines) some ran in
    record {
      moved = moved;
      walk = record {
        walk = moved.going.0;
        lines = is.lines;
        line = line-next file first end w given v is ran;
        from = omega (arith, from, at);
        few = omega (arith, at, some);
        known = is.known;
      };
      most = subst (λ (f : SpecFile). given.sent ≤ most_steps f.run given.run.first given.run.fact) same ran.most;
      sent_few = omega (arith, sent, short);
      exact = λ run. line-sent file first end w given v is ran;
    }

-- ---- a walk that goes on from shard to shard

pub onward-moved : (file : SpecFile) (reduce : Bool) (at end : ℕ) (w : Walk) (given : Giving) (v : Walk) → IsOnward file reduce at w
    → HasMoved file reduce end w given v → IsOnward file reduce given.run.end v
onward-moved file reduce at end w given v is moved = record { going = moved.going; to = moved.to ∙ is.to; here = moved.at }

-- what it gives, and where it stands then
pub part-given : (file : SpecFile) (reduce : Bool) (at end : ℕ) (told : List (List (List Event))) (spent : Bool) (w : Walk) (given : Given) (v : Walk)
    (x : Shardwise) → IsOnward file reduce at w → HasMoved file reduce end w (giving_of (walk_told v) given) v → spent ≡ false
    → (let y : Shardwise = record { file = file; reduce = reduce; at = at; end = end; told = told; spent = spent } in y) ≡ x
    → GivesPart x (record { file = file; reduce = reduce; at = given.run.end; end = end; told = walk_told v; spent = false }) (Some given.run)
part-given file reduce at end told spent w given v x is moved unspent here =
    let same : (let y : Shardwise = record { file = file; reduce = reduce; at = at; end = end; told = told; spent = false } in y) ≡ x =
    (λ k. (let y : Shardwise = record { file = file; reduce = reduce; at = at; end = end; told = told; spent = sym unspent k } in y)) ∙ here in
    subst (λ z. GivesPart z (record { file = file; reduce = reduce; at = given.run.end; end = end; told = walk_told v; spent = false }) (Some given.run)) same
    (record { first = moved.begin ∙ is.here; some = moved.some; few = moved.few; one = moved.one; ran = moved.ran; facts = moved.facts }, refl)
