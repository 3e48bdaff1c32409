-- A reader or writer behind a count of failed calls: what it holds, and what a call leaves.
use Rattle.std.specs.Prelude.{◌≡◌, ℕ, ◌+◌, ◌<◌, ◌≤◌, List, length, take, Option, Some, None, Result, Ok, Err, MatchResult, ⊤}
use Rattle.std.specs.Io.KnownBytes.{Appends, Consumes}
use Rattle.transcripts.specs.declared.counted.Counted.{Counted}
use Rattle.transcripts.specs.declared.counted.ReadError.{ReadError}
use Rattle.transcripts.specs.declared.counted.ReadError.TheVariants.{Fault, NoMemory}

-- the reader or writer itself
abbrev pub inner_of : {T : Type 0} → Counted T → T
inner_of counted = counted.inner

-- how many of its calls have failed
abbrev pub failures_of : {T : Type 0} → Counted T → ℕ
failures_of counted = counted.failures

-- the bytes that a writer holds, where they are known
abbrev pub written : {W : Type 0} → (W → Option (List ℕ)) → Counted W → Option (List ℕ)
written contents out = contents out.inner

-- the bytes that a reader will give, where they are known
abbrev pub unread : {R : Type 0} → (R → Option (List ℕ)) → Counted R → Option (List ℕ)
unread remaining input = remaining input.inner

-- how many calls fail in a call with this answer
abbrev pub faults_of : {X E : Type 0} → Result X E → ℕ
faults_of (Ok x) = 0
faults_of (Err e) = 1

-- how many reads fail in a call with this answer
abbrev pub read_faults_of : {X : Type 0} → Result X ReadError → ℕ
read_faults_of (Ok x) = 0
read_faults_of (Err Fault) = 1
read_faults_of (Err NoMemory) = 0

-- a read that fails has taken fewer bytes than its limit, and one for which memory is wanted no more
abbrev pub IsShortOf : ReadError → ℕ → ℕ → Type 0
IsShortOf Fault limit n = n < limit
IsShortOf NoMemory limit n = n ≤ limit

-- where the bytes to come are known, a front of so many is taken off them, whatever the answer says of it
abbrev pub LosesFront : Option (List ℕ) → Option (List ℕ) → (ℕ → Type 0) → Type 0
LosesFront None new IsLen = ⊤
LosesFront (Some all) new IsLen = (n : ℕ) × IsLen n × Consumes (Some all) new (take n all)

-- known bytes grow by a front of the text, which is not the whole text
abbrev pub AppendsFront : Option (List ℕ) → Option (List ℕ) → List ℕ → Type 0
AppendsFront old new text = (n : ℕ) × (n < length text) × Appends old new (take n text)

-- the writer has the whole text, and no call failed
pub record Wrote {W : Type 0} (contents : W → Option (List ℕ)) (old new : Counted W) (text : List ℕ) : Type 0 where
  pub whole : Appends (written contents old) (written contents new) text
  pub failures : failures_of new ≡ failures_of old

-- the writer has a front of the text, and one call failed
pub record Stopped {W : Type 0} (contents : W → Option (List ℕ)) (old new : Counted W) (text : List ℕ) : Type 0 where
  pub front : AppendsFront (written contents old) (written contents new) text
  pub failures : failures_of new ≡ failures_of old + 1

-- the text is written if the answer is no fault, and else a front of it
abbrev pub Prints : {W X E : Type 0} → (W → Option (List ℕ)) → Counted W → Counted W → Result X E → List ℕ → Type 0
Prints contents old new result text = MatchResult result (λ _. Wrote contents old new text) (λ _. Stopped contents old new text)

-- of some bytes one or more are written if the answer is no fault, and else a front that is not all of them
abbrev pub Takes : {W E : Type 0} → (W → Option (List ℕ)) → Counted W → Counted W → Result ℕ E → List ℕ → Type 0
Takes contents old new result bytes = MatchResult result
    (λ n. (0 < n) × (n ≤ length bytes) × Wrote contents old new (take n bytes))
    (λ _. Stopped contents old new bytes)
