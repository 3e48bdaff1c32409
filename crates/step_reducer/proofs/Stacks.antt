-- What goes on and comes off a stack of frames.
use Rattle.std.proofs.Common.{◌≡◌, refl, sym, ap, ◌∙◌, subst, ℕ, ◌<◌, ◌≤◌, Bool, false, List, [], ◌∷◌, ◌++◌, length, get_or, All, ◌⊎◌, inl, inr, ⊎_elim, arith}
use Rattle.std.proofs.Common.{length-append}
use Rattle.std.proofs.Math.ListN.{get_or-append}
use Rattle.std.proofs.Math.Seq.{get_or-append_seam}
use Rattle.std.proofs.lemmas.List.Elements.{All-push}
use Rattle.perm_ranks.specs.Words.{total}
use Rattle.perm_ranks.specs.Counting.{taken}
use Rattle.perm_ranks.specs.Blocks.{Block, HasRank, end_of, narrowed}
use Rattle.perm_ranks.proofs.BlockLemmas.{narrowed-le}
use Rattle.perm_ranks.proofs.CountLemmas.{total-taken}
use Rattle.bound_specs.specs.Spec.{SpecFile}
use Rattle.events.specs.declared.event.Event.{Event}
use Rattle.step_reducer.specs.declared.frame.Turn.{Turn}
use Rattle.step_reducer.specs.Framed.{Framed, Stacked}
use Rattle.step_reducer.specs.Walks.{IsTurn, HasTurned, IsBefore, lowest, IsAbove, AreAbove, IsStack, HasParted, IsAt, HasGone}
use Rattle.step_reducer.proofs.Turns.{frame-turned}

lowest-push : (fs : List Framed) (f g : Framed) → lowest (fs ++ f ∷ []) g ≡ lowest fs f
lowest-push [] f g = refl
lowest-push (x ∷ fs) f g = refl

all-front : (P : Framed → Type 0) (fs gs : List Framed) → All P (fs ++ gs) → All P fs
all-front P fs gs all = λ k d lt. subst P (get_or-append fs gs d k lt) (all k d (omega (arith, length-append fs gs)))

all-back : (P : Framed → Type 0) (fs : List Framed) (f : Framed) → All P (fs ++ f ∷ []) → P f
all-back P fs f all = subst P (get_or-append_seam fs f [] f) (all (length fs) f (omega (arith, length-append fs (f ∷ []))))

-- ---- frames above one another

above-popped : (at end : ℕ) (fs : List Framed) (f g : Framed) → AreAbove at end (fs ++ f ∷ []) g → AreAbove at end fs f × IsAbove at end f.block g.block
above-popped at end [] f g all = (tt, all.0)
above-popped at end (x ∷ fs) f g all =
    let rest = above-popped at end fs f g all.1 in
    ((subst (λ (h : Framed). IsAbove at end x.block h.block) (lowest-push fs f g) all.0, rest.0), rest.1)

above-pushed : (at end : ℕ) (fs : List Framed) (f g : Framed) → AreAbove at end fs f → IsAbove at end f.block g.block → AreAbove at end (fs ++ f ∷ []) g
above-pushed at end [] f g all one = (one, tt)
above-pushed at end (x ∷ fs) f g all one =
    (subst (λ (h : Framed). IsAbove at end x.block h.block) (sym (lowest-push fs f g)) all.0, above-pushed at end fs f g all.1 one)

-- with another frame on top
above-top : (at end : ℕ) (fs : List Framed) (f g : Framed) → ((b : Block) → IsAbove at end b f.block → IsAbove at end b g.block) → AreAbove at end fs f
    → AreAbove at end fs g
above-top at end [] f g to all = tt
above-top at end (x ∷ []) f g to all = (to x.block all.0, tt)
above-top at end (x ∷ y ∷ fs) f g to all = (all.0, above-top at end (y ∷ fs) f g to all.1)

above-later : (at later end : ℕ) (fs : List Framed) (top : Framed) → at ≤ later → AreAbove at end fs top → AreAbove later end fs top
above-later at later end [] top le all = tt
above-later at later end (x ∷ fs) top le all =
    let one = all.0 in
    let from = one.from in (
      record {
        letter = one.letter;
        left = one.left;
        from = omega
            (arith, le, from);
        within = one.within;
        last = one.last;
      },
      above-later at later end fs top le all.1,
    )

-- a block is above another as the one whose part it is, if it goes as far
above-part : (at end : ℕ) (b c d : Block) → end_of d ≤ end_of c → (end ≤ end_of d) ⊎ (end_of c ≤ end_of d) → IsAbove at end b c → IsAbove at end b d
above-part at end b c d le far one =
    let within = one.within in
    record {
      letter = one.letter;
      left = one.left;
      from = one.from;
      within = omega (arith, le, within);
      last = ⊎_elim inl (λ h. ⊎_elim (λ e. inl (omega (arith, e, h))) (λ e. inr (omega (arith, e, h))) one.last) far;
    }

-- the words with one letter more are above the block
above-narrowed : (at end : ℕ) (b : Block) (letter : ℕ) → 0 < get_or b.left letter 0 → (narrowed b letter).first ≤ at → IsAbove at end b (narrowed b letter)
above-narrowed at end b letter left from = record { letter = letter; left = left; from = from; within = omega arith; last = inr (omega arith) }

-- ---- what comes off the stack

-- the frame below the topmost one, which is let go
pub stack-popped : (reduce : Bool) (file : SpecFile) (at end : ℕ) (x y : Stacked) → x.below ≡ y.below ++ y.top ∷ [] → IsStack reduce file at end x
    → IsStack reduce file at end y
stack-popped reduce file at end x y pops is =
    let all : All (IsBefore reduce file at) (y.below ++ y.top ∷ []) = subst (All (IsBefore reduce file at)) pops is.below in
    record {
      below = all-front (IsBefore reduce file at) y.below (y.top ∷ []) all;
      top = all-back (IsBefore reduce file at) y.below y.top all;
      to = subst (λ (f : Framed). end ≤ end_of f.block) (ap (λ fs. lowest fs x.top) pops ∙ lowest-push y.below y.top x.top) is.to;
      above = (above-popped at end y.below y.top x.top (subst (λ fs. AreAbove at end fs x.top) pops is.above)).0;
    }

-- of the frame below, the words that share one letter more are behind the rank to come
pub parted-popped : (reduce : Bool) (file : SpecFile) (last at end : ℕ) (b : Block) (x y : Stacked) → x.below ≡ y.below ++ y.top ∷ [] → at < end
    → end_of x.top.block ≤ at
    → IsStack reduce file last end x → (x.top.block ≡ b) ⊎ HasParted last at b x.top.block → HasParted last at b y.top.block
parted-popped reduce file last at end b x y pops lt behind is before =
    let one = (above-popped last end y.below y.top x.top (subst (λ fs. AreAbove last end fs x.top) pops is.above)).1 in
    let inside = one.within in
    record {
      letter = one.letter;
      left = one.left;
      from = one.from;
      within = ⊎_elim (λ e. (let same = ap end_of e in omega (arith, same, inside)))
          (λ h. (let within = h.within in omega (arith, inside, within, narrowed-le x.top.block h.letter h.left))) before;
      behind = ⊎_elim (λ h. absurd (omega (arith, h, lt, behind))) (λ h. omega (arith, h, behind)) one.last;
    }

-- where no frame is below, the topmost one has all ranks that are to come
pub stack-alone : (reduce : Bool) (file : SpecFile) (at end : ℕ) (x : Stacked) → x.below ≡ [] → IsStack reduce file at end x → end ≤ end_of x.top.block
stack-alone reduce file at end x none is = subst (λ (fs : List Framed). end ≤ end_of (lowest fs x.top).block) none is.to

before-turned : (reduce : Bool) (file : SpecFile) (at : ℕ) (f g : Framed) (u : Turn) → IsBefore reduce file at f → IsTurn reduce f at u
    → get_or f.swaps u.letter false ≡ false → HasTurned f u g → IsBefore reduce file at g
before-turned reduce file at f g u is turn unlisted done = record {
  frame = frame-turned reduce file f g u at is.frame turn unlisted done;
  from = subst (λ (b : Block). b.first ≤ at) (sym done.block) turn.inside.0;
}

less-turned : (reduce : Bool) (at : ℕ) (f g : Framed) (u : Turn) → IsTurn reduce f at u → HasTurned f u g → total g.block.left < total f.block.left
less-turned reduce at f g u turn done =
    let one = total-taken f.block.left u.letter turn.left in
    let same : total g.block.left ≡ total (taken f.block.left u.letter) = ap (λ (b : Block). total b.left) (done.block ∙ turn.block_is) in
    omega (arith, one, same)

-- a letter is gone, and no later word before the end shares what was there
pub gone-alone : (reduce : Bool) (file : SpecFile) (at end : ℕ) (x y : Stacked) (u : Turn) → IsAt reduce file at end x → IsTurn reduce x.top at u
    → get_or x.top.swaps u.letter false ≡ false
    → HasTurned x.top u y.top → y.below ≡ x.below → (end ≤ end_of u.block) ⊎ (end_of x.top.block ≤ end_of u.block) → HasGone reduce file at end x y
gone-alone reduce file at end x y u is turn unlisted done below last = record {
  now = record {
    stack = record {
      below = subst (All (IsBefore reduce file at)) (sym below) is.stack.below;
      top = before-turned reduce file at x.top y.top u is.stack.top turn unlisted done;
      to = subst (λ fs. end ≤ end_of (lowest fs y.top).block) (sym below) (to-end x.below is.stack.to);
      above = subst (λ fs. AreAbove at end fs y.top) (sym below)
          (above-top at end x.below x.top y.top (λ b one. above-part at end b x.top.block y.top.block part far one) is.stack.above);
    };
    has = subst (λ b. HasRank b at) (sym done.block) turn.inside;
  };
  less = less-turned reduce at x.top y.top u turn done;
}
  where
    to-end : (fs : List Framed) → end ≤ end_of (lowest fs x.top).block → end ≤ end_of (lowest fs y.top).block
    to-end [] le = subst (λ b. end ≤ end_of b) (sym done.block) (⊎_elim (λ h. h) (λ h. omega (arith, h, le)) last)
    to-end (f ∷ fs) le = le

    part : end_of y.top.block ≤ end_of x.top.block
    part = subst (λ (b : Block). end_of b ≤ end_of x.top.block) (sym (done.block ∙ turn.block_is)) (narrowed-le x.top.block u.letter turn.left)

    far : (end ≤ end_of y.top.block) ⊎ (end_of x.top.block ≤ end_of y.top.block)
    far = subst (λ b. (end ≤ end_of b) ⊎ (end_of x.top.block ≤ end_of b)) (sym done.block) last

-- a letter is gone, and what was there is kept below
pub gone-kept : (reduce : Bool) (file : SpecFile) (at end : ℕ) (x y : Stacked) (u : Turn) → IsAt reduce file at end x → IsTurn reduce x.top at u
    → get_or x.top.swaps u.letter false ≡ false → HasTurned x.top u y.top → y.below ≡ x.below ++ x.top ∷ [] → HasGone reduce file at end x y
gone-kept reduce file at end x y u is turn unlisted done below = record {
  now = record {
    stack = record {
      below = subst (All (IsBefore reduce file at)) (sym below) (All-push (IsBefore reduce file at) x.below x.top is.stack.below is.stack.top);
      top = before-turned reduce file at x.top y.top u is.stack.top turn unlisted done;
      to = subst (λ (f : Framed). end ≤ end_of f.block) (sym (ap (λ fs. lowest fs y.top) below ∙ lowest-push x.below x.top y.top)) is.stack.to;
      above = subst (λ fs. AreAbove at end fs y.top) (sym below) (above-pushed at end x.below x.top y.top is.stack.above on-top);
    };
    has = subst (λ b. HasRank b at) (sym done.block) turn.inside;
  };
  less = less-turned reduce at x.top y.top u turn done;
}
  where
    on-top : IsAbove at end x.top.block y.top.block
    on-top = subst (IsAbove at end x.top.block) (sym (done.block ∙ turn.block_is))
        (above-narrowed at end x.top.block u.letter turn.left (subst (λ (b : Block). b.first ≤ at) turn.block_is turn.inside.0))

-- a rank further
pub before-later : (reduce : Bool) (file : SpecFile) (at later : ℕ) (f : Framed) → at ≤ later → IsBefore reduce file at f → IsBefore reduce file later f
before-later reduce file at later f le is = record { frame = is.frame; from = (let from = is.from in omega (arith, le, from)) }

pub stack-later : (reduce : Bool) (file : SpecFile) (at later end : ℕ) (x : Stacked) → at ≤ later → IsStack reduce file at end x → IsStack reduce file later end x
stack-later reduce file at later end x le is = record {
  below = λ k d lt. before-later reduce file at later _ le (is.below k d lt);
  top = before-later reduce file at later x.top le is.top;
  to = is.to;
  above = above-later at later end x.below x.top le is.above;
}

-- the topmost frame has the rank
pub stack-at : (reduce : Bool) (file : SpecFile) (at end : ℕ) (x : Stacked) → at < end_of x.top.block → IsStack reduce file at end x → IsAt reduce file at end x
stack-at reduce file at end x lt is = record { stack = is; has = (is.top.from, lt) }

pub empty-frames : (fs : List Framed) → length fs ≡ 0 → fs ≡ []
empty-frames [] e = refl
empty-frames (f ∷ fs) e = absurd (omega arith)

-- where more was told and the machine has caught up, the stack is the same
stack-told : (reduce : Bool) (file : SpecFile) (at end : ℕ) (x : Stacked) (told : List (List (List Event))) (level : Bool) → IsStack reduce file at end x
    → IsStack reduce file at end (record x { told = told; level = level })
stack-told reduce file at end x told level is = record { below = is.below; top = is.top; to = is.to; above = is.above }

pub at-told : (reduce : Bool) (file : SpecFile) (at end : ℕ) (x : Stacked) (told : List (List (List Event))) (level : Bool) → IsAt reduce file at end x
    → IsAt reduce file at end (record x { told = told; level = level })
at-told reduce file at end x told level is = record {
  stack = stack-told reduce file at end x told level is.stack;
  has = is.has;
}
