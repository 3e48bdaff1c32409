-- How far an order is gone through, step by step: which words begin like it, and what is still to be sent.
use Rattle.std.proofs.Common.{◌≡◌, ◌≢◌, refl, sym, ap, ◌∙◌, subst, ℕ, zero, suc, ◌+◌, ◌-◌, ◌<◌, ◌≤◌, ◌⊎◌, ⊎_elim, Bool, true, List, [], ◌∷◌, ◌++◌, length, take, drop, set, get_or}
use Rattle.std.proofs.Common.{Option, Some, None, MatchOption, arith, append_assoc, append-nil, drop-cons, get_or-set_other, get_or-set_same, length-set}
use Rattle.std.proofs.lemmas.List.{take_more, take_all, drop_all}
use Rattle.perm_ranks.specs.Words.{Word, total, all_words, word_at, words_of, word_less}
use Rattle.perm_ranks.specs.Counting.{taken}
use Rattle.perm_ranks.specs.Blocks.{Block, end_of, narrowed, IsBlockOf}
use Rattle.perm_ranks.proofs.CountLemmas.{get_or-le-total}
use Rattle.perm_ranks.proofs.BlockLemmas.{block-narrowed}
use Rattle.perm_ranks.proofs.WordLemmas.{Takes, takes-length, words-take, words-rise, rises-at, each-at, word_less-irrefl}
use Rattle.bound_specs.specs.Spec.{Spec, Step, no_step, Queues, line, line_by, line_of, ranks, ranks_by, counts_of, queues_of}
use Rattle.bound_specs.specs.Walking.{steps_from, queues_at}
use Rattle.bound_specs.proofs.WalkLemmas.{get_or-counts, counts-set, get_or-queues_at, get_or-queues_at-past, queues_at-set, queues_at-start, line-next}
use Rattle.order_names.specs.Orders.{session_of}
use Rattle.order_names.specs.Steps.{IsRankOfLine, IsNoLine, IsSent, IsStepInTurn, AreStepsInTurn, IsWrongLine, IsWrongAt}
use Rattle.order_names.specs.declared.error.OrderError.{OrderError}
use Rattle.order_names.specs.declared.error.OrderError.TheVariants.{UnknownStep, Again, OutOfTurn, LeftOut, NoLine, NoMemory}
use Rattle.order_names.proofs.Queues.{IsFirst, IsNext, next-is, none-next, first-letter, no-letter, empty-total}

abbrev pub counts_in : Spec → List ℕ
counts_in run = counts_of (queues_of run)

-- what is still to be sent
abbrev pub left_at : Spec → List ℕ → Queues
left_at run next = queues_at 0 run.sessions next run.steps

-- the word of the rank goes on behind the letters with one whose line is what is left of the order
pub record Follows (run : Spec) (order : List ℕ) (place : ℕ) (shared : Word) (q : Queues) (r : ℕ) : Type 0 where
  pub word : Word
  pub word_is : word_at (counts_in run) r ≡ shared ++ word
  pub left : ℕ
  pub taken : Takes left (counts_of q) word
  pub line_is : line q word ≡ drop place order

-- the first so many steps of the order are sent, in turn, and the block is that of the words that begin so
pub record Sending (run : Spec) (order : List ℕ) (place : ℕ) (next : List ℕ) (block : Block) : Type 0 where
  pub shared : Word
  pub is_block : IsBlockOf (counts_in run) shared block
  pub left : block.left ≡ counts_of (left_at run next)
  pub so_far : (w : Word) → line (queues_of run) (shared ++ w) ≡ take place order ++ line (left_at run next) w
  pub follows : (r : ℕ) → r < length (all_words (counts_in run)) → line_of run r ≡ order → Follows run order place shared (left_at run next) r
  pub sent : (k : ℕ) → k < length run.steps → k < get_or next (session_of run.steps k) 0 → IsSent order place k
  pub unsent : (k : ℕ) → IsSent order place k → k < get_or next (session_of run.steps k) 0
  pub turns : AreStepsInTurn run.steps order place
  pub eight : length next ≡ 8

module _ (run : Spec) (words : run.lines ≡ []) where
  line-is : (r : ℕ) → line_of run r ≡ line (queues_of run) (word_at (counts_in run) r)
  line-is r = ap (λ ls. line_by ls (queues_of run) r) words

  pub ranks-are : ranks run ≡ length (all_words (counts_in run))
  ranks-are = ap (λ ls. ranks_by ls (queues_of run)) words

  word-takes : (r : ℕ) → r < length (all_words (counts_in run)) → Takes (total (counts_in run)) (counts_in run) (word_at (counts_in run) r)
  word-takes r lt = each-at (Takes (total (counts_in run)) (counts_in run)) (all_words (counts_in run)) r lt (words-take (total (counts_in run)) (counts_in run))

  -- nothing is sent
  pub starts : (order next : List ℕ) (block : Block) → ((i : ℕ) → get_or next i 0 ≡ 0) → length next ≡ 8 → IsBlockOf (counts_in run) [] block
      → block.left ≡ counts_in run → Sending run order 0 next block
  starts order next block zeros eight is all =
      let all_left : left_at run next ≡ queues_of run = queues_at-start run.steps 0 run.sessions next zeros in
      record {
        shared = [];
        is_block = is;
        left = all ∙ ap counts_of (sym all_left);
        so_far = λ w. ap (λ q. line q w) (sym all_left);
        follows = λ r lt e. (record {
          word = word_at (counts_in run) r;
          word_is = refl;
          left = total (counts_in run);
          taken = subst (λ q. Takes (total (counts_in run)) (counts_of q) (word_at (counts_in run) r)) (sym all_left) (word-takes r lt);
          line_is = ap (λ q. line q (word_at (counts_in run) r)) all_left ∙ sym (line-is r) ∙ e;
        });
        sent = λ k known lt. (let none = zeros (session_of run.steps k) in absurd (omega (arith, none, lt)));
        unsent = λ k x. (let lt = x.1 in absurd (omega (arith, lt)));
        turns = λ p lt. absurd (omega (arith, lt));
        eight = eight;
      }

  module _ (order next : List ℕ) (place : ℕ) (block : Block) (h : Sending run order place next block) where
    abbrev q : Queues
    q = left_at run next

    -- ---- the next step

    module _ (inside : place < length order) (few : run.sessions ≤ 8) (i : ℕ) (some : i < run.sessions) (own : session_of run.steps (get_or order place 0) ≡ i) where
      abbrev step : ℕ
      step = get_or order place 0

      abbrev Heads : ℕ → Type 0
      Heads r = (f : Follows run order place h.shared q r) × ((x : IsFirst q f.word step (drop (suc place) order)) × (x.letter ≡ i)
          × (steps_from i (get_or next i 0) run.steps ≡ step ∷ x.more))

      -- a rank of the order has the step as its session's next one
      heads : (r : ℕ) → r < length (all_words (counts_in run)) → line_of run r ≡ order → Heads r
      heads r lt e = (f, (x, same, ap (λ j. steps_from j (get_or next j 0) run.steps) (sym same) ∙ here))
        where
          f : Follows run order place h.shared q r
          f = h.follows r lt e

          x : IsFirst q f.word step (drop (suc place) order)
          x = first-letter f.left q f.word f.taken step (drop (suc place) order) (f.line_is ∙ drop-cons order place 0 inside)

          cases : (x.letter < run.sessions) ⊎ (run.sessions ≤ x.letter)
          cases = grind arith

          known : x.letter < run.sessions
          known = ⊎_elim (λ l. l) (λ le. absurd (let none : [] ≡ step ∷ x.more = sym (get_or-queues_at-past run.steps run.sessions x.letter next le) ∙ x.queue in cc))
              cases

          here : steps_from x.letter (get_or next x.letter 0) run.steps ≡ step ∷ x.more
          here = sym (get_or-queues_at run.steps 0 run.sessions x.letter x.letter next known (omega arith)) ∙ x.queue

          same : x.letter ≡ i
          same = sym (next-is x.letter (get_or next x.letter 0) run.steps step x.more here).own ∙ own

      -- where another one is due, or none, the order has no rank
      pub no-rank : ((more : List ℕ) → steps_from i (get_or next i 0) run.steps ≡ step ∷ more → ⊥) → IsNoLine run order
      no-rank other r lt e =
          let x = heads r (let all = ranks-are in omega (arith, all, lt)) e in
          other x.1.0.more x.1.2

      pub wrong-turn : (due : ℕ) (more : List ℕ) → steps_from i (get_or next i 0) run.steps ≡ due ∷ more → due < step
          → IsWrongLine run.steps order (OutOfTurn place due)
      wrong-turn due more e lt =
          let n = next-is i (get_or next i 0) run.steps due more e in (
            inside,
            h.turns,
            lt,
            n.own ∙ sym own,
            λ s. (
                let was = h.unsent due s in
                let at : get_or next (session_of run.steps due) 0 ≡ get_or next i 0 = ap (λ j. get_or next j 0) n.own in
                let le = n.behind in
                absurd (omega (arith, was, at, le))),
          )

      was-sent : step < length run.steps → step < get_or next i 0 → IsWrongLine run.steps order (Again place)
      was-sent known lt = (
        inside,
        h.turns,
        h.sent step known (let at : get_or next (session_of run.steps step) 0 ≡ get_or next i 0 = ap (λ j. get_or next j 0) own in
            omega (arith, at, lt)),
      )

      pub wrong-again : step < length run.steps → (due : Option ℕ)
          → ((d : ℕ) → due ≡ Some d → (more : List ℕ) × (steps_from i (get_or next i 0) run.steps ≡ d ∷ more))
          → (due ≡ None → steps_from i (get_or next i 0) run.steps ≡ []) → ((d : ℕ) → due ≡ Some d → step < d)
          → IsWrongLine run.steps order (Again place)
      wrong-again known None there none later = ⊎_elim (λ lt. was-sent known lt) (λ le. absurd (none-next i (get_or next i 0) run.steps (none refl) step le known own)) cases
        where
          cases : (step < get_or next i 0) ⊎ (get_or next i 0 ≤ step)
          cases = grind arith
      wrong-again known (Some d) there none later = ⊎_elim (λ lt. was-sent known lt) (λ le. absurd (
          let t = there d refl in (next-is i (get_or next i 0) run.steps d t.0 t.1).first step le (later d refl) own)) cases
        where
          cases : (step < get_or next i 0) ⊎ (get_or next i 0 ≤ step)
          cases = grind arith

      -- what is due of the session by the code
      abbrev IsDue : Option ℕ → Type 0
      IsDue due = MatchOption due (steps_from i (get_or next i 0) run.steps ≡ [])
          (λ k. steps_from i (get_or next i 0) run.steps ≡ k ∷ steps_from i (k + 1) run.steps)

      pub wrong-found : (error : OrderError) (due : Option ℕ) → IsDue due → IsWrongAt place step due (Some error) → step < length run.steps
          → IsWrongLine run.steps order error × IsNoLine run order
      wrong-found (UnknownStep p) due is w known = absurd w
      wrong-found (Again p) None is w known = (
        subst (λ n. IsWrongLine run.steps order (Again n)) (sym w.0) (wrong-again known None (λ d f. cc) (λ f. is) w.1),
        no-rank (λ more f. (let bad : [] ≡ step ∷ more = sym is ∙ f in cc)),
      )
      wrong-found (Again p) (Some d) is w known = (
        subst (λ n. IsWrongLine run.steps order (Again n)) (sym w.0)
            (wrong-again known (Some d) (λ c f. (let same : d ≡ c = cc in
            (steps_from i (d + 1) run.steps, is ∙ ap (λ k. k ∷ steps_from i (d + 1) run.steps) same))) (λ f. cc) w.1),
        no-rank (λ more f. (let two : d ∷ steps_from i (d + 1) run.steps ≡ step ∷ more = sym is ∙ f in
            let same : d ≡ step = cc in let less = w.1 d refl in omega (arith, same, less))),
      )
      wrong-found (OutOfTurn p c) None is w known = absurd (let bad = w.1 in cc)
      wrong-found (OutOfTurn p c) (Some d) is w known =
          let some : Some d ≡ Some c = w.1 in
          let due_is : d ≡ c = cc in
          let less = w.2 in
          let here : steps_from i (get_or next i 0) run.steps ≡ c ∷ steps_from i (d + 1) run.steps = is ∙ ap (λ k. k ∷ steps_from i (d + 1) run.steps) due_is in (
            subst (λ n. IsWrongLine run.steps order (OutOfTurn n c)) (sym w.0) (wrong-turn c (steps_from i (d + 1) run.steps) here less),
            no-rank (λ more f. (let two : c ∷ steps_from i (d + 1) run.steps ≡ step ∷ more = sym here ∙ f in
                let same : c ≡ step = cc in omega (arith, same, less))),
          )
      wrong-found (LeftOut d) due is w known = absurd w
      wrong-found NoLine due is w known = absurd w
      wrong-found NoMemory due is w known = absurd w

      pub due-found : (due : Option ℕ) → IsDue due → due ≡ Some step → steps_from i (get_or next i 0) run.steps ≡ step ∷ steps_from i (step + 1) run.steps
      due-found None is e = absurd (cc e)
      due-found (Some d) is e =
          let same : d ≡ step = cc in subst (λ k. steps_from i (get_or next i 0) run.steps ≡ k ∷ steps_from i (k + 1) run.steps) same is

      module _ (known : step < length run.steps) (e : steps_from i (get_or next i 0) run.steps ≡ step ∷ steps_from i (step + 1) run.steps) where
        queue : get_or q i [] ≡ step ∷ steps_from i (step + 1) run.steps
        queue = get_or-queues_at run.steps 0 run.sessions i i next some (omega arith) ∙ e

        count : get_or block.left i 0 ≡ suc (length (steps_from i (step + 1) run.steps))
        count = ap (λ c. get_or c i 0) h.left ∙ get_or-counts q i ∙ ap (λ (l : List ℕ). length l) queue

        pub is-left : 0 < get_or block.left i 0
        is-left = let many = count in omega (arith, many)

        is-next : IsNext i (get_or next i 0) run.steps step
        is-next = next-is i (get_or next i 0) run.steps step (steps_from i (step + 1) run.steps) e

        fits : i < length next
        fits = let eight = h.eight in omega (arith, eight, some, few)

        abbrev after : List ℕ
        after = set next i (step + 1)

        queues-after : left_at run after ≡ set q i (steps_from i (step + 1) run.steps)
        queues-after = queues_at-set run.steps 0 run.sessions i i (step + 1) next some (omega arith) fits

        left-after : (narrowed block i).left ≡ counts_of (left_at run after)
        left-after =
            let one : get_or block.left i 0 - 1 ≡ length (steps_from i (step + 1) run.steps) = (let many = count in omega (arith, many)) in
            (λ k. set (h.left k) i (one k)) ∙ sym (counts-set q i (steps_from i (step + 1) run.steps)) ∙ ap counts_of (sym queues-after)

        so-far-after : (w : Word) → line (queues_of run) ((h.shared ++ i ∷ []) ++ w) ≡ take (place + 1) order ++ line (left_at run after) w
        so-far-after w =
            ap (line (queues_of run)) (append_assoc h.shared (i ∷ []) w)
            ∙ h.so_far (i ∷ w)
            ∙ ap (λ l. take place order ++ l) (line-next run.steps run.sessions i step next w some fits e)
            ∙ sym (append_assoc (take place order) (step ∷ []) (line (left_at run after) w))
            ∙ ap (λ l. l ++ line (left_at run after) w) (sym (take_more order place 0 inside))

        follows-after : (r : ℕ) → r < length (all_words (counts_in run)) → line_of run r ≡ order
            → Follows run order (place + 1) (h.shared ++ i ∷ []) (left_at run after) r
        follows-after r lt is = by (heads r lt is)
          where
            by : Heads r → Follows run order (place + 1) (h.shared ++ i ∷ []) (left_at run after) r
            by x =
                let f = x.0 in
                let first = x.1.0 in
                let tails : step ∷ first.more ≡ step ∷ steps_from i (step + 1) run.steps = sym x.1.2 ∙ e in
                let more : first.more ≡ steps_from i (step + 1) run.steps = cc tails in
                let queues : set q first.letter first.more ≡ left_at run after = (λ k. set q (x.1.1 k) (more k)) ∙ sym queues-after in
                let one : suc place ≡ place + 1 = omega arith in
                record {
                  word = first.word;
                  word_is = f.word_is ∙ ap (λ w. h.shared ++ w) first.word_is ∙ ap (λ j. h.shared ++ j ∷ first.word) x.1.1
                      ∙ sym (append_assoc h.shared (i ∷ []) first.word);
                  left = first.left;
                  taken = subst (λ p. Takes first.left (counts_of p) first.word) queues first.taken;
                  line_is = ap (λ p. line p first.word) (sym queues) ∙ first.line_is ∙ ap (λ n. drop n order) one;
                }

        weaker : (k : ℕ) → IsSent order place k → IsSent order (place + 1) k
        weaker k x = let lt = x.1 in (x.0, omega (arith, lt), x.2)

        sent-after : (k : ℕ) → k < length run.steps → k < get_or after (session_of run.steps k) 0 → IsSent order (place + 1) k
        sent-after k in_steps lt = ⊎_elim mine others cases
          where
            cases : (session_of run.steps k ≡ i) ⊎ (session_of run.steps k ≢ i)
            cases = grind arith

            others : session_of run.steps k ≢ i → IsSent order (place + 1) k
            others ne =
                let same : get_or after (session_of run.steps k) 0 ≡ get_or next (session_of run.steps k) 0 =
                get_or-set_other next i (session_of run.steps k) (step + 1) 0 ne in
                weaker k (h.sent k in_steps (omega (arith, same, lt)))

            mine : session_of run.steps k ≡ i → IsSent order (place + 1) k
            mine is = ⊎_elim (λ l. weaker k (h.sent k in_steps (let old : get_or next (session_of run.steps k) 0 ≡ get_or next i 0 = ap (λ j. get_or next j 0) is in
                omega (arith, old, l)))) (λ le. ⊎_elim (λ s. (place, omega arith, sym s)) (λ less. absurd (is-next.first k le less is)) last) before
              where
                now : get_or after (session_of run.steps k) 0 ≡ step + 1
                now = ap (λ j. get_or after j 0) is ∙ get_or-set_same next i (step + 1) 0 fits

                before : (k < get_or next i 0) ⊎ (get_or next i 0 ≤ k)
                before = grind arith

                last : (k ≡ step) ⊎ (k < step)
                last = let at = now in grind (arith, at, lt)

        unsent-after : (k : ℕ) → IsSent order (place + 1) k → k < get_or after (session_of run.steps k) 0
        unsent-after k x = ⊎_elim mine others cases
          where
            now : get_or after i 0 ≡ step + 1
            now = get_or-set_same next i (step + 1) 0 fits

            cases : (session_of run.steps k ≡ i) ⊎ (session_of run.steps k ≢ i)
            cases = grind arith

            split : (x.0 < place) ⊎ (x.0 ≡ place)
            split = let lt = x.1 in grind (arith, lt)

            it : x.0 ≡ place → k ≡ step
            it same = sym x.2 ∙ ap (λ p. get_or order p 0) same

            mine : session_of run.steps k ≡ i → k < get_or after (session_of run.steps k) 0
            mine is =
                let there : get_or after (session_of run.steps k) 0 ≡ step + 1 = ap (λ j. get_or after j 0) is ∙ now in
                ⊎_elim
                (λ lt. (let old = h.unsent k (x.0, lt, x.2) in
                let was : get_or next (session_of run.steps k) 0 ≡ get_or next i 0 = ap (λ j. get_or next j 0) is in
                let le = is-next.behind in omega (arith, there, old, was, le)))
                (λ same. (let here = it same in omega (arith, there, here))) split

            others : session_of run.steps k ≢ i → k < get_or after (session_of run.steps k) 0
            others ne =
                let same : get_or after (session_of run.steps k) 0 ≡ get_or next (session_of run.steps k) 0 =
                get_or-set_other next i (session_of run.steps k) (step + 1) 0 ne in
                ⊎_elim (λ lt. (let old = h.unsent k (x.0, lt, x.2) in omega (arith, same, old)))
                (λ here. absurd (ne (ap (session_of run.steps) (it here) ∙ own))) split

        turn-here : IsStepInTurn run.steps order place
        turn-here = record {
          new = λ s. (let was = h.unsent step s in
              let at : get_or next (session_of run.steps step) 0 ≡ get_or next i 0 = ap (λ j. get_or next j 0) own in
              let le = is-next.behind in absurd (omega (arith, was, at, le)));
          behind = λ k less same. (
              let is : session_of run.steps k ≡ i = same ∙ own in
              let in_steps : k < length run.steps = omega (arith, less, known) in
              let before : (k < get_or next i 0) ⊎ (get_or next i 0 ≤ k) = grind arith in
              ⊎_elim (λ l. h.sent k in_steps (let old : get_or next (session_of run.steps k) 0 ≡ get_or next i 0 = ap (λ j. get_or next j 0) is in omega (arith, old, l)))
              (λ le. absurd (is-next.first k le less is)) before);
        }

        turns-after : AreStepsInTurn run.steps order (place + 1)
        turns-after p lt = ⊎_elim (λ l. h.turns p l) (λ e. subst (IsStepInTurn run.steps order) (sym e) turn-here) split
          where
            split : (p < place) ⊎ (p ≡ place)
            split = grind (arith, lt)

        -- one step more is sent
        pub one-more : Sending run order (place + 1) (set next i (step + 1)) (narrowed block i)
        one-more = record {
          shared = h.shared ++ i ∷ [];
          is_block = block-narrowed (counts_in run) h.shared block i is-left h.is_block;
          left = left-after;
          so_far = so-far-after;
          follows = follows-after;
          sent = sent-after;
          unsent = unsent-after;
          turns = turns-after;
          eight = length-set next i (step + 1) ∙ h.eight;
        }

    -- ---- the end

    module _ (all : place ≡ length order) where
      rest-none : drop place order ≡ []
      rest-none = drop_all place order (omega (arith, all))

      -- a rank of the order has no letter more
      word-ends : (r : ℕ) → r < length (all_words (counts_in run)) → line_of run r ≡ order → word_at (counts_in run) r ≡ h.shared
      word-ends r lt e =
          let f = h.follows r lt e in
          let none = no-letter f.left q f.word f.taken (f.line_is ∙ rest-none) in
          f.word_is ∙ ap (λ w. h.shared ++ w) none ∙ append-nil h.shared

      left-total : total block.left ≡ total (counts_of q)
      left-total = ap total h.left

      pub wrong-left : (j due : ℕ) (more : List ℕ) → j < run.sessions → steps_from j (get_or next j 0) run.steps ≡ due ∷ more
          → IsWrongLine run.steps order (LeftOut due)
      wrong-left j due more lt e =
          let n = next-is j (get_or next j 0) run.steps due more e in (
            subst (AreStepsInTurn run.steps order) all h.turns,
            n.known,
            λ s. (
                let was = h.unsent due (let le = s.1 in (s.0, omega (arith, le, all), s.2)) in
                let at : get_or next (session_of run.steps due) 0 ≡ get_or next j 0 = ap (λ k. get_or next k 0) n.own in
                let le = n.behind in
                absurd (omega (arith, was, at, le))),
          )

      pub no-rank-left : (j due : ℕ) (more : List ℕ) → j < run.sessions → steps_from j (get_or next j 0) run.steps ≡ due ∷ more → IsNoLine run order
      no-rank-left j due more lt e r inside is =
          let here : r < length (all_words (counts_in run)) = (let ends = ranks-are in omega (arith, ends, inside)) in
          let long = takes-length (total (counts_in run)) (counts_in run) (word_at (counts_in run) r) (word-takes r here) in
          let same : length (word_at (counts_in run) r) ≡ length h.shared = ap (λ (w : Word). length w) (word-ends r here is) in
          let letters = h.is_block.letters in
          let count : get_or (counts_of q) j 0 ≡ suc (length more) =
          get_or-counts q j ∙ ap (λ (l : List ℕ). length l) (get_or-queues_at run.steps 0 run.sessions j j next lt (omega arith) ∙ e) in
          let le = get_or-le-total (counts_of q) j in
          let totals = left-total in
          absurd (omega (arith, long, same, letters, count, le, totals))

      module _ (none : (j : ℕ) → j < run.sessions → steps_from j (get_or next j 0) run.steps ≡ []) where
        no-letters : total block.left ≡ 0
        no-letters = left-total ∙ empty-total 0 run.sessions next run.steps (λ i lt. (let same : 0 + i ≡ i = omega arith in
            ap (λ m. steps_from m (get_or next m 0) run.steps) same ∙ none i lt))

        one-word : all_words block.left ≡ [] ∷ []
        one-word = ap (λ n. words_of n block.left) no-letters

        one-long : length (all_words block.left) ≡ 1
        one-long = ap (λ (l : List Word). length l) one-word

        in-words : block.first < length (all_words (counts_in run))
        in-words = let inside = h.is_block.inside in let one = one-long in omega (arith, inside, one)

        word-here : word_at (counts_in run) block.first ≡ h.shared
        word-here =
            let at : block.first + 0 ≡ block.first = omega arith in
            let one = one-long in
            ap (word_at (counts_in run)) (sym at)
            ∙ h.is_block.words 0 (omega (arith, one))
            ∙ ap (λ (l : List Word). h.shared ++ get_or l 0 []) one-word
            ∙ append-nil h.shared

        pub whole : IsRankOfLine run order block.first
        whole = record {
          inside = (let ends = ranks-are in let lt = in-words in omega (arith, ends, lt));
          has = line-is block.first ∙ ap (line (queues_of run)) (word-here ∙ sym (append-nil h.shared)) ∙ h.so_far [] ∙ append-nil (take place order)
              ∙ take_all place order (omega (arith, all));
          least = λ lower lt e. (
              let here : lower < length (all_words (counts_in run)) = (let below = in-words in omega (arith, lt, below)) in
              let same : word_at (counts_in run) lower ≡ word_at (counts_in run) block.first = word-ends lower here e ∙ sym word-here in
              let less = rises-at (all_words (counts_in run)) lower block.first (words-rise (total (counts_in run)) (counts_in run)) lt in-words in
              word_less-irrefl (word_at (counts_in run) block.first)
              (subst (λ w. word_less w (word_at (counts_in run) block.first) ≡ true) same less));
        }
