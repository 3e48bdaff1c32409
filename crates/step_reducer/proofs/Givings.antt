-- What a walker gives, and where it stands then.
use Rattle.std.proofs.Common.{◌≡◌, ◌≢◌, refl, sym, ap, ◌∙◌, subst, ℕ, suc, ◌+◌, ◌-◌, ◌*◌, ◌≤◌, Bool, true, false, Option, Some, None, arith}
use Rattle.bound_specs.specs.Spec.{Spec, SpecFile}
use Rattle.rank_facts.specs.Facts.{IsFactOf}
use Rattle.rank_facts.specs.declared.fact.Fact.{Fact}
use Rattle.spec_reader.specs.declared.TheConstants.{MAX_ITEMS}
use Rattle.step_reducer.specs.declared.fact.FactRun.{FactRun}
use Rattle.step_reducer.specs.declared.walk.Walk.{Walk}
use Rattle.step_reducer.specs.declared.walk.Walk.TheVariants.{Words, Lines}
use Rattle.step_reducer.specs.Saying.{Giving}
use Rattle.step_reducer.specs.Fronts.{new_steps, sent_by, most_steps}
use Rattle.step_reducer.specs.Walks.{AllHave}
use Rattle.step_reducer.specs.Walking.{Walking, skips, AreSent, HasAdded, GivesRun, GivesFact, walk_at, IsWalkOf, HasWalked, IsRest, is_whole, IsStanding}

pub walk-few : (file : SpecFile) (reduce : Bool) (first end : ℕ) (w : Walk) → IsWalkOf file reduce first end w → walk_at w ≤ end
walk-few file reduce first end (Words w) is = is.few
walk-few file reduce first end (Lines w) is = is.few

-- where no rank is skipped, no run is given in part
never-skips : {A : Type 0} (reduce : Bool) (spec : Spec) → skips reduce spec ≡ true → skips reduce spec ≡ false → A
never-skips reduce spec here none = absurd (let bad : true ≡ false = sym here ∙ none in cc)

-- a run of several ranks there is only where ranks are skipped
must-skip : (reduce : Bool) (spec : Spec) (first end : ℕ) → (skips reduce spec ≡ false → end ≡ first + 1) → first + 1 ≢ end → skips reduce spec ≡ true
must-skip reduce spec first end one more = at (skips reduce spec) refl
  where
    at : (b : Bool) → skips reduce spec ≡ b → skips reduce spec ≡ true
    at true e = e
    at false e = absurd (more (sym (one e)))

-- the steps of one rank more
pub sent-more : (reduce : Bool) (spec : Spec) (first at next sent more : ℕ) → first ≤ at → (skips reduce spec ≡ false → next ≡ at + 1)
    → (skips reduce spec ≡ false → more ≡ sent + new_steps spec first (at - first)) → AreSent reduce spec first at sent → AreSent reduce spec first next more
sent-more reduce spec first at next sent more from one exact so_far = λ run.
    let step = one run in
    let same : suc (at - first) ≡ next - first = omega (arith, from, step) in
    exact run ∙ ap (λ n. n + new_steps spec first (at - first)) (so_far run) ∙ ap (sent_by spec first) same

module _ (file : SpecFile) (reduce : Bool) (first : ℕ) where
  -- where a walker with these parts stands
  abbrev pub now : ℕ → ℕ → ℕ → Option FactRun → Bool → Walking
  now at end sent rest spent = record { file = file; reduce = reduce; first = first; at = at; end = end; sent = sent; whole = is_whole rest; spent = spent }

  -- what was left of a run
  pub gives-rest : (at end sent : ℕ) (w : Walk) (rest left : Option FactRun) (spent : Bool) (run : FactRun) (x : Walking)
      → Some run ≡ rest → left ≡ None → IsStanding file reduce first at end sent w rest → now at end sent rest spent ≡ x
      → GivesRun x (now run.end end sent left spent) (Some run)
  gives-rest at end sent w rest left spent run x is none standing here =
      subst (λ y. GivesRun y (now run.end end sent left spent) (Some run)) (ap (λ r. now at end sent r spent) is ∙ here)
      (let r : IsRest file reduce at w (Some run) = subst (IsRest file reduce at w) (sym is) standing.rest_is in
      let few = walk-few file reduce first end w standing.walk in
      let behind = r.2 in (
        record { first = r.0; some = r.1; few = omega (arith, few, behind); one = λ run. never-skips reduce file.run r.4 run; ran = r.5; facts = r.3 },
        record { least = omega arith; most = omega arith; few = omega arith; exact = λ run. never-skips reduce file.run r.4 run },
        ap (λ l. now run.end end sent l spent) none,
      ))

  -- the walker stands behind it
  pub stands-after-rest : (at end sent : ℕ) (w : Walk) (rest left : Option FactRun) (run : FactRun)
      → Some run ≡ rest → left ≡ None → IsStanding file reduce first at end sent w rest → IsStanding file reduce first run.end end sent w left
  stands-after-rest at end sent w rest left run is none standing =
      let r : IsRest file reduce at w (Some run) = subst (IsRest file reduce at w) (sym is) standing.rest_is in
      let begin = r.0 in
      let some = r.1 in
      let from = standing.from in
      let sent_few = standing.sent_few in
      record {
        walk = standing.walk;
        rest_is = subst (IsRest file reduce run.end w) (sym none) (sym r.2);
        from = omega (arith, begin, some, from);
        few = standing.few;
        sent_few = omega (arith, begin, some, from, sent_few);
      }

  -- a run of the walk
  pub gives-run : (at end sent : ℕ) (w v : Walk) (rest left : Option FactRun) (spent : Bool) (given : Giving) (x : Walking)
      → None ≡ rest → left ≡ None → spent ≡ false → IsStanding file reduce first at end sent w rest → HasWalked file reduce first end w given v
      → now at end sent rest spent ≡ x
      → GivesRun x (now given.run.end end (sent + given.sent) left false) (Some given.run)
  gives-run at end sent w v rest left spent given x is none unspent standing walked here =
      subst (λ y. GivesRun y (now given.run.end end (sent + given.sent) left false) (Some given.run)) (ap (λ r. now at end sent r spent) is ∙ here)
      (let r : IsRest file reduce at w None = subst (IsRest file reduce at w) (sym is) standing.rest_is in
      let few = walk-few file reduce first end v walked.walk in
      let behind = walked.moved.at in
      let sent_few = walked.sent_few in
      let begin : given.run.first ≡ at = walked.moved.begin ∙ r in
      let most : given.sent ≤ most_steps file.run at given.run.fact = subst (λ m. given.sent ≤ most_steps file.run m given.run.fact) begin walked.most in (
        record { first = begin; some = walked.moved.some; few = omega (arith, few, behind); one = walked.moved.one; ran = walked.moved.ran; facts = walked.moved.facts },
        record {
          least = omega arith;
          most = omega (arith, most);
          few = omega (arith, sent_few);
          exact = λ run. ap (λ n. sent + n) (walked.exact run ∙ ap (λ m. new_steps file.run first (m - first)) r);
        },
        ap (λ l. now given.run.end end (sent + given.sent) l false) none
            ∙ (λ k. (let y : Walking = record {
              file = file;
              reduce = reduce;
              first = first;
              at = given.run.end;
              end = end;
              sent = sent + given.sent;
              whole = true;
              spent = sym unspent k;
            } in y)),
      ))

  pub stands-after-run : (at end sent : ℕ) (w v : Walk) (rest left : Option FactRun) (given : Giving)
      → None ≡ rest → left ≡ None → IsStanding file reduce first at end sent w rest → HasWalked file reduce first end w given v
      → IsStanding file reduce first given.run.end end (sent + given.sent) v left
  stands-after-run at end sent w v rest left given is none standing walked =
      let r : IsRest file reduce at w None = subst (IsRest file reduce at w) (sym is) standing.rest_is in
      let begin = walked.moved.begin in
      let some = walked.moved.some in
      let more = walked.sent_few in
      let from = standing.from in
      let sent_few = standing.sent_few in
      record {
        walk = walked.walk;
        rest_is = subst (IsRest file reduce given.run.end v) (sym none) walked.moved.at;
        from = omega (arith, begin, r, some, from);
        few = standing.few;
        sent_few = omega (arith, begin, r, some, more, from, sent_few);
      }

  -- and the steps sent are counted
  pub sent-after-run : (at end sent : ℕ) (w v : Walk) (rest : Option FactRun) (given : Giving)
      → None ≡ rest → IsStanding file reduce first at end sent w rest → HasWalked file reduce first end w given v → AreSent reduce file.run first at sent
      → AreSent reduce file.run first given.run.end (sent + given.sent)
  sent-after-run at end sent w v rest given is standing walked so_far =
      let r : IsRest file reduce at w None = subst (IsRest file reduce at w) (sym is) standing.rest_is in
      let begin : given.run.first ≡ at = walked.moved.begin ∙ r in
      sent-more reduce file.run first at given.run.end sent (sent + given.sent) standing.from
      (λ run. walked.moved.one run ∙ ap (λ n. n + 1) begin)
      (λ run. ap (λ n. sent + n) (walked.exact run ∙ ap (λ m. new_steps file.run first (m - first)) r)) so_far

  pub sent-after-rest : (at end sent : ℕ) (w : Walk) (rest : Option FactRun) (run : FactRun)
      → Some run ≡ rest → IsStanding file reduce first at end sent w rest → AreSent reduce file.run first run.end sent
  sent-after-rest at end sent w rest run is standing =
      let r : IsRest file reduce at w (Some run) = subst (IsRest file reduce at w) (sym is) standing.rest_is in
      λ all. never-skips reduce file.run r.4 all

  -- behind a whole run the walk stands at its end
  stands-behind : (w : Walk) (rest : Option FactRun) (at : ℕ) → is_whole rest ≡ true → IsRest file reduce at w rest → walk_at w ≡ at
  stands-behind w None at whole is = is
  stands-behind w (Some run) at whole is = cc

  -- a run is kept without its first rank
  pub rest-kept : (at end sent : ℕ) (w : Walk) (rest : Option FactRun) (spent : Bool) (run : FactRun) (x z : Walking)
      → now at end sent rest spent ≡ z → GivesRun x z (Some run) → z.spent ≡ false → (spent ≡ false → IsStanding file reduce first at end sent w rest)
      → x.first ≤ x.at → x.sent ≤ MAX_ITEMS * (x.at - x.first) → run.first + 1 ≢ run.end
      → IsStanding file reduce first (run.first + 1) end sent w (Some (record { first = run.first + 1; end = run.end; fact = run.fact }))
  rest-kept at end sent w rest spent run x z here gives unspent stood from sent_few more =
      let is = gives.0 in
      let same : now at end sent rest spent ≡ record x { at = run.end; sent = z.sent; whole = true } = here ∙ gives.2 in
      let standing = stood (ap (λ (y : Walking). y.spent) here ∙ unspent) in
      let some = is.some in
      let begin = is.first in
      let firsts : first ≡ x.first = ap (λ (y : Walking). y.first) same in
      let ends : at ≡ run.end = ap (λ (y : Walking). y.at) same in
      let sents : sent ≡ z.sent = ap (λ (y : Walking). y.sent) here in
      let most = gives.1.few in
      let behind = stands-behind w rest at (ap (λ (y : Walking). y.whole) same) standing.rest_is in
      let facts : AllHave reduce file.run run.first run.end run.fact =
      subst (λ (y : Walking). AllHave y.reduce y.file.run run.first run.end run.fact) (sym same) is.facts in
      let skipped : skips reduce file.run ≡ true =
      subst (λ (y : Walking). skips y.reduce y.file.run ≡ true) (sym same) (must-skip x.reduce x.file.run run.first run.end is.one more) in
      record {
        walk = standing.walk;
        rest_is = (refl, omega (arith, some, more), sym ends ∙ sym behind, λ r le lt. facts r (omega (arith, le)) lt, skipped, λ o e. absurd (more (sym (is.ran o e))));
        from = omega (arith, firsts, begin, from);
        few = standing.few;
        sent_few = omega (arith, firsts, begin, from, sents, most, sent_few);
      }

  -- the steps sent are counted then
  pub sent-kept : (at end sent : ℕ) (rest : Option FactRun) (spent : Bool) (run : FactRun) (x z : Walking)
      → now at end sent rest spent ≡ z → GivesRun x z (Some run) → run.first + 1 ≢ run.end → (next : ℕ) → AreSent reduce file.run first next sent
  sent-kept at end sent rest spent run x z here gives more next =
      let same : now at end sent rest spent ≡ record x { at = run.end; sent = z.sent; whole = true } = here ∙ gives.2 in
      let skipped : skips reduce file.run ≡ true =
      subst (λ (y : Walking). skips y.reduce y.file.run ≡ true) (sym same) (must-skip x.reduce x.file.run run.first run.end gives.0.one more) in
      λ all. never-skips reduce file.run skipped all

  -- and its first rank is given
  pub fact-given : (at end sent : ℕ) (rest : Option FactRun) (spent : Bool) (run : FactRun) (one : Fact) (x z : Walking)
      → now at end sent rest spent ≡ z → GivesRun x z (Some run) → one ≡ run.fact
      → GivesFact x (now (run.first + 1) end sent (Some (record { first = run.first + 1; end = run.end; fact = run.fact })) spent) (Some (run.first, one))
  fact-given at end sent rest spent run one x z here gives same_fact =
      let is = gives.0 in
      let same : now at end sent rest spent ≡ record x { at = run.end; sent = z.sent; whole = true } = here ∙ gives.2 in
      let begin = is.first in
      let some = is.some in
      let few = is.few in
      let sents : sent ≡ z.sent = ap (λ (y : Walking). y.sent) here in (
        begin,
        omega (arith, begin, some, few),
        subst (IsFactOf x.reduce x.file.run x.at) (sym same_fact) (is.facts x.at (omega (arith, begin)) (omega (arith, begin, some))),
        subst (λ f. HasAdded x f sent) (sym same_fact) (subst (HasAdded x run.fact) (sym sents) gives.1),
        (λ k. (let y : Walking = record {
          file = (same k).file;
          reduce = (same k).reduce;
          first = (same k).first;
          at = begin k + 1;
          end = (same k).end;
          sent = sent;
          whole = false;
          spent = (same k).spent;
        } in y)),
      )
