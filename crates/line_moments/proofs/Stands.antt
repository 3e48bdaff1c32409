-- How sessions stand, and how they begin, is told truly.
use Rattle.std.proofs.Common.{◌≡◌, refl, sym, ap, ◌∙◌, subst, ℕ, zero, suc, ◌<◌, false}
use Rattle.std.proofs.Common.{[], ◌∷◌, ◌++◌, length, get_or}
use Rattle.std.proofs.Common.{Option, Some, None, ◌⊎◌, ⊎_elim, arith}
use Rattle.std.proofs.lemmas.Bool.{false_from_ne_true}
use Rattle.std.proofs.lemmas.List.{get_or_append_left, length_push}
use Rattle.std.proofs.Math.Seq.{get_or-append_seam}
use Rattle.lock_modes.specs.Resource.{resource_order}
use Rattle.lock_queues.specs.Locks.{waits_now}
use Rattle.lock_queues.specs.Reasons.{Want}
use Rattle.machine_model.specs.declared.status.Status.{Status}
use Rattle.machine_model.specs.declared.status.Status.TheVariants.{Outside, InBlock, Broken}
use Rattle.machine_model.specs.Sound.{Steady}
use Rattle.machine_model.specs.World.{World, session_at}
use Rattle.line_moments.specs.Laws.{StandingsAreExact}
use Rattle.line_moments.specs.declared.shown.Standing.TheVariants.{HasEnded}
use Rattle.line_moments.specs.Left.{standing_by, standing_of, standings}
use Rattle.line_moments.specs.declared.shown.Begun.{Begun}
use Rattle.line_moments.specs.Left.{IsStanding, begun_of, begun, IsBegun, AreBegun}
use Rattle.line_moments.specs.Moments.{want_in}
use Rattle.line_moments.proofs.Waiting.{wants-exact}
use Rattle.line_moments.proofs.KeyOrder.{entries-are, entries-rise}

-- ---- how sessions stand

-- the number of those below a number, and the one at each
standings-count : (n : ℕ) (w : World) → length (standings n w) ≡ n
standings-count zero w = refl
standings-count (suc n) w = let more = length_push (standings n w) (standing_of w n) in let rec = standings-count n w in omega (arith, more, rec)

standings-at : (n c : ℕ) (w : World) → c < n → get_or (standings n w) c HasEnded ≡ standing_of w c
standings-at zero c w lt = absurd (omega (arith, lt))
standings-at (suc n) c w lt =
    let cases : (c < n) ⊎ (c ≡ n) = grind (arith, lt) in
    ⊎_elim
    (λ l. get_or_append_left (standings n w) (standing_of w n ∷ []) HasEnded c (subst (λ k. c < k) (sym (standings-count n w)) l) ∙ standings-at n c w l)
    (λ e. ap (λ k. get_or (standings n w ++ standing_of w n ∷ []) k HasEnded) (e ∙ sym (standings-count n w))
    ∙ get_or-append_seam (standings n w) (standing_of w n) [] HasEnded ∙ ap (standing_of w) (sym e)) cases

stands-by : (w : World) (c : ℕ) → Steady w → (o : Option Want) (b : Status) → want_in w c ≡ o → (session_at w c).status ≡ b → IsStanding w c (standing_by o b)
stands-by w c st (Some want) b is s = ((wants-exact w st c).0.1 (want, is), (wants-exact w st c).1 want is)
stands-by w c st None b is s = at b s
  where
    quiet : waits_now w.waits c ≡ false
    quiet = false_from_ne_true _ (λ h. let x = (wants-exact w st c).0.0 h in let y : None ≡ Some x.0 = sym is ∙ x.1 in cc)

    at : (d : Status) → (session_at w c).status ≡ d → IsStanding w c (standing_by None d)
    at Outside e = (quiet, e)
    at (InBlock of) e = (quiet, (of, e))
    at Broken e = (quiet, e)

pub standings-exact : StandingsAreExact
standings-exact n w st =
    record {
      count = standings-count n w;
      each = λ c lt. subst (IsStanding w c) (sym (standings-at n c w lt)) (stands-by w c st (want_in w c) (session_at w c).status refl refl);
    }

-- ---- how sessions begin

no_begun : Begun
no_begun = record { status = Outside; locks = [] }

begun-count : (n : ℕ) (w : World) → length (begun n w) ≡ n
begun-count zero w = refl
begun-count (suc n) w = let more = length_push (begun n w) (begun_of w n) in let rec = begun-count n w in omega (arith, more, rec)

begun-at : (n c : ℕ) (w : World) (d : Begun) → c < n → get_or (begun n w) c d ≡ begun_of w c
begun-at zero c w d lt = absurd (omega (arith, lt))
begun-at (suc n) c w d lt =
    let cases : (c < n) ⊎ (c ≡ n) = grind (arith, lt) in
    ⊎_elim
    (λ l. get_or_append_left (begun n w) (begun_of w n ∷ []) d c (subst (λ k. c < k) (sym (begun-count n w)) l) ∙ begun-at n c w d l)
    (λ e. ap (λ k. get_or (begun n w ++ begun_of w n ∷ []) k d) (e ∙ sym (begun-count n w))
    ∙ get_or-append_seam (begun n w) (begun_of w n) [] d ∙ ap (begun_of w) (sym e)) cases

pub begun-are : (n : ℕ) (w : World) → AreBegun n w (begun n w)
begun-are n w =
    record {
      count = begun-count n w;
      each = λ c lt. subst (IsBegun w c) (sym (begun-at n c w _ lt))
          (record {
            status = refl;
            locks = entries-are resource_order (session_at w c).held;
            rise = entries-rise resource_order (session_at w c).held;
          });
    }
