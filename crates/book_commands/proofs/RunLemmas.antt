-- The lines of runs of ranks.
use Rattle.std.proofs.Common.{◌≡◌, subst, ℕ, zero, suc, ◌+◌, ◌-◌, ◌<◌, ◌++◌, List, length, get_or, Option, arith}
use Rattle.transcripts.specs.Counted.{Wrote, Stopped}
use Rattle.transcripts.specs.declared.counted.Counted.{Counted}
use Rattle.transcripts.proofs.Writing.{stopped-append, stopped-after}
use Rattle.class_stretches.specs.declared.rank_run.RankRun.{RankRun}
use Rattle.fact_books.proofs.Recordable.{whichever}
use Rattle.book_commands.specs.declared.missing.MissingRanks.{MissingRanks}
use Rattle.book_commands.specs.Missing.{run_line, run_lines}

module _ {W : Type 0} (contents : W → Option (List ℕ)) (old new : Counted W) (asked : MissingRanks) (runs : List RankRun) where
  lines-within : (n more m : ℕ) → m ≡ more + n → Stopped contents old new (run_lines asked runs n) → Stopped contents old new (run_lines asked runs m)
  lines-within n zero m e h = let same : n ≡ m = omega (arith, e) in subst (λ k. Stopped contents old new (run_lines asked runs k)) same h
  lines-within n (suc more) zero e h = absurd (omega (arith, e))
  lines-within n (suc more) (suc m) e h = stopped-append contents old new _ _ (lines-within n more m (omega (arith, e)) h)

  -- it stops in the next line
  pub run-stopped : (mid : Counted W) (i : ℕ) (d : RankRun) → i < length runs → Wrote contents old mid (run_lines asked runs i)
      → Stopped contents mid new (run_line asked (get_or runs i d)) → Stopped contents old new (run_lines asked runs (length runs))
  run-stopped mid i d lt before stop =
      let within : Stopped contents old new (run_lines asked runs (suc i)) =
      subst (λ x. Stopped contents old new (run_lines asked runs i ++ run_line asked x)) (whichever runs i d (record { first = 0; end = 0 }) lt)
      (stopped-after contents old mid new _ _ before stop) in
      let same : length runs ≡ length runs - suc i + suc i = omega (arith, lt) in
      lines-within (suc i) (length runs - suc i) (length runs) same within
