use Rattle.std.proofs.Common.{◌≡◌, ◌⊎◌, sym, subst, map, Some, Bor, List, ℕ, is_some}
use Rattle.spec_commands.specs.Ordering.{IsRanked}
use Rattle.book_commands.specs.Joining.{IsJoinRun}
use Rattle.book_commands.specs.Judging.{IsJudgeRun}
use Rattle.book_commands.specs.Missing.{IsMissingRun}
use Rattle.class_commands.specs.Booking.{IsBookClassesRun}
use Rattle.program_commands.specs.Faults.{rank_told, join_told, missing_told, outcomes_told, judge_told}
use Rattle.program_commands.specs.Testing.{IsTestRun}
use Rattle.program_commands.specs.Commands.{IsCalled, IsDone, IsFound, IsTold, IsUnread, missing_by}
use Rattle.program_commands.proofs.commands.work.Goals as goal

pub returns-in-One-clause-done : goal.returns-in-One-clause-done
returns-in-One-clause-done g c =
    subst (λ a. IsDone (g.O.Opener.bytes c.args.opener.now) g.W.Write.contents c.args.out.now c.one_of_file.new.out a c.one_of_file.result) (sym c.in-One.is)
    c.one_of_file.ensures.done

pub returns-in-Rank-clause-done : goal.returns-in-Rank-clause-done
returns-in-Rank-clause-done g c =
    subst (λ a. IsDone (g.O.Opener.bytes c.args.opener.now) g.W.Write.contents c.args.out.now c.rank_of_file.new.out a c.rank_of_file.result)
    (sym c.in-Rank.is)
    (subst (λ ns. IsUnread (g.O.Opener.bytes c.args.opener.now c.in-Rank.path.now) c.in-Rank.path.now c.args.out.now c.rank_of_file.new.out c.rank_of_file.result
    ⊎ IsCalled (g.O.Opener.bytes c.args.opener.now c.in-Rank.path.now)
    (λ bytes. IsRanked g.W.Write.contents c.args.out.now c.rank_of_file.new.out bytes (map (λ (n : Bor (List ℕ)). n.now) ns))
    (λ bytes error told. rank_told c.in-Rank.path ns error ≡ Some told) c.rank_of_file.result)
    c.as_slice.ensures.value c.rank_of_file.ensures.done)

pub returns-in-Order-clause-done : goal.returns-in-Order-clause-done
returns-in-Order-clause-done g c =
    subst (λ a. IsDone (g.O.Opener.bytes c.args.opener.now) g.W.Write.contents c.args.out.now c.order_of_file.new.out a c.order_of_file.result)
    (sym c.in-Order.is)
    c.order_of_file.ensures.done

pub returns-in-Show-clause-done : goal.returns-in-Show-clause-done
returns-in-Show-clause-done g c =
    subst (λ a. IsDone (g.O.Opener.bytes c.args.opener.now) g.W.Write.contents c.args.out.now c.show_of_file.new.out a c.show_of_file.result)
    (sym c.in-Show.is)
    c.show_of_file.ensures.done

pub returns-in-Classes-clause-done : goal.returns-in-Classes-clause-done
returns-in-Classes-clause-done g c =
    subst (λ a. IsDone (g.O.Opener.bytes c.args.opener.now) g.W.Write.contents c.args.out.now c.classes_of_file.new.out a c.classes_of_file.result)
    (sym c.in-Classes.is)
    c.classes_of_file.ensures.done

pub returns-in-Levels-clause-done : goal.returns-in-Levels-clause-done
returns-in-Levels-clause-done g c =
    subst (λ a. IsDone (g.O.Opener.bytes c.args.opener.now) g.W.Write.contents c.args.out.now c.levels_of_file.new.out a c.levels_of_file.result)
    (sym c.in-Levels.is)
    c.levels_of_file.ensures.done

pub returns-in-Run-clause-done : goal.returns-in-Run-clause-done
returns-in-Run-clause-done g c =
    subst (λ a. IsDone (g.O.Opener.bytes c.args.opener.now) g.W.Write.contents c.args.out.now c.run_of_file.new.out a c.run_of_file.result)
    (sym c.in-Run.is)
    c.run_of_file.ensures.done

pub returns-in-Outcomes-clause-done : goal.returns-in-Outcomes-clause-done
returns-in-Outcomes-clause-done g c =
    subst (λ a. IsDone (g.O.Opener.bytes c.args.opener.now) g.W.Write.contents c.args.out.now c.outcomes_of_files.new.out a c.outcomes_of_files.result)
    (sym c.in-Outcomes.is)
    (subst (λ ps. IsTold (IsBookClassesRun (g.O.Opener.bytes c.args.opener.now) (map (λ (p : Bor (List ℕ)). p.now) ps) g.W.Write.contents c.args.out.now
    c.outcomes_of_files.new.out c.in-Outcomes.wanted) (λ error told. outcomes_told ps error ≡ Some told)
    c.outcomes_of_files.result) c.as_slice-in-Outcomes.ensures.all c.outcomes_of_files.ensures.done)

pub returns-in-Join-clause-done : goal.returns-in-Join-clause-done
returns-in-Join-clause-done g c =
    subst (λ a. IsDone (g.O.Opener.bytes c.args.opener.now) g.W.Write.contents c.args.out.now c.join_of_files.new.out a c.join_of_files.result)
    (sym c.in-Join.is)
    (subst (λ ps. IsTold (IsJoinRun (g.O.Opener.bytes c.args.opener.now) (map (λ (p : Bor (List ℕ)). p.now) ps) g.W.Write.contents c.args.out.now
    c.join_of_files.new.out) (λ error told. join_told ps error ≡ Some told)
    c.join_of_files.result) c.as_slice-in-Join.ensures.all c.join_of_files.ensures.done)

pub returns-in-Missing-clause-done : goal.returns-in-Missing-clause-done
returns-in-Missing-clause-done g c =
    subst (λ a. IsDone (g.O.Opener.bytes c.args.opener.now) g.W.Write.contents c.args.out.now c.missing_of_files.new.out a c.missing_of_files.result)
    (sym c.in-Missing.is)
    (subst (λ ps. IsFound (IsMissingRun (g.O.Opener.bytes c.args.opener.now) (map (λ (p : Bor (List ℕ)). p.now) ps) (missing_by c.in-Missing.lines)
    g.W.Write.contents c.args.out.now
    c.missing_of_files.new.out) (λ error told. missing_told ps error ≡ Some told)
    c.missing_of_files.result) c.as_slice-in-Missing.ensures.all c.missing_of_files.ensures.done)

pub returns-in-Holds-clause-done : goal.returns-in-Holds-clause-done
returns-in-Holds-clause-done g c =
    subst (λ a. IsDone (g.O.Opener.bytes c.args.opener.now) g.W.Write.contents c.args.out.now c.holding_of_file.new.out a c.holding_of_file.result)
    (sym c.in-Holds.is)
    c.holding_of_file.ensures.done

pub returns-in-Judge-clause-done : goal.returns-in-Judge-clause-done
returns-in-Judge-clause-done g c =
    subst (λ a. IsDone (g.O.Opener.bytes c.args.opener.now) g.W.Write.contents c.args.out.now c.judge_of_files.new.out a c.judge_of_files.result)
    (sym c.in-Judge.is)
    (subst (λ ps. IsFound (IsJudgeRun (g.O.Opener.bytes c.args.opener.now) c.in-Judge.path.now (map (λ (p : Bor (List ℕ)). p.now) ps) c.in-Judge.show
    g.W.Write.contents c.args.out.now
    c.judge_of_files.new.out) (λ error told. judge_told c.in-Judge.path ps error ≡ Some told) c.judge_of_files.result)
    c.as_slice-in-Judge.ensures.value c.judge_of_files.ensures.done)

pub returns-in-Test-clause-done : goal.returns-in-Test-clause-done
returns-in-Test-clause-done g c =
    subst (λ a. IsDone (g.O.Opener.bytes c.args.opener.now) g.W.Write.contents c.args.out.now c.test_of_files.new.out a c.test_of_files.result)
    (sym c.in-Test.is)
    (subst (λ ps. IsTestRun (g.O.Opener.bytes c.args.opener.now) (map (λ (p : Bor (List ℕ)). p.now) ps) c.in-Test.level c.in-Test.updates (is_some c.in-Test.junit)
    c.test_of_files.result) c.as_slice-in-Test.ensures.all c.test_of_files.ensures.done)
