use Rattle.std.proofs.Common.{ap, ◌∙◌, subst, map, Bor, List, ℕ}
use Rattle.transcripts.specs.Counted.{Wrote, Stopped}
use Rattle.book_commands.specs.Missing.{finding_of, missing_text}
use Rattle.book_commands.proofs.MissingLemmas.{not-missing}
use Rattle.book_commands.proofs.missing.missing_files.Goals as goal

-- the joined book clashes, or memory ran out
pub returns-in-Err-missing_in : goal.returns-in-Err-missing_in
returns-in-Err-missing_in g c =
    not-missing (g.O.Opener.bytes c.args.opener.now) (map (λ (p : Bor (List ℕ)). p.now) c.args.paths.now) c.args.asked g.W.Write.contents c.args.out.now
    c.in-Ok.book c.in-Err-missing_in.fault c.in-Ok.ensures c.in-Err-missing_in.ensures.refused

pub returns-in-Ok-write_runs : goal.returns-in-Ok-write_runs
returns-in-Ok-write_runs g c =
    let missing = c.in-Ok-missing_in.ensures.missing in (
      c.in-Ok-missing_in.runs.items,
      record { book = c.in-Ok.book; joined = c.in-Ok.ensures; one = missing.one; are = missing.are },
      c.finding_of.ensures ∙ ap finding_of c.as_slice-in-Ok-write_runs.ensures.value,
      subst (λ rs. Wrote g.W.Write.contents c.args.out.now c.write_runs.new.out (missing_text c.args.asked rs)) c.as_slice.ensures.value
          c.in-Ok-write_runs.ensures,
    )

-- a line is not written
pub returns : goal.returns
returns g c =
    let missing = c.in-Ok-missing_in.ensures.missing in (
      c.in-Ok-missing_in.runs.items,
      record { book = c.in-Ok.book; joined = c.in-Ok.ensures; one = missing.one; are = missing.are },
      subst (λ rs. Stopped g.W.Write.contents c.args.out.now c.write_runs.new.out (missing_text c.args.asked rs)) c.as_slice.ensures.value
          c.in-Err-write_runs.ensures,
    )
