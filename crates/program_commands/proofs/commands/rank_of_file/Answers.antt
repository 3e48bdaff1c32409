use Rattle.std.proofs.Common.{refl, subst, map, inl, inr, Ok, Err, Bor, List, ℕ}
use Rattle.spec_commands.specs.Ordering.{IsRanked}
use Rattle.program_commands.proofs.commands.rank_of_file.Goals as goal

pub returns-in-Err-clause-done : goal.returns-in-Err-clause-done
returns-in-Err-clause-done g c = inl (refl, c.in-Err.ensures.unread)

pub returns-in-Ok-rank-clause-done : goal.returns-in-Ok-rank-clause-done
returns-in-Ok-rank-clause-done g c =
    let names = map (λ (n : Bor (List ℕ)). n.now) c.args.names.now in
    inr (
      c.in-Ok.bytes.items,
      c.in-Ok.ensures.read,
      (refl, subst (λ b. IsRanked g.W.Write.contents c.args.out.now c.rank.new.out b names (Ok tt)) c.as_slice.ensures.value c.in-Ok-rank.ensures.ranked),
    )

pub returns-clause-done : goal.returns-clause-done
returns-clause-done g c =
    let names = map (λ (n : Bor (List ℕ)). n.now) c.args.names.now in
    inr (
      c.in-Ok.bytes.items,
      c.in-Ok.ensures.read,
      (
        c.in-Err-rank.fault,
        subst (λ b. IsRanked g.W.Write.contents c.args.out.now c.rank.new.out b names (Err c.in-Err-rank.fault)) c.as_slice.ensures.value
            c.in-Err-rank.ensures.ranked,
        c.rank_fault.ensures,
      ),
    )
