use Rattle.std.proofs.Common.{refl, sym, ap, subst, Ok, Err, Bor, List, ℕ}
use Rattle.std.proofs.lemmas.List.{get_or-map}
use Rattle.book_commands.specs.Joining.{IsFileBook}
use Rattle.book_commands.proofs.joining.with_next.Goals as goal

-- the next book is of the same spec
pub returns-in-Ok-join : goal.returns-in-Ok-join
returns-in-Ok-join g c = (
  c.in-Ok.next,
  subst (λ p. IsFileBook (g.O.Opener.bytes c.args.opener.now p) (Ok c.in-Ok.next))
      (sym (get_or-map (λ (p : Bor (List ℕ)). p.now) c.args.paths.now c.args.place _ _ c.requires)) c.in-Ok.ensures,
  c.in-Ok-join.ensures.same,
  c.in-Ok-join.ensures.union,
)

-- it is of another
pub returns-in-Err-SpecMismatch : goal.returns-in-Err-SpecMismatch
returns-in-Err-SpecMismatch g c = (
  refl,
  (
    c.in-Ok.next,
    subst (λ p. IsFileBook (g.O.Opener.bytes c.args.opener.now p) (Ok c.in-Ok.next))
        (sym (get_or-map (λ (p : Bor (List ℕ)). p.now) c.args.paths.now c.args.place _ _ c.requires)) c.in-Ok.ensures,
    c.in-Err-SpecMismatch.ensures.mismatch.0 (ap Err c.in-Err-SpecMismatch.field-0-is),
  ),
)
