use Rattle.std.proofs.Common.{subst, map}
use Rattle.class_commands.specs.Booking.{IsBookText}
use Rattle.class_commands.specs.BookParts.{WritesBook}
use Rattle.class_commands.proofs.BookLemmas.{books-run, books-not-found}
use Rattle.class_commands.proofs.booking.book_classes.Goals as goal

pub returns-in-Err-find_outcomes : goal.returns-in-Err-find_outcomes
returns-in-Err-find_outcomes g c =
    books-not-found g.W.Write.contents (g.O.Opener.bytes c.args.opener.now) (map (λ p. p.now) c.args.paths.now) c.args.wanted.now c.in-Ok.book
    c.in-Ok.ensures c.args.out.now c.in-Err-find_outcomes.fault c.in-Err-find_outcomes.ensures.refused

pub returns : goal.returns
returns g c =
    let found = c.in-Ok-find_outcomes.found in
    let is = c.in-Ok-find_outcomes.ensures.found in
    books-run g.W.Write.contents (g.O.Opener.bytes c.args.opener.now) (map (λ p. p.now) c.args.paths.now) c.args.wanted.now c.in-Ok.book
    c.in-Ok.ensures c.args.out.now c.write_outcomes.new.out found.classes is.1 c.write_outcomes.result
    (subst (λ f. WritesBook g.W.Write.contents c.args.out.now c.write_outcomes.new.out
    (IsBookText (map (λ p. p.now) c.args.paths.now) f found.classes c.args.wanted.now) c.write_outcomes.result) is.0 c.write_outcomes.ensures)
