use Rattle.std.proofs.Common.{◌≡◌, ◌<◌, subst, length, map, arith, Bor, List, ℕ}
use Rattle.std.proofs.lemmas.List.{length-map}
use Rattle.book_commands.specs.Joining.{IsJoinOf}
use Rattle.book_commands.proofs.JoinLemmas.{joined-next, refused-by}
use Rattle.book_commands.proofs.joining.joined_files.Goals as goal

-- the next book is refused
pub returns-in_err-book : goal.returns-in_err-book
returns-in_err-book g c =
    let count = length-map c.args.paths.now (λ (p : Bor (List ℕ)). p.now) in
    let lt : c.loop-place.place < length (map (λ (p : Bor (List ℕ)). p.now) c.args.paths.now) = omega (arith, c.loop-place-test.true, count) in
    refused-by (g.O.Opener.bytes c.args.opener.now) (map (λ (p : Bor (List ℕ)). p.now) c.args.paths.now) c.loop-place.place c.loop-place.book _ _
    c.loop-place.invariant.0 lt c.loop-place.invariant.1 c.in_err-book.ensures c.from_residual.ensures.1

-- one more book
pub loop-place-preserved : goal.loop-place-preserved
loop-place-preserved g c = (
  omega arith,
  joined-next (g.O.Opener.bytes c.args.opener.now) (map (λ (p : Bor (List ℕ)). p.now) c.args.paths.now) c.loop-place.place c.loop-place.book c.in_ok-book.book
      c.loop-place.invariant.0 c.loop-place.invariant.1 c.in_ok-book.ensures,
)

-- all books
pub returns : goal.returns
returns g c =
    let count = length-map c.args.paths.now (λ (p : Bor (List ℕ)). p.now) in
    let all : c.loop-place.place ≡ length (map (λ (p : Bor (List ℕ)). p.now) c.args.paths.now) =
    omega (arith, c.requires, c.loop-place-test.false, c.loop-place.auto.place-end, count) in
    subst (λ n. IsJoinOf (g.O.Opener.bytes c.args.opener.now) (map (λ (p : Bor (List ℕ)). p.now) c.args.paths.now) n c.loop-place.book)
    all c.loop-place.invariant.1
