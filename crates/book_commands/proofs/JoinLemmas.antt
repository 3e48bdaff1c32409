-- Books of files, joined one after another.
use Rattle.std.proofs.Common.{◌≡◌, sym, subst, ℕ, zero, suc, ◌+◌, ◌<◌, List, length, Option, Result, Ok, Err, IsErrAnd, arith}
use Rattle.transcripts.specs.declared.counted.Counted.{Counted}
use Rattle.fact_books.specs.Books.{Contents}
use Rattle.book_commands.specs.declared.joining.JoinFault.{JoinFault}
use Rattle.book_commands.specs.declared.joining.JoinFault.TheVariants.{File, OtherSpec, NoMemory, Write}
use Rattle.book_commands.specs.Joining.{Files, IsJoinOf, AreJoined, IsNotJoined, IsJoined, IsJoinRun, IsNext, IsPlaced}

module _ (files : Files) (paths : List (List ℕ)) where
  -- one more
  pub joined-next : (place : ℕ) (before book : Contents) → 0 < place → IsJoinOf files paths place before → IsNext files paths place before (Ok book)
      → IsJoinOf files paths (place + 1) book
  joined-next zero before book some h n = absurd (omega (arith, some))
  joined-next (suc place) before book some h n =
      subst (λ k. IsJoinOf files paths k book) (let e : suc (suc place) ≡ suc place + 1 = grind arith in e) (before, n.0, h, n.1, n.2, n.3)

  before-place : (place : ℕ) (book : Contents) → 0 < place → IsJoinOf files paths place book → AreJoined files paths place
  before-place zero book some h = absurd (omega (arith, some))
  before-place (suc place) book some h = (book, h)

  -- none more
  pub next-refused : (place : ℕ) (before : Contents) (fault : JoinFault) → 0 < place → place < length paths → IsJoinOf files paths place before
      → IsNext files paths place before (Err fault) → IsNotJoined files paths fault
  next-refused place before (File at fault) some lt h n =
      subst (λ k. IsNotJoined files paths (File k fault)) (sym n.0) (lt, before-place place before some h, n.1)
  next-refused place before (OtherSpec at) some lt h n =
      subst (λ k. IsNotJoined files paths (OtherSpec k)) (sym n.0) (lt, (before, n.1.0, h, n.1.1, n.1.2))
  next-refused place before NoMemory some lt h n = tt
  next-refused place before (Write error) some lt h n = n

  pub refused-by : (place : ℕ) (before : Contents) (fault : JoinFault) (result : Result Contents JoinFault) → 0 < place → place < length paths
      → IsJoinOf files paths place before → IsNext files paths place before (Err fault) → IsErrAnd result (λ f. f ≡ fault) → IsJoined files paths result
  refused-by place before fault (Ok book) some lt h n e = absurd e
  refused-by place before fault (Err f) some lt h n e = subst (IsNotJoined files paths) (sym e) (next-refused place before fault some lt h n)

-- a fault of a file is one of these files
pub run-placed : (files : Files) (paths : List (List ℕ)) {W : Type 0} (contents : W → Option (List ℕ)) (old new : Counted W) (fault : JoinFault)
    → IsJoinRun files paths contents old new (Err fault) → IsPlaced (length paths) fault
run-placed files paths contents old new (File place fault) h = h.1.0
run-placed files paths contents old new (OtherSpec place) h = h.1.0
run-placed files paths contents old new NoMemory h = tt
run-placed files paths contents old new (Write error) h = tt
