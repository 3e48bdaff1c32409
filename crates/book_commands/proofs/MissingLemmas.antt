-- What books tell of ranks, and why it is not told which they miss.
use Rattle.std.proofs.Common.{◌≡◌, refl, sym, ◌∙◌, subst, ℕ, List, length, Option, Some, None, Err}
use Rattle.transcripts.specs.declared.counted.Counted.{Counted}
use Rattle.fact_books.specs.Books.{Contents}
use Rattle.class_stretches.specs.Stretches.{class_at}
use Rattle.book_stretches.specs.declared.told.ToldRanks.{ToldRanks}
use Rattle.book_stretches.specs.Telling.{AreTold, IsToldAt}
use Rattle.book_stretches.specs.Missing.{HasNoClash}
use Rattle.book_commands.specs.declared.missing.MissingRanks.{MissingRanks}
use Rattle.book_commands.specs.declared.missing.MissingFault.{MissingFault}
use Rattle.book_commands.specs.declared.missing.MissingFault.TheVariants.{Join, Clash, NoMemory, Write}
use Rattle.book_commands.specs.Joining.{Files, IsJoinOf}
use Rattle.book_commands.specs.Missing.{IsMissingRun, IsNotMissing}

-- a book of which it is told what it tells has no clash
pub told-once : (book : Contents) (x : ToldRanks) → AreTold book x → HasNoClash book
told-once book x told r o p lt a b = by (class_at x.stretches.list r) refl
  where
    at-class : (c : Option ℕ) → class_at x.stretches.list r ≡ c → IsToldAt book x.outcomes.items r c
    at-class c e = subst (IsToldAt book x.outcomes.items r) e (told.each r lt)

    by : (c : Option ℕ) → class_at x.stretches.list r ≡ c → o ≡ p
    by None e = absurd (at-class None e o a)
    by (Some c) e = let here = at-class (Some c) e in here.2.only o a ∙ sym (here.2.only p b)

-- a joined book that is refused leaves nothing written
pub not-missing : (files : Files) (paths : List (List ℕ)) (asked : MissingRanks) {W : Type 0} (contents : W → Option (List ℕ)) (out : Counted W)
    (book : Contents) (fault : MissingFault) → IsJoinOf files paths (length paths) book → IsNotMissing book fault
    → IsMissingRun files paths asked contents out out (Err fault)
not-missing files paths asked contents out book (Join fault) joined h = absurd h
not-missing files paths asked contents out book (Clash rank) joined h = (refl, (book, joined, h))
not-missing files paths asked contents out book NoMemory joined h = refl
not-missing files paths asked contents out book (Write fault) joined h = absurd h
