-- Runs in pieces.
use Rattle.std.proofs.Common.{◌≡◌, refl, sym, ap, ◌∙◌, subst, ℕ, ◌≤◌, max, Bool, true, false, ◌||◌, List, [], ◌∷◌, ◌++◌, append_assoc, append-nil, arith}
use Rattle.std.proofs.Common.{Result, Ok, Err}
use Rattle.std.proofs.Math.Bool.{or_assoc, or-false}
use Rattle.std.proofs.lemmas.List.Folds.{list_any-append}
use Rattle.std.specs.List.{list_any}
use Rattle.std.specs.Result.{OnOk}
use Rattle.fact_books.specs.declared.run.Run.{Run}
use Rattle.fact_books.specs.Entries.{Entry}
use Rattle.fact_books.specs.Runs.{Table, has, Adds, AllSound, KeepsSound}
use Rattle.fact_books.proofs.RunLemmas.{both_true, within-true, has-grown, AllSound-push}
use Rattle.book_audit.specs.Pieces.{runs_of}

pub runs_of-append : (xs ys : List (List Run)) → runs_of (xs ++ ys) ≡ runs_of xs ++ runs_of ys
runs_of-append [] ys = refl
runs_of-append (x ∷ xs) ys = ap (λ l. x ++ l) (runs_of-append xs ys) ∙ sym (append_assoc x (runs_of xs) (runs_of ys))

-- the last piece is ended
pub runs_of-ended : (ended : List (List Run)) (piece : List Run) → runs_of (ended ++ piece ∷ []) ++ [] ≡ runs_of ended ++ piece
runs_of-ended ended piece =
    append-nil (runs_of (ended ++ piece ∷ [])) ∙ runs_of-append ended (piece ∷ []) ∙ ap (λ l. runs_of ended ++ l) (append-nil piece)

-- ---- one more run

-- what a run says up to one of its ranks
abbrev pub up_to : Run → ℕ → Run
up_to run end = record { first = run.first; end = end; tag = run.tag }

has-no_rank : (table : Table) (e : Entry) (run : Run) → has table e (up_to run run.first) ≡ false
has-no_rank table e run = none (has table e (up_to run run.first)) refl
  where
    none : (b : Bool) → has table e (up_to run run.first) ≡ b → has table e (up_to run run.first) ≡ false
    none false is = is
    none true is = absurd (let inside = within-true run.first run.first e.0 (both_true _ _ is).0 in omega (arith, inside.0, inside.1))

pub adds-no_rank : (old : List Run) (run : Run) → Adds old (up_to run run.first) old
adds-no_rank old run = λ table e. sym (ap (λ b. list_any (has table e) old || b) (has-no_rank table e run) ∙ or-false _)

pub adds-last : (old new : List Run) (run : Run) → new ≡ old ++ run ∷ [] → Adds old run new
adds-last old new run is = λ table e.
    ap (list_any (has table e)) is ∙ list_any-append (has table e) old (run ∷ [])
    ∙ ap (λ b. list_any (has table e) old || b) (or-false (has table e run))

pub sound-last : (old new : List Run) (run : Run) → new ≡ old ++ run ∷ [] → KeepsSound old run new
sound-last old new run is = λ n a s. subst (AllSound n) (sym is) (AllSound-push n old run a s)

-- a part that follows on those before it
pub adds-part : (old now new : List Run) (run part : Run) → Adds old (up_to run part.first) now → new ≡ now ++ part ∷ []
    → run.tag ≡ part.tag → run.first ≤ part.first → part.first ≤ part.end → Adds old (up_to run part.end) new
adds-part old now new run part so_far is tag low le = λ table e.
    adds-last now new part is table e
    ∙ ap (λ b. b || has table e part) (so_far table e)
    ∙ or_assoc (list_any (has table e) old) (has table e (up_to run part.first)) (has table e part)
    ∙ ap (λ b. list_any (has table e) old || b) (sym (whole table e))
  where
    long : max part.first part.end ≡ part.end
    long = omega (arith, le)

    whole : (table : Table) (e : Entry) → has table e (up_to run part.end) ≡ (has table e (up_to run part.first) || has table e part)
    whole table e =
        ap (λ end. has table e (up_to run end)) (sym long) ∙ has-grown table e (up_to run part.first) part tag low (omega arith)

pub OnOk-then : {T E : Type 0} (r : Result T E) (P Q : Type 0) → OnOk r P → (P → Q) → OnOk r Q
OnOk-then (Ok v) P Q h f = f h
OnOk-then (Err e) P Q h f = tt
