use Rattle.std.proofs.Common.{sym, ap, ◌∙◌, subst, length, All}
use denote.Param.Send.{sendable}
use Rattle.std.specs.List.{AllZip}
use Rattle.bound_specs.specs.Binding.{IsFileOf}
use Rattle.fact_books.specs.Runs.{AllSound}
use Rattle.fact_books.specs.Entries.{recorded}
use Rattle.book_audit.specs.Findings.{said, IsFinding}
use Rattle.book_audit.specs.Pieces.{runs_of, all_of}
use Rattle.book_audit.specs.declared.finding.Finding.TheVariants as found
use Rattle.book_audit.proofs.Least.{finding-same, said-recorded}
use Rattle.book_audit.proofs.Combined.{all-finding, sound-pieces}
use Rattle.book_audit.proofs.auditing.audit_of.Goals as goal

pub pieces_of-requires : goal.pieces_of-requires
pieces_of-requires g c = record { sound = (length c.args.outcomes.now, c.requires.kept.sound); some = c.most_pieces.ensures }

pub findings_of-requires : goal.findings_of-requires
findings_of-requires g c =
    let n = length c.args.outcomes.now in
    let sound = sound-pieces n c.in_ok-pieces.pieces.items (c.in_ok-pieces.ensures.sound n c.requires.kept.sound) in
    (search sendable depth 20, subst (All (AllSound n)) (sym c.as_slice.ensures.value) sound)

-- what is found of the pieces is found of the runs, and so of what the book's set has
pub returns : goal.returns
returns g c =
    let book = c.args.book.now in
    let run = book.file.run in
    let table = c.args.outcomes.now in
    let pieces = c.in_ok-pieces.pieces.items in
    let findings = c.in_ok-findings.findings.items in
    let file = subst (λ text. IsFileOf text book.file) (sym c.text.ensures) c.known.ensures.file in
    let each = subst (λ ps. AllZip (λ piece finding. IsFinding run (said table piece) finding) ps findings) c.as_slice.ensures.value
    (c.in_ok-findings.ensures book.file file) in
    let all = subst (IsFinding run (said table (runs_of pieces))) (sym (c.all_of.ensures ∙ ap (all_of found.AllTrue) c.as_slice-2.ensures.value))
    (all-finding run table pieces findings each) in
    c.told.ensures book
    (finding-same run (said table (runs_of pieces)) (recorded book.facts) c.all_of.result
    (λ r fact. c.in_ok-pieces.ensures.says table (r, fact) ∙ said-recorded book.facts table c.args.runs.now c.requires.facts r fact) all)
