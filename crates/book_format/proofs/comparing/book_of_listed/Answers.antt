use Rattle.std.proofs.Common.{◌≡◌, ap, subst, ◌∙◌, length, [], arith}
use Rattle.std.specs.Prelude.{All, string_bytes}
use Rattle.std.proofs.lemmas.List.Elements.{All-nil}
use Rattle.serde_json.specs.Data.{string}
use Rattle.serde_json.specs.Written.{compact_text}
use Rattle.book_format.specs.Laws.{RunFits}
use Rattle.book_format.specs.Pieces.{parts_text}
use Rattle.book_format.proofs.ReadLemmas.{IsToldBy, outcomes-told}
use Rattle.book_format.proofs.RunLaws.{read-rising, read-sound, read-recordable}
use Rattle.book_format.proofs.TextBooks.{outcome_values, run_values, runs-of, text-book}
use Rattle.book_format.proofs.comparing.book_of_listed.Goals as goal

pub of_runs-requires-clause-rising : goal.of_runs-requires-clause-rising
of_runs-requires-clause-rising c =
    let spec = c.args.spec.now.run in
    let size : c.in_ok-count.count ≡ length c.args.outcomes = omega (arith, c.len.ensures, c.in_ok-count.ensures) in
    read-rising spec c.args.outcomes (run_values c.args.runs.items) c.args.runs.items
    (runs-of spec _ _ _ c.args.runs.items size c.as_slice-2.ensures.value (c.in_ok-stand.ensures c.if-not-stand.false))

pub of_runs-requires-clause-sound : goal.of_runs-requires-clause-sound
of_runs-requires-clause-sound c =
    let spec = c.args.spec.now.run in
    let size : c.in_ok-count.count ≡ length c.args.outcomes = omega (arith, c.len.ensures, c.in_ok-count.ensures) in
    read-sound spec c.args.outcomes (run_values c.args.runs.items) c.args.runs.items
    (runs-of spec _ _ _ c.args.runs.items size c.as_slice-2.ensures.value (c.in_ok-stand.ensures c.if-not-stand.false))

pub of_runs-requires-clause-recordable : goal.of_runs-requires-clause-recordable
of_runs-requires-clause-recordable c =
    let spec = c.args.spec.now.run in
    let size : c.in_ok-count.count ≡ length c.args.outcomes = omega (arith, c.len.ensures, c.in_ok-count.ensures) in
    read-recordable spec c.args.outcomes (run_values c.args.runs.items) c.args.runs.items
    (runs-of spec _ _ _ c.args.runs.items size c.as_slice-2.ensures.value (c.in_ok-stand.ensures c.if-not-stand.false))
    (outcomes-told spec [] (outcome_values c.args.outcomes) c.args.outcomes (All-nil (IsToldBy spec)) c.requires.listed)

pub returns : goal.returns
returns c =
    let spec = c.args.spec.now.run in
    let size : c.in_ok-count.count ≡ length c.args.outcomes = omega (arith, c.len.ensures, c.in_ok-count.ensures) in
    let text = c.in_ok-same.ensures c.if-not-same.false in
    text-book c.args.bytes.now c.args.spec.now c.args.outcomes c.args.runs.items (string_bytes c.in_ok-quoted.quoted) _
    (c.are_text.ensures.text c.if-not-are_text.false) (c.are_text.ensures.few c.if-not-are_text.false) (c.known.ensures.of c.requires.unasked)
    c.requires.listed
    (runs-of spec _ _ _ c.args.runs.items size c.as_slice-2.ensures.value (c.in_ok-stand.ensures c.if-not-stand.false))
    (subst (All RunFits) c.as_slice.ensures.value c.facts_in.ensures.fit)
    (c.in_ok-quoted.ensures ∙ ap (λ t. compact_text (string t)) c.text.ensures)
    (text ∙ (λ i. parts_text (c.as_slice-3.ensures.value i) c.args.outcomes (c.as_str.ensures.value i)))
    c.in_ok-of_runs.ensures.file c.in_ok-of_runs.ensures.facts
