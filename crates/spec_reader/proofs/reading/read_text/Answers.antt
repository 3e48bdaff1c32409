use Rattle.std.proofs.Common.{◌≡◌, sym, ap, subst, ◌∙◌, Ok, arith}
use Rattle.std.specs.String.{string_bytes}
use Rattle.spec_reader.specs.Lexing.{views, token_list}
use Rattle.spec_reader.specs.Reading.{Start, reads}
use Rattle.spec_reader.specs.Views.{file_tree, fault_of}
use Rattle.spec_reader.proofs.Ended.{never_more}
use Rattle.spec_reader.proofs.Verdict.{is_spec, same_tree, no_fault, is_fault}
use Rattle.spec_reader.specs.Text.{IsSpec}
use Rattle.spec_reader.proofs.reading.read_text.Goals as goal
use Rattle.spec_reader.proofs.reading.read_text.Goals.{In-Ok-parts_of}

-- the tokens of the text are read as these parts
is_read_as : (c : In-Ok-parts_of)
    → reads Start (token_list c.args.text.now) ≡ Ok (file_tree c.in-Ok-parts_of.front c.in-Ok-parts_of.sessions.items c.in-Ok-parts_of.lines.items)
is_read_as c =
    let all : views c.deref.result.now ≡ token_list c.args.text.now = ap views c.deref.ensures.value ∙ c.in-Ok-tokens_of.ensures in
    ap (reads Start) (sym all) ∙ c.in-Ok-parts_of.ensures

-- so the text is a spec file of them
is_of_parts : (c : In-Ok-parts_of) → IsSpec c.args.text.now (file_tree c.in-Ok-parts_of.front c.in-Ok-parts_of.sessions.items c.in-Ok-parts_of.lines.items)
is_of_parts c = is_spec c.args.text.now _ (omega arith) c.utf8.text (is_read_as c)

-- and so is its copy
is_of_text : (c : In-Ok-parts_of)
    → IsSpec (string_bytes c.in-Ok.whole) (file_tree c.in-Ok-parts_of.front c.in-Ok-parts_of.sessions.items c.in-Ok-parts_of.lines.items)
is_of_text c =
    let tree = file_tree c.in-Ok-parts_of.front c.in-Ok-parts_of.sessions.items c.in-Ok-parts_of.lines.items in
    subst (λ bytes. IsSpec bytes tree) (sym c.in-Ok.ensures.ok) (is_of_parts c)

pub invariant_of-result : goal.invariant_of-result
invariant_of-result c = record { is_spec = ∣ is_of_text (goal.at.invariant_of-result c).In-Ok-parts_of ∣₁ }

pub returns-in-Ok-parts_of-clause-sound : goal.returns-in-Ok-parts_of-clause-sound
returns-in-Ok-parts_of-clause-sound c = is_of_parts (goal.at.returns-in-Ok-parts_of-clause-sound c).In-Ok-parts_of

pub returns-in-Ok-parts_of-clause-complete : goal.returns-in-Ok-parts_of-clause-complete
returns-in-Ok-parts_of-clause-complete c =
    λ tree h. same_tree c.args.text.now _ tree (is_read_as (goal.at.returns-in-Ok-parts_of-clause-complete c).In-Ok-parts_of) h

pub returns-in-Err-Fault-clause-complete : goal.returns-in-Err-Fault-clause-complete
returns-in-Err-Fault-clause-complete c =
    let all : views c.deref.result.now ≡ token_list c.args.text.now = ap views c.deref.ensures.value ∙ c.in-Ok-tokens_of.ensures in
    λ tree h. absurd (no_fault c.args.text.now (fault_of c.in-Err-Fault.error) tree (ap (reads Start) (sym all)
    ∙ rw c.in-Err-Fault.field-0-is at c.in-Err-Fault.ensures) h)

pub returns-in-Err-Fault-clause-fault : goal.returns-in-Err-Fault-clause-fault
returns-in-Err-Fault-clause-fault c =
    let all : views c.deref.result.now ≡ token_list c.args.text.now = ap views c.deref.ensures.value ∙ c.in-Ok-tokens_of.ensures in
    is_fault c.args.text.now c.in-Err-Fault.error (omega arith) c.utf8.text (ap (reads Start) (sym all)
    ∙ rw c.in-Err-Fault.field-0-is at c.in-Err-Fault.ensures)

pub unreachable-requires : goal.unreachable-requires
unreachable-requires c =
    let all : views c.deref.result.now ≡ token_list c.args.text.now = ap views c.deref.ensures.value ∙ c.in-Ok-tokens_of.ensures in
    never_more c.args.text.now (ap (reads Start) (sym all) ∙ rw c.in-Err-Short.field-0-is at c.in-Err-Short.ensures)
