use Rattle.std.proofs.Common.{◌≡◌, sym, subst, take, IfSome}
use Rattle.accepted_classes.specs.Names.{IsAcceptedPath}
use Rattle.program_commands.specs.declared.files.TheConstants.{MAX_SPEC_READ}
use Rattle.program_commands.specs.Testing.{IsSpecAt, IsFoundOf}
use Rattle.program_commands.proofs.TestLemmas.{EndsAs, refused-found, unread-found}
use Rattle.program_commands.proofs.one_spec.test_of_file.Goals as goal

-- the spec file is not read
pub returns-in-Err : goal.returns-in-Err
returns-in-Err g c =
    unread-found (g.F.Opener.bytes c.args.folder.now) c.args.level c.args.updates c.args.path.now c.in-Err.fault c.in-Err.ensures.unread c.refused.result.finding c.refused.ensures

-- it is not tested
pub returns : goal.returns
returns g c =
    let files = g.F.Opener.bytes c.args.folder.now in
    let path = c.args.path.now in
    let bytes = c.as_slice-bytes.result.now in
    let accepted = c.as_str-accepted.result.now in
    let here : IsSpecAt files path bytes c.file_name.result.now accepted = record {
      read = subst (λ b. IfSome (files path) (λ all. b ≡ take MAX_SPEC_READ all)) (sym c.as_slice-bytes.ensures.value) c.in-Ok.ensures.read;
      named = c.file_name.ensures;
      beside = subst (IsAcceptedPath path) (sym c.as_str-accepted.ensures.value) c.in-Ok-accepted_path.ensures;
    } in
    refused-found files c.args.level c.args.updates path bytes c.file_name.result.now accepted here c.in-Err-test_spec.fault c.in-Err-test_spec.ensures.refused c.args.path
    c.as_str-accepted.result c.refused-in-Err-test_spec.result.finding
    (subst (λ f. EndsAs f c.refused-in-Err-test_spec.result.finding) c.fault_of.ensures c.refused-in-Err-test_spec.ensures)

-- its accepted text is written
pub returns-in-Ok-test_spec : goal.returns-in-Ok-test_spec
returns-in-Ok-test_spec g c =
    let files = g.F.Opener.bytes c.args.folder.now in
    let path = c.args.path.now in
    let bytes = c.as_slice-bytes.result.now in
    let here : IsSpecAt files path bytes c.file_name.result.now c.as_str-accepted.result.now = record {
      read = subst (λ b. IfSome (files path) (λ all. b ≡ take MAX_SPEC_READ all)) (sym c.as_slice-bytes.ensures.value) c.in-Ok.ensures.read;
      named = c.file_name.ensures;
      beside = subst (IsAcceptedPath path) (sym c.as_str-accepted.ensures.value) c.in-Ok-accepted_path.ensures;
    } in
    subst (λ u. IsFoundOf files c.args.level u path c.updated.result.finding) (sym c.if-updates.true)
    (c.updated.ensures files c.args.level path bytes c.file_name.result.now here c.in-Ok-test_spec.ensures.tested)

-- or compared
pub returns-in-Ok-2 : goal.returns-in-Ok-2
returns-in-Ok-2 g c =
    let files = g.F.Opener.bytes c.args.folder.now in
    let path = c.args.path.now in
    let bytes = c.as_slice-bytes.result.now in
    let accepted = c.as_str-accepted.result.now in
    let here : IsSpecAt files path bytes c.file_name.result.now accepted = record {
      read = subst (λ b. IfSome (files path) (λ all. b ≡ take MAX_SPEC_READ all)) (sym c.as_slice-bytes.ensures.value) c.in-Ok.ensures.read;
      named = c.file_name.ensures;
      beside = subst (IsAcceptedPath path) (sym c.as_str-accepted.ensures.value) c.in-Ok-accepted_path.ensures;
    } in
    subst (λ u. IsFoundOf files c.args.level u path c.compared.result.finding) (sym c.if-updates.false)
    (c.compared.ensures files c.args.level path c.file_name.result.now accepted here c.in-Ok-test_spec.ensures.tested)
