use Rattle.std.proofs.Common.{All, List, ℕ, ap, map, string_bytes, subst, sym, ◌∙◌}
use Rattle.spec_reader.specs.Whole.{spec_tree}
use Rattle.file_blocks.specs.Blocks.{SentTree, sent_blocks, sent_tree}
use Rattle.spec_findings.specs.Faults.{IsFaultIn}
use Rattle.spec_findings.specs.Told.{TellsFaults}
use Rattle.spec_findings.proofs.told.told_of.Goals as goal

pub returns : goal.returns
returns c =
    let tree = spec_tree c.args.file.now in
    let blocks = ap (map sent_tree) c.deref.ensures.value ∙ c.in_ok-blocks.ensures in
    let faults = subst (λ (bs : List SentTree). All (IsFaultIn bs) c.in_ok-faults.faults.items) blocks c.in_ok-faults.ensures in (
      c.deref-3.result.now,
      record {
        tree = tree;
        is_spec = c.requires;
        faults = c.deref-5.result.now;
        are_faults = subst (All (IsFaultIn (sent_blocks tree))) (sym c.deref-5.ensures.value) faults;
        tells = subst (λ (before : List ℕ). TellsFaults c.args.path.now c.args.text.now before c.deref-5.result.now (string_bytes c.push_faults.new.told))
            c.in_ok-told.ensures c.in_ok-push_faults.ensures;
      },
    )
