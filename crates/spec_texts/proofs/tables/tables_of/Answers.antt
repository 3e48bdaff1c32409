use Rattle.std.proofs.Common.{◌∙◌, List, [], map, ap, sym}
use Rattle.spec_reader.specs.declared.tree.Block.{Block}
use Rattle.spec_reader.specs.Tree.{SpecTree}
use Rattle.spec_reader.specs.Views.{block_tree}
use Rattle.binding_model.specs.declared.tables.Table.{Table}
use Rattle.bound_specs.specs.Binding.{declared, main_setup}
use Rattle.spec_texts.proofs.Declaring.{setups-want-memory}
use Rattle.spec_texts.proofs.tables.tables_of.Goals as goal

-- what is read again is the tree that the spec is bound of
pub wants_memory-requires : goal.wants_memory-requires
wants_memory-requires c =
    let is = c.known.ensures.at in
    setups-want-memory c.in-Err.stop (declared main_setup c.new-tables.result.items (map block_tree c.deref.result.now))
    c.args.spec.now.text c.args.spec.now is (
    ap (λ (ts : List Table). declared main_setup ts (map block_tree c.deref.result.now)) c.new-tables.ensures.items
    ∙ ap (λ (bs : List Block). declared main_setup [] (map block_tree bs)) c.deref.ensures.value
    ∙ ap (λ (t : SpecTree). declared main_setup [] t.front.setups) (c.in_ok-text.ensures is.tree is.is_spec)
    ) c.in-Err.ensures

pub returns-in-Ok : goal.returns-in-Ok
returns-in-Ok c =
    let is = c.known.ensures.at in
    record {
      is = is;
      blocks = c.in-Ok._setups.items;
      declares =
          ap (λ (t : SpecTree). declared main_setup [] t.front.setups) (sym (c.in_ok-text.ensures is.tree is.is_spec))
          ∙ ap (λ (bs : List Block). declared main_setup [] (map block_tree bs)) (sym c.deref.ensures.value)
          ∙ ap (λ (ts : List Table). declared main_setup ts (map block_tree c.deref.result.now)) (sym c.new-tables.ensures.items)
          ∙ c.in-Ok.ensures;
    }
