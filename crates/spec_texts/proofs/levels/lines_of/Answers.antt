use Rattle.std.proofs.Common.{◌≡◌, ◌∙◌, List, ap, map}
use Rattle.std.proofs.lemmas.Result.{IfOk-weaker}
use Rattle.file_blocks.specs.Blocks.{sent_blocks, sent_tree}
use Rattle.file_blocks.specs.declared.blocks.SentBlock.{SentBlock}
use Rattle.spec_texts.specs.Levels.{AreLinesOf, lines_from}
use Rattle.spec_texts.specs.Statements.{statements_with}
use Rattle.spec_texts.proofs.levels.lines_of.Goals as goal

-- what is read again is the tree that the spec is bound of
pub returns : goal.returns
returns c =
    let is = c.known.ensures.at in
    let text = c.as_bytes.ensures.value ∙ c.text.ensures in
    let blocks : map sent_tree c.deref.result.now ≡ sent_blocks is.tree =
    ap (λ (bs : List SentBlock). map sent_tree bs) c.deref.ensures.value ∙ c.in_ok-blocks.ensures
    ∙ ap sent_blocks (c.in_ok-file.ensures is.tree is.is_spec) in
    let places : c.deref-2.result.now ≡ statements_with c.args.kind (sent_blocks is.tree) =
    c.deref-2.ensures.value ∙ c.in_ok-places.ensures ∙ ap (statements_with c.args.kind) blocks in
    IfOk-weaker c.lines_at.result _ (λ lines. AreLinesOf c.args.kind c.args.spec.now.text c.args.spec.now lines.items)
    (λ lines e. record { is = is; are = e ∙ (λ i. lines_from (text i) 0 (places i)) }) c.lines_at.ensures
