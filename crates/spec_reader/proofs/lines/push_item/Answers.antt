use Rattle.std.proofs.Common.{sym, ap, ◌∙◌, ◌++◌, map, ◌∷◌, []}
use Rattle.std.proofs.lemmas.List.{map_push}
use Rattle.spec_reader.specs.Lexing.{view, views}
use Rattle.spec_reader.specs.Reading.{reads, reads_item, ItemDone}
use Rattle.spec_reader.specs.Views.{item_tree}
use Rattle.spec_reader.proofs.lines.push_item.Goals as goal

pub returns-clause-reads : goal.returns-clause-reads
returns-clause-reads c =
    let sessions = c.args.sessions.now in
    let item = c.in_ok-item.item in
    let behind = view c.in_ok-item.next ∷ views c.in_ok-item.rest.now in
    let items = ap (map item_tree) c.in_ok-push.ensures.items ∙ map_push item_tree c.args.items.now.items item in
    λ f ls.
    ap (λ xs. reads_item f sessions ls (map item_tree xs) (view c.args.token.now) (views c.args.tokens.now)) (sym c.deref.ensures.value)
    ∙ c.in_ok-item.ensures.reads f ls
    ∙ ap (λ xs. reads (ItemDone f sessions ls (map item_tree xs ++ item_tree item ∷ [])) behind) c.deref.ensures.value
    ∙ ap (λ is. reads (ItemDone f sessions ls is) behind) (sym items)
