use Rattle.std.proofs.Common.{◌∙◌, ◌++◌, ◌∷◌, [], ap, map, subst, sym}
use Rattle.std.specs.Vec.{vec_items}
use Rattle.std.proofs.lemmas.List.{map-append}
use Rattle.marked_rows.specs.Places.{AllRise, placed_from}
use Rattle.marked_rows.proofs.PlaceLemmas.{reach-rise, reach-same}
use Rattle.marked_rows.proofs.places.reach.Goals as goal

pub loop-alloc-preserved : goal.loop-alloc-preserved
loop-alloc-preserved c =
    let vs = c.loop-alloc.tables.items in
    let tables = map vec_items vs in
    let more = ap (map vec_items) c.in_ok-push.ensures.items ∙ map-append vec_items vs (c.new.result ∷ []) ∙ ap (λ es. tables ++ es ∷ []) c.new.ensures.items in (
      subst AllRise (sym more) (reach-rise tables c.loop-alloc.invariant.0),
      ap (placed_from 0) more ∙ reach-same 0 tables ∙ c.loop-alloc.invariant.1,
    )
