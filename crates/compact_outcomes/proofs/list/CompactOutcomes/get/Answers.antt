use Rattle.std.proofs.Common.{◌<◌, ◌∙◌, [], get_or, length, sym, ap, arith}
use Rattle.compact_outcomes.proofs.PieceLemmas.{is-at, piece-inside, told-at, told-length}
use Rattle.compact_outcomes.proofs.list.CompactOutcomes.get.Goals as goal

-- there is an end for each outcome
pub bounds-start-requires : goal.bounds-start-requires
bounds-start-requires c =
    let size = told-length c.self.inside.texts.items c.self.inside.ends.items in
    let inside = rw (← c.self.view_is) at c.requires in
    rw (c.as_slice.ensures.value, ← size) inside

pub slice_bounds-of_text-count : goal.slice_bounds-of_text-count
slice_bounds-of_text-count c =
    let size = told-length c.self.inside.texts.items c.self.inside.ends.items in
    let lt : c.args.place < length c.self.inside.ends.items = rw (← size) (rw (← c.self.view_is) at c.requires) in
    let b = rw c.as_slice.ensures.value at c.bounds-start.ensures in
    let f = piece-inside 0 c.self.inside.ends.items c.self.inside.texts.items c.args.place c.self.invariant.ends_are lt in
    rw (b.start, b.end) f.0

pub slice_bounds-of_text-start : goal.slice_bounds-of_text-start
slice_bounds-of_text-start c =
    let size = told-length c.self.inside.texts.items c.self.inside.ends.items in
    let lt : c.args.place < length c.self.inside.ends.items = rw (← size) (rw (← c.self.view_is) at c.requires) in
    let b = rw c.as_slice.ensures.value at c.bounds-start.ensures in
    let f = piece-inside 0 c.self.inside.ends.items c.self.inside.texts.items c.args.place c.self.invariant.ends_are lt in
    omega (arith, b.start, b.end, f.0, f.1, ap length c.as_slice-2.ensures.value)

pub slice_bounds-of_text-end : goal.slice_bounds-of_text-end
slice_bounds-of_text-end c =
    let size = told-length c.self.inside.texts.items c.self.inside.ends.items in
    let lt : c.args.place < length c.self.inside.ends.items = rw (← size) (rw (← c.self.view_is) at c.requires) in
    let b = rw c.as_slice.ensures.value at c.bounds-start.ensures in
    let f = piece-inside 0 c.self.inside.ends.items c.self.inside.texts.items c.args.place c.self.invariant.ends_are lt in
    omega (arith, b.start, b.end, f.0, f.1, ap length c.as_slice-2.ensures.value)

pub of_text-requires : goal.of_text-requires
of_text-requires c =
    let size = told-length c.self.inside.texts.items c.self.inside.ends.items in
    let lt : c.args.place < length c.self.inside.ends.items = rw (← size) (rw (← c.self.view_is) at c.requires) in
    let b = rw c.as_slice.ensures.value at c.bounds-start.ensures in
    rw (b.start, b.end, c.as_slice-2.ensures.value) (is-at c.self.inside.texts.items c.self.inside.ends.items c.args.place c.self.invariant lt)

pub returns : goal.returns
returns c =
    let size = told-length c.self.inside.texts.items c.self.inside.ends.items in
    let lt : c.args.place < length c.self.inside.ends.items = rw (← size) (rw (← c.self.view_is) at c.requires) in
    let b = rw c.as_slice.ensures.value at c.bounds-start.ensures in
    let told = rw (b.start, b.end, c.as_slice-2.ensures.value) at c.of_text.ensures in
    told ∙ sym (told-at c.self.inside.texts.items c.self.inside.ends.items c.args.place lt) ∙ ap (λ os. get_or os c.args.place []) c.self.view_is
