use Rattle.std.proofs.Common.{map, ap, sym, ◌∙◌, length, arith, subst, length-drop, IsUtf8}
use Rattle.std.proofs.lemmas.Str.{IsUtf8-drop}
use Rattle.byte_runs.specs.declared.pieces.Piece.TheVariants as piece
use Rattle.byte_runs.specs.declared.pieces.Placed.{Placed}
use Rattle.byte_runs.specs.Pieces.{placed_by, token_list}
use Rattle.byte_runs.proofs.PieceLemmas.{goes_on, goes_on_after, placed_push}
use Rattle.byte_runs.proofs.cutting.tokens_of.Goals as goal

pub loop-len-preserved-in-Blank : goal.loop-len-preserved-in-Blank
loop-len-preserved-in-Blank g c =
    let cut = g.T.Cut in
    let back = c.split_at.ensures.back in
    let rest = c.loop-len.rest.now in
    let fits = c.in-Blank.ensures.fits in
    record {
      utf8 = subst IsUtf8 (sym back) (IsUtf8-drop rest c.in-Blank.len c.loop-len.invariant.utf8 fits.at_char);
      within = omega (arith, ap length back, length-drop c.in-Blank.len rest, fits.at_char.0);
      so_far = rw back (goes_on cut.piece_of cut.end cut.ended (map (placed_by cut.view) c.loop-len.tokens.items)
          (token_list cut.piece_of cut.end c.args.text.now) c.loop-len.at rest (piece.Blank c.in-Blank.len) fits c.in-Blank.ensures.piece
          c.loop-len.invariant.so_far);
    }

pub loop-len-preserved : goal.loop-len-preserved
loop-len-preserved g c =
    let cut = g.T.Cut in
    let back = c.split_at-in-Next.ensures.back in
    let rest = c.loop-len.rest.now in
    let fits = c.in-Next.ensures.fits in
    let before = map (placed_by cut.view) c.loop-len.tokens.items in
    let whole = token_list cut.piece_of cut.end c.args.text.now in
    let t : Placed _ = record { at = c.loop-len.at; token = c.in-Next.token } in
    record {
      utf8 = subst IsUtf8 (sym back) (IsUtf8-drop rest c.in-Next.len c.loop-len.invariant.utf8 fits.at_char);
      within = omega (arith, ap length back, length-drop c.in-Next.len rest, fits.at_char.0);
      so_far = rw back (goes_on_after before (map (placed_by cut.view) c.push.new.self.items) whole (placed_by cut.view t) _
          (placed_push cut.view c.loop-len.tokens.items c.push.new.self.items t c.in_ok-push-in-Next.ensures.items)
          (goes_on cut.piece_of cut.end cut.ended before whole c.loop-len.at rest (piece.Next (cut.view c.in-Next.token) c.in-Next.len) fits
          c.in-Next.ensures.piece c.loop-len.invariant.so_far));
    }

pub returns-in-Last : goal.returns-in-Last
returns-in-Last g c =
    let cut = g.T.Cut in
    let t : Placed _ = record { at = c.loop-len.at; token = c.in-Last.token } in
    placed_push cut.view c.loop-len.tokens.items c.push-in-Last.new.self.items t c.in_ok-push-in-Last.ensures.items
    ∙ goes_on cut.piece_of cut.end cut.ended (map (placed_by cut.view) c.loop-len.tokens.items) (token_list cut.piece_of cut.end c.args.text.now)
    c.loop-len.at c.loop-len.rest.now (piece.Last (cut.view c.in-Last.token)) c.in-Last.ensures.fits c.in-Last.ensures.piece c.loop-len.invariant.so_far
