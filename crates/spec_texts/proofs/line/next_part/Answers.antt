use Rattle.byte_runs.specs.declared.pieces.Piece.TheVariants.{Blank, Next, Last}
use Rattle.sql_grammar.specs.Lexing.{view_token}
use Rattle.spec_texts.proofs.Parts.{parts-by-piece}
use Rattle.spec_texts.proofs.line.next_part.Goals as goal

pub returns-in-Blank-clause-parts : goal.returns-in-Blank-clause-parts
returns-in-Blank-clause-parts c =
    rw c.split_at.ensures.back (parts-by-piece c.args.text.now (Blank c.in-Blank.len) c.in-Blank.ensures.piece c.in-Blank.ensures.fits)

pub returns-in-Next-clause-parts : goal.returns-in-Next-clause-parts
returns-in-Next-clause-parts c =
    rw (c.split_at-in-Next.ensures.front, c.split_at-in-Next.ensures.back)
    (parts-by-piece c.args.text.now (Next (view_token c.in-Next.field-0) c.in-Next.len) c.in-Next.ensures.piece c.in-Next.ensures.fits)

pub returns-in-Last-clause-parts : goal.returns-in-Last-clause-parts
returns-in-Last-clause-parts c =
    parts-by-piece c.args.text.now (Last (view_token c.in-Last.field-0)) c.in-Last.ensures.piece c.in-Last.ensures.fits
