-- Rows of which those in which somebody holds something are kept.
use Rattle.std.proofs.Common.{◌≡◌, refl, sym, ap, ◌∙◌, ℕ, ◌+◌, ◌<◌, List, [], ◌∷◌, ◌++◌, append_assoc, length, take, replicate, get_or, slice_get, Some}
use Rattle.std.proofs.lemmas.List.{replicate-append-replicate, take_more}
use Rattle.std.proofs.lemmas.Option.{slice_get_within, get_or_from_slice_get}
use Rattle.marked_modes.specs.Held.{blank_row, spread}
use Rattle.marked_modes.specs.Kept.{no_modes}
use Rattle.marked_modes.specs.declared.row.ModeRow.{ModeRow}
use Rattle.marked_modes.specs.declared.picture.HeldRow.{HeldRow}

-- one blank row more
pub spread-blank : (hs : List HeldRow) (n : ℕ) → spread hs (n + 1) ≡ spread hs n ++ blank_row ∷ []
spread-blank [] n = sym (replicate-append-replicate n 1 blank_row)
spread-blank (h ∷ hs) n =
    ap (λ z. replicate h.before blank_row ++ h.row ∷ z) (spread-blank hs n)
    ∙ sym (append_assoc (replicate h.before blank_row) (h.row ∷ spread hs n) (blank_row ∷ []))

-- one kept row more
pub spread-held : (hs : List HeldRow) (h : HeldRow) → spread (hs ++ h ∷ []) 0 ≡ spread hs h.before ++ h.row ∷ []
spread-held [] h = refl
spread-held (g ∷ hs) h =
    ap (λ z. replicate g.before blank_row ++ g.row ∷ z) (spread-held hs h)
    ∙ sym (append_assoc (replicate g.before blank_row) (g.row ∷ spread hs h.before) (h.row ∷ []))

module _ (rows : List ModeRow) (place : ℕ) (lt : place < length rows) where
  abbrev row : ModeRow
  row = get_or rows place no_modes

  pub behind-blank : (hs : List HeldRow) (n : ℕ) → spread hs n ≡ take place rows → row ≡ blank_row → spread hs (n + 1) ≡ take (place + 1) rows
  behind-blank hs n e b =
      spread-blank hs n ∙ ap (λ z. z ++ blank_row ∷ []) e ∙ ap (λ z. take place rows ++ z ∷ []) (sym b) ∙ sym (take_more rows place no_modes lt)

  pub behind-held : (hs : List HeldRow) (n : ℕ) → spread hs n ≡ take place rows
      → spread (hs ++ record { before = n; row = row } ∷ []) 0 ≡ take (place + 1) rows
  behind-held hs n e = spread-held hs (record { before = n; row = row }) ∙ ap (λ z. z ++ row ∷ []) e ∙ sym (take_more rows place no_modes lt)

  pub behind-known : (hs : List HeldRow) (passed n : ℕ) → spread (take passed hs) n ≡ take place rows
      → slice_get hs passed ≡ Some (record { before = n; row = row }) → spread (take (passed + 1) hs) 0 ≡ take (place + 1) rows
  behind-known hs passed n e known =
      let h : HeldRow = record { before = n; row = row } in
      ap (λ z. spread z 0) (take_more hs passed h (slice_get_within hs passed h known) ∙ ap (λ z. take passed hs ++ z ∷ []) (get_or_from_slice_get hs passed h h known))
      ∙ behind-held (take passed hs) n e
