-- Quoted names: where they end, and what they stand for.
use Rattle.std.specs.Prelude.{ℕ, ◌+◌, Bool, true, false, not, ◌||◌, ◌&&◌, List, [], ◌∷◌, ◌==◌, if◌then◌else◌}

-- whether a quote stands first
abbrev pub begins_quote : List ℕ → Bool
begins_quote [] = false
begins_quote (b ∷ bs) = b == 34

-- a line feed, or a quote without a second one behind it
abbrev pub ends_quoted : ℕ → List ℕ → Bool
ends_quoted b bs = b == 10 || (b == 34 && not (begins_quote bs))

-- whether a quoted name stops before these bytes, of which the first may be the second of two quotes
abbrev pub stops : Bool → List ℕ → Bool
stops second [] = true
stops second (b ∷ bs) = not second && ends_quoted b bs

-- how many bytes at the front are a quoted name's
abbrev pub quoted_len : Bool → List ℕ → ℕ
quoted_len second [] = 0
quoted_len second (b ∷ bs) = if not second && ends_quoted b bs then 0 else 1 + quoted_len (not second && b == 34) bs

-- the byte before the others, unless the test says so
abbrev pub unless : Bool → ℕ → List ℕ → List ℕ
unless c b bs = if c then bs else b ∷ bs

-- a text with one quote for each two
abbrev pub undoubled : Bool → List ℕ → List ℕ
undoubled second [] = []
undoubled second (b ∷ bs) = unless (second && b == 34) b (undoubled (not second && b == 34) bs)
