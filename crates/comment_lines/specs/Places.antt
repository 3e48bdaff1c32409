-- Where the bytes of a spec file stand: outside, in blocks of SQL, in quoted names or in comments.
use Rattle.std.specs.Prelude.{ℕ, Bool, false, ◌||◌, ◌==◌, cond}
use Rattle.comment_lines.specs.declared.places.Place.{Place}
use Rattle.comment_lines.specs.declared.places.Place.TheVariants.{Margin, Line, Block, Name, Comment}

-- a comment that begins with #, 35, has its line for itself where nothing but blanks stand before it
abbrev pub begins_comment : Place → ℕ → Bool
begins_comment Margin b = b == 35
begins_comment Line b = false
begins_comment Block b = false
begins_comment Name b = false
begins_comment Comment b = false

-- outside, behind a line feed, {, ", # or another byte
abbrev pub behind_text : ℕ → Place
behind_text b = cond (b == 10) Margin (cond (b == 123) Block (cond (b == 34) Name (cond (b == 35) Comment Line)))

-- a blank or a tab leaves the front of a line as it is
abbrev pub behind_margin : ℕ → Place
behind_margin b = cond (b == 32 || b == 9) Margin (behind_text b)

abbrev pub ended : Bool → Place → Place → Place
ended ends place next = cond ends next place

-- a block ends behind }, a name behind ", a comment behind a line feed
abbrev pub behind : Place → ℕ → Place
behind Margin b = behind_margin b
behind Line b = behind_text b
behind Block b = ended (b == 125) Block Line
behind Name b = ended (b == 34) Name Line
behind Comment b = ended (b == 10) Comment Margin
