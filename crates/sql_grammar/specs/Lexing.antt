-- The tokens of a block.
use Rattle.std.specs.Prelude.{refl, ℕ, ⊤, ◌<◌, zero, suc, ◌+◌, ◌-◌, ◌*◌, ◌^◌, Bool, true, false, ◌||◌, ◌&&◌, List, [], ◌∷◌, map, Option, Some, None, min, ◌==◌, codes, bytes_eq, if◌then◌else◌, take_while, option_map, ◌++◌, length, ◌≡◌}
use Rattle.std.specs.List.{prefix_len, list_any}
use Rattle.std.specs.Char.{is_ascii_digit}
use Rattle.std.specs.Str.{str_to_ascii_lowercase, IsCharBoundary}
use Rattle.sql_grammar.specs.declared.token.Token.{Token as Written}
use Rattle.sql_grammar.specs.declared.token.Token.TheVariants as written
use Rattle.byte_runs.specs.declared.runs.Class.TheVariants as class
use Rattle.byte_runs.specs.declared.pieces.Piece.{Piece as PieceOf}
use Rattle.byte_runs.specs.declared.pieces.Piece.TheVariants.{Blank, Next, Last}
use Rattle.byte_runs.specs.declared.pieces.Placed.{Placed as TokenAt}
use Rattle.byte_runs.specs.Pieces as pieces
use Rattle.byte_runs.specs.Pieces.{piece_by, placed_by}
use Rattle.byte_runs.specs.Bytes.{is_white, begins_word, in_class}
use Rattle.sql_grammar.specs.Tokens.{Token, Key, Word, Sign, Number, Text, End, NoToken, NotClosed, Placed}

-- the words that are no names, up to the letter n and from there on
abbrev pub reserved_to_n : List (List ℕ)
reserved_to_n = codes "and" ∷ codes "asc" ∷ codes "by" ∷ codes "desc" ∷ codes "from" ∷ codes "in" ∷ codes "into" ∷ codes "not" ∷ []

abbrev pub reserved_from_o : List (List ℕ)
reserved_from_o = codes "or" ∷ codes "order" ∷ codes "primary" ∷ codes "select" ∷ codes "set" ∷ codes "table" ∷ codes "values" ∷ codes "where" ∷ []

-- words ignore case
abbrev pub key_of : List ℕ → Token
key_of bytes = Key (str_to_ascii_lowercase bytes)

abbrev pub other_of : List ℕ → Token
other_of bytes = Word (str_to_ascii_lowercase bytes)

abbrev pub is_one_of : List (List ℕ) → List ℕ → Bool
is_one_of words bytes = list_any (bytes_eq (str_to_ascii_lowercase bytes)) words

abbrev pub is_reserved : List ℕ → Bool
is_reserved bytes = is_one_of reserved_to_n bytes || is_one_of reserved_from_o bytes

abbrev pub word_of : List ℕ → Token
word_of bytes = if is_reserved bytes then key_of bytes else other_of bytes

-- the value of digits, or 2 ^ 63 + 1 where that is less
abbrev pub value_of : ℕ → List ℕ → ℕ
value_of n [] = n
value_of n (d ∷ ds) = value_of (min (10 * n + (d - 48)) (2 ^ 63 + 1)) ds

-- ---- the piece at the front of some bytes

-- what stands at the front of some bytes: blank space, a token, or a token after which nothing is read
abbrev pub Piece : Type 0
Piece = PieceOf Token

-- what stands between quotes, and how many bytes after the first quote it takes with the last one; the flag says that the byte before was a quote
abbrev pub with_byte : ℕ → Option (List ℕ × ℕ) → Option (List ℕ × ℕ)
with_byte b None = None
with_byte b (Some x) = Some (b ∷ x.0, x.1 + 1)

abbrev pub with_quote : Option (List ℕ × ℕ) → Option (List ℕ × ℕ)
with_quote None = None
with_quote (Some x) = Some (x.0, x.1 + 1)

abbrev pub quoted : Bool → List ℕ → Option (List ℕ × ℕ)
quoted false [] = None
quoted true [] = Some ([], 0)
quoted false (b ∷ bs) = elim (b == 39) [ true ↦ with_quote (quoted true bs) | false ↦ with_byte b (quoted false bs) ]
quoted true (b ∷ bs) = elim (b == 39) [ true ↦ with_byte b (quoted false bs) | false ↦ Some ([], 0) ]

-- what stands behind an opening quote up to the closing one, if there is one
abbrev pub content : List ℕ → Option (List ℕ)
content bs = option_map (λ x. x.0) (quoted false bs)

abbrev pub with_front : List ℕ → Option (List ℕ) → Option (List ℕ)
with_front front None = None
with_front front (Some bs) = Some (front ++ bs)

abbrev pub begins_quote : List ℕ → Bool
begins_quote [] = false
begins_quote (b ∷ bs) = b == 39

-- two quotes stand first, and these bytes behind them
pub record Pair (bs rest : List ℕ) : Type 0 where
  pub inner : content bs ≡ with_front (39 ∷ []) (content rest)
  pub shorter : length rest < length bs

-- the token of what stands behind an opening quote
abbrev pub text_token : Option (List ℕ × ℕ) → Token
text_token None = NotClosed
text_token (Some x) = Text x.0

abbrev pub text_piece : Option (List ℕ × ℕ) → Piece
text_piece None = Last NotClosed
text_piece (Some x) = Next (Text x.0) (x.1 + 1)

abbrev pub text_of : List ℕ → Piece
text_of bs = text_piece (quoted false bs)

-- a sign of two characters
abbrev pub is_pair : ℕ → ℕ → Bool
is_pair b c = (b == 60 && (c == 62 || c == 61)) || ((b == 33 || b == 62) && c == 61)

abbrev pub is_sign : ℕ → Bool
is_sign b = list_any (λ c. c == b) (codes "(),;*+-=<>")

abbrev pub sign_of : ℕ → List ℕ → Piece
sign_of b [] = if is_sign b then Next (Sign (b ∷ [])) 1 else Last NoToken
sign_of b (c ∷ bs) = if is_pair b c then Next (Sign (b ∷ c ∷ [])) 2 else (if is_sign b then Next (Sign (b ∷ [])) 1 else Last NoToken)

abbrev pub begins_comment : List ℕ → Bool
begins_comment (b ∷ c ∷ bs) = b == 45 && c == 45
begins_comment bs = false

-- a word, a number, of the bytes that begin with it
abbrev pub word_piece : List ℕ → Piece
word_piece bs = Next (word_of (take_while (in_class class.Word) bs)) (prefix_len (in_class class.Word) bs)

abbrev pub number_piece : List ℕ → Piece
number_piece bs = Next (Number (value_of 0 (take_while (in_class class.Digit) bs))) (prefix_len (in_class class.Digit) bs)

unfoldable pub piece_of : List ℕ → Piece
piece_of [] = Last End
piece_of (b ∷ bs) =
    if is_white b then Blank 1
    else (if begins_comment (b ∷ bs) then Blank (prefix_len (in_class class.Comment) (b ∷ bs))
    else (if begins_word b then word_piece (b ∷ bs)
    else (if is_ascii_digit b then number_piece (b ∷ bs)
    else (if b == 39 then text_of bs
    else sign_of b bs))))

-- ---- all of them

-- nothing is read behind the end
pub piece_of-end : (at : ℕ) → piece_of [] ≡ Last End
unfolding piece_of
piece_of-end at = refl

-- the tokens of a block
abbrev pub token_list : List ℕ → List Placed
token_list bs = pieces.token_list (λ at. piece_of) End bs

-- ---- what the code has

-- a token of the code
abbrev pub view_token : Written → Token
view_token (written.Key x) = key_of x.now
view_token (written.Word x) = other_of x.now
view_token (written.Sign x) = Sign x.now
view_token (written.Number n) = Number n
view_token (written.Text x) = text_token (quoted false x.now)
view_token written.End = End
view_token written.NoToken = NoToken
view_token written.NotClosed = NotClosed

-- a piece of the code
abbrev pub view_piece : PieceOf Written → Piece
view_piece p = piece_by view_token p

-- a token of the code, with its offset
abbrev pub WrittenAt : Type 0
WrittenAt = TokenAt Written

abbrev pub view : WrittenAt → Placed
view p = placed_by view_token p

-- tokens of the code
abbrev pub views : List WrittenAt → List Placed
views ps = map view ps
