-- A block's tokens have one end, and it is the last.
use Rattle.std.proofs.Common.{◌≡◌, ℕ, zero, suc, ◌+◌, ◌-◌, Bool, true, false, cond, List, [], ◌∷◌, Option, Some, None, Ok, Err, refl}
use Rattle.std.specs.Prelude.{⊤, ◌==◌, take_while}
use Rattle.byte_runs.specs.declared.runs.Class.TheVariants as class
use Rattle.std.specs.Char.{is_ascii_digit}
use Rattle.sql_grammar.specs.Tokens.{Placed, End, is_last}
use Rattle.sql_grammar.specs.Tree.{Block}
use Rattle.sql_grammar.specs.Grammar.{good, spelling, Fault, FirstFault}
use Rattle.byte_runs.specs.declared.pieces.Piece.TheVariants.{Blank, Next, Last}
use Rattle.byte_runs.specs.Pieces.{with_piece, tokens_past}
use Rattle.byte_runs.specs.Bytes.{is_white, begins_word, in_class}
use Rattle.sql_grammar.specs.Lexing.{Piece, begins_comment, is_reserved, is_sign, is_pair, quoted, text_piece, key_of, other_of, sign_of, piece_of, token_list}
use Rattle.sql_grammar.specs.Text.{read_text}
use Rattle.sql_reader.proofs.Laws.{HasEnd}
use Rattle.sql_reader.proofs.BlockLaws.{read_is_spelled, spelled_is_read, fault_is_first}

abbrev Fine : Piece → Type 0
Fine (Blank n) = ⊤
Fine (Next t n) = is_last t ≡ false
Fine (Last t) = is_last t ≡ true

fine_cond : (c : Bool) (p q : Piece) → Fine p → Fine q → Fine (cond c p q)
fine_cond true p q h k = h
fine_cond false p q h k = k

word_fine : (b : Bool) (w : List ℕ) → is_last (cond b (key_of w) (other_of w)) ≡ false
word_fine true w = refl
word_fine false w = refl

text_fine : (o : Option (List ℕ × ℕ)) → Fine (text_piece o)
text_fine None = refl
text_fine (Some x) = refl

sign_fine : (b : ℕ) (bs : List ℕ) → Fine (sign_of b bs)
sign_fine b [] = fine_cond (is_sign b) _ _ refl refl
sign_fine b (c ∷ bs) = fine_cond (is_pair b c) _ _ refl (fine_cond (is_sign b) _ _ refl refl)

piece_fine : (b : ℕ) (bs : List ℕ) → Fine (piece_of (b ∷ bs))
unfolding piece_of
piece_fine b bs =
    fine_cond (is_white b) _ _ tt (fine_cond (begins_comment (b ∷ bs)) _ _ tt
    (fine_cond (begins_word b) _ _ (word_fine (is_reserved (take_while (in_class class.Word) (b ∷ bs))) (take_while (in_class class.Word) (b ∷ bs)))
    (fine_cond (is_ascii_digit b) _ _ refl (fine_cond (b == 39) _ _ (text_fine (quoted false bs)) (sign_fine b bs)))))

with_fine : (at : ℕ) (p : Piece) (more : ℕ → List Placed) → Fine p → ((k : ℕ) → HasEnd (more k)) → HasEnd (with_piece at p more)
with_fine at (Blank n) more f h = h (n - 1)
with_fine at (Next t n) more f h = rw f (h (n - 1))
with_fine at (Last t) more f h = rw f refl

past_ends : (skip at : ℕ) (bs : List ℕ) → HasEnd (tokens_past (λ at. piece_of) End skip at bs)
past_ends skip at [] = refl
past_ends zero at (b ∷ bs) = with_fine at (piece_of (b ∷ bs)) _ (piece_fine b bs) (λ k. past_ends k (at + 1) bs)
past_ends (suc k) at (b ∷ bs) = past_ends k (at + 1) bs

pub ends : (bs : List ℕ) → HasEnd (token_list bs)
ends bs = past_ends 0 0 bs

-- ---- the agreement, for the bytes of a block

pub text_is_spelled : (bs : List ℕ) (b : Block) → read_text bs ≡ Ok b → spelling b ≡ good (token_list bs)
text_is_spelled bs b e = read_is_spelled (token_list bs) b (ends bs) e

pub spelled_text_is_read : (bs : List ℕ) (b : Block) → spelling b ≡ good (token_list bs) → read_text bs ≡ Ok b
spelled_text_is_read bs b e = spelled_is_read (token_list bs) b (ends bs) e

pub text_fault_is_first : (bs : List ℕ) (f : Fault) → read_text bs ≡ Err f → FirstFault (token_list bs) f
text_fault_is_first bs f e = fault_is_first (token_list bs) f (ends bs) e
