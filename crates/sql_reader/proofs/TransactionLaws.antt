-- BEGIN, START and the ends of transactions are read as they are spelled.
use Rattle.std.proofs.Common.{◌≡◌, Bool, false, List, [], ◌∷◌, ◌++◌, Option, Some, None, refl, sym, inl, inr, ◌⊎◌}
use Rattle.std.specs.Prelude.{codes, is_some}
use Rattle.sql_grammar.specs.Tokens.{Token, Word, Placed, is, is_last}
use Rattle.sql_grammar.specs.Tree.{Begin, Ends}
use Rattle.sql_grammar.specs.Grammar.{Marked, plain}
use Rattle.sql_grammar.specs.Grammar as grammar
use Rattle.sql_grammar.specs.Reading.{Read, first, taken, inside}
use Rattle.sql_grammar.specs.Reading as reading
use Rattle.sql_reader.proofs.Laws.{Stops, HasEnd, Agrees, Heads, closed, stops_closed, then, mapped, choice, both, also, weaken}
use Rattle.sql_reader.proofs.TokenLaws.{none_of, one_of}
use Rattle.sql_reader.proofs.ListLaws.{past, at_last, maybe, maybe_one_of, ends_on, ends_stop}
use Rattle.sql_grammar.specs.declared.statement.Noise.{Noise}
use Rattle.sql_grammar.specs.declared.statement.Noise.TheVariants.{Work, Transaction}
use Rattle.sql_grammar.specs.declared.statement.ReadWord.{ReadWord}
use Rattle.sql_grammar.specs.declared.statement.ReadWord.TheVariants.{Committed, Uncommitted}
use Rattle.sql_grammar.specs.declared.statement.Level.{Level}
use Rattle.sql_grammar.specs.declared.statement.Level.TheVariants.{Serializable, RepeatableRead}
use Rattle.sql_grammar.specs.declared.statement.EndWord.{EndWord}
use Rattle.sql_grammar.specs.declared.statement.Start.{Start}
use Rattle.sql_grammar.specs.declared.statement.Start.TheVariants.{BeginWord, StartWords}
use Rattle.sql_grammar.specs.declared.statement.EndWord.TheVariants as end_words
use Rattle.sql_grammar.specs.declared.statement.Level.TheVariants as levels

noise_token : Noise → Token
noise_token Work = Word (codes "work")
noise_token Transaction = Word (codes "transaction")

abbrev on_noise : Token → Bool
on_noise t = is_some (reading.noise t)

noise-forth : (n : Noise) → reading.noise (noise_token n) ≡ Some n
unfolding noise_token
noise-forth Work = refl
noise-forth Transaction = refl

noise_inside : (n : Noise) → is_last (noise_token n) ≡ false
unfolding noise_token
noise_inside Work = refl
noise_inside Transaction = refl

noise_spelled : (o : Option Noise) → grammar.optional grammar.noise o ≡ grammar.optional (λ n. plain (noise_token n) ∷ []) o
unfolding noise_token
noise_spelled None = refl
noise_spelled (Some Work) = refl
noise_spelled (Some Transaction) = refl

noise_law : (ts : List Placed) → HasEnd ts → Agrees {I = Option Noise} (λ o. o) (grammar.optional grammar.noise) on_noise ts (reading.maybe_noise ts)
unfolding noise_token
noise_law ts ends =
    also (λ (o : Option Noise). o) (grammar.optional (λ n. plain (noise_token n) ∷ [])) (λ o. o) (grammar.optional grammar.noise) on_noise ts _ (λ o. o)
    (λ o. o) (λ o. (refl, noise_spelled o)) (λ o. (refl, sym (noise_spelled o)))
    (maybe_one_of noise_token ((Word (codes "work"), Work) ∷ (Word (codes "transaction"), Transaction) ∷ []) Work (
      refl,
      (refl, tt),
    ) noise-forth noise_inside on_noise (λ t e. none_of (reading.noise t) e) ts ends)

abbrev of_start : Start → Option Noise ⊎ Unit {0}
of_start (BeginWord o) = inl o
of_start StartWords = inr tt

abbrev tree_start : Option Noise ⊎ Unit {0} → Start
tree_start = both (λ o. BeginWord o) (λ u. StartWords)

abbrev sp_start : Option Noise ⊎ Unit {0} → List Marked
sp_start = both (λ o. grammar.start (BeginWord o)) (λ u. grammar.start StartWords)

start_to : (i : Option Noise ⊎ Unit {0}) → (tree_start i ≡ tree_start i) × (grammar.start (tree_start i) ≡ sp_start i)
start_to (inl o) = (refl, refl)
start_to (inr u) = (refl, refl)

start_back : (s : Start) → (tree_start (of_start s) ≡ s) × (sp_start (of_start s) ≡ grammar.start s)
start_back (BeginWord o) = (refl, refl)
start_back StartWords = (refl, refl)

start_law : (ts : List Placed) → HasEnd ts → Agrees {I = Start} (λ s. s) grammar.start on_noise ts (reading.start ts)
start_law ts ends =
    also tree_start sp_start (λ s. s) grammar.start on_noise ts _ tree_start of_start start_to start_back
    (choice (λ o. BeginWord o) (λ (u : Unit {0}). StartWords) (λ o. grammar.start (BeginWord o)) (λ u. grammar.start StartWords) on_noise
    (is (Word (codes "begin"))) ts _ _ (λ o more stop. refl) (λ u more stop. refl)
    (λ e. past (Word (codes "begin")) refl refl (λ o. BeginWord o) (grammar.optional grammar.noise) on_noise ts _ None ends
    (λ b hb. mapped (λ o. BeginWord o) (λ o. o) (grammar.optional grammar.noise) on_noise b.1 _ (noise_law b.1 hb)))
    (λ e. past (Word (codes "start")) refl refl (λ (u : Unit {0}). StartWords) (λ u. plain (Word (codes "transaction")) ∷ []) on_noise ts _ tt ends
    (λ s hs. at_last (Word (codes "transaction")) refl refl StartWords on_noise s.1 hs)))

read_word_law : (on : Token → Bool) (ts : List Placed) → HasEnd ts
    → Agrees {I = ReadWord} (λ w. w) (λ w. plain (Word (grammar.read_word w)) ∷ []) on ts (taken (reading.read_word (first ts).token) ts)
read_word_law on ts ends =
    one_of (λ w. Word (grammar.read_word w)) ((Word (codes "committed"), Committed) ∷ (Word (codes "uncommitted"), Uncommitted) ∷ []) Committed (
      refl,
      (refl, tt),
    ) forth (λ w. refl) on ts ends
  where
    forth : (w : ReadWord) → reading.read_word (Word (grammar.read_word w)) ≡ Some w
    forth Committed = refl
    forth Uncommitted = refl

abbrev Levels : Type 0
Levels = Unit {0} ⊎ (Unit {0} ⊎ ReadWord)

abbrev of_level : Level → Levels
of_level Serializable = inl tt
of_level RepeatableRead = inr (inl tt)
of_level (levels.Read w) = inr (inr w)

abbrev tree_level : Levels → Level
tree_level = both (λ u. Serializable) (both (λ u. RepeatableRead) (λ w. levels.Read w))

abbrev sp_level : Levels → List Marked
sp_level = both (λ u. grammar.level Serializable) (both (λ u. grammar.level RepeatableRead) (λ w. grammar.level (levels.Read w)))

level_to : (i : Levels) → (tree_level i ≡ tree_level i) × (grammar.level (tree_level i) ≡ sp_level i)
level_to (inl u) = (refl, refl)
level_to (inr (inl u)) = (refl, refl)
level_to (inr (inr w)) = (refl, refl)

level_back : (l : Level) → (tree_level (of_level l) ≡ l) × (sp_level (of_level l) ≡ grammar.level l)
level_back Serializable = (refl, refl)
level_back RepeatableRead = (refl, refl)
level_back (levels.Read w) = (refl, refl)

level_law : (on : Token → Bool) (ts : List Placed) → HasEnd ts → Agrees {I = Level} (λ l. l) grammar.level on ts (reading.level ts)
level_law on ts ends =
    also tree_level sp_level (λ l. l) grammar.level on ts _ tree_level of_level level_to level_back
    (choice (λ (u : Unit {0}). Serializable) (both (λ (u : Unit {0}). RepeatableRead) (λ w. levels.Read w)) (λ u. grammar.level Serializable)
    (both (λ (u : Unit {0}). grammar.level RepeatableRead) (λ w. grammar.level (levels.Read w))) on
    (is (Word (codes "serializable"))) ts _ _ (λ u more stop. refl) others
    (λ e. at_last (Word (codes "serializable")) refl refl Serializable on ts ends)
    (λ e. choice (λ (u : Unit {0}). RepeatableRead) (λ w. levels.Read w) (λ u. grammar.level RepeatableRead) (λ w. grammar.level (levels.Read w)) on
    (is (Word (codes "repeatable"))) ts _ _ (λ u more stop. refl) (λ w more stop. refl)
    (λ e'. past (Word (codes "repeatable")) refl refl (λ (u : Unit {0}). RepeatableRead) (λ u. plain (Word (codes "read")) ∷ []) on ts _ tt ends
    (λ x h. at_last (Word (codes "read")) refl refl RepeatableRead on x.1 h))
    (λ e'. past (Word (codes "read")) refl refl (λ w. levels.Read w) (λ w. plain (Word (grammar.read_word w)) ∷ []) on ts _ Committed ends
    (λ x h. mapped (λ w. levels.Read w) (λ w. w) (λ w. plain (Word (grammar.read_word w)) ∷ []) on x.1 _ (read_word_law on x.1 h)))))
  where
    others : (b : Unit {0} ⊎ ReadWord) (more : List Marked) → Stops on more
        → Heads (is (Word (codes "serializable"))) false (both (λ (u : Unit {0}). grammar.level RepeatableRead) (λ w. grammar.level (levels.Read w)) b ++ more)
    others (inl u) more stop = refl
    others (inr w) more stop = refl

level_part_law : (on : Token → Bool) (ts : List Placed) → HasEnd ts → Agrees {I = Level} (λ l. l) grammar.level_part on ts (reading.level_part ts)
level_part_law on ts ends =
    past (Word (codes "isolation")) refl refl (λ l. l) (λ l. plain (Word (codes "level")) ∷ grammar.level l) on ts _ Serializable ends
    (λ i hi. past (Word (codes "level")) refl refl (λ l. l) grammar.level on i.1 _ Serializable hi (λ x hx. level_law on x.1 hx))

abbrev pub BeginIndex : Type 0
BeginIndex = Start × Option Level

level_follows : (o : Option Level) (more : List Marked) → Stops inside more → Stops on_noise (grammar.optional grammar.level_part o ++ more)
level_follows None more stop = ends_stop on_noise refl refl more stop
level_follows (Some l) more stop = refl

pub begin_law : (ts : List Placed) → HasEnd ts
    → Agrees {I = BeginIndex} (λ p. Begin p.0 p.1) (λ p. grammar.statement (Begin p.0 p.1)) inside ts (reading.begin ts)
begin_law ts ends =
    then (λ s l. Begin s l) grammar.start (grammar.optional grammar.level_part) on_noise inside ts _ _ None level_follows (start_law ts ends)
    (λ s hs. mapped (λ l. Begin s.0 l) (λ l. l) (grammar.optional grammar.level_part) inside s.1 _
    (maybe (is (Word (codes "isolation"))) _ grammar.level_part closed inside s.1 (λ l. refl) (ends_on (is (Word (codes "isolation"))) refl refl)
    (ends_stop closed refl refl) hs.ended (λ e. level_part_law closed s.1 hs.ended)))

end-forth : (w : EndWord) → reading.end_word (Word (grammar.end_word w)) ≡ Some w
end-forth end_words.Commit = refl
end-forth end_words.End = refl
end-forth end_words.Rollback = refl
end-forth end_words.Abort = refl

abbrev pub EndIndex : Type 0
EndIndex = EndWord × Option Noise

pub ends_law : (ts : List Placed) → HasEnd ts → Agrees {I = EndIndex} (λ p. Ends p.0 p.1) (λ p. grammar.statement (Ends p.0 p.1)) inside ts (reading.ends ts)
ends_law ts ends =
    then (λ w n. Ends w n) (λ w. plain (Word (grammar.end_word w)) ∷ []) (grammar.optional grammar.noise) closed inside ts _ _ None
    (λ j more stop. stops_closed inside (grammar.optional grammar.noise j) more stop)
    (one_of (λ w. Word (grammar.end_word w)) ((Word (codes "commit"), end_words.Commit) ∷ (Word (codes "end"), end_words.End) ∷ (
      Word (codes "rollback"),
      end_words.Rollback,
    ) ∷ (Word (codes "abort"), end_words.Abort) ∷ []) end_words.Commit
    (refl, (refl, (refl, (refl, tt)))) end-forth (λ w. refl) closed ts ends)
    (λ x h. mapped (λ n. Ends x.0 n) (λ n. n) (grammar.optional grammar.noise) inside x.1 _
    (weaken (λ n. n) (grammar.optional grammar.noise) inside on_noise x.1 _ (ends_stop on_noise refl refl) (noise_law x.1 h.ended)))
