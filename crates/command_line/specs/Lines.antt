-- Plain lines: a command and its words, without flags; and what each asks for.
use Rattle.std.specs.Prelude.{◌≡◌, ◌==◌, ◌<◌, ◌≤◌, ℕ, ◌^◌, Bool, true, false, not, ◌&&◌, List, [], ◌∷◌, length, map, codes, decimal, Option, Some, None, cond}
use Rattle.std.specs.List.{list_all}
use Rattle.std.specs.Str.{bytes_eq}
use Rattle.std.specs.Str.Parse.{IsNumeral, digits_value, without_leading_plus}
use Rattle.command_line.specs.declared.words.TheConstants.{MAX_BOOKS, MAX_NAMES, DEFAULT_WORKERS}
use Rattle.command_line.specs.declared.words.Asked.{Asked}
use Rattle.command_line.specs.declared.words.Asked.TheVariants as asked
use Rattle.command_line.specs.declared.wanted.Wanted.{Wanted}
use Rattle.command_line.specs.declared.wanted.Wanted.TheVariants as wanted
use Rattle.command_line.specs.declared.ranks.WantedRanks.{WantedRanks}
use Rattle.command_line.specs.declared.ranks.WantedRanks.TheVariants as wanted_ranks
use Rattle.command_line.specs.Inputs.{is_input, repeats}
use Rattle.wanted_classes.specs.declared.wanted.TheConstants.{DEFAULT_MEMORY}
use Rattle.wanted_classes.specs.declared.wanted.WantedClasses.{WantedClasses}
use Rattle.wanted_classes.specs.declared.wanted.WantedForm.TheVariants as wanted_form
use Rattle.command_line.specs.declared.names.Name.{Name}
use Rattle.command_line.specs.declared.names.Name.TheVariants as name

-- a command with what its words give
pub data Line : Type 0 where
  Check : (path : List ℕ) → Line
  One : (path : List ℕ) (rank : ℕ) → Line
  Count : (path : List ℕ) → Line
  Rank : (path : List ℕ) (names : List (List ℕ)) → Line
  Order : (path : List ℕ) (rank : ℕ) → Line
  Show : (path : List ℕ) (order : List (List ℕ)) → Line
  Classes : (path : List ℕ) → Line
  Run : (path : List ℕ) (first end : ℕ) → Line
  RunAll : (path : List ℕ) → Line
  Join : (paths : List (List ℕ)) → Line
  Missing : (paths : List (List ℕ)) → Line
  Holds : (path spec : List ℕ) (first end : ℕ) → Line
  Report : (path : List ℕ) → Line
  Audit : (path : List ℕ) → Line
  Judge : (path : List ℕ) (accepted : List (List ℕ)) → Line

-- how the command is spelled
abbrev pub command : Line → List ℕ
command (Check path) = codes "check"
command (One path rank) = codes "one"
command (Count path) = codes "count"
command (Rank path names) = codes "rank"
command (Order path rank) = codes "order"
command (Show path order) = codes "show"
command (Classes path) = codes "classes"
command (Run path first end) = codes "run"
command (RunAll path) = codes "run"
command (Join paths) = codes "join"
command (Missing paths) = codes "missing"
command (Holds path spec first end) = codes "holds"
command (Report path) = codes "report"
command (Audit path) = codes "audit"
command (Judge path accepted) = codes "judge"

-- the words behind it, with numbers in decimal
abbrev pub arguments : Line → List (List ℕ)
arguments (Check path) = path ∷ []
arguments (One path rank) = path ∷ decimal rank ∷ []
arguments (Count path) = path ∷ []
arguments (Rank path names) = path ∷ names
arguments (Order path rank) = path ∷ decimal rank ∷ []
arguments (Show path order) = path ∷ order
arguments (Classes path) = path ∷ []
arguments (Run path first end) = path ∷ decimal first ∷ decimal end ∷ []
arguments (RunAll path) = path ∷ []
arguments (Join paths) = paths
arguments (Missing paths) = paths
arguments (Holds path spec first end) = path ∷ spec ∷ decimal first ∷ decimal end ∷ []
arguments (Report path) = path ∷ []
arguments (Audit path) = path ∷ []
arguments (Judge path accepted) = path ∷ accepted

-- one book at least, and not too many
abbrev pub AreBooks : List (List ℕ) → Type 0
AreBooks paths = (0 < length paths) × (length paths ≤ MAX_BOOKS)

-- one name at least, and not too many
abbrev pub AreNames : List (List ℕ) → Type 0
AreNames names = (0 < length names) × (length names ≤ MAX_NAMES)

-- numbers have 64 bits, and books and names are so many
abbrev pub Fits : Line → Type 0
Fits (Check path) = Unit {0}
Fits (One path rank) = rank < 2 ^ 64
Fits (Count path) = Unit {0}
Fits (Rank path names) = AreNames names
Fits (Order path rank) = rank < 2 ^ 64
Fits (Show path order) = AreNames order
Fits (Classes path) = Unit {0}
Fits (Run path first end) = (first < 2 ^ 64) × (end < 2 ^ 64)
Fits (RunAll path) = Unit {0}
Fits (Join paths) = AreBooks paths
Fits (Missing paths) = AreBooks paths
Fits (Holds path spec first end) = (first < 2 ^ 64) × (end < 2 ^ 64)
Fits (Report path) = Unit {0}
Fits (Audit path) = Unit {0}
Fits (Judge path accepted) = AreBooks accepted

-- a word that is no flag: a flag begins with a hyphen, and has more
abbrev pub is_plain : List ℕ → Bool
is_plain [] = true
is_plain (b ∷ []) = true
is_plain (b ∷ c ∷ bs) = not (b == 45)

-- two of the files that the line asks for are standard input
abbrev pub repeats_in : Line → Bool
repeats_in (Check path) = false
repeats_in (One path rank) = false
repeats_in (Count path) = false
repeats_in (Rank path names) = false
repeats_in (Order path rank) = false
repeats_in (Show path order) = false
repeats_in (Classes path) = false
repeats_in (Run path first end) = false
repeats_in (RunAll path) = false
repeats_in (Join paths) = repeats false paths
repeats_in (Missing paths) = repeats false paths
repeats_in (Holds path spec first end) = is_input path && is_input spec
repeats_in (Report path) = false
repeats_in (Audit path) = false
repeats_in (Judge path accepted) = repeats (is_input path) accepted

-- the words are the line: the program's name, the command, and its words, of which none is a flag; standard input is read once
pub record IsLine (words : List (List ℕ)) (line : Line) : Type 0 where
  pub program : List ℕ
  pub words_are : words ≡ program ∷ command line ∷ arguments line
  pub plain : list_all is_plain (arguments line) ≡ true
  pub fits : Fits line
  pub once : repeats_in line ≡ false

-- the word is a number of 64 bits, in decimal; a plus may stand before its digits
abbrev pub IsNumber : List ℕ → ℕ → Type 0
IsNumber word number = let digits = without_leading_plus word in IsNumeral 10 digits × (digits_value 10 digits ≡ number) × (number < 2 ^ 64)

-- the words are one alone, and that is a number
abbrev pub IsNumberAlone : List (List ℕ) → ℕ → Type 0
IsNumberAlone (word ∷ []) number = IsNumber word number
IsNumberAlone words number = ⊥

-- which order the words are: a number alone is a rank, and all others are names of steps
abbrev pub IsWanted : List (List ℕ) → Wanted → Type 0
IsWanted words (wanted.Rank rank) = IsNumberAlone words rank
IsWanted words (wanted.Names names) = (map (λ n. n.now) names.items ≡ words) × ((rank : ℕ) → IsNumberAlone words rank → ⊥)

-- the classes of all orders that clients can send by what they show, each told with its least order alone
pub record AsksForNoMore (wanted : WantedClasses) : Type 0 where
  pub sendable : wanted.all_orders ≡ false
  pub undrawn : wanted.sample ≡ None
  pub shows : wanted.by_result ≡ false
  pub all : wanted.filters.items ≡ []
  pub no_queries : wanted.queries.items ≡ []
  pub no_expectations : wanted.expectations.items ≡ []
  pub classes : wanted.brief ≡ false
  pub no_outcomes : wanted.outcomes ≡ false
  pub no_final_rows : wanted.final_rows ≡ false
  pub as_text : wanted.form ≡ wanted_form.Text
  pub no_level : wanted.level ≡ None
  pub usual_memory : wanted.memory ≡ DEFAULT_MEMORY

-- the ranks from the first up to but not the end
abbrev pub range : ℕ → ℕ → WantedRanks
range first end = wanted_ranks.Range first end

-- a run of these ranks of the spec at a path, and of no more than it has to run
abbrev pub RunsRanks : List ℕ → WantedRanks → Asked → Type 0
RunsRanks path wanted (asked.Run p ranks every workers progress) =
    (p.now ≡ path) × (ranks ≡ wanted) × (every ≡ false) × (workers ≡ DEFAULT_WORKERS) × (progress ≡ false)
RunsRanks path wanted asked = ⊥

-- what the line asks for
abbrev pub AsksFor : Line → Asked → Type 0
AsksFor (Check path) (asked.Check p) = p.now ≡ path
AsksFor (One path rank) (asked.One p r) = (p.now ≡ path) × (r ≡ rank)
AsksFor (Count path) (asked.Count p) = p.now ≡ path
AsksFor (Rank path names) (asked.Rank p ns) = (p.now ≡ path) × (map (λ n. n.now) ns.items ≡ names)
AsksFor (Order path rank) (asked.Order p r) = (p.now ≡ path) × (r ≡ rank)
AsksFor (Show path order) (asked.Show p wanted json level) = (p.now ≡ path) × IsWanted order wanted × (json ≡ false) × (level ≡ None)
AsksFor (Classes path) (asked.Classes p wanted progress) = (p.now ≡ path) × AsksForNoMore wanted × (progress ≡ false)
AsksFor (Run path first end) asked = RunsRanks path (range first end) asked
AsksFor (RunAll path) asked = RunsRanks path wanted_ranks.All asked
AsksFor (Join paths) (asked.Join ps) = map (λ p. p.now) ps ≡ paths
AsksFor (Missing paths) (asked.Missing ps lines) = (map (λ p. p.now) ps ≡ paths) × (lines ≡ false)
AsksFor (Holds path spec first end) (asked.Holds p s f e) = (p.now ≡ path) × (s.now ≡ spec) × (f ≡ first) × (e ≡ end)
AsksFor (Report path) (asked.Report p) = p.now ≡ path
AsksFor (Audit path) (asked.Audit p) = p.now ≡ path
AsksFor (Judge path accepted) (asked.Judge p ps show) = (p.now ≡ path) × (map (λ q. q.now) ps.items ≡ accepted) × (show ≡ false)
AsksFor line asked = ⊥

-- ---- what the code keeps

-- the command that is spelled so
abbrev pub name_in : List ℕ → Option Name
name_in word = cond (bytes_eq word (codes "check")) (Some name.Check) (cond (bytes_eq word (codes "one")) (Some name.One)
    (cond (bytes_eq word (codes "count")) (Some name.Count) (cond (bytes_eq word (codes "rank")) (Some name.Rank)
    (cond (bytes_eq word (codes "order")) (Some name.Order) (cond (bytes_eq word (codes "show")) (Some name.Show)
    (cond (bytes_eq word (codes "classes")) (Some name.Classes) (cond (bytes_eq word (codes "run")) (Some name.Run) (cond (bytes_eq word (codes "join")) (Some name.Join)
    (cond (bytes_eq word (codes "missing")) (Some name.Missing)
    (cond (bytes_eq word (codes "holds")) (Some name.Holds) (cond (bytes_eq word (codes "report")) (Some name.Report)
    (cond (bytes_eq word (codes "audit")) (Some name.Audit) (cond (bytes_eq word (codes "judge")) (Some name.Judge)
    (cond (bytes_eq word (codes "test")) (Some name.Test) None))))))))))))))

-- the command of a line
abbrev pub named : Line → Name
named (Check path) = name.Check
named (One path rank) = name.One
named (Count path) = name.Count
named (Rank path names) = name.Rank
named (Order path rank) = name.Order
named (Show path order) = name.Show
named (Classes path) = name.Classes
named (Run path first end) = name.Run
named (RunAll path) = name.Run
named (Join paths) = name.Join
named (Missing paths) = name.Missing
named (Holds path spec first end) = name.Holds
named (Report path) = name.Report
named (Audit path) = name.Audit
named (Judge path accepted) = name.Judge

-- the command and the words behind it are those of the line
pub record IsBehind (word : List ℕ) (rest : List (List ℕ)) (line : Line) : Type 0 where
  pub word_is : word ≡ command line
  pub rest_is : rest ≡ arguments line
  pub plain : list_all is_plain (arguments line) ≡ true
  pub fits : Fits line
