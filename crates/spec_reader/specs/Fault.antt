-- The first fault of tokens that spell no spec file.
use Rattle.std.specs.Prelude.{◌≡◌, ℕ, ◌⊎◌, List, [], ◌∷◌, ◌++◌, ⊤}
use Rattle.spec_reader.specs.declared.error.Kind.{Kind}
use Rattle.spec_reader.specs.declared.error.Kind.TheVariants.{NotUtf8, BadToken, Unclosed, Misplaced, NoStep, DuplicateStep, DuplicateSession, UnknownStep, TooLarge, NoMemory}
use Rattle.spec_reader.specs.Tokens.{Token, SessionWord, StepWord, PermutationWord, End, NoToken, NotClosed, Placed, tokens}
use Rattle.spec_reader.specs.Tree.{SpecTree}
use Rattle.spec_reader.specs.Grammar.{spelling, HasParts}
use Rattle.spec_reader.specs.Names.{InLimits, HasNames}

-- which rules are asked: those of the form alone, the limits too, the names too
pub data Rules : Type 0 where
  Form Limits All : Rules

-- the file is within the limits, where they are asked
abbrev pub KeepsLimits : Rules → SpecTree → Type 0
KeepsLimits Form f = ⊤
KeepsLimits Limits f = InLimits f
KeepsLimits All f = InLimits f

-- its names are as they must be, where that is asked
abbrev pub KeepsNames : Rules → SpecTree → Type 0
KeepsNames Form f = ⊤
KeepsNames Limits f = ⊤
KeepsNames All f = HasNames f

-- the file keeps these rules
pub record Keeps (rules : Rules) (f : SpecTree) : Type 0 where
  pub parts : HasParts f
  pub limits : KeepsLimits rules f
  pub names : KeepsNames rules f

-- ---- the first fault

-- some text of the grammar begins with these tokens.
pub record Begins (rules : Rules) (before : List Token) : Type 0 where
  pub rest : List Token
  pub tree : SpecTree
  pub whole : before ++ rest ≡ spelling tree
  pub keeps : Keeps rules tree

-- after these tokens the token may come.
abbrev pub MayCome : Rules → List Token → Token → Type 0
MayCome rules before t = Begins rules (before ++ t ∷ [])

-- the token ends the sessions: the end of the text, or the word of a permutation line
abbrev pub EndsSessions : Token → Type 0
EndsSessions End = ⊤
EndsSessions PermutationWord = ⊤
EndsSessions t = ⊥

-- the token ends the steps of a session: the word of another session, or what ends the sessions
abbrev pub EndsSteps : Token → Type 0
EndsSteps SessionWord = ⊤
EndsSteps t = EndsSessions t

-- the token is required: it may come, and the text may not end here.
abbrev pub IsRequired : List Token → Token → Type 0
IsRequired before t = MayCome Form before t × (MayCome Form before End → ⊥)

-- a session or a step is required, and the end or another part of the file stands there.
abbrev pub IsMissing : List Token → Token → Type 0
IsMissing before t = (EndsSessions t × IsRequired before SessionWord) ⊎ (EndsSteps t × IsRequired before StepWord)

-- what stands there is no token
abbrev pub IsNoToken : Token → Type 0
IsNoToken NoToken = ⊤
IsNoToken NotClosed = ⊤
IsNoToken t = ⊥

-- what is wrong with a name behind this token
abbrev pub fault_behind : Token → Kind
fault_behind StepWord = DuplicateStep
fault_behind SessionWord = DuplicateSession
fault_behind t = UnknownStep

-- what is wrong with a name behind these tokens, by the last of them
abbrev pub name_fault : List Token → Kind
name_fault [] = UnknownStep
name_fault (t ∷ []) = fault_behind t
name_fault (t ∷ u ∷ ts) = name_fault (u ∷ ts)

-- what the fault is where the token t, after these tokens, is the first that cannot stand.
abbrev pub IsKind : List Token → Token → Kind → Type 0
IsKind before t BadToken = t ≡ NoToken
IsKind before t Unclosed = t ≡ NotClosed
IsKind before t NoStep = IsMissing before t
IsKind before t Misplaced = (IsNoToken t → ⊥) × (MayCome Form before t → ⊥) × (IsMissing before t → ⊥)
IsKind before t TooLarge = MayCome Form before t × (MayCome Limits before t → ⊥)
IsKind before t DuplicateStep = MayCome Limits before t × (name_fault before ≡ DuplicateStep)
IsKind before t DuplicateSession = MayCome Limits before t × (name_fault before ≡ DuplicateSession)
IsKind before t UnknownStep = MayCome Limits before t × (name_fault before ≡ UnknownStep)
IsKind before t NotUtf8 = ⊥
IsKind before t NoMemory = ⊥

-- a kind of fault, and its offset
pub record Fault : Type 0 where
  pub kind : Kind
  pub at : ℕ

-- the first place where no text of the grammar goes on so, and what is wrong there.
pub record FirstFault (ts : List Placed) (fault : Fault) : Type 0 where
  pub before : List Placed
  pub here : Placed
  pub after : List Placed
  pub parts : ts ≡ before ++ here ∷ after
  pub good : Begins All (tokens before)
  pub bad : MayCome All (tokens before) here.token → ⊥
  pub kind : IsKind (tokens before) here.token fault.kind
  pub at : fault.at ≡ here.at
