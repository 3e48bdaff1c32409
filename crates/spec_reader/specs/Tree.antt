-- What contracts see of a spec file: its parts, with the offsets of its blocks. Only signs, words, white space, comments and numbers are left out.
use Rattle.std.specs.Prelude.{ℕ, List, Option}

-- a block: the offset of its text, and the text
pub record BlockTree : Type 0 where
  pub at : ℕ
  pub text : List ℕ

-- a step
pub record StepTree : Type 0 where
  pub name : List ℕ
  pub block : BlockTree

-- what stands before the steps of a session
pub record HeadTree : Type 0 where
  pub name : List ℕ
  pub setup : Option BlockTree
  pub teardown : Option BlockTree

-- a session has at most one teardown: one at its end only where its head has none
pub record SessionTree : Type 0 where
  pub head : HeadTree
  pub steps : List StepTree
  pub teardown : Option BlockTree

-- a marker: a star, the name of a step, or one with a number of notices
pub data MarkerTree : Type 0 where
  AnyTime : MarkerTree
  Before : (step : List ℕ) → MarkerTree
  Notices : (step : List ℕ) → MarkerTree

-- an item of a permutation line
pub record ItemTree : Type 0 where
  pub name : List ℕ
  pub markers : List MarkerTree

-- a permutation line
abbrev pub LineTree : Type 0
LineTree = List ItemTree

-- what stands before the sessions
pub record FrontTree : Type 0 where
  pub setups : List BlockTree
  pub teardown : Option BlockTree

-- a spec file
pub record SpecTree : Type 0 where
  pub front : FrontTree
  pub sessions : List SessionTree
  pub lines : List LineTree
