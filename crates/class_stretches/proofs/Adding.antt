-- What is kept stays in form when ranks are added.
use Rattle.std.proofs.Common.{refl, ℕ, ◌<◌, Option, arith}
use Rattle.class_stretches.specs.Stretches.{end_of, Stretched, IsStretched, MayCome, with_class, IsPushed}
use Rattle.class_stretches.specs.Growing.{pushed}
use Rattle.class_stretches.proofs.Ranks.{pushed-stretches, pushed-end, pushed-before, pushed-behind, pushed-order}

-- with ranks of a class up to a new end
abbrev pub with_ranks_to : Stretched → ℕ → Option ℕ → Stretched
with_ranks_to s end class = record { list = pushed s.list end class; classes = with_class s.classes class }

pub pushed-stretched : (s : Stretched) (end : ℕ) (class : Option ℕ) → IsStretched s → end_of s.list < end → MayCome s.classes class
    → IsStretched (with_ranks_to s end class)
pushed-stretched s end class is more come = record {
  stretches = pushed-stretches 0 s.list end class is.stretches more;
  order = pushed-order 0 s.list s.classes end class is.order come;
}

pub pushed-facts : (s : Stretched) (end : ℕ) (class : Option ℕ) → IsStretched s → end_of s.list < end → IsPushed s (with_ranks_to s end class) end class
pushed-facts s end class is more = record {
  before = λ r lt. pushed-before 0 s.list end class r is.stretches more (omega arith) lt;
  behind = λ r ge lt. pushed-behind 0 s.list end class r is.stretches ge lt;
  ends = pushed-end 0 s.list end class;
  classes = refl;
}
